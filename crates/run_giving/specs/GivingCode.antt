-- What a giving leaves in the words of one process's part. These definitions follow the code; that they are document
-- 01's is proved in proofs/.
use Rattle.std.specs.Prelude.{ℕ, zero, suc, ◌*◌, ◌%◌, cond, List, ltb, set}
use Rattle.table.specs.Table.{offset_of}
use Rattle.run_store.specs.declared.values.Val.{Val}
use Rattle.run_store.specs.declared.head.Head.{Head}
use Rattle.run_store.specs.StoreCode.{head_of, put_top, stepped, started_head, put_status, emptied_by}
use Rattle.run_values.specs.ValuesCode.{on_top, drop_to}
use Rattle.run_gates.specs.GatesCode.{drop_two}

unfoldable pub thing_given : List ℕ → Val → List ℕ
thing_given w v = emptied_by w v ((24 * (head_of w).frames) % 65536)

unfoldable pub given_words : List ℕ → Val → List ℕ
given_words w v = cond (ltb v.tag 3) w (thing_given w v)

unfoldable pub sent_words : List ℕ → Val → List ℕ
sent_words w v = given_words (drop_two w (head_of w)) v

unfoldable pub received_words : List ℕ → Val → List ℕ
received_words w v = on_top w (head_of w) v

-- a process that starts, its head put back
unfoldable pub started_words : List ℕ → Head → List ℕ
started_words w h = put_top (set (put_status w h) 8 h.method) h

unfoldable pub began_words : List ℕ → List ℕ → ℕ → List ℕ
began_words p w m = started_words w (started_head (head_of w) m (offset_of p m))

unfoldable pub popped_once : List ℕ → List ℕ
popped_once w = drop_to w (head_of w) (head_of w).place

unfoldable pub popped_by : List ℕ → ℕ → List ℕ
popped_by w zero = w
popped_by w (suc j) = popped_once (popped_by w j)

unfoldable pub stayed : List ℕ → List ℕ
stayed w = put_top w (stepped (head_of w))

unfoldable pub arguments_popped : List ℕ → ℕ → List ℕ
arguments_popped w n = stayed (popped_by w n)
