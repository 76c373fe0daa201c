-- Paper 7: "Store the holder of all 32 qubits and 32 ends in the configuration, on words beyond the present ones": the
-- 64 words after those of the configuration, and the work store that a run leaves. The stored holder is the one that
-- the lines give; docs/LAYOUT.md has the same in words.
use Rattle.std.specs.Prelude.{ℕ, ◌-◌, ◌/◌, ◌%◌, cond, List, ◌++◌, map, drop, ltb}
use Rattle.std.proofs.Math.Option.{Option, none, some}
use Rattle.lists.specs.Lists.{below}
use Rattle.machine.specs.Value.{Thing, qubit, end, side_of}
use Rattle.machine.specs.State.{Line, State}
use Rattle.machine.specs.Owner.{holder}
use Rattle.layout.specs.Layout.{encode}

-- the thing whose holder stands at word 8,192 + i: qubit i, and from 32 on end s of channel c at 32 + 2 * c + s
unfoldable pub thing_at : ℕ → Thing
thing_at i = cond (ltb i 32) (qubit i) (end ((i - 32) / 2) (side_of ((i - 32) % 2)))

-- "255 for a thing not yet made"
unfoldable pub holder_no : Option ℕ → ℕ
holder_no none = 255
holder_no (some n) = n

-- "every stored holder equals the one the lines give"
unfoldable pub holder_words : List Line → List ℕ
holder_words ls = map (λ i. holder_no (holder ls (thing_at i))) (below 64)

-- "the first 8,192 work words hold the final configuration", the next 64 the holders; "words beyond kept"
unfoldable pub store_after : State → List ℕ → List ℕ
store_after s work = encode s.config ++ (holder_words s.lines ++ drop 8256 work)
