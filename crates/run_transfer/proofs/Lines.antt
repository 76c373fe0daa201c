-- The kind 6 lines of a FORK in the words of the trace are the lines of the definitions.
use Prim.Native.Nat.{ℕ, zero, suc, ◌+◌, ◌*◌, ◌-◌, ◌%◌, ◌≤◌, ◌<◌}
use mathlib.Core.Path.{◌≡◌, refl, sym, ◌∙◌, ap, ap₂, subst}
use mathlib.Core.Bool.{true, false, cond}
use mathlib.Core.List.{List, [], ◌∷◌, ◌++◌, map, reverse, append_assoc, append-nil}
use native.Mathlib.Nat.{mod-eq_of_lt}
use native.Mathlib.Omega.{arith}
use lib.ListN.{get_or, take, length, length-append, length-map, length-reverse}
use lib.Seq.{take-suc, length-take-le}
use lib.Dec.{leb}
use Rattle.lists.proofs.Any.{All-get_d, All-take, All-reverse}
use Rattle.machine.specs.Value.{Thing, qubit, channel, end, Value, empty, int, bool, ref, thing_kind, thing_no}
use Rattle.machine.specs.State.{Frame, Config, Line, line_of, gave}
use Rattle.machine.specs.Entry.{things_of}
use Rattle.machine.specs.Sound.{Made, ValueSound}
use Rattle.machine.specs.Answer.{trace_after}
use Rattle.machine.proofs.Reachable.{Running}
use Rattle.layout.specs.Layout.{value_words, encode}
use Rattle.layout.proofs.Frames.{tag_of, number_of}
use Rattle.run_store.specs.declared.values.Val.{Val}
use Rattle.run_store.proofs.Vals.{val_of}
use Rattle.trace_lines.specs.WrittenCode.{with_line}
use Rattle.trace_lines.proofs.LineWritten.{line-written}
use Rattle.run_parts.proofs.Encoded.{Laid}
use Rattle.run_transfer.specs.TransferCode.{operand_of}
use Rattle.run_transfer.specs.ForkLinesCode.{Gifts, gifts, things_in, gift_added, gifts_added}
use Rattle.run_giving.proofs.Parted.{things-more}
use Rattle.run_transfer.proofs.Stored.{operand_at}

-- the lines of what is given, in order
abbrev pub gift_lines : ℕ → ℕ → ℕ → List Value → List Line
gift_lines k n to vs = map (line_of k n) (map (gave to) (things_of vs))

module _ (c : Config) (few_q : c.qubits ≤ 32) (few_c : c.channels ≤ 16) where
  -- a thing's number fits a line
  small : (t : Thing) → Made c t → thing_no t % 65536 ≡ thing_no t
  unfolding thing_no
  small (qubit n) h = mod-eq_of_lt (omega (arith, few_q))
  small (channel n) h = mod-eq_of_lt (omega (arith, few_c))
  small (end n d) h = mod-eq_of_lt (omega (arith, few_c))

  -- one thing's line after the lines ls
  one-gift : (t : Thing) (ls : List Line) (t0 : List ℕ) (k n to : ℕ) → Made c t → 6 * (length ls + 1) ≤ length t0
      → with_line (trace_after ls t0) (length ls)
      (record { entry = k; process = n; kind = 6; a = to; b = thing_kind t; c = thing_no t % 65536 })
      ≡ trace_after (ls ++ (line_of k n (gave to t) ∷ [])) t0
  one-gift t ls t0 k n to h room =
      ap (λ (i : ℕ). with_line (trace_after ls t0) (length ls)
      (record { entry = k; process = n; kind = 6; a = to; b = thing_kind t; c = i })) (small t h)
      ∙ line-written ls t0 (line_of k n (gave to t)) (omega arith)

  -- one value's lines
  pub gift-added : (v : Value) (ls : List Line) (t0 : List ℕ) (k n to : ℕ) → ValueSound c v
      → 6 * (length ls + length (things_of (v ∷ []))) ≤ length t0
      → gift_added (gifts (length ls) (trace_after ls t0)) k n to (val_of v)
      ≡ gifts (length (ls ++ gift_lines k n to (v ∷ []))) (trace_after (ls ++ gift_lines k n to (v ∷ [])) t0)
  unfolding gift_added val_of tag_of number_of value_words things_of thing_kind thing_no
  gift-added empty ls t0 k n to h room =
      sym (ap (λ (l : List Line). gifts (length l) (trace_after l t0)) (append-nil ls))
  gift-added (int z) ls t0 k n to h room =
      sym (ap (λ (l : List Line). gifts (length l) (trace_after l t0)) (append-nil ls))
  gift-added (bool b) ls t0 k n to h room =
      sym (ap (λ (l : List Line). gifts (length l) (trace_after l t0)) (append-nil ls))
  gift-added (ref (qubit i)) ls t0 k n to h room =
      ap₂ gifts (sym (length-append ls (line_of k n (gave to (qubit i)) ∷ []))) (one-gift (qubit i) ls t0 k n to h room)
  gift-added (ref (channel i)) ls t0 k n to h room =
      ap₂ gifts (sym (length-append ls (line_of k n (gave to (channel i)) ∷ [])))
      (one-gift (channel i) ls t0 k n to h room)
  gift-added (ref (end i true)) ls t0 k n to h room =
      ap₂ gifts (sym (length-append ls (line_of k n (gave to (end i true)) ∷ [])))
      (one-gift (end i true) ls t0 k n to h room)
  gift-added (ref (end i false)) ls t0 k n to h room =
      ap₂ gifts (sym (length-append ls (line_of k n (gave to (end i false)) ∷ [])))
      (one-gift (end i false) ls t0 k n to h room)

-- a value counts if it is a thing
thing-counts : (v : Value) (x : ℕ) → cond (leb 3 (val_of v).tag) (x + 1) x ≡ x + length (things_of (v ∷ []))
unfolding val_of tag_of value_words things_of
thing-counts empty x = omega arith
thing-counts (int z) x = omega arith
thing-counts (bool b) x = omega arith
thing-counts (ref (qubit n)) x = refl
thing-counts (ref (channel n)) x = refl
thing-counts (ref (end n true)) x = refl
thing-counts (ref (end n false)) x = refl

map-append : {A B : Type 0} (g : A → B) (xs ys : List A) → map g (xs ++ ys) ≡ map g xs ++ map g ys
map-append g [] ys = refl
map-append {B = B} g (x ∷ xs) ys = ap {B = List B} (λ l. g x ∷ l) (map-append g xs ys)

gifts-more : (k n to : ℕ) (vs : List Value) (v : Value)
    → gift_lines k n to (vs ++ (v ∷ [])) ≡ gift_lines k n to vs ++ gift_lines k n to (v ∷ [])
gifts-more k n to vs v =
    ap (λ (ts : List Thing). map (line_of k n) (map (gave to) ts)) (things-more vs v)
    ∙ ap (map (line_of k n)) (map-append (gave to) (things_of vs) (things_of (v ∷ [])))
    ∙ map-append (line_of k n) (map (gave to) (things_of vs)) (map (gave to) (things_of (v ∷ [])))

gifts-count : (k n to : ℕ) (vs : List Value) → length (gift_lines k n to vs) ≡ length (things_of vs)
gifts-count k n to vs = length-map (map (gave to) (things_of vs)) (line_of k n) ∙ length-map (things_of vs) (gave to)

-- the arguments of the process at work
module _ {p : List ℕ} {c : Config} (laid : Laid c) (rest : List ℕ) {n : ℕ} {f : Frame} {fs : List Frame}
    (live : Running p c n f fs)
    (few_q : c.qubits ≤ 32) (few_c : c.channels ≤ 16) (args : ℕ) (enough : args ≤ length f.pending) where
  abbrev given : List Value
  given = reverse (take args f.pending)

  given-count : length given ≡ args
  given-count = length-reverse (take args f.pending) ∙ length-take-le args f.pending enough

  given-sound : (j : ℕ) → ValueSound c (get_or given j empty)
  given-sound j =
      All-get_d (ValueSound c) given j empty
      (All-reverse (ValueSound c) (take args f.pending)
      (All-take (ValueSound c) args f.pending live.busy.stack.sound.0.pending)) tt

  read : (j : ℕ) → j < args → operand_of (encode c ++ rest) n (args - j) ≡ val_of (get_or given j empty)
  read j h = operand_at live.busy.stack c laid rest n live.made live.stands args j h enough

  things-next : (j : ℕ) → j < args
      → things_of (take (suc j) given) ≡ things_of (take j given) ++ things_of (get_or given j empty ∷ [])
  things-next j h =
      ap things_of (take-suc given j empty (omega (arith, given-count)))
      ∙ things-more (take j given) (get_or given j empty)

  pub things-counted : (j : ℕ) → j ≤ args → things_in (encode c ++ rest) n args j ≡ length (things_of (take j given))
  unfolding things_in things_of
  things-counted zero h = refl
  things-counted (suc j) h =
      ap₂ (λ (v : Val) (x : ℕ). cond (leb 3 v.tag) (x + 1) x) (read j h) (things-counted j (omega arith))
      ∙ thing-counts (get_or given j empty) (length (things_of (take j given)))
      ∙ sym (ap length (things-next j h) ∙ length-append (things_of (take j given)) (things_of (get_or given j empty ∷ [])))

  -- fewer arguments give fewer things
  things-fewer : (j : ℕ) → j ≤ args → length (things_of (take j given)) ≤ length (things_of (take args given))
  things-fewer j h = go (args - j) j (omega arith)
    where
      go : (d j : ℕ) → j + d ≡ args → length (things_of (take j given)) ≤ length (things_of (take args given))
      go zero j e =
          subst (λ (i : ℕ). length (things_of (take i given)) ≤ length (things_of (take args given))) {x = args} {y = j}
          (omega (arith, e)) (omega arith)
      go (suc d) j e =
          omega (
            arith,
            go d (suc j) (omega (arith, e)),
            ap length (things-next j (omega (arith, e))),
            length-append (things_of (take j given)) (things_of (get_or given j empty ∷ [])),
          )

  pub gifts-written : (ls : List Line) (t0 : List ℕ) (k to j : ℕ) → j ≤ args
      → 6 * (length ls + length (things_of (take args given))) ≤ length t0
      → gifts_added (gifts (length ls) (trace_after ls t0)) (encode c ++ rest) k n to args j
      ≡ gifts (length (ls ++ gift_lines k n to (take j given))) (trace_after (ls ++ gift_lines k n to (take j given)) t0)
  unfolding gifts_added things_of
  gifts-written ls t0 k to zero h room =
      sym (ap (λ (l : List Line). gifts (length l) (trace_after l t0)) (append-nil ls))
  gifts-written ls t0 k to (suc j) h room =
      ap₂ (λ (g : Gifts) (v : Val). gift_added g k n to v) (gifts-written ls t0 k to j (omega arith) room) (read j h)
      ∙ gift-added c few_q few_c (get_or given j empty) (ls ++ gift_lines k n to (take j given)) t0 k n to (given-sound j)
      fits
      ∙ ap (λ (l : List Line). gifts (length l) (trace_after l t0)) same
    where
      fits :
          6 * (length (ls ++ gift_lines k n to (take j given)) + length (things_of (get_or given j empty ∷ []))) ≤ length t0
      fits =
          omega (
            arith,
            room,
            length-append ls (gift_lines k n to (take j given)),
            gifts-count k n to (take j given),
            ap length (things-next j h),
            length-append (things_of (take j given)) (things_of (get_or given j empty ∷ [])),
            things-fewer (suc j) h,
          )

      same :
          (ls ++ gift_lines k n to (take j given)) ++ gift_lines k n to (get_or given j empty ∷ []) ≡ ls ++ gift_lines k n to
          (take (suc j) given)
      same =
          append_assoc ls (gift_lines k n to (take j given)) (gift_lines k n to (get_or given j empty ∷ []))
          ∙ ap (λ (l : List Line). ls ++ l)
          (sym (gifts-more k n to (take j given) (get_or given j empty))
          ∙ ap (gift_lines k n to) (sym (take-suc given j empty (omega (arith, h, given-count)))))
