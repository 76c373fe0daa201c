-- The class of a name, byte by byte.
use Prim.Native.Nat.{ℕ, suc, ◌+◌, ◌≤◌, ◌<◌}
use native.Mathlib.Omega.{arith}
use mathlib.Core.Path.{◌≡◌, sym, ap, ◌∙◌}
use mathlib.Core.List.{List}
use lib.ListN.{length, get_or}
use lib.Seq.{slice, slice-cons, slice_empty}
use Rattle.text_open.specs.ClassCode.{mixed, hash_from}

pub hash-step : (text : List ℕ) (h i end x h' : ℕ) → i < end → end ≤ length text → x ≡ get_or text i 0 → h' ≡ mixed h x
    → hash_from h (slice i end text) ≡ hash_from h' (slice (i + 1) end text)
unfolding hash_from
hash-step text h i end x h' l m e f =
    ap (hash_from h) (slice-cons i end text 0 l m)
    ∙ ap (λ (j : ℕ). hash_from (mixed h (get_or text i 0)) (slice j end text)) {x = suc i} {y = i + 1} (omega arith)
    ∙ ap (λ (j : ℕ). hash_from (mixed h j) (slice (i + 1) end text)) (sym e)
    ∙ ap (λ (j : ℕ). hash_from j (slice (i + 1) end text)) (sym f)

pub hash-end : (text : List ℕ) (h i end : ℕ) → i ≡ end → hash_from h (slice i end text) ≡ h
unfolding hash_from
hash-end text h i end e =
    ap (λ (j : ℕ). hash_from h (slice j end text)) e ∙ ap (hash_from h) (slice_empty end text)
