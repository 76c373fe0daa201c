-- Question 2: where a pair must start, and its test as the code asks it.
use Prim.Native.Nat.{ℕ, ◌+◌, ◌-◌, ◌≤◌}
use native.Mathlib.Omega.{arith}
use native.Mathlib.Numerals.{add-one}
use mathlib.Core.Bool.{Bool, ◌&&◌}
use mathlib.Core.Path.{◌≡◌, refl, sym, ap, ◌∙◌}
use mathlib.Core.List.{List}
use lib.Dec.{eqb, leb}
use Rattle.table.specs.Table.{offset_of, length_of, end_of}
use Rattle.table.specs.Questions.{start_of, pair_kept}

pub start-begins : (p : List ℕ) → 0 ≡ start_of p 0
unfolding start_of
start-begins p = refl

pub start-next : (p : List ℕ) (m : ℕ) → end_of p m ≡ start_of p (m + 1)
unfolding start_of
start-next p m = rw add-one refl

pub start-of : (p : List ℕ) (m : ℕ) → 1 ≤ m → start_of p m ≡ end_of p (m - 1)
start-of p m h = ap (start_of p) (omega arith) ∙ sym (start-next p (m - 1))

pub pair-tested : (p : List ℕ) (m : ℕ) {start : ℕ} {b : Bool} → start ≡ start_of p m
    → b ≡ (eqb (offset_of p m) start && leb 1 (length_of p m)) → pair_kept p m ≡ b
unfolding pair_kept
pair-tested p m e q = cc
