-- A part lent of a slice is the part between its places.
use Prim.Native.Nat.{ℕ, zero, suc, ◌+◌, ◌-◌, ◌≤◌}
use native.Mathlib.Nat.{zero-add}
use native.Mathlib.Omega.{arith}
use mathlib.Core.Path.{◌≡◌, refl, sym, ap, ◌∙◌}
use mathlib.Core.List.{List, [], ◌∷◌}
use lib.ListN.{take, drop}
use lib.Seq.{slice}

take-drop : (s n : ℕ) (xs : List ℕ) → take n (drop s xs) ≡ drop s (take (s + n) xs)
take-drop zero n xs = ap (λ (k : ℕ). take k xs) (sym (zero-add n))
take-drop (suc s) zero [] = let e : suc s + 0 ≡ suc (s + 0) = omega arith in rw e refl
take-drop (suc s) (suc n) [] = let e : suc s + suc n ≡ suc (s + suc n) = omega arith in rw e refl
take-drop (suc s) n (x ∷ xs) =
    let e : suc s + n ≡ suc (s + n) = omega arith in
    take-drop s n xs ∙ ap (λ (k : ℕ). drop (suc s) (take k (x ∷ xs))) (sym e)

pub part_slice : (s e : ℕ) (xs : List ℕ) → s ≤ e → take (e - s) (drop s xs) ≡ slice s e xs
part_slice s e xs h =
    let whole : s + (e - s) ≡ e = omega arith in
    take-drop s (e - s) xs ∙ ap (λ (k : ℕ). drop s (take k xs)) whole
