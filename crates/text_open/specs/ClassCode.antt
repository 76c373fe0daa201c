-- Names in 251 classes, by their bytes: a pass over the text looks at the names of one class alone, or at all of them.
use Rattle.std.specs.Prelude.{ℕ, ◌+◌, ◌*◌, ◌%◌, Bool, not, ◌&&◌, ◌||◌, List, [], ◌∷◌, eqb, ltb}

unfoldable pub mixed : ℕ → ℕ → ℕ
mixed h x = (31 * h + x) % 251

unfoldable pub hash_from : ℕ → List ℕ → ℕ
hash_from h [] = h
hash_from h (x ∷ xs) = hash_from (mixed h x) xs

-- the pass looks at the name
unfoldable pub in_class : Bool → ℕ → List ℕ → Bool
in_class all class x = all || eqb (hash_from 0 x) class

-- one of the passes before that of this class did
unfoldable pub in_past : ℕ → List ℕ → Bool
in_past class x = ltb (hash_from 0 x) class

-- A pass over all names ends where one of them does not fit.
unfoldable pub fits_in : Bool → ℕ → Bool
fits_in all n = not (all && ltb 1024 n)
