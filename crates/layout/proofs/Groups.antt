-- Laws of padded lists and of groups of words: what was written group by group is read back so.
use Prim.Native.Nat.{ℕ, ◌+◌, ◌*◌, ◌-◌, ◌≤◌}
use mathlib.Core.Path.{◌≡◌, refl, sym, ◌∙◌, ap, ap₂}
use mathlib.Core.List.{List, [], ◌∷◌, ◌++◌, map, zip_with, flatten, append_assoc}
use native.Mathlib.Nat.{suc-mul, zero-mul}
use native.Mathlib.Omega.{arith}
use lib.ListN.{take, drop, length, replicate, length-append, length-replicate}
use lib.Seq.{take_at, drop_at}
use Rattle.lists.specs.Lists.{All}
use Rattle.layout.specs.Layout.{padded, groups}

-- padded

pub padded-length : (n : ℕ) (ws : List ℕ) → length ws ≤ n → length (padded n ws) ≡ n
unfolding padded
padded-length n ws h =
    length-append ws (replicate (n - length ws) 0)
    ∙ ap (λ (k : ℕ). length ws + k) (length-replicate (n - length ws) 0)
    ∙ omega arith

pub padded-drop : (n : ℕ) (ws rest : List ℕ) → length ws ≤ n → drop n (padded n ws ++ rest) ≡ rest
padded-drop n ws rest h = drop_at (padded n ws) rest n (padded-length n ws h)

-- groups

pub flatten-length : (size : ℕ) (gs : List (List ℕ)) → All (λ g. length g ≡ size) gs
    → length (flatten gs) ≡ length gs * size
unfolding flatten
flatten-length size [] a = sym (zero-mul size)
flatten-length size (g ∷ gs) a =
    length-append g (flatten gs)
    ∙ ap₂ ◌+◌ a.0 (flatten-length size gs a.1)
    ∙ omega (arith, suc-mul (length gs) size)

groups-flatten : (size : ℕ) (gs : List (List ℕ)) (rest : List ℕ) → All (λ g. length g ≡ size) gs
    → groups size (length gs) (flatten gs ++ rest) ≡ gs
unfolding groups flatten
groups-flatten size [] rest a = refl
groups-flatten size (g ∷ gs) rest a =
    ap₂ {C = List (List ℕ)} (λ h hs. h ∷ hs)
    (ap (take size) (append_assoc g (flatten gs) rest) ∙ take_at g (flatten gs ++ rest) size a.0)
    (ap (groups size (length gs))
    (ap (drop size) (append_assoc g (flatten gs) rest) ∙ drop_at g (flatten gs ++ rest) size a.0)
    ∙ groups-flatten size gs rest a.1)

pub groups-padded : (size n k : ℕ) (gs : List (List ℕ)) (rest : List ℕ) → All (λ g. length g ≡ size) gs → k ≡ length gs
    → groups size k (padded n (flatten gs) ++ rest) ≡ gs
unfolding padded
groups-padded size n k gs rest a e =
    ap₂ (groups size) e (append_assoc (flatten gs) (replicate (n - length (flatten gs)) 0) rest)
    ∙ groups-flatten size gs (replicate (n - length (flatten gs)) 0 ++ rest) a

-- maps

pub map_back : {A B : Type 0} (f : A → B) (g : B → A) (xs : List A) → All (λ x. g (f x) ≡ x) xs → map g (map f xs) ≡ xs
map_back f g [] a = refl
map_back {A} f g (x ∷ xs) a = ap₂ {C = List A} (λ y ys. y ∷ ys) a.0 (map_back f g xs a.1)

pub zip-back : {A B C : Type 0} (f : A → B) (g : A → C) (h : B → C → A) (xs : List A) → All (λ x. h (f x) (g x) ≡ x) xs
    → zip_with h (map f xs) (map g xs) ≡ xs
unfolding zip_with
zip-back f g h [] a = refl
zip-back {A} f g h (x ∷ xs) a = ap₂ {C = List A} (λ y ys. y ∷ ys) a.0 (zip-back f g h xs a.1)
