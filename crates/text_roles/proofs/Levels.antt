-- The level that is kept of a name is that of the outermost open block that has it.
use Prim.Native.Nat.{ℕ, zero, suc, ◌≤◌, ◌<◌}
use native.Mathlib.Omega.{arith}
use mathlib.Core.Path.{◌≡◌, refl, sym, ap, ◌∙◌}
use mathlib.Core.Bool.{Bool, true, false, cond, ◌&&◌, ◌||◌}
use mathlib.Core.List.{List, [], ◌∷◌, ◌++◌}
use lib.Dec.{eqb, eqb→eq, leb, ltb}
use lib.ListN.{length}
use borrow.Author.Tests.{eq-eqb, ne_eqb, lt-ltb, le-leb, lt-leb}
use Rattle.lists.specs.Lists.{same, any}
use Rattle.lists.proofs.Tests.{passes}
use Rattle.text.specs.Tree.{Name}
use Rattle.text_scan.specs.FaultsCode.{Blocks, innermost, with_name, without_block, names_in}
use Rattle.text_roles.specs.FoundCode.{level_of, found_after, found_in, blocks_after}
use Rattle.text_roles.proofs.ByRole.{Other, by-role}

abbrev has : List ℕ → List Name → Bool
has x b = any (λ (y : Name). same x y.spelling) b

suc-not-0 : (n : ℕ) → eqb (suc n) 0 ≡ false
suc-not-0 n = ne_eqb (suc n) 0 (λ e. omega arith)

pub no-level : (b : ℕ) → 0 ≡ level_of b → ⊥
unfolding level_of
no-level zero e = omega arith
no-level (suc b) e = omega arith

module _ (least : ℕ) (x : List ℕ) where
  -- a level is that of a block that is open
  found-most : (bs : Blocks) → found_in least x bs ≤ length bs
  unfolding found_in
  found-most [] = omega arith
  found-most (b ∷ bs) =
      by (eqb (found_in least x bs) 0) (leb least (suc (length bs)) && has x b) (found-most bs)
    where
      by : (a c : Bool) → found_in least x bs ≤ length bs
          → cond a (cond c (suc (length bs)) 0) (found_in least x bs) ≤ suc (length bs)
      by true true l = omega arith
      by true false l = omega arith
      by false c l = omega arith

  -- a block is opened
  pub found-opened : (bs : Blocks) → found_in least x ([] ∷ bs) ≡ found_in least x bs
  unfolding found_in
  found-opened bs = by (eqb (found_in least x bs) 0) (leb least (suc (length bs))) refl
    where
      by : (a c : Bool) → eqb (found_in least x bs) 0 ≡ a
          → cond a (cond (c && false) (suc (length bs)) 0) (found_in least x bs) ≡ found_in least x bs
      by true true e = sym (eqb→eq (found_in least x bs) 0 (passes e))
      by true false e = sym (eqb→eq (found_in least x bs) 0 (passes e))
      by false c e = refl

  -- a name is declared in the innermost one
  found_declared : (y : Name) (b : List Name) (bs : Blocks)
      → found_in least x ((y ∷ b) ∷ bs)
      ≡ cond (eqb (found_in least x (b ∷ bs)) 0 && (leb least (suc (length bs)) && same x y.spelling))
      (suc (length bs)) (found_in least x (b ∷ bs))
  unfolding found_in
  found_declared y b bs =
      by (eqb (found_in least x bs) 0) (leb least (suc (length bs))) (same x y.spelling) (has x b) refl
    where
      n : ℕ
      n = suc (length bs)

      by : (a c d h : Bool) → eqb (found_in least x bs) 0 ≡ a
          → cond a (cond (c && (d || h)) (suc (length bs)) 0) (found_in least x bs)
          ≡ cond (eqb (cond a (cond (c && h) (suc (length bs)) 0) (found_in least x bs)) 0 && (c && d))
          (suc (length bs)) (cond a (cond (c && h) (suc (length bs)) 0) (found_in least x bs))
      by true true d true e = rw (suc-not-0 (length bs)) (either d)
        where
          either : (d : Bool) → cond (d || true) (suc (length bs)) 0 ≡ suc (length bs)
          either true = refl
          either false = refl
      by true true true false e = refl
      by true true false false e = refl
      by true false d h e = refl
      by false c d h e = rw e refl

  -- the innermost one is closed
  found-closed : (b : List Name) (bs : Blocks)
      → found_in least x (without_block (b ∷ bs))
      ≡ cond (eqb (found_in least x (b ∷ bs)) (suc (length bs))) 0 (found_in least x (b ∷ bs))
  unfolding found_in without_block
  found-closed b [] = by (leb least 1) (has x b)
    where
      by : (c h : Bool)
          → ◌≡◌ {A = ℕ} (cond (c && false) 1 0) (cond (eqb (cond (c && h) 1 0) 1) 0 (cond (c && h) 1 0))
      by true true = refl
      by true false = refl
      by false h = refl
  found-closed b (d ∷ bs) =
      by (found_in least x (d ∷ bs)) (eqb (found_in least x (d ∷ bs)) 0) (leb least (suc (suc (length bs))) && has x b)
      refl (found-most (d ∷ bs))
    where
      by : (f : ℕ) (a c : Bool) → eqb f 0 ≡ a → f ≤ suc (length bs)
          → f ≡ cond (eqb (cond a (cond c (suc (suc (length bs))) 0) f) (suc (suc (length bs)))) 0
          (cond a (cond c (suc (suc (length bs))) 0) f)
      by f true true e l =
          eqb→eq f 0 (passes e)
          ∙ sym (ap (λ (t : Bool). cond t 0 (suc (suc (length bs))))
          (eq-eqb (suc (suc (length bs))) (suc (suc (length bs))) refl))
      by f true false e l =
          eqb→eq f 0 (passes e)
          ∙ sym (ap (λ (t : Bool). cond t 0 0) (ne_eqb 0 (suc (suc (length bs))) (λ q. omega arith)))
      by f false c e l =
          sym (ap (λ (t : Bool). cond t 0 f) (ne_eqb f (suc (suc (length bs))) (λ q. omega arith)))

  -- after a token, with as many blocks open as the level says
  abbrev After : ℕ → Name → Blocks → ℕ → Type 0
  After braces y bs r =
      ((eqb r 7 || eqb r 8) ≡ true → braces ≡ length bs)
      → found_in least x (blocks_after r y bs) ≡ found_after least braces r (same x y.spelling) (found_in least x bs)

  after-other : (braces : ℕ) (y : Name) (bs : Blocks) (r : ℕ) → Other r → After braces y bs r
  unfolding blocks_after found_after
  after-other braces y bs r o h = rw (o.not-1, o.not-2, o.not-6, o.not-7, o.not-8) refl

  after-named : (braces : ℕ) (y : Name) (bs : Blocks) → found_in least x ([] ∷ []) ≡ 0
  unfolding found_in
  after-named braces y bs = found-opened []

  after-declared : (braces : ℕ) (y : Name) (b : List Name) (bs : Blocks) → suc (length bs) ≡ level_of braces
      → found_in least x (with_name y (b ∷ bs))
      ≡ cond (eqb (found_in least x (b ∷ bs)) 0 && (leb least (level_of braces) && same x y.spelling))
      (level_of braces) (found_in least x (b ∷ bs))
  unfolding with_name
  after-declared braces y b bs e =
      found_declared y b bs
      ∙ ap (λ (n : ℕ). cond (eqb (found_in least x (b ∷ bs)) 0 && (leb least n && same x y.spelling)) n
      (found_in least x (b ∷ bs))) e

  after-closed : (braces : ℕ) (b : List Name) (bs : Blocks) → braces ≡ suc (length bs)
      → found_in least x (without_block (b ∷ bs))
      ≡ cond (eqb (found_in least x (b ∷ bs)) braces) 0 (found_in least x (b ∷ bs))
  after-closed braces b bs e =
      found-closed b bs
      ∙ ap (λ (n : ℕ). cond (eqb (found_in least x (b ∷ bs)) n) 0 (found_in least x (b ∷ bs))) (sym e)

  pub found-after : (braces : ℕ) (y : Name) (bs : Blocks) → length bs ≡ level_of braces → (r : ℕ) → After braces y bs r
  unfolding blocks_after found_after
  found-after braces y [] e r = absurd (no-level braces e)
  found-after braces y (b ∷ bs) e r =
      by-role (After braces y (b ∷ bs)) (λ h. after-named braces y bs) (λ h. after-declared braces y b bs e) (λ h. refl)
      (λ h. refl) (λ h. refl) (λ h. found-opened (b ∷ bs)) (λ h. after-closed braces b bs (h refl))
      (λ h. after-closed braces b bs (h refl)) (after-other braces y (b ∷ bs)) r

  -- no block stands as deep as that
  found_below : (bs : Blocks) → length bs < least → found_in least x bs ≡ 0
  unfolding found_in
  found_below [] l = refl
  found_below (b ∷ bs) l =
      let inner : found_in least x bs ≡ 0 = found_below bs (omega arith) in
      rw (inner, lt-leb least (suc (length bs)) (omega arith)) refl

has-append : (x : List ℕ) (as' bs : List Name) → has x (as' ++ bs) ≡ (has x as' || has x bs)
has-append x [] bs = refl
has-append x (a ∷ as') bs = by (same x a.spelling) (has-append x as' bs)
  where
    by : (t : Bool) → has x (as' ++ bs) ≡ (has x as' || has x bs)
        → (t || has x (as' ++ bs)) ≡ ((t || has x as') || has x bs)
    by true e = refl
    by false e = e

pub or-true : (a : Bool) → (a || true) ≡ true
or-true true = refl
or-true false = refl

pub or-false : (a : Bool) → (a || false) ≡ a
or-false true = refl
or-false false = refl

pub some_level : (n : ℕ) → eqb n 0 ≡ false → ltb 0 n ≡ true
some_level zero e = sym e
some_level (suc n) e = lt-ltb 0 (suc n) (omega arith)

pub level-test : (n : ℕ) (h : Bool) → ltb 0 (cond h (suc n) 0) ≡ h
level-test n true = lt-ltb 0 (suc n) (omega arith)
level-test n false = refl

-- in scope
pub in_scope : (x : List ℕ) (bs : Blocks) → ltb 0 (found_in 1 x bs) ≡ has x (names_in bs)
unfolding found_in names_in
in_scope x [] = refl
in_scope x (b ∷ bs) =
    rw (le-leb 1 (suc (length bs)) (omega arith)) (by (eqb (found_in 1 x bs) 0) refl (in_scope x bs))
    ∙ sym (has-append x b (names_in bs))
  where
    by : (a : Bool) → eqb (found_in 1 x bs) 0 ≡ a → ltb 0 (found_in 1 x bs) ≡ has x (names_in bs)
        → ltb 0 (cond a (cond (has x b) (suc (length bs)) 0) (found_in 1 x bs)) ≡ (has x b || has x (names_in bs))
    by true e i =
        level-test (length bs) (has x b)
        ∙ sym (ap (◌||◌ (has x b)) (sym i ∙ ap (ltb 0) (eqb→eq (found_in 1 x bs) 0 (passes e))) ∙ or-false (has x b))
    by false e i =
        some_level (found_in 1 x bs) e ∙ sym (ap (◌||◌ (has x b)) (sym i ∙ some_level (found_in 1 x bs) e)
        ∙ or-true (has x b))

-- in the innermost block
pub in_block : (x : List ℕ) (bs : Blocks) → ltb 0 (found_in (length bs) x bs) ≡ has x (innermost bs)
unfolding found_in innermost
in_block x [] = refl
in_block x (b ∷ bs) =
    rw (found_below (suc (length bs)) x bs (omega arith), le-leb (suc (length bs)) (suc (length bs)) (omega arith))
    (level-test (length bs) (has x b))
