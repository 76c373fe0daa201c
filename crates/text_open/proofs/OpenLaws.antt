-- The entries of the slice are the names of the blocks that are open.
use Prim.Native.Nat.{ℕ, zero, suc, ◌+◌, ◌*◌, ◌≤◌, ◌<◌}
use native.Mathlib.Omega.{arith}
use mathlib.Core.Path.{◌≡◌, refl, sym, ap, ◌∙◌}
use mathlib.Core.Bool.{Bool, true, false, cond, not, ◌&&◌, ◌||◌}
use mathlib.Core.List.{List, [], ◌∷◌, ◌++◌}
use lib.Dec.{eqb, eqb→eq, leb, ltb}
use lib.ListN.{length, get_or, set, length-set}
use lib.Seq.{slice, get_or-set_same, get_or-set_other}
use borrow.Author.Tests.{le-leb, lt-leb}
use Rattle.lists.specs.Lists.{same, any}
use Rattle.lists.proofs.Tests.{passes, never}
use Rattle.lists.proofs.Laws.{same-equal}
use Rattle.text.specs.Tree.{Name}
use Rattle.text_scan.specs.FaultsCode.{Blocks, with_name, without_block}
use Rattle.text_roles.specs.FoundCode.{level_of, found_in, blocks_after}
use Rattle.text_roles.proofs.ByRole.{Other, by-role}
use Rattle.text_roles.proofs.Levels.{no-level, or-true, or-false, some_level, level-test}
use Rattle.text_open.specs.OpenCode.{Declared, entry_of, open_of, is_this, is_open, leaving, open_after, names_at, declared_in}

-- The last of m entries

module _ (text words : List ℕ) (m j : ℕ) (e : m ≡ suc j) where
  open-top : open_of text words m ≡ entry_of text words j ∷ open_of text words j
  unfolding open_of
  open-top = ap (open_of text words) e

  pub top-is : (least : ℕ) (x : List ℕ) → true ≡ is_this least x (entry_of text words j)
      → true ≡ is_open least x (open_of text words m)
  unfolding is_open
  top-is least x q =
      ap (λ (b : Bool). b || is_open least x (open_of text words j)) q ∙ sym (ap (is_open least x) open-top)

  pub top-is-not : (least : ℕ) (x : List ℕ) → false ≡ is_this least x (entry_of text words j)
      → is_open least x (open_of text words m) ≡ is_open least x (open_of text words j)
  unfolding is_open
  top-is-not least x q =
      ap (is_open least x) open-top ∙ ap (λ (b : Bool). b || is_open least x (open_of text words j)) (sym q)

  pub top-leaves : (level : ℕ) → level ≤ get_or words (3 * j + 2) 0
      → leaving level (open_of text words m) ≡ leaving level (open_of text words j)
  unfolding leaving entry_of
  top-leaves level l =
      ap (leaving level) open-top
      ∙ ap (λ (b : Bool). cond b (leaving level (open_of text words j))
      (entry_of text words j ∷ open_of text words j)) (le-leb level (get_or words (3 * j + 2) 0) l)

  pub top-stays : (level : ℕ) → get_or words (3 * j + 2) 0 < level
      → leaving level (open_of text words m) ≡ open_of text words m
  unfolding leaving entry_of
  top-stays level l =
      ap (leaving level) open-top
      ∙ ap (λ (b : Bool). cond b (leaving level (open_of text words j))
      (entry_of text words j ∷ open_of text words j)) (lt-leb level (get_or words (3 * j + 2) 0) l) ∙ sym open-top

-- no entries
pub none_open : (text words : List ℕ) → open_of text words 0 ≡ []
unfolding open_of
none_open text words = refl

module _ (text words : List ℕ) (m : ℕ) (e : m ≡ 0) where
  pub looked-through : (least : ℕ) (x : List ℕ) → is_open least x (open_of text words m) ≡ false
  unfolding open_of is_open
  looked-through least x = ap (λ (i : ℕ). is_open least x (open_of text words i)) e

  pub all_left : (level : ℕ) → leaving level (open_of text words m) ≡ open_of text words m
  unfolding open_of leaving
  all_left level =
      ap (λ (i : ℕ). leaving level (open_of text words i)) e ∙ sym (ap (open_of text words) e)

-- the tests of an entry
pub is-shallow : (text words : List ℕ) (j least : ℕ) (x : List ℕ) → get_or words (3 * j + 2) 0 < least
    → false ≡ is_this least x (entry_of text words j)
unfolding is_this entry_of
is-shallow text words j least x l = rw (lt-leb least (get_or words (3 * j + 2) 0) l) refl

pub is-deep : (text words : List ℕ) (j least : ℕ) (x : List ℕ) → least ≤ get_or words (3 * j + 2) 0
    → same x (slice (get_or words (3 * j) 0) (get_or words (3 * j + 1) 0) text) ≡ is_this least x (entry_of text words j)
unfolding is_this entry_of
is-deep text words j least x l = rw (le-leb least (get_or words (3 * j + 2) 0) l) refl

-- An entry more

module _ (text words : List ℕ) (n s e l : ℕ) where
  abbrev pub more : List ℕ
  more = set (set (set words (3 * n) s) (3 * n + 1) e) (3 * n + 2) l

  below-kept : (i : ℕ) → i < 3 * n → get_or more i 0 ≡ get_or words i 0
  below-kept i h =
      get_or-set_other (set (set words (3 * n) s) (3 * n + 1) e) (3 * n + 2) i l 0 (λ q. omega arith)
      ∙ get_or-set_other (set words (3 * n) s) (3 * n + 1) i e 0 (λ q. omega arith)
      ∙ get_or-set_other words (3 * n) i s 0 (λ q. omega arith)

  open_kept : (j : ℕ) → j ≤ n → open_of text more j ≡ open_of text words j
  unfolding open_of entry_of
  open_kept zero h = refl
  open_kept (suc j) h =
      rw (
        below-kept (3 * j) (omega arith),
        below-kept (3 * j + 1) (omega arith),
        below-kept (3 * j + 2) (omega arith),
      ) (ap (λ ds. entry_of text words j ∷ ds) (open_kept j (omega arith)))

  module _ (room : 3 * n + 2 < length words) where
    first_word : get_or more (3 * n) 0 ≡ s
    first_word =
        get_or-set_other (set (set words (3 * n) s) (3 * n + 1) e) (3 * n + 2) (3 * n) l 0 (λ q. omega arith)
        ∙ get_or-set_other (set words (3 * n) s) (3 * n + 1) (3 * n) e 0 (λ q. omega arith)
        ∙ get_or-set_same words (3 * n) s 0 (omega arith)

    second_word : get_or more (3 * n + 1) 0 ≡ e
    second_word =
        get_or-set_other (set (set words (3 * n) s) (3 * n + 1) e) (3 * n + 2) (3 * n + 1) l 0 (λ q. omega arith)
        ∙ get_or-set_same (set words (3 * n) s) (3 * n + 1) e 0 (omega (arith, length-set words (3 * n) s))

    third-word : get_or more (3 * n + 2) 0 ≡ l
    third-word =
        get_or-set_same (set (set words (3 * n) s) (3 * n + 1) e) (3 * n + 2) l 0
        (omega (arith, length-set words (3 * n) s, length-set (set words (3 * n) s) (3 * n + 1) e))

    pub open_more : open_of text more (n + 1) ≡ record { level = l; bytes = slice s e text } ∷ open_of text words n
    unfolding open_of entry_of
    open_more =
        ap (open_of text more) {x = n + 1} {y = suc n} (omega arith)
        ∙ rw (first_word, second_word, third-word)
        (ap (λ ds. record { level = l; bytes = slice s e text } ∷ ds) (open_kept n (omega arith)))

-- Blocks, of which the names that pass a test are entered

abbrev at_level : ℕ → Name → Declared
at_level l y = record { level = l; bytes = y.spelling }

module _ (test : List ℕ → Bool) where
  -- a block of names at one level is left
  leaves-block : (l : ℕ) (b : List Name) (ds : List Declared) → leaving l (names_at test l b ++ ds) ≡ leaving l ds
  unfolding leaving names_at
  leaves-block l [] ds = refl
  leaves-block l (y ∷ b) ds = by (test y.spelling) (leaves-block l b ds)
    where
      by : (t : Bool) → leaving l (names_at test l b ++ ds) ≡ leaving l ds
          → leaving l (cond t (at_level l y ∷ names_at test l b) (names_at test l b) ++ ds) ≡ leaving l ds
      by true e = rw (le-leb l l (omega arith)) e
      by false e = e

  -- those of lower levels are not
  lower-stays : (l k : ℕ) (b : List Name) (ds : List Declared) → k < l → leaving l ds ≡ ds
      → leaving l (names_at test k b ++ ds) ≡ names_at test k b ++ ds
  unfolding leaving names_at
  lower-stays l k [] ds h e = e
  lower-stays l k (y ∷ b) ds h e = by (test y.spelling) (lower-stays l k b ds h e)
    where
      by : (t : Bool) → leaving l (names_at test k b ++ ds) ≡ names_at test k b ++ ds
          → leaving l (cond t (at_level k y ∷ names_at test k b) (names_at test k b) ++ ds)
          ≡ cond t (at_level k y ∷ names_at test k b) (names_at test k b) ++ ds
      by true q = rw (lt-leb l k h) refl
      by false q = q

  outer-stays : (l : ℕ) (bs : Blocks) → length bs < l → leaving l (declared_in test bs) ≡ declared_in test bs
  unfolding leaving declared_in
  outer-stays l [] h = refl
  outer-stays l (b ∷ bs) h =
      lower-stays l (suc (length bs)) b (declared_in test bs) h (outer-stays l bs (omega arith))

  without-same : (b : List Name) (bs : Blocks) → declared_in test (without_block (b ∷ bs)) ≡ declared_in test bs
  unfolding without_block declared_in names_at
  without-same b [] = refl
  without-same b (c ∷ bs) = refl

  block-left : (b : List Name) (bs : Blocks)
      → leaving (suc (length bs)) (declared_in test (b ∷ bs)) ≡ declared_in test (without_block (b ∷ bs))
  unfolding declared_in
  block-left b bs =
      leaves-block (suc (length bs)) b (declared_in test bs) ∙ outer-stays (suc (length bs)) bs (omega arith)
      ∙ sym (without-same b bs)

  -- the entries after a token are the names of the blocks after it; a name that does not pass is not declared
  abbrev After : ℕ → Name → Blocks → ℕ → Type 0
  After braces y bs r =
      ((eqb r 7 || eqb r 8) ≡ true → braces ≡ length bs)
      → open_after braces (cond (eqb r 2 && not (test y.spelling)) 0 r) y.spelling (declared_in test bs)
      ≡ declared_in test (blocks_after r y bs)

  after-other : (braces : ℕ) (y : Name) (bs : Blocks) (r : ℕ) → Other r → After braces y bs r
  unfolding blocks_after open_after
  after-other braces y bs r o h =
      ap (λ (t : Bool). open_after braces (cond (t && not (test y.spelling)) 0 r) y.spelling
      (declared_in test bs)) o.not-2
      ∙ rw (o.not-1, o.not-2, o.not-6, o.not-7, o.not-8) refl

  after-declared : (braces : ℕ) (y : Name) (b : List Name) (bs : Blocks) → suc (length bs) ≡ level_of braces
      → open_after braces (cond (not (test y.spelling)) 0 2) y.spelling (declared_in test (b ∷ bs))
      ≡ declared_in test (with_name y (b ∷ bs))
  unfolding with_name declared_in names_at open_after
  after-declared braces y b bs e = by (test y.spelling)
    where
      by : (t : Bool)
          → open_after braces (cond (not t) 0 2) y.spelling (declared_in test (b ∷ bs))
          ≡ cond t (at_level (suc (length bs)) y ∷ names_at test (suc (length bs)) b) (names_at test (suc (length bs)) b)
          ++ declared_in test bs
      by true = ap (λ (l : ℕ). at_level l y ∷ declared_in test (b ∷ bs)) (sym e)
      by false = refl

  pub open-after : (braces : ℕ) (y : Name) (bs : Blocks) → length bs ≡ level_of braces → (r : ℕ) → After braces y bs r
  unfolding blocks_after open_after declared_in names_at
  open-after braces y [] e r = absurd (no-level braces e)
  open-after braces y (b ∷ bs) e r =
      by-role (After braces y (b ∷ bs)) (λ h. refl) (λ h. after-declared braces y b bs e) (λ h. refl) (λ h. refl)
      (λ h. refl) (λ h. refl) closed closed (after-other braces y (b ∷ bs)) r
    where
      closed : (true ≡ true → braces ≡ suc (length bs))
          → leaving braces (declared_in test (b ∷ bs)) ≡ declared_in test (without_block (b ∷ bs))
      closed h = ap (λ (l : ℕ). leaving l (declared_in test (b ∷ bs))) (h refl) ∙ block-left b bs

-- Looking for a name

open-append : (least : ℕ) (x : List ℕ) (ds es : List Declared)
    → is_open least x (ds ++ es) ≡ (is_open least x ds || is_open least x es)
unfolding is_open
open-append least x [] es = refl
open-append least x (d ∷ ds) es =
    by (is_this least x d) (is_open least x (ds ++ es)) (is_open least x ds) (is_open least x es)
    (open-append least x ds es)
  where
    by : (t a b c : Bool) → a ≡ (b || c) → (t || a) ≡ ((t || b) || c)
    by true a b c e = refl
    by false a b c e = e

module _ (test : List ℕ → Bool) (least : ℕ) (x : List ℕ) (passed : test x ≡ true) where
  -- no name that does not pass has the bytes of one that does
  unlike : (y : List ℕ) → test y ≡ false → same x y ≡ false
  unlike y e = by (same x y) refl
    where
      by : (t : Bool) → same x y ≡ t → t ≡ false
      by true q = never (sym e ∙ ap test (sym (same-equal x y (passes q))) ∙ passed)
      by false q = refl

  open_block : (l : ℕ) (b : List Name)
      → is_open least x (names_at test l b) ≡ (leb least l && any (λ (y : Name). same x y.spelling) b)
  unfolding is_open is_this names_at
  open_block l [] = none (leb least l)
    where
      none : (t : Bool) → false ≡ (t && false)
      none true = refl
      none false = refl
  open_block l (y ∷ b) = entered (test y.spelling) refl (open_block l b)
    where
      by : (t d h : Bool) → ((t && d) || (t && h)) ≡ (t && (d || h))
      by true d h = refl
      by false d h = refl

      entered : (t : Bool) → test y.spelling ≡ t
          → is_open least x (names_at test l b) ≡ (leb least l && any (λ (y : Name). same x y.spelling) b)
          → is_open least x (cond t (at_level l y ∷ names_at test l b) (names_at test l b))
          ≡ (leb least l && (same x y.spelling || any (λ (y : Name). same x y.spelling) b))
      entered true e q =
          ap (◌||◌ (leb least l && same x y.spelling)) q
          ∙ by (leb least l) (same x y.spelling) (any (λ (y : Name). same x y.spelling) b)
      entered false e q =
          q ∙ sym (ap (λ (t : Bool). leb least l && (t || any (λ (y : Name). same x y.spelling) b))
          (unlike y.spelling e))

  pub open-found : (bs : Blocks) → is_open least x (declared_in test bs) ≡ ltb 0 (found_in least x bs)
  unfolding declared_in found_in is_open
  open-found [] = refl
  open-found (b ∷ bs) =
      open-append least x (names_at test (suc (length bs)) b) (declared_in test bs)
      ∙ ap (λ (t : Bool). t || is_open least x (declared_in test bs)) (open_block (suc (length bs)) b)
      ∙ by (leb least (suc (length bs)) && any (λ (y : Name). same x y.spelling) b) (eqb (found_in least x bs) 0) refl
      (open-found bs)
    where
      by : (h a : Bool) → eqb (found_in least x bs) 0 ≡ a
          → is_open least x (declared_in test bs) ≡ ltb 0 (found_in least x bs)
          → (h || is_open least x (declared_in test bs))
          ≡ ltb 0 (cond a (cond h (suc (length bs)) 0) (found_in least x bs))
      by h true e i =
          ap (◌||◌ h) (i ∙ ap (ltb 0) (eqb→eq (found_in least x bs) 0 (passes e))) ∙ or-false h
          ∙ sym (level-test (length bs) h)
      by h false e i =
          ap (◌||◌ h) (i ∙ some_level (found_in least x bs) e) ∙ or-true h ∙ sym (some_level (found_in least x bs) e)
