-- Finding a method by the index is finding it by tokens: the first entry of a name is that of the first row.
use Prim.Native.Nat.{ℕ, zero, suc, ◌+◌, ◌-◌, ◌*◌, ◌≤◌, ◌<◌}
use native.Mathlib.Omega.{arith}
use mathlib.Core.Path.{◌≡◌, refl, sym, ap, ◌∙◌, subst}
use mathlib.Core.Bool.{Bool, true, false, cond}
use mathlib.Core.List.{List, [], ◌∷◌}
use mathlib.Core.Option.{Option, none, some, none-ne-some, some-injective}
use Rattle.std.specs.Prelude as P
use borrow.Author.Tests.{eqb-true, eqb-false}
use lib.Dec.{eqb}
use lib.ListN.{length, get_or, take, drop, get_elem?}
use lib.Seq.{slice}
use Rattle.lists.specs.Lists.{same}
use Rattle.text_methods.specs.RowsCode.{Row, rows_of, row_of, row_index, Agrees, agrees, no-row, FirstNamed}
use Rattle.text_methods.specs.declared.find.MethodAt.{MethodAt}
use Rattle.text_methods.specs.declared.find.NoSuchMethod.{NoSuchMethod}
use Rattle.text_methods.specs.IndexCode.{Entry, Indexed, entry_name}
use Rattle.text_methods.proofs.Slices.{part_slice}

-- the rows before i have another name than x
abbrev pub Unlike : List ℕ → List Row → ℕ → Type 0
Unlike x rs i = (j : ℕ) (r : Row) → j < i → get_elem? rs j ≡ some r → same x r.name.spelling ≡ false

data There (rs : List Row) (i : ℕ) : Type 0 where
  there : (r : Row) → get_elem? rs i ≡ some r → There rs i

row-there : (rs : List Row) (i : ℕ) → i < length rs → There rs i
row-there [] i h = absurd (omega arith)
row-there (r ∷ rs) zero h = there r refl
row-there (r ∷ rs) (suc i) h = by (row-there rs i (omega arith))
  where
    by : There rs i → There (r ∷ rs) (suc i)
    by (there q e) = there q e

module _ (x : List ℕ) where
  first-there : (rs : List Row) (i : ℕ) (r : Row) → Unlike x rs i → get_elem? rs i ≡ some r
      → same x r.name.spelling ≡ true → (row_of x rs ≡ some r) × (row_index x rs ≡ i)
  unfolding row_of row_index
  first-there [] i r u e s = absurd (none-ne-some r e)
  first-there (q ∷ rs) zero r u e s =
      let here : same x q.name.spelling ≡ true =
      ap (λ (p : Row). same x p.name.spelling) (some-injective q r e) ∙ s in
      (rw here e, rw here refl)
  first-there (q ∷ rs) (suc i) r u e s =
      let later = first-there rs i r (λ j p h. u (suc j) p (omega arith)) e s in
      let unlike : same x q.name.spelling ≡ false = u 0 q (omega arith) refl in
      (rw unlike later.0, rw unlike (ap suc later.1))

  none-there : (rs : List Row) → Unlike x rs (length rs) → (row_of x rs ≡ none) × (row_index x rs ≡ length rs)
  unfolding row_of row_index
  none-there [] u = (refl, refl)
  none-there (q ∷ rs) u =
      let later = none-there rs (λ j p h. u (suc j) p (omega arith)) in
      let unlike : same x q.name.spelling ≡ false = u 0 q (omega arith) refl in
      (rw unlike later.0, rw unlike (ap suc later.1))

module _ (text index x : List ℕ) (ix : Indexed text index) where
  pub look-begins : Unlike x (rows_of text) 0
  look-begins j r h = absurd (omega arith)

  module _ (i : ℕ) (u : Unlike x (rows_of text) i) where
    -- entry i has the name, or another
    pub look-found : i < get_or index 0 0 → i < 32 → same x (entry_name text index i) ≡ true
        → FirstNamed text x (P.Ok (record {
          index = i;
          at = get_or index (4 * i + 3) 0;
          params = get_or index (4 * i + 4) 0;
        }))
    look-found q room s = by (row-there (rows_of text) i (subst (λ (n : ℕ). i < n) ix.count q))
      where
        a : MethodAt
        a = record { index = i; at = get_or index (4 * i + 3) 0; params = get_or index (4 * i + 4) 0 }

        by : There (rows_of text) i → FirstNamed text x (P.Ok a)
        by (there r e) =
            let n : Entry text index i r = ix.entries i r room e in
            let f = first-there x (rows_of text) i r u e (ap (same x) (sym n.spelled) ∙ s) in
            subst (λ o. Agrees text (row_index x (rows_of text)) o (P.Ok a)) (sym f.0)
            (agrees (sym f.1) n.stands n.counted)

    pub look-on : i < 32 → same x (entry_name text index i) ≡ false → Unlike x (rows_of text) (i + 1)
    look-on room s j r h e = by (eqb j i) refl
      where
        by : (b : Bool) → eqb j i ≡ b → same x r.name.spelling ≡ false
        by true q =
            let n : Entry text index i r =
            ix.entries i r room (ap (get_elem? (rows_of text)) (sym (eqb-true j i q)) ∙ e) in
            ap (same x) (sym n.spelled) ∙ s
        by false q =
            let apart : j ≡ i → ⊥ = eqb-false j i q in
            u j r (omega arith) e

    pub look-ends : get_or index 0 0 ≤ i → FirstNamed text x (P.Err (record { methods = get_or index 0 0 }))
    look-ends h =
        let size : get_or index 0 0 ≡ length (rows_of text) = ix.count in
        let f = none-there x (rows_of text) (λ j r l e. u j r (omega arith) e) in
        subst (λ o. Agrees text (row_index x (rows_of text)) o (P.Err (record { methods = get_or index 0 0 })))
        (sym f.0) (no-row (ix.count ∙ sym f.1))

-- where no method has the name, its index is the number of methods
pub none-index : (text x : List ℕ) {n : NoSuchMethod} → FirstNamed text x (P.Err n)
    → row_index x (rows_of text) ≡ length (rows_of text)
unfolding row_of row_index
none-index text x {n} a = by (row_of x (rows_of text)) refl a
  where
    rows : (rs : List Row) → row_of x rs ≡ none → row_index x rs ≡ length rs
    rows [] e = refl
    rows (r ∷ rs) e = cases (same x r.name.spelling) e (rows rs)
      where
        cases : (b : Bool) → cond b (some r) (row_of x rs) ≡ none
            → (row_of x rs ≡ none → row_index x rs ≡ length rs)
            → cond b 0 (suc (row_index x rs)) ≡ suc (length rs)
        cases true q later = absurd (none-ne-some r (sym q))
        cases false q later = ap suc (later q)

    by : (o : Option Row) → row_of x (rows_of text) ≡ o → Agrees text (row_index x (rows_of text)) o (P.Err n)
        → row_index x (rows_of text) ≡ length (rows_of text)
    by none e h = rows (rows_of text) e
    by (some r) e h = elim h [ ]

pub some-index : (text x : List ℕ) (m : MethodAt) → FirstNamed text x (P.Ok m) → m.index ≡ row_index x (rows_of text)
some-index text x m a = by (row_of x (rows_of text)) a
  where
    by : (o : Option Row) → Agrees text (row_index x (rows_of text)) o (P.Ok m)
        → m.index ≡ row_index x (rows_of text)
    by none h = elim h [ ]
    by (some r) (agrees i t n) = i

pub missing-index : (text x : List ℕ) (n : NoSuchMethod) → FirstNamed text x (P.Err n)
    → n.methods ≡ row_index x (rows_of text)
missing-index text x n a = by (row_of x (rows_of text)) a
  where
    by : (o : Option Row) → Agrees text (row_index x (rows_of text)) o (P.Err n)
        → n.methods ≡ row_index x (rows_of text)
    by none (no-row i) = i
    by (some r) h = elim h [ ]

-- a part of the text that is lent as a word
pub lent-word : (text : List ℕ) (s e : ℕ) → s ≤ e → {found : P.Result MethodAt NoSuchMethod}
    → FirstNamed text (take (e - s) (drop s text)) found → FirstNamed text (slice s e text) found
lent-word text s e h {found} a = subst (λ x. FirstNamed text x found) (part_slice s e text h) a
