-- Laws of the words that the code writes, one step at a time.
use Prim.Native.Nat.{ℕ, zero, suc, ◌+◌, ◌*◌, ◌-◌, ◌%◌, ◌≤◌, ◌<◌}
use native.Mathlib.Omega.{arith}
use mathlib.Core.Path.{◌≡◌, refl, sym, ap, ◌∙◌}
use mathlib.Core.Bool.{true, false, ◌||◌}
use mathlib.Core.List.{List, [], ◌∷◌, ◌++◌}
use lib.ListN.{length, take, drop, get_or, length-append, length-map}
use lib.Seq.{slice, take-suc, drop-append-le, length-take-le, length-slice}
use lib.Dec.{eqb, leb}
use borrow.Author.Tests.{le-leb, lt-leb, lt-ltb, le-ltb, eq-eqb, ne_eqb}
use Rattle.lists.proofs.Put.{Put, put_then, put_same}
use Rattle.lists.proofs.Tests.{cond-each}
use Rattle.text_parse.specs.Grammar.{first}
use Rattle.text_tokens.specs.declared.next.TokenAt.{TokenAt}
use Rattle.text_tokens.specs.NextCode.{NextToken}
use Rattle.text_methods.specs.RowsCode.{rows_of, row_index}
use Rattle.text_put.specs.TableCode.{words, index_in, number_in, offset_to, pairs_to, row_in, rows_to, calls, called_at, argument_by, code_to}

pub words_append : (xs ys : List ℕ) → words (xs ++ ys) ≡ words xs ++ words ys
unfolding words
words_append [] ys = refl
words_append (x ∷ xs) ys = ap (λ us. x % 65536 ∷ us) (words_append xs ys)

pub words-length : (xs : List ℕ) → length (words xs) ≡ length xs
unfolding words
words-length xs = length-map xs (λ (x : ℕ). x % 65536)

-- some words written, and others after them
pub words-then : (out : List ℕ) (at : ℕ) (xs ys : List ℕ) {mid end : List ℕ} {i j : ℕ}
    → Put out at (words xs) mid i → Put mid i (words ys) end j → Put out at (words (xs ++ ys)) end j
words-then out at xs ys p q = put_same out at (sym (words_append xs ys)) (put_then out at (words xs) (words ys) p q)

pub words_same : (out : List ℕ) (at : ℕ) {xs ys : List ℕ} {end : List ℕ} {j : ℕ} → xs ≡ ys
    → Put out at (words xs) end j → Put out at (words ys) end j
words_same out at e p = put_same out at (ap words e) p

pub words-none : (out : List ℕ) (at : ℕ) → Put out at (words []) out at
unfolding words Rattle.lists.specs.Lists.put_from
words-none out at = (refl, omega arith)

-- how many words

pub pairs-count : (lengths : List ℕ) (main k : ℕ) → length (pairs_to lengths main k) ≡ 2 * k
unfolding pairs_to
pairs-count lengths main zero = refl
pairs-count lengths main (suc k) =
    omega (
      arith,
      pairs-count lengths main k,
      length-append (pairs_to lengths main k) (offset_to lengths main k ∷ get_or lengths (index_in main k) 0 ∷ []),
    )

pub code-count : (f : ℕ → ℕ) (code : List ℕ) (j : ℕ) → length (code_to f code j) ≡ 2 * j
unfolding code_to
code-count f code zero = refl
code-count f code (suc j) =
    omega (
      arith,
      code-count f code j,
      length-append (code_to f code j)
          (get_or code (2 * j) 0 ∷ argument_by f (get_or code (2 * j) 0) (get_or code (2 * j + 1) 0) ∷ []),
    )

pub index_below : (main k n : ℕ) → main < n → k < n → index_in main k < n
unfolding index_in
index_below main k n l h =
    cond-each (λ i. i < n) (eqb k 0) (λ e. l) (λ e. cond-each (λ i. i < n) (leb k main) (λ e. omega arith) (λ e. h))

pub rows-count : (rows : List ℕ) (main k : ℕ) → length rows ≡ 576 → main < 32 → k ≤ 32
    → length (rows_to rows main k) ≡ 18 * k
unfolding rows_to
rows-count rows main zero l m h = refl
rows-count rows main (suc k) l m h =
    let i = index_in main k in
    omega (
      arith,
      rows-count rows main k l m (omega arith),
      length-append (rows_to rows main k) (row_in rows i),
      length-slice (18 * i) (18 * i + 18) rows (omega (arith, index_below main k 32 m (omega arith))),
    )

-- one more

module _ (out : List ℕ) (at : ℕ) {mid end : List ℕ} {i j : ℕ} where
  pub pairs-step : (lengths : List ℕ) (main k v w : ℕ) → v ≡ offset_to lengths main k
      → w ≡ get_or lengths (index_in main k) 0
      → Put out at (words (pairs_to lengths main k)) mid i → Put mid i (words (v ∷ w ∷ [])) end j
      → Put out at (words (pairs_to lengths main (k + 1))) end j
  unfolding pairs_to
  pairs-step lengths main k v w e f p q =
      words_same out at (ap (λ u. pairs_to lengths main k ++ (u ∷ w ∷ [])) e
      ∙ ap (λ u. pairs_to lengths main k ++ (offset_to lengths main k ∷ u ∷ [])) f
      ∙ ap (pairs_to lengths main) {x = suc k} {y = k + 1} (omega arith))
      (words-then out at (pairs_to lengths main k) (v ∷ w ∷ []) p q)

  pub rows_step : (rows : List ℕ) (main k from : ℕ) → from ≡ 18 * index_in main k
      → Put out at (words (rows_to rows main k)) mid i → Put mid i (words (slice from (from + 18) rows)) end j
      → Put out at (words (rows_to rows main (k + 1))) end j
  unfolding rows_to
  rows_step rows main k from e p q =
      words_same out at (ap (λ f. rows_to rows main k ++ slice f (f + 18) rows) e
      ∙ ap (rows_to rows main) {x = suc k} {y = k + 1} (omega arith))
      (words-then out at (rows_to rows main k) (slice from (from + 18) rows) p q)

  pub code_step : (f : ℕ → ℕ) (code : List ℕ) (n v w : ℕ) → v ≡ get_or code (2 * n) 0
      → w ≡ argument_by f v (get_or code (2 * n + 1) 0)
      → Put out at (words (code_to f code n)) mid i → Put mid i (words (v ∷ w ∷ [])) end j
      → Put out at (words (code_to f code (n + 1))) end j
  unfolding code_to
  code_step f code n v w e a p q =
      words_same out at (ap (λ u. code_to f code n ++ (v ∷ u ∷ [])) a
      ∙ ap (λ u. code_to f code n ++ (u ∷ argument_by f u (get_or code (2 * n + 1) 0) ∷ [])) e
      ∙ ap (code_to f code) {x = suc n} {y = n + 1} (omega arith))
      (words-then out at (code_to f code n) (v ∷ w ∷ []) p q)

  pub slice-step : (rows : List ℕ) (from n v : ℕ) → from + n < length rows → v ≡ get_or rows (from + n) 0
      → Put out at (words (slice from (from + n) rows)) mid i → Put mid i (words (v ∷ [])) end j
      → Put out at (words (slice from (from + (n + 1)) rows)) end j
  slice-step rows from n v l e p q =
      words_same out at (ap (λ u. slice from (from + n) rows ++ (u ∷ [])) e
      ∙ sym (ap (λ k. slice from k rows) {x = from + (n + 1)} {y = suc (from + n)} (omega arith)
      ∙ ap (drop from) (take-suc rows (from + n) 0 l)
      ∙ drop-append-le from (take (from + n) rows) (get_or rows (from + n) 0 ∷ [])
      (omega (arith, length-take-le (from + n) rows (omega arith)))))
      (words-then out at (slice from (from + n) rows) (v ∷ []) p q)

pub offset_step : (lengths : List ℕ) (main k offset long : ℕ) → offset ≡ offset_to lengths main k
    → long ≡ get_or lengths (index_in main k) 0 → offset + long ≡ offset_to lengths main (k + 1)
unfolding offset_to
offset_step lengths main k offset long p q =
    omega (arith, p, q) ∙ ap (offset_to lengths main) {x = suc k} {y = k + 1} (omega arith)

-- the table's order, case by case

module _ (main k : ℕ) where
  pub index-main : k ≡ 0 → main ≡ index_in main k
  unfolding index_in
  index-main e = rw (eq-eqb k 0 e) refl

  pub index-earlier : (k ≡ 0 → ⊥) → k ≤ main → k - 1 ≡ index_in main k
  unfolding index_in
  index-earlier n l = rw (ne_eqb k 0 n) (rw (le-leb k main l) refl)

  pub index-later : (k ≡ 0 → ⊥) → main < k → k ≡ index_in main k
  unfolding index_in
  index-later n l = rw (ne_eqb k 0 n) (rw (lt-leb k main l) refl)

  pub number-main : k ≡ main → 0 ≡ number_in main k
  unfolding number_in
  number-main e = rw (eq-eqb k main e) refl

  pub number-earlier : (k ≡ main → ⊥) → k < main → k + 1 ≡ number_in main k
  unfolding number_in
  number-earlier n l = rw (ne_eqb k main n) (rw (lt-ltb k main l) refl)

  pub number-later : (k ≡ main → ⊥) → main ≤ k → k ≡ number_in main k
  unfolding number_in
  number-later n l = rw (ne_eqb k main n) (rw (le-ltb k main l) refl)

-- the argument, case by case

module _ (f : ℕ → ℕ) (op a : ℕ) where
  pub argument-called : (eqb op 12 || eqb op 14) ≡ true → f a ≡ argument_by f op a
  unfolding argument_by calls
  argument-called e = rw e refl

  pub argument-stays : (eqb op 12 || eqb op 14) ≡ false → a ≡ argument_by f op a
  unfolding argument_by calls
  argument-stays e = rw e refl

-- the number of the method whose name stands at a place

pub called-in : (text : List ℕ) (main a : ℕ) (t : TokenAt) (index r : ℕ) → a ≤ length text → NextToken text a t
    → index ≡ row_index (slice t.start t.end text) (rows_of text) → r ≡ number_in main index
    → r ≡ called_at text main a
unfolding called_at
called-in text main a t index r l n i q =
    rw (le-leb a (length text) l)
    (q ∙ ap (number_in main) (i ∙ ap (λ y. row_index y (rows_of text)) (ap (λ ts. (first ts).bytes) (sym n.reads))))

pub called-past : (text : List ℕ) (main a : ℕ) → length text < a → 0 ≡ called_at text main a
unfolding called_at
called-past text main a l = rw (lt-leb a (length text) l) refl
