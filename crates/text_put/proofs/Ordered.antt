-- The pairs and rows that the code writes are those of the table.
use Prim.Native.Nat.{ℕ, zero, suc, ◌+◌, ◌≤◌}
use native.Mathlib.Omega.{arith}
use mathlib.Core.Path.{◌≡◌, refl, sym, ap, ◌∙◌}
use mathlib.Core.List.{List, [], ◌∷◌, ◌++◌, append_assoc, append-nil}
use mathlib.Core.Option.{some, none-ne-some, some-injective}
use lib.ListN.{length, take, get_or, length-append}
use lib.Seq.{take-length}
use Rattle.text.specs.Tree.{Method, Program, method_at, main_first}
use Rattle.text.specs.Translation.{Instruction, method_code, pair_words, row_words, rows_words, program_code, code_words}
use Rattle.text.proofs.Elements.{nth}
use Rattle.text.proofs.Words.{method-nth, method-there}
use Rattle.text.proofs.Order.{main_first-length}
use Rattle.text_put.specs.TableCode.{index_in, offset_to, pairs_to, row_in, rows_to}
use Rattle.text_put.specs.Measures.{Measures}
use Rattle.text_put.proofs.MainAt.{MainStands, index_at}

-- one element more
pub take_nth : {A : Type 0} (xs : List A) (k : ℕ) (x : A) → nth xs k ≡ some x
    → take (suc k) xs ≡ take k xs ++ (x ∷ [])
unfolding nth
take_nth [] k x e = absurd (none-ne-some x e)
take_nth (y ∷ xs) zero x e = ap (λ z. z ∷ []) (some-injective y x e)
take_nth (y ∷ xs) (suc k) x e = ap (λ us. y ∷ us) (take_nth xs k x e)

pub take-method : (ms : Program) (k : ℕ) (m : Method) → method_at ms k ≡ some m
    → take (suc k) ms ≡ take k ms ++ (m ∷ [])
take-method ms k m e = take_nth ms k m (sym (method-nth ms k) ∙ e)

-- Methods after one another

pub program-append : (qs ms ks : Program) → program_code qs (ms ++ ks) ≡ program_code qs ms ++ program_code qs ks
unfolding program_code
program-append qs [] ks = refl
program-append qs (m ∷ ms) ks =
    ap (λ c. method_code qs m ++ c) (program-append qs ms ks)
    ∙ sym (append_assoc (method_code qs m) (program_code qs ms) (program_code qs ks))

pub code-append : (is js : List Instruction) → code_words (is ++ js) ≡ code_words is ++ code_words js
unfolding code_words
code-append [] js = refl
code-append (i ∷ is) js = ap (λ ws. i.op ∷ i.argument ∷ ws) (code-append is js)

pairs-append : (qs : Program) (at : ℕ) (ms ks : Program)
    → pair_words qs at (ms ++ ks) ≡ pair_words qs at ms ++ pair_words qs (at + length (program_code qs ms)) ks
unfolding pair_words program_code
pairs-append qs at [] ks = ap (λ i. pair_words qs i ks) {x = at} {y = at + 0} (omega arith)
pairs-append qs at (m ∷ ms) ks =
    ap (λ ws. at ∷ length (method_code qs m) ∷ ws) (pairs-append qs (at + length (method_code qs m)) ms ks
    ∙ ap (λ i. pair_words qs (at + length (method_code qs m)) ms ++ pair_words qs i ks)
    (omega (arith, length-append (method_code qs m) (program_code qs ms))))

rows_append : (ms ks : Program) → rows_words (ms ++ ks) ≡ rows_words ms ++ rows_words ks
unfolding rows_words
rows_append [] ks = refl
rows_append (m ∷ ms) ks =
    ap (λ ws. row_words m ++ ws) (rows_append ms ks) ∙ sym (append_assoc (row_words m) (rows_words ms) (rows_words ks))

-- one method more
module _ (qs ms : Program) (m : Method) where
  pub program-next : program_code qs (ms ++ (m ∷ [])) ≡ program_code qs ms ++ method_code qs m
  unfolding program_code
  program-next =
      program-append qs ms (m ∷ []) ∙ ap (λ c. program_code qs ms ++ c) (append-nil (method_code qs m))

  pairs_next : pair_words qs 0 (ms ++ (m ∷ []))
      ≡ pair_words qs 0 ms ++ (length (program_code qs ms) ∷ length (method_code qs m) ∷ [])
  unfolding pair_words
  pairs_next =
      pairs-append qs 0 ms (m ∷ [])
      ∙ ap (λ i. pair_words qs 0 ms ++ (i ∷ length (method_code qs m) ∷ [])) {x = 0 + length (program_code qs ms)}
      {y = length (program_code qs ms)} (omega arith)

rows_next : (ms : Program) (m : Method) → rows_words (ms ++ (m ∷ [])) ≡ rows_words ms ++ row_words m
unfolding rows_words
rows_next ms m = rows_append ms (m ∷ []) ∙ ap (λ ws. rows_words ms ++ ws) (append-nil (row_words m))

-- The first methods of the table

module _ {ns : Program} {methods instructions : ℕ} {lengths rows : List ℕ} (p : MainStands ns)
    (d : Measures ns methods instructions lengths rows) where
  abbrev qs : Program
  qs = main_first ns

  abbrev main : ℕ
  main = length p.before

  pairs-to : (k : ℕ) → k ≤ length qs
      → (pairs_to lengths main k ≡ pair_words qs 0 (take k qs))
      × (offset_to lengths main k ≡ length (program_code qs (take k qs)))
  unfolding pairs_to offset_to pair_words program_code
  pairs-to zero l = (refl, refl)
  pairs-to (suc k) l =
      let (m, e) = method-there qs k l in
      let (pairs, offset) = pairs-to k (omega arith) in
      let long = d.long (index_in main k) m (sym (index_at ns p k) ∙ e) in
      let next = take-method qs k m e in (
        ap (λ ws. ws ++ (offset_to lengths main k ∷ get_or lengths (index_in main k) 0 ∷ [])) pairs
            ∙ ap (λ i. pair_words qs 0 (take k qs) ++ (i ∷ get_or lengths (index_in main k) 0 ∷ [])) offset
            ∙ ap (λ i. pair_words qs 0 (take k qs) ++ (length (program_code qs (take k qs)) ∷ i ∷ [])) long
            ∙ sym (ap (pair_words qs 0) next ∙ pairs_next qs (take k qs) m),
        omega (
          arith,
          offset,
          long,
          ap (λ ms. length (program_code qs ms)) next,
          ap length (program-next qs (take k qs) m),
          length-append (program_code qs (take k qs)) (method_code qs m),
        ),
      )

  rows-to : (k : ℕ) → k ≤ length qs → rows_to rows main k ≡ rows_words (take k qs)
  unfolding rows_to rows_words
  rows-to zero l = refl
  rows-to (suc k) l =
      let (m, e) = method-there qs k l in
      ap (λ ws. ws ++ row_in rows (index_in main k)) (rows-to k (omega arith))
      ∙ ap (λ ws. rows_words (take k qs) ++ ws) (d.row (index_in main k) m (sym (index_at ns p k) ∙ e))
      ∙ sym (ap rows_words (take-method qs k m e) ∙ rows_next (take k qs) m)

  all-methods : take methods qs ≡ qs
  all-methods = ap (λ k. take k qs) (d.count ∙ sym (main_first-length ns)) ∙ take-length qs

  -- all pairs, and all rows
  pub pairs-all : pairs_to lengths main methods ≡ pair_words qs 0 qs
  pairs-all =
      (pairs-to methods (omega (arith, d.count, main_first-length ns))).0 ∙ ap (pair_words qs 0) all-methods

  pub rows_all : rows_to rows main methods ≡ rows_words qs
  rows_all = rows-to methods (omega (arith, d.count, main_first-length ns)) ∙ ap rows_words all-methods
