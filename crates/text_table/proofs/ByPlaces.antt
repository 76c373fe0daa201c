-- In a text that is given a table, a method's code with the places of the called names, its methods then given by their
-- numbers, is its code in the table.
use Prim.Native.Nat.{ℕ}
use mathlib.Core.Path.{◌≡◌, refl, sym, ap, ◌∙◌}
use mathlib.Core.List.{List, ◌∷◌, map}
use mathlib.Core.Option.{some}
use lib.ListN.{length}
use borrow.Author.Tests.{le-leb}
use Rattle.text.specs.Tree.{Name, Method, Program, main_first, method_at, number_of}
use Rattle.text.specs.Translation.{Instruction, instruction, method_code}
use Rattle.text_methods.specs.RowsCode.{rows_of, row_index}
use Rattle.text_methods.proofs.Found.{text-rows, index_same}
use Rattle.text_numbering.specs.CodeBy.{place_of}
use Rattle.text_code.specs.StatementBy.{method_by}
use Rattle.text_code.proofs.Numbered.{method-numbered}
use Rattle.text_judge.specs.RowsCode.{calls}
use Rattle.text_judged.specs.JudgedCode.{Spelt}
use Rattle.text_judged.proofs.Alike.{Alike, as_is, naming, AllAlike, all_done, and-more}
use Rattle.text_judged.proofs.Callees.{Callee, text-alike}
use Rattle.text_judged.proofs.Renamed.{plain-calls}
use Rattle.text_put.specs.TableCode.{number_in, called_at}
use Rattle.text_put.specs.Measures.{TableText}
use Rattle.text_put.proofs.MainAt.{MainStands, number_at}
use Rattle.text_put.proofs.Buffer.{resolved}
use Rattle.text_put.proofs.WordLaws.{argument-called, argument-stays}

-- where f numbers the number of each called name from its place
module _ (f : ℕ → ℕ) (P : Name → Type 0) (num : Name → ℕ) (numbers : (x : Name) → P x → f x.at ≡ num x) where
  one-resolved : {i j : Instruction} → Alike P place_of num i j → resolved f i ≡ j
  unfolding resolved calls
  one-resolved (as_is o a b e q) = ap (instruction o) (sym (argument-stays f o a (plain-calls o e)) ∙ q)
  one-resolved (naming o x e p) = ap (instruction o) (sym (argument-called f o x.at e) ∙ numbers x p)

  all-resolved : {is js : List Instruction} → AllAlike P place_of num is js → map (resolved f) is ≡ js
  all-resolved all_done = refl
  all-resolved (and-more {j = j} {is = is} p q) =
      ap (λ i. i ∷ map (resolved f) is) (one-resolved p) ∙ ap (λ js. j ∷ js) (all-resolved q)

module _ (text : List ℕ) (ns : Program) (g : TableText text ns) (p : MainStands ns) where
  abbrev qs : Program
  qs = main_first ns

  abbrev main : ℕ
  main = length p.before

  -- a name that stands at its place
  spelt-number : (x : Name) → Spelt text x → called_at text main x.at ≡ number_of qs x
  unfolding called_at
  spelt-number x s =
      rw (le-leb x.at (length text) s.within)
      (ap (λ (y : Name). number_in main (row_index y.spelling (rows_of text))) s.reads
      ∙ ap (number_in main) (index_same text x ns (rows_of text) (text-rows text ns g.left g.reads))
      ∙ sym (number_at ns p x))

  -- the code of method k in text order
  pub by-places : (k : ℕ) (m : Method) → method_at ns k ≡ some m
      → map (resolved (called_at text main)) (method_by place_of qs m) ≡ method_code qs m
  by-places k m e =
      all-resolved (called_at text main) (Callee text qs) (number_of qs) (λ x c. spelt-number x c.0)
      (text-alike text ns g.left g.reads g.kept.names (number_of qs) k m e)
      ∙ sym (method-numbered qs m)
