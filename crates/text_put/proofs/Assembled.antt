-- The table of a text: its words in the order in which they are written.
use Prim.Native.Nat.{ℕ}
use mathlib.Core.Path.{◌≡◌, refl, sym, ap, ◌∙◌}
use mathlib.Core.Bool.{Bool, true, false, cond}
use mathlib.Core.List.{List, [], ◌∷◌, ◌++◌, cons≢nil}
use mathlib.Core.Option.{none, some-ne-none}
use lib.ListN.{length}
use lib.Dec.{T}
use Rattle.lists.specs.Lists.{any}
use Rattle.lists.proofs.Laws.{append-nil-right}
use Rattle.text.specs.Tree.{Program, is_main, main_first, without_main}
use Rattle.text.specs.Translation.{method_code, pair_words, rows_words, program_code, code_words, program_table}
use Rattle.text.specs.Names.{twice_faults, method_names, methods_faults, main_fault, name_faults, lowest, name_refusal}
use Rattle.text.specs.Statement.{text_table}
use Rattle.text.proofs.Order.{main_first-length, main_first-code}
use Rattle.text.proofs.Apart.{append-nil-left, names_apart}
use Rattle.text_put.specs.TableCode.{pairs_to, rows_to}
use Rattle.text_put.specs.Measures.{Measures}
use Rattle.text_put.proofs.MainAt.{MainStands, main-stands, order_is, others-are}
use Rattle.text_put.proofs.Ordered.{pairs-all, rows_all, code-append}

-- a text without a fault of names has one main

lowest-none : (is : List ℕ) → lowest is ≡ none → is ≡ []
unfolding lowest
lowest-none [] e = refl
lowest-none (i ∷ is) e = absurd (some-ne-none _ e)

main-there : (end : ℕ) (ms : Program) → main_fault end ms ≡ [] → T (any is_main ms)
unfolding main_fault
main-there end ms e = found (any is_main ms) e
  where
    found : (b : Bool) → cond b [] (end ∷ []) ≡ [] → T b
    found true q = tt
    found false q = cons≢nil q

pub text-main : (end : ℕ) (ns : Program) → name_refusal end ns ≡ none → MainStands ns
unfolding name_refusal name_faults
text-main end ns e =
    let uses = methods_faults (main_first ns) ns in
    let twice = twice_faults [] (method_names ns) in
    let others = append-nil-right uses (twice ++ main_fault end ns) (lowest-none (name_faults end ns) e) in
    main-stands ns (names_apart ns (append-nil-left twice (main_fault end ns) others))
    (main-there end ns (append-nil-right twice (main_fault end ns) others))

module _ {ns : Program} {methods instructions : ℕ} {lengths rows : List ℕ} (p : MainStands ns)
    (d : Measures ns methods instructions lengths rows) where
  abbrev qs : Program
  qs = main_first ns

  abbrev main : ℕ
  main = length p.before

  -- main's code, and that of the others in text order
  code_is : code_words (program_code qs qs)
      ≡ code_words (method_code qs p.one) ++ code_words (program_code qs (without_main ns))
  unfolding program_code
  code_is =
      ap (λ ms. code_words (program_code qs ms)) (order_is ns p)
      ∙ code-append (method_code qs p.one) (program_code qs (p.before ++ p.after))
      ∙ ap (λ ms. code_words (method_code qs p.one) ++ code_words (program_code qs ms)) (sym (others-are ns p))

  pub table_is : text_table ns
      ≡ (methods ∷ instructions ∷ []) ++ (pairs_to lengths main methods ++ (rows_to rows main methods
      ++ (code_words (method_code qs p.one) ++ code_words (program_code qs (without_main ns)))))
  unfolding text_table program_table
  table_is =
      let code = code_words (program_code qs qs) in
      ap (λ n. n ∷ length (program_code qs qs) ∷ pair_words qs 0 qs ++ (rows_words qs ++ code))
      (main_first-length ns ∙ sym d.count)
      ∙ ap (λ n. methods ∷ n ∷ pair_words qs 0 qs ++ (rows_words qs ++ code)) (main_first-code qs ns ∙ sym d.total)
      ∙ ap (λ ws. methods ∷ instructions ∷ ws ++ (rows_words qs ++ code)) (sym (pairs-all p d))
      ∙ ap (λ ws. methods ∷ instructions ∷ pairs_to lengths main methods ++ (ws ++ code)) (sym (rows_all p d))
      ∙ ap (λ ws. methods ∷ instructions ∷ pairs_to lengths main methods ++ (rows_to rows main methods ++ ws)) code_is
