-- The code with the methods' numbers is crate text's.
use Prim.Native.Nat.{ℕ, ◌+◌}
use mathlib.Core.Path.{◌≡◌, refl, sym, ap, ◌∙◌}
use mathlib.Core.List.{List, [], ◌∷◌, ◌++◌}
use mathlib.Core.Option.{Option, none, some}
use lib.ListN.{length}
use Rattle.text.specs.Tree.{Name, Statement, Statements, skip, assign, invoke, measure, receive, fork, send, give, block, conditional, alternative, loop, done, next, Method, Program, declared_by, body_variables, method_of, number_of}
use Rattle.text.specs.Translation.{Instruction, DROP, RET, FORK, SEND, RECV, Scope, slot_of, ends_in, opened, within, assign_code, invoke_code, clear_code, if_code, else_code, while_code, code, all_code, closing, hole_of, body_code, method_code, expr_code, exprs_code}
use Rattle.text_numbering.specs.CodeBy.{code_by, arguments_by}
use Rattle.text_numbering.proofs.CodeLaws.{code-numbered, arguments-numbered}
use Rattle.text_code.specs.StatementBy.{invoke_by, statement_by, statements_by, method_by}

module _ (ms : Program) where
  invoke-numbered : (x : Name) (o : Option Method) → invoke_code ms x o ≡ invoke_by (number_of ms) x o
  unfolding invoke_code invoke_by
  invoke-numbered x none = refl
  invoke-numbered x (some m) = refl

  mutual
    unfolding code statement_by

    pub statement-numbered : (sc : Scope) (i at : ℕ) (s : Statement)
        → code ms sc i at s ≡ statement_by (number_of ms) ms sc i at s
    statement-numbered sc i at skip = refl
    statement-numbered sc i at (assign x e) =
        ap (λ c. c ++ assign_code (ends_in sc x) (slot_of sc x)) (code-numbered ms sc e)
    statement-numbered sc i at (invoke x es) =
        ap (λ c. c ++ invoke_code ms x (method_of ms x)) (arguments-numbered ms sc es)
        ∙ ap (λ c. arguments_by (number_of ms) sc es ++ c) (invoke-numbered x (method_of ms x))
    statement-numbered sc i at (measure q) = refl
    statement-numbered sc i at (receive e) = ap (λ c. c ++ (RECV ∷ DROP ∷ [])) (code-numbered ms sc e)
    statement-numbered sc i at (fork m es) = ap (λ c. c ++ (FORK (number_of ms m) ∷ [])) (arguments-numbered ms sc es)
    statement-numbered sc i at (send e v) =
        ap (λ c. c ++ (expr_code ms sc v ++ (SEND ∷ []))) (code-numbered ms sc e)
        ∙ ap (λ c. code_by (number_of ms) sc e ++ (c ++ (SEND ∷ []))) (code-numbered ms sc v)
    statement-numbered sc i at (give e) = ap (λ c. c ++ (RET ∷ [])) (code-numbered ms sc e)
    statement-numbered sc i at (block ds ss) =
        ap (λ c. clear_code (declared_by ds) i ++ c)
        (statements-numbered (opened (declared_by ds) i sc) (i + length (declared_by ds)) (at + length (declared_by ds))
        ss)
    statement-numbered sc i at (conditional e s) =
        ap (λ c. if_code at c (code ms sc i (at + length c + 1) s)) (code-numbered ms sc e)
        ∙ ap (if_code at (code_by (number_of ms) sc e))
        (statement-numbered sc i (at + length (code_by (number_of ms) sc e) + 1) s)
    statement-numbered sc i at (alternative e s t) =
        ap (λ c. else_code at c (code ms sc i (at + length c + 1) s)
        (code ms sc (i + length (within s)) (at + length c + 1 + length (code ms sc i (at + length c + 1) s) + 1) t))
        (code-numbered ms sc e)
        ∙ ap (λ d. else_code at (code_by (number_of ms) sc e) d
        (code ms sc (i + length (within s)) (at + length (code_by (number_of ms) sc e) + 1 + length d + 1) t))
        (statement-numbered sc i (at + length (code_by (number_of ms) sc e) + 1) s)
        ∙ ap (else_code at (code_by (number_of ms) sc e)
        (statement_by (number_of ms) ms sc i (at + length (code_by (number_of ms) sc e) + 1) s))
        (statement-numbered sc (i + length (within s)) (at + length (code_by (number_of ms) sc e) + 1
        + length (statement_by (number_of ms) ms sc i (at + length (code_by (number_of ms) sc e) + 1) s) + 1) t)
    statement-numbered sc i at (loop e s) =
        ap (λ c. while_code at c (code ms sc i (at + length c + 1) s)) (code-numbered ms sc e)
        ∙ ap (while_code at (code_by (number_of ms) sc e))
        (statement-numbered sc i (at + length (code_by (number_of ms) sc e) + 1) s)

    pub statements-numbered : (sc : Scope) (i at : ℕ) (ss : Statements)
        → all_code ms sc i at ss ≡ statements_by (number_of ms) ms sc i at ss
    statements-numbered sc i at done = refl
    statements-numbered sc i at (next s ss) =
        ap (λ c. c ++ all_code ms sc (i + length (within s)) (at + length c) ss) (statement-numbered sc i at s)
        ∙ ap (λ d. statement_by (number_of ms) ms sc i at s ++ d)
        (statements-numbered sc (i + length (within s)) (at + length (statement_by (number_of ms) ms sc i at s)) ss)

  pub method-numbered : (m : Method) → method_code ms m ≡ method_by (number_of ms) ms m
  unfolding method_code body_code method_by
  method-numbered m =
      ap (λ c. c ++ closing m.returns (hole_of m))
      (statements-numbered (opened (body_variables m) 0 []) (length (body_variables m)) 0 m.statements)
