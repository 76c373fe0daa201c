-- The code of a statement with the methods numbered in any way: crate text's `code` is the one with their numbers in
-- the table (proofs/Numbered.antt). While a text is gone over, a method is given by the place of the called name.
use Rattle.std.specs.Prelude.{ℕ, ◌+◌, Bool, true, false, List, [], ◌∷◌, ◌++◌, length}
use Rattle.std.proofs.Math.Option.{Option, none, some}
use Rattle.text.specs.Tree.{Name, Expr, Exprs, Statement, Statements, skip, assign, invoke, measure, receive, fork, send, give, block, conditional, alternative, loop, done, next, Method, Program, declared_by, body_variables, method_of, gate_of}
use Rattle.text.specs.Translation.{Instruction, GET, DROP, GATE, MEAS, CALL, RET, FORK, SEND, RECV, Scope, slot_of, ends_in, opened, within, assign_code, drop_code, clear_code, if_code, else_code, while_code, closing, hole_of}
use Rattle.text_numbering.specs.CodeBy.{code_by, arguments_by}

unfoldable pub invoke_by : (Name → ℕ) → Name → Option Method → List Instruction
invoke_by num x none = GATE (gate_of x) ∷ []
invoke_by num x (some m) = CALL (num x) ∷ drop_code m.returns

unfoldable mutual
  pub statement_by : (Name → ℕ) → Program → Scope → ℕ → ℕ → Statement → List Instruction
  statement_by num ms sc i at skip = []
  statement_by num ms sc i at (assign x e) = code_by num sc e ++ assign_code (ends_in sc x) (slot_of sc x)
  statement_by num ms sc i at (invoke x es) = arguments_by num sc es ++ invoke_by num x (method_of ms x)
  statement_by num ms sc i at (measure q) = GET (slot_of sc q) ∷ MEAS ∷ DROP ∷ []
  statement_by num ms sc i at (receive e) = code_by num sc e ++ (RECV ∷ DROP ∷ [])
  statement_by num ms sc i at (fork m es) = arguments_by num sc es ++ (FORK (num m) ∷ [])
  statement_by num ms sc i at (send e v) = code_by num sc e ++ (code_by num sc v ++ (SEND ∷ []))
  statement_by num ms sc i at (give e) = code_by num sc e ++ (RET ∷ [])
  statement_by num ms sc i at (block ds ss) =
      clear_code (declared_by ds) i
      ++ statements_by num ms (opened (declared_by ds) i sc) (i + length (declared_by ds)) (at + length (declared_by ds)) ss
  statement_by num ms sc i at (conditional e s) =
      if_code at (code_by num sc e) (statement_by num ms sc i (at + length (code_by num sc e) + 1) s)
  statement_by num ms sc i at (alternative e s t) =
      else_code at (code_by num sc e) (statement_by num ms sc i (at + length (code_by num sc e) + 1) s)
      (statement_by num ms sc (i + length (within s))
      (at + length (code_by num sc e) + 1 + length (statement_by num ms sc i (at + length (code_by num sc e) + 1) s) + 1)
      t)
  statement_by num ms sc i at (loop e s) =
      while_code at (code_by num sc e) (statement_by num ms sc i (at + length (code_by num sc e) + 1) s)

  pub statements_by : (Name → ℕ) → Program → Scope → ℕ → ℕ → Statements → List Instruction
  statements_by num ms sc i at done = []
  statements_by num ms sc i at (next s ss) =
      statement_by num ms sc i at s
      ++ statements_by num ms sc (i + length (within s)) (at + length (statement_by num ms sc i at s)) ss

-- a method's whole code
unfoldable pub method_by : (Name → ℕ) → Program → Method → List Instruction
method_by num ms m =
    statements_by num ms (opened (body_variables m) 0 []) (length (body_variables m)) 0 m.statements
    ++ closing m.returns (hole_of m)
