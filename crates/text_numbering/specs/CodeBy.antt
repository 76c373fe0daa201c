-- The code of an expression with the methods numbered in any way: crate text's `expr_code` is the one with their numbers
-- in the table (proofs/CodeLaws.antt). While a text is gone over, a method is given by the place of the called name.
use Rattle.std.specs.Prelude.{ℕ, Bool, true, cond, List, [], ◌∷◌, ◌++◌, eqb, leb}
use Rattle.text.specs.Tree.{Name, Expr, Exprs, number, truth, variable, assignment, operation, method_call, measurement, reception, new_qubit, new_channel, new_end, no_more, also}
use Rattle.text.specs.Translation.{Instruction, instruction, INT, BOOL, GET, PUT, NEWQ, NEWC, MEAS, CALL, RECV, NONE, operator_op, carried_code, truth_word, Scope, slot_of}

unfoldable mutual
  pub code_by : (Name → ℕ) → Scope → Expr → List Instruction
  code_by num sc (number n) = INT n ∷ []
  code_by num sc (truth b) = BOOL (truth_word b) ∷ []
  code_by num sc (variable x) = GET (slot_of sc x) ∷ []
  code_by num sc (assignment x e) = code_by num sc e ++ (PUT (slot_of sc x) ∷ [])
  code_by num sc (operation o a b) = code_by num sc a ++ (code_by num sc b ++ (instruction (operator_op o) 0 ∷ []))
  code_by num sc (method_call m es) = arguments_by num sc es ++ (CALL (num m) ∷ [])
  code_by num sc (measurement q) = GET (slot_of sc q) ∷ MEAS ∷ []
  code_by num sc (reception e) = code_by num sc e ++ (RECV ∷ [])
  code_by num sc new_qubit = NEWQ ∷ []
  code_by num sc (new_channel t) = NEWC (carried_code t) ∷ []
  code_by num sc (new_end t) = NONE ∷ []

  pub arguments_by : (Name → ℕ) → Scope → Exprs → List Instruction
  arguments_by num sc no_more = []
  arguments_by num sc (also e es) = code_by num sc e ++ arguments_by num sc es

-- the place of a name in the text
abbrev pub place_of : Name → ℕ
place_of x = x.at

-- an instruction's number is no "number above 32,767"
unfoldable pub number_fits : Instruction → Bool
number_fits i = cond (eqb i.op 1) (leb i.argument 32767) true

-- a call's place is replaced by what the function says of it; CALL is 12
unfoldable pub resolved : (ℕ → ℕ) → Instruction → Instruction
resolved f i = cond (eqb i.op 12) (instruction 12 (f i.argument)) i

-- every method that is called in an expression has the property
unfoldable mutual
  pub Calls : (Name → Type 0) → Expr → Type 0
  Calls P (number n) = Unit {0}
  Calls P (truth b) = Unit {0}
  Calls P (variable x) = Unit {0}
  Calls P (assignment x e) = Calls P e
  Calls P (operation o a b) = Calls P a × Calls P b
  Calls P (method_call m es) = P m × ArgumentsCall P es
  Calls P (measurement q) = Unit {0}
  Calls P (reception e) = Calls P e
  Calls P new_qubit = Unit {0}
  Calls P (new_channel t) = Unit {0}
  Calls P (new_end t) = Unit {0}

  pub ArgumentsCall : (Name → Type 0) → Exprs → Type 0
  ArgumentsCall P no_more = Unit {0}
  ArgumentsCall P (also e es) = Calls P e × ArgumentsCall P es
