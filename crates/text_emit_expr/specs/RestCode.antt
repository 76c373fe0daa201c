-- What is left to be emitted at each place of an expression. This follows the code: what an expression is stands in
-- crate text_parse, and its code in CodeBy.antt.
--
-- Emission has a stack: the brackets that are open, and the instructions that wait for what comes before them, the
-- innermost first. What is left, given the tokens to come, is a reading: the instructions, and the tokens after.
use Rattle.std.specs.Prelude.{ℕ, zero, suc, ◌+◌, ◌*◌, cond, List, [], ◌∷◌, ◌++◌, eqb, leb, get_or}
use Rattle.std.proofs.Math.Option.{Option, none, some}
use Rattle.text.specs.Tree.{Operator}
use Rattle.text.specs.Translation.{Instruction, instruction, INT, operator_op, Scope}
use Rattle.text_parse.specs.Tokens.{Token}
use Rattle.text_parse.specs.Grammar.{Reading, read, leaves, and_then, rest, next?, expect, Scopes, operator_at}
use Rattle.text_parse.specs.Equations.{expr_from, method_params_from}
use Rattle.text_numbering.specs.CodeBy.{code_by, arguments_by, place_of}

-- A bracket that is open, with no instruction for it; or an instruction that waits: an operator's and PUT for the end
-- of their expression, CALL and RECV for their closing bracket.
pub data Frame : Type 0 where
  bracket : Frame
  waiting : ℕ → ℕ → Frame

-- these instructions, and then what is left
unfoldable pub prefixed : List Instruction → Reading (List Instruction) → Reading (List Instruction)
prefixed c (read d us) = read (c ++ d) us
prefixed c (leaves i) = leaves i

module _ (scopes : Scopes) (sc : Scope) where
  -- after an operand: an operator and another, or the expression has ended
  unfoldable pub after_operand : (List Token → Reading (List Instruction)) → Option Operator → List Token
      → Reading (List Instruction)
  after_operand further none ts = further ts
  after_operand further (some o) ts =
      and_then (expr_from scopes (rest ts)) (λ f us.
      prefixed (code_by place_of sc f ++ (instruction (operator_op o) 0 ∷ [])) (further us))

  unfoldable pub whole_with : (List Token → Reading (List Instruction)) → List Token → Reading (List Instruction)
  whole_with further ts = after_operand further (operator_at ts) ts

  -- after an argument of a call
  unfoldable pub call_with : Instruction → (List Token → Reading (List Instruction)) → List Token
      → Reading (List Instruction)
  call_with i further ts =
      cond (next? "," ts)
      (and_then (method_params_from scopes (rest ts)) (λ es us.
      prefixed (arguments_by place_of sc es ++ (i ∷ [])) (whole_with further us)))
      (expect ")" ts (λ us. prefixed (i ∷ []) (whole_with further us)))

  -- An expression has ended, and this instruction waits: PUT is 4, RECV 16, CALL 12, the operators' are 19 to 22. No
  -- other ever waits.
  unfoldable pub waiting_with : ℕ → ℕ → (List Token → Reading (List Instruction)) → List Token
      → Reading (List Instruction)
  waiting_with o a further ts =
      cond (eqb o 4) (prefixed (instruction o a ∷ []) (whole_with further ts))
      (cond (eqb o 16) (expect ")" ts (λ us. prefixed (instruction o a ∷ []) (whole_with further us)))
      (cond (eqb o 12) (call_with (instruction o a) further ts)
      (cond (leb 19 o) (prefixed (instruction o a ∷ []) (further ts)) (leaves 0))))

  -- What is left where an expression has ended, where an operand has, and where an expression is to come.
  unfoldable pub ended_rest : List Frame → List Token → Reading (List Instruction)
  ended_rest [] ts = read [] ts
  ended_rest (bracket ∷ k) ts = expect ")" ts (λ us. whole_with (ended_rest k) us)
  ended_rest (waiting o a ∷ k) ts = waiting_with o a (ended_rest k) ts

  unfoldable pub whole_rest : List Frame → List Token → Reading (List Instruction)
  whole_rest k ts = whole_with (ended_rest k) ts

  unfoldable pub operand_rest : List Frame → List Token → Reading (List Instruction)
  operand_rest k ts = and_then (expr_from scopes ts) (λ e us. prefixed (code_by place_of sc e) (ended_rest k us))

  -- The phases by their numbers: 0 an operand is to come, 1 an operand is read, 2 new T() is read or an expression has
  -- ended, 3 all is emitted. From 4 on emission has given up: what is left is a number that no table takes.
  unfoldable pub rest_of : ℕ → List Frame → List Token → Reading (List Instruction)
  rest_of phase k ts =
      cond (eqb phase 0) (operand_rest k ts)
      (cond (eqb phase 1) (whole_rest k ts)
      (cond (eqb phase 2) (ended_rest k ts)
      (cond (eqb phase 3) (read [] ts) (read (INT 32768 ∷ []) ts))))

-- The stack as it stands in a lent array: entry i at 3 i: op, argument, and the brackets that were open between it and
-- the entry below; `unclosed` are those above the last entry.
unfoldable pub brackets : ℕ → List Frame → List Frame
brackets zero k = k
brackets (suc n) k = bracket ∷ brackets n k

unfoldable pub frames_in : List ℕ → ℕ → ℕ → List Frame
frames_in p zero unclosed = brackets unclosed []
frames_in p (suc i) unclosed =
    brackets unclosed (waiting (get_or p (3 * i) 0) (get_or p (3 * i + 1) 0) ∷ frames_in p i (get_or p (3 * i + 2) 0))
