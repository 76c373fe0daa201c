-- The jumps of translated code lead to instructions of their own method: none leads past the statement that it belongs
-- to, and after the last statement stands what closes the method.
use Prim.Native.Nat.{ℕ, suc, ◌+◌, ◌≤◌, ◌<◌}
use native.Mathlib.Omega.{arith}
use mathlib.Core.Bool.{Bool, true, false}
use mathlib.Core.Path.{◌≡◌, refl}
use mathlib.Core.List.{List, [], ◌∷◌, ◌++◌}
use mathlib.Core.Option.{Option, none, some}
use lib.ListN.{length, length-append}
use lib.Dec.{T}
use Rattle.lists.specs.Lists.{All}
use Rattle.lists.proofs.Any.{All-append, All-implies}
use Rattle.lists.proofs.Numbers.{◌▹◌}
use Rattle.table.specs.Ops.{op_of}
use Rattle.table.proofs.Ops.{ops-opened}
use Rattle.text.specs.Tree.{Name, NonVoidType, Operator, plus, minus, equals, less_than, Expr, Exprs, number, truth, variable, assignment, operation, method_call, measurement, reception, new_qubit, new_channel, new_end, no_more, also, Statement, Statements, skip, assign, invoke, measure, receive, fork, send, give, block, conditional, alternative, loop, done, next, Method, Program, Declared, declared_by, body_variables, method_of}
use Rattle.text.proofs.Acceptance.{closing-some}
use Rattle.text.specs.Translation.{Instruction, JUMP, JFALSE, operator_op, Scope, expr_code, exprs_code, assign_code, drop_code, invoke_code, clear_code, if_code, else_code, while_code, code, all_code, opened, within, slot_of, ends_in, hole_of, closing, body_code, method_code}

-- where x jumps, it jumps no further than so
abbrev To : ℕ → Instruction → Type 0
To bound x = T (op_of x.op).jumps → x.argument ≤ bound

-- Code without jumps

module _ (bound : ℕ) where
  abbrev AllTo : List Instruction → Type 0
  AllTo = All (To bound)

  both_to : (xs ys : List Instruction) → AllTo xs → AllTo ys → AllTo (xs ++ ys)
  both_to = All-append (To bound)

  -- one instruction more that does not jump
  last-to : (xs : List Instruction) (x : Instruction) → AllTo xs → To bound x → AllTo (xs ++ (x ∷ []))
  last-to xs x a b = both_to xs (x ∷ []) a (b, tt)

  operator-to : (o : Operator) → ¬ (T (op_of (operator_op o)).jumps)
  unfolding operator_op ops-opened
  operator-to plus t = t
  operator-to minus t = t
  operator-to equals t = t
  operator-to less_than t = t

  module _ (ms : Program) (sc : Scope) where
    mutual
      unfolding expr_code ops-opened

      expr-to : (e : Expr) → AllTo (expr_code ms sc e)
      expr-to (number n) = (λ t. absurd t, tt)
      expr-to (truth b) = (λ t. absurd t, tt)
      expr-to (variable x) = (λ t. absurd t, tt)
      expr-to (assignment x e) = last-to (expr_code ms sc e) _ (expr-to e) (λ t. absurd t)
      expr-to (operation o a b) =
          both_to (expr_code ms sc a) _ (expr-to a)
          (last-to (expr_code ms sc b) _ (expr-to b) (λ t. absurd (operator-to o t)))
      expr-to (method_call m es) = last-to (exprs_code ms sc es) _ (exprs-to es) (λ t. absurd t)
      expr-to (measurement q) = (λ t. absurd t, (λ t. absurd t, tt))
      expr-to (reception e) = last-to (expr_code ms sc e) _ (expr-to e) (λ t. absurd t)
      expr-to new_qubit = (λ t. absurd t, tt)
      expr-to (new_channel t) = (λ t. absurd t, tt)
      expr-to (new_end t) = (λ t. absurd t, tt)

      exprs-to : (es : Exprs) → AllTo (exprs_code ms sc es)
      exprs-to no_more = tt
      exprs-to (also e es) = both_to (expr_code ms sc e) (exprs_code ms sc es) (expr-to e) (exprs-to es)

  assign-to : (ends : Bool) (i : ℕ) → AllTo (assign_code ends i)
  unfolding assign_code ops-opened
  assign-to false i = (λ t. absurd t, (λ t. absurd t, tt))
  assign-to true i =
      (λ t. absurd t) ▹ (λ t. absurd t) ▹ (λ t. absurd t) ▹ (λ t. absurd t)
      ▹ (λ t. absurd t) ▹ (λ t. absurd t) ▹ (λ t. absurd t) ▹ (λ t. absurd t) ▹ tt

  drop-to : (o : Option NonVoidType) → AllTo (drop_code o)
  unfolding drop_code ops-opened
  drop-to none = tt
  drop-to (some t) = (λ t. absurd t, tt)

  invoke-to : (ms : Program) (x : Name) (o : Option Method) → AllTo (invoke_code ms x o)
  unfolding invoke_code ops-opened
  invoke-to ms x none = (λ t. absurd t, tt)
  invoke-to ms x (some m) = (λ t. absurd t, drop-to m.returns)

  clear-to : (ds : List Declared) (i : ℕ) → AllTo (clear_code ds i)
  unfolding clear_code ops-opened
  clear-to [] i = tt
  clear-to (d ∷ ds) i = (λ t. absurd t, clear-to ds (suc i))

  closing-to : (o : Option NonVoidType) (hole : ℕ) → AllTo (closing o hole)
  unfolding closing ops-opened
  closing-to none hole = (λ t. absurd t, tt)
  closing-to (some t) hole = (λ t. absurd t, (λ t. absurd t, tt))

clear-length : (ds : List Declared) (i : ℕ) → length (clear_code ds i) ≡ length ds
unfolding clear_code
clear-length [] i = refl
clear-length (d ∷ ds) i = omega (arith, clear-length ds (suc i))

-- Code with jumps, by the lengths of its parts

if-length : (at : ℕ) (c s : List Instruction) → length (if_code at c s) ≡ length c + 1 + length s
unfolding if_code
if-length at c s = omega (arith, length-append c (JFALSE (at + length c + 1 + length s) ∷ s))

else-length : (at : ℕ) (c s t : List Instruction)
    → length (else_code at c s t) ≡ length c + 1 + length s + 1 + length t
unfolding else_code
else-length at c s t =
    let over = JUMP (at + length c + 1 + length s + 1 + length t) ∷ t in
    omega (
      arith,
      length-append c (JFALSE (at + length c + 1 + length s + 1) ∷ s ++ over),
      length-append s over,
    )

while-length : (at : ℕ) (c s : List Instruction) → length (while_code at c s) ≡ length c + 1 + length s + 1
unfolding while_code
while-length at c s =
    let back = JUMP at ∷ [] in
    omega (
      arith,
      length-append c (JFALSE (at + length c + 1 + length s + 1) ∷ s ++ back),
      length-append s back,
    )

module _ (bound at : ℕ) (c s : List Instruction) (cs : All (To bound) c) (ss : All (To bound) s) where
  if-to : at + length (if_code at c s) ≤ bound → All (To bound) (if_code at c s)
  unfolding if_code
  if-to l = both_to bound c _ cs (λ t. omega (arith, if-length at c s), ss)

  else-to : (t : List Instruction) → All (To bound) t → at + length (else_code at c s t) ≤ bound
      → All (To bound) (else_code at c s t)
  unfolding else_code
  else-to t ts l =
      both_to bound c _ cs (
        λ j. omega (arith, else-length at c s t),
        both_to bound s _ ss (λ j. omega (arith, else-length at c s t), ts),
      )

  while-to : at + length (while_code at c s) ≤ bound → All (To bound) (while_code at c s)
  unfolding while_code
  while-to l =
      both_to bound c _ cs (
        λ j. omega (arith, while-length at c s),
        both_to bound s _ ss (λ j. omega (arith, while-length at c s), tt),
      )

-- Statements

module _ (bound : ℕ) (ms : Program) where
  mutual
    unfolding code ops-opened

    code-to : (sc : Scope) (i at : ℕ) (s : Statement) → at + length (code ms sc i at s) ≤ bound
        → All (To bound) (code ms sc i at s)
    code-to sc i at skip l = tt
    code-to sc i at (assign x e) l =
        both_to bound (expr_code ms sc e) _ (expr-to bound ms sc e) (assign-to bound (ends_in sc x) (slot_of sc x))
    code-to sc i at (invoke x es) l =
        both_to bound (exprs_code ms sc es) _ (exprs-to bound ms sc es) (invoke-to bound ms x (method_of ms x))
    code-to sc i at (measure q) l = (λ t. absurd t, (λ t. absurd t, (λ t. absurd t, tt)))
    code-to sc i at (receive e) l =
        both_to bound (expr_code ms sc e) _ (expr-to bound ms sc e) (λ t. absurd t, (λ t. absurd t, tt))
    code-to sc i at (fork m es) l = last-to bound (exprs_code ms sc es) _ (exprs-to bound ms sc es) (λ t. absurd t)
    code-to sc i at (send e v) l =
        both_to bound (expr_code ms sc e) _ (expr-to bound ms sc e)
        (last-to bound (expr_code ms sc v) _ (expr-to bound ms sc v) (λ t. absurd t))
    code-to sc i at (give e) l = last-to bound (expr_code ms sc e) _ (expr-to bound ms sc e) (λ t. absurd t)
    code-to sc i at (block ds ss) l =
        let vs = declared_by ds in
        let inner = all_code ms (opened vs i sc) (i + length vs) (at + length vs) ss in
        both_to bound (clear_code vs i) inner (clear-to bound vs i)
        (all-to (opened vs i sc) (i + length vs) (at + length vs) ss
        (omega (arith, length-append (clear_code vs i) inner, clear-length vs i)))
    code-to sc i at (conditional e s) l =
        let c = expr_code ms sc e in
        let then = code ms sc i (at + length c + 1) s in
        if-to bound at c then (expr-to bound ms sc e)
        (code-to sc i (at + length c + 1) s (omega (arith, if-length at c then))) l
    code-to sc i at (alternative e s t) l =
        let c = expr_code ms sc e in
        let then = code ms sc i (at + length c + 1) s in
        let from = at + length c + 1 + length then + 1 in
        let else = code ms sc (i + length (within s)) from t in
        else-to bound at c then (expr-to bound ms sc e)
        (code-to sc i (at + length c + 1) s (omega (arith, else-length at c then else)))
        else (code-to sc (i + length (within s)) from t (omega (arith, else-length at c then else))) l
    code-to sc i at (loop e s) l =
        let c = expr_code ms sc e in
        let body = code ms sc i (at + length c + 1) s in
        while-to bound at c body (expr-to bound ms sc e)
        (code-to sc i (at + length c + 1) s (omega (arith, while-length at c body))) l

    all-to : (sc : Scope) (i at : ℕ) (ss : Statements) → at + length (all_code ms sc i at ss) ≤ bound
        → All (To bound) (all_code ms sc i at ss)
    all-to sc i at done l = tt
    all-to sc i at (next s ss) l =
        let first = code ms sc i at s in
        let rest = all_code ms sc (i + length (within s)) (at + length first) ss in
        both_to bound first rest (code-to sc i at s (omega (arith, length-append first rest)))
        (all-to sc (i + length (within s)) (at + length first) ss (omega (arith, length-append first rest)))

-- Methods

-- no jump leads out of its method
pub method-jumps : (ms : Program) (m : Method)
    → All (λ (x : Instruction). T (op_of x.op).jumps → x.argument < length (method_code ms m)) (method_code ms m)
unfolding method_code body_code
method-jumps ms m =
    let body = body_code ms m in
    let end = closing m.returns (hole_of m) in
    All-implies _ _
    (λ x h t. omega (arith, h t, length-append body end, closing-some m.returns (hole_of m)))
    (method_code ms m)
    (both_to (length body) body end
    (all-to (length body) ms (opened (body_variables m) 0 []) (length (body_variables m)) 0 m.statements (omega arith))
    (closing-to (length body) m.returns (hole_of m)))
