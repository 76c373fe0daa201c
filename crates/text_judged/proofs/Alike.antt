-- A method's code with its methods numbered in two ways: the same instructions, but for the numbers of the called
-- names.
use Prim.Native.Nat.{ℕ, zero, suc, ◌+◌}
use native.Mathlib.Omega.{arith}
use mathlib.Core.Path.{◌≡◌, refl, ap, subst}
use mathlib.Core.Bool.{Bool, true, false}
use mathlib.Core.List.{List, [], ◌∷◌, ◌++◌}
use mathlib.Core.Option.{Option, none, some, none-ne-some, some-injective}
use lib.ListN.{length}
use Rattle.lists.specs.Lists.{All}
use Rattle.text.specs.Tree.{Name, NonVoidType, Operator, plus, minus, equals, less_than, Expr, Exprs, number, truth, variable, assignment, operation, method_call, measurement, reception, new_qubit, new_channel, new_end, no_more, also, Statement, Statements, skip, assign, invoke, measure, receive, fork, send, give, block, conditional, alternative, loop, done, next, Method, Program, Declared, declared_by, body_variables, method_of, method_at, count, gate_of}
use Rattle.text.specs.Translation.{Instruction, instruction, operator_op, carried_code, truth_word, Scope, slot_of, ends_in, opened, within, assign_code, drop_code, clear_code, if_code, else_code, while_code, closing, hole_of}
use Rattle.text_parse.specs.Tokens.{Token}
use Rattle.text_scan.specs.Events.{Event, called, invoked, closed, ended, expr_events, exprs_events, declared_events, statement_events, statements_events, method_events, program_events}
use Rattle.text_judge.specs.RowsCode.{calls}
use Rattle.text_numbering.specs.CodeBy.{code_by, arguments_by}
use Rattle.text_code.specs.StatementBy.{invoke_by, statement_by, statements_by, method_by}
use Rattle.text_judged.specs.JudgedCode.{plain_op}

-- What the names that are called have, and the two ways.
module _ (P : Name → Type 0) (num num' : Name → ℕ) where
  pub data Alike : Instruction → Instruction → Type 0 where
    as_is : (o a b : ℕ) → plain_op o ≡ true → a ≡ b → Alike (instruction o a) (instruction o b)
    naming : (o : ℕ) (x : Name) → calls o ≡ true → P x → Alike (instruction o (num x)) (instruction o (num' x))

  pub data AllAlike : List Instruction → List Instruction → Type 0 where
    all_done : AllAlike [] []
    and-more : {i j : Instruction} {is js : List Instruction} → Alike i j → AllAlike is js
        → AllAlike (i ∷ is) (j ∷ js)

  append-alike : {a b c d : List Instruction} → AllAlike a b → AllAlike c d → AllAlike (a ++ c) (b ++ d)
  append-alike all_done r = r
  append-alike (and-more p q) r = and-more p (append-alike q r)

  pub length-alike : {a b : List Instruction} → AllAlike a b → length a ≡ length b
  length-alike all_done = refl
  length-alike (and-more p q) = ap suc (length-alike q)

  one : (o a b : ℕ) → plain_op o ≡ true → a ≡ b → AllAlike (instruction o a ∷ []) (instruction o b ∷ [])
  one o a b e q = and-more (as_is o a b e q) all_done

  more : (o a : ℕ) → plain_op o ≡ true → {is js : List Instruction} → AllAlike is js
      → AllAlike (instruction o a ∷ is) (instruction o a ∷ js)
  more o a e r = and-more (as_is o a a e refl) r

  operator-plain : (o : Operator) → plain_op (operator_op o) ≡ true
  unfolding operator_op plain_op calls
  operator-plain plus = refl
  operator-plain minus = refl
  operator-plain equals = refl
  operator-plain less_than = refl

  assign_alike : (b : Bool) (i : ℕ) → AllAlike (assign_code b i) (assign_code b i)
  unfolding assign_code plain_op calls
  assign_alike false i = more 4 i refl (more 5 0 refl all_done)
  assign_alike true i =
      more 4 i refl (more 9 0 refl (more 4 (i + 1) refl (more 5 0 refl
      (more 3 i refl (more 9 1 refl (more 4 (i + 2) refl (more 5 0 refl all_done)))))))

  drop-alike : (o : Option NonVoidType) → AllAlike (drop_code o) (drop_code o)
  unfolding drop_code plain_op calls
  drop-alike none = all_done
  drop-alike (some t) = more 5 0 refl all_done

  clear-alike : (ds : List Declared) (i : ℕ) → AllAlike (clear_code ds i) (clear_code ds i)
  unfolding clear_code plain_op calls
  clear-alike [] i = all_done
  clear-alike (d ∷ ds) i = more 6 i refl (clear-alike ds (suc i))

  closing-alike : (o : Option NonVoidType) (hole : ℕ) → AllAlike (closing o hole) (closing o hole)
  unfolding closing plain_op calls
  closing-alike none hole = more 13 0 refl all_done
  closing-alike (some t) hole = more 3 hole refl (more 13 0 refl all_done)

  -- control, where the parts are alike
  module _ {c d : List Instruction} (p : AllAlike c d) {at at' : ℕ} (e : at ≡ at') where
    if-alike : {s t : List Instruction} → AllAlike s t → AllAlike (if_code at c s) (if_code at' d t)
    unfolding if_code plain_op calls
    if-alike q =
        append-alike p (and-more (as_is 18 _ _ refl (omega (arith, length-alike p, length-alike q))) q)

    while-alike : {s t : List Instruction} → AllAlike s t → AllAlike (while_code at c s) (while_code at' d t)
    unfolding while_code plain_op calls
    while-alike q =
        append-alike p (and-more (as_is 18 _ _ refl (omega (arith, length-alike p, length-alike q)))
        (append-alike q (one 17 at at' refl e)))

    else-alike : {s t u v : List Instruction} → AllAlike s t → AllAlike u v
        → AllAlike (else_code at c s u) (else_code at' d t v)
    unfolding else_code plain_op calls
    else-alike q r =
        append-alike p (and-more (as_is 18 _ _ refl (omega (arith, length-alike p, length-alike q)))
        (append-alike q (and-more
        (as_is 17 _ _ refl (omega (arith, length-alike p, length-alike q, length-alike r))) r)))

  -- E holds of every event of the text
  module _ (ms : Program) (E : Event → Type 0) (by_call : (x : Name) (n : ℕ) → E (called x n) → P x)
      (by-invoke : (x : Name) (n : ℕ) (m : Method) → E (invoked x n) → method_of ms x ≡ some m → P x) where
    mutual
      unfolding code_by expr_events plain_op calls

      expr-alike : (sc : Scope) (e : Expr) (es : List Event) → All E (expr_events e es)
          → AllAlike (code_by num sc e) (code_by num' sc e) × All E es
      expr-alike sc (number n) es a = (one 1 n n refl refl, a)
      expr-alike sc (truth b) es a = (one 2 (truth_word b) (truth_word b) refl refl, a)
      expr-alike sc (variable x) es a = (one 3 (slot_of sc x) (slot_of sc x) refl refl, a.1)
      expr-alike sc (assignment x e) es a =
          let (c, r) = expr-alike sc e es a.1 in
          (append-alike c (one 4 (slot_of sc x) (slot_of sc x) refl refl), r)
      expr-alike sc (operation o l k) es a =
          let (c, r) = expr-alike sc l (expr_events k es) a in
          let (d, q) = expr-alike sc k es r in
          (append-alike c (append-alike d (one (operator_op o) 0 0 (operator-plain o) refl)), q)
      expr-alike sc (method_call m as') es a =
          let (c, r) = arguments-alike sc as' es a.1 in
          (append-alike c (and-more (naming 12 m refl (by_call m (count as') a.0)) all_done), r)
      expr-alike sc (measurement q) es a =
          (more 3 (slot_of sc q) refl (one 11 0 0 refl refl), a.1)
      expr-alike sc (reception e) es a =
          let (c, r) = expr-alike sc e es a in (append-alike c (one 16 0 0 refl refl), r)
      expr-alike sc new_qubit es a = (one 7 0 0 refl refl, a)
      expr-alike sc (new_channel t) es a = (one 8 (carried_code t) (carried_code t) refl refl, a)
      expr-alike sc (new_end t) es a = (one 0 0 0 refl refl, a)

      arguments-alike : (sc : Scope) (as' : Exprs) (es : List Event) → All E (exprs_events as' es)
          → AllAlike (arguments_by num sc as') (arguments_by num' sc as') × All E es
      arguments-alike sc no_more es a = (all_done, a)
      arguments-alike sc (also e as') es a =
          let (c, r) = expr-alike sc e (exprs_events as' es) a in
          let (d, q) = arguments-alike sc as' es r in
          (append-alike c d, q)

    invoke-alike : (x : Name) (n : ℕ) (o : Option Method) → method_of ms x ≡ o → E (invoked x n)
        → AllAlike (invoke_by num x o) (invoke_by num' x o)
    unfolding invoke_by plain_op calls
    invoke-alike x n none e a = one 10 (gate_of x) (gate_of x) refl refl
    invoke-alike x n (some m) e a = and-more (naming 12 x refl (by-invoke x n m a e)) (drop-alike m.returns)

    declared-on : (ds : List Declared) (es : List Event) → All E (declared_events ds es) → All E es
    unfolding declared_events
    declared-on [] es a = a
    declared-on (d ∷ ds) es a = declared-on ds es a.1

    mutual
      unfolding statement_by statement_events plain_op calls

      statement-alike : (sc : Scope) (i at at' : ℕ) → at ≡ at' → (s : Statement) (es : List Event)
          → All E (statement_events s es)
          → AllAlike (statement_by num ms sc i at s) (statement_by num' ms sc i at' s) × All E es
      statement-alike sc i at at' q skip es a = (all_done, a)
      statement-alike sc i at at' q (assign x e) es a =
          let (c, r) = expr-alike sc e es a.1 in
          (append-alike c (assign_alike (ends_in sc x) (slot_of sc x)), r)
      statement-alike sc i at at' q (invoke x as') es a =
          let (c, r) = arguments-alike sc as' es a.1 in
          (append-alike c (invoke-alike x (count as') (method_of ms x) refl a.0), r)
      statement-alike sc i at at' q (measure x) es a =
          (more 3 (slot_of sc x) refl (more 11 0 refl (more 5 0 refl all_done)), a.1)
      statement-alike sc i at at' q (receive e) es a =
          let (c, r) = expr-alike sc e es a in
          (append-alike c (more 16 0 refl (more 5 0 refl all_done)), r)
      statement-alike sc i at at' q (fork m as') es a =
          let (c, r) = arguments-alike sc as' es a.1 in
          (append-alike c (and-more (naming 14 m refl (by_call m (count as') a.0)) all_done), r)
      statement-alike sc i at at' q (send e v) es a =
          let (c, r) = expr-alike sc e (expr_events v es) a in
          let (d, t) = expr-alike sc v es r in
          (append-alike c (append-alike d (one 15 0 0 refl refl)), t)
      statement-alike sc i at at' q (give e) es a =
          let (c, r) = expr-alike sc e es a in (append-alike c (one 13 0 0 refl refl), r)
      statement-alike sc i at at' q (block ds ss) es a =
          let n = length (declared_by ds) in
          let (c, r) = statements-alike (opened (declared_by ds) i sc) (i + n) (at + n) (at' + n) (ap (λ k. k + n) q) ss
          (closed ∷ es) (declared-on (declared_by ds) (statements_events ss (closed ∷ es)) a.1) in
          (append-alike (clear-alike (declared_by ds) i) c, r.1)
      statement-alike sc i at at' q (conditional e s) es a =
          let (c, r) = expr-alike sc e (statement_events s es) a in
          let (d, t) = statement-alike sc i (at + length (code_by num sc e) + 1) (at' + length (code_by num' sc e) + 1)
          (omega (arith, length-alike c)) s es r in
          (if-alike c q d, t)
      statement-alike sc i at at' q (alternative e s k) es a =
          let (c, r) = expr-alike sc e (statement_events s (statement_events k es)) a in
          let (d, t) = statement-alike sc i (at + length (code_by num sc e) + 1) (at' + length (code_by num' sc e) + 1)
          (omega (arith, length-alike c)) s (statement_events k es) r in
          let (f, u) = statement-alike sc (i + length (within s))
          (at + length (code_by num sc e) + 1
          + length (statement_by num ms sc i (at + length (code_by num sc e) + 1) s) + 1)
          (at' + length (code_by num' sc e) + 1
          + length (statement_by num' ms sc i (at' + length (code_by num' sc e) + 1) s) + 1)
          (omega (arith, length-alike c, length-alike d)) k es t in
          (else-alike c q d f, u)
      statement-alike sc i at at' q (loop e s) es a =
          let (c, r) = expr-alike sc e (statement_events s es) a in
          let (d, t) = statement-alike sc i (at + length (code_by num sc e) + 1) (at' + length (code_by num' sc e) + 1)
          (omega (arith, length-alike c)) s es r in
          (while-alike c q d, t)

      statements-alike : (sc : Scope) (i at at' : ℕ) → at ≡ at' → (ss : Statements) (es : List Event)
          → All E (statements_events ss es)
          → AllAlike (statements_by num ms sc i at ss) (statements_by num' ms sc i at' ss) × All E es
      statements-alike sc i at at' q done es a = (all_done, a)
      statements-alike sc i at at' q (next s ss) es a =
          let (c, r) = statement-alike sc i at at' q s (statements_events ss es) a in
          let (d, t) = statements-alike sc (i + length (within s)) (at + length (statement_by num ms sc i at s))
          (at' + length (statement_by num' ms sc i at' s)) (omega (arith, length-alike c)) ss es r in
          (append-alike c d, t)

    method-alike : (m : Method) (us : List Token) (es : List Event) → All E (method_events m us es)
        → AllAlike (method_by num ms m) (method_by num' ms m) × All E es
    unfolding method_by method_events
    method-alike m us es a =
        let (c, r) = statements-alike (opened (body_variables m) 0 []) (length (body_variables m)) 0 0 refl
        m.statements
        (ended us ∷ es) (declared-on (body_variables m) (statements_events m.statements (ended us ∷ es)) a.1) in
        (append-alike c (closing-alike m.returns (hole_of m)), r.1)

    -- each method of a program
    pub program-alike : (ns : Program) (uss : List (List Token)) → All E (program_events ns uss) → (k : ℕ) (m : Method)
        → method_at ns k ≡ some m → AllAlike (method_by num ms m) (method_by num' ms m)
    unfolding program_events method_at
    program-alike [] uss a k m e = absurd (none-ne-some m e)
    program-alike (n ∷ ns) [] a zero m e =
        subst (λ m. AllAlike (method_by num ms m) (method_by num' ms m)) (some-injective n m e)
        (method-alike n [] (program_events ns []) a).0
    program-alike (n ∷ ns) [] a (suc k) m e =
        program-alike ns [] (method-alike n [] (program_events ns []) a).1 k m e
    program-alike (n ∷ ns) (us ∷ uss) a zero m e =
        subst (λ m. AllAlike (method_by num ms m) (method_by num' ms m)) (some-injective n m e)
        (method-alike n us (program_events ns uss) a).0
    program-alike (n ∷ ns) (us ∷ uss) a (suc k) m e =
        program-alike ns uss (method-alike n us (program_events ns uss) a).1 k m e
