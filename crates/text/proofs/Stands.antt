-- The code of a statement, and after it what follows the terms k, follows the terms by which the statement is performed
-- and then k.
use Prim.Native.Nat.{ℕ, ◌+◌}
use mathlib.Core.Path.{refl, subst}
use mathlib.Core.List.{List, [], ◌∷◌, ◌++◌, map}
use lib.ListN.{length}
use Rattle.text.specs.Tree.{Expr, Statement, Statements, skip, assign, invoke, measure, receive, fork, send, give, block, conditional, alternative, loop, done, next, Method, Program, Declared, declared_by, count, method_of, number_of}
use Rattle.text.specs.Meaning.{receive_it, forget, assign_to, fork_it, send_it, return_it, if_true, if_else, while_true, Term, move, leave, evaluated, invoked, performed, all_performed}
use Rattle.text.specs.Translation.{Instruction, DROP, RET, FORK, SEND, RECV, Scope, placed_name, slot_of, ends_in, opened, within, all_within, expr_code, exprs_code, assign_code, invoke_code, clear_code, code, all_code}
use Rattle.text.specs.Names.{use_fault, invoke_fault, call_fault, expr_faults, exprs_faults, statement_faults, statements_faults}
use Rattle.text.specs.Limits.{expr_numbers, numbers_in, all_numbers_in}
use Rattle.text.proofs.Apart.{append-nil-left}
use Rattle.text.proofs.Fits.{Faultless, FitsScope, Fits, FitsAll, first-faultless, second-faultless, rest-faultless, first-scope, second-scope, block-body}
use Rattle.text.proofs.Follows.{CodeThen, past, Follows}
use Rattle.text.proofs.Places.{callable, then_append, in_parts, begins}
use Rattle.text.proofs.StandsExpr.{stands-expr, stands-exprs}
use Rattle.text.proofs.Forms.{assigned-by, invocation, invoked-by, declared-by, left_after, if-by, else-by, loop-by}

module _ (ms : Program) (m : Method) where
  -- the places at fault of an expression, in a scope
  abbrev faults-of : Scope → Expr → List ℕ
  faults-of sc e = expr_faults ms (map placed_name sc) e

  -- the places at fault of a statement
  abbrev faults-in : Scope → Statement → List ℕ
  faults-in sc s = statement_faults ms (map placed_name sc) s

  mutual
    unfolding code performed statement_faults numbers_in within

    pub stands : (s : Statement) (k : List Term) (sc : Scope) (i at : ℕ) → Fits ms m sc i s
        → CodeThen ms m (code ms sc i at s) (Follows ms m k sc) at → Follows ms m (performed ms s k) sc at
    stands skip k sc i at fits h = h
    stands (assign x e) k sc i at fits h =
        stands-expr ms m e (move (assign_to x) ∷ k) sc at
        (rest-faultless (use_fault (map placed_name sc) x) fits.faultless)
        (in_parts ms m (expr_code ms sc e) (assign_code (ends_in sc x) (slot_of sc x)) (Follows ms m k sc)
        (Follows ms m (move (assign_to x) ∷ k) sc) at
        (λ g. assigned-by ms m sc x (Follows ms m k sc) (past (expr_code ms sc e) at) fits.scope.ends (ends_in sc x)
        refl g)
        h)
    stands (invoke x es) k sc i at fits h =
        let known = append-nil-left (invoke_fault ms x (count es)) (exprs_faults ms (map placed_name sc) es)
        fits.faultless.names in
        stands-exprs ms m es (invoked (method_of ms x) x (count es) k) sc at
        (rest-faultless (invoke_fault ms x (count es)) fits.faultless)
        (in_parts ms m (exprs_code ms sc es) (invoke_code ms x (method_of ms x)) (Follows ms m k sc)
        (Follows ms m (invoked (method_of ms x) x (count es) k) sc) at
        (λ g. invoked-by ms m x (count es) k sc (past (exprs_code ms sc es) at) (method_of ms x) refl
        (invocation ms m x (count es) known) g)
        h)
    stands (measure q) k sc i at fits h = h
    stands (receive e) k sc i at fits h =
        stands-expr ms m e (move receive_it ∷ move forget ∷ k) sc at fits.faultless
        (then_append ms m (expr_code ms sc e) (RECV ∷ DROP ∷ []) (Follows ms m k sc) at h)
    stands (fork x es) k sc i at fits h =
        let known = append-nil-left (call_fault ms x (count es)) (exprs_faults ms (map placed_name sc) es)
        fits.faultless.names in
        stands-exprs ms m es (move (fork_it x (count es)) ∷ k) sc at
        (rest-faultless (call_fault ms x (count es)) fits.faultless)
        (in_parts ms m (exprs_code ms sc es) (FORK (number_of ms x) ∷ []) (Follows ms m k sc)
        (Follows ms m (move (fork_it x (count es)) ∷ k) sc) at
        (λ g. (callable ms x (count es) known, g)) h)
    stands (send e v) k sc i at fits h =
        stands-expr ms m e (evaluated v (move send_it ∷ k)) sc at
        (first-faultless (faults-of sc v) (expr_numbers v) fits.faultless)
        (in_parts ms m (expr_code ms sc e) (expr_code ms sc v ++ (SEND ∷ [])) (Follows ms m k sc)
        (Follows ms m (evaluated v (move send_it ∷ k)) sc) at
        (λ g. stands-expr ms m v (move send_it ∷ k) sc (past (expr_code ms sc e) at)
        (second-faultless (faults-of sc e) (expr_numbers e) fits.faultless)
        (then_append ms m (expr_code ms sc v) (SEND ∷ []) (Follows ms m k sc) (past (expr_code ms sc e) at) g))
        h)
    stands (give e) k sc i at fits h =
        stands-expr ms m e (move return_it ∷ k) sc at fits.faultless
        (then_append ms m (expr_code ms sc e) (RET ∷ []) (Follows ms m k sc) at h)
    stands (block ds ss) k sc i at fits h =
        let D : List Declared = declared_by ds in
        let own : FitsScope m sc i (length D) = first-scope D (all_within ss) fits.scope in
        let terms : List Term = all_performed ms ss (leave (length D) ∷ k) in
        declared-by ms m D terms sc i at own.below own.room
        (in_parts ms m (clear_code D i) (all_code ms (opened D i sc) (i + length D) (at + length D) ss)
        (Follows ms m k sc) (Follows ms m terms (opened D i sc)) at
        (λ g. stands-all ss (leave (length D) ∷ k) (opened D i sc) (i + length D) (past (clear_code D i) at)
        (block-body ms m ds ss sc i fits) (left_after ms m D ss k sc i at g))
        h)
    stands (conditional e s) k sc i at fits h =
        stands-expr ms m e (move (if_true s) ∷ k) sc at
        (first-faultless (faults-in sc s) (numbers_in s) fits.faultless)
        (if-by ms m (expr_code ms sc e) s k sc i at
        (record {
          faultless = second-faultless (faults-of sc e) (expr_numbers e) fits.faultless;
          scope = fits.scope;
        })
        h)
    stands (alternative e s t) k sc i at fits h =
        let both : Faultless (faults-in sc s ++ faults-in sc t) (numbers_in s ++ numbers_in t) =
        second-faultless (faults-of sc e) (expr_numbers e) fits.faultless in
        stands-expr ms m e (move (if_else s t) ∷ k) sc at
        (first-faultless (faults-in sc s ++ faults-in sc t) (numbers_in s ++ numbers_in t) fits.faultless)
        (else-by ms m (expr_code ms sc e) s t k sc i at
        (record {
          faultless = first-faultless (faults-in sc t) (numbers_in t) both;
          scope = first-scope (within s) (within t) fits.scope;
        })
        (record {
          faultless = second-faultless (faults-in sc s) (numbers_in s) both;
          scope = second-scope (within s) (within t) fits.scope;
        })
        h)
    stands (loop e s) k sc i at fits h =
        stands-expr ms m e (move (while_true e s) ∷ k) sc at
        (first-faultless (faults-in sc s) (numbers_in s) fits.faultless) (loop-by ms m e s k sc i at fits h)

    pub stands-all : (ss : Statements) (k : List Term) (sc : Scope) (i at : ℕ) → FitsAll ms m sc i ss
        → CodeThen ms m (all_code ms sc i at ss) (Follows ms m k sc) at → Follows ms m (all_performed ms ss k) sc at
    stands-all done k sc i at fits h = h
    stands-all (next s ss) k sc i at fits h =
        let first : List Instruction = code ms sc i at s in
        let others : ℕ → List Instruction = λ b. all_code ms sc (i + length (within s)) b ss in
        stands s (all_performed ms ss k) sc i at
        (record {
          faultless =
              first-faultless (statements_faults ms (map placed_name sc) ss) (all_numbers_in ss) fits.faultless;
          scope = first-scope (within s) (all_within ss) fits.scope;
        })
        (in_parts ms m first (others (at + length first)) (Follows ms m k sc)
        (Follows ms m (all_performed ms ss k) sc) at
        (λ g. stands-all ss k sc (i + length (within s)) (past first at)
        (record {
          faultless = second-faultless (faults-in sc s) (numbers_in s) fits.faultless;
          scope = second-scope (within s) (all_within ss) fits.scope;
        })
        (subst (λ (b : ℕ). CodeThen ms m (others b) (Follows ms m k sc) (past first at)) (begins first at) g))
        h)
