-- The code of an expression, and after it what follows the terms k, follows the terms by which the expression is
-- evaluated and then k.
use Prim.Native.Nat.{ℕ}
use mathlib.Core.Bool.{true}
use mathlib.Core.List.{List, [], ◌∷◌, ◌++◌, map}
use lib.Dec.{leb→le}
use Rattle.lists.proofs.Tests.{and_left}
use Rattle.text.specs.Tree.{Name, Expr, Exprs, number, truth, variable, assignment, operation, method_call, measurement, reception, new_qubit, new_channel, new_end, no_more, also, Method, Program, count, number_of}
use Rattle.text.specs.Meaning.{store, operate, call, receive_it, Term, move, evaluated, all_evaluated}
use Rattle.text.specs.Translation.{instruction, INT, BOOL, PUT, CALL, RECV, operator_op, truth_word, carried_code, Scope, placed_name, slot_of, expr_code, exprs_code}
use Rattle.text.specs.Names.{use_fault, call_fault, expr_faults, exprs_faults}
use Rattle.text.specs.Limits.{expr_numbers, exprs_numbers, is_number}
use Rattle.text.proofs.Apart.{append-nil-left}
use Rattle.text.proofs.Fits.{FitsExpr, FitsExprs, first-faultless, second-faultless, rest-faultless}
use Rattle.text.proofs.Follows.{CodeThen, past, of-int, of-bool, Follows}
use Rattle.text.proofs.Places.{callable, then_append, in_parts}

module _ (ms : Program) (m : Method) where
  -- the names in scope
  abbrev names : Scope → List Name
  names sc = map placed_name sc

  mutual
    unfolding expr_code evaluated expr_faults expr_numbers

    pub stands-expr : (e : Expr) (k : List Term) (sc : Scope) (at : ℕ) → FitsExpr ms sc e
        → CodeThen ms m (expr_code ms sc e) (Follows ms m k sc) at → Follows ms m (evaluated e k) sc at
    stands-expr (number n) k sc at fits h = record {
      pushes = INT n;
      is-constant = of-int n (leb→le n 32767 (and_left (is_number n) true fits.limits));
      stands = h;
    }
    stands-expr (truth b) k sc at fits h = record { pushes = BOOL (truth_word b); is-constant = of-bool b; stands = h }
    stands-expr (variable x) k sc at fits h = h
    stands-expr (assignment x e) k sc at fits h =
        stands-expr e (move (store x) ∷ k) sc at (rest-faultless (use_fault (names sc) x) fits)
        (then_append ms m (expr_code ms sc e) (PUT (slot_of sc x) ∷ []) (Follows ms m k sc) at h)
    stands-expr (operation o a b) k sc at fits h =
        stands-expr a (evaluated b (move (operate o) ∷ k)) sc at
        (first-faultless (expr_faults ms (names sc) b) (expr_numbers b) fits)
        (in_parts ms m (expr_code ms sc a) (expr_code ms sc b ++ (instruction (operator_op o) 0 ∷ []))
        (Follows ms m k sc) (Follows ms m (evaluated b (move (operate o) ∷ k)) sc) at
        (λ g. stands-expr b (move (operate o) ∷ k) sc (past (expr_code ms sc a) at)
        (second-faultless (expr_faults ms (names sc) a) (expr_numbers a) fits)
        (then_append ms m (expr_code ms sc b) (instruction (operator_op o) 0 ∷ []) (Follows ms m k sc)
        (past (expr_code ms sc a) at) g))
        h)
    stands-expr (method_call x es) k sc at fits h =
        stands-exprs es (move (call x (count es)) ∷ k) sc at (rest-faultless (call_fault ms x (count es)) fits)
        (in_parts ms m (exprs_code ms sc es) (CALL (number_of ms x) ∷ []) (Follows ms m k sc)
        (Follows ms m (move (call x (count es)) ∷ k) sc) at
        (λ g. (
          callable ms x (count es)
              (append-nil-left (call_fault ms x (count es)) (exprs_faults ms (names sc) es) fits.names),
          g,
        ))
        h)
    stands-expr (measurement q) k sc at fits h = h
    stands-expr (reception e) k sc at fits h =
        stands-expr e (move receive_it ∷ k) sc at fits
        (then_append ms m (expr_code ms sc e) (RECV ∷ []) (Follows ms m k sc) at h)
    stands-expr new_qubit k sc at fits h = h
    stands-expr (new_channel t) k sc at fits h = record { carried = carried_code t; stands = h }
    stands-expr (new_end t) k sc at fits h = h

    pub stands-exprs : (es : Exprs) (k : List Term) (sc : Scope) (at : ℕ) → FitsExprs ms sc es
        → CodeThen ms m (exprs_code ms sc es) (Follows ms m k sc) at → Follows ms m (all_evaluated es k) sc at
    stands-exprs no_more k sc at fits h = h
    stands-exprs (also e es) k sc at fits h =
        stands-expr e (all_evaluated es k) sc at
        (first-faultless (exprs_faults ms (names sc) es) (exprs_numbers es) fits)
        (in_parts ms m (expr_code ms sc e) (exprs_code ms sc es) (Follows ms m k sc)
        (Follows ms m (all_evaluated es k) sc) at
        (λ g. stands-exprs es k sc (past (expr_code ms sc e) at)
        (second-faultless (expr_faults ms (names sc) e) (expr_numbers e) fits) g)
        h)
