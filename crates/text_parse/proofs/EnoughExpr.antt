-- Readings of expressions with enough: from 4 for each token, and a few more, on, the number changes nothing, and what
-- is read is what the production says. The number b bounds the proof as n bounds the reading: both fall at each call.
use Prim.Native.Nat.{ℕ, zero, suc, ◌+◌, ◌*◌, ◌≤◌}
use native.Mathlib.Omega.{arith}
use mathlib.Core.Path.{◌≡◌, refl, sym, ◌∙◌}
use mathlib.Core.List.{List}
use mathlib.Core.Option.{Option, none, some}
use lib.ListN.{length}
use Rattle.text.specs.Tree.{Name, Operator, Expr}
use Rattle.text_parse.specs.Tokens.{Token, is_numeral}
use Rattle.text_parse.specs.Grammar.{Reading, and_then, first, rest, Scopes, is_withends, operator_at, expr, operands, indiv_expr, named, arguments, method_params, enough}
use Rattle.text_parse.specs.Left.{Fewer, Onward}
use Rattle.text_parse.specs.Equations.{expr_from, indiv_expr_from, method_params_from, operands_rule, expr_rule, arguments_rule, named_rule, reception_rule, indiv_expr_rule, method_params_rule}
use Rattle.text_parse.proofs.LeavingExpr.{operator-bytes}
use Rattle.text_parse.proofs.Same.{rest-fewer, cond_same, and_then-same, next-same, expect-same, expect_name-same}
use Rattle.text_parse.proofs.Progress.{progress}

-- 4 for each token, and c
abbrev pub Room : ℕ → List Token → ℕ → Type 0
Room c ts n = 4 * length ts + c ≤ n

pub enough-room : (ts : List Token) → Room 4 ts (enough ts)
unfolding enough
enough-room ts = omega arith

-- a reading that comes to what the production says, from c more than 4 for each token on, comes to the same with enough
expr-stable : (n : ℕ) (scopes : Scopes) (ts : List Token) → Room 2 ts n
    → ((k : ℕ) → Room 2 ts k → expr k scopes ts ≡ expr_rule scopes ts) → expr n scopes ts ≡ expr_from scopes ts
unfolding expr_from
expr-stable n scopes ts m rule = rule n m ∙ sym (rule (enough ts) (omega (arith, enough-room ts)))

indiv_expr-stable : (n : ℕ) (scopes : Scopes) (ts : List Token) → Room 1 ts n
    → ((k : ℕ) → Room 1 ts k → indiv_expr k scopes ts ≡ indiv_expr_rule scopes ts)
    → indiv_expr n scopes ts ≡ indiv_expr_from scopes ts
unfolding indiv_expr_from
indiv_expr-stable n scopes ts m rule = rule n m ∙ sym (rule (enough ts) (omega (arith, enough-room ts)))

method_params-stable : (n : ℕ) (scopes : Scopes) (ts : List Token) → Room 3 ts n
    → ((k : ℕ) → Room 3 ts k → method_params k scopes ts ≡ method_params_rule scopes ts)
    → method_params n scopes ts ≡ method_params_from scopes ts
unfolding method_params_from
method_params-stable n scopes ts m rule = rule n m ∙ sym (rule (enough ts) (omega (arith, enough-room ts)))

-- and so does what is read after an expression
expr-then : {A : Type 0} (n : ℕ) (scopes : Scopes) (ts : List Token) {f g : Expr → List Token → Reading A}
    → Room 2 ts n → ((k : ℕ) → Room 2 ts k → expr k scopes ts ≡ expr_rule scopes ts)
    → ((e : Expr) (us : List Token) → Onward ts us → f e us ≡ g e us)
    → and_then (expr n scopes ts) f ≡ and_then (expr_from scopes ts) g
expr-then n scopes ts m rule e = and_then-same (expr-stable n scopes ts m rule) (progress.expr-on n scopes ts) e

mutual
  unfolding expr operands_rule expr_rule arguments_rule named_rule reception_rule indiv_expr_rule method_params_rule

  pub expr-rule : (b : ℕ) (scopes : Scopes) (ts : List Token) → Room 2 ts b → (n : ℕ) → Room 2 ts n
      → expr n scopes ts ≡ expr_rule scopes ts
  expr-rule zero scopes ts l n m = absurd (omega arith)
  expr-rule (suc b) scopes ts l zero m = absurd (omega arith)
  expr-rule (suc b) scopes ts l (suc n) m =
      next-same "new" ts tt (λ f. refl)
      (and_then-same
      (indiv_expr-stable n scopes ts (omega arith) (λ k r. indiv_expr-rule b scopes ts (omega arith) k r))
      (progress.indiv_expr-on n scopes ts)
      (λ e us o. operands-rule b scopes e (operator_at us) us refl (omega arith) n (omega arith)))

  pub operands-rule : (b : ℕ) (scopes : Scopes) (e : Expr) (o : Option Operator) (ts : List Token)
      → operator_at ts ≡ o → Room 1 ts b → (n : ℕ) → Room 1 ts n → operands n scopes e o ts ≡ operands_rule scopes e o ts
  operands-rule zero scopes e o ts is l n m = absurd (omega arith)
  operands-rule (suc b) scopes e o ts is l zero m = absurd (omega arith)
  operands-rule (suc b) scopes e none ts is l (suc n) m = refl
  operands-rule (suc b) scopes e (some o) ts is l (suc n) m =
      let fewer : Fewer ts (rest ts) = rest-fewer ts (operator-bytes ts o is) in
      expr-then n scopes (rest ts) (omega arith) (λ k r. expr-rule b scopes (rest ts) (omega arith) k r)
      (λ f us o. refl)

  pub indiv_expr-rule : (b : ℕ) (scopes : Scopes) (ts : List Token) → Room 1 ts b → (n : ℕ) → Room 1 ts n
      → indiv_expr n scopes ts ≡ indiv_expr_rule scopes ts
  indiv_expr-rule zero scopes ts l n m = absurd (omega arith)
  indiv_expr-rule (suc b) scopes ts l zero m = absurd (omega arith)
  indiv_expr-rule (suc b) scopes ts l (suc n) m =
      cond_same (is_numeral (first ts)) (λ e. refl)
      (λ e. next-same "true" ts tt (λ f. refl)
      (next-same "false" ts tt (λ f. refl)
      (next-same "(" ts tt
      (λ f. expr-then n scopes (rest ts) (omega arith) (λ k r. expr-rule b scopes (rest ts) (omega arith) k r)
      (λ e us o. refl))
      (next-same "recv" ts tt
      (λ f. expect-same "(" (rest ts) tt (λ us g.
      expr-then n scopes us (omega arith) (λ k r. expr-rule b scopes us (omega arith) k r) (λ e vs o. refl)))
      (next-same "measure" ts tt (λ f. refl)
      (expect_name-same ts (λ x us f. named-rule b scopes x us (omega arith) n (omega arith))))))))

  pub named-rule : (b : ℕ) (scopes : Scopes) (x : Name) (ts : List Token) → Room 1 ts b → (n : ℕ) → Room 1 ts n
      → named n scopes x ts ≡ named_rule scopes x ts
  named-rule zero scopes x ts l n m = absurd (omega arith)
  named-rule (suc b) scopes x ts l zero m = absurd (omega arith)
  named-rule (suc b) scopes x ts l (suc n) m =
      next-same "=" ts tt
      (λ f. cond_same (is_withends scopes x) (λ e. refl)
      (λ e. expr-then n scopes (rest ts) (omega arith) (λ k r. expr-rule b scopes (rest ts) (omega arith) k r)
      (λ e us o. refl)))
      (next-same "(" ts tt
      (λ f. and_then-same (arguments-rule b scopes (rest ts) (omega arith) n (omega arith))
      (progress.arguments-on n scopes (rest ts)) (λ es us o. refl))
      refl)

  pub arguments-rule : (b : ℕ) (scopes : Scopes) (ts : List Token) → Room 4 ts b → (n : ℕ) → Room 4 ts n
      → arguments n scopes ts ≡ arguments_rule scopes ts
  arguments-rule zero scopes ts l n m = absurd (omega arith)
  arguments-rule (suc b) scopes ts l zero m = absurd (omega arith)
  arguments-rule (suc b) scopes ts l (suc n) m =
      next-same ")" ts tt (λ f. refl)
      (method_params-stable n scopes ts (omega arith) (λ k r. method_params-rule b scopes ts (omega arith) k r))

  pub method_params-rule : (b : ℕ) (scopes : Scopes) (ts : List Token) → Room 3 ts b → (n : ℕ) → Room 3 ts n
      → method_params n scopes ts ≡ method_params_rule scopes ts
  method_params-rule zero scopes ts l n m = absurd (omega arith)
  method_params-rule (suc b) scopes ts l zero m = absurd (omega arith)
  method_params-rule (suc b) scopes ts l (suc n) m =
      expr-then n scopes ts (omega arith) (λ k r. expr-rule b scopes ts (omega arith) k r) (λ e us o.
      next-same "," us tt
      (λ f. and_then-same
      (method_params-stable n scopes (rest us) (omega arith)
      (λ k r. method_params-rule b scopes (rest us) (omega arith) k r))
      (progress.method_params-on n scopes (rest us)) (λ es vs o. refl))
      refl)

-- Readings with any number that is enough

-- an expression and what is read after it
pub expr-first : {A : Type 0} (n : ℕ) (scopes : Scopes) (ts : List Token) {f g : Expr → List Token → Reading A}
    → Room 2 ts n → ((e : Expr) (us : List Token) → Onward ts us → f e us ≡ g e us)
    → and_then (expr n scopes ts) f ≡ and_then (expr_from scopes ts) g
expr-first n scopes ts m e = expr-then n scopes ts m (expr-rule n scopes ts m) e

module _ (n : ℕ) (scopes : Scopes) (ts : List Token) where
  pub expr-from : Room 2 ts n → expr n scopes ts ≡ expr_from scopes ts
  expr-from m = expr-stable n scopes ts m (expr-rule n scopes ts m)

  pub indiv_expr-from : Room 1 ts n → indiv_expr n scopes ts ≡ indiv_expr_from scopes ts
  indiv_expr-from m = indiv_expr-stable n scopes ts m (indiv_expr-rule n scopes ts m)

  pub method_params-from : Room 3 ts n → method_params n scopes ts ≡ method_params_from scopes ts
  method_params-from m = method_params-stable n scopes ts m (method_params-rule n scopes ts m)

  pub arguments-from : Room 4 ts n → arguments n scopes ts ≡ arguments_rule scopes ts
  arguments-from m = arguments-rule n scopes ts m n m
