-- The number that a text is read with is enough: no reading meets its bound.
use Prim.Native.Nat.{ℕ, ◌≤◌}
use native.Mathlib.Omega.{arith}
use mathlib.Core.Path.{◌≡◌, refl, sym, ◌∙◌}
use mathlib.Core.List.{List}
use Rattle.text_parse.specs.Tokens.{Token}
use Rattle.text_parse.specs.Grammar.{Reading, operator_at, expr, operands, indiv_expr, named, arguments, method_params, more_names, declaration, declarations, simple, condition, statement, body, unbraced, block_of, statements, more_parameters, parameters, method_body, method, program}
use Rattle.text_parse.specs.Enough.{IsEnough, Agree, Enough}
use Rattle.text_parse.proofs.EnoughExpr.{Room, enough-room, expr-rule, operands-rule, indiv_expr-rule, named-rule, arguments-rule, method_params-rule}
use Rattle.text_parse.proofs.EnoughDeclarations.{more_names-rule, declaration-rule, declarations-rule, simple-rule, condition-rule}
use Rattle.text_parse.proofs.EnoughCode.{statement-rule, body-rule, unbraced-rule, block-rule, statements-rule, more_parameters-rule, parameters-rule, method_body-rule, method-rule, program-rule}

module _ (ts : List Token) (n m : ℕ) (i : IsEnough ts n) (j : IsEnough ts m) where
  -- what comes to one reading from c more than 4 for each token on comes to the same with n and m
  both : {A : Type 0} (c : ℕ) {r : Reading A} (f : ℕ → Reading A) → c ≤ 4
      → ((k : ℕ) → Room c ts k → f k ≡ r) → f n ≡ f m
  both c f le rule = rule n (omega arith) ∙ sym (rule m (omega arith))

  agree : Agree ts n m
  agree = record {
    expr-same = λ sc. both 2 (λ k. expr k sc ts) (omega arith) (expr-rule n sc ts (omega arith));
    operands_same =
        λ sc e. both 1 (λ k. operands k sc e (operator_at ts) ts) (omega arith)
        (operands-rule n sc e (operator_at ts) ts refl (omega arith));
    indiv_expr-same = λ sc. both 1 (λ k. indiv_expr k sc ts) (omega arith) (indiv_expr-rule n sc ts (omega arith));
    named-same = λ sc x. both 1 (λ k. named k sc x ts) (omega arith) (named-rule n sc x ts (omega arith));
    arguments-same = λ sc. both 4 (λ k. arguments k sc ts) (omega arith) (arguments-rule n sc ts (omega arith));
    method_params-same =
        λ sc. both 3 (λ k. method_params k sc ts) (omega arith) (method_params-rule n sc ts (omega arith));
    more_names-same = λ t xs. both 1 (λ k. more_names k t xs ts) (omega arith) (more_names-rule n t xs ts (omega arith));
    declaration-same = both 0 (λ k. declaration k ts) (omega arith) (λ k r. declaration-rule k ts r);
    declarations-same =
        λ ds. both 1 (λ k. declarations k ds ts) (omega arith) (declarations-rule n ds ts (omega arith));
    simple-same = λ sc. both 0 (λ k. simple k sc ts) (omega arith) (λ k r. simple-rule k sc ts r);
    condition-same = λ sc. both 0 (λ k. condition k sc ts) (omega arith) (λ k r. condition-rule k sc ts r);
    statement-same = λ l sc. both 2 (λ k. statement k l sc ts) (omega arith) (statement-rule n l sc ts (omega arith));
    body_same = λ l sc. both 2 (λ k. body k l sc ts) (omega arith) (body-rule n l sc ts (omega arith));
    unbraced-same = λ l sc. both 1 (λ k. unbraced k l sc ts) (omega arith) (unbraced-rule n l sc ts (omega arith));
    block_of-same = λ l sc. both 1 (λ k. block_of k l sc ts) (omega arith) (block-rule n l sc ts (omega arith));
    statements-same =
        λ l sc. both 3 (λ k. statements k l sc ts) (omega arith) (statements-rule n l sc ts (omega arith));
    more_parameters-same =
        λ ps. both 1 (λ k. more_parameters k ps ts) (omega arith) (more_parameters-rule n ps ts (omega arith));
    parameters-same = both 1 (λ k. parameters k ts) (omega arith) (λ k r. parameters-rule k ts r);
    method_body-same =
        λ t x ps. both 0 (λ k. method_body k t x ps ts) (omega arith) (λ k r. method_body-rule k t x ps ts r);
    method-same = both 0 (λ k. method k ts) (omega arith) (λ k r. method-rule k ts r);
    methods-same = both 1 (λ k. program k ts) (omega arith) (program-rule n ts (omega arith));
  }

pub enough-read : Enough
enough-read = record { agree = agree; is-enough = enough-room }
