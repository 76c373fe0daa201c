-- The grammar's equations hold of what the readings come to with enough.
use Prim.Native.Nat.{ℕ, ◌≤◌}
use native.Mathlib.Omega.{arith}
use mathlib.Core.List.{List}
use Rattle.text_parse.specs.Tokens.{Token}
use Rattle.text_parse.specs.Grammar.{enough, program_of}
use Rattle.text_parse.specs.Equations.{expr_from, indiv_expr_from, method_params_from, more_names_from, declaration_from, declarations_from, statement_from, body_from, block_from, statements_from, more_parameters_from, method_from, GrammarEquations}
use Rattle.text_parse.proofs.EnoughExpr.{Room, enough-room, expr-rule, indiv_expr-rule, method_params-rule}
use Rattle.text_parse.proofs.EnoughDeclarations.{more_names-rule, declaration-rule, declarations-rule}
use Rattle.text_parse.proofs.EnoughCode.{statement-rule, body-rule, block-rule, statements-rule, more_parameters-rule, method-rule, program-rule}

-- what holds with any number from c more than 4 for each token on holds with enough
with-enough : (ts : List Token) (c : ℕ) {P : ℕ → Type 0} → c ≤ 4
    → ((b : ℕ) → Room c ts b → (n : ℕ) → Room c ts n → P n) → P (enough ts)
with-enough ts c le rule =
    let room : Room 4 ts (enough ts) = enough-room ts in
    rule (enough ts) (omega arith) (enough ts) (omega arith)

pub grammar : GrammarEquations
unfolding expr_from indiv_expr_from method_params_from more_names_from declaration_from declarations_from statement_from body_from
    block_from statements_from more_parameters_from method_from program_of
grammar = record {
  expr-is = λ sc ts. with-enough ts 2 (omega arith) (λ b l n m. expr-rule b sc ts l n m);
  indiv_expr-is = λ sc ts. with-enough ts 1 (omega arith) (λ b l n m. indiv_expr-rule b sc ts l n m);
  method_params-is = λ sc ts. with-enough ts 3 (omega arith) (λ b l n m. method_params-rule b sc ts l n m);
  more_names-is = λ t xs ts. with-enough ts 1 (omega arith) (λ b l n m. more_names-rule b t xs ts l n m);
  declaration-is = λ ts. with-enough ts 0 (omega arith) (λ b l n m. declaration-rule n ts m);
  declarations-is = λ ds ts. with-enough ts 1 (omega arith) (λ b l n m. declarations-rule b ds ts l n m);
  statement-is = λ i sc ts. with-enough ts 2 (omega arith) (λ b l n m. statement-rule b i sc ts l n m);
  body_is = λ i sc ts. with-enough ts 2 (omega arith) (λ b l n m. body-rule b i sc ts l n m);
  block-is = λ i sc ts. with-enough ts 1 (omega arith) (λ b l n m. block-rule b i sc ts l n m);
  statements-is = λ i sc ts. with-enough ts 3 (omega arith) (λ b l n m. statements-rule b i sc ts l n m);
  more_parameters-is = λ ps ts. with-enough ts 1 (omega arith) (λ b l n m. more_parameters-rule b ps ts l n m);
  method-is = λ ts. with-enough ts 0 (omega arith) (λ b l n m. method-rule n ts m);
  program-is = λ ts. with-enough ts 1 (omega arith) (λ b l n m. program-rule b ts l n m);
}
