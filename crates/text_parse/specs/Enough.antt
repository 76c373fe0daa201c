-- The number that bounds the depth of a reading: with any two numbers that are enough, every reading comes to the same.
-- 4 for each token, and 4 more, are enough; so is `enough`, with which a text is read (proofs/Enough.antt).
use Rattle.std.specs.Prelude.{ℕ, ◌+◌, ◌*◌, ◌≤◌, ◌≡◌, List, length}
use Rattle.std.proofs.Math.Option.{Option}
use Rattle.text.specs.Tree.{Name, NonVoidType, Expr, Declaration, Parameter}
use Rattle.text_parse.specs.Tokens.{Token}
use Rattle.text_parse.specs.Grammar.{Scopes, operator_at, expr, operands, indiv_expr, named, arguments, method_params, more_names, declaration, declarations, simple, condition, statement, body, unbraced, block_of, statements, more_parameters, parameters, method_body, method, program, enough}

abbrev pub IsEnough : List Token → ℕ → Type 0
IsEnough ts n = 4 * length ts + 4 ≤ n

-- the readings of the tokens ts with n and with m
pub record Agree (ts : List Token) (n m : ℕ) : Type 0 where
  pub expr-same : (scopes : Scopes) → expr n scopes ts ≡ expr m scopes ts
  pub operands_same : (scopes : Scopes) (e : Expr)
      → operands n scopes e (operator_at ts) ts ≡ operands m scopes e (operator_at ts) ts
  pub indiv_expr-same : (scopes : Scopes) → indiv_expr n scopes ts ≡ indiv_expr m scopes ts
  pub named-same : (scopes : Scopes) (x : Name) → named n scopes x ts ≡ named m scopes x ts
  pub arguments-same : (scopes : Scopes) → arguments n scopes ts ≡ arguments m scopes ts
  pub method_params-same : (scopes : Scopes) → method_params n scopes ts ≡ method_params m scopes ts
  pub more_names-same : (t : NonVoidType) (xs : List Name) → more_names n t xs ts ≡ more_names m t xs ts
  pub declaration-same : declaration n ts ≡ declaration m ts
  pub declarations-same : (ds : List Declaration) → declarations n ds ts ≡ declarations m ds ts
  pub simple-same : (scopes : Scopes) → simple n scopes ts ≡ simple m scopes ts
  pub condition-same : (scopes : Scopes) → condition n scopes ts ≡ condition m scopes ts
  pub statement-same : (left : ℕ) (scopes : Scopes) → statement n left scopes ts ≡ statement m left scopes ts
  pub body_same : (left : ℕ) (scopes : Scopes) → body n left scopes ts ≡ body m left scopes ts
  pub unbraced-same : (left : ℕ) (scopes : Scopes) → unbraced n left scopes ts ≡ unbraced m left scopes ts
  pub block_of-same : (left : ℕ) (scopes : Scopes) → block_of n left scopes ts ≡ block_of m left scopes ts
  pub statements-same : (left : ℕ) (scopes : Scopes) → statements n left scopes ts ≡ statements m left scopes ts
  pub more_parameters-same : (ps : List Parameter) → more_parameters n ps ts ≡ more_parameters m ps ts
  pub parameters-same : parameters n ts ≡ parameters m ts
  pub method_body-same : (t : Option NonVoidType) (x : Name) (ps : List Parameter)
      → method_body n t x ps ts ≡ method_body m t x ps ts
  pub method-same : method n ts ≡ method m ts
  pub methods-same : program n ts ≡ program m ts

pub record Enough : Type 0 where
  pub agree : (ts : List Token) (n m : ℕ) → IsEnough ts n → IsEnough ts m → Agree ts n m
  pub is-enough : (ts : List Token) → IsEnough ts (enough ts)
