-- What reading a statement, a block or a method leaves: as for expressions, P holds of the tokens given, and Q of those
-- left.
use Prim.Native.Nat.{ℕ, zero, suc}
use mathlib.Core.List.{List, [], ◌∷◌, ◌++◌, map}
use mathlib.Core.Option.{Option}
use Rattle.lists.proofs.Tests.{cond_both}
use Rattle.text.specs.Tree.{Name, NonVoidType, declared_by, Parameter, parameter_of}
use Rattle.text_parse.specs.Tokens.{Token}
use Rattle.text_parse.specs.Grammar.{rest, next?, Scopes, named_statement, fork_statement, send_statement, recv_statement, simple, condition, statement, body, unbraced, block_of, statements, parameter, more_parameters, parameters, method_body, method, at_text_end, program}
use Rattle.text_parse.specs.Left.{Leaving, leaving}
use Rattle.text_parse.proofs.Leaving.{and_then-leaving, leaves_at-leaving, deeper-leaving, Reads, next-leaving, expect-leaving, expect_name-leaving}
use Rattle.text_parse.proofs.LeavingExpr.{non_void_type-leaving, return_type-leaving, measured-leaving, expr-leaving, arguments-leaving, declarations-leaving}

module _ {P Q : List Token → Type 0} (w : Reads P Q) where
  pub named_statement-leaving : (n : ℕ) (scopes : Scopes) (x : Name) (ts : List Token) → P ts
      → Leaving Q (named_statement n scopes x ts)
  unfolding named_statement
  named_statement-leaving n scopes x ts p =
      next-leaving w "=" ts tt p
      (λ q. and_then-leaving (expr-leaving w n scopes (rest ts) (w.weaker q)) (λ e us q.
      expect-leaving w ";" us tt (w.weaker q) (λ vs q. leaving q)))
      (next-leaving w "(" ts tt p
      (λ q. and_then-leaving (arguments-leaving w n scopes (rest ts) (w.weaker q)) (λ es us q.
      expect-leaving w ";" us tt (w.weaker q) (λ vs q. leaving q)))
      (leaves_at-leaving ts))

  pub fork_statement-leaving : (n : ℕ) (scopes : Scopes) (ts : List Token) → P ts
      → Leaving Q (fork_statement n scopes ts)
  unfolding fork_statement
  fork_statement-leaving n scopes ts p =
      expect_name-leaving w ts p (λ m us q. expect-leaving w "(" us tt (w.weaker q) (λ vs q.
      and_then-leaving (arguments-leaving w n scopes vs (w.weaker q)) (λ es ws q.
      expect-leaving w ";" ws tt (w.weaker q) (λ xs q. leaving q))))

  pub send_statement-leaving : (n : ℕ) (scopes : Scopes) (ts : List Token) → P ts
      → Leaving Q (send_statement n scopes ts)
  unfolding send_statement
  send_statement-leaving n scopes ts p =
      expect-leaving w "(" ts tt p (λ us q. and_then-leaving (expr-leaving w n scopes us (w.weaker q)) (λ e vs q.
      expect-leaving w "," vs tt (w.weaker q) (λ ws q.
      and_then-leaving (expr-leaving w n scopes ws (w.weaker q)) (λ v xs q.
      expect-leaving w ")" xs tt (w.weaker q) (λ ys q.
      expect-leaving w ";" ys tt (w.weaker q) (λ zs q. leaving q))))))

  pub recv_statement-leaving : (n : ℕ) (scopes : Scopes) (ts : List Token) → P ts
      → Leaving Q (recv_statement n scopes ts)
  unfolding recv_statement
  recv_statement-leaving n scopes ts p =
      expect-leaving w "(" ts tt p (λ us q. and_then-leaving (expr-leaving w n scopes us (w.weaker q)) (λ e vs q.
      expect-leaving w ")" vs tt (w.weaker q) (λ ws q.
      expect-leaving w ";" ws tt (w.weaker q) (λ xs q. leaving q))))

  pub simple-leaving : (n : ℕ) (scopes : Scopes) (ts : List Token) → P ts → Leaving Q (simple n scopes ts)
  unfolding simple
  simple-leaving n scopes ts p =
      next-leaving w ";" ts tt p (λ q. leaving q)
      (next-leaving w "measure" ts tt p
      (λ q. and_then-leaving (measured-leaving w (rest ts) (w.weaker q)) (λ x us q.
      expect-leaving w ";" us tt (w.weaker q) (λ vs q. leaving q)))
      (next-leaving w "fork" ts tt p (λ q. fork_statement-leaving n scopes (rest ts) (w.weaker q))
      (next-leaving w "send" ts tt p (λ q. send_statement-leaving n scopes (rest ts) (w.weaker q))
      (next-leaving w "recv" ts tt p (λ q. recv_statement-leaving n scopes (rest ts) (w.weaker q))
      (next-leaving w "return" ts tt p
      (λ q. and_then-leaving (expr-leaving w n scopes (rest ts) (w.weaker q)) (λ e us q.
      expect-leaving w ";" us tt (w.weaker q) (λ vs q. leaving q)))
      (expect_name-leaving w ts p (λ x us q. named_statement-leaving n scopes x us (w.weaker q))))))))

  pub condition-leaving : (n : ℕ) (scopes : Scopes) (ts : List Token) → P ts → Leaving Q (condition n scopes ts)
  unfolding condition
  condition-leaving n scopes ts p =
      expect-leaving w "(" ts tt p (λ us q. and_then-leaving (expr-leaving w n scopes us (w.weaker q)) (λ e vs q.
      expect-leaving w ")" vs tt (w.weaker q) (λ ws q. leaving q)))

  mutual
    unfolding statement

    pub statement-leaving : (n left : ℕ) (scopes : Scopes) (ts : List Token) → P ts
        → Leaving Q (statement n left scopes ts)
    statement-leaving zero left scopes ts p = leaves_at-leaving ts
    statement-leaving (suc n) left scopes ts p =
        cond_both (Leaving Q) (next? "{" ts) (deeper-leaving left ts (λ l. block_of-leaving n l scopes ts p))
        (unbraced-leaving n left scopes ts p)

    pub body-leaving : (n left : ℕ) (scopes : Scopes) (ts : List Token) → P ts → Leaving Q (body n left scopes ts)
    body-leaving zero left scopes ts p = leaves_at-leaving ts
    body-leaving (suc n) left scopes ts p =
        deeper-leaving left ts (λ l.
        cond_both (Leaving Q) (next? "{" ts) (block_of-leaving n l scopes ts p) (unbraced-leaving n l scopes ts p))

    pub unbraced-leaving : (n left : ℕ) (scopes : Scopes) (ts : List Token) → P ts
        → Leaving Q (unbraced n left scopes ts)
    unbraced-leaving zero left scopes ts p = leaves_at-leaving ts
    unbraced-leaving (suc n) left scopes ts p =
        next-leaving w "if" ts tt p
        (λ q. and_then-leaving (condition-leaving n scopes (rest ts) (w.weaker q)) (λ e us q.
        and_then-leaving (body-leaving n left scopes us (w.weaker q)) (λ s vs q.
        next-leaving w "else" vs tt (w.weaker q)
        (λ q. and_then-leaving (body-leaving n left scopes (rest vs) (w.weaker q)) (λ t ws q. leaving q)) (leaving q))))
        (next-leaving w "while" ts tt p
        (λ q. and_then-leaving (condition-leaving n scopes (rest ts) (w.weaker q)) (λ e us q.
        and_then-leaving (body-leaving n left scopes us (w.weaker q)) (λ s vs q. leaving q)))
        (simple-leaving n scopes ts p))

    pub block_of-leaving : (n left : ℕ) (scopes : Scopes) (ts : List Token) → P ts
        → Leaving Q (block_of n left scopes ts)
    block_of-leaving zero left scopes ts p = leaves_at-leaving ts
    block_of-leaving (suc n) left scopes ts p =
        expect-leaving w "{" ts tt p (λ us q. and_then-leaving (declarations-leaving w n [] us q) (λ ds vs q.
        and_then-leaving (statements-leaving n left (declared_by ds ∷ scopes) vs (w.weaker q)) (λ ss ws q. leaving q)))

    pub statements-leaving : (n left : ℕ) (scopes : Scopes) (ts : List Token) → P ts
        → Leaving Q (statements n left scopes ts)
    statements-leaving zero left scopes ts p = leaves_at-leaving ts
    statements-leaving (suc n) left scopes ts p =
        next-leaving w "}" ts tt p (λ q. leaving q)
        (and_then-leaving (statement-leaving n left scopes ts p) (λ s us q.
        and_then-leaving (statements-leaving n left scopes us (w.weaker q)) (λ ss vs q. leaving q)))

  -- Methods

  pub parameter-leaving : (ts : List Token) → P ts → Leaving Q (parameter ts)
  unfolding parameter
  parameter-leaving ts p =
      and_then-leaving (non_void_type-leaving w ts p) (λ t us q.
      expect_name-leaving w us (w.weaker q) (λ x vs q. leaving q))

  pub more_parameters-leaving : (n : ℕ) (ps : List Parameter) (ts : List Token) → P ts
      → Leaving Q (more_parameters n ps ts)
  unfolding more_parameters
  more_parameters-leaving zero ps ts p = leaves_at-leaving ts
  more_parameters-leaving (suc n) ps ts p =
      and_then-leaving (parameter-leaving ts p) (λ x us q.
      next-leaving w "," us tt (w.weaker q)
      (λ q. more_parameters-leaving n (ps ++ (x ∷ [])) (rest us) (w.weaker q))
      (expect-leaving w ")" us tt (w.weaker q) (λ vs q. leaving q)))

  pub parameters-leaving : (n : ℕ) (ts : List Token) → P ts → Leaving Q (parameters n ts)
  unfolding parameters
  parameters-leaving n ts p =
      next-leaving w ")" ts tt p (λ q. leaving q) (more_parameters-leaving n [] ts p)

  pub method_body-leaving : (n : ℕ) (t : Option NonVoidType) (x : Name) (ps : List Parameter) (ts : List Token) → P ts
      → Leaving Q (method_body n t x ps ts)
  unfolding method_body
  method_body-leaving n t x ps ts p =
      expect-leaving w "{" ts tt p (λ us q. and_then-leaving (declarations-leaving w n [] us q) (λ ds vs q.
      and_then-leaving (statements-leaving n 31 ((map parameter_of ps ++ declared_by ds) ∷ []) vs (w.weaker q))
      (λ ss ws q. leaving q)))

  pub method-leaving : (n : ℕ) (ts : List Token) → P ts → Leaving Q (method n ts)
  unfolding method
  method-leaving n ts p =
      and_then-leaving (return_type-leaving w ts p) (λ t us q. expect_name-leaving w us (w.weaker q) (λ x vs q.
      expect-leaving w "(" vs tt (w.weaker q) (λ ws q.
      and_then-leaving (parameters-leaving n ws (w.weaker q)) (λ ps xs q.
      method_body-leaving n t x ps xs (w.weaker q)))))

  pub methods-leaving : (n : ℕ) (ts : List Token) → P ts → Leaving Q (program n ts)
  unfolding program
  methods-leaving zero ts p = leaves_at-leaving ts
  methods-leaving (suc n) ts p =
      and_then-leaving (method-leaving n ts p) (λ m us q.
      cond_both (Leaving Q) (at_text_end us) (leaving q)
      (and_then-leaving (methods-leaving n us (w.weaker q)) (λ ms vs q. leaving q)))
