-- The pass over an expression is the grammar's reading of one: it leaves the grammar at the same place, and goes on
-- from the same token.
use Prim.Native.Nat.{ℕ, zero, suc, ◌+◌, ◌*◌, ◌≤◌, ◌<◌}
use native.Mathlib.Omega.{arith}
use mathlib.Core.Bool.{Bool, true, false, cond, ◌||◌}
use mathlib.Core.Path.{◌≡◌, refl, sym, ap, ◌∙◌, subst}
use mathlib.Core.List.{List, [], ◌∷◌}
use mathlib.Core.Option.{Option, none, some}
use lib.ListN.{length}
use Rattle.lists.proofs.Tests.{passes}
use Rattle.text.specs.Tree.{Name, Operator, Expr, Exprs, operation, number, truth, variable, assignment, method_call, measurement, reception, no_more, also}
use Rattle.text_parse.specs.Tokens.{Token, is, is_name, is_numeral, name_of, numeral_of}
use Rattle.text_parse.specs.Grammar.{Reading, read, leaves, and_then, first, rest, leaves_at, next?, expect, expect_name, Scopes, is_withends, operator_at, allocation, measured_name, expr, indiv_expr, method_params, enough}
use Rattle.text_parse.specs.Left.{Leaving, leaving, not-read, Onward}
use Rattle.text_parse.specs.Equations.{expr_from, indiv_expr_from, method_params_from, operands_rule, expr_rule, arguments_rule, named_rule, reception_rule, indiv_expr_rule, method_params_rule}
use Rattle.text_parse.proofs.Progress.{progress}
use Rattle.text_parse.proofs.Equations.{grammar}
use Rattle.text_expr.specs.PhasesCode.{Open, assigning, in_brackets, in_call, operand, whole, bare, named, called, recv₁, measure₁, new₁, Step, on, off, closed, without_call, individual_step, operand_step, named_step, called_step, whole_step, step, follow, pass}
use Rattle.text_expr.proofs.Steps.{bare-assigning, must-stand, bare-brackets, bare-call, afterwards, whole-operator, expect-then, expect_name-then, expect-same, and_then-assoc, and_then-same}
use Rattle.text_expr.proofs.Parts.{measure-pass, new-pass}

-- what is left of a reading that comes to a tree
left-of : {P : List Token → Type 0} {A : Type 0} {r : Reading A} (a : A) (us : List Token) → Leaving P r → r ≡ read a us
    → P us
left-of {P} a us h e = of (subst (Leaving P) e h)
  where
    of : Leaving P (read a us) → P us
    of (leaving p) = p

rest-shorter : (us : List Token) → length (rest us) ≤ length us
rest-shorter [] = omega arith
rest-shorter (t ∷ us) = omega arith

module _ (scopes : Scopes) where
  expr-fewer : (ts : List Token) (e : Expr) (us : List Token) → expr_from scopes ts ≡ read e us → length us < length ts
  unfolding expr_from
  expr-fewer ts e us q = (left-of e us (progress.expr-on (enough ts) scopes ts) q).fewer

  indiv-fewer : (ts : List Token) (e : Expr) (us : List Token) → indiv_expr_from scopes ts ≡ read e us
      → length us < length ts
  unfolding indiv_expr_from
  indiv-fewer ts e us q = (left-of e us (progress.indiv_expr-on (enough ts) scopes ts) q).fewer

  -- What each reading is to the pass, within any stack of what is open around it.
  abbrev ExprPass : List Token → Type 0
  ExprPass ts =
      (k : List Open) → pass scopes ts operand k ≡ and_then (expr_from scopes ts) (λ e us. pass scopes us bare k)

  abbrev IndivPass : List Token → Type 0
  IndivPass ts =
      next? "new" ts ≡ false → (k : List Open)
      → pass scopes ts operand k ≡ and_then (indiv_expr_from scopes ts) (λ e us. pass scopes us whole k)

  abbrev ParamsPass : List Token → Type 0
  ParamsPass ts =
      (k : List Open)
      → pass scopes ts operand (in_call ∷ k)
      ≡ and_then (method_params_from scopes ts) (λ es us. pass scopes us whole k)

  -- an expression, where its first operand and the expressions after it are read alike
  after-operand : (e : Expr) (us : List Token) (k : List Open) (o : Option Operator) → ExprPass (rest us)
      → afterwards scopes us k o ≡ and_then (operands_rule scopes e o us) (λ f vs. pass scopes vs bare k)
  unfolding operands_rule and_then
  after-operand e us k none further = refl
  after-operand e us k (some o) further =
      further k
      ∙ sym (and_then-assoc (expr_from scopes (rest us)) (λ f vs. read (operation o e f) vs)
      (λ f vs. pass scopes vs bare k))

  expr-by : (ts : List Token) → IndivPass ts → ((us : List Token) → length us < length ts → ExprPass (rest us))
      → (b : Bool) → next? "new" ts ≡ b → (k : List Open)
      → pass scopes ts operand k
      ≡ and_then
      (cond b (allocation (rest ts))
      (and_then (indiv_expr_from scopes ts) (λ e us. operands_rule scopes e (operator_at us) us)))
      (λ e us. pass scopes us bare k)
  unfolding pass step operand_step follow
  expr-by [] indiv further true e k = absurd (passes e)
  expr-by (t ∷ ts) indiv further true e k =
      ap (λ (b : Bool). follow (pass scopes ts) t ts (cond b (on new₁ k) (individual_step k t))) e ∙ new-pass scopes k ts
  expr-by ts indiv further false e k =
      let I : Reading Expr = indiv_expr_from scopes ts in
      indiv e k
      ∙ and_then-same I (λ x us. pass scopes us whole k)
      (λ x us. and_then (operands_rule scopes x (operator_at us) us) (λ f vs. pass scopes vs bare k))
      (λ x us q. whole-operator scopes us k
      ∙ after-operand x us k (operator_at us) (further us (indiv-fewer ts x us q)))
      ∙ sym (and_then-assoc I (λ x us. operands_rule scopes x (operator_at us) us) (λ f vs. pass scopes vs bare k))

  -- an expression in brackets, and that of recv
  brackets-pass : (f : Expr → Expr) (us : List Token) → ExprPass us → (k : List Open)
      → pass scopes us operand (in_brackets ∷ k)
      ≡ and_then (and_then (expr_from scopes us) (λ x vs. expect ")" vs (λ ws. read (f x) ws)))
      (λ x vs. pass scopes vs whole k)
  unfolding and_then
  brackets-pass f us further k =
      let E : Reading Expr = expr_from scopes us in
      let g : Expr → List Token → Reading (Unit {0}) = λ x vs. pass scopes vs whole k in
      further (in_brackets ∷ k)
      ∙ and_then-same E (λ x vs. pass scopes vs bare (in_brackets ∷ k))
      (λ x vs. and_then (expect ")" vs (λ ws. read (f x) ws)) g)
      (λ x vs q. bare-brackets scopes vs k ∙ sym (expect-then scopes ")" vs (λ ws. read (f x) ws) g))
      ∙ sym (and_then-assoc E (λ x vs. expect ")" vs (λ ws. read (f x) ws)) g)

  recv-pass : (us : List Token) → ExprPass (rest us) → (k : List Open)
      → pass scopes us recv₁ k ≡ and_then (reception_rule scopes us) (λ x vs. pass scopes vs whole k)
  unfolding step reception_rule
  recv-pass us further k =
      let inner : List Token → Reading Expr =
      λ vs. and_then (expr_from scopes vs) (λ e ws. expect ")" ws (λ xs. read (reception e) xs)) in
      let g : Expr → List Token → Reading (Unit {0}) = λ x vs. pass scopes vs whole k in
      must-stand scopes "(" recv₁ operand k (in_brackets ∷ k) (λ t. refl) refl us
      ∙ expect-same scopes "(" us (λ vs. pass scopes vs operand (in_brackets ∷ k)) (λ vs. and_then (inner vs) g)
      (brackets-pass reception (rest us) further k)
      ∙ sym (expect-then scopes "(" us inner g)

  -- the arguments of a call, after its bracket
  called-pass : (us : List Token) → ParamsPass us → (k : List Open)
      → pass scopes us called (in_call ∷ k)
      ≡ and_then (arguments_rule scopes us) (λ es vs. pass scopes vs whole k)
  unfolding pass step called_step without_call closed follow arguments_rule and_then
  called-pass [] params k = params k
  called-pass (t ∷ us) params k = by (is ")" t)
    where
      by : (b : Bool)
          → follow (pass scopes us) t us (cond b (on whole k) (operand_step (in_call ∷ k) t))
          ≡ and_then (cond b (read no_more us) (method_params_from scopes (t ∷ us))) (λ es vs. pass scopes vs whole k)
      by true = refl
      by false = params k

  -- x = E
  assigned-pass : (x : Name) (us : List Token) → ExprPass us → (k : List Open)
      → pass scopes us operand (assigning ∷ k)
      ≡ and_then (and_then (expr_from scopes us) (λ e vs. read (assignment x e) vs)) (λ e vs. pass scopes vs whole k)
  unfolding and_then
  assigned-pass x us further k =
      let E : Reading Expr = expr_from scopes us in
      further (assigning ∷ k)
      ∙ and_then-same E (λ e vs. pass scopes vs bare (assigning ∷ k)) (λ e vs. pass scopes vs whole k)
      (λ e vs q. bare-assigning scopes vs k)
      ∙ sym (and_then-assoc E (λ e vs. read (assignment x e) vs) (λ e vs. pass scopes vs whole k))

  -- after a name
  named-pass : (x : Name) (us : List Token) → ExprPass (rest us) → ParamsPass (rest us) → (k : List Open)
      → pass scopes us (named x) k ≡ and_then (named_rule scopes x us) (λ e vs. pass scopes vs whole k)
  unfolding pass step named_step follow named_rule and_then
  named-pass x [] further params k = refl
  named-pass x (t ∷ us) further params k = by (is "=" t) (is_withends scopes x) (is "(" t)
    where
      g : {A : Type 0} → A → List Token → Reading (Unit {0})
      g e vs = pass scopes vs whole k

      by : (a b c : Bool)
          → follow (pass scopes us) t us
          (cond a (cond b (off x.at) (on operand (assigning ∷ k)))
          (cond c (on called (in_call ∷ k)) (whole_step k t)))
          ≡ and_then
          (cond a
          (cond b (leaves x.at) (and_then (expr_from scopes us) (λ e vs. read (assignment x e) vs)))
          (cond c (and_then (arguments_rule scopes us) (λ es vs. read (method_call x es) vs))
          (read (variable x) (t ∷ us))))
          (λ e vs. pass scopes vs whole k)
      by true true c = refl
      by true false c = assigned-pass x us further k
      by false b true =
          called-pass us params k
          ∙ sym (and_then-assoc (arguments_rule scopes us) (λ es vs. read (method_call x es) vs)
          (λ e vs. pass scopes vs whole k))
      by false b false = refl

  -- an operand
  no_operand : (k : List Open)
      → pass scopes [] operand k ≡ and_then (indiv_expr_rule scopes []) (λ e us. pass scopes us whole k)
  unfolding pass indiv_expr_rule and_then expect_name leaves_at is_numeral is_name
  no_operand k = refl

  indiv-by : (ts : List Token) → ExprPass (rest ts) → ExprPass (rest (rest ts)) → ParamsPass (rest (rest ts))
      → (k : List Open) → next? "new" ts ≡ false
      → pass scopes ts operand k ≡ and_then (indiv_expr_rule scopes ts) (λ e us. pass scopes us whole k)
  unfolding pass step operand_step individual_step follow indiv_expr_rule and_then expect_name leaves_at
  indiv-by [] once twice params k e = no_operand k
  indiv-by (t ∷ ts) once twice params k e =
      ap (λ (b : Bool). follow (pass scopes ts) t ts (cond b (on new₁ k) (individual_step k t))) e
      ∙ individual (is_numeral t) (is "true" t) (is "false" t) (is "(" t) (is "recv" t) (is "measure" t) (is_name t)
    where
      individual : (a b c d f g h : Bool)
          → follow (pass scopes ts) t ts
          (cond a (on whole k)
          (cond b (on whole k)
          (cond c (on whole k)
          (cond d (on operand (in_brackets ∷ k))
          (cond f (on recv₁ k)
          (cond g (on measure₁ k)
          (cond h (on (named (name_of t)) k) (off t.at))))))))
          ≡ and_then
          (cond a (read (number (numeral_of t)) ts)
          (cond b (read (truth true) ts)
          (cond c (read (truth false) ts)
          (cond d (and_then (expr_from scopes ts) (λ x us. expect ")" us (λ vs. read x vs)))
          (cond f (reception_rule scopes ts)
          (cond g (and_then (measured_name ts) (λ q us. read (measurement q) us))
          (cond h (named_rule scopes (name_of t) ts) (leaves t.at))))))))
          (λ x us. pass scopes us whole k)
      individual true b c d f g h = refl
      individual false true c d f g h = refl
      individual false false true d f g h = refl
      individual false false false true f g h = brackets-pass (λ x. x) ts once k
      individual false false false false true g h = recv-pass ts twice k
      individual false false false false false true h =
          measure-pass scopes k ts
          ∙ sym (and_then-assoc (measured_name ts) (λ q us. read (measurement q) us) (λ x us. pass scopes us whole k))
      individual false false false false false false true = named-pass (name_of t) ts twice params k
      individual false false false false false false false = refl

  -- the arguments of a call
  params-by : (ts : List Token) → ExprPass ts
      → ((us : List Token) → length us < length ts → ParamsPass (rest us)) → (k : List Open)
      → pass scopes ts operand (in_call ∷ k)
      ≡ and_then (method_params_rule scopes ts) (λ es us. pass scopes us whole k)
  unfolding method_params_rule and_then
  params-by ts further params k =
      let E : Reading Expr = expr_from scopes ts in
      let more : Expr → List Token → Reading Exprs = λ e us.
      cond (next? "," us) (and_then (method_params_from scopes (rest us)) (λ es vs. read (also e es) vs))
      (expect ")" us (λ vs. read (also e no_more) vs)) in
      let g : Exprs → List Token → Reading (Unit {0}) = λ es us. pass scopes us whole k in
      further (in_call ∷ k)
      ∙ and_then-same E (λ e us. pass scopes us bare (in_call ∷ k)) (λ e us. and_then (more e us) g)
      (λ e us q. bare-call scopes us k ∙ next-argument e us (params us (expr-fewer ts e us q)) (next? "," us))
      ∙ sym (and_then-assoc E more g)
    where
      next-argument : (e : Expr) (us : List Token) → ParamsPass (rest us) → (b : Bool)
          → cond b (pass scopes (rest us) operand (in_call ∷ k)) (expect ")" us (λ vs. pass scopes vs whole k))
          ≡ and_then
          (cond b (and_then (method_params_from scopes (rest us)) (λ es vs. read (also e es) vs))
          (expect ")" us (λ vs. read (also e no_more) vs)))
          (λ es us. pass scopes us whole k)
      next-argument e us params true =
          params k
          ∙ sym (and_then-assoc (method_params_from scopes (rest us)) (λ es vs. read (also e es) vs)
          (λ es us. pass scopes us whole k))
      next-argument e us params false =
          sym (expect-then scopes ")" us (λ vs. read (also e no_more) vs) (λ es us. pass scopes us whole k))

  expr-rule : (ts : List Token)
      → expr_from scopes ts
      ≡ cond (next? "new" ts) (allocation (rest ts))
      (and_then (indiv_expr_from scopes ts) (λ e us. operands_rule scopes e (operator_at us) us))
  unfolding expr_rule
  expr-rule ts = grammar.expr-is scopes ts

  nothing-indiv : (k : List Open)
      → pass scopes [] operand k ≡ and_then (indiv_expr_from scopes []) (λ e us. pass scopes us whole k)
  nothing-indiv k =
      no_operand k
      ∙ ap (λ (r : Reading Expr). and_then r (λ e us. pass scopes us whole k)) (sym (grammar.indiv_expr-is scopes []))

  -- the three together, by a bound on the tokens
  mutual
    pass-expr : (n : ℕ) (ts : List Token) → 3 * length ts + 1 ≤ n → ExprPass ts
    pass-expr zero ts le k = absurd (omega arith)
    pass-expr (suc n) ts le k =
        expr-by ts (λ e j. pass-indiv n ts (omega arith) e j)
        (λ us l j. let r : length (rest us) ≤ length us = rest-shorter us in pass-expr n (rest us) (omega arith) j)
        (next? "new" ts) refl k
        ∙ ap (λ (r : Reading Expr). and_then r (λ e us. pass scopes us bare k)) (sym (expr-rule ts))

    pass-indiv : (n : ℕ) (ts : List Token) → 3 * length ts ≤ n → IndivPass ts
    pass-indiv zero [] le e k = nothing-indiv k
    pass-indiv zero (t ∷ ts) le e k = absurd (omega arith)
    pass-indiv (suc n) [] le e k = nothing-indiv k
    pass-indiv (suc n) (t ∷ ts) le e k =
        let r : length (rest ts) ≤ length ts = rest-shorter ts in
        indiv-by (t ∷ ts) (λ j. pass-expr n ts (omega arith) j) (λ j. pass-expr n (rest ts) (omega arith) j)
        (λ j. pass-params n (rest ts) (omega arith) j) k e
        ∙ ap (λ (r : Reading Expr). and_then r (λ e us. pass scopes us whole k))
        (sym (grammar.indiv_expr-is scopes (t ∷ ts)))

    pass-params : (n : ℕ) (ts : List Token) → 3 * length ts + 2 ≤ n → ParamsPass ts
    pass-params zero ts le k = absurd (omega arith)
    pass-params (suc n) ts le k =
        params-by ts (λ j. pass-expr n ts (omega arith) j)
        (λ us l j. let r : length (rest us) ≤ length us = rest-shorter us in pass-params n (rest us) (omega arith) j) k
        ∙ ap (λ (r : Reading Exprs). and_then r (λ es us. pass scopes us whole k))
        (sym (grammar.method_params-is scopes ts))

  -- An expression, and the arguments of a call after its bracket, with nothing open around them: the pass ends before
  -- the token that follows them.
  pub expr-passes : (ts : List Token)
      → pass scopes ts operand [] ≡ and_then (expr_from scopes ts) (λ e us. pass scopes us bare [])
  expr-passes ts = pass-expr (3 * length ts + 1) ts (omega arith) []

  pub arguments-pass : (ts : List Token)
      → pass scopes ts called (in_call ∷ []) ≡ and_then (arguments_rule scopes ts) (λ es us. pass scopes us whole [])
  arguments-pass ts = called-pass ts (λ j. pass-params (3 * length ts + 2) ts (omega arith) j) []
