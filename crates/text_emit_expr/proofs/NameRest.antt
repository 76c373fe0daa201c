-- What is left to be emitted after a name: an assignment, a call or the variable.
use Prim.Native.Nat.{ℕ}
use mathlib.Core.Path.{◌≡◌, refl, sym, ap, ◌∙◌}
use mathlib.Core.Bool.{Bool, true, false, cond}
use mathlib.Core.List.{List, [], ◌∷◌, ◌++◌, append_assoc}
use borrow.Author.Tests.{ne_eqb}
use lib.Dec.{eqb}
use Rattle.text.specs.Tree.{Name, Expr, Exprs, variable, assignment, method_call, no_more, also}
use Rattle.text.specs.Translation.{Instruction, GET, PUT, CALL, Scope, slot_of}
use Rattle.text_parse.specs.Tokens.{Token, name_of}
use Rattle.text_parse.specs.Grammar.{Reading, read, leaves, and_then, first, rest, next?, expect, expect_name, Scopes, is_withends}
use Rattle.text_parse.specs.Equations.{expr_from, method_params_from, arguments_rule, named_rule, method_params_rule}
use Rattle.text_parse.proofs.Equations.{grammar}
use Rattle.text_tokens.specs.KindsCode.{kind_of}
use Rattle.text_tokens.proofs.KindTests.{is_open, is-close, is-assign, is-name}
use Rattle.text_expr.proofs.Steps.{expect-then, expect-same, and_then-assoc, and_then-same}
use Rattle.text_numbering.specs.CodeBy.{code_by, arguments_by, place_of}
use Rattle.text_emit_expr.specs.RestCode.{Frame, waiting, prefixed, whole_with, call_with, waiting_with, ended_rest, whole_rest, operand_rest}
use Rattle.text_emit_expr.proofs.RestLaws.{prefixed-twice, prefixed-then, prefixed-expect, code_of, operand-kind}

module _ (scopes : Scopes) (sc : Scope) where
  abbrev arguments_of : Exprs → List Instruction
  arguments_of es = arguments_by place_of sc es

  -- the arguments of a call from an expression on
  pub params-rest : (i : Instruction) (further : List Token → Reading (List Instruction)) (ts : List Token)
      → and_then (method_params_from scopes ts) (λ es us.
      prefixed (arguments_of es ++ (i ∷ [])) (whole_with scopes sc further us))
      ≡ and_then (expr_from scopes ts) (λ e us. prefixed (code_of scopes sc e) (call_with scopes sc i further us))
  unfolding method_params_rule and_then code_by call_with
  params-rest i further ts =
      let E : Reading Expr = expr_from scopes ts in
      let g : Exprs → List Token → Reading (List Instruction) =
      λ es us. prefixed (arguments_of es ++ (i ∷ [])) (whole_with scopes sc further us) in
      let more : Expr → List Token → Reading Exprs = λ e us.
      cond (next? "," us) (and_then (method_params_from scopes (rest us)) (λ es vs. read (also e es) vs))
      (expect ")" us (λ vs. read (also e no_more) vs)) in
      ap (λ (m : Reading Exprs). and_then m g) (grammar.method_params-is scopes ts)
      ∙ and_then-assoc E more g
      ∙ and_then-same E (λ e us. and_then (more e us) g)
      (λ e us. prefixed (code_of scopes sc e) (call_with scopes sc i further us))
      (λ e us q. argument e us (next? "," us))
    where
      g : Exprs → List Token → Reading (List Instruction)
      g es us = prefixed (arguments_of es ++ (i ∷ [])) (whole_with scopes sc further us)

      later : Expr → List Token → Reading Exprs
      later e us = and_then (method_params_from scopes (rest us)) (λ es vs. read (also e es) vs)

      -- the code of one argument more
      one : (e : Expr) (es : Exprs) (vs : List Token)
          → prefixed ((code_of scopes sc e ++ arguments_of es) ++ (i ∷ [])) (whole_with scopes sc further vs)
          ≡ prefixed (code_of scopes sc e) (g es vs)
      one e es vs =
          ap (λ c. prefixed c (whole_with scopes sc further vs))
          (append_assoc (code_of scopes sc e) (arguments_of es) (i ∷ []))
          ∙ sym (prefixed-twice (code_of scopes sc e) (arguments_of es ++ (i ∷ [])) (whole_with scopes sc further vs))

      argument : (e : Expr) (us : List Token) (b : Bool)
          → and_then (cond b (later e us) (expect ")" us (λ vs. read (also e no_more) vs))) g
          ≡ prefixed (code_of scopes sc e)
          (cond b (and_then (method_params_from scopes (rest us)) g)
          (expect ")" us (λ vs. prefixed (i ∷ []) (whole_with scopes sc further vs))))
      argument e us true =
          and_then-assoc (method_params_from scopes (rest us)) (λ es vs. read (also e es) vs) g
          ∙ and_then-same (method_params_from scopes (rest us)) (λ es vs. g (also e es) vs)
          (λ es vs. prefixed (code_of scopes sc e) (g es vs)) (λ es vs q. one e es vs)
          ∙ sym (prefixed-then (code_of scopes sc e) (method_params_from scopes (rest us)) g)
      argument e us false =
          expect-then scopes ")" us (λ vs. read (also e no_more) vs) g
          ∙ expect-same scopes ")" us (λ vs. g (also e no_more) vs)
          (λ vs. prefixed (code_of scopes sc e) (prefixed (i ∷ []) (whole_with scopes sc further vs)))
          (one e no_more (rest us))
          ∙ sym (prefixed-expect (code_of scopes sc e) ")" us
          (λ vs. prefixed (i ∷ []) (whole_with scopes sc further vs)))

  module _ (k : List Frame) (ts : List Token) where
    abbrev x : Name
    x = name_of (first ts)

    abbrev next : List Token
    next = rest ts

    abbrev Kind : List Token → ℕ → Type 0
    Kind us n = kind_of (first us).bytes ≡ n

    abbrev after : Expr → List Token → Reading (List Instruction)
    after e us = prefixed (code_of scopes sc e) (whole_rest scopes sc k us)

    name-rest : (a b : Bool) → Kind ts 33 → next? "=" next ≡ a → next? "(" next ≡ b
        → operand_rest scopes sc k ts
        ≡ and_then
        (cond a
        (cond (is_withends scopes x) (leaves x.at)
        (and_then (expr_from scopes (rest next)) (λ e us. read (assignment x e) us)))
        (cond b (and_then (arguments_rule scopes (rest next)) (λ es us. read (method_call x es) us))
        (read (variable x) next))) after
    unfolding expect_name named_rule
    name-rest a b e p q =
        operand-kind scopes sc k ts 33 e refl
        ∙ ap (λ (m : Reading Expr). and_then m after)
        (rw (is-name (first ts) ∙ ap (λ (j : ℕ). eqb j 33) e, p, q) refl)

    -- x = E
    pub assign-rest : Kind ts 33 → Kind next 29
        → operand_rest scopes sc k ts
        ≡ cond (is_withends scopes x) (leaves x.at)
        (operand_rest scopes sc (waiting 4 (slot_of sc x) ∷ k) (rest next))
    unfolding and_then operand_rest ended_rest waiting_with whole_rest code_by
    assign-rest e f =
        name-rest true (next? "(" next) e (is-assign (first next) ∙ ap (λ (j : ℕ). eqb j 29) f) refl
        ∙ by (is_withends scopes x)
      where
        by : (b : Bool)
            → and_then
            (cond b (leaves x.at)
            (and_then (expr_from scopes (rest next)) (λ e us. read (assignment x e) us))) after
            ≡ cond b (leaves x.at) (operand_rest scopes sc (waiting 4 (slot_of sc x) ∷ k) (rest next))
        by true = refl
        by false =
            let E : Reading Expr = expr_from scopes (rest next) in
            let put : List Instruction = PUT (slot_of sc x) ∷ [] in
            and_then-assoc E (λ e us. read (assignment x e) us) after
            ∙ and_then-same E (λ e us. prefixed (code_of scopes sc e ++ put) (whole_rest scopes sc k us))
            (λ e us. prefixed (code_of scopes sc e) (prefixed put (whole_rest scopes sc k us)))
            (λ e us q. sym (prefixed-twice (code_of scopes sc e) put (whole_rest scopes sc k us)))

    call-rest : (b : Bool) → Kind ts 33 → Kind next 19 → next? ")" (rest next) ≡ b
        → operand_rest scopes sc k ts
        ≡ cond b (prefixed (CALL x.at ∷ []) (whole_rest scopes sc k (rest (rest next))))
        (operand_rest scopes sc (waiting 12 x.at ∷ k) (rest next))
    unfolding arguments_rule and_then operand_rest ended_rest waiting_with whole_rest code_by
    call-rest b e f p =
        name-rest false true e (is-assign (first next) ∙ ap (λ (j : ℕ). eqb j 29) f)
        (is_open (first next) ∙ ap (λ (j : ℕ). eqb j 19) f)
        ∙ and_then-assoc (arguments_rule scopes (rest next)) (λ es us. read (method_call x es) us) after
        ∙ ap (λ (b : Bool). and_then
        (cond b (read no_more (rest (rest next))) (method_params_from scopes (rest next)))
        (λ es us. and_then (read (method_call x es) us) after)) p
        ∙ by b
      where
        by : (b : Bool)
            → and_then (cond b (read no_more (rest (rest next))) (method_params_from scopes (rest next)))
            (λ es us. and_then (read (method_call x es) us) after)
            ≡ cond b (prefixed (CALL x.at ∷ []) (whole_rest scopes sc k (rest (rest next))))
            (operand_rest scopes sc (waiting 12 x.at ∷ k) (rest next))
        by true = refl
        by false = params-rest (CALL x.at) (ended_rest scopes sc k) (rest next)

    -- f ( ) and f ( E ..
    pub call-empty : Kind ts 33 → Kind next 19 → Kind (rest next) 20
        → operand_rest scopes sc k ts
        ≡ prefixed (CALL x.at ∷ []) (whole_rest scopes sc k (rest (rest next)))
    call-empty e f g = call-rest true e f (is-close (first (rest next)) ∙ ap (λ (j : ℕ). eqb j 20) g)

    pub call-begun : Kind ts 33 → Kind next 19 → (Kind (rest next) 20 → ⊥)
        → operand_rest scopes sc k ts ≡ operand_rest scopes sc (waiting 12 x.at ∷ k) (rest next)
    call-begun e f g =
        call-rest false e f
        (is-close (first (rest next)) ∙ ne_eqb (kind_of (first (rest next)).bytes) 20 g)

    pub variable-rest : Kind ts 33 → (Kind next 29 → ⊥) → (Kind next 19 → ⊥)
        → operand_rest scopes sc k ts ≡ prefixed (GET (slot_of sc x) ∷ []) (whole_rest scopes sc k next)
    unfolding and_then code_by
    variable-rest e f g =
        name-rest false false e (is-assign (first next) ∙ ne_eqb (kind_of (first next).bytes) 29 f)
        (is_open (first next) ∙ ne_eqb (kind_of (first next).bytes) 19 g)
