-- What is left to be emitted, one token or one waiting instruction after the other: by the grammar's equations.
use Prim.Native.Nat.{ℕ}
use Prim.Native.String.{String}
use mathlib.Core.Path.{◌≡◌, refl, sym, ap, ◌∙◌}
use mathlib.Core.Bool.{Bool, true, false, cond}
use mathlib.Core.List.{List, [], ◌∷◌, ◌++◌, append_assoc}
use mathlib.Core.Option.{Option, none, some}
use lib.Dec.{eqb}
use Rattle.text.specs.Tree.{Operator, Expr, number, truth, operation, measurement, reception}
use Rattle.text.specs.Translation.{Instruction, instruction, INT, BOOL, GET, MEAS, RECV, operator_op, truth_word, Scope, slot_of}
use Rattle.text_parse.specs.Tokens.{Token, is_numeral, numeral_of}
use Rattle.text_parse.specs.Grammar.{Reading, read, leaves, and_then, first, rest, leaves_at, next?, expect, expect_name, Scopes, operator_at, allocation, measured_name}
use Rattle.text_parse.specs.Equations.{expr_from, indiv_expr_from, operands_rule, expr_rule, named_rule, reception_rule, indiv_expr_rule}
use Rattle.text_parse.proofs.Equations.{grammar}
use Rattle.text_tokens.specs.KindsCode.{kind_of}
use Rattle.text_tokens.proofs.KindTests.{is-new, is_number, is_true, is_false, is_open, is-recv, is-measure}
use Rattle.text_expr.proofs.Steps.{expect-then, expect-same, and_then-assoc, and_then-same}
use Rattle.text_numbering.specs.CodeBy.{code_by, place_of}
use Rattle.text_emit_expr.specs.RestCode.{Frame, bracket, waiting, prefixed, after_operand, whole_with, waiting_with, ended_rest, whole_rest, operand_rest}

-- Instructions before what is left

pub prefixed-twice : (c d : List Instruction) (m : Reading (List Instruction))
    → prefixed c (prefixed d m) ≡ prefixed (c ++ d) m
unfolding prefixed
prefixed-twice c d (read e us) = ap (λ f. read f us) (sym (append_assoc c d e))
prefixed-twice c d (leaves i) = refl

pub prefixed-then : {A : Type 0} (c : List Instruction) (m : Reading A)
    (f : A → List Token → Reading (List Instruction))
    → prefixed c (and_then m f) ≡ and_then m (λ a us. prefixed c (f a us))
unfolding prefixed and_then
prefixed-then c (read a us) f = refl
prefixed-then c (leaves i) f = refl

pub prefixed-expect : (c : List Instruction) (s : String) (ts : List Token)
    (f : List Token → Reading (List Instruction))
    → prefixed c (expect s ts f) ≡ expect s ts (λ us. prefixed c (f us))
unfolding prefixed expect leaves_at
prefixed-expect c s ts f = by (next? s ts)
  where
    by : (b : Bool)
        → prefixed c (cond b (f (rest ts)) (leaves (first ts).at))
        ≡ cond b (prefixed c (f (rest ts))) (leaves (first ts).at)
    by true = refl
    by false = refl

module _ (scopes : Scopes) (sc : Scope) where
  abbrev pub code_of : Expr → List Instruction
  code_of e = code_by place_of sc e

  abbrev Further : Type 0
  Further = List Token → Reading (List Instruction)

  -- The operands of an expression

  operands-rest : (further : Further) (e : Expr) (o : Option Operator) (us : List Token)
      → and_then (operands_rule scopes e o us) (λ f vs. prefixed (code_of f) (further vs))
      ≡ prefixed (code_of e) (after_operand scopes sc further o us)
  unfolding operands_rule after_operand and_then code_by
  operands-rest further e none us = refl
  operands-rest further e (some o) us =
      let E : Reading Expr = expr_from scopes (rest us) in
      let g : Expr → List Token → Reading (List Instruction) = λ f vs. prefixed (code_of f) (further vs) in
      let op : List Instruction = instruction (operator_op o) 0 ∷ [] in
      and_then-assoc E (λ f vs. read (operation o e f) vs) g
      ∙ and_then-same E (λ f vs. prefixed (code_of e ++ (code_of f ++ op)) (further vs))
      (λ f vs. prefixed (code_of e) (prefixed (code_of f ++ op) (further vs)))
      (λ f vs q. sym (prefixed-twice (code_of e) (code_of f ++ op) (further vs)))
      ∙ sym (prefixed-then (code_of e) E (λ f vs. prefixed (code_of f ++ op) (further vs)))

  -- an expression that begins with no new, by its first operand
  operand-first : (k : List Frame) (ts : List Token) → next? "new" ts ≡ false
      → operand_rest scopes sc k ts
      ≡ and_then (indiv_expr_from scopes ts) (λ e us. prefixed (code_of e) (whole_rest scopes sc k us))
  unfolding operand_rest whole_rest whole_with expr_rule
  operand-first k ts new =
      let I : Reading Expr = indiv_expr_from scopes ts in
      let g : Expr → List Token → Reading (List Instruction) =
      λ e us. prefixed (code_of e) (ended_rest scopes sc k us) in
      ap (λ (m : Reading Expr). and_then m g)
      (grammar.expr-is scopes ts
      ∙ ap (λ (b : Bool). cond b (allocation (rest ts))
      (and_then I (λ e us. operands_rule scopes e (operator_at us) us))) new)
      ∙ and_then-assoc I (λ e us. operands_rule scopes e (operator_at us) us) g
      ∙ and_then-same I (λ e us. and_then (operands_rule scopes e (operator_at us) us) g)
      (λ e us. prefixed (code_of e) (after_operand scopes sc (ended_rest scopes sc k) (operator_at us) us))
      (λ e us q. operands-rest (ended_rest scopes sc k) e (operator_at us) us)

  -- new T()
  pub new-rest : (k : List Frame) (ts : List Token) → next? "new" ts ≡ true
      → operand_rest scopes sc k ts
      ≡ and_then (allocation (rest ts)) (λ e us. prefixed (code_of e) (ended_rest scopes sc k us))
  unfolding operand_rest expr_rule
  new-rest k ts new =
      ap (λ (m : Reading Expr). and_then m (λ e us. prefixed (code_of e) (ended_rest scopes sc k us)))
      (grammar.expr-is scopes ts
      ∙ ap (λ (b : Bool). cond b (allocation (rest ts))
      (and_then (indiv_expr_from scopes ts) (λ e us. operands_rule scopes e (operator_at us) us))) new)

  -- What an operand begins with: the tests of the grammar in their order
  abbrev Rule : List Token → Bool → Bool → Bool → Bool → Bool → Bool → Reading Expr
  Rule ts a b c d f g =
      cond a (read (number (numeral_of (first ts))) (rest ts))
      (cond b (read (truth true) (rest ts))
      (cond c (read (truth false) (rest ts))
      (cond d (and_then (expr_from scopes (rest ts)) (λ e us. expect ")" us (λ vs. read e vs)))
      (cond f (reception_rule scopes (rest ts))
      (cond g (and_then (measured_name (rest ts)) (λ q us. read (measurement q) us))
      (expect_name ts (λ x us. named_rule scopes x us)))))))

  operand-rule : (k : List Frame) (ts : List Token) {a b c d f g : Bool} → next? "new" ts ≡ false
      → is_numeral (first ts) ≡ a → next? "true" ts ≡ b → next? "false" ts ≡ c → next? "(" ts ≡ d
      → next? "recv" ts ≡ f → next? "measure" ts ≡ g
      → operand_rest scopes sc k ts
      ≡ and_then (Rule ts a b c d f g) (λ e us. prefixed (code_of e) (whole_rest scopes sc k us))
  unfolding indiv_expr_rule
  operand-rule k ts new a b c d f g =
      operand-first k ts new
      ∙ ap (λ (m : Reading Expr). and_then m (λ e us. prefixed (code_of e) (whole_rest scopes sc k us)))
      (grammar.indiv_expr-is scopes ts ∙ rw (a, b, c, d, f, g) refl)

  pub operand-kind : (k : List Frame) (ts : List Token) (n : ℕ) → kind_of (first ts).bytes ≡ n → eqb n 8 ≡ false
      → operand_rest scopes sc k ts
      ≡ and_then (Rule ts (eqb n 34) (eqb n 17) (eqb n 18) (eqb n 19) (eqb n 15) (eqb n 9))
      (λ e us. prefixed (code_of e) (whole_rest scopes sc k us))
  operand-kind k ts n e new =
      let t : Token = first ts in
      let at : (i : ℕ) → eqb (kind_of t.bytes) i ≡ eqb n i = λ i. ap (λ (j : ℕ). eqb j i) e in
      operand-rule k ts (is-new t ∙ at 8 ∙ new) (is_number t ∙ at 34) (is_true t ∙ at 17) (is_false t ∙ at 18)
      (is_open t ∙ at 19) (is-recv t ∙ at 15) (is-measure t ∙ at 9)

  module _ (k : List Frame) (ts : List Token) where
    abbrev Kind : List Token → ℕ → Type 0
    Kind us n = kind_of (first us).bytes ≡ n

    pub number-rest : Kind ts 34
        → operand_rest scopes sc k ts
        ≡ prefixed (INT (numeral_of (first ts)) ∷ []) (whole_rest scopes sc k (rest ts))
    unfolding and_then code_by
    number-rest e = operand-kind k ts 34 e refl

    pub true-rest : Kind ts 17
        → operand_rest scopes sc k ts ≡ prefixed (BOOL 1 ∷ []) (whole_rest scopes sc k (rest ts))
    unfolding and_then code_by truth_word
    true-rest e = operand-kind k ts 17 e refl

    pub false-rest : Kind ts 18
        → operand_rest scopes sc k ts ≡ prefixed (BOOL 0 ∷ []) (whole_rest scopes sc k (rest ts))
    unfolding and_then code_by truth_word
    false-rest e = operand-kind k ts 18 e refl

    -- an expression in a bracket
    pub bracket-rest : Kind ts 19 → operand_rest scopes sc k ts ≡ operand_rest scopes sc (bracket ∷ k) (rest ts)
    unfolding operand_rest ended_rest whole_rest and_then
    bracket-rest e =
        let E : Reading Expr = expr_from scopes (rest ts) in
        let g : Expr → List Token → Reading (List Instruction) =
        λ x us. prefixed (code_of x) (whole_rest scopes sc k us) in
        operand-kind k ts 19 e refl
        ∙ and_then-assoc E (λ x us. expect ")" us (λ vs. read x vs)) g
        ∙ and_then-same E (λ x us. and_then (expect ")" us (λ vs. read x vs)) g)
        (λ x us. prefixed (code_of x) (expect ")" us (λ vs. whole_rest scopes sc k vs)))
        (λ x us q. expect-then scopes ")" us (λ vs. read x vs) g
        ∙ sym (prefixed-expect (code_of x) ")" us (λ vs. whole_rest scopes sc k vs)))

    -- recv ( E )
    pub recv-rest : Kind ts 15
        → operand_rest scopes sc k ts
        ≡ expect "(" (rest ts) (λ us. operand_rest scopes sc (waiting 16 0 ∷ k) us)
    unfolding operand_rest ended_rest whole_rest waiting_with reception_rule and_then code_by
    recv-rest e =
        let E : Reading Expr = expr_from scopes (rest (rest ts)) in
        let g : Expr → List Token → Reading (List Instruction) =
        λ x us. prefixed (code_of x) (whole_rest scopes sc k us) in
        let inner : List Token → Reading Expr =
        λ us. and_then (expr_from scopes us) (λ x vs. expect ")" vs (λ ws. read (reception x) ws)) in
        operand-kind k ts 15 e refl
        ∙ expect-then scopes "(" (rest ts) inner g
        ∙ expect-same scopes "(" (rest ts) (λ us. and_then (inner us) g)
        (λ us. operand_rest scopes sc (waiting 16 0 ∷ k) us)
        (and_then-assoc E (λ x vs. expect ")" vs (λ ws. read (reception x) ws)) g
        ∙ and_then-same E (λ x vs. and_then (expect ")" vs (λ ws. read (reception x) ws)) g)
        (λ x vs. prefixed (code_of x) (expect ")" vs (λ ws. prefixed (RECV ∷ []) (whole_rest scopes sc k ws))))
        (λ x vs q. expect-then scopes ")" vs (λ ws. read (reception x) ws) g
        ∙ expect-same scopes ")" vs (λ ws. prefixed (code_of x ++ (RECV ∷ [])) (whole_rest scopes sc k ws))
        (λ ws. prefixed (code_of x) (prefixed (RECV ∷ []) (whole_rest scopes sc k ws)))
        (sym (prefixed-twice (code_of x) (RECV ∷ []) (whole_rest scopes sc k (rest vs))))
        ∙ sym (prefixed-expect (code_of x) ")" vs (λ ws. prefixed (RECV ∷ []) (whole_rest scopes sc k ws)))))

    -- measure ( StdBasis , q )
    pub measure-rest : Kind ts 9
        → operand_rest scopes sc k ts
        ≡ and_then (measured_name (rest ts)) (λ q us.
        prefixed (GET (slot_of sc q) ∷ MEAS ∷ []) (whole_rest scopes sc k us))
    unfolding and_then code_by
    measure-rest e =
        operand-kind k ts 9 e refl
        ∙ and_then-assoc (measured_name (rest ts)) (λ q us. read (measurement q) us)
        (λ x us. prefixed (code_of x) (whole_rest scopes sc k us))
