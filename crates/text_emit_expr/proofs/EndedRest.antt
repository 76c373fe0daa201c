-- What is left to be emitted after an operand and after an expression.
use Prim.Native.Nat.{ℕ, ◌≤◌, ◌<◌}
use Prim.Native.String.{String}
use native.Mathlib.Omega.{arith}
use mathlib.Core.Path.{◌≡◌, refl, sym, ap, ◌∙◌, subst}
use mathlib.Core.Bool.{Bool, true, false, cond}
use mathlib.Core.List.{List, [], ◌∷◌, ◌++◌}
use mathlib.Core.Option.{Option, none, some}
use borrow.Author.Tests.{ne_eqb, le-leb, lt-leb}
use lib.Dec.{eqb, leb}
use Rattle.text.specs.Tree.{Operator, plus, minus, equals, less_than, Expr}
use Rattle.text.specs.Translation.{Instruction, instruction, operator_op, Scope}
use Rattle.text_parse.specs.Tokens.{Token}
use Rattle.text_parse.specs.Grammar.{Reading, read, leaves, first, rest, leaves_at, next?, expect, Scopes, operator_at}
use Rattle.text_parse.specs.Equations.{expr_from}
use Rattle.text_tokens.specs.KindsCode.{kind_of}
use Rattle.text_tokens.proofs.KindTests.{is-close, is-comma}
use Rattle.text_expr.proofs.Steps.{and_then-same}
use Rattle.text_emit_expr.specs.RestCode.{Frame, bracket, waiting, prefixed, after_operand, whole_with, call_with, waiting_with, ended_rest, whole_rest, operand_rest}
use Rattle.text_emit_expr.proofs.RestLaws.{prefixed-twice, code_of}
use Rattle.text_emit_expr.proofs.NameRest.{params-rest}

-- What a reading that comes to something shows

pub not_left : {A : Type 0} {m : Reading A} {i : ℕ} {a : A} {us : List Token} → m ≡ leaves i → m ≡ read a us → ⊥
not_left {A} {m} {i} {a} {us} e f = subst Off (sym e ∙ f) tt
  where
    Off : Reading A → Type 0
    Off (read a us) = ⊥
    Off (leaves i) = Unit {0}

pub expect-read : {A : Type 0} (s : String) (ts : List Token) (f : List Token → Reading A) (a : A) (us : List Token)
    → expect s ts f ≡ read a us → (next? s ts ≡ true) × (f (rest ts) ≡ read a us)
unfolding expect leaves_at
expect-read s ts f a us e = by (next? s ts) refl e
  where
    by : (b : Bool) → next? s ts ≡ b → cond b (f (rest ts)) (leaves (first ts).at) ≡ read a us
        → (next? s ts ≡ true) × (f (rest ts) ≡ read a us)
    by true t h = (t, h)
    by false t h = absurd (not_left refl h)

-- an operator's instruction is none of those that wait in another way
operator-op : {B : Type 0} (o : Operator) (x y z w v : B)
    → cond (eqb (operator_op o) 4) x
    (cond (eqb (operator_op o) 16) y (cond (eqb (operator_op o) 12) z (cond (leb 19 (operator_op o)) w v))) ≡ w
unfolding operator_op
operator-op plus x y z w v = refl
operator-op minus x y z w v = refl
operator-op equals x y z w v = refl
operator-op less_than x y z w v = refl

module _ (scopes : Scopes) (sc : Scope) (k : List Frame) (ts : List Token) where
  abbrev Kind : ℕ → Type 0
  Kind n = kind_of (first ts).bytes ≡ n

  abbrev ended : List Frame → List Token → Reading (List Instruction)
  ended = ended_rest scopes sc

  -- an operator after an operand
  pub operator-rest : (o : Operator) → operator_at ts ≡ some o
      → whole_rest scopes sc k ts ≡ operand_rest scopes sc (waiting (operator_op o) 0 ∷ k) (rest ts)
  unfolding whole_rest whole_with after_operand operand_rest ended_rest waiting_with
  operator-rest o e =
      let E : Reading Expr = expr_from scopes (rest ts) in
      let op : Instruction = instruction (operator_op o) 0 in
      ap (λ (p : Option Operator). after_operand scopes sc (ended k) p ts) e
      ∙ and_then-same E (λ f us. prefixed (code_of scopes sc f ++ (op ∷ [])) (ended k us))
      (λ f us. prefixed (code_of scopes sc f) (waiting_with scopes sc (operator_op o) 0 (ended k) us))
      (λ f us q. sym (prefixed-twice (code_of scopes sc f) (op ∷ []) (ended k us))
      ∙ ap (prefixed (code_of scopes sc f))
      (sym (operator-op o (prefixed (op ∷ []) (whole_with scopes sc (ended k) us))
      (expect ")" us (λ vs. prefixed (op ∷ []) (whole_with scopes sc (ended k) vs)))
      (call_with scopes sc op (ended k) us) (prefixed (op ∷ []) (ended k us)) (leaves 0))))

  -- no operator after it: the expression has ended
  pub whole-ended : operator_at ts ≡ none → whole_rest scopes sc k ts ≡ ended k ts
  unfolding whole_rest whole_with after_operand
  whole-ended e = ap (λ (p : Option Operator). after_operand scopes sc (ended k) p ts) e

  -- Instructions that wait for the end of an expression

  pub operator-waits : (o a : ℕ) → 19 ≤ o
      → ended (waiting o a ∷ k) ts ≡ prefixed (instruction o a ∷ []) (ended k ts)
  unfolding ended_rest waiting_with
  operator-waits o a le =
      rw (ne_eqb o 4 (λ e. omega arith), ne_eqb o 16 (λ e. omega arith), ne_eqb o 12 (λ e. omega arith), le-leb 19 o le)
      refl

  pub other-waits : (o a : ℕ) → (o ≡ 4 → ⊥) → (o ≡ 16 → ⊥) → (o ≡ 12 → ⊥) → o < 19
      → ended (waiting o a ∷ k) ts ≡ leaves 0
  unfolding ended_rest waiting_with
  other-waits o a e f g h = rw (ne_eqb o 4 e, ne_eqb o 16 f, ne_eqb o 12 g, lt-leb 19 o h) refl

  pub put-waits : (a : ℕ) → ended (waiting 4 a ∷ k) ts ≡ prefixed (instruction 4 a ∷ []) (whole_rest scopes sc k ts)
  unfolding ended_rest waiting_with whole_rest
  put-waits a = refl

  -- The closing bracket

  closing : {A : Type 0} (f : List Token → Reading A) → Kind 20 → expect ")" ts f ≡ f (rest ts)
  unfolding expect
  closing f e = rw (is-close (first ts) ∙ ap (λ (j : ℕ). eqb j 20) e) refl

  pub bracket-closes : Kind 20 → ended (bracket ∷ k) ts ≡ whole_rest scopes sc k (rest ts)
  unfolding ended_rest whole_rest
  bracket-closes e = closing (λ us. whole_with scopes sc (ended k) us) e

  pub recv-closes : (a : ℕ) → Kind 20
      → ended (waiting 16 a ∷ k) ts ≡ prefixed (instruction 16 a ∷ []) (whole_rest scopes sc k (rest ts))
  unfolding ended_rest waiting_with whole_rest
  recv-closes a e = closing (λ us. prefixed (instruction 16 a ∷ []) (whole_with scopes sc (ended k) us)) e

  pub call-closes : (a : ℕ) → Kind 20
      → ended (waiting 12 a ∷ k) ts ≡ prefixed (instruction 12 a ∷ []) (whole_rest scopes sc k (rest ts))
  unfolding ended_rest waiting_with whole_rest call_with
  call-closes a e =
      rw (is-comma (first ts) ∙ ap (λ (j : ℕ). eqb j 25) e)
      (closing (λ us. prefixed (instruction 12 a ∷ []) (whole_with scopes sc (ended k) us)) e)

  -- the next argument of a call
  pub call-goes-on : (a : ℕ) → Kind 25
      → ended (waiting 12 a ∷ k) ts ≡ operand_rest scopes sc (waiting 12 a ∷ k) (rest ts)
  unfolding ended_rest waiting_with call_with operand_rest
  call-goes-on a e =
      rw (is-comma (first ts) ∙ ap (λ (j : ℕ). eqb j 25) e)
      (params-rest scopes sc (instruction 12 a) (ended k) (rest ts))

  -- Where the tokens leave the grammar

  not-closing : {A : Type 0} (f : List Token → Reading A) → (Kind 20 → ⊥) → expect ")" ts f ≡ leaves_at ts
  unfolding expect
  not-closing f e = rw (is-close (first ts) ∙ ne_eqb (kind_of (first ts).bytes) 20 e) refl

  pub bracket-open : (Kind 20 → ⊥) → ended (bracket ∷ k) ts ≡ leaves_at ts
  unfolding ended_rest
  bracket-open e = not-closing (λ us. whole_with scopes sc (ended k) us) e

  pub recv-open : (a : ℕ) → (Kind 20 → ⊥) → ended (waiting 16 a ∷ k) ts ≡ leaves_at ts
  unfolding ended_rest waiting_with
  recv-open a e = not-closing (λ us. prefixed (instruction 16 a ∷ []) (whole_with scopes sc (ended k) us)) e

  pub call-open : (a : ℕ) → (Kind 20 → ⊥) → (Kind 25 → ⊥) → ended (waiting 12 a ∷ k) ts ≡ leaves_at ts
  unfolding ended_rest waiting_with call_with
  call-open a e f =
      rw (is-comma (first ts) ∙ ne_eqb (kind_of (first ts).bytes) 25 f)
      (not-closing (λ us. prefixed (instruction 12 a ∷ []) (whole_with scopes sc (ended k) us)) e)
