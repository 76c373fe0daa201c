-- What the pass over an expression does after each part of one, in terms of the grammar's own readings.
use Prim.Native.Nat.{ℕ}
use Prim.Native.String.{String}
use mathlib.Core.Bool.{Bool, true, false, cond, ◌||◌}
use mathlib.Core.Path.{◌≡◌, refl, sym, ap, ◌∙◌, subst}
use mathlib.Core.List.{List, [], ◌∷◌}
use mathlib.Core.Option.{Option, none, some}
use lib.Dec.{T}
use Rattle.lists.specs.Lists.{same}
use Rattle.lists.proofs.Tests.{passes, passed}
use Rattle.lists.proofs.Laws.{same-equal}
use Rattle.text.specs.Tree.{ascii, Name, Carried, Operator, plus, minus, equals, less_than, Expr}
use Rattle.text_parse.specs.Tokens.{Token, is, is_name, name_of}
use Rattle.text_parse.specs.Grammar.{Reading, read, leaves, and_then, first, rest, leaves_at, next?, expect, expect_name, carried, bracketed, Scopes, operator_at, allocated, allocation, measured_name}
use Rattle.text_expr.specs.PhasesCode.{Open, assigning, in_brackets, in_call, Phase, operand, whole, bare, called, recv₁, measure₁, measure₂, measure₃, measure₄, measure₅, new₁, new₂, new₃, new₄, new₅, new₆, Step, on, off, closed, is_operator, ended, after_new, whole_step, bare_step, must, new_step, step, follow, pass}

-- Tests of one token

-- a token with these bytes
bytes-are : (s : String) (t : Token) → is s t ≡ true → t.bytes ≡ ascii s
bytes-are s t e = same-equal t.bytes (ascii s) (passes e)

-- an operator is neither a bracket's end nor a comma
operator-other : (t : Token) (s : String) → is_operator t ≡ true → is s t ≡ true
    → is_operator (record { bytes = ascii s; at = 0 }) ≡ true
unfolding is_operator
operator-other t s o e =
    subst (λ (bs : List ℕ). is_operator (record { bytes = bs; at = 0 }) ≡ true) (bytes-are s t e) o

pub not-closing : (t : Token) → is_operator t ≡ true → is ")" t ≡ false
unfolding is_operator
not-closing t o = by (is ")" t) refl
  where
    by : (b : Bool) → is ")" t ≡ b → b ≡ false
    by true e = absurd (passes (operator-other t ")" o e))
    by false e = refl

pub not-comma : (t : Token) → is_operator t ≡ true → is "," t ≡ false
unfolding is_operator
not-comma t o = by (is "," t) refl
  where
    by : (b : Bool) → is "," t ≡ b → b ≡ false
    by true e = absurd (passes (operator-other t "," o e))
    by false e = refl

module _ (scopes : Scopes) where
  -- an assignment that is open ends with its expression
  pub bare-assigning : (us : List Token) (k : List Open) → pass scopes us bare (assigning ∷ k) ≡ pass scopes us whole k
  unfolding pass step bare_step whole_step after_new closed
  bare-assigning [] k = refl
  bare-assigning (t ∷ us) k = refl

  -- one token that must stand here
  pub must-stand : (s : String) (q p : Phase) (k l : List Open)
      → ((t : Token) → step scopes q k t ≡ must (is s t) p l t) → is s (record { bytes = []; at = 0 }) ≡ false
      → (us : List Token) → pass scopes us q k ≡ expect s us (λ vs. pass scopes vs p l)
  unfolding pass must expect leaves_at follow
  must-stand s q p k l at-step none-there [] =
      sym (ap (λ (b : Bool). cond b (pass scopes [] p l) (leaves 0)) none-there)
  must-stand s q p k l at-step none-there (t ∷ us) =
      ap (λ (x : Step). follow (pass scopes us) t us x) (at-step t) ∙ by (is s t)
    where
      by : (b : Bool) → follow (pass scopes us) t us (cond b (on p l) (off t.at))
          ≡ cond b (pass scopes us p l) (leaves t.at)
      by true = refl
      by false = refl

  -- after an expression in brackets: the closing one
  pub bare-brackets : (us : List Token) (k : List Open)
      → pass scopes us bare (in_brackets ∷ k) ≡ expect ")" us (λ vs. pass scopes vs whole k)
  unfolding pass step bare_step after_new closed ended follow expect leaves_at
  bare-brackets [] k = refl
  bare-brackets (t ∷ us) k = by (is_operator t) refl (is ")" t) refl
    where
      by : (o : Bool) → is_operator t ≡ o → (b : Bool) → is ")" t ≡ b
          → follow (pass scopes us) t us (cond o (off t.at) (cond b (on whole k) (off t.at)))
          ≡ cond b (pass scopes us whole k) (leaves t.at)
      by true o true b = absurd (passes (sym (not-closing t o) ∙ b))
      by true o false b = refl
      by false o true b = refl
      by false o false b = refl

  -- after an argument: the next one, or the closing bracket
  pub bare-call : (us : List Token) (k : List Open)
      → pass scopes us bare (in_call ∷ k)
      ≡ cond (next? "," us) (pass scopes (rest us) operand (in_call ∷ k))
      (expect ")" us (λ vs. pass scopes vs whole k))
  unfolding pass step bare_step after_new closed ended follow expect leaves_at
  bare-call [] k = refl
  bare-call (t ∷ us) k = by (is_operator t) refl (is "," t) refl (is ")" t) refl
    where
      by : (o : Bool) → is_operator t ≡ o → (c : Bool) → is "," t ≡ c → (b : Bool) → is ")" t ≡ b
          → follow (pass scopes us) t us
          (cond o (off t.at) (cond c (on operand (in_call ∷ k)) (cond b (on whole k) (off t.at))))
          ≡ cond c (pass scopes us operand (in_call ∷ k)) (cond b (pass scopes us whole k) (leaves t.at))
      by true o true c b d = absurd (passes (sym (not-comma t o) ∙ c))
      by true o false c true d = absurd (passes (sym (not-closing t o) ∙ d))
      by true o false c false d = refl
      by false o true c b d = refl
      by false o false c true d = refl
      by false o false c false d = refl

  -- after an operand: an operator and another, or the expression is whole
  abbrev pub afterwards : List Token → List Open → Option Operator → Reading (Unit {0})
  afterwards us k none = pass scopes us bare k
  afterwards us k (some o) = pass scopes (rest us) operand k

  pub whole-operator : (us : List Token) (k : List Open) → pass scopes us whole k ≡ afterwards us k (operator_at us)
  unfolding pass step whole_step bare_step follow operator_at is_operator
  whole-operator [] k = refl
  whole-operator (t ∷ us) k = by (is "+" t) (is "-" t) (is "==" t) (is "<" t) refl
    where
      by : (a b c d : Bool) → is_operator t ≡ (a || (b || (c || d)))
          → follow (pass scopes us) t us (cond (a || (b || (c || d))) (on operand k) (ended (closed k) t))
          ≡ afterwards (t ∷ us) k
          (cond a (some plus) (cond b (some minus) (cond c (some equals) (cond d (some less_than) none))))
      by true b c d e = refl
      by false true c d e = refl
      by false false true d e = refl
      by false false false true e = refl
      by false false false false e =
          sym (ap (λ (o : Bool). follow (pass scopes us) t us (cond o (after_new k t) (ended (closed k) t))) e)

  -- a name that must stand here
  pub must-name : (k : List Open) (us : List Token)
      → pass scopes us measure₄ k ≡ expect_name us (λ q vs. pass scopes vs measure₅ k)
  unfolding pass step must expect_name leaves_at follow is_name
  must-name k [] = refl
  must-name k (t ∷ us) = by (is_name t)
    where
      by : (b : Bool) → follow (pass scopes us) t us (cond b (on measure₅ k) (off t.at))
          ≡ cond b (pass scopes us measure₅ k) (leaves t.at)
      by true = refl
      by false = refl

  -- Continuing a reading

  -- expect and expect_name, and then something
  pub expect-then : {A B : Type 0} (s : String) (us : List Token) (f : List Token → Reading A)
      (g : A → List Token → Reading B) → and_then (expect s us f) g ≡ expect s us (λ vs. and_then (f vs) g)
  unfolding expect and_then leaves_at
  expect-then s us f g = by (next? s us)
    where
      by : (b : Bool) → and_then (cond b (f (rest us)) (leaves (first us).at)) g
          ≡ cond b (and_then (f (rest us)) g) (leaves (first us).at)
      by true = refl
      by false = refl

  pub expect_name-then : {A B : Type 0} (us : List Token) (f : Name → List Token → Reading A)
      (g : A → List Token → Reading B) → and_then (expect_name us f) g ≡ expect_name us (λ x vs. and_then (f x vs) g)
  unfolding expect_name and_then leaves_at
  expect_name-then us f g = by (is_name (first us))
    where
      by : (b : Bool) → and_then (cond b (f (name_of (first us)) (rest us)) (leaves (first us).at)) g
          ≡ cond b (and_then (f (name_of (first us)) (rest us)) g) (leaves (first us).at)
      by true = refl
      by false = refl

  -- two continuations that agree on what may be left
  pub expect-same : {A : Type 0} (s : String) (us : List Token) (f g : List Token → Reading A)
      → f (rest us) ≡ g (rest us) → expect s us f ≡ expect s us g
  unfolding expect
  expect-same s us f g e = ap (λ x. cond (next? s us) x (leaves_at us)) e

pub and_then-assoc : {A B C : Type 0} (r : Reading A) (f : A → List Token → Reading B) (g : B → List Token → Reading C)
    → and_then (and_then r f) g ≡ and_then r (λ a us. and_then (f a us) g)
unfolding and_then
and_then-assoc (read a us) f g = refl
and_then-assoc (leaves i) f g = refl

-- continuations that agree on what a reading gives
pub and_then-same : {A B : Type 0} (r : Reading A) (f g : A → List Token → Reading B)
    → ((a : A) (us : List Token) → r ≡ read a us → f a us ≡ g a us) → and_then r f ≡ and_then r g
unfolding and_then
and_then-same (read a us) f g same = same a us refl
and_then-same (leaves i) f g same = refl
