-- The parts of an expression that hold no other: a measurement and new.
use Prim.Native.Nat.{ℕ}
use mathlib.Core.Bool.{Bool, true, false, cond, ◌||◌}
use mathlib.Core.Path.{◌≡◌, refl, sym, ap, ◌∙◌, subst}
use mathlib.Core.List.{List, [], ◌∷◌}
use Rattle.text.specs.Tree.{Name, Carried, int_type, boolean_type, qbit_type, Expr, new_qubit, new_channel, new_end}
use Rattle.text_parse.specs.Tokens.{Token, is, is_name, name_of}
use Rattle.text_parse.specs.Grammar.{Reading, read, leaves, and_then, first, rest, leaves_at, next?, expect, expect_name, carried, bracketed, Scopes, allocated, allocation, measured_name}
use Rattle.text_expr.specs.PhasesCode.{Open, Phase, whole, bare, measure₁, measure₂, measure₃, measure₄, measure₅, new₁, new₂, new₃, new₄, new₅, new₆, Step, on, off, must, new_step, step, follow, pass}
use Rattle.text_expr.proofs.Steps.{must-stand, must-name, expect-then, expect_name-then, expect-same, and_then-assoc}

module _ (scopes : Scopes) (k : List Open) where
  -- measure ( StdBasis , name ), from its end on
  measured₅ : (q : Name) (us : List Token)
      → pass scopes us measure₅ k ≡ and_then (expect ")" us (λ ys. read q ys)) (λ x vs. pass scopes vs whole k)
  unfolding step and_then
  measured₅ q us =
      must-stand scopes ")" measure₅ whole k k (λ t. refl) refl us
      ∙ sym (expect-then scopes ")" us (λ ys. read q ys) (λ x vs. pass scopes vs whole k))

  measured₄ : (us : List Token)
      → pass scopes us measure₄ k
      ≡ and_then (expect_name us (λ q xs. expect ")" xs (λ ys. read q ys))) (λ x vs. pass scopes vs whole k)
  unfolding expect_name
  measured₄ us =
      must-name scopes k us
      ∙ ap (λ (r : Reading (Unit {0})). cond (is_name (first us)) r (leaves_at us))
      (measured₅ (name_of (first us)) (rest us))
      ∙ sym (expect_name-then scopes us (λ q xs. expect ")" xs (λ ys. read q ys)) (λ x vs. pass scopes vs whole k))

  measured₃ : (us : List Token)
      → pass scopes us measure₃ k
      ≡ and_then (expect "," us (λ ws. expect_name ws (λ q xs. expect ")" xs (λ ys. read q ys))))
      (λ x vs. pass scopes vs whole k)
  unfolding step
  measured₃ us =
      must-stand scopes "," measure₃ measure₄ k k (λ t. refl) refl us
      ∙ expect-same scopes "," us (λ vs. pass scopes vs measure₄ k)
      (λ ws. and_then (expect_name ws (λ q xs. expect ")" xs (λ ys. read q ys))) (λ x vs. pass scopes vs whole k))
      (measured₄ (rest us))
      ∙ sym (expect-then scopes "," us (λ ws. expect_name ws (λ q xs. expect ")" xs (λ ys. read q ys)))
      (λ x vs. pass scopes vs whole k))

  pub measure-pass : (us : List Token)
      → pass scopes us measure₁ k ≡ and_then (measured_name us) (λ x vs. pass scopes vs whole k)
  unfolding step measured_name
  measure-pass us =
      let last : List Token → Reading Name =
      λ ws. expect_name ws (λ q xs. expect ")" xs (λ ys. read q ys)) in
      let comma : List Token → Reading Name = λ vs. expect "," vs last in
      let basis : List Token → Reading Name = λ vs. expect "StdBasis" vs comma in
      let further : Name → List Token → Reading (Unit {0}) = λ x vs. pass scopes vs whole k in
      must-stand scopes "(" measure₁ measure₂ k k (λ t. refl) refl us
      ∙ expect-same scopes "(" us (λ vs. pass scopes vs measure₂ k) (λ vs. and_then (basis vs) further)
      (must-stand scopes "StdBasis" measure₂ measure₃ k k (λ t. refl) refl (rest us)
      ∙ expect-same scopes "StdBasis" (rest us) (λ vs. pass scopes vs measure₃ k) (λ vs. and_then (comma vs) further)
      (measured₃ (rest (rest us)))
      ∙ sym (expect-then scopes "StdBasis" (rest us) comma further))
      ∙ sym (expect-then scopes "(" us basis further)

  -- new T ( ), from its brackets on
  allocated-pass : (e : Expr) (us : List Token)
      → pass scopes us new₅ k ≡ and_then (allocated e us) (λ x vs. pass scopes vs bare k)
  unfolding step allocated and_then
  allocated-pass e us =
      let close : List Token → Reading Expr = λ vs. expect ")" vs (λ ws. read e ws) in
      let further : Expr → List Token → Reading (Unit {0}) = λ x vs. pass scopes vs bare k in
      must-stand scopes "(" new₅ new₆ k k (λ t. refl) refl us
      ∙ expect-same scopes "(" us (λ vs. pass scopes vs new₆ k) (λ vs. and_then (close vs) further)
      (must-stand scopes ")" new₆ bare k k (λ t. refl) refl (rest us)
      ∙ sym (expect-then scopes ")" (rest us) (λ ws. read e ws) further))
      ∙ sym (expect-then scopes "(" us close further)

  -- the type that a channel carries
  carried-pass : (f : Carried → Expr) (us : List Token)
      → pass scopes us new₃ k
      ≡ and_then (and_then (carried us) (λ t vs. expect "]" vs (λ ws. read (f t) ws)))
      (λ e vs. and_then (allocated e vs) (λ x ws. pass scopes ws bare k))
  unfolding pass step must carried and_then leaves_at follow
  carried-pass f [] = refl
  carried-pass f (t ∷ us) = by (is "int" t) (is "boolean" t) (is "qbit" t)
    where
      further : Expr → List Token → Reading (Unit {0})
      further e vs = and_then (allocated e vs) (λ x ws. pass scopes ws bare k)

      to_end : (c : Carried) → pass scopes us new₄ k ≡ and_then (expect "]" us (λ ws. read (f c) ws)) further
      to_end c =
          must-stand scopes "]" new₄ new₅ k k (λ t. refl) refl us
          ∙ expect-same scopes "]" us (λ vs. pass scopes vs new₅ k) (λ vs. and_then (read (f c) vs) further)
          (allocated-pass (f c) (rest us))
          ∙ sym (expect-then scopes "]" us (λ ws. read (f c) ws) further)

      by : (a b c : Bool) → follow (pass scopes us) t us (cond (a || (b || c)) (on new₄ k) (off t.at))
          ≡ and_then
          (and_then
          (cond a (read int_type us) (cond b (read boolean_type us) (cond c (read qbit_type us) (leaves t.at))))
          (λ t vs. expect "]" vs (λ ws. read (f t) ws)))
          further
      by true b c = to_end int_type
      by false true c = to_end boolean_type
      by false false true = to_end qbit_type
      by false false false = refl

  bracket-pass : (f : Carried → Expr) (us : List Token)
      → pass scopes us new₂ k ≡ and_then (and_then (bracketed us f) allocated) (λ x vs. pass scopes vs bare k)
  unfolding step bracketed
  bracket-pass f us =
      let inner : List Token → Reading Expr =
      λ vs. and_then (carried vs) (λ t ws. expect "]" ws (λ xs. read (f t) xs)) in
      let further : Expr → List Token → Reading (Unit {0}) =
      λ e vs. and_then (allocated e vs) (λ x ws. pass scopes ws bare k) in
      must-stand scopes "[" new₂ new₃ k k (λ t. refl) refl us
      ∙ expect-same scopes "[" us (λ vs. pass scopes vs new₃ k) (λ vs. and_then (inner vs) further)
      (carried-pass f (rest us))
      ∙ sym (expect-then scopes "[" us inner further)
      ∙ sym (and_then-assoc (expect "[" us inner) allocated (λ x vs. pass scopes vs bare k))

  pub new-pass : (us : List Token) → pass scopes us new₁ k ≡ and_then (allocation us) (λ x vs. pass scopes vs bare k)
  unfolding pass step new_step allocation and_then leaves_at follow
  new-pass [] = refl
  new-pass (t ∷ us) = by (is "qbit" t) (is "channel" t) (is "channelEnd" t)
    where
      by : (a b c : Bool)
          → follow (pass scopes us) t us
          (cond a (on new₅ k) (cond b (on new₂ k) (cond c (on new₂ k) (off t.at))))
          ≡ and_then
          (cond a (allocated new_qubit us)
          (cond b (and_then (bracketed us new_channel) allocated)
          (cond c (and_then (bracketed us new_end) allocated) (leaves t.at))))
          (λ x vs. pass scopes vs bare k)
      by true b c = allocated-pass new_qubit us
      by false true c = bracket-pass new_channel us
      by false false true = bracket-pass new_end us
      by false false false = refl
