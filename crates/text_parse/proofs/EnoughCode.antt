-- Readings of statements, blocks and methods with enough.
use Prim.Native.Nat.{ℕ, zero, suc}
use native.Mathlib.Omega.{arith}
use mathlib.Core.Path.{◌≡◌, refl, sym, ◌∙◌}
use mathlib.Core.List.{List, [], ◌∷◌, ◌++◌, map}
use mathlib.Core.Option.{Option}
use Rattle.text.specs.Tree.{Name, NonVoidType, Statement, Statements, Parameter, declared_by, parameter_of}
use Rattle.text_parse.specs.Tokens.{Token}
use Rattle.text_parse.specs.Grammar.{Reading, and_then, rest, next?, Scopes, statement, body, unbraced, block_of, statements, more_parameters, parameters, method_body, method, at_text_end, program, enough, program_of}
use Rattle.text_parse.specs.Left.{Onward}
use Rattle.text_parse.specs.Equations.{statement_from, body_from, block_from, statements_from, unbraced_rule, statement_rule, body_rule, block_rule, statements_rule, more_parameters_from, method_from, more_parameters_rule, parameters_rule, method_body_rule, method_rule, program_rule}
use Rattle.text_parse.proofs.Same.{cond_same, and_then-same, deeper-same, next-same, expect-same, expect_name-same}
use Rattle.text_parse.proofs.Progress.{progress}
use Rattle.text_parse.proofs.EnoughExpr.{Room, enough-room}
use Rattle.text_parse.proofs.EnoughDeclarations.{declarations-from, simple-rule, condition-rule}

module _ (n left : ℕ) (scopes : Scopes) (ts : List Token) where
  statement-stable : Room 2 ts n
      → ((k : ℕ) → Room 2 ts k → statement k left scopes ts ≡ statement_rule left scopes ts)
      → statement n left scopes ts ≡ statement_from left scopes ts
  unfolding statement_from
  statement-stable m rule = rule n m ∙ sym (rule (enough ts) (omega (arith, enough-room ts)))

  body-stable : Room 2 ts n → ((k : ℕ) → Room 2 ts k → body k left scopes ts ≡ body_rule left scopes ts)
      → body n left scopes ts ≡ body_from left scopes ts
  unfolding body_from
  body-stable m rule = rule n m ∙ sym (rule (enough ts) (omega (arith, enough-room ts)))

  block-stable : Room 1 ts n → ((k : ℕ) → Room 1 ts k → block_of k left scopes ts ≡ block_rule left scopes ts)
      → block_of n left scopes ts ≡ block_from left scopes ts
  unfolding block_from
  block-stable m rule = rule n m ∙ sym (rule (enough ts) (omega (arith, enough-room ts)))

  statements-stable : Room 3 ts n
      → ((k : ℕ) → Room 3 ts k → statements k left scopes ts ≡ statements_rule left scopes ts)
      → statements n left scopes ts ≡ statements_from left scopes ts
  unfolding statements_from
  statements-stable m rule = rule n m ∙ sym (rule (enough ts) (omega (arith, enough-room ts)))

  -- a body and what is read after it, and statements
  body-then : {A : Type 0} {f g : Statement → List Token → Reading A} → Room 2 ts n
      → ((k : ℕ) → Room 2 ts k → body k left scopes ts ≡ body_rule left scopes ts)
      → ((s : Statement) (us : List Token) → Onward ts us → f s us ≡ g s us)
      → and_then (body n left scopes ts) f ≡ and_then (body_from left scopes ts) g
  body-then m rule e = and_then-same (body-stable m rule) (progress.body-on n left scopes ts) e

  statements-then : {A : Type 0} {f g : Statements → List Token → Reading A} → Room 3 ts n
      → ((k : ℕ) → Room 3 ts k → statements k left scopes ts ≡ statements_rule left scopes ts)
      → ((ss : Statements) (us : List Token) → Onward ts us → f ss us ≡ g ss us)
      → and_then (statements n left scopes ts) f ≡ and_then (statements_from left scopes ts) g
  statements-then m rule e = and_then-same (statements-stable m rule) (progress.statements-on n left scopes ts) e

mutual
  unfolding statement unbraced_rule statement_rule body_rule block_rule statements_rule

  pub statement-rule : (b left : ℕ) (scopes : Scopes) (ts : List Token) → Room 2 ts b → (n : ℕ) → Room 2 ts n
      → statement n left scopes ts ≡ statement_rule left scopes ts
  statement-rule zero left scopes ts l n m = absurd (omega arith)
  statement-rule (suc b) left scopes ts l zero m = absurd (omega arith)
  statement-rule (suc b) left scopes ts l (suc n) m =
      cond_same (next? "{" ts)
      (λ e. deeper-same left ts (λ i.
      block-stable n i scopes ts (omega arith) (λ k r. block-rule b i scopes ts (omega arith) k r)))
      (λ e. unbraced-rule b left scopes ts (omega arith) n (omega arith))

  pub body-rule : (b left : ℕ) (scopes : Scopes) (ts : List Token) → Room 2 ts b → (n : ℕ) → Room 2 ts n
      → body n left scopes ts ≡ body_rule left scopes ts
  body-rule zero left scopes ts l n m = absurd (omega arith)
  body-rule (suc b) left scopes ts l zero m = absurd (omega arith)
  body-rule (suc b) left scopes ts l (suc n) m =
      deeper-same left ts (λ i. cond_same (next? "{" ts)
      (λ e. block-stable n i scopes ts (omega arith) (λ k r. block-rule b i scopes ts (omega arith) k r))
      (λ e. unbraced-rule b i scopes ts (omega arith) n (omega arith)))

  pub unbraced-rule : (b left : ℕ) (scopes : Scopes) (ts : List Token) → Room 1 ts b → (n : ℕ) → Room 1 ts n
      → unbraced n left scopes ts ≡ unbraced_rule left scopes ts
  unbraced-rule zero left scopes ts l n m = absurd (omega arith)
  unbraced-rule (suc b) left scopes ts l zero m = absurd (omega arith)
  unbraced-rule (suc b) left scopes ts l (suc n) m =
      next-same "if" ts tt
      (λ f. and_then-same (condition-rule n scopes (rest ts) (omega arith)) (progress.condition-on n scopes (rest ts))
      (λ e us o. body-then n left scopes us (omega arith) (λ k r. body-rule b left scopes us (omega arith) k r)
      (λ s vs p. next-same "else" vs tt
      (λ g. body-then n left scopes (rest vs) (omega arith) (λ k r. body-rule b left scopes (rest vs) (omega arith) k r)
      (λ t ws q. refl))
      refl)))
      (next-same "while" ts tt
      (λ f. and_then-same (condition-rule n scopes (rest ts) (omega arith)) (progress.condition-on n scopes (rest ts))
      (λ e us o. body-then n left scopes us (omega arith) (λ k r. body-rule b left scopes us (omega arith) k r)
      (λ s vs p. refl)))
      (simple-rule n scopes ts (omega arith)))

  pub block-rule : (b left : ℕ) (scopes : Scopes) (ts : List Token) → Room 1 ts b → (n : ℕ) → Room 1 ts n
      → block_of n left scopes ts ≡ block_rule left scopes ts
  block-rule zero left scopes ts l n m = absurd (omega arith)
  block-rule (suc b) left scopes ts l zero m = absurd (omega arith)
  block-rule (suc b) left scopes ts l (suc n) m =
      expect-same "{" ts tt (λ us f.
      and_then-same (declarations-from n [] us (omega arith)) (progress.declarations-on n [] us) (λ ds vs o.
      statements-then n left (declared_by ds ∷ scopes) vs (omega arith)
      (λ k r. statements-rule b left (declared_by ds ∷ scopes) vs (omega arith) k r) (λ ss ws p. refl)))

  pub statements-rule : (b left : ℕ) (scopes : Scopes) (ts : List Token) → Room 3 ts b → (n : ℕ) → Room 3 ts n
      → statements n left scopes ts ≡ statements_rule left scopes ts
  statements-rule zero left scopes ts l n m = absurd (omega arith)
  statements-rule (suc b) left scopes ts l zero m = absurd (omega arith)
  statements-rule (suc b) left scopes ts l (suc n) m =
      next-same "}" ts tt (λ f. refl)
      (and_then-same
      (statement-stable n left scopes ts (omega arith) (λ k r. statement-rule b left scopes ts (omega arith) k r))
      (progress.statement-on n left scopes ts) (λ s us o.
      statements-then n left scopes us (omega arith) (λ k r. statements-rule b left scopes us (omega arith) k r)
      (λ ss vs p. refl)))

-- Readings with any number that is enough
module _ (n left : ℕ) (scopes : Scopes) (ts : List Token) where
  pub statement-from : Room 2 ts n → statement n left scopes ts ≡ statement_from left scopes ts
  statement-from m = statement-stable n left scopes ts m (statement-rule n left scopes ts m)

  pub body-from : Room 2 ts n → body n left scopes ts ≡ body_from left scopes ts
  body-from m = body-stable n left scopes ts m (body-rule n left scopes ts m)

  pub block-from : Room 1 ts n → block_of n left scopes ts ≡ block_from left scopes ts
  block-from m = block-stable n left scopes ts m (block-rule n left scopes ts m)

  pub statements-from : Room 3 ts n → statements n left scopes ts ≡ statements_from left scopes ts
  statements-from m = statements-stable n left scopes ts m (statements-rule n left scopes ts m)

-- Methods

more_parameters-stable : (n : ℕ) (ps : List Parameter) (ts : List Token) → Room 1 ts n
    → ((k : ℕ) → Room 1 ts k → more_parameters k ps ts ≡ more_parameters_rule ps ts)
    → more_parameters n ps ts ≡ more_parameters_from ps ts
unfolding more_parameters_from
more_parameters-stable n ps ts m rule = rule n m ∙ sym (rule (enough ts) (omega (arith, enough-room ts)))

pub more_parameters-rule : (b : ℕ) (ps : List Parameter) (ts : List Token) → Room 1 ts b → (n : ℕ) → Room 1 ts n
    → more_parameters n ps ts ≡ more_parameters_rule ps ts
unfolding more_parameters more_parameters_rule
more_parameters-rule zero ps ts l n m = absurd (omega arith)
more_parameters-rule (suc b) ps ts l zero m = absurd (omega arith)
more_parameters-rule (suc b) ps ts l (suc n) m =
    and_then-same refl (progress.parameter-on ts) (λ p us o.
    next-same "," us tt
    (λ f. more_parameters-stable n (ps ++ (p ∷ [])) (rest us) (omega arith)
    (λ k r. more_parameters-rule b (ps ++ (p ∷ [])) (rest us) (omega arith) k r))
    refl)

pub parameters-rule : (n : ℕ) (ts : List Token) → Room 1 ts n → parameters n ts ≡ parameters_rule ts
unfolding parameters parameters_rule
parameters-rule n ts m =
    next-same ")" ts tt (λ f. refl) (more_parameters-stable n [] ts m (more_parameters-rule n [] ts m))

pub method_body-rule : (n : ℕ) (t : Option NonVoidType) (x : Name) (ps : List Parameter) (ts : List Token) → Room 0 ts n
    → method_body n t x ps ts ≡ method_body_rule t x ps ts
unfolding method_body method_body_rule
method_body-rule n t x ps ts m =
    expect-same "{" ts tt (λ us f.
    and_then-same (declarations-from n [] us (omega arith)) (progress.declarations-on n [] us) (λ ds vs o.
    and_then-same (statements-from n 31 ((map parameter_of ps ++ declared_by ds) ∷ []) vs (omega arith))
    (progress.statements-on n 31 ((map parameter_of ps ++ declared_by ds) ∷ []) vs) (λ ss ws p. refl)))

pub method-rule : (n : ℕ) (ts : List Token) → Room 0 ts n → method n ts ≡ method_rule ts
unfolding method method_rule
method-rule n ts m =
    and_then-same refl (progress.return_type-on ts) (λ t us o. expect_name-same us (λ x vs f.
    expect-same "(" vs tt (λ ws g.
    and_then-same (parameters-rule n ws (omega arith)) (progress.parameters-on n ws) (λ ps xs p.
    method_body-rule n t x ps xs (omega arith)))))

pub method-from : (n : ℕ) (ts : List Token) → Room 0 ts n → method n ts ≡ method_from ts
unfolding method_from
method-from n ts m = method-rule n ts m ∙ sym (method-rule (enough ts) ts (omega (arith, enough-room ts)))

program-stable : (n : ℕ) (ts : List Token) → Room 1 ts n
    → ((k : ℕ) → Room 1 ts k → program k ts ≡ program_rule ts) → program n ts ≡ program_of ts
unfolding program_of
program-stable n ts m rule = rule n m ∙ sym (rule (enough ts) (omega (arith, enough-room ts)))

pub program-rule : (b : ℕ) (ts : List Token) → Room 1 ts b → (n : ℕ) → Room 1 ts n → program n ts ≡ program_rule ts
unfolding program program_rule
program-rule zero ts l n m = absurd (omega arith)
program-rule (suc b) ts l zero m = absurd (omega arith)
program-rule (suc b) ts l (suc n) m =
    and_then-same (method-from n ts (omega arith)) (progress.method-on n ts) (λ x us o.
    cond_same (at_text_end us) (λ e. refl)
    (λ e. and_then-same
    (program-stable n us (omega arith) (λ k r. program-rule b us (omega arith) k r))
    (progress.methods-on n us) (λ ms vs p. refl)))

pub program-from : (n : ℕ) (ts : List Token) → Room 1 ts n → program n ts ≡ program_of ts
program-from n ts m = program-stable n ts m (program-rule n ts m)
