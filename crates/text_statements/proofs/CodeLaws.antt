-- Statements and blocks by places.
use Prim.Native.Nat.{ℕ, zero, suc, ◌+◌, ◌-◌, ◌≤◌, ◌<◌}
use native.Mathlib.Omega.{arith}
use mathlib.Core.Path.{◌≡◌, refl, ap, ◌∙◌}
use mathlib.Core.Bool.{Bool, true, false, cond}
use mathlib.Core.List.{List, [], ◌∷◌}
use borrow.Author.Tests.{eq-eqb, ne_eqb}
use lib.ListN.{get_or, length}
use Rattle.text.specs.Tree.{Expr, declared_by, Statement, block, conditional, alternative, loop, next}
use Rattle.text_parse.specs.Tokens.{Token}
use Rattle.text_parse.specs.Grammar.{Reading, read, leaves, and_then, first, rest, leaves_at, next?, deeper, Scopes}
use Rattle.text_parse.specs.Equations.{declarations_from, condition_rule, simple_rule, statement_from, statement_rule, body_from, body_rule, block_from, block_rule, statements_from, statements_rule, unbraced_rule}
use Rattle.text_parse.proofs.Equations.{grammar}
use Rattle.text_tokens.specs.Places.{tokens_at}
use Rattle.text_tokens.proofs.KindTests.{is-if, is-else, is-while, is-open-brace, is-close-brace}
use Rattle.text_types.specs.SaysCode.{next_kind, next_at, Passed, Expected, reads, leaves-at, On}
use Rattle.text_types.proofs.Answers.{on-later, off-here, then-says, says-read, says-bounds, passed_ok, passed-found, found_ok, ok-found, ok-missing}
use Rattle.text_statements.specs.WithinCode.{Within, DeclarationsEnd, Inside}
use Rattle.text_statements.proofs.Steps.{on-as, lower, mark-then, reading-then, reading-last, after-token}
use Rattle.text_statements.proofs.Blocks.{SameBelow, opened-more, read_as, block_at}

-- one level less is left
some_left : {A : Type 0} (left : ℕ) (ts : List Token) (k : ℕ → Reading A) → (left ≡ 0 → ⊥)
    → deeper left ts k ≡ k (left - 1)
unfolding deeper
some_left zero ts k f = absurd (f refl)
some_left (suc l) ts k f =
    let one : l ≡ suc l - 1 = omega arith in ap k one

none_left : {A : Type 0} (left : ℕ) (ts : List Token) (k : ℕ → Reading A) → left ≡ 0
    → deeper left ts k ≡ leaves (first ts).at
unfolding deeper leaves_at
none_left zero ts k e = refl
none_left (suc l) ts k e = absurd (omega arith)

-- the body of a while, and that of an if with its else, after the condition
abbrev loop_rest : ℕ → Scopes → Expr → List Token → Reading Statement
loop_rest left sc e us = and_then (body_from left sc us) (λ s vs. read (loop e s) vs)

abbrev else_rest : ℕ → Scopes → Expr → Statement → List Token → Reading Statement
else_rest left sc e s vs = and_then (body_from left sc vs) (λ t ws. read (alternative e s t) ws)

abbrev body_rest : ℕ → Scopes → Expr → Statement → List Token → Reading Statement
body_rest left sc e s vs = cond (next? "else" vs) (else_rest left sc e s (rest vs)) (read (conditional e s) vs)

abbrev if_rest : ℕ → Scopes → Expr → List Token → Reading Statement
if_rest left sc e us = and_then (body_from left sc us) (body_rest left sc e)

module _ (text starts : List ℕ) (n : ℕ) where
  abbrev In : ℕ → {A : Type 0} → (Scopes → List Token → Reading A) → Bool → ℕ → Type 0
  In i m ok at = Within text starts n i m ok at

  module _ (left i : ℕ) where
    abbrev k : ℕ
    k = next_kind text i

    abbrev here : Token
    here = first (tokens_at text i)

    -- a statement
    pub statement-deep : {at : ℕ} → k ≡ 21 → left ≡ 0 → at ≡ next_at text i → In i (statement_from left) false at
    unfolding statement_rule
    statement-deep h e f sc o l =
        rw (
          grammar.statement-is left sc (tokens_at text i),
          is-open-brace here ∙ eq-eqb k 21 h,
          none_left left (tokens_at text i) (λ l. block_from l sc (tokens_at text i)) e,
        )
        (leaves-at refl f)

    pub statement-block : {ok : Bool} {at : ℕ} → k ≡ 21 → (left ≡ 0 → ⊥) → In i (block_from (left - 1)) ok at
        → In i (statement_from left) ok at
    unfolding statement_rule
    statement-block h f s sc o l =
        rw (
          grammar.statement-is left sc (tokens_at text i),
          is-open-brace here ∙ eq-eqb k 21 h,
          some_left left (tokens_at text i) (λ l. block_from l sc (tokens_at text i)) f,
        )
        (s sc o l)

    pub statement-other : {ok : Bool} {at : ℕ} → (k ≡ 21 → ⊥) → In i (unbraced_rule left) ok at
        → In i (statement_from left) ok at
    unfolding statement_rule
    statement-other f s sc o l =
        rw (grammar.statement-is left sc (tokens_at text i), is-open-brace here ∙ ne_eqb k 21 f) (s sc o l)

    -- the body of an if, else or while
    abbrev deep_body : Scopes → ℕ → Reading Statement
    deep_body sc l =
        cond (next? "{" (tokens_at text i)) (block_from l sc (tokens_at text i))
        (unbraced_rule l sc (tokens_at text i))

    pub body-deep : {at : ℕ} → left ≡ 0 → at ≡ next_at text i → In i (body_from left) false at
    unfolding body_rule
    body-deep e f sc o l =
        rw (grammar.body_is left sc (tokens_at text i), none_left left (tokens_at text i) (deep_body sc) e)
        (leaves-at refl f)

    pub body-block : {ok : Bool} {at : ℕ} → (left ≡ 0 → ⊥) → k ≡ 21 → In i (block_from (left - 1)) ok at
        → In i (body_from left) ok at
    unfolding body_rule
    body-block f h s sc o l =
        rw (
          grammar.body_is left sc (tokens_at text i),
          some_left left (tokens_at text i) (deep_body sc) f,
          is-open-brace here ∙ eq-eqb k 21 h,
        )
        (s sc o l)

    pub body-other : {ok : Bool} {at : ℕ} → (left ≡ 0 → ⊥) → (k ≡ 21 → ⊥) → In i (unbraced_rule (left - 1)) ok at
        → In i (body_from left) ok at
    unfolding body_rule
    body-other f h s sc o l =
        rw (
          grammar.body_is left sc (tokens_at text i),
          some_left left (tokens_at text i) (deep_body sc) f,
          is-open-brace here ∙ ne_eqb k 21 h,
        )
        (s sc o l)

    -- if, while, or a statement that holds no other
    pub while-says : (e : ℕ) {q ok : Bool} {place at : ℕ} → k ≡ 14 → Passed text i e → In e condition_rule q place
        → On q place ok at (In place (body_from left) ok at) → In i (unbraced_rule left) ok at
    unfolding unbraced_rule
    while-says e {q} {ok} {place} {at} h p s later sc o l =
        rw (is-if here ∙ ne_eqb k 12 (λ g. omega arith), is-while here ∙ eq-eqb k 14 h)
        (after-token text ok at i e (λ us. and_then (condition_rule sc us) (loop_rest left sc)) p
        (reading-then text ok at (suc e) (loop_rest left sc) (s sc o l)
        (on-as later (λ b w c. lower text ok at place
        (reading-last text ok at (suc place) (λ t. loop c t) (b sc o l))))))

    pub simple-says : {ok : Bool} {at : ℕ} → (k ≡ 12 → ⊥) → (k ≡ 14 → ⊥) → In i simple_rule ok at
        → In i (unbraced_rule left) ok at
    unfolding unbraced_rule
    simple-says f g s sc o l = rw (is-if here ∙ ne_eqb k 12 f, is-while here ∙ ne_eqb k 14 g) (s sc o l)

    -- no else after the body
    pub if-says : (e : ℕ) {q1 ok q3 : Bool} {p1 at p3 : ℕ} → k ≡ 12 → Passed text i e → In e condition_rule q1 p1
        → On q1 p1 ok at (In p1 (body_from left) ok at) → On ok at q3 p3 (Expected text at 13 q3 p3) → q3 ≡ false
        → In i (unbraced_rule left) ok at
    unfolding unbraced_rule
    if-says e {q1} {ok} {q3} {p1} {at} {p3} h p s1 s2 s3 f sc o l =
        rw (is-if here ∙ eq-eqb k 12 h)
        (after-token text ok at i e (λ us. and_then (condition_rule sc us) (if_rest left sc)) p
        (reading-then text ok at (suc e) (if_rest left sc) (s1 sc o l)
        (on-as s2 (λ b w c. lower text ok at p1 (reading-then text ok at (suc p1) (body_rest left sc c) (b sc o l)
        (record {
          on = λ t w a. rw (is-else (first (tokens_at text at))
              ∙ ne_eqb (next_kind text at) 13 (ok-missing text at 13 f (s3.on t)))
              (says-read text (λ (b : Statement). Unit {0}) ok at (conditional c a) tt w t);
          off-ok = λ t. t;
          off_at = λ t. refl;
        }))))))

    pub else-says : (e : ℕ) {q1 q2 q3 ok : Bool} {p1 p2 p3 at : ℕ} → k ≡ 12 → Passed text i e
        → In e condition_rule q1 p1 → On q1 p1 q2 p2 (In p1 (body_from left) q2 p2)
        → On q2 p2 q3 p3 (Expected text p2 13 q3 p3) → q3 ≡ true → On q3 p3 ok at (In p3 (body_from left) ok at)
        → In i (unbraced_rule left) ok at
    unfolding unbraced_rule
    else-says e {q1} {q2} {q3} {ok} {p1} {p2} {p3} {at} h p s1 s2 s3 t s4 sc o l =
        let r3 : On q2 p2 ok at (Unit {0}) = on-later s3 s4 (λ x. tt) in
        rw (is-if here ∙ eq-eqb k 12 h)
        (after-token text ok at i e (λ us. and_then (condition_rule sc us) (if_rest left sc)) p
        (reading-then text ok at (suc e) (if_rest left sc) (s1 sc o l)
        (on-later s2 r3 (λ b w c. lower text ok at p1
        (reading-then text ok at (suc p1) (body_rest left sc c) (b sc o l)
        (on-later s3 s4 (λ x w a.
        rw (is-else (first (tokens_at text p2)) ∙ eq-eqb (next_kind text p2) 13 (ok-found text p2 13 t x))
        (lower text ok at p2 (after-token text ok at p2 p3 (else_rest left sc c a)
        (passed_ok text p2 13 (λ g. omega arith) t x)
        (reading-last text ok at (suc p3) (λ d. alternative c a d) (s4.on t sc o l)))))))))))

  -- statements up to a closing brace
  pub statements-end : (left i : ℕ) {ok : Bool} {at : ℕ} → next_kind text i ≡ 22 → Expected text i 22 ok at
      → In i (statements_from left) ok at
  unfolding statements_rule
  statements-end left i h e sc o l =
      let pass = passed-found text i 22 (λ g. omega arith) h e in
      rw (
        grammar.statements-is left sc (tokens_at text i),
        is-close-brace (first (tokens_at text i)) ∙ eq-eqb (next_kind text i) 22 h,
      )
      (reads (found_ok text i 22 h e) pass.after pass.onward pass.within tt)

  pub statements-on : (left i : ℕ) {q ok : Bool} {place at : ℕ} → (next_kind text i ≡ 22 → ⊥)
      → In i (statement_from left) q place → On q place ok at (In place (statements_from left) ok at)
      → In i (statements_from left) ok at
  unfolding statements_rule
  statements-on left i {q} {ok} {place} {at} h s later sc o l =
      rw (
        grammar.statements-is left sc (tokens_at text i),
        is-close-brace (first (tokens_at text i)) ∙ ne_eqb (next_kind text i) 22 h,
      )
      (reading-then text ok at (suc i) _ (s sc o l)
      (on-as later (λ b w a. lower text ok at place (reading-last text ok at (suc place) (λ c. next a c) (b sc o l)))))

-- a block: its statements are read within one block more
pub block-says : (text starts inner : List ℕ) (n left i : ℕ) {q1 q2 ok : Bool} {p1 p2 at : ℕ} → n < 32
    → Expected text i 21 q1 p1 → On q1 p1 q2 p2 (DeclarationsEnd text p1 q2 p2) → SameBelow n starts inner
    → get_or inner n 0 ≡ p1 → On q2 p2 ok at (Within text inner (n + 1) p2 (statements_from left) ok at)
    → Within text starts n i (block_from left) ok at
unfolding block_rule
block-says text starts inner n left i {q1} {q2} {ok} {p1} {p2} {at} h s1 s2 b f s3 sc o l =
    rw (grammar.block-is left sc (tokens_at text i))
    (mark-then text ok at "{" i 21 _ (λ g. omega arith) is-open-brace s1
    (on-later s2 s3 (λ d w. then-says text (λ (s : Statement). Unit {0}) ok at
    (λ ds. declarations_from [] (tokens_at text p1) ≡ read ds (tokens_at text p2)) p1
    (declarations_from [] (tokens_at text p1)) _ (read_as text p1 (declarations_from [] (tokens_at text p1)) (d w))
    (on-as s3 (λ c w ds e. lower text ok at p2 (reading-last text ok at (suc p2) (λ ss. block ds ss)
    (c (declared_by ds ∷ sc) (opened-more text starts inner b f o (block_at text p1 p2 ds e)) (omega arith))))))))

-- the text leaves the grammar in its declarations, or before them
pub block-left : (text starts : List ℕ) (n left i : ℕ) {q1 ok : Bool} {p1 at : ℕ} → Expected text i 21 q1 p1
    → On q1 p1 ok at (DeclarationsEnd text p1 ok at) → ok ≡ false → Within text starts n i (block_from left) ok at
unfolding block_rule
block-left text starts n left i {q1} {ok} {p1} {at} s1 s2 f sc o l =
    rw (grammar.block-is left sc (tokens_at text i))
    (mark-then text ok at "{" i 21 _ (λ g. omega arith) is-open-brace s1
    (on-as s2 (λ d w. reading-then text ok at p1 _ (d w) (off-here f f refl))))

-- where a statement ends
pub statement-further : (text starts : List ℕ) (n left i : ℕ) {ok : Bool} {at : ℕ} → Inside text starts n left
    → ok ≡ true → Within text starts n i (statement_from left) ok at → (i < at) × (at ≤ length text)
statement-further text starts n left i o t s =
    let most = o.levels in
    says-bounds text (λ (a : Statement). Unit {0}) (suc i) (statement_from left o.scopes (tokens_at text i)) t
    (s o.scopes o.opened (omega arith))
