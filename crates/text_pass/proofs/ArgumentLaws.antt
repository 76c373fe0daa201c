-- The arguments of a call by places.
use Prim.Native.Nat.{ℕ, suc, ◌≤◌, ◌<◌}
use native.Mathlib.Omega.{arith}
use mathlib.Core.Path.{◌≡◌, refl, sym, ap, ◌∙◌, subst}
use mathlib.Core.Logic.{◌⊎◌, ⊎_elim}
use mathlib.Core.Bool.{Bool, true, false, cond}
use mathlib.Core.List.{List}
use borrow.Author.Tests.{eq-eqb, ne_eqb}
use lib.ListN.{length}
use Rattle.lists.proofs.Tests.{decide, clash, passes}
use Rattle.text.specs.Tree.{Expr, Exprs, no_more, also}
use Rattle.text_parse.specs.Tokens.{Token}
use Rattle.text_parse.specs.Grammar.{Reading, read, and_then, first, rest, next?, expect, Scopes}
use Rattle.text_parse.specs.Equations.{expr_from, arguments_rule, method_params_from, method_params_rule}
use Rattle.text_parse.proofs.Equations.{grammar}
use Rattle.text_tokens.specs.Places.{tokens_at}
use Rattle.text_tokens.proofs.KindTests.{is-comma, is-close}
use Rattle.text_types.specs.SaysCode.{next_kind, Passed, Expected, Says, reads, On}
use Rattle.text_types.proofs.Answers.{off-here, on-there, says-lower, says-read, expect-says, then-says, passed_ok, ok-found, ok-missing, says-bounds}

module _ (scopes : Scopes) (text : List ℕ) where
  abbrev P : Exprs → Type 0
  P es = Unit {0}

  abbrev ExprSays : ℕ → Bool → ℕ → Type 0
  ExprSays i ok at = Says text (suc i) (λ (e : Expr). Unit {0}) ok at (expr_from scopes (tokens_at text i))

  abbrev pub ParamsSay : ℕ → Bool → ℕ → Type 0
  ParamsSay i ok at = Says text (suc i) P ok at (method_params_from scopes (tokens_at text i))

  -- what follows an argument
  abbrev more : Expr → List Token → Reading Exprs
  more e us =
      cond (next? "," us) (and_then (method_params_from scopes (rest us)) (λ es vs. read (also e es) vs))
      (expect ")" us (λ vs. read (also e no_more) vs))

  after-expr : (i : ℕ) {q ok : Bool} {place at : ℕ} → ExprSays i q place
      → On q place ok at (place ≤ length text → (e : Expr) → Unit {0} → Says text place P ok at
      (more e (tokens_at text place)))
      → ParamsSay i ok at
  unfolding method_params_rule
  after-expr i {q} {ok} {place} {at} s later =
      rw (grammar.method_params-is scopes (tokens_at text i))
      (then-says text P ok at (λ (e : Expr). Unit {0}) (suc i) (expr_from scopes (tokens_at text i)) more s later)

  -- the argument leaves the grammar
  pub params-left : (i : ℕ) {q : Bool} {place : ℕ} → q ≡ false → ExprSays i q place → ParamsSay i q place
  params-left i f s = after-expr i s (off-here f f refl)

  -- a comma, and more arguments
  pub params-on : (i : ℕ) {q c ok : Bool} {place next at : ℕ} → q ≡ true → ExprSays i q place → c ≡ true
      → Expected text place 25 c next → ParamsSay next ok at → ParamsSay i ok at
  params-on i {q} {c} {ok} {place} {next} {at} y s z comma h =
      let p : Passed text place next = passed_ok text place 25 (λ g. omega arith) z comma in
      let on : place < next = p.onward in
      after-expr i s
      (on-there y (λ w e u.
      rw (is-comma (first (tokens_at text place)) ∙ eq-eqb (next_kind text place) 25 (ok-found text place 25 z comma))
      (subst
      (λ us. Says text place P ok at (and_then (method_params_from scopes us) (λ es vs. read (also e es) vs)))
      (sym p.after)
      (says-lower text P ok at place (suc next) (omega arith)
      (then-says text P ok at P (suc next) (method_params_from scopes (tokens_at text next))
      (λ es vs. read (also e es) vs) h
      (record {
        on = λ o v es g. says-read text P ok at (also e es) tt v o;
        off-ok = λ o. o;
        off_at = λ o. refl;
      }))))))

  -- the closing bracket
  pub params-end : (i : ℕ) {q c ok : Bool} {place next at : ℕ} → q ≡ true → ExprSays i q place → c ≡ false
      → Expected text place 25 c next → Expected text place 20 ok at → ParamsSay i ok at
  params-end i {q} {c} {ok} {place} {next} {at} y s z comma close =
      after-expr i s
      (on-there y (λ w e u.
      rw (is-comma (first (tokens_at text place)) ∙ ne_eqb (next_kind text place) 25 (ok-missing text place 25 z comma))
      (says-lower text P ok at place (suc place) (omega arith)
      (expect-says text P ok at ")" place 20 (λ vs. read (also e no_more) vs) (λ g. omega arith) is-close close
      (record { on = λ o v. says-read text P ok at (also e no_more) tt v o; off-ok = λ o. o; off_at = λ o. refl })))))

  -- an argument and a comma are some tokens
  pub params-further : (i : ℕ) {q c : Bool} {place next : ℕ} → q ≡ true → ExprSays i q place → c ≡ true
      → Expected text place 25 c next → i < next
  params-further i {q} {c} {place} {next} y s z comma =
      let p : Passed text place next = passed_ok text place 25 (λ g. omega arith) z comma in
      let on : place < next = p.onward in
      let far : suc i ≤ place = (says-bounds text _ (suc i) _ y s).0 in omega arith

  -- no arguments, or some
  pub no_arguments : (i : ℕ) {ok : Bool} {at : ℕ} → ok ≡ true → Expected text i 20 ok at
      → Says text (suc i) P ok at (arguments_rule scopes (tokens_at text i))
  unfolding arguments_rule
  no_arguments i {ok} {at} y close =
      let p : Passed text i at = passed_ok text i 20 (λ g. omega arith) y close in
      rw (is-close (first (tokens_at text i)) ∙ eq-eqb (next_kind text i) 20 (ok-found text i 20 y close))
      (reads y p.after p.onward p.within tt)

  pub some-arguments : (i : ℕ) {c ok : Bool} {next at : ℕ} → c ≡ false → Expected text i 20 c next → ParamsSay i ok at
      → Says text (suc i) P ok at (arguments_rule scopes (tokens_at text i))
  unfolding arguments_rule
  some-arguments i {c} {ok} {next} {at} y close h =
      rw (is-close (first (tokens_at text i)) ∙ ne_eqb (next_kind text i) 20 (ok-missing text i 20 y close)) h

  -- after an argument that no comma follows
  pub params-close : (i : ℕ) {q c ok : Bool} {place next at : ℕ} → q ≡ true → ExprSays i q place
      → (c ≡ false) ⊎ (next ≤ i) → Expected text place 25 c next → Expected text place 20 ok at → ParamsSay i ok at
  params-close i {q} {c} {ok} {place} {next} {at} y s z comma close =
      ⊎_elim
      (λ e. let far : i < next = params-further i y s e comma in
      ⊎_elim (λ f. absurd (clash f (passes e))) (λ near. absurd (omega arith)) z)
      (λ e. params-end i y s e comma close) (decide c)
