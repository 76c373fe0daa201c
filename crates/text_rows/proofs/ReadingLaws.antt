-- The types of parameters and a method's header, by places.
use Prim.Native.Nat.{ℕ, zero, suc, ◌+◌, ◌≤◌, ◌<◌}
use native.Mathlib.Omega.{arith}
use mathlib.Core.Path.{◌≡◌, refl, sym, ap, ◌∙◌, subst}
use mathlib.Core.Bool.{Bool, true, false, cond}
use mathlib.Core.List.{List, [], ◌∷◌, ◌++◌, map}
use mathlib.Core.Option.{Option}
use borrow.Author.Tests.{eq-eqb, ne_eqb}
use lib.ListN.{length, take, replicate}
use Rattle.text.specs.Tree.{Parameter, parameter_of, Method}
use Rattle.text.specs.Translation.{type_code, return_code, code_of_type}
use Rattle.text_parse.specs.Tokens.{Token, name_of}
use Rattle.text_parse.specs.Grammar.{read, first, non_void_type, return_type, parameter}
use Rattle.text_parse.specs.Equations.{more_parameters_from, more_parameters_rule, parameters_rule, method_from, method_body_rule, method_rule}
use Rattle.text_parse.proofs.Equations.{grammar}
use Rattle.text_tokens.specs.Places.{tokens_at}
use Rattle.text_tokens.proofs.KindTests.{is-comma, is_open, is-close}
use Rattle.text_types.specs.SaysCode.{next_kind, Passed, Expected, Says, On}
use Rattle.text_types.specs.FoundCode.{after_parameter}
use Rattle.text_types.specs.Every.{Every, every-read}
use Rattle.text_types.proofs.Answers.{on-here, on-later, says-lower, says-read, name-says, then-says, says-bounds, passed-found, ok-found, ok-missing}
use Rattle.text_types.proofs.Every.{every-expect, every-then, every-on, expect-every, name-every, says-every}
use Rattle.text_rows.specs.Header.{as_word, header_words}
use Rattle.text_rows.specs.NotedCode.{noted, noted_all, ParameterType, RestNotes, ParametersNote}
use Rattle.text_rows.proofs.NotedLaws.{noted-append, noted-header}

module _ (text : List ℕ) where
  -- a type and a name
  pub parameter-type : (i code : ℕ) {q ok : Bool} {place at : ℕ}
      → Says text (suc i) (λ t. code ≡ type_code t) q place (non_void_type (tokens_at text i))
      → On q place ok at (Expected text place 33 ok at) → ParameterType text i ok at code
  unfolding parameter
  parameter-type i code {q} {ok} {place} {at} s named =
      let P : Parameter → Type 0 = λ p. code ≡ type_code p.type in
      let y = name_of (first (tokens_at text place)) in
      then-says text P ok at (λ t. code ≡ type_code t) (suc i) (non_void_type (tokens_at text i)) _ s
      (on-later named (on-here {S = Unit {0}} tt) (λ name w t c.
      says-lower text P ok at place (suc place) (omega arith)
      (name-says text P ok at place _ name
      (record {
        on = λ o w. says-read text P ok at (record { type = t; name = y }) c w o;
        off-ok = λ o. o;
        off_at = λ o. refl;
      }))))

  -- a parameter and what comes after it
  more-noted : (i code : ℕ) (before middle after : List ℕ) {ok : Bool} {at : ℕ} → ParameterType text i ok at code
      → (ok ≡ true → middle ≡ noted code before) → (ok ≡ true → RestNotes text at middle after)
      → (ps : List Parameter) (base : List ℕ) → before ≡ noted_all ps base
      → Every (λ qs. after ≡ noted_all qs base) (more_parameters_from ps (tokens_at text i))
  unfolding more_parameters_rule after_parameter
  more-noted i code before middle after s one go ps base e =
      rw (grammar.more_parameters-is ps (tokens_at text i))
      (says-every text (λ qs. after ≡ noted_all qs base) (λ p. code ≡ type_code p.type) (suc i)
      (parameter (tokens_at text i)) (λ p us. after_parameter (ps ++ (p ∷ [])) us) s
      (λ o p c. go o (ps ++ (p ∷ [])) base
      (one o ∙ ap (noted code) e ∙ ap (λ (k : ℕ). noted k (noted_all ps base)) c ∙ sym (noted-append ps p base))))

  -- no parameter more
  pub rest-none : (i : ℕ) (row : List ℕ) → (next_kind text i ≡ 25 → ⊥) → RestNotes text i row row
  unfolding after_parameter
  rest-none i row f ps base e =
      rw (is-comma (first (tokens_at text i)) ∙ ne_eqb (next_kind text i) 25 f)
      (every-expect (λ qs. row ≡ noted_all qs base) ")" (tokens_at text i) _ (λ us. every-read e))

  -- a comma and a parameter
  pub rest_more : (i code : ℕ) (before middle after : List ℕ) {q ok : Bool} {place at : ℕ} → next_kind text i ≡ 25
      → Expected text i 25 q place → ParameterType text place ok at code → (ok ≡ true → middle ≡ noted code before)
      → (ok ≡ true → RestNotes text at middle after) → RestNotes text i before after
  unfolding after_parameter
  rest_more i code before middle after {q} {ok} {place} {at} k e s one go ps base h =
      let pass = passed-found text i 25 (λ g. omega arith) k e in
      rw (is-comma (first (tokens_at text i)) ∙ eq-eqb (next_kind text i) 25 k)
      (subst (λ us. Every (λ qs. after ≡ noted_all qs base) (more_parameters_from ps us)) (sym pass.after)
      (more-noted place code before middle after s one go ps base h))

  -- none, or some
  pub none-noted : (i : ℕ) (row : List ℕ) {q : Bool} {at : ℕ} → q ≡ true → Expected text i 20 q at
      → ParametersNote text i row row
  unfolding parameters_rule noted_all
  none-noted i row o e =
      rw (is-close (first (tokens_at text i)) ∙ eq-eqb (next_kind text i) 20 (ok-found text i 20 o e)) (every-read refl)

  pub some-noted : (i code : ℕ) (before middle after : List ℕ) {q ok : Bool} {place at : ℕ} → q ≡ false
      → Expected text i 20 q place → ParameterType text i ok at code → (ok ≡ true → middle ≡ noted code before)
      → (ok ≡ true → RestNotes text at middle after) → ParametersNote text i before after
  unfolding parameters_rule noted_all
  some-noted i code before middle after f e s one go =
      rw (is-close (first (tokens_at text i)) ∙ ne_eqb (next_kind text i) 20 (ok-missing text i 20 f e))
      (more-noted i code before middle after s one go [] before refl)

  -- a header: its type, its name and its parameters
  pub header-noted : (i code : ℕ) (row : List ℕ) {q1 q2 q3 : Bool} {p1 p2 p3 : ℕ}
      → Says text (suc i) (λ t. code ≡ return_code t) q1 p1 (return_type (tokens_at text i))
      → On q1 p1 q2 p2 (Expected text p1 33 q2 p2) → On q2 p2 q3 p3 (Expected text p2 19 q3 p3)
      → (q3 ≡ true → ParametersNote text p3 (code ∷ 0 ∷ replicate 16 0) row)
      → Every (λ m. row ≡ header_words m) (method_from (tokens_at text i))
  unfolding method_rule method_body_rule header_words
  header-noted i code row {q1} {q2} {q3} {p1} {p2} {p3} s named opened noted-row =
      let Q : Method → Type 0 = λ m. row ≡ header_words m in
      rw (grammar.method-is (tokens_at text i))
      (says-every text Q (λ t. code ≡ return_code t) (suc i) (return_type (tokens_at text i)) _ s
      (λ o1 t c. name-every text Q p1 _ (named.on o1)
      (λ o2. expect-every text Q "(" p2 19 _ (λ g. omega arith) is_open (opened.on o2)
      (λ o3. every-on Q (λ ps. row ≡ noted_all ps (code ∷ 0 ∷ replicate 16 0)) (parameters_rule (tokens_at text p3)) _
      (noted-row o3) (λ ps us e.
      every-expect Q "{" us _ (λ vs. every-then Q _ _ (λ ds ws. every-then Q _ _ (λ ss xs.
      every-read (e ∙ noted-header ps code
      ∙ ap (λ (k : ℕ). k ∷ as_word (length ps) ∷ take 16 (map code_of_type (map parameter_of ps) ++ replicate 16 0))
      c)))))))))
