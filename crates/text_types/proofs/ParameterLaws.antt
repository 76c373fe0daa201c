-- Parameters by places.
use Prim.Native.Nat.{ℕ, suc, ◌≤◌, ◌<◌}
use native.Mathlib.Omega.{arith}
use mathlib.Core.Path.{◌≡◌, refl, sym, ap, ◌∙◌, subst}
use mathlib.Core.Bool.{Bool, true, false}
use mathlib.Core.List.{List, [], ◌∷◌, ◌++◌, map}
use borrow.Author.Tests.{eq-eqb, ne_eqb}
use lib.ListN.{length}
use Rattle.text.specs.Tree.{plainly, Parameter, parameter_of}
use Rattle.text.specs.Translation.{type_code}
use Rattle.text_parse.specs.Tokens.{name_of}
use Rattle.text_parse.specs.Grammar.{read, first, non_void_type, parameter}
use Rattle.text_parse.specs.Equations.{more_parameters_from, more_parameters_rule, parameters_rule}
use Rattle.text_parse.proofs.Equations.{grammar}
use Rattle.text_tokens.specs.Places.{tokens_at}
use Rattle.text_tokens.proofs.KindTests.{is-comma, is-close}
use Rattle.text_types.specs.SaysCode.{next_kind, Expected, Says, reads, On}
use Rattle.text_types.specs.Found.{found_in, or_else}
use Rattle.text_types.specs.FoundCode.{NameSays, ParameterSays, after_parameter, RestSays, ParametersSay}
use Rattle.text_types.proofs.Answers.{on-here, on-later, says-lower, says-read, says-also, says-bounds, expect-says, name-says, then-says, passed-found, passed_ok, ok-found, ok-missing}
use Rattle.text_types.proofs.Finding.{or-none, or_assoc, found_none, found-one, found-parameter}

module _ (text x : List ℕ) where
  -- a type and a name
  pub parameter-says : (i : ℕ) {q ok : Bool} {place at code f : ℕ}
      → Says text (suc i) (λ t. code ≡ type_code t) q place (non_void_type (tokens_at text i))
      → On q place ok at (NameSays text x place ok at f) → ParameterSays text x i ok at f
  unfolding parameter
  parameter-says i {q} {ok} {place} {at} {code} {f} s named =
      let P : Parameter → Type 0 = λ p. found_in x (parameter_of p ∷ []) ≡ f in
      let y = name_of (first (tokens_at text place)) in
      then-says text P ok at (λ t. code ≡ type_code t) (suc i) (non_void_type (tokens_at text i)) _ s
      (on-later named (on-here {S = Unit {0}} tt) (λ name w t c.
      says-lower text P ok at place (suc place) (omega arith)
      (name-says text P ok at place _ name.stands
      (record {
        on = λ o w. says-read text P ok at (record { type = t; name = y })
            (found-one x (plainly t y) ∙ sym name.finds) w o;
        off-ok = λ o. o;
        off_at = λ o. refl;
      }))))

  -- a parameter and what comes after it
  more-says : (i : ℕ) {n ok : Bool} {middle at p : ℕ} (f : ℕ) → ParameterSays text x i n middle p
      → On n middle ok at (RestSays text x middle ok at f) → (ps : List Parameter)
      → Says text (suc i) (λ qs. found_in x (map parameter_of qs) ≡ or_else (found_in x (map parameter_of ps))
      (or_else p f)) ok at
      (more_parameters_from ps (tokens_at text i))
  unfolding more_parameters_rule after_parameter
  more-says i {n} {ok} {middle} {at} {p} f s later ps =
      let P : List Parameter → Type 0 =
      λ qs. found_in x (map parameter_of qs) ≡ or_else (found_in x (map parameter_of ps)) (or_else p f) in
      rw (grammar.more_parameters-is ps (tokens_at text i))
      (then-says text P ok at (λ a. found_in x (parameter_of a ∷ []) ≡ p) (suc i) (parameter (tokens_at text i)) _ s
      (record {
        on = λ o w a e. says-lower text P ok at middle (suc middle) (omega arith) (says-also text
            (λ qs. found_in x (map parameter_of qs) ≡ or_else (found_in x (map parameter_of (ps ++ (a ∷ [])))) f) P
            (suc middle)
            (λ qs k. k
            ∙ ap (λ (m : ℕ). or_else m f) (found-parameter x ps a ∙ ap (or_else (found_in x (map parameter_of ps))) e)
            ∙ or_assoc (found_in x (map parameter_of ps)) p f)
            (later.on o (ps ++ (a ∷ []))));
        off-ok = later.off-ok;
        off_at = later.off_at;
      }))

  -- the parameters end with a bracket
  pub rest_end : (i : ℕ) {ok : Bool} {at : ℕ} → (next_kind text i ≡ 25 → ⊥) → Expected text i 20 ok at
      → RestSays text x i ok at 0
  unfolding after_parameter
  rest_end i {ok} {at} f e ps =
      let P : List Parameter → Type 0 =
      λ qs. found_in x (map parameter_of qs) ≡ or_else (found_in x (map parameter_of ps)) 0 in
      rw (is-comma (first (tokens_at text i)) ∙ ne_eqb (next_kind text i) 25 f)
      (expect-says text P ok at ")" i 20 (λ us. read ps us) (λ g. omega arith) is-close e
      (record {
        on = λ o w. says-read text P ok at ps (sym (or-none (found_in x (map parameter_of ps)))) w o;
        off-ok = λ o. o;
        off_at = λ o. refl;
      }))

  -- a comma and a parameter
  pub rest-on : (i : ℕ) {q n ok : Bool} {place middle at p : ℕ} (f : ℕ) → next_kind text i ≡ 25
      → Expected text i 25 q place → ParameterSays text x place n middle p
      → On n middle ok at (RestSays text x middle ok at f) → RestSays text x i ok at (or_else p f)
  unfolding after_parameter
  rest-on i {q} {n} {ok} {place} {middle} {at} {p} f k e s later ps =
      let P : List Parameter → Type 0 =
      λ qs. found_in x (map parameter_of qs) ≡ or_else (found_in x (map parameter_of ps)) (or_else p f) in
      let pass = passed-found text i 25 (λ g. omega arith) k e in
      let on : i < place = pass.onward in
      rw (is-comma (first (tokens_at text i)) ∙ eq-eqb (next_kind text i) 25 k)
      (subst (λ us. Says text (suc i) P ok at (more_parameters_from ps us)) (sym pass.after)
      (says-lower text P ok at (suc i) (suc place) (omega arith) (more-says place f s later ps)))

  pub rest-further : (i : ℕ) {q n : Bool} {place middle p : ℕ} → next_kind text i ≡ 25 → Expected text i 25 q place
      → ParameterSays text x place n middle p → n ≡ true → (i < middle) × (i < length text)
  rest-further i {q} {n} {place} {middle} {p} k e s o =
      let comma = passed-found text i 25 (λ g. omega arith) k e in
      let on : i < place = comma.onward in
      let bounds = says-bounds text (λ a. found_in x (parameter_of a ∷ []) ≡ p) (suc place)
      (parameter (tokens_at text place)) o s in
      let further : suc place ≤ middle = bounds.0 in
      (omega arith, comma.begun)

  -- no parameter, or some
  pub parameters-none : (i : ℕ) {q : Bool} {at : ℕ} → q ≡ true → Expected text i 20 q at
      → ParametersSay text x i true at 0
  unfolding parameters_rule
  parameters-none i o e =
      let pass = passed_ok text i 20 (λ g. omega arith) o e in
      rw (is-close (first (tokens_at text i)) ∙ eq-eqb (next_kind text i) 20 (ok-found text i 20 o e))
      (reads refl pass.after pass.onward pass.within (found_none x))

  pub parameters-some : (i : ℕ) {q n ok : Bool} {place middle at p : ℕ} (f : ℕ) → q ≡ false → Expected text i 20 q place
      → ParameterSays text x i n middle p → On n middle ok at (RestSays text x middle ok at f)
      → ParametersSay text x i ok at (or_else p f)
  unfolding parameters_rule
  parameters-some i {q} {n} {ok} {place} {middle} {at} {p} f o e s later =
      rw (is-close (first (tokens_at text i)) ∙ ne_eqb (next_kind text i) 20 (ok-missing text i 20 o e))
      (says-also text
      (λ qs. found_in x (map parameter_of qs) ≡ or_else (found_in x []) (or_else p f))
      (λ qs. found_in x (map parameter_of qs) ≡ or_else p f) (suc i)
      (λ qs k. k ∙ ap (λ (m : ℕ). or_else m (or_else p f)) (found_none x))
      (more-says i f s later []))
