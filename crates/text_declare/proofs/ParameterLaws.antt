-- Parameters, entered.
use Prim.Native.Nat.{ℕ, zero, suc, ◌≤◌}
use native.Mathlib.Omega.{arith}
use mathlib.Core.Path.{◌≡◌, refl, sym, ap, ◌∙◌, subst}
use mathlib.Core.Bool.{Bool, true, false}
use mathlib.Core.List.{List, [], ◌∷◌, ◌++◌, map}
use borrow.Author.Tests.{eq-eqb, ne_eqb}
use lib.ListN.{length, length-append}
use Rattle.text.specs.Tree.{Name, NonVoidType, plainly, Parameter, parameter_of}
use Rattle.text.specs.Translation.{type_code}
use Rattle.text_parse.specs.Tokens.{Token}
use Rattle.text_parse.specs.Grammar.{Reading, read, leaves, and_then, first, rest, next?, non_void_type, parameter, more_parameters, enough}
use Rattle.text_parse.specs.Equations.{more_parameters_from, more_parameters_rule, parameters_rule}
use Rattle.text_parse.proofs.Equations.{grammar}
use Rattle.text_tokens.specs.Places.{tokens_at}
use Rattle.text_tokens.proofs.KindTests.{is-comma, is-close}
use Rattle.text_types.specs.SaysCode.{next_kind, Expected, Says}
use Rattle.text_types.specs.FoundCode.{after_parameter}
use Rattle.text_types.proofs.Answers.{says-bounds, passed-found, passed_ok, found_ok, ok-found, ok-missing}
use Rattle.text_types.specs.Every.{Every, every-read}
use Rattle.text_types.proofs.Every.{every-leaves, every-choice, every-expect, every-then, every_of}
use Rattle.text_types.proofs.Finding.{map-append}
use Rattle.text_types.proofs.TypeLaws.{not-both}
use Rattle.text_declare.specs.Entered.{Tables, Entered}
use Rattle.text_declare.specs.EnterCode.{Enters, enters, left, a_name, NameEnters, ParameterEnters, RestEnters, ParametersEnter}
use Rattle.text_declare.proofs.EnteredLaws.{entered-none}
use Rattle.text_declare.proofs.ReadingLaws.{AtLeast, name-then, onward-token, onward-later, expect-enters, says_then, enters-then, enters-read}

-- the parameters read so far, and one more
parameters-more : (ps : List Parameter) (p : Parameter)
    → map parameter_of (ps ++ (p ∷ [])) ≡ map parameter_of ps ++ (parameter_of p ∷ [])
parameters-more ps p = map-append parameter_of ps (p ∷ [])

one-longer : (ps : List Parameter) (p : Parameter)
    → length (map parameter_of ps) ≤ length (map parameter_of (ps ++ (p ∷ [])))
one-longer ps p =
    let same = ap length (parameters-more ps p) in
    let more = length-append (map parameter_of ps) (parameter_of p ∷ []) in omega arith

-- a list of parameters has all that are read so far
abbrev Longer : List Parameter → List Parameter → Type 0
Longer ps qs = length (map parameter_of ps) ≤ length (map parameter_of qs)

longer-self : (ps : List Parameter) → Longer ps ps
longer-self ps = omega arith

bounded-least : (n : ℕ) (ps : List Parameter) (ts : List Token) → Every (Longer ps) (more_parameters n ps ts)
unfolding more_parameters
bounded-least zero ps ts = every-leaves (Longer ps) ts
bounded-least (suc n) ps ts =
    every-then (Longer ps) (parameter ts) _ (λ p us.
    let qs = ps ++ (p ∷ []) in
    let longer = one-longer ps p in
    every_of (Longer ps) (Longer qs) (λ rs h. omega arith)
    (every-choice (Longer qs) (next? "," us) (bounded-least n qs (rest us))
    (every-expect (Longer qs) ")" us _ (λ vs. every-read (longer-self qs)))))

after-least : (ps : List Parameter) (ts : List Token) → Every (Longer ps) (after_parameter ps ts)
unfolding after_parameter more_parameters_from
after-least ps ts =
    every-choice (Longer ps) (next? "," ts) (bounded-least (enough (rest ts)) ps (rest ts))
    (every-expect (Longer ps) ")" ts _ (λ us. every-read (longer-self ps)))

-- a name that is that of a parameter
named-parameter : (text : List ℕ) (t : NonVoidType) (σ τ : Tables) {ok : Bool} {at : ℕ} (m : Reading Name)
    → Enters text (λ x. plainly t x ∷ []) σ ok at τ m
    → Enters text (λ p. parameter_of p ∷ []) σ ok at τ
    (and_then m (λ x us. read (record { type = t; name = x }) us))
unfolding and_then
named-parameter text t σ τ (read x us) (enters u h) = enters u h
named-parameter text t σ τ (leaves i) (left o) = left o

module _ (text : List ℕ) where
  -- a type and a name
  pub parameter-enters : (i code : ℕ) (σ τ : Tables) {q ok : Bool} {place at : ℕ}
      → Says text (suc i) (λ t. code ≡ type_code t) q place (non_void_type (tokens_at text i))
      → (q ≡ false → ok ≡ false) → (q ≡ true → NameEnters text place code σ ok at τ) → ParameterEnters text i σ ok at τ
  unfolding parameter
  parameter-enters i code σ τ {q} {ok} {place} {at} typed stop named =
      record {
        onward = onward-later text i place
            (λ o. says-bounds text (λ t. code ≡ type_code t) (suc i) (non_void_type (tokens_at text i)) o typed)
            stop (λ o. (named o).onward);
        says = λ fits.
            says_then text (λ p. parameter_of p ∷ []) σ ok at τ (λ t. code ≡ type_code t) (suc i)
            (non_void_type (tokens_at text i)) _ typed stop
            (λ o t c. subst (Enters text (λ p. parameter_of p ∷ []) σ ok at τ)
            (sym (name-then (tokens_at text place) (λ x vs. read (record { type = t; name = x }) vs)))
            (named-parameter text t σ τ (a_name (tokens_at text place)) ((named o).says t c fits)));
      }

  -- a parameter and what comes after it
  more-enters : (i : ℕ) (σ υ τ : Tables) {n ok : Bool} {middle at : ℕ} → ParameterEnters text i σ n middle υ
      → (n ≡ false → ok ≡ false) → (n ≡ true → RestEnters text middle υ ok at τ) → (ps : List Parameter) (σ₀ : Tables)
      → Entered text (map parameter_of ps) σ₀ σ
      → Enters text (map parameter_of) σ₀ ok at τ (more_parameters_from ps (tokens_at text i))
  unfolding more_parameters_rule after_parameter
  more-enters i σ υ τ {n} {ok} {middle} {at} one stop go ps σ₀ e =
      rw (grammar.more_parameters-is ps (tokens_at text i))
      (enters-then text (map parameter_of) σ₀ ok at τ (λ p. parameter_of p ∷ []) (map parameter_of ps) σ υ
      (parameter (tokens_at text i)) (λ p us. after_parameter (ps ++ (p ∷ [])) us) e (one.says e.fits) stop
      (λ o p more. (go o).says (ps ++ (p ∷ [])) σ₀
      (subst (λ ds. Entered text ds σ₀ υ) (sym (parameters-more ps p)) more))
      (λ p us. subst (λ ds. AtLeast (length ds) (map parameter_of) (after_parameter (ps ++ (p ∷ [])) us))
      (parameters-more ps p) (after-least (ps ++ (p ∷ [])) us)))

  -- the parameters end with a bracket
  pub rest_end : (i : ℕ) (σ : Tables) {ok : Bool} {at : ℕ} → (next_kind text i ≡ 25 → ⊥) → Expected text i 20 ok at
      → RestEnters text i σ ok at σ
  unfolding after_parameter
  rest_end i σ {ok} {at} f e =
      record {
        onward = onward-token text i 20 (λ g. omega arith) e;
        says = λ ps σ₀ h.
            rw (is-comma (first (tokens_at text i)) ∙ ne_eqb (next_kind text i) 25 f)
            (expect-enters text (map parameter_of) σ₀ ok at σ ")" i 20 (λ us. read ps us) (λ g. omega arith) is-close e
            (λ o. o) (λ o. enters-read text (map parameter_of) σ₀ ok at σ ps o h));
      }

  pub rest-left : (i : ℕ) (σ τ : Tables) {ok : Bool} {at place : ℕ} → (next_kind text i ≡ 25 → ⊥)
      → Expected text i 20 false place → ok ≡ false → RestEnters text i σ ok at τ
  unfolding after_parameter
  rest-left i σ τ {ok} {at} f e none =
      record {
        onward = λ o. not-both o none;
        says = λ ps σ₀ h.
            rw (is-comma (first (tokens_at text i)) ∙ ne_eqb (next_kind text i) 25 f)
            (expect-enters text (map parameter_of) σ₀ ok at τ ")" i 20 (λ us. read ps us) (λ g. omega arith) is-close e
            (λ o. none) (λ o. not-both o refl));
      }

  -- a comma and a parameter
  pub rest-on : (i : ℕ) (σ υ τ : Tables) {q n ok : Bool} {place middle at : ℕ} → next_kind text i ≡ 25
      → Expected text i 25 q place → ParameterEnters text place σ n middle υ → (n ≡ false → ok ≡ false)
      → (n ≡ true → RestEnters text middle υ ok at τ) → RestEnters text i σ ok at τ
  unfolding after_parameter
  rest-on i σ υ τ {q} {n} {ok} {place} {middle} {at} k e one stop go =
      let pass = passed-found text i 25 (λ g. omega arith) k e in
      let stands = found_ok text i 25 k e in
      record {
        onward = onward-later text i place (onward-token text i 25 (λ g. omega arith) e) (λ g. not-both stands g)
            (λ there. onward-later text place middle one.onward stop (λ o. (go o).onward));
        says = λ ps σ₀ h.
            rw (is-comma (first (tokens_at text i)) ∙ eq-eqb (next_kind text i) 25 k)
            (subst (λ us. Enters text (map parameter_of) σ₀ ok at τ (more_parameters_from ps us)) (sym pass.after)
            (more-enters place σ υ τ one stop go ps σ₀ h));
      }

  -- no parameter, or some
  pub parameters-none : (i : ℕ) (σ : Tables) {q : Bool} {at : ℕ} → q ≡ true → Expected text i 20 q at
      → ParametersEnter text i σ true at σ
  unfolding parameters_rule
  parameters-none i σ {q} {at} o e =
      let pass = passed_ok text i 20 (λ g. omega arith) o e in
      record {
        onward = λ p. (pass.onward, pass.within);
        says = λ fits.
            rw (is-close (first (tokens_at text i)) ∙ eq-eqb (next_kind text i) 20 (ok-found text i 20 o e))
            (subst (λ us. Enters text (map parameter_of) σ true at σ (read [] us)) (sym pass.after)
            (enters-read text (map parameter_of) σ true at σ [] refl (entered-none text σ fits)));
      }

  pub parameters-some : (i : ℕ) (σ υ τ : Tables) {q n ok : Bool} {place middle at : ℕ} → q ≡ false
      → Expected text i 20 q place → ParameterEnters text i σ n middle υ → (n ≡ false → ok ≡ false)
      → (n ≡ true → RestEnters text middle υ ok at τ) → ParametersEnter text i σ ok at τ
  unfolding parameters_rule
  parameters-some i σ υ τ {q} {n} {ok} {place} {middle} {at} f e one stop go =
      record {
        onward = onward-later text i middle one.onward stop (λ o. (go o).onward);
        says = λ fits.
            rw (is-close (first (tokens_at text i)) ∙ ne_eqb (next_kind text i) 20 (ok-missing text i 20 f e))
            (more-enters i σ υ τ one stop go [] σ (entered-none text σ fits));
      }
