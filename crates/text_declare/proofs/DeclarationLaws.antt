-- Declarations, entered.
use Prim.Native.Nat.{ℕ, zero, suc, ◌≤◌}
use native.Mathlib.Omega.{arith}
use mathlib.Core.Path.{◌≡◌, refl, sym, ap, ◌∙◌, subst}
use mathlib.Core.Bool.{Bool, true, false, ◌&&◌}
use mathlib.Core.List.{List, [], ◌∷◌, ◌++◌}
use borrow.Author.Tests.{eq-eqb, ne_eqb}
use lib.ListN.{length, length-append}
use lib.Seq.{slice}
use Rattle.text.specs.Tree.{Name, NonVoidType, plain, channel_type, end_type, Declaration, plainly, declared_in, declared_by}
use Rattle.text.specs.Translation.{type_code, truth_word}
use Rattle.text_parse.specs.Tokens.{Token, name_of}
use Rattle.text_parse.specs.Grammar.{first, non_void_type, starts_type, end_names, declarations, enough}
use Rattle.text_parse.specs.Equations.{more_names_from, variables_rule, declaration_from, declaration_rule, declarations_from, declarations_rule}
use Rattle.text_parse.proofs.Equations.{grammar}
use Rattle.text_tokens.specs.Places.{tokens_at}
use Rattle.text_tokens.proofs.KindTests.{is-withends}
use Rattle.text_types.specs.SaysCode.{next_kind, Expected, Says, On, starts_kind}
use Rattle.text_types.specs.FoundCode.{is_channel}
use Rattle.text_types.proofs.Answers.{says-bounds, passed_ok, ok-found, ok-missing}
use Rattle.text_types.specs.Every.{every-read}
use Rattle.text_types.proofs.Every.{every-leaves, every-choice, every-then, every_of}
use Rattle.text_types.proofs.TypeLaws.{not-both, starts-kind}
use Rattle.text_types.proofs.DeclarationLaws.{plain_code, channel-code, end-code, and_second, declared-append, declared-one}
use Rattle.text_declare.specs.Entered.{Tables, Fits, Entered, Entering, all-entered, too_many}
use Rattle.text_declare.specs.EnterCode.{NameStands, Enters, VariableEnters, NamesEnter, EndsEnter, VariablesEnter, DeclarationEnters, DeclarationsEnter}
use Rattle.text_declare.proofs.ReadingLaws.{AtLeast, not-before, onward-token, onward-later, enters-full, name-enters, says_then, enters-then, enters-read}
use Rattle.text_declare.proofs.NameLaws.{names-least}

module _ (text : List ℕ) (i s e code : ℕ) (σ τ : Tables) {ok : Bool} {at : ℕ} where
  -- a channel, and withends after its name
  pub variables-ends : {q : Bool} {place : ℕ} → is_channel code ≡ true → q ≡ true → Expected text i 6 q place
      → EndsEnter text place s e code σ ok at τ → VariablesEnter text i s e code σ ok at τ
  unfolding variables_rule
  variables-ends {q} {place} h o w ends =
      record {
        onward = onward-later text i place (onward-token text i 6 (λ g. omega arith) w) (λ p. not-both o p)
            (λ p. ends.onward);
        says = by-type;
      }
    where
      by-type : (t : NonVoidType) (y : Name) → y.spelling ≡ slice s e text → code ≡ type_code t → Fits σ
          → Enters text declared_in σ ok at τ (variables_rule t y (tokens_at text i))
      by-type (plain t) y spelt c fits = not-both h (ap is_channel c ∙ plain_code t)
      by-type (channel_type t) y spelt c fits =
          let pass = passed_ok text i 6 (λ g. omega arith) o w in
          rw (is-withends (first (tokens_at text i)) ∙ eq-eqb (next_kind text i) 6 (ok-found text i 6 o w))
          (subst (λ us. Enters text declared_in σ ok at τ (end_names t y us)) (sym pass.after)
          (ends.says t y spelt c fits))
      by-type (end_type t) y spelt c fits = not-both h (ap is_channel c ∙ end-code t)

  -- names alone
  module _ (υ : Tables) {n : Bool} (one : VariableEnters s e 0 code σ n υ) (stop : n ≡ false → ok ≡ false)
      (go : n ≡ true → NamesEnter text i code υ ok at τ) where
    names-first : (t : NonVoidType) (y : Name) → y.spelling ≡ slice s e text → code ≡ type_code t → Fits σ
        → Enters text declared_in σ ok at τ (more_names_from t (y ∷ []) (tokens_at text i))
    unfolding truth_word
    names-first t y spelt c fits = after (one text (plainly t y) spelt refl c fits)
      where
        after : Entering text (plainly t y ∷ []) σ n υ
            → Enters text declared_in σ ok at τ (more_names_from t (y ∷ []) (tokens_at text i))
        after (all-entered o h) = (go o).says t (y ∷ []) σ c h
        after (too_many o l) =
            enters-full text declared_in σ ok at τ 1 l (names-least t (y ∷ []) (tokens_at text i)) (stop o)

    pub variables-more : {q : Bool} {place : ℕ} → (is_channel code && q) ≡ false → Expected text i 6 q place
        → VariablesEnter text i s e code σ ok at τ
    unfolding variables_rule
    variables-more {q} {place} h w =
        record { onward = λ o. (go (not-before stop o)).onward o; says = by-type }
      where
        by-type : (t : NonVoidType) (y : Name) → y.spelling ≡ slice s e text → code ≡ type_code t → Fits σ
            → Enters text declared_in σ ok at τ (variables_rule t y (tokens_at text i))
        by-type (plain t) y spelt c fits = names-first (plain t) y spelt c fits
        by-type (channel_type t) y spelt c fits =
            let none = and_second (is_channel code) q (ap is_channel c ∙ channel-code t) h in
            rw (is-withends (first (tokens_at text i)) ∙ ne_eqb (next_kind text i) 6 (ok-missing text i 6 none w))
            (names-first (channel_type t) y spelt c fits)
        by-type (end_type t) y spelt c fits = names-first (end_type t) y spelt c fits

module _ (text : List ℕ) (i code : ℕ) (σ τ : Tables) {ok : Bool} {at : ℕ} where
  -- a type, a name and what comes after it
  pub declaration-enters : {q n : Bool} {place start middle : ℕ}
      → Says text (suc i) (λ t. code ≡ type_code t) q place (non_void_type (tokens_at text i))
      → On q place n middle (NameStands text place n start middle) → (n ≡ false → ok ≡ false)
      → (n ≡ true → VariablesEnter text middle start middle code σ ok at τ) → DeclarationEnters text i σ ok at τ
  unfolding declaration_rule
  declaration-enters {q} {n} {place} {start} {middle} typed named stop go =
      record {
        onward = onward-later text i place
            (λ o. says-bounds text (λ t. code ≡ type_code t) (suc i) (non_void_type (tokens_at text i)) o typed)
            (λ o. stop (named.off-ok o))
            (λ o. onward-later text place middle (onward-token text place 33 (λ g. omega arith)
            (named.on o).stands) stop
            (λ there. (go there).onward));
        says = λ fits.
            rw (grammar.declaration-is (tokens_at text i))
            (says_then text declared_in σ ok at τ (λ t. code ≡ type_code t) (suc i) (non_void_type
            (tokens_at text i)) _ typed
            (λ o. stop (named.off-ok o))
            (λ o t c. name-enters text declared_in σ ok at τ place _ (named.on o).stands stop
            (λ there. (go there).says t (name_of (first (tokens_at text place))) ((named.on o).spelt there) c fits)));
      }

declared-more : (ds : List Declaration) (d : Declaration)
    → declared_by (ds ++ (d ∷ [])) ≡ declared_by ds ++ declared_in d
declared-more ds d = declared-append ds (d ∷ []) ∙ ap (λ es. declared_by ds ++ es) (declared-one d)

-- a block has all declarations read so far
bounded-least : (n : ℕ) (ds : List Declaration) (ts : List Token)
    → AtLeast (length (declared_by ds)) declared_by (declarations n ds ts)
unfolding declarations
bounded-least zero ds ts = every-leaves (λ es. length (declared_by ds) ≤ length (declared_by es)) ts
bounded-least (suc n) ds ts =
    let Q : List Declaration → Type 0 = λ es. length (declared_by ds) ≤ length (declared_by es) in
    let all : Q ds = omega arith in
    every-choice Q (starts_type ts)
    (every-then Q _ _ (λ d us.
    let longer : Q (ds ++ (d ∷ [])) =
    let same = ap length (declared-more ds d) in
    let more = length-append (declared_by ds) (declared_in d) in omega arith in
    every_of Q (λ es. length (declared_by (ds ++ (d ∷ []))) ≤ length (declared_by es)) (λ es h. omega arith)
    (bounded-least n (ds ++ (d ∷ [])) us)))
    (every-read all)

declarations-least : (ds : List Declaration) (ts : List Token)
    → AtLeast (length (declared_by ds)) declared_by (declarations_from ds ts)
unfolding declarations_from
declarations-least ds ts = bounded-least (enough ts) ds ts

module _ (text : List ℕ) (i : ℕ) (σ : Tables) where
  pub declarations-end : starts_kind (next_kind text i) ≡ false → DeclarationsEnter text i σ true i σ
  unfolding declarations_rule
  declarations-end h w =
      record {
        onward = λ o. (omega arith, w);
        says = λ ds σ₀ e.
            rw (grammar.declarations-is ds (tokens_at text i), starts-kind text i ∙ h)
            (enters-read text declared_by σ₀ true i σ ds refl e);
      }

  pub declarations-on : (υ τ : Tables) {q ok : Bool} {place at : ℕ} → starts_kind (next_kind text i) ≡ true
      → DeclarationEnters text i σ q place υ → (q ≡ false → ok ≡ false)
      → (q ≡ true → DeclarationsEnter text place υ ok at τ) → DeclarationsEnter text i σ ok at τ
  unfolding declarations_rule
  declarations-on υ τ {q} {ok} {place} {at} h one stop go w =
      record {
        onward = λ o.
            let there = not-before stop o in
            let bounds = one.onward there in
            let on : suc i ≤ place = bounds.0 in
            let after = (go there bounds.1).onward o in
            let further : place ≤ at = after.0 in
            (omega arith, after.1);
        says = λ ds σ₀ e.
            rw (grammar.declarations-is ds (tokens_at text i), starts-kind text i ∙ h)
            (enters-then text declared_by σ₀ ok at τ declared_in (declared_by ds) σ υ (declaration_from
            (tokens_at text i)) _ e
            (one.says e.fits) stop
            (λ o d more. (go o (one.onward o).1).says (ds ++ (d ∷ [])) σ₀
            (subst (λ es. Entered text es σ₀ υ) (sym (declared-more ds d)) more))
            (λ d us. subst (λ es. AtLeast (length es) declared_by (declarations_from (ds ++ (d ∷ [])) us))
            (declared-more ds d) (declarations-least (ds ++ (d ∷ [])) us)));
      }
