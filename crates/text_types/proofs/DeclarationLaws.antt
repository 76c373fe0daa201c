-- Declarations by places.
use Prim.Native.Nat.{ℕ, suc, ◌<◌}
use native.Mathlib.Omega.{arith}
use mathlib.Core.Path.{◌≡◌, refl, sym, ap, ◌∙◌, subst}
use mathlib.Core.Bool.{Bool, true, false, cond, ◌&&◌}
use mathlib.Core.List.{List, [], ◌∷◌, ◌++◌, append-nil, append_assoc}
use borrow.Author.Tests.{eq-eqb, ne_eqb}
use lib.Dec.{eqb}
use Rattle.lists.specs.Lists.{same}
use Rattle.text.specs.Tree.{Name, Carried, int_type, boolean_type, qbit_type, NonVoidType, plain, channel_type, end_type, Declaration, plainly, declared_in, declared_by}
use Rattle.text.specs.Translation.{carried_code, type_code}
use Rattle.text_parse.specs.Tokens.{name_of}
use Rattle.text_parse.specs.Grammar.{first, non_void_type, end_names}
use Rattle.text_parse.specs.Equations.{more_names_from, variables_rule, declaration_from, declaration_rule, declarations_rule}
use Rattle.text_parse.proofs.Equations.{grammar}
use Rattle.text_tokens.specs.Places.{tokens_at}
use Rattle.text_tokens.proofs.KindTests.{is-withends}
use Rattle.text_types.specs.SaysCode.{next_kind, Expected, Says, reads, On, starts_kind}
use Rattle.text_types.specs.Found.{found_in, or_else}
use Rattle.text_types.specs.FoundCode.{matching, NameSays, NamesSay, EndsSay, is_channel, VariablesSay, DeclarationSays, DeclarationsSay}
use Rattle.text_types.proofs.Answers.{on-later, says-lower, says-also, name-says, then-says, passed_ok, ok-found, ok-missing}
use Rattle.text_types.proofs.TypeLaws.{not-both, starts-kind}
use Rattle.text_types.proofs.Finding.{or-none, or_assoc, found-one, found-append}

-- which codes are those of channels
pub plain_code : (t : Carried) → is_channel (type_code (plain t)) ≡ false
unfolding type_code carried_code
plain_code int_type = refl
plain_code boolean_type = refl
plain_code qbit_type = refl

pub channel-code : (t : Carried) → is_channel (type_code (channel_type t)) ≡ true
unfolding type_code carried_code
channel-code int_type = refl
channel-code boolean_type = refl
channel-code qbit_type = refl

pub end-code : (t : Carried) → is_channel (type_code (end_type t)) ≡ false
unfolding type_code carried_code
end-code int_type = refl
end-code boolean_type = refl
end-code qbit_type = refl

marked : (b : Bool) → ◌≡◌ {A = ℕ} (cond (eqb (cond b 1 0) 0) 0 2) (cond b 2 0)
marked true = refl
marked false = refl

pub and_second : (a b : Bool) → a ≡ true → (a && b) ≡ false → b ≡ false
and_second a b e f = sym (rw e refl) ∙ f

pub not-first : (a b : Bool) → a ≡ false → (a && b) ≡ false
not-first a b e = rw e refl

pub not-second : (a b : Bool) → b ≡ false → (a && b) ≡ false
not-second true b e = e
not-second false b e = refl

module _ (text x : List ℕ) where
  -- a channel, and withends after its name
  pub variables-ends : (i code before f : ℕ) {q ok : Bool} {place at : ℕ} → is_channel code ≡ true → q ≡ true
      → Expected text i 6 q place → EndsSay text x place ok at f
      → VariablesSay text x i code before ok at (or_else (cond (eqb before 0) 0 2) f)
  unfolding variables_rule
  variables-ends i code before f h o e s (plain t) y c b = not-both h (ap is_channel c ∙ plain_code t)
  variables-ends i code before f {q} {ok} {place} {at} h o e s (channel_type t) y c b =
      let pass = passed_ok text i 6 (λ g. omega arith) o e in
      let on : i < place = pass.onward in
      let P : Declaration → Type 0 = λ d. found_in x (declared_in d) ≡ or_else (cond (eqb before 0) 0 2) f in
      let two : ◌≡◌ {A = ℕ} (cond (same x y.spelling) 2 0) (cond (eqb before 0) 0 2) =
      sym (marked (same x y.spelling)) ∙ ap (λ (m : ℕ). cond (eqb m 0) 0 2) (sym b) in
      rw (is-withends (first (tokens_at text i)) ∙ eq-eqb (next_kind text i) 6 (ok-found text i 6 o e))
      (subst (λ us. Says text (suc i) P ok at (end_names t y us)) (sym pass.after)
      (says-lower text P ok at (suc i) (suc place) (omega arith)
      (says-also text (λ d. found_in x (declared_in d) ≡ or_else (cond (same x y.spelling) 2 0) f) P (suc place)
      (λ d g. g ∙ ap (λ (m : ℕ). or_else m f) two) (s t y))))
  variables-ends i code before f h o e s (end_type t) y c b = not-both h (ap is_channel c ∙ end-code t)

  -- names alone
  names-first : (i before f : ℕ) {ok : Bool} {at : ℕ} → NamesSay text x i ok at f → (t : NonVoidType) (y : Name)
      → before ≡ matching x y.spelling
      → Says text (suc i) (λ d. found_in x (declared_in d) ≡ or_else before f) ok at
      (more_names_from t (y ∷ []) (tokens_at text i))
  names-first i before f {ok} {at} s t y b =
      says-also text (λ d. found_in x (declared_in d) ≡ or_else (found_in x (plainly t y ∷ [])) f)
      (λ d. found_in x (declared_in d) ≡ or_else before f) (suc i)
      (λ d g. g ∙ ap (λ (m : ℕ). or_else m f) (found-one x (plainly t y) ∙ sym b)) (s t (y ∷ []))

  pub variables-more : (i code before f : ℕ) {q ok : Bool} {place at : ℕ} → (is_channel code && q) ≡ false
      → Expected text i 6 q place → NamesSay text x i ok at f
      → VariablesSay text x i code before ok at (or_else before f)
  unfolding variables_rule
  variables-more i code before f h e s (plain t) y c b = names-first i before f s (plain t) y b
  variables-more i code before f {q} h e s (channel_type t) y c b =
      let left = and_second (is_channel code) q (ap is_channel c ∙ channel-code t) h in
      rw (is-withends (first (tokens_at text i)) ∙ ne_eqb (next_kind text i) 6 (ok-missing text i 6 left e))
      (names-first i before f s (channel_type t) y b)
  variables-more i code before f h e s (end_type t) y c b = names-first i before f s (end_type t) y b

  -- a type, a name and what comes after it
  pub declaration-says : (i : ℕ) {q n ok : Bool} {place middle at code before f : ℕ}
      → Says text (suc i) (λ t. code ≡ type_code t) q place (non_void_type (tokens_at text i))
      → On q place n middle (NameSays text x place n middle before)
      → On n middle ok at (VariablesSay text x middle code before ok at f) → DeclarationSays text x i ok at f
  unfolding declaration_rule
  declaration-says i {q} {n} {ok} {place} {middle} {at} {code} {before} {f} s named later =
      let P : Declaration → Type 0 = λ d. found_in x (declared_in d) ≡ f in
      let y = name_of (first (tokens_at text place)) in
      rw (grammar.declaration-is (tokens_at text i))
      (then-says text P ok at (λ t. code ≡ type_code t) (suc i) (non_void_type (tokens_at text i)) _ s
      (on-later named later (λ name w t c.
      says-lower text P ok at place (suc place) (omega arith)
      (name-says text P ok at place _ name.stands
      (record {
        on = λ o w. says-lower text P ok at middle (suc middle) (omega arith) (later.on o t y c name.finds);
        off-ok = later.off-ok;
        off_at = later.off_at;
      })))))

pub declared-append : (ds es : List Declaration) → declared_by (ds ++ es) ≡ declared_by ds ++ declared_by es
unfolding declared_by
declared-append [] es = refl
declared-append (d ∷ ds) es =
    ap (λ us. declared_in d ++ us) (declared-append ds es) ∙ sym
    (append_assoc (declared_in d) (declared_by ds) (declared_by es))

pub declared-one : (d : Declaration) → declared_by (d ∷ []) ≡ declared_in d
unfolding declared_by
declared-one d = append-nil (declared_in d)

found-declaration : (x : List ℕ) (ds : List Declaration) (d : Declaration)
    → found_in x (declared_by (ds ++ (d ∷ []))) ≡ or_else (found_in x (declared_by ds)) (found_in x (declared_in d))
found-declaration x ds d =
    ap (found_in x) (declared-append ds (d ∷ [])) ∙ found-append x (declared_by ds) (declared_by (d ∷ []))
    ∙ ap (λ us. or_else (found_in x (declared_by ds)) (found_in x us)) (declared-one d)

module _ (text x : List ℕ) where
  pub declarations-end : (i : ℕ) → starts_kind (next_kind text i) ≡ false → DeclarationsSay text x i true i 0
  unfolding declarations_rule
  declarations-end i h w ds =
      rw (grammar.declarations-is ds (tokens_at text i), starts-kind text i ∙ h)
      (reads refl refl (omega arith) w (sym (or-none (found_in x (declared_by ds)))))

  pub declarations-on : (i : ℕ) {q ok : Bool} {place at f : ℕ} (g : ℕ) → starts_kind (next_kind text i) ≡ true
      → DeclarationSays text x i q place f → On q place ok at (DeclarationsSay text x place ok at g)
      → DeclarationsSay text x i ok at (or_else f g)
  unfolding declarations_rule
  declarations-on i {q} {ok} {place} {at} {f} g h s later w ds =
      let P : List Declaration → Type 0 =
      λ es. found_in x (declared_by es) ≡ or_else (found_in x (declared_by ds)) (or_else f g) in
      rw (grammar.declarations-is ds (tokens_at text i), starts-kind text i ∙ h)
      (says-lower text P ok at i (suc i) (omega arith)
      (then-says text P ok at (λ d. found_in x (declared_in d) ≡ f) (suc i) (declaration_from (tokens_at text i)) _ s
      (record {
        on = λ o w d e. says-also text
            (λ es. found_in x (declared_by es) ≡ or_else (found_in x (declared_by (ds ++ (d ∷ [])))) g) P place
            (λ es k. k ∙ ap (λ (m : ℕ). or_else m g)
            (found-declaration x ds d ∙ ap (or_else (found_in x (declared_by ds))) e)
            ∙ or_assoc (found_in x (declared_by ds)) f g)
            (later.on o w (ds ++ (d ∷ [])));
        off-ok = later.off-ok;
        off_at = later.off_at;
      })))
