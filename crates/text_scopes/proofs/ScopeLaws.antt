-- What the open blocks say of a name, from the innermost outwards.
use Prim.Native.Nat.{ℕ, zero, suc, ◌-◌, ◌<◌, ◌≤◌}
use native.Mathlib.Omega.{arith}
use mathlib.Core.Path.{◌≡◌, refl, sym, ap, ◌∙◌, subst}
use mathlib.Core.Bool.{Bool, true, false, cond}
use mathlib.Core.List.{List, [], ◌∷◌, map}
use mathlib.Core.Option.{Option, none, some}
use borrow.Author.Tests.{eq-eqb, ne_eqb, eqb-true}
use lib.Dec.{eqb}
use lib.ListN.{get_or}
use Rattle.lists.specs.Lists.{same}
use Rattle.lists.proofs.Tests.{clash, passes}
use Rattle.text.specs.Tree.{Name, Declared, declared_by, Parameter, parameter_of}
use Rattle.text_parse.specs.Tokens.{Token}
use Rattle.text_parse.specs.Grammar.{Reading, read, first, rest, next?, Scopes, declared_here, has_ends_or, is_withends}
use Rattle.text_parse.specs.Equations.{declarations_from}
use Rattle.text_tokens.specs.Places.{tokens_at}
use Rattle.text_tokens.proofs.KindTests.{is-open-brace}
use Rattle.text_types.specs.SaysCode.{next_kind, Expected, Says, reads}
use Rattle.text_types.specs.Found.{found_by, found_in, found_among, or_else}
use Rattle.text_types.specs.FoundCode.{ParametersSay}
use Rattle.text_types.proofs.Answers.{passed-found, ok-missing}
use Rattle.text_types.proofs.Finding.{found-append}
use Rattle.text_scopes.specs.OpenCode.{BlockAt, BodyAt, Opened, method-body, inner_block}

-- where a name stands does not matter
here-same : (x : Name) (w : List ℕ) → x.spelling ≡ w → (ds : List Declared)
    → declared_here x ds ≡ declared_here (record { spelling = w; at = 0 }) ds
unfolding declared_here
here-same x w e [] = refl
here-same x w e (d ∷ ds) =
    ap (λ (b : Bool). cond b (some d) (declared_here x ds)) (ap (λ v. same v d.name.spelling) e)
    ∙ ap (λ o. cond (same w d.name.spelling) (some d) o) (here-same x w e ds)

by-found : (o : Option Declared) (otherwise : Bool)
    → has_ends_or o otherwise ≡ cond (eqb (found_by o) 0) otherwise (eqb (found_by o) 2)
unfolding has_ends_or found_by
by-found none otherwise = refl
by-found (some d) otherwise = ends d.ends
  where
    ends : (b : Bool) → b ≡ cond (eqb (cond b 2 1) 0) otherwise (eqb (cond b 2 1) 2)
    ends true = refl
    ends false = refl

withends-cons : (x : Name) (w : List ℕ) → x.spelling ≡ w → (ds : List Declared) (scopes : Scopes)
    → is_withends (ds ∷ scopes) x ≡ cond (eqb (found_in w ds) 0) (is_withends scopes x) (eqb (found_in w ds) 2)
unfolding is_withends found_in
withends-cons x w e ds scopes =
    ap (λ o. has_ends_or o (is_withends scopes x)) (here-same x w e ds)
    ∙ by-found (declared_here (record { spelling = w; at = 0 }) ds) (is_withends scopes x)

module _ (text starts w : List ℕ) where
  -- b is what n open blocks say of the name
  abbrev pub Answers : ℕ → Bool → Type 0
  Answers n b =
      (scopes : Scopes) (x : Name) → Opened text starts n scopes → n ≤ 32 → x.spelling ≡ w → b ≡ is_withends scopes x

  among-block : {i : ℕ} {ds : List Declared} → BlockAt text i ds
      → found_among w (declarations_from [] (tokens_at text i)) ≡ found_in w ds
  unfolding found_among
  among-block b = rw b.reading (ap (found_in w) (sym b.declares))

  -- the block declares the name, or the blocks around it say it
  abbrev pub InBlock : ℕ → ℕ → Type 0
  InBlock k f = k < 32 → f ≡ found_among w (declarations_from [] (tokens_at text (get_or starts k 0)))

  pub in_block : (k : ℕ) {i f : ℕ} → (k < 32 → i ≡ get_or starts k 0)
      → f ≡ found_among w (declarations_from [] (tokens_at text i)) → InBlock k f
  in_block k e h l = h ∙ ap (λ (j : ℕ). found_among w (declarations_from [] (tokens_at text j))) (e l)

  found-inner : (m f : ℕ) → InBlock (suc m) f → (f ≡ 0 → ⊥) → Answers (suc (suc m)) (eqb f 2)
  found-inner m f e h [] x o l s = elim o [ ]
  found-inner m f e h (ds ∷ scopes) x (inner_block o b) l s =
      let g = e (omega arith) ∙ among-block b in
      let some = ne_eqb (found_in w ds) 0 (λ k. h (g ∙ k)) in
      ap (λ (k : ℕ). eqb k 2) g ∙ sym (withends-cons x w s ds scopes ∙ rw some refl)

  other-inner : (m f : ℕ) (b : Bool) → InBlock (suc m) f → f ≡ 0 → Answers (suc m) b → Answers (suc (suc m)) b
  other-inner m f b e h outer [] x o l s = elim o [ ]
  other-inner m f b e h outer (ds ∷ scopes) x (inner_block o k) l s =
      let none_here = eq-eqb (found_in w ds) 0 (sym (e (omega arith) ∙ among-block k) ∙ h) in
      outer scopes x o (omega arith) s ∙ sym (withends-cons x w s ds scopes ∙ rw none_here refl)

  pub inner-found : (n f : ℕ) → 1 < n → InBlock (n - 1) f → (f ≡ 0 → ⊥) → Answers n (eqb f 2)
  inner-found zero f l e h = absurd (omega arith)
  inner-found (suc zero) f l e h = absurd (omega arith)
  inner-found (suc (suc m)) f l e h =
      let one : suc (suc m) - 1 ≡ suc m = omega arith in found-inner m f (subst (λ (k : ℕ). InBlock k f) one e) h

  pub inner-other : (n f : ℕ) (b : Bool) → 1 < n → InBlock (n - 1) f → f ≡ 0 → Answers (n - 1) b → Answers n b
  inner-other zero f b l e h outer = absurd (omega arith)
  inner-other (suc zero) f b l e h outer = absurd (omega arith)
  inner-other (suc (suc m)) f b l e h outer =
      let one : suc (suc m) - 1 ≡ suc m = omega arith in
      other-inner m f b (subst (λ (k : ℕ). InBlock k f) one e) h (subst (λ (k : ℕ). Answers k b) one outer)

  pub opened_some : {n : ℕ} {scopes : Scopes} → Opened text starts n scopes → 1 ≤ n
  opened_some (method-body b) = omega arith
  opened_some (inner_block o b) = omega arith

  -- no block is open around a method's body
  last_says : (ds : List Declared) (x : Name) → x.spelling ≡ w → eqb (found_in w ds) 2 ≡ is_withends (ds ∷ []) x
  unfolding is_withends
  last_says ds x s = sym (withends-cons x w s ds [] ∙ none_left (found_in w ds))
    where
      none_left : (k : ℕ) → cond (eqb k 0) false (eqb k 2) ≡ eqb k 2
      none_left zero = refl
      none_left (suc k) = rw (ne_eqb (suc k) 0 (λ e. omega arith)) refl

  pub body-answers : (f : ℕ) → ((ds : List Declared) → BodyAt text (get_or starts 0 0) ds → f ≡ found_in w ds)
      → Answers 1 (eqb f 2)
  body-answers f h scopes x (method-body {ds} b) l s = ap (λ (k : ℕ). eqb k 2) (h ds b) ∙ last_says ds x s

module _ (text w : List ℕ) where
  -- the parameters, then the declarations
  read-parameters : (i : ℕ) {ok : Bool} {at f : ℕ} {m : Reading (List Parameter)} {ps : List Parameter}
      {us : List Token} → m ≡ read ps us
      → Says text (suc i) (λ qs. found_in w (map parameter_of qs) ≡ f) ok at m
      → (us ≡ tokens_at text at) × (found_in w (map parameter_of ps) ≡ f)
  read-parameters i {ok} {at} {f} {m} {ps} {us} e s =
      inverted (subst (Says text (suc i) (λ qs. found_in w (map parameter_of qs) ≡ f) ok at) e s)
    where
      inverted : Says text (suc i) (λ qs. found_in w (map parameter_of qs) ≡ f) ok at (read ps us)
          → (us ≡ tokens_at text at) × (found_in w (map parameter_of ps) ≡ f)
      inverted (reads o u h l p) = (u, p)

  -- the parameters of a body are read, and a brace stands after them
  pub body-read : (i : ℕ) {at f : ℕ} {ds : List Declared} → BodyAt text i ds → ParametersSay text w i false at f → ⊥
  body-read i {at} {f} b s = refused (subst (Says text (suc i) (λ qs. found_in w (map parameter_of qs) ≡ f) false at) b.header s)
    where
      refused : {ps : List Parameter} {us : List Token}
          → Says text (suc i) (λ qs. found_in w (map parameter_of qs) ≡ f) false at (read ps us) → ⊥
      refused (reads o u h l p) = clash refl (passes o)

  body-brace : (i : ℕ) {ok : Bool} {at f : ℕ} {ds : List Declared} → BodyAt text i ds → ParametersSay text w i ok at f
      → next_kind text at ≡ 21
  body-brace i {ok} {at} b s =
      eqb-true (next_kind text at) 21
      (sym (is-open-brace (first (tokens_at text at)))
      ∙ ap (λ us. next? "{" us) (sym (read-parameters i b.header s).0) ∙ b.brace)

  pub body-opens : (i : ℕ) {ok : Bool} {at f place : ℕ} {ds : List Declared} → BodyAt text i ds
      → ParametersSay text w i ok at f → Expected text at 21 false place → ⊥
  body-opens i {ok} {at} b s e = ok-missing text at 21 refl e (body-brace i b s)

  pub body-found : (i : ℕ) {ok q : Bool} {at f place : ℕ} (g : ℕ) (ds : List Declared) → BodyAt text i ds
      → ParametersSay text w i ok at f → Expected text at 21 q place
      → g ≡ found_among w (declarations_from [] (tokens_at text place)) → or_else f g ≡ found_in w ds
  unfolding found_among
  body-found i {ok} {q} {at} {f} {place} g ds b s e h =
      let both = read-parameters i b.header s in
      let pass = passed-found text at 21 (λ k. omega arith) (body-brace i b s) e in
      let later : declarations_from [] (tokens_at text place) ≡ read b.list b.after =
      ap (declarations_from []) (sym (ap rest both.0 ∙ pass.after)) ∙ b.reading in
      ap (λ (k : ℕ). or_else f k) (h ∙ ap (found_among w) later)
      ∙ ap (λ (k : ℕ). or_else k (found_in w (declared_by b.list))) (sym both.1)
      ∙ sym (found-append w (map parameter_of b.ps) (declared_by b.list))
      ∙ ap (found_in w) (sym b.declares)
