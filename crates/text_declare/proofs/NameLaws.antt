-- The names of a declaration, entered.
use Prim.Native.Nat.{ℕ, zero, suc, ◌+◌, ◌≤◌}
use native.Mathlib.Omega.{arith}
use mathlib.Core.Path.{◌≡◌, refl, sym, ap, ◌∙◌, subst}
use mathlib.Core.Bool.{Bool, true, false}
use mathlib.Core.List.{List, [], ◌∷◌, ◌++◌, map}
use borrow.Author.Tests.{eq-eqb, ne_eqb}
use lib.ListN.{length, length-append}
use Rattle.text.specs.Tree.{Name, Carried, int_type, boolean_type, qbit_type, NonVoidType, channel_type, end_type, Declaration, variables, Declared, plainly, declared_in}
use Rattle.text.specs.Translation.{type_code, carried_code, truth_word}
use Rattle.text_parse.specs.Tokens.{Token, name_of}
use Rattle.text_parse.specs.Grammar.{read, first, rest, next?, expect_name, more_names, end_names, enough}
use Rattle.text_parse.specs.Equations.{more_names_from, more_names_rule}
use Rattle.text_parse.proofs.Equations.{grammar}
use Rattle.text_tokens.specs.Places.{tokens_at}
use Rattle.text_tokens.proofs.KindTests.{is-comma, is-semicolon, is-open-bracket, is-close-bracket}
use Rattle.text_types.specs.SaysCode.{next_kind, Expected, On}
use Rattle.text_types.proofs.Answers.{passed-found, found_ok}
use Rattle.text_types.proofs.Finding.{map-append}
use Rattle.text_types.specs.Every.{every-read}
use Rattle.text_types.proofs.Every.{every-leaves, every-choice, every-expect, every-name, every_of}
use Rattle.text_types.proofs.TypeLaws.{not-both}
use Rattle.text_declare.specs.Entered.{Tables, Entered, Entering}
use Rattle.text_declare.specs.EnterCode.{NameStands, Enters, enters, VariableEnters, ThreeEnter, a_name, NameEnters, NamesEnter, EndsEnter}
use Rattle.text_declare.proofs.EnteredLaws.{entering-then, entering-fits}
use Rattle.text_declare.proofs.ReadingLaws.{AtLeast, name-then, not-before, onward-token, onward-later, expect-enters, name-enters, enters-then, enters-read}

pub map-length : {A B : Type 0} (f : A → B) (xs : List A) → length (map f xs) ≡ length xs
map-length f [] = refl
map-length f (x ∷ xs) = ap suc (map-length f xs)

-- a declaration has all names read so far
bounded-least : (n : ℕ) (t : NonVoidType) (xs : List Name) (ts : List Token)
    → AtLeast (length xs) declared_in (more_names n t xs ts)
unfolding more_names declared_in
bounded-least zero t xs ts = every-leaves (λ d. length xs ≤ length (declared_in d)) ts
bounded-least (suc n) t xs ts =
    let Q : Declaration → Type 0 = λ d. length xs ≤ length (declared_in d) in
    let all : length xs ≤ length (map (plainly t) xs) = let same = map-length (plainly t) xs in omega arith in
    every-choice Q (next? "," ts)
    (every-name Q (rest ts) _ (λ x us.
    let longer : length xs ≤ length (xs ++ (x ∷ [])) = let more = length-append xs (x ∷ []) in omega arith in
    every_of Q (λ d. length (xs ++ (x ∷ [])) ≤ length (declared_in d)) (λ d h. omega arith)
    (bounded-least n t (xs ++ (x ∷ [])) us)))
    (every-expect Q ";" ts _ (λ us. every-read all))

pub names-least : (t : NonVoidType) (xs : List Name) (ts : List Token)
    → AtLeast (length (map (plainly t) xs)) declared_in (more_names_from t xs ts)
unfolding more_names_from
names-least t xs ts =
    subst (λ (k : ℕ). AtLeast k declared_in (more_names (enough ts) t xs ts)) (sym (map-length (plainly t) xs))
    (bounded-least (enough ts) t xs ts)

module _ (text : List ℕ) where
  -- one name
  pub one_name : (i code : ℕ) (σ τ : Tables) {q ok : Bool} {start place at : ℕ} → NameStands text i q start place
      → (q ≡ false → ok ≡ false) → (ok ≡ true → at ≡ place)
      → (q ≡ true → VariableEnters start place 0 code σ ok τ) → NameEnters text i code σ ok at τ
  unfolding a_name truth_word
  one_name i code σ τ {q} {ok} {start} {place} {at} name stop reached one =
      record {
        onward = λ o. let there = not-before stop o in
            subst (λ (a : ℕ). (suc i ≤ a) × (a ≤ length text)) (sym (reached o))
            (onward-token text i 33 (λ g. omega arith) name.stands there);
        says = λ t c fits.
            let x = name_of (first (tokens_at text i)) in
            name-enters text (λ x. plainly t x ∷ []) σ ok at τ i (λ x us. read x us) name.stands stop
            (λ there. enters (λ o. ap (tokens_at text) (sym (reached o)))
            (one there text (plainly t x) (name.spelt there) refl c fits));
      }

  -- the names end with ;
  pub names-end : (i code : ℕ) (σ : Tables) {ok : Bool} {at : ℕ} → (next_kind text i ≡ 25 → ⊥)
      → Expected text i 26 ok at → NamesEnter text i code σ ok at σ
  unfolding more_names_rule declared_in
  names-end i code σ {ok} {at} f e =
      record {
        onward = onward-token text i 26 (λ g. omega arith) e;
        says = λ t xs σ₀ c h.
            rw (
              grammar.more_names-is t xs (tokens_at text i),
              is-comma (first (tokens_at text i)) ∙ ne_eqb
                  (next_kind text i) 25 f,
            )
            (expect-enters text declared_in σ₀ ok at σ ";" i 26 (λ us. read (variables t xs) us) (λ g. omega arith)
            is-semicolon e (λ o. o) (λ o. enters-read text declared_in σ₀ ok at σ (variables t xs) o h));
      }

  pub names-left : (i code : ℕ) (σ τ : Tables) {ok : Bool} {at place : ℕ} → (next_kind text i ≡ 25 → ⊥)
      → Expected text i 26 false place → ok ≡ false → NamesEnter text i code σ ok at τ
  unfolding more_names_rule
  names-left i code σ τ {ok} {at} f e none =
      record {
        onward = λ o. not-both o none;
        says = λ t xs σ₀ c h.
            rw (
              grammar.more_names-is t xs (tokens_at text i),
              is-comma (first (tokens_at text i)) ∙ ne_eqb
                  (next_kind text i) 25 f,
            )
            (expect-enters text declared_in σ₀ ok at τ ";" i 26 (λ us. read (variables t xs) us) (λ g. omega arith)
            is-semicolon e (λ o. none) (λ o. not-both o refl));
      }

  -- a comma and a name
  pub names-on : (i code : ℕ) (σ υ τ : Tables) {q n ok : Bool} {place middle at : ℕ} → next_kind text i ≡ 25
      → Expected text i 25 q place → NameEnters text place code σ n middle υ
      → (n ≡ false → ok ≡ false) → (n ≡ true → NamesEnter text middle code υ ok at τ)
      → NamesEnter text i code σ ok at τ
  unfolding more_names_rule
  names-on i code σ υ τ {q} {n} {ok} {place} {middle} {at} k e name stop go =
      let stands = found_ok text i 25 k e in
      let pass = passed-found text i 25 (λ g. omega arith) k e in
      record {
        onward = onward-later text i place (onward-token text i 25 (λ g. omega arith) e)
            (λ g. not-both stands g)
            (λ there. onward-later text place middle name.onward stop (λ o. (go o).onward));
        says = λ t xs σ₀ c h.
            rw (
              grammar.more_names-is t xs (tokens_at text i),
              is-comma (first (tokens_at text i)) ∙ eq-eqb
                  (next_kind text i) 25 k,
            )
            (subst (λ us. Enters text declared_in σ₀ ok at τ
            (expect_name us (λ y us. more_names_from t (xs ++ (y ∷ [])) us))) (sym pass.after)
            (subst (Enters text declared_in σ₀ ok at τ)
            (sym (name-then (tokens_at text place) (λ y us. more_names_from t (xs ++ (y ∷ [])) us)))
            (enters-then text declared_in σ₀ ok at τ (λ x. plainly t x ∷ []) (map (plainly t) xs) σ υ
            (a_name (tokens_at text place)) (λ y us. more_names_from t (xs ++ (y ∷ [])) us) h
            (name.says t c h.fits) stop
            (λ o x more. (go o).says t (xs ++ (x ∷ [])) σ₀ c
            (subst (λ ds. Entered text ds σ₀ υ) (sym (map-append (plainly t) xs (x ∷ []))) more))
            (λ x us. subst (λ ds. AtLeast (length ds) declared_in (more_names_from t (xs ++ (x ∷ [])) us))
            (map-append (plainly t) xs (x ∷ [])) (names-least t (xs ++ (x ∷ [])) us)))));
      }

-- the code of the ends of a channel
below-ends : (t : Carried) → type_code (channel_type t) ≤ 31
unfolding type_code carried_code
below-ends int_type = omega arith
below-ends boolean_type = omega arith
below-ends qbit_type = omega arith

above-channel : (t : Carried) → type_code (channel_type t) + 16 ≡ type_code (end_type t)
unfolding type_code carried_code
above-channel int_type = refl
above-channel boolean_type = refl
above-channel qbit_type = refl

-- a channel, end 0 and end 1
pub three-enter : (s0 e0 s1 e1 s2 e2 code end : ℕ) (σ υ ω τ : Tables) {q r ok : Bool}
    → (code ≤ 31 → end ≡ code + 16) → VariableEnters s0 e0 1 code σ q υ → (q ≡ false → ok ≡ false)
    → (q ≡ true → VariableEnters s1 e1 0 end υ r ω) → (r ≡ false → ok ≡ false)
    → (q ≡ true → r ≡ true → VariableEnters s2 e2 0 end ω ok τ) → ThreeEnter s0 e0 s1 e1 s2 e2 code σ ok τ
unfolding declared_in truth_word
three-enter s0 e0 s1 e1 s2 e2 code end σ υ ω τ {q} {r} {ok} ends first stop1 second stop2 third
    text t c a b sc sa sb type fits =
    let le : code ≤ 31 = let l = below-ends t in omega arith in
    let end-type : end ≡ type_code (end_type t) = ends le ∙ ap (λ (k : ℕ). k + 16) type ∙ above-channel t in
    let channel : Declared = record { name = c; type = channel_type t; ends = true } in
    let zero = plainly (end_type t) a in
    let one = plainly (end_type t) b in
    let e1 = first text channel sc refl type fits in
    let e2 : q ≡ true → Entering text (zero ∷ []) υ r ω =
    λ o. second o text zero sa refl end-type (entering-fits e1 o) in
    entering-then text (channel ∷ []) (zero ∷ one ∷ []) σ υ τ e1 stop1
    (λ o. entering-then text (zero ∷ []) (one ∷ []) υ ω τ (e2 o) stop2
    (λ p. third o p text one sb refl end-type (entering-fits (e2 o) p)))

module _ (text : List ℕ) where
  -- the two ends of a channel
  pub ends-enter : (i s0 e0 code : ℕ) (σ τ : Tables) {q1 q2 q3 q4 q5 q6 ok : Bool} {p1 p2 p3 p4 p5 p6 at s2 s4 : ℕ}
      → Expected text i 23 q1 p1 → On q1 p1 q2 p2 (NameStands text p1 q2 s2 p2)
      → On q2 p2 q3 p3 (Expected text p2 25 q3 p3) → On q3 p3 q4 p4 (NameStands text p3 q4 s4 p4)
      → On q4 p4 q5 p5 (Expected text p4 24 q5 p5) → On q5 p5 q6 p6 (Expected text p5 26 q6 p6)
      → (ok ≡ true → at ≡ p6) → (q6 ≡ false → ok ≡ false) → (q6 ≡ true → ThreeEnter s0 e0 s2 p2 s4 p4 code σ ok τ)
      → EndsEnter text i s0 e0 code σ ok at τ
  unfolding end_names
  ends-enter i s0 e0 code σ τ {q1} {q2} {q3} {q4} {q5} {q6} {ok} {p1} {p2} {p3} {p4} {p5} {p6} {at} {s2} {s4}
      h1 h2 h3 h4 h5 h6 reached stop three =
      let stop5 : q5 ≡ false → ok ≡ false = λ o. stop (h6.off-ok o) in
      let stop4 : q4 ≡ false → ok ≡ false = λ o. stop5 (h5.off-ok o) in
      let stop3 : q3 ≡ false → ok ≡ false = λ o. stop4 (h4.off-ok o) in
      let stop2 : q2 ≡ false → ok ≡ false = λ o. stop3 (h3.off-ok o) in
      let stop1 : q1 ≡ false → ok ≡ false = λ o. stop2 (h2.off-ok o) in
      let a = name_of (first (tokens_at text p1)) in
      let b = name_of (first (tokens_at text p3)) in
      record {
        onward =
            onward-later text i p1 (onward-token text i 23 (λ g. omega arith) h1) stop1
            (λ o1. onward-later text p1 p2 (onward-token text p1 33 (λ g. omega arith) (h2.on o1).stands) stop2
            (λ o2. onward-later text p2 p3 (onward-token text p2 25 (λ g. omega arith) (h3.on o2)) stop3
            (λ o3. onward-later text p3 p4 (onward-token text p3 33 (λ g. omega arith) (h4.on o3).stands) stop4
            (λ o4. onward-later text p4 p5 (onward-token text p4 24 (λ g. omega arith) (h5.on o4)) stop5
            (λ o5 o. subst (λ (a : ℕ). (suc p5 ≤ a) × (a ≤ length text)) (sym (reached o))
            (onward-token text p5 26 (λ g. omega arith) (h6.on o5) (not-before stop o)))))));
        says = λ t c spelt type fits.
            expect-enters text declared_in σ ok at τ "[" i 23 _ (λ e. omega arith) is-open-bracket h1 stop1
            (λ o1. name-enters text declared_in σ ok at τ p1 _ (h2.on o1).stands stop2
            (λ o2. expect-enters text declared_in σ ok at τ "," p2 25 _ (λ e. omega arith) is-comma (h3.on o2) stop3
            (λ o3. name-enters text declared_in σ ok at τ p3 _ (h4.on o3).stands stop4
            (λ o4. expect-enters text declared_in σ ok at τ "]" p4 24 _ (λ e. omega arith) is-close-bracket
            (h5.on o4) stop5
            (λ o5. expect-enters text declared_in σ ok at τ ";" p5 26 _ (λ e. omega arith) is-semicolon (h6.on o5) stop
            (λ o6. enters (λ o. ap (tokens_at text) (sym (reached o)))
            (three o6 text t c a b spelt ((h2.on o1).spelt o2) ((h4.on o3).spelt o4) type fits)))))));
      }
