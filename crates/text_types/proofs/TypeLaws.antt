-- The types of a text by places: what each token says of the answer.
use Prim.Native.Nat.{ℕ, suc, ◌+◌, ◌≤◌, ◌<◌}
use native.Mathlib.Omega.{arith}
use mathlib.Core.Path.{◌≡◌, refl, sym, ap, ◌∙◌, subst}
use mathlib.Core.Bool.{Bool, true, false, cond}
use mathlib.Core.List.{List}
use mathlib.Core.Option.{Option, some}
use borrow.Author.Tests.{eqb-true, eq-eqb, ne_eqb}
use lib.Dec.{eqb}
use Rattle.lists.proofs.Tests.{cond-each, passes, clash}
use Rattle.text.specs.Tree.{Carried, int_type, boolean_type, qbit_type, NonVoidType, plain, channel_type, end_type}
use Rattle.text.specs.Translation.{carried_code, type_code, return_code}
use Rattle.text_parse.specs.Tokens.{Token, is}
use Rattle.text_parse.specs.Grammar.{Reading, read, leaves, and_then, first, rest, leaves_at, expect, carried, bracketed, non_void_type, starts_type, return_type}
use Rattle.text_tokens.specs.Places.{tokens_at}
use Rattle.text_tokens.proofs.KindTests.{is-void, is-int, is-boolean, is-qbit, is-channel, is-channel-end, is-open-bracket, is-close-bracket}
use Rattle.text_types.specs.SaysCode.{next_kind, next_at, Passed, Expected, Says, reads, leaves-at, On, is_plain, starts_kind}
use Rattle.text_types.proofs.Answers.{on-here, on-later, says-lower, says-read, expect-says, then-says}

-- a test is not passed and failed
pub not-both : {b : Bool} {A : Type 0} → b ≡ true → b ≡ false → A
not-both t f = absurd (clash f (passes t))

module _ (text : List ℕ) (i : ℕ) where
  abbrev k : ℕ
  k = next_kind text i

  abbrev ts : List Token
  ts = tokens_at text i

  -- int, boolean and qbit
  module _ (ok : Bool) (at code : ℕ) where
    abbrev A : Reading Carried → Type 0
    A m = Says text (suc i) (λ t. code ≡ carried_code t) ok at m

    carried-by : (a b c : Bool) → a ≡ eqb k 1 → b ≡ eqb k 2 → c ≡ eqb k 3
        → ((t : Carried) → is_plain k ≡ true → k ≡ carried_code t → A (read t (rest ts)))
        → (is_plain k ≡ false → A (leaves (next_at text i)))
        → A (cond a (read int_type (rest ts)) (cond b (read boolean_type (rest ts))
        (cond c (read qbit_type (rest ts)) (leaves_at ts))))
    unfolding leaves_at carried_code
    carried-by a b c e f g chosen other =
        cond-each A a (λ t. chosen int_type (rw (sym e ∙ t) refl) (eqb-true k 1 (sym e ∙ t)))
        (λ t. cond-each A b (λ u. chosen boolean_type (rw (sym e ∙ t, sym f ∙ u) refl) (eqb-true k 2 (sym f ∙ u)))
        (λ u. cond-each A c (λ v. chosen qbit_type (rw (sym e ∙ t, sym f ∙ u, sym g ∙ v) refl)
        (eqb-true k 3 (sym g ∙ v)))
        (λ v. other (rw (sym e ∙ t, sym f ∙ u, sym g ∙ v) refl))))

    carried-each : ((t : Carried) → is_plain k ≡ true → k ≡ carried_code t → A (read t (rest ts)))
        → (is_plain k ≡ false → A (leaves (next_at text i))) → A (carried ts)
    unfolding carried
    carried-each chosen other =
        carried-by _ _ _ (is-int (first ts)) (is-boolean (first ts)) (is-qbit (first ts)) chosen other

    pub carried-read : is_plain k ≡ true → ok ≡ true → Passed text i at → code ≡ k → A (carried ts)
    carried-read h o p e =
        carried-each (λ t g n. reads o p.after p.onward p.within (e ∙ n)) (λ g. not-both h g)

    pub carried-left : is_plain k ≡ false → ok ≡ false → at ≡ next_at text i → A (carried ts)
    carried-left h o e = carried-each (λ t g n. not-both g h) (λ g. leaves-at o e)

  -- no token of these kinds ends the text
  pub plain-bytes : is_plain k ≡ true → k ≡ 32 → ⊥
  plain-bytes h e = clash {b = is_plain k} (rw e refl) (passes h)

  -- "[ T ]"
  pub bracketed-says : {q r ok : Bool} {place middle at code : ℕ} → Expected text i 23 q place
      → On q place r middle (Says text (suc place) (λ t. code ≡ carried_code t) r middle (carried (tokens_at text place)))
      → On r middle ok at (Expected text middle 24 ok at)
      → Says text (suc i) (λ t. code ≡ carried_code t) ok at (bracketed ts (λ t. t))
  unfolding bracketed
  bracketed-says {q} {r} {ok} {place} {middle} {at} {code} first-mark inner last-mark =
      let P : Carried → Type 0 = λ t. code ≡ carried_code t in
      expect-says text P ok at "[" i 23 _ (λ e. omega arith) is-open-bracket first-mark
      (on-later inner last-mark (λ s w.
      says-lower text P ok at place (suc place) (omega arith)
      (then-says text P ok at P (suc place) (carried (tokens_at text place)) _ s
      (on-later last-mark (on-here {S = Unit {0}} tt) (λ e w t p.
      says-lower text P ok at middle (suc middle) (omega arith)
      (expect-says text P ok at "]" middle 24 _ (λ e. omega arith) is-close-bracket e
      (record { on = λ o w. says-read text P ok at t p w o; off-ok = λ e. e; off_at = λ e. refl })))))))

abbrev closing : {B : Type 0} → (Carried → B) → Carried → List Token → Reading B
closing g t vs = cond (is "]" (first vs)) (read (g t) (rest vs)) (leaves (first vs).at)

-- what is made of the type in the brackets does not change what is read
pub bracketed-of : {A : Type 0} (f : Carried → A) (us : List Token)
    → bracketed us f ≡ and_then (bracketed us (λ t. t)) (λ t vs. read (f t) vs)
unfolding bracketed expect and_then leaves_at
bracketed-of {A} f us = whole (is "[" (first us)) (carried (rest us))
  where
    after : (c : Bool) (t : Carried) (vs : List Token)
        → cond c (read (f t) (rest vs)) (leaves (first vs).at)
        ≡ and_then (cond c (read t (rest vs)) (leaves (first vs).at)) (λ t vs. read (f t) vs)
    after true t vs = refl
    after false t vs = refl

    whole : (b : Bool) (m : Reading Carried)
        → cond b (and_then m (closing f)) (leaves (first us).at)
        ≡ and_then (cond b (and_then m (closing (λ t. t))) (leaves (first us).at)) (λ t vs. read (f t) vs)
    whole true (read t vs) = after (is "]" (first vs)) t vs
    whole true (leaves j) = refl
    whole false m = refl

pub carried-most : (t : Carried) → carried_code t ≤ 3
unfolding carried_code
carried-most int_type = omega arith
carried-most boolean_type = omega arith
carried-most qbit_type = omega arith

module _ (text : List ℕ) (i : ℕ) (ok : Bool) (at code : ℕ) where
  abbrev T : Reading NonVoidType → Type 0
  T m = Says text (suc i) (λ t. code ≡ type_code t) ok at m

  abbrev here : Token
  here = first (tokens_at text i)

  -- a channel or an end: the brackets begin at e
  with-brackets : (e c base : ℕ) (f : Carried → NonVoidType) → ((t : Carried) → type_code (f t) ≡ base + carried_code t)
      → Passed text i e → (c ≤ 3 → code ≡ base + c)
      → Says text (suc e) (λ t. c ≡ carried_code t) ok at (bracketed (tokens_at text e) (λ t. t))
      → T (bracketed (rest (tokens_at text i)) f)
  with-brackets e c base f typed p coded s =
      let on : i < e = p.onward in
      let Q : NonVoidType → Type 0 = λ t. code ≡ type_code t in
      let code_of : (t : Carried) → c ≡ carried_code t → Q (f t) =
      λ t g. coded (rw g (carried-most t)) ∙ ap (λ (n : ℕ). base + n) g ∙ sym (typed t) in
      subst (λ us. T (bracketed us f)) (sym p.after)
      (subst T (sym (bracketed-of f (tokens_at text e)))
      (says-lower text Q ok at (suc i) (suc e) (omega arith)
      (then-says text Q ok at (λ t. c ≡ carried_code t) (suc e) (bracketed (tokens_at text e) (λ t. t)) _ s
      (record {
        on = λ o w t g. says-read text Q ok at (f t)
            (code_of t g) w o;
        off-ok = λ e. e;
        off_at = λ e. refl;
      }))))

  pub channel-says : (e c : ℕ) → next_kind text i ≡ 4 → Passed text i e → (c ≤ 3 → code ≡ 16 + c)
      → Says text (suc e) (λ t. c ≡ carried_code t) ok at (bracketed (tokens_at text e) (λ t. t))
      → T (non_void_type (tokens_at text i))
  unfolding non_void_type type_code
  channel-says e c k p coded s =
      rw (is-channel here ∙ eq-eqb (next_kind text i) 4 k)
      (with-brackets e c 16 channel_type (λ t. refl) p coded s)

  pub end-says : (e c : ℕ) → next_kind text i ≡ 5 → Passed text i e → (c ≤ 3 → code ≡ 32 + c)
      → Says text (suc e) (λ t. c ≡ carried_code t) ok at (bracketed (tokens_at text e) (λ t. t))
      → T (non_void_type (tokens_at text i))
  unfolding non_void_type type_code
  end-says e c k p coded s =
      rw (is-channel here ∙ ne_eqb (next_kind text i) 4 (λ g. omega arith))
      (rw (is-channel-end here ∙ eq-eqb (next_kind text i) 5 k)
      (with-brackets e c 32 end_type (λ t. refl) p coded s))

  pub plain-says : (next_kind text i ≡ 4 → ⊥) → (next_kind text i ≡ 5 → ⊥)
      → Says text (suc i) (λ t. code ≡ carried_code t) ok at (carried (tokens_at text i))
      → T (non_void_type (tokens_at text i))
  unfolding non_void_type type_code
  plain-says f g s =
      let Q : NonVoidType → Type 0 = λ t. code ≡ type_code t in
      rw (is-channel here ∙ ne_eqb (next_kind text i) 4 f)
      (rw (is-channel-end here ∙ ne_eqb (next_kind text i) 5 g)
      (then-says text Q ok at (λ t. code ≡ carried_code t) (suc i) (carried (tokens_at text i)) _ s
      (record { on = λ o w t e. says-read text Q ok at (plain t) e w o; off-ok = λ e. e; off_at = λ e. refl })))

  abbrev R : Reading (Option NonVoidType) → Type 0
  R m = Says text (suc i) (λ t. code ≡ return_code t) ok at m

  pub void-says : next_kind text i ≡ 0 → ok ≡ true → Passed text i at → code ≡ 0 → R (return_type (tokens_at text i))
  unfolding return_type return_code
  void-says k o p e =
      rw (is-void here ∙ eq-eqb (next_kind text i) 0 k) (reads o p.after p.onward p.within e)

  pub other-says : (next_kind text i ≡ 0 → ⊥) → T (non_void_type (tokens_at text i)) → R (return_type (tokens_at text i))
  unfolding return_type return_code
  other-says f s =
      let Q : Option NonVoidType → Type 0 = λ t. code ≡ return_code t in
      rw (is-void here ∙ ne_eqb (next_kind text i) 0 f)
      (then-says text Q ok at (λ t. code ≡ type_code t) (suc i) (non_void_type (tokens_at text i)) _ s
      (record { on = λ o w t e. says-read text Q ok at (some t) e w o; off-ok = λ e. e; off_at = λ e. refl }))

-- a token starts a type by its kind
pub starts-kind : (text : List ℕ) (i : ℕ) → starts_type (tokens_at text i) ≡ starts_kind (next_kind text i)
unfolding starts_type
starts-kind text i =
    let here = first (tokens_at text i) in
    rw (is-int here, is-boolean here, is-qbit here, is-channel here, is-channel-end here) refl
