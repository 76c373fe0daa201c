-- A method's header: its return type, its name, and its parameters entered into empty tables.
use Prim.Native.Nat.{ℕ, suc, ◌+◌, ◌≤◌, ◌<◌}
use Prim.Native.String.{String}
use native.Mathlib.Omega.{arith}
use mathlib.Core.Path.{◌≡◌, refl, sym, ap, ◌∙◌, subst}
use mathlib.Core.Bool.{Bool, true, false, cond}
use mathlib.Core.List.{List, map}
use lib.Dec.{eqb}
use lib.ListN.{length, set, length-map}
use lib.Seq.{slice}
use borrow.Author.Tests.{eqb-true}
use Rattle.text.specs.Tree.{Name, NonVoidType, Declared, Parameter, parameter_of}
use Rattle.text_parse.specs.Tokens.{Token, is, is_name, name_of}
use Rattle.text_parse.specs.Grammar.{Reading, read, leaves, first, rest, and_then, leaves_at, next?, expect, expect_name, return_type}
use Rattle.text_parse.specs.Equations.{parameters_rule, method_rule, method_body_rule}
use Rattle.text_tokens.specs.Places.{tokens_at}
use Rattle.text_tokens.specs.KindsCode.{kind_of}
use Rattle.text_tokens.specs.NextCode.{NextToken}
use Rattle.text_tokens.specs.declared.next.TokenAt.{TokenAt}
use Rattle.text_tokens.proofs.KindTests.{is-name, is_open}
use Rattle.text_types.specs.SaysCode.{Passed, Says, reads, leaves-at, ReturnSays}
use Rattle.std.specs.Prelude.{Ok, Err}
use Rattle.lists.proofs.Tests.{clash, passes}
use Rattle.text_types.specs.declared.place.GrammarError.{GrammarError}
use Rattle.text_types.specs.declared.types.TypeAt.{TypeAt}
use mathlib.Core.Option.{Option}
use Rattle.text_types.proofs.Answers.{passed-next, kind-next}
use Rattle.text_scan.proofs.Holding.{Holds, holds, off, then-holds, expect-holds, name-holds, After, after, AfterName, after-name}
use Rattle.text_declare.specs.Entered.{tables, Fits, typed, Entering, all-entered, too_many}
use Rattle.text_declare.specs.Entered.{Tables as Entries}
use Rattle.text_declare.specs.EnterCode.{Enters, enters, left, ParametersEnter}
use Rattle.text_declare.proofs.RowLaws.{typed-row}
use Rattle.text_code.proofs.Steps.{Stands}
use Rattle.text_emit_method.specs.StepsCode.{header_rule, empty_row, HeaderEntered, HeaderEnters}

-- A method is its header and then its body.

then_same : {A B : Type 0} (r : Reading A) {j k : A → List Token → Reading B}
    → ((a : A) (us : List Token) → j a us ≡ k a us) → and_then r j ≡ and_then r k
unfolding and_then
then_same (read a us) f = f a us
then_same (leaves i) f = refl

then-then : {A B C : Type 0} (r : Reading A) (j : A → List Token → Reading B) (k : B → List Token → Reading C)
    → and_then (and_then r j) k ≡ and_then r (λ a us. and_then (j a us) k)
unfolding and_then
then-then (read a us) j k = refl
then-then (leaves i) j k = refl

choice-then : {A B : Type 0} (b : Bool) (x : Reading A) {y : Reading B} (ts : List Token)
    (k : A → List Token → Reading B) → y ≡ and_then x k
    → cond b y (leaves_at ts) ≡ and_then (cond b x (leaves_at ts)) k
unfolding and_then leaves_at
choice-then true x ts k e = e
choice-then false x ts k e = refl

expect-then : {A B : Type 0} (s : String) (ts : List Token) {j : List Token → Reading B} (i : List Token → Reading A)
    (k : A → List Token → Reading B) → ((us : List Token) → j us ≡ and_then (i us) k)
    → expect s ts j ≡ and_then (expect s ts i) k
unfolding expect
expect-then s ts i k f = choice-then (next? s ts) (i (rest ts)) ts k (f (rest ts))

name-then : {A B : Type 0} (ts : List Token) {j : Name → List Token → Reading B} (i : Name → List Token → Reading A)
    (k : A → List Token → Reading B) → ((x : Name) (us : List Token) → j x us ≡ and_then (i x us) k)
    → expect_name ts j ≡ and_then (expect_name ts i) k
unfolding expect_name
name-then ts i k f =
    choice-then (is_name (first ts)) (i (name_of (first ts)) (rest ts)) ts k (f (name_of (first ts)) (rest ts))

pub header-then : (ts : List Token)
    → method_rule ts
    ≡ and_then (header_rule ts) (λ h us. method_body_rule h.returns h.name h.parameters us)
unfolding method_rule header_rule and_then
header-then ts =
    then_same (return_type ts) (λ t us. name-then us _ _ (λ x vs. expect-then "(" vs _ _ (λ ws.
    sym (then-then (parameters_rule ws) _ _))))
    ∙ sym (then-then (return_type ts) _ _)

-- Tokens that are passed

module _ (text : List ℕ) where
  -- a token that has bytes and stands at i
  token-passed : (i : ℕ) (t : TokenAt) {us : List Token} → NextToken text i t → us ≡ tokens_at text i → Stands us
      → Passed text i t.end
  token-passed i t n u f = passed-next text i t n (λ e. subst Stands u f (kind-next text i t n ∙ e))

  pub mark-passed : (s : String) (k : ℕ) → ((t : Token) → is s t ≡ eqb (kind_of t.bytes) k) → (k ≡ 32 → ⊥)
      → (i : ℕ) (t : TokenAt) {us vs : List Token} → NextToken text i t → us ≡ tokens_at text i → After s us vs
      → (vs ≡ tokens_at text t.end) × ((i < t.end) × (t.end ≤ length text))
  mark-passed s k test f i t {us} n u (after e) =
      let p = token-passed i t n u
      (λ g. f (sym (eqb-true (kind_of (first us).bytes) k (sym (test (first us)) ∙ e)) ∙ g)) in
      (ap rest u ∙ p.after, (p.onward, p.within))

  name-passed : (i : ℕ) (t : TokenAt) {us vs : List Token} {x : Name} → NextToken text i t → us ≡ tokens_at text i
      → AfterName us x vs
      → (vs ≡ tokens_at text t.end)
      × ((i < t.end) × ((x.at ≡ t.start) × (x.spelling ≡ slice t.start t.end text)))
  name-passed i t {us} n u (after-name e) =
      let p = token-passed i t n u
      (λ g. thirty-three (sym (eqb-true (kind_of (first us).bytes) 33 (sym (is-name (first us)) ∙ e)) ∙ g)) in (
        ap rest u ∙ p.after,
        (
          p.onward,
          (
            ap (λ (ts : List Token). (first ts).at) (u ∙ n.reads),
            ap (λ (ts : List Token). (first ts).bytes) (u ∙ n.reads),
          ),
        ),
      )
    where
      thirty-three : ◌≡◌ {A = ℕ} 33 32 → ⊥
      thirty-three e = omega (arith, e)

-- What is said of a reading that comes to a tree

says_holds : {text : List ℕ} {A : Type 0} {Q : A → Type 0} {low : ℕ} {ok : Bool} {at : ℕ} {r : Reading A}
    → Says text low Q ok at r → Holds (λ a us. Q a × ((us ≡ tokens_at text at) × (low ≤ at))) r
says_holds (reads o u l h p) = holds (p, (u, l))
says_holds (leaves-at o e) = off

pub enters-holds : {text : List ℕ} {A : Type 0} {ds : A → List Declared} {σ : Entries} {ok : Bool} {at : ℕ}
    {τ : Entries} {r : Reading A} → Enters text ds σ ok at τ r
    → Holds (λ a us. (ok ≡ true → us ≡ tokens_at text at) × Entering text (ds a) σ ok τ) r
enters-holds (enters u e) = holds (u, e)
enters-holds (left o) = off

-- the parameters' count is put into the row after their types
counted-row : (ds : List Declared) (a k : ℕ) → set (typed 0 ds (empty_row a 0)) 1 k ≡ typed 0 ds (empty_row a k)
unfolding empty_row
counted-row ds a k = ap (λ (ws : List ℕ). set ws 1 k) (typed-row ds a 0) ∙ sym (typed-row ds a k)

module _ (text scope scope' row' : List ℕ) (a n used w : ℕ) (long : length scope ≡ 64) where
  pub counted-entering : (ps : List Parameter) {ok : Bool} → (n ≤ 16 → w ≡ n)
      → Entering text (map parameter_of ps) (tables scope 0 (empty_row a 0) 0) ok (tables scope' n row' used)
      → Entering text (map parameter_of ps) (tables scope 0 (empty_row a (length ps)) 0) ok
      (tables scope' n (set row' 1 w) n)
  counted-entering ps f (too_many o h) = too_many o h
  counted-entering ps f (all-entered o e) =
      let slots : n ≤ used = e.fits.slots in
      let room : used ≤ 16 = e.fits.room in
      let few : n ≤ 16 = omega arith in
      let count : n ≡ 0 + length (map parameter_of ps) = e.count in
      let many : w ≡ length ps = f few ∙ (let l = length-map ps parameter_of in omega arith) in
      all-entered o (record {
        count = count;
        given = count;
        fits = record { slots = omega arith; room = few; long = e.fits.long };
        types =
            ap (λ (ws : List ℕ). set ws 1 w) e.types ∙ counted-row (map parameter_of ps) a w
            ∙ ap (λ (k : ℕ). typed 0 (map parameter_of ps) (empty_row a k)) many;
        kept = e.kept;
        places = e.places;
      })

-- where they are too many, nothing is said of the tables
pub too-many-rows : {text scope a b scope' row' scope'' row'' : List ℕ} {n used k m : ℕ} (ps : List Parameter)
    → Entering text (map parameter_of ps) (tables scope 0 a 0) false (tables scope' n row' used)
    → Entering text (map parameter_of ps) (tables scope 0 b 0) false (tables scope'' k row'' m)
too-many-rows ps (too_many o h) = too_many o h
too-many-rows ps (all-entered o e) = absurd (clash refl (passes o))

-- what is refused is not a header
pub header-refused : {text scope scope' row' : List ℕ} {from at start end code n : ℕ} {ok : Bool}
    (e : GrammarError) → ReturnSays text from (Err e) (return_type (tokens_at text from))
    → HeaderEnters text from scope ok at start end code n scope' row'
unfolding header_rule and_then
header-refused {text} {scope} {scope'} {row'} {from} {at} {start} {end} {code} {n} {ok} e says long =
    refused (return_type (tokens_at text from)) says
  where
    refused : (r : Reading (Option NonVoidType)) → ReturnSays text from (Err e) r
        → Holds (HeaderEntered text from scope ok at start end code n scope' row')
        (and_then r (λ t us. expect_name us (λ x vs. expect "(" vs (λ ws.
        and_then (parameters_rule ws) (λ ps xs. read (record { returns = t; name = x; parameters = ps }) xs)))))
    refused (read a us) (reads o u h w p) = absurd (clash refl (passes o))
    refused (leaves i) s = off

module _ (text : List ℕ) (from : ℕ) (scope scope' row' scope'' row'' : List ℕ) (t : TypeAt) (name opening : TokenAt)
    (ok : Bool) (at at' n used n' : ℕ) where
  pub header-enters : ReturnSays text from (Ok t) (return_type (tokens_at text from)) → NextToken text t.at name
      → NextToken text name.end opening
      → ParametersEnter text opening.end (tables scope 0 (empty_row t.code 0) 0) ok at (tables scope' n row' used)
      → (ok ≡ true → at' ≡ at)
      → (length scope ≡ 64 → (ps : List Parameter)
      → Entering text (map parameter_of ps) (tables scope 0 (empty_row t.code 0) 0) ok (tables scope' n row' used)
      → Entering text (map parameter_of ps) (tables scope 0 (empty_row t.code (length ps)) 0) ok
      (tables scope'' n' row'' n'))
      → HeaderEnters text from scope ok at' name.start name.end t.code n' scope'' row''
  unfolding header_rule
  header-enters says k j enter same counted long =
      then-holds (says_holds says) (λ r us q. name-holds us (λ x vs s.
      let y = name-passed text t.at name k q.1.0 s in
      expect-holds "(" vs (λ ws b.
      let z = mark-passed text "(" 19 is_open (λ g. omega (arith, g)) name.end opening j y.0 b in
      let fits : Fits (tables scope 0 (empty_row t.code 0) 0) =
      record { slots = omega arith; room = omega arith; long = long } in
      subst (λ (ts : List Token).
      Holds (HeaderEntered text from scope ok at' name.start name.end t.code n' scope'' row'')
      (and_then (parameters_rule ts) (λ ps xs. read (record { returns = r; name = x; parameters = ps }) xs))) (sym z.0)
      (then-holds (enters-holds (enter.says fits)) (λ ps xs g. holds (record {
        place = sym y.1.1.0;
        spelt = y.1.1.1;
        type = q.0;
        left = λ o. g.0 o ∙ ap (tokens_at text) (sym (same o));
        onward = λ o. subst (λ (a : ℕ). (from < a) × (a ≤ length text)) (sym (same o))
            (further q.1.1 y.1.0 z.1.0 (enter.onward o).0, (enter.onward o).1);
        entering = counted long ps g.1;
      }))))))
    where
      further : {b c d : ℕ} → suc from ≤ b → b < c → c < d → suc d ≤ at → from < at
      further l m o p = omega arith
