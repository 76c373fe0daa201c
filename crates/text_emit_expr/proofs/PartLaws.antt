-- A measurement and new by their tokens.
use Prim.Native.Nat.{ℕ, suc, ◌≤◌, ◌<◌}
use Prim.Native.String.{String}
use native.Mathlib.Omega.{arith}
use mathlib.Core.Path.{◌≡◌, refl, sym, ap, ◌∙◌, subst}
use mathlib.Core.Bool.{Bool, true, false, cond}
use mathlib.Core.List.{List, [], ◌∷◌}
use borrow.Author.Tests.{eqb-true, eq-eqb, ne_eqb}
use lib.Dec.{eqb}
use Rattle.lists.specs.Lists.{same}
use Rattle.lists.proofs.Laws.{same-equal}
use Rattle.lists.proofs.Tests.{passes, clash}
use Rattle.text.specs.Tree.{ascii, Name, Carried, Expr, new_qubit, new_channel, new_end}
use Rattle.text.specs.Translation.{instruction, carried_code, Scope}
use Rattle.text_parse.specs.Tokens.{Token, is_name, name_of}
use Rattle.text_parse.specs.Grammar.{Reading, read, leaves, and_then, first, rest, leaves_at, next?, expect, expect_name, bracketed, allocated, allocation, measured_name}
use Rattle.text_tokens.specs.Places.{tokens_at, token_of}
use Rattle.text_tokens.specs.KindsCode.{kind_of}
use Rattle.text_tokens.specs.NextCode.{NextToken}
use Rattle.text_tokens.specs.declared.next.TokenAt.{TokenAt}
use Rattle.text_tokens.proofs.KindTests.{is-end, is-name, is-qbit, is-channel, is-channel-end}
use Rattle.text_types.specs.SaysCode.{Passed, Says, reads, leaves-at}
use Rattle.text_types.proofs.Answers.{kind-next, passed-next, says-bounds}
use Rattle.text_types.proofs.TypeLaws.{bracketed-of}
use Rattle.text_numbering.specs.CodeBy.{code_by, place_of}
use Rattle.text_emit_expr.specs.PartsCode.{UpTo, Reach, MeasuredUpTo, BracketsUpTo, AllocatedUpTo}
use Rattle.text_emit_expr.proofs.EndedRest.{not_left, expect-read}

-- What a reading has come to

tree_or : {A : Type 0} → A → Reading A → A
tree_or b (read a us) = a
tree_or b (leaves i) = b

left_or : {A : Type 0} → List Token → Reading A → List Token
left_or vs (read a us) = us
left_or vs (leaves i) = vs

pub same-tree : {A : Type 0} (a b : A) (us vs : List Token) → read a us ≡ read b vs → a ≡ b
unfolding tree_or
same-tree a b us vs e = ap (tree_or a) e

pub same_left : {A : Type 0} (a b : A) (us vs : List Token) → read a us ≡ read b vs → us ≡ vs
unfolding left_or
same_left a b us vs e = ap (left_or us) e

-- a reading and then another come to something: both do
pub data ReadsBoth {A B : Type 0} (m : Reading A) (f : A → List Token → Reading B) (b : B) (vs : List Token) : Type 0
  where
    both_read : (a : A) (us : List Token) → m ≡ read a us → f a us ≡ read b vs → ReadsBoth m f b vs

pub then-both : {A B : Type 0} (m : Reading A) (f : A → List Token → Reading B) (b : B) (vs : List Token)
    → and_then m f ≡ read b vs → ReadsBoth m f b vs
unfolding and_then
then-both (read a us) f b vs e = both_read a us refl e
then-both (leaves i) f b vs e = absurd (not_left refl e)

-- The next token, which must stand

module _ (text : List ℕ) (i : ℕ) (t : TokenAt) (n : NextToken text i t) where
  pub token-is : first (tokens_at text i) ≡ token_of text t.start t.end
  token-is = ap first n.reads

  -- a token that is a word is none that ends the text
  word_stands : (s : String) → same [] (ascii s) ≡ false → next? s (tokens_at text i) ≡ true → t.kind ≡ 32 → ⊥
  word_stands s f e k =
      let u : Token = first (tokens_at text i) in
      let none : u.bytes ≡ [] =
      same-equal u.bytes []
      (passes (is-end u ∙ eq-eqb (kind_of u.bytes) 32 (kind-next text i t n ∙ k))) in
      clash f (passes (sym (ap (λ (bs : List ℕ). same bs (ascii s)) none) ∙ e))

  pub word-passed : (s : String) → same [] (ascii s) ≡ false → next? s (tokens_at text i) ≡ true → Passed text i t.end
  word-passed s f e = passed-next text i t n (word_stands s f e)

  pub expect-next : {A : Type 0} (s : String) (f : List Token → Reading A) (a : A) (us : List Token)
      → same [] (ascii s) ≡ false → expect s (tokens_at text i) f ≡ read a us
      → Passed text i t.end × (f (tokens_at text t.end) ≡ read a us)
  expect-next s f a us none e =
      let both = expect-read s (tokens_at text i) f a us e in
      let pass : Passed text i t.end = word-passed s none both.0 in
      (pass, ap f (sym pass.after) ∙ both.1)

  pub name-next : {A : Type 0} (f : Name → List Token → Reading A) (a : A) (us : List Token)
      → expect_name (tokens_at text i) f ≡ read a us
      → Passed text i t.end × (f (name_of (token_of text t.start t.end)) (tokens_at text t.end) ≡ read a us)
  unfolding expect_name leaves_at
  name-next f a us e = by (is_name (first (tokens_at text i))) refl e
    where
      by : (b : Bool) → is_name (first (tokens_at text i)) ≡ b
          → cond b (f (name_of (first (tokens_at text i))) (rest (tokens_at text i)))
          (leaves (first (tokens_at text i)).at) ≡ read a us
          → Passed text i t.end
          × (f (name_of (token_of text t.start t.end)) (tokens_at text t.end) ≡ read a us)
      by true b h =
          let kind : t.kind ≡ 33 =
          sym (kind-next text i t n)
          ∙ eqb-true (kind_of (first (tokens_at text i)).bytes) 33 (sym (is-name (first (tokens_at text i))) ∙ b) in
          let pass : Passed text i t.end = passed-next text i t n (λ k. omega (arith, kind, k)) in (
            pass,
            ap (λ u. f (name_of u) (tokens_at text t.end)) (sym token-is)
                ∙ ap (λ ts. f (name_of (first (tokens_at text i))) ts) (sym pass.after) ∙ h,
          )
      by false b h = absurd (not_left refl h)

-- one token and then more
pub up_to : (text : List ℕ) (i j at : ℕ) (us : List Token) → Passed text i j → UpTo text j at us → UpTo text i at us
up_to text i j at us p u =
    let a : i < j = p.onward in
    let b : j < at = u.onward in
    record { left = u.left; onward = omega arith; inside = u.inside }

-- tokens one after the other never leave the text
pub reach-next : (text : List ℕ) (i j : ℕ) (t : TokenAt) → Reach text i j → NextToken text j t → Reach text i t.end
reach-next text i j t r n h =
    let before = r h in
    let a : i ≤ j = before.0 in
    let b : j ≤ t.start = n.starts in
    let c : t.start ≤ t.end = n.ends in
    (omega arith, n.within before.1)

pub reach_here : (text : List ℕ) (i : ℕ) → Reach text i i
reach_here text i h = (omega arith, h)

pub reach-then : (text : List ℕ) (i j k : ℕ) → Reach text i j → Reach text j k → Reach text i k
reach-then text i j k f g h =
    let a = f h in
    let b = g a.1 in
    let c : i ≤ j = a.0 in
    let d : j ≤ k = b.0 in
    (omega arith, b.1)

module _ (text : List ℕ) (i : ℕ) where
  -- "( )"
  pub brackets-up-to : (a b : TokenAt) → NextToken text i a → NextToken text a.end b → BracketsUpTo text i b.end
  unfolding allocated
  brackets-up-to a b n m e x us q =
      let p = expect-next text i a n "(" (λ us. expect ")" us (λ vs. read e vs)) x us refl q in
      let r = expect-next text a.end b m ")" (λ vs. read e vs) x us refl p.1 in (
        up_to text i a.end b.end us p.0
            (record {
              left = sym (same_left e x (tokens_at text b.end) us r.1);
              onward = r.0.onward;
              inside = r.0.within;
            }),
        sym (same-tree e x (tokens_at text b.end) us r.1),
      )

  -- "( StdBasis , variableName )"
  pub measured-up-to : (a b c d e : TokenAt) → NextToken text i a → NextToken text a.end b
      → NextToken text b.end c
      → NextToken text c.end d → NextToken text d.end e → MeasuredUpTo text i d.start d.end e.end
  unfolding measured_name
  measured-up-to a b c d e na nb nc nd ne q us h =
      let last : Name → List Token → Reading Name = λ q xs. expect ")" xs (λ ys. read q ys) in
      let name : List Token → Reading Name = λ ws. expect_name ws last in
      let comma : List Token → Reading Name = λ vs. expect "," vs name in
      let x = name_of (token_of text d.start d.end) in
      let p₁ = expect-next text i a na "(" (λ us. expect "StdBasis" us comma) q us refl h in
      let p₂ = expect-next text a.end b nb "StdBasis" comma q us refl p₁.1 in
      let p₃ = expect-next text b.end c nc "," name q us refl p₂.1 in
      let p₄ = name-next text c.end d nd last q us p₃.1 in
      let p₅ = expect-next text d.end e ne ")" (λ ys. read x ys) q us refl p₄.1 in (
        up_to text i a.end e.end us p₁.0
            (up_to text a.end b.end e.end us p₂.0
            (up_to text b.end c.end e.end us p₃.0
            (up_to text c.end d.end e.end us p₄.0
            (record {
              left = sym (same_left x q (tokens_at text e.end) us p₅.1);
              onward = p₅.0.onward;
              inside = p₅.0.within;
            })))),
        ap (λ (y : Name). y.spelling) (sym (same-tree x q (tokens_at text e.end) us p₅.1)),
      )

-- new T ( )

-- what holds of a reading that has come to something
pub data PartAt (text : List ℕ) (low : ℕ) {A : Type 0} (P : A → Type 0) (at : ℕ) (a : A) (us : List Token) : Type 0
  where
    part_at : us ≡ tokens_at text at → low ≤ at → P a → PartAt text low P at a us

pub says-read : (text : List ℕ) (low : ℕ) {A : Type 0} (P : A → Type 0) (ok : Bool) (at : ℕ) (m : Reading A) (a : A)
    (us : List Token) → m ≡ read a us → Says text low P ok at m → PartAt text low P at a us
says-read text low P ok at (read b vs) a us e (reads o u l w p) =
    part_at (sym (same_left b a vs us e) ∙ u) l (subst P (same-tree b a vs us e) p)
says-read text low P ok at (leaves j) a us e (leaves-at o q) = absurd (not_left refl e)

module _ (text : List ℕ) (i : ℕ) (t : TokenAt) (n : NextToken text i t) where
  abbrev ts : List Token
  ts = tokens_at text i

  allocation-kind : (k : ℕ) → t.kind ≡ k
      → allocation ts
      ≡ cond (eqb k 3) (allocated new_qubit (rest ts))
      (cond (eqb k 4) (and_then (bracketed (rest ts) new_channel) allocated)
      (cond (eqb k 5) (and_then (bracketed (rest ts) new_end) allocated) (leaves_at ts)))
  unfolding allocation
  allocation-kind k e =
      let at : (j : ℕ) → eqb (kind_of (first ts).bytes) j ≡ eqb k j =
      λ j. ap (λ (m : ℕ). eqb m j) (kind-next text i t n ∙ e) in
      rw (is-qbit (first ts) ∙ at 3, is-channel (first ts) ∙ at 4, is-channel-end (first ts) ∙ at 5) refl

  stands : (k : ℕ) → t.kind ≡ k → (k ≡ 32 → ⊥) → Passed text i t.end
  stands k e f = passed-next text i t n (λ g. f (sym e ∙ g))

  pub qubit-up-to : (at : ℕ) → t.kind ≡ 3 → BracketsUpTo text t.end at → AllocatedUpTo text i 7 0 at
  unfolding code_by
  qubit-up-to at k b e us h =
      let pass : Passed text i t.end = stands 3 k (λ g. omega arith) in
      let r = b new_qubit e us (ap (allocated new_qubit) (sym pass.after) ∙ sym (allocation-kind 3 k) ∙ h) in
      (up_to text i t.end at us pass r.0, (λ sc. ap (code_by place_of sc) r.1))

  carried-up-to : (k : ℕ) (f : Carried → Expr) (ok : Bool) (code place at : ℕ) → t.kind ≡ k → (k ≡ 32 → ⊥)
      → allocation ts ≡ and_then (bracketed (rest ts) f) allocated
      → Says text (suc t.end) (λ c. code ≡ carried_code c) ok place (bracketed (tokens_at text t.end) (λ c. c))
      → BracketsUpTo text place at → (e : Expr) (us : List Token) → allocation ts ≡ read e us
      → (c : Carried) × (UpTo text i at us × (e ≡ f c) × (code ≡ carried_code c))
  carried-up-to k f ok code place at e not_end is-so says b x us h =
      let pass : Passed text i t.end = stands k e not_end in
      let m : Reading Carried = bracketed (tokens_at text t.end) (λ c. c) in
      outer pass (then-both (bracketed (tokens_at text t.end) f) allocated x us
      (ap (λ us. and_then (bracketed us f) allocated) (sym pass.after) ∙ sym is-so ∙ h))
    where
      inner : Passed text i t.end → (y : Expr) (vs : List Token) → allocated y vs ≡ read x us
          → ReadsBoth (bracketed (tokens_at text t.end) (λ c. c)) (λ c ws. read (f c) ws) y vs
          → (c : Carried) × (UpTo text i at us × (x ≡ f c) × (code ≡ carried_code c))
      inner pass y vs g (both_read c ws p q) =
          of (says-read text (suc t.end) (λ c. code ≡ carried_code c) ok place
          (bracketed (tokens_at text t.end) (λ c. c)) c ws p says)
        where
          of : PartAt text (suc t.end) (λ c. code ≡ carried_code c) place c ws
              → (c : Carried) × (UpTo text i at us × (x ≡ f c) × (code ≡ carried_code c))
          of (part_at l le w) =
              let same : allocated (f c) (tokens_at text place) ≡ read x us =
              ap (allocated (f c)) (sym l) ∙ ap (λ z. allocated z ws) (same-tree (f c) y ws vs q)
              ∙ ap (allocated y) (same_left (f c) y ws vs q) ∙ g in
              let r = b (f c) x us same in
              let up : UpTo text place at us = r.0 in
              let a : place < at = up.onward in
              let first-token : i < t.end = pass.onward in
              (c, (record { left = up.left; onward = omega arith; inside = up.inside }, r.1, w))

      outer : Passed text i t.end → ReadsBoth (bracketed (tokens_at text t.end) f) allocated x us
          → (c : Carried) × (UpTo text i at us × (x ≡ f c) × (code ≡ carried_code c))
      outer pass (both_read y vs p g) =
          inner pass y vs g
          (then-both (bracketed (tokens_at text t.end) (λ c. c)) (λ c ws. read (f c) ws) y vs
          (sym (bracketed-of f (tokens_at text t.end)) ∙ p))

  pub channel-up-to : (ok : Bool) (code place at : ℕ) → t.kind ≡ 4
      → Says text (suc t.end) (λ c. code ≡ carried_code c) ok place (bracketed (tokens_at text t.end) (λ c. c))
      → BracketsUpTo text place at → AllocatedUpTo text i 8 code at
  unfolding code_by
  channel-up-to ok code place at k says b e us h =
      let r = carried-up-to 4 new_channel ok code place at k (λ g. omega arith) (allocation-kind 4 k) says b e us h in
      (r.1.0, (λ sc. ap (code_by place_of sc) r.1.1 ∙ ap (λ (j : ℕ). instruction 8 j ∷ []) (sym r.1.2)))

  pub end-up-to : (ok : Bool) (code place at : ℕ) → (t.kind ≡ 3 → ⊥) → (t.kind ≡ 4 → ⊥)
      → Says text (suc t.end) (λ c. code ≡ carried_code c) ok place (bracketed (tokens_at text t.end) (λ c. c))
      → BracketsUpTo text place at → AllocatedUpTo text i 0 0 at
  unfolding code_by leaves_at
  end-up-to ok code place at f g says b e us h = by (eqb t.kind 5) refl
    where
      by : (c : Bool) → eqb t.kind 5 ≡ c
          → UpTo text i at us × ((sc : Scope) → code_by place_of sc e ≡ instruction 0 0 ∷ [])
      by true c =
          let k : t.kind ≡ 5 = eqb-true t.kind 5 c in
          let r = carried-up-to 5 new_end ok code place at k (λ g. omega arith) (allocation-kind 5 k) says b e us h in
          (r.1.0, (λ sc. ap (code_by place_of sc) r.1.1))
      by false c =
          absurd (not_left {i = (first ts).at}
          (allocation-kind t.kind refl ∙ rw (ne_eqb t.kind 3 f, ne_eqb t.kind 4 g, c) refl) h)

  -- a type that is none leaves the grammar
  bracketed-ok : (P : Carried → Type 0) (low : ℕ) (f : Carried → Expr) (ok : Bool) (place : ℕ) (e : Expr)
      (us : List Token) → Passed text i t.end → and_then (bracketed (rest ts) f) allocated ≡ read e us
      → Says text low P ok place (bracketed (tokens_at text t.end) (λ c. c)) → ok ≡ true
  bracketed-ok P low f ok place e us pass h says =
      outer (then-both (bracketed (tokens_at text t.end) f) allocated e us
      (ap (λ us. and_then (bracketed us f) allocated) (sym pass.after) ∙ h))
    where
      ok_of : (m : Reading Carried) (c : Carried) (vs : List Token) → m ≡ read c vs → Says text low P ok place m
          → ok ≡ true
      ok_of (read b ws) c vs q (reads o u l w p) = o
      ok_of (leaves j) c vs q (leaves-at o p) = absurd (not_left refl q)

      outer : ReadsBoth (bracketed (tokens_at text t.end) f) allocated e us → ok ≡ true
      outer (both_read y vs p g) =
          inner (then-both (bracketed (tokens_at text t.end) (λ c. c)) (λ c ws. read (f c) ws) y vs
          (sym (bracketed-of f (tokens_at text t.end)) ∙ p))
        where
          inner : ReadsBoth (bracketed (tokens_at text t.end) (λ c. c)) (λ c ws. read (f c) ws) y vs → ok ≡ true
          inner (both_read c ws q r) = ok_of (bracketed (tokens_at text t.end) (λ c. c)) c ws q says

  pub bad-up-to : (ok : Bool) (code place op argument at : ℕ) → (t.kind ≡ 3 → ⊥) → ok ≡ false
      → Says text (suc t.end) (λ c. code ≡ carried_code c) ok place (bracketed (tokens_at text t.end) (λ c. c))
      → AllocatedUpTo text i op argument at
  unfolding leaves_at
  bad-up-to ok code place op argument at f off says e us h = absurd (by (eqb t.kind 4) refl (eqb t.kind 5) refl)
    where
      by : (b : Bool) → eqb t.kind 4 ≡ b → (c : Bool) → eqb t.kind 5 ≡ c → ⊥
      by true b c d =
          let k : t.kind ≡ 4 = eqb-true t.kind 4 b in
          clash off (passes (bracketed-ok (λ c. code ≡ carried_code c) (suc t.end) new_channel ok place e us
          (stands 4 k (λ g. omega arith)) (sym (allocation-kind 4 k) ∙ h) says))
      by false b true d =
          let k : t.kind ≡ 5 = eqb-true t.kind 5 d in
          clash off (passes (bracketed-ok (λ c. code ≡ carried_code c) (suc t.end) new_end ok place e us
          (stands 5 k (λ g. omega arith)) (sym (allocation-kind 5 k) ∙ h) says))
      by false b false d =
          not_left {i = (first ts).at} (allocation-kind t.kind refl ∙ rw (ne_eqb t.kind 3 f, b, d) refl) h

-- a place that a reading has come to
pub reach-said : (text : List ℕ) (i : ℕ) {A : Type 0} (P : A → Type 0) (ok : Bool) (at : ℕ) (m : Reading A) → ok ≡ true
    → Says text (suc i) P ok at m → Reach text i at
reach-said text i P ok at m o s h =
    let b = says-bounds text P (suc i) m o s in
    let l : suc i ≤ at = b.0 in
    (omega arith, b.1)
