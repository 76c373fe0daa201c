-- When two readings put together in the same way are equal: their parts are, on the tokens that the parts are given.
use Prim.Native.Nat.{ℕ, zero, suc}
use Prim.Native.String.{String}
use native.Mathlib.Omega.{arith}
use mathlib.Core.Path.{◌≡◌, refl, ap, ◌∙◌}
use mathlib.Core.Bool.{Bool, true, false, cond}
use mathlib.Core.List.{List, [], ◌∷◌}
use Rattle.text.specs.Tree.{ascii, Name}
use Rattle.text_parse.specs.Tokens.{Token, is, is_name, name_of}
use Rattle.text_parse.specs.Grammar.{Reading, and_then, first, rest, next?, expect, expect_name, deeper}
use Rattle.text_parse.specs.Left.{Leaving, leaving, not-read, HasBytes, Fewer}
use Rattle.text_parse.proofs.Leaving.{is-bytes, name-bytes}

pub rest-fewer : (ts : List Token) → HasBytes (first ts).bytes → Fewer ts (rest ts)
rest-fewer [] h = absurd h
rest-fewer (t ∷ ts) h = omega arith

pub cond_same : {A : Type 0} (b : Bool) {x y u v : A} → (b ≡ true → x ≡ u) → (b ≡ false → y ≡ v)
    → cond b x y ≡ cond b u v
cond_same true e f = e refl
cond_same false e f = f refl

and_then-rest : {P : List Token → Type 0} {A B : Type 0} {r : Reading A} {k l : A → List Token → Reading B}
    → Leaving P r → ((a : A) (us : List Token) → P us → k a us ≡ l a us) → and_then r k ≡ and_then r l
unfolding and_then
and_then-rest (leaving p) f = f _ _ p
and_then-rest not-read f = refl

pub and_then-same : {P : List Token → Type 0} {A B : Type 0} {r s : Reading A} {k l : A → List Token → Reading B}
    → r ≡ s → Leaving P r → ((a : A) (us : List Token) → P us → k a us ≡ l a us) → and_then r k ≡ and_then s l
and_then-same {l = l} e p f = and_then-rest p f ∙ ap (λ x. and_then x l) e

pub deeper-same : {A : Type 0} (left : ℕ) (ts : List Token) {k l : ℕ → Reading A} → ((i : ℕ) → k i ≡ l i)
    → deeper left ts k ≡ deeper left ts l
unfolding deeper
deeper-same zero ts e = refl
deeper-same (suc left) ts e = e left

module _ {A : Type 0} where
  -- a choice by the first token: where it is this one, there are fewer after it
  pub next-same : (s : String) (ts : List Token) {x y u v : Reading A} → HasBytes (ascii s)
      → (Fewer ts (rest ts) → x ≡ u) → y ≡ v → cond (next? s ts) x y ≡ cond (next? s ts) u v
  next-same s ts h e f =
      cond_same (next? s ts) (λ is. e (rest-fewer ts (is-bytes s (first ts) h is))) (λ not. f)

  pub expect-same : (s : String) (ts : List Token) {k l : List Token → Reading A} → HasBytes (ascii s)
      → ((us : List Token) → Fewer ts us → k us ≡ l us) → expect s ts k ≡ expect s ts l
  unfolding expect
  expect-same s ts h e = next-same s ts h (e (rest ts)) refl

  pub expect_name-same : (ts : List Token) {k l : Name → List Token → Reading A}
      → ((x : Name) (us : List Token) → Fewer ts us → k x us ≡ l x us) → expect_name ts k ≡ expect_name ts l
  unfolding expect_name
  expect_name-same ts e =
      cond_same (is_name (first ts))
      (λ is. e (name_of (first ts)) (rest ts) (rest-fewer ts (name-bytes (first ts) is))) (λ not. refl)
