-- What a reading leaves, token by token: laws of `Leaving` for each way in which readings are put together.
use Prim.Native.Nat.{ℕ, zero, suc}
use Prim.Native.String.{String}
use mathlib.Core.Path.{◌≡◌}
use mathlib.Core.Bool.{Bool, true, cond, ◌&&◌}
use mathlib.Core.List.{List, [], ◌∷◌}
use Rattle.lists.specs.Lists.{same}
use Rattle.lists.proofs.Tests.{passes, cond-each}
use Rattle.text.specs.Tree.{ascii, Name}
use Rattle.text_parse.specs.Tokens.{Token, is, is_name, is_numeral, name_of, starts_with}
use Rattle.text_parse.specs.Grammar.{Reading, and_then, first, rest, leaves_at, next?, expect, expect_name, deeper}
use Rattle.text_parse.specs.Left.{Leaving, leaving, not-read, HasBytes}

-- A token that is a mark, a word or a number has bytes

same_bytes : (bs cs : List ℕ) → HasBytes cs → same bs cs ≡ true → HasBytes bs
same_bytes [] [] h e = h
same_bytes [] (c ∷ cs) h e = absurd (passes e)
same_bytes (b ∷ bs) cs h e = tt

starts-bytes : (f : ℕ → Bool) (bs : List ℕ) (b : Bool) → (starts_with f bs && b) ≡ true → HasBytes bs
starts-bytes f [] b e = absurd (passes e)
starts-bytes f (c ∷ bs) b e = tt

pub is-bytes : (s : String) (t : Token) → HasBytes (ascii s) → is s t ≡ true → HasBytes t.bytes
is-bytes s t h e = same_bytes t.bytes (ascii s) h e

pub name-bytes : (t : Token) → is_name t ≡ true → HasBytes t.bytes
unfolding is_name
name-bytes t e = starts-bytes _ t.bytes _ e

numeral-bytes : (f : ℕ → Bool) (bs : List ℕ) → starts_with f bs ≡ true → HasBytes bs
numeral-bytes f [] e = absurd (passes e)
numeral-bytes f (c ∷ bs) e = tt

pub is_numeral-bytes : (t : Token) → is_numeral t ≡ true → HasBytes t.bytes
unfolding is_numeral
is_numeral-bytes t e = numeral-bytes _ t.bytes e

-- one reading after another
pub and_then-leaving : {P Q : List Token → Type 0} {A B : Type 0} {r : Reading A} {k : A → List Token → Reading B}
    → Leaving P r → ((a : A) (ts : List Token) → P ts → Leaving Q (k a ts)) → Leaving Q (and_then r k)
unfolding and_then
and_then-leaving (leaving p) f = f _ _ p
and_then-leaving not-read f = not-read

pub leaves_at-leaving : {P : List Token → Type 0} {A : Type 0} (ts : List Token) → Leaving P {A = A} (leaves_at ts)
unfolding leaves_at
leaves_at-leaving ts = not-read

pub deeper-leaving : {P : List Token → Type 0} {A : Type 0} (left : ℕ) (ts : List Token)
    {k : ℕ → Reading A} → ((l : ℕ) → Leaving P (k l)) → Leaving P (deeper left ts k)
unfolding deeper
deeper-leaving zero ts f = leaves_at-leaving ts
deeper-leaving (suc left) ts f = f left

-- P holds before some tokens are read, and Q once a token that has bytes is
pub record Reads (P Q : List Token → Type 0) : Type 0 where
  pub over : (ts : List Token) → P ts → HasBytes (first ts).bytes → Q (rest ts)
  pub weaker : {ts : List Token} → Q ts → P ts

module _ {P Q : List Token → Type 0} (w : Reads P Q) {A : Type 0} where
  -- a choice by the first token
  pub next-leaving : (s : String) (ts : List Token) {x y : Reading A} → HasBytes (ascii s) → P ts
      → (Q (rest ts) → Leaving Q x) → Leaving Q y → Leaving Q (cond (next? s ts) x y)
  next-leaving s ts h p f g =
      cond-each (Leaving Q) (next? s ts) (λ e. f (w.over ts p (is-bytes s (first ts) h e))) (λ e. g)

  -- a token that must stand here, and a name
  pub expect-leaving : (s : String) (ts : List Token) {k : List Token → Reading A} → HasBytes (ascii s) → P ts
      → ((us : List Token) → Q us → Leaving Q (k us)) → Leaving Q (expect s ts k)
  unfolding expect
  expect-leaving s ts h p f = next-leaving s ts h p (f (rest ts)) (leaves_at-leaving ts)

  pub expect_name-leaving : (ts : List Token) {k : Name → List Token → Reading A} → P ts
      → ((x : Name) (us : List Token) → Q us → Leaving Q (k x us)) → Leaving Q (expect_name ts k)
  unfolding expect_name
  expect_name-leaving ts p f =
      cond-each (Leaving Q) (is_name (first ts))
      (λ e. f (name_of (first ts)) (rest ts) (w.over ts p (name-bytes (first ts) e))) (λ e. leaves_at-leaving ts)
