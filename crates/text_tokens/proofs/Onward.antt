-- What `tokens_from` reads, one token at a time.
use Prim.Native.Nat.{ℕ, suc, ◌+◌, ◌≤◌, ◌<◌}
use native.Mathlib.Nat.{add-zero, le_of_suc-le-suc}
use native.Mathlib.Omega.{arith}
use mathlib.Core.Path.{◌≡◌, refl, ap, ◌∙◌}
use mathlib.Core.Logic.{◌⊎◌, inl, inr, ⊎_elim}
use mathlib.Core.Bool.{Bool, true, false, cond, ◌&&◌}
use mathlib.Core.List.{List, [], ◌∷◌, ◌++◌, append-nil, append_assoc}
use lib.Dec.{eqb}
use lib.ListN.{length, get_or, take, drop}
use Rattle.lists.specs.Lists.{same}
use Rattle.lists.proofs.Tests.{decide, cond_both, cond-each}
use Rattle.text.specs.Tree.{ascii}
use Rattle.text_parse.specs.Tokens.{Token, is_white, is_digit, is_letter, extends, finished, tokens_from}
use Rattle.text_tokens.specs.PlacesCode.{leading, is_word_byte}

abbrev pub token : List ℕ → ℕ → Token
token bs i = record { bytes = bs; at = i }

and_yes : (t : Bool) → (t && true) ≡ t
and_yes true = refl
and_yes false = refl

and_no : (t : Bool) → (t && false) ≡ false
and_no true = refl
and_no false = refl

-- while no token is begun, it does not matter where one would have begun
pub unbegun : (at to i : ℕ) (bs : List ℕ) → tokens_from [] at i bs ≡ tokens_from [] to i bs
unfolding tokens_from extends finished
unbegun at to i [] = refl
unbegun at to i (b ∷ bs) = refl

pub at-end : (i : ℕ) → tokens_from [] i i [] ≡ token [] i ∷ []
unfolding tokens_from extends finished
at-end i = refl

pub at-white : (i b : ℕ) (bs : List ℕ) → is_white b ≡ true
    → tokens_from [] i i (b ∷ bs) ≡ tokens_from [] (suc i) (suc i) bs
unfolding tokens_from extends finished
at-white i b bs t = rw t (unbegun i (suc i) (suc i) bs)

fresh : (b : ℕ) → extends [] b ≡ false
unfolding extends
fresh b = refl

-- a byte that is no white space begins a token
at-token : (i b : ℕ) (bs : List ℕ) → is_white b ≡ false → tokens_from [] i i (b ∷ bs) ≡ tokens_from (b ∷ []) i (suc i) bs
unfolding tokens_from extends finished
at-token i b bs t = rw t

-- a token that is begun: it goes on with a byte, or ends before it or with the text
module _ (a : ℕ) (as' : List ℕ) (at i : ℕ) where
  abbrev Ends : List ℕ → Type 0
  Ends bs = tokens_from (a ∷ as') at i bs ≡ token (a ∷ as') at ∷ tokens_from [] i i bs

  goes_further : (b : ℕ) (bs : List ℕ) → extends (a ∷ as') b ≡ true
      → tokens_from (a ∷ as') at i (b ∷ bs) ≡ tokens_from (a ∷ (as' ++ (b ∷ []))) at (suc i) bs
  unfolding tokens_from
  goes_further b bs t = rw t

  ends-before : (b : ℕ) (bs : List ℕ) → extends (a ∷ as') b ≡ false → Ends (b ∷ bs)
  unfolding tokens_from finished
  ends-before b bs t = rw t (rw (fresh b))

  ends_last : Ends []
  unfolding tokens_from finished
  ends_last = refl

  ends : (bs : List ℕ) → ((b : ℕ) → extends (a ∷ as') b ≡ false) → Ends bs
  ends [] h = ends_last
  ends (b ∷ bs) h = ends-before b bs (h b)

  -- k further bytes are the token's
  abbrev Extends : ℕ → List ℕ → Type 0
  Extends k bs =
      tokens_from (a ∷ as') at i bs ≡ token (a ∷ (as' ++ take k bs)) at ∷ tokens_from [] (i + k) (i + k) (drop k bs)

  goes_none : (bs : List ℕ) → Ends bs → Extends 0 bs
  goes_none bs e = e ∙ rw (append-nil, add-zero) refl

goes_one : (a : ℕ) (as' : List ℕ) (at i k b : ℕ) (bs : List ℕ) → extends (a ∷ as') b ≡ true
    → Extends a (as' ++ (b ∷ [])) at (suc i) k bs → Extends a as' at i (suc k) (b ∷ bs)
goes_one a as' at i k b bs t g =
    let shift : suc i + k ≡ i + suc k = omega arith in
    goes_further a as' at i b bs t ∙ g
    ∙ (λ j. token (a ∷ append_assoc as' (b ∷ []) (take k bs) j) at ∷ tokens_from [] (shift j) (shift j) (drop k bs))

leading-on : (f : ℕ → Bool) (b : ℕ) (bs : List ℕ) → f b ≡ true → leading f (b ∷ bs) ≡ suc (leading f bs)
unfolding leading
leading-on f b bs t = rw t

leading-none : (f : ℕ → Bool) (b : ℕ) (bs : List ℕ) → f b ≡ false → leading f (b ∷ bs) ≡ 0
unfolding leading
leading-none f b bs t = rw t

leading_end : (f : ℕ → Bool) → leading f [] ≡ 0
unfolding leading
leading_end f = refl

-- a token that goes on with every byte of a class
module _ (f : ℕ → Bool) (a : ℕ) (goes_on : (as' : List ℕ) (b : ℕ) → extends (a ∷ as') b ≡ f b) where
  goes : (as' : List ℕ) (at i : ℕ) (bs : List ℕ) → Extends a as' at i (leading f bs) bs
  goes as' at i [] = rw (leading_end f) (goes_none a as' at i [] (ends_last a as' at i))
  goes as' at i (b ∷ bs) =
      ⊎_elim
      (λ t. rw (leading-on f b bs t)
      (goes_one a as' at i (leading f bs) b bs (goes_on as' b ∙ t) (goes (as' ++ (b ∷ [])) at (suc i) bs)))
      (λ t. rw (leading-none f b bs t)
      (goes_none a as' at i (b ∷ bs) (ends-before a as' at i b bs (goes_on as' b ∙ t))))
      (decide (f b))

-- The first byte says how a token goes on

module _ (a : ℕ) (no-letter : is_letter a ≡ false) where
  extends-number : is_digit a ≡ true → (as' : List ℕ) (b : ℕ) → extends (a ∷ as') b ≡ is_digit b
  unfolding extends
  extends-number d as' b = rw (no-letter, d)

  module _ (no_digit : is_digit a ≡ false) where
    extends-mark : (as' : List ℕ) (b : ℕ) → extends (a ∷ as') b ≡ (same (a ∷ as') (ascii "=") && eqb b 61)
    unfolding extends
    extends-mark as' b = rw (no-letter, no_digit)

    extends-one : (b : ℕ) → extends (a ∷ []) b ≡ (eqb a 61 && eqb b 61)
    extends-one b = extends-mark [] b ∙ ap (λ (t : Bool). t && eqb b 61) (and_yes (eqb a 61))

    extends-two : (b c : ℕ) → extends (a ∷ b ∷ []) c ≡ false
    extends-two b c = extends-mark (b ∷ []) c ∙ ap (λ (t : Bool). t && eqb c 61) (and_no (eqb a 61))

    goes-mark : (at i : ℕ) (bs : List ℕ) → Extends a [] at i (cond (eqb a 61 && eqb (get_or bs 0 0) 61) 1 0) bs
    goes-mark at i [] = rw (and_no (eqb a 61)) (goes_none a [] at i [] (ends_last a [] at i))
    goes-mark at i (b ∷ bs) =
        ⊎_elim
        (λ t. rw t
        (goes_one a [] at i 0 b bs (extends-one b ∙ t)
        (goes_none a (b ∷ []) at (suc i) bs (ends a (b ∷ []) at (suc i) bs (extends-two b)))))
        (λ t. rw t (goes_none a [] at i (b ∷ bs) (ends-before a [] at i b bs (extends-one b ∙ t))))
        (decide (eqb a 61 && eqb b 61))

extends-word : (a : ℕ) → is_letter a ≡ true → (as' : List ℕ) (b : ℕ) → extends (a ∷ as') b ≡ is_word_byte b
unfolding extends
extends-word a l as' b = rw l

-- how many bytes a token has after its first
abbrev pub further : ℕ → List ℕ → ℕ
further a bs =
    cond (is_letter a) (leading is_word_byte bs)
    (cond (is_digit a) (leading is_digit bs) (cond (eqb a 61 && eqb (get_or bs 0 0) 61) 1 0))

goes-token : (a at i : ℕ) (bs : List ℕ) → Extends a [] at i (further a bs) bs
goes-token a at i bs =
    cond-each (λ k. Extends a [] at i k bs) (is_letter a)
    (λ l. goes is_word_byte a (extends-word a l) [] at i bs)
    (λ l. cond-each (λ k. Extends a [] at i k bs) (is_digit a)
    (λ d. goes is_digit a (extends-number a l d) [] at i bs)
    (λ d. goes-mark a l d at i bs))

-- a token, and the tokens after it
pub reads-token : (a i : ℕ) (bs : List ℕ) → is_white a ≡ false
    → tokens_from [] i i (a ∷ bs)
    ≡ token (a ∷ take (further a bs) bs) i
    ∷ tokens_from [] (suc i + further a bs) (suc i + further a bs) (drop (further a bs) bs)
reads-token a i bs t = at-token i a bs t ∙ goes-token a i (suc i) bs

-- white space at the front
pub reads-white : (i : ℕ) (bs : List ℕ)
    → tokens_from [] i i bs
    ≡ tokens_from [] (i + leading is_white bs) (i + leading is_white bs) (drop (leading is_white bs) bs)
reads-white i [] = rw (leading_end is_white, add-zero) refl
reads-white i (b ∷ bs) =
    let k = leading is_white bs in
    let shift : suc i + k ≡ i + suc k = omega arith in
    ⊎_elim
    (λ t. rw (leading-on is_white b bs t)
    (at-white i b bs t ∙ reads-white (suc i) bs ∙ ap (λ (n : ℕ). tokens_from [] n n (drop k bs)) shift))
    (λ t. rw (leading-none is_white b bs t, add-zero) refl)
    (decide (is_white b))

-- the bytes at the front that pass a test: they are no more than there are, and the next one fails it
pub leading-most : (f : ℕ → Bool) (bs : List ℕ) → leading f bs ≤ length bs
leading-most f [] = rw (leading_end f) (omega arith)
leading-most f (b ∷ bs) =
    let most = leading-most f bs in
    ⊎_elim (λ t. rw (leading-on f b bs t) (omega arith)) (λ t. rw (leading-none f b bs t) (omega arith)) (decide (f b))

pub leading-stops : (f : ℕ → Bool) (bs : List ℕ) → leading f bs < length bs → f (get_or bs (leading f bs) 0) ≡ false
leading-stops f [] h = absurd (omega arith)
leading-stops f (b ∷ bs) h = step (decide (f b)) (leading-stops f bs) h
  where
    step : (f b ≡ true) ⊎ (f b ≡ false) → (leading f bs < length bs → f (get_or bs (leading f bs) 0) ≡ false)
        → leading f (b ∷ bs) < length (b ∷ bs) → f (get_or (b ∷ bs) (leading f (b ∷ bs)) 0) ≡ false
    step (inl t) later h = rw (leading-on f b bs t) (later (le_of_suc-le-suc (rw (leading-on f b bs t) at h)))
    step (inr t) later h = rw (leading-none f b bs t) t

pub further-most : (a : ℕ) (bs : List ℕ) → further a bs ≤ length bs
further-most a bs =
    cond-each (λ k. k ≤ length bs) (is_letter a)
    (λ l. leading-most is_word_byte bs)
    (λ l. cond-each (λ k. k ≤ length bs) (is_digit a) (λ d. leading-most is_digit bs) (λ d. mark bs))
  where
    mark : (bs : List ℕ) → cond (eqb a 61 && eqb (get_or bs 0 0) 61) 1 0 ≤ length bs
    mark [] = rw (and_no (eqb a 61)) (omega arith)
    mark (b ∷ bs) = cond_both (λ k. k ≤ suc (length bs)) (eqb a 61 && eqb b 61) (omega arith) (omega arith)
