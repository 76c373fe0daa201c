-- The places of words in a list: laws of `place_from` and `place_of_length`, and what a number that is none of some says.
use Prim.Native.Nat.{ℕ, suc}
use native.Mathlib.Nat.{add-zero}
use native.Mathlib.Omega.{arith}
use mathlib.Core.Path.{◌≡◌, refl, sym, ap, ◌∙◌}
use mathlib.Core.Logic.{⊎_elim}
use mathlib.Core.Bool.{Bool, true, false, cond}
use mathlib.Core.List.{List, [], ◌∷◌}
use borrow.Author.Tests.{ne_eqb, eqb-false}
use lib.Dec.{T, eqb, eqb→eq}
use lib.ListN.{length, get_or, drop}
use lib.Seq.{slice, drop-cons}
use Rattle.lists.specs.Lists.{any, every, All, same}
use Rattle.lists.proofs.Laws.{same-equal}
use Rattle.lists.proofs.Tests.{passes, or_cases, and_left, and_right, cond-each}
use Rattle.text_parse.specs.Tokens.{is_digit, is_letter, reserved}
use Rattle.text_tokens.specs.KindsCode.{marks, place_from, place_of_length, word_kind, word_of_length, mark_kind, kind_of}
use Rattle.text_tokens.proofs.Parts.{same-unlike, part_at}

-- the bytes are none of the words
abbrev pub NoneOf : List (List ℕ) → List ℕ → Type 0
NoneOf ws bs = All (λ w. same bs w ≡ false) ws

pub place_none : (k : ℕ) (ws : List (List ℕ)) (otherwise : ℕ) (bs : List ℕ) → NoneOf ws bs
    → place_from k ws otherwise bs ≡ otherwise
unfolding place_from
place_none k [] otherwise bs h = refl
place_none k (w ∷ ws) otherwise bs h = rw h.0 (place_none (suc k) ws otherwise bs h.1)

-- the words of n bytes
abbrev pub of_length : ℕ → List (List ℕ) → List (List ℕ)
of_length n [] = []
of_length n (w ∷ ws) = cond (eqb (length w) n) (w ∷ of_length n ws) (of_length n ws)

pub place-none-of-length : (n k : ℕ) (ws : List (List ℕ)) (otherwise : ℕ) (bs : List ℕ) → NoneOf (of_length n ws) bs
    → place_of_length n k ws otherwise bs ≡ otherwise
unfolding place_of_length
place-none-of-length n k [] otherwise bs h = refl
place-none-of-length n k (w ∷ ws) otherwise bs h =
    step (eqb (length w) n) (place-none-of-length n (suc k) ws otherwise bs) h
  where
    step : {rest : ℕ} (b : Bool) → (NoneOf (of_length n ws) bs → rest ≡ otherwise)
        → NoneOf (cond b (w ∷ of_length n ws) (of_length n ws)) bs → cond b (cond (same bs w) k rest) rest ≡ otherwise
    step true later g = rw g.0 (later g.1)
    step false later g = later g

-- bytes are among the words where they are among those of their length
pub place-of-length : (n k : ℕ) (ws : List (List ℕ)) (otherwise : ℕ) (bs : List ℕ) → length bs ≡ n
    → place_from k ws otherwise bs ≡ place_of_length n k ws otherwise bs
unfolding place_from place_of_length
place-of-length n k [] otherwise bs e = refl
place-of-length n k (w ∷ ws) otherwise bs e =
    let later = place-of-length n (suc k) ws otherwise bs e in
    cond-each (λ (m : ℕ). cond (same bs w) k (place_from (suc k) ws otherwise bs) ≡ m) (eqb (length w) n)
    (λ t. ap (cond (same bs w) k) later)
    (λ t. rw (same-unlike bs w (λ l. eqb-false (length w) n t (sym l ∙ e))) later)

-- Numbers that are none of some: as a match says it that has passed them all, the last first
abbrev pub Past : List ℕ → ℕ → Type 0
Past [] x = Unit {0}
Past (k ∷ ks) x = Past ks x × (x ≡ k → ⊥)

pub past : (ks : List ℕ) (x : ℕ) → Past ks x → T (any (eqb x) ks) → ⊥
past [] x h t = t
past (k ∷ ks) x h t =
    ⊎_elim (λ e. h.1 (eqb→eq x k e)) (past ks x h.0) (or_cases (eqb x k) (any (eqb x) ks) t)

pub past-at : (ks : List ℕ) (x y : ℕ) → Past ks x → T (any (eqb y) ks) → x ≡ y → ⊥
past-at ks x y h t e = past ks x h (rw e t)

-- no word has n bytes, and none starts with b
pub none-of-length : (ks : List ℕ) (n k : ℕ) (ws : List (List ℕ)) (otherwise : ℕ) (bs : List ℕ) → Past ks n
    → T (every (λ w. any (eqb (length w)) ks) ws) → place_of_length n k ws otherwise bs ≡ otherwise
unfolding place_of_length
none-of-length ks n k [] otherwise bs h t = refl
none-of-length ks n k (w ∷ ws) otherwise bs h t =
    let here = and_left (any (eqb (length w)) ks) (every (λ w. any (eqb (length w)) ks) ws) t in
    let later = and_right (any (eqb (length w)) ks) (every (λ w. any (eqb (length w)) ks) ws) t in
    rw (ne_eqb (length w) n (λ e. past-at ks n (length w) h here (sym e)))
    (none-of-length ks n (suc k) ws otherwise bs h later)

pub none-starts : (ks : List ℕ) (b : ℕ) (bs : List ℕ) (ws : List (List ℕ)) → Past ks b
    → T (every (λ w. any (eqb (get_or w 0 0)) ks) ws) → NoneOf ws (b ∷ bs)
none-starts ks b bs [] h t = tt
none-starts ks b bs ([] ∷ ws) h t =
    (refl, none-starts ks b bs ws h (and_right (any (eqb 0) ks) (every (λ w. any (eqb (get_or w 0 0)) ks) ws) t))
none-starts ks b bs ((a ∷ as') ∷ ws) h t =
    let here = and_left (any (eqb a) ks) (every (λ w. any (eqb (get_or w 0 0)) ks) ws) t in
    let later = and_right (any (eqb a) ks) (every (λ w. any (eqb (get_or w 0 0)) ks) ws) t in
    (rw (ne_eqb b a (past-at ks b a h here)) refl, none-starts ks b bs ws h later)

-- For the code: a word that is found, and bytes that are none

pub word-found : (n : ℕ) (w bs : List ℕ) → same bs w ≡ true → word_of_length n w ≡ word_of_length n bs
word-found n w bs e = ap (word_of_length n) (sym (same-equal bs w (passes e)))

pub word-other : (n : ℕ) (bs : List ℕ) → NoneOf (of_length n reserved) bs → 33 ≡ word_of_length n bs
unfolding word_of_length
word-other n bs h = sym (place-none-of-length n 0 reserved 33 bs h)

pub word-by-length : (n : ℕ) (bs : List ℕ) → length bs ≡ n → word_of_length n bs ≡ word_kind bs
unfolding word_of_length word_kind
word-by-length n bs e = sym (place-of-length n 0 reserved 33 bs e)

abbrev lengths : List ℕ
lengths = 10 ∷ 8 ∷ 7 ∷ 6 ∷ 5 ∷ 4 ∷ 3 ∷ 2 ∷ []

pub word-no-length : (n : ℕ) (bs : List ℕ) → length bs ≡ n → Past lengths n → 33 ≡ word_kind bs
unfolding word_kind
word-no-length n bs e h =
    sym (place-of-length n 0 reserved 33 bs e ∙ none-of-length lengths n 0 reserved 33 bs h tt)

abbrev firsts : List ℕ
firsts = 60 ∷ 61 ∷ 45 ∷ 43 ∷ 59 ∷ 44 ∷ 93 ∷ 91 ∷ 125 ∷ 123 ∷ 41 ∷ 40 ∷ []

pub mark-other : (b : ℕ) → Past firsts b → 35 ≡ mark_kind (b ∷ [])
unfolding mark_kind
mark-other b h = sym (place_none 19 marks 35 (b ∷ []) (none-starts firsts b [] marks h tt))

-- A part by its first byte

part-starts : (text : List ℕ) (s e : ℕ) → (length (slice s e text) ≡ 0 → ⊥)
    → slice s e text ≡ get_or text s 0 ∷ drop 1 (slice s e text)
part-starts text s e h =
    drop-cons (slice s e text) 0 0 (omega arith)
    ∙ ap (λ (b : ℕ). b ∷ drop 1 (slice s e text))
    (part_at text s e 0 (omega arith) ∙ ap (λ (i : ℕ). get_or text i 0) (add-zero s))

pub kind-end : (bs : List ℕ) → length bs ≡ 0 → 32 ≡ kind_of bs
unfolding kind_of
kind-end [] h = refl
kind-end (b ∷ bs) h = absurd (omega arith)

module _ (text : List ℕ) (s e : ℕ) (some : length (slice s e text) ≡ 0 → ⊥) where
  abbrev bytes : List ℕ
  bytes = slice s e text

  kind-starts : kind_of bytes
      ≡ cond (is_letter (get_or text s 0)) (word_kind bytes) (cond (is_digit (get_or text s 0)) 34 (mark_kind bytes))
  unfolding kind_of
  kind-starts = rw (part-starts text s e some) refl

  pub kind-word : is_letter (get_or text s 0) ≡ true → word_kind bytes ≡ kind_of bytes
  kind-word l = sym (kind-starts ∙ rw l refl)

  pub kind-number : is_letter (get_or text s 0) ≡ false → is_digit (get_or text s 0) ≡ true → 34 ≡ kind_of bytes
  kind-number l d = sym (kind-starts ∙ rw (l, d) refl)

  pub kind-mark : is_letter (get_or text s 0) ≡ false → is_digit (get_or text s 0) ≡ false → mark_kind bytes ≡ kind_of bytes
  kind-mark l d = sym (kind-starts ∙ rw (l, d) refl)
