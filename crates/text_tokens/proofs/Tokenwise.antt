-- The tokens of a text from a place on: the next one, by where it starts and ends, and those after it.
use Prim.Native.Nat.{ℕ, suc, ◌+◌, ◌≤◌, ◌<◌}
use native.Mathlib.Nat.{add-zero, suc-add, add-suc}
use native.Mathlib.Omega.{arith}
use native.Mathlib.Numerals.{add-one}
use mathlib.Core.Path.{◌≡◌, refl, sym, ap, ◌∙◌}
use mathlib.Core.Logic.{◌⊎◌, inl, inr, ⊎_elim}
use mathlib.Core.Bool.{Bool, true, false, cond, ◌&&◌}
use mathlib.Core.List.{List, [], ◌∷◌}
use borrow.Author.Tests.{lt-ltb, le-ltb, ltb-true, ltb-false}
use lib.Dec.{eqb, ltb}
use lib.ListN.{length, get_or, take, drop, drop_of_length-le, length-drop}
use lib.Seq.{slice, slice_empty, drop-cons, drop-drop, get_or-drop}
use Rattle.lists.proofs.Tests.{decide}
use Rattle.text_parse.specs.Tokens.{Token, is_white, is_digit, is_letter, tokens_from, tokens_of}
use Rattle.text_tokens.specs.Places.{tokens_at, token_of, tokens_after}
use Rattle.text_tokens.specs.PlacesCode.{leading, passed, is_word_byte, start_at, end_from, end_at}
use Rattle.text_tokens.specs.NextCode.{next_at, NextToken}
use Rattle.text_tokens.proofs.Parts.{part-take}
use Rattle.text_tokens.proofs.EndCases.{end-past, end-in}
use Rattle.text_tokens.proofs.Onward.{token, at-end, further, reads-token, reads-white}
use Rattle.text_tokens.proofs.Onward.{leading-most, leading-stops, further-most}

-- a text's tokens are those from its first byte on
pub tokens-at-start : (text : List ℕ) → tokens_of text ≡ tokens_at text 0
unfolding tokens_of tokens_at
tokens-at-start text = refl

-- Where a token starts

pub start-after : (text : List ℕ) (i : ℕ) → i ≤ start_at text i
unfolding passed
start-after text i = omega arith

pub start-within : (text : List ℕ) (i : ℕ) → i ≤ length text → start_at text i ≤ length text
unfolding passed
start-within text i h = omega (arith, leading-most is_white (drop i text), length-drop i text)

start-byte : (text : List ℕ) (i : ℕ) → start_at text i < length text → is_white (get_or text (start_at text i) 0) ≡ false
unfolding passed
start-byte text i h =
    let k = leading is_white (drop i text) in
    rw (get_or-drop i text k 0) at (leading-stops is_white (drop i text) (omega (arith, length-drop i text)))

start-reads : (text : List ℕ) (i : ℕ) → tokens_at text i ≡ tokens_at text (start_at text i)
unfolding tokens_at passed
start-reads text i =
    let k = leading is_white (drop i text) in
    reads-white i (drop i text) ∙ ap (tokens_from [] (i + k) (i + k)) (drop-drop k i text)

-- Where it ends

end-sum : (s : ℕ) (letter digit twice : Bool) (x y : ℕ)
    → cond letter (suc s + x) (cond digit (suc s + y) (cond twice (s + 2) (suc s)))
    ≡ suc s + cond letter x (cond digit y (cond twice 1 0))
end-sum s true digit twice x y = refl
end-sum s false true twice x y = refl
end-sum s false false true x y = omega arith
end-sum s false false false x y = omega arith

module _ (text : List ℕ) (s : ℕ) (h : s < length text) where
  abbrev b : ℕ
  b = get_or text s 0

  abbrev rest : List ℕ
  rest = drop (suc s) text

  second : get_or text (suc s) 0 ≡ get_or rest 0 0
  second = ap (λ (i : ℕ). get_or text i 0) (sym (add-zero (suc s))) ∙ sym (get_or-drop (suc s) text 0 0)

  end-from : end_from text s b ≡ suc s + further b rest
  unfolding end_from passed
  end-from =
      rw add-one
      (end-sum s (is_letter b) (is_digit b) (eqb b 61 && eqb (get_or text (suc s) 0) 61) (leading is_word_byte rest)
      (leading is_digit rest)
      ∙ ap
      (λ (c : ℕ). suc s
      + cond (is_letter b) (leading is_word_byte rest)
      (cond (is_digit b) (leading is_digit rest) (cond (eqb b 61 && eqb c 61) 1 0)))
      second)

  end-further : end_at text s ≡ suc s + further b rest
  end-further = end-in text s h ∙ end-from

  pub end_after : s < end_at text s
  end_after = omega (arith, end-further)

  pub end-within : end_at text s ≤ length text
  end-within = omega (arith, end-further, further-most b rest, length-drop (suc s) text)

  end-bytes : slice s (end_at text s) text ≡ b ∷ take (further b rest) rest
  end-bytes =
      ap (λ (e : ℕ). slice s e text) (end-further ∙ suc-add s (further b rest) ∙ sym (add-suc s (further b rest)))
      ∙ part-take s (suc (further b rest)) text
      ∙ ap (take (suc (further b rest))) (drop-cons text s 0 h)

  end_reads : is_white b ≡ false → tokens_at text s ≡ token_of text s (end_at text s) ∷ tokens_at text (end_at text s)
  unfolding tokens_at
  end_reads w =
      ap (tokens_from [] s s) (drop-cons text s 0 h) ∙ reads-token b s rest w
      ∙ ap (λ (ts : List Token). token (b ∷ take (further b rest) rest) s ∷ ts)
      (ap (tokens_from [] (suc s + further b rest) (suc s + further b rest)) (drop-drop (further b rest) (suc s) text)
      ∙ ap (λ (e : ℕ). tokens_from [] e e (drop e text)) (sym end-further))
      ∙ ap (λ (bs : List ℕ). token bs s ∷ tokens_from [] (end_at text s) (end_at text s) (drop (end_at text s) text))
      (sym end-bytes)

-- at the text's end
past-reads : (text : List ℕ) (s : ℕ) → length text ≤ s → tokens_at text s ≡ token_of text s (end_at text s) ∷ []
unfolding tokens_at
past-reads text s h =
    ap (tokens_from [] s s) (drop_of_length-le text h) ∙ at-end s
    ∙ ap (λ (bs : List ℕ). token bs s ∷ [])
    (sym (slice_empty s text) ∙ ap (λ (e : ℕ). slice s e text) (sym (end-past text s h)))

-- The next token

module _ (text : List ℕ) (i : ℕ) where
  abbrev start : ℕ
  start = start_at text i

  abbrev end : ℕ
  end = end_at text start

  in-text : (start < length text) ⊎ (length text ≤ start)
  in-text = ⊎_elim (λ t. inl (ltb-true start (length text) t)) (λ t. inr (ltb-false start (length text) t))
      (decide (ltb start (length text)))

  next-reads : tokens_at text i ≡ token_of text start end ∷ tokens_after text start end
  unfolding tokens_after
  next-reads =
      start-reads text i
      ∙ ⊎_elim
      (λ h. rw (lt-ltb start (length text) h) (end_reads text start h (start-byte text i h)))
      (λ h. rw (le-ltb start (length text) h) (past-reads text start h))
      in-text

  next-ends : start ≤ end
  next-ends =
      ⊎_elim (λ h. omega (arith, end_after text start h)) (λ h. omega (arith, end-past text start h)) in-text

  next-within : i ≤ length text → end ≤ length text
  next-within l =
      ⊎_elim (λ h. end-within text start h) (λ h. omega (arith, end-past text start h, start-within text i l)) in-text

  pub next-token : NextToken text i (next_at text i)
  unfolding next_at
  next-token = record {
    reads = next-reads;
    kind = refl;
    starts = start-after text i;
    ends = next-ends;
    onward = end_after text start;
    within = next-within;
    same = refl;
  }
