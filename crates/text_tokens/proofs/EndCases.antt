-- Laws of `end_at`: a case for each kind of first byte.
use Prim.Native.Nat.{ℕ, ◌+◌, ◌≤◌, ◌<◌}
use mathlib.Core.Path.{◌≡◌}
use mathlib.Core.Bool.{Bool, true, false, ◌&&◌}
use mathlib.Core.List.{List}
use borrow.Author.Tests.{le-leb, lt-leb}
use lib.Dec.{eqb}
use lib.ListN.{length, get_or}
use Rattle.text_parse.specs.Tokens.{is_digit, is_letter}
use Rattle.text_tokens.specs.PlacesCode.{passed, is_word_byte, end_from, end_at}

pub end-past : (text : List ℕ) (s : ℕ) → length text ≤ s → end_at text s ≡ s
unfolding end_at
end-past text s h = rw (le-leb (length text) s h)

module _ (text : List ℕ) (s : ℕ) (h : s < length text) where
  pub end-in : end_at text s ≡ end_from text s (get_or text s 0)
  unfolding end_at
  end-in = rw (lt-leb (length text) s h)

  abbrev b : ℕ
  b = get_or text s 0

  abbrev twice : Bool
  twice = eqb b 61 && eqb (get_or text (s + 1) 0) 61

  pub end-word : is_letter b ≡ true → end_at text s ≡ passed is_word_byte text (s + 1)
  unfolding end_from
  end-word l = rw (end-in, l)

  pub end-number : is_letter b ≡ false → is_digit b ≡ true → end_at text s ≡ passed is_digit text (s + 1)
  unfolding end_from
  end-number l d = rw (end-in, l, d)

  pub end-two : is_letter b ≡ false → is_digit b ≡ false → twice ≡ true → end_at text s ≡ s + 2
  unfolding end_from
  end-two l d t = rw (end-in, l, d, t)

  pub end-one : is_letter b ≡ false → is_digit b ≡ false → twice ≡ false → end_at text s ≡ s + 1
  unfolding end_from
  end-one l d t = rw (end-in, l, d, t)
