-- The token that starts at a place, by its end and its kind: a case for each kind of first byte.
use Prim.Native.Nat.{ℕ, suc, ◌+◌, ◌≤◌, ◌<◌}
use native.Mathlib.Omega.{arith}
use native.Mathlib.Numerals.{add-one}
use mathlib.Core.Path.{◌≡◌, refl, sym, ap, ap₂, ◌∙◌}
use mathlib.Core.Bool.{true, false, ◌&&◌}
use mathlib.Core.List.{List, [], ◌∷◌}
use lib.Dec.{eqb, eqb→eq}
use lib.ListN.{length, get_or}
use lib.Seq.{slice, slice_empty, drop-cons}
use Rattle.lists.proofs.Tests.{passes, and_left, and_right}
use Rattle.text_parse.specs.Tokens.{is_digit, is_letter}
use Rattle.text_tokens.specs.PlacesCode.{passed, is_word_byte, end_at}
use Rattle.text_tokens.specs.KindsCode.{place_from, word_kind, mark_kind, kind_of}
use Rattle.text_tokens.specs.NextCode.{placed}
use Rattle.text_tokens.specs.declared.next.TokenAt.{TokenAt}
use Rattle.text_tokens.proofs.Parts.{part-within, part-take}
use Rattle.text_tokens.proofs.EndCases.{end-past, end-word, end-number, end-two, end-one}
use Rattle.text_tokens.proofs.Listed.{kind-end, kind-word, kind-number, kind-mark}
use Rattle.text_tokens.proofs.Tokenwise.{end_after, end-within}

module _ (text : List ℕ) (s : ℕ) where
  abbrev token : ℕ → ℕ → TokenAt
  token e k = record { start = s; end = e; kind = k }

  -- the token that starts at s ends at e and is of kind k
  abbrev pub TokenIs : ℕ → ℕ → Type 0
  TokenIs e k = token e k ≡ placed text s (end_at text s)

  token-is : (e k : ℕ) → e ≡ end_at text s → k ≡ kind_of (slice s e text) → TokenIs e k
  token-is e k h g = ap₂ token h (g ∙ ap (λ (x : ℕ). kind_of (slice s x text)) h)

  pub token-past : length text ≤ s → TokenIs s 32
  token-past h = token-is s 32 (sym (end-past text s h)) (kind-end (slice s s text) (ap length (slice_empty s text)))

  module _ (h : s < length text) where
    abbrev b : ℕ
    b = get_or text s 0

    abbrev next : ℕ
    next = get_or text (s + 1) 0

    -- within the text a token has bytes
    some : (e : ℕ) → e ≡ end_at text s → length (slice s e text) ≡ 0 → ⊥
    some e at z =
        let after = end_after text s h in
        let within = end-within text s h in
        omega (arith, part-within text s e (omega arith))

    pub token-word : (e k : ℕ) → is_letter b ≡ true → e ≡ passed is_word_byte text (s + 1) → k ≡ word_kind (slice s e text)
        → TokenIs e k
    token-word e k l to kind =
        let at = to ∙ sym (end-word text s h l) in
        token-is e k at (kind ∙ kind-word text s e (some e at) l)

    module _ (no-letter : is_letter b ≡ false) where
      pub token-number : (e : ℕ) → is_digit b ≡ true → e ≡ passed is_digit text (s + 1) → TokenIs e 34
      token-number e d to =
          let at = to ∙ sym (end-number text s h no-letter d) in
          token-is e 34 at (kind-number text s e (some e at) no-letter d)

      module _ (no_digit : is_digit b ≡ false) where
        pub token-equals : (eqb b 61 && eqb next 61) ≡ true → TokenIs (s + 2) 30
        unfolding kind_of mark_kind place_from
        token-equals t =
            let at = sym (end-two text s h no-letter no_digit t) in
            let one = eqb→eq b 61 (and_left (eqb b 61) (eqb next 61) (passes t)) in
            let other = eqb→eq next 61 (and_right (eqb b 61) (eqb next 61) (passes t)) in
            let within = end-within text s h in
            let bytes : slice s (s + 2) text ≡ b ∷ next ∷ [] =
            part-take s 2 text ∙ rw (drop-cons text s 0 h, add-one, drop-cons text (suc s) 0 (omega arith)) refl in
            token-is (s + 2) 30 at (sym (ap kind_of bytes ∙ ap₂ (λ (x y : ℕ). kind_of (x ∷ y ∷ [])) one other))

        pub token-mark : (k : ℕ) → (eqb b 61 && eqb next 61) ≡ false → k ≡ mark_kind (b ∷ []) → TokenIs (s + 1) k
        token-mark k t kind =
            let at = sym (end-one text s h no-letter no_digit t) in
            let bytes : slice s (s + 1) text ≡ b ∷ [] = part-take s 1 text ∙ rw (drop-cons text s 0 h) refl in
            token-is (s + 1) k at
            (kind ∙ ap mark_kind (sym bytes) ∙ kind-mark text s (s + 1) (some (s + 1) at) no-letter no_digit)
