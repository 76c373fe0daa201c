-- Reading digits with numbers that are capped on the way.
use Prim.Native.Nat.{ℕ, ◌+◌, ◌*◌, ◌-◌, ◌≤◌, ◌<◌}
use native.Mathlib.Omega.{arith}
use native.Mathlib.Numerals.{add-one}
use mathlib.Core.Path.{◌≡◌, refl, sym, ◌∙◌}
use mathlib.Core.Logic.{⊎_elim}
use mathlib.Core.List.{List, [], ◌∷◌}
use borrow.Author.Tests.{lt-ltb, le-ltb, ltb-true, ltb-false}
use lib.Dec.{ltb}
use lib.ListN.{length, get_or, drop, drop_of_length-le}
use lib.Seq.{slice, drop-cons}
use Rattle.lists.proofs.Tests.{decide}
use Rattle.text_parse.specs.Tokens.{number_from}
use Rattle.text_tokens.specs.Numbers.{capped}
use Rattle.text_tokens.proofs.Parts.{part_at}

pub capped-below : (n : ℕ) → n < 32768 → capped n ≡ n
unfolding capped
capped-below n h = rw (lt-ltb n 32768 h)

pub capped-above : (n : ℕ) → 32768 ≤ n → capped n ≡ 32768
unfolding capped
capped-above n h = rw (le-ltb n 32768 h)

-- a fact of the capped number that is one in both cases
either : (P : ℕ → Type 0) (n : ℕ) → (n < 32768 → P n) → (32768 ≤ n → P 32768) → P (capped n)
either P n f g =
    ⊎_elim (λ t. let h = ltb-true n 32768 t in rw (capped-below n h) (f h))
    (λ t. let h = ltb-false n 32768 t in rw (capped-above n h) (g h)) (decide (ltb n 32768))

pub capped-twice : (n : ℕ) → capped (capped n) ≡ capped n
capped-twice n = either (λ (m : ℕ). capped m ≡ m) n (capped-below n) (λ h. capped-above 32768 (omega arith))

-- further digits make no number less
grows : (v : ℕ) (bs : List ℕ) → v ≤ number_from v bs
unfolding number_from
grows v [] = omega arith
grows v (b ∷ bs) = let h = grows (10 * v + (b - 48)) bs in omega arith

capped-on : (v : ℕ) (bs : List ℕ) → capped (number_from (capped v) bs) ≡ capped (number_from v bs)
capped-on v bs =
    either (λ (m : ℕ). capped (number_from m bs) ≡ capped (number_from v bs)) v
    (λ h. refl)
    (λ h. let more = grows v bs in let most = grows 32768 bs in
    capped-above (number_from 32768 bs) most ∙ sym (capped-above (number_from v bs) (omega arith)))

-- the digits of a part, one after the other
module _ (text : List ℕ) (s e k v : ℕ) where
  abbrev bytes : List ℕ
  bytes = slice s e text

  pub number-on : k < length bytes
      → capped (number_from (capped (10 * v + (get_or text (s + k) 0 - 48))) (drop (k + 1) bytes))
      ≡ capped (number_from v (drop k bytes))
  unfolding number_from
  number-on h =
      capped-on (10 * v + (get_or text (s + k) 0 - 48)) (drop (k + 1) bytes)
      ∙ rw (drop-cons bytes k 0, part_at text s e k h, add-one) refl

  pub number-end : length bytes ≤ k → capped v ≡ v → capped (number_from v (drop k bytes)) ≡ v
  unfolding number_from
  number-end h c = rw (drop_of_length-le bytes h) c
