-- A part put back changes nothing, and other words in one part, or in front of the parts, leave the other parts as they
-- are.
use Prim.Native.Nat.{ℕ, ◌+◌, ◌-◌, ◌≤◌, ◌<◌}
use mathlib.Core.Path.{◌≡◌, sym, ◌∙◌, ap}
use mathlib.Core.Logic.{◌≢◌, ⊎_elim}
use mathlib.Core.List.{List, ◌++◌}
use native.Mathlib.Omega.{arith}
use lib.ListN.{take, drop, set, length, length-append, length-drop, take-append-drop}
use lib.Seq.{length-take-le, take-append-le, drop-append-le, drop-append-add, drop-set-lt}
use lib.Dec.{ltb}
use borrow.Author.Tests.{ltb-true, ltb-false}
use Rattle.lists.proofs.Tests.{decide}
use Rattle.run_parts.specs.PartsCode.{part_at, part_of, with_part}

pub part_same : (w : List ℕ) (n : ℕ) → with_part w n (part_of w n) ≡ w
unfolding with_part part_of
part_same w n =
    ap (λ (l : List ℕ). take (part_at n) w ++ l) (take-append-drop 512 (drop (part_at n) w))
    ∙ take-append-drop (part_at n) w

-- the 512 words from place a on, before or after 512 others

before : (a : ℕ) (xs ys zs : List ℕ) → a + 512 ≤ length xs → take 512 (drop a (xs ++ ys)) ≡ take 512 (drop a (xs ++ zs))
before a xs ys zs h = there ys ∙ sym (there zs)
  where
    there : (us : List ℕ) → take 512 (drop a (xs ++ us)) ≡ take 512 (drop a xs)
    there us =
        ap (take 512) (drop-append-le a xs us (omega (arith, h)))
        ∙ take-append-le 512 (drop a xs) us (omega (arith, h, length-drop a xs))

beyond : (a : ℕ) (xs ys zs ws : List ℕ) → length xs + 512 ≤ a → length ys ≡ 512 → length zs ≡ 512
    → drop a (xs ++ (ys ++ ws)) ≡ drop a (xs ++ (zs ++ ws))
beyond a xs ys zs ws h y z = there ys y ∙ sym (there zs z)
  where
    there : (us : List ℕ) → length us ≡ 512 → drop a (xs ++ (us ++ ws)) ≡ drop (a - length xs - 512) ws
    there us u =
        ap (λ (i : ℕ). drop i (xs ++ (us ++ ws))) {x = a} {y = length xs + (length us + (a - length xs - 512))}
        (omega (arith, h, u))
        ∙ drop-append-add xs (us ++ ws) (length us + (a - length xs - 512))
        ∙ drop-append-add us ws (a - length xs - 512)

module _ (w : List ℕ) (long : 8192 ≤ length w) where
  up_to : (i : ℕ) → i ≤ 8192 → length (take i w) ≡ i
  up_to i h = length-take-le i w (omega (arith, h, long))

  pub part-long : (n : ℕ) → n < 8 → length (part_of w n) ≡ 512
  unfolding part_of
  part-long n h = length-take-le 512 (drop (part_at n) w) (omega (arith, h, long, length-drop (part_at n) w))

  -- a store as long as before has 512 words in each part
  pub part-kept : (n : ℕ) (ws : List ℕ) → n < 8 → length (with_part w n ws) ≡ length w → length ws ≡ 512
  unfolding with_part
  part-kept n ws h e =
      omega (
        arith,
        long,
        h,
        e,
        length-append (take (part_at n) w) (ws ++ drop 512 (drop (part_at n) w)),
        length-append ws (drop 512 (drop (part_at n) w)),
        up_to (part_at n) (omega (arith, h)),
        length-drop 512 (drop (part_at n) w),
        length-drop (part_at n) w,
      )

  pub part-other : (n q : ℕ) (ws : List ℕ) → n < 8 → q < 8 → q ≢ n → length ws ≡ 512
      → part_of (with_part w n ws) q ≡ part_of w q
  unfolding with_part part_of
  part-other n q ws h k ne l =
      ⊎_elim
      (λ t. before (part_at q) (take (part_at n) w) _ _ (omega (arith, ltb-true q n t, front)))
      (λ t. ap (take 512)
      (beyond (part_at q) (take (part_at n) w) ws (part_of w n) _ (omega (arith, ltb-false q n t, ne, front)) l
      (part-long n h)))
      (decide (ltb q n))
      ∙ ap (λ (v : List ℕ). part_of v q) (part_same w n)
    where
      front : length (take (part_at n) w) ≡ part_at n
      front = up_to (part_at n) (omega (arith, h))

-- a word in front of the parts is in none of them
pub part-front : (w : List ℕ) (i x q : ℕ) → i < 512 → part_of (set w i x) q ≡ part_of w q
unfolding part_of
part-front w i x q h = ap (take 512) (drop-set-lt (part_at q) w i x (omega (arith, h)))
