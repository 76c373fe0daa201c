-- Laws of `passed`, one byte at a time.
use Prim.Native.Nat.{ℕ, ◌+◌, ◌≤◌, ◌<◌}
use native.Mathlib.Omega.{arith}
use native.Mathlib.Numerals.{add-one}
use mathlib.Core.Path.{◌≡◌}
use mathlib.Core.Bool.{Bool, true, false}
use mathlib.Core.List.{List}
use lib.ListN.{length, get_or, drop_of_length-le}
use lib.Seq.{drop-cons}
use Rattle.text_tokens.specs.PlacesCode.{leading, passed}

module _ (f : ℕ → Bool) (text : List ℕ) (i : ℕ) where
  pub passed_on : i < length text → f (get_or text i 0) ≡ true → passed f text i ≡ passed f text (i + 1)
  unfolding passed leading
  passed_on h t = rw (drop-cons text i 0, t, add-one) (omega arith)

  pub passed_here : i < length text → f (get_or text i 0) ≡ false → passed f text i ≡ i
  unfolding passed leading
  passed_here h t = rw (drop-cons text i 0, t) (omega arith)

  pub passed-end : length text ≤ i → passed f text i ≡ i
  unfolding passed leading
  passed-end h = rw (drop_of_length-le text h) (omega arith)
