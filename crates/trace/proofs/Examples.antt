-- The look-up with its count of lines read, and the same-lines answer, on small traces, by computing.
use Prim.Native.Nat.{ℕ}
use mathlib.Core.Path.{◌≡◌, refl}
use mathlib.Core.Bool.{true, false}
use mathlib.Core.List.{List, [], ◌∷◌}
use Rattle.machine.proofs.Opened.{machine-opened}
use Rattle.trace.specs.Trace.{lines_of, look_up, decides, read_back, count_read, same_line, same_all, gap, gaps, same_gaps, same_timed, same_lines, same_untimed}

-- qubit 7 is made by process 2 and given to process 5; channel 7 is given to process 6; the last line is cut short
unfoldable pub made-and-given : List ℕ
made-and-given =
    0 ∷ 2 ∷ 1 ∷ 7 ∷ 65535 ∷ 65535
    ∷ 3 ∷ 2 ∷ 6 ∷ 5 ∷ 3 ∷ 7
    ∷ 4 ∷ 2 ∷ 6 ∷ 6 ∷ 4 ∷ 7
    ∷ 5 ∷ 2 ∷ 1 ∷ 7 ∷ 65535
    ∷ []

-- a line at entry e, and what follows
abbrev pub at : ℕ → List ℕ → List ℕ
at e ws = e ∷ 1 ∷ 9 ∷ 4 ∷ 4 ∷ 4 ∷ ws

pub record Examples : Type 0 where
  pub nobody : look_up made-and-given 0 7 ≡ 65535
  pub maker : look_up made-and-given 1 7 ≡ 2
  pub receiver : look_up made-and-given 2 7 ≡ 5
  pub all_lines : look_up made-and-given 99 7 ≡ 5
  pub other-qubit : look_up made-and-given 99 6 ≡ 65535
  pub none_read : count_read made-and-given 0 7 ≡ 0
  pub making-read : count_read made-and-given 1 7 ≡ 1
  pub only-giving-read : count_read made-and-given 2 7 ≡ 1
  pub channel-passed : count_read made-and-given 3 7 ≡ 2
  pub all-lines-read-back : count_read made-and-given 99 7 ≡ 2
  pub other-qubit-all-read : count_read made-and-given 99 6 ≡ 3
  pub other-column : same_lines (at 0 []) (0 ∷ 1 ∷ 9 ∷ 4 ∷ 4 ∷ 5 ∷ []) ≡ false
  pub one-longer : same_lines [] (at 0 []) ≡ false
  pub one-shorter : same_lines (at 3 (at 5 [])) (at 3 []) ≡ false
  pub no-whole-line : same_lines [] (1 ∷ 2 ∷ []) ≡ true
  pub one-line-no-gap : same_lines (at 0 []) (at 8 (5 ∷ [])) ≡ true
  pub all-later : same_lines (at 3 (at 5 (at 5 []))) (at 40003 (at 40005 (at 40005 []))) ≡ true
  pub falling : same_lines (at 7 (at 4 [])) (at 9 (at 6 [])) ≡ true
  pub first-gap-longer : same_lines (at 3 (at 5 (at 6 []))) (at 3 (at 4 (at 5 []))) ≡ false
  pub last-gap-longer : same_lines (at 3 (at 5 (at 6 []))) (at 3 (at 5 (at 7 []))) ≡ false
  pub other_sign : same_lines (at 3 (at 5 [])) (at 5 (at 3 [])) ≡ false
  pub not-wrapped : same_lines (at 65535 (at 0 [])) (at 0 (at 1 [])) ≡ false
  pub only-by-timing : same_untimed (at 3 (at 5 [])) (at 5 (at 3 [])) ≡ true
  pub not-even-untimed : same_untimed (at 3 (at 5 [])) (at 5 []) ≡ false

pub examples : Examples
unfolding machine-opened made-and-given lines_of look_up decides read_back count_read same_line same_all gap gaps same_gaps
    same_timed same_lines same_untimed
examples = record {
  nobody = refl;
  maker = refl;
  receiver = refl;
  all_lines = refl;
  other-qubit = refl;
  none_read = refl;
  making-read = refl;
  only-giving-read = refl;
  channel-passed = refl;
  all-lines-read-back = refl;
  other-qubit-all-read = refl;
  other-column = refl;
  one-longer = refl;
  one-shorter = refl;
  no-whole-line = refl;
  one-line-no-gap = refl;
  all-later = refl;
  falling = refl;
  first-gap-longer = refl;
  last-gap-longer = refl;
  other_sign = refl;
  not-wrapped = refl;
  only-by-timing = refl;
  not-even-untimed = refl;
}
