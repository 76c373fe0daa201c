-- P1 to P12 of document 01, by computing the definitions.
use mathlib.Core.Path.{◌≡◌, refl}
use mathlib.Core.List.{[]}
use lib.ListN.{replicate}
use Rattle.machine.specs.Answer.{ran}
use Rattle.machine.specs.Cases.{Cases, answer, silent_loop}
use Rattle.machine.proofs.Opened.{machine-opened}

pub cases : Cases
unfolding machine-opened
cases = record {
  p1 = refl;
  p2 = refl;
  p3 = refl;
  p3-lines = refl;
  p4 = refl;
  p5 = refl;
  p5-line = refl;
  p6 = refl;
  p6-line = refl;
  p7 = refl;
  p7-value = refl;
  p8 = refl;
  p8-line = refl;
  p9 = refl;
  p9-line = refl;
  p10 = refl;
  p10-line = refl;
  p11 = refl;
  p11-gone = refl;
  p11-line = refl;
  p12 = refl;
}

-- A run of 8,000 entries computes: silent entries, and none of them idle.
pub long-run : answer silent_loop (replicate 8000 0) [] ≡ ran 0 8000 0 0
unfolding machine-opened
long-run = refl
