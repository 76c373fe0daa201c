-- The small runs of specs/Examples.antt, by computing the definitions.
use mathlib.Core.Path.{refl}
use Rattle.machine.specs.Examples.{Examples}
use Rattle.machine.proofs.Opened.{machine-opened}

pub examples : Examples
unfolding machine-opened
examples =
    record {
      full = refl;
      measured = refl;
      measured-lines = refl;
      twice = refl;
      itself = refl;
      itself-lines = refl;
      stopped = refl;
      stopped-lines = refl;
      unreached = refl;
      twice-above = refl;
      twice-before = refl;
      less-five = refl;
      less-seven = refl;
      not-below-itself = refl;
      below = refl;
      not-below = refl;
      equal = refl;
      not_equal = refl;
      added = refl;
      not-true = refl;
      not-false = refl;
      jumped = refl;
      not-jumped = refl;
      emptied = refl;
      sixteen-channels = refl;
      seventeenth-channel = refl;
      eight-processes = refl;
      ninth-process = refl;
      no-outcome = refl;
      no-outcome-line = refl;
      eight-frames = refl;
      ninth-frame = refl;
      longest-schedule = refl;
      longer-schedule = refl;
      long-store = refl;
      short-store = refl;
      schedule-before-store = refl;
    }
