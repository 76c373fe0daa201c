-- The texts of specs/Examples.antt, by computing the definitions.
use mathlib.Core.Path.{refl}
use Rattle.text_parse.specs.Examples.{Refusals, Runs, lines_shown, shown, meaning_of, in_turn, teleportation, shadowed, half_evaluated, every_gate, nested}
use Rattle.text_parse.proofs.Opened.{parse-opened}

pub refusals : Refusals
unfolding parse-opened nested
refusals = record {
  empty-text = refl;
  blank-text = refl;
  stops-early = refl;
  bad-byte = refl;
  bad-later = refl;
  no_sign = refl;
  number-name = refl;
  return-nothing = refl;
  new-alone = refl;
  late-declaration = refl;
  expression-alone = refl;
  new-and-operator = refl;
  new-in-operand = refl;
  mixed-types = refl;
  channel-of-channel = refl;
  new-end = refl;
  other-basis = refl;
  two-measured = refl;
  ends-in-expression = refl;
  gate-as-operand = refl;
  gate-count = refl;
  gate-unknown = refl;
  undeclared = refl;
  out-of-scope = refl;
  declared-twice = refl;
  parameter-twice = refl;
  method-twice = refl;
  no_main = refl;
  arguments-missing = refl;
  main-with-parameter = refl;
  number-too-large = refl;
  nine-parameters = refl;
  first-in-text = refl;
  first-before-main = refl;
  other-blank = refl;
  underscore = refl;
  alias-reserved = refl;
  largest-number = refl;
  first-declaration = refl;
  ends-of-outer-block = refl;
  lower-of-two = refl;
  fork-unknown = refl;
  depth-32 = refl;
  depth-33 = refl;
}

pub runs : Runs
unfolding parse-opened lines_shown shown meaning_of in_turn teleportation shadowed half_evaluated every_gate
runs = record { teleports = refl; emptied = refl; given = refl; gates = refl }
