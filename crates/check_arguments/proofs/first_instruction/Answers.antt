-- `first_instruction` makes the limits first, once.
use mathlib.Core.Path.{◌∙◌, ap}
use Rattle.check_arguments.specs.LimitsCode.{limits_for}
use borrow.Author.Rules.{rules}
use Rattle.check_arguments.proofs.first_instruction.Goals as goal

pub first_beyond-requires : goal.first_beyond-requires
first_beyond-requires c =
    let pre = c.requires in
    (pre.0, pre.1, pre.2, pre.3, search rules, c.limits_for-limits.ensures ∙ ap limits_for pre.2)
