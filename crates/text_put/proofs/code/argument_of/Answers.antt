-- `argument_of`, case by case.
use mathlib.Core.Path.{◌∙◌}
use Rattle.text_put.specs.TableCode.{called_at}
use Rattle.text_put.proofs.WordLaws.{argument-called, argument-stays}
use Rattle.text_put.proofs.code.argument_of.Goals as goal

pub returns-then-op : goal.returns-then-op
returns-then-op c =
    let args = c.args in
    c.number_at.ensures ∙ argument-called (called_at args.methods.now.text.now args.main) args.op args.a
    c.if-op.true

pub returns : goal.returns
returns c =
    let args = c.args in
    argument-stays (called_at args.methods.now.text.now args.main) args.op args.a c.if-op.false
