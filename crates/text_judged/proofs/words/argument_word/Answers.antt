-- `argument_word` by its test.
use mathlib.Core.Path.{sym, ap, ◌∙◌}
use mathlib.Core.Bool.{cond}
use Rattle.text_rows.specs.Header.{as_word}
use Rattle.text_judged.proofs.words.argument_word.Goals as goal

pub returns-then-calling : goal.returns-then-calling
returns-then-calling c =
    ap (λ b. cond b c.args.i (as_word c.args.a)) (sym c.if-calling.true ∙
    c.calling.ensures)

pub returns : goal.returns
returns c =
    c.as_word.ensures ∙ ap (λ b. cond b c.args.i (as_word
    c.args.a)) (sym c.if-calling.false ∙ c.calling.ensures)
