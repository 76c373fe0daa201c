-- `size`: the lesser of the end and the text's length, less the start.
use native.Mathlib.Nat.{le_of_lt}
use mathlib.Core.Path.{sym, ◌∙◌}
use Rattle.text_tokens.proofs.Parts.{part-within, part-past}
use Rattle.text_tokens.proofs.bytes.size.Goals as goal

pub returns-then-end-text : goal.returns-then-end-text
returns-then-end-text c =
    let g = c.args in
    c.difference.ensures ∙ sym (part-within g.text.now g.start g.end c.if-end-text.true)

pub returns : goal.returns
returns c =
    let g = c.args in
    c.difference-2.ensures ∙ sym (part-past g.text.now g.start g.end (le_of_lt c.if-end-text.false))
