-- `as_word` by its test.
use Rattle.text_judged.proofs.Stepping.{word_below, word-above}
use Rattle.text_judged.proofs.words.as_word.Goals as goal

pub returns-then-n-lt65535 : goal.returns-then-n-lt65535
returns-then-n-lt65535 c = word_below _ c.if-n-lt65535.true

pub returns : goal.returns
returns c = word-above _ c.if-n-lt65535.false
