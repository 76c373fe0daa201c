-- `word_of_ten` asks for each reserved word of 10 bytes.
use mathlib.Core.Path.{sym, ◌∙◌}
use lib.Seq.{slice}
use Rattle.text.specs.Tree.{ascii}
use Rattle.text_tokens.specs.KindsCode.{place_of_length, word_of_length}
use Rattle.text_tokens.proofs.Listed.{word-found, word-other}
use Rattle.text_tokens.proofs.kind.word_of_ten.Goals as goal

pub returns-then-is_word : goal.returns-then-is_word
unfolding word_of_length place_of_length
returns-then-is_word c =
    let g = c.args in
    let word = c.is_word in
    word-found 10 (ascii "channelEnd") (slice g.start g.end g.text.now) (sym word.ensures
    ∙ c.if-is_word.true)

pub returns : goal.returns
returns c =
    let g = c.args in
    let not1 = sym c.is_word.ensures ∙ c.if-is_word.false in
    word-other 10 (slice g.start g.end g.text.now) (not1, tt)
