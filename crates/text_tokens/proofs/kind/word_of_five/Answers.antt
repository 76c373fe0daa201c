-- `word_of_five` asks for each reserved word of 5 bytes.
use mathlib.Core.Path.{sym, ◌∙◌}
use lib.Seq.{slice}
use Rattle.text.specs.Tree.{ascii}
use Rattle.text_tokens.specs.KindsCode.{place_of_length, word_of_length}
use Rattle.text_tokens.proofs.Listed.{word-found, word-other}
use Rattle.text_tokens.proofs.kind.word_of_five.Goals as goal

pub returns-then-is_word : goal.returns-then-is_word
unfolding word_of_length place_of_length
returns-then-is_word c =
    let g = c.args in
    let word = c.is_word in
    word-found 5 (ascii "while") (slice g.start g.end g.text.now) (sym word.ensures ∙ c.if-is_word.true)

pub returns-then-is_word-2 : goal.returns-then-is_word-2
unfolding word_of_length place_of_length
returns-then-is_word-2 c =
    let g = c.args in
    let word = c.is_word-2 in
    word-found 5 (ascii "false") (slice g.start g.end g.text.now) (sym word.ensures ∙ c.if-is_word-2.true)

pub returns : goal.returns
returns c =
    let g = c.args in
    let not1 = sym c.is_word.ensures ∙ c.if-is_word.false in
    let not2 = sym c.is_word-2.ensures ∙ c.if-is_word-2.false in
    word-other 5 (slice g.start g.end g.text.now) (not1, (not2, tt))
