-- `word_of_four` asks for each reserved word of 4 bytes.
use mathlib.Core.Path.{sym, ◌∙◌}
use lib.Seq.{slice}
use Rattle.text.specs.Tree.{ascii}
use Rattle.text_tokens.specs.KindsCode.{place_of_length, word_of_length}
use Rattle.text_tokens.proofs.Listed.{word-found, word-other}
use Rattle.text_tokens.proofs.kind.word_of_four.Goals as goal

pub returns-then-is_word : goal.returns-then-is_word
unfolding word_of_length place_of_length
returns-then-is_word c =
    let g = c.args in
    let word = c.is_word in
    word-found 4 (ascii "void") (slice g.start g.end g.text.now) (sym word.ensures ∙ c.if-is_word.true)

pub returns-then-is_word-2 : goal.returns-then-is_word-2
unfolding word_of_length place_of_length
returns-then-is_word-2 c =
    let g = c.args in
    let word = c.is_word-2 in
    word-found 4 (ascii "qbit") (slice g.start g.end g.text.now) (sym word.ensures ∙ c.if-is_word-2.true)

pub returns-then-is_word-3 : goal.returns-then-is_word-3
unfolding word_of_length place_of_length
returns-then-is_word-3 c =
    let g = c.args in
    let word = c.is_word-3 in
    word-found 4 (ascii "fork") (slice g.start g.end g.text.now) (sym word.ensures ∙ c.if-is_word-3.true)

pub returns-then-is_word-4 : goal.returns-then-is_word-4
unfolding word_of_length place_of_length
returns-then-is_word-4 c =
    let g = c.args in
    let word = c.is_word-4 in
    word-found 4 (ascii "else") (slice g.start g.end g.text.now) (sym word.ensures ∙ c.if-is_word-4.true)

pub returns-then-is_word-5 : goal.returns-then-is_word-5
unfolding word_of_length place_of_length
returns-then-is_word-5 c =
    let g = c.args in
    let word = c.is_word-5 in
    word-found 4 (ascii "recv") (slice g.start g.end g.text.now) (sym word.ensures ∙ c.if-is_word-5.true)

pub returns-then-is_word-6 : goal.returns-then-is_word-6
unfolding word_of_length place_of_length
returns-then-is_word-6 c =
    let g = c.args in
    let word = c.is_word-6 in
    word-found 4 (ascii "send") (slice g.start g.end g.text.now) (sym word.ensures ∙ c.if-is_word-6.true)

pub returns-then-is_word-7 : goal.returns-then-is_word-7
unfolding word_of_length place_of_length
returns-then-is_word-7 c =
    let g = c.args in
    let word = c.is_word-7 in
    word-found 4 (ascii "true") (slice g.start g.end g.text.now) (sym word.ensures ∙ c.if-is_word-7.true)

pub returns : goal.returns
returns c =
    let g = c.args in
    let not1 = sym c.is_word.ensures ∙ c.if-is_word.false in
    let not2 =
    sym c.is_word-2.ensures
    ∙ c.if-is_word-2.false in
    let not3 =
    sym c.is_word-3.ensures
    ∙ c.if-is_word-3.false in
    let not4 = sym c.is_word-4.ensures ∙ c.if-is_word-4.false in
    let not5 =
    sym c.is_word-5.ensures
    ∙ c.if-is_word-5.false in
    let not6 = sym c.is_word-6.ensures ∙ c.if-is_word-6.false in
    let not7 = sym c.is_word-7.ensures ∙ c.if-is_word-7.false in
    word-other 4 (slice g.start g.end g.text.now) (not1, (not2, (not3, (not4, (not5, (not6, (not7, tt)))))))
