-- `word_kind` asks for the words of the part's length.
use mathlib.Core.Path.{sym, ◌∙◌}
use lib.Seq.{slice}
use Rattle.text_tokens.proofs.Listed.{word-by-length, word-no-length}
use Rattle.text_tokens.proofs.kind.word_kind.Goals as goal

pub returns-in-2 : goal.returns-in-2
returns-in-2 c =
    let g = c.args in
    c.word_of_two.ensures
    ∙ word-by-length 2 (slice g.start g.end g.text.now)
    (sym c.size.ensures ∙ c.in-2.is)

pub returns-in-3 : goal.returns-in-3
returns-in-3 c =
    let g = c.args in
    c.word_of_three.ensures
    ∙ word-by-length 3 (slice g.start g.end g.text.now)
    (sym c.size.ensures ∙ c.in-3.is)

pub returns-in-4 : goal.returns-in-4
returns-in-4 c =
    let g = c.args in
    c.word_of_four.ensures
    ∙ word-by-length 4 (slice g.start g.end g.text.now)
    (sym c.size.ensures ∙ c.in-4.is)

pub returns-in-5 : goal.returns-in-5
returns-in-5 c =
    let g = c.args in
    c.word_of_five.ensures
    ∙ word-by-length 5 (slice g.start g.end g.text.now)
    (sym c.size.ensures ∙ c.in-5.is)

pub returns-in-6 : goal.returns-in-6
returns-in-6 c =
    let g = c.args in
    c.word_of_six.ensures
    ∙ word-by-length 6 (slice g.start g.end g.text.now)
    (sym c.size.ensures ∙ c.in-6.is)

pub returns-in-7 : goal.returns-in-7
returns-in-7 c =
    let g = c.args in
    c.word_of_seven.ensures
    ∙ word-by-length 7 (slice g.start g.end g.text.now)
    (sym c.size.ensures ∙ c.in-7.is)

pub returns-in-8 : goal.returns-in-8
returns-in-8 c =
    let g = c.args in
    c.word_of_eight.ensures
    ∙ word-by-length 8 (slice g.start g.end g.text.now)
    (sym c.size.ensures ∙ c.in-8.is)

pub returns-in-10 : goal.returns-in-10
returns-in-10 c =
    let g = c.args in
    c.word_of_ten.ensures
    ∙ word-by-length 10 (slice g.start g.end g.text.now)
    (sym c.size.ensures ∙ c.in-10.is)

pub returns-in_default : goal.returns-in_default
returns-in_default c =
    let g = c.args in
    let n = c.size in
    word-no-length n.result (slice g.start g.end g.text.now) (sym n.ensures) c.in_default.in_default-own.rest
