-- `ask_code` puts questions 4 and 5, and hands on.
use mathlib.Core.Path.{◌∙◌}
use Rattle.table.specs.Questions.{question4, question5}
use Rattle.check_questions.specs.Check.{verdict_of}
use Rattle.check_questions.specs.AskCode.{code_questions}
use Rattle.check_questions.proofs.Verdicts.{and_then-end, place_found, place_none, code-known, zeros}
use borrow.Author.Rules.{rules}
use Rattle.check_questions.proofs.ask_code.Goals as goal

pub returns-in-Some : goal.returns-in-Some
unfolding verdict_of code_questions question4
returns-in-Some c =
    let pre = c.requires in
    let first-instruction = c.first_instruction in
    place_found 4 _ _ _ pre.4 first-instruction.ensures.0 _ _ c.in-Some.is

pub first_reading-requires : goal.first_reading-requires
first_reading-requires c =
    let pre = c.requires in
    let first-instruction = c.first_instruction in
    code-known _ pre.0 _ _ pre.3 pre.4 pre.1 pre.2 first-instruction.ensures.0 c.in_default.is
    _ _ (search rules) (zeros 4096) first-instruction.ensures.1

pub returns-in-Some-first_reading : goal.returns-in-Some-first_reading
unfolding verdict_of code_questions question4 question5
returns-in-Some-first_reading c =
    let pre = c.requires in
    let first-instruction = c.first_instruction in
    place_found 5 _ _ _ pre.4 c.first_reading.ensures _ _ c.in-Some-first_reading.is
    ∙ and_then-end _
    ∙ place_none 4 _ _ _ pre.4 first-instruction.ensures.0 _ c.in_default.is

pub returns : goal.returns
unfolding verdict_of code_questions question4 question5
returns c =
    let pre = c.requires in
    let first-reading = c.first_reading in
    let first-instruction = c.first_instruction in
    place_none 5 _ _ _ pre.4 first-reading.ensures _ c.in_default-first_reading.is
    ∙ and_then-end _
    ∙ place_none 4 _ _ _ pre.4 first-instruction.ensures.0 _ c.in_default.is
