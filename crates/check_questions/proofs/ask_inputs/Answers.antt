-- `ask_inputs` puts questions 6 to 8.
use mathlib.Core.Path.{refl, ◌∙◌}
use borrow.Author.Tests.{lt-leb, le-leb}
use Rattle.table.specs.Questions.{whole, question6, question7, question8}
use Rattle.check_questions.specs.Check.{verdict_of}
use Rattle.check_questions.specs.AskCode.{input_questions}
use Rattle.check_questions.proofs.Outcomes.{first_outcome}
use Rattle.check_questions.proofs.Verdicts.{whole-no, whole-yes, place_found, place_none}
use Rattle.check_questions.proofs.ask_inputs.Goals as goal

pub returns-in-Some : goal.returns-in-Some
unfolding verdict_of input_questions question6
returns-in-Some c = place_found 6 _ _ _ refl (c.first_outcome.ensures ∙ first_outcome _) _ _ c.in-Some.is

pub returns-then-schedule-gt65535 : goal.returns-then-schedule-gt65535
unfolding verdict_of input_questions question6 question7
returns-then-schedule-gt65535 c =
    whole-no 7 0 _ (lt-leb _ 65535 c.if-schedule-gt65535.true)
    ∙ place_none 6 _ _ _ refl (c.first_outcome.ensures ∙ first_outcome _) _ c.in_default.is

pub returns-then-work-lt8256 : goal.returns-then-work-lt8256
unfolding verdict_of input_questions question6 question7 question8 whole
returns-then-work-lt8256 c =
    rw (lt-leb 8256 _ c.if-work-lt8256.true)
    (whole-yes 7 0 _ (le-leb _ 65535 c.if-schedule-gt65535.false)
    ∙ place_none 6 _ _ _ refl (c.first_outcome.ensures ∙ first_outcome _) _ c.in_default.is)

pub returns : goal.returns
unfolding verdict_of input_questions question6 question7 question8 whole
returns c =
    rw (le-leb 8256 _ c.if-work-lt8256.false)
    (whole-yes 7 0 _ (le-leb _ 65535 c.if-schedule-gt65535.false)
    ∙ place_none 6 _ _ _ refl (c.first_outcome.ensures ∙ first_outcome _) _ c.in_default.is)
