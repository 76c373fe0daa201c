-- The answers of the C interface on numbers that are all different, by computing: each stands in its own field.
use mathlib.Core.Path.{◌≡◌, refl}
use Rattle.table.specs.Questions.{accepted, refused}
use Rattle.machine.specs.Answer.{refusal, ran}
use Rattle.lanq_answers.specs.Answers.{check_answer, run_answer}

pub checked : check_answer accepted ≡ record { refused = 0; place = 0; end = 0; entries = 0; lines = 0; outcomes = 0 }
unfolding check_answer
checked = refl

pub check-refused : check_answer (refused 5 7)
    ≡ record { refused = 5; place = 7; end = 0; entries = 0; lines = 0; outcomes = 0 }
unfolding check_answer
check-refused = refl

pub run-refused : run_answer (refusal 5 7)
    ≡ record { refused = 5; place = 7; end = 0; entries = 0; lines = 0; outcomes = 0 }
unfolding run_answer
run-refused = refl

pub run-ended : run_answer (ran 1 18 9 4)
    ≡ record { refused = 0; place = 0; end = 1; entries = 18; lines = 9; outcomes = 4 }
unfolding run_answer
run-ended = refl
