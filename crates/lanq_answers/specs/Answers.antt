-- The answers of the C interface for the answers of the definitions.
use Rattle.table.specs.Questions.{Verdict, accepted, refused}
use Rattle.machine.specs.Answer.{Answer, refusal, ran}
use Rattle.lanq_answers.specs.declared.LanqAnswer.{LanqAnswer}

-- refused 0 where accepted, else the number with its place
unfoldable pub check_answer : Verdict → LanqAnswer
check_answer accepted = record { refused = 0; place = 0; end = 0; entries = 0; lines = 0; outcomes = 0 }
check_answer (refused n i) = record { refused = n; place = i; end = 0; entries = 0; lines = 0; outcomes = 0 }

-- the run's: refused 0 where it was accepted, with end, entries used, lines written and outcomes used
unfoldable pub run_answer : Answer → LanqAnswer
run_answer (refusal n i) = record { refused = n; place = i; end = 0; entries = 0; lines = 0; outcomes = 0 }
run_answer (ran e k l u) = record { refused = 0; place = 0; end = e; entries = k; lines = l; outcomes = u }
