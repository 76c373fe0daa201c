-- What a run leaves: its answer's numbers, the words of the trace and the words of the work store, in the form in which
-- the code has them. These definitions follow the code.
use Rattle.std.specs.Prelude.{ℕ, List, length}
use Rattle.machine.specs.Run.{Result}
use Rattle.machine.specs.Answer.{trace_after}
use Rattle.layout.specs.Holders.{store_after}
use Rattle.run_ability.specs.EndNumbers.{end_number}
use Rattle.run_schedule.specs.declared.entries.RunSummary.{RunSummary}

pub record AfterRun : Type 0 where
  pub end : ℕ
  pub entries : ℕ
  pub lines : ℕ
  pub used : ℕ
  pub trace : List ℕ
  pub work : List ℕ

abbrev pub after_run : RunSummary → List ℕ → List ℕ → AfterRun
after_run o t w = record {
  end = end_number o.end;
  entries = o.entries;
  lines = o.lines;
  used = o.used;
  trace = t;
  work = w;
}

unfoldable pub run_leaves : Result → List ℕ → List ℕ → AfterRun
run_leaves r trace work = record {
  end = r.end;
  entries = r.entries;
  lines = length r.state.lines;
  used = r.state.used;
  trace = trace_after r.state.lines trace;
  work = store_after r.state work;
}
