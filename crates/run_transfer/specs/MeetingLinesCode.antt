-- The lines of a meeting in the words of a trace. These definitions follow the code.
use Rattle.std.specs.Prelude.{ℕ, ◌+◌, ◌%◌, ◌/◌, cond, List, eqb, ltb}
use Rattle.run_store.specs.declared.values.Val.{Val}
use Rattle.trace_lines.specs.declared.TraceLine.{TraceLine}
use Rattle.trace_lines.specs.WrittenCode.{with_line}
use Rattle.run_transfer.specs.ForkLinesCode.{gift_line}

unfoldable pub met_line : ℕ → ℕ → ℕ → Val → TraceLine
met_line entry sender receiver e = record {
  entry = entry;
  process = sender;
  kind = 7;
  a = receiver;
  b = e.number % 65536;
  c = cond (eqb e.tag 6) 1 0;
}

abbrev pub passed_line : ℕ → ℕ → Val → TraceLine
passed_line entry sender v =
    record { entry = entry; process = sender; kind = 8; a = v.number % 65536; b = v.number / 65536; c = 65535 }

unfoldable pub value_line : ℕ → ℕ → ℕ → Val → TraceLine
value_line entry sender receiver v = cond (ltb v.tag 3) (passed_line entry sender v) (gift_line entry sender receiver v)

unfoldable pub met_written : List ℕ → ℕ → ℕ → ℕ → ℕ → Val → Val → List ℕ
met_written trace line entry sender receiver e v =
    with_line (with_line trace line (met_line entry sender receiver e)) (line + 1) (value_line entry sender receiver v)
