-- An entry with one line, on the words of trace and store. These definitions follow the code; that they are document
-- 01's entries is proved in proofs/.
use Rattle.std.specs.Prelude.{ℕ, ◌+◌, ◌%◌, cond, List, get_or, set, eqb, leb}
use Rattle.run_parts.specs.PartsCode.{part_of, with_part}
use Rattle.trace_lines.specs.declared.TraceLine.{TraceLine}
use Rattle.trace_lines.specs.WrittenCode.{with_line}
use Rattle.run_gates.specs.declared.event.EventResult.{EventResult}
use Rattle.run_gates.specs.GatesCode.{AfterEvent, after_event}
use Rattle.run_events.specs.declared.conclude.Single.{Single}
use Rattle.run_events.specs.ConcludeCode.{conclude_op}
use Rattle.run_single.specs.declared.result.Count.{Count}
use Rattle.run_single.specs.ResultCode.{AfterEntry, after_entry}
use Rattle.run_single.specs.declared.result.EntryResult.TheVariants.{Taken, Full}

-- what was done in part n, as done to the store
unfoldable pub in_part : List ℕ → ℕ → AfterEvent → AfterEvent
in_part work n l = after_event l.event (with_part work n l.words)

unfoldable pub concluded_at : List ℕ → List ℕ → ℕ → Single → List ℕ → ℕ → AfterEvent
concluded_at p work n does outcomes used =
    in_part work n (conclude_op p (part_of work n) does (get_or work 1 0) (get_or work 2 0) outcomes used)

unfoldable pub counted_words : List ℕ → ℕ → List ℕ
counted_words work kind =
    cond (eqb kind 1) (set work 1 ((get_or work 1 0 + 1) % 4294967296))
    (cond (eqb kind 2) (set work 2 ((get_or work 2 0 + 1) % 4294967296)) work)

abbrev pub event_line : ℕ → ℕ → EventResult → TraceLine
event_line entry n t = record { entry = entry; process = n; kind = t.kind; a = t.a; b = t.b; c = t.c }

-- the line written, and the thing counted
unfoldable pub recorded : List ℕ → Count → ℕ → AfterEvent → AfterEntry
recorded trace g n l =
    after_entry (Taken (g.lines + 1) ((g.used + l.event.used) % 4294967296))
    (with_line trace g.lines (event_line g.entry n l.event))
    (counted_words l.words l.event.kind)

unfoldable pub single_op : List ℕ → List ℕ → List ℕ → List ℕ → ℕ → Count → ℕ → Single → AfterEntry
single_op p outcomes trace work room g n does =
    cond (leb room g.lines) (after_entry Full trace work)
    (recorded trace g n (concluded_at p work n does outcomes g.used))
