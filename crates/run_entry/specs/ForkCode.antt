-- An entry at FORK, on the words of trace and store. These definitions follow the code; that they are document 01's is
-- proved in proofs/.
use Rattle.std.specs.Prelude.{ℕ, ◌+◌, cond, List, get_or, leb, ltb}
use Rattle.table.specs.Table.{params_of}
use Rattle.run_parts.specs.PartsCode.{part_of}
use Rattle.run_transfer.specs.TransferCode.{forked_words}
use Rattle.run_transfer.specs.ForkLinesCode.{Gifts, things_in}
use Rattle.run_single.specs.declared.result.Count.{Count}
use Rattle.run_single.specs.ResultCode.{AfterEntry, after_entry}
use Rattle.run_single.specs.declared.result.EntryResult.TheVariants.{Taken, Full}
use Rattle.run_ability.specs.ReadsCode.{argument_in, empty_in}
use Rattle.run_single.specs.SingleCode.{single_op}
use Rattle.run_events.specs.declared.conclude.Single.TheVariants.{Fault}
use Rattle.run_transfer.specs.ForkLinesCode.{fork_written}

unfoldable pub fork_done : List ℕ → List ℕ → Count → Gifts → ℕ → ℕ → ℕ → ℕ → AfterEntry
fork_done p work g ls n child m args =
    after_entry (Taken ls.next g.used) ls.words (forked_words p work n child m args)

unfoldable pub start_op : List ℕ → List ℕ → List ℕ → ℕ → Count → ℕ → ℕ → ℕ → ℕ → AfterEntry
start_op p trace work room g n child m args =
    cond (ltb room (g.lines + 1 + things_in work n args args)) (after_entry Full trace work)
    (fork_done p work g (fork_written trace work g.lines g.entry n child m args) n child m args)

unfoldable pub try_op : List ℕ → List ℕ → List ℕ → List ℕ → ℕ → Count → ℕ → ℕ → ℕ → AfterEntry
try_op p outcomes trace work room g n m args =
    cond (empty_in (part_of work n) args) (single_op p outcomes trace work room g n (Fault 20))
    (cond (leb 8 (get_or work 0 0)) (single_op p outcomes trace work room g n (Fault 23))
    (start_op p trace work room g n (get_or work 0 0) m args))

unfoldable pub fork_op : List ℕ → List ℕ → List ℕ → List ℕ → ℕ → Count → ℕ → AfterEntry
fork_op p outcomes trace work room g n =
    try_op p outcomes trace work room g n (argument_in p (part_of work n)) (params_of p (argument_in p (part_of work n)))
