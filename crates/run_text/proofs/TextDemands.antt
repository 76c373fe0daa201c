-- The demands, of what `run_text` leaves in the lent trace and the lent work store, for any text, schedule and outcome
-- list, and whatever trace and work store held. A user may cite these.
--
-- The contract of `run_text` (src/lib.rt) says that its answer is `text_answer`, the trace that it leaves `text_trace`
-- and the store that it leaves `text_store`; `text_lines_read` and `text_config_read` are read back from them, `text_state_read`
-- is both with the outcomes used (specs/RunText.antt). `text_of` (crate text_parse, specs/Text.antt) is what the bytes of a text come to, `meaning`
-- (crate text, specs/Meaning.antt) the run of a text by the rules on its tree, and `Owned` (crate machine,
-- specs/Owner.antt) what ownership says of a configuration and lines.
use Prim.Native.Nat.{ℕ, suc, ◌+◌, ◌*◌, ◌≤◌, ◌<◌}
use mathlib.Core.Path.{◌≡◌, sym, ap, ◌∙◌, subst}
use mathlib.Core.List.{List}
use mathlib.Core.Option.{some}
use lib.ListN.{get_or, take, drop, length}
use Rattle.table.specs.Questions.{Accepted, accepted, refused, questions}
use Rattle.machine.specs.State.{Config, Line, State, process_at, stopped}
use Rattle.machine.specs.Entry.{fault_of}
use Rattle.machine.specs.Run.{run}
use Rattle.machine.specs.Faults.{StoppedBy}
use Rattle.machine.specs.Owner.{LineHeld, LineNew, Owned, no_line, holder}
use Rattle.machine.specs.Answer.{refusal, ran, lines_in}
use Rattle.text.specs.Tree.{Program}
use Rattle.text.specs.Meaning.{meaning}
use Rattle.text.specs.Statement.{text_table}
use Rattle.text_parse.specs.Text.{refused_text, translated_text, text_of}
use Rattle.text_parse.proofs.Texts.{text-accepted, text-runs, text-lawful, text-fresh}
use Rattle.layout.specs.Places.{InStore}
use Rattle.layout.specs.Holders.{thing_at, holder_no}
use Rattle.run.specs.Answers.{trace_left, config_read, lines_read, state_read}
use Rattle.run.proofs.Demands.{demand-1-refused, demand-1-ends, demand-1-fault, demand-1-stopped, demand-2-lines, demand-2-rest, demand-2-config, demand-2-unused, demand-2-beyond, demand-3}
use Rattle.run.proofs.Holders.{holders-stored}
use Rattle.run_text.specs.RunText.{text_answer, text_trace, text_store, text_config_read, text_lines_read, text_state_read}

-- an answer with the same end and counts
as-meant : {e f k l m n u v : ℕ} → e ≡ f → k ≡ l → m ≡ n → u ≡ v → ran e k m u ≡ ran f l n v
as-meant {f = f} {k = k} {l = l} {m = m} {n = n} {u = u} p q r s =
    ap (λ (x : ℕ). ran x k m u) p ∙ ap (λ (x : ℕ). ran f x m u) q ∙ ap (λ (x : ℕ). ran f l x u) r
    ∙ ap (λ (x : ℕ). ran f l n x) s

module _ (text schedule outcomes trace work : List ℕ) where
  -- 30, 31 and 32: refused with the number and place of the definition, every lent buffer untouched
  pub text-refused : (n i : ℕ) → text_of text ≡ refused_text n i
      → (text_answer (text_of text) schedule outcomes (lines_in (length trace)) (length work) ≡ refusal n i)
      × (text_trace (text_of text) schedule outcomes trace work ≡ trace)
      × (text_store (text_of text) schedule outcomes trace work ≡ work)
  unfolding text_answer text_trace text_store
  text-refused n i e = (
    ap (λ t. text_answer t schedule outcomes (lines_in (length trace)) (length work)) e,
    ap (λ t. text_trace t schedule outcomes trace work) e,
    ap (λ t. text_store t schedule outcomes trace work) e,
  )

  module _ (ms : Program) (is : text_of text ≡ translated_text ms) where
    -- the table of a text that none of them refuses passes questions 1 to 5
    pub table-passes : Accepted (text_table ms)
    table-passes = text-accepted text ms is

    -- the others refuse as they refuse a table
    pub run-refused : (n i : ℕ) → questions (text_table ms) schedule outcomes (length work) ≡ refused n i
        → (text_answer (text_of text) schedule outcomes (lines_in (length trace)) (length work) ≡ refusal n i)
        × (text_trace (text_of text) schedule outcomes trace work ≡ trace)
        × (text_store (text_of text) schedule outcomes trace work ≡ work)
    unfolding text_answer text_trace text_store
    run-refused n i says =
        let r = demand-1-refused (text_table ms) schedule outcomes trace work n i says in (
          ap (λ t. text_answer t schedule outcomes (lines_in (length trace)) (length work)) is ∙ r.0,
          ap (λ t. text_trace t schedule outcomes trace work) is ∙ r.1,
          ap (λ t. text_store t schedule outcomes trace work) is ∙ r.2,
        )

    module _ (ok : questions (text_table ms) schedule outcomes (length work) ≡ accepted) where
      -- what is read back after a run on the schedule's first k entries
      abbrev read : ℕ → State
      read k = text_state_read (text_of text) (take k schedule) outcomes trace work

      -- the configuration at the end of its table's run
      abbrev final : Config
      final = (run (text_table ms) outcomes (lines_in (length trace)) schedule).state.config

      entries : (run (text_table ms) outcomes (lines_in (length trace)) schedule).entries
          ≡ (meaning ms outcomes (lines_in (length trace)) schedule).entries
      entries = (text-runs text ms is outcomes (lines_in (length trace)) schedule).entries

      -- the lines of the text's meaning
      abbrev meant : List Line
      meant = (meaning ms outcomes (lines_in (length trace)) schedule).state.lines

      -- the run has the end and the counts of the text's meaning ..
      pub text-answer : text_answer (text_of text) schedule outcomes (lines_in (length trace)) (length work)
          ≡ ran (meaning ms outcomes (lines_in (length trace)) schedule).end
          (meaning ms outcomes (lines_in (length trace)) schedule).entries (length meant)
          (meaning ms outcomes (lines_in (length trace)) schedule).state.used
      unfolding text_answer
      text-answer =
          let same = text-runs text ms is outcomes (lines_in (length trace)) schedule in
          ap (λ t. text_answer t schedule outcomes (lines_in (length trace)) (length work)) is
          ∙ (demand-1-ends (text_table ms) schedule outcomes trace work ok).0
          ∙ as-meant same.end same.entries (ap length same.lines) same.used

      -- .. which is one of four ends
      pub text-ends : (meaning ms outcomes (lines_in (length trace)) schedule).end ≤ 3
      text-ends =
          subst (λ (e : ℕ). e ≤ 3) (text-runs text ms is outcomes (lines_in (length trace)) schedule).end
          (demand-1-ends (text_table ms) schedule outcomes trace work ok).1

      -- a fault stops its own process, by its number, and no other: where the process that entry k names would fault,
      -- by what is read back after k entries, it is that process stopped that is read back after k + 1 ..
      pub text-fault : (k f : ℕ) → k < (meaning ms outcomes (lines_in (length trace)) schedule).entries
          → fault_of (text_table ms) outcomes (read k) (get_or schedule k 0) ≡ some f
          → StoppedBy k (get_or schedule k 0) f (read k) (read (suc k))
      unfolding text_state_read text_config_read text_lines_read text_answer text_trace text_store state_read config_read lines_read
      text-fault k f before =
          subst
          (λ t. fault_of (text_table ms) outcomes (text_state_read t (take k schedule) outcomes trace work)
          (get_or schedule k 0) ≡ some f
          → StoppedBy k (get_or schedule k 0) f (text_state_read t (take k schedule) outcomes trace work)
          (text_state_read t (take (suc k) schedule) outcomes trace work))
          (sym is)
          (demand-1-fault (text_table ms) schedule outcomes trace work ok k f (subst (λ (n : ℕ). k < n) (sym entries) before))

      -- .. and a process is read back as stopped only where an entry before named it and it faulted there
      pub text-stopped : (k n f : ℕ) → (process_at (read k).config n).status ≡ stopped f
          → (j : ℕ) × (j < k) × (j < (meaning ms outcomes (lines_in (length trace)) schedule).entries)
          × (get_or schedule j 0 ≡ n) × (fault_of (text_table ms) outcomes (read j) n ≡ some f)
      unfolding text_state_read text_config_read text_lines_read text_answer text_trace text_store state_read config_read lines_read
      text-stopped k n f =
          subst
          (λ t. (process_at (text_state_read t (take k schedule) outcomes trace work).config n).status ≡ stopped f
          → (j : ℕ) × (j < k) × (j < (meaning ms outcomes (lines_in (length trace)) schedule).entries)
          × (get_or schedule j 0 ≡ n)
          × (fault_of (text_table ms) outcomes (text_state_read t (take j schedule) outcomes trace work) n ≡ some f))
          (sym is)
          (subst
          (λ (e : ℕ). (process_at (state_read (text_table ms) (take k schedule) outcomes trace work).config n).status
          ≡ stopped f
          → (j : ℕ) × (j < k) × (j < e) × (get_or schedule j 0 ≡ n)
          × (fault_of (text_table ms) outcomes (state_read (text_table ms) (take j schedule) outcomes trace work) n ≡ some f))
          entries (demand-1-stopped (text_table ms) schedule outcomes trace work ok k n f))

      -- Demand 2: the lines of the text's meaning, read back from the trace, and the words beyond them ..
      pub text-lines : text_lines_read (text_of text) schedule outcomes trace work ≡ meant
      unfolding text_lines_read text_answer text_trace lines_read
      text-lines =
          ap (λ t. text_lines_read t schedule outcomes trace work) is
          ∙ demand-2-lines (text_table ms) schedule outcomes trace work ok
          ∙ (text-runs text ms is outcomes (lines_in (length trace)) schedule).lines

      pub text-rest : drop (6 * length meant) (text_trace (text_of text) schedule outcomes trace work)
          ≡ drop (6 * length meant) trace
      unfolding text_trace
      text-rest =
          ap (λ t. drop (6 * length meant) (text_trace t schedule outcomes trace work)) is
          ∙ subst
          (λ (ls : List Line). drop (6 * length ls) (trace_left (text_table ms) schedule outcomes trace work)
          ≡ drop (6 * length ls) trace)
          (text-runs text ms is outcomes (lines_in (length trace)) schedule).lines
          (demand-2-rest (text_table ms) schedule outcomes trace work ok)

      -- .. the final configuration of its table's run, which is that of the text's meaning but for the frames ..
      pub text-config : text_config_read (text_of text) schedule outcomes trace work ≡ final
      unfolding text_config_read text_store config_read
      text-config =
          ap (λ t. text_config_read t schedule outcomes trace work) is
          ∙ demand-2-config (text_table ms) schedule outcomes trace work ok

      -- .. 0 in every word at a place that this configuration does not use, and the words beyond
      pub text-unused : (w : ℕ) → w < 8192 → (InStore final w → ⊥)
          → get_or (text_store (text_of text) schedule outcomes trace work) w 0 ≡ 0
      unfolding text_store
      text-unused w low unused =
          ap (λ t. get_or (text_store t schedule outcomes trace work) w 0) is
          ∙ demand-2-unused (text_table ms) schedule outcomes trace work ok w low unused

      pub text-beyond : drop 8256 (text_store (text_of text) schedule outcomes trace work) ≡ drop 8256 work
      unfolding text_store
      text-beyond =
          ap (λ t. drop 8256 (text_store t schedule outcomes trace work)) is
          ∙ demand-2-beyond (text_table ms) schedule outcomes trace work ok

      -- every gate, measurement, meeting and giving in the trace is lawful by the lines above its own, and what is
      -- made is new: the lines of a text's run say who held what
      pub trace-lawful : (i : ℕ) → i < length (text_lines_read (text_of text) schedule outcomes trace work)
          → LineHeld (take i (text_lines_read (text_of text) schedule outcomes trace work))
          (get_or (text_lines_read (text_of text) schedule outcomes trace work) i no_line)
      trace-lawful =
          subst (λ (ls : List Line). (i : ℕ) → i < length ls → LineHeld (take i ls) (get_or ls i no_line)) (sym text-lines)
          (text-lawful text ms is outcomes (lines_in (length trace)) schedule)

      pub trace-fresh : (i : ℕ) → i < length (text_lines_read (text_of text) schedule outcomes trace work)
          → LineNew (take i (text_lines_read (text_of text) schedule outcomes trace work))
          (get_or (text_lines_read (text_of text) schedule outcomes trace work) i no_line)
      trace-fresh =
          subst (λ (ls : List Line). (i : ℕ) → i < length ls → LineNew (take i ls) (get_or ls i no_line)) (sym text-lines)
          (text-fresh text ms is outcomes (lines_in (length trace)) schedule)

      -- Demand 3: so for every k, what is read back after a run on the schedule's first k entries is owned
      pub text-owned : (k : ℕ)
          → Owned (text_config_read (text_of text) (take k schedule) outcomes trace work)
          (text_lines_read (text_of text) (take k schedule) outcomes trace work)
      unfolding text_config_read text_lines_read text_answer text_trace text_store config_read lines_read
      text-owned k =
          subst
          (λ t. Owned (text_config_read t (take k schedule) outcomes trace work)
          (text_lines_read t (take k schedule) outcomes trace work))
          (sym is) (demand-3 (text_table ms) schedule outcomes trace work ok k)

      -- and Paper 7: the stored holders are those that the lines, read back, give
      pub text-holders : (k i : ℕ) → i < 64
          → get_or (text_store (text_of text) (take k schedule) outcomes trace work) (8192 + i) 0
          ≡ holder_no (holder (text_lines_read (text_of text) (take k schedule) outcomes trace work) (thing_at i))
      unfolding text_lines_read text_answer text_trace text_store lines_read
      text-holders k i low =
          subst
          (λ t. get_or (text_store t (take k schedule) outcomes trace work) (8192 + i) 0
          ≡ holder_no (holder (text_lines_read t (take k schedule) outcomes trace work) (thing_at i)))
          (sym is) (holders-stored (text_table ms) schedule outcomes trace work ok k i low)
