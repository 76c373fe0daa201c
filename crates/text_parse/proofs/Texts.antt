-- What may be cited of every text that is not refused: its table is accepted, the table's run has the end, the counts
-- and the lines of the text's meaning, and so the lines of the meaning say who held what.
use Prim.Native.Nat.{ℕ, ◌<◌}
use mathlib.Core.Path.{◌≡◌, refl, sym, ap, ◌∙◌, subst}
use mathlib.Core.List.{List, [], ◌∷◌}
use mathlib.Core.Option.{Option, none, some}
use lib.ListN.{get_or, take, length}
use lib.Seq.{take-length}
use Rattle.table.specs.Questions.{Accepted}
use Rattle.machine.specs.State.{Line}
use Rattle.machine.specs.Owner.{LineHeld, LineNew, Owned, no_line}
use Rattle.machine.specs.Run.{run}
use Rattle.machine.proofs.Ownership.{ownership}
use Rattle.simulation.specs.Simulation.{SameRun}
use Rattle.text.specs.Tree.{Program}
use Rattle.text.specs.Meaning.{meaning}
use Rattle.text.specs.Names.{name_refusal}
use Rattle.text.specs.Limits.{limit_refusal}
use Rattle.text.specs.Statement.{Translated, text_table}
use Rattle.text.proofs.Acceptance.{accepted-table}
use Rattle.text.proofs.SameRun.{same-as-meaning}
use Rattle.text_parse.specs.Tokens.{tokens_of}
use Rattle.text_parse.specs.Grammar.{Reading, read, leaves, program_of}
use Rattle.text_parse.specs.Text.{Text, refused_text, translated_text, or_else_refused, text_from, text_of}

-- the text comes to a table, and this is its tree
abbrev IsTable : Program → Text → Type 0
IsTable ms (refused_text n i) = ⊥
IsTable ms (translated_text qs) = qs ≡ ms

-- a text that is not refused passes 31 and 32
passes-names : (o : Option ℕ) (t : Text) (ms : Program) → IsTable ms (or_else_refused 31 o t) → (o ≡ none) × IsTable ms t
unfolding or_else_refused
passes-names none t ms h = (refl, h)
passes-names (some i) t ms h = absurd h

passes-limits : (o : Option ℕ) (t : Text) (ms : Program) → IsTable ms (or_else_refused 32 o t)
    → (o ≡ none) × IsTable ms t
unfolding or_else_refused
passes-limits none t ms h = (refl, h)
passes-limits (some i) t ms h = absurd h

judged-translated : (bytes : ℕ) (r : Reading Program) (ms : Program) → IsTable ms (text_from bytes r)
    → Translated bytes ms
unfolding text_from
judged-translated bytes (leaves i) ms h = absurd h
judged-translated bytes (read qs ts) ms h =
    let names = passes-names (name_refusal bytes qs) (or_else_refused 32 (limit_refusal qs) (translated_text qs)) ms h in
    let limits = passes-limits (limit_refusal qs) (translated_text qs) ms names.1 in
    subst (Translated bytes) limits.1 (record { names = names.0; limits = limits.0 })

pub translated : (text : List ℕ) (ms : Program) → text_of text ≡ translated_text ms → Translated (length text) ms
unfolding text_of
translated text ms e =
    judged-translated (length text) (program_of (tokens_of text)) ms (subst (IsTable ms) (sym e) refl)

module _ (text : List ℕ) (ms : Program) (reads : text_of text ≡ translated_text ms) where
  -- "a table that is given out passes them"
  pub text-accepted : Accepted (text_table ms)
  text-accepted = accepted-table (length text) ms (translated text ms reads)

  -- "The table's run has the lines, counts and end of the text's meaning .. for every schedule and outcome list."
  pub text-runs : (outcomes : List ℕ) (room : ℕ) (schedule : List ℕ)
      → SameRun (run (text_table ms) outcomes room schedule) (meaning ms outcomes room schedule)
  text-runs = same-as-meaning (length text) ms (translated text ms reads)

  -- every gate, measurement, meeting and giving of the meaning's lines is lawful by the lines above its own, and what
  -- is made is new
  module _ (outcomes : List ℕ) (room : ℕ) (schedule : List ℕ) where
    abbrev written : List Line
    written = (meaning ms outcomes room schedule).state.lines

    owned : Owned (run (text_table ms) outcomes room schedule).state.config
        (run (text_table ms) outcomes room schedule).state.lines
    owned =
        subst
        (λ (qs : List ℕ). Owned (run (text_table ms) outcomes room qs).state.config
        (run (text_table ms) outcomes room qs).state.lines)
        (take-length schedule) (ownership (text_table ms) outcomes room schedule (length schedule))

    pub text-lawful : (i : ℕ) → i < length written → LineHeld (take i written) (get_or written i no_line)
    text-lawful =
        subst (λ (ls : List Line). (i : ℕ) → i < length ls → LineHeld (take i ls) (get_or ls i no_line))
        (text-runs outcomes room schedule).lines owned.lawful

    pub text-fresh : (i : ℕ) → i < length written → LineNew (take i written) (get_or written i no_line)
    text-fresh =
        subst (λ (ls : List Line). (i : ℕ) → i < length ls → LineNew (take i ls) (get_or ls i no_line))
        (text-runs outcomes room schedule).lines owned.fresh
