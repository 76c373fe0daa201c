-- Paper 1's theorem: "The table's run has the lines, counts and end of the text's meaning, written as rules on the
-- text's tree, for every schedule and outcome list."
use Prim.Native.Nat.{ℕ}
use mathlib.Core.Path.{◌≡◌, sym, ap, ◌∙◌, subst}
use mathlib.Core.List.{List, [], ◌∷◌}
use lib.ListN.{length, drop}
use Rattle.machine.specs.State.{Frame, Status, running, finished, stopped, State, StateOf, process_at}
use Rattle.machine.specs.Act.{at_frame, at_frames, by_status, act_of}
use Rattle.machine.specs.Entry.{table_machine}
use Rattle.machine.specs.Run.{run}
use Rattle.simulation.specs.Simulation.{no_more, one_more, FramesLike, both-idle, both-stuck, StateLike, Simulates, SameRun}
use Rattle.simulation.proofs.Acts.{process-alike, count-alike}
use Rattle.simulation.proofs.Simulation.{same-run}
use Rattle.text.specs.Tree.{Program, main_first}
use Rattle.text.specs.Meaning.{Term, move, leave, Variable, TextFrame, with_variables, first_move, at_top, text_act, text_machine, meaning}
use Rattle.text.specs.Translation.{program_table}
use Rattle.text.specs.Statement.{Translated, text_table}
use Rattle.text.proofs.Limited.{Limited, Keeps, limited-keeps, translated-limited}
use Rattle.text.proofs.Follows.{Follows}
use Rattle.text.proofs.Like.{Stand, table-frame, text-frame, Like, like, out-of-scope, all-without-like, received-like}
use Rattle.text.proofs.Acting.{Acts}
use Rattle.text.proofs.Scenes.{Counts, counts_of}
use Rattle.text.proofs.Moves.{move-like}
use Rattle.text.proofs.Start.{started-like}

-- counts, one after the other
abbrev counts : List ℕ → ℕ → ℕ → ℕ → Counts
counts o q c n = record { outcomes = o; qubits = q; channels = c; processes = n }

module _ (ms : Program) (limited : Limited ms) (outcomes : List ℕ) where
  -- the first move of the terms, where blocks may end before it; us are the terms that the text's frame had
  first-like : (w : Stand ms) (us : List Term) (vs : List Variable) {fs : List Frame} {gs : List TextFrame}
      → FramesLike (Like ms) fs gs → (s : State) (s' : StateOf TextFrame)
      → counts_of ms outcomes s ≡ counts_of ms outcomes s'
      → (ts : List Term) → Follows ms w.method ts w.scope w.at
      → Acts ms outcomes (at_frame (program_table ms) outcomes s (table-frame w) fs)
      (first_move ms outcomes s' ts w.variables (with_variables vs (text-frame w us)) gs)
  unfolding first_move
  first-like w us vs callers s s' counts [] follows = absurd follows
  first-like w us vs callers s s' counts (move v ∷ ts) follows =
      move-like ms limited outcomes w ts callers s s' counts v follows
  first-like w us vs callers s s' counts (leave k ∷ ts) follows =
      first-like (out-of-scope w k) us vs callers s s' counts ts follows

  -- the top frame's act
  frames-like : {fs : List Frame} {gs : List TextFrame} → FramesLike (Like ms) fs gs
      → (s : State) (s' : StateOf TextFrame) → counts_of ms outcomes s ≡ counts_of ms outcomes s'
      → Acts ms outcomes (at_frames (program_table ms) outcomes s fs) (at_top ms outcomes s' gs)
  unfolding at_frames at_top
  frames-like no_more s s' counts = both-stuck
  frames-like (one_more (like w ts follows) callers) s s' counts =
      first-like w ts w.variables callers s s' counts ts follows

  -- a process acts by its status
  status-like : (t : Status) {fs : List Frame} {gs : List TextFrame} → FramesLike (Like ms) fs gs
      → (s : State) (s' : StateOf TextFrame) → counts_of ms outcomes s ≡ counts_of ms outcomes s'
      → Acts ms outcomes (by_status t (at_frames (program_table ms) outcomes s fs)) (by_status t (at_top ms outcomes s' gs))
  unfolding by_status
  status-like running h s s' counts = frames-like h s s' counts
  status-like finished h s s' counts = both-idle
  status-like (stopped f) h s s' counts = both-idle

  -- the counts of states alike are equal
  counts-alike : (s : State) (s' : StateOf TextFrame) → StateLike (Like ms) s s'
      → counts_of ms outcomes s ≡ counts_of ms outcomes s'
  counts-alike s s' alike =
      let left : ℕ → List ℕ = λ u. drop u outcomes in
      ap (λ (u : ℕ). counts (left u) s.config.qubits s.config.channels (length s.config.processes))
      alike.used
      ∙ ap (λ (u : ℕ). counts (left s'.used) u s.config.channels (length s.config.processes))
      alike.config.qubits
      ∙ ap (λ (u : ℕ). counts (left s'.used) s'.config.qubits u (length s.config.processes))
      alike.config.channels
      ∙ ap (counts (left s'.used) s'.config.qubits s'.config.channels) (count-alike alike.config)

  -- in states alike every process would do alike
  acts-like : (s : State) (s' : StateOf TextFrame) (n : ℕ) → StateLike (Like ms) s s'
      → Acts ms outcomes (act_of (program_table ms) outcomes s n) (text_act ms outcomes s' n)
  unfolding act_of text_act
  acts-like s s' n alike =
      let process = process-alike alike.config n in
      subst
      (λ (t : Status). Acts ms outcomes
      (by_status (process_at s.config n).status
      (at_frames (program_table ms) outcomes s (process_at s.config n).frames))
      (by_status t (at_top ms outcomes s' (process_at s'.config n).frames)))
      process.status
      (status-like (process_at s.config n).status process.frames s s' (counts-alike s s' alike))

  -- the table's machine and the text's run alike
  pub simulates : Simulates (table_machine (program_table ms) outcomes) (text_machine ms outcomes) (Like ms)
  simulates = record {
    acts = acts-like;
    loses = λ ts h. all-without-like ms ts h;
    gets = λ v h. received-like ms v h;
    root =
        let keeps : Keeps ms 0 limited.main = limited-keeps ms limited 0 limited.main limited.first in
        started-like ms limited 0 limited.main limited.first [] (sym (keeps.header limited.is-main).0);
  }

-- For every text that is not refused by 31 or 32, every outcome list, every trace and every schedule.
pub same-as-meaning : (bytes : ℕ) (ms : Program) → Translated bytes ms → (outcomes : List ℕ) (room : ℕ)
    (schedule : List ℕ) → SameRun (run (text_table ms) outcomes room schedule) (meaning ms outcomes room schedule)
unfolding text_table meaning
same-as-meaning bytes ms translated outcomes room schedule =
    same-run (simulates (main_first ms) (translated-limited bytes ms translated) outcomes) room schedule
