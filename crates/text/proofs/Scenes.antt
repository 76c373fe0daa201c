-- What a table's frame does by its instruction, and what a text's frame does by its move, given what both go by.
use Prim.Native.Nat.{ℕ, ◌+◌, ◌≤◌}
use mathlib.Core.Bool.{cond}
use mathlib.Core.Path.{◌≡◌, refl, sym, ap, ◌∙◌, subst}
use mathlib.Core.List.{List}
use mathlib.Core.Option.{some}
use lib.ListN.{length, take, drop}
use lib.Dec.{leb, leb→le}
use Rattle.lists.proofs.Tests.{passes}
use Rattle.lists.specs.Lists.{any}
use Rattle.table.specs.Table.{offset_of, op_at, arg_at, owner_of}
use Rattle.table.specs.Ops.{op_of}
use Rattle.table.specs.Reading.{taken_at}
use Rattle.machine.specs.Value.{is_empty}
use Rattle.machine.specs.State.{Frame, State, StateOf}
use Rattle.machine.specs.Act.{ActOf, Act, At, stuck, faults, doing_of, passed_by, scene_of, at_frame}
use Rattle.simulation.specs.Simulation.{FramesLike, both-stuck, both-fault}
use Rattle.text.specs.Tree.{Program}
use Rattle.text.specs.Meaning.{Move, Term, TextFrame, Scene, is_some, rule, taken_by, with_values, scene_in, moving}
use Rattle.text.specs.Translation.{Instruction, method_code, program_table}
use Rattle.text.proofs.Elements.{nth}
use Rattle.text.proofs.Words.{in_table}
use Rattle.text.proofs.Like.{Stand, table-frame, text-frame, Like}
use Rattle.text.proofs.Acting.{Acts, both_cond}

-- What an act goes by besides its frames: the outcomes that are left, and how many things and processes are made.
pub record Counts : Type 0 where
  pub outcomes : List ℕ
  pub qubits : ℕ
  pub channels : ℕ
  pub processes : ℕ

module _ (ms : Program) (outcomes : List ℕ) where
  -- those of a state
  abbrev pub counts_of : {F : Type 0} → StateOf F → Counts
  counts_of s = record {
    outcomes = drop s.used outcomes;
    qubits = s.config.qubits;
    channels = s.config.channels;
    processes = length s.config.processes;
  }

  -- an instruction with this argument, which takes k values
  abbrev pub scene-at : Counts → Frame → List Frame → ℕ → ℕ → At
  scene-at c f fs k a = record {
    program = program_table ms;
    outcomes = c.outcomes;
    qubits = c.qubits;
    channels = c.channels;
    processes = c.processes;
    argument = a;
    operands = take k f.pending;
    frame = passed_by k f;
    callers = fs;
  }

  -- a move that takes k values
  abbrev pub text-scene : Counts → TextFrame → List TextFrame → ℕ → Scene
  text-scene c g gs k = record {
    program = ms;
    outcomes = c.outcomes;
    qubits = c.qubits;
    channels = c.channels;
    processes = c.processes;
    operands = take k g.values;
    frame = with_values (drop k g.values) g;
    callers = gs;
  }

  -- what the table's frame does, by the op, its argument and the values taken
  by-instruction : Counts → Frame → List Frame → ℕ → ℕ → ℕ → Act
  by-instruction c f fs k op a =
      cond (leb k (length f.pending))
      (cond (any is_empty (take k f.pending)) (faults 20) (doing_of op (scene-at c f fs k a)))
      stuck

  -- this is what it does at its place
  instructed : (s : State) (f : Frame) (fs : List Frame) (k op a : ℕ) → taken_at (program_table ms) f.place ≡ k
      → op_at (program_table ms) f.place ≡ op → arg_at (program_table ms) f.place ≡ a
      → at_frame (program_table ms) outcomes s f fs ≡ by-instruction (counts_of s) f fs k op a
  unfolding at_frame scene_of by-instruction
  instructed s f fs k op a taken is-op is-argument =
      let by : ℕ → ℕ → ℕ → Act = by-instruction (counts_of s) f fs in
      ap (λ (j : ℕ). by j (op_at (program_table ms) f.place) (arg_at (program_table ms) f.place)) taken
      ∙ ap (λ (j : ℕ). by k j (arg_at (program_table ms) f.place)) is-op
      ∙ ap (λ (j : ℕ). by k op j) is-argument

  -- what the text's frame does by a move
  by_move : Counts → TextFrame → List TextFrame → Move → ActOf TextFrame
  by_move c g gs v =
      cond (leb (taken_by g.gives v) (length g.values))
      (cond (any is_empty (take (taken_by g.gives v) g.values)) (faults 20)
      (rule v (text-scene c g gs (taken_by g.gives v))))
      stuck

  -- this is what it does
  moved : (s : StateOf TextFrame) (g : TextFrame) (gs : List TextFrame) (v : Move)
      → moving ms outcomes s v g gs ≡ by_move (counts_of s) g gs v
  unfolding moving scene_in by_move
  moved s g gs v = refl

-- Both frames stand as w says, the frames below are alike, and the text's frame has the terms ts after its move.
module _ (ms : Program) (outcomes : List ℕ) (w : Stand ms) (ts : List Term)
    {fs : List Frame} {gs : List TextFrame} (callers : FramesLike (Like ms) fs gs) where
  -- the op, with this argument and k values, does what the rule of the move does
  abbrev pub Does : Counts → ℕ → ℕ → ℕ → Move → Type 0
  Does c op a k v =
      Acts ms outcomes (doing_of op (scene-at ms outcomes c (table-frame w) fs k a))
      (rule v (text-scene ms outcomes c (text-frame w ts) gs k))

  -- the values that the move takes
  abbrev pub taken-by : Move → ℕ
  taken-by v = taken_by (is_some w.method.returns) v

  -- Instruction x stands where the frames do: it does what move v does if they take as many values, and the op does
  -- what the rule does.
  pub act-like : (s : State) (s' : StateOf TextFrame) → counts_of ms outcomes s ≡ counts_of ms outcomes s'
      → (x : Instruction) (v : Move) → nth (method_code ms w.method) w.at ≡ some x
      → (op_of x.op).takes (program_table ms) w.number x.argument ≡ taken-by v
      → (taken-by v ≤ length w.values → Does (counts_of ms outcomes s) x.op x.argument (taken-by v) v)
      → Acts ms outcomes (at_frame (program_table ms) outcomes s (table-frame w) fs)
      (moving ms outcomes s' v (text-frame w ts) gs)
  unfolding by-instruction by_move taken_at
  act-like s s' counts x v stands takes rule-like =
      let p : List ℕ = program_table ms in
      let n : ℕ = w.number in
      let place : ℕ = w.place in
      let f : Frame = table-frame w in
      let g : TextFrame = text-frame w ts in
      let c : Counts = counts_of ms outcomes s in
      let k : ℕ = taken-by v in
      let there : (op_at p (offset_of p n + w.at) ≡ x.op)
      × ((arg_at p (offset_of p n + w.at) ≡ x.argument) × (owner_of p (offset_of p n + w.at) ≡ n)) =
      in_table ms n w.method w.is-method w.at x stands in
      let is-op : op_at p place ≡ x.op = ap (op_at p) w.here ∙ there.0 in
      let is-argument : arg_at p place ≡ x.argument = ap (arg_at p) w.here ∙ there.1.0 in
      let is-owner : owner_of p place ≡ n = ap (owner_of p) w.here ∙ there.1.1 in
      let taken : taken_at p place ≡ k =
      ap (λ (o : ℕ). (op_of o).takes p (owner_of p place) (arg_at p place)) is-op
      ∙ ap (λ (i : ℕ). (op_of x.op).takes p i (arg_at p place)) is-owner
      ∙ ap (λ (a : ℕ). (op_of x.op).takes p n a) is-argument
      ∙ takes in
      let both : Acts ms outcomes (by-instruction ms outcomes c f fs k x.op x.argument)
      (by_move ms outcomes c g gs v) =
      both_cond ms outcomes (leb k (length w.values))
      (λ enough. both_cond ms outcomes (any is_empty (take k w.values)) (λ e. both-fault 20)
      (rule-like (leb→le k (length w.values) (passes enough))))
      both-stuck in
      let by-text : by_move ms outcomes c g gs v ≡ moving ms outcomes s' v g gs =
      ap (λ (d : Counts). by_move ms outcomes d g gs v) counts ∙ sym (moved ms outcomes s' g gs v) in
      subst (λ (a : Act). Acts ms outcomes a (moving ms outcomes s' v g gs))
      (sym (instructed ms outcomes s f fs k x.op x.argument taken is-op is-argument))
      (subst (Acts ms outcomes (by-instruction ms outcomes c f fs k x.op x.argument)) by-text both)
