-- Each move's rule does what its instruction's op does, on frames that stand for each other: the rules that change no
-- variable and need no other method.
use Prim.Native.Nat.{ℕ, suc, ◌-◌, ◌≤◌}
use native.Mathlib.Omega.{arith}
use mathlib.Core.Bool.{Bool, true, false, cond}
use mathlib.Core.Path.{◌≡◌, sym, ap, subst}
use mathlib.Core.List.{List, [], ◌∷◌}
use lib.IntN.{ℤ, pos, negsuc, ◌+ℤ◌, ◌-ℤ◌}
use lib.Signed.{lt_z}
use lib.ListN.{get_or, take, drop}
use lib.Dec.{eqb, ltb, lt→ltb}
use Rattle.lists.proofs.Tests.{passed}
use Rattle.table.specs.Ops.{one_qubit}
use Rattle.machine.specs.Value.{qubit, channel, end, Value, empty, int, bool, ref, in_range, eq_z, signed16, side_no}
use Rattle.machine.specs.State.{Frame, gated_one, gated_two, measured}
use Rattle.machine.specs.Act.{Act, ActOf, goes, as_int, present, do_int, do_bool, do_get, do_drop, do_new_q, do_new_c, do_end, do_gate_one, do_gate_two, do_gate, do_meas, do_ret, do_send, do_recv, do_add, do_sub, do_eq, do_less, do_nothing, doings, doing_of, passed_by}
use Rattle.simulation.specs.Simulation.{FramesLike, both_send, both-receive, both-stuck, both-fault, both_go, both-make, both-offer}
use Rattle.text.specs.Tree.{Name, Operator, plus, minus, equals, less_than, Program}
use Rattle.text.specs.Meaning.{constant, look_up, operate, measure_it, receive_it, alloc_qubit, alloc_channel, alloc_end, forget, take_end, gate, send_it, return_it, Term, TextFrame, value_of, operating, measuring, allocating, opening, gating, sending, receiving, rule}
use Rattle.text.specs.Translation.{Instruction, truth_word, operator_op, slot_of}
use Rattle.text.proofs.Follows.{ConstantOf, of-int, of-bool}
use Rattle.text.proofs.Variables.{same-value}
use Rattle.text.proofs.Like.{Stand, table-frame, text-frame, FollowsFrom, Like, passed-with, passed-like}
use Rattle.text.proofs.Acting.{Acts, returned-like, both_cond, present-like, int-like, qubit-like, channel-like, end-like, outcome-like}
use Rattle.text.proofs.Scenes.{Counts, Does, text-scene}

-- a number of a text is read as itself
signed-small : (i : ℕ) → i ≤ 32767 → signed16 i ≡ pos i
unfolding signed16
signed-small i le =
    ap (λ (b : Bool). cond b (pos i) (negsuc (65535 - i))) (passed (ltb i 32768) (lt→ltb i 32768 (omega arith)))

module _ (ms : Program) (outcomes : List ℕ) (w : Stand ms) (ts : List Term)
    {fs : List Frame} {gs : List TextFrame} (callers : FramesLike (Like ms) fs gs) (c : Counts)
    (follows : FollowsFrom w ts (suc w.at)) where
  -- the frames with the instruction and the term done, and these values
  after-like : (vs : List Value)
      → FramesLike (Like ms) (table-frame (passed-with w vs) ∷ fs) (text-frame (passed-with w vs) ts ∷ gs)
  after-like vs = passed-like w callers ts vs follows

  -- the value taken after i others, where k are taken
  abbrev taken : ℕ → ℕ → Value
  taken k i = get_or (take k w.values) i empty

  -- the values that are left
  abbrev left : ℕ → List Value
  left k = drop k w.values

  -- a constant
  pub constant-like : (v : Value) (x : Instruction) → ConstantOf v x
      → Does ms outcomes w ts callers c x.op x.argument 0 (constant v)
  unfolding doing_of doings do_int do_bool passed_by rule truth_word
  constant-like v x (of-int i le) =
      subst
      (λ (z : ℤ). Acts ms outcomes (goes (table-frame (passed-with w (int z ∷ w.values)) ∷ fs) [] 0)
      (goes (text-frame (passed-with w (int (pos i) ∷ w.values)) ts ∷ gs) [] 0))
      (sym (signed-small i le))
      (both_go [] 0 (after-like (int (pos i) ∷ w.values)))
  constant-like v x (of-bool true) = both_go [] 0 (after-like (bool true ∷ w.values))
  constant-like v x (of-bool false) = both_go [] 0 (after-like (bool false ∷ w.values))

  -- a variable
  pub look-up-like : (x : Name) → Does ms outcomes w ts callers c 3 (slot_of w.scope x) 0 (look_up x)
  unfolding doing_of doings do_get passed_by rule
  look-up-like x =
      subst
      (λ (v : Value). Acts ms outcomes (present v pushed_at)
      (rule (look_up x) (text-scene ms outcomes c (text-frame w ts) gs 0)))
      (sym (same-value w.shown x))
      (present-like ms outcomes (value_of x w.variables) (λ v. both_go [] 0 (after-like (v ∷ w.values))))
    where
      pushed_at : Value → Act
      pushed_at v = goes (table-frame (passed-with w (v ∷ w.values)) ∷ fs) [] 0

  -- •;
  pub forget-like : Does ms outcomes w ts callers c 5 0 1 forget
  unfolding doing_of doings do_drop passed_by rule
  forget-like = both_go [] 0 (after-like (left 1))

  -- the ends of a channel
  pub end-of-like : (d : Bool) → Does ms outcomes w ts callers c 9 (side_no d) 1 (take_end d)
  unfolding doing_of doings do_end passed_by rule
  end-of-like false =
      channel-like ms outcomes (taken 1 0) (λ i. both_go [] 0 (after-like (ref (end i false) ∷ left 1)))
  end-of-like true = channel-like ms outcomes (taken 1 0) (λ i. both_go [] 0 (after-like (ref (end i true) ∷ left 1)))

  -- • op • takes two ints
  two-ints-like : {k : ℤ → ℤ → Act} {l : ℤ → ℤ → ActOf TextFrame} → ((x y : ℤ) → Acts ms outcomes (k x y) (l x y))
      → Acts ms outcomes (as_int (taken 2 1) (λ x. as_int (taken 2 0) (k x)))
      (as_int (taken 2 1) (λ x. as_int (taken 2 0) (l x)))
  two-ints-like f = int-like ms outcomes (taken 2 1) (λ x. int-like ms outcomes (taken 2 0) (λ y. f x y))

  -- each operator
  pub operate-like : (o : Operator) → Does ms outcomes w ts callers c (operator_op o) 0 2 (operate o)
  unfolding doing_of doings do_add do_sub do_eq do_less passed_by rule operating operator_op
  operate-like plus =
      two-ints-like (λ x y. both_cond ms outcomes (in_range (x +ℤ y))
      (λ e. both_go [] 0 (after-like (int (x +ℤ y) ∷ left 2))) (both-fault 26))
  operate-like minus =
      two-ints-like (λ x y. both_cond ms outcomes (in_range (x -ℤ y))
      (λ e. both_go [] 0 (after-like (int (x -ℤ y) ∷ left 2))) (both-fault 26))
  operate-like equals = two-ints-like (λ x y. both_go [] 0 (after-like (bool (eq_z x y) ∷ left 2)))
  operate-like less_than = two-ints-like (λ x y. both_go [] 0 (after-like (bool (lt_z x y) ∷ left 2)))

  -- measure(StdBasis, •)
  pub measure-like : Does ms outcomes w ts callers c 11 0 1 measure_it
  unfolding doing_of doings do_meas passed_by rule measuring
  measure-like =
      qubit-like ms outcomes (taken 1 0) (λ i. outcome-like ms outcomes c.outcomes (λ b.
      both_go (measured i b ∷ []) 1 (after-like (int (pos b) ∷ left 1))))

  -- recv(•)
  pub receive-like : Does ms outcomes w ts callers c 16 0 1 receive_it
  unfolding doing_of doings do_recv passed_by rule receiving
  receive-like =
      end-like ms outcomes (taken 1 0) (λ i d. both-offer (both-receive i d (after-like (left 1))))

  -- send(•, •);
  pub send-like : Does ms outcomes w ts callers c 15 0 2 send_it
  unfolding doing_of doings do_send passed_by rule sending
  send-like =
      end-like ms outcomes (taken 2 1) (λ i d. both-offer (both_send i d (taken 2 0) (after-like (left 2))))

  -- new qbit()
  pub qubit-made-like : Does ms outcomes w ts callers c 7 0 0 alloc_qubit
  unfolding doing_of doings do_new_q passed_by rule allocating
  qubit-made-like =
      both_cond ms outcomes (ltb c.qubits 32)
      (λ e. both-make (qubit c.qubits) (after-like (ref (qubit c.qubits) ∷ w.values))) (both-fault 22)

  -- new channel[T]()
  pub channel-made-like : (t : ℕ) → Does ms outcomes w ts callers c 8 t 0 alloc_channel
  unfolding doing_of doings do_new_c passed_by rule opening
  channel-made-like t =
      both_cond ms outcomes (ltb c.channels 16)
      (λ e. both-make (channel c.channels) (after-like (ref (channel c.channels) ∷ w.values))) (both-fault 21)

  -- new channelEnd[T](), which neither side has a rule for
  pub no-op-like : Does ms outcomes w ts callers c 0 0 0 alloc_end
  unfolding doing_of doings do_nothing rule
  no-op-like = both-stuck

  -- a gate
  pub gate-like : (g k : ℕ) → Does ms outcomes w ts callers c 10 g k (gate g)
  unfolding doing_of doings do_gate do_gate_one do_gate_two passed_by rule gating
  gate-like g k =
      both_cond ms outcomes (one_qubit g)
      (λ e. qubit-like ms outcomes (taken k 0) (λ i. both_go (gated_one g i ∷ []) 0 (after-like (left k))))
      (qubit-like ms outcomes (taken k 1) (λ first. qubit-like ms outcomes (taken k 0) (λ i.
      both_cond ms outcomes (eqb first i) (λ e. both-fault 27)
      (both_go (gated_two g first i ∷ []) 0 (after-like (left k))))))

  -- return •;
  pub return-like : (k : ℕ) → Does ms outcomes w ts callers c 13 0 k return_it
  unfolding doing_of doings do_ret rule
  return-like k = returned-like ms outcomes (take k w.values) callers
