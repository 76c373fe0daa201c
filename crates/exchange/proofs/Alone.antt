-- The ops at which a process looks at itself alone: every op but NEWQ, NEWC, MEAS, FORK, SEND and RECV. One fact for
-- each op, their list, and what follows for an entry of the machine of a program table.
use Prim.Native.Nat.{ℕ, suc, ◌+◌}
use mathlib.Core.Path.{◌≡◌, refl, sym, ◌∙◌, ap, subst}
use mathlib.Core.Logic.{◌≢◌, inl, inr}
use mathlib.Core.Bool.{true, false, cond, true≢false}
use mathlib.Core.List.{List, [], ◌∷◌}
use native.Mathlib.Omega.{arith}
use lib.IntN.{◌+ℤ◌, ◌-ℤ◌}
use lib.ListN.{get_or, take, drop, length}
use lib.Dec.{eqb, leb, ltb}
use Rattle.lists.specs.Lists.{any, All}
use Rattle.lists.proofs.Tests.{cond_both}
use Rattle.lists.proofs.Any.{All-implies}
use Rattle.table.specs.Table.{op_at}
use Rattle.table.specs.Ops.{one_qubit}
use Rattle.table.specs.Reading.{taken_at}
use Rattle.machine.specs.Value.{qubit, Value, empty, is_empty, in_range}
use Rattle.machine.specs.State.{Frame, Status, running, finished, stopped, Process, State, Event, process_at, is_over, finishes, stops}
use Rattle.machine.specs.Act.{Act, idle, stuck, faults, goes, ends, makes, forks, offers, At, operand, pushes, return_to, do_int, do_bool, do_get, do_put, do_drop, do_clear, do_end, do_gate_one, do_gate_two, do_gate, do_call, do_ret, do_jump, do_j_false, do_add, do_sub, do_eq, do_less, do_not, do_nothing, doings, doing_of, scene_of, at_frame, at_frames, by_status, act_of}
use Rattle.machine.specs.Entry.{offered, judged, changes, runs, applied_in, effect_in, moves_in, able_in, table_machine, able, moves}
use Rattle.machine.specs.Owner.{values_of}
use Rattle.machine.proofs.Within.{InReach, Quiet, ActWithin, act-within}
use Rattle.machine.proofs.Operands.{on-int, on_bool, on-qubit, on-channel, on-present}
use Rattle.exchange.specs.Exchange.{left_out, top_op, stands_at}
use Rattle.exchange.specs.Harmless.{OfGateOrEnding}
use Rattle.exchange.proofs.Numbered.{Numbered, also, numbered-at}
use Rattle.exchange.proofs.Alike.{Near}
use Rattle.exchange.proofs.Commute.{OwnMove, Unheld}

-- an act that is no making, no fork and no offer, uses no outcome, and writes no line but of gates
abbrev pub OwnAct : Act → Type 0
OwnAct idle = Unit {0}
OwnAct stuck = Unit {0}
OwnAct (faults f) = Unit {0}
OwnAct (goes fs es u) = (u ≡ 0) × All (λ e. e.kind ≡ 3) es
OwnAct ends = Unit {0}
OwnAct (makes t fs) = ⊥
OwnAct (forks m args fs) = ⊥
OwnAct (offers o) = ⊥

-- the same instruction where other outcomes are left, and other numbers of things are made
abbrev elsewhere : List ℕ → ℕ → ℕ → ℕ → At → At
elsewhere outcomes qubits channels processes a = record {
  program = a.program;
  outcomes = outcomes;
  qubits = qubits;
  channels = channels;
  processes = processes;
  argument = a.argument;
  operands = a.operands;
  frame = a.frame;
  callers = a.callers;
}

-- an op that acts by its own process alone
pub record Alone (doing : At → Act) : Type 0 where
  pub own : (a : At) → OwnAct (doing a)
  pub same : (a : At) (outcomes : List ℕ) (qubits channels processes : ℕ)
      → doing (elsewhere outcomes qubits channels processes a) ≡ doing a

nothing-alone : Alone do_nothing
unfolding do_nothing
nothing-alone = record { own = λ a. tt; same = λ a os q c r. refl }

int_alone : Alone do_int
unfolding do_int
int_alone = record { own = λ a. (refl, tt); same = λ a os q c r. refl }

bool_alone : Alone do_bool
unfolding do_bool
bool_alone = record { own = λ a. (refl, tt); same = λ a os q c r. refl }

get-alone : Alone do_get
unfolding do_get
get-alone = record {
  own = λ a. on-present OwnAct tt (get_or a.frame.slots a.argument empty) (pushes a) (refl, tt);
  same = λ a os q c r. refl;
}

put_alone : Alone do_put
unfolding do_put
put_alone = record { own = λ a. (refl, tt); same = λ a os q c r. refl }

drop-alone : Alone do_drop
unfolding do_drop
drop-alone = record { own = λ a. (refl, tt); same = λ a os q c r. refl }

clear-alone : Alone do_clear
unfolding do_clear
clear-alone = record { own = λ a. (refl, tt); same = λ a os q c r. refl }

end-alone : Alone do_end
unfolding do_end
end-alone = record { own = λ a. on-channel OwnAct tt (operand a 0) _ (λ c e. (refl, tt)); same = λ a os q c r. refl }

gate-alone : Alone do_gate
unfolding do_gate do_gate_one do_gate_two
gate-alone = record {
  own = λ a.
      cond_both OwnAct (one_qubit a.argument) (on-qubit OwnAct tt (operand a 0) _ (λ q e. (refl, (refl, tt))))
      (on-qubit OwnAct tt (operand a 1) _
      (λ deeper d. on-qubit OwnAct tt (operand a 0) _ (λ q e. cond_both OwnAct (eqb deeper q) tt (refl, (refl, tt)))));
  same = λ a os q c r. refl;
}

call-alone : Alone do_call
unfolding do_call
call-alone =
    record { own = λ a. cond_both OwnAct (ltb (suc (length a.callers)) 8) (refl, tt) tt; same = λ a os q c r. refl }

ret-alone : Alone do_ret
unfolding do_ret
ret-alone = record { own = λ a. to a.operands a.callers; same = λ a os q c r. refl }
  where
    to : (vs : List Value) (fs : List Frame) → OwnAct (return_to vs fs)
    to vs [] = tt
    to vs (f ∷ fs) = (refl, tt)

jump-alone : Alone do_jump
unfolding do_jump
jump-alone = record { own = λ a. (refl, tt); same = λ a os q c r. refl }

jfalse-alone : Alone do_j_false
unfolding do_j_false
jfalse-alone = record {
  own = λ a. on_bool OwnAct tt (operand a 0) _ (λ b. cond_both OwnAct b (refl, tt) (refl, tt));
  same = λ a os q c r. refl;
}

add-alone : Alone do_add
unfolding do_add
add-alone = record {
  own =
      λ a. on-int OwnAct tt (operand a 1) _
      (λ x. on-int OwnAct tt (operand a 0) _ (λ y. cond_both OwnAct (in_range (x +ℤ y)) (refl, tt) tt));
  same = λ a os q c r. refl;
}

sub-alone : Alone do_sub
unfolding do_sub
sub-alone = record {
  own =
      λ a. on-int OwnAct tt (operand a 1) _
      (λ x. on-int OwnAct tt (operand a 0) _ (λ y. cond_both OwnAct (in_range (x -ℤ y)) (refl, tt) tt));
  same = λ a os q c r. refl;
}

eq-alone : Alone do_eq
unfolding do_eq
eq-alone = record {
  own = λ a. on-int OwnAct tt (operand a 1) _ (λ x. on-int OwnAct tt (operand a 0) _ (λ y. (refl, tt)));
  same = λ a os q c r. refl;
}

less-alone : Alone do_less
unfolding do_less
less-alone = record {
  own = λ a. on-int OwnAct tt (operand a 1) _ (λ x. on-int OwnAct tt (operand a 0) _ (λ y. (refl, tt)));
  same = λ a os q c r. refl;
}

not-alone : Alone do_not
unfolding do_not
not-alone = record { own = λ a. on_bool OwnAct tt (operand a 0) _ (λ b. (refl, tt)); same = λ a os q c r. refl }

-- 01's table: each op that is not left out
abbrev AloneAt : ℕ → (At → Act) → Type 0
AloneAt op doing = left_out op ≡ false → Alone doing

doings-alone : Numbered AloneAt doings
unfolding doings left_out
doings-alone =
    also (λ e. nothing-alone)
    (also (λ e. int_alone) (also (λ e. bool_alone)
    (also (λ e. get-alone) (also (λ e. put_alone) (also (λ e. drop-alone) (also (λ e. clear-alone)
    (also left (also left (also (λ e. end-alone) (also (λ e. gate-alone) (also left
    (also (λ e. call-alone) (also (λ e. ret-alone) (also left (also left (also left
    (also (λ e. jump-alone) (also (λ e. jfalse-alone)
    (also (λ e. add-alone) (also (λ e. sub-alone)
    (also (λ e. eq-alone) (also (λ e. less-alone) (also (λ e. not-alone) tt)))))))))))))))))))))))
  where
    -- an op that is left out
    left : {A : Type 0} → true ≡ false → A
    left e = absurd (true≢false e)

doing-alone : (op : ℕ) → left_out op ≡ false → Alone (doing_of op)
unfolding doing_of
doing-alone op = numbered-at AloneAt doings doings-alone do_nothing (λ i e. nothing-alone) op

-- The machine of a program table

module _ (p outcomes : List ℕ) where
  -- at these ops a process acts by its own frames

  frames-own : (s : State) (fs : List Frame) → left_out (top_op p fs) ≡ false → OwnAct (at_frames p outcomes s fs)
  unfolding at_frames at_frame top_op
  frames-own s [] e = tt
  frames-own s (f ∷ fs) e =
      cond_both OwnAct (leb (taken_at p f.place) (length f.pending))
      (cond_both OwnAct (any is_empty (take (taken_at p f.place) f.pending)) tt
      ((doing-alone (op_at p f.place) e).own (scene_of p outcomes s f fs)))
      tt

  frames-alone : (s s' : State) (fs : List Frame) → left_out (top_op p fs) ≡ false
      → at_frames p outcomes s fs ≡ at_frames p outcomes s' fs
  unfolding at_frames at_frame top_op scene_of
  frames-alone s s' [] e = refl
  frames-alone s s' (f ∷ fs) e =
      ap (λ (x : Act). cond (leb (taken_at p f.place) (length f.pending))
      (cond (any is_empty (take (taken_at p f.place) f.pending)) (faults 20) x) stuck)
      ((doing-alone (op_at p f.place) e).same (scene_of p outcomes s' f fs) (drop s.used outcomes)
      s.config.qubits s.config.channels (length s.config.processes))

  act-own : (s : State) (n : ℕ) → left_out (stands_at p s n) ≡ false → OwnAct (act_of p outcomes s n)
  unfolding act_of stands_at by_status
  act-own s n e = go (process_at s.config n).status
    where
      go : (st : Status) → OwnAct (by_status st (at_frames p outcomes s (process_at s.config n).frames))
      go running = frames-own s (process_at s.config n).frames e
      go finished = tt
      go (stopped f) = tt

  act-alone : (s s' : State) (n : ℕ) → left_out (stands_at p s n) ≡ false
      → process_at s'.config n ≡ process_at s.config n
      → act_of p outcomes s' n ≡ act_of p outcomes s n
  unfolding act_of stands_at
  act-alone s s' n e same =
      ap (λ (pr : Process). by_status pr.status (at_frames p outcomes s' pr.frames)) same
      ∙ ap (by_status (process_at s.config n).status) (frames-alone s' s (process_at s.config n).frames e)

  -- what the laws of exchanges ask of a machine

  scene-near : (s s' : State) (f : Frame) (fs : List Frame)
      → s.config.qubits ≡ s'.config.qubits → s.config.channels ≡ s'.config.channels
      → length s.config.processes ≡ length s'.config.processes → s.used ≡ s'.used
      → scene_of p outcomes s f fs ≡ scene_of p outcomes s' f fs
  unfolding scene_of
  scene-near s s' f fs q c r u = λ i. record {
    program = p;
    outcomes = drop (u i) outcomes;
    qubits = q i;
    channels = c i;
    processes = r i;
    argument = (scene_of p outcomes s f fs).argument;
    operands = (scene_of p outcomes s f fs).operands;
    frame = (scene_of p outcomes s f fs).frame;
    callers = fs;
  }

  frames-near : (s s' : State) (fs : List Frame)
      → s.config.qubits ≡ s'.config.qubits → s.config.channels ≡ s'.config.channels
      → length s.config.processes ≡ length s'.config.processes → s.used ≡ s'.used
      → at_frames p outcomes s fs ≡ at_frames p outcomes s' fs
  unfolding at_frames at_frame
  frames-near s s' [] q c r u = refl
  frames-near s s' (f ∷ fs) q c r u =
      ap (λ (a : At). cond (leb (taken_at p f.place) (length f.pending))
      (cond (any is_empty (take (taken_at p f.place) f.pending)) (faults 20) (doing_of (op_at p f.place) a)) stuck)
      (scene-near s s' f fs q c r u)

  over-idle : (pr : Process) (act : Act) → is_over pr ≡ true → by_status pr.status act ≡ idle
  unfolding by_status
  over-idle pr act = go pr.status
    where
      go : (st : Status) → is_over (record { status = st; frames = pr.frames }) ≡ true → by_status st act ≡ idle
      go running e = absurd (true≢false (sym e))
      go finished e = refl
      go (stopped f) e = refl

  pub table-near : Near (table_machine p outcomes)
  unfolding act_of
  table-near = record {
    acts = λ s s' n e q c r u.
        ap (λ (pr : Process). by_status pr.status (at_frames p outcomes s pr.frames)) e
        ∙ ap (by_status (process_at s'.config n).status)
        (frames-near s s' (process_at s'.config n).frames q c r u);
    over = λ s n e. over-idle (process_at s.config n) (at_frames p outcomes s (process_at s.config n).frames) e;
  }

  -- an entry at one of these ops that moves is the process's own

  -- a gate falls on qubits in reach through these values
  abbrev pub OnReach : List Value → Event → Type 0
  OnReach ys e = e.kind ≡ 3 → InReach ys (qubit e.b) × (one_qubit e.a ≡ false → InReach ys (qubit e.c))

  -- what is known of it besides: its lines are of gates, unless it stops or finishes the process
  pub record Plain (n : ℕ) (pr : Process) : Type 0 where
    pub move : OwnMove (table_machine p outcomes) n pr
    pub gates : is_over move.becomes ≡ false → All (λ e. e.kind ≡ 3) move.events
    pub kinds : All (λ e. OfGateOrEnding e.kind) move.events
    pub reached : All (OnReach (values_of pr.frames)) move.events

  -- the same of a process that stands as this one does
  abbrev pub plain-same : {n : ℕ} {pr pr' : Process} → pr ≡ pr' → Plain n pr → Plain n pr'
  plain-same e o = record {
    move = record {
      becomes = o.move.becomes;
      events = o.move.events;
      able = λ s h. o.move.able s (h ∙ sym e);
      effect = λ k s h. o.move.effect k s (h ∙ sym e);
      unheld = o.move.unheld;
      no-offer = λ s h. o.move.no-offer s (h ∙ sym e);
    };
    gates = o.gates;
    kinds = o.kinds;
    reached = subst (λ (r : Process). All (OnReach (values_of r.frames)) o.move.events) e o.reached;
  }

  gate-unheld : (e : Event) → e.kind ≡ 3 → Unheld e
  gate-unheld e g = (λ i. omega (arith, i, g), λ i. omega (arith, i, g), λ i. omega (arith, i, g))

  pub plain : (s : State) (n : ℕ) → able p outcomes s n ≡ true → left_out (stands_at p s n) ≡ false
      → Plain n (process_at s.config n)
  unfolding able_in moves_in effect_in applied_in judged offered
  plain s n able out = go (act_of p outcomes s n) refl (act-own s n out) able
    where
      always : (s' : State) → process_at s'.config n ≡ process_at s.config n → (act : Act)
          → act_of p outcomes s n ≡ act → act_of p outcomes s' n ≡ act
      always s' same act e = act-alone s s' n out same ∙ e

      moving : (s' : State) → process_at s'.config n ≡ process_at s.config n → (act : Act)
          → act_of p outcomes s n ≡ act
          → moves p outcomes s' n (judged s' n act) ≡ true → able_in (table_machine p outcomes) s' n ≡ true
      moving s' same act e h =
          ap (λ (a : Act). moves_in (table_machine p outcomes) s' n (judged s' n a)) (always s' same act e) ∙ h

      go : (act : Act) → act_of p outcomes s n ≡ act → OwnAct act → moves p outcomes s n (judged s n act) ≡ true
          → Plain n (process_at s.config n)
      go idle e own h = absurd (true≢false (sym h))
      go stuck e own h = absurd (true≢false (sym h))
      go (faults f) e own h = record {
        move = record {
          becomes = record { status = stopped f; frames = (process_at s.config n).frames };
          events = stops f ∷ [];
          able = λ s' same. moving s' same (faults f) e refl;
          effect = λ k s' same.
              ap (λ (a : Act). applied_in (table_machine p outcomes) k s' n (judged s' n a)) (always s' same (faults f) e)
              ∙ ap (λ (pr : Process).
              changes k s' n (record { status = stopped f; frames = pr.frames }) (stops f ∷ []) 0) same;
          no-offer = λ s' same. ap offered (always s' same (faults f) e);
          unheld = ((omega arith, omega arith, omega arith), tt);
        };
        gates = λ r. absurd (true≢false r);
        kinds = (inr (inr refl), tt);
        reached = (λ g. absurd (omega (arith, g)), tt);
      }
      go (goes fs es u) e own h = record {
        move = record {
          becomes = runs fs;
          events = es;
          able = λ s' same. moving s' same (goes fs es u) e refl;
          effect = λ k s' same.
              ap (λ (a : Act). applied_in (table_machine p outcomes) k s' n (judged s' n a))
              (always s' same (goes fs es u) e)
              ∙ ap (λ (i : ℕ). changes k s' n (runs fs) es i) own.0;
          no-offer = λ s' same. ap offered (always s' same (goes fs es u) e);
          unheld = All-implies (λ d. d.kind ≡ 3) Unheld gate-unheld es own.1;
        };
        gates = λ r. own.1;
        kinds = All-implies (λ d. d.kind ≡ 3) (λ d. OfGateOrEnding d.kind) (λ d g. inl g) es own.1;
        reached =
            All-implies (Quiet (values_of (process_at s.config n).frames))
            (OnReach (values_of (process_at s.config n).frames))
            (λ d q. q.gate) es
            (subst (ActWithin (values_of (process_at s.config n).frames) s.config.qubits s.config.channels) e
            (act-within p outcomes s n)).1;
      }
      go ends e own h = record {
        move = record {
          becomes = record { status = finished; frames = [] };
          events = finishes ∷ [];
          able = λ s' same. moving s' same ends e refl;
          effect =
              λ k s' same. ap (λ (a : Act). applied_in (table_machine p outcomes) k s' n (judged s' n a))
              (always s' same ends e);
          no-offer = λ s' same. ap offered (always s' same ends e);
          unheld = ((omega arith, omega arith, omega arith), tt);
        };
        gates = λ r. absurd (true≢false r);
        kinds = (inr (inl refl), tt);
        reached = (λ g. absurd (omega (arith, g)), tt);
      }
      go (makes t fs) e own h = absurd own
      go (forks m args fs) e own h = absurd own
      go (offers o) e own h = absurd own
