-- An entry uses at most one outcome and writes at most 17 lines, so that the counts stay small.
use Prim.Native.Nat.{ℕ, zero, suc, ◌≤◌}
use mathlib.Core.Path.{sym, subst}
use mathlib.Core.Logic.{⊎_elim}
use mathlib.Core.List.{List, [], ◌∷◌, map}
use mathlib.Core.Option.{Option, none, some}
use native.Mathlib.Omega.{arith}
use lib.ListN.{take, length, length-map}
use lib.Dec.{eqb, leb}
use borrow.Author.Tests.{eqb-true, eqb-false}
use Rattle.lists.specs.Lists.{any}
use Rattle.lists.proofs.Tests.{decide, cond_both}
use Rattle.lists.proofs.Each.{both-length}
use Rattle.table.specs.Table.{op_at, params_of, slot_types, param_types}
use Rattle.table.specs.Reading.{taken_at}
use Rattle.table.proofs.Accepted.{Kept}
use Rattle.table.proofs.Methods.{slot_types-length}
use Rattle.machine.specs.Value.{qubit, channel, end, Value, empty, int, bool, ref, is_empty}
use Rattle.machine.specs.State.{Frame, Status, running, finished, stopped, State, process_at, line_of, gave}
use Rattle.machine.specs.Act.{sends, receives, Act, idle, stuck, faults, goes, ends, makes, forks, offers, At, operand, as_end, do_send, do_recv, doings, doing_of, scene_of, at_frame, at_frames, by_status, act_of}
use Rattle.machine.specs.Entry.{Effect, Meeting, things_of, handing, meet_in, meet_if_in, meeting_of, applied, effect_of, applied_in, effect_in, forking_in, table_machine}
use Rattle.machine.proofs.Reachable.{Reachable}
use Rattle.machine.proofs.Acts.{ActTyped}
use Rattle.machine.proofs.Standing.{act-typed}
use Rattle.machine.proofs.Gone.{judged-keeps}
use Rattle.run_parts.proofs.Alone.{Alone, frame-alone}

-- where the process goes on by itself, it writes at most one line and uses at most one outcome
abbrev Small : Act → Type 0
Small idle = Unit {0}
Small stuck = Unit {0}
Small (faults n) = Unit {0}
Small (goes fs es u) = (length es ≤ 1) × (u ≤ 1)
Small ends = Unit {0}
Small (makes t fs) = Unit {0}
Small (forks m args fs) = Unit {0}
Small (offers o) = Unit {0}

alone-small : (a : Act) → Alone a → Small a
alone-small idle h = absurd h
alone-small stuck h = tt
alone-small (faults n) h = tt
alone-small (goes fs es u) h = h
alone-small ends h = tt
alone-small (makes t fs) h = tt
alone-small (forks m args fs) h = tt
alone-small (offers o) h = tt

send-small : (a : At) → Small (do_send a)
unfolding do_send
send-small a = go (operand a 1)
  where
    go : (v : Value) → Small (as_end v (λ n s. offers (sends n s (operand a 0) (a.frame ∷ a.callers))))
    go empty = tt
    go (int z) = tt
    go (bool b) = tt
    go (ref (qubit n)) = tt
    go (ref (channel n)) = tt
    go (ref (end n s)) = tt

receive-small : (a : At) → Small (do_recv a)
unfolding do_recv
receive-small a = go (operand a 0)
  where
    go : (v : Value) → Small (as_end v (λ n s. offers (receives n s (a.frame ∷ a.callers))))
    go empty = tt
    go (int z) = tt
    go (bool b) = tt
    go (ref (qubit n)) = tt
    go (ref (channel n)) = tt
    go (ref (end n s)) = tt

module _ (p outcomes : List ℕ) (s : State) where
  doing-small : (f : Frame) (fs : List Frame) → Small (doing_of (op_at p f.place) (scene_of p outcomes s f fs))
      → Small (at_frame p outcomes s f fs)
  unfolding at_frame
  doing-small f fs h =
      cond_both Small (leb (taken_at p f.place) (length f.pending)) {y = stuck}
      (cond_both Small (any is_empty (take (taken_at p f.place) f.pending)) {x = faults 20} tt h) tt

  frame_small : (f : Frame) (fs : List Frame) → Small (at_frame p outcomes s f fs)
  unfolding doing_of doings
  frame_small f fs =
      ⊎_elim
      (λ e. doing-small f fs
      (subst (λ (o : ℕ). Small (doing_of o (scene_of p outcomes s f fs))) (sym (eqb-true (op_at p f.place) 15 e))
      (send-small (scene_of p outcomes s f fs))))
      (λ e. ⊎_elim (λ i. doing-small f fs
      (subst (λ (o : ℕ). Small (doing_of o (scene_of p outcomes s f fs))) (sym (eqb-true (op_at p f.place) 16 i))
      (receive-small (scene_of p outcomes s f fs))))
      (λ i. alone-small (at_frame p outcomes s f fs)
      (frame-alone p outcomes s f fs (eqb-false (op_at p f.place) 15 e) (eqb-false (op_at p f.place) 16 i)))
      (decide (eqb (op_at p f.place) 16)))
      (decide (eqb (op_at p f.place) 15))

  act-small : (n : ℕ) → Small (act_of p outcomes s n)
  unfolding act_of by_status at_frames
  act-small n = go (process_at s.config n).status (process_at s.config n).frames
    where
      go : (st : Status) (fs : List Frame) → Small (by_status st (at_frames p outcomes s fs))
      go running [] = tt
      go running (f ∷ fs) = frame_small f fs
      go finished fs = tt
      go (stopped m) fs = tt

-- the things among values are at most as many
things-few : (vs : List Value) → length (things_of vs) ≤ length vs
unfolding things_of
things-few [] = omega arith
things-few (empty ∷ vs) = omega (arith, things-few vs)
things-few (int z ∷ vs) = omega (arith, things-few vs)
things-few (bool b ∷ vs) = omega (arith, things-few vs)
things-few (ref t ∷ vs) = omega (arith, things-few vs)

take-few : (n : ℕ) (xs : List ℕ) → length (take n xs) ≤ length xs
take-few zero xs = omega arith
take-few (suc n) [] = omega arith
take-few (suc n) (x ∷ xs) = omega (arith, take-few n xs)

abbrev Modest : Effect → Type 0
Modest e = (e.used ≤ 1) × (length e.lines ≤ 17)

module _ (p : List ℕ) (kept : Kept p) (outcomes : List ℕ) (s : State) (ks : List ℕ) (k n : ℕ) where
  met-modest : (m : Option Meeting) → Modest (meet_if_in (table_machine p outcomes) k s m)
  unfolding meet_if_in meet_in handing
  met-modest none = (omega arith, omega arith)
  met-modest (some e) = (omega arith, two e.value)
    where
      two : (v : Value) → suc (length (map (line_of k e.sender) (handing e.receiver v))) ≤ 17
      two empty = omega arith
      two (int z) = omega arith
      two (bool b) = omega arith
      two (ref t) = omega arith

  applied-modest : (a : Act) → Small a → ActTyped p ks s.config.qubits (length s.config.processes) a
      → Modest (applied p outcomes k s n a)
  unfolding applied_in forking_in param_types
  applied-modest idle h t = (omega arith, omega arith)
  applied-modest stuck h t = absurd t
  applied-modest (faults m) h t = (omega arith, omega arith)
  applied-modest (goes fs es u) h t = (h.1, omega (arith, h.0, length-map es (line_of k n)))
  applied-modest ends h t = (omega arith, omega arith)
  applied-modest (makes x fs) h t = (omega arith, omega arith)
  applied-modest (forks m args fs) h t = (
    omega arith,
    omega (
      arith,
      length-map (map (gave (length s.config.processes)) (things_of args)) (line_of k n),
      length-map (things_of args) (gave (length s.config.processes)),
      things-few args,
      both-length t.2,
      take-few (params_of p m) (slot_types p m),
      slot_types-length p kept m t.1,
    ),
  )
  applied-modest (offers o) h t = met-modest (meeting_of p outcomes s n o)

pub modest : {p outcomes : List ℕ} {s : State} → Reachable p outcomes s → (k n : ℕ)
    → ((effect_of p outcomes k s n).used ≤ 1) × (length (effect_of p outcomes k s n).lines ≤ 17)
unfolding effect_in applied_in
modest {p} {outcomes} {s} r k n =
    judged-keeps (λ (a : Act). Modest (applied p outcomes k s n a)) s n (act_of p outcomes s n)
    (applied-modest p r.kept outcomes s r.kinds k n (act_of p outcomes s n) (act-small p outcomes s n)
    (act-typed p r.kept outcomes r.bytes s r.kinds r.typed n))
    (λ o e. (omega arith, omega arith))
