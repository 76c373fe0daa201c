-- What an act leaves in reach was in reach before it: one fact for each op, then one for every act. Only NEWQ and NEWC
-- add a thing, the next one to be made.
use Prim.Native.Nat.{ℕ, suc, ◌+◌}
use mathlib.Core.Path.{◌≡◌, refl, sym, ◌∙◌, subst}
use mathlib.Core.Logic.{◌≢◌}
use mathlib.Core.Bool.{Bool, true, false, not, beq, true≢false}
use mathlib.Core.List.{List, [], ◌∷◌, ◌++◌, reverse}
use native.Mathlib.Omega.{arith}
use lib.ListN.{get_or, take, length, replicate}
use lib.IntN.{ℤ, pos, ◌+ℤ◌, ◌-ℤ◌}
use lib.Signed.{lt_z}
use lib.Dec.{T, eqb, leb, ltb}
use Rattle.lists.specs.Lists.{any, All}
use Rattle.lists.proofs.Tests.{cond_both, cond-each, and_left, or_left, or_right}
use Rattle.lists.proofs.Any.{any-append-left, any-append-right, All-append, All-take, All-drop, All-set, All-get_d, All-replicate, All-reverse, All-implies}
use Rattle.machine.specs.Value.{Thing, qubit, channel, end, Value, empty, int, bool, ref, covers, is_empty, in_range, signed16, eq_z, side_of}
use Rattle.machine.specs.State.{Frame, Status, running, finished, stopped, State, Event, process_at, started, push, at_place, with_slot, gated_one, gated_two, measured}
use Rattle.machine.specs.Act.{Offer, sends, receives, Act, idle, stuck, faults, goes, ends, makes, forks, offers, At, operand, as_int, onward, pushes, jump, return_to, two_ints, result, do_int, do_bool, do_get, do_put, do_drop, do_clear, do_new_q, do_new_c, do_end, do_gate_one, do_gate_two, do_gate, do_meas, do_call, do_ret, do_fork, do_send, do_recv, do_jump, do_j_false, do_add, do_sub, do_eq, do_less, do_not, do_nothing, doings, doing_of, passed_by, scene_of, at_frame, at_frames, by_status, act_of}
use Rattle.machine.specs.Entry.{judged}
use Rattle.machine.specs.Owner.{names, values_of}
use Rattle.machine.proofs.Things.{covers-refl}
use Rattle.machine.proofs.Operands.{on-int, on_bool, on-qubit, on-channel, on-end, on-present, on-outcome}
use Rattle.table.specs.Table.{offset_of, op_at}
use Rattle.table.specs.Ops.{one_qubit}
use Rattle.table.specs.Reading.{taken_at}
use Rattle.machine.proofs.Gone.{judged-keeps}

-- t is in reach through these values
abbrev pub InReach : List Value → Thing → Type 0
InReach ys t = T (any (names t) ys)

-- whatever the value names is in reach through ys
abbrev pub Within : List Value → Value → Type 0
Within ys v = (t : Thing) → T (names t v) → InReach ys t

pub record FrameWithin (ys : List Value) (f : Frame) : Type 0 where
  pub slots : All (Within ys) f.slots
  pub pending : All (Within ys) f.pending

abbrev pub FramesWithin : List Value → List Frame → Type 0
FramesWithin ys fs = All (FrameWithin ys) fs

-- an event that moves no holder and makes nothing; a gate or a measurement falls on what is in reach
pub record Quiet (ys : List Value) (e : Event) : Type 0 where
  pub not_made : (e.kind ≢ 1) × (e.kind ≢ 2)
  pub not_given : e.kind ≢ 6
  pub not_met : e.kind ≢ 7
  pub not_forked : e.kind ≢ 5
  pub gate : e.kind ≡ 3 → InReach ys (qubit e.b) × (one_qubit e.a ≡ false → InReach ys (qubit e.c))
  pub measurement : e.kind ≡ 4 → InReach ys (qubit e.a)

-- the next thing to be made, where so many qubits and channels were made
abbrev pub Next : ℕ → ℕ → Thing → Type 0
Next qs cs (qubit n) = n ≡ qs
Next qs cs (channel n) = n ≡ cs
Next qs cs (end n s) = ⊥

abbrev pub OfferWithin : List Value → Offer → Type 0
OfferWithin ys (sends n s v fs) = InReach ys (end n s) × Within ys v × FramesWithin ys fs
OfferWithin ys (receives n s fs) = InReach ys (end n s) × FramesWithin ys fs

-- an act of a process whose values are ys
abbrev pub ActWithin : List Value → ℕ → ℕ → Act → Type 0
ActWithin ys qs cs idle = Unit {0}
ActWithin ys qs cs stuck = Unit {0}
ActWithin ys qs cs (faults f) = Unit {0}
ActWithin ys qs cs (goes fs es u) = FramesWithin ys fs × All (Quiet ys) es
ActWithin ys qs cs ends = Unit {0}
ActWithin ys qs cs (makes t fs) = Next qs cs t × FramesWithin (ref t ∷ ys) fs
ActWithin ys qs cs (forks m args fs) = All (Within ys) args × FramesWithin ys fs
ActWithin ys qs cs (offers o) = OfferWithin ys o

pub record SceneWithin (ys : List Value) (a : At) : Type 0 where
  pub operands : All (Within ys) a.operands
  pub frame : FrameWithin ys a.frame
  pub callers : FramesWithin ys a.callers

-- values

pub within-empty : (ys : List Value) → Within ys empty
unfolding names
within-empty ys t h = absurd h

within-int : (ys : List Value) (z : ℤ) → Within ys (int z)
unfolding names
within-int ys z t h = absurd h

within-bool : (ys : List Value) (b : Bool) → Within ys (bool b)
unfolding names
within-bool ys b t h = absurd h

-- a reference within ys reaches its thing, and for a channel each end
within-thing : (ys : List Value) (t : Thing) → Within ys (ref t) → InReach ys t
unfolding names
within-thing ys t w = w t (covers-refl t)

within_end : (ys : List Value) (n : ℕ) (s : Bool) → Within ys (ref (channel n)) → Within ys (ref (end n s))
unfolding names covers
within_end ys n s w (qubit k) h = absurd h
within_end ys n s w (channel k) h = absurd h
within_end ys n s w (end k r) h = w (end k r) (and_left (eqb n k) (beq s r) h)

within_more : (ys : List Value) (v w : Value) → Within ys v → Within (w ∷ ys) v
within_more ys v w h t u = or_right (names t w) (any (names t) ys) (h t u)

-- frames

pub frame-more : (ys : List Value) (w : Value) (f : Frame) → FrameWithin ys f → FrameWithin (w ∷ ys) f
frame-more ys w f h = record {
  slots = All-implies (Within ys) (Within (w ∷ ys)) (λ v. within_more ys v w) f.slots h.slots;
  pending = All-implies (Within ys) (Within (w ∷ ys)) (λ v. within_more ys v w) f.pending h.pending;
}

pub frames-more : (ys : List Value) (w : Value) (fs : List Frame) → FramesWithin ys fs → FramesWithin (w ∷ ys) fs
frames-more ys w fs = All-implies (FrameWithin ys) (FrameWithin (w ∷ ys)) (frame-more ys w) fs

pub frame-push : (ys : List Value) (v : Value) (f : Frame) → Within ys v → FrameWithin ys f → FrameWithin ys (push v f)
frame-push ys v f w h = record { slots = h.slots; pending = (w, h.pending) }

-- the frame of a call has its arguments and nothing else
pub frame-started : (ys : List Value) (p : List ℕ) (m : ℕ) (args : List Value) → All (Within ys) args
    → FrameWithin ys (started p m args)
unfolding started
frame-started ys p m args h = record {
  slots =
      All-take (Within ys) 16 (args ++ replicate 16 empty)
      (All-append (Within ys) args (replicate 16 empty) h (All-replicate (Within ys) 16 empty (within-empty ys)));
  pending = tt;
}

-- events

gate-one : (ys : List Value) (g q : ℕ) → one_qubit g ≡ true → InReach ys (qubit q) → Quiet ys (gated_one g q)
gate-one ys g q small h = record {
  not_made = (omega arith, omega arith);
  not_given = omega arith;
  not_met = omega arith;
  not_forked = omega arith;
  gate = λ e. (h, λ big. absurd (true≢false (sym small ∙ big)));
  measurement = λ e. absurd (omega arith);
}

gate-two : (ys : List Value) (g deeper q : ℕ) → InReach ys (qubit deeper) → InReach ys (qubit q)
    → Quiet ys (gated_two g deeper q)
gate-two ys g deeper q h k = record {
  not_made = (omega arith, omega arith);
  not_given = omega arith;
  not_met = omega arith;
  not_forked = omega arith;
  gate = λ e. (h, λ big. k);
  measurement = λ e. absurd (omega arith);
}

measure : (ys : List Value) (q o : ℕ) → InReach ys (qubit q) → Quiet ys (measured q o)
measure ys q o h = record {
  not_made = (omega arith, omega arith);
  not_given = omega arith;
  not_met = omega arith;
  not_forked = omega arith;
  gate = λ e. absurd (omega arith);
  measurement = λ e. h;
}

-- ops

-- the act of this op keeps within what was in reach
abbrev Keeps : (At → Act) → Type 0
Keeps d = (ys : List Value) (a : At) → SceneWithin ys a → ActWithin ys a.qubits a.channels (d a)

module _ (ys : List Value) (a : At) (h : SceneWithin ys a) where
  abbrev Fine : Act → Type 0
  Fine act = ActWithin ys a.qubits a.channels act

  operand-within : (i : ℕ) → Within ys (operand a i)
  operand-within i = All-get_d (Within ys) a.operands i empty h.operands (within-empty ys)

  -- an operand that is a reference has its thing in reach
  operand-thing : (i : ℕ) (t : Thing) → operand a i ≡ ref t → InReach ys t
  operand-thing i t e = within-thing ys t (subst (Within ys) e (operand-within i))

  fine-onward : (f : Frame) → FrameWithin ys f → Fine (onward a f)
  fine-onward f w = ((w, h.callers), tt)

  fine-push : (v : Value) → Within ys v → Fine (pushes a v)
  fine-push v w = fine-onward (push v a.frame) (frame-push ys v a.frame w h.frame)

  fine-slot : (v : Value) → Within ys v → FrameWithin ys (with_slot a.argument v a.frame)
  fine-slot v w = record {
    slots = All-set (Within ys) a.frame.slots a.argument v h.frame.slots w;
    pending = h.frame.pending;
  }

  fine-jump : Fine (jump a)
  fine-jump = fine-onward (at_place (offset_of a.program a.frame.method + a.argument) a.frame)
      (record { slots = h.frame.slots; pending = h.frame.pending })

  fine-event : (f : Frame) (e : Event) (u : ℕ) → FrameWithin ys f → Quiet ys e → Fine (goes (f ∷ a.callers) (e ∷ []) u)
  fine-event f e u w q = ((w, h.callers), (q, tt))

  fine-make : (t : Thing) → Next a.qubits a.channels t → Fine (makes t (push (ref t) a.frame ∷ a.callers))
  fine-make t n = (
    n,
    (
      frame-push (ref t ∷ ys) (ref t) a.frame (λ x u. or_left (names x (ref t)) (any (names x) ys) u)
          (frame-more ys (ref t) a.frame h.frame),
      frames-more ys (ref t) a.callers h.callers,
    ),
  )

  fine-two-ints : (k : ℤ → ℤ → Act) → ((x y : ℤ) → Fine (k x y)) → Fine (two_ints a k)
  fine-two-ints k f = on-int Fine tt (operand a 1) (λ x. as_int (operand a 0) (λ y. k x y))
      (λ x. on-int Fine tt (operand a 0) (λ y. k x y) (λ y. f x y))

  fine-result : (z : ℤ) → Fine (result a z)
  fine-result z = cond_both Fine (in_range z) (fine-push (int z) (within-int ys z)) tt

  fine-gate-one : one_qubit a.argument ≡ true → Fine (do_gate_one a)
  unfolding do_gate_one
  fine-gate-one small =
      on-qubit Fine tt (operand a 0) _
      (λ q e. fine-event a.frame (gated_one a.argument q) 0 h.frame
      (gate-one ys a.argument q small (operand-thing 0 (qubit q) e)))

  fine-gate-two : Fine (do_gate_two a)
  unfolding do_gate_two
  fine-gate-two =
      on-qubit Fine tt (operand a 1) _
      (λ d e. on-qubit Fine tt (operand a 0) _
      (λ q i. cond_both Fine (eqb d q) tt
      (fine-event a.frame (gated_two a.argument d q) 0 h.frame
      (gate-two ys a.argument d q (operand-thing 1 (qubit d) e) (operand-thing 0 (qubit q) i)))))

keeps-nothing : Keeps do_nothing
unfolding do_nothing
keeps-nothing ys a h = tt

keeps-int : Keeps do_int
unfolding do_int
keeps-int ys a h = fine-push ys a h (int (signed16 a.argument)) (within-int ys (signed16 a.argument))

keeps-bool : Keeps do_bool
unfolding do_bool
keeps-bool ys a h = fine-push ys a h (bool (eqb a.argument 1)) (within-bool ys (eqb a.argument 1))

keeps-get : Keeps do_get
unfolding do_get
keeps-get ys a h =
    on-present (Fine ys a h) tt (get_or a.frame.slots a.argument empty) (pushes a)
    (fine-push ys a h (get_or a.frame.slots a.argument empty)
    (All-get_d (Within ys) a.frame.slots a.argument empty h.frame.slots (within-empty ys)))

keeps-put : Keeps do_put
unfolding do_put
keeps-put ys a h =
    fine-onward ys a h (push (operand a 0) (with_slot a.argument (operand a 0) a.frame))
    (frame-push ys (operand a 0) (with_slot a.argument (operand a 0) a.frame) (operand-within ys a h 0)
    (fine-slot ys a h (operand a 0) (operand-within ys a h 0)))

keeps-drop : Keeps do_drop
unfolding do_drop
keeps-drop ys a h = fine-onward ys a h a.frame h.frame

keeps-clear : Keeps do_clear
unfolding do_clear
keeps-clear ys a h =
    fine-onward ys a h (with_slot a.argument empty a.frame) (fine-slot ys a h empty (within-empty ys))

keeps-newq : Keeps do_new_q
unfolding do_new_q
keeps-newq ys a h = cond_both (Fine ys a h) (ltb a.qubits 32) (fine-make ys a h (qubit a.qubits) refl) tt

keeps-newc : Keeps do_new_c
unfolding do_new_c
keeps-newc ys a h = cond_both (Fine ys a h) (ltb a.channels 16) (fine-make ys a h (channel a.channels) refl) tt

keeps-end : Keeps do_end
unfolding do_end
keeps-end ys a h =
    on-channel (Fine ys a h) tt (operand a 0) _
    (λ n e. fine-push ys a h (ref (end n (side_of a.argument)))
    (within_end ys n (side_of a.argument) (subst (Within ys) e (operand-within ys a h 0))))

keeps-gate : Keeps do_gate
unfolding do_gate
keeps-gate ys a h =
    cond-each (Fine ys a h) (one_qubit a.argument) (fine-gate-one ys a h)
    (λ e. fine-gate-two ys a h)

keeps-meas : Keeps do_meas
unfolding do_meas
keeps-meas ys a h =
    on-qubit (Fine ys a h) tt (operand a 0) _
    (λ q e. on-outcome (Fine ys a h) tt a.outcomes _
    (λ o. fine-event ys a h (push (int (pos o)) a.frame) (measured q o) 1
    (frame-push ys (int (pos o)) a.frame (within-int ys (pos o)) h.frame)
    (measure ys q o (operand-thing ys a h 0 (qubit q) e))))

keeps-call : Keeps do_call
unfolding do_call
keeps-call ys a h =
    cond_both (Fine ys a h) (ltb (suc (length a.callers)) 8) (
      (
        frame-started ys a.program a.argument (reverse a.operands)
            (All-reverse (Within ys) a.operands h.operands),
        (h.frame, h.callers),
      ),
      tt,
    )
    tt

keeps-return : (ys : List Value) (qs cs : ℕ) (vs : List Value) (fs : List Frame) → All (Within ys) vs
    → FramesWithin ys fs
    → ActWithin ys qs cs (return_to vs fs)
keeps-return ys qs cs vs [] hv hf = tt
keeps-return ys qs cs vs (f ∷ fs) hv hf =
    ((record { slots = hf.0.slots; pending = All-append (Within ys) vs f.pending hv hf.0.pending }, hf.1), tt)

keeps-ret : Keeps do_ret
unfolding do_ret
keeps-ret ys a h = keeps-return ys a.qubits a.channels a.operands a.callers h.operands h.callers

keeps-fork : Keeps do_fork
unfolding do_fork
keeps-fork ys a h =
    cond_both (Fine ys a h) (ltb a.processes 8)
    (All-reverse (Within ys) a.operands h.operands, (h.frame, h.callers))
    tt

keeps_send : Keeps do_send
unfolding do_send
keeps_send ys a h =
    on-end (Fine ys a h) tt (operand a 1) _
    (λ n s e. (operand-thing ys a h 1 (end n s) e, operand-within ys a h 0, (h.frame, h.callers)))

keeps-recv : Keeps do_recv
unfolding do_recv
keeps-recv ys a h =
    on-end (Fine ys a h) tt (operand a 0) _ (λ n s e. (operand-thing ys a h 0 (end n s) e, (h.frame, h.callers)))

keeps-jump : Keeps do_jump
unfolding do_jump
keeps-jump ys a h = fine-jump ys a h

keeps-jfalse : Keeps do_j_false
unfolding do_j_false
keeps-jfalse ys a h =
    on_bool (Fine ys a h) tt (operand a 0) _
    (λ b. cond_both (Fine ys a h) b (fine-onward ys a h a.frame h.frame) (fine-jump ys a h))

keeps-add : Keeps do_add
unfolding do_add
keeps-add ys a h = fine-two-ints ys a h _ (λ x y. fine-result ys a h (x +ℤ y))

keeps-sub : Keeps do_sub
unfolding do_sub
keeps-sub ys a h = fine-two-ints ys a h _ (λ x y. fine-result ys a h (x -ℤ y))

keeps-eq : Keeps do_eq
unfolding do_eq
keeps-eq ys a h = fine-two-ints ys a h _ (λ x y. fine-push ys a h (bool (eq_z x y)) (within-bool ys (eq_z x y)))

keeps-less : Keeps do_less
unfolding do_less
keeps-less ys a h = fine-two-ints ys a h _ (λ x y. fine-push ys a h (bool (lt_z x y)) (within-bool ys (lt_z x y)))

keeps-not : Keeps do_not
unfolding do_not
keeps-not ys a h =
    on_bool (Fine ys a h) tt (operand a 0) _ (λ b. fine-push ys a h (bool (not b)) (within-bool ys (not b)))

-- every op
keeps : All Keeps doings
unfolding doings
keeps = (
  keeps-nothing,
  (
    keeps-int,
    (
      keeps-bool,
      (
        keeps-get,
        (
          keeps-put,
          (
            keeps-drop,
            (
              keeps-clear,
              (
                keeps-newq,
                (
                  keeps-newc,
                  (
                    keeps-end,
                    (
                      keeps-gate,
                      (
                        keeps-meas,
                        (
                          keeps-call,
                          (
                            keeps-ret,
                            (
                              keeps-fork,
                              (
                                keeps_send,
                                (
                                  keeps-recv,
                                  (
                                    keeps-jump,
                                    (
                                      keeps-jfalse,
                                      (keeps-add, (keeps-sub, (keeps-eq, (keeps-less, (keeps-not, tt))))),
                                    ),
                                  ),
                                ),
                              ),
                            ),
                          ),
                        ),
                      ),
                    ),
                  ),
                ),
              ),
            ),
          ),
        ),
      ),
    ),
  ),
)

-- processes

-- values are within any values that reach as much
pub all_own : (xs zs : List Value) → ((t : Thing) → InReach xs t → InReach zs t) → All (Within zs) xs
all_own [] zs sub = tt
all_own (x ∷ xs) zs sub = (
  λ t u. sub t (or_left (names t x) (any (names t) xs) u),
  all_own xs zs (λ t u. sub t (or_right (names t x) (any (names t) xs) u)),
)

pub frames-own : (fs : List Frame) (zs : List Value) → ((t : Thing) → InReach (values_of fs) t → InReach zs t)
    → FramesWithin zs fs
unfolding values_of
frames-own [] zs sub = tt
frames-own (f ∷ fs) zs sub = (
  record {
    slots = all_own f.slots zs (λ t u. sub t (own t (any-append-left (names t) f.slots f.pending u)));
    pending = all_own f.pending zs (λ t u. sub t (own t (any-append-right (names t) f.slots f.pending u)));
  },
  frames-own fs zs (λ t u. sub t (any-append-right (names t) (f.slots ++ f.pending) (values_of fs) u)),
)
  where
    own : (t : Thing) → InReach (f.slots ++ f.pending) t → InReach (f.slots ++ f.pending ++ values_of fs) t
    own t u = any-append-left (names t) (f.slots ++ f.pending) (values_of fs) u

-- what an instruction works on comes from the process's own frames
scene-within : (p outcomes : List ℕ) (s : State) (f : Frame) (fs : List Frame) (zs : List Value)
    → FramesWithin zs (f ∷ fs) → SceneWithin zs (scene_of p outcomes s f fs)
unfolding scene_of passed_by
scene-within p outcomes s f fs zs h = record {
  operands = All-take (Within zs) (taken_at p f.place) f.pending h.0.pending;
  frame = record {
    slots = h.0.slots;
    pending = All-drop (Within zs) (taken_at p f.place) f.pending h.0.pending;
  };
  callers = h.1;
}

at-frames-within : (p outcomes : List ℕ) (s : State) (fs : List Frame)
    → ActWithin (values_of fs) s.config.qubits s.config.channels (at_frames p outcomes s fs)
unfolding at_frames at_frame doing_of scene_of
at-frames-within p outcomes s [] = tt
at-frames-within p outcomes s (f ∷ fs) =
    cond_both Kept (leb (taken_at p f.place) (length f.pending))
    (cond_both Kept (any is_empty (take (taken_at p f.place) f.pending)) tt
    (All-get_d Keeps doings (op_at p f.place) do_nothing keeps keeps-nothing (values_of (f ∷ fs))
    (scene_of p outcomes s f fs)
    (scene-within p outcomes s f fs (values_of (f ∷ fs)) (frames-own (f ∷ fs) (values_of (f ∷ fs)) (λ t u. u)))))
    tt
  where
    Kept : Act → Type 0
    Kept act = ActWithin (values_of (f ∷ fs)) s.config.qubits s.config.channels act

-- only a running process acts
pub by-status : (P : Act → Type 0) → P idle → (st : Status) (act : Act) → P act → P (by_status st act)
unfolding by_status
by-status P i running act h = h
by-status P i finished act h = i
by-status P i (stopped n) act h = i

-- the act of process n keeps within what it reaches
pub act-within : (p outcomes : List ℕ) (s : State) (n : ℕ)
    → ActWithin (values_of (process_at s.config n).frames) s.config.qubits s.config.channels
    (act_of p outcomes s n)
unfolding act_of
act-within p outcomes s n =
    by-status
    (ActWithin (values_of (process_at s.config n).frames) s.config.qubits s.config.channels)
    tt
    (process_at s.config n).status
    (at_frames p outcomes s (process_at s.config n).frames)
    (at-frames-within p outcomes s (process_at s.config n).frames)

-- and so does fault 33, which judging may make of it
pub judged-within : (p outcomes : List ℕ) (s : State) (n : ℕ)
    → ActWithin (values_of (process_at s.config n).frames) s.config.qubits s.config.channels
    (judged s n (act_of p outcomes s n))
judged-within p outcomes s n =
    judged-keeps (ActWithin (values_of (process_at s.config n).frames) s.config.qubits s.config.channels) s n
    (act_of p outcomes s n) (act-within p outcomes s n) (λ o e. tt)
