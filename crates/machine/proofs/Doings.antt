-- Every op does what its rule of types says: one fact for each op, in the paper's order, and their list.
use Prim.Native.Nat.{ℕ, suc, ◌+◌, ◌-◌, ◌≤◌, ◌<◌}
use native.Mathlib.Omega.{arith}
use mathlib.Core.Bool.{Bool, true, false, cond, ◌&&◌, not}
use mathlib.Core.Path.{◌≡◌, refl, sym}
use mathlib.Core.List.{List, [], ◌∷◌, ◌++◌, reverse, reverse-reverse}
use mathlib.Core.Option.{Option, none, some, some-injective}
use lib.ListN.{get_or, length, length-append}
use lib.Seq.{get_or_at}
use lib.Dec.{T, eqb, leb, ltb, eqb→eq, lt→ltb}
use lib.IntN.{ℤ, ◌+ℤ◌, ◌-ℤ◌}
use mir.Facts.{and_yes, ltb_yes}
use borrow.Author.Tests.{ltb-true}
use Rattle.lists.specs.Lists.{All, same}
use Rattle.lists.proofs.Tests.{cond-each, passes}
use Rattle.lists.proofs.Each.{Both, nil, cons, both-get_d, both-reverse}
use Rattle.table.specs.Table.{return_of, slot_type, slot_types, param_types, is_channel, is_end}
use Rattle.table.specs.Ops.{Op, returned, op_int, op_bool, op_get, op_put, op_drop, op_clear, op_new_q, op_new_c, op_end, op_gate, op_meas, op_call, op_ret, op_fork, op_send, op_recv, op_jump, op_j_false, op_arith, op_compare, op_not, unlisted, ops, op_of}
use Rattle.table.proofs.Methods.{slot_types-at}
use Rattle.table.proofs.Before.{cond-some}
use Rattle.machine.specs.Value.{qubit, channel, Value, empty, int, bool, ref, in_range, signed16}
use Rattle.machine.specs.State.{Frame, started, push}
use Rattle.machine.specs.Act.{At, operand, result, do_int, do_bool, do_get, do_put, do_drop, do_clear, do_new_q, do_new_c, do_end, do_gate_one, do_gate_two, do_gate, do_meas, do_call, do_ret, do_fork, do_send, do_recv, do_jump, do_j_false, do_add, do_sub, do_eq, do_less, do_not, do_nothing, doings, doing_of}
use Rattle.machine.proofs.Typing.{ThingFits, Fits, fits-more-qubits, fits-more-channels, Callers, Frames, frames-pay, frames-slot, frames-implies, started-typed}
use Rattle.machine.proofs.Acts.{Ready, TypedAt, DoingSound}
use Rattle.machine.proofs.Taken.{int_of, bool-of, qubit-of, channel-of, end-of, between, operand-there, wanted-one, wanted-two, wanted-all}

-- Frames that are owed what the rule gives

gives-typed : {p ts gs : List ℕ} {R : Value → ℕ → Type 0} {fs : List Frame}
    → some ts ≡ some gs → Frames p R gs fs → Frames p R ts fs
gives-typed {ts} {gs} e h = rw (some-injective ts gs e) h

pushes-typed : {p gs : List ℕ} {R : Value → ℕ → Type 0} {f : Frame} {fs : List Frame} {t : ℕ} {v : Value}
    → some (t ∷ []) ≡ some gs → Frames p R gs (f ∷ fs) → R v t → Frames p R [] (push v f ∷ fs)
pushes-typed e h r = frames-pay (gives-typed e h) (cons r nil)

-- a number that is no op
nothing-sound : DoingSound unlisted do_nothing
unfolding unlisted do_nothing
nothing-sound ks a r = r.argument

-- INT, BOOL

signed16-range : (n : ℕ) → T (in_range (signed16 n))
unfolding in_range signed16
signed16-range n =
    cond-each (λ z. T (in_range z)) (ltb n 32768)
    (λ e. lt→ltb n 2147483648 (omega (arith, ltb-true n 32768 e)))
    (λ e. lt→ltb (65535 - n) 2147483648 (omega arith))

int-sound : DoingSound op_int do_int
unfolding op_int do_int
int-sound ks a r = pushes-typed r.rule (r.next refl) (refl, signed16-range a.argument)

bool-sound : DoingSound op_bool do_bool
unfolding op_bool do_bool
bool-sound ks a r = pushes-typed r.rule (r.next refl) refl

-- GET, PUT, DROP, CLEAR

-- the argument names a used slot
slot-type : {op : Op} {ks : List ℕ} {a : At} → Ready op ks a
    → T (ltb a.argument 16 && not (eqb (slot_type a.program a.frame.method a.argument) 0))
    → slot_type a.program a.frame.method a.argument
    ≡ get_or (slot_types a.program a.frame.method) a.argument 0
slot-type {a} r t =
    let (below, used) = and_yes (ltb a.argument 16) _ t in
    sym (slot_types-at a.program r.kept a.frame.method a.argument (ltb_yes below))

get-sound : DoingSound op_get do_get
unfolding op_get do_get
get-sound ks a r =
    read (get_or a.frame.slots a.argument empty) refl
    (rw (slot-type r r.argument) (both-get_d (r.next refl).stack.0.slots a.argument empty 0 tt))
  where
    read : (v : Value) → get_or a.frame.slots a.argument empty ≡ v
        → Fits ks a.qubits v (slot_type a.program a.frame.method a.argument) → TypedAt ks a (do_get a)
    read empty e h = rw e (omega arith)
    read (int z) e h = rw e (pushes-typed r.rule (r.next refl) h)
    read (bool b) e h = rw e (pushes-typed r.rule (r.next refl) h)
    read (ref t) e h = rw e (pushes-typed r.rule (r.next refl) h)

put-sound : DoingSound op_put do_put
unfolding op_put do_put
put-sound ks a r =
    let t = slot_type a.program a.frame.method a.argument in
    let (full, g) = wanted-one r t (t ∷ []) r.rule in
    pushes-typed g (frames-slot a.argument (r.next refl) (rw (slot-type r r.argument) at full.1)) full.1

drop-sound : DoingSound op_drop do_drop
unfolding op_drop do_drop
drop-sound ks a r = gives-typed r.rule (r.next refl)

clear-sound : DoingSound op_clear do_clear
unfolding op_clear do_clear
clear-sound ks a r = gives-typed r.rule (frames-slot a.argument (r.next refl) tt)

-- NEWQ, NEWC, END

newq-sound : DoingSound op_new_q do_new_q
unfolding op_new_q do_new_q
newq-sound ks a r =
    let (b, g) = wanted-all r [] (3 ∷ []) r.rule in
    let frames = frames-implies a.program (fits-more-qubits ks a.qubits) (a.frame ∷ a.callers) (r.next refl) in
    cond-each (TypedAt ks a) (ltb a.qubits 32)
    (λ e. (ltb-true a.qubits 32 e, pushes-typed g frames (refl, omega arith)))
    (λ e. omega arith)

new-channel-fits : (ks : List ℕ) (k q n : ℕ) → length ks ≡ n → k ≤ 3 → ThingFits (ks ++ (k ∷ [])) q (channel n) (16 + k)
new-channel-fits ks k q n e l = rw (get_or_at ks k [] 0 n e, length-append) (refl, omega arith, l)

newc-sound : DoingSound op_new_c do_new_c
unfolding op_new_c do_new_c
newc-sound ks a r =
    let k = a.argument in
    let frames =
    frames-implies a.program (fits-more-channels ks k a.qubits) (a.frame ∷ a.callers) (r.next refl) in
    let fits = new-channel-fits ks k a.qubits a.channels r.channels (between 1 3 k r.argument).1 in
    cond-each (TypedAt ks a) (ltb a.channels 16)
    (λ e. (omega (arith, ltb-true a.channels 16 e), (k, pushes-typed r.rule frames fits)))
    (λ e. omega arith)

end-sound : DoingSound op_end do_end
unfolding op_end do_end
end-sound ks a r =
    let t = get_or r.taken 0 0 in
    let (c, g) = cond-some (is_channel t) _ r.given r.rule in
    let (low, high) = between 17 19 t c in
    let (n, e, fits) = channel-of ks a.qubits (operand a 0) t low high (operand-there r 0 (omega arith)) in
    rw e (pushes-typed g (r.next refl) (omega arith, fits.1, fits.2))

-- GATE, MEAS

gate-one-sound : {ks : List ℕ} {a : At} (r : Ready op_gate ks a)
    → cond (same r.taken (3 ∷ [])) (some []) none ≡ some r.given → TypedAt ks a (do_gate_one a)
unfolding op_gate do_gate_one
gate-one-sound {ks} {a} r rule =
    let (full, g) = wanted-one r 3 [] rule in
    let (n, e) = qubit-of ks a.qubits (operand a 0) full in
    rw e (gives-typed g (r.next refl))

gate-two-sound : {ks : List ℕ} {a : At} (r : Ready op_gate ks a)
    → cond (same r.taken (3 ∷ 3 ∷ [])) (some []) none ≡ some r.given → TypedAt ks a (do_gate_two a)
unfolding op_gate do_gate_two
gate-two-sound {ks} {a} r rule =
    let (deeper, top, g) = wanted-two r 3 [] rule in
    let (m, d) = qubit-of ks a.qubits (operand a 1) deeper in
    let (n, e) = qubit-of ks a.qubits (operand a 0) top in
    rw (d, e) (cond-each (TypedAt ks a) (eqb m n) (λ z. omega arith) (λ z. gives-typed g (r.next refl)))

gate-sound : DoingSound op_gate do_gate
unfolding op_gate do_gate
gate-sound ks a r = by_number (leb a.argument 5) r.rule
  where
    by_number : (b : Bool)
        → cond {A = List ℕ → Option (List ℕ)} b (λ ts. cond (same ts (3 ∷ [])) (some []) none)
        (λ ts. cond (same ts (3 ∷ 3 ∷ [])) (some []) none) r.taken ≡ some r.given
        → TypedAt ks a (cond b (do_gate_one a) (do_gate_two a))
    by_number true rule = gate-one-sound r rule
    by_number false rule = gate-two-sound r rule

meas-sound : DoingSound op_meas do_meas
unfolding op_meas do_meas in_range
meas-sound ks a r =
    let (full, g) = wanted-one r 3 (1 ∷ []) r.rule in
    let (n, e) = qubit-of ks a.qubits (operand a 0) full in
    by-outcome g n e a.outcomes refl r.outcomes
  where
    by-outcome : some (1 ∷ []) ≡ some r.given → (n : ℕ) → operand a 0 ≡ ref (qubit n)
        → (os : List ℕ) → a.outcomes ≡ os → All (λ o. o ≤ 2) os → TypedAt ks a (do_meas a)
    by-outcome g n e [] q h = rw (e, q) (omega arith)
    by-outcome g n e (o ∷ os) q h =
        rw (e, q) (pushes-typed g (r.next refl) (refl, lt→ltb o 2147483648 (omega arith)))

-- CALL, RET, FORK

-- the operands, first to last, are arguments of method m
arguments-fit : (p : List ℕ) {R : Value → ℕ → Type 0} {vs : List Value} (m : ℕ)
    → Both R vs (reverse (param_types p m)) → Both R (reverse vs) (param_types p m)
arguments-fit p m b = rw reverse-reverse at (both-reverse b)

call-sound : DoingSound op_call do_call
unfolding op_call do_call started
call-sound ks a r =
    let p = a.program in
    let (b, g) = wanted-all r (reverse (param_types p a.argument)) _ r.rule in
    let args = arguments-fit p a.argument b in
    let callee =
    started-typed p r.kept (λ t. tt) a.argument (reverse a.operands) (ltb_yes r.argument) args in
    cond-each (TypedAt ks a) (ltb (suc (length a.callers)) 8)
    (λ e. record {
      stack = (callee, (gives-typed g (r.next refl)).stack);
      depth = ltb-true (suc (length a.callers))
          8 e;
    })
    (λ e. omega arith)

ret-sound : DoingSound op_ret do_ret
unfolding op_ret do_ret
ret-sound ks a r = to a.callers refl r.callers r.depth
  where
    to : (fs : List Frame) → a.callers ≡ fs → Callers a.program (Fits ks a.qubits) a.frame.method fs
        → length fs < 8 → TypedAt ks a (do_ret a)
    to [] e h l = rw e tt
    to (f ∷ fs) e h l =
        let (b, g) = wanted-all r (returned (return_of a.program a.frame.method)) [] r.rule in
        rw e (frames-pay (record { stack = h; depth = omega arith }) b)

fork-sound : DoingSound op_fork do_fork
unfolding op_fork do_fork
fork-sound ks a r =
    let (b, g) = wanted-all r (reverse (param_types a.program a.argument)) [] r.rule in
    cond-each (TypedAt ks a) (ltb a.processes 8)
    (λ e. (
      ltb-true a.processes 8 e,
      ltb_yes r.argument,
      arguments-fit a.program a.argument b,
      gives-typed g (r.next refl),
    ))
    (λ e. omega arith)

-- SEND, RECV

send-sound : DoingSound op_send do_send
unfolding op_send do_send
send-sound ks a r =
    let t = get_or r.taken 1 0 in
    let u = get_or r.taken 0 0 in
    let (c, g) = cond-some (is_end t && eqb u (t - 32)) (some []) r.given r.rule in
    let (on-end, same-type) = and_yes (is_end t) (eqb u (t - 32)) c in
    let carried = eqb→eq u (t - 32) same-type in
    let (low, high) = between 33 35 t on-end in
    let (n, s, e, fits) = end-of ks a.qubits (operand a 1) t low (operand-there r 1 (omega arith)) in
    let by-channel : u ≡ get_or ks n 0 = omega arith in
    rw e (rw by-channel at (operand-there r 0 (omega arith)).1, gives-typed g (r.next refl))

recv-sound : DoingSound op_recv do_recv
unfolding op_recv do_recv
recv-sound ks a r =
    let t = get_or r.taken 0 0 in
    let (on-end, g) = cond-some (is_end t) _ r.given r.rule in
    let (low, high) = between 33 35 t on-end in
    let (n, s, e, fits) = end-of ks a.qubits (operand a 0) t low (operand-there r 0 (omega arith)) in
    let by-channel : t - 32 ≡ get_or ks n 0 = omega arith in
    rw e (rw by-channel at (gives-typed g (r.next refl)))

-- JUMP, JFALSE

jump-sound : DoingSound op_jump do_jump
unfolding op_jump do_jump
jump-sound ks a r = r.target tt (ltb_yes r.argument)

jfalse-sound : DoingSound op_j_false do_j_false
unfolding op_j_false do_j_false
jfalse-sound ks a r =
    let (full, g) = wanted-one r 2 [] r.rule in
    let (b, e) = bool-of ks a.qubits (operand a 0) full in
    rw e (cond-each (TypedAt ks a) b (λ z. gives-typed g (r.next refl)) (λ z. r.target tt (ltb_yes r.argument)))

-- ADD, SUB, EQ, LESS, NOT

two-ints : {op : Op} {ks : List ℕ} {a : At} (r : Ready op ks a) (ts : List ℕ)
    → cond (same r.taken (1 ∷ 1 ∷ [])) (some ts) none ≡ some r.given
    → (x : ℤ) × (y : ℤ) × (operand a 1 ≡ int x) × (operand a 0 ≡ int y) × (some ts ≡ some r.given)
two-ints {ks} {a} r ts rule =
    let (deeper, top, g) = wanted-two r 1 ts rule in
    let (x, d) = int_of ks a.qubits (operand a 1) deeper in
    let (y, e) = int_of ks a.qubits (operand a 0) top in
    (x, y, d, e, g)

-- an int is pushed if it is in range
result-typed : {ks : List ℕ} {a : At} (r : Ready op_arith ks a) → some (1 ∷ []) ≡ some r.given → (z : ℤ)
    → TypedAt ks a (result a z)
unfolding op_arith
result-typed {ks} {a} r g z =
    cond-each (TypedAt ks a) (in_range z) (λ e. pushes-typed g (r.next refl) (refl, passes e)) (λ e. omega arith)

add-sound : DoingSound op_arith do_add
unfolding op_arith do_add
add-sound ks a r = let (x, y, d, e, g) = two-ints r (1 ∷ []) r.rule in rw (d, e) (result-typed r g (x +ℤ y))

sub-sound : DoingSound op_arith do_sub
unfolding op_arith do_sub
sub-sound ks a r = let (x, y, d, e, g) = two-ints r (1 ∷ []) r.rule in rw (d, e) (result-typed r g (x -ℤ y))

eq-sound : DoingSound op_compare do_eq
unfolding op_compare do_eq
eq-sound ks a r = let (x, y, d, e, g) = two-ints r (2 ∷ []) r.rule in rw (d, e) (pushes-typed g (r.next refl) refl)

less-sound : DoingSound op_compare do_less
unfolding op_compare do_less
less-sound ks a r =
    let (x, y, d, e, g) = two-ints r (2 ∷ []) r.rule in rw (d, e) (pushes-typed g (r.next refl) refl)

not_sound : DoingSound op_not do_not
unfolding op_not do_not
not_sound ks a r =
    let (full, g) = wanted-one r 2 (2 ∷ []) r.rule in
    let (b, e) = bool-of ks a.qubits (operand a 0) full in
    rw e (pushes-typed g (r.next refl) refl)

-- 01's table: each op with what it does

doings-sound : Both DoingSound ops doings
unfolding ops doings
doings-sound =
    cons nothing-sound
    (cons int-sound (cons bool-sound (cons get-sound (cons put-sound (cons drop-sound (cons clear-sound
    (cons newq-sound (cons newc-sound (cons end-sound (cons gate-sound (cons meas-sound
    (cons call-sound (cons ret-sound (cons fork-sound (cons send-sound (cons recv-sound
    (cons jump-sound (cons jfalse-sound
    (cons add-sound (cons sub-sound (cons eq-sound (cons less-sound (cons not_sound nil)))))))))))))))))))))))

pub doing-sound : (n : ℕ) → DoingSound (op_of n) (doing_of n)
unfolding op_of doing_of
doing-sound n = both-get_d doings-sound n unlisted do_nothing nothing-sound
