-- The ops' functions do what document 01's ops do: the answer and the words that each leaves agree with what the
-- process at that op would do.
use Prim.Native.Nat.{ℕ, zero, suc, ◌+◌, ◌*◌, ◌-◌, ◌%◌, ◌≤◌, ◌<◌}
use mathlib.Core.Path.{◌≡◌, refl, sym, ◌∙◌, ap, ap₂, subst, subst₂}
use mathlib.Core.Logic.{⊎_elim}
use mathlib.Core.Bool.{Bool, true, false, cond, not, ◌||◌, true≢false}
use mathlib.Core.List.{List, [], ◌∷◌, reverse}
use native.Mathlib.Omega.{arith}
use lib.IntN.{ℤ, pos, negsuc, ◌+ℤ◌, ◌-ℤ◌}
use lib.Signed.{lt_z}
use lib.ListN.{get_or, take, drop, length}
use lib.Dec.{T, eqb, leb, ltb, ltb→lt, leb→le, leb-zero}
use borrow.Author.Tests.{ne_eqb, le-leb, lt-leb, leb-true, leb-false, ltb-true, ltb-false, eqb-true}
use Rattle.lists.specs.Lists.{any, All}
use Rattle.lists.proofs.Tests.{and_left, decide, never}
use Rattle.lists.proofs.Numbers.{by_number, ◌▹◌}
use Rattle.table.specs.Table.{methods, offset_of, return_of, params_of, op_at, arg_at, owner_of, slot_type}
use Rattle.table.specs.Ops.{op_of, ops, op_int, op_bool, op_get, op_put, op_drop, op_clear, op_end, op_jump, op_j_false, op_arith, op_compare, op_not, op_call, op_ret, returned, unlisted}
use Rattle.table.specs.Reading.{taken_at}
use Rattle.table.proofs.Methods.{inside-bound, inside-owner}
use native.Mathlib.Nat.{le_of_suc-le, le_of_suc-le-suc, not-suc-le-zero}
use Rattle.machine.specs.Value.{qubit, channel, end, Value, empty, int, bool, ref, is_empty, in_range, signed16, word32, eq_z, side_of}
use Rattle.machine.specs.State.{Frame, State, at_place, with_pending, with_slot, started}
use Rattle.machine.specs.Act.{Act, idle, stuck, faults, goes, ends, makes, forks, offers, At, present, pushes, two_ints, result, do_int, do_bool, do_get, do_put, do_drop, do_clear, do_end, do_jump, do_j_false, do_add, do_sub, do_eq, do_less, do_not, do_call, do_ret, return_to, doings, doing_of, passed_by, scene_of, at_frame}
use Rattle.machine.specs.Entry.{runs}
use Rattle.machine.specs.Sound.{ValueSound}
use Rattle.machine.proofs.Reachable.{Stack, AtWork}
use Rattle.layout.specs.Layout.{value_words, process_words}
use Rattle.layout.proofs.Frames.{tag_of, number_of}
use Rattle.run_store.specs.declared.values.Val.{Val}
use Rattle.run_store.specs.declared.head.Head.{Head}
use Rattle.run_store.specs.StoreCode.{value_at, slot_at, top_at, empty_down}
use Rattle.run_values.specs.ValuesCode.{AfterStep, after_step, empty_val, int_val, bool_val, unless_empty, push_on, on_top, drop_top, drop_to, over_two, in_slot, empty_two}
use Rattle.run_moves.specs.MovesCode.{sign_extended, get_op, put_op, drop_op, end_op, target_of, jump_op, jfalse_op, int_op, bool_op, clear_op}
use Rattle.run_numbers.specs.NumbersCode.{biased, result_op, two_op, add_op, sub_op, bit, eq_op, less_op, not_op}
use Rattle.run_values.specs.declared.steps.StepResult.{StepResult}
use Rattle.run_values.specs.declared.steps.StepResult.TheVariants.{WentOn, NotRunning, AtNewQ, AtNewC, AtGate, AtMeas, AtLastRet, AtFork, AtSend, AtRecv, Empty, FrameBeyond8, OutOfRange}
use Rattle.run_ops.specs.OpsCode.{opened, call_op, closed, handed, ret_op, op_functions, act_op, step_op}
use Rattle.run_numbers.proofs.Ints.{Shifted, sum_shifted, difference-shifted, less-same, words_same}
use Rattle.run_ops.proofs.FramesOpened.{opened-words, closed-words, handed-words}
use Rattle.run_store.proofs.Vals.{val_of}
use Rattle.run_values.proofs.Places.{head_in, head-is, slot_read, top_read, push-words, slot-words, drop-words, drop-to-words, move-words, top-words, two-words}

-- the answers that are faults, each with its number
abbrev pub FaultIs : ℕ → StepResult → Type 0
FaultIs n WentOn = ⊥
FaultIs n NotRunning = ⊥
FaultIs n AtNewQ = ⊥
FaultIs n AtNewC = ⊥
FaultIs n AtGate = ⊥
FaultIs n AtMeas = ⊥
FaultIs n AtLastRet = ⊥
FaultIs n AtFork = ⊥
FaultIs n AtSend = ⊥
FaultIs n AtRecv = ⊥
FaultIs n Empty = n ≡ 20
FaultIs n FrameBeyond8 = n ≡ 25
FaultIs n OutOfRange = n ≡ 26

-- What an act within one process that writes no line leaves, as answer and words; the root frame's return is left to
-- the caller. No other act agrees with anything.
abbrev pub Agrees : Act → List ℕ → AfterStep → Type 0
Agrees idle w d = ⊥
Agrees stuck w d = Unit {0}
Agrees (faults n) w d = FaultIs n d.result × (d.words ≡ w)
Agrees (goes fs [] zero) w d = d ≡ after_step WentOn (process_words (runs fs))
Agrees (goes fs [] (suc u)) w d = ⊥
Agrees (goes fs (e ∷ es) u) w d = ⊥
Agrees ends w d = d ≡ after_step AtLastRet w
Agrees (makes t fs) w d = ⊥
Agrees (forks m args fs) w d = ⊥
Agrees (offers o) w d = ⊥

fault-agrees : {w : List ℕ} {d : AfterStep} (n : ℕ) (r : StepResult) → FaultIs n r → d ≡ after_step r w
    → Agrees (faults n) w d
fault-agrees n r f e = (subst (λ (d : AfterStep). FaultIs n d.result) (sym e) f, ap (λ (d : AfterStep). d.words) e)

-- the top frame after the act has at most 8 pending values
abbrev pub Height : Act → Type 0
Height idle = Unit {0}
Height stuck = Unit {0}
Height (faults n) = Unit {0}
Height (goes [] es u) = Unit {0}
Height (goes (f ∷ fs) es u) = length f.pending ≤ 8
Height ends = Unit {0}
Height (makes t []) = Unit {0}
Height (makes t (f ∷ fs)) = length f.pending ≤ 8
Height (forks m args fs) = Unit {0}
Height (offers o) = Unit {0}

-- values

pub tag-test : (v : Value) → eqb (val_of v).tag 0 ≡ is_empty v
unfolding val_of tag_of value_words
tag-test empty = refl
tag-test (int z) = refl
tag-test (bool b) = refl
tag-test (ref (qubit n)) = refl
tag-test (ref (channel n)) = refl
tag-test (ref (end n true)) = refl
tag-test (ref (end n false)) = refl

unless-read : (u : Val) (v : Value) (w : List ℕ) (d : AfterStep) → u ≡ val_of v
    → unless_empty u w d ≡ cond (is_empty v) (after_step Empty w) d
unfolding unless_empty
unless-read u v w d e =
    ap (λ (b : Bool). cond b (after_step Empty w) d) (ap (λ (x : Val). eqb x.tag 0) e ∙ tag-test v)

-- the value that INT pushes, and the one that BOOL pushes
int-value : (a : ℕ) → a < 65536 → int_val (sign_extended a) ≡ val_of (int (signed16 a))
unfolding val_of tag_of number_of value_words sign_extended signed16 word32
int-value a h = ap int_val (number (ltb a 32768))
  where
    number : (b : Bool) → cond b a (a + 4294901760) ≡ word32 (cond b (pos a) (negsuc (65535 - a)))
    number true = refl
    number false = omega arith

bool-value : (a : ℕ) → a ≤ 1 → bool_val a ≡ val_of (bool (eqb a 1))
unfolding val_of tag_of number_of value_words
bool-value zero h = refl
bool-value (suc zero) h = refl
bool-value (suc (suc a)) h = absurd (omega arith)

-- the value that END pushes
end-value : (a n : ℕ) → a ≤ 1 → ◌≡◌ {A = Val} (record { tag = 5 + a; number = n }) (val_of (ref (end n (side_of a))))
unfolding val_of tag_of number_of value_words
end-value zero n h = refl
end-value (suc zero) n h = refl
end-value (suc (suc a)) n h = absurd (omega arith)

module _ {p : List ℕ} (outcomes : List ℕ) (s : State) {f : Frame} {fs : List Frame}
    (busy : AtWork p s.config f fs) where
  abbrev pub w : List ℕ
  w = process_words (runs (f ∷ fs))

  abbrev pub hd : Head
  hd = head_in f fs

  abbrev pub a : ℕ
  a = arg_at p f.place

  -- the scene with n operands off the pending values vs
  abbrev pub scene : ℕ → List Value → At
  scene n vs = record {
    program = p;
    outcomes = drop s.used outcomes;
    qubits = s.config.qubits;
    channels = s.config.channels;
    processes = length s.config.processes;
    argument = arg_at p f.place;
    operands = take n vs;
    frame = at_place (suc f.place) (with_pending (drop n vs) f);
    callers = fs;
  }

  abbrev pub act : Act
  act = at_frame p outcomes s f fs

  -- what a process would do at op k, which takes n values, with vs pending
  pub act-is : (k n : ℕ) (vs : List Value) → op_at p f.place ≡ k → taken_at p f.place ≡ n → f.pending ≡ vs
      → act ≡ cond (leb n (length vs)) (cond (any is_empty (take n vs)) (faults 20) (doing_of k (scene n vs))) stuck
  unfolding at_frame scene_of passed_by
  act-is k n vs e t q = λ i.
      cond (leb (t i) (length (q i)))
      (cond (any is_empty (take (t i) (q i))) (faults 20)
      (doing_of (e i) (record {
        program = p;
        outcomes = drop s.used outcomes;
        qubits = s.config.qubits;
        channels = s.config.channels;
        processes = length s.config.processes;
        argument = arg_at p f.place;
        operands = take (t i) (q i);
        frame = at_place (suc f.place) (with_pending (drop (t i) (q i)) f);
        callers = fs;
      })))
      stuck

  -- the same for no operand, one and two
  pub act-zero : (k : ℕ) → op_at p f.place ≡ k → taken_at p f.place ≡ 0 → act ≡ doing_of k (scene 0 f.pending)
  act-zero k e t =
      act-is k 0 f.pending e t refl
      ∙ ap (λ (b : Bool). cond b (doing_of k (scene 0 f.pending)) stuck) (leb-zero (length f.pending))

  pub act-one : (k : ℕ) (u : Value) (us : List Value) → op_at p f.place ≡ k → taken_at p f.place ≡ 1
      → f.pending ≡ u ∷ us
      → act ≡ cond (is_empty u || false) (faults 20) (doing_of k (scene 1 (u ∷ us)))
  act-one k u us e t q =
      act-is k 1 (u ∷ us) e t q
      ∙ ap (λ (b : Bool). cond b (cond (is_empty u || false) (faults 20) (doing_of k (scene 1 (u ∷ us)))) stuck)
      (le-leb 1 (suc (length us)) (omega arith))

  pub act-two : (k : ℕ) (y x : Value) (us : List Value) → op_at p f.place ≡ k → taken_at p f.place ≡ 2
      → f.pending ≡ y ∷ x ∷ us
      → act ≡ cond (is_empty y || (is_empty x || false)) (faults 20) (doing_of k (scene 2 (y ∷ x ∷ us)))
  act-two k y x us e t q =
      act-is k 2 (y ∷ x ∷ us) e t q
      ∙ ap
      (λ (b : Bool). cond b (cond (is_empty y || (is_empty x || false)) (faults 20) (doing_of k (scene 2 (y ∷ x ∷ us))))
      stuck) (le-leb 2 (suc (suc (length us))) (omega arith))

  -- too few pending values
  pub act-short : (k n : ℕ) → op_at p f.place ≡ k → taken_at p f.place ≡ n → length f.pending < n → act ≡ stuck
  act-short k n e t h =
      act-is k n f.pending e t refl
      ∙ ap
      (λ (b : Bool). cond b (cond (any is_empty (take n f.pending)) (faults 20) (doing_of k (scene n f.pending)))
      stuck) (lt-leb n (length f.pending) h)

  -- how many values the op at the place takes
  pub taken-by : (k : ℕ) → op_at p f.place ≡ k → taken_at p f.place ≡ (op_of k).takes p (owner_of p f.place) a
  unfolding taken_at
  taken-by k e = ap (λ (o : ℕ). (op_of o).takes p (owner_of p f.place) a) e

  -- its argument passed question 4
  pub argument-kept : (k : ℕ) → op_at p f.place ≡ k → T ((op_of k).argument p (owner_of p f.place) a)
  argument-kept k e =
      subst (λ (o : ℕ). T ((op_of o).argument p (owner_of p f.place) a)) e
      (busy.stack.kept.argument f.place (inside-bound p busy.stack.kept
      (record {
        method = busy.stack.sound.0.method;
        from-offset = busy.stack.sound.0.from-offset;
        ahead = busy.stack.sound.0.inside;
      })))

  -- agreement, carried along what the act and the function's answer are
  abbrev pub Good : Act → AfterStep → Type 0
  Good x d = Height x → Agrees x w d

  pub by : {x y : Act} {d e : AfterStep} → x ≡ y → d ≡ e → Good y e → Good x d
  by p q g = subst₂ Good (sym p) (sym q) g

  pub answer-as : (x : Act) {d e : AfterStep} → d ≡ e → Good x e → Good x d
  answer-as x q g = subst (Good x) (sym q) g

  -- an op of one operand, and of two
  pub one-op : (k : ℕ) (d : AfterStep) → op_at p f.place ≡ k → taken_at p f.place ≡ 1
      → ((u : Value) (us : List Value) → f.pending ≡ u ∷ us → Good
      (cond (is_empty u || false) (faults 20) (doing_of k (scene 1 (u ∷ us)))) d)
      → Good act d
  one-op k d e t g = go f.pending refl
    where
      go : (vs : List Value) → f.pending ≡ vs → Good act d
      go [] q = by (act-short k 1 e t (subst (λ (l : List Value). length l < 1) (sym q) (omega arith))) refl (λ h. tt)
      go (u ∷ us) q = by (act-one k u us e t q) refl (g u us q)

  two-op : (k : ℕ) (d : AfterStep) → op_at p f.place ≡ k → taken_at p f.place ≡ 2
      → ((y x : Value) (us : List Value) → f.pending ≡ y ∷ x ∷ us → Good
      (cond (is_empty y || (is_empty x || false)) (faults 20) (doing_of k (scene 2 (y ∷ x ∷ us)))) d)
      → Good act d
  two-op k d e t g = go f.pending refl
    where
      short : (vs : List Value) → f.pending ≡ vs → length vs < 2 → Good act d
      short vs q h = by (act-short k 2 e t (subst (λ (l : List Value). length l < 2) (sym q) h)) refl (λ h. tt)

      go : (vs : List Value) → f.pending ≡ vs → Good act d
      go [] q = short [] q (omega arith)
      go (u ∷ []) q = short (u ∷ []) q (omega arith)
      go (y ∷ x ∷ us) q = by (act-two k y x us e t q) refl (g y x us q)

  -- the top value, and the one below it
  pub read-top : (u : Value) (us : List Value) → f.pending ≡ u ∷ us → value_at w (top_at hd 1) ≡ val_of u
  read-top u us q =
      top_read busy.stack 0 (subst (λ (l : List Value). 0 < length l) (sym q) (omega arith))
      ∙ ap (λ (l : List Value). val_of (get_or l 0 empty)) q

  pub read-second : (y x : Value) (us : List Value) → f.pending ≡ y ∷ x ∷ us → value_at w (top_at hd 2) ≡ val_of x
  read-second y x us q =
      top_read busy.stack 1 (subst (λ (l : List Value). 1 < length l) (sym q) (omega arith))
      ∙ ap (λ (l : List Value). val_of (get_or l 1 empty)) q

  -- one operand: fault 20, or what the op does with a value that is not empty
  unless-good : (u : Value) (x : Act) (d : AfterStep) → (is_empty u ≡ false → Good x d)
      → Good (cond (is_empty u || false) (faults 20) x) (cond (is_empty u) (after_step Empty w) d)
  unless-good empty x d g = λ h. (refl, refl)
  unless-good (int z) x d g = g refl
  unless-good (bool b) x d g = g refl
  unless-good (ref t) x d g = g refl

  -- the functions that read the top value first
  pub top-op : (k : ℕ) (d : Val → AfterStep) → op_at p f.place ≡ k → taken_at p f.place ≡ 1
      → ((u : Value) (us : List Value) → f.pending ≡ u ∷ us → is_empty u ≡ false → Good (doing_of k (scene 1 (u ∷ us)))
      (d (val_of u)))
      → Good act (unless_empty (value_at w (top_at hd 1)) w (d (value_at w (top_at hd 1))))
  top-op k d e t g =
      one-op k (unless_empty (value_at w (top_at hd 1)) w (d (value_at w (top_at hd 1)))) e t
      (λ u us q. answer-as (cond (is_empty u || false) (faults 20) (doing_of k (scene 1 (u ∷ us))))
      (unless-read (value_at w (top_at hd 1)) u w (d (value_at w (top_at hd 1))) (read-top u us q)
      ∙ ap (λ (v : Val). cond (is_empty u) (after_step Empty w) (d v)) (read-top u us q))
      (unless-good u (doing_of k (scene 1 (u ∷ us))) (d (val_of u)) (g u us q)))

  -- INT and BOOL

  pub int-agrees : op_at p f.place ≡ 1 → Good act (after_step WentOn (push_on w hd (int_val (sign_extended a))))
  unfolding doing_of doings do_int op_of ops op_int passed_by
  int-agrees e =
      by (act-zero 1 e (taken-by 1 e)) (ap (λ (v : Val). after_step WentOn (push_on w hd v)) (int-value a busy.small))
      (λ h. ap (after_step WentOn) (push-words busy.stack (int (signed16 a)) h))

  pub bool-agrees : op_at p f.place ≡ 2 → Good act (after_step WentOn (push_on w hd (bool_val a)))
  unfolding doing_of doings do_bool op_of ops op_bool passed_by
  bool-agrees e =
      by (act-zero 2 e (taken-by 2 e))
      (ap (λ (v : Val). after_step WentOn (push_on w hd v)) (bool-value a (leb→le a 1 (argument-kept 2 e))))
      (λ h. ap (after_step WentOn) (push-words busy.stack (bool (eqb a 1)) h))

  -- GET

  get-slot : op_at p f.place ≡ 3 → a < 16
  unfolding op_of ops op_get
  get-slot e = ltb→lt a 16 (and_left (ltb a 16) (not (eqb (slot_type p (owner_of p f.place) a) 0)) (argument-kept 3 e))

  get_value : (v : Value)
      → Good (present v (pushes (scene 0 f.pending)))
      (cond (is_empty v) (after_step Empty w) (after_step WentOn (push_on w hd (val_of v))))
  unfolding passed_by
  get_value empty h = (refl, refl)
  get_value (int z) h = ap (after_step WentOn) (push-words busy.stack (int z) h)
  get_value (bool b) h = ap (after_step WentOn) (push-words busy.stack (bool b) h)
  get_value (ref t) h = ap (after_step WentOn) (push-words busy.stack (ref t) h)

  pub get-agrees : op_at p f.place ≡ 3 → Good act (get_op w hd a)
  unfolding get_op doing_of doings do_get op_of ops op_get
  get-agrees e =
      by (act-zero 3 e (taken-by 3 e))
      (unless-read (value_at w (slot_at hd a)) (get_or f.slots a empty) w
      (after_step WentOn (push_on w hd (value_at w (slot_at hd a)))) read
      ∙ ap (λ (v : Val). cond (is_empty (get_or f.slots a empty)) (after_step Empty w)
      (after_step WentOn (push_on w hd v))) read)
      (get_value (get_or f.slots a empty))
    where
      read : value_at w (slot_at hd a) ≡ val_of (get_or f.slots a empty)
      read = slot_read busy.stack a (get-slot e)

  -- PUT, DROP, CLEAR

  put-slot : op_at p f.place ≡ 4 → a < 16
  unfolding op_of ops op_put
  put-slot e = ltb→lt a 16 (and_left (ltb a 16) (not (eqb (slot_type p (owner_of p f.place) a) 0)) (argument-kept 4 e))

  pub put-agrees : op_at p f.place ≡ 4 → Good act (put_op w hd a)
  unfolding put_op doing_of doings do_put op_of ops op_put passed_by
  put-agrees e =
      top-op 4 (λ v. after_step WentOn (in_slot w hd a v)) e (taken-by 4 e)
      (λ u us q n h. ap (after_step WentOn)
      (slot-words busy.stack a u (put-slot e)
      ∙ ap (λ (vs : List Value). process_words (runs (with_slot a u (at_place (suc f.place) (with_pending vs f)) ∷ fs)))
      q))

  pub drop_agrees : op_at p f.place ≡ 5 → Good act (drop_op w hd)
  unfolding drop_op doing_of doings do_drop op_of ops op_drop
  drop_agrees e =
      top-op 5 (λ v. after_step WentOn (drop_top w hd)) e (taken-by 5 e)
      (λ u us q n h. ap (after_step WentOn) (drop-words busy.stack u us q))

  clear-slot : op_at p f.place ≡ 6 → a < 16
  unfolding op_of ops op_clear
  clear-slot e =
      ltb→lt a 16 (and_left (ltb a 16) (not (eqb (slot_type p (owner_of p f.place) a) 0)) (argument-kept 6 e))

  pub clear-agrees : op_at p f.place ≡ 6 → Good act (after_step WentOn (in_slot w hd a empty_val))
  unfolding doing_of doings do_clear op_of ops op_clear passed_by val_of tag_of number_of value_words
  clear-agrees e =
      by (act-zero 6 e (taken-by 6 e)) refl (λ h. ap (after_step WentOn)
      (slot-words busy.stack a empty (clear-slot e)))

  -- END

  pub end-agrees : op_at p f.place ≡ 9 → Good act (end_op w hd a)
  unfolding end_op doing_of doings do_end op_of ops op_end val_of number_of value_words
  end-agrees e =
      top-op 9 (λ v. after_step WentOn (on_top w hd (record { tag = 5 + a; number = v.number }))) e (taken-by 9 e) found
    where
      side : a ≤ 1
      side = leb→le a 1 (argument-kept 9 e)

      found : (u : Value) (us : List Value) → f.pending ≡ u ∷ us → is_empty u ≡ false
          → Good (do_end (scene 1 (u ∷ us)))
          (after_step WentOn (on_top w hd (record { tag = 5 + a; number = (val_of u).number })))
      found empty us q n h = tt
      found (int z) us q n h = tt
      found (bool b) us q n h = tt
      found (ref (qubit k)) us q n h = tt
      found (ref (channel k)) us q n h =
          ap (after_step WentOn)
          (ap (on_top w hd) (end-value a k side)
          ∙ top-words busy.stack (ref (channel k)) (ref (end k (side_of a))) us q)
      found (ref (end k r)) us q n h = tt

  -- JUMP and JFALSE

  pub jump-agrees : op_at p f.place ≡ 17 → Good act (jump_op p w hd a)
  unfolding jump_op target_of doing_of doings do_jump op_of ops op_jump
  jump-agrees e =
      by (act-zero 17 e (taken-by 17 e)) refl
      (λ h. ap (after_step WentOn) (move-words busy.stack (offset_of p f.method + a)))

  pub jfalse-agrees : op_at p f.place ≡ 18 → Good act (jfalse_op p w hd a)
  unfolding jfalse_op target_of doing_of doings do_j_false op_of ops op_j_false val_of number_of value_words
  jfalse-agrees e =
      top-op 18
      (λ v. cond (eqb v.number 0) (after_step WentOn (drop_to w hd (offset_of p f.method + a)))
      (after_step WentOn (drop_top w hd))) e (taken-by 18 e) found
    where
      found : (u : Value) (us : List Value) → f.pending ≡ u ∷ us → is_empty u ≡ false
          → Good (do_j_false (scene 1 (u ∷ us)))
          (cond (eqb (val_of u).number 0) (after_step WentOn (drop_to w hd (offset_of p f.method + a)))
          (after_step WentOn (drop_top w hd)))
      found empty us q n h = tt
      found (int z) us q n h = tt
      found (bool true) us q n h = ap (after_step WentOn) (drop-words busy.stack (bool true) us q)
      found (bool false) us q n h =
          ap (after_step WentOn) (drop-to-words busy.stack (bool false) us (offset_of p f.method + a) q)
      found (ref t) us q n h = tt

  -- NOT

  pub not_agrees : op_at p f.place ≡ 23 → Good act (not_op w hd)
  unfolding not_op doing_of doings do_not op_of ops op_not val_of tag_of number_of value_words
  not_agrees e =
      top-op 23 (λ v. after_step WentOn (on_top w hd (bool_val (bit (eqb v.number 0))))) e (taken-by 23 e) found
    where
      found : (u : Value) (us : List Value) → f.pending ≡ u ∷ us → is_empty u ≡ false
          → Good (do_not (scene 1 (u ∷ us))) (after_step WentOn (on_top w hd (bool_val (bit (eqb (val_of u).number 0)))))
      found empty us q n h = tt
      found (int z) us q n h = tt
      found (bool true) us q n h = ap (after_step WentOn) (top-words busy.stack (bool true) (bool false) us q)
      found (bool false) us q n h = ap (after_step WentOn) (top-words busy.stack (bool false) (bool true) us q)
      found (ref t) us q n h = tt

  -- two ints

  -- the functions that read two operands first
  read-two : (y x : Value) (us : List Value) (k : ℕ → ℕ → AfterStep) → f.pending ≡ y ∷ x ∷ us
      → two_op w hd k ≡ cond (is_empty x || is_empty y) (after_step Empty w) (k (val_of x).number (val_of y).number)
  unfolding two_op empty_two
  read-two y x us k q =
      ap₂ (λ (u v : Val). cond (eqb u.tag 0 || eqb v.tag 0) (after_step Empty w) (k u.number v.number))
      (read-second y x us q) (read-top y (x ∷ us) q)
      ∙ ap₂ (λ (b c : Bool). cond (b || c) (after_step Empty w) (k (val_of x).number (val_of y).number)) (tag-test x)
      (tag-test y)

  -- the op on values of every kind: fault 20, or both are ints, or the process is stuck
  ints-op : (k : ℕ) (act-of : At → ℤ → ℤ → Act) (g : ℕ → ℕ → AfterStep) → op_at p f.place ≡ k
      → taken_at p f.place ≡ 2
      → ((b : At) → doing_of k b ≡ two_ints b (act-of b))
      → ((x y : ℤ) (us : List Value) → f.pending ≡ int y ∷ int x ∷ us → T (in_range x) → T (in_range y)
      → Good (act-of (scene 2 (int y ∷ int x ∷ us)) x y) (g (word32 x) (word32 y)))
      → Good act (two_op w hd g)
  unfolding val_of number_of value_words
  ints-op k act-of g e t is both =
      two-op k (two_op w hd g) e t
      (λ y x us q. answer-as (cond (is_empty y || (is_empty x || false)) (faults 20) (doing_of k (scene 2 (y ∷ x ∷ us))))
      (read-two y x us g q)
      (by (ap (λ (z : Act). cond (is_empty y || (is_empty x || false)) (faults 20) z) (is (scene 2 (y ∷ x ∷ us)))) refl
      (values y x us q)))
    where
      values : (y x : Value) (us : List Value) → f.pending ≡ y ∷ x ∷ us
          → Good
          (cond (is_empty y || (is_empty x || false)) (faults 20)
          (two_ints (scene 2 (y ∷ x ∷ us)) (act-of (scene 2 (y ∷ x ∷ us)))))
          (cond (is_empty x || is_empty y) (after_step Empty w) (g (val_of x).number (val_of y).number))
      values empty empty us q h = (refl, refl)
      values empty (int x) us q h = (refl, refl)
      values empty (bool b) us q h = (refl, refl)
      values empty (ref r) us q h = (refl, refl)
      values (int y) empty us q h = (refl, refl)
      values (int y) (int x) us q h =
          let fine : All (ValueSound s.config) (int y ∷ int x ∷ us) =
          subst (All (ValueSound s.config)) q busy.stack.sound.0.pending in
          both x y us q fine.1.0 fine.0 h
      values (int y) (bool b) us q h = tt
      values (int y) (ref r) us q h = tt
      values (bool c) empty us q h = (refl, refl)
      values (bool c) (int x) us q h = tt
      values (bool c) (bool b) us q h = tt
      values (bool c) (ref r) us q h = tt
      values (ref o) empty us q h = (refl, refl)
      values (ref o) (int x) us q h = tt
      values (ref o) (bool b) us q h = tt
      values (ref o) (ref r) us q h = tt

  -- a result in range, or fault 26
  result-good : (z : ℤ) (n : ℕ) (y x : Value) (us : List Value) → f.pending ≡ y ∷ x ∷ us → Shifted z n
      → Good (result (scene 2 (y ∷ x ∷ us)) z) (result_op w hd n)
  unfolding result_op val_of tag_of number_of value_words
  result-good z n y x us q sh h =
      ⊎_elim
      (λ t. subst (λ (b : Bool). Agrees (result (scene 2 (y ∷ x ∷ us)) z) w
      (cond b (after_step OutOfRange w)
      (cond (leb 6442450944 n) (after_step OutOfRange w) (after_step WentOn (over_two w hd (int_val (n % 4294967296)))))))
      (sym t)
      (out (sh.low (ltb-true n 2147483648 t))))
      (λ t. subst (λ (b : Bool). Agrees (result (scene 2 (y ∷ x ∷ us)) z) w
      (cond b (after_step OutOfRange w)
      (cond (leb 6442450944 n) (after_step OutOfRange w) (after_step WentOn (over_two w hd (int_val (n % 4294967296)))))))
      (sym t)
      (⊎_elim
      (λ u. subst (λ (b : Bool). Agrees (result (scene 2 (y ∷ x ∷ us)) z) w
      (cond b (after_step OutOfRange w) (after_step WentOn (over_two w hd (int_val (n % 4294967296)))))) (sym u)
      (out (sh.high (leb-true 6442450944 n u))))
      (λ u. subst (λ (b : Bool). Agrees (result (scene 2 (y ∷ x ∷ us)) z) w
      (cond b (after_step OutOfRange w) (after_step WentOn (over_two w hd (int_val (n % 4294967296)))))) (sym u)
      (within (sh.inside (ltb-false n 2147483648 t) (leb-false 6442450944 n u))))
      (decide (leb 6442450944 n))))
      (decide (ltb n 2147483648))
    where
      out : in_range z ≡ false → Agrees (result (scene 2 (y ∷ x ∷ us)) z) w (after_step OutOfRange w)
      out e =
          subst (λ (b : Bool). Agrees (cond b (pushes (scene 2 (y ∷ x ∷ us)) (int z)) (faults 26)) w
          (after_step OutOfRange w))
          (sym e) (refl, refl)

      within : (in_range z ≡ true) × (word32 z ≡ n % 4294967296)
          → Agrees (result (scene 2 (y ∷ x ∷ us)) z) w (after_step WentOn (over_two w hd (int_val (n % 4294967296))))
      within e =
          subst
          (λ (b : Bool). Agrees (cond b (pushes (scene 2 (y ∷ x ∷ us)) (int z)) (faults 26)) w
          (after_step WentOn (over_two w hd (int_val (n % 4294967296))))) (sym e.0)
          (ap (after_step WentOn)
          (ap (λ (m : ℕ). over_two w hd (int_val m)) (sym e.1) ∙ two-words busy.stack y x (int z) us q))

  pub add-agrees : op_at p f.place ≡ 19 → Good act (add_op w hd)
  unfolding add_op doing_of doings do_add op_of ops op_arith
  add-agrees e =
      ints-op 19 (λ b x y. result b (x +ℤ y)) (λ x y. result_op w hd (biased x + biased y)) e (taken-by 19 e) (λ b. refl)
      (λ x y us q hx hy. result-good (x +ℤ y) (biased (word32 x) + biased (word32 y)) (int y) (int x) us q
      (sum_shifted x y hx hy))

  pub sub-agrees : op_at p f.place ≡ 20 → Good act (sub_op w hd)
  unfolding sub_op doing_of doings do_sub op_of ops op_arith
  sub-agrees e =
      ints-op 20 (λ b x y. result b (x -ℤ y)) (λ x y. result_op w hd (biased x + 4294967296 - biased y)) e
      (taken-by 20 e) (λ b. refl)
      (λ x y us q hx hy. result-good (x -ℤ y) (biased (word32 x) + 4294967296 - biased (word32 y)) (int y) (int x) us q
      (difference-shifted x y hx hy))

  -- a boolean in place of two ints
  test_good : (b c : Bool) (y x : Value) (us : List Value) → b ≡ c → f.pending ≡ y ∷ x ∷ us
      → Good (pushes (scene 2 (y ∷ x ∷ us)) (bool c)) (after_step WentOn (over_two w hd (bool_val (bit b))))
  unfolding val_of tag_of number_of value_words
  test_good b true y x us e q h =
      ap (after_step WentOn)
      (ap (λ (t : Bool). over_two w hd (bool_val (bit t))) e ∙ two-words busy.stack y x (bool true) us q)
  test_good b false y x us e q h =
      ap (after_step WentOn)
      (ap (λ (t : Bool). over_two w hd (bool_val (bit t))) e ∙ two-words busy.stack y x (bool false) us q)

  pub eq-agrees : op_at p f.place ≡ 21 → Good act (eq_op w hd)
  unfolding eq_op doing_of doings do_eq op_of ops op_compare
  eq-agrees e =
      ints-op 21 (λ b x y. pushes b (bool (eq_z x y))) (λ x y. after_step WentOn
      (over_two w hd (bool_val (bit (eqb x y))))) e
      (taken-by 21 e) (λ b. refl)
      (λ x y us q hx hy. test_good (eqb (word32 x) (word32 y)) (eq_z x y) (int y) (int x) us (words_same x y hx hy) q)

  pub less-agrees : op_at p f.place ≡ 22 → Good act (less_op w hd)
  unfolding less_op doing_of doings do_less op_of ops op_compare
  less-agrees e =
      ints-op 22 (λ b x y. pushes b (bool (lt_z x y)))
      (λ x y. after_step WentOn (over_two w hd (bool_val (bit (ltb (biased x) (biased y)))))) e (taken-by 22 e) (λ b. refl)
      (λ x y us q hx hy. test_good (ltb (biased (word32 x)) (biased (word32 y))) (lt_z x y) (int y) (int x) us
      (less-same x y hx hy) q)

  -- CALL

  -- the method that instruction place belongs to is the frame's
  pub owner-is : owner_of p f.place ≡ f.method
  owner-is =
      inside-owner p busy.stack.kept (record {
        method = busy.stack.sound.0.method;
        from-offset =
            busy.stack.sound.0.from-offset;
        ahead = busy.stack.sound.0.inside;
      })

  any-taken : (vs : List Value) (j : ℕ) → j < length vs
      → any is_empty (take (suc j) vs) ≡ (any is_empty (take j vs) || is_empty (get_or vs j empty))
  any-taken [] j h = absurd (not-suc-le-zero h)
  any-taken (v ∷ vs) zero h = or-false (is_empty v)
    where
      or-false : (b : Bool) → (b || false) ≡ b
      or-false true = refl
      or-false false = refl
  any-taken (v ∷ vs) (suc j) h =
      ap (λ (b : Bool). is_empty v || b) (any-taken vs j (le_of_suc-le-suc h))
      ∙ or_assoc (is_empty v) (any is_empty (take j vs)) (is_empty (get_or vs j empty))
    where
      or_assoc : (x y z : Bool) → (x || (y || z)) ≡ ((x || y) || z)
      or_assoc true y z = refl
      or_assoc false y z = refl

  -- looking through the arguments
  pub empty-args : (n : ℕ) → n ≤ length f.pending → empty_down w (top_at hd 1) n ≡ any is_empty (take n f.pending)
  unfolding empty_down top_at value_at
  empty-args zero h = refl
  empty-args (suc j) h =
      ap₂ ◌||◌ (empty-args j (le_of_suc-le h))
      (ap (λ (i : ℕ). eqb (get_or w i 0) 0) {x = top_at hd 1 - 2 * j} {y = top_at hd (suc j)} (omega arith)
      ∙ ap (λ (v : Val). eqb v.tag 0) (top_read busy.stack j h)
      ∙ tag-test (get_or f.pending j empty))
      ∙ sym (any-taken f.pending j h)

  call-method : op_at p f.place ≡ 12 → params_of p a ≤ 8
  unfolding op_of ops op_call
  call-method e = (busy.stack.kept.rows a (ltb→lt a (methods p) (argument-kept 12 e))).params

  pub call-agrees : op_at p f.place ≡ 12 → Good act (call_op p w hd a)
  unfolding call_op doing_of doings do_call op_of ops op_call
  call-agrees e =
      ⊎_elim (λ t. enough (leb-true n (length f.pending) t))
      (λ t. by (act-short 12 n e (taken-by 12 e) (leb-false n (length f.pending) t)) refl (λ h. tt))
      (decide (leb n (length f.pending)))
    where
      n : ℕ
      n = params_of p a

      starts : Act
      starts =
          goes
          (started p a (reverse (take n f.pending)) ∷ at_place (suc f.place) (with_pending (drop n f.pending) f)
          ∷ fs) [] 0

      room-test : (b : Bool) → ltb (suc (length fs)) 8 ≡ b → n ≤ length f.pending
          → Good (cond b starts (faults 25))
          (cond (leb 8 (suc (length fs))) (after_step FrameBeyond8 w) (after_step WentOn (opened p w hd a n)))
      room-test true t l h =
          ap (λ (b : Bool). cond b (after_step FrameBeyond8 w) (after_step WentOn (opened p w hd a n)))
          (lt-leb 8 (suc (length fs)) (ltb-true (suc (length fs)) 8 t))
          ∙ ap (after_step WentOn) (opened-words busy.stack (ltb-true (suc (length fs)) 8 t) a n (call-method e) l)
      room-test false t l h =
          fault-agrees 25 FrameBeyond8 refl
          (ap (λ (b : Bool). cond b (after_step FrameBeyond8 w) (after_step WentOn (opened p w hd a n)))
          (le-leb 8 (suc (length fs)) (ltb-false (suc (length fs)) 8 t)))

      full-test : (b : Bool) → any is_empty (take n f.pending) ≡ b → n ≤ length f.pending
          → Good (cond b (faults 20) (cond (ltb (suc (length fs)) 8) starts (faults 25)))
          (cond b (after_step Empty w) (cond (leb 8 (suc (length fs))) (after_step FrameBeyond8 w)
          (after_step WentOn (opened p w hd a n))))
      full-test true t l h = (refl, refl)
      full-test false t l h = room-test (ltb (suc (length fs)) 8) refl l h

      enough : n ≤ length f.pending → Good act (call_op p w hd a)
      enough l =
          by
          (act-is 12 n f.pending e (taken-by 12 e) refl
          ∙ ap (λ (b : Bool). cond b
          (cond (any is_empty (take n f.pending)) (faults 20) (cond (ltb (suc (length fs)) 8) starts (faults 25)))
          stuck) (le-leb n (length f.pending) l))
          (ap
          (λ (b : Bool). cond b (after_step Empty w)
          (cond (leb 8 (suc (length fs))) (after_step FrameBeyond8 w) (after_step WentOn (opened p w hd a n))))
          (empty-args n l))
          (full-test (any is_empty (take n f.pending)) refl l)

-- RET, by whether the frame has a caller

returned-none : length (returned 0) ≡ 0
unfolding returned
returned-none = refl

returned-one : (t : ℕ) → eqb t 0 ≡ false → length (returned t) ≡ 1
unfolding returned
returned-one t e = ap (λ (b : Bool). length (cond b [] (t ∷ []))) e

-- a return of vs into the frames fs, from frame f
abbrev Returns : Frame → List Value → List Frame → AfterStep → Type 0
Returns f vs fs d = Height (return_to vs fs) → Agrees (return_to vs fs) (process_words (runs (f ∷ fs))) d

module _ {p : List ℕ} (outcomes : List ℕ) (s : State) {f : Frame} where
  void-return : (fs : List Frame) → Stack p s.config f fs
      → Returns f [] fs
      (cond (eqb (suc (length fs)) 1) (after_step AtLastRet (process_words (runs (f ∷ fs))))
      (after_step WentOn (closed (process_words (runs (f ∷ fs))) (head_in f fs))))
  void-return [] stack h = refl
  void-return (g ∷ gs) stack h =
      ap
      (λ (b : Bool). cond b (after_step AtLastRet (process_words (runs (f ∷ g ∷ gs))))
      (after_step WentOn (closed (process_words (runs (f ∷ g ∷ gs))) (head_in f (g ∷ gs)))))
      (ne_eqb (suc (suc (length gs))) 1 (λ e. omega arith))
      ∙ ap (after_step WentOn) (closed-words stack)

  value-return : (u : Value) (fs : List Frame) → Stack p s.config f fs
      → Returns f (u ∷ []) fs
      (cond (eqb (suc (length fs)) 1) (after_step AtLastRet (process_words (runs (f ∷ fs))))
      (after_step WentOn (handed (closed (process_words (runs (f ∷ fs))) (head_in f fs)) (val_of u))))
  value-return u [] stack h = refl
  value-return u (g ∷ gs) stack h =
      ap
      (λ (b : Bool). cond b (after_step AtLastRet (process_words (runs (f ∷ g ∷ gs))))
      (after_step WentOn (handed (closed (process_words (runs (f ∷ g ∷ gs))) (head_in f (g ∷ gs))) (val_of u))))
      (ne_eqb (suc (suc (length gs))) 1 (λ e. omega arith))
      ∙ ap (after_step WentOn)
      (ap (λ (l : List ℕ). handed l (val_of u)) (closed-words stack)
      ∙ handed-words stack u h)

  pub ret-agrees : {fs : List Frame} (busy : AtWork p s.config f fs) → op_at p f.place ≡ 13
      → Good outcomes s busy (at_frame p outcomes s f fs) (ret_op p (process_words (runs (f ∷ fs))) (head_in f fs))
  unfolding ret_op doing_of doings do_ret op_of ops op_ret
  ret-agrees {fs} busy e =
      ⊎_elim (λ t. void (eqb-true (return_of p f.method) 0 t) t) (λ t. valued t)
      (decide (eqb (return_of p f.method) 0))
    where
      w : List ℕ
      w = process_words (runs (f ∷ fs))

      hd : Head
      hd = head_in f fs

      taken : taken_at p f.place ≡ length (returned (return_of p f.method))
      taken =
          taken-by outcomes s busy 13 e ∙ ap (λ (m : ℕ). length (returned (return_of p m))) (owner-is outcomes s busy)

      none-taken : return_of p f.method ≡ 0 → taken_at p f.place ≡ 0
      none-taken z = taken ∙ ap (λ (t : ℕ). length (returned t)) z ∙ returned-none

      one-taken : eqb (return_of p f.method) 0 ≡ false → taken_at p f.place ≡ 1
      one-taken t = taken ∙ returned-one (return_of p f.method) t

      void : return_of p f.method ≡ 0 → eqb (return_of p f.method) 0 ≡ true
          → Good outcomes s busy (at_frame p outcomes s f fs) (ret_op p w hd)
      void z t =
          by outcomes s busy
          (act-zero outcomes s busy 13 e (none-taken z))
          (ap
          (λ (b : Bool). cond b (cond (eqb (suc (length fs)) 1) (after_step AtLastRet w)
          (after_step WentOn (closed w hd)))
          (unless_empty (value_at w (top_at hd 1)) w
          (cond (eqb (suc (length fs)) 1) (after_step AtLastRet w)
          (after_step WentOn (handed (closed w hd) (value_at w (top_at hd 1))))))) t)
          (void-return fs busy.stack)

      valued : eqb (return_of p f.method) 0 ≡ false → Good outcomes s busy (at_frame p outcomes s f fs) (ret_op p w hd)
      valued t =
          answer-as outcomes s busy (at_frame p outcomes s f fs)
          (ap
          (λ (b : Bool). cond b (cond (eqb (suc (length fs)) 1) (after_step AtLastRet w)
          (after_step WentOn (closed w hd)))
          (unless_empty (value_at w (top_at hd 1)) w
          (cond (eqb (suc (length fs)) 1) (after_step AtLastRet w)
          (after_step WentOn (handed (closed w hd) (value_at w (top_at hd 1))))))) t)
          (top-op outcomes s busy 13
          (λ v. cond (eqb (suc (length fs)) 1) (after_step AtLastRet w) (after_step WentOn (handed (closed w hd) v))) e
          (one-taken t)
          (λ u us q n. value-return u fs busy.stack))

-- one step

-- the ops that reach beyond the process or write a line, and so are left to the caller
abbrev pub is_left : ℕ → Bool
is_left op =
    get_or
    (false ∷ false ∷ false ∷ false ∷ false ∷ false ∷ false ∷ true ∷ true ∷ false ∷ true ∷ true ∷ false ∷ false ∷ true ∷
    true ∷ true ∷ [])
    op
    false

-- what the step of each answers
abbrev pub left_at : ℕ → StepResult
left_at op =
    get_or
    (NotRunning ∷ NotRunning ∷ NotRunning ∷ NotRunning ∷ NotRunning ∷ NotRunning ∷ NotRunning ∷ AtNewQ ∷ AtNewC ∷
    NotRunning ∷ AtGate ∷ AtMeas ∷ NotRunning ∷ NotRunning ∷ AtFork ∷ AtSend ∷ AtRecv ∷ [])
    op
    NotRunning

left-answers : (p w : List ℕ) (h : Head) (op a : ℕ) → is_left op ≡ true → act_op p w h op a ≡ after_step (left_at op) w
unfolding act_op op_functions
left-answers p w h op a =
    by_number (λ (op : ℕ). is_left op ≡ true → act_op p w h op a ≡ after_step (left_at op) w) 17
    (never ▹ never ▹ never ▹ never ▹ never ▹ never ▹ never ▹ (λ t. refl) ▹ (λ t. refl) ▹ never ▹ (λ t. refl) ▹
    (λ t. refl) ▹ never ▹ never ▹ (λ t. refl) ▹ (λ t. refl) ▹ (λ t. refl) ▹ (λ k. never)) op

module _ {p : List ℕ} (outcomes : List ℕ) (s : State) {f : Frame} {fs : List Frame}
    (busy : AtWork p s.config f fs) where
  -- a running process's step is its op's function
  step_is : step_op p (process_words (runs (f ∷ fs)))
      ≡ act_op p (process_words (runs (f ∷ fs))) (head_in f fs) (op_at p f.place) (arg_at p f.place)
  unfolding step_op
  step_is =
      ap
      (λ (h : Head). cond (eqb h.status 1)
      (act_op p (process_words (runs (f ∷ fs))) h (op_at p h.place) (arg_at p h.place))
      (after_step NotRunning (process_words (runs (f ∷ fs)))))
      (head-is busy.stack)

  -- an op that is left answers so
  pub step_left : is_left (op_at p f.place) ≡ true
      → step_op p (process_words (runs (f ∷ fs))) ≡ after_step (left_at (op_at p f.place)) (process_words (runs (f ∷ fs)))
  step_left t =
      step_is ∙ left-answers p (process_words (runs (f ∷ fs))) (head_in f fs) (op_at p f.place) (arg_at p f.place) t

  abbrev OpAgrees : ℕ → Type 0
  OpAgrees op =
      op_at p f.place ≡ op → is_left op ≡ false
      → Good outcomes s busy (at_frame p outcomes s f fs)
      (act_op p (process_words (runs (f ∷ fs))) (head_in f fs) op (arg_at p f.place))

  op-agrees : (op : ℕ) → OpAgrees op
  unfolding act_op op_functions int_op bool_op clear_op op_of ops unlisted
  op-agrees =
      by_number OpAgrees 24
      ((λ e t. absurd (argument-kept outcomes s busy 0 e)) ▹ (λ e t. int-agrees outcomes s busy e) ▹
      (λ e t. bool-agrees outcomes s busy e) ▹ (λ e t. get-agrees outcomes s busy e) ▹
      (λ e t. put-agrees outcomes s busy e) ▹ (λ e t. drop_agrees outcomes s busy e) ▹
      (λ e t. clear-agrees outcomes s busy e) ▹ left ▹ left ▹ (λ e t. end-agrees outcomes s busy e) ▹ left ▹ left ▹
      (λ e t. call-agrees outcomes s busy e) ▹ (λ e t. ret-agrees outcomes s busy e) ▹ left ▹ left ▹ left ▹
      (λ e t. jump-agrees outcomes s busy e) ▹ (λ e t. jfalse-agrees outcomes s busy e) ▹
      (λ e t. add-agrees outcomes s busy e) ▹ (λ e t. sub-agrees outcomes s busy e) ▹
      (λ e t. eq-agrees outcomes s busy e) ▹ (λ e t. less-agrees outcomes s busy e) ▹
      (λ e t. not_agrees outcomes s busy e) ▹ (λ k e t. absurd (argument-kept outcomes s busy _ e)))
    where
      left : {A B : Type 0} → A → true ≡ false → B
      left e t = absurd (true≢false t)

  -- any other op does what the definitions say
  pub step-agrees : is_left (op_at p f.place) ≡ false → Height (at_frame p outcomes s f fs)
      → Agrees (at_frame p outcomes s f fs) (process_words (runs (f ∷ fs))) (step_op p (process_words (runs (f ∷ fs))))
  step-agrees t h =
      subst (Agrees (at_frame p outcomes s f fs) (process_words (runs (f ∷ fs)))) (sym step_is)
      (op-agrees (op_at p f.place) refl t h)
