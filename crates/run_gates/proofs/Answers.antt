-- The functions of NEWQ, NEWC and GATE do what document 01's ops do: the answer and the words that each leaves agree
-- with what the process at that op would do.
use Prim.Native.Nat.{ℕ, suc, ◌+◌, ◌%◌, ◌≤◌, ◌<◌}
use mathlib.Core.Path.{◌≡◌, refl, sym, ◌∙◌, ap, ap₂, subst, subst₂}
use mathlib.Core.Logic.{⊎_elim}
use mathlib.Core.Bool.{Bool, true, false, cond, ◌||◌}
use mathlib.Core.List.{List, [], ◌∷◌}
use native.Mathlib.Nat.{mod-eq_of_lt, add-mod_right}
use native.Mathlib.Omega.{arith}
use lib.ListN.{length}
use lib.Dec.{eqb, leb, ltb}
use Rattle.lists.specs.Lists.{All}
use Rattle.lists.proofs.Tests.{decide}
use Rattle.table.specs.Table.{op_at}
use Rattle.table.specs.Ops.{op_of, ops, op_new_q, op_new_c, op_gate, gate_qubits}
use Rattle.table.specs.Reading.{taken_at}
use Rattle.machine.specs.Value.{Thing, qubit, channel, end, Value, empty, int, bool, ref, is_empty}
use Rattle.machine.specs.State.{Frame, State, Event, at_place, with_pending, push, gated_two}
use Rattle.machine.specs.Act.{Act, idle, stuck, faults, goes, ends, makes, forks, offers, At, do_new_q, do_new_c, do_gate, do_gate_one, do_gate_two, doings, doing_of, passed_by}
use Rattle.machine.specs.Entry.{runs, making}
use Rattle.machine.specs.Sound.{ValueSound, FrameSound}
use Rattle.machine.proofs.Reachable.{stacked, AtWork}
use Rattle.layout.specs.Layout.{value_words, process_words}
use Rattle.layout.proofs.Frames.{tag_of, number_of}
use Rattle.run_store.specs.declared.values.Val.{Val}
use Rattle.run_store.specs.declared.head.Head.{Head}
use Rattle.run_store.specs.StoreCode.{value_at, top_at, popped}
use Rattle.run_store.proofs.Vals.{val_of}
use Rattle.run_values.specs.ValuesCode.{push_on, drop_top, empty_two}
use Rattle.run_values.proofs.Places.{head_in, push-words, drop-words, drop-to-words}
use Rattle.run_ops.proofs.Meaning.{Height, w, hd, a, scene, act, act-zero, act-one, act-two, act-short, taken-by, tag-test, read-top, read-second}
use Rattle.run_gates.specs.declared.event.EventResult.{EventResult}
use Rattle.run_gates.specs.GatesCode.{AfterEvent, after_event, fault_event, line_event, qubit_at, newq_op, newc_op, drop_two, gate_one, gate_two, gate_op}

-- the answer of an op that does not fault: the outcomes used, and what its line says
abbrev pub event_of : ℕ → Event → EventResult
event_of u e = record { code = 0; used = u; kind = e.kind; a = e.a; b = e.b; c = e.c }

-- What an act within one process that writes one line leaves, as answer and words. No other act agrees with anything.
abbrev pub EventAgrees : Act → List ℕ → AfterEvent → Type 0
EventAgrees idle w d = ⊥
EventAgrees stuck w d = Unit {0}
EventAgrees (faults n) w d = d ≡ after_event (fault_event n) w
EventAgrees (goes fs [] u) w d = ⊥
EventAgrees (goes fs (e ∷ []) u) w d = d ≡ after_event (event_of u e) (process_words (runs fs))
EventAgrees (goes fs (e ∷ f ∷ es) u) w d = ⊥
EventAgrees ends w d = ⊥
EventAgrees (makes t fs) w d = d ≡ after_event (event_of 0 (making t)) (process_words (runs fs))
EventAgrees (forks m args fs) w d = ⊥
EventAgrees (offers o) w d = ⊥

module _ {p : List ℕ} (outcomes : List ℕ) (s : State) {f : Frame} {fs : List Frame} (busy : AtWork p s.config f fs)
    (few : s.config.qubits ≤ 32) where
  abbrev words : List ℕ
  words = w outcomes s busy

  abbrev top : Head
  top = hd outcomes s busy

  abbrev arg : ℕ
  arg = a outcomes s busy

  abbrev does : Act
  does = act outcomes s busy

  abbrev stage : ℕ → List Value → At
  stage = scene outcomes s busy

  abbrev pub Good : Act → AfterEvent → Type 0
  Good x d = Height x → EventAgrees x words d

  pub by : {x y : Act} {d e : AfterEvent} → x ≡ y → d ≡ e → Good y e → Good x d
  by q r g = subst₂ Good (sym q) (sym r) g

  pub as-left : (x : Act) {d e : AfterEvent} → d ≡ e → Good x e → Good x d
  as-left x r g = subst (Good x) (sym r) g

  -- NEWQ and NEWC

  -- a thing made and pushed, or the fault of one too many
  made-line : (t : Thing) (tag kind fault n : ℕ) → val_of (ref t) ≡ record { tag = tag; number = n }
      → event_of 0 (making t) ≡ line_event kind n 65535 65535 → (b : Bool)
      → Good (cond b (makes t (push (ref t) (passed_by 0 f) ∷ fs)) (faults fault))
      (cond b (after_event (line_event kind n 65535 65535) (push_on words top (record { tag = tag; number = n })))
      (after_event (fault_event fault) words))
  unfolding passed_by
  made-line t tag kind fault n v l true h =
      ap₂ after_event (sym l) (ap (push_on words top) (sym v) ∙ push-words busy.stack (ref t) h)
  made-line t tag kind fault n v l false h = refl

  pub newq-event : op_at p f.place ≡ 7 → Good does (newq_op words top s.config.qubits)
  unfolding newq_op doing_of doings do_new_q op_of ops op_new_q passed_by making val_of tag_of number_of value_words
  newq-event e =
      by (act-zero outcomes s busy 7 e (taken-by outcomes s busy 7 e)) refl
      (made-line (qubit s.config.qubits) 3 1 22 s.config.qubits refl refl (ltb s.config.qubits 32))

  pub newc-event : op_at p f.place ≡ 8 → Good does (newc_op words top s.config.channels)
  unfolding newc_op doing_of doings do_new_c op_of ops op_new_c passed_by making val_of tag_of number_of value_words
  newc-event e =
      by (act-zero outcomes s busy 8 e (taken-by outcomes s busy 8 e)) refl
      (made-line (channel s.config.channels) 4 2 21 s.config.channels refl refl (ltb s.config.channels 16))

  -- GATE

  -- a qubit's number fits a line
  pub fits_line : (n : ℕ) → n < s.config.qubits → n % 65536 ≡ n
  fits_line n h = mod-eq_of_lt (omega (arith, few))

  pub pending-sound : (vs : List Value) → f.pending ≡ vs → All (ValueSound s.config) vs
  pending-sound vs q = subst (All (ValueSound s.config)) q busy.stack.sound.0.pending

  -- too few pending values
  short : (k n : ℕ) (d : AfterEvent) (vs : List Value) → op_at p f.place ≡ k → taken_at p f.place ≡ n
      → f.pending ≡ vs → length vs < n
      → Good does d
  short k n d vs e t q h =
      by (act-short outcomes s busy k n e t (subst (λ (l : List Value). length l < n) (sym q) h)) refl (λ h. tt)

  -- an op of one operand, and of two
  pub one-op : (k : ℕ) (d : AfterEvent) → op_at p f.place ≡ k → taken_at p f.place ≡ 1
      → ((u : Value) (us : List Value) → f.pending ≡ u ∷ us → Good
      (cond (is_empty u || false) (faults 20) (doing_of k (stage 1 (u ∷ us)))) d)
      → Good does d
  one-op k d e t g = go f.pending refl
    where
      go : (vs : List Value) → f.pending ≡ vs → Good does d
      go [] q = short k 1 d [] e t q (omega arith)
      go (u ∷ us) q = by (act-one outcomes s busy k u us e t q) refl (g u us q)

  two-op : (k : ℕ) (d : AfterEvent) → op_at p f.place ≡ k → taken_at p f.place ≡ 2
      → ((y x : Value) (us : List Value) → f.pending ≡ y ∷ x ∷ us
      → Good (cond (is_empty y || (is_empty x || false)) (faults 20) (doing_of k (stage 2 (y ∷ x ∷ us)))) d)
      → Good does d
  two-op k d e t g = go f.pending refl
    where
      go : (vs : List Value) → f.pending ≡ vs → Good does d
      go [] q = short k 2 d [] e t q (omega arith)
      go (u ∷ []) q = short k 2 d (u ∷ []) e t q (omega arith)
      go (y ∷ x ∷ us) q = by (act-two outcomes s busy k y x us e t q) refl (g y x us q)

  -- on one qubit

  pub read_one : (u : Value) (us : List Value) (k : ℕ → AfterEvent) → f.pending ≡ u ∷ us
      → cond (eqb (value_at words (top_at top 1)).tag 0) (after_event (fault_event 20) words) (k (qubit_at words top 1))
      ≡ cond (is_empty u) (after_event (fault_event 20) words) (k ((val_of u).number % 65536))
  read_one u us k q =
      ap (λ (v : Val). cond (eqb v.tag 0) (after_event (fault_event 20) words) (k (v.number % 65536)))
      (read-top outcomes s busy u us q)
      ∙ ap (λ (b : Bool). cond b (after_event (fault_event 20) words) (k ((val_of u).number % 65536))) (tag-test u)

  on_one : (u : Value) (us : List Value) → f.pending ≡ u ∷ us
      → Good (cond (is_empty u || false) (faults 20) (do_gate_one (stage 1 (u ∷ us))))
      (cond (is_empty u) (after_event (fault_event 20) words)
      (after_event (line_event 3 arg ((val_of u).number % 65536) 65535) (drop_top words top)))
  unfolding do_gate_one val_of number_of value_words
  on_one empty us q h = refl
  on_one (int z) us q h = tt
  on_one (bool b) us q h = tt
  on_one (ref (qubit n)) us q h =
      ap₂ (λ (m : ℕ) (l : List ℕ). after_event (line_event 3 arg m 65535) l)
      (fits_line n (pending-sound (ref (qubit n) ∷ us) q).0)
      (drop-words busy.stack (ref (qubit n)) us q)
  on_one (ref (channel n)) us q h = tt
  on_one (ref (end n r)) us q h = tt

  -- on two

  pub dropped-two : (y x : Value) (us : List Value) → f.pending ≡ y ∷ x ∷ us
      → drop_two words top ≡ process_words (runs (at_place (suc f.place) (with_pending us f) ∷ fs))
  unfolding drop_two popped
  dropped-two y x us q =
      ap₂ drop_top (drop-to-words busy.stack y (x ∷ us) f.place q) head-one
      ∙ drop-words (stacked busy.stack.kept sound-one busy.stack.deep) x us refl
    where
      g : Frame
      g = at_place f.place (with_pending (x ∷ us) f)

      sound-one : All (FrameSound p s.config) (g ∷ fs)
      sound-one = (
        record {
          method = busy.stack.sound.0.method;
          from-offset = busy.stack.sound.0.from-offset;
          inside = busy.stack.sound.0.inside;
          width = busy.stack.sound.0.width;
          height = omega (arith, busy.stack.sound.0.height, ap length q);
          slots = busy.stack.sound.0.slots;
          pending = (pending-sound (y ∷ x ∷ us) q).1;
        },
        busy.stack.sound.1,
      )

      fewer : (length f.pending + 4294967295) % 4294967296 ≡ length (x ∷ us)
      fewer =
          ap (λ (n : ℕ). n % 4294967296) (omega (arith, ap length q))
          ∙ add-mod_right (length (x ∷ us)) 4294967296
          ∙ mod-eq_of_lt (omega (arith, busy.stack.sound.0.height, ap length q))

      head-one : popped top ≡ head_in g fs
      head-one = λ i. record {
        status = 1;
        fault = 0;
        frames = suc (length fs);
        method = f.method;
        place = f.place;
        pending = fewer i;
      }

  read-two : (y x : Value) (us : List Value) → f.pending ≡ y ∷ x ∷ us
      → gate_two words top arg
      ≡ cond (is_empty x || is_empty y) (after_event (fault_event 20) words)
      (cond (eqb ((val_of x).number % 65536) ((val_of y).number % 65536)) (after_event (fault_event 27) words)
      (after_event (line_event 3 arg ((val_of x).number % 65536) ((val_of y).number % 65536)) (drop_two words top)))
  unfolding gate_two empty_two
  read-two y x us q =
      ap₂
      (λ (u v : Val). cond (eqb u.tag 0 || eqb v.tag 0) (after_event (fault_event 20) words)
      (cond (eqb (u.number % 65536) (v.number % 65536)) (after_event (fault_event 27) words)
      (after_event (line_event 3 arg (u.number % 65536) (v.number % 65536)) (drop_two words top))))
      (read-second outcomes s busy y x us q)
      (read-top outcomes s busy y (x ∷ us) q)
      ∙ ap₂
      (λ (b c : Bool). cond (b || c) (after_event (fault_event 20) words)
      (cond (eqb ((val_of x).number % 65536) ((val_of y).number % 65536)) (after_event (fault_event 27) words)
      (after_event (line_event 3 arg ((val_of x).number % 65536) ((val_of y).number % 65536)) (drop_two words top))))
      (tag-test x) (tag-test y)

  -- two qubits, the deeper first
  on-qubits : (n m : ℕ) (us : List Value) → f.pending ≡ ref (qubit n) ∷ ref (qubit m) ∷ us
      → Good
      (cond (eqb m n) (faults 27) (goes (at_place (suc f.place) (with_pending us f) ∷ fs) (gated_two arg m n ∷ []) 0))
      (cond (eqb (m % 65536) (n % 65536)) (after_event (fault_event 27) words)
      (after_event (line_event 3 arg (m % 65536) (n % 65536)) (drop_two words top)))
  on-qubits n m us q =
      as-left
      (cond (eqb m n) (faults 27) (goes (at_place (suc f.place) (with_pending us f) ∷ fs) (gated_two arg m n ∷ []) 0))
      (ap₂ (λ (x y : ℕ). cond (eqb x y) (after_event (fault_event 27) words)
      (after_event (line_event 3 arg x y) (drop_two words top)))
      (fits_line m fine.1.0) (fits_line n fine.0))
      (same (eqb m n))
    where
      fine : All (ValueSound s.config) (ref (qubit n) ∷ ref (qubit m) ∷ us)
      fine = pending-sound (ref (qubit n) ∷ ref (qubit m) ∷ us) q

      same : (b : Bool)
          → Good
          (cond b (faults 27) (goes (at_place (suc f.place) (with_pending us f) ∷ fs) (gated_two arg m n ∷ []) 0))
          (cond b (after_event (fault_event 27) words) (after_event (line_event 3 arg m n) (drop_two words top)))
      same true h = refl
      same false h = ap (after_event (line_event 3 arg m n)) (dropped-two (ref (qubit n)) (ref (qubit m)) us q)

  on-two : (y x : Value) (us : List Value) → f.pending ≡ y ∷ x ∷ us
      → Good (cond (is_empty y || (is_empty x || false)) (faults 20) (do_gate_two (stage 2 (y ∷ x ∷ us))))
      (cond (is_empty x || is_empty y) (after_event (fault_event 20) words)
      (cond (eqb ((val_of x).number % 65536) ((val_of y).number % 65536)) (after_event (fault_event 27) words)
      (after_event (line_event 3 arg ((val_of x).number % 65536) ((val_of y).number % 65536)) (drop_two words top))))
  unfolding do_gate_two val_of number_of value_words
  on-two empty empty us q h = refl
  on-two empty (int z) us q h = refl
  on-two empty (bool b) us q h = refl
  on-two empty (ref t) us q h = refl
  on-two (int y) empty us q h = refl
  on-two (int y) (int z) us q h = tt
  on-two (int y) (bool b) us q h = tt
  on-two (int y) (ref (qubit n)) us q h = tt
  on-two (int y) (ref (channel n)) us q h = tt
  on-two (int y) (ref (end n r)) us q h = tt
  on-two (bool c) empty us q h = refl
  on-two (bool c) (int z) us q h = tt
  on-two (bool c) (bool b) us q h = tt
  on-two (bool c) (ref (qubit n)) us q h = tt
  on-two (bool c) (ref (channel n)) us q h = tt
  on-two (bool c) (ref (end n r)) us q h = tt
  on-two (ref t) empty us q h = refl
  on-two (ref t) (int z) us q h = tt
  on-two (ref t) (bool b) us q h = tt
  on-two (ref t) (ref (channel m)) us q h = tt
  on-two (ref t) (ref (end m r)) us q h = tt
  on-two (ref (qubit n)) (ref (qubit m)) us q h = on-qubits n m us q h
  on-two (ref (channel n)) (ref (qubit m)) us q h = tt
  on-two (ref (end n r)) (ref (qubit m)) us q h = tt

  pub gate-event : op_at p f.place ≡ 10 → Good does (gate_op words top arg)
  unfolding gate_op gate_one doing_of doings do_gate op_of ops op_gate gate_qubits
  gate-event e = ⊎_elim single double (decide (leb arg 5))
    where
      taken : taken_at p f.place ≡ cond (leb arg 5) 1 2
      taken = taken-by outcomes s busy 10 e

      single : leb arg 5 ≡ true → Good does (cond (leb arg 5) (gate_one words top arg) (gate_two words top arg))
      single t =
          one-op 10 (cond (leb arg 5) (gate_one words top arg) (gate_two words top arg)) e
          (taken ∙ ap (λ (b : Bool). cond b 1 2) t)
          (λ u us q.
          by
          (ap
          (λ (b : Bool). cond (is_empty u || false) (faults 20)
          (cond b (do_gate_one (stage 1 (u ∷ us))) (do_gate_two (stage 1 (u ∷ us))))) t)
          (ap (λ (b : Bool). cond b (gate_one words top arg) (gate_two words top arg)) t
          ∙ read_one u us (λ n. after_event (line_event 3 arg n 65535) (drop_top words top)) q)
          (on_one u us q))

      double : leb arg 5 ≡ false → Good does (cond (leb arg 5) (gate_one words top arg) (gate_two words top arg))
      double t =
          two-op 10 (cond (leb arg 5) (gate_one words top arg) (gate_two words top arg)) e
          (taken ∙ ap (λ (b : Bool). cond b 1 2) t)
          (λ y x us q.
          by
          (ap
          (λ (b : Bool). cond (is_empty y || (is_empty x || false)) (faults 20)
          (cond b (do_gate_one (stage 2 (y ∷ x ∷ us))) (do_gate_two (stage 2 (y ∷ x ∷ us))))) t)
          (ap (λ (b : Bool). cond b (gate_one words top arg) (gate_two words top arg)) t ∙ read-two y x us q)
          (on-two y x us q))
