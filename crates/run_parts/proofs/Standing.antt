-- The readiness that is read from a process's words is the one that its act gives it, what an offer is made of, and
-- that two stands meet where the offers do.
use Prim.Native.Nat.{ℕ, zero, suc, ◌<◌}
use mathlib.Core.Path.{◌≡◌, refl, sym, ◌∙◌, ap, ap₂, subst, subst₂}
use mathlib.Core.Logic.{◌≢◌}
use mathlib.Core.Bool.{Bool, true, false, cond, ◌&&◌, ◌||◌, not, beq}
use mathlib.Core.List.{List, [], ◌∷◌}
use mathlib.Core.Option.{none, some, none-ne-some}
use native.Mathlib.Omega.{arith}
use lib.ListN.{get_or, length, replicate}
use lib.Dec.{eqb}
use borrow.Author.Tests.{eqb-true, eqb-false, ne_eqb}
use Rattle.table.specs.Table.{op_at}
use Rattle.table.specs.Ops.{op_of, ops, op_send, op_recv}
use Rattle.table.specs.Reading.{taken_at}
use Rattle.machine.specs.Value.{qubit, channel, end, Value, empty, int, bool, ref, is_empty}
use Rattle.machine.specs.State.{Frame, State, finished, stopped, at_place, with_pending}
use Rattle.machine.specs.Act.{Offer, sends, receives, Act, idle, stuck, faults, goes, ends, makes, forks, offers, At, do_send, do_recv, doings, doing_of, at_frame}
use Rattle.machine.specs.Entry.{runs, Meeting, joins, offered, meets_with, is_meeting}
use Rattle.machine.proofs.Reachable.{AtWork}
use Rattle.layout.specs.Layout.{padded, value_words, status_words, process_words}
use Rattle.layout.proofs.Frames.{tag_of, number_of}
use Rattle.run_store.specs.declared.values.Val.{Val}
use Rattle.run_store.specs.declared.head.Head.{Head}
use Rattle.run_store.specs.StoreCode.{head_of}
use Rattle.run_store.proofs.Vals.{val_of}
use Rattle.run_values.specs.ValuesCode.{empty_two}
use Rattle.run_values.proofs.Places.{head-is}
use Rattle.run_ops.proofs.Meaning.{w, hd, scene, act, act-one, act-two, act-short, taken-by, tag-test, read-top, read-second}
use Rattle.run_parts.specs.declared.readiness.Readiness.{Readiness}
use Rattle.run_parts.specs.declared.readiness.Readiness.TheVariants.{Idle, Moves, Sends, Receives}
use Rattle.run_parts.specs.ReadinessCode.{send_of, receive_of, readiness_op, either_way, of_one_channel, meets_op}
use Rattle.run_parts.proofs.Alone.{Alone, frame-alone}

-- The readiness of a process with this act. A process that is stuck may stand at anything.
abbrev pub Stands : Act → Readiness → Type 0
Stands idle st = st ≡ Idle
Stands stuck st = Unit {0}
Stands (faults n) st = st ≡ Moves
Stands (goes fs es u) st = st ≡ Moves
Stands ends st = st ≡ Moves
Stands (makes t fs) st = st ≡ Moves
Stands (forks m args fs) st = st ≡ Moves
Stands (offers (sends c d v gs)) st = st ≡ (Sends (val_of (ref (end c d))) (val_of v))
Stands (offers (receives c d gs)) st =
    st ≡ (Receives (val_of (ref (end c d))))

alone-stands : (x : Act) → Alone x → Stands x Moves
alone-stands idle h = absurd h
alone-stands stuck h = tt
alone-stands (faults n) h = refl
alone-stands (goes fs es u) h = refl
alone-stands ends h = refl
alone-stands (makes t fs) h = refl
alone-stands (forks m args fs) h = refl
alone-stands (offers o) h = absurd h

-- What an offer is made of: the operands of SEND or RECV at the frame f, and the frames with them off.
abbrev From : Frame → List Frame → Act → Type 0
From f fs idle = Unit {0}
From f fs stuck = Unit {0}
From f fs (faults n) = Unit {0}
From f fs (goes gs es u) = Unit {0}
From f fs ends = Unit {0}
From f fs (makes t gs) = Unit {0}
From f fs (forks m args gs) = Unit {0}
From f fs (offers (sends c d v gs)) =
    (us : List Value) × (f.pending ≡ v ∷ ref (end c d) ∷ us) × (is_empty v ≡ false) ×
    (gs ≡ at_place (suc f.place) (with_pending us f) ∷ fs)
From f fs (offers (receives c d gs)) =
    (us : List Value) × (f.pending ≡ ref (end c d) ∷ us) × (gs ≡ at_place (suc f.place) (with_pending us f) ∷ fs)

alone-from : (f : Frame) (fs : List Frame) (x : Act) → Alone x → From f fs x
alone-from f fs idle h = tt
alone-from f fs stuck h = tt
alone-from f fs (faults n) h = tt
alone-from f fs (goes gs es u) h = tt
alone-from f fs ends h = tt
alone-from f fs (makes t gs) h = tt
alone-from f fs (forks m args gs) h = tt
alone-from f fs (offers o) h = absurd h

-- a process that is not running

module _ (p : List ℕ) where
  pub stand-over : (w : List ℕ) → ((head_of w).status ≡ 1 → ⊥) → readiness_op p w ≡ Idle
  unfolding readiness_op
  stand-over w h =
      ap (λ (b : Bool). cond b
      (cond (eqb (op_at p (head_of w).place) 15) (send_of w (head_of w))
      (cond (eqb (op_at p (head_of w).place) 16) (receive_of w (head_of w)) Moves))
      Idle)
      (ne_eqb (head_of w).status 1 h)

  pub finished-stand : readiness_op p (process_words (record { status = finished; frames = [] })) ≡ Idle
  unfolding head_of process_words status_words padded
  finished-stand = stand-over (process_words (record { status = finished; frames = [] })) (λ e. omega arith)

  pub stopped-stand : (n : ℕ) (fs : List Frame)
      → readiness_op p (process_words (record { status = stopped n; frames = fs })) ≡ Idle
  unfolding head_of process_words status_words padded
  stopped-stand n fs = stand-over (process_words (record { status = stopped n; frames = fs })) (λ e. omega arith)

  zero-first : (n : ℕ) → ◌≡◌ {A = ℕ} (get_or (replicate n 0) 0 0) 0
  zero-first zero = refl
  zero-first (suc n) = refl

  pub unmade-stand : readiness_op p (replicate 512 0) ≡ Idle
  unfolding head_of
  unmade-stand = stand-over (replicate 512 0) (λ e. omega (arith, zero-first 512))

-- a running process

module _ {p : List ℕ} (outcomes : List ℕ) (s : State) {f : Frame} {fs : List Frame}
    (busy : AtWork p s.config f fs) where
  abbrev words : List ℕ
  words = w outcomes s busy

  abbrev top : Head
  top = hd outcomes s busy

  abbrev does : Act
  does = act outcomes s busy

  abbrev stage : ℕ → List Value → At
  stage = scene outcomes s busy

  abbrev Good : Act → Readiness → Type 0
  Good x st = Stands x st × From f fs x

  by : {x y : Act} {d e : Readiness} → x ≡ y → d ≡ e → Good y e → Good x d
  by q r g = subst₂ Good (sym q) (sym r) g

  -- the readiness by the op at its place
  running : readiness_op p words
      ≡ cond (eqb (op_at p f.place) 15) (send_of words top)
      (cond (eqb (op_at p f.place) 16) (receive_of words top) Moves)
  unfolding readiness_op
  running =
      ap (λ (h : Head). cond (eqb h.status 1)
      (cond (eqb (op_at p h.place) 15) (send_of words h)
      (cond (eqb (op_at p h.place) 16) (receive_of words h) Moves))
      Idle)
      (head-is busy.stack)

  -- too few pending values
  short : (k n : ℕ) (st : Readiness) (vs : List Value) → op_at p f.place ≡ k → taken_at p f.place ≡ n
      → f.pending ≡ vs → length vs < n
      → Good does st
  short k n st vs e t q h =
      by (act-short outcomes s busy k n e t (subst (λ (l : List Value). length l < n) (sym q) h)) refl (tt, tt)

  -- SEND

  sent : (y x : Value) (us : List Value) → f.pending ≡ y ∷ x ∷ us → (b : Bool) → is_empty y ≡ b
      → Good (cond (b || (is_empty x || false)) (faults 20) (do_send (stage 2 (y ∷ x ∷ us))))
      (cond (is_empty x || b) Moves (Sends (val_of x) (val_of y)))
  unfolding do_send
  sent y empty us q true e = (refl, tt)
  sent y (int z) us q true e = (refl, tt)
  sent y (bool b) us q true e = (refl, tt)
  sent y (ref t) us q true e = (refl, tt)
  sent y empty us q false e = (refl, tt)
  sent y (int z) us q false e = (tt, tt)
  sent y (bool b) us q false e = (tt, tt)
  sent y (ref (qubit n)) us q false e = (tt, tt)
  sent y (ref (channel n)) us q false e = (tt, tt)
  sent y (ref (end n r)) us q false e = (refl, (us, q, e, refl))

  read-send : (y x : Value) (us : List Value) → f.pending ≡ y ∷ x ∷ us
      → send_of words top ≡ cond (is_empty x || is_empty y) Moves
      (Sends (val_of x) (val_of y))
  unfolding send_of empty_two
  read-send y x us q =
      ap₂ (λ (u v : Val). cond (eqb u.tag 0 || eqb v.tag 0) Moves
      (Sends u v))
      (read-second outcomes s busy y x us q)
      (read-top outcomes s busy y (x ∷ us) q)
      ∙ ap₂ (λ (b c : Bool). cond (b || c) Moves (Sends (val_of x) (val_of y)))
      (tag-test x) (tag-test y)

  at-send : op_at p f.place ≡ 15 → Good does (send_of words top)
  unfolding doing_of doings op_of ops op_send
  at-send e = go f.pending refl
    where
      taken : taken_at p f.place ≡ 2
      taken = taken-by outcomes s busy 15 e

      go : (vs : List Value) → f.pending ≡ vs → Good does (send_of words top)
      go [] q = short 15 2 (send_of words top) [] e taken q (omega arith)
      go (u ∷ []) q = short 15 2 (send_of words top) (u ∷ []) e taken q (omega arith)
      go (y ∷ x ∷ us) q =
          by (act-two outcomes s busy 15 y x us e taken q) (read-send y x us q) (sent y x us q (is_empty y) refl)

  -- RECV

  received : (u : Value) (us : List Value) → f.pending ≡ u ∷ us
      → Good (cond (is_empty u || false) (faults 20) (do_recv (stage 1 (u ∷ us))))
      (cond (is_empty u) Moves (Receives (val_of u)))
  unfolding do_recv
  received empty us q = (refl, tt)
  received (int z) us q = (tt, tt)
  received (bool b) us q = (tt, tt)
  received (ref (qubit n)) us q = (tt, tt)
  received (ref (channel n)) us q = (tt, tt)
  received (ref (end n r)) us q = (refl, (us, q, refl))

  read-receive : (u : Value) (us : List Value) → f.pending ≡ u ∷ us
      → receive_of words top ≡ cond (is_empty u) Moves
      (Receives (val_of u))
  unfolding receive_of
  read-receive u us q =
      ap (λ (v : Val). cond (eqb v.tag 0) Moves
      (Receives v))
      (read-top outcomes s busy u us q)
      ∙ ap (λ (b : Bool). cond b Moves (Receives (val_of u))) (tag-test u)

  at-receive : op_at p f.place ≡ 16 → Good does (receive_of words top)
  unfolding doing_of doings op_of ops op_recv
  at-receive e = go f.pending refl
    where
      taken : taken_at p f.place ≡ 1
      taken = taken-by outcomes s busy 16 e

      go : (vs : List Value) → f.pending ≡ vs → Good does (receive_of words top)
      go [] q = short 16 1 (receive_of words top) [] e taken q (omega arith)
      go (u ∷ us) q =
          by (act-one outcomes s busy 16 u us e taken q) (read-receive u us q) (received u us q)

  -- any op

  at_op : (b c : Bool) → eqb (op_at p f.place) 15 ≡ b → eqb (op_at p f.place) 16 ≡ c
      → Good does (cond b (send_of words top) (cond c (receive_of words top) Moves))
  at_op true c m n = at-send (eqb-true (op_at p f.place) 15 m)
  at_op false true m n = at-receive (eqb-true (op_at p f.place) 16 n)
  at_op false false m n = (alone-stands does alone, alone-from f fs does alone)
    where
      alone : Alone does
      alone = frame-alone p outcomes s f fs (eqb-false (op_at p f.place) 15 m) (eqb-false (op_at p f.place) 16 n)

  good : Good does (readiness_op p words)
  good = subst (Good does) (sym running) (at_op (eqb (op_at p f.place) 15) (eqb (op_at p f.place) 16) refl refl)

  pub stand-is : Stands (at_frame p outcomes s f fs) (readiness_op p (process_words (runs (f ∷ fs))))
  stand-is = good.0

  pub sends-from : (c : ℕ) (d : Bool) (v : Value) (gs : List Frame)
      → at_frame p outcomes s f fs ≡ offers (sends c d v gs)
      → (us : List Value) × (f.pending ≡ v ∷ ref (end c d) ∷ us) × (is_empty v ≡ false) ×
      (gs ≡ at_place (suc f.place) (with_pending us f) ∷ fs)
  sends-from c d v gs e = subst (From f fs) e good.1

  pub receives-from : (c : ℕ) (d : Bool) (gs : List Frame) → at_frame p outcomes s f fs ≡ offers (receives c d gs)
      → (us : List Value) × (f.pending ≡ ref (end c d) ∷ us) × (gs ≡ at_place (suc f.place) (with_pending us f) ∷ fs)
  receives-from c d gs e = subst (From f fs) e good.1

-- meeting

-- two ends of one channel, by their tags and numbers and as they are offered

never : (b : Bool) (m : Meeting) → false ≡ is_meeting (cond (b && false) (some m) none)
unfolding is_meeting
never true m = refl
never false m = refl

whenever : (b : Bool) (m : Meeting) → b ≡ is_meeting (cond (b && true) (some m) none)
unfolding is_meeting
whenever true m = refl
whenever false m = refl

ends-meet : (c c' : ℕ) (d d' : Bool) (m : Meeting)
    → (eqb (val_of (ref (end c d))).tag 5 && eqb (val_of (ref (end c' d'))).tag 6
    || eqb (val_of (ref (end c d))).tag 6 && eqb (val_of (ref (end c' d'))).tag 5)
    && eqb (val_of (ref (end c d))).number (val_of (ref (end c' d'))).number
    ≡ is_meeting (cond (eqb c c' && beq d (not d')) (some m) none)
unfolding val_of tag_of number_of value_words
ends-meet c c' true true m = never (eqb c c') m
ends-meet c c' true false m = whenever (eqb c c') m
ends-meet c c' false true m = whenever (eqb c c') m
ends-meet c c' false false m = never (eqb c c') m

pub meets-is : (n q : ℕ) (o o' : Offer) (st st' : Readiness) → Stands (offers o) st → Stands (offers o') st'
    → meets_op st st' ≡ is_meeting (joins n o q o')
unfolding meets_op of_one_channel either_way joins is_meeting
meets-is n q (sends c d v gs) (sends c' d' v' gs') st st' h h' = ap₂ meets_op h h'
meets-is n q (sends c d v gs) (receives c' d' gs') st st' h h' =
    ap₂ meets_op h h'
    ∙ ends-meet c c' d d' (record {
      sender = n;
      receiver = q;
      channel = c;
      side = d;
      value = v;
      sender_frames = gs;
      receiver_frames = gs';
    })
meets-is n q (receives c d gs) (sends c' d' v' gs') st st' h h' =
    ap₂ meets_op h h'
    ∙ ends-meet c c' d d' (record {
      sender = q;
      receiver = n;
      channel = c';
      side = d';
      value = v';
      sender_frames = gs';
      receiver_frames = gs;
    })
meets-is n q (receives c d gs) (receives c' d' gs') st st' h h' = ap₂ meets_op h h'

-- nothing meets one that offers nothing
pub meets-idle : (st : Readiness) → meets_op st Idle ≡ false
unfolding meets_op
meets-idle Idle = refl
meets-idle Moves = refl
meets-idle (Sends e v) = refl
meets-idle (Receives e) = refl

pub meets-moves : (st : Readiness) → meets_op st Moves ≡ false
unfolding meets_op
meets-moves Idle = refl
meets-moves Moves = refl
meets-moves (Sends e v) = refl
meets-moves (Receives e) = refl

pub meets-none : (a : Act) (st st' : Readiness) → offered a ≡ none → a ≢ stuck → Stands a st' → meets_op st st' ≡ false
unfolding offered
meets-none idle st st' e n h = ap (meets_op st) h ∙ meets-idle st
meets-none stuck st st' e n h = absurd (n refl)
meets-none (faults f) st st' e n h = ap (meets_op st) h ∙ meets-moves st
meets-none (goes fs es u) st st' e n h = ap (meets_op st) h ∙ meets-moves st
meets-none ends st st' e n h = ap (meets_op st) h ∙ meets-moves st
meets-none (makes t fs) st st' e n h = ap (meets_op st) h ∙ meets-moves st
meets-none (forks m args fs) st st' e n h = ap (meets_op st) h ∙ meets-moves st
meets-none (offers o) st st' e n h = absurd (none-ne-some o (sym e))

-- both together: the offer of process n with whatever process q would do
pub meets-act : (n q : ℕ) (o : Offer) (a : Act) (st st' : Readiness) → Stands (offers o) st → a ≢ stuck → Stands a st'
    → meets_op st st' ≡ is_meeting (meets_with n o q (offered a))
unfolding offered meets_with is_meeting
meets-act n q o idle st st' h s h' = meets-none idle st st' refl s h'
meets-act n q o stuck st st' h s h' = absurd (s refl)
meets-act n q o (faults f) st st' h s h' = meets-none (faults f) st st' refl s h'
meets-act n q o (goes fs es u) st st' h s h' = meets-none (goes fs es u) st st' refl s h'
meets-act n q o ends st st' h s h' = meets-none ends st st' refl s h'
meets-act n q o (makes t fs) st st' h s h' = meets-none (makes t fs) st st' refl s h'
meets-act n q o (forks m args fs) st st' h s h' = meets-none (forks m args fs) st st' refl s h'
meets-act n q o (offers o') st st' h s h' = meets-is n q o o' st st' h h'
