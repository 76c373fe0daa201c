-- A meeting and a FORK on the words of the store leave the layout of the configuration that the definitions leave.
use Prim.Native.Nat.{ℕ, zero, suc, ◌+◌, ◌*◌, ◌-◌, ◌≤◌, ◌<◌}
use mathlib.Core.Path.{◌≡◌, refl, sym, ◌∙◌, ap, subst}
use mathlib.Core.Logic.{◌≢◌}
use mathlib.Core.List.{List, [], ◌∷◌, ◌++◌, reverse}
use native.Mathlib.Omega.{arith}
use lib.ListN.{get_or, set, take, length, replicate, length-append, length-map, length-reverse}
use lib.Seq.{take_all, take-suc, length-take-le, get_or-take, set-append_seam, set-append_left, set-set, drop-set-lt}
use Rattle.lists.specs.Lists.{any, All}
use Rattle.lists.proofs.Tests.{cond_both}
use Rattle.lists.proofs.Any.{All-append, All-take, All-replicate, All-reverse, All-map, All-implies}
use Rattle.table.specs.Table.{methods}
use Rattle.table.proofs.Methods.{inside-offset}
use Rattle.machine.specs.Value.{Thing, Value, empty}
use Rattle.machine.specs.State.{Frame, Process, Config, State, process_at, set_process, started, at_place, with_pending}
use Rattle.machine.specs.Act.{passed_by}
use Rattle.machine.specs.Entry.{lost_with, without, frame_without, frames_without, things_of, runs, joined}
use Rattle.machine.specs.Sound.{ValueSound, FrameSound}
use Rattle.machine.proofs.Reachable.{Stack, stacked, Running}
use Rattle.machine.proofs.Giving.{process-same, process-other, count_set, joined-old, joined-new}
use Rattle.layout.specs.Layout.{process_words, encode}
use Rattle.layout.proofs.RoundTrip.{process-length}
use Rattle.layout.proofs.Frames.{get_d_reverse}
use Rattle.run_store.specs.declared.values.Val.{Val}
use Rattle.run_store.specs.declared.head.Head.{Head}
use Rattle.run_store.specs.StoreCode.{value_at, put_value, head_of, top_at}
use Rattle.run_store.proofs.Vals.{val_of}
use Rattle.run_values.proofs.Places.{head_in, head-is, top_read}
use Rattle.run_parts.specs.PartsCode.{part_at, part_of, with_part}
use Rattle.run_parts.proofs.Encoded.{Laid, laid-set, laid-joined, part-is, part-put, part-unmade, part-joined}
use Rattle.run_giving.specs.GivingCode.{given_words, sent_words, received_words, began_words, arguments_popped}
use Rattle.run_transfer.specs.TransferCode.{met_words, operand_of, arg_handed, args_handed, arg_given, args_given, began_at, arguments_popped_at, forked_words}
use Rattle.run_giving.proofs.Parted.{frames-without-none, frames-without-more, things-more, value-given, value_taken, value-sent, operands-off, began-words, slot-filled, slot-found}

-- the words of a running process fill its part
pub running-long : (p : List ℕ) (c : Config) (f : Frame) (fs : List Frame) → All (FrameSound p c) (f ∷ fs)
    → length fs < 8
    → length (process_words (runs (f ∷ fs))) ≡ 512
running-long p c f fs sound deep =
    process-length p c (runs (f ∷ fs)) (record { status = omega arith; depth = omega arith; frames = sound })

-- one part of the store changed, by what it does to a process's words
pub part-changed : (c : Config) (laid : Laid c) (rest : List ℕ) (n : ℕ) (g : List ℕ → List ℕ) (pr pr' : Process)
    → n < length c.processes
    → process_at c n ≡ pr → g (process_words pr) ≡ process_words pr' → length (process_words pr') ≡ 512
    → with_part (encode c ++ rest) n (g (part_of (encode c ++ rest) n)) ≡ encode (set_process c n pr') ++ rest
part-changed c laid rest n g pr pr' l e q long =
    ap (λ (w : List ℕ). with_part (encode c ++ rest) n (g w)) (part-is c laid rest n l ∙ ap process_words e)
    ∙ ap (with_part (encode c ++ rest) n) q
    ∙ part-put c laid rest n pr' l long

-- the operand of a process that is its argument number j, where it has so many arguments
pub operand_at : {p : List ℕ} {c : Config} {f : Frame} {fs : List Frame} → Stack p c f fs
    → (d : Config) (laid : Laid d) (rest : List ℕ) (n : ℕ) → n < length d.processes → process_at d n ≡ runs (f ∷ fs)
    → (args j : ℕ) → j < args → args ≤ length f.pending
    → operand_of (encode d ++ rest) n (args - j) ≡ val_of (get_or (reverse (take args f.pending)) j empty)
unfolding operand_of
operand_at {f = f} {fs = fs} stack d laid rest n l e args j h enough =
    ap (λ (w : List ℕ). value_at w (top_at (head_of w) (args - j))) (part-is d laid rest n l ∙ ap process_words e)
    ∙ ap (λ (h : Head). value_at (process_words (runs (f ∷ fs))) (top_at h (args - j))) (head-is stack)
    ∙ ap (λ (d : ℕ). value_at (process_words (runs (f ∷ fs))) (top_at (head_in f fs) d)) {x = args - j}
    {y = suc (args - suc j)} (omega (arith, h))
    ∙ top_read stack (args - suc j) (omega (arith, h, enough))
    ∙ ap val_of (sym same)
  where
    same : get_or (reverse (take args f.pending)) j empty ≡ get_or f.pending (args - suc j) empty
    same =
        ap (λ (i : ℕ). get_or (reverse (take args f.pending)) i empty) {x = j}
        {y = length (take args f.pending) - suc (args - suc j)}
        (omega (arith, h, length-take-le args f.pending enough))
        ∙ get_d_reverse (take args f.pending) (args - suc j)
        (omega (arith, h, length-take-le args f.pending enough))
        ∙ get_or-take args f.pending (args - suc j) empty (omega (arith, h))

-- meetings

module _ {p : List ℕ} (outcomes : List ℕ) (s : State) (laid : Laid s.config) (rest : List ℕ)
    (few : s.config.qubits ≤ 32) where
  pub met-store :
      {n r : ℕ} {f : Frame} {fs : List Frame} (sender : Running p s.config n f fs) {g : Frame} {gs : List Frame}
      (receiver : Running p s.config r g gs) → n ≢ r
      → (v x u : Value) (us ws : List Value) → f.pending ≡ v ∷ x ∷ us → g.pending ≡ u ∷ ws
      → (after : All (FrameSound p s.config) (at_place (suc f.place) (with_pending us f) ∷ fs))
      → length
      (process_words (runs (frames_without (things_of (v ∷ [])) (at_place (suc f.place) (with_pending us f) ∷ fs)))) ≡ 512
      → length (process_words (runs (at_place (suc g.place) (with_pending (v ∷ ws) g) ∷ gs))) ≡ 512
      → met_words (encode s.config ++ rest) n r (val_of v)
      ≡ encode (set_process (set_process s.config n
      (runs (frames_without (things_of (v ∷ [])) (at_place (suc f.place) (with_pending us f) ∷ fs)))) r
      (runs (at_place (suc g.place) (with_pending (v ∷ ws) g) ∷ gs))) ++ rest
  unfolding met_words
  met-store {n} {r} {f} {fs} sender {g} {gs} receiver ne v x u us ws q q' after long long' =
      ap (λ (w : List ℕ). with_part w r (received_words (part_of w r) (val_of v)))
      (part-changed s.config laid rest n (λ w. sent_words w (val_of v)) (runs (f ∷ fs)) sender-after sender.made
      sender.stands
      (value-sent outcomes s sender.busy few v x us q after) long)
      ∙ part-changed (set_process s.config n sender-after) (laid-set s.config n sender-after laid long) rest r
      (λ w. received_words w (val_of v)) (runs (g ∷ gs)) receiver-after
      (subst (λ (k : ℕ). r < k) (sym (count_same n sender-after)) receiver.made)
      (process-other s.config n r sender-after (λ i. ne (sym i)) ∙ receiver.stands)
      (value_taken receiver.busy.stack u v ws q') long'
    where
      sender-after : Process
      sender-after = runs (frames_without (things_of (v ∷ [])) (at_place (suc f.place) (with_pending us f) ∷ fs))

      receiver-after : Process
      receiver-after = runs (at_place (suc g.place) (with_pending (v ∷ ws) g) ∷ gs)

      count_same : (n : ℕ) (pr : Process)
          → length (set_process s.config n pr).processes ≡ length s.config.processes
      count_same n pr = count_set s.config n pr

-- FORK

-- frames stay sound when things are given away
value-without : (c : Config) (ts : List Thing) (v : Value) → ValueSound c v → ValueSound c (without ts v)
unfolding without
value-without c ts v h = cond_both (ValueSound c) (any (λ t. lost_with t v) ts) {x = empty} tt h

frame-without : (p : List ℕ) (c : Config) (ts : List Thing) (f : Frame) → FrameSound p c f
    → FrameSound p c (frame_without ts f)
unfolding frame_without
frame-without p c ts f h = record {
  method = h.method;
  from-offset = h.from-offset;
  inside = h.inside;
  width = length-map f.slots (without ts) ∙ h.width;
  height = subst (λ (k : ℕ). k ≤ 8) (sym (length-map f.pending (without ts))) h.height;
  slots =
      All-map (ValueSound c) (without ts) f.slots
      (All-implies (ValueSound c) (λ v. ValueSound c (without ts v)) (value-without c ts) f.slots h.slots);
  pending =
      All-map (ValueSound c) (without ts) f.pending
      (All-implies (ValueSound c) (λ v. ValueSound c (without ts v)) (value-without c ts) f.pending h.pending);
}

frames-sound : (p : List ℕ) (c : Config) (ts : List Thing) (fs : List Frame) → All (FrameSound p c) fs
    → All (FrameSound p c) (frames_without ts fs)
unfolding frames_without
frames-sound p c ts fs a =
    All-map (FrameSound p c) (frame_without ts) fs
    (All-implies (FrameSound p c) (λ f. FrameSound p c (frame_without ts f)) (frame-without p c ts) fs a)

-- words in front of the parts are no part
part-kept : (w : List ℕ) (n x : ℕ) → part_of (set w 0 x) n ≡ part_of w n
unfolding part_of
part-kept w n x = ap (take 512) (drop-set-lt (part_at n) w 0 x (omega arith))

-- the last process changed, and another one
joined-last : (c : Config) (pr pr' : Process) → set_process (joined c pr) (length c.processes) pr' ≡ joined c pr'
unfolding set_process joined
joined-last c pr pr' =
    ap {B = Config} (λ l. record { processes = l; qubits = c.qubits; channels = c.channels })
    (set-append_seam c.processes pr [] pr')

joined-other : (c : Config) (pr : Process) (n : ℕ) (pr' : Process) → n < length c.processes
    → set_process (joined c pr) n pr' ≡ joined (set_process c n pr') pr
unfolding set_process joined
joined-other c pr n pr' l =
    ap {B = Config} (λ l. record { processes = l; qubits = c.qubits; channels = c.channels })
    (set-append_left c.processes (pr ∷ []) n pr' l)

set_twice : (c : Config) (n : ℕ) (pr pr' : Process) → set_process (set_process c n pr) n pr' ≡ set_process c n pr'
unfolding set_process
set_twice c n pr pr' =
    ap {B = Config} (λ l. record { processes = l; qubits = c.qubits; channels = c.channels })
    (set-set c.processes n pr pr')

module _ {p : List ℕ} {c : Config} (laid : Laid c) (rest : List ℕ) {n : ℕ} {f : Frame} {fs : List Frame}
    (live : Running p c n f fs) (free : length c.processes < 8)
    (m : ℕ) (method : m < methods p) (args : ℕ) (enough : args ≤ length f.pending) (few : args ≤ 8)
    (after : All (FrameSound p c) (passed_by args f ∷ fs)) where
  abbrev child : ℕ
  child = length c.processes

  -- the arguments, first to last
  abbrev given : List Value
  given = reverse (take args f.pending)

  given-count : length given ≡ args
  given-count = length-reverse (take args f.pending) ∙ length-take-le args f.pending enough

  given-sound : All (ValueSound c) given
  given-sound =
      All-reverse (ValueSound c) (take args f.pending)
      (All-take (ValueSound c) args f.pending live.busy.stack.sound.0.pending)

  begun-process : ℕ → Process
  begun-process j = runs (started p m (take j given) ∷ [])

  begun-sound : (j : ℕ) → All (FrameSound p c) (started p m (take j given) ∷ [])
  unfolding started
  begun-sound j = (
    record {
      method = method;
      from-offset = omega arith;
      inside = (inside-offset p live.busy.stack.kept m method).ahead;
      width =
          length-take-le 16 (take j given ++ replicate 16 empty)
          (omega (arith, length-append (take j given) (replicate 16 empty)));
      height = omega arith;
      slots =
          All-take (ValueSound c) 16 (take j given ++ replicate 16 empty)
          (All-append (ValueSound c) (take j given) (replicate 16 empty) (All-take (ValueSound c) j given given-sound)
          (All-replicate (ValueSound c) 16 empty tt));
      pending = tt;
    },
    tt,
  )

  begun-long : (j : ℕ) → length (process_words (begun-process j)) ≡ 512
  unfolding begun-process
  begun-long j = running-long p c (started p m (take j given)) [] (begun-sound j) (omega arith)

  -- the store with the child begun, with j arguments handed over
  abbrev with-child : ℕ → Config
  with-child j = joined c (begun-process j)

  child-laid : (j : ℕ) → Laid (with-child j)
  child-laid j = laid-joined c (begun-process j) laid (begun-long j)

  child-counted : (j : ℕ) → child < length (with-child j).processes
  unfolding joined
  child-counted j = omega (arith, length-append c.processes (begun-process j ∷ []))

  parent-counted : (j : ℕ) → n < length (with-child j).processes
  parent-counted j = omega (arith, live.made, child-counted j)

  begun-store : began_at p (set (encode c ++ rest) 0 (child + 1)) child m ≡ encode (with-child 0) ++ rest
  unfolding began_at begun-process
  begun-store =
      ap (λ (w : List ℕ). with_part (set (encode c ++ rest) 0 (child + 1)) child (began_words p w m))
      (part-kept (encode c ++ rest) child (child + 1) ∙ part-unmade c laid rest child (omega arith) free)
      ∙ ap (with_part (set (encode c ++ rest) 0 (child + 1)) child) (began-words p m)
      ∙ part-joined c laid rest (begun-process 0) free (begun-long 0)

  -- the operand that is argument j
  operand_read : (j : ℕ) → j < args
      → operand_of (encode (with-child j) ++ rest) n (args - j) ≡ val_of (get_or given j empty)
  operand_read j h =
      operand_at live.busy.stack (with-child j) (child-laid j) rest n (parent-counted j)
      (joined-old c (begun-process j) n live.made ∙ live.stands) args j h enough

  taken-count : (j : ℕ) → j ≤ args → length (take j given) ≡ j
  taken-count j h = length-take-le j given (omega (arith, given-count))

  one-handed : (j : ℕ) → j < args
      → arg_handed (encode (with-child j) ++ rest) n child args j ≡ encode (with-child (suc j)) ++ rest
  unfolding arg_handed begun-process
  one-handed j h =
      ap
      (λ (v : Val). with_part (encode (with-child j) ++ rest) child
      (put_value (part_of (encode (with-child j) ++ rest) child) (64 + 2 * j) v)) (operand_read j h)
      ∙ part-changed (with-child j) (child-laid j) rest child
      (λ w. put_value w (64 + 2 * j) (val_of (get_or given j empty))) (begun-process j) (begun-process (suc j))
      (child-counted j) (joined-new c (begun-process j)) filled (begun-long (suc j))
      ∙ ap (λ (d : Config). encode d ++ rest) (joined-last c (begun-process j) (begun-process (suc j)))
    where
      filled :
          put_value (process_words (begun-process j)) (64 + 2 * j) (val_of (get_or given j empty)) ≡ process_words
          (begun-process (suc j))
      filled =
          ap (λ (k : ℕ). put_value (process_words (begun-process j)) (64 + 2 * k) (val_of (get_or given j empty)))
          (sym (taken-count j (omega arith)))
          ∙ slot-filled p live.busy.stack.kept c m (take j given) (begun-sound j) (get_or given j empty)
          (omega (arith, few, taken-count j (omega arith)))
          ∙ ap (λ (l : List Value). process_words (runs (started p m l ∷ [])))
          (sym (take-suc given j empty (omega (arith, given-count))))

  all-handed : (j : ℕ) → j ≤ args
      → args_handed (encode (with-child 0) ++ rest) n child args j ≡ encode (with-child j) ++ rest
  unfolding args_handed
  all-handed zero h = refl
  all-handed (suc j) h = ap (λ (w : List ℕ). arg_handed w n child args j) (all-handed j (omega arith)) ∙ one-handed j h

  -- the parent with the first j arguments given away
  parent : ℕ → Process
  parent j = runs (frames_without (things_of (take j given)) (passed_by args f ∷ fs))

  parent-frame : (j : ℕ) → All (FrameSound p c) (frames_without (things_of (take j given)) (passed_by args f ∷ fs))
  parent-frame j = frames-sound p c (things_of (take j given)) (passed_by args f ∷ fs) after

  parent-long : (j : ℕ) → length (process_words (parent j)) ≡ 512
  unfolding parent frames_without
  parent-long j =
      running-long p c (frame_without (things_of (take j given)) (passed_by args f))
      (frames_without (things_of (take j given)) fs) (parent-frame j)
      (subst (λ (k : ℕ). k < 8) (sym (length-map fs (frame_without (things_of (take j given)))))
      live.busy.stack.deep)

  abbrev with-both : ℕ → Config
  with-both j = set_process (with-child args) n (parent j)

  both-laid : (j : ℕ) → Laid (with-both j)
  both-laid j = laid-set (with-child args) n (parent j) (child-laid args) (parent-long j)

  both-count : (j : ℕ) → length (with-both j).processes ≡ length (with-child args).processes
  both-count j = count_set (with-child args) n (parent j)

  popped-store : arguments_popped_at (encode (with-child args) ++ rest) n args ≡ encode (with-both 0) ++ rest
  unfolding arguments_popped_at parent things_of
  popped-store =
      part-changed (with-child args) (child-laid args) rest n (λ w. arguments_popped w args) (runs (f ∷ fs)) (parent 0)
      (parent-counted args)
      (joined-old c (begun-process args) n live.made ∙ live.stands)
      (operands-off live.busy.stack args enough
      ∙ ap (λ (l : List Frame). process_words (runs l)) (sym (frames-without-none (passed_by args f ∷ fs))))
      (parent-long 0)

  apart : child ≢ n
  apart e = absurd (omega (arith, live.made, e))

  child-there : (j : ℕ) → process_at (with-both j) child ≡ begun-process args
  child-there j = process-other (with-child args) n child (parent j) apart ∙ joined-new c (begun-process args)

  -- what the child has in slot j
  slot-there : (j : ℕ) → j < args
      → value_at (part_of (encode (with-both j) ++ rest) child) (64 + 2 * j) ≡ val_of (get_or given j empty)
  unfolding begun-process
  slot-there j h =
      ap (λ (w : List ℕ). value_at w (64 + 2 * j))
      (part-is (with-both j) (both-laid j) rest child
      (subst (λ (k : ℕ). child < k) (sym (both-count j)) (child-counted args))
      ∙ ap process_words (child-there j))
      ∙ slot-found p live.busy.stack.kept c m (take args given) (begun-sound args) j
      (omega (arith, h, taken-count args (omega arith))) (omega (arith, few, taken-count args (omega arith)))
      ∙ ap val_of (get_or-take args given j empty h)

  one-given : (j : ℕ) → j < args
      → arg_given (encode (with-both j) ++ rest) n child j ≡ encode (with-both (suc j)) ++ rest
  unfolding arg_given parent frames_without
  one-given j h =
      ap
      (λ (v : Val). with_part (encode (with-both j) ++ rest) n (given_words (part_of (encode (with-both j) ++ rest) n) v))
      (slot-there j h)
      ∙ part-changed (with-both j) (both-laid j) rest n (λ w. given_words w (val_of (get_or given j empty))) (parent j)
      (parent (suc j))
      (subst (λ (k : ℕ). n < k) (sym (both-count j)) (parent-counted args))
      (process-same (with-child args) n (parent j) (parent-counted args))
      (value-given (stacked live.busy.stack.kept (parent-frame j)
      (subst (λ (k : ℕ). k < 8) (sym (length-map fs (frame_without (things_of (take j given)))))
      live.busy.stack.deep)) (get_or given j empty)
      ∙ ap (λ (l : List Frame). process_words (runs l)) more)
      (parent-long (suc j))
      ∙ ap (λ (d : Config). encode d ++ rest) (set_twice (with-child args) n (parent j) (parent (suc j)))
    where
      more :
          frames_without (things_of (get_or given j empty ∷ []))
          (frames_without (things_of (take j given)) (passed_by args f ∷ fs))
          ≡ frames_without (things_of (take (suc j) given)) (passed_by args f ∷ fs)
      more =
          sym
          (frames-without-more (things_of (take j given)) (things_of (get_or given j empty ∷ [])) (passed_by args f ∷ fs))
          ∙ ap (λ (ts : List Thing). frames_without ts (passed_by args f ∷ fs))
          (sym
          (ap things_of (take-suc given j empty (omega (arith, h, given-count)))
          ∙ things-more (take j given) (get_or given j empty)))

  all-given : (j : ℕ) → j ≤ args → args_given (encode (with-both 0) ++ rest) n child j ≡ encode (with-both j) ++ rest
  unfolding args_given
  all-given zero h = refl
  all-given (suc j) h = ap (λ (w : List ℕ). arg_given w n child j) (all-given j (omega arith)) ∙ one-given j h

  -- the whole FORK
  pub forked-store : forked_words p (encode c ++ rest) n child m args
      ≡ encode
      (joined (set_process c n (runs (frames_without (things_of given) (passed_by args f ∷ fs))))
      (runs (started p m given ∷ []))) ++ rest
  unfolding forked_words parent begun-process
  forked-store =
      ap (λ (w : List ℕ). args_given (arguments_popped_at (args_handed w n child args args) n args) n child args)
      begun-store
      ∙ ap (λ (w : List ℕ). args_given (arguments_popped_at w n args) n child args) (all-handed args (omega arith))
      ∙ ap (λ (w : List ℕ). args_given w n child args) popped-store
      ∙ all-given args (omega arith)
      ∙ ap
      (λ (l : List Value). encode
      (set_process (joined c (runs (started p m l ∷ []))) n (runs (frames_without (things_of l) (passed_by args f ∷ fs))))
      ++ rest)
      (take_all args given (omega (arith, given-count)))
      ∙ ap (λ (d : Config). encode d ++ rest)
      (joined-other c (runs (started p m given ∷ [])) n (runs (frames_without (things_of given) (passed_by args f ∷ fs)))
      live.made)
