-- FORK: what the code leaves in trace and store is the definitions' effect, where its lines fit.
use Prim.Native.Nat.{ℕ, suc, ◌+◌, ◌≤◌, ◌<◌}
use mathlib.Core.Path.{◌≡◌, refl, sym, ◌∙◌, ap, ap₂}
use mathlib.Core.Logic.{◌≢◌, inl}
use mathlib.Core.Bool.{Bool, true, false, cond, not}
use mathlib.Core.List.{List, [], ◌∷◌, ◌++◌, map, reverse, append_assoc}
use native.Mathlib.Omega.{arith}
use lib.ListN.{get_or, take, length, length-append, length-map, length-reverse}
use lib.Seq.{take_all, length-take-le}
use lib.Dec.{leb, ltb, ltb→lt}
use borrow.Author.Tests.{le-leb, lt-leb, leb-true, ltb-true, ltb-false}
use Rattle.lists.specs.Lists.{any, All}
use Rattle.table.specs.Table.{methods, params_of, op_at, arg_at}
use Rattle.table.specs.Ops.{op_of, ops, op_fork}
use Rattle.machine.specs.Value.{Value, is_empty}
use Rattle.machine.specs.State.{Frame, Process, Config, Line, State, line_of, forked, gave}
use Rattle.machine.specs.Act.{Act, stuck, faults, forks, doings, doing_of, do_fork, passed_by, at_frames, by_status, act_of}
use Rattle.machine.specs.Entry.{Effect, runs, things_of, forking, applied, applied_in, forking_in}
use Rattle.machine.specs.Run.{fits}
use Rattle.machine.specs.Answer.{trace_after}
use Rattle.machine.specs.Sound.{IsFault, FrameSound}
use Rattle.machine.proofs.Reachable.{Reachable, Running}
use Rattle.machine.proofs.Typing.{Fits, Frames}
use Rattle.machine.proofs.Standing.{act-typed}
use Rattle.machine.proofs.Sound.{frame-sound, callers-sound}
use Rattle.layout.specs.Layout.{process_words, encode}
use Rattle.run_store.specs.declared.head.Head.{Head}
use Rattle.run_store.specs.StoreCode.{head_of, top_at, empty_down}
use Rattle.run_values.proofs.Places.{head-is}
use Rattle.run_ops.proofs.Meaning.{act-is, taken-by, argument-kept, empty-args}
use Rattle.trace_lines.proofs.LineWritten as written
use Rattle.run_parts.specs.PartsCode.{part_of}
use Rattle.run_parts.proofs.Encoded.{processes-word}
use Rattle.run_transfer.specs.TransferCode.{forked_words}
use Rattle.run_transfer.specs.ForkLinesCode.{Gifts, gifts, things_in, gifts_added}
use Rattle.run_transfer.proofs.Stored.{forked-store}
use Rattle.run_transfer.proofs.Lines.{gift_lines, things-counted, gifts-written}
use Rattle.run_ability.specs.ReadsCode.{argument_in, empty_in}
use Rattle.run_single.specs.ResultCode.{AfterEntry, after_entry}
use Rattle.run_single.specs.declared.result.EntryResult.TheVariants.{Taken}
use Rattle.run_single.specs.SingleCode.{single_op}
use Rattle.run_transfer.specs.ForkLinesCode.{fork_written}
use Rattle.run_events.specs.declared.conclude.Single.TheVariants.{Fault}
use Rattle.run_entry.specs.ForkCode.{fork_done, start_op, try_op, fork_op}
use Rattle.run_single.proofs.Here.{Here}
use Rattle.run_single.proofs.Singly.{sound, laid, count, took, full, tried, part-now, fault-law}

module _ {p outcomes : List ℕ} {s : State} {t0 : List ℕ} {room : ℕ} (here : Here p outcomes s t0 room)
    (rest : List ℕ) (k n : ℕ)
    {f : Frame} {fs : List Frame} (live : Running p s.config n f fs) where
  abbrev reached : Reachable p outcomes s
  reached = here.reached

  abbrev c : Config
  c = s.config

  abbrev store : List ℕ
  store = encode c ++ rest

  abbrev lines : List ℕ
  lines = trace_after s.lines t0

  abbrev m : ℕ
  m = arg_at p f.place

  abbrev tries : Effect → AfterEntry
  tries = tried here rest k n

  abbrev full_now : AfterEntry
  full_now = full here rest k n

  abbrev takes : Effect → AfterEntry
  takes = took here rest k n

  abbrev given : ℕ → List Value
  given args = reverse (take args f.pending)

  -- the child started, where its lines fit
  module _ (method : m < methods p) (args : ℕ) (enough : args ≤ length f.pending) (few : args ≤ 8)
      (free : length c.processes < 8)
      (after : All (FrameSound p c) (passed_by args f ∷ fs)) where
    abbrev effect : Effect
    effect = forking p outcomes k s n m (given args) (passed_by args f ∷ fs)

    given-count : length (given args) ≡ args
    given-count = length-reverse (take args f.pending) ∙ length-take-le args f.pending enough

    given-all : take args (given args) ≡ given args
    given-all = take_all args (given args) (omega (arith, given-count))

    things : things_in store n args args ≡ length (things_of (given args))
    things =
        things-counted (laid here rest k n) rest live
        (sound here rest k n).qubit_count
        (sound here rest k n).channel_count args enough args (omega arith)
        ∙ ap (λ (l : List Value). length (things_of l)) given-all

    -- its lines
    first : Line
    first = line_of k n (forked (length c.processes) m args)

    new-lines : effect.lines ≡ first ∷ gift_lines k n (length c.processes) (given args)
    unfolding forking_in first
    new-lines =
        ap {B = List Line}
        (λ (i : ℕ). line_of k n (forked (length c.processes) m i) ∷ gift_lines k n (length c.processes)
        (given args))
        given-count

    lines_long : length effect.lines ≡ suc (length (things_of (given args)))
    lines_long =
        ap length new-lines
        ∙ ap suc
        (length-map (map (gave (length c.processes)) (things_of (given args))) (line_of k n)
        ∙ length-map (things_of (given args)) (gave (length c.processes)))

    lines-written : length s.lines + suc (length (things_of (given args))) ≤ room
        → fork_written lines store (length s.lines) k n (length c.processes) m args
        ≡ gifts (length (s.lines ++ effect.lines)) (trace_after (s.lines ++ effect.lines) t0)
    unfolding fork_written first
    lines-written h =
        ap₂ (λ (i : ℕ) (w : List ℕ). gifts_added (gifts i w) store k n (length c.processes) args args)
        (sym (length-append s.lines (first ∷ [])))
        (written.line-written s.lines t0 first (omega (arith, here.holds, h)))
        ∙ gifts-written (laid here rest k n) rest live
        (sound here rest k n).qubit_count
        (sound here rest k n).channel_count args enough
        (s.lines ++ (first ∷ [])) t0 k (length c.processes) args (omega arith)
        (omega (
          arith,
          here.holds,
          h,
          length-append s.lines (first ∷ []),
          ap (λ (l : List Value). length (things_of l))
              given-all,
        ))
        ∙ ap (λ (l : List Line). gifts (length l) (trace_after l t0))
        (ap (λ (l : List Value). (s.lines ++ (first ∷ [])) ++ gift_lines k n (length c.processes) l) given-all
        ∙ append_assoc s.lines (first ∷ []) (gift_lines k n (length c.processes) (given args))
        ∙ ap (λ (l : List Line). s.lines ++ l) (sym new-lines))

    store_is : forked_words p store n (length c.processes) m args ≡ encode effect.config ++ rest
    unfolding forking_in
    store_is =
        forked-store (laid here rest k n) rest live free m method args enough few after

    start-law : start_op p lines store room (count here rest k n) n (length c.processes) m args ≡ tries effect
    unfolding start_op fork_done fits forking_in
    start-law =
        ap (λ (i : ℕ). cond (ltb room (length s.lines + 1 + i)) full_now done) things
        ∙ go (ltb room (length s.lines + 1 + length (things_of (given args)))) refl
      where
        done : AfterEntry
        done = fork_done p store (count here rest k n)
            (fork_written lines store (length s.lines) k n (length c.processes) m args) n (length c.processes) m
            args

        go : (b : Bool) → ltb room (length s.lines + 1 + length (things_of (given args))) ≡ b
            → cond b full_now done ≡ cond (leb (length s.lines + length effect.lines) room) (takes effect) full_now
        go true h =
            sym (ap (λ (b : Bool). cond b (takes effect) full_now)
            (lt-leb (length s.lines + length effect.lines) room
            (omega (arith, ltb-true room (length s.lines + 1 + length (things_of (given args))) h, lines_long))))
        go false h =
            ap₂ (λ (g : Gifts) (w : List ℕ). after_entry (Taken g.next s.used) g.words w)
            (lines-written (omega (arith, ltb-false room (length s.lines + 1 + length (things_of (given args))) h)))
            store_is
            ∙ ap
            (λ (u : ℕ). after_entry (Taken (length (s.lines ++ effect.lines)) u)
            (trace_after (s.lines ++ effect.lines) t0) (encode effect.config ++ rest))
            {x = s.used} {y = s.used + 0} (omega arith)
            ∙ sym (ap (λ (b : Bool). cond b (takes effect) full_now)
            (le-leb (length s.lines + length effect.lines) room
            (omega (arith, ltb-false room (length s.lines + 1 + length (things_of (given args))) h, lines_long))))

  -- the whole entry

  abbrev params : ℕ
  params = params_of p m

  act : Act
  act = act_of p outcomes s n

  -- what the process would do
  forking-act : op_at p f.place ≡ 14
      → act_of p outcomes s n
      ≡ cond (leb params (length f.pending)) (cond (any is_empty (take params f.pending)) (faults 20)
      (cond (ltb (length c.processes) 8) (forks m (given params) (passed_by params f ∷ fs)) (faults 23))) stuck
  unfolding act_of by_status at_frames doing_of doings do_fork op_of ops op_fork passed_by
  forking-act e =
      ap (λ (pr : Process). by_status pr.status (at_frames p outcomes s pr.frames)) live.stands
      ∙ act-is outcomes s live.busy 14 params f.pending e
      (taken-by outcomes s live.busy 14 e) refl

  method-there : op_at p f.place ≡ 14 → m < methods p
  unfolding op_of ops op_fork
  method-there e = ltb→lt m (methods p) (argument-kept outcomes s live.busy 14 e)

  -- what the code reads
  reads-method : argument_in p (part_of store n) ≡ m
  unfolding argument_in
  reads-method =
      ap (λ (w : List ℕ). arg_at p (head_of w).place) (part-now here rest k n live)
      ∙ ap (λ (h : Head). arg_at p h.place) (head-is live.busy.stack)

  reads-empty : params ≤ length f.pending → empty_in (part_of store n) params ≡ any is_empty (take params f.pending)
  unfolding empty_in
  reads-empty h =
      ap (λ (w : List ℕ). empty_down w (top_at (head_of w) 1) params) (part-now here rest k n live)
      ∙ ap (λ (h : Head). empty_down (process_words (runs (f ∷ fs))) (top_at h 1) params) (head-is live.busy.stack)
      ∙ empty-args outcomes s live.busy params h

  -- the frames that go on are sound
  goes-sound : act_of p outcomes s n ≡ forks m (given params) (passed_by params f ∷ fs)
      → All (FrameSound p c) (passed_by params f ∷ fs)
  goes-sound e =
      let typed-after : Frames p (Fits reached.kinds c.qubits) [] (passed_by params f ∷ fs) =
      (rw e at (act-typed p reached.kept outcomes reached.bytes s reached.kinds reached.typed n)).3 in (
        frame-sound p reached.kept reached.kinds c reached.typed [] (passed_by params f)
            typed-after.stack.0,
        callers-sound p reached.kept reached.kinds c reached.typed (passed_by params f).method fs
            typed-after.stack.1,
      )

  -- what an entry at FORK leaves
  pub fork-law : op_at p f.place ≡ 14 → act_of p outcomes s n ≢ stuck
      → fork_op p outcomes lines store room (count here rest k n) n ≡ tries
      (applied p outcomes k s n (act_of p outcomes s n))
  unfolding fork_op try_op applied_in
  fork-law e going =
      ap (λ (i : ℕ). try_op p outcomes lines store room (count here rest k n) n i (params_of p i)) reads-method
      ∙ enough (leb params (length f.pending)) refl
    where
      left : AfterEntry
      left = try_op p outcomes lines store room (count here rest k n) n m params

      doing : (b x y : Bool) → leb params (length f.pending) ≡ b → any is_empty (take params f.pending) ≡ x
          → ltb (length c.processes) 8 ≡ y
          → act_of p outcomes s n ≡ cond b
          (cond x (faults 20) (cond y (forks m (given params) (passed_by params f ∷ fs)) (faults 23))) stuck
      doing b x y i j l =
          forking-act e
          ∙ (λ t. cond (i t)
          (cond (j t) (faults 20) (cond (l t) (forks m (given params) (passed_by params f ∷ fs)) (faults 23))) stuck)

      stopped_by : (x : ℕ) → IsFault x → act_of p outcomes s n ≡ faults x
          → single_op p outcomes lines store room (count here rest k n) n (Fault x) ≡ tries
          (applied p outcomes k s n (act_of p outcomes s n))
      stopped_by x listed i =
          fault-law here rest k n live x listed
          ∙ ap (λ (a : Act). tries (applied p outcomes k s n a)) (sym i)

      free : (x y : Bool) → leb params (length f.pending) ≡ true → any is_empty (take params f.pending) ≡ x
          → ltb (length c.processes) 8 ≡ y
          → cond x (single_op p outcomes lines store room (count here rest k n) n (Fault 20))
          (cond (not y) (single_op p outcomes lines store room (count here rest k n) n (Fault 23))
          (start_op p lines store room (count here rest k n) n (length c.processes) m params))
          ≡ tries (applied p outcomes k s n (act_of p outcomes s n))
      free true y i j l = stopped_by 20 (inl (omega arith, omega arith)) (doing true true y i j l)
      free false false i j l = stopped_by 23 (inl (omega arith, omega arith)) (doing true false false i j l)
      free false true i j l =
          start-law (method-there e) params (leb-true params (length f.pending) i)
          (reached.kept.rows m (method-there e)).params (ltb-true (length c.processes) 8 l)
          (goes-sound (doing true false true i j l))
          ∙ ap (λ (a : Act). tries (applied p outcomes k s n a)) (sym (doing true false true i j l))

      full-house : (y : Bool) → ltb (length c.processes) 8 ≡ y → leb 8 (get_or store 0 0) ≡ not y
      full-house true l =
          ap (leb 8) (processes-word c rest) ∙ lt-leb 8 (length c.processes) (ltb-true (length c.processes) 8 l)
      full-house false l =
          ap (leb 8) (processes-word c rest) ∙ le-leb 8 (length c.processes) (ltb-false (length c.processes) 8 l)

      enough : (b : Bool) → leb params (length f.pending) ≡ b
          → left ≡ tries (applied p outcomes k s n (act_of p outcomes s n))
      enough true i =
          (λ t. cond (reads-empty (leb-true params (length f.pending) i) t)
          (single_op p outcomes lines store room (count here rest k n) n (Fault 20))
          (cond (full-house (ltb (length c.processes) 8) refl t)
          (single_op p outcomes lines store room (count here rest k n) n (Fault 23))
          (start_op p lines store room (count here rest k n) n (processes-word c rest t) m params)))
          ∙ free (any is_empty (take params f.pending)) (ltb (length c.processes) 8) i refl refl
      enough false i =
          absurd
          (going (doing false (any is_empty (take params f.pending)) (ltb (length c.processes) 8) i refl refl))
