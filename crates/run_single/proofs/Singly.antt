-- The entries with one line: what the code leaves in trace and store is the definitions' effect, where its line fits.
use Prim.Native.Nat.{ℕ, ◌+◌, ◌%◌, ◌≤◌, ◌<◌}
use mathlib.Core.Path.{◌≡◌, refl, sym, ◌∙◌, ap, ap₂, subst}
use mathlib.Core.Logic.{◌≢◌, inl, inr}
use mathlib.Core.Bool.{Bool, true, false, cond}
use mathlib.Core.List.{List, [], ◌∷◌, ◌++◌}
use native.Mathlib.Nat.{mod-eq_of_lt}
use native.Mathlib.Omega.{arith}
use lib.ListN.{get_or, set, length, length-append}
use lib.Dec.{leb}
use borrow.Author.Tests.{ne_eqb, le-leb, lt-leb, leb-true, leb-false}
use Rattle.lists.specs.Lists.{All}
use Rattle.lists.proofs.Any.{All-get_d}
use Rattle.machine.specs.Value.{Thing, qubit, channel, end}
use Rattle.machine.specs.State.{Frame, finished, stopped, Process, Config, Line, State, Event, process_at, set_process, unmade, line_of, finishes, stops}
use Rattle.machine.specs.Act.{Act, faults, goes, ends, makes, act_of}
use Rattle.machine.specs.Entry.{judged, Effect, runs, counted, making, applied, effect_of, applied_in, effect_in}
use Rattle.machine.specs.Run.{fits}
use Rattle.machine.specs.Answer.{trace_after}
use Rattle.machine.specs.Sound.{IsFault, FrameSound, ConfigSound}
use Rattle.machine.proofs.Reachable.{Reachable, Running}
use Rattle.machine.proofs.Typing.{Typed}
use Rattle.machine.proofs.Effects.{effect-typed}
use Rattle.machine.proofs.Sound.{config-sound}
use Rattle.machine.proofs.Giving.{process-same}
use Rattle.layout.specs.Layout.{process_words, encode}
use Rattle.layout.proofs.RoundTrip.{process-length}
use Rattle.trace_lines.specs.WrittenCode.{with_line}
use Rattle.trace_lines.proofs.LineWritten as written
use Rattle.run_parts.specs.PartsCode.{part_of}
use Rattle.run_parts.proofs.Encoded.{Laid, laid-sound, part-is, part-put, qubits-word, channels-word, qubit-counted, channel-counted}
use Rattle.run_gates.specs.declared.event.EventResult.{EventResult}
use Rattle.run_gates.specs.GatesCode.{AfterEvent, after_event, fault_event}
use Rattle.run_events.specs.ConcludeCode.{conclude_op}
use Rattle.run_gates.proofs.Answers.{event_of}
use Rattle.run_events.proofs.Concluding.{concluded-fault, concluded-ends}
use Rattle.run_events.specs.declared.conclude.Single.{Single}
use Rattle.run_events.specs.declared.conclude.Single.TheVariants.{LastRet, Fault}
use Rattle.run_single.specs.declared.result.Count.{Count}
use Rattle.run_single.specs.ResultCode.{AfterEntry, after_entry}
use Rattle.run_single.specs.declared.result.EntryResult.TheVariants.{Taken, Full}
use Rattle.run_single.specs.SingleCode.{in_part, concluded_at, counted_words, event_line, recorded, single_op}
use Rattle.run_single.proofs.Here.{Here}

-- counting a thing changes no process
counted-process : (t : Thing) (c : Config) (n : ℕ) → process_at (counted t c) n ≡ process_at c n
unfolding counted process_at
counted-process (qubit q) c n = refl
counted-process (channel q) c n = refl
counted-process (end q d) c n = refl

module _ {p outcomes : List ℕ} {s : State} {t0 : List ℕ} {room : ℕ} (here : Here p outcomes s t0 room)
    (rest : List ℕ) (k n : ℕ) where
  abbrev reached : Reachable p outcomes s
  reached = here.reached

  abbrev pub config : Config
  config = s.config

  pub sound : ConfigSound p config
  sound = config-sound p reached.kept reached.kinds config reached.typed

  pub laid : Laid config
  laid = laid-sound p config sound

  abbrev pub work : List ℕ
  work = encode config ++ rest

  abbrev pub trace : List ℕ
  trace = trace_after s.lines t0

  abbrev pub count : Count
  count = record { entry = k; lines = length s.lines; used = s.used }

  -- what a taken entry leaves, and what an entry leaves by whether its lines fit
  abbrev pub took : Effect → AfterEntry
  took e =
      after_entry (Taken (length (s.lines ++ e.lines)) (s.used + e.used)) (trace_after (s.lines ++ e.lines) t0)
      (encode e.config ++ rest)

  abbrev pub full : AfterEntry
  full = after_entry Full trace work

  abbrev pub tried : Effect → AfterEntry
  tried e = cond (fits room s e) (took e) full

  -- one line

  module _ (made : n < length config.processes) where
    single-law : (what : Single) (answer : EventResult) (pr : Process) (ev : Event) (e : Effect)
        → conclude_op p (part_of work n) what config.qubits config.channels outcomes s.used ≡ after_event answer
        (process_words pr)
        → length (process_words pr) ≡ 512
        → event_line k n answer ≡ written.line_of (line_of k n ev)
        → e.lines ≡ line_of k n ev ∷ [] → e.used ≡ answer.used → answer.used ≤ 1
        → counted_words (encode (set_process config n pr) ++ rest) answer.kind ≡ encode e.config ++ rest
        → single_op p outcomes trace work room count n what ≡ tried e
    unfolding single_op concluded_at in_part recorded fits
    single-law what answer pr ev e conc long line ls us one cw = go (leb room (length s.lines)) refl
      where
        stored : recorded trace count n (concluded_at p work n what outcomes s.used)
            ≡ after_entry (Taken (length s.lines + 1) ((s.used + answer.used) % 4294967296))
            (with_line trace (length s.lines) (event_line k n answer))
            (counted_words (encode (set_process config n pr) ++ rest) answer.kind)
        stored =
            ap₂
            (λ (q c : ℕ). recorded trace count n
            (in_part work n (conclude_op p (part_of work n) what q c outcomes s.used))) (qubits-word config rest)
            (channels-word config rest)
            ∙ ap (λ (l : AfterEvent). recorded trace count n (in_part work n l)) conc
            ∙ ap (λ (w : List ℕ). recorded trace count n (after_event answer w))
            (part-put config laid rest n pr made long)

        lines-count : length s.lines + 1 ≡ length (s.lines ++ e.lines)
        lines-count =
            sym (length-append s.lines e.lines ∙ ap (λ (l : List Line). length s.lines + length l) ls)

        go : (b : Bool) → leb room (length s.lines) ≡ b
            → cond b full (recorded trace count n (concluded_at p work n what outcomes s.used))
            ≡ cond (leb (length s.lines + length e.lines) room) (took e) full
        go true h =
            sym (ap (λ (b : Bool). cond b (took e) full)
            (lt-leb (length s.lines + length e.lines) room
            (omega (arith, leb-true room (length s.lines) h, ap length ls))))
        go false h =
            stored
            ∙ (λ i. after_entry (Taken (lines-count i) (used-same i)) (trace-same i) (cw i))
            ∙ sym (ap (λ (b : Bool). cond b (took e) full)
            (le-leb (length s.lines + length e.lines) room
            (omega (arith, leb-false room (length s.lines) h, ap length ls))))
          where
            used-same : (s.used + answer.used) % 4294967296 ≡ s.used + e.used
            used-same = mod-eq_of_lt (omega (arith, here.small, one)) ∙ ap (λ (u : ℕ). s.used + u) (sym us)

            trace-same : with_line trace (length s.lines) (event_line k n answer) ≡ trace_after (s.lines ++ e.lines)
                t0
            trace-same =
                ap (with_line trace (length s.lines)) line
                ∙ written.line-written s.lines t0 (line_of k n ev)
                (omega (arith, here.holds, leb-false room (length s.lines) h))
                ∙ ap (λ (l : List Line). trace_after (s.lines ++ l) t0) (sym ls)

  -- a running process

  module _ {f : Frame} {fs : List Frame} (live : Running p config n f fs) where
    pub part-now : part_of work n ≡ process_words (runs (f ∷ fs))
    part-now = part-is config laid rest n live.made ∙ ap process_words live.stands

    abbrev pub words : List ℕ
    words = process_words (runs (f ∷ fs))

    -- a fault, however it came
    pub fault-as : (what : Single) (m : ℕ) → IsFault m
        → conclude_op p words what config.qubits config.channels outcomes s.used ≡ after_event (fault_event m)
        (process_words (record { status = stopped m; frames = f ∷ fs }))
        → single_op p outcomes trace work room count n what ≡ tried (applied p outcomes k s n (faults m))
    unfolding applied_in counted_words
    fault-as what m listed conc =
        single-law live.made what (fault_event m) halted (stops m) (applied p outcomes k s n (faults m))
        (ap (λ (w : List ℕ). conclude_op p w what config.qubits config.channels outcomes s.used) part-now
        ∙ conc
        ∙ ap (λ (gs : List Frame). after_event (fault_event m)
        (process_words (record { status = stopped m; frames = gs }))) (sym frames-are))
        (process-length p config halted (record { status = (listed, some); depth = deep-now; frames = fine-now }))
        refl refl refl (omega arith) refl
      where
        halted : Process
        halted = record { status = stopped m; frames = (process_at config n).frames }

        frames-are : (process_at config n).frames ≡ f ∷ fs
        frames-are = ap (λ (pr : Process). pr.frames) live.stands

        some : 0 < length (process_at config n).frames
        some = subst (λ (gs : List Frame). 0 < length gs) (sym frames-are) (omega arith)

        deep-now : length (process_at config n).frames ≤ 8
        deep-now = subst (λ (gs : List Frame). length gs ≤ 8) (sym frames-are) (omega arith)

        fine-now : All (FrameSound p config) (process_at config n).frames
        fine-now = subst (All (FrameSound p config)) (sym frames-are) live.busy.stack.sound

    -- no fault has the number 0
    fault-low : (m : ℕ) → IsFault m → 0 < m
    fault-low m (inl h) = omega (arith, h.0)
    fault-low m (inr e) = omega (arith, e)

    pub fault-law : (m : ℕ) → IsFault m
        → single_op p outcomes trace work room count n (Fault m) ≡ tried (applied p outcomes k s n (faults m))
    fault-law m listed =
        fault-as (Fault m) m listed
        (concluded-fault outcomes s live.busy sound.qubit_count m (fault-low m listed)
        config.qubits config.channels outcomes s.used)

    -- the root frame's return
    pub ends_as : (what : Single)
        → conclude_op p words what config.qubits config.channels outcomes s.used ≡ after_event
        (event_of 0 finishes) (process_words (record { status = finished; frames = [] }))
        → single_op p outcomes trace work room count n what ≡ tried (applied p outcomes k s n ends)
    unfolding applied_in counted_words
    ends_as what conc =
        single-law live.made what (event_of 0 finishes) gone finishes (applied p outcomes k s n ends)
        (ap (λ (w : List ℕ). conclude_op p w what config.qubits config.channels outcomes s.used) part-now
        ∙ conc)
        (process-length p config gone (record { status = refl; depth = omega arith; frames = tt }))
        refl refl refl (omega arith) refl
      where
        gone : Process
        gone = record { status = finished; frames = [] }

    pub ends-law : single_op p outcomes trace work room count n LastRet ≡ tried (applied p outcomes k s n ends)
    ends-law =
        ends_as LastRet
        (concluded-ends outcomes s live.busy sound.qubit_count config.qubits config.channels outcomes
        s.used)

    -- the words of a process after its entry fill its part
    module _ (a : Act) (does : act_of p outcomes s n ≡ a) where
      after-typed : Typed p (applied p outcomes k s n (judged s n a)).config
      unfolding effect_in
      after-typed =
          subst (λ (x : Act). Typed p (applied p outcomes k s n (judged s n x)).config) does
          (effect-typed p reached.kept outcomes reached.bytes s reached.kinds reached.typed k n)

      after-sound : ConfigSound p (applied p outcomes k s n (judged s n a)).config
      after-sound =
          config-sound p reached.kept after-typed.0 (applied p outcomes k s n (judged s n a)).config
          after-typed.1

      after-laid : Laid (applied p outcomes k s n (judged s n a)).config
      after-laid = laid-sound p (applied p outcomes k s n (judged s n a)).config after-sound

      pub after-long : (q : ℕ) (pr : Process) → process_at (applied p outcomes k s n (judged s n a)).config q ≡ pr
          → length (process_words pr) ≡ 512
      unfolding process_at
      after-long q pr e =
          subst (λ (x : Process). length (process_words x) ≡ 512) e
          (All-get_d (λ x. length (process_words x) ≡ 512) (applied p outcomes k s n (judged s n a)).config.processes q
          unmade after-laid
          (process-length p config unmade (record { status = refl; depth = omega arith; frames = tt })))

    -- an op that goes on with one line of its own process
    pub line-law : (what : Single) (gs : List Frame) (ev : Event) (u : ℕ) → act_of p outcomes s n ≡ goes gs (ev ∷ []) u
        → conclude_op p words what config.qubits config.channels outcomes s.used ≡ after_event (event_of u ev)
        (process_words (runs gs))
        → ev.kind ≢ 1 → ev.kind ≢ 2 → u ≤ 1
        → single_op p outcomes trace work room count n what ≡ tried (applied p outcomes k s n (goes gs (ev ∷ []) u))
    unfolding applied_in judged counted_words
    line-law what gs ev u does conc one two few =
        single-law live.made what (event_of u ev) (runs gs) ev (applied p outcomes k s n (goes gs (ev ∷ []) u))
        (ap (λ (w : List ℕ). conclude_op p w what config.qubits config.channels outcomes s.used) part-now
        ∙ conc)
        (after-long (goes gs (ev ∷ []) u) does n (runs gs) (process-same config n (runs gs) live.made))
        refl refl refl few
        (ap₂
        (λ (x y : Bool). cond x (set w 1 ((get_or w 1 0 + 1) % 4294967296))
        (cond y (set w 2 ((get_or w 2 0 + 1) % 4294967296)) w)) (ne_eqb ev.kind 1 one) (ne_eqb ev.kind 2 two))
      where
        w : List ℕ
        w = encode (set_process config n (runs gs)) ++ rest

    -- a thing made: the line of its making, where counting it leaves these words
    making-law : (what : Single) (t : Thing) (gs : List Frame) → act_of p outcomes s n ≡ makes t gs
        → conclude_op p words what config.qubits config.channels outcomes s.used ≡ after_event
        (event_of 0 (making t)) (process_words (runs gs))
        → counted_words (encode (set_process config n (runs gs)) ++ rest) (making t).kind ≡ encode
        (counted t (set_process config n (runs gs))) ++ rest
        → single_op p outcomes trace work room count n what ≡ tried (applied p outcomes k s n (makes t gs))
    unfolding applied_in judged
    making-law what t gs does conc words-counted =
        single-law live.made what (event_of 0 (making t)) (runs gs) (making t) (applied p outcomes k s n (makes t gs))
        (ap (λ (w : List ℕ). conclude_op p w what config.qubits config.channels outcomes s.used) part-now
        ∙ conc)
        (after-long (makes t gs) does n (runs gs)
        (counted-process t (set_process config n (runs gs)) n ∙ process-same config n (runs gs) live.made))
        refl refl refl (omega arith) words-counted

    pub made-law : (what : Single) (t : Thing) (gs : List Frame) → act_of p outcomes s n ≡ makes t gs
        → conclude_op p words what config.qubits config.channels outcomes s.used ≡ after_event
        (event_of 0 (making t)) (process_words (runs gs))
        → ((i : ℕ) (d : Bool) → t ≢ end i d)
        → single_op p outcomes trace work room count n what ≡ tried (applied p outcomes k s n (makes t gs))
    unfolding counted_words making counted set_process
    made-law what (qubit q) gs does conc never =
        making-law what (qubit q) gs does conc
        (ap (set (encode (set_process config n (runs gs)) ++ rest) 1)
        (ap (λ (i : ℕ). (i + 1) % 4294967296) (qubits-word (set_process config n (runs gs)) rest)
        ∙ mod-eq_of_lt (omega (arith, sound.qubit_count))
        ∙ omega arith)
        ∙ qubit-counted (set_process config n (runs gs)) q rest)
    made-law what (channel q) gs does conc never =
        making-law what (channel q) gs does conc
        (ap (set (encode (set_process config n (runs gs)) ++ rest) 2)
        (ap (λ (i : ℕ). (i + 1) % 4294967296) (channels-word (set_process config n (runs gs)) rest)
        ∙ mod-eq_of_lt (omega (arith, sound.channel_count))
        ∙ omega arith)
        ∙ channel-counted (set_process config n (runs gs)) q rest)
    made-law what (end i d) gs does conc never = absurd (never i d refl)
