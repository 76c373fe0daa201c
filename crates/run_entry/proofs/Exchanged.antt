-- SEND and RECV: what the code leaves in trace and store is the definitions' effect, where the process meets another
-- and the lines fit.
use Prim.Native.Nat.{ℕ, suc, ◌+◌, ◌*◌, ◌%◌, ◌≤◌, ◌<◌}
use mathlib.Core.Path.{◌≡◌, refl, sym, ◌∙◌, ap, ap₂, subst}
use mathlib.Core.Logic.{◌≢◌}
use mathlib.Core.Bool.{Bool, true, false, cond}
use mathlib.Core.List.{List, [], ◌∷◌, ◌++◌, map, append_assoc}
use native.Mathlib.Nat.{mod-eq_of_lt}
use native.Mathlib.Omega.{arith}
use lib.ListN.{length, length-append}
use lib.Dec.{leb, ltb}
use borrow.Author.Tests.{le-leb, lt-leb, ltb-true, ltb-false}
use Rattle.lists.specs.Lists.{All}
use Rattle.lists.proofs.Any.{All-get_d}
use Rattle.machine.specs.Value.{qubit, channel, end, Value, empty, int, bool, ref, value_word}
use Rattle.machine.specs.State.{Frame, Process, Config, Line, State, process_at, set_process, unmade, at_place, with_pending, line_of, met, passed}
use Rattle.machine.specs.Act.{sends, receives, offers, at_frame, at_frames, by_status, act_of}
use Rattle.machine.specs.Entry.{Effect, Meeting, runs, frames_without, things_of, push_top, handing, meet_in, table_machine}
use Rattle.machine.specs.Run.{fits}
use Rattle.machine.specs.Answer.{trace_after}
use Rattle.machine.specs.Sound.{ValueSound, FrameSound, ConfigSound}
use Rattle.machine.proofs.Reachable.{Reachable, Running}
use Rattle.machine.proofs.Typing.{Fits, Frames, Typed}
use Rattle.machine.proofs.Standing.{act-typed}
use Rattle.machine.proofs.Sound.{frame-sound, callers-sound, config-sound}
use Rattle.machine.proofs.Giving.{process-same, process-other, count_set}
use Rattle.layout.specs.Layout.{value_words, process_words, encode}
use Rattle.layout.proofs.Frames.{tag_of, number_of}
use Rattle.layout.proofs.RoundTrip.{process-length}
use Rattle.run_store.proofs.Vals.{val_of}
use Rattle.trace_lines.specs.WrittenCode.{with_line}
use Rattle.trace_lines.proofs.LineWritten as written
use Rattle.run_parts.proofs.Encoded.{laid-sound}
use Rattle.run_parts.proofs.Standing.{sends-from, receives-from}
use Rattle.run_transfer.specs.TransferCode.{met_words}
use Rattle.run_transfer.specs.ForkLinesCode.{Gifts, gift_added}
use Rattle.run_transfer.proofs.Stored.{met-store}
use Rattle.run_transfer.proofs.Lines.{gift-added}
use Rattle.run_single.specs.ResultCode.{AfterEntry, after_entry}
use Rattle.run_single.specs.declared.result.EntryResult.TheVariants.{Taken}
use Rattle.run_transfer.specs.MeetingLinesCode.{met_line, value_line, met_written}
use Rattle.run_entry.specs.MeetingCode.{exchange_op}
use Rattle.run_single.proofs.Here.{Here}
use Rattle.run_single.proofs.Singly.{sound, laid, count, took, full, tried}

module _ {p outcomes : List ℕ} {s : State} {t0 : List ℕ} {room : ℕ} (here : Here p outcomes s t0 room)
    (rest : List ℕ) (k n : ℕ) where
  abbrev reached : Reachable p outcomes s
  reached = here.reached

  abbrev c : Config
  c = s.config

  abbrev store : List ℕ
  store = encode c ++ rest

  abbrev lines : List ℕ
  lines = trace_after s.lines t0

  abbrev tries : Effect → AfterEntry
  tries = tried here rest k n

  abbrev full_now : AfterEntry
  full_now = full here rest k n

  abbrev takes : Effect → AfterEntry
  takes = took here rest k n

  fine_config : ConfigSound p c
  fine_config = sound here rest k n

  -- the lines

  channel-fits : (i : ℕ) → i < c.channels → i % 65536 ≡ i
  channel-fits i h = mod-eq_of_lt (omega (arith, h, fine_config.channel_count))

  met-line : (a b i : ℕ) (d : Bool) → i < c.channels
      → met_line k a b (val_of (ref (end i d))) ≡ written.line_of (line_of k a (met b i d))
  unfolding met_line val_of tag_of number_of value_words
  met-line a b i true h =
      ap (λ (j : ℕ). record { entry = k; process = a; kind = 7; a = b; b = j; c = 1 }) (channel-fits i h)
  met-line a b i false h =
      ap (λ (j : ℕ). record { entry = k; process = a; kind = 7; a = b; b = j; c = 0 }) (channel-fits i h)

  -- the line of the value, after the lines ls
  handed-on : (a b : ℕ) (v : Value) (ls : List Line) → ValueSound c v → 6 * (length ls + 1) ≤ length t0
      → with_line (trace_after ls t0) (length ls) (value_line k a b (val_of v)) ≡ trace_after
      (ls ++ map (line_of k a) (handing b v)) t0
  unfolding value_line gift_added handing val_of tag_of number_of value_words value_word things_of
  handed-on a b empty ls h r = written.line-written ls t0 (line_of k a (passed empty)) (omega (arith, r))
  handed-on a b (int z) ls h r = written.line-written ls t0 (line_of k a (passed (int z))) (omega (arith, r))
  handed-on a b (bool x) ls h r = written.line-written ls t0 (line_of k a (passed (bool x))) (omega (arith, r))
  handed-on a b (ref (qubit i)) ls h r =
      ap (λ (g : Gifts). g.words)
      (gift-added c fine_config.qubit_count fine_config.channel_count (ref (qubit i)) ls t0 k a b h r)
  handed-on a b (ref (channel i)) ls h r =
      ap (λ (g : Gifts). g.words)
      (gift-added c fine_config.qubit_count fine_config.channel_count (ref (channel i)) ls t0 k a b h r)
  handed-on a b (ref (end i true)) ls h r =
      ap (λ (g : Gifts). g.words)
      (gift-added c fine_config.qubit_count fine_config.channel_count (ref (end i true)) ls t0 k a b h r)
  handed-on a b (ref (end i false)) ls h r =
      ap (λ (g : Gifts). g.words)
      (gift-added c fine_config.qubit_count fine_config.channel_count (ref (end i false)) ls t0 k a b h r)

  handing-one : (a b : ℕ) (v : Value) → length (map (line_of k a) (handing b v)) ≡ 1
  unfolding handing
  handing-one a b empty = refl
  handing-one a b (int z) = refl
  handing-one a b (bool x) = refl
  handing-one a b (ref t) = refl

  -- the meeting of sender a and receiver b

  module _ {a b : ℕ} {f : Frame} {fs : List Frame} (sender : Running p c a f fs) {g : Frame} {gs : List Frame}
      (receiver : Running p c b g gs) (two : a ≢ b)
      (i i' : ℕ) (d d' : Bool) (v : Value) (hs hs' : List Frame)
      (sending : at_frame p outcomes s f fs ≡ offers (sends i d v hs))
      (receiving : at_frame p outcomes s g gs ≡ offers (receives i' d' hs')) where
    abbrev join : Meeting
    join =
        record { sender = a; receiver = b; channel = i; side = d; value = v; sender_frames = hs; receiver_frames = hs' }

    abbrev effect : Effect
    effect = meet_in (table_machine p outcomes) k s join

    made-end : (us : List Value) → f.pending ≡ v ∷ ref (end i d) ∷ us → i < c.channels
    made-end us q = (subst (All (ValueSound c)) q sender.busy.stack.sound.0.pending).1.0

    value-fine : (us : List Value) → f.pending ≡ v ∷ ref (end i d) ∷ us → ValueSound c v
    value-fine us q = (subst (All (ValueSound c)) q sender.busy.stack.sound.0.pending).0

    act-a : act_of p outcomes s a ≡ offers (sends i d v hs)
    unfolding act_of by_status at_frames
    act-a = ap (λ (pr : Process). by_status pr.status (at_frames p outcomes s pr.frames)) sender.stands ∙ sending

    sender-after : (us : List Value) → hs ≡ at_place (suc f.place) (with_pending us f) ∷ fs
        → All (FrameSound p c) (at_place (suc f.place) (with_pending us f) ∷ fs)
    sender-after us e =
        let after : Frames p (Fits reached.kinds c.qubits) [] (at_place (suc f.place) (with_pending us f) ∷ fs)
        = subst (Frames p (Fits reached.kinds c.qubits) []) e
        (rw act-a at (act-typed p reached.kept outcomes reached.bytes s reached.kinds reached.typed a)).1
        in (
          frame-sound p reached.kept reached.kinds c reached.typed []
              (at_place (suc f.place) (with_pending us f)) after.stack.0,
          callers-sound p reached.kept
              reached.kinds c reached.typed f.method fs after.stack.1,
        )

    module _ (after : Typed p effect.config) where
      after-long : (q : ℕ) (pr : Process) → process_at effect.config q ≡ pr → length (process_words pr) ≡ 512
      unfolding process_at
      after-long q pr e =
          subst (λ (x : Process). length (process_words x) ≡ 512) e
          (All-get_d (λ x. length (process_words x) ≡ 512) effect.config.processes q unmade
          (laid-sound p effect.config (config-sound p reached.kept after.0 effect.config after.1))
          (process-length p c unmade (record { status = refl; depth = omega arith; frames = tt })))

      abbrev sent : Config
      sent = set_process c a (runs (frames_without (things_of (v ∷ [])) hs))

      mb-sent : b < length sent.processes
      mb-sent =
          subst (λ (x : ℕ). b < x) (sym (count_set c a (runs (frames_without (things_of (v ∷ [])) hs)))) receiver.made

      at-sender : process_at effect.config a ≡ runs (frames_without (things_of (v ∷ [])) hs)
      unfolding meet_in
      at-sender =
          process-other sent b a (runs (push_top v hs')) two
          ∙ process-same c a (runs (frames_without (things_of (v ∷ [])) hs)) sender.made

      at-receiver : process_at effect.config b ≡ runs (push_top v hs')
      unfolding meet_in
      at-receiver = process-same sent b (runs (push_top v hs')) mb-sent

      store-met : met_words store a b (val_of v) ≡ encode effect.config ++ rest
      unfolding meet_in push_top
      store-met =
          let r = sends-from outcomes s sender.busy i d v hs sending in
          let r' = receives-from outcomes s receiver.busy i' d' hs' receiving in
          met-store outcomes s (laid here rest k n) rest fine_config.qubit_count sender receiver two v (ref (end i d))
          (ref (end i' d')) r.0 r'.0 r.1 r'.1
          (sender-after r.0 r.3)
          (ap (λ (l : List Frame). length (process_words (runs (frames_without (things_of (v ∷ [])) l)))) (sym r.3)
          ∙ after-long a (runs (frames_without (things_of (v ∷ [])) hs)) at-sender)
          (ap (λ (l : List Frame). length (process_words (runs (push_top v l)))) (sym r'.2)
          ∙ after-long b (runs (push_top v hs')) at-receiver)
          ∙ ap₂
          (λ (l m : List Frame). encode
          (set_process (set_process c a (runs (frames_without (things_of (v ∷ [])) l))) b (runs (push_top v m))) ++ rest)
          (sym r.3) (sym r'.2)

      lines-met : length s.lines + 2 ≤ room
          → met_written lines (length s.lines) k a b (val_of (ref (end i d))) (val_of v) ≡ trace_after
          (s.lines ++ effect.lines) t0
      unfolding met_written meet_in
      lines-met h =
          let r = sends-from outcomes s sender.busy i d v hs sending in
          ap₂ (λ (w : List ℕ) (j : ℕ). with_line w j (value_line k a b (val_of v)))
          (ap (with_line lines (length s.lines)) (met-line a b i d (made-end r.0 r.1))
          ∙ written.line-written s.lines t0 (line_of k a (met b i d)) (omega (arith, here.holds, h)))
          (sym (length-append s.lines (line_of k a (met b i d) ∷ [])))
          ∙ handed-on a b v (s.lines ++ (line_of k a (met b i d) ∷ [])) (value-fine r.0 r.1)
          (omega (arith, here.holds, h, length-append s.lines (line_of k a (met b i d) ∷ [])))
          ∙ ap (λ (l : List Line). trace_after l t0)
          (append_assoc s.lines (line_of k a (met b i d) ∷ []) (map (line_of k a) (handing b v)))

      lines_long : length effect.lines ≡ 2
      unfolding meet_in
      lines_long = ap suc (handing-one a b v)

      pub exchange-law :
          exchange_op lines store room (count here rest k n) a b (val_of (ref (end i d))) (val_of v) ≡ tries effect
      unfolding exchange_op fits meet_in
      exchange-law = go (ltb room (length s.lines + 2)) refl
        where
          two-more : length s.lines + 2 ≡ length (s.lines ++ effect.lines)
          two-more = sym (length-append s.lines effect.lines ∙ ap (λ (x : ℕ). length s.lines + x) lines_long)

          none-used : s.used ≡ s.used + effect.used
          none-used = omega arith

          go : (x : Bool) → ltb room (length s.lines + 2) ≡ x
              → cond x full_now
              (after_entry (Taken (length s.lines + 2) s.used)
              (met_written lines (length s.lines) k a b (val_of (ref (end i d))) (val_of v))
              (met_words store a b (val_of v)))
              ≡ cond (leb (length s.lines + length effect.lines) room) (takes effect) full_now
          go true h =
              sym (ap (λ (x : Bool). cond x (takes effect) full_now)
              (lt-leb (length s.lines + length effect.lines) room
              (omega (arith, ltb-true room (length s.lines + 2) h, lines_long))))
          go false h =
              (λ t. after_entry (Taken (two-more t) (none-used t))
              (lines-met (ltb-false room (length s.lines + 2) h) t) (store-met t))
              ∙ sym (ap (λ (x : Bool). cond x (takes effect) full_now)
              (le-leb (length s.lines + length effect.lines) room
              (omega (arith, ltb-false room (length s.lines + 2) h, lines_long))))
