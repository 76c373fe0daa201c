-- Whatever configuration a run leaves is read back from its words, and takes exactly 8,192 of them.
use Prim.Native.Nat.{ℕ, ◌+◌, ◌*◌, ◌-◌, ◌≤◌, ◌<◌}
use mathlib.Core.Path.{◌≡◌, refl, sym, ◌∙◌, ap, ap₂}
use mathlib.Core.Bool.{true, false}
use mathlib.Core.List.{List, [], ◌∷◌, ◌++◌, map, reverse, zip_with, flatten, reverse-reverse, append_assoc, append-nil}
use native.Mathlib.Omega.{arith}
use lib.IntN.{ℤ, pos, negsuc}
use lib.ListN.{get_or, drop, length, length-append, length-reverse, length-map}
use lib.Seq.{drop-drop}
use lib.Dec.{T, ltb→lt}
use borrow.Author.Tests.{lt-ltb, le-ltb}
use Rattle.lists.specs.Lists.{All}
use Rattle.lists.proofs.Any.{All-map, All-implies, All-reverse}
use Rattle.machine.specs.Value.{qubit, channel, end, Value, empty, int, bool, ref, in_range, word32}
use Rattle.machine.specs.State.{Frame, Status, running, finished, stopped, Process, Config}
use Rattle.machine.specs.Sound.{ValueSound, FrameSound, ProcessSound, ConfigSound}
use Rattle.table.specs.Questions.{Accepted}
use Rattle.machine.specs.Run.{run}
use Rattle.machine.proofs.Sound.{sound}
use Rattle.layout.specs.Layout.{padded, groups, value_words, head_words, frame_values, status_words, process_words, encode, signed32, tagged, value_from, frame_from, status_from, process_from, decode}
use Rattle.layout.proofs.Groups.{padded-length, padded-drop, flatten-length, groups-padded, map_back, zip-back}

-- values

int-back : (z : ℤ) → T (in_range z) → signed32 (word32 z) ≡ z
unfolding signed32 word32 in_range
int-back (pos n) h = rw (lt-ltb n 2147483648 (ltb→lt n 2147483648 h))
int-back (negsuc n) h =
    let small : n < 2147483648 = ltb→lt n 2147483648 h in
    rw (le-ltb (4294967295 - n) 2147483648 (omega arith)) (ap negsuc (omega arith))

value-back : (c : Config) (v : Value) → ValueSound c v → value_from (value_words v) ≡ v
unfolding value_from value_words tagged
value-back c empty h = refl
value-back c (int z) h = ap int (int-back z h)
value-back c (bool true) h = refl
value-back c (bool false) h = refl
value-back c (ref (qubit n)) h = refl
value-back c (ref (channel n)) h = refl
value-back c (ref (end n true)) h = refl
value-back c (ref (end n false)) h = refl

pub value-length : (v : Value) → length (value_words v) ≡ 2
unfolding value_words
value-length empty = refl
value-length (int z) = refl
value-length (bool b) = refl
value-length (ref (qubit n)) = refl
value-length (ref (channel n)) = refl
value-length (ref (end n true)) = refl
value-length (ref (end n false)) = refl

-- a property that holds of everything holds of every element
pub all : {A : Type 0} (P : A → Type 0) → ((x : A) → P x) → (xs : List A) → All P xs
all P h [] = tt
all P h (x ∷ xs) = (h x, all P h xs)

value-lengths : (vs : List Value) → All (λ g. length g ≡ 2) (map value_words vs)
value-lengths vs = All-map (λ g. length g ≡ 2) value_words vs (all (λ v. length (value_words v) ≡ 2) value-length vs)

pub values-size : (vs : List Value) → length (flatten (map value_words vs)) ≡ length vs * 2
values-size vs =
    flatten-length 2 (map value_words vs) (value-lengths vs) ∙ ap (λ (k : ℕ). k * 2) (length-map vs value_words)

-- values written and padded, read back by their number
values-back : (c : Config) (n k : ℕ) (vs : List Value) (rest : List ℕ) → All (ValueSound c) vs → k ≡ length vs
    → map value_from (groups 2 k (padded n (flatten (map value_words vs)) ++ rest)) ≡ vs
values-back c n k vs rest h e =
    ap (map value_from)
    (groups-padded 2 n k (map value_words vs) rest (value-lengths vs) (e ∙ sym (length-map vs value_words)))
    ∙ map_back value_words value_from vs
    (All-implies (ValueSound c) (λ v. value_from (value_words v) ≡ v) (value-back c) vs h)

-- frames

slots-size : (p : List ℕ) (c : Config) (f : Frame) → FrameSound p c f
    → length (flatten (map value_words f.slots)) ≤ 32
slots-size p c f h = omega (arith, values-size f.slots, h.width)

pending-size : (p : List ℕ) (c : Config) (f : Frame) → FrameSound p c f
    → length (flatten (map value_words (reverse f.pending))) ≤ 16
pending-size p c f h = omega (arith, values-size (reverse f.pending), length-reverse f.pending, h.height)

pub frame-length : (p : List ℕ) (c : Config) (f : Frame) → FrameSound p c f → length (frame_values f) ≡ 48
unfolding frame_values
frame-length p c f h =
    length-append (padded 32 (flatten (map value_words f.slots)))
    (padded 16 (flatten (map value_words (reverse f.pending))))
    ∙ ap₂ ◌+◌ (padded-length 32 (flatten (map value_words f.slots)) (slots-size p c f h))
    (padded-length 16 (flatten (map value_words (reverse f.pending))) (pending-size p c f h))

pending-back : (p : List ℕ) (c : Config) (f : Frame) → FrameSound p c f
    → reverse (map value_from (groups 2 (length f.pending) (drop 32 (frame_values f)))) ≡ f.pending
unfolding frame_values
pending-back p c f h =
    ap reverse
    (ap (λ (ws : List ℕ). map value_from (groups 2 (length f.pending) ws))
    (padded-drop 32 (flatten (map value_words f.slots)) (padded 16 (flatten (map value_words (reverse f.pending))))
    (slots-size p c f h)
    ∙ sym (append-nil (padded 16 (flatten (map value_words (reverse f.pending))))))
    ∙ values-back c 16 (length f.pending) (reverse f.pending) []
    (All-reverse (ValueSound c) f.pending h.pending) (sym (length-reverse f.pending)))
    ∙ reverse-reverse f.pending

frame_back : (p : List ℕ) (c : Config) (f : Frame) → FrameSound p c f → frame_from (head_words f) (frame_values f) ≡ f
unfolding frame_from head_words frame_values
frame_back p c f h = λ i. record {
  method = f.method;
  place = f.place;
  slots =
      values-back c 32 16 f.slots (padded 16 (flatten (map value_words (reverse f.pending)))) h.slots
      (sym h.width) i;
  pending = pending-back p c f h i;
}

-- processes

status-back : (st : Status) → status_from (get_or (status_words st) 0 0) (get_or (status_words st) 1 0) ≡ st
unfolding status_from status_words
status-back running = refl
status-back finished = refl
status-back (stopped n) = refl

-- the three stretches of a process's part
abbrev state_of : Process → List ℕ
state_of pr = padded 8 (status_words pr.status ++ (length pr.frames ∷ []))

abbrev heads_of : Process → List ℕ
heads_of pr = padded 56 (flatten (map head_words (reverse pr.frames)))

abbrev frames_of : Process → List ℕ
frames_of pr = padded 448 (flatten (map frame_values (reverse pr.frames)))

pub status-size : (st : Status) (n : ℕ) → length (status_words st ++ (n ∷ [])) ≤ 8
unfolding status_words
status-size running n = omega arith
status-size finished n = omega arith
status-size (stopped f) n = omega arith

pub head-lengths : (fs : List Frame) → All (λ g. length g ≡ 4) (map head_words fs)
unfolding head_words
head-lengths fs = All-map (λ g. length g ≡ 4) head_words fs (all (λ f. length (head_words f) ≡ 4) (λ f. refl) fs)

module _ (p : List ℕ) (c : Config) (pr : Process) (h : ProcessSound p c pr) where
  frames-back-to-front : All (FrameSound p c) (reverse pr.frames)
  frames-back-to-front = All-reverse (FrameSound p c) pr.frames h.frames

  frame-lengths : All (λ g. length g ≡ 48) (map frame_values (reverse pr.frames))
  frame-lengths =
      All-map (λ g. length g ≡ 48) frame_values (reverse pr.frames)
      (All-implies (FrameSound p c) (λ f. length (frame_values f) ≡ 48) (frame-length p c) (reverse pr.frames)
      frames-back-to-front)

  pub heads-size : length (flatten (map head_words (reverse pr.frames))) ≤ 56
  heads-size =
      omega (
        arith,
        flatten-length 4 (map head_words (reverse pr.frames)) (head-lengths (reverse pr.frames)),
        length-map (reverse pr.frames) head_words,
        length-reverse pr.frames,
        h.depth,
      )

  values-fit : length (flatten (map frame_values (reverse pr.frames))) ≤ 448
  values-fit =
      omega (
        arith,
        flatten-length 48 (map frame_values (reverse pr.frames)) frame-lengths,
        length-map (reverse pr.frames) frame_values,
        length-reverse pr.frames,
        h.depth,
      )

  pub process-length : length (process_words pr) ≡ 512
  unfolding process_words
  process-length =
      length-append (state_of pr ++ heads_of pr) (frames_of pr)
      ∙ ap₂ ◌+◌
      (length-append (state_of pr) (heads_of pr)
      ∙ ap₂ ◌+◌
      (padded-length 8 (status_words pr.status ++ (length pr.frames ∷ []))
      (status-size pr.status (length pr.frames)))
      (padded-length 56 (flatten (map head_words (reverse pr.frames))) heads-size))
      (padded-length 448 (flatten (map frame_values (reverse pr.frames))) values-fit)

  part-heads : drop 8 (process_words pr) ≡ heads_of pr ++ frames_of pr
  unfolding process_words
  part-heads =
      ap (drop 8) (append_assoc (state_of pr) (heads_of pr) (frames_of pr))
      ∙ padded-drop 8 (status_words pr.status ++ (length pr.frames ∷ [])) (heads_of pr ++ frames_of pr)
      (status-size pr.status (length pr.frames))

  part-values : drop 64 (process_words pr) ≡ frames_of pr
  part-values =
      sym (drop-drop 56 8 (process_words pr)) ∙ ap (drop 56) part-heads
      ∙ padded-drop 56 (flatten (map head_words (reverse pr.frames))) (frames_of pr) heads-size

  frames-count : length pr.frames ≡ length (map head_words (reverse pr.frames))
  frames-count = sym (length-map (reverse pr.frames) head_words ∙ length-reverse pr.frames)

  values-count : length pr.frames ≡ length (map frame_values (reverse pr.frames))
  values-count = sym (length-map (reverse pr.frames) frame_values ∙ length-reverse pr.frames)

  frames-back :
      reverse
      (zip_with frame_from (groups 4 (length pr.frames) (drop 8 (process_words pr)))
      (groups 48 (length pr.frames) (drop 64 (process_words pr)))) ≡ pr.frames
  frames-back =
      ap reverse
      (ap₂ (zip_with frame_from)
      (ap (groups 4 (length pr.frames)) part-heads
      ∙ groups-padded 4 56 (length pr.frames) (map head_words (reverse pr.frames)) (frames_of pr)
      (head-lengths (reverse pr.frames)) frames-count)
      (ap (groups 48 (length pr.frames)) (part-values ∙ sym (append-nil (frames_of pr)))
      ∙ groups-padded 48 448 (length pr.frames) (map frame_values (reverse pr.frames)) [] frame-lengths
      values-count)
      ∙ zip-back head_words frame_values frame_from (reverse pr.frames)
      (All-implies (FrameSound p c) (λ f. frame_from (head_words f) (frame_values f) ≡ f) (frame_back p c)
      (reverse pr.frames) frames-back-to-front))
      ∙ reverse-reverse pr.frames

part-status : (st : Status) (n : ℕ) (heads values : List ℕ)
    → status_from (get_or (padded 8 (status_words st ++ (n ∷ [])) ++ heads ++ values) 0 0)
    (get_or (padded 8 (status_words st ++ (n ∷ [])) ++ heads ++ values) 1 0) ≡ st
unfolding status_from status_words padded
part-status running n heads values = refl
part-status finished n heads values = refl
part-status (stopped f) n heads values = refl

part_count : (st : Status) (n : ℕ) (heads values : List ℕ)
    → get_or (padded 8 (status_words st ++ (n ∷ [])) ++ heads ++ values) 2 0 ≡ n
unfolding status_words padded
part_count running n heads values = refl
part_count finished n heads values = refl
part_count (stopped f) n heads values = refl

process-back : (p : List ℕ) (c : Config) (pr : Process) → ProcessSound p c pr → process_from (process_words pr) ≡ pr
unfolding process_from process_words
process-back p c pr h = λ i. record {
  status = part-status pr.status (length pr.frames) (heads_of pr) (frames_of pr) i;
  frames =
      (ap
      (λ (n : ℕ). reverse
      (zip_with frame_from (groups 4 n (drop 8 (process_words pr))) (groups 48 n (drop 64 (process_words pr)))))
      (part_count pr.status (length pr.frames) (heads_of pr) (frames_of pr))
      ∙ frames-back p c pr h) i;
}

-- the configuration

module _ (p : List ℕ) (c : Config) (h : ConfigSound p c) where
  process-lengths : All (λ g. length g ≡ 512) (map process_words c.processes)
  process-lengths =
      All-map (λ g. length g ≡ 512) process_words c.processes
      (All-implies (ProcessSound p c) (λ pr. length (process_words pr) ≡ 512) (process-length p c) c.processes
      h.processes)

  processes-size : length (flatten (map process_words c.processes)) ≤ 7680
  processes-size =
      omega (
        arith,
        flatten-length 512 (map process_words c.processes) process-lengths,
        length-map c.processes
            process_words,
        h.process_count,
      )

  -- the words of a configuration are 8,192
  pub encode-length : length (encode c) ≡ 8192
  unfolding encode
  encode-length =
      length-append (padded 512 (length c.processes ∷ c.qubits ∷ c.channels ∷ []))
      (padded 7680 (flatten (map process_words c.processes)))
      ∙ ap₂ ◌+◌ (padded-length 512 (length c.processes ∷ c.qubits ∷ c.channels ∷ []) (omega arith))
      (padded-length 7680 (flatten (map process_words c.processes)) processes-size)

  processes-back : map process_from (groups 512 (length c.processes) (drop 512 (encode c))) ≡ c.processes
  unfolding encode
  processes-back =
      ap (λ (ws : List ℕ). map process_from (groups 512 (length c.processes) ws))
      (padded-drop 512 (length c.processes ∷ c.qubits ∷ c.channels ∷ [])
      (padded 7680 (flatten (map process_words c.processes))) (omega arith)
      ∙ sym (append-nil (padded 7680 (flatten (map process_words c.processes)))))
      ∙ ap (map process_from)
      (groups-padded 512 7680 (length c.processes) (map process_words c.processes) [] process-lengths
      (sym (length-map c.processes process_words)))
      ∙ map_back process_words process_from c.processes
      (All-implies (ProcessSound p c) (λ pr. process_from (process_words pr) ≡ pr) (process-back p c) c.processes
      h.processes)

  -- a configuration is read back from its words
  pub decode-encode : decode (encode c) ≡ c
  unfolding decode encode padded
  decode-encode = λ i. record { processes = processes-back i; qubits = c.qubits; channels = c.channels }

-- whatever configuration a run of an accepted table leaves, its 8,192 words give it back
pub run-back : (p outcomes : List ℕ) (room : ℕ) (schedule : List ℕ) → Accepted p → All (λ o. o ≤ 2) outcomes
    → decode (encode (run p outcomes room schedule).state.config) ≡ (run p outcomes room schedule).state.config
run-back p outcomes room schedule a b =
    decode-encode p (run p outcomes room schedule).state.config (sound p outcomes room schedule a b).config
