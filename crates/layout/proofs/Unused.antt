-- "unused places 0": every word of an encoded configuration at a place that it does not use is 0.
use Prim.Native.Nat.{ℕ, zero, suc, ◌+◌, ◌*◌, ◌-◌, ◌≤◌, ◌<◌}
use mathlib.Core.Path.{◌≡◌, refl, sym, ◌∙◌, ap, subst}
use mathlib.Core.Logic.{⊎_elim}
use mathlib.Core.List.{List, [], ◌∷◌, ◌++◌, map, reverse, flatten, append_assoc}
use native.Mathlib.Nat.{suc-mul, zero-mul}
use native.Mathlib.Omega.{arith}
use lib.ListN.{get_or, length, replicate, length-reverse, get_or-append, get_or-eq_default, get_or-replicate, length-replicate}
use lib.Dec.{ltb}
use borrow.Author.Tests.{ltb-true, ltb-false}
use Rattle.lists.specs.Lists.{All}
use Rattle.lists.proofs.Tests.{decide}
use Rattle.lists.proofs.Any.{All-reverse}
use Rattle.machine.specs.Value.{Value, empty, int, bool, ref}
use Rattle.machine.specs.State.{Frame, Status, running, finished, stopped, Process, Config, process_at, unmade}
use Rattle.machine.specs.Sound.{FrameSound, ProcessSound, ConfigSound}
use Rattle.layout.specs.Layout.{padded, value_words, head_words, frame_values, status_words, process_words, encode}
use Rattle.layout.specs.Places.{InValue, tag, number, InValues, slot, pending, no_frame, frame_at, InPart, status, fault, depth, head, values, InStore, counts, part}
use Rattle.layout.proofs.Groups.{padded-length}
use Rattle.layout.proofs.Padded.{get_after}
use Rattle.layout.proofs.RoundTrip.{all, value-length, values-size, frame-length, status-size, heads-size, process-length}

-- words of concatenated and of padded lists

zero-split : (xs ys : List ℕ) (n w : ℕ) → length xs ≡ n → (w < n → get_or xs w 0 ≡ 0)
    → ((i : ℕ) → w ≡ n + i → get_or ys i 0 ≡ 0)
    → get_or (xs ++ ys) w 0 ≡ 0
zero-split xs ys n w e first rest =
    ⊎_elim (λ h. left (ltb-true w n h)) (λ h. right (ltb-false w n h)) (decide (ltb w n))
  where
    left : w < n → get_or (xs ++ ys) w 0 ≡ 0
    left h = get_or-append xs ys 0 w (omega (arith, e)) ∙ first h

    right : n ≤ w → get_or (xs ++ ys) w 0 ≡ 0
    right h =
        let further : w ≡ n + (w - n) = omega arith in
        ap (λ (k : ℕ). get_or (xs ++ ys) k 0) further ∙ get_after xs ys n (w - n) e ∙ rest (w - n) further

zeros : (n i : ℕ) → ◌≡◌ {A = ℕ} (get_or (replicate n 0) i 0) 0
zeros n i =
    ⊎_elim (λ h. get_or-replicate n i 0 0 (ltb-true i n h))
    (λ h. get_or-eq_default (replicate n 0) 0 (omega (arith, ltb-false i n h, length-replicate {A = ℕ} n 0)))
    (decide (ltb i n))

-- padding adds nothing but 0
zero-padded : (n : ℕ) (ws : List ℕ) (w : ℕ) → get_or ws w 0 ≡ 0 → get_or (padded n ws) w 0 ≡ 0
unfolding padded
zero-padded n ws w e =
    zero-split ws (replicate (n - length ws) 0) (length ws) w refl (λ h. e) (λ i h. zeros (n - length ws) i)

-- words padded to n, and what follows them
zero-stretch : (n : ℕ) (xs ys : List ℕ) (w : ℕ) → length xs ≤ n → (w < n → get_or xs w 0 ≡ 0)
    → ((i : ℕ) → w ≡ n + i → get_or ys i 0 ≡ 0)
    → get_or (padded n xs ++ ys) w 0 ≡ 0
zero-stretch n xs ys w fit first rest =
    zero-split (padded n xs) ys n w (padded-length n xs fit) (λ h. zero-padded n xs w (first h)) rest

-- groups of `size` words, one for each element
zero-groups : {A : Type 0} (g : A → List ℕ) (size : ℕ) (d : A) (P : A → Type 0) → ((x : A) → P x → length (g x) ≡ size)
    → (xs : List A) (w : ℕ) → All P xs
    → ((n i : ℕ) → n < length xs → w ≡ n * size + i → P (get_or xs n d) → get_or (g (get_or xs n d)) i 0 ≡ 0)
    → get_or (flatten (map g xs)) w 0 ≡ 0
unfolding flatten
zero-groups g size d P sized [] w a h = refl
zero-groups g size d P sized (x ∷ xs) w a h =
    zero-split (g x) (flatten (map g xs)) size w (sized x a.0)
    (λ l. h 0 w (omega arith) (omega (arith, zero-mul size)) a.0)
    (λ j e. zero-groups g size d P sized xs j a.1
    (λ n i l q. h (suc n) i (omega (arith, l)) (omega (arith, e, q, suc-mul n size))))

-- values

zero-value : (v : Value) (i : ℕ) → (InValue v i → ⊥) → get_or (value_words v) i 0 ≡ 0
unfolding value_words
zero-value v zero h = absurd (h tag)
zero-value empty (suc zero) h = refl
zero-value (int z) (suc zero) h = absurd (h (number refl))
zero-value (bool b) (suc zero) h = absurd (h (number refl))
zero-value (ref t) (suc zero) h = absurd (h (number refl))
zero-value v (suc (suc i)) h = get_or-eq_default (value_words v) 0 (omega (arith, value-length v))

-- the words of values, two each
zero-run : (vs : List Value) (w : ℕ) → ((s i : ℕ) → s < length vs → w ≡ 2 * s + i → InValue (get_or vs s empty) i → ⊥)
    → get_or (flatten (map value_words vs)) w 0 ≡ 0
zero-run vs w h =
    zero-groups value_words 2 empty (λ v. length (value_words v) ≡ 2) (λ v e. e) vs w
    (all (λ v. length (value_words v) ≡ 2) value-length vs)
    (λ s i l e q. zero-value (get_or vs s empty) i (h s i l (omega (arith, e))))

-- frames

module _ (p : List ℕ) (c : Config) (f : Frame) (sound : FrameSound p c f) where
  zero-frame : (i : ℕ) → (InValues f i → ⊥) → get_or (frame_values f) i 0 ≡ 0
  unfolding frame_values
  zero-frame i h =
      zero-stretch 32 (flatten (map value_words f.slots))
      (padded 16 (flatten (map value_words (reverse f.pending)))) i
      (omega (arith, values-size f.slots, sound.width))
      (λ l. zero-run f.slots i (λ s j m e u. h (subst (InValues f) (sym e) (slot s j m u))))
      (λ j e.
      zero-padded 16 (flatten (map value_words (reverse f.pending))) j
      (zero-run (reverse f.pending) j (λ d k m q u.
      h (subst (InValues f) (sym (e ∙ ap (λ (n : ℕ). 32 + n) q))
      (pending d k (omega (arith, m, length-reverse f.pending)) u)))))

-- the head of a frame has a fourth word
head-length : (f : Frame) → length (head_words f) ≡ 4
unfolding head_words
head-length f = refl

zero-head : (f : Frame) (i : ℕ) → (i < 3 → ⊥) → get_or (head_words f) i 0 ≡ 0
unfolding head_words
zero-head f zero h = absurd (h (omega arith))
zero-head f (suc zero) h = absurd (h (omega arith))
zero-head f (suc (suc zero)) h = absurd (h (omega arith))
zero-head f (suc (suc (suc zero))) h = refl
zero-head f (suc (suc (suc (suc i)))) h = refl

-- processes

zero-status : (pr : Process) (st : Status) → pr.status ≡ st → (i : ℕ) → (InPart pr i → ⊥)
    → get_or (status_words st ++ (length pr.frames ∷ [])) i 0 ≡ 0
unfolding status_words
zero-status pr st e zero h = absurd (h status)
zero-status pr running e (suc zero) h = refl
zero-status pr finished e (suc zero) h = refl
zero-status pr (stopped n) e (suc zero) h = absurd (h (fault n e))
zero-status pr st e (suc (suc zero)) h = absurd (h depth)
zero-status pr running e (suc (suc (suc i))) h = refl
zero-status pr finished e (suc (suc (suc i))) h = refl
zero-status pr (stopped n) e (suc (suc (suc i))) h = refl

module _ (p : List ℕ) (c : Config) (pr : Process) (sound : ProcessSound p c pr) where
  zero-part : (i : ℕ) → (InPart pr i → ⊥) → get_or (process_words pr) i 0 ≡ 0
  unfolding process_words
  zero-part i h =
      ap (λ (ws : List ℕ). get_or ws i 0) (append_assoc (padded 8 state) (padded 56 heads) (padded 448 frames))
      ∙ zero-stretch 8 state (padded 56 heads ++ padded 448 frames) i (status-size pr.status (length pr.frames))
      (λ l. zero-status pr pr.status refl i h)
      (λ j e.
      zero-stretch 56 heads (padded 448 frames) j (heads-size p c pr sound) (λ l. in-heads j e)
      (λ k q. zero-padded 448 frames k (in-frames k (omega (arith, e, q)))))
    where
      state : List ℕ
      state = status_words pr.status ++ (length pr.frames ∷ [])

      heads : List ℕ
      heads = flatten (map head_words (reverse pr.frames))

      frames : List ℕ
      frames = flatten (map frame_values (reverse pr.frames))

      within : (f : ℕ) → f < length (reverse pr.frames) → f < length pr.frames
      within f l = omega (arith, l, length-reverse pr.frames)

      in-heads : (j : ℕ) → i ≡ 8 + j → get_or heads j 0 ≡ 0
      in-heads j e =
          zero-groups head_words 4 no_frame (λ f. length (head_words f) ≡ 4) (λ f m. m) (reverse pr.frames) j
          (all (λ f. length (head_words f) ≡ 4) head-length (reverse pr.frames))
          (λ f k l q m. zero-head (frame_at pr f) k (λ u. h (subst (InPart pr) (place f k q) (head f k (within f l) u))))
        where
          place : (f k : ℕ) → j ≡ f * 4 + k → 8 + (4 * f + k) ≡ i
          place f k q = omega (arith, e, q)

      in-frames : (j : ℕ) → i ≡ 64 + j → get_or frames j 0 ≡ 0
      in-frames j e =
          zero-groups frame_values 48 no_frame (FrameSound p c) (frame-length p c) (reverse pr.frames) j
          (All-reverse (FrameSound p c) pr.frames sound.frames)
          (λ f k l q m. zero-frame p c (frame_at pr f) m k
          (λ u. h (subst (InPart pr) (place f k q) (values f k (within f l) u))))
        where
          place : (f k : ℕ) → j ≡ f * 48 + k → 64 + (48 * f + k) ≡ i
          place f k q = omega (arith, e, q)

-- the configuration

pub unused-zero : (p : List ℕ) (c : Config) → ConfigSound p c → (w : ℕ) → (InStore c w → ⊥) → get_or (encode c) w 0 ≡ 0
unfolding encode process_at
unused-zero p c sound w h =
    zero-stretch 512 (length c.processes ∷ c.qubits ∷ c.channels ∷ [])
    (padded 7680 (flatten (map process_words c.processes))) w (omega arith)
    (λ l. first w h) (λ j e. zero-padded 7680 (flatten (map process_words c.processes)) j (rest j e))
  where
    first : (i : ℕ) → (InStore c i → ⊥) → get_or (length c.processes ∷ c.qubits ∷ c.channels ∷ []) i 0 ≡ 0
    first zero h = absurd (h (counts 0 (omega arith)))
    first (suc zero) h = absurd (h (counts 1 (omega arith)))
    first (suc (suc zero)) h = absurd (h (counts 2 (omega arith)))
    first (suc (suc (suc i))) h = refl

    rest : (j : ℕ) → w ≡ 512 + j → get_or (flatten (map process_words c.processes)) j 0 ≡ 0
    rest j e =
        zero-groups process_words 512 unmade (ProcessSound p c) (process-length p c) c.processes j sound.processes
        (λ n i l q m. zero-part p c (process_at c n) m i (λ u. h (subst (InStore c) (place n i q) (part n i l u))))
      where
        place : (n i : ℕ) → j ≡ n * 512 + i → 512 + (512 * n + i) ≡ w
        place n i q = omega (arith, e, q)

-- Words 3 to 511 are no place of any configuration, so that they are 0 after every run.
pub head-unused : (c : Config) (w : ℕ) → 3 ≤ w → w < 512 → InStore c w → ⊥
head-unused c w low high (counts i h) = omega (arith, low, h)
head-unused c w low high (part n i h u) = omega (arith, high)
