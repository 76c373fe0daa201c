-- Giving a thing away empties, in the words of a process, just the values that the definitions empty.
use Prim.Native.Nat.{ℕ, zero, suc, ◌+◌, ◌*◌, ◌-◌, ◌≤◌, ◌<◌}
use mathlib.Core.Path.{◌≡◌, refl, sym, ◌∙◌, ap, ap₂, subst}
use mathlib.Core.Bool.{Bool, true, false, cond, ◌&&◌, ◌||◌}
use mathlib.Core.List.{List, [], ◌∷◌, ◌++◌, map, reverse, flatten, append-nil, reverse-cons}
use native.Mathlib.Nat.{le_of_suc-le-suc, not-suc-le-zero, le_of_suc-le}
use native.Mathlib.Omega.{arith}
use lib.ListN.{get_or, set, take, drop, length, replicate, length-append, length-map, length-reverse, length-replicate, length-drop, length-set, get_or-append}
use lib.Seq.{length-take-le, take-length, drop-length, set-append_left, set-get_or}
use Rattle.layout.proofs.Padded.{set_after, get_after}
use lib.Dec.{eqb}
use borrow.Author.Tests.{eqb-true, eqb-false, eq-eqb, ne_eqb}
use Rattle.lists.specs.Lists.{All}
use Rattle.lists.proofs.Any.{All-reverse}
use Rattle.layout.proofs.Groups.{padded-length, flatten-length}
use Rattle.layout.proofs.RoundTrip.{head-lengths}
use Rattle.machine.specs.Value.{Thing, qubit, channel, end, Value, empty, int, bool, ref, covers, word32}
use Rattle.machine.specs.State.{Frame}
use Rattle.machine.specs.Entry.{lost_with, without, frame_without, frames_without, runs}
use Rattle.layout.specs.Layout.{padded, value_words, head_words, frame_values, status_words, process_words}
use Rattle.layout.proofs.Frames.{tag_of, number_of, write, run_of, run_length, run-get, run-set, run-append, pending-run, frame-parts}
use Rattle.run_store.specs.StoreCode.{value_at, put_value, tags_meet, lost_val, emptied_one, emptied_by}
use Rattle.run_store.proofs.Vals.{val_of}

-- the test

and-false : (b : Bool) → (b && false) ≡ false
and-false true = refl
and-false false = refl

and-true : (b : Bool) → (b && true) ≡ b
and-true true = refl
and-true false = refl

or_same : (b : Bool) → (b || b) ≡ b
or_same true = refl
or_same false = refl

or_nothing : (b : Bool) → (b || false) ≡ b
or_nothing true = refl
or_nothing false = refl

eqb-sym : (m n : ℕ) → eqb m n ≡ eqb n m
eqb-sym m n = go (eqb m n) refl
  where
    go : (b : Bool) → eqb m n ≡ b → b ≡ eqb n m
    go true e = sym (eq-eqb n m (sym (eqb-true m n e)))
    go false e = sym (ne_eqb n m (λ q. eqb-false m n e (sym q)))

-- the two ways round
both_ways : (m k : ℕ) → (eqb k m && true) ≡ (eqb m k || eqb k m)
both_ways m k = and-true (eqb k m) ∙ sym (ap (λ (b : Bool). b || eqb k m) (eqb-sym m k) ∙ or_same (eqb k m))

one_way : (m k : ℕ) → (eqb k m && true) ≡ (eqb m k || false)
one_way m k = and-true (eqb k m) ∙ eqb-sym k m ∙ sym (or_nothing (eqb m k))

same_end : (m k : ℕ) → (eqb k m && true) ≡ ((eqb m k && true) || (eqb k m && true))
same_end m k = both_ways m k ∙ ap₂ ◌||◌ (sym (and-true (eqb m k))) (sym (and-true (eqb k m)))

other-end : (m k : ℕ) → (eqb k m && false) ≡ ((eqb m k && false) || (eqb k m && false))
other-end m k = and-false (eqb k m) ∙ sym (ap₂ ◌||◌ (and-false (eqb m k)) (and-false (eqb k m)))

-- a value is lost in the store just where the definitions empty it
pub lost-test : (t : Thing) (v : Value) → lost_val (val_of (ref t)) (val_of v) ≡ lost_with t v
unfolding lost_val tags_meet val_of tag_of number_of value_words lost_with covers
lost-test (qubit m) empty = and-false (eqb 0 m)
lost-test (qubit m) (int z) = and-false (eqb (word32 z) m)
lost-test (qubit m) (bool true) = and-false (eqb 1 m)
lost-test (qubit m) (bool false) = and-false (eqb 0 m)
lost-test (qubit m) (ref (qubit k)) = both_ways m k
lost-test (qubit m) (ref (channel k)) = and-false (eqb k m)
lost-test (qubit m) (ref (end k true)) = and-false (eqb k m)
lost-test (qubit m) (ref (end k false)) = and-false (eqb k m)
lost-test (channel m) empty = and-false (eqb 0 m)
lost-test (channel m) (int z) = and-false (eqb (word32 z) m)
lost-test (channel m) (bool true) = and-false (eqb 1 m)
lost-test (channel m) (bool false) = and-false (eqb 0 m)
lost-test (channel m) (ref (qubit k)) = and-false (eqb k m)
lost-test (channel m) (ref (channel k)) = both_ways m k
lost-test (channel m) (ref (end k true)) = one_way m k
lost-test (channel m) (ref (end k false)) = one_way m k
lost-test (end m true) empty = and-false (eqb 0 m)
lost-test (end m true) (int z) = and-false (eqb (word32 z) m)
lost-test (end m true) (bool true) = and-false (eqb 1 m)
lost-test (end m true) (bool false) = and-false (eqb 0 m)
lost-test (end m true) (ref (qubit k)) = and-false (eqb k m)
lost-test (end m true) (ref (channel k)) = and-true (eqb k m)
lost-test (end m true) (ref (end k true)) = same_end m k
lost-test (end m true) (ref (end k false)) = other-end m k
lost-test (end m false) empty = and-false (eqb 0 m)
lost-test (end m false) (int z) = and-false (eqb (word32 z) m)
lost-test (end m false) (bool true) = and-false (eqb 1 m)
lost-test (end m false) (bool false) = and-false (eqb 0 m)
lost-test (end m false) (ref (qubit k)) = and-false (eqb k m)
lost-test (end m false) (ref (channel k)) = and-true (eqb k m)
lost-test (end m false) (ref (end k true)) = other-end m k
lost-test (end m false) (ref (end k false)) = same_end m k

-- values in a row

-- two words of a row made 0
row-cleared : (us : List Value) (j : ℕ) (ys : List ℕ) → j < length us
    → set (set (run_of us ++ ys) (2 * j) 0) (2 * j + 1) 0 ≡ run_of (set us j empty) ++ ys
unfolding write tag_of number_of value_words
row-cleared us j ys h =
    ap (λ (l : List ℕ). set l (2 * j + 1) 0) (set-append_left (run_of us) ys (2 * j) 0 (omega (arith, run_length us)))
    ∙ set-append_left (set (run_of us) (2 * j) 0) ys (2 * j + 1) 0
    (omega (arith, length-set (run_of us) (2 * j) 0, run_length us, h))
    ∙ ap (λ (l : List ℕ). l ++ ys) (run-set us j empty h)

module _ (t : Thing) where
  -- the first j values once t is given, the others as they were
  partly : ℕ → List Value → List Value
  partly j vs = map (without (t ∷ [])) (take j vs) ++ drop j vs

  partly-length : (j : ℕ) (vs : List Value) → j ≤ length vs → length (partly j vs) ≡ length vs
  unfolding partly
  partly-length j vs h =
      length-append (map (without (t ∷ [])) (take j vs)) (drop j vs)
      ∙ omega (arith, length-map (take j vs) (without (t ∷ [])), length-take-le j vs h, length-drop j vs)

  partly-at : (j : ℕ) (vs : List Value) → j < length vs → get_or (partly j vs) j empty ≡ get_or vs j empty
  unfolding partly
  partly-at zero (v ∷ vs) h = refl
  partly-at j [] h = absurd (not-suc-le-zero h)
  partly-at (suc j) (v ∷ vs) h = partly-at j vs (le_of_suc-le-suc h)

  partly_more : (j : ℕ) (vs : List Value) → j < length vs
      → set (partly j vs) j (without (t ∷ []) (get_or vs j empty)) ≡ partly (suc j) vs
  unfolding partly
  partly_more j [] h = absurd (not-suc-le-zero h)
  partly_more zero (v ∷ vs) h = refl
  partly_more (suc j) (v ∷ vs) h =
      ap {B = List Value} (λ l. without (t ∷ []) v ∷ l) (partly_more j vs (le_of_suc-le-suc h))

  partly_none : (vs : List Value) → vs ≡ partly 0 vs
  unfolding partly
  partly_none vs = refl

  partly-all : (vs : List Value) → partly (length vs) vs ≡ map (without (t ∷ [])) vs
  unfolding partly
  partly-all vs =
      ap₂ (λ (a b : List Value). map (without (t ∷ [])) a ++ b) (take-length vs) (drop-length vs)
      ∙ append-nil (map (without (t ∷ [])) vs)

  module _ (xs ys : List ℕ) (front : length xs ≡ 64) where
    -- a value among words, read
    row-value : (us : List Value) (j : ℕ) → j < length us
        → value_at (xs ++ (run_of us ++ ys)) (64 + 2 * j) ≡ val_of (get_or us j empty)
    unfolding value_at val_of tag_of number_of
    row-value us j h = λ i. record {
      tag = word 0 (64 + 2 * j) (omega arith) (omega arith) i;
      number = word 1 (64 + 2 * j + 1) (omega arith) (omega arith) i;
    }
      where
        word : (b k : ℕ) → b < 2 → k ≡ 64 + (2 * j + b)
            → get_or (xs ++ (run_of us ++ ys)) k 0 ≡ get_or (value_words (get_or us j empty)) b 0
        word b k l e =
            ap (λ (n : ℕ). get_or (xs ++ (run_of us ++ ys)) n 0) e
            ∙ get_after xs (run_of us ++ ys) 64 (2 * j + b) front
            ∙ get_or-append (run_of us) ys 0 (2 * j + b) (omega (arith, run_length us, h, l))
            ∙ run-get us j b h l

    -- and written
    row_put : (us : List Value) (j : ℕ) → j < length us
        → put_value (xs ++ (run_of us ++ ys)) (64 + 2 * j) (record { tag = 0; number = 0 }) ≡ xs ++
        (run_of (set us j empty) ++ ys)
    unfolding put_value
    row_put us j h =
        ap (λ (l : List ℕ). set l (64 + 2 * j + 1) 0) (set_after xs (run_of us ++ ys) 64 (2 * j) 0 front)
        ∙ ap (λ (k : ℕ). set (xs ++ set (run_of us ++ ys) (2 * j) 0) k 0) {x = 64 + 2 * j + 1} {y = 64 + (2 * j + 1)}
        (omega arith)
        ∙ set_after xs (set (run_of us ++ ys) (2 * j) 0) 64 (2 * j + 1) 0 front
        ∙ ap (λ (l : List ℕ). xs ++ l) (row-cleared us j ys h)

    row-emptied : (us : List Value) (j : ℕ) → j < length us
        → emptied_one (xs ++ (run_of us ++ ys)) (val_of (ref t)) (64 + 2 * j) ≡ xs ++
        (run_of (set us j (without (t ∷ []) (get_or us j empty))) ++ ys)
    unfolding emptied_one without
    row-emptied us j h =
        ap (λ (b : Bool). cond b (put_value (xs ++ (run_of us ++ ys)) (64 + 2 * j) (record { tag = 0; number = 0 }))
        (xs ++ (run_of us ++ ys)))
        (ap (lost_val (val_of (ref t))) (row-value us j h) ∙ lost-test t (get_or us j empty))
        ∙ chosen (lost_with t (get_or us j empty))
      where
        chosen : (b : Bool)
            → cond b (put_value (xs ++ (run_of us ++ ys)) (64 + 2 * j) (record { tag = 0; number = 0 }))
            (xs ++ (run_of us ++ ys))
            ≡ xs ++ (run_of (set us j (cond (b || false) empty (get_or us j empty))) ++ ys)
        chosen true = row_put us j h
        chosen false = ap (λ (l : List Value). xs ++ (run_of l ++ ys)) (sym (set-get_or us j empty))

    -- all values of the row
    row-given : (vs : List Value) (j : ℕ) → j ≤ length vs
        → emptied_by (xs ++ (run_of vs ++ ys)) (val_of (ref t)) j ≡ xs ++ (run_of (partly j vs) ++ ys)
    unfolding emptied_by
    row-given vs zero h = ap (λ (l : List Value). xs ++ (run_of l ++ ys)) start
      where
        start : vs ≡ partly 0 vs
        start = partly_none vs
    row-given vs (suc j) h =
        ap (λ (w : List ℕ). emptied_one w (val_of (ref t)) (64 + 2 * j)) (row-given vs j (le_of_suc-le h))
        ∙ row-emptied (partly j vs) j (subst (λ (k : ℕ). j < k) (sym (partly-length j vs (le_of_suc-le h))) h)
        ∙ ap (λ (l : List Value). xs ++ (run_of l ++ ys))
        (ap (λ (v : Value). set (partly j vs) j (without (t ∷ []) v)) (partly-at j vs h) ∙ partly_more j vs h)

-- frames as rows of values

-- the 24 values of a frame as its words have them: the slots, the pending values from the lowest up, and empty ones
frame_row : Frame → List Value
frame_row f = f.slots ++ (reverse f.pending ++ replicate (8 - length f.pending) empty)

pub record Sized (f : Frame) : Type 0 where
  pub width : length f.slots ≡ 16
  pub height : length f.pending ≤ 8

row-length : (f : Frame) → Sized f → length (frame_row f) ≡ 24
unfolding frame_row
row-length f h =
    length-append f.slots (reverse f.pending ++ replicate (8 - length f.pending) empty)
    ∙ omega (
      arith,
      h.width,
      h.height,
      length-append (reverse f.pending) (replicate (8 - length f.pending) empty),
      length-reverse f.pending,
      length-replicate (8 - length f.pending) empty,
    )

-- a list as long as it is padded to has no padding
padded-full : (n : ℕ) (ws : List ℕ) → length ws ≡ n → padded n ws ≡ ws
unfolding padded
padded-full n ws e = ap (λ (k : ℕ). ws ++ replicate k 0) {x = n - length ws} {y = 0} (omega (arith, e)) ∙ append-nil ws

run-empty : (m : ℕ) → run_of (replicate m empty) ≡ replicate (2 * m) 0
unfolding run_of flatten value_words
run-empty zero = refl
run-empty (suc m) =
    ap {B = List ℕ} (λ l. 0 ∷ 0 ∷ l) (run-empty m)
    ∙ ap (λ (k : ℕ). replicate {A = ℕ} k 0) {x = suc (suc (2 * m))} {y = 2 * suc m} (omega arith)

run_none : run_of [] ≡ []
unfolding run_of flatten
run_none = refl

pending-padded : (vs : List Value) → length vs ≤ 8
    → padded 16 (pending-run vs) ≡ run_of (reverse vs) ++ replicate (2 * (8 - length vs)) 0
unfolding padded pending-run
pending-padded vs h =
    ap (λ (k : ℕ). run_of (reverse vs) ++ replicate k 0) {x = 16 - length (run_of (reverse vs))}
    {y = 2 * (8 - length vs)}
    (omega (arith, run_length (reverse vs), length-reverse vs))

frame-row : (f : Frame) → Sized f → frame_values f ≡ run_of (frame_row f)
unfolding frame_row
frame-row f h =
    frame-parts f
    ∙ ap₂ ◌++◌ (padded-full 32 (run_of f.slots) (run_length f.slots ∙ omega (arith, h.width)))
    (pending-padded f.pending h.height
    ∙ ap (λ (l : List ℕ). run_of (reverse f.pending) ++ l) (sym (run-empty (8 - length f.pending)))
    ∙ sym (run-append (reverse f.pending) (replicate (8 - length f.pending) empty)))
    ∙ sym (run-append f.slots (reverse f.pending ++ replicate (8 - length f.pending) empty))

rows_of : List Frame → List Value
rows_of [] = []
rows_of (f ∷ fs) = frame_row f ++ rows_of fs

rows-length : (fs : List Frame) → All Sized fs → length (rows_of fs) ≡ 24 * length fs
unfolding rows_of
rows-length [] a = refl
rows-length (f ∷ fs) a =
    length-append (frame_row f) (rows_of fs) ∙ omega (arith, row-length f a.0, rows-length fs a.1)

rows-words : (fs : List Frame) → All Sized fs → flatten (map frame_values fs) ≡ run_of (rows_of fs)
unfolding rows_of flatten
rows-words [] a = sym run_none
rows-words (f ∷ fs) a = ap₂ ◌++◌ (frame-row f a.0) (rows-words fs a.1) ∙ sym (run-append (frame_row f) (rows_of fs))

-- giving, row by row

map-append : {A B : Type 0} (g : A → B) (xs ys : List A) → map g (xs ++ ys) ≡ map g xs ++ map g ys
map-append g [] ys = refl
map-append {B = B} g (x ∷ xs) ys = ap {B = List B} (λ l. g x ∷ l) (map-append g xs ys)

map-reverse : {A B : Type 0} (g : A → B) (xs : List A) → map g (reverse xs) ≡ reverse (map g xs)
map-reverse g [] = refl
map-reverse g (x ∷ xs) =
    ap (map g) (reverse-cons x xs)
    ∙ map-append g (reverse xs) (x ∷ [])
    ∙ ap (λ l. l ++ (g x ∷ [])) (map-reverse g xs)
    ∙ sym (reverse-cons (g x) (map g xs))

module _ (t : Thing) where
  map-empties : (m : ℕ) → map (without (t ∷ [])) (replicate m empty) ≡ replicate m empty
  unfolding without lost_with
  map-empties zero = refl
  map-empties (suc m) = ap {B = List Value} (λ l. empty ∷ l) (map-empties m)

  row-without : (f : Frame) → map (without (t ∷ [])) (frame_row f) ≡ frame_row (frame_without (t ∷ []) f)
  unfolding frame_row frame_without
  row-without f =
      map-append (without (t ∷ [])) f.slots (reverse f.pending ++ replicate (8 - length f.pending) empty)
      ∙ ap (λ (l : List Value). map (without (t ∷ [])) f.slots ++ l)
      (map-append (without (t ∷ [])) (reverse f.pending) (replicate (8 - length f.pending) empty)
      ∙ ap₂ ◌++◌ (map-reverse (without (t ∷ [])) f.pending)
      (map-empties (8 - length f.pending) ∙ ap (λ (k : ℕ). replicate (8 - k) empty)
      (sym (length-map f.pending (without (t ∷ []))))))

  rows-without : (fs : List Frame) → map (without (t ∷ [])) (rows_of fs) ≡ rows_of (map (frame_without (t ∷ [])) fs)
  unfolding rows_of
  rows-without [] = refl
  rows-without (f ∷ fs) =
      map-append (without (t ∷ [])) (frame_row f) (rows_of fs) ∙ ap₂ ◌++◌ (row-without f) (rows-without fs)

-- processes

-- the words in front of a process's values
abbrev front_of : List Frame → List ℕ
front_of fs = padded 8 (1 ∷ 0 ∷ length fs ∷ []) ++ padded 56 (flatten (map head_words (reverse fs)))

front_length : (fs : List Frame) → length fs ≤ 8 → length (front_of fs) ≡ 64
front_length fs h =
    length-append (padded 8 (1 ∷ 0 ∷ length fs ∷ [])) (padded 56 (flatten (map head_words (reverse fs))))
    ∙ ap₂ ◌+◌ (padded-length 8 (1 ∷ 0 ∷ length fs ∷ []) (omega arith))
    (padded-length 56 (flatten (map head_words (reverse fs)))
    (omega (
      arith,
      flatten-length 4 (map head_words (reverse fs)) (head-lengths (reverse fs)),
      length-map (reverse fs)
          head_words,
      length-reverse fs,
    )))

words-rows : (fs : List Frame) → All Sized fs
    → process_words (runs fs) ≡ front_of fs ++
    (run_of (rows_of (reverse fs)) ++ replicate (448 - length (run_of (rows_of (reverse fs)))) 0)
unfolding process_words status_words padded
words-rows fs a =
    ap (λ (l : List ℕ). front_of fs ++ (l ++ replicate (448 - length l) 0))
    (rows-words (reverse fs) (All-reverse Sized fs a))

module _ (t : Thing) where
  sized-without : (fs : List Frame) → All Sized fs → All Sized (frames_without (t ∷ []) fs)
  unfolding frames_without frame_without
  sized-without [] a = tt
  sized-without (f ∷ fs) a = (
    record {
      width = length-map f.slots (without (t ∷ [])) ∙ a.0.width;
      height = subst (λ (k : ℕ). k ≤ 8) (sym (length-map f.pending (without (t ∷ [])))) a.0.height;
    },
    sized-without fs a.1,
  )

  heads-without : (fs : List Frame) → map head_words (map (frame_without (t ∷ [])) fs) ≡ map head_words fs
  unfolding frame_without head_words
  heads-without [] = refl
  heads-without (f ∷ fs) =
      ap₂ {C = List (List ℕ)} (λ n l. (f.method ∷ f.place ∷ n ∷ 0 ∷ []) ∷ l)
      (length-map f.pending (without (t ∷ []))) (heads-without fs)

  front-without : (fs : List Frame) → front_of (frames_without (t ∷ []) fs) ≡ front_of fs
  unfolding frames_without
  front-without fs =
      ap₂ (λ (n : ℕ) (l : List (List ℕ)). padded 8 (1 ∷ 0 ∷ n ∷ []) ++ padded 56 (flatten l))
      (length-map fs (frame_without (t ∷ [])))
      (ap (map head_words) (sym (map-reverse (frame_without (t ∷ [])) fs)) ∙ heads-without (reverse fs))

  rows-given : (fs : List Frame)
      → map (without (t ∷ [])) (rows_of (reverse fs)) ≡ rows_of (reverse (frames_without (t ∷ []) fs))
  unfolding frames_without
  rows-given fs = rows-without t (reverse fs) ∙ ap rows_of (map-reverse (frame_without (t ∷ [])) fs)

  -- a process's words once t is given away
  pub given-words : (fs : List Frame) → All Sized fs → length fs ≤ 8
      → emptied_by (process_words (runs fs)) (val_of (ref t)) (24 * length fs) ≡ process_words
      (runs (frames_without (t ∷ []) fs))
  given-words fs a h =
      ap (λ (w : List ℕ). emptied_by w (val_of (ref t)) (24 * length fs)) (words-rows fs a)
      ∙ row-given t (front_of fs) zeros (front_length fs h) rows (24 * length fs) (omega (arith, count))
      ∙ ap (λ (k : ℕ). front_of fs ++ (run_of (partly t k rows) ++ zeros)) (sym count)
      ∙ ap (λ (l : List Value). front_of fs ++ (run_of l ++ zeros)) (partly-all t rows ∙ rows-given fs)
      ∙ ap₂
      (λ (x : List ℕ) (k : ℕ). x ++ (run_of (rows_of (reverse (frames_without (t ∷ []) fs))) ++ replicate (448 - k) 0))
      (sym (front-without fs)) same-long
      ∙ sym (words-rows (frames_without (t ∷ []) fs) (sized-without fs a))
    where
      rows : List Value
      rows = rows_of (reverse fs)

      zeros : List ℕ
      zeros = replicate (448 - length (run_of rows)) 0

      count : length rows ≡ 24 * length fs
      count = rows-length (reverse fs) (All-reverse Sized fs a) ∙ ap (λ (k : ℕ). 24 * k) (length-reverse fs)

      same-long : length (run_of rows) ≡ length (run_of (rows_of (reverse (frames_without (t ∷ []) fs))))
      same-long =
          run_length rows
          ∙ ap (λ (k : ℕ). 2 * k) (sym (length-map rows (without (t ∷ []))) ∙ ap length (rows-given fs))
          ∙ sym (run_length (rows_of (reverse (frames_without (t ∷ []) fs))))
