-- The words of a running process under reads and writes of its top frame. That frame is the last of its groups, so
-- a change of it changes one stretch of heads and one stretch of values, and nothing else.
use Prim.Native.Nat.{ℕ, suc, ◌+◌, ◌*◌, ◌<◌}
use mathlib.Core.Path.{◌≡◌, refl, sym, ◌∙◌, ap, ap₂}
use mathlib.Core.List.{List, [], ◌∷◌, ◌++◌, map, reverse, flatten, append_assoc, append-nil, reverse-cons}
use native.Mathlib.Omega.{arith}
use lib.ListN.{get_or, set, length, length-append, length-reverse, length-map, get_or-append}
use lib.Seq.{set-append_left}
use Rattle.lists.specs.Lists.{All}
use Rattle.lists.proofs.Any.{All-map, All-implies, All-reverse}
use Rattle.machine.specs.State.{Frame, Config}
use Rattle.machine.specs.Entry.{runs}
use Rattle.machine.specs.Sound.{FrameSound}
use Rattle.layout.specs.Layout.{padded, head_words, frame_values, status_words, process_words}
use Rattle.layout.proofs.Groups.{padded-length, flatten-length}
use Rattle.layout.proofs.Padded.{set_after, get_after, padded-get, padded-set}
use Rattle.layout.proofs.RoundTrip.{frame-length, head-lengths}

-- a part of the store: so many callers, their heads and values, and the head and the values of the top frame
unfoldable pub part : ℕ → List ℕ → List ℕ → List ℕ → List ℕ → List ℕ
part k heads head values vs =
    padded 8 (1 ∷ 0 ∷ suc k ∷ []) ++ padded 56 (heads ++ head) ++ padded 448 (values ++ vs)

-- the stretches are as long as the layout says
pub record Fitting (k : ℕ) (heads head values vs : List ℕ) : Type 0 where
  pub depth : k < 8
  pub heads_long : length heads ≡ 4 * k
  pub head_long : length head ≡ 4
  pub values_long : length values ≡ 48 * k
  pub frame_long : length vs ≡ 48

module _ (k : ℕ) (heads head values vs : List ℕ) (fit : Fitting k heads head values vs) where
  state-length : length (padded 8 (1 ∷ 0 ∷ suc k ∷ [])) ≡ 8
  state-length = padded-length 8 (1 ∷ 0 ∷ suc k ∷ []) (omega arith)

  heads-length : length (heads ++ head) ≡ 4 * k + 4
  heads-length = length-append heads head ∙ ap₂ ◌+◌ fit.heads_long fit.head_long

  values_length : length (values ++ vs) ≡ 48 * k + 48
  values_length = length-append values vs ∙ ap₂ ◌+◌ fit.values_long fit.frame_long

  heads-padded : length (padded 56 (heads ++ head)) ≡ 56
  heads-padded = padded-length 56 (heads ++ head) (omega (arith, heads-length, fit.depth))

  front_length : length (padded 8 (1 ∷ 0 ∷ suc k ∷ []) ++ padded 56 (heads ++ head)) ≡ 64
  front_length =
      length-append (padded 8 (1 ∷ 0 ∷ suc k ∷ [])) (padded 56 (heads ++ head)) ∙ ap₂ ◌+◌ state-length heads-padded

  pub part_count : get_or (part k heads head values vs) 2 0 ≡ suc k
  unfolding part padded
  part_count = refl

  pub part-status : get_or (part k heads head values vs) 0 0 ≡ 1
  unfolding part padded
  part-status = refl

  pub part-fault : get_or (part k heads head values vs) 1 0 ≡ 0
  unfolding part padded
  part-fault = refl

  pub part-head-get : (i j : ℕ) → j < 4 → i ≡ 8 + (4 * k + j) → get_or (part k heads head values vs) i 0 ≡ get_or head j 0
  unfolding part
  part-head-get i j h e =
      get_or-append (padded 8 (1 ∷ 0 ∷ suc k ∷ []) ++ padded 56 (heads ++ head)) (padded 448 (values ++ vs)) 0 i
      (omega (arith, front_length, fit.depth))
      ∙ ap (λ (n : ℕ). get_or (padded 8 (1 ∷ 0 ∷ suc k ∷ []) ++ padded 56 (heads ++ head)) n 0) e
      ∙ get_after (padded 8 (1 ∷ 0 ∷ suc k ∷ [])) (padded 56 (heads ++ head)) 8 (4 * k + j) state-length
      ∙ padded-get 56 (heads ++ head) (4 * k + j) (omega (arith, heads-length))
      ∙ get_after heads head (4 * k) j fit.heads_long

  pub part-head-set : (i j x : ℕ) → j < 4 → i ≡ 8 + (4 * k + j)
      → set (part k heads head values vs) i x ≡ part k heads (set head j x) values vs
  unfolding part
  part-head-set i j x h e =
      set-append_left (padded 8 (1 ∷ 0 ∷ suc k ∷ []) ++ padded 56 (heads ++ head)) (padded 448 (values ++ vs)) i x
      (omega (arith, front_length, fit.depth))
      ∙ ap (λ (l : List ℕ). l ++ padded 448 (values ++ vs))
      (ap (λ (n : ℕ). set (padded 8 (1 ∷ 0 ∷ suc k ∷ []) ++ padded 56 (heads ++ head)) n x) e
      ∙ set_after (padded 8 (1 ∷ 0 ∷ suc k ∷ [])) (padded 56 (heads ++ head)) 8 (4 * k + j) x state-length
      ∙ ap (λ (l : List ℕ). padded 8 (1 ∷ 0 ∷ suc k ∷ []) ++ l)
      (padded-set 56 (heads ++ head) (4 * k + j) x (omega (arith, heads-length))
      ∙ ap (padded 56) (set_after heads head (4 * k) j x fit.heads_long)))

  pub part-value-get : (i j : ℕ) → j < 48 → i ≡ 64 + (48 * k + j) → get_or (part k heads head values vs) i 0 ≡ get_or vs j 0
  unfolding part
  part-value-get i j h e =
      ap (λ (n : ℕ). get_or (padded 8 (1 ∷ 0 ∷ suc k ∷ []) ++ padded 56 (heads ++ head) ++ padded 448 (values ++ vs)) n 0)
      e
      ∙ get_after (padded 8 (1 ∷ 0 ∷ suc k ∷ []) ++ padded 56 (heads ++ head)) (padded 448 (values ++ vs)) 64
      (48 * k + j) front_length
      ∙ padded-get 448 (values ++ vs) (48 * k + j) (omega (arith, values_length))
      ∙ get_after values vs (48 * k) j fit.values_long

  pub part-value-set : (i j x : ℕ) → j < 48 → i ≡ 64 + (48 * k + j)
      → set (part k heads head values vs) i x ≡ part k heads head values (set vs j x)
  unfolding part
  part-value-set i j x h e =
      ap (λ (n : ℕ). set (padded 8 (1 ∷ 0 ∷ suc k ∷ []) ++ padded 56 (heads ++ head) ++ padded 448 (values ++ vs)) n x)
      e
      ∙ set_after (padded 8 (1 ∷ 0 ∷ suc k ∷ []) ++ padded 56 (heads ++ head)) (padded 448 (values ++ vs)) 64
      (48 * k + j) x front_length
      ∙ ap (λ (l : List ℕ). padded 8 (1 ∷ 0 ∷ suc k ∷ []) ++ padded 56 (heads ++ head) ++ l)
      (padded-set 448 (values ++ vs) (48 * k + j) x (omega (arith, values_length))
      ∙ ap (padded 448) (set_after values vs (48 * k) j x fit.values_long))

-- processes

-- the heads and the values of the callers, the root first
pub heads_below : List Frame → List ℕ
heads_below fs = flatten (map head_words (reverse fs))

pub values_below : List Frame → List ℕ
values_below fs = flatten (map frame_values (reverse fs))

flatten-append : (xs ys : List (List ℕ)) → flatten (xs ++ ys) ≡ flatten xs ++ flatten ys
unfolding flatten
flatten-append [] ys = refl
flatten-append (x ∷ xs) ys =
    ap (λ (l : List ℕ). x ++ l) (flatten-append xs ys) ∙ sym (append_assoc x (flatten xs) (flatten ys))

map-append : (g : Frame → List ℕ) (xs ys : List Frame) → map g (xs ++ ys) ≡ map g xs ++ map g ys
map-append g [] ys = refl
map-append g (x ∷ xs) ys = ap {B = List (List ℕ)} (λ l. g x ∷ l) (map-append g xs ys)

-- the groups of frames, the one at work last
last-group : (g : Frame → List ℕ) (f : Frame) (fs : List Frame)
    → flatten (map g (reverse (f ∷ fs))) ≡ flatten (map g (reverse fs)) ++ g f
unfolding flatten
last-group g f fs =
    ap (λ (l : List Frame). flatten (map g l)) (reverse-cons f fs)
    ∙ ap flatten (map-append g (reverse fs) (f ∷ []))
    ∙ flatten-append (map g (reverse fs)) (g f ∷ [])
    ∙ ap (λ (l : List ℕ). flatten (map g (reverse fs)) ++ l) (append-nil (g f))

pub process-part : (f : Frame) (fs : List Frame)
    → process_words (runs (f ∷ fs)) ≡ part (length fs) (heads_below fs) (head_words f) (values_below fs) (frame_values f)
unfolding process_words part heads_below values_below status_words
process-part f fs =
    ap₂ (λ (a b : List ℕ). padded 8 (1 ∷ 0 ∷ suc (length fs) ∷ []) ++ padded 56 a ++ padded 448 b)
    (last-group head_words f fs)
    (last-group frame_values f fs)

pub process-fitting : (p : List ℕ) (c : Config) (f : Frame) (fs : List Frame) → All (FrameSound p c) (f ∷ fs)
    → length fs < 8
    → Fitting (length fs) (heads_below fs) (head_words f) (values_below fs) (frame_values f)
unfolding heads_below values_below head_words
process-fitting p c f fs h d = record {
  depth = d;
  heads_long =
      flatten-length 4 (map head_words (reverse fs)) (head-lengths (reverse fs))
      ∙ omega (arith, length-map (reverse fs) head_words, length-reverse fs);
  head_long = refl;
  values_long =
      flatten-length 48 (map frame_values (reverse fs))
      (All-map (λ g. length g ≡ 48) frame_values (reverse fs)
      (All-implies (FrameSound p c) (λ g. length (frame_values g) ≡ 48) (frame-length p c) (reverse fs)
      (All-reverse (FrameSound p c) fs h.1)))
      ∙ omega (arith, length-map (reverse fs) frame_values, length-reverse fs);
  frame_long = frame-length p c f h.0;
}

-- the callers' groups with one more caller
pub below-heads : (f : Frame) (fs : List Frame) → heads_below (f ∷ fs) ≡ heads_below fs ++ head_words f
unfolding heads_below
below-heads f fs = last-group head_words f fs

pub below-values : (f : Frame) (fs : List Frame) → values_below (f ∷ fs) ≡ values_below fs ++ frame_values f
unfolding values_below
below-values f fs = last-group frame_values f fs
