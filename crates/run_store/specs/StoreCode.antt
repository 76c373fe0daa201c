-- What the functions over lent words do, as functions on lists of words. These definitions follow the code; what they
-- mean for a process is proved in proofs/.
use Rattle.std.specs.Prelude.{ℕ, zero, suc, ◌+◌, ◌*◌, ◌-◌, ◌%◌, Bool, false, cond, ◌&&◌, ◌||◌, List, eqb, leb, get_or, set}
use Rattle.run_store.specs.declared.values.Val.{Val}
use Rattle.run_store.specs.declared.head.Head.{Head}

-- the two words of a value
unfoldable pub value_at : List ℕ → ℕ → Val
value_at w i = record { tag = get_or w i 0; number = get_or w (i + 1) 0 }

unfoldable pub put_value : List ℕ → ℕ → Val → List ℕ
put_value w i v = set (set w i v.tag) (i + 1) v.number

-- the head of a process whose part is w
unfoldable pub head_at : ℕ → ℕ
head_at frames = 4 + 4 * frames

unfoldable pub head_of : List ℕ → Head
head_of w = record {
  status = get_or w 0 0;
  fault = get_or w 1 0;
  frames = get_or w 2 0;
  method = get_or w (head_at (get_or w 2 0)) 0;
  place = get_or w (head_at (get_or w 2 0) + 1) 0;
  pending = get_or w (head_at (get_or w 2 0) + 2) 0;
}

-- the place and the number of pending values of the top frame, put back
unfoldable pub put_top : List ℕ → Head → List ℕ
put_top w h = set (set w (head_at h.frames + 1) h.place) (head_at h.frames + 2) h.pending

-- where slot s stands, and the value n below the next free one
unfoldable pub slot_at : Head → ℕ → ℕ
slot_at h s = 16 + 48 * h.frames + 2 * s

unfoldable pub top_at : Head → ℕ → ℕ
top_at h n = 48 + 48 * h.frames + 2 * h.pending - 2 * n

-- words are numbers below 2 ^ 32
abbrev pub word : ℕ → ℕ
word x = x % 4294967296

unfoldable pub moved_to : Head → ℕ → Head
moved_to h i = record {
  status = h.status;
  fault = h.fault;
  frames = h.frames;
  method = h.method;
  place = i;
  pending = h.pending;
}

unfoldable pub stepped : Head → Head
stepped h = record {
  status = h.status;
  fault = h.fault;
  frames = h.frames;
  method = h.method;
  place = word (h.place + 1);
  pending = h.pending;
}

unfoldable pub pushed : Head → Head
pushed h = record {
  status = h.status;
  fault = h.fault;
  frames = h.frames;
  method = h.method;
  place = h.place;
  pending = word (h.pending + 1);
}

unfoldable pub popped : Head → Head
popped h = record {
  status = h.status;
  fault = h.fault;
  frames = h.frames;
  method = h.method;
  place = h.place;
  pending = word (h.pending + 4294967295);
}

-- a process that starts in method m
unfoldable pub started_head : Head → ℕ → ℕ → Head
started_head h m i = record { status = 1; fault = 0; frames = 1; method = m; place = i; pending = 0 }

-- a process that has finished has no frames; one that has stopped keeps them
unfoldable pub finished_head : Head → Head
finished_head h = record { status = 2; fault = 0; frames = 0; method = 0; place = 0; pending = 0 }

unfoldable pub stopped_head : Head → ℕ → Head
stopped_head h n = record {
  status = 3;
  fault = n;
  frames = h.frames;
  method = h.method;
  place = h.place;
  pending = h.pending;
}

-- the status and the number of frames put back
unfoldable pub put_status : List ℕ → Head → List ℕ
put_status w h = set (set (set w 0 h.status) 1 h.fault) 2 h.frames

-- Values one after the other, from the one at `top` down; words cleared.

-- one of the first j is emptied
unfoldable pub empty_down : List ℕ → ℕ → ℕ → Bool
empty_down w top zero = false
empty_down w top (suc j) = empty_down w top j || eqb (get_or w (top - 2 * j) 0) 0

-- a value moved to another place, its old one emptied
unfoldable pub move_one : List ℕ → ℕ → ℕ → List ℕ
move_one w from to = put_value (put_value w to (value_at w from)) from (record { tag = 0; number = 0 })

-- the first j of n values moved to places from `to` up, the top one last
unfoldable pub moved_down : List ℕ → ℕ → ℕ → ℕ → ℕ → List ℕ
moved_down w top to n zero = w
moved_down w top to n (suc j) = move_one (moved_down w top to n j) (top - 2 * j) (to + 2 * (n - suc j))

unfoldable pub cleared_from : List ℕ → ℕ → ℕ → List ℕ
cleared_from w from zero = w
cleared_from w from (suc n) = set (cleared_from w from n) (from + n) 0

-- n pending values fewer
unfoldable pub less_by : Head → ℕ → Head
less_by h n = record {
  status = h.status;
  fault = h.fault;
  frames = h.frames;
  method = h.method;
  place = h.place;
  pending = word (h.pending + 4294967296 - n);
}

-- Giving away: a value is lost with the thing t, both by tag and number. Tags 3 qubit, 4 channel, 5 and 6 ends.
unfoldable pub tags_meet : ℕ → ℕ → Bool
tags_meet a b = eqb a b || (eqb a 4 && (leb 5 b && leb b 6) || eqb b 4 && (leb 5 a && leb a 6))

unfoldable pub lost_val : Val → Val → Bool
lost_val t v = eqb v.number t.number && tags_meet t.tag v.tag

-- the value at i emptied where it is lost with t
unfoldable pub emptied_one : List ℕ → Val → ℕ → List ℕ
emptied_one w t i = cond (lost_val t (value_at w i)) (put_value w i (record { tag = 0; number = 0 })) w

-- eight of them, from the one at i on
unfoldable pub emptied_eight : List ℕ → Val → ℕ → List ℕ
emptied_eight w t i =
    let one : List ℕ → ℕ → List ℕ = λ l k. emptied_one l t (i + k) in
    one (one (one (one (one (one (one (emptied_one w t i) 2) 4) 6) 8) 10) 12) 14

-- the first j values of a part, those lost with t emptied
unfoldable pub emptied_by : List ℕ → Val → ℕ → List ℕ
emptied_by w t zero = w
emptied_by w t (suc j) = emptied_one (emptied_by w t j) t (64 + 2 * j)
