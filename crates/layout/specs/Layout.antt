-- The final configuration as the first 8,192 words of the work store, unused places 0. docs/LAYOUT.md has the same in
-- words and figures; this is the only definition of it.
--
--   words 0 to 2      processes, qubits and channels made
--   part n            512 words from 512 * (n + 1) on: process n
--     words 0 to 2    status (1 running, 2 finished, 3 stopped), fault, number of frames
--     head f          4 words from 8 + 4 * f on: method, place, number of pending values
--     values f        48 words from 64 + 48 * f on: 16 slots, then up to 8 pending values, the lowest first
--   Frame 0 is the root; a value is two words, its tag and its number.
use Rattle.std.specs.Prelude.{ℕ, zero, suc, ◌-◌, true, false, cond, ℤ, pos, negsuc, get_or, take, drop, length, replicate, eqb, ltb}
use mathlib.Core.List.{List, [], ◌∷◌, ◌++◌, map, reverse, zip_with, flatten}
use Rattle.machine.specs.Value.{qubit, channel, end, Value, empty, int, bool, ref, word32, side_no, side_of}
use Rattle.machine.specs.State.{Frame, Status, running, finished, stopped, Process, Config}

-- lists of words

-- n words, the last ones 0
unfoldable pub padded : ℕ → List ℕ → List ℕ
padded n ws = ws ++ replicate (n - length ws) 0

-- the first n groups of `size` words
unfoldable pub groups : ℕ → ℕ → List ℕ → List (List ℕ)
groups size zero ws = []
groups size (suc n) ws = take size ws ∷ groups size n (drop size ws)

-- writing

-- the tag of a value is 0 empty, 1 int, 2 boolean, or the number that a trace line gives to the kind of thing
unfoldable pub value_words : Value → List ℕ
value_words empty = 0 ∷ 0 ∷ []
value_words (int z) = 1 ∷ word32 z ∷ []
value_words (bool b) = 2 ∷ side_no b ∷ []
value_words (ref (qubit n)) = 3 ∷ n ∷ []
value_words (ref (channel n)) = 4 ∷ n ∷ []
value_words (ref (end n false)) = 5 ∷ n ∷ []
value_words (ref (end n true)) = 6 ∷ n ∷ []

unfoldable pub head_words : Frame → List ℕ
head_words f = f.method ∷ f.place ∷ length f.pending ∷ 0 ∷ []

unfoldable pub frame_values : Frame → List ℕ
frame_values f =
    padded 32 (flatten (map value_words f.slots)) ++ padded 16 (flatten (map value_words (reverse f.pending)))

unfoldable pub status_words : Status → List ℕ
status_words running = 1 ∷ 0 ∷ []
status_words finished = 2 ∷ 0 ∷ []
status_words (stopped n) = 3 ∷ n ∷ []

unfoldable pub process_words : Process → List ℕ
process_words pr =
    padded 8 (status_words pr.status ++ (length pr.frames ∷ []))
    ++ padded 56 (flatten (map head_words (reverse pr.frames)))
    ++ padded 448 (flatten (map frame_values (reverse pr.frames)))

unfoldable pub encode : Config → List ℕ
encode c =
    padded 512 (length c.processes ∷ c.qubits ∷ c.channels ∷ [])
    ++ padded 7680 (flatten (map process_words c.processes))

-- reading back

unfoldable pub signed32 : ℕ → ℤ
signed32 w = cond (ltb w 2147483648) (pos w) (negsuc (4294967295 - w))

unfoldable pub tagged : ℕ → ℕ → Value
tagged tag n =
    cond (eqb tag 1) (int (signed32 n))
    (cond (eqb tag 2) (bool (side_of n))
    (cond (eqb tag 3) (ref (qubit n))
    (cond (eqb tag 4) (ref (channel n))
    (cond (eqb tag 5) (ref (end n false))
    (cond (eqb tag 6) (ref (end n true)) empty)))))

unfoldable pub value_from : List ℕ → Value
value_from ws = tagged (get_or ws 0 0) (get_or ws 1 0)

unfoldable pub frame_from : List ℕ → List ℕ → Frame
frame_from head values = record {
  method = get_or head 0 0;
  place = get_or head 1 0;
  slots = map value_from (groups 2 16 values);
  pending = reverse (map value_from (groups 2 (get_or head 2 0) (drop 32 values)));
}

unfoldable pub status_from : ℕ → ℕ → Status
status_from status fault = cond (eqb status 1) running (cond (eqb status 3) (stopped fault) finished)

unfoldable pub process_from : List ℕ → Process
process_from part = record {
  status = status_from (get_or part 0 0) (get_or part 1 0);
  frames =
      reverse (zip_with frame_from (groups 4 (get_or part 2 0) (drop 8 part)) (groups 48 (get_or part 2 0) (drop 64 part)));
}

unfoldable pub decode : List ℕ → Config
decode ws = record {
  processes = map process_from (groups 512 (get_or ws 0 0) (drop 512 ws));
  qubits = get_or ws 1 0;
  channels = get_or ws 2 0;
}
