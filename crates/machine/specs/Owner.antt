-- Reach, and the holder by lines alone.
use Rattle.std.specs.Prelude.{ℕ, suc, ◌<◌, ◌≡◌, ◌≢◌, ◌⊎◌, Bool, true, false, cond, not, get_or, take, length, T, eqb, ltb}
use mathlib.Core.List.{List, [], ◌∷◌, ◌++◌, foldl}
use Rattle.std.proofs.Math.Option.{Option, none, some}
use Rattle.lists.specs.Lists.{any}
use Rattle.table.specs.Ops.{one_qubit}
use Rattle.machine.specs.Value.{Thing, qubit, channel, end, Value, empty, int, bool, ref, covers, side_of, thing_kind, thing_no}
use Rattle.machine.specs.State.{Frame, Process, Config, Line, process_at}

-- Reach: "in a slot or pending value of any frame, a stopped process's too; an end also through its channel".
unfoldable pub names : Thing → Value → Bool
names t empty = false
names t (int z) = false
names t (bool b) = false
names t (ref u) = covers u t

unfoldable pub values_of : List Frame → List Value
values_of [] = []
values_of (f ∷ fs) = f.slots ++ f.pending ++ values_of fs

unfoldable pub reaches : Process → Thing → Bool
reaches pr t = any (names t) (values_of pr.frames)

-- Holder, by given lines alone: "of the thing's lines of kinds 1, 2 and 6 the last decides, by its process for 1 and
-- 2, by its a for 6; a channel's lines count for both its ends; without such a line, nobody."
abbrev pub given_thing : ℕ → ℕ → Thing → Bool
given_thing kind number t =
    cond (eqb kind 3) (covers (qubit number) t)
    (cond (eqb kind 4) (covers (channel number) t)
    (cond (eqb kind 5) (covers (end number false) t)
    (cond (eqb kind 6) (covers (end number true) t) false)))

-- the holder of t after line l, where h held it before
unfoldable pub holder_after : Thing → Option ℕ → Line → Option ℕ
holder_after t h l =
    cond (eqb l.kind 1) (cond (covers (qubit l.a) t) (some l.process) h)
    (cond (eqb l.kind 2) (cond (covers (channel l.a) t) (some l.process) h)
    (cond (eqb l.kind 6) (cond (given_thing l.b l.c t) (some l.a) h) h))

unfoldable pub holder : List Line → Thing → Option ℕ
holder ls t = foldl (holder_after t) none ls

-- process n holds t by these lines
abbrev pub Holds : List Line → ℕ → Thing → Type 0
Holds ls n t = holder ls t ≡ some n

-- the lines of the entries before entry k
unfoldable pub lines_before : ℕ → List Line → List Line
lines_before k [] = []
lines_before k (l ∷ ls) = cond (ltb l.entry k) (l ∷ lines_before k ls) (lines_before k ls)

-- how many of these lines are of this kind
unfoldable pub count_kind : ℕ → List Line → ℕ
count_kind k [] = 0
count_kind k (l ∷ ls) = cond (eqb l.kind k) (suc (count_kind k ls)) (count_kind k ls)

-- What demand 3 asks of a line, by the lines above it: a gate and a measurement fall on qubits that the line's process
-- holds; a meeting joins two processes, the sender holding the side that the line names, the receiver the other end; a
-- giving goes from a process that holds the thing to another.
pub record GateHeld (ls : List Line) (l : Line) : Type 0 where
  pub first : Holds ls l.process (qubit l.b)
  pub second : one_qubit l.a ≡ false → Holds ls l.process (qubit l.c)

pub record MeetingHeld (ls : List Line) (l : Line) : Type 0 where
  pub two : l.process ≢ l.a
  pub sender : Holds ls l.process (end l.b (side_of l.c))
  pub receiver : Holds ls l.a (end l.b (not (side_of l.c)))

-- One FORK may give a thing twice, or a channel and then an end of it ("all taken off first, so the child has every
-- one"), so that the line directly above may have given the thing already. Its giver holds it, a channel with its ends,
-- by the lines of the entries before; by the lines directly above it is held by the giver still, or by the receiver
-- already.
pub record GivingHeld (ls : List Line) (l : Line) : Type 0 where
  pub two : l.process ≢ l.a
  pub thing : Thing
  pub named : (l.b ≡ thing_kind thing) × (l.c ≡ thing_no thing)
  pub giver : (t : Thing) → T (covers thing t) → Holds (lines_before l.entry ls) l.process t
  pub above : (t : Thing) → T (covers thing t) → Holds ls l.process t ⊎ Holds ls l.a t

pub record LineHeld (ls : List Line) (l : Line) : Type 0 where
  pub gate : l.kind ≡ 3 → GateHeld ls l
  pub measurement : l.kind ≡ 4 → Holds ls l.process (qubit l.a)
  pub meeting : l.kind ≡ 7 → MeetingHeld ls l
  pub giving : l.kind ≡ 6 → GivingHeld ls l

-- "A new process, qubit or channel takes the count of those made before it as its number; no number is used again", by
-- the lines above. Process 0 has no line.
pub record LineNew (ls : List Line) (l : Line) : Type 0 where
  pub qubit : l.kind ≡ 1 → l.a ≡ count_kind 1 ls
  pub channel : l.kind ≡ 2 → l.a ≡ count_kind 2 ls
  pub child : l.kind ≡ 5 → l.a ≡ suc (count_kind 5 ls)

abbrev pub no_line : Line
no_line = record { entry = 0; process = 0; kind = 0; a = 0; b = 0; c = 0 }

-- Demand 3, of a configuration and the lines so far.
pub record Owned (c : Config) (ls : List Line) : Type 0 where
  -- nothing is in reach of two processes
  pub alone : (t : Thing) (m n : ℕ) → T (reaches (process_at c m) t) → T (reaches (process_at c n) t) → m ≡ n
  -- whatever a process reaches, the lines name it as holder
  pub named : (t : Thing) (n : ℕ) → T (reaches (process_at c n) t) → Holds ls n t
  -- every gate, measurement, meeting and giving is lawful by the lines above its own
  pub lawful : (i : ℕ) → i < length ls → LineHeld (take i ls) (get_or ls i no_line)
  -- every qubit, channel and process made is new by the lines above its own
  pub fresh : (i : ℕ) → i < length ls → LineNew (take i ls) (get_or ls i no_line)
