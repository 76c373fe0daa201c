-- Paper 7, of what `run` leaves in the lent trace and the lent work store, whatever they held: "Before the first entry
-- and after each, every stored holder equals the one the lines give, 255 for a thing not yet made."
--
-- `thing_at` and `holder_no` (crate layout, specs/Holders.antt) say which thing's holder stands at which word, and how.
-- `store_left`, `lines_read` and `config_read` (specs/Answers.antt) are as in Demands.antt; `holder` (crate machine,
-- specs/Owner.antt) is the holder by given lines alone, and `Made` (specs/Sound.antt) says that the thing is among
-- those that the configuration counts.
use Prim.Native.Nat.{ℕ, ◌+◌, ◌%◌, ◌<◌}
use mathlib.Core.Path.{◌≡◌, refl, sym, ◌∙◌, ap, ap₂, subst}
use mathlib.Core.Bool.{Bool, cond, ◌||◌}
use mathlib.Core.List.{List}
use mathlib.Core.Option.{Option, none, some}
use native.Mathlib.Nat.{mod-eq_of_lt}
use native.Mathlib.Omega.{arith}
use lib.ListN.{get_or, take, length}
use borrow.Author.Tests.{le-ltb, lt-leb}
use Rattle.table.specs.Questions.{accepted, questions}
use Rattle.machine.specs.Value.{Thing, qubit, end, side_no}
use Rattle.machine.specs.State.{Config, Line}
use Rattle.machine.specs.Run.{Result, run}
use Rattle.machine.specs.Owner.{holder}
use Rattle.machine.specs.Sound.{Made}
use Rattle.machine.specs.Answer.{lines_in}
use Rattle.machine.proofs.Held.{made_held, held-made}
use Rattle.layout.specs.Holders.{thing_at, holder_no}
use Rattle.run_schedule.proofs.Accepting.{shorter-accepted}
use Rattle.store_read.specs.Stored.{word_of, stored_holder}
use Rattle.store_read.proofs.Things.{WordIs, qubit-word, end-word}
use Rattle.run.specs.Answers.{store_left, config_read, lines_read}
use Rattle.run.proofs.Buffers as buffers

module _ (p schedule outcomes trace work : List ℕ) (ok : questions p schedule outcomes (length work) ≡ accepted)
    (k : ℕ) where
  short : questions p (take k schedule) outcomes (length work) ≡ accepted
  short = shorter-accepted p schedule outcomes (length work) k ok

  -- word 8,192 + i of the store after a run on the schedule's first k entries
  abbrev word : ℕ → ℕ
  word i = get_or (store_left p (take k schedule) outcomes trace work) (8192 + i) 0

  abbrev result : Result
  result = run p outcomes (lines_in (length trace)) (take k schedule)

  config-is : config_read p (take k schedule) outcomes trace work ≡ result.state.config
  config-is = buffers.config-read p (take k schedule) outcomes trace work short

  -- it is the holder that the lines, read back, give
  pub holders-stored : (i : ℕ) → i < 64
      → word i ≡ holder_no (holder (lines_read p (take k schedule) outcomes trace work) (thing_at i))
  holders-stored i h =
      buffers.holder-read p (take k schedule) outcomes trace work short i h
      ∙ ap (λ (ls : List Line). holder_no (holder ls (thing_at i)))
      (sym (buffers.lines-read p (take k schedule) outcomes trace work short))

  -- 255 where the thing is not made, by the configuration read back ..
  pub unmade-255 : (i : ℕ) → i < 64 → (Made (config_read p (take k schedule) outcomes trace work) (thing_at i) → ⊥)
      → word i ≡ 255
  unfolding holder_no
  unmade-255 i h not_made =
      buffers.holder-read p (take k schedule) outcomes trace work short i h ∙ nobody
      (holder result.state.lines (thing_at i)) refl
    where
      nobody : (x : Option ℕ) → holder result.state.lines (thing_at i) ≡ x → holder_no x ≡ 255
      nobody none e = refl
      nobody (some q) e =
          absurd (not_made (subst (λ (c : Config). Made c (thing_at i)) (sym config-is)
          (held-made p outcomes (lines_in (length trace)) (take k schedule) (thing_at i) q e).0))

  -- .. and only there: where it is made, a process that was made holds it, whose number is below 8
  pub made-process : (i : ℕ) → i < 64 → Made (config_read p (take k schedule) outcomes trace work) (thing_at i)
      → (word i < length (config_read p (take k schedule) outcomes trace work).processes) × (word i < 8)
  unfolding holder_no
  made-process i h made =
      let w =
      made_held p outcomes (lines_in (length trace)) (take k schedule) (thing_at i)
      (subst (λ (c : Config). Made c (thing_at i)) config-is made) in
      let is : word i ≡ w.0 =
      buffers.holder-read p (take k schedule) outcomes trace work short i h ∙ ap holder_no w.1 in
      let low = (held-made p outcomes (lines_in (length trace)) (take k schedule) (thing_at i) w.0 w.1).1 in
      let many : length (config_read p (take k schedule) outcomes trace work).processes ≡ length
      result.state.config.processes =
      ap (λ (c : Config). length c.processes) config-is in (
        omega (arith, is, low, many),
        omega (
          arith,
          is,
          low,
          (buffers.config-sound p (take k schedule) outcomes trace
              work short).process_count,
        ),
      )

  -- what `stored_holder` answers then for the thing of this kind and number
  pub holder-answered : (kind number : ℕ) → word_of kind number < 64
      → stored_holder (store_left p (take k schedule) outcomes trace work) kind number ≡ word (word_of kind number)
  unfolding stored_holder holder_no
  holder-answered kind number h =
      ap₂ (λ (x y : Bool). cond (x || y) 65535 (word (word_of kind number) % 65536))
      (le-ltb (length (store_left p (take k schedule) outcomes trace work)) 8256
      (buffers.store_long p (take k schedule) outcomes trace work short))
      (lt-leb 64 (word_of kind number) h)
      ∙ mod-eq_of_lt (small (holder result.state.lines (thing_at (word_of kind number))) refl)
    where
      is : word (word_of kind number) ≡ holder_no (holder result.state.lines (thing_at (word_of kind number)))
      is = buffers.holder-read p (take k schedule) outcomes trace work short (word_of kind number) h

      small : (x : Option ℕ) → holder result.state.lines (thing_at (word_of kind number)) ≡ x
          → word (word_of kind number) < 65536
      small none e = omega (arith, is ∙ ap holder_no e)
      small (some q) e =
          omega (
            arith,
            is ∙ ap holder_no e,
            (held-made p outcomes (lines_in (length trace)) (take k schedule) (thing_at (word_of kind number)) q e).1,
            (buffers.config-sound p (take k schedule) outcomes trace work short).process_count,
          )

  -- the same by the thing: the answer for it is its holder by the lines, read back
  answered : (kind number : ℕ) (t : Thing) → WordIs kind number t
      → stored_holder (store_left p (take k schedule) outcomes trace work) kind number
      ≡ holder_no (holder (lines_read p (take k schedule) outcomes trace work) t)
  answered kind number t (low, e) =
      holder-answered kind number low ∙ holders-stored (word_of kind number) low
      ∙ ap (λ (u : Thing). holder_no (holder (lines_read p (take k schedule) outcomes trace work) u)) e

  pub qubit-answered : (q : ℕ) → q < 32
      → stored_holder (store_left p (take k schedule) outcomes trace work) 3 q
      ≡ holder_no (holder (lines_read p (take k schedule) outcomes trace work) (qubit q))
  qubit-answered q h = answered 3 q (qubit q) (qubit-word q h)

  pub end-answered : (c : ℕ) (s : Bool) → c < 16
      → stored_holder (store_left p (take k schedule) outcomes trace work) (5 + side_no s) c
      ≡ holder_no (holder (lines_read p (take k schedule) outcomes trace work) (end c s))
  end-answered c s h = answered (5 + side_no s) c (end c s) (end-word c s h)
