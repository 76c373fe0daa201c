-- An entry with one line changes no part but its own process's.
use Prim.Native.Nat.{ℕ, ◌+◌, ◌%◌, ◌≤◌, ◌<◌}
use mathlib.Core.Path.{◌≡◌, refl, sym, ◌∙◌, ap}
use mathlib.Core.Logic.{◌≢◌}
use mathlib.Core.Bool.{Bool, true, false, cond, true≢false}
use mathlib.Core.List.{List}
use native.Mathlib.Omega.{arith}
use lib.ListN.{get_or, set, length, length-set}
use lib.Dec.{eqb, leb}
use Rattle.run_parts.specs.PartsCode.{part_of}
use Rattle.run_parts.proofs.Apart.{part-kept, part-other, part-front}
use Rattle.run_gates.specs.GatesCode.{AfterEvent}
use Rattle.run_ability.specs.declared.pairing.Pairing.{Pairing}
use Rattle.run_single.specs.declared.result.Count.{Count}
use Rattle.run_single.specs.ResultCode.{AfterEntry, after_entry}
use Rattle.run_single.specs.declared.result.EntryResult.TheVariants.{Full}
use Rattle.run_single.specs.SingleCode.{in_part, concluded_at, counted_words, recorded, single_op}
use Rattle.run_values.specs.declared.steps.StepResult.{StepResult}
use Rattle.run_events.specs.declared.conclude.Single.{Single}
use Rattle.run_entry.specs.declared.entry.Rest.{Rest}
use Rattle.run_entry.specs.declared.entry.Rest.TheVariants.{Nothing, Fork, Offer, Line}
use Rattle.run_entry.specs.EntryCode.{rest_of, rest_op, entry_op, is_line, one_line}

-- the counts stand in front of the parts

part-counted : (w : List ℕ) (kind q : ℕ) → part_of (counted_words w kind) q ≡ part_of w q
unfolding counted_words
part-counted w kind q = go (eqb kind 1) (eqb kind 2)
  where
    go : (a b : Bool)
        → part_of (cond a (set w 1 ((get_or w 1 0 + 1) % 4294967296)) (cond b (set w 2 ((get_or w 2 0 + 1) % 4294967296)) w))
        q ≡ part_of w q
    go true b = part-front w 1 ((get_or w 1 0 + 1) % 4294967296) q (omega arith)
    go false true = part-front w 2 ((get_or w 2 0 + 1) % 4294967296) q (omega arith)
    go false false = refl

length-counted : (w : List ℕ) (kind : ℕ) → length (counted_words w kind) ≡ length w
unfolding counted_words
length-counted w kind = go (eqb kind 1) (eqb kind 2)
  where
    go : (a b : Bool)
        → length (cond a (set w 1 ((get_or w 1 0 + 1) % 4294967296)) (cond b (set w 2 ((get_or w 2 0 + 1) % 4294967296)) w))
        ≡ length w
    go true b = length-set w 1 ((get_or w 1 0 + 1) % 4294967296)
    go false true = length-set w 2 ((get_or w 2 0 + 1) % 4294967296)
    go false false = refl

module _ (p outcomes trace work : List ℕ) (room : ℕ) (g : Count) (n : ℕ) (step : StepResult) (m : Pairing)
    (long : 8192 ≤ length work) (low : n < 8) (q : ℕ) (h : q < 8) (ne : q ≢ n) where
  single-beside : (does : Single) → length (single_op p outcomes trace work room g n does).work ≡ length work
      → part_of (single_op p outcomes trace work room g n does).work q ≡ part_of work q
  unfolding single_op recorded concluded_at in_part
  single-beside does = go (leb room g.lines)
    where
      done : AfterEvent
      done = concluded_at p work n does outcomes g.used

      go : (b : Bool) → length (cond b (after_entry Full trace work) (recorded trace g n done)).work ≡ length work
          → part_of (cond b (after_entry Full trace work) (recorded trace g n done)).work q ≡ part_of work q
      go true l = refl
      go false l =
          part-counted done.words done.event.kind q
          ∙ part-other work long n q _ low h ne
          (part-kept work long n _ low (sym (length-counted done.words done.event.kind) ∙ l))

  pub beside : one_line step ≡ true → length (entry_op p outcomes trace work room g n step m).work ≡ length work
      → part_of (entry_op p outcomes trace work room g n step m).work q ≡ part_of work q
  unfolding entry_op rest_op one_line is_line
  beside = go (rest_of step)
    where
      go : (r : Rest) → is_line r ≡ true → length (rest_op p outcomes trace work room g n r m).work ≡ length work
          → part_of (rest_op p outcomes trace work room g n r m).work q ≡ part_of work q
      go Nothing e l = absurd (true≢false (sym e))
      go Fork e l = absurd (true≢false (sym e))
      go Offer e l = absurd (true≢false (sym e))
      go (Line does) e l = single-beside does l
