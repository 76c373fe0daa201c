-- What an entry's functions have done at their returns, from what their callees did and how their tests came out.
use Prim.Native.Nat.{ℕ, ◌≤◌, ◌<◌}
use mathlib.Core.Path.{◌≡◌, refl, sym, ◌∙◌, ap, ap₂}
use mathlib.Core.List.{List}
use borrow.Author.Tests.{le-leb, lt-leb}
use Rattle.lists.proofs.Tests.{took, passed-by}
use Rattle.run_ability.specs.declared.pairing.Pairing.{Pairing}
use Rattle.run_single.specs.declared.result.Count.{Count}
use Rattle.run_single.specs.declared.result.EntryResult.{EntryResult}
use Rattle.run_single.specs.ResultCode.{AfterEntry, after_entry}
use Rattle.run_single.specs.declared.result.EntryResult.TheVariants.{Unable, Taken, Full}
use Rattle.run_entry.specs.EntryCode.{entry_op}
use Rattle.run_single.proofs.Returns.{entry-same}
use Rattle.run_values.specs.declared.steps.StepResult.{StepResult}
use Rattle.run_burst.specs.declared.knowledge.Knowledge.{Knowledge}
use Rattle.run_burst.specs.declared.turn.Turn.{Turn}
use Rattle.run_burst.specs.declared.turn.Turn.TheVariants.{GoesOn, Ends}
use Rattle.run_burst.specs.KnowledgeCode.{with_idle, known_after_entry}
use Rattle.run_burst.specs.TurnCode.{after_turn, named_entry_op, unable_turn, turn_of, turn_by, turn_op}
use Rattle.std.specs.Prelude.{Option, Some, None}
use Rattle.run_ability.specs.declared.ends.End.{End}
use Rattle.run_ability.specs.declared.ends.End.TheVariants.{TraceFull}
use Rattle.run_ability.specs.EndingCode.{ending_op}

-- the entry of a byte that names no process, or one

module _ (p outcomes trace work : List ℕ) (room : ℕ) (g : Count) (n : ℕ) (step : StepResult) (offer : Pairing) where
  pub names-none : {m : EntryResult} → 8 ≤ n → m ≡ Unable
      → after_entry m trace work ≡ named_entry_op p outcomes trace work room g n step offer
  unfolding named_entry_op
  names-none h e = took _ _ _ refl (le-leb 8 n h) (entry-same e refl refl)

  pub names-one : {c : AfterEntry} → n < 8 → c ≡ entry_op p outcomes trace work room g n step offer
      → c ≡ named_entry_op p outcomes trace work room g n step offer
  unfolding named_entry_op
  names-one h e = passed-by _ _ _ refl (lt-leb 8 n h) e

-- what an entry that came to m means for the run

module _ (p outcomes trace work : List ℕ) (room : ℕ) (t : List (List ℕ)) (g : Count) (n : ℕ) (step : StepResult)
    (offer : Pairing)
    (known : Knowledge) {m : EntryResult}
    {ts ws : List ℕ} (changed : after_entry m ts ws ≡ named_entry_op p outcomes trace work room g n step offer) where
  turn_is : {r : Turn} → r ≡ turn_of p t g n step known ws m
      → after_turn r ts ws ≡ turn_op p outcomes trace work room t g n step offer known
  unfolding turn_op turn_by
  turn_is e = ap (λ (r : Turn). after_turn r ts ws) e ∙ ap (turn_by p t g n step known) changed

  pub turn-full : m ≡ Full
      → after_turn (Ends TraceFull g.lines g.used) ts ws ≡ turn_op p outcomes trace work room t g n step offer known
  unfolding turn_of
  turn-full e = turn_is (ap (turn_of p t g n step known ws) (sym e))

  pub turn-taken : {lines used : ℕ} → m ≡ Taken lines used → {q : Knowledge} → q ≡ known_after_entry p ws n known step
      → after_turn (GoesOn lines used q) ts ws ≡ turn_op p outcomes trace work room t g n step offer known
  unfolding turn_of
  turn-taken {lines} {used} e q =
      turn_is (ap (GoesOn lines used) q ∙ ap (turn_of p t g n step known ws) (sym e))

  module _ (unable : m ≡ Unable) {end : Option End} (asked : end ≡ ending_op p ws t 8) where
    pub turn-goes : end ≡ None → {q : Knowledge} → q ≡ with_idle known n
        → after_turn (GoesOn g.lines g.used q) ts ws ≡ turn_op p outcomes trace work room t g n step offer known
    unfolding turn_of unable_turn
    turn-goes e q =
        turn_is
        (ap (GoesOn g.lines g.used) q
        ∙ ap (λ (x : Option End). unable_turn x g.lines g.used (with_idle known n)) (sym e ∙ asked)
        ∙ ap (turn_of p t g n step known ws) (sym unable))

    pub turn-ends : {x : End} → end ≡ Some x
        → after_turn (Ends x g.lines g.used) ts ws ≡ turn_op p outcomes trace work room t g n step offer known
    unfolding turn_of unable_turn
    turn-ends e =
        turn_is
        (ap (λ (x : Option End). unable_turn x g.lines g.used (with_idle known n)) (sym e ∙ asked)
        ∙ ap (turn_of p t g n step known ws) (sym unable))
