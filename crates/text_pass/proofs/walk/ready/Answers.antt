-- `ready`: nothing is asked for, it is kept, it is not found, or it is found again.
use mathlib.Core.Path.{refl, sym, ◌∙◌}
use borrow.Author.Tests.{not-true}
use Rattle.lists.proofs.Tests.{clash, passes}
use Rattle.text_pass.proofs.StandLaws.{found-again}
use Rattle.text_pass.proofs.walk.ready.Goals as goal

pub returns-then-not-asks_level : goal.returns-then-not-asks_level
returns-then-not-asks_level c =
    let asks = c.asks_level in (
      (λ scopes o le s. s),
      (λ a. absurd (clash (sym asks.ensures ∙ not-true _ c.if-not-asks_level.true-raw) (passes a))),
      (λ a. refl),
    )

pub returns-then-holds : goal.returns-then-holds
returns-then-holds c = ((λ scopes o le s. s), (λ a. c.holds.ensures c.if-holds.true), (λ a. refl))

pub returns-then-not-again : goal.returns-then-not-again
returns-then-not-again c = (
  (λ scopes o le s. s),
  tt,
  (λ a. absurd
      (clash (not-true c.args.again c.if-not-again.true-raw) (passes a))),
)

pub returns : goal.returns
returns c =
    let g = c.args in (
      (λ scopes o le s.
          found-again scopes g.text.now g.from g.at g.phase _ g.low g.depth g.counts.now
          g.brackets.now s _ _ _ (c.replay.ensures scopes o le)),
      (λ a. c.low_for-lower.ensures),
      (λ a. refl),
    )
