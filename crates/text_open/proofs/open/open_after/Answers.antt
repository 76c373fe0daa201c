-- `open_after` by the role.
use mathlib.Core.Path.{ap, ◌∙◌}
use mathlib.Core.List.{◌∷◌}
use Prim.Native.Nat.{ℕ}
use native.Mathlib.Omega.{arith}
use lib.Seq.{slice}
use borrow.Author.Tests.{eq-eqb, ne_eqb}
use Rattle.text_open.specs.OpenCode.{open_after}
use Rattle.text_open.proofs.OpenLaws.{none_open}
use Rattle.text_open.proofs.open.open_after.Goals as goal

pub returns-then-r-eq1 : goal.returns-then-r-eq1
unfolding open_after
returns-then-r-eq1 c =
    let g = c.args in
    (omega arith, λ text ds h l. rw (eq-eqb g.r 1 c.if-r-eq1.true) (none_open text g.words.now))

pub push-requires : goal.push-requires
push-requires c = c.requires.0

pub returns-then-r-eq2 : goal.returns-then-r-eq2
unfolding open_after
returns-then-r-eq2 c =
    let g = c.args in (
      c.push.ensures.0,
      λ text ds h l.
          rw (ne_eqb g.r 1 c.if-r-eq1.false, eq-eqb g.r 2 c.if-r-eq2.true)
          (c.push.ensures.1 text ds h l
          ∙ ap (λ (k : ℕ). record { level = k; bytes = slice g.start g.end text } ∷ ds) c.level_of-level.ensures),
    )

pub pop-requires : goal.pop-requires
pop-requires c = c.requires.1

pub returns-then-r : goal.returns-then-r
unfolding open_after
returns-then-r c =
    let g = c.args in (
      c.pop.ensures.0,
      λ text ds h l.
          rw (ne_eqb g.r 1 c.if-r-eq1.false, ne_eqb g.r 2 c.if-r-eq2.false, c.if-r.true)
          (c.pop.ensures.1 text ds h l),
    )

pub returns : goal.returns
unfolding open_after
returns c =
    let g = c.args in (
      c.requires.1,
      λ text ds h l.
          rw (ne_eqb g.r 1 c.if-r-eq1.false, ne_eqb g.r 2 c.if-r-eq2.false, c.if-r.false) (h l),
    )
