-- `innermost` by the cell.
use mathlib.Core.Path.{refl, sym}
use borrow.Author.Tests.{eq-eqb, ne_eqb}
use Rattle.text_window.specs.WindowCode.{innermost_in}
use Rattle.text_window.proofs.window.innermost.Goals as goal

pub returns-then-depth-eq0 : goal.returns-then-depth-eq0
unfolding innermost_in
returns-then-depth-eq0 c = rw (eq-eqb c.args.depth 0 c.if-depth-eq0.true) refl

pub returns-then-bracket_at-eq-CALL : goal.returns-then-bracket_at-eq-CALL
unfolding innermost_in
returns-then-bracket_at-eq-CALL c =
    rw (
      ne_eqb c.args.depth 0 c.if-depth-eq0.false,
      sym c.bracket_at.ensures,
      eq-eqb _ 2
          c.if-bracket_at-eq-CALL.true,
    ) refl

pub returns : goal.returns
unfolding innermost_in
returns c =
    rw (
      ne_eqb c.args.depth 0 c.if-depth-eq0.false,
      sym c.bracket_at.ensures,
      ne_eqb _ 2
          c.if-bracket_at-eq-CALL.false,
    ) refl
