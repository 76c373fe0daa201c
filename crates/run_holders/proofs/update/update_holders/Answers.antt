-- `update_holders` goes through the lines: table and words are what those before line i say.
use Prim.Native.Nat.{ℕ, ◌-◌}
use mathlib.Core.Path.{◌≡◌, refl, ◌∙◌, ap}
use native.Mathlib.Omega.{arith}
use Rattle.trace.proofs.LinesOf.{lines_of-length, lines_of-at}
use Rattle.run_holders.specs.HoldersCode.{holders_after_lines, changed_from}
use Rattle.run_holders.specs.StoredCode.{stored_after_lines}
use Rattle.run_holders.proofs.Noting.{noted-begins, noted-next, changed-begins, changed-next, changed-so, changed-not}
use Rattle.run_holders.proofs.Storing.{stored-begins, stored_next}
use Rattle.run_holders.proofs.update.update_holders.Goals as goal
use Rattle.run_holders.proofs.update.update_holders.Goals.{then-note_line, else-note_line}

pub loop-i-init : goal.loop-i-init
loop-i-init c =
    let args = c.args in (
      noted-begins args.t.now args.trace.now args.from,
      stored-begins args.work.now args.trace.now args.from,
      refl,
      changed-begins args.trace.now args.from,
    )

pub line_at-l-requires : goal.line_at-l-requires
line_at-l-requires c = omega (arith, lines_of-length c.args.trace.now)

pub loop-i-preserved : goal.loop-i-preserved
loop-i-preserved c =
    let args = c.args in
    let loop = c.loop-i in
    let line =
    c.line_at-l.ensures
    ∙ lines_of-at args.trace.now loop.i (omega (arith, lines_of-length args.trace.now)) in (
      c.note_line.ensures.0
          ∙ noted-next args.t.now args.trace.now args.from loop.i loop.auto.i loop.invariant.0 line,
      stored_next args.work.now args.trace.now args.from loop.i loop.auto.i loop.invariant.1 line
          c.store_line.ensures,
      c.store_line.auto.work ∙ loop.invariant.2,
      (elim c.if-note_line.branch [
        | then-note_line w ↦ w.changed-is ∙ changed-so loop.changed w.if-note_line.true
        | else-note_line w ↦ w.changed-is ∙ changed-not loop.changed w.if-note_line.false
      ])
          ∙ changed-next args.trace.now args.from loop.i loop.auto.i loop.invariant.3
          c.note_line.ensures.1 line,
    )

pub shape_of-work : goal.shape_of-work
shape_of-work c = c.loop-i.invariant.2

pub returns : goal.returns
returns c =
    let args = c.args in
    let loop = c.loop-i in
    let e : loop.i ≡ args.to = omega arith in (
      loop.invariant.0
          ∙ ap (λ (i : ℕ). holders_after_lines args.t.now args.trace.now args.from (i - args.from)) e,
      loop.invariant.1
          ∙ ap (λ (i : ℕ). stored_after_lines args.work.now args.trace.now args.from (i - args.from)) e,
      loop.invariant.3 ∙ ap (λ (i : ℕ). changed_from args.trace.now args.from (i - args.from)) e,
    )
