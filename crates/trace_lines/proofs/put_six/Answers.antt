-- `put_six` writes the six words of a line, all of them within the trace.
use Prim.Native.Nat.{ℕ, ◌+◌, ◌<◌}
use mathlib.Core.Path.{ap₂}
use lib.ListN.{length, set}
use Rattle.trace_lines.specs.WrittenCode.{with_three, with_six}
use native.Mathlib.Omega.{arith}
use borrow.Author.Rules.{rules}
use Rattle.trace_lines.proofs.put_six.Goals as goal

pub bounds-t-at-2 : goal.bounds-t-at-2
bounds-t-at-2 c = let h : c.args.at + 1 < length c.args.t.now = omega arith in search rules

pub bounds-t-at-3 : goal.bounds-t-at-3
bounds-t-at-3 c = let h : c.args.at + 2 < length c.args.t.now = omega arith in search rules

pub bounds-t-at-4 : goal.bounds-t-at-4
bounds-t-at-4 c = let h : c.args.at + 3 < length c.args.t.now = omega arith in search rules

pub bounds-t-at-5 : goal.bounds-t-at-5
bounds-t-at-5 c = let h : c.args.at + 4 < length c.args.t.now = omega arith in search rules

pub returns : goal.returns
unfolding with_six with_three
returns c =
    let at = c.args.at in
    let l = c.args.l in
    let three = with_three c.args.t.now at l.entry l.process l.kind in
    ap₂ (λ (i j : ℕ). set (set (set three (at + 3) l.a) i l.b) j l.c) (omega arith) (omega arith)
