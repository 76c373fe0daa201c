-- `put_entry` writes four words.
use native.Mathlib.Omega.{arith}
use Prim.Native.Nat.{◌+◌, ◌*◌}
use lib.ListN.{set, length-set}
use Rattle.text_methods.specs.IndexCode.{with_entry}
use borrow.Author.Rules.{rules}
use Rattle.text_methods.proofs.index.put_entry.Goals as goal

pub bounds-index-i-2 : goal.bounds-index-i-2
bounds-index-i-2 c = omega (arith, length-set c.args.index.now (4 * c.args.i + 1) c.args.start)

pub bounds-index-i-3 : goal.bounds-index-i-3
bounds-index-i-3 c =
    let one = set c.args.index.now (4 * c.args.i + 1) c.args.start in
    omega (
      arith,
      length-set c.args.index.now (4 * c.args.i + 1) c.args.start,
      length-set one (4 * c.args.i + 2) c.args.end,
    )

pub bounds-index-i-4 : goal.bounds-index-i-4
bounds-index-i-4 c =
    let one = set c.args.index.now (4 * c.args.i + 1) c.args.start in
    let two = set one (4 * c.args.i + 2) c.args.end in
    omega (
      arith,
      length-set c.args.index.now (4 * c.args.i + 1) c.args.start,
      length-set one (4 * c.args.i + 2) c.args.end,
      length-set two (4 * c.args.i + 3) c.args.at,
    )

pub returns : goal.returns
unfolding with_entry
returns c = search rules
