-- `put_code` goes through the instructions.
use Prim.Native.Nat.{◌*◌}
use native.Mathlib.Omega.{arith}
use mathlib.Core.Path.{refl, ap, ◌∙◌}
use lib.ListN.{length, get_or}
use Rattle.lists.proofs.Put.{put_from-length}
use Rattle.text_put.specs.TableCode.{called_at, code_to}
use Rattle.text_put.proofs.WordLaws.{words-none, words_same, words-length, code-count, code_step}
use Rattle.text_put.proofs.code.put_code.Goals as goal

pub loop-k-init : goal.loop-k-init
unfolding code_to
loop-k-init c = words-none c.args.table.now c.args.at

pub put_pair-i-requires : goal.put_pair-i-requires
put_pair-i-requires c =
    let code = code_to (called_at c.args.methods.now.text.now c.args.main) c.args.code.now c.loop-k.k in
    omega (
      arith,
      c.requires.1,
      c.requires.2,
      c.loop-k.auto.k-end,
      c.loop-k.invariant.1,
      words-length code,
      code-count (called_at c.args.methods.now.text.now c.args.main) c.args.code.now c.loop-k.k,
    )

pub loop-k-preserved : goal.loop-k-preserved
loop-k-preserved c =
    let args = c.args in
    let k = c.loop-k.k in
    code_step args.table.now args.at (called_at args.methods.now.text.now args.main) args.code.now k
    (get_or args.code.now (2 * k) 0) c.argument_of-a.result refl
    c.argument_of-a.ensures c.loop-k.invariant c.put_pair-i.ensures

pub shape_of-table : goal.shape_of-table
shape_of-table c = ap length c.loop-k.invariant.0 ∙ simp put_from-length

pub returns : goal.returns
returns c =
    let args = c.args in
    words_same args.table.now args.at (ap (code_to (called_at args.methods.now.text.now args.main) args.code.now)
    {x = c.loop-k.k} {y = args.long} (omega (arith, c.loop-k.auto.k-end, c.loop-k-test.false))) c.loop-k.invariant
