-- `find_word`: the entries before the one that is looked at have another name.
use native.Mathlib.Omega.{arith}
use mathlib.Core.Path.{sym, ◌∙◌, subst}
use Rattle.std.specs.Prelude.{Ok}
use Rattle.text_scan.proofs.Methods.{same-comm}
use Rattle.text_methods.specs.RowsCode.{FirstNamed}
use Rattle.text_methods.specs.declared.find.MethodAt.{MethodAt}
use Rattle.text_methods.proofs.Looking.{look-begins, look-found, look-on, look-ends}
use Rattle.text_methods.proofs.methods.Methods.find_word.Goals as goal

pub loop-i-init : goal.loop-i-init
loop-i-init c = let m = c.args.self.now in look-begins m.text.now m.index.now c.args.word.now m.indexed

pub returns-then-is_entry : goal.returns-then-is_entry
returns-then-is_entry c =
    let m = c.args.self.now in
    let x = c.args.word.now in
    let i = c.loop-i.i in
    subst (λ (a : MethodAt). FirstNamed m.text.now x (Ok a)) (sym c.entry.ensures)
    (look-found m.text.now m.index.now x m.indexed i c.loop-i.invariant
    (omega (arith, c.loop-i-test.true, c.min-i-end.ensures)) (omega (arith, c.loop-i-test.true, c.min-i-end.ensures))
    (same-comm x _ ∙ sym c.is_entry.ensures ∙ c.if-is_entry.true))

pub loop-i-preserved : goal.loop-i-preserved
loop-i-preserved c =
    let m = c.args.self.now in
    let x = c.args.word.now in
    look-on m.text.now m.index.now x m.indexed c.loop-i.i c.loop-i.invariant
    (omega (arith, c.loop-i-test.true, c.min-i-end.ensures))
    (same-comm x _ ∙ sym c.is_entry.ensures ∙ c.if-is_entry.false)

pub returns-then-count-gt32 : goal.returns-then-count-gt32
returns-then-count-gt32 c = c.find_row.ensures

pub returns : goal.returns
returns c =
    let m = c.args.self.now in
    look-ends m.text.now m.index.now c.args.word.now m.indexed c.loop-i.i c.loop-i.invariant
    (omega (arith, c.loop-i-test.false, c.min-i-end.ensures, c.if-count-gt32.false))
