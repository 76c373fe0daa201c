-- `within_limits` asks for one limit after the other.
use native.Mathlib.Omega.{arith}
use mathlib.Core.Path.{sym, ap, ◌∙◌}
use borrow.Author.Tests.{not-true, not-false}
use lib.ListN.{length}
use Rattle.text.proofs.Words.{row_words-length}
use Rattle.text_limits.proofs.Within.{too-late, too_long, too_wide, not-main, method-here, by_code}
use Rattle.text_limits.proofs.method.within_limits.Goals as goal

pub returns-then-before-ge32 : goal.returns-then-before-ge32
returns-then-before-ge32 c = λ h. too-late _ _ _ _ _ _ h c.args.before c.args.total c.if-before-ge32.true

pub returns-then-total-m-gt4096 : goal.returns-then-total-m-gt4096
returns-then-total-m-gt4096 c = λ h. too_long _ _ _ _ _ _ h c.args.before c.args.total c.if-total-m-gt4096.true

pub bounds-row-1 : goal.bounds-row-1
bounds-row-1 c =
    let emitted = c.requires.0 in
    omega (arith, (ap length emitted.own_row ∙ row_words-length emitted.method))

pub returns-then-row-gt8 : goal.returns-then-row-gt8
returns-then-row-gt8 c = λ h. too_wide _ _ _ _ _ _ h c.args.before c.args.total c.if-row-gt8.true

pub main_kept-requires : goal.main_kept-requires
main_kept-requires c =
    let emitted = c.requires.0 in
    ap length emitted.own_row ∙ row_words-length emitted.method

pub returns-then-not-main_kept : goal.returns-then-not-main_kept
returns-then-not-main_kept c =
    λ h. not-main _ _ _ _ _ _ h c.args.before c.args.total
    (sym c.main_kept.ensures ∙ not-true _ c.if-not-main_kept.true-raw)

pub method_kept-requires : goal.method_kept-requires
method_kept-requires c = (method-here _ _ _ _ _ _ c.requires.0 0 0 c.if-row-gt8.false, c.args.methods.now.indexed)

pub returns : goal.returns
returns c =
    λ h. by_code _ _ _ _ _ _ h c.args.before c.args.total (omega arith) c.if-total-m-gt4096.false
    c.if-row-gt8.false (sym c.main_kept.ensures ∙ not-false _ c.if-not-main_kept.false-raw) _
    (c.method_kept.ensures
    (method-here _ _ _ _ _ _ h c.args.before c.args.total c.if-row-gt8.false))
