-- `lowest_in`: before each token the pass finds the same lowest fault.
use native.Mathlib.Omega.{arith}
use mathlib.Core.Path.{refl, sym, ap, ◌∙◌}
use Rattle.text_open.specs.ClassCode.{in_class}
use Rattle.text_names.specs.Answer.{fault_in}
use Rattle.text_names.specs.FaultsCode.{lower_of}
use Rattle.text_names.proofs.Calls.{fault-if}
use Rattle.text_names.proofs.Passes.{class-fits}
use Rattle.text_names.proofs.Scanning.{scan_begins, scan-ends, scan-turn, scan-goes}
use Rattle.text_names.proofs.refusal.lowest_in.Goals as goal

pub loop-kind-init : goal.loop-kind-init
unfolding fault_in
loop-kind-init c =
    let g = c.args in
    scan_begins (in_class g.all g.class) g.all g.methods.now.text.now g.words.now _ c.requires
    c.next_token-t.ensures

pub in_class-mine-requires : goal.in_class-mine-requires
in_class-mine-requires c =
    let l = c.loop-kind in
    (l.invariant.next.ends, (scan-turn l.invariant c.loop-kind-test.true).within)

pub fault_here-fault-requires : goal.fault_here-fault-requires
fault_here-fault-requires c =
    let l = c.loop-kind in
    (l.invariant.next.ends, (scan-turn l.invariant c.loop-kind-test.true).within)

pub open_after-n-requires : goal.open_after-n-requires
open_after-n-requires c = (c.loop-kind.invariant.room, c.loop-kind.invariant.count_low)

pub index_after-index-requires : goal.index_after-index-requires
index_after-index-requires c = omega (arith, (scan-turn c.loop-kind.invariant c.loop-kind-test.true).index-less)

pub braces_after-braces-requires : goal.braces_after-braces-requires
braces_after-braces-requires c = omega (arith, (scan-turn c.loop-kind.invariant c.loop-kind-test.true).braces-less)

pub loop-kind-smaller : goal.loop-kind-smaller
loop-kind-smaller c =
    let p = scan-turn c.loop-kind.invariant c.loop-kind-test.true in
    omega (arith, p.begun, p.onward, c.next_token-u.ensures.starts)

pub loop-kind-preserved : goal.loop-kind-preserved
loop-kind-preserved c =
    scan-goes c.loop-kind.invariant c.loop-kind-test.true _ c.next_token-u.ensures
    c.role-r.ensures c.in_class-mine.ensures c.role_if-asked.ensures
    c.fault_here-fault.ensures c.declared_if.ensures c.open_after-n.auto.words
    c.open_after-n.ensures (c.lower_place-low.ensures ∙ ap (lower_of (fault_in c.loop-kind.low)) (ap fault_in c.then_some.ensures ∙ fault-if c.fault_here-fault.result c.loop-kind.t.start)) c.from_after-from.ensures
    c.index_after-index.ensures c.mode_after-mode.ensures c.braces_after-braces.ensures
    c.keeps.ensures c.kind_if-kind.ensures

pub returns-then-keeps : goal.returns-then-keeps
returns-then-keeps c = (scan-ends c.loop-kind.invariant c.loop-kind-test.false (sym c.if-keeps.ensures), λ e. refl)

pub returns-else-keeps : goal.returns-else-keeps
returns-else-keeps c = (tt, λ e. c.if-keeps.ensures ∙ class-fits c.args.all c.loop-kind.n e)
