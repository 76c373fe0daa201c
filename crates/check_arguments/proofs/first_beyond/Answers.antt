-- `first_beyond` searches the instructions: those below `i` keep their rule and have their targets marked, and
-- `o` is the owner of the one before `i`.
use Prim.Native.Nat.{◌≤◌}
use mathlib.Core.Path.{sym, ap, ◌∙◌}
use lib.ListN.{length}
use borrow.Author.Tests.{not-true, not-false}
use Rattle.lists.proofs.First.{first-begins, first-goes-on, place-halts, place-ends}
use Rattle.check_instructions.proofs.Owners.{owner-begins, owner-known, owner-listed, owner-low, owner-passed}
use Rattle.check_arguments.proofs.Marks.{instruction-kept, marked-begins, marked-halts, marked_next, marked-length, target-within}
use borrow.Author.Rules.{rules}
use native.Mathlib.Omega.{arith}
use Rattle.check_arguments.proofs.first_beyond.Goals as goal

pub loop-i-init : goal.loop-i-init
loop-i-init c =
    let pre = c.requires in
    (first-begins _, c.of-o.ensures ∙ owner-begins _ pre.0 pre.1, marked-begins _ _)

pub at-o-requires : goal.at-o-requires
at-o-requires c =
    let pre = c.requires in
    (pre.0, pre.1, search rules, c.loop-i.invariant.1)

pub op_at-op-requires : goal.op_at-op-requires
op_at-op-requires c =
    let pre = c.requires in
    (pre.0, pre.2, search rules)

pub arg_at-a-requires : goal.arg_at-a-requires
arg_at-a-requires c =
    let pre = c.requires in
    (pre.0, pre.2, search rules)

pub argument_kept-requires : goal.argument_kept-requires
argument_kept-requires c =
    let pre = c.requires in
    let at = c.at-o in (
      pre.0,
      pre.5,
      owner-known _ _ _ at.ensures,
      owner-listed _ pre.0 pre.1 _ _ at.ensures (omega arith),
      search rules,
    )

pub shape_of-targets-then-not-argument_kept : goal.shape_of-targets-then-not-argument_kept
shape_of-targets-then-not-argument_kept c =
    let loop = c.loop-i in
    ap length loop.invariant.2 ∙ marked-length _ _ _

pub returns-then-not-argument_kept : goal.returns-then-not-argument_kept
returns-then-not-argument_kept c =
    let op-at = c.op_at-op in
    let arg-at = c.arg_at-a in
    let at = c.at-o in
    let loop = c.loop-i in
    let kept =
    instruction-kept _ _ _ _ _ op-at.ensures.0 arg-at.ensures.0 at.ensures
    c.argument_kept.ensures in
    let fails = kept ∙ not-true _ c.if-not-argument_kept.true-raw in (
      place-halts _ _ _ loop.invariant.0 (omega arith) fails,
      marked-halts _ _ _ _ _ loop.invariant.2 loop.invariant.0 (omega arith) (λ h. fails),
    )

pub overflow_add-o : goal.overflow_add-o
overflow_add-o c =
    let pre = c.requires in
    let at = c.at-o in
    let arg-at = c.arg_at-a in
    omega (arith, owner-low _ pre.0 pre.1 _ _ at.ensures (omega arith), arg-at.ensures.1)

pub mark-requires : goal.mark-requires
mark-requires c =
    let op-at = c.op_at-op in
    let arg-at = c.arg_at-a in
    let at = c.at-o in
    let pre = c.requires in
    let argument-kept = c.argument_kept in
    let if1 = c.if-not-argument_kept in
    let loop = c.loop-i in
    let within =
    target-within _ _ _ _ _ op-at.ensures.0 arg-at.ensures.0 at.ensures pre.0 pre.1 (omega arith)
    in
    let kept = sym argument-kept.ensures ∙ not-false _ if1.false-raw in
    let long = ap length loop.invariant.2 ∙ marked-length _ _ _ in
    (λ t. omega (arith, within t kept, long, pre.4), omega (arith, long, pre.4, pre.3, pre.0.instructions-most))

pub loop-i-preserved : goal.loop-i-preserved
loop-i-preserved c =
    let op-at = c.op_at-op in
    let arg-at = c.arg_at-a in
    let at = c.at-o in
    let argument-kept = c.argument_kept in
    let loop = c.loop-i in
    let if1 = c.if-not-argument_kept in
    let mark = c.mark in
    let kept =
    instruction-kept _ _ _ _ _ op-at.ensures.0 arg-at.ensures.0 at.ensures argument-kept.ensures in
    let next = marked_next _ _ _ _ _ op-at.ensures.0 arg-at.ensures.0 at.ensures _ _ loop.invariant.2 in (
      first-goes-on _ _ loop.invariant.0 (kept ∙ not-false _ if1.false-raw),
      owner-passed _ _ at.ensures,
      mark.ensures
          ∙ next,
    )

pub shape_of-targets : goal.shape_of-targets
shape_of-targets c = ap length c.loop-i.invariant.2 ∙ marked-length _ _ _

pub returns : goal.returns
returns c =
    let loop = c.loop-i in
    let ends : c.args.n ≤ loop.i = omega arith in (
      place-ends _ _ _ loop.invariant.0 (omega arith) ends,
      marked-halts _ _ _ _ _ loop.invariant.2 loop.invariant.0 (omega arith) (λ h. absurd (omega (arith, h, ends))),
    )
