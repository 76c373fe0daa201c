-- The cycle of calls of statements and blocks. Each one's measure is by the nesting left: a call within the same level
-- goes from block to statements, statement, unbraced and body, and a body or a block of a statement is one level less.
use native.Mathlib.Omega.{arith}
use mathlib.Core.Path.{◌≡◌, refl, sym, ◌∙◌}
use lib.ListN.{length}
use Rattle.text_types.proofs.Answers.{then, gone, stays, kind-next, at_next, passed-next}
use Rattle.text_statements.proofs.Blocks.{inside-more}
use Rattle.text_statements.proofs.CodeLaws.{statement-deep, statement-block, statement-other, body-deep, body-block, body-other, while-says, simple-says, if-says, else-says, statements-end, statements-on, block-says, block-left, statement-further}
use Prim.Native.Nat.{◌+◌, ◌*◌, ◌-◌, ◌≤◌, ◌<◌}
use Rattle.text_statements.proofs.code.+block_body_statement_statements_unbraced.Goals as goal

pub block-returns-in_err-first : goal.block-returns-in_err-first
block-returns-in_err-first t c =
    let g = c.args in
    rw (stays c.from_residual.ensures)
    (block-left g.text.now g.starts.now g.n g.left g.from c.in_err-first.ensures gone refl)

pub block-returns-in_err-d : goal.block-returns-in_err-d
block-returns-in_err-d t c =
    let g = c.args in
    rw (stays c.from_residual-in_err-d.ensures)
    (block-left g.text.now g.starts.now g.n g.left g.from c.in_ok-first.ensures (then c.in_err-d.ensures) refl)

pub block-statements-requires : goal.block-statements-requires
block-statements-requires t c =
    let g = c.args in
    let is : 5 * g.left + 4 ≡ t = c.decreases in
    let most : g.n + (g.left + 1) ≤ 32 = c.requires.levels in (
      omega arith,
      inside-more g.text.now g.starts.now _ g.n g.left g.from c.requires c.in_ok-first.ensures
          (then c.in_ok-d.ensures) refl
          c.with_block-inner.ensures.1 (c.with_block-inner.ensures.0 (omega arith)),
    )

pub block-returns : goal.block-returns
block-returns t c =
    let g = c.args in
    let most : g.n + (g.left + 1) ≤ 32 = c.requires.levels in
    block-says g.text.now g.starts.now _ g.n g.left g.from (omega arith) c.in_ok-first.ensures
    (then c.in_ok-d.ensures) c.with_block-inner.ensures.1 (c.with_block-inner.ensures.0 (omega arith))
    (then c.statements.ensures)

pub body-returns-then-left-eq0 : goal.body-returns-then-left-eq0
body-returns-then-left-eq0 t c =
    let g = c.args in
    body-deep g.text.now g.starts.now g.n g.left g.from c.if-left-eq0.true
    (sym (at_next g.text.now g.from _ c.next_token-t.ensures))

pub body-returns-then-t-eq-OPEN_BRACE : goal.body-returns-then-t-eq-OPEN_BRACE
body-returns-then-t-eq-OPEN_BRACE t c =
    let g = c.args in
    let same = kind-next g.text.now g.from _ c.next_token-t.ensures in
    body-block g.text.now g.starts.now g.n g.left g.from
    c.if-left-eq0.false (same ∙ c.if-t-eq-OPEN_BRACE.true) c.block.ensures

pub body-returns-else-t-eq-OPEN_BRACE : goal.body-returns-else-t-eq-OPEN_BRACE
body-returns-else-t-eq-OPEN_BRACE t c =
    let g = c.args in
    let same = kind-next g.text.now g.from _ c.next_token-t.ensures in
    body-other g.text.now g.starts.now g.n g.left g.from
    c.if-left-eq0.false (λ e. c.if-t-eq-OPEN_BRACE.false (sym same ∙ e)) c.unbraced.ensures

pub statement-returns-then-left-eq0 : goal.statement-returns-then-left-eq0
statement-returns-then-left-eq0 t c =
    let g = c.args in
    let nt = c.next_token-t.ensures in
    statement-deep g.text.now g.starts.now g.n g.left g.from
    (kind-next g.text.now g.from _ nt ∙ c.if-t-eq-OPEN_BRACE.true) c.if-left-eq0.true
    (sym (at_next g.text.now g.from _ nt))

pub statement-returns-then-t-eq-OPEN_BRACE : goal.statement-returns-then-t-eq-OPEN_BRACE
statement-returns-then-t-eq-OPEN_BRACE t c =
    let g = c.args in
    let nt = c.next_token-t.ensures in
    statement-block g.text.now g.starts.now g.n g.left g.from
    (kind-next g.text.now g.from _ nt ∙ c.if-t-eq-OPEN_BRACE.true) c.if-left-eq0.false c.block.ensures

pub statement-returns : goal.statement-returns
statement-returns t c =
    let g = c.args in
    let same = kind-next g.text.now g.from _ c.next_token-t.ensures in
    statement-other g.text.now g.starts.now g.n g.left g.from
    (λ e. c.if-t-eq-OPEN_BRACE.false (sym same ∙ e))
    c.unbraced.ensures

pub statements-loop-at-init : goal.statements-loop-at-init
statements-loop-at-init t c = λ o a later. later

pub statements-returns-in_err-at : goal.statements-returns-in_err-at
statements-returns-in_err-at t c =
    let g = c.args in
    let l = c.loop-at in
    rw (stays c.from_residual.ensures)
    (l.invariant _ _ (statements-on g.text.now g.starts.now g.n g.left l.at
    (λ e. c.loop-at-test.true (c.next_kind.ensures ∙ e)) c.in_err-at.ensures gone))

pub statements-loop-at-smaller : goal.statements-loop-at-smaller
statements-loop-at-smaller t c =
    let g = c.args in
    let l = c.loop-at in
    let further = statement-further g.text.now g.starts.now g.n g.left l.at c.requires refl c.in_ok-at.ensures in
    let more : l.at < c.in_ok-at.at = further.0 in
    let within : c.in_ok-at.at ≤ length g.text.now = further.1 in omega arith

pub statements-loop-at-preserved : goal.statements-loop-at-preserved
statements-loop-at-preserved t c =
    let g = c.args in
    let l = c.loop-at in
    λ o a later. l.invariant o a (statements-on g.text.now g.starts.now g.n g.left l.at
    (λ e. c.loop-at-test.true (c.next_kind.ensures ∙ e)) c.in_ok-at.ensures (then later))

pub statements-returns : goal.statements-returns
statements-returns t c =
    let g = c.args in
    let l = c.loop-at in
    l.invariant _ _ (statements-end g.text.now g.starts.now g.n g.left l.at
    (sym c.next_kind.ensures ∙ c.loop-at-test.false) c.expect.ensures)

pub unbraced-returns-in_err-test : goal.unbraced-returns-in_err-test
unbraced-returns-in_err-test t c =
    let g = c.args in
    let text = g.text.now in
    let nt = c.next_token-t.ensures in
    let kind = c.if-t-eq-WHILE.true in
    rw (stays c.from_residual.ensures)
    (while-says text g.starts.now g.n g.left g.from _ (kind-next text g.from _ nt ∙ kind)
    (passed-next text g.from _ nt (λ e. omega arith)) c.in_err-test.ensures gone)

pub unbraced-returns-then-t-eq-WHILE : goal.unbraced-returns-then-t-eq-WHILE
unbraced-returns-then-t-eq-WHILE t c =
    let g = c.args in
    let text = g.text.now in
    let nt = c.next_token-t.ensures in
    let kind = c.if-t-eq-WHILE.true in
    while-says text g.starts.now g.n g.left g.from _ (kind-next text g.from _ nt ∙ kind)
    (passed-next text g.from _ nt (λ e. omega arith)) c.in_ok-test.ensures (then c.body.ensures)

pub unbraced-returns-then-t-ne-IF : goal.unbraced-returns-then-t-ne-IF
unbraced-returns-then-t-ne-IF t c =
    let g = c.args in
    let text = g.text.now in
    let same = kind-next text g.from _ c.next_token-t.ensures in
    simple-says text g.starts.now g.n g.left g.from (λ e. c.if-t-ne-IF.true (sym same ∙ e))
    (λ e. c.if-t-eq-WHILE.false (sym same ∙ e)) c.simple.ensures

pub unbraced-returns-in_err-test-2 : goal.unbraced-returns-in_err-test-2
unbraced-returns-in_err-test-2 t c =
    let g = c.args in
    let text = g.text.now in
    let nt = c.next_token-t.ensures in
    let kind = c.if-t-ne-IF.false in
    rw (stays c.from_residual-in_err-test-2.ensures)
    (if-says text g.starts.now g.n g.left g.from _ (kind-next text g.from _ nt ∙ kind)
    (passed-next text g.from _ nt (λ e. omega arith)) c.in_err-test-2.ensures gone gone refl)

pub unbraced-returns-in_err-then : goal.unbraced-returns-in_err-then
unbraced-returns-in_err-then t c =
    let g = c.args in
    let text = g.text.now in
    let nt = c.next_token-t.ensures in
    let kind = c.if-t-ne-IF.false in
    rw (stays c.from_residual-in_err-then.ensures)
    (if-says text g.starts.now g.n g.left g.from _ (kind-next text g.from _ nt ∙ kind)
    (passed-next text g.from _ nt (λ e. omega arith)) c.in_ok-test-2.ensures (then c.in_err-then.ensures) gone refl)

pub unbraced-returns-in-Ok : goal.unbraced-returns-in-Ok
unbraced-returns-in-Ok t c =
    let g = c.args in
    let text = g.text.now in
    let nt = c.next_token-t.ensures in
    let kind = c.if-t-ne-IF.false in
    else-says text g.starts.now g.n g.left g.from _ (kind-next text g.from _ nt ∙ kind)
    (passed-next text g.from _ nt (λ e. omega arith)) c.in_ok-test-2.ensures (then c.in_ok-then.ensures)
    (then c.in-Ok.ensures) refl (then c.body-in-Ok.ensures)

pub unbraced-returns-in-Err : goal.unbraced-returns-in-Err
unbraced-returns-in-Err t c =
    let g = c.args in
    let text = g.text.now in
    let nt = c.next_token-t.ensures in
    let kind = c.if-t-ne-IF.false in
    if-says text g.starts.now g.n g.left g.from _ (kind-next text g.from _ nt ∙ kind)
    (passed-next text g.from _ nt (λ e. omega arith)) c.in_ok-test-2.ensures (then c.in_ok-then.ensures)
    (then c.in-Err.ensures) refl
