-- The cycle of calls of statements and blocks. Each one's measure is by the nesting left: a call within the same level
-- goes from block to statements, statement, unbraced, conditional, otherwise and body, and a block or a statement of a
-- body is one level less.
use Prim.Native.Nat.{◌+◌, ◌*◌, ◌≤◌, ◌<◌}
use native.Mathlib.Omega.{arith}
use mathlib.Core.Bool.{true, false}
use mathlib.Core.List.{[]}
use mathlib.Core.Path.{◌≡◌, refl, sym, ◌∙◌}
use borrow.Author.Tests.{not-true, not-false}
use lib.ListN.{length}
use Rattle.text_emit.specs.Reached.{there}
use Rattle.text_emit.proofs.EmitLaws.{lost, one-stuck, patch-off}
use Rattle.text_parse.specs.Equations.{body_from}
use Rattle.text_emit_block.proofs.LevelLaws.{nothing-done, statement-deep, statement-block, statement-other, body-deep, body-block, body-other, unbraced-if, unbraced-while, unbraced-simple}
use Rattle.text_emit_block.proofs.BranchLaws.{if-stuck, if-ends, if-else, while-ends, otherwise-ends}
use Rattle.text_emit_block.proofs.StatementsLaws.{statements-stuck, statements-framed, statements-end, statements-on, statements-fail, nowhere}
use Rattle.text_emit_block.proofs.BlockLaws.{block-many, block-ends}
use Rattle.text_emit_block.proofs.code.+block_body_conditional_otherwise_repeated_statement_statements_unbraced.Goals as goal

pub block-returns-in_default : goal.block-returns-in_default
block-returns-in_default t c =
    λ on ms m. let g = c.args in
    let long : length g.scope.now ≡ 64 = omega arith in
    block-many g.text.now g.n g.left (there g.e) _ g.scope.now g.row.now g.code.now _ _ _ _ _ _ on long
    c.pass-open.ensures c.in_default.ensures _ _ _ refl ms m

pub block-statements-requires : goal.block-statements-requires
block-statements-requires t c =
    let g = c.args in
    let is : 7 * g.left + 6 ≡ t = c.decreases in (omega arith, c.requires)

pub block-returns : goal.block-returns
block-returns t c =
    λ on ms m. let g = c.args in
    let long : length g.scope.now ≡ 64 = omega arith in
    block-ends g.text.now g.n g.left (there g.e) _ g.scope.now g.row.now g.code.now _ _ _ _ _ _ on long
    c.pass-open.ensures c.in-Ok.ensures _ _ _ _ _ _ refl
    c.in_ok-cleared.ensures
    c.statements.ensures ms m

pub body-returns-then-left-eq0 : goal.body-returns-then-left-eq0
body-returns-then-left-eq0 t c =
    let g = c.args in
    body-deep g.text.now g.n (there g.e) _ _ _ lost _ _ _ g.left refl
    c.if-left-eq0.true

pub body-block-requires : goal.body-block-requires
body-block-requires t c =
    let g = c.args in
    let is : 7 * g.left ≡ t = c.decreases in
    let some = c.if-left-eq0.false in (
      omega arith,
      c.requires,
    )

pub body-returns-then-kind-eq-OPEN_BRACE : goal.body-returns-then-kind-eq-OPEN_BRACE
body-returns-then-kind-eq-OPEN_BRACE t c =
    let g = c.args in
    body-block g.text.now g.n (there g.e) g.scope.now g.row.now g.code.now _ _ _ _ g.left
    refl
    c.if-left-eq0.false (sym
    c.next_kind-kind.ensures ∙
    c.if-kind-eq-OPEN_BRACE.true)
    c.block.ensures

pub body-unbraced-requires : goal.body-unbraced-requires
body-unbraced-requires t c =
    let g = c.args in
    let is : 7 * g.left ≡ t = c.decreases in
    let some = c.if-left-eq0.false in (
      omega arith,
      c.requires,
    )

pub body-returns : goal.body-returns
body-returns t c =
    let g = c.args in
    body-other g.text.now g.n (there g.e) g.scope.now g.row.now g.code.now _ _ _ _ g.left
    refl
    c.if-left-eq0.false
    (λ e. c.if-kind-eq-OPEN_BRACE.false
    (c.next_kind-kind.ensures ∙ e))
    c.unbraced.ensures

pub conditional-condition-requires : goal.conditional-condition-requires
conditional-condition-requires t c = c.requires.0

pub conditional-body-requires : goal.conditional-body-requires
conditional-body-requires t c =
    let g = c.args in
    let is : 7 * g.left + 2 ≡ t = c.decreases in
    let long = c.requires.0 in (omega arith, (omega (arith, c.pending-1.given), c.requires.1))

pub conditional-otherwise-requires : goal.conditional-otherwise-requires
conditional-otherwise-requires t c =
    let g = c.args in
    let is : 7 * g.left + 2 ≡ t = c.decreases in
    let long = c.requires.0 in
    (omega arith, (omega (arith, c.pending-1.given, c.pending-2-1.given), c.requires.1))

pub conditional-returns-then-kind-eq-ELSE : goal.conditional-returns-then-kind-eq-ELSE
conditional-returns-then-kind-eq-ELSE t c =
    λ on ms m. let g = c.args in
    if-else g.text.now g.n g.left ms m (there g.e) _ _ _ g.scope.now g.row.now g.code.now _ _ _ _ _ on
    c.in_ok-c.ensures c.in_ok-test.ensures c.in_ok-s.ensures _ _ _ _ _
    refl
    (sym c.next_kind-kind.ensures
    ∙ c.if-kind-eq-ELSE.true)
    c.pass-word.ensures
    c.otherwise.ensures

pub conditional-returns : goal.conditional-returns
conditional-returns t c =
    λ on ms m. let g = c.args in
    if-ends g.text.now g.n g.left ms m (there g.e) _ _ _ g.scope.now g.row.now g.code.now _ _ _ _ _ on
    c.in_ok-c.ensures c.in_ok-test.ensures c.in_ok-s.ensures _
    refl
    (λ e. c.if-kind-eq-ELSE.false (c.next_kind-kind.ensures ∙
    e)) c.patch.ensures

pub otherwise-body-requires : goal.otherwise-body-requires
otherwise-body-requires t c =
    let g = c.args in
    let is : 7 * g.left + 1 ≡ t = c.decreases in (omega arith, c.requires)

pub otherwise-returns : goal.otherwise-returns
otherwise-returns t c =
    λ ms m on. let g = c.args in
    otherwise-ends g.text.now g.n g.left ms m (there g.e) _ _ g.k g.scope.now g.row.now g.code.now _
    _
    _ _ _ _ on c.in_ok-jump.ensures c.patch.ensures c.in_ok-t.ensures
    c.patch-2.ensures

pub repeated-condition-requires : goal.repeated-condition-requires
repeated-condition-requires t c = c.requires.0

pub repeated-body-requires : goal.repeated-body-requires
repeated-body-requires t c =
    let g = c.args in
    let is : 7 * g.left + 1 ≡ t = c.decreases in
    let long = c.requires.0 in (omega arith, (omega (arith, c.pending-1.given), c.requires.1))

pub repeated-returns : goal.repeated-returns
repeated-returns t c =
    λ on ms m. let g = c.args in
    while-ends g.text.now g.n g.left ms m (there g.e) _ _ _ g.scope.now g.row.now g.code.now _ _ _ _ _
    on
    c.in_ok-c.ensures c.in_ok-test.ensures c.in_ok-s.ensures _ _ _
    c.in_ok-back.ensures c.patch.ensures

pub statement-returns-then-left-eq0 : goal.statement-returns-then-left-eq0
statement-returns-then-left-eq0 t c =
    let g = c.args in
    statement-deep g.text.now g.n (there g.e) _ _ _ lost _ _ _ g.left refl
    (sym c.next_kind-kind.ensures ∙ c.if-kind-eq-OPEN_BRACE.true) c.if-left-eq0.true

pub statement-block-requires : goal.statement-block-requires
statement-block-requires t c =
    let g = c.args in
    let is : 7 * g.left + 4 ≡ t = c.decreases in
    let some = c.if-left-eq0.false in (
      omega arith,
      c.requires,
    )

pub statement-returns-then-kind-eq-OPEN_BRACE : goal.statement-returns-then-kind-eq-OPEN_BRACE
statement-returns-then-kind-eq-OPEN_BRACE t c =
    let g = c.args in
    statement-block g.text.now g.n (there g.e) g.scope.now g.row.now g.code.now _ _ _ _ g.left
    refl
    (sym
    c.next_kind-kind.ensures
    ∙ c.if-kind-eq-OPEN_BRACE.true)
    c.if-left-eq0.false
    c.block.ensures

pub statement-unbraced-requires : goal.statement-unbraced-requires
statement-unbraced-requires t c =
    let g = c.args in
    let is : 7 * g.left + 4 ≡ t = c.decreases in (
      omega
          arith,
      c.requires,
    )

pub statement-returns : goal.statement-returns
statement-returns t c =
    let g = c.args in
    statement-other g.text.now g.n (there g.e) g.scope.now g.row.now g.code.now _ _ _ _ g.left
    refl
    (λ e. c.if-kind-eq-OPEN_BRACE.false
    (c.next_kind-kind.ensures ∙ e))
    c.unbraced.ensures

pub conditional-returns-in_err-c : goal.conditional-returns-in_err-c
conditional-returns-in_err-c t c =
    rw c.from_residual.ensures (λ on ms m. let g = c.args in
    if-stuck g.text.now g.n g.left ms m (there g.e) lost lost lost g.scope.now g.row.now g.code.now _ [] _ _ _ on c.in_err-c.ensures
    (one-stuck _ _ lost lost _ _ refl refl) (nothing-done _ _ lost _ _ _ lost _ _ _ (body_from g.left) refl refl) refl)

pub conditional-returns-in_err-test : goal.conditional-returns-in_err-test
conditional-returns-in_err-test t c =
    rw c.from_residual-in_err-test.ensures (λ on ms m. let g = c.args in
    if-stuck g.text.now g.n g.left ms m (there g.e) _ lost lost g.scope.now g.row.now g.code.now _ _ _ _ _ on c.in_ok-c.ensures
    c.in_err-test.ensures (nothing-done _ _ lost _ _ _ lost _ _ _ (body_from g.left) refl refl) refl)

pub conditional-returns-in_err-s : goal.conditional-returns-in_err-s
conditional-returns-in_err-s t c =
    rw c.from_residual-in_err-s.ensures (λ on ms m. let g = c.args in
    if-stuck g.text.now g.n g.left ms m (there g.e) _ _ lost g.scope.now g.row.now g.code.now _ _ _ _ _ on c.in_ok-c.ensures
    c.in_ok-test.ensures c.in_err-s.ensures refl)

pub otherwise-returns-in_err-jump : goal.otherwise-returns-in_err-jump
otherwise-returns-in_err-jump t c =
    rw c.from_residual.ensures (λ ms m on. let g = c.args in
    otherwise-ends g.text.now g.n g.left ms m (there g.e) lost lost g.k g.scope.now g.row.now g.code.now _ [] _ _ [] _ on c.in_err-jump.ensures
    (patch-off lost _ _ _ _ refl) (nothing-done _ _ lost _ _ _ lost _ _ _ (body_from g.left) refl refl) (patch-off lost _ _ _ _ refl))

pub otherwise-returns-in_err-t : goal.otherwise-returns-in_err-t
otherwise-returns-in_err-t t c =
    rw c.from_residual-in_err-t.ensures (λ ms m on. let g = c.args in
    otherwise-ends g.text.now g.n g.left ms m (there g.e) _ lost g.k g.scope.now g.row.now g.code.now _ _ _ _ _ _ on c.in_ok-jump.ensures
    c.patch.ensures c.in_err-t.ensures (patch-off lost _ _ _ _ refl))

pub repeated-returns-in_err-c : goal.repeated-returns-in_err-c
repeated-returns-in_err-c t c =
    rw c.from_residual.ensures (λ on ms m. let g = c.args in
    while-ends g.text.now g.n g.left ms m (there g.e) lost lost lost g.scope.now g.row.now g.code.now _ [] _ _ [] on c.in_err-c.ensures
    (one-stuck _ _ lost lost _ _ refl refl) (nothing-done _ _ lost _ _ _ lost _ _ _ (body_from g.left) refl refl) lost [] _ (one-stuck _ _ lost lost _ _ refl refl) (patch-off lost _ _ _ _ refl))

pub repeated-returns-in_err-test : goal.repeated-returns-in_err-test
repeated-returns-in_err-test t c =
    rw c.from_residual-in_err-test.ensures (λ on ms m. let g = c.args in
    while-ends g.text.now g.n g.left ms m (there g.e) _ lost lost g.scope.now g.row.now g.code.now _ _ _ _ [] on c.in_ok-c.ensures
    c.in_err-test.ensures (nothing-done _ _ lost _ _ _ lost _ _ _ (body_from g.left) refl refl) lost [] _ (one-stuck _ _ lost lost _ _ refl refl) (patch-off lost _ _ _ _ refl))

pub repeated-returns-in_err-s : goal.repeated-returns-in_err-s
repeated-returns-in_err-s t c =
    rw c.from_residual-in_err-s.ensures (λ on ms m. let g = c.args in
    while-ends g.text.now g.n g.left ms m (there g.e) _ _ lost g.scope.now g.row.now g.code.now _ _ _ _ _ on c.in_ok-c.ensures
    c.in_ok-test.ensures c.in_err-s.ensures lost [] _ (one-stuck _ _ lost lost _ _ refl refl) (patch-off lost _ _ _ _ refl))

pub repeated-returns-in_err-back : goal.repeated-returns-in_err-back
repeated-returns-in_err-back t c =
    rw c.from_residual-in_err-back.ensures (λ on ms m. let g = c.args in
    while-ends g.text.now g.n g.left ms m (there g.e) _ _ _ g.scope.now g.row.now g.code.now _ _ _ _ _ on c.in_ok-c.ensures
    c.in_ok-test.ensures c.in_ok-s.ensures lost _ _ c.in_err-back.ensures (patch-off lost _ _ _ _ refl))

pub block-returns-in_err-cleared : goal.block-returns-in_err-cleared
block-returns-in_err-cleared t c =
    rw c.from_residual.ensures (λ on ms m. let g = c.args in
    let long : length g.scope.now ≡ 64 = omega arith in
    block-ends g.text.now g.n g.left (there g.e) _ g.scope.now g.row.now g.code.now _ _ _ _ _ _ on long
    c.pass-open.ensures c.in-Ok.ensures lost lost _ _ _ _ refl
    c.in_err-cleared.ensures
    (statements-stuck _ _ g.left lost _ _ _ lost _ _ _ refl refl) ms m)

pub statements-returns-in_err-s : goal.statements-returns-in_err-s
statements-returns-in_err-s t c =
    let g = c.args in
    let l = c.loop-kind in
    rw c.from_residual.ensures (statements-framed g.text.now g.n g.left (there g.e) g.scope.now g.row.now g.code.now _ _ _ _ refl
    (l.invariant.1.1 _ _ _ _ (statements-fail g.text.now g.n g.left (there l.here) lost l.scope l.row l.code _ _ _ refl
    (λ e. c.loop-kind-test.true (l.invariant.0 ∙ e)) c.in_err-s.ensures lost _ _ _ false
    (nowhere g.text.now l.here.at 0) refl refl)))

pub statements-loop-kind-init : goal.statements-loop-kind-init
statements-loop-kind-init t c = (c.next_kind-kind.ensures, ((refl, refl), (λ r s w c x. x)))

pub statements-statement-requires : goal.statements-statement-requires
statements-statement-requires t c =
    let g = c.args in
    let is : 7 * g.left + 5 ≡ t = c.decreases in
    let long = c.requires.0 in
    let same = c.loop-kind.invariant.1.0.0 in (omega arith, (omega arith, c.requires.1))

pub statements-returns-then-not-on : goal.statements-returns-then-not-on
statements-returns-then-not-on t c =
    let g = c.args in
    let l = c.loop-kind in
    let on : true ≡ true = refl in
    statements-framed g.text.now g.n g.left (there g.e) g.scope.now g.row.now g.code.now _ _ _ _ on
    (l.invariant.1.1 _ _ _ _ (statements-fail g.text.now g.n g.left (there l.here)
    (there c.in_ok-s.s) l.scope l.row l.code _ _ _ refl
    (λ e. c.loop-kind-test.true (l.invariant.0 ∙ e))
    c.in_ok-s.ensures _ _ _ _ c.advances-on.result
    c.advances-on.ensures
    (not-true c.advances-on.result c.if-not-on.true-raw) refl))

pub statements-loop-kind-smaller : goal.statements-loop-kind-smaller
statements-loop-kind-smaller t c =
    let g = c.args in
    let l = c.loop-kind in
    let s = c.in_ok-s.s in
    let bounds = c.advances-on.ensures.on (not-false c.advances-on.result
    c.if-not-on.false-raw) in
    let more : l.here.at < s.at = bounds.1.0 in
    let within : s.at ≤ length g.text.now = bounds.1.1 in omega arith

pub statements-loop-kind-preserved : goal.statements-loop-kind-preserved
statements-loop-kind-preserved t c =
    let g = c.args in
    let l = c.loop-kind in
    let s = c.in_ok-s.s in
    let bounds = c.advances-on.ensures.on (not-false c.advances-on.result
    c.if-not-on.false-raw) in (
      c.next_kind-kind-in-loop-kind.ensures,
      (
        (
          c.pending-1.given ∙ l.invariant.1.0.0,
          c.code-1.given ∙ l.invariant.1.0.1,
        ),
        (λ r scope₁ row₁ code₁ later. l.invariant.1.1 r scope₁ row₁ code₁
            (statements-on g.text.now g.n g.left (there l.here) (there s) l.scope
            l.row
            l.code c.statement.new.scope
            c.statement.new.row
            c.statement.new.code refl
            (λ e. c.loop-kind-test.true (l.invariant.0 ∙ e)) c.in_ok-s.ensures r scope₁ row₁ code₁
            later)),
      ),
    )

pub statements-returns : goal.statements-returns
statements-returns t c =
    let g = c.args in
    let l = c.loop-kind in
    let on : true ≡ true = refl in
    statements-framed g.text.now g.n g.left (there g.e) g.scope.now g.row.now g.code.now _ _ _ _ on
    (l.invariant.1.1 _ _ _ _ (statements-end g.text.now g.n g.left (there l.here) _
    l.scope l.row l.code refl (sym l.invariant.0 ∙ c.loop-kind-test.false) c.pass.ensures))

pub unbraced-conditional-requires : goal.unbraced-conditional-requires
unbraced-conditional-requires t c =
    let g = c.args in
    let is : 7 * g.left + 3 ≡ t = c.decreases in (
      omega arith,
      c.requires,
    )

pub unbraced-returns-then-kind-eq-IF : goal.unbraced-returns-then-kind-eq-IF
unbraced-returns-then-kind-eq-IF t c =
    λ on. let g = c.args in
    unbraced-if g.text.now g.n (there g.e) g.scope.now g.row.now g.code.now _ _ _ _ g.left on _
    (sym c.next_kind-kind.ensures
    ∙ c.if-kind-eq-IF.true)
    c.pass-word.ensures
    c.conditional.ensures

pub unbraced-repeated-requires : goal.unbraced-repeated-requires
unbraced-repeated-requires t c =
    let g = c.args in
    let is : 7 * g.left + 3 ≡ t = c.decreases in (
      omega
          arith,
      c.requires,
    )

pub unbraced-returns-then-kind-eq-WHILE : goal.unbraced-returns-then-kind-eq-WHILE
unbraced-returns-then-kind-eq-WHILE t c =
    λ on. let g = c.args in
    unbraced-while g.text.now g.n (there g.e) g.scope.now g.row.now g.code.now _ _ _ _ g.left on _
    (sym c.next_kind-kind.ensures ∙ c.if-kind-eq-WHILE.true) c.pass-word-then-kind-eq-WHILE.ensures
    c.repeated.ensures

pub unbraced-returns : goal.unbraced-returns
unbraced-returns t c =
    λ on. let g = c.args in
    unbraced-simple g.text.now g.n (there g.e) g.scope.now g.row.now g.code.now _ _ g.left on
    (λ e. c.if-kind-eq-IF.false
    (c.next_kind-kind.ensures ∙ e))
    (λ e. c.if-kind-eq-WHILE.false
    (c.next_kind-kind.ensures ∙ e))
    c.simple.ensures
