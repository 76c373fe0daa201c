-- `after_name`: by the token after the name.
use native.Mathlib.Omega.{arith}
use mathlib.Core.Path.{sym, ◌∙◌}
use Rattle.text_types.proofs.Answers.{then, gone, stays, kind-next, at_next, passed-next}
use Rattle.text_statements.proofs.SimpleLaws.{name-assigned, name-called, name-left}
use Rattle.text_statements.proofs.simple.after_name.Goals as goal

pub returns-in_err-e : goal.returns-in_err-e
returns-in_err-e c =
    let g = c.args in
    let nt = c.next_token-t.ensures in
    let text = g.text.now in
    let same = kind-next text g.from _ nt in
    let kind = c.if-t-eq-ASSIGN.true in
    rw (stays c.from_residual.ensures)
    (name-assigned text g.starts.now g.n g.from _ (same ∙ kind)
    (passed-next text g.from _ nt (λ e. omega arith))
    c.in_err-e.ensures gone)

pub returns-then-t-eq-ASSIGN : goal.returns-then-t-eq-ASSIGN
returns-then-t-eq-ASSIGN c =
    let g = c.args in
    let nt = c.next_token-t.ensures in
    let text = g.text.now in
    let same = kind-next text g.from _ nt in
    let kind = c.if-t-eq-ASSIGN.true in
    name-assigned text g.starts.now g.n g.from _ (same ∙ kind)
    (passed-next text g.from _ nt (λ e. omega arith))
    c.in_ok-e.ensures (then c.expect.ensures)

pub returns-in_err-list : goal.returns-in_err-list
returns-in_err-list c =
    let g = c.args in
    let nt = c.next_token-t.ensures in
    let text = g.text.now in
    let same = kind-next text g.from _ nt in
    let kind = c.if-t-eq-OPEN.true in
    rw (stays c.from_residual-in_err-list.ensures)
    (name-called text g.starts.now g.n g.from _ (same ∙ kind)
    (passed-next text g.from _ nt (λ e. omega arith))
    c.in_err-list.ensures gone)

pub returns-then-t-eq-OPEN : goal.returns-then-t-eq-OPEN
returns-then-t-eq-OPEN c =
    let g = c.args in
    let nt = c.next_token-t.ensures in
    let text = g.text.now in
    let same = kind-next text g.from _ nt in
    let kind = c.if-t-eq-OPEN.true in
    name-called text g.starts.now g.n g.from _ (same ∙ kind)
    (passed-next text g.from _ nt (λ e. omega arith))
    c.in_ok-list.ensures (then c.expect-then-t-eq-OPEN.ensures)

pub returns : goal.returns
returns c =
    let g = c.args in
    let nt = c.next_token-t.ensures in
    let text = g.text.now in
    let same = kind-next text g.from _ nt in
    name-left text g.starts.now g.n g.from (λ e. c.if-t-eq-ASSIGN.false (sym same ∙ e))
    (λ e. c.if-t-eq-OPEN.false (sym same ∙ e))
    (sym (at_next text g.from _ nt))
