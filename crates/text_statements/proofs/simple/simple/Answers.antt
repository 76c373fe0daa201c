-- `simple`: by the first token.
use native.Mathlib.Omega.{arith}
use mathlib.Core.Path.{sym, ◌∙◌}
use Rattle.text_types.proofs.Answers.{then, gone, stays, kind-next, passed-next}
use Rattle.text_statements.proofs.SimpleLaws.{simple-skip, simple-measure, simple-fork, simple-send, simple-recv, simple-return, simple-named}
use Rattle.text_statements.proofs.simple.simple.Goals as goal

pub returns-then-t-eq-SEMICOLON : goal.returns-then-t-eq-SEMICOLON
returns-then-t-eq-SEMICOLON c =
    let g = c.args in
    let nt = c.next_token-t.ensures in
    let text = g.text.now in
    let same = kind-next text g.from _ nt in
    let kind = c.if-t-eq-SEMICOLON.true in
    simple-skip text g.starts.now g.n g.from (same ∙ kind)
    (passed-next text g.from _ nt (λ e. omega arith))

pub returns-in_err-name : goal.returns-in_err-name
returns-in_err-name c =
    let g = c.args in
    let nt = c.next_token-t.ensures in
    let text = g.text.now in
    let same = kind-next text g.from _ nt in
    let kind = c.if-t-eq-MEASURE.true in
    rw (stays c.from_residual.ensures)
    (simple-measure text g.starts.now g.n g.from _ (same ∙ kind)
    (passed-next text g.from _ nt (λ e. omega arith))
    c.in_err-name.ensures gone)

pub returns-then-t-eq-MEASURE : goal.returns-then-t-eq-MEASURE
returns-then-t-eq-MEASURE c =
    let g = c.args in
    let nt = c.next_token-t.ensures in
    let text = g.text.now in
    let same = kind-next text g.from _ nt in
    let kind = c.if-t-eq-MEASURE.true in
    simple-measure text g.starts.now g.n g.from _ (same ∙ kind)
    (passed-next text g.from _ nt (λ e. omega arith))
    c.in_ok-name.ensures (then c.expect.ensures)

pub returns-then-t-eq-FORK : goal.returns-then-t-eq-FORK
returns-then-t-eq-FORK c =
    let g = c.args in
    let nt = c.next_token-t.ensures in
    let text = g.text.now in
    let same = kind-next text g.from _ nt in
    let kind = c.if-t-eq-FORK.true in
    simple-fork text g.starts.now g.n g.from _ (same ∙ kind)
    (passed-next text g.from _ nt (λ e. omega arith))
    c.fork_rest.ensures

pub returns-then-t-eq-SEND : goal.returns-then-t-eq-SEND
returns-then-t-eq-SEND c =
    let g = c.args in
    let nt = c.next_token-t.ensures in
    let text = g.text.now in
    let same = kind-next text g.from _ nt in
    let kind = c.if-t-eq-SEND.true in
    simple-send text g.starts.now g.n g.from _ (same ∙ kind)
    (passed-next text g.from _ nt (λ e. omega arith))
    c.send_rest.ensures

pub returns-then-t-eq-RECV : goal.returns-then-t-eq-RECV
returns-then-t-eq-RECV c =
    let g = c.args in
    let nt = c.next_token-t.ensures in
    let text = g.text.now in
    let same = kind-next text g.from _ nt in
    let kind = c.if-t-eq-RECV.true in
    simple-recv text g.starts.now g.n g.from _ (same ∙ kind)
    (passed-next text g.from _ nt (λ e. omega arith))
    c.recv_rest.ensures

pub returns-in_err-e : goal.returns-in_err-e
returns-in_err-e c =
    let g = c.args in
    let nt = c.next_token-t.ensures in
    let text = g.text.now in
    let same = kind-next text g.from _ nt in
    let kind = c.if-t-eq-RETURN.true in
    rw (stays c.from_residual-in_err-e.ensures)
    (simple-return text g.starts.now g.n g.from _ (same ∙ kind)
    (passed-next text g.from _ nt (λ e. omega arith))
    c.in_err-e.ensures gone)

pub returns-then-t-eq-RETURN : goal.returns-then-t-eq-RETURN
returns-then-t-eq-RETURN c =
    let g = c.args in
    let nt = c.next_token-t.ensures in
    let text = g.text.now in
    let same = kind-next text g.from _ nt in
    let kind = c.if-t-eq-RETURN.true in
    simple-return text g.starts.now g.n g.from _ (same ∙ kind)
    (passed-next text g.from _ nt (λ e. omega arith))
    c.in_ok-e.ensures (then c.expect-then-t-eq-RETURN.ensures)

pub returns : goal.returns
returns c =
    let g = c.args in
    let nt = c.next_token-t.ensures in
    let text = g.text.now in
    let same = kind-next text g.from _ nt in
    simple-named text g.starts.now g.n g.from
    (λ e. c.if-t-eq-SEMICOLON.false
    (sym same ∙ e))
    (λ e. c.if-t-eq-MEASURE.false (sym same ∙ e))
    (λ e. c.if-t-eq-FORK.false (sym same ∙ e))
    (λ e. c.if-t-eq-SEND.false (sym same ∙ e))
    (λ e. c.if-t-eq-RECV.false (sym same ∙ e)) (λ e. c.if-t-eq-RETURN.false (sym same ∙ e))
    c.named.ensures
