-- `simple`: by the kind of the first token.
use Rattle.text_emit.proofs.DispatchLaws.{simple-skip, simple-measure, simple-fork, simple-send, simple-receive, simple-give, simple-named}
use Rattle.text_emit.proofs.simple.simple.Goals as goal

pub returns-then-t-eq-SEMICOLON : goal.returns-then-t-eq-SEMICOLON
returns-then-t-eq-SEMICOLON c =
    simple-skip _ _ _ _ _ _ _ c.next_token-t.ensures c.pass_token-after.ensures
    c.if-t-eq-SEMICOLON.true

pub returns-then-t-eq-MEASURE : goal.returns-then-t-eq-MEASURE
returns-then-t-eq-MEASURE c =
    simple-measure _ _ _ _ _ _ _ _
    c.next_token-t.ensures _
    c.pass_token-after.ensures
    c.if-t-eq-MEASURE.true c.measure.ensures

pub returns-then-t-eq-FORK : goal.returns-then-t-eq-FORK
returns-then-t-eq-FORK c =
    simple-fork _ _ _ _ _ _ _ _ c.next_token-t.ensures _ c.pass_token-after.ensures
    c.if-t-eq-FORK.true c.fork.ensures

pub returns-then-t-eq-SEND : goal.returns-then-t-eq-SEND
returns-then-t-eq-SEND c =
    simple-send _ _ _ _ _ _ _ _ c.next_token-t.ensures _ c.pass_token-after.ensures
    c.if-t-eq-SEND.true c.send.ensures

pub returns-then-t-eq-RECV : goal.returns-then-t-eq-RECV
returns-then-t-eq-RECV c =
    simple-receive _ _ _ _ _ _ _ _ c.next_token-t.ensures _ c.pass_token-after.ensures
    c.if-t-eq-RECV.true c.receive.ensures

pub returns-then-t-eq-RETURN : goal.returns-then-t-eq-RETURN
returns-then-t-eq-RETURN c =
    simple-give _ _ _ _ _ _ _ _ c.next_token-t.ensures _ c.pass_token-after.ensures
    c.if-t-eq-RETURN.true c.give.ensures

pub returns : goal.returns
returns c =
    simple-named _ _ _ _ _ _ _ _ c.next_token-t.ensures c.if-t-eq-SEMICOLON.false c.if-t-eq-MEASURE.false
    c.if-t-eq-FORK.false c.if-t-eq-SEND.false c.if-t-eq-RECV.false
    c.if-t-eq-RETURN.false
    c.named.ensures
