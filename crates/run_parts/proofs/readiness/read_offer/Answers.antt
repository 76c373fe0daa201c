-- `read_offer` goes by whether the step stands at SEND.
use mathlib.Core.Path.{◌∙◌, ap}
use Rattle.lists.proofs.Tests.{took, passed-by}
use Rattle.run_parts.specs.ReadinessCode.{send_of, receive_of, offer_of}
use Rattle.run_parts.proofs.readiness.read_offer.Goals as goal

pub returns-then-is_send : goal.returns-then-is_send
unfolding offer_of
returns-then-is_send c =
    let args = c.args in
    took _ _ _ c.is_send.ensures c.if-is_send.true
    (c.sending.ensures ∙ ap (send_of args.w.now) c.read_head-h.ensures)

pub returns : goal.returns
unfolding offer_of
returns c =
    let args = c.args in
    passed-by _ _ _ c.is_send.ensures c.if-is_send.false
    (c.receiving.ensures ∙ ap (receive_of args.w.now) c.read_head-h.ensures)
