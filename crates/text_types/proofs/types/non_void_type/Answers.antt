-- `non_void_type`: by the first token.
use native.Mathlib.Omega.{arith}
use mathlib.Core.Path.{refl, sym, ◌∙◌}
use Rattle.text_types.proofs.Answers.{kind-next, passed-next, stays, says-left}
use Rattle.text_types.proofs.TypeLaws.{channel-says, end-says, plain-says}
use Rattle.text_types.proofs.types.non_void_type.Goals as goal

pub returns-in_err-c : goal.returns-in_err-c
returns-in_err-c c =
    let g = c.args in
    let n = c.next_token-t.ensures in
    let kind = c.if-t-eq-CHANNEL.true in
    rw (stays c.from_residual.ensures)
    (says-left (channel-says g.text.now g.from _ _ 16 _ 0 (kind-next g.text.now g.from _ n ∙ kind)
    (passed-next g.text.now g.from _ n (λ e. omega arith)) (λ h. refl) c.in_err-c.ensures))

pub returns-in_err-e : goal.returns-in_err-e
returns-in_err-e c =
    let g = c.args in
    let n = c.next_token-t.ensures in
    let kind = c.if-t-eq-CHANNEL_END.true in
    rw (stays c.from_residual-in_err-e.ensures)
    (says-left (end-says g.text.now g.from _ _ 32 _ 0 (kind-next g.text.now g.from _ n ∙ kind)
    (passed-next g.text.now g.from _ n (λ e. omega arith)) (λ h. refl) c.in_err-e.ensures))

pub returns-then-t-eq-CHANNEL : goal.returns-then-t-eq-CHANNEL
returns-then-t-eq-CHANNEL c =
    let g = c.args in
    let n = c.next_token-t.ensures in
    let kind = c.if-t-eq-CHANNEL.true in
    channel-says g.text.now g.from _ _ _ _ _ (kind-next g.text.now g.from _ n ∙ kind)
    (passed-next g.text.now g.from _ n (λ e. omega arith)) (λ h. c.above.ensures (omega arith) h)
    c.in_ok-c.ensures

pub returns-then-t-eq-CHANNEL_END : goal.returns-then-t-eq-CHANNEL_END
returns-then-t-eq-CHANNEL_END c =
    let g = c.args in
    let n = c.next_token-t.ensures in
    let kind = c.if-t-eq-CHANNEL_END.true in
    end-says g.text.now g.from _ _ _ _ _ (kind-next g.text.now g.from _ n ∙ kind)
    (passed-next g.text.now g.from _ n (λ e. omega arith)) (λ h. c.above-then-t-eq-CHANNEL_END.ensures (omega arith) h)
    c.in_ok-e.ensures

pub returns : goal.returns
returns c =
    let g = c.args in
    let same = kind-next g.text.now g.from _ c.next_token-t.ensures in
    plain-says g.text.now g.from _ _ _ (λ e. c.if-t-eq-CHANNEL.false (sym same ∙ e))
    (λ e. c.if-t-eq-CHANNEL_END.false (sym same ∙ e))
    c.carried.ensures
