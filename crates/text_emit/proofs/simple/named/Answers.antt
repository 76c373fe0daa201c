-- `named`: by the kind of the second token.
use Rattle.text_emit.proofs.DispatchLaws.{named-assigns, named-invokes}
use Rattle.text_emit.proofs.simple.named.Goals as goal

pub returns-then-kind-eq-ASSIGN : goal.returns-then-kind-eq-ASSIGN
returns-then-kind-eq-ASSIGN c =
    named-assigns _ _ _ _ _ _ _ _ _
    c.pass_token-name.ensures
    c.next_kind-kind.ensures
    c.if-kind-eq-ASSIGN.true
    c.assign.ensures

pub returns : goal.returns
returns c =
    named-invokes _ _ _ _ _ _ _ _ _
    c.pass_token-name.ensures
    c.next_kind-kind.ensures
    c.if-kind-eq-ASSIGN.false
    c.invoke.ensures
