-- `method`: a header and a block, whose statements are read within it.
use native.Mathlib.Omega.{arith}
use mathlib.Core.Path.{refl}
use mathlib.Core.List.{[], ◌∷◌}
use Rattle.text_types.proofs.Answers.{then, gone, stays, says-also}
use Rattle.text_program.proofs.MethodLaws.{inside-body, method-says}
use Rattle.text_program.proofs.method.method.Goals as goal

pub returns-in_err-first : goal.returns-in_err-first
returns-in_err-first c =
    rw (stays c.from_residual.ensures)
    (method-says c.args.text.now (_ ∷ []) refl gone gone gone c.args.from c.in_err-first.ensures gone)

pub returns-in_err-list : goal.returns-in_err-list
returns-in_err-list c =
    rw (stays c.from_residual-in_err-list.ensures)
    (method-says c.args.text.now (_ ∷ []) refl (then (says-also c.args.text.now _ _ _ (λ a e. tt) c.in_err-list.ensures)) gone gone c.args.from c.in_ok-first.ensures gone)

pub returns-in_err-brace : goal.returns-in_err-brace
returns-in_err-brace c =
    rw (stays c.from_residual-in_err-brace.ensures)
    (method-says c.args.text.now (_ ∷ []) refl (then (says-also c.args.text.now _ _ _ (λ a e. tt) c.in_ok-list.ensures)) (then c.in_err-brace.ensures) gone c.args.from c.in_ok-first.ensures gone)

pub returns-in_err-d : goal.returns-in_err-d
returns-in_err-d c =
    rw (stays c.from_residual-in_err-d.ensures)
    (method-says c.args.text.now (_ ∷ []) refl (then (says-also c.args.text.now _ _ _ (λ a e. tt) c.in_ok-list.ensures)) (then c.in_ok-brace.ensures) (then c.in_err-d.ensures) c.args.from c.in_ok-first.ensures gone)

pub statements-requires : goal.statements-requires
statements-requires c =
    inside-body c.args.text.now _ (c.with_block-starts.ensures.0 (omega arith)) (then (says-also c.args.text.now _ _ _ (λ a e. tt) c.in_ok-list.ensures))
    (then c.in_ok-brace.ensures) (then c.in_ok-d.ensures) refl

pub returns : goal.returns
returns c =
    method-says c.args.text.now _ (c.with_block-starts.ensures.0 (omega arith)) (then (says-also c.args.text.now _ _ _ (λ a e. tt) c.in_ok-list.ensures))
    (then c.in_ok-brace.ensures) (then c.in_ok-d.ensures) c.args.from c.in_ok-first.ensures (then c.statements.ensures)
