-- `header`: a type, a name and a bracket.
use Prim.Native.Nat.{suc}
use Rattle.text_types.proofs.Answers.{then, gone, stays, says-also}
use Rattle.text_program.proofs.MethodLaws.{header-says}
use Rattle.text_program.proofs.method.header.Goals as goal

pub returns-in_err-t : goal.returns-in_err-t
returns-in_err-t c =
    let g = c.args in
    rw (stays c.from_residual.ensures)
    (header-says g.text.now g.from (says-also g.text.now _ _ (suc g.from) (λ a e. tt) c.in_err-t.ensures) gone gone)

pub returns-in_err-name : goal.returns-in_err-name
returns-in_err-name c =
    let g = c.args in
    rw (stays c.from_residual-in_err-name.ensures)
    (header-says g.text.now g.from (says-also g.text.now _ _ (suc g.from) (λ a e. tt) c.in_ok-t.ensures)
    (then c.in_err-name.ensures) gone)

pub returns : goal.returns
returns c =
    let g = c.args in
    header-says g.text.now g.from (says-also g.text.now _ _ (suc g.from) (λ a e. tt) c.in_ok-t.ensures)
    (then c.in_ok-name.ensures) (then c.expect-2.ensures)
