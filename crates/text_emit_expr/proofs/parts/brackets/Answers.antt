-- `brackets`: two tokens.
use Rattle.text_emit_expr.proofs.PartLaws.{brackets-up-to, reach_here, reach-next}
use Rattle.text_emit_expr.proofs.parts.brackets.Goals as goal

pub returns : goal.returns
returns c =
    let text = c.args.text.now in
    let i = c.args.from in (
      brackets-up-to text i _ _
          c.next_token-opening.ensures c.next_token-closing.ensures,
      reach-next text i _ _ (reach-next text i _ _ (reach_here text i) c.next_token-opening.ensures)
          c.next_token-closing.ensures,
    )
