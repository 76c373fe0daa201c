-- `measured`: five tokens.
use Rattle.text_emit_expr.proofs.PartLaws.{measured-up-to, reach_here, reach-next}
use Rattle.text_emit_expr.proofs.parts.measured.Goals as goal

pub returns : goal.returns
returns c =
    let text = c.args.text.now in
    let i = c.args.from in (
      measured-up-to text i _ _ _ _ _
          c.next_token-opening.ensures c.next_token-basis.ensures c.next_token-comma.ensures
          c.next_token-name.ensures c.next_token-closing.ensures,
      reach-next text i _ _ (reach-next text i _ _ (reach-next text i _ _
          (reach-next text i _ _ (reach-next text i _ _ (reach_here text i) c.next_token-opening.ensures)
          c.next_token-basis.ensures) c.next_token-comma.ensures) c.next_token-name.ensures)
          c.next_token-closing.ensures,
    )
