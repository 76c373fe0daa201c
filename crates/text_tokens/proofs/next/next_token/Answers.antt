-- `next_token` is the next token by its definition.
use mathlib.Core.Path.{subst}
use Rattle.text_tokens.specs.NextCode.{next_at, NextToken}
use Rattle.text_tokens.proofs.Tokenwise.{next-token}
use Rattle.text_tokens.proofs.next.next_token.Goals as goal

pub returns : goal.returns
unfolding next_at
returns c =
    let g = c.args in
    subst (NextToken g.text.now g.from) (cc) (next-token g.text.now g.from)
