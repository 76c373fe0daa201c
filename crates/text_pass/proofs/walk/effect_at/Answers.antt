-- `effect_at` knows whether the name means a channel with ends.
use Rattle.text_pass.proofs.walk.effect_at.Goals as goal

pub returns : goal.returns
returns c = λ scopes o le k. c.effect_of.ensures scopes k (c.ends_here-ends.ensures scopes o le)
