-- `of_one_channel` goes by the numbers, and then by the tags.
use Rattle.run_parts.proofs.Returns.{channels-apart, channel-one}
use Rattle.run_parts.proofs.readiness.of_one_channel.Goals as goal

pub returns-then-e-f : goal.returns-then-e-f
returns-then-e-f c = channels-apart c.args.e c.args.f c.if-e-f.true

pub returns : goal.returns
returns c = channel-one c.args.e c.args.f c.if-e-f.false c.either_way.ensures
