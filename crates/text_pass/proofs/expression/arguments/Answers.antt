-- `arguments`: none, or some.
use mathlib.Core.Path.{refl}
use Rattle.text_pass.proofs.ArgumentLaws.{no_arguments, some-arguments}
use Rattle.text_pass.proofs.expression.arguments.Goals as goal

pub returns-in-Ok : goal.returns-in-Ok
returns-in-Ok c = λ scopes o le. no_arguments scopes c.args.text.now c.args.from refl c.in-Ok.ensures

pub returns : goal.returns
returns c =
    λ scopes o le.
    some-arguments scopes c.args.text.now c.args.from refl c.in_default.ensures (c.method_params.ensures scopes o le)
