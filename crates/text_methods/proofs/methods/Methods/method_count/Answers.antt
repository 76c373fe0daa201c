-- `method_count`: word 0 of the index.
use mathlib.Core.Path.{◌∙◌}
use Rattle.text_methods.proofs.Found.{counts-methods}
use Rattle.text_methods.proofs.methods.Methods.method_count.Goals as goal

pub returns : goal.returns
returns c =
    let m = c.args.self.now in
    (m.indexed.count, λ ms us e. m.indexed.count ∙ counts-methods m.text.now ms us e)
