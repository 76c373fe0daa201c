-- `ends_here`: asked at = after a name.
use mathlib.Core.Path.{sym, ap, ◌∙◌}
use Rattle.text_pass.proofs.EndsLaws.{named_start, named_end}
use lib.Seq.{slice}
use Rattle.text_effect.specs.EffectCode.{name_at}
use Rattle.text_pass.proofs.walk.ends_here.Goals as goal

pub returns-then-kind-eq-ASSIGN : goal.returns-then-kind-eq-ASSIGN
returns-then-kind-eq-ASSIGN c =
    λ scopes o le start end q k.
    c.is_withends.ensures scopes (name_at c.args.text.now start end) o le
    (sym (ap (λ s. slice s c.in-Named.end c.args.text.now)
    (named_start (sym c.in-Named.is ∙ q))
    ∙ ap (λ e. slice start e c.args.text.now) (named_end (sym c.in-Named.is ∙ q))))

pub returns-else-kind-eq-ASSIGN : goal.returns-else-kind-eq-ASSIGN
returns-else-kind-eq-ASSIGN c = λ scopes o le start end q k. absurd (c.if-kind-eq-ASSIGN.false k)

pub returns-in_default : goal.returns-in_default
returns-in_default c = λ scopes o le start end q k. absurd (c.in_default.not-Named start end q)
