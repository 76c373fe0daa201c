-- `kept_with` judges the words of the method as its table is judged.
use mathlib.Core.Path.{refl, ◌∙◌}
use native.Mathlib.Omega.{arith}
use Rattle.text_judged.proofs.Kept.{calls-in, kept_by}
use Rattle.text_judged.proofs.Stepping.{part-numbered, method-words}
use Rattle.text_judged.proofs.method.kept_with.Goals as goal

pub judge_words-requires : goal.judge_words-requires
judge_words-requires c =
    let pre = c.requires in (
      method-words _ _ _ _ _ pre.0 (omega (arith, pre.2, c.words-1.given)),
      calls-in _ _ _ _ pre.0,
      part-numbered _ _ _ c.number_calls.ensures,
      pre.0.enough,
      refl,
      refl,
      pre.1,
      pre.3,
    )

pub returns : goal.returns
returns c =
    let args = c.args in
    λ h. c.judge_words.ensures h.program h.left h.reads
    ∙ kept_by _ _ _ _ h _ (part-numbered _ _ _ c.number_calls.ensures)
    (record { long = args.long; methods = 4096; known = 0 }) refl refl
