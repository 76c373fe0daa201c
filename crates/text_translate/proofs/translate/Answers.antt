-- `translate` asks 30 first.
use mathlib.Core.Path.{refl, sym}
use native.Mathlib.Omega.{arith}
use Rattle.std.proofs.lemmas.Result.{err_from_is_err_and}
use Rattle.text_translate.specs.Translate.{answer_numbers}
use Rattle.text_translate.proofs.Answering.{grammar-says}
use Rattle.text_translate.proofs.translate.Goals as goal

pub returns-in_err-grammar_place : goal.returns-in_err-grammar_place
unfolding answer_numbers
returns-in_err-grammar_place c =
    let p = err_from_is_err_and c.from_residual.result c.from_residual.ensures.1 in
    rw (p.1, p.2) (grammar-says _ _ c.in_err-grammar_place.ensures.0 c.in_err-grammar_place.ensures.1 refl)

pub names_then_table-requires : goal.names_then_table-requires
names_then_table-requires c = (omega arith, sym c.in_ok-grammar_place.ensures.0)
