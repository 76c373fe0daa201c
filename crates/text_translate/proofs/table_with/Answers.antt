-- `table_with` judges the limits, asks for the room, and only then writes.
use native.Mathlib.Omega.{arith}
use Rattle.std.proofs.lemmas.Result.{err_from_is_err_and}
use Rattle.text_translate.specs.Translate.{answer_numbers}
use Rattle.text_translate.proofs.Answering.{limits-say, few-methods, few-instructions, short-says, table-says}
use Rattle.text_translate.proofs.table_with.Goals as goal

pub returns-in_err-size : goal.returns-in_err-size
unfolding answer_numbers
returns-in_err-size c =
    let w = c.requires.0 in
    let p = err_from_is_err_and c.from_residual.result c.from_residual.ensures.1 in
    rw (p.1, p.2) (limits-say _ w (c.in_err-size.ensures w) _)

pub overflow_mul-words : goal.overflow_mul-words
overflow_mul-words c = let l = c.in_ok-size.ensures c.requires.0 in omega (arith, few-methods _ c.requires.0 l)

pub overflow_add-words : goal.overflow_add-words
overflow_add-words c = let l = c.in_ok-size.ensures c.requires.0 in omega (arith, few-methods _ c.requires.0 l)

pub overflow_mul-words-2 : goal.overflow_mul-words-2
overflow_mul-words-2 c = let l = c.in_ok-size.ensures c.requires.0 in omega (arith, few-instructions _ c.requires.0 l)

pub overflow_add-words-2 : goal.overflow_add-words-2
overflow_add-words-2 c =
    let l = c.in_ok-size.ensures c.requires.0 in
    omega (arith, few-methods _ c.requires.0 l, few-instructions _ c.requires.0 l)

pub returns-then-table-words : goal.returns-then-table-words
unfolding answer_numbers
returns-then-table-words c = let w = c.requires.0 in short-says _ w (c.in_ok-size.ensures w) _ c.if-table-words.true

pub write_table-n-requires : goal.write_table-n-requires
write_table-n-requires c = (
  omega (arith, c.requires.4, c.rows-1.given),
  omega (arith, c.requires.5, c.kept-1.given),
)

pub returns : goal.returns
unfolding answer_numbers
returns c =
    let w = c.requires.0 in
    table-says _ w (c.in_ok-size.ensures w) _ _ c.if-table-words.false c.write_table-n.ensures
