-- `ask_table` puts questions 1 to 3, and hands on.
use mathlib.Core.Path.{refl, sym, ◌∙◌}
use Rattle.table.specs.Table.{methods, instructions}
use Rattle.table.specs.Questions.{table_questions, question1, question3}
use Rattle.check_questions.specs.Check.{verdict_of}
use Rattle.check_questions.specs.AskCode.{code_questions}
use Rattle.check_questions.proofs.Verdicts.{whole-no, whole-yes, place_found, place_none, pair-fails, sum-fails, pairs-pass}
use Rattle.check_questions.proofs.Verdicts.{sizes-known, pairs-known, rows-known}
use native.Mathlib.Omega.{arith}
use Rattle.check_questions.proofs.ask_table.Goals as goal

pub returns-then-not-sizes_kept : goal.returns-then-not-sizes_kept
unfolding verdict_of table_questions question1
returns-then-not-sizes_kept c = whole-no 1 0 _ (sym c.if-not-sizes_kept.ensures)

pub first_pair-requires : goal.first_pair-requires
unfolding methods
first_pair-requires c =
    let sizes = sizes-known _ c.if-not-sizes_kept.ensures refl in
    omega (arith, c.word_at-count.ensures.0, sizes.methods-most)

pub returns-in-Some : goal.returns-in-Some
unfolding verdict_of table_questions question1 methods instructions
returns-in-Some c =
    pair-fails _ _ _ c.word_at-count.ensures.0 c.word_at-n.ensures.0 c.first_pair.ensures _ _ c.in-Some.is
    ∙ whole-yes 1 0 _ (sym c.if-not-sizes_kept.ensures)

pub sum_kept-requires : goal.sum_kept-requires
unfolding methods
sum_kept-requires c =
    let sizes = sizes-known _ c.if-not-sizes_kept.ensures refl in
    omega (arith, c.word_at-count.ensures.0, sizes.methods-some, sizes.methods-most)

pub overflow_sub-result : goal.overflow_sub-result
unfolding methods
overflow_sub-result c =
    let sizes = sizes-known _ c.if-not-sizes_kept.ensures refl in
    omega (arith, c.word_at-count.ensures.0, sizes.methods-some)

pub returns-then-not-sum_kept : goal.returns-then-not-sum_kept
unfolding verdict_of table_questions question1 methods instructions
returns-then-not-sum_kept c =
    sum-fails _ _ _ c.word_at-count.ensures.0 c.word_at-n.ensures.0 c.first_pair.ensures _ _ c.in_default.is
    c.if-not-sum_kept.ensures refl
    ∙ whole-yes 1 0 _ (sym c.if-not-sizes_kept.ensures)

pub first_row-requires : goal.first_row-requires
unfolding methods
first_row-requires c =
    let sizes = sizes-known _ c.if-not-sizes_kept.ensures refl in
    (c.word_at-count.ensures.0, omega (arith, c.word_at-count.ensures.0, sizes.methods-most))

pub returns-in-Some-first_row : goal.returns-in-Some-first_row
unfolding verdict_of table_questions question1 question3 methods instructions
returns-in-Some-first_row c =
    place_found 3 _ _ _ c.word_at-count.ensures.0 c.first_row.ensures _ _ c.in-Some-first_row.is
    ∙ pairs-pass _ _ _ c.word_at-count.ensures.0 c.word_at-n.ensures.0 c.first_pair.ensures _ _ c.in_default.is
    c.if-not-sum_kept.ensures refl
    ∙ whole-yes 1 0 _ (sym c.if-not-sizes_kept.ensures)

pub ask_code-requires : goal.ask_code-requires
unfolding methods instructions
ask_code-requires c =
    let count = c.word_at-count.ensures.0 in
    let n = c.word_at-n.ensures.0 in
    let sizes = sizes-known _ c.if-not-sizes_kept.ensures refl in (
      sizes,
      pairs-known _ sizes _ _ count n c.first_pair.ensures c.in_default.is c.if-not-sum_kept.ensures refl,
      rows-known _ sizes _ _ count n c.first_row.ensures c.in_default-first_row.is,
      count,
      n,
    )

pub returns : goal.returns
unfolding table_questions code_questions question1 question3 methods instructions
returns c =
    c.ask_code.ensures
    ∙ place_none 3 _ _ _ c.word_at-count.ensures.0 c.first_row.ensures _ c.in_default-first_row.is
    ∙ pairs-pass _ _ _ c.word_at-count.ensures.0 c.word_at-n.ensures.0 c.first_pair.ensures _ _ c.in_default.is
    c.if-not-sum_kept.ensures refl
    ∙ whole-yes 1 0 _ (sym c.if-not-sizes_kept.ensures)
