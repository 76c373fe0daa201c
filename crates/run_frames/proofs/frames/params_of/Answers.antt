-- `params_of` reads the second word of the method's row.
use mathlib.Core.Path.{refl}
use native.Mathlib.Omega.{arith}
use Rattle.table.specs.Table.{methods, word, row, params_of}
use Rattle.run_frames.proofs.Rows.{row-words}
use Rattle.run_frames.proofs.frames.params_of.Goals as goal

pub overflow_cast-result : goal.overflow_cast-result
overflow_cast-result c = omega (arith, c.type_inv.p 0)

pub overflow_mul-result : goal.overflow_mul-result
overflow_mul-result c = omega (arith, c.type_inv.p 0)

pub overflow_add-result : goal.overflow_add-result
overflow_add-result c = omega (arith, c.type_inv.p 0)

pub overflow_add-result-2 : goal.overflow_add-result-2
overflow_add-result-2 c = omega (arith, c.type_inv.p 0)

pub overflow_add-result-3 : goal.overflow_add-result-3
overflow_add-result-3 c = omega (arith, c.type_inv.p 0)

pub offset_bounds-p-p : goal.offset_bounds-p-p
offset_bounds-p-p c = omega (arith, c.type_inv.p 0)

pub bounds-p-p : goal.bounds-p-p
bounds-p-p c = row-words c.requires.0 c.requires.1

pub returns : goal.returns
unfolding params_of row methods word
returns c = refl
