-- `put_row` copies a row over 18 words.
use native.Mathlib.Omega.{arith}
use Rattle.std.proofs.lemmas.Slice.{put_mid-paste}
use Rattle.text_judge.specs.RowsCode.{copied}
use Rattle.text_judge.proofs.rows.put_row.Goals as goal

pub returns : goal.returns
unfolding copied
returns c = put_mid-paste _ _ _ _ _ 18 c.copy_from_slice.ensures.after (omega arith) (omega (arith, c.requires.0))
