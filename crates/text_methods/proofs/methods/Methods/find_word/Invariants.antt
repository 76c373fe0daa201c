-- `find_word`: the entries before the one that is looked at have another name.
use Rattle.text_methods.specs.RowsCode.{rows_of}
use Rattle.text_methods.proofs.Looking.{Unlike}
use Rattle.text_methods.proofs.methods.Methods.find_word.Given as goal

abbrev pub invariant-loop-i : goal.invariant-loop-i
invariant-loop-i l = Unlike l.word (rows_of l.self.text.now) l.i
