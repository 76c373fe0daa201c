-- `note_brackets`, effect by effect.
use Rattle.std.proofs.Common.{rules}
use Rattle.text_window.specs.WindowCode.{brackets_after}
use Rattle.text_window.proofs.window.note_brackets.Goals as goal

pub returns-in-OpensBracket : goal.returns-in-OpensBracket
unfolding brackets_after
returns-in-OpensBracket c = rw c.in-OpensBracket.is c.put_bracket.ensures

pub returns-in-OpensCall : goal.returns-in-OpensCall
unfolding brackets_after
returns-in-OpensCall c = rw c.in-OpensCall.is c.put_bracket-in-OpensCall.ensures

pub returns-in_default : goal.returns-in_default
unfolding brackets_after
returns-in_default c = search rules
