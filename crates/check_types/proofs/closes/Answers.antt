-- RET and JUMP close a method.
use mathlib.Core.Path.{sym}
use Rattle.table.proofs.Ops.{closes-op}
use Rattle.check_types.proofs.closes.Goals as goal

pub returns : goal.returns
returns c = sym (closes-op _)
