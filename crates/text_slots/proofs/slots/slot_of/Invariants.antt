-- `slot_of` goes from the innermost variable outward: what is answered for the variables outside is answered for all.
use Prim.Native.Nat.{ℕ}
use mathlib.Core.Bool.{Bool}
use Rattle.text_slots.specs.Placing.{SlotAnswer}
use Rattle.text_slots.proofs.slots.slot_of.Given as goal

abbrev pub invariant-loop-k : goal.invariant-loop-k
invariant-loop-k l = (s : ℕ) (e : Bool) → SlotAnswer l.text l.scope l.k l.start l.end s e → SlotAnswer l.text l.scope l.n l.start l.end s e
