-- `slot` by its tests.
use mathlib.Core.Path.{refl}
use borrow.Author.Tests.{lt-ltb, le-ltb}
use Prim.Native.Nat.{◌-◌}
use Rattle.text_window.specs.WindowCode.{slot_of}
use Rattle.text_window.proofs.window.slot.Goals as goal

pub returns-then-k-low : goal.returns-then-k-low
unfolding slot_of
returns-then-k-low c = let g = c.args in rw (lt-ltb g.k g.low c.if-k-low.true) refl

pub returns-then-k-low-2 : goal.returns-then-k-low-2
unfolding slot_of
returns-then-k-low-2 c =
    let g = c.args in
    rw (le-ltb g.k g.low c.if-k-low.false, lt-ltb (g.k - g.low) g.room c.if-k-low-2.true) refl

pub returns : goal.returns
unfolding slot_of
returns c =
    let g = c.args in
    rw (le-ltb g.k g.low c.if-k-low.false, le-ltb (g.k - g.low) g.room c.if-k-low-2.false) refl
