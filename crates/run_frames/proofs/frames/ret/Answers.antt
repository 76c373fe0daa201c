-- `ret` goes by whether the method is void, and whether the value is emptied.
use mathlib.Core.Path.{refl, ◌∙◌, ap}
use Rattle.run_store.specs.StoreCode.{value_at}
use Rattle.run_frames.proofs.Calls.{was-done, was-left, closed-count, returns-nothing, returns-value}
use Rattle.run_frames.proofs.frames.ret.Goals as goal

pub returns-then-h-lt2 : goal.returns-then-h-lt2
returns-then-h-lt2 c = was-left refl

pub returns-then-is_void : goal.returns-then-is_void
returns-then-is_void c =
    was-done (returns-nothing
    c.args.p.now
    c.args.w.now
    c.args.h
    c.if-h-lt2.false
    c.is_void.ensures c.if-is_void.true
    c.close.ensures)

pub returns-then-v-eq0 : goal.returns-then-v-eq0
returns-then-v-eq0 c = was-left refl

pub hand_to-requires : goal.hand_to-requires
hand_to-requires c = (
  c.close-2.auto.w ∙ c.requires.0,
  closed-count c.args.w.now c.args.h
      c.if-h-lt2.false c.requires.1 c.close-2.ensures
      (c.close-2.auto.w ∙ c.requires.0),
)

pub returns : goal.returns
returns c =
    was-done
    (returns-value c.args.p.now c.args.w.now c.args.h c.if-h-lt2.false
    c.is_void.ensures c.if-is_void.false
    (c.value-v.ensures ∙ ap (value_at c.args.w.now) c.top.ensures) c.if-v-eq0.false
    c.close-2.ensures c.hand_to.ensures)
