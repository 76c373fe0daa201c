-- `change_frame` puts the head back and takes CALL or RET.
use Prim.Native.Nat.{ℕ, ◌+◌, ◌*◌, ◌%◌}
use mathlib.Core.Path.{refl, sym, ◌∙◌, ap, subst}
use Rattle.run_store.specs.StoreCode.{head_of}
use native.Mathlib.Omega.{arith}
use Rattle.table.specs.Table.{word, methods}
use Rattle.run_stretch.specs.StretchCode.{At}
use Rattle.run_frames.proofs.Calls.{was-left}
use Rattle.run_stretch.proofs.Within.{words-there, op-kept, at_place, method-of-call}
use Rattle.run_stretch.proofs.Changes.{calls-step, returns-step, taken-from}
use Rattle.run_stretch.proofs.stretch.change_frame.Goals as goal

pub bounds-p-at : goal.bounds-p-at
bounds-p-at c = omega (arith, c.requires.4, words-there c.requires.5 c.requires.6 refl)

pub bounds-p-at-2 : goal.bounds-p-at-2
bounds-p-at-2 c = omega (arith, c.requires.4, words-there c.requires.5 c.requires.6 refl)

pub call-requires : goal.call-requires
unfolding word
call-requires c = (
  c.put_top.auto.w ∙ c.requires.0,
  c.requires.1,
  c.requires.2,
  c.requires.5,
  method-of-call
      c.requires.5 (subst (λ (n : ℕ). At c.args.p.now c.args.h.method c.args.h.place (word c.args.p.now n % 32) (word
      c.args.p.now (n + 1))) (sym c.requires.4) (at_place c.requires.5 c.requires.6 refl))
      c.in-12.is,
)

pub returns-in-12 : goal.returns-in-12
unfolding word
returns-in-12 c =
    let p = c.args.p.now in
    taken-from p c.put_top.ensures
    (calls-step p _ (2 + 20 * methods p)
    (sym c.requires.7 ∙ ap head_of (sym c.put_top.ensures)) c.requires.3 refl
    (ap (λ (n : ℕ). word p n % 32) c.requires.4 ∙ op-kept c.requires.5 c.requires.6 refl)
    (ap (λ (n : ℕ). word p (n + 1)) c.requires.4) c.in-12.is
    c.call.ensures)

pub ret-requires : goal.ret-requires
ret-requires c = (
  c.put_top.auto.w ∙
      c.requires.0,
  c.requires.1,
  c.requires.5,
  c.requires.6.method,
)

pub returns-in-13 : goal.returns-in-13
unfolding word
returns-in-13 c =
    let p = c.args.p.now in
    taken-from p c.put_top.ensures
    (returns-step p _ (2 + 20 * methods p)
    (sym c.requires.7 ∙ ap head_of (sym c.put_top.ensures)) c.requires.3 refl
    (ap (λ (n : ℕ). word p n % 32) c.requires.4 ∙ op-kept c.requires.5 c.requires.6 refl)
    (ap (λ (n : ℕ). word p (n + 1)) c.requires.4) c.in-13.is
    c.ret.ensures)

pub returns-in_default : goal.returns-in_default
returns-in_default c = was-left c.put_top.ensures
