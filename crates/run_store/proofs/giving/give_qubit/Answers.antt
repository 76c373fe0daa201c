-- `give_qubit` goes through the values eight at a time: of those before number 8 j, the lost ones are emptied.
use Rattle.run_store.proofs.Laws.{emptied-eight}
use Rattle.run_store.specs.StoreCode.{emptied_by}
use native.Mathlib.Omega.{arith}
use mathlib.Core.Path.{◌≡◌, refl, ◌∙◌, subst}
use Prim.Native.Nat.{ℕ, ◌*◌, ◌-◌}
use borrow.Author.Rules.{rules}
use Rattle.run_store.proofs.giving.give_qubit.Goals as goal

pub loop-j-init : goal.loop-j-init
unfolding emptied_by
loop-j-init c = (search rules, refl, refl)

pub loop-j-preserved : goal.loop-j-preserved
loop-j-preserved c =
    let args = c.args in (
      search rules,
      emptied-eight args.w.now (record { tag = 3; number = args.number }) c.loop-j.j
          c.loop-j.invariant.1 c.lose_eight.ensures,
      c.lose_eight.auto.w
          ∙ c.loop-j.invariant.2,
    )

pub returns : goal.returns
returns c =
    let args = c.args in
    let e : c.loop-j.j ≡ args.n = omega arith in
    subst (λ (i : ℕ). c.loop-j.w ≡ emptied_by args.w.now (record { tag = 3; number = args.number }) (8 * i)) e
    c.loop-j.invariant.1
