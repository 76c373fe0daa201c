-- The judgement of a partner that has gone: what it leaves of an act.
use Prim.Native.Nat.{ℕ}
use mathlib.Core.Path.{◌≡◌, refl}
use mathlib.Core.Bool.{cond}
use mathlib.Core.List.{List}
use Rattle.lists.proofs.Tests.{cond_both}
use Rattle.machine.specs.State.{StateOf}
use Rattle.machine.specs.Act.{OfferOf, ActOf, idle, stuck, faults, goes, ends, makes, forks, offers}
use Rattle.machine.specs.Entry.{gone, judged}

-- whatever holds of the act, and of fault 33 where the act is an offer, holds of the judged act
pub judged-keeps : {F : Type 0} (P : ActOf F → Type 0) (s : StateOf F) (n : ℕ) (act : ActOf F) → P act
    → ((o : OfferOf F) → act ≡ offers o → P (faults 33)) → P (judged s n act)
unfolding judged
judged-keeps P s n idle h g = h
judged-keeps P s n stuck h g = h
judged-keeps P s n (faults f) h g = h
judged-keeps P s n (goes fs es u) h g = h
judged-keeps P s n ends h g = h
judged-keeps P s n (makes t fs) h g = h
judged-keeps P s n (forks m args fs) h g = h
judged-keeps P s n (offers o) h g = cond_both P (gone s n o) (g o refl) h
