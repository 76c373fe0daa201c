-- What `Simulates` asks can be met: every machine simulates itself, each frame standing for itself.
use mathlib.Core.Path.{◌≡◌, refl, subst}
use mathlib.Core.List.{List, [], ◌∷◌}
use Rattle.machine.specs.State.{ProcessOf, StateOf}
use Rattle.machine.specs.Act.{OfferOf, sends, receives, ActOf, idle, stuck, faults, goes, ends, makes, forks, offers}
use Rattle.machine.specs.Entry.{MachineOf}
use Rattle.simulation.specs.Simulation.{OneByOne, no_more, one_more, OfferLike, both_send, both-receive, ActLike, both-idle, both-stuck, both-fault, both_go, both_end, both-make, both-fork, both-offer, ProcessLike, StateLike, Simulates}

-- lists that are equal one by one are equal
one-equal : {A : Type 0} {R : A → A → Type 0} → ((x y : A) → R x y → x ≡ y) → {xs ys : List A} → OneByOne R xs ys
    → xs ≡ ys
one-equal e no_more = refl
one-equal e (one_more {x} {y} {xs} {ys} r h) = λ i. e x y r i ∷ one-equal e h i

module _ {F : Type 0} where
  abbrev Same : F → F → Type 0
  Same f g = f ≡ g

  same-frames : {fs gs : List F} → OneByOne Same fs gs → fs ≡ gs
  same-frames h = one-equal (λ f g e. e) h

  to-itself : (fs : List F) → OneByOne Same fs fs
  to-itself [] = no_more
  to-itself (f ∷ fs) = one_more refl (to-itself fs)

  -- so equal frames stay equal, whatever is done to them
  kept : (f : List F → List F) {fs gs : List F} → OneByOne Same fs gs → OneByOne Same (f fs) (f gs)
  kept f {fs} h = subst (λ (gs : List F). OneByOne Same (f fs) (f gs)) (same-frames h) (to-itself (f fs))

  same-process : (p q : ProcessOf F) → ProcessLike Same p q → p ≡ q
  same-process p q h = λ i. record { status = h.status i; frames = same-frames h.frames i }

  same-state : {s s' : StateOf F} → StateLike Same s s' → s ≡ s'
  same-state a = λ i. record {
    config = record {
      processes = one-equal same-process a.config.processes i;
      qubits = a.config.qubits i;
      channels = a.config.channels i;
    };
    used = a.used i;
    lines = a.lines i;
  }

  offer-itself : (o : OfferOf F) → OfferLike Same o o
  offer-itself (sends c d v fs) = both_send c d v (to-itself fs)
  offer-itself (receives c d fs) = both-receive c d (to-itself fs)

module _ {F : Type 0} (M : MachineOf F) where
  act-itself : (a : ActOf F) → ActLike M M Same a a
  act-itself idle = both-idle
  act-itself stuck = both-stuck
  act-itself (faults f) = both-fault f
  act-itself (goes fs es u) = both_go es u (to-itself fs)
  act-itself ends = both_end
  act-itself (makes t fs) = both-make t (to-itself fs)
  act-itself (forks m args fs) = both-fork m args (to-itself fs) refl
  act-itself (offers o) = both-offer (offer-itself o)

  pub itself : Simulates M M (λ f g. f ≡ g)
  itself = record {
    acts = λ s s' n a. subst (λ (t : StateOf F). ActLike M M Same (M.act s n) (M.act t n)) (same-state a)
        (act-itself (M.act s n));
    loses = λ ts h. kept (M.loses ts) h;
    gets = λ v h. kept (M.gets v) h;
    root = refl;
  }
