-- `wait` leaves a process that runs as it was.
use Prim.Native.Nat.{ℕ}
use mathlib.Core.Path.{◌≡◌, sym, ap}
use Rattle.run_store.specs.declared.head.Head.{Head}
use Rattle.run_store.proofs.head.Head.wait.Goals as goal

abbrev with_status : ℕ → Head → Head
with_status s h = record {
  status = s;
  fault = h.fault;
  frames = h.frames;
  method = h.method;
  place = h.place;
  pending = h.pending;
}

runs_on : (h : Head) → h.status ≡ 1 → with_status 1 h ≡ h
runs_on h e = ap (λ (s : ℕ). with_status s h) (sym e)

pub returns : goal.returns
returns c = runs_on c.args.self c.requires
