-- What follows an operand's kind: a property of a stuck act, and of the act for each value of the kind wanted, is one
-- of the act for any value.
use mathlib.Core.Path.{◌≡◌, refl}
use mathlib.Core.Bool.{Bool}
use mathlib.Core.List.{List, [], ◌∷◌}
use Prim.Native.Nat.{ℕ}
use lib.IntN.{ℤ}
use Rattle.machine.specs.Value.{qubit, channel, end, Value, empty, int, bool, ref}
use Rattle.machine.specs.Act.{Act, stuck, faults, as_int, as_bool, as_qubit, as_channel, as_end, present, with_outcome}

module _ (P : Act → Type 0) where
  pub on-int : P stuck → (v : Value) (k : ℤ → Act) → ((z : ℤ) → P (k z)) → P (as_int v k)
  on-int n empty k h = n
  on-int n (int z) k h = h z
  on-int n (bool b) k h = n
  on-int n (ref t) k h = n

  pub on_bool : P stuck → (v : Value) (k : Bool → Act) → ((b : Bool) → P (k b)) → P (as_bool v k)
  on_bool n empty k h = n
  on_bool n (int z) k h = n
  on_bool n (bool b) k h = h b
  on_bool n (ref t) k h = n

  pub on-qubit : P stuck → (v : Value) (k : ℕ → Act) → ((q : ℕ) → v ≡ ref (qubit q) → P (k q)) → P (as_qubit v k)
  on-qubit n empty k h = n
  on-qubit n (int z) k h = n
  on-qubit n (bool b) k h = n
  on-qubit n (ref (qubit q)) k h = h q refl
  on-qubit n (ref (channel c)) k h = n
  on-qubit n (ref (end c s)) k h = n

  pub on-channel : P stuck → (v : Value) (k : ℕ → Act) → ((c : ℕ) → v ≡ ref (channel c) → P (k c)) → P (as_channel v k)
  on-channel n empty k h = n
  on-channel n (int z) k h = n
  on-channel n (bool b) k h = n
  on-channel n (ref (qubit q)) k h = n
  on-channel n (ref (channel c)) k h = h c refl
  on-channel n (ref (end c s)) k h = n

  pub on-end : P stuck → (v : Value) (k : ℕ → Bool → Act) → ((c : ℕ) (s : Bool) → v ≡ ref (end c s) → P (k c s))
      → P (as_end v k)
  on-end n empty k h = n
  on-end n (int z) k h = n
  on-end n (bool b) k h = n
  on-end n (ref (qubit q)) k h = n
  on-end n (ref (channel c)) k h = n
  on-end n (ref (end c s)) k h = h c s refl

  pub on-present : P (faults 20) → (v : Value) (k : Value → Act) → P (k v) → P (present v k)
  on-present n empty k h = n
  on-present n (int z) k h = h
  on-present n (bool b) k h = h
  on-present n (ref t) k h = h

  pub on-outcome : P (faults 24) → (os : List ℕ) (k : ℕ → Act) → ((o : ℕ) → P (k o)) → P (with_outcome os k)
  on-outcome n [] k h = n
  on-outcome n (o ∷ os) k h = h o
