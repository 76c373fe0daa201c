-- The operands of an instruction that stands ready: a value that is there is of the kind that its type says, and a rule
-- that is kept gives the operands' types.
use Prim.Native.Nat.{ℕ, ◌≤◌}
use native.Mathlib.Omega.{arith}
use mathlib.Core.Bool.{Bool, cond, ◌&&◌}
use mathlib.Core.Path.{◌≡◌, refl}
use mathlib.Core.List.{List, [], ◌∷◌}
use mathlib.Core.Option.{none, some}
use lib.ListN.{get_or}
use lib.IntN.{ℤ}
use lib.Dec.{T, leb}
use mir.Facts.{and_yes, leb_yes}
use Rattle.lists.specs.Lists.{same}
use Rattle.lists.proofs.Laws.{get_d-within, same-equal}
use Rattle.lists.proofs.Each.{Both, both_at, both-implies}
use Rattle.table.specs.Ops.{Op}
use Rattle.table.proofs.Before.{cond-some}
use Rattle.machine.specs.Value.{qubit, channel, end, Value, empty, int, bool, ref}
use Rattle.machine.specs.Act.{At, operand}
use Rattle.machine.proofs.Typing.{ThingFits, Fits}
use Rattle.machine.proofs.Acts.{Full, Ready}

-- Values of a type

module _ (ks : List ℕ) (q : ℕ) where
  pub int_of : (v : Value) → Full ks q v 1 → (z : ℤ) × (v ≡ int z)
  int_of empty h = absurd h.0
  int_of (int z) h = (z, refl)
  int_of (bool b) h = absurd (omega arith)
  int_of (ref (qubit n)) h = absurd (omega arith)
  int_of (ref (channel n)) h = absurd (omega arith)
  int_of (ref (end n s)) h = absurd (omega arith)

  pub bool-of : (v : Value) → Full ks q v 2 → (b : Bool) × (v ≡ bool b)
  bool-of empty h = absurd h.0
  bool-of (int z) h = absurd (omega arith)
  bool-of (bool b) h = (b, refl)
  bool-of (ref (qubit n)) h = absurd (omega arith)
  bool-of (ref (channel n)) h = absurd (omega arith)
  bool-of (ref (end n s)) h = absurd (omega arith)

  pub qubit-of : (v : Value) → Full ks q v 3 → (n : ℕ) × (v ≡ ref (qubit n))
  qubit-of empty h = absurd h.0
  qubit-of (int z) h = absurd (omega arith)
  qubit-of (bool b) h = absurd (omega arith)
  qubit-of (ref (qubit n)) h = (n, refl)
  qubit-of (ref (channel n)) h = absurd (omega arith)
  qubit-of (ref (end n s)) h = absurd (omega arith)

  pub channel-of : (v : Value) (t : ℕ) → 17 ≤ t → t ≤ 19 → Full ks q v t
      → (n : ℕ) × (v ≡ ref (channel n)) × ThingFits ks q (channel n) t
  channel-of empty t l m h = absurd h.0
  channel-of (int z) t l m h = absurd (omega arith)
  channel-of (bool b) t l m h = absurd (omega arith)
  channel-of (ref (qubit n)) t l m h = absurd (omega arith)
  channel-of (ref (channel n)) t l m h = (n, refl, h.1)
  channel-of (ref (end n s)) t l m h = absurd (omega arith)

  pub end-of : (v : Value) (t : ℕ) → 33 ≤ t → Full ks q v t
      → (n : ℕ) × (s : Bool) × (v ≡ ref (end n s)) × ThingFits ks q (end n s) t
  end-of empty t l h = absurd h.0
  end-of (int z) t l h = absurd (omega arith)
  end-of (bool b) t l h = absurd (omega arith)
  end-of (ref (qubit n)) t l h = absurd (omega arith)
  end-of (ref (channel n)) t l h = absurd (omega arith)
  end-of (ref (end n s)) t l h = (n, s, refl, h.1)

-- What a rule says

pub between : (l h t : ℕ) → T (leb l t && leb t h) → (l ≤ t) × (t ≤ h)
between l h t b = let (low, high) = and_yes (leb l t) (leb t h) b in (leb_yes low, leb_yes high)

module _ {op : Op} {ks : List ℕ} {a : At} (r : Ready op ks a) where
  -- a type other than 0 is an operand's
  pub operand-there : (i : ℕ) → 1 ≤ get_or r.taken i 0 → Full ks a.qubits (operand a i) (get_or r.taken i 0)
  operand-there i l = both_at r.operands i empty 0 (get_d-within r.taken i 0 (λ e. omega arith))

  -- a rule that wants exactly the types ws, and gives ts
  wanted : (ws ts : List ℕ) → cond (same r.taken ws) (some ts) none ≡ some r.given
      → Both (Full ks a.qubits) a.operands ws × (some ts ≡ some r.given)
  wanted ws ts e =
      let (s, g) = cond-some (same r.taken ws) (some ts) r.given e in
      (rw (same-equal r.taken ws s) at r.operands, g)

  pub wanted-one : (w : ℕ) (ts : List ℕ) → cond (same r.taken (w ∷ [])) (some ts) none ≡ some r.given
      → Full ks a.qubits (operand a 0) w × (some ts ≡ some r.given)
  wanted-one w ts e = let (b, g) = wanted (w ∷ []) ts e in (both_at b 0 empty 0 (omega arith), g)

  -- of two operands the deeper comes first
  pub wanted-two : (w : ℕ) (ts : List ℕ) → cond (same r.taken (w ∷ w ∷ [])) (some ts) none ≡ some r.given
      → Full ks a.qubits (operand a 1) w × Full ks a.qubits (operand a 0) w × (some ts ≡ some r.given)
  wanted-two w ts e =
      let (b, g) = wanted (w ∷ w ∷ []) ts e in
      (both_at b 1 empty 0 (omega arith), both_at b 0 empty 0 (omega arith), g)

  pub wanted-all : (ws ts : List ℕ) → cond (same r.taken ws) (some ts) none ≡ some r.given
      → Both (Fits ks a.qubits) a.operands ws × (some ts ≡ some r.given)
  wanted-all ws ts e = let (b, g) = wanted ws ts e in (both-implies (λ v t h. h.1) b, g)
