-- Which word a thing's holder is read from: the one at which a run has stored it (crate layout, specs/Holders.antt), for
-- each of the 32 qubits and of the 32 ends.
use Prim.Native.Nat.{ℕ, ◌+◌, ◌*◌, ◌-◌, ◌/◌, ◌%◌, ◌<◌}
use mathlib.Core.Path.{◌≡◌, ◌∙◌, ap, ap₂, subst, sym}
use mathlib.Core.Bool.{Bool, true, false, cond}
use native.Mathlib.Omega.{arith}
use borrow.Author.Tests.{lt-ltb, le-ltb}
use Rattle.machine.specs.Value.{Thing, qubit, end, side_no, side_of}
use Rattle.layout.specs.Holders.{thing_at}
use Rattle.store_read.specs.Stored.{word_of}

-- the word is one of the 64, and it is the thing's
abbrev pub WordIs : ℕ → ℕ → Thing → Type 0
WordIs kind number t = (word_of kind number < 64) × (thing_at (word_of kind number) ≡ t)

word-is : (kind number i : ℕ) (t : Thing) → word_of kind number ≡ i → i < 64 → thing_at i ≡ t → WordIs kind number t
word-is kind number i t e l q = (subst (λ (j : ℕ). j < 64) (sym e) l, ap thing_at e ∙ q)

pub qubit-word : (q : ℕ) → q < 32 → WordIs 3 q (qubit q)
unfolding word_of thing_at
qubit-word q h =
    word-is 3 q q (qubit q) (ap (λ (b : Bool). cond b q 64) (lt-ltb q 32 h)) (omega (arith, h))
    (ap (λ (b : Bool). cond b (qubit q) (end ((q - 32) / 2) (side_of ((q - 32) % 2)))) (lt-ltb q 32 h))

-- end s of channel c
end-at : (c n : ℕ) → n < 2 → thing_at (32 + 2 * c + n) ≡ end c (side_of n)
unfolding thing_at
end-at c n h =
    ap (λ (b : Bool). cond b (qubit i) (end ((i - 32) / 2) (side_of ((i - 32) % 2)))) (le-ltb i 32 (omega arith))
    ∙ ap₂ (λ (k m : ℕ). end k (side_of m)) half rest
  where
    i : ℕ
    i = 32 + 2 * c + n

    half : (i - 32) / 2 ≡ c
    half = omega (arith, h)

    rest : (i - 32) % 2 ≡ n
    rest = omega (arith, h)

pub end-word : (c : ℕ) (s : Bool) → c < 16 → WordIs (5 + side_no s) c (end c s)
unfolding word_of
end-word c false h =
    word-is 5 c (32 + 2 * c + 0) (end c false) (ap (λ (b : Bool). cond b (32 + 2 * c) 64) (lt-ltb c 16 h) ∙ (omega arith))
    (omega (arith, h)) (end-at c 0 (omega arith))
end-word c true h =
    word-is 6 c (32 + 2 * c + 1) (end c true) (ap (λ (b : Bool). cond b (33 + 2 * c) 64) (lt-ltb c 16 h) ∙ (omega arith))
    (omega (arith, h)) (end-at c 1 (omega arith))
