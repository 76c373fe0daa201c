-- Acts of the table's machine and of the text's that are alike, where both sides test the same, or take the same value
-- apart.
use Prim.Native.Nat.{ℕ}
use mathlib.Core.Bool.{Bool, true, false, cond}
use mathlib.Core.Path.{◌≡◌, refl}
use mathlib.Core.List.{List, [], ◌∷◌}
use lib.IntN.{ℤ}
use Rattle.machine.specs.Value.{qubit, channel, end, Value, empty, int, bool, ref}
use Rattle.machine.specs.State.{Frame}
use Rattle.machine.specs.Act.{Act, ActOf, return_to, as_int, as_bool, as_qubit, as_channel, as_end, present, with_outcome}
use Rattle.machine.specs.Entry.{table_machine}
use Rattle.simulation.specs.Simulation.{no_more, one_more, FramesLike, ActLike, both-stuck, both-fault, both_go, both_end}
use Rattle.text.specs.Tree.{Program}
use Rattle.text.specs.Meaning.{TextFrame, returning, text_machine}
use Rattle.text.specs.Translation.{program_table}
use Rattle.text.proofs.Like.{Like, more-like}

module _ (ms : Program) (outcomes : List ℕ) where
  abbrev pub Acts : Act → ActOf TextFrame → Type 0
  Acts = ActLike (table_machine (program_table ms) outcomes) (text_machine ms outcomes) (Like ms)

  -- returning these values
  pub returned-like : (vs : List Value) {fs : List Frame} {gs : List TextFrame} → FramesLike (Like ms) fs gs
      → Acts (return_to vs fs) (returning vs gs)
  returned-like vs no_more = both_end
  returned-like vs (one_more h hs) = both_go [] 0 (one_more (more-like ms vs h) hs)

  -- one test on both sides
  pub both_cond : (b : Bool) {x y : Act} {z w : ActOf TextFrame} → (b ≡ true → Acts x z) → Acts y w
      → Acts (cond b x y) (cond b z w)
  both_cond true f g = f refl
  both_cond false f g = g

  -- a value that must be there
  pub present-like : (v : Value) {k : Value → Act} {l : Value → ActOf TextFrame} → ((w : Value) → Acts (k w) (l w))
      → Acts (present v k) (present v l)
  present-like empty f = both-fault 20
  present-like (int z) f = f (int z)
  present-like (bool b) f = f (bool b)
  present-like (ref t) f = f (ref t)

  -- an int, a boolean, a qubit, a channel, an end of one
  pub int-like : (v : Value) {k : ℤ → Act} {l : ℤ → ActOf TextFrame} → ((z : ℤ) → Acts (k z) (l z))
      → Acts (as_int v k) (as_int v l)
  int-like empty f = both-stuck
  int-like (int z) f = f z
  int-like (bool b) f = both-stuck
  int-like (ref t) f = both-stuck

  pub bool-like : (v : Value) {k : Bool → Act} {l : Bool → ActOf TextFrame} → ((b : Bool) → Acts (k b) (l b))
      → Acts (as_bool v k) (as_bool v l)
  bool-like empty f = both-stuck
  bool-like (int z) f = both-stuck
  bool-like (bool b) f = f b
  bool-like (ref t) f = both-stuck

  pub qubit-like : (v : Value) {k : ℕ → Act} {l : ℕ → ActOf TextFrame} → ((q : ℕ) → Acts (k q) (l q))
      → Acts (as_qubit v k) (as_qubit v l)
  qubit-like empty f = both-stuck
  qubit-like (int z) f = both-stuck
  qubit-like (bool b) f = both-stuck
  qubit-like (ref (qubit q)) f = f q
  qubit-like (ref (channel q)) f = both-stuck
  qubit-like (ref (end q d)) f = both-stuck

  pub channel-like : (v : Value) {k : ℕ → Act} {l : ℕ → ActOf TextFrame} → ((q : ℕ) → Acts (k q) (l q))
      → Acts (as_channel v k) (as_channel v l)
  channel-like empty f = both-stuck
  channel-like (int z) f = both-stuck
  channel-like (bool b) f = both-stuck
  channel-like (ref (qubit q)) f = both-stuck
  channel-like (ref (channel q)) f = f q
  channel-like (ref (end q d)) f = both-stuck

  pub end-like : (v : Value) {k : ℕ → Bool → Act} {l : ℕ → Bool → ActOf TextFrame}
      → ((q : ℕ) (d : Bool) → Acts (k q d) (l q d)) → Acts (as_end v k) (as_end v l)
  end-like empty f = both-stuck
  end-like (int z) f = both-stuck
  end-like (bool b) f = both-stuck
  end-like (ref (qubit q)) f = both-stuck
  end-like (ref (channel q)) f = both-stuck
  end-like (ref (end q d)) f = f q d

  -- the next outcome
  pub outcome-like : (os : List ℕ) {k : ℕ → Act} {l : ℕ → ActOf TextFrame} → ((o : ℕ) → Acts (k o) (l o))
      → Acts (with_outcome os k) (with_outcome os l)
  outcome-like [] f = both-fault 24
  outcome-like (o ∷ os) f = f o
