-- The table's shape, sixteen rows of two words, and what follows from it for the reads and writes of the code.
use Prim.Native.Nat.{ℕ, zero, suc, ◌≤◌, ◌<◌}
use mathlib.Core.Path.{◌≡◌, refl, sym, ◌∙◌, ap}
use mathlib.Core.List.{List, [], ◌∷◌}
use native.Mathlib.Nat.{le_of_suc-le-suc, not-suc-le-zero}
use native.Mathlib.Omega.{arith}
use lib.ListN.{length, get_or, set, length-set}
use lib.Dec.{eqb}
use borrow.Author.Tests.{lt-ltb, le-ltb}
use lib.Seq.{set_out, set-get_or}
use mir.Syntax.{w16}
use mir.Val.{Val}
use denote.Laws.{Is}
use denote.Shadow.{shadow}
use denote.Plain.{UInt}
use denote.Array.{Array, each}
use Rattle.lists.specs.Lists.{All}
use Rattle.lists.proofs.Tests.{cond_both}
use Rattle.machine.specs.State.{Line}
use Rattle.run_holders.specs.HoldersCode.{holder_in, end_given, channel_given, holders_after}

abbrev pub Two : List ℕ → Type 0
Two r = length r ≡ 2

pub record Shape (t : List (List ℕ)) : Type 0 where
  pub rows : length t ≡ 16
  pub two : All Two t

-- an array has its type's shape
rows-two : (t : List (List ℕ)) (us : List Val) → shadow (each (List ℕ) (Array (UInt w16) 2).own_val t us) → All Two t
rows-two [] us s = tt
rows-two (r ∷ t) [] s = absurd s
rows-two (r ∷ t) (u ∷ us) s = (s.0.1.0.1, rows-two t us s.1)

pub shaped : {t : List (List ℕ)} {vs : List Val} → Is (Array (Array (UInt w16) 2) 16) t vs → Shape t
shaped {t} p = record { rows = p.1.0.1; two = rows-two t p.0 p.1.1 }

-- every row that there is has two words
row-two : (t : List (List ℕ)) (c : ℕ) → All Two t → c < length t → length (get_or t c []) ≡ 2
row-two [] c a h = absurd (not-suc-le-zero h)
row-two (r ∷ t) zero a h = a.0
row-two (r ∷ t) (suc c) a h = row-two t c a.1 (le_of_suc-le-suc h)

-- the word of an end that there is, no such side, no such channel

pub holder-read : (t : List (List ℕ)) (c d : ℕ) → c < 16 → d < 2 → get_or (get_or t c []) d 0 ≡ holder_in t c d
unfolding holder_in
holder-read t c d h k = rw (lt-ltb c 16 h) (rw (lt-ltb d 2 k) refl)

pub no-side : (t : List (List ℕ)) (c d : ℕ) → c < 16 → 2 ≤ d → 65535 ≡ holder_in t c d
unfolding holder_in
no-side t c d h k = rw (lt-ltb c 16 h) (rw (le-ltb d 2 k) refl)

pub no-channel : (t : List (List ℕ)) (c d : ℕ) → 16 ≤ c → 65535 ≡ holder_in t c d
unfolding holder_in
no-channel t c d h = rw (le-ltb c 16 h) refl

module _ {t : List (List ℕ)} (s : Shape t) where
  pub row-length : (c : ℕ) → c < 16 → length (get_or t c []) ≡ 2
  row-length c h = row-two t c s.two (omega (arith, s.rows))

  pub no-side-given : (c d q : ℕ) → c < 16 → 2 ≤ d → t ≡ end_given t c d q
  unfolding end_given
  no-side-given c d q h k =
      sym (ap (set t c) (set_out (get_or t c []) d q (omega (arith, row-length c h))) ∙ set-get_or t c [])

  pub no-channel-given : (c d q : ℕ) → 16 ≤ c → t ≡ end_given t c d q
  unfolding end_given
  no-channel-given c d q h = sym (set_out t c (set (get_or t c []) d q) (omega (arith, s.rows)))

-- the shape is kept

set-two : (t : List (List ℕ)) (c d q : ℕ) → All Two t → All Two (set t c (set (get_or t c []) d q))
set-two [] c d q a = tt
set-two (r ∷ t) zero d q a = (length-set r d q ∙ a.0, a.1)
set-two (r ∷ t) (suc c) d q a = (a.0, set-two t c d q a.1)

pub end-shape : {t : List (List ℕ)} (c d q : ℕ) → Shape t → Shape (end_given t c d q)
unfolding end_given
end-shape {t} c d q s = record {
  rows = length-set t c (set (get_or t c []) d q) ∙ s.rows;
  two = set-two t c d q s.two;
}

pub channel-shape : {t : List (List ℕ)} (c q : ℕ) → Shape t → Shape (channel_given t c q)
unfolding channel_given
channel-shape c q s = end-shape c 1 q (end-shape c 0 q s)

pub noted-shape : {t : List (List ℕ)} (l : Line) → Shape t → Shape (holders_after t l)
unfolding holders_after
noted-shape l s =
    cond_both Shape (eqb l.kind 2) (channel-shape l.a l.process s)
    (cond_both Shape (eqb l.kind 6)
    (cond_both Shape (eqb l.b 4) (channel-shape l.c l.a s)
    (cond_both Shape (eqb l.b 5) (end-shape l.c 0 l.a s)
    (cond_both Shape (eqb l.b 6) (end-shape l.c 1 l.a s) s)))
    s)
