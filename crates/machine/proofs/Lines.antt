-- Laws of the lines of a trace: a law of each by the lines above it; and their entry numbers: the lines of an entry
-- bear its number, so that those so far are of the entries before it.
use Prim.Native.Nat.{ℕ, zero, suc, ◌<◌}
use mathlib.Core.Path.{◌≡◌, refl, sym, ap, ap₂, subst}
use mathlib.Core.Bool.{Bool, cond}
use mathlib.Core.List.{List, [], ◌∷◌, ◌++◌, map, append_assoc, append-nil}
use mathlib.Core.Option.{Option, none, some}
use native.Mathlib.Nat.{le_step, le_of_suc-le-suc, not-suc-le-zero}
use native.Mathlib.Omega.{arith}
use lib.ListN.{get_or, take, length}
use lib.Dec.{ltb}
use borrow.Author.Tests.{lt-ltb, le-ltb}
use Rattle.lists.specs.Lists.{All}
use Rattle.lists.proofs.Any.{All-append, All-implies}
use Rattle.machine.specs.State.{Line, State, Event, line_of, gave}
use Rattle.machine.specs.Act.{Act, idle, stuck, faults, goes, ends, makes, forks, offers, act_of}
use Rattle.machine.specs.Entry.{Meeting, things_of, handing, meeting_of, forking, judged, applied, effect_of, applied_in, effect_in, forking_in, meet_if_in, meet_in, table_machine}
use Rattle.machine.specs.Owner.{lines_before, no_line}

-- a law of each line of a list by the lines above it, where `above` stand above the whole list
abbrev pub EachLine : (List Line → Line → Type 0) → List Line → List Line → Type 0
EachLine P above [] = Unit {0}
EachLine P above (l ∷ ls) = P above l × EachLine P (above ++ (l ∷ [])) ls

module _ (P : List Line → Line → Type 0) where
  pub each_append : (above xs ys : List Line) → EachLine P above xs → EachLine P (above ++ xs) ys
      → EachLine P above (xs ++ ys)
  each_append above [] ys a b = subst (λ (ls : List Line). EachLine P ls ys) (append-nil above) b
  each_append above (x ∷ xs) ys a b = (
    a.0,
    each_append (above ++ (x ∷ [])) xs ys a.1
        (subst (λ (ls : List Line). EachLine P ls ys) (sym (append_assoc above (x ∷ []) xs)) b),
  )

  pub each_at : (above ls : List Line) → EachLine P above ls → (i : ℕ) → i < length ls
      → P (above ++ take i ls) (get_or ls i no_line)
  each_at above [] a i h = absurd (not-suc-le-zero h)
  each_at above (l ∷ ls) a zero h = subst (λ (xs : List Line). P xs l) (sym (append-nil above)) a.0
  each_at above (l ∷ ls) a (suc i) h =
      subst (λ (xs : List Line). P xs (get_or ls i no_line)) (append_assoc above (l ∷ []) (take i ls))
      (each_at (above ++ (l ∷ [])) ls a.1 i (le_of_suc-le-suc h))

-- entry numbers

-- all of these lines are of entries before k
abbrev pub Dated : ℕ → List Line → Type 0
Dated k ls = All (λ l. l.entry < k) ls

-- all of them are of entry k
abbrev pub Of : ℕ → List Line → Type 0
Of k ls = All (λ l. l.entry ≡ k) ls

pub before-all : (k : ℕ) (ls : List Line) → Dated k ls → lines_before k ls ≡ ls
unfolding lines_before
before-all k [] a = refl
before-all k (l ∷ ls) a =
    ap₂ (λ (b : Bool) (xs : List Line). cond b (l ∷ xs) xs) (lt-ltb l.entry k a.0) (before-all k ls a.1)

-- a line of entry k itself does not count
pub before-own : (k : ℕ) (ls : List Line) (l : Line) → l.entry ≡ k → lines_before k (ls ++ (l ∷ [])) ≡ lines_before k ls
unfolding lines_before
before-own k [] l e = ap (λ (b : Bool). cond b (l ∷ []) []) (le-ltb l.entry k (omega (arith, e)))
before-own k (m ∷ ls) l e = ap (λ (xs : List Line). cond (ltb m.entry k) (m ∷ xs) xs) (before-own k ls l e)

lines_of : (k n : ℕ) (es : List Event) → Of k (map (line_of k n) es)
lines_of k n [] = tt
lines_of k n (e ∷ es) = (refl, lines_of k n es)

pub dated-next : (k : ℕ) (ls new : List Line) → Dated k ls → Of k new → Dated (suc k) (ls ++ new)
dated-next k ls new a b =
    All-append (λ l. l.entry < suc k) ls new
    (All-implies (λ l. l.entry < k) (λ l. l.entry < suc k) (λ l h. le_step h) ls a)
    (All-implies (λ l. l.entry ≡ k) (λ l. l.entry < suc k) (λ l e. omega (arith, e)) new b)

-- the lines of an entry
pub effect-of : (p outcomes : List ℕ) (k : ℕ) (s : State) (n : ℕ) → Of k (effect_of p outcomes k s n).lines
unfolding effect_in applied_in forking_in meet_if_in meet_in
effect-of p outcomes k s n = go (judged s n (act_of p outcomes s n))
  where
    met : (o : Option Meeting) → Of k (meet_if_in (table_machine p outcomes) k s o).lines
    met none = tt
    met (some e) = (refl, lines_of k e.sender (handing e.receiver e.value))

    go : (a : Act) → Of k (applied p outcomes k s n a).lines
    go idle = tt
    go stuck = tt
    go (faults f) = (refl, tt)
    go (goes fs es u) = lines_of k n es
    go ends = (refl, tt)
    go (makes t fs) = (refl, tt)
    go (forks m args fs) = (refl, lines_of k n (map (gave (length s.config.processes)) (things_of args)))
    go (offers o) = met (meeting_of p outcomes s n o)
