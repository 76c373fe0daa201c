-- Laws of the holder by lines alone: what one more line, or the lines of one entry, do to it.
use Prim.Native.Nat.{ℕ}
use mathlib.Core.Path.{◌≡◌, refl, ◌∙◌, ap}
use mathlib.Core.Logic.{◌≢◌, ◌⊎◌, inl, inr, ⊎_elim}
use mathlib.Core.Bool.{Bool, true, false, cond, ◌||◌}
use mathlib.Core.List.{List, [], ◌∷◌, ◌++◌, map, foldl, foldl-append}
use mathlib.Core.Option.{Option, none, some}
use native.Mathlib.Omega.{arith}
use lib.Dec.{T}
use borrow.Author.Tests.{ne_eqb}
use Rattle.lists.specs.Lists.{any, All}
use Rattle.lists.proofs.Tests.{or_left, or_right}
use Rattle.machine.specs.Value.{Thing, qubit, channel, end, Value, empty, int, bool, ref, covers, thing_kind, thing_no}
use Rattle.machine.specs.State.{Line, Event, gave, passed, line_of}
use Rattle.machine.specs.Entry.{things_of, handing, making}
use Rattle.machine.specs.Owner.{holder, holder_after, Holds, lines_before, LineHeld}
use Rattle.machine.proofs.Things.{covers-refl}
use Rattle.machine.proofs.Lines.{EachLine, Dated, before-all, before-own}
use Rattle.machine.proofs.Within.{Quiet, InReach}

-- one of these things covers x
abbrev pub covered : List Thing → Thing → Bool
covered ts x = any (λ t. covers t x) ts

pub holder-append : (ls new : List Line) (x : Thing) → holder (ls ++ new) x ≡ foldl (holder_after x) (holder ls x) new
unfolding holder
holder-append ls new x = foldl-append (holder_after x) none ls new

-- a line of no making and no giving leaves every holder
pub holder-kept : (x : Thing) (h : Option ℕ) (l : Line) → l.kind ≢ 1 → l.kind ≢ 2 → l.kind ≢ 6
    → holder_after x h l ≡ h
unfolding holder_after
holder-kept x h l a b c = rw (ne_eqb l.kind 1 a, ne_eqb l.kind 2 b, ne_eqb l.kind 6 c)

-- the line of a giving, and of a making
pub holder-gave : (x : Thing) (h : Option ℕ) (k n q : ℕ) (t : Thing)
    → holder_after x h (line_of k n (gave q t)) ≡ cond (covers t x) (some q) h
unfolding holder_after thing_kind thing_no
holder-gave x h k n q (qubit m) = refl
holder-gave x h k n q (channel m) = refl
holder-gave x h k n q (end m true) = refl
holder-gave x h k n q (end m false) = refl

pub holder-making : (x : Thing) (h : Option ℕ) (k n : ℕ) (t : Thing) → ((m : ℕ) (s : Bool) → t ≢ end m s)
    → holder_after x h (line_of k n (making t)) ≡ cond (covers t x) (some n) h
unfolding holder_after making
holder-making x h k n (qubit m) f = refl
holder-making x h k n (channel m) f = refl
holder-making x h k n (end m s) f = absurd (f m s refl)

-- lines that move no holder
pub holder-quiet : (ys : List Value) (x : Thing) (k n : ℕ) (es : List Event) (h : Option ℕ) → All (Quiet ys) es
    → foldl (holder_after x) h (map (line_of k n) es) ≡ h
holder-quiet ys x k n [] h a = refl
holder-quiet ys x k n (e ∷ es) h a =
    ap (λ (g : Option ℕ). foldl (holder_after x) g (map (line_of k n) es))
    (holder-kept x h (line_of k n e) a.0.not_made.0 a.0.not_made.1 a.0.not_given)
    ∙ holder-quiet ys x k n es h a.1

-- lines of giving: whatever one of the things covers goes to q, and all else stays
pub holder-given : (x : Thing) (k n q : ℕ) (ts : List Thing) (h : Option ℕ)
    → foldl (holder_after x) h (map (line_of k n) (map (gave q) ts)) ≡ cond (covered ts x) (some q) h
holder-given x k n q [] h = refl
holder-given x k n q (t ∷ ts) h =
    ap (λ (g : Option ℕ). foldl (holder_after x) g (map (line_of k n) (map (gave q) ts))) (holder-gave x h k n q t)
    ∙ holder-given x k n q ts (cond (covers t x) (some q) h)
    ∙ merge (covers t x) (covered ts x)
  where
    merge : (a b : Bool) → cond b (some q) (cond a (some q) h) ≡ cond (a || b) (some q) h
    merge true true = refl
    merge true false = refl
    merge false b = refl

-- what follows a meeting's line gives the value's thing, if it is one
pub holder-handing : (x : Thing) (k n q : ℕ) (v : Value) (h : Option ℕ)
    → foldl (holder_after x) h (map (line_of k n) (handing q v)) ≡ cond (covered (things_of (v ∷ [])) x) (some q) h
unfolding handing things_of holder_after
holder-handing x k n q empty h = refl
holder-handing x k n q (int z) h = refl
holder-handing x k n q (bool b) h = refl
holder-handing x k n q (ref t) h = holder-given x k n q (t ∷ []) h

-- each line of a list, by the lines above it, where `above` stand above the whole list
abbrev pub LinesHeld : List Line → List Line → Type 0
LinesHeld = EachLine LineHeld

-- a line that is no gate, no measurement, no giving and no meeting asks for nothing
pub line-free : (above : List Line) (l : Line) → l.kind ≢ 3 → l.kind ≢ 4 → l.kind ≢ 6 → l.kind ≢ 7
    → LineHeld above l
line-free above l a b c d = record {
  gate = λ e. absurd (a e);
  measurement = λ e. absurd (b e);
  meeting = λ e. absurd (d e);
  giving = λ e. absurd (c e);
}

-- the lines of quiet events, where whatever ys reach is held by process n
pub lines-quiet : (ys : List Value) (above : List Line) (k n : ℕ) (es : List Event)
    → ((x : Thing) → InReach ys x → Holds above n x) → All (Quiet ys) es → LinesHeld above (map (line_of k n) es)
lines-quiet ys above k n [] held a = tt
lines-quiet ys above k n (e ∷ es) held a = (
  record {
    gate =
        λ i. record {
          first = held (qubit e.b) (a.0.gate i).0;
          second = λ j. held (qubit e.c)
              ((a.0.gate i).1 j);
        };
    measurement = λ i. held (qubit e.a) (a.0.measurement i);
    meeting = λ i. absurd (a.0.not_met i);
    giving = λ i. absurd (a.0.not_given i);
  },
  lines-quiet ys (above ++ (line_of k n e ∷ [])) k n es
      (λ x r. holder-append above (line_of k n e ∷ []) x
      ∙ holder-kept x (holder above x) (line_of k n e) a.0.not_made.0 a.0.not_made.1 a.0.not_given
      ∙ held x r)
      a.1,
)

-- the lines of givings by process n to q, and of what follows a meeting's line: whatever is given, n held by the lines
-- of the entries before, and by those directly above n holds it still or q already

pub record Givable (above : List Line) (k n q : ℕ) (x : Thing) : Type 0 where
  pub two : n ≢ q
  pub giver : Holds (lines_before k above) n x
  pub above-it : Holds above n x ⊎ Holds above q x

-- one line more of the same entry, that of a giving or one that moves no holder
givable-more : (above : List Line) (k n q : ℕ) (l : Line) (x : Thing) → l.entry ≡ k
    → (holder_after x (holder above x) l ≡ holder above x) ⊎ (holder_after x (holder above x) l ≡ some q)
    → Givable above k n q x → Givable (above ++ (l ∷ [])) k n q x
givable-more above k n q l x e after g = record {
  two = g.two;
  giver = rw (before-own k above l e) g.giver;
  above-it =
      ⊎_elim
      (λ i. ⊎_elim (λ h. inl (holder-append above (l ∷ []) x ∙ i ∙ h))
      (λ h. inr (holder-append above (l ∷ []) x ∙ i ∙ h)) g.above-it)
      (λ i. inr (holder-append above (l ∷ []) x ∙ i)) after;
}

-- the first line of an entry, before its givings: what n holds so far it may give
pub givable-first : (ls : List Line) (k n q : ℕ) (l : Line) (x : Thing) → Dated k ls → l.entry ≡ k
    → l.kind ≢ 1 → l.kind ≢ 2 → l.kind ≢ 6 → n ≢ q → Holds ls n x → Givable (ls ++ (l ∷ [])) k n q x
givable-first ls k n q l x dated e a b c two h =
    givable-more ls k n q l x e (inl (holder-kept x (holder ls x) l a b c))
    (record { two = two; giver = rw (before-all k ls dated) h; above-it = inl h })

line-gave : (above : List Line) (k n q : ℕ) (t : Thing) → ((x : Thing) → T (covers t x) → Givable above k n q x)
    → LineHeld above (line_of k n (gave q t))
line-gave above k n q t g = record {
  gate = λ e. absurd (omega arith);
  measurement = λ e. absurd (omega arith);
  meeting = λ e. absurd (omega arith);
  giving = λ e. record {
    two = (g t (covers-refl t)).two;
    thing = t;
    named = (refl, refl);
    giver = λ x c. (g x c).giver;
    above = λ x c. (g x c).above-it;
  };
}

pub lines-given : (above : List Line) (k n q : ℕ) (ts : List Thing)
    → ((x : Thing) → T (covered ts x) → Givable above k n q x)
    → LinesHeld above (map (line_of k n) (map (gave q) ts))
lines-given above k n q [] g = tt
lines-given above k n q (t ∷ ts) g = (
  line-gave above k n q t (λ x c. g x (or_left (covers t x) (covered ts x) c)),
  lines-given (above ++ (line_of k n (gave q t) ∷ [])) k n q ts
      (λ x c. givable-more above k n q (line_of k n (gave q t)) x refl (after x)
      (g x (or_right (covers t x) (covered ts x) c))),
)
  where
    after : (x : Thing) → (holder_after x (holder above x) (line_of k n (gave q t)) ≡ holder above x)
        ⊎ (holder_after x (holder above x) (line_of k n (gave q t)) ≡ some q)
    after x = rw (holder-gave x (holder above x) k n q t) (either (covers t x))
      where
        either : (b : Bool)
            → (cond b (some q) (holder above x) ≡ holder above x) ⊎ (cond b (some q) (holder above x) ≡ some q)
        either true = inr refl
        either false = inl refl

pub lines-handing : (above : List Line) (k n q : ℕ) (v : Value)
    → ((x : Thing) → T (covered (things_of (v ∷ [])) x) → Givable above k n q x)
    → LinesHeld above (map (line_of k n) (handing q v))
unfolding handing things_of
lines-handing above k n q empty g =
    (line-free above (line_of k n (passed empty)) (omega arith) (omega arith) (omega arith) (omega arith), tt)
lines-handing above k n q (int z) g =
    (line-free above (line_of k n (passed (int z))) (omega arith) (omega arith) (omega arith) (omega arith), tt)
lines-handing above k n q (bool b) g =
    (line-free above (line_of k n (passed (bool b))) (omega arith) (omega arith) (omega arith) (omega arith), tt)
lines-handing above k n q (ref t) g = lines-given above k n q (t ∷ []) g
