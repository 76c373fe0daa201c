-- What yes means as an answer on two traces: they have equal columns 1 to 5, line by line, and equal gaps. The laws of
-- the answer (the files Same..) follow from this.
use Prim.Native.Nat.{ℕ}
use mathlib.Core.Path.{◌≡◌, refl, sym, ap₂, subst}
use mathlib.Core.Bool.{Bool, true, false, ◌&&◌, true≢false}
use mathlib.Core.List.{List, [], ◌∷◌, map, cons≢nil}
use borrow.Author.Tests.{eqb-true, eq-eqb}
use lib.IntN.{ℤ}
use Rattle.machine.specs.Value.{eq_z}
use Rattle.machine.specs.State.{Line}
use Rattle.trace.specs.Trace.{same_line, same_all, gaps, same_gaps, same_timed}
use Rattle.trace.proofs.Gaps.{eq_z-same, eq_z-equal}

-- columns 1 to 5 of a line
abbrev pub columns : Line → List ℕ
columns l = l.process ∷ l.kind ∷ l.a ∷ l.b ∷ l.c ∷ []

pub record Same (ls ms : List Line) : Type 0 where
  pub lines : map columns ls ≡ map columns ms
  pub times : gaps ls ≡ gaps ms

-- a test of two parts, passed
both : (a b : Bool) → (a && b) ≡ true → (a ≡ true) × (b ≡ true)
both true b e = (refl, e)
both false b e = absurd (true≢false (sym e))

both-passed : {a b : Bool} → a ≡ true → b ≡ true → (a && b) ≡ true
both-passed {a} {b} p q = ap₂ (λ (x y : Bool). x && y) p q

-- lines

line-means : (l m : Line) → same_line l m ≡ true → columns l ≡ columns m
unfolding same_line
line-means l m e =
    let (p, e1) = both _ _ e in
    let (k, e2) = both _ _ e1 in
    let (a, e3) = both _ _ e2 in
    let (b, c) = both _ _ e3 in
    let p' = eqb-true l.process m.process p in
    let k' = eqb-true l.kind m.kind k in
    let a' = eqb-true l.a m.a a in
    let b' = eqb-true l.b m.b b in
    let c' = eqb-true l.c m.c c in
    cc

means-line : (l m : Line) → columns l ≡ columns m → same_line l m ≡ true
unfolding same_line
means-line l m e =
    both-passed (eq-eqb l.process m.process (cc))
    (both-passed (eq-eqb l.kind m.kind (cc))
    (both-passed (eq-eqb l.a m.a (cc)) (both-passed (eq-eqb l.b m.b (cc)) (eq-eqb l.c m.c (cc)))))

all-mean : (ls ms : List Line) → same_all ls ms ≡ true → map columns ls ≡ map columns ms
unfolding same_all
all-mean [] [] e = refl
all-mean [] (m ∷ ms) e = absurd (true≢false (sym e))
all-mean (l ∷ ls) [] e = absurd (true≢false (sym e))
all-mean (l ∷ ls) (m ∷ ms) e =
    let (p, q) = both (same_line l m) (same_all ls ms) e in
    ap₂ (λ (x : List ℕ) (xs : List (List ℕ)). x ∷ xs) (line-means l m p) (all-mean ls ms q)

pub mean-all : (ls ms : List Line) → map columns ls ≡ map columns ms → same_all ls ms ≡ true
unfolding same_all
mean-all [] [] e = refl
mean-all [] (m ∷ ms) e = absurd (cons≢nil (sym e))
mean-all (l ∷ ls) [] e = absurd (cons≢nil e)
mean-all (l ∷ ls) (m ∷ ms) e = both-passed (means-line l m (cc)) (mean-all ls ms (cc))

-- gaps

gaps-mean : (gs hs : List ℤ) → same_gaps gs hs ≡ true → gs ≡ hs
unfolding same_gaps
gaps-mean [] [] e = refl
gaps-mean [] (h ∷ hs) e = absurd (true≢false (sym e))
gaps-mean (g ∷ gs) [] e = absurd (true≢false (sym e))
gaps-mean (g ∷ gs) (h ∷ hs) e =
    let (p, q) = both (eq_z g h) (same_gaps gs hs) e in
    ap₂ (λ (x : ℤ) (xs : List ℤ). x ∷ xs) (eq_z-equal g h p) (gaps-mean gs hs q)

mean-gaps : (gs hs : List ℤ) → gs ≡ hs → same_gaps gs hs ≡ true
unfolding same_gaps
mean-gaps gs hs e = subst (λ (xs : List ℤ). same_gaps gs xs ≡ true) e (itself gs)
  where
    itself : (xs : List ℤ) → same_gaps xs xs ≡ true
    itself [] = refl
    itself (x ∷ xs) = both-passed (eq_z-same x) (itself xs)

-- both

pub same-means : (ls ms : List Line) → same_timed ls ms ≡ true → Same ls ms
unfolding same_timed
same-means ls ms e =
    let (p, q) = both (same_all ls ms) (same_gaps (gaps ls) (gaps ms)) e in
    record { lines = all-mean ls ms p; times = gaps-mean (gaps ls) (gaps ms) q }

pub means-same : (ls ms : List Line) → Same ls ms → same_timed ls ms ≡ true
unfolding same_timed
means-same ls ms s = both-passed (mean-all ls ms s.lines) (mean-gaps (gaps ls) (gaps ms) s.times)
