-- The table after some lines, by the index of the next.
use Prim.Native.Nat.{ℕ, zero, suc, ◌+◌, ◌-◌, ◌*◌, ◌≤◌, ◌<◌}
use mathlib.Core.Path.{◌≡◌, refl, sym, ◌∙◌, ap, ap₂}
use mathlib.Core.Bool.{Bool, true, false, cond, ◌||◌, true≢false}
use mathlib.Core.List.{List}
use native.Mathlib.Omega.{arith}
use lib.Dec.{eqb, leb}
use borrow.Author.Tests.{eqb-true, eq-eqb, ne_eqb, le-leb, lt-leb, leb-false}
use Rattle.machine.specs.State.{Line}
use Rattle.trace.specs.ReadCode.{line_from}
use Rattle.run_holders.specs.HoldersCode.{end_given, channel_given, holders_after, holders_after_lines, changes_holder, changed_from}

pub noted-begins : (t : List (List ℕ)) (trace : List ℕ) (from : ℕ) → t ≡ holders_after_lines t trace from (from - from)
unfolding holders_after_lines
noted-begins t trace from = ap (holders_after_lines t trace from) {x = 0} {y = from - from} (omega arith)

pub noted-next : (t : List (List ℕ)) (trace : List ℕ) (from i : ℕ) {u : List (List ℕ)} {l : Line} → from ≤ i
    → u ≡ holders_after_lines t trace from (i - from) → l ≡ line_from trace (6 * i)
    → holders_after u l ≡ holders_after_lines t trace from (i + 1 - from)
unfolding holders_after_lines
noted-next t trace from i h e p =
    ap₂ holders_after e (p ∙ ap (λ (k : ℕ). line_from trace (6 * k)) {x = i} {y = from + (i - from)} (omega arith))
    ∙ ap (holders_after_lines t trace from) {x = suc (i - from)} {y = i + 1 - from} (omega arith)

-- whether a line changes a holder, by its kind

gift-changed : (l : Line) → l.kind ≡ 6 → leb 4 l.b ≡ changes_holder l
unfolding changes_holder
gift-changed l e = sym (ap (λ (b : Bool). cond b (leb 4 l.b) (eqb l.kind 2)) (eq-eqb l.kind 6 e))

made-changed : (l : Line) → (l.kind ≡ 6 → ⊥) → eqb l.kind 2 ≡ changes_holder l
unfolding changes_holder
made-changed l e = sym (ap (λ (b : Bool). cond b (leb 4 l.b) (eqb l.kind 2)) (ne_eqb l.kind 6 e))

pub gift-none : (l : Line) → l.kind ≡ 6 → l.b < 4 → false ≡ changes_holder l
gift-none l e h = sym (lt-leb 4 l.b h) ∙ gift-changed l e

pub gift-changes : (l : Line) → l.kind ≡ 6 → 4 ≤ l.b → true ≡ changes_holder l
gift-changes l e h = sym (le-leb 4 l.b h) ∙ gift-changed l e

pub line-none : (l : Line) → (l.kind ≡ 6 → ⊥) → (l.kind ≡ 2 → ⊥) → false ≡ changes_holder l
line-none l e h = sym (ne_eqb l.kind 2 h) ∙ made-changed l e

pub line-changes : (l : Line) → (l.kind ≡ 6 → ⊥) → l.kind ≡ 2 → true ≡ changes_holder l
line-changes l e h = sym (eq-eqb l.kind 2 h) ∙ made-changed l e

-- a line that changes no holder changes nothing
pub nothing-changed : {t : List (List ℕ)} (l : Line) {b : Bool} → b ≡ changes_holder l → b ≡ false → t ≡ holders_after t l
unfolding holders_after changes_holder
nothing-changed {t} l e h = go (eqb l.kind 2) (eqb l.kind 6) refl refl (sym e ∙ h)
  where
    given : leb 4 l.b ≡ false → (k : ℕ) → 4 ≤ k → eqb l.b k ≡ false
    given i k m = ne_eqb l.b k (λ j. absurd (omega (arith, j, m, leb-false 4 l.b i)))

    other : (x y : Bool) → eqb l.kind 2 ≡ x → eqb l.kind 6 ≡ y → (x ≡ true) → y ≡ false
    other x y i j z = sym j ∙ ap (λ (k : ℕ). eqb k 6) (eqb-true l.kind 2 (i ∙ z))

    go : (x y : Bool) → eqb l.kind 2 ≡ x → eqb l.kind 6 ≡ y → cond y (leb 4 l.b) x ≡ false
        → t ≡ cond x (channel_given t l.a l.process)
        (cond y
        (cond (eqb l.b 4) (channel_given t l.c l.a)
        (cond (eqb l.b 5) (end_given t l.c 0 l.a) (cond (eqb l.b 6) (end_given t l.c 1 l.a) t))) t)
    go true true i j q = absurd (true≢false (other true true i j refl))
    go true false i j q = absurd (true≢false q)
    go false true i j q = rw (given q 4 (omega arith), given q 5 (omega arith), given q 6 (omega arith)) refl
    go false false i j q = refl

-- whether some line changes a holder, by the index of the next

pub changed-begins : (trace : List ℕ) (from : ℕ) → false ≡ changed_from trace from (from - from)
unfolding changed_from
changed-begins trace from = ap (changed_from trace from) {x = 0} {y = from - from} (omega arith)

pub changed-next : (trace : List ℕ) (from i : ℕ) {b x : Bool} {l : Line} → from ≤ i
    → b ≡ changed_from trace from (i - from) → x ≡ changes_holder l
    → l ≡ line_from trace (6 * i) → (b || x) ≡ changed_from trace from (i + 1 - from)
unfolding changed_from
changed-next trace from i h e q p =
    ap₂ ◌||◌ e
    (q ∙ ap changes_holder (p ∙ ap (λ (k : ℕ). line_from trace (6 * k)) {x = i} {y = from + (i - from)} (omega arith)))
    ∙ ap (changed_from trace from) {x = suc (i - from)} {y = i + 1 - from} (omega arith)

pub changed-so : (b : Bool) {x : Bool} → x ≡ true → true ≡ (b || x)
changed-so true e = refl
changed-so false e = sym e

pub changed-not : (b : Bool) {x : Bool} → x ≡ false → b ≡ (b || x)
changed-not true e = refl
changed-not false e = sym e

-- where none does, the table is as it was
pub unchanged : (t : List (List ℕ)) (trace : List ℕ) (from j : ℕ) → changed_from trace from j ≡ false
    → holders_after_lines t trace from j ≡ t
unfolding changed_from holders_after_lines
unchanged t trace from zero e = refl
unchanged t trace from (suc j) e =
    sym
    (nothing-changed (line_from trace (6 * (from + j))) refl
    (second (changed_from trace from j) (changes_holder (line_from trace (6 * (from + j)))) e))
    ∙ unchanged t trace from j (first (changed_from trace from j) (changes_holder (line_from trace (6 * (from + j)))) e)
  where
    first : (x y : Bool) → (x || y) ≡ false → x ≡ false
    first true y i = i
    first false y i = refl

    second : (x y : Bool) → (x || y) ≡ false → y ≡ false
    second true y i = absurd (true≢false i)
    second false y i = i
