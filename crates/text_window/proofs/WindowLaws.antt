-- The levels that are kept, and what an effect makes of them.
use Prim.Native.Nat.{ℕ, zero, suc, ◌+◌, ◌-◌, ◌≤◌, ◌<◌, min}
use native.Mathlib.Omega.{arith}
use native.Mathlib.Numerals.{add-one}
use mathlib.Core.Path.{◌≡◌, refl, sym, ap, ◌∙◌}
use mathlib.Core.Bool.{Bool, true, false, cond, ◌&&◌}
use mathlib.Core.List.{List, [], ◌∷◌}
use mathlib.Core.Option.{some}
use borrow.Author.Tests.{lt-ltb, le-ltb, ltb-true, ltb-false, eqb-true, eqb-false}
use lib.Dec.{T, eqb, ltb}
use lib.ListN.{length, get_or, set, length-set}
use lib.Seq.{get_or-set_same, get_or-set_other}
use Rattle.lists.proofs.Tests.{passed, passes, and_left, and_right, cond-each}
use Rattle.text_expr.specs.LevelsCode.{Level, Action, stay, assigns, unassigns, opens_level, closes_level, next_argument, less_one, count_after, levels_after, without_level, Note, note}
use Rattle.text_expr.proofs.Notes.{Continues, Right, note-right}
use Rattle.text_effect.specs.EffectCode.{phase_in, effect_in}
use Rattle.text_window.specs.WindowCode.{slot_of, cell, put, one_more, counts_after, brackets_after, depth_after, note_at, Window, Held}
use Rattle.text_effect.specs.declared.phase.Effect.{Effect}
use Rattle.text_effect.specs.declared.phase.Effect.TheVariants.{Stay, Assigns, Unassigns, OpensBracket, OpensCall, Closes, NextArgument, Astray, Beyond}

pub less-one : (x : ℕ) {r : ℕ} → r ≡ x - 1 → r ≡ less_one x
unfolding less_one
less-one zero e = omega (arith, e)
less-one (suc x) e = omega (arith, e)

-- one more, as long as there is a number for it
pub more-one : (x : ℕ) {r : ℕ} → x < 18446744073709551616 → r ≡ min (x + 1) 18446744073709551615 → r ≡ one_more x
unfolding one_more
more-one x {r} h e = cond-each (λ (y : ℕ). r ≡ y) (ltb x 18446744073709551615)
    (λ q. let l : x < 18446744073709551615 = ltb-true x 18446744073709551615 q in omega (arith, e))
    (λ q. let l : 18446744073709551615 ≤ x = ltb-false x 18446744073709551615 q in omega (arith, e))

pub held_none : (room low depth : ℕ) → depth ≡ 0 → (eqb low 0 && ltb 0 room) ≡ true → Held room low depth
held_none room low depth d e =
    let t : T (eqb low 0 && ltb 0 room) = passes e in
    let l : low ≡ 0 = eqb-true low 0 (passed (eqb low 0) (and_left (eqb low 0) (ltb 0 room) t)) in
    let r : 0 < room = ltb-true 0 room (passed (ltb 0 room) (and_right (eqb low 0) (ltb 0 room) t)) in
    record { reach = omega arith; below = omega arith; under = λ h. omega arith }

pub held-some : (room low depth : ℕ) → low < depth → depth - low < room → Held room low depth
held-some room low depth l h = record { reach = omega arith; below = omega arith; under = λ z. l }

pub one-more : (x : ℕ) → x < 18446744073709551615 → one_more x ≡ suc x
unfolding one_more
one-more x h = rw (lt-ltb x 18446744073709551615 h) (add-one x)

-- Cells

slot_held : (room low d : ℕ) → low ≤ d → d < low + room → slot_of room low d ≡ d - low
unfolding slot_of
slot_held room low d l u =
    let near : d - low < room = omega arith in rw (le-ltb d low l, lt-ltb (d - low) room near) refl

-- what a cell may be
slot_cases : (P : ℕ → Type 0) (room low k : ℕ) → P room → (low ≤ k → P (k - low)) → P (slot_of room low k)
unfolding slot_of
slot_cases P room low k out kept =
    cond-each P (ltb k low) (λ e. out)
    (λ e. cond-each P (ltb (k - low) room) (λ f. kept (ltb-false k low e)) (λ f. out))

-- two levels have two cells
slot_apart : (room low d k : ℕ) → low ≤ d → d < low + room → (k ≡ d → ⊥) → slot_of room low d ≡ slot_of room low k → ⊥
slot_apart room low d k l u f e =
    slot_cases (λ (i : ℕ). d - low ≡ i → ⊥) room low k (λ q. omega arith) (λ m q. f (omega arith))
    (sym (slot_held room low d l u) ∙ e)

-- a cell after another is put
pub put-cell : (room low k v : ℕ) (xs : List ℕ) (d : ℕ) → length xs ≡ room → low ≤ d → d < low + room
    → cell (put low k v xs) low d ≡ cond (eqb k d) v (cell xs low d)
put-cell room low k v xs d s l u =
    ap (λ (m : ℕ). get_or (put low k v xs) (slot_of m low d) 0) (length-set xs (slot_of (length xs) low k) v)
    ∙ cond-each (λ (x : ℕ). get_or (put low k v xs) (slot_of (length xs) low d) 0 ≡ x) (eqb k d)
    (λ e. same (eqb-true k d e))
    (λ e. get_or-set_other xs (slot_of (length xs) low k) (slot_of (length xs) low d) v 0
    (λ q. slot_apart (length xs) low d k l within (eqb-false k d e) q))
  where
    within : d < low + length xs
    within = omega arith

    inside : slot_of (length xs) low d < length xs
    inside = let e : slot_of (length xs) low d ≡ d - low = slot_held (length xs) low d l within in omega arith

    same : k ≡ d → get_or (put low k v xs) (slot_of (length xs) low d) 0 ≡ v
    same q =
        ap (λ (j : ℕ). get_or (set xs (slot_of (length xs) low j) v) (slot_of (length xs) low d) 0) q
        ∙ get_or-set_same xs (slot_of (length xs) low d) v 0 inside

-- A note with the same figures is right too; what is outside a level is what was open within the one below it.
right-as : (d : ℕ) (r q : Note) (n : ℕ) (ls : List Level) → Right d r n ls → q.depth ≡ r.depth → q.count ≡ r.count
    → q.of_call ≡ r.of_call → q.outside ≡ r.count → Right d q n ls
right-as d r q n ls h e f g o = record {
  depth = e ∙ h.depth;
  count = λ l. f ∙ h.count l;
  level = λ l.
      h.level l
      ∙ ap (λ (m : ℕ). some (record { of_call = r.of_call; outside = m })) (sym (h.same l) ∙ sym o)
      ∙ ap (λ (b : Bool). some (record { of_call = b; outside = q.outside })) (sym g);
  same = λ l. f ∙ sym o;
}

-- An effect with which the pass goes on
module _
    (room low depth : ℕ)
    (counts brackets : List ℕ)
    (n : ℕ)
    (ls : List Level)
    (w : Window room low depth counts brackets n ls)
    (few : n < 18446744073709551615)
    (shallow : depth < 18446744073709551615)
  where
    -- by the figures of each level that is kept
    by-figures : (a : Action) (depth' : ℕ) (counts' brackets' : List ℕ) → Continues a → (a ≡ closes_level
        → 0 < length ls) → length counts' ≡ room → length brackets' ≡ room → depth' ≡ length (levels_after a n ls)
        → ((d : ℕ) → low ≤ d → d < low + room → Right d (note_at low depth counts brackets d) n ls
        → (depth' ≡ (note d a (note_at low depth counts brackets d)).depth)
        × (cell counts' low d ≡ (note d a (note_at low depth counts brackets d)).count)
        × (eqb (cell brackets' low d) 2 ≡ (note d a (note_at low depth counts brackets d)).of_call))
        → Window room low depth' counts' brackets' (count_after a n ls) (levels_after a n ls)
    by-figures a depth' counts' brackets' g c s t e figures = record {
      deep = e;
      counts-size = s;
      brackets-size = t;
      right = λ d l u.
          let r : Note = note_at low depth counts brackets d in
          let h = w.right d l u in
          let f = figures d l u h in
          right-as d (note d a r) (note_at low depth' counts' brackets' d) (count_after a n ls) (levels_after a n ls)
          (note-right d r n ls a h g c) f.0 f.1 f.2 f.1;
    }

    count-size : (k v : ℕ) → length (put low k v counts) ≡ room
    count-size k v = length-set counts (slot_of (length counts) low k) v ∙ w.counts-size

    bracket-size : (k v : ℕ) → length (put low k v brackets) ≡ room
    bracket-size k v = length-set brackets (slot_of (length brackets) low k) v ∙ w.brackets-size

    -- another number of assignments within the innermost level
    counted : (d v x : ℕ) → low ≤ d → d < low + room → (depth ≡ d → v ≡ x)
        → cell (put low depth v counts) low d ≡ cond (eqb depth d) x (cell counts low d)
    counted d v x l u f =
        put-cell room low depth v counts d w.counts-size l u
        ∙ cond-each (λ (y : ℕ). cond (eqb depth d) v (cell counts low d) ≡ y) (eqb depth d)
        (λ e. rw e (f (eqb-true depth d e))) (λ e. rw e refl)

    one-more-here : (d : ℕ) → Right d (note_at low depth counts brackets d) n ls → depth ≡ d
        → one_more (cell counts low depth) ≡ suc (cell counts low d)
    one-more-here d h e =
        let q : cell counts low d ≡ n = h.count (sym w.deep ∙ e) in
        ap (λ (k : ℕ). one_more (cell counts low k)) e ∙ one-more (cell counts low d) (omega arith)

    -- a bracket is opened over the innermost level
    opened : (v : ℕ) (b : Bool) → eqb v 2 ≡ b
        → Window room low (one_more depth) (put low (one_more depth) 0 counts) (put low depth v brackets)
        (count_after (opens_level b) n ls) (levels_after (opens_level b) n ls)
    unfolding note levels_after
    opened v b q =
        by-figures (opens_level b) (one_more depth) (put low (one_more depth) 0 counts) (put low depth v brackets) tt
        (λ e. closing e) (count-size (one_more depth) 0) (bracket-size depth v)
        (one-more depth shallow ∙ ap suc w.deep)
        (λ d l u h. (
          one-more depth shallow,
          put-cell room low (one_more depth) 0 counts d w.counts-size l u
              ∙ ap (λ (k : ℕ). cond (eqb k d) 0 (cell counts low d)) (one-more depth shallow),
          ap (λ (x : ℕ). eqb x 2) (put-cell room low depth v brackets d w.brackets-size l u)
              ∙ choice (eqb depth d) (cell brackets low d),
        ))
      where
        closing : opens_level b ≡ closes_level → 0 < length ls
        closing e = let z : ◌≡◌ {A = ℕ} 0 1 = cc in omega arith

        choice : (x : Bool) (y : ℕ) → eqb (cond x v y) 2 ≡ cond x b (eqb y 2)
        choice true y = q
        choice false y = refl

    same-cells : (a : Action) → Continues a → (a ≡ closes_level → 0 < length ls) → (depth' : ℕ)
        → depth' ≡ length (levels_after a n ls)
        → ((d : ℕ) → (depth' ≡ (note d a (note_at low depth counts brackets d)).depth)
        × (cell counts low d ≡ (note d a (note_at low depth counts brackets d)).count)
        × (eqb (cell brackets low d) 2 ≡ (note d a (note_at low depth counts brackets d)).of_call))
        → Window room low depth' counts brackets (count_after a n ls) (levels_after a n ls)
    same-cells a g c depth' e f =
        by-figures a depth' counts brackets g c w.counts-size w.brackets-size e (λ d l u h. f d)

    put_count : (a : Action) (v : ℕ) → Continues a → (a ≡ closes_level → 0 < length ls) → length ls ≡ length
        (levels_after a n ls)
        → ((d : ℕ) → low ≤ d → d < low + room → Right d (note_at low depth counts brackets d) n ls
        → (depth ≡ (note d a (note_at low depth counts brackets d)).depth)
        × (cell (put low depth v counts) low d ≡ (note d a (note_at low depth counts brackets d)).count)
        × (eqb (cell brackets low d) 2 ≡ (note d a (note_at low depth counts brackets d)).of_call))
        → Window room low depth (put low depth v counts) brackets (count_after a n ls) (levels_after a n ls)
    put_count a v g c e f =
        by-figures a depth (put low depth v counts) brackets g c (count-size depth v) w.brackets-size (w.deep ∙ e)
        f

    less-length : (ls : List Level) → less_one (length ls) ≡ length (without_level ls)
    unfolding less_one without_level
    less-length [] = refl
    less-length (l ∷ ls) = refl

    pub window-after : (text : List ℕ) (e : Effect) → Continues (effect_in text e)
        → (effect_in text e ≡ closes_level → 0 < length ls)
        → Window room low (depth_after e depth) (counts_after low depth e counts) (brackets_after low depth e brackets)
        (count_after (effect_in text e) n ls) (levels_after (effect_in text e) n ls)
    unfolding effect_in depth_after counts_after brackets_after note levels_after
    window-after text (Stay p) g c =
        same-cells (stay (phase_in text p)) g c depth w.deep (λ d. (refl, refl, refl))
    window-after text Assigns g c =
        put_count assigns (one_more (cell counts low depth)) g c refl
        (λ d l u h. (refl, counted d _ _ l u (one-more-here d h), refl))
    window-after text Unassigns g c =
        put_count unassigns (less_one (cell counts low depth)) g c refl
        (λ d l u h. (refl, counted d _ _ l u (λ e. ap (λ (k : ℕ). less_one (cell counts low k)) e), refl))
    window-after text OpensBracket g c = opened 1 false refl
    window-after text OpensCall g c = opened 2 true refl
    window-after text Closes g c =
        same-cells closes_level g c (less_one depth) (ap less_one w.deep ∙ less-length ls) (λ d. (refl, refl, refl))
    window-after text NextArgument g c =
        put_count next_argument 0 g c refl (λ d l u h. (refl, counted d _ _ l u (λ e. refl), refl))
    window-after text (Astray i) g c = absurd g
    window-after text Beyond g c = absurd g
