-- One question after the other: what a passed or failed question makes of the verdict, and what is known once it is
-- passed.
use Prim.Native.Nat.{ℕ, zero, suc, ◌-◌, ◌≤◌, ◌<◌}
use native.Mathlib.Omega.{arith}
use mathlib.Core.Bool.{Bool, true, false}
use mathlib.Core.Path.{◌≡◌, refl, sym, ap, ◌∙◌}
use mathlib.Core.List.{List}
use lib.ListN.{length, get_or, replicate}
use lib.Dec.{T, eqb, ltb}
use borrow.Author.Tests.{lt-ltb, le-ltb}
use Rattle.lists.specs.Lists.{first_false, first_place}
use Rattle.std.specs.Prelude.{Option, Some, None}
use Rattle.lists.proofs.Tests.{passes}
use Rattle.lists.proofs.First.{first_false-first, first_false-all, place-some, place-no}
use Rattle.table.specs.Table.{methods, instructions}
use Rattle.table.specs.Questions.{Verdict, accepted, refused, and_then, whole, first_of, sizes_kept, start_of, pair_kept, row_kept, instruction_kept, question2}
use Rattle.table.proofs.Accepted.{Sizes, Pairs, sizes-kept, pairs-kept, row-kept}
use Rattle.check_arguments.specs.MarksCode.{marked}
use Rattle.check_types.specs.RulesCode.{Rows}
use Rattle.check_types.specs.ReadOnCode.{FirstFour}
use Rattle.check_arguments.proofs.Marks.{marked-length, marked-targets}

-- The verdict

pub and_then-assoc : (u v w : Verdict) → and_then (and_then u v) w ≡ and_then u (and_then v w)
unfolding and_then
and_then-assoc accepted v w = refl
and_then-assoc (refused n i) v w = refl

pub and_then-end : (v : Verdict) → and_then v accepted ≡ v
unfolding and_then
and_then-end accepted = refl
and_then-end (refused n i) = refl

-- the first of two parts of the questions says no, or yes
pub no_first : {u : Verdict} (v : Verdict) {n i : ℕ} → refused n i ≡ u → refused n i ≡ and_then u v
unfolding and_then
no_first v e = rw (← e) refl

pub yes_first : {u v w : Verdict} → accepted ≡ u → w ≡ v → w ≡ and_then u v
unfolding and_then
yes_first e q = rw (← e) q

-- a question about the whole

pub whole-no : (number place : ℕ) {kept : Bool} (rest : Verdict) → kept ≡ false
    → refused number place ≡ and_then (whole number kept place) rest
unfolding whole and_then
whole-no number place rest e = rw e

pub whole-yes : (number place : ℕ) {kept : Bool} (rest : Verdict) → kept ≡ true
    → rest ≡ and_then (whole number kept place) rest
unfolding whole and_then
whole-yes number place rest e = rw e

-- and one whose place is the first at fault

module _ (number : ℕ) (ok : ℕ → Bool) (n m : ℕ) (q : n ≡ m) {o : Option ℕ} (e : o ≡ first_place ok n) (rest : Verdict)
  where
    pub place_found : (i : ℕ) → o ≡ Some i → refused number i ≡ and_then (first_of number ok m) rest
    unfolding first_of and_then
    place_found i s = let (f, l) = place-some ok n i (sym e ∙ s) in rw (← q, ← f, lt-ltb i n l)

    pub place_none : o ≡ None → rest ≡ and_then (first_of number ok m) rest
    unfolding first_of and_then
    place_none s = rw (← q, le-ltb (first_false ok n) n (place-no ok n (sym e ∙ s)))

-- question 2, whose place is the last method where the sum alone is wrong

module _ (p : List ℕ) (count n : ℕ) (c : count ≡ methods p) (d : n ≡ instructions p) {o : Option ℕ}
    (e : o ≡ first_place (pair_kept p) count)
    (rest : Verdict) where
  in-turn : (sum : Verdict) → and_then (first_of 2 (pair_kept p) (methods p)) (and_then sum rest)
      ≡ and_then (and_then (first_of 2 (pair_kept p) (methods p)) sum) rest
  in-turn sum = sym (and_then-assoc (first_of 2 (pair_kept p) (methods p)) sum rest)

  pub pair-fails : (i : ℕ) → o ≡ Some i → refused 2 i ≡ and_then (question2 p) rest
  unfolding question2
  pair-fails i s = place_found 2 (pair_kept p) count (methods p) c e _ i s ∙ in-turn _

  module _ (b : Bool) (s : o ≡ None) (q : b ≡ eqb (start_of p count) n) where
    sum-known : eqb (start_of p (methods p)) (instructions p) ≡ b
    sum-known = rw (← c, ← d) (sym q)

    pub sum-fails : b ≡ false → refused 2 (count - 1) ≡ and_then (question2 p) rest
    unfolding question2
    sum-fails t =
        ap (λ m. refused 2 (m - 1)) c ∙ whole-no 2 (methods p - 1) rest (sum-known ∙ t)
        ∙ place_none 2 (pair_kept p) count (methods p) c e _ s ∙ in-turn _

    pub pairs-pass : b ≡ true → rest ≡ and_then (question2 p) rest
    unfolding question2
    pairs-pass t =
        whole-yes 2 (methods p - 1) rest (sum-known ∙ t)
        ∙ place_none 2 (pair_kept p) count (methods p) c e _ s ∙ in-turn _

-- What is known

all-passed : (ok : ℕ → Bool) (n m : ℕ) {o : Option ℕ} → n ≡ m → o ≡ first_place ok n → o ≡ None
    → (j : ℕ) → j < m → T (ok j)
all-passed ok n m q e s j h = passes (first_false-all ok n (place-no ok n (sym e ∙ s)) j (omega arith))

pub sizes-known : (p : List ℕ) {b : Bool} → b ≡ sizes_kept p → b ≡ true → Sizes p
sizes-known p q e = sizes-kept p (passes (sym q ∙ e))

module _ (p : List ℕ) (s : Sizes p) (count n : ℕ) (c : count ≡ methods p) (d : n ≡ instructions p) where
  pub pairs-known : {o : Option ℕ} {b : Bool} → o ≡ first_place (pair_kept p) count → o ≡ None
      → b ≡ eqb (start_of p count) n → b ≡ true → Pairs p
  pairs-known e l q t =
      pairs-kept p s (all-passed (pair_kept p) count (methods p) c e l) (passes (rw (c, d) at (sym q ∙ t)))

  pub rows-known : {o : Option ℕ} → o ≡ first_place (row_kept p) count → o ≡ None → Rows p
  rows-known e l m h = row-kept p m (all-passed (row_kept p) count (methods p) c e l m h)

  -- questions 1 to 4, with the targets marked in a list of zeros
  pub code-known : Pairs p → Rows p → {o : Option ℕ} → o ≡ first_place (instruction_kept p) n → o ≡ None
      → (ts us : List ℕ) → 4096 ≤ length ts → ((j : ℕ) → get_or ts j 0 ≡ 0)
      → us ≡ marked p (first_false (instruction_kept p) n) ts → FirstFour p count n us
  code-known pairs rows e l ts us long zeros u =
      let here : first_false (instruction_kept p) n ≡ instructions p =
      omega (arith, (first_false-first (instruction_kept p) n).within, place-no (instruction_kept p) n (sym e ∙ l)) in
      let most = s.instructions-most in
      let whole = u ∙ ap (λ i. marked p i ts) here in
      record {
        sizes = s;
        pairs = pairs;
        rows = rows;
        code = all-passed (instruction_kept p) n (instructions p) d e l;
        methods-count = c;
        instructions-count = d;
        long = omega (arith, ap length whole, marked-length p (instructions p) ts);
        marks = λ j h. ap (λ vs. ltb 0 (get_or vs j 0)) whole ∙ marked-targets p ts j (omega arith) (zeros j);
      }

pub zeros : (n i : ℕ) → ◌≡◌ {A = ℕ} (get_or (replicate n 0) i 0) 0
zeros zero i = refl
zeros (suc n) zero = refl
zeros (suc n) (suc i) = zeros n i
