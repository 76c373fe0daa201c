-- The lengths, rows and code of the methods, kept one after the other.
use Prim.Native.Nat.{ℕ, suc, ◌+◌, ◌*◌, ◌≤◌, ◌<◌}
use native.Mathlib.Omega.{arith}
use native.Mathlib.Nat.{eq-or-lt_of_le}
use mathlib.Core.Logic.{◌⊎◌, inl, inr}
use mathlib.Core.Path.{◌≡◌, refl, sym, ap, subst, ◌∙◌}
use mathlib.Core.Bool.{Bool, true, false, ◌&&◌}
use mathlib.Core.List.{List, ◌++◌, append_assoc}
use mathlib.Core.Option.{some, some-injective}
use lib.Dec.{leb}
use lib.ListN.{get_or, length, set, take, drop}
use lib.Seq.{slice, length-take-le, take_all, take-take, take_at, drop_at, take-paste}
use lib.Seq.{get_or-drop, get_or-set_same, get_or-set_other}
use borrow.Author.Tests.{leb-true}
use Rattle.std.specs.Prelude.{Ok, Err}
use Rattle.lists.proofs.Tests.{never}
use Rattle.text.specs.Tree.{Method, Program, main_first, method_at}
use Rattle.text.specs.Translation.{method_code, row_words}
use Rattle.text.specs.Limits.{method_kept}
use Rattle.text.proofs.Words.{row_words-length, method-within}
use Rattle.text_judge.specs.RowsCode.{copied}
use Rattle.text_put.specs.TableCode.{row_in}
use Rattle.text_code.specs.KeptCode.{CodeOf, offset_in, CodeKept}
use Rattle.text_limits.specs.LimitsCode.{WellNamed, MethodThere, Within, Over}
use Rattle.text_limits.specs.declared.method.LimitPassed.{LimitPassed}
use Rattle.text_limits.specs.MeasuresCode.{Judgement, Progress, LimitsSay, within, passed}
use Rattle.text_limits.proofs.Onward.{begins, all-within, next-there, goes_on, passed-there}
use Rattle.text_limits.proofs.Keeping.{word-before, word-here, offset-on, codes-on}

both_left : (a b : Bool) → true ≡ (a && b) → a ≡ true
both_left true b e = refl
both_left false b e = sym e

both_right : (a b : Bool) → true ≡ (a && b) → true ≡ b
both_right true b e = e
both_right false b e = never (sym e)

-- rows that stand before the words that are replaced, and these words themselves
module _ (d : List ℕ) (at : ℕ) (s : List ℕ) (l : at + 18 ≤ length d) (m : length s ≡ 18) where
  pub row_before : (i j : ℕ) → j ≤ at → slice i j (copied d at s 18) ≡ slice i j d
  unfolding copied
  row_before i j h =
      ap (drop i) (
      sym (take-take j at (copied d at s 18) h)
      ∙ ap (take j) (ap (take at) (append_assoc (take at d) (take 18 s) (drop (at + 18) d))
      ∙ take_at (take at d) (take 18 s ++ drop (at + 18) d) at (length-take-le at d (omega arith)))
      ∙ take-take j at d h)

  pub row_here : slice at (at + 18) (copied d at s 18) ≡ s
  unfolding copied
  row_here =
      ap (drop at) (take-paste d at s 18 (omega arith) (omega arith))
      ∙ drop_at (take at d) (take 18 s) at (length-take-le at d (omega arith)) ∙ take_all 18 s (omega arith)

pub at_first : (text : List ℕ) (w : WellNamed text) (lengths rows kept : List ℕ)
    → Progress text w.program 0 0 0 lengths rows kept
unfolding offset_in
at_first text w lengths rows kept = record {
  reached = begins text w.program w.left w.reads;
  offset = refl;
  codes = λ i m l e. absurd (omega arith);
  long = λ i m l e. absurd (omega arith);
  row = λ i m l e. absurd (omega arith);
}

-- With the method that stands there no limit is passed
module _ {text : List ℕ} {at k total : ℕ} {h : MethodThere text at k} {next long : ℕ} {row : List ℕ}
    (a : Within text at k h k total next long row) where
  abbrev fits : Bool
  fits = leb (total + length (method_code (main_first h.named.program) h.method)) 4096

  abbrev keeps : Bool
  keeps = method_kept (main_first h.named.program) h.method

  -- it is one of the first 32, and its instructions are among the first 4,096
  pub few : (k < 32) × (total + long ≤ 4096)
  few =
      let count = leb-true (suc k) 32 (both_left (leb (suc k) 32) (fits && keeps) a.answer) in
      let sum = leb-true (total + length (method_code (main_first h.named.program) h.method)) 4096
      (both_left fits keeps (both_right (leb (suc k) 32) (fits && keeps) a.answer)) in
      (omega (arith, count), omega (arith, sum, a.counted))

  pub row-long : length row ≡ 18
  row-long = ap length a.own_row ∙ row_words-length h.method

  -- what is kept of it
  pub all-kept : {lengths rows kept ls rs ks : List ℕ} (code : List ℕ)
      → CodeOf (main_first h.named.program) h.method code long
      → 2 * total + 2 * long ≤ length kept → 2 * long ≤ length code → ls ≡ set lengths k long
      → rs ≡ copied rows (18 * k) row 18 → ks ≡ copied kept (2 * total) code (2 * long)
      → Judgement text at k h total next long lengths rows kept ls rs ks
  all-kept {kept = kept} {ks = ks} code c x y e f g = record {
    own = row;
    within = a;
    measured = (e, f);
    codes = λ j q. get_or-drop (2 * total) ks j 0 ∙ ap (λ xs. get_or xs (2 * total + j) 0) g
        ∙ word-here kept (2 * total) code (2 * long) x y j q ∙ c j q;
    earlier = λ j q. ap (λ xs. get_or xs j 0) g ∙ word-before kept (2 * total) code (2 * long) x y j q;
  }

-- The next method is judged
module _ (text : List ℕ) (w : WellNamed text) (at k total : ℕ) (lengths rows kept : List ℕ)
    (p : Progress text w.program at k total lengths rows kept) (l : k < length w.program) where
  abbrev ns : Program
  ns = w.program

  abbrev ms : Program
  ms = main_first ns

  pub here : MethodThere text at k
  here = next-there text w at k total p.reached l

  -- no limit is passed with it
  pub onward : (next long : ℕ) (ls rs ks : List ℕ)
      → Judgement text at k here total next long lengths rows kept ls rs ks → 32 ≤ length lengths
      → 576 ≤ length rows → Progress text ns next (k + 1) (total + long) ls rs ks
  unfolding here next-there
  onward next long ls rs ks j x y = record {
    reached = goes_on text at k total here p.reached a l;
    offset = offset-on ns k total long lengths kept ks p.codes p.offset wide_enough j.earlier
        ∙ ap (λ xs. offset_in xs (k + 1)) (sym j.measured.0);
    codes = subst (λ xs. CodeKept ns (k + 1) xs ks) (sym j.measured.0) (
        codes-on ns k total long lengths kept ks p.codes p.offset wide_enough j.earlier
        (λ m e. subst (λ n. CodeOf ms n (drop (2 * total) ks) long) (own m e) j.codes));
    long = λ i m q e. ap (λ xs. get_or xs i 0) j.measured.0 ∙ longs i m (before i q) e;
    row = λ i m q e. ap (λ xs. row_in xs i) j.measured.1 ∙ its-rows i m (before i q) e;
  }
    where
      row : List ℕ
      row = j.own

      a : Within text at k here k total next long row
      a = j.within

      before : (i : ℕ) → i < k + 1 → (i ≡ k) ⊎ (i < k)
      before i q = eq-or-lt_of_le (omega arith)

      small : k < 32
      small = (few a).0

      wide_enough : k < length lengths
      wide_enough = omega (arith, small, x)

      wide : length row ≡ 18
      wide = row-long a

      own : (m : Method) → method_at ns k ≡ some m → here.method ≡ m
      own m e = some-injective here.method m (sym here.there ∙ e)

      longs : (i : ℕ) (m : Method) → (i ≡ k) ⊎ (i < k) → method_at ns i ≡ some m
          → get_or (set lengths k long) i 0 ≡ length (method_code ms m)
      longs i m (inr q) e = get_or-set_other lengths k i long 0 (λ o. absurd (omega (arith, o))) ∙ p.long i m q e
      longs i m (inl q) e =
          ap (λ n. get_or (set lengths k long) n 0) q ∙ get_or-set_same lengths k long 0 (omega (arith, small))
          ∙ a.counted ∙ ap (λ n. length (method_code ms n)) (own m (ap (method_at ns) (sym q) ∙ e))

      its-rows : (i : ℕ) (m : Method) → (i ≡ k) ⊎ (i < k) → method_at ns i ≡ some m
          → row_in (copied rows (18 * k) row 18) i ≡ row_words m
      its-rows i m (inr q) e =
          row_before rows (18 * k) row (omega (arith, small)) wide (18 * i) (18 * i + 18) (omega arith)
          ∙ p.row i m q e
      its-rows i m (inl q) e =
          ap (row_in (copied rows (18 * k) row 18)) q ∙ row_here rows (18 * k) row (omega (arith, small)) wide
          ∙ a.own_row ∙ ap row_words (own m (ap (method_at ns) (sym q) ∙ e))

  -- a limit is passed with it
  pub stops : {e : LimitPassed} {ls rs ks : List ℕ} → Over text at k here k total e.at → LimitsSay ns (Err e) ls rs ks
  unfolding here next-there
  stops o = passed (passed-there text at k total here p.reached o l)

-- all methods are judged
pub at_last : (text : List ℕ) (ns : Program) (at k total : ℕ) (lengths rows kept : List ℕ)
    → Progress text ns at k total lengths rows kept → length ns ≤ k → k ≤ 32 → total ≤ 4096
    → LimitsSay ns (Ok (record { methods = k; instructions = total })) lengths rows kept
at_last text ns at k total lengths rows kept p l x y =
    let (none_over, count, sum) = all-within text ns at k total p.reached l in
    within none_over x y (record {
      count = count;
      total = sum;
      long = λ i m e. p.long i m (omega (arith, method-within ns i m e)) e;
      row = λ i m e. p.row i m (omega (arith, method-within ns i m e)) e;
    }) p.codes
