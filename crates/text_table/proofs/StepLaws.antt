-- Laws of the code's steps, where a table is written.
use Prim.Native.Nat.{ℕ, zero, suc, ◌+◌, ◌*◌, ◌≤◌, ◌<◌}
use native.Mathlib.Omega.{arith}
use mathlib.Core.Path.{◌≡◌, refl, ap, ◌∙◌, subst}
use mathlib.Core.Bool.{Bool, true, false, cond}
use mathlib.Core.List.{List, [], ◌∷◌, ◌++◌}
use mathlib.Core.Option.{some}
use lib.ListN.{get_or, length, take, drop, length-append}
use lib.Seq.{take-length}
use lib.Dec.{eqb}
use Rattle.table.specs.Table.{word}
use Rattle.text.specs.Tree.{Method, Program, main_first, without_main, method_at, is_main}
use Rattle.text.specs.Translation.{method_code, program_code, code_words}
use Rattle.text.proofs.Order.{main_first-code}
use Rattle.text.proofs.Words.{method-there, method-within, code_words-length}
use Rattle.text.proofs.Limited.{translated-limited}
use Rattle.text_code.specs.KeptCode.{offset_in, CodeKept}
use Rattle.text_put.specs.TableCode.{Writes, called_at, code_to}
use Rattle.text_put.proofs.MainAt.{MainStands, main-number}
use Rattle.text_put.proofs.Assembled.{text-main}
use Rattle.text_put.proofs.WordLaws.{words-none, words_same, words-length, code-count}
use Rattle.text_table.specs.WrittenCode.{OthersPut, Writing, Lengths}
use Rattle.text_table.proofs.KeptLaws.{part-code, all-kept, kept-code}
use Rattle.text_table.proofs.Others.{others-step}

-- some of the others have no more instructions than all methods
others-short : (qs ns : Program) (k : ℕ)
    → length (program_code qs (without_main (take k ns))) ≤ length (program_code qs ns)
unfolding program_code without_main
others-short qs ns zero = omega arith
others-short qs [] (suc k) = omega arith
others-short qs (m ∷ ns) (suc k) = by (is_main m) (others-short qs ns k)
  where
    by : (b : Bool) → length (program_code qs (without_main (take k ns))) ≤ length (program_code qs ns)
        → length (program_code qs (cond b (without_main (take k ns)) (m ∷ without_main (take k ns))))
        ≤ length (method_code qs m ++ program_code qs ns)
    by true l = omega (arith, length-append (method_code qs m) (program_code qs ns))
    by false l =
        omega (
          arith,
          length-append (method_code qs m) (program_code qs ns),
          length-append (method_code qs m) (program_code qs (without_main (take k ns))),
        )

-- what a function that puts the code of one method does
abbrev pub PutsOne : List ℕ → ℕ → Bool → List ℕ → ℕ → ℕ → List ℕ → ℕ → List ℕ → ℕ → Type 0
PutsOne text main leave kept from long table at table' r =
    from + long ≤ 4096 → at < 20000
    → Writes table at (cond leave [] (code_to (called_at text main) (drop (2 * from) kept) long)) table' r

-- its cases

module _ (text : List ℕ) (main : ℕ) (kept : List ℕ) (from long : ℕ) (table : List ℕ) (at : ℕ) where
  pub left-out : (leave : Bool) → leave ≡ true → PutsOne text main leave kept from long table at table at
  left-out leave e l k = rw e (words-none table at)

  -- the words that a buffer has of it
  module _ (n : ℕ) (enough : 2 * long ≤ n) (table' : List ℕ) (r : ℕ)
      (w : Writes table at (code_to (called_at text main) (take n (drop (2 * from) kept)) long) table' r) where
    pub all-put : (leave : Bool) → leave ≡ false → PutsOne text main leave kept from long table at table' r
    all-put leave e l k =
        rw e (words_same table at (part-code (called_at text main) n (drop (2 * from) kept) long enough) w)

    pub end_below : long ≤ 4096 → at < 20000 → r < 30000
    end_below l k =
        let f = called_at text main in
        let part = take n (drop (2 * from) kept) in
        omega (arith, w.1, words-length (code_to f part long), code-count f part long)

module _ {text : List ℕ} {ns : Program} {main : ℕ} (w : Writing text ns main) where
  abbrev qs : Program
  qs = main_first ns

  main-here : MainStands ns
  main-here = text-main (length text) ns w.given.kept.names

  main-index : main ≡ length main-here.before
  main-index = w.index ∙ main-number ns main-here _ refl

  pub others-start : (at : ℕ) (table : List ℕ) → OthersPut ns 0 at table table at
  unfolding program_code without_main code_words
  others-start at table = record { written = words-none table at }

  room-left : (k at : ℕ) (table mid : List ℕ) (i : ℕ) → at ≤ 9000 → OthersPut ns k at table mid i → i < 20000
  room-left k at table mid i l o =
      let is = program_code qs (without_main (take k ns)) in
      omega (
        arith,
        o.written.1,
        words-length (code_words is),
        code_words-length is,
        others-short qs ns k,
        main_first-code qs ns,
        (translated-limited (length text) ns w.given.kept).short,
      )

  pub others-all : {at r : ℕ} {table table' : List ℕ} → OthersPut ns (length ns) at table table' r
      → Writes table at (code_words (program_code qs (without_main ns))) table' r
  others-all {at = at} {table = table} o =
      words_same table at (ap (λ ms. code_words (program_code qs (without_main ms))) (take-length ns)) o.written

  module _ (lengths kept : List ℕ) (d : Lengths ns lengths) (c : CodeKept ns (length ns) lengths kept) where
    -- the code of the method of index k put
    pub method-put : (k from long : ℕ) → from ≡ offset_in lengths k → long ≡ word lengths k → (m : Method)
        → method_at ns k ≡ some m → (leave : Bool) (table : List ℕ) (at : ℕ) {table' : List ℕ} {r : ℕ}
        → PutsOne text main leave kept from long table at table' r → at < 20000
        → Writes table at (cond leave [] (code_words (method_code qs m))) table' r
    unfolding word
    method-put k from long x y m e leave table at {table'} {r} f b =
        let part = drop (2 * offset_in lengths k) kept in
        let h : PutsOne text main leave kept (offset_in lengths k) (get_or lengths k 0) table at table' r =
        subst (λ n. PutsOne text main leave kept n (get_or lengths k 0) table at table' r) x
        (subst (λ n. PutsOne text main leave kept from n table at table' r) y f) in
        words_same table at
        (ap (cond leave []) (ap (λ n. code_to (called_at text n) part (get_or lengths k 0)) main-index
        ∙ kept-code ns lengths d text w.given main-here kept k m e (c k m (method-within ns k m e) e)))
        (h (all-kept ns lengths d text w.given k m e) b)

    pub others-on : (k from long : ℕ) → from ≡ offset_in lengths k → long ≡ word lengths k → {at i j : ℕ}
        {table mid table' : List ℕ} → OthersPut ns k at table mid i → k < length ns → at ≤ 9000
        → PutsOne text main (eqb k main) kept from long mid i table' j → OthersPut ns (k + 1) at table table' j
    others-on k from long x y {at} {i} {j} {table} {mid} {table'} o l b f =
        let (m, e) = method-there ns k l in
        others-step ns main-here k at table mid table' i j o m e
        (subst (λ n. Writes mid i (cond (eqb k n) [] (code_words (method_code qs m))) table' j) main-index
        (method-put k from long x y m e (eqb k main) mid i f (room-left k at table mid i b o)))
