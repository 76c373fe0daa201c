-- In a text that is given a table, the code of each method that is kept, with its calls by number, is its code in the
-- table; and all of it has no more than 4,096 instructions.
use Prim.Native.Nat.{ℕ, zero, suc, ◌+◌, ◌*◌, ◌≤◌, ◌<◌}
use native.Mathlib.Omega.{arith}
use native.Mathlib.Nat.{eq-or-lt_of_le, le_of_suc-le-suc}
use mathlib.Core.Path.{◌≡◌, refl, sym, ap, ap₂, ◌∙◌}
use mathlib.Core.List.{List, [], ◌∷◌, map, append-nil}
use mathlib.Core.Logic.{◌⊎◌, inl, inr}
use mathlib.Core.Option.{some}
use lib.ListN.{get_or, length, take, drop, length-append, length-map}
use lib.Seq.{take-length, get_or-take}
use Rattle.table.specs.Table.{word}
use Rattle.text.specs.Tree.{Method, Program, main_first, method_at}
use Rattle.text.specs.Translation.{method_code, program_code, code_words}
use Rattle.text.proofs.Order.{main_first-code}
use Rattle.text.proofs.Words.{method-there, method-within}
use Rattle.text.proofs.Limited.{translated-limited}
use Rattle.text_numbering.specs.CodeBy.{place_of}
use Rattle.text_code.specs.StatementBy.{method_by}
use Rattle.text_code.specs.KeptCode.{CodeOf, offset_in}
use Rattle.text_put.specs.TableCode.{called_at, code_to}
use Rattle.text_put.specs.Measures.{TableText}
use Rattle.text_put.proofs.MainAt.{MainStands}
use Rattle.text_put.proofs.Ordered.{take-method, program-append}
use Rattle.text_put.proofs.Buffer.{resolved, code-to}
use Rattle.text_table.specs.WrittenCode.{Lengths}
use Rattle.text_table.proofs.ByPlaces.{by-places}

-- the first words of a buffer are enough for the instructions in them
pub part-code : (f : ℕ → ℕ) (n : ℕ) (xs : List ℕ) (long : ℕ) → 2 * long ≤ n
    → code_to f (take n xs) long ≡ code_to f xs long
unfolding code_to
part-code f n xs zero l = refl
part-code f n xs (suc j) l =
    let op = get_or-take n xs (2 * j) 0 (omega arith) in
    let argument = get_or-take n xs (2 * j + 1) 0 (omega arith) in
    rw (part-code f n xs j (omega arith), op, argument) refl

-- the offset of the next method
pub offset-none : (lengths : List ℕ) → 0 ≡ offset_in lengths 0
unfolding offset_in
offset-none lengths = refl

pub offset-next : (lengths : List ℕ) (k n long : ℕ) → n ≡ offset_in lengths k → long ≡ word lengths k
    → n + long ≡ offset_in lengths (k + 1)
unfolding offset_in word
offset-next lengths k n long e f = ap₂ ◌+◌ e f ∙ ap (offset_in lengths) {x = suc k} {y = k + 1} (omega arith)

-- a method's code begins where those before it end
below_all : (lengths : List ℕ) (i k : ℕ) → i < k → offset_in lengths i + get_or lengths i 0 ≤ offset_in lengths k
unfolding offset_in
below_all lengths i zero l = absurd (omega arith)
below_all lengths i (suc k) l = by (λ h. below_all lengths i k h) (eq-or-lt_of_le (le_of_suc-le-suc l))
  where
    by : (i < k → offset_in lengths i + get_or lengths i 0 ≤ offset_in lengths k) → (i ≡ k) ⊎ (i < k)
        → offset_in lengths i + get_or lengths i 0 ≤ offset_in lengths k + get_or lengths k 0
    by f (inl e) = rw e (omega arith)
    by f (inr h) = omega (arith, f h)

one-method : (qs : Program) (m : Method) → length (program_code qs (m ∷ [])) ≡ length (method_code qs m)
unfolding program_code
one-method qs m = ap length (append-nil (method_code qs m))

module _ (ns : Program) (lengths : List ℕ) (d : Lengths ns lengths) where
  abbrev qs : Program
  qs = main_first ns

  offset-is : (k : ℕ) → k ≤ length ns → offset_in lengths k ≡ length (program_code qs (take k ns))
  unfolding offset_in program_code
  offset-is zero l = refl
  offset-is (suc k) l =
      let (m, e) = method-there ns k (omega arith) in
      let before = program_code qs (take k ns) in
      ap (λ n. n + get_or lengths k 0) (offset-is k (omega arith))
      ∙ ap (λ n. length before + n) (d k m e ∙ sym (one-method qs m))
      ∙ sym (length-append before (program_code qs (m ∷ [])))
      ∙ ap length (sym (program-append qs (take k ns) (m ∷ [])))
      ∙ ap (λ ms. length (program_code qs ms)) (sym (take-method ns k m e))

  module _ (text : List ℕ) (g : TableText text ns) where
    pub all-kept : (k : ℕ) (m : Method) → method_at ns k ≡ some m → offset_in lengths k + get_or lengths k 0 ≤ 4096
    all-kept k m e =
        omega (
          arith,
          below_all lengths k (length ns) (method-within ns k m e),
          offset-is (length ns) (omega arith),
          ap (λ ms. length (program_code qs ms)) (take-length ns),
          main_first-code qs ns,
          (translated-limited (length text) ns g.kept).short,
        )

    pub kept-code : (p : MainStands ns) (kept : List ℕ) (k : ℕ) (m : Method) → method_at ns k ≡ some m
        → CodeOf qs m (drop (2 * offset_in lengths k) kept) (get_or lengths k 0)
        → code_to (called_at text (length p.before)) (drop (2 * offset_in lengths k) kept) (get_or lengths k 0)
        ≡ code_words (method_code qs m)
    kept-code p kept k m e h =
        let f = called_at text (length p.before) in
        let is = method_by place_of qs m in
        let part = drop (2 * offset_in lengths k) kept in
        let b = by-places text ns g p k m e in
        let long : get_or lengths k 0 ≡ length is = d k m e ∙ ap length (sym b) ∙ length-map is (resolved f) in
        ap (code_to f part) long
        ∙ code-to f is part (λ j l. h j (omega (arith, long))) (length is) (omega arith)
        ∙ ap (λ js. code_words (map (resolved f) js)) (take-length is)
        ∙ ap code_words b
