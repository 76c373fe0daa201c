-- What a method of a text is judged by: its code and row, and the rows of the first methods, one after the other.
use Prim.Native.Nat.{ℕ, ◌+◌, ◌*◌, ◌≤◌, ◌<◌}
use native.Mathlib.Omega.{arith}
use mathlib.Core.Path.{◌≡◌, sym, ap, subst, ◌∙◌}
use mathlib.Core.List.{List}
use mathlib.Core.Option.{some}
use lib.ListN.{get_or, length, take, drop, length-take, length-drop}
use lib.Seq.{get_or-take, get_or-drop, ext_get_or}
use Rattle.text.specs.Tree.{Method, Program, method_at}
use Rattle.text.specs.Translation.{method_code, row_words, rows_words, code_words}
use Rattle.text.proofs.Words.{method-there, row_words-length, code_words-length, row-at}
use Rattle.text_judge.specs.RowsCode.{IsRow, row_in}
use Rattle.text_judge.specs.JudgeCode.{row_at, Knows}
use Rattle.text_judge.specs.ResumeCode.{IsMethod, AtHand}
use Rattle.text_judge.specs.declared.instruction.Counts.{Counts}
use Rattle.text_judge.proofs.Judgement.{row-words}

-- a method of no more than 4,096 instructions and 8 parameters
pub text-method : (ms : Program) (m : Method) (code own : List ℕ) (n : Counts) → code ≡ code_words (method_code ms m)
    → own ≡ row_words m → n.long ≡ length (method_code ms m) → n.long ≤ 4096 → length m.parameters ≤ 8
    → IsMethod code own n
unfolding row_words
text-method ms m code own n c o l short few = record {
  words = ap length c ∙ code_words-length (method_code ms m) ∙ ap (λ k. 2 * k) (sym l);
  short = short;
  own_row = subst IsRow (sym o) (row-words m);
  few = subst (λ r. get_or r 1 0 ≤ 8) (sym o) few;
}

-- a list has the words of the first known methods' rows
module _ (ms : Program) (rows : List ℕ) (n : Counts) (enough : 18 * n.known ≤ length rows)
    (there : n.known ≤ length ms) (same : (i : ℕ) → i < 18 * n.known → get_or rows i 0 ≡ get_or (rows_words ms) i 0) where
  row_same : (a : ℕ) → a < n.known → (m : Method) → method_at ms a ≡ some m → row_at rows a ≡ row_words m
  unfolding row_at
  row_same a l m e =
      let long : length (take 18 (drop (18 * a) rows)) ≡ 18 =
      length-take 18 (drop (18 * a) rows) ∙ omega (arith, length-drop (18 * a) rows) in
      ext_get_or 0 (take 18 (drop (18 * a) rows)) (row_words m) (long ∙ sym (row_words-length m))
      (λ i h. get_or-take 18 (drop (18 * a) rows) i 0 (omega arith) ∙ get_or-drop (18 * a) rows i 0
      ∙ same (18 * a + i) (omega arith) ∙ row-at ms a m e i (omega arith))

  pub rows-known : Knows (λ a. row_in (method_at ms a)) rows n
  rows-known a l =
      let (m, e) = method-there ms a (omega arith) in
      ap row_in e ∙ sym (row_same a l m e)

  pub rows-at-hand : AtHand rows n
  rows-at-hand = record {
    enough = enough;
    are-rows = λ a l. let (m, e) = method-there ms a (omega arith) in
        subst IsRow (sym (row_same a l m e)) (row-words m);
  }
