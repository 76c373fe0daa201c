-- Every table that is given out passes questions 1 to 5.
use Prim.Native.Nat.{ℕ, zero, suc, ◌+◌, ◌*◌, ◌-◌, ◌≤◌, ◌<◌}
use native.Mathlib.Omega.{arith}
use mathlib.Core.Path.{◌≡◌, refl, sym, ap, subst, ◌∙◌}
use mathlib.Core.Bool.{◌&&◌}
use mathlib.Core.List.{[], ◌∷◌, ◌++◌}
use mathlib.Core.Option.{Option, none, some, none-ne-some, some-injective}
use lib.ListN.{length, length-append}
use lib.Dec.{T, eqb, leb, le→leb}
use mir.Facts.{and_yes, yes_and, yes_eqb}
use Rattle.lists.proofs.First.{all_below-all}
use Rattle.table.specs.Table.{methods, instructions, offset_of, length_of, end_of, owner_of}
use Rattle.table.specs.Reading.{reads}
use Rattle.table.specs.Questions.{sizes_kept, start_of, pair_kept, instruction_kept, Accepted}
use Rattle.table.proofs.Accepted.{sizes-kept, pairs-kept}
use Rattle.table.proofs.Owners.{owner-inside}
use Rattle.text.specs.Tree.{NonVoidType, Method, Program, method_at, main_first}
use Rattle.text.specs.Translation.{hole_of, closing, body_code, method_code, pair_words, rows_words, program_code, code_words, program_table}
use Rattle.text.specs.Limits.{code_kept}
use Rattle.text.specs.Statement.{Translated, text_table}
use Rattle.text.proofs.Words.{code_before, code_before-later, methods-of, instructions-of, offset-of, length-of, end-of, method-there, method-within, table-length}
use Rattle.text.proofs.Passing.{passes-accepted}
use Rattle.text.proofs.Limited.{Limited, limited-keeps, translated-limited}
use Rattle.text.proofs.Rows.{row-kept}

-- Where the code of each method starts

-- the first at 0
code_before-first : (ms rest : Program) → code_before ms rest 0 ≡ 0
unfolding code_before
code_before-first ms [] = refl
code_before-first ms (m ∷ rest) = refl

-- each next where the one before ends
code_before-next : (ms rest : Program) (n : ℕ) (m : Method) → method_at rest n ≡ some m
    → code_before ms rest (suc n) ≡ code_before ms rest n + length (method_code ms m)
unfolding method_at code_before
code_before-next ms [] n m e = absurd (none-ne-some m e)
code_before-next ms (k ∷ rest) zero m e =
    omega (arith, code_before-first ms rest, ap (λ k. length (method_code ms k)) (some-injective k m e))
code_before-next ms (k ∷ rest) (suc n) m e = omega (arith, code_before-next ms rest n m e)

-- and the last ends where the instructions do
code_before-all : (ms rest : Program) → code_before ms rest (length rest) ≡ length (program_code ms rest)
unfolding code_before program_code
code_before-all ms [] = refl
code_before-all ms (m ∷ rest) =
    omega (arith, length-append (method_code ms m) (program_code ms rest), code_before-all ms rest)

-- so question 2's starts are where the code of each method starts
start-of : (ms : Program) (n : ℕ) → n ≤ length ms → start_of (program_table ms) n ≡ code_before ms ms n
unfolding start_of
start-of ms zero l = sym (code_before-first ms ms)
start-of ms (suc n) l =
    let (m, e) = method-there ms n l in
    end-of ms n m e ∙ sym (code_before-next ms ms n m e)

-- every method has an instruction, at least the RET that it ends on
pub closing-some : (o : Option NonVoidType) (hole : ℕ) → 1 ≤ length (closing o hole)
unfolding closing
closing-some none hole = omega arith
closing-some (some t) hole = omega arith

-- so does its code with what stands before that
code-some : (ms : Program) (m : Method) → 1 ≤ length (method_code ms m)
unfolding method_code
code-some ms m =
    omega (arith, length-append (body_code ms m) (closing m.returns (hole_of m)), closing-some m.returns (hole_of m))

-- Question 1

module _ (ms : Program) (l : Limited ms) where
  -- there is a method
  methods-some : 1 ≤ length ms
  methods-some = method-within ms 0 l.main l.first

  -- and an instruction
  instructions-some : 1 ≤ length (program_code ms ms)
  instructions-some =
      let first = code_before-later ms ms 0 l.main l.first (length ms) methods-some (omega arith) in
      omega (arith, code-some ms l.main, code_before-all ms ms)

  -- question 1 is passed
  sizes-pass : T (sizes_kept (program_table ms))
  unfolding sizes_kept
  sizes-pass =
      let M = methods (program_table ms) in
      let N = instructions (program_table ms) in
      let m = methods-of ms in
      let n = instructions-of ms in
      yes_and (leb 1 M && leb M 32) _
      (yes_and (leb 1 M) (leb M 32) (le→leb 1 M (omega (arith, methods-some))) (le→leb M 32 (omega (arith, l.few))))
      (yes_and (leb 1 N && leb N 4096) _
      (yes_and (leb 1 N) (leb N 4096) (le→leb 1 N (omega (arith, instructions-some)))
      (le→leb N 4096 (omega (arith, l.short))))
      (yes_eqb {a = length (program_table ms)} {b = 2 + 20 * M + 2 * N} (omega (arith, table-length ms))))

  -- Question 2

  -- each pair keeps its rule
  pair-passes : (n : ℕ) → n < methods (program_table ms) → T (pair_kept (program_table ms) n)
  unfolding pair_kept
  pair-passes n h =
      let p = program_table ms in
      let within : n < length ms = omega (arith, methods-of ms) in
      let (m, e) = method-there ms n within in
      yes_and (eqb (offset_of p n) (start_of p n)) _
      (yes_eqb (offset-of ms n m e ∙ sym (start-of ms n (omega arith))))
      (le→leb 1 (length_of p n) (omega (arith, length-of ms n m e, code-some ms m)))

  -- the lengths sum to the instructions
  sum-passes : T (eqb (start_of (program_table ms) (methods (program_table ms))) (instructions (program_table ms)))
  sum-passes =
      yes_eqb (ap (start_of (program_table ms)) (methods-of ms) ∙ start-of ms (length ms) (omega arith)
      ∙ code_before-all ms ms ∙ sym (instructions-of ms))

  -- Questions 4 and 5

  -- each instruction is one of its owner's, whose code keeps both
  instruction-passes : (i : ℕ) → i < instructions (program_table ms)
      → T (instruction_kept (program_table ms) i) × T (reads (program_table ms) i)
  unfolding code_kept end_of
  instruction-passes i h =
      let p = program_table ms in
      let sizes = sizes-kept p sizes-pass in
      let inside = owner-inside p sizes (pairs-kept p sizes pair-passes sum-passes) i h in
      let n = owner_of p i in
      let within : n < length ms = omega (arith, inside.method, methods-of ms) in
      let (m, e) = method-there ms n within in
      let j = i - offset_of p n in
      let ahead : j < length_of p n = omega (arith, inside.from-offset, inside.ahead) in
      let place : offset_of p n + j ≡ i = omega (arith, inside.from-offset) in
      let kept = all_below-all _ (length_of p n) (limited-keeps ms l n m e).code j ahead in
      let both = subst (λ k. T (instruction_kept p k && reads p k)) place kept in
      and_yes (instruction_kept p i) (reads p i) both

  -- the table of methods that keep all limits is accepted
  pub limited-accepted : Accepted (program_table ms)
  limited-accepted =
      passes-accepted (program_table ms)
      (record {
        sizes = sizes-pass;
        pairs = pair-passes;
        sum = sum-passes;
        rows = row-kept ms l;
        code = λ i h. (instruction-passes i h).0;
        types = λ i h. (instruction-passes i h).1;
      })

-- the table of a text that is refused neither by 31 nor by 32
pub accepted-table : (bytes : ℕ) (ms : Program) → Translated bytes ms → Accepted (text_table ms)
unfolding text_table
accepted-table bytes ms t = limited-accepted (main_first ms) (translated-limited bytes ms t)
