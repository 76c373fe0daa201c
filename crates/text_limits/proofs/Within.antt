-- The limits of one method, one by one.
use Prim.Native.Nat.{ℕ, suc, ◌+◌, ◌≤◌, ◌<◌}
use native.Mathlib.Omega.{arith}
use mathlib.Core.Path.{◌≡◌, refl, sym, ap, ap₂, ◌∙◌}
use mathlib.Core.Bool.{Bool, true, false, ◌&&◌, ◌||◌, not}
use mathlib.Core.List.{List}
use mathlib.Core.Option.{Option, none, some}
use lib.Dec.{eqb, leb}
use lib.ListN.{get_or, length}
use lib.Seq.{slice}
use borrow.Author.Tests.{le-leb, lt-leb}
use Rattle.lists.specs.Lists.{every, same}
use Rattle.lists.proofs.Tests.{never}
use Rattle.text.specs.Tree.{int_type, boolean_type, qbit_type, NonVoidType, plain, channel_type, end_type}
use Rattle.text.specs.Tree.{ascii, Method, Program, is_main, main_first, number_of}
use Rattle.text.specs.Meaning.{is_some}
use Rattle.text.specs.Translation.{carried_code, type_code, return_code, row_words, slot_codes, method_code, program_table}
use Rattle.text.specs.Limits.{is_number, all_numbers_in, header_kept, code_kept, method_kept}
use Rattle.text_numbering.specs.CodeBy.{place_of}
use Rattle.text_code.proofs.Numbered.{method-numbered}
use Rattle.text_judged.specs.JudgedCode.{MethodHere, kept_here}
use Rattle.text_judged.proofs.Alike.{length-alike}
use Rattle.text_judged.proofs.Callees.{Callee, text-alike}
use Rattle.text_limits.specs.LimitsCode.{is_within, Emitted}

pub and-off : (a b : Bool) → b ≡ false → (a && b) ≡ false
and-off true b e = e
and-off false b e = refl

pub off-and : (a b : Bool) → a ≡ false → (a && b) ≡ false
off-and true b e = never (sym e)
off-and false b e = refl

-- a return type's code is not 0
returns-none : (o : Option NonVoidType) → eqb (return_code o) 0 ≡ not (is_some o)
unfolding return_code type_code carried_code
returns-none none = refl
returns-none (some (plain int_type)) = refl
returns-none (some (plain boolean_type)) = refl
returns-none (some (plain qbit_type)) = refl
returns-none (some (channel_type int_type)) = refl
returns-none (some (channel_type boolean_type)) = refl
returns-none (some (channel_type qbit_type)) = refl
returns-none (some (end_type int_type)) = refl
returns-none (some (end_type boolean_type)) = refl
returns-none (some (end_type qbit_type)) = refl

module _ (text code row : List ℕ) (start end long : ℕ) (h : Emitted text code row start end long)
    (before total : ℕ) where
  abbrev ms : Program
  ms = main_first h.named.program

  abbrev m : Method
  m = h.method

  abbrev Answer : Bool → Type 0
  Answer b = b ≡ is_within before total ms m

  pub same-long : long ≡ length (method_code ms m)
  same-long =
      h.counted
      ∙ length-alike (Callee text ms) place_of (number_of ms)
      (text-alike text h.named.program h.named.left h.named.reads h.named.names (number_of ms) h.index
      m h.there)
      ∙ ap length (sym (method-numbered ms m))

  count_word : get_or row 1 0 ≡ length m.parameters
  unfolding row_words
  count_word = ap (λ r. get_or r 1 0) h.own_row

  return-word : get_or row 0 0 ≡ return_code m.returns
  unfolding row_words
  return-word = ap (λ r. get_or r 0 0) h.own_row

  -- it is the 33rd
  pub too-late : 32 ≤ before → Answer false
  too-late l = sym (off-and (leb (suc before) 32) _ (lt-leb (suc before) 32 (omega arith)))

  -- too many instructions
  pub too_long : 4096 < total + long → Answer false
  too_long l =
      sym (and-off (leb (suc before) 32) _ (off-and (leb (total + length (method_code ms m)) 4096) (method_kept ms m)
      (lt-leb (total + length (method_code ms m)) 4096 (omega (arith, same-long)))))

  not-kept : method_kept ms m ≡ false → Answer false
  not-kept e =
      sym (and-off (leb (suc before) 32) _ (and-off (leb (total + length (method_code ms m)) 4096) (method_kept ms m) e))

  -- too many parameters
  pub too_wide : 8 < get_or row 1 0 → Answer false
  unfolding method_kept
  too_wide l =
      not-kept (off-and (leb (length m.parameters) 8) _
      (lt-leb (length m.parameters) 8 (omega (arith, count_word))))

  -- main with a parameter or a return type
  abbrev header : Bool
  header = not (same (slice start end text) (ascii "main")) || (eqb (get_or row 1 0) 0 && eqb (get_or row 0 0) 0)

  header-so : header ≡ header_kept m
  unfolding is_main
  header-so =
      ap₂ (λ a b. not a || b) (ap (λ x. same x (ascii "main")) (sym h.name.spelt))
      (ap₂ (λ a b. a && b) (ap (λ k. eqb k 0) count_word) (ap (λ k. eqb k 0) return-word ∙ returns-none m.returns))

  pub not-main : header ≡ false → Answer false
  unfolding method_kept
  not-main e =
      not-kept (and-off (leb (length m.parameters) 8) _ (and-off (leb (length (slot_codes m)) 16) _
      (off-and (header_kept m) _ (sym header-so ∙ e))))

  -- what its code is judged by
  pub method-here : get_or row 1 0 ≤ 8 → MethodHere text code row long
  method-here few = record {
    program = h.named.program;
    left = h.named.left;
    reads = h.named.reads;
    names = h.named.names;
    index = h.index;
    method = m;
    there = h.there;
    few = omega (arith, count_word);
    own_row = h.own_row;
    counted = h.counted;
    short = h.short;
    enough = h.enough;
    words = h.words;
  }

  -- its code alone decides
  pub by_code : before < 32 → total + long ≤ 4096 → (few : get_or row 1 0 ≤ 8) → header ≡ true → (r : Bool)
      → r ≡ kept_here (method-here few) → Answer r
  unfolding method_kept method-here
  by_code a b few d r e =
      e ∙ sym (
      ap₂ (λ x y. x && (y && method_kept ms m)) (le-leb (suc before) 32 (omega arith))
      (le-leb (total + length (method_code ms m)) 4096 (omega (arith, same-long)))
      ∙ ap₂ (λ x y. x && (y && (header_kept m && (every is_number (all_numbers_in m.statements) && kept))))
      (le-leb (length m.parameters) 8 (omega (arith, count_word))) (le-leb (length (slot_codes m)) 16 h.slots)
      ∙ ap₂ (λ x y. x && (y && kept)) (sym header-so ∙ d) h.numbers)
    where
      kept : Bool
      kept = code_kept (program_table ms) (number_of ms m.name)
