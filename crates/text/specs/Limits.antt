-- Refusal 32: "when the table, translated as docs/ sets down, passes a limit of questions 1 to 5", "at the name of the
-- first method in text order with which a limit is passed".
--
-- The limits of one method are listed one by one; questions 4 and 5 are 01's own, put to the instructions of the method
-- in the whole table. That a table without such a method passes questions 1 to 5 is proved.
use Rattle.std.specs.Prelude.{ℕ, suc, ◌+◌, Bool, cond, ◌&&◌, ◌||◌, not, List, [], ◌∷◌, ◌++◌, length, eqb, leb}
use Rattle.std.proofs.Math.Option.{Option, none, some}
use Rattle.lists.specs.Lists.{every, all_below}
use Rattle.table.specs.Table.{offset_of, length_of}
use Rattle.table.specs.Reading.{reads}
use Rattle.table.specs.Questions.{instruction_kept}
use Rattle.text.specs.Tree.{Name, Expr, Exprs, number, truth, variable, assignment, operation, method_call, measurement, reception, new_qubit, new_channel, new_end, no_more, also, Statement, Statements, skip, assign, invoke, measure, receive, fork, send, give, block, conditional, alternative, loop, done, next, Method, Program, is_main, number_of, main_first}
use Rattle.text.specs.Meaning.{is_some}
use Rattle.text.specs.Translation.{method_code, slot_codes, program_table}

-- the numbers in an expression, and in a statement
unfoldable mutual
  pub expr_numbers : Expr → List ℕ
  expr_numbers (number n) = n ∷ []
  expr_numbers (truth b) = []
  expr_numbers (variable x) = []
  expr_numbers (assignment x e) = expr_numbers e
  expr_numbers (operation o a b) = expr_numbers a ++ expr_numbers b
  expr_numbers (method_call m es) = exprs_numbers es
  expr_numbers (measurement q) = []
  expr_numbers (reception e) = expr_numbers e
  expr_numbers new_qubit = []
  expr_numbers (new_channel t) = []
  expr_numbers (new_end t) = []

  pub exprs_numbers : Exprs → List ℕ
  exprs_numbers no_more = []
  exprs_numbers (also e es) = expr_numbers e ++ exprs_numbers es

unfoldable mutual
  pub numbers_in : Statement → List ℕ
  numbers_in skip = []
  numbers_in (assign x e) = expr_numbers e
  numbers_in (invoke x es) = exprs_numbers es
  numbers_in (measure q) = []
  numbers_in (receive e) = expr_numbers e
  numbers_in (fork m es) = exprs_numbers es
  numbers_in (send e v) = expr_numbers e ++ expr_numbers v
  numbers_in (give e) = expr_numbers e
  numbers_in (block ds ss) = all_numbers_in ss
  numbers_in (conditional e s) = expr_numbers e ++ numbers_in s
  numbers_in (alternative e s t) = expr_numbers e ++ (numbers_in s ++ numbers_in t)
  numbers_in (loop e s) = expr_numbers e ++ numbers_in s

  pub all_numbers_in : Statements → List ℕ
  all_numbers_in done = []
  all_numbers_in (next s ss) = numbers_in s ++ all_numbers_in ss

-- "a number above 32,767"
abbrev pub is_number : ℕ → Bool
is_number n = leb n 32767

-- "it is main with a parameter or a return type"
abbrev pub header_kept : Method → Bool
header_kept m = not (is_main m) || (eqb (length m.parameters) 0 && not (is_some m.returns))

-- "question 4 or 5 says no to its code": n is the method's number in the table p
unfoldable pub code_kept : List ℕ → ℕ → Bool
code_kept p n =
    all_below (λ i. instruction_kept p (offset_of p n + i) && reads p (offset_of p n + i)) (length_of p n)

-- the limits of a method by itself; the hole is among its slots
unfoldable pub method_kept : Program → Method → Bool
method_kept ms m =
    leb (length m.parameters) 8
    && (leb (length (slot_codes m)) 16
    && (header_kept m
    && (every is_number (all_numbers_in m.statements)
    && code_kept (program_table ms) (number_of ms m.name))))

-- The first method, in text order, with which a limit is passed: so many methods and instructions stand before. "it is
-- the 33rd; the instructions up to and with it, in text order, pass 4,096"
unfoldable pub first_over : Program → ℕ → ℕ → Program → Option Name
first_over ms before instructions [] = none
first_over ms before instructions (m ∷ rest) =
    let total = instructions + length (method_code ms m) in
    cond (leb (suc before) 32 && (leb total 4096 && method_kept ms m)) (first_over ms (suc before) total rest)
    (some m.name)

abbrev pub place_of : Option Name → Option ℕ
place_of none = none
place_of (some x) = some x.at

-- where 32 is said, if it is
unfoldable pub limit_refusal : Program → Option ℕ
limit_refusal ms = place_of (first_over (main_first ms) 0 0 ms)
