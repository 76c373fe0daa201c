-- Every word of a table that is given out has 16 bits.
use Prim.Native.Nat.{ℕ, zero, suc, ◌+◌, ◌≤◌, ◌<◌}
use native.Mathlib.Omega.{arith}
use native.Mathlib.Nat.{mod-eq_of_lt}
use mathlib.Core.Path.{◌≡◌, refl, sym, ap, ◌∙◌, subst}
use mathlib.Core.Bool.{Bool, true, cond, ◌&&◌, not}
use mathlib.Core.List.{List, [], ◌∷◌, ◌++◌, map}
use mathlib.Core.Option.{Option, none, some, none-ne-some, some-injective}
use lib.ListN.{length, replicate, length-append}
use lib.Dec.{T, eqb, leb, ltb}
use mir.Facts.{and_yes, leb_yes, eqb_yes, ltb_yes}
use Rattle.lists.specs.Lists.{All, every}
use Rattle.lists.proofs.Any.{All-append, All-take, All-replicate}
use Rattle.lists.proofs.First.{all_below-all}
use Rattle.lists.proofs.Numbers.{by_number, ◌▹◌}
use Rattle.table.specs.Table.{methods, offset_of, length_of, op_at, arg_at, slot_type, is_carried}
use Rattle.table.specs.Ops.{op_of}
use Rattle.table.specs.Reading.{reads}
use Rattle.table.specs.Questions.{instruction_kept}
use Rattle.table.proofs.Ops.{ops-opened}
use Rattle.text.specs.Tree.{Carried, int_type, boolean_type, qbit_type, NonVoidType, plain, channel_type, end_type, Declared, body_variables, Method, Program, main_first, method_at, number_of}
use Rattle.text.specs.Translation.{Instruction, carried_code, type_code, return_code, code_of_type, hole_type, variables_of, slot_codes, row_words, rows_words, pair_words, opened, closing, hole_of, method_code, program_code, code_words, program_table}
use Rattle.text.specs.Limits.{is_number, all_numbers_in, code_kept}
use Rattle.text.specs.Statement.{Translated, text_table}
use Rattle.text.proofs.Elements.{nth, nth-within}
use Rattle.text.proofs.Words.{methods-of, length-of, in_table}
use Rattle.text.proofs.Limited.{Limited, limited-keeps, translated-limited}
use Rattle.text_numbering.specs.CodeBy.{number_fits}
use Rattle.text_code.specs.StatementBy.{statements_by, method_by}
use Rattle.text_code.proofs.Numbered.{method-numbered}
use Rattle.text_code.proofs.Quiet.{quiet-after, closing-quiet, statements-fit}
use Rattle.text_put.specs.TableCode.{words}
use Rattle.text_put.proofs.Ordered.{code-append}

abbrev Word : ℕ → Type 0
Word n = n < 65536

words-stay : (xs : List ℕ) → All Word xs → words xs ≡ xs
unfolding words
words-stay [] a = refl
words-stay (x ∷ xs) (h, a) = ap (λ y. y ∷ words xs) (mod-eq_of_lt h) ∙ ap (λ ys. x ∷ ys) (words-stay xs a)

-- Rows

carried-word : (t : Carried) → carried_code t ≤ 3
unfolding carried_code
carried-word int_type = omega arith
carried-word boolean_type = omega arith
carried-word qbit_type = omega arith

type-word : (t : NonVoidType) → Word (type_code t)
unfolding type_code
type-word (plain t) = omega (arith, carried-word t)
type-word (channel_type t) = omega (arith, carried-word t)
type-word (end_type t) = omega (arith, carried-word t)

return-word : (o : Option NonVoidType) → Word (return_code o)
unfolding return_code
return-word none = omega arith
return-word (some t) = type-word t

hole-words : (o : Option NonVoidType) → All Word (hole_type o)
unfolding hole_type
hole-words none = tt
hole-words (some t) = (type-word t, tt)

types-words : (ds : List Declared) → All Word (map code_of_type ds)
types-words [] = tt
types-words (d ∷ ds) = (type-word d.type, types-words ds)

row-words : (m : Method) → length m.parameters ≤ 8 → All Word (row_words m)
unfolding row_words slot_codes
row-words m l =
    let types = map code_of_type (variables_of m) in
    let hole = hole_type m.returns in (
      return-word m.returns,
      (
        omega arith,
        All-take Word 16 ((types ++ hole) ++ replicate 16 0)
            (All-append Word (types ++ hole) (replicate 16 0)
            (All-append Word types hole (types-words (variables_of m)) (hole-words m.returns))
            (All-replicate Word 16 0 (omega arith))),
      ),
    )

rows-words : (ms : Program) → ((n : ℕ) (m : Method) → method_at ms n ≡ some m → length m.parameters ≤ 8)
    → All Word (rows_words ms)
unfolding rows_words method_at
rows-words [] h = tt
rows-words (m ∷ ms) h =
    All-append Word (row_words m) (rows_words ms) (row-words m (h 0 m refl)) (rows-words ms (λ n k e. h (suc n) k e))

-- Pairs

pairs-words : (ms : Program) (at : ℕ) (rest : Program) → at + length (program_code ms rest) ≤ 4096
    → All Word (pair_words ms at rest)
unfolding pair_words program_code
pairs-words ms at [] l = tt
pairs-words ms at (m ∷ rest) l =
    let e = length-append (method_code ms m) (program_code ms rest) in
    (omega (arith, e), (omega (arith, e), pairs-words ms (at + length (method_code ms m)) rest (omega (arith, e))))

-- Code: question 4 bounds an op and its argument, but for an INT's number.

module _ (p : List ℕ) (n a : ℕ) (few : methods p ≤ 32) (short : length_of p n ≤ 4096) where
  zero_in : T (eqb a 0) → Word a
  zero_in t = omega (arith, eqb_yes {a = a} {b = 0} t)

  one_in : T (leb a 1) → Word a
  one_in t = omega (arith, leb_yes {a = a} {b = 1} t)

  slot-in : T (ltb a 16 && not (eqb (slot_type p n a) 0)) → Word a
  slot-in t = omega (arith, ltb_yes {a = a} {b = 16} (and_yes (ltb a 16) _ t).0)

  carried-in : T (is_carried a) → Word a
  carried-in t = omega (arith, leb_yes {a = a} {b = 3} (and_yes (leb 1 a) (leb a 3) t).1)

  gate-in : T (leb 1 a && leb a 8) → Word a
  gate-in t = omega (arith, leb_yes {a = a} {b = 8} (and_yes (leb 1 a) (leb a 8) t).1)

  method-in : T (ltb a (methods p)) → Word a
  method-in t = omega (arith, ltb_yes {a = a} {b = methods p} t)

  target-in : T (ltb a (length_of p n)) → Word a
  target-in t = omega (arith, ltb_yes {a = a} {b = length_of p n} t)

  number_in : T (leb a 32767) → Word a
  number_in t = omega (arith, leb_yes {a = a} {b = 32767} t)

  abbrev OpWord : ℕ → Type 0
  OpWord op = T ((op_of op).argument p n a) → T (cond (eqb op 1) (leb a 32767) true) → Word op × Word a

  op-word : (op : ℕ) → OpWord op
  unfolding ops-opened
  op-word =
      by_number OpWord 24
      ((λ t f. absurd t) ▹ (λ t f. (omega arith, number_in f)) ▹ (λ t f. (omega arith, one_in t))
      ▹ (λ t f. (omega arith, slot-in t)) ▹ (λ t f. (omega arith, slot-in t))
      ▹ (λ t f. (omega arith, zero_in t)) ▹ (λ t f. (omega arith, slot-in t))
      ▹ (λ t f. (omega arith, zero_in t)) ▹ (λ t f. (omega arith, carried-in t))
      ▹ (λ t f. (omega arith, one_in t)) ▹ (λ t f. (omega arith, gate-in t))
      ▹ (λ t f. (omega arith, zero_in t))
      ▹ (λ t f. (omega arith, method-in t)) ▹ (λ t f. (omega arith, zero_in t))
      ▹ (λ t f. (omega arith, method-in t))
      ▹ (λ t f. (omega arith, zero_in t)) ▹ (λ t f. (omega arith, zero_in t))
      ▹ (λ t f. (omega arith, target-in t)) ▹ (λ t f. (omega arith, target-in t))
      ▹ (λ t f. (omega arith, zero_in t)) ▹ (λ t f. (omega arith, zero_in t))
      ▹ (λ t f. (omega arith, zero_in t)) ▹ (λ t f. (omega arith, zero_in t))
      ▹ (λ t f. (omega arith, zero_in t))
      ▹ (λ k t f. absurd t))

-- a method has no more instructions than all
pub one_of_all : (qs ms : Program) (k : ℕ) (m : Method) → method_at ms k ≡ some m
    → length (method_code qs m) ≤ length (program_code qs ms)
unfolding method_at program_code
one_of_all qs [] k m e = absurd (none-ne-some m e)
one_of_all qs (n ∷ ms) zero m e =
    omega (
      arith,
      length-append (method_code qs n) (program_code qs ms),
      ap (λ k. length (method_code qs k)) (some-injective n m e),
    )
one_of_all qs (n ∷ ms) (suc k) m e =
    omega (arith, length-append (method_code qs n) (program_code qs ms), one_of_all qs ms k m e)

-- by index
every-nth : (f : Instruction → Bool) (xs : List Instruction) → T (every f xs) → (k : ℕ) (x : Instruction)
    → nth xs k ≡ some x → T (f x)
unfolding nth
every-nth f [] t k x e = absurd (none-ne-some x e)
every-nth f (y ∷ xs) t zero x e = subst (λ z. T (f z)) (some-injective y x e) (and_yes (f y) (every f xs) t).0
every-nth f (y ∷ xs) t (suc k) x e = every-nth f xs (and_yes (f y) (every f xs) t).1 k x e

nth-words : (is : List Instruction)
    → ((k : ℕ) (x : Instruction) → nth is k ≡ some x → Word x.op × Word x.argument) → All Word (code_words is)
unfolding nth code_words
nth-words [] h = tt
nth-words (i ∷ is) h =
    let (o, a) = h 0 i refl in
    (o, (a, nth-words is (λ k x e. h (suc k) x e)))

-- no number in a method's code is above 32,767
numbers-kept : (ms : Program) (m : Method)
    → every is_number (all_numbers_in m.statements) ≡ every number_fits (method_code ms m)
unfolding method_by
numbers-kept ms m =
    let scope = opened (body_variables m) 0 [] in
    let slots = length (body_variables m) in
    statements-fit (number_of ms) ms scope slots 0 m.statements
    ∙ sym (quiet-after (statements_by (number_of ms) ms scope slots 0 m.statements) (closing m.returns (hole_of m))
    (closing-quiet m.returns (hole_of m)))
    ∙ ap (every number_fits) (sym (method-numbered ms m))

module _ (ms : Program) (l : Limited ms) where
  one_word : (n : ℕ) (m : Method) → method_at ms n ≡ some m → (at : ℕ) (x : Instruction)
      → nth (method_code ms m) at ≡ some x → Word x.op × Word x.argument
  unfolding code_kept instruction_kept number_fits
  one_word n m e at x q =
      let p = program_table ms in
      let i = offset_of p n + at in
      let keeps = limited-keeps ms l n m e in
      let (op, (argument, owner)) = in_table ms n m e at x q in
      let both = all_below-all (λ j. instruction_kept p (offset_of p n + j) && reads p (offset_of p n + j)) (length_of p n)
      keeps.code at (omega (arith, length-of ms n m e, nth-within (method_code ms m) at x q)) in
      let (t, r) = and_yes (instruction_kept p i) (reads p i) both in
      op-word p n x.argument (omega (arith, methods-of ms, l.few))
      (omega (arith, length-of ms n m e, one_of_all ms ms n m e, l.short)) x.op
      (subst (λ o. T ((op_of o).argument p n x.argument)) op
      (subst (λ a. T ((op_of (op_at p i)).argument p n a)) argument
      (subst (λ k. T ((op_of (op_at p i)).argument p k (arg_at p i))) owner t)))
      (every-nth number_fits (method_code ms m) (subst T (numbers-kept ms m) keeps.numbers) at x q)

  code-words : (rest : Program)
      → ((n : ℕ) (m : Method) → method_at rest n ≡ some m → All Word (code_words (method_code ms m)))
      → All Word (code_words (program_code ms rest))
  unfolding program_code code_words method_at
  code-words [] h = tt
  code-words (m ∷ rest) h =
      subst (All Word) (sym (code-append (method_code ms m) (program_code ms rest)))
      (All-append Word (code_words (method_code ms m)) (code_words (program_code ms rest)) (h 0 m refl)
      (code-words rest (λ n k e. h (suc n) k e)))

  limited-words : All Word (program_table ms)
  unfolding program_table
  limited-words =
      let pairs = pair_words ms 0 ms in
      let rows = rows_words ms in
      let code = code_words (program_code ms ms) in (
        omega (arith, l.few),
        (
          omega (arith, l.short),
          All-append Word pairs (rows ++ code) (pairs-words ms 0 ms (omega (arith, l.short)))
              (All-append Word rows code (rows-words ms (λ n m e. (limited-keeps ms l n m e).parameters))
              (code-words ms (λ n m e. nth-words (method_code ms m) (one_word n m e)))),
        ),
      )

-- the table of a text that is refused neither by 31 nor by 32
pub table-words : (bytes : ℕ) (ns : Program) → Translated bytes ns → words (text_table ns) ≡ text_table ns
unfolding text_table
table-words bytes ns t =
    words-stay (program_table (main_first ns)) (limited-words (main_first ns) (translated-limited bytes ns t))
