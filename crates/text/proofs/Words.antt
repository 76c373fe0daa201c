-- What the words of a program's table say: how many methods and instructions it has, and of each method where its code
-- lies, its row, and its instructions one by one.
use Prim.Native.Nat.{ℕ, zero, suc, ◌+◌, ◌*◌, ◌≤◌, ◌<◌}
use native.Mathlib.Omega.{arith}
use mathlib.Core.Bool.{Bool, true}
use mathlib.Core.Path.{◌≡◌, refl, sym, ap, ◌∙◌}
use mathlib.Core.List.{List, [], ◌∷◌, ◌++◌}
use mathlib.Core.Option.{some, none-ne-some, some-injective}
use lib.ListN.{get_or, length, replicate, length-append, length-take, get_or-append}
use lib.Seq.{get_or-append-add, get_or-take}
use lib.Dec.{leb}
use borrow.Author.Tests.{le-leb, lt-leb}
use Rattle.lists.proofs.First.{IsFirst, first_false-first, first-unique}
use Rattle.table.specs.Table.{word, methods, instructions, offset_of, length_of, end_of, row, return_of, params_of, slot_type, op_at, arg_at, owner_of}
use Rattle.text.specs.Tree.{Method, Program, method_at}
use Rattle.text.specs.Translation.{Instruction, return_code, method_code, pair_words, slot_codes, row_words, rows_words, program_code, code_words, program_table}
use Rattle.text.proofs.Elements.{nth, nth-within, nth-there, nth-front, nth-back, get_d-filled}

-- a method's number is its index
pub method-nth : (ms : Program) (n : ℕ) → method_at ms n ≡ nth ms n
unfolding method_at nth
method-nth [] n = refl
method-nth (m ∷ ms) zero = refl
method-nth (m ∷ ms) (suc n) = method-nth ms n

-- it is below the number of methods
pub method-within : (ms : Program) (n : ℕ) (m : Method) → method_at ms n ≡ some m → n < length ms
method-within ms n m e = nth-within ms n m (sym (method-nth ms n) ∙ e)

-- every number below that has a method
pub method-there : (ms : Program) (n : ℕ) → n < length ms → (m : Method) × (method_at ms n ≡ some m)
method-there ms n l = let (m, e) = nth-there ms n l in (m, method-nth ms n ∙ e)

-- The parts of a table

-- how many words each part has: the pairs
pub pair_words-length : (ms : Program) (at : ℕ) (rest : Program) → length (pair_words ms at rest) ≡ 2 * length rest
unfolding pair_words
pair_words-length ms at [] = refl
pair_words-length ms at (m ∷ rest) = omega (arith, pair_words-length ms (at + length (method_code ms m)) rest)

-- of a row
pub row_words-length : (m : Method) → length (row_words m) ≡ 18
unfolding row_words
row_words-length m =
    omega (arith, length-take 16 (slot_codes m ++ replicate 16 0), length-append (slot_codes m) (replicate 16 0))

-- of all rows
pub rows_words-length : (ms : Program) → length (rows_words ms) ≡ 18 * length ms
unfolding rows_words
rows_words-length [] = refl
rows_words-length (m ∷ ms) =
    omega (arith, length-append (row_words m) (rows_words ms), row_words-length m, rows_words-length ms)

-- of the instructions
pub code_words-length : (is : List Instruction) → length (code_words is) ≡ 2 * length is
unfolding code_words
code_words-length [] = refl
code_words-length (i ∷ is) = omega (arith, code_words-length is)

-- the table's length
pub table-length : (ms : Program) → length (program_table ms) ≡ 2 + 20 * length ms + 2 * length (program_code ms ms)
unfolding program_table
table-length ms =
    let rows = rows_words ms in
    let code = code_words (program_code ms ms) in
    omega (
      arith,
      length-append (pair_words ms 0 ms) (rows ++ code),
      length-append rows code,
      pair_words-length ms 0 ms,
      rows_words-length ms,
      code_words-length (program_code ms ms),
    )

-- how many instructions the methods before method n have; `code_before ms ms n` is where the code of method n starts
unfoldable pub code_before : Program → Program → ℕ → ℕ
code_before ms [] n = 0
code_before ms (m ∷ rest) zero = 0
code_before ms (m ∷ rest) (suc n) = length (method_code ms m) + code_before ms rest n

-- the pair of a method
pub pair-at : (ms : Program) (at : ℕ) (rest : Program) (n : ℕ) (m : Method) → method_at rest n ≡ some m
    → (get_or (pair_words ms at rest) (2 * n) 0 ≡ at + code_before ms rest n)
    × (get_or (pair_words ms at rest) (1 + 2 * n) 0 ≡ length (method_code ms m))
unfolding pair_words method_at code_before
pair-at ms at [] n m e = absurd (none-ne-some m e)
pair-at ms at (k ∷ rest) zero m e = (omega arith, ap (λ k. length (method_code ms k)) (some-injective k m e))
pair-at ms at (k ∷ rest) (suc n) m e =
    let words = pair_words ms at (k ∷ rest) in
    let (offset, len) = pair-at ms (at + length (method_code ms k)) rest n m e in (
      ap (λ i. get_or words i 0) {x = 2 * suc n} {y = suc (suc (2 * n))} (omega arith) ∙ offset ∙ omega arith,
      ap (λ i. get_or words i 0) {x = 1 + 2 * suc n} {y = suc (suc (1 + 2 * n))} (omega arith) ∙ len,
    )

-- the row of a method
pub row-at : (ms : Program) (n : ℕ) (m : Method) → method_at ms n ≡ some m → (i : ℕ) → i < 18
    → get_or (rows_words ms) (18 * n + i) 0 ≡ get_or (row_words m) i 0
unfolding rows_words method_at
row-at [] n m e i l = absurd (none-ne-some m e)
row-at (k ∷ ms) zero m e i l =
    ap (λ j. get_or (row_words k ++ rows_words ms) j 0) {x = 18 * 0 + i} {y = i} (omega arith)
    ∙ get_or-append (row_words k) (rows_words ms) 0 i (omega (arith, row_words-length k))
    ∙ ap (λ k. get_or (row_words k) i 0) (some-injective k m e)
row-at (k ∷ ms) (suc n) m e i l =
    ap (λ j. get_or (row_words k ++ rows_words ms) j 0) {x = 18 * suc n + i} {y = length (row_words k) + (18 * n + i)}
    (omega (arith, row_words-length k))
    ∙ get_or-append-add (row_words k) (rows_words ms) (18 * n + i) 0
    ∙ row-at ms n m e i l

-- the two words of an instruction
pub code_at : (is : List Instruction) (k : ℕ) (x : Instruction) → nth is k ≡ some x
    → (get_or (code_words is) (2 * k) 0 ≡ x.op) × (get_or (code_words is) (1 + 2 * k) 0 ≡ x.argument)
unfolding code_words nth
code_at [] k x e = absurd (none-ne-some x e)
code_at (i ∷ is) zero x e =
    let same = some-injective i x e in
    (ap (λ (i : Instruction). i.op) same, ap (λ (i : Instruction). i.argument) same)
code_at (i ∷ is) (suc k) x e =
    let words = code_words (i ∷ is) in
    let (op, argument) = code_at is k x e in (
      ap (λ j. get_or words j 0) {x = 2 * suc k} {y = suc (suc (2 * k))} (omega arith) ∙ op,
      ap (λ j. get_or words j 0) {x = 1 + 2 * suc k} {y = suc (suc (1 + 2 * k))} (omega arith) ∙ argument,
    )

-- an instruction of a method in the code of the whole program
pub program-nth : (ms rest : Program) (n : ℕ) (m : Method) → method_at rest n ≡ some m
    → (at : ℕ) (x : Instruction) → nth (method_code ms m) at ≡ some x
    → nth (program_code ms rest) (code_before ms rest n + at) ≡ some x
unfolding program_code method_at code_before
program-nth ms [] n m e at x q = absurd (none-ne-some m e)
program-nth ms (k ∷ rest) zero m e at x q =
    ap (nth (method_code ms k ++ program_code ms rest)) {x = 0 + at} {y = at} (omega arith)
    ∙ nth-front (method_code ms k) (program_code ms rest) at x
    (ap (λ k. nth (method_code ms k) at) (some-injective k m e) ∙ q)
program-nth ms (k ∷ rest) (suc n) m e at x q =
    ap (nth (method_code ms k ++ program_code ms rest)) {x = length (method_code ms k) + code_before ms rest n + at}
    {y = length (method_code ms k) + (code_before ms rest n + at)} (omega arith)
    ∙ nth-back (method_code ms k) (program_code ms rest) (code_before ms rest n + at)
    ∙ program-nth ms rest n m e at x q

-- The table

module _ (ms : Program) where
  -- the number of methods
  pub methods-of : methods (program_table ms) ≡ length ms
  unfolding methods word program_table
  methods-of = refl

  -- the number of instructions
  pub instructions-of : instructions (program_table ms) ≡ length (program_code ms ms)
  unfolding instructions word program_table
  instructions-of = refl

  -- a word of each part: of the pairs
  pair-word : (i : ℕ) → i < 2 * length ms → get_or (program_table ms) (2 + i) 0 ≡ get_or (pair_words ms 0 ms) i 0
  unfolding program_table
  pair-word i l =
      ap (λ j. get_or (program_table ms) j 0) {x = 2 + i} {y = suc (suc i)} (omega arith)
      ∙ get_or-append (pair_words ms 0 ms) (rows_words ms ++ code_words (program_code ms ms)) 0 i
      (omega (arith, pair_words-length ms 0 ms))

  -- what is after the pairs
  after-pairs : (i : ℕ)
      → get_or (program_table ms) (2 + 2 * length ms + i) 0 ≡ get_or (rows_words ms ++ code_words (program_code ms ms)) i 0
  unfolding program_table
  after-pairs i =
      ap (λ j. get_or (program_table ms) j 0) {x = 2 + 2 * length ms + i} {y = suc (suc (length (pair_words ms 0 ms) + i))}
      (omega (arith, pair_words-length ms 0 ms))
      ∙ get_or-append-add (pair_words ms 0 ms) (rows_words ms ++ code_words (program_code ms ms)) i 0

  -- of the rows
  row_word : (i : ℕ) → i < 18 * length ms → get_or (program_table ms) (2 + 2 * length ms + i) 0 ≡ get_or (rows_words ms) i 0
  row_word i l =
      after-pairs i
      ∙ get_or-append (rows_words ms) (code_words (program_code ms ms)) 0 i (omega (arith, rows_words-length ms))

  -- of the instructions
  code-word : (i : ℕ) → get_or (program_table ms) (2 + 20 * length ms + i) 0 ≡ get_or (code_words (program_code ms ms)) i 0
  code-word i =
      ap (λ j. get_or (program_table ms) j 0) {x = 2 + 20 * length ms + i}
      {y = 2 + 2 * length ms + (length (rows_words ms) + i)} (omega (arith, rows_words-length ms))
      ∙ after-pairs (length (rows_words ms) + i)
      ∙ get_or-append-add (rows_words ms) (code_words (program_code ms ms)) i 0

module _ (ms : Program) (n : ℕ) (m : Method) (e : method_at ms n ≡ some m) where
  -- where its code lies
  pub offset-of : offset_of (program_table ms) n ≡ code_before ms ms n
  unfolding offset_of word
  offset-of =
      pair-word ms (2 * n) (omega (arith, method-within ms n m e)) ∙ (pair-at ms 0 ms n m e).0 ∙ omega arith

  -- how many instructions it has
  pub length-of : length_of (program_table ms) n ≡ length (method_code ms m)
  unfolding length_of word
  length-of =
      ap (λ j. get_or (program_table ms) j 0) {x = 3 + 2 * n} {y = 2 + (1 + 2 * n)} (omega arith)
      ∙ pair-word ms (1 + 2 * n) (omega (arith, method-within ms n m e))
      ∙ (pair-at ms 0 ms n m e).1

  -- word i of the method's row
  row_of : (i : ℕ) → i < 18 → get_or (program_table ms) (row (program_table ms) n + i) 0 ≡ get_or (row_words m) i 0
  unfolding row
  row_of i l =
      ap (λ j. get_or (program_table ms) j 0) {y = 2 + 2 * length ms + (18 * n + i)} (omega (arith, methods-of ms))
      ∙ row_word ms (18 * n + i) (omega (arith, method-within ms n m e))
      ∙ row-at ms n m e i l

  -- its return type
  pub return-of : return_of (program_table ms) n ≡ return_code m.returns
  unfolding return_of word row_words
  return-of =
      ap (λ j. get_or (program_table ms) j 0) {y = row (program_table ms) n + 0} (omega arith)
      ∙ row_of 0 (omega arith)

  -- its number of parameters
  pub params-of : params_of (program_table ms) n ≡ length m.parameters
  unfolding params_of word row_words
  params-of = row_of 1 (omega arith)

  -- the type of a slot
  pub slot-type-of : (s : ℕ) → s < 16 → slot_type (program_table ms) n s ≡ get_or (slot_codes m) s 0
  unfolding slot_type word row_words
  slot-type-of s l =
      ap (λ j. get_or (program_table ms) j 0) {y = row (program_table ms) n + suc (suc s)} (omega arith)
      ∙ row_of (suc (suc s)) (omega arith)
      ∙ get_or-take 16 (slot_codes m ++ replicate 16 0) s 0 l
      ∙ get_d-filled (slot_codes m) 16 s 0

-- where the method ends
pub end-of : (ms : Program) (n : ℕ) (m : Method) → method_at ms n ≡ some m
    → end_of (program_table ms) n ≡ code_before ms ms n + length (method_code ms m)
unfolding end_of
end-of ms n m e = omega (arith, offset-of ms n m e, length-of ms n m e)

-- an earlier method's code ends before a later one's starts
pub code_before-later : (ms rest : Program) (j : ℕ) (k : Method) → method_at rest j ≡ some k → (n : ℕ) → j < n
    → n ≤ length rest → code_before ms rest j + length (method_code ms k) ≤ code_before ms rest n
unfolding method_at code_before
code_before-later ms [] j k e n l w = absurd (none-ne-some k e)
code_before-later ms (m ∷ rest) j k e zero l w = absurd (omega arith)
code_before-later ms (m ∷ rest) zero k e (suc n) l w =
    omega (arith, ap (λ m. length (method_code ms m)) (some-injective m k e))
code_before-later ms (m ∷ rest) (suc j) k e (suc n) l w =
    omega (arith, code_before-later ms rest j k e n (omega arith) (omega arith))

-- the instructions of a method are its own
pub owner-of : (ms : Program) (n : ℕ) (m : Method) → method_at ms n ≡ some m
    → (at : ℕ) → at < length (method_code ms m) → owner_of (program_table ms) (offset_of (program_table ms) n + at) ≡ n
unfolding owner_of
owner-of ms n m e at l = first-unique (first_false-first ends (methods p)) only
  where
    p : List ℕ
    p = program_table ms

    ends : ℕ → Bool
    ends = λ j. leb (end_of p j) (offset_of p n + at)

    passes : (j : ℕ) → j < n → ends j ≡ true
    passes j h =
        let (k, q) = method-there ms j (omega (arith, method-within ms n m e)) in
        let later = code_before-later ms ms j k q n h (omega (arith, method-within ms n m e)) in
        le-leb (end_of p j) (offset_of p n + at) (omega (arith, later, end-of ms j k q, offset-of ms n m e))

    only : IsFirst ends (methods p) n
    only = record {
      within = omega (arith, method-within ms n m e, methods-of ms);
      passes = passes;
      fails = λ h. lt-leb (end_of p n) (offset_of p n + at) (omega (arith, end-of ms n m e, offset-of ms n m e));
    }

-- An instruction of a method stands in the table where the method's offset says, and belongs to the method.
pub in_table : (ms : Program) (n : ℕ) (m : Method) → method_at ms n ≡ some m
    → (at : ℕ) (x : Instruction) → nth (method_code ms m) at ≡ some x
    → (op_at (program_table ms) (offset_of (program_table ms) n + at) ≡ x.op)
    × ((arg_at (program_table ms) (offset_of (program_table ms) n + at) ≡ x.argument)
    × (owner_of (program_table ms) (offset_of (program_table ms) n + at) ≡ n))
unfolding op_at arg_at word
in_table ms n m e at x q =
    let p = program_table ms in
    let i = code_before ms ms n + at in
    let (op, argument) = code_at (program_code ms ms) i x (program-nth ms ms n m e at x q) in (
      ap (λ j. get_or p j 0) {y = 2 + 20 * length ms + 2 * i} (omega (arith, methods-of ms, offset-of ms n m e))
          ∙ code-word ms (2 * i) ∙ op,
      (
        ap (λ j. get_or p j 0) {y = 2 + 20 * length ms + (1 + 2 * i)}
            (omega (arith, methods-of ms, offset-of ms n m e))
            ∙ code-word ms (1 + 2 * i) ∙ argument,
        owner-of ms n m e at (nth-within (method_code ms m) at x q),
      ),
    )
