-- The code of a method keeps questions 4 and 5 in the whole table just where it is judged so by rows.
use Prim.Native.Nat.{ℕ, zero, suc, ◌+◌, ◌-◌, ◌*◌, ◌≤◌, ◌<◌}
use native.Mathlib.Omega.{arith}
use native.Mathlib.Nat.{le_of_lt}
use mathlib.Core.Logic.{⊎_elim}
use mathlib.Core.Bool.{Bool, true, false, cond, ◌&&◌}
use mathlib.Core.Path.{◌≡◌, refl, sym, ap, subst, ◌∙◌}
use mathlib.Core.List.{List, [], ◌∷◌, ◌++◌}
use mathlib.Core.Option.{none, some, none-ne-some, some-injective}
use lib.ListN.{get_or, length, replicate, length-append, length-take, length-drop}
use lib.Seq.{get_or-take}
use lib.Dec.{T, ltb}
use mir.Facts.{and_yes, eqb_yes, yes_eqb, eqb_no}
use borrow.Author.Tests.{eq-eqb, ne_eqb, ltb-true, ltb-false}
use Rattle.lists.specs.Lists.{All, any, below, all_below}
use Rattle.lists.proofs.Tests.{decide, passed, failed, or_cases, and_both}
use Rattle.lists.proofs.First.{any_below}
use Rattle.table.specs.Table.{instructions, offset_of, row, slot_types, is_type, op_at, arg_at, owner_of}
use Rattle.table.specs.Ops.{op_of}
use Rattle.table.specs.Reading.{op_there, after, opens, before, jumps_to, is_target, reads}
use Rattle.table.specs.Questions.{instruction_kept}
use Rattle.check_arguments.proofs.Marks.{any_last}
use Rattle.text.specs.Tree.{Method, Program, method_at}
use Rattle.text.specs.Translation.{method_code, pair_words, slot_codes, row_words, rows_words, program_code, code_words, program_table}
use Rattle.text.specs.Limits.{code_kept}
use Rattle.text.proofs.Elements.{nth, nth-there, nth-within, get_d-filled}
use Rattle.text.proofs.Words.{method-within, method-there, pair_words-length, row_words-length, rows_words-length, code_before, code_before-later, code_at, program-nth, methods-of, instructions-of, offset-of, length-of, return-of, params-of, slot-type-of, owner-of, in_table}
use Rattle.text.proofs.Rows.{return-code, slot-type, parameter-type}
use Rattle.text_judge.specs.JudgeCode.{subject_in}
use Rattle.text_judge.specs.declared.instruction.Counts.{Counts}
use Rattle.text_judge.specs.RowsCode.{Subject, IsRow, op_in, arg_in, jumps_onto, is_onto, judged_on, judged_to, is_kept, judged, row_in, subject_of}
use Rattle.text_judge.proofs.ByRows.{HasRow, ByRows}
use Rattle.text_judge.proofs.Jumps.{method-jumps}
use Rattle.text_judge.proofs.Single.{Stands, judged-here}

-- Rows of methods

row-slot : (m : Method) (s : ℕ) → s < 16 → get_or (row_words m) (2 + s) 0 ≡ get_or (slot_codes m) s 0
unfolding row_words
row-slot m s l =
    ap (λ j. get_or (row_words m) j 0) {x = 2 + s} {y = suc (suc s)} (omega arith)
    ∙ get_or-take 16 (slot_codes m ++ replicate 16 0) s 0 l
    ∙ get_d-filled (slot_codes m) 16 s 0

pub row-words : (m : Method) → IsRow (row_words m)
unfolding row_words
row-words m = record {
  words = row_words-length m;
  returns = return-code m.returns;
  slots = λ s l. subst (λ t. T (is_type t)) (sym (row-slot m s l)) (slot-type m s);
  parameters = λ s l k z. eqb_no {a = get_or (slot_codes m) s 0} {b = 0} (parameter-type m s k) (sym (row-slot m s l) ∙ z);
}

-- the table reaches past the rows
table-long : (ms : Program) (n : ℕ) → n < length ms → row (program_table ms) n + 18 ≤ length (program_table ms)
unfolding row program_table
table-long ms n l =
    omega (
      arith,
      methods-of ms,
      length-append (pair_words ms 0 ms) (rows_words ms ++ code_words (program_code ms ms)),
      length-append (rows_words ms) (code_words (program_code ms ms)),
      pair_words-length ms 0 ms,
      rows_words-length ms,
    )

has-row : (ms : Program) (n : ℕ) (m : Method) → method_at ms n ≡ some m → HasRow (program_table ms) n (row_words m)
unfolding row_words slot_types
has-row ms n m e = record {
  is_row = row-words m;
  returns = return-of ms n m e;
  params = params-of ms n m e;
  slots = λ s l. slot-type-of ms n m e s l ∙ sym (row-slot m s l);
  all_slots = simp (length-take, length-drop) (omega (arith, table-long ms n (method-within ms n m e)));
}

-- Jumps

-- what is found below n stands at some index
found_below : (f : ℕ → Bool) (n : ℕ) → T (any f (below n)) → (j : ℕ) × (j < n) × T (f j)
unfolding below
found_below f zero t = absurd t
found_below f (suc n) t =
    ⊎_elim (λ u. let (j, l, v) = found_below f n u in (j, omega arith, v)) (λ u. (n, omega arith, u))
    (or_cases (any f (below n)) (f n) (subst T (any_last f (below n) n) t))

-- what holds of all elements holds of the one at an index
all-nth : {A : Type 0} (P : A → Type 0) (xs : List A) → All P xs → (i : ℕ) (x : A) → nth xs i ≡ some x → P x
unfolding nth
all-nth P [] h i x e = absurd (none-ne-some x e)
all-nth P (y ∷ xs) h zero x e = subst P (some-injective y x e) h.0
all-nth P (y ∷ xs) h (suc i) x e = all-nth P xs h.1 i x e

-- nothing is pending where a method begins
opens-nothing : (p : List ℕ) (i : ℕ) → opens p i ≡ true → before p i ≡ []
unfolding before
opens-nothing p zero e = refl
opens-nothing p (suc i) e = ap (λ b. cond b [] (after p i (before p i))) e

-- two tests that are passed together
both_ways : (a b : Bool) → (T a → T b) → (T b → T a) → a ≡ b
both_ways true b f g = sym (passed b (f tt))
both_ways false b f g = sym (failed b g)

-- an instruction of the program belongs to a method
record Belongs (ms rest : Program) (j : ℕ) : Type 0 where
  number : ℕ
  method : Method
  there : method_at rest number ≡ some method
  index : ℕ
  inside : index < length (method_code ms method)
  place : j ≡ code_before ms rest number + index

belongs : (ms rest : Program) (j : ℕ) → j < length (program_code ms rest) → Belongs ms rest j
unfolding program_code code_before method_at
belongs ms [] j l = absurd (omega arith)
belongs ms (m ∷ rest) j l =
    ⊎_elim
    (λ q. record {
      number = 0;
      method = m;
      there = refl;
      index = j;
      inside = ltb-true j here q;
      place = omega arith;
    })
    (λ q. later (ltb-false j here q) (belongs ms rest (j - here) (short (ltb-false j here q))))
    (decide (ltb j here))
  where
    here : ℕ
    here = length (method_code ms m)

    short : here ≤ j → j - here < length (program_code ms rest)
    short h = omega (arith, length-append (method_code ms m) (program_code ms rest))

    later : here ≤ j → Belongs ms rest (j - here) → Belongs ms (m ∷ rest) j
    later h b = record {
      number = suc b.number;
      method = b.method;
      there = b.there;
      index = b.index;
      inside = b.inside;
      place = omega (arith, b.place);
    }

module _ (ms : Program) (n : ℕ) (m : Method) (e : method_at ms n ≡ some m) where
  abbrev p : List ℕ
  p = program_table ms

  abbrev s : Subject
  s = subject_of ms m

  abbrev start : ℕ
  start = offset_of p n

  abbrev long : ℕ
  long = length (method_code ms m)

  by_rows : ByRows p n s
  unfolding subject_of
  by_rows = record {
    own = has-row ms n m e;
    callee = λ a l. its a (method-there ms a (omega (arith, methods-of ms)));
    methods-count = methods-of ms;
    long = length-of ms n m e;
  }
    where
      its : (a : ℕ) → (k : Method) × (method_at ms a ≡ some k) → HasRow p a (s.row_of a)
      its a (k, q) = subst (HasRow p a) (ap row_in (sym q)) (has-row ms a k q)

  -- the words of an instruction
  op_same : (i : ℕ) → i < long → op_at p (start + i) ≡ op_in s.code i
  unfolding op_in subject_of
  op_same i l =
      let (x, q) = nth-there (method_code ms m) i l in
      (in_table ms n m e i x q).0 ∙ sym (code_at (method_code ms m) i x q).0

  arg-same : (i : ℕ) → i < long → arg_at p (start + i) ≡ arg_in s.code i
  unfolding arg_in subject_of
  arg-same i l =
      let (x, q) = nth-there (method_code ms m) i l in
      (in_table ms n m e i x q).1.0 ∙ sym (code_at (method_code ms m) i x q).1
      ∙ ap (λ j. get_or (code_words (method_code ms m)) j 0) {x = 1 + 2 * i} {y = 2 * i + 1} (omega arith)

  -- a jump of any method stays inside it
  jump-inside : (k : ℕ) (mk : Method) → method_at ms k ≡ some mk → (i : ℕ) → i < length (method_code ms mk)
      → T (op_there p (offset_of p k + i)).jumps → arg_at p (offset_of p k + i) < length (method_code ms mk)
  jump-inside k mk q i l t =
      let (x, r) = nth-there (method_code ms mk) i l in
      let (op, (argument, owner)) = in_table ms k mk q i x r in
      subst (λ a. a < length (method_code ms mk)) (sym argument)
      (all-nth _ (method_code ms mk) (method-jumps ms mk) i x r (subst (λ o. T (op_of o).jumps) op t))

  -- no two methods share an instruction
  same-method : (k : ℕ) (mk : Method) → method_at ms k ≡ some mk → (x : ℕ)
      → code_before ms ms k ≤ x → x < code_before ms ms k + length (method_code ms mk)
      → code_before ms ms n ≤ x → x < code_before ms ms n + long → k ≡ n
  same-method k mk q x a b c d =
      ⊎_elim (λ r. absurd (earlier (ltb-true k n r)))
      (λ r. ⊎_elim (λ t. absurd (later (ltb-true n k t)))
      (λ t. omega (arith, ltb-false k n r, ltb-false n k t)) (decide (ltb n k))) (decide (ltb k n))
    where
      earlier : k < n → ⊥
      earlier l = omega (arith, code_before-later ms ms k mk q n l (le_of_lt (method-within ms n m e)))

      later : n < k → ⊥
      later l = omega (arith, code_before-later ms ms n m e k l (le_of_lt (method-within ms k mk q)))

  -- a jump from anywhere to instruction i is one of the method's own
  own-jump : (i j : ℕ) → i < long → Belongs ms ms j → T (jumps_to p (start + i) j)
      → (k : ℕ) × (k < long) × T (jumps_onto s.code i k)
  unfolding jumps_to jumps_onto
  own-jump i j l b t =
      let there = offset-of ms b.number b.method b.there in
      let place : j ≡ offset_of p b.number + b.index = omega (arith, b.place, there) in
      let (jumps, lands) = and_yes (op_there p j).jumps _ t in
      let owner = ap (owner_of p) place ∙ owner-of ms b.number b.method b.there b.index b.inside in
      let inside = jump-inside b.number b.method b.there b.index b.inside
      (subst (λ i. T (op_there p i).jumps) place jumps) in
      let there-too : arg_at p j ≡ arg_at p (offset_of p b.number + b.index) = ap (arg_at p) place in
      let onto : offset_of p (owner_of p j) + arg_at p j ≡ start + i = eqb_yes lands in
      let at : offset_of p (owner_of p j) ≡ offset_of p b.number = ap (offset_of p) owner in
      let same = same-method b.number b.method b.there (start + i)
      (omega (arith, there, at, onto))
      (omega (arith, there, at, onto, there-too, inside))
      (omega (arith, offset-of ms n m e))
      (omega (arith, offset-of ms n m e)) in
      let method : b.method ≡ m =
      some-injective b.method m (sym b.there ∙ ap (method_at ms) same ∙ e) in
      let within : b.index < long = subst (λ m. b.index < length (method_code ms m)) method b.inside in
      let begin : offset_of p b.number ≡ start = ap (offset_of p) same in
      let here : j ≡ start + b.index = omega (arith, place, begin) in
      let op : op_at p j ≡ op_in s.code b.index = ap (op_at p) here ∙ op_same b.index within in
      let argument : arg_at p j ≡ arg_in s.code b.index = ap (arg_at p) here ∙ arg-same b.index within in (
        b.index,
        within,
        and_both (op_of (op_in s.code b.index)).jumps _ (subst (λ o. T (op_of o).jumps) op jumps)
            (yes_eqb {a = arg_in s.code b.index} {b = i} (omega (arith, argument, onto, at, begin))),
      )

  -- the method's instructions are among those of the program
  in-program : (i : ℕ) → i < long → start + i < instructions p
  in-program i l =
      let (x, q) = nth-there (method_code ms m) i l in
      omega (
        arith,
        nth-within (program_code ms ms) _ x (program-nth ms ms n m e i x q),
        offset-of ms n m e,
        instructions-of ms,
      )

  target-same : (i : ℕ) → i < long → is_target p (start + i) ≡ is_onto s.code long i
  unfolding is_target is_onto jumps_to jumps_onto
  target-same i l = both_ways _ _ to from
    where
      to : T (is_target p (start + i)) → T (is_onto s.code long i)
      to t =
          let (j, h, u) = found_below (jumps_to p (start + i)) (instructions p) t in
          let (k, g, v) = own-jump i j l (belongs ms ms j (omega (arith, instructions-of ms))) u in
          any_below (jumps_onto s.code i) long k g v

      from : T (is_onto s.code long i) → T (is_target p (start + i))
      from t =
          let (j, h, u) = found_below (jumps_onto s.code i) long t in
          let (jumps, lands) = and_yes (op_of (op_in s.code j)).jumps _ u in
          let owner = ap (offset_of p) (owner-of ms n m e j h) in
          let onto : arg_in s.code j ≡ i = eqb_yes lands in
          any_below (jumps_to p (start + i)) (instructions p) (start + j) (in-program j h)
          (and_both (op_there p (start + j)).jumps _ (subst (λ o. T (op_of o).jumps) (sym (op_same j h)) jumps)
          (yes_eqb {a = offset_of p (owner_of p (start + j)) + arg_at p (start + j)} {b = start + i}
          (omega (arith, owner, onto, arg-same j h))))

  stands : (i : ℕ) → i < long → Stands p n s i
  unfolding subject_of
  stands i l = record {
    op = op_same i l;
    argument = arg-same i l;
    owner = owner-of ms n m e i l;
    target = target-same i l;
  }

  -- The types before each instruction

  before-first : 0 < long → before p (start + 0) ≡ []
  unfolding opens
  before-first l =
      opens-nothing p (start + 0)
      (eq-eqb (start + 0) (offset_of p (owner_of p (start + 0))) (omega (arith, ap (offset_of p) (owner-of ms n m e 0 l))))

  before-next : (i : ℕ) → suc i < long → before p (start + suc i) ≡ after p (start + i) (before p (start + i))
  unfolding before opens
  before-next i l =
      let next : start + suc i ≡ suc (start + i) = omega arith in
      let owner = ap (λ j. offset_of p (owner_of p j)) (sym next) ∙ ap (offset_of p) (owner-of ms n m e (suc i) l) in
      ap (before p) next
      ∙ ap (λ b. cond b [] (after p (start + i) (before p (start + i))))
      (ne_eqb (suc (start + i)) (offset_of p (owner_of p (suc (start + i)))) (λ q. omega (arith, owner, q)))

  -- The judgement

  abbrev kept : ℕ → Bool
  kept i = instruction_kept p (start + i) && reads p (start + i)

  judged-from : (i : ℕ) → i < long → judged_to s i ≡ cond (all_below kept i) (some (before p (start + i))) none
      → judged_to s (suc i)
      ≡ cond (all_below kept (suc i)) (some (after p (start + i) (before p (start + i)))) none
  unfolding judged_to judged_on all_below
  judged-from i l h = ap (judged_on s i) h ∙ by (all_below kept i)
    where
      by : (b : Bool) → judged_on s i (cond b (some (before p (start + i))) none)
          ≡ cond (b && kept i) (some (after p (start + i) (before p (start + i)))) none
      by true = judged-here p n s by_rows i (stands i l)
      by false = refl

  judged-before : (i : ℕ) → i < long → judged_to s i ≡ cond (all_below kept i) (some (before p (start + i))) none
  unfolding judged_to all_below
  judged-before zero l = ap some (sym (before-first l))
  judged-before (suc i) l =
      judged-from i (omega arith) (judged-before i (omega arith))
      ∙ ap (λ ts. cond (all_below kept (suc i)) (some ts) none) (sym (before-next i l))

  judged-all : (i : ℕ) → i ≤ long → is_kept (judged_to s i) ≡ all_below kept i
  unfolding judged_to all_below
  judged-all zero l = refl
  judged-all (suc i) l = ap is_kept (judged-from i l (judged-before i l)) ∙ by (all_below kept (suc i))
    where
      by : (b : Bool) → is_kept (cond b (some (after p (start + i) (before p (start + i)))) none) ≡ b
      by true = refl
      by false = refl

  -- question 4 or 5 says no to the code of method n just where it is not judged so
  pub code-judged : code_kept (program_table ms) n ≡ judged (subject_of ms m)
  unfolding code_kept judged subject_of
  code-judged = ap (all_below kept) (length-of ms n m e) ∙ sym (judged-all long (omega arith))

-- The same of what code is given: the words of the method's code, its row, and the counts.
pub text-judged : (ms : Program) (k : ℕ) (m : Method) → method_at ms k ≡ some m → (code own : List ℕ) (n : Counts)
    → code ≡ code_words (method_code ms m) → own ≡ row_words m → n.long ≡ length (method_code ms m)
    → n.methods ≡ length ms
    → code_kept (program_table ms) k ≡ judged (subject_in code own n (λ a. row_in (method_at ms a)))
unfolding subject_of
text-judged ms k m e code own n c o l t = code-judged ms k m e ∙ ap judged (sym same)
  where
    same : subject_in code own n (λ a. row_in (method_at ms a)) ≡ subject_of ms m
    same = cc
