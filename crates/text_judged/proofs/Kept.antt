-- The code that is written while a text is gone over, judged with a number of its own for each call, is judged as the
-- text's table is.
use Prim.Native.Nat.{ℕ, zero, suc, ◌+◌, ◌*◌, ◌≤◌, ◌<◌}
use native.Mathlib.Omega.{arith}
use mathlib.Core.Logic.{⊎_elim}
use mathlib.Core.Path.{◌≡◌, refl, sym, ap, ap₂, subst, ◌∙◌}
use mathlib.Core.Bool.{Bool, true, false, cond, ◌&&◌, ◌||◌, not}
use mathlib.Core.List.{List, [], ◌∷◌}
use mathlib.Core.Option.{some, none-ne-some, some-injective}
use lib.ListN.{get_or, length}
use lib.Dec.{T, eqb, ltb, eqb_refl}
use mir.Facts.{eqb_yes, T_not, yes_and}
use borrow.Author.Tests.{ltb-true, ltb-false, ne_eqb}
use Rattle.lists.specs.Lists.{same}
use Rattle.lists.proofs.Tests.{never, passed, failed, or_cases, passes}
use Rattle.text.specs.Tree.{Name, spells, Method, Program, main_first, method_at, method_of, number_of}
use Rattle.text.specs.Translation.{Instruction, code_words, method_code}
use Rattle.text.proofs.Apart.{Apart, Unlike}
use Rattle.text.proofs.Order.{all-method}
use Rattle.text.proofs.Elements.{nth}
use Rattle.text.proofs.Words.{method-within, row_words-length, code_at}
use Rattle.text_scan.proofs.Methods.{first_named, first_of}
use Rattle.text_judge.specs.RowsCode.{calls, op_in, arg_in, row_in, judged, subject_of}
use Rattle.text_judge.specs.JudgeCode.{subject_in}
use Rattle.text_judge.specs.declared.instruction.Counts.{Counts}
use Rattle.text_judge.proofs.Judgement.{code-judged}
use Rattle.text_rows.specs.Header.{as_word}
use Rattle.text_rows.proofs.NotedLaws.{word_small}
use Rattle.text_numbering.specs.CodeBy.{place_of}
use Rattle.text_code.specs.StatementBy.{method_by}
use Rattle.text_code.proofs.Numbered.{method-numbered}
use Rattle.text_judged.specs.JudgedCode.{plain_op, MethodHere, kept_here, name_at, header_in, called_row, Numbered, There, CallsIn}
use Rattle.text_judged.proofs.Alike.{Alike, as_is, naming, AllAlike, all_done, and-more, length-alike}
use Rattle.text_judged.proofs.Callees.{Callee, text-apart, text-alike}
use Rattle.text_judged.proofs.Renamed.{Renamed, same_op, same-call, plain-calls, judged-same}

-- A method of the text is the first of its name

same_self : (xs : List ℕ) → T (same xs xs)
same_self [] = tt
same_self (x ∷ xs) = yes_and (eqb x x) (same xs xs) (eqb_refl x) (same_self xs)

first-own : (ns : Program) → Apart ns → (k : ℕ) (m : Method) → method_at ns k ≡ some m
    → first_named m.name ns ≡ some m
unfolding method_at first_named
first-own [] a k m e = absurd (none-ne-some m e)
first-own (n ∷ ns) a zero m e =
    let own = subst (λ x. T (same m.name.spelling x)) (ap (λ (n : Method). n.name.spelling)
    (sym (some-injective n m e))) (same_self m.name.spelling) in
    ap (λ b. cond b (some n) (first_named m.name ns)) (passed (spells m.name n.name) own) ∙ e
first-own (n ∷ ns) (u, a) (suc k) m e =
    let taken = spells m.name n.name in
    let other = failed taken (λ t. T_not taken t (all-method (Unlike n) ns u k m e)) in
    ap (λ b. cond b (some n) (first_named m.name ns)) other ∙ first-own ns a k m e

-- Words

word-op : (o : ℕ) → calls (as_word o) ≡ calls o
unfolding as_word calls
word-op o = by (ltb o 65535) refl
  where
    by : (b : Bool) → ltb o 65535 ≡ b
        → (eqb (cond b o 65535) 12 || eqb (cond b o 65535) 14) ≡ (eqb o 12 || eqb o 14)
    by true q = refl
    by false q =
        let large = ltb-false o 65535 q in
        sym (ap₂ (λ a b. a || b) (ne_eqb o 12 (λ e. omega arith)) (ne_eqb o 14 (λ e. omega arith)))

plain-small : (o : ℕ) → plain_op o ≡ true → as_word o ≡ o
unfolding plain_op
plain-small o e = by (ltb o 24) refl e
  where
    by : (b : Bool) → ltb o 24 ≡ b → (b && not (calls o)) ≡ true → as_word o ≡ o
    by true q t = word_small o (omega (arith, ltb-true o 24 q))
    by false q t = never t

calls-small : (o : ℕ) → calls o ≡ true → as_word o ≡ o
unfolding calls
calls-small o e =
    ⊎_elim (λ u. word_small o (omega (arith, eqb_yes {a = o} {b = 12} u)))
    (λ u. word_small o (omega (arith, eqb_yes {a = o} {b = 14} u))) (or_cases (eqb o 12) (eqb o 14) (passes e))

-- a call as the words say it is one of the code
pub call-there : (code words : List ℕ) (k i : ℕ) → Numbered code words k → i < k → calls (op_in words i) ≡ true
    → calls (op_in code i) ≡ true
call-there code words k i h l e = sym (word-op (op_in code i)) ∙ ap calls (sym (h.ops i l)) ∙ e

-- Instruction by instruction

-- two codes that are alike, at an index
record AtIndex (P : Name → Type 0) (num num' : Name → ℕ) (c d : List Instruction) (i : ℕ) : Type 0 where
  left : Instruction
  right : Instruction
  stands : nth c i ≡ some left
  stands' : nth d i ≡ some right
  alike : Alike P num num' left right

alike_at : (P : Name → Type 0) (num num' : Name → ℕ) (c d : List Instruction) → AllAlike P num num' c d → (i : ℕ)
    → i < length c → AtIndex P num num' c d i
unfolding nth
alike_at P num num' [] (y ∷ d) h i l = elim h [ ]
alike_at P num num' (x ∷ c) [] h i l = elim h [ ]
alike_at P num num' [] [] all_done i l = absurd (omega arith)
alike_at P num num' (x ∷ c) (y ∷ d) (and-more p q) zero l =
    record { left = x; right = y; stands = refl; stands' = refl; alike = p }
alike_at P num num' (x ∷ c) (y ∷ d) (and-more p q) (suc i) l =
    let r = alike_at P num num' c d q i (omega arith) in
    record { left = r.left; right = r.right; stands = r.stands; stands' = r.stands'; alike = r.alike }

-- Instruction i, with the places of called names and with numbers.
data Instructed (text : List ℕ) (ms : Program) (code numbers : List ℕ) (i : ℕ) : Type 0 where
  plainly : (o a : ℕ) → plain_op o ≡ true → op_in code i ≡ o → arg_in code i ≡ a → op_in numbers i ≡ o
      → arg_in numbers i ≡ a → Instructed text ms code numbers i
  calling : (o : ℕ) (x : Name) → calls o ≡ true → op_in code i ≡ o → arg_in code i ≡ x.at → op_in numbers i ≡ o
      → arg_in numbers i ≡ number_of ms x → Callee text ms x → Instructed text ms code numbers i

op-at : (c : List Instruction) (i : ℕ) (x : Instruction) → nth c i ≡ some x → op_in (code_words c) i ≡ x.op
unfolding op_in
op-at c i x e = (code_at c i x e).0

arg-at : (c : List Instruction) (i : ℕ) (x : Instruction) → nth c i ≡ some x → arg_in (code_words c) i ≡ x.argument
unfolding arg_in
arg-at c i x e =
    ap (λ j. get_or (code_words c) j 0) {x = 2 * i + 1} {y = 1 + 2 * i} (omega arith) ∙ (code_at c i x e).1

module _ (text code own : List ℕ) (long : ℕ) (h : MethodHere text code own long) where
  abbrev ms : Program
  ms = main_first h.program

  abbrev m : Method
  m = h.method

  abbrev places : List Instruction
  places = method_by place_of ms m

  abbrev numbers : List ℕ
  numbers = code_words (method_code ms m)

  all_alike : AllAlike (Callee text ms) place_of (number_of ms) places (method_code ms m)
  all_alike =
      subst (AllAlike (Callee text ms) place_of (number_of ms) places) (sym (method-numbered ms m))
      (text-alike text h.program h.left h.reads h.names (number_of ms) h.index m h.there)

  same-long : long ≡ length (method_code ms m)
  same-long = h.counted ∙ length-alike (Callee text ms) place_of (number_of ms) all_alike

  code-op : (i : ℕ) → i < long → op_in code i ≡ op_in (code_words places) i
  unfolding op_in
  code-op i l = h.words (2 * i) (omega arith)

  code-arg : (i : ℕ) → i < long → arg_in code i ≡ arg_in (code_words places) i
  unfolding arg_in
  code-arg i l = h.words (2 * i + 1) (omega arith)

  instructed : (i : ℕ) → i < long → Instructed text ms code numbers i
  instructed i l =
      let r = alike_at (Callee text ms) place_of (number_of ms) places (method_code ms m) all_alike i
      (omega (arith, h.counted)) in
      by r.left r.right r.alike (code-op i l ∙ op-at places i r.left r.stands)
      (code-arg i l ∙ arg-at places i r.left r.stands) (op-at (method_code ms m) i r.right r.stands')
      (arg-at (method_code ms m) i r.right r.stands')
    where
      by : (x y : Instruction) → Alike (Callee text ms) place_of (number_of ms) x y → op_in code i ≡ x.op
          → arg_in code i ≡ x.argument → op_in numbers i ≡ y.op → arg_in numbers i ≡ y.argument
          → Instructed text ms code numbers i
      by x y (as_is o a b p q) e f u v = plainly o a p e f u (v ∙ sym q)
      by x y (naming o z c p) e f u v = calling o z c e f u v p

  -- every method that is called is there
  pub calls-in : CallsIn text code long
  unfolding name_at
  calls-in = record {
    program = h.program;
    left = h.left;
    reads = h.reads;
    within = λ i l c. within i c (instructed i l);
    there = λ i l c. there i c (instructed i l);
  }
    where
      within : (i : ℕ) → calls (op_in code i) ≡ true → Instructed text ms code numbers i → arg_in code i ≤ length text
      within i c (plainly o a p e f u v) = never (sym (plain-calls o p) ∙ ap calls (sym e) ∙ c)
      within i c (calling o x t e f u v (s, k)) = omega (arith, f, s.within)

      there : (i : ℕ) → calls (op_in code i) ≡ true → Instructed text ms code numbers i
          → There ms (name_at text (arg_in code i))
      there i c (plainly o a p e f u v) = never (sym (plain-calls o p) ∙ ap calls (sym e) ∙ c)
      there i c (calling o x t e f u v (s, k)) =
          subst (There ms) (sym (ap (name_at text) f ∙ s.reads)) k

  module _ (words : List ℕ) (n : Numbered code words long) where
    renamed : (i : ℕ) → i < long
        → Renamed (λ a. row_in (method_at ms a)) (called_row text ms code) (length ms) 4096 numbers words i
    unfolding method_of called_row name_at
    renamed i l = by (instructed i l)
      where
        op : (o : ℕ) → op_in code i ≡ o → as_word o ≡ o → op_in words i ≡ o
        op o e w = n.ops i l ∙ ap as_word e ∙ w

        by : Instructed text ms code numbers i
            → Renamed (λ a. row_in (method_at ms a)) (called_row text ms code) (length ms) 4096 numbers words i
        by (plainly o a p e f u v) =
            same_op o a p u v (op o e (plain-small o p))
            (n.arguments i l ∙ ap₂ (λ b k. cond b i (as_word k)) (ap calls e ∙ plain-calls o p) f)
        by (calling o x c e f u v (s, k)) =
            let at : arg_in words i ≡ i = n.arguments i l
            ∙ ap (λ b. cond b i (as_word (arg_in code i))) (ap calls e ∙ c) in
            same-call o k.method c u (op o e (calls-small o c))
            (omega (arith, v, method-within ms (number_of ms x) k.method k.found))
            (omega (arith, at, h.short))
            (ap (λ a. row_in (method_at ms a)) v ∙ ap row_in k.found)
            (ap (called_row text ms code) at
            ∙ ap (λ y. header_in (method_of ms y)) (ap (name_at text) f ∙ s.reads) ∙ ap header_in k.found)

    -- the method is judged by the words as it is in the table
    pub kept_by : (c : Counts) → c.long ≡ long → c.methods ≡ 4096
        → judged (subject_in words own c (called_row text ms code)) ≡ kept_here h
    unfolding subject_of method_of
    kept_by c e f =
        ap₂ (λ k a. judged (record { own = own; row_of = called_row text ms code; methods = a; long = k; code = words }))
        e f
        ∙ sym (judged-same own (ap length h.own_row ∙ row_words-length m) long h.short
        (λ a. row_in (method_at ms a)) (called_row text ms code) (length ms) 4096 numbers words renamed)
        ∙ ap₂ (λ r k. judged (record {
          own = r;
          row_of = λ a. row_in (method_at ms a);
          methods = length ms;
          long = k;
          code = numbers;
        })) h.own_row same-long
        ∙ sym (code-judged ms (number_of ms m.name) m
        (first_of h.program m.name
        ∙ first-own h.program (text-apart (length text) h.program h.names) h.index m h.there))
