-- The stack as it stands in the lent array: an entry more, an entry less, and how many instructions it holds for later.
use Prim.Native.Nat.{ℕ, zero, suc, ◌+◌, ◌*◌, ◌-◌, ◌≤◌, ◌<◌}
use Prim.Native.String.{String}
use native.Mathlib.Omega.{arith}
use mathlib.Core.Path.{◌≡◌, refl, ap, ◌∙◌, subst}
use mathlib.Core.Bool.{Bool, true, false, cond}
use mathlib.Core.List.{List, [], ◌∷◌, ◌++◌}
use mathlib.Core.Option.{Option, none, some}
use borrow.Author.Tests.{lt-ltb, eq-eqb, ne_eqb}
use lib.Dec.{eqb, leb, ltb}
use lib.ListN.{length, get_or, set, length-set, length-append}
use lib.Seq.{get_or-set_same, get_or-set_other}
use Rattle.lists.specs.Lists.{put_from}
use Rattle.text.specs.Tree.{Operator}
use Rattle.text.specs.Translation.{Instruction, instruction, operator_op, Scope}
use Rattle.text_parse.specs.Tokens.{Token}
use Rattle.text_parse.specs.Grammar.{Reading, read, leaves, and_then, first, rest, leaves_at, next?, expect, Scopes, operator_at}
use Rattle.text_parse.specs.Equations.{expr_from, method_params_from}
use Rattle.text_numbering.specs.CodeBy.{code_by, arguments_by, place_of}
use Rattle.text_emit_expr.specs.RestCode.{Frame, bracket, waiting, prefixed, after_operand, whole_with, call_with, waiting_with, ended_rest, operand_rest, brackets, frames_in}
use Rattle.text_emit_expr.specs.EndsCode.{top_of}
use Rattle.text_emit_expr.specs.declared.state.StateAt.{StateAt}
use Rattle.text_emit_expr.proofs.EndedRest.{not_left}

-- Entries

-- three words written at an entry leave those below it
below-kept : (p : List ℕ) (i j o a u : ℕ) → j < 3 * i → get_or (put_from p (3 * i) (o ∷ a ∷ u ∷ [])) j 0 ≡ get_or p j 0
unfolding put_from
below-kept p i j o a u h =
    get_or-set_other (set (set p (3 * i) o) (suc (3 * i)) a) (suc (suc (3 * i))) j u 0 (λ e. omega arith)
    ∙ get_or-set_other (set p (3 * i) o) (suc (3 * i)) j a 0 (λ e. omega arith)
    ∙ get_or-set_other p (3 * i) j o 0 (λ e. omega arith)

frames-kept : (p : List ℕ) (i o a u n v : ℕ) → n ≤ i
    → frames_in (put_from p (3 * i) (o ∷ a ∷ u ∷ [])) n v ≡ frames_in p n v
unfolding frames_in
frames-kept p i o a u zero v h = refl
frames-kept p i o a u (suc n) v h =
    rw (
      below-kept p i (3 * n) o a u (omega arith),
      below-kept p i (3 * n + 1) o a u (omega arith),
      below-kept p i (3 * n + 2) o a u (omega arith),
    )
    (ap (λ k. brackets v (waiting (get_or p (3 * n) 0) (get_or p (3 * n + 1) 0) ∷ k))
    (frames-kept p i o a u n (get_or p (3 * n + 2) 0) (omega arith)))

module _ (p : List ℕ) (i o a u : ℕ) (room : 3 * i + 2 < length p) where
  abbrev after : List ℕ
  after = put_from p (3 * i) (o ∷ a ∷ u ∷ [])

  first_word : get_or after (3 * i) 0 ≡ o
  unfolding put_from
  first_word =
      get_or-set_other (set (set p (3 * i) o) (suc (3 * i)) a) (suc (suc (3 * i))) (3 * i) u 0 (λ e. omega arith)
      ∙ get_or-set_other (set p (3 * i) o) (suc (3 * i)) (3 * i) a 0 (λ e. omega arith)
      ∙ get_or-set_same p (3 * i) o 0 (omega arith)

  second_word : get_or after (3 * i + 1) 0 ≡ a
  unfolding put_from
  second_word =
      ap (λ (j : ℕ). get_or after j 0) {x = 3 * i + 1} {y = suc (3 * i)} (omega arith)
      ∙ get_or-set_other (set (set p (3 * i) o) (suc (3 * i)) a) (suc (suc (3 * i))) (suc (3 * i)) u 0 (λ e. omega arith)
      ∙ get_or-set_same (set p (3 * i) o) (suc (3 * i)) a 0 (omega (arith, length-set p (3 * i) o))

  third-word : get_or after (3 * i + 2) 0 ≡ u
  unfolding put_from
  third-word =
      ap (λ (j : ℕ). get_or after j 0) {x = 3 * i + 2} {y = suc (suc (3 * i))} (omega arith)
      ∙ get_or-set_same (set (set p (3 * i) o) (suc (3 * i)) a) (suc (suc (3 * i))) u 0
      (omega (arith, length-set p (3 * i) o, length-set (set p (3 * i) o) (suc (3 * i)) a))

  -- an entry more
  pub frames-pushed : frames_in after (i + 1) 0 ≡ waiting o a ∷ frames_in p i u
  unfolding frames_in brackets
  frames-pushed =
      ap (λ (n : ℕ). frames_in after n 0) {x = i + 1} {y = suc i} (omega arith)
      ∙ rw (first_word, second_word, third-word) (ap (λ k. waiting o a ∷ k) (frames-kept p i o a u i u (omega arith)))

-- the innermost entry, where no bracket is open above it
pub frames-top : (p : List ℕ) (n : ℕ) → 0 < n
    → frames_in p n 0
    ≡ waiting (get_or p (3 * (n - 1)) 0) (get_or p (3 * (n - 1) + 1) 0) ∷ frames_in p (n - 1) (get_or p (3 * (n - 1) + 2) 0)
unfolding frames_in brackets
frames-top p zero h = absurd (omega arith)
frames-top p (suc n) h =
    rw (minus_one n) refl
  where
    minus_one : (m : ℕ) → suc m - 1 ≡ m
    minus_one m = omega arith

pub frames-none : (p : List ℕ) → frames_in p 0 0 ≡ []
unfolding frames_in brackets
frames-none p = refl

-- a bracket more
pub frames-bracket : (p : List ℕ) (n u : ℕ) → frames_in p n (u + 1) ≡ bracket ∷ frames_in p n u
unfolding frames_in brackets
frames-bracket p zero u = ap (λ (j : ℕ). brackets j []) {x = u + 1} {y = suc u} (omega arith)
frames-bracket p (suc n) u =
    ap (λ (j : ℕ). brackets j
    (waiting (get_or p (3 * n) 0) (get_or p (3 * n + 1) 0) ∷ frames_in p n (get_or p (3 * n + 2) 0))) {x = u + 1} {y = suc u}
    (omega arith)

pub frames-unclosed : (p : List ℕ) (n u : ℕ) → 0 < u → frames_in p n u ≡ bracket ∷ frames_in p n (u - 1)
frames-unclosed p n u h =
    ap (λ (j : ℕ). frames_in p n j) {x = u} {y = u - 1 + 1} (omega arith) ∙ frames-bracket p n (u - 1)

brackets-length : (u : ℕ) (k : List Frame) → length (brackets u k) ≡ u + length k
unfolding brackets
brackets-length zero k = omega arith
brackets-length (suc u) k = ap suc (brackets-length u k) ∙ omega arith

-- the brackets above the last entry are frames
pub unclosed-few : (p : List ℕ) (n u : ℕ) → u ≤ length (frames_in p n u)
unfolding frames_in
unclosed-few p zero u = omega (arith, brackets-length u [])
unclosed-few p (suc n) u =
    omega (
      arith,
      brackets-length u
          (waiting (get_or p (3 * n) 0) (get_or p (3 * n + 1) 0) ∷ frames_in p n (get_or p (3 * n + 2) 0)),
    )

-- How many instructions wait

unfoldable pub waits : List Frame → ℕ
waits [] = 0
waits (bracket ∷ k) = waits k
waits (waiting o a ∷ k) = suc (waits k)

brackets-wait : (u : ℕ) (k : List Frame) → waits (brackets u k) ≡ waits k
unfolding brackets waits
brackets-wait zero k = refl
brackets-wait (suc u) k = brackets-wait u k

pub entries-wait : (p : List ℕ) (n u : ℕ) → waits (frames_in p n u) ≡ n
unfolding frames_in waits
entries-wait p zero u = brackets-wait u []
entries-wait p (suc n) u =
    brackets-wait u (waiting (get_or p (3 * n) 0) (get_or p (3 * n + 1) 0) ∷ frames_in p n (get_or p (3 * n + 2) 0))
    ∙ ap suc (entries-wait p n (get_or p (3 * n + 2) 0))

-- at least n instructions are left
abbrev pub AtLeast : ℕ → Reading (List Instruction) → Type 0
AtLeast n m = (c : List Instruction) (us : List Token) → m ≡ read c us → n ≤ length c

abbrev code_in : Reading (List Instruction) → List Instruction
code_in (read c us) = c
code_in (leaves i) = []

least-read : (n : ℕ) (c : List Instruction) (us : List Token) → n ≤ length c → AtLeast n (read c us)
least-read n c us h d vs e = subst (λ x. n ≤ length x) (ap code_in e) h

least-left : (n i : ℕ) → AtLeast n (leaves i)
least-left n i c us e = absurd (not_left refl e)

least-prefixed : (n : ℕ) (d : List Instruction) (m : Reading (List Instruction)) → AtLeast n m
    → AtLeast (length d + n) (prefixed d m)
unfolding prefixed
least-prefixed n d (read c us) h =
    least-read (length d + n) (d ++ c) us
    (let l : n ≤ length c = h c us refl in omega (arith, length-append d c))
least-prefixed n d (leaves i) h = least-left (length d + n) i

least-then : {A : Type 0} (n : ℕ) (m : Reading A) (f : A → List Token → Reading (List Instruction))
    → ((a : A) (us : List Token) → AtLeast n (f a us)) → AtLeast n (and_then m f)
unfolding and_then
least-then n (read a us) f h = h a us
least-then n (leaves i) f h = least-left n i

least-cond : (n : ℕ) (b : Bool) {m m' : Reading (List Instruction)} → AtLeast n m → AtLeast n m'
    → AtLeast n (cond b m m')
least-cond n true h h' = h
least-cond n false h h' = h'

least-expect : (n : ℕ) (s : String) (ts : List Token) (f : List Token → Reading (List Instruction))
    → ((us : List Token) → AtLeast n (f us)) → AtLeast n (expect s ts f)
unfolding expect leaves_at
least-expect n s ts f h = least-cond n (next? s ts) (h (rest ts)) (least-left n (first ts).at)

least-less : (n l : ℕ) (m : Reading (List Instruction)) → n ≤ l → AtLeast l m → AtLeast n m
least-less n l m le h c us e = let b : l ≤ length c = h c us e in omega arith

module _ (scopes : Scopes) (sc : Scope) where
  module _ (n : ℕ) (further : List Token → Reading (List Instruction))
      (h : (us : List Token) → AtLeast n (further us)) where
    operand-least : (ts : List Token) (o : Option Operator) → AtLeast n (after_operand scopes sc further o ts)
    unfolding after_operand
    operand-least ts none = h ts
    operand-least ts (some o) =
        least-then n (expr_from scopes (rest ts))
        (λ f us. prefixed (code_by place_of sc f ++ (instruction (operator_op o) 0 ∷ [])) (further us))
        (λ f us. least-less n (length (code_by place_of sc f ++ (instruction (operator_op o) 0 ∷ [])) + n)
        (prefixed (code_by place_of sc f ++ (instruction (operator_op o) 0 ∷ [])) (further us)) (omega arith)
        (least-prefixed n (code_by place_of sc f ++ (instruction (operator_op o) 0 ∷ [])) (further us) (h us)))

    whole-least : (ts : List Token) → AtLeast n (whole_with scopes sc further ts)
    unfolding whole_with
    whole-least ts = operand-least ts (operator_at ts)

    -- one instruction, and then what is left after an operand
    one-least : (i : Instruction) (us : List Token)
        → AtLeast (suc n) (prefixed (i ∷ []) (whole_with scopes sc further us))
    one-least i us =
        least-less (suc n) (1 + n) (prefixed (i ∷ []) (whole_with scopes sc further us)) (omega arith)
        (least-prefixed n (i ∷ []) (whole_with scopes sc further us) (whole-least us))

    call-least : (i : Instruction) (ts : List Token) → AtLeast (suc n) (call_with scopes sc i further ts)
    unfolding call_with
    call-least i ts =
        least-cond (suc n) (next? "," ts)
        (least-then (suc n) (method_params_from scopes (rest ts))
        (λ es us. prefixed (arguments_by place_of sc es ++ (i ∷ [])) (whole_with scopes sc further us))
        (λ es us. least-less (suc n) (length (arguments_by place_of sc es ++ (i ∷ [])) + n)
        (prefixed (arguments_by place_of sc es ++ (i ∷ [])) (whole_with scopes sc further us))
        (omega (arith, length-append (arguments_by place_of sc es) (i ∷ [])))
        (least-prefixed n (arguments_by place_of sc es ++ (i ∷ [])) (whole_with scopes sc further us) (whole-least us))))
        (least-expect (suc n) ")" ts (λ us. prefixed (i ∷ []) (whole_with scopes sc further us)) (one-least i))

    waiting-least : (o a : ℕ) (ts : List Token) → AtLeast (suc n) (waiting_with scopes sc o a further ts)
    unfolding waiting_with
    waiting-least o a ts =
        let i : Instruction = instruction o a in
        least-cond (suc n) (eqb o 4) (one-least i ts)
        (least-cond (suc n) (eqb o 16)
        (least-expect (suc n) ")" ts (λ us. prefixed (i ∷ []) (whole_with scopes sc further us)) (one-least i))
        (least-cond (suc n) (eqb o 12) (call-least i ts)
        (least-cond (suc n) (leb 19 o)
        (least-less (suc n) (1 + n) (prefixed (i ∷ []) (further ts)) (omega arith)
        (least-prefixed n (i ∷ []) (further ts) (h ts))) (least-left (suc n) 0))))

  ended-least : (k : List Frame) (ts : List Token) → AtLeast (waits k) (ended_rest scopes sc k ts)
  unfolding ended_rest waits
  ended-least [] ts = least-read 0 [] ts (omega arith)
  ended-least (bracket ∷ k) ts =
      least-expect (waits k) ")" ts (λ us. whole_with scopes sc (ended_rest scopes sc k) us)
      (whole-least (waits k) (ended_rest scopes sc k) (ended-least k))
  ended-least (waiting o a ∷ k) ts = waiting-least (waits k) (ended_rest scopes sc k) (ended-least k) o a ts

  -- every instruction that waits is among those that are left
  pub operand-many : (k : List Frame) (ts : List Token) → AtLeast (waits k) (operand_rest scopes sc k ts)
  unfolding operand_rest
  operand-many k ts =
      least-then (waits k) (expr_from scopes ts) (λ e us. prefixed (code_by place_of sc e) (ended_rest scopes sc k us))
      (λ e us. least-less (waits k) (length (code_by place_of sc e) + waits k)
      (prefixed (code_by place_of sc e) (ended_rest scopes sc k us)) (omega arith)
      (least-prefixed (waits k) (code_by place_of sc e) (ended_rest scopes sc k us) (ended-least k us)))

  pub push-many : (p : List ℕ) (n u o a : ℕ) (ts : List Token)
      → AtLeast (suc n) (operand_rest scopes sc (waiting o a ∷ frames_in p n u) ts)
  unfolding waits
  push-many p n u o a ts =
      subst (λ (i : ℕ). AtLeast (suc i) (operand_rest scopes sc (waiting o a ∷ frames_in p n u) ts)) (entries-wait p n u)
      (operand-many (waiting o a ∷ frames_in p n u) ts)

-- Words written one by one

pub two-words : (code : List ℕ) (n o a : ℕ) → set (set code (2 * n) o) (2 * n + 1) a ≡ put_from code (2 * n) (o ∷ a ∷ [])
unfolding put_from
two-words code n o a = ap (λ (j : ℕ). set (set code (2 * n) o) j a) {x = 2 * n + 1} {y = suc (2 * n)} (omega arith)

pub three-words : (p : List ℕ) (n o a u : ℕ)
    → set (set (set p (3 * n) o) (3 * n + 1) a) (3 * n + 2) u ≡ put_from p (3 * n) (o ∷ a ∷ u ∷ [])
unfolding put_from
three-words p n o a u =
    ap (λ (j : ℕ). set (set (set p (3 * n) o) j a) (3 * n + 2) u) {x = 3 * n + 1} {y = suc (3 * n)} (omega arith)
    ∙ ap (λ (j : ℕ). set (set (set p (3 * n) o) (suc (3 * n)) a) j u) {x = 3 * n + 2} {y = suc (suc (3 * n))}
    (omega arith)

-- the op on top, by cases
pub top-bracket : (p : List ℕ) (s : StateAt) → 0 < s.unclosed → 0 ≡ top_of p s
unfolding top_of
top-bracket p s h = rw (lt-ltb 0 s.unclosed h) refl

pub top-nothing : (p : List ℕ) (s : StateAt) → s.entries ≡ 0 → 0 ≡ top_of p s
unfolding top_of
top-nothing p s e = by (ltb 0 s.unclosed)
  where
    by : (b : Bool) → 0 ≡ cond b 0 (cond (eqb s.entries 0) 0 (get_or p (3 * (s.entries - 1)) 0))
    by true = refl
    by false = rw (eq-eqb s.entries 0 e) refl

pub top-entry : (p : List ℕ) (s : StateAt) → s.unclosed ≡ 0 → (s.entries ≡ 0 → ⊥)
    → get_or p (3 * (s.entries - 1)) 0 ≡ top_of p s
unfolding top_of
top-entry p s e f = rw (e, ne_eqb s.entries 0 f) refl
