-- The code with the methods' numbers is crate text's, and its numbers are those of the expression.
use Prim.Native.Nat.{ℕ}
use mathlib.Core.Path.{◌≡◌, refl, sym, ap, ◌∙◌}
use mathlib.Core.Bool.{Bool, true, false, ◌&&◌}
use mathlib.Core.List.{List, [], ◌∷◌, ◌++◌, map}
use Rattle.lists.specs.Lists.{every}
use Rattle.text.specs.Tree.{Name, Operator, plus, minus, equals, less_than, Expr, Exprs, number, truth, variable, assignment, operation, method_call, measurement, reception, new_qubit, new_channel, new_end, no_more, also, Program, number_of}
use Rattle.text.specs.Translation.{Instruction, instruction, PUT, CALL, RECV, operator_op, Scope, slot_of, expr_code, exprs_code}
use Rattle.text.specs.Limits.{expr_numbers, exprs_numbers, is_number}
use Rattle.text_numbering.specs.CodeBy.{code_by, arguments_by, place_of, number_fits, resolved, Calls, ArgumentsCall}

module _ (ms : Program) (sc : Scope) where
  mutual
    unfolding expr_code code_by

    pub code-numbered : (e : Expr) → expr_code ms sc e ≡ code_by (number_of ms) sc e
    code-numbered (number n) = refl
    code-numbered (truth b) = refl
    code-numbered (variable x) = refl
    code-numbered (assignment x e) = ap (λ c. c ++ (PUT (slot_of sc x) ∷ [])) (code-numbered e)
    code-numbered (operation o a b) =
        ap (λ c. c ++ (expr_code ms sc b ++ (instruction (operator_op o) 0 ∷ []))) (code-numbered a)
        ∙ ap (λ c. code_by (number_of ms) sc a ++ (c ++ (instruction (operator_op o) 0 ∷ []))) (code-numbered b)
    code-numbered (method_call m es) = ap (λ c. c ++ (CALL (number_of ms m) ∷ [])) (arguments-numbered es)
    code-numbered (measurement q) = refl
    code-numbered (reception e) = ap (λ c. c ++ (RECV ∷ [])) (code-numbered e)
    code-numbered new_qubit = refl
    code-numbered (new_channel t) = refl
    code-numbered (new_end t) = refl

    pub arguments-numbered : (es : Exprs) → exprs_code ms sc es ≡ arguments_by (number_of ms) sc es
    arguments-numbered no_more = refl
    arguments-numbered (also e es) =
        ap (λ c. c ++ exprs_code ms sc es) (code-numbered e)
        ∙ ap (λ c. code_by (number_of ms) sc e ++ c) (arguments-numbered es)

and-true : (b : Bool) → (b && true) ≡ b
and-true true = refl
and-true false = refl

and_assoc : (a b c : Bool) → ((a && b) && c) ≡ (a && (b && c))
and_assoc true b c = refl
and_assoc false b c = refl

-- a test of all elements of two lists
pub every_append : {A : Type 0} (f : A → Bool) (xs ys : List A) → every f (xs ++ ys) ≡ (every f xs && every f ys)
every_append f [] ys = refl
every_append f (x ∷ xs) ys =
    ap (λ (b : Bool). f x && b) (every_append f xs ys) ∙ sym (and_assoc (f x) (every f xs) (every f ys))

every_one : {A : Type 0} (f : A → Bool) (xs : List A) (x : A) → f x ≡ true → every f (xs ++ (x ∷ [])) ≡ every f xs
every_one f xs x e = every_append f xs (x ∷ []) ∙ rw e (and-true (every f xs))

operator-fits : (o : Operator) → number_fits (instruction (operator_op o) 0) ≡ true
unfolding number_fits operator_op
operator-fits plus = refl
operator-fits minus = refl
operator-fits equals = refl
operator-fits less_than = refl

module _ (num : Name → ℕ) (sc : Scope) where
  mutual
    unfolding expr_numbers code_by number_fits

    -- "a number above 32,767" is one in the code
    pub numbers_fit : (e : Expr) → every is_number (expr_numbers e) ≡ every number_fits (code_by num sc e)
    numbers_fit (number n) = refl
    numbers_fit (truth b) = refl
    numbers_fit (variable x) = refl
    numbers_fit (assignment x e) =
        numbers_fit e ∙ sym (every_one number_fits (code_by num sc e) (PUT (slot_of sc x)) refl)
    numbers_fit (operation o a b) =
        every_append is_number (expr_numbers a) (expr_numbers b)
        ∙ ap (λ t. t && every is_number (expr_numbers b)) (numbers_fit a)
        ∙ ap (λ t. every number_fits (code_by num sc a) && t)
        (numbers_fit b ∙ sym (every_one number_fits (code_by num sc b) (instruction (operator_op o) 0) (operator-fits o)))
        ∙ sym (every_append number_fits (code_by num sc a) (code_by num sc b ++ (instruction (operator_op o) 0 ∷ [])))
    numbers_fit (method_call m es) =
        arguments-fit es ∙ sym (every_one number_fits (arguments_by num sc es) (CALL (num m)) refl)
    numbers_fit (measurement q) = refl
    numbers_fit (reception e) = numbers_fit e ∙ sym (every_one number_fits (code_by num sc e) RECV refl)
    numbers_fit new_qubit = refl
    numbers_fit (new_channel t) = refl
    numbers_fit (new_end t) = refl

    pub arguments-fit : (es : Exprs) → every is_number (exprs_numbers es) ≡ every number_fits (arguments_by num sc es)
    arguments-fit no_more = refl
    arguments-fit (also e es) =
        every_append is_number (expr_numbers e) (exprs_numbers es)
        ∙ ap (λ t. t && every is_number (exprs_numbers es)) (numbers_fit e)
        ∙ ap (λ t. every number_fits (code_by num sc e) && t) (arguments-fit es)
        ∙ sym (every_append number_fits (code_by num sc e) (arguments_by num sc es))

-- Numbers put in for places

map-one : (f : Instruction → Instruction) (xs : List Instruction) (x : Instruction)
    → map f (xs ++ (x ∷ [])) ≡ map f xs ++ (f x ∷ [])
map-one f [] x = refl
map-one f (y ∷ ys) x = ap (λ zs. f y ∷ zs) (map-one f ys x)

map_both : (f : Instruction → Instruction) (xs ys : List Instruction) → map f (xs ++ ys) ≡ map f xs ++ map f ys
map_both f [] ys = refl
map_both f (x ∷ xs) ys = ap (λ zs. f x ∷ zs) (map_both f xs ys)

operator-resolved : (f : ℕ → ℕ) (o : Operator)
    → resolved f (instruction (operator_op o) 0) ≡ instruction (operator_op o) 0
unfolding resolved operator_op
operator-resolved f plus = refl
operator-resolved f minus = refl
operator-resolved f equals = refl
operator-resolved f less_than = refl

module _ (ms : Program) (sc : Scope) (f : ℕ → ℕ) where
  -- the function says the number of the method by the place of its name
  abbrev pub Numbers : Name → Type 0
  Numbers x = f x.at ≡ number_of ms x

  mutual
    unfolding code_by expr_code resolved Calls

    -- crate text's code, where every method that is called has its number
    pub code-resolved : (e : Expr) → Calls Numbers e → map (resolved f) (code_by place_of sc e) ≡ expr_code ms sc e
    code-resolved (number n) c = refl
    code-resolved (truth b) c = refl
    code-resolved (variable x) c = refl
    code-resolved (assignment x e) c =
        map-one (resolved f) (code_by place_of sc e) (PUT (slot_of sc x))
        ∙ ap (λ d. d ++ (PUT (slot_of sc x) ∷ [])) (code-resolved e c)
    code-resolved (operation o a b) (c, d) =
        let op : Instruction = instruction (operator_op o) 0 in
        map_both (resolved f) (code_by place_of sc a) (code_by place_of sc b ++ (op ∷ []))
        ∙ ap (λ x. x ++ map (resolved f) (code_by place_of sc b ++ (op ∷ []))) (code-resolved a c)
        ∙ ap (λ x. expr_code ms sc a ++ x)
        (map-one (resolved f) (code_by place_of sc b) op
        ∙ ap (λ x. x ++ (resolved f op ∷ [])) (code-resolved b d)
        ∙ ap (λ x. expr_code ms sc b ++ (x ∷ [])) (operator-resolved f o))
    code-resolved (method_call m es) (c, d) =
        map-one (resolved f) (arguments_by place_of sc es) (CALL m.at)
        ∙ ap (λ x. x ++ (CALL (f m.at) ∷ [])) (arguments-resolved es d)
        ∙ ap (λ (i : ℕ). exprs_code ms sc es ++ (CALL i ∷ [])) c
    code-resolved (measurement q) c = refl
    code-resolved (reception e) c =
        map-one (resolved f) (code_by place_of sc e) RECV ∙ ap (λ d. d ++ (RECV ∷ [])) (code-resolved e c)
    code-resolved new_qubit c = refl
    code-resolved (new_channel t) c = refl
    code-resolved (new_end t) c = refl

    pub arguments-resolved : (es : Exprs) → ArgumentsCall Numbers es
        → map (resolved f) (arguments_by place_of sc es) ≡ exprs_code ms sc es
    arguments-resolved no_more c = refl
    arguments-resolved (also e es) (c, d) =
        map_both (resolved f) (code_by place_of sc e) (arguments_by place_of sc es)
        ∙ ap (λ x. x ++ map (resolved f) (arguments_by place_of sc es)) (code-resolved e c)
        ∙ ap (λ x. expr_code ms sc e ++ x) (arguments-resolved es d)
