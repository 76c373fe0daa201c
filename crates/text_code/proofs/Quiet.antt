-- "a number above 32,767": the numbers of a statement are those of its code.
use Prim.Native.Nat.{ℕ, suc, ◌+◌}
use mathlib.Core.Path.{◌≡◌, refl, sym, ap, ◌∙◌}
use mathlib.Core.Bool.{Bool, true, false, ◌&&◌}
use mathlib.Core.List.{List, [], ◌∷◌, ◌++◌}
use mathlib.Core.Option.{Option, none, some}
use lib.ListN.{length}
use Rattle.lists.specs.Lists.{every}
use Rattle.text.specs.Tree.{Name, NonVoidType, Statement, Statements, skip, assign, invoke, measure, receive, fork, send, give, block, conditional, alternative, loop, done, next, Method, Program, Declared, declared_by, method_of}
use Rattle.text.specs.Translation.{Instruction, DROP, JUMP, JFALSE, RET, FORK, SEND, RECV, Scope, slot_of, ends_in, opened, within, assign_code, drop_code, clear_code, if_code, else_code, while_code, closing}
use Rattle.text.specs.Limits.{expr_numbers, exprs_numbers, numbers_in, all_numbers_in, is_number}
use Rattle.text_numbering.specs.CodeBy.{code_by, arguments_by, number_fits}
use Rattle.text_numbering.proofs.CodeLaws.{every_append, numbers_fit, arguments-fit}
use Rattle.text_code.specs.StatementBy.{invoke_by, statement_by, statements_by}

and-true : (b : Bool) → (b && true) ≡ b
and-true true = refl
and-true false = refl

-- no number is in it
abbrev pub Quiet : List Instruction → Type 0
Quiet c = every number_fits c ≡ true

pub quiet-after : (c d : List Instruction) → Quiet d → every number_fits (c ++ d) ≡ every number_fits c
quiet-after c d q = every_append number_fits c d ∙ rw q (and-true (every number_fits c))

pub quiet-before : (c d : List Instruction) → Quiet c → every number_fits (c ++ d) ≡ every number_fits d
quiet-before c d q = every_append number_fits c d ∙ rw q refl

pub both-fit : (c d : List Instruction) → every number_fits (c ++ d) ≡ (every number_fits c && every number_fits d)
both-fit c d = every_append number_fits c d

assign-quiet : (b : Bool) (i : ℕ) → Quiet (assign_code b i)
unfolding assign_code number_fits
assign-quiet true i = refl
assign-quiet false i = refl

drop-quiet : (t : Option NonVoidType) → Quiet (drop_code t)
unfolding drop_code number_fits
drop-quiet none = refl
drop-quiet (some t) = refl

invoke-quiet : (num : Name → ℕ) (x : Name) (o : Option Method) → Quiet (invoke_by num x o)
unfolding invoke_by number_fits
invoke-quiet num x none = refl
invoke-quiet num x (some m) = drop-quiet m.returns

pub clear-quiet : (ds : List Declared) (i : ℕ) → Quiet (clear_code ds i)
unfolding clear_code number_fits
clear-quiet [] i = refl
clear-quiet (d ∷ ds) i = clear-quiet ds (suc i)

pub closing-quiet : (t : Option NonVoidType) (hole : ℕ) → Quiet (closing t hole)
unfolding closing number_fits
closing-quiet none hole = refl
closing-quiet (some t) hole = refl

if-fits : (at : ℕ) (c s : List Instruction)
    → every number_fits (if_code at c s) ≡ (every number_fits c && every number_fits s)
unfolding if_code number_fits
if-fits at c s = both-fit c (JFALSE (at + length c + 1 + length s) ∷ s)

while-fits : (at : ℕ) (c s : List Instruction)
    → every number_fits (while_code at c s) ≡ (every number_fits c && every number_fits s)
unfolding while_code number_fits
while-fits at c s =
    both-fit c (JFALSE (at + length c + 1 + length s + 1) ∷ s ++ (JUMP at ∷ []))
    ∙ ap (λ (b : Bool). every number_fits c && b) (quiet-after s (JUMP at ∷ []) refl)

else-fits : (at : ℕ) (c s t : List Instruction)
    → every number_fits (else_code at c s t)
    ≡ (every number_fits c && (every number_fits s && every number_fits t))
unfolding else_code number_fits
else-fits at c s t =
    both-fit c (JFALSE (at + length c + 1 + length s + 1)
    ∷ s ++ (JUMP (at + length c + 1 + length s + 1 + length t) ∷ t))
    ∙ ap (λ (b : Bool). every number_fits c && b)
    (both-fit s (JUMP (at + length c + 1 + length s + 1 + length t) ∷ t))

module _ (num : Name → ℕ) (ms : Program) where
  mutual
    unfolding numbers_in statement_by number_fits

    pub statement-fits : (sc : Scope) (i at : ℕ) (s : Statement)
        → every is_number (numbers_in s) ≡ every number_fits (statement_by num ms sc i at s)
    statement-fits sc i at skip = refl
    statement-fits sc i at (assign x e) =
        numbers_fit num sc e
        ∙ sym (quiet-after (code_by num sc e) (assign_code (ends_in sc x) (slot_of sc x))
        (assign-quiet (ends_in sc x) (slot_of sc x)))
    statement-fits sc i at (invoke x es) =
        arguments-fit num sc es
        ∙ sym (quiet-after (arguments_by num sc es) (invoke_by num x (method_of ms x))
        (invoke-quiet num x (method_of ms x)))
    statement-fits sc i at (measure q) = refl
    statement-fits sc i at (receive e) =
        numbers_fit num sc e ∙ sym (quiet-after (code_by num sc e) (RECV ∷ DROP ∷ []) refl)
    statement-fits sc i at (fork m es) =
        arguments-fit num sc es ∙ sym (quiet-after (arguments_by num sc es) (FORK (num m) ∷ []) refl)
    statement-fits sc i at (send e v) =
        every_append is_number (expr_numbers e) (expr_numbers v)
        ∙ ap (λ (b : Bool). b && every is_number (expr_numbers v)) (numbers_fit num sc e)
        ∙ ap (λ (b : Bool). every number_fits (code_by num sc e) && b)
        (numbers_fit num sc v ∙ sym (quiet-after (code_by num sc v) (SEND ∷ []) refl))
        ∙ sym (both-fit (code_by num sc e) (code_by num sc v ++ (SEND ∷ [])))
    statement-fits sc i at (give e) =
        numbers_fit num sc e ∙ sym (quiet-after (code_by num sc e) (RET ∷ []) refl)
    statement-fits sc i at (block ds ss) =
        statements-fit (opened (declared_by ds) i sc) (i + length (declared_by ds)) (at + length (declared_by ds)) ss
        ∙ sym (quiet-before (clear_code (declared_by ds) i)
        (statements_by num ms (opened (declared_by ds) i sc) (i + length (declared_by ds)) (at + length (declared_by ds))
        ss)
        (clear-quiet (declared_by ds) i))
    statement-fits sc i at (conditional e s) =
        let c = code_by num sc e in
        every_append is_number (expr_numbers e) (numbers_in s)
        ∙ ap (λ (b : Bool). b && every is_number (numbers_in s)) (numbers_fit num sc e)
        ∙ ap (λ (b : Bool). every number_fits c && b) (statement-fits sc i (at + length c + 1) s)
        ∙ sym (if-fits at c (statement_by num ms sc i (at + length c + 1) s))
    statement-fits sc i at (alternative e s t) =
        let c = code_by num sc e in
        let one = statement_by num ms sc i (at + length c + 1) s in
        let two = statement_by num ms sc (i + length (within s)) (at + length c + 1 + length one + 1) t in
        every_append is_number (expr_numbers e) (numbers_in s ++ numbers_in t)
        ∙ ap (λ (b : Bool). b && every is_number (numbers_in s ++ numbers_in t)) (numbers_fit num sc e)
        ∙ ap (λ (b : Bool). every number_fits c && b)
        (every_append is_number (numbers_in s) (numbers_in t)
        ∙ ap (λ (b : Bool). b && every is_number (numbers_in t)) (statement-fits sc i (at + length c + 1) s)
        ∙ ap (λ (b : Bool). every number_fits one && b)
        (statement-fits sc (i + length (within s)) (at + length c + 1 + length one + 1) t))
        ∙ sym (else-fits at c one two)
    statement-fits sc i at (loop e s) =
        let c = code_by num sc e in
        every_append is_number (expr_numbers e) (numbers_in s)
        ∙ ap (λ (b : Bool). b && every is_number (numbers_in s)) (numbers_fit num sc e)
        ∙ ap (λ (b : Bool). every number_fits c && b) (statement-fits sc i (at + length c + 1) s)
        ∙ sym (while-fits at c (statement_by num ms sc i (at + length c + 1) s))

    pub statements-fit : (sc : Scope) (i at : ℕ) (ss : Statements)
        → every is_number (all_numbers_in ss) ≡ every number_fits (statements_by num ms sc i at ss)
    statements-fit sc i at done = refl
    statements-fit sc i at (next s ss) =
        let one = statement_by num ms sc i at s in
        every_append is_number (numbers_in s) (all_numbers_in ss)
        ∙ ap (λ (b : Bool). b && every is_number (all_numbers_in ss)) (statement-fits sc i at s)
        ∙ ap (λ (b : Bool). every number_fits one && b)
        (statements-fit sc (i + length (within s)) (at + length one) ss)
        ∙ sym (both-fit one (statements_by num ms sc (i + length (within s)) (at + length one) ss))
