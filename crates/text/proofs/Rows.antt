-- Question 3 of a text's table: every method's row keeps its rule.
use Prim.Native.Nat.{ℕ, zero, suc, ◌≤◌, ◌<◌}
use native.Mathlib.Omega.{arith}
use mathlib.Core.Path.{◌≡◌, sym, ap, subst, ◌∙◌}
use mathlib.Core.Bool.{Bool, true, false, ◌&&◌, ◌||◌, not}
use mathlib.Core.List.{List, [], ◌∷◌, ◌++◌, map}
use mathlib.Core.Option.{Option, none, some, some-injective}
use lib.ListN.{get_or, length, length-append, length-map}
use lib.Dec.{T, eqb, leb, ltb, le→leb}
use mir.Facts.{yes_and, ltb_yes, yes_eqb, no_eqb}
use Rattle.lists.specs.Lists.{All, all_below}
use Rattle.lists.proofs.Tests.{or_left, or_right}
use Rattle.lists.proofs.Any.{All-append, All-get_d, All-implies}
use Rattle.table.specs.Table.{methods, return_of, params_of, slot_type, is_type}
use Rattle.table.specs.Questions.{slot_kept, row_kept}
use Rattle.text.specs.Tree.{int_type, boolean_type, qbit_type, NonVoidType, plain, channel_type, end_type, Declared, Method, Program, method_at, is_main, body_variables, parameter_of, declared_by}
use Rattle.text.specs.Translation.{carried_code, type_code, return_code, variables_of, code_of_type, hole_type, slot_codes, program_table, all_within}
use Rattle.text.proofs.Words.{methods-of, return-of, params-of, slot-type-of, method-there}
use Rattle.text.proofs.Passing.{all-all_below}
use Rattle.text.proofs.Limited.{Limited, limited-keeps}

-- Codes of types

-- a code that a variable may have: a type, and not 0
abbrev IsCode : ℕ → Type 0
IsCode t = T (is_type t) × T (not (eqb t 0))

-- every variable's type has such a code
type-code : (t : NonVoidType) → IsCode (type_code t)
unfolding is_type type_code carried_code
type-code (plain int_type) = (tt, tt)
type-code (plain boolean_type) = (tt, tt)
type-code (plain qbit_type) = (tt, tt)
type-code (channel_type int_type) = (tt, tt)
type-code (channel_type boolean_type) = (tt, tt)
type-code (channel_type qbit_type) = (tt, tt)
type-code (end_type int_type) = (tt, tt)
type-code (end_type boolean_type) = (tt, tt)
type-code (end_type qbit_type) = (tt, tt)

-- a return type's code is a type
pub return-code : (o : Option NonVoidType) → T (is_type (return_code o))
unfolding is_type return_code
return-code none = tt
return-code (some t) = (type-code t).0

-- the codes of the slots are such codes: those of the variables, and that of the hole
declared-codes : (ds : List Declared) → All IsCode (map code_of_type ds)
declared-codes [] = tt
declared-codes (d ∷ ds) = (type-code d.type, declared-codes ds)

-- that of the slot that is never filled
hole-codes : (o : Option NonVoidType) → All IsCode (hole_type o)
unfolding hole_type
hole-codes none = tt
hole-codes (some t) = (type-code t, tt)

-- those of all slots
slot-codes : (m : Method) → All IsCode (slot_codes m)
unfolding slot_codes
slot-codes m =
    All-append IsCode (map code_of_type (variables_of m)) (hole_type m.returns) (declared-codes (variables_of m))
    (hole-codes m.returns)

-- a method's parameters have its first slots
parameters-within : (m : Method) → length m.parameters ≤ length (slot_codes m)
unfolding slot_codes variables_of body_variables
parameters-within m =
    let parameters = map parameter_of m.parameters in
    let declared = declared_by m.declarations in
    let inner = all_within m.statements in
    omega (
      arith,
      length-append (map code_of_type (parameters ++ declared ++ inner)) (hole_type m.returns),
      length-map (parameters ++ declared ++ inner) code_of_type,
      length-append (parameters ++ declared) inner,
      length-append parameters declared,
      length-map m.parameters parameter_of,
    )

-- what holds of all elements holds of the one at an index within the list
all-at : {A : Type 0} (P : A → Type 0) (xs : List A) (n : ℕ) (d : A) → All P xs → n < length xs → P (get_or xs n d)
all-at P [] n d a h = absurd (omega arith)
all-at P (x ∷ xs) zero d a h = a.0
all-at P (x ∷ xs) (suc n) d a h = all-at P xs n d a.1 (omega arith)

-- the code of each slot is a type: 0 past the slots that are used
pub slot-type : (m : Method) (s : ℕ) → T (is_type (get_or (slot_codes m) s 0))
unfolding is_type
slot-type m s =
    All-get_d (λ t. T (is_type t)) (slot_codes m) s 0 (All-implies _ _ (λ t h. h.0) (slot_codes m) (slot-codes m)) tt

-- a parameter's is not 0
pub parameter-type : (m : Method) (s : ℕ) → s < length m.parameters → T (not (eqb (get_or (slot_codes m) s 0) 0))
parameter-type m s l = (all-at IsCode (slot_codes m) s 0 (slot-codes m) (omega (arith, parameters-within m))).1

-- The row

-- two tests are not both passed where the first rules out the second
not-both : (a b : Bool) → (T a → T (not b)) → T (not (a && b))
not-both true b h = h tt
not-both false b h = tt

-- each slot keeps its rule
slot-kept : (ms : Program) (n : ℕ) (m : Method) → method_at ms n ≡ some m → (s : ℕ) → s < 16
    → T (slot_kept (program_table ms) n s)
unfolding slot_kept
slot-kept ms n m e s l =
    let type = slot-type-of ms n m e s l in
    let params = params-of ms n m e in
    yes_and (is_type (slot_type (program_table ms) n s)) _ (subst (λ t. T (is_type t)) (sym type) (slot-type m s))
    (not-both (ltb s (params_of (program_table ms) n)) (eqb (slot_type (program_table ms) n s) 0)
    (λ t. subst (λ t. T (not (eqb t 0))) (sym type)
    (parameter-type m s (subst (λ k. s < k) params (ltb_yes t)))))

-- method 0 is main, with no parameter and no return type
main-kept : (ms : Program) → Limited ms → (n : ℕ) (m : Method) → method_at ms n ≡ some m
    → T (not (eqb n 0) || (eqb (params_of (program_table ms) n) 0 && eqb (return_of (program_table ms) n) 0))
unfolding return_code
main-kept ms l (suc n) m e = or_left (not (eqb (suc n) 0)) _ (no_eqb {a = suc n} {b = 0} (omega arith))
main-kept ms l zero m e =
    let main = subst (λ m. T (is_main m)) (some-injective l.main m (sym l.first ∙ e)) l.is-main in
    let (parameters, returns) = (limited-keeps ms l 0 m e).header main in
    let params = eqb (params_of (program_table ms) 0) 0 in
    let return = eqb (return_of (program_table ms) 0) 0 in
    or_right (not (eqb 0 0)) (params && return)
    (yes_and params return (yes_eqb (params-of ms 0 m e ∙ parameters))
    (yes_eqb (return-of ms 0 m e ∙ ap return_code returns)))

-- each row keeps its rule
pub row-kept : (ms : Program) → Limited ms → (n : ℕ) → n < methods (program_table ms) → T (row_kept (program_table ms) n)
unfolding row_kept
row-kept ms l n h =
    let p = program_table ms in
    let (m, e) = method-there ms n (omega (arith, methods-of ms)) in
    let few = (limited-keeps ms l n m e).parameters in
    yes_and (is_type (return_of p n)) _ (subst (λ t. T (is_type t)) (sym (return-of ms n m e)) (return-code m.returns))
    (yes_and (leb (params_of p n) 8) _ (le→leb (params_of p n) 8 (omega (arith, params-of ms n m e)))
    (yes_and (all_below (slot_kept p n) 16) _ (all-all_below (slot_kept p n) 16 (slot-kept ms n m e))
    (main-kept ms l n m e)))
