-- A method starts alike in both machines: its code follows its statements, and its slots show its variables.
use Prim.Native.Nat.{ℕ, suc, ◌+◌, ◌≤◌, ◌<◌}
use native.Mathlib.Omega.{arith}
use mathlib.Core.Bool.{true, false, not}
use mathlib.Core.Logic.{◌⊎◌, inl, inr}
use mathlib.Core.Path.{◌≡◌, refl, sym, ap, ◌∙◌, subst}
use mathlib.Core.List.{List, [], ◌∷◌, ◌++◌, map, append_assoc}
use mathlib.Core.Option.{Option, some}
use lib.ListN.{get_or, take, length, replicate, length-append, length-map, length-replicate, get_or-eq_default}
use lib.Seq.{length-take-le, get_or-take}
use lib.Dec.{T, ltb, ltb→lt, nltb→le}
use Rattle.lists.proofs.Tests.{decide, passes}
use Rattle.lists.proofs.Laws.{append-nil-right}
use Rattle.table.specs.Table.{offset_of}
use Rattle.machine.specs.Value.{Value, empty}
use Rattle.machine.specs.State.{started}
use Rattle.text.specs.Tree.{Name, Parameter, Method, Program, Declared, parameter_of, declared_by, body_variables, method_at}
use Rattle.text.specs.Meaning.{Variable, method_done, move, all_performed, fresh, entered, body_of, started_in}
use Rattle.text.specs.Translation.{Instruction, Scope, placed, opened, all_within, variables_of, hole_of, closing, body_code, method_code, hole_type, slot_codes, code_of_type, program_table}
use Rattle.text.specs.Names.{extended, names_of, twice_faults, statements_faults, method_faults}
use Rattle.text.proofs.Elements.{nth, nth-back, get_d-filled}
use Rattle.text.proofs.Order.{all-method}
use Rattle.text.proofs.Limited.{Limited, Keeps, limited-keeps}
use Rattle.text.proofs.Fits.{FitsAll}
use Rattle.text.proofs.Follows.{CodeThen, Follows}
use Rattle.text.proofs.Places.{then_append}
use Rattle.text.proofs.Scopes.{Below, below_more, EndsKept, none-placed, one_placed, opened-names, opened-below, opened-append, opened-ends}
use Rattle.text.proofs.Stands.{stands-all}
use Rattle.text.proofs.Variables.{Shown, none-shown, one-shown, Slots}
use Rattle.text.proofs.Like.{Stand, Like, like}

-- a method's code stands in itself
own_code : (ms : Program) (m : Method) (front back : List Instruction) → front ++ back ≡ method_code ms m
    → CodeThen ms m back (λ (j : ℕ). Unit {0}) (length front)
unfolding nth
own_code ms m front [] e = tt
own_code ms m front (x ∷ back) e =
    let first : nth (front ++ (x ∷ back)) (length front + 0) ≡ some x = nth-back front (x ∷ back) 0 in
    let same : length front + 0 ≡ length front = omega arith in
    let grown : length (front ++ (x ∷ [])) ≡ suc (length front) = length-append front (x ∷ []) ∙ (omega arith) in (
      ap (λ (is : List Instruction). nth is (length front)) (sym e)
          ∙ ap (λ (i : ℕ). nth (front ++ (x ∷ back)) i) (sym same) ∙ first,
      subst (CodeThen ms m back (λ (j : ℕ). Unit {0})) grown
          (own_code ms m (front ++ (x ∷ [])) back (append_assoc front (x ∷ []) back ∙ e)),
    )

-- parameters are declared without ends, and keep the ends after their channels
opened-parameters : (ps : List Parameter) (i : ℕ) (sc : Scope) → EndsKept sc
    → EndsKept (opened (map parameter_of ps) i sc)
unfolding opened
opened-parameters [] i sc h = h
opened-parameters (p ∷ ps) i sc h = opened-parameters ps (suc i) (placed (parameter_of p) i ∷ sc) (one_placed h)

-- so do the variables of a body
body-ends : (m : Method) → EndsKept (opened (body_variables m) 0 [])
unfolding body_variables
body-ends m =
    let ps : List Declared = map parameter_of m.parameters in
    subst EndsKept (sym (opened-append ps (declared_by m.declarations) 0 []))
    (opened-ends m.declarations (0 + length ps) (opened ps 0 [])
    (opened-parameters m.parameters 0 [] none-placed))

-- What is known once the variables before slot i are shown: the slots from i on hold the arguments that are left, and
-- then nothing.
pub record Entering (hole : ℕ) (slots : List Value) (ds : List Declared) (args : List Value) (i : ℕ) (sc : Scope)
    (ws : List Variable) : Type 0 where
  pub shown : Shown hole slots sc ws
  pub below : Below i sc
  pub room : i + length ds ≤ hole
  pub values : (j : ℕ) → j < length ds → get_or slots (i + j) empty ≡ get_or args j empty

-- one variable more, of value v
entered-one : (hole : ℕ) (slots : List Value) (d : Declared) (ds : List Declared) (args vs : List Value) (v : Value)
    (i : ℕ) (sc : Scope) (ws : List Variable) → Entering hole slots (d ∷ ds) args i sc ws → get_or args 0 empty ≡ v
    → ((j : ℕ) → get_or args (suc j) empty ≡ get_or vs j empty)
    → Entering hole slots ds vs (suc i) (placed d i ∷ sc) (fresh d v ∷ ws)
entered-one hole slots d ds args vs v i sc ws h first others =
    let room : i + suc (length ds) ≤ hole = h.room in
    let zeroth : i ≡ i + 0 = omega arith in
    record {
      shown =
          one-shown refl refl (ap (λ (j : ℕ). get_or slots j empty) zeroth ∙ h.values 0 (omega arith) ∙ first)
          (omega arith) h.below h.shown;
      below = (omega arith, below_more i (suc i) sc (omega arith) h.below);
      room = omega arith;
      values =
          λ j l. let moved : suc i + j ≡ i + suc j = omega arith in
          ap (λ (k : ℕ). get_or slots k empty) moved ∙ h.values (suc j) (omega arith) ∙ others j;
    }

-- all of them
shown-entered : (hole : ℕ) (slots : List Value) (ds : List Declared) (args : List Value) (i : ℕ) (sc : Scope)
    (ws : List Variable) → Entering hole slots ds args i sc ws
    → Shown hole slots (opened ds i sc) (entered ds args ws)
unfolding opened entered
shown-entered hole slots [] args i sc ws h = h.shown
shown-entered hole slots (d ∷ ds) [] i sc ws h =
    shown-entered hole slots ds [] (suc i) (placed d i ∷ sc) (fresh d empty ∷ ws)
    (entered-one hole slots d ds [] [] empty i sc ws h refl (λ j. refl))
shown-entered hole slots (d ∷ ds) (v ∷ vs) i sc ws h =
    shown-entered hole slots ds vs (suc i) (placed d i ∷ sc) (fresh d v ∷ ws)
    (entered-one hole slots d ds (v ∷ vs) vs v i sc ws h refl (λ j. refl))

-- how many slots a method uses
hole-limit : (m : Method) → length (slot_codes m) ≤ 16 → hole_of m ≤ 16
unfolding slot_codes hole_of
hole-limit m few =
    let all : length (map code_of_type (variables_of m) ++ hole_type m.returns)
    ≡ length (map code_of_type (variables_of m)) + length (hole_type m.returns) =
    length-append (map code_of_type (variables_of m)) (hole_type m.returns) in
    let own : length (map code_of_type (variables_of m)) ≡ length (variables_of m) =
    length-map (variables_of m) code_of_type in
    omega arith

-- the variables of a method, those of its body and those within
hole-counts : (m : Method) → length (body_variables m) + length (all_within m.statements) ≡ hole_of m
unfolding hole_of variables_of
hole-counts m = sym (length-append (body_variables m) (all_within m.statements))

-- its parameters are among those of its body
parameter-counts : (m : Method) → length m.parameters ≤ length (body_variables m)
unfolding body_variables
parameter-counts m =
    let all : length (map parameter_of m.parameters ++ declared_by m.declarations)
    ≡ length (map parameter_of m.parameters) + length (declared_by m.declarations) =
    length-append (map parameter_of m.parameters) (declared_by m.declarations) in
    let own : length (map parameter_of m.parameters) ≡ length m.parameters =
    length-map m.parameters parameter_of in
    omega arith

-- the slots of a started frame: the arguments, and then nothing
started-at : (args : List Value) (i : ℕ) → i < 16
    → get_or (take 16 (args ++ replicate 16 empty)) i empty ≡ get_or args i empty
started-at args i l = get_or-take 16 (args ++ replicate 16 empty) i empty l ∙ get_d-filled args 16 i empty

-- there are sixteen
started-width : (args : List Value) → length (take 16 (args ++ replicate 16 empty)) ≡ 16
started-width args =
    let all : length (args ++ replicate 16 empty) ≡ length args + length (replicate 16 empty) =
    length-append args (replicate 16 empty) in
    let filled : length (replicate 16 empty) ≡ 16 = length-replicate 16 empty in
    length-take-le 16 (args ++ replicate 16 empty) (omega arith)

-- those after the arguments are empty
started-empty : (args : List Value) (i : ℕ) → length args ≤ i
    → get_or (take 16 (args ++ replicate 16 empty)) i empty ≡ empty
started-empty args i more = by (decide (ltb i 16))
  where
    by : (ltb i 16 ≡ true) ⊎ (ltb i 16 ≡ false) → get_or (take 16 (args ++ replicate 16 empty)) i empty ≡ empty
    by (inl e) = started-at args i (ltb→lt i 16 (passes e)) ∙ get_or-eq_default args empty more
    by (inr e) =
        let far : 16 ≤ i = nltb→le i 16 (subst (λ b. T (not b)) (sym e) tt) in
        let width : length (take 16 (args ++ replicate 16 empty)) ≡ 16 = started-width args in
        get_or-eq_default (take 16 (args ++ replicate 16 empty)) empty (omega arith)

module _ (ms : Program) (limited : Limited ms) (n : ℕ) (m : Method) (is : method_at ms n ≡ some m) where
  keeps : Keeps ms n m
  keeps = limited-keeps ms limited n m is

  -- 31 and 32 leave of the body what its code needs
  body-fits : FitsAll ms m (opened (body_variables m) 0 []) (length (body_variables m)) m.statements
  unfolding method_faults
  body-fits =
      let counts : length (body_variables m) + length (all_within m.statements) ≡ hole_of m = hole-counts m in
      let known : method_faults ms m ≡ [] = all-method (λ d. method_faults ms d ≡ []) ms limited.known n m is in
      record {
        faultless = record {
          names =
              ap (λ (xs : List Name). statements_faults ms xs m.statements) (opened-names (body_variables m) 0 [])
              ∙ append-nil-right (twice_faults [] (names_of (body_variables m)))
              (statements_faults ms (extended (names_of (body_variables m)) []) m.statements) known;
          limits = keeps.numbers;
        };
        scope = record {
          room = omega arith;
          below =
              below_more (0 + length (body_variables m)) (length (body_variables m)) (opened (body_variables m) 0 [])
              (omega arith) (opened-below (body_variables m) 0 [] tt);
          ends = body-ends m;
        };
      }

  -- the code follows the body's statements
  pub body-follows : Follows ms m (all_performed ms m.statements (move method_done ∷ []))
      (opened (body_variables m) 0 []) 0
  unfolding method_code body_code
  body-follows =
      stands-all ms m m.statements (move method_done ∷ []) (opened (body_variables m) 0 [])
      (length (body_variables m)) 0 body-fits
      (then_append ms m (body_code ms m) (closing m.returns (hole_of m)) (λ (j : ℕ). Unit {0}) 0
      (own_code ms m [] (method_code ms m) refl))

  -- the slots show the body's variables
  body-slots : (args : List Value) → length args ≡ length m.parameters
      → Slots (hole_of m) (take 16 (args ++ replicate 16 empty)) (opened (body_variables m) 0 [])
      (entered (body_variables m) args [])
  body-slots args count =
      let slots : List Value = take 16 (args ++ replicate 16 empty) in
      let limit : hole_of m ≤ 16 = hole-limit m keeps.slots in
      let counts : length (body_variables m) + length (all_within m.statements) ≡ hole_of m = hole-counts m in
      let parameters : length m.parameters ≤ length (body_variables m) = parameter-counts m in
      record {
        width = started-width args;
        limit = limit;
        hole-empty = started-empty args (hole_of m) (omega arith);
        shown =
            shown-entered (hole_of m) slots (body_variables m) args 0 [] []
            (record {
              shown = none-shown;
              below = tt;
              room = omega arith;
              values =
                  λ j l. let same : 0 + j ≡ j = omega arith in
                  ap (λ (i : ℕ). get_or slots i empty) same ∙ started-at args j (omega arith);
            });
      }

  -- The frames in which a method starts are alike.
  pub started-like : (args : List Value) → length args ≡ length m.parameters
      → Like ms (started (program_table ms) n args) (started_in ms n args)
  unfolding started started_in body_of
  started-like args count =
      subst (λ (d : Option Method). Like ms (started (program_table ms) n args) (body_of ms args d)) (sym is)
      (like body (all_performed ms m.statements (move method_done ∷ [])) body-follows)
    where
      body : Stand ms
      body = record {
        number = n;
        method = m;
        is-method = is;
        at = 0;
        place = offset_of (program_table ms) n;
        here = omega arith;
        scope = opened (body_variables m) 0 [];
        slots = take 16 (args ++ replicate 16 empty);
        variables = entered (body_variables m) args [];
        shown = body-slots args count;
        values = [];
      }
