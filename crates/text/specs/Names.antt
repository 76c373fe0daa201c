-- Refusal 31: "when a name is undeclared, declared twice in one block (parameters stand in the body's) or twice as a
-- method, or called with a wrong argument count", "at its lowest byte index", "a missing main is 31 at the text's end".
--
-- Each definition lists the places at fault; a text has no such fault where the list is empty, and else the lowest of
-- them is given. Methods and variables are two name spaces.
use Rattle.std.specs.Prelude.{ℕ, Bool, false, cond, not, List, [], ◌∷◌, ◌++◌, map, length, eqb, leb, ltb}
use Rattle.std.proofs.Math.Option.{Option, none, some}
use Rattle.lists.specs.Lists.{any}
use Rattle.table.specs.Ops.{gate_qubits}
use Rattle.text.specs.Tree.{Name, spells, Expr, Exprs, number, truth, variable, assignment, operation, method_call, measurement, reception, new_qubit, new_channel, new_end, no_more, also, Statement, Statements, skip, assign, invoke, measure, receive, fork, send, give, block, conditional, alternative, loop, done, next, Method, Program, Declared, declared_by, body_variables, count, is_main, main_first, method_of, gate_of}

-- the place of a name, unless all is well with it
abbrev pub unless : Bool → Name → List ℕ
unless ok x = cond ok [] (x.at ∷ [])

abbrev pub declared_name : Declared → Name
declared_name d = d.name

-- the scope is the names of the variables declared so far whose blocks are open
abbrev pub declared_among : List Name → Name → Bool
declared_among scope x = any (spells x) scope

-- "the use of an undeclared name"
unfoldable pub use_fault : List Name → Name → List ℕ
use_fault scope x = unless (declared_among scope x) x

-- "the called name, for an undeclared method or a wrong count"
abbrev pub is_call : ℕ → Option Method → Bool
is_call n none = false
is_call n (some m) = eqb n (length m.parameters)

unfoldable pub call_fault : Program → Name → ℕ → List ℕ
call_fault ms x n = unless (is_call n (method_of ms x)) x

-- "(a gate's too)": a name that no method has is a gate's, with as many arguments as it takes qubits
abbrev pub is_invocation : Name → ℕ → Option Method → Bool
is_invocation x n none = cond (ltb 0 (gate_of x)) (eqb n (gate_qubits (gate_of x))) false
is_invocation x n (some m) = eqb n (length m.parameters)

unfoldable pub invoke_fault : Program → Name → ℕ → List ℕ
invoke_fault ms x n = unless (is_invocation x n (method_of ms x)) x

unfoldable mutual
  pub expr_faults : Program → List Name → Expr → List ℕ
  expr_faults ms scope (number n) = []
  expr_faults ms scope (truth b) = []
  expr_faults ms scope (variable x) = use_fault scope x
  expr_faults ms scope (assignment x e) = use_fault scope x ++ expr_faults ms scope e
  expr_faults ms scope (operation o a b) = expr_faults ms scope a ++ expr_faults ms scope b
  expr_faults ms scope (method_call m es) = call_fault ms m (count es) ++ exprs_faults ms scope es
  expr_faults ms scope (measurement q) = use_fault scope q
  expr_faults ms scope (reception e) = expr_faults ms scope e
  expr_faults ms scope new_qubit = []
  expr_faults ms scope (new_channel t) = []
  expr_faults ms scope (new_end t) = []

  pub exprs_faults : Program → List Name → Exprs → List ℕ
  exprs_faults ms scope no_more = []
  exprs_faults ms scope (also e es) = expr_faults ms scope e ++ exprs_faults ms scope es

-- "the later of two declarations" in one block: xs are those of the block before
unfoldable pub twice_faults : List Name → List Name → List ℕ
twice_faults xs [] = []
twice_faults xs (y ∷ ys) = unless (not (declared_among xs y)) y ++ twice_faults (y ∷ xs) ys

-- the scope with these names declared, the last one innermost
unfoldable pub extended : List Name → List Name → List Name
extended [] scope = scope
extended (x ∷ xs) scope = extended xs (x ∷ scope)

abbrev pub names_of : List Declared → List Name
names_of ds = map declared_name ds

unfoldable mutual
  pub statement_faults : Program → List Name → Statement → List ℕ
  statement_faults ms scope skip = []
  statement_faults ms scope (assign x e) = use_fault scope x ++ expr_faults ms scope e
  statement_faults ms scope (invoke x es) = invoke_fault ms x (count es) ++ exprs_faults ms scope es
  statement_faults ms scope (measure q) = use_fault scope q
  statement_faults ms scope (receive e) = expr_faults ms scope e
  statement_faults ms scope (fork m es) = call_fault ms m (count es) ++ exprs_faults ms scope es
  statement_faults ms scope (send e v) = expr_faults ms scope e ++ expr_faults ms scope v
  statement_faults ms scope (give e) = expr_faults ms scope e
  statement_faults ms scope (block ds ss) =
      twice_faults [] (names_of (declared_by ds)) ++ statements_faults ms (extended (names_of (declared_by ds)) scope) ss
  statement_faults ms scope (conditional e s) = expr_faults ms scope e ++ statement_faults ms scope s
  statement_faults ms scope (alternative e s t) =
      expr_faults ms scope e ++ (statement_faults ms scope s ++ statement_faults ms scope t)
  statement_faults ms scope (loop e s) = expr_faults ms scope e ++ statement_faults ms scope s

  pub statements_faults : Program → List Name → Statements → List ℕ
  statements_faults ms scope done = []
  statements_faults ms scope (next s ss) = statement_faults ms scope s ++ statements_faults ms scope ss

unfoldable pub method_faults : Program → Method → List ℕ
method_faults ms m =
    twice_faults [] (names_of (body_variables m))
    ++ statements_faults ms (extended (names_of (body_variables m)) []) m.statements

unfoldable pub methods_faults : Program → Program → List ℕ
methods_faults ms [] = []
methods_faults ms (m ∷ rest) = method_faults ms m ++ methods_faults ms rest

abbrev pub method_names : Program → List Name
method_names ms = map (λ (m : Method). m.name) ms

-- "a missing main is 31 at the text's end"
unfoldable pub main_fault : ℕ → Program → List ℕ
main_fault end ms = cond (any is_main ms) [] (end ∷ [])

-- The places of all faults of names in a text of so many bytes. Methods are looked up in the table's order, main first;
-- methods of one name keep their order in it.
unfoldable pub name_faults : ℕ → Program → List ℕ
name_faults end ms = methods_faults (main_first ms) ms ++ (twice_faults [] (method_names ms) ++ main_fault end ms)

-- the lowest of some places
unfoldable pub lower : ℕ → Option ℕ → ℕ
lower i none = i
lower i (some j) = cond (leb i j) i j

unfoldable pub lowest : List ℕ → Option ℕ
lowest [] = none
lowest (i ∷ is) = some (lower i (lowest is))

-- where 31 is said, if it is
unfoldable pub name_refusal : ℕ → Program → Option ℕ
name_refusal end ms = lowest (name_faults end ms)
