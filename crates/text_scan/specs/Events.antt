-- What the names of a text do, in text order, as its tree has it. In each definition `es` is what comes after.
use Rattle.std.specs.Prelude.{ℕ, List, [], ◌∷◌, length}
use Rattle.text_parse.specs.Tokens.{Token}
use Rattle.text.specs.Tree.{Name, Expr, Exprs, number, truth, variable, assignment, operation, method_call, measurement, reception, new_qubit, new_channel, new_end, no_more, also, Statement, Statements, skip, assign, invoke, measure, receive, fork, send, give, block, conditional, alternative, loop, done, next, Method, Program, Declared, declared_by, body_variables, count}

pub data Event : Type 0 where
  -- a method of so many parameters begins; its parameters stand in the body's block
  method_named : Name → ℕ → Event
  declared : Name → Event
  used : Name → Event
  -- a call in an expression or a fork, and as a statement, with so many arguments
  called : Name → ℕ → Event
  invoked : Name → ℕ → Event
  -- a block that is a statement begins; it ends
  opened : Event
  closed : Event
  -- a method ends before these tokens
  ended : List Token → Event

unfoldable mutual
  pub expr_events : Expr → List Event → List Event
  expr_events (number n) es = es
  expr_events (truth b) es = es
  expr_events (variable x) es = used x ∷ es
  expr_events (assignment x e) es = used x ∷ expr_events e es
  expr_events (operation o a b) es = expr_events a (expr_events b es)
  expr_events (method_call m as') es = called m (count as') ∷ exprs_events as' es
  expr_events (measurement q) es = used q ∷ es
  expr_events (reception e) es = expr_events e es
  expr_events new_qubit es = es
  expr_events (new_channel t) es = es
  expr_events (new_end t) es = es

  pub exprs_events : Exprs → List Event → List Event
  exprs_events no_more es = es
  exprs_events (also e as') es = expr_events e (exprs_events as' es)

unfoldable pub declared_events : List Declared → List Event → List Event
declared_events [] es = es
declared_events (d ∷ ds) es = declared d.name ∷ declared_events ds es

unfoldable mutual
  pub statement_events : Statement → List Event → List Event
  statement_events skip es = es
  statement_events (assign x e) es = used x ∷ expr_events e es
  statement_events (invoke x as') es = invoked x (count as') ∷ exprs_events as' es
  statement_events (measure q) es = used q ∷ es
  statement_events (receive e) es = expr_events e es
  statement_events (fork m as') es = called m (count as') ∷ exprs_events as' es
  statement_events (send e v) es = expr_events e (expr_events v es)
  statement_events (give e) es = expr_events e es
  statement_events (block ds ss) es = opened ∷ declared_events (declared_by ds) (statements_events ss (closed ∷ es))
  statement_events (conditional e s) es = expr_events e (statement_events s es)
  statement_events (alternative e s t) es = expr_events e (statement_events s (statement_events t es))
  statement_events (loop e s) es = expr_events e (statement_events s es)

  pub statements_events : Statements → List Event → List Event
  statements_events done es = es
  statements_events (next s ss) es = statement_events s (statements_events ss es)

-- a method that ends before these tokens
unfoldable pub method_events : Method → List Token → List Event → List Event
method_events m us es =
    method_named m.name (length m.parameters)
    ∷ declared_events (body_variables m) (statements_events m.statements (ended us ∷ es))

-- methods, with the tokens before which each ends
unfoldable pub program_events : Program → List (List Token) → List Event
program_events [] uss = []
program_events (m ∷ ms) [] = method_events m [] (program_events ms [])
program_events (m ∷ ms) (us ∷ uss) = method_events m us (program_events ms uss)
