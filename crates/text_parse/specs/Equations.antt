-- The grammar's equations without the number that bounds the depth of a reading. `expr_from` and the like are what the
-- grammar's readings come to with enough; `expr_rule` and the like say, in terms of these alone, what the appendix's
-- production says. That the two are equal for all tokens is proved (proofs/Equations.antt).
use Rattle.std.specs.Prelude.{ℕ, ◌≡◌, true, false, cond, List, [], ◌∷◌, ◌++◌, map}
use Rattle.std.proofs.Math.Option.{Option, none, some}
use Rattle.text.specs.Tree.{Name, NonVoidType, plain, channel_type, end_type, Operator, Expr, Exprs, number, truth, variable, assignment, operation, method_call, measurement, reception, no_more, also, Declaration, variables, Statement, Statements, skip, assign, invoke, measure, receive, fork, send, give, block, conditional, alternative, loop, done, next, Parameter, Method, Program, declared_by, parameter_of}
use Rattle.text_parse.specs.Tokens.{Token, is_numeral, numeral_of}
use Rattle.text_parse.specs.Grammar.{Reading, read, leaves, and_then, first, rest, leaves_at, next?, expect, expect_name, non_void_type, starts_type, return_type, Scopes, is_withends, operator_at, allocation, measured_name, expr, indiv_expr, method_params, more_names, end_names, declaration, declarations, deeper, statement, body, block_of, statements, parameter, more_parameters, method, at_text_end, enough, program_of}

-- Expressions

unfoldable pub expr_from : Scopes → List Token → Reading Expr
expr_from scopes ts = expr (enough ts) scopes ts

unfoldable pub indiv_expr_from : Scopes → List Token → Reading Expr
indiv_expr_from scopes ts = indiv_expr (enough ts) scopes ts

unfoldable pub method_params_from : Scopes → List Token → Reading Exprs
method_params_from scopes ts = method_params (enough ts) scopes ts

-- "expr ::= indivExpr (op expr)? | new nonDupType ()"; "All four operators have one strength and group to the right"
unfoldable pub operands_rule : Scopes → Expr → Option Operator → List Token → Reading Expr
operands_rule scopes e none ts = read e ts
operands_rule scopes e (some o) ts = and_then (expr_from scopes (rest ts)) (λ f us. read (operation o e f) us)

unfoldable pub expr_rule : Scopes → List Token → Reading Expr
expr_rule scopes ts =
    cond (next? "new" ts) (allocation (rest ts))
    (and_then (indiv_expr_from scopes ts) (λ e us. operands_rule scopes e (operator_at us) us))

-- "methodCall ::= methodName (methodParams?)", after its bracket
unfoldable pub arguments_rule : Scopes → List Token → Reading Exprs
arguments_rule scopes ts = cond (next? ")" ts) (read no_more (rest ts)) (method_params_from scopes ts)

-- "assignment ::= variableName = expr", a methodCall or a variable, after the name
unfoldable pub named_rule : Scopes → Name → List Token → Reading Expr
named_rule scopes x ts =
    cond (next? "=" ts)
    (cond (is_withends scopes x) (leaves x.at)
    (and_then (expr_from scopes (rest ts)) (λ e us. read (assignment x e) us)))
    (cond (next? "(" ts)
    (and_then (arguments_rule scopes (rest ts)) (λ es us. read (method_call x es) us))
    (read (variable x) ts))

-- "recv ::= recv ( expr )", after recv
unfoldable pub reception_rule : Scopes → List Token → Reading Expr
reception_rule scopes ts =
    expect "(" ts (λ us. and_then (expr_from scopes us) (λ e vs. expect ")" vs (λ ws. read (reception e) ws)))

-- "indivExpr ::= value | variableName | ( expr ) | recv | assignment | methodCall | measurement"
unfoldable pub indiv_expr_rule : Scopes → List Token → Reading Expr
indiv_expr_rule scopes ts =
    cond (is_numeral (first ts)) (read (number (numeral_of (first ts))) (rest ts))
    (cond (next? "true" ts) (read (truth true) (rest ts))
    (cond (next? "false" ts) (read (truth false) (rest ts))
    (cond (next? "(" ts) (and_then (expr_from scopes (rest ts)) (λ e us. expect ")" us (λ vs. read e vs)))
    (cond (next? "recv" ts) (reception_rule scopes (rest ts))
    (cond (next? "measure" ts) (and_then (measured_name (rest ts)) (λ q us. read (measurement q) us))
    (expect_name ts (λ x us. named_rule scopes x us)))))))

-- "methodParams ::= expr (, expr)*", and the closing bracket
unfoldable pub method_params_rule : Scopes → List Token → Reading Exprs
method_params_rule scopes ts =
    and_then (expr_from scopes ts) (λ e us.
    cond (next? "," us)
    (and_then (method_params_from scopes (rest us)) (λ es vs. read (also e es) vs))
    (expect ")" us (λ vs. read (also e no_more) vs)))

-- Declarations

unfoldable pub more_names_from : NonVoidType → List Name → List Token → Reading Declaration
more_names_from t xs ts = more_names (enough ts) t xs ts

unfoldable pub declaration_from : List Token → Reading Declaration
declaration_from ts = declaration (enough ts) ts

unfoldable pub declarations_from : List Declaration → List Token → Reading (List Declaration)
declarations_from ds ts = declarations (enough ts) ds ts

-- "variableName (, variableName)*", after the names xs, then ;
unfoldable pub more_names_rule : NonVoidType → List Name → List Token → Reading Declaration
more_names_rule t xs ts =
    cond (next? "," ts)
    (expect_name (rest ts) (λ x us. more_names_from t (xs ++ (x ∷ [])) us))
    (expect ";" ts (λ us. read (variables t xs) us))

-- "oneVarDecl ::= nonVoidType variableName (, variableName)* | channelType variableName withends [ .. , .. ]"
unfoldable pub variables_rule : NonVoidType → Name → List Token → Reading Declaration
variables_rule (plain t) x ts = more_names_from (plain t) (x ∷ []) ts
variables_rule (channel_type t) x ts =
    cond (next? "withends" ts) (end_names t x (rest ts)) (more_names_from (channel_type t) (x ∷ []) ts)
variables_rule (end_type t) x ts = more_names_from (end_type t) (x ∷ []) ts

unfoldable pub declaration_rule : List Token → Reading Declaration
declaration_rule ts = and_then (non_void_type ts) (λ t us. expect_name us (λ x vs. variables_rule t x vs))

-- "varDeclaration ::= (oneVarDecl ;)*", after the declarations ds
unfoldable pub declarations_rule : List Declaration → List Token → Reading (List Declaration)
declarations_rule ds ts =
    cond (starts_type ts) (and_then (declaration_from ts) (λ d us. declarations_from (ds ++ (d ∷ [])) us)) (read ds ts)

-- Statements

unfoldable pub statement_from : ℕ → Scopes → List Token → Reading Statement
statement_from left scopes ts = statement (enough ts) left scopes ts

unfoldable pub body_from : ℕ → Scopes → List Token → Reading Statement
body_from left scopes ts = body (enough ts) left scopes ts

unfoldable pub block_from : ℕ → Scopes → List Token → Reading Statement
block_from left scopes ts = block_of (enough ts) left scopes ts

unfoldable pub statements_from : ℕ → Scopes → List Token → Reading Statements
statements_from left scopes ts = statements (enough ts) left scopes ts

-- "assignment ;", "methodCall ;" or "quantumOp ;", after the name
unfoldable pub named_statement_rule : Scopes → Name → List Token → Reading Statement
named_statement_rule scopes x ts =
    cond (next? "=" ts)
    (and_then (expr_from scopes (rest ts)) (λ e us. expect ";" us (λ vs. read (assign x e) vs)))
    (cond (next? "(" ts)
    (and_then (arguments_rule scopes (rest ts)) (λ es us. expect ";" us (λ vs. read (invoke x es) vs)))
    (leaves_at ts))

-- "fork ::= fork methodCall", "send ::= send ( expr , expr )", "recv ::= recv ( expr )", after the word, with ;
unfoldable pub fork_rule : Scopes → List Token → Reading Statement
fork_rule scopes ts =
    expect_name ts (λ m us. expect "(" us (λ vs. and_then (arguments_rule scopes vs) (λ es ws.
    expect ";" ws (λ xs. read (fork m es) xs))))

unfoldable pub send_rule : Scopes → List Token → Reading Statement
send_rule scopes ts =
    expect "(" ts (λ us. and_then (expr_from scopes us) (λ e vs. expect "," vs (λ ws.
    and_then (expr_from scopes ws) (λ v xs. expect ")" xs (λ ys. expect ";" ys (λ zs. read (send e v) zs))))))

unfoldable pub recv_rule : Scopes → List Token → Reading Statement
recv_rule scopes ts =
    expect "(" ts (λ us. and_then (expr_from scopes us) (λ e vs.
    expect ")" vs (λ ws. expect ";" ws (λ xs. read (receive e) xs))))

-- the statements that hold no other, "return ::= return expr" among them
unfoldable pub simple_rule : Scopes → List Token → Reading Statement
simple_rule scopes ts =
    cond (next? ";" ts) (read skip (rest ts))
    (cond (next? "measure" ts)
    (and_then (measured_name (rest ts)) (λ q us. expect ";" us (λ vs. read (measure q) vs)))
    (cond (next? "fork" ts) (fork_rule scopes (rest ts))
    (cond (next? "send" ts) (send_rule scopes (rest ts))
    (cond (next? "recv" ts) (recv_rule scopes (rest ts))
    (cond (next? "return" ts)
    (and_then (expr_from scopes (rest ts)) (λ e us. expect ";" us (λ vs. read (give e) vs)))
    (expect_name ts (λ x us. named_statement_rule scopes x us)))))))

-- "( expr )" of an if and a while
unfoldable pub condition_rule : Scopes → List Token → Reading Expr
condition_rule scopes ts =
    expect "(" ts (λ us. and_then (expr_from scopes us) (λ e vs. expect ")" vs (λ ws. read e ws)))

-- "if ::= if ( expr ) code ( else code)?", "while ::= while ( expr ) code"; "else goes to the nearest if"
unfoldable pub unbraced_rule : ℕ → Scopes → List Token → Reading Statement
unbraced_rule left scopes ts =
    cond (next? "if" ts)
    (and_then (condition_rule scopes (rest ts)) (λ e us. and_then (body_from left scopes us) (λ s vs.
    cond (next? "else" vs)
    (and_then (body_from left scopes (rest vs)) (λ t ws. read (alternative e s t) ws))
    (read (conditional e s) vs))))
    (cond (next? "while" ts)
    (and_then (condition_rule scopes (rest ts)) (λ e us. and_then (body_from left scopes us) (λ s vs. read (loop e s) vs)))
    (simple_rule scopes ts))

-- "code", where a block counts as one level more
unfoldable pub statement_rule : ℕ → Scopes → List Token → Reading Statement
statement_rule left scopes ts =
    cond (next? "{" ts) (deeper left ts (λ l. block_from l scopes ts)) (unbraced_rule left scopes ts)

-- the body of an if, else or while: one level more, a block or not
unfoldable pub body_rule : ℕ → Scopes → List Token → Reading Statement
body_rule left scopes ts =
    deeper left ts (λ l. cond (next? "{" ts) (block_from l scopes ts) (unbraced_rule l scopes ts))

-- "block ::= { varDeclaration code* }"
unfoldable pub block_rule : ℕ → Scopes → List Token → Reading Statement
block_rule left scopes ts =
    expect "{" ts (λ us. and_then (declarations_from [] us) (λ ds vs.
    and_then (statements_from left (declared_by ds ∷ scopes) vs) (λ ss ws. read (block ds ss) ws)))

-- "code*", up to and with the closing brace
unfoldable pub statements_rule : ℕ → Scopes → List Token → Reading Statements
statements_rule left scopes ts =
    cond (next? "}" ts) (read done (rest ts))
    (and_then (statement_from left scopes ts) (λ s us.
    and_then (statements_from left scopes us) (λ ss vs. read (next s ss) vs)))

-- Methods

unfoldable pub more_parameters_from : List Parameter → List Token → Reading (List Parameter)
more_parameters_from ps ts = more_parameters (enough ts) ps ts

unfoldable pub method_from : List Token → Reading Method
method_from ts = method (enough ts) ts

-- "methodDeclParamList ::= methodDeclParam (, methodDeclParam)*" and the closing bracket, after the parameters ps
unfoldable pub more_parameters_rule : List Parameter → List Token → Reading (List Parameter)
more_parameters_rule ps ts =
    and_then (parameter ts) (λ p us.
    cond (next? "," us)
    (more_parameters_from (ps ++ (p ∷ [])) (rest us))
    (expect ")" us (λ vs. read (ps ++ (p ∷ [])) vs)))

unfoldable pub parameters_rule : List Token → Reading (List Parameter)
parameters_rule ts = cond (next? ")" ts) (read [] (rest ts)) (more_parameters_from [] ts)

-- "method ::= methodHeader block", "methodHeader ::= type methodName ( methodDeclParamList? )"
unfoldable pub method_body_rule : Option NonVoidType → Name → List Parameter → List Token → Reading Method
method_body_rule t x ps ts =
    expect "{" ts (λ us. and_then (declarations_from [] us) (λ ds vs.
    and_then (statements_from 31 ((map parameter_of ps ++ declared_by ds) ∷ []) vs) (λ ss ws.
    read (record { returns = t; name = x; parameters = ps; declarations = ds; statements = ss }) ws)))

unfoldable pub method_rule : List Token → Reading Method
method_rule ts =
    and_then (return_type ts) (λ t us. expect_name us (λ x vs. expect "(" vs (λ ws.
    and_then (parameters_rule ws) (λ ps xs. method_body_rule t x ps xs))))

-- "program ::= method+", up to the token that ends the text
unfoldable pub program_rule : List Token → Reading Program
program_rule ts =
    and_then (method_from ts) (λ m us.
    cond (at_text_end us) (read (m ∷ []) us) (and_then (program_of us) (λ ms vs. read (m ∷ ms) vs)))

-- What each nonterminal reads is what its production says, whatever the tokens.
pub record GrammarEquations : Type 0 where
  pub expr-is : (scopes : Scopes) (ts : List Token) → expr_from scopes ts ≡ expr_rule scopes ts
  pub indiv_expr-is : (scopes : Scopes) (ts : List Token) → indiv_expr_from scopes ts ≡ indiv_expr_rule scopes ts
  pub method_params-is : (scopes : Scopes) (ts : List Token) → method_params_from scopes ts ≡ method_params_rule scopes ts
  pub more_names-is : (t : NonVoidType) (xs : List Name) (ts : List Token)
      → more_names_from t xs ts ≡ more_names_rule t xs ts
  pub declaration-is : (ts : List Token) → declaration_from ts ≡ declaration_rule ts
  pub declarations-is : (ds : List Declaration) (ts : List Token) → declarations_from ds ts ≡ declarations_rule ds ts
  pub statement-is : (left : ℕ) (scopes : Scopes) (ts : List Token)
      → statement_from left scopes ts ≡ statement_rule left scopes ts
  pub body_is : (left : ℕ) (scopes : Scopes) (ts : List Token) → body_from left scopes ts ≡ body_rule left scopes ts
  pub block-is : (left : ℕ) (scopes : Scopes) (ts : List Token) → block_from left scopes ts ≡ block_rule left scopes ts
  pub statements-is : (left : ℕ) (scopes : Scopes) (ts : List Token)
      → statements_from left scopes ts ≡ statements_rule left scopes ts
  pub more_parameters-is : (ps : List Parameter) (ts : List Token)
      → more_parameters_from ps ts ≡ more_parameters_rule ps ts
  pub method-is : (ts : List Token) → method_from ts ≡ method_rule ts
  pub program-is : (ts : List Token) → program_of ts ≡ program_rule ts
