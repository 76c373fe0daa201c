-- The grammar of document 003's appendix, cut as Paper 1 says, as a reading of tokens: each nonterminal reads its
-- tokens from the front, and gives its tree and the tokens left, or the place at which the text leaves the grammar: the
-- first token with which no text of the grammar goes on.
--
-- The readings call each other to any depth, so each has a bound that falls; that a text never meets it is proved
-- (specs/Enough.antt), and so are the grammar's equations without it (specs/Equations.antt). What a `let` binds is
-- computed only where it is used, so that readings compute.
use Rattle.std.specs.Prelude.{ℕ, zero, suc, ◌+◌, ◌*◌, Bool, true, false, cond, ◌&&◌, ◌||◌, not, List, [], ◌∷◌, ◌++◌, map, length}
use Prim.Native.String.{String}
use Rattle.std.proofs.Math.Option.{Option, none, some}
use Rattle.lists.specs.Lists.{any}
use Rattle.text.specs.Tree.{ascii, Name, spells, Carried, int_type, boolean_type, qbit_type, NonVoidType, plain, channel_type, end_type, Operator, plus, minus, equals, less_than, Expr, Exprs, number, truth, variable, assignment, operation, method_call, measurement, reception, new_qubit, new_channel, new_end, no_more, also, Declaration, variables, withends, Statement, Statements, skip, assign, invoke, measure, receive, fork, send, give, block, conditional, alternative, loop, done, next, Parameter, Method, Program, Declared, declared_by, parameter_of}
use Rattle.text_parse.specs.Tokens.{Token, is, is_name, is_numeral, name_of, numeral_of}

-- What a reading comes to.
pub data Reading (A : Type 0) : Type 0 where
  -- a tree, and the tokens after it
  read : A → List Token → Reading A
  -- the place at which the text leaves the grammar
  leaves : ℕ → Reading A

unfoldable pub and_then : {A B : Type 0} → Reading A → (A → List Token → Reading B) → Reading B
and_then (read a ts) k = k a ts
and_then (leaves i) k = leaves i

-- The first token, and the tokens after it. A text's last token, which ends it, is never read.
abbrev pub first : List Token → Token
first [] = record { bytes = []; at = 0 }
first (t ∷ ts) = t

abbrev pub rest : List Token → List Token
rest [] = []
rest (t ∷ ts) = ts

unfoldable pub leaves_at : {A : Type 0} → List Token → Reading A
leaves_at ts = leaves (first ts).at

-- the first token is this word or mark
abbrev pub next? : String → List Token → Bool
next? s ts = is s (first ts)

-- a word or mark that must stand here, and a name
unfoldable pub expect : {A : Type 0} → String → List Token → (List Token → Reading A) → Reading A
expect s ts k = cond (next? s ts) (k (rest ts)) (leaves_at ts)

unfoldable pub expect_name : {A : Type 0} → List Token → (Name → List Token → Reading A) → Reading A
expect_name ts k = cond (is_name (first ts)) (k (name_of (first ts)) (rest ts)) (leaves_at ts)

-- Types: "nonVoidType ::= dupType | nonDupType", cut to 01's types

-- the type inside channel[..] and channelEnd[..]
unfoldable pub carried : List Token → Reading Carried
carried ts =
    cond (next? "int" ts) (read int_type (rest ts))
    (cond (next? "boolean" ts) (read boolean_type (rest ts))
    (cond (next? "qbit" ts) (read qbit_type (rest ts)) (leaves_at ts)))

unfoldable pub bracketed : {A : Type 0} → List Token → (Carried → A) → Reading A
bracketed ts f = expect "[" ts (λ us. and_then (carried us) (λ t vs. expect "]" vs (λ ws. read (f t) ws)))

unfoldable pub non_void_type : List Token → Reading NonVoidType
non_void_type ts =
    cond (next? "channel" ts) (bracketed (rest ts) channel_type)
    (cond (next? "channelEnd" ts) (bracketed (rest ts) end_type)
    (and_then (carried ts) (λ t us. read (plain t) us)))

unfoldable pub starts_type : List Token → Bool
starts_type ts =
    next? "int" ts || (next? "boolean" ts || (next? "qbit" ts || (next? "channel" ts || next? "channelEnd" ts)))

-- "type ::= void | nonVoidType"
unfoldable pub return_type : List Token → Reading (Option NonVoidType)
return_type ts =
    cond (next? "void" ts) (read none (rest ts)) (and_then (non_void_type ts) (λ t us. read (some t) us))

-- The scopes read so far, the innermost block first, each with its declarations in text order: "The name is looked up
-- in the scopes read so far; of two declarations in one block the first stands; an undeclared name is none."
abbrev pub Scopes : Type 0
Scopes = List (List Declared)

unfoldable pub declared_here : Name → List Declared → Option Declared
declared_here x [] = none
declared_here x (d ∷ ds) = cond (spells x d.name) (some d) (declared_here x ds)

unfoldable pub has_ends_or : Option Declared → Bool → Bool
has_ends_or none otherwise = otherwise
has_ends_or (some d) otherwise = d.ends

unfoldable pub is_withends : Scopes → Name → Bool
is_withends [] x = false
is_withends (ds ∷ scopes) x = has_ends_or (declared_here x ds) (is_withends scopes x)

-- Expressions

-- "op ::= +, -", ==, <
unfoldable pub operator_at : List Token → Option Operator
operator_at ts =
    cond (next? "+" ts) (some plus)
    (cond (next? "-" ts) (some minus)
    (cond (next? "==" ts) (some equals)
    (cond (next? "<" ts) (some less_than) none)))

-- "new nonDupType ()", after new; no operator follows it
unfoldable pub allocated : Expr → List Token → Reading Expr
allocated e ts = expect "(" ts (λ us. expect ")" us (λ vs. read e vs))

unfoldable pub allocation : List Token → Reading Expr
allocation ts =
    cond (next? "qbit" ts) (allocated new_qubit (rest ts))
    (cond (next? "channel" ts) (and_then (bracketed (rest ts) new_channel) allocated)
    (cond (next? "channelEnd" ts) (and_then (bracketed (rest ts) new_end) allocated) (leaves_at ts)))

-- "measurement ::= measure (basisName (, variableName)+)", after measure: "measure takes StdBasis and one name"
unfoldable pub measured_name : List Token → Reading Name
measured_name ts =
    expect "(" ts (λ us. expect "StdBasis" us (λ vs. expect "," vs (λ ws.
    expect_name ws (λ q xs. expect ")" xs (λ ys. read q ys)))))

-- "expr ::= indivExpr (op expr)? | new nonDupType ()"; "All four operators have one strength and group to the right";
-- "An assignment in an expression takes all it can"
unfoldable mutual
  pub expr : ℕ → Scopes → List Token → Reading Expr
  expr zero scopes ts = leaves_at ts
  expr (suc n) scopes ts =
      let individual = and_then (indiv_expr n scopes ts) (λ e us. operands n scopes e (operator_at us) us) in
      cond (next? "new" ts) (allocation (rest ts)) individual

  -- "(op expr)?" after the expression e
  pub operands : ℕ → Scopes → Expr → Option Operator → List Token → Reading Expr
  operands zero scopes e o ts = leaves_at ts
  operands (suc n) scopes e none ts = read e ts
  operands (suc n) scopes e (some o) ts = and_then (expr n scopes (rest ts)) (λ f us. read (operation o e f) us)

  -- "indivExpr ::= value | variableName | ( expr ) | recv | assignment | methodCall | measurement"
  pub indiv_expr : ℕ → Scopes → List Token → Reading Expr
  indiv_expr zero scopes ts = leaves_at ts
  indiv_expr (suc n) scopes ts =
      let in_brackets = and_then (expr n scopes (rest ts)) (λ e us. expect ")" us (λ vs. read e vs)) in
      let recv =
      expect "(" (rest ts) (λ us. and_then (expr n scopes us) (λ e vs. expect ")" vs (λ ws. read (reception e) ws))) in
      let name = expect_name ts (λ x us. named n scopes x us) in
      cond (is_numeral (first ts)) (read (number (numeral_of (first ts))) (rest ts))
      (cond (next? "true" ts) (read (truth true) (rest ts))
      (cond (next? "false" ts) (read (truth false) (rest ts))
      (cond (next? "(" ts) in_brackets
      (cond (next? "recv" ts) recv
      (cond (next? "measure" ts) (and_then (measured_name (rest ts)) (λ q us. read (measurement q) us)) name)))))

  -- after a name: "assignment ::= variableName = expr", "methodCall ::= methodName (methodParams?)", or the variable.
  -- "A withends channel assigned inside an expression: 30 at its name, as soon as = follows."
  pub named : ℕ → Scopes → Name → List Token → Reading Expr
  named zero scopes x ts = leaves_at ts
  named (suc n) scopes x ts =
      let assigned = and_then (expr n scopes (rest ts)) (λ e us. read (assignment x e) us) in
      let called = and_then (arguments n scopes (rest ts)) (λ es us. read (method_call x es) us) in
      cond (next? "=" ts) (cond (is_withends scopes x) (leaves x.at) assigned)
      (cond (next? "(" ts) called (read (variable x) ts))

  -- "(methodParams?)", after its bracket
  pub arguments : ℕ → Scopes → List Token → Reading Exprs
  arguments zero scopes ts = leaves_at ts
  arguments (suc n) scopes ts =
      let some = method_params n scopes ts in
      cond (next? ")" ts) (read no_more (rest ts)) some

  -- "methodParams ::= expr (, expr)*", and the closing bracket
  pub method_params : ℕ → Scopes → List Token → Reading Exprs
  method_params zero scopes ts = leaves_at ts
  method_params (suc n) scopes ts =
      and_then (expr n scopes ts) (λ e us.
      let more = and_then (method_params n scopes (rest us)) (λ es vs. read (also e es) vs) in
      cond (next? "," us) more (expect ")" us (λ vs. read (also e no_more) vs)))

-- Declarations

-- "variableName (, variableName)*", after the first name, then ;
unfoldable pub more_names : ℕ → NonVoidType → List Name → List Token → Reading Declaration
more_names zero t xs ts = leaves_at ts
more_names (suc n) t xs ts =
    let more = expect_name (rest ts) (λ x us. more_names n t (xs ++ (x ∷ [])) us) in
    cond (next? "," ts) more (expect ";" ts (λ us. read (variables t xs) us))

-- "withends [ variableName , variableName ]", after withends, then ;
unfoldable pub end_names : Carried → Name → List Token → Reading Declaration
end_names t c ts =
    expect "[" ts (λ us. expect_name us (λ a vs. expect "," vs (λ ws. expect_name ws (λ b xs.
    expect "]" xs (λ ys. expect ";" ys (λ zs. read (withends t c a b) zs))))))

-- after the first name of a declaration
unfoldable pub declaration_of : ℕ → NonVoidType → Name → List Token → Reading Declaration
declaration_of n (plain t) x ts = more_names n (plain t) (x ∷ []) ts
declaration_of n (channel_type t) x ts =
    cond (next? "withends" ts) (end_names t x (rest ts)) (more_names n (channel_type t) (x ∷ []) ts)
declaration_of n (end_type t) x ts = more_names n (end_type t) (x ∷ []) ts

unfoldable pub declaration : ℕ → List Token → Reading Declaration
declaration n ts = and_then (non_void_type ts) (λ t us. expect_name us (λ x vs. declaration_of n t x vs))

-- "varDeclaration ::= (oneVarDecl ;)*"
unfoldable pub declarations : ℕ → List Declaration → List Token → Reading (List Declaration)
declarations zero ds ts = leaves_at ts
declarations (suc n) ds ts =
    let more = and_then (declaration n ts) (λ d us. declarations n (ds ++ (d ∷ [])) us) in
    cond (starts_type ts) more (read ds ts)

-- Statements

-- "Nesting: a method's body has depth 1; the body of an if, else or while that stands at depth d has d + 1, a block or
-- not, and a block that is such a body is not counted twice; a block that is a statement of a block at d has d + 1.
-- Depth 33: 30 at the first token of that body or block." So many levels are left below.
unfoldable pub deeper : {A : Type 0} → ℕ → List Token → (ℕ → Reading A) → Reading A
deeper zero ts k = leaves_at ts
deeper (suc left) ts k = k left

-- "assignment ;" and "methodCall ;" or "quantumOp ;", after the name
unfoldable pub named_statement : ℕ → Scopes → Name → List Token → Reading Statement
named_statement n scopes x ts =
    cond (next? "=" ts)
    (and_then (expr n scopes (rest ts)) (λ e us. expect ";" us (λ vs. read (assign x e) vs)))
    (cond (next? "(" ts)
    (and_then (arguments n scopes (rest ts)) (λ es us. expect ";" us (λ vs. read (invoke x es) vs)))
    (leaves_at ts))

-- "fork ::= fork methodCall", "send ::= send ( expr , expr )", after the word, with ;
unfoldable pub fork_statement : ℕ → Scopes → List Token → Reading Statement
fork_statement n scopes ts =
    expect_name ts (λ m us. expect "(" us (λ vs. and_then (arguments n scopes vs) (λ es ws.
    expect ";" ws (λ xs. read (fork m es) xs))))

unfoldable pub send_statement : ℕ → Scopes → List Token → Reading Statement
send_statement n scopes ts =
    expect "(" ts (λ us. and_then (expr n scopes us) (λ e vs. expect "," vs (λ ws. and_then (expr n scopes ws) (λ v xs.
    expect ")" xs (λ ys. expect ";" ys (λ zs. read (send e v) zs))))))

unfoldable pub recv_statement : ℕ → Scopes → List Token → Reading Statement
recv_statement n scopes ts =
    expect "(" ts (λ us. and_then (expr n scopes us) (λ e vs.
    expect ")" vs (λ ws. expect ";" ws (λ xs. read (receive e) xs))))

-- the statements that hold no other
unfoldable pub simple : ℕ → Scopes → List Token → Reading Statement
simple n scopes ts =
    cond (next? ";" ts) (read skip (rest ts))
    (cond (next? "measure" ts)
    (and_then (measured_name (rest ts)) (λ q us. expect ";" us (λ vs. read (measure q) vs)))
    (cond (next? "fork" ts) (fork_statement n scopes (rest ts))
    (cond (next? "send" ts) (send_statement n scopes (rest ts))
    (cond (next? "recv" ts) (recv_statement n scopes (rest ts))
    (cond (next? "return" ts)
    (and_then (expr n scopes (rest ts)) (λ e us. expect ";" us (λ vs. read (give e) vs)))
    (expect_name ts (λ x us. named_statement n scopes x us)))))))

-- "( expr )" of an if and a while
unfoldable pub condition : ℕ → Scopes → List Token → Reading Expr
condition n scopes ts =
    expect "(" ts (λ us. and_then (expr n scopes us) (λ e vs. expect ")" vs (λ ws. read e ws)))

unfoldable mutual
  -- "code", where a block counts as one level more
  pub statement : ℕ → ℕ → Scopes → List Token → Reading Statement
  statement zero left scopes ts = leaves_at ts
  statement (suc n) left scopes ts =
      let braced = deeper left ts (λ l. block_of n l scopes ts) in
      let other = unbraced n left scopes ts in
      cond (next? "{" ts) braced other

  -- the body of an if, else or while: one level more, a block or not
  pub body : ℕ → ℕ → Scopes → List Token → Reading Statement
  body zero left scopes ts = leaves_at ts
  body (suc n) left scopes ts =
      deeper left ts (λ l.
      let braced = block_of n l scopes ts in
      let other = unbraced n l scopes ts in
      cond (next? "{" ts) braced other)

  -- "if ::= if ( expr ) code ( else code)?", "while ::= while ( expr ) code", and the statements that hold no other;
  -- "else goes to the nearest if"
  pub unbraced : ℕ → ℕ → Scopes → List Token → Reading Statement
  unbraced zero left scopes ts = leaves_at ts
  unbraced (suc n) left scopes ts =
      let if_then =
      and_then (condition n scopes (rest ts)) (λ e us. and_then (body n left scopes us) (λ s vs.
      let otherwise = and_then (body n left scopes (rest vs)) (λ t ws. read (alternative e s t) ws) in
      cond (next? "else" vs) otherwise (read (conditional e s) vs))) in
      let while_do =
      and_then (condition n scopes (rest ts)) (λ e us.
      and_then (body n left scopes us) (λ s vs. read (loop e s) vs)) in
      cond (next? "if" ts) if_then (cond (next? "while" ts) while_do (simple n scopes ts))

  -- "block ::= { varDeclaration code* }"
  pub block_of : ℕ → ℕ → Scopes → List Token → Reading Statement
  block_of zero left scopes ts = leaves_at ts
  block_of (suc n) left scopes ts =
      expect "{" ts (λ us. and_then (declarations n [] us) (λ ds vs.
      and_then (statements n left (declared_by ds ∷ scopes) vs) (λ ss ws. read (block ds ss) ws)))

  -- "code*", up to and with the closing brace
  pub statements : ℕ → ℕ → Scopes → List Token → Reading Statements
  statements zero left scopes ts = leaves_at ts
  statements (suc n) left scopes ts =
      let more =
      and_then (statement n left scopes ts) (λ s us.
      and_then (statements n left scopes us) (λ ss vs. read (next s ss) vs)) in
      cond (next? "}" ts) (read done (rest ts)) more

-- Methods

-- "methodDeclParam ::= nonVoidType paramName"
unfoldable pub parameter : List Token → Reading Parameter
parameter ts = and_then (non_void_type ts) (λ t us. expect_name us (λ x vs. read (record { type = t; name = x }) vs))

-- "methodDeclParam (, methodDeclParam)*" and the closing bracket, after those of ps
unfoldable pub more_parameters : ℕ → List Parameter → List Token → Reading (List Parameter)
more_parameters zero ps ts = leaves_at ts
more_parameters (suc n) ps ts =
    and_then (parameter ts) (λ p us.
    let more = more_parameters n (ps ++ (p ∷ [])) (rest us) in
    cond (next? "," us) more (expect ")" us (λ vs. read (ps ++ (p ∷ [])) vs)))

unfoldable pub parameters : ℕ → List Token → Reading (List Parameter)
parameters n ts = cond (next? ")" ts) (read [] (rest ts)) (more_parameters n [] ts)

-- a method's body, at depth 1: 31 levels are left below; "parameters stand in the body's block"
unfoldable pub method_body : ℕ → Option NonVoidType → Name → List Parameter → List Token → Reading Method
method_body n t x ps ts =
    expect "{" ts (λ us. and_then (declarations n [] us) (λ ds vs.
    and_then (statements n 31 ((map parameter_of ps ++ declared_by ds) ∷ []) vs) (λ ss ws.
    read (record { returns = t; name = x; parameters = ps; declarations = ds; statements = ss }) ws)))

-- "method ::= methodHeader block", "methodHeader ::= type methodName ( methodDeclParamList? )"
unfoldable pub method : ℕ → List Token → Reading Method
method n ts =
    and_then (return_type ts) (λ t us. expect_name us (λ x vs. expect "(" vs (λ ws.
    and_then (parameters n ws) (λ ps xs. method_body n t x ps xs))))

-- "program ::= method+", up to the token that ends the text
unfoldable pub at_text_end : List Token → Bool
at_text_end ts = next? "" ts

unfoldable pub program : ℕ → List Token → Reading Program
program zero ts = leaves_at ts
program (suc n) ts =
    and_then (method n ts) (λ m us.
    let more = and_then (program n us) (λ ms vs. read (m ∷ ms) vs) in
    cond (at_text_end us) (read (m ∷ []) us) more)

-- the tree of these tokens; the bound is more than any reading of them goes deep
unfoldable pub enough : List Token → ℕ
enough ts = 8 + 8 * length ts

unfoldable pub program_of : List Token → Reading Program
program_of ts = program (enough ts) ts
