-- The tree of a text: the grammar of document 003's appendix, cut as Paper 1 says. Each type here is one of its
-- nonterminals, each constructor one of its alternatives; brackets, marks and white space are not in the tree.
-- How a text is read into a tree is a matter of its own.
use Rattle.std.specs.Prelude.{ℕ, zero, suc, Bool, true, false, cond, List, [], ◌∷◌, ◌++◌, map}
use Prim.Native.Char.{code}
use Prim.Native.String.{String, [] as []ˢ, ◌∷◌ as ◌∷ˢ◌}
use Rattle.std.proofs.Math.Option.{Option, none, some}
use Rattle.lists.specs.Lists.{same}

-- the bytes of a quoted text
abbrev pub ascii : String → List ℕ
ascii []ˢ = []
ascii (c ∷ˢ s) = code c ∷ ascii s

-- A name: its bytes, and where in the text it stands. The meaning of a text and its table go by the bytes alone; the
-- place is what a refusal gives.
pub record Name : Type 0 where
  pub spelling : List ℕ
  pub at : ℕ

abbrev pub spells : Name → Name → Bool
spells x y = same x.spelling y.spelling

-- "01's types": "T is 1, 2 or 3", then nonVoidType ::= int | boolean | qbit | channel [T] | channelEnd [T]
pub data Carried : Type 0 where
  int_type : Carried
  boolean_type : Carried
  qbit_type : Carried

pub data NonVoidType : Type 0 where
  plain : Carried → NonVoidType
  channel_type : Carried → NonVoidType
  end_type : Carried → NonVoidType

-- "+ and - as operators, ==, <"
pub data Operator : Type 0 where
  plus : Operator
  minus : Operator
  equals : Operator
  less_than : Operator

-- expr, and the method_params of a call
mutual
  pub data Expr : Type 0 where
    -- "value"
    number : ℕ → Expr
    truth : Bool → Expr
    -- "variableName"
    variable : Name → Expr
    -- "assignment ::= variableName = expr"
    assignment : Name → Expr → Expr
    -- "indivExpr (op expr)?"
    operation : Operator → Expr → Expr → Expr
    -- "methodCall ::= methodName (methodParams?)"
    method_call : Name → Exprs → Expr
    -- "measurement ::= measure (basisName (, variableName)+)"; Paper 1: "StdBasis with one variable"
    measurement : Name → Expr
    -- "recv ::= recv ( expr )"
    reception : Expr → Expr
    -- "new nonDupType ()"
    new_qubit : Expr
    new_channel : Carried → Expr
    new_end : Carried → Expr

  pub data Exprs : Type 0 where
    no_more : Exprs
    also : Expr → Exprs → Exprs

-- one_var_decl; "no aliasfor yet"
pub data Declaration : Type 0 where
  -- "nonVoidType variableName (, variableName)*"
  variables : NonVoidType → List Name → Declaration
  -- "channelType variableName withends [ variableName , variableName ]"
  withends : Carried → Name → Name → Name → Declaration

-- code, and the code* of a block
mutual
  pub data Statement : Type 0 where
    -- "; alone"
    skip : Statement
    assign : Name → Expr → Statement
    -- "methodCall ;" and "quantumOp ;": "the gates by name unless a method has it"
    invoke : Name → Exprs → Statement
    measure : Name → Statement
    receive : Expr → Statement
    -- "fork ::= fork methodCall", "send ::= send ( expr , expr )", "return ::= return expr"
    fork : Name → Exprs → Statement
    send : Expr → Expr → Statement
    give : Expr → Statement
    -- "block ::= { varDeclaration code* }"
    block : List Declaration → Statements → Statement
    -- "if ::= if ( expr ) code ( else code)?", "while ::= while ( expr ) code"
    conditional : Expr → Statement → Statement
    alternative : Expr → Statement → Statement → Statement
    loop : Expr → Statement → Statement

  pub data Statements : Type 0 where
    done : Statements
    next : Statement → Statements → Statements

-- "methodDeclParam ::= nonVoidType paramName"
pub record Parameter : Type 0 where
  pub type : NonVoidType
  pub name : Name

-- "method ::= methodHeader block", "methodHeader ::= type methodName ( methodDeclParamList? )"; void is no type
pub record Method : Type 0 where
  pub returns : Option NonVoidType
  pub name : Name
  pub parameters : List Parameter
  pub declarations : List Declaration
  pub statements : Statements

-- "program ::= method+", in text order
abbrev pub Program : Type 0
Program = List Method

-- What a block declares

-- A declared variable: its name, its type, and whether it is a channel with ends. The ends of such a channel are the
-- two variables declared right after it, end 0 and then end 1.
pub record Declared : Type 0 where
  pub name : Name
  pub type : NonVoidType
  pub ends : Bool

abbrev pub plainly : NonVoidType → Name → Declared
plainly t x = record { name = x; type = t; ends = false }

unfoldable pub declared_in : Declaration → List Declared
declared_in (variables t xs) = map (plainly t) xs
declared_in (withends t c a b) =
    record { name = c; type = channel_type t; ends = true } ∷ plainly (end_type t) a ∷ plainly (end_type t) b ∷ []

-- "The three names of a withends declaration are declared, in text order."
unfoldable pub declared_by : List Declaration → List Declared
declared_by [] = []
declared_by (d ∷ ds) = declared_in d ++ declared_by ds

abbrev pub parameter_of : Parameter → Declared
parameter_of p = plainly p.type p.name

-- the variables of a method's body, "parameters stand in the body's block"
unfoldable pub body_variables : Method → List Declared
body_variables m = map parameter_of m.parameters ++ declared_by m.declarations

-- Which method a name means

-- how many arguments
unfoldable pub count : Exprs → ℕ
count no_more = 0
count (also e es) = suc (count es)

-- where a name first stands in a list of names; the list's length where it does not
unfoldable pub index_of : Name → List Name → ℕ
index_of x [] = 0
index_of x (y ∷ ys) = cond (spells x y) 0 (suc (index_of x ys))

abbrev pub method_name : Method → Name
method_name m = m.name

unfoldable pub is_main : Method → Bool
is_main m = same m.name.spelling (ascii "main")

-- the method of this number, where there is one
unfoldable pub method_at : Program → ℕ → Option Method
method_at [] n = none
method_at (m ∷ ms) zero = some m
method_at (m ∷ ms) (suc n) = method_at ms n

-- the number of the method of this name: "Of two methods of one name the first counts"
unfoldable pub number_of : Program → Name → ℕ
number_of ms x = index_of x (map method_name ms)

unfoldable pub method_of : Program → Name → Option Method
method_of ms x = method_at ms (number_of ms x)

-- "Main becomes method 0; the others follow in text order."
unfoldable pub without_main : Program → Program
without_main [] = []
without_main (m ∷ ms) = cond (is_main m) (without_main ms) (m ∷ without_main ms)

unfoldable pub mains : Program → Program
mains [] = []
mains (m ∷ ms) = cond (is_main m) (m ∷ mains ms) (mains ms)

unfoldable pub main_first : Program → Program
main_first ms = mains ms ++ without_main ms

-- "1 X, 2 Y, 3 Z, 4 H, 5 S, 6 CX, 7 CZ, 8 SWAP": a gate's number by its name, 0 where the name is no gate's
abbrev pub gate_names : List (List ℕ)
gate_names =
    ascii "X" ∷ ascii "Y" ∷ ascii "Z" ∷ ascii "H" ∷ ascii "S" ∷ ascii "CX" ∷ ascii "CZ" ∷ ascii "SWAP" ∷ []

unfoldable pub numbered : ℕ → List ℕ → List (List ℕ) → ℕ
numbered n x [] = 0
numbered n x (y ∷ ys) = cond (same x y) n (numbered (suc n) x ys)

unfoldable pub gate_of : Name → ℕ
gate_of x = numbered 1 x.spelling gate_names
