-- An expression read in one pass, one token at a time. This follows the code: what an expression is stands in crate
-- text_parse (specs/Grammar.antt), and proofs/Same.antt shows that this pass leaves the grammar at the same place and
-- ends before the same token.
--
-- A pass has a phase, which says what may come next, and a stack of what is open, the innermost first.
use Rattle.std.specs.Prelude.{ℕ, Bool, true, false, cond, ◌||◌, List, [], ◌∷◌}
use Rattle.text.specs.Tree.{Name}
use Rattle.text_parse.specs.Tokens.{Token, is, is_name, is_numeral, name_of}
use Rattle.text_parse.specs.Grammar.{Reading, read, leaves, Scopes, is_withends}

-- What is open: an assignment, which ends with the expression around it; a bracket, of recv too; the arguments of a
-- call.
pub data Open : Type 0 where
  assigning : Open
  in_brackets : Open
  in_call : Open

pub data Phase : Type 0 where
  -- an operand is to come
  operand : Phase
  -- an operand is read, and an operator may follow
  whole : Phase
  -- new T() is read, and no operator belongs to it
  bare : Phase
  -- this name is read
  named : Name → Phase
  -- the bracket of a call is read: an argument is to come, or its end
  called : Phase
  -- recv is read
  recv₁ : Phase
  -- measure ( StdBasis , name ) up to before one of these
  measure₁ : Phase
  measure₂ : Phase
  measure₃ : Phase
  measure₄ : Phase
  measure₅ : Phase
  -- new channel [ T ] ( ) up to before one of these; new qbit ( ) has the last two alone
  new₁ : Phase
  new₂ : Phase
  new₃ : Phase
  new₄ : Phase
  new₅ : Phase
  new₆ : Phase

-- What a token does: the pass goes on, the text leaves the grammar at a place, or the expression has ended before it.
pub data Step : Type 0 where
  on : Phase → List Open → Step
  off : ℕ → Step
  over : Step

-- the assignments that are open end
unfoldable pub closed : List Open → List Open
closed [] = []
closed (assigning ∷ k) = closed k
closed (in_brackets ∷ k) = in_brackets ∷ k
closed (in_call ∷ k) = in_call ∷ k

unfoldable pub is_operator : Token → Bool
is_operator t = is "+" t || (is "-" t || (is "==" t || is "<" t))

-- a token after an expression that has ended, within what is open around it
unfoldable pub ended : List Open → Token → Step
ended [] t = over
ended (assigning ∷ k) t = over
ended (in_brackets ∷ k) t = cond (is ")" t) (on whole k) (off t.at)
ended (in_call ∷ k) t = cond (is "," t) (on operand (in_call ∷ k)) (cond (is ")" t) (on whole k) (off t.at))

-- an operator after new T(): the assignment that is open innermost ends with it
unfoldable pub after_new : List Open → Token → Step
after_new [] t = over
after_new (assigning ∷ k) t = on operand k
after_new (in_brackets ∷ k) t = off t.at
after_new (in_call ∷ k) t = off t.at

unfoldable pub whole_step : List Open → Token → Step
whole_step k t = cond (is_operator t) (on operand k) (ended (closed k) t)

unfoldable pub bare_step : List Open → Token → Step
bare_step k t = cond (is_operator t) (after_new k t) (ended (closed k) t)

unfoldable pub individual_step : List Open → Token → Step
individual_step k t =
    cond (is_numeral t) (on whole k)
    (cond (is "true" t) (on whole k)
    (cond (is "false" t) (on whole k)
    (cond (is "(" t) (on operand (in_brackets ∷ k))
    (cond (is "recv" t) (on recv₁ k)
    (cond (is "measure" t) (on measure₁ k)
    (cond (is_name t) (on (named (name_of t)) k) (off t.at)))))))

unfoldable pub operand_step : List Open → Token → Step
operand_step k t = cond (is "new" t) (on new₁ k) (individual_step k t)

unfoldable pub named_step : Scopes → Name → List Open → Token → Step
named_step scopes x k t =
    cond (is "=" t) (cond (is_withends scopes x) (off x.at) (on operand (assigning ∷ k)))
    (cond (is "(" t) (on called (in_call ∷ k)) (whole_step k t))

-- the call ends with its bracket
unfoldable pub without_call : List Open → List Open
without_call [] = []
without_call (o ∷ k) = k

unfoldable pub called_step : List Open → Token → Step
called_step k t = cond (is ")" t) (on whole (without_call (closed k))) (operand_step k t)

-- one token that must stand here
unfoldable pub must : Bool → Phase → List Open → Token → Step
must ok p k t = cond ok (on p k) (off t.at)

unfoldable pub new_step : List Open → Token → Step
new_step k t =
    cond (is "qbit" t) (on new₅ k)
    (cond (is "channel" t) (on new₂ k) (cond (is "channelEnd" t) (on new₂ k) (off t.at)))

unfoldable pub step : Scopes → Phase → List Open → Token → Step
step scopes operand k t = operand_step k t
step scopes whole k t = whole_step k t
step scopes bare k t = bare_step k t
step scopes (named x) k t = named_step scopes x k t
step scopes called k t = called_step k t
step scopes recv₁ k t = must (is "(" t) operand (in_brackets ∷ k) t
step scopes measure₁ k t = must (is "(" t) measure₂ k t
step scopes measure₂ k t = must (is "StdBasis" t) measure₃ k t
step scopes measure₃ k t = must (is "," t) measure₄ k t
step scopes measure₄ k t = must (is_name t) measure₅ k t
step scopes measure₅ k t = must (is ")" t) whole k t
step scopes new₁ k t = new_step k t
step scopes new₂ k t = must (is "[" t) new₃ k t
step scopes new₃ k t = must (is "int" t || (is "boolean" t || is "qbit" t)) new₄ k t
step scopes new₄ k t = must (is "]" t) new₅ k t
step scopes new₅ k t = must (is "(" t) new₆ k t
step scopes new₆ k t = must (is ")" t) bare k t

-- what follows a step at token t, the pass over the tokens ts after it being given
unfoldable pub follow : (Phase → List Open → Reading (Unit {0})) → Token → List Token → Step → Reading (Unit {0})
follow further t ts (on p k) = further p k
follow further t ts (off i) = leaves i
follow further t ts over = read tt (t ∷ ts)

-- The pass over the tokens: the place at which it leaves the grammar, or the tokens from the one on before which the
-- expression ends. (A list of tokens that a text has never ends within an expression: its last token ends it.)
unfoldable pub pass : Scopes → List Token → Phase → List Open → Reading (Unit {0})
pass scopes [] p k = leaves 0
pass scopes (t ∷ ts) p k = follow (pass scopes ts) t ts (step scopes p k t)
