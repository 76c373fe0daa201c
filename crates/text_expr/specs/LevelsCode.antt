-- The pass over an expression as the code does it: by levels. A level is a bracket that is open, with the number of
-- assignments that are open outside it, within the bracket around it. What a token does depends on the phase, on
-- whether an assignment is open within the innermost bracket, and on what bracket that is; the rest is pushed and
-- popped.
--
-- This follows the code; that it is the pass of PhasesCode.antt is proved (proofs/Levels.antt).
use Rattle.std.specs.Prelude.{ℕ, zero, suc, Bool, true, false, cond, ◌||◌, List, [], ◌∷◌, length, eqb}
use Rattle.std.proofs.Math.Option.{Option, none, some}
use Rattle.text.specs.Tree.{Name}
use Rattle.text_parse.specs.Tokens.{Token, is, is_name, is_numeral, name_of}
use Rattle.text_parse.specs.Grammar.{Scopes, is_withends}
use Rattle.text_expr.specs.PhasesCode.{Open, assigning, in_brackets, in_call, Phase, operand, whole, bare, named, called, recv₁, measure₁, measure₂, measure₃, measure₄, measure₅, new₁, new₂, new₃, new₄, new₅, new₆, Step, on, off, over, is_operator}

-- whether the bracket is a call's, and how many assignments are open outside it
pub record Level : Type 0 where
  pub of_call : Bool
  pub outside : ℕ

-- What is open, with n assignments open within the innermost bracket.
unfoldable pub assigned : ℕ → List Open → List Open
assigned zero k = k
assigned (suc n) k = assigning ∷ assigned n k

unfoldable pub bracket_of : Bool → Open
bracket_of true = in_call
bracket_of false = in_brackets

unfoldable pub opens : ℕ → List Level → List Open
opens n [] = assigned n []
opens n (l ∷ ls) = assigned n (bracket_of l.of_call ∷ opens l.outside ls)

-- What a token does.
pub data Action : Type 0 where
  -- the next phase; levels and assignments stay
  stay : Phase → Action
  -- one assignment more is open; or one less
  assigns : Action
  unassigns : Action
  -- a bracket is opened, of a call or not; or closed
  opens_level : Bool → Action
  closes_level : Action
  -- the next argument of a call: the assignments within the one before have ended
  next_argument : Action
  -- the text leaves the grammar at this place
  astray : ℕ → Action
  -- the expression has ended
  beyond : Action

-- the innermost bracket: none, or whether it is a call's
unfoldable pub innermost : List Level → Option Bool
innermost [] = none
innermost (l ∷ ls) = some l.of_call

unfoldable pub is_open : ℕ → Bool
is_open zero = false
is_open (suc n) = true

unfoldable pub ended_action : Option Bool → Token → Action
ended_action none t = beyond
ended_action (some true) t =
    cond (is "," t) next_argument (cond (is ")" t) closes_level (astray t.at))
ended_action (some false) t = cond (is ")" t) closes_level (astray t.at)

unfoldable pub new_action : Bool → Option Bool → Token → Action
new_action true b t = unassigns
new_action false none t = beyond
new_action false (some b) t = astray t.at

unfoldable pub whole_action : Option Bool → Token → Action
whole_action b t = cond (is_operator t) (stay operand) (ended_action b t)

unfoldable pub operand_action : Token → Action
operand_action t =
    cond (is "new" t) (stay new₁)
    (cond (is_numeral t) (stay whole)
    (cond (is "true" t) (stay whole)
    (cond (is "false" t) (stay whole)
    (cond (is "(" t) (opens_level false)
    (cond (is "recv" t) (stay recv₁)
    (cond (is "measure" t) (stay measure₁)
    (cond (is_name t) (stay (named (name_of t))) (astray t.at))))))))

unfoldable pub named_action : Scopes → Name → Option Bool → Token → Action
named_action scopes x b t =
    cond (is "=" t) (cond (is_withends scopes x) (astray x.at) assigns)
    (cond (is "(" t) (opens_level true) (whole_action b t))

unfoldable pub must_action : Bool → Phase → Token → Action
must_action ok p t = cond ok (stay p) (astray t.at)

unfoldable pub alloc_action : Token → Action
alloc_action t =
    cond (is "qbit" t) (stay new₅)
    (cond (is "channel" t) (stay new₂) (cond (is "channelEnd" t) (stay new₂) (astray t.at)))

unfoldable pub action : Scopes → Phase → Bool → Option Bool → Token → Action
action scopes operand a b t = operand_action t
action scopes whole a b t = whole_action b t
action scopes bare a b t = cond (is_operator t) (new_action a b t) (ended_action b t)
action scopes (named x) a b t = named_action scopes x b t
action scopes called a b t = cond (is ")" t) closes_level (operand_action t)
action scopes recv₁ a b t = cond (is "(" t) (opens_level false) (astray t.at)
action scopes measure₁ a b t = must_action (is "(" t) measure₂ t
action scopes measure₂ a b t = must_action (is "StdBasis" t) measure₃ t
action scopes measure₃ a b t = must_action (is "," t) measure₄ t
action scopes measure₄ a b t = must_action (is_name t) measure₅ t
action scopes measure₅ a b t = must_action (is ")" t) whole t
action scopes new₁ a b t = alloc_action t
action scopes new₂ a b t = must_action (is "[" t) new₃ t
action scopes new₃ a b t = must_action (is "int" t || (is "boolean" t || is "qbit" t)) new₄ t
action scopes new₄ a b t = must_action (is "]" t) new₅ t
action scopes new₅ a b t = must_action (is "(" t) new₆ t
action scopes new₆ a b t = must_action (is ")" t) bare t

-- the phase in which a bracket's inside begins
unfoldable pub inside : Bool → Phase
inside true = called
inside false = operand

-- what an action makes of what is open, n assignments and the levels ls: the phase, the assignments, the levels
unfoldable pub less_one : ℕ → ℕ
less_one zero = zero
less_one (suc n) = n

unfoldable pub phase_after : Action → Phase
phase_after (stay p) = p
phase_after assigns = operand
phase_after unassigns = operand
phase_after (opens_level b) = inside b
phase_after closes_level = whole
phase_after next_argument = operand
phase_after (astray i) = operand
phase_after beyond = operand

unfoldable pub outside_of : List Level → ℕ
outside_of [] = zero
outside_of (l ∷ ls) = l.outside

unfoldable pub count_after : Action → ℕ → List Level → ℕ
count_after (stay p) n ls = n
count_after assigns n ls = suc n
count_after unassigns n ls = less_one n
count_after (opens_level b) n ls = zero
count_after closes_level n ls = outside_of ls
count_after next_argument n ls = zero
count_after (astray i) n ls = n
count_after beyond n ls = n

unfoldable pub without_level : List Level → List Level
without_level [] = []
without_level (l ∷ ls) = ls

unfoldable pub levels_after : Action → ℕ → List Level → List Level
levels_after (stay p) n ls = ls
levels_after assigns n ls = ls
levels_after unassigns n ls = ls
levels_after (opens_level b) n ls = record { of_call = b; outside = n } ∷ ls
levels_after closes_level n ls = without_level ls
levels_after next_argument n ls = ls
levels_after (astray i) n ls = ls
levels_after beyond n ls = ls

unfoldable pub applied : Action → ℕ → List Level → Step
applied (stay p) n ls = on p (opens n ls)
applied assigns n ls = on operand (opens (suc n) ls)
applied unassigns n ls = on operand (opens (less_one n) ls)
applied (opens_level b) n ls = on (inside b) (opens zero (record { of_call = b; outside = n } ∷ ls))
applied closes_level n ls = on whole (opens (outside_of ls) (without_level ls))
applied next_argument n ls = on operand (opens zero ls)
applied (astray i) n ls = off i
applied beyond n ls = over

-- Finding a level again. The code does not keep all levels: it can go over the tokens from the expression's start on
-- once more, and note of one level what is wanted. Here d levels stand outside the one that is looked for. Up to a
-- place that the pass has come to, what a token does needs no knowledge of the levels.
pub record Note : Type 0 where
  -- how many levels there are, and how many assignments are open within the d-th
  pub depth : ℕ
  pub count : ℕ
  -- the level over the d-th, as it was opened last
  pub of_call : Bool
  pub outside : ℕ

unfoldable pub known : Scopes → Phase → Token → Action
known scopes p t = action scopes p true (some true) t

abbrev pub noted : ℕ → Note → ℕ → Note
noted d r n = record {
  depth = r.depth;
  count = cond (eqb r.depth d) n r.count;
  of_call = r.of_call;
  outside = r.outside;
}

unfoldable pub note : ℕ → Action → Note → Note
note d (stay p) r = r
note d assigns r = noted d r (suc r.count)
note d unassigns r = noted d r (less_one r.count)
note d (opens_level b) r = record {
  depth = suc r.depth;
  count = cond (eqb (suc r.depth) d) zero r.count;
  of_call = cond (eqb r.depth d) b r.of_call;
  outside = cond (eqb r.depth d) r.count r.outside;
}
note d closes_level r =
    record { depth = less_one r.depth; count = r.count; of_call = r.of_call; outside = r.outside }
note d next_argument r = noted d r zero
note d (astray i) r = r
note d beyond r = r

-- the level with d levels outside it
unfoldable pub level_over : ℕ → List Level → Option Level
level_over d [] = none
level_over d (l ∷ ls) = cond (eqb (length ls) d) (some l) (level_over d ls)
