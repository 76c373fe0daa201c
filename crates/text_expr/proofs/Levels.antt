-- A step of the pass by levels is the step of PhasesCode.antt on what is open.
use Prim.Native.Nat.{ℕ, zero, suc}
use mathlib.Core.Bool.{Bool, true, false, cond, ◌||◌}
use mathlib.Core.Path.{◌≡◌, refl, sym, ap, ◌∙◌, subst}
use mathlib.Core.List.{List, [], ◌∷◌}
use mathlib.Core.Option.{Option, none, some}
use Rattle.text.specs.Tree.{Name}
use Rattle.text_parse.specs.Tokens.{Token, is, is_name, is_numeral, name_of}
use Rattle.text_parse.specs.Grammar.{Scopes, is_withends}
use Rattle.text_expr.specs.PhasesCode.{Open, assigning, in_brackets, in_call, Phase, operand, whole, bare, named, called, recv₁, measure₁, measure₂, measure₃, measure₄, measure₅, new₁, new₂, new₃, new₄, new₅, new₆, Step, on, off, over, closed, is_operator, ended, after_new, whole_step, bare_step, individual_step, operand_step, named_step, without_call, called_step, must, new_step, step}
use Rattle.text_expr.specs.LevelsCode.{Level, assigned, bracket_of, opens, Action, stay, assigns, unassigns, opens_level, closes_level, next_argument, astray, beyond, innermost, is_open, ended_action, new_action, whole_action, operand_action, named_action, must_action, alloc_action, action, inside, less_one, outside_of, without_level, applied}

closed-assigned : (n : ℕ) (k : List Open) → closed (assigned n k) ≡ closed k
unfolding assigned closed
closed-assigned zero k = refl
closed-assigned (suc n) k = closed-assigned n k

-- what is open once the assignments have ended
closed-opens : (n : ℕ) (ls : List Level) → closed (opens n ls) ≡ opens zero ls
unfolding opens closed assigned bracket_of
closed-opens n [] = closed-assigned n []
closed-opens n (l ∷ ls) =
    closed-assigned n (bracket_of l.of_call ∷ opens l.outside ls) ∙ bracket l.of_call (opens l.outside ls)
  where
    bracket : (b : Bool) (k : List Open) → closed (bracket_of b ∷ k) ≡ bracket_of b ∷ k
    bracket true k = refl
    bracket false k = refl

-- a choice is applied as it is made
applied-cond : (b : Bool) (x y : Action) (n : ℕ) (ls : List Level)
    → applied (cond b x y) n ls ≡ cond b (applied x n ls) (applied y n ls)
applied-cond true x y n ls = refl
applied-cond false x y n ls = refl

-- a token after an expression
ended-level : (n : ℕ) (ls : List Level) (t : Token)
    → ended (opens zero ls) t ≡ applied (ended_action (innermost ls) t) n ls
unfolding opens assigned bracket_of ended ended_action innermost applied outside_of without_level
ended-level n [] t = refl
ended-level n (l ∷ ls) t = by l.of_call
  where
    level : Bool → Level
    level b = record { of_call = b; outside = l.outside }

    by : (b : Bool)
        → ended (opens zero (level b ∷ ls)) t ≡ applied (ended_action (some b) t) n (level b ∷ ls)
    by true =
        sym
        (applied-cond (is "," t) next_argument (cond (is ")" t) closes_level (astray t.at)) n (level true ∷ ls)
        ∙ ap (cond (is "," t) (on operand (opens zero (level true ∷ ls))))
        (applied-cond (is ")" t) closes_level (astray t.at) n (level true ∷ ls)))
    by false = sym (applied-cond (is ")" t) closes_level (astray t.at) n (level false ∷ ls))

-- an operand is read: an operator, or the end
whole-level : (n : ℕ) (ls : List Level) (t : Token)
    → whole_step (opens n ls) t ≡ applied (whole_action (innermost ls) t) n ls
unfolding whole_step whole_action applied
whole-level n ls t =
    ap (cond (is_operator t) (on operand (opens n ls)))
    (ap (λ (k : List Open). ended k t) (closed-opens n ls) ∙ ended-level n ls t)
    ∙ sym (applied-cond (is_operator t) (stay operand) (ended_action (innermost ls) t) n ls)

-- new T() is read
new-level : (n : ℕ) (ls : List Level) (t : Token)
    → after_new (opens n ls) t ≡ applied (new_action (is_open n) (innermost ls) t) n ls
unfolding opens assigned bracket_of after_new new_action is_open innermost applied less_one
new-level zero [] t = refl
new-level zero (l ∷ ls) t = by l.of_call
  where
    by : (b : Bool) → after_new (bracket_of b ∷ opens l.outside ls) t ≡ off t.at
    by true = refl
    by false = refl
new-level (suc n) [] t = refl
new-level (suc n) (l ∷ ls) t = refl

bare-level : (n : ℕ) (ls : List Level) (t : Token)
    → bare_step (opens n ls) t
    ≡ applied (cond (is_operator t) (new_action (is_open n) (innermost ls) t) (ended_action (innermost ls) t)) n ls
unfolding bare_step
bare-level n ls t =
    ap (λ (x : Step). cond (is_operator t) x (ended (closed (opens n ls)) t)) (new-level n ls t)
    ∙ ap (cond (is_operator t) (applied (new_action (is_open n) (innermost ls) t) n ls))
    (ap (λ (k : List Open). ended k t) (closed-opens n ls) ∙ ended-level n ls t)
    ∙ sym (applied-cond (is_operator t) (new_action (is_open n) (innermost ls) t) (ended_action (innermost ls) t) n ls)

-- what is open once a bracket is opened, and once one assignment more is
opened-level : (b : Bool) (n : ℕ) (ls : List Level)
    → opens zero (record { of_call = b; outside = n } ∷ ls) ≡ bracket_of b ∷ opens n ls
unfolding opens assigned
opened-level b n ls = refl

assigned-level : (n : ℕ) (ls : List Level) → opens (suc n) ls ≡ assigning ∷ opens n ls
unfolding opens assigned
assigned-level n [] = refl
assigned-level n (l ∷ ls) = refl

operand-level : (n : ℕ) (ls : List Level) (t : Token)
    → operand_step (opens n ls) t ≡ applied (operand_action t) n ls
unfolding operand_step individual_step operand_action applied inside opens assigned bracket_of
operand-level n ls t =
    by (is "new" t) (is_numeral t) (is "true" t) (is "false" t) (is "(" t) (is "recv" t) (is "measure" t) (is_name t)
  where
    by : (a b c d e f g h : Bool)
        → cond a (on new₁ (opens n ls))
        (cond b (on whole (opens n ls))
        (cond c (on whole (opens n ls))
        (cond d (on whole (opens n ls))
        (cond e (on operand (in_brackets ∷ opens n ls))
        (cond f (on recv₁ (opens n ls))
        (cond g (on measure₁ (opens n ls))
        (cond h (on (named (name_of t)) (opens n ls)) (off t.at))))))))
        ≡ applied
        (cond a (stay new₁)
        (cond b (stay whole)
        (cond c (stay whole)
        (cond d (stay whole)
        (cond e (opens_level false)
        (cond f (stay recv₁)
        (cond g (stay measure₁)
        (cond h (stay (named (name_of t))) (astray t.at)))))))))
        n ls
    by true b c d e f g h = refl
    by false true c d e f g h = refl
    by false false true d e f g h = refl
    by false false false true e f g h = refl
    by false false false false true f g h = refl
    by false false false false false true g h = refl
    by false false false false false false true h = refl
    by false false false false false false false true = refl
    by false false false false false false false false = refl

named-level : (scopes : Scopes) (x : Name) (n : ℕ) (ls : List Level) (t : Token)
    → named_step scopes x (opens n ls) t ≡ applied (named_action scopes x (innermost ls) t) n ls
unfolding named_step named_action applied inside bracket_of
named-level scopes x n ls t = by (is "=" t) (is_withends scopes x) (is "(" t)
  where
    by : (a b c : Bool)
        → cond a (cond b (off x.at) (on operand (assigning ∷ opens n ls)))
        (cond c (on called (in_call ∷ opens n ls)) (whole_step (opens n ls) t))
        ≡ applied
        (cond a (cond b (astray x.at) assigns) (cond c (opens_level true) (whole_action (innermost ls) t))) n ls
    by true true c = refl
    by true false c = sym (ap (on operand) (assigned-level n ls))
    by false b true = sym (ap (on called) (opened-level true n ls))
    by false b false = whole-level n ls t

popped-level : (ls : List Level)
    → on whole (without_call (opens zero ls)) ≡ on whole (opens (outside_of ls) (without_level ls))
unfolding opens assigned without_call outside_of without_level
popped-level [] = refl
popped-level (l ∷ ls) = refl

called-level : (n : ℕ) (ls : List Level) (t : Token)
    → called_step (opens n ls) t ≡ applied (cond (is ")" t) closes_level (operand_action t)) n ls
unfolding called_step applied
called-level n ls t =
    ap (λ (k : List Open). cond (is ")" t) (on whole (without_call k)) (operand_step (opens n ls) t)) (closed-opens n ls)
    ∙ ap (λ (x : Step). cond (is ")" t) x (operand_step (opens n ls) t)) (popped-level ls)
    ∙ ap (cond (is ")" t) (on whole (opens (outside_of ls) (without_level ls)))) (operand-level n ls t)
    ∙ sym (applied-cond (is ")" t) closes_level (operand_action t) n ls)

must-level : (ok : Bool) (p : Phase) (n : ℕ) (ls : List Level) (t : Token)
    → must ok p (opens n ls) t ≡ applied (must_action ok p t) n ls
unfolding must must_action applied
must-level true p n ls t = refl
must-level false p n ls t = refl

recv-level : (n : ℕ) (ls : List Level) (t : Token)
    → must (is "(" t) operand (in_brackets ∷ opens n ls) t
    ≡ applied (cond (is "(" t) (opens_level false) (astray t.at)) n ls
unfolding must applied inside opens assigned bracket_of
recv-level n ls t = by (is "(" t)
  where
    by : (b : Bool)
        → cond b (on operand (in_brackets ∷ opens n ls)) (off t.at)
        ≡ applied (cond b (opens_level false) (astray t.at)) n ls
    by true = refl
    by false = refl

alloc-level : (n : ℕ) (ls : List Level) (t : Token) → new_step (opens n ls) t ≡ applied (alloc_action t) n ls
unfolding new_step alloc_action applied
alloc-level n ls t = by (is "qbit" t) (is "channel" t) (is "channelEnd" t)
  where
    by : (a b c : Bool)
        → cond a (on new₅ (opens n ls))
        (cond b (on new₂ (opens n ls)) (cond c (on new₂ (opens n ls)) (off t.at)))
        ≡ applied (cond a (stay new₅) (cond b (stay new₂) (cond c (stay new₂) (astray t.at)))) n ls
    by true b c = refl
    by false true c = refl
    by false false true = refl
    by false false false = refl

-- every step
pub step-level : (scopes : Scopes) (p : Phase) (n : ℕ) (ls : List Level) (t : Token)
    → step scopes p (opens n ls) t ≡ applied (action scopes p (is_open n) (innermost ls) t) n ls
unfolding step action
step-level scopes operand n ls t = operand-level n ls t
step-level scopes whole n ls t = whole-level n ls t
step-level scopes bare n ls t = bare-level n ls t
step-level scopes (named x) n ls t = named-level scopes x n ls t
step-level scopes called n ls t = called-level n ls t
step-level scopes recv₁ n ls t = recv-level n ls t
step-level scopes measure₁ n ls t = must-level (is "(" t) measure₂ n ls t
step-level scopes measure₂ n ls t = must-level (is "StdBasis" t) measure₃ n ls t
step-level scopes measure₃ n ls t = must-level (is "," t) measure₄ n ls t
step-level scopes measure₄ n ls t = must-level (is_name t) measure₅ n ls t
step-level scopes measure₅ n ls t = must-level (is ")" t) whole n ls t
step-level scopes new₁ n ls t = alloc-level n ls t
step-level scopes new₂ n ls t = must-level (is "[" t) new₃ n ls t
step-level scopes new₃ n ls t = must-level (is "int" t || (is "boolean" t || is "qbit" t)) new₄ n ls t
step-level scopes new₄ n ls t = must-level (is "]" t) new₅ n ls t
step-level scopes new₅ n ls t = must-level (is "(" t) new₆ n ls t
step-level scopes new₆ n ls t = must-level (is ")" t) bare n ls t
