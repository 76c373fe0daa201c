-- The pass over an expression by places: where it stands, and where it comes to. These definitions follow the code.
use Rattle.std.specs.Prelude.{ℕ, ◌≡◌, true, List, [], Result, Ok, Err}
use Rattle.text_parse.specs.Grammar.{Scopes, first}
use Rattle.text_tokens.specs.Places.{tokens_at}
use Rattle.text_tokens.specs.NextCode.{next_at}
use Rattle.text_expr.specs.PhasesCode as P
use Rattle.text_expr.specs.LevelsCode.{Level, Action, innermost, is_open, action, phase_after, count_after, levels_after}
use Rattle.text_expr.proofs.Notes.{Continues}
use Rattle.text_effect.specs.EffectCode.{phase_in}
use Rattle.text_window.specs.WindowCode.{Window, Held, asks_level}
use Rattle.text_effect.specs.declared.phase.Phase.{Phase}
use Rattle.text_effect.specs.declared.phase.Effect.{Effect}
use Rattle.text_effect.specs.declared.phase.Effect.TheVariants.{Stay, Assigns, Unassigns, OpensBracket, OpensCall, Closes, NextArgument, Astray, Beyond}
use Rattle.text_types.specs.declared.place.GrammarError.{GrammarError}

-- a place, the phase there, the assignments that are open within the innermost level, and the levels
pub record State : Type 0 where
  pub at : ℕ
  pub phase : P.Phase
  pub count : ℕ
  pub levels : List Level

abbrev pub begins : ℕ → State
begins from = record { at = from; phase = P.operand; count = 0; levels = [] }

-- what the next token does
abbrev pub doing : Scopes → List ℕ → State → Action
doing scopes text s =
    action scopes s.phase (is_open s.count) (innermost s.levels) (first (tokens_at text s.at))

-- after it
abbrev pub after : Scopes → List ℕ → State → State
after scopes text s = record {
  at = (next_at text s.at).end;
  phase = phase_after (doing scopes text s);
  count = count_after (doing scopes text s) s.count s.levels;
  levels = levels_after (doing scopes text s) s.count s.levels;
}

-- the pass goes on from one state to another, by some tokens or none
pub data Leads (scopes : Scopes) (text : List ℕ) : State → State → Type 0 where
  there : {s : State} → Leads scopes text s s
  further : {s t : State} → Continues (doing scopes text s) → Leads scopes text (after scopes text s) t
      → Leads scopes text s t

-- The pass that began at `from` has come to a place and a phase, and what is kept of the levels there is right.
pub record Standing
    (scopes : Scopes)
    (text : List ℕ)
    (from at : ℕ)
    (phase : Phase)
    (room low depth : ℕ)
    (counts brackets : List ℕ)
    : Type 0
  where
    pub count : ℕ
    pub levels : List Level
    pub leads :
        Leads scopes text (begins from)
        (record { at = at; phase = phase_in text phase; count = count; levels = levels })
    pub window : Window room low depth counts brackets count levels

-- a token of this kind finds the levels that it asks for
abbrev pub Ready : Phase → ℕ → ℕ → ℕ → ℕ → Type 0
Ready phase kind room low depth = asks_level phase kind ≡ true → Held room low depth

-- the answer at an effect that stops the pass
unfoldable pub answer_of : ℕ → Effect → Result ℕ GrammarError
answer_of at (Stay p) = Ok at
answer_of at Assigns = Ok at
answer_of at Unassigns = Ok at
answer_of at OpensBracket = Ok at
answer_of at OpensCall = Ok at
answer_of at Closes = Ok at
answer_of at NextArgument = Ok at
answer_of at (Astray i) = Err (record { at = i })
answer_of at Beyond = Ok at
