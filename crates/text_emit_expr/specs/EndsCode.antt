-- What is asked of the end of an emission, and how one state leads to another. This follows the code.
use Rattle.std.specs.Prelude.{ℕ, suc, ◌+◌, ◌*◌, ◌-◌, ◌≤◌, ◌<◌, ◌≡◌, Bool, true, false, cond, ◌&&◌, ◌||◌, ◌⊎◌, List, [], ◌∷◌, eqb, leb, ltb, length, get_or}
use Rattle.std.proofs.Math.Option.{none}
use Rattle.lists.specs.Lists.{every, put_from}
use Rattle.text.specs.Translation.{Instruction, code_words, Scope}
use Rattle.text_parse.specs.Tokens.{Token}
use Rattle.text_parse.specs.Grammar.{Reading, read, Scopes, operator_at}
use Rattle.text_tokens.specs.Places.{tokens_at}
use Rattle.text_slots.specs.Placing.{Placing}
use Rattle.text_numbering.specs.CodeBy.{number_fits}
use Rattle.text_emit_expr.specs.RestCode.{Frame, rest_of, frames_in}
use Rattle.text_emit_expr.specs.declared.state.StateAt.{StateAt}

-- the answer: whether the code fits, the place after the expression, the instructions in the buffer, and the buffer
pub record Answer : Type 0 where
  pub ok : Bool
  pub at : ℕ
  pub count : ℕ
  pub code : List ℕ

-- The answer where the instructions c are still to be written, and the tokens us come after them: ok says that they fit
-- and that no number is too large; then they stand in the buffer from instruction `count` on.
pub record Outcome (text : List ℕ) (low count : ℕ) (code : List ℕ) (c : List Instruction) (us : List Token) (r : Answer)
    : Type 0 where
  pub judged : r.ok ≡ (leb (count + length c) 4096 && every number_fits c)
  pub left : r.ok ≡ true → us ≡ tokens_at text r.at
  pub onward : r.ok ≡ true → low ≤ r.at
  pub inside : r.ok ≡ true → r.at ≤ length text
  pub counted : r.ok ≡ true → r.count ≡ count + length c
  pub written : r.ok ≡ true → r.code ≡ put_from code (2 * count) (code_words c)

abbrev pub Ends : List ℕ → ℕ → ℕ → List ℕ → Reading (List Instruction) → Answer → Type 0
Ends text low count code m r = (c : List Instruction) (us : List Token) → m ≡ read c us
    → Outcome text low count code c us r

-- the frames of a state
abbrev pub frames_of : List ℕ → StateAt → List Frame
frames_of p s = frames_in p s.entries s.unclosed

-- an operand has a token at least
abbrev pub lowest : StateAt → ℕ
lowest s = cond (eqb s.phase 0) (suc s.at) s.at

-- the answer is one from this state on
abbrev pub EndsFrom : Scopes → Scope → List ℕ → List ℕ → List ℕ → StateAt → Answer → Type 0
EndsFrom scopes sc text p code s r =
    Ends text (lowest s) s.count code (rest_of scopes sc s.phase (frames_of p s) (tokens_at text s.at)) r

-- every answer from the state s' on is one from s on
abbrev pub Leads : Scopes → Scope → List ℕ → List ℕ → List ℕ → StateAt → List ℕ → List ℕ → StateAt → Type 0
Leads scopes sc text p code s p' code' s' =
    (r : Answer) → EndsFrom scopes sc text p' code' s' r → EndsFrom scopes sc text p code s r

-- what holds of each state
pub record Standing (text p : List ℕ) (s : StateAt) : Type 0 where
  pub inside : s.at ≤ length text
  -- each frame took a token
  pub shallow : length (frames_of p s) ≤ s.at
  pub room : s.count ≤ 4096
  pub few : s.entries ≤ 4096
  pub spacious : 12288 ≤ length p

-- The code would be too long, or a number is too large: what is asked of the answer alone is that it says so.
abbrev pub gave_up : StateAt → StateAt
gave_up s = record { phase = 4; at = s.at; unclosed = 0; entries = 0; count = s.count }

-- the phase and the place alone change
abbrev pub gone : StateAt → ℕ → ℕ → StateAt
gone s phase at = record { phase = phase; at = at; unclosed = s.unclosed; entries = s.entries; count = s.count }

-- a bracket is open, and an operand is to come
abbrev pub opened : StateAt → ℕ → StateAt
opened s at = record { phase = 0; at = at; unclosed = s.unclosed + 1; entries = s.entries; count = s.count }

-- the innermost bracket is closed, and an operand has ended
abbrev pub bracket_closed : StateAt → ℕ → StateAt
bracket_closed s at = record { phase = 1; at = at; unclosed = s.unclosed - 1; entries = s.entries; count = s.count }

-- the op of an operator by the kind of its token, 0 for what is no operator
unfoldable pub operator_word : ℕ → ℕ
operator_word kind =
    cond (eqb kind 27) 19 (cond (eqb kind 28) 20 (cond (eqb kind 30) 21 (cond (eqb kind 31) 22 0)))

-- an instruction is written
pub data Emission (code : List ℕ) (s : StateAt) (i : Instruction) (phase at : ℕ) (code' : List ℕ) (s' : StateAt)
    : Type 0 where
  emitted : s.count < 4096
      → s' ≡ record { phase = phase; at = at; unclosed = s.unclosed; entries = s.entries; count = s.count + 1 }
      → code' ≡ put_from code (2 * s.count) (i.op ∷ i.argument ∷ []) → Emission code s i phase at code' s'
  too_many : 4096 ≤ s.count → s' ≡ gave_up s → Emission code s i phase at code' s'

-- an instruction waits from now on, and an operand is to come
pub data Push (p : List ℕ) (s : StateAt) (o a at : ℕ) (p' : List ℕ) (s' : StateAt) : Type 0 where
  pushed : s.entries < 4096
      → s' ≡ record { phase = 0; at = at; unclosed = 0; entries = s.entries + 1; count = s.count }
      → p' ≡ put_from p (3 * s.entries) (o ∷ a ∷ s.unclosed ∷ []) → Push p s o a at p' s'
  too-deep : 4096 ≤ s.entries → p' ≡ p → s' ≡ gave_up s → Push p s o a at p' s'

-- the op that waits innermost; 0 where a bracket is open above it, or none waits
unfoldable pub top_of : List ℕ → StateAt → ℕ
top_of p s = cond (ltb 0 s.unclosed) 0 (cond (eqb s.entries 0) 0 (get_or p (3 * (s.entries - 1)) 0))

-- the instruction that waits innermost is written
pub data Pop (p code : List ℕ) (s : StateAt) (phase at : ℕ) (code' : List ℕ) (s' : StateAt) : Type 0 where
  popped : s.count < 4096
      → s' ≡ record {
        phase = phase;
        at = at;
        unclosed = get_or p (3 * (s.entries - 1) + 2) 0;
        entries = s.entries - 1;
        count = s.count + 1;
      }
      → code' ≡ put_from code (2 * s.count)
      (get_or p (3 * (s.entries - 1)) 0 ∷ get_or p (3 * (s.entries - 1) + 1) 0 ∷ []) → Pop p code s phase at code' s'
  no_place : 4096 ≤ s.count → s' ≡ gave_up s → Pop p code s phase at code' s'

-- what waits for the end of an expression: an operator's op, and PUT where it is asked for
abbrev pub goes : ℕ → Bool → Bool
goes op puts = leb 19 op || (eqb op 4 && puts)

-- What is written where an expression has ended. PUTs are where no operator follows.
pub record Flush (p code : List ℕ) (s : StateAt) (puts : Bool) (code' : List ℕ) (s' : StateAt) : Type 0 where
  pub stands : (text : List ℕ) → Standing text p s → Standing text p s'
  pub leads : (scopes : Scopes) (sc : Scope) (text : List ℕ)
      → (puts ≡ true → operator_at (tokens_at text s.at) ≡ none) → Leads scopes sc text p code s p code' s'
  pub phase : (s'.phase ≡ 4) ⊎ ((s'.phase ≡ 2) × (goes (top_of p s') puts ≡ false))
  pub at : s'.at ≡ s.at

-- What a step ensures, with the variables in scope as they stand in `scope`.
pub record Steps (text scope : List ℕ) (n : ℕ) (p code : List ℕ) (s : StateAt) (p' code' : List ℕ) (s' : StateAt)
    : Type 0 where
  pub stands : Standing text p s → Standing text p' s'
  pub onward : s'.phase < 3 → s.at < s'.at
  pub back : s.at ≤ s'.at
  pub leads : Standing text p s → n ≤ 16 → (scopes : Scopes) (sc : Scope) → Placing text scope n sc
      → Leads scopes sc text p code s p' code' s'

-- the same where the stack is left alone; where the variables in scope do not matter; where the buffer is left alone
abbrev pub CodeSteps : List ℕ → List ℕ → ℕ → List ℕ → StateAt → List ℕ → StateAt → Type 0
CodeSteps text scope n code s code' s' = (p : List ℕ) → Steps text scope n p code s p code' s'

abbrev pub ValueSteps : List ℕ → List ℕ → StateAt → List ℕ → StateAt → Type 0
ValueSteps text code s code' s' = (scope : List ℕ) (n : ℕ) → CodeSteps text scope n code s code' s'

abbrev pub StackSteps : List ℕ → List ℕ → StateAt → List ℕ → StateAt → Type 0
StackSteps text p s p' s' = (scope : List ℕ) (n : ℕ) (code : List ℕ) → Steps text scope n p code s p' code s'

abbrev pub CallSteps : List ℕ → List ℕ → List ℕ → StateAt → List ℕ → List ℕ → StateAt → Type 0
CallSteps text p code s p' code' s' = (scope : List ℕ) (n : ℕ) → Steps text scope n p code s p' code' s'
