-- A frame of a table and a frame of a text that stand for each other: the same method, code that follows the terms from
-- the table's place on, slots that show the variables, and the same pending values.
use Prim.Native.Nat.{ℕ, suc, ◌+◌, ◌<◌}
use native.Mathlib.Omega.{arith}
use mathlib.Core.Path.{◌≡◌, refl, subst}
use mathlib.Core.List.{List, [], ◌∷◌, ◌++◌, map}
use mathlib.Core.Option.{some}
use lib.ListN.{get_or, set, drop}
use Rattle.table.specs.Table.{offset_of}
use Rattle.machine.specs.Value.{Thing, Value, empty}
use Rattle.machine.specs.State.{Frame, with_pending}
use Rattle.machine.specs.Entry.{without, frame_without, frames_without, push_top}
use Rattle.simulation.specs.Simulation.{no_more, one_more, FramesLike}
use Rattle.text.specs.Tree.{Method, Program, Declared, method_at}
use Rattle.text.specs.Meaning.{Term, Variable, TextFrame, is_some, bound_at, fresh, with_values, variable_without, text_frame_without, value_received}
use Rattle.text.specs.Translation.{Scope, placed_slot, placed, hole_of, program_table}
use Rattle.text.proofs.Scopes.{Below}
use Rattle.text.proofs.Follows.{Follows}
use Rattle.text.proofs.Variables.{Slots, slots_set, slots-declare, slots-drop, slots-without}

-- Where both frames stand: at instruction `at` of their method, which is `place` in the table.
pub record Stand (ms : Program) : Type 0 where
  pub number : ℕ
  pub method : Method
  pub is-method : method_at ms number ≡ some method
  pub at : ℕ
  pub place : ℕ
  pub here : place ≡ offset_of (program_table ms) number + at
  pub scope : Scope
  pub slots : List Value
  pub variables : List Variable
  pub shown : Slots (hole_of method) slots scope variables
  pub values : List Value

-- The two frames that stand there
module _ {ms : Program} (w : Stand ms) where
  abbrev pub table-frame : Frame
  table-frame = record { method = w.number; place = w.place; slots = w.slots; pending = w.values }

  -- the text's, with these terms
  abbrev pub text-frame : List Term → TextFrame
  text-frame ts = record {
    terms = ts;
    variables = w.variables;
    values = w.values;
    gives = is_some w.method.returns;
  }

  -- the code of their method follows these terms from instruction i on
  abbrev pub FollowsFrom : List Term → ℕ → Type 0
  FollowsFrom ts i = Follows ms w.method ts w.scope i

pub data Like (ms : Program) : Frame → TextFrame → Type 0 where
  like : (w : Stand ms) (ts : List Term) → FollowsFrom w ts w.at → Like ms (table-frame w) (text-frame w ts)

-- Both frames changed alike

-- the place after one
pub next_place : (place offset at : ℕ) → place ≡ offset + at → suc place ≡ offset + suc at
next_place place offset at e = omega arith

module _ {ms : Program} (w : Stand ms) where
  -- with other values
  abbrev pub with-values : List Value → Stand ms
  with-values vs = record {
    number = w.number;
    method = w.method;
    is-method = w.is-method;
    at = w.at;
    place = w.place;
    here = w.here;
    scope = w.scope;
    slots = w.slots;
    variables = w.variables;
    shown = w.shown;
    values = vs;
  }

  -- at another instruction
  abbrev at_place : (i place : ℕ) → place ≡ offset_of (program_table ms) w.number + i → Stand ms
  at_place i place here = record {
    number = w.number;
    method = w.method;
    is-method = w.is-method;
    at = i;
    place = place;
    here = here;
    scope = w.scope;
    slots = w.slots;
    variables = w.variables;
    shown = w.shown;
    values = w.values;
  }

  -- with other variables in scope
  abbrev with-variables : (sc : Scope) (slots : List Value) (ws : List Variable)
      → Slots (hole_of w.method) slots sc ws → Stand ms
  with-variables sc slots ws shown = record {
    number = w.number;
    method = w.method;
    is-method = w.is-method;
    at = w.at;
    place = w.place;
    here = w.here;
    scope = sc;
    slots = slots;
    variables = ws;
    shown = shown;
    values = w.values;
  }

module _ {ms : Program} (w : Stand ms) where
  -- at the next instruction
  abbrev pub passed_on : Stand ms
  passed_on =
      at_place w (suc w.at) (suc w.place)
      (next_place w.place (offset_of (program_table ms) w.number) w.at w.here)

  -- at instruction i of the method
  abbrev pub jumped : ℕ → Stand ms
  jumped i = at_place w i (offset_of (program_table ms) w.number + i) refl

  -- at the next instruction, with these values
  abbrev pub passed-with : List Value → Stand ms
  passed-with vs = with-values passed_on vs

  -- a value stored in the variable after i others, which the text's side finds after j
  abbrev pub stored : (i j : ℕ) (v : Value) → i ≡ j → Stand ms
  stored i j v same =
      let slots : List Value = set w.slots (get_or (map placed_slot w.scope) i 16) v in
      with-variables w w.scope slots (bound_at j v w.variables)
      (subst (λ (k : ℕ). Slots (hole_of w.method) slots w.scope (bound_at k v w.variables)) same
      (slots_set w.shown i v))

  -- a variable declared, whose slot is above those in scope
  abbrev pub declared-at : (d : Declared) (i : ℕ) → Below i w.scope → i < hole_of w.method → Stand ms
  declared-at d i below inside =
      with-variables w (placed d i ∷ w.scope) (set w.slots i empty) (fresh d empty ∷ w.variables)
      (slots-declare w.shown d i below inside)

  -- the last k variables out of scope
  abbrev pub out-of-scope : ℕ → Stand ms
  out-of-scope k =
      with-variables w (drop k w.scope) w.slots (drop k w.variables) (slots-drop k w.shown)

  -- things given away
  abbrev pub stand-without : List Thing → Stand ms
  stand-without ts =
      with-values
      (with-variables w w.scope (map (without ts) w.slots) (map (variable_without ts) w.variables)
      (slots-without ts w.shown))
      (map (without ts) w.values)

-- the frames at the next instruction, with these values and terms, on frames that are alike
module _ {ms : Program} (w : Stand ms) {fs : List Frame} {gs : List TextFrame}
    (callers : FramesLike (Like ms) fs gs) where
  pub passed-like : (ts : List Term) (vs : List Value) → FollowsFrom w ts (suc w.at)
      → FramesLike (Like ms) (table-frame (passed-with w vs) ∷ fs) (text-frame (passed-with w vs) ts ∷ gs)
  passed-like ts vs follows = one_more (like (passed-with w vs) ts follows) callers

-- Frames stay alike when things are given away, and when a value is received or returned

-- one frame
without-like : (ms : Program) (ts : List Thing) {f : Frame} {g : TextFrame} → Like ms f g
    → Like ms (frame_without ts f) (text_frame_without ts g)
unfolding frame_without text_frame_without
without-like ms ts (like w us follows) = like (stand-without w ts) us follows

-- all frames of a process
pub all-without-like : (ms : Program) (ts : List Thing) {fs : List Frame} {gs : List TextFrame}
    → FramesLike (Like ms) fs gs → FramesLike (Like ms) (frames_without ts fs) (map (text_frame_without ts) gs)
unfolding frames_without
all-without-like ms ts no_more = no_more
all-without-like ms ts (one_more h hs) = one_more (without-like ms ts h) (all-without-like ms ts hs)

-- with more values
pub more-like : (ms : Program) (vs : List Value) {f : Frame} {g : TextFrame} → Like ms f g
    → Like ms (with_pending (vs ++ f.pending) f) (with_values (vs ++ g.values) g)
more-like ms vs (like w us follows) = like (with-values w (vs ++ w.values)) us follows

-- with a value received by the top frame
pub received-like : (ms : Program) (v : Value) {fs : List Frame} {gs : List TextFrame} → FramesLike (Like ms) fs gs
    → FramesLike (Like ms) (push_top v fs) (value_received v gs)
unfolding push_top value_received
received-like ms v no_more = no_more
received-like ms v (one_more h hs) = one_more (more-like ms (v ∷ []) h) hs
