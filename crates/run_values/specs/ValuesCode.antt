-- What the functions on the values of the top frame do to the words of a process's part. These definitions follow the
-- code; what they say of document 01's frames is proved in proofs/.
use Rattle.std.specs.Prelude.{ℕ, Bool, true, false, cond, ◌||◌, List, eqb}
use Rattle.run_store.specs.declared.values.Val.{Val}
use Rattle.run_store.specs.declared.head.Head.{Head}
use Rattle.run_values.specs.declared.steps.StepResult.{StepResult}
use Rattle.run_values.specs.declared.steps.StepResult.TheVariants.{WentOn, NotRunning, AtNewQ, AtNewC, AtGate, AtMeas, AtLastRet, AtFork, AtSend, AtRecv, Empty, FrameBeyond8, OutOfRange}
use Rattle.run_store.specs.StoreCode.{value_at, put_value, put_top, slot_at, top_at, moved_to, stepped, pushed, popped}

-- what a step's answer says: the process went on; it does not run; it stands at SEND; it stands at SEND or RECV
unfoldable pub went_on : StepResult → Bool
went_on WentOn = true
went_on NotRunning = false
went_on AtNewQ = false
went_on AtNewC = false
went_on AtGate = false
went_on AtMeas = false
went_on AtLastRet = false
went_on AtFork = false
went_on AtSend = false
went_on AtRecv = false
went_on Empty = false
went_on FrameBeyond8 = false
went_on OutOfRange = false

unfoldable pub not_running : StepResult → Bool
not_running WentOn = false
not_running NotRunning = true
not_running AtNewQ = false
not_running AtNewC = false
not_running AtGate = false
not_running AtMeas = false
not_running AtLastRet = false
not_running AtFork = false
not_running AtSend = false
not_running AtRecv = false
not_running Empty = false
not_running FrameBeyond8 = false
not_running OutOfRange = false

unfoldable pub is_send : StepResult → Bool
is_send WentOn = false
is_send NotRunning = false
is_send AtNewQ = false
is_send AtNewC = false
is_send AtGate = false
is_send AtMeas = false
is_send AtLastRet = false
is_send AtFork = false
is_send AtSend = true
is_send AtRecv = false
is_send Empty = false
is_send FrameBeyond8 = false
is_send OutOfRange = false

unfoldable pub is_offer : StepResult → Bool
is_offer WentOn = false
is_offer NotRunning = false
is_offer AtNewQ = false
is_offer AtNewC = false
is_offer AtGate = false
is_offer AtMeas = false
is_offer AtLastRet = false
is_offer AtFork = false
is_offer AtSend = true
is_offer AtRecv = true
is_offer Empty = false
is_offer FrameBeyond8 = false
is_offer OutOfRange = false

-- the answer, and the words that a function leaves
pub record AfterStep : Type 0 where
  pub result : StepResult
  pub words : List ℕ

abbrev pub after_step : StepResult → List ℕ → AfterStep
after_step r w = record { result = r; words = w }

abbrev pub empty_val : Val
empty_val = record { tag = 0; number = 0 }

abbrev pub int_val : ℕ → Val
int_val n = record { tag = 1; number = n }

abbrev pub bool_val : ℕ → Val
bool_val n = record { tag = 2; number = n }

-- fault 20 for an emptied value
unfoldable pub unless_empty : Val → List ℕ → AfterStep → AfterStep
unless_empty v w d = cond (eqb v.tag 0) (after_step Empty w) d

-- A value pushed; the top one replaced; the top one off; two off and one on. The frame then stands after its
-- instruction.
unfoldable pub push_on : List ℕ → Head → Val → List ℕ
push_on w h v = put_top (put_value w (top_at h 0) v) (stepped (pushed h))

unfoldable pub on_top : List ℕ → Head → Val → List ℕ
on_top w h v = put_top (put_value w (top_at h 1) v) (stepped h)

unfoldable pub drop_top : List ℕ → Head → List ℕ
drop_top w h = put_top (put_value w (top_at h 1) empty_val) (stepped (popped h))

unfoldable pub over_two : List ℕ → Head → Val → List ℕ
over_two w h v = put_top (put_value (put_value w (top_at h 1) empty_val) (top_at h 2) v) (stepped (popped h))

unfoldable pub in_slot : List ℕ → Head → ℕ → Val → List ℕ
in_slot w h a v = put_top (put_value w (slot_at h a) v) (stepped h)

-- the top one off, and the frame at instruction i
unfoldable pub drop_to : List ℕ → Head → ℕ → List ℕ
drop_to w h i = put_top (put_value w (top_at h 1) empty_val) (moved_to (popped h) i)

-- one of two operands is emptied
unfoldable pub empty_two : List ℕ → Head → Bool
empty_two w h = eqb (value_at w (top_at h 2)).tag 0 || eqb (value_at w (top_at h 1)).tag 0
