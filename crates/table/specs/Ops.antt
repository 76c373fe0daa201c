-- Document 01's table of ops, as the check reads it: what each op's argument may be, and its rule of types.
-- One record for each rule of types, in the paper's order; a new op is one more entry of `ops`. What the ops do is in
-- the crate machine.
--
-- A rule of types says how many pending values an op takes, which types it gives for the types taken
-- (listed from the top down), or that the types taken are none it wants.
use Rattle.std.specs.Prelude.{ℕ, ◌+◌, Bool, true, false, cond, ◌&&◌, not, List, [], ◌∷◌, reverse, get_or, length, eqb, leb, ltb}
use Rattle.std.proofs.Math.Option.{Option, none, some}
use Rattle.lists.specs.Lists.{same}
use Rattle.table.specs.Table.{methods, length_of, return_of, params_of, slot_type, param_types, is_carried, is_channel, is_end, carried_by, end_of_channel}

-- The three functions take the table, the method that the instruction belongs to, and the argument.
pub record Op : Type 0 where
  pub argument : List ℕ → ℕ → ℕ → Bool
  pub takes : List ℕ → ℕ → ℕ → ℕ
  pub gives : List ℕ → ℕ → ℕ → List ℕ → Option (List ℕ)
  -- "hold none after DROP, CLEAR, RET, FORK, SEND, JUMP and JFALSE"
  pub bare : Bool
  -- its argument is a jump's target
  pub jumps : Bool
  -- "close on RET or JUMP"
  pub closes : Bool

-- What an argument may be.
abbrev any_word : List ℕ → ℕ → ℕ → Bool
any_word p m a = true

abbrev zero_only : List ℕ → ℕ → ℕ → Bool
zero_only p m a = eqb a 0

abbrev zero_or_one : List ℕ → ℕ → ℕ → Bool
zero_or_one p m a = leb a 1

abbrev used_slot : List ℕ → ℕ → ℕ → Bool
used_slot p m a = ltb a 16 && not (eqb (slot_type p m a) 0)

abbrev carried_type : List ℕ → ℕ → ℕ → Bool
carried_type p m a = is_carried a

abbrev gate_number : List ℕ → ℕ → ℕ → Bool
gate_number p m a = leb 1 a && leb a 8

abbrev method_number : List ℕ → ℕ → ℕ → Bool
method_number p m a = ltb a (methods p)

abbrev target_inside : List ℕ → ℕ → ℕ → Bool
target_inside p m a = ltb a (length_of p m)

-- What the types taken must be, for a rule that gives ts: exactly ws, from the top down.
abbrev wanting : List ℕ → List ℕ → List ℕ → Option (List ℕ)
wanting ws ts xs = cond (same xs ws) (some ts) none

-- the types that stand on the pending values for a return of type t: none for void
unfoldable pub returned : ℕ → List ℕ
returned t = cond (eqb t 0) [] (t ∷ [])

-- "1 X, 2 Y, 3 Z, 4 H, 5 S, 6 CX, 7 CZ, 8 SWAP": "one qubit off for 1 to 5, else two"
abbrev pub one_qubit : ℕ → Bool
one_qubit g = leb g 5

unfoldable pub gate_qubits : ℕ → ℕ
gate_qubits g = cond (one_qubit g) 1 2

abbrev none-taken : List ℕ → ℕ → ℕ → ℕ
none-taken p m a = 0

abbrev one-taken : List ℕ → ℕ → ℕ → ℕ
one-taken p m a = 1

abbrev two-taken : List ℕ → ℕ → ℕ → ℕ
two-taken p m a = 2

-- The ops that only push, or only work on ints and booleans, want fixed types.
abbrev plain : List ℕ → List ℕ → Op
plain ws ts = record {
  argument = zero_only;
  takes = λ p m a. length ws;
  gives = λ p m a. wanting ws ts;
  bare = false;
  jumps = false;
  closes = false;
}

unfoldable pub op_int : Op
op_int = record {
  argument = any_word;
  takes = none-taken;
  gives = λ p m a xs. some (1 ∷ []);
  bare = false;
  jumps = false;
  closes = false;
}

unfoldable pub op_bool : Op
op_bool = record {
  argument = zero_or_one;
  takes = none-taken;
  gives = λ p m a xs. some (2 ∷ []);
  bare = false;
  jumps = false;
  closes = false;
}

unfoldable pub op_get : Op
op_get = record {
  argument = used_slot;
  takes = none-taken;
  gives = λ p m a xs. some (slot_type p m a ∷ []);
  bare = false;
  jumps = false;
  closes = false;
}

unfoldable pub op_put : Op
op_put = record {
  argument = used_slot;
  takes = one-taken;
  gives = λ p m a. wanting (slot_type p m a ∷ []) (slot_type p m a ∷ []);
  bare = false;
  jumps = false;
  closes = false;
}

-- DROP takes a value of any type.
unfoldable pub op_drop : Op
op_drop = record {
  argument = zero_only;
  takes = one-taken;
  gives = λ p m a xs. some [];
  bare = true;
  jumps = false;
  closes = false;
}

unfoldable pub op_clear : Op
op_clear = record {
  argument = used_slot;
  takes = none-taken;
  gives = λ p m a xs. some [];
  bare = true;
  jumps = false;
  closes = false;
}

unfoldable pub op_new_q : Op
op_new_q = plain [] (3 ∷ [])

unfoldable pub op_new_c : Op
op_new_c = record {
  argument = carried_type;
  takes = none-taken;
  gives = λ p m a xs. some ((16 + a) ∷ []);
  bare = false;
  jumps = false;
  closes = false;
}

unfoldable pub op_end : Op
op_end = record {
  argument = zero_or_one;
  takes = one-taken;
  gives = λ p m a xs. cond (is_channel (get_or xs 0 0)) (some (end_of_channel (get_or xs 0 0) ∷ [])) none;
  bare = false;
  jumps = false;
  closes = false;
}

unfoldable pub op_gate : Op
op_gate = record {
  argument = gate_number;
  takes = λ p m a. gate_qubits a;
  gives = λ p m a. cond (one_qubit a) (wanting (3 ∷ []) []) (wanting (3 ∷ 3 ∷ []) []);
  bare = false;
  jumps = false;
  closes = false;
}

unfoldable pub op_meas : Op
op_meas = plain (3 ∷ []) (1 ∷ [])

unfoldable pub op_call : Op
op_call = record {
  argument = method_number;
  takes = λ p m a. params_of p a;
  gives = λ p m a. wanting (reverse (param_types p a)) (returned (return_of p a));
  bare = false;
  jumps = false;
  closes = false;
}

unfoldable pub op_ret : Op
op_ret = record {
  argument = zero_only;
  takes = λ p m a. length (returned (return_of p m));
  gives = λ p m a. wanting (returned (return_of p m)) [];
  bare = true;
  jumps = false;
  closes = true;
}

unfoldable pub op_fork : Op
op_fork = record {
  argument = method_number;
  takes = λ p m a. params_of p a;
  gives = λ p m a. wanting (reverse (param_types p a)) [];
  bare = true;
  jumps = false;
  closes = false;
}

-- SEND takes the value above its end.
unfoldable pub op_send : Op
op_send = record {
  argument = zero_only;
  takes = two-taken;
  gives = λ p m a xs. cond (is_end (get_or xs 1 0) && eqb (get_or xs 0 0) (carried_by (get_or xs 1 0))) (some []) none;
  bare = true;
  jumps = false;
  closes = false;
}

unfoldable pub op_recv : Op
op_recv = record {
  argument = zero_only;
  takes = one-taken;
  gives = λ p m a xs. cond (is_end (get_or xs 0 0)) (some (carried_by (get_or xs 0 0) ∷ [])) none;
  bare = false;
  jumps = false;
  closes = false;
}

unfoldable pub op_jump : Op
op_jump = record {
  argument = target_inside;
  takes = none-taken;
  gives = λ p m a xs. some [];
  bare = true;
  jumps = true;
  closes = true;
}

unfoldable pub op_j_false : Op
op_j_false = record {
  argument = target_inside;
  takes = one-taken;
  gives = λ p m a. wanting (2 ∷ []) [];
  bare = true;
  jumps = true;
  closes = false;
}

unfoldable pub op_arith : Op
op_arith = plain (1 ∷ 1 ∷ []) (1 ∷ [])

unfoldable pub op_compare : Op
op_compare = plain (1 ∷ 1 ∷ []) (2 ∷ [])

unfoldable pub op_not : Op
op_not = plain (2 ∷ []) (2 ∷ [])

-- what stands for a number that is no op: no argument is in range
unfoldable pub unlisted : Op
unlisted = record {
  argument = λ p m a. false;
  takes = none-taken;
  gives = λ p m a xs. none;
  bare = false;
  jumps = false;
  closes = false;
}

-- 01's table, from op 0, which is no op, to op 23
unfoldable pub ops : List Op
ops =
    unlisted
    ∷ op_int ∷ op_bool ∷ op_get ∷ op_put ∷ op_drop ∷ op_clear
    ∷ op_new_q ∷ op_new_c ∷ op_end ∷ op_gate ∷ op_meas
    ∷ op_call ∷ op_ret ∷ op_fork ∷ op_send ∷ op_recv
    ∷ op_jump ∷ op_j_false
    ∷ op_arith ∷ op_arith ∷ op_compare ∷ op_compare ∷ op_not
    ∷ []

unfoldable pub op_of : ℕ → Op
op_of n = get_or ops n unlisted
