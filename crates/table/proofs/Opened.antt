-- All definitions of this crate opened at once, for theorems that compute: `unfolding table-opened`.
use Rattle.lists.specs.Lists.{first_false, all_below, first_some, below}
use Rattle.table.specs.Table.{word, methods, instructions, offset_of, length_of, end_of, row, return_of, params_of, slot_type, slot_types, param_types, op_at, arg_at, owner_of, is_type}
use Rattle.table.specs.Ops.{returned, gate_qubits, op_int, op_bool, op_get, op_put, op_drop, op_clear, op_new_q, op_new_c, op_end, op_gate, op_meas, op_call, op_ret, op_fork, op_send, op_recv, op_jump, op_j_false, op_arith, op_compare, op_not, unlisted, ops, op_of}
use Rattle.table.specs.Reading.{taken_at, given_at, after, opens, is_last, before, jumps_to, is_target, reads}
use Rattle.table.specs.Questions.{and_then, whole, first_of, sizes_kept, question1, start_of, pair_kept, question2, slot_kept, row_kept, question3, instruction_kept, question4, question5, question6, question7, question8, table_questions, questions}

unfoldable pub table-opened : Unit {0}
unfolding first_false all_below first_some below word methods instructions offset_of length_of end_of row return_of params_of
    slot_type slot_types param_types op_at arg_at owner_of is_type returned gate_qubits op_int op_bool op_get op_put op_drop op_clear
    op_new_q op_new_c op_end op_gate op_meas op_call op_ret op_fork op_send op_recv op_jump op_j_false op_arith op_compare op_not
    unlisted ops op_of taken_at given_at after opens is_last before jumps_to is_target reads and_then whole first_of sizes_kept
    question1 start_of pair_kept question2 slot_kept row_kept question3 instruction_kept question4 question5 question6
    question7 question8 table_questions questions
table-opened = tt
