-- All definitions of this crate opened at once, for theorems that compute: `unfolding text-opened`.
use Rattle.machine.proofs.Opened.{machine-opened}
use Rattle.text.specs.Tree.{declared_in, declared_by, body_variables, count, index_of, is_main, method_at, number_of, method_of, without_main, mains, main_first, numbered, gate_of}
use Rattle.text.specs.Meaning.{forgotten, invoked, declared, found, value_of, bound_at, has_ends, end_of_found, entered, body_of, started_in, assigned_ends, assigning, operating, calling, forking, measuring, allocating, opening, gating, running_off, sending, receiving, declaring, rule, taken_by, scene_in, moving, first_move, at_top, text_act, variable_without, text_frame_without, value_received, meaning, evaluated, performed}
use Rattle.text.specs.Translation.{operator_op, carried_code, type_code, return_code, truth_word, found_in, slot_of, ends_in, opened, assign_code, drop_code, invoke_code, clear_code, if_code, else_code, while_code, variables_of, hole_of, closing, body_code, method_code, pair_words, hole_type, slot_codes, row_words, rows_words, program_code, code_words, program_table, within, expr_code, code}
use Rattle.text.specs.Names.{use_fault, call_fault, invoke_fault, twice_faults, extended, method_faults, methods_faults, main_fault, name_faults, lower, lowest, name_refusal, expr_faults, statement_faults}
use Rattle.text.specs.Limits.{code_kept, method_kept, first_over, limit_refusal, expr_numbers, numbers_in}
use Rattle.text.specs.Statement.{text_table}

unfoldable pub text-opened : Unit {0}
unfolding machine-opened declared_in declared_by body_variables count index_of is_main method_at number_of method_of without_main
    mains main_first numbered gate_of forgotten invoked declared found value_of bound_at has_ends end_of_found entered body_of
    started_in assigned_ends assigning operating calling forking measuring allocating opening gating running_off sending
    receiving declaring rule taken_by scene_in moving first_move at_top text_act variable_without text_frame_without
    value_received meaning evaluated performed operator_op carried_code type_code return_code truth_word found_in slot_of ends_in
    opened assign_code drop_code invoke_code clear_code if_code else_code while_code variables_of hole_of closing body_code
    method_code pair_words hole_type slot_codes row_words rows_words program_code code_words program_table within expr_code code
    use_fault call_fault invoke_fault twice_faults extended method_faults methods_faults main_fault name_faults lower lowest
    name_refusal expr_faults statement_faults code_kept method_kept first_over limit_refusal expr_numbers numbers_in text_table
text-opened = tt
