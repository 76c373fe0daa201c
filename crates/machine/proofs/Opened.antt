-- All definitions of this crate opened at once, for theorems that compute: `unfolding machine-opened`.
use Rattle.table.proofs.Opened.{table-opened}
use Rattle.machine.specs.Value.{covers, thing_kind, thing_no, in_range, word32, signed16, eq_z, value_word}
use Rattle.machine.specs.State.{process_at, set_process, started, start_config, start, start_config_with, start_with}
use Rattle.machine.specs.Act.{do_int, do_bool, do_get, do_put, do_drop, do_clear, do_new_q, do_new_c, do_end, do_gate_one, do_gate_two, do_gate, do_meas, do_call, do_ret, do_fork, do_send, do_recv, do_jump, do_j_false, do_add, do_sub, do_eq, do_less, do_not, do_nothing, doings, doing_of, passed_by, scene_of, at_frame, at_frames, by_status, act_of}
use Rattle.machine.specs.Entry.{lost_with, without, frame_without, frames_without, things_of, joins, offered, meets_with, meeting_of, is_gone, gone, judged, counted, making, joined, forking, push_top, handing, meet_in, meet_if_in, applied, effect_of, faulted, fault_in, is_meeting, moves, able, able_in, applied_in, effect_in, forking_in, meeting_in, moves_in}
use Rattle.machine.specs.Run.{all_over, none_able, fits, after_effect, run_from, run, none_able_in, run_from_in, run_in}
use Rattle.machine.specs.Owner.{names, values_of, reaches, holder_after, holder, lines_before, count_kind}
use Rattle.machine.specs.Answer.{result_answer, unless_refused, answer_of, line_words, trace_words, trace_after}
use Rattle.machine.specs.Cases.{table_of, worked_table, worked_schedule, worked_trace, making_qubits, largest_plus, twice_one_qubit, given_during_call, send_to_gone, silent_loop}
use Rattle.machine.specs.Examples.{measuring_once, given_twice, send_to_itself, receive_from, kept_unreached, stopped_child, on_ints, negating, making_channels, making_processes, making_frames, jumping_on_false, reading_emptied}

unfoldable pub machine-opened : Unit {0}
unfolding table-opened covers thing_kind thing_no in_range word32 signed16 eq_z value_word process_at set_process started
    start_config_with start_with do_int do_bool do_get do_put do_drop do_clear do_new_q do_new_c do_end do_gate_one do_gate_two do_gate
    do_meas do_call do_ret do_fork do_send do_recv do_jump do_j_false do_add do_sub do_eq do_less do_not do_nothing doings doing_of
    passed_by scene_of at_frame at_frames by_status act_of lost_with without frame_without frames_without things_of joins offered
    meets_with meeting_in is_gone gone judged counted making joined forking_in push_top handing meet_in meet_if_in applied_in
    effect_in faulted fault_in is_meeting moves_in able_in all_over none_able_in fits after_effect run_from_in run_in names
    values_of reaches holder_after holder result_answer unless_refused answer_of line_words trace_words trace_after table_of
    worked_table worked_schedule worked_trace making_qubits largest_plus twice_one_qubit given_during_call send_to_gone silent_loop
    lines_before count_kind measuring_once given_twice send_to_itself receive_from kept_unreached stopped_child on_ints negating
    making_channels making_processes making_frames jumping_on_false reading_emptied
machine-opened = tt
