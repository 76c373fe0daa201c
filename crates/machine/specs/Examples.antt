-- Small runs beside P1 to P12, each for a point on which a wrong definition would keep to all of those. They are proved
-- together in proofs/Examples.antt.
use Rattle.std.specs.Prelude.{ℕ, ◌≡◌, true, false, List, [], ◌∷◌, ◌++◌, take, replicate, pos, negsuc}
use Rattle.std.proofs.Math.Option.{some}
use Rattle.table.specs.Questions.{accepted, refused, questions}
use Rattle.machine.specs.Value.{qubit, int, bool}
use Rattle.machine.specs.State.{Line}
use Rattle.machine.specs.Run.{run}
use Rattle.machine.specs.Owner.{holder, lines_before}
use Rattle.machine.specs.Answer.{refusal, ran, answer_of}
use Rattle.machine.specs.Cases.{table_of, main_only, worked_table, silent_loop, answer, written, last_line, pending_of}

-- NEWQ, MEAS, DROP
unfoldable pub measuring_once : List ℕ
measuring_once = main_only [] (7 ∷ 0 ∷ 11 ∷ 0 ∷ 5 ∷ 0 ∷ 13 ∷ 0 ∷ [])

-- NEWQ, PUT q, GET q, FORK of a method with two qubits
unfoldable pub given_twice : List ℕ
given_twice =
    table_of
    (record { returns = 0; params = 0; slots = 3 ∷ []; code = 7 ∷ 0 ∷ 4 ∷ 0 ∷ 3 ∷ 0 ∷ 14 ∷ 1 ∷ 13 ∷ 0 ∷ [] }
    ∷ record { returns = 0; params = 2; slots = 3 ∷ 3 ∷ []; code = 13 ∷ 0 ∷ [] }
    ∷ [])

-- NEWC, END 0, INT 7, SEND: nobody but main ever holds the other end
unfoldable pub send_to_itself : List ℕ
send_to_itself = main_only [] (8 ∷ 1 ∷ 9 ∷ 0 ∷ 1 ∷ 7 ∷ 15 ∷ 0 ∷ 13 ∷ 0 ∷ [])

-- main makes a channel of ints, forks a child with end 1, and stands at RECV on end 0; the child has this code
unfoldable pub receive_from : List ℕ → List ℕ
receive_from code =
    table_of
    (record {
      returns = 0;
      params = 0;
      slots = 17 ∷ 33 ∷ [];
      code = 8 ∷ 1 ∷ 4 ∷ 0 ∷ 9 ∷ 0 ∷ 4 ∷ 1 ∷ 5 ∷ 0 ∷ 3 ∷ 0 ∷ 9 ∷ 1 ∷ 14 ∷ 1 ∷ 3 ∷ 1 ∷ 16 ∷ 0 ∷ 5 ∷ 0 ∷ 13 ∷ 0 ∷ [];
    }
    ∷ record { returns = 0; params = 1; slots = 33 ∷ []; code = code }
    ∷ [])

-- the child empties its slot, and then runs on for ever, or reads the slot
unfoldable pub kept_unreached : List ℕ
kept_unreached = receive_from (6 ∷ 0 ∷ 17 ∷ 1 ∷ [])

unfoldable pub stopped_child : List ℕ
stopped_child = receive_from (6 ∷ 0 ∷ 3 ∷ 0 ∷ 5 ∷ 0 ∷ 13 ∷ 0 ∷ [])

-- main's entries up to its RECV, the child's first after the FORK
abbrev pub to_receive : List ℕ
to_receive = replicate 8 0 ++ (1 ∷ 0 ∷ [])

-- the lines above the second giving of its FORK
abbrev pub above_second : List Line
above_second = take 3 (run given_twice [] 4096 (replicate 4 0)).state.lines

-- INT x, INT y, then an op on both
unfoldable pub on_ints : ℕ → ℕ → ℕ → List ℕ
on_ints x y op = main_only [] (1 ∷ x ∷ 1 ∷ y ∷ op ∷ 0 ∷ 5 ∷ 0 ∷ 13 ∷ 0 ∷ [])

-- BOOL b, NOT
unfoldable pub negating : ℕ → List ℕ
negating b = main_only [] (2 ∷ b ∷ 23 ∷ 0 ∷ 5 ∷ 0 ∷ 13 ∷ 0 ∷ [])

-- NEWC, DROP, again and again
unfoldable pub making_channels : List ℕ
making_channels = main_only [] (8 ∷ 1 ∷ 5 ∷ 0 ∷ 17 ∷ 0 ∷ [])

-- FORK of a method without parameters, again and again
unfoldable pub making_processes : List ℕ
making_processes =
    table_of
    (record { returns = 0; params = 0; slots = []; code = 14 ∷ 1 ∷ 17 ∷ 0 ∷ [] }
    ∷ record { returns = 0; params = 0; slots = []; code = 13 ∷ 0 ∷ [] }
    ∷ [])

-- main calls itself
unfoldable pub making_frames : List ℕ
making_frames = main_only [] (12 ∷ 0 ∷ 13 ∷ 0 ∷ [])

-- BOOL b, JFALSE 3, RET, then NEWQ at instruction 3
unfoldable pub jumping_on_false : ℕ → List ℕ
jumping_on_false b = main_only [] (2 ∷ b ∷ 18 ∷ 3 ∷ 13 ∷ 0 ∷ 7 ∷ 0 ∷ 5 ∷ 0 ∷ 13 ∷ 0 ∷ [])

-- an int in slot 1, slot 1 emptied, slot 1 read
unfoldable pub reading_emptied : List ℕ
reading_emptied = main_only (1 ∷ 1 ∷ []) (1 ∷ 7 ∷ 4 ∷ 1 ∷ 5 ∷ 0 ∷ 6 ∷ 1 ∷ 3 ∷ 1 ∷ 5 ∷ 0 ∷ 13 ∷ 0 ∷ [])

pub record Examples : Type 0 where
  -- a trace that is exactly full, and a silent entry after it: the run goes on
  pub full : answer_of worked_table (0 ∷ 0 ∷ []) [] 1 8256 ≡ ran 0 2 1 0
  -- one measurement uses one outcome, the first
  pub measured : answer measuring_once (0 ∷ 0 ∷ []) (1 ∷ 0 ∷ []) ≡ ran 0 2 2 1
  pub measured-lines : written measuring_once (0 ∷ 0 ∷ []) (1 ∷ 0 ∷ [])
      ≡ 0 ∷ 0 ∷ 1 ∷ 0 ∷ 65535 ∷ 65535 ∷ 1 ∷ 0 ∷ 4 ∷ 0 ∷ 1 ∷ 65535 ∷ []
  -- one FORK gives one qubit twice: two lines of kind 6
  pub twice : written given_twice (replicate 4 0) []
      ≡ 0 ∷ 0 ∷ 1 ∷ 0 ∷ 65535 ∷ 65535
      ∷ 3 ∷ 0 ∷ 5 ∷ 1 ∷ 1 ∷ 2
      ∷ 3 ∷ 0 ∷ 6 ∷ 1 ∷ 3 ∷ 0
      ∷ 3 ∷ 0 ∷ 6 ∷ 1 ∷ 3 ∷ 0
      ∷ []
  -- Paper 6: "the opposite end's holder is itself"
  pub itself : answer send_to_itself (replicate 4 0) [] ≡ ran 1 4 2 0
  pub itself-lines : written send_to_itself (replicate 4 0) []
      ≡ 0 ∷ 0 ∷ 2 ∷ 0 ∷ 65535 ∷ 65535 ∷ 3 ∷ 0 ∷ 10 ∷ 33 ∷ 65535 ∷ 65535 ∷ []
  -- "has stopped": the child by 20, then main by 33
  pub stopped : answer stopped_child (to_receive ++ (1 ∷ 0 ∷ [])) [] ≡ ran 1 12 5 0
  pub stopped-lines : last_line stopped_child (to_receive ++ (1 ∷ 0 ∷ [])) [] 3
      ≡ 10 ∷ 1 ∷ 10 ∷ 20 ∷ 65535 ∷ 65535 ∷ 11 ∷ 0 ∷ 10 ∷ 33 ∷ 65535 ∷ 65535 ∷ []
  -- a holder that runs and reaches the end no more has not gone: main waits
  pub unreached : answer kept_unreached (to_receive ++ (0 ∷ 1 ∷ [])) [] ≡ ran 0 12 3 0
  -- by the lines directly above the second of them the child holds the qubit and not the giver, process 0, who holds it
  -- by the lines of the entries before
  pub twice-above : holder above_second (qubit 0) ≡ some 1
  pub twice-before : holder (lines_before 3 above_second) (qubit 0) ≡ some 0
  -- "SUB and LESS put the deeper first": 7 - 5, 5 - 7, 5 < 5, 4 < 5, 5 < 4; 5 == 5
  pub less-five : pending_of (on_ints 7 5 20) (replicate 3 0) [] ≡ int (pos 2) ∷ []
  pub less-seven : pending_of (on_ints 5 7 20) (replicate 3 0) [] ≡ int (negsuc 1) ∷ []
  pub not-below-itself : pending_of (on_ints 5 5 22) (replicate 3 0) [] ≡ bool false ∷ []
  pub below : pending_of (on_ints 4 5 22) (replicate 3 0) [] ≡ bool true ∷ []
  pub not-below : pending_of (on_ints 5 4 22) (replicate 3 0) [] ≡ bool false ∷ []
  pub equal : pending_of (on_ints 5 5 21) (replicate 3 0) [] ≡ bool true ∷ []
  pub not_equal : pending_of (on_ints 5 4 21) (replicate 3 0) [] ≡ bool false ∷ []
  pub added : pending_of (on_ints 7 65531 19) (replicate 3 0) [] ≡ int (pos 2) ∷ []
  -- NOT
  pub not-true : pending_of (negating 1) (0 ∷ 0 ∷ []) [] ≡ bool false ∷ []
  pub not-false : pending_of (negating 0) (0 ∷ 0 ∷ []) [] ≡ bool true ∷ []
  -- "JFALSE takes a boolean, jumps on false"
  pub jumped : written (jumping_on_false 0) (replicate 3 0) [] ≡ 2 ∷ 0 ∷ 1 ∷ 0 ∷ 65535 ∷ 65535 ∷ []
  pub not-jumped : written (jumping_on_false 1) (replicate 3 0) [] ≡ 2 ∷ 0 ∷ 9 ∷ 65535 ∷ 65535 ∷ 65535 ∷ []
  -- CLEAR empties its own slot: "20 the slot read .. is empty"
  pub emptied : written reading_emptied (replicate 5 0) [] ≡ 4 ∷ 0 ∷ 10 ∷ 20 ∷ 65535 ∷ 65535 ∷ []
  -- "21 channel beyond 16"
  pub sixteen-channels : answer making_channels (replicate 46 0) [] ≡ ran 0 46 16 0
  pub seventeenth-channel : last_line making_channels (replicate 49 0) [] 16
      ≡ 48 ∷ 0 ∷ 10 ∷ 21 ∷ 65535 ∷ 65535 ∷ []
  -- "23 process beyond 8"
  pub eight-processes : answer making_processes (replicate 13 0) [] ≡ ran 0 13 7 0
  pub ninth-process : last_line making_processes (replicate 15 0) [] 7 ≡ 14 ∷ 0 ∷ 10 ∷ 23 ∷ 65535 ∷ 65535 ∷ []
  -- "24 no outcome left"
  pub no-outcome : answer measuring_once (0 ∷ 0 ∷ []) [] ≡ ran 1 2 2 0
  pub no-outcome-line : last_line measuring_once (0 ∷ 0 ∷ []) [] 1 ≡ 1 ∷ 0 ∷ 10 ∷ 24 ∷ 65535 ∷ 65535 ∷ []
  -- "25 frame beyond 8"
  pub eight-frames : answer making_frames (replicate 7 0) [] ≡ ran 0 7 0 0
  pub ninth-frame : written making_frames (replicate 8 0) [] ≡ 7 ∷ 0 ∷ 10 ∷ 25 ∷ 65535 ∷ 65535 ∷ []
  -- "Has the schedule at most 65,535 bytes? 7 (0)"
  pub longest-schedule : questions silent_loop (replicate 65535 0) [] 8256 ≡ accepted
  pub longer-schedule : questions silent_loop (replicate 65536 0) [] 8256 ≡ refused 7 0
  -- question 8, and 7 before it
  pub long-store : questions silent_loop [] [] 8256 ≡ accepted
  pub short-store : answer_of silent_loop [] [] 4096 8255 ≡ refusal 8 0
  pub schedule-before-store : questions silent_loop (replicate 65536 0) [] 8255 ≡ refused 7 0
