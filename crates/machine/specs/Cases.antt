-- The programs of document 01's worked run and of its cases P1 to P12, and what each case says of its run. The cases
-- are proved together in proofs/Cases.antt.
use Rattle.std.specs.Prelude.{ℕ, zero, suc, ◌+◌, ◌*◌, ◌≡◌, List, [], ◌∷◌, ◌++◌, length, take, drop, replicate, get_or, pos}
use Rattle.machine.specs.Value.{Value, int}
use Rattle.machine.specs.State.{Frame, process_at}
use Rattle.machine.specs.Run.{run}
use Rattle.machine.specs.Answer.{Answer, refusal, ran, answer_of, trace_words}

-- A method as it is written down: return type, parameter count, the slots used, the code as op and argument.
pub record Method : Type 0 where
  pub returns : ℕ
  pub params : ℕ
  pub slots : List ℕ
  pub code : List ℕ

-- how many instructions a code has
abbrev size_of : List ℕ → ℕ
size_of [] = zero
size_of (x ∷ []) = zero
size_of (x ∷ y ∷ code) = suc (size_of code)

abbrev total_of : List Method → ℕ
total_of [] = zero
total_of (m ∷ ms) = size_of m.code + total_of ms

abbrev pairs_from : ℕ → List Method → List ℕ
pairs_from i [] = []
pairs_from i (m ∷ ms) = i ∷ size_of m.code ∷ pairs_from (i + size_of m.code) ms

abbrev rows_of : List Method → List ℕ
rows_of [] = []
rows_of (m ∷ ms) = m.returns ∷ m.params ∷ (take 16 (m.slots ++ replicate 16 0) ++ rows_of ms)

abbrev code_of : List Method → List ℕ
code_of [] = []
code_of (m ∷ ms) = m.code ++ code_of ms

-- the program table of these methods
unfoldable pub table_of : List Method → List ℕ
table_of ms = length ms ∷ total_of ms ∷ (pairs_from 0 ms ++ rows_of ms ++ code_of ms)

-- a table with main alone
abbrev pub main_only : List ℕ → List ℕ → List ℕ
main_only slots code = table_of (record { returns = 0; params = 0; slots = slots; code = code } ∷ [])

-- "A run given whole"
unfoldable pub worked_table : List ℕ
worked_table =
    table_of
    (record {
      returns = 0;
      params = 0;
      slots = 3 ∷ 19 ∷ 35 ∷ [];
      code =
          7 ∷ 0 ∷ 4 ∷ 0 ∷ 5 ∷ 0 ∷ 8 ∷ 3 ∷ 4 ∷ 1 ∷ 9 ∷ 0 ∷ 4 ∷ 2 ∷ 5 ∷ 0 ∷ 3 ∷ 1 ∷ 9 ∷ 1 ∷ 14 ∷ 1
          ∷ 3 ∷ 2 ∷ 3 ∷ 0 ∷ 15 ∷ 0 ∷ 3 ∷ 0 ∷ 11 ∷ 0 ∷ 5 ∷ 0 ∷ 13 ∷ 0 ∷ [];
    }
    ∷ record { returns = 0; params = 1; slots = 35 ∷ []; code = 3 ∷ 0 ∷ 16 ∷ 0 ∷ 10 ∷ 4 ∷ 13 ∷ 0 ∷ [] }
    ∷ [])

unfoldable pub worked_schedule : List ℕ
worked_schedule = replicate 11 0 ++ (1 ∷ 0 ∷ 0 ∷ 0 ∷ 1 ∷ 1 ∷ 0 ∷ [])

-- "-" in the paper's print is 65535
unfoldable pub worked_trace : List ℕ
worked_trace =
    0 ∷ 0 ∷ 1 ∷ 0 ∷ 65535 ∷ 65535
    ∷ 3 ∷ 0 ∷ 2 ∷ 0 ∷ 65535 ∷ 65535
    ∷ 10 ∷ 0 ∷ 5 ∷ 1 ∷ 1 ∷ 1
    ∷ 10 ∷ 0 ∷ 6 ∷ 1 ∷ 6 ∷ 0
    ∷ 14 ∷ 0 ∷ 7 ∷ 1 ∷ 0 ∷ 0
    ∷ 14 ∷ 0 ∷ 6 ∷ 1 ∷ 3 ∷ 0
    ∷ 15 ∷ 1 ∷ 3 ∷ 4 ∷ 0 ∷ 65535
    ∷ 16 ∷ 1 ∷ 9 ∷ 65535 ∷ 65535 ∷ 65535
    ∷ 17 ∷ 0 ∷ 10 ∷ 20 ∷ 65535 ∷ 65535
    ∷ []

-- NEWQ, DROP, again and again
unfoldable pub making_qubits : List ℕ
making_qubits = main_only [] (7 ∷ 0 ∷ 5 ∷ 0 ∷ 17 ∷ 0 ∷ [])

-- x, then x twice over, sixteen times: 32767 * 65536; then 65535 more, which makes 2147483647; then the last operand
abbrev doubled : ℕ → List ℕ
doubled zero = []
doubled (suc n) = 4 ∷ 0 ∷ 3 ∷ 0 ∷ 19 ∷ 0 ∷ doubled n

unfoldable pub largest_plus : ℕ → List ℕ
largest_plus last =
    main_only (1 ∷ [])
    (1 ∷ 32767 ∷ (doubled 16
    ++ (1 ∷ 32767 ∷ 19 ∷ 0 ∷ 1 ∷ 32767 ∷ 19 ∷ 0 ∷ 1 ∷ 1 ∷ 19 ∷ 0 ∷ 1 ∷ last ∷ 19 ∷ 0 ∷ 5 ∷ 0 ∷ 13 ∷ 0 ∷ [])))

-- NEWQ, PUT q, GET q, CX
unfoldable pub twice_one_qubit : List ℕ
twice_one_qubit = main_only (3 ∷ []) (7 ∷ 0 ∷ 4 ∷ 0 ∷ 3 ∷ 0 ∷ 10 ∷ 6 ∷ 13 ∷ 0 ∷ [])

-- main: GET q, GET q, CALL 1, CX. Method 1 forks its qubit away to method 2 and returns a new one.
unfoldable pub given_during_call : List ℕ
given_during_call =
    table_of
    (record {
      returns = 0;
      params = 0;
      slots = 3 ∷ [];
      code = 7 ∷ 0 ∷ 4 ∷ 0 ∷ 5 ∷ 0 ∷ 3 ∷ 0 ∷ 3 ∷ 0 ∷ 12 ∷ 1 ∷ 10 ∷ 6 ∷ 13 ∷ 0 ∷ [];
    }
    ∷ record { returns = 3; params = 1; slots = 3 ∷ []; code = 3 ∷ 0 ∷ 14 ∷ 2 ∷ 7 ∷ 0 ∷ 13 ∷ 0 ∷ [] }
    ∷ record { returns = 0; params = 1; slots = 3 ∷ []; code = 13 ∷ 0 ∷ [] }
    ∷ [])

-- main makes a channel of ints, forks a child with end 1, and stands at SEND on end 0; the child returns
unfoldable pub send_to_gone : List ℕ
send_to_gone =
    table_of
    (record {
      returns = 0;
      params = 0;
      slots = 17 ∷ 33 ∷ [];
      code = 8 ∷ 1 ∷ 4 ∷ 0 ∷ 9 ∷ 0 ∷ 4 ∷ 1 ∷ 5 ∷ 0 ∷ 3 ∷ 0 ∷ 9 ∷ 1 ∷ 14 ∷ 1 ∷ 3 ∷ 1 ∷ 1 ∷ 7 ∷ 15 ∷ 0 ∷ 13 ∷ 0 ∷ [];
    }
    ∷ record { returns = 0; params = 1; slots = 33 ∷ []; code = 13 ∷ 0 ∷ [] }
    ∷ [])

-- a loop that writes nothing: INT 1, DROP, JUMP 0
unfoldable pub silent_loop : List ℕ
silent_loop = main_only [] (1 ∷ 1 ∷ 5 ∷ 0 ∷ 17 ∷ 0 ∷ [])

-- the answer with room enough in trace and store
abbrev pub answer : List ℕ → List ℕ → List ℕ → Answer
answer p schedule outcomes = answer_of p schedule outcomes 4096 8256

-- the words of the lines that a run writes
abbrev pub written : List ℕ → List ℕ → List ℕ → List ℕ
written p schedule outcomes = trace_words (run p outcomes 4096 schedule).state.lines

-- the words of a run's last line
abbrev pub last_line : List ℕ → List ℕ → List ℕ → ℕ → List ℕ
last_line p schedule outcomes lines = drop (6 * lines) (written p schedule outcomes)

abbrev no_frame : Frame
no_frame = record { method = 0; place = 0; slots = []; pending = [] }

-- the pending values of process 0's top frame, after the run
abbrev pub pending_of : List ℕ → List ℕ → List ℕ → List Value
pending_of p schedule outcomes =
    (get_or (process_at (run p outcomes 4096 schedule).state.config 0).frames 0 no_frame).pending

-- The twelve cases of document 01, each under its number there.
pub record Cases : Type 0 where
  -- P1 empty schedule, end 0, no lines
  pub p1 : answer worked_table [] [] ≡ ran 0 0 0 0
  -- P2 no trace lines, first op NEWQ, schedule 0: end 3, 0 entries
  pub p2 : answer_of worked_table (0 ∷ []) [] 0 8256 ≡ ran 3 0 0 0
  -- P3 the run above
  pub p3 : answer worked_table worked_schedule [] ≡ ran 1 18 9 0
  pub p3-lines : written worked_table worked_schedule [] ≡ worked_trace
  -- P4 table one word short, 1
  pub p4 : answer (take 85 worked_table) worked_schedule [] ≡ refusal 1 0
  -- P5 32nd qubit made
  pub p5 : answer making_qubits (replicate 94 0) [] ≡ ran 0 94 32 0
  pub p5-line : last_line making_qubits (replicate 94 0) [] 31 ≡ 93 ∷ 0 ∷ 1 ∷ 31 ∷ 65535 ∷ 65535 ∷ []
  -- P6 33rd 22
  pub p6 : answer making_qubits (replicate 97 0) [] ≡ ran 1 97 33 0
  pub p6-line : last_line making_qubits (replicate 97 0) [] 32 ≡ 96 ∷ 0 ∷ 10 ∷ 22 ∷ 65535 ∷ 65535 ∷ []
  -- P7 2147483647+0 made
  pub p7 : answer (largest_plus 0) (replicate 57 0) [] ≡ ran 0 57 0 0
  pub p7-value : pending_of (largest_plus 0) (replicate 57 0) [] ≡ int (pos 2147483647) ∷ []
  -- P8 +1 gives 26
  pub p8 : answer (largest_plus 1) (replicate 57 0) [] ≡ ran 1 57 1 0
  pub p8-line : written (largest_plus 1) (replicate 57 0) [] ≡ 56 ∷ 0 ∷ 10 ∷ 26 ∷ 65535 ∷ 65535 ∷ []
  -- P9 CX on one qubit 27
  pub p9 : answer twice_one_qubit (replicate 4 0) [] ≡ ran 1 4 2 0
  pub p9-line : last_line twice_one_qubit (replicate 4 0) [] 1 ≡ 3 ∷ 0 ∷ 10 ∷ 27 ∷ 65535 ∷ 65535 ∷ []
  -- P10 GET q, GET q, CALL of a method that forks q away and returns a new qubit, CX: 20
  pub p10 : answer given_during_call (replicate 11 0) [] ≡ ran 0 11 5 0
  pub p10-line : last_line given_during_call (replicate 11 0) [] 4 ≡ 10 ∷ 0 ∷ 10 ∷ 20 ∷ 65535 ∷ 65535 ∷ []
  -- P11 main forks a child with end 1, the child returns, main stands at SEND: main is able to move since Paper 6, so
  -- the schedule is used up
  pub p11 : answer send_to_gone (replicate 8 0 ++ (1 ∷ 0 ∷ 0 ∷ [])) [] ≡ ran 0 11 4 0
  -- "Case P11, with one more entry of main, now ends with main stopped and end 1"
  pub p11-gone : answer send_to_gone (replicate 8 0 ++ (1 ∷ 0 ∷ 0 ∷ 0 ∷ [])) [] ≡ ran 1 12 5 0
  pub p11-line :
      last_line send_to_gone (replicate 8 0 ++ (1 ∷ 0 ∷ 0 ∷ 0 ∷ [])) [] 4 ≡ 11 ∷ 0 ∷ 10 ∷ 33 ∷ 65535 ∷ 65535 ∷ []
  -- P12 outcome byte 2: 6; by Paper 3 "Question 6 and case P12 move to byte 3"
  pub p12 : answer worked_table worked_schedule (3 ∷ []) ≡ refusal 6 0
