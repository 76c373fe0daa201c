-- What the functions that judge may assume, and an instruction as they read it. These definitions follow the code.
use Rattle.std.specs.Prelude.{ℕ, ◌+◌, ◌*◌, ◌≤◌, ◌<◌, Bool, ◌&&◌, ◌≡◌, List, get_or, length, take, drop, T, eqb, leb, ltb}
use Rattle.table.specs.Table.{methods, offset_of, length_of}
use Rattle.table.proofs.Accepted.{Sizes}
use Rattle.check_types.specs.RulesCode.{Rows}
use Rattle.text_judge.specs.RowsCode.{Subject, IsRow, calls, argument_in, op_in, arg_in}
use Rattle.text_judge.specs.declared.instruction.Counts.{Counts}
use Rattle.text_judge.specs.declared.instruction.Instruction.{Instruction}

-- instruction i of the code, whose jumps' targets are marked
unfoldable pub instruction_at : List ℕ → List ℕ → Counts → ℕ → Instruction
instruction_at code targets n i = record {
  op = op_in code i;
  argument = argument_in n.methods (op_in code i) (arg_in code i);
  target = ltb 0 (get_or targets i 0);
  last = eqb (i + 1) n.long;
}

-- it stands in the code
pub record InCode (code targets : List ℕ) (n : Counts) (i : ℕ) : Type 0 where
  pub words : length code ≡ 2 * n.long
  pub short : n.long ≤ 4096
  pub marks : n.long ≤ length targets
  pub within : i < n.long

-- the row of method a among rows that lie one after the other
unfoldable pub row_at : List ℕ → ℕ → List ℕ
row_at rows a = take 18 (drop (18 * a) rows)

-- what is judged, where f says the row of each method
abbrev pub subject_in : List ℕ → List ℕ → Counts → (ℕ → List ℕ) → Subject
subject_in code own n f = record { own = own; row_of = f; methods = n.methods; long = n.long; code = code }

-- f says the rows that are at hand
abbrev pub Knows : (ℕ → List ℕ) → List ℕ → Counts → Type 0
Knows f rows n = (a : ℕ) → a < n.known → f a ≡ row_at rows a

-- instruction i calls a method whose row is not at hand
unfoldable pub wanted : List ℕ → Counts → ℕ → Bool
wanted code n i = (calls (op_in code i) && leb n.known (arg_in code i)) && ltb (arg_in code i) n.methods

-- a table of two methods whose rows keep their rule; method 0 has so many instructions
pub record TwoMethods (p : List ℕ) (long : ℕ) : Type 0 where
  pub sizes : Sizes p
  pub rows : Rows p
  pub two : methods p ≡ 2
  pub begin : offset_of p 0 ≡ 0
  pub instructions : length_of p 0 ≡ long

-- the rows by which an instruction is judged: the callee's has too many parameters only where there is a call
pub record MayCall (own callee : List ℕ) (long : ℕ) (s : Instruction) : Type 0 where
  pub own_row : IsRow own
  pub few : get_or own 1 0 ≤ 8
  pub callee-row : IsRow callee
  pub many : 8 < get_or callee 1 0 → T (calls s.op) × (1 ≤ s.argument)
  pub short : long ≤ 4096
  pub word : s.argument < 65536
