-- What is known of a method that is judged as far as the rows at hand allow. These definitions follow the code.
use Rattle.std.specs.Prelude.{ℕ, ◌*◌, ◌≤◌, ◌<◌, true, ◌≡◌, List, get_or, length, ltb}
use Rattle.std.specs.Option.{is_some}
use Rattle.check_types.specs.PendingCode.{result_in}
use Rattle.text_judge.specs.RowsCode.{Subject, IsRow, is_onto, judged_to}
use Rattle.text_judge.specs.JudgeCode.{row_at, subject_in, Knows, wanted}
use Rattle.text_judge.specs.declared.instruction.Counts.{Counts}
use Rattle.text_judge.specs.declared.code.Judgement.{Judgement}

-- a method's code and row
pub record IsMethod (code own : List ℕ) (n : Counts) : Type 0 where
  pub words : length code ≡ 2 * n.long
  pub short : n.long ≤ 4096
  pub own_row : IsRow own
  pub few : get_or own 1 0 ≤ 8

-- and the marks at its jumps' targets
pub record InMethod (code own targets : List ℕ) (n : Counts) : Type 0 where
  pub words : length code ≡ 2 * n.long
  pub short : n.long ≤ 4096
  pub own_row : IsRow own
  pub few : get_or own 1 0 ≤ 8
  pub marks : n.long ≤ length targets
  pub marked : (i : ℕ) → i < n.long → ltb 0 (get_or targets i 0) ≡ is_onto code n.long i

-- the rows at hand
pub record AtHand (rows : List ℕ) (n : Counts) : Type 0 where
  pub enough : 18 * n.known ≤ length rows
  pub are-rows : (a : ℕ) → a < n.known → IsRow (row_at rows a)

-- the types that are pending are those of the judgement so far
abbrev pub Right : Subject → Judgement → Type 0
Right s j = result_in j.pending ≡ judged_to s j.at

-- from one place to another, where a row is wanted unless all is judged or at fault
pub record Onward (code own rows : List ℕ) (n : Counts) (from to : Judgement) : Type 0 where
  pub later : from.at ≤ to.at
  pub within : to.at ≤ n.long
  pub stops : to.at < n.long → is_some to.pending ≡ true → wanted code n to.at ≡ true
  pub right : (f : ℕ → List ℕ) → Knows f rows n → Right (subject_in code own n f) from
      → Right (subject_in code own n f) to
