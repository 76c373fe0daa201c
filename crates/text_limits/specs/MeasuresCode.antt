-- What is known of a text's methods once their limits are judged: of the first of them while they are gone over, and of
-- all of them at the end. These definitions follow the code.
use Rattle.std.specs.Prelude.{ℕ, ◌*◌, ◌≤◌, ◌<◌, ◌≡◌, List, get_or, length, set, drop, Result, Ok, Err}
use Rattle.std.proofs.Math.Option.{none, some}
use Rattle.text.specs.Tree.{Method, Program, main_first, method_at}
use Rattle.text.specs.Translation.{method_code, row_words}
use Rattle.text.specs.Limits.{limit_refusal}
use Rattle.text_judge.specs.RowsCode.{copied}
use Rattle.text_put.specs.TableCode.{row_in}
use Rattle.text_put.specs.Measures.{Measures}
use Rattle.text_code.specs.KeptCode.{CodeOf, offset_in, CodeKept}
use Rattle.text_limits.specs.LimitsCode.{MethodThere, Within, LimitsUpTo}
use Rattle.text_limits.specs.declared.limits.TableSize.{TableSize}
use Rattle.text_limits.specs.declared.method.LimitPassed.{LimitPassed}

-- no limit is passed with the method of this index, and its length, its row and its code are kept
pub record Judgement (text : List ℕ) (at index : ℕ) (h : MethodThere text at index) (total next long : ℕ)
    (lengths rows kept lengths' rows' kept' : List ℕ) : Type 0 where
  pub own : List ℕ
  pub within : Within text at index h index total next long own
  pub measured : (lengths' ≡ set lengths index long) × (rows' ≡ copied rows (18 * index) own 18)
  pub codes : CodeOf (main_first h.named.program) h.method (drop (2 * total) kept') long
  pub earlier : (j : ℕ) → j < 2 * total → get_or kept' j 0 ≡ get_or kept j 0

-- no limit is passed with the first k methods, and their lengths, rows and code are kept
pub record Progress (text : List ℕ) (ns : Program) (at k total : ℕ) (lengths rows kept : List ℕ) : Type 0 where
  pub reached : LimitsUpTo text ns at k total
  pub offset : total ≡ offset_in lengths k
  pub codes : CodeKept ns k lengths kept
  pub long : (i : ℕ) (m : Method) → i < k → method_at ns i ≡ some m
      → get_or lengths i 0 ≡ length (method_code (main_first ns) m)
  pub row : (i : ℕ) (m : Method) → i < k → method_at ns i ≡ some m → row_in rows i ≡ row_words m

-- what is answered: no limit is passed, and the methods are measured; or where refusal 32 is said
pub data LimitsSay (ns : Program) : Result TableSize LimitPassed → List ℕ → List ℕ → List ℕ → Type 0 where
  within : {n : TableSize} {lengths rows kept : List ℕ} → limit_refusal ns ≡ none → n.methods ≤ 32
      → n.instructions ≤ 4096 → Measures ns n.methods n.instructions lengths rows → CodeKept ns n.methods lengths kept
      → LimitsSay ns (Ok n) lengths rows kept
  passed : {e : LimitPassed} {lengths rows kept : List ℕ} → limit_refusal ns ≡ some e.at
      → LimitsSay ns (Err e) lengths rows kept
