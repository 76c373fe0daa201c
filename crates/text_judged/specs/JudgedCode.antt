-- What is known of the calls in a method's code, and the code as it is judged: each call has a number of its own, that
-- of its instruction. These definitions follow the code.
use Rattle.std.specs.Prelude.{ℕ, ◌*◌, ◌≤◌, ◌<◌, ◌≡◌, Bool, true, cond, ◌&&◌, not, List, ltb, get_or, length}
use Rattle.std.proofs.Math.Option.{Option, none, some}
use Rattle.std.specs.Option.{is_some}
use Rattle.text.specs.Tree.{Name, Method, Program, main_first, method_at, method_of, number_of}
use Rattle.text.specs.Translation.{code_words, row_words, program_table}
use Rattle.text.specs.Names.{name_refusal}
use Rattle.text.specs.Limits.{code_kept}
use Rattle.text_parse.specs.Tokens.{Token, name_of, tokens_of}
use Rattle.text_parse.specs.Grammar.{first, read, program_of}
use Rattle.text_tokens.specs.Places.{tokens_at}
use Rattle.text_judge.specs.RowsCode.{calls, op_in, arg_in, no_row}
use Rattle.text_judge.specs.JudgeCode.{subject_in, wanted}
use Rattle.text_judge.specs.ResumeCode.{Right}
use Rattle.text_judge.specs.declared.instruction.Counts.{Counts}
use Rattle.text_judge.specs.declared.code.Judgement.{Judgement}
use Rattle.text_rows.specs.Header.{as_word, header_words}
use Rattle.text_numbering.specs.CodeBy.{place_of}
use Rattle.text_code.specs.StatementBy.{method_by}

-- an op that is neither CALL nor FORK
unfoldable pub plain_op : ℕ → Bool
plain_op op = ltb op 24 && not (calls op)

-- a name stands at its place: it is the first token from there on
pub record Spelt (text : List ℕ) (x : Name) : Type 0 where
  pub within : x.at ≤ length text
  pub reads : name_of (first (tokens_at text x.at)) ≡ x

-- there is a method of this name
pub record There (ms : Program) (x : Name) : Type 0 where
  pub method : Method
  pub found : method_of ms x ≡ some method

-- A method of a text without a fault of names, with its row and its code, in which a call's argument is the place of
-- the called name.
pub record MethodHere (text code own : List ℕ) (long : ℕ) : Type 0 where
  pub program : Program
  pub left : List Token
  pub reads : program_of (tokens_of text) ≡ read program left
  pub names : name_refusal (length text) program ≡ none
  pub index : ℕ
  pub method : Method
  pub there : method_at program index ≡ some method
  pub few : length method.parameters ≤ 8
  pub own_row : own ≡ row_words method
  pub counted : long ≡ length (method_by place_of (main_first program) method)
  pub short : long ≤ 4096
  pub enough : 2 * long ≤ length code
  pub words : (i : ℕ) → i < 2 * long
      → get_or code i 0 ≡ get_or (code_words (method_by place_of (main_first program) method)) i 0

-- whether questions 4 and 5 say yes to its code in the text's table
abbrev pub kept_here : {text code own : List ℕ} {long : ℕ} → MethodHere text code own long → Bool
kept_here h = code_kept (program_table (main_first h.program)) (number_of (main_first h.program) h.method.name)

-- the name that stands at a place, and the row of its method as a call looks at it
unfoldable pub name_at : List ℕ → ℕ → Name
name_at text place = name_of (first (tokens_at text place))

abbrev pub header_in : Option Method → List ℕ
header_in none = no_row
header_in (some m) = header_words m

-- the row of the method that instruction i calls
unfoldable pub called_row : List ℕ → Program → List ℕ → ℕ → List ℕ
called_row text ms code i = header_in (method_of ms (name_at text (arg_in code i)))

-- what is read of a method of a name
abbrev pub HeaderAt : List ℕ → ℕ → List ℕ → Type 0
HeaderAt text place row =
    (ns : Program) (us : List Token) (m : Method) → program_of (tokens_of text) ≡ read ns us
    → method_of (main_first ns) (name_at text place) ≡ some m → row ≡ header_words m

-- the first k instructions as words, each call with a number of its own
pub record Numbered (code words : List ℕ) (k : ℕ) : Type 0 where
  pub ops : (i : ℕ) → i < k → op_in words i ≡ as_word (op_in code i)
  pub arguments : (i : ℕ) → i < k → arg_in words i ≡ cond (calls (op_in code i)) i (as_word (arg_in code i))

-- every method that is called is there
pub record CallsIn (text code : List ℕ) (long : ℕ) : Type 0 where
  pub program : Program
  pub left : List Token
  pub reads : program_of (tokens_of text) ≡ read program left
  pub within : (i : ℕ) → i < long → calls (op_in code i) ≡ true → arg_in code i ≤ length text
  pub there : (i : ℕ) → i < long → calls (op_in code i) ≡ true
      → There (main_first program) (name_at text (arg_in code i))

-- room for a mark at each instruction, and none is made yet
pub record Unmarked (targets : List ℕ) (long : ℕ) : Type 0 where
  pub enough : long ≤ length targets
  pub zeros : (i : ℕ) → i < long → get_or targets i 0 ≡ 0

-- all that the calls in a method are judged by
pub record Prepared (text code words : List ℕ) (n : Counts) : Type 0 where
  pub called : CallsIn text code n.long
  pub numbered : Numbered code words n.long
  pub enough : 2 * n.long ≤ length code
  pub methods : n.methods ≡ 4096
  pub known : n.known ≡ 0

-- judged up to a call, a fault or the end
pub record UpTo (text code words own : List ℕ) (n : Counts) (j : Judgement) : Type 0 where
  pub within : j.at ≤ n.long
  pub stops : j.at < n.long → is_some j.pending ≡ true → wanted words n j.at ≡ true
  pub right : (ns : Program) (us : List Token) → program_of (tokens_of text) ≡ read ns us
      → Right (subject_in words own n (called_row text (main_first ns) code)) j
