-- What is known of a text's methods while their limits are judged, one after the other. These definitions follow the
-- code.
use Rattle.std.specs.Prelude.{ℕ, suc, ◌+◌, ◌*◌, ◌≤◌, ◌<◌, ◌≡◌, Bool, true, false, ◌&&◌, List, leb, get_or, length}
use Rattle.std.proofs.Math.Option.{none, some}
use Rattle.lists.specs.Lists.{every}
use Rattle.text.specs.Tree.{Method, Program, main_first, method_at}
use Rattle.text.specs.Translation.{code_words, row_words, slot_codes, method_code, program_code}
use Rattle.text.specs.Names.{name_refusal}
use Rattle.text.specs.Limits.{is_number, all_numbers_in, method_kept, first_over}
use Rattle.text_parse.specs.Tokens.{Token, tokens_of}
use Rattle.text_parse.specs.Grammar.{read, program_of}
use Rattle.text_parse.specs.Equations.{method_from}
use Rattle.text_tokens.specs.Places.{tokens_at}
use Rattle.text_scan.specs.Standing.{Stand}
use Rattle.text_numbering.specs.CodeBy.{place_of}
use Rattle.text_code.specs.StatementBy.{method_by}
use Rattle.text_emit_method.specs.MethodCode.{NameAt}

-- a text of the grammar without a fault of names
pub record WellNamed (text : List ℕ) : Type 0 where
  pub program : Program
  pub left : List Token
  pub reads : program_of (tokens_of text) ≡ read program left
  pub names : name_refusal (length text) program ≡ none

-- the method of this number in text order stands at a place
pub record MethodThere (text : List ℕ) (at index : ℕ) : Type 0 where
  pub named : WellNamed text
  pub method : Method
  pub after : List Token
  pub here : method_from (tokens_at text at) ≡ read method after
  pub there : method_at named.program index ≡ some method

-- no limit is passed with it, where so many methods and instructions stand before
abbrev pub is_within : ℕ → ℕ → Program → Method → Bool
is_within before total ms m =
    leb (suc before) 32 && (leb (total + length (method_code ms m)) 4096 && method_kept ms m)

-- its code and row are written, and its name stands at start up to end
pub record Emitted (text code row : List ℕ) (start end long : ℕ) : Type 0 where
  pub named : WellNamed text
  pub index : ℕ
  pub method : Method
  pub there : method_at named.program index ≡ some method
  pub name : NameAt text method start end
  pub own_row : row ≡ row_words method
  pub numbers : every is_number (all_numbers_in method.statements) ≡ true
  pub slots : length (slot_codes method) ≤ 16
  pub counted : long ≡ length (method_by place_of (main_first named.program) method)
  pub short : long ≤ 4096
  pub enough : 2 * long ≤ length code
  pub words : (i : ℕ) → i < 2 * long
      → get_or code i 0 ≡ get_or (code_words (method_by place_of (main_first named.program) method)) i 0

-- no limit is passed with it: its instructions are counted, its row is written, and the others stand after it
pub record Within (text : List ℕ) (at index : ℕ) (h : MethodThere text at index) (before total next long : ℕ)
    (row : List ℕ) : Type 0 where
  pub answer : true ≡ is_within before total (main_first h.named.program) h.method
  pub after : h.after ≡ tokens_at text next
  pub own_row : row ≡ row_words h.method
  pub counted : long ≡ length (method_code (main_first h.named.program) h.method)

-- one is passed with it, and this is the place of its name
pub record Over (text : List ℕ) (at index : ℕ) (h : MethodThere text at index) (before total start : ℕ) : Type 0 where
  pub answer : false ≡ is_within before total (main_first h.named.program) h.method
  pub place : start ≡ h.method.name.at

-- k methods are judged, which have so many instructions; the others stand from a place on
pub record LimitsUpTo (text : List ℕ) (ns : Program) (at k total : ℕ) : Type 0 where
  pub rest : Program
  pub ends : List (List Token)
  pub stands : Stand (tokens_at text at) rest ends
  pub further : (i : ℕ) → method_at ns (k + i) ≡ method_at rest i
  pub counted : k + length rest ≡ length ns
  pub same : first_over (main_first ns) 0 0 ns ≡ first_over (main_first ns) k total rest
  pub sum : total + length (program_code (main_first ns) rest) ≡ length (program_code (main_first ns) ns)
