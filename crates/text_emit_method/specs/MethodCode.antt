-- What the emission of a whole method comes to. These definitions follow the code.
use Rattle.std.specs.Prelude.{ℕ, ◌≤◌, ◌<◌, ◌≡◌, ◌⊎◌, Bool, true, false, List, length}
use Rattle.std.proofs.Math.Seq.{slice}
use Rattle.lists.specs.Lists.{every, put_from}
use Rattle.text.specs.Tree.{Method, Program}
use Rattle.text.specs.Translation.{code_words, row_words, slot_codes}
use Rattle.text.specs.Limits.{is_number, all_numbers_in}
use Rattle.text_parse.specs.Tokens.{Token}
use Rattle.text_parse.specs.Grammar.{Reading, read, leaves}
use Rattle.text_tokens.specs.Places.{tokens_at}
use Rattle.text_numbering.specs.CodeBy.{place_of}
use Rattle.text_code.specs.StatementBy.{method_by}

-- the method's name stands at start up to end
pub record NameAt (text : List ℕ) (m : Method) (start end : ℕ) : Type 0 where
  pub place : start ≡ m.name.at
  pub spelt : m.name.spelling ≡ slice start end text

-- it does not fit: more than 4,096 instructions, a number above 32,767, more than 16 slots
abbrev pub TooLarge : Program → Method → Type 0
TooLarge ms m =
    (4096 < length (method_by place_of ms m))
    ⊎ ((every is_number (all_numbers_in m.statements) ≡ false) ⊎ (16 < length (slot_codes m)))

-- its code, with methods given by the places of the called names, stands in the buffer from its first word on, and its
-- row is the table's
pub record MethodWritten (text : List ℕ) (ms : Program) (m : Method) (us : List Token) (from at long : ℕ)
    (row code code' : List ℕ) : Type 0 where
  pub left : us ≡ tokens_at text at
  pub onward : from < at
  pub inside : at ≤ length text
  pub counted : long ≡ length (method_by place_of ms m)
  pub few : long ≤ 4096
  pub numbers : every is_number (all_numbers_in m.statements) ≡ true
  pub slots : length (slot_codes m) ≤ 16
  pub own : row ≡ row_words m
  pub words : code' ≡ put_from code 0 (code_words (method_by place_of ms m))

-- What a reading of a method comes to; of a text that leaves the grammar nothing is said.
pub data MethodEmits (text : List ℕ) (ms : Program) (from : ℕ) (ok : Bool) (at start end long : ℕ)
    (row code code' : List ℕ) : Reading Method → Type 0 where
  emitted : {m : Method} {us : List Token} → NameAt text m start end → ok ≡ true
      → MethodWritten text ms m us from at long row code code'
      → MethodEmits text ms from ok at start end long row code code' (read m us)
  too_large : {m : Method} {us : List Token} → NameAt text m start end → ok ≡ false → TooLarge ms m
      → MethodEmits text ms from ok at start end long row code code' (read m us)
  not-read : {i : ℕ} → MethodEmits text ms from ok at start end long row code code' (leaves i)
