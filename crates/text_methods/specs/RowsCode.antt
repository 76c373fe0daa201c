-- The methods of a text as the code finds them, in text order: outside any brace a name before ( is a method's. These
-- definitions follow the code; that the methods are those of the text's tree is proved (proofs/Found.antt).
use Rattle.std.specs.Prelude.{ℕ, suc, ◌≡◌, Bool, true, false, cond, ◌&&◌, List, [], ◌∷◌, eqb}
use Rattle.std.specs.Prelude as P
use Rattle.std.proofs.Math.Option.{Option, none, some}
use Rattle.lists.specs.Lists.{same}
use Rattle.text.specs.Tree.{Name}
use Rattle.text_parse.specs.Tokens.{Token, name_of}
use Rattle.text_parse.specs.Grammar.{rest}
use Rattle.text_tokens.specs.Places.{tokens_at}
use Rattle.text_tokens.specs.KindsCode.{kind_of}
use Rattle.text_scan.specs.ScanCode.{kind_at, braces_after, argument_count}
use Rattle.text_methods.specs.declared.find.MethodAt.{MethodAt}
use Rattle.text_methods.specs.declared.find.NoSuchMethod.{NoSuchMethod}

-- A method's name, how many parameters it has, and the tokens from its first on.
pub record Row : Type 0 where
  pub name : Name
  pub count : ℕ
  pub tokens : List Token

-- the name of a method, and the brace that ends one
abbrev pub names_method : ℕ → ℕ → ℕ → Bool
names_method braces k following = eqb braces 0 && (eqb k 33 && eqb following 19)

abbrev pub ends_method : ℕ → ℕ → Bool
ends_method braces k = eqb braces 1 && eqb k 22

-- the header that is read last begins with the tokens hs
unfoldable pub rows_from : List Token → ℕ → List Token → List Row
rows_from hs braces [] = []
rows_from hs braces (t ∷ ts) =
    let k = kind_of t.bytes in
    let later = rows_from (cond (ends_method braces k) ts hs) (braces_after braces k) ts in
    cond (names_method braces k (kind_at ts))
    (record { name = name_of t; count = argument_count (rest ts); tokens = hs } ∷ later) later

unfoldable pub rows_of : List ℕ → List Row
rows_of text = rows_from (tokens_at text 0) 0 (tokens_at text 0)

-- the first method of a name, given by its bytes, and how many stand before it
unfoldable pub row_of : List ℕ → List Row → Option Row
row_of x [] = none
row_of x (r ∷ rs) = cond (same x r.name.spelling) (some r) (row_of x rs)

unfoldable pub row_index : List ℕ → List Row → ℕ
row_index x [] = 0
row_index x (r ∷ rs) = cond (same x r.name.spelling) 0 (suc (row_index x rs))

-- What is answered of a method before which so many stand: their number, a place from which on its tokens stand, and
-- how many parameters it has. Where no method has the name all stand before it, and their number alone is answered.
pub data Agrees (text : List ℕ) (before : ℕ) : Option Row → P.Result MethodAt NoSuchMethod → Type 0 where
  agrees : {r : Row} {m : MethodAt} → m.index ≡ before → tokens_at text m.at ≡ r.tokens → m.params ≡ r.count
      → Agrees text before (some r) (P.Ok m)
  no-row : {n : NoSuchMethod} → n.methods ≡ before → Agrees text before none (P.Err n)

-- of the first method of the name x
abbrev pub FirstNamed : List ℕ → List ℕ → P.Result MethodAt NoSuchMethod → Type 0
FirstNamed text x = Agrees text (row_index x (rows_of text)) (row_of x (rows_of text))
