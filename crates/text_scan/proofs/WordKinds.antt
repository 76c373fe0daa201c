-- The kind of a token that is a given word or mark, a name or a number.
use Prim.Native.String.{String}
use mathlib.Core.Path.{◌≡◌, sym, ap, ◌∙◌}
use mathlib.Core.Bool.{true}
use lib.Dec.{eqb, eqb→eq}
use Rattle.lists.proofs.Laws.{same-equal}
use Rattle.lists.proofs.Tests.{passes}
use Rattle.text.specs.Tree.{ascii}
use Rattle.text_parse.specs.Tokens.{Token, is, is_name, is_numeral}
use Rattle.text_tokens.specs.KindsCode.{kind_of}
use Rattle.text_tokens.proofs.KindTests.{is-name, is_number}

pub word-kind : (s : String) (t : Token) → is s t ≡ true → kind_of t.bytes ≡ kind_of (ascii s)
word-kind s t e = ap kind_of (same-equal t.bytes (ascii s) (passes e))

pub name-kind : (t : Token) → is_name t ≡ true → kind_of t.bytes ≡ 33
name-kind t e = eqb→eq (kind_of t.bytes) 33 (passes (sym (is-name t) ∙ e))

pub number-kind : (t : Token) → is_numeral t ≡ true → kind_of t.bytes ≡ 34
number-kind t e = eqb→eq (kind_of t.bytes) 34 (passes (sym (is_number t) ∙ e))
