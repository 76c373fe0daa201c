-- What holds of the tree that a reading comes to, where it comes to one.
use Rattle.std.specs.Prelude.{ℕ, List}
use Rattle.text_parse.specs.Tokens.{Token}
use Rattle.text_parse.specs.Grammar.{Reading, read, leaves}

pub data Every {A : Type 0} (Q : A → Type 0) : Reading A → Type 0 where
  every-read : {a : A} {us : List Token} → Q a → Every Q (read a us)
  every-left : {i : ℕ} → Every Q (leaves i)
