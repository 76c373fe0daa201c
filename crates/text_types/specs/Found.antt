-- What declarations say of a name: 0 where they do not declare it, 2 where the first that does declares a channel with
-- ends, and else 1.
use Rattle.std.specs.Prelude.{ℕ, cond, List, map, eqb}
use Rattle.std.proofs.Math.Option.{Option, none, some}
use Rattle.text.specs.Tree.{Declaration, Declared, declared_by, Parameter, parameter_of}
use Rattle.text_parse.specs.Grammar.{Reading, read, leaves, declared_here}

unfoldable pub found_by : Option Declared → ℕ
found_by none = 0
found_by (some d) = cond d.ends 2 1

-- the name is given by its bytes
unfoldable pub found_in : List ℕ → List Declared → ℕ
found_in x ds = found_by (declared_here (record { spelling = x; at = 0 }) ds)

-- the same of what is read, 0 where the text leaves the grammar
unfoldable pub found_among : List ℕ → Reading (List Declaration) → ℕ
found_among x (read ds us) = found_in x (declared_by ds)
found_among x (leaves i) = 0

unfoldable pub found_parameter : List ℕ → Reading (List Parameter) → ℕ
found_parameter x (read ps us) = found_in x (map parameter_of ps)
found_parameter x (leaves i) = 0

-- of two declarations the first stands
abbrev pub or_else : ℕ → ℕ → ℕ
or_else a b = cond (eqb a 0) b a
