-- What a method's header says of its row: all that a call of the method looks at.
use Rattle.std.specs.Prelude.{ℕ, cond, List, ◌∷◌, ◌++◌, map, ltb, length, take, replicate}
use Rattle.text.specs.Tree.{Method, parameter_of}
use Rattle.text.specs.Translation.{return_code, code_of_type}

-- a number as a word, the largest where it is larger
unfoldable pub as_word : ℕ → ℕ
as_word n = cond (ltb n 65535) n 65535

-- return type, how many parameters, and the types of the first 16
unfoldable pub header_words : Method → List ℕ
header_words m =
    return_code m.returns ∷ as_word (length m.parameters)
    ∷ take 16 (map code_of_type (map parameter_of m.parameters) ++ replicate 16 0)
