-- The texts of docs/TEXT.md as trees: their tables word by word, and the places of their refusals.
use Prim.Native.Nat.{ℕ}
use Prim.Native.String.{String}
use mathlib.Core.Bool.{true}
use mathlib.Core.Path.{◌≡◌, refl}
use mathlib.Core.List.{[], ◌∷◌}
use mathlib.Core.Option.{none, some}
use Rattle.text.specs.Tree.{ascii, Name, int_type, qbit_type, plain, end_type, number, truth, variable, measurement, reception, new_qubit, new_channel, no_more, also, variables, withends, assign, invoke, measure, fork, send, give, done, next, Program}
use Rattle.text.specs.Names.{name_refusal, lowest}
use Rattle.text.specs.Limits.{limit_refusal}
use Rattle.text.specs.Statement.{Translated, text_table}
use Rattle.text.proofs.Opened.{text-opened}

-- a name and where it stands
abbrev name : String → ℕ → Name
name s i = record { spelling = ascii s; at = i }

-- void main() { qbit q; q = new qbit(); H(q); measure(StdBasis, q); }
abbrev pub one-qubit : Program
one-qubit =
    record {
      returns = none;
      name = name "main" 5;
      parameters = [];
      declarations = variables (plain qbit_type) (name "q" 19 ∷ []) ∷ [];
      statements =
          next (assign (name "q" 22) new_qubit)
          (next (invoke (name "H" 38) (also (variable (name "q" 40)) no_more)) (next (measure (name "q" 62)) done));
    } ∷ []

-- its table
pub one-qubit-table : text_table one-qubit
    ≡ 1 ∷ 9 ∷ 0 ∷ 9 ∷ 0 ∷ 0 ∷ 3 ∷ 0 ∷ 0 ∷ 0 ∷ 0 ∷ 0 ∷ 0 ∷ 0 ∷ 0 ∷ 0 ∷ 0 ∷ 0 ∷ 0 ∷ 0 ∷ 0 ∷ 0
    ∷ 7 ∷ 0 ∷ 4 ∷ 0 ∷ 5 ∷ 0 ∷ 3 ∷ 0 ∷ 10 ∷ 4 ∷ 3 ∷ 0 ∷ 11 ∷ 0 ∷ 5 ∷ 0 ∷ 13 ∷ 0 ∷ []
unfolding text-opened
one-qubit-table = refl

-- it is not refused
pub one-qubit-translated : Translated 67 one-qubit
unfolding text-opened
one-qubit-translated = record { names = refl; limits = refl }

-- int bob(channelEnd[qbit] e) { qbit q; q = recv(e); return measure(StdBasis, q); }
-- void main() { channel[qbit] c withends [a, b]; c = new channel[qbit](); fork bob(b); send(a, new qbit()); }
abbrev pub two-stations : Program
two-stations =
    record {
      returns = some (plain int_type);
      name = name "bob" 4;
      parameters = record { type = end_type qbit_type; name = name "e" 25 } ∷ [];
      declarations = variables (plain qbit_type) (name "q" 35 ∷ []) ∷ [];
      statements =
          next (assign (name "q" 38) (reception (variable (name "e" 47))))
          (next (give (measurement (name "q" 76))) done);
    }
    ∷ record {
      returns = none;
      name = name "main" 87;
      parameters = [];
      declarations = withends qbit_type (name "c" 110) (name "a" 122) (name "b" 125) ∷ [];
      statements =
          next (assign (name "c" 129) (new_channel qbit_type))
          (next (fork (name "bob" 159) (also (variable (name "b" 163)) no_more))
          (next (send (variable (name "a" 172)) new_qubit) done));
    } ∷ []

-- main is method 0; bob's third slot is the one that is never filled
pub two-stations-table : text_table two-stations
    ≡ 2 ∷ 24 ∷ 0 ∷ 15 ∷ 15 ∷ 9
    ∷ 0 ∷ 0 ∷ 19 ∷ 35 ∷ 35 ∷ 0 ∷ 0 ∷ 0 ∷ 0 ∷ 0 ∷ 0 ∷ 0 ∷ 0 ∷ 0 ∷ 0 ∷ 0 ∷ 0 ∷ 0
    ∷ 1 ∷ 1 ∷ 35 ∷ 3 ∷ 1 ∷ 0 ∷ 0 ∷ 0 ∷ 0 ∷ 0 ∷ 0 ∷ 0 ∷ 0 ∷ 0 ∷ 0 ∷ 0 ∷ 0 ∷ 0
    ∷ 8 ∷ 3 ∷ 4 ∷ 0 ∷ 9 ∷ 0 ∷ 4 ∷ 1 ∷ 5 ∷ 0 ∷ 3 ∷ 0 ∷ 9 ∷ 1 ∷ 4 ∷ 2 ∷ 5 ∷ 0
    ∷ 3 ∷ 2 ∷ 14 ∷ 1 ∷ 3 ∷ 1 ∷ 7 ∷ 0 ∷ 15 ∷ 0 ∷ 13 ∷ 0
    ∷ 3 ∷ 0 ∷ 16 ∷ 0 ∷ 4 ∷ 1 ∷ 5 ∷ 0 ∷ 3 ∷ 1 ∷ 11 ∷ 0 ∷ 13 ∷ 0 ∷ 3 ∷ 2 ∷ 13 ∷ 0 ∷ []
unfolding text-opened
two-stations-table = refl

-- it is not refused either
pub two-stations-translated : Translated 189 two-stations
unfolding text-opened
two-stations-translated = record { names = refl; limits = refl }

-- void main() { x = 1; }: x is not declared
pub undeclared : name_refusal 22
    (record {
      returns = none;
      name = name "main" 5;
      parameters = [];
      declarations = [];
      statements = next (assign (name "x" 14) (number 1)) done;
    } ∷ [])
    ≡ some 14
unfolding text-opened
undeclared = refl

-- void other() { }: there is no main
pub no_main : name_refusal 16
    (record { returns = none; name = name "other" 5; parameters = []; declarations = []; statements = done } ∷ [])
    ≡ some 16
unfolding text-opened
no_main = refl

-- void main() { int x; x = true; }: the types of its code do not fit, so the table fails question 5
pub wrong_type : limit_refusal
    (record {
      returns = none;
      name = name "main" 5;
      parameters = [];
      declarations = variables (plain int_type) (name "x" 18 ∷ []) ∷ [];
      statements = next (assign (name "x" 21) (truth true)) done;
    } ∷ [])
    ≡ some 5
unfolding text-opened
wrong_type = refl

-- of several places at fault the lowest
pub lowest-of-three : lowest (5 ∷ 3 ∷ 4 ∷ []) ≡ some 3
unfolding text-opened
lowest-of-three = refl
