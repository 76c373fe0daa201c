-- Traces read by themselves: any words are lines. "Six words make a line, and a part of one at the end is ignored."
use Rattle.std.specs.Prelude.{ℕ, suc, Bool, true, false, cond, ◌&&◌, List, [], ◌∷◌, reverse, ℤ, pos, ◌-ℤ◌, take, eqb}
use Rattle.std.specs.Prelude as P
use Rattle.std.proofs.Math.Option.{Option, none, some, get_or}
use Rattle.machine.specs.Value.{qubit, covers, eq_z}
use Rattle.machine.specs.State.{Line}
use Rattle.machine.specs.Owner.{given_thing, holder}

unfoldable pub lines_of : List ℕ → List Line
lines_of [] = []
lines_of (e ∷ []) = []
lines_of (e ∷ n ∷ []) = []
lines_of (e ∷ n ∷ k ∷ []) = []
lines_of (e ∷ n ∷ k ∷ a ∷ []) = []
lines_of (e ∷ n ∷ k ∷ a ∷ b ∷ []) = []
lines_of (e ∷ n ∷ k ∷ a ∷ b ∷ c ∷ ws) = record { entry = e; process = n; kind = k; a = a; b = b; c = c } ∷ lines_of ws

-- "The look-up takes any words, k and a qubit number: among the first k lines (all, if fewer) the latest kind 1 line of
-- that qubit answers its process, the latest kind 6 line with thing 3 and that number its a, whichever is later; 65535
-- if there is neither." That is the qubit's holder by those lines.
unfoldable pub look_up : List ℕ → ℕ → ℕ → ℕ
look_up ws k q = get_or (holder (take k (lines_of ws)) (qubit q)) 65535

-- the same holder, and none "if there is neither"
unfoldable pub held : List ℕ → ℕ → ℕ → Option ℕ
held ws k q = holder (take k (lines_of ws)) (qubit q)

-- an answer of the code that may be missing, as the definitions have it
abbrev pub found : P.Option ℕ → Option ℕ
found P.None = none
found (P.Some p) = some p

-- "the line that decides" who holds qubit q, by the rule of `Owner.holder_after`: a kind 1 line of the qubit, or a kind
-- 6 line with thing 3 and its number
unfoldable pub decides : ℕ → Line → Bool
decides q l =
    cond (eqb l.kind 1) (covers (qubit l.a) (qubit q))
    (cond (eqb l.kind 6) (given_thing l.b l.c (qubit q)) false)

-- "stop at the line that decides; .. it also answers how many lines it read, every one when none decides": of lines in
-- the order in which they are read, the one that decides counted
unfoldable pub read_back : ℕ → List Line → ℕ
read_back q [] = 0
read_back q (l ∷ ls) = cond (decides q l) 1 (suc (read_back q ls))

-- "Read the first k lines (all, if fewer) from the last one backwards"
unfoldable pub count_read : List ℕ → ℕ → ℕ → ℕ
count_read ws k q = read_back q (reverse (take k (lines_of ws)))

-- two lines agree, column 0 left out
unfoldable pub same_line : Line → Line → Bool
same_line l m =
    eqb l.process m.process
    && (eqb l.kind m.kind && (eqb l.a m.a && (eqb l.b m.b && eqb l.c m.c)))

-- as many lines in both, and each agrees with the other's
unfoldable pub same_all : List Line → List Line → Bool
same_all [] [] = true
same_all [] (m ∷ ms) = false
same_all (l ∷ ls) [] = false
same_all (l ∷ ls) (m ∷ ms) = same_line l m && same_all ls ms

-- The gap from line l to line m: by how much "the entry number changes", "counted with its sign and never wrapped".
unfoldable pub gap : Line → Line → ℤ
gap l m = pos m.entry -ℤ pos l.entry

-- the gaps of a trace, "between each line and the next"
unfoldable pub gaps : List Line → List ℤ
gaps [] = []
gaps (l ∷ []) = []
gaps (l ∷ m ∷ ls) = gap l m ∷ gaps (m ∷ ls)

-- as many gaps in both, and each equals the other's
unfoldable pub same_gaps : List ℤ → List ℤ → Bool
same_gaps [] [] = true
same_gaps [] (h ∷ hs) = false
same_gaps (g ∷ gs) [] = false
same_gaps (g ∷ gs) (h ∷ hs) = eq_z g h && same_gaps gs hs

-- "Same shall now also need equal gaps: between each line and the next, the entry number changes by the same amount in
-- both"
unfoldable pub same_timed : List Line → List Line → Bool
same_timed ls ms = same_all ls ms && same_gaps (gaps ls) (gaps ms)

-- "a yes or no on whether two traces have the same lines", with equal gaps; "no where the numbers of lines differ"
unfoldable pub same_lines : List ℕ → List ℕ → Bool
same_lines xs ys = same_timed (lines_of xs) (lines_of ys)

-- the same without timing: "Paper 10 goes on leaving column 0 out."
unfoldable pub same_untimed : List ℕ → List ℕ → Bool
same_untimed xs ys = same_all (lines_of xs) (lines_of ys)
