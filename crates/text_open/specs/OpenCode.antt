-- The names declared in the blocks that are open, kept while the tokens are gone over: in a lent slice of three words
-- for each, where the name starts and ends in the text and the level of its block. There is room for 1,024; the count
-- of one more says that a name did not fit, and that nothing is known from the entries until the next method begins.
-- That they are the names of the blocks is proved (proofs/OpenLaws.antt).
use Rattle.std.specs.Prelude.{ℕ, zero, suc, ◌+◌, ◌*◌, ◌≤◌, ◌≡◌, Bool, cond, ◌&&◌, ◌||◌, List, [], ◌∷◌, ◌++◌, eqb, leb, length, get_or}
use Rattle.std.proofs.Math.Seq.{slice}
use Rattle.lists.specs.Lists.{same, any}
use Rattle.text.specs.Tree.{Name}
use Rattle.text_scan.specs.FaultsCode.{Blocks}
use Rattle.text_roles.specs.FoundCode.{level_of}

-- a declared name and the level of its block
pub record Declared : Type 0 where
  pub level : ℕ
  pub bytes : List ℕ

-- entry j of the slice
unfoldable pub entry_of : List ℕ → List ℕ → ℕ → Declared
entry_of text words j = record {
  level = get_or words (3 * j + 2) 0;
  bytes = slice (get_or words (3 * j) 0) (get_or words (3 * j + 1) 0) text;
}

-- the first n, the last first
unfoldable pub open_of : List ℕ → List ℕ → ℕ → List Declared
open_of text words zero = []
open_of text words (suc j) = entry_of text words j ∷ open_of text words j

-- an entry has the name, in a block of this level or a deeper one
unfoldable pub is_this : ℕ → List ℕ → Declared → Bool
is_this least x d = leb least d.level && same x d.bytes

unfoldable pub is_open : ℕ → List ℕ → List Declared → Bool
is_open least x ds = any (is_this least x) ds

-- without the last entries, as far as they are of this level or a deeper one
unfoldable pub leaving : ℕ → List Declared → List Declared
leaving level [] = []
leaving level (d ∷ ds) = cond (leb level d.level) (leaving level ds) (d ∷ ds)

-- the entries after a token of role r: a name is declared at the level of the braces, or their block is closed
unfoldable pub open_after : ℕ → ℕ → List ℕ → List Declared → List Declared
open_after braces r x ds =
    cond (eqb r 1) []
    (cond (eqb r 2) (record { level = level_of braces; bytes = x } ∷ ds)
    (cond (eqb r 7 || eqb r 8) (leaving braces ds) ds))

-- the names of blocks with their levels, those whose bytes pass a test
unfoldable pub names_at : (List ℕ → Bool) → ℕ → List Name → List Declared
names_at test l [] = []
names_at test l (y ∷ b) =
    cond (test y.spelling) (record { level = l; bytes = y.spelling } ∷ names_at test l b) (names_at test l b)

unfoldable pub declared_in : (List ℕ → Bool) → Blocks → List Declared
declared_in test [] = []
declared_in test (b ∷ bs) = names_at test (suc (length bs)) b ++ declared_in test bs

-- Of n entries of a slice come m of another: where those stand for some names these stand for the names after a token,
-- as long as they fit.
abbrev pub Turns : (List ℕ → List Declared → List Declared) → List ℕ → ℕ → List ℕ → ℕ → Type 0
Turns onward words n words' m =
    (m ≤ 1025) × ((text : List ℕ) (ds : List Declared) → (n ≤ 1024 → open_of text words n ≡ ds) → m ≤ 1024
    → open_of text words' m ≡ onward text ds)
