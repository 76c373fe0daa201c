-- Whether a name is declared in a block that is open at a place, as the code finds it: one number is kept, the level of
-- the outermost such block, 0 where there is none. These definitions follow the code; that it says whether the name is
-- in scope is proved (proofs/Levels.antt).
use Rattle.std.specs.Prelude.{ℕ, zero, suc, Bool, cond, ◌&&◌, ◌||◌, List, [], ◌∷◌, eqb, leb, length}
use Rattle.lists.specs.Lists.{same, any}
use Rattle.text.specs.Tree.{Name}
use Rattle.text_parse.specs.Tokens.{Token}
use Rattle.text_tokens.specs.KindsCode.{kind_of}
use Rattle.text_scan.specs.ScanCode.{kind_at, mode_after, braces_after, role}
use Rattle.text_scan.specs.FaultsCode.{Blocks, with_name, without_block}

-- the level of the innermost block; parameters stand in that of the body
unfoldable pub level_of : ℕ → ℕ
level_of zero = 1
level_of (suc b) = suc b

-- after a token of role r: a name is declared at the level of the braces, or their block is closed
unfoldable pub found_after : ℕ → ℕ → ℕ → Bool → ℕ → ℕ
found_after least braces r is found =
    cond (eqb r 1) 0
    (cond (eqb r 2) (cond (eqb found 0 && (leb least (level_of braces) && is)) (level_of braces) found)
    (cond (eqb r 7 || eqb r 8) (cond (eqb found braces) 0 found) found))

-- up to the token that starts at `to` or after it; blocks of lower levels than `least` are passed over
unfoldable pub found_up_to : ℕ → List ℕ → ℕ → ℕ → ℕ → ℕ → List Token → ℕ
found_up_to least x to mode braces found [] = found
found_up_to least x to mode braces found (t ∷ ts) =
    let k = kind_of t.bytes in
    cond (leb to t.at) found
    (found_up_to least x to (mode_after mode braces k) (braces_after braces k)
    (found_after least braces (role mode braces k (kind_at ts)) (same x t.bytes) found) ts)

-- the same of blocks: the level of the outermost that has the name
unfoldable pub found_in : ℕ → List ℕ → Blocks → ℕ
found_in least x [] = 0
found_in least x (b ∷ bs) =
    let outer = found_in least x bs in
    cond (eqb outer 0)
    (cond (leb least (suc (length bs)) && any (λ (y : Name). same x y.spelling) b) (suc (length bs)) 0) outer

-- the blocks after a token of role r
unfoldable pub blocks_after : ℕ → Name → Blocks → Blocks
blocks_after r x bs =
    cond (eqb r 1) ([] ∷ [])
    (cond (eqb r 2) (with_name x bs)
    (cond (eqb r 6) ([] ∷ bs)
    (cond (eqb r 7 || eqb r 8) (without_block bs) bs)))
