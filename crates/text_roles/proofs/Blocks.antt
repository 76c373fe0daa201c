-- There are always as many blocks open as the level says.
use Prim.Native.Nat.{ℕ, zero, suc}
use native.Mathlib.Omega.{arith}
use mathlib.Core.Path.{◌≡◌, refl, sym, ap, ◌∙◌}
use mathlib.Core.Bool.{Bool, true, false, cond, ◌||◌}
use mathlib.Core.List.{[], ◌∷◌}
use lib.Dec.{eqb, eqb→eq}
use lib.ListN.{length}
use Rattle.lists.proofs.Tests.{passes, never}
use Rattle.text.specs.Tree.{Name}
use Rattle.text_scan.specs.ScanCode.{is_none, less_one, braces_after, name_role, brace_role, role}
use Rattle.text_scan.specs.FaultsCode.{Blocks, with_name, without_block}
use Rattle.text_roles.specs.FoundCode.{level_of, blocks_after}
use Rattle.text_roles.proofs.Levels.{no-level}

-- a block is closed within braces alone
pub closes-level : (m b k f : ℕ) (bs : Blocks) → length bs ≡ level_of b
    → (eqb (role m b k f) 7 || eqb (role m b k f) 8) ≡ true → b ≡ length bs
unfolding role name_role brace_role is_none level_of
closes-level m zero k f bs e = by (eqb k 33) (eqb f 19)
  where
    by : (a c : Bool)
        → (eqb (cond a (cond c 1 2) 0) 7 || eqb (cond a (cond c 1 2) 0) 8) ≡ true → 0 ≡ length bs
    by true true q = never q
    by true false q = never q
    by false c q = never q
closes-level m (suc b) k f bs e = λ q. sym e

outside-level : (k : ℕ) → level_of (braces_after 0 k) ≡ 1
unfolding braces_after level_of less_one
outside-level k = by (eqb k 21) (eqb k 22)
  where
    by : (a c : Bool) → level_of (cond a 1 (cond c 0 0)) ≡ 1
    by true c = refl
    by false true = refl
    by false false = refl

named-length : (x : Name) (bs : Blocks) (b : ℕ) → length bs ≡ level_of b → length (with_name x bs) ≡ level_of b
unfolding with_name
named-length x [] b e = absurd (no-level b e)
named-length x (c ∷ bs) b e = e

closed-length : (bs : Blocks) (b : ℕ) → length bs ≡ suc b → length (without_block bs) ≡ level_of b
unfolding without_block level_of
closed-length [] b e = absurd (omega arith)
closed-length (c ∷ []) zero e = refl
closed-length (c ∷ []) (suc b) e = absurd (omega arith)
closed-length (c ∷ d ∷ bs) zero e = absurd (omega arith)
closed-length (c ∷ d ∷ bs) (suc b) e = omega arith

pub blocks-level : (m b k f : ℕ) (x : Name) (bs : Blocks) → length bs ≡ level_of b
    → length (blocks_after (role m b k f) x bs) ≡ level_of (braces_after b k)
unfolding role name_role brace_role is_none less_one blocks_after braces_after level_of
blocks-level m zero k f x bs e = by (eqb k 33) (eqb f 19) ∙ sym (outside-level k)
  where
    one : length bs ≡ 1
    one = e ∙ outside-level 0

    by : (a c : Bool) → length (blocks_after (cond a (cond c 1 2) 0) x bs) ≡ 1
    by true true = refl
    by true false = named-length x bs 0 e ∙ outside-level 0
    by false c = one
blocks-level m (suc b) k f x bs e = by (eqb k 33) refl
  where
    name : (a c d g : Bool)
        → length (blocks_after (cond a 2 (cond c 0 (cond d (cond g 5 4) 3))) x bs) ≡ level_of (suc b)
    name true c d g = named-length x bs (suc b) e
    name false true d g = e
    name false false true true = e
    name false false true false = e
    name false false false g = e

    close : (a : Bool) → length (blocks_after (cond a 8 7) x bs) ≡ level_of b
    close true = closed-length bs b e
    close false = closed-length bs b e

    brace : (a c : Bool)
        → length (blocks_after (cond a 6 (cond c (cond (is_none b) 8 7) 0)) x bs)
        ≡ level_of (cond a (suc (suc b)) (cond c b (suc b)))
    brace true c = ap suc e
    brace false true = close (is_none b)
    brace false false = e

    by : (a : Bool) → eqb k 33 ≡ a
        → length (blocks_after (cond a (cond (eqb m 4) 2 (cond (eqb m 3) 0 (cond (eqb f 19) (cond (eqb m 1) 5 4) 3)))
        (cond (eqb k 21) 6 (cond (eqb k 22) (cond (is_none b) 8 7) 0))) x bs)
        ≡ level_of (braces_after (suc b) k)
    by true q =
        name (eqb m 4) (eqb m 3) (eqb f 19) (eqb m 1)
        ∙ ap (λ (j : ℕ). level_of (braces_after (suc b) j)) (sym (eqb→eq k 33 (passes q)))
    by false q = brace (eqb k 21) (eqb k 22)
