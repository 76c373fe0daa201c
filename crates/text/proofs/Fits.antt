-- What 31 and 32 leave of an expression or a statement of a method: no name is at fault, its numbers are within the
-- limit, and there are slots for the variables that it declares. Then the same of its parts.
use Prim.Native.Nat.{ℕ, ◌+◌, ◌≤◌}
use native.Mathlib.Omega.{arith}
use mathlib.Core.Bool.{Bool}
use mathlib.Core.Path.{◌≡◌, sym, subst}
use mathlib.Core.List.{List, [], ◌∷◌, ◌++◌, map}
use lib.ListN.{length, length-append}
use lib.Dec.{T}
use mir.Facts.{yes_and}
use Rattle.lists.specs.Lists.{every}
use Rattle.lists.proofs.Tests.{and_left, and_right}
use Rattle.lists.proofs.Laws.{append-nil-right}
use Rattle.text.specs.Tree.{Name, Declaration, Expr, Exprs, Statement, Statements, loop, block, Method, Program, Declared, declared_by}
use Rattle.text.specs.Translation.{Scope, placed_name, opened, within, all_within, hole_of}
use Rattle.text.specs.Names.{expr_faults, exprs_faults, twice_faults, names_of, statement_faults, statements_faults}
use Rattle.text.specs.Limits.{expr_numbers, exprs_numbers, numbers_in, all_numbers_in, is_number}
use Rattle.text.proofs.Apart.{append-nil-left}
use Rattle.text.proofs.Scopes.{Below, below_more, EndsKept, opened-names, opened-below, opened-ends}

-- no place of a fault of names, and numbers within the limit
pub record Faultless (places numbers : List ℕ) : Type 0 where
  pub names : places ≡ []
  pub limits : T (every is_number numbers)

-- the slots from i on have room for so many variables more, and those in scope are below
pub record FitsScope (m : Method) (sc : Scope) (i : ℕ) (more : ℕ) : Type 0 where
  pub room : i + more ≤ hole_of m
  pub below : Below i sc
  pub ends : EndsKept sc

-- an expression, the arguments of a call, a statement and the statements of a block, the first free slot being i
abbrev pub FitsExpr : Program → Scope → Expr → Type 0
FitsExpr ms sc e = Faultless (expr_faults ms (map placed_name sc) e) (expr_numbers e)

-- the arguments of a call
abbrev pub FitsExprs : Program → Scope → Exprs → Type 0
FitsExprs ms sc es = Faultless (exprs_faults ms (map placed_name sc) es) (exprs_numbers es)

pub record Fits (ms : Program) (m : Method) (sc : Scope) (i : ℕ) (s : Statement) : Type 0 where
  pub faultless : Faultless (statement_faults ms (map placed_name sc) s) (numbers_in s)
  pub scope : FitsScope m sc i (length (within s))

pub record FitsAll (ms : Program) (m : Method) (sc : Scope) (i : ℕ) (ss : Statements) : Type 0 where
  pub faultless : Faultless (statements_faults ms (map placed_name sc) ss) (all_numbers_in ss)
  pub scope : FitsScope m sc i (length (all_within ss))

-- Of two parts

-- a test that every element of two lists passes: of the first
every-left : {A : Type 0} (f : A → Bool) (xs ys : List A) → T (every f (xs ++ ys)) → T (every f xs)
every-left f [] ys t = tt
every-left f (x ∷ xs) ys t =
    yes_and (f x) (every f xs) (and_left (f x) (every f (xs ++ ys)) t)
    (every-left f xs ys (and_right (f x) (every f (xs ++ ys)) t))

-- of the second
every-right : {A : Type 0} (f : A → Bool) (xs ys : List A) → T (every f (xs ++ ys)) → T (every f ys)
every-right f [] ys t = t
every-right f (x ∷ xs) ys t = every-right f xs ys (and_right (f x) (every f (xs ++ ys)) t)

module _ {xs ns : List ℕ} where
  -- the first part
  pub first-faultless : (ys ks : List ℕ) → Faultless (xs ++ ys) (ns ++ ks) → Faultless xs ns
  first-faultless ys ks f =
      record { names = append-nil-left xs ys f.names; limits = every-left is_number ns ks f.limits }

  -- the second part
  pub second-faultless : (ys ks : List ℕ) → Faultless (ys ++ xs) (ks ++ ns) → Faultless xs ns
  second-faultless ys ks f =
      record { names = append-nil-right ys xs f.names; limits = every-right is_number ks ns f.limits }

  -- the second part, where the first has no numbers
  pub rest-faultless : (ys : List ℕ) → Faultless (ys ++ xs) ns → Faultless xs ns
  rest-faultless ys f = record { names = append-nil-right ys xs f.names; limits = f.limits }

-- a scope in which two parts are declared: the first part, and the second after it
module _ {m : Method} {sc : Scope} {i : ℕ} (xs ys : List Declared) (f : FitsScope m sc i (length (xs ++ ys))) where
  both-room : i + (length xs + length ys) ≤ hole_of m
  both-room = subst (λ (k : ℕ). i + k ≤ hole_of m) (length-append xs ys) f.room

  -- where the first part is declared
  pub first-scope : FitsScope m sc i (length xs)
  first-scope = let room = both-room in record { room = omega arith; below = f.below; ends = f.ends }

  -- where the second is, after the first
  pub second-scope : FitsScope m sc (i + length xs) (length ys)
  second-scope =
      let room = both-room in
      record {
        room = omega arith;
        below = below_more i (i + length xs) sc (omega arith) f.below;
        ends = f.ends;
      }

-- Of a loop and a block

-- a loop's body
pub loop-body : (ms : Program) (m : Method) (e : Expr) (s : Statement) (sc : Scope) (i : ℕ) → Fits ms m sc i (loop e s)
    → Fits ms m sc i s
unfolding statement_faults numbers_in within
loop-body ms m e s sc i fits = record {
  faultless = second-faultless (expr_faults ms (map placed_name sc) e) (expr_numbers e) fits.faultless;
  scope = fits.scope;
}

-- the statements of a block, where its variables are declared
pub block-body : (ms : Program) (m : Method) (ds : List Declaration) (ss : Statements) (sc : Scope) (i : ℕ)
    → Fits ms m sc i (block ds ss) → FitsAll ms m (opened (declared_by ds) i sc) (i + length (declared_by ds)) ss
unfolding statement_faults numbers_in within
block-body ms m ds ss sc i fits =
    let D : List Declared = declared_by ds in
    let after : FitsScope m sc (i + length D) (length (all_within ss)) =
    second-scope D (all_within ss) fits.scope in
    record {
      faultless =
          subst (λ (xs : List Name). Faultless (statements_faults ms xs ss) (all_numbers_in ss))
          (sym (opened-names D i sc))
          (rest-faultless (twice_faults [] (names_of D)) fits.faultless);
      scope = record {
        room = after.room;
        below = opened-below D i sc fits.scope.below;
        ends = opened-ends ds i sc fits.scope.ends;
      };
    }
