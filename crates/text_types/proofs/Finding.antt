-- What declarations say of a name, one after the other.
use Prim.Native.Nat.{ℕ, zero, suc}
use mathlib.Core.Path.{◌≡◌, refl, sym, ap, ◌∙◌}
use mathlib.Core.Bool.{Bool, true, false, cond}
use mathlib.Core.List.{List, [], ◌∷◌, ◌++◌, map}
use mathlib.Core.Option.{some}
use native.Mathlib.Omega.{arith}
use borrow.Author.Tests.{ne_eqb}
use lib.Dec.{eqb}
use Rattle.lists.specs.Lists.{same}
use Rattle.text.specs.Tree.{Name, NonVoidType, Declared, plainly, Parameter, parameter_of}
use Rattle.text_parse.specs.Grammar.{declared_here}
use Rattle.text_types.specs.Found.{found_by, found_in, or_else}
use Rattle.std.specs.Prelude as D
use Rattle.std.specs.Option.{option_or, option_and}
use Rattle.std.specs.Bool.{then_some}
use Rattle.text_types.specs.declared.found.DeclaredAs.{DeclaredAs}
use Rattle.text_types.specs.declared.found.DeclaredAs.TheVariants.{Variable, WithEnds}
use Rattle.text_types.specs.Answer.{declared_number}
use Rattle.text_types.specs.FoundCode.{matching}

pub or-none : (a : ℕ) → or_else a 0 ≡ a
or-none zero = refl
or-none (suc n) = rw (ne_eqb (suc n) 0 (λ e. omega arith)) refl

pub or_assoc : (a b c : ℕ) → or_else (or_else a b) c ≡ or_else a (or_else b c)
or_assoc zero b c = refl
or_assoc (suc a) b c =
    let more = ne_eqb (suc a) 0 (λ e. omega arith) in rw (more, more) refl

-- the same of what is declared
pub or-number : (a b : D.Option DeclaredAs) → declared_number (option_or a b) ≡ or_else (declared_number a) (declared_number b)
or-number D.None b = refl
or-number (D.Some Variable) b = refl
or-number (D.Some WithEnds) b = refl

pub ends-number : (a : D.Option DeclaredAs)
    → declared_number (option_and a (D.Some WithEnds)) ≡ cond (eqb (declared_number a) 0) 0 2
ends-number D.None = refl
ends-number (D.Some Variable) = refl
ends-number (D.Some WithEnds) = refl

pub some-number : (b : Bool) → declared_number (then_some b Variable) ≡ cond b 1 0
some-number true = refl
some-number false = refl

pub map-append : {A : Type 0} (f : A → Declared) (ys zs : List A) → map f (ys ++ zs) ≡ map f ys ++ map f zs
map-append f [] zs = refl
map-append f (y ∷ ys) zs = ap (λ ds. f y ∷ ds) (map-append f ys zs)

module _ (x : List ℕ) where
  pub found_none : found_in x [] ≡ 0
  unfolding found_in found_by declared_here
  found_none = refl

  by-test : (b ends : Bool) (m : ℕ) → cond b (cond ends 2 1) m ≡ or_else (cond b (cond ends 2 1) 0) m
  by-test true true m = refl
  by-test true false m = refl
  by-test false ends m = refl

  found-cons : (d : Declared) (ds : List Declared)
      → found_in x (d ∷ ds) ≡ cond (same x d.name.spelling) (cond d.ends 2 1) (found_in x ds)
  unfolding found_in found_by declared_here
  found-cons d ds = choice (same x d.name.spelling)
    where
      choice : (b : Bool)
          → found_by (cond b (some d) (declared_here (record { spelling = x; at = 0 }) ds))
          ≡ cond b (cond d.ends 2 1) (found_by (declared_here (record { spelling = x; at = 0 }) ds))
      choice true = refl
      choice false = refl

  pub found-one : (d : Declared) → found_in x (d ∷ []) ≡ cond (same x d.name.spelling) (cond d.ends 2 1) 0
  found-one d = found-cons d [] ∙ ap (λ (n : ℕ). cond (same x d.name.spelling) (cond d.ends 2 1) n) found_none

  pub found_first : (d : Declared) (ds : List Declared)
      → found_in x (d ∷ ds) ≡ or_else (found_in x (d ∷ [])) (found_in x ds)
  found_first d ds =
      found-cons d ds ∙ by-test (same x d.name.spelling) d.ends (found_in x ds)
      ∙ ap (λ (n : ℕ). or_else n (found_in x ds)) (sym (found-one d))

  pub found-append : (ds es : List Declared) → found_in x (ds ++ es) ≡ or_else (found_in x ds) (found_in x es)
  found-append [] es = ap (λ (n : ℕ). or_else n (found_in x es)) (sym found_none)
  found-append (d ∷ ds) es =
      found_first d (ds ++ es) ∙ ap (or_else (found_in x (d ∷ []))) (found-append ds es)
      ∙ sym (or_assoc (found_in x (d ∷ [])) (found_in x ds) (found_in x es))
      ∙ ap (λ (n : ℕ). or_else n (found_in x es)) (sym (found_first d ds))

  -- one name more
  pub found_name : (t : NonVoidType) (ys : List Name) (y : Name)
      → found_in x (map (plainly t) (ys ++ (y ∷ []))) ≡ or_else (found_in x (map (plainly t) ys))
      (matching x y.spelling)
  found_name t ys y =
      ap (found_in x) (map-append (plainly t) ys (y ∷ [])) ∙ found-append (map (plainly t) ys) (plainly t y ∷ [])
      ∙ ap (or_else (found_in x (map (plainly t) ys))) (found-one (plainly t y))

  -- one parameter more
  pub found-parameter : (ps : List Parameter) (p : Parameter)
      → found_in x (map parameter_of (ps ++ (p ∷ [])))
      ≡ or_else (found_in x (map parameter_of ps)) (found_in x (parameter_of p ∷ []))
  found-parameter ps p =
      ap (found_in x) (map-append parameter_of ps (p ∷ [])) ∙ found-append (map parameter_of ps) (parameter_of p ∷ [])
