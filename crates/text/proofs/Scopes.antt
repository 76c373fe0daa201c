-- Laws of scopes: their slots, and what declarations add to one.
use Prim.Native.Nat.{ℕ, zero, suc, ◌+◌, ◌-◌, ◌≤◌, ◌<◌}
use native.Mathlib.Omega.{arith}
use mathlib.Core.Bool.{Bool, true, false}
use mathlib.Core.Path.{◌≡◌, refl, sym, ap, ◌∙◌, subst}
use mathlib.Core.List.{List, [], ◌∷◌, ◌++◌, map}
use lib.ListN.{get_or, drop, length}
use Rattle.lists.specs.Lists.{All}
use Rattle.lists.proofs.Tests.{passes}
use Rattle.lists.proofs.Any.{All-implies}
use Rattle.text.specs.Tree.{Name, NonVoidType, Declaration, variables, withends, Declared, plainly, declared_in, declared_by}
use Rattle.text.specs.Translation.{Placed, Scope, placed_name, placed_slot, placed, opened}
use Rattle.text.specs.Names.{extended, names_of}

-- the slots in scope are those below i
abbrev pub Below : ℕ → Scope → Type 0
Below i sc = All (λ (v : Placed). v.slot < i) sc

-- those below i are below what is more
pub below_more : (i j : ℕ) (sc : Scope) → i ≤ j → Below i sc → Below j sc
below_more i j sc le h =
    All-implies (λ (v : Placed). v.slot < i) (λ (v : Placed). v.slot < j) (λ v l. omega arith) sc h

-- The ends of a channel with ends have the two slots after it.
pub data EndsKept : Scope → Type 0 where
  none-placed : EndsKept []
  one_placed : {x : Name} {i : ℕ} {sc : Scope} → EndsKept sc
      → EndsKept (record { name = x; ends = false; slot = i } ∷ sc)
  ends-placed : {c a b : Name} {i : ℕ} {sc : Scope} → EndsKept sc
      → EndsKept
      (record { name = b; ends = false; slot = suc (suc i) } ∷ record { name = a; ends = false; slot = suc i }
      ∷ record { name = c; ends = true; slot = i } ∷ sc)

-- The scope once these are declared: its names
pub opened-names : (ds : List Declared) (i : ℕ) (sc : Scope)
    → map placed_name (opened ds i sc) ≡ extended (names_of ds) (map placed_name sc)
unfolding opened extended
opened-names [] i sc = refl
opened-names (d ∷ ds) i sc = opened-names ds (suc i) (placed d i ∷ sc)

-- its slots
pub opened-below : (ds : List Declared) (i : ℕ) (sc : Scope) → Below i sc → Below (i + length ds) (opened ds i sc)
unfolding opened
opened-below [] i sc h = below_more i (i + 0) sc (omega arith) h
opened-below (d ∷ ds) i sc h =
    below_more (suc i + length ds) (i + suc (length ds)) (opened ds (suc i) (placed d i ∷ sc)) (omega arith)
    (opened-below ds (suc i) (placed d i ∷ sc) (omega arith, below_more i (suc i) sc (omega arith) h))

-- what is left when its variables and k more are dropped
drop-opened : (ds : List Declared) (i k : ℕ) (sc : Scope) → drop (length ds + k) (opened ds i sc) ≡ drop k sc
unfolding opened
drop-opened [] i k sc = let e : 0 + k ≡ k = omega arith in ap (λ (n : ℕ). drop n sc) e
drop-opened (d ∷ ds) i k sc =
    let e : suc (length ds) + k ≡ length ds + suc k = omega arith in
    ap (λ (n : ℕ). drop n (opened ds (suc i) (placed d i ∷ sc))) e
    ∙ drop-opened ds (suc i) (suc k) (placed d i ∷ sc)

-- what is left when they are out of scope
pub opened-left : (ds : List Declared) (i : ℕ) (sc : Scope) → drop (length ds) (opened ds i sc) ≡ sc
opened-left ds i sc =
    let e : length ds ≡ length ds + 0 = omega arith in
    ap (λ (n : ℕ). drop n (opened ds i sc)) e ∙ drop-opened ds i 0 sc

-- declarations one after the other
pub opened-append : (ds es : List Declared) (i : ℕ) (sc : Scope)
    → opened (ds ++ es) i sc ≡ opened es (i + length ds) (opened ds i sc)
unfolding opened
opened-append [] es i sc = ap (λ (n : ℕ). opened es n sc) (omega arith)
opened-append (d ∷ ds) es i sc =
    opened-append ds es (suc i) (placed d i ∷ sc)
    ∙ ap (λ (n : ℕ). opened es n (opened ds (suc i) (placed d i ∷ sc))) (omega arith)

-- Declarations keep the ends after their channels: variables without ends
opened-plain : (t : NonVoidType) (xs : List Name) (i : ℕ) (sc : Scope) → EndsKept sc
    → EndsKept (opened (map (plainly t) xs) i sc)
unfolding opened
opened-plain t [] i sc h = h
opened-plain t (x ∷ xs) i sc h = opened-plain t xs (suc i) (placed (plainly t x) i ∷ sc) (one_placed h)

-- one declaration
opened_one : (d : Declaration) (i : ℕ) (sc : Scope) → EndsKept sc → EndsKept (opened (declared_in d) i sc)
unfolding opened declared_in
opened_one (variables t xs) i sc h = opened-plain t xs i sc h
opened_one (withends t c a b) i sc h = ends-placed h

-- all declarations of a block
pub opened-ends : (ds : List Declaration) (i : ℕ) (sc : Scope) → EndsKept sc → EndsKept (opened (declared_by ds) i sc)
unfolding opened declared_by
opened-ends [] i sc h = h
opened-ends (d ∷ ds) i sc h =
    subst EndsKept (sym (opened-append (declared_in d) (declared_by ds) i sc))
    (opened-ends ds (i + length (declared_in d)) (opened (declared_in d) i sc) (opened_one d i sc h))

-- the slots of a channel's ends, by where the channel stands in the scope
pub record EndSlots (sc : Scope) (j : ℕ) : Type 0 where
  pub first : get_or (map placed_slot sc) (j - 1) 16 ≡ get_or (map placed_slot sc) j 16 + 1
  pub second : get_or (map placed_slot sc) (j - 2) 16 ≡ get_or (map placed_slot sc) j 16 + 2
  pub far : 2 ≤ j

-- whether a variable in scope has ends
abbrev pub placed_ends : Placed → Bool
placed_ends v = v.ends

-- a variable that has ends has the slots of its ends after its own
pub ends_at : {sc : Scope} → EndsKept sc → (j : ℕ) → get_or (map placed_ends sc) j false ≡ true → EndSlots sc j
ends_at none-placed j e = absurd (passes e)
ends_at (one_placed h) zero e = absurd (passes e)
ends_at (one_placed {x} {i} {sc} h) (suc k) e =
    let ih : EndSlots sc k = ends_at h k e in
    let far : 2 ≤ k = ih.far in
    let one : suc k - 1 ≡ suc (k - 1) = omega arith in
    let two : suc k - 2 ≡ suc (k - 2) = omega arith in
    let slots : List ℕ = i ∷ map placed_slot sc in
    record {
      first = ap (λ (n : ℕ). get_or slots n 16) one ∙ ih.first;
      second = ap (λ (n : ℕ). get_or slots n 16) two ∙ ih.second;
      far = omega arith;
    }
ends_at (ends-placed h) zero e = absurd (passes e)
ends_at (ends-placed h) (suc zero) e = absurd (passes e)
ends_at (ends-placed {c} {a} {b} {i} {sc} h) (suc (suc zero)) e =
    record { first = omega arith; second = omega arith; far = omega arith }
ends_at (ends-placed {c} {a} {b} {i} {sc} h) (suc (suc (suc k))) e =
    let ih : EndSlots sc k = ends_at h k e in
    let far : 2 ≤ k = ih.far in
    let one : suc (suc (suc k)) - 1 ≡ suc (suc (suc (k - 1))) = omega arith in
    let two : suc (suc (suc k)) - 2 ≡ suc (suc (suc (k - 2))) = omega arith in
    let slots : List ℕ = suc (suc i) ∷ suc i ∷ i ∷ map placed_slot sc in
    record {
      first = ap (λ (n : ℕ). get_or slots n 16) one ∙ ih.first;
      second = ap (λ (n : ℕ). get_or slots n 16) two ∙ ih.second;
      far = omega arith;
    }
