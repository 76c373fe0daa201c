-- Passes over the names class by class find the lowest fault of all.
use Prim.Native.Nat.{ℕ, suc, ◌+◌, ◌≤◌, ◌<◌}
use native.Mathlib.Omega.{arith}
use native.Mathlib.Nat.{mod-lt}
use mathlib.Core.Path.{◌≡◌, refl, sym, ap, ◌∙◌}
use mathlib.Core.Bool.{Bool, true, false, ◌&&◌, ◌||◌, not}
use mathlib.Core.List.{List, [], ◌∷◌, ◌++◌}
use mathlib.Core.Option.{Option, none}
use lib.Dec.{eqb, eqb→eq, ltb}
use borrow.Author.Tests.{lt-ltb, le-ltb, ltb-true, ltb-false, eqb-false, le-leb}
use Rattle.lists.proofs.Tests.{passes}
use Rattle.text.specs.Tree.{Name}
use Rattle.text.specs.Names.{unless, declared_among, use_fault, lower, lowest}
use Rattle.text_parse.specs.Tokens.{Token}
use Rattle.text_tokens.specs.Places.{tokens_at}
use Rattle.text_scan.specs.Events.{Event, method_named, declared, used, called, invoked, opened, closed, ended}
use Rattle.text_scan.specs.ScanCode.{with_event, events_from}
use Rattle.text_scan.specs.FaultsCode.{Entry, count_of, index_in, callable, invocable, Blocks, innermost, with_name, without_block, names_in}
use Rattle.text_roles.specs.FoundCode.{blocks_after}
use Rattle.text_roles.proofs.ByRole.{Other, by-role}
use Rattle.text_open.specs.ClassCode.{mixed, hash_from, in_class, in_past, fits_in}
use Rattle.text_names.specs.FaultsCode.{all_faults, name_if, faulty, fault_at, index_after, lower_of, place_if, lowest_of}
use Rattle.text_names.specs.FaultCode.{methods_of, lowest_fault, lowest_in}
use Rattle.text_names.proofs.Lowest.{lower-assoc, lower-swap}

-- The class of a name

hash-low : (x : List ℕ) (h : ℕ) → h < 251 → hash_from h x < 251
unfolding hash_from mixed
hash-low [] h l = l
hash-low (y ∷ x) h l = hash-low x (mixed h y) (mod-lt _ (omega arith))

-- The lowest place

lowest-same : (p q : List ℕ → Bool) → ((x : List ℕ) → p x ≡ q x) → (xs : List Name) → lowest_of p xs ≡ lowest_of q xs
unfolding lowest_of
lowest-same p q e [] = refl
lowest-same p q e (x ∷ xs) =
    ap (λ (b : Bool). lower_of (place_if b x.at) (lowest_of p xs)) (e x.spelling)
    ∙ ap (lower_of (place_if (q x.spelling) x.at)) (lowest-same p q e xs)

lowest-nobody : (p : List ℕ → Bool) → ((x : List ℕ) → p x ≡ false) → (xs : List Name) → lowest_of p xs ≡ none
unfolding lowest_of lower_of
lowest-nobody p e [] = refl
lowest-nobody p e (x ∷ xs) =
    ap (λ (b : Bool). lower_of (place_if b x.at) (lowest_of p xs)) (e x.spelling) ∙ lowest-nobody p e xs

place-either : (a b : Bool) (i : ℕ) → place_if (a || b) i ≡ lower_of (place_if a i) (place_if b i)
unfolding lower_of lower
place-either true true i = rw (le-leb i i (omega arith)) refl
place-either true false i = refl
place-either false b i = refl

none-either : none ≡ lower_of none none
unfolding lower_of
none-either = refl

lowest-either : (p q : List ℕ → Bool) (xs : List Name)
    → lowest_of (λ x. p x || q x) xs ≡ lower_of (lowest_of p xs) (lowest_of q xs)
unfolding lowest_of
lowest-either p q [] = none-either
lowest-either p q (x ∷ xs) =
    let a = place_if (p x.spelling) x.at in
    let b = place_if (q x.spelling) x.at in
    ap (λ o. lower_of o (lowest_of (λ y. p y || q y) xs)) (place-either (p x.spelling) (q x.spelling) x.at)
    ∙ ap (lower_of (lower_of a b)) (lowest-either p q xs)
    ∙ lower-assoc a b (lower_of (lowest_of p xs) (lowest_of q xs))
    ∙ ap (lower_of a) (lower-swap b (lowest_of p xs) (lowest_of q xs))
    ∙ sym (lower-assoc a (lowest_of p xs) (lower_of b (lowest_of q xs)))

-- one name in front of others
pub lowest-one : (p : List ℕ → Bool) (f : Bool) (x : Name) (ys : List Name)
    → lowest_of p (name_if f x ++ ys) ≡ lower_of (place_if (p x.spelling && f) x.at) (lowest_of p ys)
unfolding lowest_of lower_of
lowest-one p f x ys = by f (p x.spelling) refl
  where
    by : (f b : Bool) → p x.spelling ≡ b
        → lowest_of p (name_if f x ++ ys) ≡ lower_of (place_if (b && f) x.at) (lowest_of p ys)
    by true true e = rw e refl
    by true false e = rw e refl
    by false true e = refl
    by false false e = refl

-- All names

unless-lowest : (ok : Bool) (x : Name) (is : List ℕ)
    → lowest (unless ok x ++ is) ≡ lower_of (place_if (not ok) x.at) (lowest is)
unfolding lowest lower_of
unless-lowest true x is = refl
unless-lowest false x is = refl

place-lowest : (fault : Bool) (x : Name) (is : List ℕ)
    → lowest (unless (not fault) x ++ is) ≡ lower_of (place_if fault x.at) (lowest is)
unfolding lowest lower_of
place-lowest true x is = refl
place-lowest false x is = refl

abbrev everyone : List ℕ → Bool
everyone x = true

module _ (all : List Entry) where
  named : (f : Bool) (x : Name) (ys : List Name) (is : List ℕ) → lowest_of everyone ys ≡ lowest is
      → lowest_of everyone (name_if f x ++ ys) ≡ lowest (unless (not f) x ++ is)
  named f x ys is e =
      lowest-one everyone f x ys ∙ ap (lower_of (place_if f x.at)) e ∙ sym (place-lowest f x is)

  missed : (ok : Bool) (x : Name) (ys : List Name) (is : List ℕ) → lowest_of everyone ys ≡ lowest is
      → lowest_of everyone (name_if (not ok) x ++ ys) ≡ lowest (unless ok x ++ is)
  missed ok x ys is e =
      lowest-one everyone (not ok) x ys ∙ ap (lower_of (place_if (not ok) x.at)) e ∙ sym (unless-lowest ok x is)

  none-faulty : lowest_of everyone [] ≡ lowest []
  unfolding lowest_of lowest
  none-faulty = refl

  all-faulty : (i : ℕ) (bs : Blocks) (es : List Event)
      → lowest_of everyone (faulty all i bs es) ≡ lowest (all_faults all i bs es)
  unfolding faulty all_faults use_fault
  all-faulty i bs [] = none-faulty
  all-faulty i bs (method_named x n ∷ es) =
      named (ltb (index_in all x) i) x (faulty all (suc i) ([] ∷ []) es) (all_faults all (suc i) ([] ∷ []) es)
      (all-faulty (suc i) ([] ∷ []) es)
  all-faulty i bs (declared x ∷ es) =
      named (declared_among (innermost bs) x) x (faulty all i (with_name x bs) es) (all_faults all i (with_name x bs) es)
      (all-faulty i (with_name x bs) es)
  all-faulty i bs (used x ∷ es) =
      missed (declared_among (names_in bs) x) x (faulty all i bs es) (all_faults all i bs es) (all-faulty i bs es)
  all-faulty i bs (called x n ∷ es) =
      missed (callable n (count_of all x)) x (faulty all i bs es) (all_faults all i bs es) (all-faulty i bs es)
  all-faulty i bs (invoked x n ∷ es) =
      missed (invocable x n (count_of all x)) x (faulty all i bs es) (all_faults all i bs es) (all-faulty i bs es)
  all-faulty i bs (opened ∷ es) = all-faulty i ([] ∷ bs) es
  all-faulty i bs (closed ∷ es) = all-faulty i (without_block bs) es
  all-faulty i bs (ended us ∷ es) = all-faulty i (without_block bs) es

-- Token by token

module _ (all : List Entry) (i : ℕ) (bs : Blocks) (x : Name) (n : ℕ) (us : List Token) (es : List Event) where
  abbrev Step : ℕ → Type 0
  Step r =
      faulty all i bs (with_event r x n us es)
      ≡ name_if (fault_at all i bs r x n) x ++ faulty all (index_after r i) (blocks_after r x bs) es

  step_other : (r : ℕ) → Other r → Step r
  unfolding with_event fault_at index_after blocks_after
  step_other r o =
      rw (o.not-1, o.not-2, o.not-3, o.not-4, o.not-5, o.not-6, o.not-7, o.not-8) refl

  pub faulty-step : (r : ℕ) → Step r
  unfolding with_event fault_at index_after blocks_after faulty
  faulty-step r = by-role Step refl refl refl refl refl refl refl refl step_other r

-- The passes

module _ (text : List ℕ) where
  everyone-lowest : lowest_in everyone text ≡ lowest_fault text
  unfolding lowest_in lowest_fault
  everyone-lowest = all-faulty (methods_of text) 0 ([] ∷ []) (events_from 0 0 (tokens_at text 0))

  pub all-in-one : (class : ℕ) → lowest_in (in_class true class) text ≡ lowest_fault text
  unfolding lowest_in in_class
  all-in-one class =
      lowest-same (in_class true class) everyone (λ x. refl)
      (faulty (methods_of text) 0 ([] ∷ []) (events_from 0 0 (tokens_at text 0))) ∙ everyone-lowest

  pub first-class : none ≡ lowest_in (in_past 0) text
  unfolding lowest_in in_past
  first-class =
      sym (lowest-nobody (in_past 0) (λ x. le-ltb (hash_from 0 x) 0 (omega arith))
      (faulty (methods_of text) 0 ([] ∷ []) (events_from 0 0 (tokens_at text 0))))

  past_next : (class : ℕ) (x : List ℕ) → in_past (class + 1) x ≡ (in_past class x || in_class false class x)
  unfolding in_past in_class
  past_next class x = by (ltb (hash_from 0 x) class) (eqb (hash_from 0 x) class) refl refl
    where
      by : (a b : Bool) → ltb (hash_from 0 x) class ≡ a → eqb (hash_from 0 x) class ≡ b
          → ltb (hash_from 0 x) (class + 1) ≡ (a || b)
      by true b e f =
          let l : hash_from 0 x < class = ltb-true (hash_from 0 x) class e in
          lt-ltb (hash_from 0 x) (class + 1) (omega arith)
      by false true e f =
          let l : hash_from 0 x ≡ class = eqb→eq (hash_from 0 x) class (passes f) in
          lt-ltb (hash_from 0 x) (class + 1) (omega arith)
      by false false e f =
          let l : class ≤ hash_from 0 x = ltb-false (hash_from 0 x) class e in
          let m : hash_from 0 x ≡ class → ⊥ = eqb-false (hash_from 0 x) class f in
          le-ltb (hash_from 0 x) (class + 1) (omega arith)

  pub next-class : (class : ℕ) {o low here : Option ℕ} → low ≡ lowest_in (in_past class) text
      → here ≡ lowest_in (in_class false class) text → o ≡ lower_of low here → o ≡ lowest_in (in_past (class + 1)) text
  unfolding lowest_in
  next-class class {here = here} e f q =
      let xs = faulty (methods_of text) 0 ([] ∷ []) (events_from 0 0 (tokens_at text 0)) in
      q ∙ ap (λ o. lower_of o here) e ∙ ap (lower_of (lowest_of (in_past class) xs)) f
      ∙ sym (lowest-same (in_past (class + 1)) (λ x. in_past class x || in_class false class x) (past_next class) xs
      ∙ lowest-either (in_past class) (in_class false class) xs)

  pub last-class : (class : ℕ) → class ≡ 251 → lowest_in (in_past class) text ≡ lowest_fault text
  unfolding lowest_in in_past
  last-class class e =
      lowest-same (in_past class) everyone past (faulty (methods_of text) 0 ([] ∷ []) (events_from 0 0 (tokens_at text 0)))
      ∙ everyone-lowest
    where
      past : (x : List ℕ) → in_past class x ≡ true
      past x =
          let l : hash_from 0 x < 251 = hash-low x 0 (omega arith) in
          lt-ltb (hash_from 0 x) class (omega arith)

-- a pass ends early or not
pub fits-none : (all : Bool) → fits_in all 0 ≡ true
unfolding fits_in
fits-none true = ap not (le-ltb 1024 0 (omega arith))
fits-none false = refl

pub class-fits : (all : Bool) (n : ℕ) → all ≡ false → fits_in all n ≡ true
unfolding fits_in
class-fits all n e = ap (λ (b : Bool). not (b && ltb 1024 n)) e
