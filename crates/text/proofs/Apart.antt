-- Where no two methods have one name, each is found under its own number, and main first they are found so too.
use Prim.Native.Nat.{ℕ, zero, suc}
use mathlib.Core.Path.{◌≡◌, refl, sym, ap, subst, ◌∙◌}
use mathlib.Core.Bool.{Bool, true, false, cond, not}
use mathlib.Core.List.{List, [], ◌∷◌, ◌++◌, cons≢nil}
use mathlib.Core.Option.{some, none-ne-some, some-injective}
use lib.Dec.{T, eqb, eqb_refl}
use mir.Facts.{or_no, not_T, T_not, yes_and}
use Rattle.lists.specs.Lists.{All, same}
use Rattle.lists.proofs.Tests.{passed, failed, cond_both}
use Rattle.lists.proofs.Any.{All-append, All-implies}
use Rattle.lists.proofs.Laws.{same-equal, append-nil-right}
use Rattle.text.specs.Tree.{Name, spells, Method, Program, ascii, method_at, index_of, number_of, is_main, mains, without_main, main_first}
use Rattle.text.specs.Names.{declared_among, unless, twice_faults, method_names}
use Rattle.text.proofs.Order.{all-method, all-mains, all_others, any-method}

-- method k does not have method m's name
abbrev pub Unlike : Method → Method → Type 0
Unlike m k = T (not (spells k.name m.name))

-- no method has the name of one before it
abbrev pub Apart : Program → Type 0
Apart [] = Unit {0}
Apart (m ∷ ms) = All (Unlike m) ms × Apart ms

-- where no place is given for a name, all is well with it
pub unless-nil : (ok : Bool) (x : Name) → unless ok x ≡ [] → T ok
unless-nil true x e = tt
unless-nil false x e = cons≢nil e

-- the first of two lists is empty where both together are
pub append-nil-left : {A : Type 0} (xs ys : List A) → xs ++ ys ≡ [] → xs ≡ []
append-nil-left [] ys e = refl
append-nil-left (x ∷ xs) ys e = absurd (cons≢nil e)

-- no method's name is declared twice, nor among the names xs before
twice-apart : (xs : List Name) (ms : Program) → twice_faults xs (method_names ms) ≡ []
    → All (λ m. T (not (declared_among xs m.name))) ms × Apart ms
unfolding twice_faults
twice-apart xs [] e = (tt, tt)
twice-apart xs (m ∷ ms) e =
    let first = unless (not (declared_among xs m.name)) m.name in
    let others = twice_faults (m.name ∷ xs) (method_names ms) in
    let (fresh, apart) = twice-apart (m.name ∷ xs) ms (append-nil-right first others e) in
    let split : (k : Method) → T (not (declared_among (m.name ∷ xs) k.name))
    → Unlike m k × T (not (declared_among xs k.name)) =
    λ k t. or_no (spells k.name m.name) (declared_among xs k.name) t in (
      (
        unless-nil (not (declared_among xs m.name)) m.name (append-nil-left first others e),
        All-implies _ _ (λ k t. (split k t).1) ms fresh,
      ),
      (All-implies _ _ (λ k t. (split k t).0) ms fresh, apart),
    )

-- methods whose names are not declared twice are apart
pub names_apart : (ms : Program) → twice_faults [] (method_names ms) ≡ [] → Apart ms
names_apart ms e = (twice-apart [] ms e).1

-- Main first they are apart too

-- methods after one another, where no later one has an earlier one's name
apart-append : (ms ks : Program) → Apart ms → Apart ks → All (λ m. All (Unlike m) ks) ms → Apart (ms ++ ks)
apart-append [] ks a b c = b
apart-append (m ∷ ms) ks (u, a) b (d, c) = (All-append (Unlike m) ms ks u d, apart-append ms ks a b c)

-- the mains among themselves
apart-mains : (ms : Program) → Apart ms → Apart (mains ms)
unfolding mains
apart-mains [] a = tt
apart-mains (m ∷ ms) (u, a) =
    cond_both Apart (is_main m) {x = m ∷ mains ms}
    (All-implies _ _ (λ k h. h.1) (mains ms) (all-mains (Unlike m) ms u), apart-mains ms a) (apart-mains ms a)

-- the others among themselves
apart-others : (ms : Program) → Apart ms → Apart (without_main ms)
unfolding without_main
apart-others [] a = tt
apart-others (m ∷ ms) (u, a) =
    cond_both Apart (is_main m) {y = m ∷ without_main ms} (apart-others ms a)
    (All-implies _ _ (λ k h. h.1) (without_main ms) (all_others (Unlike m) ms u), apart-others ms a)

-- no other has a main's name
main-unlike : (m k : Method) → T (is_main m) → T (not (is_main k)) → Unlike m k
unfolding is_main
main-unlike m k t u =
    not_T (spells k.name m.name)
    (λ s. T_not (is_main k) (subst (λ n. T (same n (ascii "main")))
    (sym (same-equal k.name.spelling m.name.spelling s)) t) u)

-- all of them
pub apart-main_first : (ms : Program) → Apart ms → Apart (main_first ms)
unfolding main_first
apart-main_first ms a =
    let others = all_others (λ k. Unit {0}) ms (any-method ms) in
    apart-append (mains ms) (without_main ms) (apart-mains ms a) (apart-others ms a)
    (All-implies _ _ (λ m h. All-implies _ _ (λ k u. main-unlike m k h.0 u.0) (without_main ms) others) (mains ms)
    (all-mains (λ m. Unit {0}) ms (any-method ms)))

-- The number of a method

-- a list is the same as itself
same_refl : (xs : List ℕ) → T (same xs xs)
same_refl [] = tt
same_refl (x ∷ xs) = yes_and (eqb x x) (same xs xs) (eqb_refl x) (same_refl xs)

-- the number under which a name is found is that of the method that has it
pub number-of : (ms : Program) → Apart ms → (n : ℕ) (m : Method) → method_at ms n ≡ some m → number_of ms m.name ≡ n
unfolding method_at number_of index_of
number-of [] a n m e = absurd (none-ne-some m e)
number-of (k ∷ ms) a zero m e =
    let own = subst (λ n. T (same m.name.spelling n)) (ap (λ (k : Method). k.name.spelling)
    (sym (some-injective k m e))) (same_refl m.name.spelling) in
    ap (λ b. cond b 0 (suc (number_of ms m.name))) (passed (spells m.name k.name) own)
number-of (k ∷ ms) (u, a) (suc n) m e =
    let taken = spells m.name k.name in
    let other = failed taken (λ t. T_not taken t (all-method (Unlike k) ms u n m e)) in
    ap (λ b. cond b 0 (suc (number_of ms m.name))) other
    ∙ ap suc (number-of ms a n m e)
