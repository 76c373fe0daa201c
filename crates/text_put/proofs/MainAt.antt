-- Where main stands in text order, and so which number each method has in the table.
use Prim.Native.Nat.{ℕ, zero, suc, ◌+◌, ◌-◌, ◌<◌}
use native.Mathlib.Omega.{arith}
use mathlib.Core.Path.{◌≡◌, refl, sym, ap, ◌∙◌, subst}
use mathlib.Core.Bool.{Bool, true, false, cond, not, ◌||◌}
use mathlib.Core.List.{List, [], ◌∷◌, ◌++◌, map}
use mathlib.Core.Logic.{◌⊎◌, inl, inr}
use lib.ListN.{length, length-map}
use lib.Dec.{T, eqb, leb, ltb}
use mir.Facts.{not_T, T_not}
use borrow.Author.Tests.{leb-true, leb-false, lt-ltb, le-ltb, eq-eqb, ne_eqb}
use Rattle.lists.specs.Lists.{any, same, All}
use Rattle.lists.proofs.Tests.{decide, passed, passes, failed}
use Rattle.lists.proofs.Any.{All-implies}
use Rattle.lists.proofs.Laws.{same-equal}
use Rattle.text.specs.Tree.{ascii, Name, spells, Method, Program, method_at, method_name, index_of, number_of, is_main, mains, without_main, main_first}
use Rattle.text.proofs.Elements.{nth, nth-there, nth-front, nth-back}
use Rattle.text.proofs.Words.{method-nth}
use Rattle.text.proofs.Apart.{Unlike, Apart}
use Rattle.text_tokens.proofs.Parts.{same_refl}
use Rattle.text_put.specs.TableCode.{index_in, number_in}

abbrev pub NotMain : Method → Type 0
NotMain m = T (not (is_main m))

-- the methods before main and after it, in text order
pub record MainStands (ns : Program) : Type 0 where
  pub before : Program
  pub one : Method
  pub after : Program
  pub is : ns ≡ before ++ (one ∷ after)
  pub is-main : T (is_main one)
  pub none_before : All NotMain before
  pub none_after : All NotMain after

-- a method whose name is not main's is no main
unlike-main : (m k : Method) → T (is_main m) → Unlike m k → NotMain k
unfolding is_main
unlike-main m k t u =
    not_T (is_main k)
    (λ s. T_not (spells k.name m.name)
    (subst (λ n. T (same k.name.spelling n))
    (same-equal k.name.spelling (ascii "main") s ∙ sym (same-equal m.name.spelling (ascii "main") t))
    (same_refl k.name.spelling)) u)

-- there is one main where there is some and no two methods have one name
pub main-stands : (ns : Program) → Apart ns → T (any is_main ns) → MainStands ns
main-stands [] a t = absurd t
main-stands (m ∷ ns) (u, a) t = by (is_main m) refl (main-stands ns a)
  where
    by : (b : Bool) → is_main m ≡ b → (T (any is_main ns) → MainStands ns) → MainStands (m ∷ ns)
    by true e later = record {
      before = [];
      one = m;
      after = ns;
      is = refl;
      is-main = passes e;
      none_before = tt;
      none_after = All-implies (Unlike m) NotMain (λ k v. unlike-main m k (passes e) v) ns u;
    }
    by false e later =
        let p = later (subst (λ b. T (b || any is_main ns)) e t) in
        record {
          before = m ∷ p.before;
          one = p.one;
          after = p.after;
          is = ap (λ ks. m ∷ ks) p.is;
          is-main = p.is-main;
          none_before = (passes (ap not e), p.none_before);
          none_after = p.none_after;
        }

-- mains and others where there is none
no-mains : (ms : Program) → All NotMain ms → mains ms ≡ []
unfolding mains
no-mains [] a = refl
no-mains (m ∷ ms) (h, a) =
    ap (λ b. cond b (m ∷ mains ms) (mains ms)) (failed (is_main m) (λ t. T_not (is_main m) t h)) ∙ no-mains ms a

pub all-others-stay : (ms : Program) → All NotMain ms → without_main ms ≡ ms
unfolding without_main
all-others-stay [] a = refl
all-others-stay (m ∷ ms) (h, a) =
    ap (λ b. cond b (without_main ms) (m ∷ without_main ms)) (failed (is_main m) (λ t. T_not (is_main m) t h))
    ∙ ap (λ ks. m ∷ ks) (all-others-stay ms a)

-- and of methods after one another
mains-append : (ms ks : Program) → mains (ms ++ ks) ≡ mains ms ++ mains ks
unfolding mains
mains-append [] ks = refl
mains-append (m ∷ ms) ks = by (is_main m) (mains-append ms ks)
  where
    by : (b : Bool) → mains (ms ++ ks) ≡ mains ms ++ mains ks
        → cond b (m ∷ mains (ms ++ ks)) (mains (ms ++ ks)) ≡ cond b (m ∷ mains ms) (mains ms) ++ mains ks
    by true e = ap (λ xs. m ∷ xs) e
    by false e = e

pub others-append : (ms ks : Program) → without_main (ms ++ ks) ≡ without_main ms ++ without_main ks
unfolding without_main
others-append [] ks = refl
others-append (m ∷ ms) ks = by (is_main m) (others-append ms ks)
  where
    by : (b : Bool) → without_main (ms ++ ks) ≡ without_main ms ++ without_main ks
        → cond b (without_main (ms ++ ks)) (m ∷ without_main (ms ++ ks))
        ≡ cond b (without_main ms) (m ∷ without_main ms) ++ without_main ks
    by true e = e
    by false e = ap (λ xs. m ∷ xs) e

module _ (m : Method) (ks : Program) (t : T (is_main m)) (none : All NotMain ks) where
  main-alone : mains (m ∷ ks) ≡ m ∷ []
  unfolding mains
  main-alone =
      ap (λ b. cond b (m ∷ mains ks) (mains ks)) (passed (is_main m) t) ∙ ap (λ xs. m ∷ xs) (no-mains ks none)

  main-left-out : without_main (m ∷ ks) ≡ ks
  unfolding without_main
  main-left-out =
      ap (λ b. cond b (without_main ks) (m ∷ without_main ks)) (passed (is_main m) t) ∙ all-others-stay ks none

module _ (ns : Program) (p : MainStands ns) where
  pub others-are : without_main ns ≡ p.before ++ p.after
  others-are =
      ap without_main p.is ∙ others-append p.before (p.one ∷ p.after)
      ∙ ap (λ xs. xs ++ without_main (p.one ∷ p.after)) (all-others-stay p.before p.none_before)
      ∙ ap (λ xs. p.before ++ xs) (main-left-out p.one p.after p.is-main p.none_after)

  pub order_is : main_first ns ≡ p.one ∷ (p.before ++ p.after)
  unfolding main_first
  order_is =
      ap (λ xs. xs ++ without_main ns) (ap mains p.is ∙ mains-append p.before (p.one ∷ p.after)
      ∙ ap (λ xs. xs ++ mains (p.one ∷ p.after)) (no-mains p.before p.none_before)
      ∙ main-alone p.one p.after p.is-main p.none_after)
      ∙ ap (λ xs. p.one ∷ xs) others-are

-- By index

-- an element moved to the front
moved : {A : Type 0} (xs ys : List A) (x : A) (k : ℕ)
    → nth (x ∷ (xs ++ ys)) k ≡ nth (xs ++ (x ∷ ys)) (index_in (length xs) k)
unfolding nth index_in
moved xs ys x zero =
    sym (ap (nth (xs ++ (x ∷ ys))) {x = length xs} {y = length xs + 0} (omega arith) ∙ nth-back xs (x ∷ ys) 0)
moved xs ys x (suc j) =
    by (decide (leb (suc j) (length xs)))
    ∙ sym (ap (λ b. nth (xs ++ (x ∷ ys)) (cond b (length xs) (cond (leb (suc j) (length xs)) (suc j - 1) (suc j))))
    (ne_eqb (suc j) 0 (λ e. omega arith)))
  where
    by : ((leb (suc j) (length xs) ≡ true) ⊎ (leb (suc j) (length xs) ≡ false))
        → nth (xs ++ ys) j ≡ nth (xs ++ (x ∷ ys)) (cond (leb (suc j) (length xs)) (suc j - 1) (suc j))
    by (inl e) =
        let (z, q) = nth-there xs j (omega (arith, leb-true (suc j) (length xs) e)) in
        nth-front xs ys j z q ∙ sym (nth-front xs (x ∷ ys) j z q)
        ∙ ap (nth (xs ++ (x ∷ ys))) {x = j} {y = suc j - 1} (omega arith)
        ∙ ap (λ b. nth (xs ++ (x ∷ ys)) (cond b (suc j - 1) (suc j))) (sym e)
    by (inr e) =
        let l : length xs < suc j = leb-false (suc j) (length xs) e in
        let d = j - length xs in
        ap (nth (xs ++ ys)) {x = j} {y = length xs + d} (omega arith)
        ∙ nth-back xs ys d
        ∙ sym (nth-back xs (x ∷ ys) (suc d))
        ∙ ap (nth (xs ++ (x ∷ ys))) {x = length xs + suc d} {y = suc j} (omega arith)
        ∙ ap (λ b. nth (xs ++ (x ∷ ys)) (cond b (suc j - 1) (suc j))) (sym e)

-- the table's method k, by its index in text order
pub index_at : (ns : Program) (p : MainStands ns) (k : ℕ)
    → method_at (main_first ns) k ≡ method_at ns (index_in (length p.before) k)
index_at ns p k =
    method-nth (main_first ns) k ∙ ap (λ ks. nth ks k) (order_is ns p) ∙ moved p.before p.after p.one k
    ∙ ap (λ ks. nth ks (index_in (length p.before) k)) (sym p.is)
    ∙ sym (method-nth ns (index_in (length p.before) k))

-- By name

-- a name that none of these has
abbrev Unnamed : Name → List Name → Type 0
Unnamed x ys = All (λ y. spells x y ≡ false) ys

unnamed-index : (x : Name) (ys zs : List Name) → Unnamed x ys → index_of x (ys ++ zs) ≡ length ys + index_of x zs
unfolding index_of
unnamed-index x [] zs a = omega arith
unnamed-index x (y ∷ ys) zs (h, a) =
    ap (λ b. cond b 0 (suc (index_of x (ys ++ zs)))) h ∙ omega (arith, unnamed-index x ys zs a)

-- a name that one of these has, or none
named-or-not : (x : Name) (ys : List Name)
    → (((zs : List Name) → index_of x (ys ++ zs) ≡ index_of x ys) × (index_of x ys < length ys)) ⊎ Unnamed x ys
unfolding index_of
named-or-not x [] = inr tt
named-or-not x (y ∷ ys) = by (spells x y) refl (named-or-not x ys)
  where
    by : (b : Bool) → spells x y ≡ b
        → (((zs : List Name) → index_of x (ys ++ zs) ≡ index_of x ys) × (index_of x ys < length ys)) ⊎ Unnamed x ys
        → (((zs : List Name) → cond (spells x y) 0 (suc (index_of x (ys ++ zs)))
        ≡ cond (spells x y) 0 (suc (index_of x ys))) × (cond (spells x y) 0 (suc (index_of x ys)) < suc (length ys)))
        ⊎ ((spells x y ≡ false) × Unnamed x ys)
    by true e later = inl (rw e (λ zs. refl, omega arith))
    by false e (inl (f, l)) = inl (rw e (λ zs. ap suc (f zs), omega arith))
    by false e (inr a) = inr (e, a)

-- the same with one of them moved to the front, which has a name of its own
renumbered : (x : Name) (ys zs : List Name) (y : Name) → (spells x y ≡ true → Unnamed x ys)
    → index_of x (y ∷ (ys ++ zs)) ≡ number_in (length ys) (index_of x (ys ++ (y ∷ zs)))
unfolding index_of number_in
renumbered x ys zs y own = by (spells x y) refl (named-or-not x ys)
  where
    n : ℕ
    n = length ys

    number : ℕ → ℕ
    number i = cond (eqb i (length ys)) 0 (cond (ltb i (length ys)) (i + 1) i)

    at-main : number (length ys) ≡ 0
    at-main = ap (λ b. cond b 0 (cond (ltb n n) (n + 1) n)) (eq-eqb n n refl)

    earlier : (i : ℕ) → i < length ys → number i ≡ suc i
    earlier i l =
        ap (λ b. cond b 0 (cond (ltb i n) (i + 1) i)) (ne_eqb i n (λ e. omega arith))
        ∙ ap (λ b. cond b (i + 1) i) (lt-ltb i n l) ∙ omega arith

    later : (i : ℕ) → length ys < i → number i ≡ i
    later i l =
        ap (λ b. cond b 0 (cond (ltb i n) (i + 1) i)) (ne_eqb i n (λ e. omega arith))
        ∙ ap (λ b. cond b (i + 1) i) (le-ltb i n (omega arith))

    by : (b : Bool) → spells x y ≡ b
        → (((us : List Name) → index_of x (ys ++ us) ≡ index_of x ys) × (index_of x ys < length ys)) ⊎ Unnamed x ys
        → cond (spells x y) 0 (suc (index_of x (ys ++ zs))) ≡ number (index_of x (ys ++ (y ∷ zs)))
    by true e q =
        rw e (sym (ap number (unnamed-index x ys (y ∷ zs) (own e)
        ∙ ap (λ b. length ys + cond b 0 (suc (index_of x zs))) e ∙ omega arith) ∙ at-main))
    by false e (inl (f, l)) =
        rw e (ap suc (f zs) ∙ sym (ap number (f (y ∷ zs)) ∙ earlier (index_of x ys) l))
    by false e (inr a) =
        rw e (ap suc (unnamed-index x ys zs a)
        ∙ sym (ap number (unnamed-index x ys (y ∷ zs) a
        ∙ ap (λ b. length ys + cond b 0 (suc (index_of x zs))) e)
        ∙ later (length ys + suc (index_of x zs)) (omega arith) ∙ omega arith))

names-append : (ms ks : Program) → map method_name (ms ++ ks) ≡ map method_name ms ++ map method_name ks
names-append [] ks = refl
names-append (m ∷ ms) ks = ap (λ xs. m.name ∷ xs) (names-append ms ks)

-- a method that is no main does not have main's name
main-unnamed : (x : Name) → x.spelling ≡ ascii "main" → (ms : Program) → All NotMain ms
    → Unnamed x (map method_name ms)
unfolding is_main
main-unnamed x e [] a = tt
main-unnamed x e (m ∷ ms) (h, a) = (
  failed (spells x m.name) (λ s. T_not (is_main m)
      (subst (λ n. T (same m.name.spelling n)) (sym (same-equal x.spelling m.name.spelling s) ∙ e)
      (same_refl m.name.spelling)) h),
  main-unnamed x e ms a,
)

module _ (ns : Program) (p : MainStands ns) where
  main-name : p.one.name.spelling ≡ ascii "main"
  unfolding is_main
  main-name = same-equal p.one.name.spelling (ascii "main") p.is-main

  -- a method's number in the table, by its index in text order
  pub number_at : (x : Name) → number_of (main_first ns) x ≡ number_in (length p.before) (number_of ns x)
  unfolding number_of
  number_at x =
      let bs = map method_name p.before in
      let cs = map method_name p.after in
      ap (λ ks. index_of x (map method_name ks)) (order_is ns p)
      ∙ ap (λ ys. index_of x (p.one.name ∷ ys)) (names-append p.before p.after)
      ∙ renumbered x bs cs p.one.name (λ s. main-unnamed x
      (same-equal x.spelling p.one.name.spelling (passes s) ∙ main-name) p.before p.none_before)
      ∙ ap (λ n. number_in n (index_of x (bs ++ (p.one.name ∷ cs)))) (length-map p.before method_name)
      ∙ ap (λ ys. number_in (length p.before) (index_of x ys))
      (sym (ap (map method_name) p.is ∙ names-append p.before (p.one ∷ p.after)))

  -- main's index in text order
  pub main-number : (x : Name) → x.spelling ≡ ascii "main" → number_of ns x ≡ length p.before
  unfolding number_of index_of
  main-number x e =
      let bs = map method_name p.before in
      let cs = map method_name p.after in
      let own = passed (spells x p.one.name)
      (subst (λ n. T (same x.spelling n)) (e ∙ sym main-name) (same_refl x.spelling)) in
      ap (index_of x) (ap (map method_name) p.is ∙ names-append p.before (p.one ∷ p.after))
      ∙ unnamed-index x bs (p.one.name ∷ cs) (main-unnamed x e p.before p.none_before)
      ∙ ap (λ b. length bs + cond b 0 (suc (index_of x cs))) own
      ∙ omega (arith, length-map p.before method_name)
