-- The number of a method in a table, main first, from its index in text order, where one method is called main.
use Prim.Native.Nat.{suc}
use native.Mathlib.Omega.{arith}
use mathlib.Core.Path.{◌≡◌, refl, sym, ap, ◌∙◌}
use mathlib.Core.Bool.{Bool, true, false, cond}
use mathlib.Core.List.{[], ◌∷◌, ◌++◌, map, cons≢nil}
use lib.Dec.{ltb}
use borrow.Author.Tests.{lt-ltb, le-ltb}
use Rattle.lists.specs.Lists.{same}
use Rattle.text.specs.Tree.{ascii, Name, spells, Method, Program, method_name, is_main, index_of, number_of, without_main, mains, main_first}
use Rattle.text_scan.proofs.Methods.{spelled, unspelled}
use Rattle.text_scan.proofs.SameFaults.{ltb-suc}

tail_of : Program → Program
tail_of [] = []
tail_of (m ∷ ms) = ms

head_of : Method → Program → Method
head_of d [] = d
head_of d (m ∷ ms) = m

-- the method that is called main is
main-of : (ms : Program) (m : Method) → mains ms ≡ m ∷ [] → is_main m ≡ true
unfolding mains head_of
main-of [] m e = absurd (cons≢nil (sym e))
main-of (k ∷ ms) m e = by (is_main k) refl e (main-of ms m)
  where
    by : (b : Bool) → is_main k ≡ b → cond b (k ∷ mains ms) (mains ms) ≡ m ∷ [] → (mains ms ≡ m ∷ [] → is_main m ≡ true)
        → is_main m ≡ true
    by true q g later = ap is_main (sym (ap (head_of k) g)) ∙ q
    by false q g later = later g

-- without main nothing is left out
no-mains : (ms : Program) → mains ms ≡ [] → without_main ms ≡ ms
unfolding mains without_main
no-mains [] e = refl
no-mains (m ∷ ms) e = by (is_main m) e (no-mains ms)
  where
    by : (b : Bool) → cond b (m ∷ mains ms) (mains ms) ≡ [] → (mains ms ≡ [] → without_main ms ≡ ms)
        → cond b (without_main ms) (m ∷ without_main ms) ≡ m ∷ ms
    by true e later = absurd (cons≢nil e)
    by false e later = ap (λ ns. m ∷ ns) (later e)

abbrev main_name : Name
main_name = record { spelling = ascii "main"; at = 0 }

main-spelled : (m : Method) → spells main_name m.name ≡ is_main m
main-spelled m = spelled main_name refl m

module _ (x : Name) (f : same x.spelling (ascii "main") ≡ false) where
  -- after main the numbers stay, before it they are one higher
  abbrev Rank : Program → Type 0
  Rank ms =
      suc (index_of x (map method_name (without_main ms)))
      ≡ cond (ltb (number_of ms x) (number_of ms main_name)) (suc (number_of ms x)) (number_of ms x)

  rank-main : (m : Method) (ms : Program) → is_main m ≡ true → mains ms ≡ [] → Rank (m ∷ ms)
  unfolding without_main number_of index_of
  rank-main m ms q e =
      rw (q, unspelled x f m q, main-spelled m ∙ q, le-ltb (suc (index_of x (map method_name ms))) 0 (omega arith))
      (ap (λ ns. suc (index_of x (map method_name ns))) (no-mains ms e))

  rank-other : (m : Method) (ms : Program) → is_main m ≡ false → Rank ms → Rank (m ∷ ms)
  unfolding without_main number_of index_of
  rank-other m ms q later = rw (q, main-spelled m ∙ q) (by (spells x m.name))
    where
      by : (b : Bool)
          → suc (cond b 0 (suc (index_of x (map method_name (without_main ms)))))
          ≡ cond (ltb (cond b 0 (suc (index_of x (map method_name ms)))) (suc (index_of main_name (map method_name ms))))
          (suc (cond b 0 (suc (index_of x (map method_name ms))))) (cond b 0 (suc (index_of x (map method_name ms))))
      by true = rw (lt-ltb 0 (suc (index_of main_name (map method_name ms))) (omega arith)) refl
      by false =
          ap suc later
          ∙ split (ltb (index_of x (map method_name ms)) (index_of main_name (map method_name ms)))
          ∙ ap (λ (c : Bool). cond c (suc (suc (index_of x (map method_name ms)))) (suc (index_of x (map method_name ms))))
          (sym (ltb-suc (index_of x (map method_name ms)) (index_of main_name (map method_name ms))))
        where
          split : (c : Bool)
              → suc (cond c (suc (index_of x (map method_name ms))) (index_of x (map method_name ms)))
              ≡ cond c (suc (suc (index_of x (map method_name ms)))) (suc (index_of x (map method_name ms)))
          split true = refl
          split false = refl

  rank : (ms : Program) (m : Method) → mains ms ≡ m ∷ [] → Rank ms
  unfolding mains tail_of
  rank [] m e = absurd (cons≢nil (sym e))
  rank (k ∷ ms) m e = by (is_main k) refl e (rank ms m)
    where
      by : (b : Bool) → is_main k ≡ b → cond b (k ∷ mains ms) (mains ms) ≡ m ∷ [] → (mains ms ≡ m ∷ [] → Rank ms)
          → Rank (k ∷ ms)
      by true q g later = rank-main k ms q (ap tail_of g)
      by false q g later = rank-other k ms q (later g)

  pub number-other : (ms : Program) (m : Method) → mains ms ≡ m ∷ []
      → number_of (main_first ms) x
      ≡ cond (ltb (number_of ms x) (number_of ms main_name)) (suc (number_of ms x)) (number_of ms x)
  unfolding main_first number_of index_of
  number-other ms m e =
      ap (λ ks. index_of x (map method_name (ks ++ without_main ms))) e
      ∙ ap (λ (b : Bool). cond b 0 (suc (index_of x (map method_name (without_main ms)))))
      (unspelled x f m (main-of ms m e))
      ∙ rank ms m e

pub number-main : (x : Name) → same x.spelling (ascii "main") ≡ true → (ms : Program) (m : Method)
    → mains ms ≡ m ∷ [] → number_of (main_first ms) x ≡ 0
unfolding main_first number_of index_of
number-main x f ms m e =
    ap (λ ks. index_of x (map method_name (ks ++ without_main ms))) e
    ∙ ap (λ (b : Bool). cond b 0 (suc (index_of x (map method_name (without_main ms)))))
    (spelled x f m ∙ main-of ms m e)
