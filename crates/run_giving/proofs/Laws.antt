-- What one more round of each loop comes to.
use Prim.Native.Nat.{ℕ, ◌+◌, ◌*◌, ◌%◌, ◌≤◌, ◌<◌}
use mathlib.Core.Path.{◌≡◌, refl, sym, ◌∙◌, ap, ap₂}
use mathlib.Core.List.{List}
use native.Mathlib.Nat.{mod-eq_of_lt}
use native.Mathlib.Numerals.{add-one}
use native.Mathlib.Omega.{arith}
use borrow.Author.Tests.{lt-ltb, le-ltb}
use lib.ListN.{get_or, set}
use Rattle.table.specs.Table.{offset_of}
use Rattle.run_store.specs.declared.values.Val.{Val}
use Rattle.run_store.specs.declared.head.Head.{Head}
use Rattle.run_store.specs.StoreCode.{head_of, put_top, started_head, put_status, emptied_by}
use Rattle.lists.proofs.Tests.{took, passed-by}
use Rattle.run_giving.specs.GivingCode.{thing_given, given_words, started_words, began_words, popped_once, popped_by}

pub dropped-more : (w : List ℕ) (j : ℕ) {u u' : List ℕ} → u ≡ popped_by w j → u' ≡ popped_once u → u' ≡ popped_by w (j + 1)
unfolding popped_by
dropped-more w j e q = q ∙ ap popped_once e ∙ sym (ap (popped_by w) (add-one j))

-- a process that starts
pub begins : (p w : List ℕ) (m : ℕ) {g h : Head} {place : ℕ} {u v z : List ℕ} → g ≡ head_of w
    → place ≡ offset_of p m → h ≡ started_head g m place
    → u ≡ put_status w h → v ≡ set u 8 h.method → z ≡ put_top v h → z ≡ began_words p w m
unfolding began_words started_words
begins p w m {g} {h} {place} e o s a b d =
    d
    ∙ ap (λ (x : List ℕ). put_top x h) (b ∙ ap (λ (x : List ℕ). set x 8 h.method) a)
    ∙ ap (started_words w) (s ∙ (λ i. started_head (e i) m (o i)))

-- a qubit given where all frames are within the part
pub qubit-given : (w : List ℕ) (v : Val) {frames : ℕ} {w' : List ℕ} → frames ≡ get_or w 2 0 → v.tag ≡ 3 → frames ≤ 8
    → w' ≡ emptied_by w (record { tag = 3; number = v.number }) (8 * (3 * frames)) → w' ≡ thing_given w v
unfolding thing_given head_of
qubit-given w v {frames} e q b r =
    r
    ∙ ap₂ (λ (t n : ℕ). emptied_by w (record { tag = t; number = v.number }) n) (sym q) (counts frames b)
    ∙ ap (λ (n : ℕ). emptied_by w v ((24 * n) % 65536)) e
  where
    counts : (f : ℕ) → f ≤ 8 → 8 * (3 * f) ≡ (24 * f) % 65536
    counts f b =
        let e : 8 * (3 * f) ≡ 24 * f = omega arith in
        e ∙ sym (mod-eq_of_lt (omega (arith, b)))

-- by the value's tag
module _ (w : List ℕ) (v : Val) where
  pub thing-given : {w' : List ℕ} → 3 ≤ v.tag → w' ≡ thing_given w v → w' ≡ given_words w v
  unfolding given_words
  thing-given h e = passed-by _ _ _ refl (le-ltb v.tag 3 h) e

  pub no-thing : v.tag < 3 → w ≡ given_words w v
  unfolding given_words
  no-thing h = took _ _ _ refl (lt-ltb v.tag 3 h) refl
