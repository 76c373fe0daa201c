-- What one more round of each loop comes to, and the lines of two processes.
use Prim.Native.Nat.{ℕ, ◌+◌, ◌-◌, ◌%◌, ◌≤◌, ◌<◌}
use mathlib.Core.Path.{◌≡◌, refl, sym, ◌∙◌, ap, ap₂}
use mathlib.Core.Bool.{Bool, cond}
use mathlib.Core.List.{List}
use native.Mathlib.Numerals.{add-one}
use borrow.Author.Tests.{le-leb, lt-leb, lt-ltb, le-ltb}
use lib.Dec.{eqb, leb}
use Rattle.run_store.specs.declared.values.Val.{Val}
use Rattle.trace_lines.specs.declared.TraceLine.{TraceLine}
use Rattle.trace_lines.specs.WrittenCode.{with_line}
use Rattle.lists.proofs.Tests.{took, passed-by}
use Rattle.run_transfer.specs.TransferCode.{operand_of, arg_handed, args_handed, arg_given, args_given}
use Rattle.run_transfer.specs.ForkLinesCode.{Gifts, gifts, things_in, gift_line, gift_added, gifts_added, fork_line, fork_written}
use Rattle.run_transfer.specs.MeetingLinesCode.{met_line, passed_line, value_line, met_written}

pub handed-more : (work : List ℕ) (n child args j : ℕ) {u u' : List ℕ} → u ≡ args_handed work n child args j
    → u' ≡ arg_handed u n child args j
    → u' ≡ args_handed work n child args (j + 1)
unfolding args_handed
handed-more work n child args j e q =
    q ∙ ap (λ (l : List ℕ). arg_handed l n child args j) e ∙ sym (ap (args_handed work n child args) (add-one j))

pub given-more : (work : List ℕ) (n child j : ℕ) {u u' : List ℕ} → u ≡ args_given work n child j
    → u' ≡ arg_given u n child j
    → u' ≡ args_given work n child (j + 1)
unfolding args_given
given-more work n child j e q =
    q ∙ ap (λ (l : List ℕ). arg_given l n child j) e ∙ sym (ap (args_given work n child) (add-one j))

-- an operand that is a thing is counted, another is not

pub thing-more : (work : List ℕ) (n args j : ℕ) {k : ℕ} {v : Val} → k ≡ things_in work n args j
    → v ≡ operand_of work n (args - j) → 3 ≤ v.tag
    → k + 1 ≡ things_in work n args (j + 1)
unfolding things_in
thing-more work n args j {k} {v} e q h =
    ap (λ (i : ℕ). i + 1) e
    ∙ sym
    (ap (λ (b : Bool). cond b (things_in work n args j + 1) (things_in work n args j))
    (ap (λ (u : Val). leb 3 u.tag) (sym q) ∙ le-leb 3 v.tag h))
    ∙ sym (ap (things_in work n args) (add-one j))

pub thing-passed : (work : List ℕ) (n args j : ℕ) {k : ℕ} {v : Val} → k ≡ things_in work n args j
    → v ≡ operand_of work n (args - j) → v.tag < 3
    → k ≡ things_in work n args (j + 1)
unfolding things_in
thing-passed work n args j {k} {v} e q h =
    e
    ∙ sym
    (ap (λ (b : Bool). cond b (things_in work n args j + 1) (things_in work n args j))
    (ap (λ (u : Val). leb 3 u.tag) (sym q) ∙ lt-leb 3 v.tag h))
    ∙ sym (ap (things_in work n args) (add-one j))

module _ (t : List ℕ) (line entry from to : ℕ) (v : Val) where
  pub gift-written : {l : TraceLine} {u : List ℕ} → 3 ≤ v.tag → l ≡ gift_line entry from to v → u ≡ with_line t line l
      → gifts (line + 1) u ≡ gift_added (gifts line t) entry from to v
  unfolding gift_added
  gift-written h e q =
      passed-by _ _ _ refl (le-ltb v.tag 3 h) (ap (gifts (line + 1)) (q ∙ ap (with_line t line) e))

  pub gift-passed : v.tag < 3 → gifts line t ≡ gift_added (gifts line t) entry from to v
  unfolding gift_added
  gift-passed h = took _ _ _ refl (lt-ltb v.tag 3 h) refl

pub gift-more : (g : Gifts) (work : List ℕ) (entry from to args j : ℕ) {h h' : Gifts} {v : Val}
    → h ≡ gifts_added g work entry from to args j
    → v ≡ operand_of work from (args - j) → h' ≡ gift_added h entry from to v
    → h' ≡ gifts_added g work entry from to args (j + 1)
unfolding gifts_added
gift-more g work entry from to args j e q r =
    r
    ∙ ap₂ (λ (k : Gifts) (u : Val). gift_added k entry from to u) e q
    ∙ sym (ap (gifts_added g work entry from to args) (add-one j))

-- the lines of two processes

pub met-line : (entry n q : ℕ) (e : Val) {side : ℕ} → side ≡ cond (eqb e.tag 6) 1 0
    → record { entry = entry; process = n; kind = 7; a = q; b = e.number % 65536; c = side } ≡ met_line entry n q e
unfolding met_line
met-line entry n q e s =
    ap {B = TraceLine} (λ (x : ℕ). record {
      entry = entry;
      process = n;
      kind = 7;
      a = q;
      b = e.number % 65536;
      c = x;
    }) s

module _ (entry n q : ℕ) where
  pub passes : (v : Val) {l : TraceLine} → v.tag < 3 → l ≡ passed_line entry n v → l ≡ value_line entry n q v
  unfolding value_line
  passes v h e = took _ _ _ refl (lt-ltb v.tag 3 h) e

  pub gives : (v : Val) {l : TraceLine} → 3 ≤ v.tag → l ≡ gift_line entry n q v → l ≡ value_line entry n q v
  unfolding value_line
  gives v h e = passed-by _ _ _ refl (le-ltb v.tag 3 h) e

module _ (trace : List ℕ) (line entry n q : ℕ) where
  pub meeting-lines : (e v : Val) {l m : TraceLine} {u : List ℕ} → l ≡ met_line entry n q e → m ≡ value_line entry n q v
      → u ≡ with_line (with_line trace line l) (line + 1) m → u ≡ met_written trace line entry n q e v
  unfolding met_written
  meeting-lines e v d f h = h ∙ ap₂ (λ (x y : TraceLine). with_line (with_line trace line x) (line + 1) y) d f

  pub fork-lines : (work : List ℕ) (m args : ℕ) {l : TraceLine} {t u : List ℕ} {r : ℕ} → l ≡ fork_line entry n q m args
      → t ≡ with_line trace line l → gifts r u ≡ gifts_added (gifts (line + 1) t) work entry n q args args
      → gifts r u ≡ fork_written trace work line entry n q m args
  unfolding fork_written
  fork-lines work m args d f h =
      h
      ∙ ap (λ (w : List ℕ). gifts_added (gifts (line + 1) w) work entry n q args args) (f ∙ ap (with_line trace line) d)
