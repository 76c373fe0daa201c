-- Question 4's test and the marks, as the loop meets them; and that exactly the targets are marked.
use Prim.Native.Nat.{ℕ, zero, suc, ◌+◌, ◌≤◌, ◌<◌}
use native.Mathlib.Omega.{arith}
use native.Mathlib.Numerals.{add-one}
use native.Mathlib.Decide.{ℕ_discrete}
use mathlib.Core.Bool.{Bool, true, false, cond, ◌&&◌, ◌||◌, or-false, or-true, or_assoc}
use mathlib.Core.Path.{◌≡◌, refl, sym, ap, ◌∙◌}
use mathlib.Core.List.{List, [], ◌∷◌, ◌++◌}
use lib.Dec.{T, eqb, ltb}
use lib.ListN.{length, get_or, set, length-set}
use lib.Seq.{get_or-set_same, get_or-set_other, set-get_or}
use borrow.Author.Tests.{eq-eqb, ne_eqb}
use Rattle.lists.specs.Lists.{any, below, first_false}
use Rattle.lists.proofs.Tests.{cond_both, passes}
use Rattle.lists.proofs.First.{first-halts}
use Rattle.table.specs.Table.{methods, instructions, offset_of, end_of, op_at, arg_at, owner_of}
use Rattle.table.specs.Ops.{op_of}
use Rattle.table.specs.Reading.{op_there, jumps_to, is_target}
use Rattle.table.specs.Questions.{instruction_kept}
use Rattle.table.proofs.Accepted.{Sizes, Pairs}
use Rattle.table.proofs.Owners.{end-within, owner-inside}
use Rattle.check_instructions.specs.OwnersCode.{owner_at}
use Rattle.check_arguments.specs.MarksCode.{marks, marked}
use Rattle.check_instructions.specs.declared.owner.Owner.{Owner}
use Rattle.table.proofs.Ops.{jumps-op, jumps-inside}
use Rattle.check_instructions.proofs.Owners.{owner-method, owner-start}

-- Instruction i

module _ (p : List ℕ) (i op a : ℕ) (o : Owner) (q : op ≡ op_at p i) (r : a ≡ arg_at p i) (e : o ≡ owner_at p i) where
  pub instruction-kept : {b : Bool} → b ≡ (op_of op).argument p o.method a → instruction_kept p i ≡ b
  unfolding instruction_kept
  instruction-kept h = cc (owner-method p (owner_of p i) o e)

  pub marked_next : (ts us : List ℕ) → us ≡ marked p i ts → marks op (o.start + a) us ≡ marked p (i + 1) ts
  unfolding marked
  marked_next ts us h = rw (add-one i) (cc (owner-start p (owner_of p i) o e))

  pub target-within : Sizes p → Pairs p → i < instructions p → T (op_of op).jumps
      → (op_of op).argument p o.method a ≡ true → o.start + a < 4096
  unfolding end_of
  target-within s k h t g =
      let method : o.method < methods p = rw (owner-method p (owner_of p i) o e) (owner-inside p s k i h).method in
      let start = owner-start p (owner_of p i) o e ∙ ap (offset_of p) (sym (owner-method p (owner_of p i) o e)) in
      omega
      (arith, start, jumps-inside op p o.method a t g, end-within p s k o.method method, s.instructions-most)

-- Marks

-- one mark, written without a test: at the target where the op jumps, else as it was

module _ (op at i : ℕ) (ts : List ℕ) {k : ℕ} (e : k ≡ cond (eqb op 17 || eqb op 18) at i) where
  pub mark-lands : (T (op_of op).jumps → at < length ts) → i < length ts → k < length ts
  mark-lands f h = rw e (go (eqb op 17 || eqb op 18) (jumps-op op))
    where
      go : (b : Bool) → (op_of op).jumps ≡ b → cond b at i < length ts
      go true j = f (passes j)
      go false j = h

  pub mark-so : {v : ℕ} → v ≡ cond (eqb op 17 || eqb op 18) 1 (get_or ts k 0) → set ts k v ≡ marks op at ts
  unfolding marks
  mark-so {v} q = rw (jumps-op op) (go (eqb op 17 || eqb op 18) e q)
    where
      go : (b : Bool) → k ≡ cond b at i → v ≡ cond b 1 (get_or ts k 0) → set ts k v ≡ cond b (set ts at 1) ts
      go true j u = ap (λ (n : ℕ). set ts n v) j ∙ ap (set ts at) u
      go false j u = ap (set ts k) u ∙ set-get_or ts k 0

pub marked-begins : (p ts : List ℕ) → ts ≡ marked p 0 ts
unfolding marked
marked-begins p ts = refl

-- the targets up to the first instruction at fault
pub marked-halts : (p ts us : List ℕ) (n i : ℕ) → us ≡ marked p i ts → first_false (instruction_kept p) i ≡ i → i ≤ n
    → (i < n → instruction_kept p i ≡ false) → us ≡ marked p (first_false (instruction_kept p) n) ts
marked-halts p ts us n i u e h t = rw (first-halts (instruction_kept p) n i e h t) u

pub marks-length : (op target : ℕ) (ts : List ℕ) → length (marks op target ts) ≡ length ts
unfolding marks
marks-length op target ts =
    cond_both (λ (us : List ℕ). length us ≡ length ts) (op_of op).jumps (length-set ts target 1) refl

pub marked-length : (p : List ℕ) (n : ℕ) (ts : List ℕ) → length (marked p n ts) ≡ length ts
unfolding marked
marked-length p zero ts = refl
marked-length p (suc n) ts = marks-length _ _ (marked p n ts) ∙ marked-length p n ts

pub any_last : {A : Type 0} (f : A → Bool) (xs : List A) (x : A) → any f (xs ++ x ∷ []) ≡ (any f xs || f x)
any_last f [] x = or-false (f x)
any_last f (y ∷ ys) x = ap (λ b. f y || b) (any_last f ys x) ∙ sym (or_assoc (f y) (any f ys) (f x))

-- what one more mark does at index i
pub mark-at : (b : Bool) (target : ℕ) (us : List ℕ) (i : ℕ) → i < length us
    → ltb 0 (get_or (cond b (set us target 1) us) i 0) ≡ (ltb 0 (get_or us i 0) || (b && eqb target i))
mark-at false target us i h = sym (or-false (ltb 0 (get_or us i 0)))
mark-at true target us i h = at_target (ℕ_discrete target i)
  where
    at_target : Dec (target ≡ i) → ltb 0 (get_or (set us target 1) i 0) ≡ (ltb 0 (get_or us i 0) || eqb target i)
    at_target (yes e) =
        rw (e, get_or-set_same us i 1 0 h, eq-eqb i i refl) (sym (or-true (ltb 0 (get_or us i 0))))
    at_target (no f) =
        rw (get_or-set_other us target i 1 0 (λ e. f (sym e)), ne_eqb target i f) (sym (or-false (ltb 0 (get_or us i 0))))

marked-at : (p ts : List ℕ) (i : ℕ) → i < length ts → get_or ts i 0 ≡ 0
    → (n : ℕ) → ltb 0 (get_or (marked p n ts) i 0) ≡ any (jumps_to p i) (below n)
unfolding marked marks below jumps_to
marked-at p ts i h z zero = ap (ltb 0) z
marked-at p ts i h z (suc n) =
    mark-at (op_there p n).jumps (offset_of p (owner_of p n) + arg_at p n) (marked p n ts) i (rw (marked-length p n ts) h)
    ∙ ap (λ b. b || jumps_to p i n) (marked-at p ts i h z n)
    ∙ sym (any_last (jumps_to p i) (below n) n)

-- in a list of zeros
pub marked-targets : (p ts : List ℕ) (i : ℕ) → i < length ts → get_or ts i 0 ≡ 0
    → ltb 0 (get_or (marked p (instructions p) ts) i 0) ≡ is_target p i
unfolding is_target
marked-targets p ts i h z = marked-at p ts i h z (instructions p)
