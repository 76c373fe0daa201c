-- The code of each form of statement, and after it what follows the terms k, follows the terms of the statement and
-- then k.
use Prim.Native.Nat.{ℕ, suc, ◌+◌, ◌≤◌}
use native.Mathlib.Omega.{arith}
use mathlib.Core.Bool.{Bool, true, false}
use mathlib.Core.Path.{◌≡◌, refl, sym, ap, ◌∙◌, subst}
use mathlib.Core.List.{List, [], ◌∷◌, map}
use mathlib.Core.Option.{Option, none, some}
use lib.ListN.{get_or, length}
use lib.Dec.{T, eqb→eq}
use Rattle.text.specs.Tree.{Name, NonVoidType, Expr, Statement, Statements, loop, Method, Program, Declared, method_of}
use Rattle.text.specs.Meaning.{Term, leave, end_of_found, forgotten, invoked, declared}
use Rattle.text.specs.Translation.{Instruction, PUT, Scope, placed_slot, placed, found_in, slot_of, ends_in, opened, within, expr_code, assign_code, drop_code, invoke_code, clear_code, if_code, else_code, while_code, code, all_code, hole_of, method_code}
use Rattle.text.specs.Names.{is_invocation, invoke_fault}
use Rattle.text.proofs.Elements.{nth}
use Rattle.text.proofs.Apart.{unless-nil}
use Rattle.text.proofs.Scopes.{Below, below_more, EndsKept, opened-left, EndSlots, ends_at}
use Rattle.text.proofs.Fits.{Fits}
use Rattle.text.proofs.Follows.{Then, CodeThen, past, FollowEnds, FollowIf, FollowJump, FollowElse, FollowTest, Follows}
use Rattle.text.proofs.Places.{then_at, then_append, then-past, in_parts, if-target, if-begin, else-target, else-end}

-- the slots of the ends of a channel, where it has ends
channel-ends : (sc : Scope) (x : Name) → EndsKept sc → ends_in sc x ≡ true → EndSlots sc (found_in x sc)
unfolding ends_in
channel-ends sc x kept e = ends_at kept (found_in x sc) e

-- end 0 has the slot after its channel
first-end : (sc : Scope) (x : Name) → EndSlots sc (found_in x sc)
    → slot_of sc x + 1 ≡ get_or (map placed_slot sc) (end_of_found false (found_in x sc)) 16
unfolding slot_of end_of_found
first-end sc x ends = sym ends.first

-- end 1 the one after that
second-end : (sc : Scope) (x : Name) → EndSlots sc (found_in x sc)
    → slot_of sc x + 2 ≡ get_or (map placed_slot sc) (end_of_found true (found_in x sc)) 16
unfolding slot_of end_of_found
second-end sc x ends = sym ends.second

module _ (ms : Program) (m : Method) where
  -- x = •; : the slots of a channel's ends are those after its own
  pub assigned-by : (sc : Scope) (x : Name) (R : ℕ → Type 0) (at : ℕ) → EndsKept sc → (b : Bool) → ends_in sc x ≡ b
      → CodeThen ms m (assign_code b (slot_of sc x)) R at
      → Then ms m (PUT (slot_of sc x)) (FollowEnds ms m b x R sc) at
  unfolding assign_code
  assigned-by sc x R at kept false e h = h
  assigned-by sc x R at kept true e h =
      let ends : EndSlots sc (found_in x sc) = channel-ends sc x kept e in
      let one : nth (method_code ms m) (suc (suc at))
      ≡ some (PUT (get_or (map placed_slot sc) (end_of_found false (found_in x sc)) 16)) =
      h.1.1.0 ∙ ap (λ (i : ℕ). some (PUT i)) (first-end sc x ends) in
      let two : nth (method_code ms m) (suc (suc (suc (suc (suc (suc at))))))
      ≡ some (PUT (get_or (map placed_slot sc) (end_of_found true (found_in x sc)) 16)) =
      h.1.1.1.1.1.1.0 ∙ ap (λ (i : ℕ). some (PUT i)) (second-end sc x ends) in (
        h.0,
        (
          h.1.0,
          (
            one,
            (
              h.1.1.1.0,
              (
                h.1.1.1.1.0,
                (
                  h.1.1.1.1.1.0,
                  (two, h.1.1.1.1.1.1.1),
                ),
              ),
            ),
          ),
        ),
      )

  -- a statement NAME(..); without fault is a gate or a call
  pub invocation : (x : Name) (n : ℕ) → invoke_fault ms x n ≡ [] → T (is_invocation x n (method_of ms x))
  unfolding invoke_fault
  invocation x n e = unless-nil (is_invocation x n (method_of ms x)) x e

  -- a statement NAME(..); : a gate, or a call whose value is forgotten
  forgotten-by : (t : Option NonVoidType) (k : List Term) (sc : Scope) (at : ℕ)
      → CodeThen ms m (drop_code t) (Follows ms m k sc) at → Follows ms m (forgotten t k) sc at
  unfolding drop_code forgotten
  forgotten-by none k sc at h = h
  forgotten-by (some t) k sc at h = h

  -- what the statement does, by the method of its name
  pub invoked-by : (x : Name) (n : ℕ) (k : List Term) (sc : Scope) (at : ℕ) (o : Option Method) → method_of ms x ≡ o
      → T (is_invocation x n o)
      → CodeThen ms m (invoke_code ms x o) (Follows ms m k sc) at → Follows ms m (invoked o x n k) sc at
  unfolding invoke_code invoked
  invoked-by x n k sc at none e i h = h
  invoked-by x n k sc at (some d) e i h = (
    record { method = d; is-method = e; arguments = eqb→eq n (length d.parameters) i },
    (h.0, forgotten-by d.returns k sc (suc at) h.1),
  )

  -- the declarations of an inner block, from slot i on
  pub declared-by : (ds : List Declared) (k : List Term) (sc : Scope) (i at : ℕ) → Below i sc → i + length ds ≤ hole_of m
      → CodeThen ms m (clear_code ds i) (Follows ms m k (opened ds i sc)) at → Follows ms m (declared ds k) sc at
  unfolding clear_code declared opened
  declared-by [] k sc i at below room h = h
  declared-by (d ∷ ds) k sc i at below room h = record {
    slot = i;
    below = below;
    inside = omega arith;
    clears = h.0;
    after =
        declared-by ds k (placed d i ∷ sc) (suc i) (suc at) (omega arith, below_more i (suc i) sc (omega arith) below)
        (omega arith) h.1;
  }

  -- the code of a block after its CLEARs
  cleared-past : (ds : List Declared) (i at : ℕ) → at + length ds ≡ past (clear_code ds i) at
  unfolding clear_code
  cleared-past [] i at = omega arith
  cleared-past (d ∷ ds) i at =
      let ih : suc at + length ds ≡ past (clear_code ds (suc i)) (suc at) = cleared-past ds (suc i) (suc at) in
      let more : at + suc (length ds) ≡ suc at + length ds = omega arith in
      more ∙ ih

  -- the code of a block's statements, after which its variables are out of scope
  pub left_after : (ds : List Declared) (ss : Statements) (k : List Term) (sc : Scope) (i at : ℕ)
      → CodeThen ms m (all_code ms (opened ds i sc) (i + length ds) (at + length ds) ss) (Follows ms m k sc)
      (past (clear_code ds i) at)
      → CodeThen ms m (all_code ms (opened ds i sc) (i + length ds) (past (clear_code ds i) at) ss)
      (Follows ms m (leave (length ds) ∷ k) (opened ds i sc)) (past (clear_code ds i) at)
  left_after ds ss k sc i at h =
      let inner : Scope = opened ds i sc in
      let j : ℕ = past (clear_code ds i) at in
      let c : List Instruction = all_code ms inner (i + length ds) j ss in
      let there : CodeThen ms m c (Follows ms m k sc) j =
      subst (λ (b : ℕ). CodeThen ms m (all_code ms inner (i + length ds) b ss) (Follows ms m k sc) j)
      (cleared-past ds i at) h in
      then_at ms m c (Follows ms m k sc) (Follows ms m (leave (length ds) ∷ k) inner) j
      (subst (λ (v : Scope). Follows ms m k v (past c j)) (sym (opened-left ds i sc))) there

  -- if (•) S
  pub if-by : (c : List Instruction) (s : Statement) (k : List Term) (sc : Scope) (i at : ℕ) → Fits ms m sc i s
      → CodeThen ms m (if_code at c (code ms sc i (at + length c + 1) s)) (Follows ms m k sc) at
      → CodeThen ms m c (FollowIf ms m s (Follows ms m k sc) sc) at
  unfolding if_code
  if-by c s k sc i at fits h =
      let F : ℕ → Type 0 = Follows ms m k sc in
      let S : List Instruction = code ms sc i (at + length c + 1) s in
      let j : ℕ = past c at in
      in_parts ms m c _ F (FollowIf ms m s F sc) at
      (λ g. record {
        slot = i;
        fits = fits;
        target = _;
        test = g.0;
        branch = subst (λ (b : ℕ). CodeThen ms m (code ms sc i b s) F (suc j)) (if-begin c at) g.1;
        over = subst F (if-target c S at) (then-past ms m S F (suc j) g.1);
      })
      h

  -- if (•) S else T
  pub else-by : (c : List Instruction) (s t : Statement) (k : List Term) (sc : Scope) (i at : ℕ)
      → Fits ms m sc i s → Fits ms m sc (i + length (within s)) t
      → CodeThen ms m
      (else_code at c (code ms sc i (at + length c + 1) s)
      (code ms sc (i + length (within s)) (at + length c + 1 + length (code ms sc i (at + length c + 1) s) + 1) t))
      (Follows ms m k sc) at
      → CodeThen ms m c (FollowElse ms m s t (Follows ms m k sc) sc) at
  unfolding else_code
  else-by c s t k sc i at fits other h =
      let F : ℕ → Type 0 = Follows ms m k sc in
      let S : List Instruction = code ms sc i (at + length c + 1) s in
      let top : ℕ = at + length c + 1 + length S + 1 in
      let U : List Instruction = code ms sc (i + length (within s)) top t in
      let j : ℕ = past c at in
      let reached : suc (past S (suc j)) ≡ top = else-target c S at in
      let ended : past U (suc (past S (suc j))) ≡ top + length U = else-end c S U at in
      in_parts ms m c _ F (FollowElse ms m s t F sc) at
      (λ g.
      let first : CodeThen ms m S (FollowJump ms m F) (suc j) =
      in_parts ms m S (_ ∷ U) F (FollowJump ms m F) (suc j)
      (λ u. record {
        target = _;
        jump = u.0;
        there = subst F ended (then-past ms m U F (suc (past S (suc j))) u.1);
      })
      g.1 in
      record {
        slot = i;
        fits = fits;
        target = _;
        test = g.0;
        branch = subst (λ (b : ℕ). CodeThen ms m (code ms sc i b s) (FollowJump ms m F) (suc j)) (if-begin c at) first;
        other-slot = i + length (within s);
        other_fits = other;
        other =
            subst (CodeThen ms m U F) reached
            (then-past ms m S (CodeThen ms m (_ ∷ U) F) (suc j) (then_append ms m S (_ ∷ U) F (suc j) g.1)).1;
      })
      h

  -- while (•) S: the term holds the loop's whole code
  pub loop-by : (e : Expr) (s : Statement) (k : List Term) (sc : Scope) (i at : ℕ) → Fits ms m sc i (loop e s)
      → CodeThen ms m (code ms sc i at (loop e s)) (Follows ms m k sc) at
      → CodeThen ms m (expr_code ms sc e) (FollowTest ms m e s (Follows ms m k sc) sc) at
  unfolding code while_code
  loop-by e s k sc i at fits h =
      in_parts ms m (expr_code ms sc e) _ (Follows ms m k sc) (FollowTest ms m e s (Follows ms m k sc) sc) at
      (λ g. record { loops = record { begin = at; slot = i; fits = fits; whole = h }; here = refl }) h
