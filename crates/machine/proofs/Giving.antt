-- What a giving leaves in reach: nothing that the giver keeps is covered by a thing given, and what the new holder
-- gets is covered by one.
use Prim.Native.Nat.{ℕ, suc, ◌<◌, ◌≤◌}
use mathlib.Core.Path.{◌≡◌, sym, ◌∙◌, ap, subst}
use mathlib.Core.Logic.{◌≢◌, ◌⊎◌, inl, inr, ⊎_elim}
use mathlib.Core.Bool.{false}
use mathlib.Core.List.{List, [], ◌∷◌, ◌++◌, map}
use mathlib.Core.Option.{some-injective}
use native.Mathlib.Nat.{lt_of_not-le}
use lib.ListN.{length, length-set, length-append, get_or-eq_default, get_or-append}
use lib.Seq.{get_or-set_same, get_or-set_other, get_or-append_seam}
use native.Mathlib.Omega.{arith}
use lib.Dec.{T, eqb, ltb}
use borrow.Author.Tests.{ltb-true, ltb-false, eqb-true, eqb-false}
use Rattle.lists.specs.Lists.{any, All}
use Rattle.lists.proofs.Tests.{decide, clash, or_cases, or_left, or_right, cond-each}
use Rattle.lists.proofs.Any.{any-mono, any-elim, All-append, All-map, All-implies}
use Rattle.machine.specs.Value.{Thing, Value, empty, int, bool, ref, covers}
use Rattle.machine.specs.State.{Frame, Process, Config, process_at, set_process, started, unmade}
use Rattle.machine.specs.Entry.{lost_with, without, frame_without, frames_without, things_of, push_top, joined}
use Rattle.machine.specs.Owner.{names, values_of, reaches, Holds}
use Rattle.machine.specs.State.{Line}
use Rattle.machine.proofs.Things.{covers-common}
use Rattle.machine.proofs.Within.{InReach, Within, FrameWithin, FramesWithin, frames-more, frame-more, frame-push, frame-started, all_own}
use Rattle.machine.proofs.Holder.{covered}

-- values and things

-- a property of every value of frames, from one of every slot and pending value
pub All-values : (P : Value → Type 0) (fs : List Frame)
    → All (λ f. All P f.slots × All P f.pending) fs → All P (values_of fs)
unfolding values_of
All-values P [] a = tt
All-values P (f ∷ fs) a =
    All-append P (f.slots ++ f.pending) (values_of fs) (All-append P f.slots f.pending a.0.0 a.0.1)
    (All-values P fs a.1)

-- whatever frames within ys reach is reached through ys
pub frames-reach : (ys : List Value) (fs : List Frame) → FramesWithin ys fs → (x : Thing) → InReach (values_of fs) x
    → InReach ys x
frames-reach ys fs h x r =
    any-elim (names x) (Within ys) (InReach ys x) (λ v w u. w x u) (values_of fs)
    (All-values (Within ys) fs
    (All-implies (FrameWithin ys) (λ f. All (Within ys) f.slots × All (Within ys) f.pending)
    (λ f w. (w.slots, w.pending)) fs h))
    r

-- the things among values within ys
pub things-within : (ys vs : List Value) → All (Within ys) vs → All (λ t. Within ys (ref t)) (things_of vs)
unfolding things_of
things-within ys [] a = tt
things-within ys (empty ∷ vs) a = things-within ys vs a.1
things-within ys (int z ∷ vs) a = things-within ys vs a.1
things-within ys (bool b ∷ vs) a = things-within ys vs a.1
things-within ys (ref t ∷ vs) a = (a.0, things-within ys vs a.1)

-- what values name, the things among them cover
pub things-cover : (vs : List Value) (x : Thing) → InReach vs x → T (covered (things_of vs) x)
unfolding things_of names
things-cover [] x r = r
things-cover (empty ∷ vs) x r = things-cover vs x r
things-cover (int z ∷ vs) x r = things-cover vs x r
things-cover (bool b ∷ vs) x r = things-cover vs x r
things-cover (ref t ∷ vs) x r =
    ⊎_elim (or_left (covers t x) (covered (things_of vs) x))
    (λ u. or_right (covers t x) (covered (things_of vs) x) (things-cover vs x u))
    (or_cases (covers t x) (any (names x) vs) r)

-- the giver

-- a value that is left reaches what it reached, and nothing that was given
abbrev Remains : List Value → List Thing → Thing → Value → Type 0
Remains ys ts x v = T (names x v) → InReach ys x × (T (covered ts x) → ⊥)

-- a given thing that covers what v reaches takes v with it
lost-common : (ts : List Thing) (x : Thing) (v : Value) → T (names x v) → T (covered ts x)
    → T (any (λ t. lost_with t v) ts)
unfolding names lost_with
lost-common ts x empty r c = absurd r
lost-common ts x (int z) r c = absurd r
lost-common ts x (bool b) r c = absurd r
lost-common ts x (ref w) r c =
    any-mono (λ t. covers t x) (λ t. lost_with t (ref w))
    (λ t u. ⊎_elim (or_left (covers t w) (covers w t)) (or_right (covers t w) (covers w t)) (covers-common t w x u r))
    ts c

value-remains : (ys : List Value) (ts : List Thing) (x : Thing) (v : Value) → Within ys v
    → Remains ys ts x (without ts v)
unfolding without names
value-remains ys ts x v w =
    cond-each (Remains ys ts x) (any (λ t. lost_with t v) ts) (λ e r. absurd r)
    (λ e r. (w x r, λ c. clash e (lost-common ts x v r c)))

pub giver-left : (ys : List Value) (ts : List Thing) (fs : List Frame) → FramesWithin ys fs → (x : Thing)
    → InReach (values_of (frames_without ts fs)) x → InReach ys x × (T (covered ts x) → ⊥)
unfolding frames_without frame_without
giver-left ys ts fs h x r =
    any-elim (names x) (Remains ys ts x) (InReach ys x × (T (covered ts x) → ⊥)) (λ v l u. l u)
    (values_of (frames_without ts fs))
    (All-values (Remains ys ts x) (frames_without ts fs)
    (All-map (λ f. All (Remains ys ts x) f.slots × All (Remains ys ts x) f.pending) (frame_without ts) fs
    (All-implies (FrameWithin ys) _ (λ f w. (each f.slots w.slots, each f.pending w.pending)) fs h)))
    r
  where
    each : (vs : List Value) → All (Within ys) vs → All (Remains ys ts x) (map (without ts) vs)
    each vs a =
        All-map (Remains ys ts x) (without ts) vs
        (All-implies (Within ys) (λ v. Remains ys ts x (without ts v)) (value-remains ys ts x) vs a)

-- the new holder

pub child-reach : (p : List ℕ) (m : ℕ) (args : List Value) (x : Thing) → InReach (values_of (started p m args ∷ [])) x
    → T (covered (things_of args) x)
child-reach p m args x r =
    things-cover args x
    (frames-reach args (started p m args ∷ []) (frame-started args p m args (all_own args args (λ t u. u)), tt) x r)

top_within : (ys : List Value) (v : Value) (fs : List Frame) → FramesWithin ys fs → FramesWithin (v ∷ ys) (push_top v fs)
unfolding push_top
top_within ys v [] h = tt
top_within ys v (f ∷ fs) h = (
  frame-push (v ∷ ys) v f (λ x u. or_left (names x v) (any (names x) ys) u) (frame-more ys v f h.0),
  frames-more ys v fs h.1,
)

pub receiver-reach : (ys : List Value) (v : Value) (fs : List Frame) → FramesWithin ys fs → (x : Thing)
    → InReach (values_of (push_top v fs)) x → T (covered (things_of (v ∷ [])) x) ⊎ InReach ys x
receiver-reach ys v fs h x r =
    ⊎_elim (λ u. inl (things-cover (v ∷ []) x (or_left (names x v) false u))) inr
    (or_cases (names x v) (any (names x) ys) (frames-reach (v ∷ ys) (push_top v fs) (top_within ys v fs h) x r))

-- all others: what they reach, no thing that n has in reach covers
pub others_keep : (c : Config) (ls : List Line) → ((x : Thing) (n : ℕ) → T (reaches (process_at c n) x) → Holds ls n x)
    → (n m : ℕ) (ts : List Thing) → All (λ t. Within (values_of (process_at c n).frames) (ref t)) ts → m ≢ n
    → (x : Thing) → T (reaches (process_at c m) x) → T (covered ts x) → ⊥
unfolding reaches names
others_keep c ls named n m ts within ne x r =
    any-elim (λ t. covers t x) (λ t. Within (values_of (process_at c n).frames) (ref t)) ⊥
    (λ t w u. ne (some-injective m n (sym (named x m r) ∙ named x n (w x u)))) ts within

-- processes of a changed configuration

pub process-same : (c : Config) (n : ℕ) (pr : Process) → n < length c.processes
    → process_at (set_process c n pr) n ≡ pr
unfolding process_at set_process
process-same c n pr h = get_or-set_same c.processes n pr unmade h

pub process-other : (c : Config) (n m : ℕ) (pr : Process) → m ≢ n → process_at (set_process c n pr) m ≡ process_at c m
unfolding process_at set_process
process-other c n m pr ne = get_or-set_other c.processes n m pr unmade ne

pub process-beyond : (c : Config) (n : ℕ) → length c.processes ≤ n → process_at c n ≡ unmade
unfolding process_at
process-beyond c n h = get_or-eq_default c.processes unmade h

beyond-reach : (c : Config) (n : ℕ) (x : Thing) → length c.processes ≤ n → T (reaches (process_at c n) x) → ⊥
unfolding reaches values_of
beyond-reach c n x h r = subst (λ (q : Process). T (reaches q x)) (process-beyond c n h) r

pub reach-made : (c : Config) (n : ℕ) (x : Thing) → T (reaches (process_at c n) x) → n < length c.processes
reach-made c n x r = lt_of_not-le (λ h. beyond-reach c n x h r)

pub count_set : (c : Config) (n : ℕ) (pr : Process) → length (set_process c n pr).processes ≡ length c.processes
unfolding set_process
count_set c n pr = length-set c.processes n pr

pub reach-set : (c : Config) (n : ℕ) (pr : Process) (m : ℕ) (x : Thing)
    → T (reaches (process_at (set_process c n pr) m) x)
    → ((m ≡ n) × T (reaches pr x)) ⊎ ((m ≢ n) × T (reaches (process_at c m) x))
reach-set c n pr m x r =
    ⊎_elim (λ e. inl (same (eqb-true m n e))) (λ e. inr (other (eqb-false m n e))) (decide (eqb m n))
  where
    other : m ≢ n → (m ≢ n) × T (reaches (process_at c m) x)
    other ne = (ne, subst (λ (q : Process). T (reaches q x)) (process-other c n m pr ne) r)

    here : m ≡ n → T (reaches (process_at (set_process c n pr) n) x)
    here e = subst (λ (k : ℕ). T (reaches (process_at (set_process c n pr) k) x)) e r

    made : m ≡ n → n < length c.processes
    made e = subst (λ (l : ℕ). n < l) (count_set c n pr) (reach-made (set_process c n pr) n x (here e))

    same : m ≡ n → (m ≡ n) × T (reaches pr x)
    same e = (e, subst (λ (q : Process). T (reaches q x)) (process-same c n pr (made e)) (here e))

pub count-joined : (c : Config) (pr : Process) → length (joined c pr).processes ≡ suc (length c.processes)
unfolding joined
count-joined c pr = omega (arith, length-append c.processes (pr ∷ []))

pub joined-old : (c : Config) (pr : Process) (m : ℕ) → m < length c.processes
    → process_at (joined c pr) m ≡ process_at c m
unfolding process_at joined
joined-old c pr m h = get_or-append c.processes (pr ∷ []) unmade m h

pub joined-new : (c : Config) (pr : Process) → process_at (joined c pr) (length c.processes) ≡ pr
unfolding process_at joined
joined-new c pr = get_or-append_seam c.processes pr [] unmade

pub joined-last : (c : Config) (pr : Process) (m : ℕ) → m < length (joined c pr).processes → length c.processes ≤ m
    → m ≡ length c.processes
unfolding joined
joined-last c pr m h k = omega (arith, length-append c.processes (pr ∷ []))

pub reach-joined : (c : Config) (pr : Process) (m : ℕ) (x : Thing) → T (reaches (process_at (joined c pr) m) x)
    → ((m ≡ length c.processes) × T (reaches pr x)) ⊎ T (reaches (process_at c m) x)
reach-joined c pr m x r =
    ⊎_elim (λ e. inr (old (ltb-true m (length c.processes) e)))
    (λ e. inl (new (joined-last c pr m (reach-made (joined c pr) m x r) (ltb-false m (length c.processes) e))))
    (decide (ltb m (length c.processes)))
  where
    old : m < length c.processes → T (reaches (process_at c m) x)
    old h = subst (λ (q : Process). T (reaches q x)) (joined-old c pr m h) r

    new : m ≡ length c.processes → (m ≡ length c.processes) × T (reaches pr x)
    new e = (e, subst (λ (q : Process). T (reaches q x)) (ap (process_at (joined c pr)) e ∙ joined-new c pr) r)
