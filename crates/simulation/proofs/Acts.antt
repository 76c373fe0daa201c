-- In states alike every process would do alike, a partner that has gone considered, and is able to move in both or in
-- neither; whoever makes an offer meets the same partner.
use Prim.Native.Nat.{ℕ}
use mathlib.Core.Path.{◌≡◌, refl, ◌∙◌, ap, subst}
use mathlib.Core.Bool.{Bool, true, false, cond, not, ◌||◌, ◌&&◌, beq}
use mathlib.Core.List.{List}
use mathlib.Core.Option.{Option, none, some}
use lib.ListN.{length}
use lib.Dec.{eqb}
use Rattle.lists.specs.Lists.{any, below, first_some}
use Rattle.machine.specs.Value.{end}
use Rattle.machine.specs.State.{Status, running, finished, stopped, ProcessOf, ConfigOf, Line, StateOf, process_at, is_over}
use Rattle.machine.specs.Act.{OfferOf, ActOf}
use Rattle.machine.specs.Entry.{MachineOf, MeetingOf, joins, offered, meets_with, meeting_in, is_gone, gone, judged, judged_in, is_meeting, moves_in, able_in}
use Rattle.machine.specs.Run.{all_over, none_able_in}
use Rattle.machine.specs.Owner.{holder}
use Rattle.simulation.specs.Simulation.{no_more, FramesLike, OfferLike, both_send, both-receive, ActLike, both-idle, both-stuck, both-fault, both_go, both_end, both-make, both-fork, both-offer, ProcessLike, ConfigLike, StateLike, Simulates}
use Rattle.simulation.proofs.OneByOne.{one-length, one_at, one-every, BothOrNone, neither, given, first-given, both_cond}

-- the same meeting with other frames
abbrev pub with_frames : {F G : Type 0} → MeetingOf F → List G → List G → MeetingOf G
with_frames e gs hs = record {
  sender = e.sender;
  receiver = e.receiver;
  channel = e.channel;
  side = e.side;
  value = e.value;
  sender_frames = gs;
  receiver_frames = hs;
}

-- meetings that differ in their frames alone, and these are related
pub data MeetingLike {F G : Type 0} (R : F → G → Type 0) : MeetingOf F → MeetingOf G → Type 0 where
  both_meet : (e : MeetingOf F) {gs hs : List G} → FramesLike R e.sender_frames gs
      → FramesLike R e.receiver_frames hs → MeetingLike R e (with_frames e gs hs)

module _ {F G : Type 0} {R : F → G → Type 0} where
  -- finished or stopped in both, or in neither
  over-alike : {p : ProcessOf F} {q : ProcessOf G} → ProcessLike R p q → is_over p ≡ is_over q
  over-alike {p} {q} h =
      go p.status ∙ ap (λ (t : Status). is_over (record { status = t; frames = q.frames })) h.status
    where
      go : (t : Status)
          → is_over (record { status = t; frames = p.frames }) ≡ is_over (record { status = t; frames = q.frames })
      go running = refl
      go finished = refl
      go (stopped f) = refl

  pub process-alike : {c : ConfigOf F} {c' : ConfigOf G} → ConfigLike R c c' → (n : ℕ)
      → ProcessLike R (process_at c n) (process_at c' n)
  unfolding process_at
  process-alike h n = one_at h.processes n (record { status = refl; frames = no_more })

  pub count-alike : {c : ConfigOf F} {c' : ConfigOf G} → ConfigLike R c c'
      → length c.processes ≡ length c'.processes
  count-alike h = one-length h.processes

  -- end 1
  pub all-over-alike : {s : StateOf F} {s' : StateOf G} → StateLike R s s' → all_over s ≡ all_over s'
  unfolding all_over
  all-over-alike h = one-every is_over is_over (λ p q. over-alike) h.config.processes

  -- the opposite end's holder is read from the same lines
  is-gone-alike : {c : ConfigOf F} {c' : ConfigOf G} → ConfigLike R c c' → (n : ℕ) (h : Option ℕ)
      → is_gone c n h ≡ is_gone c' n h
  unfolding is_gone
  is-gone-alike a n none = refl
  is-gone-alike a n (some h) = ap (λ (b : Bool). eqb h n || b) (over-alike (process-alike a h))

  gone_at : {s : StateOf F} {s' : StateOf G} → StateLike R s s' → (n c : ℕ) (d : Bool)
      → is_gone s.config n (holder s.lines (end c d)) ≡ is_gone s'.config n (holder s'.lines (end c d))
  gone_at {s} {s'} a n c d =
      is-gone-alike a.config n (holder s.lines (end c d))
      ∙ ap (λ (ls : List Line). is_gone s'.config n (holder ls (end c d))) a.lines

  gone-alike : {s : StateOf F} {s' : StateOf G} → StateLike R s s' → (n : ℕ) {o : OfferOf F} {r : OfferOf G}
      → OfferLike R o r → gone s n o ≡ gone s' n r
  unfolding gone
  gone-alike a n (both_send c d v h) = gone_at a n c (not d)
  gone-alike a n (both-receive c d h) = gone_at a n c (not d)

  -- two offers that meet in the one machine meet in the other
  meet-if : (b : Bool) (e : MeetingOf F) {gs hs : List G} → FramesLike R e.sender_frames gs
      → FramesLike R e.receiver_frames hs
      → BothOrNone (MeetingLike R) (cond b (some e) none) (cond b (some (with_frames e gs hs)) none)
  meet-if true e h k = given (both_meet e h k)
  meet-if false e h k = neither

  joins-alike : (n q : ℕ) {o t : OfferOf F} {r u : OfferOf G} → OfferLike R o r → OfferLike R t u
      → BothOrNone (MeetingLike R) (joins n o q t) (joins n r q u)
  unfolding joins
  joins-alike n q (both_send c d v h) (both_send c' d' w k) = neither
  joins-alike n q (both_send c d v h) (both-receive c' d' k) = meet-if (eqb c c' && beq d (not d')) _ h k
  joins-alike n q (both-receive c d h) (both_send c' d' w k) = meet-if (eqb c c' && beq d (not d')) _ k h
  joins-alike n q (both-receive c d h) (both-receive c' d' k) = neither

  meets-alike : (n q : ℕ) {o : OfferOf F} {r : OfferOf G} → OfferLike R o r → {t : Option (OfferOf F)}
      {u : Option (OfferOf G)} → BothOrNone (OfferLike R) t u
      → BothOrNone (MeetingLike R) (meets_with n o q t) (meets_with n r q u)
  unfolding meets_with
  meets-alike n q h neither = neither
  meets-alike n q h (given k) = joins-alike n q h k

  meeting-both : {e : Option (MeetingOf F)} {e' : Option (MeetingOf G)} → BothOrNone (MeetingLike R) e e'
      → is_meeting e ≡ is_meeting e'
  unfolding is_meeting
  meeting-both neither = refl
  meeting-both (given h) = refl

module _ {F G : Type 0} {M : MachineOf F} {N : MachineOf G} {R : F → G → Type 0} where
  offered-alike : {a : ActOf F} {b : ActOf G} → ActLike M N R a b → BothOrNone (OfferLike R) (offered a) (offered b)
  unfolding offered
  offered-alike both-idle = neither
  offered-alike both-stuck = neither
  offered-alike (both-fault f) = neither
  offered-alike (both_go es u h) = neither
  offered-alike both_end = neither
  offered-alike (both-make t h) = neither
  offered-alike (both-fork m args h r) = neither
  offered-alike (both-offer h) = given h

  judge-alike : {s : StateOf F} {s' : StateOf G} → StateLike R s s' → (n : ℕ) {a : ActOf F} {b : ActOf G}
      → ActLike M N R a b → ActLike M N R (judged s n a) (judged s' n b)
  unfolding judged
  judge-alike l n both-idle = both-idle
  judge-alike l n both-stuck = both-stuck
  judge-alike l n (both-fault f) = both-fault f
  judge-alike l n (both_go es u h) = both_go es u h
  judge-alike l n both_end = both_end
  judge-alike l n (both-make t h) = both-make t h
  judge-alike l n (both-fork m args h r) = both-fork m args h r
  judge-alike {s} {s'} l n (both-offer {o} {r} h) =
      both_cond (ActLike M N R) (gone s n o) (gone s' n r) (gone-alike l n h) (both-fault 33) (both-offer h)

module _ {F G : Type 0} {M : MachineOf F} {N : MachineOf G} {R : F → G → Type 0} (sim : Simulates M N R)
    {s : StateOf F} {s' : StateOf G} (a : StateLike R s s') where
  pub judged-alike : (n : ℕ) → ActLike M N R (judged_in M s n) (judged_in N s' n)
  judged-alike n = judge-alike a n (sim.acts s s' n a)

  -- the same partner, or none in both
  pub meeting-alike : (n : ℕ) {o : OfferOf F} {r : OfferOf G} → OfferLike R o r
      → BothOrNone (MeetingLike R) (meeting_in M s n o) (meeting_in N s' n r)
  unfolding meeting_in
  meeting-alike n {o} {r} h =
      let made = length s.config.processes in
      subst (λ (c : ℕ). BothOrNone (MeetingLike R) (first_some with-M made) (first_some with-N c))
      (count-alike a.config) (first-given with-M with-N one made)
    where
      with-M : ℕ → Option (MeetingOf F)
      with-M q = cond (eqb q n) none (meets_with n o q (offered (M.act s q)))

      with-N : ℕ → Option (MeetingOf G)
      with-N q = cond (eqb q n) none (meets_with n r q (offered (N.act s' q)))

      one : (q : ℕ) → BothOrNone (MeetingLike R) (with-M q) (with-N q)
      one q =
          both_cond (BothOrNone (MeetingLike R)) (eqb q n) (eqb q n) refl neither
          (meets-alike n q h (offered-alike (sim.acts s s' q a)))

  pub able-alike : (n : ℕ) → able_in M s n ≡ able_in N s' n
  unfolding able_in moves_in
  able-alike n = go (judged-alike n)
    where
      go : {x : ActOf F} {y : ActOf G} → ActLike M N R x y → moves_in M s n x ≡ moves_in N s' n y
      go both-idle = refl
      go both-stuck = refl
      go (both-fault f) = refl
      go (both_go es u h) = refl
      go both_end = refl
      go (both-make t h) = refl
      go (both-fork m args h r) = refl
      go (both-offer h) = meeting-both (meeting-alike n h)

  -- end 2
  pub none-able-alike : none_able_in M s ≡ none_able_in N s'
  unfolding none_able_in
  none-able-alike = λ i. not (any (λ n. able-alike n i) (below (count-alike a.config i)))
