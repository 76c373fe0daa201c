-- What the code reads off the words of the store is what the definitions say of the state: each process's stand, the
-- partner of an offer, who is able to move, and the end that the processes give.
use Prim.Native.Nat.{ℕ, zero, suc, ◌%◌, ◌≤◌, ◌<◌}
use mathlib.Core.Path.{◌≡◌, refl, sym, ◌∙◌, ap, ap₂, subst, subst₂}
use mathlib.Core.Logic.{◌≢◌, ◌⊎◌, inl, inr, ⊎_elim}
use mathlib.Core.Bool.{Bool, true, false, cond, not, ◌&&◌, ◌||◌, true≢false}
use mathlib.Core.List.{List, [], ◌∷◌, ◌++◌}
use mathlib.Core.Option.{Option, none, some}
use native.Mathlib.Nat.{mod-eq_of_lt}
use native.Mathlib.Omega.{arith}
use lib.ListN.{get_or, length}
use lib.Dec.{eqb, leb, ltb}
use borrow.Author.Tests.{eqb-true, eqb-false, eq-eqb, ne_eqb, ltb-true, ltb-false, leb-true, leb-false}
use Rattle.lists.specs.Lists.{any, every, below}
use Rattle.lists.proofs.Tests.{decide}
use Rattle.lists.proofs.Any.{All-get_d}
use Rattle.machine.specs.Value.{end, ref, side_no}
use Rattle.machine.specs.State.{Frame, Status, running, finished, stopped, Process, Config, State, is_over, process_at, unmade}
use Rattle.machine.specs.Act.{Offer, sends, receives, Act, idle, stuck, faults, goes, ends, makes, forks, offers, at_frames, by_status, act_of}
use Rattle.machine.specs.Entry.{Meeting, offered, meets_with, meeting_of, opposite_end, is_gone, gone, judged, is_meeting, moves, able, able_in, moves_in}
use Rattle.machine.specs.Run.{all_over, none_able, none_able_in}
use Rattle.machine.specs.Owner.{values_of, reaches, holder}
use Rattle.machine.specs.Sound.{Made, ProcessSound, ConfigSound}
use Rattle.machine.proofs.Reachable.{Reachable, busy-at}
use Rattle.machine.proofs.Standing.{act-typed}
use Rattle.machine.proofs.Sound.{config-sound}
use Rattle.machine.proofs.Within.{OfferWithin, ActWithin, act-within}
use Rattle.machine.proofs.Unmade.{unmade-idle}
use Rattle.machine.proofs.Partner.{partner-is}
use Rattle.machine.proofs.Busy.{Busy, frames-busy}
use Rattle.machine.proofs.Waiting.{running-busy}
use Rattle.machine.proofs.Steps.{ending, able-goes}
use Rattle.machine.proofs.Giving.{process-beyond}
use Rattle.machine.proofs.Ownership as own
use Rattle.layout.specs.Layout.{process_words, encode, value_words}
use Rattle.layout.proofs.Frames.{tag_of, number_of}
use Rattle.run_store.proofs.Vals.{val_of}
use Rattle.run_parts.specs.PartsCode.{part_of}
use Rattle.run_parts.proofs.Encoded.{Laid, laid-sound, part-is, part-unmade}
use Rattle.run_holders.specs.HoldersCode.{holder_in}
use Rattle.run_holders.proofs.Holding.{Holding}
use Rattle.run_parts.specs.declared.readiness.Readiness.{Readiness}
use Rattle.run_parts.specs.ReadinessCode.{over_kind, end_offered, readiness_op, meets_op}
use Rattle.run_parts.proofs.Standing.{Stands, stand-is, finished-stand, stopped-stand, unmade-stand, meets-act}
use Rattle.run_ability.specs.PartnerCode.{opposite_of, Partner, waits, ready, is_no_other, ready_op, is_moving, partner_op}
use Rattle.run_ability.specs.PartnerCode as code
use Rattle.std.specs.Prelude as std
use Rattle.run_ability.specs.declared.ends.End.TheVariants.{AllOver, NoneAble}
use Rattle.run_ability.specs.EndNumbers.{end_number}
use Rattle.run_ability.specs.EndingCode.{end_or_none, ability_by, ability_of, ability_op, some_is, ending_op}

module _ {p outcomes : List ℕ} {s : State} (reached : Reachable p outcomes s) (rest : List ℕ) where
  abbrev config : Config
  config = s.config

  pub sound : ConfigSound p config
  sound = config-sound p reached.kept reached.kinds config reached.typed

  pub laid : Laid config
  laid = laid-sound p config sound

  abbrev work : List ℕ
  work = encode config ++ rest

  -- stands

  stand-process : (st : Status) (fs : List Frame) → ProcessSound p config (record { status = st; frames = fs })
      → Stands (by_status st (at_frames p outcomes s fs))
      (readiness_op p (process_words (record { status = st; frames = fs })))
  unfolding by_status at_frames
  stand-process running [] h = absurd (omega (arith, h.status))
  stand-process running (f ∷ fs) h = stand-is outcomes s (busy-at reached h.frames (omega (arith, h.depth)))
  stand-process finished fs h =
      ap (λ (gs : List Frame). readiness_op p (process_words (record { status = finished; frames = gs }))) h.status
      ∙ finished-stand p
  stand-process (stopped n) fs h = stopped-stand p n fs

  unmade-sound : ProcessSound p config unmade
  unmade-sound = record { status = refl; depth = omega arith; frames = tt }

  pub process-sound : (q : ℕ) → ProcessSound p config (process_at config q)
  unfolding process_at
  process-sound q = All-get_d (ProcessSound p config) config.processes q unmade sound.processes unmade-sound

  pub stand-at : (q : ℕ) → q < 8 → Stands (act_of p outcomes s q) (readiness_op p (part_of work q))
  unfolding act_of
  stand-at q h =
      ⊎_elim
      (λ t. subst (λ (w : List ℕ). Stands (act_of p outcomes s q) (readiness_op p w))
      (sym (part-is config laid rest q (ltb-true q (length config.processes) t)))
      (stand-process (process_at config q).status (process_at config q).frames (process-sound q)))
      (λ t. beyond (ltb-false q (length config.processes) t))
      (decide (ltb q (length config.processes)))
    where
      beyond : length config.processes ≤ q → Stands (act_of p outcomes s q) (readiness_op p (part_of work q))
      beyond l =
          subst (λ (a : Act). Stands a (readiness_op p (part_of work q))) (sym (unmade-idle p outcomes s q l))
          (ap (readiness_op p) (part-unmade config laid rest q l h) ∙ unmade-stand p)

  pub not_stuck : (q : ℕ) → act_of p outcomes s q ≢ stuck
  not_stuck q e = rw e at (act-typed p reached.kept outcomes reached.bytes s reached.kinds reached.typed q)

  -- the readiness of a process that acts is not that of one that is over
  stands-busy : (a : Act) (st : Readiness) → Busy a → a ≢ stuck → Stands a st → over_kind st ≡ false
  unfolding over_kind
  stands-busy idle st b ns h = absurd b
  stands-busy stuck st b ns h = absurd (ns refl)
  stands-busy (faults f) st b ns h = ap over_kind h
  stands-busy (goes fs es u) st b ns h = ap over_kind h
  stands-busy ends st b ns h = ap over_kind h
  stands-busy (makes x fs) st b ns h = ap over_kind h
  stands-busy (forks m args fs) st b ns h = ap over_kind h
  stands-busy (offers (sends c d v fs)) st b ns h = ap over_kind h
  stands-busy (offers (receives c d fs)) st b ns h = ap over_kind h

  over-ready : (q : ℕ) → q < 8 → over_kind (readiness_op p (part_of work q)) ≡ is_over (process_at config q)
  unfolding act_of by_status over_kind
  over-ready q h = go (process_at config q).status refl
    where
      over : (st : Status) → (process_at config q).status ≡ st
          → by_status st (at_frames p outcomes s (process_at config q).frames) ≡ idle
          → over_kind (readiness_op p (part_of work q)) ≡ true
      over st e i =
          ap over_kind
          (subst (λ (a : Act). Stands a (readiness_op p (part_of work q)))
          (ap (λ (x : Status). by_status x (at_frames p outcomes s (process_at config q).frames)) e ∙ i) (stand-at q h))

      by-status : Status → Bool
      by-status st = is_over (record { status = st; frames = (process_at config q).frames })

      go : (st : Status) → (process_at config q).status ≡ st
          → over_kind (readiness_op p (part_of work q)) ≡ is_over (process_at config q)
      go running e =
          stands-busy (act_of p outcomes s q) (readiness_op p (part_of work q)) (running-busy p outcomes s q e)
          (not_stuck q) (stand-at q h)
          ∙ sym (ap by-status e)
      go finished e = over finished e refl ∙ sym (ap by-status e)
      go (stopped f) e = over (stopped f) e refl ∙ sym (ap by-status e)

  -- partners

  module _ (owned : own.Kept config s.lines) (t : List (List ℕ)) (holding : Holding t s.lines) where
    -- the channel of an offer's end was made
    offer-made : (n : ℕ) (o : Offer) → OfferWithin (values_of (process_at config n).frames) o
        → Made config (opposite_end o)
    unfolding reaches
    offer-made n (sends c d v fs) h = owned.made (end c d) n h.0
    offer-made n (receives c d fs) h = owned.made (end c d) n h.0

    side-facing : (c : ℕ) (d : Bool) → opposite_of (val_of (ref (end c d))).tag ≡ side_no (not d)
    unfolding opposite_of val_of tag_of value_words
    side-facing c true = refl
    side-facing c false = refl

    number_same : (c : ℕ) (d : Bool) → (val_of (ref (end c d))).number ≡ c
    unfolding val_of number_of value_words
    number_same c true = refl
    number_same c false = refl

    -- the number in the table's place for the end that faces c and d
    abbrev looked : ℕ → Bool → ℕ
    looked c d = holder_in t ((val_of (ref (end c d))).number % 65536) (opposite_of (val_of (ref (end c d))).tag)

    looked-held : (c : ℕ) (d : Bool) → c < config.channels → (q : ℕ) → holder s.lines (end c (not d)) ≡ some q
        → looked c d ≡ q
    looked-held c d h q e =
        ap₂ (holder_in t)
        (ap (λ (i : ℕ). i % 65536) (number_same c d) ∙ mod-eq_of_lt (omega (arith, h, sound.channel_count)))
        (side-facing c d)
        ∙ holding.says c (not d) q (omega (arith, h, sound.channel_count)) e

    -- the holder that the code finds in the table is the lines'
    pub found : Offer → ℕ
    found (sends c d v fs) = looked c d
    found (receives c d fs) = looked c d

    found-held : (n : ℕ) (o : Offer) → OfferWithin (values_of (process_at config n).frames) o → (q : ℕ)
        → holder s.lines (opposite_end o) ≡ some q → found o ≡ q
    unfolding found
    found-held n (sends c d v fs) h q e = looked-held c d (offer-made n (sends c d v fs) h) q e
    found-held n (receives c d fs) h q e = looked-held c d (offer-made n (receives c d fs) h) q e

    held_found : (n : ℕ) (o : Offer) → OfferWithin (values_of (process_at config n).frames) o
        → holder s.lines (opposite_end o) ≡ some (found o)
    held_found n o w =
        let r = owned.held (opposite_end o) (offer-made n o w) in
        r.1 ∙ ap {B = Option ℕ} some (sym (found-held n o w r.0 r.1))

    gone-is : (n : ℕ) (o : Offer) → OfferWithin (values_of (process_at config n).frames) o
        → gone s n o ≡ (eqb (found o) n || is_over (process_at config (found o)))
    unfolding gone is_gone
    gone-is n o w = ap (is_gone config n) (held_found n o w)

    -- what an offer finds, by whether its partner has gone and whether it meets
    abbrev comes : Bool → Bool → ℕ → Partner
    comes g m h = cond g code.gone (cond m (ready h) waits)

    ready-is : (n : ℕ) (o : Offer) (st : Readiness) → OfferWithin (values_of (process_at config n).frames) o
        → Stands (offers o) st
        → ready_op p work n st (found o) ≡ comes (gone s n o) (is_meeting (meeting_of p outcomes s n o)) (found o)
    unfolding ready_op is_no_other is_meeting meets_with offered
    ready-is n o st w stands =
        subst₂ (λ (g : Bool) (m : Option Meeting). ready_op p work n st h ≡ comes g (is_meeting m) h)
        (sym (gone-is n o w)) (sym (partner-is p outcomes s owned n o h (found-held n o w)))
        (same (eqb h n) (leb 8 h) refl)
      where
        h : ℕ
        h = found o

        met : Option Meeting
        met = meets_with n o h (offered (act_of p outcomes s h))

        over-beyond : 8 ≤ h → is_over (process_at config h) ≡ true
        over-beyond l = ap is_over (process-beyond config h (omega (arith, l, sound.process_count)))

        near : h < 8 → (b : Bool) → is_over (process_at config h) ≡ b
            → cond (over_kind (readiness_op p (part_of work h))) code.gone
            (cond (meets_op st (readiness_op p (part_of work h))) (ready h) waits)
            ≡ comes b (is_meeting met) h
        near l true e =
            ap (λ (x : Bool). cond x code.gone (cond (meets_op st (readiness_op p (part_of work h))) (ready h) waits))
            (over-ready h l ∙ e)
        near l false e =
            ap₂ (λ (x y : Bool). cond x code.gone (cond y (ready h) waits)) (over-ready h l ∙ e)
            (meets-act n h o (act_of p outcomes s h) st (readiness_op p (part_of work h)) stands (not_stuck h)
            (stand-at h l))

        same : (x y : Bool) → leb 8 h ≡ y
            → cond (x || y) code.gone
            (cond (over_kind (readiness_op p (part_of work h))) code.gone
            (cond (meets_op st (readiness_op p (part_of work h))) (ready h) waits))
            ≡ comes (x || is_over (process_at config h)) (is_meeting (cond x none met)) h
        same true y e = refl
        same false true e = sym (ap (λ (b : Bool). comes b (is_meeting met) h) (over-beyond (leb-true 8 h e)))
        same false false e = near (leb-false 8 h e) (is_over (process_at config h)) refl ∙ refl

    pub partner-law : (n : ℕ) (o : Offer) (st : Readiness) → OfferWithin (values_of (process_at config n).frames) o
        → Stands (offers o) st
        → partner_op p work t n st ≡ comes (gone s n o) (is_meeting (meeting_of p outcomes s n o)) (found o)
    unfolding partner_op found end_offered
    partner-law n (sends c d v fs) st w h =
        ap (λ (x : Readiness). ready_op p work n st (holder_in t ((end_offered x).number % 65536) (opposite_of (end_offered x).tag))) h
        ∙ ready-is n (sends c d v fs) st w h
    partner-law n (receives c d fs) st w h =
        ap (λ (x : Readiness). ready_op p work n st (holder_in t ((end_offered x).number % 65536) (opposite_of (end_offered x).tag))) h
        ∙ ready-is n (receives c d fs) st w h

    -- where there is a meeting, its partner is another process that was made
    pub met-with : (n : ℕ) (o : Offer) → OfferWithin (values_of (process_at config n).frames) o
        → meeting_of p outcomes s n o ≡ cond (eqb (found o) n) none
        (meets_with n o (found o) (offered (act_of p outcomes s (found o))))
    met-with n o w = partner-is p outcomes s owned n o (found o) (found-held n o w)

    pub found-partner : (n : ℕ) (o : Offer) → OfferWithin (values_of (process_at config n).frames) o
        → is_meeting (meeting_of p outcomes s n o) ≡ true
        → (found o < length config.processes) × (found o ≢ n)
    unfolding is_meeting meets_with offered
    found-partner n o w e = (
      ⊎_elim (λ t. ltb-true (found o) (length config.processes) t)
          (λ t. absurd (true≢false
          (sym met ∙ ap (λ (a : Act). is_meeting (cond (eqb (found o) n) none (meets_with n o (found o) (offered a))))
          (unmade-idle p outcomes s (found o) (ltb-false (found o) (length config.processes) t)) ∙ nothing
          (eqb (found o) n))))
          (decide (ltb (found o) (length config.processes))),
      λ i. true≢false
          (sym met ∙ ap (λ (b : Bool). is_meeting (cond b none
          (meets_with n o (found o) (offered (act_of p outcomes s (found o)))))) (eq-eqb (found o) n i)),
    )
      where
        met :
            is_meeting (cond (eqb (found o) n) none (meets_with n o (found o) (offered (act_of p outcomes s (found o)))))
            ≡ true
        met = ap is_meeting (sym (met-with n o w)) ∙ e

        nothing : (b : Bool) → is_meeting (cond {A = Option Meeting} b none none) ≡ false
        nothing true = refl
        nothing false = refl

    -- abilities

    -- 0 where the act is idle, 1 where the process is able to move, 2 where it waits
    rank : ℕ → Act → ℕ
    rank n idle = 0
    rank n stuck = 0
    rank n (faults f) = 1
    rank n (goes fs es u) = 1
    rank n ends = 1
    rank n (makes x fs) = 1
    rank n (forks m args fs) = 1
    rank n (offers o) = cond (gone s n o || is_meeting (meeting_of p outcomes s n o)) 1 2

    rank-able : (n : ℕ) (a : Act) → eqb (rank n a) 1 ≡ moves p outcomes s n (judged s n a)
    unfolding rank moves_in judged
    rank-able n idle = refl
    rank-able n stuck = refl
    rank-able n (faults f) = refl
    rank-able n (goes fs es u) = refl
    rank-able n ends = refl
    rank-able n (makes x fs) = refl
    rank-able n (forks m args fs) = refl
    rank-able n (offers o) = both (gone s n o)
      where
        either : (b : Bool) → eqb (cond {A = ℕ} b 1 2) 1 ≡ b
        either true = refl
        either false = refl

        both : (g : Bool)
            → eqb (cond {A = ℕ} (g || is_meeting (meeting_of p outcomes s n o)) 1 2) 1 ≡ moves p outcomes s n
            (cond g (faults 33) (offers o))
        both true = refl
        both false = either (is_meeting (meeting_of p outcomes s n o))

    offer-rank : (n : ℕ) (o : Offer) (st : Readiness) → OfferWithin (values_of (process_at config n).frames) o
        → Stands (offers o) st
        → cond {A = ℕ} (is_moving (partner_op p work t n st)) 1 2 ≡ rank n (offers o)
    unfolding rank is_moving
    offer-rank n o st w h =
        ap (λ (q : Partner). cond {A = ℕ} (is_moving q) 1 2) (partner-law n o st w h)
        ∙ ap (λ (b : Bool). cond {A = ℕ} b 1 2) (either (gone s n o) (is_meeting (meeting_of p outcomes s n o)))
      where
        either : (g m : Bool) → is_moving (comes g m (found o)) ≡ (g || m)
        either true m = refl
        either false true = refl
        either false false = refl

    act-rank : (n : ℕ) (a : Act) (st : Readiness)
        → ActWithin (values_of (process_at config n).frames) config.qubits config.channels a → a ≢ stuck
        → Stands a st
        → ability_of p work t n st ≡ rank n a
    unfolding ability_of ability_by rank
    act-rank n idle st w ns h = ap (λ (x : Readiness). ability_of p work t n x) h
    act-rank n stuck st w ns h = absurd (ns refl)
    act-rank n (faults f) st w ns h = ap (λ (x : Readiness). ability_of p work t n x) h
    act-rank n (goes fs es u) st w ns h = ap (λ (x : Readiness). ability_of p work t n x) h
    act-rank n ends st w ns h = ap (λ (x : Readiness). ability_of p work t n x) h
    act-rank n (makes x fs) st w ns h = ap (λ (x : Readiness). ability_of p work t n x) h
    act-rank n (forks m args fs) st w ns h = ap (λ (x : Readiness). ability_of p work t n x) h
    act-rank n (offers (sends c d v fs)) st w ns h =
        ap (λ (x : Readiness). ability_of p work t n x) h ∙ offer-rank n (sends c d v fs) _ w refl
    act-rank n (offers (receives c d fs)) st w ns h =
        ap (λ (x : Readiness). ability_of p work t n x) h ∙ offer-rank n (receives c d fs) _ w refl

    ability-is : (n : ℕ) → n < 8 → ability_op p work t n ≡ rank n (act_of p outcomes s n)
    unfolding ability_op
    ability-is n h =
        act-rank n (act_of p outcomes s n) (readiness_op p (part_of work n)) (act-within p outcomes s n) (not_stuck n)
        (stand-at n h)

    pub able-is : (n : ℕ) → n < 8 → able p outcomes s n ≡ eqb (ability_op p work t n) 1
    unfolding able_in
    able-is n h = sym (rank-able n (act_of p outcomes s n)) ∙ ap (λ (r : ℕ). eqb r 1) (sym (ability-is n h))

    -- the scan

    some-found : (a n : ℕ) → some_is p work t a n ≡ true → (q : ℕ) × (q < n) × (ability_op p work t q ≡ a)
    unfolding some_is
    some-found a zero e = absurd (true≢false (sym e))
    some-found a (suc n) e =
        ⊎_elim
        (λ i. (let r = some-found a n i in (r.0, omega (arith, r.1), r.2)))
        (λ i. (
          n,
          omega arith,
          eqb-true (ability_op p work t n) a
              (ap (λ (b : Bool). b || eqb (ability_op p work t n) a) (sym i) ∙ e),
        ))
        (decide (some_is p work t a n))

    some-missed : (a n : ℕ) → some_is p work t a n ≡ false → (q : ℕ) → q < n → ability_op p work t q ≢ a
    unfolding some_is
    some-missed a zero e q h i = absurd (omega (arith, h))
    some-missed a (suc n) e q h i =
        ⊎_elim
        (λ l. some-missed a n (or-first (some_is p work t a n) (eqb (ability_op p work t n) a) e) q l i)
        (λ j. eqb-false (ability_op p work t n) a (or-second (some_is p work t a n) (eqb (ability_op p work t n) a) e)
        (ap (ability_op p work t) (sym j) ∙ i))
        (before q n h)
      where
        or-first : (x y : Bool) → (x || y) ≡ false → x ≡ false
        or-first true y z = z
        or-first false y z = refl

        or-second : (x y : Bool) → (x || y) ≡ false → y ≡ false
        or-second true y z = absurd (true≢false z)
        or-second false y z = z

        before : (q n : ℕ) → q < suc n → (q < n) ⊎ (q ≡ n)
        before q n h =
            ⊎_elim (λ t. inl (ltb-true q n t)) (λ t. inr (omega (arith, h, ltb-false q n t))) (decide (ltb q n))

    -- the ends

    -- a process at work is not idle
    at-work : (fs : List Frame) → at_frames p outcomes s fs ≢ idle
    at-work fs e = subst Busy e (frames-busy p outcomes s fs)

    -- a process that is not over is not idle, and one that is over does not wait
    idle-over : (st : Status) (fs : List Frame) → ProcessSound p config (record { status = st; frames = fs })
        → by_status st (at_frames p outcomes s fs) ≡ idle
        → is_over (record { status = st; frames = fs }) ≡ true
    unfolding by_status
    idle-over running fs h e = absurd (at-work fs e)
    idle-over finished fs h e = refl
    idle-over (stopped n) fs h e = refl

    over-idle : (st : Status) (fs : List Frame) → is_over (record { status = st; frames = fs }) ≡ true
        → by_status st (at_frames p outcomes s fs) ≡ idle
    unfolding by_status
    over-idle running fs e = absurd (true≢false (sym e))
    over-idle finished fs e = refl
    over-idle (stopped n) fs e = refl

    rank-zero : (n : ℕ) (a : Act) → a ≢ stuck → rank n a ≢ 1 → rank n a ≢ 2 → a ≡ idle
    unfolding rank
    rank-zero n idle ns one two = refl
    rank-zero n stuck ns one two = absurd (ns refl)
    rank-zero n (faults f) ns one two = absurd (one refl)
    rank-zero n (goes fs es u) ns one two = absurd (one refl)
    rank-zero n ends ns one two = absurd (one refl)
    rank-zero n (makes x fs) ns one two = absurd (one refl)
    rank-zero n (forks m args fs) ns one two = absurd (one refl)
    rank-zero n (offers o) ns one two = neither (gone s n o || is_meeting (meeting_of p outcomes s n o)) one two
      where
        neither : (b : Bool) → ◌≢◌ {A = ℕ} (cond b 1 2) 1 → ◌≢◌ {A = ℕ} (cond b 1 2) 2 → offers o ≡ idle
        neither true x y = absurd (x refl)
        neither false x y = absurd (y refl)

    every-at : (prs : List Process) → ((q : ℕ) → q < length prs → is_over (get_or prs q unmade) ≡ true)
        → every is_over prs ≡ true
    every-at [] h = refl
    every-at (pr ∷ prs) h = ap₂ ◌&&◌ (h 0 (omega arith)) (every-at prs (λ q l. h (suc q) (omega (arith, l))))

    every-none : (prs : List Process) (q : ℕ) → q < length prs → is_over (get_or prs q unmade) ≡ false
        → every is_over prs ≡ false
    every-none [] q l e = absurd (omega (arith, l))
    every-none (pr ∷ prs) zero l e = ap (λ (b : Bool). b && every is_over prs) e
    every-none (pr ∷ prs) (suc q) l e =
        ap (λ (b : Bool). is_over pr && b) (every-none prs q (omega (arith, l)) e) ∙ and-false (is_over pr)
      where
        and-false : (b : Bool) → (b && false) ≡ false
        and-false true = refl
        and-false false = refl

    none_below : (g : ℕ → Bool) (n : ℕ) → ((q : ℕ) → q < n → g q ≡ false) → any g (below n) ≡ false
    unfolding below
    none_below g zero h = refl
    none_below g (suc n) h =
        any_snoc (below n) n ∙ ap₂ ◌||◌ (none_below g n (λ q l. h q (omega (arith, l)))) (h n (omega arith))
      where
        any_snoc : (xs : List ℕ) (x : ℕ) → any g (xs ++ (x ∷ [])) ≡ (any g xs || g x)
        any_snoc [] x = or_nothing (g x)
          where
            or_nothing : (b : Bool) → (b || false) ≡ b
            or_nothing true = refl
            or_nothing false = refl
        any_snoc (y ∷ xs) x = ap (λ (b : Bool). g y || b) (any_snoc xs x) ∙ sym (or_assoc (g y) (any g xs) (g x))
          where
            or_assoc : (a b c : Bool) → ((a || b) || c) ≡ (a || (b || c))
            or_assoc true b c = refl
            or_assoc false b c = refl

    not-over : (q : ℕ) → act_of p outcomes s q ≢ idle → is_over (process_at config q) ≡ false
    unfolding act_of
    not-over q ne = failed-over (is_over (process_at config q)) refl
      where
        failed-over : (b : Bool) → is_over (process_at config q) ≡ b → b ≡ false
        failed-over true e = absurd (ne (over-idle (process_at config q).status (process_at config q).frames e))
        failed-over false e = refl

    -- the end that the code works out is the definitions'
    pub ending-is : end_or_none (ending_op p work t 8) ≡ ending p outcomes s
    unfolding end_or_none end_number ending_op ending all_over none_able_in process_at rank act_of
    ending-is = first (some_is p work t 1 8) refl
      where
        few : length config.processes ≤ 8
        few = sound.process_count

        unable : some_is p work t 1 8 ≡ false → (q : ℕ) → q < length config.processes → able p outcomes s q ≡ false
        unable e q l =
            able-is q (omega (arith, l, few))
            ∙ ne_eqb (ability_op p work t q) 1 (some-missed 1 8 e q (omega (arith, l, few)))

        none-able : some_is p work t 1 8 ≡ false → none_able p outcomes s ≡ true
        none-able e = ap not (none_below (able p outcomes s) (length config.processes) (unable e))

        waits : some_is p work t 2 8 ≡ true → all_over s ≡ false
        waits e =
            let r = some-found 2 8 e in
            let ne : act_of p outcomes s r.0 ≢ idle =
            λ i. absurd (omega (arith, sym r.2 ∙ ability-is r.0 r.1 ∙ ap (rank r.0) i)) in
            every-none config.processes r.0 (made r.0 ne) (not-over r.0 ne)
          where
            made : (q : ℕ) → act_of p outcomes s q ≢ idle → q < length config.processes
            made q ne =
                ⊎_elim (λ i. ltb-true q (length config.processes) i)
                (λ i. absurd (ne (unmade-idle p outcomes s q (ltb-false q (length config.processes) i))))
                (decide (ltb q (length config.processes)))

        over : some_is p work t 1 8 ≡ false → some_is p work t 2 8 ≡ false → all_over s ≡ true
        over e f = every-at config.processes (λ q l.
            idle-over (process_at config q).status (process_at config q).frames (process-sound q)
            (rank-zero q (act_of p outcomes s q) (not_stuck q)
            (λ i. some-missed 1 8 e q (omega (arith, l, few)) (ability-is q (omega (arith, l, few)) ∙ i))
            (λ i. some-missed 2 8 f q (omega (arith, l, few)) (ability-is q (omega (arith, l, few)) ∙ i))))

        second : some_is p work t 1 8 ≡ false → (b : Bool) → some_is p work t 2 8 ≡ b
            → ◌≡◌ {A = ℕ} (end_number (cond b NoneAble AllOver)) (cond (all_over s) 1 (cond (none_able p outcomes s) 2 0))
        second e true f = sym (ap₂ (λ (x y : Bool). cond {A = ℕ} x 1 (cond y 2 0)) (waits f) (none-able e))
        second e false f = sym (ap (λ (x : Bool). cond {A = ℕ} x 1 (cond (none_able p outcomes s) 2 0)) (over e f))

        first : (b : Bool) → some_is p work t 1 8 ≡ b
            → end_or_none (cond b std.None (std.Some (cond (some_is p work t 2 8) NoneAble AllOver))) ≡ ending p outcomes s
        first true e =
            let r = some-found 1 8 e in sym (able-goes p outcomes s r.0
            (able-is r.0 r.1 ∙ eq-eqb (ability_op p work t r.0) 1 r.2))
        first false e = second e (some_is p work t 2 8) refl
