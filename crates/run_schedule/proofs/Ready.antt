-- What stands before an entry of the run: trace and store hold the state's lines and configuration, and the run from
-- there is the rest of the whole run. What an entry in general does to it; Taking.antt and Bursting.antt go by kinds of
-- entries.
use Prim.Native.Nat.{ℕ, suc, ◌+◌, ◌*◌, ◌≤◌, ◌<◌}
use mathlib.Core.Path.{◌≡◌, refl, sym, ◌∙◌, ap, subst}
use mathlib.Core.Logic.{◌≢◌, ◌⊎◌, inl, inr, ⊎_elim}
use mathlib.Core.Bool.{Bool, true, false, cond, ◌&&◌, true≢false}
use mathlib.Core.List.{List, [], ◌++◌, append-nil}
use native.Mathlib.Omega.{arith}
use lib.ListN.{get_or, set, replicate, drop, length, length-append, get_or-replicate}
use lib.Seq.{get_or-set_other}
use lib.Dec.{eqb, leb, ltb}
use borrow.Author.Tests.{eqb-true, eqb-false, eq-eqb, ne_eqb, le-leb, lt-leb, leb-true, ltb-true}
use Rattle.lists.specs.Lists.{All}
use Rattle.lists.proofs.Tests.{decide, cond-each}
use Rattle.table.specs.Table.{arg_at}
use Rattle.table.proofs.Accepted.{Kept}
use Rattle.machine.specs.State.{Line, State, start_config, start_with}
use Rattle.machine.specs.Act.{Act}
use Rattle.machine.specs.Entry.{judged, Effect, nothing, effect_of, moves, able, able_in, applied_in, effect_in, moves_in}
use Rattle.machine.specs.Run.{fits, after_effect, ended, run_from, run}
use Rattle.machine.specs.Answer.{trace_words, trace_after}
use Rattle.machine.specs.Sound.{ConfigSound}
use Rattle.machine.proofs.Reachable.{Reachable}
use Rattle.machine.proofs.Unmade.{unmade-idle}
use Rattle.machine.proofs.Steps.{unable-nothing, after_nothing, state_at, ending, at_typed, at-kept, at-start, at_next, at_last, able-goes}
use Rattle.machine.proofs.Ownership as own
use Rattle.layout.specs.Layout.{encode}
use Rattle.layout.proofs.RoundTrip.{encode-length}
use Rattle.run_values.specs.ValuesCode.{went_on, AfterStep, after_step}
use Rattle.run_values.specs.declared.steps.StepResult.{StepResult}
use Rattle.run_values.specs.declared.steps.StepResult.TheVariants.{WentOn, NotRunning}
use Rattle.run_ops.specs.OpsCode.{step_op}
use Rattle.run_parts.specs.PartsCode.{part_of, with_part, on_part}
use Rattle.run_parts.proofs.Apart.{part_same}
use Rattle.run_parts.specs.ReadinessCode.{readiness_op}
use Rattle.run_holders.specs.HoldersCode.{nobody}
use Rattle.run_holders.proofs.Holding.{Holding, holding-none}
use Rattle.run_ability.specs.declared.pairing.Pairing.{Pairing}
use Rattle.run_ability.specs.EndingCode.{end_or_none, ability_op, ending_op}
use Rattle.run_ability.proofs.Able.{sound, able-is, ending-is}
use Rattle.run_ability.proofs.Idle.{still-unable, alone-able}
use Rattle.run_single.specs.declared.result.Count.{Count}
use Rattle.run_single.specs.declared.result.EntryResult.{EntryResult}
use Rattle.run_single.specs.declared.result.EntryResult.TheVariants.{Unable, Taken, Full}
use Rattle.run_single.specs.ResultCode.{AfterEntry, after_entry}
use Rattle.run_entry.specs.EntryCode.{offer_at, entry_op}
use Rattle.run_single.proofs.Here.{Here}
use Rattle.run_entry.proofs.Stepped.{Plain, Other, entry-law}
use Rattle.run_entry.proofs.Paired.{waiting_stays}
use Rattle.run_parts.specs.declared.readiness.Readiness.TheVariants.{Moves}
use Rattle.run_ability.specs.declared.pairing.Pairing.TheVariants.{Waits}
use Rattle.run_burst.specs.declared.knowledge.Knowledge.{Knowledge}
use Rattle.run_burst.specs.KnowledgeCode.{nothing_known, marked, is_idle, with_idle}
use Rattle.run_burst.specs.TurnCode.{named_entry_op}
use Rattle.run_schedule.proofs.Modest.{modest}

abbrev is-unable : EntryResult → Bool
is-unable Unable = true
is-unable (Taken lines used) = false
is-unable Full = false

-- what is known of the inputs
pub record Inputs (p schedule outcomes t0 rest : List ℕ) (room : ℕ) : Type 0 where
  pub kept : Kept p
  pub narrow : (i : ℕ) → arg_at p i < 65536
  pub bytes : All (λ o. o ≤ 2) outcomes
  pub short : length schedule ≤ 65535
  pub holds : 6 * room ≤ length t0

module _ {p schedule outcomes t0 rest : List ℕ} {room : ℕ} (given : Inputs p schedule outcomes t0 rest room) where
  abbrev pub at : ℕ → State
  at k = state_at p outcomes schedule k

  -- of the processes marked here it is true that they are not able to move
  abbrev pub Idle : List ℕ → List (List ℕ) → List Bool → Type 0
  Idle work t marks = (n : ℕ) → n < 8 → get_or marks n false ≡ true → ability_op p work t n ≢ 1

  pub record Ready (k : ℕ) (work trace : List ℕ) (t : List (List ℕ)) (lines used : ℕ) (known : Knowledge) : Type 0 where
    pub runs : run p outcomes room schedule ≡ run_from p outcomes room (at k) k (drop k schedule)
    pub inside : k ≤ length schedule
    pub store : work ≡ encode (at k).config ++ rest
    pub written : trace ≡ trace_after (at k).lines t0
    pub counted : lines ≡ length (at k).lines
    pub drawn : used ≡ (at k).used
    pub table : Holding t (at k).lines
    pub sure : known.some ≡ true → ending p outcomes (at k) ≡ 0
    pub idle : known.some ≡ true → Idle work t known.idle
    pub fit : length (at k).lines ≤ room
    pub few_lines : length (at k).lines ≤ 17 * k
    pub few_used : (at k).used ≤ k

  -- the run is over before entry k
  pub record AtEnd (k end : ℕ) (work trace : List ℕ) (lines used : ℕ) : Type 0 where
    pub ends : run p outcomes room schedule ≡ ended end k (at k)
    pub store : work ≡ encode (at k).config ++ rest
    pub written : trace ≡ trace_after (at k).lines t0
    pub counted : lines ≡ length (at k).lines
    pub drawn : used ≡ (at k).used

  -- the start

  pub ready-start : (work : List ℕ) → work ≡ encode (start_config p) ++ rest → Ready 0 work t0 nobody 0 0 nothing_known
  unfolding nothing_known state_at start_with trace_after trace_words
  ready-start work e = record {
    runs = at-start p outcomes room schedule;
    inside = omega arith;
    store = e;
    written = refl;
    counted = refl;
    drawn = refl;
    table = holding-none;
    sure = λ i. absurd (true≢false (sym i));
    idle = λ i. absurd (true≢false (sym i));
    fit = omega arith;
    few_lines = omega arith;
    few_used = omega arith;
  }

  module _ (k : ℕ) where
    pub reached : Reachable p outcomes (at k)
    reached =
        let (kinds, typed) = at_typed p outcomes schedule given.kept given.bytes k in
        record { kept = given.kept; narrow = given.narrow; bytes = given.bytes; kinds = kinds; typed = typed }

    pub state-sound : ConfigSound p (at k).config
    state-sound = sound reached rest

    pub owned : own.Kept (at k).config (at k).lines
    owned = at-kept p outcomes schedule k

    abbrev pub named : ℕ
    named = get_or schedule k 0

    abbrev pub effect : Effect
    effect = effect_of p outcomes k (at k) named

    next : at (suc k) ≡ after_effect (at k) effect
    unfolding state_at
    next = refl

    small-effect : (effect.used ≤ 1) × (length effect.lines ≤ 17)
    small-effect = modest reached k named

    -- one entry taken, whatever it did
    pub ready-next : {work trace : List ℕ} {t : List (List ℕ)} {lines used : ℕ} {known : Knowledge}
        → Ready k work trace t lines used known → k < length schedule
        → ending p outcomes (at k) ≡ 0 → fits room (at k) effect ≡ true
        → (work' trace' : List ℕ) (t' : List (List ℕ)) (lines' used' : ℕ) (known' : Knowledge)
        → work' ≡ encode effect.config ++ rest → trace' ≡ trace_after ((at k).lines ++ effect.lines) t0
        → lines' ≡ length ((at k).lines ++ effect.lines)
        → used' ≡ (at k).used + effect.used → Holding t' ((at k).lines ++ effect.lines)
        → (known'.some ≡ true → ending p outcomes (at (suc k)) ≡ 0)
        → (known'.some ≡ true → Idle work' t' known'.idle) → Ready (suc k) work' trace' t' lines' used' known'
    unfolding after_effect fits state_at
    ready-next r l e f work' trace' t' lines' used' known' w tr ln us ho kn id = record {
      runs = r.runs ∙ at_next p outcomes room schedule k l e f;
      inside = l;
      store = w;
      written = tr;
      counted = ln;
      drawn = us;
      table = ho;
      sure = kn;
      idle = id;
      fit =
          omega (
            arith,
            leb-true (length (at k).lines + length effect.lines) room f,
            length-append (at k).lines
                effect.lines,
          );
      few_lines = omega (arith, r.few_lines, small-effect.1, length-append (at k).lines effect.lines);
      few_used = omega (arith, r.few_used, small-effect.0);
    }

    -- a plain step

    pub ready-plain : {work trace : List ℕ} {t : List (List ℕ)} {lines used : ℕ} {known : Knowledge}
        → Ready k work trace t lines used known → k < length schedule
        → able p outcomes (at k) named ≡ true → effect.lines ≡ [] → effect.used ≡ 0
        → (work' : List ℕ) → work' ≡ encode effect.config ++ rest
        → (known' : Knowledge) → (known'.some ≡ true → ending p outcomes (at (suc k)) ≡ 0)
        → (known'.some ≡ true → Idle work' t known'.idle)
        → Ready (suc k) work' trace t lines used known'
    unfolding fits
    ready-plain {work} {trace} {t} {lines} {used} r l a ls us work' w known' kn id =
        ready-next r l (able-goes p outcomes (at k) named a)
        (ap (λ (x : List Line). leb (length (at k).lines + length x) room) ls
        ∙ le-leb (length (at k).lines + 0) room (omega (arith, r.fit)))
        work' trace t lines used known' w
        (r.written ∙ ap (λ (x : List Line). trace_after x t0) same)
        (r.counted ∙ ap length same)
        (r.drawn ∙ sym (ap (λ (u : ℕ). (at k).used + u) us ∙ none_more))
        (subst (Holding t) same r.table)
        kn
        id
      where
        same : (at k).lines ≡ (at k).lines ++ effect.lines
        same = sym (ap (λ (x : List Line). (at k).lines ++ x) ls ∙ append-nil (at k).lines)

        none_more : (at k).used + 0 ≡ (at k).used
        none_more = omega arith

    -- an idle entry, where the run goes on

    idle-same : able p outcomes (at k) named ≡ false → effect ≡ nothing (at k)
    idle-same a = unable-nothing p outcomes k (at k) named a

    pub ready-idle : {work trace : List ℕ} {t : List (List ℕ)} {lines used : ℕ} {known : Knowledge}
        → Ready k work trace t lines used known → k < length schedule
        → able p outcomes (at k) named ≡ false → ending p outcomes (at k) ≡ 0
        → (known' : Knowledge) → (known'.some ≡ true → Idle work t known'.idle)
        → Ready (suc k) work trace t lines used known'
    unfolding fits
    ready-idle {work} {trace} {t} {lines} {used} r l a e known' id =
        ready-next r l e
        (ap (λ (x : Effect). leb (length (at k).lines + length x.lines) room) (idle-same a)
        ∙ le-leb (length (at k).lines + 0) room (omega (arith, r.fit)))
        work trace t lines used known'
        (r.store ∙ ap (λ (x : Effect). encode x.config ++ rest) (sym (idle-same a)))
        (r.written ∙ ap (λ (x : List Line). trace_after x t0) same)
        (r.counted ∙ ap length same)
        (r.drawn ∙ sym (ap (λ (x : Effect). (at k).used + x.used) (idle-same a) ∙ none_more))
        (subst (Holding t) same r.table)
        (λ i. ap (ending p outcomes) (next ∙ ap (after_effect (at k)) (idle-same a) ∙ after_nothing (at k)) ∙ e)
        id
      where
        same : (at k).lines ≡ (at k).lines ++ effect.lines
        same = sym (ap (λ (x : Effect). (at k).lines ++ x.lines) (idle-same a) ∙ append-nil (at k).lines)

        none_more : (at k).used + 0 ≡ (at k).used
        none_more = omega arith

    -- what the entry comes to, by whether the named process is able to move and whether the lines fit

    abbrev pub trace₀ : List ℕ
    trace₀ = trace_after (at k).lines t0

    abbrev pub work₀ : List ℕ
    work₀ = encode (at k).config ++ rest

    -- entry k stands to be taken, with these words
    abbrev pub Stands : List (List ℕ) → Knowledge → Type 0
    Stands t known = Ready k work₀ trace₀ t (length (at k).lines) (at k).used known

    abbrev pub count₀ : Count
    count₀ = record { entry = k; lines = length (at k).lines; used = (at k).used }

    abbrev pub taken : AfterEntry
    taken =
        after_entry (Taken (length ((at k).lines ++ effect.lines)) ((at k).used + effect.used))
        (trace_after ((at k).lines ++ effect.lines) t0)
        (encode effect.config ++ rest)

    abbrev pub comes : Bool → Bool → AfterEntry
    comes a f =
        cond a (cond f taken (after_entry Full trace₀ work₀)) (after_entry Unable trace₀ work₀)

    abbrev pub comes_to : AfterEntry
    comes_to = comes (able p outcomes (at k) named) (fits room (at k) effect)

    -- the step of the named process: plain, or the rest of the entry does all
    pub record Stepped (d : AfterStep) : Type 0 where
      pub result : d.result ≡ WentOn
      pub can : able p outcomes (at k) named ≡ true
      pub words : d.words ≡ encode effect.config ++ rest
      pub lines : effect.lines ≡ []
      pub used : effect.used ≡ 0

    pub record Stopped (t : List (List ℕ)) (d : AfterStep) : Type 0 where
      pub result : went_on d.result ≡ false
      pub words : d.words ≡ work₀
      pub entered :
          named_entry_op p outcomes trace₀ work₀ room count₀ named d.result (offer_at p work₀ t named d.result)
          ≡ comes_to

    pub unmade : 8 ≤ named → able p outcomes (at k) named ≡ false
    unfolding able_in moves_in judged
    unmade h =
        ap (λ (a : Act). moves p outcomes (at k) named (judged (at k) named a))
        (unmade-idle p outcomes (at k) named (omega (arith, h, state-sound.process_count)))

    module _ {work trace : List ℕ} {t : List (List ℕ)} {lines used : ℕ} {known : Knowledge}
        (r : Ready k work trace t lines used known) where
      -- no process can have that number
      pub far-law : 8 ≤ named → Stopped t (after_step NotRunning work₀)
      unfolding named_entry_op went_on
      far-law h = record {
        result = refl;
        words = refl;
        entered =
            ap
            (λ (b : Bool). cond b (after_entry Unable trace₀ work₀)
            (entry_op p outcomes trace₀ work₀ room count₀ named NotRunning (offer_at p work₀ t named NotRunning)))
            (le-leb 8 named h)
            ∙ sym (ap (λ (b : Bool). comes b (fits room (at k) effect)) (unmade h));
      }

      here : Here p outcomes (at k) t0 room
      here =
          record { reached = reached; holds = given.holds; small = omega (arith, r.few_used, r.inside, given.short) }

      abbrev step₀ : AfterStep
      step₀ = step_op p (part_of work₀ named)

      pub near-law : named < 8 → Stepped (on_part work₀ named step₀) ⊎ Stopped t (on_part work₀ named step₀)
      unfolding on_part named_entry_op able_in moves_in effect_in applied_in judged
      near-law h =
          ⊎_elim
          (λ (x : Plain here rest k named owned t r.table h step₀).
          inl (record { result = x.result; can = x.can; words = x.words; lines = x.lines; used = x.used }))
          (λ (x : Other here rest k named owned t r.table h step₀).
          inr (record {
            result = x.result;
            words = ap (with_part work₀ named) x.words ∙ part_same work₀ named;
            entered =
                ap
                (λ (b : Bool). cond b (after_entry Unable trace₀ work₀)
                (entry_op p outcomes trace₀ work₀ room count₀ named step₀.result
                (offer_at p work₀ t named step₀.result)))
                (lt-leb 8 named h)
                ∙ x.entry;
          }))
          (entry-law here rest k named owned t r.table h)

    -- the same words and counts, by whatever names
    pub ready-as :
        {work work' trace trace' : List ℕ} {t : List (List ℕ)} {lines lines' used used' : ℕ} {known : Knowledge}
        → Ready k work trace t lines used known
        → work' ≡ work → trace' ≡ trace → lines' ≡ lines → used' ≡ used → Ready k work' trace' t lines' used' known
    ready-as {t = t} {known = known} r w x n u = record {
      runs = r.runs;
      inside = r.inside;
      store = w ∙ r.store;
      written = x ∙ r.written;
      counted = n ∙ r.counted;
      drawn = u ∙ r.drawn;
      table = r.table;
      sure = r.sure;
      idle = λ i. subst (λ (v : List ℕ). Idle v t known.idle) (sym w) (r.idle i);
      fit = r.fit;
      few_lines = r.few_lines;
      few_used = r.few_used;
    }

    pub ready-there : {work trace : List ℕ} {t : List (List ℕ)} {lines used : ℕ} {known : Knowledge}
        → Ready k work trace t lines used known
        → Stands t known
    ready-there r = ready-as r (sym r.store) (sym r.written) (sym r.counted) (sym r.drawn)

    pub entry-as : {work trace : List ℕ} {t : List (List ℕ)} {lines used : ℕ} {known : Knowledge}
        → Ready k work trace t lines used known → (step : StepResult) (m : Pairing)
        → named_entry_op p outcomes trace₀ work₀ room count₀ named step m ≡ comes_to
        → named_entry_op p outcomes trace work room (record { entry = k; lines = lines; used = used }) named step m
        ≡ comes_to
    entry-as r step m e =
        (λ i. named_entry_op p outcomes (r.written i) (r.store i) room
        (record { entry = k; lines = r.counted i; used = r.drawn i }) named step m) ∙ e

    -- an entry whose offer comes to waiting is idle
    pub idle-unable : (t : List (List ℕ)) (step : StepResult) → offer_at p work₀ t named step ≡ Waits
        → named_entry_op p outcomes trace₀ work₀ room count₀ named step (offer_at p work₀ t named step) ≡ comes_to
        → able p outcomes (at k) named ≡ false
    unfolding named_entry_op
    idle-unable t step w e = go (able p outcomes (at k) named) (fits room (at k) effect) (sym (stays (leb 8 named)) ∙ e)
      where
        stays : (b : Bool)
            → cond b (after_entry Unable trace₀ work₀)
            (entry_op p outcomes trace₀ work₀ room count₀ named step (offer_at p work₀ t named step))
            ≡ after_entry Unable trace₀ work₀
        stays true = refl
        stays false = waiting_stays p outcomes trace₀ work₀ room t count₀ named step w

        go : (a f : Bool) → after_entry Unable trace₀ work₀ ≡ comes a f → a ≡ false
        go true true i = absurd (true≢false (ap (λ (c : AfterEntry). is-unable c.result) i))
        go true false i = absurd (true≢false (ap (λ (c : AfterEntry). is-unable c.result) i))
        go false f i = refl

    -- who is able to move, read off the store

    module _ {t : List (List ℕ)} (holding : Holding t (at k).lines) where
      ability : (n : ℕ) → n < 8 → able p outcomes (at k) n ≡ eqb (ability_op p work₀ t n) 1
      ability = able-is reached rest owned t holding

      pub not-able : (n : ℕ) → n < 8 → ability_op p work₀ t n ≢ 1 → able p outcomes (at k) n ≡ false
      not-able n h a = ability n h ∙ ne_eqb (ability_op p work₀ t n) 1 a

      pub unable : (n : ℕ) → n < 8 → able p outcomes (at k) n ≡ false → ability_op p work₀ t n ≢ 1
      unable n h a = eqb-false (ability_op p work₀ t n) 1 (sym (ability n h) ∙ a)

      -- where a process is able to move, the run goes on
      goes_on : (n : ℕ) → n < 8 → ability_op p work₀ t n ≡ 1 → ending p outcomes (at k) ≡ 0
      goes_on n h a = able-goes p outcomes (at k) n (ability n h ∙ eq-eqb (ability_op p work₀ t n) 1 a)

    -- a process known not to be able to move is not
    pub known-idle : {t : List (List ℕ)} {known : Knowledge} → Stands t known → named < 8
        → is_idle known named ≡ true → (known.some ≡ true) × (able p outcomes (at k) named ≡ false)
    unfolding is_idle
    known-idle {t} {known} r l e = go known.some refl e
      where
        go : (b : Bool) → known.some ≡ b → (b && get_or known.idle named false) ≡ true
            → (b ≡ true) × (able p outcomes (at k) named ≡ false)
        go true i h = (refl, not-able r.table named l (r.idle i named l h))
        go false i h = absurd (true≢false (sym h))

    -- one more process that is not able to move
    pub idle-more : {t : List (List ℕ)} {known : Knowledge} → Stands t known
        → able p outcomes (at k) named ≡ false → Idle work₀ t (with_idle known named).idle
    unfolding with_idle marked
    idle-more {t} {known} r a = cond-each (Idle work₀ t) (ltb named 8) (λ h. more (ltb-true named 8 h)) (λ h. old)
      where
        base : List Bool
        base = cond known.some known.idle (replicate 8 false)

        old : Idle work₀ t base
        old =
            cond-each (Idle work₀ t) known.some r.idle
            (λ i n h e. absurd (true≢false (sym e ∙ get_or-replicate 8 n false false h)))

        more : named < 8 → Idle work₀ t (set base named true)
        more l n h e =
            ⊎_elim
            (λ i. subst (λ (m : ℕ). ability_op p work₀ t m ≢ 1) (sym (eqb-true n named i)) (unable r.table named l a))
            (λ i. old n h (sym (get_or-set_other base named n true false (eqb-false n named i)) ∙ e))
            (decide (eqb n named))

  module _ (k : ℕ) where
    pub long : 8192 ≤ length (work₀ k)
    long = omega (arith, length-append (encode (at k).config) rest, encode-length p (at k).config (state-sound k))

    -- an entry leaves as many words as there were
    pub same-long : length (encode (effect k).config ++ rest) ≡ length (work₀ k)
    unfolding state_at after_effect
    same-long =
        length-append (encode (at (suc k)).config) rest
        ∙ ap (λ (i : ℕ). i + length rest)
        (encode-length p (at (suc k)).config (state-sound (suc k))
        ∙ sym (encode-length p (at k).config (state-sound k)))
        ∙ sym (length-append (encode (at k).config) rest)

    -- where the named process moved alone and comes to stand at no offer, the idle processes stay so and it can go on

    module _ {t : List (List ℕ)} {known : Knowledge} (r : Stands k t known) (low : named k < 8)
        (work' : List ℕ) (others : (q : ℕ) → q < 8 → q ≢ named k → part_of work' q ≡ part_of (work₀ k) q)
        (by_itself : readiness_op p (part_of work' (named k)) ≡ Moves) where
      pub moved-idle : known.some ≡ true → get_or known.idle (named k) false ≡ false → Idle work' t known.idle
      moved-idle i free n h e =
          still-unable p (work₀ k) work' t n (others n h ne)
          (λ q l. ⊎_elim (λ j. inr
          (subst (λ (m : ℕ). readiness_op p (part_of work' m) ≡ Moves) (sym (eqb-true q (named k) j)) by_itself))
          (λ j. inl (others q l (eqb-false q (named k) j)))
          (decide (eqb q (named k))))
          (r.idle i n h e)
        where
          ne : n ≢ named k
          ne j = true≢false (sym e ∙ ap (λ (m : ℕ). get_or known.idle m false) j ∙ free)

      pub moved-goes : {t' : List (List ℕ)} → Holding t' ((at k).lines ++ (effect k).lines)
          → work' ≡ encode (effect k).config ++ rest → ending p outcomes (at (suc k)) ≡ 0
      unfolding state_at after_effect
      moved-goes {t'} holding e =
          goes_on (suc k) holding (named k) low
          (ap (λ (w : List ℕ). ability_op p w t' (named k)) (sym e) ∙ alone-able p work' t' (named k) by_itself)

  -- the schedule is used up

  pub ready-last : (k : ℕ) {work trace : List ℕ} {t : List (List ℕ)} {lines used : ℕ} {known : Knowledge}
      → Ready k work trace t lines used known → length schedule ≤ k
      → AtEnd k (end_or_none (ending_op p work t 8)) work trace lines used
  ready-last k {work} {trace} {t} r h = record {
    ends =
        r.runs ∙ at_last p outcomes room schedule k h
        ∙ ap (λ (e : ℕ). ended e k (at k))
        (sym (ap (λ (w : List ℕ). end_or_none (ending_op p w t 8)) r.store ∙ ending-is (reached k) rest (owned k) t r.table));
    store = r.store;
    written = r.written;
    counted = r.counted;
    drawn = r.drawn;
  }
