-- An entry of any op beside one of the paper's condition, in the machine of a program table: if both move, they change
-- places with an equal final configuration, end and counts (`beside-harmless`).
use Prim.Native.Nat.{ℕ, ◌+◌, ◌<◌}
use mathlib.Core.Path.{◌≡◌, refl, sym, ◌∙◌, ap, subst}
use mathlib.Core.Logic.{◌≢◌, ⊎_elim}
use mathlib.Core.Bool.{Bool, true, false, cond, ◌&&◌, true≢false}
use mathlib.Core.List.{List, [], ◌∷◌, ◌++◌}
use mathlib.Core.Option.{Option, none, some, none-ne-some, some-injective}
use native.Mathlib.Omega.{arith}
use lib.ListN.{length}
use lib.Dec.{T, eqb}
use mir.Facts.{and_yes}
use borrow.Author.Tests.{eqb-true, eqb-false, eq-eqb}
use Rattle.lists.proofs.Tests.{decide, passed}
use Rattle.machine.specs.State.{Frame, State, process_at, is_over, start, start_with}
use Rattle.machine.specs.Act.{Offer, Act, faults, offers, act_of}
use Rattle.machine.specs.Entry.{Meeting, MachineOf, EffectOf, offered, meets_with, meeting_of, opposite_end, gone, judged, is_meeting, moves_in, able_in, able, effect_of, table_machine}
use Rattle.machine.specs.Run.{Result, run, run_from, after_effect, run_in}
use Rattle.machine.specs.Owner.{holder}
use Rattle.machine.proofs.Lines.{Dated, dated-next, effect-of}
use Rattle.machine.proofs.Invariant.{run-keeps}
use Rattle.machine.proofs.Ownership as own
use Rattle.machine.proofs.Partner.{partner-is}
use Rattle.exchange.specs.Exchange.{two_taken, moves_alone, moves_on, SameAnswer}
use Rattle.exchange.specs.Harmless.{may_exchange_beside}
use Rattle.exchange.proofs.Going.{uses-all, goes-beyond}
use Rattle.exchange.proofs.Commute.{moved, moved-acts, moved-held}
use Rattle.exchange.proofs.Alone.{Plain, table-near}
use Rattle.exchange.proofs.Beside.{Beside, beside-runs}
use Rattle.exchange.proofs.Exchange.{alongside-answer, two-parts, one-moves, moves-on, stays-running}

module _ (p outcomes : List ℕ) (k : ℕ) (s : State) (m n : ℕ) (ne : m ≢ n)
    (o : Plain p outcomes m (process_at s.config m))
    (dated : Dated k s.lines) (kept : own.Kept s.config s.lines) where
  abbrev M : MachineOf Frame
  M = table_machine p outcomes

  abbrev after-m : State
  after-m = moved M k s o.move

  kept-after : own.Kept after-m.config after-m.lines
  unfolding after_effect
  kept-after =
      subst (λ (e : EffectOf Frame). own.Kept e.config (s.lines ++ e.lines)) (o.move.effect k s refl)
      (own.entry_kept p outcomes k s m dated kept)

  -- where n moves, its partner is the holder of the opposite end, which is not m, and is the same after m's entry
  module _ (off : Offer) (act : act_of p outcomes s n ≡ offers off) (here : gone s n off ≡ false)
      (moves : able p outcomes s n ≡ true) where
    meets : is_meeting (meeting_of p outcomes s n off) ≡ true
    unfolding able_in judged moves_in
    meets =
        sym (ap (λ (a : Act). moves_in M s n (judged s n a)) act
        ∙ ap (λ (t : Bool). moves_in M s n (cond t (faults 33) (offers off))) here)
        ∙ moves

    cond-none : (t : Bool) → cond {A = Option Meeting} t none none ≡ none
    cond-none true = refl
    cond-none false = refl

    by-holder : (h : Option ℕ) → holder s.lines (opposite_end off) ≡ h
        → meeting_of p outcomes after-m n off ≡ meeting_of p outcomes s n off
    unfolding is_meeting meets_with
    by-holder none w =
        partner-is p outcomes after-m kept-after n off n
        (λ q v. absurd (none-ne-some q (sym w ∙ sym (moved-held M k s o.move (opposite_end off)) ∙ v)))
        ∙ ap (λ (t : Bool). cond t none (meets_with n off n (offered (act_of p outcomes after-m n)))) (eq-eqb n n refl)
        ∙ sym (ap (λ (t : Bool). cond t none (meets_with n off n (offered (act_of p outcomes s n)))) (eq-eqb n n refl))
        ∙ sym (partner-is p outcomes s kept n off n (λ q v. absurd (none-ne-some q (sym w ∙ v))))
    by-holder (some h) w =
        ⊎_elim (λ t. absurd (not-m (eqb-true h m t))) (λ f. another (eqb-false h m f)) (decide (eqb h m))
      where
        before : meeting_of p outcomes s n off ≡ cond (eqb h n) none (meets_with n off h (offered (act_of p outcomes s h)))
        before = partner-is p outcomes s kept n off h (λ q v. some-injective h q (sym w ∙ v))

        not-m : h ≡ m → ⊥
        not-m e =
            true≢false
            (sym meets
            ∙ ap is_meeting
            (before
            ∙ ap (λ (r : Option Offer). cond (eqb h n) none (meets_with n off h r))
            (ap (λ (i : ℕ). offered (act_of p outcomes s i)) e ∙ o.move.no-offer s refl)
            ∙ cond-none (eqb h n)))

        another : h ≢ m → meeting_of p outcomes after-m n off ≡ meeting_of p outcomes s n off
        another d =
            partner-is p outcomes after-m kept-after n off h
            (λ q v. some-injective h q (sym w ∙ sym (moved-held M k s o.move (opposite_end off)) ∙ v))
            ∙ ap (λ (a : Act). cond (eqb h n) none (meets_with n off h (offered a)))
            (moved-acts M (table-near p outcomes) k s o.move h d)
            ∙ sym before

  pub beside : is_over o.move.becomes ≡ false → able p outcomes s n ≡ true → Beside M k s m n
  beside stays moves = record {
    apart = ne;
    move = o.move;
    stays = stays;
    meets = λ off act here. by-holder off act here moves (holder s.lines (opposite_end off)) refl;
  }

-- the lines of a run are of the entries before
run-dated : (p outcomes : List ℕ) (room : ℕ) (schedule : List ℕ)
    → Dated (run p outcomes room schedule).entries (run p outcomes room schedule).state.lines
unfolding run_in start_with after_effect
run-dated p outcomes room schedule =
    run-keeps p outcomes room (λ k s. Dated k s.lines)
    (λ k s n h. dated-next k s.lines (effect_of p outcomes k s n).lines h (effect-of p outcomes k s n))
    (start p) 0 schedule tt

pub beside-harmless : (p outcomes : List ℕ) (room : ℕ) (xs : List ℕ) (m n : ℕ) (ys : List ℕ)
    → T (may_exchange_beside p outcomes room xs m n)
    → SameAnswer (run p outcomes room (xs ++ m ∷ n ∷ ys)) (run p outcomes room (xs ++ n ∷ m ∷ ys))
unfolding may_exchange_beside
beside-harmless p outcomes room xs m n ys t =
    let (ab, c) = and_yes (two_taken p outcomes room xs m n && moves_on p outcomes (length xs) s m) _ t in
    let (a, b) = and_yes (two_taken p outcomes room xs m n) _ ab in
    both (two-parts p outcomes room xs m n a) (moves-on p outcomes (length xs) s m b) (passed _ c)
  where
    s : State
    s = (run p outcomes room xs).state

    both : (m ≢ n) × ((run p outcomes room (xs ++ m ∷ n ∷ [])).entries ≡ length xs + 2)
        → T (moves_alone p outcomes s m) × (is_over (process_at (effect_of p outcomes (length xs) s m).config m) ≡ false)
        → able p outcomes s n ≡ true
        → SameAnswer (run p outcomes room (xs ++ m ∷ n ∷ ys)) (run p outcomes room (xs ++ n ∷ m ∷ ys))
    both (ne, used) (alone, stays) moves =
        alongside-answer
        (beside-runs (table_machine p outcomes) (table-near p outcomes) (length xs) s m n x room moves
        (omega (arith, used, ap (λ (r : Result). r.entries) (on (m ∷ n ∷ []))))
        ys _ _ (on (m ∷ n ∷ ys)) (on (n ∷ m ∷ ys)))
      where
        past : length xs < (run p outcomes room (xs ++ m ∷ n ∷ [])).entries
        past = omega (arith, used)

        on : (ws : List ℕ) → run p outcomes room (xs ++ ws) ≡ run_from p outcomes room s (length xs) ws
        on = goes-beyond (table_machine p outcomes) (table-near p outcomes) room xs (m ∷ n ∷ []) past

        o : Plain p outcomes m (process_at s.config m)
        o = one-moves p outcomes s m alone

        dated : Dated (length xs) s.lines
        dated =
            subst (λ (k : ℕ). Dated k s.lines)
            (uses-all (table_machine p outcomes) (table-near p outcomes) room xs (m ∷ n ∷ []) past)
            (run-dated p outcomes room xs)

        x : Beside (table_machine p outcomes) (length xs) s m n
        x =
            beside p outcomes (length xs) s m n ne o dated (own.run-kept p outcomes room xs)
            (stays-running p outcomes (length xs) s m o stays) moves
