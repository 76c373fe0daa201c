-- How a run of any machine goes on: past an entry whose process is able to move, and from the entries xs to those after
-- them.
use Prim.Native.Nat.{ℕ, zero, suc, ◌+◌, ◌≤◌, ◌<◌}
use mathlib.Core.Path.{◌≡◌, refl, sym, ◌∙◌, ap}
use mathlib.Core.Logic.{⊎_elim}
use mathlib.Core.Bool.{Bool, true, false, cond, not, ◌&&◌, true≢false}
use mathlib.Core.List.{List, [], ◌∷◌, ◌++◌}
use native.Mathlib.Omega.{arith}
use lib.ListN.{get_or, length}
use lib.Dec.{eqb}
use borrow.Author.Tests.{eqb-true, eq-eqb}
use Rattle.lists.specs.Lists.{any, every, below}
use Rattle.lists.proofs.Tests.{decide, passed, passes, cond_both}
use Rattle.lists.proofs.First.{any_below}
use Rattle.machine.specs.State.{ProcessOf, StateOf, process_at, is_over, unmade, start_with}
use Rattle.machine.specs.Act.{ActOf}
use Rattle.machine.specs.Entry.{MachineOf, judged, effect_in, moves_in, able_in}
use Rattle.machine.specs.Run.{ResultOf, all_over, none_able_in, fits, after_effect, ended, run_from_in, run_in}
use Rattle.exchange.proofs.Alike.{Near}

and-false : (b : Bool) → (b && false) ≡ false
and-false true = refl
and-false false = refl

module _ {F : Type 0} where
  some-running : (prs : List (ProcessOf F)) (n : ℕ) → is_over (get_or prs n unmade) ≡ false → every is_over prs ≡ false
  some-running [] n e = absurd (true≢false e)
  some-running (pr ∷ prs) zero e = ap (λ (b : Bool). b && every is_over prs) e
  some-running (pr ∷ prs) (suc n) e = ap (λ (b : Bool). is_over pr && b) (some-running prs n e) ∙ and-false (is_over pr)

  running-made : (prs : List (ProcessOf F)) (n : ℕ) → is_over (get_or prs n unmade) ≡ false → n < length prs
  running-made [] n e = absurd (true≢false e)
  running-made (pr ∷ prs) zero e = omega arith
  running-made (pr ∷ prs) (suc n) e = omega (arith, running-made prs n e)

module _ {F : Type 0} (M : MachineOf F) (near : Near M) where
  -- a process that is able to move runs, and is made
  pub able-running : (s : StateOf F) (n : ℕ) → able_in M s n ≡ true → is_over (process_at s.config n) ≡ false
  unfolding able_in moves_in judged
  able-running s n e =
      ⊎_elim (λ t.
      absurd (true≢false (sym e ∙ ap (λ (act : ActOf F). moves_in M s n (judged s n act)) (near.over s n t)))) (λ f. f)
      (decide (is_over (process_at s.config n)))

  pub able-made : (s : StateOf F) (n : ℕ) → able_in M s n ≡ true → n < length s.config.processes
  unfolding process_at
  able-made s n e = running-made s.config.processes n (able-running s n e)

  -- so the run has not ended
  pub goes_on : (room : ℕ) (s : StateOf F) (k n : ℕ) (rest : List ℕ) → able_in M s n ≡ true
      → run_from_in M room s k (n ∷ rest)
      ≡ cond (fits room s (effect_in M k s n)) (run_from_in M room (after_effect s (effect_in M k s n)) (suc k) rest)
      (ended 3 k s)
  unfolding run_from_in all_over none_able_in process_at
  goes_on room s k n rest e =
      λ i. cond (not-over i) (ended 1 k s) (cond (not_stuck i) (ended 2 k s)
      (cond (fits room s (effect_in M k s n)) (run_from_in M room (after_effect s (effect_in M k s n)) (suc k) rest)
      (ended 3 k s)))
    where
      not-over : all_over s ≡ false
      not-over = some-running s.config.processes n (able-running s n e)

      not_stuck : none_able_in M s ≡ false
      not_stuck =
          ap not {x = any (able_in M s) (below (length s.config.processes))} {y = true}
          (passed (any (able_in M s) (below (length s.config.processes)))
          (any_below (able_in M s) (length s.config.processes) n (able-made s n e) (passes e)))

  -- an entry that is taken fits
  pub taken-fit : (room : ℕ) (s : StateOf F) (k n : ℕ) (rest : List ℕ) → able_in M s n ≡ true
      → k < (run_from_in M room s k (n ∷ rest)).entries
      → fits room s (effect_in M k s n) ≡ true
  taken-fit room s k n rest e h = ⊎_elim (λ t. t) (λ f. absurd (unfit f)) (decide (fits room s (effect_in M k s n)))
    where
      unfit : fits room s (effect_in M k s n) ≡ false → ⊥
      unfit f =
          let stays : run_from_in M room s k (n ∷ rest) ≡ ended 3 k s =
          goes_on room s k n rest e
          ∙ ap (λ (b : Bool). cond b (run_from_in M room (after_effect s (effect_in M k s n)) (suc k) rest) (ended 3 k s)) f
          in
          omega (arith, h, ap (λ (r : ResultOf F). r.entries) stays)

  module _ (room : ℕ) (zs : List ℕ) where
    -- what the run comes to with zs after the entries by which it came to r
    abbrev on : ResultOf F → ResultOf F
    on r = cond (eqb r.end 0) (run_from_in M room r.state r.entries zs) r

    -- the ends are asked again before zs
    asked-again : (s : StateOf F) (k : ℕ) → run_from_in M room s k zs
        ≡ cond (all_over s) (ended 1 k s) (cond (none_able_in M s) (ended 2 k s) (run_from_in M room s k zs))
    unfolding run_from_in
    asked-again s k = by zs
      where
        twice : (a b : Bool) (x : ResultOf F)
            → cond a (ended 1 k s) (cond b (ended 2 k s) x)
            ≡ cond a (ended 1 k s) (cond b (ended 2 k s) (cond a (ended 1 k s) (cond b (ended 2 k s) x)))
        twice true b x = refl
        twice false true x = refl
        twice false false x = refl

        by : (ws : List ℕ) → run_from_in M room s k ws
            ≡ cond (all_over s) (ended 1 k s) (cond (none_able_in M s) (ended 2 k s) (run_from_in M room s k ws))
        by [] = twice (all_over s) (none_able_in M s) (ended 0 k s)
        by (n ∷ ws) =
            twice (all_over s) (none_able_in M s)
            (cond (fits room s (effect_in M k s n)) (run_from_in M room (after_effect s (effect_in M k s n)) (suc k) ws)
            (ended 3 k s))

    last_on : (s : StateOf F) (k : ℕ) (a b : Bool)
        → run_from_in M room s k zs ≡ cond a (ended 1 k s) (cond b (ended 2 k s) (run_from_in M room s k zs))
        → run_from_in M room s k zs ≡ on (cond a (ended 1 k s) (cond b (ended 2 k s) (ended 0 k s)))
    last_on s k true b e = e
    last_on s k false true e = e
    last_on s k false false e = refl

    next-on : (s : StateOf F) (k : ℕ) (a b c : Bool) (x x' : ResultOf F) → x ≡ on x'
        → cond a (ended 1 k s) (cond b (ended 2 k s) (cond c x (ended 3 k s)))
        ≡ on (cond a (ended 1 k s) (cond b (ended 2 k s) (cond c x' (ended 3 k s))))
    next-on s k true b c x x' e = refl
    next-on s k false true c x x' e = refl
    next-on s k false false true x x' e = e
    next-on s k false false false x x' e = refl

    run-append : (xs : List ℕ) (s : StateOf F) (k : ℕ) → run_from_in M room s k (xs ++ zs) ≡ on (run_from_in M room s k xs)
    unfolding run_from_in
    run-append [] s k = last_on s k (all_over s) (none_able_in M s) (asked-again s k)
    run-append (n ∷ xs) s k =
        next-on s k (all_over s) (none_able_in M s) (fits room s (effect_in M k s n)) _ _
        (run-append xs (after_effect s (effect_in M k s n)) (suc k))

  -- the entries used: at most all, and all where the schedule is used up
  entries-most : (room : ℕ) (xs : List ℕ) (s : StateOf F) (k : ℕ) → (run_from_in M room s k xs).entries ≤ k + length xs
  unfolding run_from_in
  entries-most room [] s k =
      cond_both (λ (r : ResultOf F). r.entries ≤ k + 0) (all_over s) (omega arith)
      (cond_both (λ (r : ResultOf F). r.entries ≤ k + 0) (none_able_in M s) (omega arith) (omega arith))
  entries-most room (n ∷ xs) s k =
      let rest = entries-most room xs (after_effect s (effect_in M k s n)) (suc k) in
      cond_both (λ (r : ResultOf F). r.entries ≤ k + suc (length xs)) (all_over s) (omega arith)
      (cond_both (λ (r : ResultOf F). r.entries ≤ k + suc (length xs)) (none_able_in M s) (omega arith)
      (cond_both (λ (r : ResultOf F). r.entries ≤ k + suc (length xs)) (fits room s (effect_in M k s n))
      (omega (arith, rest)) (omega arith)))

  entries-all : (room : ℕ) (xs : List ℕ) (s : StateOf F) (k : ℕ) → (run_from_in M room s k xs).end ≡ 0
      → (run_from_in M room s k xs).entries ≡ k + length xs
  unfolding run_from_in
  entries-all room [] s k =
      cond_both (λ (r : ResultOf F). r.end ≡ 0 → r.entries ≡ k + 0) (all_over s) (λ e. absurd (omega (arith, e)))
      (cond_both (λ (r : ResultOf F). r.end ≡ 0 → r.entries ≡ k + 0) (none_able_in M s) (λ e. absurd (omega (arith, e)))
      (λ e. omega arith))
  entries-all room (n ∷ xs) s k =
      let rest = entries-all room xs (after_effect s (effect_in M k s n)) (suc k) in
      cond_both (λ (r : ResultOf F). r.end ≡ 0 → r.entries ≡ k + suc (length xs)) (all_over s)
      (λ e. absurd (omega (arith, e)))
      (cond_both (λ (r : ResultOf F). r.end ≡ 0 → r.entries ≡ k + suc (length xs)) (none_able_in M s)
      (λ e. absurd (omega (arith, e)))
      (cond_both (λ (r : ResultOf F). r.end ≡ 0 → r.entries ≡ k + suc (length xs)) (fits room s (effect_in M k s n))
      (λ e. omega (arith, rest e)) (λ e. absurd (omega (arith, e)))))

  -- where the run on xs and zs comes beyond xs, the run on xs uses all of xs, and goes on after it

  module _ (room : ℕ) (xs zs : List ℕ) (h : length xs < (run_in M room (xs ++ zs)).entries) where
    used-up : (run_in M room xs).end ≡ 0
    unfolding run_in
    used-up = ⊎_elim (eqb-true (run_in M room xs).end 0) (λ f. absurd (over f)) (decide (eqb (run_in M room xs).end 0))
      where
        over : eqb (run_in M room xs).end 0 ≡ false → ⊥
        over f =
            let same : (run_in M room (xs ++ zs)).entries ≡ (run_in M room xs).entries =
            ap (λ (r : ResultOf F). r.entries) (run-append room zs xs (start_with (M.starts 0 [])) 0)
            ∙ ap (λ (b : Bool). (cond b (run_from_in M room (run_in M room xs).state (run_in M room xs).entries zs)
            (run_in M room xs)).entries) f in
            omega (arith, h, same, entries-most room xs (start_with (M.starts 0 [])) 0)

    pub uses-all : (run_in M room xs).entries ≡ length xs
    unfolding run_in
    uses-all = omega (arith, entries-all room xs (start_with (M.starts 0 [])) 0 used-up)

    pub goes-beyond : (ws : List ℕ) → run_in M room (xs ++ ws) ≡ run_from_in M room (run_in M room xs).state (length xs) ws
    unfolding run_in
    goes-beyond ws =
        run-append room ws xs (start_with (M.starts 0 [])) 0
        ∙ ap (λ (b : Bool). cond b (run_from_in M room (run_in M room xs).state (run_in M room xs).entries ws)
        (run_in M room xs)) (eq-eqb (run_in M room xs).end 0 used-up)
        ∙ ap (λ (k : ℕ). run_from_in M room (run_in M room xs).state k ws) uses-all
