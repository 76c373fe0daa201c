-- `replay` comes to the same state as the pass.
use mathlib.Core.Path.{◌≡◌, refl, sym, ◌∙◌, subst}
use Prim.Native.Nat.{ℕ, ◌-◌, ◌≤◌, ◌<◌}
use native.Mathlib.Omega.{arith}
use lib.ListN.{length, length-set}
use Rattle.text_types.proofs.Answers.{passed-next}
use Rattle.text_window.specs.WindowCode.{slot_of, put, Window}
use Rattle.text_pass.proofs.StandLaws.{counts-kept, brackets-kept, returning-first, returned, not-ended, returning-on}
use Rattle.text_pass.proofs.walk.replay.Goals as goal

pub loop-at-init : goal.loop-at-init
loop-at-init c =
    let g = c.args in
    let kept : length (put g.low 0 0 g.counts.now) ≡ length g.counts.now =
    length-set g.counts.now (slot_of (length g.counts.now) g.low 0) 0 in
    rw c.put_count.ensures (
      refl,
      c.requires ∙ sym kept,
      (λ scopes o le q s e.
          returning-first scopes g.text.now g.from q s _ g.low g.counts.now g.brackets.now
          (sym kept)
          (c.requires ∙ sym kept)),
    )

pub shape_of-counts-then-t-eq-END : goal.shape_of-counts-then-t-eq-END
shape_of-counts-then-t-eq-END c = c.loop-at.invariant.0 ∙ c.put_count.auto.counts

pub shape_of-brackets-then-t-eq-END : goal.shape_of-brackets-then-t-eq-END
shape_of-brackets-then-t-eq-END c = c.loop-at.invariant.1 ∙ c.put_count.auto.counts ∙ sym c.requires

pub returns-then-t-eq-END : goal.returns-then-t-eq-END
returns-then-t-eq-END c =
    let g = c.args in
    let l = c.loop-at in
    λ scopes o le q s e.
    absurd
    (not-ended scopes g.text.now g.from q l.at l.phase _ g.low l.depth l.counts l.brackets
    (l.invariant.2 scopes o le q s e)
    (subst (λ (m : ℕ). l.at < m) (sym e) c.loop-at-test.true) _ c.next_token-t.ensures
    c.if-t-eq-END.true)

pub loop-at-smaller : goal.loop-at-smaller
loop-at-smaller c =
    let g = c.args in
    let l = c.loop-at in
    let token = c.next_token-t in
    let p = passed-next g.text.now l.at _ token.ensures c.if-t-eq-END.false in
    let further : l.at < token.result.end = p.onward in omega arith

pub loop-at-preserved : goal.loop-at-preserved
loop-at-preserved c =
    let g = c.args in
    let l = c.loop-at in
    let token = c.next_token-t in
    let effect = c.effect_at-e in
    rw (
      c.note_counts.ensures,
      c.note_brackets.ensures,
      c.depth_after-depth.ensures,
    ) (
      counts-kept g.low l.depth effect.result l.counts ∙ l.invariant.0,
      brackets-kept g.low l.depth effect.result l.brackets ∙ l.invariant.1,
      (λ scopes o le q s e.
          returning-on scopes g.text.now g.from q l.at l.phase _ g.low l.depth l.counts
          l.brackets
          (l.invariant.2 scopes o le q s e)
          (subst (λ (m : ℕ). l.at < m) (sym e) c.loop-at-test.true) _ token.ensures effect.result
          (effect.ensures scopes o le token.ensures.kind) c.well_formed.0.0 c.phase_after-phase.result
          (c.phase_after-phase.ensures g.text.now)),
    )

pub shape_of-counts : goal.shape_of-counts
shape_of-counts c = c.loop-at.invariant.0 ∙ c.put_count.auto.counts

pub shape_of-brackets : goal.shape_of-brackets
shape_of-brackets c = c.loop-at.invariant.1 ∙ c.put_count.auto.counts ∙ sym c.requires

pub returns : goal.returns
returns c =
    let g = c.args in
    let l = c.loop-at in
    λ scopes o le q s e.
    subst (λ (m : ℕ). Window m g.low (length q.levels) l.counts l.brackets q.count q.levels)
    c.put_count.auto.counts
    (returned scopes g.text.now g.from q l.at l.phase _ g.low l.depth l.counts l.brackets
    (l.invariant.2 scopes o le q s e)
    (subst (λ (m : ℕ). m ≤ l.at) (sym e) c.loop-at-test.false))
