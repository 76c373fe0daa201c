-- `walk`: at each token the pass stands where the pass over the tokens does.
use mathlib.Core.Path.{◌≡◌, refl, sym, ap, ◌∙◌, subst}
use Prim.Native.Nat.{ℕ, suc, ◌-◌, ◌≤◌, ◌<◌}
use native.Mathlib.Omega.{arith}
use mathlib.Core.Bool.{Bool, ◌||◌}
use borrow.Author.Tests.{not-true, not-false, eqb-false}
use lib.Dec.{eqb}
use lib.ListN.{length, length-set}
use Rattle.lists.proofs.Tests.{clash, passes, never}
use Rattle.text.specs.Tree.{Expr}
use Rattle.text_parse.specs.Equations.{expr_from}
use Rattle.text_tokens.specs.Places.{tokens_at}
use Rattle.text_types.specs.SaysCode.{Says}
use Rattle.std.specs.Prelude.{Result, is_ok}
use Rattle.text_types.specs.declared.place.GrammarError.{GrammarError}
use Rattle.text_types.specs.Answer.{place_at}
use Rattle.text_types.proofs.Answers.{passed-next}
use Rattle.text_window.specs.WindowCode.{slot_of, put}
use Rattle.text_pass.proofs.SeenLaws.{or-false}
use Rattle.text_pass.proofs.ExprLaws.{stands_on}
use Rattle.text_pass.proofs.StandLaws.{goes-effect, counts-kept, brackets-kept, stands-first, effect-doing, ends-says, in-room}
use Rattle.text_pass.proofs.walk.walk.Goals as goal

pub loop-low-init : goal.loop-low-init
loop-low-init c =
    let g = c.args in
    let kept : length (put 0 0 0 g.counts.now) ≡ length g.counts.now =
    length-set g.counts.now (slot_of (length g.counts.now) 0 0) 0 in
    rw c.put_count.ensures (
      refl,
      c.requires.0 ∙ sym kept,
      subst (λ (m : ℕ). 2 ≤ m) (sym kept) c.requires.1,
      (λ scopes o le.
          stands-first scopes g.text.now g.from _ 0 g.counts.now g.brackets.now (sym kept)
          (c.requires.0 ∙ sym kept)),
    )

pub ready-requires : goal.ready-requires
ready-requires c =
    let inv = c.loop-low.invariant in
    (inv.1 ∙ sym inv.0, subst (λ (m : ℕ). 2 ≤ m) (sym inv.0) inv.2)

pub returns-in_err-low : goal.returns-in_err-low
returns-in_err-low c = (
  (λ scopes o le. rw c.from_residual.ensures tt),
  (λ a. absurd (clash refl (passes (c.in_err-low.ensures.2 a)))),
)

pub returns-then-stops-t : goal.returns-then-stops-t
returns-then-stops-t c =
    let g = c.args in
    let l = c.loop-low in
    let levels = c.ready in
    let token = c.next_token-t in
    let effect = c.effect_at-e in (
      (λ scopes o le.
          let st = c.in_ok-low.ensures.0 scopes o le
          (in-room scopes g.text.now g.from (sym l.invariant.0) (l.invariant.3 scopes o le)) in
          let q = effect-doing scopes g.text.now g.from _ _ _ _ _ _ _ st _ token.ensures effect.result _ _
          c.in_ok-low.ensures.1 c.assigning-within.ensures
          c.innermost-bracket.ensures
          (effect.ensures scopes o le token.ensures.kind) in
          subst
          (λ (r : Result ℕ GrammarError). Says g.text.now (suc g.from) (λ (e : Expr). Unit {0}) (is_ok r) (place_at r)
          (expr_from scopes (tokens_at g.text.now g.from))) (sym c.answer.ensures)
          (ends-says scopes g.text.now g.from _ _ _ _ _ _ _ st _ token.ensures effect.result
          (ap (λ (b : Bool). b || eqb token.result.kind 32) (sym c.stops.ensures) ∙ c.if-stops-t.true) q)),
      (λ a. refl),
    )

pub loop-low-smaller : goal.loop-low-smaller
loop-low-smaller c =
    let g = c.args in
    let l = c.loop-low in
    let token = c.next_token-t in
    let more = or-false c.stops.result (eqb token.result.kind 32) c.if-stops-t.false in
    let p = passed-next g.text.now l.at _ token.ensures (eqb-false token.result.kind 32 more.1) in
    let begun : l.at < length g.text.now = p.begun in omega arith

pub loop-low-preserved : goal.loop-low-preserved
loop-low-preserved c =
    let g = c.args in
    let l = c.loop-low in
    let levels = c.ready in
    let token = c.next_token-t in
    let effect = c.effect_at-e in
    let kept : length levels.new.counts ≡ length l.counts = levels.auto.counts in
    let kept-too : length levels.new.brackets ≡ length l.brackets = levels.auto.brackets in
    let more = or-false c.stops.result (eqb token.result.kind 32) c.if-stops-t.false in
    rw (
      c.note_counts.ensures,
      c.note_brackets.ensures,
      c.depth_after-depth.ensures,
    ) (
      counts-kept c.in_ok-low.low l.depth effect.result _ ∙ kept ∙ l.invariant.0,
      brackets-kept c.in_ok-low.low l.depth effect.result _ ∙ kept-too ∙ l.invariant.1,
      l.invariant.2,
      (λ scopes o le.
          let st = c.in_ok-low.ensures.0 scopes o le
          (in-room scopes g.text.now g.from (sym l.invariant.0) (l.invariant.3 scopes o le)) in
          let q = effect-doing scopes g.text.now g.from _ _ _ _ _ _ _ st _ token.ensures effect.result _ _
          c.in_ok-low.ensures.1 c.assigning-within.ensures
          c.innermost-bracket.ensures
          (effect.ensures scopes o le token.ensures.kind) in
          in-room scopes g.text.now g.from l.invariant.0
          (stands_on scopes g.text.now g.from _ _ _ _ _ _ _ st _ token.ensures effect.result q
          (goes-effect g.text.now effect.result (sym c.stops.ensures ∙ more.0)) c.well_formed.0.0
          c.phase_after-phase.result (c.phase_after-phase.ensures g.text.now))),
    )
