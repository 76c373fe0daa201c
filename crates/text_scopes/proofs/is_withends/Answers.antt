-- `is_withends`: what is answered from each block outwards is answered from the innermost.
use Prim.Native.Nat.{ℕ, ◌-◌, ◌≤◌}
use native.Mathlib.Omega.{arith}
use mathlib.Core.Path.{◌≡◌, refl, sym, ap, ◌∙◌, subst}
use mathlib.Core.Bool.{true, false}
use Rattle.std.specs.Prelude.{Some}
use lib.Seq.{slice}
use Rattle.text_types.specs.Answer.{declared_number}
use Rattle.text_scopes.specs.OpenCode.{BodyAt}
use Rattle.text_scopes.proofs.ScopeLaws.{Answers, inner-found, inner-other, in_block, opened_some, body-answers}
use borrow.Author.Rules.{rules}
use Rattle.text_scopes.proofs.is_withends.Goals as goal

pub loop-blocks-init : goal.loop-blocks-init
loop-blocks-init c = ((λ h. h), (λ b s. s))

pub returns-in-Some-WithEnds : goal.returns-in-Some-WithEnds
returns-in-Some-WithEnds c =
    let g = c.args in
    let l = c.loop-blocks in
    let text = g.text.now in
    let w = slice g.start g.end text in
    let found = sym (ap declared_number (c.in-Some-WithEnds.is ∙ ap Some c.in-Some-WithEnds.field-0-is)) ∙ c.declared_in.ensures in
    λ scopes x o h s. l.invariant.1 true
    (inner-found text g.starts.now w l.blocks 2 c.loop-blocks-test.true
    (in_block text g.starts.now w (l.blocks - 1) c.start_of.ensures found) (λ e. omega (arith, e))) scopes x o h s

pub returns-in-Some-Variable : goal.returns-in-Some-Variable
returns-in-Some-Variable c =
    let g = c.args in
    let l = c.loop-blocks in
    let text = g.text.now in
    let w = slice g.start g.end text in
    let found = sym (ap declared_number (c.in-Some-Variable.is ∙ ap Some c.in-Some-Variable.field-0-is)) ∙ c.declared_in.ensures in
    λ scopes x o h s. l.invariant.1 false
    (inner-found text g.starts.now w l.blocks 1 c.loop-blocks-test.true
    (in_block text g.starts.now w (l.blocks - 1) c.start_of.ensures found) (λ e. omega (arith, e))) scopes x o h s

pub loop-blocks-preserved : goal.loop-blocks-preserved
loop-blocks-preserved c =
    let g = c.args in
    let l = c.loop-blocks in
    let text = g.text.now in
    let w = slice g.start g.end text in (
      (λ h. search rules),
      (λ b s. l.invariant.1 b (inner-other text g.starts.now w l.blocks 0 b c.loop-blocks-test.true
          (in_block text g.starts.now w (l.blocks - 1) c.start_of.ensures c.in-None.ensures) refl s)),
    )

pub returns-in-Some-WithEnds-body_says : goal.returns-in-Some-WithEnds-body_says
returns-in-Some-WithEnds-body_says c =
    let g = c.args in
    let l = c.loop-blocks in
    let text = g.text.now in
    let w = slice g.start g.end text in
    let says = sym (ap declared_number (c.in-Some-WithEnds-body_says.is ∙ ap Some c.in-Some-WithEnds-body_says.field-0-is)) in
    λ scopes x o h s.
    let least : 1 ≤ l.blocks = l.invariant.0 (opened_some text g.starts.now w o) in
    let last = c.loop-blocks-test.false in
    let one : 1 ≡ l.blocks = omega arith in
    l.invariant.1 true (subst (λ (n : ℕ). Answers text g.starts.now w n true) one
    (body-answers text g.starts.now w 2
    (λ ds k. says ∙ c.body_says.ensures ds
    (subst (λ (i : ℕ). BodyAt text i ds) (sym (c.start_of-2.ensures (omega arith))) k)))) scopes x o h s

pub returns-in-Some-Variable-body_says : goal.returns-in-Some-Variable-body_says
returns-in-Some-Variable-body_says c =
    let g = c.args in
    let l = c.loop-blocks in
    let text = g.text.now in
    let w = slice g.start g.end text in
    let says = sym (ap declared_number (c.in-Some-Variable-body_says.is ∙ ap Some c.in-Some-Variable-body_says.field-0-is)) in
    λ scopes x o h s.
    let least : 1 ≤ l.blocks = l.invariant.0 (opened_some text g.starts.now w o) in
    let last = c.loop-blocks-test.false in
    let one : 1 ≡ l.blocks = omega arith in
    l.invariant.1 false (subst (λ (n : ℕ). Answers text g.starts.now w n false) one
    (body-answers text g.starts.now w 1
    (λ ds k. says ∙ c.body_says.ensures ds
    (subst (λ (i : ℕ). BodyAt text i ds) (sym (c.start_of-2.ensures (omega arith))) k)))) scopes x o h s

pub returns-in-None-body_says : goal.returns-in-None-body_says
returns-in-None-body_says c =
    let g = c.args in
    let l = c.loop-blocks in
    let text = g.text.now in
    let w = slice g.start g.end text in
    let says = sym (ap declared_number c.in-None-body_says.is) in
    λ scopes x o h s.
    let least : 1 ≤ l.blocks = l.invariant.0 (opened_some text g.starts.now w o) in
    let last = c.loop-blocks-test.false in
    let one : 1 ≡ l.blocks = omega arith in
    l.invariant.1 false (subst (λ (n : ℕ). Answers text g.starts.now w n false) one
    (body-answers text g.starts.now w 0
    (λ ds k. says ∙ c.body_says.ensures ds
    (subst (λ (i : ℕ). BodyAt text i ds) (sym (c.start_of-2.ensures (omega arith))) k)))) scopes x o h s
