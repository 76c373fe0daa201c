-- `number_of`: with the digits still to come, the number read so far says what the whole part says.
use Prim.Native.Nat.{ℕ, ◌+◌, ◌*◌, ◌-◌}
use native.Mathlib.Omega.{arith}
use mathlib.Core.Path.{refl, sym, ap, ◌∙◌}
use lib.ListN.{drop}
use lib.Seq.{slice}
use Rattle.text_parse.specs.Tokens.{number_from, numeral_of}
use Rattle.text_tokens.specs.Numbers.{capped}
use Rattle.text_tokens.proofs.Parts.{part-fits}
use Rattle.text_tokens.proofs.Counting.{capped-below, capped-twice, number-on, number-end}
use Rattle.text_tokens.proofs.number.number_of.Goals as goal

pub loop-k-init : goal.loop-k-init
loop-k-init c = (c.size-n.ensures, (capped-below 0 (omega arith), refl))

pub overflow_add-start : goal.overflow_add-start
overflow_add-start c =
    let g = c.args in
    let l = c.loop-k in
    let len = l.invariant.0 in
    omega (arith, part-fits g.text.now g.start g.end l.k (omega arith))

pub loop-k-preserved : goal.loop-k-preserved
loop-k-preserved c =
    let g = c.args in
    let l = c.loop-k in
    let next = c.longer-v.ensures ∙ ap (λ (b : ℕ). capped (10 * l.v + (b - 48))) c.byte_at.ensures in
    let rest = drop (l.k + 1) (slice g.start g.end g.text.now) in (
      l.invariant.0,
      (
        ap capped next ∙ capped-twice _ ∙ sym next,
        ap (λ (v : ℕ). capped (number_from v rest)) next
            ∙ number-on g.text.now g.start g.end l.k l.v (omega arith) ∙ l.invariant.1.1,
      ),
    )

pub returns : goal.returns
unfolding numeral_of
returns c =
    let g = c.args in
    let l = c.loop-k in
    sym (number-end g.text.now g.start g.end l.k l.v (omega arith) l.invariant.1.0) ∙ l.invariant.1.1
