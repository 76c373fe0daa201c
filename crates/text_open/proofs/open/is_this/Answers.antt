-- `is_this` by the level and by the bytes.
use mathlib.Core.Path.{ap, ◌∙◌}
use Prim.Native.Nat.{ℕ, ◌*◌, ◌≤◌, ◌<◌}
use native.Mathlib.Omega.{arith}
use lib.ListN.{get_or}
use lib.Seq.{slice}
use Rattle.lists.specs.Lists.{same}
use Rattle.text_open.proofs.OpenLaws.{is-shallow, is-deep}
use Rattle.text_open.proofs.open.is_this.Goals as goal

pub returns-then-level-least : goal.returns-then-level-least
returns-then-level-least c =
    let g = c.args in
    let level = c.at_or-level.ensures in
    let less : c.at_or-level.result < g.least = c.if-level-least.true in
    is-shallow g.text.now g.words.now g.j g.least (slice g.start g.end g.text.now)
    (omega arith)

pub returns : goal.returns
returns c =
    let g = c.args in
    let x = slice g.start g.end g.text.now in
    let level = c.at_or-level.ensures in
    let least : g.least ≤ c.at_or-level.result = c.if-level-least.false in
    c.same_word.ensures
    ∙ ap (λ (i : ℕ). same x (slice i c.at_or-stop.result g.text.now)) c.at_or-other.ensures
    ∙ ap (λ (i : ℕ). same x (slice (get_or g.words.now (3 * g.j) 0) i g.text.now)) c.at_or-stop.ensures
    ∙ is-deep g.text.now g.words.now g.j g.least x (omega arith)
