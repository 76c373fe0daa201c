-- `push`: there is room for the name or not.
use mathlib.Core.Path.{◌≡◌, ap, ◌∙◌}
use mathlib.Core.List.{List, ◌∷◌}
use Prim.Native.Nat.{◌+◌, ◌*◌, ◌<◌}
use native.Mathlib.Omega.{arith}
use lib.ListN.{length, length-set, set}
use lib.Seq.{slice}
use Rattle.text_open.specs.OpenCode.{Declared}
use Rattle.text_open.proofs.OpenLaws.{open_more}
use Rattle.text_open.proofs.open.push.Goals as goal

pub returns-then-n-ge1024 : goal.returns-then-n-ge1024
returns-then-n-ge1024 c = (omega arith, λ text ds h l. absurd (omega arith))

pub bounds-words-n-2 : goal.bounds-words-n-2
bounds-words-n-2 c =
    let w = c.args.words.now in
    let n = c.args.n in
    let long : length w ≡ 3072 = c.requires in
    let few : n < 1024 = c.if-n-ge1024.false in
    omega (arith, length-set w (3 * n) c.args.start)

pub bounds-words-n-3 : goal.bounds-words-n-3
bounds-words-n-3 c =
    let w = c.args.words.now in
    let n = c.args.n in
    let s = c.args.start in
    let long : length w ≡ 3072 = c.requires in
    let few : n < 1024 = c.if-n-ge1024.false in
    omega (arith, length-set w (3 * n) s, length-set (set w (3 * n) s) (3 * n + 1) c.args.end)

pub returns : goal.returns
returns c =
    let g = c.args in
    let long : length g.words.now ≡ 3072 = c.requires in
    let few : g.n < 1024 = c.if-n-ge1024.false in (
      omega arith,
      λ text ds h l. open_more text g.words.now g.n g.start g.end g.level (omega arith)
          ∙ ap (λ (es : List Declared). record { level = g.level; bytes = slice g.start g.end text } ∷ es)
          (h (omega arith)),
    )
