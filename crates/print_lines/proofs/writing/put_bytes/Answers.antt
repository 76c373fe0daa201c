-- `put_bytes` goes through the bytes: those before the index are put.
use mathlib.Core.Path.{refl, sym, ◌∙◌, ap}
use mathlib.Core.List.{[], ◌∷◌}
use Prim.Native.Nat.{ℕ}
use native.Mathlib.Numerals.{add-one}
use native.Mathlib.Omega.{arith}
use lib.ListN.{take, get_or}
use lib.Seq.{take-suc}
use Rattle.lists.specs.Lists.{put_from}
use Rattle.lists.proofs.Put.{put_same, put_then}
use Rattle.print_lines.proofs.writing.put_bytes.Goals as goal

pub loop-b-init : goal.loop-b-init
unfolding put_from
loop-b-init c = (refl, omega arith)

pub loop-b-preserved : goal.loop-b-preserved
loop-b-preserved c =
    let args = c.args in
    let loop = c.loop-b in
    let i = loop.b-index in
    let bs = args.bytes.now in
    put_same args.out.now args.at
    (sym (ap (λ (n : ℕ). take n bs) (add-one i) ∙ take-suc bs i 0 (omega arith)))
    (put_then args.out.now args.at (take i bs) (get_or bs i 0 ∷ []) loop.invariant c.put_byte-end.ensures)
