-- `put_words` goes through the words: the first i of them are put.
use Prim.Native.Nat.{ℕ, ◌<◌}
use mathlib.Core.Path.{refl, sym, ◌∙◌, ap₂}
use mathlib.Core.List.{List}
use native.Mathlib.Omega.{arith}
use lib.ListN.{length, set}
use Rattle.print_format.specs.Format.{words_of}
use Rattle.lists.specs.Lists.{put_from}
use Rattle.lists.proofs.Put.{put_from-next}
use Rattle.print_input.proofs.FileLaws.{part, part-word}
use Rattle.print_input.proofs.put_words.Goals as goal

pub loop-i-init : goal.loop-i-init
unfolding put_from
loop-i-init c = refl

pub loop-i-preserved : goal.loop-i-preserved
loop-i-preserved c =
    let args = c.args in
    let loop = c.loop-i in
    let l = args.bytes.now in
    let ws = words_of (part l args.from args.n) in
    let inside : loop.i < length ws = omega arith in
    c.put.ensures
    ∙ ap₂ (λ (w : List ℕ) (x : ℕ). set w loop.i x) loop.invariant
    (c.two_at.ensures ∙ sym (part-word l args.from args.n loop.i inside))
    ∙ sym (put_from-next args.words.now ws loop.i inside)
