-- `words_in` halves the number of bytes that there are.
use native.Mathlib.Omega.{arith}
use Rattle.print_input.proofs.FileLaws.{part, part_length, words_of-length}
use Rattle.print_input.proofs.words_in.Goals as goal

pub returns : goal.returns
returns c =
    let args = c.args in
    let l = args.bytes.now in
    omega (arith, part_length l args.from args.n, words_of-length (part l args.from args.n))
