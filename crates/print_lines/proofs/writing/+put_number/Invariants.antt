-- The number falls at each call of `put_number`.
use Rattle.print_lines.proofs.writing.+put_number.Given as goal

abbrev pub decreases-put_number : goal.decreases-put_number
decreases-put_number l = l.n
