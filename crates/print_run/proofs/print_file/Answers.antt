-- What is written is the text of what was read, and that is the text of the whole file.
use Rattle.std.specs.Prelude.{◌≡◌, ◌++◌, length, take, IfSome}
use Rattle.std.specs.Option.{option_map}
use Rattle.std.proofs.lemmas.List.{length-take-le}
use mathlib.Core.Path.{◌∙◌, ap, sym, subst}
use native.Mathlib.Omega.{arith}
use Rattle.lists.proofs.Put.{put_from-length}
use Rattle.print_format.specs.Format.{printed}
use Rattle.print_text.proofs.Bound.{printed-length}
use Rattle.print_run.proofs.Written.{text-written, lent, front, whole}
use Rattle.print_run.proofs.print_file.Goals as goal

pub slice_bounds-write_all-end : goal.slice_bounds-write_all-end
slice_bounds-write_all-end g c =
    let file = c.deref.result.now in
    sym
    (length-take-le _ _
    (omega
    (arith, c.in_ok-out.ensures.len, c.print_text-end.ensures.1, c.deref-2.ensures.len, printed-length file)))

pub returns : goal.returns
returns g c =
    let file = c.deref.result.now in
    let out = c.deref_mut.result.now in
    let p = c.print_text-end.ensures in
    let l = c.in_ok-out.ensures.len in
    let d = c.deref_mut.ensures in
    let put = c.print_text-end.new.out in
    let lent-out =
    lent c.in_ok-out.out.len put c.in_ok-out.out.items
    (omega (arith, ap length p.0, put_from-length out 0 (printed file), d.len, l)) in
    whole _ (g.R.Read.remaining c.args.reader) _ _ c.read_to_end.new.buf.items _
    (front c.take.result.limit _ c.new-file.result.items _ c.take.ensures.limit c.new-file.ensures.items
    (subst
    (λ x. IfSome (option_map (take c.take.result.limit) (g.R.Read.remaining x))
    (λ xs. c.read_to_end.new.buf.items ≡ c.new-file.result.items ++ xs))
    c.take.ensures.inner c.in_ok-read_to_end.ensures.bytes))
    (ap (take c.print_text-end.result) (c.deref-2.ensures.value ∙ lent-out)
    ∙ text-written file out (omega (arith, d.len, l)) p ∙ ap printed c.deref.ensures.value)
    c.write_all.ensures.bytes
