-- `keep_code` replaces a part.
use Prim.Native.Nat.{ℕ, ◌+◌, ◌-◌}
use native.Mathlib.Omega.{arith}
use mathlib.Core.Path.{sym, ap, ◌∙◌}
use mathlib.Core.List.{◌++◌, append_assoc}
use lib.ListN.{take, drop}
use lib.Seq.{drop-drop}
use borrow.Rule.Slice.PartMut.{put_mid}
use Rattle.text_judge.specs.RowsCode.{copied}
use Rattle.text_limits.proofs.limits.keep_code.Goals as goal

pub returns : goal.returns
unfolding copied
returns c =
    let at = c.args.at in
    let n = c.args.n in
    let kept = c.args.kept.now in
    let code = c.args.code.now in
    ap (put_mid at (at + n - at) kept) c.copy_from_slice.ensures.after
    ∙ ap (λ (k : ℕ). take at kept ++ (take n code ++ drop k (drop at kept))) {x = at + n - at} {y = n} (omega arith)
    ∙ ap (λ xs. take at kept ++ (take n code ++ xs)) (drop-drop n at kept)
    ∙ sym (append_assoc (take at kept) (take n code) (drop (at + n) kept))
