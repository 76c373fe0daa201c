-- `put_line` puts the halves of a line and a newline.
use Prim.Native.Nat.{ℕ}
use mathlib.Core.Path.{◌∙◌, ap}
use mathlib.Core.List.{[], ◌∷◌, ◌++◌}
use Rattle.print_lines.specs.TextsCode.{head_text, columns_text}
use Rattle.lists.proofs.Put.{put_same, put_then}
use native.Mathlib.Omega.{arith}
use Rattle.print_lines.proofs.Texts.{head_text-length, columns_text-length, line_text-halves}
use Rattle.print_lines.proofs.writing.put_line.Goals as goal

pub put_columns-j-requires : goal.put_columns-j-requires
put_columns-j-requires c =
    let args = c.args in
    omega (arith, head_text-length args.l)

pub put_byte-requires : goal.put_byte-requires
put_byte-requires c =
    let args = c.args in
    omega (arith, head_text-length args.l, columns_text-length c.columns_used.result args.l)

pub returns : goal.returns
returns c =
    let args = c.args in
    let out = args.out.now in
    let used = c.columns_used.result in
    let to1 =
    put_then out args.at (head_text args.l) (columns_text used args.l) c.put_head-i.ensures
    c.put_columns-j.ensures in
    put_same out args.at
    (ap (λ (u : ℕ). head_text args.l ++ columns_text u args.l ++ (10 ∷ [])) c.columns_used.ensures
    ∙ line_text-halves args.l)
    (put_then out args.at (head_text args.l ++ columns_text used args.l) (10 ∷ []) to1
    c.put_byte.ensures)
