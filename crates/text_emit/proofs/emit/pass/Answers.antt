-- `pass`: the place after the next token.
use mathlib.Core.Path.{ap}
use mathlib.Core.Bool.{true}
use Prim.Native.Nat.{ℕ}
use Rattle.text_emit.proofs.emit.pass.Goals as goal

pub returns : goal.returns
returns c =
    let e = c.args.e in
    ap (λ (i : ℕ). record { ok = true; at = i; used = e.used; count = e.count })
    (ap (λ t. t.end) c.next_token-t.ensures.same)
