-- `judge_method` emits the method and asks for its limits.
use mathlib.Core.Path.{sym, ◌∙◌}
use Rattle.text_limits.proofs.Emission.{is-emitted, its-code, refused, goes-on, named-at, stops}
use Rattle.text_limits.proofs.method.judge_method.Goals as goal

pub emit_method-m-requires : goal.emit_method-m-requires
emit_method-m-requires c = c.args.methods.now.indexed

pub returns-then-not-m : goal.returns-then-not-m
returns-then-not-m c =
    let k = c.requires in
    λ h. let w = h.named in
    refused _ _ _ h _ _ _ _ _ _ _ _ c.args.before c.args.total k.4
    (c.emit_method-m.ensures w.program w.left w.reads k.3 k.4 k.5 k.6) c.if-not-m.true

pub within_limits-requires : goal.within_limits-requires
within_limits-requires c =
    let k = c.requires in
    let w = k.0.named in (
      is-emitted _ _ _ k.0 _ _ _ _ _ _ _ _ 0 0 k.4
          (c.emit_method-m.ensures w.program w.left w.reads k.3 k.4 k.5 k.6)
          c.if-not-m.false,
      k.1,
      k.2,
    )

pub returns-then-within_limits : goal.returns-then-within_limits
returns-then-within_limits c =
    let k = c.requires in
    let ok = c.if-not-m.false in
    λ h. let w = h.named in
    let written = c.emit_method-m.ensures w.program w.left w.reads k.3 k.4 k.5 k.6 in (
      goes-on _ _ _ h _ _ _ _ _ _ _ _ c.args.before c.args.total k.4 written ok
          (λ x. sym c.if-within_limits.true ∙ c.within_limits.ensures x),
      its-code _ _ _ h _ _ _ _ _ _ _ _ 0 0 k.4 written ok,
      named-at _ _ _ h _ _ _ _ _ _ _ _ 0 0 k.4 written ok,
    )

pub returns-else-within_limits : goal.returns-else-within_limits
returns-else-within_limits c =
    let k = c.requires in
    let ok = c.if-not-m.false in
    λ h. let w = h.named in
    let written = c.emit_method-m.ensures w.program w.left w.reads k.3 k.4 k.5 k.6 in
    stops _ _ _ h _ _ _ _ _ _ _ _ c.args.before c.args.total k.4 written ok
    (λ x. sym c.if-within_limits.false ∙ c.within_limits.ensures x)
