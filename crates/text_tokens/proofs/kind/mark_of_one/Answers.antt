-- `mark_of_one` knows each mark of one byte.
use Prim.Native.Nat.{ℕ}
use mathlib.Core.Path.{sym, ap}
use mathlib.Core.List.{[], ◌∷◌}
use Rattle.text_tokens.specs.KindsCode.{place_from, mark_kind}
use Rattle.text_tokens.proofs.Listed.{mark-other}
use Rattle.text_tokens.proofs.kind.mark_of_one.Goals as goal

pub returns-in-40 : goal.returns-in-40
unfolding mark_kind place_from
returns-in-40 c = ap (λ (b : ℕ). mark_kind (b ∷ [])) (sym c.in-40.is)

pub returns-in-41 : goal.returns-in-41
unfolding mark_kind place_from
returns-in-41 c = ap (λ (b : ℕ). mark_kind (b ∷ [])) (sym c.in-41.is)

pub returns-in-123 : goal.returns-in-123
unfolding mark_kind place_from
returns-in-123 c = ap (λ (b : ℕ). mark_kind (b ∷ [])) (sym c.in-123.is)

pub returns-in-125 : goal.returns-in-125
unfolding mark_kind place_from
returns-in-125 c = ap (λ (b : ℕ). mark_kind (b ∷ [])) (sym c.in-125.is)

pub returns-in-91 : goal.returns-in-91
unfolding mark_kind place_from
returns-in-91 c = ap (λ (b : ℕ). mark_kind (b ∷ [])) (sym c.in-91.is)

pub returns-in-93 : goal.returns-in-93
unfolding mark_kind place_from
returns-in-93 c = ap (λ (b : ℕ). mark_kind (b ∷ [])) (sym c.in-93.is)

pub returns-in-44 : goal.returns-in-44
unfolding mark_kind place_from
returns-in-44 c = ap (λ (b : ℕ). mark_kind (b ∷ [])) (sym c.in-44.is)

pub returns-in-59 : goal.returns-in-59
unfolding mark_kind place_from
returns-in-59 c = ap (λ (b : ℕ). mark_kind (b ∷ [])) (sym c.in-59.is)

pub returns-in-43 : goal.returns-in-43
unfolding mark_kind place_from
returns-in-43 c = ap (λ (b : ℕ). mark_kind (b ∷ [])) (sym c.in-43.is)

pub returns-in-45 : goal.returns-in-45
unfolding mark_kind place_from
returns-in-45 c = ap (λ (b : ℕ). mark_kind (b ∷ [])) (sym c.in-45.is)

pub returns-in-61 : goal.returns-in-61
unfolding mark_kind place_from
returns-in-61 c = ap (λ (b : ℕ). mark_kind (b ∷ [])) (sym c.in-61.is)

pub returns-in-60 : goal.returns-in-60
unfolding mark_kind place_from
returns-in-60 c = ap (λ (b : ℕ). mark_kind (b ∷ [])) (sym c.in-60.is)

pub returns-in_default : goal.returns-in_default
returns-in_default c = mark-other c.args.b c.in_default.in_default-own.rest
