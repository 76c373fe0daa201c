-- Expressions and arguments within a statement.
use Prim.Native.Nat.{ℕ, ◌+◌, ◌≤◌, ◌<◌}
use native.Mathlib.Omega.{arith}
use mathlib.Core.Path.{◌≡◌, refl, sym, ap, ◌∙◌, subst}
use mathlib.Core.Logic.{◌⊎◌, inl, inr, ⊎_elim}
use mathlib.Core.Bool.{Bool, true, false, ◌&&◌}
use mathlib.Core.List.{List, [], append-nil}
use lib.Dec.{leb}
use lib.ListN.{length}
use borrow.Author.Tests.{leb-true, leb-false}
use Rattle.lists.specs.Lists.{every}
use Rattle.lists.proofs.Tests.{clash, passes, decide}
use Rattle.text.specs.Tree.{Declared}
use Rattle.text.specs.Translation.{Instruction, Scope}
use Rattle.text.specs.Limits.{is_number}
use Rattle.text_parse.specs.Tokens.{Token}
use Rattle.text_parse.specs.Grammar.{Reading, read, Scopes}
use Rattle.text_tokens.specs.Places.{tokens_at}
use Rattle.text_scan.proofs.Holding.{weaker-holds}
use Rattle.text_slots.specs.Placing.{Placing}
use Rattle.text_declare.specs.Entered.{typed}
use Rattle.text_numbering.specs.CodeBy.{number_fits}
use Rattle.text_emit_expr.specs.Emitted.{Said, said, Emitted}
use Rattle.text_code.specs.OutcomeCode.{Outcome, all-written, over}
use Rattle.text_code.proofs.Outcomes.{outcome-then, outcome-stuck}
use Rattle.text_code.proofs.Forms.{outcome-same}
use Rattle.text_emit.specs.Reached.{EmitState}
use Rattle.text_emit.specs.EmitCode.{tables_of, Emits}
use Rattle.std.specs.Prelude.{Some, None, Result, Ok, Err}
use Rattle.std.specs.Result.{result_ok}
use Rattle.std.proofs.lemmas.Option.{none-some, same_Some}
use Rattle.text_emit_expr.specs.declared.expression.EmitAt.{EmitAt}
use Rattle.text_emit_expr.specs.declared.expression.Unfit.{Unfit}
use Rattle.text_emit.proofs.EmitLaws.{lost, elsewhere}
use Rattle.text_emit.proofs.SimpleLaws.{holds_read}

and_both : (a b : Bool) → (a && b) ≡ true → (a ≡ true) × (b ≡ true)
and_both true b e = (refl, e)
and_both false b e = absurd (clash refl (passes e))

and_one : (a b : Bool) → (a && b) ≡ false → (a ≡ false) ⊎ (b ≡ false)
and_one true b e = inr e
and_one false b e = inl refl

-- what does not fit may be said to stand anywhere
pub emits-lost : {A : Type 0} (rule : Scopes → List Token → Reading A) (c : Scope → A → List Instruction) (text : List ℕ)
    (n : ℕ) (scope : List ℕ) (e r : EmitState) (code code' : List ℕ) → r.ok ≡ false
    → Emits rule c text scope n e code r code' → Emits rule c text scope n e code lost code'
emits-lost rule c text n scope e r code code' q f row us low b es σ scopes sc pl few h =
    weaker-holds (λ x vs o. elsewhere q refl o) (f row us low b es σ scopes sc pl few h)

module _ (text : List ℕ) (n : ℕ) (scope : List ℕ) {A : Type 0} (rule : Scopes → List Token → Reading A)
    (c : Scope → A → List Instruction) (numbers : A → List ℕ)
    (fit : (sc : Scope) (a : A) → every is_number (numbers a) ≡ every number_fits (c sc a)) (e : EmitState) (code code' : List
    ℕ)
  where
    pub part-stuck : {r : EmitState} → e.ok ≡ false → r.ok ≡ false → Emits rule c text scope n e code r code'
    part-stuck q q' row us low b es σ scopes sc pl few h =
        holds_read (rule scopes us) (λ a vs f. outcome-stuck text b (c sc a) q q' h)

    -- where it stands is in the text, and its instructions are at most 4,096
    pub part-within : {r : EmitState} → e.ok ≡ true → (length text < e.at) ⊎ (4096 < e.count)
        → Emits rule c text scope n e code r code'
    part-within on far row us low b es σ scopes sc pl few (over o v) = absurd (clash o (passes on))
    part-within on far row us low b es σ scopes sc pl few (all-written o l i u q w) =
        absurd (⊎_elim (λ g. omega (arith, g, i)) (λ g. let m = w.few in omega (arith, g, m)) far)

    module _ (a : Said) where
      abbrev pub after : EmitState
      after = record { ok = a.ok; at = a.at; used = e.used; count = a.count }

      -- the part by itself, from where the statement stands
      alone : (row : List ℕ) (es : List Declared) (us : List Token) (sc : Scope) (x : A) → e.used ≤ 16
          → Emitted text e.at code e.count (c sc x) (numbers x) us code' a
          → Outcome text (1 + e.at) (c sc x) [] us (tables_of e n scope row code) a.ok a.at
          (tables_of after n scope row code')
      unfolding typed
      alone row es us sc x room m = ⊎_elim yes missing (decide a.ok)
        where
          yes : a.ok ≡ true → Outcome text (1 + e.at) (c sc x) [] us (tables_of e n scope row code) a.ok a.at
              (tables_of after n scope row code')
          yes y =
              let both = and_both (leb (e.count + length (c sc x)) 4096) (every is_number (numbers x)) (sym m.judged
              ∙ y) in
              let most = leb-true (e.count + length (c sc x)) 4096 both.0 in
              all-written y (let on : e.at < a.at = m.onward y in omega arith) (m.inside y) (m.left y) (sym (fit sc
              x) ∙ both.1) (record {
                counted = m.counted y;
                few = subst (λ (k : ℕ). k ≤ 4096) (sym (m.counted y)) most;
                given = omega arith;
                room = room;
                same-scope = refl;
                words = m.written y;
                types = refl;
                kept = λ k s l p. p;
              })

          missing : a.ok ≡ false → Outcome text (1 + e.at) (c sc x) [] us (tables_of e n scope row code) a.ok
              a.at
              (tables_of after n scope row code')
          missing f =
              over f (⊎_elim (λ g. inl (leb-false (e.count + length (c sc x)) 4096 g))
              (λ g. inr (inl (sym (fit sc x) ∙ g)))
              (and_one (leb (e.count + length (c sc x)) 4096) (every is_number (numbers x)) (sym m.judged ∙ f)))

      pub part-emits : e.ok ≡ true
          → (n ≤ 16 → (scopes : Scopes) (sc : Scope) → Placing text scope n sc → (x : A) (us : List Token)
          → rule scopes (tokens_at text e.at) ≡ read x us
          → Emitted text e.at code e.count (c sc x) (numbers x) us code' a)
          → Emits rule c text scope n e code after code'
      part-emits on m row us low b es σ scopes sc pl few (over o v) = absurd (clash o (passes on))
      part-emits on m row us low b es σ scopes sc pl few (all-written o l i u q w) =
          holds_read (rule scopes us) (λ x vs f.
          outcome-same text refl (append-nil es)
          (outcome-then text b (c sc x) es [] us vs low σ (tables_of e n scope row code) e.at 1 on
          (all-written o l i u q w) (alone row es vs sc x w.room (m few scopes sc pl x vs (sym (ap (rule scopes) u) ∙
          f)))))

    -- the part fits
    pub part-fits : (r : Result EmitAt Unfit) (a : EmitAt) → Some a ≡ result_ok r → e.ok ≡ true
        → (n ≤ 16 → (scopes : Scopes) (sc : Scope) → Placing text scope n sc → (x : A) (us : List Token)
        → rule scopes (tokens_at text e.at) ≡ read x us
        → Emitted text e.at code e.count (c sc x) (numbers x) us code' (said r))
        → Emits rule c text scope n e code (after (said (Ok a))) code'
    part-fits (Err x) a some on m = absurd (none-some a (sym some))
    part-fits (Ok b) a some on m =
        subst (λ x. Emits rule c text scope n e code (after (said (Ok x))) code') (sym (same_Some a b some))
        (part-emits (said (Ok b)) on m)

    -- the part does not fit
    pub part-refused : (r : Result EmitAt Unfit) → None ≡ result_ok r → e.ok ≡ true
        → (n ≤ 16 → (scopes : Scopes) (sc : Scope) → Placing text scope n sc → (x : A) (us : List Token)
        → rule scopes (tokens_at text e.at) ≡ read x us
        → Emitted text e.at code e.count (c sc x) (numbers x) us code' (said r))
        → Emits rule c text scope n e code lost code'
    part-refused (Ok b) none on m = absurd (none-some b none)
    part-refused (Err x) none on m =
        emits-lost rule c text n scope e (after (said (Err x))) code code' refl (part-emits (said (Err x)) on m)
