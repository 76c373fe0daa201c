-- The answer of a whole emission.
use Prim.Native.Nat.{ℕ, suc, ◌+◌, ◌-◌, ◌≤◌, ◌<◌}
use native.Mathlib.Omega.{arith}
use mathlib.Core.Path.{◌≡◌, refl, sym, ap, ◌∙◌, subst}
use mathlib.Core.Bool.{Bool, true, false, cond, ◌&&◌}
use mathlib.Core.List.{List, [], ◌∷◌, append-nil}
use borrow.Author.Tests.{eqb-true, eq-eqb, ne_eqb, lt-ltb, le-leb, ltb-true}
use lib.Dec.{eqb, leb, ltb}
use lib.ListN.{length}
use Rattle.lists.specs.Lists.{put_from}
use Rattle.lists.proofs.Tests.{passes, clash}
use Rattle.text.specs.Tree.{Expr}
use Rattle.text.specs.Translation.{Instruction, INT, code_words, Scope}
use Rattle.text_parse.specs.Tokens.{Token}
use Rattle.text_parse.specs.Grammar.{read, and_then, Scopes}
use Rattle.text_parse.specs.Equations.{expr_from}
use Rattle.text_tokens.specs.Places.{tokens_at}
use Rattle.text_slots.specs.Placing.{Placing}
use Rattle.text_numbering.specs.CodeBy.{code_by, place_of, number_fits}
use Rattle.text_emit_expr.specs.RestCode.{prefixed, ended_rest, operand_rest, rest_of, frames_in}
use Rattle.text_emit_expr.specs.EndsCode.{Answer, Outcome, lowest, EndsFrom, Leads, Standing, Steps}
use Rattle.text_emit_expr.specs.Emitted.{ExpressionEmitted}
use Rattle.text_emit_expr.specs.declared.state.StateAt.{StateAt}
use Rattle.text_numbering.proofs.CodeLaws.{numbers_fit}
use Rattle.text_emit_expr.proofs.StackLaws.{frames-none}
use Rattle.text_emit_expr.proofs.EndsLaws.{and-false}
use Rattle.text_emit_expr.proofs.PartLaws.{same-tree, same_left}

-- The beginning

abbrev pub begun : ℕ → ℕ → StateAt
begun from count = record { phase = 0; at = from; unclosed = 0; entries = 0; count = count }

pub begun-stands : (text p : List ℕ) (from count : ℕ) → from ≤ length text → 12288 ≤ length p → count ≤ 4096
    → Standing text p (begun from count)
begun-stands text p from count h l c = record {
  inside = h;
  shallow = rw (frames-none p) (omega arith);
  room = c;
  few = omega arith;
  spacious = l;
}

-- every answer from the state reached is one from the beginning
abbrev pub LeadsFrom : List ℕ → List ℕ → ℕ → List ℕ → List ℕ → StateAt → List ℕ → List ℕ → StateAt → Type 0
LeadsFrom text scope n p code s p' code' s' =
    n ≤ 16 → (scopes : Scopes) (sc : Scope) → Placing text scope n sc → Leads scopes sc text p code s p' code' s'

pub reached-here : (text scope : List ℕ) (n : ℕ) (p code : List ℕ) (s : StateAt)
    → LeadsFrom text scope n p code s p code s
reached-here text scope n p code s le scopes sc pl r h = h

pub reached-on : (text scope : List ℕ) (n : ℕ) (p code : List ℕ) (s : StateAt) (p₁ code₁ : List ℕ) (s₁ : StateAt)
    (p₂ code₂ : List ℕ) (s₂ : StateAt) → LeadsFrom text scope n p code s p₁ code₁ s₁ → Standing text p₁ s₁
    → Steps text scope n p₁ code₁ s₁ p₂ code₂ s₂ → LeadsFrom text scope n p code s p₂ code₂ s₂
reached-on text scope n p code s p₁ code₁ s₁ p₂ code₂ s₂ f st g le scopes sc pl r h =
    f le scopes sc pl r (g.leads st le scopes sc pl r h)

-- how far the loop has to go
abbrev pub togo : List ℕ → StateAt → ℕ
togo text s = cond (ltb s.phase 3) (suc (length text - s.at)) 0

pub togo-less : (text scope : List ℕ) (n : ℕ) (p code : List ℕ) (s : StateAt) (p' code' : List ℕ) (s' : StateAt)
    → s.phase < 3 → Standing text p s → Steps text scope n p code s p' code' s' → togo text s' < togo text s
togo-less text scope n p code s p' code' s' h st g = rw (lt-ltb s.phase 3 h) (by (ltb s'.phase 3) refl)
  where
    by : (b : Bool) → ltb s'.phase 3 ≡ b
        → cond b (suc (length text - s'.at)) 0 < suc (length text - s.at)
    by true e =
        let on : s.at < s'.at = g.onward (ltb-true s'.phase 3 e) in
        let w : s'.at ≤ length text = (g.stands st).inside in omega arith
    by false e = omega arith

-- The end

module _ (scopes : Scopes) (sc : Scope) (text p code : List ℕ) (s : StateAt) (st : Standing text p s) where
  abbrev answer : Answer
  answer = record { ok = eqb s.phase 3; at = s.at; count = s.count; code = code }

  pub done-ends : 3 ≤ s.phase → EndsFrom scopes sc text p code s answer
  unfolding rest_of number_fits put_from code_words
  done-ends h c us e = by (eqb s.phase 3) refl
      (sym (rw (
        ne_eqb s.phase 0 (λ z. omega arith),
        ne_eqb s.phase 1 (λ z. omega arith),
        ne_eqb s.phase 2 (λ z. omega arith),
      ) refl) ∙ e)
    where
      low : (b : Bool) → eqb s.phase 0 ≡ b → cond b (suc s.at) s.at ≤ s.at
      low true z = absurd (let q : s.phase ≡ 0 = eqb-true s.phase 0 z in omega arith)
      low false z = omega arith

      by : (b : Bool) → eqb s.phase 3 ≡ b
          → cond b (read [] (tokens_at text s.at)) (read (INT 32768 ∷ []) (tokens_at text s.at)) ≡ read c us
          → Outcome text (lowest s) s.count code c us answer
      by true b q =
          let none : [] ≡ c = same-tree [] c (tokens_at text s.at) us q in
          subst (λ (x : List Instruction). Outcome text (lowest s) s.count code x us answer) none
          (record {
            judged = b ∙ sym (rw (le-leb (s.count + 0) 4096 (let w : s.count ≤ 4096 = st.room in omega arith)) refl);
            left = λ t. sym (same_left [] c (tokens_at text s.at) us q);
            onward = λ t. low (eqb s.phase 0) refl;
            inside = λ t. st.inside;
            counted = λ t. omega arith;
            written = λ t. refl;
          })
      by false b q =
          let large : INT 32768 ∷ [] ≡ c = same-tree (INT 32768 ∷ []) c (tokens_at text s.at) us q in
          subst (λ (x : List Instruction). Outcome text (lowest s) s.count code x us answer) large
          (record {
            judged = b ∙ sym (and-false (leb (s.count + 1) 4096));
            left = λ t. absurd (clash b (passes t));
            onward = λ t. absurd (clash b (passes t));
            inside = λ t. absurd (clash b (passes t));
            counted = λ t. absurd (clash b (passes t));
            written = λ t. absurd (clash b (passes t));
          })

-- what is left at the beginning of an expression is its code
begun-rest : (scopes : Scopes) (sc : Scope) (p : List ℕ) (ts : List Token) (e : Expr) (us : List Token)
    → expr_from scopes ts ≡ read e us → rest_of scopes sc 0 (frames_in p 0 0) ts ≡ read (code_by place_of sc e) us
unfolding rest_of operand_rest ended_rest and_then prefixed
begun-rest scopes sc p ts e us q =
    ap (λ k. operand_rest scopes sc k ts) (frames-none p)
    ∙ ap (λ m. and_then m (λ e us. prefixed (code_by place_of sc e) (ended_rest scopes sc [] us))) q
    ∙ ap (λ c. read c us) (append-nil (code_by place_of sc e))

pub expression-emitted : (text scope : List ℕ) (n from count : ℕ) (p code p' code' : List ℕ) (s : StateAt)
    → Standing text p' s → 3 ≤ s.phase → LeadsFrom text scope n p code (begun from count) p' code' s
    → ExpressionEmitted text scope n from code count code'
    (record { ok = eqb s.phase 3; at = s.at; count = s.count })
expression-emitted text scope n from count p code p' code' s st h f le scopes sc pl e us q =
    let o : Outcome text (suc from) count code (code_by place_of sc e) us
    (record { ok = eqb s.phase 3; at = s.at; count = s.count; code = code' }) =
    f le scopes sc pl (record { ok = eqb s.phase 3; at = s.at; count = s.count; code = code' })
    (done-ends scopes sc text p' code' s st h) (code_by place_of sc e) us
    (begun-rest scopes sc p (tokens_at text from) e us q) in record {
      judged = o.judged
          ∙ ap (λ (b : Bool). leb (count + length (code_by place_of sc e)) 4096 && b) (sym (numbers_fit place_of sc e));
      left = o.left;
      onward = o.onward;
      inside = o.inside;
      counted = o.counted;
      written = o.written;
    }

module _ (text scope : List ℕ) (n from count : ℕ) (p code p' code' : List ℕ) (s : StateAt) (st : Standing text p' s)
    (f : LeadsFrom text scope n p code (begun from count) p' code' s) where
  pub expression-fits : s.phase ≡ 3
      → ExpressionEmitted text scope n from code count code' (record { ok = true; at = s.at; count = s.count })
  expression-fits e =
      subst (λ (b : Bool). ExpressionEmitted text scope n from code count code' (record {
        ok = b;
        at = s.at;
        count = s.count;
      })) (eq-eqb s.phase 3 e) (expression-emitted text scope n from count p code p' code' s st (omega (arith, e)) f)

  pub expression-refused : 3 ≤ s.phase → (s.phase ≡ 3 → ⊥)
      → ExpressionEmitted text scope n from code count code' (record { ok = false; at = s.at; count = s.count })
  expression-refused h g =
      subst (λ (b : Bool). ExpressionEmitted text scope n from code count code' (record {
        ok = b;
        at = s.at;
        count = s.count;
      })) (ne_eqb s.phase 3 g) (expression-emitted text scope n from count p code p' code' s st h f)
