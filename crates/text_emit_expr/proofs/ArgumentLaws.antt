-- The code of arguments, one expression after the other.
use Prim.Native.Nat.{ℕ, suc, ◌+◌, ◌*◌, ◌≤◌, ◌<◌}
use native.Mathlib.Omega.{arith}
use mathlib.Core.Path.{◌≡◌, refl, sym, ap, ◌∙◌, subst}
use mathlib.Core.Bool.{Bool, true, false, cond, ◌&&◌}
use mathlib.Core.List.{List, [], ◌∷◌, ◌++◌}
use borrow.Author.Tests.{eqb-true, ne_eqb, le-leb, lt-leb, leb-false}
use lib.Dec.{eqb, leb}
use lib.ListN.{length, length-append}
use Rattle.lists.specs.Lists.{every, put_from}
use Rattle.lists.proofs.Tests.{passes, clash}
use Rattle.text.specs.Tree.{Expr, Exprs, no_more, also}
use Rattle.text.specs.Translation.{Instruction, code_words, Scope}
use Rattle.text.specs.Limits.{expr_numbers, exprs_numbers, is_number}
use Rattle.text_parse.specs.Tokens.{Token}
use Rattle.text_parse.specs.Grammar.{Reading, read, leaves, and_then, first, rest, next?, expect, Scopes}
use Rattle.text_parse.specs.Equations.{expr_from, method_params_from, method_params_rule, arguments_rule}
use Rattle.text_parse.proofs.Equations.{grammar}
use Rattle.text_tokens.specs.Places.{tokens_at}
use Rattle.text_tokens.specs.KindsCode.{kind_of}
use Rattle.text_tokens.specs.NextCode.{NextToken}
use Rattle.text_tokens.specs.declared.next.TokenAt.{TokenAt}
use Rattle.text_tokens.proofs.KindTests.{is-comma, is-close}
use Rattle.text_types.specs.SaysCode.{Passed}
use Rattle.text_types.proofs.Answers.{kind-next, passed-next}
use Rattle.text_slots.specs.Placing.{Placing}
use Rattle.text_expr.proofs.Steps.{expect-then, and_then-assoc, and_then-same}
use Rattle.text_numbering.specs.CodeBy.{code_by, arguments_by, place_of, number_fits}
use Rattle.text_emit_expr.specs.RestCode.{prefixed}
use Rattle.text_emit_expr.specs.EndsCode.{Answer, Outcome, Ends}
use Rattle.text_emit_expr.specs.Emitted.{Said, Emitted, ExpressionEmitted, ArgumentsEmitted, ParametersEmitted}
use Rattle.text_numbering.proofs.CodeLaws.{numbers_fit, arguments-fit, every_append}
use Rattle.text_emit_expr.proofs.RestLaws.{prefixed-twice, prefixed-then, prefixed-expect}
use Rattle.text_emit_expr.proofs.EndedRest.{not_left, expect-read}
use Rattle.text_emit_expr.proofs.EndsLaws.{and-false, Refused, refused-ends, ends-lower, ends-put, put-more}
use Rattle.text_emit_expr.proofs.PartLaws.{same-tree, same_left, ReadsBoth, both_read, then-both}

-- What is left

module _ (scopes : Scopes) (sc : Scope) where
  unfoldable pub parameters_rest : List Token → Reading (List Instruction)
  parameters_rest ts = and_then (method_params_from scopes ts) (λ es us. read (arguments_by place_of sc es) us)

  unfoldable pub argument_rest : List Token → Reading (List Instruction)
  argument_rest ts = cond (next? "," ts) (parameters_rest (rest ts)) (expect ")" ts (λ us. read [] us))

  first-argument : (ts : List Token)
      → parameters_rest ts ≡ and_then (expr_from scopes ts) (λ e us. prefixed (code_by place_of sc e) (argument_rest us))
  unfolding parameters_rest argument_rest method_params_rule and_then prefixed code_by
  first-argument ts =
      let E : Reading Expr = expr_from scopes ts in
      let g : Exprs → List Token → Reading (List Instruction) = λ es us. read (arguments_by place_of sc es) us in
      let more : Expr → List Token → Reading Exprs = λ e us.
      cond (next? "," us) (and_then (method_params_from scopes (rest us)) (λ es vs. read (also e es) vs))
      (expect ")" us (λ vs. read (also e no_more) vs)) in
      ap (λ (m : Reading Exprs). and_then m g) (grammar.method_params-is scopes ts)
      ∙ and_then-assoc E more g
      ∙ and_then-same E (λ e us. and_then (more e us) g) (λ e us. prefixed (code_by place_of sc e) (argument_rest us))
      (λ e us q. argument e us (next? "," us))
    where
      g : Exprs → List Token → Reading (List Instruction)
      g es us = read (arguments_by place_of sc es) us

      argument : (e : Expr) (us : List Token) (b : Bool)
          → and_then
          (cond b (and_then (method_params_from scopes (rest us)) (λ es vs. read (also e es) vs))
          (expect ")" us (λ vs. read (also e no_more) vs))) g
          ≡ prefixed (code_by place_of sc e)
          (cond b (parameters_rest (rest us)) (expect ")" us (λ us. read [] us)))
      argument e us true =
          and_then-assoc (method_params_from scopes (rest us)) (λ es vs. read (also e es) vs) g
          ∙ sym (prefixed-then (code_by place_of sc e) (method_params_from scopes (rest us)) g)
      argument e us false =
          expect-then scopes ")" us (λ vs. read (also e no_more) vs) g
          ∙ sym (prefixed-expect (code_by place_of sc e) ")" us (λ us. read [] us))

-- A whole list of instructions written

prefixed-none : (m : Reading (List Instruction)) → prefixed [] m ≡ m
unfolding prefixed
prefixed-none (read c us) = refl
prefixed-none (leaves i) = refl

and-right-true : (a b : Bool) → (a && b) ≡ true → b ≡ true
and-right-true true b h = h
and-right-true false b h = absurd (passes h)

and-left-true : (a b : Bool) → (a && b) ≡ true → a ≡ true
and-left-true true b h = refl
and-left-true false b h = absurd (passes h)

ends-list : (text : List ℕ) (low count : ℕ) (code : List ℕ) (c : List Instruction) (m : Reading (List Instruction))
    (r : Answer) → every number_fits c ≡ true
    → Ends text low (count + length c) (put_from code (2 * count) (code_words c)) m r
    → Ends text low count code (prefixed c m) r
unfolding put_from code_words
ends-list text low count code [] m r f h =
    subst (λ x. Ends text low count code x r) (sym (prefixed-none m))
    (subst (λ (i : ℕ). Ends text low i code m r) {x = count + 0} {y = count} (omega arith) h)
ends-list text low count code (i ∷ c) m r f h =
    subst (λ x. Ends text low count code x r) (prefixed-twice (i ∷ []) c m)
    (ends-put text low count code i (prefixed c m) r (and-left-true (number_fits i) (every number_fits c) f)
    (ends-list text low (count + 1) (put_from code (2 * count) (i.op ∷ i.argument ∷ [])) c m r
    (and-right-true (number_fits i) (every number_fits c) f)
    (subst (λ (j : ℕ). Ends text low j
    (put_from (put_from code (2 * count) (i.op ∷ i.argument ∷ [])) (2 * (count + 1)) (code_words c)) m r)
    {x = count + suc (length c)} {y = count + 1 + length c} (omega arith)
    (subst (λ z. Ends text low (count + suc (length c)) z m r) (sym (put-more code count i c)) h))))

-- what does not fit fits no better with more after it
refused-list : (count : ℕ) (c : List Instruction) (m : Reading (List Instruction))
    → (leb (count + length c) 4096 && every number_fits c) ≡ false → Refused count (prefixed c m)
unfolding prefixed
refused-list count c (leaves i) f d us e = absurd (not_left refl e)
refused-list count c (read b vs) f d us e =
    subst (λ x. (leb (count + length x) 4096 && every number_fits x) ≡ false) (same-tree (c ++ b) d vs us e)
    (by (leb (count + length c) 4096) refl (every number_fits c) refl f)
  where
    long : leb (count + length c) 4096 ≡ false → leb (count + length (c ++ b)) 4096 ≡ false
    long h =
        let l : 4096 < count + length c = leb-false (count + length c) 4096 h in
        lt-leb (count + length (c ++ b)) 4096 (omega (arith, length-append c b))

    by : (x : Bool) → leb (count + length c) 4096 ≡ x → (y : Bool) → every number_fits c ≡ y → (x && y) ≡ false
        → (leb (count + length (c ++ b)) 4096 && every number_fits (c ++ b)) ≡ false
    by false x y z h = rw (long x) refl
    by true x true z h = absurd (passes (sym h))
    by true x false z h =
        rw (every_append number_fits c b ∙ ap (λ (w : Bool). w && every number_fits b) z)
        (and-false (leb (count + length (c ++ b)) 4096))

-- The answers from after an argument, and from its beginning

-- after an argument whose code fits, what comes after it; else the answer is no
pub record After (scopes : Scopes) (sc : Scope) (text code : List ℕ) (r : Said) (a : Answer) : Type 0 where
  pub fits : r.ok ≡ true
      → Ends text (suc r.at) r.count code (argument_rest scopes sc (tokens_at text r.at)) a
  pub not : r.ok ≡ false → a.ok ≡ false

module _ (text scope : List ℕ) (n at : ℕ) (code : List ℕ) (count : ℕ) (code₁ : List ℕ) (r : Said)
    (emission : ExpressionEmitted text scope n at code count code₁ r) (le : n ≤ 16) (scopes : Scopes) (sc : Scope)
    (pl : Placing text scope n sc) where
  pub argument-ends : (a : Answer) → After scopes sc text code₁ r a
      → Ends text (suc at) count code (parameters_rest scopes sc (tokens_at text at)) a
  argument-ends a after d us q =
      of (then-both (expr_from scopes (tokens_at text at))
      (λ e us. prefixed (code_by place_of sc e) (argument_rest scopes sc us)) d us
      (sym (first-argument scopes sc (tokens_at text at)) ∙ q))
    where
      by : (e : Expr) (vs : List Token) → Emitted text at code count (code_by place_of sc e) (expr_numbers e) vs code₁ r
          → prefixed (code_by place_of sc e) (argument_rest scopes sc vs) ≡ read d us → (b : Bool) → r.ok ≡ b
          → Outcome text (suc at) count code d us a
      by e vs m g true b =
          let c : List Instruction = code_by place_of sc e in
          let fits : every number_fits c ≡ true =
          sym (numbers_fit place_of sc e)
          ∙ and-right-true (leb (count + length c) 4096) (every is_number (expr_numbers e)) (sym m.judged ∙ b) in
          let on : at < r.at = m.onward b in
          let rest₁ = argument_rest scopes sc (tokens_at text r.at) in
          let later : Ends text (suc r.at) (count + length c) (put_from code (2 * count) (code_words c)) rest₁ a =
          subst (λ (i : ℕ). Ends text (suc r.at) i (put_from code (2 * count) (code_words c)) rest₁ a) (m.counted b)
          (subst (λ z. Ends text (suc r.at) r.count z rest₁ a) (m.written b) (after.fits b)) in
          ends-lower text (suc at) (suc r.at) count code (prefixed c rest₁) a (omega arith)
          (ends-list text (suc r.at) count code c rest₁ a fits later) d us
          (ap (λ ws. prefixed c (argument_rest scopes sc ws)) (sym (m.left b)) ∙ g)
      by e vs m g false b =
          let c : List Instruction = code_by place_of sc e in
          refused-ends text (suc at) count code (prefixed c (argument_rest scopes sc vs)) a (after.not b)
          (refused-list count c (argument_rest scopes sc vs)
          (ap (λ (x : Bool). leb (count + length c) 4096 && x) (sym (numbers_fit place_of sc e)) ∙ sym m.judged ∙ b))
          d us g

      of : ReadsBoth (expr_from scopes (tokens_at text at))
          (λ e us. prefixed (code_by place_of sc e) (argument_rest scopes sc us)) d us
          → Outcome text (suc at) count code d us a
      of (both_read e vs p g) = by e vs (emission le scopes sc pl e vs p) g r.ok refl

-- every answer from after the argument r is one from the first argument's beginning
abbrev pub Continued : List ℕ → List ℕ → ℕ → ℕ → List ℕ → ℕ → List ℕ → Said → Type 0
Continued text scope n from code count code' r =
    n ≤ 16 → (scopes : Scopes) (sc : Scope) → Placing text scope n sc → (a : Answer)
    → After scopes sc text code' r a → Ends text (suc from) count code (parameters_rest scopes sc (tokens_at text from)) a

-- every answer from after one argument is one from after an earlier one
abbrev pub Later : List ℕ → List ℕ → ℕ → List ℕ → Said → List ℕ → Said → Type 0
Later text scope n code r code' r' =
    n ≤ 16 → (scopes : Scopes) (sc : Scope) → Placing text scope n sc → (a : Answer)
    → After scopes sc text code' r' a → After scopes sc text code r a

module _ (text scope : List ℕ) (n : ℕ) (code₁ : List ℕ) (r : Said) (t : TokenAt)
    (next : NextToken text r.at t) where
  comma-passed : t.kind ≡ 25 → Passed text r.at t.end
  comma-passed e = passed-next text r.at t next (λ g. omega (arith, e, g))

  pub comma-onward : t.kind ≡ 25 → (r.at < t.end) × (t.end ≤ length text)
  comma-onward e = ((comma-passed e).onward, (comma-passed e).within)

  -- a comma, and the next argument
  pub comma-later : (code₂ : List ℕ) (r₂ : Said) → r.ok ≡ true → t.kind ≡ 25
      → ExpressionEmitted text scope n t.end code₁ r.count code₂ r₂ → Later text scope n code₁ r code₂ r₂
  unfolding argument_rest
  comma-later code₂ r₂ fit comma m le scopes sc pl a after =
      let pass = comma-passed comma in
      let on : r.at < t.end = pass.onward in record {
        fits = λ b.
            subst (λ x. Ends text (suc r.at) r.count code₁ x a) (sym (comma-rest scopes sc comma))
            (ends-lower text (suc r.at) (suc t.end) r.count code₁
            (parameters_rest scopes sc (tokens_at text t.end)) a (omega arith)
            (argument-ends text scope n t.end code₁ r.count code₂ r₂ m le scopes sc pl a after));
        not = λ b. absurd (clash b (passes fit));
      }
    where
      comma-rest : (scopes : Scopes) (sc : Scope) → t.kind ≡ 25
          → argument_rest scopes sc (tokens_at text r.at) ≡ parameters_rest scopes sc (tokens_at text t.end)
      comma-rest scopes sc e =
          rw (is-comma (first (tokens_at text r.at))
          ∙ ap (λ (j : ℕ). eqb j 25) (kind-next text r.at t next ∙ e))
          (ap (parameters_rest scopes sc) (comma-passed e).after)

pub later-here : (text scope : List ℕ) (n : ℕ) (code : List ℕ) (r : Said) → Later text scope n code r code r
later-here text scope n code r le scopes sc pl a after = after

pub later-then : (text scope : List ℕ) (n : ℕ) (code : List ℕ) (r : Said) (code₁ : List ℕ) (r₁ : Said)
    (code₂ : List ℕ) (r₂ : Said) → Later text scope n code r code₁ r₁ → Later text scope n code₁ r₁ code₂ r₂
    → Later text scope n code r code₂ r₂
later-then text scope n code r code₁ r₁ code₂ r₂ f g le scopes sc pl a after =
    f le scopes sc pl a (g le scopes sc pl a after)

-- from the first argument on
pub continued-by : (text scope : List ℕ) (n from : ℕ) (code : List ℕ) (count : ℕ) (code₁ : List ℕ) (r : Said)
    (code₂ : List ℕ) (r₂ : Said) → ExpressionEmitted text scope n from code count code₁ r
    → Later text scope n code₁ r code₂ r₂ → Continued text scope n from code count code₂ r₂
continued-by text scope n from code count code₁ r code₂ r₂ m f le scopes sc pl a after =
    argument-ends text scope n from code count code₁ r m le scopes sc pl a (f le scopes sc pl a after)

module _ (text scope : List ℕ) (n from : ℕ) (code : List ℕ) (count : ℕ) (code₁ : List ℕ) (r : Said) (t : TokenAt)
    (next : NextToken text r.at t) (so_far : Continued text scope n from code count code₁ r) where
  -- the last argument
  no-comma : (r.ok && eqb t.kind 25) ≡ false → r.ok ≡ true → eqb t.kind 25 ≡ false
  no-comma e b = sym (ap (λ (x : Bool). x && eqb t.kind 25) b) ∙ e

  last-ends : (scopes : Scopes) (sc : Scope) → (r.ok && eqb t.kind 25) ≡ false → r.at ≤ length text
      → r.count ≤ 4096
      → After scopes sc text code₁ r (record { ok = r.ok; at = t.end; count = r.count; code = code₁ })
  unfolding argument_rest put_from code_words
  last-ends scopes sc e w room = record {
    fits = λ b c us q. of b c us (expect-read ")" (tokens_at text r.at) (λ us. read [] us) c us
        (sym (left b) ∙ q));
    not = λ b. b;
  }
    where
      left : r.ok ≡ true → argument_rest scopes sc (tokens_at text r.at)
          ≡ expect ")" (tokens_at text r.at) (λ us. read [] us)
      left b =
          rw (is-comma (first (tokens_at text r.at))
          ∙ ap (λ (j : ℕ). eqb j 25) (kind-next text r.at t next) ∙ no-comma e b) refl

      of : r.ok ≡ true → (c : List Instruction) (us : List Token)
          → (next? ")" (tokens_at text r.at) ≡ true) × (read [] (rest (tokens_at text r.at)) ≡ read c us)
          → Outcome text (suc r.at) r.count code₁ c us
          (record { ok = r.ok; at = t.end; count = r.count; code = code₁ })
      of b c us (close, q) =
          let kind : t.kind ≡ 20 =
          sym (kind-next text r.at t next)
          ∙ eqb-true (kind_of (first (tokens_at text r.at)).bytes) 20
          (sym (is-close (first (tokens_at text r.at))) ∙ close) in
          let pass : Passed text r.at t.end = passed-next text r.at t next (λ g. omega (arith, kind, g)) in
          subst (λ (x : List Instruction). Outcome text (suc r.at) r.count code₁ x us
          (record { ok = r.ok; at = t.end; count = r.count; code = code₁ }))
          (same-tree [] c (rest (tokens_at text r.at)) us q)
          (record {
            judged = b ∙ sym (rw (le-leb (r.count + 0) 4096 (omega arith)) refl);
            left = λ z. sym (same_left [] c (rest (tokens_at text r.at)) us q) ∙ pass.after;
            onward = λ z. pass.onward;
            inside = λ z. pass.within;
            counted = λ z. omega arith;
            written = λ z. refl;
          })

  pub parameters-emitted : (r.ok && eqb t.kind 25) ≡ false → r.at ≤ length text → r.count ≤ 4096
      → ParametersEmitted text scope n from code count code₁ (record { ok = r.ok; at = t.end; count = r.count })
  unfolding parameters_rest and_then
  parameters-emitted e w room le scopes sc pl es us q =
      let o : Outcome text (suc from) count code (arguments_by place_of sc es) us
      (record { ok = r.ok; at = t.end; count = r.count; code = code₁ }) =
      so_far le scopes sc pl (record { ok = r.ok; at = t.end; count = r.count; code = code₁ })
      (last-ends scopes sc e w room) (arguments_by place_of sc es) us
      (ap (λ m. and_then m (λ es us. read (arguments_by place_of sc es) us)) q) in record {
        judged = o.judged
            ∙ ap (λ (b : Bool). leb (count + length (arguments_by place_of sc es)) 4096 && b)
            (sym (arguments-fit place_of sc es));
        left = o.left;
        onward = o.onward;
        inside = o.inside;
        counted = o.counted;
        written = o.written;
      }

-- an argument does not fit
pub parameters-refused : (text scope : List ℕ) (n from : ℕ) (code : List ℕ) (count : ℕ) (code₁ : List ℕ) (r : Said)
    → r.ok ≡ false → Continued text scope n from code count code₁ r
    → ParametersEmitted text scope n from code count code₁ r
unfolding parameters_rest and_then
parameters-refused text scope n from code count code₁ r refused so_far le scopes sc pl es us q =
    let o : Outcome text (suc from) count code (arguments_by place_of sc es) us
    (record { ok = r.ok; at = r.at; count = r.count; code = code₁ }) =
    so_far le scopes sc pl (record { ok = r.ok; at = r.at; count = r.count; code = code₁ })
    (record { fits = λ b. absurd (clash refused (passes b)); not = λ b. b }) (arguments_by place_of sc es) us
    (ap (λ m. and_then m (λ es us. read (arguments_by place_of sc es) us)) q) in record {
      judged = o.judged
          ∙ ap (λ (b : Bool). leb (count + length (arguments_by place_of sc es)) 4096 && b)
          (sym (arguments-fit place_of sc es));
      left = o.left;
      onward = o.onward;
      inside = o.inside;
      counted = o.counted;
      written = o.written;
    }

-- Arguments: none, or these

module _ (text scope : List ℕ) (n from : ℕ) (code : List ℕ) (count : ℕ) (t : TokenAt)
    (next : NextToken text from t) where
  pub no_arguments : t.kind ≡ 20 → count ≤ 4096
      → ArgumentsEmitted text scope n from code count code (record { ok = true; at = t.end; count = count })
  unfolding arguments_rule code_by expr_numbers put_from code_words
  no_arguments e room le scopes sc pl es us q =
      let pass : Passed text from t.end = passed-next text from t next (λ g. omega (arith, e, g)) in
      let none : read no_more (rest (tokens_at text from)) ≡ read es us =
      sym (rw (is-close (first (tokens_at text from)) ∙ ap (λ (j : ℕ). eqb j 20) (kind-next text from t next ∙ e))
      refl) ∙ q in
      subst (λ (x : Exprs). Emitted text from code count (arguments_by place_of sc x) (exprs_numbers x) us code
      (record { ok = true; at = t.end; count = count })) (same-tree no_more es (rest (tokens_at text from)) us none)
      (record {
        judged = sym (rw (le-leb (count + 0) 4096 (omega arith)) refl);
        left = λ z. sym (same_left no_more es (rest (tokens_at text from)) us none) ∙ pass.after;
        onward = λ z. pass.onward;
        inside = λ z. pass.within;
        counted = λ z. omega arith;
        written = λ z. refl;
      })

  pub some-arguments : (code' : List ℕ) (r : Said) → (t.kind ≡ 20 → ⊥)
      → ParametersEmitted text scope n from code count code' r → ArgumentsEmitted text scope n from code count code' r
  unfolding arguments_rule
  some-arguments code' r f m le scopes sc pl es us q =
      m le scopes sc pl es us
      (sym (rw (is-close (first (tokens_at text from))
      ∙ ap (λ (j : ℕ). eqb j 20) (kind-next text from t next) ∙ ne_eqb t.kind 20 f) refl) ∙ q)

-- a token ends within the text, after the place it is looked for from
pub token-reach : (text : List ℕ) (from i : ℕ) (t : TokenAt) → NextToken text i t → from ≤ i → i ≤ length text
    → (from ≤ t.end) × (t.end ≤ length text)
token-reach text from i t n h w =
    let a : i ≤ t.start = n.starts in
    let b : t.start ≤ t.end = n.ends in
    (omega arith, n.within w)
