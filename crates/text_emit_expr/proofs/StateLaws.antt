-- States: what an emission, a push and a pop make of one, in terms of the answers from it on.
use Prim.Native.Nat.{ℕ, suc, ◌+◌, ◌*◌, ◌-◌, ◌≤◌, ◌<◌}
use native.Mathlib.Omega.{arith}
use mathlib.Core.Path.{◌≡◌, refl, sym, ap, ◌∙◌, subst}
use mathlib.Core.Bool.{true, false, cond}
use mathlib.Core.List.{List, [], ◌∷◌}
use lib.Dec.{eqb, leb}
use lib.ListN.{length, get_or}
use Rattle.lists.specs.Lists.{put_from}
use Rattle.lists.proofs.Put.{put_from-length}
use Rattle.text.specs.Translation.{Instruction, instruction, INT, Scope}
use Rattle.text_parse.specs.Grammar.{Reading, Scopes}
use Rattle.text_tokens.specs.Places.{tokens_at}
use Rattle.text_numbering.specs.CodeBy.{number_fits}
use Rattle.text_emit_expr.specs.RestCode.{waiting, prefixed, operand_rest, rest_of, frames_in}
use Rattle.text_emit_expr.specs.EndsCode.{Answer, Ends, frames_of, lowest, EndsFrom, Leads, Standing, gave_up, gone, Emission, emitted, too_many, Push, pushed, too-deep, Pop, popped, no_place}
use Rattle.text_emit_expr.specs.declared.state.StateAt.{StateAt}
use Rattle.text_emit_expr.proofs.StackLaws.{frames-pushed, frames-top, frames-none, push-many}
use Rattle.text_emit_expr.proofs.EndsLaws.{and-false, Refused, refused-ends, long-refused, full-refused, ends-lower, ends-put}

module _ (scopes : Scopes) (sc : Scope) (text : List ℕ) where
  abbrev pub rest_from : List ℕ → StateAt → Reading (List Instruction)
  rest_from p s = rest_of scopes sc s.phase (frames_of p s) (tokens_at text s.at)

  -- an emission that has given up answers no
  pub gave-up-no : (p code : List ℕ) (s : StateAt) (r : Answer) → EndsFrom scopes sc text p code (gave_up s) r
      → r.ok ≡ false
  unfolding rest_of number_fits
  gave-up-no p code s r h =
      (h (INT 32768 ∷ []) (tokens_at text s.at) refl).judged ∙ and-false (leb (s.count + 1) 4096)

  pub gave-up-leads : (p code p' code' : List ℕ) (s s' : StateAt) → s' ≡ gave_up s → Refused s.count (rest_from p s)
      → Leads scopes sc text p code s p' code' s'
  gave-up-leads p code p' code' s s' e f r h =
      refused-ends text (lowest s) s.count code (rest_from p s) r
      (gave-up-no p' code' s r (subst (λ t. EndsFrom scopes sc text p' code' t r) e h)) f

  -- the same is left in another state, with the same instructions written
  pub same-leads : (p p' code : List ℕ) (s s' : StateAt) → rest_from p s ≡ rest_from p' s' → s.count ≡ s'.count
      → lowest s ≤ lowest s' → Leads scopes sc text p code s p' code s'
  same-leads p p' code s s' e n le r h =
      subst (λ (i : ℕ). Ends text (lowest s) i code (rest_from p s) r) (sym n)
      (subst (λ m. Ends text (lowest s) s'.count code m r) (sym e)
      (ends-lower text (lowest s) (lowest s') s'.count code (rest_from p' s') r le h))

  module _ (p code : List ℕ) (s : StateAt) (code' : List ℕ) (s' : StateAt) where
    -- an instruction is written
    pub emit-leads : (i : Instruction) (phase at : ℕ) → Emission code s i phase at code' s' → number_fits i ≡ true
        → rest_from p s ≡ prefixed (i ∷ []) (rest_of scopes sc phase (frames_of p s) (tokens_at text at))
        → lowest s ≤ cond (eqb phase 0) (suc at) at
        → Leads scopes sc text p code s p code' s'
    emit-leads i phase at (emitted h e w) f q le r ends =
        let after : StateAt = record {
          phase = phase;
          at = at;
          unclosed = s.unclosed;
          entries = s.entries;
          count = s.count + 1;
        } in
        let m = rest_of scopes sc phase (frames_of p s) (tokens_at text at) in
        let ends₁ : EndsFrom scopes sc text p code' after r = subst (λ t. EndsFrom scopes sc text p code' t r) e ends in
        let ends₂ = subst (λ c. EndsFrom scopes sc text p c after r) w ends₁ in
        subst (λ x. Ends text (lowest s) s.count code x r) (sym q)
        (ends-lower text (lowest s) (lowest after) s.count code (prefixed (i ∷ []) m) r le
        (ends-put text (lowest after) s.count code i m r f ends₂))
    emit-leads i phase at (too_many h e) f q le r ends =
        gave-up-leads p code p code' s s' e
        (subst (Refused s.count) (sym q)
        (full-refused s.count i (rest_of scopes sc phase (frames_of p s) (tokens_at text at)) h)) r ends

    -- the instruction that waited innermost is written
    pub pop-leads : (phase at : ℕ) → Pop p code s phase at code' s' → 0 < s.entries → s.unclosed ≡ 0
        → let o = get_or p (3 * (s.entries - 1)) 0 in
        let a = get_or p (3 * (s.entries - 1) + 1) 0 in
        let k = frames_in p (s.entries - 1) (get_or p (3 * (s.entries - 1) + 2) 0) in
        number_fits (instruction o a) ≡ true
        → rest_of scopes sc s.phase (waiting o a ∷ k) (tokens_at text s.at)
        ≡ prefixed (instruction o a ∷ []) (rest_of scopes sc phase k (tokens_at text at))
        → lowest s ≤ cond (eqb phase 0) (suc at) at
        → Leads scopes sc text p code s p code' s'
    pop-leads phase at (popped h e w) more none f q le r ends =
        let o = get_or p (3 * (s.entries - 1)) 0 in
        let a = get_or p (3 * (s.entries - 1) + 1) 0 in
        let u = get_or p (3 * (s.entries - 1) + 2) 0 in
        let k = frames_in p (s.entries - 1) u in
        let after : StateAt = record {
          phase = phase;
          at = at;
          unclosed = u;
          entries = s.entries - 1;
          count = s.count + 1;
        } in
        let m = rest_of scopes sc phase k (tokens_at text at) in
        let ends₁ : EndsFrom scopes sc text p code' after r = subst (λ t. EndsFrom scopes sc text p code' t r) e ends in
        let ends₂ = subst (λ c. EndsFrom scopes sc text p c after r) w ends₁ in
        subst (λ x. Ends text (lowest s) s.count code x r) (sym (top-rest more none ∙ q))
        (ends-lower text (lowest s) (lowest after) s.count code (prefixed (instruction o a ∷ []) m) r le
        (ends-put text (lowest after) s.count code (instruction o a) m r f ends₂))
      where
        top-rest : 0 < s.entries → s.unclosed ≡ 0
            → rest_from p s
            ≡ rest_of scopes sc s.phase
            (waiting (get_or p (3 * (s.entries - 1)) 0) (get_or p (3 * (s.entries - 1) + 1) 0)
            ∷ frames_in p (s.entries - 1) (get_or p (3 * (s.entries - 1) + 2) 0)) (tokens_at text s.at)
        top-rest more none =
            ap (λ k. rest_of scopes sc s.phase k (tokens_at text s.at))
            (ap (λ (u : ℕ). frames_in p s.entries u) none ∙ frames-top p s.entries more)
    pop-leads phase at (no_place h e) more none f q le r ends =
        let o = get_or p (3 * (s.entries - 1)) 0 in
        let a = get_or p (3 * (s.entries - 1) + 1) 0 in
        let k = frames_in p (s.entries - 1) (get_or p (3 * (s.entries - 1) + 2) 0) in
        gave-up-leads p code p code' s s' e
        (subst (Refused s.count)
        (sym (ap (λ j. rest_of scopes sc s.phase j (tokens_at text s.at))
        (ap (λ (u : ℕ). frames_in p s.entries u) none ∙ frames-top p s.entries more) ∙ q))
        (full-refused s.count (instruction o a) (rest_of scopes sc phase k (tokens_at text at)) h)) r ends

  -- an instruction waits from now on
  pub push-leads : (p code : List ℕ) (s : StateAt) (p' : List ℕ) (s' : StateAt) (o a at : ℕ)
      → Push p s o a at p' s' → Standing text p s
      → rest_from p s ≡ operand_rest scopes sc (waiting o a ∷ frames_of p s) (tokens_at text at)
      → lowest s ≤ suc at → Leads scopes sc text p code s p' code s'
  unfolding rest_of
  push-leads p code s p' s' o a at (pushed h e w) st q le r ends =
      let after : StateAt = record { phase = 0; at = at; unclosed = 0; entries = s.entries + 1; count = s.count } in
      let long : 12288 ≤ length p = st.spacious in
      let ends₁ : EndsFrom scopes sc text p' code after r = subst (λ t. EndsFrom scopes sc text p' code t r) e ends in
      let ends₂ = subst (λ x. EndsFrom scopes sc text x code after r) w ends₁ in
      let ends₃ : Ends text (suc at) s.count code
      (operand_rest scopes sc (waiting o a ∷ frames_of p s) (tokens_at text at)) r =
      subst (λ k. Ends text (suc at) s.count code (operand_rest scopes sc k (tokens_at text at)) r)
      (frames-pushed p s.entries o a s.unclosed (omega arith)) ends₂ in
      subst (λ x. Ends text (lowest s) s.count code x r) (sym q)
      (ends-lower text (lowest s) (suc at) s.count code
      (operand_rest scopes sc (waiting o a ∷ frames_of p s) (tokens_at text at)) r le ends₃)
  push-leads p code s p' s' o a at (too-deep h w e) st q le r ends =
      gave-up-leads p code p' code s s' e
      (subst (Refused s.count) (sym q)
      (long-refused s.count (suc s.entries)
      (operand_rest scopes sc (waiting o a ∷ frames_of p s) (tokens_at text at))
      (push-many scopes sc p s.entries s.unclosed o a (tokens_at text at)) (omega arith))) r ends

-- What holds of each state

module _ (text p : List ℕ) (s : StateAt) (st : Standing text p s) where
  pub gave-up-stands : (p' : List ℕ) (s' : StateAt) → 12288 ≤ length p' → s' ≡ gave_up s → Standing text p' s'
  gave-up-stands p' s' h e = subst (Standing text p') (sym e) (record {
    inside = st.inside;
    shallow = rw (frames-none p') (omega arith);
    room = st.room;
    few = omega arith;
    spacious = h;
  })

  -- the phase and the place alone change
  pub gone-stands : (phase at : ℕ) → s.at ≤ at → at ≤ length text → Standing text p (gone s phase at)
  gone-stands phase at h w =
      let deep : length (frames_of p s) ≤ s.at = st.shallow in record {
        inside = w;
        shallow = omega arith;
        room = st.room;
        few = st.few;
        spacious = st.spacious;
      }

  pub emit-stands : (code code' : List ℕ) (s' : StateAt) (i : Instruction) (phase at : ℕ)
      → Emission code s i phase at code' s' → s.at ≤ at → at ≤ length text → Standing text p s'
  emit-stands code code' s' i phase at (emitted h e w) le l =
      let deep : length (frames_of p s) ≤ s.at = st.shallow in
      subst (Standing text p) (sym e) (record {
        inside = l;
        shallow = omega arith;
        room = omega arith;
        few = st.few;
        spacious = st.spacious;
      })
  emit-stands code code' s' i phase at (too_many h e) le l = gave-up-stands p s' st.spacious e

  pub push-stands : (p' : List ℕ) (s' : StateAt) (o a at : ℕ) → Push p s o a at p' s' → s.at < at → at ≤ length text
      → Standing text p' s'
  push-stands p' s' o a at (pushed h e w) le l =
      let deep : length (frames_of p s) ≤ s.at = st.shallow in
      let long : 12288 ≤ length p = st.spacious in
      let words = o ∷ a ∷ s.unclosed ∷ [] in
      subst (λ q. Standing text q s') (sym w)
      (subst (Standing text (put_from p (3 * s.entries) words)) (sym e) (record {
        inside = l;
        shallow = rw (frames-pushed p s.entries o a s.unclosed (omega arith)) (omega arith);
        room = st.room;
        few = omega arith;
        spacious = omega (arith, put_from-length p (3 * s.entries) words);
      }))
  push-stands p' s' o a at (too-deep h w e) le l =
      gave-up-stands p' s' (subst (λ q. 12288 ≤ length q) (sym w) st.spacious) e

  pub pop-stands : (code code' : List ℕ) (s' : StateAt) (phase at : ℕ) → Pop p code s phase at code' s'
      → 0 < s.entries → s.unclosed ≡ 0 → s.at ≤ at → at ≤ length text → Standing text p s'
  pop-stands code code' s' phase at (popped h e w) more none le l =
      let few : s.entries ≤ 4096 = st.few in
      let u = get_or p (3 * (s.entries - 1) + 2) 0 in
      let deep : suc (length (frames_in p (s.entries - 1) u)) ≤ s.at =
      subst (λ k. length k ≤ s.at) (ap (λ (v : ℕ). frames_in p s.entries v) none ∙ frames-top p s.entries more)
      st.shallow in
      subst (Standing text p) (sym e) (record {
        inside = l;
        shallow = omega arith;
        room = omega arith;
        few = omega arith;
        spacious = st.spacious;
      })
  pop-stands code code' s' phase at (no_place h e) more none le l = gave-up-stands p s' st.spacious e
