-- Where the pass stands: at its start, after a token, and after the levels are found again.
use Prim.Native.Nat.{ℕ, suc, ◌+◌, ◌≤◌, ◌<◌}
use native.Mathlib.Omega.{arith}
use mathlib.Core.Path.{◌≡◌, refl, sym, ap, ◌∙◌, subst}
use mathlib.Core.Logic.{◌⊎◌, ⊎_elim}
use mathlib.Core.Bool.{Bool, true, false, cond, ◌||◌, true≢false}
use mathlib.Core.List.{List, []}
use mathlib.Core.Option.{some}
use borrow.Author.Tests.{eqb-true, eq-eqb}
use lib.Dec.{eqb, ltb}
use lib.ListN.{length, length-set}
use Rattle.lists.proofs.Tests.{decide}
use Rattle.text.specs.Tree.{Expr}
use Rattle.text_parse.specs.Tokens.{Token}
use Rattle.text_parse.specs.Grammar.{Scopes, first}
use Rattle.text_parse.specs.Equations.{expr_from}
use Rattle.text_tokens.specs.Places.{tokens_at}
use Rattle.text_tokens.specs.KindsCode.{kind_of}
use Rattle.text_tokens.specs.NextCode.{NextToken}
use Rattle.text_tokens.specs.declared.next.TokenAt.{TokenAt}
use Rattle.text_types.specs.SaysCode.{Says}
use Rattle.text_expr.specs.LevelsCode.{innermost, is_open, action, known, phase_after}
use Rattle.text_expr.proofs.Notes.{Continues, Right, action-known}
use Rattle.text_effect.specs.EffectCode.{token, phase_in, effect_in, bracket_in}
use Rattle.text_window.specs.WindowCode.{slot_of, cell, put, counts_after, brackets_after, depth_after, stops_on, note_at, Window, innermost_in}
use Rattle.std.specs.Prelude.{is_ok}
use Rattle.text_types.specs.Answer.{place_at}
use Rattle.text_pass.specs.WalkCode.{State, begins, doing, Leads, there, Standing, Ready, answer_of}
use Rattle.text_effect.specs.declared.phase.Phase.{Phase}
use Rattle.text_effect.specs.declared.phase.Phase.TheVariants.{Operand}
use Rattle.text_effect.specs.declared.phase.Effect.{Effect}
use Rattle.text_effect.specs.declared.phase.Effect.TheVariants.{Stay, Assigns, Unassigns, OpensBracket, OpensCall, Closes, NextArgument, Astray, Beyond}
use Rattle.text_window.proofs.WindowLaws.{put-cell}
use Rattle.text_pass.proofs.SeenLaws.{seen}
use Rattle.text_pass.proofs.WalkLaws.{goes-kind, leads-moved, leads_goes}
use Rattle.text_pass.proofs.ExprLaws.{here, next-after, stands_on, stop-says}

pub goes-effect : (text : List ℕ) (e : Effect) → stops_on e ≡ false → Continues (effect_in text e)
unfolding stops_on effect_in
goes-effect text (Stay p) h = tt
goes-effect text Assigns h = tt
goes-effect text Unassigns h = tt
goes-effect text OpensBracket h = tt
goes-effect text OpensCall h = tt
goes-effect text Closes h = tt
goes-effect text NextArgument h = tt
goes-effect text (Astray i) h = absurd (true≢false h)
goes-effect text Beyond h = absurd (true≢false h)

-- the lengths after a token
pub counts-kept : (low depth : ℕ) (e : Effect) (xs : List ℕ) → length (counts_after low depth e xs) ≡ length xs
unfolding counts_after
counts-kept low depth (Stay p) xs = refl
counts-kept low depth Assigns xs = length-set xs (slot_of (length xs) low depth) _
counts-kept low depth Unassigns xs = length-set xs (slot_of (length xs) low depth) _
counts-kept low depth OpensBracket xs = length-set xs (slot_of (length xs) low _) 0
counts-kept low depth OpensCall xs = length-set xs (slot_of (length xs) low _) 0
counts-kept low depth Closes xs = refl
counts-kept low depth NextArgument xs = length-set xs (slot_of (length xs) low depth) 0
counts-kept low depth (Astray i) xs = refl
counts-kept low depth Beyond xs = refl

pub brackets-kept : (low depth : ℕ) (e : Effect) (xs : List ℕ) → length (brackets_after low depth e xs) ≡ length xs
unfolding brackets_after
brackets-kept low depth (Stay p) xs = refl
brackets-kept low depth Assigns xs = refl
brackets-kept low depth Unassigns xs = refl
brackets-kept low depth OpensBracket xs = length-set xs (slot_of (length xs) low depth) 1
brackets-kept low depth OpensCall xs = length-set xs (slot_of (length xs) low depth) 2
brackets-kept low depth Closes xs = refl
brackets-kept low depth NextArgument xs = refl
brackets-kept low depth (Astray i) xs = refl
brackets-kept low depth Beyond xs = refl

-- nothing is open at the start
pub first-right : (room low : ℕ) (counts brackets : List ℕ) → length counts ≡ room → (d : ℕ) → low ≤ d → d < low +
    room
    → Right d (note_at low 0 (put low 0 0 counts) brackets d) 0 []
first-right room low counts brackets s d l u = record {
  depth = refl;
  count = λ e. put-cell room low 0 0 counts d s l u
      ∙ ap (λ (b : Bool). cond b 0 (cell counts low d)) (eq-eqb 0 d e);
  level = λ m. absurd (omega arith);
  same = λ m. absurd (omega arith);
}

module _ (scopes : Scopes) (text : List ℕ) (from : ℕ) where
  pub first-leads : Leads scopes text (begins from)
      (record { at = from; phase = phase_in text Operand; count = 0; levels = [] })
  unfolding phase_in
  first-leads = there

  abbrev pub stands-first : (room low : ℕ) (counts brackets : List ℕ) → length counts ≡ room → length brackets ≡ room
      → Standing scopes text from from Operand room low 0 (put low 0 0 counts) brackets
  stands-first room low counts brackets s t = record {
    count = 0;
    levels = [];
    leads = first-leads;
    window = record {
      deep = refl;
      counts-size = length-set counts (slot_of (length counts) low 0) 0 ∙ s;
      brackets-size = t;
      right = first-right room low counts brackets s;
    };
  }

  module _
      (at : ℕ)
      (phase : Phase)
      (room low depth : ℕ)
      (counts brackets : List ℕ)
      (s : Standing scopes text from at phase room low depth counts brackets)
    where
      abbrev Here : State
      Here = here scopes text from at phase room low depth counts brackets s

      -- the levels are found again
      pub found-again : (r : ℕ) (counts' brackets' : List ℕ)
          → ((q : State) → Leads scopes text (begins from) q → q.at ≡ at
          → Window room r (length q.levels) counts' brackets' q.count q.levels)
          → Standing scopes text from at phase room r depth counts' brackets'
      found-again r counts' brackets' f = record {
        count = s.count;
        levels = s.levels;
        leads = s.leads;
        window =
            subst (λ (d : ℕ). Window room r d counts' brackets' s.count s.levels) (sym s.window.deep)
            (f Here s.leads refl);
      }

      module _ (t : TokenAt) (n : NextToken text at t) where
        first-token : first (tokens_at text at) ≡ token text t
        first-token = ap first n.reads

        -- what the code says of a token is what it does
        pub effect-doing : (e : Effect) (a : Bool) (bracket : ℕ) → Ready phase t.kind room low depth
            → a ≡ ltb 0 (cell counts low depth) → bracket ≡ innermost_in low depth brackets
            → effect_in text e ≡ action scopes (phase_in text phase) a (bracket_in bracket) (token text t)
            → effect_in text e ≡ doing scopes text Here
        effect-doing e a bracket ready o b q =
            q
            ∙ ap (λ (x : Bool). action scopes (phase_in text phase) x (bracket_in bracket) (token text t)) o
            ∙ ap
            (λ (x : ℕ). action scopes (phase_in text phase) (ltb 0 (cell counts low depth)) (bracket_in x)
            (token text t)) b
            ∙ seen scopes text (token text t) t.kind n.kind phase room low depth counts brackets s.count
            s.levels
            s.window ready
            ∙ ap (λ (x : Token). action scopes (phase_in text phase) (is_open s.count) (innermost s.levels) x)
            (sym first-token)

        -- the pass stops, at the text's end at the latest
        pub ends-says : (e : Effect) → (stops_on e || eqb t.kind 32) ≡ true → effect_in text e ≡ doing scopes text
            Here
            → Says text (suc from) (λ (x : Expr). Unit {0}) (is_ok (answer_of at e)) (place_at (answer_of at e))
            (expr_from scopes (tokens_at text from))
        ends-says e h q =
            ⊎_elim (λ y. stop-says scopes text from at phase room low depth counts brackets s e y q)
            (λ z. absurd (goes-kind scopes text Here (subst Continues q (goes-effect text e z))
            (ap (λ (x : Token). kind_of x.bytes) first-token ∙ sym n.kind ∙ eqb-true t.kind 32 (ended z))))
            (decide (stops_on e))
          where
            ended : stops_on e ≡ false → eqb t.kind 32 ≡ true
            ended z = sym (ap (λ (b : Bool). b || eqb t.kind 32) z) ∙ h

  -- the room under another name
  pub in-room : {at : ℕ} {phase : Phase} {room room' low depth : ℕ} {counts brackets : List ℕ} → room ≡ room'
      → Standing scopes text from at phase room low depth counts brackets
      → Standing scopes text from at phase room' low depth counts brackets
  in-room {at} {phase} {room} {room'} {low} {depth} {counts} {brackets} e s =
      subst (λ (r : ℕ). Standing scopes text from at phase r low depth counts brackets) e s

  -- A walk up to a state that the pass has come to
  pub record Returning
      (q : State)
      (at : ℕ)
      (phase : Phase)
      (room low depth : ℕ)
      (counts brackets : List ℕ)
      : Type 0
    where
      pub standing : Standing scopes text from at phase room low depth counts brackets
      pub onward : Leads scopes text (here scopes text from at phase room low depth counts brackets standing) q

  pub returning-first : (q : State) → Leads scopes text (begins from) q → (room low : ℕ) (counts brackets : List ℕ)
      → length counts ≡ room → length brackets ≡ room
      → Returning q from Operand room low 0 (put low 0 0 counts) brackets
  unfolding phase_in
  returning-first q l room low counts brackets s t =
      record { standing = stands-first room low counts brackets s t; onward = l }

  module _
      (q : State)
      (at : ℕ)
      (phase : Phase)
      (room low depth : ℕ)
      (counts brackets : List ℕ)
      (r : Returning q at phase room low depth counts brackets)
    where
      abbrev There : State
      There = here scopes text from at phase room low depth counts brackets r.standing

      -- at its end
      pub returned : q.at ≤ at → Window room low (length q.levels) counts brackets q.count q.levels
      returned h =
          ⊎_elim
          (λ e. subst (λ (x : State). Window room low (length x.levels) counts brackets x.count x.levels) e
          (subst (λ (d : ℕ). Window room low d counts brackets r.standing.count r.standing.levels)
          r.standing.window.deep r.standing.window))
          (λ m. let more : at < q.at = m.0 in absurd (omega arith)) (leads-moved scopes text r.onward)

      module _ (later : at < q.at) (t : TokenAt) (n : NextToken text at t) where
        -- it does not come to the text's end
        pub not-ended : t.kind ≡ 32 → ⊥
        not-ended e =
            goes-kind scopes text There (leads_goes scopes text r.onward later).0
            (ap (λ (x : Token). kind_of x.bytes) (first-token at phase room low depth counts brackets r.standing
            t n)
            ∙ sym n.kind ∙ e)

        -- what a token does is known without the levels
        known-doing : (e : Effect)
            → effect_in text e ≡ action scopes (phase_in text phase) true (bracket_in 2) (token text t)
            → effect_in text e ≡ doing scopes text There
        unfolding bracket_in known
        known-doing e h =
            h
            ∙ ap (λ (x : Token). action scopes (phase_in text phase) true (some true) x)
            (sym (first-token at phase room low depth counts brackets r.standing t n))
            ∙ sym
            (action-known scopes (phase_in text phase) (is_open r.standing.count) (innermost r.standing.levels)
            (first (tokens_at text at)) (leads_goes scopes text r.onward later).0)

        pub returning-on : (e : Effect)
            → effect_in text e ≡ action scopes (phase_in text phase) true (bracket_in 2) (token text t)
            → length text < 18446744073709551616 → (p : Phase) → phase_in text p ≡ phase_after (effect_in text e)
            → Returning q t.end p room low (depth_after e depth) (counts_after low depth e counts)
            (brackets_after low depth e brackets)
        returning-on e h size p ph =
            let w : effect_in text e ≡ doing scopes text There = known-doing e h in
            let gl = leads_goes scopes text r.onward later in
            let g : Continues (effect_in text e) = subst Continues (sym w) gl.0 in
            record {
              standing = stands_on scopes text from at phase room low depth counts brackets r.standing t n e w g
                  size p ph;
              onward =
                  subst (λ (x : State). Leads scopes text x q)
                  (next-after scopes text from at phase room low depth counts brackets r.standing t n e w g size p
                  ph)
                  gl.1;
            }
