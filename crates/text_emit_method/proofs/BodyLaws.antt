-- A method's body: what its block declares is entered after the parameters, and then the code of its statements.
use Prim.Native.Nat.{ℕ, zero, suc, ◌+◌, ◌≤◌, ◌<◌}
use native.Mathlib.Omega.{arith}
use mathlib.Core.Path.{◌≡◌, refl, sym, ap, subst}
use mathlib.Core.Logic.{inr}
use mathlib.Core.Bool.{Bool, true, false}
use mathlib.Core.List.{List, [], ◌∷◌, ◌++◌, map}
use lib.ListN.{length, length-append}
use Rattle.lists.specs.Lists.{put_from}
use Rattle.lists.proofs.Tests.{clash, passes}
use Rattle.text.specs.Tree.{Declared, Declaration, declared_by, parameter_of, body_variables}
use Rattle.text.specs.Translation.{Instruction, code_words, Scope, opened, all_within, variables_of}
use Rattle.text_parse.specs.Tokens.{Token}
use Rattle.text_parse.specs.Grammar.{Reading, and_then, expect}
use Rattle.text_parse.specs.Equations.{declarations_from, statements_from, method_body_rule}
use Rattle.text_tokens.specs.Places.{tokens_at}
use Rattle.text_tokens.specs.NextCode.{NextToken}
use Rattle.text_tokens.specs.declared.next.TokenAt.{TokenAt}
use Rattle.text_tokens.proofs.KindTests.{is-open-brace}
use Rattle.text_scan.proofs.Holding.{Holds, holds, then-holds, expect-holds}
use Rattle.text_slots.specs.Placing.{Placing, nothing_placed}
use Rattle.text_declare.specs.Entered.{tables, Fits, Entered, Entering, all-entered, too_many}
use Rattle.text_declare.specs.Entered.{Tables as Entries}
use Rattle.text_declare.specs.EnterCode.{DeclarationsEnter}
use Rattle.text_declare.proofs.EnteredLaws.{entered-none, entered-then, scope-begun}
use Rattle.text_numbering.specs.CodeBy.{place_of}
use Rattle.text_code.specs.OutcomeCode.{Tables, Written, Outcome, all-written, over}
use Rattle.text_code.specs.StatementBy.{statements_by}
use Rattle.text_code.proofs.Forms.{outcome-same, outcome-lower}
use Rattle.text_emit.specs.Reached.{EmitState}
use Rattle.text_emit.specs.EmitCode.{tables_of}
use Rattle.text_emit.proofs.EmitLaws.{emit_at, lost}
use Rattle.text_emit_block.specs.BlockCode.{StatementsTranslate}
use Rattle.text_emit_block.proofs.LevelLaws.{then-any}
use Rattle.text_emit_method.specs.StepsCode.{body_by, before, BodyTranslates}
use Rattle.text_emit_method.proofs.HeaderLaws.{mark-passed, enters-holds}

pub entered_of : {text : List ℕ} {ds : List Declared} {σ τ : Entries} {ok : Bool} → Entering text ds σ ok τ → ok ≡ true
    → Entered text ds σ τ
entered_of (all-entered o e) t = e
entered_of (too_many o h) t = absurd (clash o (passes t))

pub too-many-of : {text : List ℕ} {ds : List Declared} {σ τ : Entries} {ok : Bool} → Entering text ds σ ok τ
    → ok ≡ false → 16 < σ.used + length ds
too-many-of (all-entered o e) t = absurd (clash t (passes o))
too-many-of (too_many o h) t = h

-- no variable stays in scope after a method
none_kept : {text scope scope' : List ℕ} (m : ℕ) (sc : Scope) → m ≤ 0 → Placing text scope m sc
    → Placing text scope' m sc
none_kept {text = text} {scope = scope} zero (_ ∷ _) h p = elim p [ ]
none_kept zero [] h nothing_placed = nothing_placed
none_kept (suc m) sc h p = absurd (omega arith)

module _ (text : List ℕ) (scope row row₀ code : List ℕ) (n given : ℕ) where
  -- the tables after the variables of the body are entered
  abbrev Inside : Tables
  Inside = record { n = n; used = 0; count = 0; scope = scope; row = row₀; code = code }

  variables-written : (vs : List Declared) (scope₀ : List ℕ)
      → Entered text vs (tables scope₀ 0 row₀ 0) (tables scope n row given)
      → Written text [] vs Inside (record { n = n; used = given; count = 0; scope = scope; row = row; code = code })
  unfolding code_words put_from
  variables-written vs scope₀ e = record {
    counted = refl;
    few = omega arith;
    given = e.given;
    room = e.fits.room;
    same-scope = refl;
    words = refl;
    types = e.types;
    kept = λ m sc h p. p;
  }

  module _ (r : EmitState) (scope' row' code' : List ℕ) where
    -- the same seen from before the method
    body-outcome : {low : ℕ} {c : List Instruction} {vs : List Declared} {us : List Token} {ok : Bool} {at : ℕ}
        → Outcome text low c vs us Inside ok at (tables_of r n scope' row' code')
        → Outcome text low c vs us (before row₀ code) ok at (tables_of r 0 scope' row' code')
    body-outcome (over o v) = over o v
    body-outcome (all-written o l i u q w) = all-written o l i u q (record {
      counted = w.counted;
      few = w.few;
      given = w.given;
      room = w.room;
      same-scope = refl;
      words = w.words;
      types = w.types;
      kept = none_kept;
    })

module _ (text : List ℕ) (from n : ℕ) (scope row code scope₁ row₁ : List ℕ) (opening : TokenAt) (ok : Bool)
    (at many given : ℕ) (next : NextToken text from opening)
    (d : DeclarationsEnter text opening.end (tables scope n row n) ok at (tables scope₁ many row₁ given)) where
  -- the opening brace and the declarations
  abbrev Then : List Declaration → List Token → Type 0
  Then ds vs =
      (ok ≡ true → (vs ≡ tokens_at text at) × ((1 + from ≤ at) × (at ≤ length text)))
      × Entering text (declared_by ds) (tables scope n row n) ok (tables scope₁ many row₁ given)

  declared-then : {B : Type 0} {Q : B → List Token → Type 0} (k : List Declaration → List Token → Reading B)
      → Fits (tables scope n row n) → ((ds : List Declaration) (vs : List Token) → Then ds vs → Holds Q (k ds vs))
      → Holds Q (expect "{" (tokens_at text from) (λ us. and_then (declarations_from [] us) k))
  unfolding declared_by
  declared-then {B} {Q} k fits f =
      expect-holds "{" (tokens_at text from) (λ us b.
      let z = mark-passed text "{" 21 is-open-brace (λ g. omega (arith, g)) from opening next refl b in
      let says = d z.1.1 in
      let σ = tables scope n row n in
      subst (λ (ts : List Token). Holds Q (and_then (declarations_from [] ts) k)) (sym z.0)
      (then-holds (enters-holds (says.says [] σ (entered-none text σ fits))) (λ ds vs y.
      f ds vs ((λ o. (y.0 o, (further z.1.0 (says.onward o).0, (says.onward o).1))), y.1))))
    where
      further : {i j : ℕ} → from < i → i ≤ j → 1 + from ≤ j
      further a b = omega arith

  -- too many variables
  pub body-many : (scope₂ row₂ code₂ : List ℕ) → ok ≡ false
      → BodyTranslates text from n scope row code lost scope₂ row₂ code₂
  unfolding method_body_rule variables_of body_variables
  body-many scope₂ row₂ code₂ o ms _ h scope₀ row₀ e =
      declared-then _ e.fits (λ ds vs y. then-any (statements_from 31 _ vs) (λ ss ws. holds (
        record { returns = refl; name = refl; parameters = refl },
        over refl (inr (inr
            (let many = too-many-of y.1 o in
            let ps = map parameter_of h.parameters in
            let have : n ≡ 0 + length ps = e.given in
            let one = length-append ps (declared_by ds) in
            let two = length-append (ps ++ declared_by ds) (all_within ss) in
            omega arith))),
      )))

  pub body-written : (r : EmitState) (scope₂ row₂ code₂ : List ℕ) → ok ≡ true
      → StatementsTranslate 31 text many (emit_at true at given 0) scope₁ row₁ code r scope₂ row₂ code₂
      → BodyTranslates text from n scope row code r scope₂ row₂ code₂
  unfolding method_body_rule variables_of body_variables body_by
  body-written r scope₂ row₂ code₂ o go ms methods h scope₀ row₀ e =
      declared-then _ e.fits (λ ds vs y.
      let ps = map parameter_of h.parameters in
      let all = entered-then text ps (declared_by ds) (tables scope₀ 0 row₀ 0) (tables scope n row n)
      (tables scope₁ many row₁ given) e (entered_of y.1 o) in
      let place = y.0 o in
      then-holds
      (go ms methods vs at [] (ps ++ declared_by ds) (Inside text scope₁ row₁ row₀ code many given)
      ((ps ++ declared_by ds) ∷ []) (opened (ps ++ declared_by ds) 0 [])
      (λ on. (scope-begun text (ps ++ declared_by ds) scope₀ row₀ (tables scope₁ many row₁ given) all, all.fits.slots))
      (all-written refl (omega arith) place.1.1 place.0 refl
      (variables-written text scope₁ row₁ row₀ code many given (ps ++ declared_by ds) scope₀ all)))
      (λ ss ws z. holds (
        record { returns = refl; name = refl; parameters = refl },
        outcome-lower text (1 + from) (1 + at) (lower place.1.0)
            (outcome-same text
            (ap (λ (k : ℕ). statements_by place_of ms (opened (ps ++ declared_by ds) 0 []) k 0 ss)
            (first_slot (ps ++ declared_by ds))) refl
            (body-outcome text scope₁ row₁ row₀ code many given r scope₂ row₂ code₂ z)),
      )))
    where
      lower : 1 + from ≤ at → 1 + from ≤ 1 + at
      lower h = omega arith

      first_slot : (vs : List Declared) → 0 + length vs ≡ length vs
      first_slot vs = omega arith
