-- A block: its variables are entered and emptied, then its statements; after it they are out of scope.
use Prim.Native.Nat.{ℕ, suc, ◌+◌, ◌≤◌, ◌<◌}
use native.Mathlib.Omega.{arith}
use mathlib.Core.Path.{◌≡◌, refl, sym, ap, ◌∙◌, subst}
use mathlib.Core.Logic.{inl, inr}
use mathlib.Core.Bool.{Bool, true, false}
use mathlib.Core.List.{List, [], ◌∷◌, ◌++◌}
use lib.ListN.{length, length-append}
use Rattle.lists.proofs.Tests.{clash, passes}
use Rattle.text.specs.Tree.{Declared, Declaration, declared_by, Statements, block, Program}
use Rattle.text.specs.Translation.{Instruction, Scope, opened, within, all_within, clear_code}
use Rattle.text_parse.specs.Tokens.{Token}
use Rattle.text_parse.specs.Grammar.{Reading, and_then, expect}
use Rattle.text_parse.specs.Equations.{declarations_from, block_from, block_rule, statements_from}
use Rattle.text_parse.proofs.Equations.{grammar}
use Rattle.text_tokens.specs.Places.{tokens_at}
use Rattle.text_tokens.proofs.KindTests.{is-open-brace}
use Rattle.text_scan.proofs.Holding.{Holds, holds, off, then-holds, expect-holds}
use Rattle.text_declare.specs.Entered.{tables, Fits, typed, Entered, Entering, all-entered, too_many}
use Rattle.text_declare.specs.Entered.{Tables as Entries}
use Rattle.text_declare.specs.EnterCode.{Enters, enters, left, DeclarationsEnter}
use Rattle.text_numbering.specs.CodeBy.{place_of}
use Rattle.text_code.specs.OutcomeCode.{Tables, Written, Outcome, all-written, over}
use Rattle.text_code.specs.StatementBy.{statement_by, statements_by}
use Rattle.text_code.proofs.Outcomes.{typed-append}
use Rattle.text_code.proofs.Forms.{outcome-same, outcome-lower}
use Rattle.text_emit.specs.Reached.{EmitState}
use Rattle.text_emit.specs.EmitCode.{tables_of, passed_by}
use Rattle.text_emit.proofs.EmitLaws.{emit_at, lost}
use Rattle.text_emit.proofs.SimpleLaws.{step-token}
use Rattle.text_emit_block.specs.BlockCode.{Clears, StatementTranslates, StatementsTranslate}
use Rattle.text_emit_block.proofs.Frames.{begun, framed, from-here, tokens-of, place-of}
use Rattle.text_emit_block.proofs.LevelLaws.{then-any}

pub clear-length : (ds : List Declared) (i : ℕ) → length (clear_code ds i) ≡ length ds
unfolding clear_code
clear-length [] i = refl
clear-length (d ∷ ds) i = ap suc (clear-length ds (suc i))

block-code : (ms : Program) (sc : Scope) (ds : List Declaration) (used count i : ℕ) (ss : Statements)
    → i ≡ used + length (declared_by ds)
    → clear_code (declared_by ds) used
    ++ statements_by place_of ms (opened (declared_by ds) used sc) (i + 0)
    (count + length (clear_code (declared_by ds) used)) ss
    ≡ statement_by place_of ms sc used count (block ds ss)
unfolding statement_by
block-code ms sc ds used count i ss q =
    let vs = declared_by ds in
    let C = clear_code vs used in
    ap (λ (j : ℕ). C ++ statements_by place_of ms (opened vs used sc) j (count + length C) ss)
    {x = i + 0} {y = used + length vs} (omega arith)
    ∙ ap (λ (j : ℕ). C ++ statements_by place_of ms (opened vs used sc) (used + length vs) (count + j) ss)
    (clear-length vs used)

-- what a reading of declarations enters, if they are in the grammar
enters-holds : {text : List ℕ} {A : Type 0} {ds : A → List Declared} {σ : Entries} {ok : Bool} {at : ℕ} {τ : Entries}
    {r : Reading A} → Enters text ds σ ok at τ r
    → Holds (λ a us. (ok ≡ true → us ≡ tokens_at text at) × Entering text (ds a) σ ok τ) r
enters-holds (enters u e) = holds (u, e)
enters-holds (left o) = off

entered_of : {text : List ℕ} {ds : List Declared} {σ τ : Entries} {ok : Bool} → Entering text ds σ ok τ → ok ≡ true
    → Entered text ds σ τ
entered_of (all-entered o e) t = e
entered_of (too_many o h) t = absurd (clash o (passes t))

too-many-of : {text : List ℕ} {ds : List Declared} {σ τ : Entries} {ok : Bool} → Entering text ds σ ok τ → ok ≡ false
    → 16 < σ.used + length ds
too-many-of (all-entered o e) t = absurd (clash t (passes o))
too-many-of (too_many o h) t = h

-- nothing is entered yet
none-entered : (text : List ℕ) (σ : Entries) → Fits σ → Entered text [] σ σ
unfolding typed opened
none-entered text σ f = record {
  count = omega arith;
  given = omega arith;
  fits = f;
  types = refl;
  kept = λ m sc h p. p;
  places = λ sc p. p;
}

-- what is written within the block, seen from before it
module _ (text : List ℕ) (ds : List Declared) (scope row code scope₁ row₁ scope₂ row₂ code₂ : List ℕ)
    (n many used given count : ℕ) (r : EmitState)
    (entered : Entered text ds (tables scope n row used) (tables scope₁ many row₁ given)) where
  abbrev Before : Tables
  Before = record { n = n; used = used; count = count; scope = scope; row = row; code = code }

  abbrev Inside : Tables
  Inside = record { n = many; used = given; count = count; scope = scope₁; row = row₁; code = code }

  block_written : (c : List Instruction) (es : List Declared)
      → Written text c es Inside (tables_of r many scope₂ row₂ code₂)
      → Written text c (ds ++ es) Before (tables_of r n scope₂ row₂ code₂)
  block_written c es w = record {
    counted = w.counted;
    few = w.few;
    given =
        let a = w.given in
        let b = entered.given in omega (arith, length-append ds es);
    room = w.room;
    same-scope = refl;
    words = w.words;
    types =
        w.types ∙ ap (typed given es) entered.types
        ∙ ap (λ (k : ℕ). typed k es (typed used ds row)) entered.given
        ∙ sym (typed-append used ds es row);
    kept = λ m sc h p.
        let more = entered.count in w.kept m sc (omega arith) (entered.kept m sc h p);
  }

  pub block-outcome : {low : ℕ} (c : List Instruction) (es : List Declared) {us : List Token} {ok : Bool} {at : ℕ}
      → Outcome text low c es us Inside ok at (tables_of r many scope₂ row₂ code₂)
      → Outcome text low c (ds ++ es) us Before ok at (tables_of r n scope₂ row₂ code₂)
  block-outcome c es (all-written o l i u q w) = all-written o l i u q (block_written c es w)
  block-outcome c es (over o (inl h)) = over o (inl h)
  block-outcome c es (over o (inr (inl h))) = over o (inr (inl h))
  block-outcome c es (over o (inr (inr h))) =
      over o (inr (inr (let b = entered.given in omega (arith, length-append ds es))))

module _ (text : List ℕ) (n lft : ℕ) (e brace : EmitState) (scope row code scope₁ row₁ : List ℕ) (ok : Bool)
    (at many given : ℕ) (on : e.ok ≡ true) (long : length scope ≡ 64) (p : brace ≡ passed_by text e)
    (d : DeclarationsEnter text brace.at (tables scope n row e.used) ok at (tables scope₁ many row₁ given)) where
  abbrev inner : EmitState
  inner = emit_at true at given e.count

  -- the opening brace and the declarations
  abbrev Here : List Token → Type 0
  Here us = Outcome text e.at [] [] us (tables_of e n scope row code) e.ok e.at (tables_of e n scope row code)

  abbrev Then : List Declaration → List Token → Type 0
  Then ds vs =
      (ok ≡ true → (vs ≡ tokens_at text at) × ((1 + e.at ≤ at) × (at ≤ length text)))
      × Entering text (declared_by ds) (tables scope n row e.used) ok (tables scope₁ many row₁ given)

  declared-then : {B : Type 0} {Q : B → List Token → Type 0} (us : List Token)
      (k : List Declaration → List Token → Reading B) → us ≡ tokens_at text e.at → e.at ≤ length text
      → e.count ≤ 4096 → e.used ≤ 16 → n ≤ e.used
      → ((ds : List Declaration) (vs : List Token) → Then ds vs → Holds Q (k ds vs))
      → Holds Q (expect "{" us (λ us₁. and_then (declarations_from [] us₁) k))
  unfolding declared_by
  declared-then {B} {Q} us k u i few room le f =
      let τ : Tables = tables_of e n scope row code in
      let start : Here us = all-written on (omega arith) i u refl (begun text τ few room) in
      expect-holds "{" us (λ us₁ a.
      let x = step-token text n scope p "{" 21 is-open-brace (λ g. omega (arith, g)) a start in
      let fine = ap (λ (w : EmitState). w.ok) p ∙ on in
      let place = place-of text x fine in
      let reached = d place.1 in
      let fits : Fits (tables scope n row e.used) = record { slots = le; room = room; long = long } in
      subst (λ (ts : List Token). Holds Q (and_then (declarations_from [] ts) k)) (sym (tokens-of text x fine))
      (then-holds (enters-holds (reached.says [] (tables scope n row e.used)
      (none-entered text (tables scope n row e.used) fits))) (λ ds vs y.
      f ds vs ((λ t. (y.0 t, (further place.0 (reached.onward t).0, (reached.onward t).1))), y.1))))
    where
      further : {j : ℕ} → 1 + e.at ≤ brace.at → brace.at ≤ j → 1 + e.at ≤ j
      further a b = omega arith

  -- too many variables
  pub block-many : (scope₂ row₂ code₂ : List ℕ) → ok ≡ false
      → StatementTranslates (block_from lft) text n e scope row code lost scope₂ row₂ code₂
  unfolding block_rule within
  block-many scope₂ row₂ code₂ o ms m =
      from-here (block_from lft) (λ sc i at s. statement_by place_of ms sc i at s) within text n e scope row code lost
      scope₂ row₂ code₂ on (λ us scopes sc u i few room pl le.
      rw (grammar.block-is lft scopes us)
      (declared-then us _ u i few room le (λ ds vs y.
      then-any (statements_from lft (declared_by ds ∷ scopes) vs) (λ ss ws. holds (over refl (inr (inr
      (let many = too-many-of y.1 o in
      omega (arith, length-append (declared_by ds) (all_within ss))))))))))

  pub block-ends : (cleared r : EmitState) (code₁ scope₂ row₂ code₂ : List ℕ) → ok ≡ true
      → Clears e.used given inner code cleared code₁
      → StatementsTranslate lft text many cleared scope₁ row₁ code₁ r scope₂ row₂ code₂
      → StatementTranslates (block_from lft) text n e scope row code r scope₂ row₂ code₂
  unfolding block_rule within
  block-ends cleared r code₁ scope₂ row₂ code₂ fine clears rest_of ms m =
      from-here (block_from lft) (λ sc i at s. statement_by place_of ms sc i at s) within text n e scope row code r scope₂
      row₂ code₂ on (λ us scopes sc u i few room pl le.
      rw (grammar.block-is lft scopes us)
      (declared-then us _ u i few room le (λ ds vs y.
      let en = entered_of y.1 fine in
      let σ : Tables = tables_of inner many scope₁ row₁ code in
      let start : Outcome text at [] [] vs σ true at σ =
      all-written refl (omega arith) (y.0 fine).1.1 (y.0 fine).0 refl (begun text σ few en.fits.room) in
      let emptied = clears (declared_by ds) en.given text vs many scope₁ row₁ at [] [] σ start in
      then-holds (framed (statements_from lft) (λ sc i at ss. statements_by place_of ms sc i at ss) all_within text many
      cleared scope₁ row₁ code₁ r scope₂ row₂ code₂ (rest_of ms m) vs at (clear_code (declared_by ds) e.used) [] σ
      (declared_by ds ∷ scopes) (opened (declared_by ds) e.used sc) (en.places sc pl) en.fits.slots emptied)
      (λ ss ws z. holds (outcome-lower text (1 + e.at) (1 + at) (further e.at at (y.0 fine).1.0)
      (outcome-same text (block-code ms sc ds e.used e.count given ss en.given) refl
      (block-outcome text (declared_by ds) scope row code scope₁ row₁ scope₂ row₂ code₂ n many e.used given e.count
      r en _ (all_within ss) z)))))))
    where
      further : (i j : ℕ) → 1 + i ≤ j → 1 + i ≤ 1 + j
      further i j a = omega arith
