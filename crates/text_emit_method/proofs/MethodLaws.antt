-- A whole method: its header, its body and its end.
use Prim.Native.Nat.{ℕ, ◌+◌, ◌≤◌, ◌<◌}
use native.Mathlib.Omega.{arith}
use mathlib.Core.Path.{◌≡◌, refl, sym, ap, ◌∙◌, subst}
use mathlib.Core.Logic.{inl, inr}
use mathlib.Core.Bool.{Bool, true, false}
use mathlib.Core.List.{List, [], ◌++◌, map}
use mathlib.Core.Option.{Option, none, some}
use lib.ListN.{length, length-append, length-map}
use Rattle.lists.specs.Lists.{every, put_from}
use Rattle.lists.proofs.Tests.{passes}
use Rattle.text.specs.Tree.{Name, NonVoidType, declared_by, parameter_of, Method, Program, body_variables}
use Rattle.text.specs.Translation.{Instruction, code_words, return_code, variables_of, all_within, hole_of, hole_type, code_of_type, slot_codes, row_words, opened}
use Rattle.text.specs.Limits.{is_number, all_numbers_in}
use Rattle.text_parse.specs.Tokens.{Token}
use Rattle.text_parse.specs.Grammar.{Reading, read, leaves}
use Rattle.text_parse.specs.Equations.{method_from, method_body_rule, declarations_from, statements_from}
use Rattle.text_parse.proofs.Equations.{grammar}
use Rattle.text_tokens.specs.Places.{tokens_at}
use Rattle.text_scan.proofs.Holding.{Holds, holds, off, then-holds, weaker-holds, expect-holds}
use Rattle.text_declare.specs.Entered.{typed}
use Rattle.text_declare.proofs.RowLaws.{row-void, row-value}
use Rattle.text_numbering.specs.CodeBy.{number_fits, place_of}
use Rattle.text_code.specs.StatementBy.{method_by}
use Rattle.text_code.proofs.Quiet.{statements-fit}
use Rattle.text_emit.specs.Reached.{EmitState}
use Rattle.text_emit.specs.EmitCode.{MethodsOf}
use Rattle.text_emit_block.proofs.LevelLaws.{then-any}
use Rattle.text_emit_method.specs.MethodCode.{NameAt, TooLarge, MethodEmits, emitted, too_large, not-read}
use Rattle.text_emit_method.specs.StepsCode.{Header, header_rule, empty_row, HeaderEntered, HeaderEnters, Heads, body_by, BodyTranslates, with_hole, ended, TooMuch, Ending, all-ended, too_much, Ends}
use Rattle.text_emit_method.proofs.HeaderLaws.{header-then}
use Rattle.text_emit_method.proofs.BodyLaws.{entered_of, too-many-of}

-- What is written is the method's.

module _ (ms : Program) (m : Method) where
  method-code : ended (body_by ms m) m.returns (variables_of m) ≡ method_by place_of ms m
  unfolding method_by body_by hole_of
  method-code = refl

  method-numbers : every is_number (all_numbers_in m.statements) ≡ every number_fits (body_by ms m)
  unfolding body_by
  method-numbers =
      statements-fit place_of ms (opened (body_variables m) 0 []) (length (body_variables m)) 0 m.statements

  method-slots : length (slot_codes m) ≡ length (variables_of m) + length (hole_type m.returns)
  unfolding slot_codes
  method-slots =
      length-append (map code_of_type (variables_of m)) (hole_type m.returns)
      ∙ ap (λ (k : ℕ). k + length (hole_type m.returns)) (length-map (variables_of m) code_of_type)

  row_of : (o : Option NonVoidType) → m.returns ≡ o
      → with_hole o (length (variables_of m)) (typed 0 (variables_of m) (empty_row (return_code o) (length m.parameters)))
      ≡ row_words m
  unfolding with_hole empty_row return_code
  row_of none e = row-void m e
  row_of (some t) e = row-value m t e

  method-row : (type count : ℕ) → type ≡ return_code m.returns → count ≡ length m.parameters
      → with_hole m.returns (length (variables_of m)) (typed 0 (variables_of m) (empty_row type count)) ≡ row_words m
  method-row type count e f =
      ap (λ (k : ℕ). with_hole m.returns (length (variables_of m)) (typed 0 (variables_of m) (empty_row k count))) e
      ∙ ap (λ (k : ℕ). with_hole m.returns (length (variables_of m))
      (typed 0 (variables_of m) (empty_row (return_code m.returns) k))) f
      ∙ row_of m.returns refl

  -- it does not fit
  method-over : TooMuch (body_by ms m) m.returns (variables_of m) → TooLarge ms m
  method-over (inl h) = inl (subst (λ (c : List Instruction). 4096 < length c) method-code h)
  method-over (inr (inl e)) = inr (inl (method-numbers ∙ e))
  method-over (inr (inr h)) = inr (inr (subst (λ (k : ℕ). 16 < k) (sym method-slots) h))

module _ (text : List ℕ) (ms : Program) (from : ℕ) (ok : Bool) (at start end long : ℕ) (row code code' : List ℕ) where
  abbrev Emitted : Method → List Token → Type 0
  Emitted m us = MethodEmits text ms from ok at start end long row code code' (read m us)

  emits-of : {r : Reading Method} → Holds Emitted r → MethodEmits text ms from ok at start end long row code code' r
  emits-of (holds p) = p
  emits-of off = not-read

  -- the header, and what is made of what comes after it
  header-emits : {P : Header → List Token → Type 0} → Holds P (header_rule (tokens_at text from))
      → ((h : Header) (us : List Token) → P h us
      → Holds Emitted (method_body_rule h.returns h.name h.parameters us))
      → MethodEmits text ms from ok at start end long row code code' (method_from (tokens_at text from))
  header-emits h f =
      subst (MethodEmits text ms from ok at start end long row code code')
      (sym (grammar.method-is (tokens_at text from) ∙ header-then (tokens_at text from))) (emits-of (then-holds h f))

-- after the header
module _ (text : List ℕ) (from : ℕ) (scope : List ℕ) (ok : Bool) (at start end type n : ℕ) (scope₁ row₁ : List ℕ)
    (header : HeaderEnters text from scope ok at start end type n scope₁ row₁) (ms : Program) (fit : length scope ≡ 64)
  where
    header-named : (h : Header) (us : List Token)
        → HeaderEntered text from scope ok at start end type n scope₁ row₁ h us → (m : Method) → Heads h m
        → NameAt text m start end
    header-named h us x m same = record {
      place = x.place ∙ ap (λ (y : Name). y.at) (sym same.name);
      spelt = ap (λ (y : Name). y.spelling) same.name ∙ x.spelt;
    }

    -- too many parameters
    pub method-parameters : (row code code' : List ℕ) → ok ≡ false
        → MethodEmits text ms from false at start end 0 row code code' (method_from (tokens_at text from))
    unfolding method_body_rule variables_of body_variables
    method-parameters row code code' o =
        header-emits text ms from false at start end 0 row code code' (header fit) (λ h us x.
        expect-holds "{" us (λ vs _. then-any (declarations_from [] vs) (λ ds ws.
        then-any (statements_from 31 _ ws) (λ ss xs.
        let m : Method = record {
          returns = h.returns;
          name = h.name;
          parameters = h.parameters;
          declarations = ds;
          statements = ss;
        } in
        holds (too_large (record { place = x.place; spelt = x.spelt }) refl (inr (inr
        (let many = too-many-of x.entering o in
        let ps = map parameter_of h.parameters in
        let one = length-append ps (declared_by ds) in
        let two = length-append (ps ++ declared_by ds) (all_within ss) in
        let three = method-slots ms m in
        omega arith))))))))

    module _ (methods : MethodsOf text ms) (on : ok ≡ true) (b e : EmitState) (scope₂ row₂ row₃ code code₂ code₃ : List ℕ)
        (body : BodyTranslates text at n scope₁ row₁ code b scope₂ row₂ code₂)
        (close : Ends type b row₂ code₂ e row₃ code₃) where
      -- what the end of the code comes to
      method-ended : (h : Header) (us : List Token)
          → HeaderEntered text from scope ok at start end type n scope₁ row₁ h us → (m : Method) (vs : List Token)
          → Heads h m
          → Ending text (1 + at) (body_by ms m) (variables_of m) vs m.returns (empty_row type (length h.parameters))
          code e row₃ code₃
          → MethodEmits text ms from e.ok e.at start end e.count row₃ code code₃ (read m vs)
      method-ended h us x m vs same (all-ended o a) =
          emitted (header-named h us x m same) o (record {
            left = a.left;
            onward = (let l = a.further in let k = (x.onward on).0 in omega arith);
            inside = a.inside;
            counted = a.counted ∙ ap length (method-code ms m);
            few = a.few;
            numbers = method-numbers ms m ∙ a.numbers;
            slots = subst (λ (k : ℕ). k ≤ 16) (sym (method-slots ms m)) a.slots;
            own = a.types
                ∙ method-row ms m type (length h.parameters) (x.type ∙ ap return_code (sym same.returns))
                (ap length (sym same.parameters));
            words = a.words ∙ ap (λ (c : List Instruction). put_from code 0 (code_words c)) (method-code ms m);
          })
      method-ended h us x m vs same (too_much o v) =
          too_large (header-named h us x m same) o (method-over ms m v)

      pub method-emits : MethodEmits text ms from e.ok e.at start end e.count row₃ code code₃
          (method_from (tokens_at text from))
      method-emits =
          header-emits text ms from e.ok e.at start end e.count row₃ code code₃ (header fit) (λ h us x.
          subst (λ (ts : List Token). Holds (Emitted text ms from e.ok e.at start end e.count row₃ code code₃)
          (method_body_rule h.returns h.name h.parameters ts)) (sym (x.left on))
          (weaker-holds (λ m vs y. method-ended h us x m vs y.0
          (close text vs (1 + at) (body_by ms m) (variables_of m) m.returns scope₂
          (empty_row type (length h.parameters)) code (x.type ∙ ap return_code (sym y.0.returns)) y.1))
          (body ms methods h scope (empty_row type (length h.parameters)) (entered_of x.entering on))))

-- of a method that does not fit nothing is said but its name
pub method-refused : {text : List ℕ} {ms : Program} {from at place start end long many : ℕ} {row row' code code' : List ℕ}
    (r : Reading Method) → MethodEmits text ms from false at start end long row code code' r
    → MethodEmits text ms from false place start end many row' code code' r
method-refused (read m us) (emitted n o w) = absurd (passes o)
method-refused (read m us) (too_large n o t) = too_large n refl t
method-refused (leaves i) not-read = not-read
