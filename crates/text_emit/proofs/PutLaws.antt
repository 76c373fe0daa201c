-- Instructions put one after the other: a value stored, a call or a gate.
use Prim.Native.Nat.{ℕ, zero, suc, ◌+◌, ◌<◌}
use native.Mathlib.Omega.{arith}
use mathlib.Core.Path.{◌≡◌, refl, sym, ap, ◌∙◌, subst}
use mathlib.Core.Bool.{Bool, true, false}
use mathlib.Core.List.{List, [], ◌∷◌, ◌++◌, map, append-nil, append_assoc}
use mathlib.Core.Option.{Option, none, some}
use lib.ListN.{get_or}
use lib.Seq.{slice}
use Rattle.lists.proofs.Tests.{clash, passes}
use Rattle.text.specs.Tree.{Name, NonVoidType, Carried, int_type, boolean_type, qbit_type, plain, channel_type, end_type, Method, Program, method_of, gate_of, numbered, gate_names}
use Rattle.text.specs.Translation.{Instruction, instruction, DROP, Scope, placed_slot, slot_of, found_in, assign_code, drop_code, carried_code, type_code, return_code}
use Rattle.text_parse.specs.Tokens.{Token}
use Rattle.text_parse.specs.Grammar.{Reading, read, leaves, return_type}
use Rattle.text_parse.specs.Equations.{method_from, method_rule, parameters_rule, method_body_rule}
use Rattle.text_parse.proofs.Equations.{grammar}
use Rattle.text_tokens.specs.Places.{tokens_at}
use Rattle.text_types.specs.SaysCode.{reads, ReturnSays}
use Rattle.text_types.specs.declared.types.TypeAt.{TypeAt}
use Rattle.std.specs.Prelude as P
use Rattle.text_types.specs.declared.place.GrammarError.{GrammarError}
use Rattle.text_types.specs.Answer.{type_code_in}
use Rattle.text_methods.specs.declared.find.MethodAt.{MethodAt}
use Rattle.text_methods.specs.declared.find.NoSuchMethod.{NoSuchMethod}
use Rattle.text_slots.specs.Placing.{Placing, nothing_placed, one_placed}
use Rattle.text_scan.proofs.Holding.{Holds, holds, off, held, then-holds, expect-holds, name-holds}
use Rattle.text_methods.specs.MethodSays.{MethodSays, stands, absent, MethodOf}
use Rattle.text_numbering.specs.CodeBy.{number_fits, place_of}
use Rattle.text_code.specs.StatementBy.{invoke_by}
use Rattle.text_code.proofs.Forms.{outcome-same}
use Rattle.text_emit.specs.Reached.{EmitState}
use Rattle.text_emit.proofs.EmitLaws.{lost, puts-stuck}
use Rattle.text_emit.specs.EmitCode.{Puts, PutsOne, PutsValue, ends_first, ends_second, MethodsOf, PutsInvocation}

-- some instructions, and then others
pub puts_then : (c d : List Instruction) (e f r : EmitState) (code code₁ code₂ : List ℕ) → Puts c e code f code₁
    → Puts d f code₁ r code₂ → Puts (c ++ d) e code r code₂
puts_then c d e f r code code₁ code₂ p q text us n scope row low b es σ h =
    outcome-same text (append_assoc b c d) refl (q text us n scope row low (b ++ c) es σ (p text us n scope row low b es
    σ h))

module _ (e f g h r : EmitState) (c₀ c₁ c₂ c₃ c₄ : List ℕ) where
  four-puts : (i j k l : Instruction) → Puts (i ∷ []) e c₀ f c₁ → Puts (j ∷ []) f c₁ g c₂ → Puts (k ∷ []) g c₂ h c₃
      → Puts (l ∷ []) h c₃ r c₄ → Puts (i ∷ j ∷ k ∷ l ∷ []) e c₀ r c₄
  four-puts i j k l p q s t =
      puts_then (i ∷ []) (j ∷ k ∷ l ∷ []) e f r c₀ c₁ c₄ p
      (puts_then (j ∷ []) (k ∷ l ∷ []) f g r c₁ c₂ c₄ q
      (puts_then (k ∷ []) (l ∷ []) g h r c₂ c₃ c₄ s t))

  pub first-end : (i : ℕ) → PutsOne 4 i e c₀ f c₁ → PutsOne 9 0 f c₁ g c₂ → PutsOne 4 (i + 1) g c₂ h c₃
      → PutsOne 5 0 h c₃ r c₄ → Puts (ends_first i) e c₀ r c₄
  unfolding number_fits
  first-end i p q s t =
      four-puts (instruction 4 i) (instruction 9 0) (instruction 4 (i + 1)) DROP (p refl) (q refl) (s refl) (t refl)

  pub second-end : (i : ℕ) → PutsOne 3 i e c₀ f c₁ → PutsOne 9 1 f c₁ g c₂ → PutsOne 4 (i + 2) g c₂ h c₃
      → PutsOne 5 0 h c₃ r c₄ → Puts (ends_second i) e c₀ r c₄
  unfolding number_fits
  second-end i p q s t =
      four-puts (instruction 3 i) (instruction 9 1) (instruction 4 (i + 2)) DROP (p refl) (q refl) (s refl) (t refl)

module _ (slot : ℕ) (e f r : EmitState) (c₀ c₁ c₂ : List ℕ) where
  pub value-ends : (ends : Bool) → ends ≡ true → Puts (ends_first slot) e c₀ f c₁ → Puts (ends_second slot) f c₁ r c₂
      → PutsValue slot ends e c₀ r c₂
  unfolding assign_code
  value-ends true t p q l = puts_then (ends_first slot) (ends_second slot) e f r c₀ c₁ c₂ p q
  value-ends false t p q l = absurd (clash refl (passes t))

  pub value-plain : (ends : Bool) → ends ≡ false → PutsOne 4 slot e c₀ f c₁ → PutsOne 5 0 f c₁ r c₂
      → PutsValue slot ends e c₀ r c₂
  unfolding assign_code number_fits
  value-plain true t p q l = absurd (clash t (passes refl))
  value-plain false t p q l =
      puts_then (instruction 4 slot ∷ []) (DROP ∷ []) e f r c₀ c₁ c₂ (p refl) (q refl)

-- a slot is a word of a table
slot-words : (text scope : List ℕ) (n : ℕ) (sc : Scope) (k : ℕ) → Placing text scope n sc
    → get_or (map placed_slot sc) k 16 < 65536
slot-words text scope n [] k nothing_placed = omega arith
slot-words text scope zero (v ∷ sc) k h = elim h [ ]
slot-words text scope (suc n) (v ∷ sc) zero (one_placed p q) = p.word
slot-words text scope (suc n) (v ∷ sc) (suc k) (one_placed p q) = slot-words text scope n sc k q

pub slot-word : (text scope : List ℕ) (n : ℕ) (sc : Scope) (x : Name) → Placing text scope n sc → slot_of sc x < 65536
unfolding slot_of
slot-word text scope n sc x p = slot-words text scope n sc (found_in x sc) p

-- no type has the code of void
carried-code : (t : Carried) → carried_code t ≡ 0 → ⊥
unfolding carried_code
carried-code int_type e = omega (arith, e)
carried-code boolean_type e = omega (arith, e)
carried-code qbit_type e = omega (arith, e)

type-code : (t : NonVoidType) → type_code t ≡ 0 → ⊥
unfolding type_code
type-code (plain t) e = carried-code t e
type-code (channel_type t) e = omega (arith, e)
type-code (end_type t) e = omega (arith, e)

drop-void : (r : Option NonVoidType) → return_code r ≡ 0 → drop_code r ≡ []
unfolding return_code drop_code
drop-void none e = refl
drop-void (some t) e = absurd (type-code t e)

drop-value : (r : Option NonVoidType) → (return_code r ≡ 0 → ⊥) → drop_code r ≡ DROP ∷ []
unfolding return_code drop_code
drop-value none f = absurd (f refl)
drop-value (some t) f = refl

-- a method's return type is read first
returns-first : (text : List ℕ) (at : ℕ) (t : P.Result TypeAt GrammarError) (m : Method) (us : List Token)
    → ReturnSays text at t (return_type (tokens_at text at)) → method_from (tokens_at text at) ≡ read m us
    → type_code_in t ≡ return_code m.returns
unfolding method_rule method_body_rule
returns-first text at t m us says e =
    held m us (subst (Holds (λ (m : Method) (us : List Token). type_code_in t ≡ return_code m.returns))
    (sym (grammar.method-is (tokens_at text at)) ∙ e)
    (then-holds (coded (return_type (tokens_at text at)) says) (λ r vs g. name-holds vs (λ x ws n. expect-holds "(" ws
    (λ xs o. then-holds (any-tree (parameters_rule xs)) (λ ps ys u. expect-holds "{" ys (λ zs b. then-holds
    (any-tree _) (λ ds as' w. then-holds (any-tree _) (λ ss bs v. holds g)))))))))
  where
    any-tree : {A : Type 0} (r : Reading A) → Holds (λ (a : A) (us : List Token). Unit {0}) r
    any-tree (read a us) = holds tt
    any-tree (leaves i) = off

    coded : (r : Reading (Option NonVoidType)) → ReturnSays text at t r
        → Holds (λ (o : Option NonVoidType) (us : List Token). type_code_in t ≡ return_code o) r
    coded (read a us) (reads o u h w p) = holds p
    coded (leaves i) s = off

module _ (text : List ℕ) (start end : ℕ) (e : EmitState) (code : List ℕ) where
  -- the method of a name, by its bytes
  method-of : (ms : Program) (x : Name) (k : MethodsOf text ms) {r : P.Result MethodAt NoSuchMethod}
      → x.spelling ≡ slice start end text → MethodOf text (slice start end text) r → MethodSays text k.in_text x r
  method-of ms x k {r} s f =
      subst (λ (b : List ℕ). MethodSays text k.in_text (record { spelling = b; at = x.at }) r)
      (sym s)
      (f k.in_text k.after x.at k.reading)

  pub invoke-gate : (g : ℕ) (r : EmitState) (code' : List ℕ) {n : NoSuchMethod}
      → MethodOf text (slice start end text) (P.Err n) → g ≡ numbered 1 (slice start end text) gate_names
      → PutsOne 10 g e code r code' → PutsInvocation text start end e code r code'
  unfolding invoke_by number_fits gate_of
  invoke-gate g r code' {n} f number p ms x k place s l w = by (method-of ms x k s f)
    where
      by : MethodSays text k.in_text x (P.Err n) → Puts (invoke_by place_of x (method_of ms x)) e code r code'
      by (absent none' c) =
          rw (ap (λ (q : Program). method_of q x) k.ordered ∙ none', s, sym number) (p refl)

  -- the call itself does not fit
  pub invoke-stuck : (a : MethodAt) (code' : List ℕ) → MethodOf text (slice start end text) (P.Ok a)
      → PutsOne 12 start e code lost code' → PutsInvocation text start end e code lost code'
  unfolding invoke_by number_fits
  invoke-stuck a code' says p ms x k place s l w = by (method-of ms x k s says)
    where
      by : MethodSays text k.in_text x (P.Ok a) → Puts (invoke_by place_of x (method_of ms x)) e code lost code'
      by (stands m us there reading _ _) =
          rw (ap (λ (q : Program). method_of q x) k.ordered ∙ there, place)
          (puts_then (instruction 12 start ∷ []) (drop_code m.returns) e lost lost code code' code' (p refl)
          (puts-stuck (drop_code m.returns) lost lost code' code' refl refl))

  module _ (a : MethodAt) (f r : EmitState) (t : P.Result TypeAt GrammarError) (code₁ code₂ : List ℕ)
      (says : MethodOf text (slice start end text) (P.Ok a))
      (type : ReturnSays text a.at t (return_type (tokens_at text a.at))) (p : PutsOne 12 start e code f code₁) where
    -- a call of a method, and what is done with what it returns
    call-then : (d : List Instruction) (r : EmitState) (code' : List ℕ)
        → ((m : Method) → type_code_in t ≡ return_code m.returns → drop_code m.returns ≡ d) → Puts d f code₁ r code'
        → PutsInvocation text start end e code r code'
    unfolding invoke_by number_fits
    call-then d r code' drops q ms x k place s l w = by (method-of ms x k s says)
      where
        by : MethodSays text k.in_text x (P.Ok a) → Puts (invoke_by place_of x (method_of ms x)) e code r code'
        by (stands m us there reading _ _) =
            rw (
              ap (λ (q : Program). method_of q x) k.ordered ∙ there,
              place,
              drops m (returns-first text a.at t m us type reading),
            )
            (puts_then (instruction 12 start ∷ []) d e f r code code₁ code' (p refl) q)

    pub invoke-void : type_code_in t ≡ 0 → PutsInvocation text start end e code f code₁
    invoke-void z =
        call-then [] f code₁ (λ m g. drop-void m.returns (sym g ∙ z))
        (λ text us n scope row low b es σ h. outcome-same text (sym (append-nil b)) refl h)

    pub invoke-value : (type_code_in t ≡ 0 → ⊥) → PutsOne 5 0 f code₁ r code₂ → PutsInvocation text start end e code r code₂
    unfolding number_fits
    invoke-value z q = call-then (DROP ∷ []) r code₂ (λ m g. drop-value m.returns (λ y. z (g ∙ y))) (q refl)
