-- The methods of a text one after the other.
use Prim.Native.Nat.{ℕ, suc}
use mathlib.Core.Path.{◌≡◌, refl, sym, ◌∙◌, subst}
use mathlib.Core.Bool.{Bool, true, false, cond}
use mathlib.Core.List.{List, [], ◌∷◌}
use borrow.Author.Tests.{eq-eqb, ne_eqb}
use lib.ListN.{length}
use Rattle.lists.proofs.Tests.{clash, passes}
use Rattle.text.specs.Tree.{Method, Program}
use Rattle.text_parse.specs.Tokens.{Token, tokens_of}
use Rattle.text_parse.specs.Grammar.{Reading, read, leaves, and_then, first, at_text_end, program_of}
use Rattle.text_parse.specs.Equations.{method_from, program_rule}
use Rattle.text_parse.proofs.Equations.{grammar}
use Rattle.text_tokens.specs.Places.{tokens_at}
use Rattle.text_tokens.proofs.Tokenwise.{tokens-at-start}
use Rattle.text_tokens.proofs.KindTests.{is-end}
use Rattle.text_types.specs.SaysCode.{next_kind, reads, leaves-at}
use Rattle.text_statements.specs.WithinCode.{Reads}
use Rattle.text_program.specs.ProgramCode.{is_read, end_place, ProgramSays}

-- one method more
abbrev with_method : Method → Reading Program → Reading Program
with_method m r = and_then r (λ ms vs. read (m ∷ ms) vs)

more-says : (text : List ℕ) {ok : Bool} {at : ℕ} (m : Method) (r : Reading Program) → ProgramSays text ok at r
    → ProgramSays text ok at (with_method m r)
unfolding and_then is_read end_place
more-says text m (read ms us) s = s
more-says text m (leaves i) s = s

module _ (text : List ℕ) (i : ℕ) where
  abbrev pub From : Bool → ℕ → Type 0
  From ok at = ProgramSays text ok at (program_of (tokens_at text i))

  abbrev after_method : Method → List Token → Reading Program
  after_method m us = cond (at_text_end us) (read (m ∷ []) us) (with_method m (program_of us))

  at-end : (p : ℕ) → at_text_end (tokens_at text p) ≡ Rattle.text_parse.specs.Grammar.next? "" (tokens_at text p)
  unfolding at_text_end
  at-end p = refl

  by-method : (P : Reading Program → Type 0) {ok : Bool} {p : ℕ} (r : Reading Method) → Reads text (suc i) ok p r
      → (ok ≡ false → P (leaves p)) → (ok ≡ true → (m : Method) → P (after_method m (tokens_at text p)))
      → P (and_then r after_method)
  unfolding and_then
  by-method P (read m us) (reads o u h w k) f g = subst (λ vs. P (after_method m vs)) (sym u) (g o m)
  by-method P (leaves j) (leaves-at o e) f g = subst (λ (k : ℕ). P (leaves k)) e (f o)

  module _ {p : ℕ} where
    pub program-left : {ok : Bool} → Reads text (suc i) ok p (method_from (tokens_at text i)) → ok ≡ false → From ok p
    unfolding program_rule is_read end_place
    program-left {ok} s f =
        rw (grammar.program-is (tokens_at text i))
        (by-method (λ r. ProgramSays text ok p r) (method_from (tokens_at text i)) s (λ e. (f, refl))
        (λ e m. absurd (clash f (passes e))))

    pub program-last : {ok : Bool} → Reads text (suc i) ok p (method_from (tokens_at text i)) → ok ≡ true
        → next_kind text p ≡ 32 → From true (length text)
    unfolding program_rule is_read end_place
    program-last {ok} s t k =
        let last = at-end p ∙ is-end (first (tokens_at text p)) ∙ eq-eqb (next_kind text p) 32 k in
        rw (grammar.program-is (tokens_at text i))
        (by-method (λ r. ProgramSays text true (length text) r) (method_from (tokens_at text i)) s
        (λ e. absurd (clash e (passes t))) (λ e m. rw last (refl, refl)))

    pub program-on : {q ok : Bool} {at : ℕ} → Reads text (suc i) q p (method_from (tokens_at text i)) → q ≡ true
        → (next_kind text p ≡ 32 → ⊥) → ProgramSays text ok at (program_of (tokens_at text p)) → From ok at
    unfolding program_rule
    program-on {q} {ok} {at} s t k later =
        let on = at-end p ∙ is-end (first (tokens_at text p)) ∙ ne_eqb (next_kind text p) 32 k in
        rw (grammar.program-is (tokens_at text i))
        (by-method (λ r. ProgramSays text ok at r) (method_from (tokens_at text i)) s
        (λ e. absurd (clash e (passes t))) (λ e m. rw on (more-says text m (program_of (tokens_at text p)) later)))

-- the first method begins where the text does
pub from-start : (text : List ℕ) {ok : Bool} {at : ℕ} → From text 0 ok at
    → ProgramSays text ok at (program_of (tokens_of text))
from-start text {ok} {at} s = subst (λ ts. ProgramSays text ok at (program_of ts)) (sym (tokens-at-start text)) s
