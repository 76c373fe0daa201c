-- The tokens of a text end with one that has no bytes, at the length of the text, and all others have bytes; so a text
-- that comes to a tree is read up to that token.
use Prim.Native.Nat.{ℕ, zero, suc, ◌+◌}
use native.Mathlib.Omega.{arith}
use mathlib.Core.Path.{◌≡◌, refl, subst}
use mathlib.Core.Bool.{true}
use mathlib.Core.List.{List, [], ◌∷◌, ◌++◌}
use lib.ListN.{length}
use Rattle.lists.specs.Lists.{same}
use Rattle.lists.proofs.Tests.{passes, cond_both, cond-each}
use Rattle.text_parse.specs.Tokens.{Token, is_white, extends, finished, tokens_from, tokens_of}
use Rattle.text_parse.specs.Grammar.{Reading, program, at_text_end, enough, program_of}
use Rattle.text_parse.specs.Left.{Leaving, leaving, not-read, HasBytes, Tail, whole, after, Ended, end_token, WholeText}
use Rattle.text_parse.proofs.Leaving.{and_then-leaving, leaves_at-leaving}
use Rattle.text_parse.proofs.Progress.{progress}

no_bytes : (bs : List ℕ) → HasBytes bs → same bs [] ≡ true → ⊥
no_bytes [] h e = h
no_bytes (b ∷ bs) h e = passes e

-- tokens that have bytes, then one that has none, at place i
data Closed (i : ℕ) : List Token → Type 0 where
  end : Closed i (record { bytes = []; at = i } ∷ [])
  before : {t : Token} {ts : List Token} → HasBytes t.bytes → Closed i ts → Closed i (t ∷ ts)

finished-closed : (i : ℕ) (begun : List ℕ) (at : ℕ) {ts : List Token} → Closed i ts → Closed i (finished begun at ts)
unfolding finished
finished-closed i [] at c = c
finished-closed i (b ∷ begun) at c = before tt c

tokens_from-closed : (n : ℕ) (bs begun : List ℕ) (at i : ℕ) → i + length bs ≡ n → Closed n (tokens_from begun at i bs)
unfolding tokens_from
tokens_from-closed n [] begun at i e =
    finished-closed n begun at (subst (λ (k : ℕ). Closed n (record { bytes = []; at = k } ∷ [])) (omega arith) end)
tokens_from-closed n (b ∷ bs) begun at i e =
    cond_both (Closed n) (extends begun b) (tokens_from-closed n bs (begun ++ (b ∷ [])) at (suc i) (omega arith))
    (finished-closed n begun at
    (cond_both (Closed n) (is_white b) (tokens_from-closed n bs [] i (suc i) (omega arith))
    (tokens_from-closed n bs (b ∷ []) i (suc i) (omega arith))))

tokens_of-closed : (text : List ℕ) → Closed (length text) (tokens_of text)
unfolding tokens_of
tokens_of-closed text = tokens_from-closed (length text) text [] 0 0 (omega arith)

closed-ended : {i : ℕ} {ts : List Token} → Closed i ts → Ended ts
closed-ended end = refl
closed-ended (before h end) = refl
closed-ended (before h (before {t = t} g c)) = closed-ended (before {t = t} g c)

-- a tail of such tokens is such tokens, and where its first token has no bytes it is the last one alone
closed-tail : {i : ℕ} {ts us : List Token} → Closed i ts → Tail ts us → Closed i us
closed-tail c whole = c
closed-tail end (after h t) = absurd h
closed-tail (before g c) (after h t) = closed-tail c t

closed-last : {i : ℕ} {ts : List Token} → Closed i ts → at_text_end ts ≡ true → ts ≡ record { bytes = []; at = i } ∷ []
unfolding at_text_end
closed-last end e = refl
closed-last (before {t} h c) e = absurd (no_bytes t.bytes h e)

-- a program is read up to a token that has no bytes
abbrev AtEnd : List Token → Type 0
AtEnd us = at_text_end us ≡ true

methods-end : (n : ℕ) (ts : List Token) → Leaving AtEnd (program n ts)
unfolding program
methods-end zero ts = leaves_at-leaving ts
methods-end (suc n) ts =
    and_then-leaving (progress.method-on n ts) (λ m us o.
    cond-each (Leaving AtEnd) (at_text_end us) (λ e. leaving e)
    (λ e. and_then-leaving (methods-end n us) (λ ms vs f. leaving f)))

-- what two laws say of what is left
both-leaving : {P Q R : List Token → Type 0} {A : Type 0} {r : Reading A} → Leaving P r → Leaving Q r
    → ((us : List Token) → P us → Q us → R us) → Leaving R r
both-leaving (leaving p) (leaving q) f = leaving (f _ p q)
both-leaving not-read q f = not-read

program-read : (text : List ℕ) → Leaving (λ us. us ≡ end_token text ∷ []) (program_of (tokens_of text))
unfolding program_of
program-read text =
    let ts : List Token = tokens_of text in
    both-leaving (progress.methods-on (enough ts) ts) (methods-end (enough ts) ts)
    (λ us o e. closed-last (closed-tail (tokens_of-closed text) o.tail) e)

pub whole-text : WholeText
whole-text = record { text-ended = λ text. closed-ended (tokens_of-closed text); all_read = program-read }
