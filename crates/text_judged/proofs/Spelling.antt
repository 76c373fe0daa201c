-- Every name of a text stands at its place; so do the names that its events have.
use Prim.Native.Nat.{ℕ, zero, suc, ◌+◌, ◌≤◌, ◌<◌}
use native.Mathlib.Omega.{arith}
use mathlib.Core.Path.{◌≡◌, sym, ap, subst, ◌∙◌}
use mathlib.Core.List.{List, [], ◌∷◌}
use lib.ListN.{length, drop}
use lib.Seq.{drop-drop}
use lib.Dec.{eqb, ltb}
use borrow.Author.Tests.{ltb-true}
use Rattle.lists.specs.Lists.{All}
use Rattle.lists.proofs.Tests.{cond_both, cond-each}
use Rattle.text.specs.Tree.{Name}
use Rattle.text_parse.specs.Tokens.{Token, is_white, name_of, tokens_from, tokens_of}
use Rattle.text_parse.specs.Grammar.{first, rest}
use Rattle.text_tokens.specs.Places.{tokens_at, tokens_after}
use Rattle.text_tokens.specs.PlacesCode.{leading, passed, start_at, end_at}
use Rattle.text_tokens.specs.KindsCode.{kind_of}
use Rattle.text_tokens.specs.NextCode.{next_at}
use Rattle.text_tokens.proofs.Onward.{reads-white}
use Rattle.text_tokens.proofs.Tokenwise.{tokens-at-start, start-within, next-token}
use Rattle.text_scan.specs.Events.{Event, method_named, declared, used, called, invoked, opened, closed, ended}
use Rattle.text_scan.specs.ScanCode.{kind_at, role, mode_after, braces_after, argument_count, with_event, events_from}
use Rattle.text_judged.specs.JudgedCode.{Spelt}

-- white space before a token does not count
start-reads : (text : List ℕ) (i : ℕ) → tokens_at text i ≡ tokens_at text (start_at text i)
unfolding tokens_at passed
start-reads text i =
    let k = leading is_white (drop i text) in
    reads-white i (drop i text) ∙ ap (tokens_from [] (i + k) (i + k)) (drop-drop k i text)

abbrev SpeltToken : List ℕ → Token → Type 0
SpeltToken text t = Spelt text (name_of t)

tokens-spelt : (text : List ℕ) (n i : ℕ) → length text < i + n → i ≤ length text → All (SpeltToken text) (tokens_at text
    i)
unfolding next_at tokens_after
tokens-spelt text zero i l h = absurd (omega arith)
tokens-spelt text (suc n) i l h =
    let s = start_at text i in
    let e = end_at text s in
    let t = next-token text i in
    subst (All (SpeltToken text)) (sym t.reads) (
      record {
        within = start-within text i h;
        reads = ap (λ ts. name_of (first ts)) (sym (start-reads text i) ∙ t.reads);
      },
      cond-each (All (SpeltToken text)) (ltb s (length text)) {x = tokens_at text e} {y = []}
          (λ q. tokens-spelt text n e (omega (arith, t.starts, t.onward (ltb-true s (length text) q))) (t.within h))
          (λ q. tt),
    )

pub text-spelt : (text : List ℕ) → All (SpeltToken text) (tokens_of text)
text-spelt text =
    subst (All (SpeltToken text)) (sym (tokens-at-start text))
    (tokens-spelt text (suc (length text)) 0 (omega arith) (omega arith))

-- the names that are called
abbrev pub Calling : (Name → Type 0) → Event → Type 0
Calling P (method_named x n) = Unit {0}
Calling P (declared x) = Unit {0}
Calling P (used x) = Unit {0}
Calling P (called x n) = P x
Calling P (invoked x n) = P x
Calling P opened = Unit {0}
Calling P closed = Unit {0}
Calling P (ended ts) = Unit {0}

module _ (P : Name → Type 0) where
  with-event : (r : ℕ) (x : Name) (n : ℕ) (ts : List Token) (es : List Event) → P x → All (Calling P) es
      → All (Calling P) (with_event r x n ts es)
  unfolding with_event
  with-event r x n ts es p a =
      cond_both (All (Calling P)) (eqb r 1) (tt, a)
      (cond_both (All (Calling P)) (eqb r 2) (tt, a)
      (cond_both (All (Calling P)) (eqb r 3) (tt, a)
      (cond_both (All (Calling P)) (eqb r 4) (p, a)
      (cond_both (All (Calling P)) (eqb r 5) (p, a)
      (cond_both (All (Calling P)) (eqb r 6) (tt, a)
      (cond_both (All (Calling P)) (eqb r 7) (tt, a)
      (cond_both (All (Calling P)) (eqb r 8) (tt, a) a)))))))

  pub events-of : (mode braces : ℕ) (ts : List Token) → All (λ t. P (name_of t)) ts
      → All (Calling P) (events_from mode braces ts)
  unfolding events_from
  events-of mode braces [] a = tt
  events-of mode braces (t ∷ ts) a =
      with-event (role mode braces (kind_of t.bytes) (kind_at ts)) (name_of t) (argument_count (rest ts)) ts
      (events_from (mode_after mode braces (kind_of t.bytes)) (braces_after braces (kind_of t.bytes)) ts)
      a.0 (events-of (mode_after mode braces (kind_of t.bytes)) (braces_after braces (kind_of t.bytes)) ts a.1)
