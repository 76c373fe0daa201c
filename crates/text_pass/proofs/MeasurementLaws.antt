-- A measurement by places.
use Prim.Native.Nat.{ℕ, suc, ◌≤◌, ◌<◌}
use native.Mathlib.Omega.{arith}
use mathlib.Core.Path.{◌≡◌, refl, sym, ap, ◌∙◌, subst}
use mathlib.Core.Bool.{Bool, true, false}
use mathlib.Core.List.{List}
use lib.ListN.{length}
use Rattle.lists.proofs.Laws.{same-equal}
use Rattle.lists.proofs.Tests.{passes}
use Rattle.text.specs.Tree.{ascii, Name}
use Rattle.text_parse.specs.Tokens.{Token, is, name_of}
use Rattle.text_parse.specs.Grammar.{Reading, first, leaves_at, expect, measured_name}
use Rattle.text_tokens.specs.Places.{tokens_at, token_of}
use Rattle.text_tokens.specs.KindsCode.{kind_of, word_kind, place_from}
use Rattle.text_tokens.specs.NextCode.{NextToken}
use Rattle.text_tokens.specs.declared.next.TokenAt.{TokenAt}
use Rattle.text_tokens.proofs.KindTests.{is_open, is-close, is-comma}
use Rattle.text_types.specs.SaysCode.{Expected, Says, leaves-at, On}
use Rattle.text_types.proofs.Answers.{at_next, passed-next, on-here, on-later, says-lower, says-read, expect-says, name-says}
use Rattle.text_pass.specs.BasisCode.{BasisHere, basis, other}

-- StdBasis has bytes
word-kind : kind_of (ascii "StdBasis") ≡ 33
unfolding kind_of word_kind place_from
word-kind = refl

basis-kind : (t : Token) → is "StdBasis" t ≡ true → kind_of t.bytes ≡ 32 → ⊥
basis-kind t e k =
    let n : ◌≡◌ {A = ℕ} 33 32 =
    sym word-kind ∙ ap kind_of (sym (same-equal t.bytes (ascii "StdBasis") (passes e))) ∙ k in
    omega arith

module _ (text : List ℕ) (i : ℕ) (t : TokenAt) (n : NextToken text i t) where
  pub basis-stands : is "StdBasis" (token_of text t.start t.end) ≡ true → BasisHere text i true t.end
  basis-stands e =
      basis refl (ap (λ ts. is "StdBasis" (first ts)) n.reads ∙ e)
      (passed-next text i t n (λ k. basis-kind (token_of text t.start t.end) e (sym n.kind ∙ k)))

  pub basis-missing : is "StdBasis" (token_of text t.start t.end) ≡ false → BasisHere text i false t.start
  basis-missing e =
      other refl (ap (λ ts. is "StdBasis" (first ts)) n.reads ∙ e) (sym (at_next text i t n))

module _ (text : List ℕ) (ok : Bool) (at : ℕ) where
  abbrev P : Name → Type 0
  P q = Unit {0}

  -- the basis, and what comes after it
  basis-says : (i : ℕ) {q : Bool} {place : ℕ} (m : List Token → Reading Name) → BasisHere text i q place
      → On q place ok at (place ≤ length text → Says text place P ok at (m (tokens_at text place)))
      → Says text (suc i) P ok at (expect "StdBasis" (tokens_at text i) m)
  unfolding expect leaves_at
  basis-says i {q} {place} m (basis o e p) later =
      let on : i < place = p.onward in
      rw e
      (subst (λ us. Says text (suc i) P ok at (m us)) (sym p.after)
      (says-lower text P ok at (suc i) place (omega arith) (later.on o p.within)))
  basis-says i {q} {place} m (other o e p) later = rw e (leaves-at (later.off-ok o) (later.off_at o ∙ p))

  pub measured-says : (i : ℕ) {q1 q2 q3 q4 : Bool} {p1 p2 p3 p4 : ℕ} → Expected text i 19 q1 p1
      → On q1 p1 q2 p2 (BasisHere text p1 q2 p2) → On q2 p2 q3 p3 (Expected text p2 25 q3 p3)
      → On q3 p3 q4 p4 (Expected text p3 33 q4 p4) → On q4 p4 ok at (Expected text p4 20 ok at)
      → Says text (suc i) P ok at (measured_name (tokens_at text i))
  unfolding measured_name
  measured-says i {q1} {q2} {q3} {q4} {p1} {p2} {p3} {p4} s1 s2 s3 s4 s5 =
      let r4 : On q3 p3 ok at (Unit {0}) = on-later s4 s5 (λ e. tt) in
      let r3 : On q2 p2 ok at (Unit {0}) = on-later s3 r4 (λ e. tt) in
      let low : (m : Reading Name) (j : ℕ) → Says text (suc j) P ok at m → Says text j P ok at m =
      λ m j. says-lower text P ok at j (suc j) (omega arith) in
      expect-says text P ok at "(" i 19 _ (λ e. omega arith) is_open s1
      (on-later s2 r3 (λ b w. low _ p1 (basis-says p1 _ b
      (on-later s3 r4 (λ e w. low _ p2 (expect-says text P ok at "," p2 25 _ (λ e. omega arith) is-comma e
      (on-later s4 s5 (λ e w. low _ p3 (name-says text P ok at p3 _ e
      (on-later s5 (on-here {S = Unit {0}} tt) (λ e w. low _ p4
      (expect-says text P ok at ")" p4 20 _ (λ e. omega arith) is-close e
      (record {
        on = λ o w. says-read text P ok at (name_of (first (tokens_at text p3))) tt w o;
        off-ok = λ o. o;
        off_at = λ o. refl;
      })))))))))))))
