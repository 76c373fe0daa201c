-- The steps of the code: words copied, a method's row found, and the judgement from one call to the next.
use Prim.Native.Nat.{ℕ, ◌+◌, ◌-◌, ◌*◌, ◌≤◌, ◌<◌}
use native.Mathlib.Omega.{arith}
use native.Mathlib.Nat.{eq-or-lt_of_le}
use mathlib.Core.Logic.{⊎_elim}
use mathlib.Core.Path.{◌≡◌, refl, sym, ap, ap₂, subst, ◌∙◌}
use mathlib.Core.Bool.{Bool, true, false, cond, ◌&&◌}
use mathlib.Core.List.{List}
use mathlib.Core.Option.{some, none-ne-some, some-injective}
use lib.ListN.{get_or, length, set, take, drop, length-set, length-take, length-drop}
use lib.Seq.{slice, get_or-set_same, get_or-set_other, get_or-take}
use lib.Dec.{leb, ltb}
use borrow.Author.Tests.{lt-ltb, le-ltb, ltb-true}
use Rattle.std.specs.Prelude as P
use Rattle.lists.proofs.Tests.{never}
use Rattle.std.specs.Option.{is_some}
use Rattle.text.specs.Tree.{Method, Program, main_first, method_of}
use Rattle.text.specs.Translation.{row_words}
use Rattle.text_parse.specs.Tokens.{Token, name_of, tokens_of}
use Rattle.text_parse.specs.Grammar.{read, first, program_of}
use Rattle.text_parse.specs.Equations.{method_from}
use Rattle.text_tokens.specs.Places.{tokens_at}
use Rattle.text_tokens.specs.NextCode.{NextToken}
use Rattle.text_tokens.specs.declared.next.TokenAt.{TokenAt}
use Rattle.text_scan.proofs.EventsText.{same-tree}
use Rattle.text_methods.specs.declared.find.MethodAt.{MethodAt}
use Rattle.text_methods.specs.declared.find.NoSuchMethod.{NoSuchMethod}
use Rattle.text_methods.specs.MethodSays.{MethodSays, stands, absent, MethodOf}
use Rattle.text_judge.specs.RowsCode.{Subject, IsRow, calls, op_in, arg_in}
use Rattle.text_judge.specs.JudgeCode.{subject_in, Knows, wanted}
use Rattle.text_judge.specs.ResumeCode.{IsMethod, AtHand, Right, Onward}
use Rattle.text_judge.specs.declared.instruction.Counts.{Counts}
use Rattle.text_judge.specs.declared.code.Judgement.{Judgement}
use Rattle.text_judge.proofs.Judgement.{row-words}
use Rattle.text_rows.specs.Header.{as_word, header_words}
use Rattle.text_judged.specs.JudgedCode.{MethodHere, name_at, header_in, called_row, HeaderAt, Numbered, There, Prepared, UpTo}
use Rattle.text_judged.proofs.Headers.{header_row}
use Rattle.text_judged.proofs.Kept.{call-there}

-- Words

pub word_below : (n : ℕ) → n < 65535 → n ≡ as_word n
unfolding as_word
word_below n l = rw (lt-ltb n 65535 l) refl

pub word-above : (n : ℕ) → 65535 ≤ n → 65535 ≡ as_word n
unfolding as_word
word-above n l = rw (le-ltb n 65535 l) refl

pub none-numbered : (code words : List ℕ) → Numbered code words 0
none-numbered code words = record { ops = λ i l. absurd (omega arith); arguments = λ i l. absurd (omega arith) }

pub one-numbered : (code words : List ℕ) (i a b : ℕ) → Numbered code words i → 2 * i + 1 < length words
    → a ≡ as_word (get_or code (2 * i) 0)
    → b ≡ cond (calls (get_or code (2 * i) 0)) i (as_word (get_or code (2 * i + 1) 0))
    → Numbered code (set (set words (2 * i) a) (2 * i + 1) b) (i + 1)
unfolding op_in arg_in
one-numbered code words i a b h l e f = record {
  ops = λ j k. ⊎_elim (λ q. op-here j (omega arith)) (λ q. op-there j (omega arith)) (eq-or-lt_of_le k);
  arguments = λ j k. ⊎_elim (λ q. arg-here j (omega arith)) (λ q. arg-there j (omega arith)) (eq-or-lt_of_le k);
}
  where
    op-here : (j : ℕ) → j ≡ i → get_or (set (set words (2 * i) a) (2 * i + 1) b) (2 * j) 0 ≡ as_word (get_or code (2 * j) 0)
    op-here j q =
        get_or-set_other (set words (2 * i) a) (2 * i + 1) (2 * j) b 0 (λ p. omega arith)
        ∙ ap (λ k. get_or (set words (2 * i) a) (2 * k) 0) q
        ∙ get_or-set_same words (2 * i) a 0 (omega arith) ∙ e ∙ ap (λ k. as_word (get_or code (2 * k) 0)) (sym q)

    op-there : (j : ℕ) → j < i → get_or (set (set words (2 * i) a) (2 * i + 1) b) (2 * j) 0 ≡ as_word (get_or code (2 * j) 0)
    op-there j q =
        get_or-set_other (set words (2 * i) a) (2 * i + 1) (2 * j) b 0 (λ p. omega arith)
        ∙ get_or-set_other words (2 * i) (2 * j) a 0 (λ p. omega arith) ∙ h.ops j q

    arg-here : (j : ℕ) → j ≡ i → get_or (set (set words (2 * i) a) (2 * i + 1) b) (2 * j + 1) 0
        ≡ cond (calls (get_or code (2 * j) 0)) j (as_word (get_or code (2 * j + 1) 0))
    arg-here j q =
        ap (λ k. get_or (set (set words (2 * i) a) (2 * i + 1) b) (2 * k + 1) 0) q
        ∙ get_or-set_same (set words (2 * i) a) (2 * i + 1) b 0 (omega (arith, length-set words (2 * i) a)) ∙ f
        ∙ ap (λ k. cond (calls (get_or code (2 * k) 0)) k (as_word (get_or code (2 * k + 1) 0))) (sym q)

    arg-there : (j : ℕ) → j < i → get_or (set (set words (2 * i) a) (2 * i + 1) b) (2 * j + 1) 0
        ≡ cond (calls (get_or code (2 * j) 0)) j (as_word (get_or code (2 * j + 1) 0))
    arg-there j q =
        get_or-set_other (set words (2 * i) a) (2 * i + 1) (2 * j + 1) b 0 (λ p. omega arith)
        ∙ get_or-set_other words (2 * i) (2 * j + 1) a 0 (λ p. omega arith) ∙ h.arguments j q

pub all-numbered : (code words : List ℕ) (i k : ℕ) → Numbered code words i → i ≤ k → k ≤ i → Numbered code words k
all-numbered code words i k h l m = let e : i ≡ k = omega arith in subst (Numbered code words) e h

-- the words that belong to the method
pub part-numbered : (code words : List ℕ) (k : ℕ) → Numbered code words k
    → Numbered code (take (2 * k - 0) (drop 0 words)) k
unfolding op_in arg_in
part-numbered code words k h = record {
  ops = λ i l. get_or-take (2 * k - 0) (drop 0 words) (2 * i) 0 (omega arith) ∙ h.ops i l;
  arguments = λ i l. get_or-take (2 * k - 0) (drop 0 words) (2 * i + 1) 0 (omega arith) ∙ h.arguments i l;
}

pub method-words : (text code own words : List ℕ) (n : Counts) → MethodHere text code own n.long
    → 2 * n.long ≤ length words → IsMethod (take (2 * n.long - 0) (drop 0 words)) own n
unfolding row_words
method-words text code own words n h e = record {
  words = length-take (2 * n.long - 0) (drop 0 words) ∙ omega (arith, length-drop 0 words, h.short);
  short = h.short;
  own_row = subst IsRow (sym h.own_row) (row-words h.method);
  few = subst (λ r. get_or r 1 0 ≤ 8) (sym h.own_row) h.few;
}

-- The row of a method that is called

pub header_at : (text : List ℕ) (place : ℕ) (t : TokenAt) → NextToken text place t → (a : MethodAt)
    → MethodOf text (slice t.start t.end text) (P.Ok a) → (row : List ℕ)
    → ((m : Method) (us : List Token) → method_from (tokens_at text a.at) ≡ read m us → row ≡ header_words m)
    → HeaderAt text place row
unfolding name_at
header_at text place t h a says row reads ns us m e f = by (says ns us t.start e)
  where
    named : name_of (first (tokens_at text place)) ≡ record { spelling = slice t.start t.end text; at = t.start }
    named = ap (λ ts. name_of (first ts)) h.reads

    by : MethodSays text ns (record { spelling = slice t.start t.end text; at = t.start }) (P.Ok a)
        → row ≡ header_words m
    by (stands k vs q r p i) =
        reads k vs r
        ∙ ap header_words (some-injective k m (sym q ∙ ap (method_of (main_first ns)) (sym named) ∙ f))

-- no method has the name, and nothing is asked
pub no-header : (text : List ℕ) (place : ℕ) (t : TokenAt) → NextToken text place t → {n : NoSuchMethod}
    → MethodOf text (slice t.start t.end text) (P.Err n) → (row : List ℕ) → HeaderAt text place row
unfolding name_at
no-header text place t h {n} says row ns us m e f = by (says ns us t.start e)
  where
    named : name_of (first (tokens_at text place)) ≡ record { spelling = slice t.start t.end text; at = t.start }
    named = ap (λ ts. name_of (first ts)) h.reads

    by : MethodSays text ns (record { spelling = slice t.start t.end text; at = t.start }) (P.Err n)
        → row ≡ header_words m
    by (absent q c) = absurd (none-ne-some m (sym q ∙ ap (method_of (main_first ns)) (sym named) ∙ f))

-- From call to call

pub at-hand : (rows : List ℕ) (n : Counts) → n.known ≡ 0 → AtHand rows n
at-hand rows n e = record { enough = omega (arith, e); are-rows = λ a l. absurd (omega (arith, e)) }

knows : (f : ℕ → List ℕ) (rows : List ℕ) (n : Counts) → n.known ≡ 0 → Knows f rows n
knows f rows n e a l = absurd (omega (arith, e))

wanted-calls : (words : List ℕ) (n : Counts) (i : ℕ) → wanted words n i ≡ true → calls (op_in words i) ≡ true
unfolding wanted
wanted-calls words n i e = by (calls (op_in words i)) e
  where
    by : (b : Bool) → ((b && leb n.known (arg_in words i)) && ltb (arg_in words i) n.methods) ≡ true → b ≡ true
    by true q = refl
    by false q = never q

module _ (text code words own : List ℕ) (n : Counts) (p : Prepared text code words n) where
  pub up-to-call : (rows : List ℕ) (b r : Judgement) → ((s : Subject) → Right s b) → Onward words own rows n b r
      → UpTo text code words own n r
  up-to-call rows b r begins on = record {
    within = on.within;
    stops = on.stops;
    right = λ ns us e. on.right _ (knows _ rows n p.known) (begins _);
  }

  module _ (j : Judgement) (u : UpTo text code words own n j) (l : j.at < n.long) (going : is_some j.pending ≡ true) where
    here : calls (op_in code j.at) ≡ true
    here = call-there code words n.long j.at p.numbered l (wanted-calls words n j.at (u.stops l going))

    pub call-place : get_or code (2 * j.at + 1) 0 ≤ length text
    unfolding arg_in
    call-place = p.called.within j.at l here

    callee : There (main_first p.called.program) (name_at text (arg_in code j.at))
    callee = p.called.there j.at l here

    pub call-row : (row : List ℕ) → HeaderAt text (get_or code (2 * j.at + 1) 0) row → IsRow row
    unfolding arg_in
    call-row row h =
        subst IsRow (sym (h p.called.program p.called.left callee.method p.called.reads callee.found))
        (header_row callee.method)

    -- the row that the judgement by places means
    row_here : (row : List ℕ) → HeaderAt text (get_or code (2 * j.at + 1) 0) row → (ns : Program) (us : List Token)
        → program_of (tokens_of text) ≡ read ns us
        → called_row text (main_first ns) code (arg_in words j.at) ≡ row
    unfolding called_row arg_in
    row_here row h ns us e =
        let same : p.called.program ≡ ns =
        same-tree p.called.program ns p.called.left us (sym p.called.reads ∙ e) in
        let found = subst (λ ks. method_of (main_first ks) (name_at text (arg_in code j.at)) ≡ some callee.method)
        same
        callee.found in
        ap (called_row text (main_first ns) code)
        (p.numbered.arguments j.at l ∙ ap (λ b. cond b j.at (as_word (arg_in code j.at))) here)
        ∙ ap header_in found ∙ sym (h ns us callee.method e found)

    pub past_one : (row rows : List ℕ) → HeaderAt text (get_or code (2 * j.at + 1) 0) row → (c r : Judgement)
        → c.at ≡ j.at + 1
        → ((f : ℕ → List ℕ) → f (arg_in words j.at) ≡ row → Right (subject_in words own n f) j
        → Right (subject_in words own n f) c)
        → Onward words own rows n c r → UpTo text code words own n r × (j.at < r.at)
    past_one row rows h c r next on_call on = (
      record {
        within = on.within;
        stops = on.stops;
        right = λ ns us e. on.right _ (knows _ rows n p.known)
            (on_call _ (row_here row h ns us e) (u.right ns us e));
      },
      omega (arith, next, on.later),
    )

-- the test of the loop
pub both-tests : (a m : ℕ) (b : Bool) → (ltb a m && b) ≡ true → (a < m) × (b ≡ true)
both-tests a m b e = by (ltb a m) refl e
  where
    by : (x : Bool) → ltb a m ≡ x → (x && b) ≡ true → (a < m) × (b ≡ true)
    by true p t = (ltb-true a m p, t)
    by false p t = never t

pub not-both : (a m : ℕ) (b : Bool) → (ltb a m && b) ≡ false → a < m → b ≡ true → ⊥
not-both a m b e l k = never (sym e ∙ ap₂ (λ x y. x && y) (lt-ltb a m l) k)
