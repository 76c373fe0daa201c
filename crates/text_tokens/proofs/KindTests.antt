-- A token's kind says what the grammar asks of it: for each word and mark, `is` is true exactly where the kind is its
-- number, and so for the end of the text, for names and for numbers.
use Prim.Native.Nat.{ℕ, suc, ◌+◌, ◌<◌}
use native.Mathlib.Nat.{add-zero, zero-add}
use native.Mathlib.Omega.{arith}
use mathlib.Core.Path.{◌≡◌, refl, sym, ap, ◌∙◌, subst}
use mathlib.Core.Logic.{◌⊎◌, inl, inr}
use mathlib.Core.Bool.{Bool, true, false, cond, ◌&&◌, ◌||◌, not}
use mathlib.Core.List.{List, [], ◌∷◌}
use borrow.Author.Tests.{eq-eqb, ne_eqb, leb-true, lt-leb}
use lib.Dec.{T, eqb, leb, eqb→eq}
use lib.ListN.{length, get_or}
use Rattle.lists.specs.Lists.{any, same}
use Rattle.lists.proofs.Laws.{same-equal}
use Rattle.lists.proofs.Tests.{decide, passed, passes, and_left, and_right, and_both, cond-each}
use Rattle.text_parse.specs.Tokens.{Token, is, is_digit, is_letter, reserved, is_reserved, starts_with, is_name, is_numeral}
use Rattle.text_tokens.specs.KindsCode.{marks, place_from, word_kind, mark_kind, kind_of}
use Rattle.text_tokens.proofs.Listed.{NoneOf, place_none}

both_ways : (a b : Bool) → (T a → T b) → (T b → T a) → a ≡ b
both_ways true true f g = refl
both_ways true false f g = absurd (f tt)
both_ways false true f g = absurd (g tt)
both_ways false false f g = refl

-- bytes stand among words that are counted from j on, or are none of them
data Placed (bs : List ℕ) (j : ℕ) (ws : List (List ℕ)) (otherwise m : ℕ) : Type 0 where
  stands : (i : ℕ) → i < length ws → m ≡ j + i → T (same bs (get_or ws i [])) → Placed bs j ws otherwise m
  none : m ≡ otherwise → NoneOf ws bs → Placed bs j ws otherwise m

place : (j : ℕ) (ws : List (List ℕ)) (otherwise : ℕ) (bs : List ℕ)
    → Placed bs j ws otherwise (place_from j ws otherwise bs)
unfolding place_from
place j [] otherwise bs = none refl tt
place j (w ∷ ws) otherwise bs = step (decide (same bs w)) (place (suc j) ws otherwise bs)
  where
    step : {m : ℕ} → (same bs w ≡ true) ⊎ (same bs w ≡ false) → Placed bs (suc j) ws otherwise m
        → Placed bs j (w ∷ ws) otherwise (cond (same bs w) j m)
    step (inl t) p = rw t (stands 0 (omega arith) (sym (add-zero j)) (passes t))
    step (inr t) (stands i l e s) = rw t (stands (suc i) (omega arith) (omega arith) s)
    step (inr t) (none e n) = rw t (none e (t, n))

-- what a kind says of the bytes
data Says (bs : List ℕ) (m : ℕ) : Type 0 where
  word : (i : ℕ) → i < 19 → m ≡ i → T (same bs (get_or reserved i [])) → Says bs m
  mark : (i : ℕ) → i < 13 → m ≡ 19 + i → T (same bs (get_or marks i [])) → Says bs m
  ended : m ≡ 32 → bs ≡ [] → Says bs m
  name : m ≡ 33 → T (starts_with is_letter bs) → NoneOf reserved bs → Says bs m
  number : m ≡ 34 → T (starts_with is_digit bs) → Says bs m
  bad : m ≡ 35 → Says bs m

word-says : (b : ℕ) (bs : List ℕ) (m : ℕ) → T (is_letter b) → Placed (b ∷ bs) 0 reserved 33 m → Says (b ∷ bs) m
word-says b bs m l (stands i h e s) = word i h (e ∙ zero-add i) s
word-says b bs m l (none e n) = name e l n

mark-says : (bs : List ℕ) (m : ℕ) → Placed bs 19 marks 35 m → Says bs m
mark-says bs m (stands i h e s) = mark i h e s
mark-says bs m (none e n) = bad e

kind-says : (bs : List ℕ) → Says bs (kind_of bs)
unfolding kind_of word_kind mark_kind
kind-says [] = ended refl refl
kind-says (b ∷ bs) =
    cond-each (Says (b ∷ bs)) (is_letter b)
    (λ l. word-says b bs _ (passes l) (place 0 reserved 33 (b ∷ bs)))
    (λ l. cond-each (Says (b ∷ bs)) (is_digit b) (λ d. number refl (passes d))
    (λ d. mark-says (b ∷ bs) _ (place 19 marks 35 (b ∷ bs))))

-- Words and marks

module _ (bs : List ℕ) (k : ℕ) where
  says-word : k < 19 → Says bs k → T (same bs (get_or reserved k []))
  says-word h (word i l e s) = rw e s
  says-word h (mark i l e s) = absurd (omega arith)
  says-word h (ended e s) = absurd (omega arith)
  says-word h (name e s n) = absurd (omega arith)
  says-word h (number e s) = absurd (omega arith)
  says-word h (bad e) = absurd (omega arith)

  says-mark : k < 13 → Says bs (19 + k) → T (same bs (get_or marks k []))
  says-mark h (word i l e s) = absurd (omega arith)
  says-mark h (mark i l e s) = let at : k ≡ i = omega arith in rw at s
  says-mark h (ended e s) = absurd (omega arith)
  says-mark h (name e s n) = absurd (omega arith)
  says-mark h (number e s) = absurd (omega arith)
  says-mark h (bad e) = absurd (omega arith)

says-end : (bs : List ℕ) → Says bs 32 → T (same bs [])
says-end bs (word i l e s) = absurd (omega arith)
says-end bs (mark i l e s) = absurd (omega arith)
says-end bs (ended e s) = rw s tt
says-end bs (name e s n) = absurd (omega arith)
says-end bs (number e s) = absurd (omega arith)
says-end bs (bad e) = absurd (omega arith)

-- bytes are a word exactly where their kind is the word's, as only one word has it
one_word : (bs w : List ℕ) (k : ℕ) → kind_of w ≡ k → (Says bs k → T (same bs w)) → same bs w ≡ eqb (kind_of bs) k
one_word bs w k e back =
    both_ways (same bs w) (eqb (kind_of bs) k)
    (λ t. passes (eq-eqb (kind_of bs) k (ap kind_of (same-equal bs w t) ∙ e)))
    (λ t. back (subst (Says bs) (eqb→eq (kind_of bs) k t) (kind-says bs)))

the_word : (bs : List ℕ) (k : ℕ) → k < 19 → kind_of (get_or reserved k []) ≡ k
    → same bs (get_or reserved k []) ≡ eqb (kind_of bs) k
the_word bs k h e = one_word bs (get_or reserved k []) k e (says-word bs k h)

the-mark : (bs : List ℕ) (k : ℕ) → k < 13 → kind_of (get_or marks k []) ≡ 19 + k
    → same bs (get_or marks k []) ≡ eqb (kind_of bs) (19 + k)
the-mark bs k h e = one_word bs (get_or marks k []) (19 + k) e (says-mark bs k h)

pub is-void : (t : Token) → is "void" t ≡ eqb (kind_of t.bytes) 0
unfolding kind_of word_kind place_from
is-void t = the_word t.bytes 0 (omega arith) refl

pub is-int : (t : Token) → is "int" t ≡ eqb (kind_of t.bytes) 1
unfolding kind_of word_kind place_from
is-int t = the_word t.bytes 1 (omega arith) refl

pub is-boolean : (t : Token) → is "boolean" t ≡ eqb (kind_of t.bytes) 2
unfolding kind_of word_kind place_from
is-boolean t = the_word t.bytes 2 (omega arith) refl

pub is-qbit : (t : Token) → is "qbit" t ≡ eqb (kind_of t.bytes) 3
unfolding kind_of word_kind place_from
is-qbit t = the_word t.bytes 3 (omega arith) refl

pub is-channel : (t : Token) → is "channel" t ≡ eqb (kind_of t.bytes) 4
unfolding kind_of word_kind place_from
is-channel t = the_word t.bytes 4 (omega arith) refl

pub is-channel-end : (t : Token) → is "channelEnd" t ≡ eqb (kind_of t.bytes) 5
unfolding kind_of word_kind place_from
is-channel-end t = the_word t.bytes 5 (omega arith) refl

pub is-withends : (t : Token) → is "withends" t ≡ eqb (kind_of t.bytes) 6
unfolding kind_of word_kind place_from
is-withends t = the_word t.bytes 6 (omega arith) refl

pub is-aliasfor : (t : Token) → is "aliasfor" t ≡ eqb (kind_of t.bytes) 7
unfolding kind_of word_kind place_from
is-aliasfor t = the_word t.bytes 7 (omega arith) refl

pub is-new : (t : Token) → is "new" t ≡ eqb (kind_of t.bytes) 8
unfolding kind_of word_kind place_from
is-new t = the_word t.bytes 8 (omega arith) refl

pub is-measure : (t : Token) → is "measure" t ≡ eqb (kind_of t.bytes) 9
unfolding kind_of word_kind place_from
is-measure t = the_word t.bytes 9 (omega arith) refl

pub is-fork : (t : Token) → is "fork" t ≡ eqb (kind_of t.bytes) 10
unfolding kind_of word_kind place_from
is-fork t = the_word t.bytes 10 (omega arith) refl

pub is-return : (t : Token) → is "return" t ≡ eqb (kind_of t.bytes) 11
unfolding kind_of word_kind place_from
is-return t = the_word t.bytes 11 (omega arith) refl

pub is-if : (t : Token) → is "if" t ≡ eqb (kind_of t.bytes) 12
unfolding kind_of word_kind place_from
is-if t = the_word t.bytes 12 (omega arith) refl

pub is-else : (t : Token) → is "else" t ≡ eqb (kind_of t.bytes) 13
unfolding kind_of word_kind place_from
is-else t = the_word t.bytes 13 (omega arith) refl

pub is-while : (t : Token) → is "while" t ≡ eqb (kind_of t.bytes) 14
unfolding kind_of word_kind place_from
is-while t = the_word t.bytes 14 (omega arith) refl

pub is-recv : (t : Token) → is "recv" t ≡ eqb (kind_of t.bytes) 15
unfolding kind_of word_kind place_from
is-recv t = the_word t.bytes 15 (omega arith) refl

pub is-send : (t : Token) → is "send" t ≡ eqb (kind_of t.bytes) 16
unfolding kind_of word_kind place_from
is-send t = the_word t.bytes 16 (omega arith) refl

pub is_true : (t : Token) → is "true" t ≡ eqb (kind_of t.bytes) 17
unfolding kind_of word_kind place_from
is_true t = the_word t.bytes 17 (omega arith) refl

pub is_false : (t : Token) → is "false" t ≡ eqb (kind_of t.bytes) 18
unfolding kind_of word_kind place_from
is_false t = the_word t.bytes 18 (omega arith) refl

pub is_open : (t : Token) → is "(" t ≡ eqb (kind_of t.bytes) 19
unfolding kind_of mark_kind place_from
is_open t = the-mark t.bytes 0 (omega arith) refl

pub is-close : (t : Token) → is ")" t ≡ eqb (kind_of t.bytes) 20
unfolding kind_of mark_kind place_from
is-close t = the-mark t.bytes 1 (omega arith) refl

pub is-open-brace : (t : Token) → is "{" t ≡ eqb (kind_of t.bytes) 21
unfolding kind_of mark_kind place_from
is-open-brace t = the-mark t.bytes 2 (omega arith) refl

pub is-close-brace : (t : Token) → is "}" t ≡ eqb (kind_of t.bytes) 22
unfolding kind_of mark_kind place_from
is-close-brace t = the-mark t.bytes 3 (omega arith) refl

pub is-open-bracket : (t : Token) → is "[" t ≡ eqb (kind_of t.bytes) 23
unfolding kind_of mark_kind place_from
is-open-bracket t = the-mark t.bytes 4 (omega arith) refl

pub is-close-bracket : (t : Token) → is "]" t ≡ eqb (kind_of t.bytes) 24
unfolding kind_of mark_kind place_from
is-close-bracket t = the-mark t.bytes 5 (omega arith) refl

pub is-comma : (t : Token) → is "," t ≡ eqb (kind_of t.bytes) 25
unfolding kind_of mark_kind place_from
is-comma t = the-mark t.bytes 6 (omega arith) refl

pub is-semicolon : (t : Token) → is ";" t ≡ eqb (kind_of t.bytes) 26
unfolding kind_of mark_kind place_from
is-semicolon t = the-mark t.bytes 7 (omega arith) refl

pub is-plus : (t : Token) → is "+" t ≡ eqb (kind_of t.bytes) 27
unfolding kind_of mark_kind place_from
is-plus t = the-mark t.bytes 8 (omega arith) refl

pub is-minus : (t : Token) → is "-" t ≡ eqb (kind_of t.bytes) 28
unfolding kind_of mark_kind place_from
is-minus t = the-mark t.bytes 9 (omega arith) refl

pub is-assign : (t : Token) → is "=" t ≡ eqb (kind_of t.bytes) 29
unfolding kind_of mark_kind place_from
is-assign t = the-mark t.bytes 10 (omega arith) refl

pub is-equals : (t : Token) → is "==" t ≡ eqb (kind_of t.bytes) 30
unfolding kind_of mark_kind place_from
is-equals t = the-mark t.bytes 11 (omega arith) refl

pub is-less : (t : Token) → is "<" t ≡ eqb (kind_of t.bytes) 31
unfolding kind_of mark_kind place_from
is-less t = the-mark t.bytes 12 (omega arith) refl

pub is-end : (t : Token) → is "" t ≡ eqb (kind_of t.bytes) 32
unfolding kind_of
is-end t = one_word t.bytes [] 32 refl (says-end t.bytes)

-- Names and numbers

none_any : (ws : List (List ℕ)) (bs : List ℕ) → NoneOf ws bs → T (not (any (same bs) ws))
none_any [] bs n = tt
none_any (w ∷ ws) bs n = rw n.0 (none_any ws bs n.1)

any_none : (ws : List (List ℕ)) (bs : List ℕ) → T (not (any (same bs) ws)) → NoneOf ws bs
any_none [] bs t = tt
any_none (w ∷ ws) bs t = step (decide (same bs w)) t (any_none ws bs)
  where
    step : (same bs w ≡ true) ⊎ (same bs w ≡ false) → T (not (same bs w || any (same bs) ws))
        → (T (not (any (same bs) ws)) → NoneOf ws bs) → NoneOf (w ∷ ws) bs
    step (inl e) t later = absurd (rw e at t)
    step (inr e) t later = (e, later (rw e at t))

abbrev name_test : List ℕ → Bool
name_test bs = starts_with is_letter bs && not (is_reserved bs)

name-kind : (bs : List ℕ) → T (name_test bs) → kind_of bs ≡ 33
unfolding kind_of word_kind
name-kind [] t = absurd t
name-kind (b ∷ bs) t =
    let letter = passed (is_letter b) (and_left (is_letter b) (not (is_reserved (b ∷ bs))) t) in
    let free = and_right (is_letter b) (not (is_reserved (b ∷ bs))) t in
    rw letter (place_none 0 reserved 33 (b ∷ bs) (any_none reserved (b ∷ bs) free))

says-name : (bs : List ℕ) → Says bs 33 → T (name_test bs)
says-name bs (word i l e s) = absurd (omega arith)
says-name bs (mark i l e s) = absurd (omega arith)
says-name bs (ended e s) = absurd (omega arith)
says-name bs (name e s n) = and_both (starts_with is_letter bs) (not (is_reserved bs)) s (none_any reserved bs n)
says-name bs (number e s) = absurd (omega arith)
says-name bs (bad e) = absurd (omega arith)

pub is-name : (t : Token) → is_name t ≡ eqb (kind_of t.bytes) 33
unfolding is_name
is-name t =
    both_ways (name_test t.bytes) (eqb (kind_of t.bytes) 33)
    (λ n. passes (eq-eqb (kind_of t.bytes) 33 (name-kind t.bytes n)))
    (λ n. says-name t.bytes (subst (Says t.bytes) (eqb→eq (kind_of t.bytes) 33 n) (kind-says t.bytes)))

-- no digit is a letter
digit-apart : (b : ℕ) → T (is_digit b) → is_letter b ≡ false
digit-apart b t =
    let most = leb-true b 57 (passed (leb b 57) (and_right (leb 48 b) (leb b 57) t)) in
    rw (lt-leb 65 b (omega arith), lt-leb 97 b (omega arith), ne_eqb b 95 (λ e. omega arith))

number-kind : (bs : List ℕ) → T (starts_with is_digit bs) → kind_of bs ≡ 34
unfolding kind_of
number-kind [] t = absurd t
number-kind (b ∷ bs) t = rw (digit-apart b t, passed (is_digit b) t)

says-number : (bs : List ℕ) → Says bs 34 → T (starts_with is_digit bs)
says-number bs (word i l e s) = absurd (omega arith)
says-number bs (mark i l e s) = absurd (omega arith)
says-number bs (ended e s) = absurd (omega arith)
says-number bs (name e s n) = absurd (omega arith)
says-number bs (number e s) = s
says-number bs (bad e) = absurd (omega arith)

pub is_number : (t : Token) → is_numeral t ≡ eqb (kind_of t.bytes) 34
unfolding is_numeral
is_number t =
    both_ways (starts_with is_digit t.bytes) (eqb (kind_of t.bytes) 34)
    (λ n. passes (eq-eqb (kind_of t.bytes) 34 (number-kind t.bytes n)))
    (λ n. says-number t.bytes (subst (Says t.bytes) (eqb→eq (kind_of t.bytes) 34 n) (kind-says t.bytes)))
