-- The scan over an expression finds the events of its tree.
use Prim.Native.Nat.{ℕ, zero, suc}
use Prim.Native.String.{String}
use mathlib.Core.Path.{◌≡◌, refl, sym, ap, ◌∙◌}
use mathlib.Core.Bool.{Bool, true, false, cond}
use mathlib.Core.List.{List, [], ◌∷◌}
use mathlib.Core.Option.{Option, none, some, none-ne-some}
use lib.Dec.{eqb}
use Rattle.lists.proofs.Tests.{cond-each, cond_both, passes}
use Rattle.text.specs.Tree.{ascii, Name, Carried, Operator, Expr, new_qubit, new_channel, new_end, count}
use Rattle.text_parse.specs.Tokens.{Token, is_numeral, name_of}
use Rattle.text_parse.specs.Grammar.{and_then, first, rest, next?, carried, bracketed, non_void_type, Scopes, is_withends, operator_at, allocated, allocation, measured_name, expr, operands, indiv_expr, named, arguments, method_params}
use Rattle.text_tokens.specs.KindsCode.{kind_of, word_kind, mark_kind, place_from}
use Rattle.text_tokens.proofs.KindTests.{is_open}
use Rattle.text_scan.specs.Events.{Event, used, called, expr_events, exprs_events}
use Rattle.text_scan.specs.ScanCode.{kind_at, ends_part, is_type_kind, is_none, less_one, mode_within, mode_after, braces_after, name_role, brace_role, role, with_event, argument_count, events_from}
use Rattle.text_scan.proofs.Holding.{Holds, holds, off, After, after, AfterName, after-name, weaker-holds, then-holds, both_hold, leaves_at-holds, next-holds, expect-holds, name-holds}
use Rattle.text_scan.proofs.WordKinds.{word-kind, name-kind, number-kind}
use Rattle.text_scan.proofs.Opened.{scan-opened}
use Rattle.text_scan.proofs.Counting.{arguments-close}

-- one token of kind k
event-token : (m b k : ℕ) (ts : List Token) → kind_at ts ≡ k → eqb k 32 ≡ false
    → events_from m b ts
    ≡ with_event (role m b k (kind_at (rest ts))) (name_of (first ts)) (argument_count (rest (rest ts))) (rest ts)
    (events_from (mode_after m b k) (braces_after b k) (rest ts))
unfolding events_from kind_of
event-token m b k [] e f = absurd (passes (sym f ∙ ap (λ (j : ℕ). eqb j 32) (sym e)))
event-token m b k (t ∷ ts) e f =
    ap (λ (j : ℕ). with_event (role m b j (kind_at ts)) (name_of t) (argument_count (rest ts)) ts
    (events_from (mode_after m b j) (braces_after b j) ts)) e

-- a word or a mark, and a number
pub on_word : (s : String) (m b : ℕ) {ts us : List Token} → After s ts us → eqb (kind_of (ascii s)) 32 ≡ false
    → events_from m b ts
    ≡ with_event (role m b (kind_of (ascii s)) (kind_at us)) (name_of (first ts)) (argument_count (rest us)) us
    (events_from (mode_after m b (kind_of (ascii s))) (braces_after b (kind_of (ascii s))) us)
on_word s m b {ts} (after e) f = event-token m b (kind_of (ascii s)) ts (word-kind s (first ts) e) f

pub on-name : (m b : ℕ) {ts us : List Token} {x : Name} → AfterName ts x us
    → events_from m b ts
    ≡ with_event (role m b 33 (kind_at us)) x (argument_count (rest us)) us
    (events_from (mode_after m b 33) (braces_after b 33) us)
on-name m b {ts} (after-name e) = event-token m b 33 ts (name-kind (first ts) e) refl

-- Where a statement goes on, in a body: mode 0, or mode 1 after a closing bracket.
abbrev pub mid : Bool → ℕ
mid true = 1
mid false = 0

-- A word or a mark that is no name and starts no type does the same from both.
pub mid-word : (s : String) (c : Bool) (b : ℕ) {ts us : List Token} → After s ts us
    → eqb (kind_of (ascii s)) 32 ≡ false → eqb (kind_of (ascii s)) 33 ≡ false → is_type_kind (kind_of (ascii s)) ≡ false
    → events_from (mid c) (suc b) ts
    ≡ with_event (role 0 (suc b) (kind_of (ascii s)) (kind_at us)) (name_of (first ts)) (argument_count (rest us)) us
    (events_from (mode_after 0 (suc b) (kind_of (ascii s))) (braces_after (suc b) (kind_of (ascii s))) us)
unfolding role mode_after mode_within is_none
mid-word s false b a f g h = on_word s 0 (suc b) a f
mid-word s true b {ts} {us} a f g h =
    let k = kind_of (ascii s) in
    let go : ℕ → ℕ → List Event =
    λ r m. with_event r (name_of (first ts)) (argument_count (rest us)) us (events_from m (braces_after (suc b) k) us) in
    let same-role : role 1 (suc b) k (kind_at us) ≡ role 0 (suc b) k (kind_at us) =
    ap (λ (n : Bool). cond n (name_role 1 (suc b) (kind_at us)) (brace_role (suc b) k)) g
    ∙ sym (ap (λ (n : Bool). cond n (name_role 0 (suc b) (kind_at us)) (brace_role (suc b) k)) g) in
    let same-mode : mode_after 1 (suc b) k ≡ mode_after 0 (suc b) k =
    ap (λ (n : Bool). cond (eqb k 22) (cond (is_none (less_one (suc b))) 0 1)
    (cond (eqb k 9) 2 (cond (ends_part k) 1 (cond n 4 0)))) h in
    on_word s 1 (suc b) a f ∙ ap (λ (r : ℕ). go r (mode_after 1 (suc b) k)) same-role
    ∙ ap (λ (m : ℕ). go (role 0 (suc b) k (kind_at us)) m) same-mode

-- Types

pub data TypeWord : ℕ → Type 0 where
  int_word : TypeWord 1
  boolean-word : TypeWord 2
  qbit-word : TypeWord 3
  channel-word : TypeWord 4
  end-word : TypeWord 5

pub data TypePart : ℕ → Type 0 where
  word : {k : ℕ} → TypeWord k → TypePart k
  bracket : TypePart 23
  closing : TypePart 24

-- from mode m to mode m' by such a token, without an event
abbrev By : (ℕ → Type 0) → ℕ → ℕ → ℕ → Type 0
By K m b m' =
    (k : ℕ) → K k → (f n : ℕ) (x : Name) (ts : List Token)
    → with_event (role m b k f) x n ts (events_from (mode_after m b k) (braces_after b k) ts) ≡ events_from m' b ts

pub body-steady : (b : ℕ) → By TypePart 0 (suc b) 0
unfolding scan-opened
body-steady b k (word int_word) f n x ts = refl
body-steady b k (word boolean-word) f n x ts = refl
body-steady b k (word qbit-word) f n x ts = refl
body-steady b k (word channel-word) f n x ts = refl
body-steady b k (word end-word) f n x ts = refl
body-steady b k bracket f n x ts = refl
body-steady b k closing f n x ts = refl

pub declaration-begins : (b : ℕ) → By TypeWord 1 (suc b) 4
unfolding scan-opened
declaration-begins b k int_word f n x ts = refl
declaration-begins b k boolean-word f n x ts = refl
declaration-begins b k qbit-word f n x ts = refl
declaration-begins b k channel-word f n x ts = refl
declaration-begins b k end-word f n x ts = refl

pub declaration-steady : (b : ℕ) → By TypePart 4 (suc b) 4
unfolding scan-opened
declaration-steady b k (word int_word) f n x ts = refl
declaration-steady b k (word boolean-word) f n x ts = refl
declaration-steady b k (word qbit-word) f n x ts = refl
declaration-steady b k (word channel-word) f n x ts = refl
declaration-steady b k (word end-word) f n x ts = refl
declaration-steady b k bracket f n x ts = refl
declaration-steady b k closing f n x ts = refl

pub header-steady : By TypePart 0 0 0
unfolding scan-opened
header-steady k (word int_word) f n x ts = refl
header-steady k (word boolean-word) f n x ts = refl
header-steady k (word qbit-word) f n x ts = refl
header-steady k (word channel-word) f n x ts = refl
header-steady k (word end-word) f n x ts = refl
header-steady k bracket f n x ts = refl
header-steady k closing f n x ts = refl

pub words-too : (m b m' : ℕ) → By TypePart m b m' → By TypeWord m b m'
words-too m b m' by k w f n x ts = by k (word w) f n x ts

on-part : (s : String) {K : ℕ → Type 0} (m b m' : ℕ) → By K m b m' → K (kind_of (ascii s))
    → eqb (kind_of (ascii s)) 32 ≡ false → {ts us : List Token} → After s ts us
    → events_from m b ts ≡ events_from m' b us
on-part s m b m' by w f {ts} {us} a =
    on_word s m b a f ∙ by (kind_of (ascii s)) w (kind_at us) (argument_count (rest us)) (name_of (first ts)) us

carried-events : (m b m' : ℕ) → By TypeWord m b m' → (ts : List Token)
    → Holds (λ t us. events_from m b ts ≡ events_from m' b us) (carried ts)
unfolding carried kind_of word_kind place_from
carried-events m b m' by ts =
    next-holds "int" ts (λ a. holds (on-part "int" m b m' by int_word refl a))
    (λ f. next-holds "boolean" ts (λ a. holds (on-part "boolean" m b m' by boolean-word refl a))
    (λ f. next-holds "qbit" ts (λ a. holds (on-part "qbit" m b m' by qbit-word refl a))
    (λ f. leaves_at-holds ts)))

bracketed-events : {A : Type 0} (m b : ℕ) → By TypePart m b m → (ts : List Token) (f : Carried → A)
    → Holds (λ t us. events_from m b ts ≡ events_from m b us) (bracketed ts f)
unfolding bracketed kind_of mark_kind place_from
bracketed-events m b by ts f =
    expect-holds "[" ts (λ us a. then-holds (carried-events m b m (words-too m b m by) us) (λ t vs p.
    expect-holds "]" vs (λ ws c.
    holds (on-part "[" m b m by bracket refl a ∙ p ∙ on-part "]" m b m by closing refl c))))

pub type-events : (m b m' : ℕ) → By TypeWord m b m' → By TypePart m' b m' → (ts : List Token)
    → Holds (λ t us. events_from m b ts ≡ events_from m' b us) (non_void_type ts)
unfolding non_void_type kind_of word_kind place_from
type-events m b m' by steady ts =
    next-holds "channel" ts
    (λ a. weaker-holds (λ t us p. on-part "channel" m b m' by channel-word refl a ∙ p)
    (bracketed-events m' b steady (rest ts) _))
    (λ f. next-holds "channelEnd" ts
    (λ a. weaker-holds (λ t us p. on-part "channelEnd" m b m' by end-word refl a ∙ p)
    (bracketed-events m' b steady (rest ts) _))
    (λ f. then-holds (carried-events m b m' by ts) (λ t us p. holds p)))

-- Names

-- the next token opens no bracket
pub not-open : (s : String) {ts us : List Token} → After s ts us → eqb (kind_of (ascii s)) 19 ≡ false
    → eqb (kind_at ts) 19 ≡ false
not-open s {ts} (after e) f = ap (λ (k : ℕ). eqb k 19) (word-kind s (first ts) e) ∙ f

pub opens : {ts us : List Token} → After "(" ts us → eqb (kind_at ts) 19 ≡ true
unfolding kind_of mark_kind place_from
opens {ts} (after e) = ap (λ (k : ℕ). eqb k 19) (word-kind "(" (first ts) e)

pub used-name : (c : Bool) (b : ℕ) {ts us : List Token} {x : Name} → AfterName ts x us → eqb (kind_at us) 19 ≡ false
    → events_from (mid c) (suc b) ts ≡ used x ∷ events_from 0 (suc b) us
unfolding scan-opened
used-name true b {ts} {us} {x} a f =
    on-name 1 (suc b) a
    ∙ ap (λ (o : Bool). with_event (cond o 5 3) x (argument_count (rest us)) us (events_from 0 (suc b) us)) f
used-name false b {ts} {us} {x} a f =
    on-name 0 (suc b) a
    ∙ ap (λ (o : Bool). with_event (cond o 4 3) x (argument_count (rest us)) us (events_from 0 (suc b) us)) f

pub called-name : (b : ℕ) {ts us : List Token} {x : Name} → AfterName ts x us → eqb (kind_at us) 19 ≡ true
    → events_from 0 (suc b) ts ≡ called x (argument_count (rest us)) ∷ events_from 0 (suc b) us
unfolding scan-opened
called-name b {ts} {us} {x} a f =
    on-name 0 (suc b) a
    ∙ ap (λ (o : Bool). with_event (cond o 4 3) x (argument_count (rest us)) us (events_from 0 (suc b) us)) f

-- Expressions

-- from mode 0 in a body on, over what has these events
pub record HasEvents (b : ℕ) (ts us : List Token) (f : List Event → List Event) : Type 0 where
  pub ending : Bool
  pub events : events_from 0 (suc b) ts ≡ f (events_from (mid ending) (suc b) us)

-- what has no event
abbrev NoEvents : Expr → Type 0
NoEvents e = (es : List Event) → expr_events e es ≡ es

bracketed-none : (ts : List Token) (f : Carried → Expr) → ((t : Carried) → NoEvents (f t))
    → Holds (λ e us. NoEvents e) (bracketed ts f)
unfolding bracketed carried
bracketed-none ts f q =
    expect-holds "[" ts (λ us a. then-holds (any-carried us) (λ t vs p. expect-holds "]" vs (λ ws c. holds (q t))))
  where
    any-carried : (us : List Token) → Holds (λ t vs. Unit {0}) (carried us)
    any-carried us =
        next-holds "int" us (λ a. holds tt) (λ f. next-holds "boolean" us (λ a. holds tt)
        (λ f. next-holds "qbit" us (λ a. holds tt) (λ f. leaves_at-holds us)))

-- new T ( ), from its brackets on, and from its type on
allocated-events : (b : ℕ) (e : Expr) (ts : List Token) → NoEvents e
    → Holds (λ d us. events_from 0 (suc b) ts ≡ expr_events d (events_from 1 (suc b) us)) (allocated e ts)
unfolding allocated scan-opened
allocated-events b e ts q =
    expect-holds "(" ts (λ us a. expect-holds ")" us (λ vs c.
    holds (on_word "(" 0 (suc b) a refl ∙ on_word ")" 0 (suc b) c refl ∙ sym (q (events_from 1 (suc b) vs)))))

allocation-events : (b : ℕ) (ts : List Token)
    → Holds (λ e us. events_from 0 (suc b) ts ≡ expr_events e (events_from 1 (suc b) us)) (allocation ts)
unfolding allocation scan-opened expr_events
allocation-events b ts =
    next-holds "qbit" ts
    (λ a. weaker-holds (λ e us p. on_word "qbit" 0 (suc b) a refl ∙ p)
    (allocated-events b new_qubit (rest ts) (λ es. refl)))
    (λ f. next-holds "channel" ts
    (λ a. made new_channel (on_word "channel" 0 (suc b) a refl) (λ t es. refl))
    (λ f. next-holds "channelEnd" ts
    (λ a. made new_end (on_word "channelEnd" 0 (suc b) a refl) (λ t es. refl))
    (λ f. leaves_at-holds ts)))
  where
    made : (f : Carried → Expr) → events_from 0 (suc b) ts ≡ events_from 0 (suc b) (rest ts)
        → ((t : Carried) → NoEvents (f t))
        → Holds (λ e us. events_from 0 (suc b) ts ≡ expr_events e (events_from 1 (suc b) us))
        (and_then (bracketed (rest ts) f) allocated)
    made f e q =
        then-holds
        (both_hold (bracketed-events 0 (suc b) (body-steady b) (rest ts) f) (bracketed-none (rest ts) f q))
        (λ d us p. weaker-holds (λ c vs r. e ∙ p.0 ∙ r) (allocated-events b d us p.1))

pub measured-events : (b : ℕ) (ts : List Token)
    → Holds (λ q us. events_from 2 (suc b) ts ≡ used q ∷ events_from 1 (suc b) us) (measured_name ts)
unfolding measured_name scan-opened
measured-events b ts =
    expect-holds "(" ts (λ us a. expect-holds "StdBasis" us (λ vs c. expect-holds "," vs (λ ws d.
    name-holds ws (λ q xs x. expect-holds ")" xs (λ ys e. holds (
    on_word "(" 2 (suc b) a refl ∙ on_word "StdBasis" 3 (suc b) c refl ∙ on_word "," 0 (suc b) d refl
    ∙ used-name false b x (not-open ")" e refl) ∙ ap (λ es. used q ∷ es) (on_word ")" 0 (suc b) e refl)))))))

operator-events : (c : Bool) (b : ℕ) (ts : List Token) (o : Operator) → operator_at ts ≡ some o
    → events_from (mid c) (suc b) ts ≡ events_from 0 (suc b) (rest ts)
unfolding operator_at scan-opened
operator-events c b ts o =
    cond-each Q (next? "+" ts) (λ e s. mid-word "+" c b {ts = ts} {us = rest ts} (after e) refl refl refl)
    (λ f. cond-each Q (next? "-" ts) (λ e s. mid-word "-" c b {ts = ts} {us = rest ts} (after e) refl refl refl)
    (λ f. cond-each Q (next? "==" ts) (λ e s. mid-word "==" c b {ts = ts} {us = rest ts} (after e) refl refl refl)
    (λ f. cond-each Q (next? "<" ts) (λ e s. mid-word "<" c b {ts = ts} {us = rest ts} (after e) refl refl refl)
    (λ f s. absurd (none-ne-some o s)))))
  where
    Q : Option Operator → Type 0
    Q x = x ≡ some o → events_from (mid c) (suc b) ts ≡ events_from 0 (suc b) (rest ts)

mutual
  unfolding expr scan-opened expr_events

  pub expr-events : (n b : ℕ) (scopes : Scopes) (ts : List Token)
      → Holds (λ e us. HasEvents b ts us (expr_events e)) (expr n scopes ts)
  expr-events zero b scopes ts = leaves_at-holds ts
  expr-events (suc n) b scopes ts =
      next-holds "new" ts
      (λ a. weaker-holds (λ e us p. record { ending = true; events = on_word "new" 0 (suc b) a refl ∙ p })
      (allocation-events b (rest ts)))
      (λ f. then-holds (indiv-events n b scopes ts) (λ e us p. operands-events n b scopes e (operator_at us) ts us p
      refl))

  -- after the expression e, which began at ts
  operands-events : (n b : ℕ) (scopes : Scopes) (e : Expr) (o : Option Operator) (ts us : List Token)
      → HasEvents b ts us (expr_events e) → operator_at us ≡ o
      → Holds (λ f vs. HasEvents b ts vs (expr_events f)) (operands n scopes e o us)
  operands-events zero b scopes e o ts us p q = leaves_at-holds us
  operands-events (suc n) b scopes e none ts us p q = holds p
  operands-events (suc n) b scopes e (some o) ts us p q =
      then-holds (expr-events n b scopes (rest us)) (λ f vs r. holds (record {
        ending = r.ending;
        events = p.events ∙ ap (expr_events e) (operator-events p.ending b us o q ∙ r.events);
      }))

  indiv-events : (n b : ℕ) (scopes : Scopes) (ts : List Token)
      → Holds (λ e us. HasEvents b ts us (expr_events e)) (indiv_expr n scopes ts)
  indiv-events zero b scopes ts = leaves_at-holds ts
  indiv-events (suc n) b scopes ts =
      cond-each (Holds (λ e us. HasEvents b ts us (expr_events e))) (is_numeral (first ts))
      (λ e. holds (record { ending = false; events = event-token 0 (suc b) 34 ts (number-kind (first ts) e) refl }))
      (λ f. next-holds "true" ts
      (λ a. holds (record { ending = false; events = on_word "true" 0 (suc b) a refl }))
      (λ f. next-holds "false" ts
      (λ a. holds (record { ending = false; events = on_word "false" 0 (suc b) a refl }))
      (λ f. next-holds "(" ts
      (λ a. then-holds (expr-events n b scopes (rest ts)) (λ e us p. expect-holds ")" us (λ vs c. holds (record {
        ending = true;
        events = on_word "(" 0 (suc b) a refl ∙ p.events
            ∙ ap (expr_events e) (mid-word ")" p.ending b c refl refl refl);
      }))))
      (λ f. next-holds "recv" ts
      (λ a. expect-holds "(" (rest ts) (λ us d. then-holds (expr-events n b scopes us) (λ e vs p.
      expect-holds ")" vs (λ ws c. holds (record {
        ending = true;
        events = on_word "recv" 0 (suc b) a refl ∙ on_word "(" 0 (suc b) d refl ∙ p.events
            ∙ ap (expr_events e) (mid-word ")" p.ending b c refl refl refl);
      })))))
      (λ f. next-holds "measure" ts
      (λ a. then-holds (measured-events b (rest ts)) (λ q us p. holds (record {
        ending = true;
        events = on_word "measure" 0 (suc b) a refl ∙ p;
      })))
      (λ f. name-holds ts (λ x us a. named-events n b scopes x ts us a)))))))

  -- after the name x, which is the first of ts
  named-events : (n b : ℕ) (scopes : Scopes) (x : Name) (ts us : List Token) → AfterName ts x us
      → Holds (λ e vs. HasEvents b ts vs (expr_events e)) (named n scopes x us)
  named-events zero b scopes x ts us a = leaves_at-holds us
  named-events (suc n) b scopes x ts us a =
      next-holds "=" us
      (λ c. cond_both (Holds (λ e vs. HasEvents b ts vs (expr_events e))) (is_withends scopes x) off
      (then-holds (expr-events n b scopes (rest us)) (λ e vs p. holds (record {
        ending = p.ending;
        events = used-name false b a (not-open "=" c refl)
            ∙ ap (λ es. used x ∷ es) (on_word "=" 0 (suc b) c refl ∙ p.events);
      }))))
      (λ f. next-holds "(" us
      (λ c. then-holds (both_hold (arguments-events n b scopes (rest us)) (arguments-close n scopes (rest us)))
      (λ es vs p. holds (record {
        ending = true;
        events = called-name b a (opens c)
            ∙ ap (λ (k : ℕ). called x k ∷ events_from 0 (suc b) us) p.1.1
            ∙ ap (λ fs. called x (count es) ∷ fs) (on_word "(" 0 (suc b) c refl ∙ p.0);
      })))
      (λ g. holds (record {
        ending = false;
        events = used-name false b a (sym (is_open (first us)) ∙ g);
      })))

  pub arguments-events : (n b : ℕ) (scopes : Scopes) (ts : List Token)
      → Holds (λ es us. events_from 0 (suc b) ts ≡ exprs_events es (events_from 1 (suc b) us)) (arguments n scopes ts)
  arguments-events zero b scopes ts = leaves_at-holds ts
  arguments-events (suc n) b scopes ts =
      next-holds ")" ts (λ a. holds (on_word ")" 0 (suc b) a refl)) (λ f. params-events n b scopes ts)

  params-events : (n b : ℕ) (scopes : Scopes) (ts : List Token)
      → Holds (λ es us. events_from 0 (suc b) ts ≡ exprs_events es (events_from 1 (suc b) us)) (method_params n scopes ts)
  params-events zero b scopes ts = leaves_at-holds ts
  params-events (suc n) b scopes ts =
      then-holds (expr-events n b scopes ts) (λ e us p.
      next-holds "," us
      (λ a. then-holds (params-events n b scopes (rest us)) (λ es vs q. holds
      (p.events ∙ ap (expr_events e) (mid-word "," p.ending b a refl refl refl ∙ q))))
      (λ f. expect-holds ")" us (λ vs c. holds
      (p.events ∙ ap (expr_events e) (mid-word ")" p.ending b c refl refl refl)))))
