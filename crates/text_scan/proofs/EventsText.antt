-- The scan over a text of the grammar finds the events of its tree.
use Prim.Native.Nat.{ℕ, zero, suc}
use mathlib.Core.Path.{◌≡◌, refl, sym, ap, ◌∙◌, subst}
use mathlib.Core.Bool.{Bool, true, false, cond}
use mathlib.Core.List.{List, [], ◌∷◌, ◌++◌, map, cons≢nil}
use mathlib.Core.Logic.{◌⊎◌, inl, inr}
use mathlib.Core.Option.{Option}
use lib.Dec.{eqb}
use lib.ListN.{length}
use Rattle.text.specs.Tree.{Name, NonVoidType, Parameter, parameter_of, Method, Program, declared_by, body_variables}
use Rattle.text_parse.specs.Tokens.{Token, tokens_of}
use Rattle.text_parse.specs.Grammar.{Reading, read, leaves, and_then, rest, non_void_type, return_type, parameter, more_parameters, parameters, method_body, method, at_text_end, enough, program_of}
use Rattle.text_parse.specs.Equations.{method_from, program_rule}
use Rattle.text_parse.proofs.Equations.{grammar}
use Rattle.text_parse.specs.Left.{Leaving, leaving, end_token}
use Rattle.text_parse.proofs.WholeText.{whole-text}
use Rattle.text_scan.specs.Events.{Event, method_named, declared, ended, declared_events, statements_events, method_events, program_events}
use Rattle.text_scan.specs.ScanCode.{kind_at, with_event, argument_count, events_from}
use Rattle.text_scan.specs.Standing.{Stand, none-stand, stand}
use Rattle.text_scan.proofs.Opened.{scan-opened}
use Rattle.text_scan.proofs.Holding.{Holds, holds, After, after, AfterName, held, then-holds, both_hold, leaves_at-holds, next-holds, expect-holds, name-holds}
use Rattle.text_scan.proofs.Counting.{parameters-counted}
use Rattle.text_scan.proofs.EventsExpr.{on_word, on-name, words-too, type-events, header-steady, not-open, opens}
use Rattle.text_scan.proofs.EventsCode.{declared-append, declarations-events, statements-events}

-- Headers

header-type : (ts : List Token) → Holds (λ t us. events_from 0 0 ts ≡ events_from 0 0 us) (non_void_type ts)
header-type ts = type-events 0 0 0 (words-too 0 0 0 header-steady) header-steady ts

return-events : (ts : List Token) → Holds (λ t us. events_from 0 0 ts ≡ events_from 0 0 us) (return_type ts)
unfolding return_type scan-opened
return-events ts =
    next-holds "void" ts (λ a. holds (on_word "void" 0 0 a refl))
    (λ f. then-holds (header-type ts) (λ t us p. holds p))

parameter-name : {ts us : List Token} {x : Name} → AfterName ts x us → eqb (kind_at us) 19 ≡ false
    → events_from 0 0 ts ≡ declared x ∷ events_from 0 0 us
unfolding scan-opened
parameter-name {ts} {us} {x} a f =
    on-name 0 0 a ∙ ap (λ (o : Bool). with_event (cond o 1 2) x (argument_count (rest us)) us (events_from 0 0 us)) f

method-name : {ts us : List Token} {x : Name} → AfterName ts x us → eqb (kind_at us) 19 ≡ true
    → events_from 0 0 ts ≡ method_named x (argument_count (rest us)) ∷ events_from 0 0 us
unfolding scan-opened
method-name {ts} {us} {x} a f =
    on-name 0 0 a ∙ ap (λ (o : Bool). with_event (cond o 1 2) x (argument_count (rest us)) us (events_from 0 0 us)) f

-- a parameter, before a token that opens no bracket
parameter-events : (ts : List Token)
    → Holds (λ p us. eqb (kind_at us) 19 ≡ false → events_from 0 0 ts ≡ declared p.name ∷ events_from 0 0 us)
    (parameter ts)
unfolding parameter
parameter-events ts =
    then-holds (header-type ts) (λ t us p. name-holds us (λ x vs a. holds (λ f. p ∙ parameter-name a f)))

parameters-more : (ps : List Parameter) (p : Parameter) (es : List Event)
    → declared_events (map parameter_of (ps ++ (p ∷ []))) es
    ≡ declared_events (map parameter_of ps) (declared p.name ∷ es)
unfolding declared_events
parameters-more [] p es = refl
parameters-more (q ∷ ps) p es = ap (λ fs. declared q.name ∷ fs) (parameters-more ps p es)

-- parameters that begin at os, from after ps on
more-events : (n : ℕ) (os : List Token) (ps : List Parameter) (ts : List Token)
    → events_from 0 0 os ≡ declared_events (map parameter_of ps) (events_from 0 0 ts)
    → Holds (λ qs us. events_from 0 0 os ≡ declared_events (map parameter_of qs) (events_from 0 0 us))
    (more_parameters n ps ts)
unfolding more_parameters scan-opened
more-events zero os ps ts h = leaves_at-holds ts
more-events (suc n) os ps ts h =
    then-holds (parameter-events ts) (λ p us q.
    next-holds "," us
    (λ a. more-events n os (ps ++ (p ∷ [])) (rest us)
    (h ∙ ap (declared_events (map parameter_of ps))
    (q (not-open "," a refl) ∙ ap (λ es. declared p.name ∷ es) (on_word "," 0 0 a refl))
    ∙ sym (parameters-more ps p (events_from 0 0 (rest us)))))
    (λ f. expect-holds ")" us (λ vs a. holds
    (h ∙ ap (declared_events (map parameter_of ps))
    (q (not-open ")" a refl) ∙ ap (λ es. declared p.name ∷ es) (on_word ")" 0 0 a refl))
    ∙ sym (parameters-more ps p (events_from 0 0 vs))))))

parameters-events : (n : ℕ) (ts : List Token)
    → Holds (λ ps us. events_from 0 0 ts ≡ declared_events (map parameter_of ps) (events_from 0 0 us)) (parameters n ts)
unfolding parameters scan-opened declared_events
parameters-events n ts =
    next-holds ")" ts (λ a. holds (on_word ")" 0 0 a refl)) (λ f. more-events n ts [] ts refl)

-- Methods

-- a body, after a header that began at os
body-events : (n : ℕ) (t : Option NonVoidType) (x : Name) (ps : List Parameter) (os ts : List Token)
    → events_from 0 0 os
    ≡ method_named x (length ps) ∷ declared_events (map parameter_of ps) (events_from 0 0 ts)
    → Holds (λ m us. events_from 0 0 os ≡ method_events m us (events_from 0 0 us)) (method_body n t x ps ts)
unfolding method_body scan-opened method_events body_variables
body-events n t x ps os ts h =
    expect-holds "{" ts (λ us a. then-holds (declarations-events n 0 us) (λ ds vs p.
    then-holds (statements-events n 31 0 ((map parameter_of ps ++ declared_by ds) ∷ []) vs) (λ ss ws q. holds
    (h ∙ ap (λ es. method_named x (length ps) ∷ es)
    (ap (declared_events (map parameter_of ps))
    (on_word "{" 0 0 a refl ∙ p ∙ ap (declared_events (declared_by ds)) q)
    ∙ sym (declared-append (map parameter_of ps) (declared_by ds)
    (statements_events ss (ended ws ∷ events_from 0 0 ws))))))))

method-events : (n : ℕ) (ts : List Token)
    → Holds (λ m us. events_from 0 0 ts ≡ method_events m us (events_from 0 0 us)) (method n ts)
unfolding method scan-opened
method-events n ts =
    then-holds (return-events ts) (λ t us p. name-holds us (λ x vs a. expect-holds "(" vs (λ ws c.
    then-holds (both_hold (parameters-events n ws) (parameters-counted n ws)) (λ ps xs q.
    body-events n t x ps ts xs (p ∙ by_count vs ws c x ps (method-name a (opens c)) q.1
    (on_word "(" 0 0 c refl ∙ q.0))))))
  where
    by_count : (us vs : List Token) → After "(" us vs → (x : Name) (ps : List Parameter) {as' bs cs : List Event}
        → as' ≡ method_named x (argument_count (rest us)) ∷ bs → argument_count vs ≡ length ps → bs ≡ cs
        → as' ≡ method_named x (length ps) ∷ cs
    by_count us vs (after e) x ps {as'} {bs} {cs} p q r =
        p ∙ ap (λ (k : ℕ). method_named x k ∷ bs) q ∙ ap (λ fs. method_named x (length ps) ∷ fs) r

-- What a reading that comes to a tree was made of

pub reads_then : {A B : Type 0} (r : Reading A) (k : A → List Token → Reading B) (b : B) (us : List Token)
    → and_then r k ≡ read b us → (a : A) × (vs : List Token) × (r ≡ read a vs) × (k a vs ≡ read b us)
unfolding and_then
reads_then (read a vs) k b us e = (a, vs, refl, e)
reads_then {B} (leaves i) k b us e = absurd (subst Read (sym e) tt)
  where
    Read : Reading B → Type 0
    Read (read a vs) = Unit {0}
    Read (leaves j) = ⊥

tree_of : {A : Type 0} → A → Reading A → A
tree_of d (read a us) = a
tree_of d (leaves i) = d

left-of : {A : Type 0} → Reading A → List Token
left-of (read a us) = us
left-of (leaves i) = []

pub same-tree : {A : Type 0} (a b : A) (us vs : List Token) → read a us ≡ read b vs → a ≡ b
unfolding tree_of
same-tree a b us vs e = ap (tree_of a) e

pub same_left : {A : Type 0} (a b : A) (us vs : List Token) → read a us ≡ read b vs → us ≡ vs
unfolding left-of
same_left a b us vs e = ap left-of e

-- a program is a method, and the end or a program after it
record Parts (ts : List Token) (ms : Program) (us : List Token) : Type 0 where
  one : Method
  others : Program
  left : List Token
  is : ms ≡ one ∷ others
  reads : method_from ts ≡ read one left
  further : ((others ≡ []) × (left ≡ us)) ⊎ (program_of left ≡ read others us)

parts-of : (ms : Program) (ts us : List Token) → program_of ts ≡ read ms us → Parts ts ms us
unfolding program_rule
parts-of ms ts us e =
    let p =
    reads_then (method_from ts)
    (λ m vs. cond (at_text_end vs) (read (m ∷ []) vs) (and_then (program_of vs) (λ ns ws. read (m ∷ ns) ws))) ms us
    (sym (grammar.program-is ts) ∙ e) in
    by p.0 p.1 p.2 (at_text_end p.1) p.3
  where
    by : (m : Method) (vs : List Token) → method_from ts ≡ read m vs → (b : Bool)
        → cond b (read (m ∷ []) vs) (and_then (program_of vs) (λ ns ws. read (m ∷ ns) ws)) ≡ read ms us
        → Parts ts ms us
    by m vs r true q = record {
      one = m;
      others = [];
      left = vs;
      is = sym (same-tree (m ∷ []) ms vs us q);
      reads = r;
      further = inl (refl, same_left (m ∷ []) ms vs us q);
    }
    by m vs r false q =
        let p = reads_then (program_of vs) (λ ns ws. read (m ∷ ns) ws) ms us q in
        record {
          one = m;
          others = p.0;
          left = vs;
          is = sym (same-tree (m ∷ p.0) ms p.1 us p.3);
          reads = r;
          further = inr (p.2 ∙ ap (read p.0) (same_left (m ∷ p.0) ms p.1 us p.3));
        }

-- Programs: where each method stands, and the events up to tokens that have none
pub record Scan (ts : List Token) (ms : Program) : Type 0 where
  pub ends : List (List Token)
  pub stands : Stand ts ms ends
  pub events : events_from 0 0 ts ≡ program_events ms ends

method-all : (ts : List Token) (m : Method) (us : List Token) → method_from ts ≡ read m us
    → events_from 0 0 ts ≡ method_events m us (events_from 0 0 us)
unfolding method_from
method-all ts m us e =
    held m us (subst (Holds (λ n vs. events_from 0 0 ts ≡ method_events n vs (events_from 0 0 vs))) e
    (method-events (enough ts) ts))

nothing-scanned : (ts : List Token) → events_from 0 0 ts ≡ [] → Scan ts []
unfolding program_events
nothing-scanned ts q = record { ends = []; stands = none-stand; events = q }

one-scanned : (ts us : List Token) (m : Method) (ms : Program) → method_from ts ≡ read m us → Scan us ms
    → Scan ts (m ∷ ms)
unfolding program_events
one-scanned ts us m ms r t = record {
  ends = us ∷ t.ends;
  stands = stand r t.stands;
  events = method-all ts m us r ∙ ap (method_events m us) t.events;
}

tail_of : Program → Program
tail_of [] = []
tail_of (m ∷ ms) = ms

program-events : (ms : Program) (ts us : List Token) → program_of ts ≡ read ms us → events_from 0 0 us ≡ []
    → Scan ts ms
unfolding tail_of
program-events [] ts us e q = absurd (cons≢nil (sym (parts-of [] ts us e).is))
program-events (m ∷ ms) ts us e q =
    let p = parts-of (m ∷ ms) ts us e in
    subst (Scan ts) (sym p.is)
    (one-scanned ts p.left p.one p.others p.reads
    (by p.others p.left p.further (λ d. program-events ms p.left us
    (d ∙ ap (λ ns. read ns us) (sym (ap tail_of p.is))) q)
    (ap tail_of p.is)))
  where
    by : (ns : Program) (vs : List Token) → ((ns ≡ []) × (vs ≡ us)) ⊎ (program_of vs ≡ read ns us)
        → (program_of vs ≡ read ns us → Scan vs ms) → ms ≡ ns → Scan vs ns
    by ns vs (inl f) later i =
        subst (Scan vs) (sym f.0) (nothing-scanned vs (ap (events_from 0 0) f.1 ∙ q))
    by ns vs (inr d) later i = subst (Scan vs) i (later d)

-- at the end of a text there is no event
end-no-events : (text : List ℕ) → events_from 0 0 (end_token text ∷ []) ≡ []
unfolding scan-opened events_from
end-no-events text = refl

pub text-events : (text : List ℕ) (ms : Program) (us : List Token) → program_of (tokens_of text) ≡ read ms us
    → Scan (tokens_of text) ms
text-events text ms us e =
    program-events ms (tokens_of text) us e
    (ap (events_from 0 0) (ending (subst (Leaving (λ vs. vs ≡ end_token text ∷ [])) e (whole-text.all_read text)))
    ∙ end-no-events text)
  where
    ending : Leaving (λ vs. vs ≡ end_token text ∷ []) (read ms us) → us ≡ end_token text ∷ []
    ending (leaving p) = p
