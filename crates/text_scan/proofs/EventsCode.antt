-- The scan over declarations and statements finds the events of their trees.
use Prim.Native.Nat.{ℕ, zero, suc}
use mathlib.Core.Path.{◌≡◌, refl, sym, ap, ◌∙◌}
use mathlib.Core.Bool.{Bool, true, cond}
use mathlib.Core.List.{List, [], ◌∷◌, ◌++◌, map}
use lib.Dec.{eqb}
use Rattle.lists.proofs.Tests.{cond-each}
use Rattle.text.specs.Tree.{Name, Carried, NonVoidType, plain, channel_type, end_type, Declaration, Declared, plainly, declared_in, declared_by, Exprs, Statement, count}
use Rattle.text_parse.specs.Tokens.{Token}
use Rattle.text_parse.specs.Grammar.{rest, starts_type, Scopes, more_names, end_names, declaration_of, declaration, declarations, named_statement, fork_statement, send_statement, recv_statement, simple, condition, statement, body, unbraced, block_of, statements}
use Rattle.text_scan.specs.Events.{Event, declared, used, called, invoked, opened, closed, ended, expr_events, exprs_events, declared_events, statement_events, statements_events}
use Rattle.text_scan.specs.ScanCode.{kind_at, mode_after, with_event, argument_count, events_from}
use Rattle.text_scan.proofs.Opened.{scan-opened}
use Rattle.text_scan.proofs.Holding.{Holds, holds, After, after, AfterName, weaker-holds, then-holds, both_hold, leaves_at-holds, deeper-holds, next-holds, expect-holds, name-holds}
use Rattle.text_scan.proofs.Counting.{arguments-close}
use Rattle.text_scan.proofs.EventsExpr.{on_word, on-name, mid-word, type-events, declaration-begins, declaration-steady, not-open, opens, used-name, called-name, measured-events, expr-events, arguments-events}

-- Declarations

pub declared-append : (ds cs : List Declared) (es : List Event)
    → declared_events (ds ++ cs) es ≡ declared_events ds (declared_events cs es)
unfolding declared_events
declared-append [] cs es = refl
declared-append (d ∷ ds) cs es = ap (λ fs. declared d.name ∷ fs) (declared-append ds cs es)

names_more : (t : NonVoidType) (xs : List Name) (x : Name) (es : List Event)
    → declared_events (map (plainly t) (xs ++ (x ∷ []))) es ≡ declared_events (map (plainly t) xs) (declared x ∷ es)
unfolding declared_events
names_more t [] x es = refl
names_more t (y ∷ xs) x es = ap (λ fs. declared y ∷ fs) (names_more t xs x es)

declarations-more : (ds : List Declaration) (d : Declaration) (es : List Event)
    → declared_events (declared_by (ds ++ (d ∷ []))) es
    ≡ declared_events (declared_by ds) (declared_events (declared_in d) es)
unfolding declared_events declared_by
declarations-more [] d es = declared-append (declared_in d) [] es
declarations-more (c ∷ ds) d es =
    declared-append (declared_in c) (declared_by (ds ++ (d ∷ []))) es
    ∙ ap (declared_events (declared_in c)) (declarations-more ds d es)
    ∙ sym (declared-append (declared_in c) (declared_by ds) (declared_events (declared_in d) es))

-- a name within a declaration
declared-name : (b : ℕ) {ts us : List Token} {x : Name} → AfterName ts x us
    → events_from 4 (suc b) ts ≡ declared x ∷ events_from 4 (suc b) us
unfolding scan-opened
declared-name b a = on-name 4 (suc b) a

-- A declaration that begins at os, from after the names xs on
module _ (b : ℕ) (os : List Token) where
  abbrev HasEvents : Declaration → List Token → Type 0
  HasEvents d us = events_from 1 (suc b) os ≡ declared_events (declared_in d) (events_from 1 (suc b) us)

  names-events : (n : ℕ) (t : NonVoidType) (xs : List Name) (ts : List Token)
      → events_from 1 (suc b) os ≡ declared_events (map (plainly t) xs) (events_from 4 (suc b) ts)
      → Holds HasEvents (more_names n t xs ts)
  unfolding more_names scan-opened declared_in
  names-events zero t xs ts p = leaves_at-holds ts
  names-events (suc n) t xs ts p =
      next-holds "," ts
      (λ a. name-holds (rest ts) (λ x us c. names-events n t (xs ++ (x ∷ [])) us
      (p ∙ ap (declared_events (map (plainly t) xs)) (on_word "," 4 (suc b) a refl ∙ declared-name b c)
      ∙ sym (names_more t xs x (events_from 4 (suc b) us)))))
      (λ f. expect-holds ";" ts (λ us a. holds
      (p ∙ ap (declared_events (map (plainly t) xs)) (on_word ";" 4 (suc b) a refl))))

  ends-events : (t : Carried) (x : Name) (ts : List Token)
      → events_from 1 (suc b) os ≡ declared x ∷ events_from 4 (suc b) ts → Holds HasEvents (end_names t x ts)
  unfolding end_names scan-opened declared_in declared_events
  ends-events t x ts p =
      expect-holds "[" ts (λ us a. name-holds us (λ y vs c. expect-holds "," vs (λ ws d. name-holds ws (λ z xs e.
      expect-holds "]" xs (λ ys f. expect-holds ";" ys (λ zs g. holds
      (p ∙ ap (λ es. declared x ∷ es) (on_word "[" 4 (suc b) a refl ∙ declared-name b c
      ∙ ap (λ es. declared y ∷ es) (on_word "," 4 (suc b) d refl ∙ declared-name b e
      ∙ ap (λ es. declared z ∷ es) (on_word "]" 4 (suc b) f refl ∙ on_word ";" 4 (suc b) g refl))))))))))

  rest-events : (n : ℕ) (t : NonVoidType) (x : Name) (ts : List Token)
      → events_from 1 (suc b) os ≡ declared x ∷ events_from 4 (suc b) ts → Holds HasEvents (declaration_of n t x ts)
  unfolding declaration_of scan-opened declared_events
  rest-events n (plain t) x ts p = names-events n (plain t) (x ∷ []) ts p
  rest-events n (channel_type t) x ts p =
      next-holds "withends" ts
      (λ a. ends-events t x (rest ts) (p ∙ ap (λ es. declared x ∷ es) (on_word "withends" 4 (suc b) a refl)))
      (λ f. names-events n (channel_type t) (x ∷ []) ts p)
  rest-events n (end_type t) x ts p = names-events n (end_type t) (x ∷ []) ts p

  declaration-events : (n : ℕ) → Holds HasEvents (declaration n os)
  unfolding declaration
  declaration-events n =
      then-holds (type-events 1 (suc b) 4 (declaration-begins b) (declaration-steady b) os) (λ t us p.
      name-holds us (λ x vs a. rest-events n t x vs (p ∙ declared-name b a)))

-- declarations that begin at os, from after ds on
declarations-on : (n b : ℕ) (os : List Token) (ds : List Declaration) (ts : List Token)
    → events_from 1 (suc b) os ≡ declared_events (declared_by ds) (events_from 1 (suc b) ts)
    → Holds (λ cs us. events_from 1 (suc b) os ≡ declared_events (declared_by cs) (events_from 1 (suc b) us))
    (declarations n ds ts)
unfolding declarations
declarations-on zero b os ds ts p = leaves_at-holds ts
declarations-on (suc n) b os ds ts p =
    cond-each (Holds (λ cs us. events_from 1 (suc b) os ≡ declared_events (declared_by cs) (events_from 1 (suc b) us)))
    (starts_type ts)
    (λ e. then-holds (declaration-events b ts n) (λ d us q. declarations-on n b os (ds ++ (d ∷ [])) us
    (p ∙ ap (declared_events (declared_by ds)) q ∙ sym (declarations-more ds d (events_from 1 (suc b) us)))))
    (λ e. holds p)

pub declarations-events : (n b : ℕ) (ts : List Token)
    → Holds (λ ds us. events_from 1 (suc b) ts ≡ declared_events (declared_by ds) (events_from 1 (suc b) us))
    (declarations n [] ts)
unfolding declared_by declared_events
declarations-events n b ts = declarations-on n b ts [] ts refl

-- Statements

invoked-name : (b : ℕ) {ts us : List Token} {x : Name} → AfterName ts x us → eqb (kind_at us) 19 ≡ true
    → events_from 1 (suc b) ts ≡ invoked x (argument_count (rest us)) ∷ events_from 0 (suc b) us
unfolding scan-opened
invoked-name b {ts} {us} {x} a f =
    on-name 1 (suc b) a
    ∙ ap (λ (o : Bool). with_event (cond o 5 3) x (argument_count (rest us)) us (events_from 0 (suc b) us)) f

module _ (b : ℕ) (scopes : Scopes) where
  named-events : (n : ℕ) (x : Name) (ts us : List Token) → AfterName ts x us
      → Holds (λ s vs. events_from 1 (suc b) ts ≡ statement_events s (events_from 1 (suc b) vs))
      (named_statement n scopes x us)
  unfolding named_statement scan-opened statement_events
  named-events n x ts us a =
      next-holds "=" us
      (λ c. then-holds (expr-events n b scopes (rest us)) (λ e vs p. expect-holds ";" vs (λ ws d. holds
      (used-name true b a (not-open "=" c refl)
      ∙ ap (λ es. used x ∷ es) (on_word "=" 0 (suc b) c refl ∙ p.events
      ∙ ap (expr_events e) (mid-word ";" p.ending b d refl refl refl))))))
      (λ f. next-holds "(" us
      (λ c. then-holds (both_hold (arguments-events n b scopes (rest us)) (arguments-close n scopes (rest us)))
      (λ es vs p. expect-holds ";" vs (λ ws d. holds
      (invoked-name b a (opens c)
      ∙ ap (λ (k : ℕ). invoked x k ∷ events_from 0 (suc b) us) p.1.1
      ∙ ap (λ fs. invoked x (count es) ∷ fs) (on_word "(" 0 (suc b) c refl ∙ p.0
      ∙ ap (exprs_events es) (on_word ";" 1 (suc b) d refl))))))
      (λ g. leaves_at-holds us))

  -- after the first word of a statement
  abbrev From : List Token → Statement → List Token → Type 0
  From ts s us = events_from 0 (suc b) ts ≡ statement_events s (events_from 1 (suc b) us)

  fork-events : (n : ℕ) (ts : List Token) → Holds (From ts) (fork_statement n scopes ts)
  unfolding fork_statement scan-opened statement_events
  fork-events n ts =
      name-holds ts (λ m us a. expect-holds "(" us (λ vs c.
      then-holds (both_hold (arguments-events n b scopes vs) (arguments-close n scopes vs)) (λ es ws p.
      expect-holds ";" ws (λ xs d. holds (by_count us vs c m es (called-name b a (opens c)) p.1.1
      (on_word "(" 0 (suc b) c refl ∙ p.0 ∙ ap (exprs_events es) (on_word ";" 1 (suc b) d refl)))))))
    where
      by_count : (us vs : List Token) → After "(" us vs → (m : Name) (es : Exprs) {as' bs cs : List Event}
          → as' ≡ called m (argument_count (rest us)) ∷ bs → argument_count vs ≡ count es → bs ≡ cs
          → as' ≡ called m (count es) ∷ cs
      by_count us vs (after e) m es {as'} {bs} {cs} p q r =
          p ∙ ap (λ (k : ℕ). called m k ∷ bs) q ∙ ap (λ fs. called m (count es) ∷ fs) r

  send-events : (n : ℕ) (ts : List Token) → Holds (From ts) (send_statement n scopes ts)
  unfolding send_statement scan-opened statement_events
  send-events n ts =
      expect-holds "(" ts (λ us a. then-holds (expr-events n b scopes us) (λ e vs p. expect-holds "," vs (λ ws c.
      then-holds (expr-events n b scopes ws) (λ v xs q. expect-holds ")" xs (λ ys d. expect-holds ";" ys (λ zs f. holds
      (on_word "(" 0 (suc b) a refl ∙ p.events
      ∙ ap (expr_events e) (mid-word "," p.ending b c refl refl refl ∙ q.events
      ∙ ap (expr_events v) (mid-word ")" q.ending b d refl refl refl ∙ on_word ";" 1 (suc b) f refl)))))))))

  recv-events : (n : ℕ) (ts : List Token) → Holds (From ts) (recv_statement n scopes ts)
  unfolding recv_statement scan-opened statement_events
  recv-events n ts =
      expect-holds "(" ts (λ us a. then-holds (expr-events n b scopes us) (λ e vs p. expect-holds ")" vs (λ ws c.
      expect-holds ";" ws (λ xs d. holds
      (on_word "(" 0 (suc b) a refl ∙ p.events
      ∙ ap (expr_events e) (mid-word ")" p.ending b c refl refl refl ∙ on_word ";" 1 (suc b) d refl))))))

  simple-events : (n : ℕ) (ts : List Token)
      → Holds (λ s us. events_from 1 (suc b) ts ≡ statement_events s (events_from 1 (suc b) us)) (simple n scopes ts)
  unfolding simple scan-opened statement_events
  simple-events n ts =
      next-holds ";" ts (λ a. holds (on_word ";" 1 (suc b) a refl))
      (λ f. next-holds "measure" ts
      (λ a. then-holds (measured-events b (rest ts)) (λ q us p. expect-holds ";" us (λ vs c. holds
      (on_word "measure" 1 (suc b) a refl ∙ p ∙ ap (λ es. used q ∷ es) (on_word ";" 1 (suc b) c refl)))))
      (λ f. next-holds "fork" ts
      (λ a. weaker-holds (λ s us p. on_word "fork" 1 (suc b) a refl ∙ p) (fork-events n (rest ts)))
      (λ f. next-holds "send" ts
      (λ a. weaker-holds (λ s us p. on_word "send" 1 (suc b) a refl ∙ p) (send-events n (rest ts)))
      (λ f. next-holds "recv" ts
      (λ a. weaker-holds (λ s us p. on_word "recv" 1 (suc b) a refl ∙ p) (recv-events n (rest ts)))
      (λ f. next-holds "return" ts
      (λ a. then-holds (expr-events n b scopes (rest ts)) (λ e us p. expect-holds ";" us (λ vs c. holds
      (on_word "return" 1 (suc b) a refl ∙ p.events ∙ ap (expr_events e)
      (mid-word ";" p.ending b c refl refl refl)))))
      (λ f. name-holds ts (λ x us a. named-events n x ts us a)))))))

  condition-events : (n : ℕ) (ts : List Token)
      → Holds (λ e us. events_from 0 (suc b) ts ≡ expr_events e (events_from 1 (suc b) us)) (condition n scopes ts)
  unfolding condition scan-opened
  condition-events n ts =
      expect-holds "(" ts (λ us a. then-holds (expr-events n b scopes us) (λ e vs p. expect-holds ")" vs (λ ws c. holds
      (on_word "(" 0 (suc b) a refl ∙ p.events ∙ ap (expr_events e) (mid-word ")" p.ending b c refl refl refl)))))

-- a statement, with so many braces open around it
abbrev Whole : ℕ → List Token → Statement → List Token → Type 0
Whole b ts s us = events_from 1 (suc b) ts ≡ statement_events s (events_from 1 (suc b) us)

-- the end of a block, with so many braces open around it
abbrev pub end_of : ℕ → List Token → List Event → List Event
end_of zero us es = ended us ∷ es
end_of (suc b) us es = closed ∷ es

ended-events : (b : ℕ) (ts : List Token) → After "}" ts (rest ts)
    → events_from 1 (suc b) ts ≡ end_of b (rest ts) (events_from (mode_after 1 (suc b) 22) b (rest ts))
unfolding scan-opened
ended-events zero ts a = on_word "}" 1 1 a refl
ended-events (suc b) ts a = on_word "}" 1 (suc (suc b)) a refl

mutual
  unfolding statement scan-opened statement_events

  statement-events : (n left b : ℕ) (scopes : Scopes) (ts : List Token)
      → Holds (Whole b ts) (statement n left scopes ts)
  statement-events zero left b scopes ts = leaves_at-holds ts
  statement-events (suc n) left b scopes ts =
      next-holds "{" ts (λ a. deeper-holds left ts (λ l. block-events n l b scopes ts))
      (λ f. unbraced-events n left b scopes ts)

  body-events : (n left b : ℕ) (scopes : Scopes) (ts : List Token) → Holds (Whole b ts) (body n left scopes ts)
  body-events zero left b scopes ts = leaves_at-holds ts
  body-events (suc n) left b scopes ts =
      deeper-holds left ts (λ l.
      next-holds "{" ts (λ a. block-events n l b scopes ts) (λ f. unbraced-events n l b scopes ts))

  unbraced-events : (n left b : ℕ) (scopes : Scopes) (ts : List Token)
      → Holds (Whole b ts) (unbraced n left scopes ts)
  unbraced-events zero left b scopes ts = leaves_at-holds ts
  unbraced-events (suc n) left b scopes ts =
      next-holds "if" ts
      (λ a. then-holds (condition-events b scopes n (rest ts)) (λ e us p.
      then-holds (body-events n left b scopes us) (λ s vs q.
      next-holds "else" vs
      (λ c. then-holds (body-events n left b scopes (rest vs)) (λ t ws r. holds
      (on_word "if" 1 (suc b) a refl ∙ p
      ∙ ap (expr_events e) (q ∙ ap (statement_events s) (on_word "else" 1 (suc b) c refl ∙ r)))))
      (λ f. holds (on_word "if" 1 (suc b) a refl ∙ p ∙ ap (expr_events e) q)))))
      (λ f. next-holds "while" ts
      (λ a. then-holds (condition-events b scopes n (rest ts)) (λ e us p.
      then-holds (body-events n left b scopes us) (λ s vs q. holds
      (on_word "while" 1 (suc b) a refl ∙ p ∙ ap (expr_events e) q))))
      (λ f. simple-events b scopes n ts))

  block-events : (n left b : ℕ) (scopes : Scopes) (ts : List Token) → Holds (Whole b ts) (block_of n left scopes ts)
  block-events zero left b scopes ts = leaves_at-holds ts
  block-events (suc n) left b scopes ts =
      expect-holds "{" ts (λ us a. then-holds (declarations-events n (suc b) us) (λ ds vs p.
      then-holds (statements-events n left (suc b) (declared_by ds ∷ scopes) vs) (λ ss ws q. holds
      (on_word "{" 1 (suc b) a refl
      ∙ ap (λ es. opened ∷ es) (p ∙ ap (declared_events (declared_by ds)) q)))))

  -- with the end of their block
  pub statements-events : (n left b : ℕ) (scopes : Scopes) (ts : List Token)
      → Holds (λ ss us. events_from 1 (suc b) ts
      ≡ statements_events ss (end_of b us (events_from (mode_after 1 (suc b) 22) b us)))
      (statements n left scopes ts)
  statements-events zero left b scopes ts = leaves_at-holds ts
  statements-events (suc n) left b scopes ts =
      next-holds "}" ts (λ a. holds (ended-events b ts a))
      (λ f. then-holds (statement-events n left b scopes ts) (λ s us p.
      then-holds (statements-events n left b scopes us) (λ ss vs q. holds (p ∙ ap (statement_events s) q))))
