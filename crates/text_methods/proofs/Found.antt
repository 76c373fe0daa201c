-- The methods that the code finds in a text of the grammar are those of its tree.
use Prim.Native.Nat.{ℕ, zero, suc}
use native.Mathlib.Omega.{arith}
use mathlib.Core.Path.{◌≡◌, refl, sym, ap, ◌∙◌, subst}
use mathlib.Core.Bool.{Bool, true, false, cond, ◌&&◌}
use mathlib.Core.List.{List, [], ◌∷◌}
use mathlib.Core.Option.{Option, none, some}
use lib.Dec.{eqb, eqb→eq}
use Rattle.std.specs.Prelude as P
use lib.ListN.{length}
use borrow.Author.Tests.{ne_eqb}
use Rattle.lists.specs.Lists.{same}
use Rattle.lists.proofs.Tests.{passes}
use Rattle.text.specs.Tree.{Name, spells, Method, Program, number_of, index_of}
use Rattle.text_parse.specs.Tokens.{Token, name_of, tokens_of}
use Rattle.text_parse.specs.Grammar.{read, rest, program_of}
use Rattle.text_parse.specs.Equations.{method_from}
use Rattle.text_tokens.specs.KindsCode.{kind_of}
use Rattle.text_tokens.proofs.Tokenwise.{tokens-at-start}
use Rattle.text_scan.specs.Events.{Event, program_events}
use Rattle.text_scan.specs.ScanCode.{kind_at, is_none, less_one, mode_after, braces_after, name_role, brace_role, role, with_event, argument_count, events_from}
use Rattle.text_scan.specs.FaultsCode.{each_method}
use Rattle.text_scan.specs.Standing.{Stand, none-stand, stand}
use Rattle.text_scan.proofs.Methods.{each-method, first_named, first_of}
use Rattle.text_scan.proofs.EventsText.{text-events}
use Rattle.text_methods.specs.RowsCode.{Row, ends_method, rows_from, rows_of, row_of, row_index, Agrees, agrees, FirstNamed}
use Rattle.text_methods.specs.declared.find.MethodAt.{MethodAt}
use Rattle.text_methods.specs.declared.find.NoSuchMethod.{NoSuchMethod}
use Rattle.text_methods.specs.MethodSays.{MethodSays, stands, absent}
use Rattle.text_methods.proofs.Looking.{none-index, missing-index}

abbrev pub row_for : List Token → Name → ℕ → Row
row_for hs x n = record { name = x; count = n; tokens = hs }

-- Rows from events

one-test : (b : ℕ) → eqb (suc b) 1 ≡ is_none b
unfolding is_none
one-test zero = refl
one-test (suc b) = ne_eqb (suc (suc b)) 1 (λ e. omega arith)

-- a name is no brace, and an opening brace no closing one
not-brace : (k j : ℕ) → eqb k j ≡ true → eqb j 22 ≡ false → eqb k 22 ≡ false
not-brace k j e f = ap (λ (i : ℕ). eqb i 22) (eqb→eq k j (passes e)) ∙ f

and-off : (a b : Bool) → b ≡ false → (a && b) ≡ false
and-off true b e = e
and-off false b e = refl

module _ (hs ts : List Token) (x : Name) (n : ℕ) (es : List Event) where
  outside : (m k f : ℕ)
      → each_method row_for hs (with_event (role m 0 k f) x n ts es)
      ≡ cond (eqb k 33 && eqb f 19) (row_for hs x n ∷ each_method row_for hs es) (each_method row_for hs es)
  unfolding role name_role brace_role is_none with_event each_method
  outside m k f = by (eqb k 33) (eqb f 19)
    where
      by : (a b : Bool)
          → each_method row_for hs (with_event (cond a (cond b 1 2) 0) x n ts es)
          ≡ cond (a && b) (row_for hs x n ∷ each_method row_for hs es) (each_method row_for hs es)
      by true true = refl
      by true false = refl
      by false b = refl

  inside : (m b k f : ℕ)
      → each_method row_for hs (with_event (role m (suc b) k f) x n ts es)
      ≡ each_method row_for (cond (is_none b && eqb k 22) ts hs) es
  unfolding role name_role brace_role is_none less_one with_event each_method
  inside m b k f = by (eqb k 33) refl
    where
      keep : (is_none b && eqb k 22) ≡ false
          → each_method row_for hs es ≡ each_method row_for (cond (is_none b && eqb k 22) ts hs) es
      keep e = sym (ap (λ (c : Bool). each_method row_for (cond c ts hs) es) e)

      name : (a c d g : Bool)
          → each_method row_for hs (with_event (cond a 2 (cond c 0 (cond d (cond g 5 4) 3))) x n ts es)
          ≡ each_method row_for hs es
      name true c d g = refl
      name false true d g = refl
      name false false true true = refl
      name false false true false = refl
      name false false false g = refl

      brace : (a c : Bool) → eqb k 21 ≡ a → eqb k 22 ≡ c
          → each_method row_for hs (with_event (cond a 6 (cond c (cond (is_none b) 8 7) 0)) x n ts es)
          ≡ each_method row_for (cond (is_none b && c) ts hs) es
      brace true c e g =
          sym (ap (λ (d : Bool). each_method row_for (cond d ts hs) es)
          (and-off (is_none b) c (sym g ∙ not-brace k 21 e refl)))
      brace false true e g = last (is_none b)
        where
          last : (d : Bool)
              → each_method row_for hs (with_event (cond d 8 7) x n ts es)
              ≡ each_method row_for (cond (d && true) ts hs) es
          last true = refl
          last false = refl
      brace false false e g =
          sym (ap (λ (d : Bool). each_method row_for (cond d ts hs) es) (and-off (is_none b) false refl))

      by : (a : Bool) → eqb k 33 ≡ a
          → each_method row_for hs (with_event
          (cond a (cond (eqb m 4) 2 (cond (eqb m 3) 0 (cond (eqb f 19) (cond (eqb m 1) 5 4) 3)))
          (cond (eqb k 21) 6 (cond (eqb k 22) (cond (is_none b) 8 7) 0))) x n ts es)
          ≡ each_method row_for (cond (is_none b && eqb k 22) ts hs) es
      by true e =
          name (eqb m 4) (eqb m 3) (eqb f 19) (eqb m 1)
          ∙ keep (and-off (is_none b) (eqb k 22) (not-brace k 33 e refl))
      by false e = brace (eqb k 21) (eqb k 22) refl refl

pub rows-scanned : (hs : List Token) (m b : ℕ) (ts : List Token)
    → each_method row_for hs (events_from m b ts) ≡ rows_from hs b ts
unfolding events_from rows_from each_method
rows-scanned hs m b [] = refl
rows-scanned hs m zero (t ∷ ts) =
    let k = kind_of t.bytes in
    outside hs ts (name_of t) (argument_count (rest ts)) (events_from (mode_after m 0 k) (braces_after 0 k) ts) m k
    (kind_at ts)
    ∙ ap (λ (rs : List Row). cond (eqb k 33 && eqb (kind_at ts) 19)
    (row_for hs (name_of t) (argument_count (rest ts)) ∷ rs) rs)
    (rows-scanned hs (mode_after m 0 k) (braces_after 0 k) ts)
rows-scanned hs m (suc b) (t ∷ ts) =
    let k = kind_of t.bytes in
    let gs = cond (is_none b && eqb k 22) ts hs in
    let ends : (is_none b && eqb k 22) ≡ ends_method (suc b) k =
    ap (λ (c : Bool). c && eqb k 22) (sym (one-test b)) in
    let unnamed : eqb (suc b) 0 ≡ false = ne_eqb (suc b) 0 (λ e. omega arith) in
    inside hs ts (name_of t) (argument_count (rest ts))
    (events_from (mode_after m (suc b) k) (braces_after (suc b) k) ts) m b k
    (kind_at ts)
    ∙ rows-scanned gs (mode_after m (suc b) k) (braces_after (suc b) k) ts
    ∙ ap (λ (c : Bool). rows_from (cond c ts hs) (braces_after (suc b) k) ts) ends
    ∙ sym (ap (λ (c : Bool). cond (c && (eqb k 33 && eqb (kind_at ts) 19))
    (row_for hs (name_of t) (argument_count (rest ts))
    ∷ rows_from (cond (ends_method (suc b) k) ts hs) (braces_after (suc b) k) ts)
    (rows_from (cond (ends_method (suc b) k) ts hs) (braces_after (suc b) k) ts)) unnamed)

-- Rows of a tree

pub data RowsFor : Program → List Row → Type 0 where
  none-listed : RowsFor [] []
  listed : {m : Method} {ms : Program} {r : Row} {rs : List Row} (us : List Token) → r.name ≡ m.name
      → r.count ≡ length m.parameters → method_from r.tokens ≡ read m us → RowsFor ms rs
      → RowsFor (m ∷ ms) (r ∷ rs)

stand-listed : (ts : List Token) (ms : Program) (uss : List (List Token)) → Stand ts ms uss
    → RowsFor ms (each_method row_for ts (program_events ms uss))
unfolding program_events each_method
stand-listed ts [] (us ∷ uss) h = elim h [ ]
stand-listed ts (m ∷ ms) [] h = elim h [ ]
stand-listed ts [] [] none-stand = none-listed
stand-listed ts (m ∷ ms) (us ∷ uss) (stand e s) =
    subst (RowsFor (m ∷ ms)) (sym (each-method row_for ts m us (program_events ms uss)))
    (listed us refl refl e (stand-listed us ms uss s))

pub text-rows : (text : List ℕ) (ms : Program) (us : List Token) → program_of (tokens_of text) ≡ read ms us
    → RowsFor ms (rows_of text)
unfolding rows_of
text-rows text ms us e =
    let t = text-events text ms us e in
    subst (RowsFor ms)
    (ap (each_method row_for (tokens_of text)) (sym t.events) ∙ rows-scanned (tokens_of text) 0 0 (tokens_of text)
    ∙ ap (λ ts. rows_from ts 0 ts) (tokens-at-start text))
    (stand-listed (tokens_of text) ms t.ends t.stands)

-- there are as many rows as methods
rows-counted : (ms : Program) (rs : List Row) → RowsFor ms rs → length rs ≡ length ms
rows-counted [] (r ∷ rs) h = elim h [ ]
rows-counted (m ∷ ms) [] h = elim h [ ]
rows-counted [] [] none-listed = refl
rows-counted (m ∷ ms) (r ∷ rs) (listed us e c f l) = ap suc (rows-counted ms rs l)

pub counts-methods : (text : List ℕ) (ms : Program) (us : List Token) → program_of (tokens_of text) ≡ read ms us
    → length (rows_of text) ≡ length ms
counts-methods text ms us e = rows-counted ms (rows_of text) (text-rows text ms us e)

-- the first of a name
module _ (text : List ℕ) (x : Name) where
  data Same : Option Method → Option Row → Type 0 where
    neither : Same none none
    both : {m : Method} {r : Row} (us : List Token) → r.count ≡ length m.parameters
        → method_from r.tokens ≡ read m us → Same (some m) (some r)

  first-same : (ms : Program) (rs : List Row) → RowsFor ms rs → Same (first_named x ms) (row_of x.spelling rs)
  unfolding first_named row_of
  first-same [] (r ∷ rs) h = elim h [ ]
  first-same (m ∷ ms) [] h = elim h [ ]
  first-same [] [] none-listed = neither
  first-same (m ∷ ms) (r ∷ rs) (listed us e c f l) =
      subst (λ (y : Name). Same (first_named x (m ∷ ms))
      (cond (same x.spelling y.spelling) (some r) (row_of x.spelling rs))) (sym e)
      (by (spells x m.name) (first-same ms rs l))
    where
      by : (b : Bool) → Same (first_named x ms) (row_of x.spelling rs)
          → Same (cond b (some m) (first_named x ms)) (cond b (some r) (row_of x.spelling rs))
      by true later = both us c f
      by false later = later

  pub index_same : (ms : Program) (rs : List Row) → RowsFor ms rs → row_index x.spelling rs ≡ number_of ms x
  unfolding row_index number_of index_of
  index_same [] (r ∷ rs) h = elim h [ ]
  index_same (m ∷ ms) [] h = elim h [ ]
  index_same [] [] none-listed = refl
  index_same (m ∷ ms) (r ∷ rs) (listed us e c f l) =
      ap (λ (y : Name). cond (same x.spelling y.spelling) 0 (suc (row_index x.spelling rs))) e
      ∙ ap (λ (n : ℕ). cond (spells x m.name) 0 (suc n)) (index_same ms rs l)

  answers : (ms : Program) (f : Option Method) (o : Option Row) (found : P.Result MethodAt NoSuchMethod) → Same f o
      → Agrees text (row_index x.spelling (rows_of text)) o found → first_named x ms ≡ f
      → row_index x.spelling (rows_of text) ≡ number_of ms x
      → ((n : NoSuchMethod) → found ≡ P.Err n → n.methods ≡ length ms) → MethodSays text ms x found
  answers ms none (some r) found h _ e i counted = elim h [ ]
  answers ms (some m) none found h _ e i counted = elim h [ ]
  answers ms none none (P.Ok a) neither h e i counted = elim h [ ]
  answers ms none none (P.Err n) neither h e i counted = absent (first_of ms x ∙ e) (counted n refl)
  answers ms (some m) (some r) (P.Err n) (both us c f) h e i counted = elim h [ ]
  answers ms (some m) (some r) (P.Ok a) (both us c f) (agrees k t n) e i counted =
      stands m us (first_of ms x ∙ e) (ap method_from t ∙ f) (n ∙ c) (k ∙ i)

  pub method-says : (ms : Program) (us : List Token) → program_of (tokens_of text) ≡ read ms us
      → {found : P.Result MethodAt NoSuchMethod} → FirstNamed text x.spelling found → MethodSays text ms x found
  method-says ms us e {found} a =
      let l = text-rows text ms us e in
      answers ms (first_named x ms) (row_of x.spelling (rows_of text)) found (first-same ms (rows_of text) l) a refl
      (index_same ms (rows_of text) l) (λ n q. counted n (subst (FirstNamed text x.spelling) q a))
    where
      counted : (n : NoSuchMethod) → FirstNamed text x.spelling (P.Err n) → n.methods ≡ length ms
      counted n b =
          missing-index text x.spelling n b ∙ none-index text x.spelling b ∙ counts-methods text ms us e
