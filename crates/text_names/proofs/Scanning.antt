-- The scan by places finds the faults that the scan over the tokens finds.
use Prim.Native.Nat.{ℕ, zero, suc, ◌+◌, ◌≤◌, ◌<◌}
use native.Mathlib.Omega.{arith}
use mathlib.Core.Path.{◌≡◌, refl, sym, ap, ◌∙◌}
use mathlib.Core.Logic.{⊎_elim}
use mathlib.Core.Bool.{Bool, true, false, cond, ◌&&◌, not}
use mathlib.Core.List.{List, [], ◌∷◌, map}
use mathlib.Core.Option.{Option, none, some}
use lib.Dec.{eqb, eqb→eq, ltb}
use lib.ListN.{length}
use lib.Seq.{slice}
use borrow.Author.Tests.{eq-eqb, ltb-true, ltb-false}
use Rattle.lists.specs.Lists.{same}
use Rattle.lists.proofs.Tests.{decide, passes, clash, never}
use Rattle.text.specs.Tree.{Name, spells, gate_of}
use Rattle.text.specs.Names.{declared_among}
use Rattle.text_parse.specs.Tokens.{Token, name_of}
use Rattle.text_parse.specs.Grammar.{rest}
use Rattle.text_tokens.specs.Places.{tokens_at, token_of}
use Rattle.text_tokens.specs.KindsCode.{kind_of}
use Rattle.text_tokens.specs.NextCode.{NextToken, next_at as token_next}
use Rattle.text_tokens.specs.declared.next.TokenAt.{TokenAt}
use Rattle.text_tokens.proofs.Tokenwise.{next-token}
use Rattle.text_types.specs.SaysCode.{next_kind, next_at}
use Rattle.text_types.proofs.Answers.{kind-next, at_next, past-kind}
use Rattle.text_scan.specs.Events.{Event}
use Rattle.text_scan.specs.ScanCode.{kind_at, is_none, less_one, mode_after, braces_after, name_role, brace_role, role, with_event, count_from, argument_count, events_from}
use Rattle.text_scan.specs.FaultsCode.{count_of, index_in, callable, invocable, Blocks, innermost, names_in}
use Rattle.text_methods.specs.RowsCode.{Row, rows_of, row_of, row_index}
use Rattle.text_methods.proofs.Ending.{no_bytes, end-alone, passes-token, AtToken, at-token}
use Rattle.text_methods.proofs.Counted.{count-at-end}
use Rattle.text_methods.proofs.Finding.{split_at, braces-most}
use Rattle.text_roles.specs.FoundCode.{level_of, found_after, found_up_to, found_in, blocks_after}
use Rattle.text_roles.proofs.ByRole.{Other, by-role}
use Rattle.text_roles.proofs.Levels.{found-opened, found-after, in_scope, in_block}
use Rattle.text_roles.proofs.Blocks.{closes-level, blocks-level}
use Rattle.text_roles.proofs.Looking.{found-step, found-there, end-role}
use Rattle.text_open.specs.OpenCode.{open_of, is_open, open_after, names_at, declared_in, Turns}
use Rattle.text_open.specs.ClassCode.{fits_in}
use Rattle.text_open.proofs.OpenLaws.{none_open, open-after, open-found}
use Rattle.text_names.specs.FaultsCode.{faulty, fault_at, index_after, lower_of, place_if, lowest_of}
use Rattle.text_names.specs.FaultCode.{row_count, row_entry, methods_of, bare, is_call_at, is_invocation_at, is_known_at, Knows, fault_here, lowest_in}
use Rattle.text_names.proofs.Lowest.{lower-none, lower-assoc}
use Rattle.text_names.proofs.Passes.{lowest-one, faulty-step, fits-none}

-- Methods by rows

count-row : (rs : List Row) (x : Name) → count_of (map row_entry rs) x ≡ row_count (row_of x.spelling rs)
unfolding count_of row_of
count-row [] x = refl
count-row (r ∷ rs) x = by (spells x r.name) (count-row rs x)
  where
    by : (b : Bool) → count_of (map row_entry rs) x ≡ row_count (row_of x.spelling rs)
        → cond b (some r.count) (count_of (map row_entry rs) x) ≡ row_count (cond b (some r) (row_of x.spelling rs))
    by true e = refl
    by false e = e

index-row : (rs : List Row) (x : Name) → index_in (map row_entry rs) x ≡ row_index x.spelling rs
unfolding index_in row_index
index-row [] x = refl
index-row (r ∷ rs) x = ap (λ (n : ℕ). cond (spells x r.name) 0 (suc n)) (index-row rs x)

-- Places

count_none : (text : List ℕ) (i : ℕ) → next_kind text i ≡ 32 → argument_count (tokens_at text i) ≡ 1
unfolding argument_count
count_none text i e =
    ap (λ (k : ℕ). cond (eqb k 20) 0 (count_from 0 1 (tokens_at text i))) e
    ∙ count-at-end 0 1 (tokens_at text i) e (end-alone text i e)

count-nothing : argument_count [] ≡ 1
unfolding argument_count count_from kind_of
count-nothing = refl

-- after the token that ends the text there is no other
still-end : (text : List ℕ) (i : ℕ) (u : TokenAt) → NextToken text i u → next_kind text i ≡ 32
    → next_kind text u.end ≡ 32
still-end text i u n e =
    ⊎_elim (λ l. absurd (no_bytes text i u n (sym (kind-next text i u n) ∙ e) (ltb-true u.start (length text) l)))
    (λ l. let past : length text ≤ u.start = ltb-false u.start (length text) l in
    let ends : u.start ≤ u.end = n.ends in
    let v = token_next text u.end in
    let m : NextToken text u.end v = next-token text u.end in
    let starts : u.end ≤ v.start = m.starts in
    kind-next text u.end v m ∙ past-kind text u.end v m (omega arith))
    (decide (ltb u.start (length text)))

arguments-same : (text : List ℕ) (i : ℕ) (u : TokenAt) → NextToken text i u
    → argument_count (rest (tokens_at text i)) ≡ argument_count (tokens_at text u.end)
arguments-same text i u n = by (eqb (next_kind text i) 32) refl
  where
    by : (b : Bool) → eqb (next_kind text i) 32 ≡ b
        → argument_count (rest (tokens_at text i)) ≡ argument_count (tokens_at text u.end)
    by true e =
        let last : next_kind text i ≡ 32 = eqb→eq (next_kind text i) 32 (passes e) in
        ap argument_count (end-alone text i last) ∙ count-nothing
        ∙ sym (count_none text u.end (still-end text i u n last))
    by false e =
        ap argument_count
        (passes-token text i u n (λ q. clash e (passes (eq-eqb (next_kind text i) 32 q)))).after

-- the name of a method is read outside any brace
named-state : (m b k f : ℕ) → eqb (role m b k f) 1 ≡ true → (mode_after m b k ≡ 0) × (braces_after b k ≡ 0)
unfolding role name_role brace_role is_none mode_after braces_after
named-state m zero k f = by (eqb k 33) refl
  where
    by : (a : Bool) → eqb k 33 ≡ a → eqb (cond a (cond (eqb f 19) 1 2) 0) 1 ≡ true
        → (mode_after m 0 k ≡ 0) × (braces_after 0 k ≡ 0)
    by true e q =
        let name = eqb→eq k 33 (passes e) in
        (ap (λ (j : ℕ). mode_after m 0 j) name, ap (λ (j : ℕ). braces_after 0 j) name)
    by false e q = absurd (passes q)
named-state m (suc b) k f = λ q. absurd (by (eqb k 33) (eqb m 4) (eqb m 3) (eqb f 19) (eqb m 1) (eqb k 21) (eqb k 22) q)
  where
    by : (a c d g h i j : Bool)
        → eqb (cond a (cond c 2 (cond d 0 (cond g (cond h 5 4) 3)))
        (cond i 6 (cond j (cond (is_none (less_one (suc b))) 8 7) 0))) 1 ≡ true → ⊥
    by true true d g h i j q = passes q
    by true false true g h i j q = passes q
    by true false false true true i j q = passes q
    by true false false true false i j q = passes q
    by true false false false h i j q = passes q
    by false c d g h true j q = passes q
    by false c d g h false true q = last (is_none (less_one (suc b))) q
      where
        last : (z : Bool) → eqb (cond z 8 7) 1 ≡ true → ⊥
        last true q = passes q
        last false q = passes q
    by false c d g h false false q = passes q

-- what the scan has come to before a token
pub record ScanSoFar (test : List ℕ → Bool) (all : Bool) (text words : List ℕ) (m b from i n : ℕ)
    (low : Option ℕ) (t : TokenAt) (k : ℕ) : Type 0 where
  -- t is read from there on
  pub at : ℕ
  pub next : NextToken text at t
  pub blocks : Blocks
  pub room : length words ≡ 3072
  pub count_low : n ≤ 1025
  pub opens : n ≤ 1024 → open_of text words n ≡ declared_in test blocks
  pub kind-is : k ≡ cond (fits_in all n) t.kind 32
  pub braces-low : b ≤ at
  pub index-low : i ≤ at
  pub level : length blocks ≡ level_of b
  pub finds : (least : ℕ) (y : List ℕ) (to : ℕ) → at ≤ to
      → found_up_to least y to 0 0 0 (tokens_at text from)
      ≡ found_up_to least y to m b (found_in least y blocks) (tokens_at text at)
  pub lowest-is : lowest_in test text
      ≡ lower_of low (lowest_of test (faulty (methods_of text) i blocks (events_from m b (tokens_at text at))))

none_found : (least : ℕ) (y : List ℕ) → found_in least y ([] ∷ []) ≡ 0
unfolding found_in
none_found least y = found-opened least y []

pub scan_begins : (test : List ℕ → Bool) (all : Bool) (text words : List ℕ) (t : TokenAt) → length words ≡ 3072
    → NextToken text 0 t → ScanSoFar test all text words 0 0 0 0 0 none t t.kind
unfolding lowest_in lower_of level_of declared_in names_at
scan_begins test all text words t r e = record {
  at = 0;
  next = e;
  blocks = [] ∷ [];
  room = r;
  count_low = omega arith;
  opens = λ l. none_open text words;
  kind-is = sym (ap (λ (c : Bool). cond c t.kind 32) (fits-none all));
  braces-low = omega arith;
  index-low = omega arith;
  level = refl;
  finds = λ least y to l.
      ap (λ (j : ℕ). found_up_to least y to 0 0 j (tokens_at text 0)) (sym (none_found least y));
  lowest-is = refl;
}

-- gates go by the bytes of a name alone
bare-name : (x : List ℕ) (at n : ℕ) (o : Option ℕ)
    → invocable (record { spelling = x; at = at }) n o ≡ invocable (bare x) n o
unfolding invocable gate_of
bare-name x at n none = refl
bare-name x at n (some k) = refl

-- no event at the end
end-events : (m b : ℕ) (ts : List Token) → kind_at ts ≡ 32 → rest ts ≡ [] → events_from m b ts ≡ []
unfolding events_from kind_of with_event
end-events m b [] e r = refl
end-events m b (t ∷ ts) e r =
    ap (λ us. events_from m b (t ∷ us)) r
    ∙ ap (λ (k : ℕ). with_event (role m b k 32) (name_of t) (argument_count []) [] []) e
    ∙ ap (λ (j : ℕ). with_event j (name_of t) (argument_count []) [] []) (end-role m b 32)

-- a pass ends early or at the end of the text
end-kind : (c : Bool) (k j : ℕ) → k ≡ cond c j 32 → (k ≡ 32 → ⊥) → k ≡ j
end-kind true k j e f = e
end-kind false k j e f = absurd (f e)

module _ {test : List ℕ → Bool} {all : Bool} {text words : List ℕ} {m b from i n : ℕ} {low : Option ℕ}
    {t : TokenAt} {k : ℕ} (s : ScanSoFar test all text words m b from i n low t k) where
  abbrev at : ℕ
  at = s.at

  pub scan-ends : k ≡ 32 → fits_in all n ≡ true → low ≡ lowest_in test text
  unfolding faulty lowest_of
  scan-ends e h =
      let kind : k ≡ t.kind = s.kind-is ∙ ap (λ (c : Bool). cond c t.kind 32) h in
      let last : next_kind text at ≡ 32 = kind-next text at t s.next ∙ sym kind ∙ e in
      sym (s.lowest-is
      ∙ ap (λ es. lower_of low (lowest_of test (faulty (methods_of text) i s.blocks es)))
      (end-events m b (tokens_at text at) last (end-alone text at last))
      ∙ lower-none low)

  same_kind : (k ≡ 32 → ⊥) → k ≡ t.kind
  same_kind f = end-kind (fits_in all n) k t.kind s.kind-is f

  pub scan-turn : (k ≡ 32 → ⊥) → AtToken text t b i
  scan-turn f = at-token text at t b i s.next s.braces-low s.index-low (λ e. f (same_kind f ∙ e))

  module _ (f : k ≡ 32 → ⊥) (u : TokenAt) (p : NextToken text t.end u) where
    further : next_kind text at ≡ 32 → ⊥
    further e = f (same_kind f ∙ sym (kind-next text at t s.next) ∙ e)

    onward : at < t.end
    onward =
        let starts : at ≤ t.start = s.next.starts in
        let passed : t.start < t.end = (scan-turn f).onward in
        omega arith

    name : Name
    name = name_of (token_of text t.start t.end)

    count : ℕ
    count = argument_count (rest (tokens_at text t.end))

    r : ℕ
    r = role m b t.kind u.kind

    -- the level that is found of a name up to here
    known : (least : ℕ) (y : List ℕ)
        → found_up_to least y t.start 0 0 0 (tokens_at text from) ≡ found_in least y s.blocks
    known least y =
        let place : next_at text at ≡ t.start = at_next text at t s.next in
        s.finds least y t.start s.next.starts
        ∙ found-there least y t.start m b (found_in least y s.blocks) (tokens_at text at) (omega arith)

    -- the fault of the name, by its role
    abbrev Same : ℕ → Type 0
    Same j =
        fault_at (methods_of text) i s.blocks j name count
        ≡ fault_here text from b i j t.start t.end u.end

    same-repeated : ltb (index_in (methods_of text) name) i
        ≡ ltb (row_index (slice t.start t.end text) (rows_of text)) i
    unfolding methods_of name
    same-repeated = ap (λ (j : ℕ). ltb j i) (index-row (rows_of text) name)

    same-declared : declared_among (innermost s.blocks) name ≡ is_known_at text from (level_of b) t.start t.end
    unfolding is_known_at name
    same-declared =
        let x = slice t.start t.end text in
        sym (ap (ltb 0) (known (level_of b) x)
        ∙ ap (λ (j : ℕ). ltb 0 (found_in j x s.blocks)) (sym s.level) ∙ in_block x s.blocks)

    same-used : declared_among (names_in s.blocks) name ≡ is_known_at text from 1 t.start t.end
    unfolding is_known_at name
    same-used =
        let x = slice t.start t.end text in sym (ap (ltb 0) (known 1 x) ∙ in_scope x s.blocks)

    same-called : callable count (count_of (methods_of text) name)
        ≡ is_call_at text (slice t.start t.end text) u.end
    unfolding is_call_at methods_of name count
    same-called =
        ap (λ o. callable (argument_count (rest (tokens_at text t.end))) o) (count-row (rows_of text) name)
        ∙ ap (λ (j : ℕ). callable j (row_count (row_of (slice t.start t.end text) (rows_of text))))
        (arguments-same text t.end u p)

    same-invoked : invocable name count (count_of (methods_of text) name)
        ≡ is_invocation_at text (slice t.start t.end text) u.end
    unfolding is_invocation_at methods_of name count
    same-invoked =
        ap (λ o. invocable name (argument_count (rest (tokens_at text t.end))) o) (count-row (rows_of text) name)
        ∙ ap (λ (j : ℕ). invocable name j (row_count (row_of (slice t.start t.end text) (rows_of text))))
        (arguments-same text t.end u p)
        ∙ bare-name (slice t.start t.end text) t.start (argument_count (tokens_at text u.end))
        (row_count (row_of (slice t.start t.end text) (rows_of text)))

    same-other : (j : ℕ) → Other j → Same j
    unfolding fault_at fault_here
    same-other j o = rw (o.not-1, o.not-2, o.not-3, o.not-4, o.not-5) refl

    same-fault : (j : ℕ) → Same j
    unfolding fault_at fault_here
    same-fault j =
        by-role Same same-repeated same-declared (ap not same-used) (ap not same-called) (ap not same-invoked) refl refl
        refl same-other j

    -- the events from here on
    events-split : events_from m b (tokens_at text at)
        ≡ with_event r name count (tokens_at text t.end)
        (events_from (mode_after m b t.kind) (braces_after b t.kind) (tokens_at text t.end))
    unfolding events_from r name count
    events-split =
        ap (events_from m b) (split_at text at t s.next further)
        ∙ ap (λ (j : ℕ). onward j (kind_at (tokens_at text t.end))) (sym s.next.kind)
        ∙ ap (onward t.kind) (kind-next text t.end u p)
      where
        onward : ℕ → ℕ → List Event
        onward j g =
            with_event (role m b j g) (name_of (token_of text t.start t.end))
            (argument_count (rest (tokens_at text t.end))) (tokens_at text t.end)
            (events_from (mode_after m b j) (braces_after b j) (tokens_at text t.end))

    -- the blocks, the level and the level found of a name after the token
    after : Blocks
    after = blocks_after r name s.blocks

    level-after : length after ≡ level_of (braces_after b t.kind)
    unfolding after r
    level-after = blocks-level m b t.kind u.kind name s.blocks s.level

    found-onward : (least : ℕ) (y : List ℕ)
        → found_after least b r (same y (slice t.start t.end text)) (found_in least y s.blocks)
        ≡ found_in least y after
    unfolding after r name
    found-onward least y =
        sym (found-after least y b name s.blocks s.level r
        (closes-level m b t.kind u.kind s.blocks s.level))

    -- where the token names a method, nothing is declared yet
    finds-named : eqb r 1 ≡ true → (least : ℕ) (y : List ℕ) (to : ℕ)
        → found_up_to least y to 0 0 0 (tokens_at text t.end)
        ≡ found_up_to least y to (mode_after m b t.kind) (braces_after b t.kind) (found_in least y after)
        (tokens_at text t.end)
    unfolding after r blocks_after
    finds-named e least y to =
        let us = tokens_at text t.end in
        let state = named-state m b t.kind u.kind e in
        ap (λ (j : ℕ). found_up_to least y to j 0 0 us) (sym state.0)
        ∙ ap (λ (j : ℕ). found_up_to least y to (mode_after m b t.kind) j 0 us) (sym state.1)
        ∙ ap (λ (j : ℕ). found_up_to least y to (mode_after m b t.kind) (braces_after b t.kind) j us)
        (sym (rw e (none_found least y)))

    -- else the search goes on from where it began
    finds-onward : (least : ℕ) (y : List ℕ) (to : ℕ) → t.end ≤ to
        → found_up_to least y to 0 0 0 (tokens_at text from)
        ≡ found_up_to least y to (mode_after m b t.kind) (braces_after b t.kind) (found_in least y after)
        (tokens_at text t.end)
    unfolding r
    finds-onward least y to l =
        let us = tokens_at text t.end in
        let before : t.start < t.end = (scan-turn f).onward in
        let begins : at < t.end = onward in
        s.finds least y to (omega arith)
        ∙ found-step text least y to at m b (found_in least y s.blocks) t u s.next p further (omega arith)
        ∙ ap (λ (j : ℕ). found_up_to least y to (mode_after m b t.kind) (braces_after b t.kind) j us)
        (found-onward least y)

    finds-after : (from' : ℕ) → from' ≡ cond (eqb r 1) t.end from → (least : ℕ) (y : List ℕ) (to : ℕ) → t.end ≤ to
        → found_up_to least y to 0 0 0 (tokens_at text from')
        ≡ found_up_to least y to (mode_after m b t.kind) (braces_after b t.kind) (found_in least y after)
        (tokens_at text t.end)
    finds-after from' e least y to l = by (eqb r 1) refl
      where
        by : (c : Bool) → eqb r 1 ≡ c
            → found_up_to least y to 0 0 0 (tokens_at text from')
            ≡ found_up_to least y to (mode_after m b t.kind) (braces_after b t.kind) (found_in least y after)
            (tokens_at text t.end)
        by true q =
            ap (λ (j : ℕ). found_up_to least y to 0 0 0 (tokens_at text j)) (e ∙ ap (λ (c : Bool). cond c t.end from) q)
            ∙ finds-named q least y to
        by false q =
            ap (λ (j : ℕ). found_up_to least y to 0 0 0 (tokens_at text j)) (e ∙ ap (λ (c : Bool). cond c t.end from) q)
            ∙ finds-onward least y to l

    index-most : index_after r i ≤ i + 1
    unfolding index_after
    index-most = by (eqb r 1)
      where
        by : (c : Bool) → cond c (suc i) i ≤ i + 1
        by true = omega arith
        by false = omega arith

    -- the lowest fault from here on
    rest-lowest : Option ℕ
    rest-lowest =
        lowest_of test (faulty (methods_of text) (index_after r i) after
        (events_from (mode_after m b t.kind) (braces_after b t.kind) (tokens_at text t.end)))

    lowest-split : (fault : Bool)
        → fault ≡ (test (slice t.start t.end text) && fault_here text from b i r t.start t.end u.end)
        → lowest_of test (faulty (methods_of text) i s.blocks (events_from m b (tokens_at text at)))
        ≡ lower_of (place_if fault t.start) rest-lowest
    unfolding rest-lowest after name
    lowest-split fault e =
        let us = tokens_at text t.end in
        let es = events_from (mode_after m b t.kind) (braces_after b t.kind) us in
        let later = faulty (methods_of text) (index_after r i) (blocks_after r name s.blocks) es in
        ap (λ fs. lowest_of test (faulty (methods_of text) i s.blocks fs)) events-split
        ∙ ap (lowest_of test) (faulty-step (methods_of text) i s.blocks name count us es r)
        ∙ lowest-one test (fault_at (methods_of text) i s.blocks r name count) name later
        ∙ ap (λ (c : Bool). lower_of (place_if c t.start) (lowest_of test later))
        (ap (◌&&◌ (test (slice t.start t.end text))) (same-fault r) ∙ sym e)

    -- a name of another class is no fault in this pass
    masked : (mine : Bool) (j : ℕ)
        → fault_here text from b i (cond mine j 0) t.start t.end u.end
        ≡ (mine && fault_here text from b i j t.start t.end u.end)
    unfolding fault_here
    masked true j = refl
    masked false j = refl

    -- a name is looked up in the entries
    scan-knows : test (slice t.start t.end text) ≡ true → Knows text words n from t.start t.end
    unfolding is_known_at
    scan-knows e least l =
        let x = slice t.start t.end text in
        ap (is_open least x) (s.opens l) ∙ open-found test least x e s.blocks ∙ sym (ap (ltb 0) (known least x))

    asked-knows : (mine : Bool) (j asked : ℕ) → mine ≡ test (slice t.start t.end text) → asked ≡ cond mine j 0
        → eqb asked 0 ≡ false → Knows text words n from t.start t.end
    asked-knows true j asked e a o = scan-knows (sym e)
    asked-knows false j asked e a o = never (sym o ∙ eq-eqb asked 0 a)

    -- the entries after the token
    opens-after : (words' : List ℕ) (n' entered : ℕ)
        → entered ≡ cond (eqb r 2 && not (test (slice t.start t.end text))) 0 r
        → Turns (λ text ds. open_after b entered (slice t.start t.end text) ds) words n words' n' → n' ≤ 1024
        → open_of text words' n' ≡ declared_in test after
    unfolding after r name
    opens-after words' n' entered e o l =
        o.1 text (declared_in test s.blocks) s.opens l
        ∙ ap (λ (j : ℕ). open_after b j (slice t.start t.end text) (declared_in test s.blocks)) e
        ∙ open-after test b name s.blocks s.level r
        (closes-level m b t.kind u.kind s.blocks s.level)

    pub scan-goes : {words' : List ℕ} {r' : ℕ} {mine : Bool} {asked : ℕ} {fault : Bool}
        {low' : Option ℕ} {entered n' from' i' m' b' : ℕ} {fits : Bool} {k' : ℕ}
        → r' ≡ role m b t.kind u.kind
        → mine ≡ test (slice t.start t.end text)
        → asked ≡ cond mine r' 0
        → ((eqb asked 0 ≡ false → Knows text words n from t.start t.end)
        → fault ≡ fault_here text from b i asked t.start t.end u.end)
        → entered ≡ cond (eqb r' 2 && not mine) 0 r'
        → length words' ≡ length words
        → Turns (λ text ds. open_after b entered (slice t.start t.end text) ds) words n words' n'
        → low' ≡ lower_of low (place_if fault t.start)
        → from' ≡ cond (eqb r' 1) t.end from → i' ≡ index_after r' i → m' ≡ mode_after m b t.kind
        → b' ≡ braces_after b t.kind → fits ≡ fits_in all n' → k' ≡ cond fits u.kind 32
        → ScanSoFar test all text words' m' b' from' i' n' low' u k'
    unfolding r rest-lowest
    scan-goes {words'} {r'} {mine} {asked} {fault} {low'} {entered} {n'} {from'} {i'} {m'} {b'} {fits} rr tt aa ff nn
        kept turns ll oo ii mm bb hh kk =
        let us = tokens_at text t.end in
        let begins : at < t.end = onward in
        let low-braces : b ≤ at = s.braces-low in
        let most : braces_after b t.kind ≤ b + 1 = braces-most b t.kind in
        let low-index : i ≤ at = s.index-low in
        let most-index : index_after r i ≤ i + 1 = index-most in
        let index : i' ≡ index_after r i = ii ∙ ap (λ (j : ℕ). index_after j i) rr in
        let here =
        ff (asked-knows mine r' asked tt aa)
        ∙ ap (λ (j : ℕ). fault_here text from b i j t.start t.end u.end) aa
        ∙ masked mine r'
        ∙ ap (λ (c : Bool). c && fault_here text from b i r' t.start t.end u.end) tt
        ∙ ap (λ (j : ℕ). test (slice t.start t.end text)
        && fault_here text from b i j t.start t.end u.end) rr in
        record {
          at = t.end;
          next = p;
          blocks = after;
          room = kept ∙ s.room;
          count_low = turns.0;
          opens =
              opens-after words' n' entered
              (nn ∙ ap (λ (c : Bool). cond (eqb r' 2 && not c) 0 r') tt
              ∙ ap (λ (j : ℕ). cond (eqb j 2 && not (test (slice t.start t.end text))) 0 j) rr) turns;
          kind-is =
              kk ∙ ap (λ (c : Bool). cond c u.kind 32) hh;
          braces-low = omega arith;
          index-low = omega arith;
          level = level-after ∙ ap level_of (sym bb);
          finds = λ least y to l.
              finds-after from' (oo ∙ ap (λ (j : ℕ). cond (eqb j 1) t.end from) rr) least y to l
              ∙ ap (λ (j : ℕ). found_up_to least y to j (braces_after b t.kind) (found_in least y after) us) (sym mm)
              ∙ ap (λ (j : ℕ). found_up_to least y to m' j (found_in least y after) us) (sym bb);
          lowest-is =
              s.lowest-is ∙ ap (lower_of low) (lowest-split fault here)
              ∙ sym (lower-assoc low (place_if fault t.start) rest-lowest)
              ∙ ap (λ o. lower_of o rest-lowest) (sym ll)
              ∙ ap (λ (j : ℕ). lower_of low' (lowest_of test (faulty (methods_of text) j after
              (events_from (mode_after m b t.kind) (braces_after b t.kind) us)))) (sym index)
              ∙ ap (λ (j : ℕ). lower_of low' (lowest_of test (faulty (methods_of text) i' after
              (events_from j (braces_after b t.kind) us)))) (sym mm)
              ∙ ap (λ (j : ℕ). lower_of low' (lowest_of test (faulty (methods_of text) i' after
              (events_from m' j us)))) (sym bb);
        }
