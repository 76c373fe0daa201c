-- Writing the index: at each place the methods before it are entered.
use Prim.Native.Nat.{ℕ, zero, suc, ◌+◌, ◌*◌, ◌≤◌, ◌<◌}
use native.Mathlib.Nat.{zero-add, add-zero}
use native.Mathlib.Omega.{arith}
use mathlib.Core.Path.{◌≡◌, refl, sym, ap, ◌∙◌, subst}
use mathlib.Core.Bool.{Bool, true, false, cond, ◌&&◌}
use mathlib.Core.List.{List, [], ◌∷◌}
use mathlib.Core.Option.{some, none-ne-some, some-injective}
use borrow.Author.Tests.{eqb-true, eqb-false, lt-ltb}
use lib.Dec.{eqb, ltb}
use lib.ListN.{length, get_or, set, get_elem?, length-set}
use lib.Seq.{slice, get_or-set_same, get_or-set_other}
use Rattle.text_tokens.specs.Places.{tokens_at}
use Rattle.text_tokens.specs.NextCode.{NextToken}
use Rattle.text_tokens.specs.declared.next.TokenAt.{TokenAt}
use Rattle.text_types.specs.SaysCode.{next_kind}
use Rattle.text_types.proofs.Answers.{kind-next}
use Rattle.text_scan.specs.ScanCode.{braces_after, argument_count}
use Rattle.text_methods.specs.RowsCode.{Row, names_method, ends_method, rows_of}
use Rattle.text_methods.specs.IndexCode.{Entry, Indexed, with_entry}
use Rattle.text_methods.proofs.Ending.{end-alone, AtToken, at-token}
use Rattle.text_methods.proofs.Finding.{braces-most, later, row, later-at, rows_named, rows-unnamed, rows_end, rows_at}

elem-within : (rs : List Row) (j : ℕ) (r : Row) → get_elem? rs j ≡ some r → j < length rs
elem-within [] j r e = absurd (none-ne-some r e)
elem-within (q ∷ rs) zero r e = omega arith
elem-within (q ∷ rs) (suc j) r e = let l : j < length rs = elem-within rs j r e in omega arith

-- An entry's words

-- an entry holds in any index with the same four words
entry-same : (text index other : List ℕ) (j : ℕ) (r : Row)
    → ((k : ℕ) → 1 ≤ k → k ≤ 4 → get_or other (4 * j + k) 0 ≡ get_or index (4 * j + k) 0)
    → Entry text index j r → Entry text other j r
entry-same text index other j r w e =
    let starts : get_or other (4 * j + 1) 0 ≡ get_or index (4 * j + 1) 0 = w 1 (omega arith) (omega arith) in
    let ends : get_or other (4 * j + 2) 0 ≡ get_or index (4 * j + 2) 0 = w 2 (omega arith) (omega arith) in
    let before : get_or index (4 * j + 1) 0 ≤ get_or index (4 * j + 2) 0 = e.ordered in
    let inside : get_or index (4 * j + 2) 0 ≤ length text = e.within in
    record {
      ordered = omega arith;
      within = omega arith;
      spelled =
          ap (λ (a : ℕ). slice a (get_or other (4 * j + 2) 0) text) starts
          ∙ ap (λ (b : ℕ). slice (get_or index (4 * j + 1) 0) b text) ends ∙ e.spelled;
      stands = ap (tokens_at text) (w 3 (omega arith) (omega arith)) ∙ e.stands;
      counted = w 4 (omega arith) (omega arith) ∙ e.counted;
    }

module _ (index : List ℕ) (i start end at params : ℕ) where
  abbrev one : List ℕ
  one = set index (4 * i + 1) start

  abbrev two : List ℕ
  two = set one (4 * i + 2) end

  abbrev three : List ℕ
  three = set two (4 * i + 3) at

  pub entry_length : length (with_entry index i start end at params) ≡ length index
  unfolding with_entry
  entry_length =
      length-set three (4 * i + 4) params ∙ length-set two (4 * i + 3) at ∙ length-set one (4 * i + 2) end
      ∙ length-set index (4 * i + 1) start

  other_word : (j : ℕ) → (j ≡ 4 * i + 1 → ⊥) → (j ≡ 4 * i + 2 → ⊥) → (j ≡ 4 * i + 3 → ⊥) → (j ≡ 4 * i + 4 → ⊥)
      → get_or (with_entry index i start end at params) j 0 ≡ get_or index j 0
  unfolding with_entry
  other_word j a b c d =
      get_or-set_other three (4 * i + 4) j params 0 d ∙ get_or-set_other two (4 * i + 3) j at 0 c
      ∙ get_or-set_other one (4 * i + 2) j end 0 b ∙ get_or-set_other index (4 * i + 1) j start 0 a

  -- another entry stays
  entry_kept : (text : List ℕ) (j : ℕ) (r : Row) → (j ≡ i → ⊥) → Entry text index j r
      → Entry text (with_entry index i start end at params) j r
  entry_kept text j r f =
      entry-same text index (with_entry index i start end at params) j r (λ k l h. other_word (4 * j + k)
      (λ q. f (omega arith)) (λ q. f (omega arith)) (λ q. f (omega arith)) (λ q. f (omega arith)))

  module _ (low : i < 32) (long : 129 ≤ length index) where
    first_word : get_or (with_entry index i start end at params) (4 * i + 1) 0 ≡ start
    unfolding with_entry
    first_word =
        get_or-set_other three (4 * i + 4) (4 * i + 1) params 0 (λ q. omega arith)
        ∙ get_or-set_other two (4 * i + 3) (4 * i + 1) at 0 (λ q. omega arith)
        ∙ get_or-set_other one (4 * i + 2) (4 * i + 1) end 0 (λ q. omega arith)
        ∙ get_or-set_same index (4 * i + 1) start 0 (omega arith)

    second_word : get_or (with_entry index i start end at params) (4 * i + 2) 0 ≡ end
    unfolding with_entry
    second_word =
        get_or-set_other three (4 * i + 4) (4 * i + 2) params 0 (λ q. omega arith)
        ∙ get_or-set_other two (4 * i + 3) (4 * i + 2) at 0 (λ q. omega arith)
        ∙ get_or-set_same one (4 * i + 2) end 0 (omega (arith, length-set index (4 * i + 1) start))

    third-word : get_or (with_entry index i start end at params) (4 * i + 3) 0 ≡ at
    unfolding with_entry
    third-word =
        get_or-set_other three (4 * i + 4) (4 * i + 3) params 0 (λ q. omega arith)
        ∙ get_or-set_same two (4 * i + 3) at 0
        (omega (arith, length-set index (4 * i + 1) start, length-set one (4 * i + 2) end))

    fourth-word : get_or (with_entry index i start end at params) (4 * i + 4) 0 ≡ params
    unfolding with_entry
    fourth-word =
        get_or-set_same three (4 * i + 4) params 0
        (omega (
          arith,
          length-set index (4 * i + 1) start,
          length-set one (4 * i + 2) end,
          length-set two (4 * i + 3) at,
        ))

    entry-written : (text : List ℕ) (r : Row) → start ≤ end → end ≤ length text
        → slice start end text ≡ r.name.spelling → tokens_at text at ≡ r.tokens → params ≡ r.count
        → Entry text (with_entry index i start end at params) i r
    entry-written text r o w s t n =
        let new = with_entry index i start end at params in
        let starts : get_or new (4 * i + 1) 0 ≡ start = first_word in
        let ends : get_or new (4 * i + 2) 0 ≡ end = second_word in
        record {
          ordered = omega arith;
          within = omega arith;
          spelled =
              ap (λ (a : ℕ). slice a (get_or new (4 * i + 2) 0) text) starts ∙ ap (λ (b : ℕ). slice start b text) ends
              ∙ s;
          stands = ap (tokens_at text) third-word ∙ t;
          counted = fourth-word ∙ n;
        }

-- What is written down before a token

pub record IndexSoFar (text index : List ℕ) (h b i : ℕ) (t : TokenAt) : Type 0 where
  -- t is read from there on
  pub at : ℕ
  pub next : NextToken text at t
  pub braces-low : b ≤ at
  pub index-low : i ≤ at
  pub long : 129 ≤ length index
  pub count-is : length (rows_of text) ≡ i + length (rows_at text h b at)
  pub row_is : (j : ℕ) → get_elem? (rows_of text) (i + j) ≡ get_elem? (rows_at text h b at) j
  pub entered : (j : ℕ) (r : Row) → j < 32 → j < i → get_elem? (rows_of text) j ≡ some r → Entry text index j r

module _ (text index : List ℕ) where
  pub index-begins : (t : TokenAt) → NextToken text 0 t → 129 ≤ length index → IndexSoFar text index 0 0 0 t
  unfolding rows_of
  index-begins t n l = record {
    at = 0;
    next = n;
    braces-low = omega arith;
    index-low = omega arith;
    long = l;
    count-is = omega arith;
    row_is = λ j. ap (get_elem? (rows_at text 0 0 0)) (zero-add j);
    entered = λ j r l h. absurd (omega arith);
  }

module _ {text index : List ℕ} {h b i : ℕ} {t : TokenAt} (s : IndexSoFar text index h b i t) where
  abbrev at : ℕ
  at = s.at

  pub index-ends : t.kind ≡ 32 → Indexed text (set index 0 i)
  index-ends e =
      let last : next_kind text at ≡ 32 = kind-next text at t s.next ∙ e in
      let over : length (rows_at text h b at) ≡ 0 =
      ap length (rows_end (tokens_at text h) b (tokens_at text at) last (end-alone text at last)) in
      let whole : length (rows_of text) ≡ i + length (rows_at text h b at) = s.count-is in
      let size : length (set index 0 i) ≡ length index = length-set index 0 i in
      let room : 129 ≤ length index = s.long in
      let all : i ≡ length (rows_of text) = omega arith in
      record {
        long = omega arith;
        count = get_or-set_same index 0 i 0 (omega arith) ∙ all;
        entries = λ j r l f. entry-same text index (set index 0 i) j r
            (λ m p q. get_or-set_other index 0 (4 * j + m) i 0 (λ z. omega arith))
            (s.entered j r l (subst (λ (n : ℕ). j < n) (sym all) (elem-within (rows_of text) j r f)) f);
      }

  module _ (f : t.kind ≡ 32 → ⊥) where
    pub index-turn : AtToken text t b i
    index-turn = at-token text at t b i s.next s.braces-low s.index-low f

    further : next_kind text at ≡ 32 → ⊥
    further e = f (sym (kind-next text at t s.next) ∙ e)

    module _ (u : TokenAt) (m : NextToken text t.end u) (named : Bool)
        (e : named ≡ names_method b t.kind u.kind) (index' : List ℕ)
        (w : index' ≡ cond (named && ltb i 32)
        (with_entry index i t.start t.end h (argument_count (tokens_at text u.end))) index) where
      abbrev new : List ℕ
      new = with_entry index i t.start t.end h (argument_count (tokens_at text u.end))

      -- the entries before stay, and so does the length
      kept : (j : ℕ) (r : Row) → (j ≡ i → ⊥) → Entry text index j r → Entry text index' j r
      kept j r d old = subst (λ xs. Entry text xs j r) (sym w) (by (named && ltb i 32))
        where
          by : (c : Bool) → Entry text (cond c new index) j r
          by true =
              entry_kept index i t.start t.end h (argument_count (tokens_at text u.end)) text j r d old
          by false = old

      same_size : length index' ≡ length index
      same_size = ap length w ∙ by (named && ltb i 32)
        where
          by : (c : Bool) → length (cond c new index) ≡ length index
          by true = entry_length index i t.start t.end h (argument_count (tokens_at text u.end))
          by false = refl

      -- the method that is named here is entered
      written : named ≡ true → i < 32 → Entry text index' i (row text at h b t u s.next m further)
      unfolding row
      written y l =
          let into : index' ≡ new =
          w ∙ ap (λ (c : Bool). cond (c && ltb i 32) new index) y
          ∙ ap (λ (c : Bool). cond c new index) (lt-ltb i 32 l) in
          subst (λ xs. Entry text xs i (row text at h b t u s.next m further)) (sym into)
          (entry-written index i t.start t.end h (argument_count (tokens_at text u.end)) l s.long text
          (row text at h b t u s.next m further) s.next.ends index-turn.within refl refl refl)

      enters : named ≡ true → get_elem? (rows_of text) i ≡ some (row text at h b t u s.next m further)
          → (j : ℕ) (r : Row) → j < 32 → j < suc i → get_elem? (rows_of text) j ≡ some r → Entry text index' j r
      enters y g j r l q z = by (eqb j i) refl
        where
          by : (c : Bool) → eqb j i ≡ c → Entry text index' j r
          by true d =
              let same : j ≡ i = eqb-true j i d in
              let is : row text at h b t u s.next m further ≡ r =
              some-injective (row text at h b t u s.next m further) r
              (sym g ∙ ap (get_elem? (rows_of text)) (sym same) ∙ z) in
              subst (λ (a : ℕ). Entry text index' a r) (sym same)
              (subst (Entry text index' i) is (written y (subst (λ (a : ℕ). a < 32) same l)))
          by false d =
              let apart : j ≡ i → ⊥ = eqb-false j i d in
              kept j r apart (s.entered j r l (omega arith) z)

      room : 129 ≤ length index'
      room =
          let size : length index' ≡ length index = same_size in
          let before : 129 ≤ length index = s.long in
          omega arith

      pub index_goes : (i' h' b' : ℕ) → i' ≡ cond named (suc i) i
          → h' ≡ cond (ends_method b t.kind) t.end h → b' ≡ braces_after b t.kind
          → IndexSoFar text index' h' b' i' u
      unfolding row
      index_goes i' h' b' ii hh bb = by named refl
        where
          onward : at < t.end
          onward =
              let starts : at ≤ t.start = s.next.starts in
              let passed : t.start < t.end = index-turn.onward in
              omega arith

          low : b' ≤ t.end
          low =
              let most : braces_after b t.kind ≤ b + 1 = braces-most b t.kind in
              let before : b ≤ at = s.braces-low in
              let on : at < t.end = onward in
              omega arith

          after-rows : later text at h b t u s.next m further ≡ rows_at text h' b' t.end
          after-rows = later-at text at h b t u s.next m further t.kind h' b' refl hh bb

          by : (c : Bool) → named ≡ c → IndexSoFar text index' h' b' i' u
          by true y =
              let this = row text at h b t u s.next m further in
              let next = rows_at text h' b' t.end in
              let here : rows_at text h b at ≡ this ∷ next =
              rows_named text at h b t u s.next m further (sym e ∙ y) ∙ ap (λ rs. this ∷ rs) after-rows in
              let more : i' ≡ suc i = ii ∙ ap (λ (c : Bool). cond c (suc i) i) y in
              let before : i ≤ at = s.index-low in
              let on : at < t.end = onward in
              let total : length (rows_of text) ≡ i + length (rows_at text h b at) = s.count-is in
              let longer : length (rows_at text h b at) ≡ suc (length next) = ap length here in
              record {
                at = t.end;
                next = m;
                braces-low = low;
                index-low = omega arith;
                long = room;
                count-is = omega arith;
                row_is = λ j. ap (get_elem? (rows_of text)) (let on : i' + j ≡ i + suc j = omega arith in on)
                    ∙ s.row_is (suc j) ∙ ap (λ rs. get_elem? rs (suc j)) here;
                entered = λ j r l q. enters y
                    (ap (get_elem? (rows_of text)) (sym (add-zero i)) ∙ s.row_is 0 ∙ ap (λ rs. get_elem? rs 0) here)
                    j r l (subst (λ (a : ℕ). j < a) more q);
              }
          by false y =
              let here : rows_at text h b at ≡ rows_at text h' b' t.end =
              rows-unnamed text at h b t u s.next m further (sym e ∙ y) ∙ after-rows in
              let same_index : i' ≡ i = ii ∙ ap (λ (c : Bool). cond c (suc i) i) y in
              let before : i ≤ at = s.index-low in
              let on : at < t.end = onward in
              let total : length (rows_of text) ≡ i + length (rows_at text h b at) = s.count-is in
              let as_long : length (rows_at text h b at) ≡ length (rows_at text h' b' t.end) = ap length here in
              record {
                at = t.end;
                next = m;
                braces-low = low;
                index-low = omega arith;
                long = room;
                count-is = omega arith;
                row_is = λ j. ap (λ (a : ℕ). get_elem? (rows_of text) (a + j)) same_index ∙ s.row_is j
                    ∙ ap (λ rs. get_elem? rs j) here;
                entered = λ j r l q g. kept j r (λ z. omega arith) (s.entered j r l (omega arith) g);
              }
