-- Finding a method by places is finding it by tokens.
use Prim.Native.Nat.{ℕ, zero, suc, ◌+◌, ◌≤◌, ◌<◌}
use native.Mathlib.Omega.{arith}
use mathlib.Core.Path.{◌≡◌, refl, sym, ap, ◌∙◌, subst}
use mathlib.Core.Bool.{Bool, true, false, cond, ◌&&◌}
use mathlib.Core.List.{List, [], ◌∷◌}
use mathlib.Core.Option.{some}
use lib.Dec.{eqb, eqb→eq}
use Rattle.std.specs.Prelude as P
use lib.Seq.{slice}
use Rattle.lists.specs.Lists.{same}
use Rattle.lists.proofs.Tests.{passes, passed, and_left, and_right}
use Rattle.text_parse.specs.Tokens.{Token, name_of}
use Rattle.text_parse.specs.Grammar.{rest}
use Rattle.text_tokens.specs.Places.{tokens_at, token_of}
use Rattle.text_tokens.specs.NextCode.{NextToken}
use Rattle.text_tokens.specs.declared.next.TokenAt.{TokenAt}
use Rattle.text_types.specs.SaysCode.{next_kind, Passed}
use Rattle.text_types.proofs.Answers.{kind-next}
use Rattle.text_scan.specs.ScanCode.{kind_at, less_one, braces_after, argument_count}
use Rattle.text_scan.proofs.Methods.{same-comm}
use Rattle.text_methods.specs.RowsCode.{Row, names_method, ends_method, rows_from, rows_of, row_of, row_index, Agrees, agrees, no-row, FirstNamed}
use Rattle.text_methods.proofs.Ending.{end-alone, passes-token}

pub braces-most : (b k : ℕ) → braces_after b k ≤ b + 1
unfolding braces_after less_one
braces-most zero k = by (eqb k 21) (eqb k 22)
  where
    by : (a c : Bool) → cond a 1 (cond c 0 0) ≤ 0 + 1
    by true c = omega arith
    by false true = omega arith
    by false false = omega arith
braces-most (suc b) k = by (eqb k 21) (eqb k 22)
  where
    by : (a c : Bool) → cond a (suc (suc b)) (cond c b (suc b)) ≤ suc b + 1
    by true c = omega arith
    by false true = omega arith
    by false false = omega arith

-- the tokens from a place on are the next one and those after it
pub split_at : (text : List ℕ) (at : ℕ) (t : TokenAt) → NextToken text at t → (next_kind text at ≡ 32 → ⊥)
    → tokens_at text at ≡ token_of text t.start t.end ∷ tokens_at text t.end
split_at text at t n f =
    let token = token_of text t.start t.end in
    n.reads ∙ ap (λ ts. token ∷ ts) (sym (ap rest n.reads) ∙ (passes-token text at t n f).after)

-- a row for the name t, and the rows after it, by the places of t and of the token after it
module _ (text : List ℕ) (at h b : ℕ) (t u : TokenAt) (n : NextToken text at t) (m : NextToken text t.end u)
    (f : next_kind text at ≡ 32 → ⊥) where
  pub later : List Row
  later =
      rows_from (tokens_at text (cond (ends_method b t.kind) t.end h)) (braces_after b t.kind)
      (tokens_at text t.end)

  unfoldable pub row : Row
  row = record {
    name = name_of (token_of text t.start t.end);
    count = argument_count (tokens_at text u.end);
    tokens = tokens_at text h;
  }

  header_is : (c : Bool) → cond c (tokens_at text t.end) (tokens_at text h) ≡ tokens_at text (cond c t.end h)
  header_is true = refl
  header_is false = refl

  counted-at : u.kind ≡ 19 → argument_count (rest (tokens_at text t.end)) ≡ argument_count (tokens_at text u.end)
  counted-at e =
      ap argument_count (passes-token text t.end u m
      (λ z. let last : u.kind ≡ 32 = sym (kind-next text t.end u m) ∙ z in omega arith)).after

  rows_split : rows_from (tokens_at text h) b (tokens_at text at)
      ≡ cond (names_method b t.kind u.kind)
      (record {
        name = name_of (token_of text t.start t.end);
        count = argument_count (rest (tokens_at text t.end));
        tokens = tokens_at text h;
      } ∷ later) later
  unfolding rows_from later
  rows_split =
      ap (rows_from (tokens_at text h) b) (split_at text at t n f)
      ∙ ap (λ (k : ℕ). whole k (kind_at (tokens_at text t.end))) (sym n.kind)
      ∙ ap (λ (k : ℕ). whole t.kind k) (kind-next text t.end u m)
      ∙ ap (λ hs. named hs) (header_is (ends_method b t.kind))
    where
      whole : ℕ → ℕ → List Row
      whole k j =
          let after = rows_from (cond (ends_method b k) (tokens_at text t.end) (tokens_at text h)) (braces_after b k)
          (tokens_at text t.end) in
          cond (names_method b k j)
          (record {
            name = name_of (token_of text t.start t.end);
            count = argument_count (rest (tokens_at text t.end));
            tokens = tokens_at text h;
          } ∷ after) after

      named : List Token → List Row
      named hs =
          let after = rows_from hs (braces_after b t.kind) (tokens_at text t.end) in
          cond (names_method b t.kind u.kind)
          (record {
            name = name_of (token_of text t.start t.end);
            count = argument_count (rest (tokens_at text t.end));
            tokens = tokens_at text h;
          } ∷ after) after

  -- the rows after it, by what the code knows at the next place
  pub later-at : (k h' b' : ℕ) → k ≡ t.kind → h' ≡ cond (ends_method b k) t.end h → b' ≡ braces_after b k
      → later ≡ rows_from (tokens_at text h') b' (tokens_at text t.end)
  unfolding later
  later-at k h' b' kk hh bb =
      let us = tokens_at text t.end in
      ap (λ (j : ℕ). rows_from (tokens_at text (cond (ends_method b j) t.end h)) (braces_after b j) us) (sym kk)
      ∙ ap (λ (j : ℕ). rows_from (tokens_at text j) (braces_after b k) us) (sym hh)
      ∙ ap (λ (j : ℕ). rows_from (tokens_at text h') j us) (sym bb)

  -- where t names a method, and where it does not
  pub rows_named : names_method b t.kind u.kind ≡ true
      → rows_from (tokens_at text h) b (tokens_at text at) ≡ row ∷ later
  unfolding row
  rows_named e =
      let open_next : u.kind ≡ 19 =
      eqb→eq u.kind 19 (and_right (eqb t.kind 33) (eqb u.kind 19)
      (and_right (eqb b 0) (eqb t.kind 33 && eqb u.kind 19) (passes e))) in
      rows_split
      ∙ ap (λ (c : Bool). cond c (record {
        name = name_of (token_of text t.start t.end);
        count = argument_count (rest (tokens_at text t.end));
        tokens = tokens_at text h;
      } ∷ later) later) e
      ∙ ap (λ (k : ℕ). record {
        name = name_of (token_of text t.start t.end);
        count = k;
        tokens = tokens_at text h;
      } ∷ later) (counted-at open_next)

  pub rows-unnamed : names_method b t.kind u.kind ≡ false
      → rows_from (tokens_at text h) b (tokens_at text at) ≡ later
  rows-unnamed e =
      rows_split
      ∙ ap (λ (c : Bool). cond c (record {
        name = name_of (token_of text t.start t.end);
        count = argument_count (rest (tokens_at text t.end));
        tokens = tokens_at text h;
      } ∷ later) later) e

-- at the token that ends the text
pub rows_end : (hs : List Token) (b : ℕ) (ts : List Token) → kind_at ts ≡ 32 → rest ts ≡ [] → rows_from hs b ts ≡ []
unfolding rows_from
rows_end hs b [] e r = refl
rows_end hs b (t ∷ ts) e r =
    ap (λ (k : ℕ). whole k) e ∙ by (eqb b 0) ∙ ap (rows_from (cond (eqb b 1 && false) ts hs) (braces_after b 32)) r
  where
    one : Row
    one = record { name = name_of t; count = argument_count (rest ts); tokens = hs }

    after : ℕ → List Row
    after k = rows_from (cond (ends_method b k) ts hs) (braces_after b k) ts

    whole : ℕ → List Row
    whole k = cond (names_method b k (kind_at ts)) (one ∷ after k) (after k)

    by : (c : Bool) → cond (c && false) (one ∷ after 32) (after 32) ≡ after 32
    by true = refl
    by false = refl

-- what a search for x has come to at a place
abbrev pub rows_at : List ℕ → ℕ → ℕ → ℕ → List Row
rows_at text h b at = rows_from (tokens_at text h) b (tokens_at text at)

pub record SearchSoFar (text x : List ℕ) (at h b i k : ℕ) : Type 0 where
  pub kind-is : k ≡ next_kind text at
  pub braces-low : b ≤ at
  pub index-low : i ≤ at
  pub row_is : row_of x (rows_of text) ≡ row_of x (rows_at text h b at)
  pub index_is : row_index x (rows_of text) ≡ i + row_index x (rows_at text h b at)

module _ (text x : List ℕ) where
  pub search-begins : (k : ℕ) → k ≡ next_kind text 0 → SearchSoFar text x 0 0 0 0 k
  unfolding rows_of
  search-begins k e = record {
    kind-is = e;
    braces-low = omega arith;
    index-low = omega arith;
    row_is = refl;
    index_is = omega arith;
  }

  module _ (at h b i k : ℕ) (s : SearchSoFar text x at h b i k) where
    pub search-ends : k ≡ 32 → FirstNamed text x (P.Err (record { methods = i }))
    unfolding row_of row_index
    search-ends e =
        let last : next_kind text at ≡ 32 = sym s.kind-is ∙ e in
        let over : rows_at text h b at ≡ [] =
        rows_end (tokens_at text h) b (tokens_at text at) last (end-alone text at last) in
        let index : row_index x (rows_of text) ≡ i + 0 = s.index_is ∙ ap (λ rs. i + row_index x rs) over in
        subst (λ o. Agrees text (row_index x (rows_of text)) o (P.Err (record { methods = i })))
        (sym (s.row_is ∙ ap (row_of x) over)) (no-row (omega arith))

    module _ (f : k ≡ 32 → ⊥) (t u : TokenAt) (n : NextToken text at t) (m : NextToken text t.end u) where
      further : next_kind text at ≡ 32 → ⊥
      further e = f (s.kind-is ∙ e)

      pub search-passes : Passed text at t.end
      search-passes = passes-token text at t n further

      same_kind : k ≡ t.kind
      same_kind = s.kind-is ∙ kind-next text at t n

      module _ (named is : Bool) (e : named ≡ names_method b k u.kind)
          (g' : is ≡ same (slice t.start t.end text) x) where
        g : is ≡ same x (slice t.start t.end text)
        g = g' ∙ same-comm (slice t.start t.end text) x

        names : names_method b t.kind u.kind ≡ named
        names = sym (e ∙ ap (λ (j : ℕ). names_method b j u.kind) same_kind)

        pub search-found : (named && is) ≡ true → (params : ℕ) → params ≡ argument_count (tokens_at text u.end)
            → FirstNamed text x (P.Ok (record { index = i; at = h; params = params }))
        unfolding row_of row_index row
        search-found q params p =
            let yes : named ≡ true = passed named (and_left named is (passes q)) in
            let spelled : same x (slice t.start t.end text) ≡ true =
            sym g ∙ passed is (and_right named is (passes q)) in
            let here : rows_at text h b at ≡ row text at h b t u n m further ∷ later text at h b t u n m further =
            rows_named text at h b t u n m further (names ∙ yes) in
            let index : row_index x (rows_at text h b at) ≡ 0 = ap (row_index x) here ∙ rw spelled refl in
            let at_row : row_of x (rows_of text) ≡ some (row text at h b t u n m further) =
            s.row_is ∙ ap (row_of x) here ∙ rw spelled refl in
            let total : row_index x (rows_of text) ≡ i + row_index x (rows_at text h b at) = s.index_is in
            subst (λ o. Agrees text (row_index x (rows_of text)) o
            (P.Ok (record { index = i; at = h; params = params }))) (sym at_row) (agrees (omega arith) refl p)

        pub search-goes : (named && is) ≡ false → (i' h' b' : ℕ) → i' ≡ cond named (suc i) i
            → h' ≡ cond (ends_method b k) t.end h → b' ≡ braces_after b k
            → SearchSoFar text x t.end h' b' i' u.kind
        unfolding row_of row_index row
        search-goes q i' h' b' ii hh bb = by named refl
          where
            onward : at < t.end
            onward = search-passes.onward

            low : b' ≤ t.end
            low =
                let most : braces_after b k ≤ b + 1 = braces-most b k in
                let before : b ≤ at = s.braces-low in
                let on : at < t.end = onward in
                omega arith

            after-rows : later text at h b t u n m further ≡ rows_at text h' b' t.end
            after-rows = later-at text at h b t u n m further k h' b' same_kind hh bb

            by : (c : Bool) → named ≡ c → SearchSoFar text x t.end h' b' i' u.kind
            by true y =
                let unlike : same x (slice t.start t.end text) ≡ false =
                sym g ∙ sym (ap (λ (c : Bool). c && is) y) ∙ q in
                let here : rows_at text h b at ≡ row text at h b t u n m further ∷ later text at h b t u n m further =
                rows_named text at h b t u n m further (names ∙ y) in
                let more : i' ≡ suc i = ii ∙ ap (λ (c : Bool). cond c (suc i) i) y in
                let before : i ≤ at = s.index-low in
                let on : at < t.end = onward in
                let total : row_index x (rows_of text) ≡ i + row_index x (rows_at text h b at) = s.index_is in
                let one : row_index x (rows_at text h b at) ≡ suc (row_index x (rows_at text h' b' t.end)) =
                ap (row_index x) here ∙ rw unlike (ap (λ rs. suc (row_index x rs)) after-rows) in
                record {
                  kind-is = sym (kind-next text t.end u m);
                  braces-low = low;
                  index-low = omega arith;
                  row_is = s.row_is ∙ ap (row_of x) here ∙ rw unlike (ap (row_of x) after-rows);
                  index_is = omega arith;
                }
            by false y =
                let here : rows_at text h b at ≡ rows_at text h' b' t.end =
                rows-unnamed text at h b t u n m further (names ∙ y) ∙ after-rows in
                let same_index : i' ≡ i = ii ∙ ap (λ (c : Bool). cond c (suc i) i) y in
                let before : i ≤ at = s.index-low in
                let on : at < t.end = onward in
                let total : row_index x (rows_of text) ≡ i + row_index x (rows_at text h b at) = s.index_is in
                let one : row_index x (rows_at text h b at) ≡ row_index x (rows_at text h' b' t.end) =
                ap (row_index x) here in
                record {
                  kind-is = sym (kind-next text t.end u m);
                  braces-low = low;
                  index-low = omega arith;
                  row_is = s.row_is ∙ ap (row_of x) here;
                  index_is = omega arith;
                }
