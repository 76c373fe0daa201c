-- The names of a declaration by places.
use Prim.Native.Nat.{ℕ, suc, ◌<◌}
use native.Mathlib.Omega.{arith}
use mathlib.Core.Path.{◌≡◌, refl, sym, ap, ◌∙◌, subst}
use mathlib.Core.Bool.{Bool, true, cond}
use mathlib.Core.List.{List, [], ◌∷◌, ◌++◌, map}
use borrow.Author.Tests.{eq-eqb, ne_eqb}
use lib.ListN.{length}
use Rattle.lists.specs.Lists.{same}
use Rattle.text.specs.Tree.{channel_type, end_type, Declaration, variables, withends, plainly, declared_in}
use Rattle.text_parse.specs.Tokens.{name_of}
use Rattle.text_parse.specs.Grammar.{Reading, read, first, expect_name, end_names}
use Rattle.text_parse.specs.Equations.{more_names_from, more_names_rule}
use Rattle.text_parse.proofs.Equations.{grammar}
use Rattle.text_tokens.specs.Places.{tokens_at}
use Rattle.text_tokens.proofs.KindTests.{is-comma, is-semicolon, is-open-bracket, is-close-bracket}
use Rattle.text_types.specs.SaysCode.{next_kind, Expected, Says, On}
use Rattle.text_types.specs.Found.{found_in, or_else}
use Rattle.text_types.specs.FoundCode.{matching, NameSays, NamesSay, EndsSay}
use Rattle.text_types.proofs.Answers.{on-here, on-later, says-lower, says-read, says-also, expect-says, name-says, passed-found, passed_ok, found_ok}
use Rattle.text_types.proofs.Finding.{or-none, or_assoc, found-one, found_first, found_name}

module _ (text x : List ℕ) where
  -- the names end with ;
  pub names-end : (i : ℕ) {ok : Bool} {at : ℕ} → (next_kind text i ≡ 25 → ⊥) → Expected text i 26 ok at
      → NamesSay text x i ok at 0
  unfolding more_names_rule declared_in
  names-end i {ok} {at} f e t xs =
      let P : Declaration → Type 0 = λ d. found_in x (declared_in d) ≡ or_else (found_in x (map (plainly t) xs)) 0 in
      rw (
        grammar.more_names-is t xs (tokens_at text i),
        is-comma (first (tokens_at text i)) ∙ ne_eqb
            (next_kind text i) 25 f,
      )
      (expect-says text P ok at ";" i 26 (λ us. read (variables t xs) us) (λ g. omega arith) is-semicolon e
      (record {
        on = λ o w. says-read text P ok at (variables t xs) (sym (or-none (found_in x (map (plainly t) xs)))) w o;
        off-ok = λ o. o;
        off_at = λ o. refl;
      }))

  -- a comma and a name
  pub names-on : (i : ℕ) {q n ok : Bool} {place middle at more : ℕ} (f : ℕ) → next_kind text i ≡ 25
      → Expected text i 25 q place → On q place n middle (NameSays text x place n middle more)
      → On n middle ok at (NamesSay text x middle ok at f) → NamesSay text x i ok at (or_else more f)
  unfolding more_names_rule
  names-on i {q} {n} {ok} {place} {middle} {at} {more} f k e named later t xs =
      let name = named.on (found_ok text i 25 k e) in
      let P : Declaration → Type 0 = λ d. found_in x (declared_in d) ≡ or_else (found_in x (map (plainly t) xs))
      (or_else more f) in
      let y = name_of (first (tokens_at text place)) in
      let Q : Declaration → Type 0 = λ d. found_in x (declared_in d) ≡ or_else
      (found_in x (map (plainly t) (xs ++ (y ∷ [])))) f in
      let pass = passed-found text i 25 (λ g. omega arith) k e in
      let on : i < place = pass.onward in
      let same-found : (d : Declaration) → Q d → P d = λ d g.
      g ∙ ap (λ (m : ℕ). or_else m f) (found_name x t xs y ∙ ap (or_else (found_in x (map (plainly t) xs)))
      (sym name.finds))
      ∙ or_assoc (found_in x (map (plainly t) xs)) more f in
      rw (
        grammar.more_names-is t xs (tokens_at text i),
        is-comma (first (tokens_at text i)) ∙ eq-eqb
            (next_kind text i) 25 k,
      )
      (subst (λ us. Says text (suc i) P ok at (expect_name us (λ y us. more_names_from t (xs ++ (y ∷ [])) us)))
      (sym pass.after)
      (says-lower text P ok at (suc i) (suc place) (omega arith)
      (name-says text P ok at place (λ y us. more_names_from t (xs ++ (y ∷ [])) us) name.stands
      (record {
        on = λ o w. says-lower text P ok at middle (suc middle) (omega arith)
            (says-also text Q P (suc middle) same-found (later.on o t (xs ++ (y ∷ []))));
        off-ok = later.off-ok;
        off_at = later.off_at;
      }))))

  pub names-further : (i : ℕ) {q n : Bool} {place middle more : ℕ} → next_kind text i ≡ 25
      → Expected text i 25 q place → On q place n middle (NameSays text x place n middle more) → n ≡ true
      → (i < middle) × (i < length text)
  names-further i {q} {n} {place} {middle} k e named o =
      let comma = passed-found text i 25 (λ g. omega arith) k e in
      let name = passed_ok text place 33 (λ g. omega arith) o (named.on (found_ok text i 25 k e)).stands in
      let on : i < place = comma.onward in
      let further : place < middle = name.onward in
      (omega arith, comma.begun)

  -- the two ends of a channel
  pub ends-says : (i : ℕ) {q1 q2 q3 q4 q5 ok : Bool} {p1 p2 p3 p4 p5 at f g : ℕ} → Expected text i 23 q1 p1
      → On q1 p1 q2 p2 (NameSays text x p1 q2 p2 f) → On q2 p2 q3 p3 (Expected text p2 25 q3 p3)
      → On q3 p3 q4 p4 (NameSays text x p3 q4 p4 g) → On q4 p4 q5 p5 (Expected text p4 24 q5 p5)
      → On q5 p5 ok at (Expected text p5 26 ok at) → EndsSay text x i ok at (or_else f g)
  unfolding end_names declared_in
  ends-says i {q1} {q2} {q3} {q4} {q5} {ok} {p1} {p2} {p3} {p4} {p5} {at} {f} {g} s1 s2 s3 s4 s5 s6 t c =
      let P : Declaration → Type 0 = λ d. found_in x (declared_in d) ≡ or_else (cond (same x c.spelling) 2 0)
      (or_else f g) in
      let a = name_of (first (tokens_at text p1)) in
      let b = name_of (first (tokens_at text p3)) in
      let all : matching x a.spelling ≡ f → matching x b.spelling ≡ g → P (withends t c a b) = λ h k.
      found_first x (record { name = c; type = channel_type t; ends = true })
      (plainly (end_type t) a ∷ plainly (end_type t) b ∷ [])
      ∙ ap (λ (m : ℕ). or_else m (found_in x (plainly (end_type t) a ∷ plainly (end_type t) b ∷ [])))
      (found-one x (record { name = c; type = channel_type t; ends = true }))
      ∙ ap (or_else (cond (same x c.spelling) 2 0))
      (found_first x (plainly (end_type t) a) (plainly (end_type t) b ∷ [])
      ∙ ap (λ (m : ℕ). or_else m (found_in x (plainly (end_type t) b ∷ []))) (found-one x (plainly (end_type t) a) ∙ h)
      ∙ ap (or_else f) (found-one x (plainly (end_type t) b) ∙ k)) in
      let r5 : On q4 p4 ok at (Unit {0}) = on-later s5 s6 (λ e. tt) in
      let r4 : On q3 p3 ok at (Unit {0}) = on-later s4 r5 (λ e. tt) in
      let r3 : On q2 p2 ok at (Unit {0}) = on-later s3 r4 (λ e. tt) in
      let low : (m : Reading Declaration) (j : ℕ) → Says text (suc j) P ok at m → Says text j P ok at m =
      λ m j. says-lower text P ok at j (suc j) (omega arith) in
      expect-says text P ok at "[" i 23 _ (λ e. omega arith) is-open-bracket s1
      (on-later s2 r3 (λ na w. low _ p1 (name-says text P ok at p1 _ na.stands
      (on-later s3 r4 (λ e w. low _ p2 (expect-says text P ok at "," p2 25 _ (λ e. omega arith) is-comma e
      (on-later s4 r5 (λ nb w. low _ p3 (name-says text P ok at p3 _ nb.stands
      (on-later s5 s6 (λ e w. low _ p4 (expect-says text P ok at "]" p4 24 _ (λ e. omega arith) is-close-bracket e
      (on-later s6 (on-here {S = Unit {0}} tt) (λ e w. low _ p5
      (expect-says text P ok at ";" p5 26 _ (λ e. omega arith) is-semicolon e
      (record {
        on = λ o w. says-read text P ok at (withends t c a b) (all (sym na.finds) (sym nb.finds)) w o;
        off-ok = λ o. o;
        off_at = λ o. refl;
      }))))))))))))))))
