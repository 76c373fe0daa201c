-- The table of a text, from what is written one after the other.
use Prim.Native.Nat.{ℕ, ◌≤◌, ◌<◌}
use native.Mathlib.Omega.{arith}
use mathlib.Core.Path.{◌≡◌, refl, sym, ap, subst, ◌∙◌}
use mathlib.Core.Bool.{false}
use mathlib.Core.List.{List, [], ◌∷◌, ◌++◌, append_assoc}
use mathlib.Core.Option.{some, none-ne-some}
use lib.ListN.{length, length-append}
use Rattle.lists.specs.Lists.{put_from}
use Rattle.lists.proofs.Put.{put_same}
use Rattle.table.specs.Table.{word}
use Rattle.std.specs.Prelude as P
use Rattle.text.specs.Tree.{ascii, Name, Program, main_first, without_main, method_at, method_of}
use Rattle.text.specs.Translation.{method_code, program_code, code_words}
use Rattle.text.specs.Statement.{text_table}
use Rattle.text.proofs.Order.{main_first-length, main_first-code}
use Rattle.text.proofs.Words.{method-within, code_words-length}
use Rattle.text.proofs.Limited.{translated-limited}
use Rattle.text_methods.specs.MethodSays.{MethodSays, stands, absent, MethodOf}
use Rattle.text_methods.specs.declared.find.MethodAt.{MethodAt}
use Rattle.text_methods.specs.declared.find.NoSuchMethod.{NoSuchMethod}
use Rattle.text_put.specs.TableCode.{Writes, number_in, pairs_to, rows_to}
use Rattle.text_put.specs.Measures.{TableText, Measures}
use Rattle.text_put.proofs.MainAt.{MainStands, order_is, number_at, main-number, index_at}
use Rattle.text_put.proofs.WordLaws.{words-then, words_same, words-length, pairs-count, rows-count, number-main, index-main}
use Rattle.text_put.proofs.Assembled.{text-main, table_is}
use Rattle.text_code.specs.KeptCode.{offset_in, CodeKept}
use Rattle.text_table.specs.WrittenCode.{Writing, Lengths, head_words}
use Rattle.text_table.proofs.Fitting.{one_of_all, table-words}
use Rattle.text_table.proofs.StepLaws.{PutsOne, method-put}

-- the words before the code

pub head-put : (methods instructions main : ℕ) (lengths rows table : List ℕ) {one two end : List ℕ} {i j r : ℕ}
    → Writes table 0 (methods ∷ instructions ∷ []) one i → Writes one i (pairs_to lengths main methods) two j
    → Writes two j (rows_to rows main methods) end r
    → Writes table 0 (head_words methods instructions lengths rows main) end r
head-put methods instructions main lengths rows table {one = one} {i = i} p q s =
    let pairs = pairs_to lengths main methods in
    words-then table 0 (methods ∷ instructions ∷ []) (pairs ++ rows_to rows main methods) p
    (words-then one i pairs (rows_to rows main methods) q s)

pub pairs_below : (methods main : ℕ) (lengths one : List ℕ) {two : List ℕ} {i j : ℕ} → methods ≤ 32 → i ≤ 2
    → Writes one i (pairs_to lengths main methods) two j → j ≤ 66
pairs_below methods main lengths one l h q =
    let pairs = pairs_to lengths main methods in
    omega (arith, q.1, words-length pairs, pairs-count lengths main methods)

pub head-below : (methods instructions main : ℕ) (lengths rows table : List ℕ) {end : List ℕ} {r : ℕ}
    → length rows ≡ 576 → methods ≤ 32 → main < 32
    → Writes table 0 (head_words methods instructions lengths rows main) end r → r ≤ 642
head-below methods instructions main lengths rows table e l m h =
    let pairs = pairs_to lengths main methods in
    let others = rows_to rows main methods in
    omega (
      arith,
      h.1,
      words-length (head_words methods instructions lengths rows main),
      length-append pairs others,
      pairs-count lengths main methods,
      rows-count rows main methods e m l,
    )

module _ {text : List ℕ} {ns : Program} (g : TableText text ns) where
  abbrev qs : Program
  qs = main_first ns

  p : MainStands ns
  p = text-main (length text) ns g.kept.names

  main-of : (x : Name) → x.spelling ≡ ascii "main" → method_of qs x ≡ some p.one
  unfolding method_of method_at
  main-of x e =
      let n = length p.before in
      ap (method_at qs) (number_at ns p x ∙ ap (number_in n) (main-number ns p x e) ∙ sym (number-main n n refl))
      ∙ ap (λ ms. method_at ms 0) (order_is ns p)

  main-there : method_at ns (length p.before) ≡ some p.one
  unfolding method_at
  main-there =
      ap (method_at ns) (index-main (length p.before) 0 refl) ∙ sym (index_at ns p 0)
      ∙ ap (λ ms. method_at ms 0) (order_is ns p)

  abbrev x : Name
  x = record { spelling = ascii "main"; at = 0 }

  main-found : {m : MethodAt} → MethodOf text (ascii "main") (P.Ok m) → m.index ≡ length p.before
  main-found {m} f = by (f ns g.left 0 g.reads)
    where
      by : MethodSays text ns x (P.Ok m) → m.index ≡ length p.before
      by (stands k us o r q i) = i ∙ main-number ns p x refl

  pub main-missing : {n : NoSuchMethod} → MethodOf text (ascii "main") (P.Err n) → ⊥
  main-missing {n} f = by (f ns g.left 0 g.reads)
    where
      by : MethodSays text ns x (P.Err n) → ⊥
      by (absent o c) = none-ne-some p.one (sym o ∙ main-of x refl)

  pub few-methods : {methods instructions : ℕ} {lengths rows : List ℕ}
      → Measures ns methods instructions lengths rows → methods ≤ 32
  few-methods d =
      omega (arith, d.count, main_first-length ns, (translated-limited (length text) ns g.kept).few)

  pub index-small : {m : MethodAt} → MethodOf text (ascii "main") (P.Ok m) → m.index ≤ 31
  index-small f =
      omega (
        arith,
        main-found f,
        method-within ns (length p.before) p.one main-there,
        main_first-length ns,
        (translated-limited (length text) ns g.kept).few,
      )

  main-below : (mid : List ℕ) {end : List ℕ} {i j : ℕ} → i ≤ 642
      → Writes mid i (code_words (method_code qs p.one)) end j → j ≤ 9000
  main-below mid l h =
      let is = method_code qs p.one in
      omega (
        arith,
        h.1,
        words-length (code_words is),
        code_words-length is,
        one_of_all qs ns (length p.before) p.one main-there,
        main_first-code qs ns,
        (translated-limited (length text) ns g.kept).short,
      )

  pub all-written : {methods instructions : ℕ} {lengths rows : List ℕ} (kept : List ℕ)
      → Measures ns methods instructions lengths rows → CodeKept ns methods lengths kept
      → {m : MethodAt} → MethodOf text (ascii "main") (P.Ok m) → (table : List ℕ) {mid next end : List ℕ} {i j r : ℕ}
      → Writes table 0 (head_words methods instructions lengths rows m.index) mid i → i ≤ 642
      → (from long : ℕ) → from ≡ offset_in lengths m.index → long ≡ word lengths m.index
      → PutsOne text m.index false kept from long mid i next j
      → ((ns : Program) → Writing text ns m.index → methods ≡ length ns → Lengths ns lengths
      → CodeKept ns methods lengths kept → j ≤ 9000
      → Writes next j (code_words (program_code (main_first ns) (without_main ns))) end r)
      → (end ≡ put_from table 0 (text_table ns)) × (r ≡ length (text_table ns))
  all-written {methods} {instructions} {lengths} {rows} kept d c {m = a} f table {mid = mid} {next = next}
      {i = i} {j = j} h l from long x y one others =
      let n = main-found f in
      let w : Writing text ns a.index = record { given = g; index = n ∙ sym (main-number ns p _ refl) } in
      let there = ap (method_at ns) n ∙ main-there in
      let main = method-put w lengths kept d.long (subst (λ k. CodeKept ns k lengths kept) d.count c) a.index from
      long x y p.one there false mid i one (omega arith) in
      let rest = others ns w d.count d.long c (main-below mid l main) in
      let A = code_words (method_code qs p.one) in
      let B = code_words (program_code qs (without_main ns)) in
      let m = length p.before in
      let all = words-then table 0 (head_words methods instructions lengths rows a.index) (A ++ B) h
      (words-then mid i A B main rest) in
      let u = put_same table 0 (table-words (length text) ns g.kept)
      (words_same table 0 (ap (λ k. head_words methods instructions lengths rows k ++ (A ++ B)) n
      ∙ ap (λ ws. methods ∷ instructions ∷ ws)
      (append_assoc (pairs_to lengths m methods) (rows_to rows m methods) (A ++ B)) ∙ sym (table_is p d)) all) in
      (u.0, omega (arith, u.1))
