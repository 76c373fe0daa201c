-- The faults that the scan over a text of the grammar finds are those of its tree.
use Prim.Native.Nat.{ℕ, suc, ◌≤◌, ◌<◌}
use native.Mathlib.Omega.{arith}
use mathlib.Core.Path.{◌≡◌, refl, sym, ap, ap₂, ◌∙◌}
use mathlib.Core.Bool.{Bool, true, false, cond, not, ◌||◌}
use mathlib.Core.List.{List, [], ◌∷◌, ◌++◌, map, append_assoc}
use lib.Dec.{ltb}
use lib.ListN.{length, length-append}
use borrow.Author.Tests.{lt-ltb, le-ltb, ltb-true, ltb-false}
use Rattle.lists.specs.Lists.{any}
use Rattle.text.specs.Tree.{Name, spells, Program, main_first, number_of, method_of}
use Rattle.text.specs.Names.{unless, declared_among, twice_faults, method_names, main_fault, name_faults}
use Rattle.text_parse.specs.Tokens.{Token, tokens_of}
use Rattle.text_parse.specs.Grammar.{read, program_of}
use Rattle.text_scan.specs.Events.{program_events}
use Rattle.text_scan.specs.ScanCode.{events_from}
use Rattle.text_scan.specs.FaultsCode.{Entry, entries_of, count_of, index_in, faults_of, method_faults_of, main_fault_of, faults_from}
use Rattle.text_scan.proofs.Methods.{entry_of, entries-program, parameter_count, count-first, index-first, mains-named}
use Rattle.text_scan.proofs.Faults.{faults-methods}
use Rattle.text_scan.proofs.EventsText.{text-events}

abbrev entry_name : Entry → Name
entry_name e = e.name

-- an index below the length of the methods before is the index of one of them
pub ltb-suc : (i n : ℕ) → ltb (suc i) (suc n) ≡ ltb i n
ltb-suc i n = by (ltb i n) refl
  where
    by : (b : Bool) → ltb i n ≡ b → ltb (suc i) (suc n) ≡ b
    by true e = let l : i < n = ltb-true i n e in lt-ltb (suc i) (suc n) (omega arith)
    by false e = let l : n ≤ i = ltb-false i n e in le-ltb (suc i) (suc n) (omega arith)

pub earlier : (seen rest : List Entry) (x : Name)
    → ltb (index_in (seen ++ rest) x) (length seen) ≡ any (spells x) (map entry_name seen)
unfolding index_in
earlier [] rest x = le-ltb (index_in rest x) 0 (omega arith)
earlier (e ∷ seen) rest x = by (spells x e.name) (earlier seen rest x)
  where
    by : (b : Bool) → ltb (index_in (seen ++ rest) x) (length seen) ≡ any (spells x) (map entry_name seen)
        → ltb (cond b 0 (suc (index_in (seen ++ rest) x))) (suc (length seen))
        ≡ (b || any (spells x) (map entry_name seen))
    by true later = lt-ltb 0 (suc (length seen)) (omega arith)
    by false later = ltb-suc (index_in (seen ++ rest) x) (length seen) ∙ later

or_swap : (a b c : Bool) → (a || (b || c)) ≡ (b || (a || c))
or_swap true true c = refl
or_swap true false c = refl
or_swap false b c = refl

any_last : (x : Name) (es : List Entry) (e : Entry)
    → any (spells x) (map entry_name (es ++ (e ∷ []))) ≡ (spells x e.name || any (spells x) (map entry_name es))
any_last x [] e = refl
any_last x (d ∷ es) e =
    ap (◌||◌ (spells x d.name)) (any_last x es e)
    ∙ or_swap (spells x d.name) (spells x e.name) (any (spells x) (map entry_name es))

length_last : (es : List Entry) (e : Entry) → length (es ++ (e ∷ [])) ≡ suc (length es)
length_last es e = length-append es (e ∷ []) ∙ omega arith

twice_same : (seen rest : List Entry) (xs : List Name)
    → ((x : Name) → any (spells x) (map entry_name seen) ≡ declared_among xs x)
    → method_faults_of (seen ++ rest) (length seen) rest ≡ twice_faults xs (map entry_name rest)
unfolding method_faults_of twice_faults
twice_same seen [] xs h = refl
twice_same seen (e ∷ rest) xs h =
    let all = seen ++ (e ∷ rest) in
    let again = seen ++ (e ∷ []) in
    ap (λ (b : Bool). unless (not b) e.name ++ method_faults_of all (suc (length seen)) rest)
    (earlier seen (e ∷ rest) e.name ∙ h e.name)
    ∙ ap (λ fs. unless (not (declared_among xs e.name)) e.name ++ fs)
    (ap (λ es. method_faults_of es (suc (length seen)) rest) (sym (append_assoc seen (e ∷ []) rest))
    ∙ ap (λ (n : ℕ). method_faults_of (again ++ rest) n rest) (sym (length_last seen e))
    ∙ twice_same again rest (e.name ∷ xs)
    (λ x. any_last x seen e ∙ ap (◌||◌ (spells x e.name)) (h x)))

names_same : (ms : Program) → map entry_name (map entry_of ms) ≡ method_names ms
names_same [] = refl
names_same (m ∷ ms) = ap (λ xs. m.name ∷ xs) (names_same ms)

faults-same : (end : ℕ) (ms : Program) (uss : List (List Token))
    → faults_from end (program_events ms uss) ≡ name_faults end ms
unfolding faults_from name_faults main_fault main_fault_of
faults-same end ms uss =
    let es = map entry_of ms in
    ap (λ all. faults_of all ([] ∷ []) (program_events ms uss)
    ++ (method_faults_of all 0 all ++ main_fault_of end all)) (entries-program ms uss)
    ∙ ap₂ (λ as' bs. as' ++ bs)
    (faults-methods (main_first ms) es (count-first ms) ([] ∷ []) ms uss)
    (ap₂ (λ as' bs. as' ++ bs)
    (twice_same [] es [] (λ x. refl) ∙ ap (twice_faults []) (names_same ms))
    (ap (λ (b : Bool). cond b [] (end ∷ [])) (mains-named ms)))

-- The whole text
pub text-faults : (text : List ℕ) (end : ℕ) (ms : Program) (us : List Token) → program_of (tokens_of text) ≡ read ms us
    → faults_from end (events_from 0 0 (tokens_of text)) ≡ name_faults end ms
text-faults text end ms us e =
    let t = text-events text ms us e in ap (faults_from end) t.events ∙ faults-same end ms t.ends

-- the methods of a text, in text order
pub text-entries : (text : List ℕ) (ms : Program) (us : List Token) → program_of (tokens_of text) ≡ read ms us
    → entries_of (events_from 0 0 (tokens_of text)) ≡ map entry_of ms
text-entries text ms us e =
    let t = text-events text ms us e in ap entries_of t.events ∙ entries-program ms t.ends

pub text-count : (text : List ℕ) (ms : Program) (us : List Token) → program_of (tokens_of text) ≡ read ms us
    → (x : Name)
    → count_of (entries_of (events_from 0 0 (tokens_of text))) x ≡ parameter_count (method_of (main_first ms) x)
text-count text ms us e x = ap (λ all. count_of all x) (text-entries text ms us e) ∙ count-first ms x

pub text-index : (text : List ℕ) (ms : Program) (us : List Token) → program_of (tokens_of text) ≡ read ms us
    → (x : Name) → index_in (entries_of (events_from 0 0 (tokens_of text))) x ≡ number_of ms x
text-index text ms us e x = ap (λ all. index_in all x) (text-entries text ms us e) ∙ index-first ms x
