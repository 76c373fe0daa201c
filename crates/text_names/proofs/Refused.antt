-- What is answered of a text of the grammar is its refusal.
use Prim.Native.Nat.{ℕ}
use mathlib.Core.Path.{◌≡◌, refl, sym, ap, ◌∙◌}
use mathlib.Core.Bool.{Bool, true, false, cond, ◌||◌}
use mathlib.Core.List.{List, [], ◌∷◌, map}
use mathlib.Core.Option.{Option, none, some}
use lib.ListN.{length}
use Rattle.std.specs.Prelude as P
use Rattle.std.specs.Prelude.{is_ok}
use Rattle.lists.specs.Lists.{same, any}
use Rattle.text.specs.Tree.{ascii}
use Rattle.text.specs.Names.{lower, lowest}
use Rattle.text_parse.specs.Tokens.{Token}
use Rattle.text_tokens.specs.Places.{tokens_at}
use Rattle.text_tokens.proofs.Tokenwise.{tokens-at-start}
use Rattle.text_scan.specs.Events.{Event, method_named, declared, used, called, invoked, opened, closed, ended}
use Rattle.text_scan.specs.ScanCode.{events_from}
use Rattle.text_scan.specs.FaultsCode.{Entry, each_method, entry, entries_of, names_main, main_fault_of}
use Rattle.text_scan.proofs.Methods.{same-comm}
use Rattle.text_methods.specs.RowsCode.{Row, rows_of, row_of, row_index, Agrees, agrees, no-row, FirstNamed}
use Rattle.text_methods.specs.declared.find.MethodAt.{MethodAt}
use Rattle.text_methods.specs.declared.find.NoSuchMethod.{NoSuchMethod}
use Rattle.text_methods.proofs.Found.{row_for, rows-scanned}
use Rattle.text_names.specs.FaultsCode.{all_faults, lower_of}
use Rattle.text_names.specs.FaultCode.{row_entry, methods_of, lowest_fault, Refuses}
use Rattle.text_names.proofs.Merged.{text-refusal}
use Rattle.text_names.proofs.Lowest.{lower-none}

-- the methods by rows
entries-rows : (hs gs : List Token) (es : List Event) → each_method entry hs es ≡ map row_entry (each_method row_for gs es)
unfolding each_method
entries-rows hs gs [] = refl
entries-rows hs gs (method_named x n ∷ es) = ap (λ fs. record { name = x; count = n } ∷ fs) (entries-rows hs gs es)
entries-rows hs gs (declared x ∷ es) = entries-rows hs gs es
entries-rows hs gs (used x ∷ es) = entries-rows hs gs es
entries-rows hs gs (called x n ∷ es) = entries-rows hs gs es
entries-rows hs gs (invoked x n ∷ es) = entries-rows hs gs es
entries-rows hs gs (opened ∷ es) = entries-rows hs gs es
entries-rows hs gs (closed ∷ es) = entries-rows hs gs es
entries-rows hs gs (ended us ∷ es) = entries-rows us us es

text-methods : (text : List ℕ) → entries_of (events_from 0 0 (tokens_at text 0)) ≡ methods_of text
unfolding entries_of methods_of rows_of
text-methods text =
    let ts = tokens_at text 0 in
    entries-rows [] ts (events_from 0 0 ts) ∙ ap (map row_entry) (rows-scanned ts 0 0 ts)

-- a method called main
abbrev there : Option Row → Bool
there none = false
there (some r) = true

main-there : (rs : List Row) → any names_main (map row_entry rs) ≡ there (row_of (ascii "main") rs)
unfolding row_of
main-there [] = refl
main-there (r ∷ rs) =
    ap (λ (b : Bool). b || any names_main (map row_entry rs)) (same-comm r.name.spelling (ascii "main"))
    ∙ by (same (ascii "main") r.name.spelling) (main-there rs)
  where
    by : (b : Bool) → any names_main (map row_entry rs) ≡ there (row_of (ascii "main") rs)
        → (b || any names_main (map row_entry rs)) ≡ there (cond b (some r) (row_of (ascii "main") rs))
    by true e = refl
    by false e = e

found-there : (text : List ℕ) (n : ℕ) (o : Option Row) (found : P.Result MethodAt NoSuchMethod) → Agrees text n o found
    → there o ≡ is_ok found
found-there text n none (P.Err e) (no-row c) = refl
found-there text n none (P.Ok a) h = elim h [ ]
found-there text n (some r) (P.Err e) h = elim h [ ]
found-there text n (some r) (P.Ok a) (agrees i t c) = refl

module _ (text : List ℕ) {found : P.Result MethodAt NoSuchMethod} (a : FirstNamed text (ascii "main") found) where
  main-fault : lowest (main_fault_of (length text) (methods_of text)) ≡ cond (is_ok found) none (some (length text))
  unfolding main_fault_of methods_of lowest lower
  main-fault =
      ap (λ (b : Bool). lowest (cond b [] (length text ∷ [])))
      (main-there (rows_of text)
      ∙ found-there text (row_index (ascii "main") (rows_of text)) (row_of (ascii "main") (rows_of text)) found a)
      ∙ by (is_ok found)
    where
      by : (b : Bool) → lowest (cond b [] (length text ∷ [])) ≡ cond b none (some (length text))
      by true = refl
      by false = refl

  -- the refusal, with main and without
  pub refusal_is : Refuses text (lower_of (lowest_fault text) (cond (is_ok found) none (some (length text))))
  unfolding lowest_fault
  refusal_is ms us e =
      ap (lower_of (lowest (all_faults (methods_of text) 0 ([] ∷ []) (events_from 0 0 (tokens_at text 0)))))
      (sym main-fault)
      ∙ ap (λ (all : List Entry). lower_of (lowest (all_faults all 0 ([] ∷ []) (events_from 0 0 (tokens_at text 0))))
      (lowest (main_fault_of (length text) all))) (sym (text-methods text))
      ∙ ap (λ ts. lower_of (lowest (all_faults (entries_of (events_from 0 0 ts)) 0 ([] ∷ []) (events_from 0 0 ts)))
      (lowest (main_fault_of (length text) (entries_of (events_from 0 0 ts))))) (sym (tokens-at-start text))
      ∙ text-refusal text (length text) ms us e

pub main-found : (text : List ℕ) {m : MethodAt} → FirstNamed text (ascii "main") (P.Ok m) → {o : Option ℕ}
    → o ≡ lowest_fault text → Refuses text o
main-found text a l ms us e = l ∙ sym (lower-none (lowest_fault text)) ∙ refusal_is text a ms us e

pub main-missing : (text : List ℕ) {n : NoSuchMethod} → FirstNamed text (ascii "main") (P.Err n) → {low o : Option ℕ}
    → low ≡ lowest_fault text → o ≡ lower_of low (some (length text)) → Refuses text o
main-missing text a l m ms us e = m ∙ ap (λ o. lower_of o (some (length text))) l ∙ refusal_is text a ms us e
