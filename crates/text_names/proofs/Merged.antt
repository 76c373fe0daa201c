-- The faults found in one scan have the same lowest as those of methods and of their names apart.
use Prim.Native.Nat.{ℕ, suc}
use mathlib.Core.Path.{◌≡◌, refl, sym, ap, ◌∙◌}
use mathlib.Core.Bool.{not}
use mathlib.Core.List.{List, [], ◌∷◌, ◌++◌}
use mathlib.Core.Option.{Option}
use lib.Dec.{ltb}
use Rattle.text.specs.Tree.{Program}
use Rattle.text.specs.Names.{unless, declared_among, use_fault, lowest, name_refusal}
use Rattle.text_parse.specs.Tokens.{Token, tokens_of}
use Rattle.text_parse.specs.Grammar.{read, program_of}
use Rattle.text_scan.specs.Events.{Event, method_named, declared, used, called, invoked, opened, closed, ended}
use Rattle.text_scan.specs.ScanCode.{events_from}
use Rattle.text_scan.specs.FaultsCode.{Entry, each_method, entry, entries_of, count_of, index_in, callable, invocable, Blocks, innermost, with_name, without_block, names_in, faults_of, method_faults_of, main_fault_of, faults_from}
use Rattle.text_scan.proofs.SameFaults.{text-faults}
use Rattle.text_names.specs.FaultsCode.{all_faults, lower_of}
use Rattle.text_names.proofs.Lowest.{lower-assoc, lower-swap, lowest-append}

none-lowest : lowest [] ≡ lower_of (lowest []) (lowest [])
unfolding lowest lower_of
none-lowest = refl

module _ (all : List Entry) where
  one_more : (is js ks : List ℕ) (o : Option ℕ) → lowest ks ≡ lower_of (lowest js) o
      → lowest (is ++ ks) ≡ lower_of (lowest (is ++ js)) o
  one_more is js ks o e =
      lowest-append is ks ∙ ap (lower_of (lowest is)) e ∙ sym (lower-assoc (lowest is) (lowest js) o)
      ∙ ap (λ a. lower_of a o) (sym (lowest-append is js))

  one_name : (is js ks : List ℕ) (o : Option ℕ) → lowest ks ≡ lower_of o (lowest js)
      → lowest (is ++ ks) ≡ lower_of o (lowest (is ++ js))
  one_name is js ks o e =
      lowest-append is ks ∙ ap (lower_of (lowest is)) e ∙ lower-swap (lowest is) o (lowest js)
      ∙ ap (lower_of o) (sym (lowest-append is js))

  merged : (i : ℕ) (bs : Blocks) (hs : List Token) (es : List Event)
      → lowest (all_faults all i bs es)
      ≡ lower_of (lowest (faults_of all bs es)) (lowest (method_faults_of all i (each_method entry hs es)))
  unfolding all_faults faults_of method_faults_of each_method
  merged i bs hs [] = none-lowest
  merged i bs hs (method_named x n ∷ es) =
      one_name (unless (not (ltb (index_in all x) i)) x) (method_faults_of all (suc i) (each_method entry hs es))
      (all_faults all (suc i) ([] ∷ []) es) (lowest (faults_of all ([] ∷ []) es)) (merged (suc i) ([] ∷ []) hs es)
  merged i bs hs (declared x ∷ es) =
      one_more (unless (not (declared_among (innermost bs) x)) x) (faults_of all (with_name x bs) es)
      (all_faults all i (with_name x bs) es) (lowest (method_faults_of all i (each_method entry hs es)))
      (merged i (with_name x bs) hs es)
  merged i bs hs (used x ∷ es) =
      one_more (use_fault (names_in bs) x) (faults_of all bs es) (all_faults all i bs es)
      (lowest (method_faults_of all i (each_method entry hs es))) (merged i bs hs es)
  merged i bs hs (called x n ∷ es) =
      one_more (unless (callable n (count_of all x)) x) (faults_of all bs es) (all_faults all i bs es)
      (lowest (method_faults_of all i (each_method entry hs es))) (merged i bs hs es)
  merged i bs hs (invoked x n ∷ es) =
      one_more (unless (invocable x n (count_of all x)) x) (faults_of all bs es) (all_faults all i bs es)
      (lowest (method_faults_of all i (each_method entry hs es))) (merged i bs hs es)
  merged i bs hs (opened ∷ es) = merged i ([] ∷ bs) hs es
  merged i bs hs (closed ∷ es) = merged i (without_block bs) hs es
  merged i bs hs (ended us ∷ es) = merged i (without_block bs) us es

merged-all : (es : List Event)
    → lowest (all_faults (entries_of es) 0 ([] ∷ []) es)
    ≡ lower_of (lowest (faults_of (entries_of es) ([] ∷ []) es)) (lowest (method_faults_of (entries_of es) 0 (entries_of es)))
unfolding entries_of
merged-all es = merged (each_method entry [] es) 0 ([] ∷ []) [] es

-- the refusal of a text
pub text-refusal : (text : List ℕ) (end : ℕ) (ms : Program) (us : List Token) → program_of (tokens_of text) ≡ read ms us
    → lower_of
    (lowest (all_faults (entries_of (events_from 0 0 (tokens_of text))) 0 ([] ∷ []) (events_from 0 0 (tokens_of text))))
    (lowest (main_fault_of end (entries_of (events_from 0 0 (tokens_of text)))))
    ≡ name_refusal end ms
unfolding name_refusal faults_from
text-refusal text end ms us e =
    let es = events_from 0 0 (tokens_of text) in
    let all = entries_of es in
    let inner = faults_of all ([] ∷ []) es in
    let names = method_faults_of all 0 all in
    let last = main_fault_of end all in
    ap (λ o. lower_of o (lowest last)) (merged-all es)
    ∙ lower-assoc (lowest inner) (lowest names) (lowest last)
    ∙ ap (lower_of (lowest inner)) (sym (lowest-append names last))
    ∙ sym (lowest-append inner (names ++ last))
    ∙ ap lowest (text-faults text end ms us e)
