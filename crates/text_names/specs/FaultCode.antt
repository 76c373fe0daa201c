-- Whether a name is at fault, by the places at which it stands. These definitions follow the code; that it is the fault
-- of the name by the blocks that are open is proved (proofs/Scanning.antt).
use Rattle.std.specs.Prelude.{ℕ, ◌≤◌, ◌≡◌, Bool, false, cond, not, List, [], ◌∷◌, map, eqb, ltb, length}
use Rattle.std.proofs.Math.Option.{Option, none, some}
use Rattle.std.proofs.Math.Seq.{slice}
use Rattle.text.specs.Tree.{Name, Program}
use Rattle.text.specs.Names.{lowest, name_refusal}
use Rattle.text_parse.specs.Tokens.{Token, tokens_of}
use Rattle.text_parse.specs.Grammar.{read, program_of}
use Rattle.text_tokens.specs.Places.{tokens_at}
use Rattle.text_scan.specs.ScanCode.{argument_count, events_from}
use Rattle.text_scan.specs.FaultsCode.{Entry, callable, invocable}
use Rattle.text_methods.specs.RowsCode.{Row, rows_of, row_of, row_index}
use Rattle.text_roles.specs.FoundCode.{level_of, found_up_to}
use Rattle.text_open.specs.OpenCode.{open_of, is_open}
use Rattle.text_names.specs.FaultsCode.{all_faults, faulty, lowest_of}

abbrev pub row_count : Option Row → Option ℕ
row_count none = none
row_count (some r) = some r.count

abbrev pub row_entry : Row → Entry
row_entry r = record { name = r.name; count = r.count }

-- the methods of a text
unfoldable pub methods_of : List ℕ → List Entry
methods_of text = map row_entry (rows_of text)

-- a name that is given by its bytes
abbrev pub bare : List ℕ → Name
bare x = record { spelling = x; at = 0 }

unfoldable pub is_call_at : List ℕ → List ℕ → ℕ → Bool
is_call_at text x after = callable (argument_count (tokens_at text after)) (row_count (row_of x (rows_of text)))

unfoldable pub is_invocation_at : List ℕ → List ℕ → ℕ → Bool
is_invocation_at text x after =
    invocable (bare x) (argument_count (tokens_at text after)) (row_count (row_of x (rows_of text)))

-- declared at this level or a deeper one, in the method whose tokens stand from a place on
unfoldable pub is_known_at : List ℕ → ℕ → ℕ → ℕ → ℕ → Bool
is_known_at text from least start end =
    ltb 0 (found_up_to least (slice start end text) start 0 0 0 (tokens_at text from))

-- from the entries it is known whether the name from start up to end is in scope
abbrev pub Knows : List ℕ → List ℕ → ℕ → ℕ → ℕ → ℕ → Type 0
Knows text words n from start end =
    (least : ℕ) → n ≤ 1024
    → is_open least (slice start end text) (open_of text words n) ≡ is_known_at text from least start end

-- the name from start up to end, of role r, with a bracket up to `after` after it; i methods are passed
unfoldable pub fault_here : List ℕ → ℕ → ℕ → ℕ → ℕ → ℕ → ℕ → ℕ → Bool
fault_here text from braces i r start end after =
    cond (eqb r 1) (ltb (row_index (slice start end text) (rows_of text)) i)
    (cond (eqb r 2) (is_known_at text from (level_of braces) start end)
    (cond (eqb r 3) (not (is_known_at text from 1 start end))
    (cond (eqb r 4) (not (is_call_at text (slice start end text) after))
    (cond (eqb r 5) (not (is_invocation_at text (slice start end text) after)) false))))

-- the lowest of all faults but a missing main
unfoldable pub lowest_fault : List ℕ → Option ℕ
lowest_fault text = lowest (all_faults (methods_of text) 0 ([] ∷ []) (events_from 0 0 (tokens_at text 0)))

-- the same of the names whose bytes pass a test
unfoldable pub lowest_in : (List ℕ → Bool) → List ℕ → Option ℕ
lowest_in test text = lowest_of test (faulty (methods_of text) 0 ([] ∷ []) (events_from 0 0 (tokens_at text 0)))

-- what is answered in a text of the grammar
abbrev pub Refuses : List ℕ → Option ℕ → Type 0
Refuses text o =
    (ms : Program) (us : List Token) → program_of (tokens_of text) ≡ read ms us → o ≡ name_refusal (length text) ms
