-- All faults of names but a missing main, in one scan over the events of a text: those within methods and the methods
-- that have the name of an earlier one. These definitions follow the code; that the lowest is the same is proved
-- (proofs/Merged.antt).
use Rattle.std.specs.Prelude.{ℕ, suc, Bool, false, cond, not, List, [], ◌∷◌, ◌++◌, eqb, ltb}
use Rattle.std.proofs.Math.Option.{Option, none, some}
use Rattle.text.specs.Tree.{Name}
use Rattle.text.specs.Names.{unless, declared_among, use_fault, lower}
use Rattle.text_scan.specs.Events.{Event, method_named, declared, used, called, invoked, opened, closed, ended}
use Rattle.text_scan.specs.FaultsCode.{Entry, count_of, index_in, callable, invocable, Blocks, innermost, with_name, without_block, names_in}

-- i methods are passed
unfoldable pub all_faults : List Entry → ℕ → Blocks → List Event → List ℕ
all_faults all i bs [] = []
all_faults all i bs (method_named x n ∷ es) =
    unless (not (ltb (index_in all x) i)) x ++ all_faults all (suc i) ([] ∷ []) es
all_faults all i bs (declared x ∷ es) =
    unless (not (declared_among (innermost bs) x)) x ++ all_faults all i (with_name x bs) es
all_faults all i bs (used x ∷ es) = use_fault (names_in bs) x ++ all_faults all i bs es
all_faults all i bs (called x n ∷ es) = unless (callable n (count_of all x)) x ++ all_faults all i bs es
all_faults all i bs (invoked x n ∷ es) = unless (invocable x n (count_of all x)) x ++ all_faults all i bs es
all_faults all i bs (opened ∷ es) = all_faults all i ([] ∷ bs) es
all_faults all i bs (closed ∷ es) = all_faults all i (without_block bs) es
all_faults all i bs (ended us ∷ es) = all_faults all i (without_block bs) es

-- the names at fault, one by one
abbrev pub name_if : Bool → Name → List Name
name_if fault x = cond fault (x ∷ []) []

unfoldable pub faulty : List Entry → ℕ → Blocks → List Event → List Name
faulty all i bs [] = []
faulty all i bs (method_named x n ∷ es) = name_if (ltb (index_in all x) i) x ++ faulty all (suc i) ([] ∷ []) es
faulty all i bs (declared x ∷ es) = name_if (declared_among (innermost bs) x) x ++ faulty all i (with_name x bs) es
faulty all i bs (used x ∷ es) = name_if (not (declared_among (names_in bs) x)) x ++ faulty all i bs es
faulty all i bs (called x n ∷ es) = name_if (not (callable n (count_of all x))) x ++ faulty all i bs es
faulty all i bs (invoked x n ∷ es) = name_if (not (invocable x n (count_of all x))) x ++ faulty all i bs es
faulty all i bs (opened ∷ es) = faulty all i ([] ∷ bs) es
faulty all i bs (closed ∷ es) = faulty all i (without_block bs) es
faulty all i bs (ended us ∷ es) = faulty all i (without_block bs) es

-- whether the name x is at fault, where it has the role r and n arguments follow it
unfoldable pub fault_at : List Entry → ℕ → Blocks → ℕ → Name → ℕ → Bool
fault_at all i bs r x n =
    cond (eqb r 1) (ltb (index_in all x) i)
    (cond (eqb r 2) (declared_among (innermost bs) x)
    (cond (eqb r 3) (not (declared_among (names_in bs) x))
    (cond (eqb r 4) (not (callable n (count_of all x)))
    (cond (eqb r 5) (not (invocable x n (count_of all x))) false))))

unfoldable pub index_after : ℕ → ℕ → ℕ
index_after r i = cond (eqb r 1) (suc i) i

-- the lower of two places, where there are any
unfoldable pub lower_of : Option ℕ → Option ℕ → Option ℕ
lower_of none o = o
lower_of (some i) o = some (lower i o)

abbrev pub place_if : Bool → ℕ → Option ℕ
place_if found at = cond found (some at) none

-- the lowest place of the names whose bytes pass a test
unfoldable pub lowest_of : (List ℕ → Bool) → List Name → Option ℕ
lowest_of test [] = none
lowest_of test (x ∷ xs) = lower_of (place_if (test x.spelling) x.at) (lowest_of test xs)
