-- The faults of names found in the events of a text, in text order. These definitions follow the code; that they are
-- the faults of the text's tree is proved (proofs/Faults.antt, proofs/SameFaults.antt).
use Rattle.std.specs.Prelude.{ℕ, suc, Bool, false, cond, not, List, [], ◌∷◌, ◌++◌, eqb, ltb}
use Rattle.std.proofs.Math.Option.{Option, none, some}
use Rattle.lists.specs.Lists.{same, any}
use Rattle.table.specs.Ops.{gate_qubits}
use Rattle.text.specs.Tree.{ascii, Name, spells, gate_of}
use Rattle.text.specs.Names.{unless, declared_among, use_fault}
use Rattle.text_parse.specs.Tokens.{Token}
use Rattle.text_scan.specs.Events.{Event, method_named, declared, used, called, invoked, opened, closed, ended}

-- A method's name and how many parameters it has.
pub record Entry : Type 0 where
  pub name : Name
  pub count : ℕ

-- What is made of each method, in text order: of its name, the number of its parameters, and the tokens from which on
-- it is read, which are hs for the first.
unfoldable pub each_method : {A : Type 0} → (List Token → Name → ℕ → A) → List Token → List Event → List A
each_method f hs [] = []
each_method f hs (method_named x n ∷ es) = f hs x n ∷ each_method f hs es
each_method f hs (declared x ∷ es) = each_method f hs es
each_method f hs (used x ∷ es) = each_method f hs es
each_method f hs (called x n ∷ es) = each_method f hs es
each_method f hs (invoked x n ∷ es) = each_method f hs es
each_method f hs (opened ∷ es) = each_method f hs es
each_method f hs (closed ∷ es) = each_method f hs es
each_method f hs (ended us ∷ es) = each_method f us es

abbrev pub entry : List Token → Name → ℕ → Entry
entry hs x n = record { name = x; count = n }

unfoldable pub entries_of : List Event → List Entry
entries_of es = each_method entry [] es

-- how many parameters the first method of a name has, where there is one; and how many methods stand before it
unfoldable pub count_of : List Entry → Name → Option ℕ
count_of [] x = none
count_of (e ∷ es) x = cond (spells x e.name) (some e.count) (count_of es x)

unfoldable pub index_in : List Entry → Name → ℕ
index_in [] x = 0
index_in (e ∷ es) x = cond (spells x e.name) 0 (suc (index_in es x))

abbrev pub names_main : Entry → Bool
names_main e = same e.name.spelling (ascii "main")

-- a call of n arguments
unfoldable pub callable : ℕ → Option ℕ → Bool
callable n none = false
callable n (some k) = eqb n k

unfoldable pub invocable : Name → ℕ → Option ℕ → Bool
invocable x n none = cond (ltb 0 (gate_of x)) (eqb n (gate_qubits (gate_of x))) false
invocable x n (some k) = eqb n k

-- The blocks that are open, the innermost first, each with the names declared in it so far, the last first. There is
-- always one: outside any method it has no names yet.
abbrev pub Blocks : Type 0
Blocks = List (List Name)

unfoldable pub innermost : Blocks → List Name
innermost [] = []
innermost (b ∷ bs) = b

unfoldable pub with_name : Name → Blocks → Blocks
with_name x [] = (x ∷ []) ∷ []
with_name x (b ∷ bs) = (x ∷ b) ∷ bs

unfoldable pub without_block : Blocks → Blocks
without_block [] = [] ∷ []
without_block (b ∷ []) = [] ∷ []
without_block (b ∷ c ∷ bs) = c ∷ bs

unfoldable pub names_in : Blocks → List Name
names_in [] = []
names_in (b ∷ bs) = b ++ names_in bs

-- the faults within methods
unfoldable pub faults_of : List Entry → Blocks → List Event → List ℕ
faults_of all bs [] = []
faults_of all bs (method_named x n ∷ es) = faults_of all ([] ∷ []) es
faults_of all bs (declared x ∷ es) = unless (not (declared_among (innermost bs) x)) x ++ faults_of all (with_name x bs) es
faults_of all bs (used x ∷ es) = use_fault (names_in bs) x ++ faults_of all bs es
faults_of all bs (called x n ∷ es) = unless (callable n (count_of all x)) x ++ faults_of all bs es
faults_of all bs (invoked x n ∷ es) = unless (invocable x n (count_of all x)) x ++ faults_of all bs es
faults_of all bs (opened ∷ es) = faults_of all ([] ∷ bs) es
faults_of all bs (closed ∷ es) = faults_of all (without_block bs) es
faults_of all bs (ended us ∷ es) = faults_of all (without_block bs) es

-- the methods that have the name of an earlier one, i of them being passed
unfoldable pub method_faults_of : List Entry → ℕ → List Entry → List ℕ
method_faults_of all i [] = []
method_faults_of all i (e ∷ es) =
    unless (not (ltb (index_in all e.name) i)) e.name ++ method_faults_of all (suc i) es

unfoldable pub main_fault_of : ℕ → List Entry → List ℕ
main_fault_of end all = cond (any names_main all) [] (end ∷ [])

-- all of them, in a text that ends at this place
unfoldable pub faults_from : ℕ → List Event → List ℕ
faults_from end es =
    faults_of (entries_of es) ([] ∷ []) es
    ++ (method_faults_of (entries_of es) 0 (entries_of es) ++ main_fault_of end (entries_of es))
