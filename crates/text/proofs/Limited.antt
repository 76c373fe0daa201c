-- What is known of a text that is refused neither by 31 nor by 32: one record of facts about its methods, main first.
use Prim.Native.Nat.{ℕ, suc, ◌+◌, ◌≤◌}
use native.Mathlib.Omega.{arith}
use mathlib.Core.Path.{◌≡◌, refl, subst}
use mathlib.Core.Bool.{Bool, true, false, cond, ◌&&◌, ◌||◌, not}
use mathlib.Core.List.{List, [], ◌∷◌, ◌++◌, cons≢nil}
use mathlib.Core.Option.{Option, none, some, some-ne-none}
use lib.ListN.{length, length-append}
use lib.Dec.{T, eqb, leb}
use mir.Facts.{and_yes, leb_yes, eqb_yes}
use Rattle.lists.specs.Lists.{any, every, All}
use Rattle.lists.proofs.Laws.{append-nil-right}
use Rattle.text.specs.Tree.{Name, NonVoidType, Method, Program, method_at, is_main, main_first}
use Rattle.text.specs.Meaning.{is_some}
use Rattle.text.specs.Translation.{method_code, slot_codes, program_code, program_table}
use Rattle.text.specs.Names.{twice_faults, method_names, methods_faults, main_fault, name_faults, lowest, name_refusal, method_faults}
use Rattle.text.specs.Limits.{all_numbers_in, is_number, header_kept, code_kept, method_kept, first_over, place_of, limit_refusal}
use Rattle.text.specs.Statement.{Translated}
use Rattle.text.proofs.Order.{all-method, all-main_first, main_first-length, main_first-code, main-first}
use Rattle.text.proofs.Apart.{Apart, number-of, append-nil-left, names_apart, apart-main_first}

-- Methods in the table's order that keep all limits: method 0 is main, and no two have one name.
pub record Limited (ms : Program) : Type 0 where
  pub main : Method
  pub first : method_at ms 0 ≡ some main
  pub is-main : T (is_main main)
  pub few : length ms ≤ 32
  pub short : length (program_code ms ms) ≤ 4096
  pub kept : All (λ m. T (method_kept ms m)) ms
  pub apart : Apart ms
  pub known : All (λ m. method_faults ms m ≡ []) ms

-- The limits that method m, of number n, keeps.
pub record Keeps (ms : Program) (n : ℕ) (m : Method) : Type 0 where
  pub parameters : length m.parameters ≤ 8
  pub slots : length (slot_codes m) ≤ 16
  pub header : T (is_main m) → (length m.parameters ≡ 0) × (m.returns ≡ none)
  pub numbers : T (every is_number (all_numbers_in m.statements))
  pub code : T (code_kept (program_table ms) n)

-- no return type
none_of : (o : Option NonVoidType) → T (not (is_some o)) → o ≡ none
none_of none t = refl
none_of (some x) t = absurd t

-- a main has no parameter and no return type
header-kept : (m : Method) → T (header_kept m) → T (is_main m) → (length m.parameters ≡ 0) × (m.returns ≡ none)
header-kept m t u =
    let without = eqb (length m.parameters) 0 && not (is_some m.returns) in
    let both = asked (is_main m) without t u in
    let (parameters, returns) = and_yes (eqb (length m.parameters) 0) (not (is_some m.returns)) both in
    (eqb_yes parameters, none_of m.returns returns)
  where
    -- a test that is asked only where another one is passed
    asked : (a b : Bool) → T (not a || b) → T a → T b
    asked true b t u = t
    asked false b t u = absurd u

-- each method of a limited program keeps them
pub limited-keeps : (ms : Program) → Limited ms → (n : ℕ) (m : Method) → method_at ms n ≡ some m → Keeps ms n m
unfolding method_kept
limited-keeps ms l n m e =
    let (parameters, t) = and_yes (leb (length m.parameters) 8) _ (all-method _ ms l.kept n m e) in
    let (slots, u) = and_yes (leb (length (slot_codes m)) 16) _ t in
    let (header, v) = and_yes (header_kept m) _ u in
    let (numbers, code) = and_yes (every is_number (all_numbers_in m.statements)) _ v in
    record {
      parameters = leb_yes parameters;
      slots = leb_yes slots;
      header = header-kept m header;
      numbers = numbers;
      code = subst (λ k. T (code_kept (program_table ms) k)) (number-of ms l.apart n m e) code;
    }

-- No name at fault

-- no place is the lowest where there is none
lowest-none : (is : List ℕ) → lowest is ≡ none → is ≡ []
unfolding lowest
lowest-none [] e = refl
lowest-none (i ∷ is) e = absurd (some-ne-none _ e)

-- there is a main where none is missed
main-there : (end : ℕ) (ms : Program) → main_fault end ms ≡ [] → T (any is_main ms)
unfolding main_fault
main-there end ms e = found (any is_main ms) e
  where
    found : (b : Bool) → cond b [] (end ∷ []) ≡ [] → T b
    found true q = tt
    found false q = cons≢nil q

-- no method has a fault of names where there is none
all_known : (qs ms : Program) → methods_faults qs ms ≡ [] → All (λ m. method_faults qs m ≡ []) ms
unfolding methods_faults
all_known qs [] e = tt
all_known qs (m ∷ ms) e = (
  append-nil-left (method_faults qs m) (methods_faults qs ms) e,
  all_known qs ms (append-nil-right (method_faults qs m) (methods_faults qs ms) e),
)

-- there is a main, no two methods have one name, and no method has a fault of names
names-kept : (bytes : ℕ) (ms : Program) → name_refusal bytes ms ≡ none
    → T (any is_main ms) × Apart ms × All (λ m. method_faults (main_first ms) m ≡ []) ms
unfolding name_refusal name_faults
names-kept bytes ms e =
    let uses = methods_faults (main_first ms) ms in
    let twice = twice_faults [] (method_names ms) in
    let all = lowest-none (name_faults bytes ms) e in
    let others = append-nil-right uses (twice ++ main_fault bytes ms) all in (
      main-there bytes ms (append-nil-right twice (main_fault bytes ms) others),
      names_apart ms (append-nil-left twice (main_fault bytes ms) others),
      all_known (main_first ms) ms (append-nil-left uses (twice ++ main_fault bytes ms) all),
    )

-- No limit passed

-- no place is given where no name is
place_none : (o : Option Name) → place_of o ≡ none → o ≡ none
place_none none e = refl
place_none (some x) e = absurd (some-ne-none _ e)

-- a step that goes on: its test is passed
goes_on : (b : Bool) (x : Name) (rest : Option Name) → cond b rest (some x) ≡ none → T b × (rest ≡ none)
goes_on true x rest e = (tt, e)
goes_on false x rest e = absurd (some-ne-none x e)

-- with so many methods and instructions before these: the sums keep their limits, and each method its own
limits-kept : (qs : Program) (before instructions : ℕ) (ms : Program) → before ≤ 32 → instructions ≤ 4096
    → first_over qs before instructions ms ≡ none
    → (before + length ms ≤ 32) × (instructions + length (program_code qs ms) ≤ 4096) × All (λ m. T (method_kept qs m)) ms
unfolding first_over program_code
limits-kept qs before instructions [] f s e = (omega arith, omega arith, tt)
limits-kept qs before instructions (m ∷ ms) f s e =
    let total = instructions + length (method_code qs m) in
    let (t, r) = goes_on (leb (suc before) 32 && (leb total 4096 && method_kept qs m)) m.name
    (first_over qs (suc before) total ms) e in
    let (few, u) = and_yes (leb (suc before) 32) (leb total 4096 && method_kept qs m) t in
    let (short, kept) = and_yes (leb total 4096) (method_kept qs m) u in
    let (n, l, a) = limits-kept qs (suc before) total ms (leb_yes few) (leb_yes short) r in
    (omega arith, omega (arith, length-append (method_code qs m) (program_code qs ms)), (kept, a))

-- the methods of a text that is not refused
pub translated-limited : (bytes : ℕ) (ms : Program) → Translated bytes ms → Limited (main_first ms)
unfolding limit_refusal
translated-limited bytes ms t =
    let qs = main_first ms in
    let (main, apart, known) = names-kept bytes ms t.names in
    let (m, e, is) = main-first ms main in
    let (few, short, kept) = limits-kept qs 0 0 ms (omega arith) (omega arith) (place_none _ t.limits) in
    record {
      main = m;
      first = e;
      is-main = is;
      few = omega (arith, main_first-length ms);
      short = omega (arith, main_first-code qs ms);
      kept = all-main_first (λ m. T (method_kept qs m)) ms kept;
      apart = apart-main_first ms apart;
      known = all-main_first (λ m. method_faults qs m ≡ []) ms known;
    }
