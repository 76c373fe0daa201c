-- In a text without a fault of names every method that is called is there, and its name stands at its place.
use Prim.Native.Nat.{ℕ}
use mathlib.Core.Path.{◌≡◌, refl, subst, ◌∙◌}
use mathlib.Core.Bool.{not}
use mathlib.Core.List.{List, [], ◌∷◌, ◌++◌}
use mathlib.Core.Option.{Option, none, some, some-ne-none}
use lib.ListN.{length}
use lib.Dec.{T}
use Rattle.lists.specs.Lists.{All}
use Rattle.lists.proofs.Laws.{append-nil-right}
use Rattle.text.specs.Tree.{Name, Method, Program, main_first, method_of, method_at}
use Rattle.text.specs.Names.{unless, declared_among, use_fault, twice_faults, method_names, methods_faults, main_fault, name_faults, lowest, name_refusal}
use Rattle.text.proofs.Apart.{Apart, append-nil-left, unless-nil, names_apart}
use Rattle.text_parse.specs.Tokens.{Token, tokens_of}
use Rattle.text_parse.specs.Grammar.{read, program_of}
use Rattle.text_scan.specs.Events.{Event, method_named, declared, used, called, invoked, opened, closed, ended}
use Rattle.text_scan.specs.ScanCode.{events_from}
use Rattle.text_scan.specs.FaultsCode.{Entry, Blocks, count_of, callable, invocable, entries_of, innermost, with_name, without_block, names_in, faults_of, method_faults_of, main_fault_of, faults_from}
use Rattle.text_scan.proofs.Methods.{parameter_count}
use Rattle.text_scan.proofs.EventsText.{text-events}
use Rattle.text_scan.proofs.SameFaults.{text-faults, text-count}
use Rattle.text_numbering.specs.CodeBy.{place_of}
use Rattle.text_code.specs.StatementBy.{method_by}
use Rattle.text_judged.specs.JudgedCode.{Spelt, There}
use Rattle.text_judged.proofs.Spelling.{Calling, events-of, text-spelt}
use Rattle.text_judged.proofs.Alike.{AllAlike, program-alike}

-- no fault is found

lowest-none : (is : List ℕ) → lowest is ≡ none → is ≡ []
unfolding lowest
lowest-none [] e = refl
lowest-none (i ∷ is) e = absurd (some-ne-none _ e)

pub no-faults : (bytes : ℕ) (ms : Program) → name_refusal bytes ms ≡ none → name_faults bytes ms ≡ []
unfolding name_refusal
no-faults bytes ms e = lowest-none (name_faults bytes ms) e

pub text-apart : (bytes : ℕ) (ms : Program) → name_refusal bytes ms ≡ none → Apart ms
unfolding name_faults
text-apart bytes ms e =
    let uses = methods_faults (main_first ms) ms in
    let twice = twice_faults [] (method_names ms) in
    names_apart ms (append-nil-left twice (main_fault bytes ms)
    (append-nil-right uses (twice ++ main_fault bytes ms) (no-faults bytes ms e)))

-- a call that is no fault
abbrev Callable : List Entry → Event → Type 0
Callable all (method_named x n) = Unit {0}
Callable all (declared x) = Unit {0}
Callable all (used x) = Unit {0}
Callable all (called x n) = T (callable n (count_of all x))
Callable all (invoked x n) = Unit {0}
Callable all opened = Unit {0}
Callable all closed = Unit {0}
Callable all (ended ts) = Unit {0}

all-callable : (all : List Entry) (bs : Blocks) (es : List Event) → faults_of all bs es ≡ [] → All (Callable all) es
unfolding faults_of
all-callable all bs [] e = tt
all-callable all bs (method_named x n ∷ es) e = (tt, all-callable all ([] ∷ []) es e)
all-callable all bs (declared x ∷ es) e = (
  tt,
  all-callable all (with_name x bs) es
      (append-nil-right (unless (not (declared_among (innermost bs) x)) x) (faults_of all (with_name x bs) es) e),
)
all-callable all bs (used x ∷ es) e =
    (tt, all-callable all bs es (append-nil-right (use_fault (names_in bs) x) (faults_of all bs es) e))
all-callable all bs (called x n ∷ es) e =
    let ok = callable n (count_of all x) in (
      unless-nil ok x (append-nil-left (unless ok x) (faults_of all bs es) e),
      all-callable all bs es (append-nil-right (unless ok x) (faults_of all bs es) e),
    )
all-callable all bs (invoked x n ∷ es) e =
    (tt, all-callable all bs es (append-nil-right (unless (invocable x n (count_of all x)) x) (faults_of all bs es) e))
all-callable all bs (opened ∷ es) e = (tt, all-callable all ([] ∷ bs) es e)
all-callable all bs (closed ∷ es) e = (tt, all-callable all (without_block bs) es e)
all-callable all bs (ended ts ∷ es) e = (tt, all-callable all (without_block bs) es e)

all_both : {A : Type 0} (P Q : A → Type 0) (xs : List A) → All P xs → All Q xs → All (λ x. P x × Q x) xs
all_both P Q [] p q = tt
all_both P Q (x ∷ xs) p q = ((p.0, q.0), all_both P Q xs p.1 q.1)

is-there : (ms : Program) (x : Name) (n : ℕ) (o : Option Method) → method_of ms x ≡ o
    → T (callable n (parameter_count o)) → There ms x
unfolding callable
is-there ms x n none e t = absurd t
is-there ms x n (some m) e t = record { method = m; found = e }

-- what is known of a called name
abbrev pub Callee : List ℕ → Program → Name → Type 0
Callee text ms x = Spelt text x × There ms x

-- The code of the text's k-th method, with the methods given by the places of the called names and in any other way.
module _ (text : List ℕ) (ns : Program) (us : List Token) (e : program_of (tokens_of text) ≡ read ns us)
    (f : name_refusal (length text) ns ≡ none) where
  abbrev ms : Program
  ms = main_first ns

  abbrev events : List Event
  events = events_from 0 0 (tokens_of text)

  abbrev Known : Event → Type 0
  Known v = Calling (Spelt text) v × Callable (entries_of events) v

  all_known : All Known events
  unfolding faults_from
  all_known =
      let entries = entries_of events in
      all_both (Calling (Spelt text)) (Callable entries) events
      (events-of (Spelt text) 0 0 (tokens_of text) (text-spelt text))
      (all-callable entries ([] ∷ []) events
      (append-nil-left (faults_of entries ([] ∷ []) events)
      (method_faults_of entries 0 entries ++ main_fault_of (length text) entries)
      (text-faults text (length text) ns us e ∙ no-faults (length text) ns f)))

  by_call : (x : Name) (n : ℕ) → Known (called x n) → Callee text ms x
  by_call x n (s, c) =
      (s, is-there ms x n (method_of ms x) refl (subst (λ o. T (callable n o)) (text-count text ns us e x) c))

  by-invoke : (x : Name) (n : ℕ) (m : Method) → Known (invoked x n) → method_of ms x ≡ some m → Callee text ms x
  by-invoke x n m (s, c) q = (s, record { method = m; found = q })

  pub text-alike : (num : Name → ℕ) (k : ℕ) (m : Method) → method_at ns k ≡ some m
      → AllAlike (Callee text ms) place_of num (method_by place_of ms m) (method_by num ms m)
  text-alike num k m q =
      let t = text-events text ns us e in
      program-alike (Callee text ms) place_of num ms Known by_call by-invoke ns t.ends
      (subst (All Known) t.events all_known) k m q
