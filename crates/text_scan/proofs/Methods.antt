-- The methods that the events of a text name are those of its tree, in text order; and the first method of a name is
-- the same in text order and main first.
use Prim.Native.Nat.{ℕ, suc}
use mathlib.Core.Path.{◌≡◌, refl, sym, ap, ◌∙◌, subst}
use mathlib.Core.Bool.{Bool, true, false, cond, ◌||◌}
use mathlib.Core.List.{List, [], ◌∷◌, ◌++◌, map}
use mathlib.Core.Option.{Option, none, some}
use lib.Dec.{T, eqb}
use borrow.Author.Tests.{eq-eqb}
use lib.ListN.{length}
use Rattle.lists.specs.Lists.{same, any}
use Rattle.lists.proofs.Laws.{same-equal}
use Rattle.lists.proofs.Tests.{passes, clash, and_both}
use Rattle.text.specs.Tree.{ascii, Name, spells, Expr, Exprs, number, truth, variable, assignment, operation, method_call, measurement, reception, new_qubit, new_channel, new_end, no_more, also, Statement, Statements, skip, assign, invoke, measure, receive, fork, send, give, block, conditional, alternative, loop, done, next, Method, Program, Declared, declared_by, body_variables, index_of, method_name, is_main, method_at, number_of, method_of, without_main, mains, main_first}
use Rattle.text_parse.specs.Tokens.{Token}
use Rattle.text_scan.specs.Events.{Event, closed, ended, expr_events, exprs_events, declared_events, statement_events, statements_events, method_events, program_events}
use Rattle.text_scan.specs.FaultsCode.{Entry, each_method, entry, entries_of, count_of, index_in, names_main}

abbrev pub entry_of : Method → Entry
entry_of m = record { name = m.name; count = length m.parameters }

module _ {A : Type 0} (f : List Token → Name → ℕ → A) where
  mutual
    unfolding expr_events each_method

    methods-expr : (hs : List Token) (e : Expr) (es : List Event)
        → each_method f hs (expr_events e es) ≡ each_method f hs es
    methods-expr hs (number n) es = refl
    methods-expr hs (truth b) es = refl
    methods-expr hs (variable x) es = refl
    methods-expr hs (assignment x e) es = methods-expr hs e es
    methods-expr hs (operation o a b) es = methods-expr hs a (expr_events b es) ∙ methods-expr hs b es
    methods-expr hs (method_call m as') es = methods-exprs hs as' es
    methods-expr hs (measurement q) es = refl
    methods-expr hs (reception e) es = methods-expr hs e es
    methods-expr hs new_qubit es = refl
    methods-expr hs (new_channel t) es = refl
    methods-expr hs (new_end t) es = refl

    methods-exprs : (hs : List Token) (as' : Exprs) (es : List Event)
        → each_method f hs (exprs_events as' es) ≡ each_method f hs es
    methods-exprs hs no_more es = refl
    methods-exprs hs (also e as') es = methods-expr hs e (exprs_events as' es) ∙ methods-exprs hs as' es

  methods-declared : (hs : List Token) (ds : List Declared) (es : List Event)
      → each_method f hs (declared_events ds es) ≡ each_method f hs es
  unfolding declared_events each_method
  methods-declared hs [] es = refl
  methods-declared hs (d ∷ ds) es = methods-declared hs ds es

  mutual
    unfolding statement_events each_method

    methods-statement : (hs : List Token) (s : Statement) (es : List Event)
        → each_method f hs (statement_events s es) ≡ each_method f hs es
    methods-statement hs skip es = refl
    methods-statement hs (assign x e) es = methods-expr hs e es
    methods-statement hs (invoke x as') es = methods-exprs hs as' es
    methods-statement hs (measure q) es = refl
    methods-statement hs (receive e) es = methods-expr hs e es
    methods-statement hs (fork m as') es = methods-exprs hs as' es
    methods-statement hs (send e v) es = methods-expr hs e (expr_events v es) ∙ methods-expr hs v es
    methods-statement hs (give e) es = methods-expr hs e es
    methods-statement hs (block ds ss) es =
        methods-declared hs (declared_by ds) (statements_events ss (closed ∷ es))
        ∙ methods-statements hs ss (closed ∷ es)
    methods-statement hs (conditional e s) es = methods-expr hs e (statement_events s es) ∙ methods-statement hs s es
    methods-statement hs (alternative e s t) es =
        methods-expr hs e (statement_events s (statement_events t es))
        ∙ methods-statement hs s (statement_events t es) ∙ methods-statement hs t es
    methods-statement hs (loop e s) es = methods-expr hs e (statement_events s es) ∙ methods-statement hs s es

    methods-statements : (hs : List Token) (ss : Statements) (es : List Event)
        → each_method f hs (statements_events ss es) ≡ each_method f hs es
    methods-statements hs done es = refl
    methods-statements hs (next s ss) es =
        methods-statement hs s (statements_events ss es) ∙ methods-statements hs ss es

  pub each-method : (hs : List Token) (m : Method) (us : List Token) (es : List Event)
      → each_method f hs (method_events m us es) ≡ f hs m.name (length m.parameters) ∷ each_method f us es
  unfolding method_events each_method
  each-method hs m us es =
      ap (λ fs. f hs m.name (length m.parameters) ∷ fs)
      (methods-declared hs (body_variables m) (statements_events m.statements (ended us ∷ es))
      ∙ methods-statements hs m.statements (ended us ∷ es))

entries_from : (hs : List Token) (ms : Program) (uss : List (List Token))
    → each_method entry hs (program_events ms uss) ≡ map entry_of ms
unfolding program_events each_method
entries_from hs [] uss = refl
entries_from hs (m ∷ ms) [] =
    each-method entry hs m [] (program_events ms []) ∙ ap (λ es. entry_of m ∷ es) (entries_from [] ms [])
entries_from hs (m ∷ ms) (us ∷ uss) =
    each-method entry hs m us (program_events ms uss) ∙ ap (λ es. entry_of m ∷ es) (entries_from us ms uss)

pub entries-program : (ms : Program) (uss : List (List Token)) → entries_of (program_events ms uss) ≡ map entry_of ms
unfolding entries_of
entries-program ms uss = entries_from [] ms uss

-- The first method of a name

unfoldable pub first_named : Name → Program → Option Method
first_named x [] = none
first_named x (m ∷ ms) = cond (spells x m.name) (some m) (first_named x ms)

named-first : (ms : Program) (x : Name) → method_of ms x ≡ first_named x ms
unfolding method_of number_of method_at index_of first_named
named-first [] x = refl
named-first (m ∷ ms) x = by (spells x m.name) (named-first ms x)
  where
    by : (b : Bool) → method_at ms (index_of x (map method_name ms)) ≡ first_named x ms
        → method_at (m ∷ ms) (cond b 0 (suc (index_of x (map method_name ms)))) ≡ cond b (some m) (first_named x ms)
    by true later = refl
    by false later = later

same_self : (xs : List ℕ) → T (same xs xs)
same_self [] = tt
same_self (x ∷ xs) = and_both (eqb x x) (same xs xs) (passes (eq-eqb x x refl)) (same_self xs)

pub same-comm : (xs ys : List ℕ) → same xs ys ≡ same ys xs
same-comm xs ys = by (same xs ys) (same ys xs) refl refl
  where
    by : (a b : Bool) → same xs ys ≡ a → same ys xs ≡ b → a ≡ b
    by true true e f = refl
    by true false e f =
        absurd (clash f (subst (λ zs. T (same zs xs)) (same-equal xs ys (passes e)) (same_self xs)))
    by false true e f =
        absurd (clash e (subst (λ zs. T (same zs ys)) (same-equal ys xs (passes f)) (same_self ys)))
    by false false e f = refl

module _ (x : Name) where
  -- a method that has another name does not count
  skipped : (ks ms : Program) (m : Method) → spells x m.name ≡ false
      → first_named x (ks ++ (m ∷ ms)) ≡ first_named x (ks ++ ms)
  unfolding first_named
  skipped [] ms m f = rw f
  skipped (k ∷ ks) ms m f = ap (cond (spells x k.name) (some k)) (skipped ks ms m f)

  -- x is main: methods that it spells are those called main
  module _ (e : same x.spelling (ascii "main") ≡ true) where
    pub spelled : (m : Method) → spells x m.name ≡ is_main m
    unfolding is_main
    spelled m =
        ap (λ (bs : List ℕ). same bs m.name.spelling) (same-equal x.spelling (ascii "main") (passes e))
        ∙ same-comm (ascii "main") m.name.spelling

    main-named : (ms : Program) → first_named x (mains ms ++ without_main ms) ≡ first_named x ms
    unfolding mains without_main first_named
    main-named [] = refl
    main-named (m ∷ ms) = by (is_main m) refl (main-named ms)
      where
        by : (b : Bool) → is_main m ≡ b → first_named x (mains ms ++ without_main ms) ≡ first_named x ms
            → first_named x (cond b (m ∷ mains ms) (mains ms) ++ cond b (without_main ms) (m ∷ without_main ms))
            ≡ cond (spells x m.name) (some m) (first_named x ms)
        by true q later = rw (spelled m ∙ q)
        by false q later =
            skipped (mains ms) (without_main ms) m (spelled m ∙ q) ∙ later
            ∙ sym (ap (λ (c : Bool). cond c (some m) (first_named x ms)) (spelled m ∙ q))

  -- x is not main: no method called main is spelled by it
  module _ (f : same x.spelling (ascii "main") ≡ false) where
    pub unspelled : (m : Method) → is_main m ≡ true → spells x m.name ≡ false
    unfolding is_main
    unspelled m q =
        ap (same x.spelling) (same-equal m.name.spelling (ascii "main") (passes q)) ∙ f

    past-mains : (ms ks : Program) → first_named x (mains ms ++ ks) ≡ first_named x ks
    unfolding mains first_named
    past-mains [] ks = refl
    past-mains (m ∷ ms) ks = by (is_main m) refl (past-mains ms ks)
      where
        by : (b : Bool) → is_main m ≡ b → first_named x (mains ms ++ ks) ≡ first_named x ks
            → first_named x (cond b (m ∷ mains ms) (mains ms) ++ ks) ≡ first_named x ks
        by true q later = rw (unspelled m q) later
        by false q later = later

    others-named : (ms : Program) → first_named x (without_main ms) ≡ first_named x ms
    unfolding without_main first_named
    others-named [] = refl
    others-named (m ∷ ms) = by (is_main m) refl (others-named ms)
      where
        by : (b : Bool) → is_main m ≡ b → first_named x (without_main ms) ≡ first_named x ms
            → first_named x (cond b (without_main ms) (m ∷ without_main ms))
            ≡ cond (spells x m.name) (some m) (first_named x ms)
        by true q later =
            later ∙ sym (ap (λ (c : Bool). cond c (some m) (first_named x ms)) (unspelled m q))
        by false q later = ap (cond (spells x m.name) (some m)) later

pub first_of : (ms : Program) (x : Name) → method_of (main_first ms) x ≡ first_named x ms
unfolding main_first
first_of ms x = named-first (main_first ms) x ∙ by (same x.spelling (ascii "main")) refl
  where
    by : (b : Bool) → same x.spelling (ascii "main") ≡ b
        → first_named x (mains ms ++ without_main ms) ≡ first_named x ms
    by true e = main-named x e ms
    by false f = past-mains x f ms (without_main ms) ∙ others-named x f ms

-- how many parameters it has
abbrev pub parameter_count : Option Method → Option ℕ
parameter_count none = none
parameter_count (some m) = some (length m.parameters)

counts-named : (ms : Program) (x : Name) → count_of (map entry_of ms) x ≡ parameter_count (first_named x ms)
unfolding count_of first_named
counts-named [] x = refl
counts-named (m ∷ ms) x = by (spells x m.name) (counts-named ms x)
  where
    by : (b : Bool) → count_of (map entry_of ms) x ≡ parameter_count (first_named x ms)
        → cond b (some (length m.parameters)) (count_of (map entry_of ms) x)
        ≡ parameter_count (cond b (some m) (first_named x ms))
    by true later = refl
    by false later = later

pub count-first : (ms : Program) (x : Name) → count_of (map entry_of ms) x ≡ parameter_count (method_of (main_first ms) x)
count-first ms x = counts-named ms x ∙ ap parameter_count (sym (first_of ms x))

-- its place in text order
pub index-first : (ms : Program) (x : Name) → index_in (map entry_of ms) x ≡ number_of ms x
unfolding index_in number_of index_of
index-first [] x = refl
index-first (m ∷ ms) x = ap (λ (n : ℕ). cond (spells x m.name) 0 (suc n)) (index-first ms x)

pub mains-named : (ms : Program) → any names_main (map entry_of ms) ≡ any is_main ms
unfolding is_main
mains-named [] = refl
mains-named (m ∷ ms) = ap (◌||◌ (is_main m)) (mains-named ms)
