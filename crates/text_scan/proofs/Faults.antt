-- The faults within methods that the events of a tree give are the tree's own.
use Prim.Native.Nat.{ℕ}
use mathlib.Core.Path.{◌≡◌, refl, sym, ap, ◌∙◌}
use mathlib.Core.Bool.{not}
use mathlib.Core.List.{List, [], ◌∷◌, ◌++◌, append_assoc}
use mathlib.Core.Option.{Option, none, some}
use Rattle.text.specs.Tree.{Name, Expr, Exprs, number, truth, variable, assignment, operation, method_call, measurement, reception, new_qubit, new_channel, new_end, no_more, also, Statement, Statements, skip, assign, invoke, measure, receive, fork, send, give, block, conditional, alternative, loop, done, next, Method, Program, Declared, declared_by, body_variables, count, method_of}
use Rattle.text.specs.Names.{unless, declared_among, use_fault, is_call, call_fault, is_invocation, invoke_fault, expr_faults, exprs_faults, twice_faults, extended, names_of, statement_faults, statements_faults, method_faults, methods_faults}
use Rattle.text_parse.specs.Tokens.{Token}
use Rattle.text_scan.specs.Events.{Event, closed, ended, expr_events, exprs_events, declared_events, statement_events, statements_events, method_events, program_events}
use Rattle.text_scan.specs.FaultsCode.{Entry, count_of, callable, invocable, Blocks, innermost, with_name, without_block, names_in, faults_of}
use Rattle.text_scan.proofs.Methods.{parameter_count}

-- the scope with names declared in a new block
extended-more : (xs ys zs : List Name) → extended xs ys ++ zs ≡ extended xs (ys ++ zs)
unfolding extended
extended-more [] ys zs = refl
extended-more (x ∷ xs) ys zs = extended-more xs (x ∷ ys) zs

-- two lists of faults, and the rest
then-faults : (es as' bs : List ℕ) {cs ds : List ℕ} → cs ≡ as' ++ ds → ds ≡ bs ++ es → cs ≡ (as' ++ bs) ++ es
then-faults es as' bs {cs} {ds} e f = e ∙ ap (λ fs. as' ++ fs) f ∙ sym (append_assoc as' bs es)

module _ (ms : Program) (all : List Entry)
    (agree : (x : Name) → count_of all x ≡ parameter_count (method_of ms x)) where
  call_same : (x : Name) (n : ℕ) → unless (callable n (count_of all x)) x ≡ call_fault ms x n
  unfolding call_fault callable
  call_same x n = ap (λ (o : Option ℕ). unless (callable n o) x) (agree x) ∙ by (method_of ms x)
    where
      by : (m : Option Method) → unless (callable n (parameter_count m)) x ≡ unless (is_call n m) x
      by none = refl
      by (some m) = refl

  invoke-same : (x : Name) (n : ℕ) → unless (invocable x n (count_of all x)) x ≡ invoke_fault ms x n
  unfolding invoke_fault invocable
  invoke-same x n = ap (λ (o : Option ℕ). unless (invocable x n o) x) (agree x) ∙ by (method_of ms x)
    where
      by : (m : Option Method) → unless (invocable x n (parameter_count m)) x ≡ unless (is_invocation x n m) x
      by none = refl
      by (some m) = refl

  mutual
    unfolding expr_faults expr_events faults_of

    faults-expr : (bs : Blocks) (e : Expr) (es : List Event)
        → faults_of all bs (expr_events e es) ≡ expr_faults ms (names_in bs) e ++ faults_of all bs es
    faults-expr bs (number n) es = refl
    faults-expr bs (truth b) es = refl
    faults-expr bs (variable x) es = refl
    faults-expr bs (assignment x e) es =
        then-faults (faults_of all bs es) (use_fault (names_in bs) x) (expr_faults ms (names_in bs) e) refl
        (faults-expr bs e es)
    faults-expr bs (operation o a b) es =
        then-faults (faults_of all bs es) (expr_faults ms (names_in bs) a) (expr_faults ms (names_in bs) b)
        (faults-expr bs a (expr_events b es))
        (faults-expr bs b es)
    faults-expr bs (method_call m as') es =
        then-faults (faults_of all bs es) (call_fault ms m (count as')) (exprs_faults ms (names_in bs) as')
        (ap (λ fs. fs ++ faults_of all bs (exprs_events as' es)) (call_same m (count as'))) (faults-exprs bs as' es)
    faults-expr bs (measurement q) es = refl
    faults-expr bs (reception e) es = faults-expr bs e es
    faults-expr bs new_qubit es = refl
    faults-expr bs (new_channel t) es = refl
    faults-expr bs (new_end t) es = refl

    faults-exprs : (bs : Blocks) (as' : Exprs) (es : List Event)
        → faults_of all bs (exprs_events as' es) ≡ exprs_faults ms (names_in bs) as' ++ faults_of all bs es
    faults-exprs bs no_more es = refl
    faults-exprs bs (also e as') es =
        then-faults (faults_of all bs es) (expr_faults ms (names_in bs) e) (exprs_faults ms (names_in bs) as')
        (faults-expr bs e (exprs_events as' es)) (faults-exprs bs as' es)

  faults-declared : (b : List Name) (bs : Blocks) (ds : List Declared) (es : List Event)
      → faults_of all (b ∷ bs) (declared_events ds es)
      ≡ twice_faults b (names_of ds) ++ faults_of all (extended (names_of ds) b ∷ bs) es
  unfolding declared_events faults_of twice_faults extended innermost with_name
  faults-declared b bs [] es = refl
  faults-declared b bs (d ∷ ds) es =
      then-faults (faults_of all (extended (names_of ds) (d.name ∷ b) ∷ bs) es)
      (unless (not (declared_among b d.name)) d.name) (twice_faults (d.name ∷ b) (names_of ds)) refl
      (faults-declared (d.name ∷ b) bs ds es)

  -- the statements of a block that declares these names, where the others are in scope
  abbrev Scope : Blocks → List Name → List Name → Type 0
  Scope bs xs scope = names_in (extended xs [] ∷ bs) ≡ extended xs scope

  scope-in : (bs : Blocks) (xs : List Name) → Scope bs xs (names_in bs)
  unfolding names_in
  scope-in bs xs = extended-more xs [] (names_in bs)

  mutual
    unfolding statement_faults statement_events faults_of without_block

    faults-statement : (b : List Name) (bs : Blocks) (s : Statement) (es : List Event)
        → faults_of all (b ∷ bs) (statement_events s es)
        ≡ statement_faults ms (names_in (b ∷ bs)) s ++ faults_of all (b ∷ bs) es
    faults-statement b bs skip es = refl
    faults-statement b bs (assign x e) es =
        then-faults (faults_of all (b ∷ bs) es) (use_fault (names_in (b ∷ bs)) x) (expr_faults ms (names_in (b ∷ bs)) e) refl
        (faults-expr (b ∷ bs) e es)
    faults-statement b bs (invoke x as') es =
        then-faults (faults_of all (b ∷ bs) es) (invoke_fault ms x (count as')) (exprs_faults ms (names_in (b ∷ bs)) as')
        (ap (λ fs. fs ++ faults_of all (b ∷ bs) (exprs_events as' es)) (invoke-same x (count as')))
        (faults-exprs (b ∷ bs) as' es)
    faults-statement b bs (measure q) es = refl
    faults-statement b bs (receive e) es = faults-expr (b ∷ bs) e es
    faults-statement b bs (fork m as') es =
        then-faults (faults_of all (b ∷ bs) es) (call_fault ms m (count as')) (exprs_faults ms (names_in (b ∷ bs)) as')
        (ap (λ fs. fs ++ faults_of all (b ∷ bs) (exprs_events as' es)) (call_same m (count as')))
        (faults-exprs (b ∷ bs) as' es)
    faults-statement b bs (send e v) es =
        then-faults (faults_of all (b ∷ bs) es) (expr_faults ms (names_in (b ∷ bs)) e) (expr_faults ms (names_in (b ∷ bs)) v)
        (faults-expr (b ∷ bs) e (expr_events v es)) (faults-expr (b ∷ bs) v es)
    faults-statement b bs (give e) es = faults-expr (b ∷ bs) e es
    faults-statement b bs (block ds ss) es =
        let xs = names_of (declared_by ds) in
        then-faults (faults_of all (b ∷ bs) es) (twice_faults [] xs)
        (statements_faults ms (extended xs (names_in (b ∷ bs))) ss)
        (faults-declared [] (b ∷ bs) (declared_by ds) (statements_events ss (closed ∷ es)))
        (faults-statements (extended xs []) (b ∷ bs) ss (closed ∷ es)
        ∙ ap (λ ys. statements_faults ms ys ss ++ faults_of all (b ∷ bs) es) (scope-in (b ∷ bs) xs))
    faults-statement b bs (conditional e s) es =
        then-faults (faults_of all (b ∷ bs) es) (expr_faults ms (names_in (b ∷ bs)) e)
        (statement_faults ms (names_in (b ∷ bs)) s)
        (faults-expr (b ∷ bs) e (statement_events s es)) (faults-statement b bs s es)
    faults-statement b bs (alternative e s t) es =
        then-faults (faults_of all (b ∷ bs) es) (expr_faults ms (names_in (b ∷ bs)) e)
        (statement_faults ms (names_in (b ∷ bs)) s ++ statement_faults ms (names_in (b ∷ bs)) t)
        (faults-expr (b ∷ bs) e (statement_events s (statement_events t es)))
        (then-faults (faults_of all (b ∷ bs) es) (statement_faults ms (names_in (b ∷ bs)) s)
        (statement_faults ms (names_in (b ∷ bs)) t)
        (faults-statement b bs s (statement_events t es)) (faults-statement b bs t es))
    faults-statement b bs (loop e s) es =
        then-faults (faults_of all (b ∷ bs) es) (expr_faults ms (names_in (b ∷ bs)) e)
        (statement_faults ms (names_in (b ∷ bs)) s)
        (faults-expr (b ∷ bs) e (statement_events s es)) (faults-statement b bs s es)

    faults-statements : (b : List Name) (bs : Blocks) (ss : Statements) (es : List Event)
        → faults_of all (b ∷ bs) (statements_events ss es)
        ≡ statements_faults ms (names_in (b ∷ bs)) ss ++ faults_of all (b ∷ bs) es
    faults-statements b bs done es = refl
    faults-statements b bs (next s ss) es =
        then-faults (faults_of all (b ∷ bs) es) (statement_faults ms (names_in (b ∷ bs)) s)
        (statements_faults ms (names_in (b ∷ bs)) ss)
        (faults-statement b bs s (statements_events ss es)) (faults-statements b bs ss es)

  faults-method : (bs : Blocks) (m : Method) (us : List Token) (es : List Event)
      → faults_of all bs (method_events m us es) ≡ method_faults ms m ++ faults_of all ([] ∷ []) es
  unfolding method_events method_faults faults_of without_block names_in
  faults-method bs m us es =
      let xs = names_of (body_variables m) in
      then-faults (faults_of all ([] ∷ []) es) (twice_faults [] xs)
      (statements_faults ms (extended xs []) m.statements)
      (faults-declared [] [] (body_variables m) (statements_events m.statements (ended us ∷ es)))
      (faults-statements (extended xs []) [] m.statements (ended us ∷ es)
      ∙ ap (λ ys. statements_faults ms ys m.statements ++ faults_of all ([] ∷ []) es) (scope-in [] xs))

  pub faults-methods : (bs : Blocks) (ns : Program) (uss : List (List Token))
      → faults_of all bs (program_events ns uss) ≡ methods_faults ms ns
  unfolding program_events methods_faults faults_of
  faults-methods bs [] uss = refl
  faults-methods bs (n ∷ ns) [] =
      faults-method bs n [] (program_events ns []) ∙ ap (λ fs. method_faults ms n ++ fs) (faults-methods ([] ∷ []) ns [])
  faults-methods bs (n ∷ ns) (us ∷ uss) =
      faults-method bs n us (program_events ns uss)
      ∙ ap (λ fs. method_faults ms n ++ fs) (faults-methods ([] ∷ []) ns uss)
