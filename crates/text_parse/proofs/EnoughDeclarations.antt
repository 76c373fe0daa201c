-- Readings of declarations and of statements that hold no other, with enough.
use Prim.Native.Nat.{ℕ, zero, suc}
use native.Mathlib.Omega.{arith}
use mathlib.Core.Path.{◌≡◌, refl, sym, ◌∙◌}
use mathlib.Core.List.{List, [], ◌∷◌, ◌++◌}
use Rattle.text.specs.Tree.{Name, NonVoidType, plain, channel_type, end_type, Declaration}
use Rattle.text_parse.specs.Tokens.{Token}
use Rattle.text_parse.specs.Grammar.{rest, Scopes, more_names, declaration_of, declaration, starts_type, declarations, named_statement, fork_statement, send_statement, recv_statement, simple, condition, enough}
use Rattle.text_parse.specs.Equations.{more_names_from, declaration_from, declarations_from, more_names_rule, variables_rule, declaration_rule, declarations_rule, named_statement_rule, fork_rule, send_rule, recv_rule, simple_rule, condition_rule}
use Rattle.text_parse.proofs.Same.{cond_same, and_then-same, next-same, expect-same, expect_name-same}
use Rattle.text_parse.proofs.Progress.{progress}
use Rattle.text_parse.proofs.EnoughExpr.{Room, enough-room, expr-first, arguments-from}

-- Declarations

more_names-stable : (n : ℕ) (t : NonVoidType) (xs : List Name) (ts : List Token) → Room 1 ts n
    → ((k : ℕ) → Room 1 ts k → more_names k t xs ts ≡ more_names_rule t xs ts)
    → more_names n t xs ts ≡ more_names_from t xs ts
unfolding more_names_from
more_names-stable n t xs ts m rule = rule n m ∙ sym (rule (enough ts) (omega (arith, enough-room ts)))

pub more_names-rule : (b : ℕ) (t : NonVoidType) (xs : List Name) (ts : List Token) → Room 1 ts b → (n : ℕ) → Room 1 ts n
    → more_names n t xs ts ≡ more_names_rule t xs ts
unfolding more_names more_names_rule
more_names-rule zero t xs ts l n m = absurd (omega arith)
more_names-rule (suc b) t xs ts l zero m = absurd (omega arith)
more_names-rule (suc b) t xs ts l (suc n) m =
    next-same "," ts tt
    (λ f. expect_name-same (rest ts) (λ x us g.
    more_names-stable n t (xs ++ (x ∷ [])) us (omega arith)
    (λ k r. more_names-rule b t (xs ++ (x ∷ [])) us (omega arith) k r)))
    refl

more_names-from : (n : ℕ) (t : NonVoidType) (xs : List Name) (ts : List Token) → Room 1 ts n
    → more_names n t xs ts ≡ more_names_from t xs ts
more_names-from n t xs ts m = more_names-stable n t xs ts m (more_names-rule n t xs ts m)

variables-rule : (n : ℕ) (t : NonVoidType) (x : Name) (ts : List Token) → Room 1 ts n
    → declaration_of n t x ts ≡ variables_rule t x ts
unfolding declaration_of variables_rule
variables-rule n (plain t) x ts m = more_names-from n (plain t) (x ∷ []) ts m
variables-rule n (channel_type t) x ts m =
    next-same "withends" ts tt (λ f. refl) (more_names-from n (channel_type t) (x ∷ []) ts m)
variables-rule n (end_type t) x ts m = more_names-from n (end_type t) (x ∷ []) ts m

pub declaration-rule : (n : ℕ) (ts : List Token) → Room 0 ts n → declaration n ts ≡ declaration_rule ts
unfolding declaration declaration_rule
declaration-rule n ts m =
    and_then-same refl (progress.non_void_type-on ts) (λ t us o. expect_name-same us (λ x vs f.
    variables-rule n t x vs (omega arith)))

pub declaration-from : (n : ℕ) (ts : List Token) → Room 0 ts n → declaration n ts ≡ declaration_from ts
unfolding declaration_from
declaration-from n ts m =
    declaration-rule n ts m ∙ sym (declaration-rule (enough ts) ts (omega (arith, enough-room ts)))

declarations-stable : (n : ℕ) (ds : List Declaration) (ts : List Token) → Room 1 ts n
    → ((k : ℕ) → Room 1 ts k → declarations k ds ts ≡ declarations_rule ds ts)
    → declarations n ds ts ≡ declarations_from ds ts
unfolding declarations_from
declarations-stable n ds ts m rule = rule n m ∙ sym (rule (enough ts) (omega (arith, enough-room ts)))

pub declarations-rule : (b : ℕ) (ds : List Declaration) (ts : List Token) → Room 1 ts b → (n : ℕ) → Room 1 ts n
    → declarations n ds ts ≡ declarations_rule ds ts
unfolding declarations declarations_rule
declarations-rule zero ds ts l n m = absurd (omega arith)
declarations-rule (suc b) ds ts l zero m = absurd (omega arith)
declarations-rule (suc b) ds ts l (suc n) m =
    cond_same (starts_type ts)
    (λ e. and_then-same (declaration-from n ts (omega arith)) (progress.declaration-on n ts) (λ d us o.
    declarations-stable n (ds ++ (d ∷ [])) us (omega arith)
    (λ k r. declarations-rule b (ds ++ (d ∷ [])) us (omega arith) k r)))
    (λ e. refl)

pub declarations-from : (n : ℕ) (ds : List Declaration) (ts : List Token) → Room 1 ts n
    → declarations n ds ts ≡ declarations_from ds ts
declarations-from n ds ts m = declarations-stable n ds ts m (declarations-rule n ds ts m)

-- Statements that hold no other

named_statement-rule : (n : ℕ) (scopes : Scopes) (x : Name) (ts : List Token) → Room 0 ts n
    → named_statement n scopes x ts ≡ named_statement_rule scopes x ts
unfolding named_statement named_statement_rule
named_statement-rule n scopes x ts m =
    next-same "=" ts tt (λ f. expr-first n scopes (rest ts) (omega arith) (λ e us o. refl))
    (next-same "(" ts tt
    (λ f. and_then-same (arguments-from n scopes (rest ts) (omega arith)) (progress.arguments-on n scopes (rest ts))
    (λ es us o. refl))
    refl)

fork-rule : (n : ℕ) (scopes : Scopes) (ts : List Token) → Room 0 ts n → fork_statement n scopes ts ≡ fork_rule scopes ts
unfolding fork_statement fork_rule
fork-rule n scopes ts m =
    expect_name-same ts (λ x us f. expect-same "(" us tt (λ vs g.
    and_then-same (arguments-from n scopes vs (omega arith)) (progress.arguments-on n scopes vs) (λ es ws o. refl)))

send-rule : (n : ℕ) (scopes : Scopes) (ts : List Token) → Room 0 ts n → send_statement n scopes ts ≡ send_rule scopes ts
unfolding send_statement send_rule
send-rule n scopes ts m =
    expect-same "(" ts tt (λ us f. expr-first n scopes us (omega arith) (λ e vs o. expect-same "," vs tt (λ ws g.
    expr-first n scopes ws (omega arith) (λ v xs o. refl))))

recv-rule : (n : ℕ) (scopes : Scopes) (ts : List Token) → Room 0 ts n → recv_statement n scopes ts ≡ recv_rule scopes ts
unfolding recv_statement recv_rule
recv-rule n scopes ts m =
    expect-same "(" ts tt (λ us f. expr-first n scopes us (omega arith) (λ e vs o. refl))

pub simple-rule : (n : ℕ) (scopes : Scopes) (ts : List Token) → Room 0 ts n → simple n scopes ts ≡ simple_rule scopes ts
unfolding simple simple_rule
simple-rule n scopes ts m =
    next-same ";" ts tt (λ f. refl)
    (next-same "measure" ts tt (λ f. refl)
    (next-same "fork" ts tt (λ f. fork-rule n scopes (rest ts) (omega arith))
    (next-same "send" ts tt (λ f. send-rule n scopes (rest ts) (omega arith))
    (next-same "recv" ts tt (λ f. recv-rule n scopes (rest ts) (omega arith))
    (next-same "return" ts tt (λ f. expr-first n scopes (rest ts) (omega arith) (λ e us o. refl))
    (expect_name-same ts (λ x us f. named_statement-rule n scopes x us (omega arith))))))))

pub condition-rule : (n : ℕ) (scopes : Scopes) (ts : List Token) → Room 0 ts n
    → condition n scopes ts ≡ condition_rule scopes ts
unfolding condition condition_rule
condition-rule n scopes ts m =
    expect-same "(" ts tt (λ us f. expr-first n scopes us (omega arith) (λ e vs o. refl))
