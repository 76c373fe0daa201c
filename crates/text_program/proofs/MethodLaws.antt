-- A method by places.
use Prim.Native.Nat.{ℕ, suc}
use native.Mathlib.Omega.{arith}
use mathlib.Core.Path.{◌≡◌, refl, sym, ap, ◌∙◌, subst}
use mathlib.Core.Logic.{⊎_elim}
use mathlib.Core.Bool.{Bool, true, false, cond}
use mathlib.Core.List.{List, [], ◌∷◌, ◌++◌, map}
use mathlib.Core.Option.{Option}
use borrow.Author.Tests.{eq-eqb}
use lib.ListN.{get_or}
use Rattle.lists.proofs.Tests.{decide, clash, passes}
use Rattle.text.specs.Tree.{NonVoidType, Declaration, declared_by, Parameter, parameter_of, Method}
use Rattle.text_parse.specs.Tokens.{Token, is_name, name_of}
use Rattle.text_parse.specs.Grammar.{Reading, read, leaves, and_then, first, rest, next?, expect, expect_name, leaves_at, return_type}
use Rattle.text_parse.specs.Equations.{declarations_from, parameters_rule, statements_from, method_from, method_rule, method_body_rule}
use Rattle.text_parse.proofs.Equations.{grammar}
use Rattle.text_tokens.specs.Places.{tokens_at}
use Rattle.text_tokens.proofs.KindTests.{is_open, is-open-brace}
use Rattle.text_types.specs.SaysCode.{next_kind, Expected, reads, leaves-at, On}
use Rattle.text_types.proofs.Answers.{on-later, then-says, passed_ok, ok-found}
use Rattle.text_scopes.specs.OpenCode.{BodyAt, Opened, method-body}
use Rattle.text_statements.specs.WithinCode.{Reads, Within, DeclarationsEnd, Inside}
use Rattle.text_program.specs.MethodCode.{Header, header_of, HeaderEnd}
use Rattle.text_statements.proofs.Steps.{on-as, lower, mark-then, mark-last, name-then, reading-then, reading-last}
use Rattle.text_statements.proofs.Blocks.{read_as}

module _ (text : List ℕ) where
  pub header-says : (i : ℕ) {q1 q2 ok : Bool} {p1 p2 at : ℕ} → Reads text (suc i) q1 p1 (return_type (tokens_at text i))
      → On q1 p1 q2 p2 (Expected text p1 33 q2 p2) → On q2 p2 ok at (Expected text p2 19 ok at)
      → HeaderEnd text i ok at
  unfolding header_of
  header-says i {q1} {q2} {ok} {p1} {p2} {at} s1 s2 s3 =
      reading-then text ok at (suc i) _ s1
      (on-later s2 s3 (λ e w t. lower text ok at p1 (name-then text ok at p1 _ e
      (on-as s3 (λ e w. lower text ok at p2 (mark-last text ok at "(" p2 19
      (record { returns = t; name = name_of (first (tokens_at text p1)) }) (λ g. omega arith) is_open e))))))

-- the header apart from what comes after it
abbrev after_header : Header → List Token → Reading Method
after_header h ws = and_then (parameters_rule ws) (λ ps xs. method_body_rule h.returns h.name ps xs)

by-header : (ts : List Token) → method_rule ts ≡ and_then (header_of ts) after_header
unfolding method_rule header_of and_then expect expect_name leaves_at
by-header ts = typed (return_type ts)
  where
    bracket : (b : Bool) (h : Header) (ws : List Token) (i : ℕ)
        → cond b (after_header h ws) (leaves i) ≡ and_then (cond b (read h ws) (leaves i)) after_header
    bracket true h ws i = refl
    bracket false h ws i = refl

    named : (b c : Bool) (h : Header) (ws : List Token) (i j : ℕ)
        → cond b (cond c (after_header h ws) (leaves i)) (leaves j)
        ≡ and_then (cond b (cond c (read h ws) (leaves i)) (leaves j)) after_header
    named true c h ws i j = bracket c h ws i
    named false c h ws i j = refl

    typed : (m : Reading (Option NonVoidType))
        → and_then m (λ t us. expect_name us (λ x vs.
        expect "(" vs (λ ws. after_header (record { returns = t; name = x }) ws)))
        ≡ and_then (and_then m (λ t us. expect_name us (λ x vs.
        expect "(" vs (λ ws. read (record { returns = t; name = x }) ws)))) after_header
    typed (read t us) =
        named (is_name (first us)) (next? "(" (rest us)) (record { returns = t; name = name_of (first us) })
        (rest (rest us)) (first (rest us)).at (first us).at
    typed (leaves i) = refl

-- the answer before one that stands, stands
pub on-before : {before ok : Bool} {place at : ℕ} {S : Type 0} → On before place ok at S → ok ≡ true → before ≡ true
on-before {before} o t =
    ⊎_elim (λ e. e) (λ e. absurd (clash (o.off-ok e) (passes t))) (decide before)

-- the tree of a reading that stands
tree-read : (text : List ℕ) {A : Type 0} (low : ℕ) {ok : Bool} {at : ℕ} (m : Reading A) → Reads text low ok at m
    → ok ≡ true → (a : A) × (m ≡ read a (tokens_at text at))
tree-read text low (read a us) (reads o u h w p) t = (a, ap (read a) u)
tree-read text low (leaves i) (leaves-at o e) t = absurd (clash o (passes t))

module _ (text starts : List ℕ) where
  -- what is open in the body
  body_open : (p1 p2 p3 p4 : ℕ) (ps : List Parameter) (ds : List Declaration) {q : Bool} → get_or starts 0 0 ≡ p1
      → parameters_rule (tokens_at text p1) ≡ read ps (tokens_at text p2) → q ≡ true → Expected text p2 21 q p3
      → declarations_from [] (tokens_at text p3) ≡ read ds (tokens_at text p4)
      → Opened text starts 1 ((map parameter_of ps ++ declared_by ds) ∷ [])
  body_open p1 p2 p3 p4 ps ds f e t b d =
      let pass = passed_ok text p2 21 (λ g. omega arith) t b in
      let here = first (tokens_at text p2) in
      method-body (subst (λ (i : ℕ). BodyAt text i (map parameter_of ps ++ declared_by ds)) (sym f)
      (record {
        ps = ps;
        between = tokens_at text p2;
        list = ds;
        after = tokens_at text p4;
        header = e;
        brace = is-open-brace here ∙ eq-eqb (next_kind text p2) 21 (ok-found text p2 21 t b);
        reading = ap (declarations_from []) pass.after ∙ d;
        declares = refl;
      }))

  module _ {q1 q2 q3 q4 : Bool} {p1 p2 p3 p4 : ℕ} (f : get_or starts 0 0 ≡ p1)
      (s2 : On q1 p1 q2 p2 (Reads text (suc p1) q2 p2 (parameters_rule (tokens_at text p1))))
      (s3 : On q2 p2 q3 p3 (Expected text p2 21 q3 p3)) (s4 : On q3 p3 q4 p4 (DeclarationsEnd text p3 q4 p4)) where
    pub inside-body : q4 ≡ true → Inside text starts 1 31
    inside-body t4 =
        let t3 = on-before s4 t4 in
        let t2 = on-before s3 t3 in
        let t1 = on-before s2 t2 in
        let brace = s3.on t2 in
        let within = (passed_ok text p2 21 (λ g. omega arith) t3 brace).within in
        let some = tree-read text (suc p1) (parameters_rule (tokens_at text p1)) (s2.on t1) t2 in
        let more = tree-read text p3 (declarations_from [] (tokens_at text p3)) (s4.on t3 within) t4 in record {
          scopes = (map parameter_of some.0 ++ declared_by more.0) ∷ [];
          opened = body_open p1 p2 p3 p4 some.0 more.0 f some.1 t3 brace more.1;
          levels = omega arith;
        }

    pub method-says : (i : ℕ) {ok : Bool} {at : ℕ} → HeaderEnd text i q1 p1
        → On q4 p4 ok at (Within text starts 1 p4 (statements_from 31) ok at)
        → Reads text (suc i) ok at (method_from (tokens_at text i))
    unfolding method_body_rule
    method-says i {ok} {at} s1 s5 =
        let r4 : On q3 p3 ok at (Unit {0}) = on-later s4 s5 (λ e. tt) in
        let r3 : On q2 p2 ok at (Unit {0}) = on-later s3 r4 (λ e. tt) in
        let Any : Method → Type 0 = λ m. Unit {0} in
        rw (grammar.method-is (tokens_at text i), by-header (tokens_at text i))
        (reading-then text ok at (suc i) after_header s1
        (on-later s2 r3 (λ list w h. lower text ok at p1
        (then-says text Any ok at (λ ps. parameters_rule (tokens_at text p1) ≡ read ps (tokens_at text p2)) (suc p1)
        (parameters_rule (tokens_at text p1)) (λ ps xs. method_body_rule h.returns h.name ps xs)
        (read_as text (suc p1) (parameters_rule (tokens_at text p1)) list)
        (on-later s3 r4 (λ brace w ps e. lower text ok at p2
        (mark-then text ok at "{" p2 21 _ (λ g. omega arith) is-open-brace brace
        (record {
          on = λ t3 w. then-says text Any ok at
              (λ ds. declarations_from [] (tokens_at text p3) ≡ read ds (tokens_at text p4)) p3
              (declarations_from [] (tokens_at text p3)) _
              (read_as text p3 (declarations_from [] (tokens_at text p3)) (s4.on t3 w))
              (on-as s5 (λ c w ds d. lower text ok at p4 (reading-last text ok at (suc p4) (λ ss. record {
                returns = h.returns;
                name = h.name;
                parameters = ps;
                declarations = ds;
                statements = ss;
              })
              (c ((map parameter_of ps ++ declared_by ds) ∷ []) (body_open p1 p2 p3 p4 ps ds f e t3 brace d)
              (omega arith)))));
          off-ok = r4.off-ok;
          off_at = r4.off_at;
        }))))))))
