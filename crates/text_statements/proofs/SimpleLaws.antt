-- The statements that hold no other, by places.
use Prim.Native.Nat.{ℕ, suc}
use native.Mathlib.Omega.{arith}
use mathlib.Core.Path.{◌≡◌, refl, ◌∙◌}
use mathlib.Core.Bool.{Bool, true, false}
use mathlib.Core.List.{List}
use borrow.Author.Tests.{eq-eqb, ne_eqb}
use Rattle.text.specs.Tree.{Name, assign, invoke, measure, receive, fork, send, give}
use Rattle.text_parse.specs.Tokens.{Token, name_of}
use Rattle.text_parse.specs.Grammar.{Reading, first, leaves_at, expect_name, Scopes, measured_name}
use Rattle.text_parse.specs.Equations.{expr_from, arguments_rule, named_statement_rule, fork_rule, send_rule, recv_rule, simple_rule, condition_rule}
use Rattle.text_tokens.specs.Places.{tokens_at}
use Rattle.text_tokens.proofs.KindTests.{is-measure, is-fork, is-return, is-recv, is-send, is_open, is-close, is-comma, is-semicolon, is-assign}
use Rattle.text_types.specs.SaysCode.{next_kind, next_at, Passed, Expected, reads, leaves-at, On}
use Rattle.text_types.proofs.Answers.{on-later}
use Rattle.text_statements.specs.WithinCode.{Reads, Within}
use Rattle.text_statements.proofs.Steps.{on-as, lower, mark-then, mark-last, name-then, reading-then, closed, after-token, closed_after}

module _ (text starts : List ℕ) (n : ℕ) where
  abbrev In : ℕ → {A : Type 0} → (Scopes → List Token → Reading A) → Bool → ℕ → Type 0
  In i m ok at = Within text starts n i m ok at

  pub condition-says : (i : ℕ) {q r ok : Bool} {place middle at : ℕ} → Expected text i 19 q place
      → On q place r middle (In place expr_from r middle) → On r middle ok at (Expected text middle 20 ok at)
      → In i condition_rule ok at
  unfolding condition_rule
  condition-says i {q} {r} {ok} {place} {middle} {at} s1 s2 s3 sc o l =
      mark-then text ok at "(" i 19 _ (λ g. omega arith) is_open s1
      (on-later s2 s3 (λ e w. lower text ok at place (reading-then text ok at (suc place) _ (e sc o l)
      (on-as s3 (λ e w a. lower text ok at middle
      (mark-last text ok at ")" middle 20 a (λ g. omega arith) is-close e))))))

  pub fork-says : (i : ℕ) {q1 q2 q3 ok : Bool} {p1 p2 p3 at : ℕ} → Expected text i 33 q1 p1
      → On q1 p1 q2 p2 (Expected text p1 19 q2 p2) → On q2 p2 q3 p3 (In p2 arguments_rule q3 p3)
      → On q3 p3 ok at (Expected text p3 26 ok at) → In i fork_rule ok at
  unfolding fork_rule
  fork-says i {q1} {q2} {q3} {ok} {p1} {p2} {p3} {at} s1 s2 s3 s4 sc o l =
      let r3 : On q2 p2 ok at (Unit {0}) = on-later s3 s4 (λ e. tt) in
      let m = name_of (first (tokens_at text i)) in
      name-then text ok at i _ s1
      (on-later s2 r3 (λ e w. lower text ok at p1 (mark-then text ok at "(" p1 19 _ (λ g. omega arith) is_open e
      (on-later s3 s4 (λ e w. lower text ok at p2
      (closed text ok at (suc p2) (λ es. fork m es) (e sc o l) s4))))))

  pub recv-says : (i : ℕ) {q1 q2 q3 ok : Bool} {p1 p2 p3 at : ℕ} → Expected text i 19 q1 p1
      → On q1 p1 q2 p2 (In p1 expr_from q2 p2) → On q2 p2 q3 p3 (Expected text p2 20 q3 p3)
      → On q3 p3 ok at (Expected text p3 26 ok at) → In i recv_rule ok at
  unfolding recv_rule
  recv-says i {q1} {q2} {q3} {ok} {p1} {p2} {p3} {at} s1 s2 s3 s4 sc o l =
      let r3 : On q2 p2 ok at (Unit {0}) = on-later s3 s4 (λ e. tt) in
      mark-then text ok at "(" i 19 _ (λ g. omega arith) is_open s1
      (on-later s2 r3 (λ e w. lower text ok at p1 (reading-then text ok at (suc p1) _ (e sc o l)
      (on-later s3 s4 (λ e w a. lower text ok at p2 (mark-then text ok at ")" p2 20 _ (λ g. omega arith) is-close e
      (on-as s4 (λ e w. lower text ok at p3
      (mark-last text ok at ";" p3 26 (receive a) (λ g. omega arith) is-semicolon e)))))))))

  pub send-says : (i : ℕ) {q1 q2 q3 q4 q5 ok : Bool} {p1 p2 p3 p4 p5 at : ℕ} → Expected text i 19 q1 p1
      → On q1 p1 q2 p2 (In p1 expr_from q2 p2) → On q2 p2 q3 p3 (Expected text p2 25 q3 p3)
      → On q3 p3 q4 p4 (In p3 expr_from q4 p4) → On q4 p4 q5 p5 (Expected text p4 20 q5 p5)
      → On q5 p5 ok at (Expected text p5 26 ok at) → In i send_rule ok at
  unfolding send_rule
  send-says i {q1} {q2} {q3} {q4} {q5} {ok} {p1} {p2} {p3} {p4} {p5} {at} s1 s2 s3 s4 s5 s6 sc o l =
      let r5 : On q4 p4 ok at (Unit {0}) = on-later s5 s6 (λ e. tt) in
      let r4 : On q3 p3 ok at (Unit {0}) = on-later s4 r5 (λ e. tt) in
      let r3 : On q2 p2 ok at (Unit {0}) = on-later s3 r4 (λ e. tt) in
      mark-then text ok at "(" i 19 _ (λ g. omega arith) is_open s1
      (on-later s2 r3 (λ e w. lower text ok at p1 (reading-then text ok at (suc p1) _ (e sc o l)
      (on-later s3 r4 (λ e w a. lower text ok at p2 (mark-then text ok at "," p2 25 _ (λ g. omega arith) is-comma e
      (on-later s4 r5 (λ e w. lower text ok at p3 (reading-then text ok at (suc p3) _ (e sc o l)
      (on-later s5 s6 (λ e w v. lower text ok at p4 (mark-then text ok at ")" p4 20 _ (λ g. omega arith) is-close e
      (on-as s6 (λ e w. lower text ok at p5
      (mark-last text ok at ";" p5 26 (send a v) (λ g. omega arith) is-semicolon e)))))))))))))))

  -- after a name
  abbrev AfterName : ℕ → Bool → ℕ → Type 0
  AfterName i ok at = (x : Name) → In i (λ scopes ts. named_statement_rule scopes x ts) ok at

  pub name-assigned : (i e : ℕ) {q ok : Bool} {place at : ℕ} → next_kind text i ≡ 29 → Passed text i e
      → In e expr_from q place → On q place ok at (Expected text place 26 ok at) → AfterName i ok at
  unfolding named_statement_rule
  name-assigned i e {q} {ok} {place} {at} k p s last x sc o l =
      let here = first (tokens_at text i) in
      rw (is-assign here ∙ eq-eqb (next_kind text i) 29 k)
      (closed_after text ok at i e (expr_from sc) (λ a. assign x a) p (s sc o l) last)

  pub name-called : (i e : ℕ) {q ok : Bool} {place at : ℕ} → next_kind text i ≡ 19 → Passed text i e
      → In e arguments_rule q place → On q place ok at (Expected text place 26 ok at) → AfterName i ok at
  unfolding named_statement_rule
  name-called i e {q} {ok} {place} {at} k p s last x sc o l =
      let here = first (tokens_at text i) in
      rw (
        is-assign here ∙ ne_eqb (next_kind text i) 29 (λ g. omega arith),
        is_open here ∙ eq-eqb (next_kind text i) 19 k,
      )
      (closed_after text ok at i e (arguments_rule sc) (λ a. invoke x a) p (s sc o l) last)

  pub name-left : (i : ℕ) {at : ℕ} → (next_kind text i ≡ 29 → ⊥) → (next_kind text i ≡ 19 → ⊥) → at ≡ next_at text i
      → AfterName i false at
  unfolding named_statement_rule leaves_at
  name-left i f g e x sc o l =
      let here = first (tokens_at text i) in
      rw (is-assign here ∙ ne_eqb (next_kind text i) 29 f, is_open here ∙ ne_eqb (next_kind text i) 19 g)
      (leaves-at refl e)

  pub named-says : (i : ℕ) {q ok : Bool} {place at : ℕ} → Expected text i 33 q place
      → On q place ok at (AfterName place ok at)
      → In i (λ scopes ts. expect_name ts (λ x us. named_statement_rule scopes x us)) ok at
  named-says i {q} {ok} {place} {at} s later sc o l =
      name-then text ok at i _ s
      (on-as later (λ e w. lower text ok at place (e (name_of (first (tokens_at text i))) sc o l)))

  -- by the first token
  module _ (i : ℕ) where
    abbrev k : ℕ
    k = next_kind text i

    abbrev here : Token
    here = first (tokens_at text i)

    pub simple-skip : {at : ℕ} → k ≡ 26 → Passed text i at → In i simple_rule true at
    unfolding simple_rule
    simple-skip h p sc o l =
        rw (is-semicolon here ∙ eq-eqb k 26 h) (reads refl p.after p.onward p.within tt)

    pub simple-measure : (e : ℕ) {q ok : Bool} {place at : ℕ} → k ≡ 9 → Passed text i e
        → Reads text (suc e) q place (measured_name (tokens_at text e))
        → On q place ok at (Expected text place 26 ok at) → In i simple_rule ok at
    unfolding simple_rule
    simple-measure e {q} {ok} {place} {at} h p s last sc o l =
        rw (is-semicolon here ∙ ne_eqb k 26 (λ g. omega arith), is-measure here ∙ eq-eqb k 9 h)
        (closed_after text ok at i e measured_name (λ a. measure a) p s last)

    pub simple-fork : (e : ℕ) {ok : Bool} {at : ℕ} → k ≡ 10 → Passed text i e → In e fork_rule ok at
        → In i simple_rule ok at
    unfolding simple_rule
    simple-fork e {ok} {at} h p s sc o l =
        rw (
          is-semicolon here ∙ ne_eqb k 26 (λ g. omega arith),
          is-measure here ∙ ne_eqb k 9 (λ g. omega arith),
          is-fork here ∙ eq-eqb k 10 h,
        )
        (after-token text ok at i e (fork_rule sc) p (s sc o l))

    pub simple-send : (e : ℕ) {ok : Bool} {at : ℕ} → k ≡ 16 → Passed text i e → In e send_rule ok at
        → In i simple_rule ok at
    unfolding simple_rule
    simple-send e {ok} {at} h p s sc o l =
        rw (
          is-semicolon here ∙ ne_eqb k 26 (λ g. omega arith),
          is-measure here ∙ ne_eqb k 9 (λ g. omega arith),
          is-fork here ∙ ne_eqb k 10 (λ g. omega arith),
          is-send here ∙ eq-eqb k 16 h,
        )
        (after-token text ok at i e (send_rule sc) p (s sc o l))

    pub simple-recv : (e : ℕ) {ok : Bool} {at : ℕ} → k ≡ 15 → Passed text i e → In e recv_rule ok at
        → In i simple_rule ok at
    unfolding simple_rule
    simple-recv e {ok} {at} h p s sc o l =
        rw (
          is-semicolon here ∙ ne_eqb k 26 (λ g. omega arith),
          is-measure here ∙ ne_eqb k 9 (λ g. omega arith),
          is-fork here ∙ ne_eqb k 10 (λ g. omega arith),
          is-send here ∙ ne_eqb k 16 (λ g. omega arith),
          is-recv here ∙ eq-eqb k 15 h,
        )
        (after-token text ok at i e (recv_rule sc) p (s sc o l))

    pub simple-return : (e : ℕ) {q ok : Bool} {place at : ℕ} → k ≡ 11 → Passed text i e → In e expr_from q place
        → On q place ok at (Expected text place 26 ok at) → In i simple_rule ok at
    unfolding simple_rule
    simple-return e {q} {ok} {place} {at} h p s last sc o l =
        rw (
          is-semicolon here ∙ ne_eqb k 26 (λ g. omega arith),
          is-measure here ∙ ne_eqb k 9 (λ g. omega arith),
          is-fork here ∙ ne_eqb k 10 (λ g. omega arith),
          is-send here ∙ ne_eqb k 16 (λ g. omega arith),
          is-recv here ∙ ne_eqb k 15 (λ g. omega arith),
          is-return here ∙ eq-eqb k 11 h,
        )
        (closed_after text ok at i e (expr_from sc) (λ a. give a) p (s sc o l) last)

    pub simple-named : {ok : Bool} {at : ℕ} → (k ≡ 26 → ⊥) → (k ≡ 9 → ⊥) → (k ≡ 10 → ⊥) → (k ≡ 16 → ⊥)
        → (k ≡ 15 → ⊥) → (k ≡ 11 → ⊥)
        → In i (λ scopes ts. expect_name ts (λ x us. named_statement_rule scopes x us)) ok at → In i simple_rule ok at
    unfolding simple_rule
    simple-named f1 f2 f3 f4 f5 f6 s sc o l =
        rw (
          is-semicolon here ∙ ne_eqb k 26 f1,
          is-measure here ∙ ne_eqb k 9 f2,
          is-fork here ∙ ne_eqb k 10 f3,
          is-send here ∙ ne_eqb k 16 f4,
          is-recv here ∙ ne_eqb k 15 f5,
          is-return here ∙ ne_eqb k 11 f6,
        )
        (s sc o l)
