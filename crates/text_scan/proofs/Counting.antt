-- The arguments of a call, and the parameters of a method, counted by commas: an expression in them adds none.
use Prim.Native.Nat.{ℕ, zero, suc, ◌+◌}
use Prim.Native.String.{String}
use native.Mathlib.Nat.{zero-add}
use native.Mathlib.Omega.{arith}
use mathlib.Core.Path.{◌≡◌, refl, sym, ap, ◌∙◌}
use mathlib.Core.Bool.{Bool, true, false, cond, ◌&&◌}
use mathlib.Core.List.{List, [], ◌∷◌, ◌++◌}
use mathlib.Core.Option.{Option, none, some, none-ne-some}
use lib.Dec.{eqb}
use lib.ListN.{length, length-append}
use Rattle.lists.proofs.Tests.{cond-each, cond_both, passes}
use Rattle.text.specs.Tree.{ascii, Name, Carried, Operator, Expr, new_qubit, new_channel, new_end, Parameter, count}
use Rattle.text_parse.specs.Tokens.{Token, is_numeral}
use Rattle.text_parse.specs.Grammar.{Reading, and_then, first, rest, next?, carried, bracketed, non_void_type, Scopes, is_withends, operator_at, allocated, allocation, measured_name, expr, operands, indiv_expr, named, arguments, method_params, parameter, more_parameters, parameters}
use Rattle.text_tokens.specs.KindsCode.{kind_of, word_kind, mark_kind, place_from}
use Rattle.text_tokens.proofs.KindTests.{is-close}
use Rattle.text_scan.specs.ScanCode.{kind_at, is_none, less_one, depth_after, count_after, count_from, argument_count}
use Rattle.text_scan.proofs.Holding.{Holds, holds, off, After, after, AfterName, after-name, weaker-holds, then-holds, leaves_at-holds, next-holds, expect-holds, name-holds}
use Rattle.text_scan.proofs.WordKinds.{word-kind, name-kind, number-kind}

-- one token of kind k
pub count-token : (d n k : ℕ) (ts : List Token) → kind_at ts ≡ k → eqb k 32 ≡ false → (is_none d && eqb k 20) ≡ false
    → count_from d n ts ≡ count_from (depth_after d k) (count_after d n k) (rest ts)
unfolding count_from kind_of
count-token d n k [] e f g = absurd (passes (sym f ∙ ap (λ (j : ℕ). eqb j 32) (sym e)))
count-token d n k (t ∷ ts) e f g =
    ap (λ (j : ℕ). cond (is_none d && eqb j 20) n (count_from (depth_after d j) (count_after d n j) ts)) e
    ∙ ap (λ (b : Bool). cond b n (count_from (depth_after d k) (count_after d n k) ts)) g

-- The tokens up to us leave the count as it is, in brackets or not.
abbrev pub Neutral : List Token → List Token → Type 0
Neutral ts us = (d n : ℕ) → count_from d n ts ≡ count_from d n us

-- a token that is no bracket and no comma
abbrev Idle : ℕ → Type 0
Idle k = ((eqb k 32 ≡ false) × (eqb k 19 ≡ false)) × ((eqb k 20 ≡ false) × (eqb k 25 ≡ false))

and-off : (a b : Bool) → b ≡ false → (a && b) ≡ false
and-off true b e = e
and-off false b e = refl

idle-token : (k : ℕ) (ts : List Token) → kind_at ts ≡ k → Idle k → Neutral ts (rest ts)
unfolding depth_after count_after
idle-token k ts e i d n =
    let close = i.1.0 in
    let comma = i.1.1 in
    count-token d n k ts e i.0.0 (and-off (is_none d) (eqb k 20) close)
    ∙ ap (λ (b : Bool). count_from (cond b (suc d) (cond (eqb k 20) (less_one d) d))
    (cond (is_none d && eqb k 25) (suc n) n) (rest ts)) i.0.1
    ∙ ap (λ (b : Bool). count_from (cond b (less_one d) d) (cond (is_none d && eqb k 25) (suc n) n) (rest ts)) close
    ∙ ap (λ (b : Bool). count_from d (cond b (suc n) n) (rest ts)) (and-off (is_none d) (eqb k 25) comma)

on-idle : (s : String) {ts us : List Token} → After s ts us → Idle (kind_of (ascii s)) → Neutral ts us
on-idle s {ts} (after e) i = idle-token (kind_of (ascii s)) ts (word-kind s (first ts) e) i

on-name : {ts us : List Token} {x : Name} → AfterName ts x us → Neutral ts us
on-name {ts} (after-name e) = idle-token 33 ts (name-kind (first ts) e) ((refl, refl), (refl, refl))

on-number : (ts : List Token) → is_numeral (first ts) ≡ true → Neutral ts (rest ts)
on-number ts e = idle-token 34 ts (number-kind (first ts) e) ((refl, refl), (refl, refl))

-- brackets, and a comma
on-open : {ts us : List Token} → After "(" ts us → (d n : ℕ) → count_from d n ts ≡ count_from (suc d) n us
unfolding depth_after count_after kind_of mark_kind place_from
on-open {ts} (after e) d n =
    count-token d n 19 ts (word-kind "(" (first ts) e) refl (and-off (is_none d) false refl)
    ∙ ap (λ (b : Bool). count_from (suc d) (cond b (suc n) n) (rest ts)) (and-off (is_none d) false refl)

on-close : {ts us : List Token} → After ")" ts us → (d n : ℕ) → count_from (suc d) n ts ≡ count_from d n us
unfolding depth_after count_after kind_of mark_kind place_from less_one is_none
on-close {ts} (after e) d n = count-token (suc d) n 20 ts (word-kind ")" (first ts) e) refl refl

on-comma : {ts us : List Token} → After "," ts us → (d n : ℕ) → count_from (suc d) n ts ≡ count_from (suc d) n us
unfolding depth_after count_after kind_of mark_kind place_from is_none
on-comma {ts} (after e) d n = count-token (suc d) n 25 ts (word-kind "," (first ts) e) refl refl

next-counted : {ts us : List Token} → After "," ts us → (n : ℕ) → count_from 0 n ts ≡ count_from 0 (suc n) us
unfolding depth_after count_after kind_of mark_kind place_from is_none
next-counted {ts} (after e) n = count-token 0 n 25 ts (word-kind "," (first ts) e) refl refl

-- at the closing bracket the count ends
count-ends : (n : ℕ) (ts : List Token) → kind_at ts ≡ 20 → count_from 0 n ts ≡ n
unfolding count_from is_none
count-ends n [] e = refl
count-ends n (t ∷ ts) e =
    ap (λ (j : ℕ). cond (eqb j 20) n (count_from (depth_after 0 j) (count_after 0 n j) ts)) e

end-counted : {ts us : List Token} → After ")" ts us → (n : ℕ) → count_from 0 n ts ≡ n
unfolding kind_of mark_kind place_from
end-counted {ts} (after e) n = count-ends n ts (word-kind ")" (first ts) e)

-- What follows a token that leaves the count as it is
past : {A : Type 0} (ts us : List Token) {r : Reading A} → Neutral ts us → Holds (λ t vs. Neutral us vs) r
    → Holds (λ t vs. Neutral ts vs) r
past ts us e (holds p) = holds (λ d n. e d n ∙ p d n)
past ts us e off = off

-- Types

carried-neutral : (ts : List Token) → Holds (λ t us. Neutral ts us) (carried ts)
unfolding carried kind_of word_kind place_from
carried-neutral ts =
    next-holds "int" ts (λ a. holds (on-idle "int" a ((refl, refl), (refl, refl))))
    (λ f. next-holds "boolean" ts (λ a. holds (on-idle "boolean" a ((refl, refl), (refl, refl))))
    (λ f. next-holds "qbit" ts (λ a. holds (on-idle "qbit" a ((refl, refl), (refl, refl))))
    (λ f. leaves_at-holds ts)))

bracketed-neutral : {A : Type 0} (ts : List Token) (f : Carried → A) → Holds (λ t us. Neutral ts us) (bracketed ts f)
unfolding bracketed kind_of mark_kind place_from
bracketed-neutral ts f =
    expect-holds "[" ts (λ us a. then-holds (carried-neutral us) (λ t vs p. expect-holds "]" vs (λ ws b.
    holds (λ d n. on-idle "[" a ((refl, refl), (refl, refl)) d n
    ∙ p d n ∙ on-idle "]" b ((refl, refl), (refl, refl)) d n))))

type-neutral : (ts : List Token) → Holds (λ t us. Neutral ts us) (non_void_type ts)
unfolding non_void_type kind_of word_kind place_from
type-neutral ts =
    next-holds "channel" ts
    (λ a. past ts (rest ts) (on-idle "channel" a ((refl, refl), (refl, refl))) (bracketed-neutral (rest ts) _))
    (λ f. next-holds "channelEnd" ts
    (λ a. past ts (rest ts) (on-idle "channelEnd" a ((refl, refl), (refl, refl))) (bracketed-neutral (rest ts) _))
    (λ f. then-holds (carried-neutral ts) (λ t us p. holds p)))

-- Expressions

allocated-neutral : (e : Expr) (ts : List Token) → Holds (λ t us. Neutral ts us) (allocated e ts)
unfolding allocated
allocated-neutral e ts =
    expect-holds "(" ts (λ us a. expect-holds ")" us (λ vs b. holds (λ d n. on-open a d n ∙ on-close b d n)))

allocation-neutral : (ts : List Token) → Holds (λ t us. Neutral ts us) (allocation ts)
unfolding allocation kind_of word_kind place_from
allocation-neutral ts =
    next-holds "qbit" ts
    (λ a. past ts (rest ts) (on-idle "qbit" a ((refl, refl), (refl, refl))) (allocated-neutral new_qubit (rest ts)))
    (λ f. next-holds "channel" ts
    (λ a. past ts (rest ts) (on-idle "channel" a ((refl, refl), (refl, refl))) (made new_channel))
    (λ f. next-holds "channelEnd" ts
    (λ a. past ts (rest ts) (on-idle "channelEnd" a ((refl, refl), (refl, refl))) (made new_end))
    (λ f. leaves_at-holds ts)))
  where
    made : (f : Carried → Expr) → Holds (λ t us. Neutral (rest ts) us) (and_then (bracketed (rest ts) f) allocated)
    made f = then-holds (bracketed-neutral (rest ts) f) (λ e us p. past (rest ts) us p (allocated-neutral e us))

measured-neutral : (ts : List Token) → Holds (λ q us. Neutral ts us) (measured_name ts)
unfolding measured_name kind_of word_kind place_from
measured-neutral ts =
    expect-holds "(" ts (λ us a. expect-holds "StdBasis" us (λ vs b. expect-holds "," vs (λ ws c.
    name-holds ws (λ q xs x. expect-holds ")" xs (λ ys e. holds (λ d n.
    on-open a d n ∙ on-idle "StdBasis" b ((refl, refl), (refl, refl)) (suc d) n ∙ on-comma c d n
    ∙ on-name x (suc d) n ∙ on-close e d n))))))

operator-neutral : (ts : List Token) (o : Operator) → operator_at ts ≡ some o → Neutral ts (rest ts)
unfolding operator_at kind_of word_kind mark_kind place_from
operator-neutral ts o =
    cond-each Q (next? "+" ts) (λ e s. on-idle "+" {ts = ts} {us = rest ts} (after e) ((refl, refl), (refl, refl)))
    (λ f. cond-each Q (next? "-" ts) (λ e s. on-idle "-" {ts = ts} {us = rest ts} (after e)
    ((refl, refl), (refl, refl)))
    (λ f. cond-each Q (next? "==" ts) (λ e s. on-idle "==" {ts = ts} {us = rest ts} (after e)
    ((refl, refl), (refl, refl)))
    (λ f. cond-each Q (next? "<" ts) (λ e s. on-idle "<" {ts = ts} {us = rest ts} (after e)
    ((refl, refl), (refl, refl)))
    (λ f s. absurd (none-ne-some o s)))))
  where
    Q : Option Operator → Type 0
    Q x = x ≡ some o → Neutral ts (rest ts)

none-counted : (ts : List Token) {us : List Token} → After ")" ts us → argument_count ts ≡ 0
unfolding argument_count kind_of mark_kind place_from
none-counted ts (after e) = ap (λ (k : ℕ). cond (eqb k 20) 0 (count_from 0 1 ts)) (word-kind ")" (first ts) e)

some-counted : (ts : List Token) → next? ")" ts ≡ false → {n : ℕ} → count_from 0 1 ts ≡ n → argument_count ts ≡ n
unfolding argument_count
some-counted ts f c = ap (λ (b : Bool). cond b 0 (count_from 0 1 ts)) (sym (is-close (first ts)) ∙ f) ∙ c

-- everything up to the closing bracket, from after the opening one on
abbrev Closes : List Token → List Token → Type 0
Closes ts us = (d n : ℕ) → count_from (suc d) n ts ≡ count_from d n us

mutual
  unfolding expr kind_of word_kind mark_kind place_from argument_count count

  expr-neutral : (n : ℕ) (scopes : Scopes) (ts : List Token) → Holds (λ e us. Neutral ts us) (expr n scopes ts)
  expr-neutral zero scopes ts = leaves_at-holds ts
  expr-neutral (suc n) scopes ts =
      next-holds "new" ts
      (λ a. past ts (rest ts) (on-idle "new" a ((refl, refl), (refl, refl))) (allocation-neutral (rest ts)))
      (λ f. then-holds (indiv-neutral n scopes ts) (λ e us p.
      past ts us p (operands-neutral n scopes e (operator_at us) us refl)))

  operands-neutral : (n : ℕ) (scopes : Scopes) (e : Expr) (o : Option Operator) (ts : List Token)
      → operator_at ts ≡ o → Holds (λ e us. Neutral ts us) (operands n scopes e o ts)
  operands-neutral zero scopes e o ts q = leaves_at-holds ts
  operands-neutral (suc n) scopes e none ts q = holds (λ d m. refl)
  operands-neutral (suc n) scopes e (some o) ts q =
      then-holds (expr-neutral n scopes (rest ts)) (λ f us p. holds (λ d m. operator-neutral ts o q d m ∙ p d m))

  indiv-neutral : (n : ℕ) (scopes : Scopes) (ts : List Token)
      → Holds (λ e us. Neutral ts us) (indiv_expr n scopes ts)
  indiv-neutral zero scopes ts = leaves_at-holds ts
  indiv-neutral (suc n) scopes ts =
      cond-each (Holds (λ e us. Neutral ts us)) (is_numeral (first ts)) (λ e. holds (on-number ts e))
      (λ f. next-holds "true" ts (λ a. holds (on-idle "true" a ((refl, refl), (refl, refl))))
      (λ f. next-holds "false" ts (λ a. holds (on-idle "false" a ((refl, refl), (refl, refl))))
      (λ f. next-holds "(" ts
      (λ a. then-holds (expr-neutral n scopes (rest ts)) (λ e us p.
      expect-holds ")" us (λ vs b. holds (λ d m. on-open a d m ∙ p (suc d) m ∙ on-close b d m))))
      (λ f. next-holds "recv" ts
      (λ a. expect-holds "(" (rest ts) (λ us b. then-holds (expr-neutral n scopes us) (λ e vs p.
      expect-holds ")" vs (λ ws c. holds (λ d m. on-idle "recv" a ((refl, refl), (refl, refl)) d m
      ∙ on-open b d m ∙ p (suc d) m ∙ on-close c d m)))))
      (λ f. next-holds "measure" ts
      (λ a. then-holds (measured-neutral (rest ts)) (λ q us p.
      holds (λ d m. on-idle "measure" a ((refl, refl), (refl, refl)) d m ∙ p d m)))
      (λ f. name-holds ts (λ x us a. past ts us (on-name a) (named-neutral n scopes x us))))))))

  named-neutral : (n : ℕ) (scopes : Scopes) (x : Name) (ts : List Token)
      → Holds (λ e us. Neutral ts us) (named n scopes x ts)
  named-neutral zero scopes x ts = leaves_at-holds ts
  named-neutral (suc n) scopes x ts =
      next-holds "=" ts
      (λ a. cond_both (Holds (λ e us. Neutral ts us)) (is_withends scopes x) off
      (then-holds (expr-neutral n scopes (rest ts)) (λ e us p.
      holds (λ d m. on-idle "=" a ((refl, refl), (refl, refl)) d m ∙ p d m))))
      (λ f. next-holds "(" ts
      (λ a. then-holds (arguments-close n scopes (rest ts)) (λ es us p. holds (λ d m. on-open a d m ∙ p.0 d m)))
      (λ f. holds (λ d m. refl)))

  pub arguments-close : (n : ℕ) (scopes : Scopes) (ts : List Token)
      → Holds (λ es us. Closes ts us × (argument_count ts ≡ count es)) (arguments n scopes ts)
  arguments-close zero scopes ts = leaves_at-holds ts
  arguments-close (suc n) scopes ts =
      next-holds ")" ts
      (λ a. holds (on-close a, none-counted ts a))
      (λ f. weaker-holds (λ es us p. (p.0, some-counted ts f (p.1 0 ∙ zero-add (count es))))
      (params-close n scopes ts))

  params-close : (n : ℕ) (scopes : Scopes) (ts : List Token)
      → Holds (λ es us. Closes ts us × ((m : ℕ) → count_from 0 (suc m) ts ≡ m + count es)) (method_params n scopes ts)
  params-close zero scopes ts = leaves_at-holds ts
  params-close (suc n) scopes ts =
      then-holds (expr-neutral n scopes ts) (λ e us p.
      next-holds "," us
      (λ a. then-holds (params-close n scopes (rest us)) (λ es vs q. holds (
        (λ d m. p (suc d) m ∙ on-comma a d m ∙ q.0 d m),
        (λ m. p 0 (suc m) ∙ next-counted a (suc m) ∙ q.1 (suc m) ∙ omega arith),
      )))
      (λ f. expect-holds ")" us (λ vs b. holds (
        (λ d m. p (suc d) m ∙ on-close b d m),
        (λ m. p 0 (suc m) ∙ end-counted b (suc m) ∙ omega arith),
      ))))

-- Parameters

parameter-neutral : (ts : List Token) → Holds (λ p us. Neutral ts us) (parameter ts)
unfolding parameter
parameter-neutral ts =
    then-holds (type-neutral ts) (λ t us p. name-holds us (λ x vs a. holds (λ d n. p d n ∙ on-name a d n)))

one_more : (ps : List Parameter) (p : Parameter) → length (ps ++ (p ∷ [])) ≡ suc (length ps)
one_more ps p = length-append ps (p ∷ []) ∙ omega arith

more-counted : (n : ℕ) (ps : List Parameter) (ts : List Token)
    → Holds (λ qs us. count_from 0 (suc (length ps)) ts ≡ length qs) (more_parameters n ps ts)
unfolding more_parameters
more-counted zero ps ts = leaves_at-holds ts
more-counted (suc n) ps ts =
    then-holds (parameter-neutral ts) (λ p us q.
    next-holds "," us
    (λ a. weaker-holds (λ qs vs r.
    q 0 (suc (length ps)) ∙ next-counted a (suc (length ps))
    ∙ ap (λ (k : ℕ). count_from 0 (suc k) (rest us)) (sym (one_more ps p)) ∙ r)
    (more-counted n (ps ++ (p ∷ [])) (rest us)))
    (λ f. expect-holds ")" us (λ vs b. holds (
    q 0 (suc (length ps)) ∙ end-counted b (suc (length ps)) ∙ sym (one_more ps p)))))

pub parameters-counted : (n : ℕ) (ts : List Token)
    → Holds (λ ps us. argument_count ts ≡ length ps) (parameters n ts)
unfolding parameters
parameters-counted n ts =
    next-holds ")" ts (λ a. holds (none-counted ts a))
    (λ f. weaker-holds (λ ps us p. some-counted ts f p) (more-counted n [] ts))
