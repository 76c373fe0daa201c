-- What reading a type, an expression or a declaration leaves: every reading that comes to a tree has read a token, and
-- every token that it has read has bytes. In each law P holds of the tokens given, and Q of those left.
use Prim.Native.Nat.{ℕ, zero, suc}
use mathlib.Core.Path.{◌≡◌, refl}
use mathlib.Core.List.{List, [], ◌∷◌, ◌++◌}
use mathlib.Core.Option.{Option, none, some, none-ne-some}
use Rattle.lists.proofs.Tests.{cond_both, cond-each}
use Rattle.text.specs.Tree.{Name, Carried, NonVoidType, plain, channel_type, end_type, Operator, Expr, new_qubit, new_channel, new_end, Declaration}
use Rattle.text_parse.specs.Tokens.{Token, is, is_numeral}
use Rattle.text_parse.specs.Grammar.{and_then, first, rest, next?, carried, bracketed, non_void_type, starts_type, return_type, Scopes, is_withends, operator_at, allocated, allocation, measured_name, expr, operands, indiv_expr, named, arguments, method_params, more_names, end_names, declaration_of, declaration, declarations}
use Rattle.text_parse.specs.Left.{Leaving, leaving, not-read, HasBytes}
use Rattle.text_parse.proofs.Leaving.{is-bytes, is_numeral-bytes, and_then-leaving, leaves_at-leaving, Reads, next-leaving, expect-leaving, expect_name-leaving}

-- an operator has bytes
pub operator-bytes : (ts : List Token) (o : Operator) → operator_at ts ≡ some o → HasBytes (first ts).bytes
unfolding operator_at
operator-bytes ts o =
    cond-each Q (next? "+" ts) (λ e s. is-bytes "+" (first ts) tt e)
    (λ f. cond-each Q (next? "-" ts) (λ e s. is-bytes "-" (first ts) tt e)
    (λ f. cond-each Q (next? "==" ts) (λ e s. is-bytes "==" (first ts) tt e)
    (λ f. cond-each Q (next? "<" ts) (λ e s. is-bytes "<" (first ts) tt e) (λ f s. absurd (none-ne-some o s)))))
  where
    Q : Option Operator → Type 0
    Q x = x ≡ some o → HasBytes (first ts).bytes

module _ {P Q : List Token → Type 0} (w : Reads P Q) where
  -- Types

  pub carried-leaving : (ts : List Token) → P ts → Leaving Q (carried ts)
  unfolding carried
  carried-leaving ts p =
      next-leaving w "int" ts tt p (λ q. leaving q)
      (next-leaving w "boolean" ts tt p (λ q. leaving q)
      (next-leaving w "qbit" ts tt p (λ q. leaving q) (leaves_at-leaving ts)))

  pub bracketed-leaving : {A : Type 0} (ts : List Token) (f : Carried → A) → P ts → Leaving Q (bracketed ts f)
  unfolding bracketed
  bracketed-leaving ts f p =
      expect-leaving w "[" ts tt p (λ us q. and_then-leaving (carried-leaving us (w.weaker q)) (λ t vs q.
      expect-leaving w "]" vs tt (w.weaker q) (λ ws q. leaving q)))

  pub non_void_type-leaving : (ts : List Token) → P ts → Leaving Q (non_void_type ts)
  unfolding non_void_type
  non_void_type-leaving ts p =
      next-leaving w "channel" ts tt p (λ q. bracketed-leaving (rest ts) channel_type (w.weaker q))
      (next-leaving w "channelEnd" ts tt p (λ q. bracketed-leaving (rest ts) end_type (w.weaker q))
      (and_then-leaving (carried-leaving ts p) (λ t us q. leaving q)))

  pub return_type-leaving : (ts : List Token) → P ts → Leaving Q (return_type ts)
  unfolding return_type
  return_type-leaving ts p =
      next-leaving w "void" ts tt p (λ q. leaving q)
      (and_then-leaving (non_void_type-leaving ts p) (λ t us q. leaving q))

  -- Expressions

  pub allocated-leaving : (e : Expr) (ts : List Token) → P ts → Leaving Q (allocated e ts)
  unfolding allocated
  allocated-leaving e ts p =
      expect-leaving w "(" ts tt p (λ us q. expect-leaving w ")" us tt (w.weaker q) (λ vs q. leaving q))

  pub allocation-leaving : (ts : List Token) → P ts → Leaving Q (allocation ts)
  unfolding allocation
  allocation-leaving ts p =
      next-leaving w "qbit" ts tt p (λ q. allocated-leaving new_qubit (rest ts) (w.weaker q))
      (next-leaving w "channel" ts tt p (λ q. made new_channel q)
      (next-leaving w "channelEnd" ts tt p (λ q. made new_end q) (leaves_at-leaving ts)))
    where
      made : (f : Carried → Expr) → Q (rest ts) → Leaving Q (and_then (bracketed (rest ts) f) allocated)
      made f q =
          and_then-leaving (bracketed-leaving (rest ts) f (w.weaker q)) (λ e us q. allocated-leaving e us (w.weaker q))

  pub measured-leaving : (ts : List Token) → P ts → Leaving Q (measured_name ts)
  unfolding measured_name
  measured-leaving ts p =
      expect-leaving w "(" ts tt p (λ us q. expect-leaving w "StdBasis" us tt (w.weaker q) (λ vs q.
      expect-leaving w "," vs tt (w.weaker q) (λ ws q. expect_name-leaving w ws (w.weaker q) (λ x xs q.
      expect-leaving w ")" xs tt (w.weaker q) (λ ys q. leaving q)))))

  mutual
    unfolding expr

    pub expr-leaving : (n : ℕ) (scopes : Scopes) (ts : List Token) → P ts → Leaving Q (expr n scopes ts)
    expr-leaving zero scopes ts p = leaves_at-leaving ts
    expr-leaving (suc n) scopes ts p =
        next-leaving w "new" ts tt p (λ q. allocation-leaving (rest ts) (w.weaker q))
        (and_then-leaving (indiv_expr-leaving n scopes ts p) (λ e us q.
        operands-leaving n scopes e (operator_at us) us refl q))

    pub operands-leaving : (n : ℕ) (scopes : Scopes) (e : Expr) (o : Option Operator) (ts : List Token)
        → operator_at ts ≡ o → Q ts → Leaving Q (operands n scopes e o ts)
    operands-leaving zero scopes e o ts is q = leaves_at-leaving ts
    operands-leaving (suc n) scopes e none ts is q = leaving q
    operands-leaving (suc n) scopes e (some o) ts is q =
        and_then-leaving
        (expr-leaving n scopes (rest ts) (w.weaker (w.over ts (w.weaker q) (operator-bytes ts o is))))
        (λ f us q. leaving q)

    pub indiv_expr-leaving : (n : ℕ) (scopes : Scopes) (ts : List Token) → P ts → Leaving Q (indiv_expr n scopes ts)
    indiv_expr-leaving zero scopes ts p = leaves_at-leaving ts
    indiv_expr-leaving (suc n) scopes ts p =
        cond-each (Leaving Q) (is_numeral (first ts))
        (λ e. leaving (w.over ts p (is_numeral-bytes (first ts) e)))
        (λ f. next-leaving w "true" ts tt p (λ q. leaving q)
        (next-leaving w "false" ts tt p (λ q. leaving q)
        (next-leaving w "(" ts tt p
        (λ q. and_then-leaving (expr-leaving n scopes (rest ts) (w.weaker q)) (λ e us q.
        expect-leaving w ")" us tt (w.weaker q) (λ vs q. leaving q)))
        (next-leaving w "recv" ts tt p
        (λ q. expect-leaving w "(" (rest ts) tt (w.weaker q) (λ us q.
        and_then-leaving (expr-leaving n scopes us (w.weaker q)) (λ e vs q.
        expect-leaving w ")" vs tt (w.weaker q) (λ ws q. leaving q))))
        (next-leaving w "measure" ts tt p
        (λ q. and_then-leaving (measured-leaving (rest ts) (w.weaker q)) (λ x us q. leaving q))
        (expect_name-leaving w ts p (λ x us q. named-leaving n scopes x us q)))))))

    pub named-leaving : (n : ℕ) (scopes : Scopes) (x : Name) (ts : List Token) → Q ts
        → Leaving Q (named n scopes x ts)
    named-leaving zero scopes x ts q = leaves_at-leaving ts
    named-leaving (suc n) scopes x ts q =
        next-leaving w "=" ts tt (w.weaker q)
        (λ q. cond_both (Leaving Q) (is_withends scopes x) not-read
        (and_then-leaving (expr-leaving n scopes (rest ts) (w.weaker q)) (λ e us q. leaving q)))
        (next-leaving w "(" ts tt (w.weaker q)
        (λ q. and_then-leaving (arguments-leaving n scopes (rest ts) (w.weaker q)) (λ e us q. leaving q)) (leaving q))

    pub arguments-leaving : (n : ℕ) (scopes : Scopes) (ts : List Token) → P ts → Leaving Q (arguments n scopes ts)
    arguments-leaving zero scopes ts p = leaves_at-leaving ts
    arguments-leaving (suc n) scopes ts p =
        next-leaving w ")" ts tt p (λ q. leaving q) (method_params-leaving n scopes ts p)

    pub method_params-leaving : (n : ℕ) (scopes : Scopes) (ts : List Token) → P ts
        → Leaving Q (method_params n scopes ts)
    method_params-leaving zero scopes ts p = leaves_at-leaving ts
    method_params-leaving (suc n) scopes ts p =
        and_then-leaving (expr-leaving n scopes ts p) (λ e us q.
        next-leaving w "," us tt (w.weaker q)
        (λ q. and_then-leaving (method_params-leaving n scopes (rest us) (w.weaker q)) (λ es vs q. leaving q))
        (expect-leaving w ")" us tt (w.weaker q) (λ vs q. leaving q)))

  -- Declarations

  pub more_names-leaving : (n : ℕ) (t : NonVoidType) (xs : List Name) (ts : List Token) → P ts
      → Leaving Q (more_names n t xs ts)
  unfolding more_names
  more_names-leaving zero t xs ts p = leaves_at-leaving ts
  more_names-leaving (suc n) t xs ts p =
      next-leaving w "," ts tt p
      (λ q. expect_name-leaving w (rest ts) (w.weaker q) (λ x us q.
      more_names-leaving n t (xs ++ (x ∷ [])) us (w.weaker q)))
      (expect-leaving w ";" ts tt p (λ us q. leaving q))

  pub end_names-leaving : (t : Carried) (c : Name) (ts : List Token) → P ts → Leaving Q (end_names t c ts)
  unfolding end_names
  end_names-leaving t c ts p =
      expect-leaving w "[" ts tt p (λ us q. expect_name-leaving w us (w.weaker q) (λ a vs q.
      expect-leaving w "," vs tt (w.weaker q) (λ ws q. expect_name-leaving w ws (w.weaker q) (λ b xs q.
      expect-leaving w "]" xs tt (w.weaker q) (λ ys q.
      expect-leaving w ";" ys tt (w.weaker q) (λ zs q. leaving q))))))

  pub declaration_of-leaving : (n : ℕ) (t : NonVoidType) (x : Name) (ts : List Token) → P ts
      → Leaving Q (declaration_of n t x ts)
  unfolding declaration_of
  declaration_of-leaving n (plain t) x ts p = more_names-leaving n (plain t) (x ∷ []) ts p
  declaration_of-leaving n (channel_type t) x ts p =
      next-leaving w "withends" ts tt p (λ q. end_names-leaving t x (rest ts) (w.weaker q))
      (more_names-leaving n (channel_type t) (x ∷ []) ts p)
  declaration_of-leaving n (end_type t) x ts p = more_names-leaving n (end_type t) (x ∷ []) ts p

  pub declaration-leaving : (n : ℕ) (ts : List Token) → P ts → Leaving Q (declaration n ts)
  unfolding declaration
  declaration-leaving n ts p =
      and_then-leaving (non_void_type-leaving ts p) (λ t us q. expect_name-leaving w us (w.weaker q) (λ x vs q.
      declaration_of-leaving n t x vs (w.weaker q)))

  pub declarations-leaving : (n : ℕ) (ds : List Declaration) (ts : List Token) → Q ts
      → Leaving Q (declarations n ds ts)
  unfolding declarations
  declarations-leaving zero ds ts q = leaves_at-leaving ts
  declarations-leaving (suc n) ds ts q =
      cond_both (Leaving Q) (starts_type ts)
      (and_then-leaving (declaration-leaving n ts (w.weaker q)) (λ d us q.
      declarations-leaving n (ds ++ (d ∷ [])) us q))
      (leaving q)
