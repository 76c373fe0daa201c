-- Every reading goes onward: what it leaves is a tail of its tokens, with fewer of them, and with the token that ends
-- the text.
use Prim.Native.Nat.{◌≤◌, ◌<◌}
use native.Mathlib.Omega.{arith}
use mathlib.Core.Path.{refl, subst}
use mathlib.Core.List.{List, [], ◌∷◌}
use lib.ListN.{length}
use Rattle.text_parse.specs.Tokens.{Token}
use Rattle.text_parse.specs.Grammar.{first, rest, operator_at, enough, program_of}
use Rattle.text_parse.specs.Left.{HasBytes, Tail, whole, after, Ended, Within, Onward, Progress}
use Rattle.text_parse.proofs.Leaving.{Reads}
use Rattle.text_parse.proofs.LeavingExpr.{non_void_type-leaving, return_type-leaving, expr-leaving, operands-leaving, indiv_expr-leaving, named-leaving, arguments-leaving, method_params-leaving, more_names-leaving, declaration-leaving, declarations-leaving}
use Rattle.text_parse.proofs.LeavingCode.{simple-leaving, condition-leaving, statement-leaving, body-leaving, unbraced-leaving, block_of-leaving, statements-leaving, parameter-leaving, more_parameters-leaving, parameters-leaving, method_body-leaving, method-leaving, methods-leaving}
use Rattle.text_parse.proofs.Same.{rest-fewer}

-- one token more is read from a tail
tail-rest : {ts us : List Token} → Tail ts us → HasBytes (first us).bytes → Tail ts (rest us)
tail-rest {ts = []} whole h = absurd h
tail-rest {ts = t ∷ ts} whole h = after h whole
tail-rest (after g p) h = after g (tail-rest p h)

ended-rest : (ts : List Token) → Ended ts → HasBytes (first ts).bytes → Ended (rest ts)
ended-rest [] e h = e
ended-rest (t ∷ []) e h = subst HasBytes e h
ended-rest (t ∷ u ∷ ts) e h = e

pub within_all : (ts : List Token) → Within ts ts
within_all ts = record { not_more = omega arith; tail = whole; ended = λ e. e }

onward-within : {ts us : List Token} → Onward ts us → Within ts us
onward-within {ts} {us} o =
    let fewer : length us < length ts = o.fewer in
    record { not_more = omega arith; tail = o.tail; ended = o.ended }

within-rest : (ts us : List Token) → Within ts us → HasBytes (first us).bytes → Onward ts (rest us)
within-rest ts us p h =
    let not_more : length us ≤ length ts = p.not_more in
    let fewer : length (rest us) < length us = rest-fewer us h in
    record { fewer = omega arith; tail = tail-rest p.tail h; ended = λ e. ended-rest us (p.ended e) h }

pub onward : (ts : List Token) → Reads (Within ts) (Onward ts)
onward ts = record { over = within-rest ts; weaker = onward-within }

pub within : (ts : List Token) → Reads (Within ts) (Within ts)
within ts = record { over = λ us p h. onward-within (within-rest ts us p h); weaker = λ p. p }

pub progress : Progress
unfolding program_of
progress = record {
  non_void_type-on = λ ts. non_void_type-leaving (onward ts) ts (within_all ts);
  return_type-on = λ ts. return_type-leaving (onward ts) ts (within_all ts);
  expr-on = λ n scopes ts. expr-leaving (onward ts) n scopes ts (within_all ts);
  operands-on = λ n scopes e ts. operands-leaving (within ts) n scopes e (operator_at ts) ts refl (within_all ts);
  indiv_expr-on = λ n scopes ts. indiv_expr-leaving (onward ts) n scopes ts (within_all ts);
  named-on = λ n scopes x ts. named-leaving (within ts) n scopes x ts (within_all ts);
  arguments-on = λ n scopes ts. arguments-leaving (onward ts) n scopes ts (within_all ts);
  method_params-on = λ n scopes ts. method_params-leaving (onward ts) n scopes ts (within_all ts);
  more_names-on = λ n t xs ts. more_names-leaving (onward ts) n t xs ts (within_all ts);
  declaration-on = λ n ts. declaration-leaving (onward ts) n ts (within_all ts);
  declarations-on = λ n ds ts. declarations-leaving (within ts) n ds ts (within_all ts);
  simple-on = λ n scopes ts. simple-leaving (onward ts) n scopes ts (within_all ts);
  condition-on = λ n scopes ts. condition-leaving (onward ts) n scopes ts (within_all ts);
  statement-on = λ n left scopes ts. statement-leaving (onward ts) n left scopes ts (within_all ts);
  body-on = λ n left scopes ts. body-leaving (onward ts) n left scopes ts (within_all ts);
  unbraced-on = λ n left scopes ts. unbraced-leaving (onward ts) n left scopes ts (within_all ts);
  block_of-on = λ n left scopes ts. block_of-leaving (onward ts) n left scopes ts (within_all ts);
  statements-on = λ n left scopes ts. statements-leaving (onward ts) n left scopes ts (within_all ts);
  parameter-on = λ ts. parameter-leaving (onward ts) ts (within_all ts);
  more_parameters-on = λ n ps ts. more_parameters-leaving (onward ts) n ps ts (within_all ts);
  parameters-on = λ n ts. parameters-leaving (onward ts) n ts (within_all ts);
  method_body-on = λ n t x ps ts. method_body-leaving (onward ts) n t x ps ts (within_all ts);
  method-on = λ n ts. method-leaving (onward ts) n ts (within_all ts);
  methods-on = λ n ts. methods-leaving (onward ts) n ts (within_all ts);
  program_of-on = λ ts. methods-leaving (onward ts) (enough ts) ts (within_all ts);
}
