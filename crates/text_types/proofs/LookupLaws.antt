-- What is found among what is read.
use Prim.Native.Nat.{ℕ, ◌<◌}
use native.Mathlib.Omega.{arith}
use mathlib.Core.Path.{◌≡◌, refl, sym, ap, ◌∙◌}
use mathlib.Core.Bool.{Bool, true, false}
use mathlib.Core.List.{List, [], map}
use lib.ListN.{length}
use Rattle.lists.proofs.Tests.{clash, passes}
use Rattle.text.specs.Tree.{Declaration, declared_by, Parameter, parameter_of}
use Rattle.text_parse.specs.Grammar.{Reading}
use Rattle.text_parse.specs.Equations.{declarations_from, declarations_rule}
use Rattle.text_parse.proofs.Equations.{grammar}
use Rattle.text_tokens.specs.Places.{tokens_at}
use Rattle.text_tokens.specs.NextCode.{next_at as token_next}
use Rattle.text_tokens.proofs.Tokenwise.{next-token}
use Rattle.text_types.specs.SaysCode.{next_kind, Says, reads, leaves-at, starts_kind}
use Rattle.text_types.specs.Found.{found_in, found_among, found_parameter, or_else}
use Rattle.text_types.proofs.Answers.{kind-next, past-kind}
use Rattle.text_types.proofs.TypeLaws.{starts-kind}
use Rattle.text_types.proofs.Finding.{found_none}

-- past the end of the text there is no declaration
pub past-found : (text x : List ℕ) (i : ℕ) → length text < i → found_among x (declarations_from [] (tokens_at text i)) ≡ 0
unfolding declarations_rule found_among declared_by
past-found text x i h =
    let t = token_next text i in
    let n = next-token text i in
    let starts = n.starts in
    let kind : next_kind text i ≡ 32 = kind-next text i t n ∙ past-kind text i t n (omega arith) in
    rw (grammar.declarations-is [] (tokens_at text i), starts-kind text i ∙ ap starts_kind kind) (found_none x)

module _ (text x : List ℕ) (low : ℕ) (ok : Bool) (at f : ℕ) where
  abbrev D : Reading (List Declaration) → Type 0
  D m = Says text low (λ es. found_in x (declared_by es) ≡ or_else (found_in x (declared_by [])) f) ok at m

  pub among-read : (m : Reading (List Declaration)) → ok ≡ true → D m → f ≡ found_among x m
  unfolding found_among declared_by
  among-read m t (reads o u h w p) = sym (p ∙ ap (λ (n : ℕ). or_else n f) (found_none x))
  among-read m t (leaves-at o e) = absurd (clash o (passes t))

  pub among-left : (m : Reading (List Declaration)) → ok ≡ false → D m → 0 ≡ found_among x m
  unfolding found_among
  among-left m t (reads o u h w p) = absurd (clash t (passes o))
  among-left m t (leaves-at o e) = refl

  abbrev R : Reading (List Parameter) → Type 0
  R m = Says text low (λ ps. found_in x (map parameter_of ps) ≡ f) ok at m

  pub parameter-read : (m : Reading (List Parameter)) → ok ≡ true → R m → f ≡ found_parameter x m
  unfolding found_parameter
  parameter-read m t (reads o u h w p) = sym p
  parameter-read m t (leaves-at o e) = absurd (clash o (passes t))

  pub parameter-left : (m : Reading (List Parameter)) → ok ≡ false → R m → 0 ≡ found_parameter x m
  unfolding found_parameter
  parameter-left m t (reads o u h w p) = absurd (clash t (passes o))
  parameter-left m t (leaves-at o e) = refl
