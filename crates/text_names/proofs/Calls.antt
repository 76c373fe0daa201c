-- What the code's answers of methods and gates say of a call; and the lower of two places.
use Prim.Native.Nat.{ℕ, ◌≤◌, ◌<◌, min}
use native.Mathlib.Omega.{arith}
use mathlib.Core.Path.{◌≡◌, refl, ap, ◌∙◌}
use mathlib.Core.Bool.{Bool, true, false, cond}
use mathlib.Core.List.{List}
use mathlib.Core.Option.{Option, none, some}
use lib.Dec.{eqb, ltb, leb}
use borrow.Author.Tests.{leb-true, leb-false}
use Rattle.std.specs.Prelude as P
use Rattle.std.specs.Bool.{then_some}
use Rattle.table.specs.Ops.{gate_qubits}
use Rattle.text.specs.Tree.{numbered, gate_names, gate_of}
use Rattle.text.specs.Names.{lower}
use Rattle.text_tokens.specs.Places.{tokens_at}
use Rattle.text_scan.specs.ScanCode.{argument_count}
use Rattle.text_scan.specs.FaultsCode.{callable, invocable}
use Rattle.text_methods.specs.RowsCode.{Row, rows_of, row_of, row_index, Agrees, agrees, no-row, FirstNamed}
use Rattle.text_methods.specs.declared.find.MethodAt.{MethodAt}
use Rattle.text_methods.specs.declared.find.NoSuchMethod.{NoSuchMethod}
use Rattle.text_names.specs.Answer.{fault_in}
use Rattle.text_names.specs.FaultsCode.{lower_of, place_if}
use Rattle.text_names.specs.FaultCode.{row_count, bare, is_call_at, is_invocation_at}

-- methods
module _ (text x : List ℕ) (after n : ℕ) (e : n ≡ argument_count (tokens_at text after)) where
  -- a method that is found, with its parameters
  pub call-found : (m : MethodAt) → FirstNamed text x (P.Ok m) → eqb n m.params ≡ is_call_at text x after
  unfolding is_call_at callable
  call-found m a = by (row_of x (rows_of text)) a
    where
      by : (o : Option Row) → Agrees text (row_index x (rows_of text)) o (P.Ok m)
          → eqb n m.params ≡ callable (argument_count (tokens_at text after)) (row_count o)
      by none h = elim h [ ]
      by (some r) (agrees i t c) = ap (eqb n) c ∙ ap (λ (k : ℕ). eqb k r.count) e

  pub invoke-found : (m : MethodAt) → FirstNamed text x (P.Ok m) → eqb n m.params ≡ is_invocation_at text x after
  unfolding is_invocation_at invocable
  invoke-found m a = by (row_of x (rows_of text)) a
    where
      by : (o : Option Row) → Agrees text (row_index x (rows_of text)) o (P.Ok m)
          → eqb n m.params ≡ invocable (bare x) (argument_count (tokens_at text after)) (row_count o)
      by none h = elim h [ ]
      by (some r) (agrees i t c) = ap (eqb n) c ∙ ap (λ (k : ℕ). eqb k r.count) e

  -- where none is found
  pub call-missing : {m : NoSuchMethod} → FirstNamed text x (P.Err m) → false ≡ is_call_at text x after
  unfolding is_call_at callable
  call-missing {m} a = by (row_of x (rows_of text)) a
    where
      by : (o : Option Row) → Agrees text (row_index x (rows_of text)) o (P.Err m)
          → false ≡ callable (argument_count (tokens_at text after)) (row_count o)
      by none (no-row i) = refl
      by (some r) h = elim h [ ]

  pub gate-found : {m : NoSuchMethod} {g : ℕ} {r : Bool} → FirstNamed text x (P.Err m) → g ≡ numbered 1 x gate_names
      → r ≡ cond (ltb 0 g) (eqb n (gate_qubits g)) false → r ≡ is_invocation_at text x after
  unfolding is_invocation_at invocable gate_of
  gate-found {m = m} {r = r} a i s = by (row_of x (rows_of text)) a
    where
      by : (o : Option Row) → Agrees text (row_index x (rows_of text)) o (P.Err m)
          → r ≡ invocable (bare x) (argument_count (tokens_at text after)) (row_count o)
      by none (no-row c) =
          s ∙ ap (λ (k : ℕ). cond (ltb 0 k) (eqb n (gate_qubits k)) false) i
          ∙ ap (λ (k : ℕ). cond (ltb 0 (numbered 1 x gate_names)) (eqb k (gate_qubits (numbered 1 x gate_names))) false) e
      by (some r) h = elim h [ ]

-- a place where there is a fault
pub fault-if : (fault : Bool) (at : ℕ) → fault_in (then_some fault at) ≡ place_if fault at
unfolding fault_in
fault-if true at = refl
fault-if false at = refl

-- the lower of two places
pub lower-min : (i j : ℕ) → some (min i j) ≡ lower_of (some i) (some j)
unfolding lower_of lower
lower-min i j = ap some (by (leb i j) refl)
  where
    by : (b : Bool) → leb i j ≡ b → min i j ≡ cond b i j
    by true e = let l : i ≤ j = leb-true i j e in omega arith
    by false e = let l : j < i = leb-false i j e in omega arith
