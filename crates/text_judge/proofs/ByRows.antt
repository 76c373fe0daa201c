-- An op's argument and its rule of types are the same in the whole table and in the table of two methods.
use Prim.Native.Nat.{ℕ, ◌+◌, ◌<◌}
use mathlib.Core.Logic.{⊎_elim}
use mathlib.Core.Bool.{Bool, true, false, cond, ◌&&◌, not}
use mathlib.Core.Path.{◌≡◌, refl, sym, ap, ap₂, ◌∙◌}
use mathlib.Core.List.{List, [], ◌∷◌, reverse}
use mathlib.Core.Option.{Option, none, some}
use lib.ListN.{get_or, length, take}
use lib.Dec.{T, eqb, ltb}
use mir.Facts.{and_yes, ltb_yes, yes_ltb}
use borrow.Author.Tests.{ltb-true}
use Rattle.lists.specs.Lists.{same}
use Rattle.lists.proofs.Tests.{decide, passed}
use Rattle.lists.proofs.Numbers.{by_number, ◌▹◌}
use Rattle.table.specs.Table.{methods, length_of, return_of, params_of, slot_type, slot_types, param_types}
use Rattle.table.specs.Ops.{op_of, returned}
use Rattle.table.proofs.Ops.{ops-opened}
use Rattle.table.proofs.Slots.{slot_types-at}
use Rattle.check_types.specs.RulesCode.{step_of, stepped}
use Rattle.text_judge.specs.RowsCode.{Subject, IsRow, no_row, two_rows, calls, argument_in}
use Rattle.text_judge.proofs.TwoRows.{no-row, two-methods, two-length, own-return, own-slot, callee-return, callee-params, callee-slots}

-- Method m of p has this row.
pub record HasRow (p : List ℕ) (m : ℕ) (r : List ℕ) : Type 0 where
  pub is_row : IsRow r
  pub returns : return_of p m ≡ get_or r 0 0
  pub params : params_of p m ≡ get_or r 1 0
  pub slots : (s : ℕ) → s < 16 → slot_type p m s ≡ get_or r (2 + s) 0
  pub all_slots : length (slot_types p m) ≡ 16

-- Method n of p is judged by s.
pub record ByRows (p : List ℕ) (n : ℕ) (s : Subject) : Type 0 where
  pub own : HasRow p n s.own
  pub callee : (a : ℕ) → a < methods p → HasRow p a (s.row_of a)
  pub methods-count : methods p ≡ s.methods
  pub long : length_of p n ≡ s.long

module _ (p : List ℕ) (n : ℕ) (s : Subject) (h : ByRows p n s) (a : ℕ) where
  -- the row of the method that an op with argument a calls, and the table of two methods
  abbrev row_for : ℕ → List ℕ
  row_for op = cond (calls op) (s.row_of a) no_row

  abbrev pub table_for : ℕ → List ℕ
  table_for op = two_rows s.own (row_for op) s.long

  abbrev pub argument_for : ℕ → ℕ
  argument_for op = argument_in s.methods op a

  -- Arguments

  slot_same : a < 16 → slot_type p n a ≡ slot_type (two_rows s.own no_row s.long) 0 a
  slot_same l = h.own.slots a l ∙ sym (own-slot s.own no_row s.long h.own.is_row.words no-row.words a l)

  used-same : (ltb a 16 && not (eqb (slot_type p n a) 0))
      ≡ (ltb a 16 && not (eqb (slot_type (two_rows s.own no_row s.long) 0 a) 0))
  used-same = ⊎_elim inside outside (decide (ltb a 16))
    where
      t : ℕ
      t = slot_type (two_rows s.own no_row s.long) 0 a

      inside : ltb a 16 ≡ true → (ltb a 16 && not (eqb (slot_type p n a) 0)) ≡ (ltb a 16 && not (eqb t 0))
      inside e = ap (λ k. ltb a 16 && not (eqb k 0)) (slot_same (ltb-true a 16 e))

      outside : ltb a 16 ≡ false → (ltb a 16 && not (eqb (slot_type p n a) 0)) ≡ (ltb a 16 && not (eqb t 0))
      outside e = rw e

  method-same : ltb a (methods p)
      ≡ ltb (cond (ltb a s.methods) 1 2) (methods (two_rows s.own (s.row_of a) s.long))
  method-same =
      ap (ltb a) h.methods-count ∙ by (ltb a s.methods)
      ∙ ap (ltb (cond (ltb a s.methods) 1 2)) (sym (two-methods s.own (s.row_of a) s.long))
    where
      by : (b : Bool) → b ≡ ltb (cond b 1 2) 2
      by true = refl
      by false = refl

  target-same : ltb a (length_of p n) ≡ ltb a (length_of (two_rows s.own no_row s.long) 0)
  target-same = ap (ltb a) (h.long ∙ sym (two-length s.own no_row s.long))

  abbrev Same : ℕ → Type 0
  Same op = (op_of op).argument p n a ≡ (op_of op).argument (table_for op) 0 (argument_for op)

  pub argument-same : (op : ℕ) → Same op
  unfolding ops-opened calls argument_in
  argument-same =
      by_number Same 24
      (refl ▹ refl ▹ refl ▹ used-same ▹ used-same ▹ refl ▹ used-same
      ▹ refl ▹ refl ▹ refl ▹ refl ▹ refl
      ▹ method-same ▹ refl ▹ method-same ▹ refl ▹ refl
      ▹ target-same ▹ target-same ▹ refl ▹ refl ▹ refl ▹ refl ▹ refl
      ▹ (λ k. refl))

  -- Rules of types

  module _ (ts : List ℕ) where
    abbrev Steps : ℕ → Type 0
    Steps op = T ((op_of op).argument p n a) → stepped p n op a ts ≡ stepped (table_for op) 0 op (argument_for op) ts

    get-same : T (ltb a 16 && not (eqb (slot_type p n a) 0))
        → step_of 0 (λ xs. some (slot_type p n a ∷ [])) false ts
        ≡ step_of 0 (λ xs. some (slot_type (two_rows s.own no_row s.long) 0 a ∷ [])) false ts
    get-same t =
        ap (λ k. step_of 0 (λ xs. some (k ∷ [])) false ts)
        (slot_same (ltb_yes (and_yes (ltb a 16) (not (eqb (slot_type p n a) 0)) t).0))

    put_same : T (ltb a 16 && not (eqb (slot_type p n a) 0))
        → step_of 1 (λ xs. cond (same xs (slot_type p n a ∷ [])) (some (slot_type p n a ∷ [])) none) false ts
        ≡ step_of 1
        (λ xs. cond (same xs (slot_type (two_rows s.own no_row s.long) 0 a ∷ []))
        (some (slot_type (two_rows s.own no_row s.long) 0 a ∷ [])) none) false ts
    put_same t =
        ap (λ k. step_of 1 (λ xs. cond (same xs (k ∷ [])) (some (k ∷ [])) none) false ts)
        (slot_same (ltb_yes (and_yes (ltb a 16) (not (eqb (slot_type p n a) 0)) t).0))

    ret-same : step_of (length (returned (return_of p n)))
        (λ xs. cond (same xs (returned (return_of p n))) (some []) none) true ts
        ≡ step_of (length (returned (return_of (two_rows s.own no_row s.long) 0)))
        (λ xs. cond (same xs (returned (return_of (two_rows s.own no_row s.long) 0))) (some []) none) true ts
    ret-same =
        ap (λ k. step_of (length (returned k)) (λ xs. cond (same xs (returned k)) (some []) none) true ts)
        (h.own.returns ∙ sym (own-return s.own no_row s.long h.own.is_row.words no-row.words))

    -- the callee is method 1
    module _ (l : a < methods p) where
      abbrev callee : List ℕ
      callee = two_rows s.own (s.row_of a) s.long

      its : HasRow p a (s.row_of a)
      its = h.callee a l

      one_same : ◌≡◌ {A = ℕ} (cond (ltb a s.methods) 1 2) 1
      one_same = rw (sym (ap (ltb a) h.methods-count) ∙ passed (ltb a (methods p)) (yes_ltb l))

      params_same : params_of p a ≡ params_of callee 1
      params_same =
          its.params
          ∙ sym (callee-params s.own (s.row_of a) s.long h.own.is_row.words its.is_row.words)

      returns-same : return_of p a ≡ return_of callee 1
      returns-same =
          its.returns
          ∙ sym (callee-return s.own (s.row_of a) s.long h.own.is_row.words its.is_row.words)

      types_same : param_types p a ≡ param_types callee 1
      unfolding param_types
      types_same =
          ap₂ take params_same
          (sym (callee-slots s.own (s.row_of a) s.long h.own.is_row.words its.is_row.words
          (slot_types p a) its.all_slots (λ k g. slot_types-at p a k g ∙ its.slots k g)))

    abbrev calling : Bool → ℕ → List ℕ → List ℕ → Option (List ℕ)
    calling bare k ws gs = step_of k (λ xs. cond (same xs (reverse ws)) (some gs) none) bare ts

    call_same : T (ltb a (methods p))
        → calling false (params_of p a) (param_types p a) (returned (return_of p a))
        ≡ calling false (params_of (two_rows s.own (s.row_of a) s.long) (cond (ltb a s.methods) 1 2))
        (param_types (two_rows s.own (s.row_of a) s.long) (cond (ltb a s.methods) 1 2))
        (returned (return_of (two_rows s.own (s.row_of a) s.long) (cond (ltb a s.methods) 1 2)))
    call_same t =
        let l = ltb_yes {a = a} {b = methods p} t in
        rw (one_same l, params_same l, types_same l, returns-same l)

    fork-same : T (ltb a (methods p))
        → calling true (params_of p a) (param_types p a) []
        ≡ calling true (params_of (two_rows s.own (s.row_of a) s.long) (cond (ltb a s.methods) 1 2))
        (param_types (two_rows s.own (s.row_of a) s.long) (cond (ltb a s.methods) 1 2)) []
    fork-same t =
        let l = ltb_yes {a = a} {b = methods p} t in
        rw (one_same l, params_same l, types_same l)

    pub step_same : (op : ℕ) → Steps op
    unfolding ops-opened calls argument_in stepped
    step_same =
        by_number Steps 24
        ((λ t. refl) ▹ (λ t. refl) ▹ (λ t. refl) ▹ get-same ▹ put_same ▹ (λ t. refl) ▹ (λ t. refl)
        ▹ (λ t. refl) ▹ (λ t. refl) ▹ (λ t. refl) ▹ (λ t. refl) ▹ (λ t. refl)
        ▹ call_same ▹ (λ t. ret-same) ▹ fork-same ▹ (λ t. refl) ▹ (λ t. refl)
        ▹ (λ t. refl) ▹ (λ t. refl) ▹ (λ t. refl) ▹ (λ t. refl) ▹ (λ t. refl) ▹ (λ t. refl) ▹ (λ t. refl)
        ▹ (λ k t. refl))
