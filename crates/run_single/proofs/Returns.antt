-- What the functions of an entry with one line have done at their returns, from what their callees did and how their
-- tests came out.
use Prim.Native.Nat.{ℕ, ◌+◌, ◌%◌, ◌≤◌, ◌<◌}
use mathlib.Core.Path.{◌≡◌, refl, ◌∙◌, ap, ap₂}
use mathlib.Core.List.{List}
use lib.ListN.{get_or, set}
use borrow.Author.Tests.{eq-eqb, ne_eqb, le-leb, lt-leb}
use Rattle.trace_lines.specs.declared.TraceLine.{TraceLine}
use Rattle.trace_lines.specs.WrittenCode.{with_line}
use Rattle.lists.proofs.Tests.{took, passed-by}
use Rattle.run_gates.specs.declared.event.EventResult.{EventResult}
use Rattle.run_gates.specs.GatesCode.{AfterEvent, after_event}
use Rattle.run_parts.specs.PartsCode.{part_at, part_of}
use Rattle.run_parts.proofs.Lifted.{lent, returned, lifted-words, part-lent}
use Rattle.run_events.specs.declared.conclude.Single.{Single}
use Rattle.run_single.specs.declared.result.Count.{Count}
use Rattle.run_single.specs.declared.result.EntryResult.{EntryResult}
use Rattle.run_single.specs.ResultCode.{after_entry}
use Rattle.run_single.specs.declared.result.EntryResult.TheVariants.{Taken, Full}
use Rattle.run_single.specs.SingleCode.{in_part, counted_words, event_line, recorded, concluded_at, single_op}

-- the answer, the trace and the store each for itself
pub entry-same : {m l : EntryResult} {t u v w : List ℕ} → m ≡ l → t ≡ u → v ≡ w → after_entry m t v ≡ after_entry l u w
entry-same {l = l} {u = u} {v = v} e f h =
    ap₂ (λ (x : EntryResult) (y : List ℕ). after_entry x y v) e f ∙ ap (after_entry l u) h

-- the event of a part that was lent, as that of the store
pub lifted-left : (work : List ℕ) (n : ℕ) {from : ℕ} → from ≡ part_at n
    → {t : EventResult} (ys : List ℕ) (f : List ℕ → AfterEvent)
    → after_event t ys ≡ f (lent work from) → after_event t (returned work from ys) ≡ in_part work n (f (part_of work n))
unfolding in_part
lifted-left work n at ys f e =
    ap₂ after_event
    (ap (λ (l : AfterEvent). l.event) e ∙ ap (λ (w : List ℕ). (f w).event) (part-lent work n at))
    (lifted-words work n at ys (λ w. (f w).words) (ap (λ (l : AfterEvent). l.words) e))

-- a thing made is counted

module _ (work : List ℕ) (kind : ℕ) where
  pub counts-qubit : {q x : ℕ} {w : List ℕ} → kind ≡ 1 → q ≡ get_or work 1 0 → x ≡ (q + 1) % 4294967296 → w ≡ set work 1 x
      → w ≡ counted_words work kind
  unfolding counted_words
  counts-qubit k e f h =
      took _ _ _ refl (eq-eqb kind 1 k) (h ∙ ap (set work 1) (f ∙ ap (λ (i : ℕ). (i + 1) % 4294967296) e))

  pub counts-channel : {q x : ℕ} {w : List ℕ} → (kind ≡ 1 → ⊥) → kind ≡ 2 → q ≡ get_or work 2 0 → x ≡ (q + 1) % 4294967296
      → w ≡ set work 2 x → w ≡ counted_words work kind
  unfolding counted_words
  counts-channel j k e f h =
      passed-by _ _ _ refl (ne_eqb kind 1 j)
      (took _ _ _ refl (eq-eqb kind 2 k) (h ∙ ap (set work 2) (f ∙ ap (λ (i : ℕ). (i + 1) % 4294967296) e)))

  pub counts-nothing : (kind ≡ 1 → ⊥) → (kind ≡ 2 → ⊥) → work ≡ counted_words work kind
  unfolding counted_words
  counts-nothing j k = passed-by _ _ _ refl (ne_eqb kind 1 j) (passed-by _ _ _ refl (ne_eqb kind 2 k) refl)

-- an entry with one line

module _ (p outcomes trace work : List ℕ) (room : ℕ) (g : Count) (n : ℕ) (does : Single) where
  pub single-full : {m : EntryResult} → room ≤ g.lines → m ≡ Full
      → after_entry m trace work ≡ single_op p outcomes trace work room g n does
  unfolding single_op
  single-full h e = took _ _ _ refl (le-leb room g.lines h) (entry-same e refl refl)

  pub single-noted : {t : EventResult} {w v ts : List ℕ} {l : TraceLine} {u : ℕ} {m : EntryResult} → g.lines < room
      → after_event t w ≡ concluded_at p work n does outcomes g.used → v ≡ counted_words w t.kind
      → l ≡ event_line g.entry n t
      → ts ≡ with_line trace g.lines l → u ≡ (g.used + t.used) % 4294967296 → m ≡ Taken (g.lines + 1) u
      → after_entry m ts v ≡ single_op p outcomes trace work room g n does
  unfolding single_op recorded
  single-noted h event-is counted lined written used moved =
      passed-by _ _ _ refl (lt-leb room g.lines h)
      (entry-same (moved ∙ ap (Taken (g.lines + 1)) used) (written ∙ ap (with_line trace g.lines) lined) counted
      ∙ ap (recorded trace g n) event-is)
