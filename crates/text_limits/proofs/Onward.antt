-- From one method to the next, and where a limit is passed.
use Prim.Native.Nat.{ℕ, suc, ◌+◌, ◌≤◌, ◌<◌}
use native.Mathlib.Omega.{arith}
use mathlib.Core.Path.{◌≡◌, refl, sym, ap, ap₂, subst, ◌∙◌}
use mathlib.Core.Bool.{Bool, true, false, cond}
use mathlib.Core.List.{List, [], ◌∷◌}
use mathlib.Core.Option.{none, some}
use lib.ListN.{length, length-append}
use Rattle.text.specs.Tree.{Method, Program, main_first, method_at}
use Rattle.text.specs.Translation.{method_code, program_code}
use Rattle.text.specs.Limits.{first_over, place_of, limit_refusal}
use Rattle.text_parse.specs.Tokens.{Token, tokens_of}
use Rattle.text_parse.specs.Grammar.{read, program_of}
use Rattle.text_parse.specs.Equations.{method_from}
use Rattle.text_tokens.specs.Places.{tokens_at}
use Rattle.text_tokens.proofs.Tokenwise.{tokens-at-start}
use Rattle.text_scan.specs.Standing.{Stand, stand}
use Rattle.text_scan.proofs.EventsText.{text-events, same-tree, same_left}
use Rattle.text_limits.specs.LimitsCode.{WellNamed, MethodThere, is_within, Within, Over, LimitsUpTo}

pub begins : (text : List ℕ) (ns : Program) (us : List Token) → program_of (tokens_of text) ≡ read ns us
    → LimitsUpTo text ns 0 0 0
begins text ns us e =
    let t = text-events text ns us e in
    record {
      rest = ns;
      ends = t.ends;
      stands = subst (λ ts. Stand ts ns t.ends) (tokens-at-start text) t.stands;
      further = λ i. ap (method_at ns) {x = 0 + i} {y = i} (omega arith);
      counted = omega arith;
      same = refl;
      sum = omega arith;
    }

-- all are judged: no limit is passed
pub all-within : (text : List ℕ) (ns : Program) (at k total : ℕ) → LimitsUpTo text ns at k total → length ns ≤ k
    → (limit_refusal ns ≡ none) × (k ≡ length ns) × (total ≡ length (program_code (main_first ns) ns))
unfolding limit_refusal first_over program_code
all-within text ns at k total r l = by r.rest r.counted r.same r.sum
  where
    by : (rest : Program) → k + length rest ≡ length ns
        → first_over (main_first ns) 0 0 ns ≡ first_over (main_first ns) k total rest
        → total + length (program_code (main_first ns) rest) ≡ length (program_code (main_first ns) ns)
        → (place_of (first_over (main_first ns) 0 0 ns) ≡ none) × (k ≡ length ns)
        × (total ≡ length (program_code (main_first ns) ns))
    by [] c s q = (ap place_of s, omega (arith, c), omega (arith, q))
    by (m ∷ rest) c s q = absurd (omega (arith, c))

-- the next method stands at the place
unfoldable pub next-there : (text : List ℕ) (w : WellNamed text) (at k total : ℕ)
    → LimitsUpTo text w.program at k total → k < length w.program → MethodThere text at k
unfolding method_at
next-there text w at k total r l =
    let (m, us, e, t) = by r.rest r.ends r.stands r.counted (r.further 0) in
    record { named = w; method = m; after = us; here = e; there = t }
  where
    by : (rest : Program) (ends : List (List Token)) → Stand (tokens_at text at) rest ends
        → k + length rest ≡ length w.program → method_at w.program (k + 0) ≡ method_at rest 0
        → (m : Method) × (us : List Token) × (method_from (tokens_at text at) ≡ read m us)
        × (method_at w.program k ≡ some m)
    by [] ends s c f = absurd (omega (arith, c))
    by (m ∷ rest) [] s c f = elim s [ ]
    by (m ∷ rest) (us ∷ ends) (stand e s) c f =
        (m, us, e, ap (method_at w.program) {x = k} {y = k + 0} (omega arith) ∙ f)

-- The method that stands there is judged
module _ (text : List ℕ) (at k total : ℕ) (h : MethodThere text at k)
    (r : LimitsUpTo text h.named.program at k total) where
  abbrev ns : Program
  ns = h.named.program

  abbrev ms : Program
  ms = main_first ns

  over-cases : (m : Method) (rest : Program) (b : Bool) → is_within k total ms m ≡ b
      → first_over ms k total (m ∷ rest)
      ≡ cond b (first_over ms (suc k) (total + length (method_code ms m)) rest) (some m.name)
  unfolding first_over
  over-cases m rest b e =
      ap (λ c. cond c (first_over ms (suc k) (total + length (method_code ms m)) rest) (some m.name)) e

  -- no limit is passed with it
  pub goes_on : {next long : ℕ} {row : List ℕ} → Within text at k h k total next long row → k < length ns
      → LimitsUpTo text ns next (k + 1) (total + long)
  unfolding method_at program_code
  goes_on {next} {long} a l = by r.rest r.ends r.stands r.further r.counted r.same r.sum
    where
      by : (rest : Program) (ends : List (List Token)) → Stand (tokens_at text at) rest ends
          → ((i : ℕ) → method_at ns (k + i) ≡ method_at rest i) → k + length rest ≡ length ns
          → first_over ms 0 0 ns ≡ first_over ms k total rest
          → total + length (program_code ms rest) ≡ length (program_code ms ns)
          → LimitsUpTo text ns next (k + 1) (total + long)
      by [] ends s f c q z = absurd (omega (arith, c))
      by (m ∷ rest) [] s f c q z = elim s [ ]
      by (m ∷ rest) (us ∷ ends) (stand e s) f c q z =
          let same : m ≡ h.method = same-tree m h.method us h.after (sym e ∙ h.here) in
          let left : us ≡ h.after = same_left m h.method us h.after (sym e ∙ h.here) in
          let counted : long ≡ length (method_code ms m) =
          a.counted ∙ ap (λ n. length (method_code ms n)) (sym same) in
          record {
            rest = rest;
            ends = ends;
            stands = subst (λ ts. Stand ts rest ends) (left ∙ a.after) s;
            further = λ i. ap (method_at ns) {x = k + 1 + i} {y = k + suc i} (omega arith) ∙ f (suc i);
            counted = omega (arith, c);
            same = q ∙ over-cases m rest true (ap (is_within k total ms) same ∙ sym a.answer)
                ∙ ap₂ (λ i j. first_over ms i j rest) {x = suc k} {y = k + 1} (omega arith)
                (ap (λ i. total + i) (sym counted));
            sum = omega (arith, z, counted, length-append (method_code ms m) (program_code ms rest));
          }

  -- a limit is passed with it, and with none before
  pub passed-there : {place : ℕ} → Over text at k h k total place → k < length ns
      → limit_refusal ns ≡ some place
  unfolding limit_refusal
  passed-there {place} a l = by r.rest r.ends r.stands r.counted r.same
    where
      by : (rest : Program) (ends : List (List Token)) → Stand (tokens_at text at) rest ends
          → k + length rest ≡ length ns → first_over ms 0 0 ns ≡ first_over ms k total rest
          → place_of (first_over ms 0 0 ns) ≡ some place
      by [] ends s c q = absurd (omega (arith, c))
      by (m ∷ rest) [] s c q = elim s [ ]
      by (m ∷ rest) (us ∷ ends) (stand e s) c q =
          let same : m ≡ h.method = same-tree m h.method us h.after (sym e ∙ h.here) in
          ap place_of (q ∙ over-cases m rest false (ap (is_within k total ms) same ∙ sym a.answer))
          ∙ ap some (ap (λ (n : Method). n.name.at) same ∙ sym a.place)
