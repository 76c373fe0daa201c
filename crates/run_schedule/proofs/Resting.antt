-- The words beyond the configuration's: the stored holders and what the caller keeps. What is ready before an entry is
-- so whatever those words are, and the lines that a trace holds are the state's.
use Prim.Native.Nat.{ℕ, ◌*◌}
use mathlib.Core.Path.{◌≡◌, sym, ◌∙◌, ap}
use mathlib.Core.List.{List, ◌++◌}
use lib.ListN.{take, drop, length}
use lib.Seq.{take_at}
use Rattle.machine.specs.State.{Line}
use Rattle.machine.specs.Answer.{trace_words, trace_after}
use Rattle.trace.specs.Trace.{lines_of}
use Rattle.trace.proofs.LinesOf.{lines-back}
use Rattle.trace_lines.proofs.LineWritten.{trace-length}
use Rattle.layout.specs.Layout.{encode}
use Rattle.run_ability.specs.EndingCode.{ability_op}
use Rattle.run_burst.specs.declared.knowledge.Knowledge.{Knowledge}
use Rattle.run_schedule.proofs.Ready.{Inputs, Ready, at, not-able, unable}

-- the first lines that a trace holds
abbrev pub lines_to : List ℕ → ℕ → List Line
lines_to trace lines = lines_of (take (6 * lines) trace)

pub lines-to : (ls : List Line) (t0 : List ℕ) {trace : List ℕ} {lines : ℕ} → trace ≡ trace_after ls t0
    → lines ≡ length ls
    → lines_to trace lines ≡ ls
unfolding trace_after
lines-to ls t0 {trace} {lines} e n =
    ap (λ (w : List ℕ). lines_of (take (6 * lines) w)) e
    ∙ ap (λ (m : ℕ). lines_of (take (6 * m) (trace_words ls ++ drop (length (trace_words ls)) t0))) n
    ∙ ap lines_of (take_at (trace_words ls) (drop (length (trace_words ls)) t0) (6 * length ls) (trace-length ls))
    ∙ lines-back ls

module _ {p schedule outcomes t0 rest : List ℕ} {room : ℕ} (given : Inputs p schedule outcomes t0 rest room) where
  pub other-rest : (rest' : List ℕ) → Inputs p schedule outcomes t0 rest' room
  other-rest rest' =
      record {
        kept = given.kept;
        narrow = given.narrow;
        bytes = given.bytes;
        short = given.short;
        holds = given.holds;
      }

  pub ready-rest : (rest' : List ℕ) {k : ℕ} {work work' trace : List ℕ} {t : List (List ℕ)} {lines used : ℕ}
      {known : Knowledge}
      → Ready given k work trace t lines used known → work' ≡ encode (at given k).config ++ rest'
      → Ready (other-rest rest') k work' trace t lines used known
  ready-rest rest' {k} {work} {work'} {trace} {t} r e = record {
    runs = r.runs;
    inside = r.inside;
    store = e;
    written = r.written;
    counted = r.counted;
    drawn = r.drawn;
    table = r.table;
    sure = r.sure;
    idle = λ i n h m a.
        unable (other-rest rest') k r.table n h
        (not-able given k r.table n h (λ b. r.idle i n h m (ap (λ (w : List ℕ). ability_op p w t n) r.store ∙ b)))
        (ap (λ (w : List ℕ). ability_op p w t n) (sym e) ∙ a);
    fit = r.fit;
    few_lines = r.few_lines;
    few_used = r.few_used;
  }
