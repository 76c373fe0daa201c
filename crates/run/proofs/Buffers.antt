-- The answer and the lent buffers after `run`, by the verdict of the questions, and what is read back from them. The
-- demands (Demands.antt) are put together from these.
use Prim.Native.Nat.{ℕ, suc, ◌+◌, ◌*◌, ◌≤◌, ◌<◌}
use mathlib.Core.Path.{◌≡◌, sym, ◌∙◌, ap, ap₂}
use mathlib.Core.List.{List, [], ◌∷◌, ◌++◌, append_assoc}
use native.Mathlib.Omega.{arith}
use lib.ListN.{get_or, take, drop, length, length-append, get_or-append}
use lib.Seq.{take_at, drop_at, get_or-append-add}
use Rattle.lists.proofs.Tests.{cond_both}
use Rattle.table.specs.Questions.{Verdict, accepted, refused, questions}
use Rattle.machine.specs.State.{Line, State}
use Rattle.machine.specs.Entry.{effect_of}
use Rattle.machine.specs.Run.{Result, all_over, none_able, fits, after_effect, run_from, run, run_from_in, run_in}
use Rattle.machine.specs.Owner.{holder}
use Rattle.machine.specs.Answer.{Answer, refusal, ran, result_answer, answer_of, lines_in, trace_words, trace_after}
use Rattle.machine.specs.Answer as machine
use Rattle.machine.specs.Sound.{ConfigSound}
use Rattle.machine.proofs.Sound.{sound}
use Rattle.layout.specs.Layout.{encode, decode}
use Rattle.layout.specs.Holders.{thing_at, holder_no, holder_words, store_after}
use Rattle.layout.proofs.HolderWords.{words-length, words-at}
use Rattle.layout.specs.Places.{InStore}
use Rattle.layout.proofs.RoundTrip.{encode-length, run-back}
use Rattle.layout.proofs.Unused.{unused-zero}
use Rattle.trace.specs.Trace.{lines_of}
use Rattle.trace.proofs.LinesOf.{lines-back}
use Rattle.trace_lines.proofs.LineWritten.{trace-length}
use Rattle.run_schedule.proofs.Accepting.{table_kept, outcomes-small}
use Rattle.run.specs.Answers.{kept_if_refused, trace_left, store_left, lines_no, used_no, config_read, lines_read, state_read}

-- a run from any state ends in one of four ways
ends-from : (p outcomes : List ℕ) (room : ℕ) (s : State) (k : ℕ) (schedule : List ℕ)
    → (run_from p outcomes room s k schedule).end ≤ 3
unfolding run_from_in
ends-from p outcomes room s k [] =
    cond_both (λ (r : Result). r.end ≤ 3) (all_over s) (omega arith)
    (cond_both (λ (r : Result). r.end ≤ 3) (none_able p outcomes s) (omega arith) (omega arith))
ends-from p outcomes room s k (n ∷ schedule) =
    cond_both (λ (r : Result). r.end ≤ 3) (all_over s) (omega arith)
    (cond_both (λ (r : Result). r.end ≤ 3) (none_able p outcomes s) (omega arith)
    (cond_both (λ (r : Result). r.end ≤ 3) (fits room s (effect_of p outcomes k s n))
    (ends-from p outcomes room (after_effect s (effect_of p outcomes k s n)) (suc k) schedule) (omega arith)))

pub four-ends : (p schedule outcomes trace : List ℕ) → (run p outcomes (lines_in (length trace)) schedule).end ≤ 3
unfolding run_in
four-ends p schedule outcomes trace = ends-from p outcomes (lines_in (length trace)) _ 0 schedule

module _ (p schedule outcomes trace work : List ℕ) where
  abbrev verdict : Verdict
  verdict = questions p schedule outcomes (length work)

  abbrev result : Result
  result = run p outcomes (lines_in (length trace)) schedule

  abbrev lines : List Line
  lines = result.state.lines

  -- where a question says no

  module _ (n i : ℕ) (says : verdict ≡ refused n i) where
    pub answer-refused : answer_of p schedule outcomes (lines_in (length trace)) (length work) ≡ refusal n i
    unfolding answer_of machine.unless_refused
    answer-refused = ap (λ (v : Verdict). machine.unless_refused v result) says

    pub trace-refused : trace_left p schedule outcomes trace work ≡ trace
    unfolding trace_left kept_if_refused
    trace-refused = ap (λ (v : Verdict). kept_if_refused v trace (trace_after lines trace)) says

    pub store-refused : store_left p schedule outcomes trace work ≡ work
    unfolding store_left kept_if_refused
    store-refused = ap (λ (v : Verdict). kept_if_refused v work (store_after result.state work)) says

  -- where all are passed

  module _ (ok : verdict ≡ accepted) where
    pub answer-ran : answer_of p schedule outcomes (lines_in (length trace)) (length work)
        ≡ ran result.end result.entries (length lines) result.state.used
    unfolding answer_of machine.unless_refused result_answer
    answer-ran = ap (λ (v : Verdict). machine.unless_refused v result) ok

    trace-is : trace_left p schedule outcomes trace work ≡ trace_after lines trace
    unfolding trace_left kept_if_refused
    trace-is = ap (λ (v : Verdict). kept_if_refused v trace (trace_after lines trace)) ok

    -- the words beyond the configuration's: the holders, and what was there
    abbrev rest : List ℕ
    rest = holder_words lines ++ drop 8256 work

    store_is : store_left p schedule outcomes trace work ≡ encode result.state.config ++ rest
    unfolding store_left kept_if_refused store_after
    store_is = ap (λ (v : Verdict). kept_if_refused v work (store_after result.state work)) ok

    pub config-sound : ConfigSound p result.state.config
    config-sound =
        (sound p outcomes (lines_in (length trace)) schedule (table_kept p schedule outcomes (length work) ok)
        (outcomes-small p schedule outcomes (length work) ok)).config

    words-whole : length (encode result.state.config) ≡ 8192
    words-whole = encode-length p result.state.config config-sound

    -- the store has these words at least
    pub store_long : 8256 ≤ length (store_left p schedule outcomes trace work)
    store_long =
        omega (
          arith,
          ap (λ (ws : List ℕ). length ws) store_is,
          length-append (encode result.state.config) rest,
          length-append (holder_words lines) (drop 8256 work),
          words-whole,
          words-length lines,
        )

    pub lines-read : lines_read p schedule outcomes trace work ≡ lines
    unfolding lines_read lines_no trace_after
    lines-read =
        ap₂ (λ (a : Answer) (w : List ℕ). lines_of (take (6 * lines_no a) w)) answer-ran trace-is
        ∙ ap lines_of
        (take_at (trace_words lines) (drop (length (trace_words lines)) trace) (6 * length lines) (trace-length lines))
        ∙ lines-back lines

    pub rest-kept : drop (6 * length lines) (trace_left p schedule outcomes trace work) ≡ drop (6 * length lines) trace
    unfolding trace_after
    rest-kept =
        ap (drop (6 * length lines)) trace-is
        ∙ drop_at (trace_words lines) (drop (length (trace_words lines)) trace) (6 * length lines) (trace-length lines)
        ∙ ap (λ (n : ℕ). drop n trace) (trace-length lines)

    pub config-read : config_read p schedule outcomes trace work ≡ result.state.config
    unfolding config_read
    config-read =
        ap (λ (w : List ℕ). decode (take 8192 w)) store_is
        ∙ ap decode (take_at (encode result.state.config) rest 8192 words-whole)
        ∙ run-back p outcomes (lines_in (length trace)) schedule (table_kept p schedule outcomes (length work) ok)
        (outcomes-small p schedule outcomes (length work) ok)

    pub beyond-kept : drop 8256 (store_left p schedule outcomes trace work) ≡ drop 8256 work
    beyond-kept =
        ap (drop 8256) (store_is ∙ sym (append_assoc (encode result.state.config) (holder_words lines)
        (drop 8256 work)))
        ∙ drop_at (encode result.state.config ++ holder_words lines) (drop 8256 work) 8256
        (length-append (encode result.state.config) (holder_words lines) ∙ omega
        (arith, words-whole, words-length lines))

    pub holder-read : (i : ℕ) → i < 64
        → get_or (store_left p schedule outcomes trace work) (8192 + i) 0 ≡ holder_no (holder lines (thing_at i))
    holder-read i h =
        ap (λ (ws : List ℕ). get_or ws (8192 + i) 0) store_is
        ∙ ap (λ (n : ℕ). get_or (encode result.state.config ++ rest) (n + i) 0) (sym words-whole)
        ∙ get_or-append-add (encode result.state.config) rest i 0
        ∙ get_or-append (holder_words lines) (drop 8256 work) 0 i (omega (arith, h, words-length lines))
        ∙ words-at lines i h

    pub unused-read : (w : ℕ) → w < 8192 → (InStore result.state.config w → ⊥)
        → get_or (store_left p schedule outcomes trace work) w 0 ≡ 0
    unused-read w h free =
        ap (λ (ws : List ℕ). get_or ws w 0) store_is
        ∙ get_or-append (encode result.state.config) rest 0 w (omega (arith, words-whole))
        ∙ unused-zero p result.state.config config-sound w free

    pub state-read : state_read p schedule outcomes trace work ≡ result.state
    unfolding state_read used_no
    state-read = λ i. record { config = config-read i; used = ap used_no answer-ran i; lines = lines-read i }
