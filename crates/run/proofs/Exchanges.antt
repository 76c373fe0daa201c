-- Paper 12, of what `run` leaves in the lent trace and the lent work store, whatever they held: exchanges of
-- neighbouring entries by the paper's condition change nothing in the work store and nothing in the answer, and of the
-- trace no more than the order of lines of gates.
--
-- `Exchanges` (crate exchange, specs/Exchange.antt) says that any number of such exchanges leads from the schedule xs
-- to the schedule ys, and `LinesKept` what of the lines stays. `store_left`, `trace_left` and `lines_read`
-- (specs/Answers.antt) are as in Demands.antt.
use Prim.Native.Nat.{ℕ, ◌*◌}
use mathlib.Core.Path.{◌≡◌, refl, sym, ◌∙◌, ap, subst₂}
use mathlib.Core.List.{List, ◌++◌}
use lib.ListN.{drop, length}
use lib.Dec.{leb}
use Rattle.table.specs.Questions.{Verdict, accepted, refused, and_then, whole, table_questions, question6, question7, question8, questions}
use Rattle.machine.specs.Run.{run}
use Rattle.machine.specs.Answer.{ran, result_answer, unless_refused, answer_of, lines_in}
use Rattle.layout.specs.Layout.{encode}
use Rattle.layout.specs.Holders.{thing_at, holder_no, holder_words, store_after}
use Rattle.layout.proofs.HolderWords.{words-length, words-at, words_are}
use Rattle.exchange.specs.Exchange.{Exchanges, SameAnswer, LinesKept}
use Rattle.exchange.proofs.Exchange.{exchanges, same_length}
use Rattle.run.specs.Answers.{kept_if_refused, trace_left, store_left, lines_read}
use Rattle.run.proofs.Buffers as buffers

module _ (p outcomes trace work xs ys : List ℕ) (e : Exchanges p outcomes (lines_in (length trace)) xs ys) where
  abbrev room : ℕ
  room = lines_in (length trace)

  same : SameAnswer (run p outcomes room xs) (run p outcomes room ys)
  same = (exchanges p outcomes room e).0

  -- the questions say the same to both
  asked-same : questions p xs outcomes (length work) ≡ questions p ys outcomes (length work)
  unfolding questions question7
  asked-same =
      ap (λ (n : ℕ). and_then (table_questions p)
      (and_then (question6 outcomes) (and_then (whole 7 (leb n 65535) 0) (question8 (length work)))))
      (same_length p outcomes room e)

  -- each thing has the same holder, so that the same holders are stored
  holders-same : holder_words (run p outcomes room xs).state.lines ≡ holder_words (run p outcomes room ys).state.lines
  holders-same =
      words_are (holder_words (run p outcomes room xs).state.lines) (run p outcomes room ys).state.lines
      (words-length (run p outcomes room xs).state.lines)
      (λ i h. words-at (run p outcomes room xs).state.lines i h ∙ ap holder_no (same.holders (thing_at i)))

  -- "with an equal final configuration": the work store is the same, word by word
  pub exchanged-store : store_left p xs outcomes trace work ≡ store_left p ys outcomes trace work
  unfolding store_left store_after
  exchanged-store =
      (λ i. kept_if_refused (asked-same i) work (encode (same.config i) ++ (holders-same i ++ drop 8256 work)))

  -- the end, and how many entries, lines and outcomes
  pub exchanged-answer : answer_of p xs outcomes room (length work) ≡ answer_of p ys outcomes room (length work)
  unfolding answer_of result_answer unless_refused
  exchanged-answer =
      ap (λ (v : Verdict). unless_refused v (run p outcomes room xs)) asked-same
      ∙ by (questions p ys outcomes (length work))
    where
      by : (v : Verdict) → unless_refused v (run p outcomes room xs) ≡ unless_refused v (run p outcomes room ys)
      by accepted = λ i. ran (same.end i) (same.entries i) (same.lines i) (same.used i)
      by (refused n i) = refl

  -- the words of the trace beyond the lines, and the lines
  module _ (ok : questions p xs outcomes (length work) ≡ accepted) where
    ok' : questions p ys outcomes (length work) ≡ accepted
    ok' = sym asked-same ∙ ok

    pub exchanged-rest : drop (6 * length (run p outcomes room xs).state.lines) (trace_left p xs outcomes trace work)
        ≡ drop (6 * length (run p outcomes room xs).state.lines) (trace_left p ys outcomes trace work)
    exchanged-rest =
        buffers.rest-kept p xs outcomes trace work ok
        ∙ ap (λ (n : ℕ). drop (6 * n) trace) same.lines
        ∙ sym (ap (λ (n : ℕ). drop (6 * n) (trace_left p ys outcomes trace work)) same.lines
        ∙ buffers.rest-kept p ys outcomes trace work ok')

    pub exchanged-lines : LinesKept (lines_read p xs outcomes trace work) (lines_read p ys outcomes trace work)
    exchanged-lines =
        subst₂ LinesKept (sym (buffers.lines-read p xs outcomes trace work ok))
        (sym (buffers.lines-read p ys outcomes trace work ok'))
        (exchanges p outcomes room e).1
