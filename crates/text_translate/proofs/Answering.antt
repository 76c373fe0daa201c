-- What each of the passes over a text says of its answer and of the buffer.
use Prim.Native.Nat.{ℕ, suc, ◌+◌, ◌*◌, ◌≤◌, ◌<◌}
use native.Mathlib.Omega.{arith}
use mathlib.Core.Path.{◌≡◌, refl, sym, ap, ◌∙◌}
use mathlib.Core.Bool.{Bool, true, false, cond}
use mathlib.Core.List.{List, [], ◌∷◌, ◌++◌}
use mathlib.Core.Option.{Option, none, some}
use lib.Dec.{leb}
use borrow.Author.Tests.{le-leb, lt-leb}
use lib.ListN.{length, drop, take, set, take-append-drop}
use lib.Seq.{drop-set-lt}
use Rattle.std.specs.Prelude as P
use Rattle.lists.specs.Lists.{put_from}
use Rattle.lists.proofs.Put.{put_from-take}
use Rattle.lists.proofs.Tests.{never}
use Rattle.text.specs.Tree.{Program, main_first}
use Rattle.text.specs.Translation.{program_code}
use Rattle.text.specs.Names.{name_refusal}
use Rattle.text.specs.Limits.{limit_refusal}
use Rattle.text.specs.Statement.{Translated, text_table}
use Rattle.text.proofs.Order.{main_first-length, main_first-code}
use Rattle.text.proofs.Words as program
use Rattle.text_parse.specs.Tokens.{Token, tokens_of}
use Rattle.text_parse.specs.Grammar.{Reading, read, leaves, program_of}
use Rattle.text_parse.specs.Text.{Text, refused_text, translated_text, or_else_refused, text_from, text_of}
use Rattle.text_program.specs.ProgramCode.{is_read, end_place}
use Rattle.text_names.specs.FaultCode.{Refuses}
use Rattle.text_names.specs.Answer.{fault_in}
use Rattle.text_put.specs.Measures.{TableText, Measures}
use Rattle.text_limits.specs.LimitsCode.{WellNamed}
use Rattle.text_code.specs.KeptCode.{CodeKept}
use Rattle.text_limits.specs.MeasuresCode.{LimitsSay, within, passed}
use Rattle.text_limits.specs.declared.limits.TableSize.{TableSize}
use Rattle.text_limits.specs.declared.method.LimitPassed.{LimitPassed}
use Rattle.text_translate.specs.Translate.{Answer, refused, table, short, answer_for, buffer_after}

-- an answer and a buffer are those of a text
abbrev pub Says : List ℕ → List ℕ → Answer → List ℕ → Type 0
Says text buffer a end = (a ≡ answer_for (length buffer) (text_of text)) × (end ≡ buffer_after buffer (text_of text))

refused_says : (text buffer : List ℕ) (n i : ℕ) → text_of text ≡ refused_text n i → Says text buffer (refused n i) buffer
unfolding answer_for buffer_after
refused_says text buffer n i e = (sym (ap (answer_for (length buffer)) e), sym (ap (buffer_after buffer) e))

-- words put from a buffer's start stand before what is kept of it

drop-put : (out : List ℕ) (at : ℕ) (bs : List ℕ) (n : ℕ) → at + length bs ≤ n → drop n (put_from out at bs) ≡ drop n out
unfolding put_from
drop-put out at [] n h = refl
drop-put out at (b ∷ bs) n h =
    drop-put (set out at b) (suc at) bs n (omega (arith, h)) ∙ drop-set-lt n out at b (omega (arith, h))

put_front : (out bs : List ℕ) → length bs ≤ length out → put_from out 0 bs ≡ bs ++ drop (length bs) out
put_front out bs h =
    sym (take-append-drop (length bs) (put_from out 0 bs))
    ∙ ap (λ (n : ℕ). take n (put_from out 0 bs) ++ drop (length bs) (put_from out 0 bs)) {x = length bs} {y = 0 + length
    bs} (omega arith)
    ∙ ap (λ (l : List ℕ). l ++ drop (length bs) (put_from out 0 bs)) (put_from-take out 0 bs (omega (arith, h)))
    ∙ ap (λ (l : List ℕ). bs ++ l) (drop-put out 0 bs (length bs) (omega arith))

-- 30: where the text leaves the grammar

left-at : (bytes : ℕ) (r : Reading Program) → is_read r ≡ false → text_from bytes r ≡ refused_text 30 (end_place bytes r)
unfolding is_read end_place text_from
left-at bytes (leaves i) e = refl
left-at bytes (read ms us) e = never (sym e)

pub grammar-says : (text buffer : List ℕ) {ok : Bool} {at : ℕ} → ok ≡ is_read (program_of (tokens_of text))
    → at ≡ end_place (length text) (program_of (tokens_of text)) → ok ≡ false → Says text buffer (refused 30 at) buffer
unfolding text_of
grammar-says text buffer {at = at} o a e =
    refused_says text buffer 30 at
    (left-at (length text) (program_of (tokens_of text)) (sym o ∙ e) ∙ ap (refused_text 30) (sym a))

-- 31: the tree, and what is known of its names

-- the text is in the grammar
record Read (text : List ℕ) : Type 0 where
  program : Program
  left : List Token
  reads : program_of (tokens_of text) ≡ read program left

read-so : (text : List ℕ) → is_read (program_of (tokens_of text)) ≡ true → Read text
unfolding is_read
read-so text e = by (program_of (tokens_of text)) refl e
  where
    by : (r : Reading Program) → program_of (tokens_of text) ≡ r → is_read r ≡ true → Read text
    by (read ms us) q t = record { program = ms; left = us; reads = q }
    by (leaves i) q t = never t

pub names-say : (text buffer : List ℕ) {i : ℕ} → is_read (program_of (tokens_of text)) ≡ true
    → Refuses text (fault_in (P.Some i)) → Says text buffer (refused 31 i) buffer
unfolding text_of text_from or_else_refused fault_in
names-say text buffer {i = i} e s =
    let t = read-so text e in
    let fault = s t.program t.left t.reads in
    refused_says text buffer 31 i
    (ap (text_from (length text)) t.reads
    ∙ ap (λ q. or_else_refused 31 q (or_else_refused 32 (limit_refusal t.program) (translated_text t.program)))
    (sym fault))

pub well-named : (text : List ℕ) → is_read (program_of (tokens_of text)) ≡ true → Refuses text (fault_in P.None)
    → WellNamed text
unfolding fault_in
well-named text e s =
    let t = read-so text e in record {
      program = t.program;
      left = t.left;
      reads = t.reads;
      names = sym (s t.program t.left t.reads);
    }

-- 32, or a table

pub table-length : (ms : Program)
    → length (text_table ms) ≡ 2 + 20 * length (main_first ms) + 2 * length (program_code (main_first ms) (main_first ms))
unfolding text_table
table-length ms = program.table-length (main_first ms)

module _ (text : List ℕ) (w : WellNamed text) where
  abbrev ms : Program
  ms = w.program

  judged : text_of text ≡ or_else_refused 32 (limit_refusal ms) (translated_text ms)
  unfolding text_of text_from or_else_refused
  judged =
      ap (text_from (length text)) w.reads
      ∙ ap (λ q. or_else_refused 31 q (or_else_refused 32 (limit_refusal ms) (translated_text ms))) w.names

  over : {i : ℕ} → limit_refusal ms ≡ some i → text_of text ≡ refused_text 32 i
  unfolding or_else_refused
  over e = judged ∙ ap (λ q. or_else_refused 32 q (translated_text ms)) e

  fits : limit_refusal ms ≡ none → text_of text ≡ translated_text ms
  unfolding or_else_refused
  fits e = judged ∙ ap (λ q. or_else_refused 32 q (translated_text ms)) e

  -- the words that the table has
  words : ℕ
  words = length (text_table ms)

  pub limits-say : {e : LimitPassed} {lengths rows kept : List ℕ} → LimitsSay ms (P.Err e) lengths rows kept
      → (buffer : List ℕ) → Says text buffer (refused 32 e.at) buffer
  limits-say {e} (passed k) buffer = refused_says text buffer 32 e.at (over k)

  module _ {size : TableSize} {lengths rows kept : List ℕ} (l : LimitsSay ms (P.Ok size) lengths rows kept) where
    abbrev methods : ℕ
    methods = size.methods

    abbrev instructions : ℕ
    instructions = size.instructions

    -- no limit is passed
    record Within : Type 0 where
      none_passed : limit_refusal ms ≡ none
      few : methods ≤ 32
      short-enough : instructions ≤ 4096
      measured : Measures ms methods instructions lengths rows
      codes : CodeKept ms methods lengths kept

    kept-within : Within
    kept-within = by l
      where
        by : LimitsSay ms (P.Ok size) lengths rows kept → Within
        by (within k m n d q) = record { none_passed = k; few = m; short-enough = n; measured = d; codes = q }

    pub few-methods : methods ≤ 32
    few-methods = kept-within.few

    pub few-instructions : instructions ≤ 4096
    few-instructions = kept-within.short-enough

    counted : words ≡ 2 + 20 * methods + 2 * instructions
    unfolding words
    counted =
        let m = kept-within.measured in
        omega (
          arith,
          table-length ms,
          m.count,
          m.total,
          main_first-length ms,
          main_first-code (main_first ms) ms,
        )

    -- the buffer is too short
    pub short-says : (buffer : List ℕ) → length buffer < 2 + 20 * methods + 2 * instructions
        → Says text buffer (short (2 + 20 * methods + 2 * instructions)) buffer
    unfolding answer_for buffer_after words
    short-says buffer q =
        let no = lt-leb words (length buffer) (omega (arith, q, counted)) in
        let is = fits kept-within.none_passed in (
          ap short (sym counted) ∙ sym (ap (λ b. cond b (table words) (short words)) no)
              ∙ sym (ap (answer_for (length buffer)) is),
          sym (ap (λ b. cond b (text_table ms ++ drop words buffer) buffer) no) ∙ sym (ap (buffer_after buffer) is),
        )

    -- the table is written
    pub table-says : (buffer end : List ℕ) {n : ℕ}
        → 2 + 20 * methods + 2 * instructions ≤ length buffer
        → ((ns : Program) → TableText text ns → Measures ns methods instructions lengths rows
        → CodeKept ns methods lengths kept → (end ≡ put_from buffer 0 (text_table ns)) × (n ≡ length (text_table ns)))
        → Says text buffer (table n) end
    unfolding answer_for buffer_after words
    table-says buffer end q written =
        let k = kept-within in
        let given : TableText text ms = record {
          left = w.left;
          reads = w.reads;
          kept = record { names = w.names; limits = k.none_passed };
        } in
        let put = written ms given k.measured k.codes in
        let yes = le-leb words (length buffer) (omega (arith, q, counted)) in
        let is = fits k.none_passed in (
          ap table put.1 ∙ sym (ap (λ b. cond b (table words) (short words)) yes)
              ∙ sym (ap (answer_for (length buffer)) is),
          put.0 ∙ put_front buffer (text_table ms) (omega (arith, q, counted))
              ∙ sym (ap (λ b. cond b (text_table ms ++ drop words buffer) buffer) yes)
              ∙ sym (ap (buffer_after buffer) is),
        )
