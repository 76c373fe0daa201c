-- What the emission of a method says of its limits.
use Prim.Native.Nat.{ℕ, suc, ◌+◌, ◌≤◌, ◌<◌}
use native.Mathlib.Omega.{arith}
use mathlib.Core.Logic.{inl, inr}
use mathlib.Core.Path.{◌≡◌, sym, ap, subst, ◌∙◌}
use mathlib.Core.Bool.{Bool, true, false}
use mathlib.Core.List.{List}
use lib.Dec.{leb}
use lib.ListN.{get_or, length, take}
use lib.Seq.{get_or-take}
use borrow.Author.Tests.{lt-leb}
use Rattle.lists.specs.Lists.{every, put_from}
use Rattle.lists.proofs.Tests.{never}
use Rattle.lists.proofs.Put.{put_from-take, put_from-length}
use Rattle.text.specs.Tree.{Method, Program, main_first, number_of}
use Rattle.text.specs.Translation.{code_words, slot_codes, method_code}
use Rattle.text.specs.Limits.{is_number, all_numbers_in, header_kept, method_kept}
use Rattle.text.proofs.Words.{code_words-length}
use Rattle.text_parse.specs.Grammar.{Reading, read}
use Rattle.text_parse.specs.Equations.{method_from}
use Rattle.text_tokens.specs.Places.{tokens_at}
use Rattle.text_numbering.specs.CodeBy.{place_of}
use Rattle.text_code.specs.StatementBy.{method_by}
use Rattle.text_code.specs.KeptCode.{CodeOf}
use Rattle.text_code.proofs.Numbered.{method-numbered}
use Rattle.text_judged.proofs.Alike.{length-alike}
use Rattle.text_judged.proofs.Callees.{Callee, text-alike}
use Rattle.text_emit_method.specs.MethodCode.{NameAt, TooLarge, MethodWritten, MethodEmits, emitted, too_large}
use Rattle.text_limits.specs.LimitsCode.{MethodThere, is_within, Emitted, Within, Over}
use Rattle.text_limits.proofs.Within.{and-off, off-and}

-- the words that are put from the first on
put-at : (out bs : List ℕ) (i : ℕ) → length bs ≤ length out → i < length bs → get_or (put_from out 0 bs) i 0 ≡ get_or bs i 0
put-at out bs i h l =
    sym (get_or-take (length bs) (put_from out 0 bs) i 0 l)
    ∙ ap (λ xs. get_or xs i 0)
    (ap (λ k. take k (put_from out 0 bs)) {x = length bs} {y = 0 + length bs} (omega arith)
    ∙ put_from-take out 0 bs (omega arith))

module _ (text : List ℕ) (at index : ℕ) (h : MethodThere text at index) (ok : Bool) (next start end long : ℕ)
    (row code code' : List ℕ) (before total : ℕ) (enough : 8192 ≤ length code) where
  abbrev ms : Program
  ms = main_first h.named.program

  abbrev m : Method
  m = h.method

  abbrev Emits : Reading Method → Type 0
  Emits r = MethodEmits text ms at ok next start end long row code code' r

  same-long : length (method_by place_of ms m) ≡ length (method_code ms m)
  same-long =
      length-alike (Callee text ms) place_of (number_of ms)
      (text-alike text h.named.program h.named.left h.named.reads h.named.names (number_of ms) index m
      h.there)
      ∙ ap length (sym (method-numbered ms m))

  -- what is written
  written : Emits (method_from (tokens_at text at)) → ok ≡ true
      → NameAt text m start end × MethodWritten text ms m h.after at next long row code code'
  written e t = by (subst Emits h.here e)
    where
      by : Emits (read m h.after)
          → NameAt text m start end × MethodWritten text ms m h.after at next long row code code'
      by (emitted n o w) = (n, w)
      by (too_large n o w) = never (sym o ∙ t)

  pub is-emitted : Emits (method_from (tokens_at text at)) → ok ≡ true → Emitted text code' row start end long
  is-emitted e t =
      let (n, w) = written e t in
      let c = code_words (method_by place_of ms m) in
      record {
        named = h.named;
        index = index;
        method = m;
        there = h.there;
        name = (written e t).0;
        own_row = w.own;
        numbers = w.numbers;
        slots = w.slots;
        counted = w.counted;
        short = w.few;
        enough = omega (arith, ap length w.words, put_from-length code 0 c, w.few);
        words = λ i l. ap (λ xs. get_or xs i 0) w.words
            ∙ put-at code c i (omega (arith, code_words-length (method_by place_of ms m), w.counted, w.few))
            (omega (arith, code_words-length (method_by place_of ms m), w.counted));
      }

  -- the code that is written is the method's
  pub its-code : Emits (method_from (tokens_at text at)) → ok ≡ true → CodeOf ms m code' long
  unfolding is-emitted
  its-code e t = (is-emitted e t).words

  -- what does not fit passes a limit
  large : TooLarge ms m → is_within before total ms m ≡ false
  unfolding method_kept
  large (inl l) =
      and-off (leb (suc before) 32) _ (off-and (leb (total + length (method_code ms m)) 4096) (method_kept ms m)
      (lt-leb (total + length (method_code ms m)) 4096 (omega (arith, same-long))))
  large (inr (inl e)) =
      and-off (leb (suc before) 32) _ (and-off (leb (total + length (method_code ms m)) 4096) (method_kept ms m)
      (and-off (leb (length m.parameters) 8) _ (and-off (leb (length (slot_codes m)) 16) _
      (and-off (header_kept m) _ (off-and (every is_number (all_numbers_in m.statements)) _ e)))))
  large (inr (inr l)) =
      and-off (leb (suc before) 32) _ (and-off (leb (total + length (method_code ms m)) 4096) (method_kept ms m)
      (and-off (leb (length m.parameters) 8) _ (off-and (leb (length (slot_codes m)) 16) _
      (lt-leb (length (slot_codes m)) 16 l))))

  -- where emission stops
  pub refused : Emits (method_from (tokens_at text at)) → ok ≡ false
      → Over text at index h before total start
  refused e f = by (subst Emits h.here e)
    where
      by : Emits (read m h.after) → Over text at index h before total start
      by (emitted n o w) = never (sym f ∙ o)
      by (too_large n o w) = record { place = n.place; answer = sym (large w) }

  -- where it goes on
  pub goes-on : Emits (method_from (tokens_at text at)) → ok ≡ true
      → ((x : Emitted text code' row start end long)
      → true ≡ is_within before total (main_first x.named.program) x.method)
      → Within text at index h before total next long row
  unfolding is-emitted
  goes-on e t q =
      let (n, w) = written e t in
      record {
        answer = q (is-emitted e t);
        after = w.left;
        own_row = w.own;
        counted = w.counted ∙ same-long;
      }

  -- the place of the name
  pub named-at : Emits (method_from (tokens_at text at)) → ok ≡ true → start ≡ h.method.name.at
  named-at e t = (written e t).0.place

  pub stops : Emits (method_from (tokens_at text at)) → ok ≡ true
      → ((x : Emitted text code' row start end long)
      → false ≡ is_within before total (main_first x.named.program) x.method)
      → Over text at index h before total start
  unfolding is-emitted
  stops e t q = record { place = (written e t).0.place; answer = q (is-emitted e t) }
