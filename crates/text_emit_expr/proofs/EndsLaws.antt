-- How the answer from one state on is that from another: an instruction written, one that waits from now on, one that
-- waited written.
use Prim.Native.Nat.{ℕ, suc, ◌+◌, ◌*◌, ◌≤◌, ◌<◌}
use native.Mathlib.Omega.{arith}
use mathlib.Core.Path.{◌≡◌, refl, sym, ap, ◌∙◌, subst}
use mathlib.Core.Bool.{Bool, true, false, ◌&&◌}
use mathlib.Core.List.{List, [], ◌∷◌}
use borrow.Author.Tests.{lt-leb}
use lib.Dec.{leb}
use lib.ListN.{length}
use Rattle.lists.specs.Lists.{every, put_from}
use Rattle.lists.proofs.Tests.{clash, passes}
use Rattle.text.specs.Translation.{Instruction, code_words}
use Rattle.text_parse.specs.Tokens.{Token}
use Rattle.text_parse.specs.Grammar.{Reading, read, leaves}
use Rattle.text_numbering.specs.CodeBy.{number_fits}
use Rattle.text_emit_expr.specs.RestCode.{prefixed}
use Rattle.text_emit_expr.specs.EndsCode.{Answer, Outcome, Ends}
use Rattle.text_emit_expr.proofs.EndedRest.{not_left}
use Rattle.text_emit_expr.proofs.StackLaws.{AtLeast}

abbrev code_in : Reading (List Instruction) → List Instruction
code_in (read c us) = c
code_in (leaves i) = []

abbrev left_in : Reading (List Instruction) → List Token
left_in (read c us) = us
left_in (leaves i) = []

-- Answers that say no

-- what is left does not fit, whatever it is
abbrev pub Refused : ℕ → Reading (List Instruction) → Type 0
Refused count m = (c : List Instruction) (us : List Token) → m ≡ read c us
    → (leb (count + length c) 4096 && every number_fits c) ≡ false

refused-outcome : (text : List ℕ) (low count : ℕ) (code : List ℕ) (c : List Instruction) (us : List Token) (r : Answer)
    → r.ok ≡ false → (leb (count + length c) 4096 && every number_fits c) ≡ false
    → Outcome text low count code c us r
refused-outcome text low count code c us r o v = record {
  judged = o ∙ sym v;
  left = λ e. absurd (clash o (passes e));
  onward = λ e. absurd (clash o (passes e));
  inside = λ e. absurd (clash o (passes e));
  counted = λ e. absurd (clash o (passes e));
  written = λ e. absurd (clash o (passes e));
}

pub refused-ends : (text : List ℕ) (low count : ℕ) (code : List ℕ) (m : Reading (List Instruction)) (r : Answer)
    → r.ok ≡ false → Refused count m → Ends text low count code m r
refused-ends text low count code m r o f c us e = refused-outcome text low count code c us r o (f c us e)

pub and-false : (b : Bool) → (b && false) ≡ false
and-false true = refl
and-false false = refl

-- too many instructions are left
pub long-refused : (count n : ℕ) (m : Reading (List Instruction)) → AtLeast n m → 4096 < count + n → Refused count m
long-refused count n m h le c us e =
    let l : n ≤ length c = h c us e in
    rw (lt-leb (count + length c) 4096 (omega arith)) refl

-- the first that is left is a number that is too large
pub large-refused : (count : ℕ) (i : Instruction) (m : Reading (List Instruction)) → number_fits i ≡ false
    → Refused count (prefixed (i ∷ []) m)
unfolding prefixed
large-refused count i (read d us) f c vs e =
    subst (λ x. (leb (count + length x) 4096 && every number_fits x) ≡ false) (ap code_in e)
    (rw f (and-false (leb (count + length (i ∷ d)) 4096)))
large-refused count i (leaves j) f c vs e = absurd (not_left refl e)

-- no place is left for the first
pub full-refused : (count : ℕ) (i : Instruction) (m : Reading (List Instruction)) → 4096 ≤ count
    → Refused count (prefixed (i ∷ []) m)
unfolding prefixed
full-refused count i (read d us) h c vs e =
    subst (λ x. (leb (count + length x) 4096 && every number_fits x) ≡ false) (ap code_in e)
    (rw (lt-leb (count + length (i ∷ d)) 4096 (omega arith)) refl)
full-refused count i (leaves j) h c vs e = absurd (not_left refl e)

-- Answers and the first instruction that is left

-- where the answers are those of what is left, and the text is read further
pub ends-lower : (text : List ℕ) (low high count : ℕ) (code : List ℕ) (m : Reading (List Instruction)) (r : Answer)
    → low ≤ high → Ends text high count code m r → Ends text low count code m r
ends-lower text low high count code m r le h c us e =
    let o = h c us e in record {
      judged = o.judged;
      left = o.left;
      onward = λ t. (let l : high ≤ r.at = o.onward t in omega arith);
      inside = o.inside;
      counted = o.counted;
      written = o.written;
    }

pub put-more : (code : List ℕ) (count : ℕ) (i : Instruction) (c : List Instruction)
    → put_from (put_from code (2 * count) (i.op ∷ i.argument ∷ [])) (2 * (count + 1)) (code_words c)
    ≡ put_from code (2 * count) (code_words (i ∷ c))
unfolding put_from code_words
put-more code count i c =
    ap (λ (j : ℕ). put_from (put_from code (2 * count) (i.op ∷ i.argument ∷ [])) j (code_words c))
    {x = 2 * (count + 1)} {y = suc (suc (2 * count))} (omega arith)

pub ends-put : (text : List ℕ) (low count : ℕ) (code : List ℕ) (i : Instruction) (m : Reading (List Instruction))
    (r : Answer) → number_fits i ≡ true
    → Ends text low (count + 1) (put_from code (2 * count) (i.op ∷ i.argument ∷ [])) m r
    → Ends text low count code (prefixed (i ∷ []) m) r
unfolding prefixed
ends-put text low count code i (leaves j) r f h c us e = absurd (not_left refl e)
ends-put text low count code i (read d vs) r f h c us e =
    let o = h d vs refl in
    subst (λ x. Outcome text low count code x us r) (ap code_in e)
    (subst (λ ts. Outcome text low count code (i ∷ d) ts r) (ap left_in e) (record {
      judged = o.judged
          ∙ ap (λ (n : ℕ). leb n 4096 && every number_fits d) {x = count + 1 + length d} {y = count + suc (length d)}
          (omega arith)
          ∙ ap (λ (b : Bool). leb (count + suc (length d)) 4096 && (b && every number_fits d)) (sym f);
      left = o.left;
      onward = o.onward;
      inside = o.inside;
      counted = λ t. o.counted t ∙ omega arith;
      written = λ t. o.written t ∙ put-more code count i d;
    }))
