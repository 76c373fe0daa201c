-- The table says what the lines say: where a channel end has a holder by the lines, the table has it there.
use Prim.Native.Nat.{ℕ, zero, suc, ◌+◌, ◌*◌, ◌≤◌, ◌<◌}
use mathlib.Core.Path.{◌≡◌, refl, sym, ◌∙◌, ap, subst}
use mathlib.Core.Bool.{Bool, true, false, cond, ◌&&◌, beq, true≢false}
use mathlib.Core.Logic.{⊎_elim}
use mathlib.Core.List.{List, [], ◌∷◌, ◌++◌, append_assoc, append-nil}
use mathlib.Core.Option.{Option, some, some-injective, none-ne-some}
use native.Mathlib.Omega.{arith}
use borrow.Author.Tests.{eqb-true, eqb-false, ne_eqb}
use lib.Dec.{eqb}
use lib.ListN.{length, get_or, set, take, drop, length-append, get_or-append}
use lib.Seq.{get_or-set_same, get_or-set_other, get_or-append-add, take-suc, take_all}
use Rattle.lists.proofs.Any.{All-replicate}
use Rattle.lists.proofs.Tests.{decide}
use Rattle.machine.specs.Value.{end, covers, side_no}
use Rattle.machine.specs.State.{Line}
use Rattle.machine.specs.Owner.{holder, holder_after, no_line}
use Rattle.machine.specs.Answer.{trace_words, trace_after}
use Rattle.machine.proofs.Holder.{holder-append}
use Rattle.trace.specs.Trace.{lines_of}
use Rattle.trace.specs.ReadCode.{line_from}
use Rattle.trace.proofs.LinesOf.{lines_of-at, lines_of-words}
use Rattle.run_holders.specs.HoldersCode.{nobody, holder_in, end_given, channel_given, holders_after, holders_after_lines}
use Rattle.run_holders.proofs.Rows.{Shape, Two, holder-read, row-length, end-shape, noted-shape}

pub record Holding (t : List (List ℕ)) (ls : List Line) : Type 0 where
  pub shape : Shape t
  pub says : (c : ℕ) (d : Bool) (q : ℕ) → c < 16 → holder ls (end c d) ≡ some q → holder_in t c (side_no d) ≡ q

pub holding-none : Holding nobody []
unfolding nobody holder
holding-none = record {
  shape = record { rows = refl; two = All-replicate Two 16 (65535 ∷ 65535 ∷ []) refl };
  says = λ c d q h e. absurd (none-ne-some q e);
}

-- what is read after one place was changed: the new holder at that place, and the old one elsewhere
side-read : (r : List ℕ) (e d : Bool) (q : ℕ) → length r ≡ 2
    → get_or (set r (side_no e) q) (side_no d) 0 ≡ cond (beq e d) q (get_or r (side_no d) 0)
side-read r true true q h = get_or-set_same r 1 q 0 (omega (arith, h))
side-read r true false q h = get_or-set_other r 1 0 q 0 (λ p. omega (arith, p))
side-read r false true q h = get_or-set_other r 0 1 q 0 (λ p. omega (arith, p))
side-read r false false q h = get_or-set_same r 0 q 0 (omega (arith, h))

side-low : (d : Bool) → side_no d < 2
side-low true = omega arith
side-low false = omega arith

end_read : {t : List (List ℕ)} (n : ℕ) (e : Bool) (q c : ℕ) (d : Bool) → Shape t → c < 16
    → holder_in (end_given t n (side_no e) q) c (side_no d) ≡ cond (eqb n c && beq e d) q (holder_in t c (side_no d))
unfolding end_given
end_read {t} n e q c d s h =
    sym (side-word (end_given t n (side_no e) q)) ∙ ⊎_elim same other (decide (eqb n c))
    ∙ ap (cond (eqb n c && beq e d) q) (side-word t)
  where
    side-word : (u : List (List ℕ)) → get_or (get_or u c []) (side_no d) 0 ≡ holder_in u c (side_no d)
    side-word u = holder-read u c (side_no d) h (side-low d)

    new : ℕ → List ℕ
    new i = set (get_or t i []) (side_no e) q

    read : List ℕ → ℕ
    read r = get_or r (side_no d) 0

    same : eqb n c ≡ true → read (get_or (set t n (new n)) c []) ≡ cond (eqb n c && beq e d) q (read (get_or t c []))
    same p =
        rw p
        (ap (λ (i : ℕ). read (get_or (set t i (new i)) c [])) (eqb-true n c p)
        ∙ ap read (get_or-set_same t c (new c) [] (omega (arith, s.rows)))
        ∙ side-read (get_or t c []) e d q (row-length s c h))

    other : eqb n c ≡ false → read (get_or (set t n (new n)) c []) ≡ cond (eqb n c && beq e d) q (read (get_or t c []))
    other p = rw p (ap read (get_or-set_other t n c (new n) [] (λ z. eqb-false n c p (sym z))))

-- the table says of this end what h says
record Says (t : List (List ℕ)) (c : ℕ) (d : Bool) (h : Option ℕ) : Type 0 where
  so : (q : ℕ) → h ≡ some q → holder_in t c (side_no d) ≡ q

says-cond : {t u : List (List ℕ)} {c : ℕ} {d : Bool} {g h : Option ℕ} (b : Bool) → Says t c d g → Says u c d h
    → Says (cond b t u) c d (cond b g h)
says-cond true x y = x
says-cond false x y = y

says-end : {t : List (List ℕ)} → Shape t → {c : ℕ} (d : Bool) {h : Option ℕ} → c < 16 → Says t c d h
    → (n : ℕ) (e : Bool) (p : ℕ) → Says (end_given t n (side_no e) p) c d (cond (eqb n c && beq e d) (some p) h)
says-end {t} s {c} d {h} w x n e p = record { so = λ q k. end_read n e p c d s w ∙ pick q (eqb n c && beq e d) k }
  where
    pick : (q : ℕ) (b : Bool) → cond b (some p) h ≡ some q → cond b p (holder_in t c (side_no d)) ≡ q
    pick q true k = some-injective p q k
    pick q false k = x.so q k

says-channel : {t : List (List ℕ)} → Shape t → {c : ℕ} (d : Bool) {h : Option ℕ} → c < 16 → Says t c d h
    → (n p : ℕ) → Says (channel_given t n p) c d (cond (eqb n c) (some p) h)
unfolding channel_given
says-channel {t} s {c} d {h} w x n p =
    subst (Says (end_given (end_given t n 0 p) n 1 p) c d) (both (eqb n c) d)
    (says-end (end-shape n 0 p s) d w (says-end s d w x n false p) n true p)
  where
    both : (b f : Bool)
        → cond (b && beq true f) (some p) (cond (b && beq false f) (some p) h) ≡ cond b (some p) h
    both true true = refl
    both true false = refl
    both false f = refl

-- the holder of an end after a line, test by test as the table is changed: no line is of two kinds, nothing of two
-- things
pub holder_after-end : (c : ℕ) (d : Bool) (h : Option ℕ) (l : Line)
    → holder_after (end c d) h l
    ≡ cond (eqb l.kind 2) (cond (eqb l.a c) (some l.process) h)
    (cond (eqb l.kind 6)
    (cond (eqb l.b 4) (cond (eqb l.c c) (some l.a) h)
    (cond (eqb l.b 5) (cond (eqb l.c c && beq false d) (some l.a) h)
    (cond (eqb l.b 6) (cond (eqb l.c c && beq true d) (some l.a) h) h)))
    h)
unfolding holder_after covers
holder_after-end c d h l =
    kinds (eqb kind 1) (eqb kind 2) (eqb kind 6) (given (thing (eqb b 3) (eqb b 4) (eqb b 5) (eqb b 6)))
    (one kind 1 2 (omega arith)) (one kind 1 6 (omega arith))
    ∙ ap (λ (o : Option ℕ). cond (eqb kind 2) made (cond (eqb kind 6) o h))
    (things (eqb b 3) (eqb b 4) (eqb b 5) (eqb b 6) (one b 3 4 (omega arith)) (one b 3 5 (omega arith))
    (one b 3 6 (omega arith)))
  where
    kind : ℕ
    kind = l.kind

    b : ℕ
    b = l.b

    whole : Bool
    whole = eqb l.c c

    made : Option ℕ
    made = cond (eqb l.a c) (some l.process) h

    given : Bool → Option ℕ
    given x = cond x (some l.a) h

    -- what a giving says of the end, by its thing
    thing : Bool → Bool → Bool → Bool → Bool
    thing b3 b4 b5 b6 =
        cond b3 false (cond b4 whole (cond b5 (whole && beq false d) (cond b6 (whole && beq true d) false)))

    one : (x m n : ℕ) → m < n → eqb x m ≡ true → eqb x n ≡ false
    one x m n h e = ne_eqb x n (λ p. let is : x ≡ m = eqb-true x m e in omega arith)

    kinds : (k1 k2 k6 : Bool) (o : Option ℕ) → (k1 ≡ true → k2 ≡ false) → (k1 ≡ true → k6 ≡ false)
        → cond k1 h (cond k2 made (cond k6 o h)) ≡ cond k2 made (cond k6 o h)
    kinds true true k6 o x y = absurd (true≢false (x refl))
    kinds true false true o x y = absurd (true≢false (y refl))
    kinds true false false o x y = refl
    kinds false k2 k6 o x y = refl

    things : (b3 b4 b5 b6 : Bool) → (b3 ≡ true → b4 ≡ false) → (b3 ≡ true → b5 ≡ false) → (b3 ≡ true → b6 ≡ false)
        → given (thing b3 b4 b5 b6)
        ≡ cond b4 (given whole)
        (cond b5 (given (whole && beq false d)) (cond b6 (given (whole && beq true d)) h))
    things true true b5 b6 x y z = absurd (true≢false (x refl))
    things true false true b6 x y z = absurd (true≢false (y refl))
    things true false false true x y z = absurd (true≢false (z refl))
    things true false false false x y z = refl
    things false true b5 b6 x y z = refl
    things false false true b6 x y z = refl
    things false false false true x y z = refl
    things false false false false x y z = refl

-- one more line
says-noted : {t : List (List ℕ)} → Shape t → {c : ℕ} (d : Bool) {h : Option ℕ} → c < 16 → Says t c d h
    → (l : Line) → Says (holders_after t l) c d (holder_after (end c d) h l)
unfolding holders_after
says-noted {t} s {c} d {h} w x l =
    subst (Says (holders_after t l) c d) (sym (holder_after-end c d h l))
    (says-cond (eqb l.kind 2) (says-channel s d w x l.a l.process)
    (says-cond (eqb l.kind 6)
    (says-cond (eqb l.b 4) (says-channel s d w x l.c l.a)
    (says-cond (eqb l.b 5) (says-end s d w x l.c false l.a)
    (says-cond (eqb l.b 6) (says-end s d w x l.c true l.a) x)))
    x))

pub holding-more : (t : List (List ℕ)) (ls : List Line) (l : Line) → Holding t ls
    → Holding (holders_after t l) (ls ++ (l ∷ []))
holding-more t ls l h = record {
  shape = noted-shape l h.shape;
  says = λ c d q w e.
      (says-noted h.shape d w (record { so = λ p. h.says c d p w }) l).so q
      (sym (holder-append ls (l ∷ []) (end c d)) ∙ e);
}

pub trace-line : (ls : List Line) (trace0 : List ℕ) (i : ℕ) → i < length ls
    → line_from (trace_after ls trace0) (6 * i) ≡ get_or ls i no_line
unfolding trace_after
trace-line ls trace0 i h =
    sym (lines_of-at (trace_words ls ++ rest) i within)
    ∙ ap (λ (ms : List Line). get_or ms i no_line) (lines_of-words ls rest)
    ∙ get_or-append ls (lines_of rest) no_line i h
  where
    rest : List ℕ
    rest = drop (length (trace_words ls)) trace0

    within : i < length (lines_of (trace_words ls ++ rest))
    within = omega (arith, ap (λ (ms : List Line). length ms) (lines_of-words ls rest), length-append ls (lines_of rest))

-- the lines of an entry, read back from the trace
pub holding-lines : (t : List (List ℕ)) (ls ms : List Line) (trace0 : List ℕ) → Holding t ls
    → Holding (holders_after_lines t (trace_after (ls ++ ms) trace0) (length ls) (length ms)) (ls ++ ms)
unfolding holders_after_lines
holding-lines t ls ms trace0 h =
    subst (λ (ns : List Line). Holding (holders_after_lines t trace (length ls) (length ms)) (ls ++ ns))
    (take_all (length ms) ms (omega arith))
    (go (length ms) (omega arith))
  where
    trace : List ℕ
    trace = trace_after (ls ++ ms) trace0

    line : (j : ℕ) → j < length ms → line_from trace (6 * (length ls + j)) ≡ get_or ms j no_line
    line j k =
        trace-line (ls ++ ms) trace0 (length ls + j) (omega (arith, length-append ls ms))
        ∙ get_or-append-add ls ms j no_line

    joined : (j : ℕ) → j < length ms → (ls ++ take j ms) ++ (get_or ms j no_line ∷ []) ≡ ls ++ take (suc j) ms
    joined j k =
        append_assoc ls (take j ms) (get_or ms j no_line ∷ [])
        ∙ ap (λ (ns : List Line). ls ++ ns) (sym (take-suc ms j no_line k))

    go : (j : ℕ) → j ≤ length ms → Holding (holders_after_lines t trace (length ls) j) (ls ++ take j ms)
    go zero k = subst (Holding t) (sym (append-nil ls)) h
    go (suc j) k =
        subst (Holding (holders_after_lines t trace (length ls) (suc j))) (joined j k)
        (subst (λ (l : Line). Holding (holders_after (holders_after_lines t trace (length ls) j) l)
        ((ls ++ take j ms) ++ (get_or ms j no_line ∷ []))) (sym (line j k))
        (holding-more (holders_after_lines t trace (length ls) j) (ls ++ take j ms) (get_or ms j no_line)
        (go j (omega arith))))
