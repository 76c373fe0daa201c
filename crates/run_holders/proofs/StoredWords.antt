-- The stored words say what the lines say: after each line, every one of the 64 words is the holder that the lines
-- give.
use Prim.Native.Nat.{ℕ, zero, suc, ◌+◌, ◌*◌, ◌≤◌, ◌<◌}
use mathlib.Core.Path.{◌≡◌, refl, sym, ◌∙◌, ap, ap₂, subst}
use mathlib.Core.Bool.{Bool, true, false, cond, ◌&&◌, beq, true≢false}
use mathlib.Core.Logic.{⊎_elim}
use mathlib.Core.List.{List, [], ◌∷◌, ◌++◌, append_assoc, append-nil}
use mathlib.Core.Option.{Option, some}
use native.Mathlib.Omega.{arith}
use borrow.Author.Tests.{eqb-true, eqb-false, ne_eqb, ltb-true, lt-ltb}
use lib.Dec.{eqb, ltb}
use lib.ListN.{length, get_or, set, take, length-append, length-set}
use lib.Seq.{get_or-set_same, get_or-set_other, get_or-append-add, take-suc, take_all, set-append_left}
use Rattle.lists.proofs.Tests.{decide}
use Rattle.machine.specs.Value.{qubit, end, covers, side_no}
use Rattle.machine.specs.State.{Line}
use Rattle.machine.specs.Owner.{holder, holder_after, no_line}
use Rattle.machine.specs.Answer.{trace_after}
use Rattle.machine.proofs.Holder.{holder-append}
use Rattle.trace.specs.ReadCode.{line_from}
use Rattle.layout.specs.Holders.{thing_at, holder_no, holder_words}
use Rattle.layout.proofs.HolderWords.{words-length, words-at, words_are, qubit-at, end-at, Place, of-qubit, of_end, place-of}
use Rattle.run_holders.specs.StoredCode.{qubit_stored, end_stored, channel_stored, gift_stored, stored_after, stored_after_lines}
use Rattle.run_holders.proofs.Holding.{holder_after-end, trace-line}

-- a cond of lists keeps a length

cond-long : (b : Bool) (xs ys : List ℕ) {n : ℕ} → length xs ≡ n → length ys ≡ n → length (cond b xs ys) ≡ n
cond-long true xs ys h g = h
cond-long false xs ys h g = g

module _ (base : ℕ) where
  qubit-long : (w : List ℕ) (n q : ℕ) → length (qubit_stored base w n q) ≡ length w
  unfolding qubit_stored
  qubit-long w n q = cond-long (ltb n 32) _ _ (length-set w (base + n) q) refl

  end-long : (w : List ℕ) (c d q : ℕ) → length (end_stored base w c d q) ≡ length w
  unfolding end_stored
  end-long w c d q = cond-long (ltb c 16) _ _ (length-set w (base + (32 + 2 * c + d)) q) refl

  channel-long : (w : List ℕ) (c q : ℕ) → length (channel_stored base w c q) ≡ length w
  unfolding channel_stored
  channel-long w c q = end-long (end_stored base w c 0 q) c 1 q ∙ end-long w c 0 q

  gift-long : (w : List ℕ) (l : Line) → length (gift_stored base w l) ≡ length w
  unfolding gift_stored
  gift-long w l =
      cond-long (eqb l.b 3) _ _ (qubit-long w l.c l.a)
      (cond-long (eqb l.b 4) _ _ (channel-long w l.c l.a)
      (cond-long (eqb l.b 5) _ _ (end-long w l.c 0 l.a)
      (cond-long (eqb l.b 6) _ _ (end-long w l.c 1 l.a) refl)))

  pub stored-long : (w : List ℕ) (l : Line) → length (stored_after base w l) ≡ length w
  unfolding stored_after
  stored-long w l =
      cond-long (eqb l.kind 6) _ _ (gift-long w l)
      (cond-long (eqb l.kind 2) _ _ (channel-long w l.a l.process)
      (cond-long (eqb l.kind 1) _ _ (qubit-long w l.a l.process) refl))

-- the 64 words between others are changed as they are alone

module _ (xs hs rest : List ℕ) (base : ℕ) (front : length xs ≡ base) where
  abbrev around : List ℕ → List ℕ
  around ws = xs ++ (ws ++ rest)

  set_after : (ys zs : List ℕ) (i v : ℕ) → set (ys ++ zs) (length ys + i) v ≡ ys ++ set zs i v
  set_after [] zs i v = ap (λ (k : ℕ). set zs k v) {x = 0 + i} {y = i} (omega arith)
  set_after (y ∷ ys) zs i v =
      ap (λ (k : ℕ). set (y ∷ (ys ++ zs)) k v) {x = suc (length ys) + i} {y = suc (length ys + i)} (omega arith)
      ∙ ap (λ (r : List ℕ). y ∷ r) (set_after ys zs i v)

  set-around : (ws : List ℕ) (i v : ℕ) → i < length ws → set (around ws) (base + i) v ≡ around (set ws (0 + i) v)
  set-around ws i v h =
      ap (λ (n : ℕ). set (around ws) (n + i) v) (sym front) ∙ set_after xs (ws ++ rest) i v
      ∙ ap (λ (k : ℕ). xs ++ set (ws ++ rest) k v) {x = i} {y = 0 + i} (omega arith)
      ∙ ap (λ (z : List ℕ). xs ++ z) (set-append_left ws rest (0 + i) v (omega (arith, h)))

  cond-around : (b : Bool) {w v : List ℕ} (ws vs : List ℕ) → (b ≡ true → w ≡ around ws) → v ≡ around vs
      → cond b w v ≡ around (cond b ws vs)
  cond-around true ws vs e f = e refl
  cond-around false ws vs e f = f

  qubit-around : (ws : List ℕ) → length ws ≡ 64 → (n q : ℕ)
      → qubit_stored base (around ws) n q ≡ around (qubit_stored 0 ws n q)
  unfolding qubit_stored
  qubit-around ws e n q = cond-around (ltb n 32) _ _ (λ t. set-around ws n q (omega (arith, e, ltb-true n 32 t))) refl

  end-around : (ws : List ℕ) → length ws ≡ 64 → (c d q : ℕ) → d < 2
      → end_stored base (around ws) c d q ≡ around (end_stored 0 ws c d q)
  unfolding end_stored
  end-around ws e c d q h =
      cond-around (ltb c 16) _ _ (λ t. set-around ws (32 + 2 * c + d) q (omega (arith, e, h, ltb-true c 16 t))) refl

  channel-around : (ws : List ℕ) → length ws ≡ 64 → (c q : ℕ)
      → channel_stored base (around ws) c q ≡ around (channel_stored 0 ws c q)
  unfolding channel_stored
  channel-around ws e c q =
      ap (λ (w : List ℕ). end_stored base w c 1 q) (end-around ws e c 0 q (omega arith))
      ∙ end-around (end_stored 0 ws c 0 q) (end-long 0 ws c 0 q ∙ e) c 1 q (omega arith)

  gift-around : (ws : List ℕ) → length ws ≡ 64 → (l : Line) → gift_stored base (around ws) l ≡ around (gift_stored 0 ws l)
  unfolding gift_stored
  gift-around ws e l =
      cond-around (eqb l.b 3) _ _ (λ t. qubit-around ws e l.c l.a)
      (cond-around (eqb l.b 4) _ _ (λ t. channel-around ws e l.c l.a)
      (cond-around (eqb l.b 5) _ _ (λ t. end-around ws e l.c 0 l.a (omega arith))
      (cond-around (eqb l.b 6) _ _ (λ t. end-around ws e l.c 1 l.a (omega arith)) refl)))

  stored-around : length hs ≡ 64 → (l : Line) → stored_after base (around hs) l ≡ around (stored_after 0 hs l)
  unfolding stored_after
  stored-around e l =
      cond-around (eqb l.kind 6) _ _ (λ t. gift-around hs e l)
      (cond-around (eqb l.kind 2) _ _ (λ t. channel-around hs e l.a l.process)
      (cond-around (eqb l.kind 1) _ _ (λ t. qubit-around hs e l.a l.process) refl))

-- word i of these words is what h says
record Says (ws : List ℕ) (i : ℕ) (h : Option ℕ) : Type 0 where
  so : get_or ws i 0 ≡ holder_no h

says-cond : {ws vs : List ℕ} {i : ℕ} {g h : Option ℕ} (b : Bool) → Says ws i g → Says vs i h
    → Says (cond b ws vs) i (cond b g h)
says-cond true x y = x
says-cond false x y = y

-- the same where the test leaves the holder as it was
says-still : {ws vs : List ℕ} {i : ℕ} {h : Option ℕ} (b : Bool) → Says ws i h → Says vs i h → Says (cond b ws vs) i h
says-still true x y = x
says-still false x y = y

module _ (ws : List ℕ) (long : length ws ≡ 64) where
  -- one word set: it is read there, and the others as they were
  set_same : (k i q : ℕ) → k ≡ i → i < 64 → Says (set ws k q) i (some q)
  unfolding holder_no
  set_same k i q e h =
      record { so = ap (λ (j : ℕ). get_or (set ws j q) i 0) e ∙ get_or-set_same ws i q 0 (omega (arith, h, long)) }

  set_other : {h : Option ℕ} (i j q : ℕ) → (j ≡ i → ⊥) → Says ws j h → Says (set ws i q) j h
  set_other i j q ne x = record { so = get_or-set_other ws i j q 0 ne ∙ x.so }

  -- a qubit's word after a qubit and after an end was stored
  qubit-qubit : {h : Option ℕ} (i n q : ℕ) → i < 32 → Says ws i h
      → Says (qubit_stored 0 ws n q) i (cond (eqb n i) (some q) h)
  unfolding qubit_stored
  qubit-qubit {h} i n q l x = ⊎_elim here elsewhere (decide (eqb n i))
    where
      here : eqb n i ≡ true → Says (cond (ltb n 32) (set ws (0 + n) q) ws) i (cond (eqb n i) (some q) h)
      here t =
          rw (t, eqb-true n i t, lt-ltb i 32 l) (set_same (0 + i) i q (omega arith) (omega (arith, l)))

      elsewhere : eqb n i ≡ false → Says (cond (ltb n 32) (set ws (0 + n) q) ws) i (cond (eqb n i) (some q) h)
      elsewhere f =
          rw f (says-still (ltb n 32) (set_other (0 + n) i q (λ e. eqb-false n i f (omega (arith, e))) x) x)

  qubit-end : {h : Option ℕ} (i c d q : ℕ) → i < 32 → Says ws i h → Says (end_stored 0 ws c d q) i h
  unfolding end_stored
  qubit-end i c d q l x =
      says-still (ltb c 16) (set_other (0 + (32 + 2 * c + d)) i q (λ e. absurd (omega (arith, e, l))) x) x

  -- an end's word after a qubit and after an end was stored
  end-qubit : {h : Option ℕ} (j n q : ℕ) → 32 ≤ j → Says ws j h → Says (qubit_stored 0 ws n q) j h
  unfolding qubit_stored
  end-qubit {h} j n q l x = ⊎_elim low high (decide (ltb n 32))
    where
      low : ltb n 32 ≡ true → Says (cond (ltb n 32) (set ws (0 + n) q) ws) j h
      low t = rw t (set_other (0 + n) j q (λ e. absurd (omega (arith, e, l, ltb-true n 32 t))) x)

      high : ltb n 32 ≡ false → Says (cond (ltb n 32) (set ws (0 + n) q) ws) j h
      high f = rw f x

  end-end : {h : Option ℕ} (c : ℕ) (d : Bool) (n : ℕ) (e : Bool) (q : ℕ) → c < 16 → Says ws (32 + 2 * c + side_no d) h
      → Says (end_stored 0 ws n (side_no e) q) (32 + 2 * c + side_no d) (cond (eqb n c && beq e d) (some q) h)
  unfolding end_stored
  end-end {h} c d n e q l x = ⊎_elim here elsewhere (decide (eqb n c))
    where
      by_side : (d e : Bool) → Says ws (32 + 2 * c + side_no d) h
          → Says (set ws (0 + (32 + 2 * c + side_no e)) q) (32 + 2 * c + side_no d) (cond (beq e d) (some q) h)
      by_side true true x = set_same (0 + (32 + 2 * c + 1)) (32 + 2 * c + 1) q (omega arith) (omega (arith, l))
      by_side true false x = set_other (0 + (32 + 2 * c + 0)) (32 + 2 * c + 1) q (λ i. absurd (omega (arith, i))) x
      by_side false true x = set_other (0 + (32 + 2 * c + 1)) (32 + 2 * c + 0) q (λ i. absurd (omega (arith, i))) x
      by_side false false x = set_same (0 + (32 + 2 * c + 0)) (32 + 2 * c + 0) q (omega arith) (omega (arith, l))

      here : eqb n c ≡ true
          → Says (cond (ltb n 16) (set ws (0 + (32 + 2 * n + side_no e)) q) ws) (32 + 2 * c + side_no d)
          (cond (eqb n c && beq e d) (some q) h)
      here t = rw (t, eqb-true n c t, lt-ltb c 16 l) (by_side d e x)

      apart : (n ≡ c → ⊥) → (d e : Bool) → 32 + 2 * c + side_no d ≡ 0 + (32 + 2 * n + side_no e) → ⊥
      apart ne true true i = ne (omega (arith, i))
      apart ne true false i = omega (arith, i)
      apart ne false true i = omega (arith, i)
      apart ne false false i = ne (omega (arith, i))

      elsewhere : eqb n c ≡ false
          → Says (cond (ltb n 16) (set ws (0 + (32 + 2 * n + side_no e)) q) ws) (32 + 2 * c + side_no d)
          (cond (eqb n c && beq e d) (some q) h)
      elsewhere f =
          rw f (says-still (ltb n 16) (set_other (0 + (32 + 2 * n + side_no e)) (32 + 2 * c + side_no d) q
          (apart (eqb-false n c f) d e) x) x)

-- both ends of a channel

qubit-channel : (ws : List ℕ) → length ws ≡ 64 → {h : Option ℕ} (i c q : ℕ) → i < 32 → Says ws i h
    → Says (channel_stored 0 ws c q) i h
unfolding channel_stored
qubit-channel ws long i c q l x =
    qubit-end (end_stored 0 ws c 0 q) (end-long 0 ws c 0 q ∙ long) i c 1 q l (qubit-end ws long i c 0 q l x)

end-channel : (ws : List ℕ) → length ws ≡ 64 → {h : Option ℕ} (c : ℕ) (d : Bool) (n q : ℕ) → c < 16
    → Says ws (32 + 2 * c + side_no d) h
    → Says (channel_stored 0 ws n q) (32 + 2 * c + side_no d) (cond (eqb n c) (some q) h)
unfolding channel_stored
end-channel ws long {h} c d n q l x =
    subst (Says (end_stored 0 (end_stored 0 ws n 0 q) n 1 q) (32 + 2 * c + side_no d)) (both (eqb n c) d)
    (end-end (end_stored 0 ws n 0 q) (end-long 0 ws n 0 q ∙ long) c d n true q l (end-end ws long c d n false q l x))
  where
    both : (b f : Bool)
        → cond (b && beq true f) (some q) (cond (b && beq false f) (some q) h) ≡ cond b (some q) h
    both true true = refl
    both true false = refl
    both false f = refl

-- the holder of a thing after a line, test by test as the words are changed: no line is of two kinds

one-kind : (l : Line) (m n : ℕ) → (m ≡ n → ⊥) → eqb l.kind m ≡ true → eqb l.kind n ≡ false
one-kind l m n ne e = ne_eqb l.kind n (λ i. ne (sym (eqb-true l.kind m e) ∙ i))

holder_after-qubit : (i : ℕ) (h : Option ℕ) (l : Line)
    → holder_after (qubit i) h l
    ≡ cond (eqb l.kind 6) (cond (eqb l.b 3) (cond (eqb l.c i) (some l.a) h) h)
    (cond (eqb l.kind 2) h (cond (eqb l.kind 1) (cond (eqb l.a i) (some l.process) h) h))
unfolding holder_after covers
holder_after-qubit i h l =
    kinds (eqb l.kind 1) (eqb l.kind 2) (eqb l.kind 6) (eqb l.b 3) (eqb l.b 4) (eqb l.b 5)
    (eqb l.b 6)
    (one-kind l 1 6 (λ e. omega (arith, e))) (one-kind l 2 6 (λ e. omega (arith, e)))
    (one-kind l 2 1 (λ e. omega (arith, e)))
  where
    kinds : (k1 k2 k6 b3 b4 b5 b6 : Bool) → (k1 ≡ true → k6 ≡ false) → (k2 ≡ true → k6 ≡ false)
        → (k2 ≡ true → k1 ≡ false)
        → cond k1 (cond (eqb l.a i) (some l.process) h)
        (cond k2 h
        (cond k6 (cond (cond b3 (eqb l.c i) (cond b4 false (cond b5 false (cond b6 false false)))) (some l.a) h)
        h))
        ≡ cond k6 (cond b3 (cond (eqb l.c i) (some l.a) h) h)
        (cond k2 h (cond k1 (cond (eqb l.a i) (some l.process) h) h))
    kinds true k2 true b3 b4 b5 b6 x y z = absurd (true≢false (x refl))
    kinds true true false b3 b4 b5 b6 x y z = absurd (true≢false (z refl))
    kinds true false false b3 b4 b5 b6 x y z = refl
    kinds false true true b3 b4 b5 b6 x y z = absurd (true≢false (y refl))
    kinds false true false b3 b4 b5 b6 x y z = refl
    kinds false false true true b4 b5 b6 x y z = refl
    kinds false false true false true b5 b6 x y z = refl
    kinds false false true false false true b6 x y z = refl
    kinds false false true false false false true x y z = refl
    kinds false false true false false false false x y z = refl
    kinds false false false b3 b4 b5 b6 x y z = refl

holder_after-side : (c : ℕ) (d : Bool) (h : Option ℕ) (l : Line)
    → holder_after (end c d) h l
    ≡ cond (eqb l.kind 6)
    (cond (eqb l.b 3) h
    (cond (eqb l.b 4) (cond (eqb l.c c) (some l.a) h)
    (cond (eqb l.b 5) (cond (eqb l.c c && beq false d) (some l.a) h)
    (cond (eqb l.b 6) (cond (eqb l.c c && beq true d) (some l.a) h) h))))
    (cond (eqb l.kind 2) (cond (eqb l.a c) (some l.process) h) h)
holder_after-side c d h l =
    holder_after-end c d h l
    ∙ turned (eqb l.kind 2) (eqb l.kind 6) (eqb l.b 3) (cond (eqb l.a c) (some l.process) h)
    (given l.b) (one-kind l 2 6 (λ e. omega (arith, e))) (λ e. ap given (eqb-true l.b 3 e))
  where
    given : ℕ → Option ℕ
    given b =
        cond (eqb b 4) (cond (eqb l.c c) (some l.a) h)
        (cond (eqb b 5) (cond (eqb l.c c && beq false d) (some l.a) h)
        (cond (eqb b 6) (cond (eqb l.c c && beq true d) (some l.a) h) h))

    turned : (k2 k6 b3 : Bool) (x y : Option ℕ) → (k2 ≡ true → k6 ≡ false) → (b3 ≡ true → y ≡ h)
        → cond k2 x (cond k6 y h) ≡ cond k6 (cond b3 h y) (cond k2 x h)
    turned true true b3 x y p q = absurd (true≢false (p refl))
    turned true false b3 x y p q = refl
    turned false true true x y p q = q refl
    turned false true false x y p q = refl
    turned false false b3 x y p q = refl

-- one more line

module _ (ws : List ℕ) (long : length ws ≡ 64) (l : Line) where
  stored-qubit : {h : Option ℕ} (i : ℕ) → i < 32 → Says ws i h → Says (stored_after 0 ws l) i (holder_after (qubit i) h l)
  unfolding stored_after gift_stored
  stored-qubit {h} i w x =
      subst (Says (stored_after 0 ws l) i) (sym (holder_after-qubit i h l))
      (says-cond (eqb l.kind 6)
      (says-cond (eqb l.b 3) (qubit-qubit ws long i l.c l.a w x)
      (says-still (eqb l.b 4) (qubit-channel ws long i l.c l.a w x)
      (says-still (eqb l.b 5) (qubit-end ws long i l.c 0 l.a w x)
      (says-still (eqb l.b 6) (qubit-end ws long i l.c 1 l.a w x) x))))
      (says-cond (eqb l.kind 2) (qubit-channel ws long i l.a l.process w x)
      (says-cond (eqb l.kind 1) (qubit-qubit ws long i l.a l.process w x) x)))

  stored-end : {h : Option ℕ} (c : ℕ) (d : Bool) → c < 16 → Says ws (32 + 2 * c + side_no d) h
      → Says (stored_after 0 ws l) (32 + 2 * c + side_no d) (holder_after (end c d) h l)
  unfolding stored_after gift_stored
  stored-end {h} c d w x =
      subst (Says (stored_after 0 ws l) (32 + 2 * c + side_no d)) (sym (holder_after-side c d h l))
      (says-cond (eqb l.kind 6)
      (says-cond (eqb l.b 3) (end-qubit ws long (32 + 2 * c + side_no d) l.c l.a (omega arith) x)
      (says-cond (eqb l.b 4) (end-channel ws long c d l.c l.a w x)
      (says-cond (eqb l.b 5) (end-end ws long c d l.c false l.a w x)
      (says-cond (eqb l.b 6) (end-end ws long c d l.c true l.a w x) x))))
      (says-cond (eqb l.kind 2) (end-channel ws long c d l.a l.process w x)
      (says-still (eqb l.kind 1) (end-qubit ws long (32 + 2 * c + side_no d) l.a l.process (omega arith) x) x)))

-- the words of the lines, with one line more
words_more : (ls : List Line) (l : Line) → stored_after 0 (holder_words ls) l ≡ holder_words (ls ++ (l ∷ []))
words_more ls l =
    words_are (stored_after 0 (holder_words ls) l) (ls ++ (l ∷ [])) (stored-long 0 (holder_words ls) l ∙ words-length ls)
    (λ i h. at_place i (place-of i h))
  where
    at_place : (i : ℕ) → Place i
        → get_or (stored_after 0 (holder_words ls) l) i 0 ≡ holder_no (holder (ls ++ (l ∷ [])) (thing_at i))
    at_place i (of-qubit q h) =
        (stored-qubit (holder_words ls) (words-length ls) l q h
        (record { so = words-at ls q (omega (arith, h)) ∙ ap (λ t. holder_no (holder ls t)) (qubit-at q h) })).so
        ∙ ap holder_no (sym (holder-append ls (l ∷ []) (qubit q)))
        ∙ ap (λ t. holder_no (holder (ls ++ (l ∷ [])) t)) (sym (qubit-at q h))
    at_place i (of_end c d h) =
        (stored-end (holder_words ls) (words-length ls) l c d h
        (record {
          so = words-at ls (32 + 2 * c + side_no d) (below_all d) ∙ ap (λ t. holder_no (holder ls t))
              (end-at c d h);
        })).so
        ∙ ap holder_no (sym (holder-append ls (l ∷ []) (end c d)))
        ∙ ap (λ t. holder_no (holder (ls ++ (l ∷ [])) t)) (sym (end-at c d h))
      where
        below_all : (d : Bool) → 32 + 2 * c + side_no d < 64
        below_all true = omega (arith, h)
        below_all false = omega (arith, h)

-- the lines of an entry, read back from the trace: the store's words after them
pub stored_lines : (xs rest : List ℕ) (ls ms : List Line) (trace0 : List ℕ) → length xs ≡ 8192
    → stored_after_lines (xs ++ (holder_words ls ++ rest)) (trace_after (ls ++ ms) trace0) (length ls) (length ms)
    ≡ xs ++ (holder_words (ls ++ ms) ++ rest)
unfolding stored_after_lines
stored_lines xs rest ls ms trace0 front =
    go (length ms) (omega arith) ∙ ap (λ (ns : List Line). xs ++ (holder_words (ls ++ ns) ++ rest))
    (take_all (length ms) ms (omega arith))
  where
    trace : List ℕ
    trace = trace_after (ls ++ ms) trace0

    line : (j : ℕ) → j < length ms → line_from trace (6 * (length ls + j)) ≡ get_or ms j no_line
    line j k =
        trace-line (ls ++ ms) trace0 (length ls + j) (omega (arith, length-append ls ms)) ∙ get_or-append-add ls ms j
        no_line

    joined : (j : ℕ) → j < length ms → (ls ++ take j ms) ++ (get_or ms j no_line ∷ []) ≡ ls ++ take (suc j) ms
    joined j k =
        append_assoc ls (take j ms) (get_or ms j no_line ∷ [])
        ∙ ap (λ (ns : List Line). ls ++ ns) (sym (take-suc ms j no_line k))

    go : (j : ℕ) → j ≤ length ms
        → stored_after_lines (xs ++ (holder_words ls ++ rest)) trace (length ls) j ≡ xs
        ++ (holder_words (ls ++ take j ms) ++ rest)
    go zero k = ap (λ (ns : List Line). xs ++ (holder_words ns ++ rest)) (sym (append-nil ls))
    go (suc j) k =
        ap₂ (stored_after 8192) (go j (omega (arith, k))) (line j k)
        ∙ stored-around xs (holder_words (ls ++ take j ms)) rest 8192 front (words-length (ls ++ take j ms))
        (get_or ms j no_line)
        ∙ ap (λ (ws : List ℕ). xs ++ (ws ++ rest)) (words_more (ls ++ take j ms) (get_or ms j no_line))
        ∙ ap (λ (ns : List Line). xs ++ (holder_words ns ++ rest)) (joined j k)
