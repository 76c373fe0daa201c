-- What an exchange of the lines of two entries leaves: each process's own lines in their order, and every line that is
-- not of a gate.
use Prim.Native.Nat.{ℕ, zero, suc, ◌+◌}
use mathlib.Core.Path.{◌≡◌, refl, sym, ◌∙◌, ap, ap₂}
use mathlib.Core.Logic.{◌≢◌, ◌⊎◌, inl, inr, ⊎_elim}
use mathlib.Core.Bool.{Bool, true, false, cond, ◌||◌, not}
use mathlib.Core.List.{List, [], ◌∷◌, ◌++◌, map, append_assoc, append-nil, map-append}
use native.Mathlib.Omega.{arith}
use lib.ListN.{length, replicate}
use lib.Dec.{eqb}
use borrow.Author.Tests.{eqb-true, ne_eqb, eq-eqb}
use Rattle.lists.specs.Lists.{All}
use Rattle.lists.proofs.Tests.{decide}
use Rattle.machine.specs.State.{Line, Event, line_of}
use Rattle.exchange.specs.Exchange.{LinesExchanged, OfGate, LinesKept, without_entry, gate_on, lines_where, gate_blank}

-- two properties of every element, together
all-with : {A : Type 0} {P Q R : A → Type 0} → ((x : A) → P x → Q x → R x) → (xs : List A) → All P xs → All Q xs
    → All R xs
all-with h [] a b = tt
all-with h (x ∷ xs) a b = (h x a.0 b.0, all-with h xs a.1 b.1)

all_of : {A : Type 0} {P : A → Type 0} → ((x : A) → P x) → (xs : List A) → All P xs
all_of h [] = tt
all_of h (x ∷ xs) = (h x, all_of h xs)

-- the lines that pass a test which does not look at entries
module _ (test : Line → Bool) (timeless : (j k n : ℕ) (e : Event) → test (line_of j n e) ≡ test (line_of k n e)) where
  where-append : (xs ys : List Line) → lines_where test (xs ++ ys) ≡ lines_where test xs ++ lines_where test ys
  unfolding lines_where
  where-append [] ys = refl
  where-append (x ∷ xs) ys =
      ap (λ (ls : List Line). cond (test x) (without_entry x ∷ ls) ls) (where-append xs ys) ∙ out (test x)
    where
      out : (t : Bool)
          → cond t (without_entry x ∷ (lines_where test xs ++ lines_where test ys))
          (lines_where test xs ++ lines_where test ys)
          ≡ cond t (without_entry x ∷ lines_where test xs) (lines_where test xs) ++ lines_where test ys
      out true = refl
      out false = refl

  -- those of process n with these events, at entry k
  abbrev passing : ℕ → ℕ → List Event → List Line
  passing k n es = lines_where test (map (line_of k n) es)

  -- written at another entry they are the same
  where-entry : (j k n : ℕ) (es : List Event) → passing j n es ≡ passing k n es
  unfolding lines_where
  where-entry j k n [] = refl
  where-entry j k n (e ∷ es) =
      ap₂ (λ (t : Bool) (ls : List Line). cond t (without_entry (line_of j n e) ∷ ls) ls) (timeless j k n e)
      (where-entry j k n es)

  -- none passes
  abbrev Fail : ℕ → ℕ → List Event → Type 0
  Fail k n es = All (λ e. test (line_of k n e) ≡ false) es

  where-none : (i k n : ℕ) (es : List Event) → Fail i n es → passing k n es ≡ []
  unfolding lines_where
  where-none i k n [] a = refl
  where-none i k n (e ∷ es) a =
      ap (λ (t : Bool). cond t (without_entry (line_of k n e) ∷ passing k n es) (passing k n es))
      (timeless k i n e ∙ a.0)
      ∙ where-none i k n es a.1

  -- two entries' lines of which one's fail
  where-both : (i j k m n : ℕ) (es ds : List Event) → Fail i m es ⊎ Fail i n ds
      → passing j m es ++ passing k n ds ≡ passing j n ds ++ passing k m es
  where-both i j k m n es ds = ⊎_elim first second
    where
      first : Fail i m es → passing j m es ++ passing k n ds ≡ passing j n ds ++ passing k m es
      first a =
          ap (λ (ls : List Line). ls ++ passing k n ds) (where-none i j m es a)
          ∙ where-entry k j n ds
          ∙ sym (ap (λ (ls : List Line). passing j n ds ++ ls) (where-none i k m es a) ∙ append-nil (passing j n ds))

      second : Fail i n ds → passing j m es ++ passing k n ds ≡ passing j n ds ++ passing k m es
      second a =
          ap (λ (ls : List Line). passing j m es ++ ls) (where-none i k n ds a)
          ∙ append-nil (passing j m es)
          ∙ where-entry j k m es
          ∙ sym (ap (λ (ls : List Line). ls ++ passing k m es) (where-none i j n ds a))

-- lines of gates, with nothing but their places

abbrev blank : Line
blank = record { entry = 0; process = 0; kind = 3; a = 0; b = 0; c = 0 }

blanks : (k n : ℕ) (es : List Event) → All (λ e. e.kind ≡ 3) es
    → map gate_blank (map (line_of k n) es) ≡ replicate (length es) blank
blanks k n [] a = refl
blanks k n (e ∷ es) a =
    ap₂ {B = List Line} (λ (l : Line) (ls : List Line). l ∷ ls)
    (ap (λ (b : Bool). cond b blank (line_of k n e)) (eq-eqb e.kind 3 a.0))
    (blanks k n es a.1)

replicate-append : {A : Type 0} (x : A) (i j : ℕ) → replicate i x ++ replicate j x ≡ replicate (i + j) x
replicate-append {A} x i j = go i
  where
    go : (n : ℕ) → replicate n x ++ replicate j x ≡ replicate (n + j) x
    go zero = ap (λ (k : ℕ). replicate k x) none
      where
        none : j ≡ 0 + j
        none = omega arith
    go (suc n) = ap (λ (xs : List A). x ∷ xs) (go n) ∙ ap (λ (k : ℕ). replicate k x) one
      where
        one : suc (n + j) ≡ suc n + j
        one = omega arith

blank-both : (j k m n : ℕ) (es ds : List Event) → All (λ e. e.kind ≡ 3) es → All (λ e. e.kind ≡ 3) ds
    → map gate_blank (map (line_of j m) es) ++ map gate_blank (map (line_of k n) ds)
    ≡ map gate_blank (map (line_of j n) ds) ++ map gate_blank (map (line_of k m) es)
blank-both j k m n es ds a b =
    ap₂ (λ (xs ys : List Line). xs ++ ys) (blanks j m es a) (blanks k n ds b)
    ∙ replicate-append blank (length es) (length ds)
    ∙ ap (λ (i : ℕ). replicate i blank) turned
    ∙ sym (ap₂ (λ (xs ys : List Line). xs ++ ys) (blanks j n ds b) (blanks k m es a)
    ∙ replicate-append blank (length ds) (length es))
  where
    turned : length es + length ds ≡ length ds + length es
    turned = omega arith

-- a function of lists that goes part by part, of four parts
module _ (f : List Line → List Line) (parts : (xs ys : List Line) → f (xs ++ ys) ≡ f xs ++ f ys) where
  four : (xs a b ys : List Line) → f (xs ++ (a ++ (b ++ ys))) ≡ f xs ++ ((f a ++ f b) ++ f ys)
  four xs a b ys =
      parts xs (a ++ (b ++ ys))
      ∙ ap (λ (ls : List Line). f xs ++ ls)
      (parts a (b ++ ys) ∙ ap (λ (ls : List Line). f a ++ ls) (parts b ys) ∙ sym (append_assoc (f a) (f b) (f ys)))

  middle : (xs a b c d ys ls ls' : List Line) → ls ≡ xs ++ (a ++ (b ++ ys)) → ls' ≡ xs ++ (c ++ (d ++ ys))
      → f a ++ f b ≡ f c ++ f d → f ls ≡ f ls'
  middle xs a b c d ys ls ls' e e' h =
      ap f e ∙ four xs a b ys ∙ ap (λ (zs : List Line). f xs ++ (zs ++ f ys)) h ∙ sym (ap f e' ∙ four xs c d ys)

module _ (k m n : ℕ) (ls ls' : List Line) (ne : m ≢ n) (x : LinesExchanged OfGate k m n ls ls') where
  kept-where : (test : Line → Bool) (timeless : (i j p : ℕ) (e : Event) → test (line_of i p e) ≡ test (line_of j p e))
      → Fail test timeless k m x.first ⊎ Fail test timeless k n x.second
      → lines_where test ls ≡ lines_where test ls'
  kept-where test timeless fail =
      middle (lines_where test) (where-append test timeless) x.above
      (map (line_of k m) x.first) (map (line_of (suc k) n) x.second)
      (map (line_of k n) x.second) (map (line_of (suc k) m) x.first)
      x.below ls ls' x.given x.exchanged
      (where-both test timeless k k (suc k) m n x.first x.second fail)

  -- of two processes one is not q
  one-other : (q : ℕ) → (eqb m q ≡ false) ⊎ (eqb n q ≡ false)
  one-other q = ⊎_elim (λ t. inr (ne_eqb n q (λ e. ne (eqb-true m q t ∙ sym e)))) (λ f. inl f) (decide (eqb m q))

  pub exchanged-kept : LinesKept ls ls'
  exchanged-kept = record {
    processes = λ q.
        kept-where (λ l. eqb l.process q) (λ i j p e. refl)
        (⊎_elim (λ f. inl (all_of (λ e. f) x.first)) (λ f. inr (all_of (λ e. f) x.second)) (one-other q));
    around = λ q.
        kept-where (λ l. eqb l.process q || not (eqb l.kind 3)) (λ i j p e. refl)
        (⊎_elim (λ f. inl (passed-by m q f x.first x.kinds.0))
        (λ f. inr (passed-by n q f x.second x.kinds.1)) (one-other q));
    qubits = λ q.
        kept-where (λ l. gate_on q l || not (eqb l.kind 3)) (λ i j p e. refl)
        (⊎_elim (λ a. inl (off q m x.first a x.kinds.0)) (λ a. inr (off q n x.second a x.kinds.1))
        (x.qubits q));
    others =
        middle (map gate_blank) (map-append gate_blank) x.above
        (map (line_of k m) x.first) (map (line_of (suc k) n) x.second)
        (map (line_of k n) x.second) (map (line_of (suc k) m) x.first)
        x.below ls ls' x.given x.exchanged
        (blank-both k (suc k) m n x.first x.second x.kinds.0 x.kinds.1);
  }
    where
      -- a line of a gate that passes no other part of the test fails
      neither : (b : Bool) (e : Event) → b ≡ false → OfGate e.kind → (b || not (eqb e.kind 3)) ≡ false
      neither b e f g = ap₂ (λ (a c : Bool). a || not c) f (eq-eqb e.kind 3 g)

      passed-by : (p q : ℕ) → eqb p q ≡ false → (es : List Event) → All (λ e. OfGate e.kind) es
          → All (λ e. (eqb p q || not (eqb e.kind 3)) ≡ false) es
      passed-by p q f es a = all-with (λ e g h. neither (eqb p q) e f g) es a a

      off : (q p : ℕ) (es : List Event) → All (λ e. gate_on q (line_of k p e) ≡ false) es → All (λ e. OfGate e.kind) es
          → All (λ e. (gate_on q (line_of k p e) || not (eqb e.kind 3)) ≡ false) es
      off q p es a b = all-with (λ e f g. neither (gate_on q (line_of k p e)) e f g) es a b

pub kept-itself : (ls : List Line) → LinesKept ls ls
kept-itself ls = record { processes = λ q. refl; around = λ q. refl; qubits = λ q. refl; others = refl }

pub kept_then : {ls ls' ls'' : List Line} → LinesKept ls ls' → LinesKept ls' ls'' → LinesKept ls ls''
kept_then a b = record {
  processes = λ q. a.processes q ∙ b.processes q;
  around = λ q. a.around q ∙ b.around q;
  qubits = λ q. a.qubits q ∙ b.qubits q;
  others = a.others ∙ b.others;
}
