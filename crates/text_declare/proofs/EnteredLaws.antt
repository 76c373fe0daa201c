-- Variables entered one after the other.
use Prim.Native.Nat.{ℕ, zero, suc, ◌+◌, ◌*◌, ◌≤◌, ◌<◌}
use native.Mathlib.Omega.{arith}
use mathlib.Core.Path.{◌≡◌, refl, sym, ap, ◌∙◌, subst}
use mathlib.Core.Logic.{◌≢◌}
use mathlib.Core.Bool.{Bool, true, false}
use mathlib.Core.List.{List, [], ◌∷◌, ◌++◌, map}
use lib.ListN.{length, get_or, set, length-set, length-append}
use lib.Seq.{slice, get_or-set_same, get_or-set_other}
use Rattle.text.specs.Tree.{Declared, declared_by, parameter_of, Method, body_variables}
use Rattle.text.specs.Translation.{Scope, placed, opened, truth_word, code_of_type}
use Rattle.text.proofs.Scopes.{opened-append}
use Rattle.text_types.proofs.TypeLaws.{not-both}
use Rattle.text_slots.specs.Placing.{Placing, nothing_placed, one_placed}
use Rattle.text_declare.specs.Entered.{Tables, tables, Fits, typed, Entered, Entering, all-entered, too_many}

-- entries stay where their words do
module _ (text s s' : List ℕ) where
  pub placing-kept : (m : ℕ) (sc : Scope) → ((i : ℕ) → i < 4 * m → get_or s' i 0 ≡ get_or s i 0) → Placing text s m sc
      → Placing text s' m sc
  placing-kept zero (v ∷ sc) same h = elim h [ ]
  placing-kept (suc m) [] same h = elim h [ ]
  placing-kept zero [] same nothing_placed = nothing_placed
  placing-kept (suc m) (v ∷ sc) same (one_placed p ps) =
      let w0 = same (4 * m) (omega arith) in
      let w1 = same (4 * m + 1) (omega arith) in
      let w2 = same (4 * m + 2) (omega arith) in
      let w3 = same (4 * m + 3) (omega arith) in
      one_placed
      (record {
        spelt = p.spelt ∙ ap (λ (a : ℕ). slice a (get_or s (4 * m + 1) 0) text) (sym w0)
            ∙ ap (λ (b : ℕ). slice (get_or s' (4 * m) 0) b text) (sym w1);
        flag = w2 ∙ p.flag;
        slot = w3 ∙ p.slot;
        word = p.word;
      })
      (placing-kept m sc (λ i h. same i (omega arith)) ps)

-- the entry that is written after the n-th
module _ (scope : List ℕ) (n a b c d : ℕ) where
  abbrev pub entry_added : List ℕ
  entry_added = set (set (set (set scope (4 * n) a) (4 * n + 1) b) (4 * n + 2) c) (4 * n + 3) d

  other : (i : ℕ) → i ≢ 4 * n → i ≢ 4 * n + 1 → i ≢ 4 * n + 2 → i ≢ 4 * n + 3 → get_or entry_added i 0 ≡ get_or scope i 0
  other i f0 f1 f2 f3 =
      get_or-set_other (set (set (set scope (4 * n) a) (4 * n + 1) b) (4 * n + 2) c) (4 * n + 3) i d 0 f3
      ∙ get_or-set_other (set (set scope (4 * n) a) (4 * n + 1) b) (4 * n + 2) i c 0 f2
      ∙ get_or-set_other (set scope (4 * n) a) (4 * n + 1) i b 0 f1 ∙ get_or-set_other scope (4 * n) i a 0 f0

  long4 : length entry_added ≡ length scope
  long4 =
      length-set (set (set (set scope (4 * n) a) (4 * n + 1) b) (4 * n + 2) c) (4 * n + 3) d
      ∙ length-set (set (set scope (4 * n) a) (4 * n + 1) b) (4 * n + 2) c
      ∙ length-set (set scope (4 * n) a) (4 * n + 1) b ∙ length-set scope (4 * n) a

  module _ (long : length scope ≡ 64) (room : n ≤ 15) where
    long1 : length (set scope (4 * n) a) ≡ 64
    long1 = length-set scope (4 * n) a ∙ long

    long2 : length (set (set scope (4 * n) a) (4 * n + 1) b) ≡ 64
    long2 = length-set (set scope (4 * n) a) (4 * n + 1) b ∙ long1

    long3 : length (set (set (set scope (4 * n) a) (4 * n + 1) b) (4 * n + 2) c) ≡ 64
    long3 = length-set (set (set scope (4 * n) a) (4 * n + 1) b) (4 * n + 2) c ∙ long2

    word3 : get_or entry_added (4 * n + 3) 0 ≡ d
    word3 = get_or-set_same (set (set (set scope (4 * n) a) (4 * n + 1) b) (4 * n + 2) c) (4 * n + 3) d 0
        (omega (arith, long3))

    word2 : get_or entry_added (4 * n + 2) 0 ≡ c
    word2 =
        get_or-set_other (set (set (set scope (4 * n) a) (4 * n + 1) b) (4 * n + 2) c) (4 * n + 3) (4 * n + 2) d 0
        (λ e. omega arith)
        ∙ get_or-set_same (set (set scope (4 * n) a) (4 * n + 1) b) (4 * n + 2) c 0 (omega (arith, long2))

    word1 : get_or entry_added (4 * n + 1) 0 ≡ b
    word1 =
        get_or-set_other (set (set (set scope (4 * n) a) (4 * n + 1) b) (4 * n + 2) c) (4 * n + 3) (4 * n + 1) d 0
        (λ e. omega arith)
        ∙ get_or-set_other (set (set scope (4 * n) a) (4 * n + 1) b) (4 * n + 2) (4 * n + 1) c 0 (λ e. omega arith)
        ∙ get_or-set_same (set scope (4 * n) a) (4 * n + 1) b 0 (omega (arith, long1))

    word0 : get_or entry_added (4 * n) 0 ≡ a
    word0 =
        get_or-set_other (set (set (set scope (4 * n) a) (4 * n + 1) b) (4 * n + 2) c) (4 * n + 3) (4 * n) d 0
        (λ e. omega arith)
        ∙ get_or-set_other (set (set scope (4 * n) a) (4 * n + 1) b) (4 * n + 2) (4 * n) c 0 (λ e. omega arith)
        ∙ get_or-set_other (set scope (4 * n) a) (4 * n + 1) (4 * n) b 0 (λ e. omega arith)
        ∙ get_or-set_same scope (4 * n) a 0 (omega (arith, long))

-- one variable
module _ (text scope row : List ℕ) (n used start end flag code : ℕ) (d : Declared) where
  pub entered-one : n ≤ 15 → used ≤ 15 → d.name.spelling ≡ slice start end text
      → flag ≡ truth_word d.ends → code ≡ code_of_type d → Fits (tables scope n row used)
      → Entered text (d ∷ []) (tables scope n row used)
      (tables (entry_added scope n start end flag used) (n + 1) (set row (2 + used) code) (used + 1))
  unfolding typed opened
  entered-one room more spelt ends type fits =
      let long = fits.long in
      let le : n ≤ used = fits.slots in
      let words : (m : ℕ) → m ≤ n → (i : ℕ) → i < 4 * m
      → get_or (entry_added scope n start end flag used) i 0 ≡ get_or scope i 0 =
      λ m h i l. other scope n start end flag used i (λ e. omega arith) (λ e. omega arith) (λ e. omega arith)
      (λ e. omega arith) in
      let keeps : (m : ℕ) (sc : Scope) → m ≤ n → Placing text scope m sc
      → Placing text (entry_added scope n start end flag used) m sc =
      λ m sc h p. placing-kept text scope (entry_added scope n start end flag used) m sc (words m h) p in
      let next : suc n ≡ n + 1 = omega arith in
      record {
        count = refl;
        given = refl;
        fits = record {
          slots = omega arith;
          room = omega arith;
          long = long4 scope n start end flag used ∙ long;
        };
        types = ap (set row (2 + used)) type;
        kept = keeps;
        places = λ sc p. subst
            (λ (k : ℕ). Placing text (entry_added scope n start end flag used) k (placed d used ∷ sc)) next
            (one_placed
            (record {
              spelt = spelt
                  ∙ ap (λ (a : ℕ). slice a end text) (sym (word0 scope n start end flag used long room))
                  ∙ ap (λ (b : ℕ). slice (get_or (entry_added scope n start end flag used) (4 * n) 0) b text)
                  (sym (word1 scope n start end flag used long room));
              flag = word2 scope n start end flag used long room ∙ ends;
              slot = word3 scope n start end flag used long room;
              word = omega arith;
            })
            (keeps n sc (omega arith) p));
      }

-- some variables and others after them
pub entered-none : (text : List ℕ) (σ : Tables) → Fits σ → Entered text [] σ σ
unfolding typed opened
entered-none text σ fits =
    record {
      count = omega arith;
      given = omega arith;
      fits = fits;
      types = refl;
      kept = λ m sc h p. p;
      places = λ sc p. p;
    }

pub typed-append : (ds es : List Declared) (i : ℕ) (row : List ℕ)
    → typed i (ds ++ es) row ≡ typed (i + length ds) es (typed i ds row)
unfolding typed
typed-append [] es i row = ap (λ (j : ℕ). typed j es row) (omega arith)
typed-append (d ∷ ds) es i row =
    typed-append ds es (suc i) (set row (2 + i) (code_of_type d))
    ∙ ap (λ (j : ℕ). typed j es (typed (suc i) ds (set row (2 + i) (code_of_type d)))) (omega arith)

module _ (text : List ℕ) (ds es : List Declared) (σ τ υ : Tables) where
  pub entered-then : Entered text ds σ τ → Entered text es τ υ → Entered text (ds ++ es) σ υ
  entered-then a b =
      let more = length-append ds es in
      let count-a = a.count in
      let count-b = b.count in
      let given-a = a.given in
      let given-b = b.given in
      record {
        count = omega arith;
        given = omega arith;
        fits = b.fits;
        types = b.types ∙ ap (typed τ.used es) a.types
            ∙ ap (λ (i : ℕ). typed i es (typed σ.used ds σ.row)) given-a ∙ sym
            (typed-append ds es σ.used σ.row);
        kept = λ m sc h p. b.kept m sc (omega arith) (a.kept m sc h p);
        places = λ sc p. subst (Placing text υ.scope υ.n)
            (ap (λ (i : ℕ). opened es i (opened ds σ.used sc)) given-a ∙ sym (opened-append ds es σ.used sc))
            (b.places (opened ds σ.used sc) (a.places sc p));
      }

  pub entering-then : {q ok : Bool} → Entering text ds σ q τ → (q ≡ false → ok ≡ false)
      → (q ≡ true → Entering text es τ ok υ) → Entering text (ds ++ es) σ ok υ
  entering-then {q} {ok} (all-entered o a) stop go = after (go o)
    where
      after : Entering text es τ ok υ → Entering text (ds ++ es) σ ok υ
      after (all-entered p b) = all-entered p (entered-then a b)
      after (too_many p l) =
          let more = length-append ds es in
          let given-a = a.given in
          too_many p (omega arith)
  entering-then (too_many o l) stop go =
      let more = length-append ds es in
      too_many (stop o) (omega arith)

pub entering-fits : {text : List ℕ} {ds : List Declared} {σ τ : Tables} {ok : Bool} → Entering text ds σ ok τ
    → ok ≡ true → Fits τ
entering-fits (all-entered o e) p = e.fits
entering-fits (too_many o l) p = not-both p o

-- where they are too many, nothing is said of the tables
pub entering-left : {text : List ℕ} {ds : List Declared} {σ τ υ : Tables} {ok : Bool} → ok ≡ false
    → Entering text ds σ false υ → Entering text ds σ ok τ
entering-left none (all-entered o e) = not-both o refl
entering-left none (too_many o l) = too_many none l

-- the variables of a method's body: its parameters, and then what its block declares
pub body-entered : (text : List ℕ) (m : Method) (σ υ τ : Tables) → Entered text (map parameter_of m.parameters) σ υ
    → Entered text (declared_by m.declarations) υ τ → Entered text (body_variables m) σ τ
unfolding body_variables
body-entered text m σ υ τ = entered-then text (map parameter_of m.parameters) (declared_by m.declarations) σ υ τ

-- into empty tables
pub scope-begun : (text : List ℕ) (ds : List Declared) (scope row : List ℕ) (τ : Tables)
    → Entered text ds (tables scope 0 row 0) τ → Placing text τ.scope τ.n (opened ds 0 [])
scope-begun text ds scope row τ e = e.places [] nothing_placed
