-- A method's code in a buffer: its words with the called methods by their numbers are those of its instructions.
use Prim.Native.Nat.{ℕ, zero, suc, ◌+◌, ◌*◌, ◌≤◌, ◌<◌}
use native.Mathlib.Omega.{arith}
use mathlib.Core.Path.{◌≡◌, refl, sym, ap, ◌∙◌}
use mathlib.Core.List.{List, [], ◌∷◌, ◌++◌, map}
use lib.ListN.{length, take, get_or}
use lib.Seq.{get_or-take, take-length}
use Rattle.lists.specs.Lists.{put_from}
use Rattle.lists.proofs.Put.{put_from-take}
use Rattle.text.specs.Translation.{Instruction, instruction, code_words}
use Rattle.text.proofs.Elements.{nth-there}
use Rattle.text.proofs.Words.{code_at, code_words-length}
use Rattle.text_put.specs.TableCode.{argument_by, code_to}
use Rattle.text_put.proofs.Ordered.{take_nth, code-append}

-- an instruction, with the called method given by f from the place of its name
unfoldable pub resolved : (ℕ → ℕ) → Instruction → Instruction
resolved f i = instruction i.op (argument_by f i.op i.argument)

pub map-append : {A B : Type 0} (f : A → B) (xs ys : List A) → map f (xs ++ ys) ≡ map f xs ++ map f ys
map-append f [] ys = refl
map-append f (x ∷ xs) ys = ap (λ us. f x ∷ us) (map-append f xs ys)

-- In a buffer

module _ (f : ℕ → ℕ) (is : List Instruction) (code : List ℕ)
    (holds : (i : ℕ) → i < 2 * length is → get_or code i 0 ≡ get_or (code_words is) i 0) where
  pub code-to : (j : ℕ) → j ≤ length is → code_to f code j ≡ code_words (map (resolved f) (take j is))
  unfolding code_to code_words resolved
  code-to zero l = refl
  code-to (suc j) l =
      let (x, e) = nth-there is j l in
      let (o, a) = code_at is j x e in
      let op : get_or code (2 * j) 0 ≡ x.op = holds (2 * j) (omega arith) ∙ o in
      let argument : get_or code (2 * j + 1) 0 ≡ x.argument =
      holds (2 * j + 1) (omega arith)
      ∙ ap (λ i. get_or (code_words is) i 0) {x = 2 * j + 1} {y = 1 + 2 * j} (omega arith) ∙ a in
      ap (λ ws. ws ++ (get_or code (2 * j) 0 ∷ argument_by f (get_or code (2 * j) 0) (get_or code (2 * j + 1) 0) ∷ []))
      (code-to j (omega arith))
      ∙ ap (λ o. code_words (map (resolved f) (take j is)) ++ (o ∷ argument_by f o (get_or code (2 * j + 1) 0) ∷ [])) op
      ∙ ap (λ a. code_words (map (resolved f) (take j is)) ++ (x.op ∷ argument_by f x.op a ∷ [])) argument
      ∙ sym (ap (λ js. code_words (map (resolved f) js)) (take_nth is j x e)
      ∙ ap code_words (map-append (resolved f) (take j is) (x ∷ []))
      ∙ code-append (map (resolved f) (take j is)) (resolved f x ∷ []))

-- all of it, where it is written from the buffer's first word on
pub code-written : (f : ℕ → ℕ) (is : List Instruction) (code : List ℕ) → 2 * length is ≤ length code
    → code_to f (put_from code 0 (code_words is)) (length is) ≡ code_words (map (resolved f) is)
code-written f is code l =
    code-to f is (put_from code 0 (code_words is)) holds (length is) (omega arith)
    ∙ ap (λ js. code_words (map (resolved f) js)) (take-length is)
  where
    long : length (code_words is) ≡ 2 * length is
    long = code_words-length is

    front : take (length (code_words is)) (put_from code 0 (code_words is)) ≡ code_words is
    front =
        ap (λ n. take n (put_from code 0 (code_words is))) {x = length (code_words is)} {y = 0 + length (code_words is)}
        (omega arith)
        ∙ put_from-take code 0 (code_words is) (omega (arith, code_words-length is))

    holds : (i : ℕ) → i < 2 * length is → get_or (put_from code 0 (code_words is)) i 0 ≡ get_or (code_words is) i 0
    holds i h =
        sym (get_or-take (length (code_words is)) (put_from code 0 (code_words is)) i 0 (omega (arith, code_words-length is)))
        ∙ ap (λ ws. get_or ws i 0) front
