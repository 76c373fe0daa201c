-- What is written is the text of the file: the text fits the buffer, and no byte past the 65,537th tells in it.
use Rattle.std.specs.Prelude.{ℕ, ◌+◌, ◌<◌, ◌≡◌, Bool, cond, true, false, ◌&&◌, List, [], ◌++◌, length, take, drop, None, Some, Ok, Err, IfSome, OnOk}
use Rattle.std.specs.Io.KnownBytes.{Appends}
use Rattle.std.specs.declared.option.Option.{Option}
use Rattle.std.specs.declared.result.Result.{Result}
use Rattle.std.specs.Option.{option_map}
use Rattle.std.proofs.lemmas.Bool.{lt-leb, cases_lt}
use Rattle.std.proofs.lemmas.List.{take_all, length-take, take-append-le}
use mathlib.Core.Logic.{inl, inr}
use mathlib.Core.Path.{refl, ap, sym, ◌∙◌, subst}
use native.Mathlib.Omega.{arith}
use Rattle.print_format.specs.Format.{printed, well_built, refused_text, run_text, words_of, part_of}
use Rattle.lists.specs.Lists.{put_from}
use Rattle.lists.proofs.Put.{put_from-take}
use Rattle.print_text.proofs.Bound.{printed-length}

-- every text fits the buffer, from its start on
pub text-written : (file out : List ℕ) {out' : List ℕ} {r : ℕ} → length out ≡ 524288
    → (out' ≡ put_from out 0 (printed file)) × (r ≡ length (printed file)) → take r out' ≡ printed file
text-written file out {out'} h (p, q) =
    ap (λ (n : ℕ). take n out') {y = 0 + length (printed file)} (omega (arith, q))
    ∙ ap (take (0 + length (printed file))) p
    ∙ put_from-take out 0 (printed file) (omega (arith, h, printed-length file))

no-matter : (a b c : Bool) → b ≡ false → ((a && b) && c) ≡ false
no-matter false b c e = refl
no-matter true b c e = ap (λ (x : Bool). x && c) e

too-long : (bytes : List ℕ) → 65536 < length bytes → well_built bytes ≡ false
unfolding well_built
too-long bytes h = no-matter _ _ _ (lt-leb (length bytes) 65536 h)

-- a longer file is refused, whatever follows
refused : (bytes : List ℕ) → 65536 < length bytes → printed bytes ≡ refused_text 9 0
unfolding printed
refused bytes h =
    ap
    (λ (b : Bool).
    cond b (run_text (words_of (part_of bytes 0)) (part_of bytes 1) (part_of bytes 2)) (refused_text 9 0))
    (too-long bytes h)

pub printed-read : (file : List ℕ) → printed (take 65537 file) ≡ printed file
printed-read file =
    elim (cases_lt 65536 (length file)) [
      | inl h ↦ refused (take 65537 file) (omega (arith, h, length-take 65537 file)) ∙ sym (refused file h)
      | inr h ↦ ap printed (take_all 65537 file (omega (arith, h)))
    ]

-- a buffer of these bytes lends them
pub lent : (n : ℕ) (xs items : List ℕ) → length xs ≡ n → take n (xs ++ drop (length xs) items) ≡ xs
lent n xs items h =
    take-append-le n xs (drop (length xs) items) (omega (arith, h)) ∙ take_all n xs (omega (arith, h))

-- what was read of the known bytes of a reader, with a limit, into an empty buffer
pub front : (n : ℕ) (known : Option (List ℕ)) (start read : List ℕ) → n ≡ 65537 → start ≡ []
    → IfSome (option_map (take n) known) (λ xs. read ≡ start ++ xs) → IfSome known (λ file. read ≡ take 65537 file)
front n None start read h s k = tt
front n (Some file) start read h s k =
    k ∙ ap (λ (l : List ℕ). l ++ take n file) s ∙ ap (λ (i : ℕ). take i file) h

-- so what a write of the text appends is the text of the whole file
pub whole : {A E : Type 0} (r : Result A E) (known old new : Option (List ℕ)) (read text : List ℕ)
    → IfSome known (λ file. read ≡ take 65537 file) → text ≡ printed read
    → OnOk r (Appends old new text) → OnOk r (IfSome known (λ file. Appends old new (printed file)))
whole (Err e) known old new read text k p w = tt
whole (Ok x) None old new read text k p w = tt
whole (Ok x) (Some file) old new read text k p w =
    subst (Appends old new) (p ∙ ap printed k ∙ printed-read file) w
