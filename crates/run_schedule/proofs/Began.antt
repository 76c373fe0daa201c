-- The store at the start of a run is the layout of the start's configuration, whatever it held.
use Prim.Native.Nat.{ℕ, zero, suc, ◌+◌, ◌≤◌}
use mathlib.Core.Path.{◌≡◌, refl, sym, ◌∙◌, ap, ap₂}
use mathlib.Core.List.{List, [], ◌∷◌, ◌++◌, flatten, append_assoc}
use native.Mathlib.Omega.{arith}
use borrow.Rule.Slice.PartMut.{put_mid}
use lib.ListN.{get_or, set, take, drop, length, length-append, length-set, length-drop, length-replicate, replicate, replicate-append-replicate, take-append-drop}
use lib.Seq.{length-take-le, set-append_left, set_at, drop-set-lt, drop-cons, drop-drop, drop_at}
use Rattle.table.proofs.Accepted.{Kept}
use Rattle.machine.specs.State.{Process, Config, started, start_config, start_config_with, start_with}
use Rattle.machine.specs.Entry.{runs, joined}
use Rattle.machine.specs.Run.{Result}
use Rattle.machine.specs.Answer.{trace_after}
use Rattle.machine.proofs.Sound.{start-typed, config-sound}
use Rattle.layout.specs.Layout.{padded, process_words, encode}
use Rattle.layout.specs.Holders.{holder_words, store_after}
use Rattle.layout.proofs.HolderWords.{words-length, no-holder-words}
use Rattle.layout.proofs.RoundTrip.{process-length, encode-length}
use Rattle.run_store.specs.StoreCode.{cleared_from}
use Rattle.run_store.proofs.Cleared.{all-cleared}
use Rattle.run_parts.specs.PartsCode.{part_at, part_of, with_part}
use Rattle.run_parts.proofs.Encoded.{part-unmade, part-joined}
use Rattle.run_giving.specs.GivingCode.{began_words}
use Rattle.run_transfer.specs.TransferCode.{began_at}
use Rattle.run_giving.proofs.Parted.{began-words}
use Rattle.run_schedule.specs.BeginCode.{none_stored, start_store}
use Rattle.run_schedule.specs.SummaryCode.{AfterRun, run_leaves}

-- nothing made
abbrev none : Config
none = record { processes = []; qubits = 0; channels = 0 }

cleared-front : (xs ys : List ℕ) (j : ℕ) → j ≤ length xs → cleared_from (xs ++ ys) 0 j ≡ cleared_from xs 0 j ++ ys
unfolding cleared_from
cleared-front xs ys zero h = refl
cleared-front xs ys (suc j) h =
    ap (λ (w : List ℕ). set w (0 + j) 0) (cleared-front xs ys j (omega (arith, h)))
    ∙ set-append_left (cleared_from xs 0 j) ys (0 + j) 0 (omega (arith, h, cleared-long xs j))
  where
    cleared-long : (xs : List ℕ) (j : ℕ) → length (cleared_from xs 0 j) ≡ length xs
    cleared-long xs zero = refl
    cleared-long xs (suc j) = length-set (cleared_from xs 0 j) (0 + j) 0 ∙ cleared-long xs j

-- the first n words cleared
first-cleared : (work : List ℕ) (n : ℕ) → n ≤ length work → cleared_from work 0 n ≡ replicate n 0 ++ drop n work
first-cleared work n h =
    ap (λ (w : List ℕ). cleared_from w 0 n) (sym (take-append-drop n work))
    ∙ cleared-front (take n work) (drop n work) n (omega (arith, length-take-le n work h))
    ∙ ap (λ (w : List ℕ). w ++ drop n work) (all-cleared (take n work) n (length-take-le n work h))

-- zeros are the layout of nothing made
nothing-made : (n : ℕ) → n ≡ 8192 → replicate n 0 ≡ encode none
unfolding encode padded flatten
nothing-made n e =
    ap (λ (k : ℕ). replicate {A = ℕ} k 0) {x = n} {y = 512 + 7680} (omega (arith, e))
    ∙ sym (replicate-append-replicate 512 7680 0)

main-process : List ℕ → Process
main-process p = runs (started p 0 [] ∷ [])

main-long : (p : List ℕ) → Kept p → length (process_words (main-process p)) ≡ 512
unfolding main-process start_config_with start_with
main-long p kept =
    process-length p (start_config p) (main-process p)
    (config-sound p kept [] (start_config p) (start-typed p kept)).processes.0

begun-config : (p : List ℕ) → Kept p → (work : List ℕ) (n : ℕ) → n ≡ 8192 → n ≤ length work
    → began_at p (set (cleared_from work 0 n) 0 1) 0 0 ≡ encode (start_config p) ++ drop n work
unfolding began_at start_config_with main-process joined part_of
begun-config p kept work n e h =
    ap (λ (w : List ℕ). began_at p (set w 0 1) 0 0)
    (first-cleared work n h ∙ ap (λ (w : List ℕ). w ++ drop n work) (nothing-made n e))
    ∙ ap (λ (w : List ℕ). with_part (set (encode none ++ drop n work) 0 1) 0 (began_words p w 0))
    (ap (take 512) (drop-set-lt (part_at 0) (encode none ++ drop n work) 0 1 (omega arith))
    ∙ part-unmade none tt (drop n work) 0 (omega arith) (omega arith))
    ∙ ap (with_part (set (encode none ++ drop n work) 0 1) 0) (began-words p 0)
    ∙ part-joined none tt (drop n work) (main-process p) (omega arith) (main-long p kept)

-- the words of the holders, set one after the other, after 8,192 others
none-stored : (xs ys : List ℕ) → length xs ≡ 8192 → (j : ℕ) → j ≤ length ys
    → none_stored (xs ++ ys) j ≡ xs ++ (replicate j 255 ++ drop j ys)
unfolding none_stored
none-stored xs ys front zero h = refl
none-stored xs ys front (suc j) h =
    ap (λ (w : List ℕ). set w (8192 + j) 255) (none-stored xs ys front j (omega (arith, h)))
    ∙ ap (λ (w : List ℕ). set w (8192 + j) 255)
    (ap (λ (w : List ℕ). xs ++ (replicate j 255 ++ w)) (drop-cons ys j 0 (omega (arith, h)))
    ∙ sym (append_assoc xs (replicate j 255) (get_or ys j 0 ∷ drop (suc j) ys)))
    ∙ set_at (xs ++ replicate j 255) (get_or ys j 0) (drop (suc j) ys) 255 (8192 + j)
    (length-append xs (replicate j 255) ∙ omega (arith, front, length-replicate {A = ℕ} j 255))
    ∙ append_assoc xs (replicate j 255) (255 ∷ drop (suc j) ys)
    ∙ ap (λ (w : List ℕ). xs ++ w) (one_more j)
  where
    one_more : (j : ℕ) → replicate j 255 ++ (255 ∷ drop (suc j) ys) ≡ replicate (suc j) 255 ++ drop (suc j) ys
    one_more j = shift j (drop (suc j) ys)
      where
        shift : (j : ℕ) (zs : List ℕ) → replicate j 255 ++ (255 ∷ zs) ≡ replicate (suc j) 255 ++ zs
        shift zero zs = refl
        shift (suc j) zs = ap (λ (r : List ℕ). 255 ∷ r) (shift j zs)

-- the same, filled at once
pub none-filled : (w : List ℕ) → 8256 ≤ length w → {ys : List ℕ}
    → ys ≡ replicate (length (take 64 (drop 8192 w))) 255
    → put_mid 8192 64 w ys ≡ none_stored w 64
none-filled w h e =
    ap (put_mid 8192 64 w) (e ∙ ap (λ (n : ℕ). replicate {A = ℕ} n 255) sixty-four)
    ∙ sym (none-stored (take 8192 w) (drop 8192 w) (length-take-le 8192 w (omega (arith, h))) 64
    (omega (arith, h, length-drop 8192 w)))
    ∙ ap (λ (u : List ℕ). none_stored u 64) (take-append-drop 8192 w)
  where
    sixty-four : length (take 64 (drop 8192 w)) ≡ 64
    sixty-four = length-take-le 64 (drop 8192 w) (omega (arith, h, length-drop 8192 w))

-- the same with what is left of the store: as `run_entries` asks it, and what a run then leaves of the store as it was
module _ (p : List ℕ) (kept : Kept p) (work : List ℕ) (h : 8256 ≤ length work) {begun : List ℕ}
    (e : begun ≡ start_store p work 8192) where
  whole : length (encode (start_config p)) ≡ 8192
  unfolding start_with
  whole = encode-length p (start_config p) (config-sound p kept [] (start_config p) (start-typed p kept))

  begun-is : begun ≡ encode (start_config p) ++ (holder_words [] ++ drop 8256 work)
  unfolding start_store
  begun-is =
      e
      ∙ ap (λ (w : List ℕ). none_stored w 64) (begun-config p kept work 8192 refl (omega (arith, h)))
      ∙ none-stored (encode (start_config p)) (drop 8192 work) whole 64 (omega (arith, h, length-drop 8192 work))
      ∙ ap₂ (λ (hs rest : List ℕ). encode (start_config p) ++ (hs ++ rest)) no-holder-words (drop-drop 64 8192 work)

  rest-same : drop 8256 begun ≡ drop 8256 work
  rest-same =
      ap (drop 8256) (begun-is ∙ sym (append_assoc (encode (start_config p)) (holder_words []) (drop 8256 work)))
      ∙ drop_at (encode (start_config p) ++ holder_words []) (drop 8256 work) 8256
      (length-append (encode (start_config p)) (holder_words []) ∙ omega (arith, whole, words-length []))

  pub starts_from : begun ≡ encode (start_config p) ++ (holder_words [] ++ drop 8256 begun)
  starts_from = begun-is ∙ ap (λ (w : List ℕ). encode (start_config p) ++ (holder_words [] ++ w)) (sym rest-same)

  pub leaves-same : (r : Result) (trace : List ℕ) → run_leaves r trace begun ≡ run_leaves r trace work
  unfolding run_leaves store_after
  leaves-same r trace =
      ap {B = AfterRun} (λ (w : List ℕ). record {
        end = r.end;
        entries = r.entries;
        lines = length r.state.lines;
        used = r.state.used;
        trace = trace_after r.state.lines trace;
        work = encode r.state.config ++ (holder_words r.state.lines ++ w);
      }) rest-same
