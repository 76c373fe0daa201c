-- The parts of an encoded configuration are its processes' words.
use Prim.Native.Nat.{ℕ, zero, suc, ◌+◌, ◌*◌, ◌-◌, ◌≤◌, ◌<◌}
use mathlib.Core.Path.{◌≡◌, refl, sym, ◌∙◌, ap, ap₂, subst}
use mathlib.Core.List.{List, [], ◌∷◌, ◌++◌, map, flatten, append_assoc, append-nil}
use native.Mathlib.Nat.{le_of_suc-le-suc, not-suc-le-zero, mul-suc}
use native.Mathlib.Omega.{arith}
use lib.ListN.{get_or, set, replicate, take, drop, length, length-append, length-map, length-set, length-replicate, replicate-append-replicate}
use lib.Seq.{take_at, drop_at, drop-drop, take-append-add, drop-append-add}
use Rattle.lists.specs.Lists.{All}
use Rattle.lists.proofs.Any.{All-map, All-implies, All-set, All-append}
use Rattle.machine.specs.State.{Process, Config, process_at, set_process, unmade}
use Rattle.machine.specs.Value.{qubit, channel}
use Rattle.machine.specs.Entry.{counted, joined}
use Rattle.machine.specs.Sound.{ProcessSound, ConfigSound}
use Rattle.layout.specs.Layout.{padded, process_words, encode}
use Rattle.layout.proofs.Groups.{padded-length, flatten-length}
use Rattle.layout.proofs.RoundTrip.{process-length}
use Rattle.run_parts.specs.PartsCode.{part_at, part_of, with_part}

-- groups of equal size

-- past the first group
after_first : (size : ℕ) (g : List ℕ) (gs : List (List ℕ)) (rest : List ℕ) (n : ℕ) → length g ≡ size
    → drop (size * suc n) ((g ++ flatten gs) ++ rest) ≡ drop (size * n) (flatten gs ++ rest)
after_first size g gs rest n e =
    ap (λ (k : ℕ). drop k ((g ++ flatten gs) ++ rest)) {x = size * suc n} {y = length g + size * n}
    (omega (arith, e, mul-suc size n))
    ∙ ap (drop (length g + size * n)) (append_assoc g (flatten gs) rest)
    ∙ drop-append-add g (flatten gs ++ rest) (size * n)

-- group n of a run of groups, in front of other words
group-drop : (size : ℕ) (gs : List (List ℕ)) (rest : List ℕ) (n : ℕ) → All (λ g. length g ≡ size) gs → n < length gs
    → drop (size * n) (flatten gs ++ rest) ≡ get_or gs n [] ++ drop (size * suc n) (flatten gs ++ rest)
unfolding flatten
group-drop size [] rest n a h = absurd (not-suc-le-zero h)
group-drop size (g ∷ gs) rest zero a h =
    ap (λ (k : ℕ). drop k ((g ++ flatten gs) ++ rest)) {x = size * 0} {y = 0} (omega arith)
    ∙ append_assoc g (flatten gs) rest
    ∙ ap (λ (l : List ℕ). g ++ l)
    (ap (λ (k : ℕ). drop k (flatten gs ++ rest)) {x = 0} {y = size * 0} (omega arith)
    ∙ sym (after_first size g gs rest 0 a.0))
group-drop size (g ∷ gs) rest (suc n) a h =
    after_first size g gs rest n a.0
    ∙ group-drop size gs rest n a.1 (le_of_suc-le-suc h)
    ∙ ap (λ (l : List ℕ). get_or gs n [] ++ l) (sym (after_first size g gs rest (suc n) a.0))

group-take : (size : ℕ) (gs : List (List ℕ)) (rest : List ℕ) (n : ℕ) → All (λ g. length g ≡ size) gs → n < length gs
    → (ys : List ℕ)
    → take (size * n) (flatten gs ++ rest) ++ (ys ++ drop (size * suc n) (flatten gs ++ rest)) ≡ flatten (set gs n ys)
    ++ rest
unfolding flatten
group-take size [] rest n a h ys = absurd (not-suc-le-zero h)
group-take size (g ∷ gs) rest zero a h ys =
    ap (λ (k : ℕ). take k ((g ++ flatten gs) ++ rest) ++ (ys ++ drop (size * 1) ((g ++ flatten gs) ++ rest)))
    {x = size * 0} {y = 0} (omega arith)
    ∙ ap (λ (l : List ℕ). ys ++ l)
    (after_first size g gs rest 0 a.0
    ∙ ap (λ (k : ℕ). drop k (flatten gs ++ rest)) {x = size * 0} {y = 0} (omega arith))
    ∙ sym (append_assoc ys (flatten gs) rest)
group-take size (g ∷ gs) rest (suc n) a h ys =
    ap₂ (λ (u v : List ℕ). u ++ (ys ++ v)) front (after_first size g gs rest (suc n) a.0)
    ∙ append_assoc g (take (size * n) (flatten gs ++ rest)) (ys ++ drop (size * suc n) (flatten gs ++ rest))
    ∙ ap (λ (l : List ℕ). g ++ l) (group-take size gs rest n a.1 (le_of_suc-le-suc h) ys)
    ∙ sym (append_assoc g (flatten (set gs n ys)) rest)
  where
    front : take (size * suc n) ((g ++ flatten gs) ++ rest) ≡ g ++ take (size * n) (flatten gs ++ rest)
    front =
        ap (λ (k : ℕ). take k ((g ++ flatten gs) ++ rest)) {x = size * suc n} {y = length g + size * n}
        (omega (arith, a.0, mul-suc size n))
        ∙ ap (take (length g + size * n)) (append_assoc g (flatten gs) rest)
        ∙ take-append-add g (flatten gs ++ rest) (size * n)

-- a property of every element holds of the one at an index
All-at : {A : Type 0} (P : A → Type 0) (xs : List A) (n : ℕ) (d : A) → All P xs → n < length xs → P (get_or xs n d)
All-at P [] n d a h = absurd (not-suc-le-zero h)
All-at P (x ∷ xs) zero d a h = a.0
All-at P (x ∷ xs) (suc n) d a h = All-at P xs n d a.1 (le_of_suc-le-suc h)

-- an element of a mapped list
get_d-mapped : {A : Type 0} (g : A → List ℕ) (xs : List A) (n : ℕ) (d : List ℕ) (e : A) → n < length xs
    → get_or (map g xs) n d ≡ g (get_or xs n e)
get_d-mapped g [] n d e h = absurd (not-suc-le-zero h)
get_d-mapped g (x ∷ xs) zero d e h = refl
get_d-mapped g (x ∷ xs) (suc n) d e h = get_d-mapped g xs n d e (le_of_suc-le-suc h)

-- the store of a configuration

-- the words in front of the parts, and the words beyond those of the processes made
abbrev front : Config → List ℕ
front c = padded 512 (length c.processes ∷ c.qubits ∷ c.channels ∷ [])

-- zeros after the processes' words gs, then what the store has beyond
abbrev padding : List (List ℕ) → List ℕ → List ℕ
padding gs rest = replicate (7680 - length (flatten gs)) 0 ++ rest

store_is : (c : Config) (rest : List ℕ)
    → encode c ++ rest ≡ front c ++
    (flatten (map process_words c.processes) ++ padding (map process_words c.processes) rest)
unfolding encode padded
store_is c rest =
    append_assoc (front c) (padded 7680 (flatten (map process_words c.processes))) rest
    ∙ ap (λ (l : List ℕ). front c ++ l)
    (append_assoc (flatten (map process_words c.processes))
    (replicate (7680 - length (flatten (map process_words c.processes))) 0) rest)

map-set : (xs : List Process) (n : ℕ) (y : Process)
    → map process_words (set xs n y) ≡ set (map process_words xs) n (process_words y)
map-set [] n y = refl
map-set (x ∷ xs) zero y = refl
map-set (x ∷ xs) (suc n) y = ap {B = List (List ℕ)} (λ l. process_words x ∷ l) (map-set xs n y)

-- every process's words fill its part
abbrev pub Laid : Config → Type 0
Laid c = All (λ pr. length (process_words pr) ≡ 512) c.processes

pub laid-sound : (p : List ℕ) (c : Config) → ConfigSound p c → Laid c
laid-sound p c h =
    All-implies (ProcessSound p c) (λ pr. length (process_words pr) ≡ 512) (process-length p c) c.processes
    h.processes

pub laid-set : (c : Config) (n : ℕ) (pr : Process) → Laid c → length (process_words pr) ≡ 512 → Laid (set_process c n pr)
unfolding set_process
laid-set c n pr a l = All-set (λ q. length (process_words q) ≡ 512) c.processes n pr a l

pub laid-joined : (c : Config) (pr : Process) → Laid c → length (process_words pr) ≡ 512 → Laid (joined c pr)
unfolding joined
laid-joined c pr a l = All-append (λ q. length (process_words q) ≡ 512) c.processes (pr ∷ []) a (l, tt)

module _ (c : Config) (laid : Laid c) (rest : List ℕ) where
  abbrev groups : List (List ℕ)
  groups = map process_words c.processes

  -- the words from the first part on
  abbrev parts : List ℕ
  parts = flatten groups ++ padding groups rest

  front_long : length (front c) ≡ 512
  front_long = padded-length 512 (length c.processes ∷ c.qubits ∷ c.channels ∷ []) (omega arith)

  groups-long : All (λ g. length g ≡ 512) groups
  groups-long =
      All-map (λ g. length g ≡ 512) process_words c.processes laid

  groups-count : length groups ≡ length c.processes
  groups-count = length-map c.processes process_words

  group-is : (n : ℕ) → n < length c.processes → get_or groups n [] ≡ process_words (process_at c n)
  unfolding process_at
  group-is n l = get_d-mapped process_words c.processes n [] unmade l

  after_front : (n : ℕ) → drop (part_at n) (encode c ++ rest) ≡ drop (512 * n) parts
  after_front n =
      ap (drop (part_at n)) (store_is c rest)
      ∙ ap (λ (k : ℕ). drop (k + 512 * n) (front c ++ parts)) (sym front_long)
      ∙ drop-append-add (front c) parts (512 * n)

  up_to : (n : ℕ) → take (part_at n) (encode c ++ rest) ≡ front c ++ take (512 * n) parts
  up_to n =
      ap (take (part_at n)) (store_is c rest)
      ∙ ap (λ (k : ℕ). take (k + 512 * n) (front c ++ parts)) (sym front_long)
      ∙ take-append-add (front c) parts (512 * n)

  process-long : (n : ℕ) → n < length c.processes → length (process_words (process_at c n)) ≡ 512
  unfolding process_at
  process-long n l =
      subst (λ (g : List ℕ). length g ≡ 512) (group-is n l)
      (All-at (λ g. length g ≡ 512) groups n [] groups-long (subst (λ (k : ℕ). n < k) (sym groups-count) l))

  -- part n is the words of process n
  pub part-is : (n : ℕ) → n < length c.processes → part_of (encode c ++ rest) n ≡ process_words (process_at c n)
  unfolding part_of
  part-is n l =
      ap (take 512)
      (after_front n
      ∙ group-drop 512 groups (padding groups rest) n groups-long (subst (λ (k : ℕ). n < k) (sym groups-count) l)
      ∙ ap (λ (g : List ℕ). g ++ drop (512 * suc n) parts) (group-is n l))
      ∙ take_at (process_words (process_at c n)) (drop (512 * suc n) parts) 512 (process-long n l)

  -- other words in part n: the store of the configuration with another process n
  set_long : (gs : List (List ℕ)) (n : ℕ) (ys : List ℕ) → All (λ g. length g ≡ 512) gs → length ys ≡ 512
      → length (flatten (set gs n ys)) ≡ length (flatten gs)
  set_long gs n ys a l =
      flatten-length 512 (set gs n ys) (All-set (λ g. length g ≡ 512) gs n ys a l)
      ∙ ap (λ (k : ℕ). k * 512) (length-set gs n ys)
      ∙ sym (flatten-length 512 gs a)

  front_same : (n : ℕ) (pr : Process) → front (set_process c n pr) ≡ front c
  unfolding set_process
  front_same n pr = ap (λ (k : ℕ). padded 512 (k ∷ c.qubits ∷ c.channels ∷ [])) (length-set c.processes n pr)

  groups-set : (n : ℕ) (pr : Process) → map process_words (set_process c n pr).processes ≡ set groups n (process_words pr)
  unfolding set_process
  groups-set n pr = map-set c.processes n pr

  pub part-put : (n : ℕ) (pr : Process) → n < length c.processes → length (process_words pr) ≡ 512
      → with_part (encode c ++ rest) n (process_words pr) ≡ encode (set_process c n pr) ++ rest
  unfolding with_part
  part-put n pr l long =
      ap₂ (λ (u v : List ℕ). u ++ (process_words pr ++ v)) (up_to n)
      (ap (drop 512) (after_front n)
      ∙ drop-drop 512 (512 * n) parts
      ∙ ap (λ (k : ℕ). drop k parts) {x = 512 * n + 512} {y = 512 * suc n} (omega arith))
      ∙ append_assoc (front c) (take (512 * n) parts) (process_words pr ++ drop (512 * suc n) parts)
      ∙ ap (λ (w : List ℕ). front c ++ w)
      (group-take 512 groups (padding groups rest) n groups-long (subst (λ (k : ℕ). n < k) (sym groups-count) l)
      (process_words pr)
      ∙ ap (λ (k : ℕ). flatten (set groups n (process_words pr)) ++ (replicate (7680 - k) 0 ++ rest))
      (sym (set_long groups n (process_words pr) groups-long long)))
      ∙ ap₂ (λ (u : List ℕ) (v : List (List ℕ)). u ++ (flatten v ++ padding v rest)) (sym (front_same n pr))
      (sym (groups-set n pr))
      ∙ sym (store_is (set_process c n pr) rest)

-- the counts in front of the parts

pub processes-word : (c : Config) (rest : List ℕ) → get_or (encode c ++ rest) 0 0 ≡ length c.processes
unfolding encode padded
processes-word c rest = refl

pub qubits-word : (c : Config) (rest : List ℕ) → get_or (encode c ++ rest) 1 0 ≡ c.qubits
unfolding encode padded
qubits-word c rest = refl

pub channels-word : (c : Config) (rest : List ℕ) → get_or (encode c ++ rest) 2 0 ≡ c.channels
unfolding encode padded
channels-word c rest = refl

pub qubit-counted : (c : Config) (q : ℕ) (rest : List ℕ)
    → set (encode c ++ rest) 1 (suc c.qubits) ≡ encode (counted (qubit q) c) ++ rest
unfolding encode padded counted
qubit-counted c q rest = refl

pub channel-counted : (c : Config) (q : ℕ) (rest : List ℕ)
    → set (encode c ++ rest) 2 (suc c.channels) ≡ encode (counted (channel q) c) ++ rest
unfolding encode padded counted
channel-counted c q rest = refl

-- processes not made

-- zeros past the first m
zeros-after : (m n : ℕ) (rest : List ℕ) → m ≤ n → drop m (replicate n 0 ++ rest) ≡ replicate (n - m) 0 ++ rest
zeros-after m n rest h =
    ap (λ (k : ℕ). drop m (replicate {A = ℕ} k 0 ++ rest)) {x = n} {y = m + (n - m)} (omega arith)
    ∙ ap (λ (l : List ℕ). drop m (l ++ rest)) (sym (replicate-append-replicate m (n - m) 0))
    ∙ ap (drop m) (append_assoc (replicate m 0) (replicate (n - m) 0) rest)
    ∙ drop_at (replicate m 0) (replicate (n - m) 0 ++ rest) m (length-replicate m 0)

zeros-first : (m n : ℕ) (rest : List ℕ) → m ≤ n → take m (replicate n 0 ++ rest) ≡ replicate m 0
zeros-first m n rest h =
    ap (λ (k : ℕ). take m (replicate {A = ℕ} k 0 ++ rest)) {x = n} {y = m + (n - m)} (omega arith)
    ∙ ap (λ (l : List ℕ). take m (l ++ rest)) (sym (replicate-append-replicate m (n - m) 0))
    ∙ ap (take m) (append_assoc (replicate m 0) (replicate (n - m) 0) rest)
    ∙ take_at (replicate m 0) (replicate (n - m) 0 ++ rest) m (length-replicate m 0)

flatten-snoc : (gs : List (List ℕ)) (ws : List ℕ) → flatten (gs ++ (ws ∷ [])) ≡ flatten gs ++ ws
unfolding flatten
flatten-snoc [] ws = append-nil ws
flatten-snoc (g ∷ gs) ws = ap (λ (l : List ℕ). g ++ l) (flatten-snoc gs ws) ∙ sym (append_assoc g (flatten gs) ws)

map_snoc : (xs : List Process) (pr : Process)
    → map process_words (xs ++ (pr ∷ [])) ≡ map process_words xs ++ (process_words pr ∷ [])
map_snoc [] pr = refl
map_snoc (x ∷ xs) pr = ap {B = List (List ℕ)} (λ l. process_words x ∷ l) (map_snoc xs pr)

-- the count of processes written in front
front-set : (c : Config) (k : ℕ) (ws : List ℕ)
    → set (front c ++ ws) 0 k ≡ padded 512 (k ∷ c.qubits ∷ c.channels ∷ []) ++ ws
unfolding padded
front-set c k ws = refl

module _ (c : Config) (laid : Laid c) (rest : List ℕ) where
  abbrev words : List ℕ
  words = flatten (map process_words c.processes)

  words_long : length words ≡ 512 * length c.processes
  words_long =
      flatten-length 512 (map process_words c.processes) (groups-long c laid rest)
      ∙ omega (arith, groups-count c laid rest)

  after-words : (n : ℕ)
      → drop (length words + n) (parts c laid rest) ≡ drop n (padding (map process_words c.processes) rest)
  after-words n = drop-append-add words (padding (map process_words c.processes) rest) n

  -- the part of a process that is not made is 0
  pub part-unmade : (n : ℕ) → length c.processes ≤ n → n < 8 → part_of (encode c ++ rest) n ≡ replicate 512 0
  unfolding part_of
  part-unmade n l h =
      ap (take 512)
      (after_front c laid rest n
      ∙ ap (λ (k : ℕ). drop k (parts c laid rest)) {x = 512 * n} {y = length words + (512 * n - length words)}
      (omega (arith, words_long))
      ∙ after-words (512 * n - length words)
      ∙ zeros-after (512 * n - length words) (7680 - length words) rest (omega (arith, words_long)))
      ∙ zeros-first 512 (7680 - length words - (512 * n - length words)) rest (omega (arith, words_long))

  -- one more process
  pub part-joined : (pr : Process) → length c.processes < 8 → length (process_words pr) ≡ 512
      → with_part (set (encode c ++ rest) 0 (length c.processes + 1)) (length c.processes) (process_words pr)
      ≡ encode (joined c pr) ++ rest
  unfolding with_part joined
  part-joined pr h long =
      ap (λ (w : List ℕ). take (part_at made) w ++ (process_words pr ++ drop 512 (drop (part_at made) w))) counted-first
      ∙ ap₂ (λ (u v : List ℕ). u ++ (process_words pr ++ v)) first last
      ∙ append_assoc front₁ words (process_words pr ++ (replicate (7680 - length words - 512) 0 ++ rest))
      ∙ ap (λ (l : List ℕ). front₁ ++ l)
      (sym (append_assoc words (process_words pr) (replicate (7680 - length words - 512) 0 ++ rest))
      ∙ ap₂ (λ (l : List ℕ) (k : ℕ). l ++ (replicate {A = ℕ} k 0 ++ rest)) more shorter)
      ∙ ap
      (λ (k : ℕ). padded 512 (k ∷ c.qubits ∷ c.channels ∷ []) ++
      (words₁ ++ (replicate {A = ℕ} (7680 - length words₁) 0 ++ rest))) one_more
      ∙ sym (store_is (joined c pr) rest)
    where
      made : ℕ
      made = length c.processes

      front₁ : List ℕ
      front₁ = padded 512 ((made + 1) ∷ c.qubits ∷ c.channels ∷ [])

      words₁ : List ℕ
      words₁ = flatten (map process_words (c.processes ++ (pr ∷ [])))

      one_more : made + 1 ≡ length (c.processes ++ (pr ∷ []))
      one_more = sym (length-append c.processes (pr ∷ []))

      more : words ++ process_words pr ≡ words₁
      more =
          sym
          (ap flatten (map_snoc c.processes pr) ∙ flatten-snoc (map process_words c.processes) (process_words pr))

      shorter : 7680 - length words - 512 ≡ 7680 - length words₁
      shorter = omega (arith, words_long, ap length more, length-append words (process_words pr), long)

      front-long₁ : length front₁ ≡ 512
      front-long₁ = padded-length 512 ((made + 1) ∷ c.qubits ∷ c.channels ∷ []) (omega arith)

      counted-first : set (encode c ++ rest) 0 (made + 1) ≡ front₁ ++ parts c laid rest
      counted-first =
          ap (λ (w : List ℕ). set w 0 (made + 1)) (store_is c rest) ∙ front-set c (made + 1) (parts c laid rest)

      first : take (part_at made) (front₁ ++ parts c laid rest) ≡ front₁ ++ words
      first =
          ap (λ (k : ℕ). take (k + 512 * made) (front₁ ++ parts c laid rest)) (sym front-long₁)
          ∙ take-append-add front₁ (parts c laid rest) (512 * made)
          ∙ ap (λ (l : List ℕ). front₁ ++ l)
          (take_at words (padding (map process_words c.processes) rest) (512 * made) words_long)

      last :
          drop 512 (drop (part_at made) (front₁ ++ parts c laid rest)) ≡ replicate (7680 - length words - 512) 0 ++ rest
      last =
          ap (λ (k : ℕ). drop 512 (drop (k + 512 * made) (front₁ ++ parts c laid rest))) (sym front-long₁)
          ∙ ap (drop 512)
          (drop-append-add front₁ (parts c laid rest) (512 * made)
          ∙ drop_at words (padding (map process_words c.processes) rest) (512 * made) words_long)
          ∙ zeros-after 512 (7680 - length words) rest (omega (arith, words_long))
