-- Parts of Paper 12's condition that an equal final configuration does not need of both entries. That two such entries
-- change places all the same is proved in proofs/Exchange.antt (`over-harmless`) and proofs/Harmless.antt
-- (`beside-harmless`).
use Rattle.std.specs.Prelude.{ℕ, ◌≡◌, ◌⊎◌, Bool, ◌&&◌, List, length}
use Rattle.machine.specs.Entry.{able, effect_of}
use Rattle.machine.specs.Run.{run, after_effect}
use Rattle.exchange.specs.Exchange.{moves_alone, moves_on, two_taken}

-- the condition without "neither stops or finishes its process"
unfoldable pub may_exchange_ending : List ℕ → List ℕ → ℕ → List ℕ → ℕ → ℕ → Bool
may_exchange_ending p outcomes room xs m n =
    let s = (run p outcomes room xs).state in
    two_taken p outcomes room xs m n
    && moves_alone p outcomes s m
    && moves_alone p outcomes (after_effect s (effect_of p outcomes (length xs) s m)) n

-- the lines that change places then: "3 gate ..", "9 finished. 10 stopped by fault a."
abbrev pub OfGateOrEnding : ℕ → Type 0
OfGateOrEnding kind = (kind ≡ 3) ⊎ ((kind ≡ 9) ⊎ (kind ≡ 10))

-- The whole condition for m alone: n may be at any op, and may stop or finish, if it is able to move before m's entry,
-- too.
unfoldable pub may_exchange_beside : List ℕ → List ℕ → ℕ → List ℕ → ℕ → ℕ → Bool
may_exchange_beside p outcomes room xs m n =
    let s = (run p outcomes room xs).state in
    two_taken p outcomes room xs m n && moves_on p outcomes (length xs) s m && able p outcomes s n
