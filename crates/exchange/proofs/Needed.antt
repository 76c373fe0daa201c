-- The cases of specs/Needed.antt, by computing the definitions. Two configurations differ where a number read off them
-- does.
use Prim.Native.Nat.{ℕ}
use mathlib.Core.Path.{◌≡◌, refl, ap}
use mathlib.Core.Logic.{◌≢◌}
use mathlib.Core.List.{List, [], ◌∷◌, ◌++◌}
use native.Mathlib.Omega.{arith}
use lib.IntN.{pos, negsuc}
use lib.ListN.{get_or, replicate}
use Rattle.machine.specs.Value.{Value, empty, int, bool, ref, thing_no}
use Rattle.machine.specs.State.{Frame, Config, process_at}
use Rattle.machine.proofs.Opened.{machine-opened}
use Rattle.exchange.specs.Exchange.{left_out, top_op, stands_at, moves_alone, moves_on, both_move_on, two_taken, may_exchange}
use Rattle.exchange.specs.Needed.{moves_but_at, may_exchange_but, left, twice, making_qubit, making_channel, both_measuring, both_forking, over_channel, main_sending, main_receiving, both_receiving, both_gating, Needed}

-- numbers that set configurations apart: of the value on top of process 0, of its place, of process 2's method
abbrev value_no : Value → ℕ
value_no empty = 0
value_no (int (pos n)) = n
value_no (int (negsuc n)) = 0
value_no (bool b) = 0
value_no (ref t) = thing_no t

abbrev top : List Frame → ℕ
top [] = 0
top (f ∷ fs) = value_no (get_or f.pending 0 empty)

abbrev place : List Frame → ℕ
place [] = 0
place (f ∷ fs) = f.place

abbrev method : List Frame → ℕ
method [] = 0
method (f ∷ fs) = f.method

differ : (f : Config → ℕ) (i j : ℕ) (c d : Config) → f c ≡ i → f d ≡ j → i ≢ j → c ≢ d
differ f i j c d a b ne e = ne (omega (arith, a, b, ap f e))

pub needed : Needed
unfolding machine-opened left_out top_op stands_at moves_alone moves_on both_move_on two_taken may_exchange moves_but_at
    may_exchange_but twice making_qubit making_channel both_measuring both_forking over_channel main_sending main_receiving
    both_receiving both_gating
needed = record {
  gates = tt;
  gates-given = refl;
  gates-exchanged = refl;
  newq = record {
    accepted = refl;
    kept = tt;
    differs =
        differ (λ c. top (process_at c 0).frames) 0 1 (left making_qubit [] 4096 (0 ∷ 0 ∷ 1 ∷ []))
        (left making_qubit [] 4096 (0 ∷ 1 ∷ 0 ∷ [])) refl refl (omega arith);
  };
  newc = record {
    accepted = refl;
    kept = tt;
    differs =
        differ (λ c. top (process_at c 0).frames) 0 1 (left making_channel [] 4096 (0 ∷ 0 ∷ 1 ∷ []))
        (left making_channel [] 4096 (0 ∷ 1 ∷ 0 ∷ [])) refl refl (omega arith);
  };
  meas = record {
    accepted = refl;
    kept = tt;
    differs = differ (λ c. top (process_at c 0).frames) 0 1
        (left both_measuring (0 ∷ 1 ∷ []) 4096 (0 ∷ 0 ∷ 1 ∷ 0 ∷ 1 ∷ []))
        (left both_measuring (0 ∷ 1 ∷ []) 4096 (0 ∷ 0 ∷ 1 ∷ 1 ∷ 0 ∷ [])) refl refl (omega arith);
  };
  fork = record {
    accepted = refl;
    kept = tt;
    differs =
        differ (λ c. method (process_at c 2).frames) 2 3 (left both_forking [] 4096 (0 ∷ 0 ∷ 1 ∷ []))
        (left both_forking [] 4096 (0 ∷ 1 ∷ 0 ∷ [])) refl refl (omega arith);
  };
  send = record {
    accepted = refl;
    kept = tt;
    differs = differ (λ c. place (process_at c 0).frames) 11 10
        (left main_sending [] 4096 (replicate 10 0 ++ 1 ∷ 0 ∷ []))
        (left main_sending [] 4096 (replicate 10 0 ++ 0 ∷ 1 ∷ [])) refl
        refl (omega arith);
  };
  recv = record {
    accepted = refl;
    kept = tt;
    differs = differ (λ c. place (process_at c 0).frames) 10 9
        (left main_receiving [] 4096 (replicate 9 0 ++ (1 ∷ []) ++ 1 ∷ 0 ∷ []))
        (left main_receiving [] 4096 (replicate 9 0 ++ (1 ∷ []) ++ 0 ∷ 1 ∷ [])) refl refl (omega arith);
  };
  taken-accepted = refl;
  taken = tt;
  taken-differs =
      differ (λ c. place (process_at c 0).frames) 3 2 (left both_gating [] 4 (0 ∷ 0 ∷ 1 ∷ 0 ∷ 1 ∷ []))
      (left both_gating [] 4 (0 ∷ 0 ∷ 1 ∷ 1 ∷ 0 ∷ [])) refl refl (omega arith);
  moves-accepted = refl;
  moves = refl;
  moves-differs = refl;
}
