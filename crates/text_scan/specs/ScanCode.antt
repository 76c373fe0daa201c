-- What the names of a text do, in text order, as one scan over its tokens finds it. These definitions follow the code;
-- that a text of the grammar has the events of its tree is proved (proofs/EventsText.antt).
--
-- A scan has a mode and the number of braces that are open. What a token does is known from these, by its kind and by
-- the kind of the next token. Modes: 0 within a statement or a header, 1 where a statement or a declaration may begin,
-- 2 after measure, 3 after measure and its bracket, 4 within a declaration.
use Rattle.std.specs.Prelude.{ℕ, zero, suc, Bool, true, false, cond, ◌&&◌, ◌||◌, List, [], ◌∷◌, eqb}
use Rattle.text.specs.Tree.{Name}
use Rattle.text_parse.specs.Tokens.{Token, name_of}
use Rattle.text_parse.specs.Grammar.{first, rest}
use Rattle.text_tokens.specs.KindsCode.{kind_of}
use Rattle.text_scan.specs.Events.{Event, method_named, declared, used, called, invoked, opened, closed, ended}

abbrev pub kind_at : List Token → ℕ
kind_at ts = kind_of (first ts).bytes

-- ; { ) else: a statement may begin after it
unfoldable pub ends_part : ℕ → Bool
ends_part k = eqb k 26 || (eqb k 21 || (eqb k 20 || eqb k 13))

-- int, boolean, qbit, channel, channelEnd
unfoldable pub is_type_kind : ℕ → Bool
is_type_kind k = eqb k 1 || (eqb k 2 || (eqb k 3 || (eqb k 4 || eqb k 5)))

unfoldable pub is_none : ℕ → Bool
is_none zero = true
is_none (suc n) = false

unfoldable pub less_one : ℕ → ℕ
less_one zero = zero
less_one (suc n) = n

unfoldable pub mode_within : ℕ → ℕ → ℕ
mode_within mode k =
    cond (eqb mode 4) (cond (eqb k 26) 1 4)
    (cond (eqb mode 2) 3
    (cond (eqb k 9) 2
    (cond (ends_part k) 1
    (cond (eqb mode 1 && is_type_kind k) 4 0))))

-- the mode after a token of kind k
unfoldable pub mode_after : ℕ → ℕ → ℕ → ℕ
mode_after mode braces k =
    cond (is_none braces) (cond (eqb k 21) 1 0)
    (cond (eqb k 22) (cond (is_none (less_one braces)) 0 1) (mode_within mode k))

unfoldable pub braces_after : ℕ → ℕ → ℕ
braces_after braces k = cond (eqb k 21) (suc braces) (cond (eqb k 22) (less_one braces) braces)

-- What a token does: 0 nothing, 1 to 8 as the events are listed.
unfoldable pub name_role : ℕ → ℕ → ℕ → ℕ
name_role mode braces following =
    cond (is_none braces) (cond (eqb following 19) 1 2)
    (cond (eqb mode 4) 2
    (cond (eqb mode 3) 0
    (cond (eqb following 19) (cond (eqb mode 1) 5 4) 3)))

unfoldable pub brace_role : ℕ → ℕ → ℕ
brace_role braces k = cond (is_none braces) 0 (cond (eqb k 21) 6 (cond (eqb k 22) (cond (is_none (less_one braces)) 8 7) 0))

unfoldable pub role : ℕ → ℕ → ℕ → ℕ → ℕ
role mode braces k following = cond (eqb k 33) (name_role mode braces following) (brace_role braces k)

unfoldable pub with_event : ℕ → Name → ℕ → List Token → List Event → List Event
with_event r x n ts es =
    cond (eqb r 1) (method_named x n ∷ es)
    (cond (eqb r 2) (declared x ∷ es)
    (cond (eqb r 3) (used x ∷ es)
    (cond (eqb r 4) (called x n ∷ es)
    (cond (eqb r 5) (invoked x n ∷ es)
    (cond (eqb r 6) (opened ∷ es)
    (cond (eqb r 7) (closed ∷ es)
    (cond (eqb r 8) (ended ts ∷ es) es)))))))

-- How many arguments, or parameters, stand up to the closing bracket, from after the opening one on: the commas that
-- stand in no further bracket, and one.
unfoldable pub depth_after : ℕ → ℕ → ℕ
depth_after depth k = cond (eqb k 19) (suc depth) (cond (eqb k 20) (less_one depth) depth)

unfoldable pub count_after : ℕ → ℕ → ℕ → ℕ
count_after depth n k = cond (is_none depth && eqb k 25) (suc n) n

unfoldable pub count_from : ℕ → ℕ → List Token → ℕ
count_from depth n [] = n
count_from depth n (t ∷ ts) =
    cond (is_none depth && eqb (kind_of t.bytes) 20) n
    (count_from (depth_after depth (kind_of t.bytes)) (count_after depth n (kind_of t.bytes)) ts)

unfoldable pub argument_count : List Token → ℕ
argument_count ts = cond (eqb (kind_at ts) 20) 0 (count_from 0 1 ts)

-- the events of the tokens from a mode and a number of open braces on
unfoldable pub events_from : ℕ → ℕ → List Token → List Event
events_from mode braces [] = []
events_from mode braces (t ∷ ts) =
    with_event (role mode braces (kind_of t.bytes) (kind_at ts)) (name_of t) (argument_count (rest ts)) ts
    (events_from (mode_after mode braces (kind_of t.bytes)) (braces_after braces (kind_of t.bytes)) ts)
