-- Small texts: what they are refused for, and how they run. They are proved by computing the definitions
-- (proofs/Examples.antt).
use Rattle.std.specs.Prelude.{ℕ, zero, suc, ◌≡◌, Bool, true, false, List, [], ◌∷◌, ◌++◌, map, replicate, length}
use Prim.Native.String.{String, ◌++◌ as ◌++ˢ◌}
use Rattle.machine.specs.State.{Line}
use Rattle.machine.specs.Run.{ResultOf}
use Rattle.text.specs.Tree.{ascii, Program}
use Rattle.text.specs.Meaning.{TextFrame, meaning}
use Rattle.text_parse.specs.Text.{Text, refused_text, translated_text, text_of}

-- Refusals

abbrev pub of : String → Text
of s = text_of (ascii s)

-- a run's end, outcomes used, entries used, and of each line process, kind and the two numbers after it
abbrev pub line_shown : Line → List ℕ
line_shown l = l.process ∷ l.kind ∷ l.a ∷ l.b ∷ []

unfoldable pub lines_shown : List Line → List ℕ
lines_shown [] = []
lines_shown (l ∷ ls) = line_shown l ++ lines_shown ls

unfoldable pub shown : {F : Type 0} → ResultOf F → List ℕ
shown r = r.end ∷ r.state.used ∷ r.entries ∷ lines_shown r.state.lines

unfoldable pub meaning_of : Text → List ℕ → List ℕ → List ℕ
meaning_of (refused_text n i) outcomes schedule = n ∷ i ∷ []
meaning_of (translated_text ms) outcomes schedule = shown (meaning ms outcomes 64 schedule)

-- processes 0 and 1 in turn, so many times
unfoldable pub in_turn : ℕ → List ℕ
in_turn zero = []
in_turn (suc n) = 0 ∷ 1 ∷ in_turn n

-- teleportation: a's state goes to q, which the child holds
unfoldable pub teleportation : String
teleportation =
    "void bob(channelEnd[int] e, qbit q) { int m; m = recv(e); if (m == 1) X(q); "
    ++ˢ "m = recv(e); if (m == 1) Z(q); } "
    ++ˢ "void main() { channel[int] c withends [c0, c1]; qbit a, p, q; int m; c = new channel[int](); "
    ++ˢ "p = new qbit(); q = new qbit(); H(p); CX(p, q); fork bob(c1, q); a = new qbit(); CX(a, p); H(a); "
    ++ˢ "m = measure(StdBasis, p); send(c0, m); m = measure(StdBasis, a); send(c0, m); }"

-- a block's variable is emptied on each turn: in the second, n has no value yet
unfoldable pub shadowed : String
shadowed =
    "void main() { int x, n; n = 7; x = 0; while (x < 2) { int n; if (x == 1) x = n; n = 5; x = x + 1; } }"

-- q stands in a half-evaluated argument list when g sends it away
unfoldable pub half_evaluated : String
half_evaluated =
    "int g(qbit q, channelEnd[qbit] e) { send(e, q); return 1; } "
    ++ˢ "void f(qbit q, int n) { X(q); } "
    ++ˢ "void r(channelEnd[qbit] e) { qbit z; z = recv(e); H(z); } "
    ++ˢ "void main() { channel[qbit] c withends [a, b]; qbit q; c = new channel[qbit](); fork r(b); "
    ++ˢ "q = new qbit(); f(q, g(q, a)); }"

-- every gate by its name, both truths, a difference, a strict comparison
unfoldable pub every_gate : String
every_gate =
    "void main() { qbit a, b; int n; a = new qbit(); b = new qbit(); X(a); Y(a); Z(a); H(a); S(a); "
    ++ˢ "CX(a, b); CZ(a, b); SWAP(b, a); n = 45 - 3; if (n == 42) X(b); if (n < 42) Y(b); if (41 < n) Z(b); "
    ++ˢ "if (true) S(b); if (false) X(b); }"

-- a method's body and blocks in it, so many left in all
unfoldable pub nested : ℕ → List ℕ
nested n = ascii "void main() " ++ (replicate n 123 ++ replicate n 125)

abbrev pub is_translated : Text → Bool
is_translated (refused_text n i) = false
is_translated (translated_text ms) = true

pub record Refusals : Type 0 where
  -- the empty text, and one of white space alone
  pub empty-text : of "" ≡ refused_text 30 0
  pub blank-text : of " " ≡ refused_text 30 1
  -- a text that stops too early: at its length
  pub stops-early : of "void main() {" ≡ refused_text 30 13
  -- a byte that no token has
  pub bad-byte : of "void main() { @ }" ≡ refused_text 30 14
  -- an earlier wrong token wins over a bad one
  pub bad-later : of "void main() { int } @" ≡ refused_text 30 18
  -- `-5` is 30 at the -
  pub no_sign : of "void main() { int x; x = -5; }" ≡ refused_text 30 25
  -- `12ab` is a number and a name
  pub number-name : of "void main() { int x; x = 12ab; }" ≡ refused_text 30 27
  -- `return;` is 30 at the ;
  pub return-nothing : of "void main() { return; }" ≡ refused_text 30 20
  -- `new T();` is no statement
  pub new-alone : of "void main() { new qbit(); }" ≡ refused_text 30 14
  -- a declaration after a statement
  pub late-declaration : of "void main() { ; int x; }" ≡ refused_text 30 16
  -- an expression is no statement
  pub expression-alone : of "void main() { 1 + 2; }" ≡ refused_text 30 14
  -- no operator after new
  pub new-and-operator : of "void main() { qbit q; q = new qbit() + 1; }" ≡ refused_text 30 37
  -- but an assignment of it is an operand: in the grammar, and then a type error
  pub new-in-operand : of "void main() { qbit q; int a; a = q = new qbit() + 1; }" ≡ refused_text 32 5
  -- a + b == c is a + (b == c)
  pub mixed-types : of "void main() { int a; boolean b; b = a + a == a; }" ≡ refused_text 32 5
  -- a type that a channel does not carry
  pub channel-of-channel : of "void main() { channel[channel[int]] c; }" ≡ refused_text 30 22
  -- no op makes an end
  pub new-end : of "void main() { channelEnd[int] e; e = new channelEnd[int](); }" ≡ refused_text 32 5
  -- another basis, a second variable
  pub other-basis : of "void main() { qbit q; measure(Bell, q); }" ≡ refused_text 30 30
  pub two-measured : of "void main() { qbit q; measure(StdBasis, q, q); }" ≡ refused_text 30 41
  -- a withends channel assigned inside an expression
  pub ends-in-expression : of "void main() { channel[int] c withends [a, b]; channel[int] d; d = c = new channel[int](); }"
      ≡ refused_text 30 66
  -- in an expression a gate's name means a method
  pub gate-as-operand : of "void main() { int x; x = H(x); }" ≡ refused_text 31 25
  -- a gate with a wrong number of arguments
  pub gate-count : of "void main() { qbit q; H(q, q); }" ≡ refused_text 31 22
  pub gate-unknown : of "void main() { qbit q; T(q); }" ≡ refused_text 31 22
  -- the use of a name that is not declared
  pub undeclared : of "void main() { int x; x = 1 + 2; y = 3; }" ≡ refused_text 31 32
  -- a scope ends with its block
  pub out-of-scope : of "void main() { { int x; x = 1; } x = 2; }" ≡ refused_text 31 32
  -- the later of two declarations in one block, parameters among them
  pub declared-twice : of "void main() { int x, x; } " ≡ refused_text 31 21
  pub parameter-twice : of "void f(int x) { int x; } void main() { }" ≡ refused_text 31 20
  -- the later of two methods
  pub method-twice : of "void f() { } void f() { } void main() { }" ≡ refused_text 31 18
  -- a missing main is at the text's end
  pub no_main : of "void f() { } " ≡ refused_text 31 13
  -- a wrong number of arguments
  pub arguments-missing : of "void f(int x) { } void main() { f(); }" ≡ refused_text 31 32
  -- limits: main with a parameter, a number above 32,767, nine parameters
  pub main-with-parameter : of "void main(int x) { }" ≡ refused_text 32 5
  pub number-too-large : of "void main() { int x; x = 32768; }" ≡ refused_text 32 5
  pub nine-parameters : of "void f(int a, int b, int c, int d, int e, int g, int h, int i, int j) { } void main() { }"
      ≡ refused_text 32 5
  -- of two methods at fault the first in text order
  pub first-in-text : of "void main() { int x; x = true; } void f() { int y; y = true; }" ≡ refused_text 32 5
  -- also where it stands before main, which is the table's first
  pub first-before-main : of "void f() { int y; y = true; } void main() { int x; x = true; }" ≡ refused_text 32 5
  -- byte 11 is no white space; _ is a letter; aliasfor is reserved
  pub other-blank : text_of (ascii "void" ++ (11 ∷ ascii " main() { }")) ≡ refused_text 30 4
  pub underscore : of "void main() { _ = 1; }" ≡ refused_text 31 14
  pub alias-reserved : of "void main() { int aliasfor; }" ≡ refused_text 30 18
  -- the largest number; its digits read from the other end would be too large
  pub largest-number : is_translated (of "void main() { int x; x = 032767; }") ≡ true
  -- of two declarations in one block the first stands, before the second is a fault of names
  pub first-declaration : of "void main() { channel[int] c withends [a, b]; int c, x; x = (c = 1); }" ≡ refused_text 30 61
  -- a withends channel of an outer block
  pub ends-of-outer-block :
      of "void main() { channel[int] c withends [a, b]; { channel[int] d; d = c = new channel[int](); } }"
      ≡ refused_text 30 68
  -- of two faults of names the lower one, though the other is in a method and this one between methods
  pub lower-of-two : of "void f() { } void f() { x = 1; } void main() { }" ≡ refused_text 31 18
  -- the called name after fork
  pub fork-unknown : of "void main() { fork g(); }" ≡ refused_text 31 19
  -- nested to 32, and no deeper: 30 at the first token of the block at depth 33
  pub depth-32 : is_translated (text_of (nested 32)) ≡ true
  pub depth-33 : text_of (nested 33) ≡ refused_text 30 44

-- end, outcomes used, entries used; then process, kind, a and b of each line
pub record Runs : Type 0 where
  -- the child's qubit is corrected by two ints that it is sent
  pub teleports : meaning_of (of teleportation) (1 ∷ 1 ∷ []) (in_turn 70)
      ≡ 1 ∷ 2 ∷ 110
      ∷ 0 ∷ 2 ∷ 0 ∷ 65535
      ∷ 0 ∷ 1 ∷ 0 ∷ 65535
      ∷ 0 ∷ 1 ∷ 1 ∷ 65535
      ∷ 0 ∷ 3 ∷ 4 ∷ 0
      ∷ 0 ∷ 3 ∷ 6 ∷ 0
      ∷ 0 ∷ 5 ∷ 1 ∷ 1
      ∷ 0 ∷ 6 ∷ 1 ∷ 6
      ∷ 0 ∷ 6 ∷ 1 ∷ 3
      ∷ 0 ∷ 1 ∷ 2 ∷ 65535
      ∷ 0 ∷ 3 ∷ 6 ∷ 2
      ∷ 0 ∷ 3 ∷ 4 ∷ 2
      ∷ 0 ∷ 4 ∷ 0 ∷ 1
      ∷ 0 ∷ 7 ∷ 1 ∷ 0
      ∷ 0 ∷ 8 ∷ 1 ∷ 0
      ∷ 0 ∷ 4 ∷ 2 ∷ 1
      ∷ 1 ∷ 3 ∷ 1 ∷ 1
      ∷ 0 ∷ 7 ∷ 1 ∷ 0
      ∷ 0 ∷ 8 ∷ 1 ∷ 0
      ∷ 0 ∷ 9 ∷ 65535 ∷ 65535
      ∷ 1 ∷ 3 ∷ 3 ∷ 1
      ∷ 1 ∷ 9 ∷ 65535 ∷ 65535 ∷ []
  -- fault 20 in the second turn
  pub emptied : meaning_of (of shadowed) [] (replicate 60 0) ≡ 1 ∷ 0 ∷ 34 ∷ 0 ∷ 10 ∷ 20 ∷ 65535 ∷ []
  -- the call of f finds its first argument empty: fault 20, and no gate on a qubit that another station holds
  pub given : meaning_of (of half_evaluated) [] (in_turn 40)
      ≡ 1 ∷ 0 ∷ 50
      ∷ 0 ∷ 2 ∷ 0 ∷ 65535
      ∷ 0 ∷ 5 ∷ 1 ∷ 3
      ∷ 0 ∷ 6 ∷ 1 ∷ 6
      ∷ 0 ∷ 1 ∷ 0 ∷ 65535
      ∷ 0 ∷ 7 ∷ 1 ∷ 0
      ∷ 0 ∷ 6 ∷ 1 ∷ 3
      ∷ 0 ∷ 10 ∷ 20 ∷ 65535
      ∷ 1 ∷ 3 ∷ 4 ∷ 0
      ∷ 1 ∷ 9 ∷ 65535 ∷ 65535 ∷ []
  -- 53 moves: gates 1 to 8, then X, Z and S of b
  pub gates : meaning_of (of every_gate) [] (replicate 60 0)
      ≡ 1 ∷ 0 ∷ 53
      ∷ 0 ∷ 1 ∷ 0 ∷ 65535
      ∷ 0 ∷ 1 ∷ 1 ∷ 65535
      ∷ 0 ∷ 3 ∷ 1 ∷ 0
      ∷ 0 ∷ 3 ∷ 2 ∷ 0
      ∷ 0 ∷ 3 ∷ 3 ∷ 0
      ∷ 0 ∷ 3 ∷ 4 ∷ 0
      ∷ 0 ∷ 3 ∷ 5 ∷ 0
      ∷ 0 ∷ 3 ∷ 6 ∷ 0
      ∷ 0 ∷ 3 ∷ 7 ∷ 0
      ∷ 0 ∷ 3 ∷ 8 ∷ 1
      ∷ 0 ∷ 3 ∷ 1 ∷ 1
      ∷ 0 ∷ 3 ∷ 3 ∷ 1
      ∷ 0 ∷ 3 ∷ 5 ∷ 1
      ∷ 0 ∷ 9 ∷ 65535 ∷ 65535 ∷ []
