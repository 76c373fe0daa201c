-- What a reading by places answers. These definitions follow the code.
use Rattle.std.specs.Prelude.{ℕ, suc, ◌≤◌, ◌<◌, ◌≡◌, Bool, true, false, ◌||◌, List, eqb, length, Result, is_ok}
use Rattle.std.proofs.Math.Option.{Option}
use Rattle.text.specs.Tree.{Carried, NonVoidType}
use Rattle.text.specs.Translation.{carried_code, type_code, return_code}
use Rattle.text_parse.specs.Tokens.{Token}
use Rattle.text_parse.specs.Grammar.{Reading, read, leaves, first, rest}
use Rattle.text_tokens.specs.Places.{tokens_at}
use Rattle.text_tokens.specs.KindsCode.{kind_of}
use Rattle.text_types.specs.declared.place.GrammarError.{GrammarError}
use Rattle.text_types.specs.declared.types.TypeAt.{TypeAt}
use Rattle.text_types.specs.Answer.{type_place, type_code_in}

-- the kind and the place of the next token
abbrev pub next_kind : List ℕ → ℕ → ℕ
next_kind text i = kind_of (first (tokens_at text i)).bytes

abbrev pub next_at : List ℕ → ℕ → ℕ
next_at text i = (first (tokens_at text i)).at

-- the next token from i on is read; it ends at e
pub record Passed (text : List ℕ) (i e : ℕ) : Type 0 where
  pub after : rest (tokens_at text i) ≡ tokens_at text e
  pub onward : i < e
  pub begun : i < length text
  pub within : e ≤ length text

-- A token of a kind must stand at i. (Kind 32 is the end of the text, which is never read.)
pub data Expected (text : List ℕ) (i kind : ℕ) (ok : Bool) (at : ℕ) : Type 0 where
  found : ok ≡ true → next_kind text i ≡ kind → ((kind ≡ 32 → ⊥) → Passed text i at) → Expected text i kind ok at
  missing : ok ≡ false → (next_kind text i ≡ kind → ⊥) → at ≡ next_at text i → Expected text i kind ok at

-- What a reading's answer is: where it comes to a tree, the tokens after it are those from the place on, and the tree
-- has the property P; where it leaves the grammar, the place is the same.
pub data Says (text : List ℕ) (low : ℕ) {A : Type 0} (P : A → Type 0) (ok : Bool) (at : ℕ) : Reading A → Type 0 where
  reads : {a : A} {us : List Token} → ok ≡ true → us ≡ tokens_at text at → low ≤ at → at ≤ length text → P a
      → Says text low P ok at (read a us)
  leaves-at : {i : ℕ} → ok ≡ false → at ≡ i → Says text low P ok at (leaves i)

-- What holds of an answer after another one: if the text has left the grammar, it stays where it did.
pub record On (before : Bool) (place : ℕ) (ok : Bool) (at : ℕ) (S : Type 0) : Type 0 where
  pub on : before ≡ true → S
  pub off-ok : before ≡ false → ok ≡ false
  pub off_at : before ≡ false → at ≡ place

-- a type's answer has its code
abbrev pub CarriedSays : List ℕ → ℕ → Result TypeAt GrammarError → Reading Carried → Type 0
CarriedSays text from r = Says text (suc from) (λ t. type_code_in r ≡ carried_code t) (is_ok r) (type_place r)

abbrev pub TypeSays : List ℕ → ℕ → Result TypeAt GrammarError → Reading NonVoidType → Type 0
TypeSays text from r = Says text (suc from) (λ t. type_code_in r ≡ type_code t) (is_ok r) (type_place r)

abbrev pub ReturnSays : List ℕ → ℕ → Result TypeAt GrammarError → Reading (Option NonVoidType) → Type 0
ReturnSays text from r = Says text (suc from) (λ t. type_code_in r ≡ return_code t) (is_ok r) (type_place r)

-- kinds of tokens
abbrev pub is_plain : ℕ → Bool
is_plain k = eqb k 1 || (eqb k 2 || eqb k 3)

abbrev pub starts_kind : ℕ → Bool
starts_kind k = eqb k 1 || (eqb k 2 || (eqb k 3 || (eqb k 4 || eqb k 5)))
