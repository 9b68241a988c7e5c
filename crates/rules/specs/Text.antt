-- Section 2, text: blanks, numbers, and the tokens that a text is made of. A text is a list of bytes, each a number from 0 to
-- 255. A number in it has no limit here. Each place where one may stand tests its own, so a number that is too large is never
-- taken for another one.
use Rattle.std.specs.Prelude.{ℕ, ◌+◌, ◌*◌, ◌-◌, ◌≤◌, Bool, true, false, ◌&&◌, ◌||◌, List, [], ◌∷◌, map, eqb, leb}
use Rattle.std.proofs.Math.Option.{Option, none, some}
use Rattle.meaning.specs.Meaning.{Literal, pos, neg}
use Rattle.rules.specs.Tools.{bytes, only}

-- "Blanks are space, tab, carriage return, line feed."
unfoldable pub is_blank : ℕ → Bool
is_blank b = eqb b 32 || eqb b 9 || eqb b 13 || eqb b 10

-- A decimal digit: the bytes 48 to 57.
unfoldable pub is_digit : ℕ → Bool
is_digit b = leb 48 b && leb b 57

-- The value of a run of decimal digits, behind the value n of those before it.
unfoldable pub digits : ℕ → List ℕ → Option ℕ
unfolding is_digit
digits n [] = some n
digits n (b ∷ w) = elim (is_digit b) [ true ↦ digits (n * 10 + (b - 48)) w | false ↦ none ]

-- "Decimal digits without a leading zero": a positive number, of any size.
unfoldable pub positive : List ℕ → Option ℕ
unfolding digits
positive [] = none
positive (b ∷ w) = elim (eqb b 48) [ true ↦ none | false ↦ digits 0 (b ∷ w) ]

-- What a word may say: the number 0, a positive number, a negative number (by its size), the letter d, anything else.
pub data Token : Type 0 where
  nought : Token
  plus : ℕ → Token
  minus : ℕ → Token
  letter_d : Token
  other : Token

-- The number of a token is never 0: that is a token of its own. (Every token of a text is so: `tokens_proper` in proofs/.)
abbrev pub Proper : Token → Type 0
Proper nought = Unit {0}
Proper (plus n) = 1 ≤ n
Proper (minus n) = 1 ≤ n
Proper letter_d = Unit {0}
Proper other = Unit {0}

-- What the bytes of a number say behind its sign.
unfoldable pub signed : (ℕ → Token) → List ℕ → Token
unfolding positive
signed sign w = elim (positive w) [ none ↦ other | some n ↦ sign n ]

-- The two texts are the same, byte by byte.
unfoldable pub same_bytes : List ℕ → List ℕ → Bool
same_bytes [] [] = true
same_bytes [] (y ∷ ys) = false
same_bytes (x ∷ xs) [] = false
same_bytes (x ∷ xs) (y ∷ ys) = eqb x y && same_bytes xs ys

-- "A number is 0, or an optional - and decimal digits without a leading zero. No +, no -0." 45 is the sign -.
unfoldable pub token : List ℕ → Token
unfolding signed same_bytes
token [] = other
token (b ∷ w) =
    elim (same_bytes (b ∷ w) (bytes "0")) [
      | true ↦ nought
      | false ↦ elim (same_bytes (b ∷ w) (bytes "d")) [
        | true ↦ letter_d
        | false ↦ elim (eqb b 45) [ true ↦ signed minus w | false ↦ signed plus (b ∷ w) ]
      ]
    ]

-- The bytes of s up to its first blank.
unfoldable pub word : List ℕ → List ℕ
unfolding is_blank
word [] = []
word (b ∷ s) = elim (is_blank b) [ true ↦ [] | false ↦ b ∷ word s ]

-- The words of s: its maximal runs of bytes that are not blanks. `fresh` says that no word reaches into s from before it.
unfoldable pub words_from : Bool → List ℕ → List (List ℕ)
unfolding is_blank word
words_from fresh [] = []
words_from fresh (b ∷ s) =
    elim (is_blank b) [
      | true ↦ words_from true s
      | false ↦ elim fresh [ true ↦ (b ∷ word s) ∷ words_from false s | false ↦ words_from false s ]
    ]

-- The tokens of a text, one for each word.
unfoldable pub tokens : List ℕ → List Token
unfolding words_from token
tokens s = map token (words_from true s)

abbrev pub is_nought : Token → Bool
is_nought nought = true
is_nought (plus n) = false
is_nought (minus n) = false
is_nought letter_d = false
is_nought other = false

abbrev pub is_letter_d : Token → Bool
is_letter_d nought = false
is_letter_d (plus n) = false
is_letter_d (minus n) = false
is_letter_d letter_d = true
is_letter_d other = false

-- "A literal is a non-zero number"; here with a variable of at most m.
unfoldable pub literal : ℕ → Token → Option Literal
literal m nought = none
literal m (plus v) = only (leb v m) (pos v)
literal m (minus v) = only (leb v m) (neg v)
literal m letter_d = none
literal m other = none
