-- What the functions of this crate find at a place of a text, in terms of document 01's definitions (rules' Text).
use Rattle.std.specs.Prelude.{◌≡◌, ℕ, zero, suc, ◌+◌, ◌-◌, ◌*◌, ◌/◌, ◌%◌, ◌^◌, ◌<◌, ◌≤◌, min, max, Bool, true, false, ◌⊎◌, List, [], ◌∷◌, length, drop, slice_index}
use Rattle.std.specs.Prelude.{Some, None, IfSome, MatchOption}
use Rattle.std.specs.Prelude.{Option as Maybe}
use Rattle.std.proofs.Math.Option.{Option, none, some}
use Rattle.rules.specs.Text.{is_blank, is_digit, digits, positive, Token, nought, plus, minus, letter_d, other, token, word}
use Rattle.text.specs.declared.Scanned.{Scanned as Place}
use Rattle.text.specs.declared.Token.{Token as Scanned}
use Rattle.text.specs.declared.Token.TheVariants.{Nought, Plus, Minus, LetterD, Other, Nothing}

-- A number stays at this size if it is larger.
abbrev pub most : ℕ
most = 1_000_000_000_000_000_000

-- How many blanks a text begins with.
unfoldable pub blanks : List ℕ → ℕ
unfolding is_blank
blanks [] = 0
blanks (b ∷ s) = elim (is_blank b) [ true ↦ suc (blanks s) | false ↦ 0 ]

-- A word ends where the text goes on so.
unfoldable pub ends_word : List ℕ → Bool
unfolding is_blank
ends_word [] = true
ends_word (b ∷ s) = is_blank b

-- A number as this crate gives it: never above `most`.
abbrev pub sized : Option ℕ → Option ℕ
sized none = none
sized (some n) = some (min n most)

-- The size of a number that was found, if one was.
abbrev pub size_of : Maybe (Place ℕ) → Option ℕ
size_of None = none
size_of (Some n) = some n.token

-- The bytes of s from `from` up to the place `to` pass a test, and the one that stands there, if there is one, does not.
pub record Behind (tests : ℕ → Bool → Type 0) (s : List ℕ) (from to : ℕ) : Type 0 where
  pub onward : from ≤ to
  pub within : to ≤ max from (length s)
  pub passed : (i : ℕ) → from ≤ i → i < to → tests (slice_index s i) true
  pub stops : to < length s → tests (slice_index s to) false

-- No digit stands at the place i.
pub record Stops (s : List ℕ) (i : ℕ) : Type 0 where
  pub stops : i < length s → is_digit (slice_index s i) ≡ false

-- The number whose digits say v up to the place `at`, where the text goes on with s, if it is one; and then the place behind it.
pub record Numbered (v at : ℕ) (s : List ℕ) (found : Maybe (Place ℕ)) : Type 0 where
  pub is_size : size_of found ≡ sized (digits v (word s))
  pub is_next : IfSome found (λ n. n.next ≡ at + length (word s))

-- From `from`, where the digits before it said `first`, a run of digits goes up to i and says v: what is found from there on is
-- what is found from the start on. It ends at the last digit, unless v is above `most`.
pub record Ran (s : List ℕ) (first from v i : ℕ) : Type 0 where
  pub back : (found : Maybe (Place ℕ)) → Numbered v i (drop i s) found → Numbered first from (drop from s) found
  pub stops : v ≤ most → Stops s i

-- Where a run stands that has not gone above `most`: what is found from i on with v is what is found from the start.
pub record Digits (s : List ℕ) (first from v i : ℕ) : Type 0 where
  pub small : v ≤ most
  pub back : (found : Maybe (Place ℕ)) → Numbered v i (drop i s) found → Numbered first from (drop from s) found

-- A token as this crate gives it.
abbrev pub capped : Token → Scanned
capped nought = Nought
capped (plus n) = Plus (min n most)
capped (minus n) = Minus (min n most)
capped letter_d = LetterD
capped other = Other

-- The token of a word; an empty word is the end of the text.
unfoldable pub token_of : List ℕ → Scanned
unfolding token
token_of [] = Nothing
token_of (b ∷ w) = capped (token (b ∷ w))

-- The word that the text s begins with, at the place `at`, as a positive number, if it is one; and then the place behind it.
pub record Positive (at : ℕ) (s : List ℕ) (found : Maybe (Place ℕ)) : Type 0 where
  pub is_size : size_of found ≡ sized (positive (word s))
  pub is_next : IfSome found (λ n. n.next ≡ at + length (word s))

-- The same as a token, unless it is another word; and then the place behind it.
pub record Guessing (at : ℕ) (s : List ℕ) (found : Maybe (Place Scanned)) : Type 0 where
  pub is_token : MatchOption found (token_of (word s) ≡ Other) (λ f. f.token ≡ token_of (word s))
  pub is_next : IfSome found (λ f. f.next ≡ at + length (word s))

-- The first token of the text s, which begins at the place `at`, and the place behind it.
pub record Scans (at : ℕ) (s : List ℕ) (t : Scanned) (next : ℕ) : Type 0 where
  pub is_token : t ≡ token_of (word (drop (blanks s) s))
  pub is_next : next ≡ at + (blanks s + length (word (drop (blanks s) s)))

-- The byte is a token by itself.
abbrev pub OneByte : ℕ → Scanned → Type 0
OneByte b Nought = b ≡ 48
OneByte b (Plus n) = ⊥
OneByte b (Minus n) = ⊥
OneByte b LetterD = b ≡ 100
OneByte b Other = ⊥
OneByte b Nothing = ⊥

-- The byte begins no token of one byte, and is no blank.
pub record Numeral (b : ℕ) : Type 0 where
  pub no_blank : is_blank b ≡ false
  pub no_nought : b ≡ 48 → ⊥
  pub no_letter : b ≡ 100 → ⊥

-- The byte begins neither a negative number nor a token of one byte, and is no blank.
pub record Plain (b : ℕ) : Type 0 where
  pub no_blank : is_blank b ≡ false
  pub no_nought : b ≡ 48 → ⊥
  pub no_letter : b ≡ 100 → ⊥
  pub no_sign : b ≡ 45 → ⊥

-- 1 only for a sign, and else 0.
pub record Sign (b r : ℕ) : Type 0 where
  pub few : r ≤ 1
  pub is : 1 ≤ r → b ≡ 45

-- The number that k bytes from the place i on make, the first of them lowest.
unfoldable pub bytes_at : List ℕ → ℕ → ℕ → ℕ
bytes_at s i zero = 0
bytes_at s i (suc k) = slice_index s i + 256 * bytes_at s (i + 1) k

-- The k bytes from the place `at` on, as one number.
pub record Bytes (s : List ℕ) (at k r : ℕ) : Type 0 where
  pub is : r ≡ bytes_at s at k
  pub bytes : (i : ℕ) → at ≤ i → i < at + k → slice_index s i < 256

-- How far the bytes of w are above eight digits 0, the lowest above 3 less than that if there is a sign; moved up so that n of
-- them are left.
pub record MovedUp (w sign n r : ℕ) : Type 0 where
  pub difference : ℕ
  pub is : (difference + (3472328296227680304 - 3 * sign)) % 2 ^ 64 ≡ w
  pub moved : r ≡ difference * 2 ^ (64 - 8 * n) % 2 ^ 64

-- Each of the lowest k bytes of x is at most m.
abbrev pub EachUpTo : ℕ → ℕ → ℕ → Type 0
EachUpTo m zero x = Unit {0}
EachUpTo m (suc k) x = (x % 256 ≤ m) × EachUpTo m k (x / 256)

-- The same, in the form of a contract.
pub record EachAtMost (m k x : ℕ) : Type 0 where
  pub each : EachUpTo m k x

-- If the answer is yes, P.
pub record Tells (r : Bool) (P : Type 0) : Type 0 where
  pub yes : r ≡ true → P

-- What the lowest k bytes of x say as digits behind v, the lowest first.
unfoldable pub said : ℕ → ℕ → ℕ → ℕ
said zero v x = v
said (suc k) v x = said k (v * 10 + x % 256) (x / 256)

-- The first token of the text s, which begins at the place `at`, is a number of this size, and takes so many bytes together with
-- the blanks before it. Its code is twice the size, and 1 more if it is negative.
abbrev pub ShortCase : ℕ → List ℕ → ℕ → ℕ → ℕ → Type 0
ShortCase at s size code bytes = ((code ≡ 2 * size) × Scans at s (Plus size) (at + bytes)) ⊎ ((code ≡ 2 * size + 1) × Scans at s (Minus size) (at + bytes))

pub record ShortNumber (at : ℕ) (s : List ℕ) (code bytes : ℕ) : Type 0 where
  pub size : ℕ
  pub positive : 1 ≤ size
  pub case : ShortCase at s size code bytes

-- A short number as one number: 16 times its code, and its bytes. Of 0 nothing is said.
pub record Short (at : ℕ) (s : List ℕ) (r : ℕ) : Type 0 where
  pub is : 1 ≤ r → ShortNumber at s (r / 16) (r % 16)
