-- Laws of words and tokens: what a blank does, what a whole word does, and that a token's number is never 0. Assumes nothing.
use Rattle.std.proofs.Common.{ℕ, ◌+◌, ◌*◌, ◌-◌, ◌≤◌, ◌≡◌, refl, ap, true, false, List, [], ◌∷◌, ◌++◌, map, arith, leb-true, leb-false, ne_eqb, eqb, leb}
use borrow.Author.Tests.{eqb-false}
use Rattle.std.proofs.Math.Option.{Option, none, some}
use Rattle.meaning.proofs.Truth.{bool_cases, and_both, neither_or}
use Rattle.rules.specs.Tools.{bytes}
use Rattle.rules.specs.Text.{Proper, is_blank, is_digit, digits, positive, Token, plus, minus, signed, same_bytes, token, word, words_from, tokens}
use Rattle.rules.proofs.Options.{none-some, some_inj}

-- Bytes

pub digit_range : (b : ℕ) → is_digit b ≡ true → (48 ≤ b) × (b ≤ 57)
unfolding is_digit
digit_range b e = let both = and_both (leb 48 b) (leb b 57) e in (leb-true 48 b both.0, leb-true b 57 both.1)

pub digit_not_blank : (b : ℕ) → is_digit b ≡ true → is_blank b ≡ false
unfolding is_blank
digit_not_blank b e =
    let r = digit_range b e in
    neither_or _ _
    (neither_or _ _ (neither_or _ _ (ne_eqb b 32 (λ q. omega arith)) (ne_eqb b 9 (λ q. omega arith))) (ne_eqb b 13 (λ q. omega arith)))
    (ne_eqb b 10 (λ q. omega arith))

-- Words

-- None of the bytes is a blank.
abbrev pub NoBlank : List ℕ → Type 0
NoBlank [] = Unit {0}
NoBlank (b ∷ w) = (is_blank b ≡ false) × NoBlank w

pub tokens_blank : (b : ℕ) (s : List ℕ) → is_blank b ≡ true → tokens (b ∷ s) ≡ tokens s
unfolding tokens words_from
tokens_blank b s e = rw (e, words_from)

pub word_whole : (w : List ℕ) (b : ℕ) (s : List ℕ) → NoBlank w → is_blank b ≡ true → word (w ++ b ∷ s) ≡ w
unfolding word
word_whole [] b s n e = rw (e, word)
word_whole (x ∷ w) b s n e = rw (n.0, word) (ap (λ (r : List ℕ). x ∷ r) (word_whole w b s n.1 e))

words_behind : (w : List ℕ) (b : ℕ) (s : List ℕ) → NoBlank w → is_blank b ≡ true → words_from false (w ++ b ∷ s) ≡ words_from true s
unfolding words_from
words_behind [] b s n e = rw (e, words_from)
words_behind (x ∷ w) b s n e = rw (n.0, words_from) (words_behind w b s n.1 e)

-- A word with a blank behind it is one token.
pub tokens-word : (x : ℕ) (w : List ℕ) (b : ℕ) (s : List ℕ) → NoBlank (x ∷ w) → is_blank b ≡ true → tokens ((x ∷ w) ++ b ∷ s) ≡ token (x ∷ w) ∷ tokens s
unfolding tokens words_from
tokens-word x w b s n e = rw (n.0, words_from, word_whole w b s n.1 e, words_behind w b s n.1 e)

-- Numbers

pub digits_grow : (n : ℕ) (w : List ℕ) (m : ℕ) → digits n w ≡ some m → n ≤ m
unfolding digits
digits_grow n [] m e = let q = some_inj e in omega arith
digits_grow n (b ∷ w) m e =
    bool_cases (is_digit b)
    (λ y. let r = digits_grow (n * 10 + (b - 48)) w m (rw (y, digits) at e) in omega arith)
    (λ x. none-some (rw (x, digits) at e))

pub positive_above_0 : (w : List ℕ) (n : ℕ) → positive w ≡ some n → 1 ≤ n
unfolding positive digits
positive_above_0 [] n e = none-some e
positive_above_0 (b ∷ w) n e =
    bool_cases (eqb b 48)
    (λ y. none-some (rw (y, positive) at e))
    (λ m. bool_cases (is_digit b)
    (λ d. first m (digit_range b d) (digits_grow (0 * 10 + (b - 48)) w n (rw (m, positive, d, digits) at e)))
    (λ x. none-some (rw (m, positive, x, digits) at e)))
  where
    first : eqb b 48 ≡ false → (48 ≤ b) × (b ≤ 57) → 0 * 10 + (b - 48) ≤ n → 1 ≤ n
    first m r g = bool_cases (leb 49 b) (λ y. omega (arith, leb-true 49 b y)) (λ x. absurd (eqb-false b 48 m (omega (arith, leb-false 49 b x))))

signed_proper : (sign : ℕ → Token) → ((n : ℕ) → 1 ≤ n → Proper (sign n)) → (w : List ℕ) → Proper (signed sign w)
unfolding signed
signed_proper sign h w = go (positive w) refl
  where
    go : (r : Option ℕ) → positive w ≡ r → Proper (signed sign w)
    go none q = rw (q, signed) tt
    go (some n) q = rw (q, signed) (h n (positive_above_0 w n q))

pub token_proper : (w : List ℕ) → Proper (token w)
unfolding token
token_proper [] = tt
token_proper (b ∷ w) =
    bool_cases (same_bytes (b ∷ w) (bytes "0"))
    (λ y. rw (y, token) tt)
    (λ n. bool_cases (same_bytes (b ∷ w) (bytes "d"))
    (λ y. rw (n, token, y) tt)
    (λ m. bool_cases (eqb b 45)
    (λ y. rw (n, token, m, y) (signed_proper minus (λ k h. h) w))
    (λ x. rw (n, token, m, x) (signed_proper plus (λ k h. h) (b ∷ w)))))

abbrev pub AllProper : List Token → Type 0
AllProper [] = Unit {0}
AllProper (t ∷ ts) = Proper t × AllProper ts

map_proper : (ws : List (List ℕ)) → AllProper (map token ws)
map_proper [] = tt
map_proper (w ∷ ws) = (token_proper w, map_proper ws)

pub tokens_proper : (s : List ℕ) → AllProper (tokens s)
unfolding tokens
tokens_proper s = map_proper (words_from true s)
