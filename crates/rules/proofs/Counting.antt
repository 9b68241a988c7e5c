-- How many tokens a text can have: each takes a byte, and a blank stands between two. Assumes nothing.
use Rattle.std.proofs.Common.{ℕ, ◌+◌, ◌*◌, ◌≤◌, Bool, true, false, List, [], ◌∷◌, arith, length}
use Rattle.std.proofs.Math.ListN.{length-map}
use Rattle.meaning.proofs.Truth.{bool_cases}
use Rattle.rules.specs.Text.{is_blank, token, words_from, tokens}

-- Behind a blank there may be one word more than behind a part of a word.
abbrev room : Bool → ℕ
room true = 1
room false = 0

words_few : (fresh : Bool) (s : List ℕ) → 2 * length (words_from fresh s) ≤ length s + room fresh
unfolding words_from
words_few fresh [] = omega arith
words_few true (b ∷ s) =
    bool_cases (is_blank b)
    (λ y. rw (y, words_from) (omega (arith, words_few true s)))
    (λ n. rw (n, words_from) (omega (arith, words_few false s)))
words_few false (b ∷ s) =
    bool_cases (is_blank b)
    (λ y. rw (y, words_from) (omega (arith, words_few true s)))
    (λ n. rw (n, words_from) (omega (arith, words_few false s)))

-- A text of n bytes has at most half of n + 1 tokens.
pub tokens_few : (s : List ℕ) → 2 * length (tokens s) ≤ length s + 1
unfolding tokens
tokens_few s = rw (length-map (words_from true s) token) (words_few true s)
