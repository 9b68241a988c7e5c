-- For callers of `token_at`: what it found is the next token of the text from there on, and its number passes the same tests.
-- Assumes nothing.
use Rattle.std.proofs.Common.{◌≡◌, ℕ, ◌+◌, ◌<◌, ◌≤◌, min, true, false, leb, List, [], ◌∷◌, length, drop, refl, ap, ◌∙◌, arith, length-drop, drop-drop, le-leb, leb-false, leb-true}
use borrow.Author.Tests.{lt-leb}
use Rattle.meaning.proofs.Truth.{bool_cases}
use Rattle.rules.specs.Text.{is_blank, Token, Proper, nought, plus, minus, letter_d, other, token, word, words_from, tokens}
use Rattle.rules.proofs.Words.{tokens_blank, token_proper}
use Rattle.text.specs.Scan.{most, blanks, capped, token_of, Scans}
use Rattle.text.specs.declared.Token.{Token as Found}
use Rattle.text.specs.declared.Token.TheVariants.{Nothing}

-- Limits: a number that stays at `most` passes and fails the same tests.

pub capped_test : (m n : ℕ) → m < most → leb (min n most) m ≡ leb n m
capped_test m n h =
    bool_cases (leb n m)
    (λ y. let q = leb-true n m y in rw y (le-leb (min n most) m (omega arith)))
    (λ f. let q = leb-false n m f in rw f (lt-leb (min n most) m (omega arith)))

-- And one that passes is itself.
pub capped_same : (m n : ℕ) → m < most → min n most ≤ m → min n most ≡ n
capped_same m n h l = omega arith

-- The tokens of a text, from its start on.

tokens_skip : (t : List ℕ) → tokens t ≡ tokens (drop (blanks t) t)
unfolding blanks
tokens_skip [] = refl
tokens_skip (b ∷ t) =
    bool_cases (is_blank b)
    (λ y. rw (y, blanks) (tokens_blank b t y ∙ tokens_skip t))
    (λ n. rw (n, blanks))

words_rest : (t : List ℕ) → words_from false t ≡ words_from true (drop (length (word t)) t)
unfolding words_from word
words_rest [] = refl
words_rest (b ∷ t) =
    bool_cases (is_blank b)
    (λ y. rw (y, word, words_from, y))
    (λ n. rw (n, word, words_from) (words_rest t))

first-token : (b : ℕ) (t : List ℕ) → is_blank b ≡ false → tokens (b ∷ t) ≡ token (word (b ∷ t)) ∷ tokens (drop (length (word (b ∷ t))) (b ∷ t))
unfolding tokens words_from word
first-token b t n = rw (n, words_from, word, words_rest t)

-- Behind its blanks a text has ended, or a word begins.

pub record Begun (t : List ℕ) : Type 0 where
  pub first : ℕ
  pub others : List ℕ
  pub is : t ≡ first ∷ others
  pub no_blank : is_blank first ≡ false

behind : (t : List ℕ) → (word (drop (blanks t) t) ≡ [] → drop (blanks t) t ≡ []) × ((b : ℕ) (w : List ℕ) → word (drop (blanks t) t) ≡ b ∷ w → Begun (drop (blanks t) t))
unfolding blanks word
behind [] = ((λ e. refl), (λ b w e. absurd (let z : ◌≡◌ {A = ℕ} 0 1 = cc in omega arith)))
behind (x ∷ t) =
    bool_cases (is_blank x)
    (λ y. rw (y, blanks) (behind t))
    (λ n. rw (n, blanks) (
      (λ e. absurd (let q : x ∷ word t ≡ [] = (rw (n, word) at e) in let z : ◌≡◌ {A = ℕ} 0 1 = cc in omega arith)),
      (λ b w e. record { first = x; others = t; is = refl; no_blank = n }),
    ))

-- What `token_at` found.

-- Nothing: no token is left.
pub scanned_nothing : (at : ℕ) (t : List ℕ) (n : ℕ) → Scans at t Nothing n → tokens t ≡ []
unfolding tokens words_from token_of
scanned_nothing at t n r = go (word (drop (blanks t) t)) refl r.is_token
  where
    none_of : (x : Token) → Nothing ≡ capped x → ⊥
    none_of nought e = let z : ◌≡◌ {A = ℕ} 0 1 = cc in omega arith
    none_of (plus k) e = let z : ◌≡◌ {A = ℕ} 0 1 = cc in omega arith
    none_of (minus k) e = let z : ◌≡◌ {A = ℕ} 0 1 = cc in omega arith
    none_of letter_d e = let z : ◌≡◌ {A = ℕ} 0 1 = cc in omega arith
    none_of other e = let z : ◌≡◌ {A = ℕ} 0 1 = cc in omega arith

    go : (w : List ℕ) → word (drop (blanks t) t) ≡ w → Nothing ≡ token_of (word (drop (blanks t) t)) → tokens t ≡ []
    go [] q e = tokens_skip t ∙ ap tokens ((behind t).0 q)
    go (b ∷ w) q e = absurd (none_of (token (b ∷ w)) (rw q at e))

-- A token: it is the first that is left, the others are those behind the place given, and at least a byte was passed.
pub record Next (s : List ℕ) (at : ℕ) (found : Found) (n : ℕ) : Type 0 where
  pub tok : Token
  pub is : tokens (drop at s) ≡ tok ∷ tokens (drop n s)
  pub cap : found ≡ capped tok
  pub proper : Proper tok
  pub later : at < n
  pub within : n ≤ length s

pub word_short : (t : List ℕ) → length (word t) ≤ length t
unfolding word
word_short [] = omega arith
word_short (b ∷ t) = bool_cases (is_blank b) (λ y. rw (y, word) (omega arith)) (λ n. rw (n, word) (omega (arith, word_short t)))

pub blanks_short : (t : List ℕ) → blanks t ≤ length t
unfolding blanks
blanks_short [] = omega arith
blanks_short (b ∷ t) = bool_cases (is_blank b) (λ y. rw (y, blanks) (omega (arith, blanks_short t))) (λ n. rw (n, blanks) (omega arith))

-- The first word of a text that begins with one.
first_of : (t : List ℕ) → Begun t → (1 ≤ length (word t)) × (tokens t ≡ token (word t) ∷ tokens (drop (length (word t)) t)) × (token_of (word t) ≡ capped (token (word t)))
unfolding word token_of
first_of t b =
    let w : word (b.first ∷ b.others) ≡ b.first ∷ word b.others = rw (b.no_blank, word) in
    rw b.is (omega (arith, ap length w), first-token b.first b.others b.no_blank, rw w)

pub scanned_token : (s : List ℕ) (at : ℕ) (found : Found) (n : ℕ) → Scans at (drop at s) found n → (found ≡ Nothing → ⊥) → Next s at found n
unfolding token_of
scanned_token s at found n r some-found = go (word (drop k t)) refl
  where
    t : List ℕ
    t = drop at s

    k : ℕ
    k = blanks t

    rest : List ℕ
    rest = drop k t

    behind_it : drop (length (word rest)) rest ≡ drop n s
    behind_it =
        let place : at + k + length (word rest) ≡ n = omega (arith, r.is_next) in
        ap (drop (length (word rest))) (drop-drop k at s) ∙ drop-drop (length (word rest)) (at + k) s ∙ ap (λ (m : ℕ). drop m s) place

    go : (w : List ℕ) → word (drop k t) ≡ w → Next s at found n
    go [] q = absurd (some-found (r.is_token ∙ rw q))
    go (b ∷ w) q =
        let begun = (behind t).1 b w q in
        let f = first_of rest begun in
        record {
          tok = token (word rest);
          is = tokens_skip t ∙ f.1 ∙ ap (λ (l : List ℕ). token (word rest) ∷ tokens l) behind_it;
          cap = r.is_token ∙ f.2;
          proper = token_proper (word rest);
          later = omega (arith, r.is_next, f.0);
          within = omega (arith, r.is_next, f.0, word_short rest, length-drop k t, length-drop at s, blanks_short t);
        }
