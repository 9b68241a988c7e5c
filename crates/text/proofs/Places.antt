-- What stands at a place of a text: blanks, words and digits at `drop i s`, by the byte that is there. Assumes nothing.
use Rattle.std.proofs.Common.{◌≡◌, ℕ, zero, suc, ◌+◌, ◌-◌, ◌<◌, ◌≤◌, Bool, true, false, not, ltb, List, [], ◌∷◌, length, get_or, drop}
use Rattle.std.proofs.Common.{sym, refl, ap, ◌∙◌, add-one, arith, length-drop, drop_of_length-le, get_or-drop, drop-cons, ltb-false, ltb-true, le-leb}
use Rattle.std.proofs.Common.{Option as Maybe, Some, None, MatchOption, IsTrue, Bor}
use Rattle.std.specs.Slice.{IsItemAt}
use Rattle.meaning.proofs.Truth.{bool_cases, both_and, clash}
use Rattle.rules.specs.Text.{is_blank, is_digit, word}
use Rattle.text.specs.Scan.{blanks, ends_word, Behind}

-- Bytes

pub blank_space : (b : ℕ) → b ≡ 32 → true ≡ is_blank b
unfolding is_blank
blank_space b e = rw e

pub digit_by : (b : ℕ) → 48 ≤ b → b ≤ 57 → is_digit b ≡ true
unfolding is_digit
digit_by b lo hi = both_and _ _ (le-leb 48 b lo) (le-leb b 57 hi)

abbrev pub word_length : List ℕ → ℕ
word_length s = length (word s)

not_true : (b : Bool) → true ≡ not b → b ≡ false
not_true true e = absurd (clash refl e)
not_true false e = refl

not_false : (b : Bool) → false ≡ not b → b ≡ true
not_false true e = refl
not_false false e = absurd (clash e refl)

module _ (s : List ℕ) (i : ℕ) where
  -- Past the end

  pub blanks_end : length s ≤ i → blanks (drop i s) ≡ 0
  unfolding blanks
  blanks_end h = rw drop_of_length-le

  pub word_end : length s ≤ i → word (drop i s) ≡ []
  unfolding word
  word_end h = rw drop_of_length-le

  pub ends_end : length s ≤ i → ends_word (drop i s) ≡ true
  unfolding ends_word
  ends_end h = rw drop_of_length-le

  module _ (h : i < length s) where
    -- At a byte

    pub blanks-stop : is_blank (get_or s i 0) ≡ false → blanks (drop i s) ≡ 0
    unfolding blanks
    blanks-stop e = rw (drop-cons s i 0 h, e, blanks)

    pub blanks_on : is_blank (get_or s i 0) ≡ true → blanks (drop i s) ≡ suc (blanks (drop (i + 1) s))
    unfolding blanks
    blanks_on e = rw (add-one i, drop-cons s i 0 h, e, blanks)

    pub word-stop : is_blank (get_or s i 0) ≡ true → word (drop i s) ≡ []
    unfolding word
    word-stop e = rw (drop-cons s i 0 h, e, word)

    pub word_on : is_blank (get_or s i 0) ≡ false → word (drop i s) ≡ get_or s i 0 ∷ word (drop (i + 1) s)
    unfolding word
    word_on e = rw (add-one i, drop-cons s i 0 h, e, word)

    pub ends_at : ends_word (drop i s) ≡ is_blank (get_or s i 0)
    unfolding ends_word
    ends_at = rw (drop-cons s i 0 h)

  -- As the code has it, by what may stand there.
  pub ends_by : {tells : Bor ℕ → Type 0} (o : Maybe (Bor ℕ)) (r : Bool) → IsItemAt s i o → MatchOption o (IsTrue r) tells → ((x : Bor ℕ) → tells x → r ≡ is_blank x.now) → r ≡ ends_word (drop i s)
  ends_by None r at h by = h ∙ sym (ends_end at.3)
  ends_by (Some x) r at h by = by x h ∙ ap is_blank (at.3.1 0) ∙ sym (ends_at at.3.0)

  -- A word that ends at once is empty.
  pub ends_empty : ends_word (drop i s) ≡ true → word (drop i s) ≡ []
  unfolding ends_word word
  ends_empty e = go (drop i s) e
    where
      go : (t : List ℕ) → ends_word t ≡ true → word t ≡ []
      go [] q = refl
      go (b ∷ t) q = rw (q, word)

  -- One that does not goes on with a byte.
  pub ends-not : ends_word (drop i s) ≡ false → (i < length s) × (is_blank (get_or s i 0) ≡ false)
  ends-not e =
      bool_cases (ltb i (length s))
      (λ y. let h = ltb-true i (length s) y in (h, sym (ends_at h) ∙ e))
      (λ n. absurd (clash (ends_end (ltb-false i (length s) n)) e))

-- What counts each byte that a scan passes, and none where it stops, counts what was passed.
counted : (count : List ℕ → ℕ) (s : List ℕ) (k from : ℕ) → ((i : ℕ) → from ≤ i → i < from + k → count (drop i s) ≡ suc (count (drop (i + 1) s))) → count (drop (from + k) s) ≡ 0 → count (drop from s) ≡ k
counted count s zero from on stop = let p : from + 0 ≡ from = omega arith in rw p at stop
counted count s (suc k) from on stop =
    let p : from + suc k ≡ from + 1 + k = omega arith in
    on from (omega arith) (omega arith) ∙ ap suc (counted count s k (from + 1) (λ i l h. on i (omega arith) (omega arith)) (rw p at stop))

module _ {tests : ℕ → Bool → Type 0} (s : List ℕ) (from to : ℕ) (b : Behind tests s from to) where
  passed_byte : (i : ℕ) → from ≤ i → i < to → (i < length s) × tests (get_or s i 0) true
  passed_byte i l h = (omega (arith, b.within), b.passed i l h)

  behind_counted : (count : List ℕ → ℕ) → ((i : ℕ) → i < length s → tests (get_or s i 0) true → count (drop i s) ≡ suc (count (drop (i + 1) s))) →
      (to < length s → tests (get_or s to 0) false → count (drop to s) ≡ 0) → (length s ≤ to → count (drop to s) ≡ 0) → to ≡ from + count (drop from s)
  behind_counted count on stop end =
      let same : from + (to - from) ≡ to = omega (arith, b.onward) in
      let none : count (drop to s) ≡ 0 = bool_cases (ltb to (length s)) (λ y. let h = ltb-true to (length s) y in stop h (b.stops h)) (λ n. end (ltb-false to (length s) n)) in
      let all = counted count s (to - from) from (λ i l h. let p = passed_byte i l (omega arith) in on i p.0 p.1) (rw same none) in
      omega (arith, b.onward, all)

  pub behind_blanks : ((x : ℕ) (r : Bool) → tests x r → r ≡ is_blank x) → to ≡ from + blanks (drop from s)
  behind_blanks is = behind_counted blanks (λ i h t. blanks_on s i h (sym (is _ _ t))) (λ h t. blanks-stop s to h (sym (is _ _ t))) (λ h. blanks_end s to h)

  pub behind_word : ((x : ℕ) (r : Bool) → tests x r → r ≡ not (is_blank x)) → to ≡ from + length (word (drop from s))
  behind_word is =
      behind_counted word_length (λ i h t. ap length (word_on s i h (not_true _ (is _ _ t)))) (λ h t. ap length (word-stop s to h (not_false _ (is _ _ t)))) (λ h. ap length (word_end s to h))

-- Behind the blanks that a text begins with there is none.

behind-blanks : (t : List ℕ) → blanks t < length t → is_blank (get_or t (blanks t) 0) ≡ false
unfolding blanks
behind-blanks [] h = absurd (omega arith)
behind-blanks (b ∷ t) h =
    bool_cases (is_blank b)
    (λ y. let shorter : suc (blanks t) < suc (length t) = (rw (y, blanks) at h) in rw (y, blanks) (behind-blanks t (omega arith)))
    (λ n. rw (n, blanks) n)

pub skipped : (s : List ℕ) (at p : ℕ) → p ≡ at + blanks (drop at s) → p < length s → is_blank (get_or s p 0) ≡ false
skipped s at p e h =
    let n = behind-blanks (drop at s) (omega (arith, length-drop at s)) in
    let q : get_or (drop at s) (blanks (drop at s)) 0 ≡ get_or s p 0 = get_or-drop at s (blanks (drop at s)) 0 ∙ ap (λ (k : ℕ). get_or s k 0) (sym e) in
    rw q at n
