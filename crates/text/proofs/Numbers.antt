-- Numbers at a place of a text: what a digit, another byte and the end do to them, and that above `most` nothing is told
-- apart. Assumes nothing.
use Rattle.std.proofs.Common.{◌≡◌, ℕ, zero, suc, ◌+◌, ◌-◌, ◌*◌, ◌<◌, ◌≤◌, min, Bool, true, false, eqb, ltb, List, [], ◌∷◌, length, get_or, drop, sym, ap, ◌∙◌, arith, ltb-false, ltb-true, ne_eqb}
use Rattle.std.proofs.Common.{Option as Maybe, Some, None}
use Rattle.std.proofs.Math.Option.{none, some}
use Rattle.std.specs.Bool.{then_some}
use borrow.Author.Tests.{eqb-false}
use Rattle.meaning.proofs.Truth.{bool_cases}
use Rattle.rules.specs.Text.{is_blank, is_digit, digits, positive, word}
use Rattle.rules.proofs.Words.{digit_range, digit_not_blank}
use Rattle.text.specs.Scan.{most, ends_word, sized, Behind, Stops, Numbered, Ran, Digits, Positive}
use Rattle.text.specs.declared.Scanned.{Scanned}
use Rattle.text.proofs.Places.{word_end, word_on, word-stop, ends_empty, ends-not, digit_by}

-- Sized numbers

small_sized : (v : ℕ) → v ≤ most → some v ≡ sized (some v)
small_sized v h = let e : v ≡ min v most = omega arith in ap some e

high_same : (v v' : ℕ) (w : List ℕ) → most ≤ v → most ≤ v' → sized (digits v w) ≡ sized (digits v' w)
unfolding digits
high_same v v' [] h h' = let e : min v most ≡ min v' most = omega arith in ap some e
high_same v v' (b ∷ w) h h' =
    bool_cases (is_digit b)
    (λ y. rw (y, digits) (high_same (v * 10 + (b - 48)) (v' * 10 + (b - 48)) w (omega arith) (omega arith)))
    (λ n. rw (n, digits))

-- Above `most` it makes no difference which number it is.
pub numbered_high : (v v' at : ℕ) (s : List ℕ) (found : Maybe (Scanned ℕ)) → most ≤ v → most ≤ v' → Numbered v at s found → Numbered v' at s found
numbered_high v v' at s found h h' r = record { is_size = r.is_size ∙ high_same v v' (word s) h h'; is_next = r.is_next }

-- At a place

-- The word ends there.
pub numbered_end : (s : List ℕ) (n : Scanned ℕ) → n.token ≤ most → ends_word (drop n.next s) ≡ true → Numbered n.token n.next (drop n.next s) (Some n)
unfolding digits
numbered_end s n h e = record { is_size = rw (ends_empty s n.next e) (small_sized n.token h); is_next = omega (arith, ap length (ends_empty s n.next e)) }

module _ (s : List ℕ) (i v : ℕ) where
  -- A byte stands there that is no digit and ends no word.
  pub numbered_bad : Stops s i → ends_word (drop i s) ≡ false → Numbered v i (drop i s) None
  unfolding digits
  numbered_bad d e =
      let g = ends-not s i e in
      record { is_size = rw (word_on s i g.0 g.1, d.stops g.0, digits); is_next = tt }

  -- A digit stands there.
  pub numbered_on : (found : Maybe (Scanned ℕ)) → i < length s → is_digit (get_or s i 0) ≡ true → Numbered (v * 10 + (get_or s i 0 - 48)) (i + 1) (drop (i + 1) s) found → Numbered v i (drop i s) found
  unfolding digits
  numbered_on found h d r =
      let w = word_on s i h (digit_not_blank (get_or s i 0) d) in
      let place : i + 1 + length (word (drop (i + 1) s)) ≡ i + length (word (drop i s)) = omega (arith, ap length w) in
      record { is_size = rw (w, d, digits) r.is_size; is_next = rw place at r.is_next }

-- As the code has it: the number, if the word ends.
pub numbered_then : (s : List ℕ) (n : Scanned ℕ) (ends : Bool) (found : Maybe (Scanned ℕ)) →
    n.token ≤ most → Stops s n.next → ends ≡ ends_word (drop n.next s) → found ≡ then_some ends n → Numbered n.token n.next (drop n.next s) found
numbered_then s n true found h d e f = rw f (numbered_end s n h (sym e))
numbered_then s n false found h d e f = rw f (numbered_bad s n.next n.token d (sym e))

-- A run of digits

pub digits-start : (s : List ℕ) (first from : ℕ) → first ≤ most → Digits s first from first from
digits-start s first from h = record { small = h; back = λ f r. r }

module _ (s : List ℕ) (first from v i : ℕ) (d : Digits s first from v i) where
  -- The run ends where no digit stands.
  pub ran_end : Stops s i → Ran s first from v i
  ran_end t = record { back = d.back; stops = λ h. t }

  module _ (h : i < length s) (lo : 48 ≤ get_or s i 0) (hi : get_or s i 0 ≤ 57) where
    pub digits_on : v * 10 + (get_or s i 0 - 48) ≤ most → Digits s first from (v * 10 + (get_or s i 0 - 48)) (i + 1)
    digits_on small = record { small = small; back = λ f r. d.back f (numbered_on s i v f h (digit_by (get_or s i 0) lo hi) r) }

    -- The number is above `most` now.
    pub ran_long : most < v * 10 + (get_or s i 0 - 48) → Ran s first from (v * 10 + (get_or s i 0 - 48)) (i + 1)
    ran_long big =
        record {
          back = λ f r. d.back f (numbered_on s i v f h (digit_by (get_or s i 0) lo hi) r);
          stops = λ small. absurd (omega arith);
        }

pub stops_at : (s : List ℕ) (i : ℕ) → is_digit (get_or s i 0) ≡ false → Stops s i
stops_at s i n = record { stops = λ k. n }

-- Digits that a number above `most` goes on with.
high_digits : (s : List ℕ) (k from : ℕ) → ((i : ℕ) → from ≤ i → i < from + k → (i < length s) × (is_digit (get_or s i 0) ≡ true)) →
    (found : Maybe (Scanned ℕ)) → Numbered most (from + k) (drop (from + k) s) found → Numbered most from (drop from s) found
high_digits s zero from on found r = let p : from + 0 ≡ from = omega arith in rw p at r
high_digits s (suc k) from on found r =
    let p : from + suc k ≡ from + 1 + k = omega arith in
    let here = on from (omega arith) (omega arith) in
    let rest = high_digits s k (from + 1) (λ i l h. on i (omega arith) (omega arith)) found (rw p at r) in
    numbered_on s from most found here.0 here.1 (numbered_high most (most * 10 + (get_or s from 0 - 48)) (from + 1) (drop (from + 1) s) found (omega arith) (omega arith) rest)

pub behind_digits : {tests : ℕ → Bool → Type 0} (s : List ℕ) (from to : ℕ) → Behind tests s from to → ((x : ℕ) (r : Bool) → tests x r → r ≡ is_digit x) → Ran s most from most to
behind_digits s from to b is =
    let same : from + (to - from) ≡ to = omega (arith, b.onward) in
    record {
      back = λ f r. high_digits s (to - from) from (λ i l h. (omega (arith, b.within), sym (is _ _ (b.passed i l (omega arith))))) f (rw same r);
      stops = λ h. record { stops = λ k. sym (is _ _ (b.stops k)) };
    }

-- Behind a run above `most`, what was found from `most` on.
pub ran_high : (s : List ℕ) (first from v i : ℕ) (found : Maybe (Scanned ℕ)) → Ran s first from v i → most < v → Numbered most i (drop i s) found → Numbered first from (drop from s) found
ran_high s first from v i found r big q = r.back found (numbered_high most v i (drop i s) found (omega arith) (omega arith) q)

-- A positive number

module _ (s : List ℕ) (at : ℕ) where
  pub positive_past : length s ≤ at → Positive at (drop at s) None
  unfolding positive
  positive_past l = record { is_size = rw (word_end s at l); is_next = tt }

  -- The first byte is no digit from 1 to 9.
  pub positive_bad : at < length s → (48 < get_or s at 0 → 57 < get_or s at 0) → Positive at (drop at s) None
  unfolding positive digits
  positive_bad h b = record { is_size = bool_cases (is_blank (get_or s at 0)) blank other; is_next = tt }
    where
      blank : is_blank (get_or s at 0) ≡ true → none ≡ sized (positive (word (drop at s)))
      blank y = rw (word-stop s at h y)

      other : is_blank (get_or s at 0) ≡ false → none ≡ sized (positive (word (drop at s)))
      other m =
          bool_cases (eqb (get_or s at 0) 48)
          (λ z. rw (word_on s at h m, z, positive))
          (λ z. bool_cases (is_digit (get_or s at 0))
          (λ d. let r = digit_range (get_or s at 0) d in
          absurd (bool_cases (ltb 48 (get_or s at 0))
          (λ t. let big = b (ltb-true 48 (get_or s at 0) t) in omega arith)
          (λ f. eqb-false (get_or s at 0) 48 z (omega (arith, ltb-false 48 (get_or s at 0) f)))))
          (λ d. rw (word_on s at h m, z, positive, d, digits)))

  -- It is one, and the digits behind it say the rest.
  pub positive_on : (found : Maybe (Scanned ℕ)) → at < length s → 49 ≤ get_or s at 0 → get_or s at 0 ≤ 57 → Numbered (get_or s at 0 - 48) (at + 1) (drop (at + 1) s) found → Positive at (drop at s) found
  unfolding positive digits
  positive_on found h lo hi r =
      let d = digit_by (get_or s at 0) (omega arith) hi in
      let w = word_on s at h (digit_not_blank (get_or s at 0) d) in
      let z : 0 * 10 + (get_or s at 0 - 48) ≡ get_or s at 0 - 48 = omega arith in
      let place : at + 1 + length (word (drop (at + 1) s)) ≡ at + length (word (drop at s)) = omega (arith, ap length w) in
      record {
        is_size = rw (w, ne_eqb (get_or s at 0) 48 (λ q. omega arith), positive, d, digits, z) r.is_size;
        is_next = rw place at r.is_next;
      }
