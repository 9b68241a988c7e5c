-- Digits that are filled in from the back. Assumes nothing.
use Rattle.std.proofs.Common.{ℕ, ◌+◌, ◌-◌, ◌/◌, ◌%◌, ◌≤◌, ◌<◌, ◌≡◌, List, [], ◌∷◌, ◌++◌, length, ltb, take, set, get_or}
use Rattle.std.proofs.Common.{ap, ◌∙◌, append_assoc, ltb-true, ltb-false, add-one, arith, take-suc, length-take-le}
use Rattle.std.proofs.Math.Seq.{set_at}
use Rattle.meaning.proofs.Truth.{bool_cases}
use Rattle.rules.specs.Written.{decimal}
use Rattle.writer.proofs.Digits.{decimal_small, decimal_large, decimal-some, length_small, length_large}

-- A store in front of what was written at the back.
set_in_front : (before behind : List ℕ) (i b : ℕ) → i < length before → set (take (i + 1) before ++ behind) i b ≡ take i before ++ (b ∷ behind)
set_in_front before behind i b h =
    rw (add-one i, take-suc before i 0 h, append_assoc (take i before) (get_or before i 0 ∷ []) behind)
    (set_at (take i before) (get_or before i 0) behind b i (length-take-le i before (omega arith)))

-- The first i digits are still to be written: those of `rest`, unless there is none.
pub record Filling (before : List ℕ) (v : ℕ) (after : List ℕ) (rest i : ℕ) : Type 0 where
  pub digits : List ℕ
  pub within : i ≤ length before
  pub is : after ≡ take i before ++ digits
  pub left : 0 < i → (decimal v ≡ decimal rest ++ digits) × (length (decimal rest) ≡ i)
  pub done : i ≡ 0 → decimal v ≡ digits

module _ {before after : List ℕ} {v rest i : ℕ} (f : Filling before v after rest i) where
  module _ (h : 0 < i) where
    one : i ≡ i - 1 + 1
    one = omega arith

    -- The number of digits tells whether one is left beside the first.
    more : 0 < i - 1 → 10 ≤ rest
    more l = bool_cases (ltb rest 10) (λ y. absurd (omega (arith, (f.left h).1, length_small rest (ltb-true rest 10 y)))) (λ n. ltb-false rest 10 n)

    last : i - 1 ≡ 0 → rest < 10
    last z =
        bool_cases (ltb rest 10)
        (λ y. ltb-true rest 10 y)
        (λ n. let l = ltb-false rest 10 n in absurd (omega (arith, (f.left h).1, length_large rest l, decimal-some (rest / 10))))

    pub filling_on : {d : ℕ} → d ≡ 48 + rest % 10 → Filling before v (set after (i - 1) d) (rest / 10) (i - 1)
    filling_on {d} e = record {
      digits = d ∷ f.digits;
      within = omega (arith, f.within);
      is = ap (λ (l : List ℕ). set l (i - 1) d) (f.is ∙ ap (λ (k : ℕ). take k before ++ f.digits) one)
          ∙ set_in_front before f.digits (i - 1) d (omega (arith, f.within));
      left = λ l. (
        (f.left h).0 ∙ rw (decimal_large rest (more l), e) (append_assoc (decimal (rest / 10)) ((48 + rest % 10) ∷ []) f.digits),
        omega (arith, (f.left h).1, length_large rest (more l)),
      );
      done = λ z. let small = last z in (f.left h).0 ∙ rw (decimal_small rest small) (ap (λ (k : ℕ). k ∷ f.digits) (let q : 48 + rest ≡ d = omega arith in q));
    }
