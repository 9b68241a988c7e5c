-- Short numbers at a place of a text: a few digits, a space behind them, a sign or none before them, and one space before that.
-- Assumes nothing.
use Rattle.std.proofs.Common.{◌≡◌, ℕ, zero, suc, ◌+◌, ◌-◌, ◌*◌, ◌/◌, ◌%◌, ◌^◌, ◌<◌, ◌≤◌, false, ltb, List, length, get_or, drop}
use Rattle.std.proofs.Common.{eqb, eqb-true, Some, sym, refl, ap, ◌∙◌, subst, inl, inr, arith, ltb-false, ltb-true}
use Rattle.std.specs.Int.{from_bool}
use Rattle.meaning.proofs.Truth.{bool_cases}
use Rattle.rules.specs.Text.{is_blank}
use Rattle.rules.proofs.Words.{digit_not_blank}
use Rattle.text.specs.Scan.{most, blanks, Numbered, Digits, Scans, Positive, Plain, Sign, bytes_at, Bytes, MovedUp, EachUpTo, EachAtMost, said, Short}
use Rattle.text.specs.declared.Scanned.{Scanned}
use Rattle.text.specs.declared.Token.TheVariants.{Plus, Minus}
use Rattle.text.proofs.Places.{blank_space, digit_by, blanks_on, blanks-stop, ends_at}
use Rattle.text.proofs.Bytes.{repeated, first_byte, bytes_of_bits, each_moved, said_moved, said_least, said-most}
use Rattle.text.proofs.Numbers.{numbered_end, digits-start, digits_on, positive_on}
use Rattle.text.proofs.Wordings.{sign_minus, plain-plus, scans_place}

-- Digits

-- One digit more, by what it is worth.
digit_more : (s : List ℕ) (first from v i d : ℕ) → Digits s first from v i → i < length s → get_or s i 0 ≡ d + 48 → d ≤ 9 → v * 10 + d ≤ most → Digits s first from (v * 10 + d) (i + 1)
digit_more s first from v i d r h b l m =
    let w : get_or s i 0 - 48 ≡ d = omega arith in
    rw w at (digits_on s first from v i r h (omega arith) (omega arith) (omega arith))

-- Eight bytes less eight digits 0

-- The k bytes from the place i on are those of e, each above the digit 0, as far as these are digits.
pub record Above (s : List ℕ) (i k e : ℕ) : Type 0 where
  pub is : (e + repeated 48 k) % 256 ^ k ≡ bytes_at s i k
  pub bytes : (j : ℕ) → i ≤ j → j < i + k → get_or s j 0 < 256

-- The first of the bytes, and the rest.
module _ (s : List ℕ) (i k e : ℕ) (a : Above s i (suc k) e) (small : e % 256 ≤ 9) where
  parts : (get_or s i 0 ≡ e % 256 + 48) × (bytes_at s (i + 1) k ≡ (e / 256 + repeated 48 k) % 256 ^ k)
  unfolding bytes_at
  parts = first_byte k e 48 (repeated 48 k) (get_or s i 0) (bytes_at s (i + 1) k) small (omega arith) (a.bytes i (omega arith) (omega arith)) a.is

  above_byte : get_or s i 0 ≡ e % 256 + 48
  above_byte = parts.0

  above_rest : Above s (i + 1) k (e / 256)
  above_rest = record { is = sym parts.1; bytes = λ j l h. a.bytes j (omega arith) (omega arith) }

-- Digits behind a run, by what the bytes are above the digit 0.
said-digits : (s : List ℕ) (first from n k v i e : ℕ) → Digits s first from v i → Above s i k e → n ≤ k → EachUpTo 9 n e → said n v e ≤ most → i + n ≤ length s → Digits s first from (said n v e) (i + n)
unfolding said
said-digits s first from zero k v i e d a l g m h = let p : i + 0 ≡ i = omega arith in rw p d
said-digits s first from (suc n) zero v i e d a l g m h = absurd (omega arith)
said-digits s first from (suc n) (suc k) v i e d a l g m h =
    let p : i + 1 + n ≡ i + suc n = omega arith in
    let one : v * 10 + e % 256 ≤ most = omega (arith, m, said_least n (v * 10 + e % 256) (e / 256)) in
    rw p at (said-digits s first from n k (v * 10 + e % 256) (i + 1) (e / 256) (digit_more s first from v i (e % 256) d (omega arith) (above_byte s i k e a g.0) g.0 one)
    (above_rest s i k e a g.0) (omega arith) g.1 m (omega arith))

-- A 0 in front says nothing.
said_nought : (n p x : ℕ) → n ≡ suc p → x % 256 ≡ 0 → said n 0 x ≡ said p 0 (x / 256)
unfolding said
said_nought n p x e z = ap (λ (k : ℕ). said k 0 x) e ∙ ap (λ (v : ℕ). said p (0 * 10 + v) (x / 256)) z

-- The number behind a place

-- A number of this size stands behind the place `at`, and takes so many bytes together with the one at `at`.
pub record UnsignedNumber (s : List ℕ) (at size bytes : ℕ) : Type 0 where
  pub positive : 1 ≤ size
  pub plain : Plain (get_or s (at + 1) 0)
  pub number : Positive (at + 1) (drop (at + 1) s) (Some (record { token = size; next = at + bytes }))

-- A digit other than 0 is first, and a space is behind the last.
unsigned_said : (s : List ℕ) (at n k e : ℕ) → Above s (at + 1) k e → 1 ≤ n → n ≤ k → EachUpTo 9 n e → said n 0 e ≤ most → at + 1 + n < length s → 49 ≤ get_or s (at + 1) 0 → get_or s (at + 1) 0 ≤ 57 → get_or
    s (at + 1 + n) 0 ≡ 32 → UnsignedNumber s at (said n 0 e) (n + 1)
unfolding said
unsigned_said s at zero k e a o l g m h lo hi space = absurd (omega arith)
unsigned_said s at (suc n) zero e a o l g m h lo hi space = absurd (omega arith)
unsigned_said s at (suc n) (suc k) e a o l g m h lo hi space =
    let b = above_byte s (at + 1) k e a g.0 in
    let w : e % 256 ≡ get_or s (at + 1) 0 - 48 = omega (arith, b) in
    let z : 0 * 10 + e % 256 ≡ e % 256 = omega arith in
    let f : said n (e % 256) (e / 256) ≤ most = (rw z at m) in
    let last : at + 1 + 1 + n ≡ at + (suc n + 1) = omega arith in
    let end : at + 1 + suc n ≡ at + (suc n + 1) = omega arith in
    let there : get_or s (at + (suc n + 1)) 0 ≡ 32 = (rw end at space) in
    let d : Digits s (e % 256) (at + 1 + 1) (said n (e % 256) (e / 256)) (at + (suc n + 1)) =
    (rw last at (said-digits s (e % 256) (at + 1 + 1) n k (e % 256) (at + 1 + 1) (e / 256) (digits-start s (e % 256) (at + 1 + 1) (omega (arith, g.0))) (above_rest s (at + 1) k e a g.0) (omega arith) g.1 f (omega arith))) in
    let ends = ends_at s (at + (suc n + 1)) (omega arith) ∙ sym (blank_space (get_or s (at + (suc n + 1)) 0) there) in
    let found : Scanned ℕ = record { token = said n (e % 256) (e / 256); next = at + (suc n + 1) } in
    let behind : Numbered (e % 256) (at + 1 + 1) (drop (at + 1 + 1) s) (Some found) = d.back _ (numbered_end s found d.small ends) in
    rw z record {
      positive = omega (arith, b, said_least n (e % 256) (e / 256));
      plain = record {
        no_blank = digit_not_blank (get_or s (at + 1) 0) (digit_by (get_or s (at + 1) 0) (omega arith) hi);
        no_nought = λ q. omega arith;
        no_letter = λ q. omega arith;
        no_sign = λ q. omega arith;
      };
      number = positive_on s (at + 1) (Some found) (omega arith) lo hi (subst (λ (x : ℕ). Numbered x (at + 1 + 1) (drop (at + 1 + 1) s) (Some found)) w behind);
    }

-- A sign, as the code counts it.
pub sign_by : (b r : ℕ) → r ≡ from_bool (eqb b 45) → Sign b r
sign_by b r e =
    bool_cases (eqb b 45)
    (λ y. let one : r ≡ 1 = (rw y at e) in record { few = omega arith; is = λ l. eqb-true b 45 y })
    (λ n. let none : r ≡ 0 = (rw n at e) in record { few = omega arith; is = λ l. absurd (omega arith) })

-- The number and what is before it

module _ (s : List ℕ) (at : ℕ) where
  module _ (h : at + 1 < length s) (space : get_or s at 0 ≡ 32) where
    one_blank : is_blank (get_or s (at + 1) 0) ≡ false → at + 1 ≡ at + blanks (drop at s)
    one_blank n = omega (arith, blanks_on s at (omega arith) (sym (blank_space (get_or s at 0) space)), blanks-stop s (at + 1) h n)

    scans_plus : (size bytes : ℕ) → UnsignedNumber s at size bytes → Scans at (drop at s) (Plus size) (at + bytes)
    scans_plus size bytes u =
        let g = plain-plus s (at + 1) h (record { token = size; next = at + bytes }) u.plain u.number in
        scans_place s at (at + 1) (Plus size) (at + bytes) (one_blank u.plain.no_blank) g.is_token g.is_next

    scans_minus : (size bytes : ℕ) → get_or s (at + 1) 0 ≡ 45 → UnsignedNumber s (at + 1) size bytes → Scans at (drop at s) (Minus size) (at + 1 + bytes)
    unfolding is_blank
    scans_minus size bytes e u =
        let g = sign_minus s (at + 1) h (record { token = size; next = at + 1 + bytes }) e u.number in
        scans_place s at (at + 1) (Minus size) (at + 1 + bytes) (one_blank (rw e)) g.is_token g.is_next

    module _ (w n sign d : ℕ) (long : at + 16 ≤ length s) (e : Bytes s (at + 1) 8 w) (some : 1 ≤ n) (few : n ≤ 7) (behind : get_or s (at + 1 + n) 0 ≡ 32) (g : Sign (get_or s (at + 1) 0) sign)
        (lo : 49 ≤ get_or s (at + 1 + sign) 0) (hi : get_or s (at + 1 + sign) 0 ≤ 57) (m : MovedUp w sign n d) (each : EachAtMost 9 8 d) where
      is_moved : d ≡ m.difference * 256 ^ (8 - n) % 256 ^ (8 - n + n)
      is_moved =
          let bits : 64 - 8 * n ≡ 8 * (8 - n) = omega arith in
          let all : 8 - n + n ≡ 8 = omega arith in
          m.moved ∙ (rw (bits, bytes_of_bits (8 - n), all) refl)

      -- Each of the n bytes is the worth of a digit, and together they say the number.
      worths : EachUpTo 9 n m.difference
      worths = let all : 8 ≡ 8 - n + n = omega arith in each_moved 9 n (8 - n) m.difference (subst (λ (x : ℕ). EachUpTo 9 (8 - n + n) x) is_moved (subst (λ (k : ℕ). EachUpTo 9 k d) all each.each))

      number : said 8 0 d ≡ said n 0 m.difference
      number = let all : 8 ≡ 8 - n + n = omega arith in ap (λ (k : ℕ). said k 0 d) all ∙ ap (λ (x : ℕ). said (8 - n + n) 0 x) is_moved ∙ said_moved n (8 - n) m.difference

      -- A number behind the space.
      plus-some : sign ≡ 0 → Short at (drop at s) (said 8 0 d * 32 + 16 * sign + (n + 1))
      plus-some none =
          let p : at + 1 + sign ≡ at + 1 = omega arith in
          let above : Above s (at + 1) 8 m.difference = record { is = (rw none at m.is) ∙ e.is; bytes = λ j l r. e.bytes j l r } in
          let u : UnsignedNumber s at (said 8 0 d) (n + 1) =
          (rw number (unsigned_said s at n 8 m.difference above some (omega arith) worths (rw (← number) (omega (arith, said-most d each))) (omega arith) (rw p at lo) (rw p at hi) behind)) in
          let size : (said 8 0 d * 32 + 16 * sign + (n + 1)) / 16 ≡ 2 * said 8 0 d = omega arith in
          let bytes : (said 8 0 d * 32 + 16 * sign + (n + 1)) % 16 ≡ n + 1 = omega (arith, size) in
          record { is = λ k. record { size = said 8 0 d; positive = u.positive; case = inl (size, rw bytes (scans_plus (said 8 0 d) (n + 1) u)) } }

      -- A sign, which is taken for a 0, and a number behind it.
      minus_some : sign ≡ 1 → Short at (drop at s) (said 8 0 d * 32 + 16 * sign + (n + 1))
      unfolding bytes_at
      minus_some one =
          let low : 49 ≤ get_or s (at + 1 + 1) 0 = (rw one at lo) in
          let high : get_or s (at + 1 + 1) 0 ≤ 57 = (rw one at hi) in
          let minus : get_or s (at + 1) 0 ≡ 45 = g.is (omega arith) in
          let two : 2 ≤ n = bool_cases (ltb 1 n) (λ y. ltb-true 1 n y) (λ q. let k : n ≡ 1 = omega (arith, ltb-false 1 n q) in let there : get_or s (at + 1 + 1) 0 ≡ 32 = (rw k at behind) in absurd (omega arith)) in
          let p : n ≡ suc (n - 1) = omega arith in
          let peeled = subst (λ (k : ℕ). EachUpTo 9 k m.difference) p worths in
          let parts = first_byte 7 m.difference 45 (repeated 48 7) (get_or s (at + 1) 0) (bytes_at s (at + 1 + 1) 7) peeled.0 (omega arith) (omega arith) ((rw one at m.is) ∙ e.is) in
          let above : Above s (at + 1 + 1) 7 (m.difference / 256) = record { is = sym parts.1; bytes = λ j l r. e.bytes j (omega arith) (omega arith) } in
          let value : said 8 0 d ≡ said (n - 1) 0 (m.difference / 256) = number ∙ said_nought n (n - 1) m.difference p (omega (arith, parts.0)) in
          let space : get_or s (at + 1 + 1 + (n - 1)) 0 ≡ 32 = (let q : at + 1 + 1 + (n - 1) ≡ at + 1 + n = omega arith in rw q behind) in
          let u : UnsignedNumber s (at + 1) (said 8 0 d) n =
          (let q : n - 1 + 1 ≡ n = omega arith in
          rw value (rw q at (unsigned_said s (at + 1) (n - 1) 7 (m.difference / 256) above (omega arith) (omega arith) peeled.1 (rw (← value) (omega (arith, said-most d each))) (omega arith) (omega arith) (omega arith) space))) in
          let code : (said 8 0 d * 32 + 16 * sign + (n + 1)) / 16 ≡ 2 * said 8 0 d + 1 = omega arith in
          let bytes : at + (said 8 0 d * 32 + 16 * sign + (n + 1)) % 16 ≡ at + 1 + n = omega (arith, code) in
          record { is = λ k. record { size = said 8 0 d; positive = u.positive; case = inr (code, rw bytes (scans_minus (said 8 0 d) n minus u)) } }

      short_by : Short at (drop at s) (said 8 0 d * 32 + 16 * sign + (n + 1))
      short_by = bool_cases (ltb 0 sign) (λ y. minus_some (omega (arith, ltb-true 0 sign y, g.few))) (λ q. plus-some (omega (arith, ltb-false 0 sign q)))

      pub short_some : (v : ℕ) → v ≡ said 8 0 d → Short at (drop at s) (v * 32 + 16 * sign + (n + 1))
      short_some v is = rw is short_by
