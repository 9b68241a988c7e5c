-- Eight bytes as one number: what its bytes are, what they say as digits, and what is left of them once they are moved up.
-- Assumes nothing.
use Rattle.std.proofs.Common.{◌≡◌, ℕ, zero, suc, ◌+◌, ◌*◌, ◌/◌, ◌%◌, ◌^◌, ◌<◌, ◌≤◌, eqb, List, get_or, length, take, drop, min}
use Rattle.std.proofs.Common.{sym, refl, ap, ◌∙◌, mod-eq_of_lt, mul_assoc, suc-add, pow-suc, zero-add, mul-one, arith, pow-add, add-zero, eqb-true, get_or-take, get_or-drop, length-take}
use Rattle.std.proofs.Math.Arith.{mod-mul}
use Rattle.std.proofs.lemmas.Int.{clamps}
use lib.Bits.{bit_and, and_block, and_high}
use Rattle.text.specs.Scan.{bytes_at, Bytes, EachUpTo, EachAtMost, Tells, said}

-- A number as its lowest byte and the rest

-- A positive number of bytes.
some_bytes : (k : ℕ) → 0 < 256 ^ k
some_bytes zero = omega arith
some_bytes (suc k) = let r = some_bytes k in omega (arith, pow-suc 256 k)

-- The lowest k + 1 bytes are the lowest one and k of the rest.
low_bytes : (k x : ℕ) → x % 256 ^ suc k ≡ (x / 256 % 256 ^ k) * 256 + x % 256
low_bytes k x = ap (λ (c : ℕ). x % c) (pow-suc 256 k) ∙ mod-mul x (some_bytes k) (omega arith)

module _ (k x : ℕ) where
  kept_byte : x % 256 ^ suc k % 256 ≡ x % 256
  kept_byte = omega (arith, low_bytes k x)

  kept_rest : x % 256 ^ suc k / 256 ≡ x / 256 % 256 ^ k
  kept_rest = omega (arith, low_bytes k x)

-- The byte b, k times.
abbrev pub repeated : ℕ → ℕ → ℕ
repeated b zero = 0
repeated b (suc k) = b + 256 * repeated b k

-- The lowest byte of a sum, and the rest of it, where nothing is carried.
pub first_byte : (k e c more b rest : ℕ) → e % 256 ≤ 9 → c ≤ 48 → b < 256 → (e + (c + 256 * more)) % 256 ^ suc k ≡ b + 256 * rest → (b ≡ e % 256 + c) × (rest ≡ (e / 256 + more) % 256 ^ k)
first_byte k e c more b rest small few byte is =
    let low : (e + (c + 256 * more)) % 256 ≡ e % 256 + c = omega arith in
    let up : (e + (c + 256 * more)) / 256 ≡ e / 256 + more = omega arith in
    let both : b + 256 * rest ≡ (e / 256 + more) % 256 ^ k * 256 + (e % 256 + c) = sym is ∙ low_bytes k (e + (c + 256 * more)) ∙ (rw (low, up) refl) in
    (omega (arith, both), omega (arith, both))

-- A byte has eight bits.
pub bytes_of_bits : (k : ℕ) → 2 ^ (8 * k) ≡ 256 ^ k
bytes_of_bits zero = refl
bytes_of_bits (suc k) =
    let more : 8 * suc k ≡ 8 * k + 8 = omega arith in
    (rw more (pow-add 2 (8 * k) 8)) ∙ ap (λ (x : ℕ). x * 256) (bytes_of_bits k) ∙ sym (pow-suc 256 k)

-- Bytes above one another

-- One byte more at the upper end.
bytes_on : (s : List ℕ) (at k : ℕ) → bytes_at s at (suc k) ≡ bytes_at s at k + get_or s (at + k) 0 * 256 ^ k
unfolding bytes_at
bytes_on s at zero = let p : at + 0 ≡ at = omega arith in rw p (omega arith)
bytes_on s at (suc k) =
    let p : at + 1 + k ≡ at + suc k = omega arith in
    let up : get_or s (at + suc k) 0 * 256 ^ suc k ≡ get_or s (at + suc k) 0 * 256 ^ k * 256 = ap (λ (c : ℕ). get_or s (at + suc k) 0 * c) (pow-suc 256 k) ∙ sym (mul_assoc (get_or s (at + suc k) 0) (256 ^ k) 256) in
    let rest : bytes_at s (at + 1) (suc k) ≡ bytes_at s (at + 1) k + get_or s (at + suc k) 0 * 256 ^ k = (rw p at (bytes_on s (at + 1) k)) in
    omega (arith, up, rest)

-- Eight bytes, the first of them lowest.
pub eight_bytes : (s : List ℕ) (at r : ℕ) → ((i : ℕ) → get_or s i 0 < 256) → r ≡ get_or s at 0 + get_or s (at + 1) 0 * 256 ^ 1 + get_or s (at + 2) 0 * 256 ^ 2 + get_or s (at + 3) 0 * 256 ^ 3 + get_or s (at + 4) 0 * 256 ^ 4 +
    get_or s (at + 5) 0 * 256 ^ 5 + get_or s (at + 6) 0 * 256 ^ 6 + get_or s (at + 7) 0 * 256 ^ 7 → Bytes s at 8 r
unfolding bytes_at
eight_bytes s at r small is =
    record {
      is = omega (arith, is, bytes_on s at 7, bytes_on s at 6, bytes_on s at 5, bytes_on s at 4, bytes_on s at 3, bytes_on s at 2, bytes_on s at 1);
      bytes = λ i l h. small i;
    }

-- The same of eight bytes that were cut off.
pub eight_cut : (s bytes : List ℕ) (at m r : ℕ) → 8 ≤ length (take m (drop at s)) → bytes ≡ take 8 (take m (drop at s)) → ((i : ℕ) → get_or s i 0 < 256) → r ≡ get_or bytes 0 0 + get_or bytes 1 0 * 256 ^ 1 +
    get_or bytes 2 0 * 256 ^ 2 + get_or bytes 3 0 * 256 ^ 3 + get_or bytes 4 0 * 256 ^ 4 + get_or bytes 5 0 * 256 ^ 5 + get_or bytes 6 0 * 256 ^ 6 + get_or bytes 7 0 * 256 ^ 7 → Bytes s at 8 r
eight_cut s bytes at m r long same small is =
    let first : get_or bytes 0 0 ≡ get_or s at 0 = rw add-zero at (reads 0 (omega arith)) in
    eight_bytes s at r small (rw (← first, ← reads 1 (omega arith), ← reads 2 (omega arith), ← reads 3 (omega arith), ← reads 4 (omega arith), ← reads 5 (omega arith), ← reads 6 (omega arith), ← reads 7 (omega arith)) is)
  where
    reads : (k : ℕ) → k < 8 → get_or bytes k 0 ≡ get_or s (at + k) 0
    reads k h =
        let room : length (take m (drop at s)) ≡ min m (length (drop at s)) = length-take m (drop at s) in
        ap (λ (xs : List ℕ). get_or xs k 0) same
        ∙ (get_or-take 8 (take m (drop at s)) k 0 h ∙ (get_or-take m (drop at s) k 0 (omega (arith, clamps, room, long, h)) ∙ get_or-drop at s k 0))

-- Moved up by one byte more.
module _ (n k x : ℕ) where
  moved_bytes : x * 256 ^ suc k % 256 ^ suc (k + n) ≡ (x * 256 ^ k % 256 ^ (k + n)) * 256
  moved_bytes =
      let up : x * 256 ^ suc k ≡ x * 256 ^ k * 256 = ap (λ (c : ℕ). x * c) (pow-suc 256 k) ∙ sym (mul_assoc x (256 ^ k) 256) in
      let rest : x * 256 ^ suc k / 256 ≡ x * 256 ^ k = omega (arith, up) in
      low_bytes (k + n) (x * 256 ^ suc k) ∙ omega (arith, up, ap (λ (c : ℕ). c % 256 ^ (k + n)) rest)

  moved_byte : x * 256 ^ suc k % 256 ^ suc (k + n) % 256 ≡ 0
  moved_byte = omega (arith, moved_bytes)

  moved_rest : x * 256 ^ suc k % 256 ^ suc (k + n) / 256 ≡ x * 256 ^ k % 256 ^ (k + n)
  moved_rest = omega (arith, moved_bytes)

-- Bytes up to a number

each_kept : (m n x : ℕ) → EachUpTo m n (x % 256 ^ n) → EachUpTo m n x
each_kept m zero x h = h
each_kept m (suc n) x h = (rw (kept_byte n x) at h.0, each_kept m n (x / 256) (rw (kept_rest n x) at h.1))

pub each_moved : (m n k x : ℕ) → EachUpTo m (k + n) (x * 256 ^ k % 256 ^ (k + n)) → EachUpTo m n x
each_moved m n zero x h = each_kept m n x (rw (zero-add n, mul-one x) at h)
each_moved m n (suc k) x h =
    let g : EachUpTo m (suc (k + n)) (x * 256 ^ suc k % 256 ^ suc (k + n)) = (rw (suc-add k n) at h) in
    each_moved m n k x (rw (moved_rest n k x) at g.1)

-- What they say

said_kept : (n v x : ℕ) → said n v (x % 256 ^ n) ≡ said n v x
unfolding said
said_kept zero v x = refl
said_kept (suc n) v x = rw (kept_byte n x, kept_rest n x) (said_kept n (v * 10 + x % 256) (x / 256))

pub said_moved : (n k x : ℕ) → said (k + n) 0 (x * 256 ^ k % 256 ^ (k + n)) ≡ said n 0 x
unfolding said
said_moved n zero x = rw (zero-add n, mul-one x) (said_kept n 0 x)
said_moved n (suc k) x = rw (suc-add k n, said, moved_byte n k x, moved_rest n k x) (said_moved n k x)

pub said_least : (n v x : ℕ) → v ≤ said n v x
unfolding said
said_least zero v x = omega arith
said_least (suc n) v x = let r = said_least n (v * 10 + x % 256) (x / 256) in omega arith

pub said-most : (d : ℕ) → EachAtMost 9 8 d → said 8 0 d ≤ 99999999
unfolding said
said-most d e = omega (arith, e.each)

-- Masks

upper_half : (b : ℕ) → b < 256 → bit_and b 240 ≡ 0 → b ≤ 15
upper_half b h e =
    let a : b / 16 % 16 * 16 ≡ 0 = sym (and_high b 4 4) ∙ e in
    let m : b / 16 % 16 ≡ b / 16 = mod-eq_of_lt (omega arith) in
    omega (arith, a, m)

each_low : (k x : ℕ) → bit_and x (repeated 240 k) ≡ 0 → EachUpTo 15 k x
each_low zero x e = tt
each_low (suc k) x e =
    let split : x ≡ x / 256 * 256 + x % 256 = omega arith in
    let mask : repeated 240 (suc k) ≡ repeated 240 k * 256 + 240 = omega arith in
    let both : bit_and (x / 256) (repeated 240 k) * 256 + bit_and (x % 256) 240 ≡ 0 = sym (and_block 8 (x / 256) (repeated 240 k) (x % 256) 240 (omega arith) (omega arith)) ∙ (rw (← split, ← mask) e) in
    (upper_half (x % 256) (omega arith) (omega (arith, both)), each_low k (x / 256) (omega (arith, both)))

each_digit : (k x : ℕ) → EachUpTo 15 k x → EachUpTo 15 k (x + repeated 6 k) → EachUpTo 9 k x
each_digit zero x h q = tt
each_digit (suc k) x h q =
    let low : (x + repeated 6 (suc k)) % 256 ≡ x % 256 + 6 = omega (arith, h.0) in
    let rest : (x + repeated 6 (suc k)) / 256 ≡ x / 256 + repeated 6 k = omega (arith, h.0) in
    (omega (arith, low, q.0), each_digit k (x / 256) h.1 (rw rest at q.1))

-- The test for digits in all bytes

module _ (d : ℕ) (low : bit_and d 17361641481138401520 ≡ 0) where
  pub digits_each : Tells (eqb (bit_and (d + 434041037028460038) 17361641481138401520) 0) (EachAtMost 9 8 d)
  digits_each = record { yes = λ y. record { each = each_digit 8 d (each_low 8 d low) (each_low 8 (d + 434041037028460038) (eqb-true _ 0 y)) } }

  pub digits-room : d < 2 ^ 64 → d + 434041037028460038 < 2 ^ 64
  digits-room h =
      let each = each_low 8 d low in
      let top : d / 72057594037927936 ≡ d / 256 / 256 / 256 / 256 / 256 / 256 / 256 = omega arith in
      omega (arith, top, each.1.1.1.1.1.1.1.0)

-- The number of eight digits

-- Ten times a number and all of it but its lowest byte: each byte of that is a byte and the next one as two digits.
module _ (x : ℕ) (a : x % 256 ≤ 9) (b : x / 256 % 256 ≤ 9) where
  pair_byte : (x * 10 + x / 256) % 256 ≡ (x % 256) * 10 + x / 256 % 256
  pair_byte = omega arith

  pair_rest : (x * 10 + x / 256) / 256 ≡ x / 256 * 10 + x / 256 / 256
  pair_rest = omega arith

-- Eight digits in pairs, and one after the other.
sums : (a b c d e f g h : ℕ) → ((a * 10 + b) * 100 + (c * 10 + d)) * 10000 + ((e * 10 + f) * 100 + (g * 10 + h)) ≡ (((((((0 * 10 + a) * 10 + b) * 10 + c) * 10 + d) * 10 + e) * 10 + f) * 10 + g) * 10 + h
sums a b c d e f g h = omega arith

number_of_pairs : (d : ℕ) → d < 2 ^ 64 → EachAtMost 9 8
    d → (((d * 10 + d / 256) % 256) * 100 + (d * 10 + d / 256) / 65536 % 256) * 10000 + (((d * 10 + d / 256) / 4294967296 % 256) * 100 + (d * 10 + d / 256) / 281474976710656 % 256) ≡ said 8 0 d
unfolding said
number_of_pairs d h e =
    let g = e.each in
    let a = pair_byte d g.0 g.1.0 in
    let x1 = pair_rest d g.0 g.1.0 in
    let x2 = pair_rest (d / 256) g.1.0 g.1.1.0 in
    let b = pair_byte (d / 256 / 256) g.1.1.0 g.1.1.1.0 in
    let x3 = pair_rest (d / 256 / 256) g.1.1.0 g.1.1.1.0 in
    let x4 = pair_rest (d / 256 / 256 / 256) g.1.1.1.0 g.1.1.1.1.0 in
    let c = pair_byte (d / 256 / 256 / 256 / 256) g.1.1.1.1.0 g.1.1.1.1.1.0 in
    let x5 = pair_rest (d / 256 / 256 / 256 / 256) g.1.1.1.1.0 g.1.1.1.1.1.0 in
    let x6 = pair_rest (d / 256 / 256 / 256 / 256 / 256) g.1.1.1.1.1.0 g.1.1.1.1.1.1.0 in
    let f = pair_byte (d / 256 / 256 / 256 / 256 / 256 / 256) g.1.1.1.1.1.1.0 g.1.1.1.1.1.1.1.0 in
    let p = d * 10 + d / 256 in
    let two : p / 65536 ≡ p / 256 / 256 = omega arith in
    let four : p / 4294967296 ≡ p / 256 / 256 / 256 / 256 = omega arith in
    let six : p / 281474976710656 ≡ p / 256 / 256 / 256 / 256 / 256 / 256 = omega arith in
    rw (two, four, six, x1, x2, x3, x4, x5, x6, a, b, c, f) (sums _ _ _ _ _ _ _ _)

pub number-said : (d : ℕ) → d < 2 ^ 64 → EachAtMost 9 8
    d → (((((d * 10 + d / 256) % 256) * 100 + (d * 10 + d / 256) / 65536 % 256) * 10000 + (((d * 10 + d / 256) / 4294967296 % 256) * 100 + (d * 10 + d / 256) / 281474976710656 % 256)) ≡ said 8 0
    d) × ((((d * 10 + d / 256) % 256) * 100 + (d * 10 + d / 256) / 65536 % 256) * 10000 + (((d * 10 + d / 256) / 4294967296 % 256) * 100 + (d * 10 + d / 256) / 281474976710656 % 256) ≤ 99999999)
number-said d h e = let same = number_of_pairs d h e in (same, omega (arith, same, said-most d e))
