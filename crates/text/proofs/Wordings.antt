-- A word at a place of a text as a token, by its first byte. Assumes nothing.
use Rattle.std.proofs.Common.{◌≡◌, eqb, ℕ, ◌+◌, ◌<◌, ◌≤◌, min, true, false, List, [], ◌∷◌, length, get_or, drop, sym, refl, ap, ◌∙◌, arith, drop-drop, ne_eqb}
use Rattle.std.proofs.Common.{Option as Maybe, Some, None, Bool, MatchOption}
use Rattle.std.specs.Bool.{then_some}
use Rattle.std.specs.Int.{from_bool}
use borrow.Author.Tests.{eqb-true, eqb-false}
use Rattle.meaning.proofs.Truth.{bool_cases}
use Rattle.std.proofs.Math.Option.{Option, none, some}
use Rattle.rules.specs.Text.{is_blank, positive, signed, same_bytes, token, word}
use Rattle.text.specs.Scan.{most, blanks, ends_word, sized, Positive, token_of, OneByte, Numeral, Plain, Guessing, Scans}
use Rattle.text.specs.declared.Scanned.{Scanned}
use Rattle.text.specs.declared.Token.{Token}
use Rattle.text.specs.declared.Token.TheVariants.{Nought, Plus, Minus, LetterD, Other, Nothing}
use Rattle.text.proofs.Places.{word_end, word_on, ends_empty, ends-not}

-- A number that was found is one, of at most the size given.

sized-none : (o : Option ℕ) → none ≡ sized o → o ≡ none
sized-none none e = refl
sized-none (some n) e = absurd (cc)

sized-some : (v : ℕ) (o : Option ℕ) → some v ≡ sized o → (m : ℕ) × (o ≡ some m) × (v ≡ min m most)
sized-some v none e = absurd (cc)
sized-some v (some m) e = (m, refl, (cc))

module _ (s : List ℕ) (at : ℕ) (h : at < length s) where
  -- A byte that is a token by itself.

  byte_token : (b : ℕ) (t : Token) → OneByte b t → (is_blank b ≡ false) × (t ≡ token_of (b ∷ []))
  unfolding is_blank token_of token
  byte_token b Nought e = (rw e, rw e)
  byte_token b (Plus n) e = absurd e
  byte_token b (Minus n) e = absurd e
  byte_token b LetterD e = (rw e, rw e)
  byte_token b Other e = absurd e
  byte_token b Nothing e = absurd e

  byte_other : (b : ℕ) (t : Token) → OneByte b t → (x : ℕ) (w : List ℕ) → Other ≡ token_of (b ∷ x ∷ w)
  unfolding token_of token
  byte_other b Nought e x w = rw e
  byte_other b (Plus n) e x w = absurd e
  byte_other b (Minus n) e x w = absurd e
  byte_other b LetterD e x w = rw e
  byte_other b Other e x w = absurd e
  byte_other b Nothing e x w = absurd e

  one-ends : (t : Token) → OneByte (get_or s at 0) t → ends_word (drop (at + 1) s) ≡ true → Guessing at (drop at s) (Some (record { token = t; next = at + 1 }))
  one-ends t o e =
      let b = byte_token (get_or s at 0) t o in
      let w = word_on s at h b.0 ∙ ap (λ (r : List ℕ). get_or s at 0 ∷ r) (ends_empty s (at + 1) e) in
      record { is_token = rw w b.1; is_next = omega (arith, ap length w) }

  one_other : (t : Token) → OneByte (get_or s at 0) t → ends_word (drop (at + 1) s) ≡ false → Guessing at (drop at s) None
  one_other t o e =
      let b = byte_token (get_or s at 0) t o in
      let g = ends-not s (at + 1) e in
      let w = word_on s at h b.0 ∙ ap (λ (r : List ℕ). get_or s at 0 ∷ r) (word_on s (at + 1) g.0 g.1) in
      record { is_token = rw w (sym (byte_other (get_or s at 0) t o _ _)); is_next = tt }

  -- As the code has it: the token, if the word ends.
  pub one_then : (t : Token) → OneByte (get_or s at 0) t → (ends : Bool) (found : Maybe (Scanned Token)) →
      ends ≡ ends_word (drop (at + 1) s) → found ≡ then_some ends (record { token = t; next = at + 1 }) → Guessing at (drop at s) found
  one_then t o true found e f = rw f (one-ends t o (sym e))
  one_then t o false found e f = rw f (one_other t o (sym e))

  -- A sign.

  sign_word : get_or s at 0 ≡ 45 → word (drop at s) ≡ 45 ∷ word (drop (at + 1) s)
  unfolding is_blank
  sign_word e = word_on s at h (rw e) ∙ ap (λ (b : ℕ). b ∷ word (drop (at + 1) s)) e

  minus_some : (w : List ℕ) (m : ℕ) → positive w ≡ some m → token_of (45 ∷ w) ≡ Minus (min m most)
  unfolding token_of token signed
  minus_some w m q = rw (q, signed)

  minus_none : (w : List ℕ) → positive w ≡ none → token_of (45 ∷ w) ≡ Other
  unfolding token_of token signed
  minus_none w q = rw (q, signed)

  pub sign_none : get_or s at 0 ≡ 45 → Positive (at + 1) (drop (at + 1) s) None → Guessing at (drop at s) None
  sign_none e p =
      let w = sign_word e in
      let q = sized-none (positive (word (drop (at + 1) s))) p.is_size in
      record { is_token = rw w (minus_none (word (drop (at + 1) s)) q); is_next = tt }

  pub sign_minus : (n : Scanned ℕ) → get_or s at 0 ≡ 45 → Positive (at + 1) (drop (at + 1) s) (Some n) → Guessing at (drop at s) (Some (record { token = Minus n.token; next = n.next }))
  sign_minus n e p =
      let w = sign_word e in
      let m = sized-some n.token (positive (word (drop (at + 1) s))) p.is_size in
      record { is_token = rw w (ap Minus m.2 ∙ sym (minus_some (word (drop (at + 1) s)) m.0 m.1)); is_next = omega (arith, ap length w, p.is_next) }

  -- Any other byte.

  plus-token : (w : List ℕ) → Plain (get_or s at 0) → token (get_or s at 0 ∷ w) ≡ signed Rattle.rules.specs.Text.plus (get_or s at 0 ∷ w)
  unfolding token same_bytes
  plus-token w p = rw (ne_eqb (get_or s at 0) 48 p.no_nought, ne_eqb (get_or s at 0) 100 p.no_letter, ne_eqb (get_or s at 0) 45 p.no_sign, token)

  plus-some : (w : List ℕ) (m : ℕ) → Plain (get_or s at 0) → positive (get_or s at 0 ∷ w) ≡ some m → token_of (get_or s at 0 ∷ w) ≡ Plus (min m most)
  unfolding token_of signed
  plus-some w m p q = rw (plus-token w p, q, signed)

  plus_none : (w : List ℕ) → Plain (get_or s at 0) → positive (get_or s at 0 ∷ w) ≡ none → token_of (get_or s at 0 ∷ w) ≡ Other
  unfolding token_of signed
  plus_none w p q = rw (plus-token w p, q, signed)

  pub plain_none : Plain (get_or s at 0) → Positive at (drop at s) None → Guessing at (drop at s) None
  plain_none b p =
      let w = word_on s at h b.no_blank in
      let q = sized-none (positive (word (drop at s))) p.is_size in
      record { is_token = rw w (plus_none (word (drop (at + 1) s)) b (rw w at q)); is_next = tt }

  pub plain-plus : (n : Scanned ℕ) → Plain (get_or s at 0) → Positive at (drop at s) (Some n) → Guessing at (drop at s) (Some (record { token = Plus n.token; next = n.next }))
  plain-plus n b p =
      let w = word_on s at h b.no_blank in
      let m = sized-some n.token (positive (word (drop at s))) p.is_size in
      record { is_token = rw w (ap Plus m.2 ∙ sym (plus-some (word (drop (at + 1) s)) m.0 b (ap positive (sym w) ∙ m.1))); is_next = p.is_next }

  -- As the code has it: the place behind the sign, if there is one.
  module _ (sign : ℕ) (counts : sign ≡ from_bool (eqb (get_or s at 0) 45)) where
    behind_sign : (found : Maybe (Scanned ℕ)) → get_or s at 0 ≡ 45 → Positive (at + sign) (drop (at + sign) s) found → Positive (at + 1) (drop (at + 1) s) found
    behind_sign found e p = let one : sign ≡ 1 = (rw e at counts) in rw one at p

    no_sign : (found : Maybe (Scanned ℕ)) → (get_or s at 0 ≡ 45 → ⊥) → Positive (at + sign) (drop (at + sign) s) found → Positive at (drop at s) found
    no_sign found e p = let here : at + sign ≡ at = omega (arith, (rw (ne_eqb (get_or s at 0) 45 e) at counts)) in rw here at p

    plain_by : Numeral (get_or s at 0) → (get_or s at 0 ≡ 45 → ⊥) → Plain (get_or s at 0)
    plain_by b e = record { no_blank = b.no_blank; no_nought = b.no_nought; no_letter = b.no_letter; no_sign = e }

    pub signed_none : Numeral (get_or s at 0) → Positive (at + sign) (drop (at + sign) s) None → Guessing at (drop at s) None
    signed_none b p =
        bool_cases (eqb (get_or s at 0) 45)
        (λ y. let e = eqb-true (get_or s at 0) 45 y in sign_none e (behind_sign None e p))
        (λ n. let e = eqb-false (get_or s at 0) 45 n in plain_none (plain_by b e) (no_sign None e p))

    pub signed_minus : (n : Scanned ℕ) → get_or s at 0 ≡ 45 → Positive (at + sign) (drop (at + sign) s) (Some n) → Guessing at (drop at s) (Some (record { token = Minus n.token; next = n.next }))
    signed_minus n e p = sign_minus n e (behind_sign (Some n) e p)

    pub signed_plus : (n : Scanned ℕ) → Numeral (get_or s at 0) → (get_or s at 0 ≡ 45 → ⊥) → Positive (at + sign) (drop (at + sign) s) (Some n)
        → Guessing at (drop at s) (Some (record { token = Plus n.token; next = n.next }))
    signed_plus n b e p = plain-plus n (plain_by b e) (no_sign (Some n) e p)

-- Behind the blanks.

pub scans_past : (s : List ℕ) (at p : ℕ) → p ≡ at + blanks (drop at s) → length s ≤ p → Scans at (drop at s) Nothing p
unfolding token_of
scans_past s at p e h =
    let d : drop (blanks (drop at s)) (drop at s) ≡ drop p s = drop-drop (blanks (drop at s)) at s ∙ ap (λ (k : ℕ). drop k s) (sym e) in
    let w : word (drop (blanks (drop at s)) (drop at s)) ≡ [] = ap word d ∙ word_end s p h in
    record { is_token = rw w; is_next = omega (arith, ap length w) }

-- Where a token was found in place of another word, it is given; else the end of the word is.

pub scans_place : (s : List ℕ) (at p : ℕ) (t : Token) (n : ℕ) → p ≡ at + blanks (drop at s) → t ≡ token_of (word (drop p s)) → n ≡ p + length (word (drop p s)) → Scans at (drop at s) t n
scans_place s at p t n e is next =
    let d : drop (blanks (drop at s)) (drop at s) ≡ drop p s = drop-drop (blanks (drop at s)) at s ∙ ap (λ (k : ℕ). drop k s) (sym e) in
    record { is_token = rw d is; is_next = omega (arith, e, next, ap (λ (k : List ℕ). length (word k)) d) }

-- As the code has it.
pub scans_or : {Found : Type 0} (s : List ℕ) (at p : ℕ) (o : Maybe (Scanned Token)) (r : Scanned Token) → p ≡ at + blanks (drop at s) → Guessing p (drop p s) o →
    MatchOption o Found (λ f. r ≡ f) → (Found → (r.token ≡ Other) × (r.next ≡ p + length (word (drop p s)))) → Scans at (drop at s) r.token r.next
scans_or s at p None r e g m end = let t = end m in scans_place s at p r.token r.next e (t.0 ∙ sym g.is_token) t.1
scans_or s at p (Some f) r e g m end = rw m (scans_place s at p f.token f.next e g.is_token g.is_next)
