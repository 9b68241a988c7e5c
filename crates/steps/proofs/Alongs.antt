-- Short numbers taken one after the other: each is a token that `feed` would have taken in the same way, as a literal or as a
-- hint. Assumes nothing.
use Rattle.std.specs.Prelude.{Some, Ok}
use Rattle.std.proofs.Common.{ℕ, ◌+◌, ◌*◌, ◌/◌, ◌%◌, ◌≤◌, ◌<◌, ◌≡◌, refl, sym, subst, ap, ◌∙◌, ⊎_elim, List, arith, le-leb, length, drop, set, length-set}
use Rattle.rules.specs.Limits.{max_variable, max_id}
use Rattle.text.specs.Scan.{Scans, Short, ShortNumber}
use Rattle.text.specs.declared.Token.{Token as Found}
use Rattle.text.specs.declared.Token.TheVariants.{Plus, Minus}
use Rattle.formula.specs.Body.{item_of}
use Rattle.steps.specs.Feeding.{FedBy, codes, phase_of, literal_fed, code_fed}
use Rattle.steps.specs.Reading.{Reading, Along}
use Rattle.steps.specs.declared.feeding.Kind.TheVariants.{Literals, Hints}
use Rattle.steps.specs.declared.feeding.Fed.TheVariants.{More, Addition}
use Rattle.steps.proofs.Feedings.{feeds_literal, feeds_hint}
use Rattle.steps.proofs.Readings.{scanned_within, reading_on}

-- The token that a short number is, as an item within a limit.
record Taken (s : List ℕ) (i code next m : ℕ) : Type 0 where
  token : Found
  scan : Scans i (drop i s) token next
  is : item_of m token ≡ Ok (Some code)

short_taken : (s : List ℕ) (i code bytes m : ℕ) → ShortNumber i (drop i s) code bytes → code < 2 * m + 2 → Taken s i code (i + bytes) m
short_taken s i code bytes m h l =
    ⊎_elim
    (λ e. record { token = Plus h.size; scan = e.1; is = rw (item_of, le-leb h.size m (omega (arith, e.0, l))) (ap (λ (k : ℕ). Ok (Some k)) (sym e.0)) })
    (λ e. record { token = Minus h.size; scan = e.1; is = rw (item_of, le-leb h.size m (omega (arith, e.0, l))) (ap (λ (k : ℕ). Ok (Some k)) (sym e.0)) })
    h.case

-- No hint is stored while literals are read.
no_hints : {cells : ℕ} {s : List ℕ} {at used : ℕ} {lits₀ hints₀ lits hints : List ℕ} {i n end many : ℕ}
    → Reading cells s at used lits₀ hints₀ lits hints i (phase_of Literals n end many) → many ≡ 0
no_hints r = omega (arith, r.stands.noted.count, ap length r.stands.begun.1)

module _ {s : List ℕ} {from first limit : ℕ} {slots₀ slots : List ℕ} {i end : ℕ} (a : Along s from first limit slots₀ slots i end)
    {r : ℕ} (short : Short i (drop i s) r) (some : r ≡ 0 → ⊥) (below : r / 16 < limit) (room : end < length slots) where
  number : ShortNumber i (drop i s) (r / 16) (r % 16)
  number = short.is (omega (arith, some))

  taken : (m : ℕ) → limit ≤ 2 * m + 2 → Taken s i (r / 16) (i + r % 16) m
  taken m l = short_taken s i (r / 16) (r % 16) m number (omega arith)

  within : (i ≤ i + r % 16) × (i + r % 16 ≤ length s)
  within = ⊎_elim (λ e. scanned_within s i _ _ a.within e.1) (λ e. scanned_within s i _ _ a.within e.1) number.case

  stored : List ℕ
  stored = set slots end (r / 16)

  literal_more : (cells start used : ℕ) (lits₀ hints₀ hints : List ℕ) (n many : ℕ) → limit ≤ cells → limit ≤ 2 * max_variable + 2
      → Reading cells s start used lits₀ hints₀ slots hints i (phase_of Literals n end many) → Reading cells s start used lits₀ hints₀ stored hints (i + r % 16) (phase_of Literals n (end + 1) many)
  unfolding literal_fed stored
  literal_more cells start used lits₀ hints₀ hints n many lc lm rd =
      let t = taken max_variable lm in
      let fed : FedBy (item_of max_variable t.token) end cells slots stored (literal_fed (phase_of Literals n end many)) (Ok (More (phase_of Literals n (end + 1) 0))) =
      record { kept = Ok (Some (end + 1)); keeps = record { case = (r / 16, t.is, omega arith, room, refl, refl) }; is = refl } in
      subst
      (λ (k : ℕ). Reading cells s start used lits₀ hints₀ stored hints (i + r % 16) (phase_of Literals n (end + 1) k))
      (sym (no_hints rd))
      (reading_on rd t.scan (feeds_literal refl fed) refl)

  hint_more : (cells start used : ℕ) (lits₀ hints₀ lits : List ℕ) (n place : ℕ) → limit ≤ 2 * max_id + 2 → Reading cells s start used lits₀ hints₀ lits slots i (phase_of Hints n place end)
      → Reading cells s start used lits₀ hints₀ lits stored (i + r % 16) (phase_of Hints n place (end + 1))
  unfolding code_fed stored
  hint_more cells start used lits₀ hints₀ lits n place lm rd =
      let t = taken max_id lm in
      let fed : FedBy (item_of max_id t.token) end codes slots stored (code_fed (phase_of Hints n place end) (Addition n place end)) (Ok (More (phase_of Hints n place (end + 1)))) =
      record { kept = Ok (Some (end + 1)); keeps = record { case = (r / 16, t.is, omega arith, room, refl, refl) }; is = refl } in
      reading_on rd t.scan (feeds_hint refl refl fed) refl

  -- One number more.
  pub along_more : Along s from first limit slots₀ (set slots end (r / 16)) (i + r % 16) (end + 1)
  unfolding stored
  along_more =
      record {
        literals = λ cells start used lits₀ hints₀ hints n many lc lm rd. literal_more cells start used lits₀ hints₀ hints n many lc lm (a.literals cells start used lits₀ hints₀ hints n many lc lm rd);
        hints = λ cells start used lits₀ hints₀ lits n place lm rd. hint_more cells start used lits₀ hints₀ lits n place lm (a.hints cells start used lits₀ hints₀ lits n place lm rd);
        later = omega (arith, a.later, within.0);
        within = within.1;
        long = length-set slots end (r / 16) ∙ a.long;
      }
