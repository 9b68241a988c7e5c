-- Tokens as codes: what an item says of the token that it came from, and when one is stored. Assumes nothing.
use Rattle.std.specs.Prelude.{Some, None, Ok, Err}
use Rattle.std.proofs.Common.{ℕ, ◌+◌, ◌*◌, ◌<◌, min, ◌≡◌, refl, sym, ap, subst, ◌∙◌, true, false, List, arith, leb-true, leb, length, length-set}
use Rattle.std.proofs.Math.Option.{Option, none, some}
use Rattle.meaning.specs.Meaning.{pos, neg}
use Rattle.meaning.proofs.Truth.{bool_cases}
use Rattle.rules.specs.Tools.{only}
use Rattle.rules.specs.Limits.{max_variable, max_id}
use Rattle.rules.specs.Text.{Token, nought, plus, minus, letter_d, other, is_nought, literal}
use Rattle.rules.specs.Steps.{look, group, clause_id, hint}
use Rattle.text.specs.Scan.{most, capped}
use Rattle.text.proofs.Tokens.{capped_test, capped_same}
use Rattle.clauses.specs.Codes.{literal_of, code_of, hint_of, half}
use Rattle.clauses.proofs.HintCodes.{hint-even, hint-odd}
use Rattle.clauses.proofs.Literals.{literal_code}
use Rattle.formula.specs.Body.{item_of}
use Rattle.formula.specs.declared.Fault.TheVariants.{Unreadable, TooShort}
use Rattle.steps.specs.Feeding.{id_item, Item, Kept, Keeps, Outcome, FedBy}

-- Storing

-- What was kept decides what the token came to.
module _ (x y : Item) (at limit : ℕ) (before after : List ℕ) (kept k : Kept) (e : x ≡ y) (h : Keeps x at limit before after kept) (q : kept ≡ k) where
  pub fed_by : (fed : Kept → Outcome) (r : Outcome) → r ≡ fed k → FedBy y at limit before after fed r
  fed_by fed r s = record { kept = kept; keeps = subst (λ (z : Item). Keeps z at limit before after kept) e h; is = s ∙ ap fed (sym q) }

pub keeps_long : (x : Item) (at limit : ℕ) (before after : List ℕ) (kept : Kept) → Keeps x at limit before after kept → length after ≡ length before
keeps_long x at limit before after (Ok (Some next)) h = rw (h.case.4, length-set)
keeps_long x at limit before after (Ok None) h = rw h.case.1
keeps_long x at limit before after (Err Unreadable) h = rw h.case.1
keeps_long x at limit before after (Err TooShort) h = rw h.case.3

-- What an item says of the token that it came from, where `item` reads such tokens and `of` says what a code stands for.
abbrev pub Told : {A : Type 0} → (Token → Option A) → (ℕ → A) → Token → Item → Type 0
Told item of t (Ok (Some x)) = (is_nought t ≡ false) × (item t ≡ some (of x))
Told item of t (Ok None) = is_nought t ≡ true
Told item of t (Err e) = (is_nought t ≡ false) × (item t ≡ none)

pub size_same : (m n : ℕ) → m < most → leb n m ≡ true → min n most ≡ n
size_same m n small y = capped_same m n small (let q = leb-true n m y in omega arith)

-- A positive number is stored as twice its size, a negative one as that plus 1.
abbrev even : ℕ → ℕ
even n = 2 * n

abbrev odd : ℕ → ℕ
odd n = 2 * n + 1

-- A number t of the size n, up to the limit m: what its code says.
number_told : {A : Type 0} (item : Token → Option A) (of : ℕ → A) (m n : ℕ) (t : Token) (code : ℕ → ℕ) (x : A) → m < most → is_nought t ≡ false → item t ≡ only (leb n m) x → of (code n) ≡ x
    → Told item of t (elim (leb (min n most) m) [ true ↦ Ok (Some (code (min n most))) | false ↦ Err (record {}) ])
number_told item of m n t code x small Some-number reads means =
    bool_cases (leb n m)
    (λ y. let read : item t ≡ some x = reads ∙ rw y in rw (capped_test m n small, y, size_same m n small y) (Some-number, read ∙ ap some (sym means)))
    (λ f. let none_read : item t ≡ none = reads ∙ rw f in rw (capped_test m n small, f) (Some-number, none_read))

pub literal_told : (t : Token) → Told (literal max_variable) literal_of t (item_of max_variable (capped t))
unfolding literal code_of
literal_told nought = refl
literal_told (plus n) = number_told (literal max_variable) literal_of max_variable n (plus n) even (pos n) (omega arith) refl refl (literal_code (pos n))
literal_told (minus n) = number_told (literal max_variable) literal_of max_variable n (minus n) odd (neg n) (omega arith) refl refl (literal_code (neg n))
literal_told letter_d = (refl, refl)
literal_told other = (refl, refl)

pub hint_told : (t : Token) → Told hint hint_of t (item_of max_id (capped t))
unfolding hint
hint_told nought = refl
hint_told (plus n) = number_told hint hint_of max_id n (plus n) even (look n) (omega arith) refl refl (hint-even (2 * n) (omega arith) ∙ ap look (omega arith))
hint_told (minus n) = number_told hint hint_of max_id n (minus n) odd (group n) (omega arith) refl refl (hint-odd (2 * n + 1) (λ q. omega arith) ∙ ap group (omega arith))
hint_told letter_d = (refl, refl)
hint_told other = (refl, refl)

pub id_told : (t : Token) → Told clause_id half t (id_item max_id (capped t))
unfolding clause_id
id_told nought = refl
id_told (plus n) = number_told clause_id half max_id n (plus n) even n (omega arith) refl refl (omega arith)
id_told (minus n) = (refl, refl)
id_told letter_d = (refl, refl)
id_told other = (refl, refl)
