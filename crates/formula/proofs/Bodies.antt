-- Reading a clause: what a token does, and the state of a reader between two tokens. Assumes nothing.
use Rattle.std.proofs.Common.{ℕ, suc, ◌+◌, ◌*◌, ◌≤◌, ◌<◌, ◌≡◌, true, false, List, [], ◌∷◌, ◌++◌, map, leb, length, take, drop, get_or, set}
use Rattle.std.specs.Prelude.{Option as Maybe, Some, None, Result, Ok, Err}
use Rattle.std.proofs.Common.{refl, sym, ap, ◌∙◌, append_assoc, append-nil, add-one, arith, leb-true, length-append, length-set, take-append-drop, drop-cons, length-take-le}
use Rattle.std.proofs.Math.Option.{Option, none, some}
use Rattle.std.proofs.Math.Seq.{set_at}
use Rattle.meaning.specs.Meaning.{pos, neg, Clause}
use Rattle.meaning.proofs.Truth.{bool_cases}
use Rattle.rules.specs.Tools.{◌>>=◌}
use Rattle.rules.specs.Text.{Token, nought, plus, minus, letter_d, other, is_nought, tokens, literal}
use Rattle.rules.specs.Formula.{items}
use Rattle.text.specs.Scan.{most, capped, Scans}
use Rattle.text.specs.declared.Token.{Token as Found}
use Rattle.text.specs.declared.Token.TheVariants.{Nought, Plus, Minus, LetterD, Other, Nothing}
use Rattle.text.proofs.Tokens.{capped_test, capped_same, scanned_nothing, scanned_token, Next}
use Rattle.clauses.specs.Codes.{literal_of, code_of}
use Rattle.clauses.proofs.Literals.{literal_code}
use Rattle.formula.specs.Body.{item_of, Placed, AllBelow, ClauseDone, ClauseBad, ClauseLong}
use Rattle.formula.specs.declared.body.NoLiteral.{NoLiteral}

-- Tokens as items

-- What an item says of the token that it came from.
abbrev Told : ℕ → Token → Result (Maybe ℕ) NoLiteral → Type 0
Told m t (Ok (Some x)) = (is_nought t ≡ false) × (literal m t ≡ some (literal_of x)) × (x < 2 * m + 2)
Told m t (Ok None) = is_nought t ≡ true
Told m t (Err e) = (is_nought t ≡ false) × (literal m t ≡ none)

told : (m : ℕ) → m < most → (t : Token) → Told m t (item_of m (capped t))
unfolding literal code_of
told m h nought = refl
told m h (plus n) =
    bool_cases (leb n m)
    (λ y. let same = capped_same m n h (let q = leb-true n m y in omega arith) in
    let code : literal_of (2 * n) ≡ pos n = literal_code (pos n) in
    rw (item_of, capped_test m n h, y, same) (refl, rw (y, code), (let q = leb-true n m y in omega arith)))
    (λ f. rw (item_of, capped_test m n h, f) (refl, rw f))
told m h (minus n) =
    bool_cases (leb n m)
    (λ y. let same = capped_same m n h (let q = leb-true n m y in omega arith) in
    let code : literal_of (2 * n + 1) ≡ neg n = literal_code (neg n) in
    rw (item_of, capped_test m n h, y, same) (refl, rw (y, code), (let q = leb-true n m y in omega arith)))
    (λ f. rw (item_of, capped_test m n h, f) (refl, rw f))
told m h letter_d = (refl, refl)
told m h other = (refl, refl)

-- The state of a reader

-- Items in front of those that are read from here on.
pub ahead : {A : Type 0} → List A → Option (List A × List Token) → Option (List A × List Token)
ahead xs none = none
ahead xs (some r) = some (xs ++ r.0, r.1)

ahead_none : {A : Type 0} (o : Option (List A × List Token)) → ahead [] o ≡ o
unfolding ahead
ahead_none none = refl
ahead_none (some r) = refl

snoc : {A : Type 0} (xs : List A) (x : A) (ys : List A) → xs ++ x ∷ ys ≡ xs ++ (x ∷ []) ++ ys
snoc xs x ys = sym (append_assoc xs (x ∷ []) ys)

-- One item more.
ahead_more : {A : Type 0} (item : Token → Option A) (t : Token) (ts : List Token) (xs : List A) (x : A) → is_nought t ≡ false → item t ≡ some x
    → ahead xs (items item (t ∷ ts)) ≡ ahead (xs ++ (x ∷ [])) (items item ts)
unfolding items ahead
ahead_more item t ts xs x n e = rw (n, items, e) (go (items item ts))
  where
    go : (o : Option (List _ × List Token)) → ahead xs (o >>= (λ (ys, rest). some (x ∷ ys, rest))) ≡ ahead (xs ++ (x ∷ [])) o
    go none = refl
    go (some r) = ap (λ (l : List _). some (l, r.1)) (snoc xs x r.0)

ahead_bad : {A : Type 0} (item : Token → Option A) (t : Token) (ts : List Token) (xs : List A) → is_nought t ≡ false → item t ≡ none → ahead xs (items item (t ∷ ts)) ≡ none
unfolding items ahead
ahead_bad item t ts xs n e = rw (n, items, e)

ahead_end : {A : Type 0} (item : Token → Option A) (t : Token) (ts : List Token) (xs : List A) → is_nought t ≡ true → ahead xs (items item (t ∷ ts)) ≡ some (xs, ts)
unfolding items ahead
ahead_end item t ts xs y = rw (y, items) (ap (λ (l : List _). some (l, ts)) (append-nil xs))

-- Where a reader stands: the numbers `new` are stored, and what is left says what all says.
pub record Reading (v : ℕ) (s : List ℕ) (at : ℕ) (before : List ℕ) (used : ℕ) (lits : List ℕ) (i w : ℕ) : Type 0 where
  pub new : List ℕ
  pub placed : Placed before used new lits w
  pub same : length lits ≡ length before
  pub fit : used ≤ length before
  pub below : AllBelow (2 * v + 2) new
  pub left : items (literal v) (tokens (drop at s)) ≡ ahead (map literal_of new) (items (literal v) (tokens (drop i s)))
  pub few : length new + length (tokens (drop i s)) ≡ length (tokens (drop at s))
  pub later : at ≤ i
  pub within : i ≤ length s

pub reading-start : (v : ℕ) (s : List ℕ) (at : ℕ) (before : List ℕ) (used : ℕ) → at ≤ length s → used ≤ length before → Reading v s at before used before at used
reading-start v s at before used h k =
    record {
      new = [];
      placed = record { count = omega arith; room = k; stored = sym (take-append-drop used before) };
      same = refl;
      fit = k;
      below = tt;
      left = sym (ahead_none (items (literal v) (tokens (drop at s))));
      few = omega arith;
      later = omega arith;
      within = h;
    }

-- One number more, behind the others.
pub placed_more : (before new lits : List ℕ) (used w x : ℕ) → used ≤ length before → Placed before used new lits w → w < length before → Placed before used (new ++ (x ∷ [])) (set lits w x) (w + 1)
placed_more before new lits used w x fit p h =
    let n : length (take used before ++ new) ≡ w = rw (length-append, length-take-le used before fit) (sym p.count) in
    let put : set (take used before ++ (new ++ drop w before)) w x ≡ take used before ++ ((new ++ (x ∷ [])) ++ drop (w + 1) before) =
    rw (add-one w, drop-cons before w 0 h, ← append_assoc (take used before) new (get_or before w 0 ∷ drop (suc w) before))
    (set_at (take used before ++ new) (get_or before w 0) (drop (suc w) before) x w n ∙ simp append_assoc) in
    record {
      count = rw length-append (omega (arith, p.count));
      room = omega arith;
      stored = ap (λ (l : List ℕ). set l w x) p.stored ∙ put;
    }

pub below_more : (m : ℕ) (xs : List ℕ) (x : ℕ) → AllBelow m xs → x < m → AllBelow m (xs ++ (x ∷ []))
below_more m [] x a h = (h, tt)
below_more m (y ∷ xs) x a h = (a.0, below_more m xs x a.1 h)

pub map_more : {A : Type 0} (f : ℕ → A) (xs : List ℕ) (x : ℕ) → map f (xs ++ (x ∷ [])) ≡ map f xs ++ (f x ∷ [])
map_more f [] x = refl
map_more f (y ∷ xs) x = ap (λ (l : List _). f y ∷ l) (map_more f xs x)

none_lit : (x : ℕ) {X : Type 0} → ◌≡◌ {A = Result (Maybe ℕ) NoLiteral} (Ok (Some x)) (Err (record {})) → X
none_lit x e = absurd (let z : ◌≡◌ {A = ℕ} 0 1 = cc in omega arith)

module _ (v : ℕ) (small : v < most) (s : List ℕ) (at : ℕ) (before : List ℕ) (used : ℕ) (lits : List ℕ) (i w : ℕ) (r : Reading v s at before used lits i w)
    (t : Found) (n : ℕ) (scan : Scans i (drop i s) t n) where
  -- What was found is the next token, unless it was nothing.
  token_told : (x : Result (Maybe ℕ) NoLiteral) → x ≡ item_of v t → (next : Next s i t n) → Told v next.tok x
  token_told x e next = rw (e, next.cap) (told v small next.tok)

  found_some : (x : Result (Maybe ℕ) NoLiteral) → x ≡ item_of v t → (x ≡ Err (record {}) → ⊥) → Next s i t n
  found_some x e f = scanned_token s i t n scan (λ q. f (e ∙ rw q))

  pub reading_next : (x : ℕ) → Ok (Some x) ≡ item_of v t → Next s i t n
  reading_next x e = found_some (Ok (Some x)) e (λ q. none_lit x q)

  pub reading_on : (x : ℕ) (lits' : List ℕ) → Ok (Some x) ≡ item_of v t → w < length lits → lits' ≡ set lits w x → Reading v s at before used lits' n (w + 1)
  reading_on x lits' e room put =
      let next = reading_next x e in
      let say = token_told (Ok (Some x)) e next in
      record {
        new = r.new ++ (x ∷ []);
        placed = rw put (placed_more before r.new lits used w x r.fit r.placed (omega (arith, r.same)));
        same = rw (put, length-set) r.same;
        fit = r.fit;
        below = below_more (2 * v + 2) r.new x r.below say.2;
        left = r.left ∙ ap (λ (ts : List Token). ahead (map literal_of r.new) (items (literal v) ts)) next.is
            ∙ ahead_more (literal v) next.tok (tokens (drop n s)) (map literal_of r.new) (literal_of x) say.0 say.1
            ∙ ap (λ (l : Clause). ahead l (items (literal v) (tokens (drop n s)))) (sym (map_more literal_of r.new x));
        few = rw length-append (omega (arith, r.few, ap length next.is));
        later = omega (arith, r.later, next.later);
        within = next.within;
      }

  pub reading_done : Ok None ≡ item_of v t → ClauseDone v s at before used lits n w
  reading_done e =
      let next = found_some (Ok None) e (λ q. absurd (let z : ◌≡◌ {A = ℕ} 0 1 = cc in omega arith)) in
      let say = token_told (Ok None) e next in
      record {
        new = r.new;
        placed = r.placed;
        below = r.below;
        is = r.left ∙ ap (λ (ts : List Token). ahead (map literal_of r.new) (items (literal v) ts)) next.is
            ∙ ahead_end (literal v) next.tok (tokens (drop n s)) (map literal_of r.new) say;
        later = omega (arith, r.later, next.later);
        within = next.within;
      }

  nothing_left : t ≡ Nothing → items (literal v) (tokens (drop at s)) ≡ none
  unfolding items ahead
  nothing_left e =
      let none_left : tokens (drop i s) ≡ [] = scanned_nothing i (drop i s) n (rw e at scan) in
      r.left ∙ rw none_left

  wrong_left : Err (record {}) ≡ item_of v t → (t ≡ Nothing → ⊥) → items (literal v) (tokens (drop at s)) ≡ none
  wrong_left e f =
      let next = scanned_token s i t n scan f in
      let say = token_told (Err (record {})) e next in
      r.left ∙ ap (λ (ts : List Token). ahead (map literal_of r.new) (items (literal v) ts)) next.is
      ∙ ahead_bad (literal v) next.tok (tokens (drop n s)) (map literal_of r.new) say.0 say.1

  no_clause : (u : Found) → t ≡ u → Err (record {}) ≡ item_of v t → items (literal v) (tokens (drop at s)) ≡ none
  no_clause Nought q e = wrong_left e (λ p. absurd (let z : ◌≡◌ {A = ℕ} 0 1 = cc in omega arith))
  no_clause (Plus k) q e = wrong_left e (λ p. absurd (let z : ◌≡◌ {A = ℕ} 0 1 = cc in omega arith))
  no_clause (Minus k) q e = wrong_left e (λ p. absurd (let z : ◌≡◌ {A = ℕ} 0 1 = cc in omega arith))
  no_clause LetterD q e = wrong_left e (λ p. absurd (let z : ◌≡◌ {A = ℕ} 0 1 = cc in omega arith))
  no_clause Other q e = wrong_left e (λ p. absurd (let z : ◌≡◌ {A = ℕ} 0 1 = cc in omega arith))
  no_clause Nothing q e = nothing_left q

  pub reading_bad : Err (record {}) ≡ item_of v t → ClauseBad v s at before used lits i w
  reading_bad e = record { new = r.new; placed = r.placed; is = no_clause t refl e; few = omega (arith, r.few); later = r.later; within = r.within }

  pub reading-long : (x : ℕ) → Ok (Some x) ≡ item_of v t → length lits ≤ w → ClauseLong v s at before used lits i w
  reading-long x e full =
      let next = reading_next x e in
      record {
        new = r.new;
        placed = r.placed;
        short = omega (arith, r.same, r.placed.count, r.few, ap length next.is);
        few = omega (arith, r.few);
        later = r.later;
        within = r.within;
      }
