-- What one token more makes of a step that is read in part, by the functions of src/feeding.rt: the codes that they store
-- stand for what `advance` says. Assumes nothing.
use Rattle.std.proofs.Common.{ℕ, ◌+◌, ◌*◌, ◌/◌, ◌≤◌, ◌<◌, ◌≡◌, Bool, true, false, List, [], ◌∷◌, ◌++◌, map, leb, length, set}
use Rattle.std.proofs.Common.{refl, sym, ap, subst, ◌∙◌, inl, inr, ⊎_elim, arith, min, le-leb, leb-true, take-append-drop}
use Rattle.std.specs.Prelude.{Option as Maybe, Some, None, Ok, Err}
use Rattle.std.proofs.Math.Option.{Option, none, some}
use Rattle.meaning.proofs.Truth.{bool_cases}
use Rattle.rules.specs.Limits.{max_variable, max_id}
use Rattle.rules.specs.Text.{Token, Proper, nought, plus, minus, letter_d, other, is_letter_d, literal}
use Rattle.rules.specs.Steps.{add, delete, clause_id, hint}
use Rattle.text.specs.Scan.{most, capped}
use Rattle.text.specs.declared.Token.{Token as Found}
use Rattle.text.specs.declared.Token.TheVariants.{Nought, Plus, Minus, LetterD, Other, Nothing}
use Rattle.text.proofs.Tokens.{capped_test}
use Rattle.clauses.specs.Codes.{literal_of, hint_of, half}
use Rattle.clauses.proofs.Literals.{variable-literal}
use Rattle.formula.specs.Body.{item_of, Placed, AllBelow}
use Rattle.formula.specs.declared.body.NoLiteral.{NoLiteral}
use Rattle.formula.specs.declared.Fault.TheVariants.{Unreadable, TooShort}
use Rattle.formula.proofs.Bodies.{placed_more, map_more, below_more}
use Rattle.formula.proofs.Fillings.{placed_length}
use Rattle.steps.specs.Partials.{Partial, at_start, got_id, in_literals, in_hints, in_ids, Advance, goes_on, ends, unreadable, item_or, literal_or, advance}
use Rattle.steps.specs.Feeding.{id_within, Item, id_item, Kept, KeepCase, Outcome, FedBy, codes, phase_of, literal_fed, code_fed, start_fed, FedStart, BodyCase, FedBody, IsId, partial_of, Begun, Midway, GoesOn, TooLarge, FeedCase, Feeds}
use Rattle.steps.specs.declared.feeding.Kind.{Kind}
use Rattle.steps.specs.declared.feeding.Kind.TheVariants.{Start, Body, Literals, Hints, Ids}
use Rattle.steps.specs.declared.feeding.Phase.{Phase}
use Rattle.steps.specs.declared.feeding.Fed.{Fed}
use Rattle.steps.specs.declared.feeding.Fed.TheVariants.{Addition, Deletion}
use Rattle.steps.proofs.Coding.{Told, size_same, literal_told, hint_told, id_told, keeps_long}

-- A number, and neither a number nor the 0 behind the last one

abbrev Num : ℕ → Item
Num x = Ok (Some x)

abbrev Wrong : Item
Wrong = Err (record {})

-- An item, or the 0 behind the items

module _ {A : Type 0} (item : Token → Option A) (of : ℕ → A) (on : A → Advance) (end : Advance) (t : Token) where
  item_on : (x : ℕ) → Told item of t (Num x) → item_or item on end t ≡ on (of x)
  unfolding item_or
  item_on x say = rw (say.0, item_or, say.1)

  item_end : Told item of t (Ok None) → item_or item on end t ≡ end
  unfolding item_or
  item_end say = rw (say, item_or)

  item_wrong : (e : NoLiteral) → Told item of t (Err e) → item_or item on end t ≡ unreadable
  unfolding item_or
  item_wrong e say = rw (say.0, item_or, say.1)

-- At the end of the tokens an item is wrong, and so the step is unreadable.
fed_refused : (x : Item) (at limit : ℕ) (before after : List ℕ) (kept : Kept) → x ≡ Wrong → KeepCase x at limit before after kept → kept ≡ Err Unreadable
fed_refused x at limit before after (Ok (Some next)) e h = absurd (let q = h.1 in let z : ◌≡◌ {A = ℕ} 0 1 = cc in omega arith)
fed_refused x at limit before after (Ok None) e h = absurd (let q = h.0 in let z : ◌≡◌ {A = ℕ} 0 1 = cc in omega arith)
fed_refused x at limit before after (Err Unreadable) e h = refl
fed_refused x at limit before after (Err TooShort) e h = absurd (let q = h.1 in let z : ◌≡◌ {A = ℕ} 0 1 = cc in omega arith)

-- The code of an item within a limit.
item_below : (m : ℕ) (t : Found) (x : ℕ) → item_of m t ≡ Num x → x ≤ 2 * m + 1
item_below m Nought x e = absurd (let z : ◌≡◌ {A = ℕ} 0 1 = cc in omega arith)
item_below m (Plus v) x e =
    bool_cases (leb v m)
    (λ y. let q : Num (2 * v) ≡ Num x = (rw (y, item_of) at e) in let s : 2 * v ≡ x = cc in let l = leb-true v m y in omega arith)
    (λ f. let q : Wrong ≡ Num x = (rw (f, item_of) at e) in absurd (let z : ◌≡◌ {A = ℕ} 0 1 = cc in omega arith))
item_below m (Minus v) x e =
    bool_cases (leb v m)
    (λ y. let q : Num (2 * v + 1) ≡ Num x = (rw (y, item_of) at e) in let s : 2 * v + 1 ≡ x = cc in let l = leb-true v m y in omega arith)
    (λ f. let q : Wrong ≡ Num x = (rw (f, item_of) at e) in absurd (let z : ◌≡◌ {A = ℕ} 0 1 = cc in omega arith))
item_below m LetterD x e = absurd (let z : ◌≡◌ {A = ℕ} 0 1 = cc in omega arith)
item_below m Other x e = absurd (let z : ◌≡◌ {A = ℕ} 0 1 = cc in omega arith)
item_below m Nothing x e = absurd (let z : ◌≡◌ {A = ℕ} 0 1 = cc in omega arith)

id_below : (m : ℕ) (t : Found) (x : ℕ) → id_item m t ≡ Num x → x ≤ 2 * m + 1
id_below m Nought x e = item_below m Nought x e
id_below m (Plus v) x e = item_below m (Plus v) x e
id_below m (Minus v) x e = absurd (let z : ◌≡◌ {A = ℕ} 0 1 = cc in omega arith)
id_below m LetterD x e = absurd (let z : ◌≡◌ {A = ℕ} 0 1 = cc in omega arith)
id_below m Other x e = absurd (let z : ◌≡◌ {A = ℕ} 0 1 = cc in omega arith)
id_below m Nothing x e = absurd (let z : ◌≡◌ {A = ℕ} 0 1 = cc in omega arith)

-- One number more, in what the slice has become.
placed_on : (before new now after : List ℕ) (used w x : ℕ) → used ≤ length before → Placed before used new now w → w < length now → after ≡ set now w x → Placed before used (new ++ (x ∷ [])) after (w + 1)
placed_on before new now after used w x fit p h put =
    rw put (placed_more before new now used w x fit p (omega (arith, placed_length before used new now w fit p)))

-- Nothing is placed.
pub placed_none : (before new after : List ℕ) (used end : ℕ) → new ≡ [] → Placed before used new after end → Placed before used [] after used
placed_none before new after used end e p =
    let q : Placed before used [] after end = subst (λ (l : List ℕ). Placed before used l after end) e p in
    let same : end ≡ used = omega (arith, q.count) in
    subst (Placed before used [] after) same q

pub placed_same : (before after : List ℕ) (used : ℕ) → Placed before used [] after used → after ≡ before
placed_same before after used p = p.stored ∙ take-append-drop used before

-- Literals: behind the id, or behind other literals

record LiteralsAt (cells : ℕ) (p : Partial) (t : Token) (n end many : ℕ) (lits₀ : List ℕ) (used : ℕ) (lits hints₀ hints : List ℕ) : Type 0 where
  new : List ℕ
  leads : advance p t ≡ literal_or n (map literal_of new) t
  is_id : IsId n
  fit : used ≤ length lits₀
  placed : Placed lits₀ used new lits end
  noted : Placed hints₀ 0 [] hints many
  below : AllBelow cells new

module _ (cells : ℕ) (p : Partial) (t : Token) (n end many : ℕ) (lits₀ : List ℕ) (used : ℕ) (lits hints₀ hints : List ℕ) (a : LiteralsAt cells p t n end many lits₀ used lits hints₀ hints) where
  literal_stored : (x : ℕ) (lits' : List ℕ) → Told (literal max_variable) literal_of t (Num x) → x < cells → end < length lits → lits' ≡ set lits end x
      → GoesOn cells p t (phase_of Literals n (end + 1) many) lits₀ used lits' hints₀ hints
  unfolding literal_or
  literal_stored x lits' say small room put =
      record {
        then = in_literals n (map literal_of a.new ++ (literal_of x ∷ []));
        is = a.leads ∙ item_on (literal max_variable) literal_of _ _ t x say;
        stands = record {
          new = a.new ++ (x ∷ []);
          told = [];
          is = ap (in_literals n) (sym (map_more literal_of a.new x));
          begun = (a.is_id, refl);
          fit = a.fit;
          placed = placed_on lits₀ a.new lits lits' used end x a.fit a.placed room put;
          noted = a.noted;
          below = below_more cells a.new x a.below small;
        };
      }

  literal-ended : Told (literal max_variable) literal_of t (Ok None) → GoesOn cells p t (phase_of Hints n end many) lits₀ used lits hints₀ hints
  unfolding literal_or
  literal-ended say =
      record {
        then = in_hints n (map literal_of a.new) [];
        is = a.leads ∙ item_end (literal max_variable) literal_of _ _ t say;
        stands = record { new = a.new; told = []; is = refl; begun = a.is_id; fit = a.fit; placed = a.placed; noted = a.noted; below = a.below };
      }

  literal_wrong : Told (literal max_variable) literal_of t Wrong → advance p t ≡ unreadable
  unfolding literal_or
  literal_wrong say = a.leads ∙ item_wrong (literal max_variable) literal_of _ _ t _ say

  literal_large : (x : ℕ) → Told (literal max_variable) literal_of t (Num x) → cells ≤ x → TooLarge cells p t
  unfolding literal_or
  literal_large x say h =
      record {
        large = x / 2;
        next = record {
          id = n;
          others = map literal_of a.new;
          new = literal_of x;
          is = a.leads ∙ item_on (literal max_variable) literal_of _ _ t x say;
          says = say.1;
          is_variable = variable-literal x;
        };
        above = omega arith;
      }

-- What a token says, from the item that was made of it.
told_by : {A : Type 0} (item : Token → Option A) (of : ℕ → A) (made : Found → Item) → ((t : Token) → Told item of t (made (capped t)))
    → (t : Token) (found : Found) (x : Item) → found ≡ capped t → made found ≡ x → Told item of t x
told_by item of made tells t found x cap e = subst (Told item of t) (ap made (sym cap) ∙ e) (tells t)

-- The id: what it says of the token.

abbrev IdTold : Token → Maybe ℕ → Type 0
IdTold t (Some n) = (clause_id t ≡ some n) × IsId n
IdTold t None = clause_id t ≡ none

id_told_by : (t : Token) → Proper t → IdTold t (id_within max_id (capped t))
unfolding clause_id
id_told_by nought h = refl
id_told_by (plus n) h =
    bool_cases (leb n max_id)
    (λ y. rw (id_within, le-leb 1 (min n most) (omega (arith, h)), capped_test max_id n (omega arith), y, size_same max_id n (omega arith) y)
    (rw y refl, record { positive = h; within = leb-true n max_id y }))
    (λ f. rw (id_within, le-leb 1 (min n most) (omega (arith, h)), capped_test max_id n (omega arith), f) (rw f refl))
id_told_by (minus n) h = refl
id_told_by letter_d h = refl
id_told_by other h = refl

start_next : (t : Token) (n : ℕ) → clause_id t ≡ some n → advance at_start t ≡ goes_on (got_id n)
unfolding advance
start_next t n e = rw (e, advance)

start_none : (t : Token) → clause_id t ≡ none → advance at_start t ≡ unreadable
unfolding advance
start_none t e = rw (e, advance)

-- The letter d behind the id, or another token.

is_letter_lem : (t : Token) → LetterD ≡ capped t → is_letter_d t ≡ true
is_letter_lem nought e = absurd (let z : ◌≡◌ {A = ℕ} 0 1 = cc in omega arith)
is_letter_lem (plus n) e = absurd (let z : ◌≡◌ {A = ℕ} 0 1 = cc in omega arith)
is_letter_lem (minus n) e = absurd (let z : ◌≡◌ {A = ℕ} 0 1 = cc in omega arith)
is_letter_lem letter_d e = refl
is_letter_lem other e = absurd (let z : ◌≡◌ {A = ℕ} 0 1 = cc in omega arith)

no_letter : (t : Token) → (capped t ≡ LetterD → ⊥) → is_letter_d t ≡ false
no_letter nought f = refl
no_letter (plus n) f = refl
no_letter (minus n) f = refl
no_letter letter_d f = absurd (f refl)
no_letter other f = refl

advance_letter : (n : ℕ) (t : Token) → is_letter_d t ≡ true → advance (got_id n) t ≡ goes_on (in_ids [])
unfolding advance
advance_letter n t y = rw (y, advance)

advance-literal : (n : ℕ) (t : Token) → is_letter_d t ≡ false → advance (got_id n) t ≡ literal_or n [] t
unfolding advance
advance-literal n t f = rw (f, advance)

module _ {phase : Phase} {t : Found} {cells : ℕ} {lits hints : List ℕ} where
  -- What a reader that stands at this phase knows, by the phase's kind.
  stands_is : (k : Kind) → phase.kind ≡ k → (x : Midway cells phase t lits hints) → x.sofar ≡ partial_of k phase.id x.stands.new x.stands.told
  stands_is k e x = subst (λ (k : Kind). x.sofar ≡ partial_of k phase.id x.stands.new x.stands.told) e x.stands.is

  stands_begun : (k : Kind) → phase.kind ≡ k → (x : Midway cells phase t lits hints) → Begun k phase.id x.stands.new x.stands.told
  stands_begun k e x = subst (λ (k : Kind). Begun k phase.id x.stands.new x.stands.told) e x.stands.begun

  -- Advancing from there.
  leads_from : (p : Partial) (a : Advance) (x : Midway cells phase t lits hints) → x.sofar ≡ p → advance p x.token ≡ a → advance x.sofar x.token ≡ a
  leads_from p a x e q = ap (λ (p : Partial). advance p x.token) e ∙ q

  -- Nothing is stored yet, neither literals nor hints.
  none_placed : (x : Midway cells phase t lits hints) → x.stands.new ≡ [] → Placed x.lits₀ x.used [] lits phase.end
  none_placed x e = subst (λ (l : List ℕ). Placed x.lits₀ x.used l lits phase.end) e x.stands.placed

  none-noted : (x : Midway cells phase t lits hints) → x.stands.told ≡ [] → Placed x.hints₀ 0 [] hints 0
  none-noted x e =
      let p : Placed x.hints₀ 0 [] hints phase.many = subst (λ (l : List ℕ). Placed x.hints₀ 0 l hints phase.many) e x.stands.noted in
      subst (λ (k : ℕ). Placed x.hints₀ 0 [] hints k) p.count p

  -- What was kept decides, and at the end of the tokens nothing was.
  feeds_by : (x : Item) (place limit : ℕ) (before after lits' hints' : List ℕ) (fed : Kept → Outcome) (r : Outcome) → FedBy x place limit before after fed r
      → ((kept : Kept) → KeepCase x place limit before after kept → FeedCase phase t cells lits hints lits' hints' (fed kept)) → (t ≡ Nothing → x ≡ Wrong)
      → fed (Err Unreadable) ≡ Err Unreadable → length lits' ≡ length lits → length hints' ≡ length hints → Feeds phase t cells lits hints lits' hints' r
  feeds_by x place limit before after lits' hints' fed r by cases ending refused l h =
      record {
        case = subst (FeedCase phase t cells lits hints lits' hints') (sym by.is) (cases by.kept by.keeps.case);
        at_end_lem = λ q. by.is ∙ (ap fed (fed_refused x place limit before after by.kept (ending q) by.keeps.case) ∙ refused);
        lits_long = l;
        hints_long = h;
      }

  -- Literals

  -- A reader that stands at this phase and may take a literal.
  abbrev TakesLiteral : Midway cells phase t lits hints → Type 0
  TakesLiteral x = LiteralsAt cells x.sofar x.token phase.id phase.end 0 x.lits₀ x.used lits x.hints₀ hints

  module _ (lits' : List ℕ) (r : Outcome) (at : (x : Midway cells phase t lits hints) → TakesLiteral x)
      (fed : FedBy (item_of max_variable t) phase.end cells lits lits' (literal_fed phase) r) where
    literal-says : (y : Item) → item_of max_variable t ≡ y → (x : Midway cells phase t lits hints) → Told (literal max_variable) literal_of x.token y
    literal-says y q x = told_by (literal max_variable) literal_of (item_of max_variable) literal_told x.token t y x.cap q

    literal_case : (kept : Kept) → KeepCase (item_of max_variable t) phase.end cells lits lits' kept → FeedCase phase t cells lits hints lits' hints (literal_fed phase kept)
    unfolding literal_fed
    literal_case (Ok (Some next)) h =
        rw h.5 (λ x. literal_stored cells _ _ _ _ _ _ _ lits _ hints (at x) h.0 lits' (literal-says (Num h.0) h.1 x) h.2 h.3 h.4)
    literal_case (Ok None) h = rw h.1 (λ x. literal-ended cells _ _ _ _ _ _ _ lits _ hints (at x) (literal-says (Ok None) h.0 x))
    literal_case (Err Unreadable) h = ((λ x. literal_wrong cells _ _ _ _ _ _ _ lits _ hints (at x) (literal-says Wrong h.0 x)), h.1, refl)
    literal_case (Err TooShort) h =
        ((λ x. ⊎_elim (λ l. inr (inr (literal_large cells _ _ _ _ _ _ _ lits _ hints (at x) h.0 (literal-says (Num h.0) h.1 x) l))) (λ f. inl f) h.2), h.3, refl)

    literal_feeds : Feeds phase t cells lits hints lits' hints r
    unfolding literal_fed
    literal_feeds = feeds_by _ _ _ lits lits' lits' hints (literal_fed phase) r fed literal_case (λ q. rw q) refl (keeps_long _ _ _ _ _ _ fed.keeps) refl

  in_literals_lem : phase.kind ≡ Literals → (x : Midway cells phase t lits hints) → TakesLiteral x
  unfolding advance
  in_literals_lem e x =
      let s = x.stands in
      let b = stands_begun Literals e x in
      record { new = s.new; leads = leads_from _ _ x (stands_is Literals e x) refl; is_id = b.0; fit = s.fit; placed = s.placed; noted = none-noted x b.1; below = s.below }

  pub feeds_literal : {lits' : List ℕ} {r : Outcome} → phase.kind ≡ Literals → FedBy (item_of max_variable t) phase.end cells lits lits' (literal_fed phase) r
      → Feeds phase t cells lits hints lits' hints r
  feeds_literal {lits'} {r} e fed = literal_feeds lits' r (in_literals_lem e) fed

  -- Behind the id

  in_body : phase.kind ≡ Body → (t ≡ LetterD → ⊥) → (x : Midway cells phase t lits hints) → TakesLiteral x
  in_body e f x =
      let b = stands_begun Body e x in
      record {
        new = [];
        leads = leads_from _ _ x (stands_is Body e x) (advance-literal phase.id x.token (no_letter x.token (λ q. f (x.cap ∙ q))));
        is_id = b.0;
        fit = x.stands.fit;
        placed = none_placed x b.1;
        noted = none-noted x b.2;
        below = tt;
      }

  in_deletion : phase.kind ≡ Body → t ≡ LetterD → (x : Midway cells phase t lits hints)
      → GoesOn cells x.sofar x.token (phase_of Ids phase.id phase.end 0) x.lits₀ x.used lits x.hints₀ hints
  in_deletion e q x =
      let b = stands_begun Body e x in
      record {
        then = in_ids [];
        is = leads_from _ _ x (stands_is Body e x) (advance_letter phase.id x.token (is_letter_lem x.token (sym q ∙ x.cap)));
        stands = record { new = []; told = []; is = refl; begun = refl; fit = x.stands.fit; placed = none_placed x b.1; noted = none-noted x b.2; below = tt };
      }

  pub feeds_body : {lits' : List ℕ} {r : Outcome} → phase.kind ≡ Body → FedBody phase t cells lits lits' r → Feeds phase t cells lits hints lits' hints r
  feeds_body {lits'} {r} e fed = go fed.letter fed.case
    where
      go : (b : Bool) → BodyCase b phase t cells lits lits' r → Feeds phase t cells lits hints lits' hints r
      go true h =
          rw (h.1, h.2) (record {
            case = in_deletion e h.0;
            at_end_lem = λ q. absurd (let w : LetterD ≡ Nothing = sym h.0 ∙ q in let z : ◌≡◌ {A = ℕ} 0 1 = cc in omega arith);
            lits_long = refl;
            hints_long = refl;
          })
      go false h = literal_feeds lits' r (in_body e h.0) h.1

  -- The start

  pub feeds_start : {r : Outcome} → phase.kind ≡ Start → FedStart phase t r → Feeds phase t cells lits hints lits hints r
  feeds_start {r} e fed =
      record {
        case = subst (FeedCase phase t cells lits hints lits hints) (sym fed.is) (cases (id_within max_id t) refl);
        at_end_lem = λ q. fed.is ∙ rw q;
        lits_long = refl;
        hints_long = refl;
      }
    where
      says : (o : Maybe ℕ) → id_within max_id t ≡ o → (x : Midway cells phase t lits hints) → IdTold x.token o
      says o q x = subst (IdTold x.token) (ap (id_within max_id) (sym x.cap) ∙ q) (id_told_by x.token x.proper)

      cases : (o : Maybe ℕ) → id_within max_id t ≡ o → FeedCase phase t cells lits hints lits hints (start_fed phase o)
      cases (Some n) q =
          λ x.
          let b = stands_begun Start e x in
          let say = says (Some n) q x in
          record {
            then = got_id n;
            is = leads_from _ _ x (stands_is Start e x) (start_next x.token n say.0);
            stands = record { new = []; told = []; is = refl; begun = (say.1, refl, refl); fit = x.stands.fit; placed = none_placed x b.0; noted = none-noted x b.1; below = tt };
          }
      cases None q = ((λ x. leads_from _ _ x (stands_is Start e x) (start_none x.token (says None q x))), refl, refl)

  -- Hints, or ids to delete: `item` reads such tokens, `made` says what is made of one, `of` what a code stands for, and `on`
  -- and `close` what one more, and their end, make of the step.

  module _ {A : Type 0} (item : Token → Option A) (of : ℕ → A) (made : Found → Item) (tells : (t : Token) → Told item of t (made (capped t)))
      (below : (code : ℕ) → made t ≡ Num code → code < codes) (ending : t ≡ Nothing → made t ≡ Wrong)
      (on : Midway cells phase t lits hints → A → Advance) (close : Midway cells phase t lits hints → Advance)
      (leads : (x : Midway cells phase t lits hints) → advance x.sofar x.token ≡ item_or item (on x) (close x) x.token)
      (goes : (x : Midway cells phase t lits hints) (code : ℕ) → on x (of code) ≡ goes_on (partial_of phase.kind phase.id x.stands.new (x.stands.told ++ (code ∷ []))))
      (begun : (x : Midway cells phase t lits hints) (code : ℕ) → Begun phase.kind phase.id x.stands.new (x.stands.told ++ (code ∷ [])))
      (whole : Fed) (closed : ((x : Midway cells phase t lits hints) → advance x.sofar x.token ≡ close x) → FeedCase phase t cells lits hints lits hints (Ok whole))
      (hints' : List ℕ) where
    code-says : (y : Item) → made t ≡ y → (x : Midway cells phase t lits hints) → Told item of x.token y
    code-says y q x = told_by item of made tells x.token t y x.cap q

    code_stored : (code : ℕ) → made t ≡ Num code → phase.many < length hints → hints' ≡ set hints phase.many code → (x : Midway cells phase t lits hints)
        → GoesOn cells x.sofar x.token (phase_of phase.kind phase.id phase.end (phase.many + 1)) x.lits₀ x.used lits x.hints₀ hints'
    code_stored code q room put x =
        let s = x.stands in
        record {
          then = partial_of phase.kind phase.id s.new (s.told ++ (code ∷ []));
          is = leads x ∙ (item_on item of (on x) (close x) x.token code (code-says (Num code) q x) ∙ goes x code);
          stands = record {
            new = s.new;
            told = s.told ++ (code ∷ []);
            is = refl;
            begun = begun x code;
            fit = s.fit;
            placed = s.placed;
            noted = placed_on x.hints₀ s.told hints hints' 0 phase.many code (omega arith) s.noted room put;
            below = s.below;
          };
        }

    code_case : (kept : Kept) → KeepCase (made t) phase.many codes hints hints' kept → FeedCase phase t cells lits hints lits hints' (code_fed phase whole kept)
    unfolding code_fed
    code_case (Ok (Some next)) h = rw h.5 (code_stored h.0 h.1 h.3 h.4)
    code_case (Ok None) h =
        subst
        (λ (l : List ℕ). FeedCase phase t cells lits hints lits l (Ok whole))
        (sym h.1)
        (closed (λ x. leads x ∙ item_end item of (on x) (close x) x.token (code-says (Ok None) h.0 x)))
    code_case (Err Unreadable) h = ((λ x. leads x ∙ item_wrong item of (on x) (close x) x.token _ (code-says Wrong h.0 x)), refl, h.1)
    code_case (Err TooShort) h = ((λ x. ⊎_elim (λ l. absurd (omega (arith, below h.0 h.1, l))) (λ f. inr (inl f)) h.2), refl, h.3)

    code_feeds : (r : Outcome) → FedBy (made t) phase.many codes hints hints' (code_fed phase whole) r → Feeds phase t cells lits hints lits hints' r
    unfolding code_fed
    code_feeds r fed = feeds_by _ _ _ hints hints' lits hints' (code_fed phase whole) r fed code_case ending refl refl (keeps_long _ _ _ _ _ _ fed.keeps)

  pub feeds_hint : {hints' : List ℕ} {r : Outcome} {y : Item} → phase.kind ≡ Hints → y ≡ item_of max_id t
      → FedBy y phase.many codes hints hints' (code_fed phase (Addition phase.id phase.end phase.many)) r → Feeds phase t cells lits hints lits hints' r
  unfolding advance
  feeds_hint {hints'} {r} {y} e is fed =
      code_feeds hint hint_of (item_of max_id) hint_told (λ code q. let l = item_below max_id t code q in omega (arith, l)) (λ q. rw q)
      (λ x h. goes_on (in_hints phase.id (map literal_of x.stands.new) (map hint_of x.stands.told ++ (h ∷ []))))
      (λ x. ends (add phase.id (map literal_of x.stands.new) (map hint_of x.stands.told)))
      (λ x. leads_from _ _ x (stands_is Hints e x) refl)
      (λ x code. ap goes_on (rw e (ap (in_hints phase.id (map literal_of x.stands.new)) (sym (map_more hint_of x.stands.told code)))))
      (λ x code. rw e (stands_begun Hints e x))
      (Addition phase.id phase.end phase.many)
      (λ leads x. record { new = x.stands.new; told = x.stands.told; is = leads x; is_id = stands_begun Hints e x; placed = x.stands.placed; noted = x.stands.noted; below = x.stands.below })
      hints' r (subst (λ (z : Item). FedBy z phase.many codes hints hints' (code_fed phase (Addition phase.id phase.end phase.many)) r) is fed)

  pub feeds_id : {hints' : List ℕ} {r : Outcome} {y : Item} → phase.kind ≡ Ids → y ≡ id_item max_id t
      → FedBy y phase.many codes hints hints' (code_fed phase (Deletion phase.many)) r → Feeds phase t cells lits hints lits hints' r
  unfolding advance
  feeds_id {hints'} {r} {y} e is fed =
      code_feeds clause_id half (id_item max_id) id_told (λ code q. let l = id_below max_id t code q in omega (arith, l)) (λ q. rw q)
      (λ x n. goes_on (in_ids (map half x.stands.told ++ (n ∷ []))))
      (λ x. ends (delete (map half x.stands.told)))
      (λ x. leads_from _ _ x (stands_is Ids e x) refl)
      (λ x code. ap goes_on (rw e (ap in_ids (sym (map_more half x.stands.told code)))))
      (λ x code. rw e (stands_begun Ids e x))
      (Deletion phase.many)
      (λ leads x.
      record {
        told = x.stands.told;
        is = leads x;
        noted = x.stands.noted;
        same = placed_same x.lits₀ lits x.used (placed_none x.lits₀ x.stands.new lits x.used phase.end (stands_begun Ids e x) x.stands.placed);
      })
      hints' r (subst (λ (z : Item). FedBy z phase.many codes hints hints' (code_fed phase (Deletion phase.many)) r) is fed)
