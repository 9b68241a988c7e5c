-- Reading clauses one after the other into the store: the state between two clauses. Assumes nothing.
use Rattle.std.proofs.Common.{ℕ, zero, suc, ◌+◌, ◌*◌, ◌-◌, ◌≤◌, ◌<◌, ◌≡◌, List, [], ◌∷◌, ◌++◌, map, ltb, length, take, drop, get_or}
use Rattle.std.proofs.Common.{refl, sym, ap, subst, ◌∙◌, inl, inr, append_assoc, append-nil, arith, ltb-true, ltb-false, length-append, length-drop, get_or-take, take_at, drop_at, length-take-le, get_or-append-add}
use Rattle.std.proofs.Math.Option.{Option, none, some}
use Rattle.std.proofs.Math.ListN.{length-map, get_or-append}
use Rattle.std.proofs.Math.Seq.{slice, take-append-add}
use Rattle.meaning.specs.Meaning.{Clause}
use Rattle.meaning.proofs.Truth.{bool_cases}
use Rattle.rules.specs.Tools.{◌>>=◌}
use Rattle.rules.specs.Text.{Token, tokens, literal}
use Rattle.rules.specs.Formula.{items, read_clauses}
use Rattle.rules.specs.Answers.{numbered}
use Rattle.rules.proofs.Running.{items-count}
use Rattle.clauses.specs.Codes.{literal_of}
use Rattle.clauses.specs.Store.{written, Holds}
use Rattle.clauses.proofs.Heads.{written-long}
use Rattle.clauses.proofs.Holding.{holds-append, holds_literals, numbered_more}
use Rattle.std.specs.Prelude.{Ok, Err}
use Rattle.formula.specs.Body.{Placed, AllBelow, ClauseDone, ClauseStopped, ReadsClause, Closes, BodyDone, BodyStopped, ReadsBody}
use Rattle.formula.specs.declared.body.Progress.{Progress}
use Rattle.formula.specs.declared.Fault.{Fault}
use Rattle.formula.specs.declared.Fault.TheVariants.{Unreadable, TooShort}
use Rattle.formula.specs.declared.Stopped.{Stopped}

-- What was placed

module _ (before : List ℕ) (used : ℕ) (new after : List ℕ) (end : ℕ) (fit : used ≤ length before) (p : Placed before used new after end) where
  front_long : length (take used before) ≡ used
  front_long = length-take-le used before fit

  pub placed_front : take used after ≡ take used before
  placed_front = rw p.stored (take_at (take used before) (new ++ drop end before) used front_long)

  pub placed_length : length after ≡ length before
  placed_length = rw (p.stored, length-append, length-append, front_long) (omega (arith, p.count, p.room, length-drop end before))

  pub placed_slice : slice used end after ≡ new
  placed_slice =
      let split : end ≡ length (take used before) + length new = omega (arith, front_long, p.count) in
      let upto : take end after ≡ take used before ++ new =
      rw (p.stored, split) (take-append-add (take used before) (new ++ drop (length (take used before) + length new) before) (length new) ∙ ap (λ (l : List ℕ). take used before ++ l)
      (take_at new (drop (length (take used before) + length new) before) (length new) refl)) in
      ap (drop used) upto ∙ drop_at (take used before) new used front_long

  -- Every number up to `end` is one that was there up to `used`, or a new one.
  all_below : (m : ℕ) (xs : List ℕ) (i : ℕ) → AllBelow m xs → i < length xs → get_or xs i 0 < m
  all_below m [] i a h = absurd (omega arith)
  all_below m (x ∷ xs) zero a h = a.0
  all_below m (x ∷ xs) (suc i) a h = all_below m xs i a.1 (omega arith)

  pub placed_below : (m : ℕ) → AllBelow m new → ((i : ℕ) → i < used → get_or before i 0 < m) → (i : ℕ) → i < end → get_or after i 0 < m
  placed_below m a old i h =
      bool_cases (ltb i used)
      (λ y. let l = ltb-true i used y in
      let there : i < length (take used before) = omega (arith, front_long) in
      rw (p.stored, get_or-append (take used before) (new ++ drop end before) 0 i there, get_or-take used before i 0 l) (old i l))
      (λ n. let g = ltb-false i used n in
      let place : i ≡ length (take used before) + (i - used) = omega (arith, front_long) in
      let inside : i - used < length new = omega (arith, p.count) in
      let is : get_or after i 0 ≡ get_or new (i - used) 0 =
      ap (λ (l : List ℕ). get_or l i 0) p.stored
      ∙ ap (λ (k : ℕ). get_or (take used before ++ (new ++ drop end before)) k 0) place
      ∙ get_or-append-add (take used before) (new ++ drop end before) (i - used) 0
      ∙ get_or-append new (drop end before) 0 (i - used) inside in
      rw is (all_below m new (i - used) a inside))

-- Clauses in front of those that are read from here on.
pub afore : List Clause → Option (List Clause × List Token) → Option (List Clause × List Token)
afore cs none = none
afore cs (some r) = some (cs ++ r.0, r.1)

afore_none : (o : Option (List Clause × List Token)) → afore [] o ≡ o
unfolding afore
afore_none none = refl
afore_none (some r) = refl

afore_more : (v m : ℕ) (ts rest : List Token) (cs : List Clause) (c : Clause) → items (literal v) ts ≡ some (c, rest)
    → afore cs (read_clauses v (suc m) ts) ≡ afore (cs ++ (c ∷ [])) (read_clauses v m rest)
unfolding read_clauses afore
afore_more v m ts rest cs c e = rw e (go (read_clauses v m rest))
  where
    go : (o : Option (List Clause × List Token)) → afore cs (o >>= (λ (ds, r). some (c ∷ ds, r))) ≡ afore (cs ++ (c ∷ [])) o
    go none = refl
    go (some r) = ap (λ (l : List Clause). some (l, r.1)) (sym (append_assoc cs (c ∷ []) r.0))

afore_bad : (v m : ℕ) (ts : List Token) (cs : List Clause) → items (literal v) ts ≡ none → afore cs (read_clauses v (suc m) ts) ≡ none
unfolding read_clauses afore
afore_bad v m ts cs e = rw e

afore_done : (v : ℕ) (ts : List Token) (cs : List Clause) → afore cs (read_clauses v 0 ts) ≡ some (cs, ts)
unfolding read_clauses afore
afore_done v ts cs = ap (λ (l : List Clause). some (l, ts)) (append-nil cs)

-- Where the reader stands between two clauses: k of them are in the store, and what is left says what all says.
pub record Filling (v c : ℕ) (s : List ℕ) (at : ℕ) (heads₀ lits₀ heads lits : List ℕ) (i used k : ℕ) : Type 0 where
  pub clauses : List Clause
  pub many : length clauses ≡ k
  pub holds : Holds heads lits k used k (numbered 0 clauses)
  pub below : (j : ℕ) → j < used → get_or lits j 0 < 2 * v + 2
  pub left : read_clauses v c (tokens (drop at s)) ≡ afore clauses (read_clauses v (c - k) (tokens (drop i s)))
  pub few : used + k + length (tokens (drop i s)) ≤ length (tokens (drop at s))
  pub heads_long : length heads ≡ length heads₀
  pub lits_long : length lits ≡ length lits₀
  pub later : at ≤ i
  pub within : i ≤ length s
  pub so_far : k ≤ c

pub filling_start : (v c : ℕ) (s : List ℕ) (at : ℕ) (heads lits : List ℕ) → at ≤ length s → Holds heads lits 0 0 0 [] → Filling v c s at heads lits heads lits at 0 0
unfolding numbered
filling_start v c s at heads lits h e =
    let z : c - 0 ≡ c = omega arith in
    record {
      clauses = [];
      many = refl;
      holds = e;
      below = λ j l. absurd (omega arith);
      left = rw z (sym (afore_none (read_clauses v c (tokens (drop at s)))));
      few = omega arith;
      heads_long = refl;
      lits_long = refl;
      later = omega arith;
      within = h;
      so_far = omega arith;
    }

module _ (v c : ℕ) (s : List ℕ) (at : ℕ) (heads₀ lits₀ heads lits : List ℕ) (i used k : ℕ) (f : Filling v c s at heads₀ lits₀ heads lits i used k) where
  pub filling_done : c ≤ k → BodyDone v c s at heads lits i used
  filling_done h =
      let all : k ≡ c = omega (arith, f.so_far) in
      let no_more : c - k ≡ 0 = omega arith in
      record {
        clauses = f.clauses;
        is = f.left ∙ rw no_more (afore_done v (tokens (drop i s)) f.clauses);
        holds = rw (← all) f.holds;
        below = f.below;
        few = omega (arith, f.few);
        later = f.later;
        within = f.within;
      }

  module _ (more : k < c) (lits' : List ℕ) where
    one_more : c - k ≡ suc (c - (k + 1))
    one_more = omega arith

    stopped : (why : Fault) (next end closed : ℕ) → ClauseStopped v s i lits used lits' next end why → closed ≡ k → BodyStopped v c s at heads₀ lits₀ next end closed why
    stopped Unreadable next end closed b q =
        record {
          is = f.left ∙ rw one_more (afore_bad v (c - (k + 1)) (tokens (drop i s)) f.clauses b.is);
          few = omega (arith, f.few, b.few, b.placed.count);
          later = omega (arith, f.later, b.later);
          within = b.within;
        }
    stopped TooShort next end closed b q =
        record {
          short = inl (omega (arith, b.short, f.few, f.lits_long));
          few = omega (arith, f.few, b.few, b.placed.count);
          later = omega (arith, f.later, b.later);
          within = b.within;
        }

    pub filling_stop : (heads' : List ℕ) (stop : Stopped) → ReadsClause v s i lits used k lits' (Err stop) → ReadsBody v c s at heads₀ lits₀ heads' lits' (Err stop)
    filling_stop heads' stop h = record { case = stopped stop.fault stop.at stop.used stop.closed h.case.0 h.case.1 }

    module _ (p : Progress) (h : ReadsClause v s i lits used k lits' (Ok p)) where
      done : ClauseDone v s i lits used lits' p.next p.used
      done = h.case

      fit : used ≤ length lits
      fit = f.holds.store.fits

      -- The clause took a token for each literal and one for its 0.
      fewer : length (tokens (drop p.next s)) + suc (length done.new) ≡ length (tokens (drop i s))
      fewer =
          let count = items-count (literal v) (tokens (drop i s)) (map literal_of done.new, tokens (drop p.next s)) done.is in
          omega (arith, count, length-map done.new literal_of)

      pub filling_full : (heads' : List ℕ) (stop : Stopped) → Closes heads k p heads' (Err stop) → ReadsBody v c s at heads₀ lits₀ heads' lits' (Err stop)
      filling_full heads' stop cl =
          rw cl.case.2
          (record {
            case = record {
              short = inr (omega (arith, cl.case.0, f.few, f.heads_long, fewer));
              few = omega (arith, f.few, fewer, done.placed.count);
              later = omega (arith, f.later, done.later);
              within = done.within;
            };
          })

      -- The store with the literals of the clause behind the others.
      holds_lits : Holds heads lits' k used k (numbered 0 f.clauses)
      holds_lits =
          holds_literals heads lits k used k (numbered 0 f.clauses) f.holds lits'
          (placed_front lits used done.new lits' p.used fit done.placed)
          (placed_length lits used done.new lits' p.used fit done.placed)

      abbrev clause : Clause
      clause = map literal_of done.new

      pub filling_on : (heads' : List ℕ) → Closes heads k p heads' (Ok tt) → Filling v c s at heads₀ lits₀ heads' lits' p.next p.used (k + 1)
      filling_on heads' cl =
          let closed = cl.case in
          let long = placed_length lits used done.new lits' p.used fit done.placed in
          let held = holds-append heads lits' k used k (numbered 0 f.clauses) holds_lits (k + 1) p.used (omega arith) (omega (arith, done.placed.count)) (omega (arith, long, done.placed.room)) closed.0 in
          let id : suc (0 + length f.clauses) ≡ k + 1 = omega (arith, f.many) in
          let live : numbered 0 f.clauses ++ ((k + 1, map literal_of (slice used p.used lits')) ∷ []) ≡ numbered 0 (f.clauses ++ (clause ∷ [])) =
          ap (λ (l : List ℕ). numbered 0 f.clauses ++ ((k + 1, map literal_of l) ∷ [])) (placed_slice lits used done.new lits' p.used fit done.placed)
          ∙ ap (λ (n : ℕ). numbered 0 f.clauses ++ ((n, clause) ∷ [])) (sym id)
          ∙ sym (numbered_more 0 f.clauses clause) in
          record {
            clauses = f.clauses ++ (clause ∷ []);
            many = rw length-append (omega (arith, f.many));
            holds = rw closed.1 (subst (Holds (written heads k (2 * (k + 1)) p.used) lits' (k + 1) p.used (k + 1)) live held);
            below = placed_below lits used done.new lits' p.used fit done.placed (2 * v + 2) done.below f.below;
            left = f.left ∙ rw one_more (afore_more v (c - (k + 1)) (tokens (drop i s)) (tokens (drop p.next s)) f.clauses clause done.is);
            few = omega (arith, f.few, fewer, done.placed.count);
            heads_long = rw (closed.1, written-long heads k (2 * (k + 1)) p.used) f.heads_long;
            lits_long = long ∙ f.lits_long;
            later = omega (arith, f.later, done.later);
            within = done.within;
            so_far = omega arith;
          }
