-- Laws of one hint: its clause is found in the store, and looked at. Assumes nothing.
use Rattle.std.proofs.Common.{ℕ, ◌+◌, ◌-◌, ◌*◌, ◌^◌, ◌<◌, ◌≤◌, ◌≡◌, refl, sym, ap, subst, ◌∙◌, ⊎_elim, List, map, arith, length, get_or, take, drop, get_or-drop, get_or-take, pow_mono, pow-add}
use Rattle.std.specs.Prelude.{Option, Some, None}
use Rattle.std.proofs.Math.ListN.{length-map}
use Rattle.std.proofs.Math.Seq.{slice, length-slice}
use Rattle.rules.specs.Judging.{look_at}
use Rattle.clauses.specs.Codes.{literal_of, half}
use Rattle.clauses.specs.Store.{id_at, start_at, Placed, clause_at, live_of, Holds}
use Rattle.clauses.proofs.Parts.{part_slice}
use Rattle.clauses.specs.Finding.{Finds, AtMostHalvings}
use Rattle.clauses.proofs.Entries.{clause_is, start-below}
use Rattle.clauses.proofs.Holding.{holds_found, holds_lacks}
use Rattle.clauses.proofs.Numbers.{cut}
use Rattle.assignment.specs.Marks.{Marked}
use Rattle.assignment.specs.Sight.{sight_of, Looks}
use Rattle.assignment.specs.declared.Look.{Look as Sight}
use Rattle.assignment.specs.declared.Look.TheVariants.{AllFalse, Forces, Neither}
use Rattle.judge.specs.Hints.{Ready, Lookable, Seen, HintCase, Hints, ids_in}

-- Parts of lists

slice_at : (s : List ℕ) (a e i : ℕ) → a + i < e → get_or (slice a e s) i 0 ≡ get_or s (a + i) 0
slice_at s a e i h = get_or-drop a (take e s) i 0 ∙ get_or-take e s (a + i) 0 h

-- How often a number can be halved

pub halvings_below : (n turns b : ℕ) → AtMostHalvings n turns → n ≤ 2 ^ b → turns ≤ b
halvings_below n turns b h small =
    ⊎_elim
    (λ few.
    ⊎_elim
    (λ more. absurd (omega (arith, few, pow_mono {i = 1 + b} {j = turns} (omega arith), pow-add 2 1 b)))
    (λ fine. fine)
    (cut b turns))
    (λ none. omega arith)
    h

pub halvings_short : (n turns : ℕ) → AtMostHalvings n turns → 2 * n < 2 ^ 64 → turns < 64
halvings_short n turns h small =
    let most = halvings_below n turns 63 h (omega arith) in omega arith

-- A clause of the store can be looked at.

module _ (heads lits : List ℕ) (n : ℕ) (marks : List ℕ) (ready : Ready heads lits n marks) where
  holds : Holds heads lits n ready.used ready.last (live_of heads lits n)
  holds = record { store = ready.store; same = refl }

  module _ (place : ℕ) (h : place < n) where
    below_used : start_at heads (place + 1) ≤ ready.used
    below_used = start-below heads lits n ready.used ready.last ready.store (place + 1) (omega arith)

    pub ready_lookable : Lookable heads lits marks place
    ready_lookable = record {
      room = omega (arith, ready.store.room);
      forward = ready.store.ordered place h;
      inside = omega (arith, below_used, ready.store.fits);
      known = record {
        below = λ i l.
            let short : start_at heads place + i < start_at heads (place + 1) = omega (arith, l, long) in
            rw (slice_at lits (start_at heads place) (start_at heads (place + 1)) i short) (ready.known (start_at heads place + i) (omega (arith, below_used)));
      };
      paired = ready.paired;
    }
      where
        long : length (slice (start_at heads place) (start_at heads (place + 1)) lits) ≡ start_at heads (place + 1) - start_at heads place
        long = length-slice (start_at heads place) (start_at heads (place + 1)) lits (omega (arith, below_used, ready.store.fits))

    module _ (id : ℕ) (has : id_at heads place ≡ 2 * id) where
      is_clause : clause_at heads lits place ≡ map literal_of (slice (start_at heads place) (start_at heads (place + 1)) lits)
      is_clause = clause_is heads lits place (start_at heads place) (start_at heads (place + 1)) refl refl

      seen : (literals : ℕ) → literals ≡ start_at heads (place + 1) - start_at heads place → (s : Sight) → Looks (slice (start_at heads place) (start_at heads (place + 1)) lits) marks s
          → Seen (live_of heads lits n) marks id literals (sight_of s)
      seen literals e s l = record {
        clause = clause_at heads lits place;
        found = holds_found heads lits n ready.used ready.last (live_of heads lits n) holds place id h has;
        many = ap length is_clause ∙ (length-map (slice (start_at heads place) (start_at heads (place + 1)) lits) literal_of ∙ (length-slice (start_at heads place) (start_at heads (place + 1)) lits ready_lookable.inside ∙ sym e));
        says = λ a shows. ap (look_at a) is_clause ∙ l.says a shows;
      }

      hint_case : (literals : ℕ) → literals ≡ start_at heads (place + 1) - start_at heads place → (s : Sight) → Looks (slice (start_at heads place) (start_at heads (place + 1)) lits) marks s
          → HintCase (live_of heads lits n) marks id literals (Some s)
      hint_case literals e AllFalse l = seen literals e AllFalse l
      hint_case literals e (Forces x) l = record {
        seen = seen literals e (Forces x) l;
        known = rw l.forced.stands.is at (ready_lookable.known.below l.forced.stands.place l.forced.stands.inside);
        free = l.forced.free;
      }
      hint_case literals e Neither l = seen literals e Neither l

  -- The answers of `hint`.
  module _ (id : ℕ) (found : Option ℕ) (turns : ℕ) (in_store : Finds heads n id found) (few : AtMostHalvings n turns) (long : length heads < 2 ^ 64) where
    found_short : turns < 64
    found_short = halvings_short n turns few (omega (arith, ready.store.room))

    pub hint_none : found ≡ None → Hints heads lits n marks id None turns
    hint_none e = record {
      search = turns;
      literals = 0;
      halvings = few;
      short = found_short;
      few = omega arith;
      counted = omega arith;
      case = (holds_lacks heads lits n ready.used ready.last (live_of heads lits n) holds id (subst (Finds heads n id) e in_store), refl);
    }

    module _ (place : ℕ) (e : found ≡ Some place) where
      found_at : (place < n) × (id_at heads place ≡ 2 * id)
      found_at = subst (Finds heads n id) e in_store

      pub found_lookable : Lookable heads lits marks place
      found_lookable = ready_lookable place found_at.0

      pub hint_some : (clause : List ℕ) → clause ≡ slice (start_at heads place) (start_at heads (place + 1)) lits → (s : Sight) → Looks clause marks s
          → Hints heads lits n marks id (Some s) (turns + length clause)
      hint_some clause is s l = record {
        search = turns;
        literals = length clause;
        halvings = few;
        short = found_short;
        few = omega (arith, long_is, found_lookable.inside);
        counted = refl;
        case = hint_case place found_at.0 id found_at.1 (length clause) long_is s (rw is at l);
      }
        where
          long_is : length clause ≡ start_at heads (place + 1) - start_at heads place
          long_is = ap length is ∙ length-slice (start_at heads place) (start_at heads (place + 1)) lits found_lookable.inside

-- The clause at a place, as `View::clause` answers it.
module _ (heads lits marks : List ℕ) (place : ℕ) (l : Lookable heads lits marks place) where
  pub lookable_placed : Placed heads lits place
  lookable_placed = record { room = l.room; ordered = l.forward; inside = l.inside }

  pub there_known : (clause : List ℕ) → clause ≡ slice (start_at heads place) (start_at heads (place + 1)) lits → Marked clause marks
  there_known clause is = rw is l.known

-- The ids of a part of the hints.
pub ids_part : (hints : List ℕ) (from to : ℕ) → from ≤ to → to ≤ length hints → map half (take (to - from) (drop from hints)) ≡ ids_in hints from to
unfolding ids_in
ids_part hints from to forward inside = ap (map half) (part_slice hints from to forward inside)
