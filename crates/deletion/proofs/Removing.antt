-- Deleting one clause, and the run over the ids. Assumes nothing.
use Rattle.std.proofs.Common.{ℕ, ◌+◌, ◌-◌, ◌*◌, ◌/◌, ◌%◌, ◌^◌, ◌<◌, ◌≤◌, ◌≡◌, List, [], ◌∷◌, map, length, get_or, drop, Option, Some, None, Ok, Err}
use Rattle.std.proofs.Common.{refl, ap, subst, ◌∙◌, ⊎_elim, arith, add-one, drop_of_length-le, pow_mono, drop-cons}
use Rattle.std.proofs.Math.Option.{none, some}
use Rattle.meaning.specs.Meaning.{Clause}
use Rattle.rules.specs.Judging.{Live, State, refused, goes_on, deletion_not_live, find, remove, judge_deletion}
use Rattle.clauses.specs.Codes.{half}
use Rattle.clauses.specs.Counting.{full, Reaches, Counts}
use Rattle.clauses.specs.Store.{id_at, start_at, marked, live_of, clause_at, Store, Holds}
use Rattle.clauses.specs.Finding.{Searchable, Finds, AtMostHalvings}
use Rattle.clauses.proofs.Numbers.{cut}
use Rattle.clauses.proofs.Heads.{marked-long, marked_starts}
use Rattle.clauses.proofs.Counting.{reaches_less}
use Rattle.clauses.proofs.Holding.{store_searchable, holds_found, holds_lacks, holds-delete}
use Rattle.deletion.specs.Deleting.{Headed, dead_of, Removable, Deletable, OneTaken, Gone, Missing, OneCase, DeletesOne, Counted, state_of, Deletes}
use Rattle.deletion.proofs.Leavings.{dead_below, dead_more}

-- The heads of a store are such heads.
pub store_headed : (heads lits : List ℕ) (n used last : ℕ) → Store heads lits n used last → used < 2 ^ 63 → Headed heads n
store_headed heads lits n used last s h = record { lits = lits; used = used; last = last; store = s; small = h }

-- They stay so when a clause is deleted.
headed_on : (heads : List ℕ) (n : ℕ) → Headed heads n → (k id : ℕ) → k < n → id_at heads k ≡ 2 * id → Headed (marked heads k) n
headed_on heads n h k id l e =
    let held : Holds heads h.lits n h.used h.last (live_of heads h.lits n) = record { store = h.store; same = refl } in
    store_headed (marked heads k) h.lits n h.used h.last
    (holds-delete heads h.lits n h.used h.last (live_of heads h.lits n) held k id l e).store
    h.small

-- A number below 2 ^ 63 is halved at most 63 times.
pub few_halvings : (n turns : ℕ) → AtMostHalvings n turns → 2 * n < 2 ^ 64 → turns ≤ 63
few_halvings n turns h l =
    ⊎_elim
    (λ few. ⊎_elim (λ lt. omega arith) (λ ge. absurd (omega (arith, pow_mono {i = 64} {j = turns} ge))) (cut turns 64))
    (λ none. omega arith)
    h

-- A count of ids that is below the greatest count goes up with each.
one_more : (i turns turns' : ℕ) → i < full → i ≤ turns → Reaches (turns + 1) turns' → i + 1 ≤ turns'
one_more i turns turns' few h r = ⊎_elim (λ l. omega (arith, h, l)) (λ l. omega (arith, few, l)) r.case

-- One clause.
module _ (heads : List ℕ) (n id : ℕ) (o : Deletable heads n id) where
  pub one_searchable : Searchable heads n id
  one_searchable = store_searchable heads o.headed.lits n o.headed.used o.headed.last o.headed.store id o.small

  pub spent_few : length heads < 2 ^ 64 → (spent : ℕ) → AtMostHalvings n spent → spent ≤ 63
  spent_few fits spent h = few_halvings n spent h (omega (arith, o.headed.store.room))

  pub one-taken : length heads < 2 ^ 64 → (spent : ℕ) → AtMostHalvings n spent → OneTaken (1 + spent)
  one-taken fits spent h = record { at_least = omega arith; at_most = omega (arith, spent_few fits spent h) }

  -- What the deleted clauses take can be counted, with one more.
  pub fits_more : length heads < 2 ^ 64 → (dead : ℕ) → dead ≤ dead_of heads n → (place : ℕ) → place < n → id_at heads place ≡ 2 * id
      → dead + (start_at heads (place + 1) - start_at heads place + 1) < 2 ^ 64
  fits_more long dead below place within is_id =
      let store = o.headed.store in
      let room : 3 * place < length heads = omega (arith, store.room) in
      let is_live : id_at heads place % 2 ≡ 0 = omega arith in
      let without = marked heads place in
      let ordered : (k : ℕ) → k < n → start_at without k ≤ start_at without (k + 1) =
      λ k l. rw (marked_starts heads place k, marked_starts heads place (k + 1)) (store.ordered k l) in
      omega (arith, o.headed.small, store.room, store.ends, dead_more heads place room is_live n within, dead_below without n ordered, marked_starts heads place n)

  pub removable : length heads < 2 ^ 64 → (place : ℕ) → place < n → id_at heads place ≡ 2 * id → Removable heads place
  removable long place within is_id =
      let store = o.headed.store in
      record {
        room = omega (arith, store.room);
        is_live = omega arith;
        ordered = store.ordered place within;
        fits = omega (arith, fits_more long 0 (omega arith) place within is_id);
      }

  -- The lookup has answered.
  module _ (long : length heads < 2 ^ 64) (r : Option ℕ) where
    module _ (place : ℕ) (e : r ≡ Some place) (f : Finds heads n id r) where
      found : (place < n) × (id_at heads place ≡ 2 * id)
      found = subst (Finds heads n id) e f

      pub found_removable : Removable heads place
      found_removable = removable long place found.0 found.1

      pub found_gone : (heads' : List ℕ) (more : ℕ) → heads' ≡ marked heads place → more ≡ start_at heads (place + 1) - start_at heads place + 1
          → (spent : ℕ) → AtMostHalvings n spent → DeletesOne heads n id heads' (Some more) (1 + spent)
      found_gone heads' more a c spent h = record {
        case = record { place = place; within = found.0; is_id = found.1; after = a; count = c };
        taken = one-taken long spent h;
      }

    pub lacking : r ≡ None → Finds heads n id r → (spent : ℕ) → AtMostHalvings n spent → DeletesOne heads n id heads None (1 + spent)
    lacking e f spent h = record {
      case = record { lacks = subst (Finds heads n id) e f; after = refl };
      taken = one-taken long spent h;
    }

-- What judging one id comes to.

delete_step : (live : Live) (last id : ℕ) (ids : List ℕ) (c : Clause) → find id live ≡ some c
    → judge_deletion (state_of live last) (id ∷ ids) ≡ judge_deletion (state_of (remove id live) last) ids
unfolding judge_deletion
delete_step live last id ids c e = rw (e, judge_deletion)

delete-stop : (live : Live) (last id : ℕ) (ids : List ℕ) → find id live ≡ none → judge_deletion (state_of live last) (id ∷ ids) ≡ refused (deletion_not_live id)
unfolding judge_deletion
delete-stop live last id ids e = rw (e, judge_deletion)

delete_end : (s : State) → judge_deletion s [] ≡ goes_on s
unfolding judge_deletion
delete_end s = refl

-- The store holds what is live when the first i ids were taken, and what is left of them says what all say.
pub record Left (lits : List ℕ) (n used last : ℕ) (live : Live) (ids heads : List ℕ) (i : ℕ) : Type 0 where
  pub live' : Live
  pub is : judge_deletion (state_of live last) (map half ids) ≡ judge_deletion (state_of live' last) (map half (drop i ids))
  pub holds : Holds heads lits n used last live'

-- The first i ids were taken.
pub record Taking (heads₀ : List ℕ) (n : ℕ) (ids heads : List ℕ) (dead turns i : ℕ) : Type 0 where
  pub so_far : (lits : List ℕ) (used last : ℕ) (live : Live) → Holds heads₀ lits n used last live → Left lits n used last live ids heads i
  pub headed : Headed heads n
  pub within : i ≤ length ids
  pub counted : Counted heads₀ n heads dead turns i

pub taking_start : (heads : List ℕ) (n : ℕ) (ids : List ℕ) → Headed heads n → Taking heads n ids heads 0 0 0
taking_start heads n ids h = record {
  so_far = λ lits used last live held. record { live' = live; is = refl; holds = held };
  headed = h;
  within = omega arith;
  counted = record { dead_more = omega arith; at_least = omega arith; at_most = omega arith; long = refl };
}

module _ (heads₀ : List ℕ) (n : ℕ) (ids heads : List ℕ) (dead turns i : ℕ) (few : length ids ≤ full) (t : Taking heads₀ n ids heads dead turns i) where
  pub taking_done : length ids ≤ i → Deletes heads₀ n ids heads (Ok (tt {0})) dead turns
  taking_done h =
      let end : i ≡ length ids = omega (arith, t.within) in
      record {
        case = record {
          goes_on = λ lits used last live held.
              let left = t.so_far lits used last live held in
              record {
                live' = left.live';
                is = left.is ∙ (ap (λ (x : List ℕ). judge_deletion (state_of left.live' last) (map half x)) (drop_of_length-le ids {i = i} h) ∙ delete_end (state_of left.live' last));
                holds = left.holds;
              };
          headed = t.headed;
          counted = subst (Counted heads₀ n heads dead turns) end t.counted;
        };
      }

  module _ (more : i < length ids) (id : ℕ) (is_id : id ≡ get_or ids i 0 / 2) where
    -- The next id.
    next : map half (drop i ids) ≡ id ∷ map half (drop (i + 1) ids)
    next = rw (add-one i, drop-cons ids i 0 more, is_id)

    pub taking_one : id < 2 ^ 60 → Deletable heads n id
    taking_one small = record { headed = t.headed; small = small }

    -- The next id's turns are counted, up to the greatest count.
    module _ (heads' : List ℕ) (r : Option ℕ) (spent : ℕ) (d : DeletesOne heads n id heads' r spent) (turns' : ℕ) (c : Counts turns spent turns') where
      counted-least : i + 1 ≤ turns'
      counted-least =
          one_more i turns turns' (omega arith) t.counted.at_least
          (reaches_less (turns + 1) (turns + spent) turns' turns' (omega (arith, d.taken.at_least)) (omega arith) c.at_least)

      counted-most : turns' ≤ 64 * (i + 1)
      counted-most = omega (arith, t.counted.at_most, c.at_most, d.taken.at_most)

      module _ (room : ℕ) (e : r ≡ Some room) where
        gone : Gone heads n id heads' room
        gone = subst (OneCase heads n id heads') e d.case

        pub taking_fits : id < 2 ^ 60 → length heads < 2 ^ 64 → dead + room < 2 ^ 64
        taking_fits small long =
            omega (arith, gone.count, fits_more heads n id (taking_one small) long dead (omega (arith, t.counted.dead_more)) gone.place gone.within gone.is_id)

        pub taking_on : Taking heads₀ n ids heads' (dead + room) turns' (i + 1)
        taking_on =
            let place = gone.place in
            let store = t.headed.store in
            let dead_there = dead_more heads place (omega (arith, store.room, gone.within)) (omega (arith, gone.is_id)) n gone.within in
            let same : dead_of heads' n ≡ dead_of (marked heads place) n = ap (λ (h : List ℕ). dead_of h n) gone.after in
            record {
              so_far = λ lits used last live held.
                  let left = t.so_far lits used last live held in
                  record {
                    live' = remove id left.live';
                    is =
                        left.is
                        ∙ (ap (judge_deletion (state_of left.live' last)) next
                        ∙ delete_step left.live' last id (map half (drop (i + 1) ids)) (clause_at heads lits place) (holds_found heads lits n used last left.live' left.holds place id gone.within gone.is_id));
                    holds = rw gone.after (holds-delete heads lits n used last left.live' left.holds place id gone.within gone.is_id);
                  };
              headed = rw gone.after (headed_on heads n t.headed place id gone.within gone.is_id);
              within = omega arith;
              counted = record {
                dead_more = omega (arith, same, dead_there, t.counted.dead_more, gone.count);
                at_least = counted-least;
                at_most = counted-most;
                long = rw (gone.after, marked-long heads place) t.counted.long;
              };
            }

      pub taking_missing : r ≡ None → Deletes heads₀ n ids heads' (Err id) dead turns'
      taking_missing e =
          let miss : Missing heads n id heads' = subst (OneCase heads n id heads') e d.case in
          let same : dead_of heads' n ≡ dead_of heads n = ap (λ (h : List ℕ). dead_of h n) miss.after in
          record {
            case = record {
              is = λ lits used last live held.
                  let left = t.so_far lits used last live held in
                  left.is
                  ∙ (ap (judge_deletion (state_of left.live' last)) next
                  ∙ delete-stop left.live' last id (map half (drop (i + 1) ids)) (holds_lacks heads lits n used last left.live' left.holds id miss.lacks));
              taken = i + 1;
              within = omega arith;
              counted = record {
                dead_more = omega (arith, same, t.counted.dead_more);
                at_least = counted-least;
                at_most = counted-most;
                long = ap length miss.after ∙ t.counted.long;
              };
            };
          }
