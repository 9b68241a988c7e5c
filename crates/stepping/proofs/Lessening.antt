-- Deletions, and room that is given back. Assumes nothing.
use Rattle.std.specs.Prelude.{Result, Ok, Err}
use Rattle.std.proofs.Common.{ℕ, ◌+◌, ◌*◌, ◌^◌, ◌<◌, ◌≤◌, ◌≡◌, refl, sym, ap, ◌∙◌, List, map, arith, length}
use Rattle.rules.specs.Judging.{Live, goes_on, judge_deletion, judge}
use Rattle.clauses.specs.Codes.{half}
use Rattle.clauses.specs.Counting.{Counts}
use Rattle.clauses.specs.Store.{live_of, Holds}
use Rattle.clauses.specs.Moving.{AllMoved}
use Rattle.clauses.specs.declared.Compacted.{Compacted}
use Rattle.deletion.specs.Deleting.{state_of, AllGone, OneMissing, Deletes as DeletesAll}
use Rattle.deletion.proofs.Leavings.{none_dead, dead_below}
use Rattle.stepping.specs.Stepping.{state_at, deletion, Counted, Tight, GivesBack, Deletes}
use Rattle.stepping.specs.declared.Between.{Between}
use Rattle.stepping.specs.declared.Progress.TheVariants.{On}
use Rattle.stepping.specs.declared.Failure.TheVariants.{Refused}
use Rattle.stepping.specs.declared.Refusal.TheVariants.{Deletion}

-- Giving room back

-- The deleted clauses went.
pub back_moved : (heads lits : List ℕ) (b : Between) → Counted heads lits b → (heads' lits' : List ℕ) (r : Compacted) → AllMoved heads lits b.n heads' lits' r
    → GivesBack heads lits b heads' lits' (record { n = r.n; used = r.used; last = b.last; dead = 0 })
back_moved heads lits b c heads' lits' r m =
    record {
      tight = record { held = record { store = now.store; counted = none_dead heads' r.n m.all_live }; half = omega arith };
      same = now.same;
      last = refl;
      few = omega (arith, m.fewer, m.shorter, c.store.ends);
      below = λ k f. m.below k (λ i h. f i (rw c.store.ends at h));
    }
  where
    now : Holds heads' lits' r.n r.used b.last (live_of heads lits b.n)
    now = m.holds b.used b.last (live_of heads lits b.n) (record { store = c.store; same = refl })

pub back_turns : (heads lits : List ℕ) (b : Between) → Counted heads lits b → (heads' lits' : List ℕ) (r : Compacted) → AllMoved heads lits b.n heads' lits' r
    → (noted turns : ℕ) → noted ≡ r.n → Counts r.turns noted turns → turns ≤ 2 * (b.n + b.used)
back_turns heads lits b c heads' lits' r m noted turns e t =
    omega (arith, t.at_most, m.counted, m.fewer, m.shorter, c.store.ends)

-- Deletions
module _ (heads lits ids : List ℕ) (b : Between) (t : Tight heads lits b) where
  held : Holds heads lits b.n b.used b.last (live_of heads lits b.n)
  held = record { store = t.held.store; same = refl }

  judge-delete : judge (state_at heads lits b) (deletion ids) ≡ judge_deletion (state_at heads lits b) (map half ids)
  unfolding judge
  judge-delete = refl

  module _ (heads' : List ℕ) (r : Result (Unit {0}) ℕ) (dead turns : ℕ) (d : DeletesAll heads b.n ids heads' r dead turns) where
    module _ (done : Unit {0}) (e : r ≡ Ok done) where
      gone : AllGone heads b.n ids heads' dead turns
      gone = rw e at d.case

      now : Holds heads' lits b.n b.used b.last (gone.goes_on lits b.used b.last (live_of heads lits b.n) held).live'
      now = (gone.goes_on lits b.used b.last (live_of heads lits b.n) held).holds

      -- How much of the store belongs to deleted clauses then.
      abbrev pub after : Between
      after = record { n = b.n; used = b.used; last = b.last; dead = b.dead + dead }

      pub deleted_more : Counted heads' lits after
      deleted_more = record { store = now.store; counted = gone.counted.dead_more ∙ ap (λ (x : ℕ). x + dead) t.held.counted }

      pub more_fits : length heads' * 4 < 2 ^ 63 → length lits * 4 < 2 ^ 63 → b.dead + dead < 2 ^ 64
      more_fits h l =
          omega (arith, deleted_more.counted, dead_below heads' b.n now.store.ordered, now.store.ends, now.store.fits, now.store.room)

      pub deleted_on : (heads'' lits'' : List ℕ) (b' : Between) → GivesBack heads' lits after heads'' lits'' b' → Deletes heads lits ids b heads'' lits'' (Ok (On b'))
      deleted_on heads'' lits'' b' g = record {
        case = record {
          is =
              judge-delete
              ∙ ((gone.goes_on lits b.used b.last (live_of heads lits b.n) held).is
              ∙ ap goes_on
              (ap (λ (l : Live). state_of l b.last) (sym now.same ∙ sym g.same)
              ∙ ap (state_of (live_of heads'' lits'' b'.n)) (sym g.last)));
          tight = g.tight;
          few = g.few;
          below = g.below;
        };
      }

      pub deleted_turns : (all : ℕ) → all ≤ turns + 2 * (b.n + b.used) → all ≤ 64 * length ids + 2 * (b.n + b.used)
      deleted_turns all m = omega (arith, gone.counted.at_most)

    module _ (id : ℕ) (e : r ≡ Err id) where
      missing : OneMissing heads b.n ids heads' id dead turns
      missing = rw e at d.case

      pub deleted_not : (heads'' lits'' : List ℕ) → Deletes heads lits ids b heads'' lits'' (Err (Refused (Deletion id)))
      deleted_not heads'' lits'' = record { case = judge-delete ∙ missing.is lits b.used b.last (live_of heads lits b.n) held }

      pub deleted_not_turns : turns ≤ 64 * length ids + 2 * (b.n + b.used)
      deleted_not_turns = omega (arith, missing.counted.at_most, missing.within)
