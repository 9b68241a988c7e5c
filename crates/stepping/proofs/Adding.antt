-- Judging an addition, and what an accepted one makes of the store. Assumes nothing.
use Rattle.std.specs.Prelude.{Ok, Err}
use Rattle.std.proofs.Common.{ℕ, ◌+◌, ◌-◌, ◌*◌, ◌<◌, ◌≤◌, ◌≡◌, List, [], ◌∷◌, ◌++◌, map, length, get_or, take, drop}
use Rattle.std.proofs.Common.{refl, sym, ap, ◌∙◌, inl, inr, ⊎_elim, arith, get_or-take, get_or-drop, length-take-le, take-take}
use Rattle.std.proofs.Math.Option.{none, some}
use Rattle.std.proofs.Math.ListN.{length-map}
use Rattle.std.proofs.Math.Seq.{slice, length-slice}
use Rattle.meaning.specs.Meaning.{Clause}
use Rattle.rules.specs.Steps.{Hint, add}
use Rattle.rules.specs.Judging.{Live, Ground, State, refused, adds_empty, goes_on, addition_fault, judge}
use Rattle.rules.proofs.Ids.{accepted_fresh}
use Rattle.clauses.specs.Codes.{literal_of, hint_of}
use Rattle.clauses.specs.Store.{RoomFor, written, live_of, Holds}
use Rattle.clauses.proofs.Holding.{holds_front, holds-append}
use Rattle.clauses.proofs.Numbers.{cut}
use Rattle.clauses.proofs.Parts.{part_slice}
use Rattle.deletion.specs.Deleting.{state_of}
use Rattle.deletion.proofs.Leavings.{dead_append}
use Rattle.addition.specs.Verdicts.{Verdict, SaysCase, ground_of}
use Rattle.addition.specs.Addition.{Addable as Judgeable, clause_in, Judges}
use Rattle.addition.specs.declared.Failure.TheVariants.{Refused as IsRefused, TooShort as IsTooShort}
use Rattle.stepping.specs.Stepping.{state_at, addition, Outcome, AcceptCase, JudgedCase, Accepts, Addable, Goes, AddCase, Adds}
use Rattle.stepping.specs.declared.Between.{Between}
use Rattle.stepping.specs.declared.Progress.TheVariants.{On, Verified, Nothing}
use Rattle.stepping.specs.declared.Failure.TheVariants.{Refused, TooShort, Unreadable}

-- What the judgement of an addition comes to.

judge_fault : (s : State) (n : ℕ) (k : Clause) (hs : List Hint) (g : Ground) → addition_fault s.live s.last n k hs ≡ some g → judge s (add n k hs) ≡ refused g
unfolding judge
judge_fault s n k hs g e = rw (e, judge)

judge_empty : (s : State) (n : ℕ) (k : Clause) (hs : List Hint) → addition_fault s.live s.last n k hs ≡ none → length k ≡ 0 → judge s (add n k hs) ≡ adds_empty
unfolding judge
judge_empty s n [] hs e l = rw (e, judge)
judge_empty s n (x ∷ k) hs e l = absurd (omega arith)

judge_more : (s : State) (n : ℕ) (k : Clause) (hs : List Hint) → addition_fault s.live s.last n k hs ≡ none → 1 ≤ length k
    → judge s (add n k hs) ≡ goes_on (state_of (s.live ++ ((n, k) ∷ [])) n)
unfolding judge
judge_more s n [] hs e l = absurd (omega arith)
judge_more s n (x ∷ k) hs e l = rw (e, judge)

zero_plus : (x : ℕ) → 0 + x ≡ x
zero_plus x = omega arith

-- The literals up to `end` are all that judging needs.

module _ (heads lits hints marks : List ℕ) (b : Between) (id end many : ℕ) (a : Addable heads lits hints marks b id end many) where
  pub front_long : length (take end lits) ≡ end
  front_long = length-take-le end lits a.inside

  front_holds : Holds heads (take end lits) b.n b.used b.last (live_of heads lits b.n)
  front_holds =
      holds_front heads lits b.n b.used b.last (live_of heads lits b.n) (record { store = a.keeps.tight.held.store; same = refl })
      (take end lits)
      (take-take b.used end lits a.forward)
      (rw front_long a.forward)

  known_all : (i : ℕ) → i < end → get_or lits i 0 < length marks
  known_all i h = ⊎_elim (λ lt. a.keeps.known i lt) (λ ge. a.known i ge h) (cut i b.used)

  known_front : (i : ℕ) → i < end → get_or (take end lits) i 0 < length marks
  known_front i h = rw (get_or-take end lits i 0 h) (known_all i h)

  -- The literals of the clause.
  own-is : take (end - b.used) (drop b.used lits) ≡ slice b.used end lits
  own-is = part_slice lits b.used end a.forward a.inside

  own_long : length (slice b.used end lits) ≡ end - b.used
  own_long = length-slice b.used end lits a.inside

  pub addable_front : Judgeable heads (take end lits) b.n (take (end - b.used) (drop b.used lits)) marks
  addable_front = rw own-is (record {
    ready = record {
      used = b.used;
      last = b.last;
      store = front_holds.store;
      known = λ i h. known_front i (omega (arith, a.forward));
      paired = a.keeps.paired;
    };
    shows = a.keeps.clear;
    known = record { below = λ i h. rw (get_or-drop b.used (take end lits) i 0) (known_front (b.used + i) (omega (arith, rw own_long at h))) };
  })

  hints-long : length (take many hints) ≡ many
  hints-long = length-take-le many hints a.few

  clause-long : length (clause_in lits b.used end) ≡ end - b.used
  clause-long = length-map (slice b.used end lits) literal_of ∙ own_long

  -- The clause becomes live.
  module _ (heads' marks' : List ℕ) (back : marks' ≡ marks) (fault : addition_fault (live_of heads lits b.n) b.last id (clause_in lits b.used end) (map hint_of (take many hints)) ≡ none)
      (more : b.used < end) (room : RoomFor heads (b.n + 1)) (after : heads' ≡ written heads b.n (2 * id) end) where
    more_holds : Holds heads' lits (b.n + 1) end id (live_of heads lits b.n ++ ((id, clause_in lits b.used end) ∷ []))
    more_holds =
        rw after
        (holds-append heads lits b.n b.used b.last (live_of heads lits b.n)
        (record { store = a.keeps.tight.held.store; same = refl })
        id
        end
        (accepted_fresh (live_of heads lits b.n) b.last id (clause_in lits b.used end) (map hint_of (take many hints)) fault)
        a.forward
        a.inside
        room)

    pub addition_goes : Goes (state_at heads lits b) (addition lits hints b id end many) heads' lits marks' (b.n + end + 1) (record { n = b.n + 1; used = end; last = id; dead = b.dead })
    addition_goes = record {
      is =
          judge_more (state_at heads lits b) id (clause_in lits b.used end) (map hint_of (take many hints)) fault (rw clause-long (omega arith))
          ∙ ap (λ (l : Live). goes_on (state_of l id)) (sym more_holds.same);
      keeps = record {
        tight = record {
          held = record {
            store = more_holds.store;
            counted = rw after (dead_append heads b.n (2 * id) end room (omega arith) ∙ a.keeps.tight.held.counted);
          };
          half = omega (arith, a.keeps.tight.half, a.forward);
        };
        known = λ i h. rw back (known_all i h);
        paired = rw back a.keeps.paired;
        clear = rw back a.keeps.clear;
      };
      few = omega arith;
    }

  -- All verdicts.
  module _ (tape marks' tape' : List ℕ) (v : Verdict) (t' turns : ℕ)
      (j : Judges (live_of heads (take end lits) b.n) b.n (take end lits) (take (end - b.used) (drop b.used lits)) (take many hints) b.last id marks tape 0 marks' tape' v t' turns)
      (heads' : List ℕ) (o : Outcome) (y : Accepts v heads b id end heads' o) where
    says : SaysCase (addition_fault (live_of heads lits b.n) b.last id (clause_in lits b.used end) (map hint_of (take many hints))) (length tape) ((end - b.used) + many + end) v
    says = rw (front_holds.same, own-is, own_long, hints-long, front_long, zero_plus ((end - b.used) + many + end)) at j.says.case

    accepted : addition_fault (live_of heads lits b.n) b.last id (clause_in lits b.used end) (map hint_of (take many hints)) ≡ none
        → (q : Outcome) → AcceptCase heads b id end heads' q → AddCase (state_at heads lits b) (addition lits hints b id end many) heads tape b end many heads' lits marks' q
    accepted f (Ok (On b')) x = rw x.is (addition_goes heads' marks' j.back f x.more x.room x.after)
    accepted f (Ok Verified) x =
        judge_empty (state_at heads lits b) id (clause_in lits b.used end) (map hint_of (take many hints)) f
        (rw clause-long (let e : end ≤ b.used = x in omega arith))
    accepted f (Ok Nothing) x = absurd x
    accepted f (Err (Refused g)) x = absurd x
    accepted f (Err TooShort) x = inl x
    accepted f (Err Unreadable) x = absurd x

    by_verdict : (w : Verdict)
        → SaysCase (addition_fault (live_of heads lits b.n) b.last id (clause_in lits b.used end) (map hint_of (take many hints))) (length tape) ((end - b.used) + many + end) w
        → JudgedCase w heads b id end heads' o → AddCase (state_at heads lits b) (addition lits hints b id end many) heads tape b end many heads' lits marks' o
    by_verdict (Ok done) f x = accepted f o x
    by_verdict (Err (IsRefused g)) f x = rw x (judge_fault (state_at heads lits b) id (clause_in lits b.used end) (map hint_of (take many hints)) (ground_of g) f)
    by_verdict (Err IsTooShort) f x = rw x (inr f)

    pub addition_adds : (after : List ℕ) → after ≡ marks' → Adds heads lits hints marks tape b id end many heads' after o
    addition_adds after e = rw e (record { case = by_verdict v says y.case })
