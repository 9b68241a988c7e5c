-- The walk over the store, with the groups beside it: one clause, one group, and all of them. Assumes nothing.
use Rattle.std.proofs.Common.{ℕ, zero, suc, ◌+◌, ◌-◌, ◌/◌, ◌%◌, ◌^◌, ◌<◌, ◌≤◌, min, ◌≡◌, Bool, true, false, List, [], ◌∷◌, ◌++◌, map, eqb, length, get_or, drop, Result, Ok, Err}
use Rattle.std.proofs.Common.{refl, sym, ap, subst, ◌∙◌, append_assoc, append-nil, arith, add-one, eqb-true, eq-eqb, ne_eqb}
use borrow.Author.Tests.{eqb-false}
use Rattle.std.proofs.Math.Option.{Option, none, some}
use Rattle.meaning.specs.Meaning.{Literal, Clause}
use Rattle.meaning.proofs.Truth.{bool_cases}
use Rattle.rules.specs.Judging.{Live, among, containing, groups, mismatch, leading}
use Rattle.clauses.specs.Codes.{literal_of, hint_of}
use Rattle.clauses.specs.Store.{id_at, start_at, Placed, clause_at, entry_at, live_of}
use Rattle.std.proofs.Math.Seq.{slice, length-slice}
use Rattle.clauses.specs.Moving.{Stored}
use Rattle.clauses.proofs.Entries.{entry_live, entry_deleted, clause_is, live-suc, live-none, start-below}
use Rattle.groups.specs.Matching.{GroupAt, NextGroup, groups_from, literals_at, literals_of, ExaminedCase, Examined, TakesCase, PassesCase, Outcome, FinishesCase, Comes, Walked, Matches}
use Rattle.groups.proofs.Hints.{groups-begin, groups_end, groups_next, groups-first}

-- The clauses of a store lie within the two lists.
pub stored_placed : (heads lits : List ℕ) (n : ℕ) → Stored heads lits n → (k : ℕ) → k < n → Placed heads lits k
stored_placed heads lits n s k h = record {
  room = omega (arith, s.store.room);
  ordered = s.store.ordered k h;
  inside = omega (arith, start-below heads lits n s.used s.last s.store (k + 1) (omega arith), s.store.fits);
}

-- Literals that are looked at.

literals_live : (heads : List ℕ) (k : ℕ) → id_at heads k % 2 ≡ 0 → literals_at heads k ≡ start_at heads (k + 1) - start_at heads k
unfolding literals_at
literals_live heads k e = rw (eq-eqb (id_at heads k % 2) 0 e, literals_at)

literals_deleted : (heads : List ℕ) (k : ℕ) → (id_at heads k % 2 ≡ 0 → ⊥) → literals_at heads k ≡ 0
unfolding literals_at
literals_deleted heads k d = rw (ne_eqb (id_at heads k % 2) 0 d, literals_at)

literals_at_most : (heads : List ℕ) (k : ℕ) → literals_at heads k ≤ start_at heads (k + 1) - start_at heads k
literals_at_most heads k =
    bool_cases (eqb (id_at heads k % 2) 0)
    (λ y. rw (literals_live heads k (eqb-true (id_at heads k % 2) 0 y)) (omega arith))
    (λ n. rw (literals_deleted heads k (eqb-false (id_at heads k % 2) 0 n)) (omega arith))

literals_none : (heads : List ℕ) → literals_of heads 0 ≡ 0
unfolding literals_of
literals_none heads = refl

literals_more : (heads : List ℕ) (n : ℕ) → literals_of heads (n + 1) ≡ literals_of heads n + literals_at heads n
unfolding literals_of
literals_more heads n = rw (add-one n)

-- They are no more than there are.
literals_below : (heads : List ℕ) (n : ℕ) → ((k : ℕ) → k < n → start_at heads k ≤ start_at heads (k + 1)) → literals_of heads n ≤ start_at heads n
literals_below heads zero o = rw (literals_none heads) (omega arith)
literals_below heads (suc n) o =
    let z : n + 1 ≡ suc n = add-one n in
    rw (← z, literals_more heads n) (omega (arith, literals_at_most heads n, o n (omega arith), literals_below heads n (λ k h. o k (omega arith))))

pub literals_stored : (heads lits : List ℕ) (n : ℕ) → Stored heads lits n → (k : ℕ) → k ≤ n → literals_of heads k ≤ length lits
literals_stored heads lits n s k h =
    omega (arith, literals_below heads k (λ j l. s.store.ordered j (omega arith)), start-below heads lits n s.used s.last s.store k h, s.store.fits)

-- The turns of the walk are no more than there are clauses, literals and hints.
pub walked_few : (heads lits : List ℕ) (n : ℕ) (hints : List ℕ) (from passed at turns : ℕ) → Stored heads lits n → passed ≤ n → Walked heads hints from passed at turns
    → turns ≤ n + length lits + length hints
walked_few heads lits n hints from passed at turns s h w = omega (arith, w.counted, w.within, literals_stored heads lits n s passed h)

-- One clause.

containing_in : (l : Literal) (id : ℕ) (c : Clause) (rest : Live) → among l c ≡ true → containing l ((id, c) ∷ rest) ≡ id ∷ containing l rest
unfolding containing
containing_in l id c rest e = rw (e, containing)

containing-not : (l : Literal) (id : ℕ) (c : Clause) (rest : Live) → among l c ≡ false → containing l ((id, c) ∷ rest) ≡ containing l rest
unfolding containing
containing-not l id c rest e = rw (e, containing)

module _ (heads lits : List ℕ) (k q : ℕ) where
  pub examined_deleted : (id_at heads k % 2 ≡ 0 → ⊥) → Examined heads lits k q false 0
  examined_deleted d = record {
    case = λ rest. ap (λ (l : Live). containing (literal_of q) (l ++ rest)) (entry_deleted heads lits k d);
    counted = sym (literals_deleted heads k d);
  }

  examined_case : (has : Bool) → id_at heads k % 2 ≡ 0 → has ≡ among (literal_of q) (clause_at heads lits k) → ExaminedCase heads lits k q has
  examined_case true e m = λ rest.
      ap (λ (l : Live). containing (literal_of q) (l ++ rest)) (entry_live heads lits k e)
      ∙ containing_in (literal_of q) (id_at heads k / 2) (clause_at heads lits k) rest (sym m)
  examined_case false e m = λ rest.
      ap (λ (l : Live). containing (literal_of q) (l ++ rest)) (entry_live heads lits k e)
      ∙ containing-not (literal_of q) (id_at heads k / 2) (clause_at heads lits k) rest (sym m)

  pub examined_live : Placed heads lits k → id_at heads k % 2 ≡ 0 → (clause : List ℕ) → clause ≡ slice (start_at heads k) (start_at heads (k + 1)) lits
      → (has : Bool) → has ≡ among (literal_of q) (map literal_of clause) → Examined heads lits k q has (length clause)
  examined_live p e clause c has m = record {
    case = examined_case has e (m ∙ (ap (λ (xs : List ℕ). among (literal_of q) (map literal_of xs)) c ∙ ap (among (literal_of q)) (sym (clause_is heads lits k _ _ refl refl))));
    counted = ap length c ∙ (length-slice (start_at heads k) (start_at heads (k + 1)) lits p.inside ∙ sym (literals_live heads k e));
  }

-- One group.

mismatch_same : (n d : ℕ) (l ns : List ℕ) (gs : List (ℕ × List ℕ)) → n ≡ d → mismatch (n ∷ ns) ((d, l) ∷ gs) ≡ mismatch ns gs
unfolding mismatch
mismatch_same n d l ns gs e = rw (eq-eqb n d e, mismatch)

mismatch_other : (n d : ℕ) (l ns : List ℕ) (gs : List (ℕ × List ℕ)) → (n ≡ d → ⊥) → mismatch (n ∷ ns) ((d, l) ∷ gs) ≡ some (min n d)
unfolding mismatch
mismatch_other n d l ns gs e = rw (ne_eqb n d e, mismatch)

mismatch_short : (n : ℕ) (ns : List ℕ) → mismatch (n ∷ ns) [] ≡ some n
unfolding mismatch
mismatch_short n ns = refl

mismatch-long : (d : ℕ) (l : List ℕ) (gs : List (ℕ × List ℕ)) → mismatch [] ((d, l) ∷ gs) ≡ some d
unfolding mismatch
mismatch-long d l gs = refl

mismatch-none : mismatch [] [] ≡ none
unfolding mismatch
mismatch-none = refl

module _ (hints : List ℕ) (at : ℕ) (g : GroupAt hints at) where
  pub take_none : (id : ℕ) → length hints ≤ at → TakesCase id hints at (Err id)
  take_none id h = λ ids. ap (mismatch (id ∷ ids)) (groups_end hints at h) ∙ mismatch_short id ids

  module _ (here : at < length hints) (d : ℕ) (is_d : d ≡ get_or hints at 0 / 2) where
    abbrev behind : List ℕ
    behind = leading (map hint_of (drop (at + 1) hints))

    begin : groups_from hints at ≡ (d, behind) ∷ groups_from hints (at + 1)
    begin = groups-begin hints at here (g.begins here) ∙ ap (λ (x : ℕ). (x, behind) ∷ groups_from hints (at + 1)) (sym is_d)

    pub take_other : (id : ℕ) → (id ≡ d → ⊥) → (id' : ℕ) → id' ≡ min id d → TakesCase id hints at (Err id')
    take_other id n id' m = λ ids. ap (mismatch (id ∷ ids)) begin ∙ (mismatch_other id d behind ids (groups_from hints (at + 1)) n ∙ ap some (sym m))

    pub take_same : (id : ℕ) → id ≡ d → (next : ℕ) → NextGroup hints (at + 1) next → TakesCase id hints at (Ok next)
    take_same id e next n = record {
      is = λ ids. ap (mismatch (id ∷ ids)) begin ∙ (mismatch_same id d behind ids (groups_from hints (at + 1)) e ∙ ap (mismatch ids) (groups_next hints (at + 1) next n));
      group = n.group;
      later = omega (arith, n.passed.later);
    }

    -- Behind the last clause.
    pub finish_more : FinishesCase hints at (Err d)
    finish_more = ap (mismatch []) begin ∙ mismatch-long d behind (groups_from hints (at + 1))

  pub finish-none : length hints ≤ at → FinishesCase hints at (Ok (tt {0}))
  finish-none h = (ap (mismatch []) (groups_end hints at h) ∙ mismatch-none, omega (arith, g.within))

-- One clause with its group.
module _ (heads lits : List ℕ) (k : ℕ) (hints : List ℕ) (at q : ℕ) (has : Bool) (literals : ℕ) (x : Examined heads lits k q has literals) where
  pub pass-taken : has ≡ true → (next : ℕ) → TakesCase (id_at heads k / 2) hints at (Ok next) → PassesCase heads lits k hints at q (1 + literals + (next - at)) (Ok next)
  pass-taken e next t =
      let first : ExaminedCase heads lits k q true = subst (ExaminedCase heads lits k q) e x.case in
      record {
        is = λ rest. ap (λ (l : List ℕ). mismatch l (groups_from hints at)) (first rest) ∙ t.is (containing (literal_of q) rest);
        group = t.group;
        later = t.later;
        counted = omega (arith, x.counted);
      }

  pub pass-not : has ≡ true → (id : ℕ) → TakesCase (id_at heads k / 2) hints at (Err id) → PassesCase heads lits k hints at q (1 + literals) (Err id)
  pass-not e id t =
      let first : ExaminedCase heads lits k q true = subst (ExaminedCase heads lits k q) e x.case in
      record {
        is = λ rest. ap (λ (l : List ℕ). mismatch l (groups_from hints at)) (first rest) ∙ t (containing (literal_of q) rest);
        counted = omega (arith, x.counted);
      }

  pub pass_over : has ≡ false → GroupAt hints at → PassesCase heads lits k hints at q (1 + literals) (Ok at)
  pass_over e g =
      let none_of : ExaminedCase heads lits k q false = subst (ExaminedCase heads lits k q) e x.case in
      record {
        is = λ rest. ap (λ (l : List ℕ). mismatch l (groups_from hints at)) (none_of rest);
        group = g;
        later = omega arith;
        counted = omega (arith, x.counted);
      }

-- The live ones of so many clauses from the k-th on.
unfoldable pub live_from : List ℕ → List ℕ → ℕ → ℕ → Live
live_from heads lits k zero = []
live_from heads lits k (suc d) = entry_at heads lits k ++ live_from heads lits (suc k) d

module _ (heads lits : List ℕ) where
  live_split : (d k : ℕ) → live_of heads lits (k + d) ≡ live_of heads lits k ++ live_from heads lits k d
  unfolding live_from
  live_split zero k = let z : k + zero ≡ k = omega arith in rw z (sym (append-nil (live_of heads lits k)))
  live_split (suc d) k =
      let z : k + suc d ≡ suc k + d = omega arith in
      ap (live_of heads lits) z
      ∙ (live_split d (suc k)
      ∙ (ap (λ (l : Live). l ++ live_from heads lits (suc k) d) (live-suc heads lits k)
      ∙ append_assoc (live_of heads lits k) (entry_at heads lits k) (live_from heads lits (suc k) d)))

  live_all : (n : ℕ) → live_of heads lits n ≡ live_from heads lits 0 (n - 0)
  live_all n =
      let z : 0 + (n - 0) ≡ n = omega arith in
      ap (live_of heads lits) (sym z) ∙ (live_split (n - 0) 0 ∙ ap (λ (l : Live). l ++ live_from heads lits 0 (n - 0)) (live-none heads lits))

  live_next : (n k : ℕ) → k < n → live_from heads lits k (n - k) ≡ entry_at heads lits k ++ live_from heads lits (k + 1) (n - (k + 1))
  unfolding live_from
  live_next n k h = let z : n - k ≡ suc (n - (k + 1)) = omega arith in rw (z, add-one k)

  live_end : (n k : ℕ) → n ≤ k → live_from heads lits k (n - k) ≡ []
  unfolding live_from
  live_end n k h = let z : n - k ≡ 0 = omega arith in rw z

-- k clauses are passed, and the next group begins at `at`: what is left says what all says.
pub record Matching (heads lits : List ℕ) (n : ℕ) (hints : List ℕ) (from q k at turns : ℕ) : Type 0 where
  pub is : mismatch (containing (literal_of q) (live_of heads lits n)) (groups (map hint_of hints)) ≡ mismatch (containing (literal_of q) (live_from heads lits k (n - k))) (groups_from hints at)
  pub group : GroupAt hints at
  pub so_far : k ≤ n
  pub walked : Walked heads hints from k at turns

pub matching_start : (heads lits : List ℕ) (n : ℕ) (hints : List ℕ) (from q : ℕ) → NextGroup hints 0 from → Matching heads lits n hints from q 0 from 0
matching_start heads lits n hints from q g = record {
  is =
      ap (λ (l : Live). mismatch (containing (literal_of q) l) (groups (map hint_of hints))) (live_all heads lits n)
      ∙ ap (mismatch (containing (literal_of q) (live_from heads lits 0 (n - 0)))) (groups-first hints from g);
  group = g.group;
  so_far = omega arith;
  walked = record { later = omega arith; within = g.group.within; counted = omega (arith, literals_none heads) };
}

-- What holds of the store's live clauses holds of those that it holds.
comes : (heads lits : List ℕ) (n : ℕ) (hints : List ℕ) (q : ℕ) (o : Option ℕ) → mismatch (containing (literal_of q) (live_of heads lits n)) (groups (map hint_of hints)) ≡ o
    → Comes heads lits n hints q o
comes heads lits n hints q o e used last live h = ap (λ (l : Live). mismatch (containing (literal_of q) l) (groups (map hint_of hints))) (sym h.same) ∙ e

module _ (heads lits : List ℕ) (n : ℕ) (hints : List ℕ) (from q k at turns : ℕ) (m : Matching heads lits n hints from q k at turns) where
  all_passed : n ≤ k → mismatch (containing (literal_of q) (live_of heads lits n)) (groups (map hint_of hints)) ≡ mismatch [] (groups_from hints at)
  unfolding containing
  all_passed h = m.is ∙ ap (λ (l : Live). mismatch (containing (literal_of q) l) (groups_from hints at)) (live_end heads lits n k h)

  pub matching_done : (r : Outcome) → FinishesCase hints at r → n ≤ k → Matches heads lits n hints from q r turns
  matching_done (Ok u) f h =
      let z : k ≡ n = omega (arith, m.so_far) in
      record {
        case = record {
          is = comes heads lits n hints q none (all_passed h ∙ f.0);
          walked = record {
            later = omega (arith, m.walked.later, f.1);
            within = omega arith;
            counted = omega (arith, m.walked.counted, f.1, ap (literals_of heads) z);
          };
        };
      }
  matching_done (Err id) f h = record {
    case = record { is = comes heads lits n hints q (some id) (all_passed h ∙ f); passed = k; some_of = m.so_far; at = at; walked = m.walked };
  }

  module _ (h : k < n) where
    -- The counter does not wrap, as long as all that there is to walk over can be counted.
    pub matching_room : Stored heads lits n → n + length lits + length hints < 2 ^ 64 → turns + (1 + literals_at heads k + (length hints - at)) < 2 ^ 64
    matching_room s few =
        omega (arith, m.walked.counted, m.walked.within, m.walked.later, literals_more heads k, literals_stored heads lits n s (k + 1) (omega arith))

    -- One clause takes no more turns than there is room for.
    passes_few : (taken : ℕ) (r : Result ℕ ℕ) → PassesCase heads lits k hints at q taken r → taken ≤ 1 + literals_at heads k + (length hints - at)
    passes_few taken (Ok next) p = omega (arith, p.counted, p.later, p.group.within)
    passes_few taken (Err id) p = omega (arith, p.counted)

    pub matching_counts : Stored heads lits n → n + length lits + length hints < 2 ^ 64 → (taken : ℕ) (r : Result ℕ ℕ) → PassesCase heads lits k hints at q taken r → turns + taken < 2 ^ 64
    matching_counts s few taken r p = omega (arith, matching_room s few, passes_few taken r p)

    pub matching_on : (next taken : ℕ) → PassesCase heads lits k hints at q taken (Ok next) → Matching heads lits n hints from q (k + 1) next (turns + taken)
    matching_on next taken on = record {
      is =
          m.is
          ∙ (ap (λ (l : Live). mismatch (containing (literal_of q) l) (groups_from hints at)) (live_next heads lits n k h)
          ∙ on.is (live_from heads lits (k + 1) (n - (k + 1))));
      group = on.group;
      so_far = omega arith;
      walked = record {
        later = omega (arith, m.walked.later, on.later);
        within = on.group.within;
        counted = omega (arith, m.walked.counted, m.walked.later, on.later, on.counted, literals_more heads k);
      };
    }

    pub matching_differs : (id taken : ℕ) → PassesCase heads lits k hints at q taken (Err id) → Matches heads lits n hints from q (Err id) (turns + taken)
    matching_differs id taken off = record {
      case = record {
        is = comes heads lits n hints q (some id)
            (m.is
            ∙ (ap (λ (l : Live). mismatch (containing (literal_of q) l) (groups_from hints at)) (live_next heads lits n k h)
            ∙ off.is (live_from heads lits (k + 1) (n - (k + 1)))));
        passed = k + 1;
        some_of = omega arith;
        at = at;
        walked = record {
          later = m.walked.later;
          within = m.walked.within;
          counted = omega (arith, m.walked.counted, off.counted, literals_more heads k);
        };
      };
    }
