-- The clauses of the store, one by one, and their texts. Assumes nothing.
use Rattle.std.proofs.Common.{ℕ, zero, suc, ◌+◌, ◌-◌, ◌*◌, ◌≤◌, ◌<◌, ◌≡◌, List, [], ◌∷◌, ◌++◌, map, ltb, length, drop, get_or}
use Rattle.std.proofs.Common.{sym, ap, ◌∙◌, add-one, arith, ltb-true, ltb-false, drop_of_length-le, drop-cons}
use Rattle.std.proofs.Math.ListN.{get_or-append}
use Rattle.std.proofs.Math.Seq.{slice, get_or_at}
use Rattle.meaning.proofs.Truth.{bool_cases}
use Rattle.rules.specs.Written.{write_clause, write_clauses}
use Rattle.clauses.specs.Codes.{literal_of}
use Rattle.clauses.specs.Store.{start_at, Placed, clause_at, clauses_of}
use Rattle.clauses.proofs.Holding.{clauses_length}
use Rattle.writer.specs.Text.{Room, Formed, Counted, WroteCounted}
use Rattle.writer.proofs.Texts.{Parts, Going, going_room, going_same, going_on, going_end, room-first, wrote_none}

module _ {heads lits : List ℕ} {n : ℕ} (f : Formed heads lits n) where
  -- The clauses' starts rise.
  rises : (d k : ℕ) → k + d ≡ n → start_at heads k ≤ start_at heads n
  rises zero k e = let same : k ≡ n = omega arith in rw same (omega arith)
  rises (suc d) k e = omega (arith, f.ordered k (omega arith), rises d (k + 1) (omega arith))

  pub formed_placed : (k : ℕ) → k < n → Placed heads lits k
  formed_placed k h = record {
    room = omega (arith, f.room);
    ordered = f.ordered k h;
    inside = omega (arith, f.inside, rises (n - (k + 1)) (k + 1) (omega arith));
  }

-- The k-th of the clauses is the k-th clause.
pub clauses_at : (heads lits : List ℕ) (n k : ℕ) → k < n → get_or (clauses_of heads lits n) k [] ≡ clause_at heads lits k
unfolding clauses_of
clauses_at heads lits zero k h = absurd (omega arith)
clauses_at heads lits (suc n) k h =
    bool_cases (ltb k n)
    (λ y. get_or-append (clauses_of heads lits n) (clause_at heads lits n ∷ []) [] k (below (ltb-true k n y)) ∙ clauses_at heads lits n k (ltb-true k n y))
    (λ m. last (omega (arith, ltb-false k n m)))
  where
    below : k < n → k < length (clauses_of heads lits n)
    below l = omega (arith, clauses_length heads lits n)

    last : k ≡ n → get_or (clauses_of heads lits n ++ (clause_at heads lits n ∷ [])) k [] ≡ clause_at heads lits k
    last e = get_or_at (clauses_of heads lits n) (clause_at heads lits n) [] [] k (clauses_length heads lits n ∙ sym e) ∙ ap (clause_at heads lits) (sym e)

-- The text of the clauses from the k-th on.
abbrev pub clauses_from : List ℕ → List ℕ → ℕ → ℕ → List ℕ
clauses_from heads lits n k = write_clauses (drop k (clauses_of heads lits n))

pub clauses_more : (heads lits : List ℕ) (n k : ℕ) → k < n → Parts (clauses_from heads lits n k) (write_clause (clause_at heads lits k)) (clauses_from heads lits n (k + 1))
unfolding write_clauses
clauses_more heads lits n k h = record { are = ap write_clauses whole }
  where
    inside : k < length (clauses_of heads lits n)
    inside = omega (arith, clauses_length heads lits n)

    whole : drop k (clauses_of heads lits n) ≡ clause_at heads lits k ∷ drop (k + 1) (clauses_of heads lits n)
    whole = rw (add-one k, drop-cons (clauses_of heads lits n) k [] inside, clauses_at heads lits n k h)

pub clauses_end : (heads lits : List ℕ) (n k : ℕ) → n ≤ k → clauses_from heads lits n k ≡ []
unfolding write_clauses
clauses_end heads lits n k h =
    let past : length (clauses_of heads lits n) ≤ k = omega (arith, clauses_length heads lits n) in
    rw (drop_of_length-le (clauses_of heads lits n) past)

-- The k-th clause lies in a part of the literals.
pub stored_text : (heads lits : List ℕ) (k : ℕ) {codes : List ℕ} → codes ≡ slice (start_at heads k) (start_at heads (k + 1)) lits
    → write_clause (clause_at heads lits k) ≡ write_clause (map literal_of codes)
unfolding clause_at
stored_text heads lits k e = rw e

-- The first k clauses are written.
pub record WritingAll (before : List ℕ) (at : ℕ) (heads lits : List ℕ) (n : ℕ) (now : List ℕ) (place turns k : ℕ) : Type 0 where
  pub formed : Formed heads lits n
  pub going : Going before at (clauses_from heads lits n 0) (clauses_from heads lits n k) now place
  pub counted : Counted at place 0 turns

module _ {before heads lits now : List ℕ} {at n place turns k : ℕ} (w : WritingAll before at heads lits n now place turns k) where
  pub all_end : n ≤ k → WroteCounted before at (clauses_from heads lits n 0) now place 0 turns
  all_end h = record { wrote = going_end w.going (rw (clauses_end heads lits n k h) (wrote_none now place)); counted = w.counted }

  module _ (h : k < n) where
    pub all_room : Room now place (write_clause (clause_at heads lits k))
    all_room = room-first (clauses_more heads lits n k h) (going_room w.going)

    module _ {now' : List ℕ} {end spent : ℕ} (l : WroteCounted now place (write_clause (clause_at heads lits k)) now' end 2 spent) where
      pub all_on : WritingAll before at heads lits n now' end (turns + (1 + spent)) (k + 1)
      all_on = record {
        formed = w.formed;
        going = going_on w.going (clauses_more heads lits n k h) l.wrote;
        counted = record {
          at_least = omega (arith, w.counted.at_least, l.counted.at_least);
          at_most = omega (arith, w.counted.at_most, l.counted.at_most);
        };
      }

      pub all_turns_lem : turns + (1 + spent) ≤ 2 * length before
      all_turns_lem = omega (arith, all_on.counted.at_most, (going_room all_on.going).fits, going_same all_on.going)
