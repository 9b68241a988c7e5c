-- Laws of the store for callers: what it holds when it is empty, what is found in it, what it holds after a clause is added or
-- deleted, after literals behind its own are written, and when it is the store of a formula. Assumes nothing.
use Rattle.std.proofs.Common.{◌≡◌, ℕ, zero, suc, ◌+◌, ◌*◌, ◌/◌, ◌%◌, ◌^◌, ◌<◌, ◌≤◌, eqb, List, [], ◌∷◌, ◌++◌, map, length, take}
use Rattle.std.proofs.Common.{sym, refl, ap, ◌∙◌, ⊎_elim, arith, length-append, eqb-true}
use borrow.Author.Tests.{eqb-false}
use Rattle.std.proofs.Math.Option.{none, some}
use Rattle.std.proofs.Math.Seq.{slice}
use Rattle.meaning.specs.Meaning.{Clause}
use Rattle.meaning.proofs.Truth.{bool_cases}
use Rattle.rules.specs.Judging.{Live, find, remove}
use Rattle.rules.specs.Answers.{numbered}
use Rattle.clauses.specs.Codes.{literal_of}
use Rattle.clauses.specs.Store.{id_at, start_at, RoomFor, written, marked, clause_at, entry_at, live_of, Store, Holds, clauses_of}
use Rattle.clauses.specs.Finding.{Rising, Searchable}
use Rattle.clauses.proofs.Entries.{
  entry_live,
  entry_deleted,
  clause_is,
  live_more,
  live-suc,
  live-none,
  entry_same,
  live_same,
  slice_same,
  start-below,
}
use Rattle.clauses.proofs.Numbers.{cut}
use Rattle.clauses.proofs.Heads.{written-long, written-ids, written_starts, written_id, written_end, marked-long, marked_id, marked-ids, marked_starts}
use Rattle.clauses.proofs.Looking.{remove_front, remove-behind, entry_removed, live_lacks, none_below, live_has}

-- A store meets what `find`, `lookup` and `compact` ask for.
pub store_searchable : (heads lits : List ℕ) (n used last : ℕ) → Store heads lits n used last → (id : ℕ) → id < 2 ^ 60 → Searchable heads n id
store_searchable heads lits n used last s id h = record { room = s.room; rising = s.rising; small = h }

-- No clause.
pub holds_empty : (heads lits : List ℕ) (last : ℕ) → RoomFor heads 0 → start_at heads 0 ≡ 0 → Holds heads lits 0 0 last []
holds_empty heads lits last room begins = record {
  store = record {
    room = room;
    begins = begins;
    ordered = λ k h. absurd (omega arith);
    ends = begins;
    fits = omega arith;
    rising = λ j k l h. absurd (omega arith);
    below = λ k h. absurd (omega arith);
  };
  same = live-none heads lits;
}

module _ (heads lits : List ℕ) (n used last : ℕ) (live : Live) (h : Holds heads lits n used last live) where
  -- A live clause is found by its id, and only a live clause is.
  pub holds_found : (k id : ℕ) → k < n → id_at heads k ≡ 2 * id → find id live ≡ some (clause_at heads lits k)
  holds_found k id l e = ap (find id) (sym h.same) ∙ live_has heads lits id n k h.store.rising l e

  pub holds_lacks : (id : ℕ) → ((k : ℕ) → k < n → id_at heads k ≡ 2 * id → ⊥) → find id live ≡ none
  holds_lacks id d = ap (find id) (sym h.same) ∙ live_lacks heads lits id n d

  -- The last id may grow.
  pub holds_last : (last' : ℕ) → last ≤ last' → Holds heads lits n used last' live
  holds_last last' g = record {
    store = record {
      room = h.store.room;
      begins = h.store.begins;
      ordered = h.store.ordered;
      ends = h.store.ends;
      fits = h.store.fits;
      rising = h.store.rising;
      below = λ k l. omega (arith, h.store.below k l);
    };
    same = h.same;
  }

  -- Literals from `used` on may change, or there may be more or fewer of them.
  pub holds_front : (lits' : List ℕ) → take used lits' ≡ take used lits → used ≤ length lits' → Holds heads lits' n used last live
  holds_front lits' s long = record {
    store = record {
      room = h.store.room;
      begins = h.store.begins;
      ordered = h.store.ordered;
      ends = h.store.ends;
      fits = long;
      rising = h.store.rising;
      below = h.store.below;
    };
    same = live_same heads lits heads lits' n (λ k l. entry_same heads lits heads lits' k refl (clause k l)) ∙ h.same;
  }
    where
      clause : (k : ℕ) → k < n → clause_at heads lits' k ≡ clause_at heads lits k
      clause k l =
          clause_is heads lits' k (start_at heads k) (start_at heads (k + 1)) refl refl
          ∙ (ap (map literal_of) (slice_same lits lits' (start_at heads k) (start_at heads (k + 1)) used (start-below heads lits n used last h.store (k + 1) (omega arith)) s)
          ∙ sym (clause_is heads lits k (start_at heads k) (start_at heads (k + 1)) refl refl))

  pub holds_literals : (lits' : List ℕ) → take used lits' ≡ take used lits → length lits' ≡ length lits → Holds heads lits' n used last live
  holds_literals lits' s long = holds_front lits' s (rw long h.store.fits)

-- One clause more, whose head is even, greater than all others and at most twice the last id.
module _ (heads lits : List ℕ) (n used last : ℕ) (live : Live) (h : Holds heads lits n used last live) (head end : ℕ)
    (room : RoomFor heads (n + 1)) (even : head % 2 ≡ 0) (larger : (k : ℕ) → k < n → id_at heads k / 2 < head / 2)
    (top : head / 2 ≤ last) (forward : used ≤ end) (inside : end ≤ length lits) where
  id_old : (k : ℕ) → k < n → id_at (written heads n head end) k ≡ id_at heads k
  id_old k l = written-ids heads n head end k (λ e. omega arith)

  id_new : id_at (written heads n head end) n ≡ head
  id_new = written_id heads n head end room

  start_old : (k : ℕ) → k < n + 1 → start_at (written heads n head end) k ≡ start_at heads k
  start_old k l = written_starts heads n head end k (λ e. omega arith)

  start_new : start_at (written heads n head end) (n + 1) ≡ end
  start_new = written_end heads n head end room

  ends_there : start_at (written heads n head end) n ≡ used
  ends_there = start_old n (omega arith) ∙ h.store.ends

  at_end_lem : (k : ℕ) → k < n + 1 → n ≤ k → k ≡ n
  at_end_lem k l g = omega arith

  store_more : Store (written heads n head end) lits (n + 1) end last
  store_more = record {
    room = rw (written-long heads n head end) room;
    begins = start_old 0 (omega arith) ∙ h.store.begins;
    ordered = λ k l.
        ⊎_elim
        (λ old. rw (start_old k l, start_old (k + 1) (omega arith)) (h.store.ordered k old))
        (λ new. rw (at_end_lem k l new, ends_there, start_new) forward)
        (cut k n);
    ends = start_new;
    fits = inside;
    rising = λ j k i l.
        ⊎_elim
        (λ old. rw (id_old j (omega arith), id_old k old) (h.store.rising j k i old))
        (λ new. rw (at_end_lem k l new, id_new, id_old j (omega arith)) (larger j (omega arith)))
        (cut k n);
    below = λ k l.
        ⊎_elim
        (λ old. rw (id_old k old) (h.store.below k old))
        (λ new. rw (at_end_lem k l new, id_new) top)
        (cut k n);
  }

  clause_old : (k : ℕ) → k < n → clause_at (written heads n head end) lits k ≡ clause_at heads lits k
  clause_old k l =
      clause_is (written heads n head end) lits k (start_at heads k) (start_at heads (k + 1)) (start_old k (omega arith)) (start_old (k + 1) (omega arith))
      ∙ sym (clause_is heads lits k (start_at heads k) (start_at heads (k + 1)) refl refl)

  entry_new : entry_at (written heads n head end) lits n ≡ (head / 2, map literal_of (slice used end lits)) ∷ []
  entry_new =
      entry_live (written heads n head end) lits n (rw id_new even)
      ∙ ap (λ (e : ℕ × Clause). e ∷ []) (rw (id_new, clause_is (written heads n head end) lits n used end ends_there start_new))

  pub holds_more : Holds (written heads n head end) lits (n + 1) end last (live ++ ((head / 2, map literal_of (slice used end lits)) ∷ []))
  holds_more = record {
    store = store_more;
    same =
        live_more (written heads n head end) lits n
        ∙ (ap (λ (l : Live). l ++ entry_at (written heads n head end) lits n)
        (live_same heads lits (written heads n head end) lits n (λ k l. entry_same heads lits (written heads n head end) lits k (id_old k l) (clause_old k l)) ∙ h.same)
        ∙ ap (λ (l : Live). live ++ l) entry_new);
  }

-- A clause is added under a fresh id: its literals are those from `used` up to `end`.
pub holds-append : (heads lits : List ℕ) (n used last : ℕ) (live : Live) → Holds heads lits n used last live
    → (id end : ℕ) → last < id → used ≤ end → end ≤ length lits → RoomFor heads (n + 1)
    → Holds (written heads n (2 * id) end) lits (n + 1) end id (live ++ ((id, map literal_of (slice used end lits)) ∷ []))
holds-append heads lits n used last live h id end fresh forward inside room =
    rw half at
    (holds_more heads lits n used id live (holds_last heads lits n used last live h id (omega arith)) (2 * id) end
    room
    (omega arith)
    (λ k l. omega (arith, h.store.below k l))
    (omega arith)
    forward
    inside)
  where
    half : 2 * id / 2 ≡ id
    half = omega arith

-- One clause is deleted.
module _ (heads lits : List ℕ) (k id : ℕ) (room : 3 * k < length heads) (is_id : id_at heads k ≡ 2 * id) where
  deleted_number : id_at (marked heads k) k ≡ 2 * id + 1
  deleted_number = marked_id heads k room ∙ omega arith

  same_half : (j : ℕ) → id_at (marked heads k) j / 2 ≡ id_at heads j / 2
  same_half j = bool_cases (eqb j k) (λ y. there (eqb-true j k y)) (λ n. elsewhere (eqb-false j k n))
    where
      there : j ≡ k → id_at (marked heads k) j / 2 ≡ id_at heads j / 2
      there e = rw (e, deleted_number, is_id) (omega arith)

      elsewhere : (j ≡ k → ⊥) → id_at (marked heads k) j / 2 ≡ id_at heads j / 2
      elsewhere d = ap (λ (x : ℕ). x / 2) (marked-ids heads k j d)

  same_clause : (j : ℕ) → clause_at (marked heads k) lits j ≡ clause_at heads lits j
  same_clause j =
      clause_is (marked heads k) lits j (start_at heads j) (start_at heads (j + 1)) (marked_starts heads k j) (marked_starts heads k (j + 1))
      ∙ sym (clause_is heads lits j (start_at heads j) (start_at heads (j + 1)) refl refl)

  same_entry : (j : ℕ) → (j ≡ k → ⊥) → entry_at (marked heads k) lits j ≡ entry_at heads lits j
  same_entry j d = entry_same heads lits (marked heads k) lits j (marked-ids heads k j d) (same_clause j)

  live_removed : (n : ℕ) → k < n → Rising heads n → live_of (marked heads k) lits n ≡ remove id (live_of heads lits n)
  live_removed zero l r = absurd (omega arith)
  live_removed (suc n) l r =
      ⊎_elim
      (λ lt.
      live-suc (marked heads k) lits n
      ∙ (ap (λ (x : Live). x ++ entry_at (marked heads k) lits n) (live_removed n lt (λ i j a b. r i j a (omega arith)))
      ∙ (ap (λ (x : Live). remove id (live_of heads lits n) ++ x) (same_entry n (λ e. omega arith))
      ∙ (sym (remove_front id (entry_at heads lits n) (live_of heads lits n) (clause_at heads lits k) (live_has heads lits id n k (λ i j a b. r i j a (omega arith)) lt is_id))
      ∙ sym (ap (remove id) (live-suc heads lits n))))))
      (λ ge.
      let z : n ≡ k = omega arith in
      live-suc (marked heads k) lits n
      ∙ (ap (λ (x : Live). x ++ entry_at (marked heads k) lits n) (live_same heads lits (marked heads k) lits n (λ j h. same_entry j (λ e. omega arith)))
      ∙ (ap (λ (x : Live). live_of heads lits n ++ x) (entry_deleted (marked heads k) lits n (λ e. odd (rw z at e)) ∙ sym (entry_removed heads lits id n (rw z is_id)))
      ∙ (sym (remove-behind id (entry_at heads lits n) (live_of heads lits n) (none_below heads lits id n r (rw z is_id)))
      ∙ sym (ap (remove id) (live-suc heads lits n))))))
      (cut k n)
    where
      odd : id_at (marked heads k) k % 2 ≡ 0 → ⊥
      odd e = omega (arith, deleted_number)

pub holds-delete : (heads lits : List ℕ) (n used last : ℕ) (live : Live) → Holds heads lits n used last live
    → (k id : ℕ) → k < n → id_at heads k ≡ 2 * id → Holds (marked heads k) lits n used last (remove id live)
holds-delete heads lits n used last live h k id l e =
    let room : 3 * k < length heads = omega (arith, h.store.room) in
    let start = marked_starts heads k in
    let half = same_half heads lits k id room e in
    record {
      store = record {
        room = rw (marked-long heads k) h.store.room;
        begins = start 0 ∙ h.store.begins;
        ordered = λ j m. rw (start j, start (j + 1)) (h.store.ordered j m);
        ends = start n ∙ h.store.ends;
        fits = h.store.fits;
        rising = λ i j a b. rw (half i, half j) (h.store.rising i j a b);
        below = λ j m. rw (half j) (h.store.below j m);
      };
      same = live_removed heads lits k id room e n l h.store.rising ∙ ap (remove id) h.same;
    }

-- The store of a formula: the k-th clause has the id k + 1.

pub numbered_more : (m : ℕ) (cs : List Clause) (c : Clause) → numbered m (cs ++ (c ∷ [])) ≡ numbered m cs ++ ((suc (m + length cs), c) ∷ [])
unfolding numbered
numbered_more m [] c = ap (λ (x : ℕ). (suc x, c) ∷ []) (omega arith)
numbered_more m (d ∷ cs) c =
    ap (λ (l : Live). (suc m, d) ∷ l)
    (numbered_more (suc m) cs c ∙ ap (λ (x : ℕ). numbered (suc m) cs ++ ((x, c) ∷ [])) (omega arith))

module _ (heads lits : List ℕ) where
  clauses_suc : (n : ℕ) → clauses_of heads lits (suc n) ≡ clauses_of heads lits n ++ (clause_at heads lits n ∷ [])
  unfolding clauses_of
  clauses_suc n = refl

  pub clauses_length : (n : ℕ) → length (clauses_of heads lits n) ≡ n
  unfolding clauses_of
  clauses_length zero = refl
  clauses_length (suc n) = ap length (clauses_suc n) ∙ (length-append (clauses_of heads lits n) (clause_at heads lits n ∷ []) ∙ (rw (clauses_length n) (omega arith)))

  numbered-none : [] ≡ numbered 0 (clauses_of heads lits 0)
  unfolding numbered clauses_of
  numbered-none = refl

  pub live_of_formula : (n : ℕ) → ((k : ℕ) → k < n → id_at heads k ≡ 2 * (k + 1)) → live_of heads lits n ≡ numbered 0 (clauses_of heads lits n)
  live_of_formula zero d = live-none heads lits ∙ numbered-none
  live_of_formula (suc n) d =
      live-suc heads lits n
      ∙ (ap (λ (l : Live). l ++ entry_at heads lits n) (live_of_formula n (λ k h. d k (omega arith)))
      ∙ (ap (λ (l : Live). numbered 0 (clauses_of heads lits n) ++ l) entry
      ∙ (sym (numbered_more 0 (clauses_of heads lits n) (clause_at heads lits n)) ∙ sym (ap (numbered 0) (clauses_suc n)))))
    where
      entry : entry_at heads lits n ≡ (suc (0 + length (clauses_of heads lits n)), clause_at heads lits n) ∷ []
      entry =
          entry_live heads lits n (rw (d n (omega arith)) (omega arith))
          ∙ ap (λ (x : ℕ). (x, clause_at heads lits n) ∷ []) (rw (d n (omega arith), clauses_length n) (omega arith))
