-- Laws of moving clauses down. Assumes nothing.
use Rattle.std.proofs.Common.{◌≡◌, ℕ, ◌+◌, ◌-◌, ◌*◌, ◌/◌, ◌%◌, ◌^◌, ◌<◌, ◌≤◌, eqb, ◌⊎◌, List, [], ◌∷◌, ◌++◌, map, length, get_or, take}
use Rattle.std.proofs.Common.{sym, refl, ap, ◌∙◌, ⊎_elim, append-nil, arith, length-take-le, get_or-drop, get_or-take, ext_get_or, eqb-true}
use borrow.Author.Tests.{eqb-false}
use Rattle.std.proofs.Math.Seq.{slice, length-slice}
use Rattle.meaning.proofs.Truth.{bool_cases}
use Rattle.rules.specs.Judging.{Live}
use Rattle.clauses.specs.Codes.{literal_of}
use Rattle.clauses.specs.Store.{id_at, start_at, RoomFor, written, entry_at, live_of, Store, Holds}
use Rattle.clauses.specs.Moving.{Moved, Movable, Kept, Dropped, AllMoved}
use Rattle.clauses.proofs.Entries.{clause_is, entry_live, entry_deleted, live_more, start-below}
use Rattle.clauses.proofs.Numbers.{cut}
use Rattle.clauses.proofs.Heads.{written-long, written-ids, written_starts, written_id, written_end}
use Rattle.clauses.proofs.Holding.{holds_literals, holds_more}

-- The same elements are the same part.
parts_same : (xs ys : List ℕ) (a e b f : ℕ) → e ≤ length xs → f ≤ length ys → e - a ≡ f - b
    → ((i : ℕ) → a + i < e → get_or xs (a + i) 0 ≡ get_or ys (b + i) 0) → slice a e xs ≡ slice b f ys
parts_same xs ys a e b f h l size each =
    ext_get_or 0 (slice a e xs) (slice b f ys) (length-slice a e xs h ∙ (size ∙ sym (length-slice b f ys l))) same
  where
    same : (i : ℕ) → i < length (slice a e xs) → get_or (slice a e xs) i 0 ≡ get_or (slice b f ys) i 0
    same i m =
        let n : i < e - a = rw (length-slice a e xs h) at m in
        get_or-drop a (take e xs) i 0
        ∙ (get_or-take e xs (a + i) 0 (omega arith)
        ∙ (each i (omega arith)
        ∙ (sym (get_or-take f ys (b + i) 0 (omega arith))
        ∙ sym (get_or-drop b (take f ys) i 0))))

fronts_same : (xs ys : List ℕ) (n : ℕ) → n ≤ length xs → n ≤ length ys → ((i : ℕ) → i < n → get_or xs i 0 ≡ get_or ys i 0) → take n xs ≡ take n ys
fronts_same xs ys n h l each =
    ext_get_or 0 (take n xs) (take n ys) (length-take-le n xs h ∙ sym (length-take-le n ys l)) same
  where
    same : (i : ℕ) → i < length (take n xs) → get_or (take n xs) i 0 ≡ get_or (take n ys) i 0
    same i m =
        let lt : i < n = rw (length-take-le n xs h) at m in
        get_or-take n xs i 0 lt ∙ (each i lt ∙ sym (get_or-take n ys i 0 lt))

-- The first k clauses are moved: m of them stay, with w literals. What is behind them is as it was; and the m clauses are a
-- store that holds the live ones of the first k.
pub record Compacting (heads₀ lits₀ : List ℕ) (n : ℕ) (heads lits : List ℕ) (k m w moves : ℕ) : Type 0 where
  pub within : k ≤ n
  pub kept : m ≤ k
  pub down : w ≤ start_at heads₀ k
  pub level : m ≡ k → w ≡ start_at heads₀ k
  pub moves_counted : moves ≡ w
  pub heads_long : length heads ≡ length heads₀
  pub lits_long : length lits ≡ length lits₀
  pub ids_rest : (i : ℕ) → k ≤ i → id_at heads i ≡ id_at heads₀ i
  pub starts_rest : (i : ℕ) → k ≤ i → start_at heads i ≡ start_at heads₀ i
  pub lits_rest : (i : ℕ) → start_at heads₀ k ≤ i → get_or lits i 0 ≡ get_or lits₀ i 0
  pub all_live : (i : ℕ) → i < m → id_at heads i % 2 ≡ 0
  pub bounds : (b : ℕ) → ((i : ℕ) → i < start_at heads₀ k → get_or lits₀ i 0 < b) → (i : ℕ) → i < w → get_or lits i 0 < b
  pub larger : (i j : ℕ) → i < m → k ≤ j → j < n → id_at heads i / 2 < id_at heads₀ j / 2
  pub holds : (used last : ℕ) → Store heads₀ lits₀ n used last → Holds heads lits m w last (live_of heads₀ lits₀ k)

module _ (heads₀ lits₀ : List ℕ) (n used₀ last₀ : ℕ) (s : Store heads₀ lits₀ n used₀ last₀) (heads lits : List ℕ) (k m w moves : ℕ)
    (c : Compacting heads₀ lits₀ n heads lits k m w moves) (more : k < n) where
  id_there : id_at heads k ≡ id_at heads₀ k
  id_there = c.ids_rest k (omega arith)

  start_there : start_at heads k ≡ start_at heads₀ k
  start_there = c.starts_rest k (omega arith)

  end_there : start_at heads (k + 1) ≡ start_at heads₀ (k + 1)
  end_there = c.starts_rest (k + 1) (omega arith)

  forward : start_at heads₀ k ≤ start_at heads₀ (k + 1)
  forward = s.ordered k more

  inside : start_at heads₀ (k + 1) ≤ length lits₀
  inside = omega (arith, start-below heads₀ lits₀ n used₀ last₀ s (k + 1) (omega arith), s.fits)

  pub compacting_movable : Movable heads lits k m w moves
  compacting_movable = record {
    room = omega (arith, s.room, c.heads_long);
    below = c.kept;
    forward = rw (start_there, end_there) forward;
    inside = rw (end_there, c.lits_long) inside;
    down = rw start_there c.down;
    counted = c.moves_counted;
  }

  -- A deleted clause is passed by.
  pub compacting_drop : (id_at heads k % 2 ≡ 0 → ⊥) → Compacting heads₀ lits₀ n heads lits (k + 1) m w moves
  compacting_drop deleted = record {
    within = omega arith;
    kept = omega (arith, c.kept);
    down = omega (arith, c.down, forward);
    level = λ e. absurd (omega (arith, c.kept));
    moves_counted = c.moves_counted;
    heads_long = c.heads_long;
    lits_long = c.lits_long;
    ids_rest = λ i h. c.ids_rest i (omega arith);
    starts_rest = λ i h. c.starts_rest i (omega arith);
    lits_rest = λ i h. c.lits_rest i (omega (arith, forward));
    all_live = c.all_live;
    bounds = λ b f. c.bounds b (λ i h. f i (omega (arith, forward)));
    larger = λ i j h l b. c.larger i j h (omega arith) b;
    holds = λ used last t. rw same (c.holds used last t);
  }
    where
      same : live_of heads₀ lits₀ (k + 1) ≡ live_of heads₀ lits₀ k
      same =
          live_more heads₀ lits₀ k
          ∙ (ap (λ (l : Live). live_of heads₀ lits₀ k ++ l) (entry_deleted heads₀ lits₀ k (λ e. deleted (rw id_there e))) ∙ append-nil (live_of heads₀ lits₀ k))

  -- A live clause moves down.
  module _ (live : id_at heads k % 2 ≡ 0) (lits' : List ℕ) (moved : Moved lits (start_at heads k) (start_at heads (k + 1)) w lits') where
    size : ℕ
    size = start_at heads (k + 1) - start_at heads k

    size_is : size ≡ start_at heads₀ (k + 1) - start_at heads₀ k
    unfolding size
    size_is = rw (start_there, end_there)

    after : List ℕ
    after = written heads m (id_at heads k) (w + size)

    room : RoomFor heads (m + 1)
    room = omega (arith, s.room, c.heads_long, c.kept)

    new_id : id_at after m ≡ id_at heads₀ k
    unfolding after
    new_id = written_id heads m (id_at heads k) (w + size) room ∙ id_there

    rest_ids : (i : ℕ) → k + 1 ≤ i → id_at after i ≡ id_at heads₀ i
    unfolding after
    rest_ids i h = written-ids heads m (id_at heads k) (w + size) i (λ e. omega (arith, c.kept)) ∙ c.ids_rest i (omega arith)

    -- Where nothing was dropped yet, the end that is written is the one that stands there.
    rest_starts : (i : ℕ) → k + 1 ≤ i → start_at after i ≡ start_at heads₀ i
    unfolding after
    rest_starts i h = bool_cases (eqb i (m + 1)) (λ y. there (eqb-true i (m + 1) y)) (λ d. elsewhere (eqb-false i (m + 1) d))
      where
        there : i ≡ m + 1 → start_at after i ≡ start_at heads₀ i
        there e =
            let all : m ≡ k = omega (arith, c.kept) in
            let z : k + 1 ≡ i = omega arith in
            let v : w + size ≡ start_at heads₀ (k + 1) = omega (arith, c.level all, size_is, forward) in
            ap (start_at after) e ∙ (written_end heads m (id_at heads k) (w + size) room ∙ (v ∙ ap (start_at heads₀) z))

        elsewhere : (i ≡ m + 1 → ⊥) → start_at after i ≡ start_at heads₀ i
        elsewhere d = written_starts heads m (id_at heads k) (w + size) i d ∙ c.starts_rest i (omega arith)

    larger_more : (i j : ℕ) → i < m + 1 → k + 1 ≤ j → j < n → id_at after i / 2 < id_at heads₀ j / 2
    unfolding after
    larger_more i j h l b =
        ⊎_elim
        (λ lt. rw (written-ids heads m (id_at heads k) (w + size) i (λ e. omega arith)) (c.larger i j lt (omega arith) b))
        (λ ge. let z : i ≡ m = omega arith in rw (z, new_id) (s.rising k j (omega arith) b))
        (cut i m)

    stay_live : (i : ℕ) → i < m + 1 → id_at after i % 2 ≡ 0
    unfolding after
    stay_live i h =
        ⊎_elim
        (λ lt. rw (written-ids heads m (id_at heads k) (w + size) i (λ e. omega arith)) (c.all_live i lt))
        (λ ge. let z : i ≡ m = omega arith in rw (z, new_id, ← id_there) live)
        (cut i m)

    fits_there : w + size ≤ length lits
    fits_there = omega (arith, size_is, c.down, forward, inside, c.lits_long)

    same_literals : slice w (w + size) lits' ≡ slice (start_at heads₀ k) (start_at heads₀ (k + 1)) lits₀
    same_literals =
        parts_same lits' lits₀ w (w + size) (start_at heads₀ k) (start_at heads₀ (k + 1))
        (omega (arith, fits_there, moved.long))
        inside
        (omega (arith, size_is))
        (λ i h.
        moved.moved i (omega (arith, size_is, start_there, end_there))
        ∙ (ap (λ (x : ℕ). get_or lits (x + i) 0) start_there ∙ c.lits_rest (start_at heads₀ k + i) (omega arith)))

    same_entry : entry_at heads₀ lits₀ k ≡ (id_at heads k / 2, map literal_of (slice w (w + size) lits')) ∷ []
    same_entry =
        entry_live heads₀ lits₀ k (rw (← id_there) live)
        ∙ rw (id_there, same_literals, clause_is heads₀ lits₀ k (start_at heads₀ k) (start_at heads₀ (k + 1)) refl refl)

    holds_on : (used last : ℕ) → Store heads₀ lits₀ n used last → Holds after lits' (m + 1) (w + size) last (live_of heads₀ lits₀ (k + 1))
    unfolding after
    holds_on used last t =
        rw (live_more heads₀ lits₀ k, same_entry)
        (holds_more heads lits' m w last (live_of heads₀ lits₀ k)
        (holds_literals heads lits m w last (live_of heads₀ lits₀ k) (c.holds used last t) lits' (fronts_same lits' lits w (omega (arith, fits_there, moved.long)) (omega (arith, fits_there)) moved.front) moved.long)
        (id_at heads k)
        (w + size)
        room
        live
        (λ i h. rw id_there (c.larger i k h (omega arith) more))
        (rw id_there (t.below k more))
        (omega arith)
        (omega (arith, fits_there, moved.long)))

    bounds_on : (b : ℕ) → ((i : ℕ) → i < start_at heads₀ (k + 1) → get_or lits₀ i 0 < b) → (i : ℕ) → i < w + size → get_or lits' i 0 < b
    bounds_on b f i h = ⊎_elim (λ lt. rw (moved.front i lt) (c.bounds b (λ j g. f j (omega (arith, forward))) i lt)) (λ ge. new (i - w) (omega arith)) (cut i w)
      where
        new : (j : ℕ) → i ≡ w + j → get_or lits' i 0 < b
        new j e =
            let here : get_or lits' i 0 ≡ get_or lits₀ (start_at heads₀ k + j) 0 =
            ap (λ (x : ℕ). get_or lits' x 0) e
            ∙ (moved.moved j (omega (arith, size_is, start_there, end_there))
            ∙ (ap (λ (x : ℕ). get_or lits (x + j) 0) start_there ∙ c.lits_rest (start_at heads₀ k + j) (omega arith))) in
            rw here (f (start_at heads₀ k + j) (omega (arith, size_is)))

    pub compacting_keep : Compacting heads₀ lits₀ n (written heads m (id_at heads k) (w + (start_at heads (k + 1) - start_at heads k))) lits' (k + 1) (m + 1) (w + (start_at heads (k + 1) - start_at heads k))
        (moves + (start_at heads (k + 1) - start_at heads k))
    unfolding after size
    compacting_keep = record {
      within = omega arith;
      kept = omega (arith, c.kept);
      down = omega (arith, c.down, forward, size_is);
      level = λ e. omega (arith, c.level (omega arith), forward, size_is);
      moves_counted = ap (λ (x : ℕ). x + size) c.moves_counted;
      heads_long = written-long heads m (id_at heads k) (w + size) ∙ c.heads_long;
      lits_long = moved.long ∙ c.lits_long;
      ids_rest = rest_ids;
      starts_rest = rest_starts;
      lits_rest = λ i h. moved.behind i (rw end_there h) ∙ c.lits_rest i (omega (arith, forward));
      all_live = stay_live;
      bounds = bounds_on;
      larger = larger_more;
      holds = holds_on;
    }

-- One clause, in the course of the whole.
pub compacting_on : (heads₀ lits₀ : List ℕ) (n used₀ last₀ : ℕ) → Store heads₀ lits₀ n used₀ last₀
    → (heads lits : List ℕ) (k m w moves : ℕ) → Compacting heads₀ lits₀ n heads lits k m w moves → k < n
    → (heads' lits' : List ℕ) (m' w' moves' : ℕ)
    → Kept heads lits k m w moves heads' lits' m' w' moves' ⊎ Dropped heads lits k m w moves heads' lits' m' w' moves'
    → Compacting heads₀ lits₀ n heads' lits' (k + 1) m' w' moves'
compacting_on heads₀ lits₀ n used₀ last₀ s heads lits k m w moves c more heads' lits' m' w' moves' one =
    ⊎_elim
    (λ (x : Kept heads lits k m w moves heads' lits' m' w' moves').
    rw (x.head, x.next, x.end, x.counted)
    (compacting_keep heads₀ lits₀ n used₀ last₀ s heads lits k m w moves c more x.is_live lits' x.literals))
    (λ (x : Dropped heads lits k m w moves heads' lits' m' w' moves').
    rw (x.head, x.literals, x.next, x.end, x.counted)
    (compacting_drop heads₀ lits₀ n used₀ last₀ s heads lits k m w moves c more x.is_deleted))
    one

-- The count fits, since no slice is that long.
pub compacting_small : (heads₀ lits₀ : List ℕ) (n used₀ last₀ : ℕ) → Store heads₀ lits₀ n used₀ last₀
    → (heads lits : List ℕ) (k m w moves : ℕ) → Compacting heads₀ lits₀ n heads lits k m w moves
    → length heads₀ * 4 < 2 ^ 63 → length lits₀ * 4 < 2 ^ 63 → moves + n < 2 ^ 64
compacting_small heads₀ lits₀ n used₀ last₀ s heads lits k m w moves c a b =
    omega (arith, start-below heads₀ lits₀ n used₀ last₀ s k c.within, s.fits, s.room)

-- All clauses.
pub compacting_end : (heads₀ lits₀ : List ℕ) (n : ℕ) (heads lits : List ℕ) (k m w moves : ℕ)
    → Compacting heads₀ lits₀ n heads lits k m w moves → n ≤ k
    → AllMoved heads₀ lits₀ n heads lits (record { n = m; used = w; turns = moves + n })
compacting_end heads₀ lits₀ n heads lits k m w moves c h = record {
  holds = λ used last live t. rw (sym t.same, sym all) (c.holds used last t.store);
  all_live = c.all_live;
  fewer = omega (arith, c.kept, c.within);
  shorter = rw all at c.down;
  below = λ b f. c.bounds b (λ i h. f i (rw all at h));
  counted = omega (arith, c.moves_counted);
  heads_long = c.heads_long;
  lits_long = c.lits_long;
}
  where
    all : k ≡ n
    all = omega (arith, c.within)
