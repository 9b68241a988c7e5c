-- Laws of judging groups: one group by itself, and one after the other. Assumes nothing.
use Rattle.std.proofs.Common.{ℕ, ◌+◌, ◌-◌, ◌*◌, ◌/◌, ◌%◌, ◌^◌, ◌<◌, ◌≤◌, ◌≡◌, Bool, true, false, ◌||◌, List, [], ◌∷◌, ◌++◌, map, length}
use Rattle.std.proofs.Common.{get_or, take, drop, min, Ok, Err, Option as Maybe, None as Nowhere}
use Rattle.std.proofs.Common.{nat_eq, length-append, true≢false, refl, sym, ap, subst, ◌∙◌, inl, arith, add-zero, is_err, length-drop, get_or-take, get_or-drop}
use borrow.Author.Tests.{eqb-true, eq-eqb}
use Rattle.std.proofs.Math.Seq.{take-append_seam, drop-append_seam}
use Rattle.std.specs.List.{IsChunkByPrefix}
use Rattle.std.proofs.Math.Option.{Option, none, some}
use Rattle.std.proofs.Math.Seq.{slice, length-slice}
use Rattle.meaning.specs.Meaning.{Literal, Clause}
use Rattle.rules.specs.Judging.{Ground as Wrong, Live, find, hint_not_live, opposite, without, has_opposites, Trail, some_true, take_hints, group_end, group_fault, groups_fault, groups}
use Rattle.rules.proofs.Options.{some-none, option_cases}
use Rattle.clauses.specs.Codes.{literal_of, hint_of}
use Rattle.clauses.specs.Store.{start_at, Placed, live_of}
use Rattle.clauses.specs.Counting.{Reaches, Counts}
use Rattle.clauses.specs.Finding.{Finds, AtMostHalvings}
use Rattle.clauses.proofs.Entries.{clause_is, start-below}
use Rattle.clauses.proofs.Holding.{holds_found, holds_lacks}
use Rattle.clauses.proofs.Counting.{reaches_less, reaches_plus}
use Rattle.clauses.proofs.Parts.{part_rest}
use Rattle.groups.specs.Matching.{GroupAt, NextGroup}
use Rattle.groups.proofs.Hints.{groups-one, groups_end}
use Rattle.assignment.specs.Marks.{Shows, Laid, Marked, Undoable, Undone}
use Rattle.assignment.proofs.Marking.{laid_none, laid_join, laid_back, laid_undoable}
use Rattle.judge.proofs.Hinting.{halvings_short}
use Rattle.judge.specs.Falsifying.{Outcome, OthersCase, PassedCase, FalsifiesOthers}
use Rattle.judge.specs.declared.falsifying.Obstacle.TheVariants.{SomeTrue, TooShort as NoRoom}
use Rattle.addition.specs.Verdicts.{Verdict, ground_of, Says, costs, Fit}
use Rattle.addition.specs.Addition.{ids_of, TriesCase, TriesHints, PlaceOf, JudgesGroup, JudgesGroups}
use Rattle.addition.specs.declared.Ground.TheVariants.{HintNotLive}
use Rattle.addition.specs.declared.Failure.TheVariants.{Refused, TooShort}
use Rattle.addition.proofs.Verdicts.{says_more}
use Rattle.addition.proofs.Costs.{costs-add, costs_next, costs_least, costs_more, ready_short, cost-most, ids-long}

-- What the document says of one group.
module _ (live : Live) (a : Trail) (d : ℕ) (others : Clause) (hs : List ℕ) where
  group_done : (some_true a others || has_opposites others) ≡ true → group_fault live a d others hs ≡ none
  unfolding group_fault
  group_done e = rw (e, group_fault)

  group_on : (some_true a others || has_opposites others) ≡ false → group_fault live a d others hs ≡ group_end d (take_hints live (map opposite others ++ a) hs)
  unfolding group_fault
  group_on e = rw (e, group_fault)

groups_none : (live : Live) (a : Trail) (q : Literal) → groups_fault live a q [] ≡ none
unfolding groups_fault
groups_none live a q = refl

module _ (live : Live) (a : Trail) (q : Literal) (d : ℕ) (hs : List ℕ) (gs : List (ℕ × List ℕ)) where
  group_lacks : find d live ≡ none → groups_fault live a q ((d, hs) ∷ gs) ≡ some (hint_not_live d)
  unfolding groups_fault
  group_lacks e = rw (e, groups_fault)

  module _ (c : Clause) (found : find d live ≡ some c) where
    group_fine : group_fault live a d (without q c) hs ≡ none → groups_fault live a q ((d, hs) ∷ gs) ≡ groups_fault live a q gs
    unfolding groups_fault
    group_fine e = rw (found, groups_fault, e)

    group_wrong : (f : Wrong) → group_fault live a d (without q c) hs ≡ some f → groups_fault live a q ((d, hs) ∷ gs) ≡ some f
    unfolding groups_fault
    group_wrong f e = rw (found, groups_fault, e)

group_alone : (live : Live) (a : Trail) (q : Literal) (d : ℕ) (hs : List ℕ) (c : Clause) → find d live ≡ some c → groups_fault live a q ((d, hs) ∷ []) ≡ group_fault live a d (without q c) hs
group_alone live a q d hs c found =
    option_cases (group_fault live a d (without q c) hs)
    (λ e. group_fine live a q d hs [] c found e ∙ (groups_none live a q ∙ sym e))
    (λ f e. group_wrong live a q d hs [] c found f e ∙ sym e)

-- The clause at a place of the store, and its literals.
module _ {heads lits : List ℕ} {n : ℕ} {marks : List ℕ} (fit : Fit heads lits n marks) {d place : ℕ} (at : PlaceOf heads n d place) where
  abbrev live : Live
  live = live_of heads lits n

  abbrev literals : List ℕ
  literals = slice (start_at heads place) (start_at heads (place + 1)) lits

  ends_below : start_at heads (place + 1) ≤ fit.ready.used
  ends_below = start-below heads lits n fit.ready.used fit.ready.last fit.ready.store (place + 1) (omega (arith, at.inside))

  pub place_placed : Placed heads lits place
  place_placed = record { room = omega (arith, at.inside, fit.ready.store.room); ordered = fit.ready.store.ordered place at.inside; inside = omega (arith, ends_below, fit.ready.store.fits) }

  place-long : length literals ≡ start_at heads (place + 1) - start_at heads place
  place-long = length-slice (start_at heads place) (start_at heads (place + 1)) lits place_placed.inside

  pub place_short : length literals ≤ length lits
  place_short = omega (arith, place-long, place_placed.inside)

  pub place_known : Marked literals marks
  place_known = record {
    below = λ i h.
        let inside : start_at heads place + i < start_at heads (place + 1) = omega (arith, place-long) in
        rw (get_or-drop (start_at heads place) (take (start_at heads (place + 1)) lits) i 0, get_or-take (start_at heads (place + 1)) lits (start_at heads place + i) 0 inside)
        (fit.ready.known (start_at heads place + i) (omega (arith, ends_below)));
  }

  place_found : find d live ≡ some (map literal_of literals)
  place_found =
      holds_found heads lits n fit.ready.used fit.ready.last live (record { store = fit.ready.store; same = refl }) place d at.inside at.has
      ∙ ap some (clause_is heads lits place (start_at heads place) (start_at heads (place + 1)) refl refl)

-- One group, over the literals xs of its clause.
module _ (lits : List ℕ) (q : ℕ) {live : Live} {n : ℕ} {xs marks tape : List ℕ} {t d : ℕ} {ids : List ℕ} (found : find d live ≡ some (map literal_of xs)) (long : length xs ≤ length lits)
    {m₁ tape₁ : List ℕ} {f : Outcome} {t₁ passed : ℕ} (fell : FalsifiesOthers xs (without (literal_of q) (map literal_of xs)) marks tape t m₁ tape₁ f t₁ passed)
    {m₂ tape₂ : List ℕ} {v : Verdict} {t₂ taken : ℕ} (tried : TriesHints live n d ids f m₁ tape₁ t₁ m₂ tape₂ v t₂ taken) where
  abbrev m : ℕ
  m = length lits

  abbrev others : Clause
  others = without (literal_of q) (map literal_of xs)

  both_laid : Laid marks tape t m₂ tape₂ t₂
  both_laid = laid_join marks tape t m₁ tape₁ t₁ m₂ tape₂ t₂ fell.laid tried.laid

  pub there_undoable : Undoable m₂ tape₂ t t₂
  there_undoable = laid_undoable marks tape t m₂ tape₂ t₂ both_laid

  there_says : (a : Trail) (g : Outcome) → OthersCase a others m₁ g → PassedCase (length xs) (length tape) t₁ passed g → TriesCase live n d ids m₁ (length tape₁) (t₁ + length ids) v taken g
      → Says (group_fault live a d others ids) (length tape) (t + m + length ids) v
  there_says a (Ok done) o p k =
      says_more (group_on live a d others ids o.none_true) fell.laid.long (omega (arith, fell.few)) (k (map opposite others ++ a) o.shows).says
  there_says a (Err SomeTrue) o p k = rw k.0 (record { case = group_done live a d others ids o })
  there_says a (Err NoRoom) o p k = rw k.0 (record { case = omega (arith, p.0, p.1, fell.few) })

  there_passed : (g : Outcome) → PassedCase (length xs) (length tape) t₁ passed g → passed ≤ m
  there_passed (Ok done) p = omega arith
  there_passed (Err SomeTrue) p = omega arith
  there_passed (Err NoRoom) p = omega (arith, p.0)

  there_taken : (short : (id : ℕ) (c : Clause) → find id live ≡ some c → length c ≤ m) → n ≤ 2 ^ 64 → (a : Trail) (g : Outcome) → OthersCase a others m₁ g
      → TriesCase live n d ids m₁ (length tape₁) (t₁ + length ids) v taken g
      → taken + 5 * length ids ≤ costs m (length ids)
  there_taken short few a (Ok done) o k = omega (arith, (k (map opposite others ++ a) o.shows).most 64 few, cost-most live m short ids (map opposite others ++ a))
  there_taken short few a (Err SomeTrue) o k = omega (arith, k.1, cost-most live m short ids a)
  there_taken short few a (Err NoRoom) o k = omega (arith, k.1, cost-most live m short ids a)

  module _ (short : (id : ℕ) (c : Clause) → find id live ≡ some c → length c ≤ m) (few : n ≤ 2 ^ 64) {a : Trail} (s : Shows marks a) (room : t ≤ length tape) {before : ℕ} (small : before < 65 + length ids)
      {m₃ : List ℕ} {t₃ back : ℕ} (undone : Undone m₂ tape₂ t t₂ m₃) (u : t₃ ≡ min t t₂) (b : back ≡ t₂ - t) {all : ℕ} (together : Counts (before + passed + 1 + back) taken all) where
    there_bounded : all ≤ costs m (length ids + 1)
    there_bounded =
        omega (arith, there_taken short few a f (fell.outcome a s) tried.case, there_passed f fell.so_many, costs_next m (length ids), fell.few, tried.few, together.at_most)

    there_judged : JudgesGroup live lits marks tape t q d ids before m₃ tape₂ v t₃ all
    there_judged = record {
      back = undone.back marks both_laid.differ;
      stays = omega (arith, both_laid.forward);
      laid = laid_back marks tape t marks tape t m₂ tape₂ t₂ (laid_none marks tape t room) both_laid;
      says = λ e h.
          says_more (group_alone live e (literal_of q) d ids (map literal_of xs) found) refl (omega arith) (there_says e f (fell.outcome e h) fell.so_many tried.case);
      counted = omega (arith, together.first);
      bounded = there_bounded;
    }

-- The same for the clause at a place of the store.
module _ (hints : List ℕ) (q : ℕ) {heads lits : List ℕ} {n : ℕ} {marks : List ℕ} (fit : Fit heads lits n marks) {d place : ℕ} (at : PlaceOf heads n d place) {tape : List ℕ} {t : ℕ} {xs : List ℕ}
    (is : xs ≡ slice (start_at heads place) (start_at heads (place + 1)) lits)
    {m₁ tape₁ : List ℕ} {f : Outcome} {t₁ passed : ℕ} (fell : FalsifiesOthers xs (without (literal_of q) (map literal_of xs)) marks tape t m₁ tape₁ f t₁ passed)
    {m₂ tape₂ : List ℕ} {v : Verdict} {t₂ taken : ℕ} (tried : TriesHints (live_of heads lits n) n d (ids_of hints) f m₁ tape₁ t₁ m₂ tape₂ v t₂ taken) where
  found_there : find d (live_of heads lits n) ≡ some (map literal_of xs)
  found_there = rw is (place_found fit at)

  short_there : length xs ≤ length lits
  short_there = rw is (place_short fit at)

  pub place_undoable : Undoable m₂ tape₂ t t₂
  place_undoable = there_undoable lits q found_there short_there fell tried

  module _ (room : t ≤ length tape) {before : ℕ} (small : before < 65 + length hints) {m₃ : List ℕ} {t₃ back : ℕ} (undone : Undone m₂ tape₂ t t₂ m₃) (u : t₃ ≡ min t t₂) (b : back ≡ t₂ - t) where
    pub place_judged : length heads < 2 ^ 64 → {all : ℕ} → Counts (before + passed + 1 + back) taken all
        → JudgesGroup (live_of heads lits n) lits marks tape t q d (ids_of hints) before m₃ tape₂ v t₃ all
    place_judged long together =
        there_judged lits q found_there short_there fell tried (ready_short heads lits n marks fit.ready) (omega (arith, fit.ready.store.room)) fit.shows room (omega (arith, ids-long hints)) undone u b together

-- One group, by what came of looking its clause up.
module _ (group : List ℕ) (d : ℕ) (found : Maybe ℕ) {heads lits : List ℕ} {n : ℕ} {marks : List ℕ} (fit : Fit heads lits n marks) (in_store : Finds heads n d found) {turns : ℕ} (few : AtMostHalvings n turns)
    (long : length heads < 2 ^ 64) where
  abbrev now_live : Live
  now_live = live_of heads lits n

  pub short_turns : turns < 64
  short_turns = halvings_short n turns few (omega (arith, fit.ready.store.room))

  pub one_bound : turns + length group < 65 + length (take (length group - 1) (drop 1 group))
  one_bound = omega (arith, short_turns, ap length (part_rest group 1), length-drop 1 group)

  module _ {tape : List ℕ} {t q first : ℕ} (same : d ≡ first) where
    pub one_judged : {marks' tape' : List ℕ} {v : Verdict} {t' turns' : ℕ}
        → JudgesGroup now_live lits marks tape t q d (ids_of (take (length group - 1) (drop 1 group))) (turns + length group) marks' tape' v t' turns'
        → JudgesGroup now_live lits marks tape t q first (ids_of (drop 1 group)) (length group) marks' tape' v t' turns'
    one_judged j =
        let k = rw (same, part_rest group 1) at j in
        record { back = k.back; stays = k.stays; laid = k.laid; says = k.says; counted = omega (arith, k.counted); bounded = k.bounded }

    pub one_lacks : t ≤ length tape → found ≡ Nowhere
        → JudgesGroup now_live lits marks tape t q first (ids_of (drop 1 group)) (length group) marks tape (Err (Refused (HintNotLive d))) t (turns + length group)
    one_lacks room e =
        let lacks : find d now_live ≡ none = holds_lacks heads lits n fit.ready.used fit.ready.last now_live (record { store = fit.ready.store; same = refl }) d (subst (Finds heads n d) e in_store) in
        record {
          back = refl;
          stays = refl;
          laid = laid_none marks tape t room;
          says = λ a s. rw (← same) (record { case = group_lacks now_live a (literal_of q) d (ids_of (drop 1 group)) [] lacks });
          counted = omega arith;
          bounded = omega (arith, short_turns, ids-long (drop 1 group), length-drop 1 group, costs_least (length lits) (length (ids_of (drop 1 group)) + 1));
        }

-- The groups one after the other.

module _ (live : Live) (a : Trail) (q : Literal) (d : ℕ) (hs : List ℕ) (gs : List (ℕ × List ℕ)) where
  first_fine : groups_fault live a q ((d, hs) ∷ []) ≡ none → groups_fault live a q ((d, hs) ∷ gs) ≡ groups_fault live a q gs
  first_fine e =
      option_cases (find d live)
      (λ lacks. some-none (sym (group_lacks live a q d hs [] lacks) ∙ e))
      (λ c found. group_fine live a q d hs gs c found (sym (group_alone live a q d hs c found) ∙ e))

  first_wrong : (f : Wrong) → groups_fault live a q ((d, hs) ∷ []) ≡ some f → groups_fault live a q ((d, hs) ∷ gs) ≡ some f
  first_wrong f e =
      option_cases (find d live)
      (λ lacks. group_lacks live a q d hs gs lacks ∙ (sym (group_lacks live a q d hs [] lacks) ∙ e))
      (λ c found. group_wrong live a q d hs gs c found f (sym (group_alone live a q d hs c found) ∙ e))

  first_says : (room needed : ℕ) (v : Verdict) → is_err v ≡ true → Says (groups_fault live a q ((d, hs) ∷ [])) room needed v → Says (groups_fault live a q ((d, hs) ∷ gs)) room needed v
  first_says room needed (Ok done) y s = cc
  first_says room needed (Err (Refused g)) y s = record { case = first_wrong (ground_of g) s.case }
  first_says room needed (Err TooShort) y s = record { case = s.case }

accepted_none : (fault : Option Wrong) (room needed : ℕ) (v : Verdict) → is_err v ≡ false → Says fault room needed v → fault ≡ none
accepted_none fault room needed (Ok done) n s = s.case
accepted_none fault room needed (Err f) n s = cc

-- The groups that the hints are cut into: each begins with a code that begins one, and goes up to the next such code.

-- Whether a code goes with those in front of it.
abbrev pub goes_on : ℕ → ℕ → Bool
goes_on code next = nat_eq (next % 2) 0

-- The first group of these codes, and those behind it.
module _ (group rest : List ℕ) {codes : List ℕ} (begins : GroupAt codes 0) (is : codes ≡ group ++ rest) (some : 0 < length group) (cut : IsChunkByPrefix goes_on codes (length group)) where
  codes-long : length codes ≡ length group + length rest
  codes-long = ap length is ∙ length-append group rest

  next_there : NextGroup codes 1 (length group)
  next_there = record {
    passed = record {
      later = omega arith;
      evens = λ k a b. let e : k - 1 + 1 ≡ k = omega arith in eqb-true (get_or codes k 0 % 2) 0 (subst (λ (i : ℕ). nat_eq (get_or codes i 0 % 2) 0 ≡ true) e (cut.0 (k - 1) 0 (omega arith)));
    };
    group = record {
      within = omega (arith, codes-long);
      begins = λ more e. true≢false (sym (eq-eqb (get_or codes (length group) 0 % 2) 0 e) ∙ cut.1 more 0);
    };
  }

  rest_is : drop (length group) codes ≡ rest
  rest_is = ap (drop (length group)) is ∙ drop-append_seam group rest

  group_is : take (length group) codes ≡ group
  group_is = ap (take (length group)) is ∙ take-append_seam group rest

  pub rest_begins : GroupAt rest 0
  rest_begins = record {
    within = omega arith;
    begins = λ more. rw (← rest_is, get_or-drop (length group) codes 0 0, add-zero (length group)) (next_there.group.begins (omega (arith, codes-long)));
  }

  pub groups_now : groups (map hint_of codes) ≡ (get_or group 0 0 / 2, ids_of (drop 1 group)) ∷ groups (map hint_of rest)
  groups_now =
      let first : get_or codes 0 0 ≡ get_or group 0 0 = sym (get_or-take (length group) codes 0 0 some) ∙ ap (λ (l : List ℕ). get_or l 0 0) group_is in
      let one = groups-one codes 0 (length group) (omega (arith, codes-long)) (begins.begins (omega (arith, codes-long))) next_there in
      rw (group_is, rest_is, first) at one

-- The state between two groups: the marks are what they were, and the groups that are left say what all say.
pub record Going (live : Live) (lits hints marks₀ tape₀ : List ℕ) (t₀ q before : ℕ) (marks tape : List ℕ) (t : ℕ) (rest : List ℕ) (turns : ℕ) : Type 0 where
  pub back : marks ≡ marks₀
  pub stays : t ≡ t₀
  pub laid : Laid marks₀ tape₀ t₀ marks₀ tape t₀
  pub begins : GroupAt rest 0
  pub shorter : length rest ≤ length hints
  pub same : (a : Trail) → Shows marks₀ a → groups_fault live a (literal_of q) (groups (map hint_of hints)) ≡ groups_fault live a (literal_of q) (groups (map hint_of rest))
  pub counted : before ≤ turns
  pub all : Reaches (before + (length hints - length rest)) turns
  pub bounded : turns ≤ before + costs (length lits) (length hints - length rest)

module _ {live : Live} {lits hints marks tape : List ℕ} {t q before : ℕ} where
  pub going_start : t ≤ length tape → GroupAt hints 0 → Going live lits hints marks tape t q before marks tape t hints before
  going_start room g = record {
    back = refl;
    stays = refl;
    laid = laid_none marks tape t room;
    begins = g;
    shorter = omega arith;
    same = λ a s. refl;
    counted = omega arith;
    all = record { case = inl (omega arith) };
    bounded = omega arith;
  }

module _ {live : Live} {lits hints marks₀ tape₀ : List ℕ} {t₀ q before : ℕ} {marks tape : List ℕ} {t : ℕ} {codes : List ℕ} {turns : ℕ}
    (k : Going live lits hints marks₀ tape₀ t₀ q before marks tape t codes turns) where
  pub going_fit : {heads : List ℕ} {n : ℕ} → Fit heads lits n marks₀ → Fit heads lits n marks
  going_fit fit = rw k.back fit

  pub going_end : length codes ≡ 0 → JudgesGroups live lits hints marks₀ tape₀ t₀ q before marks tape (Ok tt) t turns
  going_end z =
      let whole : length hints - length codes ≡ length hints = omega arith in
      record {
        back = k.back;
        stays = k.stays;
        laid = k.laid;
        says = λ a s. record { case = k.same a s ∙ (ap (groups_fault live a (literal_of q)) (groups_end codes 0 (omega arith)) ∙ groups_none live a (literal_of q)) };
        counted = k.counted;
        all = λ e. rw (← whole) k.all;
        bounded = rw (← whole) k.bounded;
      }

  module _ (group rest : List ℕ) (is : codes ≡ group ++ rest) (some : 0 < length group) (cut : IsChunkByPrefix goes_on codes (length group)) {marks' tape' : List ℕ} {v : Verdict} {t' turns' : ℕ}
      (j : JudgesGroup live lits marks tape t q (get_or group 0 0 / 2) (ids_of (drop 1 group)) (length group) marks' tape' v t' turns') {sum : ℕ} (together : Counts turns turns' sum) where
    abbrev d : ℕ
    d = get_or group 0 0 / 2

    abbrev ids : List ℕ
    ids = ids_of (drop 1 group)

    many : length ids + 1 ≡ length group
    many = omega (arith, ids-long (drop 1 group), length-drop 1 group)

    left : length codes ≡ length group + length rest
    left = ap length is ∙ length-append group rest

    now_is : groups (map hint_of codes) ≡ (d, ids) ∷ groups (map hint_of rest)
    now_is = groups_now group rest k.begins is some cut

    laid_now : Laid marks₀ tape₀ t₀ marks₀ tape' t₀
    laid_now = laid_join marks₀ tape₀ t₀ marks₀ tape t₀ marks₀ tape' t₀ k.laid (subst (λ (m : List ℕ). Laid m tape t₀ m tape' t₀) k.back (subst (λ (u : ℕ). Laid marks tape u marks tape' u) k.stays j.laid))

    now_bounded : sum ≤ before + costs (length lits) (length hints - length rest)
    now_bounded =
        omega (
          arith,
          k.bounded,
          j.bounded,
          ap (costs (length lits)) many,
          costs-add (length lits) (length hints - length codes) (length group),
          ap (costs (length lits)) (let both : (length hints - length codes) + length group ≡ length hints - length rest = omega (arith, left, k.shorter) in both),
          together.at_most,
        )

    pub going_on : is_err v ≡ false → Going live lits hints marks₀ tape₀ t₀ q before marks' tape' t' rest sum
    going_on f = record {
      back = j.back ∙ k.back;
      stays = j.stays ∙ k.stays;
      laid = laid_now;
      begins = rest_begins group rest k.begins is some cut;
      shorter = omega (arith, left, k.shorter);
      same = λ a s.
          k.same a s
          ∙ (ap (groups_fault live a (literal_of q)) now_is
          ∙ first_fine live a (literal_of q) d ids (groups (map hint_of rest))
          (accepted_none (groups_fault live a (literal_of q) ((d, ids) ∷ [])) (length tape) (t + length lits + length ids) v f (j.says a (rw k.back s))));
      counted = omega (arith, k.counted, together.first);
      all =
          reaches_less (before + (length hints - length rest)) (before + (length hints - length codes) + length group) sum sum (omega (arith, left, k.shorter)) (omega arith)
          (reaches_plus (before + (length hints - length codes)) (length group) turns turns' sum k.all (record { case = inl j.counted }) together);
      bounded = now_bounded;
    }

    pub going_stop : is_err v ≡ true → JudgesGroups live lits hints marks₀ tape₀ t₀ q before marks' tape' v t' sum
    going_stop y = record {
      back = j.back ∙ k.back;
      stays = j.stays ∙ k.stays;
      laid = laid_now;
      says = λ a s.
          says_more (k.same a s ∙ ap (groups_fault live a (literal_of q)) now_is) k.laid.long (omega (arith, many, left, k.shorter, k.stays))
          (first_says live a (literal_of q) d ids (groups (map hint_of rest)) (length tape) (t + length lits + length ids) v y (j.says a (rw k.back s)));
      counted = omega (arith, k.counted, together.first);
      all = λ accepted. cc;
      bounded = omega (arith, now_bounded, costs_more (length lits) (length hints - length rest) (length hints) (omega arith));
    }
