-- Reading a step from a text: the state of the reader between two tokens, and what a token makes of it. Assumes nothing.
use Rattle.std.specs.Prelude.{Some, None, Ok, Err}
use Rattle.std.proofs.Common.{ℕ, ◌+◌, ◌≤◌, ◌<◌, ◌≡◌, ◌⊎◌, Bool, true, false, List, [], ◌∷◌, ◌++◌, map, ltb, length, drop}
use Rattle.std.proofs.Common.{refl, sym, ap, subst, ◌∙◌, inl, inr, ⊎_elim, append_assoc, arith, ltb-true, ltb-false, length-append, length-drop, take-append-drop}
use Rattle.std.proofs.Math.Option.{none}
use Rattle.std.proofs.Math.ListN.{length-map}
use Rattle.std.proofs.lemmas.List.{nil_from_length}
use Rattle.meaning.proofs.Truth.{bool_cases, clash}
use Rattle.rules.specs.Text.{Token, tokens}
use Rattle.rules.specs.Steps.{add, delete, read_step}
use Rattle.text.specs.Scan.{blanks, Scans}
use Rattle.text.specs.declared.Token.{Token as Found}
use Rattle.text.specs.declared.Token.TheVariants.{Nought, Plus, Minus, LetterD, Other, Nothing}
use Rattle.text.proofs.Tokens.{word_short, blanks_short, scanned_nothing, scanned_token, Next}
use Rattle.clauses.specs.Codes.{literal_of, hint_of, half}
use Rattle.formula.specs.declared.Fault.{Fault}
use Rattle.formula.specs.declared.Fault.TheVariants.{Unreadable, TooShort}
use Rattle.formula.proofs.Fillings.{placed_length}
use Rattle.steps.specs.Partials.{at_start, resume, Advance, ends, unreadable, advance, afterwards, taken}
use Rattle.steps.specs.Feeding.{phase_of, partial_of, Begun, Midway, GoesOn, Adds, Deletes, Outcome, FeedCase, Feeds}
use Rattle.steps.specs.Reading.{Reading, BeginsStep, StepNone, StepStopped, LargeIn, StepShort, stopped_at, ReadsStep}
use Rattle.steps.specs.declared.feeding.Kind.{Kind}
use Rattle.steps.specs.declared.feeding.Kind.TheVariants.{Start, Body, Literals, Hints, Ids}
use Rattle.steps.specs.declared.feeding.Phase.{Phase}
use Rattle.steps.specs.declared.feeding.Fed.TheVariants.{More, Addition, Deletion}
use Rattle.steps.specs.declared.Step.TheVariants.{Addition as Added, Deletion as Deleted}
use Rattle.steps.proofs.Partials.{resume_end, resume-advance, Counted, advance-counted, reach-start, reach_more, resume-reach, reach-taken}
use Rattle.steps.proofs.Feedings.{placed_none, placed_same}

-- The end of the text

abbrev pub is_nothing : Found → Bool
is_nothing Nought = false
is_nothing (Plus v) = false
is_nothing (Minus v) = false
is_nothing LetterD = false
is_nothing Other = false
is_nothing Nothing = true

nothing_cases : {X : Type 0} (t : Found) → (t ≡ Nothing → X) → ((t ≡ Nothing → ⊥) → X) → X
nothing_cases Nought f g = g (λ q. clash (ap is_nothing q) refl)
nothing_cases (Plus v) f g = g (λ q. clash (ap is_nothing q) refl)
nothing_cases (Minus v) f g = g (λ q. clash (ap is_nothing q) refl)
nothing_cases LetterD f g = g (λ q. clash (ap is_nothing q) refl)
nothing_cases Other f g = g (λ q. clash (ap is_nothing q) refl)
nothing_cases Nothing f g = f refl

-- More tokens are left than the step has codes so far.
pub begins_fewer : (ts : List Token) (codes : ℕ) → BeginsStep ts codes → codes + 1 ≤ length ts
begins_fewer ts codes b = omega (arith, ap length b.split, length-append b.front b.rest, b.few, b.left)

-- Where a token did not fit, a slice is shorter than the tokens of the step ask for, or there is a literal too large for `cells`.
pub step_short : (cells : ℕ) (s : List ℕ) (at used : ℕ) (lits hints lits' hints' : List ℕ) (stop end many : ℕ) → StepShort cells s at used lits hints lits' hints' stop end many
    → (length lits < used + length (tokens (drop at s))) ⊎ ((length hints < length (tokens (drop at s))) ⊎ LargeIn cells (tokens (drop at s)))
step_short cells s at used lits hints lits' hints' stop end many h =
    ⊎_elim
    (λ l. inl (omega (arith, l, h.stopped.placed.count, fewer)))
    (λ w. inr (⊎_elim (λ l. inl (omega (arith, l, h.stopped.noted.count, fewer))) inr w))
    h.short
  where
    fewer : length h.stopped.new + length h.stopped.told + 1 ≤ length (tokens (drop at s))
    fewer = begins_fewer (tokens (drop at s)) (length h.stopped.new + length h.stopped.told) h.begun

-- A scan stays in the text.

pub scanned_within : (s : List ℕ) (at : ℕ) (t : Found) (n : ℕ) → at ≤ length s → Scans at (drop at s) t n → (at ≤ n) × (n ≤ length s)
scanned_within s at t n h r =
    let rest = drop (blanks (drop at s)) (drop at s) in
    (omega (arith, r.is_next), omega (arith, r.is_next, word_short rest, length-drop (blanks (drop at s)) (drop at s), length-drop at s, blanks_short (drop at s)))

-- How many codes are stored, and how many tokens were read.

stored_taken : (k : Kind) (n : ℕ) (new told : List ℕ) → Begun k n new told
    → (length new + length told ≤ taken (partial_of k n new told)) × (taken (partial_of k n new told) ≤ length new + length told + 2)
stored_taken Start n new told b = (omega (arith, ap length b.0, ap length b.1), omega arith)
stored_taken Body n new told b = (omega (arith, ap length b.1, ap length b.2), omega arith)
stored_taken Literals n new told b = (omega (arith, length-map new literal_of, ap length b.1), omega (arith, length-map new literal_of))
stored_taken Hints n new told b = (omega (arith, length-map new literal_of, length-map told hint_of), omega (arith, length-map new literal_of, length-map told hint_of))
stored_taken Ids n new told b = (omega (arith, length-map told half, ap length b), omega (arith, length-map told half))

pub reading-start : (cells : ℕ) (s : List ℕ) (at used : ℕ) (lits hints : List ℕ) (phase : Phase) → phase ≡ phase_of Start 0 used 0 → at ≤ length s → used ≤ length lits
    → Reading cells s at used lits hints lits hints at phase
reading-start cells s at used lits hints phase e h fit =
    rw e (record {
      sofar = at_start;
      front = [];
      split = refl;
      reached = reach-start at_start;
      stands = record {
        new = [];
        told = [];
        is = refl;
        begun = (refl, refl);
        fit = fit;
        placed = record { count = omega arith; room = fit; stored = sym (take-append-drop used lits) };
        noted = record { count = refl; room = omega arith; stored = refl };
        below = tt;
      };
      moved = λ l. absurd (omega arith);
      later = omega arith;
      within = h;
    })

module _ {cells : ℕ} {s : List ℕ} {at used : ℕ} {lits₀ hints₀ lits hints : List ℕ} {i : ℕ} {phase : Phase} (r : Reading cells s at used lits₀ hints₀ lits hints i phase) where
  -- What is left says what all says.
  left_says : read_step (tokens (drop at s)) ≡ resume r.sofar (tokens (drop i s))
  unfolding resume
  left_says = ap read_step r.split ∙ resume-reach at_start r.front r.sofar (tokens (drop i s)) r.reached

  read_count : taken r.sofar ≡ length r.front
  read_count = omega (arith, reach-taken at_start r.front r.sofar r.reached)

  token-count : length r.front + length (tokens (drop i s)) ≡ length (tokens (drop at s))
  token-count = sym (ap length r.split ∙ length-append r.front (tokens (drop i s)))

  code_count : (length r.stands.new + length r.stands.told ≤ length r.front) × (length r.front ≤ length r.stands.new + length r.stands.told + 2)
  code_count =
      let c = stored_taken phase.kind phase.id r.stands.new r.stands.told r.stands.begun in
      (omega (arith, c.0, read_count, ap taken r.stands.is), omega (arith, c.1, read_count, ap taken r.stands.is))

  lits_same : length lits ≡ length lits₀
  lits_same = placed_length lits₀ used r.stands.new lits phase.end r.stands.fit r.stands.placed

  hints_same : length hints ≡ length hints₀
  hints_same = placed_length hints₀ 0 r.stands.told hints phase.many (omega arith) r.stands.noted

  stopped : (lits' hints' : List ℕ) → lits' ≡ lits → hints' ≡ hints → StepStopped s at used lits₀ hints₀ lits' hints' i phase.end phase.many
  stopped lits' hints' p q =
      record {
        new = r.stands.new;
        told = r.stands.told;
        placed = rw p r.stands.placed;
        noted = rw q r.stands.noted;
        at_least = omega (arith, code_count.0, token-count);
        at_most = omega (arith, code_count.1, token-count);
        later = r.later;
        within = r.within;
      }

  module _ {t : Found} {n : ℕ} (scan : Scans i (drop i s) t n) {lits' hints' : List ℕ} {fed : Outcome} (feeds : Feeds phase t cells lits hints lits' hints' fed) where
    found_some : (fed ≡ Err Unreadable → ⊥) → Next s i t n
    found_some f = scanned_token s i t n scan (λ q. f (feeds.at_end_lem q))

    abbrev midway : Next s i t n → Midway cells phase t lits hints
    midway next = record { sofar = r.sofar; used = used; lits₀ = lits₀; hints₀ = hints₀; token = next.tok; cap = next.cap; proper = next.proper; stands = r.stands }

    -- The token makes of the whole what `advance` says.
    token-says : (next : Next s i t n) (a : Advance) → advance r.sofar next.tok ≡ a → read_step (tokens (drop at s)) ≡ afterwards a (tokens (drop n s))
    token-says next a e =
        left_says ∙ ap (resume r.sofar) next.is ∙ resume-advance r.sofar next.tok (tokens (drop n s)) ∙ ap (λ (a : Advance). afterwards a (tokens (drop n s))) e

    token_counts : (next : Next s i t n) (a : Advance) → advance r.sofar next.tok ≡ a → Counted (taken r.sofar) a
    token_counts next a e = subst (Counted (taken r.sofar)) e (advance-counted r.sofar next.tok)

    -- More is to be read.
    module _ {phase' : Phase} (e : fed ≡ Ok (More phase')) where
      pub reading_next : Next s i t n
      reading_next = found_some (λ q. let z : ◌≡◌ {A = ℕ} 0 1 = cc in omega arith)

      pub reading_on : Reading cells s at used lits₀ hints₀ lits' hints' n phase'
      reading_on =
          let next = reading_next in
          let g : GoesOn cells r.sofar next.tok phase' lits₀ used lits' hints₀ hints' = subst (FeedCase phase t cells lits hints lits' hints') e feeds.case (midway next) in
          record {
            sofar = g.then;
            front = r.front ++ (next.tok ∷ []);
            split = r.split ∙ ap (λ (l : List Token). r.front ++ l) next.is ∙ sym (append_assoc r.front (next.tok ∷ []) (tokens (drop n s)));
            reached = reach_more at_start r.front r.sofar next.tok g.then r.reached g.is;
            stands = g.stands;
            moved = λ l. rw length-append (omega arith);
            later = omega (arith, r.later, next.later);
            within = next.within;
          }

    -- The step is whole.
    pub reading-added : {m end many : ℕ} → fed ≡ Ok (Addition m end many) → ReadsStep cells s at used lits₀ hints₀ lits' hints' (Ok (record { step = Some (Added m end many); next = n }))
    unfolding afterwards
    reading-added {m} {end} {many} e =
        let next = found_some (λ q. let z : ◌≡◌ {A = ℕ} 0 1 = cc in omega arith) in
        let a : Adds cells r.sofar next.tok m end many lits₀ used lits' hints₀ hints' = subst (FeedCase phase t cells lits hints lits' hints') e feeds.case (midway next) in
        record {
          case = record {
            new = a.new;
            told = a.told;
            is = token-says next (ends (add m (map literal_of a.new) (map hint_of a.told))) a.is;
            is_id = a.is_id;
            placed = a.placed;
            noted = a.noted;
            below = a.below;
            turns = omega (arith, token_counts next (ends (add m (map literal_of a.new) (map hint_of a.told))) a.is, length-map a.new literal_of, length-map a.told hint_of, read_count, token-count, ap length next.is);
            begun = record {
              front = r.front;
              rest = tokens (drop i s);
              split = r.split;
              sofar = r.sofar;
              reached = r.reached;
              few = omega (arith, token_counts next (ends (add m (map literal_of a.new) (map hint_of a.told))) a.is, length-map a.new literal_of, length-map a.told hint_of, read_count);
              left = omega (arith, ap length next.is);
            };
            later = omega (arith, r.later, next.later);
            within = next.within;
          };
        }

    pub reading_deleted : {many : ℕ} → fed ≡ Ok (Deletion many) → ReadsStep cells s at used lits₀ hints₀ lits' hints' (Ok (record { step = Some (Deleted many); next = n }))
    unfolding afterwards
    reading_deleted {many} e =
        let next = found_some (λ q. let z : ◌≡◌ {A = ℕ} 0 1 = cc in omega arith) in
        let d : Deletes r.sofar next.tok many lits₀ lits' hints₀ hints' = subst (FeedCase phase t cells lits hints lits' hints') e feeds.case (midway next) in
        record {
          case = record {
            told = d.told;
            is = token-says next (ends (delete (map half d.told))) d.is;
            noted = d.noted;
            same = d.same;
            turns = omega (arith, token_counts next (ends (delete (map half d.told))) d.is, length-map d.told half, read_count, token-count, ap length next.is);
            later = omega (arith, r.later, next.later);
            within = next.within;
          };
        }

    -- A slice is too short.
    reading_short : fed ≡ Err TooShort → ReadsStep cells s at used lits₀ hints₀ lits' hints' (Err (stopped_at TooShort i phase.end phase.many))
    unfolding stopped
    reading_short e =
        let next = found_some (λ q. let z : ◌≡◌ {A = ℕ} 0 1 = cc in omega arith) in
        let f : FeedCase phase t cells lits hints lits' hints' (Err TooShort) = subst (FeedCase phase t cells lits hints lits' hints') e feeds.case in
        record {
          case = record {
            short = ⊎_elim
                (λ l. inl (omega (arith, lits_same)))
                (λ w. inr (⊎_elim
                (λ h. inl (omega (arith, hints_same)))
                (λ g. inr (record {
                  variable = g.large;
                  stands = record {
                    front = r.front;
                    token = next.tok;
                    rest = tokens (drop n s);
                    is = r.split ∙ ap (λ (l : List Token). r.front ++ l) next.is;
                    sofar = r.sofar;
                    reached = r.reached;
                    next = g.next;
                  };
                  above = g.above;
                }))
                w))
                (f.0 (midway next));
            stopped = stopped lits' hints' f.1 f.2;
            begun = record {
              front = r.front;
              rest = tokens (drop i s);
              split = r.split;
              sofar = r.sofar;
              reached = r.reached;
              few = code_count.0;
              left = omega (arith, ap length next.is);
            };
          };
        }

    -- The token makes no step.
    module _ (e : fed ≡ Err Unreadable) where
      failed : FeedCase phase t cells lits hints lits' hints' (Err Unreadable)
      failed = subst (FeedCase phase t cells lits hints lits' hints') e feeds.case

      none_left : t ≡ Nothing → tokens (drop i s) ≡ []
      none_left q = scanned_nothing i (drop i s) n (subst (λ (u : Found). Scans i (drop i s) u n) q scan)

      no_step : read_step (tokens (drop at s)) ≡ none
      unfolding afterwards
      no_step =
          nothing_cases t
          (λ q. left_says ∙ (ap (resume r.sofar) (none_left q) ∙ resume_end r.sofar))
          (λ f. let next = scanned_token s i t n scan f in token-says next unreadable (failed.0 (midway next)))

      some_left : (t ≡ Nothing → ⊥) ⊎ (i ≡ at → ⊥) → 1 ≤ length (tokens (drop at s))
      some_left w =
          ⊎_elim
          (λ f. let next = scanned_token s i t n scan f in omega (arith, ap length next.is, token-count))
          (λ f. let more : at < i = further at i r.later f in omega (arith, r.moved more, token-count))
          w
        where
          further : (a b : ℕ) → a ≤ b → (b ≡ a → ⊥) → a < b
          further a b h f = bool_cases (ltb a b) (λ y. ltb-true a b y) (λ m. absurd (f (omega (arith, ltb-false a b m))))

      nothing_read : t ≡ Nothing → i ≡ at → StepNone s at lits₀ hints₀ lits' hints' n
      nothing_read q h =
          let no_tokens : tokens (drop at s) ≡ [] = subst (λ (k : ℕ). tokens (drop k s) ≡ []) h (none_left q) in
          let new_none : r.stands.new ≡ [] = nil_from_length r.stands.new (omega (arith, code_count.0, token-count, ap length no_tokens)) in
          let told_none : r.stands.told ≡ [] = nil_from_length r.stands.told (omega (arith, code_count.0, token-count, ap length no_tokens)) in
          let bounds = scanned_within s i t n r.within scan in
          record {
            is = no_tokens;
            same_lits = failed.1 ∙ placed_same lits₀ lits used (placed_none lits₀ r.stands.new lits used phase.end new_none r.stands.placed);
            same_hints = failed.2 ∙ placed_same hints₀ hints 0 (placed_none hints₀ r.stands.told hints 0 phase.many told_none r.stands.noted);
            later = omega (arith, bounds.0, r.later);
            within = bounds.1;
          }

      -- There is none if the text ends where it was to begin, and else it is unreadable.
      pub reading_none : t ≡ Nothing → i ≡ at → ReadsStep cells s at used lits₀ hints₀ lits' hints' (Ok (record { step = None; next = n }))
      reading_none q h = record { case = nothing_read q h }

      reading_bad : (t ≡ Nothing → ⊥) ⊎ (i ≡ at → ⊥) → ReadsStep cells s at used lits₀ hints₀ lits' hints' (Err (stopped_at Unreadable i phase.end phase.many))
      reading_bad w = record { case = record { is = no_step; left = some_left w; stopped = stopped lits' hints' failed.1 failed.2 } }

    pub reading-stopped : (fault : Fault) → fed ≡ Err fault → (t ≡ Nothing → ⊥) ⊎ (i ≡ at → ⊥)
        → ReadsStep cells s at used lits₀ hints₀ lits' hints' (Err (stopped_at fault i phase.end phase.many))
    reading-stopped Unreadable e w = reading_bad e w
    reading-stopped TooShort e w = reading_short e
