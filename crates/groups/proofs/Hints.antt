-- Laws of hints as numbers: what `leading` and `groups` of document 01 are, by the places where groups begin. Assumes nothing.
use Rattle.std.proofs.Common.{ℕ, zero, suc, ◌+◌, ◌-◌, ◌%◌, ◌<◌, ◌≤◌, ◌≡◌, List, [], ◌∷◌, map, eqb, length, get_or, take, drop}
use Rattle.std.proofs.Common.{refl, sym, ap, ◌∙◌, arith, add-one, eqb-true, drop_of_length-le, drop-cons, length-drop, get_or-drop}
use borrow.Author.Tests.{eqb-false}
use Rattle.std.proofs.Math.Seq.{slice, slice-cons, slice_empty}
use Rattle.meaning.proofs.Truth.{bool_cases}
use Rattle.rules.specs.Steps.{Hint, look, group}
use Rattle.rules.specs.Judging.{leading, groups}
use Rattle.clauses.specs.Codes.{hint_of, half}
use Rattle.clauses.proofs.HintCodes.{hint-even, hint-odd}
use Rattle.groups.specs.Matching.{GroupAt, NoGroup, NextGroup, groups_from}

-- One hint.

leading_look : (h : Hint) (d : ℕ) (hs : List Hint) → h ≡ look d → leading (h ∷ hs) ≡ d ∷ leading hs
unfolding leading
leading_look h d hs e = rw (e, leading)

leading_group : (h : Hint) (d : ℕ) (hs : List Hint) → h ≡ group d → leading (h ∷ hs) ≡ []
unfolding leading
leading_group h d hs e = rw (e, leading)

groups_look : (h : Hint) (d : ℕ) (hs : List Hint) → h ≡ look d → groups (h ∷ hs) ≡ groups hs
unfolding groups
groups_look h d hs e = rw (e, groups)

groups_group : (h : Hint) (d : ℕ) (hs : List Hint) → h ≡ group d → groups (h ∷ hs) ≡ (d, leading hs) ∷ groups hs
unfolding groups
groups_group h d hs e = rw (e, groups)

leading_nothing : leading [] ≡ []
unfolding leading
leading_nothing = refl

groups_nothing : groups [] ≡ []
unfolding groups
groups_nothing = refl

module _ (hints : List ℕ) where
  -- The hints from a place on.
  hints_more : (i : ℕ) → i < length hints → map hint_of (drop i hints) ≡ hint_of (get_or hints i 0) ∷ map hint_of (drop (i + 1) hints)
  hints_more i h = rw (add-one i, drop-cons hints i 0 h)

  hints_end_lem : (i : ℕ) → length hints ≤ i → map hint_of (drop i hints) ≡ []
  hints_end_lem i h = rw (drop_of_length-le hints {i = i} h)

  groups_skip : (i : ℕ) → i < length hints → get_or hints i 0 % 2 ≡ 0 → groups_from hints i ≡ groups_from hints (i + 1)
  groups_skip i h e = ap groups (hints_more i h) ∙ groups_look _ _ _ (hint-even (get_or hints i 0) e)

  -- The group that begins at a place, and the groups behind it.
  pub groups-begin : (i : ℕ) → i < length hints → (get_or hints i 0 % 2 ≡ 0 → ⊥)
      → groups_from hints i ≡ (half (get_or hints i 0), leading (map hint_of (drop (i + 1) hints))) ∷ groups_from hints (i + 1)
  groups-begin i h d = ap groups (hints_more i h) ∙ groups_group _ _ _ (hint-odd (get_or hints i 0) d)

  pub groups_end : (i : ℕ) → length hints ≤ i → groups_from hints i ≡ []
  groups_end i h = ap groups (hints_end_lem i h) ∙ groups_nothing

  -- Up to the next group there is none.
  groups_over : (d from place : ℕ) → place ≡ from + d → place ≤ length hints → NoGroup hints from place → groups_from hints from ≡ groups_from hints place
  groups_over zero from place e l n = let z : from ≡ place = omega arith in ap (groups_from hints) z
  groups_over (suc d) from place e l n =
      groups_skip from (omega arith) (n.evens from (omega arith) (omega arith))
      ∙ groups_over d (from + 1) place (omega arith) l (record { later = omega arith; evens = λ k a b. n.evens k (omega arith) b })

  pub groups_next : (from place : ℕ) → NextGroup hints from place → groups_from hints from ≡ groups_from hints place
  groups_next from place n = groups_over (place - from) from place (omega (arith, n.passed.later)) n.group.within n.passed

  -- The hints that lead up to the next group.
  leading-stop : (place : ℕ) → GroupAt hints place → leading (map hint_of (drop place hints)) ≡ []
  leading-stop place g =
      bool_cases (eqb place (length hints))
      (λ y. let e = eqb-true place (length hints) y in ap leading (hints_end_lem place (omega arith)) ∙ leading_nothing)
      (λ n.
      let d = eqb-false place (length hints) n in
      let h : place < length hints = omega (arith, g.within, d) in
      ap leading (hints_more place h) ∙ leading_group _ _ _ (hint-odd (get_or hints place 0) (g.begins h)))

  leading_over : (d from place : ℕ) → place ≡ from + d → GroupAt hints place → NoGroup hints from place
      → leading (map hint_of (drop from hints)) ≡ map half (slice from place hints)
  leading_over zero from place e g n =
      let z : from ≡ place = omega arith in
      rw (z, slice_empty place hints) (leading-stop place g)
  leading_over (suc d) from place e g n =
      let here : from < length hints = omega (arith, g.within) in
      ap leading (hints_more from here)
      ∙ (leading_look _ _ _ (hint-even (get_or hints from 0) (n.evens from (omega arith) (omega arith)))
      ∙ (ap (λ (l : List ℕ). half (get_or hints from 0) ∷ l) (leading_over d (from + 1) place (omega arith) g (record { later = omega arith; evens = λ k a b. n.evens k (omega arith) b }))
      ∙ rw (add-one from) (sym (ap (map half) (slice-cons from place hints 0 (omega arith) g.within)))))

  pub leading_next : (from place : ℕ) → NextGroup hints from place → leading (map hint_of (drop from hints)) ≡ map half (slice from place hints)
  leading_next from place n = leading_over (place - from) from place (omega (arith, n.passed.later)) n.group n.passed

  -- The group that begins at a place, with its hints, and the groups from the next one on.
  pub groups-one : (i next : ℕ) → i < length hints → (get_or hints i 0 % 2 ≡ 0 → ⊥) → NextGroup hints (i + 1) next
      → groups_from hints i ≡ (half (get_or hints i 0), map half (slice (i + 1) next hints)) ∷ groups_from hints next
  groups-one i next h d n = groups-begin i h d ∙ rw (leading_next (i + 1) next n, groups_next (i + 1) next n)

  -- The whole: the hints of rule 3 are those up to the first group, and the groups are those from there on.
  pub groups-first : (from : ℕ) → NextGroup hints 0 from → groups (map hint_of hints) ≡ groups_from hints from
  groups-first from n = groups_next 0 from n

  pub leading-first : (from : ℕ) → NextGroup hints 0 from → leading (map hint_of hints) ≡ map half (take from hints)
  leading-first from n = leading_next 0 from n

  -- The search for the next group, among the hints from a place on.
  pub next_found : (from r : ℕ) (rest : List ℕ) → from ≤ length hints → rest ≡ drop from hints → r ≤ length rest → ((k : ℕ) → k < r → get_or rest k 0 % 2 ≡ 0)
      → (r < length rest → get_or rest r 0 % 2 ≡ 0 → ⊥)
      → NextGroup hints from (from + r)
  next_found from r rest inside is most evens odd = record {
    passed = record {
      later = omega arith;
      evens = λ k a b.
          let back : from + (k - from) ≡ k = omega arith in
          ap (λ (i : ℕ). get_or hints i 0 % 2) (sym back) ∙ (ap (λ (x : ℕ). x % 2) (sym (read (k - from))) ∙ evens (k - from) (omega arith));
    };
    group = record { within = omega (arith, long); begins = λ h e. odd (omega (arith, long)) (ap (λ (x : ℕ). x % 2) (read r) ∙ e) };
  }
    where
      long : length rest ≡ length hints - from
      long = ap length is ∙ length-drop from hints

      read : (k : ℕ) → get_or rest k 0 ≡ get_or hints (from + k) 0
      read k = ap (λ (l : List ℕ). get_or l k 0) is ∙ get_or-drop from hints k 0
