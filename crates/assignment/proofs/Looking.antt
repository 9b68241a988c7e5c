-- Laws of looking at a clause: what is kept of the literals that are not false says what the document's definition, which
-- takes them out first, says. The code keeps it as two numbers, and the laws as a value of `Open`. Assumes nothing.
use Rattle.std.proofs.Common.{ℕ, zero, suc, ◌+◌, ◌*◌, ◌/◌, ◌<◌, ◌≤◌, ◌≡◌, true, false, List, [], ◌∷◌, map, eqb, length, get_or, drop}
use Rattle.std.proofs.Common.{refl, sym, ap, subst, ◌∙◌, ⊎_elim, add-one, arith, eqb-true, eq-eqb, ne_eqb, drop_of_length-le, drop-cons, add_assoc}
use borrow.Author.Tests.{eqb-false}
use Rattle.meaning.specs.Meaning.{Literal, Clause}
use Rattle.meaning.proofs.Truth.{bool_cases}
use Rattle.rules.specs.Judging.{opposite, same_literal, among, without, Trail, not_false, Look, all_false, neither, look_of, look_at}
use Rattle.clauses.specs.Codes.{literal_of, opposite_code}
use Rattle.clauses.proofs.Literals.{same_literal_lem}
use Rattle.clauses.proofs.Numbers.{cut}
use Rattle.assignment.specs.Marks.{mark_of, Shows, Paired, Marked}
use Rattle.assignment.specs.Sight.{In, ForcedIn, Looks, Counted, Latest, Behind, OneForced, OneLooks}
use Rattle.assignment.specs.declared.Look.{Look as Sight}
use Rattle.assignment.specs.declared.Look.TheVariants.{AllFalse, Forces, Neither}
use Rattle.assignment.proofs.Marking.{shows_true, shows_untrue, paired_opposite}

-- The literals that are not false

-- None, one however often it is written, or more.
pub data Open : Type 0 where
  nothing : Open
  one : ℕ → Open
  many : Open

-- One more literal that is not false, behind others.
abbrev one_more : Open → ℕ → Open
one_more nothing x = one x
one_more (one y) x = elim (eqb y x) [ true ↦ one y | false ↦ many ]
one_more many x = many

-- One more literal, with its mark.
opened : Open → ℕ → ℕ → Open
opened o x mark = elim (eqb mark 0) [ true ↦ one_more o x | false ↦ o ]

-- What follows from them, under the assignment a.
concluded : Trail → Open → Look
concluded a nothing = all_false
concluded a (one x) = look_of a (literal_of x ∷ [])
concluded a many = neither

opened_false : (o : Open) (x mark : ℕ) → (mark ≡ 0 → ⊥) → opened o x mark ≡ o
unfolding opened
opened_false o x mark d = rw (ne_eqb mark 0 d, opened)

opened_not_false : (o : Open) (x mark : ℕ) → mark ≡ 0 → opened o x mark ≡ one_more o x
unfolding opened
opened_not_false o x mark e = rw (eq-eqb mark 0 e, opened)

-- As two numbers: how often one was met that is not the one met before it, and the last of them.
pub open_of : ℕ → ℕ → Open
open_of zero last = nothing
open_of (suc zero) last = one last
open_of (suc (suc more)) last = many

open_none : (others last : ℕ) → others ≡ 0 → open_of others last ≡ nothing
unfolding open_of
open_none others last e = rw e

open_single : (others last : ℕ) → others ≡ 1 → open_of others last ≡ one last
unfolding open_of
open_single others last e = rw e

open_more : (others last : ℕ) → 2 ≤ others → open_of others last ≡ many
unfolding open_of
open_more zero last h = absurd (omega arith)
open_more (suc zero) last h = absurd (omega arith)
open_more (suc (suc more)) last h = refl

-- The numbers follow, as long as no literal is what stands for the last one where there is none.
module _ (others last x mark r last' : ℕ) (k : Counted last x mark r) (l : Latest last x mark last') where
  numbers_again : mark ≡ 0 → x ≡ last → open_of (others + r) last' ≡ open_of others last
  numbers_again e q =
      let same : others + r ≡ others = omega (arith, k.again e q) in
      let kept : last' ≡ last = l.taken e ∙ q in
      rw (same, kept)

  numbers_first : mark ≡ 0 → others ≡ 0 → (x ≡ last → ⊥) → one_more (open_of others last) x ≡ open_of (others + r) last'
  numbers_first e none new =
      ap (λ (o : Open). one_more o x) (open_none others last none)
      ∙ (ap one (sym (l.taken e)) ∙ sym (open_single (others + r) last' (omega (arith, k.another e new))))

  numbers_second : mark ≡ 0 → others ≡ 1 → one_more (open_of others last) x ≡ open_of (others + r) last'
  numbers_second e single =
      ap (λ (o : Open). one_more o x) (open_single others last single)
      ∙ bool_cases (eqb last x)
      (λ y. rw (y, one_more) (sym (open_single others last single) ∙ sym (numbers_again e (sym (eqb-true last x y)))))
      (λ n. rw (n, one_more) (sym (open_more (others + r) last' (omega (arith, k.another e (λ q. eqb-false last x n (sym q)))))))

  numbers_more : mark ≡ 0 → 2 ≤ others → one_more (open_of others last) x ≡ open_of (others + r) last'
  numbers_more e lots = ap (λ (o : Open). one_more o x) (open_more others last lots) ∙ sym (open_more (others + r) last' (omega arith))

  numbers_on : (others ≡ 0 → x ≡ last → ⊥) → opened (open_of others last) x mark ≡ open_of (others + r) last'
  numbers_on new =
      bool_cases (eqb mark 0)
      (λ y. let e = eqb-true mark 0 y in
      opened_not_false (open_of others last) x mark e
      ∙ ⊎_elim
      (λ none. numbers_first e (omega arith) (new (omega arith)))
      (λ some. ⊎_elim (λ single. numbers_second e (omega arith)) (λ lots. numbers_more e lots) (cut others 2))
      (cut others 1))
      (λ n.
      let d : mark ≡ 0 → ⊥ = eqb-false mark 0 n in
      let same : others + r ≡ others = omega (arith, k.passed d) in
      opened_false (open_of others last) x mark d ∙ rw (same, l.passed d))

-- A clause

-- The literals that are not false, from o on.
pub open_all : Trail → Open → List ℕ → Open
unfolding opened
open_all a o [] = o
open_all a o (x ∷ xs) = open_all a (opened o x (mark_of (among (opposite (literal_of x)) a))) xs

module _ (a : Trail) (x : ℕ) (xs : List ℕ) where
  open_false : (o : Open) → among (opposite (literal_of x)) a ≡ true → open_all a o (x ∷ xs) ≡ open_all a o xs
  unfolding open_all
  open_false o e = ap (λ (p : Open). open_all a p xs) (opened_false o x (mark_of (among (opposite (literal_of x)) a)) (λ z. omega (arith, sym (ap mark_of e) ∙ z)))

  open_not_false : (o : Open) → among (opposite (literal_of x)) a ≡ false → open_all a o (x ∷ xs) ≡ open_all a (one_more o x) xs
  unfolding open_all
  open_not_false o e = ap (λ (p : Open). open_all a p xs) (opened_not_false o x (mark_of (among (opposite (literal_of x)) a)) (ap mark_of e))

  drop_false : among (opposite (literal_of x)) a ≡ true → not_false a (map literal_of (x ∷ xs)) ≡ not_false a (map literal_of xs)
  unfolding not_false
  drop_false e = rw (e, not_false)

  keep-not-false : among (opposite (literal_of x)) a ≡ false → not_false a (map literal_of (x ∷ xs)) ≡ literal_of x ∷ not_false a (map literal_of xs)
  unfolding not_false
  keep-not-false e = rw (e, not_false)

open_many : (a : Trail) (xs : List ℕ) → open_all a many xs ≡ many
unfolding open_all
open_many a [] = refl
open_many a (x ∷ xs) =
    bool_cases (among (opposite (literal_of x)) a)
    (λ y. open_false a x xs many y ∙ open_many a xs)
    (λ n. open_not_false a x xs many n ∙ open_many a xs)

-- The first literal twice, or followed by another one.
look_twice : (a : Trail) (l k : Literal) (c : Clause) → same_literal l k ≡ true → look_of a (l ∷ k ∷ c) ≡ look_of a (l ∷ c)
unfolding look_of without
look_twice a l k c e = rw (e, without, look_of)

look_other : (a : Trail) (l k : Literal) (c : Clause) → same_literal l k ≡ false → look_of a (l ∷ k ∷ c) ≡ neither
unfolding look_of without
look_other a l k c e = rw (e, without, look_of)

open_one : (a : Trail) (x : ℕ) (xs : List ℕ) → concluded a (open_all a (one x) xs) ≡ look_of a (literal_of x ∷ not_false a (map literal_of xs))
unfolding open_all concluded look_of not_false without
open_one a x [] = refl
open_one a x (y ∷ xs) =
    bool_cases (among (opposite (literal_of y)) a)
    (λ t. ap (concluded a) (open_false a y xs (one x) t) ∙ (open_one a x xs ∙ ap (λ (c : Clause). look_of a (literal_of x ∷ c)) (sym (drop_false a y xs t))))
    (λ n. ap (concluded a) (open_not_false a y xs (one x) n) ∙ (go (open_one a x xs) ∙ ap (λ (c : Clause). look_of a (literal_of x ∷ c)) (sym (keep-not-false a y xs n))))
  where
    go : concluded a (open_all a (one x) xs) ≡ look_of a (literal_of x ∷ not_false a (map literal_of xs))
        → concluded a (open_all a (one_more (one x) y) xs) ≡ look_of a (literal_of x ∷ literal_of y ∷ not_false a (map literal_of xs))
    go ih =
        bool_cases (eqb x y)
        (λ e. ap (λ (o : Open). concluded a (open_all a o xs)) (same_again e) ∙ (ih ∙ sym (look_twice a (literal_of x) (literal_of y) (not_false a (map literal_of xs)) (same_literal_lem x y ∙ e))))
        (λ d. ap (λ (o : Open). concluded a (open_all a o xs)) (another d) ∙ (ap (concluded a) (open_many a xs) ∙ sym (look_other a (literal_of x) (literal_of y) (not_false a (map literal_of xs)) (same_literal_lem x y ∙ d))))
      where
        same_again : eqb x y ≡ true → one_more (one x) y ≡ one x
        same_again e = rw (e, one_more)

        another : eqb x y ≡ false → one_more (one x) y ≡ many
        another d = rw (d, one_more)

-- From the beginning it is the document's definition.
open_look : (a : Trail) (xs : List ℕ) → look_at a (map literal_of xs) ≡ concluded a (open_all a nothing xs)
unfolding look_at open_all concluded look_of not_false
open_look a xs = sym (go xs)
  where
    go : (xs : List ℕ) → concluded a (open_all a nothing xs) ≡ look_of a (not_false a (map literal_of xs))
    go [] = refl
    go (x ∷ xs) =
        bool_cases (among (opposite (literal_of x)) a)
        (λ t. ap (concluded a) (open_false a x xs nothing t) ∙ (go xs ∙ ap (look_of a) (sym (drop_false a x xs t))))
        (λ n. ap (concluded a) (open_not_false a x xs nothing n) ∙ (open_one a x xs ∙ ap (look_of a) (sym (keep-not-false a x xs n))))

-- The loop

-- The one literal that is not false, if there is one, stands in the clause.
abbrev OpenIn : List ℕ → Open → Type 0
OpenIn clause nothing = Unit {0}
OpenIn clause (one x) = In clause x
OpenIn clause many = Unit {0}

-- What stands for the last literal where there is none.
abbrev unseen : ℕ
unseen = 4_294_967_295

-- The literals before i were read.
pub record Looking (clause marks : List ℕ) (others last i : ℕ) : Type 0 where
  pub left : (a : Trail) → Shows marks a → open_all a nothing clause ≡ open_all a (open_of others last) (drop i clause)
  pub held : OpenIn clause (open_of others last)
  pub fresh : others ≡ 0 → last ≡ unseen
  pub few : others ≤ i

pub looking_start : (clause marks : List ℕ) → Looking clause marks 0 unseen 0
unfolding open_of
looking_start clause marks = record { left = λ a s. refl; held = tt; fresh = λ e. refl; few = omega arith }

opened_in : (clause : List ℕ) (o : Open) (x mark : ℕ) → OpenIn clause o → In clause x → OpenIn clause (opened o x mark)
opened_in clause o x mark h new =
    bool_cases (eqb mark 0)
    (λ y. rw (opened_not_false o x mark (eqb-true mark 0 y)) (go o h))
    (λ n. rw (opened_false o x mark (eqb-false mark 0 n)) h)
  where
    go : (o : Open) → OpenIn clause o → OpenIn clause (one_more o x)
    go nothing h = new
    go (one y) h = bool_cases (eqb y x) (λ e. rw (e, one_more) h) (λ d. rw (d, one_more) tt)
    go many h = tt

module _ (clause marks : List ℕ) (others last i : ℕ) (l : Looking clause marks others last i) (known : Marked clause marks) where
  looking_on : i < length clause → Paired marks → (r last' : ℕ) → Counted last (get_or clause i 0) (get_or marks (get_or clause i 0) 0) r → Latest last (get_or clause i 0) (get_or marks (get_or clause i 0) 0) last'
      → Looking clause marks (others + r) last' (i + 1)
  unfolding open_all
  looking_on more paired r last' k m =
      let x = get_or clause i 0 in
      let below = known.below i more in
      let unlike : others ≡ 0 → x ≡ last → ⊥ = λ none q. omega (arith, below, paired.small, l.fresh none) in
      let next = numbers_on others last x (get_or marks x 0) r last' k m unlike in
      record {
        left = λ a s. l.left a s ∙ rw (drop-cons clause i 0 more, ← next, s.at x below, add-one i);
        held = rw (← next) (opened_in clause (open_of others last) x (get_or marks x 0) l.held (record { place = i; inside = more; is = refl }));
        fresh = λ none.
            let before : others ≡ 0 = omega arith in
            bool_cases (eqb (get_or marks x 0) 0)
            (λ y. absurd (omega (arith, k.another (eqb-true (get_or marks x 0) 0 y) (unlike before))))
            (λ n. m.passed (eqb-false (get_or marks x 0) 0 n) ∙ l.fresh before);
        few = omega (arith, k.few, l.few);
      }

  -- The literal before i once more: it is false, or is the last that is not.
  looking_again : length clause ≤ i → (x mark before : ℕ) → Latest before x mark last → (r last' : ℕ) → Counted last x mark r → Latest last x mark last' → Looking clause marks (others + r) last' (i + 1)
  looking_again end x mark before m r last' k' m' =
      let none : r ≡ 0 = bool_cases (eqb mark 0) (λ y. let e = eqb-true mark 0 y in k'.again e (sym (m.taken e))) (λ n. k'.passed (eqb-false mark 0 n)) in
      let kept : last' ≡ last = bool_cases (eqb mark 0) (λ y. let e = eqb-true mark 0 y in m'.taken e ∙ sym (m.taken e)) (λ n. m'.passed (eqb-false mark 0 n)) in
      let same : others + r ≡ others = omega (arith, none) in
      let past : length clause ≤ i + 1 = omega arith in
      let nothing_left : drop (i + 1) clause ≡ drop i clause = drop_of_length-le clause past ∙ sym (drop_of_length-le clause end) in
      rw (same, kept) record { left = λ a s. rw nothing_left (l.left a s); held = l.held; fresh = l.fresh; few = omega (arith, l.few) }

  all : length clause ≤ i → (a : Trail) → Shows marks a → look_at a (map literal_of clause) ≡ concluded a (open_of others last)
  unfolding open_all
  all end a s = open_look a clause ∙ ap (concluded a) (l.left a s ∙ rw (drop_of_length-le clause end))

  -- The answers.
  pub looking_none : length clause ≤ i → others ≡ 0 → Looks clause marks AllFalse
  unfolding concluded
  looking_none end e = record { says = λ a s. all end a s ∙ ap (concluded a) (open_none others last e); forced = tt }

  stands : others ≡ 1 → In clause last
  stands e = subst (OpenIn clause) (open_single others last e) l.held

  pub looking_below : others ≡ 1 → last < length marks
  looking_below e = rw (stands e).is at (known.below (stands e).place (stands e).inside)

  forced_in : others ≡ 1 → (r : Sight) → OneForced last marks r → ForcedIn clause marks r
  forced_in e AllFalse f = tt
  forced_in e (Forces x) f = record { stands = subst (In clause) f.0 (stands e); free = f.1 }
  forced_in e Neither f = tt

  pub looking_one : length clause ≤ i → others ≡ 1 → (r : Sight) → OneLooks last marks r → Looks clause marks r
  unfolding concluded
  looking_one end e r k = record { says = λ a s. all end a s ∙ (ap (concluded a) (open_single others last e) ∙ k.says a s); forced = forced_in e r k.forced }

  pub looking_more : length clause ≤ i → 2 ≤ others → Looks clause marks Neither
  unfolding concluded
  looking_more end more = record { says = λ a s. all end a s ∙ ap (concluded a) (open_more others last more); forced = tt }

-- One turn: the literal at i, and the one behind it or the same once more.
module _ (clause marks : List ℕ) (others last i : ℕ) (l : Looking clause marks others last i) (known : Marked clause marks) (more : i < length clause) (j : ℕ) (b : Behind i (length clause) j) where
  pub looking_two : Paired marks → (first middle : ℕ) → Counted last (get_or clause i 0) (get_or marks (get_or clause i 0) 0) first
      → Latest last (get_or clause i 0) (get_or marks (get_or clause i 0) 0) middle
      → (second last' : ℕ) → Counted middle (get_or clause j 0) (get_or marks (get_or clause j 0) 0) second → Latest middle (get_or clause j 0) (get_or marks (get_or clause j 0) 0) last'
      → Looking clause marks (others + (first + second)) last' (i + 2)
  looking_two paired first middle k m second last' k' m' =
      let one = looking_on clause marks others last i l known more paired first middle k m in
      let both : i + 1 + 1 ≡ i + 2 = omega arith in
      rw (← add_assoc others first second) (rw both at (⊎_elim
      (λ some. let q = b.is_next some in looking_on clause marks (others + first) middle (i + 1) one known some paired second last' (rw q at k') (rw q at m'))
      (λ none.
      let q = b.is_last none in
      looking_again clause marks (others + first) middle (i + 1) one known none (get_or clause i 0) (get_or marks (get_or clause i 0) 0) last m second last' (rw q at k') (rw q at m'))
      (cut (i + 1) (length clause))))

-- Two literals to a turn

-- Each of the turns begins inside of the clause, and behind the last nothing is left.
pub turn_inside : (n turns k : ℕ) → k < turns → turns ≡ (n + 1) / 2 → 2 * k < n
turn_inside n turns k h e = omega arith

pub turns_past : (n turns k : ℕ) → turns ≤ k → turns ≡ (n + 1) / 2 → n ≤ 2 * k
turns_past n turns k h e = omega arith

-- One literal alone

module _ (x : ℕ) (marks : List ℕ) (p : Paired marks) (h : x < length marks) (back : ℕ) (e : back ≡ opposite_code x) where
  pub one_inside : back < length marks
  one_inside = rw e (paired_opposite marks p x h)

  pub one-true : (get_or marks back 0 ≡ 0 → ⊥) → OneLooks x marks Neither
  unfolding look_of without
  one-true d = record { says = λ a s. rw (shows_true marks a s x (paired_opposite marks p x h) (rw e at d), look_of); forced = tt }

  pub one_forced : get_or marks back 0 ≡ 0 → OneLooks x marks (Forces x)
  unfolding look_of without
  one_forced z = record { says = λ a s. rw (shows_untrue marks a s x (paired_opposite marks p x h) (rw e at z), look_of); forced = (refl, rw e at z) }
