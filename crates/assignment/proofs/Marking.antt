-- Laws of marks and the tape: what a mark says, what one more mark does, one way after another, and going back. Assumes
-- nothing.
use Rattle.std.proofs.Common.{ℕ, ◌+◌, ◌-◌, ◌%◌, ◌<◌, ◌≤◌, ◌≡◌, Bool, true, false, ◌||◌, List, [], ◌∷◌, eqb, length, get_or, set}
use Rattle.std.proofs.Common.{refl, sym, ap, ◌∙◌, ⊎_elim, arith, eqb-true, eq-eqb, ne_eqb, length-set, get_or-set_same, get_or-set_other, ext_get_or}
use borrow.Author.Tests.{eqb-false}
use Rattle.meaning.specs.Meaning.{Literal, pos, neg}
use Rattle.meaning.proofs.Truth.{bool_cases}
use Rattle.rules.specs.Judging.{opposite, same_literal, among, Trail}
use Rattle.rules.proofs.Literals.{opposite_twice}
use Rattle.clauses.specs.Codes.{literal_of, opposite_code}
use Rattle.clauses.proofs.Literals.{same_literal_lem, literal-opposite, opposite-even, opposite-odd}
use Rattle.clauses.proofs.Numbers.{cut}
use Rattle.assignment.specs.Marks.{mark_of, Shows, Paired, Differ, Laid, Falsifies, Undoable, Undone}

-- What a mark says

mark_set : (b : Bool) → (mark_of b ≡ 0 → ⊥) → b ≡ true
mark_set true d = refl
mark_set false d = absurd (d refl)

mark_clear : (b : Bool) → mark_of b ≡ 0 → b ≡ false
mark_clear true e = absurd (omega arith)
mark_clear false e = refl

module _ (marks : List ℕ) (a : Trail) (s : Shows marks a) (x : ℕ) (inside : x < length marks) where
  -- A literal that is marked is false, and its opposite true.
  pub shows_false : (get_or marks x 0 ≡ 0 → ⊥) → among (opposite (literal_of x)) a ≡ true
  shows_false d = mark_set (among (opposite (literal_of x)) a) (λ e. d (s.at x inside ∙ e))

  pub shows_open : get_or marks x 0 ≡ 0 → among (opposite (literal_of x)) a ≡ false
  shows_open e = mark_clear (among (opposite (literal_of x)) a) (sym (s.at x inside) ∙ e)

-- The mark of the opposite says whether a literal is true.
opposite-opposite : (x : ℕ) → opposite (literal_of (opposite_code x)) ≡ literal_of x
opposite-opposite x = ap opposite (literal-opposite x) ∙ opposite_twice (literal_of x)

module _ (marks : List ℕ) (a : Trail) (s : Shows marks a) (x : ℕ) (inside : opposite_code x < length marks) where
  pub shows_true : (get_or marks (opposite_code x) 0 ≡ 0 → ⊥) → among (literal_of x) a ≡ true
  shows_true d = ap (λ (l : Literal). among l a) (sym (opposite-opposite x)) ∙ shows_false marks a s (opposite_code x) inside d

  pub shows_untrue : get_or marks (opposite_code x) 0 ≡ 0 → among (literal_of x) a ≡ false
  shows_untrue e = ap (λ (l : Literal). among l a) (sym (opposite-opposite x)) ∙ shows_open marks a s (opposite_code x) inside e

-- Where there is a mark for a literal, there is one for its opposite.
pub paired_opposite : (marks : List ℕ) → Paired marks → (x : ℕ) → x < length marks → opposite_code x < length marks
paired_opposite marks p x h =
    bool_cases (eqb (x % 2) 0)
    (λ y. let e = eqb-true (x % 2) 0 y in rw (opposite-even x e) (omega (arith, p.even)))
    (λ n. let d = eqb-false (x % 2) 0 n in rw (opposite-odd x d) (omega arith))

-- Where nothing is marked, no literal has a value.
pub shows_nothing : (marks : List ℕ) → ((x : ℕ) → x < length marks → get_or marks x 0 ≡ 0) → Shows marks []
unfolding among
shows_nothing marks h = record { at = h }

-- Assignments in which the same literals are true are shown by the same marks.
pub shows_same : (marks : List ℕ) (a b : Trail) → ((l : Literal) → among l b ≡ among l a) → Shows marks a → Shows marks b
shows_same marks a b e s = record { at = λ x h. s.at x h ∙ ap mark_of (sym (e (opposite (literal_of x)))) }

-- One more mark

same_opposites : (l k : Literal) → same_literal (opposite l) (opposite k) ≡ same_literal l k
unfolding same_literal
same_opposites (pos v) (pos w) = refl
same_opposites (pos v) (neg w) = refl
same_opposites (neg v) (pos w) = refl
same_opposites (neg v) (neg w) = refl

among_more : (x y : ℕ) (a : Trail) → among (opposite (literal_of y)) (opposite (literal_of x) ∷ a) ≡ (eqb y x || among (opposite (literal_of y)) a)
unfolding among
among_more x y a = ap (λ (b : Bool). b || among (opposite (literal_of y)) a) (same_opposites (literal_of y) (literal_of x) ∙ same_literal_lem y x)

module _ (x y : ℕ) (a : Trail) where
  among_this : y ≡ x → mark_of (among (opposite (literal_of y)) (opposite (literal_of x) ∷ a)) ≡ 1
  among_this e = rw (among_more x y a, eq-eqb y x e)

  among_other : (y ≡ x → ⊥) → mark_of (among (opposite (literal_of y)) (opposite (literal_of x) ∷ a)) ≡ mark_of (among (opposite (literal_of y)) a)
  among_other d = rw (among_more x y a, ne_eqb y x d)

-- Marks that are not changed.
differ_none : (marks tape : List ℕ) (t : ℕ) → Differ marks marks tape t t
differ_none marks tape t = record { long = refl; inside = λ i g l. absurd (omega arith); clear = λ i g l. absurd (omega arith); others = λ x n. refl }

pub laid_none : (marks tape : List ℕ) (t : ℕ) → t ≤ length tape → Laid marks tape t marks tape t
laid_none marks tape t room = record { forward = omega arith; room = room; long = refl; kept = λ i l. refl; differ = differ_none marks tape t }

module _ (marks tape : List ℕ) (t x : ℕ) (inside : x < length marks) (room : t < length tape) where
  pub falsified_before : (get_or marks x 0 ≡ 0 → ⊥) → Falsifies marks tape t x marks tape t
  falsified_before d = record {
    laid = laid_none marks tape t (omega arith);
    shows = λ a s. record {
      at = λ y h. s.at y h ∙ bool_cases (eqb y x)
          (λ e. let z = eqb-true y x e in
          let false-before : among (opposite (literal_of y)) a ≡ true = rw z (shows_false marks a s x inside d) in
          ap mark_of false-before ∙ sym (among_this x y a z))
          (λ n. sym (among_other x y a (eqb-false y x n)));
    };
    new = λ e. absurd (d e);
    few = omega arith;
  }

  on_tape : (i : ℕ) → t ≤ i → i < t + 1 → get_or (set tape t x) i 0 ≡ x
  on_tape i g l = let z : i ≡ t = omega arith in rw z (get_or-set_same tape t x 0 room)

  pub falsified_now : get_or marks x 0 ≡ 0 → Falsifies marks tape t x (set marks x 1) (set tape t x) (t + 1)
  falsified_now free = record {
    laid = record {
      forward = omega arith;
      room = rw length-set (omega arith);
      long = length-set tape t x;
      kept = λ i l. get_or-set_other tape t i x 0 (λ e. omega arith);
      differ = record {
        long = length-set marks x 1;
        inside = λ i g l. rw (on_tape i g l) inside;
        clear = λ i g l. rw (on_tape i g l) free;
        others = λ y n. get_or-set_other marks x y 1 0 (λ e. n t (omega arith) (omega arith) (get_or-set_same tape t x 0 room ∙ sym e));
      };
    };
    shows = λ a s. record {
      at = λ y h. bool_cases (eqb y x)
          (λ e. let z = eqb-true y x e in ap (λ (i : ℕ). get_or (set marks x 1) i 0) z ∙ (get_or-set_same marks x 1 0 inside ∙ sym (among_this x y a z)))
          (λ n. let d = eqb-false y x n in get_or-set_other marks x y 1 0 d ∙ (s.at y (rw length-set at h) ∙ sym (among_other x y a d)));
    };
    new = λ e. refl;
    few = omega arith;
  }

-- One way after another

module _ (m₀ tape₀ : List ℕ) (t₀ : ℕ) (m₁ tape₁ : List ℕ) (t₁ : ℕ) (m₂ tape₂ : List ℕ) (t₂ : ℕ) (f : Laid m₀ tape₀ t₀ m₁ tape₁ t₁) (g : Laid m₁ tape₁ t₁ m₂ tape₂ t₂) where
  -- What is clear after the first way was clear before it.
  clear-before : (x : ℕ) → get_or m₁ x 0 ≡ 0 → get_or m₀ x 0 ≡ 0
  clear-before x e =
      bool_cases (eqb (get_or m₀ x 0) 0)
      (λ y. eqb-true (get_or m₀ x 0) 0 y)
      (λ n. sym (f.differ.others x (λ i l u q. eqb-false (get_or m₀ x 0) 0 n (rw q at (f.differ.clear i l u)))) ∙ e)

  pub laid_join : Laid m₀ tape₀ t₀ m₂ tape₂ t₂
  laid_join = record {
    forward = omega (arith, f.forward, g.forward);
    room = g.room;
    long = g.long ∙ f.long;
    kept = λ i l. g.kept i (omega (arith, f.forward)) ∙ f.kept i l;
    differ = record {
      long = g.differ.long ∙ f.differ.long;
      inside = λ i l u. ⊎_elim (λ early. rw (g.kept i early) (f.differ.inside i l early)) (λ late. rw (← f.differ.long) (g.differ.inside i late u)) (cut i t₁);
      clear = λ i l u. ⊎_elim (λ early. rw (g.kept i early) (f.differ.clear i l early)) (λ late. clear-before (get_or tape₂ i 0) (g.differ.clear i late u)) (cut i t₁);
      others = λ x n. g.differ.others x (λ i l u. n i (omega (arith, f.forward)) u) ∙ f.differ.others x (λ i l u q. n i l (omega (arith, g.forward)) (g.kept i u ∙ q));
    };
  }

  -- Where the second way was gone back, the tape may be left as it is.
  pub laid_back : Laid m₀ tape₀ t₀ m₁ tape₂ t₁
  laid_back = record {
    forward = f.forward;
    room = omega (arith, g.forward, g.room);
    long = g.long ∙ f.long;
    kept = λ i l. g.kept i (omega (arith, f.forward)) ∙ f.kept i l;
    differ = record {
      long = f.differ.long;
      inside = λ i l u. rw (g.kept i u) (f.differ.inside i l u);
      clear = λ i l u. rw (g.kept i u) (f.differ.clear i l u);
      others = λ x n. f.differ.others x (λ i l u q. n i l u (g.kept i u ∙ q));
    };
  }

-- A way can be gone back.
pub laid_undoable : (m₀ tape₀ : List ℕ) (t₀ : ℕ) (m tape : List ℕ) (t : ℕ) → Laid m₀ tape₀ t₀ m tape t → Undoable m tape t₀ t
laid_undoable m₀ tape₀ t₀ m tape t f = record { before = m₀; differ = f.differ; room = f.room }

-- Going back

-- The numbers from `from` up to i are taken back.
pub record Undoing (marks tape : List ℕ) (from to : ℕ) (marks' : List ℕ) (i turns : ℕ) : Type 0 where
  pub left : (before : List ℕ) → Differ before marks tape from to → Differ before marks' tape i to
  pub long : length marks' ≡ length marks
  pub counted : turns ≡ i - from
  pub later : from ≤ i
  pub so_far : i ≤ to + (from - to)

module _ (marks tape : List ℕ) (from to : ℕ) (marks' : List ℕ) (i turns : ℕ) (u : Undoing marks tape from to marks' i turns) where
  module _ (x : ℕ) (e : x ≡ get_or tape i 0) (h : i < to) where
    differ_less : (before : List ℕ) → Differ before marks' tape i to → Differ before (set marks' x 0) tape (i + 1) to
    differ_less before d = record {
      long = length-set marks' x 0 ∙ d.long;
      inside = λ j g l. d.inside j (omega arith) l;
      clear = λ j g l. d.clear j (omega arith) l;
      others = λ y n. bool_cases (eqb y x)
          (λ q. let z = eqb-true y x q in
          ap (λ (k : ℕ). get_or (set marks' x 0) k 0) z
          ∙ (get_or-set_same marks' x 0 0 (rw (d.long, e) (d.inside i (omega arith) h))
          ∙ (sym (d.clear i (omega arith) h) ∙ ap (λ (k : ℕ). get_or before k 0) (sym e ∙ sym z))))
          (λ q. let w = eqb-false y x q in
          get_or-set_other marks' x y 0 0 w
          ∙ d.others y (λ j g l p. ⊎_elim (λ now. w (sym p ∙ (ap (λ (k : ℕ). get_or tape k 0) (let same : j ≡ i = omega arith in same) ∙ sym e))) (λ later. n j later l p) (cut j (i + 1))));
    }

    pub undoing_on : Undoing marks tape from to (set marks' x 0) (i + 1) (turns + 1)
    undoing_on = record {
      left = λ before d. differ_less before (u.left before d);
      long = length-set marks' x 0 ∙ u.long;
      counted = omega (arith, u.counted, u.later);
      later = omega (arith, u.later);
      so_far = omega arith;
    }

  pub undoing_done : to ≤ i → Undone marks tape from to marks'
  undoing_done h = record {
    long = u.long;
    back = λ before d.
        let left = u.left before d in
        ext_get_or 0 marks' before left.long (λ x l. left.others x (λ j g k q. omega arith));
  }

  pub undoing_turns : to ≤ i → turns ≡ to - from
  undoing_turns h = omega (arith, u.counted, u.later, u.so_far)
