-- A step that is read in part: one token more makes of `resume` what `advance` says, and the end of the tokens makes nothing
-- of it. Assumes nothing.
use Rattle.std.proofs.Common.{ℕ, ◌+◌, ◌≡◌, refl, sym, ap, ◌∙◌, true, false, List, [], ◌∷◌, ◌++◌, append_assoc, append-nil, arith, length, length-append}
use Rattle.std.proofs.Math.Option.{Option, none, some}
use Rattle.meaning.specs.Meaning.{Clause}
use Rattle.meaning.proofs.Truth.{bool_cases}
use Rattle.rules.specs.Tools.{◌>>=◌}
use Rattle.rules.specs.Limits.{max_variable}
use Rattle.rules.specs.Text.{Token, is_nought, is_letter_d, literal}
use Rattle.rules.specs.Formula.{items}
use Rattle.rules.specs.Steps.{Hint, Step, add, delete, clause_id, hint, step_body, read_step}
use Rattle.rules.proofs.Options.{none-some, some_inj, option_cases}
use Rattle.steps.specs.Partials.{
  Partial,
  at_start,
  got_id,
  in_literals,
  in_hints,
  in_ids,
  resume,
  reach,
  Advance,
  goes_on,
  ends,
  unreadable,
  item_or,
  literal_or,
  advance,
  afterwards,
  taken,
  step_tokens,
}

-- The end of the tokens

pub resume_end : (p : Partial) → resume p [] ≡ none
unfolding resume read_step step_body items
resume_end at_start = refl
resume_end (got_id n) = refl
resume_end (in_literals n k) = refl
resume_end (in_hints n k hs) = refl
resume_end (in_ids ids) = refl

-- One token

-- What is to be done with items: `whole xs ts` where the items are xs, and ts stands behind their 0.
unfoldable onward : {A : Type 0} → (List A → List Token → Option (Step × List Token)) → List A → Option (List A × List Token) → Option (Step × List Token)
onward whole xs none = none
onward whole xs (some r) = whole (xs ++ r.0) r.1

-- Items behind the items xs: one more is read, or their 0, or neither, and `item_or` says the same if `on` and `end` do.
module _ {A : Type 0} (item : Token → Option A) (whole : List A → List Token → Option (Step × List Token)) (xs : List A) (on : A → Advance) (end : Advance) (t : Token) (ts : List Token)
    (goes : (x : A) → onward whole (xs ++ (x ∷ [])) (items item ts) ≡ afterwards (on x) ts) (finished : whole xs ts ≡ afterwards end ts) where
  onward_more : (x : A) → is_nought t ≡ false → item t ≡ some x → onward whole xs (items item (t ∷ ts)) ≡ onward whole (xs ++ (x ∷ [])) (items item ts)
  unfolding items onward
  onward_more x n e = rw (n, items, e) (go (items item ts))
    where
      go : (o : Option (List A × List Token)) → onward whole xs (o >>= (λ (ys, rest). some (x ∷ ys, rest))) ≡ onward whole (xs ++ (x ∷ [])) o
      go none = refl
      go (some r) = ap (λ (l : List A). whole l r.1) (sym (append_assoc xs (x ∷ []) r.0))

  onward_bad : is_nought t ≡ false → item t ≡ none → onward whole xs (items item (t ∷ ts)) ≡ none
  unfolding items onward
  onward_bad n e = rw (n, items, e)

  onward_end : is_nought t ≡ true → onward whole xs (items item (t ∷ ts)) ≡ whole xs ts
  unfolding items onward
  onward_end y = rw (y, items) (ap (λ (l : List A). whole l ts) (append-nil xs))

  onward_item : onward whole xs (items item (t ∷ ts)) ≡ afterwards (item_or item on end t) ts
  unfolding item_or afterwards
  onward_item =
      bool_cases (is_nought t)
      (λ y. onward_end y ∙ (finished ∙ sym (rw (y, item_or))))
      (λ n. option_cases (item t)
      (λ e. onward_bad n e ∙ sym (rw (n, item_or, e)))
      (λ x e. onward_more x n e ∙ (goes x ∙ sym (rw (n, item_or, e)))))

-- Each kind of items in this form.

literals_whole : ℕ → Clause → List Token → Option (Step × List Token)
literals_whole n k ts = items hint ts >>= (λ (hs, rest). some (add n k hs, rest))

hints_whole : ℕ → Clause → List Hint → List Token → Option (Step × List Token)
hints_whole n k hs ts = some (add n k hs, ts)

ids_whole : List ℕ → List Token → Option (Step × List Token)
ids_whole ids ts = some (delete ids, ts)

resume_literals : (n : ℕ) (k : Clause) (ts : List Token) → resume (in_literals n k) ts ≡ onward (literals_whole n) k (items (literal max_variable) ts)
unfolding resume onward literals_whole
resume_literals n k ts = go (items (literal max_variable) ts)
  where
    go : (o : Option (Clause × List Token))
        → (o >>= (λ (more, rest). items hint rest >>= (λ (hs, rest'). some (add n (k ++ more) hs, rest')))) ≡ onward (literals_whole n) k o
    go none = refl
    go (some r) = refl

resume_hints : (n : ℕ) (k : Clause) (hs : List Hint) (ts : List Token) → resume (in_hints n k hs) ts ≡ onward (hints_whole n k) hs (items hint ts)
unfolding resume onward hints_whole
resume_hints n k hs ts = go (items hint ts)
  where
    go : (o : Option (List Hint × List Token)) → (o >>= (λ (more, rest). some (add n k (hs ++ more), rest))) ≡ onward (hints_whole n k) hs o
    go none = refl
    go (some r) = refl

resume-ids : (ids : List ℕ) (ts : List Token) → resume (in_ids ids) ts ≡ onward ids_whole ids (items clause_id ts)
unfolding resume onward ids_whole
resume-ids ids ts = go (items clause_id ts)
  where
    go : (o : Option (List ℕ × List Token)) → (o >>= (λ (more, rest). some (delete (ids ++ more), rest))) ≡ onward ids_whole ids o
    go none = refl
    go (some r) = refl

-- Where no literal is read yet, the hints are those that follow; where no hint is, likewise.
hints_begin : (n : ℕ) (k : Clause) (ts : List Token) → literals_whole n k ts ≡ resume (in_hints n k []) ts
unfolding resume literals_whole
hints_begin n k ts = refl

literal_step : (n : ℕ) (k : Clause) (t : Token) (ts : List Token) → resume (in_literals n k) (t ∷ ts) ≡ afterwards (literal_or n k t) ts
unfolding literal_or afterwards
literal_step n k t ts =
    resume_literals n k (t ∷ ts)
    ∙ onward_item (literal max_variable) (literals_whole n) k (λ l. goes_on (in_literals n (k ++ (l ∷ [])))) (goes_on (in_hints n k [])) t ts
    (λ l. sym (resume_literals n (k ++ (l ∷ [])) ts))
    (hints_begin n k ts)

-- Behind the id: the letter d begins a deletion, and any other token is the first of the literals.
body_deletion : (n : ℕ) (t : Token) (ts : List Token) → is_letter_d t ≡ true → step_body n (t ∷ ts) ≡ resume (in_ids []) ts
unfolding step_body resume
body_deletion n t ts y = rw (y, step_body)

body_addition : (n : ℕ) (t : Token) (ts : List Token) → is_letter_d t ≡ false → step_body n (t ∷ ts) ≡ resume (in_literals n []) (t ∷ ts)
unfolding step_body resume
body_addition n t ts f = rw (f, step_body)

pub resume-advance : (p : Partial) (t : Token) (ts : List Token) → resume p (t ∷ ts) ≡ afterwards (advance p t) ts
unfolding resume advance afterwards read_step hints_whole ids_whole
resume-advance at_start t ts = option_cases (clause_id t) (λ e. rw (e, read_step, advance)) (λ n e. rw (e, read_step, advance))
resume-advance (got_id n) t ts =
    bool_cases (is_letter_d t)
    (λ y. body_deletion n t ts y ∙ sym (rw (y, advance)))
    (λ f. body_addition n t ts f ∙ (literal_step n [] t ts ∙ sym (rw (f, advance))))
resume-advance (in_literals n k) t ts = literal_step n k t ts
resume-advance (in_hints n k hs) t ts =
    resume_hints n k hs (t ∷ ts)
    ∙ onward_item hint (hints_whole n k) hs (λ h. goes_on (in_hints n k (hs ++ (h ∷ [])))) (ends (add n k hs)) t ts (λ h. sym (resume_hints n k (hs ++ (h ∷ [])) ts)) refl
resume-advance (in_ids ids) t ts =
    resume-ids ids (t ∷ ts)
    ∙ onward_item clause_id ids_whole ids (λ m. goes_on (in_ids (ids ++ (m ∷ [])))) (ends (delete ids)) t ts (λ m. sym (resume-ids (ids ++ (m ∷ [])) ts)) refl

-- Tokens are taken one by one.

abbrev pub Counted : ℕ → Advance → Type 0
Counted n (goes_on q) = taken q ≡ n + 1
Counted n (ends step) = step_tokens step ≡ n + 1
Counted n unreadable = Unit {0}

item_counted : {A : Type 0} (n : ℕ) (item : Token → Option A) (on : A → Advance) (end : Advance) (t : Token) → ((x : A) → Counted n (on x)) → Counted n end → Counted n (item_or item on end t)
unfolding item_or
item_counted n item on end t f g =
    bool_cases (is_nought t)
    (λ y. rw (y, item_or) g)
    (λ m. option_cases (item t) (λ e. rw (m, item_or, e) tt) (λ x e. rw (m, item_or, e) (f x)))

literal-counted : (n : ℕ) (k : Clause) (t : Token) → Counted (length k + 1) (literal_or n k t)
unfolding literal_or
literal-counted n k t = item_counted (length k + 1) (literal max_variable) _ _ t (λ l. rw length-append (omega arith)) (omega arith)

pub advance-counted : (p : Partial) (t : Token) → Counted (taken p) (advance p t)
unfolding advance
advance-counted at_start t = option_cases (clause_id t) (λ e. rw (e, advance) tt) (λ n e. rw (e, advance) (omega arith))
advance-counted (got_id n) t = bool_cases (is_letter_d t) (λ y. rw (y, advance) (omega arith)) (λ f. rw (f, advance) (literal-counted n [] t))
advance-counted (in_literals n k) t = literal-counted n k t
advance-counted (in_hints n k hs) t = item_counted (length k + length hs + 2) hint _ _ t (λ h. rw length-append (omega arith)) (omega arith)
advance-counted (in_ids ids) t = item_counted (length ids + 2) clause_id _ _ t (λ m. rw length-append (omega arith)) (omega arith)

-- Several tokens

-- What is read behind a token and those that follow it.
record Behind (p : Partial) (t : Token) (ts : List Token) (q : Partial) : Type 0 where
  first : Partial
  goes : advance p t ≡ goes_on first
  others : reach first ts ≡ some q

reach-first : (p : Partial) (t : Token) (ts : List Token) (q : Partial) → reach p (t ∷ ts) ≡ some q → Behind p t ts q
unfolding reach
reach-first p t ts q e = go (advance p t) refl
  where
    go : (a : Advance) → advance p t ≡ a → Behind p t ts q
    go (goes_on r) w = record { first = r; goes = w; others = (rw (w, reach) at e) }
    go (ends step) w = none-some (rw (w, reach) at e)
    go unreadable w = none-some (rw (w, reach) at e)

reach_on : (p : Partial) (t : Token) (ts : List Token) (r : Partial) → advance p t ≡ goes_on r → reach p (t ∷ ts) ≡ reach r ts
unfolding reach
reach_on p t ts r e = rw (e, reach)

reach-none : (p q : Partial) → reach p [] ≡ some q → p ≡ q
unfolding reach
reach-none p q e = some_inj e

pub reach-start : (p : Partial) → reach p [] ≡ some p
unfolding reach
reach-start p = refl

-- One token more.
pub reach_more : (p : Partial) (ts : List Token) (q : Partial) (t : Token) (r : Partial) → reach p ts ≡ some q → advance q t ≡ goes_on r → reach p (ts ++ (t ∷ [])) ≡ some r
reach_more p [] q t r e w = reach_on p t [] r (ap (λ (o : Partial). advance o t) (reach-none p q e) ∙ w) ∙ reach-start r
reach_more p (u ∷ ts) q t r e w =
    let b = reach-first p u ts q e in
    reach_on p u (ts ++ (t ∷ [])) b.first b.goes ∙ reach_more b.first ts q t r b.others w

-- What is left says what all says.
pub resume-reach : (p : Partial) (ts : List Token) (q : Partial) (us : List Token) → reach p ts ≡ some q → resume p (ts ++ us) ≡ resume q us
unfolding afterwards
resume-reach p [] q us e = ap (λ (o : Partial). resume o us) (reach-none p q e)
resume-reach p (t ∷ ts) q us e =
    let b = reach-first p t ts q e in
    resume-advance p t (ts ++ us) ∙ ap (λ (a : Advance). afterwards a (ts ++ us)) b.goes ∙ resume-reach b.first ts q us b.others

pub reach-taken : (p : Partial) (ts : List Token) (q : Partial) → reach p ts ≡ some q → taken q ≡ taken p + length ts
reach-taken p [] q e = ap taken (sym (reach-none p q e)) ∙ omega arith
reach-taken p (t ∷ ts) q e =
    let b = reach-first p t ts q e in
    let one : taken b.first ≡ taken p + 1 = rw b.goes at (advance-counted p t) in
    reach-taken b.first ts q b.others ∙ omega (arith, one)
