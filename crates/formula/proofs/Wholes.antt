-- A whole formula: its end, its clauses, its first line. Assumes nothing.
use Rattle.std.proofs.Common.{ℕ, ◌+◌, ◌*◌, ◌-◌, ◌≤◌, ◌≡◌, ◌≢◌, true, false, List, [], ◌∷◌, length, take, drop}
use Rattle.std.proofs.Common.{refl, sym, ap, subst, ◌∙◌, inl, inr, ⊎_elim, arith, length-drop, length-take-le}
use Rattle.std.proofs.Math.Option.{Option, none, some}
use Rattle.meaning.specs.Meaning.{Clause, Formula}
use Rattle.rules.specs.Text.{Token, tokens}
use Rattle.rules.specs.Formula.{after_comments, before, behind, header, read_clauses, read_formula}
use Rattle.rules.proofs.Counting.{tokens_few}
use Rattle.rules.proofs.Limited.{Announced, header_limited, clauses_within}
use Rattle.rules.proofs.Words.{tokens_proper}
use Rattle.text.specs.Scan.{Scans}
use Rattle.text.specs.declared.Token.{Token as Found}
use Rattle.text.specs.declared.Token.TheVariants.{Nothing}
use Rattle.text.proofs.Tokens.{scanned_nothing, scanned_token}
use Rattle.clauses.proofs.Parts.{part_slice}
use Rattle.std.specs.Prelude.{Option as Maybe, Some, None, Result, Ok, Err}
use Rattle.formula.specs.Opening.{AfterComments, FirstAt, Behind, header_of}
use Rattle.formula.specs.Body.{BodyDone, BodyStopped, ReadsBody}
use Rattle.formula.specs.Reading.{Ended, rest_of, FinishCase, Finishes, ReadStopped, ReadCase, ReadsRest, Reads}
use Rattle.formula.specs.declared.body.Progress.{Progress}
use Rattle.formula.specs.declared.Fault.{Fault}
use Rattle.formula.specs.declared.Fault.TheVariants.{Unreadable, TooShort}
use Rattle.formula.specs.declared.Stopped.{Stopped}
use Rattle.formula.specs.declared.Stored.{Stored}
use Rattle.formula.specs.declared.opening.Header.{Header}

-- The end

pub ended_yes : (s : List ℕ) (at : ℕ) (t : Found) (n : ℕ) → Scans at (drop at s) t n → t ≡ Nothing → Ended (tokens (drop at s)) true
ended_yes s at t n r e = record { case = scanned_nothing at (drop at s) n (rw e at r) }

pub ended_no : (s : List ℕ) (at : ℕ) (t : Found) (n : ℕ) → Scans at (drop at s) t n → t ≢ Nothing → Ended (tokens (drop at s)) false
ended_no s at t n r f = let next = scanned_token s at t n r f in record { case = (next.tok, tokens (drop n s), next.is) }

-- The clauses

tokens-room : (s : List ℕ) (at : ℕ) → at ≤ length s → 2 * length (tokens (drop at s)) ≤ length s + 1
tokens-room s at h = omega (arith, tokens_few (drop at s), length-drop at s)

rest_done : (v c : ℕ) (ts rest : List Token) (cs : List Clause) → read_clauses v c ts ≡ some (cs, rest) → rest ≡ [] → rest_of v c ts ≡ some (record { vars = v; clauses = cs })
unfolding rest_of
rest_done v c ts rest cs e q = rw (e, q)

rest_more : (v c : ℕ) (ts rest : List Token) (cs : List Clause) → read_clauses v c ts ≡ some (cs, rest) → (t : Token) (us : List Token) → rest ≡ t ∷ us → rest_of v c ts ≡ none
unfolding rest_of
rest_more v c ts rest cs e t us q = rw (e, q)

rest_none : (v c : ℕ) (ts : List Token) → read_clauses v c ts ≡ none → rest_of v c ts ≡ none
unfolding rest_of
rest_none v c ts e = rw e

module _ (v c : ℕ) (s : List ℕ) (line at : ℕ) (b : Behind s line at) (heads₀ lits₀ : List ℕ) where
  -- The tokens behind the line are those from `at` on.
  same_tokens : tokens (drop at s) ≡ tokens (drop (line + 1) s)
  same_tokens = ap tokens b.same

  module _ (heads : List ℕ) (same : length heads ≡ length heads₀) (heads' lits' : List ℕ) where
    stopped : (why : Fault) (next used closed : ℕ) → BodyStopped v c s at heads lits₀ next used closed why
        → ReadStopped (rest_of v c (tokens (drop (line + 1) s))) s heads₀ lits₀ next used closed why
    stopped Unreadable next used closed bad =
        record {
          is = ap (rest_of v c) (sym same_tokens) ∙ rest_none v c (tokens (drop at s)) bad.is;
          within = bad.within;
          few = omega (arith, bad.few, tokens-room s at b.within);
        }
    stopped TooShort next used closed long =
        let room = tokens-room s at b.within in
        record {
          short = ⊎_elim (λ l. inl (omega arith)) (λ h. inr (omega arith)) long.short;
          within = long.within;
          few = omega (arith, long.few);
        }

    pub rest_stopped : (stop : Stopped) → ReadsBody v c s at heads lits₀ heads' lits' (Err stop) → ReadsRest v c s line heads₀ lits₀ heads' lits' (Err stop)
    rest_stopped stop read = record { case = stopped stop.fault stop.at stop.used stop.closed read.case }

    module _ (done : Progress) (read : ReadsBody v c s at heads lits₀ heads' lits' (Ok done)) where
      body : BodyDone v c s at heads' lits' done.next done.used
      body = read.case

      pub rest_fits : done.used ≤ length lits'
      rest_fits = body.holds.store.fits

      formula_of_lem : Formula
      formula_of_lem = record { vars = v; clauses = body.clauses }

      finished : (r : Result Stored Stopped) → FinishCase s done.next v c (take done.used lits') r → ReadCase (rest_of v c (tokens (drop (line + 1) s))) s heads₀ lits₀ heads' lits' r
      unfolding formula_of_lem
      finished (Ok r) q =
          let count : length body.clauses ≡ c = (clauses_within v c (tokens (drop at s)) (body.clauses, tokens (drop done.next s)) (tokens_proper (drop at s)) body.is).as_many in
          rw (q.1, length-take-le done.used lits' rest_fits)
          (record {
            formula = formula_of_lem;
            is = ap (rest_of v c) (sym same_tokens) ∙ rest_done v c (tokens (drop at s)) (tokens (drop done.next s)) body.clauses body.is q.0;
            is_vars = refl;
            is_clauses = sym count;
            holds = body.holds;
            is_top = refl;
            below = body.below;
            few = omega (arith, body.few, tokens-room s at b.within);
          })
      finished (Err stop) q =
          rw (q.1, length-take-le done.used lits' rest_fits)
          (record {
            is = ap (rest_of v c) (sym same_tokens) ∙ rest_more v c (tokens (drop at s)) (tokens (drop done.next s)) body.clauses body.is q.0.0 q.0.1 q.0.2;
            within = body.within;
            few = omega (arith, body.few, tokens-room s at b.within);
          })

      pub rest_finished : (r : Result Stored Stopped) → Finishes s done.next v c (take done.used lits') r → ReadsRest v c s line heads₀ lits₀ heads' lits' r
      rest_finished r q = record { case = finished r q.case }

-- The first line

module _ (s : List ℕ) (start line : ℕ) (a : AfterComments s start) (f : FirstAt 10 s start line) where
  first_line_lem : take (line - start) (drop start s) ≡ before 10 (after_comments false s)
  first_line_lem = part_slice s start line f.later f.within ∙ sym f.is_before ∙ ap (before 10) (sym a.same)

  others : behind 10 (after_comments false s) ≡ drop (line + 1) s
  others = ap (behind 10) a.same ∙ f.is_behind

  headed : (r : Maybe Header) → r ≡ header_of (header (take (line - start) (drop start s))) → r ≡ header_of (header (before 10 (after_comments false s)))
  headed r e = e ∙ ap (λ (l : List ℕ). header_of (header l)) first_line_lem

  header-some : (o : Option (ℕ × ℕ)) (h : Header) → Some h ≡ header_of o → o ≡ some (h.vars, h.clauses)
  header-some none h p = absurd (let z : ◌≡◌ {A = ℕ} 0 1 = cc in omega arith)
  header-some (some o) h p = let q : record { vars = o.0; clauses = o.1 } ≡ h = cc in ap (λ (x : Header). some (x.vars, x.clauses)) q

  header_no : (o : Option (ℕ × ℕ)) → None ≡ header_of o → o ≡ none
  header_no none p = refl
  header_no (some h) p = absurd (let z : ◌≡◌ {A = ℕ} 0 1 = cc in omega arith)

  pub read_unreadable : (heads₀ lits₀ heads lits : List ℕ) → None ≡ header_of (header (take (line - start) (drop start s)))
      → Reads s heads₀ lits₀ heads lits (Err (record { fault = Unreadable; at = start; used = 0; closed = 0 }))
  unfolding read_formula
  read_unreadable heads₀ lits₀ heads lits q =
      record {
        case = record {
          is = rw (header_no (header (before 10 (after_comments false s))) (headed None q));
          within = a.within;
          few = omega arith;
        };
      }

  module _ (h : Header) (q : Some h ≡ header_of (header (take (line - start) (drop start s)))) where
    announces : header (before 10 (after_comments false s)) ≡ some (h.vars, h.clauses)
    announces = header-some (header (before 10 (after_comments false s))) h (headed (Some h) q)

    pub read_limits : Announced (h.vars, h.clauses)
    read_limits = header_limited (before 10 (after_comments false s)) (h.vars, h.clauses) announces

    same_formula : rest_of h.vars h.clauses (tokens (drop (line + 1) s)) ≡ read_formula s
    unfolding read_formula rest_of
    same_formula = sym (rw (announces, others))

    pub read_rest : (heads₀ lits₀ heads lits : List ℕ) (x : Result Stored Stopped) → ReadsRest h.vars h.clauses s line heads₀ lits₀ heads lits x → Reads s heads₀ lits₀ heads lits x
    read_rest heads₀ lits₀ heads lits x h = record { case = subst (λ (o : Option Formula). ReadCase o s heads₀ lits₀ heads lits x) same_formula h.case }
