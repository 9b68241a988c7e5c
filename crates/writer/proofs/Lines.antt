-- The first line of a formula's text. Assumes nothing.
use Rattle.std.proofs.Common.{ℕ, ◌+◌, ◌-◌, ◌*◌, ◌≤◌, ◌<◌, ◌≡◌, refl, sym, ap, ◌∙◌, List, [], ◌∷◌, ◌++◌, append_assoc, arith, length, drop, length-append}
use Rattle.rules.specs.Written.{decimal, write_clauses, write_formula}
use Rattle.clauses.specs.Store.{clauses_of}
use Rattle.writer.specs.Text.{Sized, Wrote, Room, WroteCounted, line_start, first_line, formula_of, length_of, WroteFormula, LineDigits}
use Rattle.writer.proofs.Digits.{decimal-some}
use Rattle.writer.proofs.Texts.{Parts, Going, going_start, going_room, going_on, going_byte, going_end, room-first, wrote_parts, byte_room}
use Rattle.clauses.proofs.Holding.{clauses_length}

pub start-room : {out : List ℕ} → Room out 0 line_start → 6 ≤ length out
unfolding line_start
start-room r = omega (arith, r.fits)

pub start_wrote : (out after : List ℕ) → after ≡ line_start ++ drop 6 out → Wrote out 0 line_start after 6
unfolding line_start
start_wrote out after e = record { ends = refl; is = e }

-- The parts of the line.
pub line_start_lem : (vars clauses : ℕ) → Parts (first_line vars clauses) line_start (decimal vars ++ (32 ∷ (decimal clauses ++ (10 ∷ []))))
unfolding first_line
line_start_lem vars clauses = record { are = refl }

module _ (vars clauses : ℕ) {before now : List ℕ} {first : ℕ} (room : Room before 0 (first_line vars clauses)) (w : Wrote before 0 line_start now first) where
  starting : Going before 0 (first_line vars clauses) (decimal vars ++ (32 ∷ (decimal clauses ++ (10 ∷ [])))) now first
  starting = going_on (going_start room) (line_start_lem vars clauses) w

  pub first-room : Room now first (decimal vars)
  first-room = room-first (record { are = refl }) (going_room starting)

  module _ {now' : List ℕ} {space : ℕ} (v : Wrote now first (decimal vars) now' space) where
    spacing : Going before 0 (first_line vars clauses) (32 ∷ (decimal clauses ++ (10 ∷ []))) now' space
    spacing = going_on starting (record { are = refl }) v

    pub space_room : space < length now'
    space_room = byte_room (going_room spacing)

    module _ {now'' : List ℕ} {second : ℕ} (s : Wrote now' space (32 ∷ []) now'' second) where
      counting : Going before 0 (first_line vars clauses) (decimal clauses ++ (10 ∷ [])) now'' second
      counting = going_byte spacing s

      pub second_room : Room now'' second (decimal clauses)
      second_room = room-first (record { are = refl }) (going_room counting)

      module _ {now''' : List ℕ} {feed : ℕ} (c : Wrote now'' second (decimal clauses) now''' feed) where
        feeding : Going before 0 (first_line vars clauses) (10 ∷ []) now''' feed
        feeding = going_on counting (record { are = refl }) c

        pub feed-room : feed < length now'''
        feed-room = byte_room (going_room feeding)

        pub line_wrote : {after : List ℕ} {end digits : ℕ} → Wrote now''' feed (10 ∷ []) after end → digits ≡ space - first + (feed - second)
            → WroteCounted before 0 (first_line vars clauses) after end 6 (2 * digits)
        unfolding line_start
        line_wrote f e = record {
          wrote = going_end feeding f;
          counted = record {
            at_least = omega (arith, w.ends, v.ends, s.ends, c.ends, f.ends, decimal-some vars, decimal-some clauses);
            at_most = omega (arith, w.ends, v.ends, s.ends, c.ends, f.ends);
          };
        }

pub line_digits : (vars clauses : ℕ) {one two : ℕ} → Sized (decimal vars) one 20 → Sized (decimal clauses) two 20 → LineDigits vars clauses (one + two)
unfolding first_line line_start
line_digits vars clauses a b = record {
  is = rw (length-append (decimal vars) (32 ∷ (decimal clauses ++ (10 ∷ []))), length-append (decimal clauses) (10 ∷ [])) (omega (arith, a.is, b.is));
  some = omega (arith, a.some, b.some);
  few = omega (arith, a.few, b.few);
}

-- The whole text: the first line, and then the clauses.
grouped : (a b c d : List ℕ) → a ++ b ++ 32 ∷ c ++ 10 ∷ d ≡ (a ++ (b ++ (32 ∷ (c ++ (10 ∷ []))))) ++ d
grouped a b c d = simp append_assoc

whole_text : (heads lits : List ℕ) (n vars : ℕ) → write_formula (formula_of heads lits n vars) ≡ first_line vars (length (clauses_of heads lits n)) ++ write_clauses (clauses_of heads lits n)
unfolding write_formula first_line line_start
whole_text heads lits n vars = grouped line_start (decimal vars) (decimal (length (clauses_of heads lits n))) (write_clauses (clauses_of heads lits n))

pub formula_parts : (heads lits : List ℕ) (n vars : ℕ) {m : ℕ} → m ≡ n → Parts (write_formula (formula_of heads lits n vars)) (first_line vars m) (write_clauses (clauses_of heads lits n))
formula_parts heads lits n vars e =
    record { are = whole_text heads lits n vars ∙ ap (λ (k : ℕ). first_line vars k ++ write_clauses (clauses_of heads lits n)) (clauses_length heads lits n ∙ sym e) }

pub formula_room : {out text : List ℕ} → length text ≤ length out → Room out 0 text
formula_room h = record { fits = omega arith }

pub formula_wrote : (heads lits : List ℕ) (n vars : ℕ) {before now after : List ℕ} {m place end one two : ℕ} → m ≡ n → length_of heads lits n vars ≤ length before
    → WroteCounted before 0 (first_line vars m) now place 6 one → WroteCounted now place (write_clauses (clauses_of heads lits n)) after end 0 two
    → WroteFormula (formula_of heads lits n vars) before after end (one + two)
formula_wrote heads lits n vars {before} {now} {after} {m} {place} {end} e h w v = record {
  ends = omega (arith, all.ends);
  is = all.is;
  counted = record {
    at_least = omega (arith, w.counted.at_least, v.counted.at_least);
    at_most = omega (arith, w.counted.at_most, v.counted.at_most);
  };
}
  where
    all : Wrote before 0 (write_formula (formula_of heads lits n vars)) after end
    all = wrote_parts (formula_parts heads lits n vars e) (formula_room h) w.wrote v.wrote
