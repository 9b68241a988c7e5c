-- The text of a clause, literal by literal. Assumes nothing.
use Rattle.std.proofs.Common.{ℕ, ◌+◌, ◌-◌, ◌*◌, ◌≤◌, ◌<◌, ◌≡◌, List, [], ◌∷◌, map, add-one, arith, length, drop, get_or, drop_of_length-le, drop-cons}
use Rattle.rules.specs.Written.{write_literal, write_clause}
use Rattle.clauses.specs.Codes.{literal_of}
use Rattle.writer.specs.Text.{Wrote, Room, Counted, WroteCounted}
use Rattle.writer.proofs.Texts.{Parts, Going, going_room, going_on, going_byte, going_end, room-first, byte_room}

-- The text of a clause from its i-th literal on.
abbrev pub clause_from : List ℕ → ℕ → List ℕ
clause_from codes i = write_clause (map literal_of (drop i codes))

pub clause_more : (codes : List ℕ) (i : ℕ) → i < length codes → Parts (clause_from codes i) (write_literal (literal_of (get_or codes i 0))) (32 ∷ clause_from codes (i + 1))
unfolding write_clause
clause_more codes i h = record { are = rw (add-one i, drop-cons codes i 0 h) }

pub clause_end : (codes : List ℕ) (i : ℕ) → length codes ≤ i → clause_from codes i ≡ 48 ∷ 10 ∷ []
unfolding write_clause
clause_end codes i h = rw (drop_of_length-le codes h)

-- The first i literals are written, each with a space.
pub record Writing (before : List ℕ) (at : ℕ) (codes now : List ℕ) (place turns i : ℕ) : Type 0 where
  pub going : Going before at (clause_from codes 0) (clause_from codes i) now place
  pub counted : Counted at place 0 turns

module _ {before codes now : List ℕ} {at place turns i : ℕ} (w : Writing before at codes now place turns i) where
  -- All literals are written.
  pub writing_end : length codes ≤ i → Going before at (clause_from codes 0) (48 ∷ 10 ∷ []) now place
  writing_end h = rw (clause_end codes i h) at w.going

  module _ (h : i < length codes) where
    pub writing_room : Room now place (write_literal (literal_of (get_or codes i 0)))
    writing_room = room-first (clause_more codes i h) (going_room w.going)

    module _ {now' : List ℕ} {next : ℕ} (l : Wrote now place (write_literal (literal_of (get_or codes i 0))) now' next) where
      -- The literal is written, its space is not.
      space : Going before at (clause_from codes 0) (32 ∷ clause_from codes (i + 1)) now' next
      space = going_on w.going (clause_more codes i h) l

      pub writing_space : next < length now'
      writing_space = byte_room (going_room space)

      pub writing_on : {now'' : List ℕ} {place' spent : ℕ} → Wrote now' next (32 ∷ []) now'' place' → spent ≡ next - place → Writing before at codes now'' place' (turns + (1 + 2 * spent)) (i + 1)
      writing_on v e = record {
        going = going_byte space v;
        counted = record {
          at_least = omega (arith, w.counted.at_least, l.ends, v.ends);
          at_most = omega (arith, w.counted.at_most, l.ends, v.ends);
        };
      }

-- The `0` and the line feed behind the literals.
module _ {before whole now now' : List ℕ} {at place place' : ℕ} (g : Going before at whole (48 ∷ 10 ∷ []) now place) (z : Wrote now place (48 ∷ []) now' place') where
  pub ending-room : place' < length now'
  ending-room = byte_room (going_room (going_byte g z))

  pub ending : {now'' : List ℕ} {place'' turns : ℕ} → Counted at place 0 turns → Wrote now' place' (10 ∷ []) now'' place'' → WroteCounted before at whole now'' place'' 2 turns
  ending c f = record {
    wrote = going_end (going_byte g z) f;
    counted = record { at_least = omega (arith, c.at_least, z.ends, f.ends); at_most = omega (arith, c.at_most, z.ends, f.ends) };
  }
