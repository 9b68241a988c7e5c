-- Texts in a slice, and how they join. Assumes nothing.
use Rattle.std.proofs.Common.{ℕ, ◌<◌, ◌≡◌, List, [], ◌∷◌, ◌++◌, length, take, drop}
use Rattle.std.proofs.Common.{refl, sym, ap, ◌∙◌, append_assoc, arith, length-append, length-drop, take-append-drop, take_at, drop_at, drop-drop, length-take-le}
use Rattle.writer.specs.Text.{Wrote, Room, WroteCounted}

-- Nothing was written.
pub wrote_none : (before : List ℕ) (at : ℕ) → Wrote before at [] before at
wrote_none before at = record { ends = omega arith; is = sym (take-append-drop at before) }

module _ {before after text : List ℕ} {at end : ℕ} (w : Wrote before at text after end) (room : Room before at text) where
  -- What stands up to the end of the text.
  front_length : length (take at before ++ text) ≡ end
  front_length = rw (length-append, length-take-le at before (omega (arith, room.fits))) (sym w.ends)

  split : after ≡ (take at before ++ text) ++ drop end before
  split = w.is ∙ sym (append_assoc (take at before) text (drop end before))

  pub wrote_same : length after ≡ length before
  wrote_same = ap length split ∙ rw (length-append (take at before ++ text) (drop end before), front_length, length-drop) (omega (arith, w.ends, room.fits))

  -- A second text behind the first.
  pub wrote_more : {more after' : List ℕ} {end' : ℕ} → Wrote after end more after' end' → Wrote before at (text ++ more) after' end'
  wrote_more {more} {after'} {end'} v = record {
    ends = rw length-append (omega (arith, w.ends, v.ends));
    is = v.is ∙ rw (ap (take end) split, take_at _ (drop end before) end front_length, behind) (simp append_assoc);
  }
    where
      behind : drop end' after ≡ drop end' before
      behind = rw (v.ends, ← drop-drop (length more) end after, ap (drop end) split, drop_at _ (drop end before) end front_length) (drop-drop (length more) end before)

-- The same text under another name.
pub wrote_as : {before after text same : List ℕ} {at end : ℕ} → same ≡ text → Wrote before at text after end → Wrote before at same after end
wrote_as e w = rw e w

pub counted_as : {before after text same : List ℕ} {at end free turns : ℕ} → same ≡ text → WroteCounted before at text after end free turns → WroteCounted before at same after end free turns
counted_as e w = rw e w

pub room_as : {before text same : List ℕ} {at : ℕ} → same ≡ text → Room before at same → Room before at text
room_as e h = record { fits = omega (arith, ap length e, h.fits) }

-- A text of two parts.
pub record Parts (text piece rest : List ℕ) : Type 0 where
  pub are : text ≡ piece ++ rest

-- There is room for the first, behind it for the rest, and the two together are the text.
module _ {before text piece rest : List ℕ} {at : ℕ} (parts : Parts text piece rest) (room : Room before at text) where
  pub room-first : Room before at piece
  room-first = record { fits = omega (arith, simp length-append at (ap length parts.are), room.fits) }

  module _ {after : List ℕ} {end : ℕ} (w : Wrote before at piece after end) where
    pub room_rest : Room after end rest
    room_rest = record { fits = omega (arith, simp length-append at (ap length parts.are), wrote_same w room-first, w.ends, room.fits) }

    pub wrote_parts : {after' : List ℕ} {end' : ℕ} → Wrote after end rest after' end' → Wrote before at text after' end'
    wrote_parts v = rw parts.are (wrote_more w room-first v)

-- A text that is being written: its front is written, the rest is not.
pub record Going (before : List ℕ) (at : ℕ) (whole rest now : List ℕ) (place : ℕ) : Type 0 where
  pub front : List ℕ
  pub parts : Parts whole front rest
  pub room : Room before at whole
  pub wrote : Wrote before at front now place

pub going_start : {before whole : List ℕ} {at : ℕ} → Room before at whole → Going before at whole whole before at
going_start {before} {whole} {at} room = record { front = []; parts = record { are = refl }; room = room; wrote = wrote_none before at }

module _ {before whole rest now : List ℕ} {at place : ℕ} (g : Going before at whole rest now place) where
  pub going_room : Room now place rest
  going_room = room_rest g.parts g.room g.wrote

  pub going_same : length now ≡ length before
  going_same = wrote_same g.wrote (room-first g.parts g.room)

  -- A first piece of the rest is written.
  pub going_on : {piece rest' now' : List ℕ} {place' : ℕ} → Parts rest piece rest' → Wrote now place piece now' place' → Going before at whole rest' now' place'
  going_on {piece} {rest'} p w = record {
    front = g.front ++ piece;
    parts = record { are = g.parts.are ∙ rw p.are (sym (append_assoc g.front piece rest')) };
    room = g.room;
    wrote = wrote_more g.wrote (room-first g.parts g.room) w;
  }

  -- All of the rest is written.
  pub going_end : {now' : List ℕ} {place' : ℕ} → Wrote now place rest now' place' → Wrote before at whole now' place'
  going_end w = wrote_parts g.parts g.room g.wrote w

-- One byte of the rest is written.
pub going_byte : {before whole rest now now' : List ℕ} {at b place place' : ℕ} → Going before at whole (b ∷ rest) now place → Wrote now place (b ∷ []) now' place'
    → Going before at whole rest now' place'
going_byte g w = going_on g (record { are = refl }) w

pub byte_room : {now rest : List ℕ} {place b : ℕ} → Room now place (b ∷ rest) → place < length now
byte_room r = omega (arith, r.fits)
