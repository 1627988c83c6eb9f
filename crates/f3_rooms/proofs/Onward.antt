-- Ways on from parts.
use Rattle.std.proofs.Common.{◌≡◌, ℕ, zero, suc, ◌+◌, ◌*◌, ◌-◌, Bool, true, false, List, [], ◌∷◌, ◌++◌, length, ap}
use Rattle.std.specs.Prelude.{None, Some, nat_lt, if◌then◌else◌, slice_index_or}
use Rattle.f3_program.specs.declared.declarations.Base.{Base}
use Rattle.f3_program.specs.declared.declarations.Declared.{Declared}
use Rattle.f3_meaning_whole.specs.Value.{Span, count}
use Rattle.f3_meaning_whole.specs.Shape.{Shape, Whole, Logical, Record, Parts, nothing, and, shape_in}
use Rattle.f3_meaning_whole.specs.Store.{Static, Local, Step, Component, Element, Contents}
use Rattle.f3_rooms.specs.Held.{Held, Row, Empty, Holds, Parts as Divided, parts_of, first, others, part_at}
use Rattle.f3_rooms.specs.Forms.{Form, Laid, Allocatable, form_of, form_words, words_for, room}
use Rattle.f3_rooms.specs.Rooms.{Slot, Known, Stands}
use Rattle.f3_rooms.specs.Places.{Found, Onward, in_laid, in_form, in_object, in_component, in_variables, in_room, in_level}
use Rattle.f3_rooms.specs.Ways.{part_of, PartsHaveParts}
use Rattle.f3_rooms.proofs.Reading.{one_found, none_found}

module _ (f : Found) (more : List Step) where
  abbrev Goes : Onward → Type 0
  Goes go = (b o : ℕ) (h : Held) (way : List Step) → go b o h way ≡ Some f → go b o h (way ++ more) ≡ part_of f more

  -- the part itself
  itself : (g : Found) → Some g ≡ Some f → part_of g more ≡ part_of f more
  itself g e = ap (λ k. part_of k more) (one_found g f e)

  module _ (s : Shape) (of : Base) (goes : Goes (in_object s of)) where
    laid_goes : (rank : ℕ) (ss : List Span) → Goes (in_laid rank ss s of (in_object s of))
    laid_goes zero ss b o h way e = goes b o h way e
    laid_goes (suc rank) ss b o h [] e = itself _ e
    laid_goes (suc rank) ss b o h (Component k ∷ way) e = none_found f e
    laid_goes (suc rank) ss b o h (Contents ∷ way) e = none_found f e
    laid_goes (suc rank) ss b o h (Element k ∷ way) e = by (nat_lt k (count ss)) e
      where
        by : (t : Bool) → (if t then in_object s of b (o + k * words_for s) (part_at (parts_of h) k) way else None) ≡ Some f
            → (if t then in_object s of b (o + k * words_for s) (part_at (parts_of h) k) (way ++ more) else None) ≡ part_of f more
        by false e = none_found f e
        by true e = goes b (o + k * words_for s) (part_at (parts_of h) k) way e

    form_goes : (form : Form) → Goes (in_form form s of (in_object s of))
    form_goes (Laid rank ss) b o h way e = laid_goes rank ss b o h way e
    form_goes (Allocatable rank) b o h [] e = itself _ e
    form_goes (Allocatable rank) b o h (Component k ∷ way) e = none_found f e
    form_goes (Allocatable rank) b o h (Element k ∷ way) e = none_found f e
    form_goes (Allocatable rank) b o Empty (Contents ∷ way) e = none_found f e
    form_goes (Allocatable rank) b o (Divided hs) (Contents ∷ way) e = none_found f e
    form_goes (Allocatable rank) b o (Holds c ss h) (Contents ∷ way) e = laid_goes rank ss c 0 h way e

  mutual
    object_goes : (s : Shape) (of : Base) → Goes (in_object s of)
    object_goes s of b o h [] e = itself _ e
    object_goes (Record t parts) of b o h (Component k ∷ way) e = component_goes parts b o (parts_of h) k way e
    object_goes (Record t parts) of b o h (Element k ∷ way) e = none_found f e
    object_goes (Record t parts) of b o h (Contents ∷ way) e = none_found f e
    object_goes Whole of b o h (step ∷ way) e = none_found f e
    object_goes Logical of b o h (step ∷ way) e = none_found f e

    component_goes : (parts : Parts) (b o : ℕ) (hs : Row) (k : ℕ) (way : List Step) → in_component parts b o hs k way ≡ Some f
        → in_component parts b o hs k (way ++ more) ≡ part_of f more
    component_goes nothing b o hs k way e = none_found f e
    component_goes (and c s rest) b o hs zero way e = form_goes s c.declared.kind.of (object_goes s c.declared.kind.of) (form_of c.declared) b o (first hs) way e
    component_goes (and c s rest) b o hs (suc k) way e = component_goes rest b (o + form_words (form_of c.declared) (words_for s)) (others hs) k way e

  module _ (ts : List Shape) where
    variables_go : (ds : List Declared) (b o : ℕ) (hs : Row) (i : ℕ) (way : List Step) → in_variables ts ds b o hs i way ≡ Some f
        → in_variables ts ds b o hs i (way ++ more) ≡ part_of f more
    variables_go [] b o hs i way e = none_found f e
    variables_go (d ∷ ds) b o hs zero way e = let s : Shape = shape_in ts d.kind.of in form_goes s d.kind.of (object_goes s d.kind.of) (form_of d) b o (first hs) way e
    variables_go (d ∷ ds) b o hs (suc i) way e = variables_go ds b (o + room ts d) (others hs) i way e

    level_goes : (l : List Slot) (i : ℕ) (way : List Step) → in_level ts l i way ≡ Some f → in_level ts l i (way ++ more) ≡ part_of f more
    level_goes [] i way e = none_found f e
    level_goes (Known v ∷ ss) zero way e = none_found f e
    level_goes (Known v ∷ ss) (suc i) way e = level_goes ss i way e
    level_goes (Stands r ∷ ss) i way e = by (level_goes ss (i - length r.declared) way) (nat_lt i (length r.declared)) e
      where
        by : (in_level ts ss (i - length r.declared) way ≡ Some f → in_level ts ss (i - length r.declared) (way ++ more) ≡ part_of f more) → (t : Bool)
            → (if t then in_room ts r i way else in_level ts ss (i - length r.declared) way) ≡ Some f
            → (if t then in_room ts r i (way ++ more) else in_level ts ss (i - length r.declared) (way ++ more)) ≡ part_of f more
        by further true e = variables_go r.declared r.block 0 r.held i way e
        by further false e = further e

pub parts_have_parts : PartsHaveParts
parts_have_parts ts x (Static i) way more f e = variables_go f more ts (x.statics).declared (x.statics).block 0 (x.statics).held i way e
parts_have_parts ts x (Local level i) way more f e = level_goes f more ts (slice_index_or x.levels level []) i way e
