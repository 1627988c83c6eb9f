-- Parts of parts.
use Rattle.std.proofs.Common.{◌≡◌, ℕ, zero, suc, ◌+◌, ◌*◌, Bool, true, false, List, [], ◌∷◌, refl, sym, ap, ◌∙◌}
use Rattle.std.specs.Prelude.{Option, None, Some, nat_lt, if◌then◌else◌}
use Rattle.f3_program.specs.declared.declarations.Base.{Base}
use Rattle.f3_meaning_whole.specs.Value.{Span, count}
use Rattle.f3_meaning_whole.specs.Shape.{Shape, Whole, Logical, Record, Parts, nothing, and}
use Rattle.f3_meaning_whole.specs.Store.{Step, Component, Element, Contents}
use Rattle.f3_rooms.specs.Held.{Held, Row, Empty, Holds, Parts as Divided, parts_of, first, others, part_at}
use Rattle.f3_rooms.specs.Forms.{Form, Laid, Allocatable, form_of, form_words, words_for}
use Rattle.f3_rooms.specs.Places.{Found, in_laid, in_form, in_object, in_component}
use Rattle.f3_room_places.specs.Places.{without_bounds, further}

-- an object that is laid out so, as a part of itself
abbrev pub whole : Form → Shape → Base → ℕ → ℕ → Held → Found
whole form s of b o h = record { block = b; at = o; shape = s; of = of; form = without_bounds form; held = h }

pub object_whole : (s : Shape) (of : Base) (b o : ℕ) (h : Held) → in_object s of b o h [] ≡ Some (whole (Laid 0 []) s of b o h)
object_whole Whole of b o h = refl
object_whole Logical of b o h = refl
object_whole (Record t parts) of b o h = refl

pub form_whole : (form : Form) (s : Shape) (of : Base) (b o : ℕ) (h : Held) → in_form form s of (in_object s of) b o h [] ≡ Some (whole form s of b o h)
form_whole (Laid zero ss) s of b o h = object_whole s of b o h
form_whole (Laid (suc rank) ss) s of b o h = refl
form_whole (Allocatable rank) s of b o h = refl

pub form_further : (form : Form) (s : Shape) (of : Base) (b o : ℕ) (h : Held) (way : List Step) → in_form form s of (in_object s of) b o h way ≡ further (whole form s of b o h) way
form_further (Laid zero ss) s of b o h way = refl
form_further (Laid (suc rank) ss) s of b o h way = refl
form_further (Allocatable rank) s of b o h way = refl

-- and on from there
abbrev pub onward : Option Found → List Step → Option Found
onward None way = None
onward (Some g) way = further g way

from_whole : (form : Form) (s : Shape) (of : Base) (b o : ℕ) (h : Held) (way : List Step)
    → in_form form s of (in_object s of) b o h way ≡ onward (in_form form s of (in_object s of) b o h []) way
from_whole form s of b o h way = form_further form s of b o h way ∙ ap (λ g. onward g way) (sym (form_whole form s of b o h))

component_onward : (parts : Parts) (b o : ℕ) (hs : Row) (k : ℕ) (way : List Step) → in_component parts b o hs k way ≡ onward (in_component parts b o hs k []) way
component_onward nothing b o hs k way = refl
component_onward (and c s rest) b o hs zero way = from_whole (form_of c.declared) s c.declared.kind.of b o (first hs) way
component_onward (and c s rest) b o hs (suc k) way = component_onward rest b (o + form_words (form_of c.declared) (words_for s)) (others hs) k way

object_onward : (s : Shape) (of : Base) (b o : ℕ) (h : Held) (step : Step) (way : List Step)
    → in_object s of b o h (step ∷ way) ≡ onward (in_object s of b o h (step ∷ [])) way
object_onward Whole of b o h step way = refl
object_onward Logical of b o h step way = refl
object_onward (Record t parts) of b o h (Component k) way = component_onward parts b o (parts_of h) k way
object_onward (Record t parts) of b o h (Element k) way = refl
object_onward (Record t parts) of b o h Contents way = refl

laid_onward : (rank : ℕ) (ss : List Span) (s : Shape) (of : Base) (b o : ℕ) (h : Held) (step : Step) (way : List Step)
    → in_laid rank ss s of (in_object s of) b o h (step ∷ way) ≡ onward (in_laid rank ss s of (in_object s of) b o h (step ∷ [])) way
laid_onward zero ss s of b o h step way = object_onward s of b o h step way
laid_onward (suc rank) ss s of b o h (Component k) way = refl
laid_onward (suc rank) ss s of b o h Contents way = refl
laid_onward (suc rank) ss s of b o h (Element k) way = by (nat_lt k (count ss))
  where
    by : (t : Bool) → (if t then in_object s of b (o + k * words_for s) (part_at (parts_of h) k) way else None)
        ≡ onward (if t then in_object s of b (o + k * words_for s) (part_at (parts_of h) k) [] else None) way
    by true = from_whole (Laid 0 []) s of b (o + k * words_for s) (part_at (parts_of h) k) way
    by false = refl

-- one step, and the others from there
pub further_onward : (f : Found) (step : Step) (way : List Step) → further f (step ∷ way) ≡ onward (further f (step ∷ [])) way
further_onward f step way = by f.form f.shape f.held step
  where
    by : (form : Form) (s : Shape) (h : Held) (step : Step) → in_form form s f.of (in_object s f.of) f.block f.at h (step ∷ way)
        ≡ onward (in_form form s f.of (in_object s f.of) f.block f.at h (step ∷ [])) way
    by (Laid rank ss) s h step = laid_onward rank ss s f.of f.block f.at h step way
    by (Allocatable rank) s h (Component k) = refl
    by (Allocatable rank) s h (Element k) = refl
    by (Allocatable rank) s Empty Contents = refl
    by (Allocatable rank) s (Divided hs) Contents = refl
    by (Allocatable rank) s (Holds c ss h) Contents = from_whole (Laid rank ss) s f.of c 0 h way
