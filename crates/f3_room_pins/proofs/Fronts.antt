-- What stands at the front of a way, also where something else is held at its end.
use Rattle.std.proofs.Common.{◌≡◌, ◌⊎◌, inl, inr, ℕ, zero, suc, ◌+◌, ◌*◌, ◌-◌, ◌≤◌, Bool, true, false, List, [], ◌∷◌, ◌++◌, length, refl, sym, ap, ◌∙◌, arith}
use Rattle.std.proofs.lemmas.Bool.{cases_lt}
use Rattle.std.proofs.lemmas.List.{get_or-set_same}
use Rattle.std.specs.Prelude.{None, Some, nat_lt, if◌then◌else◌, slice_index_or}
use Rattle.f3_program.specs.declared.declarations.Base.{Base}
use Rattle.f3_program.specs.declared.declarations.Declared.{Declared}
use Rattle.f3_meaning_whole.specs.Value.{Span, count}
use Rattle.f3_meaning_whole.specs.Shape.{Shape, Whole, Logical, Record, Parts, nothing, and, shape_in}
use Rattle.f3_meaning_whole.specs.Store.{Root, Static, Local, Step, Component, Element, Contents}
use Rattle.f3_rooms.specs.Held.{Held, Row, Empty, Holds, Parts as Divided, parts_of, first, others, part_at, with_part_at, with_held}
use Rattle.f3_rooms.specs.Forms.{Form, Laid, Allocatable, form_of, form_words, words_for, room}
use Rattle.f3_rooms.specs.Rooms.{Slot, Known, Stands, Rooms}
use Rattle.f3_rooms.specs.Places.{Found, Onward, in_laid, in_form, in_object, in_component, in_variables, in_room, in_level, found, room_with, level_with, rooms_with}
use Rattle.f3_rooms.specs.Laws.{with_held_in}
use Rattle.f3_rooms.specs.Ways.{part_of}
use Rattle.f3_rooms.proofs.Reading.{one_found, none_found}

-- ---- there is something at the front of a way

module _ (g : Found) where
  abbrev Fronts : Onward → Type 0
  Fronts go = (b o : ℕ) (h : Held) (way more : List Step) → go b o h (way ++ more) ≡ Some g → (f : Found) × (go b o h way ≡ Some f)

  module _ (s : Shape) (of : Base) (fronts : Fronts (in_object s of)) where
    laid_front : (rank : ℕ) (ss : List Span) → Fronts (in_laid rank ss s of (in_object s of))
    laid_front zero ss b o h way more e = fronts b o h way more e
    laid_front (suc rank) ss b o h [] more e = (_, refl)
    laid_front (suc rank) ss b o h (Component k ∷ way) more e = none_found g e
    laid_front (suc rank) ss b o h (Contents ∷ way) more e = none_found g e
    laid_front (suc rank) ss b o h (Element k ∷ way) more e = by (nat_lt k (count ss)) e
      where
        by : (t : Bool) → (if t then in_object s of b (o + k * words_for s) (part_at (parts_of h) k) (way ++ more) else None) ≡ Some g
            → (f : Found) × ((if t then in_object s of b (o + k * words_for s) (part_at (parts_of h) k) way else None) ≡ Some f)
        by false e = none_found g e
        by true e = fronts b (o + k * words_for s) (part_at (parts_of h) k) way more e

    form_front : (form : Form) → Fronts (in_form form s of (in_object s of))
    form_front (Laid rank ss) b o h way more e = laid_front rank ss b o h way more e
    form_front (Allocatable rank) b o h [] more e = (_, refl)
    form_front (Allocatable rank) b o h (Component k ∷ way) more e = none_found g e
    form_front (Allocatable rank) b o h (Element k ∷ way) more e = none_found g e
    form_front (Allocatable rank) b o Empty (Contents ∷ way) more e = none_found g e
    form_front (Allocatable rank) b o (Divided hs) (Contents ∷ way) more e = none_found g e
    form_front (Allocatable rank) b o (Holds c ss h) (Contents ∷ way) more e = laid_front rank ss c 0 h way more e

  mutual
    object_front : (s : Shape) (of : Base) → Fronts (in_object s of)
    object_front s of b o h [] more e = (_, refl)
    object_front (Record t parts) of b o h (Component k ∷ way) more e = component_front parts b o (parts_of h) k way more e
    object_front (Record t parts) of b o h (Element k ∷ way) more e = none_found g e
    object_front (Record t parts) of b o h (Contents ∷ way) more e = none_found g e
    object_front Whole of b o h (step ∷ way) more e = none_found g e
    object_front Logical of b o h (step ∷ way) more e = none_found g e

    component_front : (parts : Parts) (b o : ℕ) (hs : Row) (k : ℕ) (way more : List Step) → in_component parts b o hs k (way ++ more) ≡ Some g
        → (f : Found) × (in_component parts b o hs k way ≡ Some f)
    component_front nothing b o hs k way more e = none_found g e
    component_front (and c s rest) b o hs zero way more e = form_front s c.declared.kind.of (object_front s c.declared.kind.of) (form_of c.declared) b o (first hs) way more e
    component_front (and c s rest) b o hs (suc k) way more e = component_front rest b (o + form_words (form_of c.declared) (words_for s)) (others hs) k way more e

  module _ (ts : List Shape) where
    variables_front : (ds : List Declared) (b o : ℕ) (hs : Row) (i : ℕ) (way more : List Step) → in_variables ts ds b o hs i (way ++ more) ≡ Some g
        → (f : Found) × (in_variables ts ds b o hs i way ≡ Some f)
    variables_front [] b o hs i way more e = none_found g e
    variables_front (d ∷ ds) b o hs zero way more e =
        let s : Shape = shape_in ts d.kind.of in form_front s d.kind.of (object_front s d.kind.of) (form_of d) b o (first hs) way more e
    variables_front (d ∷ ds) b o hs (suc i) way more e = variables_front ds b (o + room ts d) (others hs) i way more e

    level_front : (l : List Slot) (i : ℕ) (way more : List Step) → in_level ts l i (way ++ more) ≡ Some g → (f : Found) × (in_level ts l i way ≡ Some f)
    level_front [] i way more e = none_found g e
    level_front (Known v ∷ ss) zero way more e = none_found g e
    level_front (Known v ∷ ss) (suc i) way more e = level_front ss i way more e
    level_front (Stands r ∷ ss) i way more e = by (level_front ss (i - length r.declared) way more) (nat_lt i (length r.declared)) e
      where
        by : (in_level ts ss (i - length r.declared) (way ++ more) ≡ Some g → (f : Found) × (in_level ts ss (i - length r.declared) way ≡ Some f)) → (t : Bool)
            → (if t then in_room ts r i (way ++ more) else in_level ts ss (i - length r.declared) (way ++ more)) ≡ Some g
            → (f : Found) × ((if t then in_room ts r i way else in_level ts ss (i - length r.declared) way) ≡ Some f)
        by further true e = variables_front r.declared r.block 0 r.held i way more e
        by further false e = further e

pub front_found : (ts : List Shape) (x : Rooms) (r : Root) (way more : List Step) (g : Found) → found ts x r (way ++ more) ≡ Some g → (f : Found) × (found ts x r way ≡ Some f)
front_found ts x (Static i) way more g e = variables_front g ts (x.statics).declared (x.statics).block 0 (x.statics).held i way more e
front_found ts x (Local level i) way more g e = level_front g ts (slice_index_or x.levels level []) i way more e

-- ---- it stays where something else is held further on

same_part : (hs : Row) (k : ℕ) (v : Held) → part_at (with_part_at hs k v) k ≡ v
same_part hs zero v = refl
same_part hs (suc k) v = same_part (others hs) k v

module _ (f : Found) (more : List Step) (u : Held) where
  abbrev now : Found → Found
  now g = with_held_in g (with_held g.held more u)

  abbrev Stays : Onward → Type 0
  Stays go = (b o : ℕ) (h : Held) (way : List Step) → go b o h way ≡ Some f → go b o (with_held h (way ++ more) u) way ≡ Some (now f)

  itself : (g : Found) → Some g ≡ Some f → Some (now g) ≡ Some (now f)
  itself g e = ap (λ k. Some (now k)) (one_found g f e)

  module _ (s : Shape) (of : Base) (stays : Stays (in_object s of)) where
    laid_stays : (rank : ℕ) (ss : List Span) → Stays (in_laid rank ss s of (in_object s of))
    laid_stays zero ss b o h way e = stays b o h way e
    laid_stays (suc rank) ss b o h [] e = itself _ e
    laid_stays (suc rank) ss b o h (Component k ∷ way) e = none_found f e
    laid_stays (suc rank) ss b o h (Contents ∷ way) e = none_found f e
    laid_stays (suc rank) ss b o h (Element k ∷ way) e = by (nat_lt k (count ss)) e
      where
        by : (t : Bool) → (if t then in_object s of b (o + k * words_for s) (part_at (parts_of h) k) way else None) ≡ Some f
            → (if t then in_object s of b (o + k * words_for s) (part_at (with_part_at (parts_of h) k (with_held (part_at (parts_of h) k) (way ++ more) u)) k) way else None) ≡ Some (now f)
        by false e = none_found f e
        by true e = ap (λ j. in_object s of b (o + k * words_for s) j way) (same_part (parts_of h) k (with_held (part_at (parts_of h) k) (way ++ more) u))
            ∙ stays b (o + k * words_for s) (part_at (parts_of h) k) way e

    form_stays : (form : Form) → Stays (in_form form s of (in_object s of))
    form_stays (Laid rank ss) b o h way e = laid_stays rank ss b o h way e
    form_stays (Allocatable rank) b o h [] e = itself _ e
    form_stays (Allocatable rank) b o h (Component k ∷ way) e = none_found f e
    form_stays (Allocatable rank) b o h (Element k ∷ way) e = none_found f e
    form_stays (Allocatable rank) b o Empty (Contents ∷ way) e = none_found f e
    form_stays (Allocatable rank) b o (Divided hs) (Contents ∷ way) e = none_found f e
    form_stays (Allocatable rank) b o (Holds c ss h) (Contents ∷ way) e = laid_stays rank ss c 0 h way e

  mutual
    object_stays : (s : Shape) (of : Base) → Stays (in_object s of)
    object_stays s of b o h [] e = itself _ e
    object_stays (Record t parts) of b o h (Component k ∷ way) e = component_stays parts b o (parts_of h) k way e
    object_stays (Record t parts) of b o h (Element k ∷ way) e = none_found f e
    object_stays (Record t parts) of b o h (Contents ∷ way) e = none_found f e
    object_stays Whole of b o h (step ∷ way) e = none_found f e
    object_stays Logical of b o h (step ∷ way) e = none_found f e

    component_stays : (parts : Parts) (b o : ℕ) (hs : Row) (k : ℕ) (way : List Step) → in_component parts b o hs k way ≡ Some f
        → in_component parts b o (with_part_at hs k (with_held (part_at hs k) (way ++ more) u)) k way ≡ Some (now f)
    component_stays nothing b o hs k way e = none_found f e
    component_stays (and c s rest) b o hs zero way e = form_stays s c.declared.kind.of (object_stays s c.declared.kind.of) (form_of c.declared) b o (first hs) way e
    component_stays (and c s rest) b o hs (suc k) way e = component_stays rest b (o + form_words (form_of c.declared) (words_for s)) (others hs) k way e

  module _ (ts : List Shape) where
    variables_stay : (ds : List Declared) (b o : ℕ) (hs : Row) (i : ℕ) (way : List Step) → in_variables ts ds b o hs i way ≡ Some f
        → in_variables ts ds b o (with_part_at hs i (with_held (part_at hs i) (way ++ more) u)) i way ≡ Some (now f)
    variables_stay [] b o hs i way e = none_found f e
    variables_stay (d ∷ ds) b o hs zero way e = let s : Shape = shape_in ts d.kind.of in form_stays s d.kind.of (object_stays s d.kind.of) (form_of d) b o (first hs) way e
    variables_stay (d ∷ ds) b o hs (suc i) way e = variables_stay ds b (o + room ts d) (others hs) i way e

    level_stays : (l : List Slot) (i : ℕ) (way : List Step) → in_level ts l i way ≡ Some f → in_level ts (level_with l i (way ++ more) u) i way ≡ Some (now f)
    level_stays [] i way e = none_found f e
    level_stays (Known v ∷ ss) zero way e = none_found f e
    level_stays (Known v ∷ ss) (suc i) way e = level_stays ss i way e
    level_stays (Stands r ∷ ss) i way e = by (level_stays ss (i - length r.declared) way) (nat_lt i (length r.declared)) refl e
      where
        by : (in_level ts ss (i - length r.declared) way ≡ Some f → in_level ts (level_with ss (i - length r.declared) (way ++ more) u) (i - length r.declared) way ≡ Some (now f))
            → (t : Bool) → nat_lt i (length r.declared) ≡ t → (if t then in_room ts r i way else in_level ts ss (i - length r.declared) way) ≡ Some f
            → in_level ts (if t then Stands (room_with r i (way ++ more) u) ∷ ss else Stands r ∷ level_with ss (i - length r.declared) (way ++ more) u) i way ≡ Some (now f)
        by further true t e = ap (λ c. if c then in_room ts (room_with r i (way ++ more) u) i way else in_level ts ss (i - length r.declared) way) t
            ∙ variables_stay r.declared r.block 0 r.held i way e
        by further false t e = ap (λ c. if c then in_room ts r i way else in_level ts (level_with ss (i - length r.declared) (way ++ more) u) (i - length r.declared) way) t ∙ further e

past : (ls : List (List Slot)) (k : ℕ) → length ls ≤ k → slice_index_or ls k [] ≡ []
past [] k le = refl
past (l ∷ ls) zero le = absurd (omega arith)
past (l ∷ ls) (suc k) le = past ls k (omega arith)

pub front_stays : (ts : List Shape) (x : Rooms) (r : Root) (way more : List Step) (f : Found) (u : Held) → found ts x r way ≡ Some f
    → found ts (rooms_with x r (way ++ more) u) r way ≡ Some (with_held_in f (with_held f.held more u))
front_stays ts x (Static i) way more f u e = variables_stay f more u ts (x.statics).declared (x.statics).block 0 (x.statics).held i way e
front_stays ts x (Local level i) way more f u e =
    let l : List Slot = slice_index_or x.levels level [] in
    elim (cases_lt level (length x.levels)) [
      | inl lt ↦ ap (λ k. in_level ts k i way) (get_or-set_same x.levels level (level_with l i (way ++ more) u) [] lt) ∙ level_stays f more u ts l i way e
      | inr ge ↦ none_found f (sym (ap (λ k. in_level ts k i way) (past x.levels level ge)) ∙ e)
    ]

-- ---- a way that enters no contents goes on the same whatever is held

abbrev pub HasContents : List Step → Type 0
HasContents way = (mid : List Step) × ((after : List Step) × (way ≡ mid ++ Contents ∷ after))

later : (s : Step) (way : List Step) → HasContents way → HasContents (s ∷ way)
later s way is = (s ∷ is.0, ((is.1).0, ap (λ w. s ∷ w) (is.1).1))

module _ (f : Found) where
  abbrev Same : Onward → Type 0
  Same go = (b o : ℕ) (h k : Held) (way : List Step) → go b o h way ≡ Some f → HasContents way ⊎ ((j : Held) × (go b o k way ≡ Some (with_held_in f j)))

  itself_so : (g : Found) (k : Held) → Some g ≡ Some f → Some (with_held_in g k) ≡ Some (with_held_in f k)
  itself_so g k e = ap (λ j. Some (with_held_in j k)) (one_found g f e)

  module _ (s : Shape) (of : Base) (same : Same (in_object s of)) where
    laid_same : (rank : ℕ) (ss : List Span) → Same (in_laid rank ss s of (in_object s of))
    laid_same zero ss b o h k way e = same b o h k way e
    laid_same (suc rank) ss b o h k [] e = inr (k, itself_so _ k e)
    laid_same (suc rank) ss b o h k (Component i ∷ way) e = none_found f e
    laid_same (suc rank) ss b o h k (Contents ∷ way) e = none_found f e
    laid_same (suc rank) ss b o h k (Element i ∷ way) e = by (nat_lt i (count ss)) e
      where
        by : (t : Bool) → (if t then in_object s of b (o + i * words_for s) (part_at (parts_of h) i) way else None) ≡ Some f
            → HasContents (Element i ∷ way) ⊎ ((j : Held) × ((if t then in_object s of b (o + i * words_for s) (part_at (parts_of k) i) way else None) ≡ Some (with_held_in f j)))
        by false e = none_found f e
        by true e = elim (same b (o + i * words_for s) (part_at (parts_of h) i) (part_at (parts_of k) i) way e) [
          | inl has ↦ inl (later (Element i) way has)
          | inr is ↦ inr is
        ]

    form_same : (form : Form) → Same (in_form form s of (in_object s of))
    form_same (Laid rank ss) b o h k way e = laid_same rank ss b o h k way e
    form_same (Allocatable rank) b o h k [] e = inr (k, itself_so _ k e)
    form_same (Allocatable rank) b o h k (Component i ∷ way) e = none_found f e
    form_same (Allocatable rank) b o h k (Element i ∷ way) e = none_found f e
    form_same (Allocatable rank) b o h k (Contents ∷ way) e = inl ([], (way, refl))

  mutual
    object_same : (s : Shape) (of : Base) → Same (in_object s of)
    object_same s of b o h k [] e = inr (k, itself_so _ k e)
    object_same (Record t parts) of b o h k (Component i ∷ way) e = elim (component_same parts b o (parts_of h) (parts_of k) i way e) [
      | inl has ↦ inl (later (Component i) way has)
      | inr is ↦ inr is
    ]
    object_same (Record t parts) of b o h k (Element i ∷ way) e = none_found f e
    object_same (Record t parts) of b o h k (Contents ∷ way) e = none_found f e
    object_same Whole of b o h k (step ∷ way) e = none_found f e
    object_same Logical of b o h k (step ∷ way) e = none_found f e

    component_same : (parts : Parts) (b o : ℕ) (hs ks : Row) (i : ℕ) (way : List Step) → in_component parts b o hs i way ≡ Some f
        → HasContents way ⊎ ((j : Held) × (in_component parts b o ks i way ≡ Some (with_held_in f j)))
    component_same nothing b o hs ks i way e = none_found f e
    component_same (and c s rest) b o hs ks zero way e = form_same s c.declared.kind.of (object_same s c.declared.kind.of) (form_of c.declared) b o (first hs) (first ks) way e
    component_same (and c s rest) b o hs ks (suc i) way e = component_same rest b (o + form_words (form_of c.declared) (words_for s)) (others hs) (others ks) i way e

pub same_onward : (f : Found) (u : Held) (way : List Step) (g : Found) → part_of f way ≡ Some g → HasContents way ⊎ ((k : Held) × (part_of (with_held_in f u) way ≡ Some (with_held_in g k)))
same_onward f u way g e = form_same g f.shape f.of (object_same g f.shape f.of) f.form f.block f.at f.held u way e
