-- Parts to which steps lead.
use Rattle.std.proofs.Common.{◌≡◌, ℕ, zero, suc, ◌+◌, ◌*◌, ◌≤◌, List, [], ◌∷◌, length, take, refl, sym, ap, subst, ◌∙◌, arith, inl, inr, true}
use Rattle.std.proofs.lemmas.Bool.{ltb-true}
use Rattle.std.specs.Prelude.{Option, None, Some, nat_lt, if◌then◌else◌}
use Rattle.f3_program.specs.declared.declarations.Base.{Base}
use Rattle.f3_program.specs.declared.declarations.Base.TheVariants as base
use Rattle.f3_program.specs.declared.declarations.Component.{Component}
use Rattle.f3_program.specs.declared.declarations.Declared.{Declared}
use Rattle.f3_program.specs.declared.declarations.Derived.{Derived}
use Rattle.f3_live_blocks.specs.Blocks.{Live, IsLive, words_of}
use Rattle.f3_meaning_whole.specs.Value.{Span, count}
use Rattle.f3_meaning_whole.specs.Shape.{Shape, Whole, Record, Parts, parts_in, shape_in, shapes_of}
use Rattle.f3_meaning_whole.specs.Store as step
use Rattle.f3_rooms.specs.Held.{Held, parts_of, part_at}
use Rattle.f3_rooms.specs.Forms as room
use Rattle.f3_rooms.specs.Forms.{form_of, form_words, words_for, words_for_parts}
use Rattle.f3_rooms.specs.Places.{Found, in_object}
use Rattle.f3_rooms.specs.Sound.{Fact, IsForm, IsObject}
use Rattle.f3_rooms.specs.Laws.{IsWithin}
use Rattle.f3_rooms.proofs.Within.{each_at, room_for}
use Rattle.f3_room_places.specs.declared.types.Types.{Types}
use Rattle.f3_room_places.specs.declared.place.Bounds.{Bounds}
use Rattle.f3_room_places.specs.declared.place.Form as place
use Rattle.f3_room_places.specs.declared.place.Form.TheVariants.{Laid, Allocatable}
use Rattle.f3_room_places.specs.declared.place.Place.{Place}
use Rattle.f3_room_places.specs.Places.{AreBounds, IsFormed, IsPlace, IsReached, HasTables, further, shapes, without_bounds}
use Rattle.f3_room_places.specs.Components.{declared_at, offset_at}
use Rattle.f3_room_places.proofs.Trees.{trees_before}
use Rattle.f3_room_places.proofs.Ways.{whole, object_whole, onward, further_onward}
use Rattle.f3_room_places.proofs.Components.{IsComponent, component_is, component_found, component_formed, no_component, not_there, type_is, start, start_moved, start_within}

-- the same part, its type and its form by these names
abbrev pub named : Found → Shape → room.Form → Found
named f s form = record { block = f.block; at = f.at; shape = s; of = f.of; form = form; held = f.held }

pub same_part : (f : Found) (s : Shape) (form : room.Form) → f.shape ≡ s → f.form ≡ form → f ≡ named f s form
same_part f s form es ef = ap (λ t. named f t f.form) es ∙ ap (named f s) ef

pub none_reached : (m : Live) (o : Option Found) → o ≡ None → IsReached m None o
none_reached m o e = subst (IsReached m None) (sym e) tt

-- what is laid out so is, without the bounds of one object
bare_words : (form : room.Form) (n : ℕ) → form_words (without_bounds form) n ≡ form_words form n
bare_words (room.Laid zero ss) n = refl
bare_words (room.Laid (suc rank) ss) n = refl
bare_words (room.Allocatable rank) n = refl

bare_form : (m : Live) (form : room.Form) (n : ℕ) (P : Fact) (b o : ℕ) (h : Held) → IsForm m form n P b o h → IsForm m (without_bounds form) n P b o h
bare_form m (room.Laid zero ss) n P b o h is = is
bare_form m (room.Laid (suc rank) ss) n P b o h is = is
bare_form m (room.Allocatable rank) n P b o h is = is

pub whole_within : (m : Live) (form : room.Form) (s : Shape) (of : Base) (b o : ℕ) (h : Held) → IsLive m b → o + form_words form (words_for s) ≤ length (words_of m b)
    → IsForm m form (words_for s) (IsObject m s) b o h → IsWithin m (whole form s of b o h)
whole_within m form s of b o h live long is = record {
  live = live;
  within = let e = bare_words form (words_for s) in omega arith;
  form = bare_form m form (words_for s) (IsObject m s) b o h is;
}

-- one object has no bounds
one_formed : (m : Live) (bounds : Bounds) (form : room.Form) → IsFormed m (Laid 0 bounds) form → form ≡ room.Laid 0 []
one_formed m bounds (room.Laid zero ss) is = ap (room.Laid 0) is.1
one_formed m bounds (room.Laid (suc rank) ss) is = absurd (omega (arith, is.0))
one_formed m bounds (room.Allocatable rank) is = absurd is

-- ---- components

module _ (m : Live) (p : Place) (f : Found) (is : IsPlace m p f) (bounds : Bounds) (one : p.form ≡ Laid 0 bounds) (t : ℕ) (of : p.of ≡ base.Derived t) where
  pub one_object : f.form ≡ room.Laid 0 []
  one_object = one_formed m bounds f.form (subst (λ form. IsFormed m form f.form) one is.form)

  of_type : f.shape ≡ shape_in (shapes p.types) (base.Derived t)
  of_type = is.shape ∙ ap (shape_in (shapes p.types)) of

  pub no_component_reached : (k : ℕ) → declared_at p.types.derived.now t k ≡ None → IsReached m None (further f (step.Component k ∷ []))
  no_component_reached k none = elim (not_there p.types.derived.now t k none) [
    | inl past ↦ none_reached m _ (ap (λ (g : Found). further g (step.Component k ∷ [])) (same_part f Whole (room.Laid 0 []) (of_type ∙ past) one_object))
    | inr lacks ↦
        let ts : List Shape = shapes_of (take t p.types.derived.now) in
        let s : Shape = Record t (parts_in ts (lacks.0).components.items) in
        none_reached m _ (ap (λ (g : Found). further g (step.Component k ∷ [])) (same_part f s (room.Laid 0 []) (of_type ∙ type_is p.types.derived.now t lacks.0 lacks.1) one_object)
        ∙ no_component ts (lacks.0).components.items f.block f.at (parts_of f.held) k [] lacks.2)
  ]

  module _ (k : ℕ) (x : Derived) (c : Component) (its : IsComponent p.types.derived.now t k x c) where
    abbrev ts : List Shape
    ts = shapes_of (take t p.types.derived.now)

    abbrev parts : Parts
    parts = parts_in ts x.components.items

    record_type : f.shape ≡ Record t parts
    record_type = of_type ∙ type_is p.types.derived.now t x its.of

    same : f ≡ named f (Record t parts) (room.Laid 0 [])
    same = same_part f (Record t parts) (room.Laid 0 []) record_type one_object

    there : IsWithin m (named f (Record t parts) (room.Laid 0 []))
    there = subst (IsWithin m) same is.within

    reaches : further f (step.Component k ∷ []) ≡ Some (whole (form_of c.declared) (shape_in ts c.declared.kind.of) c.declared.kind.of f.block (start parts f.at k) (part_at (parts_of f.held) k))
    reaches = ap (λ (g : Found). further g (step.Component k ∷ [])) same ∙ component_found ts x.components.items f.block f.at (parts_of f.held) k c its.is

    begins : start parts f.at k ≡ p.at + offset_at (shape_in (shapes p.types) (base.Derived t)) k
    begins =
        start_moved ts x.components.items f.at 0 f.at k c (omega arith) its.is
        ∙ ap (λ o. o + start parts 0 k) is.at
        ∙ ap (λ s. p.at + offset_at s k) (sym (type_is p.types.derived.now t x its.of))

    ends : start parts f.at k + form_words (form_of c.declared) (words_for (shape_in ts c.declared.kind.of)) ≤ length (words_of m f.block)
    ends =
        let within : f.at + words_for_parts parts ≤ length (words_of m f.block) = there.within in
        let e = start_within ts x.components.items f.at k c its.is in
        omega arith

    pub component_fits : p.at + offset_at (shape_in (shapes p.types) (base.Derived t)) k ≤ length (words_of m p.block)
    component_fits = let e = begins in let g = ends in subst (λ b. p.at + offset_at (shape_in (shapes p.types) (base.Derived t)) k ≤ length (words_of m b)) is.block (omega arith)

    pub component_reached : (at : ℕ) (types : Types) (form : place.Form) → at ≡ p.at + offset_at (shape_in (shapes p.types) (base.Derived t)) k
        → HasTables types → shapes types ≡ take t (shapes p.types) → IsFormed m form (without_bounds (form_of c.declared))
        → IsReached m (Some (record { block = p.block; at = at; types = types; of = c.declared.kind.of; form = form })) (further f (step.Component k ∷ []))
    component_reached at types form from tables before formed =
        let q : Place = record { block = p.block; at = at; types = types; of = c.declared.kind.of; form = form } in
        let has : IsForm m (room.Laid 0 []) (words_for_parts parts) (IsObject m (Record t parts)) f.block f.at f.held = there.form in
        subst (IsReached m (Some q)) (sym reaches) (record {
          block = is.block;
          at = begins ∙ sym from;
          of = refl;
          shape = ap (λ ss. shape_in ss c.declared.kind.of) (sym (before ∙ sym (trees_before p.types.derived.now t)));
          form = formed;
          tables = tables;
          within = whole_within m (form_of c.declared) (shape_in ts c.declared.kind.of) c.declared.kind.of f.block (start parts f.at k) (part_at (parts_of f.held) k) there.live ends
              (component_formed ts m x.components.items f.block f.at (parts_of f.held) k c its.is has.1);
        })

module _ (m : Live) (p : Place) (bounds : Bounds) (rank : ℕ) (laid : p.form ≡ Laid rank bounds) (one : rank ≡ 0) (t : ℕ) (of : p.of ≡ base.Derived t) (k : ℕ) where
  one_laid : p.form ≡ Laid 0 bounds
  one_laid = laid ∙ ap (λ n. Laid n bounds) one

  pub absent_component : declared_at p.types.derived.now t k ≡ None → (f : Found) → IsPlace m p f → IsReached m None (further f (step.Component k ∷ []))
  absent_component none f is = no_component_reached m p f is bounds one_laid t of k none

  module _ (d : Declared) (at : ℕ) (there : declared_at p.types.derived.now t k ≡ Some d) (begins : at ≡ offset_at (shape_in (shapes p.types) (base.Derived t)) k) where
    pub offset_fits : (f : Found) → IsPlace m p f → p.at + at ≤ length (words_of m p.block)
    offset_fits f is =
        let found = component_is p.types.derived.now t k d there in
        subst (λ o. p.at + o ≤ length (words_of m p.block)) (sym begins) (component_fits m p f is bounds one_laid t of k found.0 found.1 found.2)

    pub present_component : (types : Types) (form : place.Form) → HasTables types → shapes types ≡ take t (shapes p.types) → ((n : Live) → IsFormed n form (without_bounds (form_of d)))
        → (f : Found) → IsPlace m p f
        → IsReached m (Some (record { block = p.block; at = p.at + at; types = types; of = d.kind.of; form = form })) (further f (step.Component k ∷ []))
    present_component types form tables before formed f is =
        let found = component_is p.types.derived.now t k d there in
        let same : (found.1).declared ≡ d = found.3 in
        subst (λ (e : Declared). IsReached m (Some (record { block = p.block; at = p.at + at; types = types; of = e.kind.of; form = form })) (further f (step.Component k ∷ []))) same
        (component_reached m p f is bounds one_laid t of k found.0 found.1 found.2 (p.at + at) types form (ap (λ o. p.at + o) begins) tables before
        (subst (λ (e : Declared). IsFormed m form (without_bounds (form_of e))) (sym same) (formed m)))

-- ---- elements

-- an array, and its bounds
record IsArray (m : Live) (rank : ℕ) (bounds : Bounds) (form : room.Form) (r : ℕ) (ss : List Span) : Type 0 where
  is : form ≡ room.Laid (suc r) ss
  told : AreBounds m rank bounds ss

array_formed : (m : Live) (rank : ℕ) (bounds : Bounds) → (rank ≡ 0 → ⊥) → (form : room.Form) → IsFormed m (Laid rank bounds) form → (r : ℕ) × (ss : List Span) × IsArray m rank bounds form r ss
array_formed m rank bounds some (room.Laid zero ss) is = absurd (some is.0)
array_formed m rank bounds some (room.Laid (suc r) ss) is = (r, ss, record { is = refl; told = subst (λ k. AreBounds m k bounds ss) (sym is.0) is.1 })
array_formed m rank bounds some (room.Allocatable r) is = absurd is

module _ (m : Live) (p : Place) (rank : ℕ) (bounds : Bounds) (laid : p.form ≡ Laid rank bounds) (some : rank ≡ 0 → ⊥) (k w : ℕ)
    (there : (ss : List Span) → AreBounds m rank bounds ss → true ≡ nat_lt k (count ss)) (words : w ≡ words_for (shape_in (shapes p.types) p.of)) where
  pub present_element : (form : place.Form) → ((n : Live) → IsFormed n form (room.Laid 0 [])) → (f : Found) → IsPlace m p f
      → IsReached m (Some (record { block = p.block; at = p.at + k * w; types = p.types; of = p.of; form = form })) (further f (step.Element k ∷ []))
  present_element form formed f is =
      let array = array_formed m rank bounds some f.form (subst (λ form. IsFormed m form f.form) laid is.form) in
      let r : ℕ = array.0 in
      let ss : List Span = array.1 in
      let its : IsArray m rank bounds f.form r ss = array.2 in
      let n : ℕ = words_for f.shape in
      let same : f ≡ named f f.shape (room.Laid (suc r) ss) = same_part f f.shape (room.Laid (suc r) ss) refl its.is in
      let has : IsWithin m (named f f.shape (room.Laid (suc r) ss)) = subst (IsWithin m) same is.within in
      let lies : f.at + count ss * n ≤ length (words_of m f.block) = has.within in
      let formed_so : IsForm m (room.Laid (suc r) ss) n (IsObject m f.shape) f.block f.at f.held = has.form in
      let below = there ss its.told in
      let lt = ltb-true k (count ss) (sym below) in
      let few = room_for (count ss) n k lt in
      let size : w ≡ n = words ∙ ap words_for (sym is.shape) in
      let q : Place = record { block = p.block; at = p.at + k * w; types = p.types; of = p.of; form = form } in
      let reaches : further f (step.Element k ∷ []) ≡ Some (whole (room.Laid 0 []) f.shape f.of f.block (f.at + k * n) (part_at (parts_of f.held) k))
      = ap (λ (g : Found). further g (step.Element k ∷ [])) same
      ∙ ap (λ t. if t then in_object f.shape f.of f.block (f.at + k * n) (part_at (parts_of f.held) k) [] else None) (sym below)
      ∙ object_whole f.shape f.of f.block (f.at + k * n) (part_at (parts_of f.held) k) in
      subst (IsReached m (Some q)) (sym reaches) (record {
        block = is.block;
        at = ap (λ o. o + k * n) is.at ∙ ap (λ j. p.at + k * j) (sym size);
        of = is.of;
        shape = is.shape;
        form = formed m;
        tables = is.tables;
        within = whole_within m (room.Laid 0 []) f.shape f.of f.block (f.at + k * n) (part_at (parts_of f.held) k) has.live (omega arith)
            (each_at (count ss) n (IsObject m f.shape) f.block f.at (parts_of f.held) k lt formed_so.1);
      })

-- ---- further steps

none_of : (m : Live) (form : place.Form) (ss : List Span) → IsFormed m form (room.Laid 0 ss) → ss ≡ []
none_of m (Laid rank bounds) ss is = is.1
none_of m (Allocatable rank) ss is = absurd is

module _ (m : Live) where
  pub stays : (p : Place) (f : Found) → IsPlace m p f → IsReached m (Some p) (further f [])
  stays p f is = by f.form refl (is.form)
    where
      by : (form : room.Form) → f.form ≡ form → IsFormed m p.form f.form → IsReached m (Some p) (further f [])
      by (room.Laid zero ss) e formed =
          let bare : room.Laid zero ss ≡ room.Laid 0 [] = ap (room.Laid 0) (none_of m p.form ss (subst (IsFormed m p.form) e formed)) in
          let same : f ≡ named f f.shape (room.Laid 0 []) = same_part f f.shape (room.Laid 0 []) refl (e ∙ bare) in
          subst (IsReached m (Some p)) (sym (ap (λ (g : Found). further g []) same ∙ object_whole f.shape f.of f.block f.at f.held)) (subst (IsPlace m p) same is)
      by (room.Laid (suc rank) ss) e formed = subst (λ (g : Found). IsReached m (Some p) (further g [])) (sym (same_part f f.shape (room.Laid (suc rank) ss) refl e)) (subst (IsPlace m p) (same_part f f.shape (room.Laid (suc rank) ss) refl e) is)
      by (room.Allocatable rank) e formed = subst (λ (g : Found). IsReached m (Some p) (further g [])) (sym (same_part f f.shape (room.Allocatable rank) refl e)) (subst (IsPlace m p) (same_part f f.shape (room.Allocatable rank) refl e) is)

  -- what is reached from what a step leads to is reached by that step
  pub steps_on : (one : step.Step) (way : List step.Step) (next : Place) (o : Option Place) (f : Found) → IsReached m (Some next) (further f (one ∷ []))
      → ((g : Found) → IsPlace m next g → IsReached m o (further g way)) → IsReached m o (further f (one ∷ way))
  steps_on one way next o f reached rest = by (further f (one ∷ [])) refl reached
    where
      by : (found : Option Found) → further f (one ∷ []) ≡ found → IsReached m (Some next) found → IsReached m o (further f (one ∷ way))
      by None e is = absurd is
      by (Some g) e is = subst (IsReached m o) (sym (further_onward f one way ∙ ap (λ x. onward x way) e)) (rest g is)

  pub steps_none : (one : step.Step) (way : List step.Step) (f : Found) → IsReached m None (further f (one ∷ [])) → IsReached m None (further f (one ∷ way))
  steps_none one way f reached = by (further f (one ∷ [])) refl reached
    where
      by : (found : Option Found) → further f (one ∷ []) ≡ found → IsReached m None found → IsReached m None (further f (one ∷ way))
      by None e is = none_reached m _ (further_onward f one way ∙ ap (λ x. onward x way) e)
      by (Some g) e is = absurd is

  -- it stands where it was found
  pub stands_next : (next : Place) (found : Option Found) → IsReached m (Some next) found → (g : Found) × IsPlace m next g
  stands_next next None is = absurd is
  stands_next next (Some g) is = (g, is)
