-- Variables that stand one after another.
use Rattle.std.proofs.Common.{◌≡◌, ℕ, zero, suc, ◌+◌, ◌≤◌, List, [], ◌∷◌, length, refl, sym, ap, subst, ◌∙◌, arith}
use Rattle.std.specs.Prelude.{Option, None, Some, slice_get, slice_index_or}
use Rattle.f3_program.specs.declared.declarations.Declared.{Declared}
use Rattle.f3_live_blocks.specs.Blocks.{Live, words_of}
use Rattle.f3_meaning_whole.specs.Shape.{Shape, shape_in}
use Rattle.f3_meaning_whole.specs.Store.{Step}
use Rattle.f3_rooms.specs.Held.{Row, first, others, part_at}
use Rattle.f3_rooms.specs.Forms.{form_of, words_for, room, total}
use Rattle.f3_rooms.specs.Rooms.{Room}
use Rattle.f3_rooms.specs.Places.{Found, in_variables, in_room}
use Rattle.f3_rooms.specs.Sound.{IsForm, IsObject, AreVariables, IsRoom}
use Rattle.f3_room_places.specs.declared.types.Types.{Types}
use Rattle.f3_room_places.specs.declared.place.Form as place
use Rattle.f3_room_places.specs.declared.place.Place.{Place}
use Rattle.f3_room_places.specs.Places.{IsFormed, IsPlace, IsReached, HasTables, Stands, further, shapes, without_bounds}
use Rattle.f3_room_places.specs.Starts.{starts_from, IsRoomOf}
use Rattle.f3_room_places.proofs.Ways.{whole, form_further}
use Rattle.f3_room_places.proofs.Components.{some_is}
use Rattle.f3_room_places.proofs.Reached.{none_reached, whole_within}

abbrev start : List Shape → List Declared → ℕ → ℕ → ℕ
start ts ds o i = slice_index_or (starts_from ts o ds) i 0

pub starts_many : (ts : List Shape) (ds : List Declared) (o : ℕ) → length (starts_from ts o ds) ≡ length ds
starts_many ts [] o = refl
starts_many ts (d ∷ ds) o = let e = starts_many ts ds (o + room ts d) in omega arith

no_variable : (ts : List Shape) (ds : List Declared) (b o : ℕ) (hs : Row) (i : ℕ) (way : List Step) → length ds ≤ i → in_variables ts ds b o hs i way ≡ None
no_variable ts [] b o hs i way few = refl
no_variable ts (d ∷ ds) b o hs zero way few = absurd (omega arith)
no_variable ts (d ∷ ds) b o hs (suc i) way few = no_variable ts ds b (o + room ts d) (others hs) i way (omega arith)

module _ (ts : List Shape) where
  abbrev own : Declared → Shape
  own d = shape_in ts d.kind.of

  variable_found : (ds : List Declared) (b o : ℕ) (hs : Row) (i : ℕ) (way : List Step) (d : Declared) → slice_get ds i ≡ Some d
      → in_variables ts ds b o hs i way ≡ further (whole (form_of d) (own d) d.kind.of b (start ts ds o i) (part_at hs i)) way
  variable_found [] b o hs i way d is = absurd (cc)
  variable_found (e ∷ ds) b o hs zero way d is =
      form_further (form_of e) (own e) e.kind.of b o (first hs) way
      ∙ ap (λ (x : Declared). further (whole (form_of x) (own x) x.kind.of b o (first hs)) way) (some_is e d is)
  variable_found (e ∷ ds) b o hs (suc i) way d is = variable_found ds b (o + room ts e) (others hs) i way d is

  variable_within : (ds : List Declared) (o i : ℕ) (d : Declared) → slice_get ds i ≡ Some d → start ts ds o i + room ts d ≤ o + total ts ds
  variable_within [] o i d is = absurd (cc)
  variable_within (e ∷ ds) o zero d is = let same : room ts e ≡ room ts d = ap (room ts) (some_is e d is) in omega arith
  variable_within (e ∷ ds) o (suc i) d is = let h = variable_within ds (o + room ts e) i d is in omega arith

  variable_formed : (m : Live) (ds : List Declared) (b o : ℕ) (hs : Row) (i : ℕ) (d : Declared) → slice_get ds i ≡ Some d → AreVariables ts m ds b o hs
      → IsForm m (form_of d) (words_for (own d)) (IsObject m (own d)) b (start ts ds o i) (part_at hs i)
  variable_formed m [] b o hs i d is are = absurd (cc)
  variable_formed m (e ∷ ds) b o hs zero d is are =
      subst (λ (x : Declared). IsForm m (form_of x) (words_for (own x)) (IsObject m (own x)) b o (first hs)) (some_is e d is) are.0
  variable_formed m (e ∷ ds) b o hs (suc i) d is are = variable_formed m ds b (o + room ts e) (others hs) i d is are.1

-- ---- rooms

module _ (m : Live) (types : Types) (block : ℕ) (ds : List Declared) (i : ℕ) where
  pub absent_variable : (way : List Step) → length ds ≤ i → (r : Room) → IsRoomOf (shapes types) m block ds r → IsReached m None (in_room (shapes types) r i way)
  absent_variable way few r is =
      none_reached m _ (no_variable (shapes types) r.declared r.block 0 r.held i way (subst (λ (xs : List Declared). length xs ≤ i) (sym is.these) few))

  module _ (d : Declared) (there : slice_get ds i ≡ Some d) (at : ℕ) (begins : at ≡ start (shapes types) ds 0 i) (form : place.Form)
      (formed : (n : Live) → IsFormed n form (without_bounds (form_of d))) (tables : HasTables types) where
    -- where the variable stands
    abbrev pub variable_place : Place
    variable_place = record { block = block; at = at; types = types; of = d.kind.of; form = form }

    abbrev itself : Room → Found
    itself r = whole (form_of d) (own (shapes types) d) d.kind.of r.block (start (shapes types) r.declared 0 i) (part_at r.held i)

    pub variable_stands : (r : Room) → IsRoomOf (shapes types) m block ds r → IsPlace m variable_place (itself r)
    variable_stands r is =
        let its : slice_get r.declared i ≡ Some d = ap (λ (xs : List Declared). slice_get xs i) is.these ∙ there in
        let stands : IsRoom (shapes types) m r = is.stands in
        let long : total (shapes types) r.declared ≤ length (words_of m r.block) = stands.long in
        let e = variable_within (shapes types) r.declared 0 i d its in
        record {
          block = is.there;
          at = ap (λ (xs : List Declared). start (shapes types) xs 0 i) is.these ∙ sym begins;
          of = refl;
          shape = refl;
          form = formed m;
          tables = tables;
          within = whole_within m (form_of d) (own (shapes types) d) d.kind.of r.block (start (shapes types) r.declared 0 i) (part_at r.held i) stands.live (omega arith)
              (variable_formed (shapes types) m r.declared r.block 0 r.held i d its stands.variables);
        }

    pub some_stands : (r : Room) × IsRoomOf (shapes types) m block ds r → Stands m variable_place
    some_stands r = (itself r.0, variable_stands r.0 r.1)

    pub parts_reached : (way : List Step) (o : Option Place) → ((f : Found) → IsPlace m variable_place f → IsReached m o (further f way))
        → (r : Room) → IsRoomOf (shapes types) m block ds r → IsReached m o (in_room (shapes types) r i way)
    parts_reached way o reached r is =
        let its : slice_get r.declared i ≡ Some d = ap (λ (xs : List Declared). slice_get xs i) is.these ∙ there in
        subst (IsReached m o) (sym (variable_found (shapes types) r.declared r.block 0 r.held i way d its)) (reached (itself r) (variable_stands r is))
