-- What is held in a part, put there again, changes nothing.
use Rattle.std.proofs.Common.{◌≡◌, ℕ, zero, suc, ◌+◌, ◌*◌, ◌-◌, Bool, true, false, List, [], ◌∷◌, ◌++◌, length, refl, sym, ap, subst, ◌∙◌, arith}
use Rattle.std.specs.Prelude.{None, Some, nat_lt, if◌then◌else◌, slice_index_or, slice_set, map}
use Rattle.f3_program.specs.declared.declarations.Base.{Base}
use Rattle.f3_program.specs.declared.declarations.Declared.{Declared}
use Rattle.f3_live_blocks.specs.Blocks.{Live}
use Rattle.f3_meaning_whole.specs.Value.{Span, Composite, Array, Allocated, more, joined, count}
use Rattle.f3_meaning_whole.specs.Shape.{Shape, Whole, Logical, Record, Parts, nothing, and, shape_in}
use Rattle.f3_meaning_whole.specs.Store.{Store, Root, Static, Local, Step, Component, Element, Contents}
use Rattle.f3_rooms.specs.Held.{Held, Row, Empty, Holds, Parts as Divided, parts_of, first, others, part_at, with_part_at, with_held}
use Rattle.f3_rooms.specs.Forms.{Form, Laid, Allocatable, form_of, form_words, words_for, room}
use Rattle.f3_rooms.specs.Values.{elements, laid, formed, object, components, variable, variables}
use Rattle.f3_rooms.specs.Rooms.{Room, Slot, Known, Stands, Rooms, room_values, level_values, store_of}
use Rattle.f3_rooms.specs.Places.{Found, Onward, in_laid, in_form, in_object, in_component, in_variables, in_room, in_level, found, room_with, level_with, rooms_with}
use Rattle.f3_rooms.specs.Sound.{Fact, Each, AreLaid, IsForm, IsObject, AreComponents, AreVariables, IsRoom, IsLevel, AreLevels, IsSound}
use Rattle.f3_rooms.proofs.Framing.{Reading}
use Rattle.f3_rooms.proofs.Reading.{one_found, none_found}

module _ (m n : Live) (f : Found) where
  abbrev Unmoved : Onward → Reading → Fact → Fact → Type 0
  Unmoved go val Q P = (b o : ℕ) (h : Held) (way : List Step) → go b o h way ≡ Some f → Q b o h
      → (val b o (with_held h way f.held) ≡ val b o h) × (P b o (with_held h way f.held) → P b o h)

  itself : (val : Reading) (P : Fact) (b o : ℕ) (g : Found) → Some g ≡ Some f → (val b o f.held ≡ val b o g.held) × (P b o f.held → P b o g.held)
  itself val P b o g e =
      let is : f.held ≡ g.held = ap (λ (k : Found). k.held) (sym (one_found g f e)) in
      (ap (val b o) is, λ has. subst (P b o) is has)

  module _ (s : Shape) (of : Base) (unmoved : Unmoved (in_object s of) (object n s) (IsObject m s) (IsObject n s)) where
    abbrev w : ℕ
    w = words_for s

    abbrev row_again : Row → ℕ → List Step → Row
    row_again hs i way = with_part_at hs i (with_held (part_at hs i) way f.held)

    elements_unmoved : (k b o : ℕ) (hs : Row) (i : ℕ) (way : List Step) → in_object s of b (o + i * w) (part_at hs i) way ≡ Some f
        → Each k w (IsObject m s) b o hs → (elements k w (object n s) b o (row_again hs i way) ≡ elements k w (object n s) b o hs)
        × (Each k w (IsObject n s) b o (row_again hs i way) → Each k w (IsObject n s) b o hs)
    elements_unmoved zero b o hs i way e was = (refl, λ has. was)
    elements_unmoved (suc k) b o hs zero way e was =
        let at : o ≡ o + 0 * w = omega arith in
        let t = unmoved b o (first hs) way (ap (λ j. in_object s of b j (first hs) way) at ∙ e) was.0 in
        (ap (λ v. v ∷ elements k w (object n s) b (o + w) (others hs)) t.0, λ has. (t.1 has.0, has.1))
    elements_unmoved (suc k) b o hs (suc i) way e was =
        let at : (o + w) + i * w ≡ o + suc i * w = omega arith in
        let t = elements_unmoved k b (o + w) (others hs) i way (ap (λ j. in_object s of b j (part_at (others hs) i) way) at ∙ e) was.1 in
        (ap (λ vs. object n s b o (first hs) ∷ vs) t.0, λ has. (has.0, t.1 has.1))

    laid_unmoved : (rank : ℕ) (ss : List Span) → Unmoved (in_laid rank ss s of (in_object s of)) (laid rank ss w (object n s)) (AreLaid rank ss w (IsObject m s)) (AreLaid rank ss w (IsObject n s))
    laid_unmoved zero ss b o h way e was = unmoved b o h way e was
    laid_unmoved (suc rank) ss b o h [] e was = itself (laid (suc rank) ss w (object n s)) (AreLaid (suc rank) ss w (IsObject n s)) b o _ e
    laid_unmoved (suc rank) ss b o h (Component k ∷ way) e was = none_found f e
    laid_unmoved (suc rank) ss b o h (Contents ∷ way) e was = none_found f e
    laid_unmoved (suc rank) ss b o h (Element k ∷ way) e was = by (nat_lt k (count ss)) e
      where
        by : (t : Bool) → (if t then in_object s of b (o + k * w) (part_at (parts_of h) k) way else None) ≡ Some f
            → (laid (suc rank) ss w (object n s) b o (with_held h (Element k ∷ way) f.held) ≡ laid (suc rank) ss w (object n s) b o h)
            × (AreLaid (suc rank) ss w (IsObject n s) b o (with_held h (Element k ∷ way) f.held) → AreLaid (suc rank) ss w (IsObject n s) b o h)
        by false e = none_found f e
        by true e = let t = elements_unmoved (count ss) b o (parts_of h) k way e was.1 in (ap (λ vs. Array ss (joined vs)) t.0, λ has. (was.0, t.1 has.1))

    form_unmoved : (form : Form) → Unmoved (in_form form s of (in_object s of)) (formed form w (object n s)) (IsForm m form w (IsObject m s)) (IsForm n form w (IsObject n s))
    form_unmoved (Laid rank ss) b o h way e was = laid_unmoved rank ss b o h way e was
    form_unmoved (Allocatable rank) b o h [] e was = itself (formed (Allocatable rank) w (object n s)) (IsForm n (Allocatable rank) w (IsObject n s)) b o _ e
    form_unmoved (Allocatable rank) b o h (Component k ∷ way) e was = none_found f e
    form_unmoved (Allocatable rank) b o h (Element k ∷ way) e was = none_found f e
    form_unmoved (Allocatable rank) b o Empty (Contents ∷ way) e was = none_found f e
    form_unmoved (Allocatable rank) b o (Divided hs) (Contents ∷ way) e was = none_found f e
    form_unmoved (Allocatable rank) b o (Holds c ss h) (Contents ∷ way) e was =
        let t = laid_unmoved rank ss c 0 h way e was.within in (
          ap Allocated t.0,
          λ has. record {
            names = has.names;
            named = has.named;
            bounds = has.bounds;
            ranked = has.ranked;
            live = has.live;
            words = has.words;
            within = t.1 has.within;
          },
        )

  mutual
    object_unmoved : (s : Shape) (of : Base) → Unmoved (in_object s of) (object n s) (IsObject m s) (IsObject n s)
    object_unmoved s of b o h [] e was = itself (object n s) (IsObject n s) b o _ e
    object_unmoved (Record t parts) of b o h (Component k ∷ way) e was = let r = components_unmoved parts b o (parts_of h) k way e was.1 in (ap Composite r.0, λ has. (was.0, r.1 has.1))
    object_unmoved (Record t parts) of b o h (Element k ∷ way) e was = none_found f e
    object_unmoved (Record t parts) of b o h (Contents ∷ way) e was = none_found f e
    object_unmoved Whole of b o h (step ∷ way) e was = none_found f e
    object_unmoved Logical of b o h (step ∷ way) e was = none_found f e

    components_unmoved : (parts : Parts) (b o : ℕ) (hs : Row) (k : ℕ) (way : List Step) → in_component parts b o hs k way ≡ Some f → AreComponents m parts b o hs
        → (components n parts b o (with_part_at hs k (with_held (part_at hs k) way f.held)) ≡ components n parts b o hs)
        × (AreComponents n parts b o (with_part_at hs k (with_held (part_at hs k) way f.held)) → AreComponents n parts b o hs)
    components_unmoved nothing b o hs k way e was = none_found f e
    components_unmoved (and c s rest) b o hs zero way e was =
        let t = form_unmoved s c.declared.kind.of (object_unmoved s c.declared.kind.of) (form_of c.declared) b o (first hs) way e was.0 in
        (ap (λ v. more v (components n rest b (o + form_words (form_of c.declared) (words_for s)) (others hs))) t.0, λ has. (t.1 has.0, has.1))
    components_unmoved (and c s rest) b o hs (suc k) way e was =
        let t = components_unmoved rest b (o + form_words (form_of c.declared) (words_for s)) (others hs) k way e was.1 in
        (ap (more (formed (form_of c.declared) (words_for s) (object n s) b o (first hs))) t.0, λ has. (has.0, t.1 has.1))

  module _ (ts : List Shape) where
    variables_unmoved : (ds : List Declared) (b o : ℕ) (hs : Row) (i : ℕ) (way : List Step) → in_variables ts ds b o hs i way ≡ Some f → AreVariables ts m ds b o hs
        → (variables ts n ds b o (with_part_at hs i (with_held (part_at hs i) way f.held)) ≡ variables ts n ds b o hs)
        × (AreVariables ts n ds b o (with_part_at hs i (with_held (part_at hs i) way f.held)) → AreVariables ts n ds b o hs)
    variables_unmoved [] b o hs i way e was = none_found f e
    variables_unmoved (d ∷ ds) b o hs zero way e was =
        let s : Shape = shape_in ts d.kind.of in
        let t = form_unmoved s d.kind.of (object_unmoved s d.kind.of) (form_of d) b o (first hs) way e was.0 in
        (ap (λ v. v ∷ variables ts n ds b (o + room ts d) (others hs)) t.0, λ has. (t.1 has.0, has.1))
    variables_unmoved (d ∷ ds) b o hs (suc i) way e was =
        let t = variables_unmoved ds b (o + room ts d) (others hs) i way e was.1 in
        (ap (λ vs. variable ts n d b o (first hs) ∷ vs) t.0, λ has. (has.0, t.1 has.1))

    room_unmoved : (r : Room) (i : ℕ) (way : List Step) → in_room ts r i way ≡ Some f → IsRoom ts m r
        → (room_values ts n (room_with r i way f.held) ≡ room_values ts n r) × (IsRoom ts n (room_with r i way f.held) → IsRoom ts n r)
    room_unmoved r i way e was =
        let t = variables_unmoved r.declared r.block 0 r.held i way e was.variables in
        (t.0, λ has. record { live = has.live; long = has.long; variables = t.1 has.variables })

    level_unmoved : (l : List Slot) (i : ℕ) (way : List Step) → in_level ts l i way ≡ Some f → IsLevel ts m l
        → (level_values ts n (level_with l i way f.held) ≡ level_values ts n l) × (IsLevel ts n (level_with l i way f.held) → IsLevel ts n l)
    level_unmoved [] i way e was = none_found f e
    level_unmoved (Known v ∷ ss) zero way e was = none_found f e
    level_unmoved (Known v ∷ ss) (suc i) way e was = let t = level_unmoved ss i way e was.1 in (ap (λ vs. v ∷ vs) t.0, λ has. (tt, t.1 has.1))
    level_unmoved (Stands r ∷ ss) i way e was = by (λ g. level_unmoved ss (i - length r.declared) way g was.1) (nat_lt i (length r.declared)) e
      where
        by : (in_level ts ss (i - length r.declared) way ≡ Some f
            → (level_values ts n (level_with ss (i - length r.declared) way f.held) ≡ level_values ts n ss)
            × (IsLevel ts n (level_with ss (i - length r.declared) way f.held) → IsLevel ts n ss))
            → (t : Bool) → (if t then in_room ts r i way else in_level ts ss (i - length r.declared) way) ≡ Some f
            → (level_values ts n (if t then Stands (room_with r i way f.held) ∷ ss else Stands r ∷ level_with ss (i - length r.declared) way f.held)
            ≡ room_values ts n r ++ level_values ts n ss)
            × (IsLevel ts n (if t then Stands (room_with r i way f.held) ∷ ss else Stands r ∷ level_with ss (i - length r.declared) way f.held) → IsRoom ts n r × IsLevel ts n ss)
        by further true e = let t = room_unmoved r i way e was.0 in (ap (λ vs. vs ++ level_values ts n ss) t.0, λ has. (t.1 has.0, has.1))
        by further false e = let t = further e in (ap (λ vs. room_values ts n r ++ vs) t.0, λ has. (has.0, t.1 has.1))

    levels_unmoved : (ls : List (List Slot)) (k i : ℕ) (way : List Step) → in_level ts (slice_index_or ls k []) i way ≡ Some f → AreLevels ts m ls
        → (map (level_values ts n) (slice_set ls k (level_with (slice_index_or ls k []) i way f.held)) ≡ map (level_values ts n) ls)
        × (AreLevels ts n (slice_set ls k (level_with (slice_index_or ls k []) i way f.held)) → AreLevels ts n ls)
    levels_unmoved [] zero i way e was = none_found f e
    levels_unmoved [] (suc k) i way e was = none_found f e
    levels_unmoved (l ∷ ls) zero i way e was = let t = level_unmoved l i way e was.0 in (ap (λ vs. vs ∷ map (level_values ts n) ls) t.0, λ has. (t.1 has.0, has.1))
    levels_unmoved (l ∷ ls) (suc k) i way e was = let t = levels_unmoved ls k i way e was.1 in (ap (λ vs. level_values ts n l ∷ vs) t.0, λ has. (has.0, t.1 has.1))

-- the same store, and as sound
pub store_unmoved : (ts : List Shape) (m n : Live) (x : Rooms) → IsSound ts m x → (r : Root) (way : List Step) (f : Found) → found ts x r way ≡ Some f
    → (store_of ts n (rooms_with x r way f.held) ≡ store_of ts n x)
    × (IsRoom ts n (rooms_with x r way f.held).statics → IsRoom ts n x.statics) × (AreLevels ts n (rooms_with x r way f.held).levels → AreLevels ts n x.levels)
store_unmoved ts m n x sound (Static i) way f e =
    let t = room_unmoved m n f ts x.statics i way e sound.statics in
    (ap (λ vs. let s : Store = record { statics = vs; levels = map (level_values ts n) x.levels } in s) t.0, t.1, λ has. has)
store_unmoved ts m n x sound (Local level i) way f e =
    let t = levels_unmoved m n f ts x.levels level i way e sound.levels in
    (ap (λ ls. let s : Store = record { statics = room_values ts n x.statics; levels = ls } in s) t.0, (λ has. has), t.1)
