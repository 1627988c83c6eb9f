-- What stands at a part of a variable is what its words are.
use Rattle.std.proofs.Common.{◌≡◌, ℕ, zero, suc, ◌+◌, ◌*◌, ◌-◌, ◌<◌, ◌≤◌, Bool, true, false, List, [], ◌∷◌, ◌++◌, length, refl, sym, ap, subst, ◌∙◌, arith}
use Rattle.std.proofs.lemmas.Bool.{ltb-true, ltb-false}
use Rattle.std.specs.Prelude.{Option, None, Some, nat_lt, if◌then◌else◌, slice_index_or, map}
use Rattle.f3_program.specs.declared.declarations.Base.{Base}
use Rattle.f3_program.specs.declared.declarations.Declared.{Declared}
use Rattle.f3_live_blocks.specs.Blocks.{Live}
use Rattle.f3_meaning_whole.specs.Value.{Span, Value, Unallocated, joined, count}
use Rattle.f3_meaning_whole.specs.Shape.{Shape, Whole, Logical, Record, Parts, nothing, and, shape_in}
use Rattle.f3_meaning_whole.specs.Store.{Static, Local, Step, Component, Element, Contents, part}
use Rattle.f3_meaning_whole.specs.Store.{part_at as value_part}
use Rattle.f3_rooms.specs.Held.{Held, Row, Empty, Holds, Parts as Divided, parts_of, first, others, part_at}
use Rattle.f3_rooms.specs.Forms.{Form, Laid, Allocatable, form_of, form_words, words_for, room}
use Rattle.f3_rooms.specs.Values.{elements, laid, formed, object, components, variables}
use Rattle.f3_rooms.specs.Rooms.{Slot, Known, Stands, room_values, level_values}
use Rattle.f3_rooms.specs.Places.{Found, value_at, Onward, in_laid, in_form, in_object, in_component, in_variables, in_room, in_level}
use Rattle.f3_rooms.specs.Laws.{PartsAreFound}
use Rattle.f3_rooms.proofs.Framing.{Reading}

pub one_found : (f g : Found) → Some f ≡ Some g → f ≡ g
one_found f g e = cc

pub none_found : {A : Type 0} (f : Found) → (let n : Option Found = None in n) ≡ Some f → A
none_found f e = absurd (cc)

-- an element of an array
element_reads : (k w : ℕ) (f : Reading) (b o : ℕ) (hs : Row) (i : ℕ) (way : List Step) → i < k
    → value_part (joined (elements k w f b o hs)) i way ≡ part (f b (o + i * w) (part_at hs i)) way
element_reads zero w f b o hs i way lt = absurd (omega arith)
element_reads (suc k) w f b o hs zero way lt = let e : o ≡ o + 0 * w = omega arith in ap (λ j. part (f b j (first hs)) way) e
element_reads (suc k) w f b o hs (suc i) way lt =
    let e : (o + w) + i * w ≡ o + suc i * w = omega arith in
    element_reads k w f b (o + w) (others hs) i way (omega arith) ∙ ap (λ j. part (f b j (part_at (others hs) i)) way) e

-- ---- lists of values

pub variables_count : (ts : List Shape) (m : Live) (ds : List Declared) (b o : ℕ) (hs : Row) → length (variables ts m ds b o hs) ≡ length ds
variables_count ts m [] b o hs = refl
variables_count ts m (d ∷ ds) b o hs = let e = variables_count ts m ds b (o + room ts d) (others hs) in omega arith

pub among : (vs us : List Value) (i : ℕ) → i < length vs → slice_index_or (vs ++ us) i Unallocated ≡ slice_index_or vs i Unallocated
among [] us i lt = absurd (omega arith)
among (v ∷ vs) us zero lt = refl
among (v ∷ vs) us (suc i) lt = among vs us i (omega arith)

pub behind : (vs us : List Value) (i : ℕ) → length vs ≤ i → slice_index_or (vs ++ us) i Unallocated ≡ slice_index_or us (i - length vs) Unallocated
behind [] us i le = let e : i ≡ i - 0 = omega arith in ap (λ k. slice_index_or us k Unallocated) e
behind (v ∷ vs) us zero le = absurd (omega arith)
behind (v ∷ vs) us (suc i) le =
    let e : i - length vs ≡ suc i - suc (length vs) = omega arith in behind vs us i (omega arith) ∙ ap (λ k. slice_index_or us k Unallocated) e

-- ---- parts

module _ (m : Live) (f : Found) where
  abbrev Reads : Onward → Reading → Type 0
  Reads go val = (b o : ℕ) (h : Held) (way : List Step) → go b o h way ≡ Some f → part (val b o h) way ≡ value_at m f

  module _ (s : Shape) (of : Base) (reads : Reads (in_object s of) (object m s)) where
    laid_reads : (rank : ℕ) (ss : List Span) → Reads (in_laid rank ss s of (in_object s of)) (laid rank ss (words_for s) (object m s))
    laid_reads zero ss b o h way e = reads b o h way e
    laid_reads (suc rank) ss b o h [] e = ap (value_at m) (one_found _ f e)
    laid_reads (suc rank) ss b o h (Component k ∷ way) e = none_found f e
    laid_reads (suc rank) ss b o h (Contents ∷ way) e = none_found f e
    laid_reads (suc rank) ss b o h (Element k ∷ way) e = by (nat_lt k (count ss)) refl e
      where
        by : (t : Bool) → nat_lt k (count ss) ≡ t → (if t then in_object s of b (o + k * words_for s) (part_at (parts_of h) k) way else None) ≡ Some f
            → value_part (joined (elements (count ss) (words_for s) (object m s) b o (parts_of h))) k way ≡ value_at m f
        by false t e = none_found f e
        by true t e = element_reads (count ss) (words_for s) (object m s) b o (parts_of h) k way (ltb-true k (count ss) t)
            ∙ reads b (o + k * words_for s) (part_at (parts_of h) k) way e

    form_reads : (form : Form) → Reads (in_form form s of (in_object s of)) (formed form (words_for s) (object m s))
    form_reads (Laid rank ss) b o h way e = laid_reads rank ss b o h way e
    form_reads (Allocatable rank) b o h [] e = ap (value_at m) (one_found _ f e)
    form_reads (Allocatable rank) b o h (Component k ∷ way) e = none_found f e
    form_reads (Allocatable rank) b o h (Element k ∷ way) e = none_found f e
    form_reads (Allocatable rank) b o Empty (Contents ∷ way) e = none_found f e
    form_reads (Allocatable rank) b o (Divided hs) (Contents ∷ way) e = none_found f e
    form_reads (Allocatable rank) b o (Holds c ss h) (Contents ∷ way) e = laid_reads rank ss c 0 h way e

  mutual
    object_reads : (s : Shape) (of : Base) → Reads (in_object s of) (object m s)
    object_reads s of b o h [] e = ap (value_at m) (one_found _ f e)
    object_reads (Record t parts) of b o h (Component k ∷ way) e = component_reads parts b o (parts_of h) k way e
    object_reads (Record t parts) of b o h (Element k ∷ way) e = none_found f e
    object_reads (Record t parts) of b o h (Contents ∷ way) e = none_found f e
    object_reads Whole of b o h (step ∷ way) e = none_found f e
    object_reads Logical of b o h (step ∷ way) e = none_found f e

    component_reads : (parts : Parts) (b o : ℕ) (hs : Row) (k : ℕ) (way : List Step) → in_component parts b o hs k way ≡ Some f
        → value_part (components m parts b o hs) k way ≡ value_at m f
    component_reads nothing b o hs k way e = none_found f e
    component_reads (and c s rest) b o hs zero way e =
        form_reads s c.declared.kind.of (object_reads s c.declared.kind.of) (form_of c.declared) b o (first hs) way e
    component_reads (and c s rest) b o hs (suc k) way e = component_reads rest b (o + form_words (form_of c.declared) (words_for s)) (others hs) k way e

  module _ (ts : List Shape) where
    variable_reads : (ds : List Declared) (b o : ℕ) (hs : Row) (i : ℕ) (way : List Step) → in_variables ts ds b o hs i way ≡ Some f
        → part (slice_index_or (variables ts m ds b o hs) i Unallocated) way ≡ value_at m f
    variable_reads [] b o hs i way e = none_found f e
    variable_reads (d ∷ ds) b o hs zero way e =
        let s : Shape = shape_in ts d.kind.of in form_reads s d.kind.of (object_reads s d.kind.of) (form_of d) b o (first hs) way e
    variable_reads (d ∷ ds) b o hs (suc i) way e = variable_reads ds b (o + room ts d) (others hs) i way e

    level_reads : (l : List Slot) (i : ℕ) (way : List Step) → in_level ts l i way ≡ Some f → part (slice_index_or (level_values ts m l) i Unallocated) way ≡ value_at m f
    level_reads [] i way e = none_found f e
    level_reads (Known v ∷ ss) zero way e = none_found f e
    level_reads (Known v ∷ ss) (suc i) way e = level_reads ss i way e
    level_reads (Stands r ∷ ss) i way e = by (level_reads ss (i - length r.declared) way) (nat_lt i (length r.declared)) refl e
      where
        by : (in_level ts ss (i - length r.declared) way ≡ Some f → part (slice_index_or (level_values ts m ss) (i - length r.declared) Unallocated) way ≡ value_at m f)
            → (t : Bool) → nat_lt i (length r.declared) ≡ t → (if t then in_room ts r i way else in_level ts ss (i - length r.declared) way) ≡ Some f
            → part (slice_index_or (room_values ts m r ++ level_values ts m ss) i Unallocated) way ≡ value_at m f
        by further true t e = ap (λ v. part v way) (among (room_values ts m r) (level_values ts m ss) i (subst (λ n. i < n) (sym (variables_count ts m r.declared r.block 0 r.held)) (ltb-true i (length r.declared) t)))
            ∙ variable_reads r.declared r.block 0 r.held i way e
        by further false t e =
            let few = ltb-false i (length r.declared) t in
            ap (λ v. part v way) (behind (room_values ts m r) (level_values ts m ss) i (subst (λ n. n ≤ i) (sym (variables_count ts m r.declared r.block 0 r.held)) few))
            ∙ ap (λ n. part (slice_index_or (level_values ts m ss) (i - n) Unallocated) way) (variables_count ts m r.declared r.block 0 r.held)
            ∙ further e

-- a level of a store
pub level_is : (ts : List Shape) (m : Live) (ls : List (List Slot)) (k : ℕ) → slice_index_or (map (level_values ts m) ls) k [] ≡ level_values ts m (slice_index_or ls k [])
level_is ts m [] zero = refl
level_is ts m [] (suc k) = refl
level_is ts m (l ∷ ls) zero = refl
level_is ts m (l ∷ ls) (suc k) = level_is ts m ls k

pub parts_are_found : PartsAreFound
parts_are_found ts m x (Static i) way f e = variable_reads m f ts x.statics.declared x.statics.block 0 x.statics.held i way e
parts_are_found ts m x (Local level i) way f e =
    ap (λ vs. part (slice_index_or vs i Unallocated) way) (level_is ts m x.levels level) ∙ level_reads m f ts (slice_index_or x.levels level []) i way e
