-- Parts that are aside of one in which something else is held.
use Rattle.std.proofs.Common.{◌≡◌, ◌≢◌, ◌⊎◌, inl, inr, ℕ, zero, suc, ◌+◌, ◌*◌, ◌-◌, ◌≤◌, Bool, true, false, ◌&&◌, List, [], ◌∷◌, length, nat_eq, refl, sym, ap, subst, ◌∙◌, arith}
use Rattle.std.proofs.lemmas.Bool.{cases_eq, cases_lt, eq-eqb, ltb-false}
use Rattle.std.proofs.lemmas.List.{get_or-set_same, get_or-set_other, length-set}
use Rattle.std.specs.Prelude.{None, Some, Option, nat_lt, if◌then◌else◌, slice_index_or, slice_set}
use Rattle.f3_program.specs.declared.declarations.Base.{Base}
use Rattle.f3_program.specs.declared.declarations.Declared.{Declared}
use Rattle.f3_meaning_whole.specs.Value.{Span, count}
use Rattle.f3_meaning_whole.specs.Shape.{Shape, Whole, Logical, Record, Parts, nothing, and, shape_in}
use Rattle.f3_meaning_whole.specs.Store.{Static, Local, Step, Component, Element, Contents}
use Rattle.f3_rooms.specs.Held.{Held, Row, Empty, Holds, Parts as Divided, parts_of, first, others, part_at, with_part_at, with_held}
use Rattle.f3_rooms.specs.Forms.{Form, Laid, Allocatable, form_of, form_words, words_for, room}
use Rattle.f3_rooms.specs.Rooms.{Slot, Known, Stands}
use Rattle.f3_rooms.specs.Places.{Found, Onward, in_laid, in_form, in_object, in_component, in_variables, in_room, in_level, room_with, level_with}
use Rattle.f3_rooms.specs.Ways.{are_aside, OtherVariablesStand, OtherPartsStand}
use Rattle.f3_rooms.proofs.Reading.{none_found}

-- ---- rows

same_part : (hs : Row) (k : ℕ) (v : Held) → part_at (with_part_at hs k v) k ≡ v
same_part hs zero v = refl
same_part hs (suc k) v = same_part (others hs) k v

other_part : (hs : Row) (k j : ℕ) (v : Held) → j ≢ k → part_at (with_part_at hs k v) j ≡ part_at hs j
other_part hs zero zero v ne = absurd (ne refl)
other_part hs zero (suc j) v ne = refl
other_part hs (suc k) zero v ne = refl
other_part hs (suc k) (suc j) v ne = other_part (others hs) k j v (λ e. ne (ap suc e))

-- ---- ways

-- no way is aside of itself where it ends
ended : {A : Type 0} (way : List Step) → are_aside way [] ≡ true → A
ended [] e = absurd (cc)
ended (s ∷ way) e = absurd (cc)

further : (t : Bool) (way other : List Step) → t ≡ true → (if t then are_aside way other else true) ≡ true → are_aside way other ≡ true
further true way other same e = e
further false way other same e = absurd (cc)

component_further : (k j : ℕ) (way other : List Step) → are_aside (Component k ∷ way) (Component j ∷ other) ≡ true → j ≡ k → are_aside way other ≡ true
component_further k j way other e same = further (nat_eq k j) way other (eq-eqb k j (sym same)) e

element_further : (k j : ℕ) (way other : List Step) → are_aside (Element k ∷ way) (Element j ∷ other) ≡ true → j ≡ k → are_aside way other ≡ true
element_further k j way other e same = further (nat_eq k j) way other (eq-eqb k j (sym same)) e

module _ (f : Found) (u : Held) where
  abbrev Stays : Onward → Type 0
  Stays go = (b o : ℕ) (h : Held) (way other : List Step) → go b o h way ≡ Some f → are_aside way other ≡ true → go b o (with_held h way u) other ≡ go b o h other

  abbrev row_with : Row → ℕ → List Step → Row
  row_with hs k way = with_part_at hs k (with_held (part_at hs k) way u)

  module _ (s : Shape) (of : Base) (stays : Stays (in_object s of)) where
    element_stays : (b o : ℕ) (hs : Row) (k : ℕ) (way : List Step) (j : ℕ) (other : List Step) → in_object s of b (o + k * words_for s) (part_at hs k) way ≡ Some f
        → (j ≡ k → are_aside way other ≡ true)
        → in_object s of b (o + j * words_for s) (part_at (row_with hs k way) j) other ≡ in_object s of b (o + j * words_for s) (part_at hs j) other
    element_stays b o hs k way j other e aside = elim (cases_eq j k) [
      | inl same ↦ subst (λ i. in_object s of b (o + i * words_for s) (part_at (row_with hs k way) i) other ≡ in_object s of b (o + i * words_for s) (part_at hs i) other) (sym same)
          (ap (λ h. in_object s of b (o + k * words_for s) h other) (same_part hs k (with_held (part_at hs k) way u))
          ∙ stays b (o + k * words_for s) (part_at hs k) way other e (aside same))
      | inr ne ↦ ap (λ h. in_object s of b (o + j * words_for s) h other) (other_part hs k j (with_held (part_at hs k) way u) ne)
    ]

    laid_stays : (rank : ℕ) (ss : List Span) → Stays (in_laid rank ss s of (in_object s of))
    laid_stays zero ss b o h way other e aside = stays b o h way other e aside
    laid_stays (suc rank) ss b o h [] other e aside = absurd (cc)
    laid_stays (suc rank) ss b o h (Component k ∷ way) other e aside = none_found f e
    laid_stays (suc rank) ss b o h (Contents ∷ way) other e aside = none_found f e
    laid_stays (suc rank) ss b o h (Element k ∷ way) [] e aside = absurd (cc)
    laid_stays (suc rank) ss b o h (Element k ∷ way) (Component j ∷ other) e aside = refl
    laid_stays (suc rank) ss b o h (Element k ∷ way) (Contents ∷ other) e aside = refl
    laid_stays (suc rank) ss b o h (Element k ∷ way) (Element j ∷ other) e aside = by (nat_lt k (count ss)) e
      where
        by : (t : Bool) → (if t then in_object s of b (o + k * words_for s) (part_at (parts_of h) k) way else None) ≡ Some f
            → (if nat_lt j (count ss) then in_object s of b (o + j * words_for s) (part_at (row_with (parts_of h) k way) j) other else None)
            ≡ (if nat_lt j (count ss) then in_object s of b (o + j * words_for s) (part_at (parts_of h) j) other else None)
        by false e = none_found f e
        by true e = ap (λ (g : Option Found). if nat_lt j (count ss) then g else None) (element_stays b o (parts_of h) k way j other e (element_further k j way other aside))

    form_stays : (form : Form) → Stays (in_form form s of (in_object s of))
    form_stays (Laid rank ss) b o h way other e aside = laid_stays rank ss b o h way other e aside
    form_stays (Allocatable rank) b o h [] other e aside = absurd (cc)
    form_stays (Allocatable rank) b o h (Component k ∷ way) other e aside = none_found f e
    form_stays (Allocatable rank) b o h (Element k ∷ way) other e aside = none_found f e
    form_stays (Allocatable rank) b o Empty (Contents ∷ way) other e aside = none_found f e
    form_stays (Allocatable rank) b o (Divided hs) (Contents ∷ way) other e aside = none_found f e
    form_stays (Allocatable rank) b o (Holds c ss h) (Contents ∷ way) [] e aside = absurd (cc)
    form_stays (Allocatable rank) b o (Holds c ss h) (Contents ∷ way) (Component j ∷ other) e aside = refl
    form_stays (Allocatable rank) b o (Holds c ss h) (Contents ∷ way) (Element j ∷ other) e aside = refl
    form_stays (Allocatable rank) b o (Holds c ss h) (Contents ∷ way) (Contents ∷ other) e aside = laid_stays rank ss c 0 h way other e aside

  mutual
    object_stays : (s : Shape) (of : Base) → Stays (in_object s of)
    object_stays s of b o h [] other e aside = absurd (cc)
    object_stays (Record t parts) of b o h (Component k ∷ way) [] e aside = absurd (cc)
    object_stays (Record t parts) of b o h (Component k ∷ way) (Component j ∷ other) e aside =
        component_stays parts b o (parts_of h) k way j other e (component_further k j way other aside)
    object_stays (Record t parts) of b o h (Component k ∷ way) (Element j ∷ other) e aside = refl
    object_stays (Record t parts) of b o h (Component k ∷ way) (Contents ∷ other) e aside = refl
    object_stays (Record t parts) of b o h (Element k ∷ way) other e aside = none_found f e
    object_stays (Record t parts) of b o h (Contents ∷ way) other e aside = none_found f e
    object_stays Whole of b o h (step ∷ way) other e aside = none_found f e
    object_stays Logical of b o h (step ∷ way) other e aside = none_found f e

    component_stays : (parts : Parts) (b o : ℕ) (hs : Row) (k : ℕ) (way : List Step) (j : ℕ) (other : List Step) → in_component parts b o hs k way ≡ Some f
        → (j ≡ k → are_aside way other ≡ true) → in_component parts b o (row_with hs k way) j other ≡ in_component parts b o hs j other
    component_stays nothing b o hs k way j other e aside = none_found f e
    component_stays (and c s rest) b o hs zero way zero other e aside =
        form_stays s c.declared.kind.of (object_stays s c.declared.kind.of) (form_of c.declared) b o (first hs) way other e (aside refl)
    component_stays (and c s rest) b o hs zero way (suc j) other e aside = refl
    component_stays (and c s rest) b o hs (suc k) way zero other e aside = refl
    component_stays (and c s rest) b o hs (suc k) way (suc j) other e aside =
        component_stays rest b (o + form_words (form_of c.declared) (words_for s)) (others hs) k way j other e (λ is. aside (ap suc is))

  module _ (ts : List Shape) where
    variables_stay : (ds : List Declared) (b o : ℕ) (hs : Row) (i : ℕ) (way other : List Step) → in_variables ts ds b o hs i way ≡ Some f → are_aside way other ≡ true
        → in_variables ts ds b o (row_with hs i way) i other ≡ in_variables ts ds b o hs i other
    variables_stay [] b o hs i way other e aside = none_found f e
    variables_stay (d ∷ ds) b o hs zero way other e aside =
        let s : Shape = shape_in ts d.kind.of in form_stays s d.kind.of (object_stays s d.kind.of) (form_of d) b o (first hs) way other e aside
    variables_stay (d ∷ ds) b o hs (suc i) way other e aside = variables_stay ds b (o + room ts d) (others hs) i way other e aside

    level_stays : (l : List Slot) (i : ℕ) (way other : List Step) → in_level ts l i way ≡ Some f → are_aside way other ≡ true
        → in_level ts (level_with l i way u) i other ≡ in_level ts l i other
    level_stays [] i way other e aside = refl
    level_stays (Known v ∷ ss) zero way other e aside = refl
    level_stays (Known v ∷ ss) (suc i) way other e aside = level_stays ss i way other e aside
    level_stays (Stands r ∷ ss) i way other e aside = by (nat_lt i (length r.declared)) refl e (λ g. level_stays ss (i - length r.declared) way other g aside)
      where
        by : (t : Bool) → nat_lt i (length r.declared) ≡ t → (if t then in_room ts r i way else in_level ts ss (i - length r.declared) way) ≡ Some f
            → (in_level ts ss (i - length r.declared) way ≡ Some f → in_level ts (level_with ss (i - length r.declared) way u) (i - length r.declared) other ≡ in_level ts ss (i - length r.declared) other)
            → in_level ts (if t then Stands (room_with r i way u) ∷ ss else Stands r ∷ level_with ss (i - length r.declared) way u) i other
            ≡ (if t then in_room ts r i other else in_level ts ss (i - length r.declared) other)
        by true lt e rest = ap (λ t. if t then in_room ts (room_with r i way u) i other else in_level ts ss (i - length r.declared) other) lt
            ∙ variables_stay r.declared r.block 0 r.held i way other e aside
        by false ge e rest = ap (λ t. if t then in_room ts r i other else in_level ts (level_with ss (i - length r.declared) way u) (i - length r.declared) other) ge ∙ rest e

-- ---- levels

past : (ls : List (List Slot)) (k : ℕ) → length ls ≤ k → slice_index_or ls k [] ≡ []
past [] k le = refl
past (l ∷ ls) zero le = absurd (omega arith)
past (l ∷ ls) (suc k) le = past ls k (omega arith)

-- the level that is another
set_level : (ls : List (List Slot)) (k : ℕ) (l : List Slot) → (slice_index_or (slice_set ls k l) k [] ≡ l) ⊎ (slice_index_or (slice_set ls k l) k [] ≡ slice_index_or ls k [])
set_level ls k l = elim (cases_lt k (length ls)) [
  | inl lt ↦ inl (get_or-set_same ls k l [] lt)
  | inr ge ↦ inr (past (slice_set ls k l) k (omega (arith, length-set ls k l)) ∙ sym (past ls k ge))
]

pub other_parts_stand : OtherPartsStand
other_parts_stand ts x (Static i) way other f u e aside = variables_stay f u ts (x.statics).declared (x.statics).block 0 (x.statics).held i way other e aside
other_parts_stand ts x (Local level i) way other f u e aside =
    let l : List Slot = slice_index_or x.levels level [] in
    elim (set_level x.levels level (level_with l i way u)) [
      | inl new ↦ ap (λ k. in_level ts k i other) new ∙ level_stays f u ts l i way other e aside
      | inr old ↦ ap (λ k. in_level ts k i other) old
    ]

-- ---- other variables

module _ (ts : List Shape) (way other : List Step) (u : Held) where
  variables_other : (ds : List Declared) (b o : ℕ) (hs : Row) (i k : ℕ) (v : Held) → k ≢ i
      → in_variables ts ds b o (with_part_at hs i v) k other ≡ in_variables ts ds b o hs k other
  variables_other [] b o hs i k v ne = refl
  variables_other (d ∷ ds) b o hs zero zero v ne = absurd (ne refl)
  variables_other (d ∷ ds) b o hs zero (suc k) v ne = refl
  variables_other (d ∷ ds) b o hs (suc i) zero v ne = refl
  variables_other (d ∷ ds) b o hs (suc i) (suc k) v ne = variables_other ds b (o + room ts d) (others hs) i k v (λ e. ne (ap suc e))

  level_other : (l : List Slot) (i k : ℕ) → k ≢ i → in_level ts (level_with l i way u) k other ≡ in_level ts l k other
  level_other [] i k ne = refl
  level_other (Known v ∷ ss) zero k ne = refl
  level_other (Known v ∷ ss) (suc i) zero ne = refl
  level_other (Known v ∷ ss) (suc i) (suc k) ne = level_other ss i k (λ e. ne (ap suc e))
  level_other (Stands r ∷ ss) i k ne = by (nat_lt i (length r.declared)) refl (nat_lt k (length r.declared)) refl (level_other ss (i - length r.declared) (k - length r.declared))
    where
      by : (t : Bool) → nat_lt i (length r.declared) ≡ t → (s : Bool) → nat_lt k (length r.declared) ≡ s
          → (k - length r.declared ≢ i - length r.declared → in_level ts (level_with ss (i - length r.declared) way u) (k - length r.declared) other ≡ in_level ts ss (k - length r.declared) other)
          → in_level ts (if t then Stands (room_with r i way u) ∷ ss else Stands r ∷ level_with ss (i - length r.declared) way u) k other
          ≡ (if nat_lt k (length r.declared) then in_room ts r k other else in_level ts ss (k - length r.declared) other)
      by true lt s is rest = ap (λ (g : Option Found). if nat_lt k (length r.declared) then g else in_level ts ss (k - length r.declared) other)
          (variables_other r.declared r.block 0 r.held i k (with_held (part_at r.held i) way u) ne)
      by false ge true lt rest = ap (λ t. if t then in_room ts r k other else in_level ts (level_with ss (i - length r.declared) way u) (k - length r.declared) other) lt
          ∙ sym (ap (λ t. if t then in_room ts r k other else in_level ts ss (k - length r.declared) other) lt)
      by false ge false past rest =
          let low : length r.declared ≤ i = ltb-false i (length r.declared) ge in
          let high : length r.declared ≤ k = ltb-false k (length r.declared) past in
          ap (λ (g : Option Found). if nat_lt k (length r.declared) then in_room ts r k other else g) (rest (λ e. ne (omega arith)))

both_differ : (l k i j : ℕ) → (nat_eq l k && nat_eq i j) ≡ false → k ≡ l → j ≢ i
both_differ l k i j e same is =
    let f : (nat_eq l k && nat_eq i j) ≡ true = ap (λ t. t && nat_eq i j) (eq-eqb l k (sym same)) ∙ eq-eqb i j (sym is) in cc

differ : (i j : ℕ) → nat_eq i j ≡ false → j ≢ i
differ i j e is = let f : nat_eq i j ≡ true = eq-eqb i j (sym is) in cc

pub other_variables_stand : OtherVariablesStand
other_variables_stand ts x (Static i) (Static j) way other u e =
    variables_other ts way other u (x.statics).declared (x.statics).block 0 (x.statics).held i j (with_held (part_at (x.statics).held i) way u) (differ i j e)
other_variables_stand ts x (Static i) (Local level j) way other u e = refl
other_variables_stand ts x (Local level i) (Static j) way other u e = refl
other_variables_stand ts x (Local level i) (Local k j) way other u e =
    let l : List Slot = slice_index_or x.levels level [] in
    let new : List Slot = level_with l i way u in
    elim (cases_eq k level) [
      | inl same ↦ subst (λ n. in_level ts (slice_index_or (slice_set x.levels level new) n []) j other ≡ in_level ts (slice_index_or x.levels n []) j other) (sym same)
          (elim (set_level x.levels level new) [
            | inl is ↦ ap (λ s. in_level ts s j other) is ∙ level_other ts way other u l i j (both_differ level k i j e same)
            | inr was ↦ ap (λ s. in_level ts s j other) was
          ])
      | inr ne ↦ ap (λ s. in_level ts s j other) (get_or-set_other x.levels level k new [] ne)
    ]
