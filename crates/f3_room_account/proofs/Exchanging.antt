-- Where something else is held in a part, the blocks are those that were, but for what was held there, with what is held there now.
use Rattle.std.proofs.Common.{◌≡◌, ℕ, zero, suc, ◌+◌, ◌*◌, ◌-◌, Bool, true, false, List, [], ◌∷◌, ◌++◌, length, refl, ap, arith}
use Rattle.std.proofs.lemmas.Bool.{ltb-true}
use Rattle.std.specs.Prelude.{None, Some, nat_lt, if◌then◌else◌, slice_index_or, slice_set}
use Rattle.f3_program.specs.declared.declarations.Base.{Base}
use Rattle.f3_program.specs.declared.declarations.Declared.{Declared}
use Rattle.f3_live_blocks.specs.Blocks.{Live}
use Rattle.f3_meaning_whole.specs.Value.{Span, count}
use Rattle.f3_meaning_whole.specs.Shape.{Shape, Whole, Logical, Record, Parts, nothing, and, shape_in}
use Rattle.f3_meaning_whole.specs.Store.{Root, Static, Local, Step, Component, Element, Contents}
use Rattle.f3_rooms.specs.Held.{Held, Row, Empty, Holds, Parts as Divided, parts_of, first, others, part_at, with_part_at, with_held, blocks_in, blocks_in_all, times}
use Rattle.f3_rooms.specs.Forms.{Form, Laid, Allocatable, form_of, form_words, words_for, room}
use Rattle.f3_rooms.specs.Rooms.{Room, Slot, Known, Stands, Rooms, room_blocks, level_blocks, levels_blocks, blocks_of}
use Rattle.f3_rooms.specs.Places.{Found, Onward, in_laid, in_form, in_object, in_component, in_variables, in_room, in_level, found, room_with, level_with, rooms_with}
use Rattle.f3_rooms.specs.Sound.{Fact, AreLaid, IsForm, IsObject, AreComponents, AreVariables, IsRoom, IsLevel, AreLevels, IsSound}
use Rattle.f3_rooms.proofs.Framing.{times_append, times_row}
use Rattle.f3_rooms.proofs.Living.{times_divided}
use Rattle.f3_rooms.proofs.Reading.{one_found, none_found}
use Rattle.f3_rooms.proofs.Within.{each_at}

module _ (m : Live) (f : Found) (u : Held) (q : ℕ) where
  abbrev IsExchanged : List ℕ → List ℕ → Type 0
  IsExchanged bs cs = times q cs + times q (blocks_in f.held) ≡ times q bs + times q (blocks_in u)

  abbrev Exchanges : Onward → Fact → Type 0
  Exchanges go P = (b o : ℕ) (h : Held) (way : List Step) → go b o h way ≡ Some f → P b o h → IsExchanged (blocks_in h) (blocks_in (with_held h way u))

  here : (g : Found) → g ≡ f → IsExchanged (blocks_in g.held) (blocks_in u)
  here g e = let c : times q (blocks_in g.held) ≡ times q (blocks_in f.held) = ap (λ (k : Found). times q (blocks_in k.held)) e in omega arith

  -- a row in which one is exchanged
  row_exchanged : (hs : Row) (k : ℕ) (v : Held) → IsExchanged (blocks_in (part_at hs k)) (blocks_in v) → IsExchanged (blocks_in_all hs) (blocks_in_all (with_part_at hs k v))
  row_exchanged hs zero v e = let r = times_row q hs in let a = times_append q (blocks_in v) (blocks_in_all (others hs)) in omega arith
  row_exchanged hs (suc k) v e =
      let i = row_exchanged (others hs) k v e in
      let r = times_row q hs in
      let a = times_append q (blocks_in (first hs)) (blocks_in_all (with_part_at (others hs) k v)) in
      omega arith

  module _ (s : Shape) (of : Base) (turns : Exchanges (in_object s of) (IsObject m s)) where
    laid_exchanges : (rank : ℕ) (ss : List Span) → Exchanges (in_laid rank ss s of (in_object s of)) (AreLaid rank ss (words_for s) (IsObject m s))
    laid_exchanges zero ss b o h way e has = turns b o h way e has
    laid_exchanges (suc rank) ss b o h [] e has = here _ (one_found _ f e)
    laid_exchanges (suc rank) ss b o h (Component k ∷ way) e has = none_found f e
    laid_exchanges (suc rank) ss b o h (Contents ∷ way) e has = none_found f e
    laid_exchanges (suc rank) ss b o h (Element k ∷ way) e has = by (nat_lt k (count ss)) refl e
      where
        by : (t : Bool) → nat_lt k (count ss) ≡ t → (if t then in_object s of b (o + k * words_for s) (part_at (parts_of h) k) way else None) ≡ Some f
            → IsExchanged (blocks_in h) (blocks_in_all (with_part_at (parts_of h) k (with_held (part_at (parts_of h) k) way u)))
        by false t e = none_found f e
        by true t e =
            let i = turns b (o + k * words_for s) (part_at (parts_of h) k) way e
            (each_at (count ss) (words_for s) (IsObject m s) b o (parts_of h) k (ltb-true k (count ss) t) has.1) in
            let r = row_exchanged (parts_of h) k (with_held (part_at (parts_of h) k) way u) i in
            let d = times_divided q h has.0 in
            omega arith

    form_exchanges : (form : Form) → Exchanges (in_form form s of (in_object s of)) (IsForm m form (words_for s) (IsObject m s))
    form_exchanges (Laid rank ss) b o h way e has = laid_exchanges rank ss b o h way e has
    form_exchanges (Allocatable rank) b o h [] e has = here _ (one_found _ f e)
    form_exchanges (Allocatable rank) b o h (Component k ∷ way) e has = none_found f e
    form_exchanges (Allocatable rank) b o h (Element k ∷ way) e has = none_found f e
    form_exchanges (Allocatable rank) b o Empty (Contents ∷ way) e has = none_found f e
    form_exchanges (Allocatable rank) b o (Divided hs) (Contents ∷ way) e has = none_found f e
    form_exchanges (Allocatable rank) b o (Holds c ss h) (Contents ∷ way) e has = let i = laid_exchanges rank ss c 0 h way e has.within in omega arith

  mutual
    object_exchanges : (s : Shape) (of : Base) → Exchanges (in_object s of) (IsObject m s)
    object_exchanges s of b o h [] e has = here _ (one_found _ f e)
    object_exchanges (Record t parts) of b o h (Component k ∷ way) e has =
        let i = component_exchanges parts b o (parts_of h) k way e has.1 in let d = times_divided q h has.0 in omega arith
    object_exchanges (Record t parts) of b o h (Element k ∷ way) e has = none_found f e
    object_exchanges (Record t parts) of b o h (Contents ∷ way) e has = none_found f e
    object_exchanges Whole of b o h (step ∷ way) e has = none_found f e
    object_exchanges Logical of b o h (step ∷ way) e has = none_found f e

    component_exchanges : (parts : Parts) (b o : ℕ) (hs : Row) (k : ℕ) (way : List Step) → in_component parts b o hs k way ≡ Some f → AreComponents m parts b o hs
        → IsExchanged (blocks_in_all hs) (blocks_in_all (with_part_at hs k (with_held (part_at hs k) way u)))
    component_exchanges nothing b o hs k way e has = none_found f e
    component_exchanges (and c s rest) b o hs zero way e has =
        let i = form_exchanges s c.declared.kind.of (object_exchanges s c.declared.kind.of) (form_of c.declared) b o (first hs) way e has.0 in
        row_exchanged hs zero (with_held (first hs) way u) i
    component_exchanges (and c s rest) b o hs (suc k) way e has =
        let i = component_exchanges rest b (o + form_words (form_of c.declared) (words_for s)) (others hs) k way e has.1 in
        let r = times_row q hs in
        let a = times_append q (blocks_in (first hs)) (blocks_in_all (with_part_at (others hs) k (with_held (part_at (others hs) k) way u))) in
        omega arith

  module _ (ts : List Shape) where
    variables_exchange : (ds : List Declared) (b o : ℕ) (hs : Row) (i : ℕ) (way : List Step) → in_variables ts ds b o hs i way ≡ Some f → AreVariables ts m ds b o hs
        → IsExchanged (blocks_in_all hs) (blocks_in_all (with_part_at hs i (with_held (part_at hs i) way u)))
    variables_exchange [] b o hs i way e has = none_found f e
    variables_exchange (d ∷ ds) b o hs zero way e has =
        let s : Shape = shape_in ts d.kind.of in
        row_exchanged hs zero (with_held (first hs) way u) (form_exchanges s d.kind.of (object_exchanges s d.kind.of) (form_of d) b o (first hs) way e has.0)
    variables_exchange (d ∷ ds) b o hs (suc i) way e has =
        let k = variables_exchange ds b (o + room ts d) (others hs) i way e has.1 in
        let r = times_row q hs in
        let a = times_append q (blocks_in (first hs)) (blocks_in_all (with_part_at (others hs) i (with_held (part_at (others hs) i) way u))) in
        omega arith

    room_exchanges : (r : Room) (i : ℕ) (way : List Step) → in_room ts r i way ≡ Some f → IsRoom ts m r → IsExchanged (room_blocks r) (room_blocks (room_with r i way u))
    room_exchanges r i way e has = let k = variables_exchange r.declared r.block 0 r.held i way e has.variables in omega arith

    level_exchanges : (l : List Slot) (i : ℕ) (way : List Step) → in_level ts l i way ≡ Some f → IsLevel ts m l → IsExchanged (level_blocks l) (level_blocks (level_with l i way u))
    level_exchanges [] i way e has = none_found f e
    level_exchanges (Known v ∷ ss) zero way e has = none_found f e
    level_exchanges (Known v ∷ ss) (suc i) way e has = level_exchanges ss i way e has.1
    level_exchanges (Stands r ∷ ss) i way e has = by (λ g. level_exchanges ss (i - length r.declared) way g has.1) (nat_lt i (length r.declared)) e
      where
        by : (in_level ts ss (i - length r.declared) way ≡ Some f → IsExchanged (level_blocks ss) (level_blocks (level_with ss (i - length r.declared) way u)))
            → (t : Bool) → (if t then in_room ts r i way else in_level ts ss (i - length r.declared) way) ≡ Some f
            → IsExchanged (room_blocks r ++ level_blocks ss) (level_blocks (if t then Stands (room_with r i way u) ∷ ss else Stands r ∷ level_with ss (i - length r.declared) way u))
        by further true e =
            let k = room_exchanges r i way e has.0 in
            let s = times_append q (room_blocks r) (level_blocks ss) in
            let a = times_append q (room_blocks (room_with r i way u)) (level_blocks ss) in
            omega arith
        by further false e =
            let k = further e in
            let s = times_append q (room_blocks r) (level_blocks ss) in
            let a = times_append q (room_blocks r) (level_blocks (level_with ss (i - length r.declared) way u)) in
            omega arith

    levels_exchange : (ls : List (List Slot)) (k i : ℕ) (way : List Step) → in_level ts (slice_index_or ls k []) i way ≡ Some f → AreLevels ts m ls
        → IsExchanged (levels_blocks ls) (levels_blocks (slice_set ls k (level_with (slice_index_or ls k []) i way u)))
    levels_exchange [] zero i way e has = none_found f e
    levels_exchange [] (suc k) i way e has = none_found f e
    levels_exchange (l ∷ ls) zero i way e has =
        let k = level_exchanges l i way e has.0 in
        let s = times_append q (level_blocks l) (levels_blocks ls) in
        let a = times_append q (level_blocks (level_with l i way u)) (levels_blocks ls) in
        omega arith
    levels_exchange (l ∷ ls) (suc k) i way e has =
        let j = levels_exchange ls k i way e has.1 in
        let s = times_append q (level_blocks l) (levels_blocks ls) in
        let a = times_append q (level_blocks l) (levels_blocks (slice_set ls k (level_with (slice_index_or ls k []) i way u))) in
        omega arith

pub blocks_exchanged : (ts : List Shape) (m : Live) (x : Rooms) → IsSound ts m x → (r : Root) (way : List Step) (f : Found) → found ts x r way ≡ Some f → (u : Held) (q : ℕ)
    → times q (blocks_of (rooms_with x r way u)) + times q (blocks_in f.held) ≡ times q (blocks_of x) + times q (blocks_in u)
blocks_exchanged ts m x sound (Static i) way f e u q =
    let k = room_exchanges m f u q ts x.statics i way e sound.statics in
    let s = times_append q (room_blocks x.statics) (levels_blocks x.levels) in
    let a = times_append q (room_blocks (room_with x.statics i way u)) (levels_blocks x.levels) in
    omega arith
blocks_exchanged ts m x sound (Local level i) way f e u q =
    let k = levels_exchange m f u q ts x.levels level i way e sound.levels in
    let s = times_append q (room_blocks x.statics) (levels_blocks x.levels) in
    let a = times_append q (room_blocks x.statics) (levels_blocks (slice_set x.levels level (level_with (slice_index_or x.levels level []) i way u))) in
    omega arith
