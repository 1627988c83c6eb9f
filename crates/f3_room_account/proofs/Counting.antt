-- The words of the blocks in which variables stand, and of what they hold, are those that their values ask for.
use Rattle.std.proofs.Common.{◌≡◌, ℕ, zero, suc, ◌+◌, List, [], ◌∷◌, ◌++◌, length, ap, refl, ◌∙◌, arith}
use Rattle.std.specs.Prelude.{map, drop}
use Rattle.f3_program.specs.declared.declarations.Declared.{Declared}
use Rattle.f3_live_blocks.specs.Blocks.{Live, words_of}
use Rattle.f3_heap_laws.specs.Account.{r as taken_by}
use Rattle.f3_meaning_whole.specs.Value.{Span, Value, joined, count, spans_of}
use Rattle.f3_meaning_whole.specs.Shape.{Shape, Whole, Logical, Record, Parts, nothing, and, shape_in}
use Rattle.f3_rooms.specs.Held.{Held, Row, Empty, Holds, Parts as Divided, end, next, IsDivided, parts_of, first, others, blocks_in, blocks_in_all}
use Rattle.f3_rooms.specs.Forms.{Form, Laid, Allocatable, form_of, form_words, laid_words, words_for, room}
use Rattle.f3_rooms.specs.Values.{elements, laid, formed, object, components, variables}
use Rattle.f3_rooms.specs.Rooms.{Room, Slot, Known, Stands, Rooms, room_values, level_values, store_of, room_blocks, level_blocks, levels_blocks, blocks_of}
use Rattle.f3_rooms.specs.Sound.{Fact, Each, AreLaid, IsForm, IsObject, AreComponents, AreVariables, IsSound}
use Rattle.f3_rooms.specs.Sound.{IsRoom, IsLevel, AreLevels}
use Rattle.f3_rooms.proofs.Framing.{Reading}
use Rattle.f3_rooms.proofs.Living.{all_live}
use Rattle.f3_room_account.specs.StoreWords.{words_in_all, words_in_laid, words_in_form, words_beneath, words_beneath_all, words_in_variables, words_in_room, words_in_level, words_in_levels, store_words, outline, slot_outline, plan_of}
use Rattle.f3_room_account.specs.Laws.{UsedIsWords}
use Rattle.f3_room_account.proofs.Using.{taken, taken_append, used_is_taken}

nothing_behind : (vs : List Value) → vs ++ [] ≡ vs
nothing_behind [] = refl
nothing_behind (v ∷ vs) = ap (λ us. v ∷ us) (nothing_behind vs)

module _ (m : Live) where
  taken_row : (hs : Row) → taken m (blocks_in_all hs) ≡ taken m (blocks_in (first hs)) + taken m (blocks_in_all (others hs))
  taken_row end = refl
  taken_row (next h hs) = taken_append m (blocks_in h) (blocks_in_all hs)

  taken_end : (hs : Row) → hs ≡ end → taken m (blocks_in_all hs) ≡ 0
  taken_end hs e = ap (λ k. taken m (blocks_in_all k)) e

  taken_divided : (h : Held) → IsDivided h → taken m (blocks_in h) ≡ taken m (blocks_in_all (parts_of h))
  taken_divided Empty is = refl
  taken_divided (Holds c ss h) is = absurd is
  taken_divided (Divided hs) is = refl

  abbrev Counts : Fact → Reading → (Value → ℕ) → Type 0
  Counts P f g = (b o : ℕ) (h : Held) → P b o h → taken m (blocks_in h) ≡ g (f b o h)

  module _ (n : ℕ) (P : Fact) (f : Reading) (g : Value → ℕ) (counts : Counts P f g) where
    each_counts : (k b o : ℕ) (hs : Row) → Each k n P b o hs → taken m (blocks_in_all hs) ≡ words_in_all g (joined (elements k n f b o hs))
    each_counts zero b o hs has = taken_end hs has
    each_counts (suc k) b o hs has =
        let e = counts b o (first hs) has.0 in
        let i = each_counts k b (o + n) (others hs) has.1 in
        let s = taken_row hs in
        omega arith

    laid_counts : (rank : ℕ) (ss : List Span) → Counts (AreLaid rank ss n P) (laid rank ss n f) (words_in_laid rank g)
    laid_counts zero ss b o h has = counts b o h has
    laid_counts (suc rank) ss b o h has = taken_divided h has.0 ∙ each_counts (count ss) b o (parts_of h) has.1

    laid_length : (rank : ℕ) (ss : List Span) (b o : ℕ) (h : Held) → laid_words rank (spans_of (laid rank ss n f b o h)) n ≡ laid_words rank ss n
    laid_length zero ss b o h = refl
    laid_length (suc rank) ss b o h = refl

    form_counts : (form : Form) → Counts (IsForm m form n P) (formed form n f) (words_in_form form n g)
    form_counts (Laid rank ss) b o h has = laid_counts rank ss b o h has
    form_counts (Allocatable rank) b o Empty has = refl
    form_counts (Allocatable rank) b o (Divided hs) has = absurd has
    form_counts (Allocatable rank) b o (Holds c ss h) has =
        let long : taken_by (length (words_of m c)) ≡ taken_by (laid_words rank (spans_of (laid rank ss n f c 0 h)) n) =
        ap taken_by has.words ∙ ap taken_by (let e = laid_length rank ss c 0 h in cc) in
        let e = laid_counts rank ss c 0 h has.within in
        omega arith

  mutual
    object_counts : (s : Shape) → Counts (IsObject m s) (object m s) (words_beneath s)
    object_counts Whole b o h has = ap (λ k. taken m (blocks_in k)) has
    object_counts Logical b o h has = ap (λ k. taken m (blocks_in k)) has
    object_counts (Record t parts) b o h has = taken_divided h has.0 ∙ components_count parts b o (parts_of h) has.1

    components_count : (parts : Parts) (b o : ℕ) (hs : Row) → AreComponents m parts b o hs → taken m (blocks_in_all hs) ≡ words_beneath_all parts (components m parts b o hs)
    components_count nothing b o hs has = taken_end hs has
    components_count (and c s rest) b o hs has =
        let e = form_counts (words_for s) (IsObject m s) (object m s) (words_beneath s) (object_counts s) (form_of c.declared) b o (first hs) has.0 in
        let i = components_count rest b (o + form_words (form_of c.declared) (words_for s)) (others hs) has.1 in
        let k = taken_row hs in
        omega arith

  module _ (ts : List Shape) where
    -- values behind those of the variables do not count
    variables_count : (ds : List Declared) (b o : ℕ) (hs : Row) (us : List Value) → AreVariables ts m ds b o hs
        → taken m (blocks_in_all hs) ≡ words_in_variables ts ds (variables ts m ds b o hs ++ us)
    variables_count [] b o hs us has = taken_end hs has
    variables_count (d ∷ ds) b o hs us has =
        let s : Shape = shape_in ts d.kind.of in
        let e = form_counts (words_for s) (IsObject m s) (object m s) (words_beneath s) (object_counts s) (form_of d) b o (first hs) has.0 in
        let i = variables_count ds b (o + room ts d) (others hs) us has.1 in
        let k = taken_row hs in
        omega arith

    pub variables_held : (x : Room) → AreVariables ts m x.declared x.block 0 x.held → taken m (blocks_in_all x.held) ≡ words_in_variables ts x.declared (room_values ts m x)
    variables_held x has = variables_count x.declared x.block 0 x.held [] has ∙ ap (words_in_variables ts x.declared) (nothing_behind (room_values ts m x))

    behind_variables : (ds : List Declared) (b o : ℕ) (hs : Row) (us : List Value) → drop (length ds) (variables ts m ds b o hs ++ us) ≡ us
    behind_variables [] b o hs us = refl
    behind_variables (d ∷ ds) b o hs us = behind_variables ds b (o + room ts d) (others hs) us

    room_counts : (x : Room) (us : List Value) → IsRoom ts m x → taken m (room_blocks x) ≡ words_in_room ts (outline m x) (room_values ts m x ++ us)
    room_counts x us has = let e = variables_count x.declared x.block 0 x.held us has.variables in omega arith

    level_counts : (l : List Slot) → IsLevel ts m l → taken m (level_blocks l) ≡ words_in_level ts (map (slot_outline m) l) (level_values ts m l)
    level_counts [] has = refl
    level_counts (Known v ∷ ss) has = level_counts ss has.1
    level_counts (Stands x ∷ ss) has =
        let us : List Value = level_values ts m ss in
        let e = room_counts x us has.0 in
        let i = level_counts ss has.1 in
        let d : words_in_level ts (map (slot_outline m) ss) (drop (length x.declared) (room_values ts m x ++ us)) ≡ words_in_level ts (map (slot_outline m) ss) us =
        ap (words_in_level ts (map (slot_outline m) ss)) (behind_variables x.declared x.block 0 x.held us) in
        let k = taken_append m (room_blocks x) (level_blocks ss) in
        omega arith

    levels_count : (ls : List (List Slot)) → AreLevels ts m ls → taken m (levels_blocks ls) ≡ words_in_levels ts (map (map (slot_outline m)) ls) (map (level_values ts m) ls)
    levels_count [] has = refl
    levels_count (l ∷ ls) has =
        let e = level_counts l has.0 in
        let i = levels_count ls has.1 in
        let k = taken_append m (level_blocks l) (levels_blocks ls) in
        omega arith

store_counts : (ts : List Shape) (m : Live) (x : Rooms) → IsSound ts m x → taken m (blocks_of x) ≡ store_words ts (plan_of m x) (store_of ts m x)
store_counts ts m x sound =
    let vs : List Value = room_values ts m x.statics in
    let e : taken m (room_blocks x.statics) ≡ words_in_room ts (outline m x.statics) vs =
    room_counts m ts x.statics [] sound.statics ∙ ap (words_in_room ts (outline m x.statics)) (nothing_behind vs) in
    let i = levels_count m ts x.levels sound.levels in
    let k = taken_append m (room_blocks x.statics) (levels_blocks x.levels) in
    omega arith

pub used_is_words : UsedIsWords
used_is_words ts m x sound all = used_is_taken m (blocks_of x) (all_live ts m x sound) sound.apart all ∙ store_counts ts m x sound
