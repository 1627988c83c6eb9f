-- The words of components are written.
use Rattle.std.proofs.Common.{◌≡◌, ◌≢◌, ◌∙◌, ℕ, zero, suc, ◌+◌, ◌*◌, ◌/◌, ◌<◌, ◌≤◌, ◌^◌, Bool, true, false, List, [], ◌∷◌, ◌++◌, length, drop, get_or, is_some, refl, sym, ap, subst, arith}
use Rattle.std.specs.Prelude.{⊤, ℤ, Option, None, Some, nat_eq, if◌then◌else◌, slice_set}
use Rattle.std.specs.FinMap.{get as find}
use Rattle.std.proofs.lemmas.List.{length-append, length-set}
use Rattle.f3_program.specs.declared.declarations.Component.{Component}
use Rattle.f3_live_blocks.specs.Blocks.{Live, IsLive, words_in, words_of, with_words}
use Rattle.f3_live_blocks.proofs.Laws.{get-insert_other}
use Rattle.f3_meaning_whole.specs.Shape.{Shape, shape_in}
use Rattle.f3_objects.specs.Holds.{with_words_at}
use Rattle.f3_objects.proofs.Spans.{written_behind, written_same}
use Rattle.f3_objects.proofs.Writes.{live-with, with_words_again, with_words_same, words-with}
use Rattle.f3_rooms.specs.Forms.{room, total}
use Rattle.f3_rooms.specs.Places.{with_word}
use Rattle.f3_room_levels.specs.Initial.{AllCanBegin, CanBegin, TypeCanBegin, declared_each, repeated, variable_words}
use Rattle.f3_room_levels.specs.Writing.{IsBlank, with_words_from}
use Rattle.f3_room_levels.proofs.Leaving.{Leaves, LeavesElements, element_here, element_next, element_within, elements_all, elements_none, leaves_all, leaves_front, leaves_next, leaves_none}
use Rattle.f3_room_levels.proofs.Widths.{repeated_many, variable_many}
use Rattle.f3_room_levels.proofs.Written.{from_others}
use Rattle.f3_word_arrays.specs.Items.{IsApart, datum_words}
use Rattle.f3_word_arrays.proofs.Words.{one-word}
use Rattle.f3_word_cells.specs.declared.cell.Cell.{Cell}
use Rattle.f3_word_cells.specs.declared.cell.Cell.TheVariants as c
use Rattle.f3_word_cells.specs.declared.cell.Datum.{Datum}
use Rattle.f3_word_cells.specs.declared.cell.Datum.TheVariants as datum
use Rattle.f3_word_cells.specs.declared.cell.Passed.TheVariants as passed
use Rattle.f3_word_structures.specs.Members.{AreApart, AreWhole, Fills, component_words, given_in, given_words, structure_words}

-- ---- words that are written at once

pub written-run : (m : Live) (b at : ℕ) (ws : List ℤ) → IsLive m b → at + length ws ≤ length (words_of m b)
    → with_words m b (with_words_at (words_of m b) at ws) ≡ with_words_from m b at ws
written-run m b at [] live le = ap (with_words m b) (written_same (words_of m b) at [] refl) ∙ with_words_same m b live
written-run m b at (w ∷ ws) live le =
    let us = words_of m b in
    let one : Live = with_word m b at w in
    let there : words_of one b ≡ with_words_at us at (w ∷ []) = words-with m b (slice_set us at w) ∙ one-word us at w (omega (arith, le)) in
    let long : length (words_of one b) ≡ length us = ap length (words-with m b (slice_set us at w)) ∙ length-set us at w in
    let more = written-run one b (at + 1) ws (live-with m b (slice_set us at w)) (omega (arith, le, long)) in
    sym (with_words_again m b (slice_set us at w) (with_words_at us at (w ∷ ws)))
    ∙ ap (with_words one b) (sym (ap (λ xs. with_words_at xs (at + 1) ws) there ∙ written_behind us at (w ∷ []) ws (omega (arith, le)))) ∙ more

-- ---- a value

-- values in other blocks keep their words
pub words-kept : (old now : Live) (block : ℕ) (d : Datum) → ((q : ℕ) → q ≢ block → find now q ≡ find old q) → IsApart old block d → datum_words now d ≡ datum_words old d
words-kept old now block (datum.Scalar z) others apart = refl
words-kept old now block (datum.Block a) others apart = ap words_in (others (a.elements).block apart.1)

pub apart-kept : (old now : Live) (block : ℕ) (d : Datum) → ((q : ℕ) → q ≢ block → find now q ≡ find old q) → IsApart old block d → IsApart now block d
apart-kept old now block (datum.Scalar z) others apart = tt
apart-kept old now block (datum.Block a) others apart = (ap is_some (others (a.elements).block apart.1) ∙ apart.0, apart.1)

-- so often it was written
pub record Filling (old now : Live) (block first place i many : ℕ) (d : Datum) : Type 0 where
  pub leaves : LeavesElements old now block first place i many (datum_words old d)
  pub others : (q : ℕ) → q ≢ block → find now q ≡ find old q

pub filling-none : (old : Live) (block at room : ℕ) (d : Datum) → IsBlank old block at room → length (given_words old room d) ≡ room
    → Filling old old block at at 0 (room / length (datum_words old d)) d
filling-none old block at room d blank whole =
    let ws = datum_words old d in
    let all : room ≡ (room / length ws) * length ws = sym whole ∙ repeated_many (room / length ws) ws in
    record {
      leaves = elements_all ws (length ws) refl old block at (room / length ws) (subst (IsBlank old block at) all blank);
      others = λ q ne. refl;
    }

module _ (old now : Live) (block first place i many : ℕ) (d : Datum) (f : Filling old now block first place i many d) (apart : IsApart old block d) (lt : i < many) where
  abbrev ws : List ℤ
  ws = datum_words old d

  here : IsBlank now block place (length ws)
  here = element_here ws (length ws) refl old now block first place i many f.leaves lt

  same : datum_words now d ≡ ws
  same = words-kept old now block d f.others apart

  pub filling-live : IsLive now block
  filling-live = here.live

  pub filling-apart : IsApart now block d
  filling-apart = apart-kept old now block d f.others apart

  pub filling-within : place + length (datum_words now d) ≤ length (words_of now block)
  filling-within = let w = here.within in let e = ap length same in omega (arith, w, e)

  pub filling-long : place + length ws ≤ length (words_of old block)
  filling-long = element_within ws (length ws) refl old now block first place i many f.leaves lt

  pub filling-more : (new : Live) (width : ℕ) → width ≡ length ws → new ≡ with_words now block (with_words_at (words_of now block) place (datum_words now d))
      → Filling old new block first (place + width) (i + 1) many d
  filling-more new width wide is =
      let run : new ≡ with_words_from now block place ws = is ∙ written-run now block place (datum_words now d) filling-live filling-within ∙ ap (with_words_from now block place) same in
      record {
        leaves = element_next ws (length ws) refl old now block first place i many f.leaves lt new width run wide;
        others = λ q ne. ap (λ (l : Live). find l q) run ∙ from_others now block place ws q ne ∙ f.others q ne;
      }

pub filling-all : (old now : Live) (block first place i many room : ℕ) (d : Datum) → Filling old now block first place i many d → many ≡ room / length (datum_words old d) → many ≤ i
    → now ≡ with_words_from old block first (given_words old room d)
filling-all old now block first place i many room d f is past =
    elements_none (datum_words old d) (length (datum_words old d)) refl old now block first place i many f.leaves past
    ∙ ap (λ k. with_words_from old block first (repeated k (datum_words old d))) is

-- a value without words
pub nothing-given : (old : Live) (block at room : ℕ) (d : Datum) → length (datum_words old d) ≡ 0 → old ≡ with_words_from old block at (given_words old room d)
nothing-given old block at room d none = sym (ap (with_words_from old block at) (by (datum_words old d) none (room / length (datum_words old d))))
  where
    by : (ws : List ℤ) → length ws ≡ 0 → (k : ℕ) → repeated k ws ≡ []
    by [] e zero = refl
    by [] e (suc k) = by [] e k
    by (w ∷ ws) e k = absurd (omega (arith, e))

-- ---- components

-- so many were written, and these are left
pub record Writing (ts : List Shape) (old now : Live) (zs : List Cell) (block at number : ℕ) (left all : List Component) : Type 0 where
  pub leaves : Leaves old now block 0 at (structure_words ts old zs number left) (structure_words ts old zs 0 all)
  pub can : AllCanBegin ts (declared_each left)
  pub whole : AreWhole ts old zs number left
  pub others : (q : ℕ) → q ≢ block → find now q ≡ find old q

component-long : (ts : List Shape) (m : Live) (c : Component) (o : Option Datum) → CanBegin (shape_in ts c.declared.kind.of) c.declared → TypeCanBegin (shape_in ts c.declared.kind.of)
    → Fills m (room ts c.declared) o → length (component_words ts m c.declared o) ≡ room ts c.declared
component-long ts m c None can type fills = variable_many ts c.declared can type
component-long ts m c (Some d) can type fills = fills

pub all-long : (ts : List Shape) (m : Live) (zs : List Cell) (k : ℕ) (cs : List Component) → AllCanBegin ts (declared_each cs) → AreWhole ts m zs k cs
    → length (structure_words ts m zs k cs) ≡ total ts (declared_each cs)
all-long ts m zs k [] can whole = refl
all-long ts m zs k (c ∷ cs) can whole =
    let one = component-long ts m c (given_in k zs) can.0 can.1 whole.0 in
    let more = all-long ts m zs (suc k) cs can.2 whole.1 in
    let both = length-append (component_words ts m c.declared (given_in k zs)) (structure_words ts m zs (suc k) cs) in
    omega (arith, one, more, both)

pub writing-none : (ts : List Shape) (old : Live) (zs : List Cell) (block : ℕ) (cs : List Component) → AllCanBegin ts (declared_each cs) → AreWhole ts old zs 0 cs
    → IsBlank old block 0 (total ts (declared_each cs)) → Writing ts old old zs block 0 0 cs cs
writing-none ts old zs block cs can whole blank = record {
  leaves = leaves_all old block 0 (total ts (declared_each cs)) (structure_words ts old zs 0 cs) (all-long ts old zs 0 cs can whole) blank;
  can = can;
  whole = whole;
  others = λ q ne. refl;
}

-- the value of a number is apart
pub given-apart : (m : Live) (block k : ℕ) (zs : List Cell) (d : Datum) → AreApart m block zs → given_in k zs ≡ Some d → IsApart m block d
given-apart m block k [] d apart e = absurd cc
given-apart m block k (c.Argument (passed.Given j x) ∷ zs) d apart e = by (nat_eq j k) e (λ f. given-apart m block k zs d apart.1 f)
  where
    by : (b : Bool) → (if b then Some x else given_in k zs) ≡ Some d → (given_in k zs ≡ Some d → IsApart m block d) → IsApart m block d
    by true f more = let same : x ≡ d = cc in subst (IsApart m block) same apart.0
    by false f more = more f
given-apart m block k (c.Argument (passed.Lent j x) ∷ zs) d apart e = given-apart m block k zs d apart e
given-apart m block k (c.Datum x ∷ zs) d apart e = given-apart m block k zs d apart e
given-apart m block k (c.Object x ∷ zs) d apart e = given-apart m block k zs d apart e
given-apart m block k (c.Each x i ∷ zs) d apart e = given-apart m block k zs d apart e
given-apart m block k (c.Choice x ∷ zs) d apart e = given-apart m block k zs d apart e
given-apart m block k (c.Bound x ∷ zs) d apart e = given-apart m block k zs d apart e
given-apart m block k (c.Bounds x ∷ zs) d apart e = given-apart m block k zs d apart e
given-apart m block k (c.Turns x i ∷ zs) d apart e = given-apart m block k zs d apart e
given-apart m block k (c.Objects x ∷ zs) d apart e = given-apart m block k zs d apart e
given-apart m block k (c.Selector x ∷ zs) d apart e = given-apart m block k zs d apart e
given-apart m block k (c.Level x i ∷ zs) d apart e = given-apart m block k zs d apart e
given-apart m block k (c.Outside x ∷ zs) d apart e = given-apart m block k zs d apart e
given-apart m block k (c.Going x ∷ zs) d apart e = given-apart m block k zs d apart e

module _ (ts : List Shape) (old now : Live) (zs : List Cell) (block at number : ℕ) (these left all : List Component) (c : Component) (e : these ≡ c ∷ left)
    (f : Writing ts old now zs block at number these all) where
  abbrev mine : List ℤ
  mine = component_words ts old c.declared (given_in number zs)

  can-be : AllCanBegin ts (declared_each (c ∷ left))
  can-be = subst (λ cs. AllCanBegin ts (declared_each cs)) e f.can

  whole-are : AreWhole ts old zs number (c ∷ left)
  whole-are = subst (AreWhole ts old zs number) e f.whole

  long : length mine ≡ room ts c.declared
  long = component-long ts old c (given_in number zs) can-be.0 can-be.1 whole-are.0

  pub writing-can : CanBegin (shape_in ts c.declared.kind.of) c.declared × TypeCanBegin (shape_in ts c.declared.kind.of)
  writing-can = (can-be.0, can-be.1)

  pub writing-here : IsBlank now block at (room ts c.declared)
  writing-here = leaves_front old now block 0 at (structure_words ts old zs number these) (structure_words ts old zs 0 all) mine (structure_words ts old zs (suc number) left) f.leaves
      (ap (structure_words ts old zs number) e) (room ts c.declared) long

  pub writing-within : at + room ts c.declared ≤ length (words_of old block)
  writing-within = let w = writing-here.within in let g = f.leaves.long in omega (arith, w, g)

  pub writing-fills : (d : Datum) → given_in number zs ≡ Some d → AreApart old block zs → length (given_words now (room ts c.declared) d) ≡ room ts c.declared
  writing-fills d is apart =
      let same = words-kept old now block d f.others (given-apart old block number zs d apart is) in
      ap (λ us. length (repeated (room ts c.declared / length us) us)) same ∙ subst (Fills old (room ts c.declared)) is whole-are.0

  pub writing-apart : (d : Datum) → given_in number zs ≡ Some d → AreApart old block zs → IsApart now block d
  writing-apart d is apart = apart-kept old now block d f.others (given-apart old block number zs d apart is)

  writing-next : (new : Live) (k : ℕ) → k ≡ room ts c.declared → new ≡ with_words_from now block at mine → Writing ts old new zs block (at + k) (number + 1) left all
  writing-next new k size is =
      let next : number + 1 ≡ suc number = omega arith in
      subst (λ i. Writing ts old new zs block (at + k) i left all) (sym next) (record {
        leaves = leaves_next old now block 0 at (structure_words ts old zs number these) (structure_words ts old zs 0 all) mine (structure_words ts old zs (suc number) left) f.leaves
            (ap (structure_words ts old zs number) e) new (at + k) is (ap (λ i. at + i) (size ∙ sym long));
        can = can-be.2;
        whole = whole-are.1;
        others = λ q ne. ap (λ (l : Live). find l q) is ∙ from_others now block at mine q ne ∙ f.others q ne;
      })

  -- a value was given, or not
  pub writing-given : (d : Datum) → given_in number zs ≡ Some d → AreApart old block zs → (new : Live) (k : ℕ) → k ≡ room ts c.declared
      → new ≡ with_words_from now block at (given_words now (room ts c.declared) d) → Writing ts old new zs block (at + k) (number + 1) left all
  writing-given d is apart new k size written =
      let same = words-kept old now block d f.others (given-apart old block number zs d apart is) in
      writing-next new k size (written ∙ ap (λ us. with_words_from now block at (repeated (room ts c.declared / length us) us)) same
      ∙ ap (λ o. with_words_from now block at (component_words ts old c.declared o)) (sym is))

  pub writing-initial : given_in number zs ≡ None → (new : Live) (k : ℕ) → k ≡ room ts c.declared → new ≡ with_words_from now block at (variable_words ts c.declared)
      → Writing ts old new zs block (at + k) (number + 1) left all
  writing-initial none new k size written =
      writing-next new k size (written ∙ ap (λ o. with_words_from now block at (component_words ts old c.declared o)) (sym none))

pub writing-all : (ts : List Shape) (old now : Live) (zs : List Cell) (block at number : ℕ) (left all : List Component) → left ≡ [] → Writing ts old now zs block at number left all
    → now ≡ with_words_from old block 0 (structure_words ts old zs 0 all)
writing-all ts old now zs block at number left all none f =
    leaves_none old now block 0 at (structure_words ts old zs number left) (structure_words ts old zs 0 all) (ap (structure_words ts old zs number) none) f.leaves
