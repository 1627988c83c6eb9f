-- The line of elements of a component.
use Rattle.std.proofs.Common.{◌≡◌, ◌∙◌, ℕ, zero, suc, ◌+◌, ◌≤◌, Bool, true, false, List, [], ◌∷◌, ◌++◌, length, map, reverse, take, refl, sym, ap, subst, arith, append_assoc}
use Rattle.std.specs.Prelude.{Ok, Err, None, Some, Option, slice_get, ◌&&◌, not, nat_eq, nat_lt, if◌then◌else◌}
use Rattle.std.proofs.lemmas.Bool.{eqb-true}
use Rattle.std.proofs.lemmas.List.{length-reverse}
use Rattle.f3_program.specs.declared.declarations.Component as component
use Rattle.f3_program.specs.declared.declarations.Derived.{Derived}
use Rattle.f3_program.specs.declared.declarations.Dimension.{Dimension}
use Rattle.f3_program.specs.declared.declarations.Kind.{Kind}
use Rattle.f3_program.specs.declared.program.Program.{Program}
use Rattle.f3_live_blocks.specs.Blocks.{Live}
use Rattle.f3_meaning_whole.specs.Act as act
use Rattle.f3_meaning_whole.specs.Act.{all_inside, component_of, in_each, moved, picked, picks, picks_in_each, places_in, some_zero_step, spans_in}
use Rattle.f3_meaning_whole.specs.Eval.{by_reach, spans_of_component}
use Rattle.f3_meaning_whole.specs.Formed as formed
use Rattle.f3_meaning_whole.specs.Formed.{count_ranges, of_kind, only}
use Rattle.f3_meaning_whole.specs.Ran.{World, Ran, gives, fails, ◌>>=◌}
use Rattle.f3_meaning_whole.specs.Reference.{Reference, Reach, One, Many}
use Rattle.f3_meaning_whole.specs.Shape.{spans_declared}
use Rattle.f3_meaning_whole.specs.Store.{Path}
use Rattle.f3_meaning_whole.specs.Value.{Span}
use Rattle.f3_meaning_whole.specs.declared.run_error.RunError.TheVariants.{StepIsZero, SubscriptOutOfBounds}
use Rattle.f3_code.specs.declared.instruction.Instruction.TheVariants as i
use Rattle.f3_code.specs.Machine.{performs, on, selects}
use Rattle.f3_code.specs.Heap.{with_answers}
use Rattle.f3_code.specs.State.{Goes, Stays, Failed, Line, placed}
use Rattle.f3_code.specs.State as s
use Rattle.f3_cell_kinds.specs.Effect.{part_cell, picked_kind}
use Rattle.f3_cell_kinds.specs.Holds.{Is, Knows, Reaches, Refers, Stand}
use Rattle.f3_cell_kinds.specs.Laws.{site_at}
use Rattle.f3_cell_kinds.specs.Types.{Around, CellType, Scope, Site, choices_on}
use Rattle.f3_cell_kinds.specs.Types as cell
use Rattle.f3_cells.specs.declared.cell.Chosen.{Chosen}
use Rattle.f3_rooms.specs.Rooms.{Rooms}
use Rattle.f3_room_places.specs.declared.types.Types.{Types}
use Rattle.f3_word_cells.specs.declared.cell.Area.{Area}
use Rattle.f3_word_cells.specs.declared.cell.Cell.{Cell}
use Rattle.f3_word_cells.specs.declared.cell.Cell.TheVariants as c
use Rattle.f3_word_cells.specs.declared.cell.Object.{Object}
use Rattle.f3_word_cells.specs.declared.state.State.{State}
use Rattle.f3_word_cells.specs.declared.state.Stop.{Stop}
use Rattle.f3_word_cells.specs.declared.state.Stop.TheVariants as stop
use Rattle.f3_word_cells.specs.Areas.{AreOfEach, IsObject}
use Rattle.f3_word_cells.specs.Cells.{IsCell}
use Rattle.f3_word_cells.specs.Does.{Becomes, IsTold}
use Rattle.f3_word_cells.specs.Moves.{Popped, PoppedOr, Pushed}
use Rattle.f3_word_cells.specs.Plain.{is_plain_act}
use Rattle.f3_word_cells.specs.Scenes.{code_of}
use Rattle.f3_word_cells.specs.States.{IsKnown, Stands, own, cell_blocks}
use Rattle.f3_word_cells.proofs.Amid.{Amid, amid_popped, amid_pushed}
use Rattle.f3_word_cells.proofs.Lines.{answering, does_so, first_fails, first_gives, line_goes, line_stops, performs_gives, with_stack}
use Rattle.f3_word_cells.proofs.OnTop.{line_kinds, of_object}
use Rattle.f3_word_cells.proofs.Orderly.{IsAfter}
use Rattle.f3_word_areas.proofs.Types.{component-declared, declared-rank, known}
use Rattle.f3_word_objects.specs.Each.{AreSingle, PicksIn, PicksOfEach}
use Rattle.f3_word_objects.specs.Picks.{Picks}
use Rattle.f3_word_cells.specs.Ranks.{AreRanked, AreShort}
use Rattle.f3_word_objects.specs.Taken.{PoppedAll, Took}
use Rattle.f3_word_objects.proofs.Above.{afterwards, cell-beneath, in-order, taken, taken-many}
use Rattle.f3_word_objects.proofs.Beside.{either-not, one-cell, reaches-one}
use Rattle.f3_word_objects.proofs.Choosing.{AreChosen, ChoicesOnTop, OfObject, choices-on-is, choices-on-top, each-type, object-type, takes-choices}
use Rattle.f3_word_objects.proofs.Each.{each-picked}
use Rattle.f3_word_objects.proofs.Members.{plain-component}
use Rattle.f3_word_objects.proofs.Picked.{Why, picked-not, picked-stands, picks-goes, picks-outside, picks-zero}
use Rattle.f3_word_objects.proofs.Popping.{popped-pc}
use Rattle.f3_word_objects.proofs.Sectioning.{IsArray, array-of, not-opened}
use Rattle.f3_word_objects.proofs.Single.{all-single, no-zero-step}
use Rattle.f3_word_objects.proofs.Tops.{after-at, goes-on, object-cell, top-cell}

both : (a b : Bool) → (a && b) ≡ true → (a ≡ true) × (b ≡ true)
both true b e = (refl, e)
both false b e = absurd cc

only-if : (b : Bool) (x j : Kind) → only b x ≡ Some j → b ≡ true
only-if true x j e = refl
only-if false x j e = absurd cc

-- ---- kinds

-- of a single object, or of each element
part-type : (types : List Derived) (k : Kind) (n : ℕ) (j : Kind) → OfObject types (part_cell k n j)
part-type types k n j = by (nat_eq k.rank 0)
  where
    by : (b : Bool) → OfObject types (if b then cell.Object j else cell.Each k n j)
    by true = object-type types j
    by false = each-type types k n j

known-object : (p : Program) (k : Kind) (n : ℕ) (j : Kind) (z : Object) → IsKnown p (part_cell k n j) (c.Object z) → nat_eq k.rank 0 ≡ true
known-object p k n j z = by (nat_eq k.rank 0)
  where
    by : (b : Bool) → IsKnown p (if b then cell.Object j else cell.Each k n j) (c.Object z) → b ≡ true
    by true h = refl
    by false h = absurd h

known-each : (p : Program) (k : Kind) (n : ℕ) (j : Kind) (a : Area) (e : ℕ) → IsKnown p (part_cell k n j) (c.Each a e) → (nat_eq k.rank 0 ≡ false) × (e ≡ n) × (a.of ≡ k.of)
known-each p k n j a e = by (nat_eq k.rank 0)
  where
    by : (b : Bool) → IsKnown p (if b then cell.Object j else cell.Each k n j) (c.Each a e) → (b ≡ false) × (e ≡ n) × (a.of ≡ k.of)
    by true h = absurd h
    by false h = (refl, h.0, h.1)

one-picked : (p : Program) (is_opened : Bool) (bs : List Bool) (k j : Kind) → nat_eq k.rank 0 ≡ true → picked_kind p is_opened bs k j ≡ formed.sectioned p [] [] is_opened (Some bs) j
one-picked p is_opened bs k j e = ap (λ b. if b then formed.sectioned p [] [] is_opened (Some bs) j else formed.element_of_each p [] [] is_opened (Some bs) k j) e

each-picks : (p : Program) (is_opened : Bool) (bs : List Bool) (k j : Kind) → nat_eq k.rank 0 ≡ false → picked_kind p is_opened bs k j ≡ formed.element_of_each p [] [] is_opened (Some bs) k j
each-picks p is_opened bs k j e = ap (λ b. if b then formed.sectioned p [] [] is_opened (Some bs) j else formed.element_of_each p [] [] is_opened (Some bs) k j) e

-- as many subscripts as dimensions, and no triplet of each
picked-rank : (p : Program) (is_opened : Bool) (bs : List Bool) (k j r : Kind) → picked_kind p is_opened bs k j ≡ Some r → length bs ≡ j.rank
picked-rank p is_opened bs k j r = by (nat_eq k.rank 0)
  where
    by : (b : Bool) → (if b then formed.sectioned p [] [] is_opened (Some bs) j else formed.element_of_each p [] [] is_opened (Some bs) k j) ≡ Some r → length bs ≡ j.rank
    by true e =
        let a = both (formed.same_truth is_opened j.is_allocatable) _ (only-if (formed.same_truth is_opened j.is_allocatable && (nat_eq (length bs) j.rank && nat_lt 0 j.rank)) _ r e) in
        eqb-true _ _ (both (nat_eq (length bs) j.rank) _ a.1).0
    by false e =
        let a = both (not is_opened) _ (only-if (not is_opened && (not j.is_allocatable && (nat_eq (length bs) j.rank && nat_eq (count_ranges bs) 0))) _ r e) in
        let b = both (not j.is_allocatable) _ a.1 in
        eqb-true _ _ (both (nat_eq (length bs) j.rank) _ b.1).0

no-ranges : (p : Program) (is_opened : Bool) (bs : List Bool) (k j r : Kind) → nat_eq k.rank 0 ≡ false → picked_kind p is_opened bs k j ≡ Some r → count_ranges bs ≡ 0
no-ranges p is_opened bs k j r many picks =
    let e = sym (each-picks p is_opened bs k j many) ∙ picks in
    let a = both (not is_opened) _ (only-if (not is_opened && (not j.is_allocatable && (nat_eq (length bs) j.rank && nat_eq (count_ranges bs) 0))) _ r e) in
    let b = both (not j.is_allocatable) _ a.1 in
    eqb-true _ _ (both (nat_eq (length bs) j.rank) _ b.1).1

-- an object is beneath the choices and the cell on which they are
beneath : (types : List Derived) (sites : ℕ → Site) (Known : Scope → Type 0) (o : Around) (r : Kind) (bs : List Bool) (part : CellType) (whole : Kind) (rest : List CellType) (hs : List act.Chosen) (q : Reference)
    (below : List s.Cell) (end : Kind) → length hs ≡ length bs
    → Stand types sites Known o r (map cell.Choice bs ++ (part ∷ cell.Object whole ∷ rest)) (map s.Choice hs ++ s.Object q ∷ below) end
    → (y : Reference) × (more : List s.Cell) × (below ≡ s.Object y ∷ more) × Refers whole y
beneath types sites Known o r [] part whole rest [] q [] end e h = absurd h.1
beneath types sites Known o r [] part whole rest [] q (a ∷ more) end e h = let is = of_object types whole a h.1.0 in (is.0, more, ap (λ (b : s.Cell). b ∷ more) is.1, is.2)
beneath types sites Known o r [] part whole rest (g ∷ hs) q below end e h = absurd (omega arith)
beneath types sites Known o r (b ∷ bs) part whole rest [] q below end e h = absurd (omega arith)
beneath types sites Known o r (b ∷ bs) part whole rest (g ∷ hs) q below end e h = beneath types sites Known o r bs part whole rest hs q below end (omega arith) h.1

-- subscripts and triplets above a component of a number, and its object beneath it
pub record PartOnTop (p : Program) (t : s.State) (k n : ℕ) : Type 0 where
  pub whole : Kind
  pub part : component.Component
  pub after : Kind
  pub rest : List CellType
  pub bs : List Bool
  pub top : ChoicesOnTop p t n (part_cell whole k part.declared.kind) (cell.Object whole ∷ rest)
  pub turned : top.triplets ≡ reverse bs
  pub many : length bs ≡ n
  pub some : nat_lt 0 n ≡ true
  pub plain : whole.is_allocatable ≡ false
  pub there : component_of p.types.items whole.of k ≡ Some part
  pub picks : picked_kind p false bs whole part.declared.kind ≡ Some after
  pub reference : Reference
  pub below : List s.Cell
  pub is : top.below ≡ s.Object reference ∷ below
  pub refers : Refers whole reference
  pub next : IsAfter p t.pc (t.pc + 1) (cell.Object after ∷ rest)

pub part-on-top : (p : Program) (t : s.State) (l : Line) (is_opened : Bool) (k n : ℕ) → IsTold p t → slice_get (code_of p).lines t.pc ≡ Some l → l.act ≡ i.SelectOf is_opened k n
    → (is_opened ≡ false) × PartOnTop p t k n
part-on-top p t l is_opened k n told there is =
    let lead = line_kinds p t l (i.SelectOf is_opened k n) told there is in
    let simple = both (not is_opened) (nat_lt 0 n) (ap is_plain_act (sym is) ∙ told.plain.lines t.pc l there) in
    let closed = not-opened is_opened simple.0 in
    let whole = lead.0 in
    let part = part_cell whole k lead.1.declared.kind in
    let bs = lead.2 in
    let rest = lead.8.rest in
    let kinds : (site_at p t.pc).cells ≡ map cell.Choice (reverse bs) ++ (part ∷ cell.Object whole ∷ rest) =
    lead.8.before ∙ ap (λ ks. ks ++ rest) (choices-on-is bs (part ∷ cell.Object whole ∷ [])) ∙ append_assoc (map cell.Choice (reverse bs)) (part ∷ cell.Object whole ∷ []) rest in
    let made = choices-on-top p t n part (reverse bs) (cell.Object whole ∷ rest) (part-type p.types.items whole k lead.1.declared.kind) told (length-reverse bs ∙ lead.4) kinds in
    let top = made.0 in
    let fits = told.fits in
    let stand = subst (λ xs. Stand p.types.items (site_at p) (Knows p.types.items t.here) (site_at p t.pc).scope (site_at p t.pc).returns xs t.stack fits.end) kinds fits.stack in
    let at = subst (λ xs. Stand p.types.items (site_at p) (Knows p.types.items t.here) (site_at p t.pc).scope (site_at p t.pc).returns (map cell.Choice (reverse bs) ++ (part ∷ cell.Object whole ∷ rest)) xs fits.end) top.split stand in
    let under = beneath p.types.items (site_at p) (Knows p.types.items t.here) (site_at p t.pc).scope (site_at p t.pc).returns (reverse bs) part whole rest top.choices top.reference top.below fits.end (top.count ∙ sym (length-reverse bs ∙ lead.4)) at in (
      closed,
      record {
        whole = whole;
        part = lead.1;
        after = lead.3;
        rest = rest;
        bs = bs;
        top = top;
        turned = made.1;
        many = lead.4;
        some = simple.1;
        plain = lead.5;
        there = lead.6;
        picks = ap (λ b. picked_kind p b bs whole lead.1.declared.kind) (sym closed) ∙ lead.7;
        reference = under.0;
        below = under.1;
        is = under.2;
        refers = under.3;
        next = after-at lead.8.next refl refl;
      },
    )

dims-many : (p : Program) (t : s.State) (k n : ℕ) → IsTold p t → (h : PartOnTop p t k n) → n ≡ length h.part.declared.dimensions.items
dims-many p t k n told h =
    let known-it = known p h.whole.of k h.part h.there in
    sym h.many ∙ picked-rank p false h.bs h.whole h.part.declared.kind h.after h.picks
    ∙ sym (declared-rank known-it.number h.part.declared (component-declared p h.whole.of k h.part told.formed known-it) (plain-component p h.whole.of k h.part told.plain.types h.there))

-- no component has more than seven dimensions
pub few-chosen : (p : Program) (t : s.State) (k n : ℕ) → AreRanked p → IsTold p t → (h : PartOnTop p t k n) → n ≤ 7
few-chosen p t k n ranks told h = subst (λ (j : ℕ). j ≤ 7) (sym (dims-many p t k n told h)) (ranks.types h.whole.of k h.part h.there)

-- elements are reached where a rank is not 0
reaches-each : (k : Kind) (reach : Reach) → k.is_allocatable ≡ false → nat_eq k.rank 0 ≡ false → Reaches k reach → (ss : List Span) × (ps : List Path) × (reach ≡ Many ss ps)
reaches-each k One plain many h = absurd (let f : true ≡ false = sym (either-not k.is_allocatable (nat_eq k.rank 0) plain h) ∙ many in cc)
reaches-each k (Many ss ps) plain many h = (ss, ps, refl)

some-rank : (r n : ℕ) → n ≡ r → nat_lt 0 n ≡ true → (k : ℕ) × (r ≡ suc k)
some-rank zero n e f = absurd (let g : nat_lt 0 0 ≡ true = ap (nat_lt 0) (sym e) ∙ f in cc)
some-rank (suc r) n e f = (r, refl)

declared-many : (ds : List Dimension) → length (spans_declared ds) ≡ length ds
declared-many [] = refl
declared-many (d ∷ ds) = let e = declared-many ds in omega arith

-- ---- the run of the line

by-one : (y : Reach) (a b : Ran Reference) (w : World) (f : Reference → World → s.State) → y ≡ One → performs (by_reach y a b) w f ≡ performs a w f
by-one y a b w f e = ap (λ (z : Reach). performs (by_reach z a b) w f) e

by-many : (y : Reach) (ss : List Span) (ps : List Path) (a b : Ran Reference) (w : World) (f : Reference → World → s.State) → y ≡ Many ss ps → performs (by_reach y a b) w f ≡ performs b w f
by-many y ss ps a b w f e = ap (λ (z : Reach). performs (by_reach z a b) w f) e

module _ (r : Reference) (ss : List Span) (hs : List act.Chosen) (single : AreSingle hs) (here : act.Here) (w : World) (f : Reference → World → s.State) where
  abbrev further : List ℕ → Ran Reference
  further ks = gives (moved r r.path (in_each r.reach ks))

  by-zero : performs (picks_in_each ss r hs here) w f ≡ performs ((if all_inside ss hs then gives (places_in ss hs) else fails SubscriptOutOfBounds here.place) >>= further) w f
  by-zero = ap (λ y. performs ((if y then fails StepIsZero here.place else (if all_inside ss hs then gives (places_in ss hs) else fails SubscriptOutOfBounds here.place)) >>= further) w f) (no-zero-step hs single)

  by-inside : (b : Bool) → all_inside ss hs ≡ b → performs ((if all_inside ss hs then gives (places_in ss hs) else fails SubscriptOutOfBounds here.place) >>= further) w f
      ≡ performs ((if b then gives (places_in ss hs) else fails SubscriptOutOfBounds here.place) >>= further) w f
  by-inside b e = ap (λ y. performs ((if y then gives (places_in ss hs) else fails SubscriptOutOfBounds here.place) >>= further) w f) e

  each-goes : all_inside ss hs ≡ true → performs (picks_in_each ss r hs here) w f ≡ Goes [] (f (moved r r.path (in_each r.reach (places_in ss hs))) w)
  each-goes e = by-zero ∙ by-inside true e ∙ first_gives (places_in ss hs) further w f ∙ performs_gives _ w f

  each-outside : all_inside ss hs ≡ false → performs (picks_in_each ss r hs here) w f ≡ Stays [] (Failed SubscriptOutOfBounds here.place)
  each-outside e = by-zero ∙ by-inside false e ∙ first_fails SubscriptOutOfBounds here.place further w f

-- ---- what cannot be

module _ (p : Program) (m : Live) (old mid : State) (k n : ℕ) (ch : List Chosen) (all : n ≤ length ch) (choices : PoppedAll (map c.Choice (reverse (take n ch))) old mid)
    (t : s.State) (x : Rooms) (st : Stands p m old x t) (h : PartOnTop p t k n) where
  abbrev kind : CellType
  kind = part_cell h.whole k h.part.declared.kind

  -- a cell is beneath the choices
  pub part-there : (last : State) → PoppedOr None mid last → ⊥
  part-there last none =
      let f = cell-beneath p t m old x n kind (cell.Object h.whole ∷ h.rest) st h.top mid ch all choices in
      let wrong : [] ≡ f.0 ∷ f.1 = sym none.0 ∙ f.2 in cc

  amid-part : Amid p t m old mid x (kind ∷ cell.Object h.whole ∷ h.rest) (s.Object h.top.reference ∷ s.Object h.reference ∷ h.below) (t.world).store []
  amid-part = subst (λ (b : List s.Cell). Amid p t m old mid x (kind ∷ cell.Object h.whole ∷ h.rest) (s.Object h.top.reference ∷ b) (t.world).store []) h.is
      (afterwards p t m old x n kind (cell.Object h.whole ∷ h.rest) st h.top mid ch all choices).1

  -- a cell that is an object has no block
  module _ (a : Cell) (last : State) (popped : Popped a mid last) where
    pub part-popped : IsCell p x m old.names.items.items a (s.Object h.top.reference) × IsKnown p kind a × Amid p t m old last x (cell.Object h.whole ∷ h.rest) (s.Object h.reference ∷ h.below) (t.world).store []
    part-popped =
        let one = amid_popped p t m old mid last x kind (cell.Object h.whole ∷ h.rest) (s.Object h.top.reference) (s.Object h.reference ∷ h.below) (t.world).store [] a amid-part popped tt in
        (one.0, one.1, subst (λ (bs : List ℕ). Amid p t m old last x (cell.Object h.whole ∷ h.rest) (s.Object h.reference ∷ h.below) (t.world).store bs) (no-block a one.0) one.2)
      where
        no-block : (a : Cell) → IsCell p x m old.names.items.items a (s.Object h.top.reference) → cell_blocks a ++ [] ≡ []
        no-block (c.Object z) is = refl
        no-block (c.Each z e) is = refl
        no-block a is = absurd is

    -- the object beneath is there
    pub whole-there : (end : State) → Took c.Object None last end → ⊥
    whole-there end none =
        let f = top-cell p m _ x old.names.items.items old.here t.here (own last) (s.Object h.reference) h.below (cell.Object h.whole) h.rest part-popped.2.known part-popped.2.cells in
        let o = object-cell p m x old.names.items.items f.0 h.reference h.whole f.4 f.3 in
        none o.0 f.1 (f.2 ∙ ap (λ (y : Cell). y ∷ f.1) o.1)

    pub whole-popped : (z : Object) (end : State) → Popped (c.Object z) last end → Amid p t m old end x h.rest h.below (t.world).store []
    whole-popped z end gone = (amid_popped p t m old last end x (cell.Object h.whole) h.rest (s.Object h.reference) h.below (t.world).store [] (c.Object z) part-popped.2 gone tt).2

-- ---- the line

module _ (p : Program) (m : Live) (short : AreShort m) (types : Types) (derived : types.derived.now ≡ p.types.items) (old mid last end : State) (k n : ℕ) (ch : List Chosen) (all : n ≤ length ch)
    (choices : PoppedAll (map c.Choice (reverse (take n ch))) old mid) (whole : Object) (gone : Popped (c.Object whole) last end)
    (t : s.State) (l : Line) (x : Rooms) (told : IsTold p t) (st : Stands p m old x t) (is-line : l.act ≡ i.SelectOf false k n) (h : PartOnTop p t k n) where
  abbrev ks : CellType
  ks = part_cell h.whole k h.part.declared.kind

  abbrev under : List CellType
  under = cell.Object h.whole ∷ h.rest

  abbrev gs : List act.Chosen
  gs = taken p t m old x n ks under st h.top mid ch all choices

  abbrev q : Reference
  q = h.top.reference

  abbrev at-place : act.Here
  at-place = placed l.place t.here

  abbrev cells : List s.Cell
  cells = map s.Choice h.top.choices ++ s.Object q ∷ s.Object h.reference ∷ h.below

  split : t.stack ≡ cells
  split = h.top.split ∙ ap (λ b. map s.Choice h.top.choices ++ s.Object q ∷ b) h.is

  abbrev follow : (ℕ → Bool) → Reference → World → s.State
  follow rest y = on (with_answers rest (with_stack cells t)) (s.Object y ∷ h.below)

  abbrev each-of : Option component.Component → Ran Reference
  each-of o = picks_in_each (spans_of_component o) q gs at-place

  -- as many as dimensions
  many : length gs ≡ n
  many = taken-many p t m old x n ks under st h.top mid ch all choices

  runs : (rest : ℕ → Bool) → does_so p l t (i.SelectOf false k n) cells [] rest
      ≡ performs (by_reach h.reference.reach (selects false gs q at-place) (each-of (component_of p.types.items h.reference.of k))) (answering (t.world).store rest) (follow rest)
  runs rest =
      takes-choices h.top.choices [] (s.Object q ∷ s.Object h.reference ∷ h.below) n _ h.top.count
      ∙ ap (λ (ys : List act.Chosen). performs (by_reach h.reference.reach (selects false ys q at-place) (picks_in_each (spans_of_component (component_of p.types.items h.reference.of k)) q ys at-place)) (answering (t.world).store rest) (follow rest))
      (in-order p t m old x n ks under st h.top mid ch all choices)

  -- the next line comes
  passes : (a : Cell) → Popped a mid last → (y : Object) (new : State) (r : Reference) → IsObject p x y r → Pushed (c.Object y) (end.pc + 1) end new
      → ((rest : ℕ → Bool) → does_so p l t (i.SelectOf false k n) cells [] rest ≡ Goes [] (follow rest r (answering (t.world).store rest))) → Becomes p l t (Ok tt) m new
  passes a popped y new r there pushed goes =
      let amid = amid_pushed p t m old end new x (cell.Object h.after) h.rest (s.Object r) h.below (t.world).store [] (c.Object y) (end.pc + 1)
      (whole-popped p m old mid k n ch all choices t x st h a last popped whole end gone) pushed tt there tt in
      goes-on p t m old x told st l new (cell.Object h.after ∷ h.rest) (s.Object r ∷ h.below) amid h.next
      (pushed.pc ∙ ap (λ j. j + 1) (gone.pc ∙ popped.pc ∙ popped-pc (map c.Choice (reverse (take n ch))) old mid choices))
      (line_goes p l t (i.SelectOf false k n) cells _ [] tt [] is-line split goes)

  -- of a single object
  module _ (one : nat_eq h.whole.rank 0 ≡ true) where
    array : IsArray n q.reach
    array = (array-of false h.bs h.part.declared.kind h.after n q.reach refl h.many (sym (one-picked p false h.bs h.whole h.part.declared.kind one) ∙ h.picks)
        (subst (λ (y : CellType). Is p.types.items y (s.Object q)) (one-cell h.whole k h.part.declared.kind one) h.top.is).1).1

    runs-one : (rest : ℕ → Bool) → does_so p l t (i.SelectOf false k n) cells [] rest ≡ performs (picks q (Many array.spans array.paths) gs at-place) (answering (t.world).store rest) (follow rest)
    runs-one rest =
        let w = answering (t.world).store rest in
        runs rest ∙ by-one h.reference.reach (selects false gs q at-place) _ w (follow rest) (reaches-one h.whole h.reference.reach one h.refers.1)
        ∙ first_gives q (λ y. picks y y.reach gs at-place) w (follow rest)
        ∙ ap (λ (y : Reach). performs (picks q y gs at-place) w (follow rest)) array.is

    one-passes : (z y : Object) (new : State) → Popped (c.Object z) mid last → IsObject p x z q → Picks z gs (Ok y) → Pushed (c.Object y) (end.pc + 1) end new → Becomes p l t (Ok tt) m new
    one-passes z y new popped is selected pushed =
        let there = picked-stands p m short x st.sound q array.spans array.paths array.is gs (many ∙ sym array.ranked) z y is selected in
        passes (c.Object z) popped y new _ there.0 pushed (λ rest. runs-one rest ∙ picks-goes q array.spans array.paths gs at-place _ (follow rest) there.1 there.2)

    one-fails : (z : Object) (e : Stop) (new : State) → IsObject p x z q → Picks z gs (Err e) → Becomes p l t (Err e) m new
    one-fails z e new is selected = by e (picked-not p m short x st.sound q array.spans array.paths array.is gs (many ∙ sym array.ranked) z e is selected)
      where
        by : (e : Stop) → Why array.spans gs e → Becomes p l t (Err e) m new
        by (stop.Failed StepIsZero) why = line_stops p l t (i.SelectOf false k n) cells _ [] tt is-line split (λ rest. runs-one rest ∙ picks-zero q array.spans array.paths gs at-place _ (follow rest) why)
        by (stop.Failed SubscriptOutOfBounds) why =
            line_stops p l t (i.SelectOf false k n) cells _ [] tt is-line split (λ rest. runs-one rest ∙ picks-outside q array.spans array.paths gs at-place _ (follow rest) why.0 why.1)
        by e why = absurd why

  -- of each element of an array
  module _ (a : Area) (e : ℕ) (each : nat_eq h.whole.rank 0 ≡ false) (number : e ≡ k) (type : a.of ≡ h.whole.of) (of : AreOfEach p x a e q) where
    abbrev ss : List Span
    ss = spans_declared h.part.declared.dimensions.items

    single : AreSingle gs
    single = subst (λ (l : List act.Chosen). AreSingle l) (in-order p t m old x n ks under st h.top mid ch all choices)
        (all-single h.bs h.top.choices (no-ranges p false h.bs h.whole h.part.declared.kind h.after each h.picks) (subst (λ (bs : List Bool). AreChosen bs h.top.choices) h.turned h.top.chosen))

    component-is : component_of p.types.items a.of e ≡ Some h.part
    component-is = ap (λ y. component_of p.types.items y e) type ∙ ap (component_of p.types.items h.whole.of) number ∙ h.there

    runs-each : (rest : ℕ → Bool) → does_so p l t (i.SelectOf false k n) cells [] rest ≡ performs (picks_in_each ss q gs at-place) (answering (t.world).store rest) (follow rest)
    runs-each rest =
        let w = answering (t.world).store rest in
        let r = h.reference in
        let reach = reaches-each h.whole r.reach h.plain each h.refers.1 in
        runs rest ∙ by-many r.reach reach.0 reach.1 (selects false gs q at-place) (each-of (component_of p.types.items r.of k)) w (follow rest) reach.2
        ∙ ap (λ (o : Option component.Component). performs (each-of o) w (follow rest)) (ap (λ y. component_of p.types.items y k) h.refers.0 ∙ h.there)

    pub each-passes : (y : Object) (new : State) → Popped (c.Each a e) mid last → PicksOfEach types a e gs (Ok y) → Pushed (c.Object y) (end.pc + 1) end new → Becomes p l t (Ok tt) m new
    each-passes y new popped selected pushed =
        let rank = some-rank h.part.declared.kind.rank n (sym h.many ∙ picked-rank p false h.bs h.whole h.part.declared.kind h.after h.picks) h.some in
        let there = each-picked p m x st.sound short told.formed told.plain.types types derived a e q of h.part component-is gs single (many ∙ dims-many p t k n told h ∙ sym (declared-many h.part.declared.dimensions.items)) rank.0 rank.1 y selected in
        passes (c.Each a e) popped y new _ there.0 pushed (λ rest. runs-each rest ∙ each-goes q ss gs single at-place _ (follow rest) there.1)

    pub each-fails : (f : Stop) (new : State) → PicksOfEach types a e gs (Err f) → Becomes p l t (Err f) m new
    each-fails (stop.Failed SubscriptOutOfBounds) new selected =
        let both : Some selected.0 ≡ Some h.part = sym selected.1 ∙ ap (λ ts. component_of ts a.of e) derived ∙ component-is in
        let same : selected.0 ≡ h.part = cc in
        line_stops p l t (i.SelectOf false k n) cells _ [] tt is-line split
        (λ rest. runs-each rest ∙ each-outside q ss gs single at-place _ (follow rest) (ap (λ (y : component.Component). all_inside (spans_declared y.declared.dimensions.items) gs) (sym same) ∙ selected.2))
    each-fails f new selected = absurd (let wrong : None ≡ Some h.part = sym selected ∙ ap (λ ts. component_of ts a.of e) derived ∙ component-is in cc)

  pub elements-pass : (a : Cell) (y : Object) (new : State) → Popped a mid last → PicksIn types a gs (Ok y) → Pushed (c.Object y) (end.pc + 1) end new → Becomes p l t (Ok tt) m new
  elements-pass a y new popped = by a popped (part-popped p m old mid k n ch all choices t x st h a last popped).0 (part-popped p m old mid k n ch all choices t x st h a last popped).1
    where
      by : (a : Cell) → Popped a mid last → IsCell p x m old.names.items.items a (s.Object q) → IsKnown p ks a → PicksIn types a gs (Ok y) → Pushed (c.Object y) (end.pc + 1) end new → Becomes p l t (Ok tt) m new
      by (c.Object z) popped is known selected pushed = one-passes (known-object p h.whole k h.part.declared.kind z known) z y new popped is selected pushed
      by (c.Each a e) popped is known selected pushed =
          let f = known-each p h.whole k h.part.declared.kind a e known in
          each-passes a e f.0 f.1 f.2 is y new popped (selected (single a e f.0 f.1 f.2 is)) pushed
      by a popped is known selected pushed = absurd is

  pub elements-fail : (a : Cell) (f : Stop) (new : State) → Popped a mid last → PicksIn types a gs (Err f) → Becomes p l t (Err f) m new
  elements-fail a f new popped = by a (part-popped p m old mid k n ch all choices t x st h a last popped).0 (part-popped p m old mid k n ch all choices t x st h a last popped).1
    where
      by : (a : Cell) → IsCell p x m old.names.items.items a (s.Object q) → IsKnown p ks a → PicksIn types a gs (Err f) → Becomes p l t (Err f) m new
      by (c.Object z) is known selected = one-fails (known-object p h.whole k h.part.declared.kind z known) z f new is selected
      by (c.Each a e) is known selected =
          let g = known-each p h.whole k h.part.declared.kind a e known in
          each-fails a e g.0 g.1 g.2 is f new (selected (single a e g.0 g.1 g.2 is))
      by a is known selected = absurd is
