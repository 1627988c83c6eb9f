-- The line of a component of which elements are selected.
use Rattle.std.proofs.Common.{◌≡◌, ◌∙◌, ℕ, zero, suc, ◌+◌, Bool, true, false, [], ◌∷◌, refl, sym, ap, subst, arith}
use Rattle.std.specs.Prelude.{Ok, Err, None, Some, ◌≢◌, ◌||◌, nat_eq, nat_lt, if◌then◌else◌}
use Rattle.std.proofs.lemmas.Bool.{ne_eqb}
use Rattle.f3_program.specs.declared.declarations.Kind.{Kind}
use Rattle.f3_program.specs.declared.program.Program.{Program}
use Rattle.f3_live_blocks.specs.Blocks.{Live}
use Rattle.f3_meaning_whole.specs.Formed.{only, is_scalar, of_kind}
use Rattle.f3_meaning_whole.specs.Reference.{Reference, Reach, One, Many, Selected}
use Rattle.f3_meaning_whole.specs.Store.{Path, Store}
use Rattle.f3_code.specs.declared.instruction.Instruction.TheVariants as i
use Rattle.f3_code.specs.State.{Line, placed}
use Rattle.f3_code.specs.State as s
use Rattle.f3_cell_kinds.specs.Effect.{part_cell, part_kind}
use Rattle.f3_cell_kinds.specs.Holds.{Reaches, Refers}
use Rattle.f3_cell_kinds.specs.Types.{CellType}
use Rattle.f3_cell_kinds.specs.Types as cell
use Rattle.f3_rooms.specs.Rooms.{Rooms}
use Rattle.f3_room_places.specs.declared.types.Types.{Types}
use Rattle.f3_word_cells.specs.declared.cell.Area.{Area}
use Rattle.f3_word_cells.specs.declared.cell.Cell.{Cell}
use Rattle.f3_word_cells.specs.declared.cell.Cell.TheVariants as c
use Rattle.f3_word_cells.specs.declared.cell.Object.{Object}
use Rattle.f3_word_cells.specs.declared.cell.Object.TheVariants as o
use Rattle.f3_word_cells.specs.declared.state.State.{State}
use Rattle.f3_word_cells.specs.declared.state.Stop.TheVariants as stop
use Rattle.f3_word_cells.specs.Areas.{AreOfEach, AreThere, IsObject}
use Rattle.f3_word_cells.specs.Does.{DoesIn}
use Rattle.f3_word_cells.specs.Moves.{Popped, Pushed}
use Rattle.f3_word_cells.proofs.Amid.{amid_pushed}
use Rattle.f3_word_cells.proofs.Lines.{line_goes, performs_looks}
use Rattle.f3_word_cells.proofs.OnTop.{line_kinds}
use Rattle.f3_word_cells.proofs.Orderly.{after_cells}
use Rattle.f3_word_objects.specs.Each.{IsBeside}
use Rattle.f3_word_cells.specs.Ranks.{AreShort}
use Rattle.f3_word_objects.specs.Shapes.{dims_of}
use Rattle.f3_word_objects.proofs.Members.{component-of, component-stands, each-stands, some-component}
use Rattle.f3_word_objects.proofs.Passing.{OnObject}
use Rattle.f3_word_objects.proofs.Tops.{after-at, object-taken, goes-on}

pub on-beside : (p : Program) (m : Live) (old : State) (n : ℕ) → OnObject p m old (i.ComponentOf n)
on-beside p m old n t l told there is = let lead = line_kinds p t l (i.ComponentOf n) told there is in (lead.0, lead.4.rest, lead.4.before)

-- ---- single objects and arrays

pub one-cell : (k : Kind) (n : ℕ) (j : Kind) → nat_eq k.rank 0 ≡ true → part_cell k n j ≡ cell.Object j
one-cell k n j e = ap (λ b. if b then cell.Object j else cell.Each k n j) e

pub each-cell : (k : Kind) (n : ℕ) (j : Kind) → nat_eq k.rank 0 ≡ false → part_cell k n j ≡ cell.Each k n j
each-cell k n j e = ap (λ b. if b then cell.Object j else cell.Each k n j) e

one-kind : (k j : Kind) → nat_eq k.rank 0 ≡ true → part_kind k j ≡ Some j
one-kind k j e = ap (λ b. if b then Some j else only (is_scalar j) (of_kind j.of k.rank)) e

pub either-not : (a b : Bool) → a ≡ false → (a || b) ≡ true → b ≡ true
either-not true b e f = absurd cc
either-not false b e f = f

some-rank : (n : ℕ) → nat_lt 0 n ≡ true → nat_eq n 0 ≡ false
some-rank zero e = absurd cc
some-rank (suc n) e = ne_eqb (suc n) 0 (λ z. absurd (omega arith))

pub reaches-one : (k : Kind) (reach : Reach) → nat_eq k.rank 0 ≡ true → Reaches k reach → reach ≡ One
reaches-one k One e h = refl
reaches-one k (Many ss ps) e h = absurd (let f : true ≡ false = sym e ∙ some-rank k.rank h.1 in cc)

-- one object stands where the rank is 0
one-there : (p : Program) (x : Rooms) (a : Area) (k : Kind) (q : Path) (reach : Reach) → k.is_allocatable ≡ false → Reaches k reach → AreThere p x a q reach → (a.elements).dims.items ≡ []
    → nat_eq k.rank 0 ≡ true
one-there p x a k q One plain reaches there none = either-not k.is_allocatable (nat_eq k.rank 0) plain reaches
one-there p x a k q (Many ss ps) plain reaches there none = absurd (there.0 none)

pub one-object : (p : Program) (x : Rooms) (z : Object) (r : Reference) (k : Kind) → k.is_allocatable ≡ false → Refers k r → IsObject p x z r → dims_of z ≡ [] → nat_eq k.rank 0 ≡ true
one-object p x (o.Held of v) r k plain refers is none = either-not k.is_allocatable (nat_eq k.rank 0) plain (subst (λ (y : Reach). Reaches k y) is.1 refers.1)
one-object p x (o.Stands a) r k plain refers is none = one-there p x a k r.path r.reach plain refers.1 is.1 none

-- and elements where it is not
many-there : (p : Program) (x : Rooms) (a : Area) (k : Kind) (q : Path) (reach : Reach) → Reaches k reach → AreThere p x a q reach → (a.elements).dims.items ≢ [] → nat_eq k.rank 0 ≡ false
many-there p x a k q One reaches there some = absurd (some there.0)
many-there p x a k q (Many ss ps) reaches there some = some-rank k.rank reaches.1

-- ---- the line

module _ (p : Program) (m : Live) (short : AreShort m) (types : Types) (derived : types.derived.now ≡ p.types.items) (old mid : State) (z : Object) (popped : Popped (c.Object z) old mid) (n : ℕ) where
  pub beside-lost : (new : State) → IsBeside types n z None → DoesIn p (i.ComponentOf n) (Err stop.Lost) m m old new
  beside-lost new none t l x told there is st =
      let lead = line_kinds p t l (i.ComponentOf n) told there is in
      let top = object-taken p t m old x told st lead.0 lead.4.rest lead.4.before mid z popped in
      absurd (some-component p m x st.sound short told.formed told.plain.types types derived z top.reference lead.0 n lead.1 top.is top.refers lead.3 none.1)

  pub beside-located : (y : Cell) (next new : State) → IsBeside types n z (Some y) → Pushed (c.Object z) mid.pc mid next → Pushed y (next.pc + 1) next new
      → DoesIn p (i.ComponentOf n) (Ok tt) m m old new
  beside-located (c.Object y) next new located back pushed t l x told there is st =
      let lead = line_kinds p t l (i.ComponentOf n) told there is in
      let k = lead.0 in
      let j = lead.1.declared.kind in
      let top = object-taken p t m old x told st k lead.4.rest lead.4.before mid z popped in
      let r = top.reference in
      let one = one-object p x z r k lead.2 top.refers top.is located.0 in
      let maker = Selected (placed l.place t.here).unit in
      let stands = component-stands p m x st.sound short told.formed told.plain.types types derived z y r k j n maker lead.1 top.is top.refers lead.3 (one-kind k j one) located.1 in
      let q : Store → Reference = component-of p m x st.sound short told.formed told.plain.types types derived r n maker in
      let here = subst (λ (store : Store). IsObject p x y (q store)) (sym st.store) stands in
      let first = amid_pushed p t m old mid next x (cell.Object k) lead.4.rest (s.Object r) top.below (t.world).store [] (c.Object z) mid.pc top.amid back tt top.is tt in
      let both = amid_pushed p t m old next new x (cell.Object j) (cell.Object k ∷ lead.4.rest) (s.Object (q (t.world).store)) (s.Object r ∷ top.below) (t.world).store [] (c.Object y) (next.pc + 1) first pushed tt here tt in
      goes-on p t m old x told st l new (cell.Object j ∷ cell.Object k ∷ lead.4.rest) (s.Object (q (t.world).store) ∷ s.Object r ∷ top.below) both
      (after_cells (after-at lead.4.next refl refl) (ap (λ (a : CellType). a ∷ cell.Object k ∷ lead.4.rest) (one-cell k n j one)))
      (pushed.pc ∙ ap (λ a. a + 1) (back.pc ∙ popped.pc))
      (line_goes p l t (i.ComponentOf n) (s.Object r ∷ top.below) _ [] tt [] is top.split (λ rest. performs_looks _ _ _))
  beside-located (c.Each a e) next new located back pushed t l x told there is st =
      let lead = line_kinds p t l (i.ComponentOf n) told there is in
      let k = lead.0 in
      let j = lead.1.declared.kind in
      let top = object-taken p t m old x told st k lead.4.rest lead.4.before mid z popped in
      let r = top.reference in
      let array : IsObject p x (o.Stands a) r = subst (λ (y : Object). IsObject p x y r) located.1 top.is in
      let some : (a.elements).dims.items ≢ [] = subst (λ (y : Object). dims_of y ≢ []) located.1 located.0 in
      let many = many-there p x a k r.path r.reach top.refers.1 array.1 some in
      let maker = Selected (placed l.place t.here).unit in
      let q : Reference = component-of p m x st.sound short told.formed told.plain.types types derived r n maker (t.world).store in
      let stands = each-stands p m x st.sound short told.formed told.plain.types types derived a r n maker (t.world).store array some in
      let here = subst (λ (i : ℕ). AreOfEach p x a i q) (sym located.2) stands in
      let first = amid_pushed p t m old mid next x (cell.Object k) lead.4.rest (s.Object r) top.below (t.world).store [] (c.Object z) mid.pc top.amid back tt top.is tt in
      let both = amid_pushed p t m old next new x (cell.Each k n j) (cell.Object k ∷ lead.4.rest) (s.Object q) (s.Object r ∷ top.below) (t.world).store [] (c.Each a e) (next.pc + 1) first pushed tt here
      (located.2, sym array.0 ∙ top.refers.0) in
      goes-on p t m old x told st l new (cell.Each k n j ∷ cell.Object k ∷ lead.4.rest) (s.Object q ∷ s.Object r ∷ top.below) both
      (after_cells (after-at lead.4.next refl refl) (ap (λ (a : CellType). a ∷ cell.Object k ∷ lead.4.rest) (each-cell k n j many)))
      (pushed.pc ∙ ap (λ a. a + 1) (back.pc ∙ popped.pc))
      (line_goes p l t (i.ComponentOf n) (s.Object r ∷ top.below) _ [] tt [] is top.split (λ rest. performs_looks _ _ _))
  beside-located y next new located back pushed t l x told there is st = absurd located
