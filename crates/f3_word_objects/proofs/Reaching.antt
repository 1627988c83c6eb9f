-- The line of a component.
use Rattle.std.proofs.Common.{◌≡◌, ℕ, ◌+◌, [], ◌∷◌, refl, sym, subst}
use Rattle.std.specs.Prelude.{Ok, Err, None, Some}
use Rattle.f3_program.specs.declared.program.Program.{Program}
use Rattle.f3_live_blocks.specs.Blocks.{Live}
use Rattle.f3_meaning_whole.specs.Reference.{Reference, Selected}
use Rattle.f3_meaning_whole.specs.Store.{Store}
use Rattle.f3_code.specs.declared.instruction.Instruction.TheVariants as i
use Rattle.f3_code.specs.State.{Line, placed}
use Rattle.f3_code.specs.State as s
use Rattle.f3_room_places.specs.declared.types.Types.{Types}
use Rattle.f3_word_cells.specs.declared.cell.Cell.TheVariants as c
use Rattle.f3_word_cells.specs.declared.cell.Object.{Object}
use Rattle.f3_word_cells.specs.declared.state.State.{State}
use Rattle.f3_word_cells.specs.declared.state.Stop.TheVariants as stop
use Rattle.f3_word_cells.specs.Areas.{IsObject}
use Rattle.f3_word_cells.specs.Does.{DoesIn}
use Rattle.f3_word_cells.specs.Moves.{Popped, Pushed}
use Rattle.f3_word_cells.proofs.Lines.{line_goes, performs_looks}
use Rattle.f3_word_cells.proofs.OnTop.{line_kinds}
use Rattle.f3_word_objects.specs.Parts.{Located}
use Rattle.f3_word_cells.specs.Ranks.{AreShort}
use Rattle.f3_word_objects.proofs.Members.{component-of, component-stands, some-component}
use Rattle.f3_word_objects.proofs.Passing.{OnObject, replaced}
use Rattle.f3_word_objects.proofs.Tops.{after-at, object-taken}

pub on-component : (p : Program) (m : Live) (old : State) (n : ℕ) → OnObject p m old (i.Component n)
on-component p m old n t l told there is = let lead = line_kinds p t l (i.Component n) told there is in (lead.0, lead.6.rest, lead.6.before)

module _ (p : Program) (m : Live) (short : AreShort m) (types : Types) (derived : types.derived.now ≡ p.types.items) (old mid : State) (z : Object) (popped : Popped (c.Object z) old mid) (n : ℕ) where
  pub component-lost : (new : State) → Located types n z None → DoesIn p (i.Component n) (Err stop.Lost) m m old new
  component-lost new none t l x told there is st =
      let lead = line_kinds p t l (i.Component n) told there is in
      let top = object-taken p t m old x told st lead.0 lead.6.rest lead.6.before mid z popped in
      absurd (some-component p m x st.sound short told.formed told.plain.types types derived z top.reference lead.0 n lead.1 top.is top.refers lead.4 none)

  pub component-located : (y : Object) (new : State) → Located types n z (Some y) → Pushed (c.Object y) (mid.pc + 1) mid new → DoesIn p (i.Component n) (Ok tt) m m old new
  component-located y new located pushed t l x told there is st =
      let lead = line_kinds p t l (i.Component n) told there is in
      let top = object-taken p t m old x told st lead.0 lead.6.rest lead.6.before mid z popped in
      let r = top.reference in
      let maker = Selected (placed l.place t.here).unit in
      let q : Reference = component-of p m x st.sound short told.formed told.plain.types types derived r n maker (t.world).store in
      let stands = component-stands p m x st.sound short told.formed told.plain.types types derived z y r lead.0 lead.2 n maker lead.1 top.is top.refers lead.4 lead.5 located in
      let here = subst (λ (store : Store). IsObject p x y (component-of p m x st.sound short told.formed told.plain.types types derived r n maker store)) (sym st.store) stands in
      replaced p m old mid new z popped (c.Object y) pushed refl t l x told st lead.0 lead.6.rest _ (s.Object q) lead.6.before (after-at lead.6.next refl refl) tt tt top here
      (line_goes p l t (i.Component n) (s.Object r ∷ top.below) _ [] tt [] is top.split (λ rest. performs_looks _ _ _))
