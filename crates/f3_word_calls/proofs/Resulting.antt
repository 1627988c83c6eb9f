-- The value of a function that has returned.
use Rattle.std.proofs.Common.{◌≡◌, ◌∙◌, ℕ, ◌+◌, List, [], ◌∷◌, ◌++◌, refl, sym, ap, subst}
use Rattle.std.specs.Prelude.{Ok, None, Some, slice_get}
use Rattle.f3_program.specs.declared.declarations.Constant.TheVariants as constant
use Rattle.f3_program.specs.declared.declarations.Kind.{Kind}
use Rattle.f3_program.specs.declared.program.Program.{Program}
use Rattle.f3_live_blocks.specs.Blocks.{Live}
use Rattle.f3_meaning_whole.specs.Act.{Here}
use Rattle.f3_meaning_whole.specs.Eval.{result}
use Rattle.f3_meaning_whole.specs.Ran.{gives}
use Rattle.f3_meaning_whole.specs.Value.{Value, plain}
use Rattle.f3_code.specs.declared.instruction.Instruction.TheVariants as i
use Rattle.f3_code.specs.Heap.{with_answers}
use Rattle.f3_code.specs.Machine.{on, performs}
use Rattle.f3_code.specs.State.{Line, placed}
use Rattle.f3_code.specs.State as s
use Rattle.f3_cell_kinds.specs.Effect.{held_kind}
use Rattle.f3_cell_kinds.specs.Types.{CellType}
use Rattle.f3_cell_kinds.specs.Types as cell
use Rattle.f3_cell_kinds.specs.Laws.{site_at}
use Rattle.f3_desc.specs.declared.descriptor.Dim.{Dim}
use Rattle.f3_rooms.specs.Rooms.{Rooms}
use Rattle.f3_word_cells.specs.declared.cell.Datum.{Datum}
use Rattle.f3_word_cells.specs.declared.cell.Datum.TheVariants as datum
use Rattle.f3_word_cells.specs.declared.cell.Cell.TheVariants as c
use Rattle.f3_word_cells.specs.declared.state.State.{State}
use Rattle.f3_word_cells.specs.Areas.{IsDatum, value_in}
use Rattle.f3_word_cells.specs.Scenes.{code_of}
use Rattle.f3_word_cells.specs.States.{IsLaid, Stands, datum_blocks, own}
use Rattle.f3_word_cells.specs.Moves.{Popped, Pushed}
use Rattle.f3_word_cells.specs.Does.{Becomes, IsTold}
use Rattle.f3_word_cells.proofs.OnTop.{line_kinds, of_datum, one_on_top}
use Rattle.f3_word_cells.proofs.Scalars.{IsArray, IsComposite, Large, large_block}
use Rattle.f3_word_cells.proofs.Moving.{Beneath, moved_to}
use Rattle.f3_word_cells.proofs.Orderly.{IsAfter, after_way}
use Rattle.f3_word_cells.proofs.Amid.{Amid, amid_first, amid_popped}
use Rattle.f3_word_cells.proofs.Lines.{answering, line_goes, performs_gives, with_stack}
use Rattle.f3_word_calls.specs.Taken.{Took}
use Rattle.f3_word_calls.proofs.Going.{goes_with}
use Rattle.f3_word_calls.proofs.Tops.{datum_cell, top_is}

-- ---- what the machine over values does

-- a value is there
abbrev IsPresent : Value → Type 0
IsPresent v = (here : Here) → result v here ≡ gives (plain v)

large_present : (ds : List Dim) (v : Value) → Large ds v → IsPresent v
large_present ds v (IsComposite vs none is) = subst IsPresent (sym is) (λ here. refl)
large_present ds v (IsArray ss vs same is) = subst IsPresent (sym is) (λ here. refl)

is_present : (p : Program) (live : Live) (v : Value) (d : Datum) → IsDatum p live d v → IsPresent v
is_present p live v (datum.Scalar (constant.Number z)) is = subst IsPresent (sym is) (λ here. refl)
is_present p live v (datum.Scalar (constant.Truth b)) is = subst IsPresent (sym is) (λ here. refl)
is_present p live v (datum.Block a) is =
    subst IsPresent (sym is.1) (large_present a.elements.dims.items (value_in p live a) (large_block p live a is.0))

-- ---- what the line does

module _ (p : Program) (live : Live) (old : State) (x : Rooms) (t : s.State) (l : Line) (told : IsTold p t)
    (there : slice_get (code_of p).lines t.pc ≡ Some l) (is : l.act ≡ i.Result) (st : Stands p live old x t) where
  pub record AtValue : Type 0 where
    pub kind : Kind
    pub value : Value
    pub below : List s.Cell
    pub split : t.stack ≡ s.Datum value ∷ below
    pub rest : List CellType
    pub kinds : (site_at p t.pc).cells ≡ cell.Datum kind ∷ rest
    pub next : IsAfter p t.pc (t.pc + 1) (cell.Datum (held_kind kind) ∷ rest)

  pub at_value : AtValue
  at_value =
      let lead = line_kinds p t l i.Result told there is in
      let one = one_on_top p t (cell.Datum lead.0) lead.1.rest told lead.1.before in
      let value = of_datum p.types.items lead.0 one.cell one.is in
      record {
        kind = lead.0;
        value = value.0;
        below = one.below;
        split = one.split ∙ ap (λ b. b ∷ one.below) value.1;
        rest = lead.1.rest;
        kinds = lead.1.before;
        next = after_way p t.pc (t.pc + 1) (cell.Datum (held_kind lead.0) ∷ []) lead.1.rest lead.1.next;
      }

  amid_old : Amid p t live old old x (cell.Datum at_value.kind ∷ at_value.rest) (s.Datum at_value.value ∷ at_value.below) t.world.store []
  amid_old = amid_first p t live old x (cell.Datum at_value.kind ∷ at_value.rest) (s.Datum at_value.value ∷ at_value.below) st at_value.kinds at_value.split

  pub some_value : (new : State) → Took c.Datum None old new → ⊥
  some_value new none =
      let top = top_is p live x (Beneath p live old t.frames) old.names.items.items old.here t.here (own old) _ _ amid_old.cells in
      let cell = datum_cell p live x old.names.items.items top.0 _ top.3 in
      none cell.0 top.1 (top.2 ∙ ap (λ a. a ∷ top.1) cell.1)

  pub result_do : (d e : Datum) (mid new : State) → Popped (c.Datum d) old mid → ((v : Value) → IsDatum p live d v → IsDatum p live e (plain v))
      → ((k : Kind) → IsLaid p k d → IsLaid p k e) → datum_blocks e ≡ datum_blocks d → Pushed (c.Datum e) (mid.pc + 1) mid new → Becomes p l t (Ok tt) live new
  result_do d e mid new popped value kind blocks pushed =
      let v = at_value.value in
      let stack : List s.Cell = s.Datum v ∷ at_value.below in
      let taken = amid_popped p t live old old mid x (cell.Datum at_value.kind) at_value.rest (s.Datum v) at_value.below t.world.store [] (c.Datum d) amid_old popped tt in
      let amid : Amid p t live old mid x at_value.rest at_value.below t.world.store (datum_blocks e ++ []) =
      subst (λ bs. Amid p t live old mid x at_value.rest at_value.below t.world.store (bs ++ [])) (sym blocks) taken.2 in
      let u : s.State = moved_to t (t.pc + 1) (s.Datum (plain v) ∷ at_value.below) t.here t.world in
      goes_with p live old x t l st mid new (cell.Datum (held_kind at_value.kind)) at_value.rest (s.Datum (plain v)) at_value.below (c.Datum e) amid popped.pc pushed tt
      (value v taken.0) (kind (held_kind at_value.kind) taken.1) at_value.next
      (line_goes p l t i.Result stack u [] tt [] is at_value.split
      (λ rest. ap (λ r. performs r (answering t.world.store rest) (λ y. on (with_answers rest (with_stack stack t)) (s.Datum y ∷ at_value.below)))
      (is_present p live v d taken.0 (placed l.place t.here)) ∙ performs_gives (plain v) (answering t.world.store rest) _))
