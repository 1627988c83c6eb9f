-- Back to the caller.
use Rattle.std.proofs.Common.{◌≡◌, ◌∙◌, ℕ, ◌+◌, ◌<◌, ◌≤◌, List, [], ◌∷◌, ◌++◌, length, take, drop, reverse, refl, sym, ap, subst, inr, arith}
use Rattle.std.specs.Prelude.{Ok, Err, None, Some, slice_get}
use Rattle.std.proofs.lemmas.List.{append-nil, drop-append-le, length-append, reverse-append, take-append-drop, take-append-le}
use Rattle.f3_program.specs.declared.declarations.Kind.{Kind}
use Rattle.f3_program.specs.declared.program.Program.{Program}
use Rattle.f3_live_blocks.specs.Blocks.{Live}
use Rattle.f3_meaning_whole.specs.Value.{Value}
use Rattle.f3_meaning_whole.specs.Reference.{Reference}
use Rattle.f3_meaning_whole.specs.Ran.{Ended}
use Rattle.f3_meaning_whole.specs.Store.{Store}
use Rattle.f3_code.specs.declared.instruction.Instruction.TheVariants as i
use Rattle.f3_code.specs.Heap.{with_answers}
use Rattle.f3_code.specs.Machine.{returned}
use Rattle.f3_code.specs.State.{Line, Stuck}
use Rattle.f3_code.specs.State as s
use Rattle.f3_cell_kinds.specs.Types.{CellType}
use Rattle.f3_cell_kinds.specs.Types as cell
use Rattle.f3_cell_kinds.specs.Holds.{FramesHold, Knows}
use Rattle.f3_cell_kinds.specs.Laws.{site_at}
use Rattle.f3_rooms.specs.Held.{times}
use Rattle.f3_rooms.specs.Laws.{before_level}
use Rattle.f3_rooms.specs.Rooms.{Rooms, blocks_of}
use Rattle.f3_rooms.proofs.Framing.{Kept, kept_fewer, times_append}
use Rattle.f3_word_cells.specs.declared.cell.Range.{Range}
use Rattle.f3_word_cells.specs.declared.cell.Datum.{Datum}
use Rattle.f3_word_cells.specs.declared.cell.Cell.{Cell}
use Rattle.f3_word_cells.specs.declared.cell.Cell.TheVariants as c
use Rattle.f3_word_cells.specs.declared.state.Name.{Name}
use Rattle.f3_word_cells.specs.declared.state.Caller.{Caller}
use Rattle.f3_word_cells.specs.declared.state.State.{State}
use Rattle.f3_word_cells.specs.declared.state.Stop.TheVariants as stop
use Rattle.f3_word_cells.specs.Areas.{IsDatum}
use Rattle.f3_word_cells.specs.Cells.{AreCells}
use Rattle.f3_word_cells.specs.Scenes.{code_of}
use Rattle.f3_word_cells.specs.States.{AreCalled, AreCallers, AreKnown, AreTight, IsLaid, IsOrderly, Stands, beneath, cells_blocks, cells_from, datum_blocks, levels_rooms, own}
use Rattle.f3_word_cells.specs.Moves.{Popped}
use Rattle.f3_word_cells.specs.Does.{Becomes, IsTold, stream}
use Rattle.f3_word_cells.proofs.OnTop.{line_kinds, of_datum, of_objects, two_on_top}
use Rattle.f3_word_cells.proofs.Stacks.{cells_blocks_append, cells_blocks_one, cells_blocks_reverse, cells_blocks_split}
use Rattle.f3_word_cells.proofs.Staying.{callers_stay, cells_stay, datum_stays}
use Rattle.f3_word_cells.proofs.Moving.{Beneath}
use Rattle.f3_word_cells.proofs.Lines.{answering, line_goes, line_stops, performs_does, with_stack}
use Rattle.f3_word_calls.specs.Gone.{Cleared, Gone, MayGo, first_block}
use Rattle.f3_word_calls.specs.Taken.{Took}
use Rattle.f3_word_calls.proofs.Giving.{gone_both}
use Rattle.f3_word_calls.proofs.Tight.{called_back, length_cut}
use Rattle.f3_word_calls.proofs.Leaving.{blocks_ended, ends_same, kept_left, left_stands, levels_go}
use Rattle.f3_word_calls.proofs.Outward.{are_callers, no_frames}
use Rattle.f3_word_calls.proofs.Tops.{datum_cell, objects_cell, top_is}

reverse_nil : {A : Type 0} (xs : List A) → reverse xs ≡ [] → xs ≡ []
reverse_nil [] e = refl
reverse_nil (x ∷ xs) e =
    let parts : reverse (x ∷ xs) ≡ reverse xs ++ x ∷ [] = reverse-append (x ∷ []) xs in
    let size : length (reverse xs ++ x ∷ []) ≡ 0 = ap length (sym parts ∙ e) in
    let sum = length-append (reverse xs) (x ∷ []) in
    absurd (omega (arith, size, sum))

-- all cells are those beneath where the activation has none
pub only_beneath : (w : State) → own w ≡ [] → w.cells.items.items ≡ beneath w
only_beneath w none =
    sym (take-append-drop w.base w.cells.items.items) ∙ ap (λ cs. beneath w ++ cs) (reverse_nil (drop w.base w.cells.items.items) none) ∙ append-nil (beneath w)

module _ (p : Program) (m : Live) (old : State) (x : Rooms) (t : s.State) (l : Line) (told : IsTold p t)
    (there : slice_get (code_of p).lines t.pc ≡ Some l) (is : l.act ≡ i.Return) (st : Stands p m old x t) where
  -- what stands on top where a procedure returns
  pub record AtReturn : Type 0 where
    pub objects : List Reference
    pub value : Value
    pub below : List s.Cell
    pub split : t.stack ≡ s.Objects objects ∷ s.Datum value ∷ below
    pub names : List Kind
    pub rest : List CellType
    pub kinds : (site_at p t.pc).cells ≡ cell.Objects names ∷ cell.Datum (site_at p t.pc).returns ∷ rest

  pub at_return : AtReturn
  at_return =
      let lead = line_kinds p t l i.Return told there is in
      let r = (site_at p t.pc).returns in
      let two = two_on_top p t (cell.Objects lead.1) (cell.Datum r) lead.2.rest told lead.2.before in
      let objects = of_objects p.types.items lead.1 two.cell two.is in
      let value = of_datum p.types.items r two.next two.next_is in
      record {
        objects = objects.0;
        value = value.0;
        below = two.below;
        split = two.split ∙ ap (λ b. b ∷ two.next ∷ two.below) objects.1 ∙ ap (λ b. s.Objects objects.0 ∷ b ∷ two.below) value.1;
        names = lead.1;
        rest = lead.2.rest;
        kinds = lead.2.before;
      }

  abbrev Rest : Rooms → List Name → Type 0
  Rest = Beneath p m old t.frames

  abbrev ns : List Name
  ns = old.names.items.items

  old_cells : AreCells p m Rest x ns old.here t.here (own old) (s.Objects at_return.objects ∷ s.Datum at_return.value ∷ at_return.below)
  old_cells = subst (λ bs. AreCells p m Rest x ns old.here t.here (own old) bs) at_return.split st.stack

  pub some_objects : (new : State) → Took c.Objects None old new → ⊥
  some_objects new none =
      let top = top_is p m x Rest ns old.here t.here (own old) _ _ old_cells in
      let cell = objects_cell p m x ns top.0 _ top.3 in
      none cell.0 top.1 (top.2 ∙ ap (λ a. a ∷ top.1) cell.1)

  module _ (range : Range) (one : State) (popped : Popped (c.Objects range) old one) where
    one_cells : AreCells p m Rest x ns old.here t.here (own one) (s.Datum at_return.value ∷ at_return.below)
    one_cells =
        let cells : AreCells p m Rest x ns old.here t.here (c.Objects range ∷ own one) (s.Objects at_return.objects ∷ s.Datum at_return.value ∷ at_return.below) =
        subst (λ zs. AreCells p m Rest x ns old.here t.here zs (s.Objects at_return.objects ∷ s.Datum at_return.value ∷ at_return.below)) popped.cells old_cells in
        cells.2

    pub some_datum : (new : State) → Took c.Datum None one new → ⊥
    some_datum new none =
        let top = top_is p m x Rest ns old.here t.here (own one) _ _ one_cells in
        let cell = datum_cell p m x ns top.0 _ top.3 in
        none cell.0 top.1 (top.2 ∙ ap (λ a. a ∷ top.1) cell.1)

    module _ (d : Datum) (two : State) (taken : Popped (c.Datum d) one two) where
      value_is : IsDatum p m d at_return.value
      value_is =
          let cells : AreCells p m Rest x ns old.here t.here (c.Datum d ∷ own two) (s.Datum at_return.value ∷ at_return.below) =
          subst (λ zs. AreCells p m Rest x ns old.here t.here zs (s.Datum at_return.value ∷ at_return.below)) taken.cells one_cells in
          cells.0

      laid : IsLaid p (site_at p t.pc).returns d
      laid =
          let cells : own old ≡ c.Objects range ∷ c.Datum d ∷ own two = popped.cells ∙ ap (λ zs. c.Objects range ∷ zs) taken.cells in
          let known : AreKnown p (cell.Objects at_return.names ∷ cell.Datum (site_at p t.pc).returns ∷ at_return.rest) (c.Objects range ∷ c.Datum d ∷ own two) =
          subst (λ zs. AreKnown p (cell.Objects at_return.names ∷ cell.Datum (site_at p t.pc).returns ∷ at_return.rest) zs) cells
          (subst (λ ks. AreKnown p ks (own old)) at_return.kinds st.known) in
          known.1.0

      -- how often a block is one of a value: beneath, of this value, or of another of the activation
      sums : (q : ℕ) → times q (cells_blocks old.cells.items.items)
          ≡ times q (cells_blocks (beneath old)) + (times q (datum_blocks d) + times q (cells_blocks (own two)))
      sums q =
          let a = popped.blocks q in
          let b = taken.blocks q in
          let e = cells_blocks_split q two.base two.cells.items.items in
          let f = cells_blocks_reverse q (drop two.base two.cells.items.items) in
          let g : times q (cells_blocks (beneath two)) ≡ times q (cells_blocks (beneath old)) =
          ap (λ zs. times q (cells_blocks zs)) (taken.same.beneath ∙ popped.same.beneath) in
          omega (arith, a, b, e, f, g)

      pub others_go : MayGo m (cells_blocks (own two))
      others_go =
          let all : (q : ℕ) → 0 < times q (cells_blocks (own two)) → 0 < times q (cells_blocks old.cells.items.items) = λ q some. let a = sums q in omega (arith, a, some) in
          record {
            once = λ q. let a = sums q in let one = st.once q in let b = times_append q (blocks_of x) (cells_blocks old.cells.items.items) in omega (arith, a, one, b);
            live = λ q some. st.live q (all q some);
            unpinned = λ q some. st.unpinned q;
          }

      module _ (o : Live) (three : State) (cleared : Cleared m o two three) where
        same_callers : three.callers ≡ old.callers
        same_callers = cleared.same.callers ∙ taken.same.callers ∙ popped.same.callers

        same_blocks : three.blocks ≡ old.blocks
        same_blocks = cleared.same.blocks ∙ taken.same.blocks ∙ popped.same.blocks

        same_levels : three.levels ≡ old.levels
        same_levels = cleared.same.levels ∙ taken.same.levels ∙ popped.same.levels

        left_is : (q : ℕ) → times q (cells_blocks old.cells.items.items) ≡ times q (cells_blocks (beneath old ++ c.Datum d ∷ [])) + times q (cells_blocks (own two))
        left_is q =
            let a = sums q in
            let b = cells_blocks_append q (beneath old) (c.Datum d ∷ []) in
            let e = cells_blocks_one q (c.Datum d) in
            omega (arith, a, b, e)

        pub lost : three.callers.items.items ≡ [] → Becomes p l t (Err stop.Lost) m old
        lost none =
            let nothing : reverse old.callers.items.items ≡ [] = ap (λ w. reverse w.items.items) (sym same_callers) ∙ ap reverse none in
            let gs = no_frames p m old x t l told there st (reverse old.callers.items.items) t.frames (are_callers p m old x t l told there st) nothing in
            inr (line_stops p l t i.Return (s.Objects at_return.objects ∷ s.Datum at_return.value ∷ at_return.below) Stuck [] tt is at_return.split
            (λ r. ap (λ fs. returned fs (with_answers (stream [] r) (with_stack (s.Objects at_return.objects ∷ s.Datum at_return.value ∷ at_return.below) t)) at_return.value) gs))

        module _ (f : Caller) (cs : List Caller) (latest : three.callers.items.items ≡ cs ++ f ∷ []) where
          latest_is : reverse old.callers.items.items ≡ f ∷ reverse cs
          latest_is = ap (λ w. reverse w.items.items) (sym same_callers) ∙ ap reverse latest ∙ reverse-append cs (f ∷ [])

          pub levels_may : MayGo o (drop (first_block three.levels.items.items three.blocks.items.items f.level) three.blocks.items.items)
          levels_may =
              let ended : drop (first_block three.levels.items.items three.blocks.items.items f.level) three.blocks.items.items
              ≡ drop (first_block old.levels.items.items old.blocks.items.items f.level) old.blocks.items.items =
              ap (λ w. drop (first_block w.items.items three.blocks.items.items f.level) three.blocks.items.items) same_levels
              ∙ ap (λ w. drop (first_block old.levels.items.items w.items.items f.level) w.items.items) same_blocks in
              subst (λ bs. MayGo o bs) (sym (ended ∙ blocks_ended p m old x t st f.level))
              (levels_go p m old x t st f.level o (cells_blocks (own two)) (cells_blocks (beneath old ++ c.Datum d ∷ [])) left_is cleared.gone)

          -- what the state is
          module _ (n : Live) (new : State)
              (ended : Gone (drop (first_block three.levels.items.items three.blocks.items.items f.level) three.blocks.items.items) o n)
              (pc_is : new.pc ≡ f.pc) (cells_is : new.cells.items.items ≡ three.cells.items.items ++ c.Datum d ∷ []) (base_is : new.base ≡ f.base)
              (here_is : new.here ≡ f.here) (names_is : new.names.items.items ≡ take f.dummies.from three.names.items.items)
              (callers_is : new.callers.items.items ≡ cs) (statics_is : new.statics ≡ three.statics)
              (blocks_is : new.blocks.items.items ≡ take (first_block three.levels.items.items three.blocks.items.items f.level) three.blocks.items.items)
              (levels_is : new.levels.items.items ≡ take f.level three.levels.items.items) where
            first_same : first_block three.levels.items.items three.blocks.items.items f.level ≡ first_block old.levels.items.items old.blocks.items.items f.level
            first_same =
                ap (λ w. first_block w.items.items three.blocks.items.items f.level) same_levels
                ∙ ap (λ w. first_block old.levels.items.items w.items.items f.level) same_blocks

            blocks_so : new.blocks.items.items ≡ take (first_block old.levels.items.items old.blocks.items.items f.level) old.blocks.items.items
            blocks_so = blocks_is ∙ ap (λ j. take j three.blocks.items.items) first_same
                ∙ ap (λ w. take (first_block old.levels.items.items old.blocks.items.items f.level) w.items.items) same_blocks

            all_gone : Gone (cells_blocks (own two) ++ levels_rooms (drop f.level x.levels)) m n
            all_gone =
                let bs : drop (first_block three.levels.items.items three.blocks.items.items f.level) three.blocks.items.items ≡ levels_rooms (drop f.level x.levels) =
                ap (λ j. drop j three.blocks.items.items) first_same
                ∙ ap (λ w. drop (first_block old.levels.items.items old.blocks.items.items f.level) w.items.items) same_blocks
                ∙ blocks_ended p m old x t st f.level in
                gone_both (cells_blocks (own two)) (levels_rooms (drop f.level x.levels)) m o n cleared.gone (subst (λ zs. Gone zs o n) bs ended)

            kept : Kept m n (cells_blocks (beneath old ++ c.Datum d ∷ []))
            kept = kept_left p m old x t st f.level n (cells_blocks (own two)) (cells_blocks (beneath old ++ c.Datum d ∷ [])) left_is all_gone

            kept_less : (bs : List ℕ) → ((q : ℕ) → times q bs ≤ times q (cells_blocks (beneath old)) + times q (datum_blocks d)) → Kept m n bs
            kept_less bs less = kept_fewer m n (cells_blocks (beneath old ++ c.Datum d ∷ [])) bs
                (λ q. let a = less q in let b = cells_blocks_append q (beneath old) (c.Datum d ∷ []) in let e = cells_blocks_one q (c.Datum d) in omega (arith, a, b, e)) kept

            cells_so : new.cells.items.items ≡ beneath old ++ c.Datum d ∷ []
            cells_so =
                cells_is ∙ ap (λ zs. zs ++ c.Datum d ∷ [])
                (only_beneath three cleared.none ∙ cleared.same.beneath ∙ taken.same.beneath ∙ popped.same.beneath)

            module _ (bottom : f.base ≤ length (beneath old)) where
              own_so : own new ≡ c.Datum d ∷ cells_from f.base (beneath old)
              own_so =
                  ap (λ b. cells_from b new.cells.items.items) base_is ∙ ap (cells_from f.base) cells_so
                  ∙ ap reverse (drop-append-le f.base (beneath old) (c.Datum d ∷ []) bottom) ∙ reverse-append (drop f.base (beneath old)) (c.Datum d ∷ [])

              beneath_so : beneath new ≡ take f.base (beneath old)
              beneath_so =
                  ap (λ b. take b new.cells.items.items) base_is ∙ ap (take f.base) cells_so ∙ take-append-le f.base (beneath old) (c.Datum d ∷ []) bottom

            done_with : (gs : List s.Frame) → t.frames ≡ gs → AreCallers p m (beneath old) (f ∷ reverse cs) gs x ns → Becomes p l t (Ok tt) n new
            done_with [] frames are = absurd are
            done_with (g ∷ gs) frames are =
                let v = at_return.value in
                let k = f.level in
                let caller = are.0 in
                let ys = beneath old in
                let Old : Rooms → List Name → Type 0 = AreCallers p m (take f.base ys) (reverse cs) gs in
                let New : Rooms → List Name → Type 0 = AreCallers p n (take f.base ys) (reverse cs) gs in
                let inner : AreCells p n New (before_level x k) (take f.dummies.from ns) f.here g.here (cells_from f.base ys) g.stack =
                cells_stay p m n Old New
                (callers_stay p m n (take f.base ys) (reverse cs) gs (kept_less (cells_blocks (take f.base ys)) (λ q. let e = cells_blocks_split q f.base ys in omega (arith, e))))
                (before_level x k) (take f.dummies.from ns) f.here g.here (cells_from f.base ys) g.stack
                (kept_less (cells_blocks (cells_from f.base ys))
                (λ q. let e = cells_blocks_split q f.base ys in let h = cells_blocks_reverse q (drop f.base ys) in omega (arith, e, h))) are.1 in
                let value : IsDatum p n d v = datum_stays p m n d v (kept_less (datum_blocks d) (λ q. omega arith)) value_is in
                let stack : List s.Cell = s.Datum v ∷ g.stack in
                let zs : List Cell = c.Datum d ∷ cells_from f.base ys in
                let one : AreCells p n New (before_level x k) (take f.dummies.from ns) f.here g.here zs stack = (value, tt, inner) in
                let names_so : new.names.items.items ≡ take f.dummies.from ns =
                names_is ∙ ap (λ w. take f.dummies.from w.items.items) (cleared.same.names ∙ taken.same.names ∙ popped.same.names) in
                let two_ : AreCells p n New (before_level x k) new.names.items.items f.here g.here zs stack =
                subst (λ ms. AreCells p n New (before_level x k) ms f.here g.here zs stack) (sym names_so) one in
                let three_ : AreCells p n New (before_level x k) new.names.items.items new.here g.here zs stack =
                subst (λ h. AreCells p n New (before_level x k) new.names.items.items h g.here zs stack) (sym here_is) two_ in
                let four : AreCells p n New (before_level x k) new.names.items.items new.here g.here (own new) stack =
                subst (λ es. AreCells p n New (before_level x k) new.names.items.items new.here g.here es stack) (sym (own_so caller.bottom)) three_ in
                let five : AreCells p n (AreCallers p n (beneath new) (reverse cs) gs) (before_level x k) new.names.items.items new.here g.here (own new) stack =
                subst (λ es. AreCells p n (AreCallers p n es (reverse cs) gs) (before_level x k) new.names.items.items new.here g.here (own new) stack)
                (sym (beneath_so caller.bottom)) four in
                let six : AreCells p n (Beneath p n new gs) (before_level x k) new.names.items.items new.here g.here (own new) stack =
                subst (λ fs. AreCells p n (AreCallers p n (beneath new) fs gs) (before_level x k) new.names.items.items new.here g.here (own new) stack)
                (sym (ap reverse callers_is)) five in
                let r = (site_at p t.pc).returns in
                let ends : r ≡ told.fits.end =
                ends_same p m Rest p.types.items (site_at p) (Knows p.types.items t.here) (site_at p t.pc).scope r told.fits.end x ns old.here t.here (own old)
                (site_at p t.pc).cells t.stack st.stack told.fits.stack in
                let held : FramesHold p.types.items (site_at p) told.fits.end (g ∷ gs) =
                subst (λ fs. FramesHold p.types.items (site_at p) told.fits.end fs) frames told.fits.frames in
                let kinds : (site_at p g.pc).cells ≡ cell.Datum told.fits.end ∷ held.0 = held.3 in
                let below : AreKnown p held.0 (cells_from f.base ys) = subst (λ ks. AreKnown p (drop 1 ks) (cells_from f.base ys)) kinds caller.known in
                let shape : IsLaid p told.fits.end d = subst (λ j. IsLaid p j d) ends laid in
                let known : AreKnown p (site_at p g.pc).cells (own new) =
                subst (λ ks. AreKnown p ks (own new)) (sym kinds) (subst (λ es. AreKnown p (cell.Datum told.fits.end ∷ held.0) es) (sym (own_so caller.bottom)) (shape, below)) in
                let was : AreTight (AreCalled p ys (f ∷ reverse cs)) x.levels (length ns) (own old) =
                subst (λ fs. AreTight (AreCalled p ys fs) x.levels (length ns) (own old)) latest_is st.tight in
                let back = called_back p ys f (reverse cs) x.levels (length ns) (own old) was in
                let ends_at = caller.dummies in
                let size : length new.names.items.items ≡ f.dummies.from = ap length names_so ∙ length_cut f.dummies.from ns (omega (arith, ends_at)) in
                let tight_one : AreTight (AreCalled p (take f.base ys) (reverse cs)) (take k x.levels) (length new.names.items.items) zs =
                subst (λ j. AreTight (AreCalled p (take f.base ys) (reverse cs)) (take k x.levels) j zs) (sym size) back.2 in
                let tight_two : AreTight (AreCalled p (take f.base ys) (reverse cs)) (take k x.levels) (length new.names.items.items) (own new) =
                subst (λ es. AreTight (AreCalled p (take f.base ys) (reverse cs)) (take k x.levels) (length new.names.items.items) es) (sym (own_so caller.bottom)) tight_one in
                let tight : AreTight (AreCalled p (beneath new) (reverse new.callers.items.items)) (take k x.levels) (length new.names.items.items) (own new) =
                subst (λ es. AreTight (AreCalled p es (reverse new.callers.items.items)) (take k x.levels) (length new.names.items.items) (own new)) (sym (beneath_so caller.bottom))
                (subst (λ fs. AreTight (AreCalled p (take f.base ys) fs) (take k x.levels) (length new.names.items.items) (own new)) (sym (ap reverse callers_is)) tight_two) in
                let order_one : IsOrderly p f.pc f.dummies.from f.here zs = back.1 in
                let order_two : IsOrderly p f.pc f.dummies.from f.here (own new) =
                subst (λ es. IsOrderly p f.pc f.dummies.from f.here es) (sym (own_so caller.bottom)) order_one in
                let order_three : IsOrderly p f.pc (length new.names.items.items) new.here (own new) =
                subst (λ h. IsOrderly p f.pc (length new.names.items.items) h (own new)) (sym here_is)
                (subst (λ j. IsOrderly p f.pc j f.here (own new)) (sym size) order_two) in
                let orderly : IsOrderly p g.pc (length new.names.items.items) new.here (own new) =
                subst (λ j. IsOrderly p j (length new.names.items.items) new.here (own new)) (sym caller.pc) order_three in
                let store : Store = record { statics = t.world.store.statics; levels = take g.level t.world.store.levels } in
                let u : s.State = record { pc = g.pc; stack = stack; here = g.here; frames = gs; world = answering store t.world.answers } in
                let top : List s.Cell = s.Objects at_return.objects ∷ s.Datum v ∷ at_return.below in
                record {
                  next = u;
                  rooms = before_level x k;
                  goes = line_goes p l t i.Return top u [] tt (Ended g.level ∷ []) is at_return.split
                      (λ rest. ap (λ fs. returned fs (with_answers (stream [] rest) (with_stack top t)) v) frames
                      ∙ performs_does (λ z. Ended g.level ∷ []) (answering t.world.store rest)
                      (λ done w. record { pc = g.pc; stack = stack; here = g.here; frames = gs; world = w }));
                  stands = left_stands p m old x t st k n new u (record {
                    went = cells_blocks (own two);
                    counts = λ q. left_is q ∙ ap (λ es. times q (cells_blocks es) + times q (cells_blocks (own two))) (sym cells_so);
                    gone = all_gone;
                    blocks = blocks_so;
                    levels = levels_is ∙ ap (λ w. take k w.items.items) same_levels;
                    statics = statics_is ∙ cleared.same.statics ∙ taken.same.statics ∙ popped.same.statics;
                    store = ap (λ j. let z : Store = record { statics = t.world.store.statics; levels = take j t.world.store.levels } in z) caller.level;
                    pc = caller.pc ∙ sym pc_is;
                    bottom =
                        let e : length new.cells.items.items ≡ length ys + 1 = ap length cells_so ∙ length-append ys (c.Datum d ∷ []) in
                        let b = caller.bottom in
                        let h = base_is in
                        omega (arith, e, b, h);
                    known = known;
                    stack = six;
                    orderly = orderly;
                    tight = tight;
                  });
                }

            pub return_do : Becomes p l t (Ok tt) n new
            return_do = done_with t.frames refl (subst (λ fs. AreCallers p m (beneath old) fs t.frames x ns) latest_is (are_callers p m old x t l told there st))
