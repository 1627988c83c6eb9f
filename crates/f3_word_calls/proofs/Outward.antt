-- Where a procedure was called.
use Rattle.std.proofs.Common.{◌≡◌, ◌∙◌, ℕ, ◌+◌, Bool, List, [], ◌∷◌, length, reverse, take, inr, refl, sym, ap, subst, arith}
use Rattle.std.specs.Prelude.{Ok, Err, Some, slice_get}
use Rattle.f3_places.specs.declared.source.Place.{Place}
use Rattle.f3_program.specs.declared.program.Program.{Program}
use Rattle.f3_live_blocks.specs.Blocks.{Live}
use Rattle.f3_meaning_whole.specs.Act as m
use Rattle.f3_meaning_whole.specs.Act.{passed_at}
use Rattle.f3_code.specs.Exec.{is_held}
use Rattle.f3_code.specs.Machine.{outward, passed_in}
use Rattle.f3_code.specs.Heap.{with_answers}
use Rattle.f3_code.specs.declared.instruction.Instruction.TheVariants as i
use Rattle.f3_code.specs.State.{Line, Goes, Stays, Stuck}
use Rattle.f3_code.specs.State as s
use Rattle.f3_cell_kinds.proofs.Standing.{in_is}
use Rattle.f3_cell_kinds.specs.Kinds.{Leads}
use Rattle.f3_cell_kinds.specs.Types.{CellType, Scope, Untold}
use Rattle.f3_cell_kinds.specs.Types as cell
use Rattle.f3_cell_kinds.specs.Laws.{site_at}
use Rattle.f3_rooms.specs.Rooms.{Rooms}
use Rattle.f3_rooms.specs.Laws.{before_level}
use Rattle.f3_word_cells.specs.declared.cell.Here.{Here}
use Rattle.f3_word_cells.specs.declared.cell.Cell.{Cell}
use Rattle.f3_word_cells.specs.declared.cell.Cell.TheVariants as c
use Rattle.f3_word_cells.specs.declared.state.Name.{Name}
use Rattle.f3_word_cells.specs.declared.state.Caller.{Caller}
use Rattle.f3_word_cells.specs.declared.state.State.{State}
use Rattle.f3_word_cells.specs.declared.state.Stop.TheVariants as stop
use Rattle.f3_word_cells.specs.Cells.{AreCells, IsHere}
use Rattle.f3_word_cells.specs.Scenes.{code_of}
use Rattle.f3_word_cells.specs.States.{AreCalled, AreCallers, AreKnown, AreTight, Stands, beneath, own}
use Rattle.f3_word_cells.specs.Moves.{Pushed}
use Rattle.f3_word_cells.specs.Does.{Becomes, IsTold}
use Rattle.f3_word_cells.proofs.OnTop.{line_kinds}
use Rattle.f3_word_cells.proofs.Within.{elsewhere, first_taken, here_stands, here_within, rooms_before}
use Rattle.f3_word_cells.proofs.Known.{known_pushed}
use Rattle.f3_word_cells.proofs.Moving.{Beneath, IsSameElse, moved_to, stands_at}
use Rattle.f3_word_cells.proofs.Lines.{line_goes, line_stops}
use Rattle.f3_word_calls.specs.Nexts.{is_passed_held}
use Rattle.f3_word_calls.proofs.Beneath.{callers_stand}
use Rattle.f3_word_calls.proofs.Tight.{orderly_untold}

-- at another place
abbrev pub placed_at : Place → Here → Here
placed_at q h = record h { place = q }

here_at : (p : Program) (x : Rooms) (ns : List Name) (h : Here) (here : m.Here) (q : Place) → IsHere p x ns h here → IsHere p x ns (placed_at q h) (m.at q here)
here_at p x ns h here q is = record {
  place = refl;
  unit = is.unit;
  level = is.level;
  variables = is.variables;
  names = is.names;
  selected = is.selected;
  room = is.room;
  stands = is.stands;
  declared = is.declared;
}

module _ (p : Program) (live : Live) where
  -- where the latest caller stands
  pub outer_stands : (ys : List Cell) (f : Caller) (fs : List Caller) (g : s.Frame) (gs : List s.Frame) (y : Rooms) (ms : List Name)
      → AreCallers p live ys (f ∷ fs) (g ∷ gs) y ms → IsHere p y ms (placed_at f.place f.here) g.caller
  outer_stands ys f fs g gs y ms are =
      let inner = here_stands p live (AreCallers p live (take f.base ys) fs gs) (before_level y f.level) (take f.dummies.from ms) f.here g.here _ g.stack are.1 in
      let outer = here_within p (before_level y f.level) y (rooms_before y f.level) (take f.dummies.from ms) ms (first_taken f.dummies.from ms) f.here g.here inner in
      subst (λ o. IsHere p y ms (placed_at f.place f.here) o) (sym are.0.caller) (here_at p y ms f.here g.here f.place outer)

  -- which arguments of the latest call are held
  pub passed_is : (ys : List Cell) (fs : List Caller) (gs : List s.Frame) (y : Rooms) (ms : List Name) (k : ℕ) → AreCallers p live ys fs gs y ms
      → is_held (passed_at k (passed_in gs)) ≡ is_passed_held fs ms k
  passed_is ys [] [] y ms k are = refl
  passed_is ys [] (g ∷ gs) y ms k are = absurd are
  passed_is ys (f ∷ fs) [] y ms k are = absurd are
  passed_is ys (f ∷ fs) (g ∷ gs) y ms k are = are.0.arguments k

-- in whatever state with the same callers and names
pub held_now : (fs gs : List Caller) (ns ms : List Name) (k : ℕ) (b d e : Bool) → gs ≡ fs → ms ≡ ns → b ≡ is_passed_held fs ns k
    → d ≡ is_passed_held gs ms k → d ≡ e → b ≡ e
held_now fs gs ns ms k b d e callers names is now so =
    is ∙ ap (λ zs. is_passed_held zs ns k) (sym callers) ∙ ap (λ zs. is_passed_held gs zs k) (sym names) ∙ sym now ∙ so

module _ (p : Program) (live : Live) (old : State) (x : Rooms) (t : s.State) (l : Line) (told : IsTold p t)
    (there : slice_get (code_of p).lines t.pc ≡ Some l) (st : Stands p live old x t) where
  -- the callers
  pub are_callers : AreCallers p live (beneath old) (reverse old.callers.items.items) t.frames x old.names.items.items
  are_callers =
      callers_stand p live (beneath old) (reverse old.callers.items.items) t.frames x old.names.items.items old.here t.here (own old) t.stack st.stack

  pub no_frames : (fs : List Caller) (gs : List s.Frame) → AreCallers p live (beneath old) fs gs x old.names.items.items → fs ≡ [] → gs ≡ []
  no_frames [] [] are e = refl
  no_frames [] (g ∷ gs) are e = absurd are
  no_frames (f ∷ fs) gs are e = absurd (cc)

  pub outward_lost : l.act ≡ i.Outward → reverse old.callers.items.items ≡ [] → Becomes p l t (Err stop.Lost) live old
  outward_lost is none =
      let gs = no_frames (reverse old.callers.items.items) t.frames are_callers none in
      inr (line_stops p l t i.Outward t.stack Stuck [] tt is refl (λ r. ap (λ fs. outward fs (with_answers r t)) gs))

  module _ (f : Caller) (others : List Caller) (latest : reverse old.callers.items.items ≡ f ∷ others) (new : State) (is : l.act ≡ i.Outward)
      (pushed : Pushed (c.Objects old.here.names) (old.pc + 1) (record old { here = placed_at f.place f.here }) new) where
    outward_with : (gs : List s.Frame) → t.frames ≡ gs → AreCallers p live (beneath old) (f ∷ others) gs x old.names.items.items → Becomes p l t (Ok tt) live new
    outward_with [] frames are = absurd are
    outward_with (g ∷ gs) frames are =
        let Rest : Rooms → List Name → Type 0 = Beneath p live old t.frames in
        let ns = old.names.items.items in
        let k : Here = placed_at f.place f.here in
        let stands : (y : Rooms) (ms : List Name) → Rest y ms → IsHere p y ms k g.caller = λ y ms rest.
        outer_stands p live (beneath old) f others g gs y ms
        (subst (λ zs. AreCallers p live (beneath old) (f ∷ others) zs y ms) frames
        (subst (λ zs. AreCallers p live (beneath old) zs t.frames y ms) latest rest)) in
        let cells : AreCells p live Rest x ns k g.caller (own old) t.stack =
        elsewhere p live Rest k g.caller stands x ns old.here t.here (own old) t.stack st.stack in
        let names = (here_stands p live Rest x ns old.here t.here (own old) t.stack st.stack).names in
        let site = site_at p t.pc in
        let Led : Scope → Type 0 = λ o. Leads (site_at p) t.pc (record { takes = []; next = Some (record { scope = Untold; left = cell.Objects o.names ∷ [] }); far = [] }) in
        let lead = in_is site.scope Led (line_kinds p t l i.Outward told there is) in
        let leads = lead.2 in
        let kinds : (site_at p (t.pc + 1)).cells ≡ cell.Objects (lead.0).names ∷ leads.rest = ap (λ z. z.cells) leads.next in
        let before : AreKnown p leads.rest (own old) = subst (λ ks. AreKnown p ks (own old)) leads.before st.known in
        let known : AreKnown p (cell.Objects (lead.0).names ∷ leads.rest) (own new) =
        known_pushed p (cell.Objects (lead.0).names) leads.rest (c.Objects old.here.names) (old.pc + 1) (record old { here = k }) new before pushed tt in
        let stack : List s.Cell = s.Objects t.here.names ∷ t.stack in
        let other = pushed.same in
        let same : IsSameElse old new = record {
          names = other.names;
          callers = other.callers;
          statics = other.statics;
          blocks = other.blocks;
          levels = other.levels;
          beneath = other.beneath;
          bottom = other.bottom;
        } in
        record {
          next = moved_to t (t.pc + 1) stack g.caller t.world;
          rooms = x;
          goes = line_goes p l t i.Outward t.stack (moved_to t (t.pc + 1) stack g.caller t.world) [] tt [] is refl
              (λ r. ap (λ fs. outward fs (with_answers r t)) frames);
          stands = stands_at p live old new x t (t.pc + 1) stack g.caller st same (ap (λ n. n + 1) st.pc ∙ sym pushed.pc)
              (subst (λ ks. AreKnown p ks (own new)) (sym kinds) known)
              (subst (λ (h : Here). AreCells p live Rest x ns h g.caller (own new) stack) (sym pushed.same.here)
              (subst (λ (zs : List Cell). AreCells p live Rest x ns k g.caller zs stack) (sym pushed.cells) (names, tt, cells)))
              (orderly_untold p (t.pc + 1) (length ns) new.here (own new) (ap (λ z. z.scope) leads.next))
              (subst (λ zs. AreTight (AreCalled p (beneath old) (reverse old.callers.items.items)) x.levels (length ns) zs) (sym pushed.cells) st.tight)
              (λ q. let e = pushed.blocks q in omega (arith, e));
        }

    pub outward_do : Becomes p l t (Ok tt) live new
    outward_do =
        outward_with t.frames refl (subst (λ zs. AreCallers p live (beneath old) zs t.frames x old.names.items.items) latest are_callers)
