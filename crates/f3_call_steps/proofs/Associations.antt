-- An ASSOCIATE begins and ends.
use Rattle.std.proofs.Common.{◌≡◌, ℕ, ◌+◌, List, [], ◌∷◌, length, map, refl, sym, ap, ◌∙◌, subst}
use Rattle.std.specs.Prelude.{⊤, Result, Ok, Err, Vec}
use Rattle.std.specs.declared.alloc.Global.{Global}
use Rattle.f3_places.specs.declared.source.Place.{Place}
use Rattle.f3_program.specs.declared.program.Program.{Program}
use Rattle.f3_meaning_whole.specs.Value as m
use Rattle.f3_meaning_whole.specs.Store as st
use Rattle.f3_meaning_whole.specs.Reference as r
use Rattle.f3_meaning_whole.specs.Ran.{World, Entered, Ended, effect, looks, does, gives, ◌>>=◌}
use Rattle.f3_meaning_whole.specs.Act.{enter, leave, associating}
use Rattle.f3_meaning_whole.specs.Exec as x
use Rattle.f3_code.specs.declared.instruction.Instruction.TheVariants.{Associate, EndAssociate}
use Rattle.f3_code.specs.State.{Next, Goes}
use Rattle.f3_code.specs.State as s
use Rattle.f3_code.specs.Machine.{on, on_many, on_objects, on_going, on_level, selector_of, performs, stuck}
use Rattle.f3_data.specs.Stores.{store_of}
use Rattle.f3_cells.specs.declared.cell.Association.{Association}
use Rattle.f3_cells.specs.declared.cell.Cell.{Cell}
use Rattle.f3_cells.specs.declared.cell.Cell.TheVariants as c
use Rattle.f3_cells.specs.declared.cell.Flow.{Flow}
use Rattle.f3_cells.specs.declared.scene.Scene.{Scene}
use Rattle.f3_cells.specs.declared.state.State.{State}
use Rattle.f3_cells.specs.declared.state.Stop.{Stop}
use Rattle.f3_cells.specs.declared.state.Stop.TheVariants as stop
use Rattle.f3_cells.specs.Cells.{cells_of, here_of, association_of, flow_of}
use Rattle.f3_cells.specs.States.{state_of, world_of, granted}
use Rattle.f3_cells.specs.Follows.{Follows, Does, DoesThere}
use Rattle.f3_cells.specs.Moves.{OnWith}
use Rattle.f3_cells.specs.Popped.{PoppedMany}
use Rattle.f3_call_steps.specs.Inner.Associating.{Associates, within, LeftWith}

-- ---- the end

left_is : (level : ℕ) (store : st.Store) (next : ⊤ → World → s.State) → performs (leave level) (record { store = store; answers = granted }) next
    ≡ Goes (Ended level ∷ []) (next tt (record { store = effect (Ended level) store; answers = granted }))
unfolding does
left_is level store next = refl

pub left_so : (level : ℕ) (flow : Flow) (r : Result ⊤ Stop) (old mid new : State) → mid ≡ record old { store = mid.store }
    → store_of mid.store ≡ effect (Ended level) (store_of old.store) → OnWith (c.Going flow) r mid new → LeftWith level flow r old new
left_so level flow (Ok done) old mid new same store went = λ p code place. (
  Ended level ∷ [],
  left_is level (store_of old.store) (λ done. on (state_of p old) (s.Going (flow_of flow) ∷ cells_of p old.stack.items))
      ∙ ap (λ left. Goes (Ended level ∷ []) (on (state_of p old) (s.Going (flow_of flow) ∷ cells_of p old.stack.items) (record {
        store = left;
        answers =
            granted;
      }))) (sym store)
      ∙ ap (λ (t : State). Goes (Ended level ∷ []) (on (state_of p t) (s.Going (flow_of flow) ∷ cells_of p t.stack.items) (world_of mid.store))) (sym same)
      ∙ ap (Goes (Ended level ∷ [])) (sym (went p)),
  refl,
)
left_so level flow (Err stop.Memory) old mid new same store went = λ p code place. tt
left_so level flow (Err stop.Done) old mid new same store went = absurd went
left_so level flow (Err (stop.Stopped number)) old mid new same store went = absurd went
left_so level flow (Err (stop.Failed error)) old mid new same store went = absurd went
left_so level flow (Err stop.Stuck) old mid new same store went = absurd went
left_so level flow (Err stop.Lost) old mid new same store went = absurd went
left_so level flow (Err stop.Refused) old mid new same store went = absurd went

-- what the instruction does
abbrev ending : Program → State → List s.Cell → Next
ending p old cells = on_objects cells (λ rs st. on_going st (λ flow st. on_level st (λ level rs st. performs (leave level) (world_of old.store)
    (λ done. on (state_of p old) (s.Going flow ∷ st)))))

abbrev leaving : Program → State → x.Flow → List s.Cell → Next
leaving p old flow cells = on_level cells (λ level rs st. performs (leave level) (world_of old.store) (λ done. on (state_of p old) (s.Going flow ∷ st)))

module _ (old : State) (one : Vec Cell Global) (rs : List r.Reference) (objects : (p : Program) → cells_of p old.stack.items
    ≡ s.Objects rs ∷ cells_of p one.items) where
  pub no_flow : (new : State) → ((p : Program) (f : x.Flow → List s.Cell → Next) → on_going (cells_of p one.items) f ≡ stuck)
      → Does EndAssociate (Err stop.Stuck) old new
  no_flow new none = λ p limit g code v here. ([], ap (ending p old) (objects p) ∙ none p (leaving p old), refl)

  module _ (two : Vec Cell Global) (flow : Flow) (going : (p : Program) → cells_of p one.items ≡ s.Going (flow_of flow) ∷ cells_of p two.items) where
    there : (p : Program) → ending p old (cells_of p old.stack.items) ≡ leaving p old (flow_of flow) (cells_of p two.items)
    there p = ap (ending p old) (objects p) ∙ ap (λ cells. on_going cells (leaving p old)) (going p)

    pub no_level : (new : State) → ((p : Program) (f : ℕ → List r.Reference → List s.Cell → Next) → on_level (cells_of p two.items) f ≡ stuck)
        → Does EndAssociate (Err stop.Stuck) old new
    no_level new none = λ p limit g code v here. (
      [],
      there p
          ∙ none p (λ level rs st. performs (leave level) (world_of old.store) (λ done. on (state_of p old) (s.Going (flow_of flow) ∷ st))),
      refl,
    )

    pub ends : (three : Vec Cell Global) (level : ℕ) (qs : List r.Reference) (result : Result ⊤ Stop) (new : State)
        → ((p : Program) → cells_of p two.items ≡ s.Level level qs ∷ cells_of p three.items)
        → LeftWith level flow result (record old { stack = three }) new → Does EndAssociate result old new
    ends three level qs result new levels left = λ p limit g code v here.
        subst (λ next. Follows code next result (state_of p new) here.place) (sym (there p
        ∙ ap (leaving p old (flow_of flow)) (levels p))) (left p code here.place)

-- ---- the beginning

begins_is : (found : List x.Association) (store : st.Store) (next : ℕ → World → s.State)
    → performs (looks (λ store. length store.levels) >>= λ level. enter (x.held_by found) >>= λ done. gives level) (record {
      store = store;
      answers =
          granted;
    }) next
    ≡ Goes (Entered (x.held_by found) ∷ []) (next (length store.levels) (record { store = effect (Entered (x.held_by found)) store; answers = granted }))
unfolding ◌>>=◌ looks gives does
begins_is found store next = refl

module _ (scene : Scene) (count : ℕ) (v : m.Value) (place : Place) (old : State) where
  -- what follows the selectors
  abbrev follows : List x.Association → List s.Cell → Next
  follows found stack = performs (looks (λ store. length store.levels) >>= λ level. enter (x.held_by found) >>= λ done. gives level) (world_of old.store)
      (λ level w. record {
        pc = old.pc + 1;
        stack = s.Outside (here_of scene.program.now old.here) ∷ s.Level level (x.associates found level 0 old.here.unit) ∷ stack;
        here = associating (x.associates found level 0 old.here.unit) (here_of scene.program.now old.here);
        frames = (state_of scene.program.now old).frames;
        world = w;
      })

  pub no_selectors : (e : Stop) (new : State) (stack : List Cell) → PoppedMany association_of selector_of count (Err e) old.stack.items stack
      → DoesThere scene (Associate count) v place (Err e) old new
  no_selectors stop.Stuck new stack none = ([], none scene.program.now follows, refl)
  no_selectors stop.Memory new stack none = tt
  no_selectors stop.Done new stack none = absurd none
  no_selectors (stop.Stopped number) new stack none = absurd none
  no_selectors (stop.Failed error) new stack none = absurd none
  no_selectors stop.Lost new stack none = absurd none
  no_selectors stop.Refused new stack none = absurd none

  pub begins : (found : List Association) (stack : Vec Cell Global) (new : State)
      → ((p : Program) (f : List x.Association → List s.Cell → Next) → on_many selector_of count [] (cells_of p old.stack.items) f
      ≡ f (map association_of found) (cells_of p stack.items))
      → Associates found (record old { stack = stack }) new → DoesThere scene (Associate count) v place (Ok tt) old new
  begins found stack new popped begun =
      let p = scene.program.now in (
        Entered (x.held_by (map association_of found)) ∷ [],
        popped p follows
            ∙ begins_is (map association_of found) (store_of old.store) (λ level w. within (state_of p (record old { stack = stack })) level (x.associates
            (map association_of found) level 0 old.here.unit) w)
            ∙ ap (Goes (Entered (x.held_by (map association_of found)) ∷ [])) (sym (begun p)),
        refl,
      )
