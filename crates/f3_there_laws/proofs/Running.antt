-- In each state of a run without allocatables everything is there.
use Rattle.std.proofs.Common.{◌≡◌, ◌∙◌, sym, ap, ℕ, zero, suc, ◌<◌, Bool, true, false, List, [], ◌∷◌, map, length, Option, Some, None, refl, subst, arith, ◌⊎◌, inl, inr}
use Rattle.std.specs.Prelude.{slice_get, slice_index_or}
use Rattle.f3_program.specs.declared.declarations.Base.TheVariants as base
use Rattle.f3_program.specs.declared.declarations.Component as m
use Rattle.f3_program.specs.declared.declarations.Declared.{Declared}
use Rattle.f3_program.specs.declared.declarations.Derived.{Derived}
use Rattle.f3_program.specs.declared.declarations.Kind.{Kind}
use Rattle.f3_program.specs.declared.program.Procedure.{Procedure}
use Rattle.f3_program.specs.declared.program.Program.{Program}
use Rattle.f3_program.specs.declared.program.Static.{Static}
use Rattle.f3_meaning_whole.specs.Value.{Value}
use Rattle.f3_meaning_whole.specs.Store.{Store, Path}
use Rattle.f3_meaning_whole.specs.Reference.{Reach, One, Many, Reference, paths_by}
use Rattle.f3_meaning_whole.specs.Ran.{Event, World, End, Gives, Fails, Stops, Beyond, ◌>>=◌}
use Rattle.f3_meaning_whole.specs.Act.{Setting, Passed, Given, Lent, claim, enter, derived_of, components_of}
use Rattle.f3_meaning_whole.specs.Exec.{declared_in}
use Rattle.f3_meaning_whole.specs.Formed as formed
use Rattle.f3_meaning_whole.specs.Formed.{IsWellFormed}
use Rattle.f3_meaning_whole.specs.Shape.{Shape, Whole, Logical, Record, Parts, nothing, and, shapes_of}
use Rattle.f3_code.specs.Code.{program_code}
use Rattle.f3_code.specs.Core as core
use Rattle.f3_code.specs.CoreRun.{core_setting, core_here, core_world}
use Rattle.f3_code.specs.Lower.{lowered_program}
use Rattle.f3_code.specs.Machine.{step, does_line, ends_so}
use Rattle.f3_code.specs.Run.{start}
use Rattle.f3_code.specs.State as state
use Rattle.f3_code.specs.State.{Line, Entry, Code, Cell, State, Next, Goes}
use Rattle.f3_heights.specs.Room.{state_next, state_run, state_after}
use Rattle.f3_cell_kinds.specs.Holds.{Fits}
use Rattle.f3_cell_kinds.specs.Laws.{site_at}
use Rattle.f3_cell_kinds.specs.Sense.{MakesSense}
use Rattle.f3_cell_kinds.specs.Stands.{Stands}
use Rattle.f3_cell_kinds.specs.Types.{CellType}
use Rattle.f3_cell_kinds.specs.Types as cell
use Rattle.f3_cell_kinds.proofs.Asked.{some_same, and_is, not_is}
use Rattle.f3_cell_kinds.proofs.Initials.{PartsFit, tree_is}
use Rattle.f3_cell_kinds.proofs.OfProgram.{code_has_kinds}
use Rattle.f3_cell_kinds.proofs.Parting.{component_found}
use Rattle.f3_cell_kinds.proofs.ReadingSteps.{standing_steps_hold}
use Rattle.f3_store_kinds.specs.Accords.{declared_kinds, Accords}
use Rattle.f3_store_kinds.specs.Laws.{first_typing}
use Rattle.f3_store_kinds.specs.There.{PathThere, AllThere, ReachThere, PassedThere, CellThere, CellsThere}
use Rattle.f3_store_kinds.specs.Typing.{Typing, AreLevels, IsTyped}
use Rattle.f3_store_kinds.proofs.Running.{start_accords, code_begins, code_is_clean}
use Rattle.f3_store_kinds.proofs.Standing.{parts_stand, runs_accord}
use Rattle.f3_rooms.specs.Flat.{is_flat, are_flat}
use Rattle.f3_there_laws.specs.Laws.{PlainPartsAreThere, PlainRunsAccord}
use Rattle.f3_there_laws.specs.Plain.{HasNoAllocatables}
use Rattle.f3_there_laws.proofs.Forms.{AreFlat}
use Rattle.f3_there_laws.proofs.Roots.{AllSet, LevelsSet, RootsSet, all_set}
use Rattle.f3_there_laws.proofs.Everywhere.{AllAre, CellIs, PassedIs, StackIs, FramesAre, Beneath, IsWhole}
use Rattle.f3_there_laws.proofs.Holding.{Keeps, stays_so}
use Rattle.f3_there_laws.proofs.Stepping.{act_whole}

-- ---- what no allocatables mean

flat_at : (xs : List Shape) → ((k : ℕ) (d : Shape) → k < length xs → is_flat (slice_index_or xs k d) ≡ true) → (k : ℕ) → is_flat (slice_index_or xs k Whole) ≡ true
flat_at [] f k = refl
flat_at (x ∷ xs) f zero = f 0 x (omega arith)
flat_at (x ∷ xs) f (suc k) = flat_at xs (λ j d less. f (suc j) d (omega (arith, less))) k

flat_parts : (s : Shape) → is_flat s ≡ true → are_flat (components_of s) ≡ true
flat_parts Whole e = refl
flat_parts Logical e = refl
flat_parts (Record t parts) e = e

part_flat : (types : List Derived) (cs : List m.Component) (parts : Parts) (n : ℕ) (c : m.Component) → PartsFit types cs parts → are_flat parts ≡ true → slice_get cs n ≡ Some c →
    c.declared.kind.is_allocatable ≡ false
part_flat types [] parts n c h e f = cc
part_flat types (x ∷ cs) nothing n c h e f = absurd h
part_flat types (x ∷ cs) (and z s rest) zero c h e f =
    let same : z ≡ c = h.0 ∙ some_same f in
    subst (λ (y : m.Component). y.declared.kind.is_allocatable ≡ false) same (not_is _ (and_is _ _ e).0)
part_flat types (x ∷ cs) (and z s rest) (suc n) c h e f = part_flat types cs rest n c h.2 (and_is _ _ (and_is _ _ e).1).1 f

are_flat_types : (p : Program) → HasNoAllocatables p → IsWellFormed p → MakesSense p → AreFlat p.types.items
are_flat_types p plain formed sense (base.Derived t) n c e =
    let f = component_found (derived_of p.types.items (base.Derived t)) n c e in
    let tree : Shape = slice_index_or (shapes_of p.types.items) t Whole in
    part_flat p.types.items f.0.components.items (components_of tree) n c (tree_is p formed sense t f.0 f.1) (flat_parts tree (flat_at (shapes_of p.types.items) plain.types t)) f.2
are_flat_types p plain formed sense base.Integer n c e = cc
are_flat_types p plain formed sense base.Long n c e = cc
are_flat_types p plain formed sense base.Logical n c e = cc

kinds_plain : (ds : List Declared) → ((k : ℕ) (d : Declared) → k < length ds → (slice_index_or ds k d).kind.is_allocatable ≡ false) → (i : ℕ) (k : Kind) →
    slice_get (declared_kinds ds) i ≡ Some k → k.is_allocatable ≡ false
kinds_plain [] f i k e = cc
kinds_plain (d ∷ ds) f zero k e = subst (λ (z : Kind). z.is_allocatable ≡ false) (some_same e) (f 0 d (omega arith))
kinds_plain (d ∷ ds) f (suc i) k e = kinds_plain ds (λ j y less. f (suc j) y (omega (arith, less))) i k e

statics_plain : (ys : List Static) → ((k : ℕ) (d : Declared) → k < length (map (λ (y : Static). y.declared) ys) → (slice_index_or (map (λ (y : Static). y.declared) ys) k d).kind.is_allocatable ≡ false) →
    (i : ℕ) (k : Kind) → slice_get (map (λ (y : Static). y.declared.kind) ys) i ≡ Some k → k.is_allocatable ≡ false
statics_plain [] f i k e = cc
statics_plain (y ∷ ys) f zero k e = subst (λ (z : Kind). z.is_allocatable ≡ false) (some_same e) (f 0 y.declared (omega arith))
statics_plain (y ∷ ys) f (suc i) k e = statics_plain ys (λ j d less. f (suc j) d (omega (arith, less))) i k e

-- ---- cells of which everything is there

module _ (store : Store) where
  all_there : (Q : Path → Type 0) → ((q : Path) → Q q → PathThere store q) → (ps : List Path) → AllAre Q ps → AllThere store ps
  all_there Q f [] h = tt
  all_there Q f (p ∷ ps) h = (f p h.0, all_there Q f ps h.1)

  reach_there : (Q : Path → Type 0) → ((q : Path) → Q q → PathThere store q) → (k : Kind) (p : Path) (reach : Reach) → AllAre Q (paths_by p reach) → ReachThere store k p reach
  reach_there Q f k p One h = inr (f p h.0)
  reach_there Q f k p (Many ss ps) h = all_there Q f ps h

  passed_there : (Q : Path → Type 0) → ((q : Path) → Q q → PathThere store q) → (x : formed.Given) (y : Passed) → PassedIs Q y → PassedThere store x y
  passed_there Q f x (Given n v) h = tt
  passed_there Q f x (Lent n r) h = reach_there Q f x.kind r.path r.reach h

  cell_there : (Q : Path → Type 0) → ((q : Path) → Q q → PathThere store q) → (x : CellType) (c : Cell) → CellIs Q c → CellThere store x c
  cell_there Q f (cell.Object k) (state.Object r) h = reach_there Q f k r.path r.reach h
  cell_there Q f (cell.Argument x) (state.Argument y) h = passed_there Q f x y h
  cell_there Q f x c h = tt

  cells_there : (Rest : (Path → Type 0) → Type 0) (Q : Path → Type 0) → ((q : Path) → Q q → PathThere store q) → (names : List Reference) (xs : List CellType) (cs : List Cell) →
      StackIs Rest Q names cs → CellsThere store xs cs
  cells_there Rest Q f names [] cs h = tt
  cells_there Rest Q f names (x ∷ xs) [] h = tt
  cells_there Rest Q f names (x ∷ xs) (state.Outside outer ∷ below) h = (cell_there Q f x (state.Outside outer) tt, cells_there Rest Q f outer.names xs below h.1)
  cells_there Rest Q f names (x ∷ xs) (state.Level from rs ∷ below) h =
      (cell_there Q f x (state.Level from rs) tt, cells_there Rest (Beneath from Q) (λ q k. f q k.1) names xs below h.1)
  cells_there Rest Q f names (x ∷ xs) (c ∷ below) h = (cell_there Q f x c h.0, cells_there Rest Q f names xs below h.1)

whole_there : (xs : List CellType) (s : State) → IsWhole s → CellsThere s.world.store xs s.stack
whole_there xs s h = cells_there s.world.store (FramesAre s.frames) (PathThere s.world.store) (λ q k. k) s.here.names xs s.stack h.stack

-- ---- the last of some instructions

-- a state before, and what leads on from there
record Last (limit : ℕ) (w : Setting) (code : Code) (At : State → Type 0) (t : State) : Type 0 where
  before : State
  out : List Event
  at : At before
  leads : step limit w code before ≡ Goes out t

module _ (limit : ℕ) (w : Setting) (code : Code) where
  run_last : (k : ℕ) (s t : State) → state_run limit w code (suc k) s ≡ Some t → Last limit w code (λ u. state_run limit w code k s ≡ Some u) t
  run_last zero s t e = by_next (step limit w code s) refl e
    where
      by_next : (x : Next) → step limit w code s ≡ x → state_next x (state_run limit w code 0) ≡ Some t → Last limit w code (λ u. state_run limit w code 0 s ≡ Some u) t
      by_next (Goes out u) is e = record { before = s; out = out; at = refl; leads = is ∙ ap (λ v. Goes out v) (some_same e) }
      by_next (state.Stays out halt) is e = cc
  run_last (suc k) s t e = by_next (step limit w code s) refl e (λ u h. run_last k u t h)
    where
      by_next : (x : Next) → step limit w code s ≡ x → state_next x (state_run limit w code (suc k)) ≡ Some t →
          ((u : State) → state_run limit w code (suc k) u ≡ Some t → Last limit w code (λ v. state_run limit w code k u ≡ Some v) t) →
          Last limit w code (λ u. state_run limit w code (suc k) s ≡ Some u) t
      by_next (Goes out u) is e go =
          let r = go u e in
          record { before = r.before; out = r.out; at = ap (λ x. state_next x (state_run limit w code k)) is ∙ r.at; leads = r.leads }
      by_next (state.Stays out halt) is e go = cc

module _ (limit : ℕ) (p : Program) (plain : HasNoAllocatables p) (wf : IsWellFormed p) (sense : MakesSense p) (answers : ℕ → Bool) where
  abbrev q : core.Program
  q = lowered_program p

  abbrev code : Code
  code = program_code (lowered_program p)

  abbrev At : ℕ → State → Type 0
  At j t = state_after limit (lowered_program p) (program_code (lowered_program p)) answers j ≡ Some t

  after_last : (k : ℕ) (t : State) → At (suc k) t → Last limit (core_setting q) code (At k) t
  after_last k t e =
      let r = (claim (core_here q) >>= λ done. enter q.main.initial).from (core_world q answers) in
      by_end r.out r.end (λ j. refl) e
    where
      by_end : {A : Type 0} (out : List Event) (end : End A) →
          ((j : ℕ) → state_after limit q code answers j ≡ state_next (ends_so out end (λ done w. start q w)) (state_run limit (core_setting q) code j)) →
          state_next (ends_so out end (λ done w. start q w)) (state_run limit (core_setting q) code (suc k)) ≡ Some t → Last limit (core_setting q) code (At k) t
      by_end out (Gives x w) same e =
          let r = run_last limit (core_setting q) code k (start q w) t e in
          record { before = r.before; out = r.out; at = same k ∙ r.at; leads = r.leads }
      by_end out (Fails error place) same e = cc
      by_end out (Stops code) same e = cc
      by_end out Beyond same e = cc

  -- ---- how a program begins

  start_is : (s : State) → At 0 s → (w : World) × (start q w ≡ s)
  start_is s e =
      let r = (claim (core_here q) >>= λ done. enter q.main.initial).from (core_world q answers) in
      by_end r.out r.end e
    where
      by_end : {A : Type 0} (out : List Event) (end : End A) → state_next (ends_so out end (λ done w. start q w)) (state_run limit (core_setting q) code 0) ≡ Some s →
          (w : World) × (start q w ≡ s)
      by_end out (Gives x w) e = (w, some_same e)
      by_end out (Fails error place) e = cc
      by_end out (Stops code) e = cc
      by_end out Beyond e = cc

  level_set : (vss : List (List Value)) → AreLevels p.types.items (declared_kinds (declared_in p.main) ∷ []) vss → LevelsSet vss
  level_set [] h = absurd h
  level_set (vs ∷ []) h = (all_set p.types.items (declared_kinds (declared_in p.main)) vs (kinds_plain (declared_in p.main) plain.main) h.0, tt)
  level_set (vs ∷ us ∷ vss) h = absurd h.1

  first_roots : (store : Store) → IsTyped p.types.items (first_typing p) store → RootsSet store
  first_roots store h = record {
    statics = all_set p.types.items (map (λ (y : Static). y.declared.kind) p.statics.items) store.statics (statics_plain p.statics.items plain.statics) h.statics;
    levels = level_set store.levels h.levels;
  }

  first_whole : (s : State) → At 0 s → IsWhole s
  first_whole s e =
      let f = start_is s e in
      let acc = start_accords limit p wf sense answers s e in
      subst (λ t. IsWhole t) f.1 (record { roots = first_roots f.0.store (subst (λ (t : State). IsTyped p.types.items (first_typing p) t.world.store) (sym f.1) acc.store); stack = (tt, tt) })

  -- ---- steps

  starts_set : (f : ℕ) (y : Procedure) (e : Entry) → slice_get p.procedures.items f ≡ Some y → slice_get code.procedures f ≡ Some e → AllSet e.initial
  starts_set f y e h k = all_set p.types.items (declared_kinds (declared_in y)) e.initial (kinds_plain (declared_in y) (plain.procedures f y h)) (code_begins p wf sense f y e h k)

  does_whole : (s : State) (g : Typing) (o : Option Line) → slice_get code.lines s.pc ≡ o → Fits p.types.items (site_at p) s → Stands p (site_at p) s → Accords p (site_at p) g s → IsWhole s →
      Keeps p (site_at p) g (does_line limit (core_setting q) code o s)
  does_whole s g None at fits stands acc whole = stays_so p (site_at p) g
  does_whole s g (Some l) at fits stands acc whole =
      let are = (code_has_kinds p wf sense).1 in
      act_whole limit (core_setting q) p code (site_at p) are wf sense refl (are_flat_types p plain wf sense) starts_set s fits stands g acc whole l l.act
      (are.lines s.pc l at fits.is_reached) (code_is_clean p s.pc l at) (plain.lines s.pc l at)

  step_whole : (s t : State) (out : List Event) (g : Typing) → Fits p.types.items (site_at p) s → Stands p (site_at p) s → Accords p (site_at p) g s → IsWhole s →
      step limit (core_setting q) code s ≡ Goes out t → IsWhole t
  step_whole s t out g fits stands acc whole e =
      let k = subst (λ n. Keeps p (site_at p) g n) e (does_whole s g (slice_get code.lines s.pc) refl fits stands acc whole) in
      k.by (standing_steps_hold limit (core_setting q) p code (site_at p) (code_has_kinds p wf sense).1 wf sense refl refl refl s t out fits stands e)

  -- ---- runs

  next_whole : (k : ℕ) (t : State) → At (suc k) t → ((j : ℕ) (u : State) → j < suc k → At j u → IsWhole u) → IsWhole t
  next_whole k t e before =
      let r = after_last k t e in
      let u = r.before in
      let f = runs_accord limit p wf sense answers k u (λ j v less h. whole_there (site_at p v.pc).cells v (before j v (omega (arith, less)) h)) r.at in
      let whole = before k u (omega arith) r.at in
      let stands = parts_stand p (site_at p) u f.1 f.0 f.2 (whole_there (site_at p u.pc).cells u whole) in
      step_whole u t r.out f.1 f.0 stands f.2 whole r.leads

  by_last : (n j : ℕ) → j < suc n → (j < n) ⊎ (j ≡ n)
  by_last zero zero h = inr refl
  by_last zero (suc j) h = absurd (omega (arith, h))
  by_last (suc n) zero h = inl (omega arith)
  by_last (suc n) (suc j) h = one_more (by_last n j (omega (arith, h)))
    where
      one_more : (j < n) ⊎ (j ≡ n) → (suc j < suc n) ⊎ (suc j ≡ suc n)
      one_more (inl f) = inl (omega (arith, f))
      one_more (inr f) = inr (ap suc f)

  whole_at : (n : ℕ) (t : State) → At n t → ((j : ℕ) (u : State) → j < n → At j u → IsWhole u) → IsWhole t
  whole_at zero t e before = first_whole t e
  whole_at (suc n) t e before = next_whole n t e before

  all_whole : (n : ℕ) (j : ℕ) (t : State) → j < n → At j t → IsWhole t
  all_whole zero j t less e = absurd (omega (arith, less))
  all_whole (suc n) j t less e = by_number (λ i u h f. all_whole n i u h f) (by_last n j less)
    where
      by_number : ((i : ℕ) (u : State) → i < n → At i u → IsWhole u) → (j < n) ⊎ (j ≡ n) → IsWhole t
      by_number before (inl h) = before j t h e
      by_number before (inr same) = whole_at n t (subst (λ k. At k t) same e) before

  pub whole_after : (k : ℕ) (t : State) → At k t → IsWhole t
  whole_after k t e = all_whole (suc k) k t (omega arith) e

pub plain_parts_are_there : PlainPartsAreThere
plain_parts_are_there limit p plain wf sense answers k s e = whole_there (site_at p s.pc).cells s (whole_after limit p plain wf sense answers k s e)

pub plain_runs_accord : PlainRunsAccord
plain_runs_accord limit p plain wf sense answers k s e =
    let f = runs_accord limit p wf sense answers k s (λ j t less h. plain_parts_are_there limit p plain wf sense answers j t h) e in
    (f.0, parts_stand p (site_at p) s f.1 f.0 f.2 (plain_parts_are_there limit p plain wf sense answers k s e), f.1, f.2)
