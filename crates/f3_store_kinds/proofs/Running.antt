-- The states of runs accord with typings of their stores, as long as objects stand.
use Rattle.std.proofs.Common.{◌≡◌, ◌∙◌, sym, ap, ℕ, zero, suc, ◌+◌, ◌<◌, Bool, true, List, [], ◌∷◌, map, length, Option, Some, None, refl, subst, arith}
use Rattle.std.specs.Prelude.{slice_get}
use Rattle.f3_program.specs.declared.declarations.Declared.{Declared}
use Rattle.f3_program.specs.declared.declarations.Derived.{Derived}
use Rattle.f3_program.specs.declared.declarations.Kind.{Kind}
use Rattle.f3_program.specs.declared.program.Procedure.{Procedure}
use Rattle.f3_program.specs.declared.program.Program.{Program}
use Rattle.f3_program.specs.declared.program.Static.{Static}
use Rattle.f3_meaning_whole.specs.Value.{Value}
use Rattle.f3_meaning_whole.specs.Ran.{Event, World, End, Gives, Fails, Stops, Beyond, ◌>>=◌}
use Rattle.f3_meaning_whole.specs.Act.{Setting, claim, enter}
use Rattle.f3_meaning_whole.specs.Exec.{declared_in, initial_value}
use Rattle.f3_meaning_whole.specs.Run.{setting_of}
use Rattle.f3_meaning_whole.specs.Shape.{shapes_of}
use Rattle.f3_meaning_whole.specs.Formed.{all, is_declared, IsWellFormed}
use Rattle.f3_code.specs.Lower.{lowered_procedure, lowered_program}
use Rattle.f3_code.specs.CoreRun.{core_setting, core_here, core_world}
use Rattle.f3_code.specs.State as state
use Rattle.f3_code.specs.State.{Line, Entry, Code, State, Next, Goes}
use Rattle.f3_code.specs.Machine.{ends_so, step, does_line}
use Rattle.f3_code.specs.Run.{start}
use Rattle.f3_code.specs.Code.{body_code, entries, program_code}
use Rattle.f3_code.specs.Heap.{with_answers}
use Rattle.f3_heights.proofs.OnHeap.{heap_answers}
use Rattle.f3_heights.specs.Room.{state_next, state_run, state_after}
use Rattle.f3_cell_kinds.specs.Types.{Site}
use Rattle.f3_cell_kinds.specs.Kinds.{AreKinds}
use Rattle.f3_cell_kinds.specs.Holds.{IsOf, Fits}
use Rattle.f3_cell_kinds.specs.Sense.{MakesSense}
use Rattle.f3_cell_kinds.specs.Stands.{Stands}
use Rattle.f3_cell_kinds.specs.Laws.{site_at}
use Rattle.f3_cell_kinds.proofs.Asked.{some_same, and_is}
use Rattle.f3_cell_kinds.proofs.Initials.{static_is, variable_is}
use Rattle.f3_cell_kinds.proofs.OfProgram.{code_has_kinds}
use Rattle.f3_cell_kinds.proofs.Starting.{start_fits}
use Rattle.f3_cell_kinds.proofs.ReadingSteps.{standing_steps_hold}
use Rattle.f3_store_kinds.specs.Typing.{Typing, AreOf, IsTyped}
use Rattle.f3_store_kinds.specs.Accords.{declared_kinds, AllKnown, CellsLead, FramesLead, Accords}
use Rattle.f3_store_kinds.specs.Clean.{AreClean}
use Rattle.f3_store_kinds.specs.Laws.{CodeIsClean, ValuesBegin, CodeBegins, StepsAccord, HeapStepsAccord, first_typing, StartAccords, StoresHold}
use Rattle.f3_store_kinds.proofs.After.{IsAfter, After, calm_then}
use Rattle.f3_store_kinds.proofs.Still.{claim_still}
use Rattle.f3_store_kinds.proofs.Taking.{enter_after}
use Rattle.f3_store_kinds.proofs.Known.{variables_known, declared_parts}
use Rattle.f3_store_kinds.proofs.Holding.{Found, Keeps, stays_so}
use Rattle.f3_store_kinds.proofs.Stepping.{act_leads}
use Rattle.f3_store_kinds.proofs.Cleaning as cleaning

-- ---- steps

module _ (limit : ℕ) (w : Setting) (p : Program) (code : Code) (sites : ℕ → Site) (are : AreKinds p sites code) (formed : IsWellFormed p) (sense : MakesSense p)
    (clean : AreClean sites code)
    (starts : ValuesBegin p code) where
  does_leads : (s : State) (o : Option Line) (g : Typing) → slice_get code.lines s.pc ≡ o → Fits p.types.items sites s → Stands p sites s → Accords p sites g s →
      Keeps p sites g (does_line limit w code o s)
  does_leads s None g at_pc fits stands acc = stays_so p sites g
  does_leads s (Some l) g at_pc fits stands acc = act_leads limit w p code sites are formed sense starts s fits stands g acc l l.act
      (are.lines s.pc l at_pc fits.is_reached) (clean s.pc l at_pc)

  pub step_leads : (s t : State) (out : List Event) (g : Typing) → Fits p.types.items sites s → Stands p sites s → Accords p sites g s → step limit w code s ≡ Goes out t → Found p sites g t
  step_leads s t out g fits stands acc e = (subst (λ n. Keeps p sites g n) e (does_leads s (slice_get code.lines s.pc) g refl fits stands acc)).by

pub steps_accord : StepsAccord
steps_accord limit w p code sites are formed sense clean starts s t out g fits stands acc e =
    let f = step_leads limit w p code sites are formed sense clean starts s t out g fits stands acc e in (f.typing, f.follows, f.is)

-- a step over a heap is one with some answers of it
pub heap_steps_accord : HeapStepsAccord
heap_steps_accord size limit w p code sites are formed sense clean starts types_same statics_same shapes_same s t out g fits stands acc e =
    let a = heap_answers size limit w code s in
    let u = with_answers a.0 s in
    let fits' : Fits p.types.items sites u = record { is_reached = fits.is_reached; scope = fits.scope; end = fits.end; stack = fits.stack; frames = fits.frames } in
    let stands' : Stands p sites u = record { cells = stands.cells; variables = stands.variables } in
    let acc' : Accords p sites g u = record { store = acc.store; statics = acc.statics; static_types = acc.static_types; level_types = acc.level_types; leads = acc.leads } in
    let e' = sym a.1 ∙ e in
    let f = step_leads limit w p code sites are formed sense clean starts u t out g fits' stands' acc' e' in
    (standing_steps_hold limit w p code sites are formed sense types_same statics_same shapes_same u t out fits' stands' e', f.typing, f.follows, f.is)

-- ---- how a program begins

mapped_are : {A : Type 0} (types : List Derived) (kind : A → Kind) (value : A → Value) (xs : List A) → ((n : ℕ) (x : A) → slice_get xs n ≡ Some x → IsOf types (kind x) (value x)) →
    AreOf types (map kind xs) (map value xs)
mapped_are types kind value [] h = tt
mapped_are types kind value (x ∷ xs) h = (h 0 x refl, mapped_are types kind value xs (λ n y e. h (suc n) y e))

module _ (p : Program) (formed : IsWellFormed p) (sense : MakesSense p) where
  variables_are : (n : ℕ) (q : Procedure) → slice_get (p.main ∷ p.procedures.items) n ≡ Some q →
      AreOf p.types.items (declared_kinds (declared_in q)) (map (initial_value (setting_of p)) (declared_in q))
  variables_are n q e = mapped_are p.types.items (λ (y : Declared). y.kind) (initial_value (setting_of p)) (declared_in q) (λ m d f. variable_is p formed sense n m q d e f)

  entries_are : (m at : ℕ) (qs : List Procedure) (f : ℕ) (q : Procedure) (e : Entry) → slice_get qs f ≡ Some q →
      slice_get (entries m at (map (lowered_procedure (setting_of p)) qs)) f ≡ Some e → e.initial ≡ map (initial_value (setting_of p)) (declared_in q)
  entries_are m at [] f q e h k = cc
  entries_are m at (y ∷ qs) zero q e h k =
      let same : y ≡ q = cc in
      ap (λ (o : Option Entry). initial_of_entry o) (sym k) ∙ ap (λ (z : Procedure). map (initial_value (setting_of p)) (declared_in z)) same
    where
      initial_of_entry : Option Entry → List Value
      initial_of_entry None = []
      initial_of_entry (Some x) = x.initial
  entries_are m at (y ∷ qs) (suc f) q e h k = entries_are m (at + length (body_code m (lowered_procedure (setting_of p) y))) qs f q e h k

  starts_so : ValuesBegin p (program_code (lowered_program p))
  starts_so f q e h k = subst (λ vs. AreOf p.types.items (declared_kinds (declared_in q)) vs) (sym (entries_are _ _ p.procedures.items f q e h k)) (variables_are (suc f) q h)

  statics_are : AreOf p.types.items (map (λ (y : Static). y.declared.kind) p.statics.items) (map (λ (y : Static). initial_value (setting_of p) y.declared) p.statics.items)
  statics_are = mapped_are p.types.items (λ (y : Static). y.declared.kind) (λ (y : Static). initial_value (setting_of p) y.declared) p.statics.items (λ n y e. static_is p formed sense n y e)

  static_types : (ys : List Static) → all (λ (y : Static). is_declared (length p.types.items) y.declared) ys ≡ true →
      AllKnown p.types.items (map (λ (y : Static). y.declared.kind) ys)
  static_types [] h = tt
  static_types (y ∷ ys) h =
      let a = and_is _ _ h in let b = and_is _ _ a.0 in
      ((λ t. b.0), static_types ys a.1)

  -- the first state, by its world
  record Begins (limit : ℕ) (answers : ℕ → Bool) (k : ℕ) (s : State) : Type 0 where
    world : World
    typed : IsTyped p.types.items (first_typing p) world.store
    runs : state_run limit (core_setting (lowered_program p)) (program_code (lowered_program p)) k (start (lowered_program p) world) ≡ Some s
    -- and the states that follow on it
    follows : (j : ℕ) → state_after limit (lowered_program p) (program_code (lowered_program p)) answers j
        ≡ state_run limit (core_setting (lowered_program p)) (program_code (lowered_program p)) j (start (lowered_program p) world)

  begun_after : (answers : ℕ → Bool) → After (λ x st. IsTyped p.types.items (first_typing p) st) (core_world (lowered_program p) answers).store
      (claim (core_here (lowered_program p)) >>= λ done. enter (lowered_program p).main.initial)
  begun_after answers =
      let store = (core_world (lowered_program p) answers).store in
      let g : Typing = record { statics = (first_typing p).statics; levels = [] } in
      calm_then (claim_still store (core_here (lowered_program p))) (λ done t.
      enter_after p.types.items g store (declared_kinds (declared_in p.main)) (lowered_program p).main.initial (record { statics = statics_are; levels = tt }) (variables_are 0 p.main refl))

  begins_so : (limit : ℕ) (answers : ℕ → Bool) (k : ℕ) (s : State) →
      state_after limit (lowered_program p) (program_code (lowered_program p)) answers k ≡ Some s → Begins limit answers k s
  begins_so limit answers k s e =
      let r = (claim (core_here (lowered_program p)) >>= λ done. enter (lowered_program p).main.initial).from (core_world (lowered_program p) answers) in
      by_end r.out r.end ((begun_after answers).by (core_world (lowered_program p) answers) refl) (λ j. refl) e
    where
      by_end : {A : Type 0} (out : List Event) (end : End A) → IsAfter (λ x st. IsTyped p.types.items (first_typing p) st) end →
          ((j : ℕ) → state_after limit (lowered_program p) (program_code (lowered_program p)) answers j
          ≡ state_next (ends_so out end (λ done w. start (lowered_program p) w)) (state_run limit (core_setting (lowered_program p)) (program_code (lowered_program p)) j)) →
          state_next (ends_so out end (λ done w. start (lowered_program p) w)) (state_run limit (core_setting (lowered_program p)) (program_code (lowered_program p)) k) ≡ Some s →
          Begins limit answers k s
      by_end out (Gives x w) is same e = record { world = w; typed = is; runs = e; follows = same }
      by_end out (Fails error place) is same e = cc
      by_end out (Stops code) is same e = cc
      by_end out Beyond is same e = cc

  first_accords : (w : World) → IsTyped p.types.items (first_typing p) w.store → Accords p (site_at p) (first_typing p) (start (lowered_program p) w)
  first_accords w typed =
      let main = (code_has_kinds p formed sense).1.main in
      record {
        store = typed;
        statics = refl;
        static_types = static_types p.statics.items (declared_parts p formed sense).statics;
        level_types = (variables_known p formed sense 0 p.main refl, tt);
        leads = subst (λ (z : Site). CellsLead p.types.items (site_at p) (λ h. FramesLead p.types.items (site_at p) h []) (first_typing p) 0 [] z.scope z.cells []) (sym main) ((refl, tt), tt);
      }

-- the state in which a program begins
pub start_accords : StartAccords
start_accords limit p formed sense answers s e =
    let b = begins_so p formed sense limit answers 0 s e in
    let same : start (lowered_program p) b.world ≡ s = some_same b.runs in
    subst (λ z. Accords p (site_at p) (first_typing p) z) same (first_accords p formed sense b.world b.typed)

-- ---- runs

-- some typing with which a state accords
record Held (p : Program) (sites : ℕ → Site) (s : State) : Type 0 where
  typing : Typing
  is : Accords p sites typing s

module _ (limit : ℕ) (w : Setting) (p : Program) (code : Code) (sites : ℕ → Site) (are : AreKinds p sites code) (formed : IsWellFormed p) (sense : MakesSense p)
    (clean : AreClean sites code)
    (starts : ValuesBegin p code)
    (types_same : w.program.types.items ≡ p.types.items) (statics_same : w.program.statics.items ≡ p.statics.items) (shapes_same : w.shapes ≡ shapes_of p.types.items) where
  run_accords : (k : ℕ) (s t : State) → ((j : ℕ) (u : State) → j < k → state_run limit w code j s ≡ Some u → Stands p sites u) → Fits p.types.items sites s → Held p sites s →
      state_run limit w code k s ≡ Some t → Held p sites t
  run_accords zero s t steady h f e = let same : s ≡ t = cc in subst (λ u. Held p sites u) same f
  run_accords (suc k) s t steady h f e = by_next (step limit w code s) refl e (λ u more h f e. run_accords k u t more h f e)
    where
      by_next : (x : Next) → step limit w code s ≡ x → state_next x (state_run limit w code k) ≡ Some t →
          ((u : State) → ((j : ℕ) (v : State) → j < k → state_run limit w code j u ≡ Some v → Stands p sites v) → Fits p.types.items sites u → Held p sites u →
          state_run limit w code k u ≡ Some t → Held p sites t) → Held p sites t
      by_next (Goes out u) is e go =
          let stands = steady 0 s (omega arith) refl in
          go u (λ j v less q. steady (suc j) v (omega (arith, less)) (ap (λ x. state_next x (state_run limit w code j)) is ∙ q))
          (standing_steps_hold limit w p code sites are formed sense types_same statics_same shapes_same s u out h stands is)
          (let r = step_leads limit w p code sites are formed sense clean starts s u out f.typing h stands f.is is in record { typing = r.typing; is = r.is }) e
      by_next (state.Stays out halt) is e go = cc

pub stores_hold : StoresHold
stores_hold limit p formed sense answers k s steady e =
    let q = lowered_program p in
    let b = begins_so p formed sense limit answers k s e in
    let f = run_accords limit (core_setting q) p (program_code q) (site_at p) (code_has_kinds p formed sense).1 formed sense (cleaning.code_is_clean p) (starts_so p formed sense) refl refl refl
    k (start q b.world) s (λ j u less r. steady j u less (b.follows j ∙ r)) (start_fits p formed sense b.world) (record { typing = first_typing p; is = first_accords p formed sense b.world b.typed }) b.runs in
    (f.typing, f.is)

-- ---- code

pub code_is_clean : CodeIsClean
code_is_clean = cleaning.code_is_clean

pub code_begins : CodeBegins
code_begins p formed sense = starts_so p formed sense
