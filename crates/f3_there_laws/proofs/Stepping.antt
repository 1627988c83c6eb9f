-- Each step of a program without allocatables leaves everything there.
use Rattle.std.proofs.Common.{◌≡◌, ◌∙◌, sym, ap, ℕ, zero, suc, ◌+◌, ℤ, pos, Bool, true, false, ◌||◌, List, [], ◌∷◌, ◌++◌, map, length, take, drop, Option, Some, None, refl, subst, if◌then◌else◌}
use Rattle.std.specs.Prelude.{◌+ℤ◌, nat_eq, nat_lt, slice_get, slice_index_or}
use Rattle.std.proofs.lemmas.Bool.{eqb-true}
use Rattle.f3_program.specs.declared.declarations.Base.{Base}
use Rattle.f3_program.specs.declared.declarations.Base.TheVariants as base
use Rattle.f3_program.specs.declared.declarations.Component as m
use Rattle.f3_program.specs.declared.declarations.Constant.{Constant}
use Rattle.f3_program.specs.declared.declarations.Constant.TheVariants as constant
use Rattle.f3_program.specs.declared.declarations.Derived.{Derived}
use Rattle.f3_program.specs.declared.declarations.Kind.{Kind}
use Rattle.f3_program.specs.declared.program.Procedure.{Procedure}
use Rattle.f3_program.specs.declared.program.Program.{Program}
use Rattle.f3_meaning_whole.specs.Value.{Value, Number, Truth, Composite, Array, joined, number_of, truth_of, is_allocated, count, plain, conforms, spans_of, spread, cleared}
use Rattle.f3_meaning_whole.specs.Store.{Store, Path, get}
use Rattle.f3_meaning_whole.specs.Reference.{Selected, Language, Reach, One, Many, Reference, spans, held_at, paths, paths_by}
use Rattle.f3_meaning_whole.specs.declared.run_error.RunError.{RunError}
use Rattle.f3_meaning_whole.specs.declared.run_error.RunError.TheVariants.{NotAllocated, ShapesDiffer}
use Rattle.f3_meaning_whole.specs.Ran.{Event, Ran, World, ◌>>=◌, gives, looks, prints_bytes}
use Rattle.f3_meaning_whole.specs.Arithmetic.{apply, change_of, constant_value, converted}
use Rattle.f3_meaning_whole.specs.Shape.{Whole, shape_in}
use Rattle.f3_meaning_whole.specs.Act.{Setting, Here, Passed, Given, Lent, Chosen, given, begins, enter, claim, claim_for, set, clear, leave, passed_at, structure, components_of, named, component, component_of, read, moved, picks_in_each}
use Rattle.f3_meaning_whole.specs.Act as meaning
use Rattle.f3_meaning_whole.specs.Eval.{result, built, asked, by_reach, spans_of_component}
use Rattle.f3_meaning_whole.specs.Exec.{Flow, Onward, Cycled, Left, Returned, unless_zero, print_value, status_number, held, dummies, Association, Holds, Means, held_by, associates}
use Rattle.f3_meaning_whole.specs.Formed.{takes, is_number, of_kind, sectioned, element_of_each, IsWellFormed}
use Rattle.f3_meaning_whole.specs.Run.{setting_of}
use Rattle.f3_code.specs.Exec.{is_held, result_at}
use Rattle.f3_code.specs.declared.instruction.Instruction.{Instruction}
use Rattle.f3_code.specs.declared.instruction.Instruction.TheVariants as i
use Rattle.f3_code.specs.State as state
use Rattle.f3_code.specs.State.{Line, placed, Entry, Code, Cell, To, Frame, State, Next}
use Rattle.f3_code.specs.Machine.{act, checked, tested, performs, on_datum, on_object, on_to, passed_in, departs, branches, next_turn_at, next_element, next_object, next_argument, skips_failed, selects, begun, called_at, returned, outward, routine_at}
use Rattle.f3_code.specs.Machine as machine
use Rattle.f3_cell_kinds.specs.Types.{Scope, Around, Told, CellType, Site, sort_of_type}
use Rattle.f3_cell_kinds.specs.Types as cell
use Rattle.f3_cell_kinds.specs.Effect.{part_cell}
use Rattle.f3_cell_kinds.specs.Kinds.{Leads, first_site, AreKinds}
use Rattle.f3_cell_kinds.specs.Kinds as kinds
use Rattle.f3_cell_kinds.specs.Holds.{Reaches, Refers, AllRefer, IsOf, AreElements, Knows, InScope, Stand, Fits}
use Rattle.f3_cell_kinds.specs.Sense.{MakesSense}
use Rattle.f3_cell_kinds.specs.Stands.{CellsStand, Stands}
use Rattle.f3_cell_kinds.proofs.Asked.{only_is, and_is, not_is, truth_same}
use Rattle.f3_cell_kinds.proofs.Given.{choices_over}
use Rattle.f3_cell_kinds.proofs.OfActions.{extents_over}
use Rattle.f3_cell_kinds.proofs.Initials.{initial_is}
use Rattle.f3_cell_kinds.proofs.Picking.{AllChosen}
use Rattle.f3_cell_kinds.proofs.Reaching.{AllPassed, AllSelected}
use Rattle.f3_cell_kinds.proofs.Scalars.{alike_is, no_rank, no_both}
use Rattle.f3_cell_kinds.proofs.Calm.{Calm, gives_calm, looks_calm, bind_calm, claim_for_calm}
use Rattle.f3_cell_kinds.proofs.Standing.{in_is, EntryAt, entry_at}
use Rattle.f3_store_kinds.specs.Typing.{Typing, each_kind, AreOf, AllOf, IsTyped, PartsBy}
use Rattle.f3_store_kinds.specs.Typing as typing
use Rattle.f3_store_kinds.specs.Accords.{IsNamed, CellsLead, FramesLead, Accords}
use Rattle.f3_store_kinds.specs.Clean.{ArePlain, IsClean}
use Rattle.f3_store_kinds.specs.There.{PathThere}
use Rattle.f3_store_kinds.proofs.After.{After, bind_after, calm_then, gives_after, does_after}
use Rattle.f3_store_kinds.proofs.Holding.{named_there}
use Rattle.f3_store_kinds.proofs.Objects.{one_rank}
use Rattle.f3_store_kinds.proofs.Reading.{paths_lead}
use Rattle.f3_store_kinds.proofs.Still.{Still, looks_still, claim_still, converted_still, apply_still, change_still, claim_for_still, read_still, result_still, asked_still, structure_still, unless_still, checked_still, tested_still, begins_still, prints_still, print_still}
use Rattle.f3_store_kinds.proofs.Taking.{taken_all, set_all, number_calm, status_is, converted_calm, cleared_is}
use Rattle.f3_there_laws.specs.Plain.{has_subscripts}
use Rattle.f3_there_laws.proofs.Forms.{IsSet, AreFlat, set_of_kind}
use Rattle.f3_there_laws.proofs.Roots.{AllSet, RootsSet, IsKept, Stays, append_set, take_set, path_held, puts_stay, there_before, begun_there, ended_there}
use Rattle.f3_there_laws.proofs.Everywhere.{AllAre, AllRefs, AllPasseds, AllSelectors, StackIs, FramesAre, Beneath, IsWhole, refs_map, refs_append, passed_map, selector_map, stack_map, frames_map, names_are, rest_is, renamed, stack_on}
use Rattle.f3_there_laws.proofs.Finding.{index_first, index_last, component_finds, named_finds, result_set, selects_finds, each_finds, called_there, associates_there}
use Rattle.f3_there_laws.proofs.Holding.{Found, Keeps, stays_so, goes_so, performing, performing_calm, if_keeps, Has, free_off, at_datum, at_object, at_each, at_bound, at_bounds, at_status, at_turns, at_elements, at_objects, at_level, at_outside, at_going, at_any, at_extents, at_arguments, at_choices, at_selectors}

constant_set : (c : Constant) → IsSet (constant_value c)
constant_set (constant.Number z) = tt
constant_set (constant.Truth b) = tt

plain_set : (v : Value) → IsSet v → IsSet (plain v)
plain_set (Array ss vs) h = tt
plain_set v h = h

built_set : {store : Store} (v : Value) (here : Here) → IsSet v → Calm IsSet store (built v here)
built_set v here h = bind_calm (claim_for_calm v here) (λ done t. gives_calm v h)

held_set : (Q : Path → Type 0) (ps : List Passed) → AllPasseds Q ps → AllSet (held ps)
held_set Q [] h = tt
held_set Q (Given n v ∷ ps) h = (h.0, held_set Q ps h.1)
held_set Q (Lent n r ∷ ps) h = held_set Q ps h.1

chosen_set : (Q : Path → Type 0) (xs : List Association) → AllSelectors Q xs → AllSet (held_by xs)
chosen_set Q [] h = tt
chosen_set Q (Holds of v ∷ xs) h = (h.0, chosen_set Q xs h.1)
chosen_set Q (Means r ∷ xs) h = chosen_set Q xs h.1

passeds_map : (Q R : Path → Type 0) → ((q : Path) → Q q → R q) → (ps : List Passed) → AllPasseds Q ps → AllPasseds R ps
passeds_map Q R f [] h = tt
passeds_map Q R f (x ∷ ps) h = (passed_map Q R f x h.0, passeds_map Q R f ps h.1)

selectors_map : (Q R : Path → Type 0) → ((q : Path) → Q q → R q) → (xs : List Association) → AllSelectors Q xs → AllSelectors R xs
selectors_map Q R f [] h = tt
selectors_map Q R f (x ∷ xs) h = (selector_map Q R f x h.0, selectors_map Q R f xs h.1)

-- a store with one more level
abbrev more_level : Store → List Value → Store
more_level store vs = record { statics = store.statics; levels = store.levels ++ vs ∷ [] }

abbrev less_levels : ℕ → Store → Store
less_levels n store = record { statics = store.statics; levels = take n store.levels }

more_set : (store : Store) (vs : List Value) → RootsSet store → AllSet vs → RootsSet (more_level store vs)
more_set store vs h k = record { statics = h.statics; levels = append_set store.levels vs h.levels k }

entered_after : (store : Store) (vs : List Value) → After (λ x st. st ≡ more_level store vs) store (enter vs)
entered_after store vs = does_after {P = λ x st. st ≡ more_level store vs} _ refl

left_after : (store : Store) (n : ℕ) → After (λ x st. st ≡ less_levels n store) store (leave n)
left_after store n = does_after {P = λ x st. st ≡ less_levels n store} _ refl

reach_one : {A : Type 0} {P : A → Type 0} (k : Kind) (reach : Reach) (x y : Ran A) (store : Store) → Reaches k reach → nat_eq k.rank 0 ≡ true → Calm P store x → Calm P store (by_reach reach x y)
reach_one k One x y store h e f = f
reach_one k (Many ss ps) x y store h e f = absurd (no_rank k.rank e h.1)

reach_many : {A : Type 0} {P : A → Type 0} (k : Kind) (reach : Reach) (x y : Ran A) (store : Store) → k.is_allocatable ≡ false → Reaches k reach → nat_eq k.rank 0 ≡ false → Calm P store y →
    Calm P store (by_reach reach x y)
reach_many k One x y store held h e f = absurd (no_both (nat_eq k.rank 0) (ap (λ (b : Bool). b || nat_eq k.rank 0) (sym held) ∙ h) e)
reach_many k (Many ss ps) x y store held h e f = f

module _ (limit : ℕ) (w : Setting) (p : Program) (code : Code) (sites : ℕ → Site) (are : AreKinds p sites code) (formed : IsWellFormed p) (sense : MakesSense p)
    (types_same : w.program.types.items ≡ p.types.items) (flat : AreFlat p.types.items)
    (starts : (f : ℕ) (q : Procedure) (e : Entry) → slice_get p.procedures.items f ≡ Some q → slice_get code.procedures f ≡ Some e → AllSet e.initial)
    (s : State) (fits : Fits p.types.items sites s) (stands : Stands p sites s) (g : Typing) (acc : Accords p sites g s) (whole : IsWhole s) (l : Line) where
  abbrev types : List Derived
  types = p.types.items

  abbrev here : Here
  here = placed l.place s.here

  abbrev o : Around
  o = (sites s.pc).scope

  abbrev r : Kind
  r = (sites s.pc).returns

  abbrev store : Store
  store = s.world.store

  abbrev Q : Path → Type 0
  Q = PathThere s.world.store

  abbrev Cells : List CellType → List Cell → Type 0
  Cells xs stack = Has p sites g s fits.end xs stack

  abbrev Below : List Cell → Type 0
  Below stack = StackIs (FramesAre s.frames) (PathThere s.world.store) s.here.names stack

  abbrev Kept : Next → Type 0
  Kept n = Keeps p sites g n

  had : {xs : List CellType} → (sites s.pc).cells ≡ xs → Cells xs s.stack
  had e = record {
    by = subst (λ c. Stand types sites (Knows types s.here) o r c s.stack fits.end) e fits.stack;
    leads = subst (λ c. CellsLead types sites (λ h. FramesLead types sites h s.frames) g s.here.level s.here.names o c s.stack) e acc.leads;
    stands = subst (λ c. CellsStand p s.here store c s.stack) e stands.cells;
    whole = whole.stack;
  }

  found : {pc : ℕ} {stack : List Cell} {at : Here} {frames : List Frame} {u : World} → RootsSet u.store → StackIs (FramesAre frames) (PathThere u.store) at.names stack →
      Found p sites g (record { pc = pc; stack = stack; here = at; frames = frames; world = u })
  found h k = λ f. record { roots = h; stack = k }

  -- on with the same store
  there : {pc : ℕ} {stack : List Cell} {u : World} → u.store ≡ store → Below stack → Found p sites g (record { pc = pc; stack = stack; here = s.here; frames = s.frames; world = u })
  there {stack = stack} e h = found (subst (λ st. RootsSet st) (sym e) whole.roots) (subst (λ st. StackIs (FramesAre s.frames) (PathThere st) s.here.names stack) (sym e) h)

  goes : {out : List Event} {pc : ℕ} {stack : List Cell} → Below stack → Kept (state.Goes out (record { pc = pc; stack = stack; here = s.here; frames = s.frames; world = s.world }))
  goes h = goes_so p sites g (found whole.roots h)

  -- the same, where a statement goes on with more or less lent
  goes_by : {out : List Event} {pc : ℕ} {stack : List Cell} (at : Here) → at.names ≡ s.here.names → Below stack →
      Kept (state.Goes out (record { pc = pc; stack = stack; here = at; frames = s.frames; world = s.world }))
  goes_by {stack = stack} at e h = goes_so p sites g (found whole.roots (subst (λ names. StackIs (FramesAre s.frames) (PathThere s.world.store) names stack) (sym e) h))

  -- with a value of a kind on top, which is not allocatable
  with_datum : {pc : ℕ} {k : Kind} {xs : List CellType} {stack : List Cell} {u : World} (y : Value) → k.is_allocatable ≡ false →
      sites pc ≡ record { is_reached = true; returns = r; scope = o; cells = cell.Datum k ∷ xs } → u.store ≡ store → Below stack →
      Found p sites g (record { pc = pc; stack = state.Datum y ∷ stack; here = s.here; frames = s.frames; world = u })
  with_datum {k = k} {stack = stack} y held at e h = λ f.
      let is = subst (λ (z : Site). Stand types sites (Knows types s.here) z.scope z.returns z.cells (state.Datum y ∷ stack) f.end) at f.stack in
      there e (set_of_kind types k y held is.0, h) f

  -- whatever is given, where the store stays
  still : {A : Type 0} (x : Ran A) {f : A → World → State} → Still store x → ((y : A) (u : World) → u.store ≡ store → Found p sites g (f y u)) → Kept (performs x s.world f)
  still x h k = performing_calm p sites g x s.world h (λ y u t e. k y u e)

  datum : {k : Kind} {rest : List CellType} {f : Value → List Cell → Next} (stack : List Cell) → Cells (cell.Datum k ∷ rest) stack →
      ((v : Value) (st : List Cell) → IsOf types k v → IsSet v → Cells rest st → Kept (f v st)) → Kept (on_datum stack f)
  datum stack h f = at_datum p sites g s fits.end stack h f

  object : {k : Kind} {rest : List CellType} {f : Reference → List Cell → Next} (stack : List Cell) → Cells (cell.Object k ∷ rest) stack →
      ((q : Reference) (st : List Cell) → Refers k q → typing.Leads types g k q → IsOf types k (held_at store q.path q.reach) → AllAre Q (paths q) → Cells rest st → Kept (f q st)) →
      Kept (on_object stack f)
  object stack h f = at_object p sites g s fits.end stack h f

  -- what statements may name there
  known_at : (c : Scope) → o ≡ Told c → IsNamed types g s.here.level s.here.names c
  known_at c e = subst (λ x. InScope types (IsNamed types g s.here.level s.here.names) x) e
      (named_there types sites (λ h. FramesLead types sites h s.frames) g s.here.level s.here.names o (sites s.pc).cells s.stack acc.leads)

  names_refer : (c : Scope) → o ≡ Told c → AllRefer c.names s.here.names
  names_refer c e = (subst (λ x. InScope types (Knows types s.here) x) e fits.scope).1

  names : AllRefs Q s.here.names
  names = names_are (FramesAre s.frames) Q s.here.names s.stack whole.stack

  clean_top : (xs : List CellType) (n : ℕ) → (sites s.pc).cells ≡ xs → ArePlain n (map sort_of_type (sites s.pc).cells) → ArePlain n (map sort_of_type xs)
  clean_top xs n e h = subst (λ c. ArePlain n (map sort_of_type c)) e h

  -- ---- objects

  held_by_reach : (k : Kind) (q : Path) (reach : Reach) → Reaches k reach → typing.LeadsBy types g k q reach → k.is_allocatable ≡ false
  held_by_reach k q One h e = path_held types flat g store k q acc.store whole.roots e
  held_by_reach k q (Many ss ps) h e = h.0

  -- no object is allocatable
  object_held : (k : Kind) (q : Reference) → Refers k q → typing.Leads types g k q → k.is_allocatable ≡ false
  object_held k q h e = held_by_reach k q.path q.reach h.1 e

  never : {A : Type 0} (k : Kind) (q : Reference) → k.is_allocatable ≡ true → Refers k q → typing.Leads types g k q → A
  never k q held h e = absurd (no_both k.is_allocatable held (object_held k q h e))

  each_plain : (k : Kind) (reach : Reach) → k.is_allocatable ≡ false → Reaches k reach → ((each_kind k reach).is_allocatable ≡ false) × (nat_eq (each_kind k reach).rank 0 ≡ true)
  each_plain k One held h = (held, one_rank types k held h)
  each_plain k (Many ss ps) held h = (refl, refl)

  -- objects that take values of their kinds
  set_stays : (k : Kind) (q : Reference) (v : Value) → k.is_allocatable ≡ false → Refers k q → typing.Leads types g k q → AllOf types (each_kind k q.reach) (spread (length (paths q)) v) →
      After (λ y st. Stays types flat g store st) store (set q v here)
  set_stays k q v held h e is =
      let a = each_plain k q.reach held h.1 in
      does_after {P = λ y st. Stays types flat g store st} _
      (puts_stay types flat g store (each_kind k q.reach) (paths q) (spread (length (paths q)) v) acc.store whole.roots (paths_lead types g k q e) a.0 a.1 is)

  all_gone : (k : Kind) (ps : List Path) → AreElements types k (joined (map (get store) ps)) → AllOf types k (map (λ q. cleared (get store q)) ps)
  all_gone k [] h = tt
  all_gone k (q ∷ ps) h = (cleared_is types k (get store q) h.0, all_gone k ps h.1)

  gone_by : (k : Kind) (q : Path) (reach : Reach) → IsOf types k (held_at store q reach) → AllOf types (each_kind k reach) (map (λ x. cleared (get store x)) (paths_by q reach))
  gone_by k q One h = (cleared_is types k (get store q) h, tt)
  gone_by k q (Many ss ps) h = all_gone (of_kind k.of 0) ps h.4

  clear_stays : (k : Kind) (q : Reference) → Refers k q → typing.Leads types g k q → IsOf types k (held_at store q.path q.reach) →
      After (λ y st. Stays types flat g store st) store (clear q here)
  clear_stays k q h e is =
      let a = each_plain k q.reach (object_held k q h e) h.1 in
      does_after {P = λ y st. Stays types flat g store st} _
      (puts_stay types flat g store (each_kind k q.reach) (paths q) (map (λ x. cleared (get store x)) (paths q)) acc.store whole.roots (paths_lead types g k q e) a.0 a.1
      (gone_by k q.path q.reach is))

  -- a value of the rank, or a scalar, of a type that agrees
  take_stays : (k j : Kind) (of : Base) (q : Reference) (x : Value) → k.of ≡ of → k.is_allocatable ≡ false → takes k j ≡ true → IsOf types j x → Refers k q → typing.Leads types g k q →
      (y : Value) → y ≡ x → After (λ z st. Stays types flat g store st) store (set q y here)
  take_stays k j of q x same held fit is h e y f =
      let a = and_is _ _ fit in let b = and_is _ _ a.1 in
      set_stays k q y held h e (taken_all types k q j.rank y held h.1 b.1
      (subst (λ z. IsOf types (of_kind k.of j.rank) z) (sym f) (alike_is types k.of j x a.0 (not_is _ b.0) is)))

  there_on : {pc : ℕ} {stack : List Cell} {u : World} → Stays types flat g store u.store → Below stack →
      Found p sites g (record { pc = pc; stack = stack; here = s.here; frames = s.frames; world = u })
  there_on {stack = stack} {u = u} e h =
      found e.roots (stack_map (FramesAre s.frames) (FramesAre s.frames) (frames_map s.frames) Q (PathThere u.store) e.kept s.here.names stack h)

  changed : {A : Type 0} (x : Ran A) {f : A → World → State} → After (λ y st. Stays types flat g store st) store x →
      ((y : A) (u : World) → Stays types flat g store u.store → Found p sites g (f y u)) → Kept (performs x s.world f)
  changed x h k = performing p sites g x s.world h k

  -- ---- calls

  begun_after : (ps : List Passed) (initial : List Value) →
      After (λ level st. (level ≡ length store.levels) × (st ≡ more_level (more_level store (held ps)) initial)) store (begun ps initial here)
  begun_after ps initial = calm_then (claim_still store here) (λ done t.
      calm_then (looks_calm {P = λ n. n ≡ length store.levels} (λ store. length store.levels) refl) (λ n e.
      bind_after (λ y st. st ≡ more_level store (held ps)) (entered_after store (held ps)) (λ y st f.
      bind_after (λ y st. st ≡ more_level (more_level store (held ps)) initial)
      (subst (λ z. After (λ y st. st ≡ more_level (more_level store (held ps)) initial) z (enter initial)) (sym f) (entered_after (more_level store (held ps)) initial)) (λ y st f.
      gives_after n (e, f)))))

  abbrev Callee : List Passed → Entry → List Cell → ℕ → Store → Type 0
  Callee ps e st level z = RootsSet z × AllRefs (PathThere z) (dummies 0 e.dummies ps level here.unit) × AllRefs (Beneath level (PathThere z)) s.here.names
      × StackIs (FramesAre s.frames) (Beneath level (PathThere z)) s.here.names st

  call_whole : (f n : ℕ) → kinds.Goes p sites s.pc l (i.Call f n) → Kept (act limit w code (i.Call f n) l.value here s)
  call_whole f n (gs, q, k, many, at_f, is, b) = at_arguments p sites g s fits.end gs n s.stack many (had b.before) (λ ps st passed lent c.
      if_keeps p sites g (nat_lt (length s.frames) limit) (λ t. by_entry ps st passed lent c.whole (entry_at sites p.procedures.items code.procedures f q are.procedures at_f)) (λ t. stays_so p sites g))
    where
      callee : (ps : List Passed) (st : List Cell) → AllPassed types gs ps → AllPasseds Q ps → Below st → (x : EntryAt sites code.procedures f q) →
          Callee ps x.entry st (length store.levels) (more_level (more_level store (held ps)) x.entry.initial)
      callee ps st passed lent c x =
          let one = more_level store (held ps) in
          let two = more_level one x.entry.initial in
          let kept : IsKept store two = λ q h. begun_there one (x.entry.initial ∷ []) q (begun_there store (held ps ∷ []) q h) in
          let beneath : (q : Path) → Q q → Beneath (length store.levels) (PathThere two) q = λ q h. (there_before store q h, kept q h) in (
            more_set one x.entry.initial (more_set store (held ps) whole.roots (held_set Q ps lent)) (starts f q x.entry at_f x.at),
            subst (λ ds. AllRefs (PathThere two) (dummies 0 ds ps (length store.levels) here.unit)) (sym x.dummies)
                (called_there types flat two (length store.levels) p f gs ps q k here.unit at_f is (index_first store.levels (held ps) x.entry.initial []) passed
                (passeds_map Q (PathThere two) kept ps lent)),
            refs_map Q (Beneath (length store.levels) (PathThere two)) beneath s.here.names names,
            stack_map (FramesAre s.frames) (FramesAre s.frames) (frames_map s.frames) Q (Beneath (length store.levels) (PathThere two)) beneath s.here.names st c,
          )

      by_entry : (ps : List Passed) (st : List Cell) → AllPassed types gs ps → AllPasseds Q ps → Below st → EntryAt sites code.procedures f q →
          Kept (called_at (slice_get code.procedures f) s st here ps)
      by_entry ps st passed lent c x =
          subst (λ o. Kept (called_at o s st here ps)) (sym x.at)
          (performing p sites g (begun ps x.entry.initial here) s.world (begun_after ps x.entry.initial) (λ level u t.
          let a = subst (λ n. Callee ps x.entry st n u.store) (sym t.0)
          (subst (λ z. Callee ps x.entry st (length store.levels) z) (sym t.1) (callee ps st passed lent c x)) in
          found a.0 (a.1, (a.2, a.3))))

  associated_after : (vs : List Value) → After (λ level st. (level ≡ length store.levels) × (st ≡ more_level store vs)) store
      (looks (λ store. length store.levels) >>= λ level. enter vs >>= λ done. gives level)
  associated_after vs = calm_then (looks_calm {P = λ n. n ≡ length store.levels} (λ store. length store.levels) refl) (λ level e.
      bind_after (λ y st. st ≡ more_level store vs) (entered_after store vs) (λ y st f. gives_after level (e, f)))

  abbrev Inner : List Association → List Cell → ℕ → Store → Type 0
  Inner found st level z = RootsSet z × AllRefs (PathThere z) s.here.names × AllRefs (PathThere z) (associates found level 0 here.unit)
      × StackIs (FramesAre s.frames) (Beneath level (PathThere z)) s.here.names st

  associate_whole : (n : ℕ) → kinds.Goes p sites s.pc l (i.Associate n) → Kept (act limit w code (i.Associate n) l.value here s)
  associate_whole n b =
      let c = in_is o _ b in
      let ks = c.2.0 in
      let lead = c.2.2 in
      at_selectors p sites g s fits.end ks n s.stack c.2.1 (had lead.before) (λ xs st chosen lent q.
      performing p sites g (looks (λ store. length store.levels) >>= λ level. enter (held_by xs) >>= λ done. gives level) s.world (associated_after (held_by xs)) (λ level u t.
      let a = subst (λ n. Inner xs st n u.store) (sym t.0) (subst (λ z. Inner xs st (length store.levels) z) (sym t.1) (inner ks xs st chosen lent q.whole)) in
      found a.0 (refs_append (PathThere u.store) s.here.names (associates xs level 0 here.unit) a.1 a.2, (a.2, a.3))))
    where
      inner : (ks : List Kind) (xs : List Association) (st : List Cell) → AllSelected types ks xs → AllSelectors Q xs → Below st →
          Inner xs st (length store.levels) (more_level store (held_by xs))
      inner ks xs st chosen lent c =
          let one = more_level store (held_by xs) in
          let kept : IsKept store one = begun_there store (held_by xs ∷ []) in
          let beneath : (q : Path) → Q q → Beneath (length store.levels) (PathThere one) q = λ q h. (there_before store q h, kept q h) in (
            more_set store (held_by xs) whole.roots (chosen_set Q xs lent),
            refs_map Q (PathThere one) kept s.here.names names,
            associates_there types flat one (length store.levels) ks xs [] 0 here.unit refl (index_last store.levels (held_by xs) []) chosen (selectors_map Q (PathThere one) kept xs lent),
            stack_map (FramesAre s.frames) (FramesAre s.frames) (frames_map s.frames) Q (Beneath (length store.levels) (PathThere one)) beneath s.here.names st c,
          )

  abbrev Ended : List Frame → List Reference → List Cell → Store → Type 0
  Ended frames others st z = RootsSet z × StackIs (FramesAre frames) (PathThere z) others st

  -- where a level ends, what stands beneath it stays
  ended : (n : ℕ) (frames : List Frame) (others : List Reference) (st : List Cell) (z : Store) → z ≡ less_levels n store → StackIs (FramesAre frames) (Beneath n Q) others st →
      Ended frames others st z
  ended n frames others st z e h = subst (λ y. Ended frames others st y) (sym e) (
    record { statics = whole.roots.statics; levels = take_set n store.levels whole.roots.levels },
    stack_map (FramesAre frames) (FramesAre frames) (frames_map frames) (Beneath n Q) (PathThere (less_levels n store)) (λ q k. ended_there n store q k.0 k.1) others st h,
  )

  end_whole : kinds.Goes p sites s.pc l i.EndAssociate → Kept (act limit w code i.EndAssociate l.value here s)
  end_whole (ks, js, b) = at_objects p sites g s fits.end s.stack (had b.before) (λ rs st h e q. at_going p sites g s fits.end st q (λ flow st' q'.
      at_level p sites g s fits.end st' q' (λ n rs' st'' e' below.
      performing p sites g (leave n) s.world (left_after store n) (λ done u t. let a = ended n s.frames s.here.names st'' u.store t below in found a.0 (tt, a.1)))))

  return_whole : kinds.Goes p sites s.pc l i.Return → Kept (act limit w code i.Return l.value here s)
  return_whole (untold, ks, b) = at_objects p sites g s fits.end s.stack (had b.before) (λ rs st h e q. datum st q (λ x st' f set q'.
      by_frames s.frames (rest_is (FramesAre s.frames) (frames_map s.frames) Q s.here.names st' q'.whole) x set))
    where
      by_frames : (frames : List Frame) → FramesAre frames Q → (x : Value) → IsSet x → Kept (returned frames s x)
      by_frames [] e x set = stays_so p sites g
      by_frames (y ∷ ys) e x set = performing p sites g (leave y.level) s.world (left_after store y.level) (λ done u t.
          let a = ended y.level ys y.here.names y.stack u.store t e.1 in found a.0 (set, a.1))

  outward_whole : Kept (act limit w code i.Outward l.value here s)
  outward_whole = by_frames s.frames refl
    where
      by_frames : (frames : List Frame) → s.frames ≡ frames → Kept (outward frames s)
      by_frames [] e = stays_so p sites g
      by_frames (f ∷ fs) e = goes_so p sites g (found whole.roots (
        names,
        renamed (FramesAre s.frames) (frames_map s.frames) f.caller.names
            (λ R h. refs_map (Beneath f.level R) R (λ q k. k.1) f.caller.names (subst (λ frames. FramesAre frames R) e h).0) Q s.here.names s.stack whole.stack,
      ))

  routine_whole : (t : ℕ) → kinds.Goes p sites s.pc l (i.Routine t) → Kept (act limit w code (i.Routine t) l.value here s)
  routine_whole t b = object s.stack (had b.before) (λ q st h e is lent c. by_routines code.routines q st lent c.whole)
    where
      by_routines : (pcs : List ℕ) (q : Reference) (st : List Cell) → AllAre Q (paths q) → Below st →
          Kept (routine_at pcs t (λ pc. state.Goes [] (record { pc = pc; stack = state.Object q ∷ To (s.pc + 1) s.here.place ∷ st; here = here; frames = s.frames; world = s.world }))
          (state.Goes [] (record { pc = s.pc + 1; stack = s.stack; here = s.here; frames = s.frames; world = s.world })))
      by_routines [] q st e c = goes whole.stack
      by_routines (pc ∷ pcs) q st e c = if_keeps p sites g (nat_eq t (length pcs)) (λ f. goes_by here refl (e, (tt, c))) (λ f. by_routines pcs q st e c)

  back_whole : kinds.Goes p sites s.pc l i.Back → Kept (act limit w code i.Back l.value here s)
  back_whole b = object s.stack (had b) (λ q st h e is lent c. by_place st q lent c.whole)
    where
      by_place : (st : List Cell) (q : Reference) → AllAre Q (paths q) → Below st → Kept (on_to st (λ pc place st. state.Goes [] (record {
        pc = pc;
        stack = state.Object q ∷ st;
        here = meaning.at place s.here;
        frames = s.frames;
        world = s.world;
      })))
      by_place [] q e c = stays_so p sites g
      by_place (To pc place ∷ st) q e c = goes_by (meaning.at place s.here) refl (e, c.1)
      by_place (x ∷ st) q e c = stays_so p sites g

  -- ---- elements of components

  each_whole : (is_opened : Bool) (number n : ℕ) (k : Kind) (c : m.Component) (bs : List Bool) (j : Kind) (rest : List CellType) → nat_lt 0 n ≡ true → length bs ≡ n → k.is_allocatable ≡ false →
      component_of types k.of number ≡ Some c → (t : Bool) → nat_eq k.rank 0 ≡ t → (cs : List Chosen) (st : List Cell) → AllChosen bs cs →
      Cells ((if t then cell.Object c.declared.kind else cell.Each k number c.declared.kind) ∷ cell.Object k ∷ rest) st →
      (if t then sectioned p [] [] is_opened (Some bs) c.declared.kind else element_of_each p [] [] is_opened (Some bs) k c.declared.kind) ≡ Some j →
      Kept (on_object st (λ q st. on_object st (λ y st. performs (by_reach y.reach (selects is_opened cs q here)
      (picks_in_each (spans_of_component (component_of w.program.types.items y.of number)) q cs here)) s.world (λ q. machine.on s (state.Object q ∷ st)))))
  each_whole is_opened number n k c bs j rest more many held at_m true one cs st chosen d part = object st d (λ q st1 h e is lent d1. object st1 d1 (λ y st2 h2 e2 is2 lent2 d2.
      let opened = truth_same _ _ (and_is _ _ (only_is _ _ j part).0).0 ∙ flat k.of number c at_m in
      performing_calm p sites g _ s.world (reach_one k y.reach _ _ store h2.1 one (selects_finds types flat Q is_opened q cs here store opened lent))
      (λ z u f e'. there e' (f, d2.whole))))
  each_whole is_opened number n k c bs j rest more many held at_m false one cs st chosen d part = at_each p sites g s fits.end st d (λ q st1 parts lent d1. object st1 d1 (λ y st2 h2 e2 is2 lent2 d2.
      let a = and_is _ _ (and_is _ _ (and_is _ _ (only_is _ _ j part).0).1).1 in
      let same = ap (λ ts. spans_of_component (component_of ts y.of number)) types_same ∙ ap (λ (b : Base). spans_of_component (component_of types b number)) h2.0 ∙ ap spans_of_component at_m in
      let some : nat_lt 0 c.declared.kind.rank ≡ true = ap (λ x. nat_lt 0 x) (sym (eqb-true _ _ a.0)) ∙ ap (λ x. nat_lt 0 x) many ∙ more in
      performing_calm p sites g _ s.world (reach_many k y.reach _ _ store held h2.1 one
      (each_finds types flat g store acc.store k.of number c at_m (spans_of_component (component_of w.program.types.items y.of number)) bs cs q here same a.0 a.1 some chosen parts lent))
      (λ z u f e'. there e' (f, d2.whole))))

  -- ---- instructions

  pub act_whole : (x : Instruction) → kinds.Goes p sites s.pc l x → IsClean x (map sort_of_type (sites s.pc).cells) → has_subscripts x ≡ true → Kept (act limit w code x l.value here s)
  act_whole (i.Push c) b cl some = goes (constant_set c, whole.stack)
  act_whole i.Plain (k, b) cl some = datum s.stack (had b.before) (λ x st h set q. goes (plain_set x set, q.whole))
  act_whole (i.Unary c t) (k, fit, b) cl some = datum s.stack (had b.before) (λ x st h set q.
      still (change_of c t x here.place) (change_still store c t x here.place) (λ y u e. with_datum y refl b.next e q.whole))
  act_whole (i.Binary c t) (k, j, fit, b) cl some = datum s.stack (had b.before) (λ y st f set q. datum st q (λ x st' h set' q'.
      still (apply c t x y here.place) (apply_still store c t x y here.place) (λ z u e. with_datum z refl b.next e q'.whole)))
  act_whole (i.Array n) (gs, k, many, is, values, b) cl some = at_arguments p sites g s fits.end gs n s.stack many (had b.before) (λ ps st passed lent q.
      performing_calm p sites g (built (Array (record { lower = pos 1; extent = length (given ps) } ∷ []) (joined (given ps))) here) s.world
      (built_set (Array (record { lower = pos 1; extent = length (given ps) } ∷ []) (joined (given ps))) here tt) (λ y u set e. there e (set, q.whole)))
  act_whole (i.Structure t n) (gs, k, many, is, all, b) cl some = at_arguments p sites g s fits.end gs n s.stack many (had b.before) (λ ps st passed lent q.
      performing_calm p sites g (structure (components_of (slice_index_or w.shapes t Whole)) 0 ps here >>= λ vs. built (Composite vs) here) s.world
      (bind_calm (structure_still store (components_of (slice_index_or w.shapes t Whole)) 0 ps here) (λ vs t. built_set (Composite vs) here tt)) (λ y u set e. there e (set, q.whole)))
  act_whole (i.Call f n) b cl some = call_whole f n b
  act_whole i.Result (k, b) cl some = datum s.stack (had b.before) (λ x st h set q. still (result x here) (result_still store x here) (λ y u e. with_datum y refl b.next e q.whole))
  act_whole i.IsAllocated (k, held, b) cl some = object s.stack (had b.before) (λ q st h e is lent c.
      still (looks (λ store. Truth (is_allocated (get store q.path)))) (looks_still store _) (λ y u e. with_datum y refl b.next e c.whole))
  act_whole i.BoundsOfValue (k, held, b) cl some = datum s.stack (had b.before) (λ x st h set q. goes (tt, q.whole))
  act_whole i.BoundsOfVariable (k, held, b) cl some = object s.stack (had b.before) (λ q st h e is lent c. goes (tt, c.whole))
  act_whole i.Size (n, b) cl some = at_bounds p sites g s fits.end s.stack (had b.before) (λ ss st q.
      still (converted base.Integer (Number (pos (count ss))) here.place) (converted_still store base.Integer _ here.place) (λ y u e. with_datum y refl b.next e q.whole))
  act_whole (i.Bound c) (k, n, number, b) cl some = datum s.stack (had b.before) (λ x st h set q. at_bounds p sites g s fits.end st q (λ ss st' q'.
      still (asked c ss (number_of x) here) (asked_still store c ss (number_of x) here) (λ y u e. with_datum y refl b.next e q'.whole)))
  act_whole i.Load (k, held, b) cl some = object s.stack (had b.before) (λ q st h e is lent c. still (read q here) (read_still store q here) (λ y u e. with_datum y held b.next e c.whole))
  act_whole (i.PassValue n) (k, b) cl some = datum s.stack (had b.before) (λ x st h set q. still (claim_for x here) (claim_for_still store x here) (λ y u e. there e (set, q.whole)))
  act_whole (i.PassVariable n) (k, b) cl some = object s.stack (had b.before) (λ q st h e is lent c. goes (lent, c.whole))
  act_whole (i.Refer x) b cl some =
      let c = in_is o _ b in
      performing_calm p sites g (named w x here) s.world
      (named_finds types flat p g store acc.store whole.roots w c.0 x here c.2.0 acc.statics (known_at c.0 c.1) (names_refer c.0 c.1) names c.2.1)
      (λ q u f e. there e (f, whole.stack))
  act_whole (i.Component n) (k, c, j, held, at_n, part, b) cl some = object s.stack (had b.before) (λ q st h e is lent d.
      performing_calm p sites g (component w n (Selected here.unit) q) s.world (component_finds types flat w store k n c (Selected here.unit) q held at_n h.1 is)
      (λ y u f e'. there e' (f, d.whole)))
  act_whole (i.ComponentOf n) (k, c, held, at_n, b) cl some = object s.stack (had b.before) (λ q st h e is lent d.
      performing_calm p sites g (component w n (Selected here.unit) q) s.world (component_finds types flat w store k n c (Selected here.unit) q held at_n h.1 is)
      (λ y u f e'. there e' (f, (lent, d.whole))))
  act_whole i.Contents (k, held, b) cl some = object s.stack (had b.before) (λ q st h e is lent c. never k q held h e)
  act_whole (i.Select is_opened n) (k, bs, j, many, part, b) cl some = at_choices p sites g s fits.end bs n s.stack many
      (had (b.before ∙ sym (choices_over bs (cell.Object k ∷ []) b.rest))) (λ cs st chosen q. object st q (λ y st' h e is lent c.
      let opened = truth_same _ _ (and_is _ _ (only_is _ _ j part).0).0 ∙ object_held k y h e in
      performing_calm p sites g (selects is_opened cs y here) s.world (selects_finds types flat Q is_opened y cs here store opened lent) (λ z u f e'. there e' (f, c.whole))))
  act_whole (i.SelectOf is_opened m n) (k, c, bs, j, many, held, at_m, part, b) cl some = at_choices p sites g s fits.end bs n s.stack many
      (had (b.before ∙ sym (choices_over bs (part_cell k m c.declared.kind ∷ cell.Object k ∷ []) b.rest)))
      (λ cs st chosen q. each_whole is_opened m n k c bs j b.rest some many held at_m (nat_eq k.rank 0) refl cs st chosen q part)
  act_whole i.Subscript (k, number, b) cl some = datum s.stack (had b.before) (λ x st h set q. goes (tt, q.whole))
  act_whole i.Limit (k, number, b) cl some = datum s.stack (had b.before) (λ x st h set q. goes (tt, q.whole))
  act_whole i.NoLimit b cl some = goes (tt, whole.stack)
  act_whole i.Triplet (k, number, b) cl some = datum s.stack (had b.before) (λ x st h set q. at_bound p sites g s fits.end st q (λ z st' q'.
      at_bound p sites g s fits.end st' q' (λ y st'' q''. goes (tt, q''.whole))))
  act_whole i.TestShape (k, j, fit, b) cl some = object s.stack (had b.before) (λ q st h e is lent c. datum st c (λ x st' f set c'.
      still (tested (conforms (spans q.reach) x) ShapesDiffer here) (tested_still store _ ShapesDiffer here) (λ y u e. there e whole.stack)))
  act_whole (i.ByState other unallocated) (k, j, held, fit, b) cl some = object s.stack (had b.before) (λ q st h e is lent c. never k q held h e)
  act_whole (i.TestRank rank) (k, j, fit, b) cl some = object s.stack (had b.before) (λ q st h e is lent c. datum st c (λ x st' f set c'.
      still (tested (nat_eq rank (length (spans_of x))) NotAllocated here) (tested_still store _ NotAllocated here) (λ y u e. there e whole.stack)))
  act_whole (i.New rank) (k, j, held, fit, same, same', start, b) cl some = object s.stack (had b.before) (λ q st h e is lent c. never k q held h e)
  act_whole (i.Take of) (k, j, same, held, fit, b) cl some = object s.stack (had b.before) (λ q st h e is lent c. datum st c (λ x st' f set' c'.
      changed (converted of x here.place >>= λ y. claim_for y here >>= λ done. set q y here)
      (calm_then (converted_calm types of x here.place) (λ y eq. calm_then (claim_for_still store y here) (λ d t. take_stays k j of q x same held fit f h e y eq)))
      (λ y u stays. there_on stays c'.whole)))
  act_whole (i.Fill of) (k, j, same, held, fit, b) cl some = object s.stack (had b.before) (λ q st h e is lent c. datum st c (λ x st' f set' c'.
      changed (converted of x here.place >>= λ y. set q y here) (calm_then (converted_calm types of x here.place) (λ y eq. take_stays k j of q x same held fit f h e y eq))
      (λ y u stays. there_on stays c'.whole)))
  act_whole i.Begin b cl some = still (begins here) (begins_still store here) (λ y u e. there e whole.stack)
  act_whole i.Drop (x, b) cl some = at_any p sites g s fits.end s.stack (clean_top (x ∷ b.rest) 1 b.before cl).0 (had b.before) (λ c st free h q. goes q.whole)
  act_whole (i.Unwind n) (xs, many, b) cl some = goes (subst (λ k. Below (drop k s.stack)) many
      (dropped xs b.rest s.stack (subst (λ k. ArePlain k (map sort_of_type (xs ++ b.rest))) (sym many) (clean_top (xs ++ b.rest) n b.before cl)) (had b.before)))
    where
      dropped : (xs rest : List CellType) (stack : List Cell) → ArePlain (length xs) (map sort_of_type (xs ++ rest)) → Cells (xs ++ rest) stack → Below (drop (length xs) stack)
      dropped [] rest stack e h = h.whole
      dropped (x ∷ xs) rest [] e h = absurd h.by
      dropped (x ∷ xs) rest (c ∷ stack) e h = dropped xs rest stack e.1 (free_off p sites g s fits.end x (xs ++ rest) c stack e.0 h).2
  act_whole i.Swap (x, y, b) cl some =
      let plain = clean_top (x ∷ y ∷ b.rest) 2 b.before cl in
      at_any p sites g s fits.end s.stack plain.0 (had b.before) (λ c st free h q. at_any p sites g s fits.end st plain.1.0 q (λ d st' free' h' q'.
      goes (stack_on (FramesAre s.frames) Q s.here.names d (c ∷ st') free' h' (stack_on (FramesAre s.frames) Q s.here.names c st' free h q'.whole))))
  act_whole i.LendBoth (k, b) cl some = object s.stack (had b.before) (λ q st h e is lent c. object st c (λ q' st' h' e' is' lent' c'. goes_by _ refl whole.stack))
  act_whole i.TakeOver (k, held, b) cl some = object s.stack (had b.before) (λ q st h e is lent c. never k q held h e)
  act_whole i.Dimension (k, j, number, number', b) cl some = datum s.stack (had b.before) (λ x st h set q. datum st q (λ y st' h' set' q'. goes (tt, q'.whole)))
  act_whole (i.Allocate rank n) (k, held, same, same', start, b) cl some =
      at_extents p sites g s fits.end n [] s.stack (had (b.before ∙ sym (extents_over n (cell.Object k ∷ []) b.rest))) (λ ss st q. object st q (λ q' st' h e is lent c. never k q' held h e))
  act_whole (i.TestFree d) (k, held, b) cl some = object s.stack (had b.before) (λ q st h e is lent c. never k q held h e)
  act_whole i.NoError b cl some = goes (tt, whole.stack)
  act_whole (i.SkipIfFailed d) b cl some = at_status p sites g s fits.end s.stack (had b.before) (λ x st q. by_status x st q)
    where
      by_status : (x : Option RunError) (st : List Cell) → Cells b.rest st → Kept (skips_failed x d s st)
      by_status None st q = goes q.whole
      by_status (Some error) st q = goes (tt, q.whole)
  act_whole i.Check b cl some = at_status p sites g s fits.end s.stack (had b.before) (λ x st q. still (checked x here) (checked_still store x here) (λ y u e. there e q.whole))
  act_whole i.StoreStatus (k, number, b) cl some = object s.stack (had b.before) (λ q st h e is lent c. at_status p sites g s fits.end st c (λ x st' c'.
      let a = and_is _ _ number in
      let held = not_is _ (and_is _ _ a.0).0 in
      changed (set q (Number (pos (status_number x))) here) (set_stays k q (Number (pos (status_number x))) held h e
      (taken_all types k q 0 (Number (pos (status_number x))) held h.1 refl (status_is types (of_kind k.of 0) x a.1)))
      (λ y u stays. there_on stays c'.whole)))
  act_whole i.PrintValue (k, shows, b) cl some = datum s.stack (had b.before) (λ x st h set q. still (print_value x) (print_still store x) (λ y u e. there e q.whole))
  act_whole (i.PrintByte c) b cl some = still (prints_bytes (c ∷ [])) (prints_still store (c ∷ [])) (λ y u e. there e whole.stack)
  act_whole (i.Stop n) b cl some = stays_so p sites g
  act_whole i.SetPlace b cl some = goes_by here refl whole.stack
  act_whole (i.GoOn d) b cl some = goes whole.stack
  act_whole (i.SkipIfFalse d) b cl some = datum s.stack (had b.before) (λ x st h set q. if_keeps p sites g (truth_of x) (λ t. goes q.whole) (λ t. goes q.whole))
  act_whole (i.SkipIfTrue d) b cl some = datum s.stack (had b.before) (λ x st h set q. if_keeps p sites g (truth_of x) (λ t. goes q.whole) (λ t. goes q.whole))
  act_whole (i.Meets x) b cl some = goes (tt, whole.stack)
  act_whole i.Selecting b cl some =
      let c = in_is o _ b in
      datum s.stack (had c.2.2.before) (λ x st h set q. goes_so p sites g (found {at = meaning.selecting x s.here} whole.roots (names, q.whole)))
  act_whole (i.Leave by d) b cl some =
      let c = in_is o _ b in
      at_outside p sites g s fits.end s.stack (had c.2.1.before) (λ outer st q. goes_so p sites g (found {at = outer} whole.roots (tt, q)))
  act_whole (i.Depart cycle exit) b cl some = at_going p sites g s fits.end s.stack (had b.before) (λ flow st q. by_flow flow st q)
    where
      by_flow : (flow : Flow) (st : List Cell) → Cells b.rest st → Kept (departs flow cycle exit s st)
      by_flow Onward st q = goes q.whole
      by_flow Cycled st q = goes q.whole
      by_flow Left st q = goes q.whole
      by_flow (Returned place) st q = goes_by (meaning.at place s.here) refl q.whole
  act_whole i.SelectVariable (k, held, b) cl some = object s.stack (had b.before) (λ q st h e is lent c. goes (lent, c.whole))
  act_whole (i.SelectValue of) (k, held, fit, b) cl some = datum s.stack (had b.before) (λ x st h set q.
      still (claim_for x here) (claim_for_still store x here) (λ y u e. there e (set, q.whole)))
  act_whole (i.Associate n) b cl some = associate_whole n b
  act_whole i.Associated (ks, b) cl some = at_going p sites g s fits.end s.stack (had b.before) (λ flow st q.
      at_level p sites g s fits.end st q (λ n rs st' e below. goes (e, whole.stack)))
  act_whole (i.NextObject d) (k, ks, b) cl some = at_objects p sites g s fits.end s.stack (had b.before) (λ rs st h e q. by_objects rs st h e q)
    where
      by_objects : (rs : List Reference) (st : List Cell) → AllRefer (k ∷ ks) rs → AllRefs Q rs → Cells b.rest st → Kept (next_object rs d s st)
      by_objects [] st h e q = absurd h
      by_objects (x ∷ rs) st h e q = goes (e.0, (e.1, q.whole))
  act_whole i.EndAssociate b cl some = end_whole b
  act_whole (i.Convert of) (k, number, number', b) cl some = datum s.stack (had b.before) (λ x st h set q.
      still (converted of x here.place) (converted_still store of x here.place) (λ y u e. with_datum y refl b.next e q.whole))
  act_whole i.TestStep (k, number, b) cl some = datum s.stack (had b.before) (λ x st h set q.
      still (unless_zero (number_of x) here) (unless_still store (number_of x) here) (λ y u e. there e whole.stack))
  act_whole i.CountBegin (k, number, b) cl some = object s.stack (had b.before) (λ q st h e is lent c. datum st c (λ by st1 h1 set1 c1. datum st1 c1 (λ last st2 h2 set2 c2.
      datum st2 c2 (λ start st3 h3 set3 c3.
      let held = not_is _ (and_is _ _ (and_is _ _ number).0).0 in
      changed (set q start here) (set_stays k q start held h e (taken_all types k q 0 start held h.1 refl h3)) (λ y u stays. there_on stays (tt, c3.whole))))))
  act_whole (i.CountNext d) b cl some = at_turns p sites g s fits.end s.stack (had b.before) (λ n by st q. by_turns n by st q)
    where
      by_turns : (n : ℕ) (by : ℤ) (st : List Cell) → Cells b.rest st → Kept (next_turn_at n by d s st)
      by_turns zero by st q = goes (tt, q.whole)
      by_turns (suc n) by st q = goes (tt, q.whole)
  act_whole (i.CountUp of) (k, number, same, b) cl some = object s.stack (had b.before) (λ q st h e is lent c. at_turns p sites g s fits.end st c (λ n by st' c'.
      let a = and_is _ _ number in
      let held = not_is _ (and_is _ _ a.0).0 in
      changed (looks (λ store. get store q.path) >>= λ old. converted of (Number (number_of old +ℤ by)) here.place >>= λ x. set q x here)
      (calm_then (looks_still store (λ store. get store q.path)) (λ old t.
      calm_then (number_calm types of (number_of old +ℤ by) here.place (subst (λ x. is_number x ≡ true) same a.1)) (λ x is.
      set_stays k q x held h e (taken_all types k q 0 x held h.1 refl (subst (λ y. IsOf types (of_kind y 0) x) (sym same) is)))))
      (λ y u stays. there_on stays c.whole)))
  act_whole i.Lend (k, b) cl some = object s.stack (had b.before) (λ q st h e is lent c. goes_by _ refl whole.stack)
  act_whole i.Unlend b cl some = goes_by _ refl whole.stack
  act_whole (i.SkipUnlessRank rank d) (k, held, b) cl some = object s.stack (had b.before) (λ q st h e is lent c.
      if_keeps p sites g (nat_eq rank (length (spans q.reach))) (λ t. goes whole.stack) (λ t. goes whole.stack))
  act_whole i.PassObject (k, b) cl some = object s.stack (had b.before) (λ q st h e is lent c. goes (lent, whole.stack))
  act_whole (i.Routine t) b cl some = routine_whole t b
  act_whole i.Back b cl some = back_whole b
  act_whole (i.WorkComponent n) (k, c, scalar, at_n, b) cl some = object s.stack (had b.before) (λ q st h e is lent d.
      performing_calm p sites g (component w n Language q) s.world (component_finds types flat w store k n c Language q (not_is _ (and_is _ _ scalar).0) at_n h.1 is)
      (λ y u f e'. there e' (f, whole.stack)))
  act_whole i.WalkBegin (k, held, b) cl some = object s.stack (had b.before) (λ q st h e is lent c. goes (lent, whole.stack))
  act_whole (i.WalkNext d) (k, b) cl some = at_elements p sites g s fits.end s.stack (had b.before) (λ ps st e q. object st q (λ x st' h f is lent c.
      by_elements ps x st' e lent c))
    where
      by_elements : (ps : List Path) (x : Reference) (st : List Cell) → AllAre Q ps → AllAre Q (paths x) → Cells b.rest st → Kept (next_element ps d x s st)
      by_elements [] x st e f c = goes (f, c.whole)
      by_elements (y ∷ ps) x st e f c = goes ((e.0, tt), (e.1, (f, c.whole)))
  act_whole (i.SkipUnlessAllocated d) (k, held, b) cl some = object s.stack (had b.before) (λ q st h e is lent c. never k q held h e)
  act_whole i.OpenContents (k, held, b) cl some = object s.stack (had b.before) (λ q st h e is lent c. never k q held h e)
  act_whole i.Free (k, held, b) cl some = object s.stack (had b.before) (λ q st h e is lent c. never k q held h e)
  act_whole i.Clear (k, b) cl some = object s.stack (had b.before) (λ q st h e is lent c.
      changed (clear q here) (clear_stays k q h e is) (λ y u stays. there_on stays whole.stack))
  act_whole i.Set (k, held, start, b) cl some = object s.stack (had b.before) (λ q st h e is lent c.
      changed (set q l.value here) (set_stays k q l.value held h e
      (subst (λ v. AllOf types (each_kind k q.reach) (spread (length (paths q)) v)) (sym start)
      (set_all types k q store (shape_in (setting_of p).shapes k.of) held h.1 is (λ known. initial_is p formed sense k.of known))))
      (λ y u stays. there_on stays whole.stack))
  act_whole i.Discard b cl some = goes whole.stack
  act_whole i.Dummies b cl some = goes (names, whole.stack)
  act_whole (i.ResultOf x) b cl some =
      let c = in_is (sites s.pc).scope _ b in
      performing_calm p sites g (looks (result_at x s.here.level) >>= λ y. built y here) s.world
      (bind_calm {Q = IsSet} (looks_calm (result_at x s.here.level) (result_set types flat p g store acc.store whole.roots x c.0 s.here.level r s.here.names (known_at c.0 c.1) c.2.0))
      (λ y h. built_set y here h)) (λ y u set e. there e (set, whole.stack))
  act_whole i.Outward b cl some = outward_whole
  act_whole (i.NextArgument n d) (k, ks, b) cl some = at_objects p sites g s fits.end s.stack (had b.before)
      (λ rs st h e q. by_objects rs (is_held (passed_at n (passed_in s.frames))) st h e q)
    where
      by_objects : (rs : List Reference) (held : Bool) (st : List Cell) → AllRefer (k ∷ ks) rs → AllRefs Q rs → Cells b.rest st → Kept (next_argument rs held d s st)
      by_objects [] held st h e q = absurd h
      by_objects (x ∷ rs) held st h e q = if_keeps p sites g held (λ t. goes (e.0, (e.1, q.whole))) (λ t. goes (e.1, q.whole))
  act_whole i.Return b cl some = return_whole b
  act_whole (i.GoBack d) b cl some = goes whole.stack
  act_whole i.Finish b cl some = stays_so p sites g
