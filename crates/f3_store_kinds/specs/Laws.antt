-- The laws of kinds of stores.
use Rattle.std.specs.Prelude.{◌≡◌, ◌<◌, ◌⊎◌, ℕ, true, false, Bool, nat_eq, List, [], ◌∷◌, ◌++◌, map, take, Some, slice_get}
use Rattle.f3_program.specs.declared.declarations.Component.{Component}
use Rattle.f3_program.specs.declared.declarations.Derived.{Derived}
use Rattle.f3_program.specs.declared.declarations.Kind.{Kind}
use Rattle.f3_program.specs.declared.program.Procedure.{Procedure}
use Rattle.f3_program.specs.declared.program.Program.{Program}
use Rattle.f3_program.specs.declared.program.Static.{Static}
use Rattle.f3_meaning_whole.specs.Value.{Span, Value, Array, Unallocated, Values, listed, shown}
use Rattle.f3_meaning_whole.specs.Store.{Store, Step, Path, part, put, put_all}
use Rattle.f3_meaning_whole.specs.Reference.{Maker, One, Many, Reference, paths, held_at}
use Rattle.f3_meaning_whole.specs.Ran.{Event, World, Gives}
use Rattle.f3_meaning_whole.specs.Act.{Setting, Here, Chosen, component, component_of, contents, picks, picks_in_each}
use Rattle.f3_meaning_whole.specs.Formed.{of_kind, IsWellFormed}
use Rattle.f3_meaning_whole.specs.Shape.{shapes_of}
use Rattle.f3_meaning_whole.specs.Exec.{declared_in}
use Rattle.f3_code.specs.Lower.{lowered_program}
use Rattle.f3_code.specs.State.{Entry, Code, State, Goes}
use Rattle.f3_code.specs.Machine.{step}
use Rattle.f3_code.specs.Code.{program_code}
use Rattle.f3_code.specs.Heap.{heap_step}
use Rattle.f3_heights.specs.Room.{state_after}
use Rattle.f3_cell_kinds.specs.Types.{Site}
use Rattle.f3_cell_kinds.specs.Kinds.{AreKinds}
use Rattle.f3_cell_kinds.specs.Sense.{MakesSense}
use Rattle.f3_cell_kinds.specs.Stands.{Stands}
use Rattle.f3_cell_kinds.specs.Laws.{site_at}
use Rattle.f3_cell_kinds.specs.Effect.{held_kind}
use Rattle.f3_cell_kinds.specs.Holds.{Reaches, Refers, is_one, IsOf, Fits}
use Rattle.f3_cell_kinds.specs.Ways.{kind_along}
use Rattle.f3_store_kinds.specs.Accords.{declared_kinds, Accords, Follows}
use Rattle.f3_store_kinds.specs.Clean.{AreClean}
use Rattle.f3_store_kinds.specs.There.{CellsThere}
use Rattle.f3_store_kinds.specs.Typing.{Typing, kind_by, cut, extended, IsBefore, each_kind, AreOf, AllOf}
use Rattle.f3_store_kinds.specs.Typing.{IsTyped, LeadsTo, LeadsBy, Leads, EachLeads, IsOrNone, AllOrNone}

-- A way leads to a kind as the declarations of arrays say too, or what it leads to is not there.
abbrev pub WaysAgree : Type 0
WaysAgree = (types : List Derived) (k j : Kind) (way : List Step) →
    (kind_along types way k ≡ Some j → kind_by types way k ≡ Some j)
    × ((v : Value) → IsOf types k v → kind_by types way k ≡ Some j → (kind_along types way k ≡ Some j) ⊎ (part v way ≡ Unallocated))

-- Where one object of a kind takes a value of its kind, the store is of the same kinds as before.
abbrev pub PutsKeep : Type 0
PutsKeep = (types : List Derived) (g : Typing) (store : Store) (k : Kind) (p : Path) (v : Value) →
    IsTyped types g store → LeadsTo types g k p → is_one k ≡ true → IsOf types k v → IsTyped types g (put store p v)

-- So where the objects that a reference reaches take each a value of its kind.
abbrev pub ChangesKeep : Type 0
ChangesKeep = (types : List Derived) (g : Typing) (store : Store) (k : Kind) (r : Reference) (vs : List Value) →
    IsTyped types g store → Reaches k r.reach → Leads types g k r → AllOf types (each_kind k r.reach) vs → IsTyped types g (put_all (paths r) vs store)

-- A level that begins adds its kinds, and references lead to where they led.
abbrev pub LevelsBegin : Type 0
LevelsBegin = (types : List Derived) (g : Typing) (store : Store) (ks : List Kind) (vs : List Value) → IsTyped types g store → AreOf types ks vs →
    IsTyped types (extended g ks) (record { statics = store.statics; levels = store.levels ++ vs ∷ [] })
    × ((k : Kind) (r : Reference) → Leads types g k r → Leads types (extended g ks) k r)

-- Levels that end take their kinds with them; paths from objects on other levels lead to where they led, and none from those that ended.
abbrev pub LevelsEnd : Type 0
LevelsEnd = (types : List Derived) (g : Typing) (store : Store) (n : ℕ) → IsTyped types g store →
    IsTyped types (cut n g) (record { statics = store.statics; levels = take n store.levels })
    × ((k : Kind) (p : Path) → IsBefore n p.root → LeadsTo types g k p → LeadsTo types (cut n g) k p)
    × ((k : Kind) (p : Path) → LeadsTo types (cut n g) k p → IsBefore n p.root × LeadsTo types g k p)

-- What is read at a reference is of the kind to which it leads, or there is nothing; of an array each element is so.
abbrev pub ReadsHold : Type 0
ReadsHold = (types : List Derived) (g : Typing) (store : Store) → IsTyped types g store →
    ((k : Kind) (p : Path) → LeadsBy types g k p One → IsOrNone types k (held_at store p One))
    × ((k : Kind) (p : Path) (ss : List Span) (ps : List Path) → LeadsBy types g k p (Many ss ps) →
    (vs : Values) × (held_at store p (Many ss ps) ≡ Array (shown ss) vs) × AllOrNone types (of_kind k.of 0) (listed vs))

-- A component of what leads leads to an object of its kind: that of one object, or of each element of an array.
abbrev pub ComponentsLead : Type 0
ComponentsLead = (types : List Derived) (g : Typing) (s : Setting) (k : Kind) (n : ℕ) (c : Component) (maker : Maker) (r q : Reference) (w u : World) →
    IsTyped types g w.store → k.is_allocatable ≡ false → component_of types k.of n ≡ Some c → Refers k r → Leads types g k r →
    ((component s n maker r).from w).end ≡ Gives q u →
    (nat_eq k.rank 0 ≡ true → Leads types g c.declared.kind q) × (nat_eq k.rank 0 ≡ false → EachLeads types g c.declared.kind q)

-- So does what an allocatable holds.
abbrev pub ContentsLead : Type 0
ContentsLead = (types : List Derived) (g : Typing) (k : Kind) (here : Here) (r q : Reference) (w u : World) → IsTyped types g w.store →
    k.is_allocatable ≡ true → Refers k r → Leads types g k r → ((contents r here).from w).end ≡ Gives q u → Leads types g (held_kind k) q

-- Elements and sections of what leads lead to elements of its type, and so do elements of a component of each element of an array.
abbrev pub ElementsLead : Type 0
ElementsLead = (types : List Derived) (g : Typing) (k : Kind) (here : Here) (r q : Reference) (cs : List Chosen) (w u : World) → k.is_allocatable ≡ false →
    (Refers k r → Leads types g k r → ((picks r r.reach cs here).from w).end ≡ Gives q u → EachLeads types g (of_kind k.of 0) q)
    × ((rank : ℕ) (ss : List Span) → nat_eq rank 0 ≡ false → Refers (of_kind k.of rank) r → EachLeads types g k r →
    ((picks_in_each ss r cs here).from w).end ≡ Gives q u → Leads types g (of_kind k.of rank) q)

-- The code of each program is clean.
abbrev pub CodeIsClean : Type 0
CodeIsClean = (p : Program) → AreClean (site_at p) (program_code (lowered_program p))

-- The procedures of a code begin with values of the kinds of their variables.
abbrev pub ValuesBegin : Program → Code → Type 0
ValuesBegin p code = (f : ℕ) (q : Procedure) (e : Entry) → slice_get p.procedures.items f ≡ Some q → slice_get code.procedures f ≡ Some e →
    AreOf p.types.items (declared_kinds (declared_in q)) e.initial

-- So do those of the code of a program that makes sense.
abbrev pub CodeBegins : Type 0
CodeBegins = (p : Program) → IsWellFormed p → MakesSense p → ValuesBegin p (program_code (lowered_program p))

-- Each step, in a program that makes sense, leads from a state that accords with a typing, and in which objects stand, to one that accords
-- with the typing that follows.
abbrev pub StepsAccord : Type 0
StepsAccord = (limit : ℕ) (w : Setting) (p : Program) (code : Code) (sites : ℕ → Site) → AreKinds p sites code → IsWellFormed p → MakesSense p →
    AreClean sites code → ValuesBegin p code →
    (s t : State) (out : List Event) (g : Typing) → Fits p.types.items sites s → Stands p sites s → Accords p sites g s →
    step limit w code s ≡ Goes out t →
    (h : Typing) × Follows g h × Accords p sites h t

-- The machine over a heap of a size keeps to this in the same way, and to what cells hold.
abbrev pub HeapStepsAccord : Type 0
HeapStepsAccord = (size limit : ℕ) (w : Setting) (p : Program) (code : Code) (sites : ℕ → Site) → AreKinds p sites code →
    IsWellFormed p → MakesSense p →
    AreClean sites code → ValuesBegin p code →
    w.program.types.items ≡ p.types.items → w.program.statics.items ≡ p.statics.items → w.shapes ≡ shapes_of p.types.items →
    (s t : State) (out : List Event) (g : Typing) → Fits p.types.items sites s → Stands p sites s → Accords p sites g s →
    heap_step size limit w code s ≡ Goes out t →
    Fits p.types.items sites t × (h : Typing) × Follows g h × Accords p sites h t

-- The state in which a program that makes sense begins accords with the typing of what is declared.
abbrev pub first_typing : Program → Typing
first_typing p = record { statics = map (λ (y : Static). y.declared.kind) p.statics.items; levels = declared_kinds (declared_in p.main) ∷ [] }

abbrev pub StartAccords : Type 0
StartAccords = (limit : ℕ) (p : Program) → IsWellFormed p → MakesSense p → (answers : ℕ → Bool) (s : State) →
    state_after limit (lowered_program p) (program_code (lowered_program p)) answers 0 ≡ Some s → Accords p (site_at p) (first_typing p) s

-- In each state of each run of a program that makes sense the store holds values of kinds, and all references lead to objects of the kinds
-- that are known for them, as long as objects have stood in the store before.
abbrev pub StoresHold : Type 0
StoresHold = (limit : ℕ) (p : Program) → IsWellFormed p → MakesSense p → (answers : ℕ → Bool) (k : ℕ) (s : State) →
    ((j : ℕ) (t : State) → j < k → state_after limit (lowered_program p) (program_code (lowered_program p)) answers j ≡ Some t →
    Stands p (site_at p) t) →
    state_after limit (lowered_program p) (program_code (lowered_program p)) answers k ≡ Some s → (g : Typing) × Accords p (site_at p) g s

-- In a state that accords with a typing the variables stand, and so do the objects on the stack where they are there.
abbrev pub PartsStand : Type 0
PartsStand = (p : Program) (sites : ℕ → Site) (s : State) (g : Typing) → Fits p.types.items sites s → Accords p sites g s →
    CellsThere s.world.store (sites s.pc).cells s.stack → Stands p sites s

-- So cells hold what their types say, and references lead to objects of their kinds, as long as what the objects on the stack reach has
-- been there before.
abbrev pub RunsAccord : Type 0
RunsAccord = (limit : ℕ) (p : Program) → IsWellFormed p → MakesSense p → (answers : ℕ → Bool) (k : ℕ) (s : State) →
    ((j : ℕ) (t : State) → j < k → state_after limit (lowered_program p) (program_code (lowered_program p)) answers j ≡ Some t →
    CellsThere t.world.store (site_at p t.pc).cells t.stack) →
    state_after limit (lowered_program p) (program_code (lowered_program p)) answers k ≡ Some s →
    Fits p.types.items (site_at p) s × (g : Typing) × Accords p (site_at p) g s
