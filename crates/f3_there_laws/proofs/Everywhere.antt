-- All objects to which anything in a state refers are there.
use Rattle.std.proofs.Common.{ℕ, List, [], ◌∷◌, ◌++◌}
use Rattle.f3_meaning_whole.specs.Store.{Path}
use Rattle.f3_meaning_whole.specs.Reference.{Reference, paths}
use Rattle.f3_meaning_whole.specs.Act.{Passed, Given, Lent}
use Rattle.f3_meaning_whole.specs.Exec.{Association, Holds, Means}
use Rattle.f3_code.specs.State as state
use Rattle.f3_code.specs.State.{Cell, Frame, State}
use Rattle.f3_cell_kinds.specs.Types.{CellType, sort_of_type}
use Rattle.f3_cell_kinds.specs.Types as cell
use Rattle.f3_cell_kinds.specs.Holds.{Is}
use Rattle.f3_program.specs.declared.declarations.Derived.{Derived}
use Rattle.f3_store_kinds.specs.Clean.{IsPlain}
use Rattle.f3_store_kinds.specs.There.{PathThere}
use Rattle.f3_store_kinds.specs.Typing.{IsBefore}
use Rattle.f3_there_laws.proofs.Forms.{IsSet}
use Rattle.f3_there_laws.proofs.Roots.{RootsSet}

-- ---- what is asked of all paths, and of all values

abbrev pub AllAre : (Path → Type 0) → List Path → Type 0
AllAre Q [] = Unit {0}
AllAre Q (p ∷ ps) = Q p × AllAre Q ps

abbrev pub AllRefs : (Path → Type 0) → List Reference → Type 0
AllRefs Q [] = Unit {0}
AllRefs Q (r ∷ rs) = AllAre Q (paths r) × AllRefs Q rs

abbrev pub PassedIs : (Path → Type 0) → Passed → Type 0
PassedIs Q (Given n v) = IsSet v
PassedIs Q (Lent n r) = AllAre Q (paths r)

abbrev pub SelectorIs : (Path → Type 0) → Association → Type 0
SelectorIs Q (Holds of v) = IsSet v
SelectorIs Q (Means r) = AllAre Q (paths r)

abbrev pub AllPasseds : (Path → Type 0) → List Passed → Type 0
AllPasseds Q [] = Unit {0}
AllPasseds Q (x ∷ xs) = PassedIs Q x × AllPasseds Q xs

abbrev pub AllSelectors : (Path → Type 0) → List Association → Type 0
AllSelectors Q [] = Unit {0}
AllSelectors Q (x ∷ xs) = SelectorIs Q x × AllSelectors Q xs

abbrev pub CellIs : (Path → Type 0) → Cell → Type 0
CellIs Q (state.Datum v) = IsSet v
CellIs Q (state.Object r) = AllAre Q (paths r)
CellIs Q (state.Argument x) = PassedIs Q x
CellIs Q (state.Elements ps) = AllAre Q ps
CellIs Q (state.Objects rs) = AllRefs Q rs
CellIs Q (state.Selector a) = SelectorIs Q a
CellIs Q c = Unit {0}

-- on no level from this one on
abbrev pub Beneath : ℕ → (Path → Type 0) → Path → Type 0
Beneath n Q q = IsBefore n q.root × Q q

-- The cells of an activation whose statements name such objects, and what is beneath them. What stands beneath a level refers to nothing
-- on it or on those behind it.
abbrev pub StackIs : ((Path → Type 0) → Type 0) → (Path → Type 0) → List Reference → List Cell → Type 0
StackIs Rest Q names [] = AllRefs Q names × Rest Q
StackIs Rest Q names (state.Outside outer ∷ below) = AllRefs Q names × StackIs Rest Q outer.names below
StackIs Rest Q names (state.Level from rs ∷ below) = AllRefs Q rs × StackIs Rest (Beneath from Q) names below
StackIs Rest Q names (c ∷ below) = CellIs Q c × StackIs Rest Q names below

abbrev pub FramesAre : List Frame → (Path → Type 0) → Type 0
FramesAre [] Q = Unit {0}
FramesAre (f ∷ fs) Q = AllRefs (Beneath f.level Q) f.caller.names × StackIs (FramesAre fs) (Beneath f.level Q) f.here.names f.stack

-- Everything is there to which a state refers, and nothing that it holds is allocatable.
pub record IsWhole (s : State) : Type 0 where
  pub roots : RootsSet s.world.store
  pub stack : StackIs (FramesAre s.frames) (PathThere s.world.store) s.here.names s.stack

-- ---- by what is asked less of

pub paths_map : (Q R : Path → Type 0) → ((q : Path) → Q q → R q) → (ps : List Path) → AllAre Q ps → AllAre R ps
paths_map Q R f [] h = tt
paths_map Q R f (p ∷ ps) h = (f p h.0, paths_map Q R f ps h.1)

pub refs_map : (Q R : Path → Type 0) → ((q : Path) → Q q → R q) → (rs : List Reference) → AllRefs Q rs → AllRefs R rs
refs_map Q R f [] h = tt
refs_map Q R f (r ∷ rs) h = (paths_map Q R f (paths r) h.0, refs_map Q R f rs h.1)

pub refs_append : (Q : Path → Type 0) (rs qs : List Reference) → AllRefs Q rs → AllRefs Q qs → AllRefs Q (rs ++ qs)
refs_append Q [] qs h k = k
refs_append Q (r ∷ rs) qs h k = (h.0, refs_append Q rs qs h.1 k)

pub passed_map : (Q R : Path → Type 0) → ((q : Path) → Q q → R q) → (x : Passed) → PassedIs Q x → PassedIs R x
passed_map Q R f (Given n v) h = h
passed_map Q R f (Lent n r) h = paths_map Q R f (paths r) h

pub selector_map : (Q R : Path → Type 0) → ((q : Path) → Q q → R q) → (a : Association) → SelectorIs Q a → SelectorIs R a
selector_map Q R f (Holds of v) h = h
selector_map Q R f (Means r) h = paths_map Q R f (paths r) h

cell_map : (Q R : Path → Type 0) → ((q : Path) → Q q → R q) → (c : Cell) → CellIs Q c → CellIs R c
cell_map Q R f (state.Object r) h = paths_map Q R f (paths r) h
cell_map Q R f (state.Argument x) h = passed_map Q R f x h
cell_map Q R f (state.Elements ps) h = paths_map Q R f ps h
cell_map Q R f (state.Objects rs) h = refs_map Q R f rs h
cell_map Q R f (state.Selector a) h = selector_map Q R f a h
cell_map Q R f c h = h

pub stack_map : (Rest Below : (Path → Type 0) → Type 0) → ((Q R : Path → Type 0) → ((q : Path) → Q q → R q) → Rest Q → Below R) → (Q R : Path → Type 0) → ((q : Path) → Q q → R q) →
    (names : List Reference) (cs : List Cell) → StackIs Rest Q names cs → StackIs Below R names cs
stack_map Rest Below rest Q R f names [] h = (refs_map Q R f names h.0, rest Q R f h.1)
stack_map Rest Below rest Q R f names (state.Outside outer ∷ below) h = (refs_map Q R f names h.0, stack_map Rest Below rest Q R f outer.names below h.1)
stack_map Rest Below rest Q R f names (state.Level from rs ∷ below) h =
    (refs_map Q R f rs h.0, stack_map Rest Below rest (Beneath from Q) (Beneath from R) (λ q k. (k.0, f q k.1)) names below h.1)
stack_map Rest Below rest Q R f names (c ∷ below) h = (cell_map Q R f c h.0, stack_map Rest Below rest Q R f names below h.1)

pub frames_map : (fs : List Frame) (Q R : Path → Type 0) → ((q : Path) → Q q → R q) → FramesAre fs Q → FramesAre fs R
frames_map [] Q R f h = tt
frames_map (x ∷ fs) Q R f h = (
  refs_map (Beneath x.level Q) (Beneath x.level R) (λ q k. (k.0, f q k.1)) x.caller.names h.0,
  stack_map (FramesAre fs) (FramesAre fs) (frames_map fs) (Beneath x.level Q) (Beneath x.level R) (λ q k. (k.0, f q k.1)) x.here.names x.stack h.1,
)

-- ---- what is known of a stack

-- what statements may name
pub names_are : (Rest : (Path → Type 0) → Type 0) (Q : Path → Type 0) (names : List Reference) (cs : List Cell) → StackIs Rest Q names cs → AllRefs Q names
names_are Rest Q names [] h = h.0
names_are Rest Q names (state.Outside outer ∷ below) h = h.0
names_are Rest Q names (state.Level from rs ∷ below) h = refs_map (Beneath from Q) Q (λ q k. k.1) names (names_are Rest (Beneath from Q) names below h.1)
names_are Rest Q names (c ∷ below) h = names_are Rest Q names below h.1

-- what is beneath, where less may be asked of it
pub rest_is : (Rest : (Path → Type 0) → Type 0) → ((Q R : Path → Type 0) → ((q : Path) → Q q → R q) → Rest Q → Rest R) → (Q : Path → Type 0) (names : List Reference) (cs : List Cell) →
    StackIs Rest Q names cs → Rest Q
rest_is Rest less Q names [] h = h.1
rest_is Rest less Q names (state.Outside outer ∷ below) h = rest_is Rest less Q outer.names below h.1
rest_is Rest less Q names (state.Level from rs ∷ below) h = less (Beneath from Q) Q (λ q k. k.1) (rest_is Rest less (Beneath from Q) names below h.1)
rest_is Rest less Q names (c ∷ below) h = rest_is Rest less Q names below h.1

-- the names of a caller, which refer to nothing that is not there beneath
pub renamed : (Rest : (Path → Type 0) → Type 0) → ((Q R : Path → Type 0) → ((q : Path) → Q q → R q) → Rest Q → Rest R) → (others : List Reference) →
    ((R : Path → Type 0) → Rest R → AllRefs R others) → (Q : Path → Type 0) (names : List Reference) (cs : List Cell) → StackIs Rest Q names cs → StackIs Rest Q others cs
renamed Rest less others are Q names [] h = (are Q h.1, h.1)
renamed Rest less others are Q names (state.Outside outer ∷ below) h = (are Q (rest_is Rest less Q outer.names below h.1), h.1)
renamed Rest less others are Q names (state.Level from rs ∷ below) h = (h.0, renamed Rest less others are (Beneath from Q) names below h.1)
renamed Rest less others are Q names (c ∷ below) h = (h.0, renamed Rest less others are Q names below h.1)

-- ---- cells that are no part of a construct

abbrev pub IsFree : Cell → Type 0
IsFree (state.Outside outer) = ⊥
IsFree (state.Level from rs) = ⊥
IsFree c = Unit {0}

pub stack_off : (Rest : (Path → Type 0) → Type 0) (Q : Path → Type 0) (names : List Reference) (c : Cell) (cs : List Cell) → IsFree c → StackIs Rest Q names (c ∷ cs) →
    CellIs Q c × StackIs Rest Q names cs
stack_off Rest Q names (state.Outside outer) cs e h = absurd e
stack_off Rest Q names (state.Level from rs) cs e h = absurd e
stack_off Rest Q names c cs e h = h

pub stack_on : (Rest : (Path → Type 0) → Type 0) (Q : Path → Type 0) (names : List Reference) (c : Cell) (cs : List Cell) → IsFree c → CellIs Q c → StackIs Rest Q names cs →
    StackIs Rest Q names (c ∷ cs)
stack_on Rest Q names (state.Outside outer) cs e h k = absurd e
stack_on Rest Q names (state.Level from rs) cs e h k = absurd e
stack_on Rest Q names c cs e h k = (h, k)

pub free_is : (types : List Derived) (x : CellType) (c : Cell) → IsPlain (sort_of_type x) → Is types x c → IsFree c
free_is types (cell.Outside d) c e h = absurd e
free_is types (cell.Level ks) c e h = absurd e
free_is types x (state.Outside outer) e h = absurd h
free_is types x (state.Level from rs) e h = absurd h
free_is types x c e h = tt
