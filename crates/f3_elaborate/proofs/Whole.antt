-- What is known of a whole program, and its elaborated program from its parts.
use Rattle.std.proofs.Common.{◌≡◌, ℕ, Result, Ok, Err, IfOk, List, Option, None, nat_eq, map, slice_get, ap, sym, ◌∙◌}
use Rattle.std.specs.List.{flat_map}
use Rattle.std.specs.Map.{lookup}
use Rattle.f3_lookups.specs.declared.lookup.Lookup.{Lookup}
use Rattle.f3_places.specs.declared.source.Place.{Place}
use Rattle.f3_tree.specs.Tree.{Tree}
use Rattle.f3_kinds.specs.declared.types.Scalar.{Scalar}
use Rattle.f3_kinds.specs.Things.{map_or}
use Rattle.f3_typed_parts.specs.declared.known.Known.{Known}
use Rattle.f3_type_rules.specs.Members.{Numbered}
use Rattle.f3_type_rules.specs.Program.{units_in}
use Rattle.f3_declared.specs.declared.scenery.Scenery.{Scenery}
use Rattle.f3_declared.specs.Scenery.{scene_in as standing}
use Rattle.f3_scopes.specs.declared.outline.EntityKind.{EntityKind}
use Rattle.f3_type_rules.specs.declared.definition.Holder.{Holder}
use Rattle.f3_type_rules.specs.Scene.{Scene}
use Rattle.f3_types.specs.Scenes.{scene_with}
use Rattle.f3_types.specs.Parts.{scene_in, declared_along, units_of}
use Rattle.f3_numbers.specs.declared.numbers.Numbers.{Numbers as Table}
use Rattle.f3_numbers.specs.Agrees.{Agrees, nothing_inside}
use Rattle.f3_declaration_nodes.specs.declared.whole.Whole.{Whole as Tables}
use Rattle.f3_declaration_nodes.specs.Stands.{Stands}
use Rattle.f3_elaboration.specs.Declarations.{Whole, derived, static}
use Rattle.f3_elaboration.specs.Nodes.{DerivedNode, StaticNode, ProcedureNode, ProgramNode}
use Rattle.f3_elaboration.specs.Numbers.{definitions, numbers_of, unit_statics}
use Rattle.f3_elaboration.specs.Program.{main_unit, nothing_done, program_along, whole_along}
use Rattle.f3_elaboration.specs.Units.{main}
use Rattle.f3_inside.specs.declared.state.State.{State}
use Rattle.f3_elaborate.specs.Inner.Knows.{Knows}
use Rattle.f3_elaborate.specs.Inner.Units.{procedures_in}

-- what is known of the program of a tree
abbrev pub whole_of : Tree → (look : ℕ → ℕ → Lookup) → (order : List ℕ) → Whole
whole_of t look order = whole_along (scene_in t look) t.texts (units_of t) (units_in (units_of t) order)

abbrev pub ValuesAre : Tree → (look : ℕ → ℕ → Lookup) → (order : List ℕ) → List (Option Scalar) → Type 0
ValuesAre t look order values = (e : ℕ) → map_or None (λ (v : Option Scalar). v) (slice_get values e) ≡ lookup (nat_eq e) (declared_along t look order).values

abbrev pub NumbersAre : Tree → (order : List ℕ) → Table → Type 0
NumbersAre t order numbers = Agrees numbers (numbers_of (units_of t) (units_in (units_of t) order)) nothing_inside

pub stands : (t : Tree) (look : ℕ → ℕ → Lookup) (order : List ℕ) (tables : Tables) → standing tables.known.now tables.scenery ≡ scene_in t look
    → ValuesAre t look order tables.known.now.values.items → NumbersAre t order tables.numbers.now → Stands tables (whole_of t look order) nothing_inside
stands t look order tables scene values numbers = record { scene = sym scene; values = λ e. sym (values e); numbers = numbers }

pub knows : (t : Tree) (look : ℕ → ℕ → Lookup) (order : List ℕ) (scenery : Scenery) (s : State) → standing s.site.known scenery ≡ scene_in t look
    → ValuesAre t look order s.site.known.values.items → NumbersAre t order s.numbers → map (λ x. x.items) s.texts.now ≡ t.texts → Knows scenery s (whole_of t look order)
knows t look order scenery s scene values numbers texts = record { scene = sym scene; values = λ e. sym (values e); numbers = numbers; texts = texts }

abbrev program_made : List DerivedNode → List StaticNode → List ProcedureNode → ProcedureNode → Place → ProgramNode
program_made types statics procedures main start = record { types = types; statics = statics; procedures = procedures; main = main; start = start }

program_same : {ts us : List DerivedNode} {ss rs : List StaticNode} {ps qs : List ProcedureNode} {m n : ProcedureNode} {p q : Place}
    → ts ≡ us → ss ≡ rs → ps ≡ qs → m ≡ n → p ≡ q → program_made ts ss ps m p ≡ program_made us rs qs n q
program_same e1 e2 e3 e4 e5 = cc

pub made : (w : Whole) (units ordered : List Numbered) (end : Place) (ts : List DerivedNode) (ss : List StaticNode) (ps : List ProcedureNode) (m : ProcedureNode) (p : Place)
    → ts ≡ map (derived w) (flat_map definitions ordered)
    → ss ≡ map (static w) (flat_map unit_statics units)
    → ps ≡ flat_map (procedures_in w) units
    → m ≡ map_or (nothing_done end) (main w) (main_unit units)
    → p ≡ map_or end (λ (u : Numbered). (u.tree).place) (main_unit units)
    → program_made ts ss ps m p ≡ program_along w units ordered end
made w units ordered end ts ss ps m p types statics procedures main_is start = program_same types statics procedures main_is start

pub scene_there : (known : Known) (kinds there : List EntityKind) (holders given : List Holder) (s : Scene) → there ≡ kinds → given ≡ holders → scene_with known kinds holders ≡ s
    → scene_with known there given ≡ s
scene_there known kinds there holders given s k h same = ap (λ x. scene_with known x given) k ∙ ap (λ x. scene_with known kinds x) h ∙ same

pub values_there : (t : Tree) (look : ℕ → ℕ → Lookup) (order : List ℕ) (values given : List (Option Scalar)) → given ≡ values → ValuesAre t look order values → ValuesAre t look order given
values_there t look order values given same h e = ap (λ vs. map_or None (λ (v : Option Scalar). v) (slice_get vs e)) same ∙ h e

pub mapped : {X E : Type 0} {P Q : X → Type 0} (r : Result X E) → ((x : X) → P x → Q x) → IfOk r P → IfOk r Q
mapped (Ok x) f h = f x h
mapped (Err e) f h = h
