-- What the passes over one scope look for.
use Rattle.std.specs.Prelude.{◌≡◌, ℕ, Bool, true, false, not, List, [], ◌∷◌, ◌++◌, Option, None, Some, map, length, nat_eq, nat_lt}
use Rattle.std.specs.Prelude.{if◌then◌else◌, ◌&&◌, ◌||◌, ◌==◌}
use Rattle.std.specs.List.{list_any}
use Rattle.std.specs.Global.{Vec}
use Rattle.indexmap.specs.IndexSet.{insert_key, insert_all}
use Rattle.f3_places.specs.declared.source.Place.{Place}
use Rattle.f3_rules.specs.declared.breaks.Break.{Break}
use Rattle.f3_rules.specs.declared.rule.Rule.{Rule}
use Rattle.f3_rules.specs.declared.rule.Rule.TheVariants.{N3, N5, N6, N8, N9, N10}
use Rattle.f3_tree.specs.declared.expression.Name.{Name}
use Rattle.f3_tree.specs.declared.declaration.Intent.{Intent}
use Rattle.f3_tree.specs.declared.declaration.Intent.TheVariants.{In, Out, InOut}
use Rattle.f3_scopes.specs.declared.outline.ScopeKind.{ScopeKind}
use Rattle.f3_scopes.specs.declared.outline.ScopeKind.TheVariants.{Module, Program, Subroutine, Function, Associate}
use Rattle.f3_scopes.specs.declared.outline.EntityKind.{EntityKind}
use Rattle.f3_scopes.specs.declared.outline.EntityKind.TheVariants as entity
use Rattle.f3_scopes.specs.declared.outline.Component.{Component}
use Rattle.f3_scopes.specs.declared.outline.AccessOutline.{AccessOutline}
use Rattle.f3_breaks.specs.Among.{Among}
use Rattle.f3_scopes.specs.Outlines.{Own, Listed, part_view}
use Rattle.f3_scope_rules.specs.ScopeBreaks.{at, at_keyword, Again, component_names}

-- this break, where the answer is yes
abbrev pub If : Bool → Break → Break → Type 0
If t found b = (t ≡ true) × (b ≡ found)

-- a pass over a list, where what was met before decides
abbrev pub pass : {S X : Type 0} → (S → X → List Break) → (S → X → S) → S → List X → List Break
pass row next s [] = []
pass row next s (x ∷ xs) = row s x ++ pass row next (next s x) xs

-- ---- names that stand again

abbrev pub again_row : Rule → List ℕ → Name → List Break
again_row rule seen n = if list_any (nat_eq n.symbol) seen then at rule n ∷ [] else []

abbrev pub again_next : List ℕ → Name → List ℕ
again_next seen n = insert_key nat_eq seen n.symbol

-- a name that stands behind the same name
abbrev pub AgainIn : Rule → List Name → Break → Type 0
AgainIn rule names b = (later : Name) × Again names later × (b ≡ at rule later)

-- a component behind one of the same name
abbrev pub ComponentAgain : Vec Component → Break → Type 0
ComponentAgain parts = AgainIn N3 (component_names (map part_view parts.items))

-- ---- what a procedure's name means

abbrev pub has_other_result : ScopeKind → Option Name → Bool
has_other_result Module outcome = false
has_other_result Program outcome = false
has_other_result Subroutine outcome = true
has_other_result Function None = false
has_other_result Function (Some n) = true
has_other_result Associate outcome = false

-- a declared name that is the procedure's own, where that does not mean the result
abbrev pub OwnName : Bool → ℕ → Name → Break → Type 0
OwnName has_other symbol n = If (has_other && (n.symbol == symbol)) (at N3 n)

-- ---- access

abbrev pub StatementOutside : Bool → AccessOutline → Break → Type 0
StatementOutside is_outside s = If is_outside (at_keyword N5 s.place)

abbrev pub AttributeOutside : Bool → Place → Break → Type 0
AttributeOutside is_outside place = If is_outside (at_keyword N5 place)

-- a component with more than one access
abbrev pub ComponentTwice : Component → Break → Type 0
ComponentTwice c = If (nat_lt 1 (length c.accesses.items)) (at N6 c.name)

abbrev pub ComponentsTwice : Vec Component → Break → Type 0
ComponentsTwice parts = Among ComponentTwice parts.items

-- the statement has no list
abbrev pub is_default : Listed → Bool
is_default s = length s.names == 0

abbrev pub default_row : Bool → Listed → List Break
default_row had s = if had && is_default s then at_keyword N6 s.place ∷ [] else []

abbrev pub default_next : Bool → Listed → Bool
default_next had s = had || is_default s

-- ---- sets of names

abbrev pub symbols : List Name → List ℕ
symbols names = insert_all nat_eq [] (map (λ (n : Name). n.symbol) names)

abbrev pub is_known : List ℕ → Name → Bool
is_known known n = list_any (nat_eq n.symbol) known

-- ---- PROTECTED

abbrev pub is_variable : EntityKind → Bool
is_variable entity.Variable = true
is_variable _ = false

abbrev pub variable_name : Own → List Name
variable_name d = if is_variable d.kind then d.name ∷ [] else []

abbrev pub protected_name : Own → List Name
protected_name d = if d.is_protected then d.name ∷ [] else []

-- a name under PROTECTED, outside a module or of no variable declared in it
abbrev pub Misprotected : Bool → List ℕ → Name → Break → Type 0
Misprotected is_outside variables n = If (is_outside || not (is_known variables n)) (at N8 n)

-- ---- INTENT

abbrev pub is_other : Intent → Bool
is_other In = false
is_other Out = true
is_other InOut = true

abbrev pub is_misplaced : Bool → Bool → List Intent → Bool
is_misplaced is_dummy is_function intents =
    if is_dummy then (length intents == 0) || (is_function && list_any is_other intents) else nat_lt 0 (length intents)

abbrev pub is_function : ScopeKind → Bool
is_function Module = false
is_function Program = false
is_function Subroutine = false
is_function Function = true
is_function Associate = false

abbrev pub Misintended : Bool → List ℕ → Own → Break → Type 0
Misintended is_function dummies d = If (is_misplaced (is_known dummies d.name) is_function d.intents) (at N9 d.name)

-- ---- what is to be declared

abbrev pub Missing : List ℕ → Name → Break → Type 0
Missing declared n = If (not (is_known declared n)) (at N10 n)
