-- The breaks of the rules on what is visible as lists, made along the outlines.
use Rattle.std.specs.Prelude.{ℕ, ◌+◌, List, [], ◌∷◌, ◌++◌, Bool, Option, None, Some, nat_eq, if◌then◌else◌}
use Rattle.std.specs.List.{flat_map, list_any}
use Rattle.f3_rules.specs.declared.breaks.Break.{Break}
use Rattle.f3_rules.specs.declared.rule.Rule.TheVariants.{N1, N2, N4, N7, N10, N11}
use Rattle.f3_tree.specs.declared.expression.Name.{Name}
use Rattle.f3_scopes.specs.declared.outline.UseItem.{UseItem}
use Rattle.f3_scopes.specs.declared.outline.UseOutline.{UseOutline}
use Rattle.f3_scopes.specs.declared.outline.Declared.{Declared}
use Rattle.f3_scopes.specs.declared.outline.AccessOutline.{AccessOutline}
use Rattle.f3_scopes.specs.declared.outline.Outline.{Outline}
use Rattle.f3_lookups.specs.declared.lookup.Lookup.{Lookup}
use Rattle.f3_lookups.specs.declared.lookup.Lookup.TheVariants.{One, Nothing, Several}
use Rattle.f3_access.specs.declared.table.Tables.{Tables}
use Rattle.f3_scopes.specs.Kinds.{is_module}
use Rattle.f3_access.specs.Tables.{used_of, lookup_of, private_of, module_of}
use Rattle.f3_name_rules.specs.Intrinsics.{is_intrinsic}
use Rattle.f3_breaks.specs.At.{at}
use Rattle.f3_name_rules.specs.NameBreaks.{text_of}

-- a use-name, by what its module has under it and whether that is private there
abbrev pub seen_row : Lookup → Bool → Name → List Break
seen_row Nothing is_private name = at 3 N1 name ∷ []
seen_row (One e) is_private name = if is_private then at 3 N2 name ∷ [] else []
seen_row Several is_private name = if is_private then at 3 N2 name ∷ [] else []

abbrev pub item_row : Tables → ℕ → UseItem → List Break
item_row tables source item = seen_row (lookup_of tables source item.original.symbol) (private_of tables source item.original.symbol) item.original

-- the items of a USE, where there is such a module
abbrev pub items_row : Tables → Option ℕ → List UseItem → List Break
items_row tables None items = []
items_row tables (Some source) items = flat_map (item_row tables source) items

abbrev pub use_row : Tables → UseOutline → List Break
use_row tables outline = items_row tables (module_of tables outline.module.symbol) outline.items.items

-- a name that is given an attribute
abbrev pub attribute_row : Tables → ℕ → Name → List Break
attribute_row tables number name = if list_any (nat_eq name.symbol) (used_of tables number) then at 4 N4 name ∷ [] else []

abbrev pub declared_row : Tables → ℕ → Declared → List Break
declared_row tables number declared = attribute_row tables number declared.name

-- a name that is given an access, by what is visible under it
abbrev pub missing_row : Lookup → Name → List Break
missing_row Nothing name = at 4 N7 name ∷ []
missing_row (One e) name = []
missing_row Several name = []

abbrev pub listed_row : Tables → ℕ → Name → List Break
listed_row tables number name = missing_row (lookup_of tables number name.symbol) name

abbrev pub access_row : Tables → ℕ → AccessOutline → List Break
access_row tables number statement = flat_map (listed_row tables number) statement.names.items

-- the access statements, in a module
abbrev pub accesses_row : Tables → ℕ → Bool → List AccessOutline → List Break
accesses_row tables number is_in_module statements = if is_in_module then flat_map (access_row tables number) statements else []

-- a reference, by what is visible under its name and whether an intrinsic procedure has it
abbrev pub found_row : Lookup → Bool → Name → List Break
found_row (One e) is_known name = []
found_row Several is_known name = at 4 N11 name ∷ []
found_row Nothing is_known name = if is_known then [] else at 4 N10 name ∷ []

abbrev pub reference_row : Tables → List (List ℕ) → ℕ → Name → List Break
reference_row tables texts number name = found_row (lookup_of tables number name.symbol) (is_intrinsic (text_of texts name.symbol)) name

-- what is broken where a scope declares names
abbrev pub attributes_row : Tables → ℕ → Outline → List Break
attributes_row tables number outline =
    flat_map (declared_row tables number) outline.declared.items
    ++ flat_map (attribute_row tables number) outline.protects.items

-- what is broken where a scope refers to names
abbrev pub mentions_row : Tables → List (List ℕ) → ℕ → Outline → List Break
mentions_row tables texts number outline =
    accesses_row tables number (is_module outline.kind) outline.accesses.items
    ++ flat_map (reference_row tables texts number) outline.references.items

-- the scope of this number
abbrev pub scope_row : Tables → List (List ℕ) → ℕ → Outline → List Break
scope_row tables texts number outline =
    flat_map (use_row tables) outline.uses.items
    ++ (attributes_row tables number outline ++ mentions_row tables texts number outline)

-- the scopes from this number on
abbrev pub scopes_row : Tables → List (List ℕ) → ℕ → List Outline → List Break
scopes_row tables texts number [] = []
scopes_row tables texts number (outline ∷ outlines) = scope_row tables texts number outline ++ scopes_row tables texts (number + 1) outlines
