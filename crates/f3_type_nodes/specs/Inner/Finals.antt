-- Final subroutines, as tables in memory say them (ISO/IEC 1539-1:2004, 4.5.5).
use Rattle.std.specs.Prelude.{ℕ, List, [], ◌∷◌, Option, None}
use Rattle.std.specs.List.{flat_map}
use Rattle.std.specs.Option.{option_map}
use Rattle.f3_lookups.specs.declared.lookup.Lookup.{Lookup}
use Rattle.f3_lookups.specs.declared.lookup.Lookup.TheVariants.{One}
use Rattle.f3_access.specs.Tables.{lookup_of}
use Rattle.f3_kinds.specs.Things.{map_or}
use Rattle.f3_tree.specs.declared.expression.Name.{Name}
use Rattle.f3_program.specs.declared.declarations.Final.{Final}
use Rattle.f3_finals.specs.Inner.Looked.{rank_at}
use Rattle.f3_part_rules.specs.declared.finalizers.Finalizers.{Finalizers}
use Rattle.f3_numbers.specs.Table.{procedure_at}
use Rattle.f3_declaration_nodes.specs.declared.whole.Whole.{Whole}

abbrev pub final_of : Whole → (entity : ℕ) → (rank : ℕ) → Final
final_of t e rank = record { rank = rank; procedure = procedure_at t.numbers.now e }

abbrev pub final_found : Whole → Finalizers → (type : ℕ) → Lookup → Option Final
final_found t f type (One e) = option_map (final_of t e) (rank_at f.first f.candidates.now type e)
final_found t f type _ = None

abbrev pub final_named : Whole → Finalizers → (scope type : ℕ) → Name → List Final
final_named t f scope type n = map_or [] (λ (x : Final). x ∷ []) (final_found t f type (lookup_of t.known.now.tables.now scope n.symbol))

abbrev pub finals_by : Whole → Finalizers → (scope type : ℕ) → List Name → List Final
finals_by t f scope type ns = flat_map (final_named t f scope type) ns
