-- No source spells a type definition in a procedure.
use Rattle.std.proofs.Common.{sym, subst, zero, suc, false, List, [], ◌∷◌, Option, Some, None}
use Rattle.f3_places.specs.declared.source.Place.{Place}
use Rattle.f3_places.specs.declared.source.Source.{Source}
use Rattle.f3_tree.specs.declared.program.UnitKind.{UnitKind}
use Rattle.f3_tree.specs.declared.program.UnitKind.TheVariants.{Module, Program}
use Rattle.f3_tree.specs.Declarations.{SpecificationTree, defines}
use Rattle.f3_tree.specs.Statements.{Block}
use Rattle.f3_tree.specs.Tree.{ProcedureTree, UnitTree, Tree}
use Rattle.f3_blocks.specs.Pieces.{Placed}
use Rattle.f3_parts.specs.Parts.{AreSpecifications, IsSpecification}
use Rattle.f3_parts.specs.Pieces.{Piece}
use Rattle.f3_units.specs.Units.{AreProcedures, IsContained, IsBehind, AreUnits}
use Rattle.f3_parse.specs.Spells.{Spells}
use Rattle.f3_meaning_whole.specs.Permitted.{Each}
use Rattle.f3_lawful_laws.proofs.Facts.{no, nothing, same}
use Rattle.f3_agreement_laws.specs.Unbroken.{DefinesNoTypes, HasOuterTypes}

abbrev HasNone : ProcedureTree → Type 0
HasNone q = DefinesNoTypes (q.part).specifications

none_in : (ss : List SpecificationTree) (ps : List Piece) → AreSpecifications false ss ps → DefinesNoTypes ss
none_in [] ps h i x at = nothing at
none_in (s ∷ ss) ps h zero x at =
    let here : IsSpecification false (defines x) h.0 = subst (λ z. IsSpecification false z h.0) (same at) h.3 in
    no (sym here.0)
none_in (s ∷ ss) ps h (suc i) x at = none_in ss h.1 h.4 i x at

in_procedures : (qs : List ProcedureTree) (ps : List Placed) → AreProcedures qs ps → Each HasNone qs
in_procedures [] ps h = tt
in_procedures (q ∷ qs) ps h = (none_in (q.part).specifications ((h.3).is_part).others ((h.3).is_part).specifications, in_procedures qs h.1 h.4)

contained : (place : Option Place) (qs : List ProcedureTree) (ps : List Placed) → IsContained place qs ps → Each HasNone qs
contained None qs ps h = subst (Each HasNone) (sym h.0) tt
contained (Some place) qs ps h = in_procedures qs h.1 h.5

behind : (kind : UnitKind) (b : Block) (place : Option Place) (qs : List ProcedureTree) (ps : List Placed) → IsBehind kind b place qs ps → Each HasNone qs
behind Module b place qs ps h = contained place qs ps h.1
behind Program b place qs ps h = subst (Each HasNone) (sym h.1) tt

in_units : (us : List UnitTree) (ps : List Placed) → AreUnits us ps → Each (λ (u : UnitTree). Each HasNone u.procedures) us
in_units [] ps h = tt
in_units (x ∷ xs) ps h = (behind x.kind x.body x.contains x.procedures (h.5).behind (h.5).is_behind, in_units xs h.2 h.6)

pub outer : (sources : List Source) (t : Tree) → Spells t sources → HasOuterTypes t
outer sources t spelled = in_units t.units spelled.forms spelled.units
