-- The bodies of units that sources spell have expressions with operators of one sort.
use Rattle.std.proofs.Common.{Bool, true, false, List, [], ◌∷◌, ◌++◌, Option, Some, None, sym, subst}
use Rattle.f3_places.specs.declared.source.Place.{Place}
use Rattle.f3_tree.specs.declared.program.UnitKind.{UnitKind}
use Rattle.f3_tree.specs.declared.program.UnitKind.TheVariants.{Module, Program}
use Rattle.f3_tree.specs.Statements.{Block}
use Rattle.f3_tree.specs.Tree.{ProcedureTree, UnitTree}
use Rattle.f3_words.specs.Lines.{Line}
use Rattle.f3_blocks.specs.Pieces.{Placed, piece_of}
use Rattle.f3_blocks.specs.Blocks.{IsBlock}
use Rattle.f3_units.specs.Units.{IsProcedure, AreProcedures, IsContained, IsBehind, IsUnit, AreUnits}
use Rattle.f3_parse.specs.Phase.{HaveForms}
use Rattle.f3_parse.specs.Spells.{lines_in}
use Rattle.f3_meaning_whole.specs.Permitted.{Each}
use Rattle.f3_formed_laws.specs.Levels.{IsBlockLevelled, IsUnitLevelled}
use Rattle.f3_spelled_laws.proofs.Lists.{each_front, each_rest, each_mapped}
use Rattle.f3_levelled_laws.specs.Laws.{SpelledBodiesAreLevelled}
use Rattle.f3_levelled_laws.proofs.Forms.{IsPieceLevelled, form_sound}
use Rattle.f3_levelled_laws.proofs.Blocks.{block}

abbrev IsPlaced : Placed → Type 0
IsPlaced p = IsPieceLevelled (piece_of p)

abbrev ArePlaced : List Placed → Type 0
ArePlaced ps = Each IsPlaced ps

-- the statements of sources
placed : (ps : List Placed) (ls : List Line) → HaveForms ps ls → ArePlaced ps
placed [] [] h = tt
placed [] (l ∷ ls) h = absurd h
placed (p ∷ ps) [] h = absurd h
placed (p ∷ ps) (l ∷ ls) h = (form_sound p.place p.form l.items h.2, placed ps ls h.3)

body : (procedure : Bool) (b : Block) (ps : List Placed) → IsBlock procedure b ps → ArePlaced ps → IsBlockLevelled b
body procedure b ps h w = (block b [] (subst (Each IsPieceLevelled) (sym h.1) (each_mapped IsPieceLevelled piece_of ps w))).0

-- ---- procedures

procedure_body : (p : ProcedureTree) (ps : List Placed) → IsProcedure p ps → ArePlaced ps → IsBlockLevelled p.body
procedure_body p ps h w =
    let all = subst ArePlaced h.is w in
    let behind = each_rest IsPlaced h.part (h.body ++ h.last ∷ []) all.1 in
    body true p.body h.body h.is_body (each_front IsPlaced h.body (h.last ∷ []) behind)

abbrev AreProceduresLevelled : List ProcedureTree → Type 0
AreProceduresLevelled qs = Each (λ (p : ProcedureTree). IsBlockLevelled p.body) qs

procedure_bodies : (qs : List ProcedureTree) (ps : List Placed) → AreProcedures qs ps → ArePlaced ps → AreProceduresLevelled qs
procedure_bodies [] ps h w = tt
procedure_bodies (q ∷ qs) ps h w =
    let all = subst ArePlaced h.2 w in
    (procedure_body q h.0 h.3 (each_front IsPlaced h.0 h.1 all), procedure_bodies qs h.1 h.4 (each_rest IsPlaced h.0 h.1 all))

contained : (place : Option Place) (qs : List ProcedureTree) (ps : List Placed) → IsContained place qs ps → ArePlaced ps → AreProceduresLevelled qs
contained None qs ps h w = subst AreProceduresLevelled (sym h.0) tt
contained (Some place) qs ps h w = procedure_bodies qs h.1 h.5 (subst ArePlaced h.2 w).1

-- ---- units

behind_part : (kind : UnitKind) (b : Block) (place : Option Place) (qs : List ProcedureTree) (ps : List Placed) → IsBehind kind b place qs ps → ArePlaced ps
    → IsBlockLevelled b × AreProceduresLevelled qs
behind_part Module b place qs ps h w = (subst IsBlockLevelled (sym h.0) tt, contained place qs ps h.1 w)
behind_part Program b place qs ps h w = (body false b ps h.2 w, subst AreProceduresLevelled (sym h.1) tt)

unit_bodies : (x : UnitTree) (ps : List Placed) → IsUnit x ps → ArePlaced ps → IsUnitLevelled x
unit_bodies x ps h w =
    let all = subst ArePlaced h.is w in
    let behind = each_rest IsPlaced h.part (h.behind ++ h.last ∷ []) all.1 in
    behind_part x.kind x.body x.contains x.procedures h.behind h.is_behind (each_front IsPlaced h.behind (h.last ∷ []) behind)

all_bodies : (us : List UnitTree) (ps : List Placed) → AreUnits us ps → ArePlaced ps → Each IsUnitLevelled us
all_bodies [] ps h w = tt
all_bodies (x ∷ xs) ps h w =
    let all = subst ArePlaced h.3 w in
    (unit_bodies x h.1 h.5 (each_front IsPlaced h.1 h.2 all), all_bodies xs h.2 h.6 (each_rest IsPlaced h.1 h.2 all))

pub levelled : SpelledBodiesAreLevelled
levelled sources t spelled = all_bodies t.units spelled.forms spelled.units (placed spelled.forms (lines_in sources) spelled.have)
