-- The bodies of units that sources spell have literals of at most 64 bits.
use Rattle.std.proofs.Common.{Bool, true, false, List, [], ◌∷◌, ◌++◌, Option, Some, None, sym, subst}
use Rattle.f3_places.specs.declared.source.Place.{Place}
use Rattle.f3_tree.specs.declared.program.UnitKind.{UnitKind}
use Rattle.f3_tree.specs.declared.program.UnitKind.TheVariants.{Module, Program}
use Rattle.f3_tree.specs.Statements.{Block}
use Rattle.f3_tree.specs.Tree.{ProcedureTree, UnitTree}
use Rattle.f3_words.specs.Lines.{Line}
use Rattle.f3_blocks.specs.Pieces.{Placed, piece_of}
use Rattle.f3_blocks.specs.Blocks.{IsBlock}
use Rattle.f3_units.specs.Units.{IsProcedure, AreProcedures, IsContained, IsBehind, IsUnit, AreUnits}
use Rattle.f3_parse.specs.Phase.{HaveForms}
use Rattle.f3_parse.specs.Spells.{lines_in}
use Rattle.f3_meaning_whole.specs.Permitted.{Each}
use Rattle.f3_fitting_laws.specs.Bounded.{IsBlockBounded, IsUnitBounded}
use Rattle.f3_spelled_laws.proofs.Lists.{each_front, each_rest, each_mapped}
use Rattle.f3_bounded_laws.specs.Laws.{SpelledBodiesAreBounded}
use Rattle.f3_bounded_laws.proofs.Tokens.{IsLineWords, lines_are}
use Rattle.f3_bounded_laws.proofs.Forms.{IsPieceBounded, form_sound}
use Rattle.f3_bounded_laws.proofs.Blocks.{block}

abbrev IsPlaced : Placed → Type 0
IsPlaced p = IsPieceBounded (piece_of p)

abbrev ArePlaced : List Placed → Type 0
ArePlaced ps = Each IsPlaced ps

-- the statements of sources
placed : (ps : List Placed) (ls : List Line) → Each IsLineWords ls → HaveForms ps ls → ArePlaced ps
placed [] [] w h = tt
placed [] (l ∷ ls) w h = absurd h
placed (p ∷ ps) [] w h = absurd h
placed (p ∷ ps) (l ∷ ls) w h = (form_sound p.place p.form l.items w.0 h.2, placed ps ls w.1 h.3)

body : (procedure : Bool) (b : Block) (ps : List Placed) → IsBlock procedure b ps → ArePlaced ps → IsBlockBounded b
body procedure b ps h w = (block b [] (subst (Each IsPieceBounded) (sym h.1) (each_mapped IsPieceBounded piece_of ps w))).0

-- ---- procedures

procedure_body : (p : ProcedureTree) (ps : List Placed) → IsProcedure p ps → ArePlaced ps → IsBlockBounded p.body
procedure_body p ps h w =
    let all = subst ArePlaced h.is w in
    let behind = each_rest IsPlaced h.part (h.body ++ h.last ∷ []) all.1 in
    body true p.body h.body h.is_body (each_front IsPlaced h.body (h.last ∷ []) behind)

abbrev AreProceduresBounded : List ProcedureTree → Type 0
AreProceduresBounded qs = Each (λ (p : ProcedureTree). IsBlockBounded p.body) qs

procedure_bodies : (qs : List ProcedureTree) (ps : List Placed) → AreProcedures qs ps → ArePlaced ps → AreProceduresBounded qs
procedure_bodies [] ps h w = tt
procedure_bodies (q ∷ qs) ps h w =
    let all = subst ArePlaced h.2 w in
    (procedure_body q h.0 h.3 (each_front IsPlaced h.0 h.1 all), procedure_bodies qs h.1 h.4 (each_rest IsPlaced h.0 h.1 all))

contained : (place : Option Place) (qs : List ProcedureTree) (ps : List Placed) → IsContained place qs ps → ArePlaced ps → AreProceduresBounded qs
contained None qs ps h w = subst AreProceduresBounded (sym h.0) tt
contained (Some place) qs ps h w = procedure_bodies qs h.1 h.5 (subst ArePlaced h.2 w).1

-- ---- units

behind_part : (kind : UnitKind) (b : Block) (place : Option Place) (qs : List ProcedureTree) (ps : List Placed) → IsBehind kind b place qs ps → ArePlaced ps
    → IsBlockBounded b × AreProceduresBounded qs
behind_part Module b place qs ps h w = (subst IsBlockBounded (sym h.0) tt, contained place qs ps h.1 w)
behind_part Program b place qs ps h w = (body false b ps h.2 w, subst AreProceduresBounded (sym h.1) tt)

unit_bodies : (x : UnitTree) (ps : List Placed) → IsUnit x ps → ArePlaced ps → IsUnitBounded x
unit_bodies x ps h w =
    let all = subst ArePlaced h.is w in
    let behind = each_rest IsPlaced h.part (h.behind ++ h.last ∷ []) all.1 in
    behind_part x.kind x.body x.contains x.procedures h.behind h.is_behind (each_front IsPlaced h.behind (h.last ∷ []) behind)

all_bodies : (us : List UnitTree) (ps : List Placed) → AreUnits us ps → ArePlaced ps → Each IsUnitBounded us
all_bodies [] ps h w = tt
all_bodies (x ∷ xs) ps h w =
    let all = subst ArePlaced h.3 w in
    (unit_bodies x h.1 h.5 (each_front IsPlaced h.1 h.2 all), all_bodies xs h.2 h.6 (each_rest IsPlaced h.1 h.2 all))

pub bounded : SpelledBodiesAreBounded
bounded sources t spelled = all_bodies t.units spelled.forms spelled.units (placed spelled.forms (lines_in sources) (lines_are sources) spelled.have)
