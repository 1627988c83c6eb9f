-- The bodies of units that sources spell.
use Rattle.std.proofs.Common.{◌≡◌, ℕ, ◌+◌, Bool, true, false, List, [], ◌∷◌, ◌++◌, length, Option, Some, None, sym, subst}
use Rattle.f3_places.specs.declared.source.Place.{Place}
use Rattle.f3_tree.specs.declared.expression.Name.{Name}
use Rattle.f3_tree.specs.declared.program.UnitKind.{UnitKind}
use Rattle.f3_tree.specs.declared.program.UnitKind.TheVariants.{Module, Program}
use Rattle.f3_tree.specs.Statements.{Block, no_statements}
use Rattle.f3_tree.specs.Tree.{ProcedureTree, UnitTree}
use Rattle.f3_words.specs.Lines.{Line}
use Rattle.f3_blocks.specs.Pieces.{Placed, piece_of}
use Rattle.f3_blocks.specs.Blocks.{IsBlock}
use Rattle.f3_units.specs.Units.{IsProcedure, AreProcedures, IsContained, IsBehind, IsUnit, AreUnits}
use Rattle.f3_parse.specs.Phase.{HaveForms}
use Rattle.f3_parse.specs.Spells.{lines_in}
use Rattle.f3_scopes.specs.Scopes.{constructs_in_block, procedure_scopes, procedures_from, own_scopes, unit_scopes, scopes_from, scopes_of}
use Rattle.f3_scopes.specs.Outlines.{Scope}
use Rattle.f3_meaning_whole.specs.Permitted.{Each}
use Rattle.f3_lawful_laws.specs.Blocks.{IsBlockSpelled, IsUnitSpelled}
use Rattle.f3_spelled_laws.specs.Laws.{AcceptedBodiesAreSpelled, ProgramsHaveNoProcedures, ModulesHaveNoStatements}
use Rattle.f3_spelled_laws.proofs.Lists.{each_front, each_rest, each_of, each_mapped}
use Rattle.f3_spelled_laws.proofs.Forms.{IsPieceWritten, form_sound}
use Rattle.f3_spelled_laws.proofs.Once.{IsUnbroken}
use Rattle.f3_spelled_laws.proofs.Blocks.{block}

abbrev IsPlaced : Placed → Type 0
IsPlaced p = IsPieceWritten (piece_of p)

abbrev ArePlaced : List Placed → Type 0
ArePlaced ps = Each IsPlaced ps

abbrev AreUnbroken : List Scope → Type 0
AreUnbroken scopes = Each IsUnbroken scopes

-- the statements of sources
placed : (ps : List Placed) (ls : List Line) → HaveForms ps ls → ArePlaced ps
placed [] [] h = tt
placed [] (l ∷ ls) h = absurd h
placed (p ∷ ps) [] h = absurd h
placed (p ∷ ps) (l ∷ ls) h = (form_sound p.place p.form l.items h.2, placed ps ls h.3)

body : (procedure : Bool) (b : Block) (ps : List Placed) (host : ℕ) (around : Name) (number : ℕ) → IsBlock procedure b ps → ArePlaced ps
    → AreUnbroken (constructs_in_block host around number b) → IsBlockSpelled b
body procedure b ps host around number h w u =
    (block b [] host around number (subst (Each IsPieceWritten) (sym h.1) (each_mapped IsPieceWritten piece_of ps w)) u).0

-- ---- procedures

procedure_body : (p : ProcedureTree) (ps : List Placed) (host number : ℕ) → IsProcedure p ps → ArePlaced ps → AreUnbroken (procedure_scopes host number p)
    → IsBlockSpelled p.body
procedure_body p ps host number h w u =
    let all = subst ArePlaced h.is w in
    let behind = each_rest IsPlaced h.part (h.body ++ h.last ∷ []) all.1 in
    body true p.body h.body number (p.header).name (number + 1) h.is_body (each_front IsPlaced h.body (h.last ∷ []) behind) u.1

procedure_bodies : (qs : List ProcedureTree) (ps : List Placed) (host number : ℕ) → AreProcedures qs ps → ArePlaced ps
    → AreUnbroken (procedures_from host number qs)
    → Each (λ (p : ProcedureTree). IsBlockSpelled p.body) qs
procedure_bodies [] ps host number h w u = tt
procedure_bodies (q ∷ qs) ps host number h w u =
    let all = subst ArePlaced h.2 w in
    let here = procedure_scopes host number q in
    let others = procedures_from host (number + length here) qs in (
      procedure_body q h.0 host number h.3 (each_front IsPlaced h.0 h.1 all) (each_front IsUnbroken here others u),
      procedure_bodies qs h.1 host (number + length here) h.4 (each_rest IsPlaced h.0 h.1 all) (each_rest IsUnbroken here others u),
    )

contained : (place : Option Place) (qs : List ProcedureTree) (ps : List Placed) (host number : ℕ) → IsContained place qs ps → ArePlaced ps
    → AreUnbroken (procedures_from host number qs) → Each (λ (p : ProcedureTree). IsBlockSpelled p.body) qs
contained None qs ps host number h w u = subst (Each (λ (p : ProcedureTree). IsBlockSpelled p.body)) (sym h.0) tt
contained (Some place) qs ps host number h w u = procedure_bodies qs h.1 host number h.5 (subst ArePlaced h.2 w).1 u

-- ---- units

abbrev AreSpelled : Block → List ProcedureTree → Type 0
AreSpelled b qs = IsBlockSpelled b × Each (λ (p : ProcedureTree). IsBlockSpelled p.body) qs

behind_part : (kind : UnitKind) (b : Block) (place : Option Place) (qs : List ProcedureTree) (ps : List Placed) (name : Name) (number next : ℕ)
    → IsBehind kind b place qs ps → ArePlaced ps → AreUnbroken (constructs_in_block number name (number + 1) b) → AreUnbroken (procedures_from number next qs)
    → AreSpelled b qs
behind_part Module b place qs ps name number next h w u v = (subst IsBlockSpelled (sym h.0) tt, contained place qs ps number next h.1 w v)
behind_part Program b place qs ps name number next h w u v =
    (body false b ps number name (number + 1) h.2 w u, subst (Each (λ (p : ProcedureTree). IsBlockSpelled p.body)) (sym h.1) tt)

unit_bodies : (x : UnitTree) (ps : List Placed) (number : ℕ) → IsUnit x ps → ArePlaced ps → AreUnbroken (unit_scopes number x) → IsUnitSpelled x
unit_bodies x ps number h w u =
    let all = subst ArePlaced h.is w in
    let behind = each_rest IsPlaced h.part (h.behind ++ h.last ∷ []) all.1 in
    let own = own_scopes number x in
    let others = procedures_from number (number + length own) x.procedures in
    behind_part x.kind x.body x.contains x.procedures h.behind x.name number (number + length own) h.is_behind
    (each_front IsPlaced h.behind (h.last ∷ []) behind) (each_front IsUnbroken own others u).1 (each_rest IsUnbroken own others u)

all_bodies : (us : List UnitTree) (ps : List Placed) (number : ℕ) → AreUnits us ps → ArePlaced ps → AreUnbroken (scopes_from number us) → Each IsUnitSpelled us
all_bodies [] ps number h w u = tt
all_bodies (x ∷ xs) ps number h w u =
    let all = subst ArePlaced h.3 w in
    let here = unit_scopes number x in
    let others = scopes_from (number + length here) xs in (
      unit_bodies x h.1 number h.5 (each_front IsPlaced h.1 h.2 all) (each_front IsUnbroken here others u),
      all_bodies xs h.2 (number + length here) h.6 (each_rest IsPlaced h.1 h.2 all) (each_rest IsUnbroken here others u),
    )

pub bodies : AcceptedBodiesAreSpelled
bodies sources t spelled none =
    all_bodies t.units spelled.forms 0 spelled.units (placed spelled.forms (lines_in sources) spelled.have)
    (each_of IsUnbroken (scopes_of t) (λ scope there b broken. none b (scope, there, broken)))

-- ---- what units have

module _ (P : UnitTree → Type 0) (sure : (x : UnitTree) (ps : List Placed) → IsUnit x ps → P x) where
  each_unit : (us : List UnitTree) (ps : List Placed) → AreUnits us ps → Each P us
  each_unit [] ps h = tt
  each_unit (x ∷ xs) ps h = (sure x h.1 h.5, each_unit xs h.2 h.6)

no_procedures : (kind : UnitKind) (b : Block) (place : Option Place) (qs : List ProcedureTree) (ps : List Placed) → IsBehind kind b place qs ps
    → kind ≡ Program → qs ≡ []
no_procedures Module b place qs ps h is = absurd (cc)
no_procedures Program b place qs ps h is = h.1

no_body : (kind : UnitKind) (b : Block) (place : Option Place) (qs : List ProcedureTree) (ps : List Placed) → IsBehind kind b place qs ps
    → kind ≡ Module → b ≡ no_statements
no_body Module b place qs ps h is = h.0
no_body Program b place qs ps h is = absurd (cc)

pub programs : ProgramsHaveNoProcedures
programs sources t spelled =
    each_unit (λ (u : UnitTree). u.kind ≡ Program → u.procedures ≡ [])
    (λ x ps h. no_procedures x.kind x.body x.contains x.procedures h.behind h.is_behind) t.units spelled.forms spelled.units

pub modules : ModulesHaveNoStatements
modules sources t spelled =
    each_unit (λ (u : UnitTree). u.kind ≡ Module → u.body ≡ no_statements)
    (λ x ps h. no_body x.kind x.body x.contains x.procedures h.behind h.is_behind) t.units spelled.forms spelled.units
