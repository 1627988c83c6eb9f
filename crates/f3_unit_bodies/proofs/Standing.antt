-- Where a site stands is no matter for what is known there.
use Rattle.std.proofs.Common.{◌≡◌, ◌+◌, ℕ, Bool, false, List, [], ◌∷◌, Option, Result, Ok, Err, OnOk, refl, sym, ap, subst, ◌∙◌, map}
use Rattle.f3_rules.specs.declared.breaks.Break.{Break}
use Rattle.f3_tree.specs.declared.statement.Statement.{Statement}
use Rattle.f3_tree.specs.Statements.{Block, block_of, statement_view}
use Rattle.f3_tree.specs.declared.program.Procedure.{Procedure}
use Rattle.f3_tree.specs.declared.program.Unit.{Unit as ProgramUnit}
use Rattle.f3_tree.specs.Tree.{ProcedureTree, UnitTree, procedure_view, unit_view}
use Rattle.f3_type_rules.specs.Definitions.{Site}
use Rattle.f3_typed_parts.specs.Noted.{noted}
use Rattle.f3_typed_parts.proofs.Noting.{noted_more}
use Rattle.f3_associates.specs.Known.{IsSettled}
use Rattle.f3_unit_bodies.specs.Bodies.{anywhere, width, is_pure_in, body_rows, procedure_rows, unit_rows}

pub on_ok : {X E : Type 0} {P Q : Type 0} (r : Result X E) → (P → Q) → OnOk r P → OnOk r Q
on_ok (Ok x) f h = f h
on_ok (Err e) f h = h

pub settled_at : (s t : Site) → anywhere s ≡ anywhere t → IsSettled t → IsSettled s
settled_at s t same h = subst IsSettled (sym same) h

pub body_same : (s t : Site) (unit scope : ℕ) (pure : Bool) (b : Block) → anywhere s ≡ anywhere t → body_rows s unit scope pure b ≡ body_rows t unit scope pure b
body_same s t unit scope pure b same = ap (λ x. body_rows x unit scope pure b) same

pub procedures_same : (s t : Site) (unit scope : ℕ) (ps : List ProcedureTree) → anywhere s ≡ anywhere t → procedure_rows s unit scope ps ≡ procedure_rows t unit scope ps
procedures_same s t unit scope [] same = refl
procedures_same s t unit scope (p ∷ ps) same =
    let first = body_same s t unit scope (is_pure_in p) p.body same in
    let rest = procedures_same s t unit (scope + width p.body) ps same in
    cc

pub unit_same : (s t : Site) (scope : ℕ) (u : UnitTree) → anywhere s ≡ anywhere t → unit_rows s scope u ≡ unit_rows t scope u
unit_same s t scope u same =
    let first = body_same s t scope scope false u.body same in
    let rest = procedures_same s t scope (scope + width u.body) u.procedures same in
    cc

-- ---- one more of a list, and a unit of its two parts

pub procedure_noted : (s t : Site) (unit scope : ℕ) (pure : Bool) (p : Procedure) (list : List Statement) (before after : Option Break) → anywhere s ≡ anywhere t
    → pure ≡ is_pure_in (procedure_view p) → list ≡ p.body.items → after ≡ noted before (body_rows s unit scope pure (block_of (map statement_view list)))
    → after ≡ noted before (body_rows t unit scope (is_pure_in (procedure_view p)) (procedure_view p).body)
procedure_noted s t unit scope pure p list before after same is e h =
    h ∙ ap (λ l. noted before (body_rows s unit scope pure (block_of (map statement_view l)))) e
    ∙ ap (λ b. noted before (body_rows s unit scope b (block_of (map statement_view p.body.items)))) is
    ∙ ap (noted before) (body_same s t unit scope (is_pure_in (procedure_view p)) (block_of (map statement_view p.body.items)) same)

pub procedure_width : (n scope : ℕ) (p : Procedure) (list : List Statement) → list ≡ p.body.items → n ≡ scope + width (block_of (map statement_view list)) → n ≡ scope + width (procedure_view p).body
procedure_width n scope p list e h = h ∙ ap (λ l. scope + width (block_of (map statement_view l))) e

pub unit_noted : (s t : Site) (scope next : ℕ) (u : ProgramUnit) (list : List Statement) (ps : List Procedure) (before middle after : Option Break) → anywhere s ≡ anywhere t
    → list ≡ u.body.items → ps ≡ u.procedures.items
    → next ≡ scope + width (block_of (map statement_view list)) → middle ≡ noted before (body_rows t scope scope false (block_of (map statement_view list)))
    → after ≡ noted middle (procedure_rows s scope next (map procedure_view ps)) → after ≡ noted before (unit_rows t scope (unit_view u))
unit_noted s t scope next u list ps before middle after same e f n m h =
    let v = unit_view u in
    h ∙ ap (λ l. noted middle (procedure_rows s scope next (map procedure_view l))) f
    ∙ ap (noted middle) (procedures_same s t scope next v.procedures same)
    ∙ ap (λ k. noted middle (procedure_rows t scope k v.procedures)) (n ∙ ap (λ l. scope + width (block_of (map statement_view l))) e)
    ∙ ap (λ a. noted a (procedure_rows t scope (scope + width v.body) v.procedures)) (m ∙ ap (λ l. noted before (body_rows t scope scope false (block_of (map statement_view l)))) e)
    ∙ noted_more before (body_rows t scope scope false v.body) (procedure_rows t scope (scope + width v.body) v.procedures)
