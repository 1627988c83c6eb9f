use Rattle.std.proofs.Common.{rules, arith, ap, refl, ◌∙◌, List}
use Rattle.f3_access.specs.Tables.{lookup_of}
use Rattle.f3_tree.specs.declared.expression.Name.{Name}
use Rattle.f3_type_rules.specs.Finals.{final_rows}
use Rattle.f3_typed_parts.specs.Noted.{noted}
use Rattle.f3_typed_parts.proofs.Noting.{noted_done}
use Rattle.f3_finals.specs.Inner.Looked.{rank_found}
use Rattle.f3_finals.proofs.Rows.{rows_more, rows_same}
use Rattle.f3_finals.proofs.finals.finals.Goals as goal

pub loop-name-preserved : goal.loop-name-preserved
loop-name-preserved c =
    let a = c.args in
    rows_more (λ (n : Name). rank_found a.first_procedure a.candidates.now a.data_type (lookup_of a.tables.now a.scope n.symbol))
    a.list.now c.loop-name.name-index _ c.loop-name.seen.keys c.insert.new.self.keys c.loop-name.ranks.keys c.add.new.ranks.keys
    c.loop-name.first c.unless.new.first _ c.loop-name-test.true c.in_ok-insert.ensures.keys (search rules) (search rules) c.loop-name.invariant

pub returns : goal.returns
returns c names look scopes start procedures same =
    let a = c.args in
    noted_done (λ (ns : List Name). final_rows (λ (n : Name). rank_found a.first_procedure a.candidates.now a.data_type (lookup_of a.tables.now a.scope n.symbol)) c.loop-name.seen.keys c.loop-name.ranks.keys ns)
    a.list.now c.loop-name.name-index c.loop-name.first _ (omega (arith, c.loop-name-test.false)) refl c.loop-name.invariant
    ∙ ap (noted a.first.now) (rows_same names (lookup_of a.tables.now) scopes a.data_type a.scope a.first_procedure start procedures a.candidates.now a.list.now look same)
