use Rattle.std.proofs.Common.{map, string_bytes, sym, subst, ap, ◌∙◌}
use Rattle.f3_rules.specs.Least.{Least, earlier_of}
use Rattle.f3_rules.proofs.Firsts.{least_both}
use Rattle.f3_scopes.specs.Outlines.{scope_view}
use Rattle.f3_name_rules.specs.NameBreaks.{NameBreaks}
use Rattle.f3_name_rules.proofs.Walk.{least_access}
use Rattle.f3_name_rules.proofs.first_name_break.Goals as goal

pub returns : goal.returns
returns c =
    let texts = map string_bytes c.args.names.now.keys in
    subst (λ f. Least f (NameBreaks (map scope_view c.args.outlines.now) texts)) (sym (c.earlier.ensures ∙ ap (earlier_of c.in_ok-in_scopes.in_scopes) c.first_access_break.ensures))
    (least_both c.in_ok-in_scopes.ensures (least_access c.args.outlines.now texts c.args.tables.now c.requires))
