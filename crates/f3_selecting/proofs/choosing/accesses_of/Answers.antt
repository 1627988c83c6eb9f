use Rattle.std.proofs.Common.{map, ap, ◌∙◌}
use Rattle.std.specs.List.{list_any}
use Rattle.f3_scopes.specs.Outlines.{listed_view, scope_view}
use Rattle.f3_selecting.specs.Private.{is_default}
use Rattle.f3_selecting.proofs.Privacy.{private_by}
use Rattle.f3_selecting.proofs.choosing.accesses_of.Goals as goal

pub returns : goal.returns
returns c = λ i n.
    private_by (scope_view c.args.outline.now) c.in_ok-private_names.private_names.keys c.in_ok-public_names.public_names.keys c.has_default-is_private.result c.in_ok-private_names.ensures c.in_ok-public_names.ensures
    (c.has_default-is_private.ensures ∙ ap (λ l. list_any is_default (map listed_view l)) c.deref.ensures.value) n i
