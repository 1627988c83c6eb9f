use Rattle.std.proofs.Common.{map, refl, ap, ◌∙◌}
use Rattle.f3_tree.specs.Statements.{association_view}
use Rattle.f3_sites.specs.Sites.{site_of}
use Rattle.f3_numbers.specs.Table.{object_in}
use Rattle.f3_inside.specs.Exchanged.{put_all}
use Rattle.f3_inside.proofs.Entered.{entered, inside_settled}
use Rattle.f3_inside.proofs.inside.enter.Goals as goal

pub returns-clause-inside : goal.returns-clause-inside
returns-clause-inside c =
    entered c.args.state.now (record { site = c.enter_site.new.site; numbers = c.exchange_all.new.numbers; lent = c.lend.new.lent; texts = c.args.state.now.texts })
    c.args.number (map association_view c.args.list.now) c.in_ok-saved.ensures.inside
    (λ e. c.in_ok-names.ensures.objects e ∙ ap (λ ks. put_all ks (object_in c.args.state.now.numbers) e) c.in_ok-list_of_names.ensures.names)
    c.in_ok-names.ensures.procedures c.in_ok-names.ensures.types c.in_ok-list_of_names.ensures.lent refl

pub returns-clause-settled : goal.returns-clause-settled
returns-clause-settled c =
    inside_settled (site_of c.args.state.now.site) (site_of c.enter_site.new.site) c.args.number (map association_view c.args.list.now) c.in_ok-saved.ensures.inside c.requires
