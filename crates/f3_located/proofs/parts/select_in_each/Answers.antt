use Rattle.f3_data.specs.References.{numbers_of}
use Rattle.f3_located.proofs.Parting.{component_many}
use Rattle.f3_located.proofs.parts.select_in_each.Goals as goal

pub returns : goal.returns
returns c = λ p at store. component_many p c.args.section.now.spans.items c.count_from_one.new.spans.items c.args.section.now.tail.items c.push.new.self.items
    (numbers_of c.args.section.now.numbers) c.args.k at store c.count_from_one.ensures c.in_ok-push.ensures.items
