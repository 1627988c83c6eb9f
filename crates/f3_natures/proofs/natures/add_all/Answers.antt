use Rattle.std.proofs.Common.{◌≡◌, ◌+◌, ◌++◌, rules, arith, ap, ◌∙◌, map, length}
use Rattle.std.proofs.lemmas.List.{length-map, map-append}
use Rattle.f3_tree.specs.Tree.{unit_view}
use Rattle.f3_type_rules.specs.Associates.{constructs_of_block}
use Rattle.f3_typed_parts.specs.Known.{nature_of}
use Rattle.f3_natures.specs.Known.{names_view}
use Rattle.f3_natures.specs.Walk.{count_of, unit_start}
use Rattle.f3_natures.proofs.Steps.{end_least, unit_joined}
use Rattle.f3_natures.proofs.natures.add_all.Goals as goal

pub overflow_add-start : goal.overflow_add-start
overflow_add-start c =
    let u = unit_view c.args.unit.now in
    let h = end_least (unit_start c.args.scope u) u.procedures in
    omega (arith, h, c.requires.scopes)

pub overflow_add-start-2 : goal.overflow_add-start-2
overflow_add-start-2 c =
    let u = unit_view c.args.unit.now in
    let h = end_least (unit_start c.args.scope u) u.procedures in
    let k : length c.args.constructs.now ≡ count_of u.body = ap length c.requires.constructs ∙ length-map (constructs_of_block u.body) length in
    omega (arith, h, k, c.requires.scopes)

pub returns-clause-things : goal.returns-clause-things
returns-clause-things c =
    let u = unit_view c.args.unit.now in
    let k : length c.args.constructs.now ≡ count_of u.body = ap length c.requires.constructs ∙ length-map (constructs_of_block u.body) length in
    let made : c.append.new.self.items ≡ c.add_specifications.new.things.items ++ c.add_procedures.new.made.items = search rules in
    let inner : c.append-2.new.self.items ≡ c.add_associates.new.things.items ++ c.add_procedures.new.inner.items = search rules in
    unit_joined (names_view c.args.names.now) (length c.args.things.now.items) c.args.scope c.behind_declared-first.result (c.args.scope + 1 + length c.args.constructs.now) u
    c.add_procedures.new.finals.items c.args.finals.now.items
    (map nature_of c.args.things.now.items) (map nature_of c.add_specifications.new.things.items) (map nature_of c.append.new.self.items) (map nature_of c.add_associates.new.things.items) (map nature_of c.append-2.new.self.items)
    (map nature_of c.add_procedures.new.made.items) (map nature_of c.args.made.now.items)
    (map nature_of c.add_procedures.new.inner.items) (map nature_of c.args.inner.now.items)
    c.args.constructs.now
    (ap (λ n. c.args.scope + 1 + n) k) (search rules)
    c.requires.finals (search rules)
    (ap (map nature_of) c.requires.made) (search rules)
    (ap (map nature_of) c.requires.inner) (search rules)
    (search rules)
    (ap (map nature_of) made ∙ map-append nature_of c.add_specifications.new.things.items c.add_procedures.new.made.items)
    (search rules)
    c.requires.constructs
    (ap (map nature_of) inner ∙ map-append nature_of c.add_associates.new.things.items c.add_procedures.new.inner.items)
