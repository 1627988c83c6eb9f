use Rattle.f3_grammar_laws.proofs.Alternatives as alternatives
use Rattle.f3_grammar_laws.proofs.laws.alternatives_exclude_each_other.Goals as goal

pub returns-clause-alternatives : goal.returns-clause-alternatives
returns-clause-alternatives c =
    (alternatives.form_acts, alternatives.procedures, alternatives.declarations, alternatives.assignments, alternatives.block_ifs, alternatives.defaults, alternatives.whiles)

pub returns-clause-kinds : goal.returns-clause-kinds
returns-clause-kinds c = alternatives.kinds

pub returns-clause-shapes : goal.returns-clause-shapes
returns-clause-shapes c = alternatives.shapes

pub returns-clause-selections : goal.returns-clause-selections
returns-clause-selections c = alternatives.selections

pub returns-clause-objects : goal.returns-clause-objects
returns-clause-objects c = alternatives.objects
