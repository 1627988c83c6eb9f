use Rattle.f3_word_start.proofs.Ranked.{types_not, statics_not, all_ranked}
use Rattle.f3_word_start.proofs.ranks.is_ranked.Goals as goal

pub returns-then-not-types_have_ranks : goal.returns-then-not-types_have_ranks
returns-then-not-types_have_ranks c = types_not c.args.program.now c.types_have_ranks.result c.deref.result.now c.deref.ensures.value c.types_have_ranks.ensures c.if-not-types_have_ranks.true

pub returns-then-not-statics_have_ranks : goal.returns-then-not-statics_have_ranks
returns-then-not-statics_have_ranks c =
    statics_not c.args.program.now c.statics_have_ranks.result c.deref-2.result.now c.deref-2.ensures.value c.statics_have_ranks.ensures c.if-not-statics_have_ranks.true

pub returns : goal.returns
returns c = all_ranked c.args.program.now c.types_have_ranks.result c.statics_have_ranks.result c.procedure_has_ranks.result c.procedures_have_ranks.result
    c.deref.result.now c.deref-2.result.now c.deref-3.result.now c.deref.ensures.value c.deref-2.ensures.value c.deref-3.ensures.value
    c.types_have_ranks.ensures c.statics_have_ranks.ensures c.procedure_has_ranks.ensures c.procedures_have_ranks.ensures
    c.if-not-types_have_ranks.false c.if-not-statics_have_ranks.false c.if-not-procedure_has_ranks.false
