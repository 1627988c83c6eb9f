use Rattle.f3_word_start.proofs.Plains.{types_not, statics_not, all_plain}
use Rattle.f3_word_start.proofs.plain.is_declared_plain.Goals as goal

pub returns-then-not-types_are_plain : goal.returns-then-not-types_are_plain
returns-then-not-types_are_plain c = types_not c.args.program.now c.types_are_plain.result c.deref.result.now c.deref.ensures.value c.types_are_plain.ensures c.if-not-types_are_plain.true

pub returns-then-not-statics_are_plain : goal.returns-then-not-statics_are_plain
returns-then-not-statics_are_plain c =
    statics_not c.args.program.now c.statics_are_plain.result c.deref-2.result.now c.deref-2.ensures.value c.statics_are_plain.ensures c.if-not-statics_are_plain.true

pub returns : goal.returns
returns c = all_plain c.args.program.now c.types_are_plain.result c.statics_are_plain.result c.procedure_is_plain.result c.procedures_are_plain.result
    c.deref.result.now c.deref-2.result.now c.deref-3.result.now c.deref.ensures.value c.deref-2.ensures.value c.deref-3.ensures.value
    c.types_are_plain.ensures c.statics_are_plain.ensures c.procedure_is_plain.ensures c.procedures_are_plain.ensures
    c.if-not-types_are_plain.false c.if-not-statics_are_plain.false c.if-not-procedure_is_plain.false
