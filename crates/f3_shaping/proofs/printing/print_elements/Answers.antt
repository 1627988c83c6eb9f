use Rattle.f3_shaping.proofs.Texts.{texts_fault}
use Rattle.f3_shaping.proofs.printing.print_elements.Goals as goal

pub returns-in_err-print_element-clause-front : goal.returns-in_err-print_element-clause-front
returns-in_err-print_element-clause-front g c =
    texts_fault _ c.args.values.now c.loop-value.value-index c.value-item.result c.value-item.result c.loop-value-test.true c.value-item.is
    c.loop-value.invariant c.in_err-print_element.ensures.front
