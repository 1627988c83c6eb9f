use Rattle.std.proofs.Common.{ap, sym, ◌∙◌}
use Rattle.f3_code.specs.Wants.{copies}
use Rattle.f3_data.specs.Values.{value_of}
use Rattle.f3_data.proofs.Rows.{array_is, array_of}
use Rattle.f3_requests.proofs.asking.elements_of.Goals as goal

pub returns-in-Array : goal.returns-in-Array
returns-in-Array c = λ n. ap (λ u. copies n (value_of u)) c.in-Array.is ∙ ap (copies n) (array_is c.in-Array.elements
    ∙ ap array_of (sym c.deref.ensures))
