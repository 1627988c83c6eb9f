use Rattle.std.proofs.Common.{◌^◌, ◌%◌, ap, sym, ◌∙◌}
use Rattle.f3_data.specs.Values.{value_of, values_of}
use Rattle.f3_code.specs.Account.{all_objects}
use Rattle.f3_meaning_whole.specs.Value.{joined}
use Rattle.f3_requests.proofs.Wanting.{copied}
use Rattle.f3_requests.proofs.asking.copies.Goals as goal

pub returns-in-Some : goal.returns-in-Some
returns-in-Some c = c.all_objects.ensures ∙ ap (λ vs. all_objects (joined (values_of vs)) % 2 ^ 64) c.deref.ensures.value
    ∙ ap (λ k. k % 2 ^ 64) (sym (c.in-Some.ensures c.args.n))

pub returns-in-None : goal.returns-in-None
returns-in-None c = copied c.args.n c.objects.result (value_of c.args.value.now) c.in-None.ensures c.objects.ensures
