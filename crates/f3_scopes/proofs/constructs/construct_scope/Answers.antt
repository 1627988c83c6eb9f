use Rattle.std.proofs.Common.{refl}
use Rattle.f3_scopes.proofs.constructs.construct_scope.Goals as goal

pub returns : goal.returns
returns c =
    rw (
      c.new.ensures.items,
      c.in_ok-associate_names.ensures,
      c.new-2.ensures.items,
      c.new-3.ensures.items,
      c.new-4.ensures.items,
      c.new-5.ensures.items,
      c.new-6.ensures.items,
      c.new-7.ensures.items,
      c.new-8.ensures.items,
      c.construct_name.ensures,
    ) refl
