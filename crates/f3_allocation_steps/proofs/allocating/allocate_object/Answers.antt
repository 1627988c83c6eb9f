use Rattle.std.proofs.Common.{[], map, refl, sym, ap, ◌∙◌}
use Rattle.f3_meaning_whole.specs.Value as m
use Rattle.f3_meaning_whole.specs.Exec.{vacant}
use Rattle.f3_data.specs.Values as view
use Rattle.f3_data.specs.Values.{value_of}
use Rattle.f3_data.specs.References.{reference_of}
use Rattle.f3_gen_values.specs.Emitted.{taken}
use Rattle.f3_cells.specs.States.{setting}
use Rattle.f3_cells.specs.Popped.{extent_in}
use Rattle.f3_allocation_steps.specs.Acts.{FitsIn}
use Rattle.f3_allocation_steps.proofs.Dimensions.{already_there, not_made, made}
use Rattle.f3_allocation_steps.proofs.allocating.allocate_object.Goals as goal

pub returns-then-is_allocated_at : goal.returns-then-is_allocated_at
returns-then-is_allocated_at c = λ here. (
  [],
  already_there c.args.rank (taken (setting c.args.program.now) c.args.begin) (reference_of c.args.object.now) (map extent_in c.args.extents.now) here c.args.store.now
      (sym c.is_allocated_at.ensures ∙ c.if-is_allocated_at.true),
  refl,
)

pub returns-in_default : goal.returns-in_default
returns-in_default c =
    let large = rw c.in_default.is at c.in_ok-spans.ensures in
    λ here. (
      [],
      not_made c.args.rank (taken (setting c.args.program.now) c.args.begin) (reference_of c.args.object.now) (map extent_in c.args.extents.now) here c.args.store.now
          (sym c.is_allocated_at.ensures ∙ c.if-is_allocated_at.false) large,
      refl,
    )

pub returns : goal.returns
returns c =
    let small : FitsIn c.in-Some.spans.items (map extent_in c.args.extents.now) = rw c.in-Some.is at c.in_ok-spans.ensures in
    λ here. (
      _,
      made c.args.rank (taken (setting c.args.program.now) c.args.begin) (value_of c.in_ok-new.new) (reference_of c.args.object.now) (map extent_in c.args.extents.now) here
          c.args.store.now c.set.new.store (sym c.is_allocated_at.ensures ∙ c.if-is_allocated_at.false) small.fits
          (c.in_ok-new.ensures ∙ ap (λ l. m.Allocated (vacant c.args.rank (view.spans_of l) (taken (setting c.args.program.now) c.args.begin))) c.deref.ensures.value
          ∙ ap (λ (ss : _). m.Allocated (vacant c.args.rank ss (taken (setting c.args.program.now) c.args.begin))) small.same) c.in_ok-set.ensures,
      refl,
    )
