use Rattle.std.proofs.Common.{◌∙◌, sym, ap, subst, not}
use Rattle.f3_program.specs.declared.declarations.Base.{Base}
use Rattle.f3_meaning_whole.specs.Arithmetic.{value_fits}
use Rattle.f3_word_cells.specs.declared.cell.Datum.{Datum}
use Rattle.f3_word_copies.specs.Fits.{CanFit}
use Rattle.f3_word_copies.proofs.Fitted.{other-fits, no-numbers, all-numbers}
use Rattle.f3_word_copies.proofs.fitting.fits.Goals as goal

pub returns-in_default : goal.returns-in_default
returns-in_default g c p k v can = sym (other-fits p.types.items k c.args.of v c.in_default.not-Integer can.of)

pub returns-then-not-is_array_of_numbers : goal.returns-then-not-is_array_of_numbers
returns-then-not-is_array_of_numbers g c p k v can =
    let m = g.B.Blocks.blocks c.args.heap.now in
    let is = subst (λ (d : Datum). CanFit p c.args.types m k d v) c.in-Block.is can in
    ap not c.if-not-is_array_of_numbers.true ∙ no-numbers p c.args.types c.requires.tables m k c.in-Block.area v is (sym c.if-not-is_array_of_numbers.ensures) ∙ ap (λ (t : Base). value_fits t v) (sym c.in-Integer.is)

pub returns-else-not-is_array_of_numbers : goal.returns-else-not-is_array_of_numbers
returns-else-not-is_array_of_numbers g c p k v can =
    let m = g.B.Blocks.blocks c.args.heap.now in
    let is = subst (λ (d : Datum). CanFit p c.args.types m k d v) c.in-Block.is can in
    c.are_short.ensures ∙ all-numbers p c.args.types c.requires.tables m k c.in-Block.area v is (sym c.if-not-is_array_of_numbers.ensures) ∙ ap (λ (t : Base). value_fits t v) (sym c.in-Integer.is)
