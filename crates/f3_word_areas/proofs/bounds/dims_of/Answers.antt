use Rattle.std.proofs.Common.{◌≡◌, ◌∙◌, sym, ap, subst, ◌∷◌, List, drop, arith, rules, w64, FitsSigned, to_z, of_z, add-one, get_or, drop-cons, ◌+◌, ◌*◌, ◌%◌, ◌^◌}
use Rattle.std.specs.Prelude.{ℤ, pos}
use Rattle.std.proofs.lemmas.Int.{to_z-of_z}
use Rattle.f3_desc.specs.declared.descriptor.Dim.{Dim}
use Rattle.f3_word_cells.specs.Areas.{span_of}
use Rattle.std.proofs.lemmas.List.{length-drop, drop_all}
use Rattle.f3_program.specs.declared.declarations.Dimension.{Dimension}
use Rattle.f3_word_areas.proofs.Laying.{Laying, laying-none, laying-more, laying-all}
use Rattle.f3_word_areas.proofs.bounds.dims_of.Goals as goal

none : Dimension
none = record { lower = pos 0; extent = 0 }

pub loop-dimension-init : goal.loop-dimension-init
loop-dimension-init c = subst (λ made. Laying c.args.dimensions.now c.args.words made c.args.words c.args.dimensions.now) (sym c.new-dims.ensures) (laying-none c.args.dimensions.now c.args.words c.requires)

pub push-requires : goal.push-requires
push-requires c = let h = c.loop-dimension.invariant.room in let e = length-drop c.loop-dimension.dimension-index c.args.dimensions.now in (omega arith, omega arith)

pub loop-dimension-preserved : goal.loop-dimension-preserved
unfolding none
loop-dimension-preserved c =
    let xs = c.args.dimensions.now in let i = c.loop-dimension.dimension-index in
    let x : Dimension = get_or xs i none in
    let left : drop i xs ≡ x ∷ drop (i + 1) xs = rw add-one (drop-cons xs i none c.loop-dimension-test.true) in
    let here = subst (λ (r : List Dimension). Laying xs c.args.words c.loop-dimension.dims.items c.loop-dimension.stride r) left c.loop-dimension.invariant in
    let low : FitsSigned w64 x.lower = search rules in
    let apart : FitsSigned w64 c.cast_signed.result = search rules in
    let d : Dim = record { lower = to_z w64 (of_z w64 x.lower); extent = x.extent; stride = to_z w64 (of_z w64 c.cast_signed.result) } in
    let is : span_of d ≡ record { lower = x.lower; extent = x.extent } = ap (λ (z : ℤ). record { lower = z; extent = x.extent }) (to_z-of_z w64 x.lower low) in
    subst (λ made. Laying xs c.args.words made ((c.loop-dimension.stride * x.extent) % 2 ^ 64) (drop (i + 1) xs)) (sym c.push.ensures.items)
    (laying-more xs c.args.words c.loop-dimension.dims.items c.loop-dimension.stride x (drop (i + 1) xs) d is (to_z-of_z w64 c.cast_signed.result apart ∙ c.cast_signed.ensures) here)

pub returns : goal.returns
returns c =
    let all = laying-all c.args.dimensions.now c.args.words c.loop-dimension.dims.items c.loop-dimension.stride
    (subst (λ (r : List Dimension). Laying c.args.dimensions.now c.args.words c.loop-dimension.dims.items c.loop-dimension.stride r) (drop_all c.loop-dimension.dimension-index c.args.dimensions.now (omega arith)) c.loop-dimension.invariant) in
    record { spans = all.0; apart = all.1 }
