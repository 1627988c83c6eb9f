use Rattle.std.proofs.Common.{◌≡◌, length, arith}
use Rattle.f3_word_reads.proofs.Strides.{packed-next, distance-next, packed-few}
use Rattle.f3_word_reads.proofs.packing.pack.Goals as goal

pub push-requires : goal.push-requires
push-requires c =
    let few : length c.loop-dim.packed.items ≡ c.loop-dim.dim-index = packed-few c.args.words c.args.dims.now c.loop-dim.dim-index c.loop-dim.auto.dim-index-end _ c.loop-dim.invariant.items in
    (omega arith, omega arith)

pub loop-dim-preserved : goal.loop-dim-preserved
loop-dim-preserved c = record {
  items = packed-next c.args.words c.args.dims.now c.loop-dim.dim-index _ c.loop-dim-test.true _ _ _ _ c.loop-dim.invariant.items c.loop-dim.invariant.distance c.packed_dim.ensures c.push.ensures.items;
  distance = distance-next c.args.words c.args.dims.now c.loop-dim.dim-index _ c.loop-dim-test.true _ _ c.loop-dim.invariant.distance c.saturating_mul-distance.ensures;
}
