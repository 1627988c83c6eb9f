use Rattle.std.proofs.Common.{◌≡◌, ◌++◌, drop}
use Rattle.std.specs.Prelude.{slice_get}
use Rattle.std.specs.List.{filter_map}
use Rattle.f3_data.specs.References.{numbers_of}
use Rattle.f3_object_steps.proofs.picking.numbers_at.Given as goal

abbrev pub invariant-loop-place : goal.invariant-loop-place
invariant-loop-place l = l.found.items ++ filter_map (slice_get (numbers_of l.numbers)) (drop l.place-index l.places) ≡ filter_map (slice_get (numbers_of l.numbers)) l.places
