use Rattle.std.proofs.Common.{◌≡◌, drop}
use Rattle.std.specs.List.{flat_map}
use Rattle.f3_rules.specs.Least.{earlier_of, first_of}
use Rattle.f3_graph.specs.Inner.Links.{missing}
use Rattle.f3_graph.proofs.breaks.first_missing.Given as goal

abbrev pub invariant-loop-link : goal.invariant-loop-link
invariant-loop-link l = earlier_of l.first (first_of (flat_map (λ k. missing k) (drop l.link-index l.links))) ≡ first_of (flat_map (λ k. missing k) l.links)
