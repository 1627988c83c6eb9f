use Rattle.std.proofs.Common.{take, map}
use Rattle.f3_files.specs.Reading.{AreOf}
use Rattle.f3_files.proofs.files.read_sources.Given as goal

-- the first files have been read
abbrev pub invariant-loop-name : goal.invariant-loop-name
invariant-loop-name g l = AreOf (g.F.Opener.contents l.files) (map (λ name. name.now) (take l.name-index l.names)) l.sources.items
