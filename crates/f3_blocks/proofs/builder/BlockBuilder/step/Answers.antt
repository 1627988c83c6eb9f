use Rattle.f3_blocks.proofs.builder.BlockBuilder.step.Goals as goal

pub returns-in-End : goal.returns-in-End
returns-in-End c = rw c.in-End.is (c.end.ensures c.args.procedure c.args.place)
