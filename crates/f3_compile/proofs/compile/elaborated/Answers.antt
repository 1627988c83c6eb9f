use Rattle.f3_compile.proofs.compile.elaborated.Goals as goal

pub returns : goal.returns
returns c = rw (c.parts-program.ensures.program, c.parts-program.ensures.names, c.parts-program.ensures.order) at c.in_ok-program.ensures
