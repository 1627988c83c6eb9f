-- Programs that can be run.
use Rattle.f3_program.specs.declared.program.Program.{Program}
use Rattle.f3_compile.specs.declared.compiled.Compiled.{Compiled}

-- the program, in which each name is replaced by what it means
abbrev pub program_of : Compiled → Program
program_of compiled = compiled.program
