-- Where code leads that is emitted from its end.
use Rattle.std.specs.Prelude.{◌-◌, ◌≤◌, List, [], ◌∷◌, length}
use Rattle.f3_program.specs.declared.statement.Statement.{Statement}
use Rattle.f3_meaning_whole.specs.Act.{Setting}
use Rattle.f3_code.specs.Core as c
use Rattle.f3_code.specs.Lower.{lowered}
use Rattle.f3_code.specs.Code.{Ways}
use Rattle.f3_gen_values.specs.declared.line.Line.{Line}
use Rattle.f3_gen_statements.specs.declared.site.Exits.{Exits}

-- how far behind the next line they lead, where these lines stand behind it
abbrev pub ways_from : List Line → Exits → Ways
ways_from ls e = record { cycle = length ls - e.cycle; exit = length ls - e.exit; ret = length ls - e.ret; cells = e.cells }

-- they lead to these lines, or to what follows them; and no more cells go than there are lines
pub record LeadInto (ls : List Line) (e : Exits) : Type 0 where
  pub cycle : e.cycle ≤ length ls
  pub exit : e.exit ≤ length ls
  pub ret : e.ret ≤ length ls
  pub cells : e.cells ≤ length ls

-- the Core of statements, one after another (ISO/IEC 1539-1:2004, 8.1.1)
abbrev pub lowered_list : Setting → List Statement → c.Core
lowered_list g [] = c.Skip
lowered_list g (x ∷ xs) = c.Then (lowered g x) (lowered_list g xs)
