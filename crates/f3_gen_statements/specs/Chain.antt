-- The code of chains: an IF with each ELSE IF behind it, or cases (ISO/IEC 1539-1:2004, 8.1.2, 8.1.3).
use Rattle.std.specs.Prelude.{ℕ, ◌+◌, false, List, [], ◌∷◌, ◌++◌, length, Option}
use Rattle.f3_places.specs.declared.source.Place.{Place}
use Rattle.f3_program.specs.declared.statement.Statement as s
use Rattle.f3_meaning_whole.specs.Act.{Setting}
use Rattle.f3_code.specs.Lower.{lowered}
use Rattle.f3_code.specs.State.{Line, line}
use Rattle.f3_code.specs.declared.instruction.Instruction.TheVariants as i
use Rattle.f3_code.specs.Code.{Ways, code_of, farther, ranges_code, value_code}
use Rattle.f3_gen_statements.specs.declared.chain.Link.{Link}
use Rattle.f3_gen_statements.specs.declared.chain.Test.{Test}
use Rattle.f3_gen_statements.specs.declared.chain.Test.TheVariants as test

-- over so many lines where the link is not taken
abbrev pub test_code : Option Place → Test → ℕ → List Line
test_code o (test.Condition e) k = value_code o e.now ++ line o (i.SkipIfFalse k) ∷ []
test_code o (test.Ranges rs) k = ranges_code o rs.now ++ line o (i.GoOn k) ∷ []

-- and then, from what is done where it is taken, over so many lines for others
abbrev pub taken_code : Option Place → Test → (taken : List Line) → ℕ → List Line
taken_code o t x n = test_code o t (length x + 1) ++ (x ++ line o (i.GoOn n) ∷ [])

-- a link, in front of so many lines for others, behind which the ways lead so far
abbrev pub link_code : ℕ → Setting → Link → ℕ → Ways → List Line
link_code m g l n ws = taken_code l.place l.test (code_of m l.place (lowered g l.then.now) (farther (1 + n) ws)) n

-- links, each in front of those behind it, and the last in front of the code of what is done where none is taken
abbrev pub chain_code : ℕ → Setting → List Link → List Line → Ways → List Line
chain_code m g [] last ws = last
chain_code m g (l ∷ ls) last ws = link_code m g l (length (chain_code m g ls last ws)) ws ++ chain_code m g ls last ws

-- a statement that is no IF, ELSE IF or case
abbrev pub IsSingle : s.Statement → Type 0
IsSingle (s.At' place false p x) = ⊥
IsSingle (s.If' e p x q y) = ⊥
IsSingle (s.Case' rs p x q y) = ⊥
IsSingle _ = Unit {0}
