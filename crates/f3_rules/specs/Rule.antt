-- The rules, in the order of the table.
use Rattle.std.specs.Prelude.{ℕ, List, codes}
use Rattle.f3_rules.specs.declared.rule.Rule.{Rule}
use Rattle.f3_rules.specs.declared.rule.Rule.TheVariants.{S1, S2, S3, S4, S5, S6, S7, S8, U1, U2, U3, U4, N1, N2, N3, N4, N5, N6, N7, N8}
use Rattle.f3_rules.specs.declared.rule.Rule.TheVariants.{N9, N10, N11, N12, N13, T1, T2, T3, T4, T5, T6, T7, T8, T9, T10, T11, T12, D1, D2}
use Rattle.f3_rules.specs.declared.rule.Rule.TheVariants.{D3, D4, D5, D6}

-- the row of a rule in the table, from 0
unfoldable pub row_of : Rule → ℕ
row_of S1 = 0
row_of S2 = 1
row_of S3 = 2
row_of S4 = 3
row_of S5 = 4
row_of S6 = 5
row_of S7 = 6
row_of S8 = 7
row_of U1 = 8
row_of U2 = 9
row_of U3 = 10
row_of U4 = 11
row_of N1 = 12
row_of N2 = 13
row_of N3 = 14
row_of N4 = 15
row_of N5 = 16
row_of N6 = 17
row_of N7 = 18
row_of N8 = 19
row_of N9 = 20
row_of N10 = 21
row_of N11 = 22
row_of N12 = 23
row_of N13 = 24
row_of T1 = 25
row_of T2 = 26
row_of T3 = 27
row_of T4 = 28
row_of T5 = 29
row_of T6 = 30
row_of T7 = 31
row_of T8 = 32
row_of T9 = 33
row_of T10 = 34
row_of T11 = 35
row_of T12 = 36
row_of D1 = 37
row_of D2 = 38
row_of D3 = 39
row_of D4 = 40
row_of D5 = 41
row_of D6 = 42

-- the identifier of a rule
unfoldable pub identifier : Rule → List ℕ
identifier S1 = codes "S1"
identifier S2 = codes "S2"
identifier S3 = codes "S3"
identifier S4 = codes "S4"
identifier S5 = codes "S5"
identifier S6 = codes "S6"
identifier S7 = codes "S7"
identifier S8 = codes "S8"
identifier U1 = codes "U1"
identifier U2 = codes "U2"
identifier U3 = codes "U3"
identifier U4 = codes "U4"
identifier N1 = codes "N1"
identifier N2 = codes "N2"
identifier N3 = codes "N3"
identifier N4 = codes "N4"
identifier N5 = codes "N5"
identifier N6 = codes "N6"
identifier N7 = codes "N7"
identifier N8 = codes "N8"
identifier N9 = codes "N9"
identifier N10 = codes "N10"
identifier N11 = codes "N11"
identifier N12 = codes "N12"
identifier N13 = codes "N13"
identifier T1 = codes "T1"
identifier T2 = codes "T2"
identifier T3 = codes "T3"
identifier T4 = codes "T4"
identifier T5 = codes "T5"
identifier T6 = codes "T6"
identifier T7 = codes "T7"
identifier T8 = codes "T8"
identifier T9 = codes "T9"
identifier T10 = codes "T10"
identifier T11 = codes "T11"
identifier T12 = codes "T12"
identifier D1 = codes "D1"
identifier D2 = codes "D2"
identifier D3 = codes "D3"
identifier D4 = codes "D4"
identifier D5 = codes "D5"
identifier D6 = codes "D6"

-- the words of a rule
unfoldable pub words : Rule → List ℕ
words S1 = codes "character not allowed"
words S2 = codes "unfinished constant or continuation"
words S3 = codes "name too long"
words S4 = codes "literal too large"
words S5 = codes "no statement of the profile"
words S6 = codes "statement out of place or wrong END name"
words S7 = codes "text ends inside a unit"
words S8 = codes "nesting above 64 or a size limit"
words U1 = codes "unit name twice"
words U2 = codes "module missing"
words U3 = codes "module reaches itself"
words U4 = codes "not exactly one main program"
words N1 = codes "module has no such name"
words N2 = codes "name is private there"
words N3 = codes "declared twice"
words N4 = codes "attribute on a use-associated name"
words N5 = codes "access outside a module"
words N6 = codes "access given twice"
words N7 = codes "access to no entity"
words N8 = codes "PROTECTED not on a variable of this module"
words N9 = codes "INTENT missing or misplaced"
words N10 = codes "name not accessible"
words N11 = codes "name of several entities"
words N12 = codes "no such component"
words N13 = codes "private component"
words T1 = codes "attributes together"
words T2 = codes "constant"
words T3 = codes "type not defined before"
words T4 = codes "final"
words T5 = codes "size limit"
words T6 = codes "type"
words T7 = codes "rank"
words T8 = codes "arguments"
words T9 = codes "kind of thing"
words T10 = codes "constructor"
words T11 = codes "CASE overlap"
words T12 = codes "finalizable value"
words D1 = codes "protected variable"
words D2 = codes "INTENT(IN)"
words D3 = codes "not a variable"
words D4 = codes "active DO variable"
words D5 = codes "definition in a PURE procedure"
words D6 = codes "call, PRINT or STOP in a PURE procedure"
