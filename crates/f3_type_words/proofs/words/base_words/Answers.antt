use Rattle.std.proofs.Common.{arith}
use Rattle.f3_type_words.proofs.TableLaws.{words_of_type, words_of_none}
use Rattle.f3_type_words.proofs.words.base_words.Goals as goal

pub returns-then-number-tables : goal.returns-then-number-tables
returns-then-number-tables c = λ ts have. rw c.in-Derived.is (words_of_none ts c.args.tables.now c.in-Derived.number have (omega arith))

pub returns-else-number-tables : goal.returns-else-number-tables
returns-else-number-tables c = λ ts have. rw c.in-Derived.is (words_of_type ts c.args.tables.now c.in-Derived.number _ have (omega arith))
