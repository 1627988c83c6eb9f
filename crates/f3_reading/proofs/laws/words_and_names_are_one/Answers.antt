use Rattle.f3_reading.proofs.Ones.{words, names, enclosed_names, name_lists, names_or_none, colons, whole_names, labels, whole_lists}
use Rattle.f3_reading.proofs.laws.words_and_names_are_one.Goals as goal

pub returns-clause-words : goal.returns-clause-words
returns-clause-words c = words

pub returns-clause-names : goal.returns-clause-names
returns-clause-names c = (names, enclosed_names, name_lists, names_or_none, colons, whole_names, labels, whole_lists)
