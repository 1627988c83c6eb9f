-- What a word may stand for.
use Rattle.std.specs.Prelude.{Bool, true, false}
use Rattle.f3_tree.specs.declared.expression.Name.{Name as Identifier}
use Rattle.f3_words.specs.declared.item.Word.{Word}
use Rattle.f3_words.specs.declared.item.Word.TheVariants.{Name}
use Rattle.f3_words.specs.declared.item.Item.{Item}

-- keywords are not reserved (3.3.1, 2.5.2): each of them is a name as well
abbrev pub is_name : Word → Bool
is_name (Name k) = true
is_name _ = false

-- the identifier that stands at an item
abbrev pub name_of : Item → Identifier
name_of i = record { symbol = i.symbol; place = i.place }
