-- What is known where a statement or an expression stands.
use Rattle.std.specs.Prelude.{ℕ, ◌+◌, nat_eq, position, length, List, Option, map}
use Rattle.std.specs.List.{flat_map}
use Rattle.f3_tree.specs.Statements.{AssociationTree}
use Rattle.f3_program.specs.declared.declarations.Base.{Base}
use Rattle.f3_program.specs.declared.expression.Name as program
use Rattle.f3_program.specs.declared.expression.Name.TheVariants.{Lent}
use Rattle.f3_kinds.specs.declared.types.DataType.{DataType}
use Rattle.f3_kinds.specs.Things.{map_or, Context}
use Rattle.f3_type_rules.specs.Associates.{associated, context_inside}
use Rattle.f3_elaboration.specs.Numbers.{entity_of, base_by}

-- What the rules on types know, what the program's entities and those of its procedure are, how many objects are lent, and the character
-- constants.
pub record Surroundings : Type 0 where
  pub context : Context
  pub object : (entity : ℕ) → program.Name
  pub procedure : (entity : ℕ) → ℕ
  pub type : (entity : ℕ) → ℕ
  pub lent : ℕ
  pub texts : List (List ℕ)

abbrev pub base : Surroundings → Option DataType → Base
base s t = base_by s.type t

-- the entity of an associate name, which the construct of this number declares
abbrev pub associate_entity : Context → (number : ℕ) → AssociationTree → ℕ
associate_entity c number x = entity_of (c.look number (x.name).symbol)

-- of these entities each is the next object that is lent
abbrev pub object_inside : Surroundings → List ℕ → (entity : ℕ) → program.Name
object_inside s es e = map_or (s.object e) (λ k. Lent (s.lent + k)) (position (nat_eq e) es)

-- Inside the ASSOCIATE construct of this number: its names have the next numbers of what is lent (8.1.4).
abbrev pub inside : Surroundings → (number : ℕ) → List AssociationTree → Surroundings
inside s number xs = record s {
  context = context_inside number (flat_map (associated s.context number) xs) s.context;
  object = object_inside s (map (associate_entity s.context number) xs);
  lent = s.lent + length xs;
}
