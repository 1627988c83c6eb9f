-- What actions mean in the elaborated program (ISO/IEC 1539-1:2004, 6.3, 7.4.1, 8.1.6, 8.4, 9.5, 12.4).
use Rattle.std.specs.Prelude.{ℕ, pos, Bool, true, false, ◌==◌, List, [], ◌∷◌, Option, None, Some, map, slice_index_or}
use Rattle.std.specs.Option.{option_map}
use Rattle.f3_tree.specs.declared.expression.Name.{Name}
use Rattle.f3_tree.specs.Expressions as t
use Rattle.f3_tree.specs.Statements as a
use Rattle.f3_program.specs.declared.declarations.Base.TheVariants.{Integer}
use Rattle.f3_program.specs.declared.declarations.Kind.{Kind}
use Rattle.f3_program.specs.declared.expression.Name.TheVariants.{Local}
use Rattle.f3_kinds.specs.declared.said.Has.{Has}
use Rattle.f3_kinds.specs.declared.things.Intrinsic.TheVariants.{MoveAlloc}
use Rattle.f3_kinds.specs.Things.{map_or, subroutine, Meaning, entity, intrinsic, meaning_of}
use Rattle.f3_kinds.specs.Typing.{said}
use Rattle.f3_type_rules.specs.Shapes.{natural}
use Rattle.f3_elaboration.specs.Nodes as n
use Rattle.f3_elaboration.specs.Nodes.{ExpressionNode, DesignatorNode, ItemNode, BoundsNode, RequestNode, StatementNode}
use Rattle.f3_elaboration.specs.Context.{Surroundings, base}
use Rattle.f3_elaboration.specs.Expressions.{number, Given, value, triplet, Part, or_one, itself, arguments_for, given_in, expression, parts, given}

-- what CONTINUE does
abbrev pub nothing_done : StatementNode
nothing_done = n.block n.no_statements

-- ---- variables where they are defined

-- the type and the rank of an expression, and whether it is a whole allocatable
abbrev pub kind_by : Surroundings → Option Has → Kind
kind_by s None = record { of = Integer; rank = 0; is_allocatable = false }
kind_by s (Some h) = record { of = base s h.data_type; rank = h.rank; is_allocatable = h.is_allocatable }

abbrev pub kind : Surroundings → t.Tree → Kind
kind s e = kind_by s (said s.context e).has

-- of what an allocatable holds
abbrev pub held_kind : Kind → Kind
held_kind k = record k { is_allocatable = false }

abbrev pub named_by : ExpressionNode → DesignatorNode
named_by (n.variable d) = d
named_by _ = n.name (Local 0) n.whole

-- a variable; where it is a whole allocatable, what it holds
abbrev pub variable : Surroundings → t.Parts → DesignatorNode
variable s v = named_by (expression s (t.designator v))

-- ---- assignment and MOVE_ALLOC

abbrev pub assignment : Surroundings → t.Parts → t.Tree → StatementNode
assignment s v e = n.assign (itself (variable s v)) (kind s (t.designator v)) (expression s e)

abbrev pub allocatable : Surroundings → t.Tree → DesignatorNode
allocatable s e = itself (named_by (expression s e))

-- FROM is the first dummy (13.7.82)
abbrev pub is_from : ℕ × ℕ → Option Name → Bool
is_from names keyword = map_or true (λ (k : Name). k.symbol == names.0) keyword

abbrev pub move : Surroundings → List t.ArgumentTree → StatementNode
move s (t.value keyword e ∷ t.value other f ∷ []) = n.move_alloc (kind s e) (is_from (s.context).moving keyword) (allocatable s e) (allocatable s f)
move s _ = nothing_done

-- ---- CALL

abbrev pub called : Surroundings → Meaning → List t.ArgumentTree → StatementNode
called s (entity e (subroutine pure ds)) list = n.call (n.reference (s.procedure e) (arguments_for ds 0 (given s (t.arguments_of list))))
called s (intrinsic MoveAlloc) list = move s list
called s _ list = nothing_done

-- ---- ALLOCATE and DEALLOCATE

-- an object without the bounds behind it
abbrev pub unbounded : t.Parts → t.Parts
unbounded t.no_parts = t.no_parts
unbounded (t.parts m b t.no_parts) = t.parts m t.bare t.no_parts
unbounded (t.parts m b (t.parts k c ps)) = t.parts m b (unbounded (t.parts k c ps))

abbrev pub last_given : List Part → List Given
last_given [] = []
last_given (p ∷ []) = given_in p
last_given (p ∷ q ∷ ps) = last_given (q ∷ ps)

abbrev pub bounds : Given → BoundsNode
bounds (value keyword x) = record { lower = number (pos 1); upper = x }
bounds (triplet first last stride) = record { lower = or_one first; upper = or_one last }

abbrev pub request : Surroundings → t.Parts → RequestNode
request s v = record {
  object = itself (variable s (unbounded v));
  kind = kind s (t.designator (unbounded v));
  bounds = map bounds (last_given (parts s v));
}

-- ---- PRINT

abbrev pub item : Surroundings → t.Tree → ItemNode
item s (t.text p k) = n.text (slice_index_or s.texts k [])
item s e = n.shown (expression s e)

-- ---- actions

abbrev pub action : Surroundings → a.Act → StatementNode
action s (a.assign v e) = assignment s v e
action s (a.call m list) = called s (meaning_of s.context m.symbol) list
action s (a.allocate vs stat) = n.allocate (map (request s) vs) (option_map (variable s) stat)
action s (a.deallocate vs stat) = n.deallocate (map (request s) vs) (option_map (variable s) stat)
action s (a.print es) = n.print (map (item s) es)
action s (a.stop code) = n.stop (option_map natural code)
action s a.return = n.return
action s a.cycle = n.cycle
action s a.exit = n.exit
action s a.continue = nothing_done
