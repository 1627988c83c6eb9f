-- Branches and cases, each with what is done where it is not taken: the next one, and the last the alternative.
use Rattle.std.specs.Prelude.{Bool, false, List, [], ◌∷◌, map}
use Rattle.f3_places.specs.declared.source.Place.{Place}
use Rattle.f3_tree.specs.Statements.{Selects, values, default}
use Rattle.f3_program.specs.declared.statement.Range.{Range}
use Rattle.f3_kinds.specs.Things.{Context}
use Rattle.f3_elaboration.specs.Nodes as n
use Rattle.f3_elaboration.specs.Nodes.{ExpressionNode, StatementNode}
use Rattle.f3_elaboration.specs.Statements.{case_range}
use Rattle.f3_elaboration.specs.Views.{expression_view, statement_view}
use Rattle.f3_construct_nodes.specs.declared.branches.Branch.{Branch}
use Rattle.f3_construct_nodes.specs.declared.cases.Case.{Case}

pub record BranchNode : Type 0 where
  pub place : Place
  pub condition : ExpressionNode
  pub block : StatementNode

abbrev pub branch_of : Branch → BranchNode
branch_of b = record { place = b.place; condition = expression_view b.condition; block = statement_view b.block }

-- IF, where the construct begins, and each ELSE IF
abbrev pub branched : (begins : Bool) → List BranchNode → (otherwise : StatementNode) → StatementNode
branched begins [] otherwise = otherwise
branched begins (b ∷ bs) otherwise = n.at b.place begins (n.branch b.condition b.block (branched false bs otherwise))

pub record CaseNode : Type 0 where
  pub ranges : List Range
  pub block : StatementNode

abbrev pub case_of : Case → CaseNode
case_of c = record { ranges = c.ranges.items; block = statement_view c.block }

abbrev pub chosen : List CaseNode → (otherwise : StatementNode) → StatementNode
chosen [] otherwise = otherwise
chosen (c ∷ cs) otherwise = n.case c.ranges c.block (chosen cs otherwise)

-- a case before others, by what they make of what is done where none is met
abbrev pub case_before : Context → Selects → (body : StatementNode) → (others : StatementNode → StatementNode) → (otherwise : StatementNode) → StatementNode
case_before c (values vs) body others otherwise = n.case (map (case_range c) vs) body (others otherwise)
case_before c default body others otherwise = others body
