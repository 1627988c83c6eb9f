-- What statements and constructs mean in the elaborated program (ISO/IEC 1539-1:2004, 8.1). An ASSOCIATE construct is a scope of its
-- own: the number of the next one goes along.
use Rattle.std.specs.Prelude.{ℕ, ◌+◌, ℤ, pos, Bool, true, false, map, length}
use Rattle.f3_tree.specs.Expressions as e
use Rattle.f3_tree.specs.Statements as t
use Rattle.f3_tree.specs.Statements.{CaseTree, one, from, up_to, range, AssociationTree}
use Rattle.f3_program.specs.declared.statement.Range.{Range}
use Rattle.f3_program.specs.declared.statement.Range.TheVariants.{One, From, To, Between}
use Rattle.f3_program.specs.declared.declarations.Kind.{Kind}
use Rattle.f3_kinds.specs.Things.{map_or, Context}
use Rattle.f3_kinds.specs.Values.{value_of}
use Rattle.f3_type_rules.specs.Associates.{constructs_of, constructs_of_branches, constructs_of_block}
use Rattle.f3_type_rules.specs.Statements.{variable_of}
use Rattle.f3_elaboration.specs.Nodes as n
use Rattle.f3_elaboration.specs.Nodes.{ExpressionNode, SelectorNode, StatementNode, StatementNodes}
use Rattle.f3_elaboration.specs.Declarations.{whole_number, constant_of}
use Rattle.f3_elaboration.specs.Context.{Surroundings, inside}
use Rattle.f3_elaboration.specs.Expressions.{number, truth, expression}
use Rattle.f3_elaboration.specs.Actions.{nothing_done, kind, held_kind, variable, action}

-- ---- the values of a CASE (8.1.3)

abbrev pub case_number : Context → e.Tree → ℤ
case_number c e = whole_number (value_of c e)

abbrev pub case_range : Context → CaseTree → Range
case_range c (one e) = One (constant_of (value_of c e))
case_range c (from e) = From (case_number c e)
case_range c (up_to p e) = To (case_number c e)
case_range c (range e f) = Between (case_number c e) (case_number c f)

-- ---- selectors (8.1.4): a variable, or a value

abbrev pub selected : Kind → ExpressionNode → SelectorNode
selected k (n.variable d) = n.means d
selected k x = n.holds k x

abbrev pub selector : Surroundings → AssociationTree → SelectorNode
selector s x = selected (kind s x.selector) (expression s x.selector)

-- ---- loops (8.1.6)

-- the step is 1 where it is not written
abbrev pub loop : Surroundings → t.Controls → (body : StatementNode) → StatementNode
loop s t.forever body = n.while (truth true) body
loop s (t.while e) body = n.while (expression s e) body
loop s (t.counted v first last step) body =
    n.count (variable s (variable_of v)) (held_kind (kind s (e.designator (variable_of v))))
    (expression s first) (expression s last) (map_or (number (pos 1)) (expression s) step) body

-- ---- statements

abbrev mutual
  pub statement : Surroundings → (next : ℕ) → t.StatementTree → StatementNode
  statement s next (t.acts p a) = n.at p true (action s a)
  statement s next (t.acts_if p e q a) = n.at p true (n.branch (expression s e) (action s a) nothing_done)
  statement s next (t.branches bs other) = branches s next true bs (alternative s (next + length (constructs_of_branches bs)) other)
  statement s next (t.selects p e cs) = n.at p true (n.select (expression s e) (cases s next cs nothing_done))
  statement s next (t.repeats p control body) = n.at p true (loop s control (n.block (block s next body)))
  statement s next (t.associates p xs body) = n.at p true (n.associate (map (selector s) xs) (n.block (block (inside s next xs) (next + 1) body)))

  pub block : Surroundings → (next : ℕ) → t.Block → StatementNodes
  block s next t.no_statements = n.no_statements
  block s next (t.statements x b) = n.statements (statement s next x) (block s (next + length (constructs_of x)) b)

  -- IF, which begins the construct, and each ELSE IF, with what is done where no condition holds
  pub branches : Surroundings → (next : ℕ) → (begins : Bool) → t.Branches → (otherwise : StatementNode) → StatementNode
  branches s next begins t.no_branches otherwise = otherwise
  branches s next begins (t.branch p e b bs) otherwise =
      n.at p begins (n.branch (expression s e) (n.block (block s next b))
      (branches s (next + length (constructs_of_block b)) false bs otherwise))

  pub alternative : Surroundings → (next : ℕ) → t.Alternative → StatementNode
  alternative s next t.no_alternative = nothing_done
  alternative s next (t.alternative b) = n.block (block s next b)

  -- the cases, with what is done where none is met: DEFAULT, wherever it stands
  pub cases : Surroundings → (next : ℕ) → t.Cases → (otherwise : StatementNode) → StatementNode
  cases s next t.no_cases otherwise = otherwise
  cases s next (t.case_block p (t.values vs) b cs) otherwise =
      n.case (map (case_range s.context) vs) (n.block (block s next b)) (cases s (next + length (constructs_of_block b)) cs otherwise)
  cases s next (t.case_block p t.default b cs) otherwise = cases s (next + length (constructs_of_block b)) cs (n.block (block s next b))
