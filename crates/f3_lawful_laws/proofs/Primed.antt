-- The view of each form in memory, by cases.
use Rattle.std.proofs.Common.{◌≡◌, ℕ, Bool, map, rules}
use Rattle.f3_places.specs.declared.source.Place.{Place}
use Rattle.f3_program.specs.declared.declarations.Base.{Base}
use Rattle.f3_program.specs.declared.declarations.Kind.{Kind}
use Rattle.f3_program.specs.declared.expression.Argument as a
use Rattle.f3_program.specs.declared.expression.BinaryOperator.{BinaryOperator}
use Rattle.f3_program.specs.declared.expression.Designator as d
use Rattle.f3_program.specs.declared.expression.Expression as e
use Rattle.f3_program.specs.declared.expression.Expression.TheVariants.{outs-Array', outs-Structure', outs-Call'}
use Rattle.f3_program.specs.declared.expression.Query.{Query}
use Rattle.f3_program.specs.declared.expression.Selection as l
use Rattle.f3_program.specs.declared.expression.Selection.TheVariants.{outs-Elements'}
use Rattle.f3_program.specs.declared.expression.Subscript as u
use Rattle.f3_program.specs.declared.expression.UnaryOperator.{UnaryOperator}
use Rattle.f3_program.specs.declared.statement.Statement as s
use Rattle.f3_program.specs.declared.statement.Statement.TheVariants.{outs-Block'}
use Rattle.f3_elaboration.specs.Nodes as n
use Rattle.f3_elaboration.specs.Views.{expression_view, argument_view, designator_view, selection_view, subscript_view, statement_view, selector_view}
use Rattle.f3_elaboration.specs.Views.{arguments_of, subscripts_of, statements_of}
use Rattle.f3_elaboration.proofs.Views as v

pub component_is : (q : _) (x : d.Designator) (k : ℕ) (how : l.Selection)
    → designator_view (d.Component' q x k how) ≡ n.component (designator_view x) k (selection_view how)
component_is q x k how = v.view_component (record { ptr = q.ptr; alloc = q.alloc; value = x }) k how

pub variable_is : (q : _) (x : d.Designator) → expression_view (e.Variable' q x) ≡ n.variable (designator_view x)
variable_is q x = v.view_variable (record { ptr = q.ptr; alloc = q.alloc; value = x })

pub group_is : (q : _) (x : e.Expression) → expression_view (e.Group' q x) ≡ n.group (expression_view x)
group_is q x = v.view_group (record { ptr = q.ptr; alloc = q.alloc; value = x })

pub unary_is : (o : UnaryOperator) (of : Base) (q : _) (x : e.Expression) → expression_view (e.Unary' o of q x) ≡ n.unary o of (expression_view x)
unary_is o of q x = v.view_unary o of (record { ptr = q.ptr; alloc = q.alloc; value = x })

pub binary_is : (o : BinaryOperator) (of : Base) (q : _) (x : e.Expression) (r : _) (y : e.Expression)
    → expression_view (e.Binary' o of q x r y) ≡ n.binary o of (expression_view x) (expression_view y)
binary_is o of q x r y = v.view_binary o of (record { ptr = q.ptr; alloc = q.alloc; value = x }) (record { ptr = r.ptr; alloc = r.alloc; value = y })

pub allocated_is : (q : _) (x : d.Designator) → expression_view (e.Allocated' q x) ≡ n.allocated (designator_view x)
allocated_is q x = v.view_allocated (record { ptr = q.ptr; alloc = q.alloc; value = x })

pub size_is : (q : _) (x : a.Argument) → expression_view (e.Size' q x) ≡ n.size (argument_view x)
size_is q x = v.view_size (record { ptr = q.ptr; alloc = q.alloc; value = x })

pub bound_is : (o : Query) (q : _) (x : a.Argument) (r : _) (y : e.Expression)
    → expression_view (e.Bound' o q x r y) ≡ n.bound o (argument_view x) (expression_view y)
bound_is o q x r y = v.view_bound o (record { ptr = q.ptr; alloc = q.alloc; value = x }) (record { ptr = r.ptr; alloc = r.alloc; value = y })

pub array_is : (k : _) (xs : _) → expression_view (e.Array' k xs) ≡ n.array (arguments_of (map argument_view (e.items-the_row-Argument _ xs)))
array_is k xs = search (rules, e.the_lemmas, outs-Array')

pub structure_is : (t : ℕ) (k : _) (xs : _)
    → expression_view (e.Structure' t k xs) ≡ n.structure t (arguments_of (map argument_view (e.items-the_row-Argument _ xs)))
structure_is t k xs = search (rules, e.the_lemmas, outs-Structure')

pub reference_is : (f : ℕ) (k : _) (xs : _)
    → expression_view (e.Call' f k xs) ≡ n.reference f (arguments_of (map argument_view (e.items-the_row-Argument _ xs)))
reference_is f k xs = search (rules, e.the_lemmas, outs-Call')

pub value_is : (k : ℕ) (q : _) (x : e.Expression) → argument_view (a.Value' k q x) ≡ n.value k (expression_view x)
value_is k q x = v.view_value k (record { ptr = q.ptr; alloc = q.alloc; value = x })

pub object_is : (k : ℕ) (q : _) (x : d.Designator) → argument_view (a.Variable' k q x) ≡ n.object k (designator_view x)
object_is k q x = v.view_object k (record { ptr = q.ptr; alloc = q.alloc; value = x })

pub elements_is : (o : Bool) (k : _) (xs : _) → selection_view (l.Elements' o k xs) ≡ n.elements o (subscripts_of (map subscript_view (l.items-the_row-Subscript _ xs)))
elements_is o k xs = search (rules, l.the_lemmas, outs-Elements')

pub subscript_is : (q : _) (x : e.Expression) → subscript_view (u.At' q x) ≡ n.subscript (expression_view x)
subscript_is q x = v.view_subscript (record { ptr = q.ptr; alloc = q.alloc; value = x })

pub triplet_is : (b : Bool) (q : _) (x : e.Expression) (c : Bool) (r : _) (y : e.Expression) (t : _) (z : e.Expression)
    → subscript_view (u.Range' b q x c r y t z) ≡ n.triplet b (expression_view x) c (expression_view y) (expression_view z)
triplet_is b q x c r y t z = v.view_triplet b (record { ptr = q.ptr; alloc = q.alloc; value = x }) c (record { ptr = r.ptr; alloc = r.alloc; value = y }) (record { ptr = t.ptr; alloc = t.alloc; value = z })

-- ---- statements

pub at_is : (place : Place) (b : Bool) (q : _) (x : s.Statement) → statement_view (s.At' place b q x) ≡ n.at place b (statement_view x)
at_is place b q x = v.view_at place b (record { ptr = q.ptr; alloc = q.alloc; value = x })

pub block_is : (k : _) (xs : _) → statement_view (s.Block' k xs) ≡ n.block (statements_of (map statement_view (s.items-the_row-Statement _ xs)))
block_is k xs = search (rules, s.the_lemmas, outs-Block')

pub branch_is : (x : e.Expression) (q : _) (y : s.Statement) (r : _) (z : s.Statement)
    → statement_view (s.If' x q y r z) ≡ n.branch (expression_view x) (statement_view y) (statement_view z)
branch_is x q y r z = v.view_branch x (record { ptr = q.ptr; alloc = q.alloc; value = y }) (record { ptr = r.ptr; alloc = r.alloc; value = z })

pub select_is : (x : e.Expression) (q : _) (y : s.Statement) → statement_view (s.Select' x q y) ≡ n.select (expression_view x) (statement_view y)
select_is x q y = v.view_select x (record { ptr = q.ptr; alloc = q.alloc; value = y })

pub case_is : (rs : _) (q : _) (x : s.Statement) (r : _) (y : s.Statement)
    → statement_view (s.Case' rs q x r y) ≡ n.case rs.items (statement_view x) (statement_view y)
case_is rs q x r y = v.view_case rs (record { ptr = q.ptr; alloc = q.alloc; value = x }) (record { ptr = r.ptr; alloc = r.alloc; value = y })

pub while_is : (x : e.Expression) (q : _) (y : s.Statement) → statement_view (s.While' x q y) ≡ n.while (expression_view x) (statement_view y)
while_is x q y = v.view_while x (record { ptr = q.ptr; alloc = q.alloc; value = y })

pub count_is : (x : d.Designator) (k : Kind) (first : e.Expression) (last : e.Expression) (step : e.Expression) (q : _) (y : s.Statement)
    → statement_view (s.Count' x k first last step q y)
    ≡ n.count (designator_view x) k (expression_view first) (expression_view last) (expression_view step) (statement_view y)
count_is x k first last step q y = v.view_count x k first last step (record { ptr = q.ptr; alloc = q.alloc; value = y })

pub associate_is : (xs : _) (q : _) (y : s.Statement) → statement_view (s.Associate' xs q y) ≡ n.associate (map selector_view xs.items) (statement_view y)
associate_is xs q y = v.view_associate xs (record { ptr = q.ptr; alloc = q.alloc; value = y })
