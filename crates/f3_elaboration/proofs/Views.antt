-- The view of each variant.
use Rattle.std.proofs.Common.{◌≡◌, ℕ, Bool, map, Option, rules}
use Rattle.std.specs.Option.{option_map}
use Rattle.std.specs.Global.{Box, Vec}
use Rattle.f3_places.specs.declared.source.Place.{Place}
use Rattle.f3_program.specs.declared.declarations.Base.{Base}
use Rattle.f3_program.specs.declared.declarations.Constant.{Constant}
use Rattle.f3_program.specs.declared.declarations.Kind.{Kind}
use Rattle.f3_program.specs.declared.expression.Argument as a
use Rattle.f3_program.specs.declared.expression.BinaryOperator.{BinaryOperator}
use Rattle.f3_program.specs.declared.expression.Designator as d
use Rattle.f3_program.specs.declared.expression.Expression as e
use Rattle.f3_program.specs.declared.expression.Name.{Name}
use Rattle.f3_program.specs.declared.expression.Query.{Query}
use Rattle.f3_program.specs.declared.expression.Selection as l
use Rattle.f3_program.specs.declared.expression.Subscript as u
use Rattle.f3_program.specs.declared.expression.UnaryOperator.{UnaryOperator}
use Rattle.f3_program.specs.declared.statement.Item.{Item}
use Rattle.f3_program.specs.declared.statement.Range.{Range}
use Rattle.f3_program.specs.declared.statement.Request.{Request}
use Rattle.f3_program.specs.declared.statement.Selector.{Selector}
use Rattle.f3_program.specs.declared.statement.Statement as s
use Rattle.f3_elaboration.specs.Nodes as n
use Rattle.f3_elaboration.specs.Views.{argument_view, arguments_of, designator_view, expression_view, item_view, request_view, selection_view}
use Rattle.f3_elaboration.specs.Views.{selector_view, statement_view, statements_of, subscript_view, subscripts_of}

-- ---- expressions, arguments, designators

pub view_literal : (c : Constant) → expression_view (e.Literal c) ≡ n.literal c
view_literal c = search (rules, e.the_lemmas)

pub view_variable : (b : Box d.Designator) → expression_view (e.Variable b) ≡ n.variable (designator_view b.value)
view_variable b = search (rules, e.the_lemmas)

pub view_group : (b : Box e.Expression) → expression_view (e.Group b) ≡ n.group (expression_view b.value)
view_group b = search (rules, e.the_lemmas)

pub view_unary : (o : UnaryOperator) (of : Base) (b : Box e.Expression) → expression_view (e.Unary o of b) ≡ n.unary o of (expression_view b.value)
view_unary o of b = search (rules, e.the_lemmas)

pub view_binary : (o : BinaryOperator) (of : Base) (b : Box e.Expression) (c : Box e.Expression)
    → expression_view (e.Binary o of b c) ≡ n.binary o of (expression_view b.value) (expression_view c.value)
view_binary o of b c = search (rules, e.the_lemmas)

pub view_array : (v : Vec a.Argument) → expression_view (e.Array v) ≡ n.array (arguments_of (map argument_view v.items))
view_array v = search (rules, e.the_lemmas)

pub view_structure : (t : ℕ) (v : Vec a.Argument) → expression_view (e.Structure t v) ≡ n.structure t (arguments_of (map argument_view v.items))
view_structure t v = search (rules, e.the_lemmas)

pub view_reference : (f : ℕ) (v : Vec a.Argument) → expression_view (e.Call f v) ≡ n.reference f (arguments_of (map argument_view v.items))
view_reference f v = search (rules, e.the_lemmas)

pub view_allocated : (b : Box d.Designator) → expression_view (e.Allocated b) ≡ n.allocated (designator_view b.value)
view_allocated b = search (rules, e.the_lemmas)

pub view_size : (b : Box a.Argument) → expression_view (e.Size b) ≡ n.size (argument_view b.value)
view_size b = search (rules, e.the_lemmas)

pub view_bound : (q : Query) (b : Box a.Argument) (c : Box e.Expression)
    → expression_view (e.Bound q b c) ≡ n.bound q (argument_view b.value) (expression_view c.value)
view_bound q b c = search (rules, e.the_lemmas)

pub view_value : (k : ℕ) (b : Box e.Expression) → argument_view (a.Value k b) ≡ n.value k (expression_view b.value)
view_value k b = search (rules, a.the_lemmas)

pub view_object : (k : ℕ) (b : Box d.Designator) → argument_view (a.Variable k b) ≡ n.object k (designator_view b.value)
view_object k b = search (rules, a.the_lemmas)

pub view_name : (x : Name) (how : l.Selection) → designator_view (d.Name x how) ≡ n.name x (selection_view how)
view_name x how = search (rules, d.the_lemmas)

pub view_component : (b : Box d.Designator) (k : ℕ) (how : l.Selection)
    → designator_view (d.Component b k how) ≡ n.component (designator_view b.value) k (selection_view how)
view_component b k how = search (rules, d.the_lemmas)

pub view_whole : selection_view l.Whole ≡ n.whole
view_whole = search (rules, l.the_lemmas)

pub view_contents : selection_view l.Contents ≡ n.contents
view_contents = search (rules, l.the_lemmas)

pub view_elements : (b : Bool) (v : Vec u.Subscript) → selection_view (l.Elements b v) ≡ n.elements b (subscripts_of (map subscript_view v.items))
view_elements b v = search (rules, l.the_lemmas)

pub view_subscript : (b : Box e.Expression) → subscript_view (u.At b) ≡ n.subscript (expression_view b.value)
view_subscript b = search (rules, u.the_lemmas)

pub view_triplet : (x : Bool) (b : Box e.Expression) (y : Bool) (c : Box e.Expression) (step : Box e.Expression)
    → subscript_view (u.Range x b y c step) ≡ n.triplet x (expression_view b.value) y (expression_view c.value) (expression_view step.value)
view_triplet x b y c step = search (rules, u.the_lemmas)

-- ---- statements

pub view_at : (p : Place) (begins : Bool) (b : Box s.Statement) → statement_view (s.At p begins b) ≡ n.at p begins (statement_view b.value)
view_at p begins b = search (rules, s.the_lemmas)

pub view_block : (v : Vec s.Statement) → statement_view (s.Block v) ≡ n.block (statements_of (map statement_view v.items))
view_block v = search (rules, s.the_lemmas)

pub view_assign : (x : d.Designator) (k : Kind) (y : e.Expression) → statement_view (s.Assign x k y) ≡ n.assign (designator_view x) k (expression_view y)
view_assign x k y = search (rules, s.the_lemmas)

pub view_call : (x : e.Expression) → statement_view (s.Call x) ≡ n.call (expression_view x)
view_call x = search (rules, s.the_lemmas)

pub view_move_alloc : (k : Kind) (b : Bool) (x : d.Designator) (y : d.Designator)
    → statement_view (s.MoveAlloc k b x y) ≡ n.move_alloc k b (designator_view x) (designator_view y)
view_move_alloc k b x y = search (rules, s.the_lemmas)

pub view_allocate : (v : Vec Request) (stat : Option d.Designator)
    → statement_view (s.Allocate v stat) ≡ n.allocate (map request_view v.items) (option_map designator_view stat)
view_allocate v stat = search (rules, s.the_lemmas)

pub view_deallocate : (v : Vec Request) (stat : Option d.Designator)
    → statement_view (s.Deallocate v stat) ≡ n.deallocate (map request_view v.items) (option_map designator_view stat)
view_deallocate v stat = search (rules, s.the_lemmas)

pub view_print : (v : Vec Item) → statement_view (s.Print v) ≡ n.print (map item_view v.items)
view_print v = search (rules, s.the_lemmas)

pub view_stop : (code : Option ℕ) → statement_view (s.Stop code) ≡ n.stop code
view_stop code = search (rules, s.the_lemmas)

pub view_return : statement_view s.Return ≡ n.return
view_return = search (rules, s.the_lemmas)

pub view_cycle : statement_view s.Cycle ≡ n.cycle
view_cycle = search (rules, s.the_lemmas)

pub view_exit : statement_view s.Exit ≡ n.exit
view_exit = search (rules, s.the_lemmas)

pub view_branch : (x : e.Expression) (b : Box s.Statement) (c : Box s.Statement)
    → statement_view (s.If x b c) ≡ n.branch (expression_view x) (statement_view b.value) (statement_view c.value)
view_branch x b c = search (rules, s.the_lemmas)

pub view_select : (x : e.Expression) (b : Box s.Statement) → statement_view (s.Select x b) ≡ n.select (expression_view x) (statement_view b.value)
view_select x b = search (rules, s.the_lemmas)

pub view_case : (v : Vec Range) (b : Box s.Statement) (c : Box s.Statement)
    → statement_view (s.Case v b c) ≡ n.case v.items (statement_view b.value) (statement_view c.value)
view_case v b c = search (rules, s.the_lemmas)

pub view_while : (x : e.Expression) (b : Box s.Statement) → statement_view (s.While x b) ≡ n.while (expression_view x) (statement_view b.value)
view_while x b = search (rules, s.the_lemmas)

pub view_count : (x : d.Designator) (k : Kind) (first : e.Expression) (last : e.Expression) (step : e.Expression) (b : Box s.Statement)
    → statement_view (s.Count x k first last step b) ≡ n.count (designator_view x) k (expression_view first) (expression_view last) (expression_view step) (statement_view b.value)
view_count x k first last step b = search (rules, s.the_lemmas)

pub view_associate : (v : Vec Selector) (b : Box s.Statement)
    → statement_view (s.Associate v b) ≡ n.associate (map selector_view v.items) (statement_view b.value)
view_associate v b = search (rules, s.the_lemmas)
