-- Nodes of procedures from the nodes of their parts.
use Rattle.std.proofs.Common.{◌≡◌, ℕ, ◌+◌, List, [], Option, None, map, refl, sym, ap, ◌∙◌}
use Rattle.f3_places.specs.declared.source.Place.{Place}
use Rattle.f3_tree.specs.Tree.{ProcedureTree, UnitTree}
use Rattle.f3_type_rules.specs.Members.{Member, Numbered}
use Rattle.f3_elaboration.specs.Nodes as n
use Rattle.f3_elaboration.specs.Nodes.{DeclaredNode, DummyNode, ProcedureNode, StatementNode}
use Rattle.f3_elaboration.specs.Context.{Surroundings}
use Rattle.f3_elaboration.specs.Declarations.{Whole, variable}
use Rattle.f3_elaboration.specs.Numbers.{main_locals, member_locals}
use Rattle.f3_elaboration.specs.Statements.{block}
use Rattle.f3_elaboration.specs.Units.{dummy, in_main, in_member, main, procedure, result_of}

abbrev pub made : (unit : ℕ) → List DummyNode → List DeclaredNode → Option DeclaredNode → StatementNode → Place → ProcedureNode
made unit dummies locals outcome body end = record {
  unit = unit;
  dummies = dummies;
  locals = locals;
  result = outcome;
  body = body;
  end = end;
}

made_same : (unit : ℕ) {ds es : List DummyNode} {ls ks : List DeclaredNode} {o p : Option DeclaredNode} {b c : StatementNode} {x y : Place}
    → ds ≡ es → ls ≡ ks → o ≡ p → b ≡ c → x ≡ y → made unit ds ls o b x ≡ made unit es ks p c y
made_same unit e1 e2 e3 e4 e5 = cc

pub of_member : (w : Whole) (unit scope : ℕ) (m : Member) (p : ProcedureTree) (s : Surroundings) (ds : List DummyNode) (ls : List DeclaredNode) (o : Option DeclaredNode) (b : StatementNode)
    → m.scope ≡ scope → m.tree ≡ p → s ≡ in_member w unit m → ds ≡ map (dummy w unit m) (p.header).dummies → ls ≡ map (variable w) (member_locals unit m)
    → o ≡ result_of w unit m (p.header).kind → b ≡ n.block (block s (scope + 1) p.body) → made unit ds ls o b p.end ≡ procedure w unit m
of_member w unit scope m p s ds ls o b at is here dummies locals outcome body =
    made_same unit
    (dummies ∙ ap (λ (x : ProcedureTree). map (dummy w unit m) (x.header).dummies) (sym is)) locals
    (outcome ∙ ap (λ (x : ProcedureTree). result_of w unit m (x.header).kind) (sym is))
    (body ∙ ap (λ k. n.block (block s (k + 1) p.body)) (sym at) ∙ ap (λ x. n.block (block x (m.scope + 1) p.body)) here
    ∙ ap (λ (x : ProcedureTree). n.block (block (in_member w unit m) (m.scope + 1) x.body)) (sym is))
    (ap (λ (x : ProcedureTree). x.end) (sym is))

pub of_main : (w : Whole) (scope : ℕ) (u : Numbered) (t : UnitTree) (s : Surroundings) (ls : List DeclaredNode) (b : StatementNode)
    → u.scope ≡ scope → u.tree ≡ t → s ≡ in_main w u → ls ≡ map (variable w) (main_locals u) → b ≡ n.block (block s (scope + 1) t.body) → made scope [] ls None b t.end ≡ main w u
of_main w scope u t s ls b at is here locals body =
    ap (λ k. made k [] ls None b t.end) (sym at)
    ∙ made_same u.scope refl locals refl
    (body ∙ ap (λ k. n.block (block s (k + 1) t.body)) (sym at) ∙ ap (λ x. n.block (block x (u.scope + 1) t.body)) here
    ∙ ap (λ (x : UnitTree). n.block (block (in_main w u) (u.scope + 1) x.body)) (sym is))
    (ap (λ (x : UnitTree). x.end) (sym is))
