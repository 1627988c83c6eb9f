-- Statements that break no rule may run.
use Rattle.std.proofs.Common.{◌≡◌, ℕ, ◌+◌, Bool, true, false, List, [], ◌∷◌, length, map, Option, None, Some, sym, ap, ◌∙◌}
use Rattle.std.specs.Prelude.{pos}
use Rattle.std.specs.List.{flat_map}
use Rattle.f3_places.specs.declared.source.Place.{Place}
use Rattle.f3_rules.specs.declared.breaks.Break.{Break}
use Rattle.f3_tree.specs.Expressions as e
use Rattle.f3_tree.specs.Statements as t
use Rattle.f3_tree.specs.Statements.{AssociationTree}
use Rattle.f3_program.specs.declared.program.Program.{Program}
use Rattle.f3_kinds.specs.declared.said.Role.TheVariants as role
use Rattle.f3_kinds.specs.Things.{map_or, Context}
use Rattle.f3_kinds.specs.Typing.{breaks, designator_at, designator_breaks}
use Rattle.f3_meaning_whole.specs.Permitted.{Each, Scope, naming}
use Rattle.f3_type_rules.specs.declared.definition.Holder.{Holder}
use Rattle.f3_type_rules.specs.Associates.{constructs_of, constructs_of_branches, constructs_of_block, site_inside}
use Rattle.f3_type_rules.specs.Bodies.{act_rows, control_rows, selector_rows, statement_breaks, block_breaks, branch_breaks, other_breaks, case_breaks}
use Rattle.f3_type_rules.specs.Cases.{select_breaks}
use Rattle.f3_type_rules.specs.Definitions.{Site, definition_rows, defined, in_loop}
use Rattle.f3_type_rules.specs.Statements.{act_breaks, condition_breaks, control_breaks, number_breaks, number_defined, variable_of}
use Rattle.f3_elaboration.specs.Nodes as n
use Rattle.f3_elaboration.specs.Nodes.{StatementNode}
use Rattle.f3_elaboration.specs.Context.{Surroundings, inside}
use Rattle.f3_elaboration.specs.Expressions.{number, expression}
use Rattle.f3_elaboration.specs.Actions.{action, nothing_done}
use Rattle.f3_elaboration.specs.Statements.{loop, selector, statement, block, branches, alternative, cases}
use Rattle.f3_lawful_laws.specs.Nodes.{NodeValue, NodeRuns, NodesRun, names_by}
use Rattle.f3_lawful_laws.specs.Written.{IsWritten, IsActWritten}
use Rattle.f3_lawful_laws.specs.Blocks.{IsStepWritten, IsControlWritten, IsPlaced, IsBlockPlaced, AreBranchesPlaced, IsOtherPlaced, AreCasesPlaced}
use Rattle.f3_lawful_laws.specs.Agreement.{Agrees, Allows, Lends}
use Rattle.f3_lawful_laws.proofs.Facts.{first, second}
use Rattle.f3_lawful_laws.proofs.Expressions.{expression_is}
use Rattle.f3_lawful_laws.proofs.Variables.{variable_defines}
use Rattle.f3_lawful_laws.proofs.Actions.{may_value, action_runs}
use Rattle.f3_lawful_laws.proofs.Naming.{IsSelector, selectors_may}
use Rattle.f3_lawful_laws.proofs.Inside.{agrees_within, lends_within, allows_within}

module _ (p : Program) (held : ℕ → Option Holder) where
  -- where a statement stands
  pub record Here (scope : Scope) (s : Surroundings) (site : Site) : Type 0 where
    pub agrees : Agrees p scope s
    pub lends : Lends scope s
    pub allows : Allows p scope s site held

  module _ (scope : Scope) (s : Surroundings) (site : Site) (here : Here scope s site) where
    at_here : (f : Context → List Break) → f site.context ≡ [] → f s.context ≡ []
    at_here f h = ap f (sym here.allows.here) ∙ h

    value_runs : (x : e.Tree) → IsWritten x → breaks site.context x ≡ [] → NodeValue p scope (expression s x)
    value_runs x w b = may_value p scope s here.agrees site held here.allows x w (at_here (λ c. breaks c x) b)

    act_runs : (place : Place) (a : t.Act) → IsActWritten a → act_rows site place a ≡ [] → NodeRuns p (action s a) scope
    act_runs place a w b =
        action_runs p scope s here.agrees site held here.allows a w (at_here (λ c. act_breaks c a) (first _ _ b))
        (at_here (λ c. flat_map (definition_rows site) (defined c a)) (first _ _ (second (act_breaks site.context a) _ b)))

    step_may : (step : Option e.Tree) → IsStepWritten step → map_or [] (number_breaks site.context) step ≡ []
        → NodeValue p scope (map_or (number (pos 1)) (expression s) step)
    step_may None w b = tt
    step_may (Some x) w b = value_runs x w (first _ _ b)

    loop_runs : (control : t.Controls) (body : StatementNode) → IsControlWritten control → control_rows site control ≡ [] → NodeRuns p body scope
        → NodeRuns p (loop s control body) scope
    loop_runs t.forever body w b h = (tt, h)
    loop_runs (t.while x) body w b h = (value_runs x w (first _ _ (first _ _ b)), h)
    loop_runs (t.counted v from to step) body w b h =
        let own = first _ _ b in
        let bounds = second (number_defined site.context (variable_of v)) _ own in
        let others = second (number_breaks site.context from) _ bounds in (
          (variable_defines p scope s here.agrees site held here.allows (variable_of v) tt (tt, tt)
              (at_here (λ c. designator_breaks c role.Variable (variable_of v)) (first _ _ (first _ _ own)))
              (at_here (λ c. definition_rows site (designator_at c role.Variable (variable_of v))) (first _ _ (second (control_breaks site.context (t.counted v from to step)) _ b)))).0,
          value_runs from w.0 (first _ _ (first _ _ bounds)),
          value_runs to w.1 (first _ _ (first _ _ others)),
          step_may step w.2 (second (number_breaks site.context to) _ others),
          h,
        )

    selectors_are : (xs : List AssociationTree) → Each (λ (x : AssociationTree). IsWritten x.selector) xs → selector_rows site xs ≡ [] → Each (IsSelector p scope s) xs
    selectors_are [] w b = tt
    selectors_are (x ∷ xs) w b = (
      expression_is p scope s here.agrees x.selector w.0 (at_here (λ c. breaks c x.selector) (first _ _ b)),
      selectors_are xs w.1 (second (breaks site.context x.selector) _ b),
    )

    -- inside a DO
    looped : (control : t.Controls) → Here scope s (in_loop site control)
    looped control = record {
      agrees = here.agrees;
      lends = here.lends;
      allows = record { here = here.allows.here; holders = here.allows.holders; defines = here.allows.defines };
    }

  mutual
    pub statement_runs : (x : t.StatementTree) (scope : Scope) (s : Surroundings) (site : Site) (next : ℕ) → Here scope s site
        → IsPlaced (s.context).look held (s.context).scope next x → statement_breaks site next x ≡ [] → NodeRuns p (statement s next x) scope
    statement_runs (t.acts q a) scope s site next here w b = act_runs scope s site here q a w b
    statement_runs (t.acts_if q x r a) scope s site next here w b = (
      value_runs scope s site here x w.0 (first _ _ (first _ _ b)),
      act_runs scope s site here r a w.1 (second (condition_breaks site.context x) _ b),
      tt,
    )
    statement_runs (t.branches bs other) scope s site next here w b =
        branches_run bs scope s site next true here w.0 (first _ _ b) _
        (other_runs other scope s site (next + length (constructs_of_branches bs)) here w.1 (second (branch_breaks site next bs) _ b))
    statement_runs (t.selects q x cs) scope s site next here w b = (
      value_runs scope s site here x w.0 (first _ _ (first _ _ b)),
      cases_run cs scope s site next here w.1 (second (select_breaks site.context x cs) _ b) nothing_done tt,
    )
    statement_runs (t.repeats q control body) scope s site next here w b =
        loop_runs scope s site here control (n.block (block s next body)) w.0 (first _ _ b)
        (block_runs body scope s (in_loop site control) next (looped scope s site here control) w.1 (second (control_rows site control) _ b))
    statement_runs (t.associates q xs body) scope s site next here w b =
        let is : Each (IsSelector p scope s) xs = selectors_are scope s site here xs w.0 (first _ _ b) in
        let inner : Here (naming (names_by p scope (map (selector s) xs)) scope) (inside s next xs) (site_inside next xs site) = record {
          agrees = agrees_within p scope s here.agrees here.lends next xs is held w.1;
          lends = lends_within p scope s here.agrees here.lends next xs is held w.1;
          allows = allows_within p scope s here.agrees here.lends next xs is held w.1 site here.allows;
        } in (
          selectors_may p scope s xs is,
          block_runs body (naming (names_by p scope (map (selector s) xs)) scope) (inside s next xs) (site_inside next xs site) (next + 1) inner w.2
              (second (selector_rows site xs) _ b),
        )

    pub block_runs : (x : t.Block) (scope : Scope) (s : Surroundings) (site : Site) (next : ℕ) → Here scope s site
        → IsBlockPlaced (s.context).look held (s.context).scope next x → block_breaks site next x ≡ [] → NodesRun p (block s next x) scope
    block_runs t.no_statements scope s site next here w b = tt
    block_runs (t.statements x y) scope s site next here w b = (
      statement_runs x scope s site next here w.0 (first _ _ b),
      block_runs y scope s site (next + length (constructs_of x)) here w.1 (second (statement_breaks site next x) _ b),
    )

    branches_run : (bs : t.Branches) (scope : Scope) (s : Surroundings) (site : Site) (next : ℕ) (begins : Bool) → Here scope s site
        → AreBranchesPlaced (s.context).look held (s.context).scope next bs → branch_breaks site next bs ≡ [] → (otherwise : StatementNode)
        → NodeRuns p otherwise scope → NodeRuns p (branches s next begins bs otherwise) scope
    branches_run t.no_branches scope s site next begins here w b otherwise h = h
    branches_run (t.branch q x y bs) scope s site next begins here w b otherwise h =
        let behind = second (condition_breaks site.context x) _ b in (
          value_runs scope s site here x w.0 (first _ _ (first _ _ b)),
          block_runs y scope s site next here w.1 (first _ _ behind),
          branches_run bs scope s site (next + length (constructs_of_block y)) false here w.2 (second (block_breaks site next y) _ behind) otherwise h,
        )

    other_runs : (x : t.Alternative) (scope : Scope) (s : Surroundings) (site : Site) (next : ℕ) → Here scope s site
        → IsOtherPlaced (s.context).look held (s.context).scope next x → other_breaks site next x ≡ [] → NodeRuns p (alternative s next x) scope
    other_runs t.no_alternative scope s site next here w b = tt
    other_runs (t.alternative y) scope s site next here w b = block_runs y scope s site next here w b

    cases_run : (cs : t.Cases) (scope : Scope) (s : Surroundings) (site : Site) (next : ℕ) → Here scope s site
        → AreCasesPlaced (s.context).look held (s.context).scope next cs → case_breaks site next cs ≡ [] → (otherwise : StatementNode)
        → NodeRuns p otherwise scope → NodeRuns p (cases s next cs otherwise) scope
    cases_run t.no_cases scope s site next here w b otherwise h = h
    cases_run (t.case_block q (t.values vs) y cs) scope s site next here w b otherwise h = (
      block_runs y scope s site next here w.0 (first _ _ b),
      cases_run cs scope s site (next + length (constructs_of_block y)) here w.1 (second (block_breaks site next y) _ b) otherwise h,
    )
    cases_run (t.case_block q t.default y cs) scope s site next here w b otherwise h =
        cases_run cs scope s site (next + length (constructs_of_block y)) here w.1 (second (block_breaks site next y) _ b)
        (n.block (block s next y)) (block_runs y scope s site next here w.0 (first _ _ b))
