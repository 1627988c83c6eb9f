-- Statements that break no rule make sense.
use Rattle.std.proofs.Common.{◌≡◌, ℕ, ◌+◌, Bool, true, false, List, [], ◌∷◌, ◌++◌, length, map, Option, None, Some, refl, sym, ap, ◌∙◌}
use Rattle.std.specs.Prelude.{pos}
use Rattle.std.specs.List.{flat_map}
use Rattle.std.specs.Map.{lookup}
use Rattle.std.specs.Prelude.{nat_eq}
use Rattle.f3_places.specs.declared.source.Place.{Place}
use Rattle.f3_rules.specs.declared.breaks.Break.{Break}
use Rattle.f3_tree.specs.Expressions as e
use Rattle.f3_tree.specs.Statements as t
use Rattle.f3_tree.specs.Statements.{AssociationTree}
use Rattle.f3_program.specs.declared.declarations.Declared.{Declared}
use Rattle.f3_program.specs.declared.declarations.Kind.{Kind}
use Rattle.f3_program.specs.declared.program.Program.{Program}
use Rattle.f3_kinds.specs.declared.types.Wanted.{Wanted}
use Rattle.f3_kinds.specs.declared.types.Wanted.TheVariants as wanted
use Rattle.f3_kinds.specs.declared.said.Role.TheVariants as role
use Rattle.f3_kinds.specs.Things.{map_or, Context}
use Rattle.f3_kinds.specs.Rows.{scalar_rows}
use Rattle.f3_kinds.specs.Typing.{said, breaks, designator_at}
use Rattle.f3_meaning_whole.specs.Permitted.{Each}
use Rattle.f3_meaning_whole.specs.Formed.{some, given_all, or_none, is_scalar, is_condition, is_whole_number, same_kind}
use Rattle.f3_type_rules.specs.declared.definition.Holder.{Holder}
use Rattle.f3_type_rules.specs.Associates.{associated, associate_nature, constructs_of, constructs_of_branches, constructs_of_block, site_inside}
use Rattle.f3_type_rules.specs.Bodies.{act_rows, control_rows, selector_rows, statement_breaks, block_breaks, branch_breaks, other_breaks, case_breaks}
use Rattle.f3_type_rules.specs.Cases.{select_breaks}
use Rattle.f3_type_rules.specs.Definitions.{Site, definition_rows, defined, in_loop}
use Rattle.f3_type_rules.specs.Statements.{act_breaks, condition_breaks, control_breaks, number_breaks, number_defined, variable_of}
use Rattle.f3_elaboration.specs.Nodes as n
use Rattle.f3_elaboration.specs.Nodes.{StatementNode}
use Rattle.f3_elaboration.specs.Context.{Surroundings, inside}
use Rattle.f3_elaboration.specs.Expressions.{number, expression}
use Rattle.f3_elaboration.specs.Actions.{action, nothing_done, kind, held_kind, variable}
use Rattle.f3_elaboration.specs.Statements.{loop, selector, statement, block, branches, alternative, cases}
use Rattle.f3_lawful_laws.specs.Written.{IsWritten, IsActWritten}
use Rattle.f3_lawful_laws.specs.Blocks.{IsStepWritten, IsControlWritten, Opens, IsPlaced, IsBlockPlaced, AreBranchesPlaced, IsOtherPlaced, AreCasesPlaced}
use Rattle.f3_lawful_laws.proofs.Facts.{first, second, both}
use Rattle.f3_lawful_laws.proofs.Typed.{fit}
use Rattle.f3_formed_laws.specs.Nodes as node
use Rattle.f3_formed_laws.specs.Nodes.{value_kind, is_object_of, is_formed, are_formed}
use Rattle.f3_formed_laws.specs.Levels.{IsLevelled, IsActLevelled, IsStepLevelled, IsControlLevelled, IsStatementLevelled, IsBlockLevelled, AreBranchesLevelled}
use Rattle.f3_formed_laws.specs.Levels.{IsOtherLevelled, AreCasesLevelled}
use Rattle.f3_formed_laws.specs.Agreement.{AgreesInKinds}
use Rattle.f3_formed_laws.proofs.Alike.{IsOf}
use Rattle.f3_formed_laws.proofs.Scalars.{Scalar, scalar, typed_of, whole_number, condition}
use Rattle.f3_formed_laws.proofs.Expressions.{expression_is}
use Rattle.f3_formed_laws.proofs.Requests.{kind_itself}
use Rattle.f3_formed_laws.proofs.Actions.{action_is, Number, number_of}
use Rattle.f3_formed_laws.proofs.Naming.{IsSelector, kinds_for, selectors_are}
use Rattle.f3_formed_laws.proofs.Inside.{agrees_within, lent_within}

module _ (p : Program) (vs : List Declared) (held : ℕ → Option Holder) where
  -- where a statement stands
  pub record Here (ns : List Kind) (s : Surroundings) (site : Site) : Type 0 where
    pub agrees : AgreesInKinds p vs ns s
    pub lent : s.lent ≡ length ns
    pub here : site.context ≡ s.context

  module _ (ns : List Kind) (s : Surroundings) (site : Site) (h : Here ns s site) where
    at_here : (f : Context → List Break) → f site.context ≡ [] → f s.context ≡ []
    at_here f b = ap f (sym h.here) ∙ b

    value_is : (x : e.Tree) → IsWritten x → IsLevelled x → breaks site.context x ≡ [] → IsOf p vs ns s (expression s x) (said s.context x).has
    value_is x w l b = expression_is p vs ns s h.agrees x w l (at_here (λ c. breaks c x) b)

    scalar_is : (want : Wanted) (x : e.Tree) → IsWritten x → IsLevelled x → breaks site.context x ≡ [] → scalar_rows want (said site.context x) ≡ []
        → Scalar p vs ns s want (expression s x)
    scalar_is want x w l b rows =
        let is : IsOf p vs ns s (expression s x) (said s.context x).has = value_is x w l b in
        scalar p vs ns s want (expression s x) (said s.context x).has is
        (fit want (said s.context x) (typed_of p vs ns s (expression s x) (said s.context x).has is) (at_here (λ c. scalar_rows want (said c x)) rows))

    condition_is : (x : e.Tree) → IsWritten x → IsLevelled x → condition_breaks site.context x ≡ [] → some (value_kind p vs ns (expression s x)) is_condition ≡ true
    condition_is x w l b = condition p vs ns s (expression s x) (scalar_is wanted.Logical x w l (first _ _ b) (second (breaks site.context x) _ b))

    number_is : (x : e.Tree) → IsWritten x → IsLevelled x → number_breaks site.context x ≡ [] → some (value_kind p vs ns (expression s x)) is_whole_number ≡ true
    number_is x w l b = whole_number p vs ns s (expression s x) (scalar_is wanted.Integer x w l (first _ _ b) (second (breaks site.context x) _ b))

    selected_is : (x : e.Tree) (cs : t.Cases) → IsWritten x → IsLevelled x → select_breaks site.context x cs ≡ [] → some (value_kind p vs ns (expression s x)) is_scalar ≡ true
    selected_is x cs w l b =
        let at : Scalar p vs ns s wanted.Intrinsic (expression s x) =
        scalar_is wanted.Intrinsic x w l (first _ _ b) (first _ _ (second (breaks site.context x) _ b)) in
        ap (λ k. some k is_scalar) at.value

    act_is : (place : Place) (a : t.Act) → IsActWritten a → IsActLevelled a → act_rows site place a ≡ [] → is_formed p vs (action s a) ns ≡ true
    act_is place a w l b =
        action_is p vs ns s h.agrees site h.here a w l (at_here (λ c. act_breaks c a) (first _ _ b))
        (at_here (λ c. flat_map (definition_rows site) (defined c a)) (first _ _ (second (act_breaks site.context a) _ b)))

    step_is : (step : Option e.Tree) → IsStepWritten step → IsStepLevelled step → map_or [] (number_breaks site.context) step ≡ []
        → some (value_kind p vs ns (map_or (number (pos 1)) (expression s) step)) is_whole_number ≡ true
    step_is None w l b = refl
    step_is (Some x) w l b = number_is x w l b

    loop_is : (control : t.Controls) (body : StatementNode) → IsControlWritten control → IsControlLevelled control → control_rows site control ≡ []
        → is_formed p vs body ns ≡ true → is_formed p vs (loop s control body) ns ≡ true
    loop_is t.forever body w l b f = f
    loop_is (t.while x) body w l b f = both _ _ (condition_is x w l (first _ _ b)) f
    loop_is (t.counted v from to step) body w l b f =
        let own = first _ _ b in
        let bounds = second (number_defined site.context (variable_of v)) _ own in
        let others = second (number_breaks site.context from) _ bounds in
        let at : Number p vs ns s h.agrees site h.here (variable_of v) =
        number_of p vs ns s h.agrees site h.here (variable_of v) (tt, (tt, tt)) (tt, tt) (at_here (λ c. number_defined c (variable_of v)) (first _ _ own))
        (at_here (λ c. definition_rows site (designator_at c role.Variable (variable_of v))) (first _ _ (second (control_breaks site.context (t.counted v from to step)) _ b))) in
        let k : Kind = held_kind (kind s (e.designator (variable_of v))) in
        both (is_whole_number k) _ at.whole
        (both (is_object_of p vs ns k (variable s (variable_of v))) _ (ap (λ o. some o (same_kind p vs ns k)) at.kind_is ∙ kind_itself p vs ns k)
        (both (some (value_kind p vs ns (expression s from)) is_whole_number) _ (number_is from w.0 l.0 (first _ _ bounds))
        (both (some (value_kind p vs ns (expression s to)) is_whole_number) _ (number_is to w.1 l.1 (first _ _ others))
        (both (some (value_kind p vs ns (map_or (number (pos 1)) (expression s) step)) is_whole_number) _
        (step_is step w.2 l.2 (second (number_breaks site.context to) _ others)) f))))

    selectors_hold : (xs : List AssociationTree) → Each (λ (x : AssociationTree). IsWritten x.selector) xs → Each (λ (x : AssociationTree). IsLevelled x.selector) xs
        → selector_rows site xs ≡ [] → Each (IsSelector p vs ns s) xs
    selectors_hold [] w l b = tt
    selectors_hold (x ∷ xs) w l b = (
      value_is x.selector w.0 l.0 (first _ _ b),
      selectors_hold xs w.1 l.1 (second (breaks site.context x.selector) _ b),
    )

    -- inside a DO
    looped : (control : t.Controls) → Here ns s (in_loop site control)
    looped control = record { agrees = h.agrees; lent = h.lent; here = h.here }

    -- inside an ASSOCIATE
    within_is : (next : ℕ) (xs : List AssociationTree) → Each (IsSelector p vs ns s) xs → Opens (s.context).look held (s.context).scope next xs
        → Here (ns ++ kinds_for p vs ns s xs) (inside s next xs) (site_inside next xs site)
    within_is next xs is opens = record {
      agrees = agrees_within p vs ns s h.agrees h.lent next xs is held opens;
      lent = lent_within p vs ns s h.agrees h.lent next xs is held opens;
      here = ap (λ (c : Context). record c {
        scope = next;
        nature = λ e. map_or (c.nature e) (λ s. Some (associate_nature s)) (lookup (nat_eq e) (flat_map (associated c next) xs));
      }) h.here;
    }

    associate_is : (next : ℕ) (xs : List AssociationTree) (body : StatementNode) → Each (IsSelector p vs ns s) xs
        → is_formed p vs body (ns ++ kinds_for p vs ns s xs) ≡ true → is_formed p vs (n.associate (map (selector s) xs) body) ns ≡ true
    associate_is next xs body is f =
        let ks = selectors_are p vs ns s xs is in
        both (some (given_all (map (node.selected p vs ns) (map (selector s) xs))) (λ ks. true)) _ (ap (λ o. some o (λ ks. true)) ks)
        (ap (λ o. is_formed p vs body (ns ++ or_none o)) ks ∙ f)

  mutual
    pub statement_is : (x : t.StatementTree) (ns : List Kind) (s : Surroundings) (site : Site) (next : ℕ) → Here ns s site
        → IsPlaced (s.context).look held (s.context).scope next x → IsStatementLevelled x → statement_breaks site next x ≡ [] → is_formed p vs (statement s next x) ns ≡ true
    statement_is (t.acts q a) ns s site next h w l b = act_is ns s site h q a w l b
    statement_is (t.acts_if q x r a) ns s site next h w l b =
        both _ _ (condition_is ns s site h x w.0 l.0 (first _ _ b)) (both _ _ (act_is ns s site h r a w.1 l.1 (second (condition_breaks site.context x) _ b)) refl)
    statement_is (t.branches bs other) ns s site next h w l b =
        branches_are bs ns s site next true h w.0 l.0 (first _ _ b) _
        (other_is other ns s site (next + length (constructs_of_branches bs)) h w.1 l.1 (second (branch_breaks site next bs) _ b))
    statement_is (t.selects q x cs) ns s site next h w l b =
        both _ _ (selected_is ns s site h x cs w.0 l.0 (first _ _ b))
        (cases_are cs ns s site next h w.1 l.1 (second (select_breaks site.context x cs) _ b) nothing_done refl)
    statement_is (t.repeats q control body) ns s site next h w l b =
        loop_is ns s site h control (n.block (block s next body)) w.0 l.0 (first _ _ b)
        (block_is body ns s (in_loop site control) next (looped ns s site h control) w.1 l.1 (second (control_rows site control) _ b))
    statement_is (t.associates q xs body) ns s site next h w l b =
        let is : Each (IsSelector p vs ns s) xs = selectors_hold ns s site h xs w.0 l.0 (first _ _ b) in
        associate_is ns s site h next xs (n.block (block (inside s next xs) (next + 1) body)) is
        (block_is body (ns ++ kinds_for p vs ns s xs) (inside s next xs) (site_inside next xs site) (next + 1) (within_is ns s site h next xs is w.1) w.2 l.1
        (second (selector_rows site xs) _ b))

    pub block_is : (x : t.Block) (ns : List Kind) (s : Surroundings) (site : Site) (next : ℕ) → Here ns s site
        → IsBlockPlaced (s.context).look held (s.context).scope next x → IsBlockLevelled x → block_breaks site next x ≡ [] → are_formed p vs (block s next x) ns ≡ true
    block_is t.no_statements ns s site next h w l b = refl
    block_is (t.statements x y) ns s site next h w l b =
        both _ _ (statement_is x ns s site next h w.0 l.0 (first _ _ b))
        (block_is y ns s site (next + length (constructs_of x)) h w.1 l.1 (second (statement_breaks site next x) _ b))

    branches_are : (bs : t.Branches) (ns : List Kind) (s : Surroundings) (site : Site) (next : ℕ) (begins : Bool) → Here ns s site
        → AreBranchesPlaced (s.context).look held (s.context).scope next bs → AreBranchesLevelled bs → branch_breaks site next bs ≡ [] → (otherwise : StatementNode)
        → is_formed p vs otherwise ns ≡ true → is_formed p vs (branches s next begins bs otherwise) ns ≡ true
    branches_are t.no_branches ns s site next begins h w l b otherwise f = f
    branches_are (t.branch q x y bs) ns s site next begins h w l b otherwise f =
        let behind = second (condition_breaks site.context x) _ b in
        both _ _ (condition_is ns s site h x w.0 l.0 (first _ _ b))
        (both _ _ (block_is y ns s site next h w.1 l.1 (first _ _ behind))
        (branches_are bs ns s site (next + length (constructs_of_block y)) false h w.2 l.2 (second (block_breaks site next y) _ behind) otherwise f))

    other_is : (x : t.Alternative) (ns : List Kind) (s : Surroundings) (site : Site) (next : ℕ) → Here ns s site
        → IsOtherPlaced (s.context).look held (s.context).scope next x → IsOtherLevelled x → other_breaks site next x ≡ [] → is_formed p vs (alternative s next x) ns ≡ true
    other_is t.no_alternative ns s site next h w l b = refl
    other_is (t.alternative y) ns s site next h w l b = block_is y ns s site next h w l b

    cases_are : (cs : t.Cases) (ns : List Kind) (s : Surroundings) (site : Site) (next : ℕ) → Here ns s site
        → AreCasesPlaced (s.context).look held (s.context).scope next cs → AreCasesLevelled cs → case_breaks site next cs ≡ [] → (otherwise : StatementNode)
        → is_formed p vs otherwise ns ≡ true → is_formed p vs (cases s next cs otherwise) ns ≡ true
    cases_are t.no_cases ns s site next h w l b otherwise f = f
    cases_are (t.case_block q (t.values zs) y cs) ns s site next h w l b otherwise f =
        both _ _ (block_is y ns s site next h w.0 l.0 (first _ _ b))
        (cases_are cs ns s site (next + length (constructs_of_block y)) h w.1 l.1 (second (block_breaks site next y) _ b) otherwise f)
    cases_are (t.case_block q t.default y cs) ns s site next h w l b otherwise f =
        cases_are cs ns s site (next + length (constructs_of_block y)) h w.1 l.1 (second (block_breaks site next y) _ b)
        (n.block (block s next y)) (block_is y ns s site next h w.0 l.0 (first _ _ b))
