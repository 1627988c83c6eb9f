-- Inside an ASSOCIATE construct the rules and the program agree too.
use Rattle.std.proofs.Common.{◌≡◌, ℕ, suc, ◌+◌, ◌<◌, Bool, true, false, List, [], ◌∷◌, ◌++◌, length, map, position, nat_eq, Option, None, Some, refl, sym, ap, ◌∙◌, arith}
use Rattle.std.specs.Prelude.{slice_index_or}
use Rattle.std.specs.List.{flat_map}
use Rattle.std.specs.Map.{lookup}
use mathlib.Core.Path.{subst}
use Rattle.f3_lookups.specs.declared.lookup.Lookup.TheVariants.{One}
use Rattle.f3_tree.specs.Statements.{AssociationTree}
use Rattle.f3_program.specs.declared.expression.Name as program
use Rattle.f3_program.specs.declared.expression.Name.TheVariants.{Static, Local, Lent}
use Rattle.f3_program.specs.declared.program.Program.{Program}
use Rattle.f3_kinds.specs.declared.types.Object.{Object}
use Rattle.f3_kinds.specs.declared.said.Form.{Form}
use Rattle.f3_kinds.specs.declared.said.Form.TheVariants.{Computed, Constant, Variable}
use Rattle.f3_kinds.specs.declared.said.Has.{Has}
use Rattle.f3_kinds.specs.declared.said.Said.{Said}
use Rattle.f3_kinds.specs.declared.things.Component.{Component}
use Rattle.f3_kinds.specs.Things.{map_or, Nature, constant, variable, derived, subroutine, function, Context, look_here}
use Rattle.f3_kinds.specs.Rows.{is_known}
use Rattle.f3_kinds.specs.Operands.{type_in}
use Rattle.f3_kinds.specs.Typing.{said}
use Rattle.f3_meaning_whole.specs.Permitted.{Each, Lendable, Scope, unknown, name_of, naming}
use Rattle.f3_type_rules.specs.declared.definition.Holder.{Holder}
use Rattle.f3_type_rules.specs.Associates.{associated, associate_nature, associate_chain, selected_chain, plain_chain, site_inside}
use Rattle.f3_rules.specs.declared.rule.Rule.TheVariants.{D1, D2}
use Rattle.f3_kinds.specs.Rows.{unless}
use Rattle.f3_program.specs.declared.declarations.Kind.{Kind}
use Rattle.std.specs.Prelude.{not, ◌||◌, ◌==◌}
use Rattle.f3_type_rules.specs.Definitions.{Site, Chain, at_first, intent_rows}
use Rattle.f3_elaboration.specs.Nodes as n
use Rattle.f3_elaboration.specs.Nodes.{ExpressionNode, SelectorNode}
use Rattle.f3_elaboration.specs.Context.{Surroundings, base, associate_entity, inside}
use Rattle.f3_elaboration.specs.Expressions.{expression}
use Rattle.f3_elaboration.specs.Actions.{kind}
use Rattle.f3_elaboration.specs.Statements.{selected, selector}
use Rattle.f3_lawful_laws.specs.Nodes.{designated, names_by}
use Rattle.f3_lawful_laws.specs.Agreement.{Agrees, Allows, Lends, IsWithin, IsKnown, Knows, IsType, AreComponents, lend_rows}
use Rattle.f3_lawful_laws.specs.Blocks.{IsFree, Opens}
use Rattle.f3_lawful_laws.proofs.Facts.{no, same, second}
use Rattle.f3_lawful_laws.proofs.Alike.{IsOf, HasAs, HasRoot, IsNoVariable}
use Rattle.f3_lawful_laws.proofs.Naming.{index_behind, index_before, lendable_by, IsSelector, selector_type, Named, Among, is_named, is_other, among}

-- a nature that an object has
abbrev object_in : Object → Nature → Object
object_in o (variable v) = v
object_in o _ = o

object_same : (o q : Object) → Some (variable o) ≡ Some (variable q) → o ≡ q
object_same o q e = ap (object_in o) (same e)

abbrev is_variable : Nature → Bool
is_variable (variable o) = true
is_variable _ = false

module _ (p : Program) (scope : Scope) (s : Surroundings) (agrees : Agrees p scope s) (lends : Lends scope s) (number : ℕ) (xs : List AssociationTree)
    (is : Each (IsSelector p scope s) xs) (held : ℕ → Option Holder) (opens : Opens (s.context).look held (s.context).scope number xs) where
  abbrev within : Surroundings
  within = inside s number xs

  abbrev scope_within : Scope
  scope_within = naming (names_by p scope (map (selector s) xs)) scope

  abbrev names : List (ℕ × Said)
  names = flat_map (associated s.context number) xs

  which : (e : ℕ) → Among p scope s number xs held e
  which e = among p scope s number xs held e is opens.declared opens.free

  -- what an entity is there
  nature_named : (e : ℕ) (x : Said) → lookup (nat_eq e) names ≡ Some x → (within.context).nature e ≡ Some (associate_nature x)
  nature_named e x h = ap (λ o. map_or ((s.context).nature e) (λ s. Some (associate_nature s)) o) h

  nature_other : (e : ℕ) → lookup (nat_eq e) names ≡ None → (within.context).nature e ≡ (s.context).nature e
  nature_other e h = ap (λ o. map_or ((s.context).nature e) (λ s. Some (associate_nature s)) o) h

  object_named : (e k : ℕ) → position (nat_eq e) (map (associate_entity s.context number) xs) ≡ Some k → within.object e ≡ Lent (s.lent + k)
  object_named e k h = ap (λ o. map_or (s.object e) (λ k. Lent (s.lent + k)) o) h

  object_other : (e : ℕ) → position (nat_eq e) (map (associate_entity s.context number) xs) ≡ None → within.object e ≡ s.object e
  object_other e h = ap (λ o. map_or (s.object e) (λ k. Lent (s.lent + k)) o) h

  -- what is known of a name of the construct, and of another
  name_named : (e : ℕ) (r : Named p scope s number xs held e) → name_of p scope_within (within.object e) ≡ lendable_by p scope s (selector s r.name)
  name_named e r =
      ap (name_of p scope_within) (object_named e r.place r.placed)
      ∙ ap (λ c. slice_index_or (scope.names ++ names_by p scope (map (selector s) xs)) (c + r.place) unknown) lends.count
      ∙ index_behind scope.names (names_by p scope (map (selector s) xs)) r.place ∙ r.known

  kept_name : (x : program.Name) → IsWithin s.lent x → name_of p scope_within x ≡ name_of p scope x
  kept_name (Static k) h = refl
  kept_name (Local k) h = refl
  kept_name (Lent k) h = index_before scope.names (names_by p scope (map (selector s) xs)) k (subst (λ c. k < c) lends.count h)

  -- what is visible there, and is no name of the construct, is visible around it
  seen_around : (symbol e : ℕ) (o : Object) → look_here within.context symbol ≡ One e → (within.context).nature e ≡ Some (variable o)
      → lookup (nat_eq e) names ≡ None → position (nat_eq e) (map (associate_entity s.context number) xs) ≡ None
      → (look_here s.context symbol ≡ One e) × ((s.context).nature e ≡ Some (variable o))
  seen_around symbol e o looked nature a b = (opens.around symbol e looked b, sym (nature_other e a) ∙ nature)

  known_named : (o : Option Has) (e : ExpressionNode) → IsOf p scope s e o → is_known (type_in o) ≡ true
  known_named None e h = absurd h
  known_named (Some y) e h = h.0

  -- what is no variable is the same there
  plain_there : (e : ℕ) (m : Nature) → is_variable m ≡ false → (within.context).nature e ≡ Some m → (s.context).nature e ≡ Some m
  plain_there e m plain nature = go (which e)
    where
      go : Among p scope s number xs held e → (s.context).nature e ≡ Some m
      go (is_named r) =
          no (ap is_variable (same (sym (nature_named e (said s.context r.name.selector) r.looked) ∙ nature)) ∙ plain)
      go (is_other a b) = sym (nature_other e a) ∙ nature

  knows_within : Knows within.context
  knows_within = record { natures = natures_there; variables = variables_known }
    where
      natures_there : (e : ℕ) (m : Nature) → (within.context).nature e ≡ Some m → IsKnown m
      natures_there e (variable o) nature = tt
      natures_there e (constant o) nature = agrees.known.natures e (constant o) (plain_there e (constant o) refl nature)
      natures_there e (derived home ks f) nature = agrees.known.natures e (derived home ks f) (plain_there e (derived home ks f) refl nature)
      natures_there e (subroutine pure ds) nature = agrees.known.natures e (subroutine pure ds) (plain_there e (subroutine pure ds) refl nature)
      natures_there e (function pure ds o) nature = agrees.known.natures e (function pure ds o) (plain_there e (function pure ds o) refl nature)

      variables_known : (symbol e : ℕ) (o : Object) → look_here within.context symbol ≡ One e → (within.context).nature e ≡ Some (variable o)
          → is_known o.data_type ≡ true
      variables_known symbol e o looked nature = go (which e)
        where
          go : Among p scope s number xs held e → is_known o.data_type ≡ true
          go (is_named r) =
              ap (λ (o : Object). is_known o.data_type)
              (sym (object_same _ o (sym (nature_named e (said s.context r.name.selector) r.looked) ∙ nature)))
              ∙ known_named (said s.context r.name.selector).has (expression s r.name.selector) r.is
          go (is_other a b) = let around = seen_around symbol e o looked nature a b in agrees.known.variables symbol e o around.0 around.1

  components_there : (ys : _) (ks : List (ℕ × Component)) → AreComponents s ys ks → AreComponents within ys ks
  components_there ys ks h = h

  pub agrees_within : Agrees p scope_within within
  agrees_within = record {
    unit = agrees.unit;
    known = knows_within;
    types = λ e home ks f nature. (
        let t : IsType p s e home ks = agrees.types e home ks f (plain_there e (derived home ks f) refl nature) in
        record { type = t.type; there = t.there; at_home = t.at_home; components = components_there (t.type.components).items ks t.components }
        );
    subroutines = λ e pure ds nature. agrees.subroutines e pure ds (plain_there e (subroutine pure ds) refl nature);
    functions = λ e pure ds o nature. agrees.functions e pure ds o (plain_there e (function pure ds o) refl nature);
    variables = variables_there;
  }
    where
      variables_there : (symbol e : ℕ) (o : Object) → look_here within.context symbol ≡ One e → (within.context).nature e ≡ Some (variable o)
          → (name_of p scope_within (within.object e)).of ≡ base within o.data_type
      variables_there symbol e o looked nature = go (which e)
        where
          go : Among p scope s number xs held e → (name_of p scope_within (within.object e)).of ≡ base within o.data_type
          go (is_named r) =
              ap (λ z. z.of) (name_named e r) ∙ selector_type p scope s r.name r.is
              ∙ ap (λ (o : Object). base s o.data_type)
              (object_same _ o (sym (nature_named e (said s.context r.name.selector) r.looked) ∙ nature))
          go (is_other a b) =
              let around = seen_around symbol e o looked nature a b in
              ap (λ z. (name_of p scope_within z).of) (object_other e b)
              ∙ ap (λ z. z.of) (kept_name (s.object e) (lends.within symbol e o around.0 around.1))
              ∙ agrees.variables symbol e o around.0 around.1

  pub lends_within : Lends scope_within within
  lends_within = record { count = counted; within = within_there }
    where
      long : (ys : List AssociationTree) → length (names_by p scope (map (selector s) ys)) ≡ length ys
      long [] = refl
      long (x ∷ ys) = one (selector s x) ∙ ap suc (long ys)
        where
          one : (z : SelectorNode) → length (names_by p scope (z ∷ map (selector s) ys)) ≡ suc (length (names_by p scope (map (selector s) ys)))
          one (n.means d) = refl
          one (n.holds k e) = refl

      joined : (ys zs : List Lendable) → length (ys ++ zs) ≡ length ys + length zs
      joined [] zs = let e : length zs ≡ 0 + length zs = omega arith in e
      joined (y ∷ ys) zs = ap suc (joined ys zs) ∙ (let e : suc (length ys + length zs) ≡ suc (length ys) + length zs = omega arith in e)

      counted : within.lent ≡ length (scope.names ++ names_by p scope (map (selector s) xs))
      counted =
          ap (λ c. c + length xs) lends.count ∙ ap (λ c. length scope.names + c) (sym (long xs)) ∙ sym (joined scope.names (names_by p scope (map (selector s) xs)))

      more : (x : program.Name) → IsWithin s.lent x → IsWithin (s.lent + length xs) x
      more (Static k) h = tt
      more (Local k) h = tt
      more (Lent k) h = let lt : k < s.lent = h in omega (arith, lt)

      within_there : (symbol e : ℕ) (o : Object) → look_here within.context symbol ≡ One e → (within.context).nature e ≡ Some (variable o)
          → IsWithin within.lent (within.object e)
      within_there symbol e o looked nature = go (which e)
        where
          go : Among p scope s number xs held e → IsWithin within.lent (within.object e)
          go (is_named r) = subst (IsWithin within.lent) (sym (object_named e r.place r.placed)) (let h : r.place < length xs = r.low in let k : s.lent + r.place < s.lent + length xs = omega (arith, h) in k)
          go (is_other a b) =
              let around = seen_around symbol e o looked nature a b in
              subst (IsWithin within.lent) (sym (object_other e b)) (more (s.object e) (lends.within symbol e o around.0 around.1))

  -- ---- definitions

  module _ (site : Site) (allows : Allows p scope s site held) where
    abbrev site_within : Site
    site_within = site_inside number xs site

    same_here : (site_within.context) ≡ within.context
    same_here =
        ap (λ (c : Context). record c { scope = number; nature = λ e. map_or (c.nature e) (λ s. Some (associate_nature s)) (lookup (nat_eq e) (flat_map (associated c number) xs)) }) allows.here

    -- the names that the rules know there
    names_same : flat_map (associated site.context number) xs ≡ names
    names_same = ap (λ (c : Context). flat_map (associated c number) xs) allows.here

    holder_named : (l : ℕ) (x : Said) → lookup (nat_eq l) names ≡ Some x → site_within.holder l ≡ None
    holder_named l x h = ap (λ zs. map_or (site.holder l) (λ s. None) (lookup (nat_eq l) zs)) names_same ∙ ap (λ o. map_or (site.holder l) (λ s. None) o) h

    holder_other : (l : ℕ) → lookup (nat_eq l) names ≡ None → site_within.holder l ≡ site.holder l
    holder_other l h = ap (λ zs. map_or (site.holder l) (λ s. None) (lookup (nat_eq l) zs)) names_same ∙ ap (λ o. map_or (site.holder l) (λ s. None) o) h

    chain_named : (e : ℕ) (x : Said) → lookup (nat_eq e) names ≡ Some x → site_within.chain e ≡ associate_chain site.chain e x
    chain_named e x h = ap (λ zs. map_or (site.chain e) (associate_chain site.chain e) (lookup (nat_eq e) zs)) names_same ∙ ap (λ o. map_or (site.chain e) (associate_chain site.chain e) o) h

    chain_other : (e : ℕ) → lookup (nat_eq e) names ≡ None → site_within.chain e ≡ site.chain e
    chain_other e h = ap (λ zs. map_or (site.chain e) (associate_chain site.chain e) (lookup (nat_eq e) zs)) names_same ∙ ap (λ o. map_or (site.chain e) (associate_chain site.chain e) o) h

    free_rows : (x : Said) (h : Option Holder) → IsFree h → lend_rows site_within x h ≡ []
    free_rows x None f = refl
    free_rows x (Some h) f =
        ap (λ b. unless (not b || (h.unit == (site.context).unit)) (at_first D1 x) ++ intent_rows x h) f.0
        ∙ ap (λ b. unless (not b) (at_first D2 x)) f.1

    -- the selector of a chain that ends at a variable is one that may be defined
    by_form : (d : _) (f : Form) (e : ℕ) (x : Said) → HasRoot p scope s d f → (selected_chain site.chain e f).ends ≡ true
        → flat_map (λ l. lend_rows site x (held l)) (selected_chain site.chain e f).links ≡ [] → (designated p scope d).may_define ≡ true
    by_form d Computed e x root ends rows = no (sym ends)
    by_form d Constant e x root ends rows = no (sym ends)
    by_form d (Variable v) e x root ends rows =
        root.1 ∙ allows.defines root.0.symbol v root.0.object x root.0.looked root.0.nature ends (second (lend_rows site x (held e)) _ rows)

    by_no_form : (f : Form) (e : ℕ) → IsNoVariable p scope s f → (selected_chain site.chain e f).ends ≡ true → ⊥
    by_no_form Computed e h ends = no (sym ends)
    by_no_form Constant e h ends = no (sym ends)
    by_no_form (Variable v) e h ends = h

    by_has : (k : Kind) (z : ExpressionNode) (h : Has) (e : ℕ) (x : Said) → HasAs p scope s z h → (selected_chain site.chain e h.form).ends ≡ true
        → flat_map (λ l. lend_rows site x (held l)) (selected_chain site.chain e h.form).links ≡ []
        → (lendable_by p scope s (selected k z)).may_define ≡ true
    by_has k (n.variable d) h e x as_said ends rows = by_form d h.form e x as_said.1 ends rows
    by_has k z h e x as_said ends rows = absurd (by_no_form h.form e as_said ends)

    by_said : (k : Kind) (z : ExpressionNode) (o : Option Has) (e : ℕ) (x : Said) → IsOf p scope s z o
        → (map_or (plain_chain e) (λ (h : Has). selected_chain site.chain e h.form) o).ends ≡ true
        → flat_map (λ l. lend_rows site x (held l)) (map_or (plain_chain e) (λ (h : Has). selected_chain site.chain e h.form) o).links ≡ []
        → (lendable_by p scope s (selected k z)).may_define ≡ true
    by_said k z None e x h ends rows = absurd h
    by_said k z (Some y) e x h ends rows = by_has k z y e x h.2 ends rows

    defines_there : (symbol e : ℕ) (o : Object) (x : Said) → look_here within.context symbol ≡ One e → (within.context).nature e ≡ Some (variable o)
        → (site_within.chain e).ends ≡ true → flat_map (λ l. lend_rows site_within x (held l)) (site_within.chain e).links ≡ []
        → (name_of p scope_within (within.object e)).may_define ≡ true
    defines_there symbol e o x looked nature ends rows = go (which e)
      where
        go : Among p scope s number xs held e → (name_of p scope_within (within.object e)).may_define ≡ true
        go (is_named r) =
            let chain : site_within.chain e ≡ associate_chain site.chain e (said s.context r.name.selector) = chain_named e (said s.context r.name.selector) r.looked in
            ap (λ z. z.may_define) (name_named e r)
            ∙ by_said (kind s r.name.selector) (expression s r.name.selector) (said s.context r.name.selector).has e x r.is
            (subst (λ (c : Chain). c.ends ≡ true) chain ends) (subst (λ (c : Chain). flat_map (λ l. lend_rows site x (held l)) c.links ≡ []) chain rows)
        go (is_other a b) =
            let around = seen_around symbol e o looked nature a b in
            ap (λ z. (name_of p scope_within z).may_define) (object_other e b)
            ∙ ap (λ z. z.may_define) (kept_name (s.object e) (lends.within symbol e o around.0 around.1))
            ∙ allows.defines symbol e o x around.0 around.1 (subst (λ (c : Chain). c.ends ≡ true) (chain_other e a) ends)
            (subst (λ (c : Chain). flat_map (λ l. lend_rows site x (held l)) c.links ≡ []) (chain_other e a) rows)

    holders_there : (x : Said) (l : ℕ) → lend_rows site_within x (site_within.holder l) ≡ [] → lend_rows site_within x (held l) ≡ []
    holders_there x l rows = go (which l)
      where
        go : Among p scope s number xs held l → lend_rows site_within x (held l) ≡ []
        go (is_named r) = free_rows x (held l) r.free
        go (is_other a b) = allows.holders x l (subst (λ o. lend_rows site x o ≡ []) (holder_other l a) rows)

    pub allows_within : Allows p scope_within within site_within held
    allows_within = record { here = same_here; holders = holders_there; defines = defines_there }
