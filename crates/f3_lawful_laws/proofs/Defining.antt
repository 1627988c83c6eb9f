-- A variable in a definition context that breaks no rule may be defined.
use Rattle.std.proofs.Common.{◌≡◌, ℕ, Bool, true, false, List, [], ◌∷◌, ◌++◌, Option, Some, None, refl, sym, ap, ◌∙◌, if◌then◌else◌}
use Rattle.std.specs.List.{flat_map}
use mathlib.Core.Path.{subst}
use Rattle.f3_lookups.specs.declared.lookup.Lookup.{Lookup}
use Rattle.f3_lookups.specs.declared.lookup.Lookup.TheVariants.{One, Nothing, Several}
use Rattle.f3_rules.specs.declared.breaks.Break.{Break}
use Rattle.f3_rules.specs.declared.rule.Rule.TheVariants.{T9}
use Rattle.f3_tree.specs.declared.expression.Name.{Name}
use Rattle.f3_program.specs.declared.program.Program.{Program}
use Rattle.f3_kinds.specs.declared.types.Object.{Object}
use Rattle.f3_kinds.specs.declared.said.Form.{Form}
use Rattle.f3_kinds.specs.declared.said.Form.TheVariants.{Computed, Constant, Variable}
use Rattle.f3_kinds.specs.declared.said.Has.{Has}
use Rattle.f3_kinds.specs.declared.said.Said.{Said}
use Rattle.f3_kinds.specs.declared.said.Given.{Given}
use Rattle.f3_kinds.specs.declared.said.Role.{Role}
use Rattle.f3_kinds.specs.declared.things.Intrinsic.{Intrinsic}
use Rattle.f3_kinds.specs.declared.things.Intrinsic.TheVariants as i
use Rattle.f3_kinds.specs.Things.{Nature, constant, variable, derived, subroutine, function, Meaning, nothing, intrinsic, entity, entity_or, meaning_by, meaning_of}
use Rattle.f3_kinds.specs.Things.{look_here, map_or}
use Rattle.f3_kinds.specs.Rows.{has_type, unless, at_name}
use Rattle.f3_kinds.specs.Designators.{Part, parts_typed, is_of_heap, reach_has, object_reach, object_rows}
use Rattle.f3_kinds.specs.Typing.{Sense, unmeant, object, sense_of, sense_has, sense_rows, named_said, sense_parts}
use Rattle.f3_meaning_whole.specs.Permitted.{Scope, name_of}
use Rattle.f3_type_rules.specs.declared.definition.Holder.{Holder}
use Rattle.f3_type_rules.specs.Definitions.{Site, link_rows, form_rows, definition_rows, active_rows, holder_rows, protected_rows, intent_rows}
use Rattle.f3_elaboration.specs.Nodes as n
use Rattle.f3_elaboration.specs.Nodes.{ExpressionNode, DesignatorNode}
use Rattle.f3_elaboration.specs.Context.{Surroundings}
use Rattle.f3_lawful_laws.specs.Nodes.{designated}
use Rattle.f3_lawful_laws.specs.Agreement.{Allows, Knows, lend_rows}
use Rattle.f3_lawful_laws.proofs.Facts.{no, not_nil, first, second, holds, nothing as none_there, same}
use Rattle.f3_lawful_laws.proofs.Alike.{IsSeen, HasRoot, IsNoVariable, HasAs, IsOf}
use Rattle.f3_lawful_laws.proofs.Reaching.{object_typed}
use Rattle.f3_lawful_laws.proofs.Passing.{MayChange}

module _ (p : Program) (scope : Scope) (s : Surroundings) (site : Site) (held : ℕ → Option Holder) (allows : Allows p scope s site held) where
  joined : (xs ys zs : List Break) → xs ++ (ys ++ zs) ≡ [] → xs ++ ys ≡ []
  joined xs ys zs e = ap (λ z. z ++ ys) (first xs _ e) ∙ first ys zs (second xs _ e)

  lend_free : (x : Said) (o : Option Holder) → map_or [] (holder_rows site x) o ≡ [] → lend_rows site x o ≡ []
  lend_free x None e = refl
  lend_free x (Some h) e = joined (protected_rows site x h) (intent_rows x h) _ e

  links_free : (x : Said) (ls : List ℕ) → flat_map (link_rows site x) ls ≡ [] → flat_map (λ l. lend_rows site x (held l)) ls ≡ []
  links_free x [] e = refl
  links_free x (l ∷ ls) e =
      ap (λ z. z ++ flat_map (λ l. lend_rows site x (held l)) ls)
      (allows.holders x l (lend_free x (site.holder l) (second (active_rows site x l) _ (first (link_rows site x l) _ e))))
      ∙ links_free x ls (second (link_rows site x l) _ e)

  -- a variable whose definition no rule forbids
  root_may : (x : Said) (e : ℕ) → IsSeen p scope s e → form_rows site x (Variable e) ≡ [] → (name_of p scope (s.object e)).may_define ≡ true
  root_may x e seen rows =
      allows.defines seen.symbol e seen.object x seen.looked seen.nature (holds _ _ (first _ _ rows))
      (links_free x (site.chain e).links (second (unless (site.chain e).ends _) _ rows))

  by_form : (x : Said) (d : DesignatorNode) (f : Form) → form_rows site x f ≡ [] → HasRoot p scope s d f → (designated p scope d).may_define ≡ true
  by_form x d (Variable e) rows root = root.1 ∙ root_may x e root.0 rows
  by_form x d Computed rows root = not_nil rows
  by_form x d Constant rows root = not_nil rows

  no_form : (x : Said) (f : Form) → form_rows site x f ≡ [] → IsNoVariable p scope s f → ⊥
  no_form x (Variable e) rows none = none
  no_form x Computed rows none = not_nil rows
  no_form x Constant rows none = not_nil rows

  by_has : (x : Said) (e : ExpressionNode) (h : Has) → form_rows site x h.form ≡ [] → HasAs p scope s e h → MayChange p scope s e
  by_has x (n.variable d) h rows as_said = by_form x d h.form rows as_said.1
  by_has x e h rows as_said = no_form x h.form rows as_said

  -- what is defined without a break may change
  pub changes : (x : Said) (e : ExpressionNode) → IsOf p scope s e x.has → definition_rows site x ≡ [] → MayChange p scope s e
  changes x e is rows = go x.has is rows
    where
      go : (o : Option Has) → IsOf p scope s e o → map_or [] (λ (h : Has). form_rows site x h.form) o ≡ [] → MayChange p scope s e
      go None is rows = absurd is
      go (Some h) is rows = by_has x e h rows is.2

  -- ---- where a designator stands that is no expression

  -- its first name is a variable that may be defined
  pub record Defined (u : Role) (m : Name) (b : Option (List Given)) (rs : List Part) : Type 0 where
    pub root : ℕ
    pub object : Object
    pub looked : look_here s.context m.symbol ≡ One root
    pub nature : (s.context).nature root ≡ Some (variable object)
    pub rows : object_rows s.context u object (m, b) rs ≡ []
    pub may : (name_of p scope (s.object root)).may_define ≡ true

  module _ (knows : Knows s.context) (u : Role) (m : Name) (b : Option (List Given)) (rs : List Part) where
    abbrev Senses : Meaning → Sense
    Senses meaning = sense_of (s.context).unit u m meaning None

    abbrev SaidOf : Meaning → Said
    SaidOf meaning = named_said m (sense_parts s.context u (m, b) rs (Senses meaning)) (sense_has s.context u (m, b) rs (Senses meaning))

    -- the form of what has a type is its own
    variable_may : (e : ℕ) (o : Object) (x : Said) → IsSeen p scope s e → (h : Option Has) → has_type h ≡ true
        → ((y : Has) → h ≡ Some y → y.form ≡ Variable e) → map_or [] (λ (h : Has). form_rows site x h.form) h ≡ [] → (name_of p scope (s.object e)).may_define ≡ true
    variable_may e o x seen None t f rows = no (sym t)
    variable_may e o x seen (Some y) t f rows = root_may x e seen (subst (λ z. form_rows site x z ≡ []) (f y refl) rows)

    constant_may : (x : Said) → (h : Option Has) → has_type h ≡ true → ((y : Has) → h ≡ Some y → y.form ≡ Constant)
        → map_or [] (λ (h : Has). form_rows site x h.form) h ≡ [] → ⊥
    constant_may x None t f rows = no (sym t)
    constant_may x (Some y) t f rows = not_nil (subst (λ z. form_rows site x z ≡ []) (f y refl) rows)

    if_form : (c : Bool) (h : Has) (y : Has) → (if c then Some h else None) ≡ Some y → y.form ≡ h.form
    if_form true h y e = sym (ap (λ (h : Has). h.form) (same e))
    if_form false h y e = none_there e

    form_kept : (form : Form) (r : _) (y : Has) → reach_has form u r ≡ Some y → y.form ≡ form
    form_kept form None y e = none_there e
    form_kept form (Some r) y e = if_form _ _ y e

    abbrev SaidBy : Sense → Said
    SaidBy z = named_said m (sense_parts s.context u (m, b) rs z) (sense_has s.context u (m, b) rs z)

    abbrev RowsOf : Sense → List Break
    RowsOf z = sense_rows s.context u (m, b) rs z

    variable_defined : (e : ℕ) (o : Object) → look_here s.context m.symbol ≡ One e → (s.context).nature e ≡ Some (variable o)
        → parts_typed ((m, b) ∷ rs) ≡ true → object_rows s.context u o (m, b) rs ≡ []
        → definition_rows site (SaidBy (object (Variable e) o)) ≡ [] → Defined u m b rs
    variable_defined e o looked is typed rows free = record {
      root = e;
      object = o;
      looked = looked;
      nature = is;
      rows = rows;
      may =
          variable_may e o (SaidBy (object (Variable e) o)) (record { symbol = m.symbol; object = o; looked = looked; nature = is })
          (reach_has (Variable e) u (object_reach s.context u o (m, b) rs))
          (object_typed s.context knows (Variable e) u o (m, b) rs (knows.variables m.symbol e o looked is) typed rows)
          (form_kept (Variable e) (object_reach s.context u o (m, b) rs)) free;
    }

    constant_defined : (e : ℕ) (o : Object) → (s.context).nature e ≡ Some (constant o) → parts_typed ((m, b) ∷ rs) ≡ true → (heap : Bool)
        → RowsOf (if heap then unmeant (at_name 6 T9 m) else object Constant o) ≡ []
        → definition_rows site (SaidBy (if heap then unmeant (at_name 6 T9 m) else object Constant o)) ≡ [] → Defined u m b rs
    constant_defined e o is typed true rows free = not_nil rows
    constant_defined e o is typed false rows free =
        absurd (constant_may (SaidBy (object Constant o)) (reach_has Constant u (object_reach s.context u o (m, b) rs))
        (object_typed s.context knows Constant u o (m, b) rs (knows.natures e (constant o) is) typed rows)
        (form_kept Constant (object_reach s.context u o (m, b) rs)) free)

    by_entity : (e : ℕ) (nature : Nature) → look_here s.context m.symbol ≡ One e → (s.context).nature e ≡ Some nature → parts_typed ((m, b) ∷ rs) ≡ true
        → RowsOf (Senses (entity e nature)) ≡ [] → definition_rows site (SaidBy (Senses (entity e nature))) ≡ [] → Defined u m b rs
    by_entity e (variable o) looked is typed rows free = variable_defined e o looked is typed rows free
    by_entity e (constant o) looked is typed rows free = constant_defined e o is typed (is_of_heap u) rows free
    by_entity e (function pure ds o) looked is typed rows free = not_nil rows
    by_entity e (derived home ks f) looked is typed rows free = not_nil rows
    by_entity e (subroutine pure ds) looked is typed rows free = not_nil rows

    by_intrinsic : (r : Intrinsic) → RowsOf (Senses (intrinsic r)) ≡ [] → Defined u m b rs
    by_intrinsic i.MoveAlloc rows = not_nil rows
    by_intrinsic r rows = not_nil rows

    pub defined_by : parts_typed ((m, b) ∷ rs) ≡ true → RowsOf (Senses (meaning_of s.context m.symbol)) ≡ []
        → definition_rows site (SaidBy (Senses (meaning_of s.context m.symbol))) ≡ [] → Defined u m b rs
    defined_by typed rows free = by_look (look_here s.context m.symbol) refl rows free
      where
        by_nature : (e : ℕ) → look_here s.context m.symbol ≡ One e → (o : Option Nature) → (s.context).nature e ≡ o
            → RowsOf (Senses (entity_or e o)) ≡ [] → definition_rows site (SaidBy (Senses (entity_or e o))) ≡ [] → Defined u m b rs
        by_nature e looked None is rows free = not_nil rows
        by_nature e looked (Some nature) is rows free = by_entity e nature looked is typed rows free

        by_name : (o : Option Intrinsic) → RowsOf (Senses (map_or nothing intrinsic o)) ≡ [] → Defined u m b rs
        by_name None rows = not_nil rows
        by_name (Some r) rows = by_intrinsic r rows

        by_look : (l : Lookup) → look_here s.context m.symbol ≡ l → RowsOf (Senses (meaning_by s.context m.symbol l)) ≡ []
            → definition_rows site (SaidBy (Senses (meaning_by s.context m.symbol l))) ≡ [] → Defined u m b rs
        by_look (One e) looked rows free = by_nature e looked ((s.context).nature e) refl rows free
        by_look Nothing looked rows free = by_name ((s.context).intrinsic m.symbol) rows
        by_look Several looked rows free = not_nil rows
