-- Variables where they are defined: in assignments, in DO, and as STAT variables.
use Rattle.std.proofs.Common.{◌≡◌, ℕ, true, [], Option, Some, refl, sym, ap, ◌∙◌}
use mathlib.Core.Path.{subst}
use Rattle.f3_lookups.specs.declared.lookup.Lookup.TheVariants.{One}
use Rattle.f3_tree.specs.declared.expression.Name.{Name}
use Rattle.f3_tree.specs.Expressions as t
use Rattle.f3_program.specs.declared.program.Program.{Program}
use Rattle.f3_kinds.specs.declared.types.DataType.{DataType}
use Rattle.f3_kinds.specs.declared.types.Object.{Object}
use Rattle.f3_kinds.specs.declared.said.Form.TheVariants.{Variable}
use Rattle.f3_kinds.specs.declared.said.Has.{Has}
use Rattle.f3_kinds.specs.declared.said.Role.TheVariants as role
use Rattle.f3_kinds.specs.Things.{variable, entity, entity_or, meaning_by, meaning_of, look_here}
use Rattle.f3_kinds.specs.Designators.{object_rows}
use Rattle.f3_kinds.specs.Typing.{said, said_parts, said_behind, breaks_parts, breaks_behind, designator_at, designator_breaks, sense_of, sense_has, called}
use Rattle.f3_meaning_whole.specs.Permitted as Permitted
use Rattle.f3_meaning_whole.specs.Permitted.{Scope, same_type}
use Rattle.f3_type_rules.specs.declared.definition.Holder.{Holder}
use Rattle.f3_type_rules.specs.Definitions.{Site, definition_rows}
use Rattle.f3_elaboration.specs.Nodes.{DesignatorNode}
use Rattle.f3_elaboration.specs.Context.{Surroundings, base}
use Rattle.f3_elaboration.specs.Expressions as x
use Rattle.f3_elaboration.specs.Expressions.{expression, parts, behind, itself, meant, type_of}
use Rattle.f3_elaboration.specs.Actions.{kind, kind_by, named_by, variable as named}
use Rattle.f3_lawful_laws.specs.Nodes.{designated, NodeDefines}
use Rattle.f3_lawful_laws.specs.Written.{HasName, ArePartsWritten}
use Rattle.f3_lawful_laws.specs.Agreement.{Agrees, Allows}
use Rattle.f3_lawful_laws.proofs.Facts.{first, second, both}
use Rattle.f3_lawful_laws.proofs.Alike.{AreParts, IsBehind}
use Rattle.f3_lawful_laws.proofs.Objects.{Stands, stands}
use Rattle.f3_lawful_laws.proofs.Passing.{alike_by, locates_itself, itself_same}
use Rattle.f3_lawful_laws.proofs.Given.{behind_may, behind_typed, parts_named, all_parts_typed}
use Rattle.f3_lawful_laws.proofs.Expressions.{parts_are, behind_is}
use Rattle.f3_lawful_laws.proofs.Defining.{Defined, defined_by}

module _ (p : Program) (scope : Scope) (s : Surroundings) (agrees : Agrees p scope s) where
  -- what a name means that is a variable
  pub means_variable : (m : Name) (e : ℕ) (o : Object) → look_here s.context m.symbol ≡ One e → (s.context).nature e ≡ Some (variable o)
      → meaning_of s.context m.symbol ≡ entity e (variable o)
  means_variable m e o looked is = ap (meaning_by s.context m.symbol) looked ∙ ap (entity_or e) is

  -- the variable of such a name and parts, as it is elaborated, with its type as it is said
  pub record Target (m : Name) (g : t.Behind) (ps : t.Parts) (e : ℕ) (o : Object) : Type 0 where
    pub node : DesignatorNode
    pub is : named s (t.parts m g ps) ≡ node
    pub stands : Stands p scope s agrees (Variable e) role.Expression e o (m, behind s g) (parts s ps) (m, said_behind s.context g) (said_parts s.context ps)
    pub node_is : node ≡ x.variable_of s e o (m, behind s g) (parts s ps)
    pub has : (said s.context (t.designator (t.parts m g ps))).has ≡ Some stands.has

  pub target : (m : Name) (g : t.Behind) (ps : t.Parts) (e : ℕ) (o : Object) → look_here s.context m.symbol ≡ One e → (s.context).nature e ≡ Some (variable o)
      → IsBehind p scope s (behind s g) (said_behind s.context g) → AreParts p scope s (parts s ps) (said_parts s.context ps)
      → object_rows s.context role.Expression o (m, said_behind s.context g) (said_parts s.context ps) ≡ [] → Target m g ps e o
  target m g ps e o looked is given others rows =
      let meaning : meaning_of s.context m.symbol ≡ entity e (variable o) = means_variable m e o looked is in
      let of : Option DataType = type_of s (t.designator (t.parts m g ps)) in
      let at : Stands p scope s agrees (Variable e) role.Expression e o (m, behind s g) (parts s ps) (m, said_behind s.context g) (said_parts s.context ps) =
      stands p scope s agrees (Variable e) role.Expression e o (m, behind s g) (parts s ps) (m, said_behind s.context g) (said_parts s.context ps)
      (agrees.known.variables m.symbol e o looked is) (agrees.variables m.symbol e o looked is) (behind_may p scope s (behind s g) (said_behind s.context g) given)
      (behind_typed p scope s (behind s g) (said_behind s.context g) given) (parts_named p scope s (parts s ps) (said_parts s.context ps) others) rows in
      record {
        node = x.variable_of s e o (m, behind s g) (parts s ps);
        is = ap (λ z. named_by (meant s of (m, behind s g) (parts s ps) z)) meaning;
        stands = at;
        node_is = refl;
        has =
            ap (λ z. sense_has s.context role.Expression (m, said_behind s.context g) (said_parts s.context ps)
            (sense_of (s.context).unit role.Expression m z (called role.Expression (said_parts s.context ps) (said_behind s.context g)))) meaning
            ∙ at.is;
      }

  -- it may be defined, where its root may, and has the type that is said
  pub target_defines : (m : Name) (g : t.Behind) (ps : t.Parts) (e : ℕ) (o : Object) (h : Target m g ps e o)
      → (Permitted.name_of p scope (s.object e)).may_define ≡ true → NodeDefines p scope (named s (t.parts m g ps))
  target_defines m g ps e o h may =
      subst (NodeDefines p scope) (sym h.is) (subst (NodeDefines p scope) (sym h.node_is) (h.stands.locates, h.stands.may ∙ may))

  kind_is : (e : t.Tree) (h : Has) → (said s.context e).has ≡ Some h → (kind s e).of ≡ base s h.data_type
  kind_is e h is = ap (λ o. (kind_by s o).of) is

  pub target_typed : (m : Name) (g : t.Behind) (ps : t.Parts) (e : ℕ) (o : Object) (h : Target m g ps e o)
      → same_type (designated p scope (named s (t.parts m g ps))).of (kind s (t.designator (t.parts m g ps))).of ≡ true
  target_typed m g ps e o h =
      alike_by _ _ (ap (λ (d : DesignatorNode). (designated p scope d).of) (h.is ∙ h.node_is) ∙ h.stands.of ∙ sym (kind_is (t.designator (t.parts m g ps)) h.stands.has h.has))

  -- so of an allocatable itself
  pub itself_defines : (d : DesignatorNode) → NodeDefines p scope d → NodeDefines p scope (itself d)
  itself_defines d h = (locates_itself p scope s d h.0, ap (λ z. z.may_define) (itself_same p scope s d) ∙ h.1)

  pub itself_typed : (d : DesignatorNode) (t : _) → same_type (designated p scope d).of t ≡ true → same_type (designated p scope (itself d)).of t ≡ true
  itself_typed d t h = ap (λ z. same_type z.of t) (itself_same p scope s d) ∙ h

  module _ (site : Site) (held : ℕ → Option Holder) (allows : Allows p scope s site held) where
    -- a variable that is defined
    pub variable_defines : (v : t.Parts) → HasName v → ArePartsWritten v → designator_breaks s.context role.Variable v ≡ []
        → definition_rows site (designator_at s.context role.Variable v) ≡ []
        → NodeDefines p scope (named s v) × (same_type (designated p scope (named s v)).of (kind s (t.designator v)).of ≡ true)
    variable_defines t.no_parts w ws b free = absurd w
    variable_defines (t.parts m g ps) w ws b free =
        let own = first (breaks_parts s.context (t.parts m g ps)) _ b in
        let given = behind_is p scope s agrees g ws.0 (first _ _ own) in
        let others = parts_are p scope s agrees ps ws.1 (second (breaks_behind s.context g) _ own) in
        let at : Defined p scope s site held allows role.Variable m (said_behind s.context g) (said_parts s.context ps) =
        defined_by p scope s site held allows agrees.known role.Variable m (said_behind s.context g) (said_parts s.context ps)
        (both _ _ (behind_typed p scope s (behind s g) (said_behind s.context g) given) (all_parts_typed p scope s (parts s ps) (said_parts s.context ps) others))
        (second (breaks_parts s.context (t.parts m g ps)) _ b) free in
        let h : Target m g ps at.root at.object = target m g ps at.root at.object at.looked at.nature given others at.rows in
        (target_defines m g ps at.root at.object h at.may, target_typed m g ps at.root at.object h)
