-- Objects of ALLOCATE and DEALLOCATE may be defined where they break no rule.
use Rattle.std.proofs.Common.{◌≡◌, ℕ, true, List, [], ◌∷◌, map, Option, Some, None, refl, sym, ap}
use mathlib.Core.Path.{subst}
use Rattle.f3_lookups.specs.declared.lookup.Lookup.TheVariants.{One}
use Rattle.f3_tree.specs.declared.expression.Name.{Name}
use Rattle.f3_tree.specs.Expressions as t
use Rattle.f3_program.specs.declared.program.Program.{Program}
use Rattle.f3_kinds.specs.declared.types.Object.{Object}
use Rattle.f3_kinds.specs.declared.said.Given.{Given}
use Rattle.f3_kinds.specs.declared.said.Role.{Role}
use Rattle.f3_kinds.specs.declared.said.Role.TheVariants as role
use Rattle.f3_kinds.specs.Things as Things
use Rattle.f3_kinds.specs.Typing as Typing
use Rattle.f3_kinds.specs.Things.{Context, variable, look_here}
use Rattle.f3_kinds.specs.Designators.{Part, object_rows}
use Rattle.f3_kinds.specs.Typing.{said, said_parts, said_behind, breaks_parts, breaks_behind, designator_at, designator_breaks, called}
use Rattle.f3_meaning_whole.specs.Permitted.{Scope, Each, name_of, same_type}
use Rattle.f3_type_rules.specs.declared.definition.Holder.{Holder}
use Rattle.f3_type_rules.specs.Definitions.{Site, definition_rows}
use Rattle.f3_elaboration.specs.Context.{Surroundings}
use Rattle.f3_elaboration.specs.Expressions as x
use Rattle.f3_elaboration.specs.Expressions.{parts, behind, given_in, itself}
use Rattle.f3_elaboration.specs.Actions.{kind, variable as named, unbounded, last_given, bounds, request}
use Rattle.f3_lawful_laws.specs.Nodes.{designated, NodeDefines, NodeBounds, NodeRequest}
use Rattle.f3_lawful_laws.specs.Written.{IsVariableWritten}
use Rattle.f3_lawful_laws.specs.Agreement.{Agrees, Allows}
use Rattle.f3_lawful_laws.proofs.Facts.{first, second, both}
use Rattle.f3_lawful_laws.proofs.Alike.{AreParts, IsBehind, MayGive, MayGiveAll}
use Rattle.f3_lawful_laws.proofs.Given.{all_may, behind_typed, all_parts_typed}
use Rattle.f3_lawful_laws.proofs.Expressions.{parts_are}
use Rattle.f3_lawful_laws.proofs.Defining.{Defined, defined_by}
use Rattle.f3_lawful_laws.proofs.Variables.{Target, target, target_defines, target_typed, itself_defines, itself_typed}
use Rattle.f3_lawful_laws.proofs.Bounded.{IsHeap, bare_last, bare_rows}

module _ (p : Program) (scope : Scope) (s : Surroundings) (agrees : Agrees p scope s) where
  -- ---- the bounds

  bound_may : (g : x.Given) → MayGive p scope s g → NodeBounds p scope (bounds g)
  bound_may (x.value k e) h = (tt, h)
  bound_may (x.triplet a b c) h = (h.0, h.1)

  bounds_may : (gs : List x.Given) → MayGiveAll p scope s gs → Each (NodeBounds p scope) (map bounds gs)
  bounds_may [] h = tt
  bounds_may (g ∷ gs) h = (bound_may g h.0, bounds_may gs h.1)

  given_may : (q : x.Part) (y : Part) → IsBehind p scope s q.1 y.1 → MayGiveAll p scope s (given_in q)
  given_may q y h = go q.1 y.1 h
    where
      go : (g : Option (List x.Given)) (b : Option (List Given)) → IsBehind p scope s g b → MayGiveAll p scope s (Things.map_or [] (λ gs. gs) g)
      go None b h = tt
      go (Some gs) None h = absurd h
      go (Some gs) (Some ys) h = all_may p scope s gs ys h

  last_may : (qs : List x.Part) (rs : List Part) → AreParts p scope s qs rs → MayGiveAll p scope s (last_given qs)
  last_may [] rs h = tt
  last_may (q ∷ []) [] h = absurd h
  last_may (q ∷ []) (y ∷ rs) h = given_may q y h.1
  last_may (q ∷ k ∷ qs) [] h = absurd h
  last_may (q ∷ k ∷ qs) (y ∷ rs) h = last_may (k ∷ qs) rs h.2

  -- ---- the object without them

  bare_is : (c : Context) (ps : t.Parts) → said_parts c (unbounded ps) ≡ bare_last (said_parts c ps)
  bare_is c t.no_parts = refl
  bare_is c (t.parts m g t.no_parts) = refl
  bare_is c (t.parts m g (t.parts k h ps)) = ap (λ qs. (m, said_behind c g) ∷ qs) (bare_is c (t.parts k h ps))

  unbounded_are : (ps : t.Parts) → AreParts p scope s (parts s ps) (said_parts s.context ps)
      → AreParts p scope s (parts s (unbounded ps)) (said_parts s.context (unbounded ps))
  unbounded_are t.no_parts h = tt
  unbounded_are (t.parts m g t.no_parts) h = (refl, tt, tt)
  unbounded_are (t.parts m g (t.parts k b ps)) h = (refl, h.1, unbounded_are (t.parts k b ps) h.2)

  module _ (site : Site) (held : ℕ → Option Holder) (allows : Allows p scope s site held) (u : Role) (heap : IsHeap u) where
    never_called : (qs : List Part) (b : Option (List Given)) → called u qs b ≡ None
    never_called qs b = go u heap
      where
        go : (u : Role) → IsHeap u → called u qs b ≡ None
        go role.Allocated h = refl
        go role.Deallocated h = refl
        go role.Expression h = absurd h
        go role.Variable h = absurd h

    bare_target : (m : Name) (g : t.Behind) (ps : t.Parts) (e : ℕ) (o : Object) → look_here s.context m.symbol ≡ One e → (s.context).nature e ≡ Some (variable o)
        → IsBehind p scope s (behind s g) (said_behind s.context g) → AreParts p scope s (parts s ps) (said_parts s.context ps)
        → object_rows s.context u o (m, said_behind s.context g) (said_parts s.context ps) ≡ [] → (name_of p scope (s.object e)).may_define ≡ true
        → NodeDefines p scope (named s (unbounded (t.parts m g ps)))
        × (same_type (designated p scope (named s (unbounded (t.parts m g ps)))).of (kind s (t.designator (unbounded (t.parts m g ps)))).of ≡ true)
    bare_target m g t.no_parts e o looked is given others rows may =
        let free : object_rows s.context role.Expression o (m, None) [] ≡ [] =
        bare_rows s.context agrees.known u heap m o (said_behind s.context g) [] (agrees.known.variables m.symbol e o looked is)
        (both _ _ (behind_typed p scope s (behind s g) (said_behind s.context g) given) refl) rows in
        let h : Target p scope s agrees m t.bare t.no_parts e o = target p scope s agrees m t.bare t.no_parts e o looked is tt tt free in
        (target_defines p scope s agrees m t.bare t.no_parts e o h may, target_typed p scope s agrees m t.bare t.no_parts e o h)
    bare_target m g (t.parts k b ps) e o looked is given others rows may =
        let rest : t.Parts = t.parts k b ps in
        let free : object_rows s.context role.Expression o (m, said_behind s.context g) (bare_last (said_parts s.context rest)) ≡ [] =
        bare_rows s.context agrees.known u heap m o (said_behind s.context g) (said_parts s.context rest) (agrees.known.variables m.symbol e o looked is)
        (both _ _ (behind_typed p scope s (behind s g) (said_behind s.context g) given) (all_parts_typed p scope s (parts s rest) (said_parts s.context rest) others)) rows in
        let h : Target p scope s agrees m g (unbounded rest) e o =
        target p scope s agrees m g (unbounded rest) e o looked is given (unbounded_are rest others)
        (subst (λ qs. object_rows s.context role.Expression o (m, said_behind s.context g) qs ≡ []) (sym (bare_is s.context rest)) free) in
        (target_defines p scope s agrees m g (unbounded rest) e o h may, target_typed p scope s agrees m g (unbounded rest) e o h)

    pub request_may : (v : t.Parts) → IsVariableWritten v → designator_breaks s.context u v ≡ [] → definition_rows site (designator_at s.context u v) ≡ []
        → NodeRequest p scope (request s v)
    request_may t.no_parts w b free = absurd w.0
    request_may (t.parts m g ps) w b free =
        let own = first (breaks_parts s.context (t.parts m g ps)) _ b in
        let all = parts_are p scope s agrees (t.parts m g ps) w.1 own in
        let qs : List Part = said_parts s.context ps in
        let at : Defined p scope s site held allows u m (said_behind s.context g) qs =
        defined_by p scope s site held allows agrees.known u m (said_behind s.context g) qs
        (both _ _ (behind_typed p scope s (behind s g) (said_behind s.context g) all.1) (all_parts_typed p scope s (parts s ps) qs all.2))
        (subst (λ z. Typing.sense_rows s.context u (m, said_behind s.context g) qs (Typing.sense_of (s.context).unit u m (Things.meaning_of s.context m.symbol) z) ≡ [])
        (never_called qs (said_behind s.context g)) (second (breaks_parts s.context (t.parts m g ps)) _ b))
        (subst (λ z. definition_rows site (Typing.named_said m
        (Typing.sense_parts s.context u (m, said_behind s.context g) qs (Typing.sense_of (s.context).unit u m (Things.meaning_of s.context m.symbol) z))
        (Typing.sense_has s.context u (m, said_behind s.context g) qs (Typing.sense_of (s.context).unit u m (Things.meaning_of s.context m.symbol) z))) ≡ [])
        (never_called qs (said_behind s.context g)) free) in
        let made = bare_target m g ps at.root at.object at.looked at.nature all.1 all.2 at.rows at.may in
        let d = named s (unbounded (t.parts m g ps)) in
        ((itself_defines p scope s agrees d made.0, itself_typed p scope s agrees d _ made.1), bounds_may (last_given (parts s (t.parts m g ps))) (last_may (parts s (t.parts m g ps)) (said_parts s.context (t.parts m g ps)) all))
