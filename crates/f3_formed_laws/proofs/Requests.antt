-- Objects of ALLOCATE and DEALLOCATE are allocatables of the kinds that are told, with as many bounds as they have dimensions.
use Rattle.std.proofs.Common.{◌≡◌, ℕ, true, false, Bool, ◌&&◌, not, List, [], ◌∷◌, ◌++◌, length, map, Option, Some, None, refl, sym, ap, ◌∙◌, if◌then◌else◌, nat_eq}
use mathlib.Core.Path.{subst}
use Rattle.f3_rules.specs.declared.breaks.Break.{Break}
use Rattle.f3_tree.specs.declared.expression.Name.{Name}
use Rattle.f3_tree.specs.Expressions as t
use Rattle.f3_program.specs.declared.declarations.Declared.{Declared}
use Rattle.f3_program.specs.declared.declarations.Kind.{Kind}
use Rattle.f3_program.specs.declared.program.Program.{Program}
use Rattle.f3_kinds.specs.declared.types.Object.{Object}
use Rattle.f3_kinds.specs.declared.said.Form.{Form}
use Rattle.f3_kinds.specs.declared.said.Form.TheVariants.{Variable}
use Rattle.f3_kinds.specs.declared.said.Given.{Given}
use Rattle.f3_kinds.specs.declared.said.Has.{Has}
use Rattle.f3_kinds.specs.declared.said.Reach.{Reach}
use Rattle.f3_kinds.specs.declared.said.Role.{Role}
use Rattle.f3_kinds.specs.declared.said.Role.TheVariants as role
use Rattle.f3_kinds.specs.Things.{Context, variable, Meaning, entity, meaning_of}
use Rattle.f3_kinds.specs.Rows.{has_type, is_known}
use Rattle.f3_kinds.specs.Designators.{Part, reach_has, reach_rows, object_reach, object_rows, role_fits, is_allocation, enter, enter_rows, start, along, along_rows}
use Rattle.f3_kinds.specs.Typing.{said, said_parts, said_behind, breaks_parts, designator_at, designator_breaks, sense_of, sense_has, sense_rows, sense_parts, named_said, called}
use Rattle.f3_meaning_whole.specs.Formed.{some, same_kind}
use Rattle.f3_type_rules.specs.Definitions.{Site, definition_rows}
use Rattle.f3_elaboration.specs.Context.{Surroundings, base}
use Rattle.f3_elaboration.specs.Expressions.{expression, parts, behind, itself}
use Rattle.f3_elaboration.specs.Actions.{kind, kind_by, variable as named_variable, unbounded, last_given, bounds, request}
use Rattle.f3_lawful_laws.specs.Written.{IsVariableWritten}
use Rattle.f3_lawful_laws.proofs.Facts.{no, first, second, both}
use Rattle.f3_lawful_laws.proofs.Designating.{Enters, enters}
use Rattle.f3_lawful_laws.proofs.Passing.{alike_by}
use Rattle.f3_lawful_laws.proofs.Positions.{eq_self}
use Rattle.f3_lawful_laws.proofs.Bounded.{IsHeap, bare_last, bare_rows}
use Rattle.f3_formed_laws.specs.Nodes.{object_kind, is_request, has_bounds}
use Rattle.f3_formed_laws.specs.Levels.{ArePartsLevelled}
use Rattle.f3_formed_laws.specs.Agreement.{AgreesInKinds}
use Rattle.f3_formed_laws.specs.Laws.{IsVariable}
use Rattle.f3_formed_laws.proofs.Facts.{same_self}
use Rattle.f3_formed_laws.proofs.Alike.{IsOf, AreParts, IsBehind}
use Rattle.f3_formed_laws.proofs.Scalars.{typed_of, behind_typed, all_parts_typed}
use Rattle.f3_formed_laws.proofs.Meant.{meant_is}
use Rattle.f3_formed_laws.proofs.Expressions.{parts_are}
use Rattle.f3_formed_laws.proofs.Variables.{Named, named}
use Rattle.f3_formed_laws.proofs.Targets.{Begins, begins, reached_variable}
use Rattle.f3_formed_laws.proofs.Heap.{never_bounds, Reached, reached, last_reached, last_is}

module _ (p : Program) (vs : List Declared) (ns : List Kind) where
  pub kind_itself : (k : Kind) → same_kind p vs ns k k ≡ true
  kind_itself k = both _ _ (alike_by k.of k.of refl) (both _ _ (eq_self k.rank) (same_self k.is_allocatable))

module _ (p : Program) (vs : List Declared) (ns : List Kind) (s : Surroundings) (agrees : AgreesInKinds p vs ns s) where
  -- ---- the object without what stands behind it

  pub bare_is : (c : Context) (ps : t.Parts) → said_parts c (unbounded ps) ≡ bare_last (said_parts c ps)
  bare_is c t.no_parts = refl
  bare_is c (t.parts m g t.no_parts) = refl
  bare_is c (t.parts m g (t.parts k h ps)) = ap (λ qs. (m, said_behind c g) ∷ qs) (bare_is c (t.parts k h ps))

  unbounded_are : (ps : t.Parts) → AreParts p vs ns s (parts s ps) (said_parts s.context ps)
      → AreParts p vs ns s (parts s (unbounded ps)) (said_parts s.context (unbounded ps))
  unbounded_are t.no_parts h = tt
  unbounded_are (t.parts m g t.no_parts) h = (refl, tt, tt)
  unbounded_are (t.parts m g (t.parts k b ps)) h = (refl, h.1, unbounded_are (t.parts k b ps) h.2)

  abbrev HasBy : Name → t.Behind → t.Parts → Meaning → Option Has
  HasBy m g ps meaning =
      sense_has s.context role.Expression (m, said_behind s.context g) (said_parts s.context ps)
      (sense_of (s.context).unit role.Expression m meaning (called role.Expression (said_parts s.context ps) (said_behind s.context g)))

  abbrev RowsBy : Name → t.Behind → t.Parts → Meaning → List Break
  RowsBy m g ps meaning =
      sense_rows s.context role.Expression (m, said_behind s.context g) (said_parts s.context ps)
      (sense_of (s.context).unit role.Expression m meaning (called role.Expression (said_parts s.context ps) (said_behind s.context g)))

  -- a variable of this root, as an expression
  pub record Rooted (m : Name) (g : t.Behind) (ps : t.Parts) (root : ℕ) (o : Object) : Type 0 where
    pub at : Named p vs ns s (expression s (t.designator (t.parts m g ps))) (said s.context (t.designator (t.parts m g ps))).has
    pub is_reached : (said s.context (t.designator (t.parts m g ps))).has
        ≡ reach_has (Variable root) role.Expression (object_reach s.context role.Expression o (m, said_behind s.context g) (said_parts s.context ps))
    pub typed : has_type (said s.context (t.designator (t.parts m g ps))).has ≡ true

  rooted : (m : Name) (g : t.Behind) (ps : t.Parts) (root : ℕ) (o : Object) → meaning_of s.context m.symbol ≡ entity root (variable o)
      → IsBehind p vs ns s (behind s g) (said_behind s.context g) → AreParts p vs ns s (parts s ps) (said_parts s.context ps)
      → object_rows s.context role.Expression o (m, said_behind s.context g) (said_parts s.context ps) ≡ [] → Rooted m g ps root o
  rooted m g ps root o means given others rows =
      let is : IsOf p vs ns s (expression s (t.designator (t.parts m g ps))) (said s.context (t.designator (t.parts m g ps))).has =
      meant_is p vs ns s agrees m (behind s g) (parts s ps) (said_behind s.context g) (said_parts s.context ps) given others (ap (RowsBy m g ps) means ∙ rows) in
      let typed = typed_of p vs ns s (expression s (t.designator (t.parts m g ps))) (said s.context (t.designator (t.parts m g ps))).has is in
      let reached_as : (said s.context (t.designator (t.parts m g ps))).has
      ≡ reach_has (Variable root) role.Expression (object_reach s.context role.Expression o (m, said_behind s.context g) (said_parts s.context ps)) =
      ap (HasBy m g ps) means in
      record {
        at =
            named p vs ns s (expression s (t.designator (t.parts m g ps))) (said s.context (t.designator (t.parts m g ps))).has is
            (subst IsVariable (sym reached_as)
            (reached_variable (Variable root) role.Expression (object_reach s.context role.Expression o (m, said_behind s.context g) (said_parts s.context ps)) tt
            (sym (ap has_type reached_as) ∙ typed)));
        is_reached = reached_as;
        typed = typed;
      }

  -- ---- the request

  -- the kind of what is reached
  kind_reached : (f : Form) (r : Reach) → has_type (reach_has f role.Expression (Some r)) ≡ true
      → kind_by s (reach_has f role.Expression (Some r)) ≡ record { of = base s (r.object).data_type; rank = r.rank; is_allocatable = r.is_allocatable }
  kind_reached f r t = go (r.is_fit && not r.offends && role_fits role.Expression r) t
    where
      go : (b : Bool) → has_type (if b then Some (record { data_type = (r.object).data_type; rank = r.rank; is_allocatable = r.is_allocatable; form = f }) else None) ≡ true
          → kind_by s (if b then Some (record { data_type = (r.object).data_type; rank = r.rank; is_allocatable = r.is_allocatable; form = f }) else None)
          ≡ record { of = base s (r.object).data_type; rank = r.rank; is_allocatable = r.is_allocatable }
      go true t = refl
      go false t = no (sym t)

  pub record Requested (u : Role) (v : t.Parts) : Type 0 where
    pub is : is_request p vs ns (request s v) ≡ true
    pub counted : is_allocation u ≡ true → has_bounds p vs ns (request s v) ≡ true

  requested : (u : Role) (v : t.Parts) (m : Name) (g : t.Behind) (ps : t.Parts) (root : ℕ) (o : Object) → unbounded v ≡ t.parts m g ps → Rooted m g ps root o
      → Reached p vs ns s u (last_given (parts s v)) (object_reach s.context role.Expression o (m, said_behind s.context g) (said_parts s.context ps)) → Requested u v
  requested u v m g ps root o is at h =
      let said_is : (said s.context (t.designator (t.parts m g ps))).has ≡ reach_has (Variable root) role.Expression (Some h.reach) =
      at.is_reached ∙ ap (reach_has (Variable root) role.Expression) h.is in
      let kind_is : kind s (t.designator (unbounded v)) ≡ record { of = base s (h.reach.object).data_type; rank = h.reach.rank; is_allocatable = h.reach.is_allocatable } =
      ap (λ z. kind s (t.designator z)) is ∙ ap (kind_by s) said_is ∙ kind_reached (Variable root) h.reach (sym (ap has_type said_is) ∙ at.typed) in
      let object_is : object_kind p vs ns (itself (named_variable s (unbounded v))) ≡ Some (kind s (t.designator (unbounded v))) =
      ap (λ z. object_kind p vs ns (itself (named_variable s z))) is ∙ (at.at).itself_is ∙ ap (λ z. Some (kind s (t.designator z))) (sym is) in
      record {
        is =
            both _ _ (ap (λ (k : Kind). k.is_allocatable) kind_is ∙ h.allocatable)
            (both _ _ (ap (λ o. some o (same_kind p vs ns (kind s (t.designator (unbounded v))))) object_is ∙ kind_itself p vs ns (kind s (t.designator (unbounded v)))) h.bound);
        counted = λ a. ap (λ (k : Kind). nat_eq (length (map bounds (last_given (parts s v)))) k.rank) kind_is ∙ ap (λ n. nat_eq n h.reach.rank) (h.count a) ∙ eq_self h.reach.rank;
      }

  module _ (site : Site) (here : site.context ≡ s.context) (u : Role) (heap : IsHeap u) where
    never_called : (qs : List Part) (b : Option (List Given)) → called u qs b ≡ None
    never_called qs b = go u heap
      where
        go : (u : Role) → IsHeap u → called u qs b ≡ None
        go role.Allocated h = refl
        go role.Deallocated h = refl
        go role.Expression h = absurd h
        go role.Variable h = absurd h

    -- one part alone
    one_requested : (m : Name) (g : t.Behind) → IsBehind p vs ns s (behind s g) (said_behind s.context g)
        → Begins p s site here u m (said_behind s.context g) [] → Requested u (t.parts m g t.no_parts)
    one_requested m g given at =
        let known : is_known (at.object).data_type ≡ true = agrees.known.variables m.symbol at.root at.object at.looked at.nature in
        let free : object_rows s.context role.Expression at.object (m, None) [] ≡ [] =
        bare_rows s.context agrees.known u heap m at.object (said_behind s.context g) [] known
        (both _ _ (behind_typed p vs ns s (behind s g) (said_behind s.context g) given) refl) at.rows in
        requested u (t.parts m g t.no_parts) m t.bare t.no_parts at.root at.object refl (rooted m t.bare t.no_parts at.root at.object at.means tt tt free)
        (last_reached p vs ns s u (start at.object) at.object (m, behind s g) (enter false (start at.object) at.object None) refl
        (last_is p vs ns s u heap m (start at.object) at.object (m, behind s g) (m, said_behind s.context g) given refl
        (first _ _ at.rows) (second (enter_rows (is_allocation u && true) at.object (m, said_behind s.context g)) _ at.rows)))

    -- parts behind the first
    more_requested : (m : Name) (g : t.Behind) (k : Name) (b : t.Behind) (ps : t.Parts) → IsBehind p vs ns s (behind s g) (said_behind s.context g)
        → AreParts p vs ns s (parts s (t.parts k b ps)) (said_parts s.context (t.parts k b ps))
        → Begins p s site here u m (said_behind s.context g) (said_parts s.context (t.parts k b ps)) → Requested u (t.parts m g (t.parts k b ps))
    more_requested m g k b ps given others at =
        let rest : t.Parts = t.parts k b ps in
        let known : is_known (at.object).data_type ≡ true = agrees.known.variables m.symbol at.root at.object at.looked at.nature in
        let free : object_rows s.context role.Expression at.object (m, said_behind s.context g) (bare_last (said_parts s.context rest)) ≡ [] =
        bare_rows s.context agrees.known u heap m at.object (said_behind s.context g) (said_parts s.context rest) known
        (both _ _ (behind_typed p vs ns s (behind s g) (said_behind s.context g) given) (all_parts_typed p vs ns s (parts s rest) (said_parts s.context rest) others)) at.rows in
        requested u (t.parts m g rest) m g (unbounded rest) at.root at.object refl
        (rooted m g (unbounded rest) at.root at.object at.means given (unbounded_are rest others)
        (subst (λ qs. object_rows s.context role.Expression at.object (m, said_behind s.context g) qs ≡ []) (sym (bare_is s.context rest)) free))
        (subst (λ qs. Reached p vs ns s u (last_given (parts s (t.parts m g rest))) (along s.context role.Expression qs (enter false (start at.object) at.object (said_behind s.context g))))
        (sym (bare_is s.context rest)) (reached_behind at.object known at.rows))
      where
        reached_behind : (o : Object) → is_known o.data_type ≡ true → object_rows s.context u o (m, said_behind s.context g) (said_parts s.context (t.parts k b ps)) ≡ []
            → Reached p vs ns s u (last_given (parts s (t.parts m g (t.parts k b ps))))
            (along s.context role.Expression (bare_last (said_parts s.context (t.parts k b ps))) (enter false (start o) o (said_behind s.context g)))
        reached_behind o known rows =
            let ys : List Part = said_parts s.context (t.parts k b ps) in
            let all : enter_rows false o (m, said_behind s.context g) ++ (along_rows s.context u ys (enter false (start o) o (said_behind s.context g))
            ++ reach_rows u m (along s.context u ys (enter false (start o) o (said_behind s.context g)))) ≡ [] =
            subst (λ q. enter_rows q o (m, said_behind s.context g) ++ (along_rows s.context u ys (enter q (start o) o (said_behind s.context g))
            ++ reach_rows u m (along s.context u ys (enter q (start o) o (said_behind s.context g)))) ≡ []) (never_bounds u) rows in
            entering o known (enters false (start o) o (m, said_behind s.context g) refl (behind_typed p vs ns s (behind s g) (said_behind s.context g) given) (first _ _ all))
            (second (enter_rows false o (m, said_behind s.context g)) _ all)
          where
            entering : (o : Object) → is_known o.data_type ≡ true → (inside : Enters false (start o) o (said_behind s.context g))
                → along_rows s.context u (said_parts s.context (t.parts k b ps)) (enter false (start o) o (said_behind s.context g))
                ++ reach_rows u m (along s.context u (said_parts s.context (t.parts k b ps)) (enter false (start o) o (said_behind s.context g))) ≡ []
                → Reached p vs ns s u (last_given (parts s (t.parts m g (t.parts k b ps))))
                (along s.context role.Expression (bare_last (said_parts s.context (t.parts k b ps))) (enter false (start o) o (said_behind s.context g)))
            entering o known inside rest =
                subst (λ q. Reached p vs ns s u (last_given (parts s (t.parts k b ps))) (along s.context role.Expression (bare_last (said_parts s.context (t.parts k b ps))) q)) (sym inside.is)
                (reached p vs ns s s.context agrees.known u heap m (k, behind s b) (parts s ps) (k, said_behind s.context b) (said_parts s.context ps) others.1 others.2 inside.reach inside.fit
                (ap (λ (o : Object). is_known o.data_type) inside.object ∙ known)
                (subst (λ q. along_rows s.context u (said_parts s.context (t.parts k b ps)) q ≡ []) inside.is (first _ _ rest))
                (subst (λ q. reach_rows u m (along s.context u (said_parts s.context (t.parts k b ps)) q) ≡ []) inside.is
                (second (along_rows s.context u (said_parts s.context (t.parts k b ps)) (enter false (start o) o (said_behind s.context g))) _ rest)))

    pub request_is : (v : t.Parts) → IsVariableWritten v → ArePartsLevelled v → designator_breaks s.context u v ≡ [] → definition_rows site (designator_at s.context u v) ≡ []
        → Requested u v
    request_is t.no_parts w l b free = absurd w.0
    request_is (t.parts m g ps) w l b free =
        let own = first (breaks_parts s.context (t.parts m g ps)) _ b in
        let all = parts_are p vs ns s agrees (t.parts m g ps) w.1 l own in
        let qs : List Part = said_parts s.context ps in
        by_parts ps all.1 all.2
        (begins p s site here agrees.known u m (said_behind s.context g) qs
        (both _ _ (behind_typed p vs ns s (behind s g) (said_behind s.context g) all.1) (all_parts_typed p vs ns s (parts s ps) qs all.2))
        (subst (λ z. sense_rows s.context u (m, said_behind s.context g) qs (sense_of (s.context).unit u m (meaning_of s.context m.symbol) z) ≡ [])
        (never_called qs (said_behind s.context g)) (second (breaks_parts s.context (t.parts m g ps)) _ b))
        (subst (λ z. definition_rows site (named_said m
        (sense_parts s.context u (m, said_behind s.context g) qs (sense_of (s.context).unit u m (meaning_of s.context m.symbol) z))
        (sense_has s.context u (m, said_behind s.context g) qs (sense_of (s.context).unit u m (meaning_of s.context m.symbol) z))) ≡ [])
        (never_called qs (said_behind s.context g)) free))
      where
        by_parts : (ps : t.Parts) → IsBehind p vs ns s (behind s g) (said_behind s.context g) → AreParts p vs ns s (parts s ps) (said_parts s.context ps)
            → Begins p s site here u m (said_behind s.context g) (said_parts s.context ps) → Requested u (t.parts m g ps)
        by_parts t.no_parts given others at = one_requested m g given at
        by_parts (t.parts k b ps) given others at = more_requested m g k b ps given others at
