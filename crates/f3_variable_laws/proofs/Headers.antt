-- The dummies of a procedure and its result, where no rule on names is broken.
use Rattle.std.proofs.Common.{◌≡◌, refl, sym, ap, subst, ◌∙◌, inl, inr, ℕ, suc, ◌+◌, ◌<◌, ◌⊎◌, Bool, true, false, cond, List, [], ◌∷◌, ◌++◌, length, drop, nat_eq, Option, None, Some, Contains, option_to_list, arith, slice_get, if◌then◌else◌}
use Rattle.std.specs.List.{flat_map, list_any}
use Rattle.std.specs.Map.{lookup}
use Rattle.std.proofs.lemmas.Option.{slice_get_within}
use Rattle.f3_rules.specs.declared.breaks.Break.{Break}
use Rattle.f3_rules.specs.declared.rule.Rule.TheVariants.{N3, N9, N10}
use Rattle.f3_tree.specs.declared.declaration.Intent.{Intent}
use Rattle.f3_tree.specs.declared.expression.Name.{Name}
use Rattle.f3_tree.specs.declared.program.ProcedureKind.{ProcedureKind}
use Rattle.f3_tree.specs.declared.program.ProcedureKind.TheVariants.{Subroutine, Function}
use Rattle.f3_tree.specs.Tree.{Tree}
use Rattle.f3_nodes.proofs.Members.{Has, has_of, contains_of, has_at, at_has, any_of, any_from}
use Rattle.f3_scopes.specs.Outlines.{Own, Scope}
use Rattle.f3_scopes.specs.Scopes.{declared_in, is_typed, name_or, outcome_of, scope_of_procedure, scopes_of, typed_result}
use Rattle.f3_lookups.specs.declared.lookup.Lookup.{Lookup}
use Rattle.f3_access.specs.Access.{first_entity, IsDeclared, IsVisible}
use Rattle.f3_access.specs.Lookups.{Resolves}
use Rattle.f3_scope_rules.specs.ScopeBreaks.{at, header_names, DeclaredTwice, specified, IntentMisplaced, BreaksOf}
use Rattle.f3_name_rules.specs.NameBreaks.{NameBreaks}
use Rattle.f3_kinds.specs.declared.types.Object.{Object}
use Rattle.f3_kinds.specs.Things.{variable}
use Rattle.f3_type_rules.specs.declared.definition.Holder.{Holder}
use Rattle.f3_type_rules.specs.Members.{Member, Numbered}
use Rattle.f3_type_rules.specs.Names.{Declared, entries, intent_of, last_of, object_of}
use Rattle.f3_type_rules.specs.Scene.{holders_from, names_of}
use Rattle.f3_phase_laws.specs.Numbers.{units_of}
use Rattle.f3_elaboration.specs.Numbers.{Variable, entity_of, member_names}
use Rattle.f3_elaboration.specs.Units.{declarations_in}
use Rattle.f3_entity_laws.specs.Things.{of_member, IsAmong, IsHome}
use Rattle.f3_entity_laws.proofs.Entities.{homes}
use Rattle.f3_agreement_laws.proofs.Declared.{stands_again}
use Rattle.f3_lawful_laws.proofs.Facts.{no}
use Rattle.f3_lawful_laws.proofs.Opening.{at_front, at_back}
use Rattle.f3_lawful_laws.proofs.Positions.{eq_same, eq_self}
use Rattle.f3_variable_laws.proofs.Alone.{alone, declared_once}
use Rattle.f3_variable_laws.proofs.Lists.{among_of}
use Rattle.f3_variable_laws.proofs.Natures.{natures, name_object, name_asked, intent_given}
use Rattle.f3_variable_laws.proofs.Owned.{is_object, object_kind, member_is, start, stands, Stands, header_types, is_type, is_name, Typed, typed_long}
use Rattle.f3_variable_laws.proofs.Parts.{variable_of, own_by, symbol_by, entry_at}

-- ---- lists

found_entry : {X : Type 0} (k : ℕ) (xs : List (ℕ × X)) (x : X) → Has xs (k, x) → (y : X) × (lookup (nat_eq k) xs ≡ Some y) × Has xs (k, y)
found_entry k [] x h = absurd h
found_entry {X} k (z ∷ zs) x h = go (nat_eq k z.0) refl h (λ h. found_entry k zs x h)
  where
    go : (b : Bool) → nat_eq k z.0 ≡ b → ((k, x) ≡ z) ⊎ Has zs (k, x) → (Has zs (k, x) → (y : X) × (lookup (nat_eq k) zs ≡ Some y) × Has zs (k, y))
        → (y : X) × (lookup (nat_eq k) (z ∷ zs) ≡ Some y) × Has (z ∷ zs) (k, y)
    go true is h more = (z.1, ap (λ b. cond b (Some z.1) (lookup (nat_eq k) zs)) is, inl (ap (λ j. (j, z.1)) (eq_same k z.0 is)))
    go false is (inl same) more = no (sym (eq_self k) ∙ ap (λ (w : ℕ × X). nat_eq k w.0) same ∙ is)
    go false is (inr h) more = let r = more h in (r.0, ap (λ b. cond b (Some z.1) (lookup (nat_eq k) zs)) is ∙ r.1, inr r.2)

last_given : (i : Intent) (is : List Intent) → (j : Intent) × (last_of (Some i) is ≡ Some j)
last_given i [] = (i, refl)
last_given i (k ∷ ks) = last_given k ks

-- all but the result that a prefix types
pub specified_same : (k : ProcedureKind) (n : Name) (xs : List Own) → (if is_typed k then drop 1 (typed_result k n ++ xs) else typed_result k n ++ xs) ≡ xs
specified_same Subroutine n xs = refl
specified_same (Function None outcome) n xs = refl
specified_same (Function (Some s) outcome) n xs = refl

-- what is known of a name of a header: its declaration, and what the rules on definitions ask of it
pub record Entry (t : Tree) (look : ℕ → ℕ → Lookup) (m : Member) (symbol e : ℕ) (o : Object) : Type 0 where
  pub tree : Declared
  pub found : lookup (nat_eq symbol) (declarations_in m) ≡ Some tree
  pub object_is : object_of (names_of t look) m.scope tree ≡ o
  pub place : ℕ
  pub declared : slice_get (flat_map declared_in ((m.tree).part).specifications) place ≡ Some (own_by tree)
  pub symbol_is : symbol ≡ symbol_by tree
  pub holder : Holder
  pub asked : slice_get (holders_from 0 (scopes_of t)) e ≡ Some holder
  pub intent_is : holder.intent ≡ intent_of tree

module _ (t : Tree) (look : ℕ → ℕ → Lookup) (means : (scope symbol : ℕ) → Resolves (look scope symbol) (IsVisible (scopes_of t) scope symbol))
    (none : (b : Break) → NameBreaks (scopes_of t) t.names b → ⊥) (u : Numbered) (m : Member) (home : IsHome (units_of t) (of_member u m)) where
  abbrev here : Scope
  here = scope_of_procedure u.scope m.tree

  at_here : slice_get (scopes_of t) m.scope ≡ Some here
  at_here = homes t (of_member u m) home

  pub unbroken : (b : Break) → BreaksOf here b → ⊥
  unbroken b h = none b (inl (here, contains_of (scopes_of t) here (at_has (scopes_of t) m.scope here at_here), h))

  -- ---- N10: each is declared

  abbrev pub IsHeader : Name → Type 0
  IsHeader n = Contains here.dummies n ⊎ (here.result ≡ Some n)

  declared_name : (n : Name) → IsHeader n → (d : Own) × Has here.declared d × (d.name.symbol ≡ n.symbol)
  declared_name n h = go (list_any (λ (d : Own). nat_eq d.name.symbol n.symbol) here.declared) refl
    where
      go : (b : Bool) → list_any (λ (d : Own). nat_eq d.name.symbol n.symbol) here.declared ≡ b → (d : Own) × Has here.declared d × (d.name.symbol ≡ n.symbol)
      go true is = let r = any_of (λ (d : Own). nat_eq d.name.symbol n.symbol) here.declared is in (r.0, r.1, eq_same ((r.0).name).symbol n.symbol r.2)
      go false is =
          absurd (unbroken (at N10 n) (BreaksOf.undeclared (
            n,
            h,
            λ d. no (
                sym (any_from (λ (d : Own). nat_eq d.name.symbol n.symbol) here.declared d.0 (has_of here.declared d.0 d.1)
                (ap (λ z. nat_eq z n.symbol) d.2 ∙ eq_self n.symbol))
                ∙ is),
            refl,
          )))

  -- so its entity is the declared one
  pub header_entity : (n : Name) (e : ℕ) → IsHeader n → entity_of (look m.scope n.symbol) ≡ e → IsDeclared (scopes_of t) m.scope n.symbol e
  header_entity n e h is =
      let r = declared_name n h in
      let p = has_at here.declared r.0 r.1 in
      let d : ℕ = first_entity (scopes_of t) m.scope + p.0 in
      let there : IsDeclared (scopes_of t) m.scope n.symbol d = (here, p.0, r.0, at_here, p.1, r.2, refl) in
      subst (IsDeclared (scopes_of t) m.scope n.symbol) (sym (ap entity_of (alone t look means none m.scope n.symbol d there)) ∙ is) there

  -- ---- N3: a dummy is no result that the header types

  pub not_typed : (k : ℕ) (n : Name) (e : ℕ) → slice_get here.dummies k ≡ Some n → Typed m n.symbol e → ⊥
  not_typed k n e there h = go (outcome_of ((m.tree).header).kind) refl h.symbol_is
    where
      again : (j i : ℕ) (a b : Name) → slice_get (header_names here) j ≡ Some a → slice_get (header_names here) i ≡ Some b → j < i → a.symbol ≡ b.symbol → ⊥
      again j i a b x y lt e =
          unbroken (at N3 b) (BreaksOf.declared_twice (DeclaredTwice.in_header b (stands_again (header_names here) j i a b x y lt e) refl))

      second : slice_get (header_names here) (suc k) ≡ Some n
      second = at_front here.dummies (option_to_list here.outcome) k n there

      go : (o : Option Name) → here.outcome ≡ o → (name_or o here.name).symbol ≡ n.symbol → ⊥
      go None is e = again 0 (suc k) here.name n refl second (omega arith) e
      go (Some r) is e =
          let within = slice_get_within here.dummies k n there in
          let last : slice_get (option_to_list here.outcome) 0 ≡ Some r = ap (λ o. slice_get (option_to_list o) 0) is in
          again (suc k) (suc (length here.dummies + 0)) n r second (at_back here.dummies (option_to_list here.outcome) 0 r last) (omega (arith, within)) (sym e)

  -- ---- its declaration

  pub entry : (symbol e : ℕ) (o : Object) → IsDeclared (scopes_of t) m.scope symbol e → slice_get (natures t look) e ≡ Some (variable o)
      → (Typed m symbol e → ⊥) → Entry t look m symbol e o
  entry symbol e o declared nature untyped =
      go declared.2 (object_kind t look m.scope symbol e o declared nature) (stands t look u m symbol e home declared)
    where
      by : (x : Declared) → lookup (nat_eq symbol) (declarations_in m) ≡ Some x → Has (entries ((m.tree).part).specifications) (symbol, x) → Entry t look m symbol e o
      by x found has =
          let (place, at, symbol_is) = entry_at u.scope m.scope (start m) ((m.tree).part).specifications (symbol, x) has in
          let v : Variable = variable_of u.scope m.scope (start m + place) x in
          let among : IsAmong (member_names u.scope m) v = among_of (member_names u.scope m) v at.there in
          let result = typed_result ((m.tree).header).kind ((m.tree).header).name in
          let first = (member_is t look u m home).first in
          let long = typed_long ((m.tree).header).kind ((m.tree).header).name in
          let there : IsDeclared (scopes_of t) m.scope symbol (start m + place) = (
            here,
            length result + place,
            own_by x,
            at_here,
            at_back result (flat_map declared_in ((m.tree).part).specifications) place (own_by x) at.declared,
            sym symbol_is,
            omega (arith, first, long),
          ) in
          let one : start m + place ≡ e = declared_once t look means none m.scope symbol (start m + place) e there declared in
          let asked = name_asked t look (of_member u m) v home among in
          record {
            tree = x;
            found = found;
            object_is = (name_object t look (of_member u m) v e o home among one nature).1;
            place = place;
            declared = at.declared;
            symbol_is = symbol_is;
            holder = asked.0;
            asked = ap (slice_get (holders_from 0 (scopes_of t))) (sym one) ∙ asked.1;
            intent_is = asked.3 ∙ intent_given x;
          }

      go : (d : Own) → is_object d.kind ≡ true → Stands u m symbol e d → Entry t look m symbol e o
      go d object (header_types h) = absurd (untyped h)
      go d object (is_type kind) = no (sym object ∙ ap is_object kind)
      go d object (is_name place x at own_is entity_is symbol_is) =
          let r = found_entry symbol (entries ((m.tree).part).specifications) x
          (subst (λ z. Has (entries ((m.tree).part).specifications) (z, x)) symbol_is at.entry) in
          by r.0 r.1 r.2

  -- ---- N9: a dummy has an INTENT

  pub given : (k : ℕ) (n : Name) (e : ℕ) (o : Object) → slice_get here.dummies k ≡ Some n → (h : Entry t look m n.symbol e o)
      → (i : Intent) × ((h.holder).intent ≡ Some i) × (intent_of h.tree ≡ Some i)
  given k n e o there h = go (own_by h.tree).intents refl
    where
      go : (is : List Intent) → (own_by h.tree).intents ≡ is → (i : Intent) × ((h.holder).intent ≡ Some i) × (intent_of h.tree ≡ Some i)
      go [] empty =
          let same = specified_same ((m.tree).header).kind ((m.tree).header).name (flat_map declared_in ((m.tree).part).specifications) in
          let stands : Contains (specified here) (own_by h.tree) =
          subst (λ xs. Contains xs (own_by h.tree)) (sym same) (contains_of _ (own_by h.tree) (at_has _ h.place (own_by h.tree) h.declared)) in
          absurd (unbroken (at N9 (own_by h.tree).name) (BreaksOf.intent_misplaced (IntentMisplaced.missing (own_by h.tree) stands
          (n, contains_of here.dummies n (at_has here.dummies k n there), h.symbol_is) empty refl)))
      go (i ∷ is) given_is =
          let last = last_given i is in
          let tree_is : intent_of h.tree ≡ Some last.0 = sym (intent_given h.tree) ∙ ap (last_of None) given_is ∙ last.1 in
          (last.0, h.intent_is ∙ tree_is, tree_is)
