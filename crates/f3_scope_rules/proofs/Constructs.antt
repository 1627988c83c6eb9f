-- The breaks of an ASSOCIATE construct.
use Rattle.std.proofs.Common.{◌≡◌, ℕ, List, [], ◌∷◌, ◌++◌, map, drop, None, Some, refl, sym, ap, subst, ◌∙◌, inl, inr, Contains}
use Rattle.std.proofs.lemmas.Bool.{true≢false}
use Rattle.f3_rules.specs.declared.breaks.Break.{Break}
use Rattle.f3_rules.specs.declared.rule.Rule.TheVariants.{N3}
use Rattle.f3_tree.specs.declared.expression.Name.{Name}
use Rattle.f3_tree.specs.Statements.{AssociationTree}
use Rattle.f3_scopes.specs.declared.outline.ScopeKind.TheVariants.{Associate}
use Rattle.f3_scopes.specs.Outlines.{Own, Scope}
use Rattle.f3_scopes.specs.Scopes.{association_own, scope_of_construct}
use Rattle.f3_scope_rules.specs.ScopeBreaks.{at, Again, DeclaredTwice, AccessOutside, AccessTwice, IsProtecting, IntentMisplaced, BreaksOf}
use Rattle.f3_scope_rules.specs.Laws.{associate_names, ConstructBreaks}
use Rattle.f3_scope_rules.proofs.Members.{has_of, mapped_of}
use Rattle.f3_scope_rules.proofs.Known.{result_in}

none_in : {X : Type 0} (x : X) → Contains [] x → ⊥
none_in x h = has_of [] x h

none_behind : {X : Type 0} (front rest : List X) (x : X) → [] ≡ front ++ x ∷ rest → ⊥
none_behind [] rest x e = absurd (cc)
none_behind (y ∷ front) rest x e = absurd (cc)

-- a name alone stands behind none
none_before : (n later : Name) → Again (n ∷ []) later → ⊥
none_before n later ([], rest, e, earlier, h, same) = none_in earlier h
none_before n later (f ∷ front, rest, e, earlier, h, same) = none_behind front rest later (ap (drop 1) e)

module _ (host : ℕ) (around : Name) (xs : List AssociationTree) (b : Break) where
  abbrev scope : Scope
  scope = scope_of_construct host around xs

  names : (ys : List AssociationTree) → map (λ (d : Own). d.name) (map association_own ys) ≡ associate_names ys
  names [] = refl
  names (y ∷ ys) = ap (λ ns. y.name ∷ ns) (names ys)

  plain_of : (d : Own) → Contains (map association_own xs) d → (x : AssociationTree) × (d ≡ association_own x)
  plain_of d h = let r = mapped_of association_own xs d (has_of (map association_own xs) d h) in (r.0, r.2)

  abbrev Later : Type 0
  Later = (later : Name) × Again (associate_names xs) later × (b ≡ at N3 later)

  twice : DeclaredTwice scope b → Later
  twice (DeclaredTwice.in_declarations later again is) = (later, subst (λ ns. Again ns later) (names xs) again, is)
  twice (DeclaredTwice.in_header later again is) = absurd (none_before scope.name later again)
  twice (DeclaredTwice.own_name d other h same is) = absurd (true≢false (sym (result_in Associate None other)))
  twice (DeclaredTwice.component parts later h again is) = absurd (none_in parts h)

  outside : AccessOutside scope b → ⊥
  outside (AccessOutside.statement s kind h is) = none_in s h
  outside (AccessOutside.attribute place kind h is) = none_in place h

  accesses : AccessTwice scope b → ⊥
  accesses (AccessTwice.to_name later (front, rest, e, earlier, h, same) is) = none_behind front rest later e
  accesses (AccessTwice.to_component parts c h inside two is) = none_in parts h
  accesses (AccessTwice.of_module later kind (front, rest, e, empty, earlier, h, none) is) = none_behind front rest later e

  protecting : (n : Name) → IsProtecting scope n → ⊥
  protecting n (IsProtecting.in_statement h) = none_in n h
  protecting n (IsProtecting.as_attribute d h said same) =
      let p = plain_of d h in true≢false (sym said ∙ ap (λ (o : Own). o.is_protected) p.1)

  intents : IntentMisplaced scope b → ⊥
  intents (IntentMisplaced.missing d h (n, dummy, same) none is) = none_in n dummy
  intents (IntentMisplaced.elsewhere d h other some is) = let p = plain_of d h in some (ap (λ (o : Own). o.intents) p.1)
  intents (IntentMisplaced.of_function d i h (n, dummy, same) kind inside other is) = none_in n dummy

  to : BreaksOf scope b → Later
  to (BreaksOf.declared_twice a) = twice a
  to (BreaksOf.access_outside a) = absurd (outside a)
  to (BreaksOf.access_twice a) = absurd (accesses a)
  to (BreaksOf.protected_misplaced (n, p, other, is)) = absurd (protecting n p)
  to (BreaksOf.intent_misplaced a) = absurd (intents a)
  to (BreaksOf.undeclared (n, inl h, none, is)) = absurd (none_in n h)
  to (BreaksOf.undeclared (n, inr e, none, is)) = let bad : None ≡ Some n = e in absurd (cc)

  from : Later → BreaksOf scope b
  from (later, again, is) = BreaksOf.declared_twice (DeclaredTwice.in_declarations later (subst (λ ns. Again ns later) (sym (names xs)) again) is)

pub construct_breaks : ConstructBreaks
construct_breaks host around xs b = (to host around xs b, from host around xs b)
