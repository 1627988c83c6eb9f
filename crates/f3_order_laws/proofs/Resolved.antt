-- The one entity that a name is resolved to is visible.
use Rattle.std.proofs.Common.{subst}
use Rattle.f3_lookups.specs.declared.lookup.Lookup.{Lookup}
use Rattle.f3_lookups.specs.declared.lookup.Lookup.TheVariants.{One}
use Rattle.f3_access.specs.Access.{IsVisible}
use Rattle.f3_access.specs.Lookups.{ResolvesAs}
use Rattle.f3_order_laws.specs.Laws.{ResolvedIsVisible}

pub resolved : ResolvedIsVisible
resolved scopes look resolves scope symbol entity is =
    let as_one : ResolvesAs (One entity) (IsVisible scopes scope symbol) =
    subst (λ (l : Lookup). ResolvesAs l (IsVisible scopes scope symbol)) is (resolves scope symbol).as_said in
    as_one.0
