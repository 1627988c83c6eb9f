-- What names mean is one, so the breaks of a program are those along the order that was taken.
use Rattle.std.proofs.Common.{◌≡◌, ℕ, List, Contains, sym, ap, subst, ◌∙◌}
use Rattle.std.proofs.Math.Path.{fun_ext}
use Rattle.f3_lookups.specs.declared.lookup.Lookup.{Lookup}
use Rattle.f3_lookups.specs.declared.lookup.Lookup.TheVariants.{One, Nothing, Several}
use Rattle.f3_access.specs.Access.{IsVisible}
use Rattle.f3_access.specs.Lookups.{ResolvesAs}
use Rattle.f3_graph.specs.Order.{IsOrderOf}
use Rattle.f3_graph.specs.Units.{nodes_of}
use Rattle.f3_order_laws.proofs.Programs.{orders}
use Rattle.f3_order_laws.proofs.Resolved.{resolved}
use Rattle.f3_rules.specs.declared.breaks.Break.{Break}
use Rattle.f3_scopes.specs.Scopes.{scopes_of}
use Rattle.f3_tree.specs.Tree.{Tree}
use Rattle.f3_type_rules.specs.Program.{program_breaks}
use Rattle.f3_types.specs.Breaks.{Means, TypeBreaks}

one_as : (l m : Lookup) (Is : ℕ → Type 0) → ResolvesAs l Is → ResolvesAs m Is → l ≡ m
one_as (One e) (One d) Is r s = ap One (sym (r.1 d s.0))
one_as (One e) Nothing Is r s = absurd (s e r.0)
one_as (One e) Several Is r s = absurd (s.4 (r.1 s.0 s.2 ∙ sym (r.1 s.1 s.3)))
one_as Nothing (One d) Is r s = absurd (r d s.0)
one_as Nothing Nothing Is r s = cc
one_as Nothing Several Is r s = absurd (r s.0 s.2)
one_as Several (One d) Is r s = absurd (r.4 (s.1 r.0 r.2 ∙ sym (s.1 r.1 r.3)))
one_as Several Nothing Is r s = absurd (s r.0 r.2)
one_as Several Several Is r s = cc

pub look_same : (t : Tree) (look other : ℕ → ℕ → Lookup) → Means t look → Means t other → look ≡ other
look_same t look other h k =
    fun_ext (λ scope. fun_ext (λ symbol. one_as (look scope symbol) (other scope symbol) (IsVisible (scopes_of t) scope symbol) (h scope symbol).as_said (k scope symbol).as_said))

-- a break along some order is one along the order that was taken
pub broken_here : (t : Tree) (look : ℕ → ℕ → Lookup) (order : List ℕ) → Means t look → IsOrderOf (nodes_of t) order → (b : Break) → TypeBreaks t b → Contains (program_breaks t look order) b
broken_here t look order means ordered b h =
    let (other, others, meant, placed, found) = h in
    orders t look others order (resolved (scopes_of t) look means) placed ordered b
    (subst (λ l. Contains (program_breaks t l others) b) (look_same t other look meant means) found)
