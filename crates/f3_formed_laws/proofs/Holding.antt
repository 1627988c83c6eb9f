-- An allocatable itself, and what it holds.
use Rattle.std.proofs.Common.{◌≡◌, ℕ, Bool, true, false, List, Option, Some, None, sym, ap, ◌∙◌, if◌then◌else◌, nat_eq}
use Rattle.f3_program.specs.declared.declarations.Base.{Base}
use Rattle.f3_program.specs.declared.declarations.Component.{Component}
use Rattle.f3_program.specs.declared.declarations.Declared.{Declared}
use Rattle.f3_program.specs.declared.declarations.Kind.{Kind}
use Rattle.f3_program.specs.declared.program.Program.{Program}
use Rattle.f3_meaning_whole.specs.Act.{component_of}
use Rattle.f3_meaning_whole.specs.Formed.{of_kind, found, only, kind_of_name}
use Rattle.f3_elaboration.specs.Nodes as n
use Rattle.f3_elaboration.specs.Nodes.{DesignatorNode}
use Rattle.f3_elaboration.specs.Expressions.{itself, is_whole_allocatable}
use Rattle.f3_lawful_laws.proofs.Facts.{nothing}
use Rattle.f3_formed_laws.specs.Nodes.{object_kind}
use Rattle.f3_formed_laws.proofs.Facts.{only_some}

-- a kind by its parts
pub kind_by : (k : Kind) (t : Base) (r : ℕ) (b : Bool) → k.of ≡ t → k.rank ≡ r → k.is_allocatable ≡ b → k ≡ record { of = t; rank = r; is_allocatable = b }
kind_by k t r b e f g =
    ap (λ z. record { of = z; rank = k.rank; is_allocatable = k.is_allocatable }) e
    ∙ ap (λ z. record { of = t; rank = z; is_allocatable = k.is_allocatable }) f ∙ ap (λ z. record { of = t; rank = r; is_allocatable = z }) g

-- what is held, and what holds it
unheld_kind : (k : Kind) (t : Base) (r : ℕ) → only k.is_allocatable (of_kind k.of k.rank) ≡ Some (of_kind t r) → k ≡ record { of = t; rank = r; is_allocatable = true }
unheld_kind k t r e =
    let h = only_some k.is_allocatable (of_kind k.of k.rank) (of_kind t r) e in
    kind_by k t r true (ap (λ (z : Kind). z.of) h.1) (ap (λ (z : Kind). z.rank) h.1) h.0

module _ (p : Program) (vs : List Declared) (ns : List Kind) where
  name_unheld : (o : Option Kind) (t : Base) (r : ℕ) → found o (λ k. only k.is_allocatable (of_kind k.of k.rank)) ≡ Some (of_kind t r)
      → found o (λ k. Some k) ≡ Some (record { of = t; rank = r; is_allocatable = true })
  name_unheld None t r e = nothing e
  name_unheld (Some k) t r e = ap (λ z. Some z) (unheld_kind k t r e)

  component_unheld : (o : Option Kind) (m : ℕ) (each : Kind → Kind → Option Kind) (t : Base) (r : ℕ)
      → found o (λ (o : Kind). if o.is_allocatable then None else found (component_of p.types.items o.of m)
      (λ (c : Component). if nat_eq o.rank 0 then only (c.declared.kind).is_allocatable (of_kind (c.declared.kind).of (c.declared.kind).rank) else None)) ≡ Some (of_kind t r)
      → found o (λ (o : Kind). if o.is_allocatable then None else found (component_of p.types.items o.of m) (λ (c : Component). if nat_eq o.rank 0 then Some c.declared.kind else each o c.declared.kind))
      ≡ Some (record { of = t; rank = r; is_allocatable = true })
  component_unheld None m each t r e = nothing e
  component_unheld (Some o) m each t r e = go o.is_allocatable e
    where
      at : (b : Bool) (c : Component) → (if b then only (c.declared.kind).is_allocatable (of_kind (c.declared.kind).of (c.declared.kind).rank) else None) ≡ Some (of_kind t r)
          → (if b then Some c.declared.kind else each o c.declared.kind) ≡ Some (record { of = t; rank = r; is_allocatable = true })
      at true c e = ap (λ z. Some z) (unheld_kind c.declared.kind t r e)
      at false c e = nothing e

      in_type : (z : Option Component)
          → found z (λ (c : Component). if nat_eq o.rank 0 then only (c.declared.kind).is_allocatable (of_kind (c.declared.kind).of (c.declared.kind).rank) else None) ≡ Some (of_kind t r)
          → found z (λ (c : Component). if nat_eq o.rank 0 then Some c.declared.kind else each o c.declared.kind) ≡ Some (record { of = t; rank = r; is_allocatable = true })
      in_type None e = nothing e
      in_type (Some c) e = at (nat_eq o.rank 0) c e

      go : (b : Bool) → (if b then None else found (component_of p.types.items o.of m)
          (λ (c : Component). if nat_eq o.rank 0 then only (c.declared.kind).is_allocatable (of_kind (c.declared.kind).of (c.declared.kind).rank) else None)) ≡ Some (of_kind t r)
          → (if b then None else found (component_of p.types.items o.of m) (λ (c : Component). if nat_eq o.rank 0 then Some c.declared.kind else each o c.declared.kind))
          ≡ Some (record { of = t; rank = r; is_allocatable = true })
      go true e = nothing e
      go false e = in_type (component_of p.types.items o.of m) e

  -- the kind of a variable itself: of a whole allocatable that of what holds, of another its own
  pub itself_kind : (d : DesignatorNode) (t : Base) (r : ℕ) (b : Bool) → object_kind p vs ns d ≡ Some (of_kind t r) → b ≡ is_whole_allocatable d
      → object_kind p vs ns (itself d) ≡ Some (record { of = t; rank = r; is_allocatable = b })
  itself_kind (n.name y n.whole) t r b e h = e ∙ ap (λ z. Some (record { of = t; rank = r; is_allocatable = z })) (sym h)
  itself_kind (n.name y n.contents) t r b e h =
      name_unheld (kind_of_name p vs ns y) t r e ∙ ap (λ z. Some (record { of = t; rank = r; is_allocatable = z })) (sym h)
  itself_kind (n.name y (n.elements o xs)) t r b e h = e ∙ ap (λ z. Some (record { of = t; rank = r; is_allocatable = z })) (sym h)
  itself_kind (n.component d k n.whole) t r b e h = e ∙ ap (λ z. Some (record { of = t; rank = r; is_allocatable = z })) (sym h)
  itself_kind (n.component d k n.contents) t r b e h =
      component_unheld (object_kind p vs ns d) k _ t r e ∙ ap (λ z. Some (record { of = t; rank = r; is_allocatable = z })) (sym h)
  itself_kind (n.component d k (n.elements o xs)) t r b e h = e ∙ ap (λ z. Some (record { of = t; rank = r; is_allocatable = z })) (sym h)
