-- What names mean.
use Rattle.std.proofs.Common.{◌≡◌, ℕ, List, sym, ap, ◌∙◌}
use Rattle.std.specs.Prelude.{slice_get, slice_index_or}
use Rattle.f3_program.specs.declared.declarations.Base.TheVariants as base
use Rattle.f3_program.specs.declared.expression.Name.{Name}
use Rattle.f3_program.specs.declared.expression.Name.TheVariants as n
use Rattle.f3_program.specs.declared.program.Static as x
use Rattle.f3_meaning_whole.specs.Value as v
use Rattle.f3_meaning_whole.specs.Store as s
use Rattle.f3_meaning_whole.specs.Store.{get}
use Rattle.f3_meaning_whole.specs.Reference as m
use Rattle.f3_meaning_whole.specs.Ran.{looks, gives}
use Rattle.f3_meaning_whole.specs.Act.{Setting, Here, named, to_root, whole, static_type, right_to, type_of}
use Rattle.f3_data.specs.declared.store.Store.{Store}
use Rattle.f3_data.specs.Stores.{store_of}
use Rattle.f3_located.specs.Finds.{Finds, world}
use Rattle.f3_object_steps.proofs.Running.{found}

pub named_static : (g : Setting) (name : Name) (i : ℕ) (here : Here) (store : Store) (q : m.Reference) (statics : List x.Static) → name ≡ n.Static i → statics ≡ g.program.statics.items →
    q ≡ to_root (s.Static i) (static_type (slice_get statics i)) (right_to here.unit (slice_get statics i)) here.unit (get (store_of store) (whole (s.Static i))) → Finds (named g name here) store q
unfolding looks
named_static g name i here store q statics e f h = λ answers. ap (λ x. (named g x here).from (world store answers)) e
    ∙ ap (λ x. found x (world store answers)) (sym (h ∙ ap (λ ss. to_root (s.Static i) (static_type (slice_get ss i)) (right_to here.unit (slice_get ss i)) here.unit (get (store_of store) (whole (s.Static i)))) f))

pub named_local : (g : Setting) (name : Name) (i : ℕ) (here : Here) (store : Store) (q : m.Reference) → name ≡ n.Local i →
    q ≡ to_root (s.Local here.level i) (type_of (slice_get here.variables i)) m.Define here.unit (get (store_of store) (whole (s.Local here.level i))) → Finds (named g name here) store q
unfolding looks
named_local g name i here store q e h = λ answers. ap (λ x. (named g x here).from (world store answers)) e ∙ ap (λ x. found x (world store answers)) (sym h)

pub named_lent : (g : Setting) (name : Name) (i : ℕ) (here : Here) (store : Store) (q : m.Reference) → name ≡ n.Lent i →
    q ≡ slice_index_or here.names i (to_root (s.Local 0 0) base.Integer m.Read 0 v.Unallocated) → Finds (named g name here) store q
unfolding gives
named_lent g name i here store q e h = λ answers. ap (λ x. (named g x here).from (world store answers)) e ∙ ap (λ x. found x (world store answers)) (sym h)
