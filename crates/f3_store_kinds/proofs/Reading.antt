-- What is read at references.
use Rattle.std.proofs.Common.{◌≡◌, true, List, [], ◌∷◌, map, refl, subst}
use Rattle.f3_program.specs.declared.declarations.Derived.{Derived}
use Rattle.f3_program.specs.declared.declarations.Kind.{Kind}
use Rattle.f3_meaning_whole.specs.Value.{Value, joined, listed}
use Rattle.f3_meaning_whole.specs.Store.{Store, Path, get, put_all}
use Rattle.f3_meaning_whole.specs.Reference.{Reach, One, Many, Reference, paths_by, paths}
use Rattle.f3_meaning_whole.specs.Formed.{of_kind}
use Rattle.f3_meaning_whole.specs.Ran.{World, End, Gives, Ran}
use Rattle.f3_cell_kinds.specs.Holds.{Reaches, is_one}
use Rattle.f3_cell_kinds.proofs.Calm.{Calm, IsCalm}
use Rattle.f3_store_kinds.specs.Typing.{Typing, cut, extended, each_kind, AllOf, IsTyped, AllLeadTo, LeadsBy, Leads, AllOrNone}
use Rattle.f3_store_kinds.specs.Laws.{PutsKeep, ChangesKeep, LevelsBegin, LevelsEnd, ReadsHold, ComponentsLead, ContentsLead, ElementsLead}
use Rattle.f3_store_kinds.proofs.Stores.{read_is, put_is, puts_are, begun_is, ended_is}
use Rattle.f3_store_kinds.proofs.Leading.{within_cut, within_more, path_more, leads_more, path_kept, path_before}
use Rattle.f3_store_kinds.proofs.Objects.{component_calm, contents_calm, picks_calm, each_calm}

module _ (types : List Derived) (g : Typing) where
  -- the objects that a reference reaches
  paths_lead_by : (k : Kind) (p : Path) (reach : Reach) → LeadsBy types g k p reach → AllLeadTo types g (each_kind k reach) (paths_by p reach)
  paths_lead_by k p One h = (h, tt)
  paths_lead_by k p (Many ss ps) h = h.1

  pub paths_lead : (k : Kind) (r : Reference) → Leads types g k r → AllLeadTo types g (each_kind k r.reach) (paths r)
  paths_lead k r h = paths_lead_by k r.path r.reach h

  -- each of them is one
  pub one_each : (k : Kind) (reach : Reach) → Reaches k reach → is_one (each_kind k reach) ≡ true
  one_each k One h = h
  one_each k (Many ss ps) h = refl

  pub changes_are : (store : Store) (k : Kind) (r : Reference) (vs : List Value) → IsTyped types g store → Reaches k r.reach → Leads types g k r → AllOf types (each_kind k r.reach) vs →
      IsTyped types g (put_all (paths r) vs store)
  changes_are store k r vs h reached e f = puts_are types g store (each_kind k r.reach) (paths r) vs h (paths_lead k r e) (one_each k r.reach reached) f

  pub all_read : (store : Store) (k : Kind) (ps : List Path) → IsTyped types g store → AllLeadTo types g k ps → AllOrNone types k (listed (joined (map (get store) ps)))
  all_read store k [] h e = tt
  all_read store k (p ∷ ps) h e = (read_is types g store k p h e.0, all_read store k ps h e.1)

pub puts_keep : PutsKeep
puts_keep types g store k p v h e one f = put_is types g store k p v h e one f

pub changes_keep : ChangesKeep
changes_keep types g store k r vs h reached e f = changes_are types g store k r vs h reached e f

pub levels_begin : LevelsBegin
levels_begin types g store ks vs h f = (begun_is types g store ks vs h f, λ k r e. leads_more types g (extended g ks) k r (within_more g ks) e)

pub levels_end : LevelsEnd
levels_end types g store n h = (
  ended_is types g store n h,
  λ k p b e. path_kept types n g k p b e,
  λ k p e. (path_before types n g k p e, path_more types (cut n g) g k p (within_cut n g) e),
)

pub reads_hold : ReadsHold
reads_hold types g store h = (
  λ k p e. read_is types g store k p h e,
  λ k p ss ps e. (joined (map (get store) ps), refl, all_read types g store (of_kind k.of 0) ps h e.1),
)

-- what is given so
calm_end : {A : Type 0} {P : A → Type 0} {r : Ran A} {x : A} {u : World} (w : World) → Calm P w.store r → (r.from w).end ≡ Gives x u → P x
calm_end {P = P} w h e = (subst (λ (y : End _). IsCalm P w.store y) e (h.by w refl)).0

pub components_lead : ComponentsLead
components_lead types g s k n c maker r q w u typed held at h e is =
    let f = calm_end w (component_calm types g s k n c maker r w.store typed held at h.1 e) is in (f.0, λ t. (f.1 t).0)

pub contents_lead : ContentsLead
contents_lead types g k here r q w u typed held h e is = (calm_end w (contents_calm types g k r here w.store typed held h e) is).1

pub elements_lead : ElementsLead
elements_lead types g k here r q cs w u held = (
  λ h e is. calm_end w (picks_calm types g k r cs here w.store held r.reach refl h.1 e) is,
  λ rank ss some h e is. calm_end w (each_calm types g k rank ss r cs here w.store held some h.1 e) is,
)
