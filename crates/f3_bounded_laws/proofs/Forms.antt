-- What tokens spell as a statement of a block has literals of at most 64 bits, and CASE values that are spelled.
use Rattle.std.proofs.Common.{◌≡◌, List, ◌∷◌, Option, Some, None, sym, subst, inl, inr}
use Rattle.f3_places.specs.declared.source.Place.{Place}
use Rattle.f3_tree.specs.declared.expression.Name.{Name}
use Rattle.f3_tree.specs.declared.program.UnitKind.TheVariants.{Module, Program}
use Rattle.f3_words.specs.declared.item.Keyword.{Keyword}
use Rattle.f3_words.specs.declared.item.Keyword.TheVariants as keyword
use Rattle.f3_words.specs.declared.item.Item.{Item}
use Rattle.f3_form.specs.declared.form.Ended.{Ended}
use Rattle.f3_form.specs.declared.form.Ended.TheVariants as ended
use Rattle.f3_form.specs.Forms.{FormTree}
use Rattle.f3_form.specs.Forms as form
use Rattle.f3_forms.specs.Grammar.{IsJoinedEnd, IsEnd, IsType, IsBlockIf, IsLogicalIf, IsIfBehind, IsIf, IsElse, IsSelect, IsImplicit, IsFormOf}
use Rattle.f3_forms.specs.Grammar.{IsHeaded, IsAct, IsProcedure, IsDeclared, IsSpecified, IsPassive, IsForm}
use Rattle.f3_blocks.specs.Pieces.{Piece, act, act_if, if_begins, else_if_begins, select_begins, case_begins, do_begins, associate_begins, piece}
use Rattle.f3_meaning_whole.specs.Permitted.{Each}
use Rattle.f3_fitting_laws.specs.Bounded.{IsBounded, IsActBounded, IsControlBounded, AreValuesSpelled}
use Rattle.f3_bounded_laws.proofs.Tokens.{AreWords}
use Rattle.f3_bounded_laws.proofs.Actions.{behind, action, condition_before, condition, then, case_values, loop, IsSelectorBounded, associations}

-- the literals of a statement of a block have at most 64 bits
abbrev pub IsPieceBounded : Piece → Type 0
IsPieceBounded (act p a) = IsActBounded a
IsPieceBounded (act_if p e q a) = IsBounded e × IsActBounded a
IsPieceBounded (if_begins p e) = IsBounded e
IsPieceBounded (else_if_begins p e) = IsBounded e
IsPieceBounded (select_begins p e) = IsBounded e
IsPieceBounded (case_begins p x) = AreValuesSpelled x
IsPieceBounded (do_begins p c) = IsControlBounded c
IsPieceBounded (associate_begins p xs) = Each IsSelectorBounded xs
IsPieceBounded _ = Unit {0}

module _ (p : Place) where
  abbrev IsSound : FormTree → Type 0
  IsSound f = IsPieceBounded (piece p f)

  made : (f g : FormTree) → f ≡ g → IsSound g → IsSound f
  made f g same h = subst IsSound (sym same) h

  ended_piece : (what : Ended) (n : Option Name) → IsSound (form.ends (Some what) n)
  ended_piece ended.Module n = tt
  ended_piece ended.Program n = tt
  ended_piece ended.Subroutine n = tt
  ended_piece ended.Function n = tt
  ended_piece ended.Type n = tt
  ended_piece ended.If None = tt
  ended_piece ended.If (Some n) = tt
  ended_piece ended.Select None = tt
  ended_piece ended.Select (Some n) = tt
  ended_piece ended.Do None = tt
  ended_piece ended.Do (Some n) = tt
  ended_piece ended.Associate None = tt
  ended_piece ended.Associate (Some n) = tt

  joined_ends : (what : Ended) (f : FormTree) (ts : List Item) → IsJoinedEnd what f ts → IsSound f
  unfolding IsJoinedEnd
  joined_ends what f ts h = made f (form.ends (Some what) h.0) h.2 (ended_piece what h.0)

  all_ends : (f : FormTree) (ts : List Item) → IsEnd f ts → IsSound f
  unfolding IsEnd
  all_ends f ts (inl h) = made f (form.ends None None) h.1 tt
  all_ends f ts (inr h) = joined_ends h.2 f h.3 h.7

  types : (f : FormTree) (ts : List Item) → IsType f ts → IsSound f
  unfolding IsType
  types f ts h = made f (form.type_begins h.0 h.1) h.3 tt

  ifs : (f : FormTree) (ts : List Item) → AreWords ts → IsIf f ts → IsSound f
  unfolding IsIf IsIfBehind IsBlockIf IsLogicalIf
  ifs f ts w (e, a, tested, inl h) = made f (form.if_then e) h.1 (condition_before e ts a w tested).0
  ifs f ts w (e, a, tested, inr h) =
      let g = h.1 in
      let c = condition_before e ts a w tested in
      made f (form.acts_if e (g.1).place g.0) g.5 (c.0, action g.0 a c.1 g.4)

  elses : (f : FormTree) (ts : List Item) → AreWords ts → IsElse f ts → IsSound f
  unfolding IsElse
  elses f ts w (inl h) = made f form.else_alone h.1 tt
  elses f ts w (inr h) = made f (form.else_if h.0) h.5 (then h.0 h.1 (behind _ ts h.1 h.3 w) h.4)

  selects : (f : FormTree) (ts : List Item) → AreWords ts → IsSelect f ts → IsSound f
  unfolding IsSelect
  selects f ts w h = made f (form.select_case h.0) h.4 (condition h.0 h.1 (behind _ ts h.1 h.2 w) h.3)

  implicits : (f : FormTree) (ts : List Item) → IsImplicit f ts → IsSound f
  unfolding IsImplicit
  implicits f ts h = made f form.implicit_none h.1 tt

  form_of : (k : Keyword) (place : Place) (f : FormTree) (ts : List Item) → AreWords ts → IsFormOf k place f ts → IsSound f
  form_of keyword.Module place f ts w h = made f (form.unit Module h.0) h.1 tt
  form_of keyword.Program place f ts w h = made f (form.unit Program h.0) h.1 tt
  form_of keyword.Contains place f ts w h = made f form.contains h.1 tt
  form_of keyword.End place f ts w h = all_ends f ts h
  form_of keyword.EndModule place f ts w h = joined_ends ended.Module f ts h
  form_of keyword.EndProgram place f ts w h = joined_ends ended.Program f ts h
  form_of keyword.EndSubroutine place f ts w h = joined_ends ended.Subroutine f ts h
  form_of keyword.EndFunction place f ts w h = joined_ends ended.Function f ts h
  form_of keyword.EndType place f ts w h = joined_ends ended.Type f ts h
  form_of keyword.EndIf place f ts w h = joined_ends ended.If f ts h
  form_of keyword.EndSelect place f ts w h = joined_ends ended.Select f ts h
  form_of keyword.EndDo place f ts w h = joined_ends ended.Do f ts h
  form_of keyword.EndAssociate place f ts w h = joined_ends ended.Associate f ts h
  form_of keyword.Use place f ts w h = made f (form.uses h.0) h.1 tt
  form_of keyword.Implicit place f ts w h = implicits f ts h
  form_of keyword.Public place f ts w h = made f (form.accesses h.0) h.1 tt
  form_of keyword.Private place f ts w h = made f (form.accesses h.0) h.1 tt
  form_of keyword.Protected place f ts w h = made f (form.protects h.0) h.1 tt
  form_of keyword.Save place f ts w h = made f form.saves h.1 tt
  form_of keyword.Type place f ts w h = types f ts h
  form_of keyword.Final place f ts w h = made f (form.finals h.0) h.1 tt
  form_of keyword.If place f ts w h = ifs f ts w h
  form_of keyword.Else place f ts w h = elses f ts w h
  form_of keyword.ElseIf place f ts w h = made f (form.else_if h.0) h.1 (then h.0 ts w h.2)
  form_of keyword.Select place f ts w h = selects f ts w h
  form_of keyword.SelectCase place f ts w h = made f (form.select_case h.0) h.1 (condition h.0 ts w h.2)
  form_of keyword.Case place f ts w h = made f (form.case_of h.0) h.1 (case_values h.0 ts h.2)
  form_of keyword.Do place f ts w h = made f (form.repeats h.0) h.1 (loop h.0 ts w h.2)
  form_of keyword.Associate place f ts w h = made f (form.associates h.0) h.1 (associations h.0 ts w h.2)
  form_of k place f ts w h = absurd h

  specified : (f : FormTree) (ts : List Item) → AreWords ts → IsSpecified f ts → IsSound f
  unfolding IsSpecified IsDeclared IsHeaded
  specified f ts w (inl h) = made f (form.declares h.0) h.1 tt
  specified f ts w (inr h) =
      let g = h.1 in
      let v : AreWords (g.0 ∷ g.2) = subst AreWords g.3 w in
      form_of g.1 (g.0).place f g.2 v.1 g.5

  passive : (f : FormTree) (ts : List Item) → AreWords ts → IsPassive f ts → IsSound f
  unfolding IsPassive IsProcedure
  passive f ts w (inl h) = made f (form.procedure h.0) h.1 tt
  passive f ts w (inr h) = specified f ts w h.1

  pub form_sound : (f : FormTree) (ts : List Item) → AreWords ts → IsForm f ts → IsPieceBounded (piece p f)
  unfolding IsForm IsAct
  form_sound f ts w (inl h) = made f (form.acts h.0) h.1 (action h.0 ts w h.2)
  form_sound f ts w (inr h) = passive f ts w h.1
