-- Expressions and designators mean the same where only types and variables are declared.
use Rattle.std.proofs.Common.{◌≡◌, List, refl}
use Rattle.f3_program.specs.declared.expression.Argument as a
use Rattle.f3_program.specs.declared.expression.Designator as d
use Rattle.f3_program.specs.declared.expression.Expression as e
use Rattle.f3_program.specs.declared.expression.Name.{Name}
use Rattle.f3_program.specs.declared.expression.Name.TheVariants as n
use Rattle.f3_program.specs.declared.expression.Selection as l
use Rattle.f3_program.specs.declared.expression.Subscript as u
use Rattle.f3_program.specs.declared.program.Program.{Program}
use Rattle.f3_meaning_whole.specs.Value.{Span}
use Rattle.f3_meaning_whole.specs.Reference.{Reference}
use Rattle.f3_meaning_whole.specs.Act.{Setting, Here, Calls, named}
use Rattle.f3_meaning_whole.specs.Eval.{value, bounds, argument, arguments, locate, select, select_in_each, chosen, subscript}
use Rattle.f3_meaning_whole.specs.Run.{setting_of}
use Rattle.f3_code.specs.CoreRun.{core_setting}
use Rattle.f3_code.specs.Lower.{lowered_program}
use Rattle.f3_lower_laws.proofs.Runs.{bind_same, then_same, if_same, reach_same}

-- the types and variables of a program, which its Core keeps
abbrev pub bare : Program → Setting
bare p = core_setting (lowered_program p)

module _ (p : Program) where
  pub named_same : (x : Name) (here : Here) → named (bare p) x here ≡ named (setting_of p) x here
  named_same (n.Static i) here = refl
  named_same (n.Local i) here = refl
  named_same (n.Lent i) here = refl

  module _ (calls : Calls) where
    mutual
      pub value_same : (x : e.Expression) (here : Here) → value (bare p) calls x here ≡ value (setting_of p) calls x here
      value_same (e.Literal z) here = refl
      value_same (e.Variable' q x) here = bind_same (locate_same x here) (λ r. refl)
      value_same (e.Group' q x) here = bind_same (value_same x here) (λ v. refl)
      value_same (e.Unary' o t q x) here = bind_same (value_same x here) (λ v. refl)
      value_same (e.Binary' o t q x r y) here = bind_same (value_same x here) (λ v. bind_same (value_same y here) (λ w. refl))
      value_same (e.Array' k xs) here = bind_same (arguments_same xs here) (λ ps. refl)
      value_same (e.Structure' t k xs) here = bind_same (arguments_same xs here) (λ ps. refl)
      value_same (e.Call' f k xs) here = bind_same (arguments_same xs here) (λ ps. refl)
      value_same (e.Allocated' q x) here = bind_same (locate_same x here) (λ r. refl)
      value_same (e.Size' q x) here = bind_same (bounds_same x here) (λ ss. refl)
      value_same (e.Bound' o q x r y) here = bind_same (bounds_same x here) (λ ss. bind_same (value_same y here) (λ v. refl))

      bounds_same : (x : a.Argument) (here : Here) → bounds (bare p) calls x here ≡ bounds (setting_of p) calls x here
      bounds_same (a.Value' k q x) here = bind_same (value_same x here) (λ v. refl)
      bounds_same (a.Variable' k q x) here = bind_same (locate_same x here) (λ r. refl)

      argument_same : (x : a.Argument) (here : Here) → argument (bare p) calls x here ≡ argument (setting_of p) calls x here
      argument_same (a.Value' k q x) here = bind_same (value_same x here) (λ v. refl)
      argument_same (a.Variable' k q x) here = bind_same (locate_same x here) (λ r. refl)

      arguments_same : {m : _} (xs : e.Row_of-Argument m) (here : Here) → arguments (bare p) calls xs here ≡ arguments (setting_of p) calls xs here
      arguments_same e.end_of-Argument here = refl
      arguments_same (e.more_of-Argument x rest) here = bind_same (argument_same x here) (λ q. bind_same (arguments_same rest here) (λ ps. refl))

      pub locate_same : (x : d.Designator) (here : Here) → locate (bare p) calls x here ≡ locate (setting_of p) calls x here
      locate_same (d.Name x how) here = bind_same (named_same x here) (λ r. select_same how r here)
      locate_same (d.Component' q x k how) here =
          bind_same (locate_same x here) (λ r. then_same _ (λ q. reach_same r.reach (select_same how q here) (in_each_same how _ q here)))

      select_same : (how : l.Selection) (r : Reference) (here : Here) → select (bare p) calls how r here ≡ select (setting_of p) calls how r here
      select_same l.Whole r here = refl
      select_same l.Contents r here = refl
      select_same (l.Elements' is_opened k xs) r here = bind_same (chosen_same xs here) (λ cs. refl)

      in_each_same : (how : l.Selection) (ss : List Span) (r : Reference) (here : Here) → select_in_each (bare p) calls how ss r here
          ≡ select_in_each (setting_of p) calls how ss r here
      in_each_same l.Whole ss r here = refl
      in_each_same l.Contents ss r here = refl
      in_each_same (l.Elements' is_opened k xs) ss r here = bind_same (chosen_same xs here) (λ cs. refl)

      chosen_same : {m : _} (xs : l.Row_of-Subscript m) (here : Here) → chosen (bare p) calls xs here ≡ chosen (setting_of p) calls xs here
      chosen_same l.end_of-Subscript here = refl
      chosen_same (l.more_of-Subscript x rest) here = bind_same (subscript_same x here) (λ c. bind_same (chosen_same rest here) (λ cs. refl))

      subscript_same : (x : u.Subscript) (here : Here) → subscript (bare p) calls x here ≡ subscript (setting_of p) calls x here
      subscript_same (u.At' q x) here = bind_same (value_same x here) (λ v. refl)
      subscript_same (u.Range' b q x b' r y s z) here =
          bind_same (if_same b (bind_same (value_same x here) (λ v. refl)) refl)
          (λ lower. bind_same (if_same b' (bind_same (value_same y here) (λ v. refl)) refl) (λ upper. bind_same (value_same z here) (λ v. refl)))
