-- The statements that begin and end constructs.
use Rattle.std.specs.Prelude.{ℕ, Bool, true, false, Some}
use Rattle.f3_form.specs.declared.form.Ended.TheVariants as ended
use Rattle.f3_form.specs.Forms.{FormTree, if_then, select_case, repeats, associates, ends}

abbrev pub begins_construct : FormTree → Bool
begins_construct (if_then e) = true
begins_construct (select_case e) = true
begins_construct (repeats c) = true
begins_construct (associates xs) = true
begins_construct _ = false

abbrev pub ends_construct : FormTree → Bool
ends_construct (ends (Some ended.If) n) = true
ends_construct (ends (Some ended.Select) n) = true
ends_construct (ends (Some ended.Do) n) = true
ends_construct (ends (Some ended.Associate) n) = true
ends_construct _ = false

abbrev pub one_if : Bool → ℕ
one_if true = 1
one_if false = 0
