-- The command line, part by part.
use Rattle.std.proofs.Common.{◌≡◌, ◌∙◌, ◌&&◌, Bool, true, false, not, ap, ap₂, refl, is_some}
use Rattle.std.specs.Prelude.{Result, Ok, Err, IfOk}
use Rattle.std.specs.declared.alloc.AllocError.{AllocError}
use Rattle.clap.specs.Walk.{Rule, rule_of, is_empty, is_simple_arg}
use Rattle.clap.specs.Simple.{App, Shape, app_of, shape_of, has_plain_fields, with_rule, with_subcommand}
use Rattle.clap.specs.Built.{AddsArg, AddsSubcommand}
use Rattle.clap.specs.declared.builder.arg.Arg.{Arg}
use Rattle.clap.specs.declared.builder.command.Command.{Command}
use Rattle.clap.specs.declared.builder.command.Command.TheViews.{out-Command}
use Rattle.f3_command_line.specs.Command.{Joins}

left : (a b : Bool) → (a && b) ≡ true → a ≡ true
left true b e = refl
left false b e = absurd cc

right : (a b : Bool) → (a && b) ≡ true → b ≡ true
right true b e = e
right false b e = absurd cc

not_so : (a : Bool) → not a ≡ true → a ≡ false
not_so true e = absurd cc
not_so false e = refl

-- an argument of a simple rule is not global
is_local : (a : Arg) → is_simple_arg a ≡ true → a.global ≡ false
is_local a e =
    let ifs = right (is_empty a.overrides.items) _ e in
    let groups = right (is_empty a.default_vals_ifs.items) _ ifs in
    let delimiter = right (is_empty a.groups.items) _ groups in
    let terminator = right (not (is_some a.val_delim)) _ delimiter in
    let hyphen = right (not (is_some a.terminator)) _ terminator in
    let negative = right (not a.allow_hyphen_values) _ hyphen in
    let equals = right (not a.allow_negative_numbers) _ negative in
    let last = right (not a.require_equals) _ equals in
    not_so a.global (right (not a.last) _ last)

-- no argument of a plain command is
pub has_no_globals : (c : Command) → has_plain_fields (out-Command c) ≡ true → (out-Command c).has_globals ≡ false
has_no_globals c e =
    let external = right (is_empty (out-Command c).groups.items) _ e in
    let globals = right (not (out-Command c).allow_external_subcommands) _ external in
    not_so (out-Command c).has_globals (left (not (out-Command c).has_globals) _ globals)

-- one argument more
pub with_one : (old : Command) (a : Arg) (new : Command) (app : App) (rule : Rule) → AddsArg old a new → app_of old ≡ app → rule_of a ≡ rule → rule.is_simple ≡ true
    → app_of new ≡ with_rule app rule
with_one old a new app rule adds is ruled simple = adds.shape (is_local a (ap (λ (r : Rule). r.is_simple) ruled ∙ simple)) ∙ ap₂ with_rule is ruled

-- one subcommand more
pub joins_so : (old sub new : Command) → AddsSubcommand old sub new → Joins (app_of old) (Ok sub) new
joins_so old sub new adds plain = adds.shape (has_no_globals sub plain)

pub joined : (app sub : App) (r : Result Command AllocError) (old new : Command) → Joins (app_of old) r new → app_of old ≡ app → IfOk r (λ c. app_of c ≡ sub) → sub.top.is_plain ≡ true
    → app_of new ≡ with_subcommand app sub.top
joined app sub (Ok c) old new joins is subbed plain =
    let shape : shape_of c ≡ sub.top = ap (λ (a : App). a.top) subbed in
    joins (ap (λ (s : Shape). s.is_plain) shape ∙ plain) ∙ ap₂ with_subcommand is shape
joined app sub (Err e) old new joins is subbed plain = absurd joins
