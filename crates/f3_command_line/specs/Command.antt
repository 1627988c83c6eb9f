-- The command line of f3, as clap reads it.
use Rattle.std.specs.Prelude.{◌≡◌, ◌∷◌, [], Some, Result, Ok, Err, true, codes}
use Rattle.std.specs.declared.alloc.AllocError.{AllocError}
use Rattle.clap.specs.Lexer.{usize_max}
use Rattle.clap.specs.Walk.{Rule}
use Rattle.clap.specs.Simple.{App, app_of, new_app, new_rule, on_top, shape_of, with_rule, with_subcommand}
use Rattle.clap.specs.declared.builder.action.ArgAction.TheVariants.{Set, Append}
use Rattle.clap.specs.declared.builder.command.Command.{Command}
use Rattle.clap.specs.declared.builder.value_parser.ValueParser.TheVariants.{Unsigned}

-- FILE...
abbrev pub files_rule : Rule
files_rule = record (new_rule (codes "FILE")) {
  required = true;
  range = Some (record { start_inclusive = 1; end_inclusive = usize_max });
  action = Some Append;
}

-- [--steps N], at most 1,000,000,000,000
abbrev pub steps_rule : Rule
steps_rule = record (new_rule (codes "steps")) {
  long = Some (codes "steps");
  value_names = 1;
  parser = Some (Unsigned 0 1000000000000);
  defaults = codes "100000000" ∷ [];
  action = Some Set;
}

-- [--heap WORDS], at most 134,217,728
abbrev pub heap_rule : Rule
heap_rule = record (new_rule (codes "heap")) {
  long = Some (codes "heap");
  value_names = 1;
  parser = Some (Unsigned 0 134217728);
  defaults = codes "1048576" ∷ [];
  action = Some Set;
}

-- f3 check FILE...
abbrev pub check_app : App
check_app = with_rule (new_app (codes "check")) files_rule

-- f3 run [--steps N] [--heap WORDS] FILE...
abbrev pub run_app : App
run_app = with_rule (with_rule (with_rule (new_app (codes "run")) steps_rule) heap_rule) files_rule

-- f3 names FILE...
abbrev pub names_app : App
names_app = with_rule (new_app (codes "names")) files_rule

-- f3 code FILE...
abbrev pub code_app : App
code_app = with_rule (new_app (codes "code")) files_rule

-- f3 with its version, and one of these subcommands
abbrev pub bare_app : App
bare_app = on_top (λ s. record s { has_version = true; subcommand_required = true }) (new_app (codes "f3"))

abbrev pub f3_app : App
f3_app = with_subcommand (with_subcommand (with_subcommand (with_subcommand bare_app check_app.top) run_app.top) names_app.top) code_app.top

-- a command of this kind with this subcommand, where there is one
abbrev pub Joins : App → Result Command AllocError → Command → Type 0
Joins app (Ok subcommand) command = (shape_of subcommand).is_plain ≡ true → app_of command ≡ with_subcommand app (shape_of subcommand)
Joins app (Err refused) command = ⊥
