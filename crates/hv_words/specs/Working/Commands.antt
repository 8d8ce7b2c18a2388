-- What clap is told of the commands.
use Rattle.std.specs.Prelude.{ℕ, true, List, Some, codes}
use Rattle.clap.specs.Words.{App, Rule, new_app, new_rule, with_rule}
use Rattle.clap.specs.Simple.{on_top}
use Rattle.clap.specs.declared.builder.action.ArgAction.TheVariants.{Set}

-- an argument
abbrev pub argument : List ℕ → Rule
argument id = record (new_rule id) { required = true }

-- an option that takes a value
abbrev pub option : List ℕ → Rule
option id = record (new_rule id) { long = Some id; action = Some Set }

-- a command that knows neither help nor a version, and whose name isn't among its words
abbrev pub plain_app : List ℕ → App
plain_app name = on_top (λ s. record s {
  no_binary_name = true;
  disable_help_flag = true;
  disable_version_flag = true;
}) (new_app name)

-- a command of one argument, or of two
abbrev pub one_app : List ℕ → App
one_app name = with_rule (plain_app name) (argument (codes "first"))

abbrev pub two_app : List ℕ → App
two_app name = with_rule (one_app name) (argument (codes "second"))

-- a command of a task and a proof, and one with the options of a check besides
abbrev pub two_files : List ℕ → App
two_files name =
    with_rule (with_rule (plain_app name) (argument (codes "task"))) (argument (codes "proof"))

abbrev pub check_app : List ℕ → App
check_app name =
    with_rule (with_rule (two_files name) (option (codes "nodes"))) (option (codes "budget"))
