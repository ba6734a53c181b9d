use Rattle.std.proofs.Common.{◌≡◌, true, List, [], refl, sym, ap, subst, ◌∙◌}
use Rattle.std.specs.Prelude.{is_some, map, string_bytes}
use Rattle.std.proofs.lemmas.Result.{IfOk-weaker}
use Rattle.clap.proofs.OnLiterals.{clap_on_literals}
use Rattle.clap.specs.Walk.{Text}
use Rattle.clap.specs.Kinds.{HasKind}
use Rattle.clap.specs.Faults.{fault_of, is_simple_and_free}
use Rattle.clap.specs.Simple.{app_of, is_simple, subcommand_of, subcommand_rows_of}
use Rattle.command_line.specs.CommandSet.{tool_app}
use Rattle.command_line.proofs.Taken.{asked_found, refused_words}
use Rattle.command_line.proofs.words.read_words.Goals as goal

simple : is_simple tool_app ≡ true
unfolding clap_on_literals
simple = refl

free : is_simple_and_free tool_app ≡ true
unfolding clap_on_literals
free = refl

pub returns-in-Ok-clause-ok : goal.returns-in-Ok-clause-ok
returns-in-Ok-clause-ok c =
    let words : List Text = map string_bytes c.args.words.now in
    let app_is : app_of c.in_ok-command.command ≡ tool_app = c.in_ok-command.ensures in
    let none : fault_of tool_app words ≡ [] = ap (λ a. fault_of a words) (sym app_is)
    ∙ c.in-Ok.ensures.kinds (ap is_simple_and_free app_is ∙ free) in
    let found : subcommand_rows_of c.in-Ok.matches ≡ subcommand_of tool_app words =
    (c.in-Ok.ensures.matches (ap is_simple app_is ∙ simple)).1 ∙ ap (λ a. subcommand_of a words) app_is in
    IfOk-weaker c.command_of_matches.result _ _
    (λ command h. asked_found words _ none found ∙ h) c.command_of_matches.ensures.ok

pub returns-in-Ok-clause-taken : goal.returns-in-Ok-clause-taken
returns-in-Ok-clause-taken c =
    let words : List Text = map string_bytes c.args.words.now in
    let app_is : app_of c.in_ok-command.command ≡ tool_app = c.in_ok-command.ensures in
    let none : fault_of tool_app words ≡ [] = ap (λ a. fault_of a words) (sym app_is)
    ∙ c.in-Ok.ensures.kinds (ap is_simple_and_free app_is ∙ free) in
    let found : subcommand_rows_of c.in-Ok.matches ≡ subcommand_of tool_app words =
    (c.in-Ok.ensures.matches (ap is_simple app_is ∙ simple)).1 ∙ ap (λ a. subcommand_of a words) app_is in
    IfOk-weaker c.command_of_matches.result _ _
    (λ command h. ap is_some (asked_found words _ none found ∙ h)) c.command_of_matches.ensures.ok

pub returns-in-Ok-clause-usage : goal.returns-in-Ok-clause-usage
returns-in-Ok-clause-usage c =
    let words : List Text = map string_bytes c.args.words.now in
    let app_is : app_of c.in_ok-command.command ≡ tool_app = c.in_ok-command.ensures in
    let none : fault_of tool_app words ≡ [] = ap (λ a. fault_of a words) (sym app_is)
    ∙ c.in-Ok.ensures.kinds (ap is_simple_and_free app_is ∙ free) in
    let found : subcommand_rows_of c.in-Ok.matches ≡ subcommand_of tool_app words =
    (c.in-Ok.ensures.matches (ap is_simple app_is ∙ simple)).1 ∙ ap (λ a. subcommand_of a words) app_is in
    λ usage. ap is_some (asked_found words _ none found ∙ c.command_of_matches.ensures.usage usage)

pub returns-clause-usage : goal.returns-clause-usage
returns-clause-usage c =
    let words : List Text = map string_bytes c.args.words.now in
    let app_is : app_of c.in_ok-command.command ≡ tool_app = c.in_ok-command.ensures in
    let kinds : HasKind (fault_of tool_app words) c.in-Err.error =
    subst (λ a. HasKind (fault_of a words) c.in-Err.error) app_is
    (c.in-Err.ensures.kinds (ap is_simple_and_free app_is ∙ free)) in
    λ usage. ap is_some (refused_words words c.in-Err.error kinds
    (λ memory. c.in_default.not-OutOfMemory (c.kind.ensures ∙ memory)))
