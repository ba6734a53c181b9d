use Rattle.std.proofs.Common.{◌≡◌, rules, Some, false, inr, is_some, map, string_bytes, sym}
use Rattle.command_line.specs.declared.tasks.Command.TheVariants.{Plain, Race}
use Rattle.command_line.specs.Words.{asked}
use Rattle.commands.proofs.Asked.{asked_by}
use Rattle.commands.proofs.Completing.{output_completes, usage_completes}
use Rattle.commands.proofs.Shown.{output_shows}
use Rattle.commands.proofs.Words.{asked_late, asked_usage, shows_usage}
use Rattle.commands.proofs.top.tlsld.Goals as goal

pub returns-in-Ok-Plain-clause-files : goal.returns-in-Ok-Plain-clause-files
returns-in-Ok-Plain-clause-files g c =
    let is : asked (map string_bytes c.args.words.now) ≡ Some (Plain c.in-Ok-Plain.task) =
    rw c.in-Ok-Plain.field-0-is at c.in-Ok-Plain.ensures.ok in
    rw is c.tlsld_plain.ensures.files

pub returns-in-Ok-Plain-clause-shows : goal.returns-in-Ok-Plain-clause-shows
returns-in-Ok-Plain-clause-shows g c =
    let is : asked (map string_bytes c.args.words.now) ≡ Some (Plain c.in-Ok-Plain.task) =
    rw c.in-Ok-Plain.field-0-is at c.in-Ok-Plain.ensures.ok in
    rw is c.tlsld_plain.ensures.shows

pub returns-in-Ok-Plain-clause-asked : goal.returns-in-Ok-Plain-clause-asked
returns-in-Ok-Plain-clause-asked g c =
    let is : asked (map string_bytes c.args.words.now) ≡ Some (Plain c.in-Ok-Plain.task) =
    rw c.in-Ok-Plain.field-0-is at c.in-Ok-Plain.ensures.ok in
    rw is c.tlsld_plain.ensures.asked

pub returns-in-Ok-Plain-clause-completes : goal.returns-in-Ok-Plain-clause-completes
returns-in-Ok-Plain-clause-completes g c =
    let is : asked (map string_bytes c.args.words.now) ≡ Some (Plain c.in-Ok-Plain.task) =
    rw c.in-Ok-Plain.field-0-is at c.in-Ok-Plain.ensures.ok in
    rw is c.tlsld_plain.ensures.completes

pub returns-in-Ok-Race-clause-kept : goal.returns-in-Ok-Race-clause-kept
returns-in-Ok-Race-clause-kept g c = inr c.raced-raced.ensures.files

pub returns-in-Ok-Race-clause-files : goal.returns-in-Ok-Race-clause-files
returns-in-Ok-Race-clause-files g c =
    let is : asked (map string_bytes c.args.words.now) ≡ Some (Race c.as_str.result.now c.in-Ok-Race.rewriting) =
    rw (c.in-Ok-Race.field-0-is, sym c.as_str.ensures) at c.in-Ok-Race.ensures.ok in
    rw is c.raced-raced.ensures.files

pub returns-in-Ok-Race-clause-shows : goal.returns-in-Ok-Race-clause-shows
returns-in-Ok-Race-clause-shows g c =
    let is : asked (map string_bytes c.args.words.now) ≡ Some (Race c.as_str.result.now c.in-Ok-Race.rewriting) =
    rw (c.in-Ok-Race.field-0-is, sym c.as_str.ensures) at c.in-Ok-Race.ensures.ok in
    rw is (output_shows (g.S.Store.files c.args.store.now) _
    (Race c.as_str.result.now c.in-Ok-Race.rewriting) c.raced-raced.result _ _ _ _ c.deliver.result
    c.raced-raced.ensures.cause c.raced-raced.ensures.says c.raced-raced.ensures.own c.deliver.ensures.delivered)

pub returns-in-Ok-Race-clause-asked : goal.returns-in-Ok-Race-clause-asked
returns-in-Ok-Race-clause-asked g c =
    let is : asked (map string_bytes c.args.words.now) ≡ Some (Race c.as_str.result.now c.in-Ok-Race.rewriting) =
    rw (c.in-Ok-Race.field-0-is, sym c.as_str.ensures) at c.in-Ok-Race.ensures.ok in
    rw is (asked_by (g.S.Store.files c.args.store.now)
    (Race c.as_str.result.now c.in-Ok-Race.rewriting) c.raced-raced.result
    (g.S.Store.asked c.args.store.now) _ c.deliver.result
    c.raced-raced.ensures.asks c.deliver.ensures.own)

pub returns-in-Ok-Race-clause-completes : goal.returns-in-Ok-Race-clause-completes
returns-in-Ok-Race-clause-completes g c =
    let is : asked (map string_bytes c.args.words.now) ≡ Some (Race c.as_str.result.now c.in-Ok-Race.rewriting) =
    rw (c.in-Ok-Race.field-0-is, sym c.as_str.ensures) at c.in-Ok-Race.ensures.ok in
    rw is (output_completes (g.S.Store.files c.args.store.now) (g.S.Store.files c.args.store.now)
    (Race c.as_str.result.now c.in-Ok-Race.rewriting) c.raced-raced.result _ _ _ _ c.deliver.result
    c.raced-raced.ensures.cause c.raced-raced.ensures.says c.raced-raced.ensures.own c.deliver.ensures.delivered)

pub returns-in-Err-Usage-clause-shows : goal.returns-in-Err-Usage-clause-shows
returns-in-Err-Usage-clause-shows g c =
    let other : is_some (asked (map string_bytes c.args.words.now)) ≡ false = search rules in
    shows_usage (g.S.Store.files c.args.store.now) (g.S.Store.files c.args.store.now)
    (map string_bytes c.args.words.now)
    (g.K.Sink.view c.args.out.now) _ c.say_usage.result other c.say_usage.ensures.shows

pub returns-in-Err-Usage-clause-completes : goal.returns-in-Err-Usage-clause-completes
returns-in-Err-Usage-clause-completes g c =
    let other : is_some (asked (map string_bytes c.args.words.now)) ≡ false = search rules in
    usage_completes (g.S.Store.files c.args.store.now)
    (map string_bytes c.args.words.now) _ _ _ _ c.say_usage.result other

pub returns-in-Err-Usage-clause-asked : goal.returns-in-Err-Usage-clause-asked
returns-in-Err-Usage-clause-asked g c =
    let other : is_some (asked (map string_bytes c.args.words.now)) ≡ false = search rules in
    asked_usage (g.S.Store.files c.args.store.now) (map string_bytes c.args.words.now)
    (g.S.Store.asked c.args.store.now) c.say_usage.result other

pub returns-in-Err-OutOfMemory-clause-asked : goal.returns-in-Err-OutOfMemory-clause-asked
returns-in-Err-OutOfMemory-clause-asked g c =
    asked_late (g.S.Store.files c.args.store.now) (asked (map string_bytes c.args.words.now))
    (g.S.Store.asked c.args.store.now) c.say_no_memory.result c.say_no_memory.ensures.late
