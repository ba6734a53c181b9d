use Rattle.std.proofs.Common.{rules, ◌≡◌, None}
use Rattle.std.proofs.lemmas.Map.Text.{hash_map_updates_str}
use Rattle.loaded_modules.specs.Exported.{found}
use Rattle.loaded_modules.proofs.Sharing.{added}
use Rattle.loaded_modules.proofs.exports.Exports.add.Goals as goal

pub returns-in_ok-insert : goal.returns-in_ok-insert
returns-in_ok-insert c =
    let none : found c.args.self.now.by_name c.args.name.now ≡ None = search rules in
    added (found c.args.self.now.by_name) (found c.insert.new.self) c.args.name.now c.args.export
    (λ q. hash_map_updates_str c.args.name.now c.args.self.now.by_name c.insert.new.self _ c.in_ok-insert.ensures.updates q) none
