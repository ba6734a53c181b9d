use Rattle.std.proofs.Common.{◌∙◌, ap, cond, Some, rules, subst}
use Rattle.std.proofs.lemmas.Map.Text.{hash_map_updates_str}
use Rattle.std.specs.HashMap.{get_by}
use Rattle.std.specs.Str.{bytes_eq}
use Rattle.job_text.specs.DraftLaws.{IsDraft}
use Rattle.job_text.proofs.DraftLemmas.{draft_with_image}
use Rattle.job_text.proofs.draft.Draft.declare.Goals as goal

pub invariant_of-self-in-Exe-2 : goal.invariant_of-self-in-Exe-2
invariant_of-self-in-Exe-2 c =
    subst (IsDraft c.insert.new.self) (search rules)
    (draft_with_image c.self.inside.names c.insert.new.self c.args.self.now c.args.name.now c.args.image
    (subst (IsDraft c.self.inside.names) c.self.view_is c.self.invariant)
    c.requires.named c.requires.undeclared c.requires.room c.args.image.kind c.requires.program
    (λ q. hash_map_updates_str c.args.name.now c.self.inside.names c.insert.new.self _ c.in_ok-insert.ensures.updates q
    ∙ ap (λ slot. cond (bytes_eq c.args.name.now q) (Some slot)
    (get_by (λ key. bytes_eq q key.now) c.self.inside.names)) c.next_slot-slot.ensures))

pub invariant_of-self-in-Start : goal.invariant_of-self-in-Start
invariant_of-self-in-Start c =
    subst (IsDraft c.insert.new.self) (search rules)
    (draft_with_image c.self.inside.names c.insert.new.self c.args.self.now c.args.name.now c.args.image
    (subst (IsDraft c.self.inside.names) c.self.view_is c.self.invariant)
    c.requires.named c.requires.undeclared c.requires.room c.args.image.kind c.requires.program
    (λ q. hash_map_updates_str c.args.name.now c.self.inside.names c.insert.new.self _ c.in_ok-insert.ensures.updates q
    ∙ ap (λ slot. cond (bytes_eq c.args.name.now q) (Some slot)
    (get_by (λ key. bytes_eq q key.now) c.self.inside.names)) c.next_slot-slot.ensures))

pub invariant_of-self-in-Late : goal.invariant_of-self-in-Late
invariant_of-self-in-Late c =
    subst (IsDraft c.insert.new.self) (search rules)
    (draft_with_image c.self.inside.names c.insert.new.self c.args.self.now c.args.name.now c.args.image
    (subst (IsDraft c.self.inside.names) c.self.view_is c.self.invariant)
    c.requires.named c.requires.undeclared c.requires.room c.args.image.kind c.requires.program
    (λ q. hash_map_updates_str c.args.name.now c.self.inside.names c.insert.new.self _ c.in_ok-insert.ensures.updates q
    ∙ ap (λ slot. cond (bytes_eq c.args.name.now q) (Some slot)
    (get_by (λ key. bytes_eq q key.now) c.self.inside.names)) c.next_slot-slot.ensures))
