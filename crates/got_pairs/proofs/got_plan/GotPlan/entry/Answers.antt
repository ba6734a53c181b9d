use Rattle.std.proofs.Common.{◌∙◌, ap, Some}
use Rattle.std.specs.Prelude.{slice_get}
use Rattle.std.specs.Option.{option_map}
use Rattle.got_pairs.specs.Entries.{entry_of}
use Rattle.got_pairs.proofs.Starts.{key_at}
use Rattle.got_pairs.proofs.got_plan.GotPlan.entry.Goals as goal

pub returns-in-Some : goal.returns-in-Some
returns-in-Some c =
    let es = c.self.inside.starts.entries in
    ap (λ e. Some e) c.entry_of.ensures.row
    ∙ ap (option_map (λ p. entry_of c.self.inside.kind c.self.inside.block_offset p.0)) c.in-Some.ensures.entry
    ∙ key_at (entry_of c.self.inside.kind c.self.inside.block_offset) es c.args.number
    ∙ ap (λ t. option_map (entry_of t.kind t.block_offset) (slice_get t.entries c.args.number)) c.self.view_is

pub returns-in-None : goal.returns-in-None
returns-in-None c =
    let es = c.self.inside.starts.entries in
    ap (option_map (λ p. entry_of c.self.inside.kind c.self.inside.block_offset p.0)) c.in-None.ensures.entry
    ∙ key_at (entry_of c.self.inside.kind c.self.inside.block_offset) es c.args.number
    ∙ ap (λ t. option_map (entry_of t.kind t.block_offset) (slice_get t.entries c.args.number)) c.self.view_is
