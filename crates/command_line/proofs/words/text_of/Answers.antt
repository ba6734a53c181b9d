use Rattle.std.proofs.Common.{ℕ, List, Bor, ap, ◌∙◌}
use Rattle.clap.specs.Matches.{found_of}
use Rattle.command_line.proofs.Taken.{text_read}
use Rattle.command_line.proofs.words.text_of.Goals as goal

pub returns : goal.returns
returns c =
    ap (λ (text : Bor (List ℕ)). text.now) c.unwrap_or.ensures
    ∙ text_read (found_of c.args.matches.now) c.args.id.now c.get_str.result _ c.get_str.ensures
