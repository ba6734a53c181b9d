use Rattle.std.proofs.Common.{◌∙◌, ◌≤◌, ap, arith, length, subst, sym}
use Rattle.std.specs.List.{position_or_len}
use Rattle.job_link.specs.Mentions.{bytes_in}
use Rattle.job_link.proofs.Held.{content_at, content_of, found, is_name, no_content, no_place, place_is}
use Rattle.job_link.proofs.fetching.Files.file.Goals as goal

pub returns-in-Some : goal.returns-in-Some
returns-in-Some c =
    let names = c.self.inside.names.keys in
    let files = c.self.inside.files.items in
    let name = c.args.name.now in
    let at = place_is (position_or_len (is_name name) names) (length names) c.in-Some.place c.in-Some.ensures.index in
    c.as_slice.ensures.value
    ∙ content_at files c.in-Some.place c.index.result.now (omega (arith, at.0, at.1, c.self.invariant)) c.index.ensures
    ∙ ap (content_of files) at.0
    ∙ sym (found name names files c.self.invariant)
    ∙ ap (λ all. bytes_in all name) c.self.view_is

pub returns-in-None : goal.returns-in-None
returns-in-None c =
    let names = c.self.inside.names.keys in
    let files = c.self.inside.files.items in
    let name = c.args.name.now in
    let place = position_or_len (is_name name) names in
    let past = no_place place (length names) c.in-None.ensures.index in
    sym (no_content files place (subst (λ n. n ≤ place) (sym c.self.invariant) past))
    ∙ sym (found name names files c.self.invariant)
    ∙ ap (λ all. bytes_in all name) c.self.view_is
