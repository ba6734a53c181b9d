use Rattle.std.proofs.Common.{◌∙◌, ◌+◌, ◌++◌, ◌<◌, [], length, map, get_or, refl, sym, ap, subst, append_assoc, arith}
use Rattle.sequence_match.specs.Sites.{HaveSymbols}
use Rattle.commands.proofs.Places.{at_any, row_is}
use Rattle.commands.proofs.SiteLines.{all_left, left, one_less, same_lines}
use Rattle.commands.proofs.site_lines.lines_of.Goals as goal

pub loop-number-init : goal.loop-number-init
loop-number-init c = rw c.new-lines.ensures.items
    (all_left c.args.names.now c.args.image.now.objects c.args.image.now.sites
    (map (λ own. own.items) c.args.choices.now))

pub push_sites-requires-clause-each : goal.push_sites-requires-clause-each
push_sites-requires-clause-each c =
    let n = c.loop-number.number in
    let in_sites : n < length c.args.image.now.sites = omega arith in
    let in_choices : n < length (map (λ own. own.items) c.args.choices.now) = omega arith in
    ap length (c.as_slice-chosen.ensures.value
    ∙ row_is (λ own. own.items) c.args.choices.now
    (map (λ own. own.items) c.args.choices.now) n c.index-choices-number.result refl in_choices c.index-choices-number.is)
    ∙ c.requires.each n
    ∙ sym (ap length (c.as_slice-sites.ensures.value
    ∙ row_is (λ own. own.items) c.sites.result.now c.args.image.now.sites n c.index-sites-number.result c.sites.ensures.sites in_sites c.index-sites-number.is))

pub push_sites-requires-clause-symbols : goal.push_sites-requires-clause-symbols
push_sites-requires-clause-symbols c =
    let n = c.loop-number.number in
    let in_sites : n < length c.args.image.now.sites = omega arith in
    let in_objects : n < length c.args.image.now.objects = omega arith in
    let own = c.as_slice-sites.ensures.value
    ∙ row_is (λ own. own.items) c.sites.result.now c.args.image.now.sites n c.index-sites-number.result c.sites.ensures.sites in_sites c.index-sites-number.is in
    let object = at_any c.args.image.now.objects n c.index-objects-number.result [] in_objects
    (c.index-objects-number.is ∙ ap (λ os. get_or os n c.index-objects-number.result) c.objects.ensures.objects) in
    subst (HaveSymbols c.index-objects-number.result) (sym own)
    (subst (λ b. HaveSymbols b (get_or c.args.image.now.sites n [])) (sym object) (c.requires.symbols n in_objects))

pub loop-number-preserved : goal.loop-number-preserved
loop-number-preserved c =
    let n = c.loop-number.number in
    let names = c.args.names.now in
    let objects = c.args.image.now.objects in
    let sites = c.args.image.now.sites in
    let choices = (map (λ own. own.items) c.args.choices.now) in
    let below : n < length names = omega arith in
    let in_sites : n < length sites = omega arith in
    let in_objects : n < length objects = omega arith in
    let in_choices : n < length choices = omega arith in
    let name = c.as_str.ensures ∙ at_any names n c.index-names-number.result [] below c.index-names-number.is in
    let object = at_any objects n c.index-objects-number.result [] in_objects
    (c.index-objects-number.is ∙ ap (λ os. get_or os n c.index-objects-number.result) c.objects.ensures.objects) in
    let own = c.as_slice-sites.ensures.value
    ∙ row_is (λ own. own.items) c.sites.result.now sites n c.index-sites-number.result c.sites.ensures.sites in_sites c.index-sites-number.is in
    let chosen = c.as_slice-chosen.ensures.value
    ∙ row_is (λ own. own.items) c.args.choices.now choices n c.index-choices-number.result refl in_choices c.index-choices-number.is in
    let rest = left names objects sites choices (n + 1) in
    ap (λ t. t ++ rest) c.in_ok-push_sites.ensures.ok
    ∙ append_assoc c.loop-number.lines.items _ rest
    ∙ ap (λ t. c.loop-number.lines.items ++ t)
    (ap (λ t. t ++ rest) (same_lines _ _ _ _ _ _ _ _ name object own chosen)
    ∙ sym (one_less names objects sites choices n below))
    ∙ c.loop-number.invariant
