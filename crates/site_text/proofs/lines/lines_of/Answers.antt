use Rattle.std.proofs.Common.{rules}
use Rattle.std.proofs.lemmas.Slice.Zip.{zip_end, zip_turn}
use Rattle.site_text.specs.Lines.{site_line}
use Rattle.site_text.proofs.LineLemmas.{all_pairs, one_more}
use Rattle.site_text.proofs.lines.lines_of.Goals as goal

pub loop-site-preserved : goal.loop-site-preserved
loop-site-preserved c =
    let turn = zip_turn c.args.sites.now c.args.choices.now c.loop-site.yielded c.into_iter-site-iterator.result c.loop-site.site-iterator c.next.new.self c.next.result
    (search rules) (search rules) c.loop-site.yielded_by _ c.in-Some.is c.next.ensures.steps in
    one_more (λ site. site_line c.args.name.now c.args.object.now site.0 site.1) c.args.sites.now c.args.choices.now c.loop-site.yielded _ c.in-Some.site.now
    c.in-Some.choice.now _ _ turn.0 turn.1 (turn.2 _) (turn.3 _) c.in_ok-push_site.ensures.ok c.loop-site.invariant

pub returns : goal.returns
returns c =
    let end = zip_end c.args.sites.now c.args.choices.now c.loop-site.yielded c.into_iter-site-iterator.result c.loop-site.site-iterator c.next.new.self c.next.result
    (search rules) (search rules) c.loop-site.yielded_by c.in-None.is c.next.ensures.steps in
    all_pairs (λ site. site_line c.args.name.now c.args.object.now site.0 site.1) c.args.sites.now c.args.choices.now _ _ end c.loop-site.invariant
