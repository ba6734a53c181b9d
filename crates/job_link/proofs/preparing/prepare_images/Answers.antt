use Rattle.std.proofs.Common.{◌∙◌, ◌∷◌, ◌++◌, [], List, length, map, take, sym, ap, subst, arith, rules}
use Rattle.link_core.specs.Faults.{IsLinkFault, Links}
use Rattle.link_needs.specs.Linking.{Linking}
use Rattle.job_link.specs.LinkLaws.{exports_few}
use Rattle.job_link.specs.Linked.{link_in}
use Rattle.job_link.proofs.Exported.{all_link, beside, first_refused, links_more, made_more}
use Rattle.job_link.proofs.preparing.prepare_images.Goals as goal

pub ready_one-requires : goal.ready_one-requires
ready_one-requires g c =
    (search rules, omega (arith, ap length c.requires.startup, exports_few c.args.images.now, c.requires.few))

pub returns-in-Err-clause-refused : goal.returns-in-Err-clause-refused
returns-in-Err-clause-refused g c =
    let images = c.args.images.now in
    let g = c.index-images-number.result in
    let same = beside images c.args.startup.now c.args.relax g c.requires.startup in
    first_refused images c.args.relax c.loop-number.number g c.index-images-number.is c.loop-number-test.true
    c.in-Err.fault c.loop-number.invariant.links
    (subst (λ (l : Linking). IsLinkFault l c.in-Err.fault) same c.in-Err.ensures.fault)

pub loop-number-preserved : goal.loop-number-preserved
loop-number-preserved g c =
    let images = c.args.images.now in
    let relax = c.args.relax in
    let i = c.loop-number.number in
    let g = c.index-images-number.result in
    let same = beside images c.args.startup.now relax g c.requires.startup in
    record {
      ready =
          c.in-Ok-push.ensures.items
          ∙ ap (λ (all : List Linking). all ++ c.in-Ok.ready ∷ []) c.loop-number.invariant.ready
          ∙ ap (λ (last : Linking). map (link_in images relax) (take i images) ++ last ∷ [])
          (c.in-Ok.ensures.ready ∙ same)
          ∙ sym (made_more images relax i g c.index-images-number.is c.loop-number-test.true (link_in images relax));
      links =
          links_more images relax i g c.index-images-number.is c.loop-number-test.true c.loop-number.invariant.links
          (subst (λ (l : Linking). Links l) same c.in-Ok.ensures.links);
    }

pub returns-clause-links : goal.returns-clause-links
returns-clause-links g c =
    all_link c.args.images.now c.args.relax c.loop-number.number c.loop-number-test.false c.loop-number.invariant.links
