use Rattle.std.proofs.Common.{arith}
use Rattle.command_line.specs.Rewritings.{is_allowed}
use Rattle.commands.specs.Purposes.{Makes}
use Rattle.commands.proofs.Fetched.{count_is, linked_say, names_image}
use Rattle.commands.proofs.told.told_of_images.Goals as goal

pub prepare_images-requires-clause-few : goal.prepare_images-requires-clause-few
prepare_images-requires-clause-few g c =
    let (bytes, are, small) = c.requires.given in
    let few = c.keeps_limits.ensures.few_images in
    omega (arith, count_is bytes c.args.job.now c.args.images.now are, few)

pub ended-requires-clause-linked : goal.ended-requires-clause-linked
ended-requires-clause-linked g c κs within =
    let (bytes, are, small) = c.requires.given in
    record {
      some = c.keeps_limits.ensures.some_image;
      few = c.keeps_limits.ensures.few_images;
      order = c.requires.order;
      bytes = bytes;
      small = small;
      given = are;
      relax = c.is_allowed.result;
      links = c.in-Ok.ensures.links;
      links_are = c.in-Ok.ensures.ready;
    }

pub link_refusal-requires : goal.link_refusal-requires
link_refusal-requires g c =
    let (bytes, are, small) = c.requires.given in
    names_image c.args.job.now c.args.images.now c.is_allowed.result
    (count_is bytes c.args.job.now c.args.images.now are) c.in-Err.refusal c.in-Err.ensures.refused

pub returns-in-Ok-clause-says : goal.returns-in-Ok-clause-says
returns-in-Ok-clause-says g c =
    linked_say (Makes c.args.course.ending (g.S.Store.files c.args.store.now)
    (g.S.Store.files c.ended.new.store)) c.is_allowed.result
    (is_allowed c.args.course.rewriting) c.is_allowed.ensures c.args.job.now c.args.images.now c.in-Ok.ready.items c.in-Ok.ensures.links
    c.in-Ok.ensures.ready c.ended.result c.ended.ensures.says
