-- Where a block begins, by where its image's blocks lie.
use Rattle.std.proofs.Common.{◌≡◌, ◌∙◌, refl, sym}
use Rattle.module_table.specs.Past.{module_of}
use Rattle.thread_vector.specs.Addresses.{distance_of}
use Rattle.thread_vector.proofs.Facts.{image_has}
use Rattle.thread_vector.proofs.Starts.{start_none, start_some}
use Rattle.thread_vector.proofs.dtv.Dtv.block_start.Goals as goal

pub returns-in_default : goal.returns-in_default
returns-in_default c = sym
    (start_none c.args.self.now.thread c.args.self.now.images c.args.self.now.past c.args.instance
    (sym c.image_of.ensures ∙ c.in_default.is))

pub distance_of-requires : goal.distance_of-requires
distance_of-requires c =
    (image_has c.args.self.now.past c.args.instance c.in-Some.image (sym c.image_of.ensures ∙ c.in-Some.is)).1

pub returns : goal.returns
returns c =
    let at : distance_of c.args.self.now.images c.in-Some.image (module_of c.args.self.now.past c.in-Some.image)
    ≡ c.distance_of.result =
    sym c.distance_of.ensures in
    rw (
      start_some c.args.self.now.thread c.args.self.now.images c.args.self.now.past c.args.instance c.in-Some.image
          (sym c.image_of.ensures ∙ c.in-Some.is),
      at,
      c.block_place.ensures.value,
      ← c.self.view_is,
    ) refl
