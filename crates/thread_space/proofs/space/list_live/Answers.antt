-- Image by image.
use Rattle.std.proofs.Common.{◌≡◌, ◌∙◌, Some, None, arith, sym}
use Rattle.thread_space.proofs.Listing.{all_from, listed_all, listed_none, listed_one}
use Rattle.thread_vector.specs.Vectors.{instance_at}
use Rattle.thread_space.proofs.space.list_live.Goals.{in-Some, in_default}
use Rattle.thread_space.proofs.space.list_live.Goals as goal

pub loop-image-init : goal.loop-image-init
loop-image-init c = (
  rw c.requires.empty (all_from c.args.dtv.now.images c.args.dtv.now.past),
  omega (arith, c.requires.none),
  c.requires.enough,
)

pub loop-image-preserved : goal.loop-image-preserved
loop-image-preserved c = elim c.match-instance.branch [
  | in-Some w ↦
      let is : instance_at c.args.dtv.now.images c.args.dtv.now.past c.loop-image.image ≡ Some w.in-Some.instance =
      sym c.instance.ensures ∙ w.in-Some.is in
      rw (w.live-is, w.push_reserved.ensures.items, w.push_reserved.ensures.len, w.push_reserved.ensures.capacity) (
        listed_one c.args.dtv.now.images c.args.dtv.now.past c.loop-image.image c.loop-image.live.items w.in-Some.instance c.loop-image.invariant.0 is,
        omega (arith, c.loop-image.invariant.1),
        c.loop-image.invariant.2,
      )
  | in_default w ↦
      let none : instance_at c.args.dtv.now.images c.args.dtv.now.past c.loop-image.image ≡ None =
      sym c.instance.ensures ∙ w.in_default.is in
      rw w.live-is (
        listed_none c.args.dtv.now.images c.args.dtv.now.past c.loop-image.image c.loop-image.live.items c.loop-image.invariant.0 none,
        omega (arith, c.loop-image.invariant.1),
        c.loop-image.invariant.2,
      )
]

pub returns : goal.returns
returns c =
    listed_all c.args.dtv.now.images c.args.dtv.now.past c.loop-image.image c.loop-image.live.items c.history_is_lawful.ensures
    c.loop-image.invariant.0 c.loop-image-test.false
