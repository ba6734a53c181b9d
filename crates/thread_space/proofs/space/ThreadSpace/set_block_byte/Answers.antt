-- The byte lies in the block.
use Rattle.std.proofs.Common.{◌≡◌, ◌∙◌, ◌-◌, ℕ, List, set, Some, ap, sym, subst}
use Rattle.std.specs.Prelude.{is_some}
use Rattle.std.proofs.lemmas.List.{length-set}
use Rattle.std.proofs.lemmas.Option.{same_Some}
use Rattle.thread_blocks.specs.Instances.{block_start}
use Rattle.thread_space.specs.Kept.{Kept}
use Rattle.thread_space.proofs.OwnBytes.{behind_is, block_begins, block_has, block_is_held}
use Rattle.thread_space.proofs.space.ThreadSpace.set_block_byte.Goals as goal
use Rattle.thread_vector.specs.Places.{Writes, with_block}
use Rattle.thread_vector.specs.Vectors.{Vector, held}

pub block_mut-block-requires : goal.block_mut-block-requires
block_mut-block-requires c =
    ap (λ (k : Kept). is_some (held k.vector c.args.instance.now.number)) c.self.view_is
    ∙ block_is_held c.args.self.now.vector c.args.instance.now c.args.place c.requires

here : (c : goal.After-block_mut-block)
    → held c.args.self.now.vector c.args.instance.now.number ≡ Some c.block_mut-block.result.now
here c = ap (λ (k : Kept). held k.vector c.args.instance.now.number) (sym c.self.view_is)
    ∙ c.block_mut-block.ensures.value

pub bounds-block-at : goal.bounds-block-at
bounds-block-at c =
    block_has c.args.self.now.vector c.args.instance.now c.args.place c.block_mut-block.result.now c.in-Some.at c.requires (here c)
    (sym c.behind_block.ensures ∙ c.in-Some.is)

pub returns-in-Some : goal.returns-in-Some
returns-in-Some c =
    let at : c.in-Some.at ≡ c.args.place - block_start c.args.self.now.vector.thread c.args.instance.now =
    behind_is (block_start c.args.self.now.vector.thread c.args.instance.now) c.args.place c.in-Some.at
    (sym c.behind_block.ensures ∙ c.in-Some.is)
    in
    record {
      leaves = record {
        thread = ap (λ (k : Kept). k.vector.thread) c.self.view_is;
        images = ap (λ (k : Kept). k.vector.images) c.self.view_is;
        past = ap (λ (k : Kept). k.vector.past) c.self.view_is;
      };
      block = λ bytes is.
          let number = c.args.instance.now.number in
          let held_here : held c.args.self.now.vector number ≡ Some c.block_mut-block.result.now =
          ap (λ (k : Kept). held k.vector number) (sym c.self.view_is) ∙ c.block_mut-block.ensures.value
          in
          let same : c.block_mut-block.result.now ≡ bytes = same_Some _ _ (sym held_here ∙ is) in
          let new : Vector = with_block c.self.inside.dtv number
          (set c.block_mut-block.result.now c.in-Some.at c.args.byte) in
          let writes = c.block_mut-block.ensures.writes (set c.block_mut-block.result.now c.in-Some.at c.args.byte)
          (length-set c.block_mut-block.result.now c.in-Some.at c.args.byte)
          in
          subst (λ (bs : List ℕ). Writes c.args.self.now.vector number
          (set bs (c.args.place - block_start c.args.self.now.vector.thread c.args.instance.now) c.args.byte) new) same
          (subst (λ (i : ℕ). Writes c.args.self.now.vector number
          (set c.block_mut-block.result.now i c.args.byte) new) at
          (subst (λ (k : Kept). Writes k.vector number
          (set c.block_mut-block.result.now c.in-Some.at c.args.byte) new) c.self.view_is writes));
      pieces = ap (λ (k : Kept). k.pieces) c.self.view_is;
      stack = ap (λ (k : Kept). k.stack) c.self.view_is;
    }

pub returns-in_default : goal.returns-in_default
returns-in_default c =
    absurd (block_begins c.args.self.now.vector c.args.instance.now c.args.place c.requires
    (sym c.behind_block.ensures ∙ c.in_default.is))
