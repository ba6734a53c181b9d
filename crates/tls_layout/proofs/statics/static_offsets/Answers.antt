use Rattle.std.proofs.Common.{◌+◌, refl, ap, ◌∙◌, arith}
use Rattle.std.proofs.lemmas.List.{length_push}
use Rattle.tls_layout.specs.Statics.{tls_offset}
use Rattle.tls_layout.proofs.Rounds.{tls_offset-more, tls_offset_small, numbers_more}
use Rattle.tls_layout.proofs.statics.static_offsets.Goals as goal

pub loop-tls-init : goal.loop-tls-init
unfolding tls_offset
loop-tls-init c = record {
  len = rw c.new-offsets.ensures.items refl;
  last = refl;
  small = omega arith;
  so_far = λ m h. absurd (omega arith);
}

pub loop-tls-preserved : goal.loop-tls-preserved
loop-tls-preserved c =
    let last = tls_offset-more _ _ _ _ _ c.loop-tls-test.true c.loop-tls.invariant.last c.round_up-last.ensures.place in
    record {
      len = rw c.in_ok-push.ensures.items (length_push _ _ ∙ ap (λ n. n + 1) c.loop-tls.invariant.len);
      last = last;
      small = tls_offset_small _ _ _ _ _ c.loop-tls-test.true c.requires.ordinary c.loop-tls.invariant.small c.round_up-last.ensures.near;
      so_far = rw c.in_ok-push.ensures.items
          (numbers_more _ _ _ (λ m. tls_offset c.args.sizes.now
          (m + 1)) c.loop-tls.invariant.len c.loop-tls.invariant.so_far last);
    }
