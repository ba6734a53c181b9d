use Rattle.std.proofs.Common.{◌-◌, ◌∙◌, length, rules, sym, ap, arith}
use Rattle.tls_relocs.specs.Laid.{zeros}
use Rattle.link_core.specs.Laying.{laid_parts}
use Rattle.link_core.proofs.Laying.{both_length, zeros_behind, zeros_in_front}
use Rattle.link_core.proofs.pieces.+fill_each.Goals as goal

pub fill_each-requires : goal.fill_each-requires
fill_each-requires t c =
    let l = c.args.plan.now in
    let from = c.args.from in
    let h = c.halves_of-halves.result in
    let has = c.halves_of-halves.ensures in
    let all = laid_parts l from c.args.parts.now in
    let long = both_length from h.middle all (laid_parts l from h.front.now) (laid_parts l h.middle h.back.now) has.laid
    has.ends in
    let zero_is = zeros_in_front (h.middle - from) (length all) c.split_at_mut-first.result.0.now c.args.bytes.now
    c.split_at_mut-first.ensures.front c.requires.zero (omega (arith, long.0)) ∙ ap zeros (sym long.1) in
    (search rules, (has.near.0, (has.rise.0, zero_is)))

pub fill_each-requires-2 : goal.fill_each-requires-2
fill_each-requires-2 t c =
    let l = c.args.plan.now in
    let from = c.args.from in
    let h = c.halves_of-halves.result in
    let has = c.halves_of-halves.ensures in
    let all = laid_parts l from c.args.parts.now in
    let behind = laid_parts l h.middle h.back.now in
    let long = both_length from h.middle all (laid_parts l from h.front.now) behind has.laid has.ends in
    let zero_is = zeros_behind (h.middle - from) (length behind)
    (length all) c.split_at_mut-first.result.1.now c.args.bytes.now
    c.split_at_mut-first.ensures.back c.requires.zero long.0 in
    (search rules, (has.near.1, (has.rise.1, zero_is)))
