use Rattle.std.proofs.Common.{◌≡◌, ◌+◌, ◌∙◌, length, map, ap, sym, arith}
use Rattle.std.specs.List.{range_with_len}
use Rattle.std.proofs.lemmas.List.FromFn.{map-range_with_len_more}
use Rattle.module_data.specs.Pieces.{first_data, first_piece}
use Rattle.module_data.proofs.data.Data.new.Goals as goal

pub loop-number-preserved : goal.loop-number-preserved
loop-number-preserved c =
    let number = c.loop-number.number in
    rw (c.in_ok-push.ensures.items, c.in_ok-first_piece.ensures, c.loop-number.invariant)
    (sym (map-range_with_len_more (first_piece c.args.modules.now) 0 number number (omega arith)))

pub returns : goal.returns
unfolding first_data
returns c =
    let all : c.loop-number.number ≡ length c.args.modules.now.images + 1 =
    omega (arith, c.loop-number.auto.number-end, c.loop-number-test.false, c.image_count-number-end.ensures.value) in
    c.loop-number.invariant ∙ ap (λ n. map (first_piece c.args.modules.now) (range_with_len 0 n)) all
