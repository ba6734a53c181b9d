use Rattle.std.proofs.Common.{◌≡◌, ◌∙◌, ◌+◌, ◌<◌, suc, [], ◌∷◌, length, drop, sym, ap, subst, arith}
use Rattle.std.specs.Prelude.{slice_index, slice_index_or}
use Rattle.std.proofs.Math.Seq.{drop-cons}
use Rattle.std.specs.Option.{option_or}
use Rattle.tls_symbols.specs.Numbers.{export_in, own_numbers, told, IsNumberOf}
use Rattle.tls_symbols.proofs.Told.{export_step, own_is}
use Rattle.tls_symbols.proofs.firsts.note_exports.Goals as goal

pub loop-number-preserved : goal.loop-number-preserved
loop-number-preserved c = λ name.
    (let names = c.args.numbers.now.names.keys in
    let listed = c.args.exports.now in
    let j = c.loop-number.number-index in
    let table = c.loop-number.table in
    let own = own_is c.args.numbers.now.exported.items c.args.index c.index.result.now c.index.ensures c.requires.there in
    let numbers : own_numbers c.args.numbers.now.exported.items c.args.index ≡ c.deref-number-items.result.now = own
    ∙ sym c.deref-number-items.ensures.value in
    let n = slice_index c.deref-number-items.result.now j in
    let below : j < length listed = omega (arith, c.loop-number-test.true, c.requires.listed.len, ap length numbers) in
    let known = c.requires.listed.each j below in
    let is : IsNumberOf names (slice_index_or listed j []) n =
    subst (λ ns. IsNumberOf names (slice_index_or listed j []) (slice_index ns j)) numbers known in
    let len : length table ≡ length names = omega (arith, c.loop-number.auto.table, c.requires.len) in
    let next : suc j ≡ j + 1 = omega arith in
    let here : drop j listed ≡ slice_index_or listed j [] ∷ drop (j + 1) listed = drop-cons listed j [] below
    ∙ ap (λ m. slice_index_or listed j [] ∷ drop m listed) next in
    ap (λ t. option_or (told names t name) (export_in c.args.image name (drop (j + 1) listed))) c.note_image.ensures
    ∙ export_step names table n c.args.image (slice_index_or listed j []) (drop (j + 1) listed) is len name
    ∙ ap (λ xs. option_or (told names table name) (export_in c.args.image name xs)) (sym here)
    ∙ c.loop-number.invariant name)
