use Rattle.std.proofs.Common.{◌≡◌, ◌∙◌, [], length, map, refl, subst, arith}
use Rattle.std.specs.Prelude.{slice_index_or}
use Rattle.std.proofs.lemmas.List.{get_or_read_under, length-map}
use Rattle.elf_records.specs.Symbols.{get_address}
use Rattle.tls_symbols.specs.Numbers.{AreListed}
use Rattle.tls_symbols.proofs.Numbered.{vecs_push, listed_grows}
use Rattle.tls_symbols.proofs.numbers.number_names.Goals as goal

pub loop-exports-preserved : goal.loop-exports-preserved
loop-exports-preserved c =
    let so_far = c.loop-exports.invariant in
    let new = c.number_list.new.names.keys in
    let grows = c.in_ok-own.ensures.grows in
    let exported = c.loop-exports.exported.items in
    let startup = c.args.startup.now in
    let n = c.loop-exports.exports-index in
    let here : c.exports-item.result ≡ slice_index_or startup n [] =
    get_or_read_under startup n (length startup) c.exports-item.result
    [] c.exports-item.is c.loop-exports-test.true refl in (
      grows.keeps get_address 0 so_far.0,
      omega (arith, c.in_ok-push.ensures.len, so_far.1),
      vecs_push (λ k own. AreListed new
          (slice_index_or startup k
          []) own) exported c.push.new.self.items c.in_ok-own.own n so_far.1 c.in_ok-push.ensures.items
          (λ k less. listed_grows c.loop-exports.names.keys new (slice_index_or startup k [])
          (slice_index_or (map (λ own. own.items) exported) k []) grows (so_far.2 k less))
          (subst (λ names. AreListed new names c.in_ok-own.own.items)
          (c.names.ensures.names ∙ here) c.in_ok-own.ensures.numbers),
    )

pub returns-clause-run_time : goal.returns-clause-run_time
returns-clause-run_time c = c.in_ok-symbols.ensures.grows.keeps get_address 0 c.loop-exports.invariant.0

pub returns-clause-exported : goal.returns-clause-exported
returns-clause-exported c =
    let exported = map (λ own. own.items) c.loop-exports.exported.items in
    record {
      len = omega (
        arith,
        length-map c.loop-exports.exported.items (λ own. own.items),
        c.loop-exports.invariant.1,
        c.loop-exports-test.false,
      );
      each = λ k below. listed_grows c.loop-exports.names.keys c.number_objects.new.names.keys
          (slice_index_or c.args.startup.now k []) (slice_index_or exported k []) c.in_ok-symbols.ensures.grows
          (c.loop-exports.invariant.2 k (omega (arith, below, c.loop-exports-test.false)));
    }
