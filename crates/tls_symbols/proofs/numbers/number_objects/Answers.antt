use Rattle.std.proofs.Common.{◌≡◌, [], length, map, refl, subst, arith}
use Rattle.std.specs.Prelude.{slice_index_or}
use Rattle.std.proofs.lemmas.List.{get_or_read_under}
use Rattle.tls_symbols.specs.Bindings.{object_at}
use Rattle.tls_symbols.specs.Numbers.{AreNumbered}
use Rattle.tls_symbols.proofs.Numbered.{vecs_push, grows_then, numbered_grows}
use Rattle.tls_symbols.proofs.numbers.number_objects.Goals as goal

pub loop-object-preserved : goal.loop-object-preserved
loop-object-preserved c =
    let so_far = c.loop-object.invariant in
    let old = c.loop-object.names.keys in
    let new = c.number_symbols.new.names.keys in
    let grows = c.in_ok-own.ensures.grows in
    let numbers = c.loop-object.numbers.items in
    let objects = c.args.objects.now in
    let n = c.loop-object.object-index in
    let here : c.object-item.result ≡ object_at objects n =
    get_or_read_under objects n (length objects) c.object-item.result
    [] c.object-item.is c.loop-object-test.true refl in (
      omega (arith, c.in_ok-push.ensures.len, so_far.0),
      vecs_push (λ o own. AreNumbered new
          (object_at objects o) own) numbers c.push.new.self.items c.in_ok-own.own n so_far.0 c.in_ok-push.ensures.items
          (λ o less. numbered_grows old new (object_at objects o)
          (slice_index_or (map (λ own. own.items) numbers) o []) grows (so_far.1 o less))
          (subst (λ b. AreNumbered new b c.in_ok-own.own.items) here c.in_ok-own.ensures.numbers),
      grows_then c.args.names.now.keys old new so_far.2 grows,
    )
