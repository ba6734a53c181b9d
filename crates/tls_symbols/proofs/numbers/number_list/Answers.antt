use Rattle.std.proofs.Common.{◌≡◌, ◌+◌, ◌<◌, ◌++◌, ℕ, List, [], ◌∷◌, map, sym, subst, arith}
use Rattle.std.specs.Prelude.{slice_index, slice_index_or}
use Rattle.std.proofs.lemmas.List.{get_or-map}
use Rattle.tls_symbols.specs.Numbers.{IsNumberOf}
use Rattle.tls_symbols.proofs.Numbered.{each_push, grows_then}
use Rattle.tls_symbols.proofs.numbers.number_list.Goals as goal

pub loop-name-preserved : goal.loop-name-preserved
loop-name-preserved c =
    let so_far = c.loop-name.invariant in
    let old = c.loop-name.names.keys in
    let new = c.number_name.new.names.keys in
    let grows = c.in_ok-number.ensures.grows in
    let numbers = c.loop-name.numbers.items in
    let listed = map (λ name. name.now) c.args.listed.now in
    let pushed : c.push.new.self.items ≡ numbers ++ c.in_ok-number.number ∷ [] = c.in_ok-push.ensures.items in
    let number = c.in_ok-number.ensures.number in
    let P : List ℕ → Type 0 = λ xs. (j : ℕ) → j < c.loop-name.name-index + 1
    → IsNumberOf new (slice_index_or listed j []) (slice_index xs j) in (
      omega (arith, c.in_ok-push.ensures.len, so_far.0),
      subst P (sym pushed)
          (each_push (λ j n. IsNumberOf new
          (slice_index_or listed j []) n) numbers c.in_ok-number.number 0 c.loop-name.name-index so_far.0
          (λ j less. grows.keeps (slice_index_or listed j []) (slice_index numbers j) (so_far.1 j less))
          (subst (λ name. IsNumberOf new name c.in_ok-number.number)
          (sym (get_or-map (λ name. name.now) c.args.listed.now c.loop-name.name-index _
          [] c.loop-name-test.true)) number)),
      grows_then c.args.names.now.keys old new so_far.2 grows,
    )
