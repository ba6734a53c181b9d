use Rattle.std.proofs.Common.{◌≡◌, ◌+◌, ◌<◌, ◌++◌, ℕ, List, [], ◌∷◌, sym, subst, arith}
use Rattle.std.specs.Prelude.{slice_index_or}
use Rattle.tls_symbols.specs.declared.numbers.KnownSymbol.{KnownSymbol}
use Rattle.tls_symbols.specs.Numbers.{IsNumbered}
use Rattle.tls_symbols.proofs.Numbered.{each_push, grows_then, known_grows}
use Rattle.tls_symbols.proofs.numbers.number_symbols.Goals as goal

pub loop-symbol-preserved : goal.loop-symbol-preserved
loop-symbol-preserved c =
    let b = c.args.object.now in
    let so_far = c.loop-symbol.invariant in
    let old = c.loop-symbol.names.keys in
    let new = c.know_symbol.new.names.keys in
    let grows = c.in_ok-known.ensures.grows in
    let numbers = c.loop-symbol.numbers.items in
    let pushed : c.push.new.self.items ≡ numbers ++ c.in_ok-known.known ∷ [] = c.in_ok-push.ensures.items in
    let P : List KnownSymbol → Type 0 = λ xs. (e : ℕ) (d : KnownSymbol) → e < c.loop-symbol.symbol + 1
    → IsNumbered new b e (slice_index_or xs e d) in (
      omega (arith, c.in_ok-push.ensures.len, so_far.0),
      subst P (sym pushed)
          (λ e d. each_push (λ e n. IsNumbered new b e n) numbers c.in_ok-known.known d c.loop-symbol.symbol so_far.0
          (λ e less. known_grows old new b e (slice_index_or numbers e d) grows
          (so_far.1 e d less)) c.in_ok-known.ensures.known e),
      grows_then c.args.names.now.keys old new so_far.2 grows,
    )
