-- The symbols of an image are as a loader wants them.
use Rattle.std.proofs.Common.{◌≡◌, ◌<◌, ◌≤◌, ℕ, zero, suc, Bool, true, false, [], get_or, length}
use Rattle.std.proofs.Common.{refl, sym, subst, arith, length-append}
use Rattle.std.proofs.lemmas.List.{length-map}
use Rattle.image_writer.specs.Contents.{null_symbol}
use Rattle.image_writer.specs.Linkable.{IsRightSymbol}
use Rattle.link_needs.specs.Linking.{Linking, layout}
use Rattle.link_tables.specs.Dynamic.{names, runtime_names, runtime_symbols, symbols}
use Rattle.link_needs.specs.Given.{FitsTable, IsGiven}
use Rattle.link_core.specs.Images.{contents}
use Rattle.link_core.proofs.SymbolsInside.{size_told, symbols_right}
use Rattle.link_core.proofs.SymbolsNames.{names_clean}

named_runtime : (uses : Bool) → length (runtime_names uses) ≡ length (runtime_symbols uses)
named_runtime true = refl
named_runtime false = refl

pub named : (l : Linking) → length (names l) ≡ length (symbols l)
unfolding names symbols
named l = simp (length-append, length-map, named_runtime)

pub right_symbols : (l : Linking) → IsGiven l → FitsTable l
    → (k : ℕ) → 0 < k → k ≤ length (symbols l) → IsRightSymbol (contents l) k
unfolding contents
right_symbols l given limits zero above there = absurd (omega arith)
right_symbols l given limits (suc j) above there =
    let right = symbols_right l given limits j null_symbol (omega (arith, there)) in
    let s = get_or (symbols l) j null_symbol in
    record {
      shared = right.shared;
      named = names_clean l j [] (omega (arith, there, named l));
      inside = λ shows is. subst (λ n. s.value ≤ n) (sym (size_told (layout l))) (right.inside shows is);
    }
