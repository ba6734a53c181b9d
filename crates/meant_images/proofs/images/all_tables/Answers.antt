use Rattle.std.proofs.Common.{ℕ, ◌≡◌, ◌∙◌, ◌∷◌, ◌+◌, [], Some, List, length, sym, ap, subst}
use Rattle.std.specs.Prelude.{slice_get}
use Rattle.std.proofs.lemmas.List.{length-append}
use Rattle.std.proofs.lemmas.Option.{slice_get-get_or}
use Rattle.link_needs.specs.Linking.{Linking}
use Rattle.meant_images.specs.Images.{AreTables}
use Rattle.meant_images.specs.declared.images.Tables.{Tables}
use Rattle.meant_images.proofs.Ready.{pushed}
use Rattle.meant_images.proofs.images.all_tables.Goals as goal

pub loop-own-preserved : goal.loop-own-preserved
loop-own-preserved c =
    let images = c.args.images.now in
    let own = c.own-item.result in
    let all = c.loop-own.all.items in
    let t = c.in_ok-tables_of.field-0 in
    let there = slice_get-get_or images c.loop-own.own-index own c.loop-own-test.true ∙ ap Some (sym c.own-item.is) in
    let here = subst (λ n. slice_get images n ≡ Some own) (sym c.loop-own.invariant.count) there in
    record {
      count = ap length c.in_ok-push.ensures.items
          ∙ (length-append all (t ∷ []) ∙ ap (λ n. n + 1) c.loop-own.invariant.count);
      each = subst (λ (items : List Tables). (i : ℕ) (l : Linking) (t : Tables) → slice_get images i ≡ Some l
          → slice_get items i ≡ Some t → AreTables images l t) (sym c.in_ok-push.ensures.items)
          (pushed (AreTables images) images all own t here c.in_ok-tables_of.ensures c.loop-own.invariant.each);
    }
