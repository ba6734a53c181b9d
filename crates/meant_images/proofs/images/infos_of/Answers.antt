use Rattle.std.proofs.Common.{◌∙◌, ◌++◌, ◌∷◌, [], List, All, map, take, ap, sym, subst}
use Rattle.std.proofs.lemmas.List.{map_more}
use Rattle.std.proofs.lemmas.List.Elements.{All-push}
use Rattle.module_table.specs.Modules.{IsInfo}
use Rattle.module_table.specs.declared.modules.ImageInfo.{ImageInfo}
use Rattle.whole_meaning.specs.Loads.{info_of}
use Rattle.meant_images.proofs.images.infos_of.Goals as goal

pub loop-own-preserved : goal.loop-own-preserved
loop-own-preserved c =
    let inputs = c.args.inputs.now in
    let i = c.loop-own.own-index in
    let own = c.own-item.result in
    let infos = c.loop-own.infos.items in
    let known = c.info.ensures.value ∙ ap info_of c.own-item.is in (
      c.in_ok-push.ensures.items
          ∙ (ap (λ (xs : List ImageInfo). xs ++ c.info.result ∷ []) c.loop-own.invariant.0
          ∙ (ap (λ z. map info_of (take i inputs) ++ z ∷ []) known
          ∙ sym (map_more info_of inputs i own c.loop-own-test.true))),
      subst (All IsInfo) (sym c.in_ok-push.ensures.items)
          (All-push IsInfo infos c.info.result c.loop-own.invariant.1 c.info.ensures.kept),
    )
