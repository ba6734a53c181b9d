-- No event is legal, and leaves the start.
use Rattle.std.proofs.Common.{List, ◌∙◌, subst, refl, sym, ap}
use Rattle.module_table.specs.declared.modules.ImageInfo.{ImageInfo}
use Rattle.module_table.specs.declared.events.Event.{Event}
use Rattle.module_table.specs.Modules.{AreInfos}
use Rattle.module_table.specs.Past.{past, start, is_legal}
use Rattle.module_table.specs.Past.{IsLegal}
use Rattle.module_table.proofs.registry.Registry.new.Goals as goal

pub invariant_of-result : goal.invariant_of-result
unfolding past is_legal
invariant_of-result c = record {
  legal = subst (λ (events : List Event). IsLegal c.in_ok-from_slice.field-0.items c.args.last_offset events)
      (sym c.new.ensures.items)
      (record {
        images = subst AreInfos (sym c.in_ok-from_slice.ensures.items) c.requires.infos;
        low = c.requires.low;
        each = refl;
      });
  table = c.in_ok-new.ensures
      ∙ ap (λ (infos : List ImageInfo). start infos c.args.last_offset) (sym c.in_ok-from_slice.ensures.items)
      ∙ ap (λ (events : List Event). past c.in_ok-from_slice.field-0.items c.args.last_offset events)
      (sym c.new.ensures.items);
}
