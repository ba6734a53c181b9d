use Rattle.std.proofs.Common.{◌≡◌, map}
use Rattle.std.specs.List.{flat_map}
use Rattle.link_needs.proofs.needs.joined.Given as goal

-- those of the objects so far
abbrev pub invariant-loop-own : goal.invariant-loop-own
invariant-loop-own l = record {
  sites_are : l.needs.items ≡ flat_map (λ own. own.sites.items) l.yielded;
  fields_are : l.fields.items ≡ flat_map (λ own. own.fields.items) l.yielded;
  absolutes_are : l.absolutes.items ≡ flat_map (λ own. own.absolutes.items) l.yielded;
  choices_are : map (λ own. own.items) l.choices.items ≡ map (λ own. own.choices.items) l.yielded;
}
