use Rattle.std.proofs.Common.{◌≡◌, ◌≤◌, take}
use Rattle.tls_layout.specs.Places.{end_of}
use Rattle.tls_layout.specs.Passes.{GivesPlacesBelow, KeepsFrom}
use Rattle.tls_layout.proofs.lay_out.lay_out.Given as goal

abbrev pub invariant-loop-index : goal.invariant-loop-index
invariant-loop-index l = record {
  at : l.end ≡ end_of l.class l.from (take l.index l.sections);
  within : l.end ≤ l.limit.end;
  below : GivesPlacesBelow l.index l.class l.from l.sections l.initial.places l.places;
  above : KeepsFrom l.index l.initial.places l.places;
}
