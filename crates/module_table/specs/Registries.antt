-- What a registry holds.
use Rattle.std.specs.Prelude.{◌≡◌, ◌-◌, vec_len, vec_capacity}
use Rattle.module_table.specs.declared.registry.Registry.TheInside.{Inside}
use Rattle.module_table.specs.Past.{past}
use Rattle.module_table.specs.History.{History}
use Rattle.module_table.specs.Past.{IsLegal}

abbrev pub history_of : Inside → History
history_of r = record {
  infos = r.infos.items;
  last_offset = r.last_offset;
  events = r.events.items;
  spare = vec_capacity r.events - vec_len r.events;
}

pub record HoldsHistory (r : Inside) : Type 0 where
  pub legal : IsLegal r.infos.items r.last_offset r.events.items
  pub table : r.table ≡ past r.infos.items r.last_offset r.events.items
