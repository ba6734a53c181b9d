-- What contracts see of a table that is laid out.
use Rattle.std.specs.Prelude.{◌++◌, ℕ, Bool, List, [], ◌∷◌, if◌then◌else◌}
use Rattle.std.specs.List.{list_any}
use Rattle.link_faults.specs.declared.image_kind.ImageKind.{ImageKind}
use Rattle.got_pairs.specs.declared.need.Need.{Need}
use Rattle.got_pairs.specs.Needs.{same_need}

-- the image's kind, how far below the thread pointer the program's block begins, and the need for each entry
pub record Table : Type 0 where
  pub kind : ImageKind
  pub block_offset : ℕ
  pub entries : List Need

-- whether one of these needs equals the need
abbrev pub is_among : List Need → Need → Bool
is_among needs need = list_any (same_need need) needs

-- these entries, and one for the need, unless one of them serves it
abbrev pub with_need : List Need → Need → List Need
with_need entries need = if is_among entries need then entries else entries ++ need ∷ []

abbrev pub with_needs : List Need → List Need → List Need
with_needs entries [] = entries
with_needs entries (need ∷ needs) = with_needs (with_need entries need) needs
