-- What stands around the parts of a draft's image in its file.
use Rattle.std.specs.Prelude.{◌+◌, ◌-◌, ◌≤◌, ℕ, List, [], ◌∷◌, ◌++◌, All, length, replicate}
use Rattle.image_writer.specs.declared.draft.Draft.{Draft}
use Rattle.image_writer.specs.declared.outline.PartPlace.{PartPlace}
use Rattle.image_writer.specs.Outlined.{Outlined}
use Rattle.image_writer.specs.Page.{file_offset, page}
use Rattle.image_writer.specs.Tables.{array_size}
use Rattle.image_writer.specs.Told.{next_page, places_end, tables_at, tables_place, tables_size, told}

-- a file has the bytes of each part
abbrev pub AreInside : Draft → List ℕ → Type 0
AreInside d file = All (λ (p : PartPlace). file_offset d.kind p.address + p.size ≤ length file) d.parts.now

-- the outline of the image: the draft's parts, and that of the tables
abbrev pub outline_told : Draft → Outlined
outline_told d = record {
  kind = d.kind;
  parts = d.parts.now ++ (tables_place (next_page d) (tables_size (told d)) ∷ []);
  array_size = array_size (told d);
  got = d.got;
  tls = d.tls;
}

-- before the parts, the page of headers
abbrev pub front_of : Draft → List ℕ
front_of d = page (outline_told d)

-- behind them, zeros up to the next page, and the tables
abbrev pub back_of : Draft → List ℕ
back_of d = replicate (next_page d - places_end d.kind d.parts.now) 0 ++ tables_at (next_page d) (told d)
