-- What a page of headers says of an image: its kind, where its parts lie, and which of them is the GOT.
use Rattle.std.specs.Prelude.{◌+◌, ◌-◌, ℕ, List, Option, length, map, slice_index_or}
use Rattle.image_rules.specs.declared.places.FileKind.{FileKind}
use Rattle.image_file.specs.declared.part.PartClass.TheVariants.{ReadOnly}
use Rattle.image_file.specs.declared.part.TlsPart.{TlsPart}
use Rattle.image_file.specs.Spelled.{Part, Spelled}
use Rattle.image_writer.specs.declared.outline.PartPlace.{PartPlace}
use Rattle.image_writer.specs.declared.outline.Outline.{Outline}

pub record Outlined : Type 0 where
  pub kind : FileKind
  pub parts : List PartPlace
  pub array_size : ℕ
  pub got : Option ℕ
  pub tls : Option TlsPart

-- what code holds, without the loan
abbrev pub outlined : Outline → Outlined
outlined o = record {
  kind = o.kind;
  parts = o.parts.now;
  array_size = o.array_size;
  got = o.got;
  tls = o.tls;
}

-- where a part of an image lies
abbrev pub place_of : Part → PartPlace
place_of p = record { class = p.class; address = p.address; size = length p.bytes }

abbrev pub outline_of : Spelled → Outlined
outline_of s = record {
  kind = s.kind;
  parts = map place_of s.parts;
  array_size = s.array_size;
  got = s.got;
  tls = s.tls;
}

-- part i; past the last, one of no bytes
abbrev pub no_part : PartPlace
no_part = record { class = ReadOnly; address = 0; size = 0 }

abbrev pub part : Outlined → ℕ → PartPlace
part o i = slice_index_or o.parts i no_part

-- the last part, which holds the dynamic tables
abbrev pub last_part : Outlined → PartPlace
last_part o = part o (length o.parts - 1)

-- the address after a part
abbrev pub end_of : PartPlace → ℕ
end_of p = p.address + p.size
