-- When a page of headers can describe an image: what holds of the parts, the GOT and the TLS segment (gABI, "Program
-- Header"; "ELF Handling For Thread-Local Storage", "Program Headers").
use Rattle.std.specs.Prelude.{◌≡◌, ◌+◌, ◌-◌, ◌%◌, ◌^◌, ◌<◌, ◌≤◌, ◌⊎◌, ℕ, Bool, Option, Some, None, length}
use Rattle.std.specs.Prelude.{IfSome, is_some, if◌then◌else◌}
use Rattle.image_faults.specs.Counts.{how_many, behind_last}
use Rattle.image_faults.specs.Segments.{IsAlignment}
use Rattle.image_file.specs.declared.part.PartClass.TheVariants.{ReadOnly}
use Rattle.image_file.specs.Spelled.{is_writable}
use Rattle.image_file.specs.declared.part.TlsPart.{TlsPart}
use Rattle.image_writer.specs.Outlined.{Outlined, end_of, last_part, part}
use Rattle.image_writer.specs.Page.{base_of}

-- part i may be written
abbrev pub is_written : Outlined → ℕ → Bool
is_written o i = is_writable (part o i).class

-- part i has bytes, begins at a page, after the part before it, and lies in the range of the image
pub record IsRightPart (o : Outlined) (i : ℕ) : Type 0 where
  pub filled : 0 < (part o i).size
  pub paged : (part o i).address % 4096 ≡ 0
  pub above : base_of o.kind ≤ (part o i).address
  pub below : end_of (part o i) ≤ base_of o.kind + 2 ^ 26
  pub rising : (i ≡ 0) ⊎ (end_of (part o (i - 1)) ≤ (part o i).address)

-- part i is constant, is not the last, and holds the initial image of the TLS segment
abbrev pub HoldsInitial : Outlined → TlsPart → ℕ → Type 0
HoldsInitial o t i =
    (i + 1 < length o.parts) × ((part o i).class ≡ ReadOnly) × ((part o i).address ≡ t.address)
    × ((part o i).size ≡ t.initial)

-- the TLS segment
pub record IsRightTlsPart (o : Outlined) (t : TlsPart) : Type 0 where
  pub placed : base_of o.kind ≤ t.address + 4096
  pub initial_in : t.initial ≤ t.size
  pub filled : 0 < t.size
  pub small : t.size ≤ 2 ^ 20
  pub alignment : IsAlignment t.alignment
  pub aligned : t.address % t.alignment ≡ 0
  pub held : (t.initial ≡ 0) ⊎ ((i : ℕ) × HoldsInitial o t i)

-- how many headers an optional part takes
abbrev pub one_if_some : {X : Type 0} → Option X → ℕ
one_if_some None = 0
one_if_some (Some x) = 1

-- the image
pub record IsLoadable (o : Outlined) : Type 0 where
  pub some : 0 < length o.parts
  pub few : length o.parts + 1 + one_if_some o.tls + one_if_some o.got ≤ 10
  pub parts : (i : ℕ) → i < length o.parts → IsRightPart o i
  pub few_written : how_many (is_written o) (length o.parts) ≤ (if is_some o.got then 2 else 1)
  pub got_is : (g : ℕ) → o.got ≡ Some g → behind_last (is_written o) (length o.parts) ≡ g + 1
  pub last_constant : (last_part o).class ≡ ReadOnly
  pub array_in : o.array_size ≤ (last_part o).size
  pub tls_is : IfSome o.tls (IsRightTlsPart o)

-- the TLS segment begins no further than the last part ends; with an empty initial image it might, and the
-- file would end before it
abbrev pub HoldsTls : Outlined → Type 0
HoldsTls o = IfSome o.tls (λ t. t.address ≤ end_of (last_part o))
