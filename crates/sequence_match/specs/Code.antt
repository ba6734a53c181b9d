-- What matching uses of the code of one section: its relocations by their places, and which
-- symbols are `__tls_get_addr`.
use Rattle.std.specs.Prelude.{◌≡◌, ◌+◌, ◌-◌, ◌*◌, ◌⊎◌, ◌<◌, ◌≤◌, ◌^◌, ℕ, Bool, false, List, length, Option, Some, None}
use Rattle.std.specs.Prelude.{IsTrue, IfSome, slice_index, slice_index_or}
use Rattle.std.specs.List.{All, AllPairs, AllWithin, Contains, slice_get}
use Rattle.std.specs.List.Sorted.{IsNonDecreasingBy}
use Rattle.elf_records.specs.declared.relocation.RelocationKind.{RelocationKind}
use Rattle.elf_records.specs.declared.relocation_row.FieldForm.{FieldForm}
use Rattle.elf_records.specs.declared.relocation_row.FieldForm.TheVariants.{NoField}
use Rattle.elf_records.specs.declared.relocation_row.SequencePart.{SequencePart}
use Rattle.elf_records.specs.declared.relocation_row.SequencePart.TheVariants.{First}
use Rattle.elf_records.specs.RelocationRows.{row as kind_row}
use Rattle.elf_object.specs.declared.relocation.Relocation.{Relocation}
use Rattle.elf_object.specs.Relocations.{field_width}
use Rattle.sequence_match.specs.declared.index.Span.{Span}
use Rattle.sequence_match.specs.declared.index.Reach.{Reach}
use Rattle.sequence_match.specs.declared.index.Reach.TheVariants.{OfField, OfCall}
use Rattle.sequence_match.specs.declared.matching.Code.{Code}
use Rattle.sequence_match.specs.declared.matching.Indexes.{Indexes}
use Rattle.sequence_forms.specs.declared.forms.Cell.{Cell}
use Rattle.sequence_forms.specs.declared.forms.Form.{Form}
use Rattle.sequence_forms.specs.declared.forms.Second.{Second}
use Rattle.sequence_forms.specs.declared.places.Site.{Site}
use Rattle.sequence_forms.specs.Forms.{Sequence, fits, row}
use Rattle.sequence_match.specs.Sites.{Covers, HasSecond, IsBare, IsEntry, IsSecond, IsSiteOf, IsSpelled}

-- how many bytes a relocation of this type reaches: those of its field, or the byte of a descriptor's call, which
-- belongs to a sequence and has no field
abbrev pub call_byte : SequencePart → FieldForm → ℕ
call_byte First NoField = 1
call_byte _ _ = 0

abbrev pub call_width : RelocationKind → ℕ
call_width kind = call_byte (kind_row kind).part (kind_row kind).form

abbrev pub reach_width : Reach → RelocationKind → ℕ
reach_width OfField kind = field_width kind
reach_width OfCall kind = call_width kind

-- the relocation reaches byte k
abbrev pub Reaches : Reach → Relocation → ℕ → Type 0
Reaches reach x k = (x.offset ≤ k) × (k < x.offset + reach_width reach x.kind)

-- relocation number e reaches byte k
abbrev pub ReachesAt : Reach → List Relocation → ℕ → ℕ → Type 0
ReachesAt reach xs k e = (x : Relocation) × IsEntry xs e x × Reaches reach x k

-- the span of relocation number e, which is x
abbrev pub span_of : Reach → ℕ → Relocation → Span
span_of reach e x = record { offset = x.offset; width = reach_width reach x.kind; entry = e }

-- the span of one of the first n relocations, which reaches at least one byte
abbrev pub IsSpanOf : Reach → List Relocation → ℕ → Span → Type 0
IsSpanOf reach xs n span =
    (span.entry < n) × (0 < span.width)
    × ((x : Relocation) × IsEntry xs span.entry x × (span ≡ span_of reach span.entry x))

-- exactly the spans of those of the first n relocations that reach a byte
pub record AreSpans (reach : Reach) (xs : List Relocation) (n : ℕ) (spans : List Span) : Type 0 where
  pub only : All (IsSpanOf reach xs n) spans
  pub every : (e : ℕ) (x : Relocation) → e < n → IsEntry xs e x → 0 < reach_width reach x.kind
      → Contains spans (span_of reach e x)

-- a number that orders spans by offset, and those at one offset by entry, which is below 2 ^ 20
abbrev pub order_of : Span → ℕ
order_of span = span.offset * 2 ^ 20 + span.entry

pub record IsRising (spans : List Span) : Type 0 where
  pub by_offset : IsNonDecreasingBy (λ span. span.offset) spans
  pub by_order : IsNonDecreasingBy order_of spans

-- the spans of the relocations that reach a byte, sorted
pub record IsIndex (reach : Reach) (xs : List Relocation) (spans : List Span) : Type 0 where
  pub are : AreSpans reach xs (length xs) spans
  pub rising : IsRising spans

-- exactly the first n spans begin below the limit
pub record IsSplit (spans : List Span) (limit n : ℕ) : Type 0 where
  pub few : n ≤ length spans
  pub below : AllWithin (λ span. span.offset < limit) spans 0 n
  pub above : AllWithin (λ span. limit ≤ span.offset) spans n (length spans)

-- the last span that begins below the limit, or that there is none
abbrev pub IsLastBelow : List Span → ℕ → Option Span → Type 0
IsLastBelow spans limit None = All (λ span. limit ≤ span.offset) spans
IsLastBelow spans limit (Some last) =
    Contains spans last × (last.offset < limit)
    × All (λ span. span.offset < limit → order_of span ≤ order_of last) spans

-- the first span that begins at or above the limit, or that there is none
abbrev pub IsFirstFrom : List Span → ℕ → Option Span → Type 0
IsFirstFrom spans limit None = All (λ span. span.offset < limit) spans
IsFirstFrom spans limit (Some first) =
    Contains spans first × (limit ≤ first.offset)
    × All (λ span. limit ≤ span.offset → order_of first ≤ order_of span) spans

-- the fields of two relocations share no byte
abbrev pub AreApart : List Relocation → Type 0
AreApart xs =
    (e f k : ℕ) (x y : Relocation) → IsEntry xs e x → IsEntry xs f y → e < f → Covers x k → Covers y k → ⊥

-- the relocations rise by offset, no two at one place
abbrev pub Rise : List Relocation → Type 0
Rise xs = AllPairs (λ x y. x.offset < y.offset) xs

-- the relocations rise as they stand, or they have indexes by place
abbrev pub AreOrdered : List Relocation → Option Indexes → Type 0
AreOrdered xs None = Rise xs
AreOrdered xs (Some indexes) = IsIndex OfField xs indexes.fields.now × IsIndex OfCall xs indexes.calls.now

-- symbol n is marked as `__tls_get_addr`
abbrev pub Names : List Bool → ℕ → Type 0
Names getters n = IsTrue (slice_index_or getters n false)

-- the code's relocations can be found by their places
pub record IsReady (code : Code) : Type 0 where
  pub ordered : AreOrdered code.relocations.now code.indexes
  pub apart : AreApart code.relocations.now
  pub few : length code.relocations.now ≤ 2 ^ 20

-- no relocation changes a byte from one place to another
abbrev pub AreBare : List Relocation → ℕ → ℕ → Type 0
AreBare xs from to = (k : ℕ) → from ≤ k → k < to → IsBare xs k

-- the relocation changes a byte from one place to another
abbrev pub CoversIn : Relocation → ℕ → ℕ → Type 0
CoversIn x from to = (k : ℕ) × (from ≤ k) × (k < to) × Covers x k

-- the relocation stands below a place and has a field, or stands farther below than a field is wide
abbrev pub IsLastField : Relocation → ℕ → Type 0
IsLastField x place = (x.offset < place) × ((0 < field_width x.kind) ⊎ (8 ≤ place - x.offset))

-- the bytes from start on fit the cells
abbrev pub AreBytes : List ℕ → List Cell → ℕ → Type 0
AreBytes code cells start =
    (k : ℕ) (cell : Cell) → slice_get cells k ≡ Some cell → IsTrue (fits cell (slice_index code (start + k)))

-- the bytes that a row spells after its first field: up to its second one, if it has one
abbrev pub behind_at : Sequence → ℕ
behind_at sequence = sequence.first_at + field_width sequence.first

abbrev pub second_or : Option Second → ℕ → ℕ
second_or None n = n
second_or (Some second) n = second.at

abbrev pub behind_end : Sequence → ℕ
behind_end sequence = second_or sequence.second (length sequence.cells)

-- x, relocation number e, is the first of its type at its place
abbrev pub IsEarliest : List Relocation → ℕ → Relocation → Type 0
IsEarliest xs e x =
    (f : ℕ) (y : Relocation) → f < e → IsEntry xs f y → y.kind ≡ x.kind → y.offset ≡ x.offset → ⊥

-- the sequence whose first relocation is number e
abbrev pub IsSiteIn : Code → ℕ → Site → Type 0
IsSiteIn code e site = IsSiteOf code.bytes.now code.relocations.now (Names code.getters.now) e site

-- it is of this form, and has its place
abbrev pub IsFound : Code → Form → ℕ → Site → Type 0
IsFound code form e site = (site.form ≡ form) × (site.section ≡ code.section) × IsSiteIn code e site

-- a sequence of the code
abbrev pub HasSite : Code → Site → Type 0
HasSite code site = (e : ℕ) × IsSiteIn code e site

-- relocation number e opens a sequence of this form
abbrev pub IsOpened : Code → Form → ℕ → Type 0
IsOpened code form e = (site : Site) × (site.form ≡ form) × IsSiteIn code e site

-- it opens none of this form
abbrev pub HasNoSiteOf : Code → Form → ℕ → Type 0
HasNoSiteOf code form e = (site : Site) → site.form ≡ form → IsSiteIn code e site → ⊥

-- it is not the first of any sequence
abbrev pub IsNoFirst : Code → ℕ → Type 0
IsNoFirst code e = (site : Site) → IsSiteIn code e site → ⊥

-- relocation number f is the second of a sequence of this form
abbrev pub IsSecondIn : Code → Form → ℕ → Type 0
IsSecondIn code form f =
    (e : ℕ) × ((site : Site) × (site.form ≡ form) × IsSiteIn code e site
    × IsSecond (row form).second (Names code.getters.now) code.relocations.now site.start f)

-- a sequence of this form starts there, whose first relocation is x, number e
pub record IsAt (code : Code) (form : Form) (e : ℕ) (x : Relocation) (start : ℕ) : Type 0 where
  pub addend_is : IfSome (row form).addend (λ addend. x.addend ≡ addend)
  pub spelled : IsSpelled code.bytes.now code.relocations.now (row form).cells start
  pub second : HasSecond (row form).second (Names code.getters.now) code.relocations.now start
  pub earliest : IsEarliest code.relocations.now e x
