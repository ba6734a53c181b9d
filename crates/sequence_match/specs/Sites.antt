-- Which sequences stand in code, by its bytes and its relocations. The definitions take as given which
-- symbols are `__tls_get_addr`.
use Rattle.std.specs.Prelude.{◌≡◌, ◌+◌, ◌<◌, ◌≤◌, ℕ, negsuc, List, length, slice_index, IsTrue, IfSome}
use Rattle.std.specs.Prelude.{Option, Some, None, pos}
use Rattle.std.specs.List.{All, slice_get}
use Rattle.elf_object.specs.declared.relocation.Relocation.{Relocation}
use Rattle.elf_object.specs.Parts.{symbol_count}
use Rattle.elf_object.specs.Relocations.{field_width}
use Rattle.sequence_forms.specs.declared.forms.Cell.{Cell}
use Rattle.sequence_forms.specs.declared.forms.Cell.TheVariants.{Field}
use Rattle.sequence_forms.specs.declared.forms.Second.{Second}
use Rattle.sequence_forms.specs.declared.places.Site.{Site}
use Rattle.sequence_forms.specs.Forms.{Sequence, fits, row, register, IsCallKind}

-- byte k of the section lies in the relocation's field
abbrev pub Covers : Relocation → ℕ → Type 0
Covers x k = (x.offset ≤ k) × (k < x.offset + field_width x.kind)

-- relocation number e is x
abbrev pub IsEntry : List Relocation → ℕ → Relocation → Type 0
IsEntry xs e x = slice_get xs e ≡ Some x

-- no relocation changes byte k
abbrev pub IsBare : List Relocation → ℕ → Type 0
IsBare xs k = (f : ℕ) (x : Relocation) → IsEntry xs f x → Covers x k → ⊥

-- a byte that is part of the instruction's spelling
abbrev pub IsLiteral : Cell → Type 0
IsLiteral Field = ⊥
IsLiteral _ = Unit {0}

-- the cell allows the byte at a place, and if the cell is literal, no relocation changes that byte
abbrev pub StandsIn : List ℕ → List Relocation → Cell → ℕ → Type 0
StandsIn code xs cell place = IsTrue (fits cell (slice_index code place)) × (IsLiteral cell → IsBare xs place)

-- the cells stand in the code from start on
pub record IsSpelled (code : List ℕ) (xs : List Relocation) (cells : List Cell) (start : ℕ) : Type 0 where
  pub inside : start + length cells ≤ length code
  pub stands : (k : ℕ) (cell : Cell) → slice_get cells k ≡ Some cell → StandsIn code xs cell (start + k)

-- the relocation fits as the first one of the sequence
pub record Opens (sequence : Sequence) (start : ℕ) (x : Relocation) : Type 0 where
  pub kind_is : x.kind ≡ sequence.first
  pub offset_is : x.offset ≡ start + sequence.first_at
  pub addend_is : IfSome sequence.addend (λ addend. x.addend ≡ addend)

-- the relocation fits as the second one
pub record Calls (second : Second) (getter : ℕ → Type 0) (start : ℕ) (x : Relocation) : Type 0 where
  pub kind_is : IsCallKind second.call x.kind
  pub offset_is : x.offset ≡ start + second.at
  pub addend_is : x.addend ≡ negsuc 3
  pub names : getter x.symbol

-- relocation number f is the second one of the sequence that starts there, if the sequence has two
abbrev pub IsSecond : Option Second → (ℕ → Type 0) → List Relocation → ℕ → ℕ → Type 0
IsSecond None getter xs start f = ⊥
IsSecond (Some second) getter xs start f = (x : Relocation) × IsEntry xs f x × Calls second getter start x

-- there is a second relocation, if the sequence has two
abbrev pub HasSecond : Option Second → (ℕ → Type 0) → List Relocation → ℕ → Type 0
HasSecond None getter xs start = Unit {0}
HasSecond (Some second) getter xs start = (f : ℕ) × IsSecond (Some second) getter xs start f

-- site is a sequence of the code, and relocation number e is its first. If two are at one place, as relocations
-- without a field may be, only the earlier one is the first.
pub record IsSiteOf (code : List ℕ) (xs : List Relocation) (getter : ℕ → Type 0) (e : ℕ) (site : Site) : Type 0 where
  pub spelled : IsSpelled code xs (row site.form).cells site.start
  pub first : (x : Relocation) × IsEntry xs e x × Opens (row site.form) site.start x × (site.symbol ≡ x.symbol)
  pub earliest : (f : ℕ) (x : Relocation) → f < e → IsEntry xs f x → x.kind ≡ (row site.form).first
      → x.offset ≡ site.start + (row site.form).first_at → ⊥
  pub second : HasSecond (row site.form).second getter xs site.start
  pub len_is : site.len ≡ length (row site.form).cells
  pub reg_is : site.reg ≡ register site.form code site.start

-- a relocation with the type of a site's first one and the site's symbol; a binding depends on nothing else
abbrev pub first_of : Site → Relocation
first_of site = record { offset = 0; kind = (row site.form).first; symbol = site.symbol; addend = pos 0 }

-- each site's symbol is one of the object's
abbrev pub HaveSymbols : List ℕ → List Site → Type 0
HaveSymbols b sites = All (λ site. site.symbol < symbol_count b) sites
