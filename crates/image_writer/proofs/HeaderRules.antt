-- The rules of the header and of the program headers are kept by a file that a page of headers leads.
use Rattle.std.proofs.Common.{◌≡◌, ◌<◌, ◌≤◌, ◌⊎◌, ℕ, List, length, replicate, refl, sym, subst, ◌∙◌, arith, inl, inr}
use Rattle.std.proofs.lemmas.List.{get_or_append_left}
use Rattle.elf_records.specs.declared.file_header.Header.{Header}
use Rattle.elf_records.specs.declared.file_header.TheConstants.{ELF_IDENT, ET_EXEC, ET_DYN}
use Rattle.image_rules.specs.declared.places.FileKind.{FileKind}
use Rattle.image_rules.specs.declared.places.FileKind.TheVariants.{Exe, Pie, Module}
use Rattle.image_rules.specs.declared.rule.Rule.{Rule}
use Rattle.image_rules.specs.declared.rule.Rule.TheVariants.{Length, Ident, Field, Extent, Segment, Entry, Table}
use Rattle.image_rules.specs.declared.rule.TableRule.TheVariants as table
use Rattle.image_rules.specs.declared.rule.FieldRule.{FieldRule}
use Rattle.image_rules.specs.declared.rule.FieldRule.TheVariants.{FileType, Machine, Version, TableOffset, EntrySize}
use Rattle.image_rules.specs.declared.rule.FieldRule.TheVariants.{Count}
use Rattle.image_faults.specs.Parts.{count}
use Rattle.image_faults.specs.Fields.{IsWrongIdent, IsRightField}
use Rattle.image_rules.specs.Rules.{number}
use Rattle.image_faults.specs.Segments.{IsWrongSegment}
use Rattle.image_faults.specs.Faults.{Breaks, Keeps}
use Rattle.image_writer.specs.Outlined.{Outlined, last_part, end_of}
use Rattle.image_writer.specs.Page.{type_of, file_offset, header_of}
use Rattle.image_writer.specs.Loadable.{IsLoadable, HoldsTls}
use Rattle.image_writer.proofs.HeaderReads.{AreRead}
use Rattle.image_writer.proofs.HeaderFinds.{loads_read}
use Rattle.image_writer.proofs.HeaderLoads.{right_load, right_dynamic}
use Rattle.image_writer.proofs.HeaderRest.{right_rest}
use Rattle.image_writer.proofs.HeaderExtents.{passes_nowhere}
use Rattle.image_writer.proofs.FileHeader.{file_header}

-- the identification
right_ident : (o : Outlined) (k : ℕ) → IsWrongIdent (file_header o) k → ⊥
unfolding header_of
right_ident o k wrong = wrong.1 (get_or_append_left ELF_IDENT (replicate 9 0) 0 k wrong.0)

-- the fields
right_type : (k : FileKind) → (type_of k ≡ ET_EXEC) ⊎ (type_of k ≡ ET_DYN)
right_type Exe = inl refl
right_type Pie = inr refl
right_type Module = inr refl

-- each field is right
right_field : (o : Outlined) (rule : FieldRule) → 0 < (file_header o).e_phnum → (file_header o).e_phnum ≤ 10
    → IsRightField rule (file_header o)
unfolding header_of
right_field o FileType some few = right_type o.kind
right_field o Machine some few = refl
right_field o Version some few = refl
right_field o TableOffset some few = refl
right_field o EntrySize some few = refl
right_field o Count some few = (some, few)

-- the program headers
right_segments : (f : List ℕ) (o : Outlined) (e : ℕ) → AreRead f o → IsLoadable o → IsWrongSegment f e → ⊥
right_segments f o e read loadable wrong =
    let same = loads_read f o read in
    elim wrong [
      | inl load ↦ load.1 (right_load f o e read loadable (omega (arith, load.0)))
      | inr other ↦ elim other [
        | inl dynamic ↦ dynamic.1 (right_dynamic f o e read loadable (dynamic.0 ∙ same))
        | inr rest ↦ rest.2 (right_rest f o e read loadable (omega (arith, rest.0)) rest.1)
      ]
    ]

-- each of the first ten rules is kept
pub keeps_ten : (f : List ℕ) (o : Outlined) → AreRead f o → IsLoadable o → HoldsTls o
    → file_offset o.kind (end_of (last_part o)) ≤ length f
    → (rule : Rule) → number rule < 10 → Keeps rule f
unfolding Breaks
keeps_ten f o read loadable holds long Length below e broken = omega (arith, broken.1, read.long)
keeps_ten f o read loadable holds long Ident below e broken =
    let P : Header → Type 0 = λ h. IsWrongIdent h e in
    right_ident o e (subst P read.header_is broken)
keeps_ten f o read loadable holds long (Field rule) below e broken =
    let P : Header → Type 0 = λ h. (0 < h.e_phnum) × (h.e_phnum ≤ 10) in
    let Q : Header → Type 0 = λ h. IsRightField rule h in
    let some : 0 < count f = omega (arith, read.count_is) in
    let counted = subst P read.header_is (some, read.few) in
    broken.1 (subst Q (sym read.header_is) (right_field o rule counted.0 counted.1))
keeps_ten f o read loadable holds long Extent below e broken = passes_nowhere f o read loadable holds long broken.1
keeps_ten f o read loadable holds long Segment below e broken = right_segments f o e read loadable broken
keeps_ten f o read loadable holds long (Entry rule) below e broken = omega arith
keeps_ten f o read loadable holds long (Table table.Symbol) below e broken = omega arith
keeps_ten f o read loadable holds long (Table table.Relocation) below e broken = omega arith
keeps_ten f o read loadable holds long (Table table.TlsSymbol) below e broken = omega arith
keeps_ten f o read loadable holds long (Table table.TlsRelocation) below e broken = omega arith
