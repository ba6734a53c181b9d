-- What holds of every row of the table.
use Rattle.std.proofs.Common.{◌≡◌, ◌+◌, ◌<◌, ◌≤◌, ℕ, length, Option, Some, None, IfSome, refl, arith}
use Rattle.elf_object.specs.Relocations.{field_width}
use Rattle.elf_records.specs.declared.relocation.RelocationKind.{RelocationKind}
use Rattle.elf_records.specs.declared.relocation.RelocationKind.TheVariants.{Pc32, Plt32, GotPcRel, TlsGd, TlsLd}
use Rattle.elf_records.specs.declared.relocation.RelocationKind.TheVariants.{GotTpOff, GotPc32TlsDesc, TlsDescCall}
use Rattle.elf_records.specs.declared.relocation.RelocationKind.TheVariants.{GotPcRelX, RexGotPcRelX}
use Rattle.sequence_forms.specs.declared.forms.Form.{Form}
use Rattle.sequence_forms.specs.declared.forms.Form.TheVariants.{Gd, Ld, IeMov, IeAdd, GdInd, LdInd, DescLea, DescCall}
use Rattle.sequence_forms.specs.declared.forms.Call.{Call}
use Rattle.sequence_forms.specs.declared.forms.Call.TheVariants.{Direct, Indirect}
use Rattle.sequence_forms.specs.declared.forms.Second.{Second}
use Rattle.sequence_forms.specs.Forms.{row, IsCallKind}
use Rattle.sequence_match.specs.Faults.{IsOfSequence}

-- the relocations of a row stand in it
pub first_inside : (form : Form) → (row form).first_at < length (row form).cells
unfolding row
first_inside Gd = omega arith
first_inside form = omega arith

pub second_inside : (form : Form) → IfSome (row form).second (λ second. second.at < length (row form).cells)
unfolding row
second_inside IeMov = tt
second_inside IeAdd = tt
second_inside DescLea = tt
second_inside DescCall = tt
second_inside form = omega arith

-- so where the bytes of a row lie in the code, its second relocation does
pub second_within : (second : Option Second) (n start len : ℕ) → IfSome second (λ s. s.at < n) → start + n ≤ len
    → IfSome second (λ s. start + s.at < len)
second_within None n start len h fits = h
second_within (Some s) n start len h fits = omega arith

-- its first relocation is of a type of sequences
pub first_of_sequence : (form : Form) → IsOfSequence (row form).first
unfolding row
first_of_sequence Gd = refl
first_of_sequence form = refl

-- where there is a second one, the first has a field
pub first_has_field : (form : Form) (second : Second) → (row form).second ≡ Some second
    → field_width (row form).first ≡ 4
unfolding row
first_has_field Gd second h = refl
first_has_field Ld second h = refl
first_has_field GdInd second h = refl
first_has_field LdInd second h = refl
first_has_field form second h = absurd (cc)

-- a call's relocation has a field of four bytes
pub call_width_is : (call : Call) (kind : RelocationKind) → IsCallKind call kind → field_width kind ≡ 4
call_width_is Direct Plt32 h = refl
call_width_is Direct Pc32 h = refl
call_width_is Indirect GotPcRel h = refl
call_width_is Indirect GotPcRelX h = refl
call_width_is Indirect RexGotPcRelX h = refl
call_width_is _ _ h = absurd (cc)

-- so has each type of sequences but that of a descriptor's call
pub sequence_width : (kind : RelocationKind) → IsOfSequence kind → (kind ≡ TlsDescCall → ⊥) → field_width kind ≡ 4
sequence_width TlsGd h other = refl
sequence_width TlsLd h other = refl
sequence_width GotTpOff h other = refl
sequence_width GotPc32TlsDesc h other = refl
sequence_width TlsDescCall h other = absurd (other refl)
sequence_width _ h other = absurd (cc)
