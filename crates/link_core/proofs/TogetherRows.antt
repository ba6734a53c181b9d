-- What the rows of sequences say of their relocations' fields, and of which ones a program rewrites.
use Rattle.std.proofs.Common.{◌≡◌, ◌+◌, ◌<◌, ◌≤◌, ◌⊎◌, ◌||◌, ◌&&◌, ℕ, zero, suc, Bool, true, false, List, [], ◌∷◌}
use Rattle.std.proofs.Common.{Option, Some, None, length, nat_lt, if◌then◌else◌, refl, ap, subst, inl, inr, arith}
use Rattle.std.specs.Prelude.{nat_le}
use Rattle.std.specs.List.{slice_get}
use Rattle.std.proofs.lemmas.Bool.Decides.{nat_tests}
use Rattle.elf_records.specs.declared.relocation.RelocationKind.{RelocationKind}
use Rattle.elf_records.specs.declared.relocation.RelocationKind.TheVariants.{Nothing, Pc32, Plt32, GotPcRel, TlsGd}
use Rattle.elf_records.specs.declared.relocation.RelocationKind.TheVariants.{TlsLd, GotTpOff, GotPc32TlsDesc, GotPcRelX}
use Rattle.elf_records.specs.declared.relocation.RelocationKind.TheVariants.{RexGotPcRelX}
use Rattle.elf_object.specs.declared.relocation.Relocation.{Relocation}
use Rattle.elf_object.specs.Relocations.{field_width}
use Rattle.link_faults.specs.declared.image_kind.ImageKind.{ImageKind}
use Rattle.link_faults.specs.declared.image_kind.ImageKind.TheVariants.{Exe, Pie}
use Rattle.link_faults.specs.ImageKinds.{is_module}
use Rattle.sequence_forms.specs.declared.forms.Form.{Form}
use Rattle.sequence_forms.specs.declared.forms.Form.TheVariants.{Gd, IeMov, IeAdd, DescLea, DescCall}
use Rattle.sequence_forms.specs.declared.forms.Cell.{Cell}
use Rattle.sequence_forms.specs.declared.forms.Cell.TheVariants.{Field}
use Rattle.sequence_forms.specs.declared.forms.Call.{Call}
use Rattle.sequence_forms.specs.declared.forms.Call.TheVariants.{Direct, Indirect}
use Rattle.sequence_forms.specs.declared.forms.Second.{Second}
use Rattle.sequence_match.specs.Faults.{IsOfSequence}
use Rattle.sequence_forms.specs.Forms.{row, IsCallKind, Sequence}
use Rattle.sequence_match.specs.Sites.{IsLiteral, IsSecond}
use Rattle.relax_sites.specs.declared.choices.Choice.{Choice}
use Rattle.relax_sites.specs.declared.choices.Choice.TheVariants.{Keep}
use Rattle.relax_sites.specs.Choices.{choice_of, program_choice}
use Rattle.link_faults.specs.declared.binding.Binding.{Binding}
use Rattle.link_faults.specs.declared.binding.Binding.TheVariants.{Here, Startup, Runtime}
use Rattle.link_needs.specs.Linking.{Linking, chosen}
use Rattle.link_needs.specs.Needs.{is_kept}
use Rattle.link_needs.specs.Values.{goes, is_rewriting, is_runtime}

-- ** what a program rewrites

-- what a program takes in a site's place
abbrev pub taken : Form → Option Binding → Choice
taken form None = Keep
taken form (Some bound) = program_choice form bound

-- a variable: what a thread-local relocation may name
abbrev pub IsVariable : Option Binding → Type 0
IsVariable None = ⊥
IsVariable (Some Runtime) = ⊥
IsVariable (Some bound) = Unit {0}

of_program : (form : Form) (bound : Binding) (kind : ImageKind) (relax : Bool)
    → (if is_module kind then false else relax) ≡ true → choice_of form bound kind relax ≡ program_choice form bound
of_program form bound Exe true h = refl
of_program form bound Pie true h = refl
of_program form bound kind relax h = absurd (cc)

of_other : (form : Form) (bound : Binding) (kind : ImageKind) (relax : Bool)
    → (if is_module kind then false else relax) ≡ false → choice_of form bound kind relax ≡ Keep
of_other form bound Exe true h = absurd (cc)
of_other form bound Pie true h = absurd (cc)
of_other form bound kind false h = refl
of_other form bound kind true h = refl

-- what is chosen with rewriting, and without
pub chosen_taken : (l : Linking) (form : Form) (bound : Option Binding) → is_rewriting l ≡ true
    → chosen l form bound ≡ taken form bound
chosen_taken l form None h = refl
chosen_taken l form (Some bound) h = of_program form bound l.kind l.relax h

pub chosen_kept : (l : Linking) (form : Form) (bound : Option Binding) → is_rewriting l ≡ false
    → is_kept (chosen l form bound) ≡ true
chosen_kept l form None h = refl
chosen_kept l form (Some bound) h = ap is_kept (of_other form bound l.kind l.relax h)

-- a sequence goes where its first relocation does
pub first_goes : (form : Form) (bound : Option Binding) → IsVariable bound → goes bound (row form).first ≡ true
    → is_kept (taken form bound) ≡ false
unfolding row
first_goes form None variable h = absurd variable
first_goes form (Some Runtime) variable h = absurd variable
first_goes IeMov (Some (Startup image)) variable h = absurd (cc)
first_goes IeAdd (Some (Startup image)) variable h = absurd (cc)
first_goes DescCall bound variable h = absurd (cc)
first_goes form bound variable h = refl

-- and stays where that stays, if it has a field
pub first_stays : (form : Form) (bound : Option Binding) → goes bound (row form).first ≡ false
    → 0 < field_width (row form).first → is_kept (taken form bound) ≡ true
unfolding row
first_stays IeMov (Some (Here found)) h wide = absurd (cc)
first_stays IeMov bound h wide = refl
first_stays IeAdd (Some (Here found)) h wide = absurd (cc)
first_stays IeAdd bound h wide = refl
first_stays DescCall bound h wide = absurd (omega arith)
first_stays form bound h wide = absurd (cc)

-- a sequence with a call goes
pub call_goes : (form : Form) (bound : Option Binding) (getter : ℕ → Type 0) (xs : List Relocation) (start f : ℕ)
    → IsVariable bound → IsSecond (row form).second getter xs start f → is_kept (taken form bound) ≡ false
unfolding row
call_goes form None getter xs start f variable h = absurd variable
call_goes form (Some Runtime) getter xs start f variable h = absurd variable
call_goes IeMov bound getter xs start f variable h = absurd h
call_goes IeAdd bound getter xs start f variable h = absurd h
call_goes DescLea bound getter xs start f variable h = absurd h
call_goes DescCall bound getter xs start f variable h = absurd h
call_goes form bound getter xs start f variable h = refl

-- ** which relocations go

runtime_of : (bound : Option Binding) → is_runtime bound ≡ true → bound ≡ Some Runtime
runtime_of (Some Runtime) h = refl
runtime_of bound h = absurd (cc)

-- one that goes is of a type of sequences, or names the run time's function
pub goes_with : (bound : Option Binding) (kind : RelocationKind) → goes bound kind ≡ true
    → IsOfSequence kind ⊎ ((bound ≡ Some Runtime) × (kind ≡ Nothing → ⊥))
goes_with bound TlsGd h = inl refl
goes_with bound TlsLd h = inl refl
goes_with bound GotPc32TlsDesc h = inl refl
goes_with bound GotTpOff h = inl refl
goes_with bound Pc32 h = inr (runtime_of bound h, λ e. cc)
goes_with bound Plt32 h = inr (runtime_of bound h, λ e. cc)
goes_with bound GotPcRel h = inr (runtime_of bound h, λ e. cc)
goes_with bound GotPcRelX h = inr (runtime_of bound h, λ e. cc)
goes_with bound RexGotPcRelX h = inr (runtime_of bound h, λ e. cc)
goes_with bound _ h = absurd (cc)

-- a call of the run time goes
pub runtime_goes : (call : Call) (kind : RelocationKind) → IsCallKind call kind → goes (Some Runtime) kind ≡ true
runtime_goes Direct Plt32 h = refl
runtime_goes Direct Pc32 h = refl
runtime_goes Indirect GotPcRel h = refl
runtime_goes Indirect GotPcRelX h = refl
runtime_goes Indirect RexGotPcRelX h = refl
runtime_goes call kind h = absurd (cc)

-- ** where fields lie in a row

-- the fields lie in it
abbrev pub FitsIn : Option Second → ℕ → Type 0
FitsIn None n = Unit {0}
FitsIn (Some second) n = second.at + 4 ≤ n

pub first_fits : (form : Form) → (row form).first_at + field_width (row form).first ≤ length (row form).cells
unfolding row
first_fits Gd = omega arith
first_fits form = omega arith

pub second_fits : (form : Form) → FitsIn (row form).second (length (row form).cells)
unfolding row
second_fits IeMov = tt
second_fits IeAdd = tt
second_fits DescLea = tt
second_fits DescCall = tt
second_fits form = omega arith

-- whether place n lies so far behind a start
abbrev in_range : ℕ → ℕ → ℕ → Bool
in_range at width n = nat_le at n && nat_lt n (at + width)

abbrev in_second : Option Second → ℕ → Bool
in_second None n = false
in_second (Some second) n = in_range second.at 4 n

abbrev in_fields : Sequence → ℕ → Bool
in_fields s n = in_range s.first_at (field_width s.first) n || in_second s.second n

abbrev is_literal : Cell → Bool
is_literal Field = false
is_literal cell = true

-- whether each cell from number n on is literal, or lies in a field
abbrev are_known : Sequence → List Cell → ℕ → Bool
are_known s [] n = true
are_known s (c ∷ cs) n = (is_literal c || in_fields s n) && are_known s cs (n + 1)

row_known : (form : Form) → are_known (row form) (row form).cells 0 ≡ true
unfolding row
row_known Gd = refl
row_known form = refl

pub both : (a b : Bool) → (a && b) ≡ true → (a ≡ true) × (b ≡ true)
both true b h = (refl, h)
both false b h = absurd (cc)

either : (a b : Bool) → (a || b) ≡ true → (a ≡ true) ⊎ (b ≡ true)
either true b h = inl refl
either false b h = inr h

literal_of : (c : Cell) → is_literal c ≡ true → IsLiteral c
literal_of Field h = absurd (cc)
literal_of cell h = tt

within_of : (at width n : ℕ) → in_range at width n ≡ true → (at ≤ n) × (n < at + width)
within_of at width n h = grind (arith, nat_tests)

-- place n lies in the field of the second relocation
abbrev pub IsInSecond : Option Second → ℕ → Type 0
IsInSecond None n = ⊥
IsInSecond (Some second) n = (second.at ≤ n) × (n < second.at + 4)

second_of : (second : Option Second) (n : ℕ) → in_second second n ≡ true → IsInSecond second n
second_of None n h = absurd (cc)
second_of (Some second) n h = within_of second.at 4 n h

-- it is literal, or lies in the field of a relocation
abbrev pub IsCellAt : Sequence → List Cell → ℕ → ℕ → Type 0
IsCellAt s cells d n =
    ((c : Cell) × (slice_get cells d ≡ Some c) × IsLiteral c)
    ⊎ (((s.first_at ≤ n) × (n < s.first_at + field_width s.first)) ⊎ IsInSecond s.second n)

known_at : (s : Sequence) (cells : List Cell) (n d : ℕ) → are_known s cells n ≡ true → d < length cells
    → IsCellAt s cells d (n + d)
known_at s [] n d h inside = absurd (omega arith)
known_at s (c ∷ cells) n zero h inside =
    let same : n ≡ n + 0 = omega arith in
    let P : ℕ → Type 0 = λ k. IsCellAt s (c ∷ cells) 0 k in
    subst P same (elim (either (is_literal c) (in_fields s n)
    (both (is_literal c || in_fields s n) (are_known s cells (n + 1)) h).0) [
      | inl literal ↦ inl (c, refl, literal_of c literal)
      | inr field ↦ elim (either (in_range s.first_at (field_width s.first) n) (in_second s.second n) field) [
        | inl first ↦ inr (inl (within_of s.first_at (field_width s.first) n first))
        | inr second ↦ inr (inr (second_of s.second n second))
      ]
    ])
known_at s (c ∷ cells) n (suc d) h inside =
    let same : (n + 1) + d ≡ n + suc d = omega arith in
    let P : ℕ → Type 0 = λ k. IsCellAt s cells d k in
    subst P same (known_at s cells (n + 1) d
    (both (is_literal c || in_fields s n) (are_known s cells (n + 1)) h).1 (omega arith))

pub cell_at : (form : Form) (n : ℕ) → n < length (row form).cells → IsCellAt (row form) (row form).cells n n
cell_at form n inside =
    let same : 0 + n ≡ n = omega arith in
    let P : ℕ → Type 0 = λ k. IsCellAt (row form) (row form).cells n k in
    subst P same (known_at (row form) (row form).cells 0 n (row_known form) inside)
