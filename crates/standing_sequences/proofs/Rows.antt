-- The rows of the table, and the sequences that they replace, differ where no field stands.
use Rattle.std.proofs.Common.{◌≡◌, ◌≢◌, ◌⊎◌, ◌%◌, ◌==◌, ℕ, Bool, true, false, List, ◌∷◌, Some}
use Rattle.std.proofs.Common.{inl, inr, refl, arith, if◌then◌else◌}
use Rattle.std.specs.Prelude.{nat_lt, slice_get}
use Rattle.link_faults.specs.declared.binding.Binding.{Binding}
use Rattle.link_faults.specs.declared.binding.Binding.TheVariants.{Here, Startup}
use Rattle.relax_sites.specs.declared.choices.Choice.{Choice}
use Rattle.relax_sites.specs.declared.choices.Choice.TheVariants.{GdLe, GdIe, LdLe, IeLe, DescLe, DescIe}
use Rattle.relax_sites.specs.Rows.{new_bytes, new_field, rex_rm}
use Rattle.sequence_forms.specs.declared.forms.Cell.TheVariants.{Is}
use Rattle.sequence_forms.specs.declared.forms.Form.{Form}
use Rattle.sequence_forms.specs.declared.forms.Form.TheVariants.{Gd, Ld, IeMov, IeAdd, GdInd, LdInd, DescLea, DescCall}
use Rattle.sequence_forms.specs.Forms.{fits, row}
use Rattle.standing_sequences.specs.Bytes.{IsOutside}
use Rattle.standing_sequences.specs.Laws.{Differs, RowsDiffer}
use Rattle.standing_sequences.specs.Table.{IsInTable}

-- ** a row, and the sequence in whose place it stands

-- of add the row's second byte hangs on its register
abbrev add_byte : Bool → ℕ
add_byte true = 0x81
add_byte false = 0x8d

add_is : (t : Bool) (x y z : ℕ) (rest more : List ℕ)
    → slice_get (if t then x ∷ 0x81 ∷ rest else y ∷ 0x8d ∷ more) 1 ≡ Some (add_byte t)
add_is true x y z rest more = refl
add_is false x y z rest more = refl

add_other : (t : Bool) → fits (Is 0x03) (add_byte t) ≡ false
add_other true = refl
add_other false = refl

differs : (form : Form) (bound : Binding) (c : Choice) (reg : ℕ) → IsInTable form bound c → Differs form c reg
unfolding row
differs Gd (Here variable) GdLe reg h = record {
  at = 0;
  cell = Is 0x66;
  cell_is = refl;
  literal = tt;
  byte = 0x64;
  byte_is = refl;
  outside = inl (omega arith);
  other = refl;
}
differs Gd (Startup image) GdIe reg h = record {
  at = 0;
  cell = Is 0x66;
  cell_is = refl;
  literal = tt;
  byte = 0x64;
  byte_is = refl;
  outside = inl (omega arith);
  other = refl;
}
differs GdInd (Here variable) GdLe reg h = record {
  at = 0;
  cell = Is 0x66;
  cell_is = refl;
  literal = tt;
  byte = 0x64;
  byte_is = refl;
  outside = inl (omega arith);
  other = refl;
}
differs GdInd (Startup image) GdIe reg h = record {
  at = 0;
  cell = Is 0x66;
  cell_is = refl;
  literal = tt;
  byte = 0x64;
  byte_is = refl;
  outside = inl (omega arith);
  other = refl;
}
differs Ld bound LdLe reg h = record {
  at = 0;
  cell = Is 0x48;
  cell_is = refl;
  literal = tt;
  byte = 0x66;
  byte_is = refl;
  outside = tt;
  other = refl;
}
differs LdInd bound LdLe reg h = record {
  at = 0;
  cell = Is 0x48;
  cell_is = refl;
  literal = tt;
  byte = 0x66;
  byte_is = refl;
  outside = tt;
  other = refl;
}
differs IeMov (Here variable) IeLe reg h = record {
  at = 1;
  cell = Is 0x8b;
  cell_is = refl;
  literal = tt;
  byte = 0xc7;
  byte_is = refl;
  outside = inl (omega arith);
  other = refl;
}
differs IeAdd (Here variable) IeLe reg h = record {
  at = 1;
  cell = Is 0x03;
  cell_is = refl;
  literal = tt;
  byte = add_byte (reg % 8 == 4);
  byte_is = add_is (reg % 8 == 4) (rex_rm reg) (if nat_lt reg 8 then 0x48 else 0x4d) 0 _ _;
  outside = inl (omega arith);
  other = add_other (reg % 8 == 4);
}
differs DescLea (Here variable) DescLe reg h = record {
  at = 1;
  cell = Is 0x8d;
  cell_is = refl;
  literal = tt;
  byte = 0xc7;
  byte_is = refl;
  outside = inl (omega arith);
  other = refl;
}
differs DescLea (Startup image) DescIe reg h = record {
  at = 1;
  cell = Is 0x8d;
  cell_is = refl;
  literal = tt;
  byte = 0x8b;
  byte_is = refl;
  outside = inl (omega arith);
  other = refl;
}
differs DescCall (Here variable) DescLe reg h = record {
  at = 0;
  cell = Is 0xff;
  cell_is = refl;
  literal = tt;
  byte = 0x66;
  byte_is = refl;
  outside = tt;
  other = refl;
}
differs DescCall (Startup image) DescIe reg h = record {
  at = 0;
  cell = Is 0xff;
  cell_is = refl;
  literal = tt;
  byte = 0x66;
  byte_is = refl;
  outside = tt;
  other = refl;
}
differs form bound c reg h = absurd h

pub rows_differ : RowsDiffer
rows_differ form c reg may = differs form may.0 c reg may.1

-- ** two rows of one form

-- outside of both fields stand two bytes
pub record AreApart (form : Form) (c d : Choice) (reg : ℕ) : Type 0 where
  pub at : ℕ
  pub first : ℕ
  pub first_is : slice_get (new_bytes form c reg) at ≡ Some first
  pub first_outside : IsOutside (new_field form c) at
  pub second : ℕ
  pub second_is : slice_get (new_bytes form d reg) at ≡ Some second
  pub second_outside : IsOutside (new_field form d) at
  pub other : first ≢ second

abbrev pub SameOrApart : Form → Choice → Choice → ℕ → Type 0
SameOrApart form c d reg = (new_bytes form d reg ≡ new_bytes form c reg) ⊎ AreApart form c d reg

module _ (reg : ℕ) where
  gd_le : (bound : Binding) (d : Choice) → IsInTable Gd bound d → SameOrApart Gd GdLe d reg
  gd_le (Here variable) GdLe h = inl refl
  gd_le (Startup image) GdIe h = inr (record {
    at = 10;
    first = 0x8d;
    first_is = refl;
    first_outside = inl (omega arith);
    second = 0x03;
    second_is = refl;
    second_outside = inl (omega arith);
    other = λ e. omega (arith, e);
  })
  gd_le bound d h = absurd h

  gd_ie : (bound : Binding) (d : Choice) → IsInTable Gd bound d → SameOrApart Gd GdIe d reg
  gd_ie (Startup image) GdIe h = inl refl
  gd_ie (Here variable) GdLe h = inr (record {
    at = 10;
    first = 0x03;
    first_is = refl;
    first_outside = inl (omega arith);
    second = 0x8d;
    second_is = refl;
    second_outside = inl (omega arith);
    other = λ e. omega (arith, e);
  })
  gd_ie bound d h = absurd h

  ind_le : (bound : Binding) (d : Choice) → IsInTable GdInd bound d → SameOrApart GdInd GdLe d reg
  ind_le (Here variable) GdLe h = inl refl
  ind_le (Startup image) GdIe h = inr (record {
    at = 10;
    first = 0x8d;
    first_is = refl;
    first_outside = inl (omega arith);
    second = 0x03;
    second_is = refl;
    second_outside = inl (omega arith);
    other = λ e. omega (arith, e);
  })
  ind_le bound d h = absurd h

  ind_ie : (bound : Binding) (d : Choice) → IsInTable GdInd bound d → SameOrApart GdInd GdIe d reg
  ind_ie (Startup image) GdIe h = inl refl
  ind_ie (Here variable) GdLe h = inr (record {
    at = 10;
    first = 0x03;
    first_is = refl;
    first_outside = inl (omega arith);
    second = 0x8d;
    second_is = refl;
    second_outside = inl (omega arith);
    other = λ e. omega (arith, e);
  })
  ind_ie bound d h = absurd h

  ld : (bound : Binding) (d : Choice) → IsInTable Ld bound d → SameOrApart Ld LdLe d reg
  ld bound LdLe h = inl refl
  ld bound d h = absurd h

  ld_ind : (bound : Binding) (d : Choice) → IsInTable LdInd bound d → SameOrApart LdInd LdLe d reg
  ld_ind bound LdLe h = inl refl
  ld_ind bound d h = absurd h

  ie_mov : (bound : Binding) (d : Choice) → IsInTable IeMov bound d → SameOrApart IeMov IeLe d reg
  ie_mov (Here variable) IeLe h = inl refl
  ie_mov bound d h = absurd h

  ie_add : (bound : Binding) (d : Choice) → IsInTable IeAdd bound d → SameOrApart IeAdd IeLe d reg
  ie_add (Here variable) IeLe h = inl refl
  ie_add bound d h = absurd h

  lea_le : (bound : Binding) (d : Choice) → IsInTable DescLea bound d → SameOrApart DescLea DescLe d reg
  lea_le (Here variable) DescLe h = inl refl
  lea_le (Startup image) DescIe h = inr (record {
    at = 1;
    first = 0xc7;
    first_is = refl;
    first_outside = inl (omega arith);
    second = 0x8b;
    second_is = refl;
    second_outside = inl (omega arith);
    other = λ e. omega (arith, e);
  })
  lea_le bound d h = absurd h

  lea_ie : (bound : Binding) (d : Choice) → IsInTable DescLea bound d → SameOrApart DescLea DescIe d reg
  lea_ie (Startup image) DescIe h = inl refl
  lea_ie (Here variable) DescLe h = inr (record {
    at = 1;
    first = 0x8b;
    first_is = refl;
    first_outside = inl (omega arith);
    second = 0xc7;
    second_is = refl;
    second_outside = inl (omega arith);
    other = λ e. omega (arith, e);
  })
  lea_ie bound d h = absurd h

  call_le : (bound : Binding) (d : Choice) → IsInTable DescCall bound d → SameOrApart DescCall DescLe d reg
  call_le (Here variable) DescLe h = inl refl
  call_le (Startup image) DescIe h = inl refl
  call_le bound d h = absurd h

  call_ie : (bound : Binding) (d : Choice) → IsInTable DescCall bound d → SameOrApart DescCall DescIe d reg
  call_ie (Here variable) DescLe h = inl refl
  call_ie (Startup image) DescIe h = inl refl
  call_ie bound d h = absurd h

  pub same_or_apart : (form : Form) (bound other : Binding) (c d : Choice) → IsInTable form bound c
      → IsInTable form other d → SameOrApart form c d reg
  same_or_apart Gd (Here variable) other GdLe d h more = gd_le other d more
  same_or_apart Gd (Startup image) other GdIe d h more = gd_ie other d more
  same_or_apart GdInd (Here variable) other GdLe d h more = ind_le other d more
  same_or_apart GdInd (Startup image) other GdIe d h more = ind_ie other d more
  same_or_apart Ld bound other LdLe d h more = ld other d more
  same_or_apart LdInd bound other LdLe d h more = ld_ind other d more
  same_or_apart IeMov (Here variable) other IeLe d h more = ie_mov other d more
  same_or_apart IeAdd (Here variable) other IeLe d h more = ie_add other d more
  same_or_apart DescLea (Here variable) other DescLe d h more = lea_le other d more
  same_or_apart DescLea (Startup image) other DescIe d h more = lea_ie other d more
  same_or_apart DescCall (Here variable) other DescLe d h more = call_le other d more
  same_or_apart DescCall (Startup image) other DescIe d h more = call_ie other d more
  same_or_apart form bound other c d h more = absurd h
