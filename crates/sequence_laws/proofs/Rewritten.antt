-- What is read in a rewritten site, row by row.
use Rattle.std.proofs.Common.{◌≡◌, ℕ, ◌+◌, ◌≤◌, Bool, true, false, List, [], ◌∷◌, ◌++◌, length, take, drop, refl, sym}
use Rattle.std.proofs.Common.{ap, subst, ◌∙◌, arith}
use Rattle.std.specs.Prelude.{◌≢◌, ◌%◌, ◌==◌, if◌then◌else◌}
use Rattle.std.proofs.lemmas.List.{take-append-drop, drop-drop}
use Rattle.elf_records.specs.Fields.{part_at, splice}
use Rattle.amd64_subset.specs.declared.instr.Decoded.{Decoded}
use Rattle.amd64_subset.specs.Spelling.{field_of}
use Rattle.sequence_forms.specs.declared.forms.Form.{Form}
use Rattle.sequence_forms.specs.declared.forms.Form.TheVariants.{Gd, Ld, IeMov, IeAdd, GdInd, LdInd, DescLea, DescCall}
use Rattle.sequence_forms.specs.Forms.{row}
use Rattle.relax_sites.specs.declared.choices.Choice.{Choice}
use Rattle.relax_sites.specs.declared.choices.Choice.TheVariants.{Keep, GdLe, GdIe, LdLe, IeLe, DescLe, DescIe}
use Rattle.relax_sites.specs.ChoiceLaws.{IsChoiceOf}
use Rattle.relax_sites.specs.Rows.{form_length, new_bytes, new_field, mov_bytes, add_bytes}
use Rattle.sequence_laws.specs.Instructions.{new_instructions, added}
use Rattle.sequence_laws.specs.Laws.{AreRead, filled, length_of}
use Rattle.sequence_laws.proofs.Shapes.{by_four}
use Rattle.sequence_laws.proofs.Ones.{one, two, thread_pointer_9, thread_pointer_12, thread_pointer_13, lea_rax}
use Rattle.sequence_laws.proofs.Ones.{add_rax, set_rax, load_rax, nop, set_register, added_register}

-- the row with these four in its field, and then the rest
abbrev Reads : Form → Choice → ℕ → List ℕ → List ℕ → Type 0
Reads form choice reg rest four = AreRead (new_instructions form choice reg (field_of four)) rest
    (filled (new_field form choice) four (new_bytes form choice reg) ++ rest)

gd_le : (rest : List ℕ) (a b c d : ℕ) → Reads Gd GdLe 0 rest (a ∷ b ∷ c ∷ d ∷ [])
unfolding splice
gd_le rest a b c d = two _ _ rest _ _ thread_pointer_9 (lea_rax a b c d)

gd_ie : (rest : List ℕ) (a b c d : ℕ) → Reads Gd GdIe 0 rest (a ∷ b ∷ c ∷ d ∷ [])
unfolding splice
gd_ie rest a b c d = two _ _ rest _ _ thread_pointer_9 (add_rax a b c d)

desc_le : (rest : List ℕ) (a b c d : ℕ) → Reads DescLea DescLe 0 rest (a ∷ b ∷ c ∷ d ∷ [])
unfolding splice
desc_le rest a b c d = one _ rest _ (set_rax a b c d)

desc_ie : (rest : List ℕ) (a b c d : ℕ) → Reads DescLea DescIe 0 rest (a ∷ b ∷ c ∷ d ∷ [])
unfolding splice
desc_ie rest a b c d = one _ rest _ (load_rax a b c d)

ie_mov : (reg : ℕ) (rest : List ℕ) → reg ≤ 15 → (a b c d : ℕ) → Reads IeMov IeLe reg rest (a ∷ b ∷ c ∷ d ∷ [])
ie_mov reg rest low a b c d = one (splice 3 (a ∷ b ∷ c ∷ d ∷ []) (mov_bytes reg)) rest _ (set_register a b c d reg low)

ie_add : (reg : ℕ) (rest : List ℕ) → reg ≤ 15 → (a b c d : ℕ) → Reads IeAdd IeLe reg rest (a ∷ b ∷ c ∷ d ∷ [])
ie_add reg rest low a b c d =
    one (splice 3 (a ∷ b ∷ c ∷ d ∷ []) (add_bytes reg)) rest (added reg _) (added_register a b c d reg low)

row_read : (form : Form) (choice : Choice) (reg : ℕ) (four rest : List ℕ) → IsChoiceOf form choice → choice ≢ Keep
    → reg ≤ 15 → length four ≡ 4 → Reads form choice reg rest four
row_read Gd GdLe reg four rest own changes low size = by_four (Reads Gd GdLe 0 rest) (gd_le rest) four size
row_read GdInd GdLe reg four rest own changes low size = by_four (Reads Gd GdLe 0 rest) (gd_le rest) four size
row_read Gd GdIe reg four rest own changes low size = by_four (Reads Gd GdIe 0 rest) (gd_ie rest) four size
row_read GdInd GdIe reg four rest own changes low size = by_four (Reads Gd GdIe 0 rest) (gd_ie rest) four size
row_read Ld LdLe reg four rest own changes low size = one _ rest _ thread_pointer_12
row_read LdInd LdLe reg four rest own changes low size = one _ rest _ thread_pointer_13
row_read IeMov IeLe reg four rest own changes low size =
    by_four (Reads IeMov IeLe reg rest) (ie_mov reg rest low) four size
row_read IeAdd IeLe reg four rest own changes low size =
    by_four (Reads IeAdd IeLe reg rest) (ie_add reg rest low) four size
row_read DescLea DescLe reg four rest own changes low size =
    by_four (Reads DescLea DescLe 0 rest) (desc_le rest) four size
row_read DescLea DescIe reg four rest own changes low size =
    by_four (Reads DescLea DescIe 0 rest) (desc_ie rest) four size
row_read DescCall DescLe reg four rest own changes low size = one _ rest _ nop
row_read DescCall DescIe reg four rest own changes low size = one _ rest _ nop
row_read form Keep reg four rest own changes low size = absurd (changes refl)
row_read form choice reg four rest own changes low size = absurd own

-- what stands from a place on is the part there and what is behind it
pub split_there : (n start : ℕ) (code : List ℕ) → part_at n start code ++ drop (start + n) code ≡ drop start code
unfolding part_at
split_there n start code =
    ap (λ behind. take n (drop start code) ++ behind) (sym (drop-drop n start code))
    ∙ take-append-drop n (drop start code)

pub rewritten_read : (form : Form) (choice : Choice) (reg : ℕ) (four code : List ℕ) (start : ℕ) → IsChoiceOf form choice
    → choice ≢ Keep → reg ≤ 15 → length four ≡ 4
    → part_at (form_length form) start code ≡ filled (new_field form choice) four (new_bytes form choice reg)
    → AreRead (new_instructions form choice reg (field_of four)) (drop (start + form_length form) code)
    (drop start code)
rewritten_read form choice reg four code start own changes low size is =
    let rest = drop (start + form_length form) code in
    let whole : filled (new_field form choice) four (new_bytes form choice reg) ++ rest ≡ drop start code =
    ap (λ front. front ++ rest) (sym is) ∙ split_there (form_length form) start code in
    subst (AreRead (new_instructions form choice reg (field_of four)) rest) whole
    (row_read form choice reg four rest own changes low size)

added_length : (b : Bool) (d e : Decoded) → d.len ≡ 7 → e.len ≡ 7 → length_of ((if b then d else e) ∷ []) ≡ 7
added_length true d e x y = omega (arith, x)
added_length false d e x y = omega (arith, y)

pub rewritten_whole : (form : Form) (choice : Choice) (reg x : ℕ) → IsChoiceOf form choice → choice ≢ Keep
    → length_of (new_instructions form choice reg x) ≡ form_length form
unfolding row
rewritten_whole Gd GdLe reg x own changes = refl
rewritten_whole GdInd GdLe reg x own changes = refl
rewritten_whole Gd GdIe reg x own changes = refl
rewritten_whole GdInd GdIe reg x own changes = refl
rewritten_whole Ld LdLe reg x own changes = refl
rewritten_whole LdInd LdLe reg x own changes = refl
rewritten_whole IeMov IeLe reg x own changes = refl
rewritten_whole IeAdd IeLe reg x own changes = added_length (reg % 8 == 4) _ _ refl refl
rewritten_whole DescLea DescLe reg x own changes = refl
rewritten_whole DescLea DescIe reg x own changes = refl
rewritten_whole DescCall DescLe reg x own changes = refl
rewritten_whole DescCall DescIe reg x own changes = refl
rewritten_whole form Keep reg x own changes = absurd (changes refl)
rewritten_whole form choice reg x own changes = absurd own
