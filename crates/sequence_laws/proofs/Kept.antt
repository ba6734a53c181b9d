-- What is read in a kept site, form by form.
use Rattle.std.proofs.Common.{◌≡◌, ℕ, ◌+◌, ◌*◌, ◌<◌, ◌≤◌, List, [], ◌∷◌, ◌++◌, length, drop, Option, Some, None, refl}
use Rattle.std.proofs.Common.{sym, ap, subst, ◌∙◌, arith, rules}
use Rattle.std.specs.Prelude.{IsTrue, ◌/◌, ◌%◌, ◌⊎◌, ◌==◌, if◌then◌else◌, slice_index}
use Rattle.std.proofs.Common.{inl, inr, add-zero, zero-add}
use Rattle.std.proofs.lemmas.List.{drop-drop, length-drop, get_or-drop}
use Rattle.elf_records.specs.Fields.{part_at}
use Rattle.elf_records.specs.Laws.{part_at-drop}
use Rattle.amd64_subset.specs.Spelling.{field_of}
use Rattle.amd64_subset.specs.Register.{register_of as numbered}
use Rattle.sequence_forms.specs.declared.forms.Form.{Form}
use Rattle.sequence_forms.specs.declared.forms.Form.TheVariants.{Gd, Ld, IeMov, IeAdd, GdInd, LdInd, DescLea, DescCall}
use Rattle.sequence_forms.specs.declared.forms.Cell.TheVariants.{Rex, ModRm}
use Rattle.sequence_forms.specs.declared.forms.Second.{Second}
use Rattle.sequence_forms.specs.Forms.{fits, register, row}
use Rattle.relax_sites.specs.Rows.{form_length}
use Rattle.sequence_laws.specs.Instructions.{kept_instructions, displaced, load, add, of_next}
use Rattle.sequence_laws.specs.Laws.{AreRead, HasCells, number_in, second_in, length_of}
use Rattle.sequence_laws.proofs.Shapes.{by_none, by_four, by_six, by_eight}
use Rattle.sequence_laws.proofs.Spelled.{Fit, open_in, spelled, open_length, spelled_again}
use Rattle.sequence_laws.proofs.Ones.{one, two, number, lea_rdi_8, lea_rdi_7, call_8, call_5, call_through_8}
use Rattle.sequence_laws.proofs.Ones.{call_through_6, lea_descriptor, call_descriptor}
use Rattle.sequence_laws.proofs.Ones.{loaded_low, loaded_high, added_low, added_high}

-- a site that begins these bytes
abbrev Reads : Form → List ℕ → List ℕ → Type 0
Reads form rest bytes = AreRead (kept_instructions form (register form bytes 0) (number_in bytes 0 (row form).first_at)
    (second_in bytes 0 (row form).second)) rest bytes

-- the same by what stands in its open cells
abbrev Opens : Form → List ℕ → List ℕ → Type 0
Opens form rest xs = Reads form rest (spelled (row form).cells xs ++ rest)

gd : (rest : List ℕ) (v w x y a b c d : ℕ) → Opens Gd rest (v ∷ w ∷ x ∷ y ∷ a ∷ b ∷ c ∷ d ∷ [])
unfolding row register part_at
gd rest v w x y a b c d = two _ _ rest _ _ (lea_rdi_8 v w x y) (call_8 a b c d)

ld : (rest : List ℕ) (v w x y a b c d : ℕ) → Opens Ld rest (v ∷ w ∷ x ∷ y ∷ a ∷ b ∷ c ∷ d ∷ [])
unfolding row register part_at
ld rest v w x y a b c d = two _ _ rest _ _ (lea_rdi_7 v w x y) (call_5 a b c d)

gd_ind : (rest : List ℕ) (v w x y a b c d : ℕ) → Opens GdInd rest (v ∷ w ∷ x ∷ y ∷ a ∷ b ∷ c ∷ d ∷ [])
unfolding row register part_at
gd_ind rest v w x y a b c d = two _ _ rest _ _ (lea_rdi_8 v w x y) (call_through_8 a b c d)

ld_ind : (rest : List ℕ) (v w x y a b c d : ℕ) → Opens LdInd rest (v ∷ w ∷ x ∷ y ∷ a ∷ b ∷ c ∷ d ∷ [])
unfolding row register part_at
ld_ind rest v w x y a b c d = two _ _ rest _ _ (lea_rdi_7 v w x y) (call_through_6 a b c d)

desc_lea : (rest : List ℕ) (a b c d : ℕ) → Opens DescLea rest (a ∷ b ∷ c ∷ d ∷ [])
unfolding row register part_at
desc_lea rest a b c d = one _ rest _ (lea_descriptor a b c d)

desc_call : (rest : List ℕ) → Opens DescCall rest []
unfolding row register part_at
desc_call rest = one _ rest _ call_descriptor

-- ** the two forms with a register

is_rex : (x : ℕ) → IsTrue (fits Rex x) → (x ≡ 0x48) ⊎ (x ≡ 0x4c)
is_rex x e = search rules

-- ModRM by the register between its mode and its operand
record IsModRm (x : ℕ) : Type 0 where
  low : x / 8 < 8
  is : x ≡ 5 + 8 * (x / 8)

modrm_parts : (x : ℕ) → IsTrue (fits ModRm x) → (x % 8 ≡ 5) × (x < 64)
modrm_parts x e = search rules

is_modrm : (x : ℕ) → IsTrue (fits ModRm x) → IsModRm x
is_modrm x e = let parts = modrm_parts x e in record { low = omega arith; is = omega arith }

-- what holds of REX and ModRM of each of the sixteen registers holds of what fits them
by_rex : (P : ℕ → ℕ → ℕ → Type 0) → ((r : ℕ) → r < 8 → P 0x48 (5 + 8 * r) r)
    → ((r : ℕ) → r < 8 → P 0x4c (5 + 8 * r) (r + 8)) → (x y : ℕ) → IsTrue (fits Rex x) → IsTrue (fits ModRm y)
    → P x y (y / 8 + (if x == 0x4c then 8 else 0))
by_rex P low high x y rex modrm =
    let m = is_modrm y modrm in
    let none : y / 8 + 0 ≡ y / 8 = omega arith in
    elim (is_rex x rex) [
      | inl e ↦ subst (λ (z : ℕ). P z y (y / 8 + (if z == 0x4c then 8 else 0))) (sym e)
          (subst (λ (r : ℕ). P 0x48 y r) (sym none)
          (subst (λ (z : ℕ). P 0x48 z (y / 8)) (sym m.is) (low (y / 8) m.low)))
      | inr e ↦ subst (λ (z : ℕ). P z y (y / 8 + (if z == 0x4c then 8 else 0))) (sym e)
          (subst (λ (z : ℕ). P 0x4c z (y / 8 + 8)) (sym m.is) (high (y / 8) m.low))
    ]

ie_mov : (rest : List ℕ) (x y a b c d : ℕ) → IsTrue (fits Rex x) → IsTrue (fits ModRm y)
    → Opens IeMov rest (x ∷ y ∷ a ∷ b ∷ c ∷ d ∷ [])
unfolding row register part_at
ie_mov rest x y a b c d rex modrm = by_rex
    (λ x y r. AreRead (displaced 7 3 (load (numbered r) of_next) (number a b c d) ∷ []) rest
    (x ∷ 0x8b ∷ y ∷ a ∷ b ∷ c ∷ d ∷ rest))
    (λ r low. one _ rest _ (loaded_low a b c d r low)) (λ r low. one _ rest _ (loaded_high a b c d r low)) x y rex modrm

ie_add : (rest : List ℕ) (x y a b c d : ℕ) → IsTrue (fits Rex x) → IsTrue (fits ModRm y)
    → Opens IeAdd rest (x ∷ y ∷ a ∷ b ∷ c ∷ d ∷ [])
unfolding row register part_at
ie_add rest x y a b c d rex modrm = by_rex
    (λ x y r. AreRead (displaced 7 3 (add (numbered r) of_next) (number a b c d) ∷ []) rest
    (x ∷ 0x03 ∷ y ∷ a ∷ b ∷ c ∷ d ∷ rest))
    (λ r low. one _ rest _ (added_low a b c d r low)) (λ r low. one _ rest _ (added_high a b c d r low)) x y rex modrm

-- ** any form

-- as the site's bytes have REX and ModRM
abbrev WithRegister : Form → List ℕ → List ℕ → Type 0
WithRegister form rest xs = IsTrue (fits Rex (slice_index (spelled (row form).cells xs ++ rest) 0))
    → IsTrue (fits ModRm (slice_index (spelled (row form).cells xs ++ rest) 2)) → Opens form rest xs

site_read : (form : Form) (bytes : List ℕ) → length ((row form).cells) ≤ length bytes → Fit (row form).cells bytes
    → Reads form (drop (form_length form) bytes) bytes
unfolding row
site_read Gd bytes room fit =
    let rest = drop (form_length Gd) bytes in
    let cells = (row Gd).cells in
    subst (Reads Gd rest) (spelled_again cells bytes room fit)
    (by_eight (Opens Gd rest) (gd rest) (open_in cells bytes) (open_length cells bytes room))
site_read Ld bytes room fit =
    let rest = drop (form_length Ld) bytes in
    let cells = (row Ld).cells in
    subst (Reads Ld rest) (spelled_again cells bytes room fit)
    (by_eight (Opens Ld rest) (ld rest) (open_in cells bytes) (open_length cells bytes room))
site_read GdInd bytes room fit =
    let rest = drop (form_length GdInd) bytes in
    let cells = (row GdInd).cells in
    subst (Reads GdInd rest) (spelled_again cells bytes room fit)
    (by_eight (Opens GdInd rest) (gd_ind rest) (open_in cells bytes) (open_length cells bytes room))
site_read LdInd bytes room fit =
    let rest = drop (form_length LdInd) bytes in
    let cells = (row LdInd).cells in
    subst (Reads LdInd rest) (spelled_again cells bytes room fit)
    (by_eight (Opens LdInd rest) (ld_ind rest) (open_in cells bytes) (open_length cells bytes room))
site_read IeMov bytes room fit =
    let rest = drop (form_length IeMov) bytes in
    let cells = (row IeMov).cells in
    let whole = spelled_again cells bytes room fit in
    subst (Reads IeMov rest) whole
    (by_six (WithRegister IeMov rest) (ie_mov rest) (open_in cells bytes) (open_length cells bytes room)
    (subst (λ (bs : List ℕ). IsTrue (fits Rex (slice_index bs 0))) (sym whole) (fit 0 Rex refl))
    (subst (λ (bs : List ℕ). IsTrue (fits ModRm (slice_index bs 2))) (sym whole) (fit 2 ModRm refl)))
site_read IeAdd bytes room fit =
    let rest = drop (form_length IeAdd) bytes in
    let cells = (row IeAdd).cells in
    let whole = spelled_again cells bytes room fit in
    subst (Reads IeAdd rest) whole
    (by_six (WithRegister IeAdd rest) (ie_add rest) (open_in cells bytes) (open_length cells bytes room)
    (subst (λ (bs : List ℕ). IsTrue (fits Rex (slice_index bs 0))) (sym whole) (fit 0 Rex refl))
    (subst (λ (bs : List ℕ). IsTrue (fits ModRm (slice_index bs 2))) (sym whole) (fit 2 ModRm refl)))
site_read DescLea bytes room fit =
    let rest = drop (form_length DescLea) bytes in
    let cells = (row DescLea).cells in
    subst (Reads DescLea rest) (spelled_again cells bytes room fit)
    (by_four (Opens DescLea rest) (desc_lea rest) (open_in cells bytes) (open_length cells bytes room))
site_read DescCall bytes room fit =
    let rest = drop (form_length DescCall) bytes in
    let cells = (row DescCall).cells in
    subst (Reads DescCall rest) (spelled_again cells bytes room fit)
    (by_none (Opens DescCall rest) (desc_call rest) (open_in cells bytes) (open_length cells bytes room))

-- ** at a place of some code

register_there : (form : Form) (code : List ℕ) (start : ℕ)
    → register form (drop start code) 0 ≡ register form code start
unfolding register
register_there IeMov code start = rw (get_or-drop start code 0 0, get_or-drop start code 2 0, add-zero) refl
register_there IeAdd code start = rw (get_or-drop start code 0 0, get_or-drop start code 2 0, add-zero) refl
register_there Gd code start = refl
register_there Ld code start = refl
register_there GdInd code start = refl
register_there LdInd code start = refl
register_there DescLea code start = refl
register_there DescCall code start = refl

number_there : (code : List ℕ) (start at : ℕ) → number_in (drop start code) 0 at ≡ number_in code start at
number_there code start at =
    ap (λ k. field_of (part_at 4 k (drop start code))) (zero-add at) ∙ ap field_of (part_at-drop 4 at start code)

second_there : (code : List ℕ) (start : ℕ) (second : Option Second)
    → second_in (drop start code) 0 second ≡ second_in code start second
second_there code start None = refl
second_there code start (Some second) = number_there code start second.at

moved : (form : Form) (reg reg' first first' second second' : ℕ) (rest rest' bytes : List ℕ) → reg ≡ reg'
    → first ≡ first' → second ≡ second' → rest ≡ rest' → AreRead (kept_instructions form reg first second) rest bytes
    → AreRead (kept_instructions form reg' first' second') rest' bytes
moved form reg reg' first first' second second' rest rest' bytes r f s t all =
    subst (λ (x : ℕ). AreRead (kept_instructions form x first' second') rest' bytes) r
    (subst (λ (x : ℕ). AreRead (kept_instructions form reg x second') rest' bytes) f
    (subst (λ (x : ℕ). AreRead (kept_instructions form reg first x) rest' bytes) s
    (subst (λ (x : List ℕ). AreRead (kept_instructions form reg first second) x bytes) t all)))

pub kept_read : (form : Form) (code : List ℕ) (start : ℕ) → HasCells code (row form).cells start
    → AreRead (kept_instructions form (register form code start) (number_in code start (row form).first_at)
    (second_in code start (row form).second)) (drop (start + form_length form) code) (drop start code)
kept_read form code start is =
    let bytes = drop start code in
    let room : length ((row form).cells) ≤ length bytes = omega (arith, is.inside, length-drop start code) in
    let fit : Fit (row form).cells bytes =
    λ k cell e. subst (λ (b : ℕ). IsTrue (fits cell b)) (sym (get_or-drop start code k 0)) (is.fit k cell e) in
    moved form _ _ _ _ _ _ _ _ bytes (register_there form code start) (number_there code start (row form).first_at)
    (second_there code start (row form).second) (drop-drop (form_length form) start code)
    (site_read form bytes room fit)

pub kept_whole : (form : Form) (reg first second : ℕ)
    → length_of (kept_instructions form reg first second) ≡ form_length form
unfolding row
kept_whole Gd reg first second = refl
kept_whole Ld reg first second = refl
kept_whole IeMov reg first second = refl
kept_whole IeAdd reg first second = refl
kept_whole GdInd reg first second = refl
kept_whole LdInd reg first second = refl
kept_whole DescLea reg first second = refl
kept_whole DescCall reg first second = refl
