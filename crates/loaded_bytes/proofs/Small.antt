-- Of objects that are bytes all that stands in a section is a byte.
use Rattle.std.proofs.Common.{◌≡◌, ◌+◌, ◌-◌, ◌*◌, ◌<◌, ◌%◌, ◌&&◌, ◌==◌, ℕ, zero, suc, Bool, true, false, not, List, []}
use Rattle.std.proofs.Common.{◌∷◌, ◌++◌, Option, Some, None, drop, length, take, arith, refl, if◌then◌else◌}
use Rattle.std.specs.Prelude.{nat_lt, slice_index_or, slice_range, unwrap_or}
use Rattle.std.specs.Int.{byte_at, bytes_low_first}
use Rattle.std.specs.List.{All, find}
use Rattle.std.proofs.lemmas.Bool.Decides.{nat_tests}
use Rattle.std.proofs.lemmas.List.Elements.{All-append, All-cons, All-drop, All-nil, All-take}
use Rattle.elf_object.specs.declared.relocation.Relocation.{Relocation}
use Rattle.elf_object.specs.Lent.{relocations, section_bytes}
use Rattle.elf_object.specs.Parts.{is_section, section}
use Rattle.elf_records.specs.declared.section_header.TheConstants.{SHT_NULL, SHT_NOBITS}
use Rattle.elf_records.specs.Fields.{bytes_of, splice}
use Rattle.elf_records.specs.FieldLaws.{AreBytes}
use Rattle.link_core.specs.Meant.{is_in_field, is_in_rewritten, rewritten_bytes, row_with, site_byte}
use Rattle.link_needs.specs.Linking.{Linking, choice, object, sites_at}
use Rattle.link_needs.specs.Needs.{new_relocation}
use Rattle.link_needs.specs.Values.{field}
use Rattle.relax_sites.specs.declared.choices.Choice.{Choice}
use Rattle.relax_sites.specs.declared.choices.Choice.TheVariants.{GdLe, GdIe, LdLe, IeLe, DescLe, DescIe}
use Rattle.relax_sites.specs.declared.rows.NewField.{NewField}
use Rattle.relax_sites.specs.Rows.{add_bytes, field_of_zeros, mov_bytes, new_bytes, new_field, rex_rm}
use Rattle.sequence_forms.specs.declared.forms.Form.{Form}
use Rattle.sequence_forms.specs.declared.forms.Form.TheVariants.{Gd, Ld, IeMov, IeAdd, GdInd, LdInd, DescLea, DescCall}
use Rattle.sequence_forms.specs.declared.places.Site.{Site}
use Rattle.tls_relocs.specs.declared.fields.Field.{Field}
use Rattle.tls_relocs.specs.declared.fields.Field.TheVariants.{Empty, Word32, Word64}
use Rattle.tls_relocs.specs.Fields.{field_bytes}
use Rattle.whole_meaning.specs.Spots.{Spot, spot_in}
use Rattle.loaded_bytes.specs.Bytes.{byte_of_spot, field_byte, loaded_byte, loaded_field}
use Rattle.loaded_bytes.specs.Bytes as bytes
use Rattle.loaded_bytes.specs.Small.{BytesAreSmall}

-- ** lists of bytes

abbrev Small : ℕ → Type 0
Small byte = byte < 256

small_or : (xs : List ℕ) (k : ℕ) → AreBytes xs → slice_index_or xs k 0 < 256
small_or [] k small = omega arith
small_or (x ∷ xs) zero small = small 0 0 (omega arith)
small_or (x ∷ xs) (suc k) small = small_or xs k (λ i d below. small (suc i) d (omega (arith, below)))

small_none : AreBytes []
small_none = All-nil Small

small_more : (x : ℕ) (xs : List ℕ) → x < 256 → AreBytes xs → AreBytes (x ∷ xs)
small_more x xs first rest = All-cons Small x xs first rest

-- by computing
are_small : List ℕ → Bool
are_small [] = true
are_small (x ∷ xs) = nat_lt x 256 && are_small xs

by_test : (xs : List ℕ) → are_small xs ≡ true → AreBytes xs
unfolding are_small
by_test [] e = small_none
by_test (x ∷ xs) e = let parts = both x (are_small xs) e in small_more x xs parts.0 (by_test xs parts.1)
  where
    both : (n : ℕ) (rest : Bool) → (nat_lt n 256 && rest) ≡ true → (n < 256) × (rest ≡ true)
    both n rest e = grind (arith, nat_tests)

low_small : (i k n : ℕ) → AreBytes (bytes_low_first i k n)
low_small i zero n = small_none
low_small i (suc k) n = small_more (byte_at i n) (bytes_low_first (suc i) k n) (byte_small i n) (low_small (suc i) k n)
  where
    byte_small : (i n : ℕ) → byte_at i n < 256
    byte_small zero n = omega arith
    byte_small (suc i) n = omega arith

field_small : (f : Field) → AreBytes (field_bytes f)
unfolding bytes_of
field_small Empty = small_none
field_small (Word32 w) = low_small 0 4 w
field_small (Word64 w) = low_small 0 8 w

-- ** the rows that stand in the place of sequences

zeros_small : AreBytes field_of_zeros
unfolding are_small
zeros_small = by_test field_of_zeros refl

rex_small : (reg a b : ℕ) → a < 256 → b < 256 → (if nat_lt reg 8 then a else b) < 256
rex_small reg a b first second = of_test (nat_lt reg 8)
  where
    of_test : (t : Bool) → (if t then a else b) < 256
    of_test true = first
    of_test false = second

mov_small : (reg : ℕ) → AreBytes (mov_bytes reg)
mov_small reg =
    let rest : reg % 8 < 8 = omega arith in
    small_more (rex_rm reg) (0xc7 ∷ (0xc0 + reg % 8) ∷ field_of_zeros)
    (rex_small reg 0x48 0x49 (omega arith) (omega arith))
    (small_more 0xc7 ((0xc0 + reg % 8) ∷ field_of_zeros) (omega arith)
    (small_more (0xc0 + reg % 8) field_of_zeros (omega (arith, rest)) zeros_small))

add_small : (reg : ℕ) → AreBytes (add_bytes reg)
add_small reg = of_test (reg % 8 == 4)
  where
    of_test : (t : Bool)
        → AreBytes (if t
        then rex_rm reg ∷ 0x81 ∷ 0xc4 ∷ field_of_zeros
        else (if nat_lt reg 8 then 0x48 else 0x4d) ∷ 0x8d ∷ (0x80 + 9 * (reg % 8)) ∷ field_of_zeros)
    of_test true =
        small_more (rex_rm reg) (0x81 ∷ 0xc4 ∷ field_of_zeros) (rex_small reg 0x48 0x49 (omega arith) (omega arith))
        (small_more 0x81 (0xc4 ∷ field_of_zeros) (omega arith)
        (small_more 0xc4 field_of_zeros (omega arith) zeros_small))
    of_test false =
        let rest : reg % 8 < 8 = omega arith in
        small_more (if nat_lt reg 8 then 0x48 else 0x4d) (0x8d ∷ (0x80 + 9 * (reg % 8)) ∷ field_of_zeros)
        (rex_small reg 0x48 0x4d (omega arith) (omega arith))
        (small_more 0x8d ((0x80 + 9 * (reg % 8)) ∷ field_of_zeros) (omega arith)
        (small_more (0x80 + 9 * (reg % 8)) field_of_zeros (omega (arith, rest)) zeros_small))

row_small : (form : Form) (chosen : Choice) (reg : ℕ) → AreBytes (new_bytes form chosen reg)
unfolding are_small
row_small IeMov IeLe reg = mov_small reg
row_small IeAdd IeLe reg = add_small reg
row_small Gd GdLe reg = by_test (new_bytes Gd GdLe reg) refl
row_small GdInd GdLe reg = by_test (new_bytes GdInd GdLe reg) refl
row_small Gd GdIe reg = by_test (new_bytes Gd GdIe reg) refl
row_small GdInd GdIe reg = by_test (new_bytes GdInd GdIe reg) refl
row_small Ld LdLe reg = by_test (new_bytes Ld LdLe reg) refl
row_small LdInd LdLe reg = by_test (new_bytes LdInd LdLe reg) refl
row_small DescLea DescLe reg = by_test (new_bytes DescLea DescLe reg) refl
row_small DescLea DescIe reg = by_test (new_bytes DescLea DescIe reg) refl
row_small DescCall DescLe reg = by_test (new_bytes DescCall DescLe reg) refl
row_small DescCall DescIe reg = by_test (new_bytes DescCall DescIe reg) refl
row_small form other reg = small_none

splice_small : (at : ℕ) (new old : List ℕ) → AreBytes new → AreBytes old → AreBytes (splice at new old)
unfolding splice
splice_small at new old first second =
    All-append Small (take at old) (new ++ drop (at + length new) old) (All-take Small at old second)
    (All-append Small new (drop (at + length new) old) first (All-drop Small (at + length new) old second))

module _ (l : Linking) where
  rewritten_small : (o : ℕ) (site : Site) → AreBytes (rewritten_bytes l o site)
  unfolding rewritten_bytes
  rewritten_small o site = of_field (new_field site.form (choice l o site))
    where
      of_field : (f : Option NewField) → AreBytes (row_with l o site f)
      of_field None = row_small site.form (choice l o site) site.reg
      of_field (Some f) =
          splice_small f.at (field_bytes (unwrap_or (field l o site.section (new_relocation site f)) Empty))
          (new_bytes site.form (choice l o site) site.reg)
          (field_small (unwrap_or (field l o site.section (new_relocation site f)) Empty))
          (row_small site.form (choice l o site) site.reg)

  -- ** a byte of a section

  section_small : (b : List ℕ) (s : ℕ) → AreBytes b → AreBytes (section_bytes b s)
  unfolding section_bytes
  section_small b s small =
      of_test (is_section b s && (not ((section b s).kind == SHT_NULL) && not ((section b s).kind == SHT_NOBITS)))
    where
      from : ℕ
      from = (section b s).offset

      to : ℕ
      to = (section b s).offset + (section b s).size

      of_test : (t : Bool) → AreBytes (if t then slice_range b from to else [])
      of_test true = All-take Small (to - from) (drop from b) (All-drop Small from b small)
      of_test false = small_none

  object_small : (o : ℕ) (bs : List (List ℕ)) → All AreBytes bs → AreBytes (slice_index_or bs o [])
  object_small o [] small = small_none
  object_small zero (b ∷ bs) small = small 0 [] (omega arith)
  object_small (suc o) (b ∷ bs) small = object_small o bs (λ i d below. small (suc i) d (omega (arith, below)))

  loaded_small : (bias : ℕ) → All AreBytes l.objects → (o t k : ℕ) → loaded_byte l bias o t k < 256
  unfolding loaded_byte
  loaded_small bias small o t k =
      of_site (find (is_in_rewritten l o t k) (sites_at l o))
      (of_field (find (is_in_field l o k) (relocations (object l o) t)))
    where
      own : ℕ
      own = slice_index_or (section_bytes (object l o) t) k 0

      of_field : (r : Option Relocation)
          → field_byte l bias o t k r (slice_index_or (section_bytes (object l o) t) k 0) < 256
      of_field None =
          small_or (section_bytes (object l o) t) k
          (section_small (object l o) t (object_small o l.objects small))
      of_field (Some r) =
          small_or (field_bytes (unwrap_or (loaded_field l bias o t r) Empty)) (k - r.offset)
          (field_small (unwrap_or (loaded_field l bias o t r) Empty))

      of_site : {other : ℕ} (site : Option Site) → other < 256 → site_byte l o k site other < 256
      of_site None below = below
      of_site (Some site) below = small_or (rewritten_bytes l o site) (k - site.start) (rewritten_small o site)

-- the law
pub bytes_small : BytesAreSmall
unfolding bytes.byte_at
bytes_small l bias class address small = of_spot (spot_in l class address)
  where
    of_spot : (found : Option Spot) → byte_of_spot l bias found < 256
    of_spot None = omega arith
    of_spot (Some spot) = loaded_small l bias small spot.object spot.section spot.within
