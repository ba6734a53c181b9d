-- The words that a loader writes over those of the table.
use Rattle.std.proofs.Common.{◌≡◌, ◌∙◌, ◌+◌, ◌-◌, ◌^◌, ◌<◌, ◌≤◌, ◌⊎◌, ◌&&◌, ◌==◌, ℕ, false, List, ◌∷◌, Option, Some}
use Rattle.std.proofs.Common.{None}
use Rattle.std.proofs.Common.{inl, inr, refl, ap, arith}
use Rattle.std.specs.Prelude.{nat_le, nat_lt, unwrap_or}
use Rattle.std.specs.Int.{w64, cast_signed, cast_unsigned}
use Rattle.std.specs.List.{find}
use Rattle.std.proofs.lemmas.Bool.{le-ltb, lt-ltb}
use Rattle.std.proofs.lemmas.Bool.Decides.{nat_tests}
use Rattle.std.proofs.lemmas.Int.{of_z-to_z}
use Rattle.got_pairs.specs.declared.entry.DynamicKind.{DynamicKind}
use Rattle.got_pairs.specs.declared.entry.DynamicSymbol.TheVariants.{Image, Imported}
use Rattle.guest_arithmetic.specs.Values.{digit}
use Rattle.image_file.specs.declared.relocation.ImageRelocation.{ImageRelocation}
use Rattle.image_writer.specs.Linkable.{width}
use Rattle.link_core.specs.Dynamic.{number_of, relocation_of}
use Rattle.link_core.specs.Images.{image_of}
use Rattle.link_needs.specs.Linking.{Linking}
use Rattle.loaded_modules.specs.declared.instance.Instance.{Instance}
use Rattle.loaded_modules.specs.declared.exports.Export.{Export}
use Rattle.loaded_modules.specs.Images.{JobImages}
use Rattle.loaded_modules.specs.Loader.{export_of, export_target, name_of, target_of}
use Rattle.relocated_parts.specs.Left.{byte_by, digit_of_two, first_word, is_written_at, second_word, written_byte}
use Rattle.loaded_bytes.proofs.FieldBytes.{written_so}
use Rattle.loaded_words.specs.Words.{Variable, exported}

-- ** bytes of two words

pub front : (first second i : ℕ) → i < 8 → digit_of_two first second i ≡ digit first i
front first second i below = rw (lt-ltb i 8 below) refl

pub behind : (first second i : ℕ) → i < 8 → digit_of_two first second (8 + i) ≡ digit second i
behind first second i below =
    let rest : 8 + i - 8 ≡ i = omega arith in rw (le-ltb (8 + i) 8 (omega arith)) (ap (digit second) rest)

-- an addend is kept as it is
pub kept_addend : (n : ℕ) → n < 2 ^ 64 → cast_unsigned w64 (cast_signed w64 n) ≡ n
kept_addend n small = of_z-to_z w64 n small

missed : (a p e : ℕ) → (a < p) ⊎ (e ≤ a) → (nat_le p a && nat_lt a e) ≡ false
missed a p e (inl before) = grind (arith, nat_tests)
missed a p e (inr after) = grind (arith, nat_tests)

not_zero : (n : ℕ) → (1 + n == 0) ≡ false
not_zero n = grind (arith, nat_tests)

module _ (m : JobImages) (l : Linking) (x : Instance) where
  -- ** which relocation writes

  pub hit : (r : ImageRelocation) (rs : List ImageRelocation) (i own : ℕ) → i < width r.kind
      → byte_by m (image_of l) x (r.place + i) own (find (is_written_at (r.place + i)) (r ∷ rs))
      ≡ written_byte m (image_of l) x r i
  hit r rs i own below =
      let first : find (is_written_at (r.place + i)) (r ∷ rs) ≡ Some r =
      rw (written_so (r.place + i) r (omega arith) (omega (arith, below))) refl in
      let index : r.place + i - r.place ≡ i = omega arith in
      ap (byte_by m (image_of l) x (r.place + i) own) first ∙ ap (written_byte m (image_of l) x r) index

  pub miss : (address : ℕ) (r : ImageRelocation) (rs : List ImageRelocation)
      → (address < r.place) ⊎ (r.place + width r.kind ≤ address)
      → find (is_written_at address) (r ∷ rs) ≡ find (is_written_at address) rs
  miss address r rs out = rw (missed address r.place (r.place + width r.kind) out) refl

  -- ** what it writes

  abbrev pub own : ℕ → DynamicKind → ℕ → ImageRelocation
  own place kind addend = relocation_of l place (record { kind = kind; symbol = Image; addend = addend })

  abbrev pub imported : ℕ → DynamicKind → List ℕ → ImageRelocation
  imported place kind name = relocation_of l place (record { kind = kind; symbol = Imported name; addend = 0 })

  -- byte i of the words of a relocation that asks for a variable
  abbrev pub words_by : Variable → ImageRelocation → ℕ → ℕ
  words_by v r i =
      digit_of_two (first_word (image_of l).kind x v.id v.offset v.distance r.kind r.addend)
      (second_word v.id v.offset) i

  pub own_written : (place : ℕ) (kind : DynamicKind) (addend i : ℕ)
      → written_byte m (image_of l) x (own place kind addend) i
      ≡ words_by (record {
        id = x.id;
        offset = cast_unsigned w64 (cast_signed w64 addend);
        distance = unwrap_or x.offset 0;
      })
      (own place kind addend) i
  unfolding target_of
  own_written place kind addend i = refl

  abbrev by_export : ImageRelocation → ℕ → Option Export → ℕ
  by_export r i found =
      let t = export_target m found in
      digit_of_two (first_word (image_of l).kind x t.id t.offset t.distance r.kind r.addend)
      (second_word t.id t.offset) i

  same_export : (r : ImageRelocation) (i : ℕ) (found : Option Export)
      → by_export r i found ≡ words_by (exported m found) r i
  same_export r i None = refl
  same_export r i (Some e) = refl

  not_own : (r : ImageRelocation) (i : ℕ) → (r.symbol == 0) ≡ false
      → written_byte m (image_of l) x r i ≡ by_export r i (export_of m (name_of (image_of l) r.symbol))
  unfolding target_of
  not_own r i some = rw some refl

  pub import_written : (place : ℕ) (kind : DynamicKind) (name : List ℕ)
      → name_of (image_of l) (number_of l (Imported name)) ≡ name → (i : ℕ)
      → written_byte m (image_of l) x (imported place kind name) i
      ≡ words_by (exported m (export_of m name)) (imported place kind name) i
  import_written place kind name named i =
      not_own (imported place kind name) i (not_zero _)
      ∙ ap (λ n. by_export (imported place kind name) i (export_of m n)) named
      ∙ same_export (imported place kind name) i (export_of m name)
