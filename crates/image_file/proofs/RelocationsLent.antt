-- A relocation of an image names a symbol that there is.
use Rattle.std.proofs.Common.{◌≡◌, ◌∙◌, ◌<◌, ℕ, List, Option, Some, None, IfSome, refl, inl, inr, sym, ap, arith}
use Rattle.std.specs.List.{slice_get}
use Rattle.std.proofs.lemmas.Bool.{cases_lt}
use Rattle.std.proofs.lemmas.Option.{slice_get_within}
use Rattle.elf_records.specs.Records.{rela_symbol}
use Rattle.image_rules.specs.declared.rule.Rule.TheVariants.{Table}
use Rattle.image_rules.specs.declared.rule.TableRule.TheVariants.{Relocation}
use Rattle.image_faults.specs.Array.{symbol_count, relocation_count}
use Rattle.image_faults.specs.Relocations.{rela}
use Rattle.image_faults.specs.Faults.{IsImage, Breaks}
use Rattle.image_file.specs.declared.relocation.ImageRelocation.{ImageRelocation}
use Rattle.image_file.specs.Spelled.{relocation_of, spelled}
use Rattle.image_file.specs.Tabled.{tabled_at, length-tabled}

names_a_symbol : (b : List ℕ) → IsImage b → (n : ℕ) → n < relocation_count b → rela_symbol (rela b n) < symbol_count b
unfolding Breaks
names_a_symbol b image n h = elim (cases_lt (rela_symbol (rela b n)) (symbol_count b)) [
  | inl below ↦ below
  | inr past ↦ absurd (image (Table Relocation) n (h, λ right. omega (arith, right.0.0, past)))
]

symbol_of_relocation : (b : List ℕ) (n : ℕ) → (relocation_of (rela b n)).symbol ≡ rela_symbol (rela b n)
unfolding relocation_of
symbol_of_relocation b n = refl

-- what is lent of one, if there is one
pub symbol_within : (b : List ℕ) (m n : ℕ) (o : Option ImageRelocation) → IsImage b → symbol_count b ≡ m
    → o ≡ slice_get (spelled b).relocations n
    → IfSome o (λ r. r.symbol < m)
symbol_within b m n None image count same = tt
symbol_within b m n (Some r) image count same =
    let f = λ (k : ℕ). relocation_of (rela b k) in
    let long = length-tabled f (relocation_count b) in
    let within = slice_get_within (spelled b).relocations n r (sym same) in
    let h : n < relocation_count b = omega (arith, within, long) in
    let there : Some r ≡ Some (relocation_of (rela b n)) = same ∙ tabled_at f (relocation_count b) n h in
    let one : r ≡ relocation_of (rela b n) = cc in
    let symbol : r.symbol ≡ rela_symbol (rela b n) = ap (λ x. x.symbol) one ∙ symbol_of_relocation b n in
    omega (arith, symbol, names_a_symbol b image n h, count)
