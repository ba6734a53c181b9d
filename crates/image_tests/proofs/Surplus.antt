-- What a linker owes is met by a module that asks for its thread-local data at a fixed distance, whatever its bytes.
use Rattle.std.proofs.Common.{◌≡◌, ℕ, ◌+◌, ◌<◌, ◌≤◌, true, List, [], ◌∷◌, Some, length}
use Rattle.std.proofs.Common.{refl, zero, suc, ap, sym, subst, inl, inr, arith}
use Rattle.std.specs.Prelude.{codes, pos}
use Rattle.elf_records.specs.Fields.{bytes_of, part_at}
use Rattle.elf_records.specs.Fields as fields
use Rattle.std.proofs.lemmas.List.Elements.{All-cons}
use Rattle.elf_records.specs.Records.{dynamic_bytes, symbol_bytes, rela_bytes}
use Rattle.image_rules.specs.declared.places.FileKind.TheVariants.{Module}
use Rattle.image_faults.specs.declared.loader_kind.LoaderKind.TheVariants.{ThreadOffset}
use Rattle.image_faults.specs.Counts.{how_many, behind_last}
use Rattle.image_file.specs.declared.part.PartClass.TheVariants.{Executable, ReadOnly, Writable}
use Rattle.image_file.specs.declared.part.TlsPart.{TlsPart}
use Rattle.elf_records.specs.declared.symbol.SymbolType.TheVariants.{Func, Tls}
use Rattle.image_file.specs.declared.relocation.ImageRelocation.{ImageRelocation}
use Rattle.image_file.specs.Tabled.{tabled}
use Rattle.image_writer.specs.Contents.{Contents}
use Rattle.image_writer.specs.Tables.{tables, array, strings, hash_words, symbol_rows, symbol_entry, relocation_entry}
use Rattle.image_writer.specs.Tables.{tables_part, finished}
use Rattle.image_writer.specs.Outlined.{Outlined, outline_of, part, end_of}
use Rattle.image_writer.specs.Loadable.{IsLoadable, IsRightPart, HoldsTls}
use Rattle.image_tests.proofs.Pieces.{symbol_of, part_of, place, named, has}
use Rattle.image_writer.specs.Linkable.{IsLinkable, IsRightSymbol, IsRightRelocation, Holds}

-- the TLS segment
abbrev pub tls_part : TlsPart
tls_part = record { address = 0x1000; initial = 4; size = 8; alignment = 4 }

-- the one relocation
abbrev pub relocation : ImageRelocation
relocation = record { place = 0x2000; kind = ThreadOffset; symbol = 0; addend = pos 0 }

-- the contents, with the bytes of the parts
abbrev pub contents : (code initial got : List ℕ) → Contents
contents code initial got = record {
  kind = Module;
  parts = part_of Executable 0 code ∷ part_of ReadOnly 0x1000 initial ∷ part_of Writable 0x2000 got ∷ [];
  got = Some 2;
  tls = Some tls_part;
  symbols = symbol_of Func true 0 8 ∷ symbol_of Tls true 0 4 ∷ [];
  names = codes "f" ∷ codes "v" ∷ [];
  relocations = relocation ∷ [];
  is_flagged = true;
}

-- where the parts lie
abbrev pub outline : Outlined
outline = record {
  kind = Module;
  parts = place Executable 0 8 ∷ place ReadOnly 0x1000 4 ∷ place Writable 0x2000 8 ∷ place ReadOnly 0x3000 285 ∷ [];
  array_size = 160;
  got = Some 2;
  tls = Some tls_part;
}

-- the tables have 285 bytes
pub tables-size : (code initial got : List ℕ) → length (tables (contents code initial got)) ≡ 285
unfolding tables array strings hash_words symbol_rows symbol_entry relocation_entry tabled bytes_of dynamic_bytes symbol_bytes rela_bytes fields.spelled
tables-size code initial got = refl

-- each part is right
pub right_part : (i : ℕ) → i < 4 → IsRightPart outline i
right_part zero h = record
    { filled = omega arith; paged = refl; above = omega arith; below = omega arith; rising = inl refl }
right_part (suc zero) h =
    record { filled = omega arith; paged = refl; above = omega arith; below = omega arith; rising = inr (omega arith) }
right_part (suc (suc zero)) h =
    record { filled = omega arith; paged = refl; above = omega arith; below = omega arith; rising = inr (omega arith) }
right_part (suc (suc (suc zero))) h =
    record { filled = omega arith; paged = refl; above = omega arith; below = omega arith; rising = inr (omega arith) }
right_part (suc (suc (suc (suc i)))) h = absurd (omega (arith, h))

-- a page of headers can tell the image
pub loadable : IsLoadable outline
unfolding how_many behind_last
loadable = record {
  some = omega arith;
  few = omega arith;
  parts = right_part;
  few_written = omega arith;
  got_is = λ g e. (let same : 2 ≡ g = cc in ap (λ n. n + 1) same);
  last_constant = refl;
  array_in = omega arith;
  tls_is = record {
    placed = omega arith;
    initial_in = omega arith;
    filled = omega arith;
    small = omega arith;
    alignment = (2, omega arith, refl);
    aligned = refl;
    held = inr (1, (omega arith, refl, refl, refl));
  };
}

-- how many bytes the parts have
pub record AreSized (code initial got : List ℕ) : Type 0 where
  pub code_has : length code ≡ 8
  pub initial_has : length initial ≡ 4
  pub got_has : length got ≡ 8

-- where the parts of the finished image lie
pub outlined : (code initial got : List ℕ) → AreSized code initial got
    → outline_of (finished (contents code initial got)) ≡ outline
unfolding finished tables_part
outlined code initial got s = rw (s.code_has, s.initial_has, s.got_has, tables-size code initial got) refl

-- each symbol is right
pub right_symbol : (code initial got : List ℕ) (k : ℕ) → 0 < k → k ≤ 2 → IsRightSymbol (contents code initial got) k
right_symbol code initial got zero p h = absurd (omega (arith, p))
right_symbol code initial got (suc zero) p h =
    record { shared = λ e. cc; named = named (codes "f") refl; inside = λ e d. absurd cc }
right_symbol code initial got (suc (suc zero)) p h =
    record { shared = λ e. cc; named = named (codes "v") refl; inside = λ e d. omega arith }
right_symbol code initial got (suc (suc (suc k))) p h = absurd (omega (arith, h))

-- the relocation lies in the GOT
held : (code initial got : List ℕ) → AreSized code initial got
    → Holds (contents code initial got) relocation 2
held code initial got s =
    let In : Outlined → Type 0 = λ o. (2 < 3) × ((part o 2).address ≤ 0x2000) × (0x2000 + 8 ≤ end_of (part o 2)) in
    subst In (sym (outlined code initial got s)) (omega arith, omega arith, omega arith)

-- so it is right
right_relocation : (code initial got : List ℕ) → AreSized code initial got
    → IsRightRelocation (contents code initial got) relocation
right_relocation code initial got s = record {
  symbol_in = omega arith;
  names = inl refl;
  own = λ e. (refl, (omega arith, omega arith));
  held = (2, held code initial got s);
}

-- a linker may make this image
pub linkable : (code initial got : List ℕ) → AreSized code initial got
    → IsLinkable (contents code initial got)
linkable code initial got s =
    let e = outlined code initial got s in
    record {
      loadable = subst IsLoadable (sym e) loadable;
      holds_tls = subst HoldsTls (sym e) (omega arith);
      named = refl;
      symbols = right_symbol code initial got;
      relocations = All-cons (IsRightRelocation (contents code initial got)) relocation []
          (right_relocation code initial got s) (λ k d h. absurd (omega (arith, h)));
      rising = tt;
      flagged = λ e. refl;
    }

-- the bytes of the parts in a file of this length
pub in_file : (file : List ℕ) → length file ≡ 12296
    → AreSized (part_at 8 4096 file) (part_at 4 8192 file) (part_at 8 12288 file)
in_file file h = record {
  code_has = has 8 4096 file (omega (arith, h));
  initial_has = has 4 8192 file (omega (arith, h));
  got_has = has 8 12288 file (omega (arith, h));
}

-- the contents whose parts' bytes stand in a file
abbrev pub file_contents : List ℕ → Contents
file_contents file = contents (part_at 8 4096 file) (part_at 4 8192 file) (part_at 8 12288 file)

-- a linker may make this image of them
pub file_linkable : (file : List ℕ) → length file ≡ 12296 → IsLinkable (file_contents file)
file_linkable file h = linkable (part_at 8 4096 file) (part_at 4 8192 file) (part_at 8 12288 file) (in_file file h)
