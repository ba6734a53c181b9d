-- What a linker owes is met by a program with data, a GOT and a stub, whatever the bytes of its parts.
use Rattle.std.proofs.Common.{◌≡◌, ℕ, ◌+◌, ◌<◌, ◌≤◌, true, false, List, [], ◌∷◌, Some, length}
use Rattle.std.proofs.Common.{refl, zero, suc, ap, sym, subst, inl, inr, arith}
use Rattle.std.specs.Prelude.{codes, pos}
use Rattle.elf_records.specs.Fields.{bytes_of, part_at}
use Rattle.elf_records.specs.Fields as fields
use Rattle.std.proofs.lemmas.List.Elements.{All-cons}
use Rattle.elf_records.specs.Records.{dynamic_bytes, symbol_bytes, rela_bytes}
use Rattle.image_rules.specs.declared.places.FileKind.TheVariants.{Exe}
use Rattle.image_faults.specs.declared.loader_kind.LoaderKind.TheVariants.{JumpSlot}
use Rattle.image_faults.specs.Counts.{how_many, behind_last}
use Rattle.image_file.specs.declared.part.PartClass.TheVariants.{Executable, ReadOnly, Writable}
use Rattle.image_file.specs.declared.part.TlsPart.{TlsPart}
use Rattle.elf_records.specs.declared.symbol.SymbolType.TheVariants.{NoType, Object, Func, Tls}
use Rattle.image_file.specs.declared.relocation.ImageRelocation.{ImageRelocation}
use Rattle.image_file.specs.Tabled.{tabled}
use Rattle.image_writer.specs.Contents.{Contents}
use Rattle.image_writer.specs.Tables.{tables, array, strings, hash_words, symbol_rows, symbol_entry, relocation_entry}
use Rattle.image_writer.specs.Tables.{tables_part, finished}
use Rattle.image_writer.specs.Outlined.{Outlined, outline_of, part, end_of}
use Rattle.image_writer.specs.Loadable.{IsLoadable, IsRightPart, HoldsTls}
use Rattle.image_tests.proofs.Pieces.{symbol_of, part_of, place, named, has}
use Rattle.image_writer.specs.Linkable.{IsLinkable, IsRightSymbol, IsRightRelocation, Holds}

-- the TLS segment
abbrev pub tls_part : TlsPart
tls_part = record { address = 0x401000; initial = 20; size = 20; alignment = 8 }

-- the one relocation
abbrev pub relocation : ImageRelocation
relocation = record { place = 0x403010; kind = JumpSlot; symbol = 4; addend = pos 0 }

-- the contents, with the bytes of the parts
abbrev pub contents : (code initial values got stub : List ℕ) → Contents
contents code initial values got stub = record {
  kind = Exe;
  parts = part_of Executable 0x400000 code ∷ part_of ReadOnly 0x401000 initial ∷ part_of Writable 0x402000 values
      ∷ part_of Writable 0x403000 got ∷ part_of Executable 0x404000 stub ∷ [];
  got = Some 3;
  tls = Some tls_part;
  symbols = symbol_of Func true 0x400000 23 ∷ symbol_of Tls true 8 4 ∷ symbol_of Object true 0x402000 4
      ∷ symbol_of NoType false 0 0 ∷ [];
  names = codes "f" ∷ codes "x" ∷ codes "n" ∷ codes "__tls_get_addr" ∷ [];
  relocations = relocation ∷ [];
  is_flagged = false;
}

-- where the parts lie
abbrev pub outline : Outlined
outline = record {
  kind = Exe;
  parts = place Executable 0x400000 23 ∷ place ReadOnly 0x401000 20 ∷ place Writable 0x402000 4
      ∷ place Writable 0x403000 24
      ∷ place Executable 0x404000 6 ∷ place ReadOnly 0x405000 342 ∷ [];
  array_size = 144;
  got = Some 3;
  tls = Some tls_part;
}

-- the tables have 342 bytes
pub tables-size : (code initial values got stub : List ℕ)
    → length (tables (contents code initial values got stub)) ≡ 342
unfolding tables array strings hash_words symbol_rows symbol_entry relocation_entry tabled bytes_of dynamic_bytes symbol_bytes rela_bytes fields.spelled
tables-size code initial values got stub = refl

-- each part is right
pub right_part : (i : ℕ) → i < 6 → IsRightPart outline i
right_part zero h = record
    { filled = omega arith; paged = refl; above = omega arith; below = omega arith; rising = inl refl }
right_part (suc zero) h =
    record { filled = omega arith; paged = refl; above = omega arith; below = omega arith; rising = inr (omega arith) }
right_part (suc (suc zero)) h =
    record { filled = omega arith; paged = refl; above = omega arith; below = omega arith; rising = inr (omega arith) }
right_part (suc (suc (suc zero))) h =
    record { filled = omega arith; paged = refl; above = omega arith; below = omega arith; rising = inr (omega arith) }
right_part (suc (suc (suc (suc zero)))) h =
    record { filled = omega arith; paged = refl; above = omega arith; below = omega arith; rising = inr (omega arith) }
right_part (suc (suc (suc (suc (suc zero))))) h =
    record { filled = omega arith; paged = refl; above = omega arith; below = omega arith; rising = inr (omega arith) }
right_part (suc (suc (suc (suc (suc (suc i)))))) h = absurd (omega (arith, h))

-- a page of headers can tell the image
pub loadable : IsLoadable outline
unfolding how_many behind_last
loadable = record {
  some = omega arith;
  few = omega arith;
  parts = right_part;
  few_written = omega arith;
  got_is = λ g e. (let same : 3 ≡ g = cc in ap (λ n. n + 1) same);
  last_constant = refl;
  array_in = omega arith;
  tls_is = record {
    placed = omega arith;
    initial_in = omega arith;
    filled = omega arith;
    small = omega arith;
    alignment = (3, omega arith, refl);
    aligned = refl;
    held = inr (1, (omega arith, refl, refl, refl));
  };
}

-- how many bytes the parts have
pub record AreSized (code initial values got stub : List ℕ) : Type 0 where
  pub code_has : length code ≡ 23
  pub initial_has : length initial ≡ 20
  pub values_has : length values ≡ 4
  pub got_has : length got ≡ 24
  pub stub_has : length stub ≡ 6

-- where the parts of the finished image lie
pub outlined : (code initial values got stub : List ℕ) → AreSized code initial values got stub
    → outline_of (finished (contents code initial values got stub)) ≡ outline
unfolding finished tables_part
outlined code initial values got stub s =
    rw (s.code_has, s.initial_has, s.values_has, s.got_has, s.stub_has, tables-size code initial values got stub) refl

-- each symbol is right
pub right_symbol : (code initial values got stub : List ℕ) (k : ℕ) → 0 < k → k ≤ 4
    → IsRightSymbol (contents code initial values got stub) k
right_symbol code initial values got stub zero p h = absurd (omega (arith, p))
right_symbol code initial values got stub (suc zero) p h =
    record { shared = λ e. cc; named = named (codes "f") refl; inside = λ e d. absurd cc }
right_symbol code initial values got stub (suc (suc zero)) p h =
    record { shared = λ e. cc; named = named (codes "x") refl; inside = λ e d. omega arith }
right_symbol code initial values got stub (suc (suc (suc zero))) p h =
    record { shared = λ e. cc; named = named (codes "n") refl; inside = λ e d. absurd cc }
right_symbol code initial values got stub (suc (suc (suc (suc zero)))) p h =
    record { shared = λ e. cc; named = named (codes "__tls_get_addr") refl; inside = λ e d. absurd cc }
right_symbol code initial values got stub (suc (suc (suc (suc (suc k))))) p h = absurd (omega (arith, h))

-- the relocation lies in the GOT
held : (code initial values got stub : List ℕ) → AreSized code initial values got stub
    → Holds (contents code initial values got stub) relocation 3
held code initial values got stub s =
    let In : Outlined → Type 0 = λ o. (3 < 5) × ((part o 3).address ≤ 0x403010) × (0x403010 + 8 ≤ end_of (part o 3)) in
    subst In (sym (outlined code initial values got stub s)) (omega arith, omega arith, omega arith)

-- so it is right
right_relocation : (code initial values got stub : List ℕ) → AreSized code initial values got stub
    → IsRightRelocation (contents code initial values got stub) relocation
right_relocation code initial values got stub s = record {
  symbol_in = omega arith;
  names = (refl, refl);
  own = λ e. tt;
  held = (3, held code initial values got stub s);
}

-- a linker may make this image
pub linkable : (code initial values got stub : List ℕ) → AreSized code initial values got stub
    → IsLinkable (contents code initial values got stub)
linkable code initial values got stub s =
    let e = outlined code initial values got stub s in
    record {
      loadable = subst IsLoadable (sym e) loadable;
      holds_tls = subst HoldsTls (sym e) (omega arith);
      named = refl;
      symbols = right_symbol code initial values got stub;
      relocations = All-cons (IsRightRelocation (contents code initial values got stub)) relocation []
          (right_relocation code initial values got stub s) (λ k d h. absurd (omega (arith, h)));
      rising = tt;
      flagged = λ e. absurd cc;
    }

-- the bytes of the parts in a file of this length
pub in_file : (file : List ℕ) → length file ≡ 20486
    → AreSized (part_at 23 4096 file) (part_at 20 8192 file) (part_at 4 12288 file) (part_at 24 16384 file)
    (part_at 6 20480 file)
in_file file h = record {
  code_has = has 23 4096 file (omega (arith, h));
  initial_has = has 20 8192 file (omega (arith, h));
  values_has = has 4 12288 file (omega (arith, h));
  got_has = has 24 16384 file (omega (arith, h));
  stub_has = has 6 20480 file (omega (arith, h));
}

-- the contents whose parts' bytes stand in a file
abbrev pub file_contents : List ℕ → Contents
file_contents file =
    contents (part_at 23 4096 file) (part_at 20 8192 file) (part_at 4 12288 file) (part_at 24 16384 file)
    (part_at 6 20480 file)

-- a linker may make this image of them
pub file_linkable : (file : List ℕ) → length file ≡ 20486 → IsLinkable (file_contents file)
file_linkable file h =
    linkable (part_at 23 4096 file) (part_at 20 8192 file) (part_at 4 12288 file) (part_at 24 16384 file)
    (part_at 6 20480 file) (in_file file h)
