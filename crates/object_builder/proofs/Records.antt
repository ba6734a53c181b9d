-- A record that is written over as many bytes as it has is all that stands there then.
use Rattle.std.specs.Prelude.{Result, Ok, Err, OnOk, is_ok}
use Rattle.std.proofs.Common.{cond, ◌≡◌, ℕ, ◌+◌, ◌<◌, ◌≤◌, List, get_or, ◌++◌, length, take, sym, ap, ◌∙◌, arith}
use Rattle.std.proofs.lemmas.List.{append-nil, drop_all, flat_map_more, length-take-le, take_more}
use Rattle.std.specs.List.{flat_map}
use Rattle.elf_records.specs.Fields.{part_at, splice}
use Rattle.elf_records.specs.Records.{header_at, header_bytes, section_bytes, symbol_bytes, rela_bytes}
use Rattle.elf_records.specs.RecordLaws.{length-header_bytes, length-section_bytes, length-symbol_bytes}
use Rattle.elf_records.specs.RecordLaws.{length-rela_bytes}
use Rattle.elf_records.specs.declared.file_header.Header.{Header}
use Rattle.elf_records.specs.declared.section_header.SectionHeader.{SectionHeader}
use Rattle.elf_records.specs.declared.symbol.SymbolEntry.{SymbolEntry}
use Rattle.elf_records.specs.declared.relocation.Rela.{Rela}

whole : (n : ℕ) (new old : List ℕ) → length new ≡ n → length old ≡ n → splice 0 new old ≡ new
unfolding splice
whole n new old e f =
    let short : length old ≤ 0 + length new = omega arith in
    ap (λ zs. new ++ zs) (drop_all (0 + length new) old short) ∙ append-nil new

pub whole_header : (r : Header) (old : List ℕ) → length r.ident ≡ 16 → length old ≡ 64
    → splice 0 (header_bytes r) old ≡ header_bytes r
whole_header r old i e = whole 64 (header_bytes r) old (length-header_bytes r i) e

pub whole_section : (r : SectionHeader) (old : List ℕ) → length old ≡ 64
    → splice 0 (section_bytes r) old ≡ section_bytes r
whole_section r old e = whole 64 (section_bytes r) old (length-section_bytes r) e

pub whole_symbol : (r : SymbolEntry) (old : List ℕ) → length old ≡ 24 → splice 0 (symbol_bytes r) old ≡ symbol_bytes r
whole_symbol r old e = whole 24 (symbol_bytes r) old (length-symbol_bytes r) e

pub whole_rela : (r : Rela) (old : List ℕ) → length old ≡ 24 → splice 0 (rela_bytes r) old ≡ rela_bytes r
whole_rela r old e = whole 24 (rela_bytes r) old (length-rela_bytes r) e

-- the identification of a header that was read
pub ident_read : (r : Header) (b : List ℕ) → 64 ≤ length b → header_at 0 b ≡ r → length r.ident ≡ 16
unfolding header_at part_at
ident_read r b h e =
    let enough : 16 ≤ length b = omega arith in
    ap (λ (r : Header). length r.ident) (sym e) ∙ length-take-le 16 b enough

-- one more record behind those that stand there
pub one_more : {X : Type 0} (f : X → List ℕ) (start before after written : List ℕ) (xs : List X) (i : ℕ) (x : X)
    → i < length xs
    → before ≡ start ++ flat_map f (take i xs) → after ≡ before ++ written → written ≡ f (get_or xs i x)
    → after ≡ start ++ flat_map f (take (i + 1) xs)
one_more f start before after written xs i x h b a w =
    a ∙ ap (λ z. z ++ written) b ∙ ap (λ z. (start ++ flat_map f (take i xs)) ++ z) w
    ∙ flat_map_more f start (take i xs) (get_or xs i x) ∙ ap (λ z. start ++ flat_map f z) (sym (take_more xs i x h))

pub put_behind : {T E : Type 0} (r : Result T E) (before after written bytes : List ℕ)
    → after ≡ cond (is_ok r) (before ++ written) before → written ≡ bytes → OnOk r (after ≡ before ++ bytes)
put_behind (Ok x) before after written bytes a w = a ∙ ap (λ z. before ++ z) w
put_behind (Err e) before after written bytes a w = tt
