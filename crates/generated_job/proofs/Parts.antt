-- The parts of an object, as the code makes them, are those of its shape.
use Rattle.std.proofs.Common.{◌≡◌, ℕ, ◌+◌, ◌*◌, ◌<◌, Bool, true, false, cond, List, [], ◌∷◌, ◌++◌, length, refl, sym}
use Rattle.std.proofs.Common.{ap, ◌∙◌, arith, append_assoc, length-append, codes}
use Rattle.std.specs.List.{flat_map}
use Rattle.elf_records.specs.Records.{header_bytes, section_bytes, symbol_bytes, rela_bytes}
use Rattle.elf_records.specs.declared.file_header.Header.{Header}
use Rattle.elf_records.specs.declared.section_header.SectionHeader.{SectionHeader}
use Rattle.elf_records.specs.declared.symbol.SymbolEntry.{SymbolEntry}
use Rattle.generated_job.specs.Drafts.{IsShort}
use Rattle.generated_job.specs.Shapes.{Shape, contents_of, file_header, getter_name, getter_name_at, names_of}
use Rattle.generated_job.specs.Shapes.{object_bytes}
use Rattle.generated_job.specs.Shapes.{section_names, section_of, sections_of, symbol_of, symbols_at, symbols_of}
use Rattle.generated_job.specs.Shapes.{variable_name_at, zeros_alignment}

-- ** symbols

pub symbols_plain : (s : Shape) (after : List SymbolEntry) (a b v : SymbolEntry) → after ≡ a ∷ b ∷ v ∷ []
    → a ≡ symbol_of 0 0 0 0 → b ≡ symbol_of 1 0x12 1 (length s.code)
    → v ≡ symbol_of (variable_name_at s) 0x16 3 (length s.initial)
    → s.calls ≡ false → after ≡ symbols_of s
unfolding symbols_of
symbols_plain s after a b v is ea eb ev calls = rw (is, ea, eb, ev, calls) refl

pub symbols_calling : (s : Shape) (before after : List SymbolEntry) (a b v g : SymbolEntry) → before ≡ a ∷ b ∷ v ∷ []
    → after ≡ before ++ g ∷ []
    → a ≡ symbol_of 0 0 0 0 → b ≡ symbol_of 1 0x12 1 (length s.code)
    → v ≡ symbol_of (variable_name_at s) 0x16 3 (length s.initial)
    → g ≡ symbol_of (getter_name_at s) 0x10 0 0 → s.calls ≡ true → after ≡ symbols_of s
unfolding symbols_of
symbols_calling s before after a b v g was is ea eb ev eg calls = rw (is, was, ea, eb, ev, eg, calls) refl

few_of : (b : Bool) (x y z w : SymbolEntry) → length (x ∷ y ∷ z ∷ cond b (w ∷ []) []) < 5
few_of true x y z w = omega arith
few_of false x y z w = omega arith

pub few_symbols : (s : Shape) → length (symbols_of s) < 5
unfolding symbols_of
few_symbols s =
    few_of s.calls (symbol_of 0 0 0 0) (symbol_of 1 0x12 1 (length s.code))
    (symbol_of (variable_name_at s) 0x16 3 (length s.initial))
    (symbol_of (getter_name_at s) 0x10 0 0)

-- ** names

joined : (f v b : List ℕ) → ((((0 ∷ [] ++ f) ++ 0 ∷ []) ++ v) ++ b) ≡ 0 ∷ f ++ (0 ∷ v ++ b)
joined f v b = ap (λ z. 0 ∷ z) (append_assoc (f ++ 0 ∷ []) v b ∙ append_assoc f (0 ∷ []) (v ++ b))

-- two names, each with a zero byte behind it
names_joined : (f v n₀ n₁ n₂ n₃ n₄ : List ℕ) → n₀ ≡ 0 ∷ [] → n₁ ≡ n₀ ++ f → n₂ ≡ n₁ ++ 0 ∷ [] → n₃ ≡ n₂ ++ v
    → n₄ ≡ n₃ ++ 0 ∷ []
    → n₄ ≡ (((0 ∷ [] ++ f) ++ 0 ∷ []) ++ v) ++ 0 ∷ []
names_joined f v n₀ n₁ n₂ n₃ n₄ e₀ e₁ e₂ e₃ e₄ = rw (e₄, e₃, e₂, e₁, e₀) refl

pub names_plain : (s : Shape) (n₀ n₁ n₂ n₃ n₄ : List ℕ) → n₀ ≡ 0 ∷ [] → n₁ ≡ n₀ ++ s.function → n₂ ≡ n₁ ++ 0 ∷ []
    → n₃ ≡ n₂ ++ s.variable
    → n₄ ≡ n₃ ++ 0 ∷ [] → s.calls ≡ false → n₄ ≡ names_of s
unfolding names_of
names_plain s n₀ n₁ n₂ n₃ n₄ e₀ e₁ e₂ e₃ e₄ calls =
    names_joined s.function s.variable n₀ n₁ n₂ n₃ n₄ e₀ e₁ e₂ e₃ e₄ ∙ joined s.function s.variable (0 ∷ [])
    ∙ ap (λ b. 0 ∷ s.function ++ (0 ∷ s.variable ++ (0 ∷ getter_name b))) (sym calls)

pub names_calling : (s : Shape) (n₀ n₁ n₂ n₃ n₄ n₅ : List ℕ) → n₀ ≡ 0 ∷ [] → n₁ ≡ n₀ ++ s.function → n₂ ≡ n₁ ++ 0 ∷ []
    → n₃ ≡ n₂ ++ s.variable
    → n₄ ≡ n₃ ++ 0 ∷ [] → n₅ ≡ n₄ ++ codes "__tls_get_addr\0" → s.calls ≡ true → n₅ ≡ names_of s
unfolding names_of
names_calling s n₀ n₁ n₂ n₃ n₄ n₅ e₀ e₁ e₂ e₃ e₄ e₅ calls =
    e₅ ∙ ap (λ z. z ++ codes "__tls_get_addr\0") (names_joined s.function s.variable n₀ n₁ n₂ n₃ n₄ e₀ e₁ e₂ e₃ e₄)
    ∙ append_assoc (((0 ∷ [] ++ s.function) ++ 0 ∷ []) ++ s.variable) (0 ∷ []) (codes "__tls_get_addr\0")
    ∙ joined s.function s.variable (0 ∷ codes "__tls_get_addr\0")
    ∙ ap (λ b. 0 ∷ s.function ++ (0 ∷ s.variable ++ (0 ∷ getter_name b))) (sym calls)

few_joined : (f v g : List ℕ) → length f < 256 → length v < 256 → length g < 16
    → length (0 ∷ f ++ (0 ∷ v ++ (0 ∷ g))) < 600
few_joined f v g hf hv hg =
    let e = length-append f (0 ∷ v ++ (0 ∷ g)) in
    let d = length-append v (0 ∷ g) in
    omega (arith, e, d, hf, hv, hg)

few_getter : (b : Bool) → length (getter_name b) < 16
few_getter true = omega arith
few_getter false = omega arith

pub few_names : (s : Shape) → IsShort s → length (names_of s) < 600
unfolding names_of
few_names s h = few_joined s.function s.variable (getter_name s.calls) h.function h.variable (few_getter s.calls)

-- ** sections

pub sections_known : (s : Shape) (symbols : List SymbolEntry) (names : List ℕ) (alignment : ℕ)
    (a b c d e f g h : SectionHeader)
    → symbols ≡ symbols_of s → names ≡ names_of s → alignment ≡ zeros_alignment s.zeros
    → a ≡ section_of 0 0 0 0 0 0 0 0 0
    → b ≡ section_of 1 1 6 576 (length s.code) 0 0 16 0
    → c ≡ section_of 7 4 0 (symbols_at s + 24 * length symbols + length names + 57) (24 * length s.relocations) 5 1 8 24
    → d ≡ section_of 18 1 0x403 (576 + length s.code) (length s.initial) 0 0 4 0
    → e ≡ section_of 25 8 0x403 (symbols_at s) s.zeros 0 0 alignment 0
    → f ≡ section_of 31 2 0 (symbols_at s) (24 * length symbols) 6 1 8 24
    → g ≡ section_of 39 3 0 (symbols_at s + 24 * length symbols) (length names) 0 0 1 0
    → h ≡ section_of 47 3 0 (symbols_at s + 24 * length symbols + length names) 57 0 0 1 0
    → a ∷ b ∷ c ∷ d ∷ e ∷ f ∷ g ∷ h ∷ [] ≡ sections_of s
unfolding sections_of
sections_known s symbols names alignment a b c d e f g h sy na al ea eb ec ed ee ef eg eh =
    rw (ea, eb, ec, ed, ee, ef, eg, eh, sy, na, al) refl

-- ** the file

eight : (a b c d e f g h : List ℕ)
    → ((((((a ++ b) ++ c) ++ d) ++ e) ++ f) ++ g) ++ h ≡ a ++ (b ++ (c ++ (d ++ (e ++ (f ++ (g ++ h))))))
eight a b c d e f g h =
    append_assoc ((((((a ++ b) ++ c) ++ d) ++ e) ++ f)) g h
    ∙ append_assoc (((((a ++ b) ++ c) ++ d) ++ e)) f (g ++ h)
    ∙ append_assoc ((((a ++ b) ++ c) ++ d)) e (f ++ (g ++ h))
    ∙ append_assoc (((a ++ b) ++ c)) d (e ++ (f ++ (g ++ h)))
    ∙ append_assoc (a ++ b) c (d ++ (e ++ (f ++ (g ++ h))))
    ∙ append_assoc a b (c ++ (d ++ (e ++ (f ++ (g ++ h)))))

pub file_known : (s : Shape) (b₀ b₁ b₂ b₃ b₄ b₅ b₆ b₇ b₈ : List ℕ) (top : Header) (sections : List SectionHeader)
    (symbols : List SymbolEntry)
    (names titles : List ℕ) → b₀ ≡ [] → b₁ ≡ b₀ ++ header_bytes top → b₂ ≡ b₁ ++ flat_map section_bytes sections
    → b₃ ≡ b₂ ++ s.code
    → b₄ ≡ b₃ ++ s.initial → b₅ ≡ b₄ ++ flat_map symbol_bytes symbols → b₆ ≡ b₅ ++ names → b₇ ≡ b₆ ++ titles
    → b₈ ≡ b₇ ++ flat_map rela_bytes s.relocations → top ≡ file_header → sections ≡ sections_of s
    → symbols ≡ symbols_of s
    → names ≡ names_of s → titles ≡ section_names → b₈ ≡ object_bytes s
unfolding object_bytes contents_of
file_known s b₀ b₁ b₂ b₃ b₄ b₅ b₆ b₇ b₈ top sections symbols names titles e₀ e₁ e₂ e₃ e₄ e₅ e₆ e₇ e₈ to se sy na ti =
    rw (e₈, e₇, e₆, e₅, e₄, e₃, e₂, e₁, e₀, to, se, sy, na, ti)
    (eight (header_bytes file_header) (flat_map section_bytes (sections_of s)) s.code s.initial
    (flat_map symbol_bytes (symbols_of s)) (names_of s)
    section_names (flat_map rela_bytes s.relocations))
