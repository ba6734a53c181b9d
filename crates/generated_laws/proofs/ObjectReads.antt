-- What stands in an object's bytes is read as the shape that they are made of.
use Rattle.std.proofs.Common.{◌≡◌, ◌≢◌, ◌+◌, ◌*◌, ◌/◌, ◌<◌, ◌==◌, ℕ, zero, suc, Bool, true, false, List, []}
use Rattle.std.proofs.Common.{◌∷◌, ◌++◌, length, drop, map, slice_index_or, codes, refl, sym, ap, ◌∙◌, arith}
use Rattle.std.proofs.Common.{nat_lt, pos, append_assoc, length-append}
use Rattle.std.proofs.lemmas.Bool.Decides.{nat_tests}
use Rattle.std.proofs.lemmas.List.{drop_at, take_at, get_or-map, length-map, get_or_at, get_or_append_left}
use Rattle.std.proofs.lemmas.List.FromFn.{fill_by_all}
use Rattle.std.proofs.lemmas.List.Sums.{position_or_len_is}
use Rattle.std.specs.List.{before_first, position_or_len, range_with_len}
use Rattle.elf_records.specs.Records.{rela_at}
use Rattle.elf_records.specs.Strings.{text_at}
use Rattle.elf_records.specs.declared.relocation.Rela.{Rela}
use Rattle.elf_object.specs.Lent.{relocation_at, relocations, relocations_from, relocations_in}
use Rattle.elf_object.specs.Lent.{symbol_name, symbol_binding, symbol_type, symbol_visibility, symbol_place}
use Rattle.elf_object.specs.Lent.{symbol_value, symbol_size}
use Rattle.elf_object.specs.Parts.{symbol, symbol_count}
use Rattle.elf_object.specs.declared.relocation.Relocation.{Relocation}
use Rattle.elf_records.specs.declared.symbol.Visibility.TheVariants.{Default}
use Rattle.generated_job.specs.Shapes.{Shape, object_bytes, sections_of, symbols_of, symbol_of, names_of, getter_name}
use Rattle.generated_job.specs.Shapes.{relocations_at, variable_name_at, getter_name_at}
use Rattle.generated_laws.specs.Reading.{IsNameText, IsSmall, Known, ReadsAs, known_of, known_at, relocation_of}
use Rattle.generated_laws.specs.Reading.{reserved}
use Rattle.generated_laws.proofs.ObjectLaid.{IsLaid, object_laid}
use Rattle.generated_laws.proofs.ObjectSections as sections

-- ** names

-- a name with a zero byte behind it
name_before : (name rest : List ℕ) → IsNameText name → before_first (λ byte. byte == 0) (name ++ (0 ∷ rest)) ≡ name
name_before name rest text =
    let at_end : position_or_len (λ byte. byte == 0) (name ++ (0 ∷ rest)) ≡ length name =
    position_or_len_is (λ byte. byte == 0) (name ++ (0 ∷ rest)) (length name) 0
    (omega (arith, length-append name (0 ∷ rest))) (λ k below. fails k below) (λ below. passes) in
    rw at_end (take_at name (0 ∷ rest) (length name) refl)
  where
    differs : (n : ℕ) → n ≢ 0 → (n == 0) ≡ false
    differs n some = grind (arith, nat_tests)

    fails : (k : ℕ) → k < length name → (slice_index_or (name ++ (0 ∷ rest)) k 0 == 0) ≡ false
    fails k below = rw (get_or_append_left name (0 ∷ rest) 0 k below)
        (differs (slice_index_or name k 0) (text.bytes k 0 below).0)

    passes : (slice_index_or (name ++ (0 ∷ rest)) (length name) 0 == 0) ≡ true
    passes = rw (get_or_at name 0 rest 0 (length name) refl) refl

pub function_text : (s : Shape) → IsSmall s → text_at (names_of s) 1 ≡ s.function
unfolding text_at names_of
function_text s small = name_before s.function (s.variable ++ (0 ∷ getter_name s.calls)) small.function_name

-- the names are those in front of the variable's and the rest, or those in front of the getter's and the rest
pub names_split : (s : Shape) → names_of s ≡ (0 ∷ s.function ++ (0 ∷ [])) ++ (s.variable ++ (0 ∷ getter_name s.calls))
unfolding names_of
names_split s =
    ap (λ (l : List ℕ). 0 ∷ l) (sym (append_assoc s.function (0 ∷ []) (s.variable ++ (0 ∷ getter_name s.calls))))

pub names_split_late : (s : Shape)
    → names_of s ≡ (0 ∷ s.function ++ (0 ∷ s.variable ++ (0 ∷ []))) ++ getter_name s.calls
unfolding names_of
names_split_late s =
    ap (λ (l : List ℕ). 0 ∷ s.function ++ (0 ∷ l)) (sym (append_assoc s.variable (0 ∷ []) (getter_name s.calls)))
    ∙ ap (λ (l : List ℕ). 0 ∷ l) (sym (append_assoc s.function (0 ∷ s.variable ++ (0 ∷ [])) (getter_name s.calls)))

pub variable_place : (s : Shape) → length (0 ∷ s.function ++ (0 ∷ [])) ≡ variable_name_at s
variable_place s = omega (arith, length-append s.function (0 ∷ []))

pub getter_place : (s : Shape) → length (0 ∷ s.function ++ (0 ∷ s.variable ++ (0 ∷ []))) ≡ getter_name_at s
getter_place s =
    omega (arith, length-append s.function (0 ∷ s.variable ++ (0 ∷ [])), length-append s.variable (0 ∷ []))

pub variable_text : (s : Shape) → IsSmall s → text_at (names_of s) (variable_name_at s) ≡ s.variable
unfolding text_at
variable_text s small =
    let rest : List ℕ = s.variable ++ (0 ∷ getter_name s.calls) in
    ap (λ l. before_first (λ byte. byte == 0) (drop (variable_name_at s) l)) (names_split s)
    ∙ ap (before_first (λ byte. byte == 0))
    (drop_at (0 ∷ s.function ++ (0 ∷ [])) rest (variable_name_at s) (variable_place s))
    ∙ name_before s.variable (getter_name s.calls) small.variable_name

pub getter_text : (s : Shape) → s.calls ≡ true → text_at (names_of s) (getter_name_at s) ≡ codes "__tls_get_addr"
unfolding text_at
getter_text s calls =
    ap (λ l. before_first (λ byte. byte == 0) (drop (getter_name_at s) l)) (names_split_late s)
    ∙ ap (before_first (λ byte. byte == 0))
    (drop_at (0 ∷ s.function ++ (0 ∷ s.variable ++ (0 ∷ []))) (getter_name s.calls)
    (getter_name_at s) (getter_place s))
    ∙ ap (λ c. before_first (λ byte. byte == 0) (getter_name c)) calls

-- ** symbols

pub symbol_read : (b : List ℕ) (s : Shape) → IsLaid b s → (e : ℕ) → e < length (symbols_of s)
    → symbol b e ≡ slice_index_or (symbols_of s) e (symbol_of 0 0 0 0)
unfolding symbol sections_of
symbol_read b s laid e below =
    rw (sections.symbol_table_is b s laid, laid.sections_are 5 (omega arith))
    (laid.symbols_are e (symbol_of 0 0 0 0) below)

pub same_count : (s : Shape) → length (symbols_of s) ≡ length (known_of s)
unfolding symbols_of known_of
same_count s = same_of s.calls
  where
    same_of : (calls : Bool)
        → length (symbols_of (record s { calls = calls })) ≡ length (known_of (record s { calls = calls }))
    same_of true = refl
    same_of false = refl

pub count_is : (b : List ℕ) (s : Shape) → IsLaid b s → symbol_count b ≡ length (known_of s)
unfolding sections_of
count_is b s laid =
    rw (sections.symbol_table_is b s laid, laid.sections_are 5 (omega arith))
    (whole (length (symbols_of s)) (length (known_of s)) (same_count s))
  where
    whole : (n m : ℕ) → n ≡ m → (24 * n) / 24 ≡ m
    whole n m same = omega arith

-- all that is read of symbol e
pub record IsSeen (b : List ℕ) (e : ℕ) (known : Known) : Type 0 where
  pub name_is : symbol_name b e ≡ known.name
  pub binding_is : symbol_binding b e ≡ known.binding
  pub kind_is : symbol_type b e ≡ known.kind
  pub shown : symbol_visibility b e ≡ Default
  pub placed : symbol_place b e ≡ known.place
  pub value_is : symbol_value b e ≡ 0
  pub size_is : symbol_size b e ≡ known.size

seen_reserved : (b : List ℕ) → IsSeen b 0 reserved
unfolding symbol_name symbol_binding symbol_type symbol_visibility symbol_place symbol_value symbol_size
seen_reserved b = record {
  name_is = refl;
  binding_is = refl;
  kind_is = refl;
  shown = refl;
  placed = refl;
  value_is = refl;
  size_is = refl;
}

-- a name in the table of names
name_read : (b : List ℕ) (s : Shape) → IsLaid b s → (e : ℕ) (name : List ℕ) → 0 < e
    → text_at (names_of s) (symbol b e).name ≡ name → symbol_name b e ≡ name
unfolding symbol_name sections_of
name_read b s laid e name above is =
    rw (
      above_zero e above,
      sections.symbol_table_is b s laid,
      laid.sections_are 5 (omega arith),
      sections.names_bytes b s laid,
    ) is
  where
    above_zero : (e : ℕ) → 0 < e → nat_lt 0 e ≡ true
    above_zero e above = grind (arith, nat_tests)

seen_function : (b : List ℕ) (s : Shape) → IsLaid b s → IsSmall s → IsSeen b 1 (known_at s 1)
unfolding symbol_binding symbol_type symbol_visibility symbol_place symbol_value symbol_size symbols_of known_of
seen_function b s laid small =
    let entry = symbol_read b s laid 1 (omega arith) in
    record {
      name_is = name_read b s laid 1 s.function (omega arith) (rw entry (function_text s small));
      binding_is = rw entry refl;
      kind_is = rw entry refl;
      shown = rw entry refl;
      placed = rw entry refl;
      value_is = rw entry refl;
      size_is = rw entry refl;
    }

seen_variable : (b : List ℕ) (s : Shape) → IsLaid b s → IsSmall s → IsSeen b 2 (known_at s 2)
unfolding symbol_binding symbol_type symbol_visibility symbol_place symbol_value symbol_size symbols_of known_of
seen_variable b s laid small =
    let entry = symbol_read b s laid 2 (omega arith) in
    record {
      name_is = name_read b s laid 2 s.variable (omega arith) (rw entry (variable_text s small));
      binding_is = rw entry refl;
      kind_is = rw entry refl;
      shown = rw entry refl;
      placed = rw entry refl;
      value_is = rw entry refl;
      size_is = rw entry refl;
    }

seen_getter : (b : List ℕ) (s : Shape) → IsLaid b (record s { calls = true })
    → IsSeen b 3 (known_at (record s { calls = true }) 3)
unfolding symbol_binding symbol_type symbol_visibility symbol_place symbol_value symbol_size symbols_of known_of
seen_getter b s laid =
    let called : Shape = record s { calls = true } in
    let entry = symbol_read b called laid 3 (omega arith) in
    record {
      name_is = name_read b called laid 3 (codes "__tls_get_addr") (omega arith) (rw entry (getter_text called refl));
      binding_is = rw entry refl;
      kind_is = rw entry refl;
      shown = rw entry refl;
      placed = rw entry refl;
      value_is = rw entry refl;
      size_is = rw entry refl;
    }

seen_of : (b : List ℕ) (s : Shape) (calls : Bool) → IsLaid b (record s { calls = calls })
    → IsSmall (record s { calls = calls }) → (e : ℕ) → e < length (known_of (record s { calls = calls }))
    → IsSeen b e (known_at (record s { calls = calls }) e)
unfolding known_of
seen_of b s calls laid small zero below = seen_reserved b
seen_of b s calls laid small (suc zero) below = seen_function b (record s { calls = calls }) laid small
seen_of b s calls laid small (suc (suc zero)) below = seen_variable b (record s { calls = calls }) laid small
seen_of b s true laid small (suc (suc (suc zero))) below = seen_getter b s laid
seen_of b s true laid small (suc (suc (suc (suc e)))) below = absurd (omega arith)
seen_of b s false laid small (suc (suc (suc e))) below = absurd (omega arith)

pub symbols_seen : (b : List ℕ) (s : Shape) → IsLaid b s → IsSmall s → (e : ℕ) → e < length (known_of s)
    → IsSeen b e (known_at s e)
symbols_seen b s laid small e below = seen_of b s s.calls laid small e below

-- ** relocations

relocations_read : (b : List ℕ) (s : Shape) → IsLaid b s → relocations b 1 ≡ map relocation_of s.relocations
unfolding relocations_in relocations_from relocation_at sections_of
relocations_read b s laid =
    let d : Rela = record { offset = 0; info = 0; addend = pos 0 } in
    let f : ℕ → Relocation = λ k. relocation_of (rela_at (relocations_at s + 24 * k) b) in
    let all : map relocation_of s.relocations ≡ map f (range_with_len 0 (length s.relocations)) =
    fill_by_all f (map relocation_of s.relocations) (length s.relocations) (relocation_of d)
    (length-map s.relocations relocation_of)
    (λ k below. get_or-map relocation_of s.relocations k d (relocation_of d) below
    ∙ ap relocation_of (sym (laid.relas_are k d below))) in
    rw (sections.kept_table b s laid, laid.sections_are 2 (omega arith), whole (length s.relocations)) (sym all)
  where
    whole : (n : ℕ) → (24 * n) / 24 ≡ n
    whole n = omega arith

no_other : (b : List ℕ) (s : Shape) → IsLaid b s → (k : ℕ) → k ≢ 1 → relocations b k ≡ []
unfolding relocations_in
no_other b s laid k other = rw (sections.other_table b s laid k other) refl

-- ** all of it

pub laid_reads : (b : List ℕ) (s : Shape) → IsSmall s → IsLaid b s → ReadsAs b s
laid_reads b s small laid =
    let seen = symbols_seen b s laid small in
    record {
      sections = sections.count_is b s laid;
      code_class = sections.code_class b s laid;
      initial_class = sections.initial_class b s laid;
      zeros_class = sections.zeros_class b s laid;
      other_class = sections.other_class b s laid;
      code_size = sections.code_size b s laid;
      initial_size = sections.initial_size b s laid;
      zeros_size = sections.zeros_size b s laid;
      code_alignment = sections.code_alignment b s laid;
      initial_alignment = sections.initial_alignment b s laid;
      zeros_alignment_is = sections.zeros_alignment_is b s laid;
      code_is = sections.code_bytes b s laid;
      initial_is = sections.initial_bytes b s laid;
      zeros_are = sections.zeros_bytes b s laid;
      count = count_is b s laid;
      names = λ e below. (seen e below).name_is;
      bindings = λ e below. (seen e below).binding_is;
      kinds = λ e below. (seen e below).kind_is;
      shown = λ e below. (seen e below).shown;
      placed = λ e below. (seen e below).placed;
      values = λ e below. (seen e below).value_is;
      sizes = λ e below. (seen e below).size_is;
      table = sections.kept_table b s laid;
      other_table = sections.other_table b s laid;
      target = sections.target_is b s laid;
      other_target = sections.other_target b s laid;
      relocations_are = relocations_read b s laid;
      no_other = no_other b s laid;
    }

pub object_reads : (s : Shape) → IsSmall s → ReadsAs (object_bytes s) s
object_reads s small = laid_reads (object_bytes s) s small (object_laid s small)
