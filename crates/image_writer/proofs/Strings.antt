-- The names of symbols, each with a zero byte behind it.
use Rattle.std.proofs.Common.{ℕ, ◌+◌, ◌<◌, ◌≤◌, ◌≡◌, List, [], ◌∷◌, ◌++◌, length, map, take, get_or, refl, sym, ap, ◌∙◌}
use Rattle.std.proofs.Common.{arith, append_assoc, length-append, add-one, zero, suc}
use Rattle.std.specs.List.{flat_map}
use Rattle.std.proofs.lemmas.List.Folds.{length-flat_map-take}
use Rattle.image_writer.specs.declared.draft.NamedSymbol.{NamedSymbol}
use Rattle.image_writer.specs.declared.draft.Draft.{Draft}
use Rattle.image_writer.specs.Contents.{null_symbol, name}
use Rattle.image_writer.specs.Tables.{name_bytes, name_start, strings}
use Rattle.image_writer.specs.Told.{told}
use Rattle.std.proofs.lemmas.List.{get_or-map, take_all, length-map}
use Rattle.std.proofs.lemmas.List.Sums.{sum_by_more}
use Rattle.elf_records.specs.Fields.{splice}
use Rattle.image_writer.proofs.Puts.{flat_map-map, flat_map-next, put_next}

-- the bytes of a symbol's name
abbrev pub bytes_named : NamedSymbol → List ℕ
bytes_named s = name_bytes s.name.now

-- the names of symbols, with that of number 0 before them
unfoldable pub names_of : List NamedSymbol → List ℕ
names_of symbols = (0 ∷ []) ++ flat_map bytes_named symbols

-- the names that a draft tells
pub strings-told : (d : Draft) → strings (told d) ≡ names_of d.symbols.now
unfolding strings names_of
strings-told d = ap (λ ys. (0 ∷ []) ++ ys) (flat_map-map name_bytes (λ (s : NamedSymbol). s.name.now) d.symbols.now)

-- what reads of a list of symbols give past its end
abbrev pub no_symbol : NamedSymbol
no_symbol = record { symbol = null_symbol; name = record { ref_ptr = (0, 0); now = [] } }

-- no symbol
pub names_of-none : names_of [] ≡ 0 ∷ []
unfolding names_of
names_of-none = refl

-- one more symbol
pub names_of-next : (symbols : List NamedSymbol) (i : ℕ) (d : NamedSymbol) → i < length symbols
    → names_of (take (i + 1) symbols) ≡ names_of (take i symbols) ++ bytes_named (get_or symbols i d)
unfolding names_of
names_of-next symbols i d below = ap (λ ys. (0 ∷ []) ++ ys) (flat_map-next bytes_named symbols i d below)

-- the names up to a symbol, and the next, are no longer than all
pub names_of-short : (symbols : List NamedSymbol) (i : ℕ) (d : NamedSymbol) → i < length symbols
    → length (names_of (take i symbols)) + (length (get_or symbols i d).name.now + 1) ≤ length (names_of symbols)
unfolding names_of
names_of-short symbols i d below =
    let within = length-flat_map-take bytes_named symbols i d below in
    let one = length-append (get_or symbols i d).name.now (0 ∷ []) in
    omega arith

-- there is a byte
pub names_of-some : (symbols : List NamedSymbol) → 1 ≤ length (names_of symbols)
unfolding names_of
names_of-some symbols = let both = length-append (0 ∷ []) (flat_map bytes_named symbols) in omega arith

-- how many bytes the names have with one more
pub names_of-longer : (symbols : List NamedSymbol) (i : ℕ) (d : NamedSymbol) (size : ℕ) → i < length symbols
    → size ≡ length (names_of (take i symbols))
    → size + (length (get_or symbols i d).name.now + 1) ≡ length (names_of (take (i + 1) symbols))
names_of-longer symbols i d size below was =
    let next = ap length (names_of-next symbols i d below) in
    let both = length-append (names_of (take i symbols)) (bytes_named (get_or symbols i d)) in
    let one = length-append (get_or symbols i d).name.now (0 ∷ []) in
    omega arith

-- all of them
pub names_of-all : (d : Draft) (i : ℕ) → length d.symbols.now ≤ i → names_of (take i d.symbols.now) ≡ strings (told d)
names_of-all d i all = ap names_of (take_all i d.symbols.now all) ∙ sym (strings-told d)

-- a name, and the zero byte behind it, put behind the names before it
pub put_name : (at next : ℕ) (done name bytes out between new : List ℕ) → next ≡ at + length done → at ≤ length bytes
    → out ≡ splice at done bytes → between ≡ splice next name out → new ≡ splice (next + length name) (0 ∷ []) between
    → new ≡ splice at (done ++ (name ++ (0 ∷ []))) bytes
put_name at next done name bytes out between new place inside was first second =
    let both = length-append done name in
    let named = put_next at next done name bytes out between place inside was first in
    put_next at (next + length name) (done ++ name) (0 ∷ []) bytes between new (omega arith) inside named second
    ∙ ap (λ ys. splice at ys bytes) (append_assoc done name (0 ∷ []))

-- the name of a symbol that a draft tells
pub name-told : (d : Draft) (i : ℕ) → i < length d.symbols.now
    → name (told d) (i + 1) ≡ (get_or d.symbols.now i no_symbol).name.now
name-told d i below =
    rw (add-one i) (get_or-map (λ (s : NamedSymbol). s.name.now) d.symbols.now i no_symbol [] below)

-- where the name of the next symbol begins
pub name_start-next : (d : Draft) (i : ℕ) → i < length d.symbols.now
    → name_start (told d) (i + 1 + 1)
    ≡ name_start (told d) (i + 1) + (length (get_or d.symbols.now i no_symbol).name.now + 1)
name_start-next d i below =
    let count = length-map d.symbols.now (λ (s : NamedSymbol). s.name.now) in
    let names = map (λ (s : NamedSymbol). s.name.now) d.symbols.now in
    let inside : i + 1 < length ([] ∷ names) = omega arith in
    sum_by_more (λ n. length n + 1) ([] ∷ names) (i + 1) [] inside
    ∙ ap (λ n. name_start (told d) (i + 1) + (length n + 1)) (name-told d i below)

-- the names before a symbol's take the bytes up to its own
pub name_start-is : (d : Draft) (i : ℕ) → i ≤ length d.symbols.now
    → name_start (told d) (i + 1) ≡ length (names_of (take i d.symbols.now))
name_start-is d zero below = ap length (sym names_of-none)
name_start-is d (suc i) below =
    let before : i < length d.symbols.now = omega arith in
    let was = name_start-is d i (omega arith) in
    let next = name_start-next d i before in
    let longer = names_of-longer d.symbols.now i no_symbol (name_start (told d) (i + 1)) before was in
    rw (sym (add-one i)) (next ∙ longer)
