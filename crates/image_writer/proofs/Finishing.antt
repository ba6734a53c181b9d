-- What the draft of linkable contents keeps, and what code holds of it.
use Rattle.std.proofs.Common.{ℕ, zero, suc, ◌+◌, ◌<◌, ◌≤◌, ◌≡◌, All, List, [], ◌∷◌, ◌++◌, length, map, get_or, refl}
use Rattle.std.proofs.Common.{subst, sym, ap, ◌∙◌, arith}
use Rattle.std.specs.Int.{next_multiple_of}
use Rattle.std.proofs.lemmas.List.{get_or-map, get_or_push, length-map, length_push, map-append}
use Rattle.image_file.specs.declared.symbol.ImageSymbol.{ImageSymbol}
use Rattle.image_writer.specs.declared.draft.Draft.{Draft}
use Rattle.image_writer.specs.declared.draft.NamedSymbol.{NamedSymbol}
use Rattle.image_writer.specs.declared.layout.Layout.{Layout}
use Rattle.image_writer.specs.declared.outline.PartPlace.{PartPlace}
use Rattle.image_writer.specs.Contents.{contents_of, null_symbol, symbol, tables_address}
use Rattle.image_writer.specs.Frames.{AreInside, outline_told}
use Rattle.image_writer.specs.Linkable.{IsLinkable}
use Rattle.image_writer.specs.Loadable.{HoldsTls, IsLoadable, IsRightPart}
use Rattle.image_writer.specs.Outlined.{end_of, no_part, outline_of, part, place_of}
use Rattle.image_writer.specs.Page.{base_of}
use Rattle.image_writer.specs.Tables.{array_size, finished, tables, tables_part}
use Rattle.image_writer.specs.Told.{told, next_page, layout_of, tables_at, tables_size, tables_place, IsSymbolFitting}
use Rattle.image_writer.specs.Told.{IsRelocationFitting}
use Rattle.image_writer.proofs.Layouts.{layout_facts}
use Rattle.image_writer.proofs.Linked.{AreFitting}
use Rattle.image_writer.proofs.Making.{length-tables_at, parts_end-in, places-in, tables-is, tables-told}
use Rattle.image_writer.proofs.Strings.{no_symbol}
use Rattle.image_writer.proofs.TableOutline.{base_low}

-- the tables begin at the next page
pub address-is : (d : Draft) (file : List ℕ) → AreInside d file → tables_address (contents_of d file) ≡ next_page d
address-is d file inside = ap (λ n. next_multiple_of n 4096) (parts_end-in d.kind file d.parts.now inside)

-- their bytes
pub tables_told : (d : Draft) (file : List ℕ) → AreInside d file
    → tables (contents_of d file) ≡ tables_at (next_page d) (told d)
tables_told d file inside =
    tables-is (contents_of d file) ∙ tables-told d file (tables_address (contents_of d file))
    ∙ ap (λ n. tables_at n (told d)) (address-is d file inside)

-- where they lie
place_told : (d : Draft) (file : List ℕ) → AreInside d file
    → place_of (tables_part (contents_of d file)) ≡ tables_place (next_page d) (tables_size (told d))
unfolding tables_part
place_told d file inside =
    ap (λ n. tables_place n (length (tables (contents_of d file)))) (address-is d file inside)
    ∙ ap (λ n. tables_place (next_page d) n)
    (ap length (tables_told d file inside) ∙ length-tables_at (next_page d) (told d))

-- the outline of the finished contents
pub outline-is : (d : Draft) (file : List ℕ) → AreInside d file
    → outline_of (finished (contents_of d file)) ≡ outline_told d
unfolding finished
outline-is d file inside =
    let c = contents_of d file in
    let parts : map place_of (c.parts ++ (tables_part c ∷ [])) ≡ d.parts.now
    ++ (tables_place (next_page d) (tables_size (told d)) ∷ []) =
    map-append place_of c.parts (tables_part c ∷ [])
    ∙ ap (λ ps. ps ++ (place_of (tables_part c) ∷ [])) (places-in d.kind file d.parts.now inside)
    ∙ ap (λ p. d.parts.now ++ (p ∷ [])) (place_told d file inside) in
    ap (λ ps. record { kind = d.kind; parts = ps; array_size = array_size (told d); got = d.got; tls = d.tls }) parts

-- what the places and sizes of a draft with a frame keep
pub record IsBounded (d : Draft) : Type 0 where
  pub low : base_of d.kind ≤ 4194304
  pub above : base_of d.kind ≤ next_page d
  pub below : next_page d + tables_size (told d) ≤ base_of d.kind + 67108864

-- the draft's outline can be loaded
pub loadable_told : (d : Draft) (file : List ℕ) → AreInside d file → IsLinkable (contents_of d file)
    → IsLoadable (outline_told d)
loadable_told d file inside linkable = subst IsLoadable (outline-is d file inside) linkable.loadable

-- and it holds the TLS segment's address
pub tls_told : (d : Draft) (file : List ℕ) → AreInside d file → IsLinkable (contents_of d file)
    → HoldsTls (outline_told d)
tls_told d file inside linkable = subst HoldsTls (outline-is d file inside) linkable.holds_tls

-- the last part of more by one
last_right : (d : Draft) → IsLoadable (outline_told d)
    → (base_of d.kind ≤ next_page d) × (next_page d + tables_size (told d) ≤ base_of d.kind + 67108864)
last_right d can =
    let p = tables_place (next_page d) (tables_size (told d)) in
    let more = length_push d.parts.now p in
    let right : IsRightPart (outline_told d) (length d.parts.now) =
    can.parts (length d.parts.now) (omega (arith, more)) in
    let is : part (outline_told d) (length d.parts.now) ≡ p =
    get_or_push d.parts.now p no_part (length d.parts.now) refl in
    let address : (part (outline_told d) (length d.parts.now)).address ≡ next_page d =
    ap (λ (q : PartPlace). q.address) is in
    let end : end_of (part (outline_told d) (length d.parts.now)) ≡ next_page d + tables_size (told d) = ap end_of is in
    (subst (λ n. base_of d.kind ≤ n) address right.above, subst (λ n. n ≤ base_of d.kind + 67108864) end right.below)

pub bounded : (d : Draft) → IsLoadable (outline_told d) → IsBounded d
bounded d can =
    let last = last_right d can in
    record { low = base_low d.kind; above = last.0; below = last.1 }

-- each number of a symbol lies in the range of its type
symbol_fits : (d : Draft) → All IsSymbolFitting d.symbols.now → (k : ℕ) → k < length d.symbols.now + 1
    → ((symbol (told d) k).value < 18446744073709551616) × ((symbol (told d) k).size < 18446744073709551616)
symbol_fits d fits zero below = (omega arith, omega arith)
symbol_fits d fits (suc i) below =
    let within : i < length d.symbols.now = omega arith in
    let is : get_or (map (λ (s : NamedSymbol). s.symbol) d.symbols.now) i null_symbol
    ≡ (get_or d.symbols.now i no_symbol).symbol =
    get_or-map (λ (s : NamedSymbol). s.symbol) d.symbols.now i no_symbol null_symbol within in
    subst (λ (s : ImageSymbol). (s.value < 18446744073709551616) × (s.size < 18446744073709551616)) (sym is)
    (fits i no_symbol within)

-- each number of the contents lies in the range of its type
pub fitting : (d : Draft) (file : List ℕ) → All IsSymbolFitting d.symbols.now
    → All IsRelocationFitting d.relocations.now
    → AreFitting (contents_of d file)
fitting d file symbols relocations =
    let count : length (map (λ (s : NamedSymbol). s.symbol) d.symbols.now) ≡ length d.symbols.now =
    length-map d.symbols.now (λ (s : NamedSymbol). s.symbol) in
    record {
      values = λ k below. (symbol_fits d symbols k (rw count at below)).0;
      sizes = λ k below. (symbol_fits d symbols k (rw count at below)).1;
      places = λ k r below. (relocations k r below).0;
      addends = λ k r below. (relocations k r below).1;
    }

-- the parts that code holds, and the outline, are the draft's with its tables
pub places_held : (d : Draft) (l : Layout) (address size : ℕ) → l ≡ layout_of (told d) → address ≡ next_page d
    → size ≡ l.strings_start + l.strings_size
    → d.parts.now ++ (tables_place address size ∷ []) ≡ (outline_told d).parts
places_held d l address size laid at-is size-is =
    ap (λ n. d.parts.now ++ (tables_place n size ∷ [])) at-is
    ∙ ap (λ n. d.parts.now ++ (tables_place (next_page d) n ∷ [])) (size-is ∙ (layout_facts d l laid).size_is)

pub outline_held : (d : Draft) (l : Layout) (places : List PartPlace) → l ≡ layout_of (told d)
    → places ≡ (outline_told d).parts
    → record { kind = d.kind; parts = places; array_size = l.array_size; got = d.got; tls = d.tls } ≡ outline_told d
outline_held d l places laid are =
    ap (λ ps. record { kind = d.kind; parts = ps; array_size = l.array_size; got = d.got; tls = d.tls }) are
    ∙ ap (λ n. record { kind = d.kind; parts = (outline_told d).parts; array_size = n; got = d.got; tls = d.tls })
    (layout_facts d l laid).array_is
