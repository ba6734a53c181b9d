-- The sequences in an object's code: how a site is shown, and that no relocation is left outside of one.
use Rattle.std.proofs.Common.{◌≡◌, ◌≢◌, ◌+◌, ◌<◌, ◌≤◌, ◌&&◌, ◌||◌, ◌⊎◌, inl, inr, ℕ, zero, suc, Bool, true, false, List}
use Rattle.std.proofs.Common.{[], ◌∷◌, length, map, Some, not, nat_le, nat_lt, slice_index, slice_index_or}
use Rattle.std.proofs.Common.{slice_get, refl, sym, ap, subst, ◌∙◌, arith}
use Rattle.std.proofs.lemmas.Bool.Decides.{nat_tests}
use Rattle.std.specs.List.{AllByRecursion as ByRecursion}
use Rattle.elf_object.specs.declared.relocation.Relocation.{Relocation}
use Rattle.elf_object.specs.declared.symbol.SymbolPlace.TheVariants.{Undefined, InSection}
use Rattle.elf_object.specs.Lent.{kept_relocation_table, relocations, section_bytes}
use Rattle.elf_object.specs.Relocations.{field_width}
use Rattle.object_rules.specs.declared.fault.FaultKind.{FaultKind}
use Rattle.sequence_forms.specs.declared.forms.Cell.{Cell}
use Rattle.sequence_forms.specs.declared.forms.Cell.TheVariants.{Is, Rex, ModRm, Field}
use Rattle.sequence_forms.specs.declared.places.Site.{Site}
use Rattle.sequence_forms.specs.Forms.{fits, row}
use Rattle.sequence_match.specs.Sites.{Covers, IsBare, IsLiteral, IsSecond, IsSiteOf, IsSpelled, StandsIn}
use Rattle.sequence_match.specs.Faults.{code_of, bytes_of_code, IsGetter, IsLoose, IsOfSequence, IsStray, Nowhere}
use Rattle.sequence_match.specs.Faults.{StandsAt}
use Rattle.generated_job.specs.Shapes.{Shape}
use Rattle.generated_laws.specs.Reading.{ReadsAs, known_of, known_getter, relocation_of, reserved}

-- ** spellings, by a test

-- whether no relocation changes the byte
abbrev pub is_bare : List Relocation → ℕ → Bool
is_bare [] k = true
is_bare (x ∷ xs) k = not (nat_le x.offset k && nat_lt k (x.offset + field_width x.kind)) && is_bare xs k

abbrev pub is_literal : Cell → Bool
is_literal Field = false
is_literal _ = true

abbrev pub cell_test : List ℕ → List Relocation → Cell → ℕ → Bool
cell_test code xs cell place = fits cell (slice_index code place) && (not (is_literal cell) || is_bare xs place)

-- whether the cells stand in the code from a place on
abbrev pub cells_test : List ℕ → List Relocation → List Cell → ℕ → Bool
cells_test code xs [] place = true
cells_test code xs (cell ∷ cells) place = cell_test code xs cell place && cells_test code xs cells (suc place)

left_of : (p q : Bool) → (p && q) ≡ true → p ≡ true
left_of true q both = refl
left_of false q both = both

right_of : (p q : Bool) → (p && q) ≡ true → q ≡ true
right_of true q both = both
right_of false q both = absurd (cc)

follows : (p q : Bool) → (not p || q) ≡ true → p ≡ true → q ≡ true
follows true q either one = either
follows false q either one = absurd (cc)

outside : (a k n : ℕ) → not (nat_le a k && nat_lt k n) ≡ true → a ≤ k → k < n → ⊥
outside a k n test above below = grind (arith, nat_tests)

bare_of : (xs : List Relocation) (k : ℕ) → is_bare xs k ≡ true → IsBare xs k
bare_of [] k test f x is covers = absurd (cc)
bare_of (y ∷ ys) k test zero x is covers =
    let same : x ≡ y = cc in
    let here : Covers y k = subst (λ z. Covers z k) same covers in
    outside y.offset k (y.offset + field_width y.kind)
    (left_of (not (nat_le y.offset k && nat_lt k (y.offset + field_width y.kind))) (is_bare ys k) test) here.0 here.1
bare_of (y ∷ ys) k test (suc f) x is covers =
    bare_of ys k (right_of (not (nat_le y.offset k && nat_lt k (y.offset + field_width y.kind))) (is_bare ys k) test)
    f x is covers

literal_of : (cell : Cell) → IsLiteral cell → is_literal cell ≡ true
literal_of (Is byte) literal = refl
literal_of Rex literal = refl
literal_of ModRm literal = refl
literal_of Field literal = absurd literal

cell_of : (code : List ℕ) (xs : List Relocation) (cell : Cell) (place : ℕ) → cell_test code xs cell place ≡ true
    → StandsIn code xs cell place
cell_of code xs cell place test =
    let fit = fits cell (slice_index code place) in
    let bare = not (is_literal cell) || is_bare xs place in (
      left_of fit bare test,
      λ literal. bare_of xs place
          (follows (is_literal cell) (is_bare xs place) (right_of fit bare test) (literal_of cell literal)),
    )

cells_of : (code : List ℕ) (xs : List Relocation) (cells : List Cell) (start : ℕ)
    → cells_test code xs cells start ≡ true
    → (k : ℕ) (cell : Cell) → slice_get cells k ≡ Some cell → StandsIn code xs cell (start + k)
cells_of code xs [] start test k cell is = absurd (cc)
cells_of code xs (c ∷ cells) start test zero cell is =
    let same : c ≡ cell = cc in
    let here : start ≡ start + 0 = omega arith in
    subst (λ d. StandsIn code xs d (start + 0)) same (subst (StandsIn code xs c) here
    (cell_of code xs c start (left_of (cell_test code xs c start) (cells_test code xs cells (suc start)) test)))
cells_of code xs (c ∷ cells) start test (suc k) cell is =
    let further : suc start + k ≡ start + suc k = omega arith in
    subst (StandsIn code xs cell) further (cells_of code xs cells (suc start)
    (right_of (cell_test code xs c start) (cells_test code xs cells (suc start)) test) k cell is)

pub spelled_of : (code : List ℕ) (xs : List Relocation) (cells : List Cell) (start : ℕ)
    → start + length cells ≤ length code → cells_test code xs cells start ≡ true → IsSpelled code xs cells start
spelled_of code xs cells start inside test = record { inside = inside; stands = cells_of code xs cells start test }

-- ** entries

pub each_entry : {X : Type 0} (P : X → Type 0) (xs : List X) → ByRecursion P xs → (f : ℕ) (x : X)
    → slice_get xs f ≡ Some x → P x
each_entry P [] all f x is = absurd (cc)
each_entry P (y ∷ ys) all zero x is =
    let same : y ≡ x = cc in
    subst P same all.0
each_entry P (y ∷ ys) all (suc f) x is = each_entry P ys all.1 f x is

-- the first relocation opens a site, and no other is of a type that does
pub loose_not : (code : List ℕ) (getter : ℕ → Type 0) (site : Site) (x : Relocation) (xs : List Relocation)
    → IsSiteOf code (x ∷ xs) getter 0 site → ByRecursion (λ (y : Relocation). IsOfSequence y.kind → ⊥) xs
    → (e : ℕ) → IsLoose code (x ∷ xs) getter e → ⊥
loose_not code getter site x xs is others zero loose = loose.3 site is
loose_not code getter site x xs is others (suc e) loose =
    each_entry (λ (y : Relocation). IsOfSequence y.kind → ⊥) xs others e loose.0 loose.1 loose.2

-- no relocation names `__tls_get_addr`
pub stray_none : (code : List ℕ) (getter : ℕ → Type 0) (xs : List Relocation)
    → ByRecursion (λ (y : Relocation). getter y.symbol → ⊥) xs → (f : ℕ) → IsStray code xs getter f → ⊥
stray_none code getter xs others f stray =
    each_entry (λ (y : Relocation). getter y.symbol → ⊥) xs others f stray.0 stray.1 stray.3

-- the second relocation is the second of a site, and no other names `__tls_get_addr`
pub stray_not : (code : List ℕ) (getter : ℕ → Type 0) (site : Site) (x y : Relocation) (xs : List Relocation)
    → IsSiteOf code (x ∷ y ∷ xs) getter 0 site
    → IsSecond (row site.form).second getter (x ∷ y ∷ xs) site.start 1 → (getter x.symbol → ⊥)
    → ByRecursion (λ (z : Relocation). getter z.symbol → ⊥) xs
    → (f : ℕ) → IsStray code (x ∷ y ∷ xs) getter f → ⊥
stray_not code getter site x y xs is second first others zero stray =
    let same : stray.0 ≡ x = entry_is x stray.0 stray.1 in
    first (subst (λ (z : Relocation). getter z.symbol) same stray.3)
  where
    entry_is : (y z : Relocation) → Some y ≡ Some z → z ≡ y
    entry_is y z same = cc
stray_not code getter site x y xs is second first others (suc zero) stray = stray.4 0 site is second
stray_not code getter site x y xs is second first others (suc (suc f)) stray =
    each_entry (λ (z : Relocation). getter z.symbol → ⊥) xs others f stray.0 stray.1 stray.3

-- ** of an object

-- which symbols are `__tls_get_addr`: not the variable, and where the code calls it the last
pub variable_not : (b : List ℕ) (s : Shape) → ReadsAs b s → IsGetter b 2 → ⊥
unfolding known_of
variable_not b s reads is =
    let place : InSection 3 ≡ Undefined = sym (reads.placed 2 (omega arith)) ∙ is.1 in
    absurd (cc)

pub getter_named : (b : List ℕ) (s : Shape) → ReadsAs b s → s.calls ≡ true → IsGetter b 3
unfolding known_of
getter_named b s reads calls =
    let below : 3 < length (known_of s) = rw calls (omega arith) in (
      omega (arith, reads.count),
      reads.placed 3 below ∙ ap (λ c. (slice_index_or (known_getter c) 0 reserved).place) calls,
      reads.names 3 below ∙ ap (λ c. (slice_index_or (known_getter c) 0 reserved).name) calls,
    )

pub code_is : (b : List ℕ) (s : Shape) → ReadsAs b s → code_of b 1 ≡ s.code
unfolding code_of
code_is b s reads =
    ap (λ c. bytes_of_code c (section_bytes b 1)) reads.code_class ∙ reads.code_is

-- a kind that stands nowhere in the code of the shape stands nowhere in the object
pub nowhere_of : (kind : FaultKind) (b : List ℕ) (s : Shape) → ReadsAs b s
    → ((e : ℕ) → StandsAt kind s.code (map relocation_of s.relocations) (IsGetter b) e → ⊥) → Nowhere kind b
nowhere_of kind b s reads none r e stands = of_section stands.1.0 stands.1.1 stands.1.2 (one_or stands.1.0)
  where
    one_or : (k : ℕ) → (k ≡ 1) ⊎ (k ≢ 1)
    one_or k = grind arith

    of_section : (k : ℕ) → kept_relocation_table b k ≡ r
        → StandsAt kind (code_of b k) (relocations b k) (IsGetter b) e → (k ≡ 1) ⊎ (k ≢ 1) → ⊥
    of_section k table here (inl one) =
        let first : StandsAt kind (code_of b 1) (relocations b 1) (IsGetter b) e =
        subst (λ n. StandsAt kind (code_of b n) (relocations b n) (IsGetter b) e) one here in
        none e (subst (λ xs. StandsAt kind s.code xs (IsGetter b) e) reads.relocations_are
        (subst (λ c. StandsAt kind c (relocations b 1) (IsGetter b) e) (code_is b s reads) first))
    of_section k table here (inr other) = omega (arith, stands.0, table, reads.other_table k other)
