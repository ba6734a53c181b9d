-- What a table by the numbers of some names tells, once a definition was noted for a name that may be among them.
use Rattle.std.proofs.Common.{◌≡◌, ◌+◌, ◌<◌, ◌≤◌, ◌∙◌, ◌&&◌, ℕ, Bool, true, false, cond, List, Option, Some, None}
use Rattle.std.proofs.Common.{length, refl, ap, arith}
use Rattle.std.specs.Prelude.{nat_lt, MatchOption}
use Rattle.std.specs.List.{position}
use Rattle.std.specs.Option.{option_or}
use Rattle.std.specs.Str.{bytes_eq}
use Rattle.std.proofs.lemmas.Bool.Decides.{nat_tests}
use Rattle.std.proofs.lemmas.Slice.Eq.{bytes_eq-Decides}
use Rattle.elf_records.specs.declared.symbol.SymbolBinding.{SymbolBinding}
use Rattle.elf_object.specs.Lent.{symbol_binding, symbol_name, symbol_place}
use Rattle.elf_object.specs.Parts.{symbol_count}
use Rattle.link_faults.specs.declared.symbol_ref.SymbolRef.{SymbolRef}
use Rattle.tls_symbols.specs.Definitions.{is_defined, same_binding}
use Rattle.tls_symbols.specs.Numbers.{Names, IsNumberOf, number_of, told, with_first}
use Rattle.tls_symbols.proofs.KnownNames.{position_none, position_some}
use Rattle.tls_symbols.proofs.Told.{left, note_other, note_step}

-- a name that is found is among the names
pub position_is : (names : Names) (name : List ℕ) (n : ℕ) → position (λ k. bytes_eq name k.now) names ≡ Some n
    → IsNumberOf names name n
position_is names name n e =
    record {
      number = position_some names name n e;
      within = of_test (nat_lt (number_of names name) (length names)) refl e;
    }
  where
    before : (m : ℕ) → nat_lt m (length names) ≡ true → m < length names
    before m h = grind (arith, nat_tests)

    of_test : (t : Bool) → nat_lt (number_of names name) (length names) ≡ t
        → cond t (Some (number_of names name)) None ≡ Some n → n < length names
    of_test true h same = omega (arith, before (number_of names name) h, position_some names name n e)
    of_test false h e = cc

-- a name that is among them is no name that is not
other_name : (names : Names) (x y : List ℕ) → number_of names x < length names → length names ≤ number_of names y
    → bytes_eq x y ≡ false
other_name names x y among past = by_test (bytes_eq x y) refl
  where
    by_test : (t : Bool) → bytes_eq x y ≡ t → t ≡ false
    by_test true same = absurd (omega (arith, among, past, ap (number_of names) ((bytes_eq-Decides x y).0 same)))
    by_test false other = refl

-- the symbol's definition was noted, if its name is among them
pub note_among : (names : Names) (binding : SymbolBinding) (o : ℕ) (b : List ℕ) (a : ℕ) → a < symbol_count b
    → (old new : List (Option SymbolRef)) (number : Option ℕ)
    → (same_binding binding (symbol_binding b a) && is_defined (symbol_place b a)) ≡ true
    → position (λ k. bytes_eq (symbol_name b a) k.now) names ≡ number → length old ≡ length names
    → MatchOption number (new ≡ old) (λ n. new ≡ with_first old n (record { object = o; symbol = a }))
    → (name : List ℕ) → number_of names name < length names
    → option_or (told names new name) (left names binding o b (a + 1) name)
    ≡ option_or (told names old name) (left names binding o b a name)
note_among names binding o b a below old new None defined found len noted name among =
    ap (λ t. option_or (told names t name) (left names binding o b (a + 1) name)) noted
    ∙ ap (λ f. option_or (told names old name) f) (note_other names binding o b a below defined name
    (other_name names name (symbol_name b a) among (position_none names (symbol_name b a) found)))
note_among names binding o b a below old new (Some n) defined found len noted name among =
    ap (λ t. option_or (told names t name) (left names binding o b (a + 1) name)) noted
    ∙ note_step names binding o b a below old n defined (position_is names (symbol_name b a) n found) len name
