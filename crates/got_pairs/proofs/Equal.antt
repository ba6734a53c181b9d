-- Needs that the test calls the same are equal, and an entry that begins somewhere is one of them.
use Rattle.std.proofs.Common.{◌≡◌, ◌∙◌, ◌+◌, ◌<◌, ◌&&◌, ℕ, suc, Bool, true, false, List, [], ◌∷◌, Some, refl, sym, ap}
use Rattle.std.proofs.Common.{arith}
use Rattle.std.proofs.Common.{if◌then◌else◌}
use Rattle.std.specs.Prelude.{nat_eq}
use Rattle.std.specs.List.{Contains}
use Rattle.std.proofs.lemmas.Bool.Decides.{nat_tests}
use Rattle.std.proofs.lemmas.Slice.Eq.{bytes_eq-Decides}
use Rattle.link_faults.specs.declared.symbol_ref.SymbolRef.{SymbolRef}
use Rattle.got_pairs.specs.declared.need.Need.{Need}
use Rattle.got_pairs.specs.declared.need.Need.TheVariants.{ModulePair, SymbolPair, Descriptor, SymbolWord}
use Rattle.got_pairs.specs.declared.need.Need.TheVariants.{AddressWord, RuntimeWord}
use Rattle.got_pairs.specs.declared.need.Target.{Target}
use Rattle.got_pairs.specs.declared.need.Target.TheVariants.{Here, Import}
use Rattle.got_pairs.specs.Needs.{same_need, same_symbol, same_target, size_of, start_from}

both_true : (s t : Bool) → (s && t) ≡ true → (s ≡ true) × (t ≡ true)
both_true true true e = (refl, refl)
both_true true false e = absurd (cc)
both_true false t e = absurd (cc)

same_number : (m n : ℕ) → nat_eq m n ≡ true → m ≡ n
same_number m n e = grind (arith, nat_tests)

symbol_is : (s t : SymbolRef) → same_symbol s t ≡ true → s ≡ t
symbol_is s t e =
    let parts = both_true (nat_eq s.object t.object) (nat_eq s.symbol t.symbol) e in
    let object = same_number s.object t.object parts.0 in
    let symbol = same_number s.symbol t.symbol parts.1 in
    let first : s ≡ record { object = t.object; symbol = s.symbol } =
    ap (λ (n : ℕ). let r : SymbolRef = record { object = n; symbol = s.symbol } in r) object in
    let next : record { object = t.object; symbol = s.symbol } ≡ t =
    ap (λ (n : ℕ). let r : SymbolRef = record { object = t.object; symbol = n } in r) symbol in
    first ∙ next

target_is : (x y : Target) → same_target x y ≡ true → x ≡ y
target_is (Here s o) (Here t p) e =
    let parts = both_true (same_symbol s t) (nat_eq o p) e in
    let symbol = symbol_is s t parts.0 in
    let number = same_number o p parts.1 in
    cc
target_is (Import n) (Import m) e = ap Import ((bytes_eq-Decides n m).0 e)
target_is (Here s o) (Import m) e = absurd (cc)
target_is (Import n) (Here t p) e = absurd (cc)

pub need_is : (x y : Need) → same_need x y ≡ true → x ≡ y
need_is ModulePair ModulePair e = refl
need_is (SymbolPair x) (SymbolPair y) e = ap SymbolPair (target_is x y e)
need_is (Descriptor x) (Descriptor y) e = ap Descriptor (target_is x y e)
need_is (SymbolWord x) (SymbolWord y) e = ap SymbolWord (target_is x y e)
need_is (AddressWord s p) (AddressWord t q) e =
    let parts = both_true (same_symbol s t) (nat_eq p q) e in
    let symbol = symbol_is s t parts.0 in
    let number = same_number p q parts.1 in
    cc
need_is RuntimeWord RuntimeWord e = refl
need_is x y e = absurd (cc)

-- an entry that begins somewhere is one of them
pub start_among : (need : Need) (from at : ℕ) (ks : List Need) → start_from from ks need ≡ Some at → Contains ks need
start_among need from at [] e = absurd (cc)
start_among need from at (k ∷ ks) e = of_test (same_need need k) refl e (start_among need (from + size_of k) at ks)
  where
    of_test : (t : Bool) → same_need need k ≡ t
        → (if t then Some from else start_from (from + size_of k) ks need) ≡ Some at
        → (start_from (from + size_of k) ks need ≡ Some at → Contains ks need) → Contains (k ∷ ks) need
    of_test true same e rest = (0, omega arith, sym (need_is need k same))
    of_test false same e rest =
        let has = rest e in
        let below = has.1 in
        (suc has.0, omega (arith, below), has.2)

-- no entry is empty
pub size_some : (need : Need) → 0 < size_of need
size_some ModulePair = omega arith
size_some need = omega arith
