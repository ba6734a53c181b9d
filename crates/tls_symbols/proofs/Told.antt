-- What a table tells once an entry is noted, and the steps of the walks that note them.
use Rattle.std.proofs.Common.{◌≡◌, ◌≢◌, ◌+◌, ◌-◌, ◌<◌, ◌∙◌, ◌&&◌, ◌||◌, ℕ, Bool, true, false, List, [], ◌∷◌, Option}
use Rattle.std.proofs.Common.{Some, None, length, get_or, refl, sym, ap, subst, Bor, arith}
use Rattle.std.specs.Global.{Vec}
use Rattle.std.specs.Prelude.{if◌then◌else◌, slice_index_or, MatchOption}
use Rattle.std.specs.List.{find, list_any, range_with_len}
use Rattle.std.specs.Str.{bytes_eq}
use Rattle.std.proofs.lemmas.Grind.{get_or-set_at}
use Rattle.std.proofs.lemmas.List.{get_or-map, get_or-set_other}
use Rattle.std.proofs.lemmas.List.Sums.{passes_at_first}
use Rattle.std.proofs.lemmas.Slice.Eq.{bytes_eq-Decides}
use Rattle.std.specs.Option.{option_or}
use Rattle.elf_records.specs.declared.symbol.SymbolBinding.{SymbolBinding}
use Rattle.elf_records.specs.declared.symbol.SymbolBinding.TheVariants.{Local, Global, Weak}
use Rattle.elf_object.specs.Lent.{symbol_binding, symbol_name, symbol_place}
use Rattle.elf_object.specs.Parts.{symbol_count}
use Rattle.link_faults.specs.declared.symbol_ref.SymbolRef.{SymbolRef}
use Rattle.tls_symbols.specs.Definitions.{defines, found_or, is_defined, same_binding}
use Rattle.tls_symbols.specs.Numbers.{export_in}
use Rattle.tls_symbols.specs.Numbers.{Names, number_of, IsNamed, IsNumberOf, at_number, own_numbers, with_first, told}
use Rattle.tls_symbols.proofs.Search.{find_here, find_later}

-- two names with one number are one
pub same_number : (names : Names) (x y : List ℕ) (n : ℕ) → IsNumberOf names x n → n ≡ number_of names y → x ≡ y
same_number [] x y n hx e = absurd (omega (arith, hx.within))
same_number (k ∷ ks) x y n hx e =
    let names : Names = k ∷ ks in
    let first = passes_at_first (λ (z : Bor (List ℕ)). bytes_eq x z.now) (k ∷ ks) k
    (subst (λ m. m < length (k ∷ ks)) hx.number hx.within) in
    let second = passes_at_first (λ (z : Bor (List ℕ)). bytes_eq y z.now) (k ∷ ks) k
    (subst (λ m. m < length (k ∷ ks)) e hx.within) in
    (bytes_eq-Decides x (get_or (k ∷ ks) (number_of (k ∷ ks) x) k).now).0 first
    ∙ ap (λ m. (get_or (k ∷ ks) m k).now) (sym hx.number ∙ e)
    ∙ sym ((bytes_eq-Decides y (get_or (k ∷ ks) (number_of (k ∷ ks) y) k).now).0 second)

module _ {X : Type 0} (names : Names) (table : List (Option X)) (known name : List ℕ) (n : ℕ) (x : X)
    (is : IsNumberOf names known n) where
  -- of the name itself the table tells the entry, where it told nothing
  pub told_same : length table ≡ length names → bytes_eq name known ≡ true
      → told names (with_first table n x) name ≡ option_or (told names table name) (Some x)
  told_same len same =
      let e : name ≡ known = (bytes_eq-Decides name known).0 same in
      let number : number_of names name ≡ n = ap (number_of names) e ∙ sym is.number in
      let within : n < length table = omega (arith, is.within, len) in
      get_or-set_at table n (number_of names name) (option_or (at_number table n) (Some x)) None number within
      ∙ ap (λ m. option_or (at_number table m) (Some x)) (sym number)

  -- of others what it told
  pub told_other : bytes_eq name known ≡ false → told names (with_first table n x) name ≡ told names table name
  told_other other =
      let apart : number_of names name ≢ n = (λ h.
      (let same : known ≡ name = same_number names known name n is (sym h) in
      let equal : bytes_eq name known ≡ true = (bytes_eq-Decides name known).1 (sym same) in
      cc)) in
      get_or-set_other table n (number_of names name) (option_or (at_number table n) (Some x)) None apart

-- ** definitions

pub or_else_twice : {X : Type 0} (t : Option X) (x : X) (later : Option X)
    → option_or (option_or t (Some x)) later ≡ option_or t (Some x)
or_else_twice (Some y) x later = refl
or_else_twice None x later = refl

both_false : (p q r : Bool) → (p && q) ≡ false → (p && (q && r)) ≡ false
both_false true true r h = cc
both_false true false r h = refl
both_false false q r h = refl

both_true : (p q r t : Bool) → (p && q) ≡ true → r ≡ t → (p && (q && r)) ≡ t
both_true true true r t h e = e
both_true true false r t h e = cc
both_true false q r t h e = cc

module _ (names : Names) (binding : SymbolBinding) (o : ℕ) (b : List ℕ) where
  -- what the symbols from a number on give
  abbrev pub left : ℕ → List ℕ → Option SymbolRef
  left from name = found_or o (find (defines b binding name) (range_with_len from (symbol_count b - from))) None

  module _ (a : ℕ) (below : a < symbol_count b) where
    pub note_skip : (same_binding binding (symbol_binding b a) && is_defined (symbol_place b a)) ≡ false
        → (name : List ℕ) → left (a + 1) name ≡ left a name
    note_skip other name =
        ap (λ f. found_or o f None) (sym (find_later (defines b binding name) a (symbol_count b) below
        (both_false (same_binding binding (symbol_binding b a)) (is_defined (symbol_place b a))
        (bytes_eq name (symbol_name b a)) other)))

    -- a symbol that defines another name does not define this one
    pub note_other : (same_binding binding (symbol_binding b a) && is_defined (symbol_place b a)) ≡ true
        → (name : List ℕ) → bytes_eq name (symbol_name b a) ≡ false
        → left (a + 1) name ≡ left a name
    note_other defined name other =
        ap (λ f. found_or o f None) (sym (find_later (defines b binding name) a (symbol_count b) below
        (both_true (same_binding binding (symbol_binding b a)) (is_defined (symbol_place b a))
        (bytes_eq name (symbol_name b a)) false defined other)))

    pub note_step : (table : List (Option SymbolRef)) (n : ℕ)
        → (same_binding binding (symbol_binding b a) && is_defined (symbol_place b a)) ≡ true
        → IsNumberOf names (symbol_name b a) n → length table ≡ length names → (name : List ℕ)
        → option_or (told names (with_first table n (record { object = o; symbol = a })) name) (left (a + 1) name)
        ≡ option_or (told names table name) (left a name)
    note_step table n defined is len name = by_test (bytes_eq name (symbol_name b a)) refl
      where
        found : SymbolRef
        found = record { object = o; symbol = a }

        by_test : (t : Bool) → bytes_eq name (symbol_name b a) ≡ t
            → option_or (told names (with_first table n (record { object = o; symbol = a })) name) (left (a + 1) name)
            ≡ option_or (told names table name) (left a name)
        by_test true same =
            ap (λ t. option_or t (left (a + 1) name))
            (told_same names table (symbol_name b a) name n (record { object = o; symbol = a }) is len same)
            ∙ or_else_twice (told names table name) (record { object = o; symbol = a }) (left (a + 1) name)
            ∙ ap (λ f. option_or (told names table name) (found_or o f None))
            (sym (find_here (defines b binding name) a (symbol_count b) below
            (both_true (same_binding binding (symbol_binding b a)) (is_defined (symbol_place b a))
            (bytes_eq name (symbol_name b a)) true defined same)))
        by_test false other =
            ap (λ t. option_or t (left (a + 1) name))
            (told_other names table (symbol_name b a) name n (record { object = o; symbol = a }) is other)
            ∙ ap (λ f. option_or (told names table name) f) (note_other defined name other)

    -- the symbol's definition was noted by the number of its name
    pub note_named : (old new : List (Option SymbolRef)) (number : Option ℕ)
        → (same_binding binding (symbol_binding b a) && is_defined (symbol_place b a)) ≡ true
        → same_binding Local (symbol_binding b a) ≡ false → IsNamed names b a number → length old ≡ length names
        → MatchOption number (new ≡ old) (λ n. new ≡ with_first old n (record { object = o; symbol = a }))
        → (name : List ℕ) → option_or (told names new name) (left (a + 1) name)
        ≡ option_or (told names old name) (left a name)
    note_named old new None defined shared named len noted name = absurd (cc)
    note_named old new (Some n) defined shared named len noted name =
        ap (λ t. option_or (told names t name) (left (a + 1) name)) noted ∙ note_step old n defined named.1 len name

-- one object, and those behind it
pub note_object : (t : Option SymbolRef) (o : ℕ) (found : Option ℕ) (rest : Option SymbolRef)
    → option_or (option_or t (found_or o found None)) rest ≡ option_or t (found_or o found rest)
note_object (Some x) o found rest = refl
note_object None o (Some e) rest = refl
note_object None o None rest = refl

-- ** exports

any_here : (t u : Bool) (k : ℕ) → t ≡ true → (if t || u then Some k else None) ≡ Some k
any_here t u k h = rw h refl

any_later : (t u : Bool) (k : ℕ) → t ≡ false → (if t || u then Some k else None) ≡ (if u then Some k else None)
any_later t u k h = rw h refl

pub export_step : (names : Names) (table : List (Option ℕ)) (n k : ℕ) (known : List ℕ) (more : List (List ℕ))
    → IsNumberOf names known n → length table ≡ length names
    → (name : List ℕ) → option_or (told names (with_first table n k) name) (export_in k name more)
    ≡ option_or (told names table name) (export_in k name (known ∷ more))
export_step names table n k known more is len name = by_test (bytes_eq name known) refl
  where
    by_test : (t : Bool) → bytes_eq name known ≡ t
        → option_or (told names (with_first table n k) name) (export_in k name more)
        ≡ option_or (told names table name) (export_in k name (known ∷ more))
    by_test true same =
        ap (λ t. option_or t (export_in k name more)) (told_same names table known name n k is len same)
        ∙ or_else_twice (told names table name) k (export_in k name more)
        ∙ ap (λ f. option_or (told names table name) f)
        (sym (any_here (bytes_eq name known) (list_any (bytes_eq name) more) k same))
    by_test false other =
        ap (λ t. option_or t (export_in k name more)) (told_other names table known name n k is other)
        ∙ ap (λ f. option_or (told names table name) f)
        (sym (any_later (bytes_eq name known) (list_any (bytes_eq name) more) k other))

-- one image, and those behind it
pub note_image : (t : Option ℕ) (k : ℕ) (some : Bool) (rest : Option ℕ)
    → option_or (option_or t (if some then Some k else None)) rest ≡ option_or t (if some then Some k else rest)
note_image (Some x) k some rest = refl
note_image None k true rest = refl
note_image None k false rest = refl

-- ** numbers that are read

-- those of an object or an image
pub own_is : {X : Type 0} (xs : List (Vec X)) (i : ℕ) (own : Vec X) → own ≡ slice_index_or xs i own → i < length xs
    → own_numbers xs i ≡ own.items
own_is xs i own e within = get_or-map (λ v. v.items) xs i own [] within ∙ ap (λ v. v.items) (sym e)

-- one of them
pub known_is : {X : Type 0} (xs : List (Vec X)) (i : ℕ) (own : Vec X) → own ≡ slice_index_or xs i own → i < length xs
    → (e : ℕ) (n d : X)
    → n ≡ slice_index_or own.items e d → n ≡ slice_index_or (own_numbers xs i) e d
known_is xs i own e within k n d is = is ∙ ap (λ ys. slice_index_or ys k d) (sym (own_is xs i own e within))

-- what defines a name with a binding other than LOCAL is not LOCAL
pub shared_binding : (binding : SymbolBinding) (b : List ℕ) (e : ℕ) → same_binding Local binding ≡ false
    → (same_binding binding (symbol_binding b e) && is_defined (symbol_place b e)) ≡ true
    → same_binding Local (symbol_binding b e) ≡ false
shared_binding binding b e other defined =
    of_bindings binding (symbol_binding b e) (is_defined (symbol_place b e)) other defined
  where
    of_bindings : (x y : SymbolBinding) (t : Bool) → same_binding Local x ≡ false → (same_binding x y && t) ≡ true
        → same_binding Local y ≡ false
    of_bindings Local y t other defined = cc
    of_bindings Global Local t other defined = cc
    of_bindings Global Global t other defined = refl
    of_bindings Global Weak t other defined = refl
    of_bindings Weak Local t other defined = cc
    of_bindings Weak Global t other defined = refl
    of_bindings Weak Weak t other defined = refl
