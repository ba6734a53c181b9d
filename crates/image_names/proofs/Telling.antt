-- A table of names, symbol by symbol: with those that are left, it tells what it is to tell.
use Rattle.std.proofs.Common.{◌≡◌, ◌∙◌, ◌<◌, ◌≤◌, ℕ, zero, suc, ◌+◌, Bool, true, false, cond, not, ◌&&◌, List, [], ◌∷◌}
use Rattle.std.proofs.Common.{length, Option, Some, None, refl, sym, ap, Bor, arith}
use Rattle.std.specs.Prelude.{if◌then◌else◌, option_and_then}
use Rattle.std.specs.List.{list_any, position_from, slice_get}
use Rattle.std.specs.Option.{option_map, option_or, unwrap_or}
use Rattle.std.specs.Str.{bytes_eq}
use Rattle.std.proofs.lemmas.Slice.Eq.{bytes_eq-Decides}
use Rattle.indexmap.specs.IndexMap.{insert_entry}
use Rattle.image_file.specs.declared.symbol.ImageSymbol.{ImageSymbol}
use Rattle.image_file.specs.Spelled.{Part, Spelled}
use Rattle.image_names.specs.declared.meaning.Meaning.{Meaning}
use Rattle.image_names.specs.declared.meaning.Meaning.TheVariants.{Function, Other, Variable}
use Rattle.image_names.specs.Functions.{entry_in, function_place, runs_at}
use Rattle.elf_records.specs.Symbols.{is_tls}
use Rattle.image_names.specs.Meanings.{Meanings, TellsWith, first_from, function_of, meaning_at, meaning_in, meaning_of}
use Rattle.image_names.specs.Meanings.{noted, same_names, told, variable_of}
use Rattle.image_names.specs.Variables.{variable_in, variable_place}
use Rattle.image_file.proofs.Left.{left_at}

-- ** what is told

first_given : {X : Type 0} (o : Option X) (x : X) → option_or o (Some x) ≡ Some (unwrap_or o x)
first_given (Some y) x = refl
first_given None x = refl

twice : {X : Type 0} (b : Bool) (x y z : X) → cond b x z ≡ cond b x (cond b y z)
twice true x y z = refl
twice false x y z = refl

swapped : {X : Type 0} (a b : Bool) (x y z : X) → (a ≡ true → b ≡ true → ⊥)
    → cond a x (cond b y z) ≡ cond b y (cond a x z)
swapped true true x y z apart = absurd (apart refl refl)
swapped true false x y z apart = refl
swapped false true x y z apart = refl
swapped false false x y z apart = refl

same_as : (q k e : List ℕ) → bytes_eq k e ≡ true → bytes_eq q e ≡ bytes_eq q k
same_as q k e same = ap (bytes_eq q) (sym ((bytes_eq-Decides k e).0 same))

not_both : (q k e : List ℕ) → bytes_eq k e ≡ false → bytes_eq q e ≡ true → bytes_eq q k ≡ true → ⊥
not_both q k e apart is_e is_k =
    let same : bytes_eq k e ≡ true = ap (λ n. bytes_eq n e) (sym ((bytes_eq-Decides q k).0 is_k)) ∙ is_e in cc

-- what is told of a name, once another has a value
inserted : (q : List ℕ) (k : Bor (List ℕ)) (v : Meaning) (es : Meanings)
    → told (insert_entry same_names es k v) q ≡ cond (bytes_eq q k.now) (Some v) (told es q)
inserted q k v [] = refl
inserted q k v (e ∷ es) = by (bytes_eq k.now e.0.now) refl (inserted q k v es)
  where
    by : (s : Bool) → bytes_eq k.now e.0.now ≡ s
        → told (insert_entry same_names es k v) q ≡ cond (bytes_eq q k.now) (Some v) (told es q)
        → told (if s then (e.0, v) ∷ es else e ∷ insert_entry same_names es k v) q
        ≡ cond (bytes_eq q k.now) (Some v) (told (e ∷ es) q)
    by true same rest =
        twice (bytes_eq q e.0.now) (Some v) (Some e.1) (told es q)
        ∙ ap (λ b. cond b (Some v) (told (e ∷ es) q)) (same_as q k.now e.0.now same)
    by false apart rest =
        ap (cond (bytes_eq q e.0.now) (Some e.1)) rest
        ∙ swapped (bytes_eq q e.0.now) (bytes_eq q k.now) (Some e.1) (Some v) (told es q)
        (not_both q k.now e.0.now apart)

module _ (image : Spelled) (n : ℕ) (named : Bor (List ℕ)) (symbol : ImageSymbol)
    (is_named : Some named.now ≡ slice_get image.names n)
    (is_symbol : Some symbol ≡ slice_get image.symbols n) where
  -- what is first from here on is this symbol, or what is first behind it
  first_here : (name : List ℕ)
      → first_from image n name ≡ cond (bytes_eq name named.now) (Some n) (first_from image (n + 1) name)
  first_here name = ap (position_from (bytes_eq name) n) (left_at image.names n named.now is_named)

  meaning_here : (name : List ℕ) → meaning_at image (first_from image n name)
      ≡ cond (bytes_eq name named.now) (Some (meaning_of image.parts symbol))
      (meaning_at image (first_from image (n + 1) name))
  meaning_here name = ap (meaning_at image) (first_here name) ∙ by (bytes_eq name named.now)
    where
      by : (b : Bool) → meaning_at image (cond b (Some n) (first_from image (n + 1) name))
          ≡ cond b (Some (meaning_of image.parts symbol)) (meaning_at image (first_from image (n + 1) name))
      by true = rw (sym is_symbol) refl
      by false = refl

  -- one more symbol was noted
  pub tells_on : (old : Meanings) → TellsWith image n old
      → TellsWith image (n + 1) (noted old named (meaning_of image.parts symbol))
  tells_on old before = λ name. by name (bytes_eq name named.now) refl
    where
      meaning : Meaning
      meaning = meaning_of image.parts symbol

      by : (name : List ℕ) (b : Bool) → bytes_eq name named.now ≡ b
          → option_or (told (noted old named meaning) name) (meaning_at image (first_from image (n + 1) name))
          ≡ meaning_in image name
      by name true same =
          let rest = meaning_at image (first_from image (n + 1) name) in
          let v = unwrap_or (told old named.now) meaning in
          let now : told (noted old named meaning) name ≡ Some v =
          inserted name named v old ∙ ap (λ b. cond b (Some v) (told old name)) same in
          let here : meaning_at image (first_from image n name) ≡ Some meaning =
          meaning_here name ∙ ap (λ b. cond b (Some meaning) rest) same in
          ap (λ o. option_or o rest) now
          ∙ sym (first_given (told old named.now) meaning)
          ∙ ap (λ q. option_or (told old q) (Some meaning)) (sym ((bytes_eq-Decides name named.now).0 same))
          ∙ ap (option_or (told old name)) (sym here)
          ∙ before name
      by name false other =
          let rest = meaning_at image (first_from image (n + 1) name) in
          let v = unwrap_or (told old named.now) meaning in
          let now : told (noted old named meaning) name ≡ told old name =
          inserted name named v old ∙ ap (λ b. cond b (Some v) (told old name)) other in
          let here : meaning_at image (first_from image n name) ≡ rest =
          meaning_here name ∙ ap (λ b. cond b (Some meaning) rest) other in
          ap (λ o. option_or o rest) now ∙ ap (option_or (told old name)) (sym here) ∙ before name

-- ** the end of the symbols

none_past : {X : Type 0} (xs : List X) (i : ℕ) → None ≡ slice_get xs i → length xs ≤ i
none_past [] i is = omega arith
none_past (x ∷ xs) zero is = absurd (cc is)
none_past (x ∷ xs) (suc i) is = omega (arith, none_past xs i is)

-- a symbol stands at each number below their count
pub none_below : {X Y : Type 0} (xs : List X) (i n : ℕ) → None ≡ slice_get xs i → i < n → n ≡ length xs → Y
none_below xs i n is below count = absurd (omega (arith, none_past xs i is, below, count))

-- ** what a name means

function_is_place : (parts : List Part) (symbol : ImageSymbol)
    → function_of (meaning_of parts symbol) ≡ function_place parts symbol
function_is_place parts symbol = by symbol.is_defined (is_tls symbol.kind) (list_any (runs_at symbol.value) parts)
  where
    by : (d t r : Bool) → function_of
        (if d then (if t then Variable (record { offset = symbol.value }) else if r then Function symbol.value
        else Other) else Other)
        ≡ (if (d && not t) && r then Some symbol.value else None)
    by true true r = refl
    by true false true = refl
    by true false false = refl
    by false t r = refl

variable_is_place : (parts : List Part) (symbol : ImageSymbol)
    → variable_of (meaning_of parts symbol) ≡ variable_place symbol
variable_is_place parts symbol = by symbol.is_defined (is_tls symbol.kind) (list_any (runs_at symbol.value) parts)
  where
    by : (d t r : Bool) → variable_of
        (if d then (if t then Variable (record { offset = symbol.value }) else if r then Function symbol.value
        else Other) else Other)
        ≡ (if d && t then Some (record { offset = symbol.value }) else None)
    by true true r = refl
    by true false true = refl
    by true false false = refl
    by false t r = refl

module _ (image : Spelled) (name : List ℕ) where
  pub function_meant : option_and_then function_of (meaning_in image name) ≡ entry_in image name
  unfolding entry_in
  function_meant = by (option_and_then (slice_get image.symbols) (first_from image 1 name))
    where
      by : (symbol : Option ImageSymbol)
          → option_and_then function_of (option_map (meaning_of image.parts) symbol)
          ≡ option_and_then (function_place image.parts) symbol
      by (Some symbol) = function_is_place image.parts symbol
      by None = refl

  pub variable_meant : option_and_then variable_of (meaning_in image name) ≡ variable_in image name
  unfolding variable_in
  variable_meant = by (option_and_then (slice_get image.symbols) (first_from image 1 name))
    where
      by : (symbol : Option ImageSymbol)
          → option_and_then variable_of (option_map (meaning_of image.parts) symbol)
          ≡ option_and_then variable_place symbol
      by (Some symbol) = variable_is_place image.parts symbol
      by None = refl
