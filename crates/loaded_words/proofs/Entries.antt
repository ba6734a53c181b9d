-- The words of each kind of entry, as the loader leaves them.
use Rattle.std.proofs.Common.{◌≡◌, ◌∙◌, ◌+◌, ◌-◌, ◌*◌, ◌^◌, ◌<◌, ℕ, true, false, List, [], ◌∷◌, Option}
use Rattle.std.proofs.Common.{inr, refl, sym, ap, arith}
use Rattle.std.specs.Prelude.{unwrap_or}
use Rattle.std.specs.List.{find}
use Rattle.got_pairs.specs.declared.entry.DynamicKind.TheVariants as dynamic
use Rattle.got_pairs.specs.declared.entry.DynamicSymbol.TheVariants.{Image, Imported, Runtime}
use Rattle.got_pairs.specs.declared.entry.Entry.{Entry}
use Rattle.got_pairs.specs.declared.entry.Entry.TheVariants.{One, Two}
use Rattle.got_pairs.specs.declared.need.Need.{Need}
use Rattle.got_pairs.specs.declared.need.Need.TheVariants.{ModulePair, SymbolPair, Descriptor, SymbolWord}
use Rattle.got_pairs.specs.declared.need.Need.TheVariants.{AddressWord, RuntimeWord}
use Rattle.got_pairs.specs.declared.need.Target.TheVariants.{Here, Import}
use Rattle.got_pairs.specs.Entries.{entry_of, held, less, loaded}
use Rattle.guest_arithmetic.specs.Values.{digit}
use Rattle.link_core.specs.Dynamic.{entry_relocations, number_of, relocation_of}
use Rattle.link_core.specs.Images.{image_of}
use Rattle.link_faults.specs.declared.image_kind.ImageKind.{ImageKind}
use Rattle.link_faults.specs.declared.image_kind.ImageKind.TheVariants.{Exe, Pie, Start, Late}
use Rattle.link_faults.specs.ImageKinds.{is_module}
use Rattle.link_needs.specs.Linking.{Linking, block_offset}
use Rattle.loaded_modules.specs.declared.instance.Instance.{Instance}
use Rattle.loaded_modules.specs.Images.{JobImages}
use Rattle.loaded_modules.specs.Loader.{bias, export_of, name_of}
use Rattle.relocated_parts.proofs.Words.{low_digit}
use Rattle.relocated_parts.specs.Left.{byte_by, is_written_at}
use Rattle.whole_meaning.specs.Spots.{bias_of}
use Rattle.loaded_bytes.proofs.Biases.{image_bias}
use Rattle.loaded_words.proofs.Written.{behind, front, hit, imported, import_written, kept_addend, miss, own}
use Rattle.loaded_words.proofs.Written.{own_written}
use Rattle.loaded_words.specs.Laws.{IsPlaced}
use Rattle.loaded_words.specs.Words.{exported, loaded_words}

-- what a row relies on: a number is one of 64 bits where the loader counts from it, and a name is read as it was written
abbrev pub Fits : Linking → ImageKind → Need → Type 0
Fits l kind ModulePair = Unit {0}
Fits l kind (SymbolPair (Here s o)) = Unit {0}
Fits l kind (Descriptor (Here s o)) = o < 2 ^ 64
Fits l kind (SymbolWord (Here s o)) = is_module kind ≡ true → o < 2 ^ 64
Fits l kind (AddressWord s p) = p < 2 ^ 64
Fits l kind RuntimeWord = Unit {0}
Fits l kind (SymbolPair (Import n)) = name_of (image_of l) (number_of l (Imported n)) ≡ n
Fits l kind (Descriptor (Import n)) = name_of (image_of l) (number_of l (Imported n)) ≡ n
Fits l kind (SymbolWord (Import n)) = name_of (image_of l) (number_of l (Imported n)) ≡ n

module _ (m : JobImages) (l : Linking) (x : Instance) where
  -- byte i of a word at an address of an entry, of which this number stands in the file
  abbrev pub byte_left : ℕ → Entry → ℕ → ℕ → ℕ → ℕ
  byte_left at e address number i =
      byte_by m (image_of l) x (address + i) (digit number i)
      (find (is_written_at (address + i)) (entry_relocations l at e))

  abbrev pub IsRow : ℕ → Entry → List ℕ → Type 0
  IsRow at (One v) (w ∷ []) = (i : ℕ) → i < 8 → byte_left at (One v) at v.number i ≡ digit w i
  IsRow at (Two v u) (w ∷ z ∷ []) =
      ((i : ℕ) → i < 8 → byte_left at (Two v u) at v.number i ≡ digit w i)
      × ((i : ℕ) → i < 8 → byte_left at (Two v u) (at + 8) u.number i ≡ digit z i)
  IsRow at e ws = ⊥

  -- ** words that no loader writes

  same_digit : (a b i : ℕ) → a ≡ b → digit a i ≡ digit b i
  same_digit a b i e = ap (λ n. digit n i) e

  -- ** pairs

  own_pair : (at o : ℕ) → IsRow at (Two (loaded 0 dynamic.DtpMod64 Image 0) (held o)) (x.id ∷ o ∷ [])
  own_pair at o = (
    λ i below. hit m l x (own m l x at dynamic.DtpMod64 0) [] i (digit 0 i) below
        ∙ own_written m l x at dynamic.DtpMod64 0 i ∙ front x.id _ i below,
    λ i below. ap (byte_by m (image_of l) x (at + 8 + i) (digit o i))
        (miss m l x (at + 8 + i) (own m l x at dynamic.DtpMod64 0) [] (inr (omega arith))),
  )

  import_pair : (at : ℕ) (n : List ℕ) → name_of (image_of l) (number_of l (Imported n)) ≡ n
      → let t = exported m (export_of m n) in
      IsRow at (entry_of l.kind (block_offset l) (SymbolPair (Import n))) (t.id ∷ t.offset ∷ [])
  import_pair at n named = (
    λ i below. hit m l x (imported m l x at dynamic.DtpMod64 n) (imported m l x (at + 8) dynamic.DtpOff64 n ∷ []) i
        (digit 0 i) below
        ∙ import_written m l x at dynamic.DtpMod64 n named i ∙ front (exported m (export_of m n)).id _ i below,
    λ i below. ap (byte_by m (image_of l) x (at + 8 + i) (digit 0 i))
        (miss m l x (at + 8 + i) (imported m l x at dynamic.DtpMod64 n)
        (imported m l x (at + 8) dynamic.DtpOff64 n ∷ [])
        (inr (omega arith)))
        ∙ hit m l x (imported m l x (at + 8) dynamic.DtpOff64 n) [] i (digit 0 i) below
        ∙ import_written m l x (at + 8) dynamic.DtpOff64 n named i
        ∙ front (exported m (export_of m n)).offset _ i below,
  )

  -- ** descriptors

  own_descriptor : (at o : ℕ) → o < 2 ^ 64
      → IsRow at (Two (loaded 0 dynamic.TlsDesc Image o) (held 0)) (0x1800 ∷ (x.id * 2 ^ 32 + o) ∷ [])
  own_descriptor at o small = (
    λ i below. hit m l x (own m l x at dynamic.TlsDesc o) [] i (digit 0 i) (omega (arith, below))
        ∙ own_written m l x at dynamic.TlsDesc o i ∙ front 0x1800 _ i below,
    λ i below.
        let index : at + 8 + i ≡ at + (8 + i) = omega arith in
        ap (λ a. byte_by m (image_of l) x a (digit 0 i)
        (find (is_written_at a) (own m l x at dynamic.TlsDesc o ∷ []))) index
        ∙ hit m l x (own m l x at dynamic.TlsDesc o) [] (8 + i) (digit 0 i) (omega (arith, below))
        ∙ own_written m l x at dynamic.TlsDesc o (8 + i) ∙ behind 0x1800 _ i below
        ∙ ap (λ n. digit (x.id * 2 ^ 32 + n) i) (kept_addend o small),
  )

  import_descriptor : (at : ℕ) (n : List ℕ) → name_of (image_of l) (number_of l (Imported n)) ≡ n
      → let t = exported m (export_of m n) in
      IsRow at (entry_of l.kind (block_offset l) (Descriptor (Import n))) (0x1800 ∷ (t.id * 2 ^ 32 + t.offset) ∷ [])
  import_descriptor at n named = (
    λ i below. hit m l x (imported m l x at dynamic.TlsDesc n) [] i (digit 0 i) (omega (arith, below))
        ∙ import_written m l x at dynamic.TlsDesc n named i ∙ front 0x1800 _ i below,
    λ i below.
        let index : at + 8 + i ≡ at + (8 + i) = omega arith in
        ap (λ a. byte_by m (image_of l) x a (digit 0 i)
        (find (is_written_at a) (imported m l x at dynamic.TlsDesc n ∷ [])))
        index
        ∙ hit m l x (imported m l x at dynamic.TlsDesc n) [] (8 + i) (digit 0 i) (omega (arith, below))
        ∙ import_written m l x at dynamic.TlsDesc n named (8 + i) ∙ behind 0x1800 _ i below,
  )

  -- ** distances

  own_distance : (at o : ℕ) → o < 2 ^ 64
      → IsRow at (One (loaded 0 dynamic.TpOff64 Image o)) (less o (unwrap_or x.offset 0) ∷ [])
  own_distance at o small = λ i below.
      hit m l x (own m l x at dynamic.TpOff64 o) [] i (digit 0 i) below
      ∙ own_written m l x at dynamic.TpOff64 o i ∙ front _ _ i below
      ∙ ap (λ n. digit (n + (2 ^ 64 - unwrap_or x.offset 0)) i) (kept_addend o small)
      ∙ sym (low_digit (o + (2 ^ 64 - unwrap_or x.offset 0)) i below)

  import_distance : (at : ℕ) (n : List ℕ) → name_of (image_of l) (number_of l (Imported n)) ≡ n
      → let t = exported m (export_of m n) in
      IsRow at (entry_of l.kind (block_offset l) (SymbolWord (Import n))) (less t.offset t.distance ∷ [])
  import_distance at n named = λ i below.
      let t = exported m (export_of m n) in
      hit m l x (imported m l x at dynamic.TpOff64 n) [] i (digit 0 i) below
      ∙ import_written m l x at dynamic.TpOff64 n named i ∙ front _ _ i below
      ∙ sym (low_digit (t.offset + (2 ^ 64 - t.distance)) i below)

  -- ** addresses

  own_address : (kind : ImageKind) → l.kind ≡ kind → (at p : ℕ) → p < 2 ^ 64
      → IsRow at (One (loaded p dynamic.Relative Image p)) ((p + bias_of kind x.number) ∷ [])
  own_address kind e at p small = λ i below.
      let moved : bias (image_of l).kind x.number ≡ bias_of kind x.number =
      image_bias l x.number ∙ ap (λ k. bias_of k x.number) e in
      let order : bias_of kind x.number + p ≡ p + bias_of kind x.number = omega arith in
      hit m l x (own m l x at dynamic.Relative p) [] i (digit p i) below
      ∙ own_written m l x at dynamic.Relative p i ∙ front _ _ i below
      ∙ ap (λ n. digit (bias (image_of l).kind x.number + n) i) (kept_addend p small)
      ∙ ap (λ b. digit (b + p) i) moved ∙ same_digit (bias_of kind x.number + p) (p + bias_of kind x.number) i order

  runtime_word : (at : ℕ) → IsRow at (entry_of l.kind (block_offset l) RuntimeWord) (0x1000 ∷ [])
  runtime_word at = λ i below.
      hit m l x (relocation_of l at (record { kind = dynamic.JumpSlot; symbol = Runtime; addend = 0 })) [] i
      (digit 0 i) below
      ∙ front 0x1000 _ i below

  -- ** all kinds

  module _ (ls : List Linking) (placed : IsPlaced ls l x) where
    own_id : (kind : ImageKind) → l.kind ≡ kind → is_module kind ≡ false → 1 ≡ x.id
    own_id kind e alone = sym (placed.id (ap is_module e ∙ alone))

    program_pair : (kind : ImageKind) → l.kind ≡ kind → is_module kind ≡ false → (at o : ℕ)
        → IsRow at (Two (held 1) (held o)) (x.id ∷ o ∷ [])
    program_pair kind e alone at o = (λ i below. same_digit 1 x.id i (own_id kind e alone), λ i below. refl)

    program_distance : (kind : ImageKind) → l.kind ≡ kind → is_module kind ≡ false → (at o : ℕ)
        → IsRow at (One (held (less o (block_offset l)))) (less o (unwrap_or x.offset 0) ∷ [])
    program_distance kind e alone at o = λ i below.
        ap (λ d. digit (less o d) i)
        (sym (ap (λ (p : Option ℕ). unwrap_or p 0) (placed.offset (ap is_module e ∙ alone))))

    pub row : (kind : ImageKind) → l.kind ≡ kind → (need : Need) → Fits l kind need → (at : ℕ)
        → IsRow at (entry_of kind (block_offset l) need) (loaded_words m kind x need)
    row Exe e ModulePair fits at = program_pair Exe e refl at 0
    row Pie e ModulePair fits at = program_pair Pie e refl at 0
    row Start e ModulePair fits at = own_pair at 0
    row Late e ModulePair fits at = own_pair at 0
    row Exe e (SymbolPair (Here s o)) fits at = program_pair Exe e refl at o
    row Pie e (SymbolPair (Here s o)) fits at = program_pair Pie e refl at o
    row Start e (SymbolPair (Here s o)) fits at = own_pair at o
    row Late e (SymbolPair (Here s o)) fits at = own_pair at o
    row kind e (SymbolPair (Import n)) fits at = import_pair at n fits
    row kind e (Descriptor (Here s o)) fits at = own_descriptor at o fits
    row kind e (Descriptor (Import n)) fits at = import_descriptor at n fits
    row Exe e (SymbolWord (Here s o)) fits at = program_distance Exe e refl at o
    row Pie e (SymbolWord (Here s o)) fits at = program_distance Pie e refl at o
    row Start e (SymbolWord (Here s o)) fits at = own_distance at o (fits refl)
    row Late e (SymbolWord (Here s o)) fits at = own_distance at o (fits refl)
    row kind e (SymbolWord (Import n)) fits at = import_distance at n fits
    row Exe e (AddressWord s p) fits at = λ i below.
        let still : p ≡ p + 0 = omega arith in same_digit p (p + 0) i still
    row Pie e (AddressWord s p) fits at = own_address Pie e at p fits
    row Start e (AddressWord s p) fits at = own_address Start e at p fits
    row Late e (AddressWord s p) fits at = own_address Late e at p fits
    row kind e RuntimeWord fits at = runtime_word at
