-- The code of two memories is alike, where it is the code of live instances that are tied.
use Rattle.std.proofs.Common.{◌≡◌, ◌∙◌, ◌+◌, ◌-◌, ◌%◌, ◌^◌, ◌<◌, ◌≤◌, ℕ, zero, suc, Bool, true, false, List, All}
use Rattle.std.proofs.Common.{length, Option, Some, None, Ok, refl, sym, ap, arith}
use Rattle.std.specs.Prelude.{slice_get, ℤ}
use Rattle.std.specs.List.{find, list_any}
use Rattle.address_map.specs.Map.{owner_at}
use Rattle.amd64_subset.specs.Spelling.{field_of}
use Rattle.guest_arithmetic.specs.Plain.{plain_operations}
use Rattle.guest_operands.specs.declared.space.Access.TheVariants.{Run}
use Rattle.guest_machine.specs.Access.{Accesses, bytes_from, code_at, code_then, load_of, next_place}
use Rattle.guest_machine.specs.Use.{plus}
use Rattle.job_meaning.specs.declared.values.Block.{Block}
use Rattle.job_meaning.specs.declared.values.Byte.{Byte}
use Rattle.job_meaning.specs.declared.values.Token.TheVariants.{Base}
use Rattle.job_meaning.specs.Marked.{marked_operations}
use Rattle.job_meaning.specs.Reading.{place_at}
use Rattle.job_meaning.proofs.Fetch.{place-is}
use Rattle.loaded_modules.specs.declared.instance.Instance.{Instance}
use Rattle.thread_blocks.specs.Instances.{Loads}
use Rattle.whole_meaning.specs.declared.marks.Mark.{Mark}
use Rattle.whole_meaning.specs.declared.marks.Mark.TheVariants.{Offset, Address}
use Rattle.whole_meaning.specs.Fields.{is_minus}
use Rattle.whole_meaning.specs.Meanings.{Meaning}
use Rattle.whole_meaning.specs.Threads.{ops}
use Rattle.tied_meaning.specs.Codes.{SameCode, SameCodeByte}
use Rattle.tied_meaning.specs.Numbers.{Setting, IsMade, SameWord, alike, base_number}
use Rattle.tied_meaning.specs.Sites.{HasWord}
use Rattle.tied_meaning.specs.Ties.{HasFourBytes, IsTied}
use Rattle.tied_memory.proofs.Bytes.{digits_spell_word}
use Rattle.call_alike.proofs.Found.{is_number, of_owner}
use Rattle.call_alike.proofs.Marks.{HasField, address_mark, code_low, field_at, field_begins, mark_at, meant_code}
use Rattle.call_alike.proofs.Marks.{offset_mark, owner, owner_outside, owner_tied, real_code, real_found, same_at}
use Rattle.call_alike.proofs.Marks.{same_owner}

-- below all threads no place is past the last one
exact_place : (here k : ℕ) → here < 2 ^ 39 → k < 15 → place_at here k ≡ here + k
exact_place here zero low few = omega arith
exact_place here (suc k) low few =
    let e : place_at here (suc k) ≡ plus here (suc k) = place-is k here in e ∙ small here (suc k) low few
  where
    small : (here k : ℕ) → here < 2 ^ 39 → k < 15 → plus here k ≡ here + k
    small here k low few = omega arith

same_number : (g : Setting) (number : ℕ) → number < 2 ^ 64
    → SameWord g (ops.joined (bytes_from ops (ops.word number) 0 8)) number
unfolding marked_operations
same_number g number below =
    let small : number % 2 ^ 64 ≡ number = omega arith in
    rw small (sym (digits_spell_word number below), omega arith)

module _ (g : Setting) (m : Meaning) (thread : ℕ) (q : Loads ℕ) (live : List Instance)
    (tied : All (IsTied g m q) live) {M M' : Type 0} (acc : Accesses M Byte) (acc' : Accesses M' ℕ)
    (memory : M) (memory' : M') (shut : ℕ → Bool)
    (mine : (place : ℕ) → acc.code memory place ≡ meant_code g m thread q live tied place)
    (theirs : (place : ℕ) → acc'.code memory' place ≡ real_code g m thread q live tied place)
    (rooms : (place : ℕ) → shut place ≡ false → list_any (λ (x : Instance). m.room x place) live ≡ false)
    (words : (x : Instance) (a w : ℕ) → IsTied g m q x → find (is_number x.number) live ≡ Some x → HasWord q x a w
    → w < 2 ^ 64 → load_of plain_operations acc' memory' a 8 ≡ Ok w) where
  abbrev mark_of : ℕ → Mark
  mark_of = mark_at g m thread q live tied

  -- ** bytes that an instruction may have

  first_byte : (here : ℕ) → shut here ≡ false
      → SameCodeByte (mark_of here) (acc.code memory here) (acc'.code memory' here)
  first_byte here out =
      rw (mine here, theirs here)
      (same_at g m thread q live tied here (λ x e r.
      let clear = owner_outside g m thread q live tied here here x e (rooms here out) in absurd cc))

  low_place : (here a : ℕ) → acc.code memory here ≡ Some a → here < 2 ^ 39
  low_place here a e = code_low g m thread q live tied here a (sym (mine here) ∙ e)

  next_byte : (here k a : ℕ) → shut here ≡ false → acc.code memory here ≡ Some a → k < 15
      → SameCodeByte (mark_of (place_at here k)) (acc.code memory (place_at here k))
      (acc'.code memory' (place_at here k))
  next_byte here k a out e few =
      rw (exact_place here k (low_place here a e) few, mine (here + k), theirs (here + k))
      (same_at g m thread q live tied (here + k) (λ x f r.
      (owner_tied g m thread q live tied (here + k) x f).0.run_on here k few
      (owner_outside g m thread q live tied here (here + k) x f (rooms here out)) r))

  -- ** where fields begin

  begins_offset : (here k number byte a : ℕ) → acc.code memory here ≡ Some a → k < 15
      → mark_of (place_at here k) ≡ Offset number byte → byte ≤ k → mark_of (place_at here (k - byte)) ≡ Offset number 0
  begins_offset here k number byte a e few mark low =
      let small = low_place here a e in
      let there : mark_of (here + k) ≡ Offset number byte = ap mark_of (sym (exact_place here k small few)) ∙ mark in
      let back : place_at here (k - byte) ≡ here + k - byte =
      exact_place here (k - byte) small (omega arith) ∙ omega arith in
      ap mark_of back
      ∙ field_begins g m thread q live tied (here + k) byte (Offset number byte) (Offset number 0)
      (offset_mark number byte) (offset_mark number 0) there
      (λ x it f. (it.offset_begins (here + k) number byte f).1)

  begins_address : (here k number byte a : ℕ) (addend : ℤ) → acc.code memory here ≡ Some a → k < 15
      → mark_of (place_at here k) ≡ Address number addend byte → byte ≤ k
      → mark_of (place_at here (k - byte)) ≡ Address number addend 0
  begins_address here k number byte a addend e few mark low =
      let small = low_place here a e in
      let there : mark_of (here + k) ≡ Address number addend byte =
      ap mark_of (sym (exact_place here k small few)) ∙ mark in
      let back : place_at here (k - byte) ≡ here + k - byte =
      exact_place here (k - byte) small (omega arith) ∙ omega arith in
      ap mark_of back
      ∙ field_begins g m thread q live tied (here + k) byte (Address number addend byte) (Address number addend 0)
      (address_mark number byte addend) (address_mark number 0 addend) there
      (λ x it f. (it.address_begins (here + k) number byte addend f).1)

  -- ** what stands in fields

  get_code : (n k place : ℕ) → k < n → length (code_at acc' memory' place n) ≡ n
      → slice_get (code_at acc' memory' place n) k ≡ acc'.code memory' (place_at place k)
  get_code zero k place low long = absurd (omega arith)
  get_code (suc n) k place low long =
      of_code (acc'.code memory' place) (code_at acc' memory' (next_place place) n) k refl long
      (λ j below all. get_code n j (next_place place) below all) low
    where
      of_code : (o : Option ℕ) (rest : List ℕ) (k : ℕ) → acc'.code memory' place ≡ o
          → length (code_then o rest) ≡ suc n
          → ((j : ℕ) → j < n → length rest ≡ n
          → slice_get rest j ≡ acc'.code memory' (place_at (next_place place) j))
          → k < suc n → slice_get (code_then o rest) k ≡ acc'.code memory' (place_at place k)
      of_code None rest k e long h low = absurd (omega (arith, long))
      of_code (Some b) rest zero e long h low = sym e
      of_code (Some b) rest (suc j) e long h low = h j (omega arith) (omega (arith, long))

  -- the four bytes of a field are its instance's
  four_bytes : (place : ℕ) {mark : Mark} (f : HasField g m q live place mark)
      → length (code_at acc' memory' place 4) ≡ 4 → HasFourBytes q f.x place (code_at acc' memory' place 4)
  four_bytes place f long = record {
    long = long;
    there = λ k low.
        let owners : owner g m thread q live tied (place + k) ≡ Some f.x =
        same_owner g m thread q live tied place (place + k) (f.it.ends place k f.byte low f.there ∙ sym f.at.0)
        ∙ f.owner in
        sym (get_code 4 k place low long
        ∙ (ap (acc'.code memory') (exact_place place k f.at.1.1 (omega arith))
        ∙ (theirs (place + k)
        ∙ (real_found g m thread q live tied (place + k) ∙ ap (of_owner Run q.fixed (place + k)) owners))));
  }

  offset_there : (place number : ℕ) → mark_of place ≡ Offset number 0 → length (code_at acc' memory' place 4) ≡ 4
      → (block : Block) → IsMade g (Base block) → block.instance ≡ owner_at place
      → (block.start + number) % 2 ^ 64
      ≡ (base_number g block + field_of (code_at acc' memory' place 4)) % 2 ^ 64
  offset_there place number e long block made own =
      let f = field_at g m thread q live tied place (Offset number 0) (offset_mark number 0) e in
      f.it.offset_field place number (code_at acc' memory' place 4) f.marked (four_bytes place f long) block made
      (own ∙ f.at.0)

  address_there : (place number size : ℕ) (addend : ℤ) → mark_of place ≡ Address number addend 0
      → is_minus addend size ≡ true → length (code_at acc' memory' place 4) ≡ 4
      → (word : ℕ)
      × ((load_of plain_operations acc' memory' (plus (plus place size) (field_of (code_at acc' memory' place 4))) 8
      ≡ Ok word)
      × SameWord g (ops.joined (bytes_from ops (ops.word number) 0 8)) word)
  address_there place number size addend e minus long =
      let f = field_at g m thread q live tied place (Address number addend 0) (address_mark number 0 addend) e in
      let leads = f.it.address_field place number size addend (code_at acc' memory' place 4) f.marked
      (four_bytes place f long) minus in
      let here : find (is_number f.x.number) live ≡ Some f.x =
      ap (λ (n : ℕ). find (is_number n) live) (sym f.at.0) ∙ f.owner in (
        number,
        (
          words f.x (plus (plus place size) (field_of (code_at acc' memory' place 4))) number f.it here leads.1 leads.0,
          same_number g number leads.0,
        ),
      )

  pub code_alike : SameCode (alike g) ops plain_operations mark_of shut acc acc' memory memory'
  unfolding alike
  code_alike = record {
    first = first_byte;
    byte = next_byte;
    offset_begins = begins_offset;
    address_begins = begins_address;
    offset = λ place number e long. (refl, offset_there place number e long);
    address = address_there;
  }
