-- The code of an image in place of a sequence of the meaning, in the machine's terms: instructions, and words that can
-- be read. Nothing here depends on how a linker chose or laid them.
use Rattle.std.specs.Prelude.{◌≡◌, ◌≤◌, ◌<◌, ◌+◌, ◌*◌, ◌%◌, ◌^◌, ◌&&◌, ◌==◌, ◌⊎◌, ℕ, true, false, List, [], ◌∷◌, Some}
use Rattle.std.specs.Prelude.{slice_get}
use Rattle.std.specs.List.{list_any}
use Rattle.address_map.specs.Map.{descriptor_place, getter_place, pointer_of}
use Rattle.amd64_subset.specs.declared.instr.Decoded.{Decoded}
use Rattle.amd64_subset.specs.declared.instr.Operation.TheVariants.{Jump}
use Rattle.amd64_subset.specs.declared.instr.Target.TheVariants.{Indirect}
use Rattle.amd64_subset.specs.declared.operand.Operand.TheVariants.{InMemory}
use Rattle.amd64_subset.specs.Decoding.{decoded}
use Rattle.amd64_subset.specs.Register.{register_of}
use Rattle.guest_arithmetic.specs.Values.{digit}
use Rattle.guest_operands.specs.declared.space.Access.TheVariants.{Read, Run}
use Rattle.guest_machine.specs.Ranges.{byte_in}
use Rattle.guest_machine.specs.Use.{plus}
use Rattle.loaded_modules.specs.declared.instance.Instance.{Instance}
use Rattle.module_table.specs.Past.{startup_count}
use Rattle.relax_sites.specs.declared.choices.Choice.{Choice}
use Rattle.relax_sites.specs.declared.choices.Choice.TheVariants.{GdLe, GdIe, LdLe, IeLe, DescLe, DescIe}
use Rattle.relax_sites.specs.Rows.{form_length}
use Rattle.sequence_forms.specs.declared.forms.Form.{Form}
use Rattle.sequence_forms.specs.declared.forms.Form.TheVariants.{Gd, Ld, IeMov, IeAdd, GdInd, LdInd, DescLea, DescCall}
use Rattle.sequence_laws.specs.Instructions.{displaced, kept_instructions, new_instructions, of_next}
use Rattle.thread_blocks.specs.Instances.{Loads, block_start}
use Rattle.thread_blocks.specs.RunTime.{has_words}
use Rattle.whole_meaning.specs.declared.sequences.Sequence.{Sequence}
use Rattle.whole_meaning.specs.Sequences.{variable_distance}
use Rattle.tied_meaning.specs.Numbers.{Setting}

-- q: what is loaded of the linked images; x: an instance
module _ (q : Loads ℕ) (x : Instance) where
  -- ** what is loaded at an address of the instance

  -- an instruction: the bytes from the address on begin with a spelling of it
  pub record HasInstruction (place : ℕ) (d : Decoded) : Type 0 where
    pub bytes : List ℕ
    pub read : decoded bytes ≡ Some d
    pub there : (k : ℕ) → k < d.len → byte_in Run (q.fixed x) (place + k) ≡ slice_get bytes k

  -- instructions, one after another
  abbrev pub HasCode : ℕ → List Decoded → Type 0
  HasCode place [] = Unit {0}
  HasCode place (d ∷ more) = HasInstruction place d × HasCode (place + d.len) more

  -- a word of eight bytes, the lowest first
  abbrev pub HasWord : ℕ → ℕ → Type 0
  HasWord address word = (k : ℕ) → k < 8 → byte_in Read (q.fixed x) (address + k) ≡ Some (digit word k)

  -- ** the run time's arguments

  -- the module id of the instance that a sequence asks for: a startup instance's id is its number; any other one is
  -- the code's own instance, and has the id that its load gave it
  abbrev pub IsIdFor : Sequence → ℕ → Type 0
  IsIdFor s id = ((0 < s.target) × ((s.target ≤ startup_count q.infos) × (id ≡ s.target)))
      ⊎ ((s.target ≡ x.number) × ((id ≡ x.id) × (startup_count q.infos < x.number)))

  -- two words of a table of the instance, a module id and an offset: the argument of `__tls_get_addr`
  pub record HasPair (s : Sequence) (address : ℕ) : Type 0 where
    pub table : list_any (has_words address) (q.tables x) ≡ true
    pub id : ℕ
    pub names : IsIdFor s id
    pub low : id < 2 ^ 64
    pub first : HasWord address id
    pub second : HasWord (address + 8) (s.offset % 2 ^ 64)

  -- two words of a table of the instance: the address of the run time's function for descriptors, and both numbers in
  -- one word
  pub record HasDescriptor (s : Sequence) (address : ℕ) : Type 0 where
    pub table : list_any (has_words address) (q.tables x) ≡ true
    pub id : ℕ
    pub names : IsIdFor s id
    pub small : (id < 2 ^ 32) × (s.offset < 2 ^ 32)
    pub first : HasWord address descriptor_place
    pub second : HasWord (address + 8) (id * 2 ^ 32 + s.offset)

-- a word is the distance of the sequence's variable from the thread pointer, for each thread. Threads have numbers up
-- to 64: from 2^24 on a thread pointer would be past 2^64
abbrev pub IsDistance : Setting → Sequence → ℕ → Type 0
IsDistance g s word = (thread : ℕ) (y : Instance) → thread ≤ 64 → g.known s.target ≡ Some y
    → word ≡ variable_distance s (block_start thread y) (pointer_of thread)

-- the size of the first of the two instructions, for a form with two
abbrev pub first_length : Form → ℕ
first_length Gd = 8
first_length GdInd = 8
first_length form = 7

-- s: the sequence at this address of the instance in the meaning
module _ (g : Setting) (q : Loads ℕ) (x : Instance) (place : ℕ) (s : Sequence) where
  -- ** kept

  -- gd, ld: lea pair(%rip), %rdi; call stub. The stub jumps through the word that holds the run time's address
  pub record CallsStub (first second : ℕ) : Type 0 where
    pub code : HasCode q x place (kept_instructions s.form 0 first second)
    pub pair : HasPair q x s (plus (place + first_length s.form) first)
    pub stub : ℕ
    pub far : ℕ
    pub goes : plus s.next second ≡ stub
    pub jumps : HasInstruction q x stub (displaced 6 2 (Jump (Indirect (InMemory of_next))) far)
    pub word : HasWord q x (plus (stub + 6) far) getter_place

  -- gd-ind, ld-ind: lea pair(%rip), %rdi; call *word(%rip)
  pub record CallsWord (first second : ℕ) : Type 0 where
    pub code : HasCode q x place (kept_instructions s.form 0 first second)
    pub pair : HasPair q x s (plus (place + first_length s.form) first)
    pub word : HasWord q x (plus s.next second) getter_place

  -- ie-mov, ie-add: mov word(%rip), %r or add word(%rip), %r
  pub record LoadsDistance (reg first word : ℕ) : Type 0 where
    pub code : HasCode q x place (kept_instructions s.form reg first 0)
    pub register : register_of reg ≡ s.register
    pub there : HasWord q x (plus s.next first) word
    pub distance : IsDistance g s word

  -- desc-lea: lea descriptor(%rip), %rax
  pub record NamesDescriptor (first : ℕ) : Type 0 where
    pub code : HasCode q x place (kept_instructions DescLea 0 first 0)
    pub made : g.makes_descriptor x.number s.symbol ≡ true
    pub number : plus s.next first ≡ g.descriptor x.number s.symbol % 2 ^ 64

  -- desc-call: call *(%rax). There is a descriptor if some sequence makes one; if none does, no step gets here
  pub record CallsDescriptor : Type 0 where
    pub code : HasCode q x place (kept_instructions DescCall 0 0 0)
    pub low : g.descriptor x.number s.symbol < 2 ^ 64
    pub descriptor : g.makes_descriptor x.number s.symbol ≡ true
        → HasDescriptor q x s (g.descriptor x.number s.symbol)

  -- a kept Local Dynamic sequence finds the block's address, so its code may not count from the thread pointer
  abbrev pub CountsFromBlock : Type 0
  CountsFromBlock = (g.counts_from_pointer && (x.number == 1)) ≡ false

  -- the compiler's own instructions, with a linker's numbers in their fields
  abbrev pub KeptAs : Form → Type 0
  KeptAs Gd = (first : ℕ) × ((second : ℕ) × CallsStub first second)
  KeptAs Ld = CountsFromBlock × ((first : ℕ) × ((second : ℕ) × CallsStub first second))
  KeptAs GdInd = (first : ℕ) × ((second : ℕ) × CallsWord first second)
  KeptAs LdInd = CountsFromBlock × ((first : ℕ) × ((second : ℕ) × CallsWord first second))
  KeptAs IeMov = (reg : ℕ) × ((first : ℕ) × ((word : ℕ) × LoadsDistance reg first word))
  KeptAs IeAdd = (reg : ℕ) × ((first : ℕ) × ((word : ℕ) × LoadsDistance reg first word))
  KeptAs DescLea = (first : ℕ) × NamesDescriptor first
  KeptAs DescCall = CallsDescriptor

  -- ** rewritten

  -- the instructions of a choice, with a register, and a number in their field. Only the program's code is rewritten,
  -- and only if the variable's instance is a startup one: no such sequence calls the run time
  pub record IsWritten (choice : Choice) (reg number : ℕ) : Type 0 where
    pub code : HasCode q x place (new_instructions s.form choice reg number)
    pub program : x.number ≡ 1
    pub early : s.target ≤ startup_count q.infos

  -- the field leads from the site's end to a word that is the variable's distance
  abbrev pub ReachesDistance : ℕ → Type 0
  ReachesDistance number = (word : ℕ) × (HasWord q x (plus s.next number) word × IsDistance g s word)

  -- a descriptor's number is the variable's distance itself, so what replaces its call does nothing
  abbrev pub DescriptorIsDistance : Type 0
  DescriptorIsDistance = g.makes_descriptor x.number s.symbol ≡ true
      → IsDistance g s (g.descriptor x.number s.symbol % 2 ^ 64)

  -- what the field of each row holds; no other row is ever written
  abbrev pub WrittenAs : Form → Choice → ℕ → ℕ → Type 0
  WrittenAs Gd GdLe reg number = IsDistance g s number
  WrittenAs GdInd GdLe reg number = IsDistance g s number
  WrittenAs Gd GdIe reg number = ReachesDistance number
  WrittenAs GdInd GdIe reg number = ReachesDistance number
  WrittenAs Ld LdLe reg number = g.counts_from_pointer ≡ true
  WrittenAs LdInd LdLe reg number = g.counts_from_pointer ≡ true
  WrittenAs IeMov IeLe reg number = (register_of reg ≡ s.register) × IsDistance g s number
  WrittenAs IeAdd IeLe reg number = (register_of reg ≡ s.register) × IsDistance g s number
  WrittenAs DescLea DescLe reg number =
      (g.makes_descriptor x.number s.symbol ≡ true) × (number ≡ g.descriptor x.number s.symbol % 2 ^ 64)
  WrittenAs DescLea DescIe reg number = (g.makes_descriptor x.number s.symbol ≡ true)
      × HasWord q x (plus s.next number) (g.descriptor x.number s.symbol % 2 ^ 64)
  WrittenAs DescCall DescLe reg number = DescriptorIsDistance
  WrittenAs DescCall DescIe reg number = DescriptorIsDistance
  WrittenAs form choice reg number = ⊥

  -- ** either

  -- a Local Dynamic sequence asks for its own instance's block, from its first byte on
  abbrev pub AsksForOwnBlock : Form → Type 0
  AsksForOwnBlock Ld = (s.target ≡ x.number) × (s.offset ≡ 0)
  AsksForOwnBlock LdInd = (s.target ≡ x.number) × (s.offset ≡ 0)
  AsksForOwnBlock form = Unit {0}

  -- the code at the address does what the sequence means
  pub record Stands : Type 0 where
    pub base : AsksForOwnBlock s.form
    pub own : s.instance ≡ x.number
    pub ends : s.next ≡ place + form_length s.form
    -- the instance that it asks for is its own, or a startup one
    pub asked : (s.target ≡ x.number) ⊎ ((0 < s.target) × (s.target ≤ startup_count q.infos))
    pub stands : KeptAs s.form
        ⊎ ((choice : Choice) × ((reg : ℕ) × ((number : ℕ)
        × (IsWritten choice reg number × WrittenAs s.form choice reg number))))
