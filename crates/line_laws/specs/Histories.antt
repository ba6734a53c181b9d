-- The rule of histories: which images are live, and which opens and closes are refused, by counting events. It watches
-- `open_refusal`, `close_refusal` and the walk (module_table, Past), which keeps a record of each image.
use Rattle.std.specs.Prelude.{◌≡◌, ◌↔◌, ◌⊎◌, ◌+◌, ◌*◌, ◌<◌, ◌≤◌, ℕ, suc, true, false, not, List, length, take, count_by}
use Rattle.std.specs.Prelude.{slice_get, Option, Some, None}
use Rattle.job_text.specs.Numbering.{at_number}
use Rattle.module_table.specs.declared.modules.ImageInfo.{ImageInfo}
use Rattle.module_table.specs.declared.events.Event.{Event}
use Rattle.module_table.specs.declared.events.CloseRefusal.{CloseRefusal}
use Rattle.module_table.specs.declared.events.CloseRefusal.TheVariants.{Permanent, NotOpen}
use Rattle.module_table.specs.declared.events.CloseRefusal.TheVariants.{OutOfMemory as NoRoomToClose}
use Rattle.module_table.specs.declared.events.OpenRefusal.{OpenRefusal}
use Rattle.module_table.specs.declared.events.OpenRefusal.TheVariants.{Unknown, Full, StaticFull}
use Rattle.module_table.specs.declared.events.OpenRefusal.TheVariants.{OutOfMemory as NoRoomToOpen}
use Rattle.module_table.specs.Past.{IsLegal}
use Rattle.module_table.specs.Laws.{closes_of, opens_of}
use Rattle.module_table.specs.Past.{close_refusal, open_refusal, past}

-- the images are numbered from 1
module _ (infos : List ImageInfo) where
  -- ** images

  -- it starts with the program
  abbrev pub Starts : ℕ → Type 0
  Starts image = (info : ImageInfo) × ((at_number infos image ≡ Some info) × (info.late ≡ false))

  -- it comes late, by an open
  abbrev pub ComesLate : ℕ → Type 0
  ComesLate image = (info : ImageInfo) × ((at_number infos image ≡ Some info) × (info.late ≡ true))

  -- its blocks lie at a fixed distance below the thread pointer (gABI, "Dynamic Section": DF_STATIC_TLS)
  abbrev pub IsStatic : ℕ → Type 0
  IsStatic image = (info : ImageInfo) × ((at_number infos image ≡ Some info) × (info.statics ≡ true))

  -- ** after some events

  -- an image is live if it starts with the program, or has more opens than closes
  abbrev pub IsLive : List Event → ℕ → Type 0
  IsLive events image = Starts image ⊎ (closes_of image events < opens_of image events)

  abbrev pub IsGone : List Event → ℕ → Type 0
  IsGone events image = IsLive events image → ⊥

  -- an open of an image that is not live loads it
  abbrev pub Loads : List Event → Event → Type 0
  Loads before event = (event.opens ≡ true) × IsGone before event.image

  -- the distance below the thread pointer at which the image's next block begins, if blocks reach so far: the least
  -- multiple of its alignment that leaves room for the block (Drepper, "ELF Handling For Thread-Local Storage",
  -- version 0.21, section 3, variant II)
  pub record IsNextBlock (image reach place : ℕ) : Type 0 where
    pub info : ImageInfo
    pub is : at_number infos image ≡ Some info
    pub times : ℕ
    pub aligned : place ≡ times * info.align
    pub room : reach + info.size ≤ place
    pub least : (fewer : ℕ) → reach + info.size ≤ fewer * info.align → place ≤ fewer * info.align

  -- made: how many instances there were after so many of the events; reach: how far below the thread pointer blocks
  -- reach then
  pub record IsAccount (last_offset : ℕ) (events : List Event) (made reach : ℕ → ℕ) : Type 0 where
    pub made_first : made 0 ≡ count_by (λ (info : ImageInfo). not info.late) infos
    pub reach_first : reach 0 ≡ last_offset
    pub loads : (k : ℕ) (event : Event) → slice_get events k ≡ Some event → Loads (take k events) event
        → made (suc k) ≡ made k + 1
    pub others : (k : ℕ) (event : Event) → slice_get events k ≡ Some event → (Loads (take k events) event → ⊥)
        → (made (suc k) ≡ made k) × (reach (suc k) ≡ reach k)
    pub blocks : (k : ℕ) (event : Event) → slice_get events k ≡ Some event → Loads (take k events) event
        → IsStatic event.image → IsNextBlock event.image (reach k) (reach (suc k))
    pub no_blocks : (k : ℕ) (event : Event) → slice_get events k ≡ Some event → Loads (take k events) event
        → (IsStatic event.image → ⊥) → reach (suc k) ≡ reach k

  -- ** refusals, in their order

  -- the image's next block begins further below the thread pointer than this
  abbrev pub IsBeyond : ℕ → ℕ → ℕ → Type 0
  IsBeyond image reach limit = (place : ℕ) × (IsNextBlock image reach place × (limit < place))

  abbrev pub IsWithin : ℕ → ℕ → ℕ → Type 0
  IsWithin image reach limit = (place : ℕ) × (IsNextBlock image reach place × (place ≤ limit))

  -- made, reach: after all events. There are at most 4,095 instances, and 4,096 bytes of surplus
  abbrev pub IsOpenAnswer : ℕ → List Event → (made reach image : ℕ) → Option OpenRefusal → Type 0
  IsOpenAnswer last_offset events made reach image (Some Unknown) = ComesLate image → ⊥
  IsOpenAnswer last_offset events made reach image (Some Full) =
      ComesLate image × IsGone events image × (4095 ≤ made)
  IsOpenAnswer last_offset events made reach image (Some StaticFull) =
      ComesLate image × IsGone events image × (made < 4095) × IsStatic image
      × IsBeyond image reach (last_offset + 4096)
  IsOpenAnswer last_offset events made reach image (Some NoRoomToOpen) = ⊥
  IsOpenAnswer last_offset events made reach image None = ComesLate image
      × (IsLive events image
      ⊎ ((made < 4095) × (IsStatic image → IsWithin image reach (last_offset + 4096))))

  abbrev pub IsCloseAnswer : List Event → ℕ → Option CloseRefusal → Type 0
  IsCloseAnswer events image (Some Permanent) = Starts image
  IsCloseAnswer events image (Some NotOpen) = IsGone events image
  IsCloseAnswer events image (Some NoRoomToClose) = ⊥
  IsCloseAnswer events image None = ComesLate image × IsLive events image

-- ** the laws

-- each legal history has an account
abbrev pub HistoriesHaveAccounts : Type 0
HistoriesHaveAccounts = (infos : List ImageInfo) (last_offset : ℕ) (events : List Event)
    → IsLegal infos last_offset events
    → (made : ℕ → ℕ) × ((reach : ℕ → ℕ) × IsAccount infos last_offset events made reach)

-- an open is refused exactly where the rule says, and so is a close
abbrev pub OpensAreRuled : Type 0
OpensAreRuled = (infos : List ImageInfo) (last_offset : ℕ) (events : List Event) (made reach : ℕ → ℕ) (image : ℕ)
    → IsLegal infos last_offset events → IsAccount infos last_offset events made reach
    → (answer : Option OpenRefusal)
    → (open_refusal (past infos last_offset events) image ≡ answer)
    ↔ IsOpenAnswer infos last_offset events (made (length events)) (reach (length events)) image answer

abbrev pub ClosesAreRuled : Type 0
ClosesAreRuled = (infos : List ImageInfo) (last_offset : ℕ) (events : List Event) (image : ℕ)
    → IsLegal infos last_offset events → (answer : Option CloseRefusal)
    → (close_refusal (past infos last_offset events) image ≡ answer) ↔ IsCloseAnswer infos events image answer
