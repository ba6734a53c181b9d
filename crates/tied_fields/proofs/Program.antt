-- Which instance is the program's: that of number 1.
use Rattle.std.proofs.Common.{◌≡◌, ◌∙◌, ◌<◌, ◌≤◌, ◌+◌, ◌^◌, ℕ, false, List, [], ◌∷◌, map, Option, Some, refl, sym, ap}
use Rattle.std.proofs.Common.{subst, arith}
use Rattle.std.specs.Prelude.{IfSome, cond, get_or, not}
use Rattle.std.proofs.lemmas.List.Sums.{sum_by-cons}
use Rattle.std.proofs.lemmas.Option.{same_Some}
use Rattle.known_instances.proofs.Known.{known_live}
use Rattle.known_instances.proofs.Placed.{placed_in}
use Rattle.known_instances.proofs.StartupNumbers.{known_given}
use Rattle.link_faults.specs.declared.image_kind.ImageKind.{ImageKind}
use Rattle.link_faults.specs.declared.image_kind.ImageKind.TheVariants.{Exe, Pie, Start, Late}
use Rattle.link_faults.specs.ImageKinds.{is_module}
use Rattle.link_needs.specs.Linking.{Linking, block_offset}
use Rattle.loaded_bytes.specs.Laws.{IsInstanceOf, images_of}
use Rattle.loaded_modules.specs.declared.instance.Instance.{Instance}
use Rattle.loaded_modules.specs.Images.{is_late}
use Rattle.loaded_names.proofs.Infos.{infos_loaded}
use Rattle.loaded_words.proofs.Placed.{placed}
use Rattle.loaded_words.specs.Laws.{IsKnown, IsPlaced}
use Rattle.job_text.specs.ProgramFirst.{ProgramFirst}
use Rattle.module_table.specs.declared.events.Event.{Event}
use Rattle.module_table.specs.declared.modules.ImageInfo.{ImageInfo}
use Rattle.module_table.specs.Modules.{no_module}
use Rattle.module_table.specs.Past.{startup_count}
use Rattle.thread_blocks.specs.JobLoads.{job_loads}
use Rattle.thread_blocks.specs.Turns.{at_number}
use Rattle.whole_meaning.specs.Loads.{info_of}

-- a program starts with the job
early : (kind : ImageKind) → is_module kind ≡ false → is_late kind ≡ false
early Exe e = refl
early Pie e = refl
early Start e = refl
early Late e = absurd (cc)

-- so at least one image does
some_start : (ls : List Linking) → ProgramFirst (map (λ (l : Linking). l.kind) ls) → 1 ≤ startup_count (map info_of ls)
unfolding info_of
some_start [] first = absurd first
some_start (l ∷ ls) first =
    let here : startup_count (map info_of (l ∷ ls)) ≡ 1 + startup_count (map info_of ls) =
    rw (
      sum_by-cons (λ (i : ImageInfo). cond (not i.late) 1 0) (info_of l) (map info_of ls),
      early l.kind first.0,
    ) refl in
    omega (arith, here)

-- image 1 is the program
first_is : (ls : List Linking) (l : Linking) → ProgramFirst (map (λ (l : Linking). l.kind) ls) → at_number ls 1 ≡ Some l
    → is_module l.kind ≡ false
first_is [] l first e = absurd first
first_is (k ∷ ls) l first e =
    let same : k ≡ l = same_Some k l e in subst (λ (m : Linking). is_module m.kind ≡ false) same first.0

-- what is so of the program's instance alone
pub record IsProgram (l : Linking) (x : Instance) : Type 0 where
  pub image : x.image ≡ 1
  pub number : x.number ≡ 1
  pub kind : is_module l.kind ≡ false
  pub offset : x.offset ≡ Some (block_offset l)
  pub low : block_offset l < 2 ^ 28

module _ (ls : List Linking) (history : List Event) (l : Linking) (x : Instance) (known : IsKnown ls history x)
    (is : IsInstanceOf ls l x) where
  at : IsPlaced ls l x
  at = placed ls l x history known is.image

  count : 1 ≤ startup_count (job_loads (images_of ls)).infos
  count =
      subst (λ (all : List ImageInfo). 1 ≤ startup_count all) (sym (infos_loaded ls).0) (some_start ls known.program)

  low_is : (o : ℕ) → x.offset ≡ Some o → o < 2 ^ 28
  low_is o e =
      let live = known_live (job_loads (images_of ls)) history x.number x known.known in
      let placed = placed_in (job_loads (images_of ls)) history known.legal live.seen x.number x live.front live.live in
      (subst (λ (found : Option ℕ). IfSome found (λ (n : ℕ). (n < 2 ^ 28)
      × ((get_or (job_loads (images_of ls)).infos placed.index no_module.info).size ≤ n))) e placed.offset).0

  -- that of what is linked as a program
  pub linked_program : is_module l.kind ≡ false → IsProgram l x
  linked_program kind = record {
    image = sym (at.early (early l.kind kind)).0 ∙ at.number kind;
    number = at.number kind;
    kind = kind;
    offset = at.offset kind;
    low = low_is (block_offset l) (at.offset kind);
  }

  -- and the instance of number 1
  pub numbered_one : x.number ≡ 1 → IsProgram l x
  numbered_one number =
      let given = known_given (job_loads (images_of ls)) history known.legal x.number x known.known in
      let image : x.image ≡ 1 = given.image (omega (arith, number, count)) ∙ number in
      linked_program (first_is ls l known.program (ap (at_number ls) (sym image) ∙ is.image))
