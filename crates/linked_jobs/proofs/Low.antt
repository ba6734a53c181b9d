-- All that is loaded of linked images lies below what threads have for themselves, in the machine and in the meaning.
use Rattle.std.proofs.Common.{◌≡◌, ◌∙◌, ◌^◌, ◌≤◌, ◌==◌, ℕ, suc, Bool, true, false, List, [], ◌∷◌, length, Option, Some}
use Rattle.std.proofs.Common.{None, if◌then◌else◌, refl, sym, ap, subst, inl, inr, arith, append-nil}
use Rattle.std.specs.List.{All, find, flat_map}
use Rattle.std.proofs.lemmas.Bool.{cases_Bool}
use Rattle.guest_operands.specs.declared.space.Access.{Access}
use Rattle.guest_machine.specs.Follow.{All2}
use Rattle.guest_machine.specs.Ranges.{Range, byte_in}
use Rattle.job_meaning.specs.declared.values.Byte.{Byte}
use Rattle.loaded_modules.specs.declared.instance.Instance.{Instance}
use Rattle.link_needs.specs.Linking.{Linking}
use Rattle.loaded_bytes.specs.Laws.{images_of}
use Rattle.loaded_names.proofs.Meant.{infos_meant}
use Rattle.module_table.specs.declared.events.Event.{Event}
use Rattle.module_table.specs.declared.modules.ImageInfo.{ImageInfo}
use Rattle.module_table.specs.Past.{IsLegal}
use Rattle.module_table.specs.Past.{past}
use Rattle.thread_blocks.specs.Instances.{Loads, fixed_at, instances, instances_in}
use Rattle.thread_blocks.specs.JobLoads.{job_loads}
use Rattle.thread_blocks.specs.SpaceLaws.{SameRange}
use Rattle.thread_blocks.specs.Turns.{at_number}
use Rattle.whole_meaning.specs.Loads.{data_ranges, loads_of, meaning_of}
use Rattle.link_needs.specs.Linking.{has_writable_data}
use Rattle.whole_meaning.specs.Meanings.{Meaning}
use Rattle.whole_meaning.specs.Spots.{bias_of}
use Rattle.shared_data.specs.Places.{IsDataRange, LiesLow}
use Rattle.tied_meaning.specs.Numbers.{SameByte, Setting}
use Rattle.tied_meaning.specs.Ties.{AreTied, IsTied, SameShared}
use Rattle.tied_memory.proofs.Found.{data_place}
use Rattle.tied_memory.proofs.Ranges.{found_behind, same_holds}
use Rattle.std.specs.Option.{option_map_or}

-- ** lists

none_in : {B : Type 0} (fixed : Instance → List (Range B)) (access : Access) (place : ℕ) (live : List Instance)
    → All (λ (y : Instance). byte_in access (fixed y) place ≡ None) live
    → byte_in access (flat_map fixed live) place ≡ None
none_in fixed access place [] none = refl
none_in fixed access place (y ∷ live) none =
    let first = none 0 y (omega arith) in
    let rest = none_in fixed access place live (λ k d less. none (suc k) d (omega (arith, less))) in
    found_behind access (fixed y) (flat_map fixed live) place ∙ rw (first, rest) refl

all_found : (P : Instance → Type 0) (test : Instance → Bool) (live : List Instance) (x : Instance) → All P live
    → find test live ≡ Some x → P x
all_found P test [] x all e = cc
all_found P test (y ∷ live) x all e = elim (cases_Bool (test y)) [
  | inl t ↦
      let same : y ≡ x = (let both : Some y ≡ Some x = rw t at e in let b = both in cc) in
      subst P same (all 0 y (omega arith))
  | inr f ↦ all_found P test live x (λ k d less. all (suc k) d (omega (arith, less))) (rw f at e)
]

-- ** data on the two sides

of_machine : (g : Setting) (o : Option (Range Byte)) (o' : Option (Range ℕ)) (range' : Range ℕ) → SameShared g o o'
    → o' ≡ Some range' → (range : Range Byte) × ((o ≡ Some range) × SameRange (SameByte g) range range')
of_machine g None None range' same e = cc
of_machine g None (Some r') range' same e = absurd same
of_machine g (Some r) None range' same e = absurd same
of_machine g (Some r) (Some r') range' same e =
    let is : r' ≡ range' = let both = e in cc in (r, (refl, subst (SameRange (SameByte g) r) is same))

of_meaning : (g : Setting) (o : Option (Range Byte)) (o' : Option (Range ℕ)) (range : Range Byte) → SameShared g o o'
    → o ≡ Some range → (range' : Range ℕ) × ((o' ≡ Some range') × SameRange (SameByte g) range range')
of_meaning g None None range same e = cc
of_meaning g None (Some r') range same e = absurd same
of_meaning g (Some r) None range same e = absurd same
of_meaning g (Some r) (Some r') range same e =
    let is : r ≡ range = let both = e in cc in
    (r', (refl, subst (λ (s : Range Byte). SameRange (SameByte g) s r') is same))

both_long : {B C : Type 0} (R : B → C → Type 0) (xs : List B) (ys : List C) → All2 R xs ys → length xs ≡ length ys
both_long R [] [] all = refl
both_long R [] (y ∷ ys) all = absurd all
both_long R (x ∷ xs) [] all = absurd all
both_long R (x ∷ xs) (y ∷ ys) all = ap suc (both_long R xs ys all.1)

-- what the meaning has of data can be read and written
module _ (range : Range Byte) where
  abbrev HasRights : Type 0
  HasRights = (range.readable ≡ true) × (range.writable ≡ true)

  rights_of : (l : Linking) (bias : ℕ) → data_ranges l bias ≡ Some range → HasRights
  rights_of l bias e = of_test _ (has_writable_data l) e refl refl
    where
      of_test : (own : Range Byte) (b : Bool) → (if b then Some own else None) ≡ Some range → own.readable ≡ true
          → own.writable ≡ true → HasRights
      of_test own true e read write =
          let is : own ≡ range = let both = e in cc in
          (ap (λ (r : Range Byte). r.readable) (sym is) ∙ read, ap (λ (r : Range Byte). r.writable) (sym is) ∙ write)
      of_test own false e read write = cc

  rights_in : (number : ℕ) (image : Option Linking)
      → option_map_or (λ (own : Linking). data_ranges own (bias_of own.kind number)) image None ≡ Some range → HasRights
  rights_in number None e = cc
  rights_in number (Some l) e = rights_of l (bias_of l.kind number) e

  rights : (ls : List Linking) (x : Instance) → (meaning_of ls).loads.shared x ≡ Some range → HasRights
  unfolding meaning_of loads_of
  rights ls x e = rights_in x.number (at_number ls x.image) e

-- ** what is tied

module _ (ls : List Linking) (g : Setting) (x : Instance)
    (it : IsTied g (meaning_of ls) (job_loads (images_of ls)) x) where
  abbrev m : Meaning
  m = meaning_of ls

  abbrev q : Loads ℕ
  q = job_loads (images_of ls)

  data_of_machine : (range' : Range ℕ) → q.shared x ≡ Some range' → IsDataRange x range'
  data_of_machine range' e =
      let meant = of_machine g (m.loads.shared x) (q.shared x) range' it.shared e in
      let has = rights meant.0 ls x meant.1.0 in
      record {
        readable = meant.1.1.readable ∙ has.0;
        writable = meant.1.1.writable ∙ has.1;
        place = λ place t.
            let at = (data_place it range' range' e refl refl place t).0 in
            (at.0, at.1.1);
      }

  data_of_meaning : (range : Range Byte) → m.loads.shared x ≡ Some range → IsDataRange x range
  data_of_meaning range e =
      let loaded = of_meaning g (m.loads.shared x) (q.shared x) range it.shared e in
      let range' = loaded.0 in
      let same = loaded.1.1 in
      let has = rights range ls x e in
      record {
        readable = has.0;
        writable = has.1;
        place = λ place t.
            (data_of_machine range' loaded.1.0).place place
            (same_holds range.start range'.start (length range.bytes) (length range'.bytes) place (sym same.start)
            (both_long (SameByte g) range.bytes range'.bytes same.bytes) t);
      }

  none_high : (access : Access) (place : ℕ) → 2 ^ 39 ≤ place → byte_in access (q.fixed x) place ≡ None
  none_high access place high = by_found (byte_in access (q.fixed x) place) refl
    where
      by_found : (o : Option ℕ) → byte_in access (q.fixed x) place ≡ o → o ≡ None
      by_found None e = refl
      by_found (Some byte) e = let at = (it.there access place byte e).1.1 in absurd (omega (arith, at, high))

  none_meant : (access : Access) (place : ℕ) → 2 ^ 39 ≤ place → byte_in access (m.loads.fixed x) place ≡ None
  none_meant access place high = by_found (byte_in access (m.loads.fixed x) place) refl
    where
      by_found : (o : Option Byte) → byte_in access (m.loads.fixed x) place ≡ o → o ≡ None
      by_found None e = refl
      by_found (Some byte) e = let at = (it.meant_there access place byte e).1.1 in absurd (omega (arith, at, high))

-- ** the links of a job

-- settings: the linker's choices, by the history
module _ (ls : List Linking) (settings : List Event → Setting)
    (tied : (seen : List Event) → IsLegal (job_loads (images_of ls)).infos (job_loads (images_of ls)).last_offset seen
    → AreTied (settings seen) (meaning_of ls) (job_loads (images_of ls)) seen) where
  abbrev machine : Loads ℕ
  machine = job_loads (images_of ls)

  abbrev meant : Loads Byte
  meant = (meaning_of ls).loads

  each_tied : (seen : List Event) → IsLegal machine.infos machine.last_offset seen
      → All (IsTied (settings seen) (meaning_of ls) machine) (instances machine seen)
  each_tied seen legal = (tied seen legal).each seen ([], sym (append-nil seen))

  pub machine_low : LiesLow machine
  unfolding fixed_at
  machine_low = record {
    fixed = λ seen legal access place high.
        none_in machine.fixed access place (instances machine seen)
        (λ k d less. none_high ls (settings seen) _ (each_tied seen legal k d less) access place high);
    shared = λ seen legal x range live e.
        data_of_machine ls (settings seen) x
        (all_found (IsTied (settings seen) (meaning_of ls) machine) (λ (y : Instance). y.number == x.number)
        (instances machine seen) x (each_tied seen legal) live) range e;
  }

  -- the same infos, so the same instances
  legal_too : (seen : List Event) → IsLegal meant.infos meant.last_offset seen
      → IsLegal machine.infos machine.last_offset seen
  unfolding meaning_of
  legal_too seen legal =
      let same = infos_meant ls in
      subst (λ (infos : List ImageInfo). IsLegal infos machine.last_offset seen) (sym same.0)
      (subst (λ (last : ℕ). IsLegal meant.infos last seen) (sym same.1) legal)

  same_instances : (seen : List Event) → instances machine seen ≡ instances meant seen
  unfolding meaning_of
  same_instances seen =
      let same = infos_meant ls in
      ap (λ (infos : List ImageInfo). instances_in infos (past infos machine.last_offset seen)) same.0
      ∙ ap (λ (last : ℕ). instances_in meant.infos (past meant.infos last seen)) same.1

  pub meant_low : LiesLow meant
  unfolding fixed_at
  meant_low = record {
    fixed = λ seen legal access place high.
        subst (λ (live : List Instance). byte_in access (flat_map meant.fixed live) place ≡ None) (same_instances seen)
        (none_in meant.fixed access place (instances machine seen)
        (λ k d less. none_meant ls (settings seen) _
        (each_tied seen (legal_too seen legal) k d less) access place high));
    shared = λ seen legal x range live e.
        data_of_meaning ls (settings seen) x
        (all_found (IsTied (settings seen) (meaning_of ls) machine) (λ (y : Instance). y.number == x.number)
        (instances machine seen) x (each_tied seen (legal_too seen legal))
        (subst (λ (live : List Instance). find (λ (y : Instance). y.number == x.number) live ≡ Some x)
        (sym (same_instances seen)) live)) range e;
  }
