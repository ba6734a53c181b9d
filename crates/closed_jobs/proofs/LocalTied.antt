-- The program with local dynamic code and a descriptor, rewritten and kept: all that is loaded of it is tied to all
-- that is meant. Its job has no events.
use Rattle.std.proofs.Common.{◌≡◌, ◌∙◌, ◌+◌, ◌-◌, ◌<◌, ◌≤◌, ◌%◌, ◌^◌, ◌==◌, ℕ, Bool, true, false, List, [], ◌∷◌, All}
use Rattle.std.proofs.Common.{Some, None, length, refl, sym, ap, subst, inl, inr, arith}
use Rattle.std.specs.Prelude.{map, nat_lt}
use Rattle.std.specs.List.{list_all}
use Rattle.std.proofs.lemmas.Bool.{and_parts, cases_Bool, eqb-true, ltb-true}
use Rattle.std.proofs.lemmas.List.Elements.{All-cons, All-nil}
use Rattle.amd64_subset.specs.Spelling.{field_of}
use Rattle.guest_machine.specs.Follow.{All2}
use Rattle.job_meaning.specs.declared.values.Block.{Block}
use Rattle.job_meaning.specs.declared.values.Byte.TheVariants.{Value}
use Rattle.job_meaning.specs.declared.values.Token.TheVariants.{Base}
use Rattle.loaded_modules.specs.declared.instance.Instance.{Instance}
use Rattle.module_table.specs.declared.events.Event.{Event}
use Rattle.module_table.specs.Past.{startup_count}
use Rattle.thread_blocks.specs.Instances.{Loads, instances, instances_in, instance_with_id, is_startup_id}
use Rattle.thread_blocks.specs.Instances.{numbered_instance}
use Rattle.thread_blocks.specs.Turns.{IsFront}
use Rattle.tied_meaning.specs.Numbers.{Setting, IsMade, SameByte, base_number}
use Rattle.tied_meaning.specs.Sites.{Stands}
use Rattle.tied_meaning.specs.Ties.{AreTied, HasFourBytes, IsTied}
use Rattle.whole_meaning.specs.declared.marks.Mark.TheVariants.{Offset}
use Rattle.whole_meaning.specs.declared.sequences.Sequence.{Sequence}
use Rattle.whole_meaning.specs.Loads.{meaning_of}
use Rattle.whole_meaning.specs.Meanings.{Meaning}
use Rattle.closed_jobs.specs.Laws.{LocalJobIsTied}
use Rattle.closed_jobs.specs.LocalCode.{links}
use Rattle.closed_jobs.specs.LocalSites.{app, setting, base, lea, call}
use Rattle.closed_jobs.proofs.LocalLoads.{loads_is, m, meaning_is, q}
use Rattle.closed_jobs.proofs.LocalMarks as marks
use Rattle.closed_jobs.proofs.LocalNames.{function, variable}
use Rattle.closed_jobs.proofs.LocalPlaces as places
use Rattle.closed_jobs.proofs.LocalSites.{ties}

-- ** its blocks

abbrev bytes : List ℕ
bytes = 7 ∷ 0 ∷ 0 ∷ 0 ∷ 5 ∷ 0 ∷ 0 ∷ 0 ∷ []

block_is : (relax : Bool) → (q relax).block app ≡ bytes
unfolding q
block_is true = refl
block_is false = refl

meant_block_is : (relax : Bool) → (m relax).loads.block app ≡ map Value bytes
unfolding m
meant_block_is true = refl
meant_block_is false = refl

values_alike : (g : Setting) (ns : List ℕ) → list_all (λ n. nat_lt n 256) ns ≡ true
    → All2 (SameByte g) (map Value ns) ns
values_alike g [] e = tt
values_alike g (n ∷ ns) e =
    let all = and_parts (nat_lt n 256) (list_all (λ n. nat_lt n 256) ns) e in
    ((refl, ltb-true n 256 all.0), values_alike g ns all.1)

block_alike : (relax : Bool) → All2 (SameByte (setting relax)) ((m relax).loads.block app) ((q relax).block app)
block_alike relax = rw (meant_block_is relax, block_is relax) (values_alike (setting relax) bytes refl)

-- ** its fields and sequences

offset_begins : (relax : Bool) (place number byte : ℕ) → (m relax).mark app place ≡ Offset number byte
    → (byte ≤ place) × ((m relax).mark app (place - byte) ≡ Offset number 0)
offset_begins relax place number byte e =
    let at = marks.offset_there relax place number byte e in
    let first : place - byte ≡ 0x40000e = omega (arith, at.1) in
    (omega (arith, at.1), ap ((m relax).mark app) first ∙ ((ties relax).field.meant ∙ ap (λ n. Offset n 0) (sym at.0)))

offset_field : (relax : Bool) (place number : ℕ) (four : List ℕ) → (m relax).mark app place ≡ Offset number 0
    → HasFourBytes (q relax) app place four → (block : Block) → IsMade (setting relax) (Base block)
    → block.instance ≡ app.number
    → (block.start + number) % 2 ^ 64 ≡ (base_number (setting relax) block + field_of four) % 2 ^ 64
offset_field relax place number four e there block made own =
    let at = marks.offset_there relax place number 0 e in
    let here : place ≡ 0x40000e = at.1 in
    let is : HasFourBytes (q relax) app 0x40000e four = subst (λ p. HasFourBytes (q relax) app p four) here there in
    rw at.0 ((ties relax).field.moves four is block made own)

meant_at : (relax : Bool) (place : ℕ) (s t : Sequence) → (m relax).sequence app place ≡ Some s
    → (m relax).sequence app place ≡ Some t → Stands (setting relax) (q relax) app place t
    → Stands (setting relax) (q relax) app place s
meant_at relax place s t e f stands =
    let both : Some s ≡ Some t = sym e ∙ f in
    let same : t ≡ s = cc in
    subst (λ s. Stands (setting relax) (q relax) app place s) same stands

sites : (relax : Bool) (place : ℕ) (s : Sequence) → (m relax).sequence app place ≡ Some s
    → Stands (setting relax) (q relax) app place s
sites relax place s e = at_place (marks.sequence_places relax place s e)
  where
    Found : ℕ → Type 0
    Found place = (m relax).sequence app place ≡ Some s → Stands (setting relax) (q relax) app place s

    at_place : marks.BeginsThere place → Stands (setting relax) (q relax) app place s
    at_place (inl here) =
        subst Found (sym here)
        (λ e. meant_at relax 0x400000 s base e (ties relax).base.meant (ties relax).base.stands) e
    at_place (inr (inl here)) =
        subst Found (sym here)
        (λ e. meant_at relax 0x400013 s lea e (ties relax).lea.meant (ties relax).lea.stands) e
    at_place (inr (inr here)) =
        subst Found (sym here)
        (λ e. meant_at relax 0x40001a s call e (ties relax).call.meant (ties relax).call.stands) e

-- ** the instance

block_fits : (relax : Bool) → length ((q relax).block app) ≡ 8
block_fits relax = ap length (block_is relax)

instance_tied : (relax : Bool) → IsTied (setting relax) (m relax) (q relax) app
instance_tied relax = record {
  known = refl;
  number = (omega arith, omega arith);
  offset = omega arith;
  fits = (omega (arith, block_fits relax), omega (arith, block_fits relax));
  function = function relax;
  reads = marks.reads relax;
  meant_still = places.meant_still relax;
  still = places.still relax;
  block = block_alike relax;
  shared = rw (places.no_data_meant relax, places.no_data relax) tt;
  there = places.there relax;
  meant_there = places.meant_there relax;
  rooms = places.rooms relax;
  tables = places.tables relax;
  data_there = rw (places.no_data relax) tt;
  code = marks.code relax;
  run_on = places.run_on relax;
  no_code = marks.room_unmarked relax;
  ends = places.ends relax;
  offset_begins = offset_begins relax;
  address_begins = λ place number byte addend e. absurd (marks.no_address relax place number byte addend e);
  offset_field = offset_field relax;
  address_field = λ place number size addend four e there is. absurd (marks.no_address relax place number 0 addend e);
  sites = sites relax;
}

-- ** all that is loaded: the program alone, at all times

live : (relax : Bool) → instances (q relax) [] ≡ app ∷ []
unfolding q instances_in
live true = refl
live false = refl

-- a front of no events is none
none_seen : (seen : List Event) → IsFront seen [] → seen ≡ []
none_seen [] front = refl
none_seen (event ∷ seen) front = let e = front.1 in absurd cc

found_alone : (relax : Bool) (n : ℕ) (x : Instance) → numbered_instance (q relax) [] n ≡ Some x → (n ≡ 1) × (x ≡ app)
found_alone relax n x e = elim (cases_Bool (1 == n)) [
  | inl one ↦
      let found : Some app ≡ Some x = rw (live relax, one) at e in
      let same : x ≡ app = cc in
      (sym (eqb-true 1 n one), same)
  | inr other ↦ let none : None ≡ Some x = rw (live relax, other) at e in absurd cc
]

each : (relax : Bool) (seen : List Event) → IsFront seen []
    → All (IsTied (setting relax) (m relax) (q relax)) (instances (q relax) seen)
each relax seen front =
    let P : Instance → Type 0 = IsTied (setting relax) (m relax) (q relax) in
    rw (none_seen seen front, live relax) (All-cons P app [] (instance_tied relax) (All-nil P))

only_known : (relax : Bool) (number : ℕ) (x : Instance) → (setting relax).known number ≡ Some x
    → (number ≡ 1) × (x ≡ app)
only_known relax number x e = elim (cases_Bool (number == 1)) [
  | inl one ↦
      let known : Some app ≡ Some x = rw one at e in
      let same : x ≡ app = cc in
      (eqb-true number 1 one, same)
  | inr other ↦ let none : None ≡ Some x = rw other at e in absurd cc
]

known : (relax : Bool) (number : ℕ) (x : Instance) → (setting relax).known number ≡ Some x
    → IsTied (setting relax) (m relax) (q relax) x × (x.number ≡ number)
known relax number x e =
    let is = only_known relax number x e in (
      subst (λ (y : Instance). IsTied (setting relax) (m relax) (q relax) y) (sym is.1) (instance_tied relax),
      ap (λ (y : Instance). y.number) is.1 ∙ sym is.0,
    )

-- ** ids

found_seen : (relax : Bool) (seen : List Event) (x : Instance) → IsFront seen []
    → numbered_instance (q relax) seen x.number ≡ Some x → (x.number ≡ 1) × (x ≡ app)
found_seen relax seen x front e = found_alone relax x.number x
    (subst (λ (events : List Event). numbered_instance (q relax) events x.number ≡ Some x) (none_seen seen front) e)

app_by_id : (relax : Bool) → instance_with_id (q relax) [] 1 ≡ Some app
app_by_id relax = rw (live relax) refl

app_by_number : (relax : Bool) → numbered_instance (q relax) [] 1 ≡ Some app
app_by_number relax = rw (live relax) refl

ids : (relax : Bool) (seen : List Event) (x : Instance) → IsFront seen []
    → numbered_instance (q relax) seen x.number ≡ Some x → instance_with_id (q relax) seen x.id ≡ Some x
ids relax seen x front e =
    subst (λ (events : List Event). instance_with_id (q relax) events x.id ≡ Some x) (sym (none_seen seen front))
    (subst (λ (y : Instance). instance_with_id (q relax) [] y.id ≡ Some y) (sym (found_seen relax seen x front e).1)
    (app_by_id relax))

one_started : (relax : Bool) → startup_count (q relax).infos ≡ 1
unfolding q
one_started true = refl
one_started false = refl

startup : (relax : Bool) (seen : List Event) (number : ℕ) → IsFront seen [] → 0 < number
    → number ≤ startup_count (q relax).infos
    → (x : Instance) × ((numbered_instance (q relax) seen number ≡ Some x) × (x.id ≡ number))
startup relax seen number front some few =
    let is : number ≡ 1 = omega (arith, some, few, one_started relax) in
    (app, (rw (none_seen seen front, is) (app_by_number relax), sym is))

late_ids : (relax : Bool) (seen : List Event) (x : Instance) → IsFront seen []
    → numbered_instance (q relax) seen x.number ≡ Some x → startup_count (q relax).infos < x.number
    → is_startup_id (q relax) x.id ≡ false
late_ids relax seen x front e late =
    absurd (omega (arith, late, one_started relax, (found_seen relax seen x front e).0))

-- ** the job

infos : (relax : Bool) → (q relax).infos ≡ (m relax).loads.infos
unfolding m q
infos true = refl
infos false = refl

last : (relax : Bool) → (q relax).last_offset ≡ (m relax).loads.last_offset
unfolding m q
last true = refl
last false = refl

all_tied : (relax : Bool) → AreTied (setting relax) (m relax) (q relax) []
all_tied relax = record {
  infos = infos relax;
  last = last relax;
  variable = variable relax;
  each = each relax;
  known = known relax;
  ids = ids relax;
  startup = startup relax;
  late_ids = late_ids relax;
}

pub job_tied : LocalJobIsTied
job_tied relax = subst (λ (q : Loads ℕ). AreTied (setting relax) (meaning_of (links relax)) q []) (loads_is relax)
    (subst (λ (m : Meaning). AreTied (setting relax) m (q relax) []) (meaning_is relax) (all_tied relax))
