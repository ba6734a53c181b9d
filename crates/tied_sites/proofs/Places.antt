-- The site that a sequence of an instance is, and where its bytes stand.
use Rattle.std.proofs.Common.{◌≡◌, ◌≢◌, ◌∙◌, ◌+◌, ◌-◌, ◌<◌, ◌≤◌, ◌&&◌, ◌==◌, ℕ, Bool, true, false, List, Option, Some}
use Rattle.std.proofs.Common.{None}
use Rattle.std.proofs.Common.{length, refl, sym, ap, subst, arith, if◌then◌else◌}
use Rattle.std.specs.Prelude.{nat_lt, option_and_then, option_map, unwrap_or}
use Rattle.std.specs.List.{Contains, find}
use Rattle.std.proofs.lemmas.Bool.Decides.{nat_tests}
use Rattle.std.proofs.lemmas.List.Elements.{All-contains}
use Rattle.std.proofs.lemmas.Option.{same_Some}
use Rattle.elf_object.specs.Lent.{section_class}
use Rattle.guest_machine.specs.Ranges.{byte_in}
use Rattle.guest_operands.specs.declared.space.Access.TheVariants.{Run}
use Rattle.link_needs.proofs.UsableSites.{usable}
use Rattle.link_needs.specs.Linking.{Linking, layout, object, sites_at}
use Rattle.link_needs.specs.Plans.{IsUsable}
use Rattle.loaded_bytes.proofs.Still.{code_loaded}
use Rattle.loaded_bytes.proofs.Finds.{found_is}
use Rattle.loaded_bytes.proofs.Sections.{sections_stand}
use Rattle.loaded_bytes.proofs.Spots.{standing}
use Rattle.loaded_bytes.specs.Bytes.{loaded_byte}
use Rattle.loaded_bytes.specs.Laws.{IsInstanceOf, images_of}
use Rattle.loaded_bytes.specs.Sections.{IsSectionAt}
use Rattle.loaded_modules.specs.declared.instance.Instance.{Instance}
use Rattle.object_faults.specs.declared.class.SectionClass.TheVariants.{Executable, Tls}
use Rattle.sequence_forms.specs.declared.places.Site.{Site}
use Rattle.sequence_match.specs.Faults.{IsSite}
use Rattle.thread_blocks.specs.JobLoads.{job_loads}
use Rattle.tls_layout.proofs.LawsOfPlaces.{have_addresses}
use Rattle.tls_layout.proofs.LawsOfSections.{finds_sections}
use Rattle.tls_layout.specs.Places.{address_of}
use Rattle.whole_meaning.specs.Code.{no_variable, sequence_in, sequence_of, sequence_with, starts_at, variable_for}
use Rattle.whole_meaning.specs.declared.sequences.Sequence.{Sequence}
use Rattle.whole_meaning.specs.Spots.{Spot, begin_of, bias_of, spot_in}
use Rattle.link_core.proofs.GotRelocationsSites.{has_value}

-- a site of object o of the image, whose section begins at the address, stands at the place of an instance that is so
-- far moved
pub record IsHere (l : Linking) (bias o address : ℕ) (site : Site) (place : ℕ) : Type 0 where
  pub at : IsSectionAt l Executable o site.section address
  pub own : Contains (sites_at l o) site
  pub place_is : place ≡ address + site.start + bias

-- the sequence is what such a site means
pub record IsOf (ls : List Linking) (l : Linking) (x : Instance) (place : ℕ) (s : Sequence) : Type 0 where
  pub o : ℕ
  pub address : ℕ
  pub site : Site
  pub here : IsHere l (bias_of l.kind x.number) o address site place
  pub is : s ≡ sequence_with ls x.image x.number place site
      (unwrap_or (variable_for ls x.image x.number l o site site.form) no_variable)

-- a section of code has an address
code_section : (l : Linking) (o t : ℕ) → o < length l.objects → section_class (object l o) t ≡ Some Executable
    → IsSectionAt l Executable o t (begin_of (layout l) o t)
code_section l o t there class =
    let found = finds_sections l.kind l.objects o t there in
    let other : Executable ≢ Tls false = λ e. cc in
    let has = has_value (address_of (layout l) o t) (have_addresses (layout l) o t Executable (found.class_is
    ∙ class) other) in
    record {
      there = there;
      class_is = class;
      address_is = has.1 ∙ ap (λ a. Some (unwrap_or a 0)) (sym has.1);
    }

not_below : (a b : ℕ) → nat_lt a b ≡ false → b ≤ a
not_below a b e = grind (arith, nat_tests)

starts : (a b c d : ℕ) → ((a == b) && (c == d)) ≡ true → (a ≡ b) × (c ≡ d)
starts a b c d e = grind (arith, nat_tests)

pub site_of : (ls : List Linking) (l : Linking) (x : Instance) (place : ℕ) (s : Sequence)
    → sequence_of ls x.image x.number l place ≡ Some s → IsOf ls l x place s
unfolding sequence_of
site_of ls l x place s e = of_moved (nat_lt place (bias_of l.kind x.number)) refl e
  where
    of_site : bias_of l.kind x.number ≤ place → (spot : Spot)
        → spot_in l Executable (place - bias_of l.kind x.number) ≡ Some spot
        → (found : Option Site) → find (starts_at spot.section spot.within) (sites_at l spot.object) ≡ found
        → option_map (λ site. sequence_with ls x.image x.number place site
        (unwrap_or (variable_for ls x.image x.number l spot.object site site.form) no_variable)) found ≡ Some s
        → IsOf ls l x place s
    of_site low spot at None e h = absurd (cc)
    of_site low spot at (Some site) e h =
        let f = found_is (starts_at spot.section spot.within) (sites_at l spot.object) site e in
        let same = starts site.section spot.section site.start spot.within f.passes in
        let section : site.section ≡ spot.section = same.0 in
        let there = standing l Executable (place - bias_of l.kind x.number) spot at in
        let code : IsSectionAt l Executable spot.object spot.section (begin_of (layout l) spot.object spot.section) =
        code_section l spot.object spot.section there.there there.class_is in
        record {
          o = spot.object;
          address = begin_of (layout l) spot.object spot.section;
          site = site;
          here = record {
            at = subst (λ t. IsSectionAt l Executable spot.object t (begin_of (layout l) spot.object spot.section))
                (sym section) code;
            own = f.among;
            place_is = omega (arith, same.1, there.within_is, there.from, low);
          };
          is = sym (same_Some _ s h);
        }

    of_spot : bias_of l.kind x.number ≤ place → (found : Option Spot)
        → spot_in l Executable (place - bias_of l.kind x.number) ≡ found
        → option_and_then (sequence_in ls x.image x.number l place) found ≡ Some s → IsOf ls l x place s
    of_spot low None e h = absurd (cc)
    of_spot low (Some spot) e h =
        of_site low spot e (find (starts_at spot.section spot.within) (sites_at l spot.object)) refl h

    of_moved : (t : Bool) → nat_lt place (bias_of l.kind x.number) ≡ t
        → option_and_then (sequence_in ls x.image x.number l place)
        (if t then None else spot_in l Executable (place - bias_of l.kind x.number)) ≡ Some s → IsOf ls l x place s
    of_moved true e h = absurd (cc)
    of_moved false e h =
        of_spot (not_below place (bias_of l.kind x.number) e) (spot_in l Executable
        (place - bias_of l.kind x.number)) refl h

-- ** its bytes

module _ (ls : List Linking) (l : Linking) (x : Instance) (is : IsInstanceOf ls l x) (o address : ℕ) (site : Site)
    (place : ℕ) (here : IsHere l (bias_of l.kind x.number) o address site place) where
  pub usable_here : IsUsable (object l o) site
  usable_here =
      All-contains (IsUsable (object l o)) (sites_at l o) site (usable l o is.given here.at.there) here.own

  pub site_here : IsSite (object l o) site
  site_here =
      All-contains (IsSite (object l o)) (sites_at l o) site (is.given.are_sites o here.at.there).only here.own

  -- byte k of it
  pub byte_here : (k : ℕ) → k < site.len → byte_in Run ((job_loads (images_of ls)).fixed x) (place + k)
      ≡ Some (loaded_byte l (bias_of l.kind x.number) o site.section (site.start + k))
  byte_here k below =
      let bias = bias_of l.kind x.number in
      let inside = usable_here.inside in
      let stands = sections_stand l bias Executable o site.section address (site.start + k) is.given is.links tt here.at
      (omega (arith, inside, below)) in
      let at : place + k ≡ address + (site.start + k) + bias = omega (arith, here.place_is) in
      ap (byte_in Run ((job_loads (images_of ls)).fixed x)) at
      ∙ code_loaded ls l x (address + (site.start + k)) is stands.0
      ∙ ap Some stands.1
