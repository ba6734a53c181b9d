-- The setting's descriptor of a symbol is that of each sequence which names the symbol.
use Rattle.std.proofs.Common.{◌≡◌, ◌∙◌, ◌+◌, ◌<◌, ◌&&◌, ◌==◌, ◌^◌, ℕ, zero, suc, Bool, true, false, List, [], ◌∷◌}
use Rattle.std.proofs.Common.{Option, Some, None}
use Rattle.std.proofs.Common.{length, refl, sym, ap, subst, arith}
use Rattle.std.specs.Prelude.{◌%◌, is_some, option_map, if◌then◌else◌}
use Rattle.std.specs.List.{All, Contains}
use Rattle.std.proofs.lemmas.Option.{same_Some}
use Rattle.std.proofs.lemmas.Bool.Decides.{nat_tests}
use Rattle.elf_object.specs.declared.relocation.Relocation.{Relocation}
use Rattle.elf_object.specs.Lent.{symbol_name}
use Rattle.got_pairs.specs.declared.need.Need.TheVariants.{Descriptor}
use Rattle.got_pairs.specs.declared.need.Target.{Target}
use Rattle.got_pairs.specs.Entries.{less}
use Rattle.got_pairs.specs.Needs.{start_of}
use Rattle.known_instances.proofs.StartupNumbers.{known_given}
use Rattle.known_instances.specs.Known.{known_in}
use Rattle.link_faults.specs.declared.binding.Binding.TheVariants.{Startup}
use Rattle.link_needs.specs.Given.{IsGiven}
use Rattle.link_needs.specs.Linking.{Linking, binding, choice, object, sites_at}
use Rattle.link_needs.specs.Needs.{entries, entry_by, got_start, is_kept, need_address, target_by}
use Rattle.loaded_bytes.specs.Laws.{IsInstanceOf, images_of}
use Rattle.loaded_names.proofs.Defined.{definition_named}
use Rattle.loaded_names.proofs.Imports.{imports_found}
use Rattle.loaded_modules.specs.declared.instance.Instance.{Instance}
use Rattle.module_table.specs.declared.events.Event.{Event}
use Rattle.sequence_forms.specs.declared.forms.Form.{Form}
use Rattle.sequence_forms.specs.declared.forms.Form.TheVariants.{DescLea}
use Rattle.sequence_forms.specs.declared.places.Site.{Site}
use Rattle.sequence_match.specs.Sites.{first_of}
use Rattle.thread_blocks.specs.JobLoads.{job_loads}
use Rattle.thread_blocks.specs.Turns.{at_number}
use Rattle.loaded_words.specs.Laws.{IsKnown}
use Rattle.tied_fields.specs.Laws.{DescriptorsHaveOneNumber, HasItsNumber, IsDescriptorSite, is_of_descriptor}
use Rattle.whole_meaning.specs.Spots.{bias_of}
use Rattle.tied_fields.specs.Settings.{ObjectSite, distance_to, maker_of, makes, makes_of, number_by, number_for}
use Rattle.tied_fields.specs.Settings.{setting_of}
use Rattle.tied_fields.specs.Settings.{variable_at}
use Rattle.tied_fields.proofs.Addresses.{bias_low, entry_low}
use Rattle.tied_fields.proofs.Descriptors.{AreAlike, IsImported, all_alike, one_number, seen}
use Rattle.tied_fields.proofs.Makers.{maker_is, some_maker}
use Rattle.tied_fields.proofs.Needed.{descriptor_entry}
use Rattle.link_needs.proofs.Reached.{both}

makes_lea : (form : Form) → makes form ≡ true → form ≡ DescLea
makes_lea DescLea e = refl
makes_lea form e = absurd (cc)

pub each_at : {X : Type 0} (P : X → Type 0) (xs : List X) (k : ℕ) (x : X) → All P xs → at_number xs k ≡ Some x → P x
each_at P xs zero x all e = absurd (cc)
each_at P [] (suc i) x all e = absurd (cc)
each_at P (y ∷ ys) (suc zero) x all e = let same : y ≡ x = same_Some y x e in subst P same (all 0 y (omega arith))
each_at P (y ∷ ys) (suc (suc i)) x all e = each_at P ys (suc i) x (λ k d below. all (suc k) d (omega (arith, below))) e

module _ (ls : List Linking) (history : List Event) (l : Linking) (x : Instance) (known : IsKnown ls history x)
    (is : IsInstanceOf ls l x) (few : length l.objects < 2 ^ 32)
    (images : (k : ℕ) (m : Linking) → at_number ls k ≡ Some m → IsGiven m × (length m.objects < 2 ^ 32))
    (imports : (o : ℕ) (r : Relocation) (k : ℕ) → binding l o r ≡ Some (Startup k)
    → IsImported ls (symbol_name (object l o) r.symbol) k) where
  abbrev knows : ℕ → Option Instance
  knows = known_in (job_loads (images_of ls)) history

  -- of the instance's own image
  makes_is : (symbol : ℕ) → (setting_of ls history).makes_descriptor x.number symbol
      ≡ is_some (maker_of ls (known_in (job_loads (images_of ls)) history) x l symbol)
  makes_is symbol = rw (known.known, is.image) refl

  descriptor_is : (symbol : ℕ) → (setting_of ls history).descriptor x.number symbol
      ≡ number_by ls (known_in (job_loads (images_of ls)) history) x l
      (maker_of ls (known_in (job_loads (images_of ls)) history) x l symbol)
  descriptor_is symbol = rw (known.known, is.image) refl

  -- ** the sequence that makes a symbol's descriptor

  pub record TheMaker (symbol : ℕ) (m : ObjectSite) : Type 0 where
    pub there : m.object < length l.objects
    pub own : Contains (sites_at l m.object) m.site
    pub form : m.site.form ≡ DescLea
    pub symbol_is : (variable_at ls (known_in (job_loads (images_of ls)) history) x l m.object m.site).symbol ≡ symbol

  the_maker : (symbol : ℕ) (m : ObjectSite)
      → maker_of ls (known_in (job_loads (images_of ls)) history) x l symbol ≡ Some m → TheMaker symbol m
  unfolding maker_of
  the_maker symbol m e =
      let is_maker = maker_is ls (known_in (job_loads (images_of ls)) history) x l symbol 0 l.sites m e in
      let object_is : is_maker.index ≡ m.object = (let n = is_maker.number in omega (arith, n)) in
      let tests = both (makes m.site.form) _ is_maker.passes in
      record {
        there = (let each = is.given.each in let below = is_maker.below in omega (arith, each, below, object_is));
        own = subst (λ (n : ℕ). Contains (sites_at l n) m.site) object_is is_maker.among;
        form = makes_lea m.site.form tests.0;
        symbol_is =
            same (variable_at ls (known_in
            (job_loads (images_of ls)) history) x l m.object m.site).symbol symbol tests.1;
      }
    where
      same : (a b : ℕ) → (a == b) ≡ true → a ≡ b
      same a b h = grind (arith, nat_tests)

  -- its number is one of 64 bits
  made_low : (symbol : ℕ) (m : ObjectSite) → TheMaker symbol m
      → number_for ls (known_in (job_loads (images_of ls)) history) x l m.object m.site < 2 ^ 64
  made_low symbol m is_maker =
      of_kept (is_kept (choice l m.object m.site)) refl
      (target_by l m.object m.site.symbol (binding l m.object (first_of m.site))) refl
    where
      wrapped : (n : ℕ) → n % 2 ^ 64 < 2 ^ 64
      wrapped n = omega arith

      of_kept : (kept : Bool) → is_kept (choice l m.object m.site) ≡ kept → (t : Option Target)
          → target_by l m.object m.site.symbol (binding l m.object (first_of m.site)) ≡ t
          → (if kept then need_address l (option_map Descriptor t) + bias_of l.kind x.number
          else distance_to ls (known_in (job_loads (images_of ls)) history) x l
          (variable_at ls (known_in (job_loads (images_of ls)) history) x l m.object m.site)) < 2 ^ 64
      of_kept true stays None e =
          let given = known_given (job_loads (images_of ls)) history known.legal x.number x known.known in
          omega (arith, given.low, given.number, bias_low l.kind x.number)
      of_kept true stays (Some t) e =
          let found = descriptor_entry l m.object m.site t is_maker.own is_maker.form stays e is.given is_maker.there in
          let word = entry_low ls history l x (Descriptor t) found.at 0x1800 known is found.starts refl in
          subst (λ (n : Option ℕ). entry_by l n + bias_of l.kind x.number < 2 ^ 64) (sym found.starts) word
      of_kept false gone t e = wrapped _

  low : (symbol : ℕ) → (setting_of ls history).descriptor x.number symbol < 2 ^ 64
  low symbol =
      subst (λ n. n < 2 ^ 64) (sym (descriptor_is symbol))
      (of_maker (maker_of ls (known_in (job_loads (images_of ls)) history) x l symbol) refl)
    where
      of_maker : (found : Option ObjectSite)
          → maker_of ls (known_in (job_loads (images_of ls)) history) x l symbol ≡ found
          → number_by ls (known_in (job_loads (images_of ls)) history) x l found < 2 ^ 64
      of_maker None e = omega arith
      of_maker (Some m) e = made_low symbol m (the_maker symbol m e)

  -- ** each sequence that names the symbol

  module _ (o : ℕ) (site : Site) (at : IsDescriptorSite l o site) where
    abbrev symbol : ℕ
    symbol = (variable_at ls (known_in (job_loads (images_of ls)) history) x l o site).symbol

    made : makes site.form ≡ true → (setting_of ls history).makes_descriptor x.number symbol ≡ true
    unfolding maker_of
    made e =
        let zero_plus : 0 + o ≡ o = omega arith in
        let same : (symbol == symbol) ≡ true = equal symbol in
        let passes : makes_of ls (known_in (job_loads (images_of ls)) history) x l symbol o site ≡ true = rw e same in
        makes_is symbol
        ∙ some_maker ls (known_in (job_loads (images_of ls)) history) x l symbol 0 l.sites o site
        (let each = is.given.each in let there = at.there in omega (arith, each, there)) at.own
        (ap (λ (n : ℕ). makes_of ls (known_in (job_loads (images_of ls)) history) x l symbol n site) zero_plus ∙ passes)
      where
        equal : (n : ℕ) → (n == n) ≡ true
        equal n = grind (arith, nat_tests)

    -- the sequence that makes it names the same variable, and is kept where this one is
    pub record HasMaker : Type 0 where
      pub m : ObjectSite
      pub is_maker : TheMaker symbol m
      pub alike : AreAlike ls (known_in (job_loads (images_of ls)) history) x l is.given few is.image images imports
          m.object o m.site site
      pub number_is : (setting_of ls history).descriptor x.number symbol
          ≡ number_for ls (known_in (job_loads (images_of ls)) history) x l o site

    has_maker : (setting_of ls history).makes_descriptor x.number symbol ≡ true → HasMaker
    has_maker e =
        of_maker (maker_of ls (known_in (job_loads (images_of ls)) history) x l symbol) refl (sym (makes_is symbol) ∙ e)
      where
        of_maker : (found : Option ObjectSite)
            → maker_of ls (known_in (job_loads (images_of ls)) history) x l symbol ≡ found → is_some found ≡ true
            → HasMaker
        of_maker None h some = absurd (cc)
        of_maker (Some m) h some =
            let is_maker = the_maker symbol m h in
            let form : is_of_descriptor m.site.form ≡ true = ap is_of_descriptor is_maker.form in
            let alike = all_alike ls
            (known_in (job_loads (images_of ls)) history) x l is.given few is.image images imports
            m.object o m.site site is_maker.symbol_is
            (seen ls (known_in (job_loads
            (images_of ls)) history) x l is.given few is.image images imports m.object m.site
            is_maker.there is_maker.own form)
            (seen ls (known_in (job_loads
            (images_of ls)) history) x l is.given few is.image images imports o site at.there
            at.own at.form) in
            record {
              m = m;
              is_maker = is_maker;
              alike = alike;
              number_is =
                  descriptor_is symbol
                  ∙ ap (number_by ls (known_in (job_loads (images_of ls)) history) x l) h
                  ∙ one_number ls (known_in (job_loads (images_of ls)) history) x l is.given few is.image images imports
                  m.object o m.site site alike;
            }

    kept_number : (t : Target) (at : ℕ) → is_kept (choice l o site) ≡ true
        → target_by l o site.symbol (binding l o (first_of site)) ≡ Some t
        → start_of (entries l) (Descriptor t) ≡ Some at
        → number_for ls (known_in (job_loads (images_of ls)) history) x l o site
        ≡ got_start l + at + bias_of l.kind x.number
    kept_number t at stays names starts = rw (stays, names, starts) refl

    kept : (setting_of ls history).makes_descriptor x.number symbol ≡ true → is_kept (choice l o site) ≡ true
        → (t : Target) → target_by l o site.symbol (binding l o (first_of site)) ≡ Some t
        → (at : ℕ) × (start_of (entries l) (Descriptor t) ≡ Some at)
        × ((setting_of ls history).descriptor x.number symbol ≡ got_start l + at + bias_of l.kind x.number)
    kept e stays t names =
        let h = has_maker e in
        let found = descriptor_entry l h.m.object h.m.site t h.is_maker.own h.is_maker.form (h.alike.kept_is ∙ stays)
        (h.alike.target ∙ names) is.given h.is_maker.there in (
          found.at,
          found.starts,
          h.number_is ∙ kept_number t found.at stays names found.starts,
        )

    written : (setting_of ls history).makes_descriptor x.number symbol ≡ true → is_kept (choice l o site) ≡ false
        → (y : Instance) (below : ℕ)
        → (setting_of ls history).known (variable_at ls (known_in (job_loads (images_of ls)) history) x l o site).target
        ≡ Some y
        → y.offset ≡ Some below
        → (setting_of ls history).descriptor x.number symbol
        ≡ less (variable_at ls (known_in (job_loads (images_of ls)) history) x l o site).offset below
    written e gone y below target begins =
        let h = has_maker e in
        h.number_is ∙ rw (gone, target, begins) refl

    pub its_number : HasItsNumber (setting_of ls history) ls l x o site
        (variable_at ls (known_in (job_loads (images_of ls)) history) x l o site)
    its_number = record { made = made; low = low symbol; kept = kept; written = written }

-- the law
pub one_for_all : DescriptorsHaveOneNumber
one_for_all ls history l x o site together late few known is at =
    its_number ls history l x known is (few_at x.image l is.image) images imports o site at
  where
    few_at : (k : ℕ) (m : Linking) → at_number ls k ≡ Some m → length m.objects < 2 ^ 32
    few_at k m e = each_at (λ (l : Linking). length l.objects < 2 ^ 32) ls k m few e

    images : (k : ℕ) (m : Linking) → at_number ls k ≡ Some m → IsGiven m × (length m.objects < 2 ^ 32)
    images k m e = (each_at IsGiven ls k m together.given e, few_at k m e)

    imports : (p : ℕ) (r : Relocation) (k : ℕ) → binding l p r ≡ Some (Startup k)
        → IsImported ls (symbol_name (object l p) r.symbol) k
    imports p r k e =
        let found = imports_found ls l x.image p k r together late is.image e in
        record {
          image = found.image;
          at = found.at;
          found = found.found;
          defined = found.defined;
          named = definition_named found.image.objects (symbol_name (object l p) r.symbol) found.found found.defined;
        }
