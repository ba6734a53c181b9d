-- What is made of one image: the file that is put, or the lines of its sites.
use Rattle.std.proofs.Common.{◌≡◌, ◌∙◌, ◌+◌, ◌<◌, ℕ, zero, suc, List, All, [], ◌∷◌, get_or, length, map, refl, sym, ap}
use Rattle.std.proofs.Common.{subst, arith}
use Rattle.std.specs.Prelude.{IfOk, Option, Result, Ok, Err}
use Rattle.std.specs.Option.{option_map_or}
use Rattle.std.proofs.lemmas.List.{length-map}
use Rattle.command_replies.specs.declared.fault.CommandFault.{CommandFault}
use Rattle.command_replies.specs.Steps.{Comes}
use Rattle.dynamic_symbols.specs.Laws.{SitesHaveSymbols}
use Rattle.image_file.specs.Spelled.{spelled}
use Rattle.image_writer.specs.Written.{written}
use Rattle.job_link.specs.Given.{Given, IsGivenImage}
use Rattle.job_link.specs.Linked.{link_in}
use Rattle.job_text.specs.declared.images.Image.{Image}
use Rattle.job_text.specs.Jobs.{JobParts}
use Rattle.link_core.specs.Images.{image_of}
use Rattle.link_needs.specs.Linking.{Linking, choice, choices_from}
use Rattle.ports.specs.Files.{Files, with_file}
use Rattle.relax_sites.specs.declared.choices.Choice.{Choice}
use Rattle.sequence_forms.specs.declared.places.Site.{Site}
use Rattle.standing_sequences.specs.Images.{HoldsTheTable}
use Rattle.commands.specs.InOrder.{AreLinked}
use Rattle.commands.specs.Jobs.{objects_of}
use Rattle.commands.specs.Links.{AreLines, HaveLines, IsPut, OfLink, Output, linked_text, lines_of}
use Rattle.commands.proofs.Places.{both_at, mapped_at, some_at}
use Rattle.commands.proofs.Ready.{count, count_linked}
use Rattle.commands.proofs.Saying.{Text, comes_by, items}

-- ** one image

module _ (ls : List Linking) (place : ℕ) (l : Linking) (below : place < length ls) (l_is : l ≡ get_or ls place l) where
  pub its : (P : Linking → Type 0) → All P ls → P l
  its P all = subst P (sym l_is) (all place l below)

  pub says_at : (O : Output) (r : Result Text CommandFault) → Comes items (O l) r → Comes items (OfLink place O ls) r
  says_at O r = comes_by (O l) (OfLink place O ls) r
      (λ status text says. record { link = l; there = some_at ls place l below l_is; says = says })

-- ** its file

pub is_put : (before after : Option Files) (image out : List ℕ) (l : Linking) (file text : List ℕ)
    → file ≡ written (image_of l) → after ≡ with_file out file before
    → text ≡ linked_text image (length file) → HoldsTheTable l (image_of l)
    → spelled (written (image_of l)) ≡ image_of l → IsPut before after image out l 0 text
is_put before after image out l file text file_is after_is text_is holds again = record {
  files_are = after_is ∙ ap (λ b. with_file out b before) file_is;
  holds = subst (HoldsTheTable l) (sym again) holds;
  says = (refl, text_is ∙ ap (λ (b : List ℕ). linked_text image (length b)) file_is);
}

-- ** lines

choices_all : (l : Linking) (s : ℕ) (sites : List (List Site)) → length (choices_from l s sites) ≡ length sites
choices_all l s [] = refl
choices_all l s (own ∷ more) = let rest : length (choices_from l (s + 1) more) ≡ length more =
    choices_all l (s + 1) more in omega arith

choices_each : (l : Linking) (s : ℕ) (sites : List (List Site)) (o : ℕ)
    → length (get_or (choices_from l s sites) o []) ≡ length (get_or sites o [])
choices_each l s [] o = refl
choices_each l s (own ∷ more) zero = length-map own (choice l s)
choices_each l s (own ∷ more) (suc o) = choices_each l (s + 1) more o

module _ (have : SitesHaveSymbols) (job : JobParts) (images : List Given) (ls : List Linking)
    (are : AreLinked job images ls) (place : ℕ) (below : place < length job.images)
    (g : Given) (g_is : g ≡ get_or images place g) (image : Image) (image_is : image ≡ get_or job.images place image)
    (l : Linking) (l_is : l ≡ get_or ls place l)
    (names : List (List ℕ)) (names_are : names ≡ image.objects) (choices : List (List Choice))
    (choices_are : choices ≡ choices_from l 0 l.sites) where
  inside : place < length images
  inside = omega (arith, count job images ls are)

  given : IsGivenImage g
  given = subst IsGivenImage (sym g_is) (are.given.given place g inside)

  link_is : l ≡ link_in images are.relax g
  link_is = mapped_at (link_in images are.relax) images place g l inside g_is
      (l_is ∙ ap (λ all. get_or all place l) are.links_are)

  sites_are : l.sites ≡ g.sites
  unfolding link_in
  sites_are = ap (λ (own : Linking). own.sites) link_is

  objects_are : l.objects ≡ g.objects
  unfolding link_in
  objects_are = ap (λ (own : Linking). own.objects) link_is

  all_named : length image.objects ≡ length g.objects
  all_named =
      let same = both_at (λ (h : Given). h.objects)
      (λ (i : Image). map are.bytes i.objects) images job.images place g image are.given.objects inside below g_is image_is in
      sym (length-map image.objects are.bytes) ∙ sym (ap length same)

  pub have_lines : HaveLines names g choices
  have_lines = record {
    all_named = ap length names_are ∙ all_named;
    all_sites = given.each;
    all_choices = ap length choices_are ∙ choices_all l 0 l.sites ∙ ap length sites_are ∙ given.each;
    each = λ o. ap (λ v. length (get_or v o [])) choices_are ∙ choices_each l 0 l.sites o
        ∙ ap (λ v. length (get_or v o [])) sites_are;
    symbols = λ o h. have (get_or g.objects o []) (get_or g.sites o []) ((given.sound o [] h).object) (given.own o h);
  }

  are_lines_of : (lines : List ℕ) → lines ≡ lines_of names g.objects g.sites choices
      → OfLink place (AreLines (objects_of job place)) ls 0 lines
  are_lines_of lines e =
      let named : names ≡ objects_of job place =
      names_are ∙ sym (ap (λ o. option_map_or (λ (i : Image). i.objects) o [])
      (some_at job.images place image below image_is)) in
      let linked : length ls ≡ length job.images = count_linked job images ls are in
      record {
        link = l;
        there = some_at ls place l (omega (arith, linked, below)) l_is;
        says = (
          refl,
          e ∙ ap (λ ns. lines_of ns g.objects g.sites choices) named
              ∙ ap (λ os. lines_of (objects_of job place) os g.sites choices) (sym objects_are)
              ∙ ap (λ ss. lines_of (objects_of job place) l.objects ss choices) (sym sites_are)
              ∙ ap (lines_of (objects_of job place) l.objects l.sites) choices_are,
        );
      }

  pub are_lines : {V E : Type 0} (items : V → List ℕ) (result : Result V E)
      → IfOk result (λ lines. items lines ≡ lines_of names g.objects g.sites choices)
      → IfOk result (λ lines. OfLink place (AreLines (objects_of job place)) ls 0 (items lines))
  are_lines items (Ok lines) e = are_lines_of (items lines) e
  are_lines items (Err none) e = tt
