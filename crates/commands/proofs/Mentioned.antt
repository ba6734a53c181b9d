-- The files that a job's images name are those that were fetched.
use Rattle.std.proofs.Common.{◌≡◌, ◌∙◌, ◌+◌, ◌-◌, ◌<◌, ◌≤◌, ℕ, Bool, true, false, not, List, [], ◌∷◌, length, map, Some}
use Rattle.std.proofs.Common.{◌⊎◌, inl, inr, refl, sym, ap, subst, arith}
use Rattle.std.specs.Prelude.{slice_get}
use Rattle.std.specs.List.{Contains}
use Rattle.std.specs.Str.{bytes_eq}
use Rattle.std.proofs.lemmas.Option.{slice_get_within}
use Rattle.std.proofs.lemmas.Slice.Eq.{bytes_eq-Decides}
use Rattle.job_link.specs.declared.writable.WritableSections.{WritableSections}
use Rattle.job_link.specs.Given.{Given, AreGiven, IsFileFault, IsTaken}
use Rattle.job_link.specs.Mentions.{AreFilesOf, Fetched, bytes_at, bytes_in, mentioned, mentions_of, object_names}
use Rattle.dynamic_symbols.specs.Names.{distinct}
use Rattle.job_text.specs.declared.images.Image.{Image}
use Rattle.job_text.specs.Jobs.{JobParts}
use Rattle.ports.specs.Files.{Files}
use Rattle.commands.specs.Jobs.{IsUnread}
use Rattle.commands.proofs.Membership.{In, in_at, at_in, in_contains, in_filter, in_filter_map, in_flat, map_same}

abbrev Name : Type 0
Name = List ℕ

same : (x y : Name) (b : Bool) → bytes_eq x y ≡ b → b ≡ true → x ≡ y
same x y b e t = (bytes_eq-Decides x y).0 (e ∙ t)

not_same : (x y : Name) → bytes_eq x y ≡ false → x ≡ y → ⊥
not_same x y e s = let t = (bytes_eq-Decides x y).1 s in cc

-- each name is among those that come once
pub in_once : (names : List Name) (x : Name) → In names x → In (distinct names) x
in_once [] x i = absurd i
in_once (n ∷ ns) x (inl e) = inl e
in_once (n ∷ ns) x (inr i) = by_test (bytes_eq n x) refl (in_once ns x i)
  where
    by_test : (b : Bool) → bytes_eq n x ≡ b → In (distinct ns) x → In (distinct (n ∷ ns)) x
    by_test true e later = inl (same n x true e refl)
    by_test false e later = inr (in_filter (λ other. not (bytes_eq n other)) (distinct ns) x later (ap not e))

-- the bytes of a fetched name
found : (fs : Files) (names : List Name) (name : Name) → In names name
    → bytes_in (map (λ n. (n, bytes_at fs n)) names) name ≡ bytes_at fs name
found fs [] name i = absurd i
found fs (n ∷ ns) name i = by_test (bytes_eq name n) refl i (found fs ns name)
  where
    by_test : (b : Bool) → bytes_eq name n ≡ b → (n ≡ name) ⊎ In ns name
        → (In ns name → bytes_in (map (λ n. (n, bytes_at fs n)) ns) name ≡ bytes_at fs name)
        → bytes_in (map (λ n. (n, bytes_at fs n)) (n ∷ ns)) name ≡ bytes_at fs name
    by_test true e i later = rw e (ap (bytes_at fs) (sym (same name n true e refl)))
    by_test false e (inl s) later = absurd (not_same name n e (sym s))
    by_test false e (inr i) later = rw e (later i)

module _ (fs : Files) (job : JobParts) (files : Fetched) (are : AreFilesOf fs (object_names job) files)
    (every : (k : ℕ) → 1 ≤ k → k ≤ length job.images → Contains job.mentions k) where
  -- by a mention
  of_mention : (name : Name) → In (mentions_of job) name → bytes_in files name ≡ bytes_at fs name
  unfolding object_names
  of_mention name i = rw are.files_are (found fs (distinct (mentions_of job)) name (in_once (mentions_of job) name i))

  is_mentioned : (k : ℕ) (image : Image) → slice_get job.images k ≡ Some image → In (mentioned job) image
  is_mentioned k image e =
      let below : k < length job.images = slice_get_within job.images k image e in
      let back : k + 1 - 1 ≡ k = omega arith in
      in_filter_map (λ (number : ℕ). slice_get job.images (number - 1)) job.mentions (k + 1) image
      (in_contains job.mentions (k + 1) (every (k + 1) (omega arith) (omega arith)))
      (ap (slice_get job.images) back ∙ e)

  of_image : (image : Image) → In job.images image
      → map (bytes_in files) image.objects ≡ map (bytes_at fs) image.objects
  unfolding mentions_of
  of_image image i = let (k, e) = at_in job.images image i in
      map_same (bytes_in files) (bytes_at fs) image.objects (λ name within. of_mention name
      (in_flat (λ (im : Image). im.objects) (mentioned job) image name (is_mentioned k image e) within))

  pub given_at : (images : List Given) → AreGiven (bytes_in files) job images → AreGiven (bytes_at fs) job images
  given_at images g = record {
    kinds = g.kinds;
    objects = g.objects ∙ map_same (λ (image : Image). map (bytes_in files) image.objects)
        (λ (image : Image). map (bytes_at fs) image.objects) job.images of_image;
    given = g.given;
  }

  pub unread_at : (w : WritableSections) (status : ℕ) (text : List ℕ) → IsUnread w (bytes_in files) job status text
      → IsUnread w (bytes_at fs) job status text
  unread_at w status text un = record {
    name = un.name;
    fault = un.fault;
    first = record {
      at = un.first.at;
      there = un.first.there;
      here = subst (λ b. IsFileFault w b un.fault)
          (of_mention un.name (in_at (mentions_of job) un.first.at un.name un.first.there)) un.first.here;
      before = λ k other h g. subst (IsTaken w) (of_mention other (in_at (mentions_of job) k other g))
          (un.first.before k other h g);
    };
    says = un.says;
  }
