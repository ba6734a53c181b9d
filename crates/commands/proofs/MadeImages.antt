-- The images of a job that is made link.
use Rattle.std.proofs.Common.{◌≡◌, ◌≤◌, ◌∙◌, ℕ, true, List, [], ◌∷◌, map, refl, arith}
use Rattle.std.specs.List.{All}
use Rattle.std.proofs.lemmas.List.Elements.{All-cons, All-nil}
use Rattle.generated_job.specs.Generated.{generated_files, module_shape}
use Rattle.generated_job.specs.Shapes.{object_bytes}
use Rattle.generated_laws.specs.Jobs.{generated_parts}
use Rattle.generated_laws.specs.Linked.{GeneratedObjectsLink, program_objects}
use Rattle.job_link.specs.Given.{Given, AreGiven, IsGivenImage}
use Rattle.job_link.specs.LinkLaws.{is_given}
use Rattle.job_link.specs.Linked.{AllLink, link_in}
use Rattle.job_link.specs.Mentions.{bytes_in}
use Rattle.link_core.specs.Faults.{Links}
use Rattle.link_faults.specs.declared.image_kind.ImageKind.TheVariants.{Exe, Late}
use Rattle.commands.proofs.MadeObjects.{late_bytes, program_mapped}

kinds_are : (n : ℕ) (images : List Given) → AreGiven (bytes_in (generated_files n)) (generated_parts n) images
    → map (λ (g : Given). g.kind) images ≡ Exe ∷ Late ∷ []
unfolding generated_parts
kinds_are n images are = are.kinds

objects_are : (n : ℕ) (images : List Given) → n ≤ 1000
    → AreGiven (bytes_in (generated_files n)) (generated_parts n) images
    → map (λ (g : Given). g.objects) images ≡ program_objects n ∷ (object_bytes module_shape ∷ []) ∷ []
unfolding generated_parts
objects_are n images few are =
    let own = program_mapped n few in
    let loaded = late_bytes n in
    are.objects ∙ (rw (own, loaded) refl)

abbrev LinksIn : List Given → Given → Type 0
LinksIn images g = Links (link_in images true g)

both_link : GeneratedObjectsLink → (n : ℕ) → 1 ≤ n → n ≤ 1000 → (images : List Given)
    → map (λ (g : Given). g.kind) images ≡ Exe ∷ Late ∷ []
    → map (λ (g : Given). g.objects) images ≡ program_objects n ∷ (object_bytes module_shape ∷ []) ∷ []
    → All IsGivenImage images → AllLink images true
unfolding link_in
both_link laws n some few [] kinds objects given = cc
both_link laws n some few (app ∷ []) kinds objects given = cc
both_link laws n some few (app ∷ plug ∷ []) kinds objects given =
    let two : List Given = app ∷ plug ∷ [] in
    let is_exe : app.kind ≡ Exe = cc in
    let is_late : plug.kind ≡ Late = cc in
    let its : app.objects ≡ program_objects n = cc in
    let own : plug.objects ≡ object_bytes module_shape ∷ [] = cc in
    All-cons (LinksIn two) app (plug ∷ [])
    (laws.program n some few (link_in two true app)
    (is_given two true app (omega arith) (given 0 app (omega arith))) refl is_exe its)
    (All-cons (LinksIn two) plug []
    (laws.late (link_in two true plug)
    (is_given two true plug (omega arith) (given 1 plug (omega arith))) refl is_late own) (All-nil (LinksIn two)))
both_link laws n some few (app ∷ plug ∷ other ∷ more) kinds objects given = cc

pub made_link : GeneratedObjectsLink → (n : ℕ) → 1 ≤ n → n ≤ 1000 → (images : List Given)
    → AreGiven (bytes_in (generated_files n)) (generated_parts n) images → AllLink images true
made_link laws n some few images are =
    both_link laws n some few images (kinds_are n images are) (objects_are n images few are) are.given
