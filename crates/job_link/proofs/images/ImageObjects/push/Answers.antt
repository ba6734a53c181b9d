use Rattle.std.proofs.Common.{◌≡◌, ◌∷◌, ◌++◌, [], List, ℕ, rules, sym, subst}
use Rattle.std.specs.Global.{Vec}
use Rattle.sequence_forms.specs.declared.places.Site.{Site}
use Rattle.job_link.specs.Given.{IsGivenImage}
use Rattle.job_link.proofs.Pushed.{given, pushed}
use Rattle.job_link.proofs.images.ImageObjects.push.Goals as goal

pub invariant_of-self-2 : goal.invariant_of-self-2
invariant_of-self-2 c =
    let objects : c.push.new.self.items ≡ c.self.inside.objects.items ++ c.args.read.object ∷ [] = search rules in
    let sites : c.push-2.new.self.items ≡ c.self.inside.sites.items ++ c.args.read.sites ∷ [] = search rules in
    let all = pushed c.self.inside.kind c.self.inside.objects.items c.self.inside.sites.items c.args.read.object c.args.read.sites
    c.self.invariant c.requires.sound c.requires.sites in
    subst (λ (xs : List (List ℕ)). IsGivenImage (given c.self.inside.kind xs c.push-2.new.self.items)) (sym objects)
    (subst (λ (ys : List (Vec Site)).
    IsGivenImage (given c.self.inside.kind (c.self.inside.objects.items ++ c.args.read.object ∷ []) ys))
    (sym sites) all)

pub returns-clause-given : goal.returns-clause-given
returns-clause-given c =
    let objects : c.push.new.self.items ≡ c.self.inside.objects.items ++ c.args.read.object ∷ [] = search rules in
    let sites : c.push-2.new.self.items ≡ c.self.inside.sites.items ++ c.args.read.sites ∷ [] = search rules in
    let all = pushed c.self.inside.kind c.self.inside.objects.items c.self.inside.sites.items c.args.read.object c.args.read.sites
    c.self.invariant c.requires.sound c.requires.sites in
    subst (λ (xs : List (List ℕ)). IsGivenImage (given c.self.inside.kind xs c.push-2.new.self.items)) (sym objects)
    (subst (λ (ys : List (Vec Site)).
    IsGivenImage (given c.self.inside.kind (c.self.inside.objects.items ++ c.args.read.object ∷ []) ys))
    (sym sites) all)
