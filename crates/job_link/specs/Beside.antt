-- The link of an image, given the exports of startup images.
use Rattle.std.specs.Prelude.{ℕ, Bool, List}
use Rattle.link_needs.specs.Linking.{Linking}
use Rattle.job_link.specs.Given.{Given}

-- the link of an image, if the startup images export these names
unfoldable pub link_beside : List (List (List ℕ)) → Bool → Given → Linking
link_beside startup relax g = record {
  kind = g.kind;
  objects = g.objects;
  startup = startup;
  sites = g.sites;
  relax = relax;
}
