-- What is asked of a link.
use Rattle.std.specs.Prelude.{ℕ, List}
use Rattle.link_needs.specs.Linking.{Linking, link_of}
use Rattle.link_core.specs.declared.ready.Request.{Request}

-- the link that is asked for, beside startup images that export these names
abbrev pub link_asked : Request → List (List (List ℕ)) → Linking
link_asked asked startup = link_of asked.objects.now asked.sites.now asked.kind startup asked.relax
