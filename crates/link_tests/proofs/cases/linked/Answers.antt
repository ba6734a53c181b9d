use Rattle.link_tests.proofs.cases.linked.Goals as goal

pub link-requires-clause-sites : goal.link-requires-clause-sites
link-requires-clause-sites g c κs within o below = rw c.as_slice.ensures.value (c.in_ok-sites.ensures.sites o below)

pub link-requires-clause-stray : goal.link-requires-clause-stray
link-requires-clause-stray g c κs within = c.in_ok-sites.ensures.stray
