use Rattle.std.proofs.Common.{◌≡◌, subst}
use Rattle.std.specs.Prelude.{IfErr, IfOk, OnOk}
use Rattle.link_needs.specs.Linking.{Linking}
use Rattle.link_tables.specs.Faults.{IsLinkFault, Links}
use Rattle.link_core.specs.Images.{linked_of}
use Rattle.link_core.proofs.linking.link.Goals as goal

pub returns-in-Ok-clause-linked : goal.returns-in-Ok-clause-linked
returns-in-Ok-clause-linked g c =
    subst (λ (l : Linking). IfOk c.written.result (λ linked. linked ≡ linked_of l)) c.in-Ok.ensures.ready
    c.written.ensures.linked

pub returns-in-Ok-clause-links : goal.returns-in-Ok-clause-links
returns-in-Ok-clause-links g c =
    subst (λ (l : Linking). OnOk c.written.result (Links l)) c.in-Ok.ensures.ready c.written.ensures.links

pub returns-in-Ok-clause-fault : goal.returns-in-Ok-clause-fault
returns-in-Ok-clause-fault g c =
    subst (λ (l : Linking). IfErr c.written.result (IsLinkFault l)) c.in-Ok.ensures.ready c.written.ensures.fault
