use Rattle.tls_layout.proofs.LawsOfTls.{alignment_suits}
use Rattle.tls_layout.proofs.laws.alignment_suits_all_sections.Goals as goal

pub returns : goal.returns
returns c = alignment_suits
