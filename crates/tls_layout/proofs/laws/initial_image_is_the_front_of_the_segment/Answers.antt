use Rattle.tls_layout.proofs.LawsOfTls.{front_of_segment}
use Rattle.tls_layout.proofs.laws.initial_image_is_the_front_of_the_segment.Goals as goal

pub returns : goal.returns
returns c = front_of_segment
