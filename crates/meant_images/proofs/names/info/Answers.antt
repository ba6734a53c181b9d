use Rattle.meant_images.proofs.Powers.{power_high, power_low}
use Rattle.meant_images.proofs.names.info.Goals as goal

pub returns-clause-kept : goal.returns-clause-kept
returns-clause-kept c = record {
  small = c.tls_size.ensures.small;
  aligned = power_low c.tls_alignment.result c.tls_alignment.ensures.power;
  page = power_high c.tls_alignment.result c.tls_alignment.ensures.power;
}
