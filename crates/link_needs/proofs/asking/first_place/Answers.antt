use Rattle.tls_symbols.proofs.Among.{charged}
use Rattle.link_needs.specs.RefusalLaws.{test_of}
use Rattle.link_needs.proofs.asking.first_place.Goals as goal

pub returns : goal.returns
returns c = charged (test_of c.args.charge.now) c.args.objects.now c.first_use.result c.first_use.ensures
