use Rattle.tls_symbols.specs.Faults.{is_faulty}
use Rattle.tls_symbols.proofs.Among.{charged}
use Rattle.tls_symbols.proofs.bindings.first_charged.Goals as goal

pub returns : goal.returns
returns c =
    let objects = c.args.names.now.objects.now in
    charged (is_faulty c.args.kind objects c.args.names.now.startup.now) objects c.first_use.result c.first_use.ensures
