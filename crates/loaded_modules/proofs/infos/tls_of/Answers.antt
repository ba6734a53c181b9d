use Rattle.std.proofs.Common.{sym, subst}
use Rattle.std.specs.Option.{IfSome}
use Rattle.loaded_modules.specs.Ends.{IsTls}
use Rattle.loaded_modules.proofs.TlsKept.{tls_kept}
use Rattle.loaded_modules.proofs.infos.tls_of.Goals as goal

pub returns-clause-kept : goal.returns-clause-kept
returns-clause-kept c =
    subst (λ tls. IfSome tls IsTls) (sym c.tls.ensures) (tls_kept c.args.image.now c.image_is_spelled.ensures)
