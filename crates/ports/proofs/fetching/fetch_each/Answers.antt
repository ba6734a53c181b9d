use Rattle.std.proofs.Common.{◌∙◌, arith, ap, length, subst}
use Rattle.std.specs.List.{AllZip}
use Rattle.rayon.proofs.ListFacts.{IfOk-then}
use Rattle.ports.specs.Claims.{IsFileOf, fewer}
use Rattle.ports.specs.Files.{IsFile}
use Rattle.ports.proofs.Claimed.{all_fresh, as_many_claims, asks_for_all, files_of_names, out_again, written}
use Rattle.ports.proofs.fetching.fetch_each.Goals as goal

pub read_each-requires-clause-fresh : goal.read_each-requires-clause-fresh
read_each-requires-clause-fresh g c κs within =
    rw c.as_mut_slice.ensures.value (all_fresh c.args.names.now c.in-Ok.claims.items c.in-Ok.ensures.claims)

pub returns-clause-asked : goal.returns-clause-asked
returns-clause-asked g c = asks_for_all _ _ _ c.settle.result (c.settle.ensures.asked ∙ c.in-Ok.ensures.asked)

pub returns-clause-out : goal.returns-clause-out
returns-clause-out g c =
    let all = written c.in-Ok.claims.len c.read_each.new.claims c.in-Ok.claims.items
    (omega (arith, c.read_each.ensures.len, c.as_mut_slice.ensures.len, c.in-Ok.claims.ok))
    (omega (arith, c.in-Ok.claims.ok)) in
    c.settle.ensures.out ∙ ap (fewer _) c.in-Ok.ensures.out
    ∙ out_again _ _ _ (ap length all ∙ omega (
      arith,
      c.read_each.ensures.len,
      ap length c.as_mut_slice.ensures.value,
      as_many_claims c.args.names.now c.in-Ok.claims.items c.in-Ok.ensures.claims,
    ))

pub returns-clause-bytes : goal.returns-clause-bytes
returns-clause-bytes g c =
    let all = written c.in-Ok.claims.len c.read_each.new.claims c.in-Ok.claims.items
    (omega (arith, c.read_each.ensures.len, c.as_mut_slice.ensures.len, c.in-Ok.claims.ok))
    (omega (arith, c.in-Ok.claims.ok)) in
    IfOk-then c.settle.result _ _ c.settle.ensures.bytes (λ files came.
    subst (λ told. AllZip (λ name file. IsFile told name.now file.items) c.args.names.now files.items) c.in-Ok.ensures.files
    (files_of_names _ c.args.names.now c.as_mut_slice.result.now c.read_each.new.claims files.items
    (rw c.as_mut_slice.ensures.value c.in-Ok.ensures.claims) c.read_each.ensures.len c.read_each.ensures.each
    (subst (λ claims. AllZip (IsFileOf (g.S.Store.files c.claim.new.self)) claims files.items) all came)))
