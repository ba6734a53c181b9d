use Rattle.std.proofs.Common.{◌∙◌, List, ℕ, Option, Some, ap, length, subst, Bor, Vec, Global}
use Rattle.std.specs.List.{AllZip}
use Rattle.ports.specs.Files.{Files, IsFile}
use Rattle.ports.proofs.Yielded.{same_length}
use Rattle.job_link.specs.Mentions.{AreFilesOf}
use Rattle.job_link.specs.Walks.{files_in}
use Rattle.job_link.proofs.Held.{held, if_some}
use Rattle.job_link.proofs.fetching.fetch_objects.Goals as goal

pub invariant_of-result : goal.invariant_of-result
invariant_of-result g c =
    same_length (λ (n : Bor (List ℕ)) (file : Vec ℕ Global). IsFile (g.S.Store.files c.args.store.now) n.now file.items)
    c.as_slice.result.now c.in-Ok-fetch_each.files.items c.in-Ok-fetch_each.ensures.bytes
    ∙ ap length c.as_slice.ensures.keys

pub returns-in-Ok-fetch_each-clause-bytes : goal.returns-in-Ok-fetch_each-clause-bytes
returns-in-Ok-fetch_each-clause-bytes g c =
    let files = c.in-Ok-fetch_each.files.items in
    if_some _ (g.S.Store.files c.args.store.now) (λ fs e.
    let all = subst (λ (told : Option Files).
    AllZip (λ (n : Bor (List ℕ)) (file : Vec ℕ Global). IsFile told n.now file.items) c.as_slice.result.now files) e
    c.in-Ok-fetch_each.ensures.bytes in
    subst (λ ns. AreFilesOf fs ns (files_in c.in-Ok.names.keys files)) c.in-Ok.ensures
    (held fs c.in-Ok.names.keys files
    (subst (λ (ks : List (Bor (List ℕ))). AllZip (λ n file. IsFile (Some fs) n.now file.items) ks files)
    c.as_slice.ensures.keys all)))
