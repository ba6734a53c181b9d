use Rattle.std.proofs.Common.{◌≡◌, ◌∙◌, Ok, Some, ap, length, subst, sym, take}
use Rattle.std.specs.List.{AllZip}
use Rattle.std.proofs.lemmas.List.{length_push}
use Rattle.ports.specs.Claims.{Brings, IsFileOf, IsRead}
use Rattle.ports.specs.ClaimLaws.{Settles}
use Rattle.ports.specs.Files.{IsFile}
use Rattle.ports.proofs.Claimed.{beside, one_more, was_read}
use Rattle.ports.proofs.Settled.{not_due, settles_more}
use Rattle.ports.proofs.Yielded.{next_of}
use Rattle.ports.proofs.settling.settle_each.Goals as goal

pub count-requires : goal.count-requires
count-requires g c =
    let told = g.C.Counts.files c.args.store.now in
    let next = next_of (λ a b. IsRead told b × (a ≡ b)) c.args.claims.items c.into_iter-claim-iterator.result
    c.loop-claim.claim-iterator c.next.new.self c.loop-claim.yielded c.in-Some.claim c.in-Some.claim
    (rw c.into_iter-claim-iterator.ensures.into_iter_gives.0 (beside (IsRead told) c.args.claims.items c.requires.read))
    c.loop-claim.yielded_by c.in-Some.ensures.steps.0 in
    record {
      file = rw (c.loop-claim.invariant.files_are, c.name-name.ensures)
          (was_read told c.in-Some.claim c.in-Some-came.read (sym c.came.ensures ∙ c.in-Some-came.is) next.1.0);
    }

pub loop-claim-preserved : goal.loop-claim-preserved
loop-claim-preserved g c =
    let told = g.C.Counts.files c.args.store.now in
    let next = next_of (λ a b. IsRead told b × (a ≡ b)) c.args.claims.items c.into_iter-claim-iterator.result
    c.loop-claim.claim-iterator c.next.new.self c.loop-claim.yielded c.in-Some.claim c.in-Some.claim
    (rw c.into_iter-claim-iterator.ensures.into_iter_gives.0 (beside (IsRead told) c.args.claims.items c.requires.read))
    c.loop-claim.yielded_by c.in-Some.ensures.steps.0 in
    let came : IsFile told c.in-Some.claim.name.now c.in-Ok.file.items =
    rw (sym c.loop-claim.invariant.files_are, sym c.name-name.ensures) c.in-Ok.ensures.bytes in
    let brings : c.in-Some.claim.came ≡ Some (Ok c.in-Ok.file) =
    sym c.came.ensures ∙ c.in-Some-came.is
    ∙ ap Some (sym (c.in-Ok.ensures.given (not_due _ c.in-Ok.file c.in-Ok.ensures.fails))) in
    record {
      files_are = c.count.ensures.files ∙ c.loop-claim.invariant.files_are;
      faults_are = c.in-Ok.ensures.cause ∙ c.loop-claim.invariant.faults_are;
      came =
          subst (λ n. AllZip (IsFileOf told) (take n c.args.claims.items) c.push.new.self.items)
          (sym (length_push c.loop-claim.yielded c.in-Some.claim))
          (one_more (IsFileOf told) c.args.claims.items c.loop-claim.files.items c.push.new.self.items
          (length c.loop-claim.yielded) c.in-Some.claim c.in-Ok.file next.0
          (subst (λ claim. IsFile told claim.name.now c.in-Ok.file.items) (sym next.1.1) came)
          c.in_default-push.ensures.items c.loop-claim.invariant.came);
      brought =
          subst (λ n. AllZip Brings (take n c.args.claims.items) c.push.new.self.items)
          (sym (length_push c.loop-claim.yielded c.in-Some.claim))
          (one_more Brings c.args.claims.items c.loop-claim.files.items c.push.new.self.items
          (length c.loop-claim.yielded) c.in-Some.claim c.in-Ok.file next.0
          (ap (λ claim. claim.came) next.1.1 ∙ brings) c.in_default-push.ensures.items c.loop-claim.invariant.brought);
      all = λ now ended rest. c.loop-claim.invariant.all now ended
          (subst (λ claims. Settles (g.C.Counts.due c.loop-claim.store) now claims ended)
          (sym c.in-Some.ensures.steps.0)
          (settles_more _ _ now c.in-Some.claim _ c.in-Ok.file ended brings
          (not_due _ c.in-Ok.file c.in-Ok.ensures.fails) c.count.ensures.call rest));
    }
